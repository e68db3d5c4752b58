-- this project's profile: who reads and writes an image, and under which condition.
use Rattle.std.specs.Prelude.{ℕ, ◌==◌, List, ◌++◌, Option, Some, None, codes, if◌then◌else◌}
use Rattle.qn_etcd.specs.declared.writers.Writer.{Writer}
use Rattle.qn_etcd.specs.declared.writers.Writer.TheVariants as writer
use Rattle.qn_etcd.specs.Keys.{sector_key, writer_key, first_key, end_key}

-- what etcd compares before it does what a transaction asks for (etcd's API, message Compare)
pub data Condition : Type 0 where
  -- nothing
  Always : Condition
  -- the value of a key is this
  Holds : List ℕ → List ℕ → Condition
  -- a key was changed last at this revision; at 0 it is not there
  ChangedAt : List ℕ → ℕ → Condition
  -- no key from this one on and before that one was ever made
  NoneFrom : List ℕ → List ℕ → Condition

-- the token of a boot: the machine, its boot and the start of the node
unfoldable pub token_text : List ℕ → List ℕ → List ℕ → List ℕ
token_text machine boot start = machine ++ codes " " ++ boot ++ codes " " ++ start

-- a boot reads while the writer's key holds its token; a command reads at any time
abbrev pub read_condition : List ℕ → Writer → Condition
read_condition prefix (writer.Boot boot) = Holds (writer_key prefix boot.rank) boot.token.items
read_condition prefix (writer.Command written) = Always

-- the first write of sector 0 by a command is done where no key of the prefix is there, so that it changes nothing of an image that is;
-- each write after it, where sector 0 is as the command itself wrote it last. A command that does not write sector 0 writes at any time.
abbrev pub command_condition : List ℕ → Option ℕ → ℕ → Condition
command_condition prefix None sector = if sector == 0 then NoneFrom (first_key prefix) (end_key prefix) else Always
command_condition prefix (Some revision) sector = ChangedAt (sector_key prefix 0) revision

-- a boot writes while the writer's key holds its token
abbrev pub write_condition : List ℕ → Writer → ℕ → Condition
write_condition prefix (writer.Boot boot) sector = Holds (writer_key prefix boot.rank) boot.token.items
write_condition prefix (writer.Command written) sector = command_condition prefix written sector

-- what a writer knows after a write of a sector that was done at a revision
abbrev pub writer_after : Writer → ℕ → ℕ → Writer
writer_after (writer.Boot boot) sector revision = writer.Boot boot
writer_after (writer.Command written) sector revision = writer.Command (if sector == 0 then Some revision else written)
