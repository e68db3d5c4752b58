-- The names of the commands: this project's profile.
use Rattle.std.specs.Prelude.{ℕ, List, [], ◌∷◌, Option, codes, find}
use Rattle.std.specs.Str.{bytes_eq}
use Rattle.qn_top.specs.declared.command_name.CommandName.{CommandName}
use Rattle.qn_top.specs.declared.command_name.CommandName.TheVariants as name

-- the name as a word
abbrev pub command_word : CommandName → List ℕ
command_word name.Count = codes "count"
command_word name.Replay = codes "replay"
command_word name.Status = codes "status"
command_word name.Soak = codes "soak"
command_word name.Create = codes "create"
command_word name.Dump = codes "dump"
command_word name.List = codes "list"
command_word name.Message = codes "message"
command_word name.Node = codes "node"
command_word name.Migrate = codes "migrate"
command_word name.Replay3 = codes "replay3"
command_word name.Node3 = codes "node3"
command_word name.ReplayArbiter = codes "replay-arbiter"
command_word name.NodeLogged = codes "node-logged"
command_word name.Audit = codes "audit"
command_word name.Node3Logged = codes "node3-logged"
command_word name.Arbiter = codes "arbiter"
command_word name.Help = codes "help"

-- all of them, in the order of `help`
abbrev pub command_names : List CommandName
command_names =
    name.Count ∷ name.Replay ∷ name.Status ∷ name.Soak ∷ name.Create ∷ name.Dump ∷ name.List ∷ name.Message ∷ name.Node
    ∷ name.Migrate ∷ name.Replay3 ∷ name.Node3 ∷ name.ReplayArbiter ∷ name.NodeLogged ∷ name.Audit
    ∷ name.Node3Logged ∷ name.Arbiter ∷ name.Help ∷ []

-- the name that a word is
unfoldable pub name_of : List ℕ → Option CommandName
name_of word = find (λ name. bytes_eq (command_word name) word) command_names
