-- What a client of a member of an etcd cluster did over a line, by what was written to the line and what was still to be read of it, before and after.
use Rattle.std.specs.Prelude.{◌≡◌, ℕ, ◌++◌, Bool, true, false, List, Option, Some, None, length, replicate}
use Rattle.std.specs.Io.KnownBytes.{Appends}
use Rattle.qn_etcd.specs.Answers.{ReadSays, Refused, Absent, Present, read_says, said_by, write_says}
use Rattle.qn_etcd.specs.Keys.{sector_key, writer_key}
use Rattle.qn_etcd.specs.Requests.{holder_text, open_text, post_text, read_text, release_text, write_text}
use Rattle.qn_etcd.specs.Writers.{writer_after}
use Rattle.qn_etcd.specs.declared.answers.ReadAnswer.{ReadAnswer}
use Rattle.qn_etcd.specs.declared.writers.Boot.{Boot}
use Rattle.qn_etcd.specs.declared.writers.Writer.{Writer}
use Rattle.qn_etcd.specs.declared.writers.Writer.TheVariants as writer
use Rattle.qn_exchange.specs.Exchanges.{ReadsAnswer}
use Rattle.qn_exchange.specs.declared.etcd_client.EtcdClient.{EtcdClient}
use Rattle.qn_exchange.specs.declared.etcd_client.SectorRead.{SectorRead}
use Rattle.qn_exchange.specs.declared.etcd_client.SectorRead.TheVariants as sector

-- the request was sent whole, and an answer with this body was read, and nothing after it
pub record Asks (wrote writes unread rest : Option (List ℕ)) (request body : List ℕ) : Type 0 where
  pub sent : Appends wrote writes request
  pub answered : ReadsAnswer unread rest body

-- a key's value was given, or has another length than a sector
abbrev pub GivesValue : List ℕ → SectorRead → List ℕ → Type 0
GivesValue value sector.Refused bytes = ⊥
GivesValue value sector.Done bytes = bytes ≡ value
GivesValue value sector.OtherLength bytes = ¬ (length value ≡ 512)

-- what an answer to a read of a sector says is what was given: the value of its key, zeros where that is not there, or nothing
abbrev pub GivesSector : Option ReadSays → SectorRead → List ℕ → Type 0
GivesSector None given bytes = ⊥
GivesSector (Some Refused) given bytes = given ≡ sector.Refused
GivesSector (Some Absent) given bytes = (given ≡ sector.Done) × (bytes ≡ replicate 512 0)
GivesSector (Some (Present value revision)) given bytes = GivesValue value given bytes

-- the sector was asked for, as the client's writer reads it
pub record ReadsKey (client : EtcdClient) (at : ℕ) (wrote writes unread rest : Option (List ℕ)) (given : SectorRead) (bytes : List ℕ) : Type 0 where
  pub body : List ℕ
  pub asks : Asks wrote writes unread rest (post_text client.host.bytes (read_text client.prefix.bytes client.writer at)) body
  pub gives : GivesSector (read_says (sector_key client.prefix.bytes at) body) given bytes

-- what an answer to a write says is what was given, and the writer knows of it what it is to know
abbrev pub NotesWrite : Option (Option ℕ) → Bool → ℕ → EtcdClient → EtcdClient → Type 0
NotesWrite None done at client later = ⊥
NotesWrite (Some None) done at client later = (done ≡ false) × (later ≡ client)
NotesWrite (Some (Some revision)) done at client later =
    (done ≡ true) × (later ≡ record client { writer = writer_after client.writer at revision })

-- the bytes were sent for the sector under the condition of the client's writer
pub record WritesKey (client later : EtcdClient) (at : ℕ) (wrote writes unread rest : Option (List ℕ)) (done : Bool) (bytes : List ℕ) : Type 0 where
  pub body : List ℕ
  pub asks : Asks wrote writes unread rest (post_text client.host.bytes (write_text client.prefix.bytes client.writer at bytes)) body
  pub notes : NotesWrite (write_says body) done at client later

-- the writer's key of a rank was asked for, and this is what the answer says of it
pub record FindsHolder (client : EtcdClient) (rank : ℕ) (wrote writes unread rest : Option (List ℕ)) (found : ReadAnswer) : Type 0 where
  pub body : List ℕ
  pub asks : Asks wrote writes unread rest (post_text client.host.bytes (holder_text client.prefix.bytes rank)) body
  pub says : read_says (writer_key client.prefix.bytes rank) body ≡ Some (said_by found)

-- what an answer to the opening for a boot says is what was given: where it was done the boot reads and writes from then on
abbrev pub Begins : Option (Option ℕ) → Bool → Boot → EtcdClient → EtcdClient → Type 0
Begins None done boot client later = ⊥
Begins (Some None) done boot client later = (done ≡ false) × (later ≡ client)
Begins (Some (Some revision)) done boot client later = (done ≡ true) × (later ≡ record client { writer = writer.Boot boot })

-- the boot's token was sent for the writer's key of its rank, under the condition that this was changed last at the revision
pub record OpensBoot (client later : EtcdClient) (boot : Boot) (revision : ℕ) (wrote writes unread rest : Option (List ℕ)) (done : Bool) : Type 0 where
  pub body : List ℕ
  pub asks : Asks wrote writes unread rest (post_text client.host.bytes (open_text client.prefix.bytes boot.rank revision boot.token.items)) body
  pub begins : Begins (write_says body) done boot client later

-- what an answer to a write says is what was given
abbrev pub SaysDone : Option (Option ℕ) → Bool → Type 0
SaysDone None done = ⊥
SaysDone (Some None) done = done ≡ false
SaysDone (Some (Some revision)) done = done ≡ true

-- the request that sets the key of this writer free
abbrev pub IsRelease : EtcdClient → Writer → List ℕ → Type 0
IsRelease client (writer.Boot boot) text = text ≡ release_text client.prefix.bytes boot.rank boot.token.items
IsRelease client (writer.Command written) text = ⊥

-- the key of the client's boot was set free, under the condition that it holds the boot's token
pub record Releases (client : EtcdClient) (wrote writes unread rest : Option (List ℕ)) (done : Bool) : Type 0 where
  pub text : List ℕ
  pub releases : IsRelease client client.writer text
  pub body : List ℕ
  pub asks : Asks wrote writes unread rest (post_text client.host.bytes text) body
  pub says : SaysDone (write_says body) done
