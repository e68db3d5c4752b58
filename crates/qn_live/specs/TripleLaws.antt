-- What the laws of answers speak of: this project's profile.
use Rattle.std.specs.Prelude.{◌≡◌, ℕ, false, List, map}
use Rattle.qn_base.specs.declared.calls.Call.{Call}
use Rattle.qn_model.specs.declared.configuration.Settings.{Settings}
use Rattle.qn_model.specs.declared.entries.What.{What}
use Rattle.qn_model.specs.declared.outputs.DiskOp.{DiskOp}
use Rattle.qn_safety.specs.declared.part.Part.{Part}
use Rattle.qn_safety.specs.declared.part.Part.TheVariants.{Pending, Landed, Failed}
use Rattle.qn_live.specs.Performing.{disk_answer, done}
use Rattle.qn_live.specs.TripleDisk.{is_strange, part_of, read_of, sector_of}

-- a part is what an image told: nothing, a failure, or what it read, which is a spelling
abbrev pub IsTold : Settings → DiskOp → Part → Type 0
IsTold s op Pending = Unit {0}
IsTold s op Failed = Unit {0}
IsTold s op (Landed value) = (bytes : List ℕ) × (value ≡ done s op bytes) × (is_strange value ≡ false)

-- the entry that a node on one image takes from the sector that says an entry
abbrev pub taken_from : Settings → DiskOp → ℕ → What → What
taken_from s op sector entry = disk_answer s op (read_of sector (sector_of s entry))

-- what each image told of an operation, by the calls that were made on the images, in their order
abbrev pub parts_told : Settings → DiskOp → List Call → List Part
parts_told s op calls = map (part_of s op) calls
