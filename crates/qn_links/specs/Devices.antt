-- What a settings text says of where its arbiter is: corosync-qdevice(8), `quorum`, `device`, `net`. Of a key that stands several times the last
-- value counts, also over several sections of one path (this project's profile).
use Rattle.std.specs.Prelude.{◌≡◌, ℕ, if◌then◌else◌, List, [], ◌∷◌, Option, Some, None, codes, drop}
use Rattle.std.specs.Str.{bytes_eq}
use Rattle.std.specs.declared.net.ip_addr.IpAddr.{IpAddr}
use Rattle.qn_conf.specs.declared.tree.Item.{Item}
use Rattle.qn_conf.specs.declared.tree.Item.TheVariants.{Enter, Exit, Pair}
use Rattle.qn_conf.specs.Line.{or_else}
use Rattle.qn_links.specs.declared.device.Section.{Section}
use Rattle.qn_links.specs.declared.device.Section.TheVariants.{Outside, Quorum, Device, Net, Other}
use Rattle.qn_links.specs.Links.{Writes}

-- the section of this name inside another
abbrev pub inside : Section → List ℕ → Section
inside Outside name = if bytes_eq name (codes "quorum") then Quorum else Other
inside Quorum name = if bytes_eq name (codes "device") then Device else Other
inside Device name = if bytes_eq name (codes "net") then Net else Other
inside Net name = Other
inside Other name = Other

-- the innermost of the sections that stand open, innermost first
abbrev pub innermost : List Section → Section
innermost [] = Outside
innermost (section ∷ outer) = section

-- a section on the way to an arbiter's, with the sections around it, innermost first
abbrev pub chain : Section → List Section
chain Outside = []
chain Quorum = Quorum ∷ []
chain Device = Device ∷ Quorum ∷ []
chain Net = Net ∷ Device ∷ Quorum ∷ []
chain Other = Other ∷ []

-- the sections that stand open after an item, innermost first
abbrev pub open_after : List Section → Item → List Section
open_after sections (Enter name) = inside (innermost sections) name ∷ sections
open_after sections Exit = drop 1 sections
open_after sections (Pair name value) = sections

-- what a pair inside a section says of a key of the arbiter
abbrev pub value_in : Section → List ℕ → Item → Option (List ℕ)
value_in Net key (Pair name value) = if bytes_eq name key then Some value else None
value_in Net key (Enter name) = None
value_in Net key Exit = None
value_in Outside key item = None
value_in Quorum key item = None
value_in Device key item = None
value_in Other key item = None

-- the last value of a key of the arbiter among items inside these sections
abbrev pub last_from : List ℕ → List Section → List Item → Option (List ℕ)
last_from key sections [] = None
last_from key sections (item ∷ items) =
    or_else (last_from key (open_after sections item) items) (value_in (innermost sections) key item)

-- what a tree says of a key of the arbiter
unfoldable pub last_in_net : List ℕ → List Item → Option (List ℕ)
last_in_net key items = last_from key [] items

-- the host of the arbiter is an address of one machine
abbrev pub NamesArbiter : List Item → Type 0
NamesArbiter items =
    (text : List ℕ) × (address : IpAddr) × (last_in_net (codes "host") items ≡ Some text) × Writes text address
