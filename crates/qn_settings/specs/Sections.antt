-- The sections that corosync.conf(5) puts the keys in.
use Rattle.std.specs.Prelude.{ℕ, if◌then◌else◌, List, [], ◌∷◌, Option, codes, find}
use Rattle.std.specs.Str.{bytes_eq}
use Rattle.qn_settings.specs.declared.key.Key.{Key}
use Rattle.qn_settings.specs.declared.key.Key.TheVariants.{NodeId, QuorumVotes, FenceDelay, Provider, ExpectedVotes, TwoNode, WaitForAll, LastManStanding, LastManStandingWindow, AutoTieBreaker, AutoTieBreakerNode, AllowDownscale, Model, Votes, Timeout}
use Rattle.qn_settings.specs.declared.section.Section.{Section}
use Rattle.qn_settings.specs.declared.section.Section.TheVariants.{Outside, NodeList, Node, Quorum, Device, Other}
use Rattle.qn_settings.specs.Keys.{key_name}

-- the section of this name inside another
abbrev pub inside : Section → List ℕ → Section
inside Outside name =
    if bytes_eq name (codes "nodelist") then NodeList
    else if bytes_eq name (codes "quorum") then Quorum
    else Other
inside NodeList name = if bytes_eq name (codes "node") then Node else Other
inside Node name = Other
inside Quorum name = if bytes_eq name (codes "device") then Device else Other
inside Device name = Other
inside Other name = Other

-- the keys that are read in a section
abbrev pub keys_of : Section → List Key
keys_of Outside = []
keys_of NodeList = []
keys_of Node = NodeId ∷ QuorumVotes ∷ FenceDelay ∷ []
keys_of Quorum =
    Provider ∷ ExpectedVotes ∷ TwoNode ∷ WaitForAll ∷ LastManStanding ∷ LastManStandingWindow ∷ AutoTieBreaker ∷ AutoTieBreakerNode ∷ AllowDownscale ∷ []
keys_of Device = Model ∷ Votes ∷ Timeout ∷ []
keys_of Other = []

-- the key of this name in a section
unfoldable pub key_in : Section → List ℕ → Option Key
key_in section name = find (λ key. bytes_eq (key_name key) name) (keys_of section)

-- the innermost of the sections that stand open, innermost first
abbrev pub innermost : List Section → Section
innermost [] = Outside
innermost (section ∷ outer) = section

-- a section of the table with the sections around it, innermost first
abbrev pub chain : Section → List Section
chain Outside = []
chain NodeList = NodeList ∷ []
chain Node = Node ∷ NodeList ∷ []
chain Quorum = Quorum ∷ []
chain Device = Device ∷ Quorum ∷ []
chain Other = Other ∷ []
