-- The stages of a node's life, and the log that each stands for: this project's profile.
use Rattle.std.specs.Prelude.{◌≡◌, ℕ, Bool, true, false, List, [], Option, None, Some}
use Rattle.qn_model.specs.declared.configuration.Settings.{Settings}
use Rattle.qn_model.specs.declared.life.Phase.{Phase}
use Rattle.qn_model.specs.declared.life.Phase.TheVariants.{Booting}
use Rattle.qn_model.specs.Log.{Line}
use Rattle.qn_boot.specs.Boot.{WantCheckFor, WantClaimFor, WantClearFor, WantHeaderFor, WantSlotFor}
use Rattle.qn_heard.specs.Heard.{installs_of}
use Rattle.qn_node.specs.declared.live.Live.{Live}
use Rattle.qn_node.specs.declared.rest.Rest.{Rest}
use Rattle.qn_node.specs.declared.stage.Stage.{Stage}
use Rattle.qn_node.specs.declared.stage.Stage.TheVariants as stage
use Rattle.qn_node.specs.Live.{LiveFor, live_phase}
use Rattle.qn_node.specs.Resource.{is_held}
use Rattle.qn_node.specs.Rest.{RestFor}

-- how many views a stage has installed
abbrev pub installs_in : Stage → ℕ
installs_in (stage.Live live) = installs_of live.heard
installs_in stage.Idle = 0
installs_in (stage.Header boot) = 0
installs_in (stage.Slot boot) = 0
installs_in (stage.Check boot) = 0
installs_in (stage.Claim boot) = 0
installs_in (stage.Clear boot) = 0
installs_in (stage.Rest rest) = 0

-- the stage of a node that took part: as it is now, or as nothing comes of it any more
abbrev pub stage_after : Live → Option Rest → Stage
stage_after live None = stage.Live live
stage_after live (Some rest) = stage.Rest rest

-- the incarnation that was claimed
abbrev pub claims_in : Stage → Option ℕ
claims_in stage.Idle = None
claims_in (stage.Header boot) = None
claims_in (stage.Slot boot) = None
claims_in (stage.Check boot) = None
claims_in (stage.Claim boot) = Some boot.claims
claims_in (stage.Clear boot) = Some boot.claims
claims_in (stage.Live live) = Some live.incarnation
claims_in (stage.Rest rest) = rest.claims

-- the phase of a node at that stage
abbrev pub stage_phase : Stage → Phase
stage_phase (stage.Live live) = live_phase live.leaving
stage_phase (stage.Rest rest) = rest.phase
stage_phase stage.Idle = Booting
stage_phase (stage.Header boot) = Booting
stage_phase (stage.Slot boot) = Booting
stage_phase (stage.Check boot) = Booting
stage_phase (stage.Claim boot) = Booting
stage_phase (stage.Clear boot) = Booting

-- whether a node at that stage takes part in the cluster
abbrev pub takes_part : Stage → Bool
takes_part stage.Idle = false
takes_part (stage.Header boot) = false
takes_part (stage.Slot boot) = false
takes_part (stage.Check boot) = false
takes_part (stage.Claim boot) = false
takes_part (stage.Clear boot) = false
takes_part (stage.Live live) = true
takes_part (stage.Rest rest) = false

-- whether a node at that stage holds the resource
abbrev pub holds_in : Stage → Bool
holds_in (stage.Live live) = is_held live.resource
holds_in (stage.Rest rest) = is_held rest.resource
holds_in stage.Idle = false
holds_in (stage.Header boot) = false
holds_in (stage.Slot boot) = false
holds_in (stage.Check boot) = false
holds_in (stage.Claim boot) = false
holds_in (stage.Clear boot) = false

-- a stage stands for the log of the node of that rank
abbrev pub StageFor : Stage → Settings → ℕ → List Line → Type 0
StageFor stage.Idle s me log = log ≡ []
StageFor (stage.Header boot) s me log = WantHeaderFor s boot log
StageFor (stage.Slot boot) s me log = WantSlotFor s me boot log
StageFor (stage.Check boot) s me log = WantCheckFor s boot log
StageFor (stage.Claim boot) s me log = WantClaimFor s boot log
StageFor (stage.Clear boot) s me log = WantClearFor s boot log
StageFor (stage.Live live) s me log = LiveFor live s me log
StageFor (stage.Rest rest) s me log = RestFor rest s log
