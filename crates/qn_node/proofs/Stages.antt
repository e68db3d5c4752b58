-- What a stage says of the log that it stands for.
use Rattle.std.proofs.Common.{◌≡◌, ℕ, Bool, true, false, List, ◌∷◌, refl, sym, ap, subst, ◌∙◌}
use Rattle.std.specs.Prelude.{if◌then◌else◌}
use Rattle.qn_model.specs.declared.configuration.Settings.{Settings}
use Rattle.qn_model.specs.declared.entries.What.{What}
use Rattle.qn_model.specs.declared.entries.What.TheVariants as what
use Rattle.qn_model.specs.declared.life.Why.TheVariants as why
use Rattle.qn_model.specs.declared.votes.VoteWhat.TheVariants as vote
use Rattle.qn_model.specs.Log.{Line, claimed}
use Rattle.qn_model.specs.Phases.{is_live, is_up, phase}
use Rattle.qn_model.specs.Holding.{holds}
use Rattle.qn_model.specs.NodeVotes.{vote_of, votes}
use Rattle.qn_model.specs.Fitting.{fits, read_as}
use Rattle.qn_model.specs.NodeOutputs.{with_read}
use Rattle.qn_model.specs.Unmet.{unmet}
use Rattle.qn_model.specs.lemmas.Phases.{not_up}
use Rattle.qn_node.specs.declared.live.Live.{Live}
use Rattle.qn_node.specs.declared.stage.Stage.{Stage}
use Rattle.qn_node.specs.declared.stage.Stage.TheVariants as stage
use Rattle.qn_node.specs.Stage.{StageFor, claims_in, holds_in, takes_part, stage_phase}
use Rattle.qn_node.specs.Tally.{TallyFor}
use Rattle.qn_node.specs.declared.tally.Tally.{Tally}

pub phase_at : (at : Stage) (s : Settings) (me : ℕ) (log : List Line) → StageFor at s me log → stage_phase at ≡ phase s log
unfolding phase
phase_at stage.Idle s me log h = ap (phase s) (sym h)
phase_at (stage.Header boot) s me log h = sym h.waits.is_booting
phase_at (stage.Slot boot) s me log h = sym h.waits.is_booting
phase_at (stage.Check boot) s me log h = sym h.waits.is_booting
phase_at (stage.Claim boot) s me log h = sym h.waits.is_booting
phase_at (stage.Clear boot) s me log h = sym h.waits.is_booting
phase_at (stage.Live live) s me log h = sym h.phases
phase_at (stage.Rest rest) s me log h = sym h.phases

pub holds_at : (at : Stage) (s : Settings) (me : ℕ) (log : List Line) → StageFor at s me log → holds_in at ≡ holds log
unfolding holds
holds_at stage.Idle s me log h = ap holds (sym h)
holds_at (stage.Header boot) s me log h = sym h.waits.holds_nothing
holds_at (stage.Slot boot) s me log h = sym h.waits.holds_nothing
holds_at (stage.Check boot) s me log h = sym h.waits.holds_nothing
holds_at (stage.Claim boot) s me log h = sym h.waits.holds_nothing
holds_at (stage.Clear boot) s me log h = sym h.waits.holds_nothing
holds_at (stage.Live live) s me log h = sym h.has_resource.has
holds_at (stage.Rest rest) s me log h = sym h.resource.has

pub claims_at : (at : Stage) (s : Settings) (me : ℕ) (log : List Line) → StageFor at s me log → claims_in at ≡ claimed log
unfolding claimed
claims_at stage.Idle s me log h = ap claimed (sym h)
claims_at (stage.Header boot) s me log h = sym h.waits.has_claimed
claims_at (stage.Slot boot) s me log h = sym h.waits.has_claimed
claims_at (stage.Check boot) s me log h = sym h.waits.has_claimed
claims_at (stage.Claim boot) s me log h = sym h.waits.has_claimed
claims_at (stage.Clear boot) s me log h = sym h.waits.has_claimed
claims_at (stage.Live live) s me log h = sym h.claims
claims_at (stage.Rest rest) s me log h = sym h.claims

-- a stage that takes no part
pub no_part_at : (at : Stage) → ((live : Live) → at ≡ stage.Live live → ⊥) → takes_part at ≡ false
no_part_at stage.Idle never = refl
no_part_at (stage.Header boot) never = refl
no_part_at (stage.Slot boot) never = refl
no_part_at (stage.Check boot) never = refl
no_part_at (stage.Claim boot) never = refl
no_part_at (stage.Clear boot) never = refl
no_part_at (stage.Live live) never = absurd (never live refl)
no_part_at (stage.Rest rest) never = refl

pub quiet_at : (at : Stage) (s : Settings) (me : ℕ) (log : List Line) → StageFor at s me log → ((live : Live) → at ≡ stage.Live live → ⊥) → is_live (phase s log) ≡ false
unfolding phase
quiet_at stage.Idle s me log h never = ap (λ past. is_live (phase s past)) h
quiet_at (stage.Header boot) s me log h never = ap is_live h.waits.is_booting
quiet_at (stage.Slot boot) s me log h never = ap is_live h.waits.is_booting
quiet_at (stage.Check boot) s me log h never = ap is_live h.waits.is_booting
quiet_at (stage.Claim boot) s me log h never = ap is_live h.waits.is_booting
quiet_at (stage.Clear boot) s me log h never = ap is_live h.waits.is_booting
quiet_at (stage.Live live) s me log h never = absurd (never live refl)
quiet_at (stage.Rest rest) s me log h never = ap is_live h.phases ∙ h.not_live

pub quiet_down : (s : Settings) (me : ℕ) (log : List Line) (tick : ℕ) → is_live (phase s log) ≡ false → why.Down ≡ unmet s me log tick
unfolding unmet
quiet_down s me log tick quiet = let down : is_up (phase s log) ≡ false = not_up (phase s log) quiet in rw down

-- an entry of a node that takes no part is nothing to the votes
vote_either : (log : List Line) (w : What) (b : Bool) → vote_of log w ≡ vote.Tick → vote_of log (if b then w else what.Tick) ≡ vote.Tick
vote_either log w true e = e
vote_either log w false e = refl

vote_never : (log : List Line) (w : What) (b : Bool) → b ≡ false → vote_of log (if b then w else what.Tick) ≡ vote.Tick
vote_never log w true e = absurd (cc)
vote_never log w false e = refl

quiet_vote : (s : Settings) (me : ℕ) (log : List Line) (w : What) → is_live (phase s log) ≡ false → vote_of log (read_as s me log w) ≡ vote.Tick
quiet_vote s me log what.Begin quiet = vote_either log what.Begin (fits s me log what.Begin) refl
quiet_vote s me log what.BeginClean quiet = vote_either log what.BeginClean (fits s me log what.BeginClean) refl
quiet_vote s me log (what.Header seen) quiet = vote_either log (what.Header seen) (fits s me log (what.Header seen)) refl
quiet_vote s me log (what.SlotRead other seen) quiet = vote_either log (what.SlotRead other seen) (fits s me log (what.SlotRead other seen)) refl
quiet_vote s me log (what.MailChecked seen) quiet = vote_either log (what.MailChecked seen) (fits s me log (what.MailChecked seen)) refl
quiet_vote s me log (what.Claimed ok) quiet = vote_either log (what.Claimed ok) (fits s me log (what.Claimed ok)) refl
quiet_vote s me log (what.Cleared ok) quiet = vote_either log (what.Cleared ok) (fits s me log (what.Cleared ok)) refl
quiet_vote s me log (what.MailRead seen) quiet = vote_either log (what.MailRead seen) (fits s me log (what.MailRead seen)) refl
quiet_vote s me log (what.MailWritten other ok) quiet = vote_either log (what.MailWritten other ok) (fits s me log (what.MailWritten other ok)) refl
quiet_vote s me log (what.View installed) quiet = vote_never log (what.View installed) (fits s me log (what.View installed)) (rw quiet)
quiet_vote s me log (what.Ask ask) quiet = vote_either log (what.Ask ask) (fits s me log (what.Ask ask)) refl
quiet_vote s me log (what.Tell tell) quiet = vote_never log (what.Tell tell) (fits s me log (what.Tell tell)) (rw quiet)
quiet_vote s me log (what.Device agrees) quiet = vote_never log (what.Device agrees) (fits s me log (what.Device agrees)) (rw quiet)
quiet_vote s me log what.Tick quiet = vote_either log what.Tick (fits s me log what.Tick) refl
quiet_vote s me log (what.Stopped ok) quiet = vote_either log (what.Stopped ok) (fits s me log (what.Stopped ok)) refl
quiet_vote s me log what.Leave quiet = vote_either log what.Leave (fits s me log what.Leave) refl
quiet_vote s me log (what.Closed ok) quiet = vote_either log (what.Closed ok) (fits s me log (what.Closed ok)) refl

pub quiet_counted : (tally : Tally) (s : Settings) (me : ℕ) (log : List Line) (tick : ℕ) (w : What)
    → TallyFor tally s (record { tick = tick; what = vote.Tick } ∷ votes log) → is_live (phase s log) ≡ false
    → TallyFor tally s (votes (with_read s me log tick (read_as s me log w)))
unfolding votes
quiet_counted tally s me log tick w h quiet = subst (λ v. TallyFor tally s (record { tick = tick; what = v } ∷ votes log)) (sym (quiet_vote s me log w quiet)) h
