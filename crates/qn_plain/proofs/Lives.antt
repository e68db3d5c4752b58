-- One entry more, of what a history says of the node itself and of its votes.
use Rattle.std.proofs.Common.{◌≡◌, ℕ, suc, ◌+◌, Bool, true, false, List, [], ◌∷◌, length, refl, arith}
use Rattle.std.specs.Prelude.{if◌then◌else◌}
use Rattle.std.specs.Option.{option_map_or}
use Rattle.qn_model.specs.declared.configuration.Settings.{Settings}
use Rattle.qn_model.specs.declared.entries.What.{What}
use Rattle.qn_model.specs.declared.entries.What.TheVariants as what
use Rattle.qn_model.specs.declared.outputs.Out.{Out}
use Rattle.qn_model.specs.declared.votes.VoteWhat.TheVariants as vote
use Rattle.qn_model.specs.Log.{Line, ask_place, ask_tick, begins_clean, claimed, is_answer, is_view, op_out, slot_number, timing}
use Rattle.qn_model.specs.Phases.{phase}
use Rattle.qn_model.specs.Holding.{holds, may_stop, stop_due}
use Rattle.qn_model.specs.Hearing.{tell_of}
use Rattle.qn_model.specs.Wanted.{mail_tick}
use Rattle.qn_model.specs.NodeVotes.{answers, install, vote_of}
use Rattle.qn_model.specs.NodeOutputs.{moment, taken_in}
use Rattle.qn_plain.specs.declared.life.Stopping.{Stopping}
use Rattle.qn_plain.specs.Life.{life_given, life_of, life_taken, stopping, stops_again}
use Rattle.qn_plain.specs.Past.{vote_said}

-- the log with an entry as it was read, and these outputs
abbrev pub with_outs : List Line → ℕ → What → List Out → List Line
with_outs past tick entry outs =
    record { tick = tick; what = entry; asked = (if is_answer entry then ask_place past else 0); outs = outs } ∷ past

pub life_taken-life_of : (s : Settings) (log : List Line) (tick : ℕ) (entry : What)
    → life_taken s tick entry (life_of s log) ≡ life_of s (taken_in log tick entry)
unfolding begins_clean slot_number claimed op_out ask_place ask_tick timing phase holds stop_due mail_tick moment stopping
life_taken-life_of s log tick entry = refl

pub life_given-life_of : (s : Settings) (log : List Line) (tick : ℕ) (entry : What) (outs : List Out)
    → life_given (suc (length log)) tick outs (life_of s (taken_in log tick entry)) ≡ life_of s (with_outs log tick entry outs)
unfolding begins_clean slot_number claimed op_out ask_place ask_tick timing phase holds stop_due mail_tick moment stopping
life_given-life_of s log tick entry outs = refl

-- whether a Stop may be given is read off how the last one stands
stops_if : (b : Bool) (first second : Stopping) (wait tick : ℕ)
    → stops_again (if b then first else second) wait tick ≡ (if b then stops_again first wait tick else stops_again second wait tick)
stops_if true first second wait tick = refl
stops_if false first second wait tick = refl

pub stops_again-stopping : (wait tick : ℕ) (log : List Line) → stops_again (stopping log) wait tick ≡ may_stop wait tick log
unfolding stopping may_stop
stops_again-stopping wait tick [] = refl
stops_again-stopping wait tick (line ∷ past) =
    let before = stops_again-stopping wait tick past in
    simp (stops_if, before)

-- an entry says the same to the count of votes
pub vote_said-vote_of : (log : List Line) (w : What) → vote_said (option_map_or (answers log) (tell_of w) false) w ≡ vote_of log w
vote_said-vote_of log what.Begin = refl
vote_said-vote_of log what.BeginClean = refl
vote_said-vote_of log (what.Header seen) = refl
vote_said-vote_of log (what.SlotRead rank seen) = refl
vote_said-vote_of log (what.MailChecked seen) = refl
vote_said-vote_of log (what.Claimed ok) = refl
vote_said-vote_of log (what.Cleared ok) = refl
vote_said-vote_of log (what.MailRead seen) = refl
vote_said-vote_of log (what.MailWritten rank ok) = refl
vote_said-vote_of log (what.View shown) = refl
vote_said-vote_of log (what.Ask ask) = refl
vote_said-vote_of log (what.Tell tell) = refl
vote_said-vote_of log (what.Device agrees) = refl
vote_said-vote_of log what.Tick = refl
vote_said-vote_of log (what.Stopped ok) = refl
vote_said-vote_of log what.Leave = refl
vote_said-vote_of log (what.Closed ok) = refl

-- each view that was installed is a line
few_more : (b : Bool) (count : ℕ) → (if b then suc count else count) ≡ (if b then count + 1 else count)
few_more true count = omega arith
few_more false count = refl

pub install-next : (log : List Line) (line : Line) → install (line ∷ log) ≡ (if is_view line.what then install log + 1 else install log)
unfolding install
install-next log line = few_more (is_view line.what) (install log)
