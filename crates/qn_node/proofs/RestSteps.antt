-- One entry more, of a node of which nothing comes any more.
use Rattle.std.proofs.Common.{◌≡◌, ℕ, Bool, true, false, List, [], refl, sym, ap, ◌∙◌}
use Rattle.std.specs.Prelude.{if◌then◌else◌}
use Rattle.qn_model.specs.declared.configuration.Settings.{Settings}
use Rattle.qn_model.specs.declared.entries.What.{What}
use Rattle.qn_model.specs.declared.entries.What.TheVariants as what
use Rattle.qn_model.specs.declared.life.Phase.{Phase}
use Rattle.qn_model.specs.declared.outputs.Out.{Out}
use Rattle.qn_model.specs.Log.{Line, claimed, is_answer, op_out}
use Rattle.qn_model.specs.Phases.{in_time, is_live, is_up, next_phase, phase}
use Rattle.qn_model.specs.Holding.{answers_stop, stop_due}
use Rattle.qn_model.specs.Fitting.{answers_op, fits, is_first, read_as}
use Rattle.qn_model.specs.NodeOutputs.{boot_outs, is_boot_step, outs_at, taken_in, with_read}
use Rattle.qn_model.specs.lemmas.Phases.{not_up}
use Rattle.qn_node.specs.declared.rest.Rest.{Rest}
use Rattle.qn_node.specs.Resource.{after_entry, is_stopping}
use Rattle.qn_node.specs.Rest.{RestFor}
use Rattle.qn_node.proofs.ResourceSteps.{resource_taken}

-- an entry that is a Tick or the answer of a Stop
record IsQuiet (w : What) : Type 0 where
  no_step : is_boot_step w ≡ false
  no_answer : is_answer w ≡ false
  stays : (s : Settings) (timely : Bool) (before : Phase) → next_phase s w timely before ≡ before

quiet_tick : IsQuiet what.Tick
quiet_tick = record { no_step = refl; no_answer = refl; stays = λ s timely before. refl }

quiet_stopped : (ok : Bool) → IsQuiet (what.Stopped ok)
quiet_stopped ok = record { no_step = refl; no_answer = refl; stays = λ s timely before. refl }

-- how an entry is read by such a node: it is quiet, it fits, and it does to the resource what the entry does
record ReadsQuietly (rest : Rest) (log : List Line) (tick : ℕ) (w read : What) : Type 0 where
  quiet : IsQuiet read
  fit : answers_stop read ≡ true → stop_due log ≡ true
  same : after_entry tick read rest.resource ≡ after_entry tick w rest.resource

nothing_read : (rest : Rest) (log : List Line) (tick : ℕ) (w : What) (b : Bool) → b ≡ false → after_entry tick w rest.resource ≡ rest.resource
    → ReadsQuietly rest log tick w (if b then w else what.Tick)
nothing_read rest log tick w true unfit same = absurd (cc)
nothing_read rest log tick w false unfit same = record { quiet = quiet_tick; fit = λ e. absurd (cc); same = sym same }

stopped_read : (rest : Rest) (log : List Line) (tick : ℕ) (ok due : Bool) → stop_due log ≡ due → is_stopping rest.resource ≡ due
    → ReadsQuietly rest log tick (what.Stopped ok) (if due then what.Stopped ok else what.Tick)
stopped_read rest log tick ok true due waits = record { quiet = quiet_stopped ok; fit = λ e. due; same = refl }
stopped_read rest log tick ok false due waits = record { quiet = quiet_tick; fit = λ e. absurd (cc); same = rw waits }

reads_quietly : (rest : Rest) (s : Settings) (me : ℕ) (log : List Line) (tick : ℕ) (w : What) → RestFor rest s log
    → ReadsQuietly rest log tick w (read_as s me log w)
reads_quietly rest s me log tick what.Begin h = nothing_read rest log tick what.Begin (is_first log) h.not_first refl
reads_quietly rest s me log tick what.BeginClean h = nothing_read rest log tick what.BeginClean (is_first log) h.not_first refl
reads_quietly rest s me log tick (what.Header seen) h = nothing_read rest log tick (what.Header seen) (answers_op (op_out log) (what.Header seen)) (rw h.none_out) refl
reads_quietly rest s me log tick (what.SlotRead rank seen) h = nothing_read rest log tick (what.SlotRead rank seen) (answers_op (op_out log) (what.SlotRead rank seen)) (rw h.none_out) refl
reads_quietly rest s me log tick (what.MailChecked seen) h = nothing_read rest log tick (what.MailChecked seen) (answers_op (op_out log) (what.MailChecked seen)) (rw h.none_out) refl
reads_quietly rest s me log tick (what.Claimed ok) h = nothing_read rest log tick (what.Claimed ok) (answers_op (op_out log) (what.Claimed ok)) (rw h.none_out) refl
reads_quietly rest s me log tick (what.Cleared ok) h = nothing_read rest log tick (what.Cleared ok) (answers_op (op_out log) (what.Cleared ok)) (rw h.none_out) refl
reads_quietly rest s me log tick (what.MailRead seen) h = nothing_read rest log tick (what.MailRead seen) (answers_op (op_out log) (what.MailRead seen)) (rw h.none_out) refl
reads_quietly rest s me log tick (what.MailWritten rank ok) h = nothing_read rest log tick (what.MailWritten rank ok) (answers_op (op_out log) (what.MailWritten rank ok)) (rw h.none_out) refl
reads_quietly rest s me log tick (what.View view) h = nothing_read rest log tick (what.View view) (fits s me log (what.View view)) (rw (h.phases, h.not_live)) refl
reads_quietly rest s me log tick (what.Ask ask) h = nothing_read rest log tick (what.Ask ask) (fits s me log (what.Ask ask)) (rw (h.phases, h.not_live)) refl
reads_quietly rest s me log tick (what.Tell tell) h = nothing_read rest log tick (what.Tell tell) (fits s me log (what.Tell tell)) (rw (h.phases, h.not_live)) refl
reads_quietly rest s me log tick (what.Device agrees) h = nothing_read rest log tick (what.Device agrees) (fits s me log (what.Device agrees)) (rw h.phases h.not_live) refl
reads_quietly rest s me log tick what.Tick h = record { quiet = quiet_tick; fit = λ e. absurd (cc); same = refl }
reads_quietly rest s me log tick (what.Stopped ok) h = stopped_read rest log tick ok (stop_due log) refl (sym h.resource.waits)
reads_quietly rest s me log tick what.Leave h = nothing_read rest log tick what.Leave (is_up (phase s log)) (rw h.phases (not_up rest.phase h.not_live)) refl
reads_quietly rest s me log tick (what.Closed ok) h = nothing_read rest log tick (what.Closed ok) (answers_op (op_out log) (what.Closed ok)) (rw h.none_out) refl

-- nothing comes out of a quiet entry
quiet_outs : (s : Settings) (me : ℕ) (clean : Bool) (number : ℕ) (log : List Line) (w : What) (booting : Bool) (front : List Out)
    → is_boot_step w ≡ false → is_live (phase s log) ≡ false
    → (if booting then boot_outs s me clean number w else (if is_live (phase s log) then front else [])) ≡ []
quiet_outs s me clean number log w true front no_step not_live = rw no_step
quiet_outs s me clean number log w false front no_step not_live = rw not_live

pub rest_outs : (rest : Rest) (s : Settings) (me : ℕ) (log : List Line) (tick : ℕ) (w : What) → RestFor rest s log
    → outs_at s me log tick (read_as s me log w) (taken_in log tick (read_as s me log w)) ≡ []
unfolding outs_at
rest_outs rest s me log tick w h =
    quiet_outs s me _ _ log (read_as s me log w) _ _ (reads_quietly rest s me log tick w h).quiet.no_step (ap is_live h.phases ∙ h.not_live)

pub rest_stands : (rest : Rest) (s : Settings) (me : ℕ) (log : List Line) (tick : ℕ) (w : What) → RestFor rest s log
    → RestFor (record rest { resource = after_entry tick w rest.resource }) s (with_read s me log tick (read_as s me log w))
unfolding phase claimed op_out
rest_stands rest s me log tick w h =
    let reads = reads_quietly rest s me log tick w h in
    let none = rest_outs rest s me log tick w h in
    record {
      phases = reads.quiet.stays s (in_time tick log) (phase s log) ∙ h.phases;
      not_live = h.not_live;
      not_first = refl;
      claims = rw none h.claims;
      none_out = rw (none, reads.quiet.no_answer) h.none_out;
      resource = rw (← reads.same) (resource_taken rest.resource log _ h.resource (rw none) (rw none) reads.fit);
    }
