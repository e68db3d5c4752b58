-- The log of a running node where it stands: only a look at the clock adds a line.
use Rattle.std.proofs.Common.{◌≡◌, ℕ, suc, zero, Bool, true, false, List, [], ◌∷◌, Option, None, Some, refl}
use Rattle.qn_model.specs.declared.configuration.Settings.{Settings}
use Rattle.qn_model.specs.declared.entries.What.{What}
use Rattle.qn_model.specs.declared.outputs.Out.{Out}
use Rattle.qn_model.specs.declared.packets.Sent.{Sent}
use Rattle.qn_safety.specs.declared.polls.Poll.{Poll}
use Rattle.qn_live.specs.declared.live_end.LiveEnd.{LiveEnd}
use Rattle.qn_live.specs.Choosing.{is_late, is_to_leave, ready}
use Rattle.qn_live.specs.Performing.{end_in}
use Rattle.qn_live.specs.Polling.{poll_due, polled}
use Rattle.qn_live.specs.Running.{RunState}
use Rattle.qn_live.specs.Runs.{asked_maker, greets}
use Rattle.qn_joined.specs.Stands.{acts_at, begun_at, farewells_due, log_at, opening, parts_at, polled_at, said_at, sends_due, settled_by, taking}

module _ (s : Settings) (me : ℕ) where
  opening_log : (st : RunState) (late : Bool) → log_at (opening st late) ≡ st.log
  opening_log st true = refl
  opening_log st false = refl

  taking_log : (st : RunState) (leaves rests : Bool) (stopped : Option Bool) (disk : Option What)
      → log_at (taking (record st { waits = record { stopped = stopped; disk = disk } }) (ready leaves rests (record { stopped = stopped; disk = disk }))) ≡ st.log
  taking_log st leaves rests (Some ok) disk = refl
  taking_log st leaves false None (Some answer) = refl
  taking_log st true false None None = refl
  taking_log st false false None None = opening_log (record st { waits = record { stopped = None; disk = None } }) (is_late st)
  taking_log st true true None disk = refl
  taking_log st false true None disk = opening_log (record st { waits = record { stopped = None; disk = disk } }) (is_late st)

  begun_log : (leave : Option ℕ) (turn more : ℕ) (st : RunState) → log_at (begun_at s me leave turn more st).spot ≡ st.log
  begun_log leave turn zero st = refl
  begun_log leave turn (suc more) st = taking_log st (is_to_leave s leave turn st) st.rests st.waits.stopped st.waits.disk

  pub said_log : (leave : Option ℕ) (turn more : ℕ) (st : RunState) (sents : List Sent) → log_at (said_at s me leave turn more st sents).spot ≡ st.log
  said_log leave turn more st [] = begun_log leave turn more st
  said_log leave turn more st (sent ∷ rest) = refl

  polled_log : (leave : Option ℕ) (turn more : ℕ) (st : RunState) (sents : List Sent) (poll : Option Poll) → log_at (polled_at s me leave turn more st sents poll).spot ≡ st.log
  polled_log leave turn more st sents None = said_log leave turn more st sents
  polled_log leave turn more st sents (Some poll) = refl

  pub parts_log : (turn more : ℕ) (end : LiveEnd) (st : RunState) (sents : List Sent) → log_at (parts_at turn more end st sents).spot ≡ st.log
  parts_log turn more end st [] = refl
  parts_log turn more end st (sent ∷ rest) = refl

  settled_log : (leave : Option ℕ) (turn more : ℕ) (entry : What) (st : RunState) (found : Option LiveEnd) → log_at (settled_by s me leave turn more entry st found).spot ≡ st.log
  settled_log leave turn more entry st None =
      polled_log leave turn more (polled s me (greets s me st) entry (asked_maker s me st)) (sends_due s me st) (poll_due s me (greets s me st) entry (asked_maker s me st))
  settled_log leave turn more entry st (Some end) = parts_log turn more end st (farewells_due s me end st)

  pub acts_log : (leave : Option ℕ) (turn more : ℕ) (entry : What) (outs rest : List Out) (st : RunState) → log_at (acts_at s me leave turn more entry outs rest st).spot ≡ st.log
  acts_log leave turn more entry outs [] st = settled_log leave turn more entry st (end_in entry outs)
  acts_log leave turn more entry outs (o ∷ rest) st = refl
