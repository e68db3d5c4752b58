-- How a log goes on by the lines of calls.
use Rattle.std.proofs.Common.{◌≡◌, ◌≤◌, ℕ, Bool, true, false, List, [], ◌∷◌, ◌++◌, Option, refl, sym, ap, ◌∙◌, append_assoc, arith}
use Rattle.std.specs.Prelude.{codes}
use Rattle.std.specs.Io.KnownBytes.{append_known}
use Rattle.qn_base.specs.declared.calls.Call.{Call}
use Rattle.qn_base.specs.Rising.{HasRisen-within}
use Rattle.qn_io.specs.Outside.{append_known-append, append_known-nil}
use Rattle.qn_audit.specs.Logs.{call_line, log_text}
use Rattle.qn_live.specs.Sound.{Shows}
use Rattle.qn_audit.specs.declared.recorder.Recorder.{Recorder}
use Rattle.qn_audit.specs.Recording.{LogSink, Logs, LogsWhen, Records, log_of}

-- nothing was given to a log
pub logs_none : (log : LogSink) → Logs log log []
logs_none log = none_when log.whole log
  where
    none_when : (whole : Bool) (log : LogSink) → LogsWhen whole whole log log []
    none_when true log = sym (append_known-nil log.written)
    none_when false log = refl

-- a text, and then another one
module _ (a b c : LogSink) (text more : List ℕ) (low : a.faults ≤ b.faults) (high : b.faults ≤ c.faults) where
  then_when : (first second third : Bool) → LogsWhen first second a b text → LogsWhen second third b c more → LogsWhen first third a c (text ++ more)
  then_when true true true one two =
      two ∙ ap (λ w. append_known w more) one ∙ sym (append_known-append a.written text more)
  then_when true true false one two = (
    record {
      front = text ++ two.0.front;
      rest = two.0.rest;
      parts = ap (λ t. text ++ t) two.0.parts ∙ sym (append_assoc text two.0.front two.0.rest);
      adds = two.0.adds ∙ ap (λ w. append_known w two.0.front) one ∙ sym (append_known-append a.written text two.0.front);
    },
    HasRisen-within a.faults b.faults c.faults c.faults low high (omega arith) two.1,
  )
  then_when true false true one two = absurd two
  then_when true false false one two = (
    record {
      front = one.0.front;
      rest = one.0.rest ++ more;
      parts = ap (λ t. t ++ more) one.0.parts ∙ append_assoc one.0.front one.0.rest more;
      adds = two ∙ one.0.adds;
    },
    HasRisen-within a.faults a.faults b.faults c.faults (omega arith) low high one.1,
  )
  then_when false true third one two = absurd one
  then_when false false true one two = absurd two
  then_when false false false one two = two ∙ one

  pub logs_then : Logs a b text → Logs b c more → Logs a c (text ++ more)
  logs_then one two = then_when a.whole b.whole c.whole one two

-- the calls of a recorder, one after the other
pub logs_all : {E O : Type 0} (written : O → Option (List ℕ)) (faults : O → ℕ) (before after : Recorder E O) (calls : List Call) → Shows (Records written faults) before after calls
    → Logs (log_of written faults before) (log_of written faults after) (log_text calls)
    × (after.env.ghost_name ≡ before.env.ghost_name) × (after.out.ghost_name ≡ before.out.ghost_name) × (faults before.out.now ≤ faults after.out.now)
logs_all written faults before after [] same = rw same (logs_none _, refl, refl, omega arith)
logs_all written faults before after (call ∷ calls) chain =
    let rest = logs_all written faults chain.0 after calls chain.2 in
    let one = chain.1 in (
      logs_then _ _ _ (call_line call ++ codes "\n") (log_text calls) one.3 rest.3 one.0 rest.0,
      rest.1 ∙ one.1,
      rest.2 ∙ one.2,
      omega (arith, one.3, rest.3),
    )
