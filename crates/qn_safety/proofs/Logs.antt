-- The log of one node: each line was read where it fits, and gave what the node gives out.
use Rattle.std.proofs.Common.{◌≡◌, ℕ, suc, ◌≤◌, Bool, true, false, List, [], ◌∷◌, length, Some, None, Option, refl, sym, ap, ◌∙◌, subst, if◌then◌else◌, is_some, All}
use Rattle.std.specs.Option.{option_or}
use Rattle.std.proofs.lemmas.Bool.{false≢true}
use Rattle.qn_base.specs.lemmas.Options.{none_is_not_some}
use Rattle.qn_model.specs.declared.configuration.Settings.{Settings}
use Rattle.qn_model.specs.declared.entries.What.{What}
use Rattle.qn_model.specs.declared.entries.What.TheVariants as what
use Rattle.qn_model.specs.declared.outputs.DiskOp.{DiskOp}
use Rattle.qn_model.specs.lemmas.Entries.{fitting_answers}
use Rattle.qn_model.specs.Log.{Line, op_out, ask_place, ask_tick, now, disk_of, has_start, is_answer, claimed}
use Rattle.qn_model.specs.Fitting.{fits, answers_op}
use Rattle.qn_model.specs.NodeOutputs.{outs_at, taken_in}
use Rattle.qn_model.specs.Moments.{Before, Itself, Later}
use Rattle.qn_safety.proofs.Says.{Says, Reason, StartReason, outs_say, disk_is, start_is}

-- one line of a log, by the lines before it
pub record IsLine (s : Settings) (me : ℕ) (line : Line) (past : List Line) : Type 0 where
  pub fitting : fits s me past line.what ≡ true
  pub place : line.asked ≡ (if is_answer line.what then ask_place past else 0)
  pub gave : line.outs ≡ outs_at s me past line.tick line.what (taken_in past line.tick line.what)
  pub order : now past ≤ line.tick

-- a log of a node
pub data Made (s : Settings) (me : ℕ) : List Line → Type 0 where
  NoLine : Made s me []
  OneMore : {line : Line} {past : List Line} → IsLine s me line past → Made s me past → Made s me (line ∷ past)

-- the log of a line before its outputs
abbrev pub before_outs : Line → List Line → List Line
before_outs line past = taken_in past line.tick line.what

pub made_before : {s : Settings} {me : ℕ} {old new : List Line} → Before old new → Made s me new → Made s me old
made_before Itself made = made
made_before (Later newest more) (OneMore it made) = made_before more made

pub made_tail : {s : Settings} {me : ℕ} {line : Line} {past : List Line} → Made s me (line ∷ past) → Made s me past
made_tail (OneMore it made) = made

pub made_line : {s : Settings} {me : ℕ} {line : Line} {past : List Line} → Made s me (line ∷ past) → IsLine s me line past
made_line (OneMore it made) = it

pub line_at : {s : Settings} {me : ℕ} {line : Line} {past new : List Line} → Before (line ∷ past) new → Made s me new → IsLine s me line past
line_at back made = made_line (made_before back made)

-- each output of a line tells why it came
pub line_says : {s : Settings} {me : ℕ} {line : Line} {past : List Line} → IsLine s me line past
    → All (Says s me past line.tick line.what (before_outs line past)) line.outs
line_says {s = s} {me = me} {line = line} {past = past} it =
    subst (λ outs. All (Says s me past line.tick line.what (before_outs line past)) outs) (sym it.gave)
    (outs_say s me past line.tick line.what (before_outs line past))

pub disk_reason : {s : Settings} {me : ℕ} {line : Line} {past : List Line} → IsLine s me line past → (op : DiskOp) → disk_of line.outs ≡ Some op
    → Reason s me past line.what (before_outs line past) op
disk_reason {s = s} {me = me} {line = line} {past = past} it op e =
    disk_is (Says s me past line.tick line.what (before_outs line past)) line.outs op (line_says it) e

pub start_reason : {s : Settings} {me : ℕ} {line : Line} {past : List Line} → IsLine s me line past → has_start line.outs ≡ true
    → StartReason s me past (before_outs line past)
start_reason {s = s} {me = me} {line = line} {past = past} it e =
    start_is (Says s me past line.tick line.what (before_outs line past)) line.outs (line_says it) e

-- the line that asked for the operation that is out
pub record AskedBy (op : DiskOp) (log : List Line) : Type 0 where
  pub line : Line
  pub past : List Line
  pub back : Before (line ∷ past) log
  pub gave : disk_of line.outs ≡ Some op
  pub place : ask_place log ≡ suc (length past)
  pub tick : ask_tick log ≡ line.tick

asked_more : (op : DiskOp) (line : Line) (past : List Line) → AskedBy op past → disk_of line.outs ≡ None → AskedBy op (line ∷ past)
unfolding ask_place ask_tick
asked_more op line past asked none = record {
  line = asked.line;
  past = asked.past;
  back = Later line asked.back;
  gave = asked.gave;
  place = ap (λ o. if is_some o then suc (length past) else ask_place past) none ∙ asked.place;
  tick = ap (λ o. if is_some o then line.tick else ask_tick past) none ∙ asked.tick;
}

asked_here : (op : DiskOp) (line : Line) (past : List Line) → disk_of line.outs ≡ Some op → AskedBy op (line ∷ past)
unfolding ask_place ask_tick
asked_here op line past some = record {
  line = line;
  past = past;
  back = Itself;
  gave = some;
  place = ap (λ o. if is_some o then suc (length past) else ask_place past) some;
  tick = ap (λ o. if is_some o then line.tick else ask_tick past) some;
}

pub ask_line : (op : DiskOp) (log : List Line) → op_out log ≡ Some op → AskedBy op log
unfolding op_out
ask_line op [] e = none_is_not_some op e
ask_line op (line ∷ past) e = by_outs (disk_of line.outs) (is_answer line.what) refl e (λ was. ask_line op past was)
  where
    by_outs : (given : Option DiskOp) (answer : Bool) → disk_of line.outs ≡ given → option_or given (if answer then None else op_out past) ≡ Some op
        → (op_out past ≡ Some op → AskedBy op past) → AskedBy op (line ∷ past)
    by_outs (Some other) answer gave is rest = asked_here op line past (gave ∙ is)
    by_outs None true gave is rest = none_is_not_some op is
    by_outs None false gave is rest = asked_more op line past (rest is) gave

some_out : (op : Option DiskOp) (entry : What) → answers_op op entry ≡ true → (o : DiskOp) × (op ≡ Some o) × (answers_op (Some o) entry ≡ true)
some_out (Some op) entry e = (op, refl, e)
some_out None entry e = absurd (false≢true e)

-- the line that asked for an answer
pub record AnswerOf (line : Line) (past : List Line) : Type 0 where
  pub op : DiskOp
  pub out : op_out past ≡ Some op
  pub answer : answers_op (Some op) line.what ≡ true
  pub asked : AskedBy op past
  pub place : line.asked ≡ suc (length asked.past)

pub answer_of : {s : Settings} {me : ℕ} {line : Line} {past : List Line} → IsLine s me line past → is_answer line.what ≡ true → AnswerOf line past
answer_of {s = s} {me = me} {line = line} {past = past} it is =
    let some = some_out (op_out past) line.what (fitting_answers s me past line.what is it.fitting) in
    let asked = ask_line some.0 past some.1 in
    record {
      op = some.0;
      out = some.1;
      answer = some.2;
      asked = asked;
      place = it.place ∙ ap (λ b. if b then ask_place past else 0) is ∙ asked.place;
    }

pub nothing_claimed : claimed [] ≡ None
unfolding claimed
nothing_claimed = refl
