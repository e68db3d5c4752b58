-- Counts and places of a log lie inside it.
use Rattle.std.proofs.Common.{◌≡◌, ◌≤◌, ◌++◌, ℕ, suc, List, [], ◌∷◌, length, Option, None, Some, if◌then◌else◌, is_some, refl, ap, arith}
use Rattle.std.specs.Option.{option_or}
use Rattle.qn_base.specs.lemmas.Numbers.{count_within, either_within}
use Rattle.qn_model.specs.declared.configuration.Settings.{Settings}
use Rattle.qn_model.specs.declared.entries.Entry.{Entry}
use Rattle.qn_model.specs.declared.outputs.DiskOp.{DiskOp}
use Rattle.qn_model.specs.Licences.{out_time, starts_out_time}
use Rattle.qn_model.specs.Log.{Line, ask_place, disk_of, is_answer, is_view, op_out}
use Rattle.qn_model.specs.NodeOutputs.{log_from, with_entry}
use Rattle.qn_model.specs.NodeVotes.{install}

-- the place of the last entry that asked
pub ask_place-within : (log : List Line) → ask_place log ≤ length log
unfolding ask_place
ask_place-within [] = omega arith
ask_place-within (line ∷ past) =
    let before = ask_place-within past in
    either_within (is_some (disk_of line.outs)) (suc (length past)) (ask_place past) (suc (length past)) (omega arith) (omega arith)

-- the place where the out-time of a rank began
pub out_time-within : (rank : ℕ) (log : List Line) → out_time rank log ≤ length log
unfolding out_time
out_time-within rank [] = omega arith
out_time-within rank (line ∷ past) =
    let before = out_time-within rank past in
    either_within (starts_out_time rank line.what) (suc (length past)) (out_time rank past) (suc (length past)) (omega arith) (omega arith)

-- the number of installs
pub install-within : (log : List Line) → install log ≤ length log
unfolding install
install-within [] = omega arith
install-within (line ∷ past) = count_within (is_view line.what) (install past) (length past) (install-within past)

-- the operation that the newest entry gave is out
pub op_out-newest : (line : Line) (past : List Line) (op : DiskOp) → disk_of line.outs ≡ Some op
    → op_out (line ∷ past) ≡ Some op
unfolding op_out
op_out-newest line past op gave = ap (λ o. option_or o (if is_answer line.what then None else op_out past)) gave

-- a history with one more entry
pub log_from-more : (s : Settings) (me : ℕ) (past : List Line) (history : List Entry) (entry : Entry)
    → log_from s me past (history ++ entry ∷ []) ≡ with_entry s me (log_from s me past history) entry
unfolding log_from
log_from-more s me past [] entry = refl
log_from-more s me past (first ∷ history) entry = log_from-more s me (with_entry s me past first) history entry
