-- The record of a run of `count`.
use Rattle.std.proofs.Common.{◌≡◌, ◌≢◌, ◌⊎◌, inl, inr, ℕ, List, [], ◌∷◌, arith}
use Rattle.qn_model.specs.Lines.{Ending, Ended, ReadFailed}
use Rattle.qn_model.specs.CountText.{count_of}
use Rattle.qn_model.specs.CountEnding.{StatusFits, count_fits}
use Rattle.qn_commands.specs.declared.status.Status.{Status}
use Rattle.qn_commands.specs.declared.status.Status.TheVariants.{Done, BadSchedule, ReadFault, WriteFault}
use Rattle.qn_commands.specs.Commands.Count.{Counts}
use Rattle.qn_commands.specs.Reads.{Runs}
use Rattle.qn_commands.specs.RunLaws.{Ends, runs_complete, runs_done, runs_one_of, runs_unread}
use Rattle.qn_commands.specs.Seen.{NeverFall, Seen}
use Rattle.qn_commands.specs.Statuses.{IsOneOf}

abbrev statuses : List Status
statuses = Done ∷ BadSchedule ∷ ReadFault ∷ []

one_of : (ending : Ending) (status : ℕ) → StatusFits ending status → IsOneOf statuses status
one_of Ended status (inl zero) = inl zero
one_of Ended status (inr four) = inr (inl four)
one_of ReadFailed status (inl six) = inr (inr six)
one_of ReadFailed status (inr four) = inr (inl four)

read_whole : (status : ℕ) → StatusFits ReadFailed status → status ≢ 0
read_whole status (inl six) zero = omega arith
read_whole status (inr four) zero = omega arith

never_unread : (status : ℕ) → StatusFits Ended status → status ≢ 6
never_unread status (inl zero) six = omega arith
never_unread status (inr four) six = omega arith

laws : Ends statuses count_of
laws = record {
  one_of = λ ending bytes. one_of ending _ (count_fits ending bytes);
  read = λ bytes. read_whole _ (count_fits ReadFailed bytes);
  unread = λ bytes. never_unread _ (count_fits Ended bytes);
}

with_write_fault : {status : ℕ} {fails : Type 0} → IsOneOf statuses status ⊎ ((status ≡ 7) × fails) → IsOneOf (Done ∷ BadSchedule ∷ ReadFault ∷ WriteFault ∷ []) status
with_write_fault (inl (inl zero)) = inl zero
with_write_fault (inl (inr (inl four))) = inr (inl four)
with_write_fault (inl (inr (inr six))) = inr (inr (inl six))
with_write_fault (inr seven) = inr (inr (inr seven.0))

write_fault : {status : ℕ} {fails : Type 0} → IsOneOf statuses status ⊎ ((status ≡ 7) × fails) → status ≡ 7 → fails
write_fault (inl (inl zero)) seven = absurd (omega arith)
write_fault (inl (inr (inl four))) seven = absurd (omega arith)
write_fault (inl (inr (inr six))) seven = absurd (omega arith)
write_fault (inr failed) seven = failed.1

no_call : {status : ℕ} {fails : Type 0} → IsOneOf statuses status ⊎ ((status ≡ 7) × fails) → status ≢ 8
no_call (inl (inl zero)) eight = omega arith
no_call (inl (inr (inl four))) eight = omega arith
no_call (inl (inr (inr six))) eight = omega arith
no_call (inr failed) eight = let seven = failed.0 in omega arith

-- all that a run of `count` promises
pub counts : {before after : Seen} {status : ℕ} → Runs count_of before after status → NeverFall before after → Counts before after status
counts run never_fall =
    let ends = runs_one_of run laws in
    record {
      ran = run;
      complete = runs_complete run;
      done = runs_done run laws;
      statuses = with_write_fault ends;
      causes = record {
        never_fall = never_fall;
        read_fault = runs_unread run laws;
        write_fault = write_fault ends;
        env_fault = λ eight. absurd (no_call ends eight);
      };
    }
