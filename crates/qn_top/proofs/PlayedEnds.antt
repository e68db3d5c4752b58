-- What the end of a replay, or of the status after it, says of the exit status.
use Rattle.std.proofs.Common.{◌≡◌, ◌≢◌, ◌⊎◌, inl, inr, ℕ, true, false, List, [], ◌∷◌, Option, None, Some, IfSome, refl, sym, ◌∙◌, subst, arith}
use Rattle.qn_conf.specs.declared.faults.ConfFault.{ConfFault}
use Rattle.qn_conf.specs.declared.faults.ConfFault.TheVariants as conf
use Rattle.qn_model.specs.Lines.{Ending, Ended, ReadFailed, Outcome}
use Rattle.qn_model.specs.World.{World}
use Rattle.qn_playback.specs.Endings.{FitsWith}
use Rattle.qn_playback.specs.Reading.{Rest}
use Rattle.qn_replay.specs.Endings.{ReplayFits}
use Rattle.qn_playback.specs.Worlds.{Progress}
use Rattle.qn_replay.specs.Replay.{replay_of}
use Rattle.qn_sched.specs.declared.replay_end.ReplayEnd.{ReplayEnd}
use Rattle.qn_sched.specs.declared.replay_end.ReplayEnd.TheVariants as end
use Rattle.qn_commands.specs.declared.status.Status.{Status}
use Rattle.qn_commands.specs.declared.status.Status.TheVariants.{Done, BadConf, BadSchedule, NotAllowed, ReadFault, UnsafeTiming, UnsafeLease, NoMemory}
use Rattle.qn_commands.specs.declared.fault.Fault.TheVariants as fault
use Rattle.qn_commands.specs.Endings.{AnswersWhole, Cut, Refuses, Whole}
use Rattle.qn_commands.specs.Faults.{conf_status}
use Rattle.qn_commands.specs.Reads.{Completes, IsCutOff, IsOver, Runs}
use Rattle.qn_commands.specs.RunLaws.{Ends, runs_complete, runs_done, runs_one_of, runs_unread}
use Rattle.qn_commands.specs.Seen.{NeverFall, Output, ReadFails, Seen, WriteFails}
use Rattle.qn_commands.specs.Statuses.{HasCauses, IsOneOf}
use Rattle.qn_top.specs.declared.command.Form.{Form}
use Rattle.qn_top.specs.Commands.Status.{RunsStatus, States, StatusEnds, Told as StatusTold, Wanted as StatusWanted, status_answer, status_behind}
use Rattle.qn_top.specs.ReplayEnds.{end_outcome}
use Rattle.qn_top.specs.Traces.{RunsTrace, Told, TraceEnds, Wanted, WritesTrace, lease_statuses, replay_statuses, trace_text}
use Rattle.qn_top.proofs.StatusLists.{all_in, found, has, included, lacks}

-- the statuses of what the input tells of
abbrev told : List Status
told = Done ∷ BadConf ∷ BadSchedule ∷ NotAllowed ∷ ReadFault ∷ UnsafeTiming ∷ NoMemory ∷ []

-- the same, with that of an unsafe lease
abbrev told_beside : List Status
told_beside = UnsafeLease ∷ told

-- each of the statuses that an input tells of is one of a command, beside those of a failed write and of no memory
record AreTold (ends allowed : List Status) : Type 0 where
  also : all_in ends allowed ≡ true
  no_write : has 7 ends ≡ false
  write : has 7 allowed ≡ true
  memory : has 11 allowed ≡ true
  no_call : has 8 allowed ≡ false

conf_one_of : (why : ConfFault) → IsOneOf told (conf_status why)
conf_one_of (conf.BadLine line) = inr (inl refl)
conf_one_of conf.Unclosed = inr (inl refl)
conf_one_of (conf.ExtraClose line) = inr (inl refl)
conf_one_of (conf.TooDeep line) = inr (inl refl)
conf_one_of conf.NotText = inr (inl refl)
conf_one_of conf.TooLong = inr (inl refl)
conf_one_of conf.NoMemory = inr (inr (inr (inr (inr (inr refl)))))

conf_other : (why : ConfFault) → (conf_status why ≢ 0) × (conf_status why ≢ 6)
conf_other (conf.BadLine line) = (λ zero. omega arith, λ six. omega arith)
conf_other conf.Unclosed = (λ zero. omega arith, λ six. omega arith)
conf_other (conf.ExtraClose line) = (λ zero. omega arith, λ six. omega arith)
conf_other (conf.TooDeep line) = (λ zero. omega arith, λ six. omega arith)
conf_other conf.NotText = (λ zero. omega arith, λ six. omega arith)
conf_other conf.TooLong = (λ zero. omega arith, λ six. omega arith)
conf_other conf.NoMemory = (λ zero. omega arith, λ six. omega arith)

end_one_of : {leased : Type 0} (ended : ReplayEnd) (ending : Ending) → FitsWith leased ended ending
    → (leased × ((end_outcome ended).status ≡ 17)) ⊎ IsOneOf told (end_outcome ended).status
end_one_of (end.Done events) ending fits = inr (inl refl)
end_one_of (end.BadConf why) ending fits = inr (conf_one_of why)
end_one_of (end.BadSettings why) ending fits = inr (inr (inl refl))
end_one_of (end.BadSchedule line why) ending fits = inr (inr (inr (inl refl)))
end_one_of (end.NotAllowed line rule) ending fits = inr (inr (inr (inr (inl refl))))
end_one_of end.ReadFault ending fits = inr (inr (inr (inr (inr (inl refl)))))
end_one_of end.WriteFault ending never = absurd never
end_one_of (end.UnsafeTiming timing) ending fits = inr (inr (inr (inr (inr (inr (inl refl))))))
end_one_of (end.UnsafeLease timeout limit lease) ending leased = inl (leased, refl)
end_one_of end.NoMemory ending never = absurd never

-- status 0 is that of no input of which a read failed
zero_is_read : (leased : Type 0) (ended : ReplayEnd) → FitsWith leased ended ReadFailed → (end_outcome ended).status ≢ 0
zero_is_read leased (end.Done events) never zero = never
zero_is_read leased (end.BadConf why) fits zero = (conf_other why).0 zero
zero_is_read leased (end.BadSettings why) fits zero = omega arith
zero_is_read leased (end.BadSchedule line why) fits zero = omega arith
zero_is_read leased (end.NotAllowed line rule) fits zero = omega arith
zero_is_read leased end.ReadFault fits zero = omega arith
zero_is_read leased end.WriteFault never zero = never
zero_is_read leased (end.UnsafeTiming timing) fits zero = omega arith
zero_is_read leased (end.UnsafeLease timeout limit lease) fits zero = omega arith
zero_is_read leased end.NoMemory never zero = never

-- status 6 is that of no input that was read to its end
six_is_unread : (leased : Type 0) (ended : ReplayEnd) → FitsWith leased ended Ended → (end_outcome ended).status ≢ 6
six_is_unread leased (end.Done events) fits six = omega arith
six_is_unread leased (end.BadConf why) fits six = (conf_other why).1 six
six_is_unread leased (end.BadSettings why) fits six = omega arith
six_is_unread leased (end.BadSchedule line why) fits six = omega arith
six_is_unread leased (end.NotAllowed line rule) fits six = omega arith
six_is_unread leased end.ReadFault never six = never
six_is_unread leased end.WriteFault never six = never
six_is_unread leased (end.UnsafeTiming timing) fits six = omega arith
six_is_unread leased (end.UnsafeLease timeout limit lease) fits six = omega arith
six_is_unread leased end.NoMemory never six = never

-- the end of what is played of an input fits the way in which that ended
abbrev AllFit : {Last : Type 0} → Type 0 → Rest Last → Type 0
AllFit leased played_of = (ending : Ending) (bytes : List ℕ) → FitsWith leased (played_of ending bytes).end ending

-- no lease was judged
no_lease : (code : ℕ) → (⊥ × (code ≡ 17)) ⊎ IsOneOf told code → IsOneOf told code
no_lease code (inl never) = absurd never.0
no_lease code (inr is) = is

or_lease : (code : ℕ) → (Unit {0} × (code ≡ 17)) ⊎ IsOneOf told code → IsOneOf told_beside code
or_lease code (inl unsafe) = inl unsafe.1
or_lease code (inr is) = inr is

trace_laws : {Last : Type 0} (leased : Type 0) (ends : List Status) (played_of : Rest Last) → ((code : ℕ) → (leased × (code ≡ 17)) ⊎ IsOneOf told code → IsOneOf ends code)
    → AllFit leased played_of → Ends ends (trace_text played_of)
trace_laws leased ends played_of one_of fits = record {
  one_of = λ ending bytes. one_of (end_outcome (played_of ending bytes).end).status (end_one_of (played_of ending bytes).end ending (fits ending bytes));
  read = λ bytes. zero_is_read leased (played_of ReadFailed bytes).end (fits ReadFailed bytes);
  unread = λ bytes. six_is_unread leased (played_of Ended bytes).end (fits Ended bytes);
}

-- the status of a state after a schedule is that of the schedule
pub same_status : (form : Form) (ended : ReplayEnd) (last : Option (Progress World)) → (status_behind form ended last).status ≡ (end_outcome ended).status
same_status form (end.Done events) None = refl
same_status form (end.Done events) (Some last) = refl
same_status form (end.BadConf why) last = refl
same_status form (end.BadSettings why) last = refl
same_status form (end.BadSchedule line why) last = refl
same_status form (end.NotAllowed line rule) last = refl
same_status form end.ReadFault last = refl
same_status form end.WriteFault last = refl
same_status form (end.UnsafeTiming timing) last = refl
same_status form (end.UnsafeLease timeout limit lease) last = refl
same_status form end.NoMemory last = refl

status_laws : (form : Form) → ReplayFits → Ends told (status_answer form)
status_laws form fits = record {
  one_of = λ ending bytes.
      subst (IsOneOf told) (sym (same_status form (replay_of ending bytes).end (replay_of ending bytes).last))
      (no_lease (end_outcome (replay_of ending bytes).end).status (end_one_of (replay_of ending bytes).end ending (fits ending bytes)));
  read = λ bytes zero.
      zero_is_read ⊥ (replay_of ReadFailed bytes).end (fits ReadFailed bytes)
      (sym (same_status form (replay_of ReadFailed bytes).end (replay_of ReadFailed bytes).last) ∙ zero);
  unread = λ bytes six.
      six_is_unread ⊥ (replay_of Ended bytes).end (fits Ended bytes)
      (sym (same_status form (replay_of Ended bytes).end (replay_of Ended bytes).last) ∙ six);
}

-- what a command that plays a schedule promises besides its run
record Played (text_of : Ending → List ℕ → Outcome) (allowed : List Status) (before later : Seen) (status : ℕ) : Type 0 where
  complete : status ≢ 11 → ¬ ReadFails before.input later.input → ¬ WriteFails before.output later.output
      → IfSome before.input.left (λ bytes. AnswersWhole (text_of Ended bytes) before.output later.output status)
  done : status ≡ 0 → Completes text_of before later
  statuses : IsOneOf allowed status
  causes : HasCauses before later status

module _ {ends allowed : List Status} (are : AreTold ends allowed) where
  all_of : {write : Type 0} {status : ℕ} → IsOneOf ends status ⊎ ((status ≡ 7) × write) → IsOneOf allowed status
  all_of {status = status} (inl is) = included ends allowed status are.also is
  all_of {status = status} (inr seven) = found 7 allowed status are.write seven.0

  write_fault : {write : Type 0} {status : ℕ} → IsOneOf ends status ⊎ ((status ≡ 7) × write) → status ≡ 7 → write
  write_fault {status = status} (inl is) seven = absurd (lacks 7 ends status are.no_write is seven)
  write_fault (inr failed) seven = failed.1

  module _ {text_of : Ending → List ℕ → Outcome} {before later : Seen} {status : ℕ} (never_fall : NeverFall before later) where
    -- the text that the input tells of was written, or a prefix of it
    told_end : Ends ends text_of → Runs text_of before later status → Played text_of allowed before later status
    told_end laws run =
        let one = runs_one_of run laws in
        record {
          complete = λ memory. runs_complete run;
          done = runs_done run laws;
          statuses = all_of one;
          causes = record {
            never_fall = never_fall;
            read_fault = runs_unread run laws;
            write_fault = write_fault one;
            env_fault = λ eight. absurd (lacks 8 allowed status are.no_call (all_of one) eight);
          };
        }

    -- out of memory
    wanted_end : (status ≡ 11) ⊎ ((status ≡ 7) × WriteFails before.output later.output) → Played text_of allowed before later status
    wanted_end (inl eleven) = record {
      complete = λ memory. absurd (memory eleven);
      done = λ zero. absurd (omega arith);
      statuses = found 11 allowed status are.memory eleven;
      causes = record {
        never_fall = never_fall;
        read_fault = λ six. absurd (omega arith);
        write_fault = λ seven. absurd (omega arith);
        env_fault = λ eight. absurd (omega arith);
      };
    }
    wanted_end (inr failed) =
        let seven = failed.0 in
        record {
          complete = λ memory no_read no_write. absurd (no_write failed.1);
          done = λ zero. absurd (omega arith);
          statuses = found 7 allowed status are.write seven;
          causes = record {
            never_fall = never_fall;
            read_fault = λ six. absurd (omega arith);
            write_fault = λ again. failed.1;
            env_fault = λ eight. absurd (omega arith);
          };
        }

wanted_status : {before later : Output} {status : ℕ} → Refuses fault.NoMemory before later status → (status ≡ 11) ⊎ ((status ≡ 7) × WriteFails before later)
wanted_status (Whole is whole) = inl is
wanted_status (Cut is fails prefix) = inr (is, fails)

-- the statuses of a replay
plain : AreTold told replay_statuses
plain = record { also = refl; no_write = refl; write = refl; memory = refl; no_call = refl }

beside : AreTold told_beside lease_statuses
beside = record { also = refl; no_write = refl; write = refl; memory = refl; no_call = refl }

module _ {Last : Type 0} (played_of : Rest Last) {wanted : List ℕ → List ℕ → Type 0} {before later : Seen} {status : ℕ} (never_fall : NeverFall before later) where
  writes_as : {ends allowed : List Status} → AreTold ends allowed → Ends ends (trace_text played_of)
      → RunsTrace played_of wanted before later status → WritesTrace played_of wanted allowed before later status
  writes_as {allowed = allowed} are laws run =
      let played = of_ends run.ends in
      record { ran = run; complete = played.complete; done = played.done; statuses = played.statuses; causes = played.causes }
    where
      of_ends : TraceEnds played_of wanted run.taken (IsOver run.waiting later.input) (IsCutOff run.waiting before.input later.input) before.output later.output status
          → Played (trace_text played_of) allowed before later status
      of_ends (Told ends) =
          told_end are never_fall laws
          (record { taken = run.taken; waiting = run.waiting; takes = run.takes; needed = run.needed; within = run.within; ends = ends })
      of_ends (Wanted trace tells why refuses) = wanted_end are never_fall (wanted_status refuses)

  -- all that a run which writes a trace promises, where no lease is judged
  pub writes_trace : AllFit ⊥ played_of → RunsTrace played_of wanted before later status → WritesTrace played_of wanted replay_statuses before later status
  writes_trace fits run = writes_as plain (trace_laws ⊥ told played_of no_lease fits) run

  -- the same, where one is
  pub writes_beside : AllFit (Unit {0}) played_of → RunsTrace played_of wanted before later status → WritesTrace played_of wanted lease_statuses before later status
  writes_beside fits run = writes_as beside (trace_laws (Unit {0}) told_beside played_of or_lease fits) run

module _ {before later : Seen} {status : ℕ} (fits : ReplayFits) (never_fall : NeverFall before later) where
  -- all that a run of `status` promises
  pub states : (form : Form) → RunsStatus form before later status → States form before later status
  states form run =
      let played = of_ends run.ends in
      record { ran = run; complete = played.complete; done = played.done; statuses = played.statuses; causes = played.causes }
    where
      of_ends : StatusEnds form run.taken (IsOver run.waiting later.input) (IsCutOff run.waiting before.input later.input) before.output later.output status
          → Played (status_answer form) replay_statuses before later status
      of_ends (StatusTold ends) =
          told_end plain never_fall (status_laws form fits)
          (record { taken = run.taken; waiting = run.waiting; takes = run.takes; needed = run.needed; within = run.within; ends = ends })
      of_ends (StatusWanted refuses) = wanted_end plain never_fall (wanted_status refuses)
