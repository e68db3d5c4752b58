-- The records of `help` and of words that are no command.
use Rattle.std.proofs.Common.{◌≡◌, ◌≢◌, ◌≤◌, inl, inr, ℕ, arith}
use Rattle.qn_commands.specs.declared.fault.Fault.TheVariants as fault
use Rattle.qn_commands.specs.Endings.{Cut, Refuses, Says, Whole}
use Rattle.qn_commands.specs.Seen.{Input, Output, Outside, WriteFails, seen}
use Rattle.qn_commands.specs.Statuses.{HasCauses}
use Rattle.qn_top.specs.Commands.Help.{Helps, help_text}
use Rattle.qn_top.specs.Commands.Usage.{RefusesWords}

module _ (input : Input) (before later : Output) (env : Outside) (status : ℕ) (rises : before.faults ≤ later.faults) where
  -- no read, no call, and the cause of a failed write
  causes : (status ≡ 7 → WriteFails before later) → status ≢ 6 → status ≢ 8 → HasCauses (seen input before env) (seen input later env) status
  causes write no_read no_call = record {
    never_fall = record { source = omega arith; sink = rises; env = omega arith };
    read_fault = λ six. absurd (no_read six);
    write_fault = write;
    env_fault = λ eight. absurd (no_call eight);
  }

  pub helps : Says help_text 0 before later status → Helps (seen input before env) (seen input later env) status
  helps (Whole is whole) = record {
    says = Whole is whole;
    complete = λ no_write. is;
    statuses = inl is;
    causes = causes (λ seven. absurd (omega arith)) (λ six. omega arith) (λ eight. omega arith);
  }
  helps (Cut is fails prefix) = record {
    says = Cut is fails prefix;
    complete = λ no_write. absurd (no_write fails);
    statuses = inr is;
    causes = causes (λ seven. fails) (λ six. omega arith) (λ eight. omega arith);
  }

  pub refuses_words : Refuses fault.Usage before later status → RefusesWords (seen input before env) (seen input later env) status
  refuses_words (Whole is whole) = record {
    refuses = Whole is whole;
    statuses = inl is;
    causes = causes (λ seven. absurd (omega arith)) (λ six. omega arith) (λ eight. omega arith);
  }
  refuses_words (Cut is fails prefix) = record {
    refuses = Cut is fails prefix;
    statuses = inr is;
    causes = causes (λ seven. fails) (λ six. omega arith) (λ eight. omega arith);
  }
