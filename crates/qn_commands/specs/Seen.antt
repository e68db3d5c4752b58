-- What a source, a sink and the outside of a node show at one moment: this project's profile.
use Rattle.std.specs.Prelude.{ℕ, ◌≤◌, List, Option}
use Rattle.qn_base.specs.declared.calls.Call.{Call}
use Rattle.qn_base.specs.Faults.{HasRisen}

-- a source: the bytes that are still to come, where it tells them, and the count of its faults
pub record Input : Type 0 where
  pub left : Option (List ℕ)
  pub faults : ℕ

-- a sink: the bytes that were written so far, where it tells them, and the count of its faults
pub record Output : Type 0 where
  pub written : Option (List ℕ)
  pub faults : ℕ

-- the outside of a node: the calls so far with their answers, where it tells them, and the count of its faults
pub record Outside : Type 0 where
  pub calls : Option (List Call)
  pub faults : ℕ

-- all three
pub record Seen : Type 0 where
  pub input : Input
  pub output : Output
  pub env : Outside

abbrev pub source : {I : Type 0} → (I → Option (List ℕ)) → (I → ℕ) → I → Input
source left faults input = record { left = left input; faults = faults input }

abbrev pub sink : {O : Type 0} → (O → Option (List ℕ)) → (O → ℕ) → O → Output
sink written faults out = record { written = written out; faults = faults out }

abbrev pub outside : {E : Type 0} → (E → Option (List Call)) → (E → ℕ) → E → Outside
outside calls faults env = record { calls = calls env; faults = faults env }

abbrev pub seen : Input → Output → Outside → Seen
seen input output env = record { input = input; output = output; env = env }

-- a read, a write, or a call failed
abbrev pub ReadFails : Input → Input → Type 0
ReadFails before after = HasRisen before.faults after.faults

abbrev pub WriteFails : Output → Output → Type 0
WriteFails before after = HasRisen before.faults after.faults

abbrev pub CallFails : Outside → Outside → Type 0
CallFails before after = HasRisen before.faults after.faults

-- no count of faults fell
pub record NeverFall (before after : Seen) : Type 0 where
  pub source : before.input.faults ≤ after.input.faults
  pub sink : before.output.faults ≤ after.output.faults
  pub env : before.env.faults ≤ after.env.faults
