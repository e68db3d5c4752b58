-- The lease line after the head of a schedule.
use Rattle.std.proofs.Common.{◌≡◌, ◌≤◌, ◌+◌, ℕ, Bool, true, false, cond, List, Option, Result, Ok, Err, IfOk, refl, sym, ap, ◌∙◌, subst}
use Rattle.qn_arbiter.specs.LeaseLine.{lease_of}
use Rattle.qn_playback.specs.declared.head.Head.{Head}
use Rattle.qn_playback.specs.Heads.{head_part, line_part}
use Rattle.qn_playback.specs.FurtherLines.{gives_judged, refuses_at_fault}
use Rattle.qn_playback.specs.Parts.{Gives, Refuses}
use Rattle.qn_safety.specs.declared.lease.Lease.{Lease}
use Rattle.qn_safety.specs.Lease.{is_safe_lease}
use Rattle.qn_model.specs.declared.configuration.Settings.{Settings}
use Rattle.qn_model.specs.declared.line_fault.LineFault.{LineFault}
use Rattle.qn_model.specs.Settings.{IsValid}
use Rattle.qn_model.specs.Timing.{is_safe}
use Rattle.qn_sched.specs.declared.replay_end.ReplayEnd.{ReplayEnd}
use Rattle.qn_replay.specs.declared.arbiter_head.ArbiterHead.{ArbiterHead}
use Rattle.qn_replay.specs.BesideHeads.{IsGoodArbiterHead, arbiter_head_part, head_with, lease_given, lease_in, safe_or_not, unsafe_end, with_lease}

module _ {a b c : Option (List ℕ)} (head : Head) (first : Gives head_part head a b) (line : List ℕ) (second : Gives (line_part head.lines) line b c) (read : List ℕ) (same : read ≡ line) where
  -- the line gives two times
  pub gives_lease : (lease : Lease) → lease_in (head.lines + 1) head.settings read ≡ Ok lease → Gives arbiter_head_part (head_with head lease) a c
  gives_lease lease is =
      gives_judged head_part (λ h. h.lines) lease_given head first line second (head_with head lease)
      (λ rest. ap (with_lease head rest) (ap (lease_in (head.lines + 1) head.settings) (sym same) ∙ is))

  -- the line is at fault
  pub refuses_lease : {at_end failed : Type 0} (end : ReplayEnd) → lease_in (head.lines + 1) head.settings read ≡ Err end → Refuses arbiter_head_part a c at_end failed end
  refuses_lease end is =
      refuses_at_fault head_part (λ h. h.lines) lease_given head first line second end
      (λ rest. ap (with_lease head rest) (ap (lease_in (head.lines + 1) head.settings) (sym same) ∙ is))

safe_times : (number : ℕ) (s : Settings) (times lease : Lease) (safe : Bool) → is_safe_lease s times ≡ safe
    → (let judged : Result Lease ReplayEnd = cond safe (Ok times) (Err (unsafe_end s times)) in judged) ≡ Ok lease → is_safe_lease s lease ≡ true
safe_times number s times lease true safe is = subst (λ (l : Lease). is_safe_lease s l ≡ true) (let same : times ≡ lease = cc in same) safe
safe_times number s times lease false safe is = absurd cc

read_safe : (number : ℕ) (s : Settings) (read : Result Lease LineFault) (lease : Lease) → safe_or_not number s read ≡ Ok lease → is_safe_lease s lease ≡ true
read_safe number s (Ok times) lease is = safe_times number s times lease (is_safe_lease s times) refl is
read_safe number s (Err fault) lease is = absurd cc

-- the times that a line gives are safe
pub lease_is_safe : (number : ℕ) (s : Settings) (line : List ℕ) (lease : Lease) → lease_in number s line ≡ Ok lease → is_safe_lease s lease ≡ true
lease_is_safe number s line lease is = read_safe number s (lease_of line) lease is

-- what is known of a head that was read
pub good_arbiter_head : (result : Result ArbiterHead ReplayEnd) → IfOk result (λ head. IsValid head.settings) → IfOk result (λ head. is_safe head.timing ≡ true)
    → IfOk result (λ head. is_safe_lease head.settings head.lease ≡ true) → IfOk result (λ head. head.lines ≤ 4294967296) → IfOk result IsGoodArbiterHead
good_arbiter_head (Ok head) valid safe safe_lease few = record { valid = valid; safe = safe; safe_lease = safe_lease; few_lines = few }
good_arbiter_head (Err end) valid safe safe_lease few = tt
