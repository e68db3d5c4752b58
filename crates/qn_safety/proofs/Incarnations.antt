-- The numbers and the slots of incarnations in the world, and the reported holders.
use Rattle.std.proofs.Common.{◌≡◌, ℕ, ◌<◌, Bool, true, false, List, [], ◌∷◌, length, Some, None, Option, refl, sym, ap, ◌∙◌, subst, arith, cond, ◌&&◌, ◌⊎◌, inl, inr, is_some}
use Rattle.std.proofs.lemmas.Bool.{false≢true, eqb-true}
use Rattle.qn_base.specs.Members.{is_member}
use Rattle.qn_model.specs.declared.configuration.Settings.{Settings}
use Rattle.qn_model.specs.declared.times.Timing.{Timing}
use Rattle.qn_model.specs.declared.life.Phase.{Phase}
use Rattle.qn_model.specs.declared.life.Phase.TheVariants.{Booting, Up, Leaving, Dying, Gone}
use Rattle.qn_model.specs.declared.outputs.DiskOp.{DiskOp}
use Rattle.qn_model.specs.declared.outputs.DiskOp.TheVariants as disk
use Rattle.qn_model.specs.Log.{incarnation}
use Rattle.qn_model.specs.Phases.{phase, is_leaving}
use Rattle.qn_model.specs.Holding.{holds}
use Rattle.qn_model.specs.Moments.{Before}
use Rattle.qn_model.specs.Moments.{is_holder}
use Rattle.qn_model.specs.Rules.{passes}
use Rattle.qn_safety.specs.Closing.{is_close, asked_close}
use Rattle.qn_safety.specs.Reported.{OneReported}
use Rattle.qn_safety.specs.Timed.{IsUp, IsSameBoot, AllRuled, NumbersRise}
use Rattle.qn_model.specs.declared.events.Event.{Event}
use Rattle.qn_model.specs.World.{World, node_at, op_at}
use Rattle.qn_model.specs.Steps.{run}
use Rattle.std.specs.Prelude.{fold, bit_or, max, ◌^◌}
use Rattle.std.specs.Int.{bit_at}
use Rattle.std.specs.List.{range_with_len}
use Rattle.std.proofs.Common.{filter}
use Rattle.std.proofs.lemmas.Bool.{cases_eq}
use Rattle.std.proofs.lemmas.Nat.Bits.{bit_at_or, bit_at-zero, bit_at-pow_other, bit_at-lt}
use Rattle.qn_base.specs.lemmas.Bools.{first_of_both}
use Rattle.qn_base.specs.lemmas.Elements.{IsIn, First, Behind}
use Rattle.qn_model.specs.Steps.{AllAllowed, holders}
use Rattle.qn_safety.specs.Closing.{has_landed_close}
use Rattle.qn_safety.proofs.Apt.{is_apt, apt}
use Rattle.qn_safety.proofs.Stays.{close_stays, closed_never}
use Rattle.qn_safety.proofs.Runs.{sound, span}
use Rattle.qn_safety.proofs.Numbers.{up_number}
use Rattle.qn_safety.proofs.Events.{IsAllowed, allowed_of, stage, moments_grow}
use Rattle.qn_safety.proofs.Rising.{numbers_rise}
use Rattle.qn_model.specs.Timing.{is_safe}
use Rattle.qn_safety.proofs.Holders.{holder_of_allowed}

pub incarnations_rise : (s : Settings) (t : Timing) (events : List Event) → AllAllowed s t events → NumbersRise s (run s t events).moments
incarnations_rise s t events all = numbers_rise (allowed_of s t events all)

-- a node that is up has its number in its slot
pub slot_of_up : (s : Settings) (t : Timing) (events : List Event) (rank : ℕ) → IsAllowed s t events → IsUp s rank (run s t events).moments
    → incarnation (node_at s rank (run s t events)).log ≡ Some ((run s t events).slots rank).incarnation
slot_of_up s t events rank allowed up =
    let here = stage allowed in
    let state = sound here.ruled rank in
    let named = up_number state.made up.booted (state.living up.on) in
    named.has ∙ sym named.claims ∙ ((here.held rank).kept up.on).numbered up.booted

pub up_slot : (s : Settings) (t : Timing) (events : List Event) (rank : ℕ) → AllAllowed s t events → IsUp s rank (run s t events).moments
    → incarnation (node_at s rank (run s t events)).log ≡ Some ((run s t events).slots rank).incarnation
up_slot s t events rank all = slot_of_up s t events rank (allowed_of s t events all)

-- and the slot is dirty until its close landed
pub up_dirty : (s : Settings) (t : Timing) (events : List Event) (rank : ℕ) → AllAllowed s t events → IsUp s rank (run s t events).moments
    → has_landed_close s rank (run s t events) ≡ false → ((run s t events).slots rank).clean ≡ false
up_dirty s t events rank all up open' = (((stage (allowed_of s t events all)).held rank).kept up.on).dirty up.booted open'

-- a node that runs and has a close out is leaving
close_leaves : (p : Phase) (out : Option DiskOp) → is_apt out p ≡ true → is_close out ≡ true → is_leaving p ≡ true
close_leaves Leaving out a c = refl
close_leaves Booting (Some (disk.WriteClose number)) a c = absurd (false≢true a)
close_leaves Booting None a c = absurd (false≢true c)
close_leaves Booting (Some disk.ReadHeader) a c = absurd (false≢true c)
close_leaves Booting (Some (disk.ReadSlot rank)) a c = absurd (false≢true c)
close_leaves Booting (Some disk.CheckMail) a c = absurd (false≢true c)
close_leaves Booting (Some (disk.WriteClaim number)) a c = absurd (false≢true c)
close_leaves Booting (Some disk.WriteClear) a c = absurd (false≢true c)
close_leaves Booting (Some disk.ReadMail) a c = absurd (false≢true c)
close_leaves Booting (Some (disk.WriteReset rank)) a c = absurd (false≢true c)
close_leaves Up (Some (disk.WriteClose number)) a c = absurd (false≢true a)
close_leaves Up None a c = absurd (false≢true c)
close_leaves Up (Some disk.ReadHeader) a c = absurd (false≢true c)
close_leaves Up (Some (disk.ReadSlot rank)) a c = absurd (false≢true c)
close_leaves Up (Some disk.CheckMail) a c = absurd (false≢true c)
close_leaves Up (Some (disk.WriteClaim number)) a c = absurd (false≢true c)
close_leaves Up (Some disk.WriteClear) a c = absurd (false≢true c)
close_leaves Up (Some disk.ReadMail) a c = absurd (false≢true c)
close_leaves Up (Some (disk.WriteReset rank)) a c = absurd (false≢true c)
close_leaves Dying None a c = absurd (false≢true c)
close_leaves Dying (Some op) a c = absurd (false≢true a)
close_leaves Gone None a c = absurd (false≢true c)
close_leaves Gone (Some op) a c = absurd (false≢true a)

pub landed_close_leaves : (s : Settings) (t : Timing) (events : List Event) (rank : ℕ) → AllAllowed s t events → has_landed_close s rank (run s t events) ≡ true
    → is_leaving (phase s (node_at s rank (run s t events)).log) ≡ true
landed_close_leaves s t events rank all landed' =
    let here = stage (allowed_of s t events all) in
    close_leaves (phase s (node_at s rank (run s t events)).log) (op_at s rank (run s t events)) (apt ((sound here.ruled rank).made))
    (first_of_both (is_close (op_at s rank (run s t events))) (is_some ((run s t events).took rank)) landed')

-- from the asking for its close on an incarnation holds nothing
pub closed_holds_nothing : (s : Settings) (t : Timing) (events earlier : List Event) (rank : ℕ) → AllAllowed s t events → Before earlier events
    → asked_close (node_at s rank (run s t earlier)).log ≡ true → IsSameBoot s rank (run s t earlier).moments (run s t events).moments
    → is_holder s (run s t events).moments rank ≡ false
closed_holds_nothing s t events earlier rank all back asked same = by_on (node_at s rank (run s t events)).on refl
  where
    ruled : AllRuled s t (run s t events).moments
    ruled = (stage (allowed_of s t events all)).ruled

    by_on : (b : Bool) → (node_at s rank (run s t events)).on ≡ b → ((node_at s rank (run s t events)).on && holds (node_at s rank (run s t events)).log) ≡ false
    by_on false off = ap (λ b. b && holds (node_at s rank (run s t events)).log) off
    by_on true on =
        let spans = span rank ruled (moments_grow s t back) same on in
        ap (λ b. b && holds (node_at s rank (run s t events)).log) on ∙ (closed_never ((sound ruled rank).made) (close_stays spans.grows asked)).idle

-- a member of a set of ranks is one of them
max_one : (a b : ℕ) → a < 2 → b < 2 → max a b ≡ 1 → (a ≡ 1) ⊎ (b ≡ 1)
max_one a b a_bit b_bit e = by_order (cases_eq a 1)
  where
    by_order : (a ≡ 1) ⊎ ((a ≡ 1) → ⊥) → (a ≡ 1) ⊎ (b ≡ 1)
    by_order (inl one) = inl one
    by_order (inr other) = inr (omega arith)

in_set : (ranks : List ℕ) (start i : ℕ) → bit_at (fold (λ mask rank. bit_or mask (2 ^ rank)) start ranks) i ≡ 1 → (bit_at start i ≡ 1) ⊎ IsIn i ranks
in_set [] start i e = inl e
in_set (rank ∷ ranks) start i e = by_rest (in_set ranks (bit_or start (2 ^ rank)) i e)
  where
    by_rank : (i ≡ rank) ⊎ ((i ≡ rank) → ⊥) → bit_at (2 ^ rank) i ≡ 1 → IsIn i (rank ∷ ranks)
    by_rank (inl same) one = subst (λ r. IsIn i (r ∷ ranks)) same First
    by_rank (inr other) one = absurd (let none = bit_at-pow_other rank i other in omega arith)

    by_first : (bit_at start i ≡ 1) ⊎ (bit_at (2 ^ rank) i ≡ 1) → (bit_at start i ≡ 1) ⊎ IsIn i (rank ∷ ranks)
    by_first (inl one) = inl one
    by_first (inr one) = inr (by_rank (cases_eq i rank) one)

    by_rest : (bit_at (bit_or start (2 ^ rank)) i ≡ 1) ⊎ IsIn i ranks → (bit_at start i ≡ 1) ⊎ IsIn i (rank ∷ ranks)
    by_rest (inl one) = by_first (max_one (bit_at start i) (bit_at (2 ^ rank) i) (bit_at-lt start i) (bit_at-lt (2 ^ rank) i) (sym (bit_at_or start (2 ^ rank) i) ∙ one))
    by_rest (inr more) = inr (Behind rank more)

in_filter : (test : ℕ → Bool) (i : ℕ) (ranks : List ℕ) → IsIn i (filter test ranks) → test i ≡ true
in_filter test i [] there = elim there [ ]
in_filter test i (rank ∷ ranks) there = by_test (test rank) refl there (λ more. in_filter test i ranks more)
  where
    first_or : {y : ℕ} {ys : List ℕ} → IsIn i (y ∷ ys) → (i ≡ y) ⊎ IsIn i ys
    first_or First = inl refl
    first_or (Behind y more) = inr more

    newest : test rank ≡ true → (i ≡ rank) ⊎ IsIn i (filter test ranks) → (IsIn i (filter test ranks) → test i ≡ true) → test i ≡ true
    newest passes (inl same) rest = ap test same ∙ passes
    newest passes (inr more) rest = rest more

    by_test : (b : Bool) → test rank ≡ b → IsIn i (cond b (rank ∷ filter test ranks) (filter test ranks)) → (IsIn i (filter test ranks) → test i ≡ true) → test i ≡ true
    by_test true passes it rest = newest passes (first_or it) rest
    by_test false refused it rest = rest it

pub reported_holder : (s : Settings) (w : World) (i : ℕ) → is_member (holders s w) i ≡ true → is_holder s w.moments i ≡ true
reported_holder s w i member =
    by_bit (in_set (filter (is_holder s w.moments) (range_with_len 0 (length s.nodes))) 0 i (eqb-true _ 1 member))
  where
    by_bit : (bit_at 0 i ≡ 1) ⊎ IsIn i (filter (is_holder s w.moments) (range_with_len 0 (length s.nodes))) → is_holder s w.moments i ≡ true
    by_bit (inl one) = absurd (let none = bit_at-zero i in omega arith)
    by_bit (inr there) = in_filter (is_holder s w.moments) i (range_with_len 0 (length s.nodes)) there

-- at most one holder is reported
pub one_of_allowed : (s : Settings) (t : Timing) (events : List Event) (i j : ℕ) → is_safe t ≡ true → IsAllowed s t events
    → is_member (holders s (run s t events)) i ≡ true → is_member (holders s (run s t events)) j ≡ true → i ≡ j
one_of_allowed s t events i j safe allowed first second =
    holder_of_allowed s t events i j safe allowed (reported_holder s (run s t events) i first) (reported_holder s (run s t events) j second)

pub one_reported : OneReported
one_reported s t events i j safe all = one_of_allowed s t events i j safe (allowed_of s t events all)
