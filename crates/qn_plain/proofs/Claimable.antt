-- While a boot goes on, one more than the incarnation that was read can be claimed.
use Rattle.std.proofs.Common.{◌≡◌, ℕ, ◌<◌, ◌-◌, ◌^◌, Bool, true, false, List, [], ◌∷◌, Option, None, Some, lit<, refl, arith}
use Rattle.std.specs.Prelude.{IsTrue, if◌then◌else◌, nat_lt, unwrap_or}
use Rattle.std.proofs.lemmas.Bool.Decides.{nat_tests}
use Rattle.qn_base.specs.declared.ids.Rank.{Rank}
use Rattle.qn_model.specs.declared.configuration.Settings.{Settings}
use Rattle.qn_model.specs.declared.seen.SlotSeen.{SlotSeen}
use Rattle.qn_model.specs.declared.seen.SlotSeen.TheVariants as slot
use Rattle.qn_model.specs.declared.entries.What.{What}
use Rattle.qn_model.specs.declared.entries.What.TheVariants as what
use Rattle.qn_model.specs.declared.life.Phase.{Phase}
use Rattle.qn_model.specs.declared.life.Phase.TheVariants.{Booting, Up, Leaving, Dying, Gone}
use Rattle.qn_model.specs.declared.outputs.BootCause.{BootCause}
use Rattle.qn_model.specs.declared.outputs.BootCause.TheVariants as cause
use Rattle.qn_model.specs.Log.{Line, number_read, slot_number}
use Rattle.qn_model.specs.Phases.{boot_phase, is_booting, slot_halt}
use Rattle.qn_model.specs.Fitting.{fits, read_as}
use Rattle.qn_model.specs.NodeOutputs.{is_begin}
use Rattle.qn_plain.specs.declared.life.Life.{Life}
use Rattle.qn_plain.specs.Life.{IsClaimable, life_taken}

abbrev IsBooting : Phase → Type 0
IsBooting phase = IsTrue (is_booting phase)

-- a boot that goes on after a step was under way before it
before_step : (halt : Option BootCause) (before : Phase) → IsBooting (boot_phase halt before) → IsBooting before
before_step None before boots = boots
before_step (Some cause) before boots = cc

before_claimed : (ok : Bool) (before : Phase) → IsBooting (if ok then before else Gone) → IsBooting before
before_claimed true before boots = boots
before_claimed false before boots = cc

before_mail : (deadly exits : Bool) (before : Phase) → IsBooting (if deadly then Dying else (if exits then Leaving else before)) → IsBooting before
before_mail true exits before boots = cc
before_mail false true before boots = cc
before_mail false false before boots = boots

cleared_ends : (ok : Bool) → IsBooting (if ok then Up else Gone) → ⊥
cleared_ends true boots = cc
cleared_ends false boots = cc

-- a boot goes on after a read of a slot only where its incarnation is not the greatest
unspent : (below : Bool) → IsBooting (boot_phase (if below then None else Some cause.IncarnationSpent) Booting) → below ≡ true
unspent true boots = refl
unspent false boots = cc

slot_claims : (rank : Rank) (seen : SlotSeen) (before : Phase) (number : ℕ)
    → IsBooting (if is_booting before then boot_phase (slot_halt seen) before else before)
    → unwrap_or (number_read (what.SlotRead rank seen)) number < 2 ^ 64 - 1
slot_claims rank (slot.Read own) Booting number boots =
    let below = unspent (nat_lt own.incarnation (2 ^ 64 - 1)) boots in grind (arith, nat_tests)
slot_claims rank slot.Damaged Booting number boots = cc
slot_claims rank slot.Failed Booting number boots = cc
slot_claims rank seen Up number boots = cc
slot_claims rank seen Leaving number boots = cc
slot_claims rank seen Dying number boots = cc
slot_claims rank seen Gone number boots = cc

-- an entry was taken in; one that begins a boot is the first
pub claimable_taken : (s : Settings) (tick : ℕ) (w : What) (life : Life) → (IsTrue (is_begin w) → life.slot_number < 2 ^ 64 - 1)
    → IsClaimable life → IsClaimable (life_taken s tick w life)
claimable_taken s tick what.Begin life first h = λ boots. first refl
claimable_taken s tick what.BeginClean life first h = λ boots. first refl
claimable_taken s tick (what.Header seen) life first h = λ boots. h (before_step _ life.phase boots)
claimable_taken s tick (what.SlotRead rank seen) life first h = λ boots. slot_claims rank seen life.phase life.slot_number boots
claimable_taken s tick (what.MailChecked seen) life first h = λ boots. h (before_step _ life.phase boots)
claimable_taken s tick (what.Claimed ok) life first h = λ boots. h (before_claimed ok life.phase boots)
claimable_taken s tick (what.Cleared ok) life first h = λ boots. absurd (cleared_ends ok boots)
claimable_taken s tick (what.MailRead seen) life first h = λ boots. h (before_mail _ _ life.phase boots)
claimable_taken s tick (what.MailWritten rank ok) life first h = h
claimable_taken s tick (what.View view) life first h = h
claimable_taken s tick (what.Ask ask) life first h = h
claimable_taken s tick (what.Tell tell) life first h = h
claimable_taken s tick (what.Device agrees) life first h = h
claimable_taken s tick what.Tick life first h = h
claimable_taken s tick (what.Stopped ok) life first h = h
claimable_taken s tick what.Leave life first h = λ boots. cc
claimable_taken s tick (what.Closed ok) life first h = λ boots. cc

-- what begins a boot fits only as the first entry, before which no slot was read
begins_if : (b : Bool) (s : Settings) (me : ℕ) (log : List Line) (w : What) → fits s me log w ≡ b
    → IsTrue (is_begin (if b then w else what.Tick)) → slot_number log < 2 ^ 64 - 1
unfolding slot_number
begins_if false s me log w fit begins = cc
begins_if true s me [] w fit begins = lit< tt
begins_if true s me (line ∷ past) what.Begin fit begins = cc
begins_if true s me (line ∷ past) what.BeginClean fit begins = cc
begins_if true s me (line ∷ past) (what.Header seen) fit begins = cc
begins_if true s me (line ∷ past) (what.SlotRead rank seen) fit begins = cc
begins_if true s me (line ∷ past) (what.MailChecked seen) fit begins = cc
begins_if true s me (line ∷ past) (what.Claimed ok) fit begins = cc
begins_if true s me (line ∷ past) (what.Cleared ok) fit begins = cc
begins_if true s me (line ∷ past) (what.MailRead seen) fit begins = cc
begins_if true s me (line ∷ past) (what.MailWritten rank ok) fit begins = cc
begins_if true s me (line ∷ past) (what.View view) fit begins = cc
begins_if true s me (line ∷ past) (what.Ask ask) fit begins = cc
begins_if true s me (line ∷ past) (what.Tell tell) fit begins = cc
begins_if true s me (line ∷ past) (what.Device agrees) fit begins = cc
begins_if true s me (line ∷ past) what.Tick fit begins = cc
begins_if true s me (line ∷ past) (what.Stopped ok) fit begins = cc
begins_if true s me (line ∷ past) what.Leave fit begins = cc
begins_if true s me (line ∷ past) (what.Closed ok) fit begins = cc

pub begins_first : (s : Settings) (me : ℕ) (log : List Line) (w : What) → IsTrue (is_begin (read_as s me log w)) → slot_number log < 2 ^ 64 - 1
begins_first s me log w begins = begins_if (fits s me log w) s me log w refl begins
