-- A joined run in which a node that is alone starts its resource, and goes on running it.
use Rattle.std.proofs.Common.{◌<◌, ℕ, suc, zero, Bool, true, false, List, [], ◌∷◌, ◌++◌, ◌==◌, None, if◌then◌else◌, refl, subst, arith}
use Rattle.qn_base.specs.declared.calls.Call.TheVariants as call
use Rattle.qn_base.specs.declared.calls.Received.TheVariants as received
use Rattle.qn_model.specs.declared.times.Timing.{Timing}
use Rattle.qn_model.specs.declared.disk.Message.TheVariants as message
use Rattle.qn_model.specs.lemmas.WorldSteps.{node_steps}
use Rattle.qn_model.specs.lemmas.TwoNodes.{one_node}
use Rattle.qn_model.specs.Holding.{stop_due}
use Rattle.qn_model.specs.Moments.{Before, Itself, Later}
use Rattle.qn_model.specs.NodeOutputs.{log_from}
use Rattle.qn_model.specs.Sectors.{anonymous, header_bytes, header_bytes_in, mail_bytes, mail_place, slot_bytes, slot_place}
use Rattle.qn_model.specs.World.{failed}
use Rattle.qn_sector.specs.Reading.{header_in, mail_of, slot_of}
use Rattle.qn_candidate.specs.Candidate.{heaviest}
use Rattle.qn_member.specs.Maker.{ranks_that, with_ranks}
use Rattle.qn_member.specs.Naming.{least_sure}
use Rattle.qn_member.specs.NamingViews.{after_found, after_look, answer_at, view_found}
use Rattle.qn_live.specs.Choosing.{choice_plan}
use Rattle.qn_live.specs.Greetings.{sends_plan}
use Rattle.qn_live.specs.Performing.{disk_call, done, out_call, outs_plan, waits_after}
use Rattle.qn_live.specs.Runs.{clocked, greeted, handled, live_plan, parted, run_plan, settled}
use Rattle.qn_safety.specs.Earlier.{before_length, before_same}
use Rattle.qn_joined.specs.Stands.{after_spot, left_plan}
use Rattle.qn_joined.specs.Joints.{AllMayHappen, Begins, FitsImage, Happening, IsNewImage, Lands, Looks, Passes, Returns, happens, joint_after, looked_first, returned}
use Rattle.qn_service.specs.Between.{MayOwn, OwnerIsWell}

abbrev pub quick_ticks : Timing
quick_ticks = record { watchdog = 1000; msgwait = 1100; loop_ms = 1; read_limit = 10; feed_delay = 10 }

abbrev pub fresh_image : ℕ → List ℕ
fresh_image sector =
    if sector == 0 then header_bytes 1 quick_ticks
    else (if sector == slot_place 0 then slot_bytes 1 (record { incarnation = 0; clean = true }) else mail_bytes (anonymous message.Empty))

pub below_one : (P : ℕ → Type 0) → P 0 → (rank : ℕ) → rank < 1 → P rank
below_one P one zero below = one
below_one P one (suc rank) below = absurd (omega arith)

-- Each list stands newest first. The node boots, is up, has a view of itself, and starts.
abbrev pub starts_then : List Happening
starts_then =
    Returns 0 (call.Now 0)
    ∷ Returns 0 (call.Receive received.Nothing)
    ∷ Returns 0 (call.Feed true)
    ∷ Returns 0 (call.Now 0)
    ∷ Returns 0 (call.Read (mail_place 0) (mail_bytes (anonymous message.Empty)) true)
    ∷ Lands 0
    ∷ Returns 0 (call.Feed true)
    ∷ Returns 0 (call.Now 0)
    ∷ Returns 0 (call.Write (mail_place 0) (mail_bytes (anonymous message.Empty)) true)
    ∷ Lands 0
    ∷ Returns 0 (call.Feed true)
    ∷ Returns 0 (call.Now 0)
    ∷ Returns 0 (call.Write (slot_place 0) (slot_bytes 1 (record { incarnation = 1; clean = false })) true)
    ∷ Lands 0
    ∷ Returns 0 (call.Feed true)
    ∷ Returns 0 (call.Now 0)
    ∷ Returns 0 (call.Read (slot_place 0) (slot_bytes 1 (record { incarnation = 0; clean = true })) true)
    ∷ Lands 0
    ∷ Returns 0 (call.Feed true)
    ∷ Returns 0 (call.Now 0)
    ∷ Returns 0 (call.Read 0 (header_bytes 1 quick_ticks) true)
    ∷ Lands 0
    ∷ Looks 0 0
    ∷ Begins 0 false None None 40
    ∷ []

-- its start returns, a loop passes, and it looks again
abbrev goes_on_then : List Happening
goes_on_then = Returns 0 (call.Now 1) ∷ Returns 0 (call.Receive received.Nothing) ∷ Passes 1 [] ∷ Returns 0 (call.Start true) ∷ []

abbrev pub MayBe : List Happening → Type 0
MayBe happenings = AllMayHappen one_node quick_ticks fresh_image happenings

infixr 5 ◌▸◌
◌▸◌ : {A B : Type 0} → A → B → A × B
newest ▸ earlier = (newest, earlier)

-- what the rows compute with
unfoldable pub row_steps : Bool
unfolding node_steps heaviest log_from header_bytes_in mail_bytes slot_bytes header_in mail_of slot_of failed ranks_that with_ranks least_sure view_found after_found answer_at after_look choice_plan sends_plan disk_call done out_call outs_plan waits_after clocked greeted handled settled live_plan parted run_plan left_plan after_spot returned looked_first happens joint_after AllMayHappen
row_steps = true

pub starts_may : MayBe starts_then
unfolding row_steps
starts_may =
    record { on = refl; asked = refl; waits = refl; answer = refl; spells = refl } ▸
    record { on = refl; asked = refl; waits = refl; answer = tt; spells = refl } ▸
    record { on = refl; asked = refl; waits = refl; answer = tt; spells = refl } ▸
    record { on = refl; asked = refl; waits = refl; answer = refl; spells = refl } ▸
    record { on = refl; asked = refl; waits = refl; answer = λ ok. refl; spells = refl } ▸
    (refl, refl, refl) ▸
    record { on = refl; asked = refl; waits = refl; answer = tt; spells = refl } ▸
    record { on = refl; asked = refl; waits = refl; answer = refl; spells = refl } ▸
    record { on = refl; asked = refl; waits = refl; answer = λ ok. refl; spells = refl } ▸
    (refl, refl, refl) ▸
    record { on = refl; asked = refl; waits = refl; answer = tt; spells = refl } ▸
    record { on = refl; asked = refl; waits = refl; answer = refl; spells = refl } ▸
    record { on = refl; asked = refl; waits = refl; answer = λ ok. refl; spells = refl } ▸
    (refl, refl, refl) ▸
    record { on = refl; asked = refl; waits = refl; answer = tt; spells = refl } ▸
    record { on = refl; asked = refl; waits = refl; answer = refl; spells = refl } ▸
    record { on = refl; asked = refl; waits = refl; answer = λ ok. refl; spells = refl } ▸
    (refl, refl, refl) ▸
    record { on = refl; asked = refl; waits = refl; answer = tt; spells = refl } ▸
    record { on = refl; asked = refl; waits = refl; answer = refl; spells = refl } ▸
    record { on = refl; asked = refl; waits = refl; answer = λ ok. refl; spells = refl } ▸
    (refl, refl, refl) ▸
    (refl, refl, refl) ▸
    (omega arith, omega arith, refl) ▸
    tt

goes_on_may : MayBe (goes_on_then ++ starts_then)
unfolding row_steps
goes_on_may =
    record { on = refl; asked = refl; waits = refl; answer = refl; spells = refl } ▸
    record { on = refl; asked = refl; waits = refl; answer = tt; spells = refl } ▸
    (below_one _ refl, refl) ▸
    record { on = refl; asked = refl; waits = refl; answer = tt; spells = refl } ▸
    starts_may

pub image_fits : FitsImage one_node quick_ticks
image_fits = record { some = omega arith; few = omega arith; times = refl; ids = below_one _ (omega arith, omega arith) }

pub image_is_new : IsNewImage one_node quick_ticks fresh_image
image_is_new = record { header = refl; slots = below_one _ refl; mails = below_one _ refl }

-- each of five joints
each_of_five : (P : List Happening → Type 0) (older : List Happening) (a b c d : Happening) → P older → P (d ∷ older) → P (c ∷ d ∷ older) → P (b ∷ c ∷ d ∷ older)
    → P (a ∷ b ∷ c ∷ d ∷ older) → (mid : List Happening) → Before older mid → Before mid (a ∷ b ∷ c ∷ d ∷ older) → P mid
each_of_five P older a b c d first second third fourth fifth mid since Itself = fifth
each_of_five P older a b c d first second third fourth fifth mid since (Later a' Itself) = fourth
each_of_five P older a b c d first second third fourth fifth mid since (Later a' (Later b' Itself)) = third
each_of_five P older a b c d first second third fourth fifth mid since (Later a' (Later b' (Later c' Itself))) = second
each_of_five P older a b c d first second third fourth fifth mid since (Later a' (Later b' (Later c' (Later d' back)))) =
    subst P (before_same since (before_length back)) first

abbrev OwnsWell : List Happening → Type 0
OwnsWell happenings = MayOwn one_node fresh_image 0 happenings

well_first : OwnsWell starts_then
unfolding row_steps
well_first = record { on = refl; up = refl; quorate = refl; kept = refl }

well_started : OwnsWell (Returns 0 (call.Start true) ∷ starts_then)
unfolding row_steps
well_started = record { on = refl; up = refl; quorate = refl; kept = refl }

well_passed : OwnsWell (Passes 1 [] ∷ Returns 0 (call.Start true) ∷ starts_then)
unfolding row_steps
well_passed = record { on = refl; up = refl; quorate = refl; kept = refl }

well_received : OwnsWell (Returns 0 (call.Receive received.Nothing) ∷ Passes 1 [] ∷ Returns 0 (call.Start true) ∷ starts_then)
unfolding row_steps
well_received = record { on = refl; up = refl; quorate = refl; kept = refl }

well_last : OwnsWell (goes_on_then ++ starts_then)
unfolding row_steps
well_last = record { on = refl; up = refl; quorate = refl; kept = refl }

pub owner_is_well : OwnerIsWell
unfolding row_steps stop_due
owner_is_well =
    record {
      settings = one_node;
      timing = quick_ticks;
      image = fresh_image;
      newer = goes_on_then;
      older = starts_then;
      rank = 0;
      safe = refl;
      some = omega arith;
      joined = record { fits = image_fits; created = image_is_new; may = goes_on_may };
      runs = refl;
      calm = refl;
      well = each_of_five OwnsWell starts_then _ _ _ _ well_first well_started well_passed well_received well_last;
    }
