-- A joined run in which a node asks for a reset: the other one, whose slot is dirty, was not heard for three loops.
use Rattle.std.proofs.Common.{◌<◌, ℕ, suc, zero, Bool, true, false, List, [], ◌∷◌, ◌++◌, ◌+◌, ◌*◌, ◌^◌, ◌==◌, None, Some, if◌then◌else◌, refl, arith}
use Rattle.qn_base.specs.declared.calls.Call.TheVariants as call
use Rattle.qn_base.specs.declared.calls.Received.TheVariants as received
use Rattle.qn_base.specs.declared.ids.Said.{Said}
use Rattle.qn_base.specs.declared.ids.Standing.{Standing}
use Rattle.qn_base.specs.declared.ids.View.{View}
use Rattle.qn_model.specs.declared.times.Timing.{Timing}
use Rattle.qn_model.specs.declared.disk.Message.TheVariants as message
use Rattle.qn_model.specs.declared.packets.Packet.TheVariants as packet
use Rattle.qn_model.specs.lemmas.WorldSteps.{node_steps}
use Rattle.qn_model.specs.lemmas.TwoNodes.{two_nodes}
use Rattle.qn_model.specs.NodeOutputs.{log_from}
use Rattle.qn_model.specs.Sectors.{anonymous, header_bytes, header_bytes_in, mail_bytes, mail_place, slot_bytes, slot_place}
use Rattle.qn_model.specs.World.{failed}
use Rattle.qn_sector.specs.Reading.{header_in, mail_of, slot_of}
use Rattle.qn_candidate.specs.Candidate.{heaviest}
use Rattle.qn_member.specs.Maker.{ranks_that, with_ranks}
use Rattle.qn_member.specs.Naming.{least_sure}
use Rattle.qn_member.specs.NamingViews.{after_found, after_look, answer_at, view_found}
use Rattle.qn_wire.specs.Packets.{packet_bytes}
use Rattle.qn_live.specs.Choosing.{choice_plan}
use Rattle.qn_live.specs.Greetings.{sends_plan}
use Rattle.qn_live.specs.Performing.{disk_call, done, out_call, outs_plan, waits_after}
use Rattle.qn_live.specs.Runs.{clocked, greeted, handled, live_plan, parted, run_plan, settled}
use Rattle.qn_joined.specs.Stands.{after_spot, left_plan}
use Rattle.qn_joined.specs.Joints.{AllMayHappen, Begins, Feeds, Happening, Lands, Looks, Passes, Returns, happens, joint_after, looked_first, returned}
use Rattle.qn_service.specs.Unheard.{AreSent, AsksReset, ResetIsMet}

abbrev few_ticks : Timing
few_ticks = record { watchdog = 1000; msgwait = 1100; loop_ms = 1; read_limit = 10; feed_delay = 10 }

-- the second node was up once, and did not end cleanly
abbrev used_image : ℕ → List ℕ
used_image sector =
    if sector == 0 then header_bytes 2 few_ticks
    else (if sector == slot_place 0 then slot_bytes 1 (record { incarnation = 0; clean = true })
    else (if sector == slot_place 1 then slot_bytes 2 (record { incarnation = 1; clean = false })
    else mail_bytes (anonymous message.Empty)))

pub below_two : (P : ℕ → Type 0) → P 1 → P 0 → (rank : ℕ) → rank < 2 → P rank
below_two P two one zero below = one
below_two P two one (suc zero) below = two
below_two P two one (suc (suc rank)) below = absurd (omega arith)

-- Each list stands newest first. The first node boots.
abbrev boots : List Happening
boots =
    Returns 0 (call.Feed true)
    ∷ Returns 0 (call.Now 0)
    ∷ Returns 0 (call.Write (slot_place 0) (slot_bytes 1 (record { incarnation = 1; clean = false })) true)
    ∷ Lands 0
    ∷ Returns 0 (call.Feed true)
    ∷ Returns 0 (call.Now 0)
    ∷ Returns 0 (call.Read (slot_place 0) (slot_bytes 1 (record { incarnation = 0; clean = true })) true)
    ∷ Lands 0
    ∷ Returns 0 (call.Feed true)
    ∷ Returns 0 (call.Now 0)
    ∷ Returns 0 (call.Read 0 (header_bytes 2 few_ticks) true)
    ∷ Lands 0
    ∷ Looks 0 0
    ∷ Begins 0 false None None 20
    ∷ []

abbrev said_first : Said
said_first = record { hears = record { 0 = 1 }; follows = None; able = false }

abbrev said_alone : Said
said_alone = record { hears = record { 0 = 1 }; follows = Some (record { 0 = 0 }); able = true }

abbrev says_itself : Standing
says_itself = record { flags = 32; weight = 0 }

abbrev view_alone : View
view_alone = record { id = 1 * 2 ^ 56 + 1; members = record { 0 = 1 } }

-- it is up
abbrev is_up_then : List Happening
is_up_then =
    Returns 0 (call.Feed true)
    ∷ Returns 0 (call.Now 0)
    ∷ Returns 0 (call.Send (record { 0 = 1 }) (packet_bytes (packet.Heard (record { 0 = 0 }) said_first says_itself)) true)
    ∷ Returns 0 (call.Read (mail_place 0) (mail_bytes (anonymous message.Empty)) true)
    ∷ Lands 0
    ∷ Returns 0 (call.Feed true)
    ∷ Returns 0 (call.Now 0)
    ∷ Returns 0 (call.Write (mail_place 0) (mail_bytes (anonymous message.Empty)) true)
    ∷ Lands 0
    ∷ []

-- it hears nobody for three loops, and reads the other slot
abbrev sees_itself : List Happening
sees_itself =
    Returns 0 (call.Now 3)
    ∷ Returns 0 (call.Read (slot_place 1) (slot_bytes 2 (record { incarnation = 1; clean = false })) true)
    ∷ Lands 0
    ∷ Feeds 0
    ∷ Returns 0 (call.Feed true)
    ∷ Returns 0 (call.Now 3)
    ∷ Returns 0 (call.Send (record { 0 = 1 }) (packet_bytes (packet.Announce (record { 0 = 0 }) view_alone)) true)
    ∷ Returns 0 (call.Send (record { 0 = 1 }) (packet_bytes (packet.Heard (record { 0 = 0 }) said_alone says_itself)) true)
    ∷ Returns 0 (call.Read (mail_place 0) (mail_bytes (anonymous message.Empty)) true)
    ∷ Lands 0
    ∷ Returns 0 (call.Now 3)
    ∷ Returns 0 (call.Receive received.Nothing)
    ∷ Passes 3 []
    ∷ Returns 0 (call.Now 0)
    ∷ Returns 0 (call.Receive received.Nothing)
    ∷ []

abbrev asks_then : List Happening
asks_then = sees_itself ++ is_up_then ++ boots

abbrev MayBe : List Happening → Type 0
MayBe happenings = AllMayHappen two_nodes few_ticks used_image happenings

infixr 5 ◌▸◌
pub ◌▸◌ : {A B : Type 0} → A → B → A × B
newest ▸ earlier = (newest, earlier)

-- what the rows compute with
unfoldable pub row_steps : Bool
unfolding node_steps heaviest log_from header_bytes_in mail_bytes slot_bytes header_in mail_of slot_of failed ranks_that with_ranks least_sure view_found after_found answer_at after_look choice_plan sends_plan disk_call done out_call outs_plan waits_after clocked greeted handled settled live_plan parted run_plan left_plan after_spot returned looked_first happens joint_after AllMayHappen packet_bytes
row_steps = true

boots_may : MayBe boots
unfolding row_steps
boots_may =
    record { on = refl; asked = refl; waits = refl; answer = tt; spells = refl } ▸
    record { on = refl; asked = refl; waits = refl; answer = refl; spells = refl } ▸
    record { on = refl; asked = refl; waits = refl; answer = λ ok. refl; spells = refl } ▸
    (refl, refl, refl) ▸
    record { on = refl; asked = refl; waits = refl; answer = tt; spells = refl } ▸
    record { on = refl; asked = refl; waits = refl; answer = refl; spells = refl } ▸
    record { on = refl; asked = refl; waits = refl; answer = λ ok. refl; spells = refl } ▸
    (refl, refl, refl) ▸
    record { on = refl; asked = refl; waits = refl; answer = tt; spells = refl } ▸
    record { on = refl; asked = refl; waits = refl; answer = refl; spells = refl } ▸
    record { on = refl; asked = refl; waits = refl; answer = λ ok. refl; spells = refl } ▸
    (refl, refl, refl) ▸
    (refl, refl, refl) ▸
    (omega arith, omega arith, refl) ▸
    tt

up_may : MayBe (is_up_then ++ boots)
unfolding row_steps
up_may =
    record { on = refl; asked = refl; waits = refl; answer = tt; spells = refl } ▸
    record { on = refl; asked = refl; waits = refl; answer = refl; spells = refl } ▸
    record { on = refl; asked = refl; waits = refl; answer = tt; spells = refl } ▸
    record { on = refl; asked = refl; waits = refl; answer = λ ok. refl; spells = refl } ▸
    (refl, refl, refl) ▸
    record { on = refl; asked = refl; waits = refl; answer = tt; spells = refl } ▸
    record { on = refl; asked = refl; waits = refl; answer = refl; spells = refl } ▸
    record { on = refl; asked = refl; waits = refl; answer = λ ok. refl; spells = refl } ▸
    (refl, refl, refl) ▸
    boots_may

asks_may : MayBe asks_then
unfolding row_steps
asks_may =
    record { on = refl; asked = refl; waits = refl; answer = refl; spells = refl } ▸
    record { on = refl; asked = refl; waits = refl; answer = λ ok. refl; spells = refl } ▸
    (refl, refl, refl) ▸
    (refl, refl) ▸
    record { on = refl; asked = refl; waits = refl; answer = tt; spells = refl } ▸
    record { on = refl; asked = refl; waits = refl; answer = refl; spells = refl } ▸
    record { on = refl; asked = refl; waits = refl; answer = tt; spells = refl } ▸
    record { on = refl; asked = refl; waits = refl; answer = tt; spells = refl } ▸
    record { on = refl; asked = refl; waits = refl; answer = λ ok. refl; spells = refl } ▸
    (refl, refl, refl) ▸
    record { on = refl; asked = refl; waits = refl; answer = refl; spells = refl } ▸
    record { on = refl; asked = refl; waits = refl; answer = tt; spells = refl } ▸
    (below_two _ refl refl, refl) ▸
    record { on = refl; asked = refl; waits = refl; answer = refl; spells = refl } ▸
    record { on = refl; asked = refl; waits = refl; answer = tt; spells = refl } ▸
    up_may

-- no announcement comes
none_comes : AreSent two_nodes used_image asks_then
none_comes =
    tt ▸ tt ▸ tt ▸ tt ▸ tt ▸ tt ▸ tt ▸ tt ▸ tt ▸
    tt ▸ tt ▸ tt ▸ tt ▸ tt ▸ tt ▸ tt ▸ tt ▸ tt ▸
    tt ▸ tt ▸ tt ▸ tt ▸ tt ▸ tt ▸ tt ▸ tt ▸ tt ▸
    tt

asks_reset : AsksReset two_nodes used_image asks_then 0 (record { 0 = 1 })
unfolding row_steps
asks_reset = record { on = refl; asks = refl }

pub reset_is_met : ResetIsMet
reset_is_met =
    record {
      settings = two_nodes;
      timing = few_ticks;
      image = used_image;
      happenings = asks_then;
      rank = 0;
      other = record { 0 = 1 };
      may = asks_may;
      sent = none_comes;
      asks = asks_reset;
    }
