-- A joined run in which the resources of two nodes run, one after the other, with a reset between.
use Rattle.std.proofs.Common.{◌≡◌, ◌<◌, ℕ, suc, zero, Bool, true, false, List, [], ◌∷◌, ◌++◌, ◌+◌, ◌*◌, ◌^◌, ◌==◌, None, Some, if◌then◌else◌, refl, arith}
use Rattle.qn_base.specs.declared.calls.Call.TheVariants as call
use Rattle.qn_base.specs.declared.calls.Received.TheVariants as received
use Rattle.qn_base.specs.declared.ids.Said.{Said}
use Rattle.qn_base.specs.declared.ids.Standing.{Standing}
use Rattle.qn_base.specs.declared.ids.View.{View}
use Rattle.qn_base.specs.lemmas.Numbers.{one_is_not_zero}
use Rattle.qn_model.specs.declared.times.Timing.{Timing}
use Rattle.qn_model.specs.declared.disk.Message.TheVariants as message
use Rattle.qn_model.specs.declared.packets.Packet.TheVariants as packet
use Rattle.qn_model.specs.lemmas.WorldSteps.{node_steps}
use Rattle.qn_model.specs.lemmas.TwoNodes.{two_nodes}
use Rattle.qn_model.specs.NodeOutputs.{log_from}
use Rattle.qn_model.specs.Sectors.{anonymous, header_bytes, header_bytes_in, mail_bytes, mail_place, slot_bytes, slot_place}
use Rattle.qn_model.specs.World.{failed}
use Rattle.qn_sector.specs.Reading.{header_in, mail_of, slot_of}
use Rattle.qn_candidate.specs.Candidate.{heaviest}
use Rattle.qn_member.specs.Maker.{ranks_that, with_ranks}
use Rattle.qn_member.specs.Naming.{least_sure}
use Rattle.qn_member.specs.NamingViews.{after_found, after_look, answer_at, view_found}
use Rattle.qn_wire.specs.Packets.{packet_bytes}
use Rattle.qn_live.specs.Choosing.{choice_plan}
use Rattle.qn_live.specs.Greetings.{sends_plan}
use Rattle.qn_live.specs.Performing.{disk_call, done, out_call, outs_plan, reset_by, waits_after}
use Rattle.qn_live.specs.Runs.{clocked, greeted, handled, live_plan, parted, run_plan, settled}
use Rattle.qn_joined.specs.Stands.{after_spot, left_plan}
use Rattle.qn_joined.specs.Joints.{AllMayHappen, FitsImage, Happening, Begins, Ends, Feeds, Lands, Looks, Passes, Returns, IsNewImage, is_deadly_mail, happens, joint_after, looked_first, returned, runs_at}
use Rattle.qn_joined.specs.Theorem.{OneAfterAnother}

abbrev pub short_times : Timing
short_times = record { watchdog = 1000; msgwait = 1100; loop_ms = 1; read_limit = 10; feed_delay = 10 }

abbrev pub new_image : ℕ → List ℕ
new_image sector =
    if sector == 0 then header_bytes 2 short_times
    else (if sector == slot_place 0 then slot_bytes 1 (record { incarnation = 0; clean = true })
    else (if sector == slot_place 1 then slot_bytes 2 (record { incarnation = 0; clean = true })
    else mail_bytes (anonymous message.Empty)))

pub of_two : (P : ℕ → Type 0) → P 0 → P 1 → (rank : ℕ) → rank < 2 → P rank
of_two P one two zero below = one
of_two P one two (suc zero) below = two
of_two P one two (suc (suc rank)) below = absurd (omega arith)

-- Each list stands newest first. A node boots: it reads its header and its slot, and claims an incarnation.
abbrev pub claims : ℕ → List Happening
claims me =
    Returns me (call.Feed true)
    ∷ Returns me (call.Now 0)
    ∷ Returns me (call.Write (slot_place me) (slot_bytes (me + 1) (record { incarnation = 1; clean = false })) true)
    ∷ Lands me
    ∷ Returns me (call.Feed true)
    ∷ Returns me (call.Now 0)
    ∷ Returns me (call.Read (slot_place me) (slot_bytes (me + 1) (record { incarnation = 0; clean = true })) true)
    ∷ Lands me
    ∷ Returns me (call.Feed true)
    ∷ Returns me (call.Now 0)
    ∷ Returns me (call.Read 0 (header_bytes 2 short_times) true)
    ∷ Lands me
    ∷ Looks me 0
    ∷ Begins me false None None 20
    ∷ []

-- what a node says before its first look, and what it says where it sees itself alone: with two_node each node is able
abbrev pub begins_alone : ℕ → Said
begins_alone me = record { hears = record { 0 = 2 ^ me }; follows = None; able = false }

abbrev pub leads_alone : ℕ → Said
leads_alone me = record { hears = record { 0 = 2 ^ me }; follows = Some (record { 0 = me }); able = true }

-- what a node says of itself that knows names: that alone, and that it holds, so that it keeps
abbrev pub knows_names : Standing
knows_names = record { flags = 32; weight = 0 }

abbrev pub holds_and_keeps : Standing
holds_and_keeps = record { flags = 56; weight = 0 }

-- a view of that number that names a rank
abbrev pub named_view : ℕ → ℕ → ℕ → View
named_view rank number members = record { id = (rank + 1) * 2 ^ 56 + number; members = record { 0 = members } }

-- it clears its mailbox and reads it: it is up, and says hello
abbrev pub comes_up : ℕ → ℕ → List Happening
comes_up me other =
    Returns me (call.Feed true)
    ∷ Returns me (call.Now 0)
    ∷ Returns me (call.Send (record { 0 = other }) (packet_bytes (packet.Heard (record { 0 = me }) (begins_alone me) knows_names)) true)
    ∷ Returns me (call.Read (mail_place me) (mail_bytes (anonymous message.Empty)) true)
    ∷ Lands me
    ∷ Returns me (call.Feed true)
    ∷ Returns me (call.Now 0)
    ∷ Returns me (call.Write (mail_place me) (mail_bytes (anonymous message.Empty)) true)
    ∷ Lands me
    ∷ []

-- it hears of nobody for three loops, and sees itself alone
abbrev pub is_alone : ℕ → ℕ → List Happening
is_alone me other =
    Feeds me
    ∷ Returns me (call.Feed true)
    ∷ Returns me (call.Now 3)
    ∷ Returns me (call.Send (record { 0 = other }) (packet_bytes (packet.Announce (record { 0 = me }) (named_view me 1 (2 ^ me)))) true)
    ∷ Returns me (call.Send (record { 0 = other }) (packet_bytes (packet.Heard (record { 0 = me }) (leads_alone me) knows_names)) true)
    ∷ Returns me (call.Read (mail_place me) (mail_bytes (anonymous message.Empty)) true)
    ∷ Lands me
    ∷ Returns me (call.Now 3)
    ∷ Returns me (call.Receive received.Nothing)
    ∷ Passes 3 []
    ∷ Returns me (call.Now 0)
    ∷ Returns me (call.Receive received.Nothing)
    ∷ []

-- it reads the slot of the other node, which is clean, and starts
abbrev starts : List Happening
starts =
    Returns 1 (call.Now 3)
    ∷ Returns 1 (call.Read (slot_place 0) (slot_bytes 1 (record { incarnation = 0; clean = true })) true)
    ∷ Lands 1
    ∷ []

abbrev pub start_alone : List Happening
start_alone = starts ++ is_alone 1 0 ++ comes_up 1 0 ++ claims 1

-- it reads the slot of the other node, which is dirty, and writes a reset
abbrev pub fences : List Happening
fences =
    Returns 0 (call.Now 3)
    ∷ Returns 0 (call.Write (mail_place 1) (mail_bytes (reset_by two_nodes 0 1)) true)
    ∷ Lands 0
    ∷ Returns 0 (call.Now 3)
    ∷ Returns 0 (call.Read (slot_place 1) (slot_bytes 2 (record { incarnation = 1; clean = false })) true)
    ∷ Lands 0
    ∷ []

-- it goes on feeding its watchdog, and starts once msgwait has passed
abbrev waits : List Happening
waits =
    Returns 0 (call.Now 1113)
    ∷ Returns 0 (call.Receive received.Nothing)
    ∷ Passes 120 []
    ∷ Feeds 0
    ∷ Returns 0 (call.Feed true)
    ∷ Returns 0 (call.Now 993)
    ∷ Returns 0 (call.Send (record { 0 = 1 }) (packet_bytes (packet.Announce (record { 0 = 0 }) (named_view 0 1 1))) true)
    ∷ Returns 0 (call.Send (record { 0 = 1 }) (packet_bytes (packet.Heard (record { 0 = 0 }) (leads_alone 0) knows_names)) true)
    ∷ Returns 0 (call.Read (mail_place 0) (mail_bytes (anonymous message.Empty)) true)
    ∷ Lands 0
    ∷ Returns 0 (call.Now 993)
    ∷ Returns 0 (call.Receive received.Nothing)
    ∷ Passes 990 []
    ∷ []

-- the machine of the second node ends, and the first node takes over
abbrev pub take_over : List Happening
take_over = waits ++ fences ++ is_alone 0 1 ++ comes_up 0 1 ++ claims 0 ++ Ends 1 ∷ []

abbrev May : List Happening → Type 0
May happenings = AllMayHappen two_nodes short_times new_image happenings

-- the newest happening may happen, and so might the earlier ones
infixr 5 ◌▸◌
pub ◌▸◌ : {A B : Type 0} → A → B → A × B
newest ▸ earlier = (newest, earlier)

-- what the rows compute with
unfoldable pub joint_steps : Bool
unfolding node_steps heaviest log_from header_bytes_in mail_bytes slot_bytes header_in mail_of slot_of failed ranks_that with_ranks least_sure view_found after_found answer_at after_look choice_plan sends_plan disk_call done out_call outs_plan waits_after clocked greeted handled settled live_plan parted run_plan left_plan after_spot returned looked_first happens joint_after AllMayHappen packet_bytes
joint_steps = true

claims_first : May (claims 1)
unfolding joint_steps
claims_first =
    record { on = refl; asked = refl; waits = refl; answer = tt; spells = refl } ▸
    record { on = refl; asked = refl; waits = refl; answer = refl; spells = refl } ▸
    record { on = refl; asked = refl; waits = refl; answer = λ ok. refl; spells = refl } ▸
    (refl, refl, refl) ▸
    record { on = refl; asked = refl; waits = refl; answer = tt; spells = refl } ▸
    record { on = refl; asked = refl; waits = refl; answer = refl; spells = refl } ▸
    record { on = refl; asked = refl; waits = refl; answer = λ ok. refl; spells = refl } ▸
    (refl, refl, refl) ▸
    record { on = refl; asked = refl; waits = refl; answer = tt; spells = refl } ▸
    record { on = refl; asked = refl; waits = refl; answer = refl; spells = refl } ▸
    record { on = refl; asked = refl; waits = refl; answer = λ ok. refl; spells = refl } ▸
    (refl, refl, refl) ▸
    (refl, refl, refl) ▸
    (omega arith, omega arith, refl) ▸
    tt

comes_up_first : May (comes_up 1 0 ++ claims 1)
unfolding joint_steps
comes_up_first =
    record { on = refl; asked = refl; waits = refl; answer = tt; spells = refl } ▸
    record { on = refl; asked = refl; waits = refl; answer = refl; spells = refl } ▸
    record { on = refl; asked = refl; waits = refl; answer = tt; spells = refl } ▸
    record { on = refl; asked = refl; waits = refl; answer = λ ok. refl; spells = refl } ▸
    (refl, refl, refl) ▸
    record { on = refl; asked = refl; waits = refl; answer = tt; spells = refl } ▸
    record { on = refl; asked = refl; waits = refl; answer = refl; spells = refl } ▸
    record { on = refl; asked = refl; waits = refl; answer = λ ok. refl; spells = refl } ▸
    (refl, refl, refl) ▸
    claims_first

alone_first : May (is_alone 1 0 ++ comes_up 1 0 ++ claims 1)
unfolding joint_steps
alone_first =
    (refl, refl) ▸
    record { on = refl; asked = refl; waits = refl; answer = tt; spells = refl } ▸
    record { on = refl; asked = refl; waits = refl; answer = refl; spells = refl } ▸
    record { on = refl; asked = refl; waits = refl; answer = tt; spells = refl } ▸
    record { on = refl; asked = refl; waits = refl; answer = tt; spells = refl } ▸
    record { on = refl; asked = refl; waits = refl; answer = λ ok. refl; spells = refl } ▸
    (refl, refl, refl) ▸
    record { on = refl; asked = refl; waits = refl; answer = refl; spells = refl } ▸
    record { on = refl; asked = refl; waits = refl; answer = tt; spells = refl } ▸
    (of_two _ refl refl, refl) ▸
    record { on = refl; asked = refl; waits = refl; answer = refl; spells = refl } ▸
    record { on = refl; asked = refl; waits = refl; answer = tt; spells = refl } ▸
    comes_up_first

start_may : May start_alone
unfolding joint_steps
start_may =
    record { on = refl; asked = refl; waits = refl; answer = refl; spells = refl } ▸
    record { on = refl; asked = refl; waits = refl; answer = λ ok. refl; spells = refl } ▸
    (refl, refl, refl) ▸
    alone_first

claims_second : May (claims 0 ++ Ends 1 ∷ start_alone)
unfolding joint_steps
claims_second =
    record { on = refl; asked = refl; waits = refl; answer = tt; spells = refl } ▸
    record { on = refl; asked = refl; waits = refl; answer = refl; spells = refl } ▸
    record { on = refl; asked = refl; waits = refl; answer = λ ok. refl; spells = refl } ▸
    (refl, refl, refl) ▸
    record { on = refl; asked = refl; waits = refl; answer = tt; spells = refl } ▸
    record { on = refl; asked = refl; waits = refl; answer = refl; spells = refl } ▸
    record { on = refl; asked = refl; waits = refl; answer = λ ok. refl; spells = refl } ▸
    (refl, refl, refl) ▸
    record { on = refl; asked = refl; waits = refl; answer = tt; spells = refl } ▸
    record { on = refl; asked = refl; waits = refl; answer = refl; spells = refl } ▸
    record { on = refl; asked = refl; waits = refl; answer = λ ok. refl; spells = refl } ▸
    (refl, refl, refl) ▸
    (refl, refl, refl) ▸
    (omega arith, omega arith, refl) ▸
    refl ▸
    start_may

comes_up_second : May (comes_up 0 1 ++ claims 0 ++ Ends 1 ∷ start_alone)
unfolding joint_steps
comes_up_second =
    record { on = refl; asked = refl; waits = refl; answer = tt; spells = refl } ▸
    record { on = refl; asked = refl; waits = refl; answer = refl; spells = refl } ▸
    record { on = refl; asked = refl; waits = refl; answer = tt; spells = refl } ▸
    record { on = refl; asked = refl; waits = refl; answer = λ ok. refl; spells = refl } ▸
    (refl, refl, refl) ▸
    record { on = refl; asked = refl; waits = refl; answer = tt; spells = refl } ▸
    record { on = refl; asked = refl; waits = refl; answer = refl; spells = refl } ▸
    record { on = refl; asked = refl; waits = refl; answer = λ ok. refl; spells = refl } ▸
    (refl, refl, refl) ▸
    claims_second

alone_second : May (is_alone 0 1 ++ comes_up 0 1 ++ claims 0 ++ Ends 1 ∷ start_alone)
unfolding joint_steps
alone_second =
    (refl, refl) ▸
    record { on = refl; asked = refl; waits = refl; answer = tt; spells = refl } ▸
    record { on = refl; asked = refl; waits = refl; answer = refl; spells = refl } ▸
    record { on = refl; asked = refl; waits = refl; answer = tt; spells = refl } ▸
    record { on = refl; asked = refl; waits = refl; answer = tt; spells = refl } ▸
    record { on = refl; asked = refl; waits = refl; answer = λ ok. refl; spells = refl } ▸
    (refl, refl, refl) ▸
    record { on = refl; asked = refl; waits = refl; answer = refl; spells = refl } ▸
    record { on = refl; asked = refl; waits = refl; answer = tt; spells = refl } ▸
    (of_two _ refl refl, refl) ▸
    record { on = refl; asked = refl; waits = refl; answer = refl; spells = refl } ▸
    record { on = refl; asked = refl; waits = refl; answer = tt; spells = refl } ▸
    comes_up_second

fences_second : May (fences ++ is_alone 0 1 ++ comes_up 0 1 ++ claims 0 ++ Ends 1 ∷ start_alone)
unfolding joint_steps
fences_second =
    record { on = refl; asked = refl; waits = refl; answer = refl; spells = refl } ▸
    record { on = refl; asked = refl; waits = refl; answer = λ ok. refl; spells = refl } ▸
    (refl, refl, refl) ▸
    record { on = refl; asked = refl; waits = refl; answer = refl; spells = refl } ▸
    record { on = refl; asked = refl; waits = refl; answer = λ ok. refl; spells = refl } ▸
    (refl, refl, refl) ▸
    alone_second

take_over_may : May (take_over ++ start_alone)
unfolding joint_steps
take_over_may =
    record { on = refl; asked = refl; waits = refl; answer = refl; spells = refl } ▸
    record { on = refl; asked = refl; waits = refl; answer = tt; spells = refl } ▸
    (of_two _ refl refl, refl) ▸
    (refl, refl) ▸
    record { on = refl; asked = refl; waits = refl; answer = tt; spells = refl } ▸
    record { on = refl; asked = refl; waits = refl; answer = refl; spells = refl } ▸
    record { on = refl; asked = refl; waits = refl; answer = tt; spells = refl } ▸
    record { on = refl; asked = refl; waits = refl; answer = tt; spells = refl } ▸
    record { on = refl; asked = refl; waits = refl; answer = λ ok. refl; spells = refl } ▸
    (refl, refl, refl) ▸
    record { on = refl; asked = refl; waits = refl; answer = refl; spells = refl } ▸
    record { on = refl; asked = refl; waits = refl; answer = tt; spells = refl } ▸
    (of_two _ refl refl, refl) ▸
    fences_second

first_runs : runs_at two_nodes new_image start_alone 1 ≡ true
unfolding joint_steps
first_runs = refl

second_runs : runs_at two_nodes new_image (take_over ++ start_alone) 0 ≡ true
unfolding joint_steps
second_runs = refl

reset_stands : is_deadly_mail ((joint_after two_nodes new_image (take_over ++ start_alone)).image (mail_place 1)) ≡ true
unfolding joint_steps
reset_stands = refl

pub created : IsNewImage two_nodes short_times new_image
created = record { header = refl; slots = of_two _ refl refl; mails = of_two _ refl refl }

pub fits : FitsImage two_nodes short_times
fits =
    record { some = omega arith; few = omega arith; times = refl; ids = of_two _ (omega arith, omega arith) (omega arith, omega arith) }

pub one_after_another : OneAfterAnother
one_after_another =
    record {
      settings = two_nodes;
      timing = short_times;
      image = new_image;
      earlier = start_alone;
      later = take_over;
      first = 1;
      second = 0;
      safe = refl;
      joined = record { fits = fits; created = created; may = take_over_may };
      first_runs = first_runs;
      second_runs = second_runs;
      reset = reset_stands;
      differ = one_is_not_zero;
    }
