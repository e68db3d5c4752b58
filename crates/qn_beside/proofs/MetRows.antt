-- Each of what happens in that run may happen, and what the nodes then see.
use Rattle.std.proofs.Common.{◌≡◌, ◌<◌, Bool, true, List, ◌++◌, Some, refl, sym, arith}
use Rattle.std.proofs.lemmas.Bool.{false≢true, leb-true}
use Rattle.qn_base.specs.lemmas.Numbers.{one_is_not_zero}
use Rattle.qn_model.specs.lemmas.WorldSteps.{node_steps}
use Rattle.qn_model.specs.NodeOutputs.{log_from}
use Rattle.qn_model.specs.NodeVotes.{answer_with_tie, view}
use Rattle.qn_model.specs.Moments.{tick_of}
use Rattle.qn_model.specs.Sectors.{header_bytes_in, mail_bytes, slot_bytes}
use Rattle.qn_model.specs.Votes.{votes_among}
use Rattle.qn_model.specs.World.{failed}
use Rattle.qn_sector.specs.Reading.{header_in, mail_of, slot_of}
use Rattle.qn_candidate.specs.Candidate.{heaviest}
use Rattle.qn_member.specs.Maker.{ranks_that, with_ranks}
use Rattle.qn_member.specs.Naming.{least_sure}
use Rattle.qn_member.specs.NamingViews.{after_found, after_look, answer_at, view_found}
use Rattle.qn_wire.specs.Packets.{packet_bytes}
use Rattle.qn_wire.specs.Reading.{packet_of}
use Rattle.qn_polls.specs.Polls.{poll_bytes, reply_bytes}
use Rattle.qn_polls.specs.Reading.{poll_of, reply_of}
use Rattle.qn_live.specs.Choosing.{choice_plan}
use Rattle.qn_live.specs.Greetings.{sends_plan}
use Rattle.qn_live.specs.Performing.{disk_call, done, out_call, outs_plan, waits_after}
use Rattle.qn_live.specs.Runs.{clocked, greeted, handled, live_plan, parted, run_plan, settled}
use Rattle.qn_joined.specs.Stands.{after_spot, left_plan, log_at}
use Rattle.qn_joined.specs.Joints.{FitsImage, IsNewImage, happens, is_timed, looked_first, returned}
use Rattle.qn_beside.specs.Beside.{AllMayHappenBeside, BesideHappening, beside_after, happens_beside}
use Rattle.qn_beside.specs.Laws.{IsQuorateHost}
use Rattle.qn_beside.specs.Met.{OneSideIsQuorate, host_after}
use Rattle.qn_beside.proofs.Device.{of_each_node, views_apart, with_device, with_device_valid}
use Rattle.qn_beside.proofs.MetRun.{alone, answered_0, answered_1, first_view, hears, misses, named_view, new_image, one_view, part_alone, part_answered_0, part_answered_1, part_misses, part_polls_0, part_polls_1, polls_0, polls_1, sees, short_lease, short_times, up_0, up_1}

abbrev May : List BesideHappening → Type 0
May happenings = AllMayHappenBeside (with_device 10) short_times short_lease new_image happenings

-- the newest happening may happen, and so might the earlier ones
infixr 5 ◌▸◌
◌▸◌ : {A B : Type 0} → A → B → A × B
newest ▸ earlier = (newest, earlier)

-- what the rows compute with
unfoldable beside_steps : Bool
unfolding node_steps heaviest log_from header_bytes_in mail_bytes slot_bytes header_in mail_of slot_of failed ranks_that with_ranks least_sure view_found after_found answer_at after_look choice_plan sends_plan disk_call done out_call outs_plan waits_after clocked greeted handled settled live_plan parted run_plan left_plan after_spot returned looked_first happens packet_bytes packet_of poll_bytes reply_bytes poll_of reply_of happens_beside beside_after AllMayHappenBeside
beside_steps = true

up_0_may : May up_0
unfolding beside_steps
up_0_may =
    (record { on = refl; asked = refl; waits = refl; answer = tt; spells = refl }, tt, record { hears = tt; spells = refl }, λ c. absurd (false≢true c)) ▸
    (record { on = refl; asked = refl; waits = refl; answer = refl; spells = refl }, tt, record { hears = tt; spells = refl }, λ c. absurd (false≢true c)) ▸
    (record { on = refl; asked = refl; waits = refl; answer = tt; spells = refl }, tt, record { hears = tt; spells = refl }, λ c. absurd (false≢true c)) ▸
    (record { on = refl; asked = refl; waits = refl; answer = λ ok. refl; spells = refl }, tt, record { hears = tt; spells = refl }, λ c. absurd (false≢true c)) ▸
    ((refl, refl, refl), tt, tt, λ c. absurd (false≢true c)) ▸
    (record { on = refl; asked = refl; waits = refl; answer = tt; spells = refl }, tt, record { hears = tt; spells = refl }, λ c. absurd (false≢true c)) ▸
    (record { on = refl; asked = refl; waits = refl; answer = refl; spells = refl }, tt, record { hears = tt; spells = refl }, λ c. absurd (false≢true c)) ▸
    (record { on = refl; asked = refl; waits = refl; answer = λ ok. refl; spells = refl }, tt, record { hears = tt; spells = refl }, λ c. absurd (false≢true c)) ▸
    ((refl, refl, refl), tt, tt, λ c. absurd (false≢true c)) ▸
    (record { on = refl; asked = refl; waits = refl; answer = tt; spells = refl }, tt, record { hears = tt; spells = refl }, λ c. absurd (false≢true c)) ▸
    (record { on = refl; asked = refl; waits = refl; answer = refl; spells = refl }, tt, record { hears = tt; spells = refl }, λ c. absurd (false≢true c)) ▸
    (record { on = refl; asked = refl; waits = refl; answer = λ ok. refl; spells = refl }, tt, record { hears = tt; spells = refl }, λ c. absurd (false≢true c)) ▸
    ((refl, refl, refl), tt, tt, λ c. absurd (false≢true c)) ▸
    (record { on = refl; asked = refl; waits = refl; answer = tt; spells = refl }, tt, record { hears = tt; spells = refl }, λ c. absurd (false≢true c)) ▸
    (record { on = refl; asked = refl; waits = refl; answer = refl; spells = refl }, tt, record { hears = tt; spells = refl }, λ c. absurd (false≢true c)) ▸
    (record { on = refl; asked = refl; waits = refl; answer = λ ok. refl; spells = refl }, tt, record { hears = tt; spells = refl }, λ c. absurd (false≢true c)) ▸
    ((refl, refl, refl), tt, tt, λ c. absurd (false≢true c)) ▸
    (record { on = refl; asked = refl; waits = refl; answer = tt; spells = refl }, tt, record { hears = tt; spells = refl }, λ c. absurd (false≢true c)) ▸
    (record { on = refl; asked = refl; waits = refl; answer = refl; spells = refl }, tt, record { hears = tt; spells = refl }, λ c. absurd (false≢true c)) ▸
    (record { on = refl; asked = refl; waits = refl; answer = λ ok. refl; spells = refl }, tt, record { hears = tt; spells = refl }, λ c. absurd (false≢true c)) ▸
    ((refl, refl, refl), tt, tt, λ c. absurd (false≢true c)) ▸
    ((refl, refl, refl), tt, tt, λ c. absurd (false≢true c)) ▸
    ((omega arith, omega arith, refl), refl, tt, λ c. absurd (false≢true c)) ▸
    ((of_each_node _ refl refl, refl), refl, refl) ▸
    (refl, refl) ▸
    refl ▸
    tt

up_1_may : May up_1
unfolding beside_steps
up_1_may =
    (record { on = refl; asked = refl; waits = refl; answer = tt; spells = refl }, tt, record { hears = tt; spells = refl }, λ c. absurd (false≢true c)) ▸
    (record { on = refl; asked = refl; waits = refl; answer = refl; spells = refl }, tt, record { hears = tt; spells = refl }, λ c. absurd (false≢true c)) ▸
    (record { on = refl; asked = refl; waits = refl; answer = tt; spells = refl }, tt, record { hears = tt; spells = refl }, λ c. absurd (false≢true c)) ▸
    (record { on = refl; asked = refl; waits = refl; answer = λ ok. refl; spells = refl }, tt, record { hears = tt; spells = refl }, λ c. absurd (false≢true c)) ▸
    ((refl, refl, refl), tt, tt, λ c. absurd (false≢true c)) ▸
    (record { on = refl; asked = refl; waits = refl; answer = tt; spells = refl }, tt, record { hears = tt; spells = refl }, λ c. absurd (false≢true c)) ▸
    (record { on = refl; asked = refl; waits = refl; answer = refl; spells = refl }, tt, record { hears = tt; spells = refl }, λ c. absurd (false≢true c)) ▸
    (record { on = refl; asked = refl; waits = refl; answer = λ ok. refl; spells = refl }, tt, record { hears = tt; spells = refl }, λ c. absurd (false≢true c)) ▸
    ((refl, refl, refl), tt, tt, λ c. absurd (false≢true c)) ▸
    (record { on = refl; asked = refl; waits = refl; answer = tt; spells = refl }, tt, record { hears = tt; spells = refl }, λ c. absurd (false≢true c)) ▸
    (record { on = refl; asked = refl; waits = refl; answer = refl; spells = refl }, tt, record { hears = tt; spells = refl }, λ c. absurd (false≢true c)) ▸
    (record { on = refl; asked = refl; waits = refl; answer = λ ok. refl; spells = refl }, tt, record { hears = tt; spells = refl }, λ c. absurd (false≢true c)) ▸
    ((refl, refl, refl), tt, tt, λ c. absurd (false≢true c)) ▸
    (record { on = refl; asked = refl; waits = refl; answer = tt; spells = refl }, tt, record { hears = tt; spells = refl }, λ c. absurd (false≢true c)) ▸
    (record { on = refl; asked = refl; waits = refl; answer = refl; spells = refl }, tt, record { hears = tt; spells = refl }, λ c. absurd (false≢true c)) ▸
    (record { on = refl; asked = refl; waits = refl; answer = λ ok. refl; spells = refl }, tt, record { hears = tt; spells = refl }, λ c. absurd (false≢true c)) ▸
    ((refl, refl, refl), tt, tt, λ c. absurd (false≢true c)) ▸
    (record { on = refl; asked = refl; waits = refl; answer = tt; spells = refl }, tt, record { hears = tt; spells = refl }, λ c. absurd (false≢true c)) ▸
    (record { on = refl; asked = refl; waits = refl; answer = refl; spells = refl }, tt, record { hears = tt; spells = refl }, λ c. absurd (false≢true c)) ▸
    (record { on = refl; asked = refl; waits = refl; answer = λ ok. refl; spells = refl }, tt, record { hears = tt; spells = refl }, λ c. absurd (false≢true c)) ▸
    ((refl, refl, refl), tt, tt, λ c. absurd (false≢true c)) ▸
    ((refl, refl, refl), tt, tt, λ c. absurd (false≢true c)) ▸
    ((omega arith, omega arith, refl), refl, tt, λ c. absurd (false≢true c)) ▸
    up_0_may

hears_may : May hears
unfolding beside_steps
hears_may =
    (record { on = refl; asked = refl; waits = refl; answer = refl; spells = refl }, tt, record { hears = tt; spells = refl }, λ c. absurd (false≢true c)) ▸
    (record { on = refl; asked = refl; waits = refl; answer = λ c. absurd (false≢true c); spells = refl }, tt, record { hears = λ c. absurd (false≢true c); spells = refl }, λ c. absurd (false≢true c)) ▸
    (record { on = refl; asked = refl; waits = refl; answer = refl; spells = refl }, tt, record { hears = tt; spells = refl }, λ c. absurd (false≢true c)) ▸
    (record { on = refl; asked = refl; waits = refl; answer = λ c. absurd (false≢true c); spells = refl }, tt, record { hears = λ c. absurd (false≢true c); spells = refl }, λ c. absurd (false≢true c)) ▸
    up_1_may

sees_may : May sees
unfolding beside_steps
sees_may =
    (record { on = refl; asked = refl; waits = refl; answer = refl; spells = refl }, tt, record { hears = tt; spells = refl }, λ c. absurd (false≢true c)) ▸
    (record { on = refl; asked = refl; waits = refl; answer = λ c. absurd (false≢true c); spells = refl }, tt, record { hears = λ c. absurd (false≢true c); spells = refl }, λ c. absurd (false≢true c)) ▸
    (record { on = refl; asked = refl; waits = refl; answer = tt; spells = refl }, tt, record { hears = tt; spells = refl }, λ c. absurd (false≢true c)) ▸
    (record { on = refl; asked = refl; waits = refl; answer = refl; spells = refl }, tt, record { hears = tt; spells = refl }, λ c. absurd (false≢true c)) ▸
    (record { on = refl; asked = refl; waits = refl; answer = tt; spells = refl }, tt, record { hears = tt; spells = refl }, λ c. absurd (false≢true c)) ▸
    (record { on = refl; asked = refl; waits = refl; answer = λ ok. refl; spells = refl }, tt, record { hears = tt; spells = refl }, λ c. absurd (false≢true c)) ▸
    ((refl, refl, refl), tt, tt, λ c. absurd (false≢true c)) ▸
    (record { on = refl; asked = refl; waits = refl; answer = refl; spells = refl }, tt, record { hears = tt; spells = refl }, λ c. absurd (false≢true c)) ▸
    (record { on = refl; asked = refl; waits = refl; answer = λ c. absurd (false≢true c); spells = refl }, tt, record { hears = λ c. absurd (false≢true c); spells = refl }, λ c. absurd (false≢true c)) ▸
    (record { on = refl; asked = refl; waits = refl; answer = tt; spells = refl }, tt, record { hears = tt; spells = refl }, λ c. absurd (false≢true c)) ▸
    (record { on = refl; asked = refl; waits = refl; answer = refl; spells = refl }, tt, record { hears = tt; spells = refl }, λ c. absurd (false≢true c)) ▸
    (record { on = refl; asked = refl; waits = refl; answer = tt; spells = refl }, tt, record { hears = tt; spells = refl }, λ c. absurd (false≢true c)) ▸
    (record { on = refl; asked = refl; waits = refl; answer = λ ok. refl; spells = refl }, tt, record { hears = tt; spells = refl }, λ c. absurd (false≢true c)) ▸
    ((refl, refl, refl), tt, tt, λ c. absurd (false≢true c)) ▸
    (record { on = refl; asked = refl; waits = refl; answer = refl; spells = refl }, tt, record { hears = tt; spells = refl }, λ c. absurd (false≢true c)) ▸
    (record { on = refl; asked = refl; waits = refl; answer = tt; spells = refl }, tt, record { hears = tt; spells = refl }, λ c. absurd (false≢true c)) ▸
    ((of_each_node _ refl refl, refl), refl, refl) ▸
    hears_may

first_view_may : May first_view
unfolding beside_steps
first_view_may =
    (record { on = refl; asked = refl; waits = refl; answer = tt; spells = refl }, tt, record { hears = tt; spells = refl }, λ c. absurd (false≢true c)) ▸
    (record { on = refl; asked = refl; waits = refl; answer = tt; spells = refl }, tt, record { hears = tt; spells = refl }, λ c. absurd (false≢true c)) ▸
    (record { on = refl; asked = refl; waits = refl; answer = tt; spells = refl }, tt, record { hears = tt; spells = refl }, λ c. absurd (false≢true c)) ▸
    (record { on = refl; asked = refl; waits = refl; answer = λ ok. refl; spells = refl }, tt, record { hears = tt; spells = refl }, λ c. absurd (false≢true c)) ▸
    ((refl, refl, refl), tt, tt, λ c. absurd (false≢true c)) ▸
    (record { on = refl; asked = refl; waits = refl; answer = tt; spells = refl }, tt, record { hears = tt; spells = refl }, λ c. absurd (false≢true c)) ▸
    (record { on = refl; asked = refl; waits = refl; answer = refl; spells = refl }, tt, record { hears = tt; spells = refl }, λ c. absurd (false≢true c)) ▸
    (record { on = refl; asked = refl; waits = refl; answer = λ c. absurd (false≢true c); spells = refl }, tt, record { hears = λ c. absurd (false≢true c); spells = refl }, λ c. absurd (false≢true c)) ▸
    (record { on = refl; asked = refl; waits = refl; answer = tt; spells = refl }, tt, record { hears = tt; spells = refl }, λ c. absurd (false≢true c)) ▸
    (record { on = refl; asked = refl; waits = refl; answer = refl; spells = refl }, tt, record { hears = tt; spells = refl }, λ c. absurd (false≢true c)) ▸
    (record { on = refl; asked = refl; waits = refl; answer = tt; spells = refl }, tt, record { hears = tt; spells = refl }, λ c. absurd (false≢true c)) ▸
    (record { on = refl; asked = refl; waits = refl; answer = λ ok. refl; spells = refl }, tt, record { hears = tt; spells = refl }, λ c. absurd (false≢true c)) ▸
    ((refl, refl, refl), tt, tt, λ c. absurd (false≢true c)) ▸
    (record { on = refl; asked = refl; waits = refl; answer = refl; spells = refl }, tt, record { hears = tt; spells = refl }, λ c. absurd (false≢true c)) ▸
    (record { on = refl; asked = refl; waits = refl; answer = tt; spells = refl }, tt, record { hears = tt; spells = refl }, λ c. absurd (false≢true c)) ▸
    ((of_each_node _ refl refl, refl), refl, refl) ▸
    sees_may

one_view_may : May one_view
unfolding beside_steps
one_view_may =
    (record { on = refl; asked = refl; waits = refl; answer = tt; spells = refl }, tt, record { hears = tt; spells = refl }, λ c. absurd (false≢true c)) ▸
    (record { on = refl; asked = refl; waits = refl; answer = tt; spells = refl }, tt, record { hears = tt; spells = refl }, λ c. absurd (false≢true c)) ▸
    (record { on = refl; asked = refl; waits = refl; answer = refl; spells = refl }, tt, record { hears = tt; spells = refl }, λ c. absurd (false≢true c)) ▸
    (record { on = refl; asked = refl; waits = refl; answer = λ c. absurd (false≢true c); spells = refl }, tt, record { hears = λ c. absurd (false≢true c); spells = refl }, λ c. absurd (false≢true c)) ▸
    (record { on = refl; asked = refl; waits = refl; answer = tt; spells = refl }, tt, record { hears = tt; spells = refl }, λ c. absurd (false≢true c)) ▸
    (record { on = refl; asked = refl; waits = refl; answer = refl; spells = refl }, tt, record { hears = tt; spells = refl }, λ c. absurd (false≢true c)) ▸
    first_view_may

misses_may : May misses
unfolding beside_steps
misses_may =
    (record { on = refl; asked = refl; waits = refl; answer = tt; spells = refl }, tt, record { hears = tt; spells = refl }, λ c. absurd (false≢true c)) ▸
    (record { on = refl; asked = refl; waits = refl; answer = refl; spells = refl }, tt, record { hears = tt; spells = refl }, λ c. absurd (false≢true c)) ▸
    (record { on = refl; asked = refl; waits = refl; answer = tt; spells = refl }, tt, record { hears = tt; spells = refl }, λ c. absurd (false≢true c)) ▸
    (record { on = refl; asked = refl; waits = refl; answer = tt; spells = refl }, tt, record { hears = tt; spells = refl }, λ c. absurd (false≢true c)) ▸
    (record { on = refl; asked = refl; waits = refl; answer = tt; spells = refl }, tt, record { hears = tt; spells = refl }, λ c. absurd (false≢true c)) ▸
    (record { on = refl; asked = refl; waits = refl; answer = λ ok. refl; spells = refl }, tt, record { hears = tt; spells = refl }, λ c. absurd (false≢true c)) ▸
    ((refl, refl, refl), tt, tt, λ c. absurd (false≢true c)) ▸
    (record { on = refl; asked = refl; waits = refl; answer = tt; spells = refl }, tt, record { hears = tt; spells = refl }, λ c. absurd (false≢true c)) ▸
    (record { on = refl; asked = refl; waits = refl; answer = refl; spells = refl }, tt, record { hears = tt; spells = refl }, λ c. absurd (false≢true c)) ▸
    (record { on = refl; asked = refl; waits = refl; answer = tt; spells = refl }, tt, record { hears = tt; spells = refl }, λ c. absurd (false≢true c)) ▸
    (record { on = refl; asked = refl; waits = refl; answer = tt; spells = refl }, tt, record { hears = tt; spells = refl }, λ c. absurd (false≢true c)) ▸
    (record { on = refl; asked = refl; waits = refl; answer = refl; spells = refl }, tt, record { hears = tt; spells = refl }, λ c. absurd (false≢true c)) ▸
    (record { on = refl; asked = refl; waits = refl; answer = tt; spells = refl }, tt, record { hears = tt; spells = refl }, λ c. absurd (false≢true c)) ▸
    (record { on = refl; asked = refl; waits = refl; answer = tt; spells = refl }, tt, record { hears = tt; spells = refl }, λ c. absurd (false≢true c)) ▸
    (record { on = refl; asked = refl; waits = refl; answer = tt; spells = refl }, tt, record { hears = tt; spells = refl }, λ c. absurd (false≢true c)) ▸
    (record { on = refl; asked = refl; waits = refl; answer = λ ok. refl; spells = refl }, tt, record { hears = tt; spells = refl }, λ c. absurd (false≢true c)) ▸
    ((refl, refl, refl), tt, tt, λ c. absurd (false≢true c)) ▸
    (record { on = refl; asked = refl; waits = refl; answer = tt; spells = refl }, tt, record { hears = tt; spells = refl }, λ c. absurd (false≢true c)) ▸
    (record { on = refl; asked = refl; waits = refl; answer = refl; spells = refl }, tt, record { hears = tt; spells = refl }, λ c. absurd (false≢true c)) ▸
    (record { on = refl; asked = refl; waits = refl; answer = tt; spells = refl }, tt, record { hears = tt; spells = refl }, λ c. absurd (false≢true c)) ▸
    ((of_each_node _ refl refl, refl), refl, refl) ▸
    one_view_may

alone_may : May alone
unfolding beside_steps
alone_may =
    (record { on = refl; asked = refl; waits = refl; answer = tt; spells = refl }, tt, record { hears = tt; spells = refl }, λ c. absurd (false≢true c)) ▸
    (record { on = refl; asked = refl; waits = refl; answer = refl; spells = refl }, tt, record { hears = tt; spells = refl }, λ c. absurd (false≢true c)) ▸
    (record { on = refl; asked = refl; waits = refl; answer = tt; spells = refl }, tt, record { hears = tt; spells = refl }, λ c. absurd (false≢true c)) ▸
    (record { on = refl; asked = refl; waits = refl; answer = tt; spells = refl }, tt, record { hears = tt; spells = refl }, λ c. absurd (false≢true c)) ▸
    (record { on = refl; asked = refl; waits = refl; answer = λ ok. refl; spells = refl }, tt, record { hears = tt; spells = refl }, λ c. absurd (false≢true c)) ▸
    ((refl, refl, refl), tt, tt, λ c. absurd (false≢true c)) ▸
    (record { on = refl; asked = refl; waits = refl; answer = refl; spells = refl }, tt, record { hears = tt; spells = refl }, λ c. absurd (false≢true c)) ▸
    (record { on = refl; asked = refl; waits = refl; answer = tt; spells = refl }, tt, record { hears = tt; spells = refl }, λ c. absurd (false≢true c)) ▸
    (record { on = refl; asked = refl; waits = refl; answer = tt; spells = refl }, tt, record { hears = tt; spells = refl }, λ c. absurd (false≢true c)) ▸
    (record { on = refl; asked = refl; waits = refl; answer = refl; spells = refl }, tt, record { hears = tt; spells = refl }, λ c. absurd (false≢true c)) ▸
    (record { on = refl; asked = refl; waits = refl; answer = tt; spells = refl }, tt, record { hears = tt; spells = refl }, λ c. absurd (false≢true c)) ▸
    (record { on = refl; asked = refl; waits = refl; answer = tt; spells = refl }, tt, record { hears = tt; spells = refl }, λ c. absurd (false≢true c)) ▸
    (record { on = refl; asked = refl; waits = refl; answer = λ ok. refl; spells = refl }, tt, record { hears = tt; spells = refl }, λ c. absurd (false≢true c)) ▸
    ((refl, refl, refl), tt, tt, λ c. absurd (false≢true c)) ▸
    (record { on = refl; asked = refl; waits = refl; answer = refl; spells = refl }, tt, record { hears = tt; spells = refl }, λ c. absurd (false≢true c)) ▸
    (record { on = refl; asked = refl; waits = refl; answer = tt; spells = refl }, tt, record { hears = tt; spells = refl }, λ c. absurd (false≢true c)) ▸
    ((of_each_node _ refl refl, refl), refl, refl) ▸
    misses_may

polls_0_may : May polls_0
unfolding beside_steps
polls_0_may =
    (record { on = refl; asked = refl; waits = refl; answer = tt; spells = refl }, tt, record { hears = tt; spells = refl }, λ c. absurd (false≢true c)) ▸
    (record { on = refl; asked = refl; waits = refl; answer = refl; spells = refl }, tt, record { hears = tt; spells = refl }, λ c. absurd (false≢true c)) ▸
    (record { on = refl; asked = refl; waits = refl; answer = tt; spells = refl }, tt, record { hears = tt; spells = refl }, λ c. absurd (false≢true c)) ▸
    (record { on = refl; asked = refl; waits = refl; answer = tt; spells = refl }, tt, record { hears = tt; spells = refl }, λ c. absurd (false≢true c)) ▸
    (record { on = refl; asked = refl; waits = refl; answer = tt; spells = refl }, tt, record { hears = tt; spells = refl }, λ c. absurd (false≢true c)) ▸
    (record { on = refl; asked = refl; waits = refl; answer = λ ok. refl; spells = refl }, tt, record { hears = tt; spells = refl }, λ c. absurd (false≢true c)) ▸
    ((refl, refl, refl), tt, tt, λ c. absurd (false≢true c)) ▸
    (record { on = refl; asked = refl; waits = refl; answer = refl; spells = refl }, tt, record { hears = tt; spells = refl }, λ c. absurd (false≢true c)) ▸
    (record { on = refl; asked = refl; waits = refl; answer = tt; spells = refl }, tt, record { hears = tt; spells = refl }, λ c. absurd (false≢true c)) ▸
    ((of_each_node _ refl refl, refl), refl, refl) ▸
    alone_may

polls_1_may : May polls_1
unfolding beside_steps
polls_1_may =
    (record { on = refl; asked = refl; waits = refl; answer = tt; spells = refl }, tt, record { hears = tt; spells = refl }, λ c. absurd (false≢true c)) ▸
    (record { on = refl; asked = refl; waits = refl; answer = refl; spells = refl }, tt, record { hears = tt; spells = refl }, λ c. absurd (false≢true c)) ▸
    (record { on = refl; asked = refl; waits = refl; answer = tt; spells = refl }, tt, record { hears = tt; spells = refl }, λ c. absurd (false≢true c)) ▸
    (record { on = refl; asked = refl; waits = refl; answer = tt; spells = refl }, tt, record { hears = tt; spells = refl }, λ c. absurd (false≢true c)) ▸
    (record { on = refl; asked = refl; waits = refl; answer = tt; spells = refl }, tt, record { hears = tt; spells = refl }, λ c. absurd (false≢true c)) ▸
    (record { on = refl; asked = refl; waits = refl; answer = λ ok. refl; spells = refl }, tt, record { hears = tt; spells = refl }, λ c. absurd (false≢true c)) ▸
    ((refl, refl, refl), tt, tt, λ c. absurd (false≢true c)) ▸
    (record { on = refl; asked = refl; waits = refl; answer = refl; spells = refl }, tt, record { hears = tt; spells = refl }, λ c. absurd (false≢true c)) ▸
    (record { on = refl; asked = refl; waits = refl; answer = tt; spells = refl }, tt, record { hears = tt; spells = refl }, λ c. absurd (false≢true c)) ▸
    polls_0_may

answered_0_may : May answered_0
unfolding beside_steps
answered_0_may =
    (record { on = refl; asked = refl; waits = refl; answer = refl; spells = refl }, tt, record { hears = tt; spells = refl }, λ c. absurd (false≢true c)) ▸
    (record { on = refl; asked = refl; waits = refl; answer = λ c. absurd (false≢true c); spells = refl }, tt, record { hears = λ c. (0, leb-true _ _ refl, refl); spells = refl }, λ c. absurd (false≢true c)) ▸
    (refl, tt) ▸
    (refl, refl) ▸
    (refl, λ c. (23, leb-true _ _ refl, refl)) ▸
    polls_1_may

answered_1_may : May answered_1
unfolding beside_steps
answered_1_may =
    (record { on = refl; asked = refl; waits = refl; answer = refl; spells = refl }, tt, record { hears = tt; spells = refl }, λ c. absurd (false≢true c)) ▸
    (record { on = refl; asked = refl; waits = refl; answer = λ c. absurd (false≢true c); spells = refl }, tt, record { hears = λ c. (1, leb-true _ _ refl, refl); spells = refl }, λ c. absurd (false≢true c)) ▸
    (refl, tt) ▸
    (refl, refl) ▸
    (refl, λ c. (26, leb-true _ _ refl, refl)) ▸
    answered_0_may

first_together : IsQuorateHost (with_device 10) (named_view 0 1 3) (host_after (with_device 10) short_lease new_image one_view 0)
unfolding beside_steps
first_together = record { timed = refl; sees = refl; quorate = refl }

second_together : IsQuorateHost (with_device 10) (named_view 0 1 3) (host_after (with_device 10) short_lease new_image one_view 1)
unfolding beside_steps
second_together = record { timed = refl; sees = refl; quorate = refl }

first_quorate : IsQuorateHost (with_device 10) (named_view 0 2 1) (host_after (with_device 10) short_lease new_image answered_1 0)
unfolding beside_steps
first_quorate = record { timed = refl; sees = refl; quorate = refl }

few : votes_among (with_device 10).nodes (named_view 0 2 1).members
    < (answer_with_tie (with_device 10) (log_at (host_after (with_device 10) short_lease new_image answered_1 0).stand.spot)
    (tick_of (host_after (with_device 10) short_lease new_image answered_1 0).clock)).quorum
unfolding beside_steps
few = omega arith

second_runs : is_timed (with_device 10) (host_after (with_device 10) short_lease new_image answered_1 1) ≡ true
unfolding beside_steps
second_runs = refl

second_sees : view (log_at (host_after (with_device 10) short_lease new_image answered_1 1).stand.spot) ≡ Some (named_view 1 2 2)
unfolding beside_steps
second_sees = refl

created : IsNewImage (with_device 10) short_times new_image
created = record { header = refl; slots = of_each_node _ refl refl; mails = of_each_node _ refl refl }

fits : FitsImage (with_device 10) short_times
fits =
    record { some = omega arith; few = omega arith; times = refl; ids = of_each_node _ (omega arith, omega arith) (omega arith, omega arith) }

pub one_side_is_quorate : OneSideIsQuorate
one_side_is_quorate =
    record {
      settings = with_device 10;
      timing = short_times;
      times = short_lease;
      image = new_image;
      together = one_view;
      after = part_answered_1 ++ part_answered_0 ++ part_polls_1 ++ part_polls_0 ++ part_alone ++ part_misses;
      first = 0;
      second = 1;
      both = named_view 0 1 3;
      left = named_view 0 2 1;
      right = named_view 1 2 2;
      leases = record {
        valid = with_device_valid 10 (omega arith) (omega arith);
        device = record { votes = 1; timeout = 10 };
        has_device = refl;
        no_last_man = refl;
        whole = omega arith;
        safe = refl;
      };
      safe = refl;
      joined = record { fits = fits; created = created; may = answered_1_may };
      first_configured = omega arith;
      second_configured = omega arith;
      differ = λ same. one_is_not_zero (sym same);
      apart = views_apart (named_view 0 2 1).id (named_view 1 2 2).id;
      first_together = first_together;
      second_together = second_together;
      first_quorate = first_quorate;
      few = few;
      second_runs = second_runs;
      second_sees = second_sees;
    }
