-- Schedules that were worked by hand, as theorems of the definitions.
use Rattle.std.proofs.Common.{◌≡◌, ℕ, Bool, true, false, List, [], ◌∷◌, ◌++◌, Some, None, refl, ◌&&◌}
use Rattle.std.specs.Prelude.{is_none}
use Rattle.qn_base.specs.declared.ids.Rank.{Rank}
use Rattle.qn_base.specs.declared.ids.View.{View}
use Rattle.qn_model.specs.declared.configuration.Settings.{Settings}
use Rattle.qn_model.specs.declared.times.Timing.{Timing}
use Rattle.qn_model.specs.declared.disk.Message.TheVariants as message
use Rattle.qn_model.specs.declared.outputs.DiskOp.TheVariants as disk
use Rattle.qn_model.specs.declared.outputs.Out.{Out}
use Rattle.qn_model.specs.declared.outputs.Out.TheVariants as out
use Rattle.qn_model.specs.declared.outputs.BootCause.TheVariants as cause
use Rattle.qn_model.specs.declared.outputs.HaltKind.TheVariants as halt
use Rattle.qn_model.specs.declared.life.Why.{Why}
use Rattle.qn_model.specs.declared.life.Why.TheVariants as why
use Rattle.qn_model.specs.declared.events.Event.{Event}
use Rattle.qn_model.specs.declared.events.Event.TheVariants as event
use Rattle.qn_model.specs.declared.reports.Report.{Report}
use Rattle.qn_model.specs.Timing.{usual_times}
use Rattle.qn_model.specs.lemmas.WorldSteps.{world_steps}
use Rattle.qn_model.specs.lemmas.TwoNodes.{first, one_node, second, two_nodes}
use Rattle.qn_model.specs.NodeVotes.{votes}
use Rattle.qn_model.specs.Phases.{phase}
use Rattle.qn_model.specs.NodeOutputs.{outs_at, with_entry}
use Rattle.qn_model.specs.Moments.{logged, handed, booted, time, node}
use Rattle.qn_model.specs.World.{World, first_world}
use Rattle.qn_model.specs.Rules.{is_well_formed, refusal}
use Rattle.qn_model.specs.Steps.{step, run_from, report}

abbrev sees : ℕ → ℕ → View
sees id members = record { id = id; members = record { 0 = members } }

-- the operation that is out lands, and is answered
abbrev done_at_once : Rank → List Event
done_at_once rank = event.Land rank ∷ event.Done rank ∷ []

abbrev boot_of : Rank → List Event
boot_of rank =
    event.Boot rank 0 ∷ [] ++ done_at_once rank ++ done_at_once rank ++ done_at_once rank ++ done_at_once rank

-- the events are well formed, and allowed in their turns
abbrev all_allowed : Settings → World → List Event → Bool
all_allowed s w [] = true
all_allowed s w (event ∷ later) =
    is_well_formed s event && is_none (refusal s usual_times event w) && all_allowed s (step s usual_times event w) later

abbrev world_after : Settings → List Event → World
world_after s events = run_from s usual_times first_world events

-- what a last event reports, after others
abbrev reported : Settings → List Event → Event → Report
reported s events last = report s last (world_after s (events ++ last ∷ []))

-- of two nodes, the one alone in its view is quorate
abbrev alone : ℕ → Rank → List Out → ℕ → Why → Report
alone time rank outs holders condition =
    record {
      time = time;
      touched = Some rank;
      outs = outs;
      holders = record { 0 = holders };
      answer = record { quorate = true; votes = 1; quorum = 1; expected = 2; released = true };
      why = condition;
    }

abbrev waits_for : ℕ → Bool → ℕ → Why
waits_for id written left = why.Unfenced (record { 0 = id }) written left

-- both nodes are up, each alone in its view, and reset each other
abbrev both_reset : List Event
both_reset =
    boot_of first ++ boot_of second ++ event.View first (sees 1 1) ∷ event.View second (sees 2 2) ∷ []
    ++ done_at_once first ++ done_at_once second ++ done_at_once first ++ done_at_once second
    ++ event.Land first ∷ event.Land second ∷ event.Done first ∷ []

both_fence_is_allowed : all_allowed two_nodes first_world
    (both_reset ++ event.Done second ∷ event.Crash first ∷ event.Crash second ∷ []) ≡ true
unfolding world_steps run_from report
both_fence_is_allowed = refl

both_fence : reported two_nodes both_reset (event.Done second) ≡ alone 0 second [] 0 (waits_for 1 true 10000)
unfolding world_steps run_from report
both_fence = refl

both_fence_halts : reported two_nodes
    (both_reset ++ event.Done second ∷ event.Pass 1000 [] ∷ event.Tick first ∷ event.Land first ∷ []) (event.Done first)
    ≡ alone 1000 first (out.Halt (halt.Deadly message.Reset) ∷ []) 0 why.Down
unfolding world_steps run_from report
both_fence_halts = refl

-- with a fence delay of 3000 for node 2 node 1 asks for no reset, until 3000 milliseconds after its view
abbrev waiting_pair : Settings
waiting_pair =
    record two_nodes {
      nodes =
          record { id = record { 0 = 1 }; votes = 1; fence_delay = 0 }
          ∷ record { id = record { 0 = 2 }; votes = 1; fence_delay = 3000 } ∷ [];
    }

abbrev reset_waits : List Event
reset_waits =
    boot_of first ++ boot_of second ++ event.View first (sees 1 1) ∷ [] ++ done_at_once first ++ event.Land first ∷ []

no_reset_yet : reported waiting_pair reset_waits (event.Done first) ≡ alone 0 first [] 0 (waits_for 2 false 0)
unfolding world_steps run_from report
no_reset_yet = refl

abbrev delay_is_over : List Event
delay_is_over = reset_waits ++ event.Done first ∷ event.Pass 3000 [] ∷ []

mailbox_first : reported waiting_pair delay_is_over (event.Tick first)
    ≡ alone 3000 first (out.Disk disk.ReadMail ∷ []) 0 (waits_for 2 false 0)
unfolding world_steps run_from report
mailbox_first = refl

reset_after_the_delay : reported waiting_pair (delay_is_over ++ event.Tick first ∷ event.Land first ∷ [])
    (event.Done first)
    ≡ alone 3000 first (out.Feed ∷ out.Disk (disk.WriteReset second) ∷ []) 0 (waits_for 2 false 0)
unfolding world_steps run_from report
reset_after_the_delay = refl

reset_waits_is_allowed : all_allowed waiting_pair first_world
    (delay_is_over ++ event.Tick first ∷ event.Land first ∷ event.Done first ∷ []) ≡ true
unfolding world_steps run_from report
reset_waits_is_allowed = refl

-- node 1 resets node 2 while that one boots: the clear of the boot lands after the reset and erases it
abbrev reset_inside_a_boot : List Event
reset_inside_a_boot =
    boot_of first ++ boot_of second ++ event.View first (sees 1 1) ∷ [] ++ done_at_once first ++ done_at_once first
    ++ event.Crash second ∷ event.Boot second 0 ∷ [] ++ done_at_once second ++ done_at_once second
    ++ done_at_once second
    ++ event.Land first ∷ event.Land second ∷ event.Done second ∷ event.Done first ∷ event.View second (sees 5 2)
    ∷ event.Land second ∷ []

reset_inside_a_boot_is_allowed : all_allowed two_nodes first_world reset_inside_a_boot ≡ true
unfolding world_steps run_from report
reset_inside_a_boot_is_allowed = refl

reset_is_erased : reported two_nodes reset_inside_a_boot (event.Done second)
    ≡ alone 0 second (out.Feed ∷ out.Disk (disk.ReadSlot first) ∷ []) 0 (waits_for 1 false 0)
unfolding world_steps run_from report
reset_is_erased = refl

-- the watchdog of a node that was fed at 0 ends it after 5050 milliseconds
abbrev booting : World
booting = world_after one_node (event.Boot first 0 ∷ [])

watchdog_holds : refusal one_node usual_times (event.Pass 5050 []) booting ≡ None
unfolding phase outs_at with_entry logged handed booted time node refusal step run_from
watchdog_holds = refl

watchdog_ends : refusal one_node usual_times (event.Pass 5051 []) booting ≡ Some 1
unfolding phase outs_at with_entry logged handed booted time node refusal step run_from
watchdog_ends = refl

-- a clock may be one per cent off
abbrev clock_advances : ℕ → Event
clock_advances advance = event.Pass 1 ((first, advance) ∷ [])

clock_too_slow : refusal one_node usual_times (clock_advances 98) booting ≡ Some 1
unfolding phase outs_at with_entry logged handed booted time node refusal step run_from
clock_too_slow = refl

clock_slow : refusal one_node usual_times (clock_advances 99) booting ≡ None
unfolding phase outs_at with_entry logged handed booted time node refusal step run_from
clock_slow = refl

clock_fast : refusal one_node usual_times (clock_advances 101) booting ≡ None
unfolding phase outs_at with_entry logged handed booted time node refusal step run_from
clock_fast = refl

clock_too_fast : refusal one_node usual_times (clock_advances 102) booting ≡ Some 1
unfolding phase outs_at with_entry logged handed booted time node refusal step run_from
clock_too_fast = refl

-- a clock is named only of a node that is running
clock_of_none : refusal one_node usual_times (clock_advances 100) first_world ≡ Some 1
unfolding time node refusal
clock_of_none = refl

-- a node that never booted does not crash
no_crash : refusal one_node usual_times (event.Crash first) first_world ≡ Some 3
unfolding node refusal
no_crash = refl

-- a node leaves, and the write that marks its slot as clean fails before it landed: it is left over, and the slot is
-- dirty
abbrev leaving : List Event
leaving =
    boot_of first ++ event.View first (sees 1 1) ∷ event.Leave first ∷ event.Stopped first ∷ [] ++ done_at_once first
    ++ event.Fail first ∷ []

leaving_is_allowed : all_allowed one_node first_world (leaving ++ event.Late first 1 ∷ event.Boot first 0 ∷ []) ≡ true
unfolding world_steps run_from report
leaving_is_allowed = refl

close_is_left_over : ((world_after one_node leaving).left 0 ≡ disk.WriteClose 1 ∷ [])
    × ((world_after one_node leaving).slots 0 ≡ record { incarnation = 1; clean = false })
unfolding world_steps run_from report
close_is_left_over = (refl, refl)

close_lands_late : (world_after one_node (leaving ++ event.Late first 1 ∷ [])).slots 0
    ≡ record { incarnation = 1; clean = true }
unfolding world_steps run_from report
close_lands_late = refl

-- with `done` in place of `fail` the slot is clean, and the node is off and answers as such
leaving_well : reported one_node
    (boot_of first ++ event.View first (sees 1 1) ∷ event.Leave first ∷ event.Stopped first ∷ []
    ++ done_at_once first ++ event.Land first ∷ []) (event.Done first)
    ≡ record {
      time = 0;
      touched = Some first;
      outs = out.Disarm ∷ [];
      holders = record { 0 = 0 };
      answer = record { quorate = false; votes = 0; quorum = 1; expected = 1; released = true };
      why = why.Down;
    }
unfolding world_steps run_from report
leaving_well = refl

-- what the only node reports at time 0, while it counts so many votes
abbrev one_reports : List Out → ℕ → Bool → ℕ → Why → Report
one_reports outs holders quorate votes condition =
    record {
      time = 0;
      touched = Some first;
      outs = outs;
      holders = record { 0 = holders };
      answer = record { quorate = quorate; votes = votes; quorum = 1; expected = 1; released = true };
      why = condition;
    }

-- the only node holds the resource
abbrev holding : List Event
holding = boot_of first ++ event.View first (sees 1 1) ∷ []

-- an operator lets the node leave
abbrev told_to_exit : List Event
told_to_exit = holding ++ event.Operator first message.Exit ∷ []

told_to_exit_is_allowed : all_allowed one_node first_world
    (told_to_exit ++ done_at_once first ++ event.Stopped first ∷ [] ++ done_at_once first) ≡ true
unfolding world_steps run_from report
told_to_exit_is_allowed = refl

exit_is_sent : reported one_node holding (event.Operator first message.Exit) ≡ one_reports [] 1 true 1 why.Holding
unfolding world_steps run_from report
exit_is_sent = refl

exit_lands : reported one_node told_to_exit (event.Land first) ≡ one_reports [] 1 true 1 why.Holding
unfolding world_steps run_from report
exit_lands = refl

exit_is_read : reported one_node (told_to_exit ++ event.Land first ∷ []) (event.Done first)
    ≡ one_reports (out.Stop ∷ out.Feed ∷ []) 1 true 1 why.Down
unfolding world_steps run_from report
exit_is_read = refl

exit_closes : reported one_node (told_to_exit ++ done_at_once first) (event.Stopped first)
    ≡ one_reports (out.Disk (disk.WriteClose 1) ∷ []) 0 true 1 why.Down
unfolding world_steps run_from report
exit_closes = refl

exit_disarms : reported one_node (told_to_exit ++ done_at_once first ++ event.Stopped first ∷ event.Land first ∷ [])
    (event.Done first)
    ≡ one_reports (out.Disarm ∷ []) 0 false 0 why.Down
unfolding world_steps run_from report
exit_disarms = refl

-- a deadly message is not taken back while its node runs
abbrev told_to_stop : List Event
told_to_stop = holding ++ event.Operator first message.Off ∷ []

not_taken_back : refusal one_node usual_times (event.Operator first message.Empty) (world_after one_node told_to_stop)
    ≡ Some 10
unfolding world_steps run_from report
not_taken_back = refl

taken_back_when_off : all_allowed one_node first_world
    (told_to_stop ++ event.Crash first ∷ event.Operator first message.Empty ∷ []) ≡ true
unfolding world_steps run_from report
taken_back_when_off = refl

-- an operator's event hands its node no entry, so nothing comes out of it
operator_hands_nothing : reported one_node (event.Boot first 0 ∷ []) (event.Operator first message.Off)
    ≡ one_reports [] 0 false 0 why.Down
unfolding world_steps run_from report
operator_hands_nothing = refl

-- a clean start reads its header, and then its slot is out
abbrev clean_start : List Event
clean_start = event.BootClean first 0 ∷ [] ++ done_at_once first

clean_start_is_allowed : all_allowed one_node first_world
    (event.Operator first message.Off ∷ clean_start ++ done_at_once first ++ done_at_once first) ≡ true
unfolding world_steps run_from report
clean_start_is_allowed = refl

-- the begin does not feed
clean_begin : reported one_node [] (event.BootClean first 0)
    ≡ one_reports (out.Disk disk.ReadHeader ∷ []) 0 false 0 why.Down
unfolding world_steps run_from report
clean_begin = refl

-- it checks its mailbox before it claims, and is refused by a deadly message
clean_start_checks : reported one_node (event.Operator first message.Off ∷ clean_start ++ event.Land first ∷ [])
    (event.Done first)
    ≡ one_reports (out.Feed ∷ out.Disk disk.CheckMail ∷ []) 0 false 0 why.Down
unfolding world_steps run_from report
clean_start_checks = refl

clean_start_is_refused : reported one_node
    (event.Operator first message.Off ∷ clean_start ++ done_at_once first ++ event.Land first ∷ []) (event.Done first)
    ≡ one_reports (out.Halt (halt.Boot cause.NotClean) ∷ []) 0 false 0 why.Down
unfolding world_steps run_from report
clean_start_is_refused = refl

-- an exit lets it go on, and it claims one more than its slot said
clean_start_goes_on : reported one_node
    (event.Operator first message.Exit ∷ clean_start ++ done_at_once first ++ event.Land first ∷ []) (event.Done first)
    ≡ one_reports (out.Feed ∷ out.Disk (disk.WriteClaim 1) ∷ []) 0 false 0 why.Down
unfolding world_steps run_from report
clean_start_goes_on = refl

-- a check is no write, so a crash leaves none over
check_is_not_left_over : refusal one_node usual_times (event.Late first 1)
    (world_after one_node (clean_start ++ done_at_once first ++ event.Crash first ∷ [])) ≡ Some 6
unfolding world_steps run_from report
check_is_not_left_over = refl
