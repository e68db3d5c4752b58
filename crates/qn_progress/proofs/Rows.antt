-- A run that is quiet for as long as a take-over takes.
use Rattle.std.proofs.Common.{◌<◌, ◌+◌, ◌*◌, suc, zero, sym, subst, ◌≡◌, ℕ, ◌≤◌, true, false, List, [], ◌∷◌, refl, arith}
use Rattle.std.proofs.lemmas.Bool.{false≢true, leb-true}
use Rattle.qn_base.specs.declared.ids.Rank.{Rank}
use Rattle.qn_base.specs.declared.ids.View.{View}
use Rattle.qn_model.specs.declared.events.Event.{Event}
use Rattle.qn_model.specs.declared.events.Event.TheVariants as event
use Rattle.qn_model.specs.NodeVotes.{install}
use Rattle.qn_model.specs.declared.times.Timing.{Timing}
use Rattle.qn_model.specs.declared.entries.What.TheVariants as what
use Rattle.qn_model.specs.declared.disk.Message.TheVariants as message
use Rattle.qn_model.specs.declared.seen.MailSeen.TheVariants as mail
use Rattle.qn_model.specs.declared.seen.SlotSeen.TheVariants as slot
use Rattle.qn_model.specs.declared.seen.HeaderSeen.TheVariants as header
use Rattle.qn_model.specs.lemmas.WorldSteps.{world_steps}
use Rattle.qn_model.specs.lemmas.TwoNodes.{first, second, two_nodes, two_nodes_valid}
use Rattle.qn_model.specs.Moments.{Moment, Passes, Boots, Adds, Feeds, Ends, tick_of, time, node, is_holder}
use Rattle.qn_model.specs.Steps.{run, AllAllowed}
use Rattle.qn_progress.specs.Pace.{Pace, total, outside, take_over_ticks}
use Rattle.qn_progress.specs.Quiet.{IsQuiet, QuietSince, FromHere, AndThen, DelaysOver, HasHeardAll, HasTakenTime, StaysQuiet}
use Rattle.qn_progress.proofs.Over.{start_of}
use Rattle.qn_progress.specs.Premises.{TakesOver}

abbrev pub sees : ℕ → View
sees members = record { id = 1; members = record { 0 = members } }

abbrev pub short_times : Timing
short_times = record { watchdog = 60; msgwait = 79; loop_ms = 20; read_limit = 10; feed_delay = 5 }

-- a disk that answers after 5 ticks, and an entry each 40
abbrev short_pace : Pace
short_pace = record { disk = 5; turn = 40 }

-- the second node boots and crashes; the first one boots and sees itself alone
abbrev alone : List Event
alone = event.View first (sees 1) ∷ event.Done first ∷ event.Land first ∷ event.Done first ∷ event.Land first ∷ event.Done first ∷ event.Land first ∷ event.Done first ∷ event.Land first ∷ event.Boot first 0 ∷ event.Crash second ∷ event.Done second ∷ event.Land second ∷ event.Done second ∷ event.Land second ∷ event.Done second ∷ event.Land second ∷ event.Done second ∷ event.Land second ∷ event.Boot second 0 ∷ []

-- it finds the other slot dirty, and writes a reset; 80 ticks later it starts
abbrev starts_alone : List Event
starts_alone = event.Pass 10 [] ∷ event.Feed first ∷ event.Done first ∷ event.Land first ∷ event.Tick first ∷ event.Pass 40 [] ∷ event.Feed first ∷ event.Done first ∷ event.Land first ∷ event.Tick first ∷ event.Pass 40 [] ∷ event.Feed first ∷ event.Done first ∷ event.Land first ∷ event.Tick first ∷ event.Pass 40 [] ∷ event.Feed first ∷ event.Done first ∷ event.Land first ∷ event.Tick first ∷ event.Pass 40 [] ∷ event.Done first ∷ event.Land first ∷ event.Pass 5 [] ∷ event.Done first ∷ event.Land first ∷ event.Pass 5 [] ∷ event.Feed first ∷ event.Done first ∷ event.Land first ∷ event.Pass 5 [] ∷ alone

abbrev m0 : List Moment
m0 = Adds 0 (what.View (sees 1)) ∷ Adds 0 (what.Cleared true) ∷ Adds 0 (what.Claimed true) ∷ Adds 0 (what.SlotRead first (slot.Read (record { incarnation = 0; clean = true }))) ∷ Adds 0 (what.Header (header.Read 2 short_times)) ∷ Boots 0 0 false ∷ Ends 1 ∷ Adds 1 (what.Cleared true) ∷ Adds 1 (what.Claimed true) ∷ Adds 1 (what.SlotRead second (slot.Read (record { incarnation = 0; clean = true }))) ∷ Adds 1 (what.Header (header.Read 2 short_times)) ∷ Boots 1 0 false ∷ []

abbrev m1 : List Moment
m1 = Passes 5 [] ∷ m0

abbrev m2 : List Moment
m2 = Adds 0 (what.MailRead (mail.Read message.Empty)) ∷ m1

abbrev m3 : List Moment
m3 = Feeds 0 ∷ m2

abbrev m4 : List Moment
m4 = Passes 5 [] ∷ m3

abbrev m5 : List Moment
m5 = Adds 0 (what.SlotRead second (slot.Read (record { incarnation = 1; clean = false }))) ∷ m4

abbrev m6 : List Moment
m6 = Passes 5 [] ∷ m5

abbrev m7 : List Moment
m7 = Adds 0 (what.MailWritten second true) ∷ m6

abbrev m8 : List Moment
m8 = Passes 40 [] ∷ m7

abbrev m9 : List Moment
m9 = Adds 0 what.Tick ∷ m8

abbrev m10 : List Moment
m10 = Adds 0 (what.MailRead (mail.Read message.Empty)) ∷ m9

abbrev m11 : List Moment
m11 = Feeds 0 ∷ m10

abbrev m12 : List Moment
m12 = Passes 40 [] ∷ m11

abbrev m13 : List Moment
m13 = Adds 0 what.Tick ∷ m12

abbrev m14 : List Moment
m14 = Adds 0 (what.MailRead (mail.Read message.Empty)) ∷ m13

abbrev m15 : List Moment
m15 = Feeds 0 ∷ m14

abbrev m16 : List Moment
m16 = Passes 40 [] ∷ m15

abbrev m17 : List Moment
m17 = Adds 0 what.Tick ∷ m16

abbrev m18 : List Moment
m18 = Adds 0 (what.MailRead (mail.Read message.Empty)) ∷ m17

abbrev m19 : List Moment
m19 = Feeds 0 ∷ m18

abbrev m20 : List Moment
m20 = Passes 40 [] ∷ m19

abbrev m21 : List Moment
m21 = Adds 0 what.Tick ∷ m20

abbrev m22 : List Moment
m22 = Adds 0 (what.MailRead (mail.Read message.Empty)) ∷ m21

abbrev m23 : List Moment
m23 = Feeds 0 ∷ m22

abbrev m24 : List Moment
m24 = Passes 10 [] ∷ m23

quiet0 : IsQuiet two_nodes 0 short_pace 1 m0
unfolding world_steps run AllAllowed total
quiet0 = record { on = refl; up = refl; view = refl; free = refl; quorate = refl; chosen = refl; gentle = refl; turns = leb-true _ _ refl; answers = λ some. leb-true _ _ refl }

quiet1 : IsQuiet two_nodes 0 short_pace 1 m1
unfolding world_steps run AllAllowed total
quiet1 = record { on = refl; up = refl; view = refl; free = refl; quorate = refl; chosen = refl; gentle = refl; turns = leb-true _ _ refl; answers = λ some. leb-true _ _ refl }

quiet2 : IsQuiet two_nodes 0 short_pace 1 m2
unfolding world_steps run AllAllowed total
quiet2 = record { on = refl; up = refl; view = refl; free = refl; quorate = refl; chosen = refl; gentle = refl; turns = leb-true _ _ refl; answers = λ some. leb-true _ _ refl }

quiet3 : IsQuiet two_nodes 0 short_pace 1 m3
unfolding world_steps run AllAllowed total
quiet3 = record { on = refl; up = refl; view = refl; free = refl; quorate = refl; chosen = refl; gentle = refl; turns = leb-true _ _ refl; answers = λ some. leb-true _ _ refl }

quiet4 : IsQuiet two_nodes 0 short_pace 1 m4
unfolding world_steps run AllAllowed total
quiet4 = record { on = refl; up = refl; view = refl; free = refl; quorate = refl; chosen = refl; gentle = refl; turns = leb-true _ _ refl; answers = λ some. leb-true _ _ refl }

quiet5 : IsQuiet two_nodes 0 short_pace 1 m5
unfolding world_steps run AllAllowed total
quiet5 = record { on = refl; up = refl; view = refl; free = refl; quorate = refl; chosen = refl; gentle = refl; turns = leb-true _ _ refl; answers = λ some. leb-true _ _ refl }

quiet6 : IsQuiet two_nodes 0 short_pace 1 m6
unfolding world_steps run AllAllowed total
quiet6 = record { on = refl; up = refl; view = refl; free = refl; quorate = refl; chosen = refl; gentle = refl; turns = leb-true _ _ refl; answers = λ some. leb-true _ _ refl }

quiet7 : IsQuiet two_nodes 0 short_pace 1 m7
unfolding world_steps run AllAllowed total
quiet7 = record { on = refl; up = refl; view = refl; free = refl; quorate = refl; chosen = refl; gentle = refl; turns = leb-true _ _ refl; answers = λ some. leb-true _ _ refl }

quiet8 : IsQuiet two_nodes 0 short_pace 1 m8
unfolding world_steps run AllAllowed total
quiet8 = record { on = refl; up = refl; view = refl; free = refl; quorate = refl; chosen = refl; gentle = refl; turns = leb-true _ _ refl; answers = λ some. absurd (some refl) }

quiet9 : IsQuiet two_nodes 0 short_pace 1 m9
unfolding world_steps run AllAllowed total
quiet9 = record { on = refl; up = refl; view = refl; free = refl; quorate = refl; chosen = refl; gentle = refl; turns = leb-true _ _ refl; answers = λ some. leb-true _ _ refl }

quiet10 : IsQuiet two_nodes 0 short_pace 1 m10
unfolding world_steps run AllAllowed total
quiet10 = record { on = refl; up = refl; view = refl; free = refl; quorate = refl; chosen = refl; gentle = refl; turns = leb-true _ _ refl; answers = λ some. leb-true _ _ refl }

quiet11 : IsQuiet two_nodes 0 short_pace 1 m11
unfolding world_steps run AllAllowed total
quiet11 = record { on = refl; up = refl; view = refl; free = refl; quorate = refl; chosen = refl; gentle = refl; turns = leb-true _ _ refl; answers = λ some. leb-true _ _ refl }

quiet12 : IsQuiet two_nodes 0 short_pace 1 m12
unfolding world_steps run AllAllowed total
quiet12 = record { on = refl; up = refl; view = refl; free = refl; quorate = refl; chosen = refl; gentle = refl; turns = leb-true _ _ refl; answers = λ some. absurd (some refl) }

quiet13 : IsQuiet two_nodes 0 short_pace 1 m13
unfolding world_steps run AllAllowed total
quiet13 = record { on = refl; up = refl; view = refl; free = refl; quorate = refl; chosen = refl; gentle = refl; turns = leb-true _ _ refl; answers = λ some. leb-true _ _ refl }

quiet14 : IsQuiet two_nodes 0 short_pace 1 m14
unfolding world_steps run AllAllowed total
quiet14 = record { on = refl; up = refl; view = refl; free = refl; quorate = refl; chosen = refl; gentle = refl; turns = leb-true _ _ refl; answers = λ some. leb-true _ _ refl }

quiet15 : IsQuiet two_nodes 0 short_pace 1 m15
unfolding world_steps run AllAllowed total
quiet15 = record { on = refl; up = refl; view = refl; free = refl; quorate = refl; chosen = refl; gentle = refl; turns = leb-true _ _ refl; answers = λ some. leb-true _ _ refl }

quiet16 : IsQuiet two_nodes 0 short_pace 1 m16
unfolding world_steps run AllAllowed total
quiet16 = record { on = refl; up = refl; view = refl; free = refl; quorate = refl; chosen = refl; gentle = refl; turns = leb-true _ _ refl; answers = λ some. absurd (some refl) }

quiet17 : IsQuiet two_nodes 0 short_pace 1 m17
unfolding world_steps run AllAllowed total
quiet17 = record { on = refl; up = refl; view = refl; free = refl; quorate = refl; chosen = refl; gentle = refl; turns = leb-true _ _ refl; answers = λ some. leb-true _ _ refl }

quiet18 : IsQuiet two_nodes 0 short_pace 1 m18
unfolding world_steps run AllAllowed total
quiet18 = record { on = refl; up = refl; view = refl; free = refl; quorate = refl; chosen = refl; gentle = refl; turns = leb-true _ _ refl; answers = λ some. leb-true _ _ refl }

quiet19 : IsQuiet two_nodes 0 short_pace 1 m19
unfolding world_steps run AllAllowed total
quiet19 = record { on = refl; up = refl; view = refl; free = refl; quorate = refl; chosen = refl; gentle = refl; turns = leb-true _ _ refl; answers = λ some. leb-true _ _ refl }

quiet20 : IsQuiet two_nodes 0 short_pace 1 m20
unfolding world_steps run AllAllowed total
quiet20 = record { on = refl; up = refl; view = refl; free = refl; quorate = refl; chosen = refl; gentle = refl; turns = leb-true _ _ refl; answers = λ some. absurd (some refl) }

quiet21 : IsQuiet two_nodes 0 short_pace 1 m21
unfolding world_steps run AllAllowed total
quiet21 = record { on = refl; up = refl; view = refl; free = refl; quorate = refl; chosen = refl; gentle = refl; turns = leb-true _ _ refl; answers = λ some. leb-true _ _ refl }

quiet22 : IsQuiet two_nodes 0 short_pace 1 m22
unfolding world_steps run AllAllowed total
quiet22 = record { on = refl; up = refl; view = refl; free = refl; quorate = refl; chosen = refl; gentle = refl; turns = leb-true _ _ refl; answers = λ some. leb-true _ _ refl }

quiet23 : IsQuiet two_nodes 0 short_pace 1 m23
unfolding world_steps run AllAllowed total
quiet23 = record { on = refl; up = refl; view = refl; free = refl; quorate = refl; chosen = refl; gentle = refl; turns = leb-true _ _ refl; answers = λ some. leb-true _ _ refl }

quiet24 : IsQuiet two_nodes 0 short_pace 1 m24
unfolding world_steps run AllAllowed total
quiet24 = record { on = refl; up = refl; view = refl; free = refl; quorate = refl; chosen = refl; gentle = refl; turns = leb-true _ _ refl; answers = λ some. absurd (some refl) }

quiet : QuietSince two_nodes 0 short_pace 1 m0 m24
quiet = AndThen (AndThen (AndThen (AndThen (AndThen (AndThen (AndThen (AndThen (AndThen (AndThen (AndThen (AndThen (AndThen (AndThen (AndThen (AndThen (AndThen (AndThen (AndThen (AndThen (AndThen (AndThen (AndThen (AndThen (FromHere quiet0) quiet1) quiet2) quiet3) quiet4) quiet5) quiet6) quiet7) quiet8) quiet9) quiet10) quiet11) quiet12) quiet13) quiet14) quiet15) quiet16) quiet17) quiet18) quiet19) quiet20) quiet21) quiet22) quiet23) quiet24

runs_so : (run two_nodes short_times starts_alone).moments ≡ m24
unfolding world_steps run AllAllowed total
runs_so = refl

sees_once : install (node two_nodes 0 m0).log ≡ 1
unfolding world_steps run AllAllowed total
sees_once = refl

all_allowed : AllAllowed two_nodes short_times starts_alone
unfolding world_steps run AllAllowed total
all_allowed = (refl, refl, (refl, refl, (refl, refl, (refl, refl, (refl, refl, (refl, refl, (refl, refl, (refl, refl, (refl, refl, (refl, refl, (refl, refl, (refl, refl, (refl, refl, (refl, refl, (refl, refl, (refl, refl, (refl, refl, (refl, refl, (refl, refl, (refl, refl, (refl, refl, (refl, refl, (refl, refl, (refl, refl, (refl, refl, (refl, refl, (refl, refl, (refl, refl, (refl, refl, (refl, refl, (refl, refl, (refl, refl, (refl, refl, (refl, refl, (refl, refl, (refl, refl, (refl, refl, (refl, refl, (refl, refl, (refl, refl, (refl, refl, (refl, refl, (refl, refl, (refl, refl, (refl, refl, (refl, refl, (refl, refl, (refl, refl, (refl, refl, (refl, refl, (refl, refl, tt)))))))))))))))))))))))))))))))))))))))))))))))))))

nobody_holds : (other : ℕ) → other < 2 → is_holder two_nodes m0 other ≡ false
unfolding world_steps run AllAllowed total
nobody_holds zero below = refl
nobody_holds (suc zero) below = refl
nobody_holds (suc (suc other)) below = absurd (omega arith)

delays : DelaysOver two_nodes (tick_of (node two_nodes 0 m0).clock) (node two_nodes 0 m0).log
unfolding world_steps run AllAllowed total
delays zero below away = omega arith
delays (suc zero) below away = omega arith
delays (suc (suc other)) below away = absurd (omega arith)

heard : HasHeardAll two_nodes 0 (node two_nodes 0 m0).log
unfolding world_steps run AllAllowed total
heard zero below inside other = absurd (other refl)
heard (suc zero) below inside other = absurd (false≢true inside)
heard (suc (suc j)) below inside other = absurd (omega arith)

long : 100 * take_over_ticks short_times short_pace (outside two_nodes (node two_nodes 0 m0).log) + 99 * time m0 ≤ 99 * time m24
unfolding world_steps run AllAllowed total
long = leb-true _ _ refl

one_turn : 100 * (short_pace.turn + 1) + 99 * time m0 ≤ 99 * time m24
unfolding time
one_turn = leb-true _ _ refl

pub takes_over : TakesOver
takes_over = record {
  settings = two_nodes;
  timing = short_times;
  pace = short_pace;
  rank = 0;
  events = starts_alone;
  old = m0;
  valid = two_nodes_valid;
  safe = refl;
  allowed = all_allowed;
  free = nobody_holds;
  quiet = subst (λ new. StaysQuiet two_nodes short_times 0 short_pace m0 m0 new) (sym runs_so) stays_quiet;
  taken = subst (λ new. HasTakenTime two_nodes short_times 0 short_pace m0 m0 new) (sym runs_so) (record { late = long; behind = one_turn });
}
  where
    whole : QuietSince two_nodes 0 short_pace (install (node two_nodes 0 m0).log) m0 m24
    whole = subst (λ views. QuietSince two_nodes 0 short_pace views m0 m24) (sym sees_once) quiet

    stays_quiet : StaysQuiet two_nodes short_times 0 short_pace m0 m0 m24
    stays_quiet = record { fast = leb-true _ _ refl; first = FromHere (start_of whole); since = whole; over = delays; heard = heard }
