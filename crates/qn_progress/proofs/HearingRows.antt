-- Two nodes that are up under one view: one asks the other, hears that it does not hold, and starts.
use Rattle.std.proofs.Common.{◌<◌, ◌+◌, ◌*◌, suc, zero, sym, subst, ◌≡◌, ◌==◌, if◌then◌else◌, ℕ, ◌≤◌, Bool, true, false, List, [], ◌∷◌, Some, None, refl, ap, arith}
use Rattle.std.specs.Prelude.{All, Contains, length}
use Rattle.std.proofs.lemmas.Bool.{false≢true, leb-true}
use Rattle.std.proofs.lemmas.List.Elements.{All-contains, All-cons, All-nil}
use Rattle.qn_base.specs.declared.ids.Rank.{Rank}
use Rattle.qn_base.specs.declared.ids.View.{View}
use Rattle.qn_model.specs.declared.configuration.Settings.{Settings}
use Rattle.qn_model.specs.declared.events.Event.{Event}
use Rattle.qn_model.specs.declared.events.Event.TheVariants as event
use Rattle.qn_model.specs.declared.entries.What.{What}
use Rattle.qn_model.specs.declared.entries.What.TheVariants as what
use Rattle.qn_model.specs.declared.disk.Message.TheVariants as message
use Rattle.qn_model.specs.declared.seen.MailSeen.TheVariants as mail
use Rattle.qn_model.specs.declared.seen.SlotSeen.TheVariants as slot
use Rattle.qn_model.specs.declared.seen.HeaderSeen.TheVariants as header
use Rattle.qn_model.specs.declared.outputs.DiskOp.TheVariants as disk
use Rattle.qn_model.specs.declared.outputs.Out.{Out}
use Rattle.qn_model.specs.declared.outputs.Out.TheVariants as out
use Rattle.qn_model.specs.declared.packets.Packet.{Packet}
use Rattle.qn_model.specs.declared.packets.Packet.TheVariants as packet
use Rattle.qn_model.specs.lemmas.WorldSteps.{world_steps}
use Rattle.qn_model.specs.lemmas.TwoNodes.{first, second, two_nodes, two_nodes_valid}
use Rattle.qn_model.specs.Moments.{Before, Itself, Later, Moment, handed, logged, Passes, Boots, Adds, Feeds, Ends, tick_of, time, node, is_holder}
use Rattle.qn_model.specs.Log.{incarnation}
use Rattle.qn_model.specs.NodeOutputs.{moment, newest_outs}
use Rattle.qn_model.specs.NodeVotes.{install, is_in_view, view}
use Rattle.qn_model.specs.Steps.{AllAllowed, entry_of, run}
use Rattle.qn_model.specs.Wanted.{rank_of}
use Rattle.qn_safety.specs.Earlier.{before_length}
use Rattle.qn_progress.specs.Hearing.{Delivers, HearsQuietly, IsDelivered, IsUnder, StaysHeard}
use Rattle.qn_progress.specs.Pace.{Pace, total, outside, take_over_ticks}
use Rattle.qn_progress.specs.Premises.{HearsAndTakesOver}
use Rattle.qn_progress.specs.Quiet.{IsQuiet, QuietSince, FromHere, AndThen, DelaysOver, HasTakenTicks}
use Rattle.qn_progress.proofs.Rows.{sees, short_times}

-- something of each moment from an old one on
data EachSince (P : List Moment → Type 0) (old : List Moment) : List Moment → Type 0 where
  Here : P old → EachSince P old old
  Then : {moment : Moment} {earlier : List Moment} → EachSince P old earlier → P (moment ∷ earlier) → EachSince P old (moment ∷ earlier)

at_each : {P : List Moment → Type 0} {old new mid : List Moment} → EachSince P old new → Before old mid → Before mid new → P mid
at_each (Here p) after Itself = p
at_each (Here p) after (Later moment back) = absurd (let one = before_length after in let two = before_length back in omega arith)
at_each (Then e p) after Itself = p
at_each (Then e p) after (Later newest back) = at_each e after back

-- something of each moment after an old one
data EachAfter (P : List Moment → Type 0) (old : List Moment) : List Moment → Type 0 where
  Start : EachAfter P old old
  Next : {moment : Moment} {earlier : List Moment} → EachAfter P old earlier → P (moment ∷ earlier) → EachAfter P old (moment ∷ earlier)

at_after : {P : List Moment → Type 0} {old new before : List Moment} {x : Moment} → EachAfter P old new → Before old before → Before (x ∷ before) new → P (x ∷ before)
at_after Start after back = absurd (let one = before_length after in let two = before_length back in omega arith)
at_after (Next e p) after Itself = p
at_after (Next e p) after (Later newest back) = at_after e after back

-- what an output owes: a packet to a rank is delivered
Owes : Settings → ℕ → ℕ → ℕ → List Moment → List Moment → Out → Type 0
Owes s rank post to here new (out.Send receiver packet) = receiver ≡ rank_of to → IsDelivered s rank to packet (tick_of (node s rank here).clock + post) here new
Owes s rank post to here new out.Stop = Unit {0}
Owes s rank post to here new out.Start = Unit {0}
Owes s rank post to here new out.Feed = Unit {0}
Owes s rank post to here new (out.Disk op) = Unit {0}
Owes s rank post to here new out.Disarm = Unit {0}
Owes s rank post to here new (out.Halt kind) = Unit {0}

Serves : Settings → ℕ → ℕ → ℕ → ℕ → List Moment → List Moment → Type 0
Serves s rank post from to new [] = Unit {0}
Serves s rank post from to new (Adds adder entry ∷ before) = adder ≡ from → All (Owes s rank post to (Adds adder entry ∷ before) new) (newest_outs (node s from (Adds adder entry ∷ before)).log)
Serves s rank post from to new (Passes dt clocks ∷ before) = Unit {0}
Serves s rank post from to new (Boots other base clean ∷ before) = Unit {0}
Serves s rank post from to new (Feeds other ∷ before) = Unit {0}
Serves s rank post from to new (Ends other ∷ before) = Unit {0}

abbrev quick_pace : Pace
quick_pace = record { disk = 15; turn = 20 }

abbrev hears : List Event
hears = event.Pass 10 [] ∷ event.Feed first ∷ event.Done first ∷ event.Land first ∷ event.Tick first ∷ event.Pass 20 [] ∷ event.Feed first ∷ event.Done first ∷ event.Land first ∷ event.Tick first ∷ event.Pass 20 [] ∷ event.Feed first ∷ event.Done first ∷ event.Land first ∷ event.Tick first ∷ event.Pass 20 [] ∷ event.Feed first ∷ event.Done first ∷ event.Land first ∷ event.Tick first ∷ event.Pass 10 [] ∷ event.Tick first ∷ event.Crash second ∷ event.Pass 15 [] ∷ event.Feed first ∷ event.Done first ∷ event.Land first ∷ event.Tick first ∷ event.Pass 20 [] ∷ event.Feed first ∷ event.Done first ∷ event.Land first ∷ event.Deliver first 3 ∷ event.Deliver second 2 ∷ event.Tick first ∷ event.Pass 10 [] ∷ event.Feed first ∷ event.Done first ∷ event.Land first ∷ event.View second (sees 3) ∷ event.Pass 10 [] ∷ event.View first (sees 3) ∷ event.Done first ∷ event.Land first ∷ event.Done first ∷ event.Land first ∷ event.Done first ∷ event.Land first ∷ event.Done first ∷ event.Land first ∷ event.Boot first 0 ∷ event.Done second ∷ event.Land second ∷ event.Done second ∷ event.Land second ∷ event.Done second ∷ event.Land second ∷ event.Done second ∷ event.Land second ∷ event.Boot second 0 ∷ []

abbrev m0 : List Moment
m0 = Adds 1 (what.View (sees 3)) ∷ Passes 10 [] ∷ Adds 0 (what.View (sees 3)) ∷ Adds 0 (what.Cleared true) ∷ Adds 0 (what.Claimed true) ∷ Adds 0 (what.SlotRead first (slot.Read (record { incarnation = 0; clean = true }))) ∷ Adds 0 (what.Header (header.Read 2 short_times)) ∷ Boots 0 0 false ∷ Adds 1 (what.Cleared true) ∷ Adds 1 (what.Claimed true) ∷ Adds 1 (what.SlotRead second (slot.Read (record { incarnation = 0; clean = true }))) ∷ Adds 1 (what.Header (header.Read 2 short_times)) ∷ Boots 1 0 false ∷ []

abbrev m1 : List Moment
m1 = Adds 0 (what.MailRead (mail.Read message.Empty)) ∷ m0

abbrev m2 : List Moment
m2 = Feeds 0 ∷ m1

abbrev m3 : List Moment
m3 = Passes 10 [] ∷ m2

abbrev m4 : List Moment
m4 = Adds 0 what.Tick ∷ m3

abbrev m5 : List Moment
m5 = Adds 1 (what.Ask (record { from = first; to = second; incarnation = 1; install = 1; view = sees 3 })) ∷ m4

abbrev m6 : List Moment
m6 = Adds 0 (what.Tell (record { from = second; to = first; incarnation = 1; install = 1; view = sees 3; holds = false; released = true })) ∷ m5

abbrev m7 : List Moment
m7 = Adds 0 (what.MailRead (mail.Read message.Empty)) ∷ m6

abbrev m8 : List Moment
m8 = Feeds 0 ∷ m7

abbrev m9 : List Moment
m9 = Passes 20 [] ∷ m8

abbrev m10 : List Moment
m10 = Adds 0 what.Tick ∷ m9

abbrev m11 : List Moment
m11 = Adds 0 (what.MailRead (mail.Read message.Empty)) ∷ m10

abbrev m12 : List Moment
m12 = Feeds 0 ∷ m11

abbrev m13 : List Moment
m13 = Passes 15 [] ∷ m12

abbrev m14 : List Moment
m14 = Ends 1 ∷ m13

abbrev m15 : List Moment
m15 = Adds 0 what.Tick ∷ m14

abbrev m16 : List Moment
m16 = Passes 10 [] ∷ m15

abbrev m17 : List Moment
m17 = Adds 0 what.Tick ∷ m16

abbrev m18 : List Moment
m18 = Adds 0 (what.MailRead (mail.Read message.Empty)) ∷ m17

abbrev m19 : List Moment
m19 = Feeds 0 ∷ m18

abbrev m20 : List Moment
m20 = Passes 20 [] ∷ m19

abbrev m21 : List Moment
m21 = Adds 0 what.Tick ∷ m20

abbrev m22 : List Moment
m22 = Adds 0 (what.MailRead (mail.Read message.Empty)) ∷ m21

abbrev m23 : List Moment
m23 = Feeds 0 ∷ m22

abbrev m24 : List Moment
m24 = Passes 20 [] ∷ m23

abbrev m25 : List Moment
m25 = Adds 0 what.Tick ∷ m24

abbrev m26 : List Moment
m26 = Adds 0 (what.MailRead (mail.Read message.Empty)) ∷ m25

abbrev m27 : List Moment
m27 = Feeds 0 ∷ m26

abbrev m28 : List Moment
m28 = Passes 20 [] ∷ m27

abbrev m29 : List Moment
m29 = Adds 0 what.Tick ∷ m28

abbrev m30 : List Moment
m30 = Adds 0 (what.MailRead (mail.Read message.Empty)) ∷ m29

abbrev m31 : List Moment
m31 = Feeds 0 ∷ m30

abbrev m32 : List Moment
m32 = Passes 10 [] ∷ m31

quiet0 : IsQuiet two_nodes 0 quick_pace 1 m0
unfolding world_steps run AllAllowed total
quiet0 = record { on = refl; up = refl; view = refl; free = refl; quorate = refl; chosen = refl; gentle = refl; turns = leb-true _ _ refl; answers = λ some. leb-true _ _ refl }

quiet1 : IsQuiet two_nodes 0 quick_pace 1 m1
unfolding world_steps run AllAllowed total
quiet1 = record { on = refl; up = refl; view = refl; free = refl; quorate = refl; chosen = refl; gentle = refl; turns = leb-true _ _ refl; answers = λ some. absurd (some refl) }

quiet2 : IsQuiet two_nodes 0 quick_pace 1 m2
unfolding world_steps run AllAllowed total
quiet2 = record { on = refl; up = refl; view = refl; free = refl; quorate = refl; chosen = refl; gentle = refl; turns = leb-true _ _ refl; answers = λ some. absurd (some refl) }

quiet3 : IsQuiet two_nodes 0 quick_pace 1 m3
unfolding world_steps run AllAllowed total
quiet3 = record { on = refl; up = refl; view = refl; free = refl; quorate = refl; chosen = refl; gentle = refl; turns = leb-true _ _ refl; answers = λ some. absurd (some refl) }

quiet4 : IsQuiet two_nodes 0 quick_pace 1 m4
unfolding world_steps run AllAllowed total
quiet4 = record { on = refl; up = refl; view = refl; free = refl; quorate = refl; chosen = refl; gentle = refl; turns = leb-true _ _ refl; answers = λ some. leb-true _ _ refl }

quiet5 : IsQuiet two_nodes 0 quick_pace 1 m5
unfolding world_steps run AllAllowed total
quiet5 = record { on = refl; up = refl; view = refl; free = refl; quorate = refl; chosen = refl; gentle = refl; turns = leb-true _ _ refl; answers = λ some. leb-true _ _ refl }

quiet6 : IsQuiet two_nodes 0 quick_pace 1 m6
unfolding world_steps run AllAllowed total
quiet6 = record { on = refl; up = refl; view = refl; free = refl; quorate = refl; chosen = refl; gentle = refl; turns = leb-true _ _ refl; answers = λ some. leb-true _ _ refl }

quiet7 : IsQuiet two_nodes 0 quick_pace 1 m7
unfolding world_steps run AllAllowed total
quiet7 = record { on = refl; up = refl; view = refl; free = refl; quorate = refl; chosen = refl; gentle = refl; turns = leb-true _ _ refl; answers = λ some. absurd (some refl) }

quiet8 : IsQuiet two_nodes 0 quick_pace 1 m8
unfolding world_steps run AllAllowed total
quiet8 = record { on = refl; up = refl; view = refl; free = refl; quorate = refl; chosen = refl; gentle = refl; turns = leb-true _ _ refl; answers = λ some. absurd (some refl) }

quiet9 : IsQuiet two_nodes 0 quick_pace 1 m9
unfolding world_steps run AllAllowed total
quiet9 = record { on = refl; up = refl; view = refl; free = refl; quorate = refl; chosen = refl; gentle = refl; turns = leb-true _ _ refl; answers = λ some. absurd (some refl) }

quiet10 : IsQuiet two_nodes 0 quick_pace 1 m10
unfolding world_steps run AllAllowed total
quiet10 = record { on = refl; up = refl; view = refl; free = refl; quorate = refl; chosen = refl; gentle = refl; turns = leb-true _ _ refl; answers = λ some. leb-true _ _ refl }

quiet11 : IsQuiet two_nodes 0 quick_pace 1 m11
unfolding world_steps run AllAllowed total
quiet11 = record { on = refl; up = refl; view = refl; free = refl; quorate = refl; chosen = refl; gentle = refl; turns = leb-true _ _ refl; answers = λ some. absurd (some refl) }

quiet12 : IsQuiet two_nodes 0 quick_pace 1 m12
unfolding world_steps run AllAllowed total
quiet12 = record { on = refl; up = refl; view = refl; free = refl; quorate = refl; chosen = refl; gentle = refl; turns = leb-true _ _ refl; answers = λ some. absurd (some refl) }

quiet13 : IsQuiet two_nodes 0 quick_pace 1 m13
unfolding world_steps run AllAllowed total
quiet13 = record { on = refl; up = refl; view = refl; free = refl; quorate = refl; chosen = refl; gentle = refl; turns = leb-true _ _ refl; answers = λ some. absurd (some refl) }

quiet14 : IsQuiet two_nodes 0 quick_pace 1 m14
unfolding world_steps run AllAllowed total
quiet14 = record { on = refl; up = refl; view = refl; free = refl; quorate = refl; chosen = refl; gentle = refl; turns = leb-true _ _ refl; answers = λ some. absurd (some refl) }

quiet15 : IsQuiet two_nodes 0 quick_pace 1 m15
unfolding world_steps run AllAllowed total
quiet15 = record { on = refl; up = refl; view = refl; free = refl; quorate = refl; chosen = refl; gentle = refl; turns = leb-true _ _ refl; answers = λ some. absurd (some refl) }

quiet16 : IsQuiet two_nodes 0 quick_pace 1 m16
unfolding world_steps run AllAllowed total
quiet16 = record { on = refl; up = refl; view = refl; free = refl; quorate = refl; chosen = refl; gentle = refl; turns = leb-true _ _ refl; answers = λ some. absurd (some refl) }

quiet17 : IsQuiet two_nodes 0 quick_pace 1 m17
unfolding world_steps run AllAllowed total
quiet17 = record { on = refl; up = refl; view = refl; free = refl; quorate = refl; chosen = refl; gentle = refl; turns = leb-true _ _ refl; answers = λ some. leb-true _ _ refl }

quiet18 : IsQuiet two_nodes 0 quick_pace 1 m18
unfolding world_steps run AllAllowed total
quiet18 = record { on = refl; up = refl; view = refl; free = refl; quorate = refl; chosen = refl; gentle = refl; turns = leb-true _ _ refl; answers = λ some. absurd (some refl) }

quiet19 : IsQuiet two_nodes 0 quick_pace 1 m19
unfolding world_steps run AllAllowed total
quiet19 = record { on = refl; up = refl; view = refl; free = refl; quorate = refl; chosen = refl; gentle = refl; turns = leb-true _ _ refl; answers = λ some. absurd (some refl) }

quiet20 : IsQuiet two_nodes 0 quick_pace 1 m20
unfolding world_steps run AllAllowed total
quiet20 = record { on = refl; up = refl; view = refl; free = refl; quorate = refl; chosen = refl; gentle = refl; turns = leb-true _ _ refl; answers = λ some. absurd (some refl) }

quiet21 : IsQuiet two_nodes 0 quick_pace 1 m21
unfolding world_steps run AllAllowed total
quiet21 = record { on = refl; up = refl; view = refl; free = refl; quorate = refl; chosen = refl; gentle = refl; turns = leb-true _ _ refl; answers = λ some. leb-true _ _ refl }

quiet22 : IsQuiet two_nodes 0 quick_pace 1 m22
unfolding world_steps run AllAllowed total
quiet22 = record { on = refl; up = refl; view = refl; free = refl; quorate = refl; chosen = refl; gentle = refl; turns = leb-true _ _ refl; answers = λ some. absurd (some refl) }

quiet23 : IsQuiet two_nodes 0 quick_pace 1 m23
unfolding world_steps run AllAllowed total
quiet23 = record { on = refl; up = refl; view = refl; free = refl; quorate = refl; chosen = refl; gentle = refl; turns = leb-true _ _ refl; answers = λ some. absurd (some refl) }

quiet24 : IsQuiet two_nodes 0 quick_pace 1 m24
unfolding world_steps run AllAllowed total
quiet24 = record { on = refl; up = refl; view = refl; free = refl; quorate = refl; chosen = refl; gentle = refl; turns = leb-true _ _ refl; answers = λ some. absurd (some refl) }

quiet25 : IsQuiet two_nodes 0 quick_pace 1 m25
unfolding world_steps run AllAllowed total
quiet25 = record { on = refl; up = refl; view = refl; free = refl; quorate = refl; chosen = refl; gentle = refl; turns = leb-true _ _ refl; answers = λ some. leb-true _ _ refl }

quiet26 : IsQuiet two_nodes 0 quick_pace 1 m26
unfolding world_steps run AllAllowed total
quiet26 = record { on = refl; up = refl; view = refl; free = refl; quorate = refl; chosen = refl; gentle = refl; turns = leb-true _ _ refl; answers = λ some. absurd (some refl) }

quiet27 : IsQuiet two_nodes 0 quick_pace 1 m27
unfolding world_steps run AllAllowed total
quiet27 = record { on = refl; up = refl; view = refl; free = refl; quorate = refl; chosen = refl; gentle = refl; turns = leb-true _ _ refl; answers = λ some. absurd (some refl) }

quiet28 : IsQuiet two_nodes 0 quick_pace 1 m28
unfolding world_steps run AllAllowed total
quiet28 = record { on = refl; up = refl; view = refl; free = refl; quorate = refl; chosen = refl; gentle = refl; turns = leb-true _ _ refl; answers = λ some. absurd (some refl) }

quiet29 : IsQuiet two_nodes 0 quick_pace 1 m29
unfolding world_steps run AllAllowed total
quiet29 = record { on = refl; up = refl; view = refl; free = refl; quorate = refl; chosen = refl; gentle = refl; turns = leb-true _ _ refl; answers = λ some. leb-true _ _ refl }

quiet30 : IsQuiet two_nodes 0 quick_pace 1 m30
unfolding world_steps run AllAllowed total
quiet30 = record { on = refl; up = refl; view = refl; free = refl; quorate = refl; chosen = refl; gentle = refl; turns = leb-true _ _ refl; answers = λ some. absurd (some refl) }

quiet31 : IsQuiet two_nodes 0 quick_pace 1 m31
unfolding world_steps run AllAllowed total
quiet31 = record { on = refl; up = refl; view = refl; free = refl; quorate = refl; chosen = refl; gentle = refl; turns = leb-true _ _ refl; answers = λ some. absurd (some refl) }

quiet32 : IsQuiet two_nodes 0 quick_pace 1 m32
unfolding world_steps run AllAllowed total
quiet32 = record { on = refl; up = refl; view = refl; free = refl; quorate = refl; chosen = refl; gentle = refl; turns = leb-true _ _ refl; answers = λ some. absurd (some refl) }

quiet_first : QuietSince two_nodes 0 quick_pace 1 m0 m13
quiet_first = AndThen (AndThen (AndThen (AndThen (AndThen (AndThen (AndThen (AndThen (AndThen (AndThen (AndThen (AndThen (AndThen (FromHere quiet0) quiet1) quiet2) quiet3) quiet4) quiet5) quiet6) quiet7) quiet8) quiet9) quiet10) quiet11) quiet12) quiet13

quiet_since : QuietSince two_nodes 0 quick_pace 1 m13 m32
quiet_since = AndThen (AndThen (AndThen (AndThen (AndThen (AndThen (AndThen (AndThen (AndThen (AndThen (AndThen (AndThen (AndThen (AndThen (AndThen (AndThen (AndThen (AndThen (AndThen (FromHere quiet13) quiet14) quiet15) quiet16) quiet17) quiet18) quiet19) quiet20) quiet21) quiet22) quiet23) quiet24) quiet25) quiet26) quiet27) quiet28) quiet29) quiet30) quiet31) quiet32

under0 : IsUnder two_nodes 1 (sees 3) m0
unfolding world_steps run AllAllowed total
under0 = record { on = refl; up = refl; sees = refl }

under1 : IsUnder two_nodes 1 (sees 3) m1
unfolding world_steps run AllAllowed total
under1 = record { on = refl; up = refl; sees = refl }

under2 : IsUnder two_nodes 1 (sees 3) m2
unfolding world_steps run AllAllowed total
under2 = record { on = refl; up = refl; sees = refl }

under3 : IsUnder two_nodes 1 (sees 3) m3
unfolding world_steps run AllAllowed total
under3 = record { on = refl; up = refl; sees = refl }

under4 : IsUnder two_nodes 1 (sees 3) m4
unfolding world_steps run AllAllowed total
under4 = record { on = refl; up = refl; sees = refl }

under5 : IsUnder two_nodes 1 (sees 3) m5
unfolding world_steps run AllAllowed total
under5 = record { on = refl; up = refl; sees = refl }

under6 : IsUnder two_nodes 1 (sees 3) m6
unfolding world_steps run AllAllowed total
under6 = record { on = refl; up = refl; sees = refl }

under7 : IsUnder two_nodes 1 (sees 3) m7
unfolding world_steps run AllAllowed total
under7 = record { on = refl; up = refl; sees = refl }

under8 : IsUnder two_nodes 1 (sees 3) m8
unfolding world_steps run AllAllowed total
under8 = record { on = refl; up = refl; sees = refl }

under9 : IsUnder two_nodes 1 (sees 3) m9
unfolding world_steps run AllAllowed total
under9 = record { on = refl; up = refl; sees = refl }

under10 : IsUnder two_nodes 1 (sees 3) m10
unfolding world_steps run AllAllowed total
under10 = record { on = refl; up = refl; sees = refl }

under11 : IsUnder two_nodes 1 (sees 3) m11
unfolding world_steps run AllAllowed total
under11 = record { on = refl; up = refl; sees = refl }

under12 : IsUnder two_nodes 1 (sees 3) m12
unfolding world_steps run AllAllowed total
under12 = record { on = refl; up = refl; sees = refl }

under13 : IsUnder two_nodes 1 (sees 3) m13
unfolding world_steps run AllAllowed total
under13 = record { on = refl; up = refl; sees = refl }

under_each : EachSince (IsUnder two_nodes 1 (sees 3)) m0 m13
under_each = Then (Then (Then (Then (Then (Then (Then (Then (Then (Then (Then (Then (Then (Here under0) under1) under2) under3) under4) under5) under6) under7) under8) under9) under10) under11) under12) under13

outs1 : newest_outs (node two_nodes 0 m1).log ≡ out.Feed ∷ []
unfolding world_steps run AllAllowed total
outs1 = refl

asks1 : Serves two_nodes 0 1 0 1 m13 m1
unfolding Serves Owes
asks1 = λ same. subst (λ outs. All (Owes two_nodes 0 1 1 m1 m13) outs) (sym outs1) (All-cons (Owes two_nodes 0 1 1 m1 m13) (out.Feed) ([]) (tt) (All-nil (Owes two_nodes 0 1 1 m1 m13)))

tells1 : Serves two_nodes 0 1 1 0 m13 m1
unfolding Serves Owes
tells1 = λ same. absurd cc

asks2 : Serves two_nodes 0 1 0 1 m13 m2
unfolding Serves Owes
asks2 = tt

tells2 : Serves two_nodes 0 1 1 0 m13 m2
unfolding Serves Owes
tells2 = tt

asks3 : Serves two_nodes 0 1 0 1 m13 m3
unfolding Serves Owes
asks3 = tt

tells3 : Serves two_nodes 0 1 1 0 m13 m3
unfolding Serves Owes
tells3 = tt

outs4 : newest_outs (node two_nodes 0 m4).log ≡ out.Send second (packet.Ask (record { from = first; to = second; incarnation = 1; install = 1; view = sees 3 })) ∷ out.Disk disk.ReadMail ∷ []
unfolding world_steps run AllAllowed total
outs4 = refl

asks4 : Serves two_nodes 0 1 0 1 m13 m4
unfolding Serves Owes
asks4 = λ same. subst (λ outs. All (Owes two_nodes 0 1 1 m4 m13) outs) (sym outs4) (All-cons (Owes two_nodes 0 1 1 m4 m13) (out.Send second (packet.Ask (record { from = first; to = second; incarnation = 1; install = 1; view = sees 3 }))) (out.Disk disk.ReadMail ∷ []) (λ same. record { at = m4; after = Itself; back = Later _ (Later _ (Later _ (Later _ (Later _ (Later _ (Later _ (Later _ (Itself)))))))); soon = omega arith }) (All-cons (Owes two_nodes 0 1 1 m4 m13) (out.Disk disk.ReadMail) ([]) (tt) (All-nil (Owes two_nodes 0 1 1 m4 m13))))

tells4 : Serves two_nodes 0 1 1 0 m13 m4
unfolding Serves Owes
tells4 = λ same. absurd cc

asks5 : Serves two_nodes 0 1 0 1 m13 m5
unfolding Serves Owes
asks5 = λ same. absurd cc

outs5 : newest_outs (node two_nodes 1 m5).log ≡ out.Send first (packet.Tell (record { from = second; to = first; incarnation = 1; install = 1; view = sees 3; holds = false; released = true })) ∷ []
unfolding world_steps run AllAllowed total
outs5 = refl

tells5 : Serves two_nodes 0 1 1 0 m13 m5
unfolding Serves Owes
tells5 = λ same. subst (λ outs. All (Owes two_nodes 0 1 0 m5 m13) outs) (sym outs5) (All-cons (Owes two_nodes 0 1 0 m5 m13) (out.Send first (packet.Tell (record { from = second; to = first; incarnation = 1; install = 1; view = sees 3; holds = false; released = true }))) ([]) (λ same. record { at = m5; after = Itself; back = Later _ (Later _ (Later _ (Later _ (Later _ (Later _ (Later _ (Itself))))))); soon = omega arith }) (All-nil (Owes two_nodes 0 1 0 m5 m13)))

outs6 : newest_outs (node two_nodes 0 m6).log ≡ out.Start ∷ []
unfolding world_steps run AllAllowed total
outs6 = refl

asks6 : Serves two_nodes 0 1 0 1 m13 m6
unfolding Serves Owes
asks6 = λ same. subst (λ outs. All (Owes two_nodes 0 1 1 m6 m13) outs) (sym outs6) (All-cons (Owes two_nodes 0 1 1 m6 m13) (out.Start) ([]) (tt) (All-nil (Owes two_nodes 0 1 1 m6 m13)))

tells6 : Serves two_nodes 0 1 1 0 m13 m6
unfolding Serves Owes
tells6 = λ same. absurd cc

outs7 : newest_outs (node two_nodes 0 m7).log ≡ out.Feed ∷ []
unfolding world_steps run AllAllowed total
outs7 = refl

asks7 : Serves two_nodes 0 1 0 1 m13 m7
unfolding Serves Owes
asks7 = λ same. subst (λ outs. All (Owes two_nodes 0 1 1 m7 m13) outs) (sym outs7) (All-cons (Owes two_nodes 0 1 1 m7 m13) (out.Feed) ([]) (tt) (All-nil (Owes two_nodes 0 1 1 m7 m13)))

tells7 : Serves two_nodes 0 1 1 0 m13 m7
unfolding Serves Owes
tells7 = λ same. absurd cc

asks8 : Serves two_nodes 0 1 0 1 m13 m8
unfolding Serves Owes
asks8 = tt

tells8 : Serves two_nodes 0 1 1 0 m13 m8
unfolding Serves Owes
tells8 = tt

asks9 : Serves two_nodes 0 1 0 1 m13 m9
unfolding Serves Owes
asks9 = tt

tells9 : Serves two_nodes 0 1 1 0 m13 m9
unfolding Serves Owes
tells9 = tt

outs10 : newest_outs (node two_nodes 0 m10).log ≡ out.Disk disk.ReadMail ∷ []
unfolding world_steps run AllAllowed total
outs10 = refl

asks10 : Serves two_nodes 0 1 0 1 m13 m10
unfolding Serves Owes
asks10 = λ same. subst (λ outs. All (Owes two_nodes 0 1 1 m10 m13) outs) (sym outs10) (All-cons (Owes two_nodes 0 1 1 m10 m13) (out.Disk disk.ReadMail) ([]) (tt) (All-nil (Owes two_nodes 0 1 1 m10 m13)))

tells10 : Serves two_nodes 0 1 1 0 m13 m10
unfolding Serves Owes
tells10 = λ same. absurd cc

outs11 : newest_outs (node two_nodes 0 m11).log ≡ out.Feed ∷ []
unfolding world_steps run AllAllowed total
outs11 = refl

asks11 : Serves two_nodes 0 1 0 1 m13 m11
unfolding Serves Owes
asks11 = λ same. subst (λ outs. All (Owes two_nodes 0 1 1 m11 m13) outs) (sym outs11) (All-cons (Owes two_nodes 0 1 1 m11 m13) (out.Feed) ([]) (tt) (All-nil (Owes two_nodes 0 1 1 m11 m13)))

tells11 : Serves two_nodes 0 1 1 0 m13 m11
unfolding Serves Owes
tells11 = λ same. absurd cc

asks12 : Serves two_nodes 0 1 0 1 m13 m12
unfolding Serves Owes
asks12 = tt

tells12 : Serves two_nodes 0 1 1 0 m13 m12
unfolding Serves Owes
tells12 = tt

asks13 : Serves two_nodes 0 1 0 1 m13 m13
unfolding Serves Owes
asks13 = tt

tells13 : Serves two_nodes 0 1 1 0 m13 m13
unfolding Serves Owes
tells13 = tt

asks_each : EachAfter (Serves two_nodes 0 1 0 1 m13) m0 m13
asks_each = Next (Next (Next (Next (Next (Next (Next (Next (Next (Next (Next (Next (Next (Start) asks1) asks2) asks3) asks4) asks5) asks6) asks7) asks8) asks9) asks10) asks11) asks12) asks13

tells_each : EachAfter (Serves two_nodes 0 1 1 0 m13) m0 m13
tells_each = Next (Next (Next (Next (Next (Next (Next (Next (Next (Next (Next (Next (Next (Start) tells1) tells2) tells3) tells4) tells5) tells6) tells7) tells8) tells9) tells10) tells11) tells12) tells13

clock_of : (adder : ℕ) (e : What) (b : List Moment) → (node two_nodes 0 (Adds adder e ∷ b)).clock ≡ (node two_nodes 0 b).clock
unfolding node handed logged
clock_of adder e b = by_owner (adder == 0)
  where
    by_owner : (own : Bool) → (if own then handed two_nodes 0 (time b) e (node two_nodes 0 b) else node two_nodes 0 b).clock ≡ (node two_nodes 0 b).clock
    by_owner true = refl
    by_owner false = refl

inside_so : is_in_view (node two_nodes 0 m0).log 1 ≡ true
unfolding world_steps run AllAllowed total
inside_so = refl

delivers : (from to : ℕ) → EachAfter (Serves two_nodes 0 1 from to m13) m0 m13 → Delivers two_nodes 0 1 from to m0 m13
unfolding Serves Owes
delivers from to each entry before packet after back sends late =
    soonest (All-contains (Owes two_nodes 0 1 to (Adds from entry ∷ before) m13) (newest_outs (node two_nodes from (Adds from entry ∷ before)).log) (out.Send (rank_of to) packet)
    (at_after each after back refl) sends refl)
  where
    soonest : IsDelivered two_nodes 0 to packet (tick_of (node two_nodes 0 (Adds from entry ∷ before)).clock + 1) (Adds from entry ∷ before) m13
        → IsDelivered two_nodes 0 to packet (tick_of (node two_nodes 0 before).clock + 1) (Adds from entry ∷ before) m13
    soonest it = subst (λ c. IsDelivered two_nodes 0 to packet (tick_of c + 1) (Adds from entry ∷ before) m13) (clock_of from entry before) it

runs_so : (run two_nodes short_times hears).moments ≡ m32
unfolding world_steps run AllAllowed total
runs_so = refl

sees_once : install (node two_nodes 0 m0).log ≡ 1
unfolding world_steps run AllAllowed total
sees_once = refl

all_allowed : AllAllowed two_nodes short_times hears
unfolding world_steps run AllAllowed total
all_allowed = (refl, refl, (refl, refl, (refl, refl, (refl, refl, (refl, refl, (refl, refl, (refl, refl, (refl, refl, (refl, refl, (refl, refl, (refl, refl, (refl, refl, (refl, refl, (refl, refl, (refl, refl, (refl, refl, (refl, refl, (refl, refl, (refl, refl, (refl, refl, (refl, refl, (refl, refl, (refl, refl, (refl, refl, (refl, refl, (refl, refl, (refl, refl, (refl, refl, (refl, refl, (refl, refl, (refl, refl, (refl, refl, (refl, refl, (refl, refl, (refl, refl, (refl, refl, (refl, refl, (refl, refl, (refl, refl, (refl, refl, (refl, refl, (refl, refl, (refl, refl, (refl, refl, (refl, refl, (refl, refl, (refl, refl, (refl, refl, (refl, refl, (refl, refl, (refl, refl, (refl, refl, (refl, refl, (refl, refl, (refl, refl, (refl, refl, (refl, refl, (refl, refl, (refl, refl, (refl, refl, tt))))))))))))))))))))))))))))))))))))))))))))))))))))))))))))

nobody_holds : (other : ℕ) → other < 2 → is_holder two_nodes m0 other ≡ false
unfolding world_steps run AllAllowed total
nobody_holds zero below = refl
nobody_holds (suc zero) below = refl
nobody_holds (suc (suc other)) below = absurd (omega arith)

delays : DelaysOver two_nodes (tick_of (node two_nodes 0 m0).clock) (node two_nodes 0 m0).log
unfolding world_steps run AllAllowed total
delays zero below away = omega arith
delays (suc zero) below away = omega arith
delays (suc (suc other)) below away = absurd (omega arith)

asked_so : moment two_nodes (node two_nodes 0 m0).log ≡ Some 0
unfolding world_steps run AllAllowed total
asked_so = refl

claims_so : incarnation (node two_nodes 0 m0).log ≡ Some 1
unfolding world_steps run AllAllowed total
claims_so = refl

sees_so : view (node two_nodes 0 m0).log ≡ Some (sees 3)
unfolding world_steps run AllAllowed total
sees_so = refl

late_so : tick_of (node two_nodes 0 m0).clock + short_times.loop_ms + quick_pace.turn + 1 + 1 < tick_of (node two_nodes 0 m13).clock
unfolding world_steps run AllAllowed total
late_so = leb-true _ _ refl

taken_so : HasTakenTicks two_nodes short_times 0 quick_pace m0 m13 m32
unfolding world_steps run AllAllowed total
taken_so = record { late = leb-true _ _ refl; behind = leb-true _ _ refl }

holds_so : is_holder two_nodes m32 0 ≡ true
unfolding world_steps run AllAllowed total
holds_so = refl

hears_other : HearsQuietly two_nodes short_times 0 quick_pace 1 (sees 3) 1 m0 m13
hears_other = record {
  fast = leb-true _ _ refl;
  since = subst (λ views. QuietSince two_nodes 0 quick_pace views m0 m13) (sym sees_once) quiet_first;
  over = delays;
  late = late_so;
  sees = sees_so;
  has_both = (refl, refl);
  configured = (omega arith, omega arith);
  apart = λ same. absurd cc;
  asked = (0, asked_so);
  claims = (1, claims_so);
  under = λ mid after back. at_each under_each after back;
  asks_come = delivers 0 1 asks_each;
  tells_come = delivers 1 0 tells_each;
}

stays_heard : StaysHeard two_nodes short_times 0 quick_pace 1 (sees 3) m0 m13 m32
stays_heard = record {
  fast = leb-true _ _ refl;
  first = subst (λ views. QuietSince two_nodes 0 quick_pace views m0 m13) (sym sees_once) quiet_first;
  since = subst (λ views. QuietSince two_nodes 0 quick_pace views m13 m32) (sym sees_once) quiet_since;
  over = delays;
  hears = by_other;
}
  where
    by_other : (other : ℕ) → other < length two_nodes.nodes → is_in_view (node two_nodes 0 m0).log other ≡ true → ¬ (other ≡ 0)
        → HearsQuietly two_nodes short_times 0 quick_pace 1 (sees 3) other m0 m13
    by_other zero below inside apart = absurd (apart refl)
    by_other (suc zero) below inside apart = hears_other
    by_other (suc (suc other)) below inside apart = absurd (omega (arith, below))

pub hears_and_takes_over : HearsAndTakesOver
hears_and_takes_over = record {
  settings = two_nodes;
  timing = short_times;
  pace = quick_pace;
  rank = 0;
  post = 1;
  present = sees 3;
  other = 1;
  events = hears;
  old = m0;
  mid = m13;
  valid = two_nodes_valid;
  safe = refl;
  allowed = all_allowed;
  free = nobody_holds;
  inside = inside_so;
  apart = λ same. absurd cc;
  quiet = subst (λ new. StaysHeard two_nodes short_times 0 quick_pace 1 (sees 3) m0 m13 new) (sym runs_so) stays_heard;
  taken = subst (λ new. HasTakenTicks two_nodes short_times 0 quick_pace m0 m13 new) (sym runs_so) taken_so;
}
