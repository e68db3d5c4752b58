-- From look to look of a running node its view maker keeps its view and its change.
use Rattle.std.proofs.Common.{◌≡◌, ℕ, suc, zero, Bool, true, false, not, ◌&&◌, List, [], ◌∷◌, Option, None, Some, if◌then◌else◌, refl, sym, ◌∙◌, ap, subst}
use Rattle.std.specs.Prelude.{nat_lt, option_map}
use Rattle.std.proofs.lemmas.Bool.{false≢true}
use Rattle.std.proofs.lemmas.Option.{none-some, same_Some}
use Rattle.qn_base.specs.declared.calls.Call.{Call}
use Rattle.qn_base.specs.declared.ids.Said.{Said}
use Rattle.qn_base.specs.declared.ids.Standing.{Standing}
use Rattle.qn_base.specs.declared.ids.View.{View}
use Rattle.qn_io.specs.Answered.{time_of}
use Rattle.qn_model.specs.declared.configuration.Settings.{Settings}
use Rattle.qn_model.specs.declared.entries.What.{What}
use Rattle.qn_model.specs.declared.outputs.Out.{Out}
use Rattle.qn_model.specs.declared.outputs.Out.TheVariants as out
use Rattle.qn_model.specs.declared.packets.Packet.{Packet}
use Rattle.qn_model.specs.declared.packets.Packet.TheVariants as packet
use Rattle.qn_model.specs.declared.packets.Sent.{Sent}
use Rattle.qn_model.specs.Log.{now}
use Rattle.qn_model.specs.NodeOutputs.{newest_outs}
use Rattle.qn_model.specs.Phases.{is_live, phase}
use Rattle.qn_member.specs.Maker.{Maker, after_announce, after_hello, has_configured, is_configured, plain, says_more}
use Rattle.qn_member.specs.Naming.{NamingMaker, after_named_announce, after_named_hello, after_stand, after_standing, has_bit, is_other, knows_bit}
use Rattle.qn_member.specs.NamingViews.{after_look, after_naming_hello_due, is_naming_hello_due}
use Rattle.qn_safety.specs.declared.polls.Poll.{Poll}
use Rattle.qn_live.specs.declared.live_end.LiveEnd.{LiveEnd}
use Rattle.qn_live.specs.declared.place.Choice.{Choice}
use Rattle.qn_live.specs.declared.place.Choice.TheVariants as choice
use Rattle.qn_live.specs.declared.words.Own.{Own}
use Rattle.qn_live.specs.Choosing.{heard, is_late, is_to_leave, looked, looking, own_of, ready, told}
use Rattle.qn_live.specs.Greetings.{maker_begun, maker_where}
use Rattle.qn_live.specs.Performing.{end_in, noted, waits_after}
use Rattle.qn_live.specs.Polling.{answered, poll_due, polled}
use Rattle.qn_live.specs.Running.{RunState}
use Rattle.qn_live.specs.Runs.{asked_maker, greets, looked_at, taken}
use Rattle.qn_joined.specs.Stands.{Acting, Ended, Looking, Parting, Polling, Receiving, Saying, Spot, acts_at, after_spot, begun_at, clocked_by, farewells_due, log_at, opening, parts_at, polled_at, said_at, sends_due, settled_by, taking}
use Rattle.qn_service.specs.Company.{IsNextLook}
use Rattle.qn_service.specs.Looks.{LookOf, look_at, look_by, look_in}
use Rattle.qn_service.proofs.SpotLogs.{acts_log}

next_same : (k : Maker) → IsNextLook k k
next_same k = record { view = refl; change = refl }

next_then : {a b c : Maker} → IsNextLook a b → IsNextLook b c → IsNextLook a c
next_then first second = record { view = second.view ∙ first.view; change = second.change ∙ first.change }

-- ## What comes between two looks

if_next : (b : Bool) (one other before : Maker) → IsNextLook before one → IsNextLook before other → IsNextLook before (if b then one else other)
if_next true one other before first second = first
if_next false one other before first second = second

if_named : (b : Bool) (one other : NamingMaker) (before : Maker) → IsNextLook before one.maker → IsNextLook before other.maker → IsNextLook before (if b then one else other).maker
if_named true one other before first second = first
if_named false one other before first second = second

hello_next : (tick from : ℕ) (said : Said) (k : Maker) → IsNextLook k (after_hello tick from said k)
hello_next tick from said k = if_next (is_configured k from) _ k k (record { view = refl; change = refl }) (next_same k)

named_hello_next : (tick from : ℕ) (said : Said) (m : NamingMaker) → IsNextLook m.maker (after_named_hello tick from said m).maker
named_hello_next tick from said m = if_named (is_other m from) _ _ m.maker (hello_next tick from said m.maker) (hello_next tick from said m.maker)

standing_next : (from : ℕ) (standing : Standing) (m : NamingMaker) → IsNextLook m.maker (after_standing from standing m).maker
standing_next from standing m =
    if_named (is_other m from && has_bit standing.flags knows_bit) _ m m.maker (record { view = refl; change = refl }) (next_same m.maker)

announce_next : (from : ℕ) (view : View) (m : NamingMaker) → IsNextLook m.maker (after_named_announce from view m).maker
announce_next from view m =
    let counts = is_configured m.maker from && has_configured m.maker.nodes view.members in
    let kept : IsNextLook m.maker (after_announce from view m.maker) = if_next counts _ m.maker m.maker (record { view = refl; change = refl }) (next_same m.maker) in
    if_named counts _ _ m.maker kept kept

heard_next : (tick : ℕ) (p : Option Packet) (m : NamingMaker) → IsNextLook m.maker (heard tick p m).maker
heard_next tick None m = next_same m.maker
heard_next tick (Some (packet.Hello from)) m =
    if_named (is_configured m.maker from.0 && not (says_more tick m.maker from.0)) _ m m.maker (named_hello_next tick from.0 plain m) (next_same m.maker)
heard_next tick (Some (packet.Heard from said standing)) m =
    next_then (named_hello_next tick from.0 said m) (standing_next from.0 standing (after_named_hello tick from.0 said m))
heard_next tick (Some (packet.Announce from view)) m = announce_next from.0 view m
heard_next tick (Some (packet.Ask ask)) m = next_same m.maker
heard_next tick (Some (packet.Tell tell)) m = next_same m.maker
heard_next tick (Some (packet.Vote agrees)) m = next_same m.maker

pub stand_next : (standing : Standing) (holds : Bool) (m : NamingMaker) → IsNextLook m.maker (after_stand standing holds m).maker
stand_next standing holds m = if_named (is_configured m.maker m.maker.me) _ m m.maker (next_same m.maker) (next_same m.maker)

pub told_next : (tick : ℕ) (own : Own) (p : Option Packet) (m : NamingMaker) → IsNextLook m.maker (told tick own p m).maker
told_next tick own p m = next_then (heard_next tick p m) (stand_next own.said own.holds (heard tick p m))

pub due_next : (tick : ℕ) (m : NamingMaker) → IsNextLook m.maker (after_naming_hello_due tick m).maker
due_next tick m = if_named (is_naming_hello_due tick m) _ m m.maker (record { view = refl; change = refl }) (next_same m.maker)

-- ## Where a run stands

-- there is a view maker, which keeps that
abbrev pub Has : Maker → Option NamingMaker → Type 0
Has k None = ⊥
Has k (Some m) = IsNextLook k m.maker

abbrev pub HasAt : Maker → Spot → Type 0
HasAt k (Receiving st) = Has k st.maker
HasAt k (Looking chosen) = Has k chosen.1.maker
HasAt k (Acting entry outs o rest st) = Has k st.maker
HasAt k (Polling poll sents st) = Has k st.maker
HasAt k (Saying sent rest st) = Has k st.maker
HasAt k (Parting end sent rest st) = Unit {0}
HasAt k (Ended ran) = Unit {0}

module _ (s : Settings) (me : ℕ) (k : Maker) where
  opening_has : (st : RunState) (late : Bool) → Has k st.maker → HasAt k (opening st late)
  opening_has st true has = has
  opening_has st false has = has

  taking_has : (st : RunState) (leaves rests : Bool) (stopped : Option Bool) (disk : Option What) → Has k st.maker
      → HasAt k (taking (record st { waits = record { stopped = stopped; disk = disk } }) (ready leaves rests (record { stopped = stopped; disk = disk })))
  taking_has st leaves rests (Some ok) disk has = has
  taking_has st leaves false None (Some answer) has = has
  taking_has st true false None None has = has
  taking_has st false false None None has = opening_has (record st { waits = record { stopped = None; disk = None } }) (is_late st) has
  taking_has st true true None disk has = has
  taking_has st false true None disk has = opening_has (record st { waits = record { stopped = None; disk = disk } }) (is_late st) has

  begun_has : (leave : Option ℕ) (turn more : ℕ) (st : RunState) → Has k st.maker → HasAt k (begun_at s me leave turn more st).spot
  begun_has leave turn zero st has = tt
  begun_has leave turn (suc more) st has = taking_has st (is_to_leave s leave turn st) st.rests st.waits.stopped st.waits.disk has

  said_has : (leave : Option ℕ) (turn more : ℕ) (st : RunState) (sents : List Sent) → Has k st.maker → HasAt k (said_at s me leave turn more st sents).spot
  said_has leave turn more st [] has = begun_has leave turn more st has
  said_has leave turn more st (sent ∷ rest) has = has

  polled_has : (leave : Option ℕ) (turn more : ℕ) (st : RunState) (sents : List Sent) (poll : Option Poll) → Has k st.maker
      → HasAt k (polled_at s me leave turn more st sents poll).spot
  polled_has leave turn more st sents None has = said_has leave turn more st sents has
  polled_has leave turn more st sents (Some poll) has = has

  parts_has : (turn more : ℕ) (end : LiveEnd) (st : RunState) (sents : List Sent) → HasAt k (parts_at turn more end st sents).spot
  parts_has turn more end st [] = tt
  parts_has turn more end st (sent ∷ rest) = tt

  -- a turn of a live node leaves its view maker
  asked_has : (tick : ℕ) (live : Bool) (begun : NamingMaker) (had : Option NamingMaker) → live ≡ true → Has k had
      → Has k (option_map (after_naming_hello_due tick) (maker_where live begun had))
  asked_has tick live begun None is has = absurd has
  asked_has tick true begun (Some m) is has = next_then has (due_next tick m)
  asked_has tick false begun (Some m) is has = absurd (false≢true is)

  settled_has : (leave : Option ℕ) (turn more : ℕ) (entry : What) (st : RunState) (found : Option LiveEnd) → is_live (phase s st.log) ≡ true → Has k st.maker
      → HasAt k (settled_by s me leave turn more entry st found).spot
  settled_has leave turn more entry st None live has =
      polled_has leave turn more (polled s me (greets s me st) entry (asked_maker s me st)) (sends_due s me st)
      (poll_due s me (greets s me st) entry (asked_maker s me st))
      (asked_has (now st.log) (is_live (phase s st.log)) (maker_begun s me st.loop_ms (own_of st)) st.maker live has)
  settled_has leave turn more entry st (Some end) live has = parts_has turn more end st (farewells_due s me end st)

  acts_has : (leave : Option ℕ) (turn more : ℕ) (entry : What) (outs rest : List Out) (st : RunState) → is_live (phase s st.log) ≡ true → Has k st.maker
      → HasAt k (acts_at s me leave turn more entry outs rest st).spot
  acts_has leave turn more entry outs [] st live has = settled_has leave turn more entry st (end_in entry outs) live has
  acts_has leave turn more entry outs (o ∷ rest) st live has = has

  noted_has : (st : RunState) (o : Out) (made : Call) → Has k st.maker → Has k (noted s o made st).maker
  unfolding waits_after
  noted_has st out.Stop made has = has
  noted_has st out.Start made has = has
  noted_has st out.Feed made has = has
  noted_has st (out.Send to sent) made has = has
  noted_has st (out.Disk op) made has = has
  noted_has st out.Disarm made has = has
  noted_has st (out.Halt halted) made has = has

  acts_live : (leave : Option ℕ) (turn more : ℕ) (entry : What) (outs rest : List Out) (st : RunState)
      → is_live (phase s (log_at (acts_at s me leave turn more entry outs rest st).spot)) ≡ true → Has k st.maker → HasAt k (acts_at s me leave turn more entry outs rest st).spot
  acts_live leave turn more entry outs rest st live has =
      acts_has leave turn more entry outs rest st (sym (ap (λ log. is_live (phase s log)) (acts_log s me leave turn more entry outs rest st)) ∙ live) has

  -- ## A call

  -- the view maker of a turn that takes what was chosen, and makes no look
  unlooked : (tick : ℕ) (own : Own) (chosen : Choice) (had : Option NamingMaker) → look_in me tick own chosen had ≡ None → Has k had → Has k (looked tick own chosen had).0
  unlooked tick own (choice.Whole entry) had none has = has
  unlooked tick own (choice.Answer reply) had none has = has
  unlooked tick own (choice.Open p) None none has = absurd has
  unlooked tick own (choice.Open p) (Some m) none has = absurd (none-some _ (sym none))

  clocked_has : (leave : Option ℕ) (turn more tick : ℕ) (chosen : Choice × RunState) (back : Bool)
      → is_live (phase s (log_at (clocked_by s me leave turn more chosen tick back).spot)) ≡ true
      → (if back then None else look_by me tick (answered tick chosen)) ≡ None → HasAt k (Looking chosen)
      → HasAt k (clocked_by s me leave turn more chosen tick back).spot
  clocked_has leave turn more tick chosen true live none has = tt
  clocked_has leave turn more tick chosen false live none has =
      let st = looking tick (answered tick chosen) in
      let found = looked_at tick (answered tick chosen) in
      let after = taken s me st tick found in
      acts_live leave turn more found.1 (newest_outs after.log) (newest_outs after.log) after live
      (unlooked tick (own_of st) (answered tick chosen).0 chosen.1.maker none has)

  pub spot_kept : (leave : Option ℕ) (turn more : ℕ) (spot : Spot) (made : Call) → is_live (phase s (log_at (after_spot s me leave turn more spot made).spot)) ≡ true
      → look_at me spot made ≡ None → HasAt k spot → HasAt k (after_spot s me leave turn more spot made).spot
  unfolding after_spot
  spot_kept leave turn more (Receiving st) made live none has = has
  spot_kept leave turn more (Looking chosen) made live none has =
      clocked_has leave turn more (time_of made) chosen (nat_lt (time_of made) (now chosen.1.log)) live none has
  spot_kept leave turn more (Acting entry outs o rest st) made live none has =
      acts_live leave turn more entry outs rest (noted s o made st) live (noted_has st o made has)
  spot_kept leave turn more (Polling poll sents st) made live none has = said_has leave turn more st sents has
  spot_kept leave turn more (Saying sent rest st) made live none has = said_has leave turn more st rest has
  spot_kept leave turn more (Parting end sent rest st) made live none has = parts_has turn more end st rest
  spot_kept leave turn more (Ended ran) made live none has = tt

-- ## A look

-- what it leaves
abbrev pub left_by : LookOf → Maker
left_by look = (after_look look.tick look.maker).maker

module _ (s : Settings) (me : ℕ) (look : LookOf) where
  looked_has : (tick : ℕ) (own : Own) (chosen : Choice) (had : Option NamingMaker) → look_in me tick own chosen had ≡ Some look → Has (left_by look) (looked tick own chosen had).0
  looked_has tick own (choice.Whole entry) had found = absurd (none-some look found)
  looked_has tick own (choice.Answer reply) had found = absurd (none-some look found)
  looked_has tick own (choice.Open p) None found = absurd (none-some look found)
  looked_has tick own (choice.Open p) (Some m) found =
      subst (λ (l : LookOf). IsNextLook (left_by l) (after_look tick (told tick own p m)).maker)
      (same_Some (record { rank = me; tick = tick; maker = told tick own p m }) look found) (next_same (after_look tick (told tick own p m)).maker)

  clocked_looks : (leave : Option ℕ) (turn more tick : ℕ) (chosen : Choice × RunState) (back : Bool)
      → is_live (phase s (log_at (clocked_by s me leave turn more chosen tick back).spot)) ≡ true
      → (if back then None else look_by me tick (answered tick chosen)) ≡ Some look
      → HasAt (left_by look) (clocked_by s me leave turn more chosen tick back).spot
  clocked_looks leave turn more tick chosen true live found = tt
  clocked_looks leave turn more tick chosen false live found =
      let st = looking tick (answered tick chosen) in
      let got = looked_at tick (answered tick chosen) in
      let after = taken s me st tick got in
      acts_live s me (left_by look) leave turn more got.1 (newest_outs after.log) (newest_outs after.log) after live
      (looked_has tick (own_of st) (answered tick chosen).0 chosen.1.maker found)

  pub spot_looked : (leave : Option ℕ) (turn more : ℕ) (spot : Spot) (made : Call) → is_live (phase s (log_at (after_spot s me leave turn more spot made).spot)) ≡ true
      → look_at me spot made ≡ Some look → HasAt (left_by look) (after_spot s me leave turn more spot made).spot
  unfolding after_spot
  spot_looked leave turn more (Looking chosen) made live found = clocked_looks leave turn more (time_of made) chosen (nat_lt (time_of made) (now chosen.1.log)) live found
  spot_looked leave turn more (Receiving st) made live found = absurd (none-some look found)
  spot_looked leave turn more (Acting entry outs o rest st) made live found = absurd (none-some look found)
  spot_looked leave turn more (Polling poll sents st) made live found = absurd (none-some look found)
  spot_looked leave turn more (Saying sent rest st) made live found = absurd (none-some look found)
  spot_looked leave turn more (Parting end sent rest st) made live found = absurd (none-some look found)
  spot_looked leave turn more (Ended ran) made live found = absurd (none-some look found)

  -- a look is of the rank of its node, and its view maker has what that left
  in_rank : (tick : ℕ) (own : Own) (chosen : Choice) (had : Option NamingMaker) → look_in me tick own chosen had ≡ Some look → look.rank ≡ me
  in_rank tick own (choice.Whole entry) had found = absurd (none-some look found)
  in_rank tick own (choice.Answer reply) had found = absurd (none-some look found)
  in_rank tick own (choice.Open p) None found = absurd (none-some look found)
  in_rank tick own (choice.Open p) (Some m) found = ap (λ (l : LookOf). l.rank) (sym (same_Some (record { rank = me; tick = tick; maker = told tick own p m }) look found))

  pub look_rank : (spot : Spot) (made : Call) → look_at me spot made ≡ Some look → look.rank ≡ me
  look_rank (Looking chosen) made found = by_order (nat_lt (time_of made) (now chosen.1.log)) found
    where
      by_order : (back : Bool) → (if back then None else look_by me (time_of made) (answered (time_of made) chosen)) ≡ Some look → look.rank ≡ me
      by_order true none = absurd (none-some look none)
      by_order false here = in_rank (time_of made) (own_of (looking (time_of made) (answered (time_of made) chosen))) (answered (time_of made) chosen).0 chosen.1.maker here
  look_rank (Receiving st) made found = absurd (none-some look found)
  look_rank (Acting entry outs o rest st) made found = absurd (none-some look found)
  look_rank (Polling poll sents st) made found = absurd (none-some look found)
  look_rank (Saying sent rest st) made found = absurd (none-some look found)
  look_rank (Parting end sent rest st) made found = absurd (none-some look found)
  look_rank (Ended ran) made found = absurd (none-some look found)

  in_next : (k : Maker) (tick : ℕ) (own : Own) (chosen : Choice) (had : Option NamingMaker) → look_in me tick own chosen had ≡ Some look → Has k had → IsNextLook k look.maker.maker
  in_next k tick own (choice.Whole entry) had found has = absurd (none-some look found)
  in_next k tick own (choice.Answer reply) had found has = absurd (none-some look found)
  in_next k tick own (choice.Open p) None found has = absurd has
  in_next k tick own (choice.Open p) (Some m) found has =
      subst (λ (l : LookOf). IsNextLook k l.maker.maker) (same_Some (record { rank = me; tick = tick; maker = told tick own p m }) look found)
      (next_then has (told_next tick own p m))

  pub look_next : (k : Maker) (spot : Spot) (made : Call) → look_at me spot made ≡ Some look → HasAt k spot → IsNextLook k look.maker.maker
  look_next k (Looking chosen) made found has = by_order (nat_lt (time_of made) (now chosen.1.log)) found
    where
      by_order : (back : Bool) → (if back then None else look_by me (time_of made) (answered (time_of made) chosen)) ≡ Some look → IsNextLook k look.maker.maker
      by_order true found = absurd (none-some look found)
      by_order false found = in_next k (time_of made) (own_of (looking (time_of made) (answered (time_of made) chosen))) (answered (time_of made) chosen).0 chosen.1.maker found has
  look_next k (Receiving st) made found has = absurd (none-some look found)
  look_next k (Acting entry outs o rest st) made found has = absurd (none-some look found)
  look_next k (Polling poll sents st) made found has = absurd (none-some look found)
  look_next k (Saying sent rest st) made found has = absurd (none-some look found)
  look_next k (Parting end sent rest st) made found has = absurd (none-some look found)
  look_next k (Ended ran) made found has = absurd (none-some look found)
