-- A Hello that a look heard counts at each later look of a node that is up, while no farewell comes.
use Rattle.std.proofs.Common.{◌≡◌, ◌⊎◌, inl, inr, ℕ, suc, zero, ◌<◌, ◌≤◌, Bool, true, false, not, ◌&&◌, ◌==◌, List, [], ◌∷◌, Option, None, Some, length, if◌then◌else◌, refl, sym, ◌∙◌, ap, subst, arith}
use Rattle.std.specs.Prelude.{nat_lt, option_map, slice_index_or, slice_set}
use Rattle.std.proofs.lemmas.Bool.{and_parts, cases_eq, false≢true, lt-ltb}
use Rattle.std.proofs.lemmas.List.{get_or-set_same}
use Rattle.std.proofs.lemmas.Option.{none-some, same_Some}
use Rattle.qn_base.specs.declared.calls.Call.{Call}
use Rattle.qn_base.specs.declared.ids.Said.{Said}
use Rattle.qn_base.specs.declared.ids.Standing.{Standing}
use Rattle.qn_base.specs.declared.ids.View.{View}
use Rattle.qn_base.specs.Members.{is_member}
use Rattle.qn_io.specs.Answered.{time_of}
use Rattle.qn_model.specs.declared.configuration.Settings.{Settings}
use Rattle.qn_model.specs.declared.nodelist.NodeEntry.{NodeEntry}
use Rattle.qn_model.specs.declared.packets.Packet.{Packet}
use Rattle.qn_model.specs.declared.packets.Packet.TheVariants as packet
use Rattle.qn_model.specs.Log.{Line, now}
use Rattle.qn_model.specs.NodeOutputs.{with_entry}
use Rattle.qn_model.specs.Phases.{is_live, phase}
use Rattle.qn_model.specs.Wanted.{rank_of}
use Rattle.qn_member.specs.Maker.{Maker, after_announce, after_hello, enough_of, has_configured, hellos_after, is_configured, of_rank, plain, said_in, says_more}
use Rattle.qn_member.specs.Naming.{NamingMaker, after_named_announce, after_named_hello, after_stand, after_standing, has_bit, holds_bit, is_other, is_own, is_passed_over, is_unable_then, knows_bit, names_nobody, said_with}
use Rattle.qn_member.specs.NamingViews.{after_look, after_naming_hello_due, is_naming_hello_due}
use Rattle.qn_live.specs.declared.place.Choice.{Choice}
use Rattle.qn_live.specs.declared.place.Choice.TheVariants as choice
use Rattle.qn_live.specs.declared.words.Own.{Own}
use Rattle.qn_live.specs.Choosing.{heard, looking, own_of, told}
use Rattle.qn_live.specs.Greetings.{maker_begun, maker_where}
use Rattle.qn_live.specs.Polling.{answered}
use Rattle.qn_live.specs.Running.{RunState}
use Rattle.qn_joined.specs.Stands.{Acting, Ended, Looking, Parting, Polling, Receiving, Saying, Spot, after_spot, log_at}
use Rattle.qn_service.specs.Hellos.{packet_chosen, packet_waiting}
use Rattle.qn_service.specs.Looks.{LookOf, look_at, look_by, look_in}
use Rattle.qn_service.proofs.Sound.{IsSound, look_heard, sound_places}
use Rattle.qn_service.proofs.TurnSteps.{Besides, KnownAt, Places, StepsLead, answered_same, any_maker, spot_looked}

-- ## The Hellos that are known

-- of a rank a Hello of a tick or later is known
pub record KnowsTick (from since : ℕ) (hellos : List (Option ℕ)) : Type 0 where
  pub tick : ℕ
  pub is : of_rank hellos from ≡ Some tick
  pub late : since ≤ tick

-- the last one says what is so
pub record KnowsWord (from : ℕ) (P : Said → Type 0) (words : List (Option Said)) : Type 0 where
  pub said : Said
  pub is : of_rank words from ≡ Some said
  pub so : P said

-- and where each Hello counts as a plain one, such a one says it, and one that names nobody
pub record KnowsHello (from since : ℕ) (P : Said → Type 0) (k : Maker) : Type 0 where
  pub hello : KnowsTick from since k.hellos
  pub word : KnowsWord from P k.said
  pub counts : (k.enough == 0) ≡ true → P names_nobody × P plain

-- what comes is no farewell of a rank, and a Hello of it says what is so
abbrev pub NoFarewell : ℕ → Option Packet → Type 0
NoFarewell from p = (view : View) → p ≡ Some (packet.Announce (rank_of from) view) → is_member view.members from ≡ true

abbrev pub SaysSo : ℕ → (Said → Type 0) → Option Packet → Type 0
SaysSo from P p = (said : Said) (standing : Standing) → p ≡ Some (packet.Heard (rank_of from) said standing) → P said

abbrev pub PlainSo : ℕ → (Said → Type 0) → Option Packet → Type 0
PlainSo from P p = p ≡ Some (packet.Hello (rank_of from)) → P plain

pub set_or_same : {A : Type 0} (items : List (Option A)) (i j : ℕ) (a : A)
    → (of_rank (slice_set items i (Some a)) j ≡ Some a) ⊎ (of_rank (slice_set items i (Some a)) j ≡ of_rank items j)
set_or_same [] i j a = inr refl
set_or_same (x ∷ items) zero zero a = inl refl
set_or_same (x ∷ items) zero (suc j) a = inr refl
set_or_same (x ∷ items) (suc i) zero a = inr refl
set_or_same (x ∷ items) (suc i) (suc j) a = set_or_same items i j a

pub set_other : {A : Type 0} (items : List (Option A)) (i j : ℕ) (x : Option A) → (i ≡ j → ⊥) → of_rank (slice_set items i x) j ≡ of_rank items j
set_other [] i j x apart = refl
set_other (y ∷ items) zero zero x apart = absurd (apart refl)
set_other (y ∷ items) zero (suc j) x apart = refl
set_other (y ∷ items) (suc i) zero x apart = refl
set_other (y ∷ items) (suc i) (suc j) x apart = set_other items i j x (λ same. apart (ap suc same))

module _ (from since : ℕ) (P : Said → Type 0) where
  abbrev Has : Maker → Type 0
  Has k = KnowsHello from since P k

  same_tick : (one other : List (Option ℕ)) → of_rank other from ≡ of_rank one from → KnowsTick from since one → KnowsTick from since other
  same_tick one other same known = record { tick = known.tick; is = same ∙ known.is; late = known.late }

  same_word : (one other : List (Option Said)) → of_rank other from ≡ of_rank one from → KnowsWord from P one → KnowsWord from P other
  same_word one other same known = record { said = known.said; is = same ∙ known.is; so = known.so }

  set_tick : (hellos : List (Option ℕ)) (i tick : ℕ) → since ≤ tick → KnowsTick from since hellos → KnowsTick from since (slice_set hellos i (Some tick))
  set_tick hellos i tick late known = by_place (set_or_same hellos i from tick)
    where
      by_place : (of_rank (slice_set hellos i (Some tick)) from ≡ Some tick) ⊎ (of_rank (slice_set hellos i (Some tick)) from ≡ of_rank hellos from)
          → KnowsTick from since (slice_set hellos i (Some tick))
      by_place (inl new) = record { tick = tick; is = new; late = late }
      by_place (inr old) = same_tick hellos (slice_set hellos i (Some tick)) old known

  set_word : (words : List (Option Said)) (i : ℕ) (said : Said) → (i ≡ from → P said) → KnowsWord from P words → KnowsWord from P (slice_set words i (Some said))
  set_word words i said so known = by_same (cases_eq i from)
    where
      by_place : P said → (of_rank (slice_set words i (Some said)) from ≡ Some said) ⊎ (of_rank (slice_set words i (Some said)) from ≡ of_rank words from)
          → KnowsWord from P (slice_set words i (Some said))
      by_place here (inl new) = record { said = said; is = new; so = here }
      by_place here (inr old) = same_word words (slice_set words i (Some said)) old known

      by_same : (i ≡ from) ⊎ (i ≡ from → ⊥) → KnowsWord from P (slice_set words i (Some said))
      by_same (inl same) = by_place (so same) (set_or_same words i from said)
      by_same (inr other) = same_word words (slice_set words i (Some said)) (set_other words i from (Some said) other) known

  if_known : (b : Bool) (one other : Maker) → Has one → Has other → Has (if b then one else other)
  if_known true one other first second = first
  if_known false one other first second = second

  if_named : (b : Bool) (one other : NamingMaker) → Has one.maker → Has other.maker → Has (if b then one else other).maker
  if_named true one other first second = first
  if_named false one other first second = second

  -- ## What comes

  said_so : (k : Maker) (said : Said) → ((k.enough == 0) ≡ true → P names_nobody × P plain) → P said → P (said_in k said)
  said_so k said counts so = by_two (k.enough == 0) refl
    where
      by_two : (b : Bool) → (k.enough == 0) ≡ b → P (if b then plain else said)
      by_two true none = (counts none).1
      by_two false some = so

  hello_known : (tick place : ℕ) (said : Said) (k : Maker) → since ≤ tick → (place ≡ from → P said) → Has k → Has (after_hello tick place said k)
  hello_known tick place said k late so known =
      if_known (is_configured k place) _ k
      (record {
        hello = set_tick k.hellos place tick late known.hello;
        word = set_word k.said place (said_in k said) (λ same. said_so k said known.counts (so same)) known.word;
        counts = known.counts;
      })
      known

  named_known : (tick place : ℕ) (said : Said) (m : NamingMaker) → since ≤ tick → (place ≡ from → P said) → Has m.maker → Has (after_named_hello tick place said m).maker
  named_known tick place said m late so known =
      if_named (is_other m place) _ _ (hello_known tick place said m.maker late so known) (hello_known tick place said m.maker late so known)

  -- a node is passed over only where each Hello counts as a plain one
  passed_counts : (m : NamingMaker) (place flags : ℕ) → is_passed_over m place flags ≡ true → (m.maker.enough == 0) ≡ true
  passed_counts m place flags passed =
      let able = and_parts (is_own m knows_bit && not (is_own m holds_bit) && m.maker.enough == 0 && slice_index_or m.deaf place false) (is_unable_then m place flags) passed in
      let deaf = and_parts (is_own m knows_bit && not (is_own m holds_bit) && m.maker.enough == 0) (slice_index_or m.deaf place false) able.0 in
      (and_parts (is_own m knows_bit && not (is_own m holds_bit)) (m.maker.enough == 0) deaf.0).1

  word_with : (place flags : ℕ) (m : NamingMaker) → Has m.maker → KnowsWord from P (said_with m place flags)
  word_with place flags m known = by_passed (is_passed_over m place flags) refl
    where
      by_passed : (b : Bool) → is_passed_over m place flags ≡ b → KnowsWord from P (if b then slice_set m.maker.said place (Some names_nobody) else m.maker.said)
      by_passed true passed = set_word m.maker.said place names_nobody (λ same. (known.counts (passed_counts m place flags passed)).0) known.word
      by_passed false counts = known.word

  standing_known : (place : ℕ) (standing : Standing) (m : NamingMaker) → Has m.maker → Has (after_standing place standing m).maker
  standing_known place standing m known =
      if_named (is_other m place && has_bit standing.flags knows_bit) _ m
      (record { hello = known.hello; word = word_with place standing.flags m known; counts = known.counts }) known

  parted_known : (place : ℕ) (view : View) (k : Maker) → (place ≡ from → is_member view.members place ≡ true) → Has k → KnowsTick from since (hellos_after place view k)
  parted_known place view k stays known = by_member (is_member view.members place) refl
    where
      by_place : (place ≡ from) ⊎ (place ≡ from → ⊥) → is_member view.members place ≡ false → KnowsTick from since (slice_set k.hellos place None)
      by_place (inl same) out = absurd (false≢true (sym out ∙ stays same))
      by_place (inr other) out = same_tick k.hellos (slice_set k.hellos place None) (set_other k.hellos place from None other) known.hello

      by_member : (b : Bool) → is_member view.members place ≡ b → KnowsTick from since (if b then k.hellos else slice_set k.hellos place None)
      by_member true in_it = known.hello
      by_member false out = by_place (cases_eq place from) out

  announce_known : (place : ℕ) (view : View) (m : NamingMaker) → (place ≡ from → is_member view.members place ≡ true) → Has m.maker → Has (after_named_announce place view m).maker
  announce_known place view m stays known =
      let counts = is_configured m.maker place && has_configured m.maker.nodes view.members in
      let kept : Has (after_announce place view m.maker) =
      if_known counts _ m.maker (record { hello = parted_known place view m.maker stays known; word = known.word; counts = known.counts }) known in
      if_named counts _ _ kept kept

  heard_known : (tick : ℕ) (p : Option Packet) (m : NamingMaker) → since ≤ tick → NoFarewell from p → SaysSo from P p → PlainSo from P p → Has m.maker → Has (heard tick p m).maker
  heard_known tick None m late stays so plainly known = known
  heard_known tick (Some (packet.Hello place)) m late stays so plainly known =
      if_named (is_configured m.maker place.0 && not (says_more tick m.maker place.0)) _ m (named_known tick place.0 plain m late (λ same. plainly (ap (λ r. Some (packet.Hello (record { 0 = r }))) same)) known) known
  heard_known tick (Some (packet.Heard place said standing)) m late stays so plainly known =
      standing_known place.0 standing (after_named_hello tick place.0 said m)
      (named_known tick place.0 said m late (λ same. so said standing (ap (λ r. Some (packet.Heard (record { 0 = r }) said standing)) same)) known)
  heard_known tick (Some (packet.Announce place view)) m late stays so plainly known =
      announce_known place.0 view m
      (λ same. subst (λ r. is_member view.members r ≡ true) (sym same) (stays view (ap (λ r. Some (packet.Announce (record { 0 = r }) view)) same))) known
  heard_known tick (Some (packet.Ask ask)) m late stays so plainly known = known
  heard_known tick (Some (packet.Tell tell)) m late stays so plainly known = known
  heard_known tick (Some (packet.Vote agrees)) m late stays so plainly known = known

  stand_known : (standing : Standing) (holds : Bool) (m : NamingMaker) → Has m.maker → Has (after_stand standing holds m).maker
  stand_known standing holds m known = if_named (is_configured m.maker m.maker.me) _ m known known

  pub told_fresh : (tick : ℕ) (own : Own) (p : Option Packet) (m : NamingMaker) → since ≤ tick → NoFarewell from p → SaysSo from P p → PlainSo from P p → Has m.maker
      → Has (told tick own p m).maker
  told_fresh tick own p m late stays so plainly known = stand_known own.said own.holds (heard tick p m) (heard_known tick p m late stays so plainly known)

  look_fresh : (tick : ℕ) (m : NamingMaker) → Has m.maker → Has (after_look tick m).maker
  look_fresh tick m known =
      let kept = look_heard tick m in
      record {
        hello = same_tick m.maker.hellos (after_look tick m).maker.hellos (ap (λ items. of_rank items from) kept.hellos) known.hello;
        word = same_word m.maker.said (after_look tick m).maker.said (ap (λ items. of_rank items from) kept.said) known.word;
        counts = λ none. known.counts (ap (λ n. n == 0) (sym kept.enough) ∙ none);
      }

  due_fresh : (tick : ℕ) (m : NamingMaker) → Has m.maker → Has (after_naming_hello_due tick m).maker
  due_fresh tick m known =
      if_named (is_naming_hello_due tick m) _ m (record { hello = known.hello; word = known.word; counts = known.counts }) known

-- a Hello that comes is known from then on
module _ (s : Settings) (from : ℕ) (P : Said → Type 0) (under : from < length s.nodes) (few : length s.nodes ≤ 32)
    (two : (enough_of s == 0) ≡ true → P names_nobody × P plain) where
  if_true : (tick : ℕ) (b : Bool) (one other : Maker) → b ≡ true → KnowsHello from tick P one → KnowsHello from tick P (if b then one else other)
  if_true tick true one other is known = known
  if_true tick false one other is known = absurd (false≢true is)

  told_now : (log : List Line) (tick : ℕ) (own : Own) (said : Said) (standing : Standing) (m : NamingMaker) → IsSound s log m → P said
      → KnowsHello from tick P (told tick own (Some (packet.Heard (rank_of from) said standing)) m).maker
  told_now log tick own said standing m sound so =
      stand_known from tick P own.said own.holds (heard tick (Some (packet.Heard (rank_of from) said standing)) m)
      (standing_known from tick P from standing (after_named_hello tick from said m) (if_named from tick P (is_other m from) _ _ hello hello))
    where
      configured : is_configured m.maker from ≡ true
      configured = lt-ltb from (length m.maker.nodes) (subst (λ (list : List NodeEntry). from < length list) (sym sound.nodes) under)

      there : from < length m.maker.hellos
      there = let places = sound.places in omega (arith, under, few, places)

      there_said : from < length m.maker.said
      there_said = let words = sound.words in omega (arith, under, few, words)

      hello : KnowsHello from tick P (after_hello tick from said m.maker)
      hello =
          if_true tick (is_configured m.maker from) _ m.maker configured
          (record {
            hello = record { tick = tick; is = get_or-set_same m.maker.hellos from (Some tick) None there; late = omega arith };
            word = record {
              said = said_in m.maker said;
              is = get_or-set_same m.maker.said from (Some (said_in m.maker said)) None there_said;
              so = said_so from tick P m.maker said (λ none. two (ap (λ n. n == 0) (sym sound.enough) ∙ none)) so;
            };
            counts = λ none. two (ap (λ n. n == 0) (sym sound.enough) ∙ none);
          })

-- ## From call to call

-- there is a view maker, which knows such a Hello, and the log is not before that
pub record HasFresh (from since : ℕ) (P : Said → Type 0) (log : List Line) (had : Option NamingMaker) : Type 0 where
  pub maker : NamingMaker
  pub is : had ≡ Some maker
  pub knows : KnowsHello from since P maker.maker
  pub order : since ≤ now log

abbrev pub fresh_places : ℕ → ℕ → (Said → Type 0) → Places
fresh_places from since P =
    record {
      between = λ log had. HasFresh from since P log had;
      acting = λ log had. HasFresh from since P log had;
      saying = λ sents log had. HasFresh from since P log had;
      over = λ log. Unit {0};
    }

-- beside: what comes is no farewell, a Hello says what is so, and the node is live
abbrev pub fresh_besides : Settings → ℕ → (Said → Type 0) → Besides
fresh_besides s from P =
    record {
      clock = λ log tick p. NoFarewell from p × SaysSo from P p × PlainSo from P p;
      look = λ tick m. Unit {0};
      sent = λ sent log. Unit {0};
      log = λ log. is_live (phase s log) ≡ true;
      maker = λ m. Unit {0};
    }

module _ (s : Settings) (me from since : ℕ) (P : Said → Type 0) where
  left_fresh : (log : List Line) (live : Bool) (begun : NamingMaker) (had : Option NamingMaker) → live ≡ true → HasFresh from since P log had
      → HasFresh from since P log (option_map (after_naming_hello_due (now log)) (maker_where live begun had))
  left_fresh log false begun had live fresh = absurd (false≢true live)
  left_fresh log true begun None live fresh = absurd (none-some fresh.maker fresh.is)
  left_fresh log true begun (Some m) live fresh =
      record {
        maker = after_naming_hello_due (now log) m;
        is = refl;
        knows = due_fresh from since P (now log) m
            (subst (λ (k : NamingMaker). KnowsHello from since P k.maker) (sym (same_Some m fresh.maker fresh.is)) fresh.knows);
        order = fresh.order;
      }

  looked_fresh : (log : List Line) (m : NamingMaker) (tick : ℕ) (own : Own) (p : Option Packet) → NoFarewell from p → SaysSo from P p → PlainSo from P p → now log ≤ tick
      → HasFresh from since P log (Some m) → KnowsHello from since P (after_look tick (told tick own p m)).maker
  looked_fresh log m tick own p stays so plainly order fresh =
      let before = fresh.order in
      look_fresh from since P tick (told tick own p m)
      (told_fresh from since P tick own p m (omega (arith, before, order)) stays so plainly
      (subst (λ (k : NamingMaker). KnowsHello from since P k.maker) (sym (same_Some m fresh.maker fresh.is)) fresh.knows))

  pub fresh_leads : StepsLead s me (fresh_besides s from P) (fresh_places from since P) (fresh_places from since P)
  unfolding with_entry
  fresh_leads =
      record {
        waits = λ log had known. known;
        takes = λ log had tick p entry clock order makers known.
            let before = known.order in record { maker = known.maker; is = known.is; knows = known.knows; order = omega (arith, before, order) };
        looks = λ log m tick own p clock looking order maker known.
            let before = known.order in
            record {
              maker = after_look tick (told tick own p m);
              is = refl;
              knows = looked_fresh log m tick own p clock.0 clock.1 clock.2 order known;
              order = omega (arith, before, order);
            };
        kept = λ m tick own p known. tt;
        acts = λ log had known. known;
        greets = λ log had loop_ms own live makers known. left_fresh log (is_live (phase s log)) (maker_begun s me loop_ms own) had live known;
        polls = λ sents log had known. known;
        says = λ sent rest log had says known. known;
        said = λ log had known. known;
        stops = λ log had known. tt;
        parts = λ log had known. tt;
        ends = λ log known. tt;
      }

-- ## A look

-- what a look is: the clock was looked at, and the view maker was told its packet
pub record LookIs (spot : Spot) (made : Call) (look : LookOf) : Type 0 where
  pub chosen : Choice × RunState
  pub is : spot ≡ Looking chosen
  pub tick : look.tick ≡ time_of made
  pub order : nat_lt (time_of made) (now chosen.1.log) ≡ false
  pub own : Own
  pub before : NamingMaker
  pub had : chosen.1.maker ≡ Some before
  pub told : look.maker ≡ told (time_of made) own (packet_chosen chosen.0) before

record InIs (tick : ℕ) (own : Own) (c : Choice) (had : Option NamingMaker) (look : LookOf) : Type 0 where
  same : look.tick ≡ tick
  before : NamingMaker
  is : had ≡ Some before
  told_it : look.maker ≡ told tick own (packet_chosen c) before
  opens : c ≡ choice.Open (packet_chosen c)

in_is : (rank tick : ℕ) (own : Own) (c : Choice) (had : Option NamingMaker) (look : LookOf) → look_in rank tick own c had ≡ Some look → InIs tick own c had look
in_is rank tick own (choice.Open p) (Some m) look found =
    let same = same_Some (record { rank = rank; tick = tick; maker = told tick own p m }) look found in
    record { same = ap (λ (l : LookOf). l.tick) (sym same); before = m; is = refl; told_it = ap (λ (l : LookOf). l.maker) (sym same); opens = refl }
in_is rank tick own (choice.Open p) None look found = absurd (none-some look found)
in_is rank tick own (choice.Whole entry) had look found = absurd (none-some look found)
in_is rank tick own (choice.Answer reply) had look found = absurd (none-some look found)

pub look_is : (rank : ℕ) (spot : Spot) (made : Call) (look : LookOf) → look_at rank spot made ≡ Some look → LookIs spot made look
look_is rank (Looking chosen) made look found = by_order (nat_lt (time_of made) (now chosen.1.log)) refl found
  where
    by_order : (back : Bool) → nat_lt (time_of made) (now chosen.1.log) ≡ back
        → (if back then None else look_by rank (time_of made) (answered (time_of made) chosen)) ≡ Some look → LookIs (Looking chosen) made look
    by_order true order none = absurd (none-some look none)
    by_order false order here =
        let own = own_of (looking (time_of made) (answered (time_of made) chosen)) in
        let found_in = in_is rank (time_of made) own (answered (time_of made) chosen).0 chosen.1.maker look here in
        record {
          chosen = chosen;
          is = refl;
          tick = found_in.same;
          order = order;
          own = own;
          before = found_in.before;
          had = found_in.is;
          told = found_in.told_it ∙ ap (λ p. told (time_of made) own p found_in.before) (answered_same (time_of made) chosen.1.poller chosen.0);
        }
look_is rank (Receiving st) made look found = absurd (none-some look found)
look_is rank (Acting entry outs o rest st) made look found = absurd (none-some look found)
look_is rank (Polling poll sents st) made look found = absurd (none-some look found)
look_is rank (Saying sent rest st) made look found = absurd (none-some look found)
look_is rank (Parting end sent rest st) made look found = absurd (none-some look found)
look_is rank (Ended ran) made look found = absurd (none-some look found)

-- the view maker before a look is that of the place
pub sound_before : (s : Settings) (spot : Spot) (made : Call) (look : LookOf) → (is : LookIs spot made look) → KnownAt (sound_places s) spot → IsSound s is.chosen.1.log is.before
sound_before s spot made look is sound = subst (KnownAt (sound_places s)) is.is sound is.before is.had

-- a look that hears a Hello of a rank leaves one that is known
module _ (s : Settings) (me from : ℕ) (P : Said → Type 0) (under : from < length s.nodes) (few : length s.nodes ≤ 32)
    (two : (enough_of s == 0) ≡ true → P names_nobody × P plain) (said : Said) (standing : Standing) (so : P said) (look : LookOf) where
  look_knows : (spot : Spot) (made : Call) → look_at me spot made ≡ Some look → packet_waiting spot ≡ Some (packet.Heard (rank_of from) said standing) → KnownAt (sound_places s) spot
      → KnowsHello from look.tick P look.maker.maker
  look_knows spot made found hears sound =
      subst (λ (m : NamingMaker). KnowsHello from look.tick P m.maker) (sym is.told)
      (subst (λ tick. KnowsHello from tick P (told (time_of made) is.own (packet_chosen is.chosen.0) is.before).maker) (sym is.tick)
      (subst (λ p. KnowsHello from (time_of made) P (told (time_of made) is.own p is.before).maker) (sym here)
      (told_now s from P under few two is.chosen.1.log (time_of made) is.own said standing is.before (sound_before s spot made look is sound) so)))
    where
      is : LookIs spot made look
      is = look_is me spot made look found

      here : packet_chosen is.chosen.0 ≡ Some (packet.Heard (rank_of from) said standing)
      here = sym (ap packet_waiting is.is) ∙ hears

  pub spot_hears : (leave : Option ℕ) (turn more : ℕ) (spot : Spot) (made : Call) → look_at me spot made ≡ Some look
      → packet_waiting spot ≡ Some (packet.Heard (rank_of from) said standing) → KnownAt (sound_places s) spot
      → is_live (phase s (log_at (after_spot s me leave turn more spot made).spot)) ≡ true
      → KnownAt (fresh_places from look.tick P) (after_spot s me leave turn more spot made).spot
  unfolding with_entry
  spot_hears leave turn more spot made found hears sound live =
      spot_looked s me (fresh_besides s from P) (fresh_places from look.tick P) (fresh_places from look.tick P) (fresh_leads s me from look.tick P) look leave turn more spot made found
      (any_maker spot) live
      (λ log entry. record {
        maker = after_look look.tick look.maker;
        is = refl;
        knows = look_fresh from look.tick P look.tick look.maker (look_knows spot made found hears sound);
        order = omega arith;
      })
