-- What another node announced last is known at each look, from one on that heard it, while that announces no other view.
use Rattle.std.proofs.Common.{◌≡◌, ◌⊎◌, inl, inr, ℕ, ◌<◌, ◌≤◌, Bool, true, false, not, ◌&&◌, List, Option, None, Some, length, if◌then◌else◌, refl, sym, ◌∙◌, ap, subst, arith}
use Rattle.std.specs.Prelude.{option_map, slice_set}
use Rattle.std.proofs.lemmas.Bool.{and_from, cases_eq, false≢true, lt-ltb}
use Rattle.std.proofs.lemmas.List.{get_or-set_same}
use Rattle.std.proofs.lemmas.Option.{none-some, same_Some}
use Rattle.qn_base.specs.declared.ids.Said.{Said}
use Rattle.qn_base.specs.declared.ids.Standing.{Standing}
use Rattle.qn_base.specs.declared.ids.View.{View}
use Rattle.qn_model.specs.declared.nodelist.NodeEntry.{NodeEntry}
use Rattle.qn_model.specs.declared.configuration.Settings.{Settings}
use Rattle.qn_model.specs.declared.packets.Packet.{Packet}
use Rattle.qn_model.specs.declared.packets.Packet.TheVariants as packet
use Rattle.qn_model.specs.Log.{Line, now}
use Rattle.qn_model.specs.Phases.{is_live, phase}
use Rattle.qn_model.specs.Wanted.{rank_of}
use Rattle.qn_member.specs.Maker.{Maker, after_announce, after_hello, has_configured, is_configured, of_rank, plain, says_more}
use Rattle.qn_member.specs.Naming.{NamingMaker, after_named_announce, after_named_hello, after_stand, after_standing, has_bit, is_other, knows_bit}
use Rattle.qn_member.specs.NamingViews.{after_look, after_naming_hello_due, is_naming_hello_due}
use Rattle.qn_live.specs.declared.words.Own.{Own}
use Rattle.qn_live.specs.Choosing.{heard, told}
use Rattle.qn_live.specs.Greetings.{maker_begun, maker_where}
use Rattle.qn_service.proofs.FreshHellos.{set_or_same, set_other}
use Rattle.qn_service.proofs.Sound.{IsSound, look_heard}
use Rattle.qn_service.proofs.TurnSteps.{Besides, Places, StepsLead}

-- what comes is no other announcement of a rank
abbrev pub NoOtherView : ℕ → View → Option Packet → Type 0
NoOtherView from view p = (other : View) → p ≡ Some (packet.Announce (rank_of from) other) → other ≡ view

module _ (from : ℕ) (view : View) where
  abbrev Has : Maker → Type 0
  Has k = of_rank k.announced from ≡ Some view

  if_known : (b : Bool) (one other : Maker) → Has one → Has other → Has (if b then one else other)
  if_known true one other first second = first
  if_known false one other first second = second

  if_named : (b : Bool) (one other : NamingMaker) → Has one.maker → Has other.maker → Has (if b then one else other).maker
  if_named true one other first second = first
  if_named false one other first second = second

  hello_known : (tick place : ℕ) (said : Said) (k : Maker) → Has k → Has (after_hello tick place said k)
  hello_known tick place said k known = if_known (is_configured k place) _ k known known

  named_known : (tick place : ℕ) (said : Said) (m : NamingMaker) → Has m.maker → Has (after_named_hello tick place said m).maker
  named_known tick place said m known = if_named (is_other m place) _ _ (hello_known tick place said m.maker known) (hello_known tick place said m.maker known)

  standing_known : (place : ℕ) (standing : Standing) (m : NamingMaker) → Has m.maker → Has (after_standing place standing m).maker
  standing_known place standing m known = if_named (is_other m place && has_bit standing.flags knows_bit) _ m known known

  set_known : (items : List (Option View)) (place : ℕ) (other : View) → (place ≡ from → other ≡ view) → of_rank items from ≡ Some view
      → of_rank (slice_set items place (Some other)) from ≡ Some view
  set_known items place other same known = by_place (cases_eq place from)
    where
      by_value : other ≡ view → (of_rank (slice_set items place (Some other)) from ≡ Some other) ⊎ (of_rank (slice_set items place (Some other)) from ≡ of_rank items from)
          → of_rank (slice_set items place (Some other)) from ≡ Some view
      by_value is (inl new) = new ∙ ap Some is
      by_value is (inr old) = old ∙ known

      by_place : (place ≡ from) ⊎ (place ≡ from → ⊥) → of_rank (slice_set items place (Some other)) from ≡ Some view
      by_place (inl here) = by_value (same here) (set_or_same items place from other)
      by_place (inr apart) = set_other items place from (Some other) apart ∙ known

  announce_known : (place : ℕ) (other : View) (m : NamingMaker) → (place ≡ from → other ≡ view) → Has m.maker → Has (after_named_announce place other m).maker
  announce_known place other m same known =
      let counts = is_configured m.maker place && has_configured m.maker.nodes other.members in
      let kept : Has (after_announce place other m.maker) = if_known counts _ m.maker (set_known m.maker.announced place other same known) known in
      if_named counts _ _ kept kept

  heard_known : (tick : ℕ) (p : Option Packet) (m : NamingMaker) → NoOtherView from view p → Has m.maker → Has (heard tick p m).maker
  heard_known tick None m same known = known
  heard_known tick (Some (packet.Hello place)) m same known =
      if_named (is_configured m.maker place.0 && not (says_more tick m.maker place.0)) _ m (named_known tick place.0 plain m known) known
  heard_known tick (Some (packet.Heard place said standing)) m same known =
      standing_known place.0 standing (after_named_hello tick place.0 said m) (named_known tick place.0 said m known)
  heard_known tick (Some (packet.Announce place other)) m same known =
      announce_known place.0 other m (λ here. same other (ap (λ r. Some (packet.Announce (record { 0 = r }) other)) here)) known
  heard_known tick (Some (packet.Ask ask)) m same known = known
  heard_known tick (Some (packet.Tell tell)) m same known = known
  heard_known tick (Some (packet.Vote agrees)) m same known = known

  stand_known : (own : Own) (m : NamingMaker) → Has m.maker → Has (after_stand own.said own.holds m).maker
  stand_known own m known = if_named (is_configured m.maker m.maker.me) _ m known known

  pub told_view : (tick : ℕ) (own : Own) (p : Option Packet) (m : NamingMaker) → NoOtherView from view p → Has m.maker → Has (told tick own p m).maker
  told_view tick own p m same known = stand_known own (heard tick p m) (heard_known tick p m same known)

  pub look_view : (tick : ℕ) (m : NamingMaker) → Has m.maker → Has (after_look tick m).maker
  look_view tick m known = ap (λ items. of_rank items from) (look_heard tick m).announced ∙ known

  due_view : (tick : ℕ) (m : NamingMaker) → Has m.maker → Has (after_naming_hello_due tick m).maker
  due_view tick m known = if_named (is_naming_hello_due tick m) _ m known known

  if_true : (b : Bool) (one other : Maker) → b ≡ true → Has one → Has (if b then one else other)
  if_true true one other is known = known
  if_true false one other is known = absurd (false≢true is)

  -- one that comes is known from then on
  pub told_it : (s : Settings) (log : List Line) (tick : ℕ) (own : Own) (m : NamingMaker) → from < length s.nodes → length s.nodes ≤ 32 → has_configured s.nodes view.members ≡ true
      → IsSound s log m → Has (told tick own (Some (packet.Announce (rank_of from) view)) m).maker
  told_it s log tick own m under few within sound =
      stand_known own (heard tick (Some (packet.Announce (rank_of from) view)) m) (if_named (is_configured m.maker from && has_configured m.maker.nodes view.members) _ _ kept kept)
    where
      counted : (is_configured m.maker from && has_configured m.maker.nodes view.members) ≡ true
      counted =
          and_from (is_configured m.maker from) (has_configured m.maker.nodes view.members)
          (lt-ltb from (length m.maker.nodes) (subst (λ (list : List NodeEntry). from < length list) (sym sound.nodes) under))
          (ap (λ (list : List NodeEntry). has_configured list view.members) sound.nodes ∙ within)

      there : from < length m.maker.announced
      there = let views = sound.views in omega (arith, under, few, views)

      kept : Has (after_announce from view m.maker)
      kept =
          if_true (is_configured m.maker from && has_configured m.maker.nodes view.members) _ m.maker counted
          (get_or-set_same m.maker.announced from (Some view) None there)

-- ## From call to call

-- there is a view maker, which knows it
pub record HasView (from : ℕ) (view : View) (had : Option NamingMaker) : Type 0 where
  pub maker : NamingMaker
  pub is : had ≡ Some maker
  pub knows : of_rank maker.maker.announced from ≡ Some view

abbrev pub view_places : ℕ → View → Places
view_places from view =
    record {
      between = λ log had. HasView from view had;
      acting = λ log had. HasView from view had;
      saying = λ sents log had. HasView from view had;
      over = λ log. Unit {0};
    }

-- beside: what comes is no other view, and the node is live
abbrev pub view_besides : Settings → ℕ → View → Besides
view_besides s from view =
    record {
      clock = λ log tick p. NoOtherView from view p;
      look = λ tick m. Unit {0};
      sent = λ sent log. Unit {0};
      log = λ log. is_live (phase s log) ≡ true;
      maker = λ m. Unit {0};
    }

left_view : (from : ℕ) (view : View) (tick : ℕ) (live : Bool) (begun : NamingMaker) (had : Option NamingMaker) → live ≡ true → HasView from view had
    → HasView from view (option_map (after_naming_hello_due tick) (maker_where live begun had))
left_view from view tick false begun had live has = absurd (false≢true live)
left_view from view tick true begun None live has = absurd (none-some has.maker has.is)
left_view from view tick true begun (Some m) live has =
    record {
      maker = after_naming_hello_due tick m;
      is = refl;
      knows = due_view from view tick m (ap (λ (k : NamingMaker). of_rank k.maker.announced from) (same_Some m has.maker has.is) ∙ has.knows);
    }

pub view_leads : (s : Settings) (me from : ℕ) (view : View) → StepsLead s me (view_besides s from view) (view_places from view) (view_places from view)
view_leads s me from view =
    record {
      waits = λ log had known. known;
      takes = λ log had tick p entry clock order makers known. known;
      looks = λ log m tick own p clock looking order maker known. record {
        maker = after_look tick (told tick own p m);
        is = refl;
        knows = look_view from view tick (told tick own p m)
            (told_view from view tick own p m clock (ap (λ (k : NamingMaker). of_rank k.maker.announced from) (same_Some m known.maker known.is) ∙ known.knows));
      };
      kept = λ m tick own p known. tt;
      acts = λ log had known. known;
      greets = λ log had loop_ms own live makers known. left_view from view (now log) (is_live (phase s log)) (maker_begun s me loop_ms own) had live known;
      polls = λ sents log had known. known;
      says = λ sent rest log had says known. known;
      said = λ log had known. known;
      stops = λ log had known. tt;
      parts = λ log had known. tt;
      ends = λ log known. tt;
    }
