-- An announcement that a look heard is what the view maker has of its sender, while each that comes is of the same view.
use Rattle.std.proofs.Common.{◌≡◌, ◌⊎◌, inl, inr, ℕ, ◌<◌, ◌≤◌, Bool, true, false, not, ◌&&◌, List, Option, None, Some, length, if◌then◌else◌, sym, ◌∙◌, ap, subst, arith}
use Rattle.std.specs.Prelude.{slice_set}
use Rattle.std.proofs.lemmas.Bool.{and_from, cases_eq, false≢true, lt-ltb}
use Rattle.std.proofs.lemmas.List.{get_or-set_same}
use Rattle.qn_base.specs.declared.ids.Said.{Said}
use Rattle.qn_base.specs.declared.ids.Standing.{Standing}
use Rattle.qn_base.specs.declared.ids.View.{View}
use Rattle.qn_model.specs.declared.configuration.Settings.{Settings}
use Rattle.qn_model.specs.declared.nodelist.NodeEntry.{NodeEntry}
use Rattle.qn_model.specs.declared.packets.Packet.{Packet}
use Rattle.qn_model.specs.declared.packets.Packet.TheVariants as packet
use Rattle.qn_model.specs.Log.{Line}
use Rattle.qn_model.specs.Wanted.{rank_of}
use Rattle.qn_member.specs.Maker.{Maker, after_announce, after_hello, has_configured, is_configured, of_rank, plain, says_more}
use Rattle.qn_member.specs.Naming.{NamingMaker, after_named_announce, after_named_hello, after_standing, has_bit, is_other, knows_bit}
use Rattle.qn_member.specs.NamingViews.{after_look, after_naming_hello_due, is_naming_hello_due}
use Rattle.qn_live.specs.declared.words.Own.{Own}
use Rattle.qn_live.specs.Choosing.{heard, told}
use Rattle.qn_service.proofs.FreshHellos.{set_or_same, set_other}
use Rattle.qn_service.proofs.Keeping.{Keeping}
use Rattle.qn_service.proofs.Sound.{IsSound, look_heard}

-- what comes of a rank is no announcement of another view
abbrev pub NoOtherView : ℕ → View → Option Packet → Type 0
NoOtherView from present p = (view : View) → p ≡ Some (packet.Announce (rank_of from) view) → view ≡ present

module _ (from : ℕ) (present : View) where
  abbrev pub HasView : Maker → Type 0
  HasView k = of_rank k.announced from ≡ Some present

  if_maker : (b : Bool) (one other : Maker) → HasView one → HasView other → HasView (if b then one else other)
  if_maker true one other first second = first
  if_maker false one other first second = second

  if_named : (b : Bool) (one other : NamingMaker) → HasView one.maker → HasView other.maker → HasView (if b then one else other).maker
  if_named true one other first second = first
  if_named false one other first second = second

  hello_view : (tick place : ℕ) (said : Said) (k : Maker) → HasView k → HasView (after_hello tick place said k)
  hello_view tick place said k known = if_maker (is_configured k place) _ k known known

  named_view : (tick place : ℕ) (said : Said) (m : NamingMaker) → HasView m.maker → HasView (after_named_hello tick place said m).maker
  named_view tick place said m known = if_named (is_other m place) _ _ (hello_view tick place said m.maker known) (hello_view tick place said m.maker known)

  standing_view : (place : ℕ) (standing : Standing) (m : NamingMaker) → HasView m.maker → HasView (after_standing place standing m).maker
  standing_view place standing m known = if_named (is_other m place && has_bit standing.flags knows_bit) _ m known known

  set_view : (views : List (Option View)) (place : ℕ) (view : View) → (place ≡ from → view ≡ present) → of_rank views from ≡ Some present
      → of_rank (slice_set views place (Some view)) from ≡ Some present
  set_view views place view same known = by_place (cases_eq place from)
    where
      by_set : view ≡ present → (of_rank (slice_set views place (Some view)) from ≡ Some view) ⊎ (of_rank (slice_set views place (Some view)) from ≡ of_rank views from)
          → of_rank (slice_set views place (Some view)) from ≡ Some present
      by_set is (inl new) = new ∙ ap Some is
      by_set is (inr old) = old ∙ known

      by_place : (place ≡ from) ⊎ (place ≡ from → ⊥) → of_rank (slice_set views place (Some view)) from ≡ Some present
      by_place (inl here) = by_set (same here) (set_or_same views place from view)
      by_place (inr other) = set_other views place from (Some view) other ∙ known

  announce_view : (place : ℕ) (view : View) (m : NamingMaker) → (place ≡ from → view ≡ present) → HasView m.maker → HasView (after_named_announce place view m).maker
  announce_view place view m same known =
      let counts = is_configured m.maker place && has_configured m.maker.nodes view.members in
      let kept : HasView (after_announce place view m.maker) = if_maker counts _ m.maker (set_view m.maker.announced place view same known) known in
      if_named counts _ _ kept kept

  heard_view : (tick : ℕ) (p : Option Packet) (m : NamingMaker) → NoOtherView from present p → HasView m.maker → HasView (heard tick p m).maker
  heard_view tick None m same known = known
  heard_view tick (Some (packet.Hello place)) m same known =
      if_named (is_configured m.maker place.0 && not (says_more tick m.maker place.0)) _ m (named_view tick place.0 plain m known) known
  heard_view tick (Some (packet.Heard place said standing)) m same known =
      standing_view place.0 standing (after_named_hello tick place.0 said m) (named_view tick place.0 said m known)
  heard_view tick (Some (packet.Announce place view)) m same known =
      announce_view place.0 view m (λ here. same view (ap (λ r. Some (packet.Announce (record { 0 = r }) view)) here)) known
  heard_view tick (Some (packet.Ask ask)) m same known = known
  heard_view tick (Some (packet.Tell tell)) m same known = known
  heard_view tick (Some (packet.Vote agrees)) m same known = known

  pub told_view : (tick : ℕ) (own : Own) (p : Option Packet) (m : NamingMaker) → NoOtherView from present p → HasView m.maker → HasView (told tick own p m).maker
  told_view tick own p m same known =
      let there = heard_view tick p m same known in
      if_named (is_configured (heard tick p m).maker (heard tick p m).maker.me) _ (heard tick p m) there there

  pub look_view : (tick : ℕ) (m : NamingMaker) → HasView m.maker → HasView (after_look tick m).maker
  look_view tick m known = ap (λ items. of_rank items from) (look_heard tick m).announced ∙ known

  pub due_view : (tick : ℕ) (m : NamingMaker) → HasView m.maker → HasView (after_naming_hello_due tick m).maker
  due_view tick m known = if_named (is_naming_hello_due tick m) _ m known known

  -- one that comes is known from then on
  module _ (s : Settings) (under : from < length s.nodes) (few : length s.nodes ≤ 32) (members : has_configured s.nodes present.members ≡ true) where
    pub told_anew : (log : List Line) (tick : ℕ) (own : Own) (m : NamingMaker) → IsSound s log m → HasView (told tick own (Some (packet.Announce (rank_of from) present)) m).maker
    told_anew log tick own m sound =
        let there = taken in
        if_named (is_configured (heard tick (Some (packet.Announce (rank_of from) present)) m).maker (heard tick (Some (packet.Announce (rank_of from) present)) m).maker.me) _
        (heard tick (Some (packet.Announce (rank_of from) present)) m) there there
      where
        counts : (is_configured m.maker from && has_configured m.maker.nodes present.members) ≡ true
        counts =
            and_from (is_configured m.maker from) (has_configured m.maker.nodes present.members)
            (lt-ltb from (length m.maker.nodes) (subst (λ (list : List NodeEntry). from < length list) (sym sound.nodes) under))
            (ap (λ (list : List NodeEntry). has_configured list present.members) sound.nodes ∙ members)

        there_is : from < length m.maker.announced
        there_is = let views = sound.views in omega (arith, under, few, views)

        by_true : (b : Bool) (one other : Maker) → b ≡ true → HasView one → HasView (if b then one else other)
        by_true true one other is known = known
        by_true false one other is known = absurd (false≢true is)

        announced : HasView (after_announce from present m.maker)
        announced = by_true (is_configured m.maker from && has_configured m.maker.nodes present.members) _ m.maker counts (get_or-set_same m.maker.announced from (Some present) None there_is)

        taken : HasView (after_named_announce from present m).maker
        taken = if_named (is_configured m.maker from && has_configured m.maker.nodes present.members) _ _ announced announced

-- ## From call to call

-- while each announcement of a rank that comes is of the view
abbrev pub view_keeping : ℕ → View → Keeping
view_keeping from present =
    record {
      holds = λ m. HasView from present m.maker;
      hears = NoOtherView from present;
      looks = λ tick m. Unit {0};
      due = due_view from present;
      look = λ tick own p m hears finds known. look_view from present tick (told tick own p m) (told_view from present tick own p m hears known);
    }
