-- Of a rank of which no Hello comes a node knows none that is newer, so it sees it no more after three loops.
use Rattle.std.proofs.Common.{◌≡◌, ◌⊎◌, inl, inr, ℕ, suc, zero, ◌≤◌, Bool, true, false, not, ◌&&◌, List, [], ◌∷◌, Option, None, Some, if◌then◌else◌, refl, sym, ◌∙◌, ap, subst, arith, eq-eqb}
use Rattle.std.specs.Prelude.{option_map, slice_set}
use Rattle.std.proofs.lemmas.Bool.{false≢true}
use Rattle.std.proofs.lemmas.Option.{none-some, same_Some}
use Rattle.qn_base.specs.declared.ids.Said.{Said}
use Rattle.qn_base.specs.declared.ids.Standing.{Standing}
use Rattle.qn_base.specs.declared.ids.View.{View}
use Rattle.qn_base.specs.Members.{is_member}
use Rattle.qn_model.specs.declared.configuration.Settings.{Settings}
use Rattle.qn_model.specs.declared.packets.Packet.{Packet}
use Rattle.qn_model.specs.declared.packets.Packet.TheVariants as packet
use Rattle.qn_model.specs.Log.{now}
use Rattle.qn_model.specs.NodeOutputs.{with_entry}
use Rattle.qn_model.specs.Phases.{is_live, phase}
use Rattle.qn_member.specs.Maker.{Maker, after_announce, after_hello, has_configured, is_configured, of_rank, plain, says_more}
use Rattle.qn_member.specs.Naming.{NamingMaker, after_named_announce, after_named_hello, after_stand, after_standing, first_naming, has_bit, is_other, knows_bit}
use Rattle.qn_member.specs.NamingViews.{after_look, after_naming_hello_due, is_naming_hello_due}
use Rattle.qn_live.specs.declared.words.Own.{Own}
use Rattle.qn_live.specs.Choosing.{heard, told}
use Rattle.qn_live.specs.Greetings.{maker_begun, maker_where}
use Rattle.qn_joined.specs.Joints.{Happening, joint_after}
use Rattle.qn_joined.specs.Stands.{Stand, first_stand}
use Rattle.qn_service.specs.Hellos.{is_hello_of}
use Rattle.qn_service.proofs.Knowing.{newly_known, nothing_known}
use Rattle.qn_service.proofs.RankSteps.{Anew, Calls, Stands, StepTo, host_after, returned_spot, step_to}
use Rattle.qn_service.proofs.Sound.{look_heard}
use Rattle.qn_service.proofs.TurnSteps.{Besides, KnownAt, MakerIs, Places, StepsLead, any_maker, spot_leads}

-- ## The Hellos that are known

-- each Hello of a rank that is known came by a tick
abbrev pub HeardBy : ℕ → ℕ → List (Option ℕ) → Type 0
HeardBy from limit hellos = (tick : ℕ) → of_rank hellos from ≡ Some tick → tick ≤ limit

none_known : (items : List (Option ℕ)) (i j tick : ℕ) → of_rank (slice_set items i None) j ≡ Some tick → of_rank items j ≡ Some tick
none_known [] i j tick is = is
none_known (x ∷ items) zero zero tick is = absurd (none-some tick is)
none_known (x ∷ items) zero (suc j) tick is = is
none_known (x ∷ items) (suc i) zero tick is = is
none_known (x ∷ items) (suc i) (suc j) tick is = none_known items i j tick is

module _ (from limit : ℕ) where
  abbrev Has : Maker → Type 0
  Has k = HeardBy from limit k.hellos

  if_known : (b : Bool) (one other : Maker) → Has one → Has other → Has (if b then one else other)
  if_known true one other first second = first
  if_known false one other first second = second

  if_named : (b : Bool) (one other : NamingMaker) → Has one.maker → Has other.maker → Has (if b then one else other).maker
  if_named true one other first second = first
  if_named false one other first second = second

  set_known : (hellos : List (Option ℕ)) (place tick : ℕ) → (place ≡ from → tick ≤ limit) → HeardBy from limit hellos → HeardBy from limit (slice_set hellos place (Some tick))
  set_known hellos place tick early known at is = by_place (newly_known hellos place from tick at is)
    where
      by_place : ((from ≡ place) × (tick ≡ at)) ⊎ (of_rank hellos from ≡ Some at) → at ≤ limit
      by_place (inl new) = subst (λ n. n ≤ limit) new.1 (early (sym new.0))
      by_place (inr old) = known at old

  hello_known : (tick place : ℕ) (said : Said) (k : Maker) → (place ≡ from → tick ≤ limit) → Has k → Has (after_hello tick place said k)
  hello_known tick place said k early known = if_known (is_configured k place) _ k (set_known k.hellos place tick early known) known

  named_known : (tick place : ℕ) (said : Said) (m : NamingMaker) → (place ≡ from → tick ≤ limit) → Has m.maker → Has (after_named_hello tick place said m).maker
  named_known tick place said m early known =
      if_named (is_other m place) _ _ (hello_known tick place said m.maker early known) (hello_known tick place said m.maker early known)

  standing_known : (place : ℕ) (standing : Standing) (m : NamingMaker) → Has m.maker → Has (after_standing place standing m).maker
  standing_known place standing m known = if_named (is_other m place && has_bit standing.flags knows_bit) _ m known known

  announce_known : (place : ℕ) (view : View) (m : NamingMaker) → Has m.maker → Has (after_named_announce place view m).maker
  announce_known place view m known =
      let counts = is_configured m.maker place && has_configured m.maker.nodes view.members in
      let kept : Has (after_announce place view m.maker) = if_known counts _ m.maker (by_member (is_member view.members place)) known in
      if_named counts _ _ kept kept
    where
      by_member : (b : Bool) → HeardBy from limit (if b then m.maker.hellos else slice_set m.maker.hellos place None)
      by_member true = known
      by_member false = λ tick is. known tick (none_known m.maker.hellos place from tick is)

  heard_known : (tick : ℕ) (p : Option Packet) (m : NamingMaker) → (is_hello_of from p ≡ true → tick ≤ limit) → Has m.maker → Has (heard tick p m).maker
  heard_known tick None m early known = known
  heard_known tick (Some (packet.Hello place)) m early known =
      if_named (is_configured m.maker place.0 && not (says_more tick m.maker place.0)) _ m
      (named_known tick place.0 plain m (λ same. early (eq-eqb place.0 from same)) known) known
  heard_known tick (Some (packet.Heard place said standing)) m early known =
      standing_known place.0 standing (after_named_hello tick place.0 said m) (named_known tick place.0 said m (λ same. early (eq-eqb place.0 from same)) known)
  heard_known tick (Some (packet.Announce place view)) m early known = announce_known place.0 view m known
  heard_known tick (Some (packet.Ask ask)) m early known = known
  heard_known tick (Some (packet.Tell tell)) m early known = known
  heard_known tick (Some (packet.Vote agrees)) m early known = known

  stand_known : (standing : Standing) (holds : Bool) (m : NamingMaker) → Has m.maker → Has (after_stand standing holds m).maker
  stand_known standing holds m known = if_named (is_configured m.maker m.maker.me) _ m known known

  pub told_old : (tick : ℕ) (own : Own) (p : Option Packet) (m : NamingMaker) → (is_hello_of from p ≡ true → tick ≤ limit) → Has m.maker → Has (told tick own p m).maker
  told_old tick own p m early known = stand_known own.said own.holds (heard tick p m) (heard_known tick p m early known)

  look_old : (tick : ℕ) (m : NamingMaker) → Has m.maker → Has (after_look tick m).maker
  look_old tick m known at is = known at (ap (λ items. of_rank items from) (sym (look_heard tick m).hellos) ∙ is)

  due_old : (tick : ℕ) (m : NamingMaker) → Has m.maker → Has (after_naming_hello_due tick m).maker
  due_old tick m known = if_named (is_naming_hello_due tick m) _ m known known

  begun_old : (s : Settings) (me loop_ms : ℕ) (own : Own) → Has (maker_begun s me loop_ms own).maker
  begun_old s me loop_ms own = stand_known own.said own.holds (first_naming s me loop_ms) (λ tick is. absurd (nothing_known 32 from tick is))

  left_old : (tick : ℕ) (live : Bool) (begun : NamingMaker) (had : Option NamingMaker) → Has begun.maker → MakerIs (λ m. Has m.maker) had
      → MakerIs (λ m. Has m.maker) (option_map (after_naming_hello_due tick) (maker_where live begun had))
  left_old tick false begun had first known = λ m is. absurd (none-some m is)
  left_old tick true begun None first known = λ m is. subst (λ (k : NamingMaker). Has k.maker) (same_Some (after_naming_hello_due tick begun) m is) (due_old tick begun first)
  left_old tick true begun (Some k) first known =
      λ m is. subst (λ (n : NamingMaker). Has n.maker) (same_Some (after_naming_hello_due tick k) m is) (due_old tick k (known k refl))

  -- ## From a joint on

  abbrev pub old_places : Places
  old_places =
      record {
        between = λ log had. MakerIs (λ m. HeardBy from limit m.maker.hellos) had;
        acting = λ log had. MakerIs (λ m. HeardBy from limit m.maker.hellos) had;
        saying = λ sents log had. MakerIs (λ m. HeardBy from limit m.maker.hellos) had;
        over = λ log. Unit {0};
      }

  -- beside: what comes is no Hello of the rank
  abbrev pub old_besides : Besides
  old_besides =
      record {
        clock = λ log tick p. is_hello_of from p ≡ false;
        look = λ tick m. Unit {0};
        sent = λ sent log. Unit {0};
        log = λ log. Unit {0};
        maker = λ m. Unit {0};
      }

  pub old_leads : (s : Settings) (me : ℕ) → StepsLead s me old_besides old_places old_places
  old_leads s me =
      record {
        waits = λ log had known. known;
        takes = λ log had tick p entry clock order makers known. known;
        looks = λ log m tick own p clock looking order maker known n is.
            subst (λ (k : NamingMaker). Has k.maker) (same_Some (after_look tick (told tick own p m)) n is)
            (look_old tick (told tick own p m) (told_old tick own p m (λ comes. absurd (false≢true (sym clock ∙ comes))) (known m refl)));
        kept = λ m tick own p known. tt;
        acts = λ log had known. known;
        greets = λ log had loop_ms own logged makers known.
            left_old (now log) (is_live (phase s log)) (maker_begun s me loop_ms own) had (begun_old s me loop_ms own) known;
        polls = λ sents log had known. known;
        says = λ sent rest log had says known. known;
        said = λ log had known. known;
        stops = λ log had known. tt;
        parts = λ log had known. tt;
        ends = λ log known. tt;
      }

-- ## In each joint

-- no Hello is known that is newer than the log
abbrev pub past_places : ℕ → Places
past_places from =
    record {
      between = λ log had. MakerIs (λ m. HeardBy from (now log) m.maker.hellos) had;
      acting = λ log had. MakerIs (λ m. HeardBy from (now log) m.maker.hellos) had;
      saying = λ sents log had. MakerIs (λ m. HeardBy from (now log) m.maker.hellos) had;
      over = λ log. Unit {0};
    }

abbrev past_besides : Besides
past_besides =
    record { clock = λ log tick p. Unit {0}; look = λ tick m. Unit {0}; sent = λ sent log. Unit {0}; log = λ log. Unit {0}; maker = λ m. Unit {0} }

past_leads : (s : Settings) (me from : ℕ) → StepsLead s me past_besides (past_places from) (past_places from)
unfolding with_entry
past_leads s me from =
    record {
      waits = λ log had known. known;
      takes = λ log had tick p entry clock order makers known m is at heard_at. let early = known m is at heard_at in omega (arith, early, order);
      looks = λ log m tick own p clock looking order maker known n is.
          subst (λ (k : NamingMaker). HeardBy from tick k.maker.hellos) (same_Some (after_look tick (told tick own p m)) n is)
          (look_old from tick tick (told tick own p m)
          (told_old from tick tick own p m (λ comes. omega arith) (λ at heard_at. let early = known m refl at heard_at in omega (arith, early, order))));
      kept = λ m tick own p known. tt;
      acts = λ log had known. known;
      greets = λ log had loop_ms own logged makers known.
          left_old from (now log) (now log) (is_live (phase s log)) (maker_begun s me loop_ms own) had (begun_old from (now log) s me loop_ms own) known;
      polls = λ sents log had known. known;
      says = λ sent rest log had says known. known;
      said = λ log had known. known;
      stops = λ log had known. tt;
      parts = λ log had known. tt;
      ends = λ log known. tt;
    }

first_past : (from : ℕ) (clean : Bool) (polls : Option ℕ) (turns : ℕ) → KnownAt (past_places from) (first_stand clean polls turns).spot
first_past from true polls turns = λ m is. absurd (none-some m is)
first_past from false polls turns = λ m is. absurd (none-some m is)

module _ (s : Settings) (image : ℕ → List ℕ) (rank from : ℕ) where
  pub always_past : (h : List Happening) → KnownAt (past_places from) (host_after s image rank h).stand.spot
  unfolding joint_after
  always_past [] = first_past from false None 1
  always_past (newest ∷ earlier) = by_step (step_to s image rank newest earlier) (always_past earlier)
    where
      by_step : StepTo s image rank newest earlier → KnownAt (past_places from) (host_after s image rank earlier).stand.spot
          → KnownAt (past_places from) (host_after s image rank (newest ∷ earlier)).stand.spot
      by_step (Stands same none) before = subst (λ (st : Stand). KnownAt (past_places from) st.spot) (sym same) before
      by_step (Anew clean polls turns spot none) before = subst (KnownAt (past_places from)) (sym spot) (first_past from clean polls turns)
      by_step (Calls c) before =
          let host = host_after s image rank earlier in
          subst (KnownAt (past_places from)) (sym (c.stand ∙ returned_spot s rank (joint_after s image earlier).time host c.made))
          (spot_leads s rank past_besides (past_places from) (past_places from) (past_leads s rank from) host.leave host.stand.turn host.stand.more host.stand.spot c.made
          (λ chosen is. tt) (λ look is. tt) (λ sent rest st is. tt) tt (any_maker host.stand.spot) before)
