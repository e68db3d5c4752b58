-- What a view maker knows of its own looks is of no tick after its log, and nothing that comes changes it.
use Rattle.std.proofs.Common.{◌≡◌, ℕ, ◌≤◌, Bool, true, false, not, ◌&&◌, ◌==◌, List, [], ◌∷◌, Option, None, Some, IfSome, if◌then◌else◌, refl, sym, ◌∙◌, ap, subst, arith}
use Rattle.std.specs.Prelude.{option_map}
use Rattle.std.specs.Option.{option_or}
use Rattle.std.proofs.lemmas.Option.{none-some, same_Some}
use Rattle.qn_base.specs.declared.ids.Mask.{Mask}
use Rattle.qn_base.specs.declared.ids.Said.{Said}
use Rattle.qn_base.specs.declared.ids.Standing.{Standing}
use Rattle.qn_base.specs.declared.ids.View.{View}
use Rattle.qn_model.specs.declared.configuration.Settings.{Settings}
use Rattle.qn_model.specs.declared.packets.Packet.{Packet}
use Rattle.qn_model.specs.declared.packets.Packet.TheVariants as packet
use Rattle.qn_model.specs.Log.{now}
use Rattle.qn_model.specs.NodeOutputs.{with_entry}
use Rattle.qn_model.specs.Phases.{is_live, phase}
use Rattle.qn_member.specs.declared.change.Change.{Change}
use Rattle.qn_member.specs.declared.lead.Lead.{Lead}
use Rattle.qn_member.specs.Maker.{Maker, after_tick, change_at, changed, company_at, has_configured, installed_beside, is_configured, is_present, led_by, looked, plain, says_more, seeing, view_at}
use Rattle.qn_member.specs.Naming.{NamingMaker, after_named_announce, after_named_hello, after_stand, after_standing, first_naming, has_bit, is_other, is_own, knows_bit}
use Rattle.qn_member.specs.NamingViews.{after_by_name, after_found, after_look, after_naming_hello_due, after_plain_look, company_now, is_led_by, is_naming_hello_due, lead_since, leading, looked_by_name, seeing_names, view_by_name}
use Rattle.qn_live.specs.declared.words.Own.{Own}
use Rattle.qn_live.specs.Choosing.{heard, told}
use Rattle.qn_live.specs.Greetings.{maker_begun, maker_where}
use Rattle.qn_joined.specs.Joints.{Happening, joint_after}
use Rattle.qn_joined.specs.Stands.{Stand, first_stand}
use Rattle.qn_service.proofs.Made.{leading_keeps, looked_notes, noted_then}
use Rattle.qn_service.proofs.RankSteps.{Anew, Calls, Stands, StepTo, host_after, returned_spot, step_to}
use Rattle.qn_service.proofs.TurnSteps.{Besides, KnownAt, MakerIs, Places, StepsLead, any_maker, spot_leads}

-- ## What comes

-- who led, when the first look was, and the change stay
pub record KeepsOwn (before after : NamingMaker) : Type 0 where
  pub lead : after.lead ≡ before.lead
  pub first : after.maker.first_look ≡ before.maker.first_look
  pub change : after.maker.change ≡ before.maker.change

own_same : (m : NamingMaker) → KeepsOwn m m
own_same m = record { lead = refl; first = refl; change = refl }

own_then : {a b c : NamingMaker} → KeepsOwn a b → KeepsOwn b c → KeepsOwn a c
own_then first second = record { lead = second.lead ∙ first.lead; first = second.first ∙ first.first; change = second.change ∙ first.change }

if_own : (b : Bool) (one other before : NamingMaker) → KeepsOwn before one → KeepsOwn before other → KeepsOwn before (if b then one else other)
if_own true one other before first second = first
if_own false one other before first second = second

if_first : (b : Bool) (one other before : Maker) → one.first_look ≡ before.first_look → other.first_look ≡ before.first_look → (if b then one else other).first_look ≡ before.first_look
if_first true one other before first second = first
if_first false one other before first second = second

if_change : (b : Bool) (one other before : Maker) → one.change ≡ before.change → other.change ≡ before.change → (if b then one else other).change ≡ before.change
if_change true one other before first second = first
if_change false one other before first second = second

hello_own : (tick from : ℕ) (said : Said) (m : NamingMaker) → KeepsOwn m (after_named_hello tick from said m)
hello_own tick from said m =
    let kept = if_first (is_configured m.maker from) _ m.maker m.maker refl refl in
    let same = if_change (is_configured m.maker from) _ m.maker m.maker refl refl in
    if_own (is_other m from) _ _ m (record { lead = refl; first = kept; change = same }) (record { lead = refl; first = kept; change = same })

standing_own : (from : ℕ) (standing : Standing) (m : NamingMaker) → KeepsOwn m (after_standing from standing m)
standing_own from standing m = if_own (is_other m from && has_bit standing.flags knows_bit) _ m m (record { lead = refl; first = refl; change = refl }) (own_same m)

announce_own : (from : ℕ) (view : View) (m : NamingMaker) → KeepsOwn m (after_named_announce from view m)
announce_own from view m =
    let kept = if_first (is_configured m.maker from && has_configured m.maker.nodes view.members) _ m.maker m.maker refl refl in
    let same = if_change (is_configured m.maker from && has_configured m.maker.nodes view.members) _ m.maker m.maker refl refl in
    if_own (is_configured m.maker from && has_configured m.maker.nodes view.members) _ _ m (record { lead = refl; first = kept; change = same })
    (record { lead = refl; first = kept; change = same })

heard_own : (tick : ℕ) (p : Option Packet) (m : NamingMaker) → KeepsOwn m (heard tick p m)
heard_own tick None m = own_same m
heard_own tick (Some (packet.Hello from)) m =
    if_own (is_configured m.maker from.0 && not (says_more tick m.maker from.0)) _ m m (hello_own tick from.0 plain m) (own_same m)
heard_own tick (Some (packet.Heard from said standing)) m = own_then (hello_own tick from.0 said m) (standing_own from.0 standing (after_named_hello tick from.0 said m))
heard_own tick (Some (packet.Announce from view)) m = announce_own from.0 view m
heard_own tick (Some (packet.Ask ask)) m = own_same m
heard_own tick (Some (packet.Tell tell)) m = own_same m
heard_own tick (Some (packet.Vote agrees)) m = own_same m

stand_own : (standing : Standing) (holds : Bool) (m : NamingMaker) → KeepsOwn m (after_stand standing holds m)
stand_own standing holds m = if_own (is_configured m.maker m.maker.me) _ m m (record { lead = refl; first = refl; change = refl }) (own_same m)

pub told_own : (tick : ℕ) (own : Own) (p : Option Packet) (m : NamingMaker) → KeepsOwn m (told tick own p m)
told_own tick own p m = own_then (heard_own tick p m) (stand_own own.said own.holds (heard tick p m))

pub due_own : (tick : ℕ) (m : NamingMaker) → KeepsOwn m (after_naming_hello_due tick m)
due_own tick m = if_own (is_naming_hello_due tick m) _ m m (record { lead = refl; first = refl; change = refl }) (own_same m)

-- ## Nothing is of a later tick

pub record IsPast (limit : ℕ) (m : NamingMaker) : Type 0 where
  pub lead : IfSome m.lead (λ lead. lead.since ≤ limit)
  pub first : IfSome m.maker.first_look (λ tick. tick ≤ limit)
  pub change : IfSome m.maker.change (λ change. change.since ≤ limit)

pub past_kept : (limit : ℕ) (before after : NamingMaker) → KeepsOwn before after → IsPast limit before → IsPast limit after
past_kept limit before after kept past =
    record {
      lead = subst (λ (o : Option Lead). IfSome o (λ lead. lead.since ≤ limit)) (sym kept.lead) past.lead;
      first = subst (λ (o : Option ℕ). IfSome o (λ tick. tick ≤ limit)) (sym kept.first) past.first;
      change = subst (λ (o : Option Change). IfSome o (λ change. change.since ≤ limit)) (sym kept.change) past.change;
    }

lead_later : (limit more : ℕ) → limit ≤ more → (o : Option Lead) → IfSome o (λ lead. lead.since ≤ limit) → IfSome o (λ lead. lead.since ≤ more)
lead_later limit more order None past = tt
lead_later limit more order (Some lead) past = omega (arith, order, past)

first_later : (limit more : ℕ) → limit ≤ more → (o : Option ℕ) → IfSome o (λ tick. tick ≤ limit) → IfSome o (λ tick. tick ≤ more)
first_later limit more order None past = tt
first_later limit more order (Some tick) past = omega (arith, order, past)

change_later : (limit more : ℕ) → limit ≤ more → (o : Option Change) → IfSome o (λ change. change.since ≤ limit) → IfSome o (λ change. change.since ≤ more)
change_later limit more order None past = tt
change_later limit more order (Some change) past = omega (arith, order, past)

pub past_later : (limit more : ℕ) → limit ≤ more → (m : NamingMaker) → IsPast limit m → IsPast more m
past_later limit more order m past =
    record {
      lead = lead_later limit more order m.lead past.lead;
      first = first_later limit more order m.maker.first_look past.first;
      change = change_later limit more order m.maker.change past.change;
    }

-- a look is of its own tick
leads_past : (tick : ℕ) (leader : Option ℕ) (m : NamingMaker) → IfSome m.lead (λ lead. lead.since ≤ tick) → IfSome (leading tick leader m).lead (λ lead. lead.since ≤ tick)
leads_past tick leader m past = by_test (is_led_by m leader)
  where
    by_leader : (o : Option ℕ) → IfSome (lead_since tick o) (λ lead. lead.since ≤ tick)
    by_leader None = tt
    by_leader (Some rank) = omega arith

    by_test : (b : Bool) → IfSome (if b then m else record m { lead = lead_since tick leader; came = record { 0 = 0 } }).lead (λ lead. lead.since ≤ tick)
    by_test true = past
    by_test false = by_leader leader

looks_past : (tick : ℕ) (o : Option ℕ) → IfSome o (λ at. at ≤ tick) → IfSome (option_or o (Some tick)) (λ at. at ≤ tick)
looks_past tick None past = omega arith
looks_past tick (Some at) past = past

installs_first : (company : Mask) (found : Option View) (k : Maker) → (installed_beside company found k).first_look ≡ k.first_look
installs_first company None k = refl
installs_first company (Some view) k = refl

pub found_first : (tick : ℕ) (m : NamingMaker) → (after_found tick m).maker.first_look ≡ option_or m.maker.first_look (Some tick)
unfolding after_found after_tick
found_first tick m = by_own (is_own m knows_bit)
  where
    by_own : (b : Bool) → (if b then after_by_name tick m else after_plain_look tick m).maker.first_look ≡ option_or m.maker.first_look (Some tick)
    by_own true =
        installs_first (company_now (seeing_names tick m)) (view_by_name tick m) (looked_by_name tick m).maker ∙ ap (λ (k : Maker). k.first_look) (looked_notes tick m)
    by_own false =
        ap (λ (k : Maker). k.first_look) (leading_keeps tick (led_by (after_tick tick m.maker)) (record m { maker = after_tick tick m.maker }) (after_tick tick m.maker) refl)
        ∙ installs_first (company_at (looked tick m.maker)) (view_at tick m.maker) (looked tick m.maker)

found_lead : (tick : ℕ) (m : NamingMaker) → IfSome m.lead (λ lead. lead.since ≤ tick) → IfSome (after_found tick m).lead (λ lead. lead.since ≤ tick)
unfolding after_found
found_lead tick m past = by_own (is_own m knows_bit)
  where
    by_own : (b : Bool) → IfSome (if b then after_by_name tick m else after_plain_look tick m).lead (λ lead. lead.since ≤ tick)
    by_own true = leads_past tick (led_by (noted_then tick m)) (record (seeing_names tick m) { maker = noted_then tick m }) past
    by_own false = leads_past tick (led_by (after_tick tick m.maker)) (record m { maker = after_tick tick m.maker }) past

-- a change that it notes is of no later tick
changed_past : (tick : ℕ) (company : Mask) (o : Option Change) → IfSome o (λ change. change.since ≤ tick) → (changed tick o company).since ≤ tick
changed_past tick company None past = omega arith
changed_past tick company (Some change) past = by_same (change.visible.0 == company.0)
  where
    by_same : (b : Bool) → (if b then change else record { visible = company; since = tick; begun = change.begun }).since ≤ tick
    by_same true = past
    by_same false = omega arith

noted_past : (tick : ℕ) (company : Mask) (k : Maker) → IfSome k.change (λ change. change.since ≤ tick) → IfSome (change_at tick k company) (λ change. change.since ≤ tick)
noted_past tick company k past = by_present (is_present k company)
  where
    by_present : (b : Bool) → IfSome (if b then None else Some (changed tick k.change company)) (λ change. change.since ≤ tick)
    by_present true = tt
    by_present false = changed_past tick company k.change past

installs_change : (limit : ℕ) (company : Mask) (found : Option View) (k : Maker) → IfSome k.change (λ change. change.since ≤ limit)
    → IfSome (installed_beside company found k).change (λ change. change.since ≤ limit)
installs_change limit company None k past = past
installs_change limit company (Some view) k past = tt

found_change : (tick : ℕ) (m : NamingMaker) → IfSome m.maker.change (λ change. change.since ≤ tick) → IfSome (after_found tick m).maker.change (λ change. change.since ≤ tick)
unfolding after_found after_tick
found_change tick m past = by_own (is_own m knows_bit)
  where
    by_own : (b : Bool) → IfSome (if b then after_by_name tick m else after_plain_look tick m).maker.change (λ change. change.since ≤ tick)
    by_own true =
        installs_change tick (company_now (seeing_names tick m)) (view_by_name tick m) (looked_by_name tick m).maker
        (subst (λ (k : Maker). IfSome k.change (λ change. change.since ≤ tick)) (sym (looked_notes tick m)) (noted_past tick (company_now (seeing_names tick m)) (seeing_names tick m).maker past))
    by_own false =
        subst (λ (k : Maker). IfSome k.change (λ change. change.since ≤ tick))
        (sym (leading_keeps tick (led_by (after_tick tick m.maker)) (record m { maker = after_tick tick m.maker }) (after_tick tick m.maker) refl))
        (installs_change tick (company_at (looked tick m.maker)) (view_at tick m.maker) (looked tick m.maker) (noted_past tick (company_at (seeing tick m.maker)) (seeing tick m.maker) past))

look_past : (tick : ℕ) (m : NamingMaker) → IsPast tick m → IsPast tick (after_look tick m)
unfolding after_look
look_past tick m past =
    record {
      lead = found_lead tick m past.lead;
      first = subst (λ (o : Option ℕ). IfSome o (λ at. at ≤ tick)) (sym (found_first tick m)) (looks_past tick m.maker.first_look past.first);
      change = found_change tick m past.change;
    }

begun_past : (limit : ℕ) (s : Settings) (me loop_ms : ℕ) (own : Own) → IsPast limit (maker_begun s me loop_ms own)
begun_past limit s me loop_ms own = past_kept limit (first_naming s me loop_ms) (maker_begun s me loop_ms own) (stand_own own.said own.holds (first_naming s me loop_ms)) (record { lead = tt; first = tt; change = tt })

-- ## In each joint

abbrev pub own_places : Places
own_places =
    record {
      between = λ log had. MakerIs (IsPast (now log)) had;
      acting = λ log had. MakerIs (IsPast (now log)) had;
      saying = λ sents log had. MakerIs (IsPast (now log)) had;
      over = λ log. Unit {0};
    }

abbrev no_besides : Besides
no_besides =
    record { clock = λ log tick p. Unit {0}; look = λ tick m. Unit {0}; sent = λ sent log. Unit {0}; log = λ log. Unit {0}; maker = λ m. Unit {0} }

left_past : (tick : ℕ) (live : Bool) (begun : NamingMaker) (had : Option NamingMaker) → IsPast tick begun → MakerIs (IsPast tick) had
    → MakerIs (IsPast tick) (option_map (after_naming_hello_due tick) (maker_where live begun had))
left_past tick false begun had first past m is = absurd (none-some m is)
left_past tick true begun None first past m is =
    subst (IsPast tick) (same_Some (after_naming_hello_due tick begun) m is) (past_kept tick begun (after_naming_hello_due tick begun) (due_own tick begun) first)
left_past tick true begun (Some k) first past m is =
    subst (IsPast tick) (same_Some (after_naming_hello_due tick k) m is) (past_kept tick k (after_naming_hello_due tick k) (due_own tick k) (past k refl))

own_leads : (s : Settings) (me : ℕ) → StepsLead s me no_besides own_places own_places
unfolding with_entry
own_leads s me =
    record {
      waits = λ log had known. known;
      takes = λ log had tick p entry clock order makers known m is. past_later (now log) tick order m (known m is);
      looks = λ log m tick own p clock looking order maker known n is.
          subst (IsPast tick) (same_Some (after_look tick (told tick own p m)) n is)
          (look_past tick (told tick own p m) (past_kept tick m (told tick own p m) (told_own tick own p m) (past_later (now log) tick order m (known m refl))));
      kept = λ m tick own p known. tt;
      acts = λ log had known. known;
      greets = λ log had loop_ms own logged makers known. left_past (now log) (is_live (phase s log)) (maker_begun s me loop_ms own) had (begun_past (now log) s me loop_ms own) known;
      polls = λ sents log had known. known;
      says = λ sent rest log had says known. known;
      said = λ log had known. known;
      stops = λ log had known. tt;
      parts = λ log had known. tt;
      ends = λ log known. tt;
    }

first_own : (clean : Bool) (polls : Option ℕ) (turns : ℕ) → KnownAt own_places (first_stand clean polls turns).spot
first_own true polls turns = λ m is. absurd (none-some m is)
first_own false polls turns = λ m is. absurd (none-some m is)

module _ (s : Settings) (image : ℕ → List ℕ) (rank : ℕ) where
  pub always_own : (h : List Happening) → KnownAt own_places (host_after s image rank h).stand.spot
  unfolding joint_after
  always_own [] = first_own false None 1
  always_own (newest ∷ earlier) = by_step (step_to s image rank newest earlier) (always_own earlier)
    where
      by_step : StepTo s image rank newest earlier → KnownAt own_places (host_after s image rank earlier).stand.spot → KnownAt own_places (host_after s image rank (newest ∷ earlier)).stand.spot
      by_step (Stands same none) before = subst (λ (st : Stand). KnownAt own_places st.spot) (sym same) before
      by_step (Anew clean polls turns spot none) before = subst (KnownAt own_places) (sym spot) (first_own clean polls turns)
      by_step (Calls c) before =
          let host = host_after s image rank earlier in
          subst (KnownAt own_places) (sym (c.stand ∙ returned_spot s rank (joint_after s image earlier).time host c.made))
          (spot_leads s rank no_besides own_places own_places (own_leads s rank) host.leave host.stand.turn host.stand.more host.stand.spot c.made
          (λ chosen is. tt) (λ look is. tt) (λ sent rest st is. tt) tt (any_maker host.stand.spot) before)
