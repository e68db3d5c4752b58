-- What a view maker knows of the others: no look changes what was heard, a Hello of its own is no later than its log, and its lists have 32 places.
use Rattle.std.proofs.Common.{◌≡◌, ◌⊎◌, inl, inr, ℕ, ◌≤◌, Bool, true, false, not, ◌&&◌, ◌||◌, List, [], ◌∷◌, length, Option, None, Some, if◌then◌else◌, refl, sym, ◌∙◌, ap, subst, arith}
use Rattle.std.specs.Prelude.{option_map, slice_set}
use Rattle.std.proofs.lemmas.List.{length-set}
use Rattle.std.proofs.lemmas.Option.{none-some, same_Some}
use Rattle.qn_base.specs.declared.ids.Mask.{Mask}
use Rattle.qn_base.specs.declared.ids.Said.{Said}
use Rattle.qn_base.specs.declared.ids.Standing.{Standing}
use Rattle.qn_base.specs.declared.ids.View.{View}
use Rattle.qn_base.specs.Members.{is_member}
use Rattle.qn_model.specs.declared.configuration.Settings.{Settings}
use Rattle.qn_model.specs.declared.packets.Packet.{Packet}
use Rattle.qn_model.specs.declared.packets.Packet.TheVariants as packet
use Rattle.qn_model.specs.Log.{Line, now}
use Rattle.qn_model.specs.NodeOutputs.{with_entry}
use Rattle.qn_model.specs.Phases.{is_live, phase}
use Rattle.qn_member.specs.Announcing.{is_beat}
use Rattle.qn_member.specs.Maker.{Maker, after_announce, after_hello, after_tick, company_at, enough_of, has_configured, hellos_after, installed_beside, is_configured, led_by, looked, plain, said_in, says_more, view_at}
use Rattle.qn_member.specs.Naming.{NamingMaker, after_named_announce, after_named_hello, after_stand, after_standing, first_naming, has_bit, is_other, is_own, is_passed_over, knows_bit, names_nobody, said_with}
use Rattle.qn_member.specs.NamingViews.{after_by_name, after_found, after_look, after_naming_hello_due, after_plain_look, answer_at, company_now, is_naming_hello_due, is_naming_news_due, looked_by_name, seeing_names, view_announced, view_by_name}
use Rattle.qn_live.specs.declared.words.Own.{Own}
use Rattle.qn_live.specs.Choosing.{heard, told, view_or_tick}
use Rattle.qn_live.specs.Greetings.{maker_begun, maker_where}
use Rattle.qn_joined.specs.Joints.{Happening, joint_after}
use Rattle.qn_joined.specs.Stands.{Stand, first_stand}
use Rattle.qn_service.proofs.Made.{leading_keeps, looked_notes}
use Rattle.qn_service.proofs.RankSteps.{Anew, Calls, Stands, StepTo, host_after, returned_spot, step_to}
use Rattle.qn_service.proofs.TurnSteps.{Besides, KnownAt, MakerIs, Places, StepsLead, any_maker, spot_leads}

-- ## A look

-- what a look leaves as it is
pub record KeepsHeard (before after : Maker) : Type 0 where
  pub nodes : after.nodes ≡ before.nodes
  pub own : after.me ≡ before.me
  pub enough : after.enough ≡ before.enough
  pub hellos : after.hellos ≡ before.hellos
  pub said : after.said ≡ before.said
  pub announced : after.announced ≡ before.announced
  pub last : after.last_hello ≡ before.last_hello

installed_heard : (company : Mask) (found : Option View) (k : Maker) → KeepsHeard k (installed_beside company found k)
installed_heard company None k = record { nodes = refl; own = refl; enough = refl; hellos = refl; said = refl; announced = refl; last = refl }
installed_heard company (Some view) k = record { nodes = refl; own = refl; enough = refl; hellos = refl; said = refl; announced = refl; last = refl }

found_heard : (tick : ℕ) (m : NamingMaker) → KeepsHeard m.maker (after_found tick m).maker
unfolding after_found after_tick
found_heard tick m = by_own (is_own m knows_bit)
  where
    noted : KeepsHeard (looked_by_name tick m).maker (after_by_name tick m).maker
    noted = installed_heard (company_now (seeing_names tick m)) (view_by_name tick m) (looked_by_name tick m).maker

    plain_look : (after_plain_look tick m).maker ≡ after_tick tick m.maker
    plain_look = leading_keeps tick (led_by (after_tick tick m.maker)) (record m { maker = after_tick tick m.maker }) (after_tick tick m.maker) refl

    by_own : (b : Bool) → KeepsHeard m.maker (if b then after_by_name tick m else after_plain_look tick m).maker
    by_own true =
        record {
          nodes = noted.nodes ∙ ap (λ (k : Maker). k.nodes) (looked_notes tick m);
          own = noted.own ∙ ap (λ (k : Maker). k.me) (looked_notes tick m);
          enough = noted.enough ∙ ap (λ (k : Maker). k.enough) (looked_notes tick m);
          hellos = noted.hellos ∙ ap (λ (k : Maker). k.hellos) (looked_notes tick m);
          said = noted.said ∙ ap (λ (k : Maker). k.said) (looked_notes tick m);
          announced = noted.announced ∙ ap (λ (k : Maker). k.announced) (looked_notes tick m);
          last = noted.last ∙ ap (λ (k : Maker). k.last_hello) (looked_notes tick m);
        }
    by_own false =
        subst (KeepsHeard m.maker) (sym plain_look)
        (let kept = installed_heard (company_at (looked tick m.maker)) (view_at tick m.maker) (looked tick m.maker) in
        record { nodes = kept.nodes; own = kept.own; enough = kept.enough; hellos = kept.hellos; said = kept.said; announced = kept.announced; last = kept.last })

pub look_heard : (tick : ℕ) (m : NamingMaker) → KeepsHeard m.maker (after_look tick m).maker
unfolding after_look
look_heard tick m = found_heard tick m

-- ## What comes

-- the nodes stay, and so does the last Hello of the beat; the lists by rank are as long
pub record KeepsBeat (before after : Maker) : Type 0 where
  pub nodes : after.nodes ≡ before.nodes
  pub own : after.me ≡ before.me
  pub enough : after.enough ≡ before.enough
  pub places : length after.hellos ≡ length before.hellos
  pub words : length after.said ≡ length before.said
  pub views : length after.announced ≡ length before.announced
  pub last : after.last_hello ≡ before.last_hello

beat_same : (k : Maker) → KeepsBeat k k
beat_same k = record { nodes = refl; own = refl; enough = refl; places = refl; words = refl; views = refl; last = refl }

beat_then : {a b c : Maker} → KeepsBeat a b → KeepsBeat b c → KeepsBeat a c
beat_then first second =
    record {
      nodes = second.nodes ∙ first.nodes;
      own = second.own ∙ first.own;
      enough = second.enough ∙ first.enough;
      places = second.places ∙ first.places;
      words = second.words ∙ first.words;
      views = second.views ∙ first.views;
      last = second.last ∙ first.last;
    }

if_beat : (b : Bool) (one other : NamingMaker) (k : Maker) → KeepsBeat k one.maker → KeepsBeat k other.maker → KeepsBeat k (if b then one else other).maker
if_beat true one other k first second = first
if_beat false one other k first second = second

if_maker : (b : Bool) (one other k : Maker) → KeepsBeat k one → KeepsBeat k other → KeepsBeat k (if b then one else other)
if_maker true one other k first second = first
if_maker false one other k first second = second

hello_beat : (tick from : ℕ) (said : Said) (k : Maker) → KeepsBeat k (after_hello tick from said k)
hello_beat tick from said k =
    if_maker (is_configured k from) _ k k
    (record { nodes = refl; own = refl; enough = refl; places = length-set k.hellos from (Some tick); words = length-set k.said from (Some (said_in k said)); views = refl; last = refl })
    (beat_same k)

named_beat : (tick from : ℕ) (said : Said) (m : NamingMaker) → KeepsBeat m.maker (after_named_hello tick from said m).maker
named_beat tick from said m = if_beat (is_other m from) _ _ m.maker (hello_beat tick from said m.maker) (hello_beat tick from said m.maker)

hellos_places : (from : ℕ) (view : View) (k : Maker) → length (hellos_after from view k) ≡ length k.hellos
hellos_places from view k = by_member (is_member view.members from)
  where
    by_member : (b : Bool) → length (if b then k.hellos else slice_set k.hellos from None) ≡ length k.hellos
    by_member true = refl
    by_member false = length-set k.hellos from None

announce_beat : (from : ℕ) (view : View) (m : NamingMaker) → KeepsBeat m.maker (after_named_announce from view m).maker
announce_beat from view m =
    let counts = is_configured m.maker from && has_configured m.maker.nodes view.members in
    let kept : KeepsBeat m.maker (after_announce from view m.maker) =
    if_maker counts _ m.maker m.maker (record { nodes = refl; own = refl; enough = refl; places = hellos_places from view m.maker; words = refl; views = length-set m.maker.announced from (Some view); last = refl }) (beat_same m.maker) in
    if_beat counts _ _ m.maker kept kept

said_places : (from flags : ℕ) (m : NamingMaker) → length (said_with m from flags) ≡ length m.maker.said
said_places from flags m = by_passed (is_passed_over m from flags)
  where
    by_passed : (b : Bool) → length (if b then slice_set m.maker.said from (Some names_nobody) else m.maker.said) ≡ length m.maker.said
    by_passed true = length-set m.maker.said from (Some names_nobody)
    by_passed false = refl

standing_beat : (from : ℕ) (standing : Standing) (m : NamingMaker) → KeepsBeat m.maker (after_standing from standing m).maker
standing_beat from standing m =
    if_beat (is_other m from && has_bit standing.flags knows_bit) _ m m.maker
    (record { nodes = refl; own = refl; enough = refl; places = refl; words = said_places from standing.flags m; views = refl; last = refl }) (beat_same m.maker)

heard_beat : (tick : ℕ) (p : Option Packet) (m : NamingMaker) → KeepsBeat m.maker (heard tick p m).maker
heard_beat tick None m = beat_same m.maker
heard_beat tick (Some (packet.Hello from)) m =
    if_beat (is_configured m.maker from.0 && not (says_more tick m.maker from.0)) _ m m.maker (named_beat tick from.0 plain m) (beat_same m.maker)
heard_beat tick (Some (packet.Heard from said standing)) m =
    beat_then (named_beat tick from.0 said m) (standing_beat from.0 standing (after_named_hello tick from.0 said m))
heard_beat tick (Some (packet.Announce from view)) m = announce_beat from.0 view m
heard_beat tick (Some (packet.Ask ask)) m = beat_same m.maker
heard_beat tick (Some (packet.Tell tell)) m = beat_same m.maker
heard_beat tick (Some (packet.Vote agrees)) m = beat_same m.maker

stand_beat : (standing : Standing) (holds : Bool) (m : NamingMaker) → KeepsBeat m.maker (after_stand standing holds m).maker
stand_beat standing holds m = if_beat (is_configured m.maker m.maker.me) _ m m.maker (beat_same m.maker) (beat_same m.maker)

pub told_beat : (tick : ℕ) (own : Own) (p : Option Packet) (m : NamingMaker) → KeepsBeat m.maker (told tick own p m).maker
told_beat tick own p m = beat_then (heard_beat tick p m) (stand_beat own.said own.holds (heard tick p m))

-- what a turn that looks leaves of what it knew
pub looked_beat : (tick : ℕ) (own : Own) (p : Option Packet) (m : NamingMaker) → KeepsBeat m.maker (after_look tick (told tick own p m)).maker
looked_beat tick own p m =
    let kept = look_heard tick (told tick own p m) in
    beat_then (told_beat tick own p m)
    (record { nodes = kept.nodes; own = kept.own; enough = kept.enough; places = ap length kept.hellos; words = ap length kept.said; views = ap length kept.announced; last = kept.last })

-- ## Whether a Hello is due

-- a view maker that begins has said none
pub begun_last : (s : Settings) (me loop_ms : ℕ) (own : Own) → (maker_begun s me loop_ms own).maker.last_hello ≡ None
begun_last s me loop_ms own = (stand_beat own.said own.holds (first_naming s me loop_ms)).last

-- the last one of the beat is the one before, or of this tick
pub due_last : (tick : ℕ) (m : NamingMaker)
    → ((is_beat tick m.maker ≡ true) × ((after_naming_hello_due tick m).maker.last_hello ≡ Some tick))
    ⊎ ((is_beat tick m.maker ≡ false) × ((after_naming_hello_due tick m).maker.last_hello ≡ m.maker.last_hello))
due_last tick m = by_beat (is_beat tick m.maker) refl
  where
    left : (b : Bool) → is_beat tick m.maker ≡ b → (after_naming_hello_due tick m).maker.last_hello ≡ (if b then Some tick else m.maker.last_hello)
    left b is = by_named (is_naming_hello_due tick m) refl
      where
        by_named : (due : Bool) → is_naming_hello_due tick m ≡ due
            → (if due
            then record m {
              maker = record m.maker {
                last_hello = if is_beat tick m.maker then Some tick else m.maker.last_hello;
                told = Some (record { tick = tick; said = m.maker.says; view = Rattle.qn_member.specs.NamingViews.view_announced m });
              };
              told_stands = m.stands;
            }
            else m).maker.last_hello ≡ (if b then Some tick else m.maker.last_hello)
        by_named true due = ap (λ c. if c then Some tick else m.maker.last_hello) is
        by_named false due =
            sym (ap (λ c. if c then Some tick else m.maker.last_hello)
            (sym is ∙ no_beat (is_beat tick m.maker) (is_naming_news_due tick m) due))
          where
            no_beat : (beat news : Bool) → (beat || news) ≡ false → beat ≡ false
            no_beat true news off = off
            no_beat false news off = refl

    by_beat : (b : Bool) → is_beat tick m.maker ≡ b
        → ((is_beat tick m.maker ≡ true) × ((after_naming_hello_due tick m).maker.last_hello ≡ Some tick))
        ⊎ ((is_beat tick m.maker ≡ false) × ((after_naming_hello_due tick m).maker.last_hello ≡ m.maker.last_hello))
    by_beat true is = inl (is, left true is)
    by_beat false is = inr (is, left false is)

-- ## In each joint

-- a view maker whose lists have 32 places, by this log
pub record IsSound (s : Settings) (log : List Line) (m : NamingMaker) : Type 0 where
  pub nodes : m.maker.nodes ≡ s.nodes
  pub enough : m.maker.enough ≡ enough_of s
  pub places : length m.maker.hellos ≡ 32
  pub words : length m.maker.said ≡ 32
  pub views : length m.maker.announced ≡ 32
  pub said : (tick : ℕ) → m.maker.last_hello ≡ Some tick → tick ≤ now log

abbrev pub sound_places : Settings → Places
sound_places s =
    record {
      between = λ log had. MakerIs (IsSound s log) had;
      acting = λ log had. MakerIs (IsSound s log) had;
      saying = λ sents log had. MakerIs (IsSound s log) had;
      over = λ log. Unit {0};
    }

abbrev nothing_besides : Besides
nothing_besides = record { clock = λ log tick p. Unit {0}; look = λ tick m. Unit {0}; sent = λ sent log. Unit {0}; log = λ log. Unit {0}; maker = λ m. Unit {0} }

module _ (s : Settings) (me : ℕ) where
  later_sound : (log later : List Line) (before after : NamingMaker) → KeepsBeat before.maker after.maker → now log ≤ now later → IsSound s log before → IsSound s later after
  later_sound log later before after kept order sound =
      record {
        nodes = kept.nodes ∙ sound.nodes;
        enough = kept.enough ∙ sound.enough;
        places = kept.places ∙ sound.places;
        words = kept.words ∙ sound.words;
        views = kept.views ∙ sound.views;
        said = λ tick is. let was = sound.said tick (sym kept.last ∙ is) in omega (arith, was, order);
      }

  begun_sound : (log : List Line) (loop_ms : ℕ) (own : Own) → IsSound s log (maker_begun s me loop_ms own)
  begun_sound log loop_ms own =
      let kept = stand_beat own.said own.holds (first_naming s me loop_ms) in
      record { nodes = kept.nodes; enough = kept.enough; places = kept.places; words = kept.words; views = kept.views; said = λ tick is. absurd (none-some tick (sym kept.last ∙ is)) }

  due_sound : (log : List Line) (m : NamingMaker) → IsSound s log m → IsSound s log (after_naming_hello_due (now log) m)
  due_sound log m sound =
      record {
        nodes = ap (λ (k : Maker). k.nodes) same ∙ sound.nodes;
        enough = ap (λ (k : Maker). k.enough) same ∙ sound.enough;
        places = ap (λ (k : Maker). length k.hellos) same ∙ sound.places;
        words = ap (λ (k : Maker). length k.said) same ∙ sound.words;
        views = ap (λ (k : Maker). length k.announced) same ∙ sound.views;
        said = λ tick is. by_beat tick is (due_last (now log) m);
      }
    where
      forget : Maker → Maker
      forget k = record k { last_hello = None; told = None }

      same : forget (after_naming_hello_due (now log) m).maker ≡ forget m.maker
      same = by_due (is_naming_hello_due (now log) m)
        where
          by_due : (b : Bool) → forget (if b
              then record m {
                maker = record m.maker {
                  last_hello = if is_beat (now log) m.maker then Some (now log) else m.maker.last_hello;
                  told = Some (record { tick = now log; said = m.maker.says; view = view_announced m });
                };
                told_stands = m.stands;
              }
              else m).maker ≡ forget m.maker
          by_due true = refl
          by_due false = refl

      by_beat : (tick : ℕ) → (after_naming_hello_due (now log) m).maker.last_hello ≡ Some tick
          → ((is_beat (now log) m.maker ≡ true) × ((after_naming_hello_due (now log) m).maker.last_hello ≡ Some (now log)))
          ⊎ ((is_beat (now log) m.maker ≡ false) × ((after_naming_hello_due (now log) m).maker.last_hello ≡ m.maker.last_hello))
          → tick ≤ now log
      by_beat tick is (inl beat) = let same_tick = same_Some (now log) tick (sym beat.1 ∙ is) in omega (arith, same_tick)
      by_beat tick is (inr kept) = sound.said tick (sym kept.1 ∙ is)

  left_sound : (log : List Line) (live : Bool) (begun : NamingMaker) (had : Option NamingMaker) → IsSound s log begun → MakerIs (IsSound s log) had
      → MakerIs (IsSound s log) (option_map (after_naming_hello_due (now log)) (maker_where live begun had))
  left_sound log false begun had first sound = λ m is. absurd (none-some m is)
  left_sound log true begun None first sound = λ m is. subst (IsSound s log) (same_Some (after_naming_hello_due (now log) begun) m is) (due_sound log begun first)
  left_sound log true begun (Some k) first sound = λ m is. subst (IsSound s log) (same_Some (after_naming_hello_due (now log) k) m is) (due_sound log k (sound k refl))

  sound_leads : StepsLead s me nothing_besides (sound_places s) (sound_places s)
  unfolding with_entry
  sound_leads =
      record {
        waits = λ log had known. known;
        takes = λ log had tick p entry clock order makers known m is.
            later_sound log (with_entry s me log (record { tick = tick; what = entry })) m m (beat_same m.maker) order (known m is);
        looks = λ log m tick own p clock looking order makers known n is.
            subst (IsSound s (with_entry s me log (record { tick = tick; what = view_or_tick (answer_at tick (told tick own p m)) })))
            (same_Some (after_look tick (told tick own p m)) n is)
            (later_sound log (with_entry s me log (record { tick = tick; what = view_or_tick (answer_at tick (told tick own p m)) })) m
            (after_look tick (told tick own p m)) (looked_beat tick own p m) order (known m refl));
        kept = λ m tick own p known. tt;
        acts = λ log had known. known;
        greets = λ log had loop_ms own logged makers known.
            left_sound log (is_live (phase s log)) (maker_begun s me loop_ms own) had (begun_sound log loop_ms own) known;
        polls = λ sents log had known. known;
        says = λ sent rest log had says known. known;
        said = λ log had known. known;
        stops = λ log had known. tt;
        parts = λ log had known. tt;
        ends = λ log known. tt;
      }

first_sound : (s : Settings) (clean : Bool) (polls : Option ℕ) (turns : ℕ) → KnownAt (sound_places s) (first_stand clean polls turns).spot
first_sound s true polls turns = λ m is. absurd (none-some m is)
first_sound s false polls turns = λ m is. absurd (none-some m is)

module _ (s : Settings) (image : ℕ → List ℕ) (rank : ℕ) where
  pub always_sound : (h : List Happening) → KnownAt (sound_places s) (host_after s image rank h).stand.spot
  unfolding joint_after
  always_sound [] = first_sound s false None 1
  always_sound (newest ∷ earlier) = by_step (step_to s image rank newest earlier) (always_sound earlier)
    where
      by_step : StepTo s image rank newest earlier → KnownAt (sound_places s) (host_after s image rank earlier).stand.spot
          → KnownAt (sound_places s) (host_after s image rank (newest ∷ earlier)).stand.spot
      by_step (Stands same none) before = subst (λ (st : Stand). KnownAt (sound_places s) st.spot) (sym same) before
      by_step (Anew clean polls turns spot none) before = subst (KnownAt (sound_places s)) (sym spot) (first_sound s clean polls turns)
      by_step (Calls c) before =
          let host = host_after s image rank earlier in
          subst (KnownAt (sound_places s)) (sym (c.stand ∙ returned_spot s rank (joint_after s image earlier).time host c.made))
          (spot_leads s rank nothing_besides (sound_places s) (sound_places s) (sound_leads s rank) host.leave host.stand.turn host.stand.more host.stand.spot c.made
          (λ chosen is. tt) (λ look is. tt) (λ sent rest st is. tt) tt (any_maker host.stand.spot) before)
