-- What the looks of a running node keep of its view maker, from joint to joint.
use Rattle.std.proofs.Common.{◌≡◌, ℕ, Bool, true, false, List, ◌∷◌, ◌++◌, Option, None, Some, refl, sym, ◌∙◌, ap, subst}
use Rattle.std.specs.Prelude.{option_map}
use Rattle.std.proofs.lemmas.Bool.{false≢true}
use Rattle.std.proofs.lemmas.Option.{none-some, same_Some}
use Rattle.qn_model.specs.declared.configuration.Settings.{Settings}
use Rattle.qn_model.specs.declared.packets.Packet.{Packet}
use Rattle.qn_model.specs.declared.times.Timing.{Timing}
use Rattle.qn_model.specs.Log.{now}
use Rattle.qn_model.specs.Moments.{Before, Itself, Later}
use Rattle.qn_model.specs.Phases.{is_live, phase}
use Rattle.qn_member.specs.Naming.{NamingMaker}
use Rattle.qn_member.specs.NamingViews.{after_look, after_naming_hello_due}
use Rattle.qn_live.specs.declared.place.Choice.{Choice}
use Rattle.qn_live.specs.declared.words.Own.{Own}
use Rattle.qn_live.specs.Choosing.{told}
use Rattle.qn_live.specs.Greetings.{maker_begun, maker_where}
use Rattle.qn_live.specs.Running.{RunState}
use Rattle.qn_safety.specs.Earlier.{before_tail, before_then}
use Rattle.qn_joined.specs.Joints.{Happening, IsJoined}
use Rattle.qn_joined.specs.Moves.{EachIsOneEvent}
use Rattle.qn_joined.specs.Stands.{Looking}
use Rattle.qn_joined.specs.WorldOf.{EveryJointHasAWorld}
use Rattle.qn_service.specs.Hellos.{StaysAwake, packet_chosen, packet_to_hear, packet_waiting}
use Rattle.qn_service.specs.Looks.{LookOf, look_at}
use Rattle.qn_service.specs.NextLooks.{look_of_rank}
use Rattle.qn_service.proofs.ByTheImage.{HeadersReadBack}
use Rattle.qn_service.proofs.FreshHellos.{LookIs, look_is}
use Rattle.qn_service.proofs.JointClocks.{ClockLaws, ReturnOf}
use Rattle.qn_service.proofs.RankSteps.{host_after}
use Rattle.qn_service.proofs.SaidHellos.{up_leads}
use Rattle.qn_service.proofs.TurnSteps.{Besides, KnownAt, Places, StepsLead, any_maker}
use Rattle.qn_service.proofs.Waking.{known_after, live_of, look_by_call, step_of}

-- What is so of a view maker, while what comes is so, and so is each look.
pub record Keeping : Type 1 where
  pub holds : NamingMaker → Type 0
  pub hears : Option Packet → Type 0
  pub looks : ℕ → NamingMaker → Type 0
  pub due : (tick : ℕ) (m : NamingMaker) → holds m → holds (after_naming_hello_due tick m)
  pub look : (tick : ℕ) (own : Own) (p : Option Packet) (m : NamingMaker) → hears p → looks tick (told tick own p m) → holds m → holds (after_look tick (told tick own p m))

-- there is a view maker that is so
pub record HasKept (k : Keeping) (had : Option NamingMaker) : Type 0 where
  pub maker : NamingMaker
  pub is : had ≡ Some maker
  pub holds : k.holds maker

abbrev pub kept_places : Keeping → Places
kept_places k =
    record {
      between = λ log had. HasKept k had;
      acting = λ log had. HasKept k had;
      saying = λ sents log had. HasKept k had;
      over = λ log. Unit {0};
    }

abbrev pub kept_besides : Settings → Keeping → Besides
kept_besides s k =
    record {
      clock = λ log tick p. k.hears p;
      look = k.looks;
      sent = λ sent log. Unit {0};
      log = λ log. is_live (phase s log) ≡ true;
      maker = λ m. Unit {0};
    }

module _ (s : Settings) (me : ℕ) (k : Keeping) where
  kept_same : (m : NamingMaker) → HasKept k (Some m) → k.holds m
  kept_same m kept = subst k.holds (sym (same_Some m kept.maker kept.is)) kept.holds

  left_kept : (tick : ℕ) (live : Bool) (begun : NamingMaker) (had : Option NamingMaker) → live ≡ true → HasKept k had
      → HasKept k (option_map (after_naming_hello_due tick) (maker_where live begun had))
  left_kept tick false begun had live kept = absurd (false≢true live)
  left_kept tick true begun None live kept = absurd (none-some kept.maker kept.is)
  left_kept tick true begun (Some m) live kept = record { maker = after_naming_hello_due tick m; is = refl; holds = k.due tick m (kept_same m kept) }

  pub kept_leads : StepsLead s me (kept_besides s k) (kept_places k) (kept_places k)
  kept_leads =
      record {
        waits = λ log had known. known;
        takes = λ log had tick p entry clock order makers known. known;
        looks = λ log m tick own p clock looking order maker known. record {
          maker = after_look tick (told tick own p m);
          is = refl;
          holds = k.look tick own p m clock looking (kept_same m known);
        };
        kept = λ m tick own p known. tt;
        acts = λ log had known. known;
        greets = λ log had loop_ms own live makers known. left_kept (now log) (is_live (phase s log)) (maker_begun s me loop_ms own) had live known;
        polls = λ sents log had known. known;
        says = λ sent rest log had says known. known;
        said = λ log had known. known;
        stops = λ log had known. tt;
        parts = λ log had known. tt;
        ends = λ log known. tt;
      }

module _ (s : Settings) (t : Timing) (worlds : EveryJointHasAWorld s t) (one : EachIsOneEvent s t) (back : HeadersReadBack) (laws : ClockLaws)
    (image : ℕ → List ℕ) (turn rank : ℕ) (newer older : List Happening) (joined : IsJoined s t image (newer ++ older)) (awake : StaysAwake s image turn rank older (newer ++ older)) (k : Keeping) where
  -- between two joints what comes is so, and so is each look
  pub record KeepsOn (base : List Happening) : Type 0 where
    pub hears : (at : List Happening) → Before base at → Before at (newer ++ older) → (chosen : Choice × RunState) → (host_after s image rank at).stand.spot ≡ Looking chosen
        → k.hears (packet_chosen chosen.0)
    pub looks : (at : List Happening) (happening : Happening) (look : LookOf) → Before base at → Before (happening ∷ at) (newer ++ older)
        → look_of_rank s image rank happening at ≡ Some look → k.looks look.tick look.maker

  pub kept_on : (base at : List Happening) → Before older base → Before base at → Before at (newer ++ older) → KeepsOn base
      → KnownAt (kept_places k) (host_after s image rank base).stand.spot → KnownAt (kept_places k) (host_after s image rank at).stand.spot
  kept_on base at after Itself until keeps known = known
  kept_on base (newest ∷ at) after (Later same order) until keeps known =
      up_leads s t image rank newest at (kept_besides s k) (kept_places k) (kept_places k) (kept_leads s rank k)
      (step_of s t worlds one back laws image turn rank newer older joined awake newest at (before_then after order) until)
      (λ chosen is tick told. keeps.hears at order (before_tail until) chosen is) (λ look found. keeps.looks at newest look order until found) (λ sent rest st is says. tt)
      (live_of s t worlds one back laws image turn rank newer older joined awake (newest ∷ at) (Later newest (before_then after order)) until)
      (any_maker (host_after s image rank at).stand.spot)
      (kept_on base at after order (before_tail until) keeps known)

  -- it is so right after a look that leaves it so
  pub kept_after : (newest : Happening) (at : List Happening) (look : LookOf) → Before older at → Before (newest ∷ at) (newer ++ older) → look_of_rank s image rank newest at ≡ Some look
      → k.holds (after_look look.tick look.maker) → KnownAt (kept_places k) (host_after s image rank (newest ∷ at)).stand.spot
  kept_after newest at look since until found holds =
      known_after s t worlds one back laws image turn rank newer older joined awake (kept_besides s k) (kept_places k) (kept_leads s rank k) newest at look since until found
      (live_of s t worlds one back laws image turn rank newer older joined awake (newest ∷ at) (Later newest since) until) any_maker
      (λ log entry. record { maker = after_look look.tick look.maker; is = refl; holds = holds })

  -- what a look is told, where it is so before
  pub record ToldAt (at : List Happening) (look : LookOf) : Type 0 where
    pub own : Own
    pub packet : Option Packet
    pub before : NamingMaker
    pub is : look.maker ≡ told look.tick own packet before
    pub heard : packet_to_hear s image rank at ≡ packet
    pub holds : k.holds before

  pub told_at : (newest : Happening) (at : List Happening) (look : LookOf) → Before older at → Before (newest ∷ at) (newer ++ older) → look_of_rank s image rank newest at ≡ Some look
      → KnownAt (kept_places k) (host_after s image rank at).stand.spot → ToldAt at look
  told_at newest at look since until found known =
      record {
        own = is.own;
        packet = packet_chosen is.chosen.0;
        before = is.before;
        is = is.told ∙ ap (λ tick. told tick is.own (packet_chosen is.chosen.0) is.before) (sym is.tick);
        heard = ap packet_waiting is.is;
        holds = subst k.holds (same_Some there.maker is.before (sym there.is ∙ is.had)) there.holds;
      }
    where
      made : (r : ReturnOf s t image rank newest at) × (look_at rank (host_after s image rank at).stand.spot r.made ≡ Some look)
      made = look_by_call s t worlds one back laws image turn rank newer older joined awake newest at look since until found

      is : LookIs (host_after s image rank at).stand.spot made.0.made look
      is = look_is rank (host_after s image rank at).stand.spot made.0.made look made.1

      there : HasKept k is.chosen.1.maker
      there = subst (KnownAt (kept_places k)) is.is known
