-- What the looks of a running node leave its view maker with, it says from then on.
use Rattle.std.proofs.Common.{◌≡◌, ℕ, ◌+◌, Bool, true, false, List, [], ◌∷◌, ◌++◌, Option, None, Some, IfSome, refl, sym, ap, subst}
use Rattle.std.specs.Prelude.{option_map}
use Rattle.std.specs.Option.{option_map_or}
use Rattle.std.proofs.lemmas.Bool.{false≢true}
use Rattle.std.proofs.lemmas.Option.{none-some, same_Some}
use Rattle.qn_base.specs.declared.ids.View.{View}
use Rattle.qn_model.specs.declared.configuration.Settings.{Settings}
use Rattle.qn_model.specs.declared.packets.Packet.{Packet}
use Rattle.qn_model.specs.declared.packets.Packet.TheVariants as packet
use Rattle.qn_model.specs.declared.packets.Sent.{Sent}
use Rattle.qn_model.specs.declared.times.Timing.{Timing}
use Rattle.qn_model.specs.Log.{now}
use Rattle.qn_model.specs.Moments.{Before, Itself, Later}
use Rattle.qn_model.specs.Phases.{is_live, phase}
use Rattle.qn_model.specs.Wanted.{rank_of}
use Rattle.qn_member.specs.Naming.{NamingMaker}
use Rattle.qn_member.specs.NamingViews.{after_look, after_naming_hello_due, is_naming_hello_due, view_announced}
use Rattle.qn_live.specs.Choosing.{told}
use Rattle.qn_live.specs.Greetings.{announcements, greeting_packet, hello_of, hellos_where, maker_begun, maker_where, others_from, said_after, to_each, to_send}
use Rattle.qn_live.specs.Running.{RunState}
use Rattle.qn_safety.specs.Earlier.{before_tail, before_then}
use Rattle.qn_joined.specs.Joints.{Happening, IsJoined, joint_after}
use Rattle.qn_joined.specs.Moves.{EachIsOneEvent}
use Rattle.qn_joined.specs.Stands.{Acting, Ended, Looking, Parting, Polling, Receiving, Saying, Spot}
use Rattle.qn_joined.specs.WorldOf.{EveryJointHasAWorld}
use Rattle.qn_service.specs.Hellos.{HasLooked, LooksOften, Says, StaysAwake, sent_next}
use Rattle.qn_service.specs.Looks.{LookOf}
use Rattle.qn_service.specs.NextLooks.{look_of_rank}
use Rattle.qn_service.proofs.ByTheImage.{HeadersReadBack}
use Rattle.qn_service.proofs.JointClocks.{ClockLaws}
use Rattle.qn_service.proofs.RankSteps.{host_after}
use Rattle.qn_service.proofs.SaidHellos.{up_leads}
use Rattle.qn_service.proofs.SaidNames.{says_next}
use Rattle.qn_service.proofs.TurnSteps.{Besides, KnownAt, Places, StepsLead, any_maker}
use Rattle.qn_service.proofs.Waking.{IsLate, clocks_of, known_after, live_of, step_of, ticks_passed}

-- What is so of a view maker, and of what it is then to send.
pub record Telling (s : Settings) (me : ℕ) : Type 1 where
  pub holds : NamingMaker → Type 0
  pub sends : List Sent → Type 0
  pub due : (tick : ℕ) (m : NamingMaker) → holds m → holds (after_naming_hello_due tick m)
  pub none : sends []
  pub greets : (m : NamingMaker) → holds m → sends (to_send s me (Some m) (hello_of m) 0)
  pub rest : (sent : Sent) (more : List Sent) → sends (sent ∷ more) → sends more

-- each packet that is to be sent is so
abbrev pub EachSays : (Packet → Type 0) → List Sent → Type 0
EachSays says [] = Unit {0}
EachSays says (sent ∷ rest) = says sent.packet × EachSays says rest

to_each_says : (says : Packet → Type 0) (p : Packet) (ranks : List ℕ) → says p → EachSays says (to_each p ranks)
to_each_says says p [] so = tt
to_each_says says p (rank ∷ ranks) so = (so, to_each_says says p ranks so)

both_say : (says : Packet → Type 0) (front behind : List Sent) → EachSays says front → EachSays says behind → EachSays says (front ++ behind)
both_say says [] behind first second = second
both_say says (sent ∷ front) behind (so, first) second = (so, both_say says front behind first second)

announced_say : (s : Settings) (me : ℕ) (says : Packet → Type 0) (announced : Option View) → IfSome announced (λ view. says (packet.Announce (rank_of me) view))
    → EachSays says (announcements s me announced)
announced_say s me says None so = tt
announced_say s me says (Some view) so = to_each_says says (packet.Announce (rank_of me) view) (others_from s me 0) so

pub greetings_say : (s : Settings) (me : ℕ) (says : Packet → Type 0) (m : NamingMaker) → says (packet.Heard (rank_of me) m.maker.says m.stands)
    → IfSome (view_announced m) (λ view. says (packet.Announce (rank_of me) view)) → EachSays says (to_send s me (Some m) (hello_of m) 0)
greetings_say s me says m hello announces =
    both_say says (to_each (greeting_packet me (hello_of m)) (others_from s me 0)) (said_after s me (Some m) (hello_of m))
    (to_each_says says (greeting_packet me (hello_of m)) (others_from s me 0) hello) (announced_say s me says (view_announced m) announces)

-- there is a view maker that is so
pub record HasTold {s : Settings} {me : ℕ} (w : Telling s me) (had : Option NamingMaker) : Type 0 where
  pub maker : NamingMaker
  pub is : had ≡ Some maker
  pub holds : w.holds maker

module _ (s : Settings) (me : ℕ) (w : Telling s me) where
  hellos_say : (due : Bool) (had : Option NamingMaker) → HasTold w had → w.sends (hellos_where due s me had)
  hellos_say false had told = w.none
  hellos_say true None told = absurd (none-some told.maker told.is)
  hellos_say true (Some m) told = w.greets m (subst (λ (k : NamingMaker). w.holds k) (sym (same_Some m told.maker told.is)) told.holds)

  left_told : (tick : ℕ) (live : Bool) (begun : NamingMaker) (had : Option NamingMaker) → live ≡ true → HasTold w had
      → HasTold w (option_map (after_naming_hello_due tick) (maker_where live begun had))
  left_told tick false begun had live told = absurd (false≢true live)
  left_told tick true begun None live told = absurd (none-some told.maker told.is)
  left_told tick true begun (Some m) live told =
      record {
        maker = after_naming_hello_due tick m;
        is = refl;
        holds = w.due tick m (subst (λ (k : NamingMaker). w.holds k) (sym (same_Some m told.maker told.is)) told.holds);
      }

  abbrev pub told_places : Places
  told_places =
      record {
        between = λ log had. HasTold w had;
        acting = λ log had. HasTold w had;
        saying = λ sents log had. HasTold w had × w.sends sents;
        over = λ log. Unit {0};
      }

  -- beside: each look leaves a view maker that is so, and the node is live
  abbrev pub told_besides : Besides
  told_besides =
      record {
        clock = λ log tick p. Unit {0};
        look = λ tick m. w.holds (after_look tick m);
        sent = λ sent log. Unit {0};
        log = λ log. is_live (phase s log) ≡ true;
        maker = λ m. Unit {0};
      }

  pub told_leads : StepsLead s me told_besides told_places told_places
  told_leads =
      record {
        waits = λ log had known. known;
        takes = λ log had tick p entry clock order makers known. known;
        looks = λ log m tick own p clock looking order maker known. record { maker = after_look tick (told tick own p m); is = refl; holds = looking };
        kept = λ m tick own p known. tt;
        acts = λ log had known. known;
        greets = λ log had loop_ms own live makers known.
            let left = left_told (now log) (is_live (phase s log)) (maker_begun s me loop_ms own) had live known in (
              left,
              hellos_say (option_map_or (is_naming_hello_due (now log)) (maker_where (is_live (phase s log)) (maker_begun s me loop_ms own) had) false)
                  (option_map (after_naming_hello_due (now log)) (maker_where (is_live (phase s log)) (maker_begun s me loop_ms own) had)) left,
            );
        polls = λ sents log had known. known;
        says = λ sent more log had says known. (known.0, w.rest sent more known.1);
        said = λ log had known. known.0;
        stops = λ log had known. tt;
        parts = λ log had known. tt;
        ends = λ log known. tt;
      }

  -- where a packet is about to be said, what is left to send is so
  pub record IsSaying (sent : Sent) (spot : Spot) : Type 0 where
    pub rest : List Sent
    pub st : RunState
    pub is : spot ≡ Saying sent rest st
    pub sends : w.sends (sent ∷ rest)

  next_says : (spot : Spot) (sent : Sent) → sent_next spot ≡ Some sent → KnownAt told_places spot → IsSaying sent spot
  next_says (Saying one rest st) sent next known =
      let same : one ≡ sent = same_Some one sent next in
      record { rest = rest; st = st; is = ap (λ (it : Sent). Saying it rest st) same; sends = subst (λ (it : Sent). w.sends (it ∷ rest)) same known.1 }
  next_says (Receiving st) sent next known = absurd (none-some sent next)
  next_says (Looking chosen) sent next known = absurd (none-some sent next)
  next_says (Acting entry outs o rest st) sent next known = absurd (none-some sent next)
  next_says (Polling poll sents st) sent next known = absurd (none-some sent next)
  next_says (Parting end sent' rest st) sent next known = absurd (none-some sent next)
  next_says (Ended ran) sent next known = absurd (none-some sent next)

-- ## From joint to joint

-- each look of a rank between two joints leaves a view maker that is so
abbrev pub EachLeaves : Settings → (ℕ → List ℕ) → ℕ → (NamingMaker → Type 0) → List Happening → List Happening → Type 0
EachLeaves s image rank IsSo old new =
    (at : List Happening) (happening : Happening) (look : LookOf) → Before old at → Before (happening ∷ at) new → look_of_rank s image rank happening at ≡ Some look
    → IsSo (after_look look.tick look.maker)

module _ (s : Settings) (t : Timing) (worlds : EveryJointHasAWorld s t) (one : EachIsOneEvent s t) (back : HeadersReadBack) (laws : ClockLaws)
    (image : ℕ → List ℕ) (turn gaze rank : ℕ) (newer older : List Happening) (joined : IsJoined s t image (newer ++ older)) (awake : StaysAwake s image turn rank older (newer ++ older))
    (often : LooksOften s image gaze rank older (newer ++ older)) (w : Telling s rank) (leaves : EachLeaves s image rank w.holds older (newer ++ older)) where
  told_on : (base at : List Happening) → Before older base → Before base at → Before at (newer ++ older)
      → KnownAt (told_places s rank w) (host_after s image rank base).stand.spot → KnownAt (told_places s rank w) (host_after s image rank at).stand.spot
  told_on base at after Itself until known = known
  told_on base (newest ∷ at) after (Later same order) until known =
      up_leads s t image rank newest at (told_besides s rank w) (told_places s rank w) (told_places s rank w) (told_leads s rank w)
      (step_of s t worlds one back laws image turn rank newer older joined awake newest at (before_then after order) until)
      (λ chosen is tick told. tt) (λ look found. leaves at newest look (before_then after order) until found) (λ sent rest st is says. tt)
      (live_of s t worlds one back laws image turn rank newer older joined awake (newest ∷ at) (Later newest (before_then after order)) until)
      (any_maker (host_after s image rank at).stand.spot)
      (told_on base at after order (before_tail until) known)

  -- it is so once a look has passed
  pub told_late : (at : List Happening) → Before older at → Before at (newer ++ older) → IsLate s image (gaze + 2) older at
      → KnownAt (told_places s rank w) (host_after s image rank at).stand.spot
  told_late at since until late =
      told_on (looked.happening ∷ looked.at) at (Later looked.happening looked.after) looked.back until
      (known_after s t worlds one back laws image turn rank newer older joined awake (told_besides s rank w) (told_places s rank w) (told_leads s rank w)
      looked.happening looked.at looked.look looked.after (before_then looked.back until) looked.is
      (live_of s t worlds one back laws image turn rank newer older joined awake (looked.happening ∷ looked.at) (Later looked.happening looked.after) (before_then looked.back until))
      any_maker
      (λ log entry. record {
        maker = after_look looked.look.tick looked.look.maker;
        is = refl;
        holds = leaves looked.at looked.happening looked.look looked.after (before_then looked.back until) looked.is;
      }))
    where
      looked : HasLooked s image gaze rank older at
      looked =
          often at since until
          (ticks_passed gaze (host_after s image rank older).clock (host_after s image rank at).clock (joint_after s image older).time (joint_after s image at).time
          (clocks_of s t worlds one back laws image turn rank newer older joined awake older at Itself since until).slow late)

  -- and so is what it is to send where it says a packet then
  pub says_late : (to : ℕ) (p : Packet) (happening : Happening) (at : List Happening) → Before older at → Before (happening ∷ at) (newer ++ older)
      → Says s image rank to p happening at → IsLate s image (gaze + 2) older at
      → IsSaying s rank w (record { to = rank_of to; packet = p }) (host_after s image rank at).stand.spot
  says_late to p happening at since until says late =
      next_says s rank w (host_after s image rank at).stand.spot (record { to = rank_of to; packet = p })
      (says_next s image rank (record { to = rank_of to; packet = p }) happening at says)
      (told_late at since (before_tail until) late)
