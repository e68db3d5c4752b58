-- A running node says the view that it announces to each other one, after its Hello.
use Rattle.std.proofs.Common.{◌≡◌, ◌⊎◌, inl, inr, ℕ, suc, zero, ◌+◌, ◌-◌, ◌<◌, ◌≤◌, Bool, true, false, not, ◌==◌, List, [], ◌∷◌, ◌++◌, Option, None, Some, IfSome, length, filter, if◌then◌else◌, refl, sym, ◌∙◌, ap, subst, arith}
use Rattle.std.specs.List.{range_with_len}
use Rattle.std.proofs.lemmas.Bool.{cases_eq, eqb-true, false≢true}
use Rattle.std.proofs.lemmas.Option.{none-some, same_Some}
use Rattle.qn_base.specs.declared.ids.Rank.{Rank}
use Rattle.qn_base.specs.declared.ids.Said.{Said}
use Rattle.qn_base.specs.declared.ids.Standing.{Standing}
use Rattle.qn_base.specs.declared.ids.View.{View}
use Rattle.qn_model.specs.declared.configuration.Settings.{Settings}
use Rattle.qn_model.specs.declared.packets.Packet.{Packet}
use Rattle.qn_model.specs.declared.packets.Packet.TheVariants as packet
use Rattle.qn_model.specs.declared.packets.Sent.{Sent}
use Rattle.qn_model.specs.declared.times.Timing.{Timing}
use Rattle.qn_model.specs.Log.{Line, now}
use Rattle.qn_model.specs.Moments.{Before, Itself, Later}
use Rattle.qn_model.specs.Wanted.{rank_of}
use Rattle.qn_member.specs.Announcing.{is_beat}
use Rattle.qn_member.specs.Naming.{NamingMaker}
use Rattle.qn_member.specs.NamingViews.{after_naming_hello_due, is_naming_hello_due, view_announced}
use Rattle.qn_live.specs.Greetings.{announcements, greeting_packet, hello_of, others_from, to_each}
use Rattle.qn_live.specs.Running.{RunState}
use Rattle.qn_safety.specs.Earlier.{before_tail, before_then}
use Rattle.qn_joined.specs.Joints.{Happening, IsJoined}
use Rattle.qn_joined.specs.Moves.{EachIsOneEvent}
use Rattle.qn_joined.specs.Stands.{Acting, Ended, Looking, Parting, Polling, Receiving, Saying, Spot, log_at}
use Rattle.qn_joined.specs.WorldOf.{EveryJointHasAWorld}
use Rattle.qn_service.specs.Hellos.{Says, StaysAwake, said_in}
use Rattle.qn_service.specs.Serving.{clock_at}
use Rattle.qn_service.proofs.ByTheImage.{HeadersReadBack}
use Rattle.qn_service.proofs.JointClocks.{ClockLaws}
use Rattle.qn_service.proofs.RankSteps.{host_after}
use Rattle.qn_service.proofs.SaidHellos.{up_leads}
use Rattle.qn_service.proofs.Telling.{EachSays, Telling, greetings_say}
use Rattle.qn_service.proofs.TurnSteps.{Besides, KnownAt, Places, StepsLead, any_maker}
use Rattle.qn_service.proofs.Waking.{read_of, step_of}

-- ## What is to be said

-- an announcement is of this view
abbrev pub OnlyAnnounces : View → Packet → Type 0
OnlyAnnounces present p = (from : Rank) (view : View) → p ≡ packet.Announce from view → view ≡ present

-- a packet to a rank is left to send
abbrev pub SendsTo : ℕ → Packet → List Sent → Type 0
SendsTo to p [] = ⊥
SendsTo to p (sent ∷ rest) = (sent ≡ record { to = rank_of to; packet = p }) ⊎ SendsTo to p rest

-- it follows each Hello
abbrev pub FollowsHellos : ℕ → Packet → List Sent → Type 0
FollowsHellos to p [] = Unit {0}
FollowsHellos to p (sent ∷ rest) = ((from : Rank) (said : Said) (standing : Standing) → sent.packet ≡ packet.Heard from said standing → SendsTo to p rest) × FollowsHellos to p rest

-- a packet to each other rank is one to this rank
sends_rank : (to : ℕ) (p : Packet) (test : ℕ → Bool) (first count : ℕ) → test to ≡ true → first ≤ to → to < first + count → SendsTo to p (to_each p (filter test (range_with_len first count)))
sends_rank to p test first zero passes above under = absurd (omega (arith, above, under))
sends_rank to p test first (suc count) passes above under =
    by_first (cases_eq first to) (λ other. sends_rank to p test (first + 1) count passes (omega (arith, above, other)) (omega (arith, under)))
  where
    rest : List ℕ
    rest = filter test (range_with_len (first + 1) count)

    here : (b : Bool) → b ≡ true → SendsTo first p (to_each p (if b then first ∷ rest else rest))
    here true is = inl refl
    here false is = absurd (false≢true is)

    behind : (b : Bool) → SendsTo to p (to_each p rest) → SendsTo to p (to_each p (if b then first ∷ rest else rest))
    behind true has = inr has
    behind false has = has

    by_first : (first ≡ to) ⊎ (first ≡ to → ⊥) → ((first ≡ to → ⊥) → SendsTo to p (to_each p rest)) → SendsTo to p (to_each p (if test first then first ∷ rest else rest))
    by_first (inl same) later = subst (λ r. SendsTo r p (to_each p (if test first then first ∷ rest else rest))) same (here (test first) (ap test same ∙ passes))
    by_first (inr other) later = behind (test first) (later other)

sends_behind : (to : ℕ) (p : Packet) (front behind : List Sent) → SendsTo to p behind → SendsTo to p (front ++ behind)
sends_behind to p [] behind has = has
sends_behind to p (sent ∷ front) behind has = inr (sends_behind to p front behind has)

-- announcements follow no Hello
no_hellos : (to : ℕ) (p : Packet) (me : Rank) (view : View) (ranks : List ℕ) → FollowsHellos to p (to_each (packet.Announce me view) ranks)
no_hellos to p me view [] = tt
no_hellos to p me view (rank ∷ ranks) = ((λ from said standing is. absurd cc), no_hellos to p me view ranks)

behind_hellos : (to : ℕ) (p q : Packet) (ranks : List ℕ) (behind : List Sent) → SendsTo to p behind → FollowsHellos to p behind → FollowsHellos to p (to_each q ranks ++ behind)
behind_hellos to p q [] behind has follows = follows
behind_hellos to p q (rank ∷ ranks) behind has follows = ((λ from said standing is. sends_behind to p (to_each q ranks) behind has), behind_hellos to p q ranks behind has follows)

module _ (s : Settings) (present : View) (from to : ℕ) (under : to < length s.nodes) (apart : to ≡ from → ⊥) where
  abbrev pub word : Packet
  word = packet.Announce (rank_of from) present

  other_passes : not (to == from) ≡ true
  other_passes = by_same (to == from) refl
    where
      by_same : (b : Bool) → (to == from) ≡ b → not b ≡ true
      by_same true same = absurd (apart (eqb-true to from same))
      by_same false other = refl

  pub greets_follow : (m : NamingMaker) (announced : Option View) → announced ≡ Some present
      → FollowsHellos to word (to_each (greeting_packet from (hello_of m)) (others_from s from 0) ++ announcements s from announced)
  greets_follow m None is = absurd (none-some present is)
  greets_follow m (Some view) is =
      subst (λ (v : View). FollowsHellos to word (to_each (greeting_packet from (hello_of m)) (others_from s from 0) ++ to_each (packet.Announce (rank_of from) v) (others_from s from 0)))
      (sym (same_Some view present is))
      (behind_hellos to word (greeting_packet from (hello_of m)) (others_from s from 0) (to_each word (others_from s from 0))
      (sends_rank to word (λ rank. not (rank == from)) 0 (length s.nodes - 0) other_passes (omega arith) (omega (arith, under)))
      (no_hellos to word (rank_of from) present (others_from s from 0)))

  pub only_present : (announced : Option View) → announced ≡ Some present → IfSome announced (λ view. OnlyAnnounces present (packet.Announce (rank_of from) view))
  only_present None is = tt
  only_present (Some view) is = λ place other same. let one : other ≡ view = cc in one ∙ same_Some view present is

  pub hello_none : (said : Said) (standing : Standing) → OnlyAnnounces present (packet.Heard (rank_of from) said standing)
  hello_none said standing place view same = absurd cc

  pub due_announced : (tick : ℕ) (m : NamingMaker) → view_announced (after_naming_hello_due tick m) ≡ view_announced m
  due_announced tick m = by_due (is_naming_hello_due tick m)
    where
      by_due : (b : Bool) → view_announced (if b
          then record m {
            maker = record m.maker {
              last_hello = if is_beat tick m.maker then Some tick else m.maker.last_hello;
              told = Some (record { tick = tick; said = m.maker.says; view = view_announced m });
            };
            told_stands = m.stands;
          }
          else m) ≡ view_announced m
      by_due true = refl
      by_due false = refl

  -- a view maker that announces this view
  abbrev pub announce_telling : Telling s from
  announce_telling =
      record {
        holds = λ m. view_announced m ≡ Some present;
        sends = λ sents. EachSays (OnlyAnnounces present) sents × FollowsHellos to word sents;
        due = λ tick m holds. due_announced tick m ∙ holds;
        none = (tt, tt);
        greets = λ m holds. (
          greetings_say s from (OnlyAnnounces present) m (hello_none m.maker.says m.stands) (only_present (view_announced m) holds),
          greets_follow m (view_announced m) holds,
        );
        rest = λ sent more so. (so.0.1, so.1.1);
      }

-- ## From a Hello on

-- a packet was said since a joint
pub record SaidSince (s : Settings) (image : ℕ → List ℕ) (from to : ℕ) (p : Packet) (old new : List Happening) : Type 0 where
  pub at : List Happening
  pub happening : Happening
  pub after : Before old at
  pub back : Before (happening ∷ at) new
  pub says : Says s image from to p happening at

module _ (s : Settings) (image : ℕ → List ℕ) (from to limit : ℕ) (p : Packet) (base : List Happening) where
  abbrev Came : List Happening → Type 0
  Came newer = SaidSince s image from to p base newer

  came_later : (newest : Happening) (newer : List Happening) → Came newer → Came (newest ∷ newer)
  came_later newest newer came = record { at = came.at; happening = came.happening; after = came.after; back = Later newest came.back; says = came.says }

  -- it is left to send in the turn of a tick, or was said
  abbrev pub pending_places : List Happening → Places
  pending_places newer =
      record {
        between = λ log had. Came newer;
        acting = λ log had. Came newer;
        saying = λ sents log had. (SendsTo to p sents × (now log ≤ limit)) ⊎ Came newer;
        over = λ log. Came newer;
      }

  abbrev pending_besides : Happening → List Happening → Besides
  pending_besides newest newer =
      record {
        clock = λ log tick q. Unit {0};
        look = λ tick m. Unit {0};
        sent = λ sent log. said_in s image newest newer ≡ Some (from, sent);
        log = λ log. Unit {0};
        maker = λ m. Unit {0};
      }

  still_pending : (newest : Happening) (newer : List Happening) (sents : List Sent) (log : List Line) → (SendsTo to p sents × (now log ≤ limit)) ⊎ Came newer
      → (SendsTo to p sents × (now log ≤ limit)) ⊎ Came (newest ∷ newer)
  still_pending newest newer sents log (inl waits) = inl waits
  still_pending newest newer sents log (inr came) = inr (came_later newest newer came)

  one_sent : (newest : Happening) (newer : List Happening) (sent : Sent) (rest : List Sent) (log : List Line) → Before base newer → said_in s image newest newer ≡ Some (from, sent)
      → (SendsTo to p (sent ∷ rest) × (now log ≤ limit)) ⊎ Came newer → (SendsTo to p rest × (now log ≤ limit)) ⊎ Came (newest ∷ newer)
  one_sent newest newer sent rest log since says (inl (inl same, order)) =
      inr (record { at = newer; happening = newest; after = since; back = Itself; says = says ∙ ap (λ (one : Sent). Some (from, one)) same })
  one_sent newest newer sent rest log since says (inl (inr more, order)) = inl (more, order)
  one_sent newest newer sent rest log since says (inr came) = inr (came_later newest newer came)

  all_sent : (newer : List Happening) (log : List Line) → (SendsTo to p [] × (now log ≤ limit)) ⊎ Came newer → Came newer
  all_sent newer log (inl waits) = absurd waits.0
  all_sent newer log (inr came) = came

  pending_leads : (newest : Happening) (newer : List Happening) → Before base newer
      → StepsLead s from (pending_besides newest newer) (pending_places newer) (pending_places (newest ∷ newer))
  pending_leads newest newer since =
      record {
        waits = λ log had came. came_later newest newer came;
        takes = λ log had tick q entry clock order makers came. came_later newest newer came;
        looks = λ log m tick own q clock looking order maker came. came_later newest newer came;
        kept = λ m tick own q known. tt;
        acts = λ log had came. came_later newest newer came;
        greets = λ log had loop_ms own live makers came. inr came;
        polls = λ sents log had known. still_pending newest newer sents log known;
        says = λ sent rest log had says known. one_sent newest newer sent rest log since says known;
        said = λ log had known. all_sent (newest ∷ newer) log known;
        stops = λ log had came. came;
        parts = λ log had came. came;
        ends = λ log came. came_later newest newer came;
      }

  -- so the turn of that tick goes on, or it was said
  pending_at : (newer : List Happening) (spot : Spot) → KnownAt (pending_places newer) spot → (now (log_at spot) ≤ limit) ⊎ Came newer
  pending_at newer (Receiving st) known = inr known
  pending_at newer (Looking chosen) known = inr known
  pending_at newer (Acting entry outs o rest st) known = inr known
  pending_at newer (Polling poll sents st) (inl waits) = inl waits.1
  pending_at newer (Polling poll sents st) (inr came) = inr came
  pending_at newer (Saying sent rest st) (inl waits) = inl waits.1
  pending_at newer (Saying sent rest st) (inr came) = inr came
  pending_at newer (Parting end sent rest st) known = inr known
  pending_at newer (Ended ran) known = inr known

module _ (s : Settings) (t : Timing) (worlds : EveryJointHasAWorld s t) (one : EachIsOneEvent s t) (back : HeadersReadBack) (laws : ClockLaws)
    (image : ℕ → List ℕ) (turn from to : ℕ) (newer older : List Happening) (joined : IsJoined s t image (newer ++ older)) (awake : StaysAwake s image turn from older (newer ++ older)) where
  pending_on : (limit : ℕ) (p : Packet) (base at : List Happening) → Before older base → Before base at → Before at (newer ++ older)
      → KnownAt (pending_places s image from to limit p base base) (host_after s image from base).stand.spot
      → KnownAt (pending_places s image from to limit p base at) (host_after s image from at).stand.spot
  pending_on limit p base at after Itself until known = known
  pending_on limit p base (newest ∷ at) after (Later same order) until known =
      up_leads s t image from newest at (pending_besides s image from to limit p base newest at) (pending_places s image from to limit p base at) (pending_places s image from to limit p base (newest ∷ at))
      (pending_leads s image from to limit p base newest at order)
      (step_of s t worlds one back laws image turn from newer older joined awake newest at (before_then after order) until)
      (λ chosen is tick told. tt) (λ look found. tt) (λ sent rest st is says. says) tt (any_maker (host_after s image from at).stand.spot)
      (pending_on limit p base at after order (before_tail until) known)

  -- what is left to send at a joint was said a turn later
  pub said_since : (p : Packet) (base at : List Happening) (sent : Sent) (rest : List Sent) (st : RunState) → Before older base → Before base at → Before at (newer ++ older)
      → (host_after s image from base).stand.spot ≡ Saying sent rest st → SendsTo to p (sent ∷ rest)
      → clock_at s image base from + turn < clock_at s image at from → SaidSince s image from to p base at
  said_since p base at sent rest st after order until is has passed =
      by_pending (pending_at s image from to (clock_at s image base from) p base at (host_after s image from at).stand.spot
      (pending_on (clock_at s image base from) p base at after order until
      (subst (KnownAt (pending_places s image from to (clock_at s image base from) p base base)) (sym is) (inl (has, read)))))
    where
      read : now st.log ≤ clock_at s image base from
      read =
          let before = read_of s t worlds one back laws image turn from newer older joined awake base after (before_then order until) in
          let same : now (log_at (host_after s image from base).stand.spot) ≡ now st.log = ap (λ (spot : Spot). now (log_at spot)) is in
          omega (arith, before, same)

      by_pending : (now (log_at (host_after s image from at).stand.spot) ≤ clock_at s image base from) ⊎ SaidSince s image from to p base at → SaidSince s image from to p base at
      by_pending (inr came) = came
      by_pending (inl early) = absurd (let paced = (awake at (before_then after order) until).turns in omega (arith, early, paced, passed))
