-- A leader finds those in company whose looks agree with its own.
use Rattle.std.proofs.Common.{◌≡◌, ℕ, ◌+◌, ◌*◌, ◌/◌, ◌<◌, ◌≤◌, Bool, true, false, not, ◌&&◌, ◌||◌, ◌==◌, List, ◌∷◌, ◌++◌, Option, None, Some, IfSome, length, if◌then◌else◌, refl, sym, ◌∙◌, ap, subst, arith}
use Rattle.std.specs.Prelude.{option_and_then, option_map}
use Rattle.std.specs.Option.{option_map_or, option_or}
use Rattle.std.proofs.lemmas.Bool.{eq-eqb, eqb-true, false≢true, or_left, or_right}
use Rattle.std.proofs.lemmas.Option.{same_Some}
use Rattle.qn_base.specs.declared.ids.Mask.{Mask}
use Rattle.qn_base.specs.declared.ids.Rank.{Rank}
use Rattle.qn_base.specs.declared.ids.Said.{Said}
use Rattle.qn_base.specs.declared.ids.Standing.{Standing}
use Rattle.qn_base.specs.declared.ids.View.{View}
use Rattle.qn_base.specs.Members.{is_member}
use Rattle.qn_model.specs.declared.configuration.Settings.{Settings}
use Rattle.qn_model.specs.declared.packets.Packet.{Packet}
use Rattle.qn_model.specs.declared.packets.Packet.TheVariants as packet
use Rattle.qn_model.specs.declared.times.Timing.{Timing}
use Rattle.qn_model.specs.Moments.{Before, Later}
use Rattle.qn_model.specs.Wanted.{rank_of}
use Rattle.qn_member.specs.Maker.{Maker, company_at, followed, follows_other, installed_beside, is_visible, leader_at, least_of, led_by, looked, of_rank, visible_nodes}
use Rattle.qn_member.specs.Naming.{NamingMaker, follows_follower, followed_by_name, is_led_by_name, is_own, knows_all, knows_bit, leader_by_name, led_by_name}
use Rattle.qn_member.specs.NamingViews.{after_look, company_now, facts_seen, followed_now, looked_by_name, said_by_name, seeing_names, view_announced, view_by_name}
use Rattle.qn_safety.specs.Earlier.{before_tail, before_then}
use Rattle.qn_joined.specs.Joints.{Happening, IsJoined, joint_after}
use Rattle.qn_joined.specs.Moves.{EachIsOneEvent}
use Rattle.qn_joined.specs.WorldOf.{EveryJointHasAWorld}
use Rattle.qn_service.specs.Leaders.{CompaniesAreFound, FindsLeader, IsFollowing, LooksAgree, found_ticks}
use Rattle.qn_service.specs.Hellos.{IsHeardBy, SaidHello, Says, StaysAwake, WasSaid, beat_ticks, hello_ticks, packet_to_hear}
use Rattle.qn_service.specs.Leading.{company_then, leader_then, names_then}
use Rattle.qn_service.specs.Looks.{LookOf, look_of}
use Rattle.qn_service.specs.NextLooks.{look_of_rank}
use Rattle.qn_service.specs.Serving.{clock_at}
use Rattle.qn_service.proofs.Agreeing.{set_alike}
use Rattle.qn_service.proofs.ByTheImage.{HeadersReadBack}
use Rattle.qn_service.proofs.Company.{after_look_is}
use Rattle.qn_service.proofs.FreshHellos.{KnowsWord, SaysSo}
use Rattle.qn_service.proofs.JointClocks.{ClockLaws}
use Rattle.qn_service.proofs.Least.{rank_again}
use Rattle.qn_service.proofs.LogViews.{looks_know_names}
use Rattle.qn_service.proofs.Made.{filtered, if_is, looked_notes}
use Rattle.qn_service.proofs.NearLooks.{LastBefore, SaysSoFrom, heard_it, hello, knows, mid, still_late}
use Rattle.qn_service.proofs.Ranks.{fails_out, passes_in}
use Rattle.qn_service.proofs.RankSteps.{host_after}
use Rattle.qn_service.proofs.SaidNames.{due_says}
use Rattle.qn_service.proofs.Telling.{EachSays, Telling, greetings_say, says_late}
use Rattle.qn_service.proofs.SeenLooks.{looked_late}
use Rattle.qn_service.proofs.Waking.{IsLate, clocks_of, own_of_look, time_grows}

-- ## Whom a node follows

-- what a Hello says is that its node follows this one, or nobody
abbrev pub FollowsOnly : ℕ → Said → Type 0
FollowsOnly leader said = IfSome said.follows (λ rank. rank.0 ≡ leader)

-- who follows somebody is led by that one
follows_leader : (leader : ℕ) (followed least : Option ℕ) → option_or followed least ≡ Some leader → IfSome (option_map (λ rank. record { 0 = rank }) followed) (λ (rank : Rank). rank.0 ≡ leader)
follows_leader leader None least leads = tt
follows_leader leader (Some rank) least leads = same_Some rank leader leads

-- after a look a node says that it follows its leader, or nobody
look_follows : (tick leader : ℕ) (m : NamingMaker) → is_own m knows_bit ≡ true → leader_then tick m ≡ Some leader → FollowsOnly leader (after_look tick m).maker.says
look_follows tick leader m knows leads =
    subst (λ (said : Said). FollowsOnly leader said) (sym says) (follows_leader leader (followed_now (seeing_names tick m)) (least_of m.maker (visible_nodes tick m.maker)) led)
  where
    installs : (company : Mask) (found : Option View) (k : Maker) → (installed_beside company found k).says ≡ k.says
    installs company None k = refl
    installs company (Some view) k = refl

    says : (after_look tick m).maker.says ≡ said_by_name tick (seeing_names tick m)
    says =
        ap (λ (k : Maker). k.says) (after_look_is tick m knows)
        ∙ installs (company_now (seeing_names tick m)) (view_by_name tick m) (looked_by_name tick m).maker
        ∙ ap (λ (k : Maker). k.says) (looked_notes tick m)

    led : option_or (followed_now (seeing_names tick m)) (least_of m.maker (visible_nodes tick m.maker)) ≡ Some leader
    led =
        ap (λ o. option_or o (least_of m.maker (visible_nodes tick m.maker))) (sym (rank_again (followed_now (seeing_names tick m))))
        ∙ ap led_by (sym (looked_notes tick m))
        ∙ sym (if_is true (is_own m knows_bit) (led_by (looked_by_name tick m).maker) (leader_at (looked tick m.maker)) knows)
        ∙ leads

abbrev HelloFollows : ℕ → Packet → Type 0
HelloFollows leader p = (from : Rank) (said : Said) (standing : Standing) → p ≡ packet.Heard from said standing → FollowsOnly leader said

pub hello_follows : (leader rank : ℕ) (m : NamingMaker) → FollowsOnly leader m.maker.says → HelloFollows leader (packet.Heard (rank_of rank) m.maker.says m.stands)
hello_follows leader rank m holds from said standing is = let same : m.maker.says ≡ said = cc in subst (λ (words : Said). FollowsOnly leader words) same holds

pub none_follows : (leader rank : ℕ) (announced : Option View) → IfSome announced (λ view. HelloFollows leader (packet.Announce (rank_of rank) view))
none_follows leader rank None = tt
none_follows leader rank (Some view) = λ from said standing is. absurd cc

-- so do its Hellos
abbrev follows_telling : (s : Settings) (leader rank : ℕ) → Telling s rank
follows_telling s leader rank =
    record {
      holds = λ m. FollowsOnly leader m.maker.says;
      sends = EachSays (HelloFollows leader);
      due = λ tick m holds. subst (λ (said : Said). FollowsOnly leader said) (sym (due_says tick m)) holds;
      none = tt;
      greets = λ m holds. greetings_say s rank (HelloFollows leader) m (hello_follows leader rank m holds) (none_follows leader rank (view_announced m));
      rest = λ sent more so. so.1;
    }

-- ## Whom a leader leads

-- a node of which the last Hello says so follows no other than the leader
none_other : (m : Maker) (rank : ℕ) (said : Said) → of_rank m.said rank ≡ Some said → FollowsOnly m.me said → follows_other m rank ≡ false
none_other m rank said known follows =
    ap (λ (o : Option Said). option_map_or (λ (leader : Rank). not (leader.0 == m.me)) (option_and_then (λ (w : Said). w.follows) o) false && not (is_member m.forgotten rank)) known
    ∙ by_follows said.follows follows
  where
    by_follows : (o : Option Rank) → IfSome o (λ leader. leader.0 ≡ m.me) → (option_map_or (λ (leader : Rank). not (leader.0 == m.me)) o false && not (is_member m.forgotten rank)) ≡ false
    by_follows None follows = refl
    by_follows (Some leader) follows = ap (λ b. not b && not (is_member m.forgotten rank)) (eq-eqb leader.0 m.me follows)

-- a leader that sees just these, of which none follows another one, finds them in company
module _ (set : Mask) (tick : ℕ) (m : NamingMaker) (knows : is_own m knows_bit ≡ true) (sees : visible_nodes tick m.maker ≡ set) (names : names_then tick m ≡ true)
    (leads : leader_then tick m ≡ Some m.maker.me)
    (words : (rank : ℕ) → is_member set rank ≡ true → (rank ≡ m.maker.me → ⊥) → KnowsWord rank (FollowsOnly m.maker.me) m.maker.said) where
  abbrev k : NamingMaker
  k = seeing_names tick m

  leader_is : leader_by_name (seeing_names tick m) (facts_seen (seeing_names tick m)) ≡ Some m.maker.me
  leader_is =
      ap (λ o. option_or o (least_of m.maker (visible_nodes tick m.maker)))
      (sym (if_is true (knows_all (seeing_names tick m) (seeing_names tick m).maker.seen) (followed_by_name (seeing_names tick m) (facts_seen (seeing_names tick m)))
      (followed (seeing_names tick m).maker (seeing_names tick m).maker.seen) names)
      ∙ sym (rank_again (followed_now (seeing_names tick m))))
      ∙ ap led_by (sym (looked_notes tick m))
      ∙ sym (if_is true (is_own m knows_bit) (led_by (looked_by_name tick m).maker) (leader_at (looked tick m.maker)) knows)
      ∙ leads

  led_so : (rank : ℕ) → is_led_by_name (seeing_names tick m) rank ≡ (rank == m.maker.me || is_member (visible_nodes tick m.maker) rank)
  led_so rank = by_own (rank == m.maker.me) refl
    where
      seen_case : (seen : Bool) → is_member (visible_nodes tick m.maker) rank ≡ seen → (rank == m.maker.me) ≡ false
          → (seen && (not (follows_other (seeing_names tick m).maker rank) || follows_follower (seeing_names tick m).maker rank)) ≡ seen
      seen_case false out other = refl
      seen_case true here other =
          let word = words rank (ap (λ (v : Mask). is_member v rank) (sym sees) ∙ here) (λ same. false≢true (sym other ∙ eq-eqb rank m.maker.me same)) in
          ap (λ b. not b || follows_follower (seeing_names tick m).maker rank) (none_other (seeing_names tick m).maker rank word.said word.is word.so)

      by_own : (b : Bool) → (rank == m.maker.me) ≡ b
          → (b || is_member (visible_nodes tick m.maker) rank && (not (follows_other (seeing_names tick m).maker rank) || follows_follower (seeing_names tick m).maker rank))
          ≡ (b || is_member (visible_nodes tick m.maker) rank)
      by_own true is = refl
      by_own false other = seen_case (is_member (visible_nodes tick m.maker) rank) refl other

  visible_so : (rank : ℕ) → rank < length m.maker.nodes → (rank == m.maker.me || is_member (visible_nodes tick m.maker) rank) ≡ is_visible tick m.maker rank
  visible_so rank under = by_visible (is_visible tick m.maker rank) refl
    where
      by_own : (b : Bool) → (rank == m.maker.me) ≡ b → is_visible tick m.maker rank ≡ false → is_member (visible_nodes tick m.maker) rank ≡ false → (b || is_member (visible_nodes tick m.maker) rank) ≡ false
      by_own true own out none = absurd (false≢true (sym out ∙ or_left (rank == m.maker.me) _ own))
      by_own false own out none = none

      by_visible : (b : Bool) → is_visible tick m.maker rank ≡ b → (rank == m.maker.me || is_member (visible_nodes tick m.maker) rank) ≡ b
      by_visible true is =
          or_right (rank == m.maker.me) _ (passes_in (is_visible tick m.maker) (length m.maker.nodes) rank under is)
      by_visible false is = by_own (rank == m.maker.me) refl is (fails_out (is_visible tick m.maker) (length m.maker.nodes) rank is)

  led_is : led_by_name (seeing_names tick m) ≡ visible_nodes tick m.maker
  led_is = set_alike (is_led_by_name (seeing_names tick m)) (is_visible tick m.maker) (length m.maker.nodes) (λ rank under. led_so rank ∙ visible_so rank under)

  pub company_is : company_then tick m ≡ set
  company_is =
      if_is true (is_own m knows_bit) (company_now (seeing_names tick m)) (company_at (looked tick m.maker)) knows
      ∙ if_is true (knows_all (seeing_names tick m) (seeing_names tick m).maker.seen) _ (company_at (seeing_names tick m).maker) names
      ∙ ap (λ o. if option_map_or (λ leader. leader == m.maker.me) o false then led_by_name (seeing_names tick m) else visible_nodes tick m.maker) leader_is
      ∙ ap (λ b. if b then led_by_name (seeing_names tick m) else visible_nodes tick m.maker) (eq-eqb m.maker.me m.maker.me refl)
      ∙ led_is ∙ sees

-- ## From joint to joint

-- a Hello that was said so short a time before is late enough
said_late : (beat turn post gaze from_said from_mid to_mid to_new time_first time_said time_mid time_new : ℕ)
    → 99 * time_mid + from_said ≤ from_mid + 99 * time_said
    → 99 * time_new + to_mid ≤ to_new + 99 * time_mid
    → from_mid / 100 ≤ from_said / 100 + beat
    → to_new / 100 ≤ to_mid / 100 + post + turn
    → 100 * ((beat + turn + post + 4) + gaze + post + 6) + 99 * time_first ≤ 99 * time_new
    → 100 * (gaze + post + 4) + 99 * time_first ≤ 99 * time_said
said_late beat turn post gaze from_said from_mid to_mid to_new time_first time_said time_mid time_new first second lately close late =
    omega (arith, first, second, lately, close, late)

found_first : (ticks gaze post time_first time_new : ℕ) → 100 * (ticks + gaze + post + 6) + 99 * time_first ≤ 99 * time_new → 100 * ticks + 99 * time_first ≤ 99 * time_new
found_first ticks gaze post time_first time_new late = omega (arith, late)

said_less : (gaze post time_first time_new : ℕ) → 100 * (gaze + post + 4) + 99 * time_first ≤ 99 * time_new → 100 * (gaze + 2) + 99 * time_first ≤ 99 * time_new
said_less gaze post time_first time_new late = omega (arith, late)

said_more : (gaze post time_first time_new : ℕ) → 100 * (gaze + post + 4) + 99 * time_first ≤ 99 * time_new → 100 * (gaze + 2 + post + 2) + 99 * time_first ≤ 99 * time_new
said_more gaze post time_first time_new late = omega (arith, late)

module _ (s : Settings) (t : Timing) (worlds : EveryJointHasAWorld s t) (one : EachIsOneEvent s t) (back : HeadersReadBack) (laws : ClockLaws)
    (image : ℕ → List ℕ) (turn post gaze : ℕ) (set : Mask) (leader : ℕ) (newer older : List Happening) (joined : IsJoined s t image (newer ++ older))
    (agree : LooksAgree s t image turn post gaze set leader older (newer ++ older)) where
  abbrev all : List Happening
  all = newer ++ older

  module _ (at : List Happening) (happening : Happening) (look : LookOf) (since : Before older at) (until : Before (happening ∷ at) all)
      (found : look_of_rank s image leader happening at ≡ Some look) (late : IsLate s image (found_ticks t turn post gaze) older at) where
    late_first : IsLate s image (hello_ticks t turn post) older at
    late_first = found_first (hello_ticks t turn post) gaze post (joint_after s image older).time (joint_after s image at).time late

    -- the last Hello of another one says so
    module _ (rank : ℕ) (member : is_member set rank ≡ true) (other : rank ≡ leader → ⊥) where
      abbrev following : IsFollowing s t image turn post gaze rank leader older all
      following = agree.follows rank member other

      abbrev middle : LastBefore s t worlds one back laws image turn post rank leader newer older joined following.near (clock_at s image at leader) at
      middle = mid s t worlds one back laws image turn post rank leader newer older joined following.near at happening look since until found late_first

      abbrev last : SaidHello s image rank leader (beat_ticks t turn) older middle.at
      last = hello s t worlds one back laws image turn post rank leader newer older joined following.near at happening look since until found late_first

      abbrev came : IsHeardBy s image leader (packet.Heard (rank_of rank) last.said last.standing) (clock_at s image last.at leader + post) (last.happening ∷ last.at) all
      came = heard_it s t worlds one back laws image turn post rank leader newer older joined following.near at happening look since until found late_first

      mid_all : Before middle.at all
      mid_all = before_then middle.until (before_tail until)

      -- what it says late says so
      says_so : (said : Said) (standing : Standing) (newest : Happening) (h : List Happening) → Before older h → Before (newest ∷ h) all
          → Says s image rank leader (packet.Heard (rank_of rank) said standing) newest h → IsLate s image (gaze + 2) older h → FollowsOnly leader said
      says_so said standing newest h after before says late_then =
          (says_late s t worlds one back laws image turn gaze rank newer older joined following.near.sender following.looks (follows_telling s leader rank)
          (λ b n l a u f. look_follows l.tick leader l.maker
          (looks_know_names s image n b l joined.fits.few (subst (λ r. r < length s.nodes) (sym (rank_is n b l f)) following.near.configured.0)
          (filtered (λ (x : LookOf). x.rank == rank) (look_of s image n b) l f).0)
          ((agree.finds rank member b n l a u f).leads))
          leader (packet.Heard (rank_of rank) said standing) newest h after before says late_then).sends.0 (rank_of rank) said standing refl
        where
          rank_is : (n : Happening) (b : List Happening) (l : LookOf) → look_of_rank s image rank n b ≡ Some l → l.rank ≡ rank
          rank_is n b l f = eqb-true l.rank rank (filtered (λ (x : LookOf). x.rank == rank) (look_of s image n b) l f).1

      late_said : IsLate s image (gaze + post + 4) older last.at
      late_said =
          said_late (beat_ticks t turn) turn post gaze (host_after s image rank last.at).clock (host_after s image rank middle.at).clock (host_after s image leader middle.at).clock
          (host_after s image leader at).clock (joint_after s image older).time (joint_after s image last.at).time (joint_after s image middle.at).time (joint_after s image at).time
          (clocks_of s t worlds one back laws image turn rank newer older joined following.near.sender last.at middle.at last.after (before_tail last.back) mid_all).slow
          (clocks_of s t worlds one back laws image turn leader newer older joined following.near.hearer middle.at at middle.since middle.until (before_tail until)).slow
          last.soon middle.close late

      last_so : FollowsOnly leader last.said
      last_so =
          says_so last.said last.standing last.happening last.at last.after (before_then last.back mid_all) last.says
          (said_less gaze post (joint_after s image older).time (joint_after s image last.at).time late_said)

      base_since : Before older (came.happening ∷ came.at)
      base_since = Later came.happening (before_then (Later last.happening last.after) came.after)

      hears_so : (h : List Happening) → Before (came.happening ∷ came.at) h → Before h all → SaysSo rank (FollowsOnly leader) (packet_to_hear s image leader h)
      hears_so h order back_h said standing comes =
          says_so said standing own.happening own.at own.after (before_then own.back back_h) own.says
          (looked_late (gaze + 2) post (host_after s image leader own.at).clock (host_after s image leader h).clock (joint_after s image older).time
          (joint_after s image own.at).time (joint_after s image h).time
          (clocks_of s t worlds one back laws image turn leader newer older joined following.near.hearer own.at h own.after (before_tail own.back) back_h).slow own.soon
          (said_more gaze post (joint_after s image older).time (joint_after s image h).time late_then))
        where
          own : WasSaid s image rank leader post said standing older h
          own = following.own h said standing (before_then base_since order) back_h comes

          late_then : IsLate s image (gaze + post + 4) older h
          late_then =
              still_late (gaze + post + 4) (joint_after s image older).time (joint_after s image last.at).time (joint_after s image h).time
              (time_grows s t worlds one back laws image turn leader newer older joined following.near.hearer last.at h last.after
              (before_then (before_tail came.after) (before_tail order)) back_h) late_said

      all_so : SaysSoFrom s t worlds one back laws image turn post rank leader newer older joined following.near (FollowsOnly leader) (came.happening ∷ came.at)
      all_so h order back_h = (hears_so h order back_h, λ comes. tt)

      pub word_is : KnowsWord rank (FollowsOnly leader) look.maker.maker.said
      word_is =
          (knows s t worlds one back laws image turn post rank leader newer older joined following.near at happening look since until found late_first (FollowsOnly leader)
          (λ none. (tt, tt)) last_so all_so).word

    -- and so it finds all of them
    pub company_found : (leader < length s.nodes) → StaysAwake s image turn leader older all → is_member set leader ≡ true → company_then look.tick look.maker ≡ set
    company_found under awake member =
        company_is set look.tick look.maker knows_names finds.sees finds.names (finds.leads ∙ ap Some (sym own))
        (λ rank other_member apart. subst (λ r. KnowsWord rank (FollowsOnly r) look.maker.maker.said) (sym own) (word_is rank other_member (λ same. apart (same ∙ sym own))))
      where
        parts : (look_of s image happening at ≡ Some look) × ((look.rank == leader) ≡ true)
        parts = filtered (λ (l : LookOf). l.rank == leader) (look_of s image happening at) look found

        own : look.maker.maker.me ≡ leader
        own = own_of_look s t worlds one back laws image turn leader newer older joined awake under happening at look since until found

        knows_names : is_own look.maker knows_bit ≡ true
        knows_names = looks_know_names s image happening at look joined.fits.few (subst (λ r. r < length s.nodes) (sym (eqb-true look.rank leader parts.1)) under) parts.0

        finds : FindsLeader set leader look
        finds = agree.finds leader member at happening look since until found

pub companies_are_found : (s : Settings) (t : Timing) → EveryJointHasAWorld s t → EachIsOneEvent s t → HeadersReadBack → ClockLaws → CompaniesAreFound s t
companies_are_found s t worlds one back laws image turn post gaze set leader newer older at happening look joined agree awake member since until found late =
    company_found s t worlds one back laws image turn post gaze set leader newer older joined agree at happening look since until found late awake.0 awake.1 member
