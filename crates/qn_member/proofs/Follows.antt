-- Who follows whom: the view of a leader is taken, and one Hello counts on one side.
use Rattle.std.proofs.Common.{arith, ◌≡◌, ◌≢◌, ℕ, ◌≤◌, ◌<◌, Bool, true, false, not, List, [], ◌∷◌, length, Option, Some, None, IfSome, refl, sym, ap, ◌∙◌, subst, ◌==◌, ◌&&◌, if◌then◌else◌, ◌⊎◌, inl, inr, nat_lt, ◌||◌, nat_le}
use Rattle.qn_member.proofs.Companies.{leader_within}
use Rattle.qn_model.specs.Votes.{votes_among}
use Rattle.qn_model.specs.LeastMembers.{least_from-some}
use Rattle.std.specs.Option.{option_map_or, option_or, option_map}
use Rattle.std.specs.Prelude.{option_and_then}
use Rattle.std.proofs.lemmas.Bool.{false≢true, and_cases, and_left, and_parts, and_right, lt-ltb, ltb-true, ne_eqb, not-false, not-true, or_cases, and_from, or_left, le-leb, leb-true, eq-eqb, cases_eq}
use Rattle.std.proofs.lemmas.Bool.Decides.{Decides-eqb, nat_tests}
use Rattle.qn_base.specs.declared.ids.Mask.{Mask}
use Rattle.qn_base.specs.declared.ids.Rank.{Rank}
use Rattle.qn_base.specs.declared.ids.View.{View}
use Rattle.qn_base.specs.Members.{is_member}
use Rattle.qn_base.specs.lemmas.Masks.{empty_has_none}
use Rattle.qn_model.specs.NodeVotes.{is_same_view}
use Rattle.qn_model.specs.declared.nodelist.NodeEntry.{NodeEntry}
use Rattle.qn_model.specs.declared.configuration.Settings.{Settings}
use Rattle.qn_base.specs.declared.ids.Said.{Said}
use Rattle.qn_member.specs.Announcing.{is_hello_due}
use Rattle.qn_member.specs.Maker.{Maker, able_nodes, after_hello, after_tick, company_at, enough_of, first_maker, followed, followed_view, follows_of, follows_other, forgotten_nodes, has_configured, installed, is_configured, is_forgotten, is_forgotten_beside, is_heard, is_led, is_missed, is_taken, leader_at, least_of, looked, may_install, may_lead, of_rank, own_view, plain, ranks_that, said_at, says_more, seeing, view_at, view_under, visible_nodes, upper_nodes, is_upper, is_visible, is_able}
use Rattle.qn_member.specs.MakerCalls.{Announce, Due, Hello, Look, MakerCall, MakerRun, PlainHello, after_calls, company_of, first_of, last_said, leader_found, maker_of}
use Rattle.qn_member.specs.Following.{HasLost, LeadsAble, LeadsLeast, Loses, Makes, last_says, last_seen, IsFollower, FollowsItself, FollowsItselfIs, SameWord, SameWordIs}
use Rattle.qn_model.specs.lemmas.LeastRanks.{least_below, least_bound, least_none, least_passes}
use Rattle.qn_member.proofs.Calls.{same_set}
use Rattle.qn_member.proofs.Heard.{Kept, greeted, kept_calls, said_by_calls, still_announce, still_due, still_hello, still_plain, told}
use Rattle.qn_member.proofs.Owning.{company_is, own_views_by_calls, led_above}
use Rattle.qn_member.proofs.Ranks.{member_of-ranks_that, ranks_that-same}

-- ## The view of a leader

pub takes_view : (run : MakerRun) (tick leader : ℕ) (view : View) → leader_found tick (maker_of run) ≡ Some leader → leader ≢ run.me
    → of_rank (maker_of run).announced leader ≡ Some view → is_member view.members run.me ≡ true → is_member view.members leader ≡ true
    → may_install tick (looked tick (maker_of run)) (company_of tick (maker_of run)) ≡ true
    → (after_tick tick (maker_of run)).view ≡ Some view
unfolding after_tick view_at
takes_view run tick leader view leads other announced has_me has_leader may = by_test (option_map_or (λ present. is_same_view present view) (maker_of run).view false) refl
  where
    kept : Kept run.settings.nodes run.me run.loop_ms (enough_of run.settings) (maker_of run)
    kept = kept_calls run.settings run.me run.loop_ms run.calls

    not_me : (leader == (maker_of run).me) ≡ false
    not_me = ap (λ n. leader == n) kept.me ∙ ne_eqb leader run.me other

    view_is : view_at tick (maker_of run) ≡ (if is_taken (looked tick (maker_of run)) leader view then Some view else None)
    view_is =
        ap (λ b. if b then option_and_then (view_under tick (looked tick (maker_of run)) (company_of tick (maker_of run))) (leader_at (looked tick (maker_of run))) else None) may
        ∙ ap (λ (o : Option ℕ). option_and_then (view_under tick (looked tick (maker_of run)) (company_of tick (maker_of run))) o) leads
        ∙ ap (λ b. if b then own_view tick (looked tick (maker_of run)) (company_of tick (maker_of run)) else followed_view (looked tick (maker_of run)) leader) not_me
        ∙ ap (λ (o : Option View). option_and_then (λ v. if is_taken (looked tick (maker_of run)) leader v then Some v else None) o) announced

    taken_is : (same : Bool) → option_map_or (λ present. is_same_view present view) (maker_of run).view false ≡ same
        → is_taken (looked tick (maker_of run)) leader view ≡ not same
    taken_is same is =
        ap (λ n. is_member view.members n && is_member view.members leader && not (option_map_or (λ present. is_same_view present view) (maker_of run).view false)) kept.me
        ∙ ap (λ b. b && is_member view.members leader && not (option_map_or (λ present. is_same_view present view) (maker_of run).view false)) has_me
        ∙ ap (λ b. b && not (option_map_or (λ present. is_same_view present view) (maker_of run).view false)) has_leader
        ∙ ap not is

    present_is : (present : Option View) → option_map_or (λ p. is_same_view p view) present false ≡ true → present ≡ Some view
    present_is None is = absurd (false≢true is)
    present_is (Some p) is =
        let parts = and_parts (p.id == view.id) (p.members.0 == view.members.0) is in
        let id : p.id ≡ view.id = (Decides-eqb p.id view.id).0 parts.0 in
        let members : p.members ≡ view.members = same_set p.members view.members parts.1 in
        ap (λ (n : ℕ). Some (record { id = n; members = p.members })) id ∙ ap (λ (v : Mask). Some (record { id = view.id; members = v })) members

    by_test : (same : Bool) → option_map_or (λ present. is_same_view present view) (maker_of run).view false ≡ same → (after_tick tick (maker_of run)).view ≡ Some view
    by_test false is =
        ap (λ (o : Option View). (installed o (looked tick (maker_of run))).view) (view_is ∙ ap (λ b. if b then Some view else None) (taken_is false is))
    by_test true is =
        ap (λ (o : Option View). (installed o (looked tick (maker_of run))).view) (view_is ∙ ap (λ b. if b then Some view else None) (taken_is true is))
        ∙ present_is (maker_of run).view is

-- ## One Hello on one side

-- who is in company follows nobody, by its last Hello, or this node, or it is forgotten whom
pub follows_in_company : (run : MakerRun) (tick rank : ℕ) (said : Said) → length run.settings.nodes ≤ 32 → rank ≢ run.me → leader_found tick (maker_of run) ≡ Some run.me
    → is_member (company_of tick (maker_of run)) rank ≡ true → last_said run rank ≡ Some said
    → (is_member (looked tick (maker_of run)).forgotten rank ≡ true) ⊎ ((said.follows ≡ None) ⊎ IfSome said.follows (λ leader. leader.0 ≡ run.me))
follows_in_company run tick rank said few other own in_company says = by_led (or_cases (rank == l.me) _ led.1)
  where
    l : Maker
    l = looked tick (maker_of run)

    kept : Kept run.settings.nodes run.me run.loop_ms (enough_of run.settings) (maker_of run)
    kept = kept_calls run.settings run.me run.loop_ms run.calls

    leads : leader_found tick (maker_of run) ≡ Some (maker_of run).me
    leads = own ∙ ap Some (sym kept.me)

    led : (nat_lt rank (length l.nodes) ≡ true) × (is_led l l.seen rank ≡ true)
    led =
        and_parts _ _ (sym (member_of-ranks_that (is_led l l.seen) (length l.nodes) rank)
        ∙ subst (λ (c : Mask). is_member c rank ≡ true) (company_is l leads) in_company)

    configured : rank < length run.settings.nodes
    configured = ltb-true rank (length run.settings.nodes) (ap (λ (n : List NodeEntry). nat_lt rank (length n)) (sym kept.nodes) ∙ led.0)

    follows_is : follows_of l rank ≡ said.follows
    follows_is = ap (λ (o : Option Said). option_and_then (λ said. said.follows) o) (said_by_calls run rank configured few ∙ says)

    by_follows : (found : Option Rank) → option_map_or (λ leader. not (leader.0 == l.me)) found false ≡ false → (found ≡ None) ⊎ IfSome found (λ leader. leader.0 ≡ run.me)
    by_follows None is = inl refl
    by_follows (Some leader) is = inr ((Decides-eqb leader.0 l.me).0 (not-false (leader.0 == l.me) is) ∙ kept.me)

    by_other : (option_map_or (λ leader. not (leader.0 == l.me)) (follows_of l rank) false ≡ false) ⊎ (not (is_member l.forgotten rank) ≡ false)
        → (is_member l.forgotten rank ≡ true) ⊎ ((said.follows ≡ None) ⊎ IfSome said.follows (λ leader. leader.0 ≡ run.me))
    by_other (inl here) = inr (by_follows said.follows (ap (λ (o : Option Rank). option_map_or (λ leader. not (leader.0 == l.me)) o false) (sym follows_is) ∙ here))
    by_other (inr lost) = inl (not-false (is_member l.forgotten rank) lost)

    by_led : ((rank == l.me) ≡ true) ⊎ ((is_member l.seen rank && nat_lt l.me rank && not (follows_other l rank)) ≡ true)
        → (is_member l.forgotten rank ≡ true) ⊎ ((said.follows ≡ None) ⊎ IfSome said.follows (λ leader. leader.0 ≡ run.me))
    by_led (inl own) = absurd (other ((Decides-eqb rank l.me).0 own ∙ kept.me))
    by_led (inr upper) =
        by_other (and_cases (option_map_or (λ leader. not (leader.0 == l.me)) (follows_of l rank) false) (not (is_member l.forgotten rank))
        (not-true (follows_other l rank) (and_parts (is_member l.seen rank && nat_lt l.me rank) (not (follows_other l rank)) upper).1))

-- so does a member of an own view that is heard
follows_here : (run : MakerRun) (tick rank : ℕ) (view : View) (said : Said) → length run.settings.nodes ≤ 32 → rank ≢ run.me → Makes run tick view
    → is_member view.members rank ≡ true → is_heard tick (maker_of run) rank ≡ true → last_said run rank ≡ Some said
    → (is_member (looked tick (maker_of run)).forgotten rank ≡ true) ⊎ ((said.follows ≡ None) ⊎ IfSome said.follows (λ leader. leader.0 ≡ run.me))
follows_here run tick rank view said few other makes member heard says = follows_in_company run tick rank said few other makes.0 in_company says
  where
    l : Maker
    l = looked tick (maker_of run)

    leads : leader_found tick (maker_of run) ≡ Some (maker_of run).me
    leads = makes.0 ∙ ap Some (sym (kept_calls run.settings run.me run.loop_ms run.calls).me)

    by_kept : (is_member (company_at l) rank ≡ true) ⊎ ((is_missed tick l (company_at l) rank && not (is_heard tick l rank)) ≡ true) → is_member (company_at l) rank ≡ true
    by_kept (inl in_it) = in_it
    by_kept (inr in_doubt) =
        let unheard = (and_parts (is_missed tick l (company_at l) rank) (not (is_heard tick l rank)) in_doubt).1 in
        absurd (false≢true (sym (not-true (is_heard tick l rank) unheard) ∙ heard))

    in_company : is_member (company_at l) rank ≡ true
    in_company = by_kept (or_cases (is_member (company_at l) rank) _ ((own_views_by_calls run tick view leads makes.1).members rank member))

pub one_side : (one other : MakerRun) (tick other_tick rank : ℕ) (a b : View) (said : Said)
    → length one.settings.nodes ≤ 32 → length other.settings.nodes ≤ 32
    → one.me ≢ other.me → rank ≢ one.me → rank ≢ other.me
    → Makes one tick a → Makes other other_tick b
    → is_member a.members rank ≡ true → is_member b.members rank ≡ true
    → is_heard tick (maker_of one) rank ≡ true → is_heard other_tick (maker_of other) rank ≡ true
    → last_said one rank ≡ Some said → last_said other rank ≡ Some said
    → (said.follows ≡ None) ⊎ ((is_member (looked tick (maker_of one)).forgotten rank ≡ true) ⊎ (is_member (looked other_tick (maker_of other)).forgotten rank ≡ true))
one_side one other tick other_tick rank a b said few_one few_other apart not_one not_other makes_a makes_b in_a in_b heard_one heard_other says_one says_other =
    by_both
    (follows_here one tick rank a said few_one not_one makes_a in_a heard_one says_one)
    (follows_here other other_tick rank b said few_other not_other makes_b in_b heard_other says_other)
  where
    by_follows : (found : Option Rank) → IfSome found (λ leader. leader.0 ≡ one.me) → IfSome found (λ leader. leader.0 ≡ other.me) → found ≡ None
    by_follows None first second = refl
    by_follows (Some leader) first second = absurd (apart (sym first ∙ second))

    by_both : (is_member (looked tick (maker_of one)).forgotten rank ≡ true) ⊎ ((said.follows ≡ None) ⊎ IfSome said.follows (λ leader. leader.0 ≡ one.me))
        → (is_member (looked other_tick (maker_of other)).forgotten rank ≡ true) ⊎ ((said.follows ≡ None) ⊎ IfSome said.follows (λ leader. leader.0 ≡ other.me))
        → (said.follows ≡ None) ⊎ ((is_member (looked tick (maker_of one)).forgotten rank ≡ true) ⊎ (is_member (looked other_tick (maker_of other)).forgotten rank ≡ true))
    by_both (inl lost) second = inr (inl lost)
    by_both (inr first) (inl lost) = inr (inr lost)
    by_both (inr (inl none)) (inr second) = inl none
    by_both (inr (inr first)) (inr (inl none)) = inl none
    by_both (inr (inr first)) (inr (inr second)) = inl (by_follows said.follows first second)

-- ## What is forgotten

-- one who is forgotten after a look is lost at it, or was forgotten before
forgotten_look : (tick rank : ℕ) (m : Maker) → is_member (forgotten_nodes m (visible_nodes tick m)) rank ≡ true
    → Loses rank tick m ⊎ (is_member m.forgotten rank ≡ true)
forgotten_look tick rank m member =
    let parts = and_parts _ _ (sym (member_of-ranks_that (is_forgotten m (visible_nodes tick m)) (length m.nodes) rank) ∙ member) in
    by_case (or_cases (is_member m.forgotten rank) _ parts.1)
  where
    by_follows : (found : Option Rank) → option_map_or (λ leader. is_member m.seen leader.0 && not (is_member (visible_nodes tick m) leader.0)) found false ≡ true
        → (leader : ℕ) × (IfSome found (λ it. it.0 ≡ leader)) × (is_member m.seen leader ≡ true) × (is_member (visible_nodes tick m) leader ≡ false)
    by_follows None is = absurd (false≢true is)
    by_follows (Some leader) is =
        let parts = and_parts (is_member m.seen leader.0) (not (is_member (visible_nodes tick m) leader.0)) is in
        (leader.0, refl, parts.0, not-true (is_member (visible_nodes tick m) leader.0) parts.1)

    by_case : (is_member m.forgotten rank ≡ true)
        ⊎ (option_map_or (λ leader. is_member m.seen leader.0 && not (is_member (visible_nodes tick m) leader.0)) (follows_of m rank) false ≡ true)
        → Loses rank tick m ⊎ (is_member m.forgotten rank ≡ true)
    by_case (inl was) = inr was
    by_case (inr lost) = inl (by_follows (follows_of m rank) lost)

forgotten_after : (tick : ℕ) (found : Option View) (m : Maker) → (installed found (looked tick m)).forgotten ≡ forgotten_nodes m (visible_nodes tick m)
forgotten_after tick None m = refl
forgotten_after tick (Some view) m = refl

-- a Hello that is taken in is of another node
forgotten_hello : (tick from rank : ℕ) (said : Said) (m : Maker) (b : Bool) → is_configured m from ≡ b → is_member (if b then greeted tick from said m else m).forgotten rank ≡ true
    → ((b && rank == from) ≡ false) × (is_member m.forgotten rank ≡ true)
forgotten_hello tick from rank said m true is member =
    let parts = and_parts _ _ (sym (member_of-ranks_that (is_forgotten_beside m from) (length m.nodes) rank) ∙ member) in
    let beside = and_parts (is_member m.forgotten rank) (not (rank == from)) parts.1 in
    (not-true (rank == from) beside.1, beside.0)
forgotten_hello tick from rank said m false is member = (refl, member)

-- one that is configured is no other that is not
not_of_other : (m : Maker) (from rank : ℕ) → is_configured m rank ≡ true → (is_configured m from && rank == from) ≡ false → (rank == from) ≡ false
not_of_other m from rank configured apart = by_test (rank == from) refl
  where
    by_test : (b : Bool) → (rank == from) ≡ b → b ≡ false
    by_test false is = refl
    by_test true is =
        let same : rank ≡ from = (Decides-eqb rank from).0 is in
        let known : is_configured m from ≡ true = subst (λ r. is_configured m r ≡ true) same configured in
        absurd (false≢true (sym apart ∙ (ap (λ b. b && rank == from) known ∙ is)))

module _ (s : Settings) (me loop_ms rank : ℕ) (configured : rank < length s.nodes) where
  known_rank : (calls : List MakerCall) → is_configured (after_calls calls (first_maker s me loop_ms)) rank ≡ true
  known_rank calls = ap (λ (n : List NodeEntry). nat_lt rank (length n)) (kept_calls s me loop_ms calls).nodes ∙ lt-ltb rank (length s.nodes) configured

  forgotten_of_plain : (tick from : ℕ) (m : Maker) (counts : Bool) → is_configured m rank ≡ true → is_member (if is_configured m from && counts then after_hello tick from plain m else m).forgotten rank ≡ true
      → ((rank == from && counts) ≡ false) × (is_member m.forgotten rank ≡ true)
  forgotten_of_plain tick from m false known member = (and_right (rank == from) false refl, of_no (is_configured m from) member)
    where
      of_no : (b : Bool) → is_member (if b && false then after_hello tick from plain m else m).forgotten rank ≡ true → is_member m.forgotten rank ≡ true
      of_no true is = is
      of_no false is = is
  forgotten_of_plain tick from m true known member =
      let found = forgotten_hello tick from rank plain m (is_configured m from) refl (of_yes (is_configured m from) refl member) in
      (and_left (rank == from) true (not_of_other m from rank known found.0), found.1)
    where
      of_yes : (b : Bool) → is_configured m from ≡ b → is_member (if b && true then after_hello tick from plain m else m).forgotten rank ≡ true
          → is_member (if b then greeted tick from plain m else m).forgotten rank ≡ true
      of_yes true is member = subst (λ b. is_member (if b then greeted tick from plain m else m).forgotten rank ≡ true) is member
      of_yes false is member = member

  lost_of_calls : (calls : List MakerCall) → is_member (after_calls calls (first_maker s me loop_ms)).forgotten rank ≡ true → HasLost rank (first_maker s me loop_ms) calls
  unfolding after_calls after_tick
  lost_of_calls [] member = absurd (false≢true (sym (empty_has_none rank) ∙ member))
  lost_of_calls (Look tick ∷ earlier) member =
      let m = after_calls earlier (first_maker s me loop_ms) in
      by_case (forgotten_look tick rank m (subst (λ (f : Mask). is_member f rank ≡ true) (forgotten_after tick (view_at tick m) m) member)) (λ was. lost_of_calls earlier was)
    where
      by_case : Loses rank tick (after_calls earlier (first_maker s me loop_ms)) ⊎ (is_member (after_calls earlier (first_maker s me loop_ms)).forgotten rank ≡ true)
          → (is_member (after_calls earlier (first_maker s me loop_ms)).forgotten rank ≡ true → HasLost rank (first_maker s me loop_ms) earlier)
          → Loses rank tick (after_calls earlier (first_maker s me loop_ms)) ⊎ HasLost rank (first_maker s me loop_ms) earlier
      by_case (inl lost) rest = inl lost
      by_case (inr was) rest = inr (rest was)
  lost_of_calls (Hello tick from said ∷ earlier) member =
      let m = after_calls earlier (first_maker s me loop_ms) in
      let found = forgotten_hello tick from rank said m (is_configured m from) refl member in
      (not_of_other m from rank (known_rank earlier) found.0, lost_of_calls earlier found.1)
  lost_of_calls (PlainHello tick from ∷ earlier) member =
      let m = after_calls earlier (first_maker s me loop_ms) in
      let found = forgotten_of_plain tick from m (not (says_more tick m from)) (known_rank earlier) member in
      (found.0, lost_of_calls earlier found.1)
  lost_of_calls (Announce from view ∷ earlier) member =
      let m = after_calls earlier (first_maker s me loop_ms) in
      lost_of_calls earlier (of_announce (is_configured m from && has_configured m.nodes view.members) m member)
    where
      of_announce : (b : Bool) (m : Maker) → is_member (if b then told from view m else m).forgotten rank ≡ true → is_member m.forgotten rank ≡ true
      of_announce true m is = is
      of_announce false m is = is
  lost_of_calls (Due tick ∷ earlier) member =
      let m = after_calls earlier (first_maker s me loop_ms) in
      lost_of_calls earlier (of_due (is_hello_due tick m) m _ refl member)
    where
      of_due : (b : Bool) (m other : Maker) → other.forgotten ≡ m.forgotten → is_member (if b then other else m).forgotten rank ≡ true → is_member m.forgotten rank ≡ true
      of_due true m other same is = subst (λ (f : Mask). is_member f rank ≡ true) same is
      of_due false m other same is = is

pub lost_by_calls : (run : MakerRun) (rank : ℕ) → rank < length run.settings.nodes → is_member (maker_of run).forgotten rank ≡ true → HasLost rank (first_of run) run.calls
lost_by_calls run rank configured member = lost_of_calls run.settings run.me run.loop_ms rank configured run.calls member

-- ## What the last look saw

seen_look : (tick : ℕ) (found : Option View) (m : Maker)
    → ((installed found (looked tick m)).seen ≡ visible_nodes tick m) × ((installed found (looked tick m)).says ≡ said_at tick (seeing tick m))
seen_look tick None m = (refl, refl)
seen_look tick (Some view) m = (refl, refl)

seen_of_calls : (s : Settings) (me loop_ms : ℕ) (calls : List MakerCall)
    → ((after_calls calls (first_maker s me loop_ms)).seen ≡ last_seen (first_maker s me loop_ms) calls)
    × ((after_calls calls (first_maker s me loop_ms)).says ≡ last_says (first_maker s me loop_ms) calls)
unfolding after_calls after_tick
seen_of_calls s me loop_ms [] = (refl, refl)
seen_of_calls s me loop_ms (Look tick ∷ earlier) =
    let m = after_calls earlier (first_maker s me loop_ms) in seen_look tick (view_at tick m) m
seen_of_calls s me loop_ms (Hello tick from said ∷ earlier) =
    let still = still_hello tick from said (after_calls earlier (first_maker s me loop_ms)) in
    let rest = seen_of_calls s me loop_ms earlier in (still.seen ∙ rest.0, still.says ∙ rest.1)
seen_of_calls s me loop_ms (PlainHello tick from ∷ earlier) =
    let still = still_plain tick from (after_calls earlier (first_maker s me loop_ms)) in
    let rest = seen_of_calls s me loop_ms earlier in (still.seen ∙ rest.0, still.says ∙ rest.1)
seen_of_calls s me loop_ms (Announce from view ∷ earlier) =
    let still = still_announce from view (after_calls earlier (first_maker s me loop_ms)) in
    let rest = seen_of_calls s me loop_ms earlier in (still.seen ∙ rest.0, still.says ∙ rest.1)
seen_of_calls s me loop_ms (Due tick ∷ earlier) =
    let still = still_due tick (after_calls earlier (first_maker s me loop_ms)) in
    let rest = seen_of_calls s me loop_ms earlier in (still.seen ∙ rest.0, still.says ∙ rest.1)

pub seen_before : (run : MakerRun) → ((maker_of run).seen ≡ last_seen (first_of run) run.calls) × ((maker_of run).says ≡ last_says (first_of run) run.calls)
seen_before run = seen_of_calls run.settings run.me run.loop_ms run.calls

-- ## Who leads

-- a rank that is configured and in no set fails its test
fails_test : (test : ℕ → Bool) (count rank : ℕ) → rank < count → is_member (record { 0 = ranks_that test count }) rank ≡ false → test rank ≡ false
fails_test test count rank below out =
    sym (ap (λ b. b && test rank) (lt-ltb rank count below)) ∙ (sym (member_of-ranks_that test count rank) ∙ out)

pub leads_how : (m : Maker) (leader : ℕ) → leader_at m ≡ Some leader → LeadsAble m leader ⊎ LeadsLeast m leader
leads_how m leader = by_followed (followed m m.seen) refl
  where
    by_followed : (found : Option ℕ) → followed m m.seen ≡ found → option_or found (least_of m m.seen) ≡ Some leader → LeadsAble m leader ⊎ LeadsLeast m leader
    by_followed None none is =
        inr (
          (λ rank configured.
              fails_test (may_lead m m.seen) (length m.nodes) rank (ltb-true rank (length m.nodes) configured)
              (least_none (length m.nodes) 0 (is_member (able_nodes m m.seen)) none rank (omega arith) (let under = ltb-true rank (length m.nodes) configured in omega arith))),
          least_passes (length m.nodes) 0 (is_member m.seen) leader is,
          (λ rank below. least_below (length m.nodes) 0 (is_member m.seen) leader is rank (omega arith) below),
        )
    by_followed (Some found) able is =
        let same : found ≡ leader = cc in
        let able_leader : followed m m.seen ≡ Some leader = able ∙ ap Some same in
        let within = least_bound (length m.nodes) 0 (is_member (able_nodes m m.seen)) leader able_leader in
        inl (
          (and_parts _ _ (sym (member_of-ranks_that (may_lead m m.seen) (length m.nodes) leader)
              ∙ least_passes (length m.nodes) 0 (is_member (able_nodes m m.seen)) leader able_leader)).1,
          (λ rank below.
              fails_test (may_lead m m.seen) (length m.nodes) rank (omega arith)
              (least_below (length m.nodes) 0 (is_member (able_nodes m m.seen)) leader able_leader rank (omega arith) below)),
        )

-- ## The votes of a company

-- a test of one that leads and of one from the own rank on
same_test : (own seen above follows from_own : Bool) → (own ≡ true → (seen ≡ true) × (from_own ≡ true)) → (own ≡ false → above ≡ from_own)
    → (seen ≡ true → above ≡ true → follows ≡ false) → (own || seen && above && not follows) ≡ (seen && from_own)
same_test true seen above follows from_own here other led = let both = here refl in rw (both.0, both.1) refl
same_test false false above follows from_own here other led = refl
same_test false true false follows from_own here other led = other refl
same_test false true true follows from_own here other led = rw (led refl refl) (other refl)

-- where nobody of greater rank that a leader sees follows another, its company is all it sees from itself on
pub company_upper : (m : Maker) → leader_at m ≡ Some m.me → is_member m.seen m.me ≡ true
    → ((rank : ℕ) → is_member m.seen rank ≡ true → m.me < rank → follows_other m rank ≡ false) → company_at m ≡ upper_nodes m m.seen
company_upper m leads own led =
    company_is m leads
    ∙ ap (λ (n : ℕ). record { 0 = n }) (ranks_that-same (is_led m m.seen) (is_upper m m.seen) (length m.nodes) (λ rank below.
    same_test (rank == m.me) (is_member m.seen rank) (nat_lt m.me rank) (follows_other m rank) (nat_le m.me rank)
    (λ here. let same : rank ≡ m.me = (Decides-eqb rank m.me).0 here in
    (subst (λ r. is_member m.seen r ≡ true) (sym same) own, le-leb m.me rank (omega arith)))
    (λ other. above_is rank other)
    (λ seen above. led rank seen (ltb-true m.me rank above))))
  where
    above_is : (rank : ℕ) → (rank == m.me) ≡ false → nat_lt m.me rank ≡ nat_le m.me rank
    above_is rank other = grind (arith, nat_tests)

-- an able leader sees itself
leader_seen : (run : MakerRun) (tick : ℕ) → leader_found tick (maker_of run) ≡ Some (maker_of run).me → is_member (visible_nodes tick (maker_of run)) (maker_of run).me ≡ true
leader_seen run tick leads =
    let m = maker_of run in
    member_of-ranks_that (is_visible tick m) (length m.nodes) m.me
    ∙ and_from _ _ (lt-ltb m.me (length m.nodes) (leader_within (seeing tick m) (visible_nodes tick m) m.me leads)) (or_left (m.me == m.me) _ (eq-eqb m.me m.me refl))

pub company_enough : (run : MakerRun) (tick : ℕ) → leader_found tick (maker_of run) ≡ Some run.me
    → is_able (seeing tick (maker_of run)) (visible_nodes tick (maker_of run)) ≡ true
    → ((rank : ℕ) → is_member (visible_nodes tick (maker_of run)) rank ≡ true → run.me < rank → follows_other (seeing tick (maker_of run)) rank ≡ false)
    → enough_of run.settings ≤ votes_among run.settings.nodes (company_of tick (maker_of run))
company_enough run tick leads able led =
    let m = maker_of run in
    let kept = kept_calls run.settings run.me run.loop_ms run.calls in
    let leads_here : leader_found tick m ≡ Some m.me = leads ∙ ap Some (sym kept.me) in
    let upper = company_upper (seeing tick m) leads_here (leader_seen run tick leads_here) (λ rank seen above. led rank seen (let same = kept.me in omega arith)) in
    let enough = leb-true m.enough (votes_among m.nodes (upper_nodes (seeing tick m) (visible_nodes tick m))) able in
    subst (λ n. n ≤ votes_among run.settings.nodes (company_of tick m)) kept.enough
    (subst (λ (nodes : List NodeEntry). m.enough ≤ votes_among nodes (company_of tick m)) kept.nodes
    (subst (λ (c : Mask). m.enough ≤ votes_among m.nodes c) (sym upper) enough))

-- ## Followers

-- a look at which the least able node is this one says so
says_follows : (m : Maker) (leader : ℕ) → leader < length m.nodes → LeadsAble m leader → followed m m.seen ≡ Some leader
says_follows m leader within leads =
    least_from-some (length m.nodes) 0 leader (is_member (able_nodes m m.seen)) (omega arith) (omega arith)
    (member_of-ranks_that (may_lead m m.seen) (length m.nodes) leader ∙ and_from _ _ (lt-ltb leader (length m.nodes) within) leads.0)
    (λ rank above below. member_of-ranks_that (may_lead m m.seen) (length m.nodes) rank ∙ and_right (nat_lt rank (length m.nodes)) (may_lead m m.seen rank) (leads.1 rank below))

-- an able node is configured, since it is visible
able_within : (run : MakerRun) (at leader : ℕ) → LeadsAble (seeing at (maker_of run)) leader → leader < length (maker_of run).nodes
able_within run at leader leads =
    let m = seeing at (maker_of run) in
    let first = and_parts (is_member m.seen leader && nat_le leader m.me) _ leads.0 in
    let seen = (and_parts (is_member m.seen leader) (nat_le leader m.me) first.0).0 in
    ltb-true leader (length m.nodes) (and_parts _ _ (sym (member_of-ranks_that (is_visible at (maker_of run)) (length m.nodes) leader) ∙ seen)).0

follower_leads_none : (run other : MakerRun) (tick at : ℕ) → length run.settings.nodes ≤ 32 → IsFollower run other at
    → is_member (visible_nodes tick (maker_of run)) other.me ≡ true → follows_other (seeing tick (maker_of run)) other.me ≡ false
follower_leads_none run other tick at few follower seen =
    let m = maker_of run in
    let kept = kept_calls run.settings run.me run.loop_ms run.calls in
    let within : nat_lt other.me (length m.nodes) ≡ true = (and_parts _ _ (sym (member_of-ranks_that (is_visible tick m) (length m.nodes) other.me) ∙ seen)).0 in
    let configured : other.me < length run.settings.nodes = ltb-true other.me (length run.settings.nodes) (ap (λ (n : List NodeEntry). nat_lt other.me (length n)) (sym kept.nodes) ∙ within) in
    let said : of_rank m.said other.me ≡ Some (said_at at (seeing at (maker_of other))) = said_by_calls run other.me configured few ∙ follower.told in
    let follows = says_follows (seeing at (maker_of other)) run.me (able_within other at run.me follower.followed) follower.followed in
    ap (λ (o : Option Said). option_map_or (λ leader. not (leader.0 == m.me)) (option_and_then (λ said. said.follows) o) false && not (is_member (seeing tick m).forgotten other.me)) said
    ∙ (ap (λ (o : Option ℕ). option_map_or (λ (leader : Rank). not (leader.0 == m.me)) (option_map (λ (rank : ℕ). record { 0 = rank }) o) false && not (is_member (seeing tick m).forgotten other.me)) follows
    ∙ ap (λ b. not b && not (is_member (seeing tick m).forgotten other.me)) (ap (λ n. run.me == n) kept.me ∙ eq-eqb run.me run.me refl))

pub side_enough : (run : MakerRun) (tick : ℕ) (others : ℕ → MakerRun) (looks : ℕ → ℕ) → length run.settings.nodes ≤ 32
    → leader_found tick (maker_of run) ≡ Some run.me
    → is_able (seeing tick (maker_of run)) (visible_nodes tick (maker_of run)) ≡ true
    → ((rank : ℕ) → is_member (visible_nodes tick (maker_of run)) rank ≡ true → run.me < rank → ((others rank).me ≡ rank) × IsFollower run (others rank) (looks rank))
    → enough_of run.settings ≤ votes_among run.settings.nodes (company_of tick (maker_of run))
side_enough run tick others looks few leads able follow =
    company_enough run tick leads able (λ rank seen above.
    let it = follow rank seen above in
    subst (λ r. follows_other (seeing tick (maker_of run)) r ≡ false) it.0
    (follower_leads_none run (others rank) tick (looks rank) few it.1 (subst (λ r. is_member (visible_nodes tick (maker_of run)) r ≡ true) (sym it.0) seen)))

-- ## Two companies

pub companies_apart : (one other : MakerRun) (tick other_tick : ℕ) → length one.settings.nodes ≤ 32 → length other.settings.nodes ≤ 32 → one.me < other.me
    → leader_found tick (maker_of one) ≡ Some one.me → leader_found other_tick (maker_of other) ≡ Some other.me
    → ((rank : ℕ) → rank ≢ other.me → is_member (company_of tick (maker_of one)) rank ≡ true → is_member (company_of other_tick (maker_of other)) rank ≡ true
    → SameWord one other tick other_tick rank)
    → (is_member (company_of tick (maker_of one)) other.me ≡ true → FollowsItself one tick other.me)
    → (rank : ℕ) → is_member (company_of tick (maker_of one)) rank ≡ true → is_member (company_of other_tick (maker_of other)) rank ≡ true → ⊥
companies_apart one other tick other_tick few_one few_other below leads_one leads_other words own_word rank in_one in_other =
    by_rank (cases_eq rank other.me)
  where
    above : other.me ≤ rank
    above =
        let kept = kept_calls other.settings other.me other.loop_ms other.calls in
        let l = looked other_tick (maker_of other) in
        let leads : leader_found other_tick (maker_of other) ≡ Some (maker_of other).me = leads_other ∙ ap Some (sym kept.me) in
        let not_below = led_above l l.seen rank (subst (λ (c : Mask). is_member c rank ≡ true) (company_is l leads) in_other) in
        let same = kept.me in omega arith

    not_one : rank ≢ one.me
    not_one = λ same. let low = above in absurd (omega arith)

    by_follows : (found : Option Rank) → (found ≡ None → ⊥) → (found ≡ None) ⊎ IfSome found (λ leader. leader.0 ≡ one.me)
        → (found ≡ None) ⊎ IfSome found (λ leader. leader.0 ≡ other.me) → ⊥
    by_follows None some first second = some refl
    by_follows (Some leader) some (inl none) second = some none
    by_follows (Some leader) some (inr first) (inl none) = some none
    by_follows (Some leader) some (inr first) (inr second) = absurd (omega arith)

    by_words : (said : Said) → SameWordIs one other tick other_tick rank said
        → (is_member (looked tick (maker_of one)).forgotten rank ≡ true) ⊎ ((said.follows ≡ None) ⊎ IfSome said.follows (λ leader. leader.0 ≡ one.me))
        → (is_member (looked other_tick (maker_of other)).forgotten rank ≡ true) ⊎ ((said.follows ≡ None) ⊎ IfSome said.follows (λ leader. leader.0 ≡ other.me)) → ⊥
    by_words said word (inl lost) second = absurd (false≢true (sym word.known_one ∙ lost))
    by_words said word (inr first) (inl lost) = absurd (false≢true (sym word.known_other ∙ lost))
    by_words said word (inr first) (inr second) = by_follows said.follows word.follows first second

    own_follows : (said : Said) → said.follows ≡ Some (record { 0 = other.me }) → (said.follows ≡ None) ⊎ IfSome said.follows (λ leader. leader.0 ≡ one.me) → ⊥
    own_follows said is (inl none) = absurd (let e = sym is ∙ none in cc)
    own_follows said is (inr first) =
        let same : other.me ≡ one.me = subst (λ (o : Option Rank). IfSome o (λ leader. leader.0 ≡ one.me)) is first in absurd (omega arith)

    by_own : (said : Said) → FollowsItselfIs one tick other.me said
        → (is_member (looked tick (maker_of one)).forgotten other.me ≡ true) ⊎ ((said.follows ≡ None) ⊎ IfSome said.follows (λ leader. leader.0 ≡ one.me)) → ⊥
    by_own said word (inl lost) = absurd (false≢true (sym word.known ∙ lost))
    by_own said word (inr first) = own_follows said word.follows first

    by_rank : (rank ≡ other.me) ⊎ (rank ≡ other.me → ⊥) → ⊥
    by_rank (inl same) =
        let here : is_member (company_of tick (maker_of one)) other.me ≡ true = subst (λ r. is_member (company_of tick (maker_of one)) r ≡ true) same in_one in
        let word = own_word here in
        by_own word.0 word.1 (follows_in_company one tick other.me word.0 few_one (λ e. absurd (omega arith)) leads_one here word.1.says)
    by_rank (inr apart) =
        let word = words rank apart in_one in_other in
        by_words word.0 word.1
        (follows_in_company one tick rank word.0 few_one not_one leads_one in_one word.1.says_one)
        (follows_in_company other other_tick rank word.0 few_other apart leads_other in_other word.1.says_other)
