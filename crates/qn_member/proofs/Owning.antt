-- What holds of a view that a leader makes.
use Rattle.std.proofs.Common.{◌≡◌, ℕ, suc, zero, ◌+◌, ◌<◌, ◌≤◌, Bool, true, false, not, ◌==◌, ◌&&◌, ◌||◌, max, List, [], ◌∷◌, length, set, Option, None, Some, IfSome, if◌then◌else◌, refl, sym, ap, subst, ◌∙◌, arith, eq-eqb, nat_lt, nat_le, inl, inr, ◌⊎◌}
use Rattle.std.specs.Prelude.{is_some, option_and_then}
use Rattle.std.specs.List.{list_all, range_with_len}
use Rattle.std.specs.Option.{option_map_or}
use Rattle.std.proofs.lemmas.Bool.{cases_lt, false≢true, true≢false, and_parts, or_cases, or_left, ltb-true}
use Rattle.std.proofs.lemmas.Bool.Decides.{Decides-eqb}
use Rattle.std.proofs.Math.Nat.{le-max_left, le-max_right}
use Rattle.qn_base.specs.declared.ids.Mask.{Mask}
use Rattle.qn_base.specs.declared.ids.View.{View}
use Rattle.qn_base.specs.Members.{is_member}
use Rattle.qn_base.specs.lemmas.Masks.{empty_has_none}
use Rattle.qn_model.specs.declared.configuration.Settings.{Settings}
use Rattle.qn_model.specs.Votes.{are_all_in}
use Rattle.qn_base.specs.declared.ids.Said.{Said}
use Rattle.qn_member.specs.Announcing.{is_hello_due}
use Rattle.qn_candidate.specs.Numbers.{is_last, next_plain, without_name}
use Rattle.qn_member.specs.Maker.{Maker, after_hello, after_tick, company_at, company_under, disputed_nodes, first_maker, followed_view, follows_other, has_configured, has_left, installed, is_configured, is_disputed, is_heard, is_kept, is_known, is_led, is_overdue, is_present, is_present_member, is_quiet, is_steady, kept_nodes, known_nodes, leader_at, led_nodes, looked, may_install, members_at, of_rank, overdue_nodes, own_view, plain, says_more, three_loops_after, view_at, view_under}
use Rattle.qn_member.specs.MakerCalls.{Announce, Due, Hello, IsOwnView, Look, MakerCall, MakerRun, OwnView, PlainHello, after_call, after_calls, leader_found, maker_of}
use Rattle.qn_member.proofs.Companies.{company_has_own, keeps_company}
use Rattle.qn_member.proofs.Heard.{greeted, if_both, told}
use Rattle.qn_member.proofs.Ranks.{all_ranks-lt, member_of-ranks_that}

-- ## How its members come

-- all are known; there is no view yet; nobody is in dispute and the company is steady; or nobody is in dispute, and those in doubt stay
pub data Made (tick : ℕ) (m : Maker) (company members : Mask) : Type 0 where
  Known : are_all_in m.nodes (known_nodes m company) ≡ true → members ≡ company → Made tick m company members
  First : is_some m.view ≡ false → members ≡ company → Made tick m company members
  Steady : ((disputed_nodes tick m company).0 == 0) ≡ true → members ≡ company → Made tick m company members
  Doubted : ((disputed_nodes tick m company).0 == 0) ≡ true → members ≡ kept_nodes tick m company → Made tick m company members

pub made_of : (tick : ℕ) (m : Maker) (company members : Mask) → members_at tick m company ≡ Some members → Made tick m company members
made_of tick m company members = by_known (are_all_in m.nodes (known_nodes m company)) refl
  where
    by_overdue : (none : Bool) → ((disputed_nodes tick m company).0 == 0) ≡ true
        → (if none then None else Some (kept_nodes tick m company)) ≡ Some members → Made tick m company members
    by_overdue true agreed e = absurd cc
    by_overdue false agreed e = let same : kept_nodes tick m company ≡ members = cc in Doubted agreed (sym same)

    by_steady : (steady : Bool) → ((disputed_nodes tick m company).0 == 0) ≡ true
        → (if steady then Some company else (if (overdue_nodes tick m).0 == 0 then None else Some (kept_nodes tick m company))) ≡ Some members
        → Made tick m company members
    by_steady true agreed e = let same : company ≡ members = cc in Steady agreed (sym same)
    by_steady false agreed e = by_overdue ((overdue_nodes tick m).0 == 0) agreed e

    by_disputed : (none : Bool) → ((disputed_nodes tick m company).0 == 0) ≡ none
        → (if not none then None
        else (if is_steady tick m then Some company else (if (overdue_nodes tick m).0 == 0 then None else Some (kept_nodes tick m company)))) ≡ Some members
        → Made tick m company members
    by_disputed true agreed e = by_steady (is_steady tick m) agreed e
    by_disputed false disputed e = absurd cc

    by_quiet : (quiet : Bool) → is_some m.view ≡ false → (if quiet then Some company else None) ≡ Some members → Made tick m company members
    by_quiet true none e = let same : company ≡ members = cc in First none (sym same)
    by_quiet false none e = absurd cc

    by_view : (has : Bool) → is_some m.view ≡ has
        → (if not has then (if option_map_or (is_quiet tick m) m.change false then Some company else None)
        else (if not ((disputed_nodes tick m company).0 == 0) then None
        else (if is_steady tick m then Some company else (if (overdue_nodes tick m).0 == 0 then None else Some (kept_nodes tick m company))))) ≡ Some members
        → Made tick m company members
    by_view true is e = by_disputed ((disputed_nodes tick m company).0 == 0) refl e
    by_view false none e = by_quiet (option_map_or (is_quiet tick m) m.change false) none e

    by_known : (known : Bool) → are_all_in m.nodes (known_nodes m company) ≡ known
        → (if known then Some company
        else (if not (is_some m.view) then (if option_map_or (is_quiet tick m) m.change false then Some company else None)
        else (if not ((disputed_nodes tick m company).0 == 0) then None
        else (if is_steady tick m then Some company else (if (overdue_nodes tick m).0 == 0 then None else Some (kept_nodes tick m company)))))) ≡ Some members
        → Made tick m company members
    by_known true known e = let same : company ≡ members = cc in Known known (sym same)
    by_known false unknown e = by_view (is_some m.view) refl e

-- the parts of an own view
pub record OwnParts (tick : ℕ) (m : Maker) (company : Mask) (view : View) : Type 0 where
  pub members : members_at tick m company ≡ Some view.members
  pub other : is_present m view.members ≡ false
  pub id : view.id ≡ next_plain m.greatest

pub own_parts : (tick : ℕ) (m : Maker) (company : Mask) (view : View) → own_view tick m company ≡ Some view → OwnParts tick m company view
own_parts tick m company view = by_company (is_present m company)
  where
    by_present : (members : Mask) (present : Bool) → members_at tick m company ≡ Some members → is_present m members ≡ present
        → (if present then None else Some (record { id = next_plain m.greatest; members = members })) ≡ Some view → OwnParts tick m company view
    by_present members true made is e = absurd cc
    by_present members false made other e =
        let same : record { id = next_plain m.greatest; members = members } ≡ view = cc in
        subst (λ (v : View). OwnParts tick m company v) same (record { members = made; other = other; id = refl })

    by_members : (found : Option Mask) → members_at tick m company ≡ found
        → option_and_then (λ members. if is_present m members then None else Some (record { id = next_plain m.greatest; members = members })) found ≡ Some view
        → OwnParts tick m company view
    by_members None none e = absurd cc
    by_members (Some members) made e = by_present members (is_present m members) made refl e

    by_company : (present : Bool)
        → (if present then None
        else option_and_then (λ members. if is_present m members then None else Some (record { id = next_plain m.greatest; members = members })) (members_at tick m company)) ≡ Some view
        → OwnParts tick m company view
    by_company true e = absurd cc
    by_company false e = by_members (members_at tick m company) refl e

-- ## Who is in it

-- the company of a leader is whom it leads
pub company_is : (m : Maker) → leader_at m ≡ Some m.me → company_at m ≡ led_nodes m m.seen
company_is m leads =
    ap (λ (o : Option ℕ). option_map_or (company_under m m.seen) o m.seen) leads
    ∙ ap (λ b. if b then led_nodes m m.seen else m.seen) (eq-eqb m.me m.me refl)

pub led_configured : (m : Maker) (visible : Mask) → has_configured m.nodes (led_nodes m visible) ≡ true
led_configured m visible = all_ranks-lt (is_led m visible) _ (length m.nodes) (length m.nodes) (omega arith) (omega arith) refl

-- whom a node leads is not below it
pub led_above : (m : Maker) (visible : Mask) (rank : ℕ) → is_member (led_nodes m visible) rank ≡ true → m.me ≤ rank
led_above m visible rank member =
    let led = and_parts _ _ (sym (member_of-ranks_that (is_led m visible) (length m.nodes) rank) ∙ member) in
    by_case (or_cases (rank == m.me) _ led.1)
  where
    by_case : ((rank == m.me) ≡ true) ⊎ ((is_member visible rank && nat_lt m.me rank && not (follows_other m rank)) ≡ true) → m.me ≤ rank
    by_case (inl same) = let is : rank ≡ m.me = (Decides-eqb rank m.me).0 same in omega arith
    by_case (inr above) =
        let parts = and_parts (is_member visible rank && nat_lt m.me rank) (not (follows_other m rank)) above in
        let more = and_parts (is_member visible rank) (nat_lt m.me rank) parts.0 in
        let under : m.me < rank = ltb-true m.me rank more.1 in omega arith

-- who has left is not heard
left_unheard : (tick : ℕ) (m : Maker) (rank : ℕ) → (rank == m.me) ≡ false → has_left m rank ≡ true → is_heard tick m rank ≡ false
left_unheard tick m rank other left = by_hello (of_rank m.hellos rank) (rank == m.me) _ other left
  where
    by_hello : (o : Option ℕ) (own rest : Bool) → own ≡ false → (not (is_some o) && rest) ≡ true
        → (own || option_map_or (λ heard. nat_le tick (three_loops_after m heard)) o false) ≡ false
    by_hello None true rest other left = absurd (true≢false other)
    by_hello None false rest other left = refl
    by_hello (Some heard) own rest other left = absurd (false≢true left)

-- one who is present, heard and not in company, and is in no dispute, is overdue
overdue_from : (present company left overdue heard : Bool) → ((present && not company && not left && not overdue) && heard) ≡ false
    → present ≡ true → company ≡ false → left ≡ false → heard ≡ true → overdue ≡ true
overdue_from false company left overdue heard agreed p c l h = absurd (false≢true p)
overdue_from true true left overdue heard agreed p c l h = absurd (true≢false c)
overdue_from true false true overdue heard agreed p c l h = absurd (true≢false l)
overdue_from true false false true heard agreed p c l h = refl
overdue_from true false false false false agreed p c l h = absurd (false≢true h)
overdue_from true false false false true agreed p c l h = absurd (true≢false agreed)

none_of : (test : ℕ → Bool) (count rank : ℕ) (set : Mask) → (set.0 == 0) ≡ true → is_member set rank ≡ (nat_lt rank count && test rank) → nat_lt rank count ≡ true → test rank ≡ false
none_of test count rank set none is below =
    let empty : set.0 ≡ 0 = (Decides-eqb set.0 0).0 none in
    let out : is_member set rank ≡ false = ap (λ n. is_member (record { 0 = n }) rank) empty ∙ empty_has_none rank in
    by_below (nat_lt rank count) below (sym is ∙ out)
  where
    by_below : (b : Bool) → b ≡ true → (b && test rank) ≡ false → test rank ≡ false
    by_below true is out = out
    by_below false is out = absurd (false≢true is)

-- where all are known a configured one is
all_of : (members : Mask) (from count rank : ℕ) → list_all (is_member members) (range_with_len from count) ≡ true → from ≤ rank → rank < from + count → is_member members rank ≡ true
all_of members from zero rank all above below = absurd (omega arith)
all_of members from (suc count) rank all above below =
    let parts = and_parts (is_member members from) (list_all (is_member members) (range_with_len (from + 1) count)) all in
    by_order (cases_lt from rank) parts.0 (λ past. all_of members (from + 1) count rank parts.1 (omega arith) (omega arith))
  where
    by_order : (from < rank) ⊎ (rank ≤ from) → is_member members from ≡ true → (from < rank → is_member members rank ≡ true) → is_member members rank ≡ true
    by_order (inl past) here rest = rest past
    by_order (inr at) here rest = let same : from ≡ rank = omega arith in subst (λ r. is_member members r ≡ true) same here

known_of : (m : Maker) (company : Mask) (rank : ℕ) → is_configured m rank ≡ true → are_all_in m.nodes (known_nodes m company) ≡ true → is_known m company rank ≡ true
known_of m company rank configured all =
    let under : rank < length m.nodes = ltb-true rank (length m.nodes) configured in
    let member : is_member (known_nodes m company) rank ≡ true = all_of (known_nodes m company) 0 (length m.nodes) rank all (omega arith) (omega arith) in
    (and_parts _ _ (sym (member_of-ranks_that (is_known m company) (length m.nodes) rank) ∙ member)).1

above_by : (greatest : ℕ) (last : Bool) → last ≡ false → greatest < (if last then greatest else greatest + 1)
above_by greatest true room = absurd (true≢false room)
above_by greatest false room = omega arith

next_above : (greatest : ℕ) → is_last greatest ≡ false → greatest < next_plain greatest
next_above greatest room = above_by greatest (is_last greatest) room

next_rises : (present : Option View) (greatest : ℕ) → IfSome present (λ view. without_name view.id ≤ greatest) → is_last greatest ≡ false
    → IfSome present (λ view. without_name view.id < next_plain greatest)
next_rises None greatest below room = tt
next_rises (Some view) greatest below room = let above = next_above greatest room in omega (arith, below, above)

module _ (tick : ℕ) (m : Maker) (leads : leader_at m ≡ Some m.me) where
  abbrev company : Mask
  company = company_at m

  few : has_configured m.nodes company ≡ true
  few = subst (λ (c : Mask). has_configured m.nodes c ≡ true) (sym (company_is m leads)) (led_configured m m.seen)

  not_own : (rank : ℕ) → is_member company rank ≡ false → (rank == m.me) ≡ false
  not_own rank out = by_test (rank == m.me) refl
    where
      by_test : (b : Bool) → (rank == m.me) ≡ b → b ≡ false
      by_test false is = refl
      by_test true is =
          let same : rank ≡ m.me = (Decides-eqb rank m.me).0 is in
          absurd (false≢true (sym out ∙ subst (λ r. is_member company r ≡ true) (sym same) (company_has_own m leads)))

  -- one who is heard has not left
  not_left : (rank : ℕ) → is_member company rank ≡ false → is_heard tick m rank ≡ true → has_left m rank ≡ false
  not_left rank out heard = by_test (has_left m rank) refl
    where
      by_test : (b : Bool) → has_left m rank ≡ b → b ≡ false
      by_test false is = refl
      by_test true is = absurd (false≢true (sym (left_unheard tick m rank (not_own rank out) is) ∙ heard))

  -- where nobody is in dispute
  stays_without_dispute : ((disputed_nodes tick m company).0 == 0) ≡ true → (rank : ℕ) → is_configured m rank ≡ true → is_present_member m rank ≡ true
      → is_heard tick m rank ≡ true → is_member company rank ≡ false → is_overdue tick m rank ≡ true
  stays_without_dispute agreed rank configured present heard out =
      overdue_from (is_present_member m rank) (is_member company rank) (has_left m rank) (is_overdue tick m rank) (is_heard tick m rank)
      (none_of (is_disputed tick m company) (length m.nodes) rank (disputed_nodes tick m company) agreed (member_of-ranks_that (is_disputed tick m company) (length m.nodes) rank) configured)
      present out (not_left rank out heard) heard

  out_of_kept : (rank : ℕ) → is_configured m rank ≡ true → is_member (kept_nodes tick m company) rank ≡ false → is_member company rank ≡ false
  out_of_kept rank configured out = by_test (is_member company rank) refl
    where
      by_test : (b : Bool) → is_member company rank ≡ b → b ≡ false
      by_test false is = refl
      by_test true is = absurd (false≢true (sym out ∙ keeps_company tick m company few rank is))

  stays : (members : Mask) → Made tick m company members → (rank : ℕ) → is_configured m rank ≡ true → is_present_member m rank ≡ true
      → is_heard tick m rank ≡ true → is_member members rank ≡ false → is_overdue tick m rank ≡ true
  stays members (Known known same) rank configured present heard out =
      let outside : is_member company rank ≡ false = subst (λ (c : Mask). is_member c rank ≡ false) same out in
      let known_one : is_known m company rank ≡ true = known_of m company rank configured known in
      by_case outside (or_cases (is_member company rank) (has_left m rank) known_one)
    where
      by_case : is_member company rank ≡ false → (is_member company rank ≡ true) ⊎ (has_left m rank ≡ true) → is_overdue tick m rank ≡ true
      by_case outside (inl in_it) = absurd (false≢true (sym outside ∙ in_it))
      by_case outside (inr left) = absurd (false≢true (sym (not_left rank outside heard) ∙ left))
  stays members (First none same) rank configured present heard out = absurd (false≢true (sym (no_view m.view none) ∙ present))
    where
      no_view : (view : Option View) → is_some view ≡ false → option_map_or (λ (v : View). is_member v.members rank) view false ≡ false
      no_view None is = refl
      no_view (Some view) is = absurd (true≢false is)
  stays members (Steady agreed same) rank configured present heard out =
      stays_without_dispute agreed rank configured present heard (subst (λ (c : Mask). is_member c rank ≡ false) same out)
  stays members (Doubted agreed same) rank configured present heard out =
      stays_without_dispute agreed rank configured present heard (out_of_kept rank configured (subst (λ (c : Mask). is_member c rank ≡ false) same out))

  has_company : (members : Mask) → Made tick m company members → (rank : ℕ) → is_member company rank ≡ true → is_member members rank ≡ true
  has_company members (Known known same) rank member = subst (λ (c : Mask). is_member c rank ≡ true) (sym same) member
  has_company members (First none same) rank member = subst (λ (c : Mask). is_member c rank ≡ true) (sym same) member
  has_company members (Steady agreed same) rank member = subst (λ (c : Mask). is_member c rank ≡ true) (sym same) member
  has_company members (Doubted agreed same) rank member =
      subst (λ (c : Mask). is_member c rank ≡ true) (sym same) (keeps_company tick m company few rank member)

  has_kept : (members : Mask) → Made tick m company members → (rank : ℕ) → is_member members rank ≡ true → is_kept tick m company rank ≡ true
  has_kept members (Known known same) rank member = or_left (is_member company rank) _ (subst (λ (c : Mask). is_member c rank ≡ true) same member)
  has_kept members (First none same) rank member = or_left (is_member company rank) _ (subst (λ (c : Mask). is_member c rank ≡ true) same member)
  has_kept members (Steady agreed same) rank member = or_left (is_member company rank) _ (subst (λ (c : Mask). is_member c rank ≡ true) same member)
  has_kept members (Doubted agreed same) rank member =
      (and_parts _ _ (sym (member_of-ranks_that (is_kept tick m company) (length m.nodes) rank) ∙ subst (λ (c : Mask). is_member c rank ≡ true) same member)).1

  pub own_view_is : (view : View) → IfSome m.view (λ present. without_name present.id ≤ m.greatest) → own_view tick m company ≡ Some view → OwnView tick m view
  own_view_is view below is =
      let parts = own_parts tick m company view is in
      let made = made_of tick m company view.members parts.members in
      record {
        company = has_company view.members made;
        members = has_kept view.members made;
        least = λ rank member. led_above m m.seen rank (subst (λ (c : Mask). is_member c rank ≡ true) (company_is m leads) member);
        settled = parts.members;
        other = parts.other;
        newest = λ room. subst (λ n. m.greatest < n) (sym parts.id) (next_above m.greatest room);
        rises = λ room. subst (λ n. IfSome m.view (λ present. without_name present.id < n)) (sym parts.id) (next_rises m.view m.greatest below room);
        heard_stays = stays view.members made;
      }

-- ## Its id

-- the present view's id without its name is at most the greatest
abbrev Below : Maker → Type 0
Below m = IfSome m.view (λ present. without_name present.id ≤ m.greatest)

below_max : (present : Option View) (greatest id : ℕ) → IfSome present (λ view. without_name view.id ≤ greatest) → IfSome present (λ view. without_name view.id ≤ max greatest id)
below_max None greatest id below = tt
below_max (Some view) greatest id below = let more = le-max_left greatest id in omega (arith, below, more)

below_look : (tick : ℕ) (found : Option View) (m : Maker) → Below m → Below (installed found (looked tick m))
below_look tick None m below = below
below_look tick (Some view) m below = le-max_right m.greatest (without_name view.id)

below_hello : (tick from : ℕ) (said : Said) (m : Maker) → Below m → Below (after_hello tick from said m)
below_hello tick from said m below = if_both Below (is_configured m from) (greeted tick from said m) m below below

below_call : (made : MakerCall) (m : Maker) → Below m → Below (after_call made m)
unfolding after_tick
below_call (Hello tick from said) m below = below_hello tick from said m below
below_call (PlainHello tick from) m below =
    if_both Below (is_configured m from && not (says_more tick m from)) (after_hello tick from plain m) m (below_hello tick from plain m below) below
below_call (Announce from view) m below =
    if_both Below (is_configured m from && has_configured m.nodes view.members)
    (told from view m) m (below_max m.view m.greatest (without_name view.id) below) below
below_call (Look tick) m below = below_look tick (view_at tick m) m below
below_call (Due tick) m below = if_both Below (is_hello_due tick m) _ m below below

below_calls : (s : Settings) (me loop_ms : ℕ) (calls : List MakerCall) → Below (after_calls calls (first_maker s me loop_ms))
unfolding after_calls
below_calls s me loop_ms [] = tt
below_calls s me loop_ms (made ∷ earlier) =
    below_call made (after_calls earlier (first_maker s me loop_ms)) (below_calls s me loop_ms earlier)

-- a look of a node that leads gives its own view
pub own_of_look : (tick : ℕ) (m : Maker) (view : View) → leader_found tick m ≡ Some m.me → view_at tick m ≡ Some view
    → own_view tick (looked tick m) (company_at (looked tick m)) ≡ Some view
unfolding view_at
own_of_look tick m view leads some = by_test (may_install tick (looked tick m) (company_at (looked tick m))) some
  where
    by_test : (may : Bool)
        → (if may then option_and_then (view_under tick (looked tick m) (company_at (looked tick m))) (leader_at (looked tick m)) else None) ≡ Some view
        → own_view tick (looked tick m) (company_at (looked tick m)) ≡ Some view
    by_test true some =
        sym (ap (λ (o : Option ℕ). option_and_then (view_under tick (looked tick m) (company_at (looked tick m))) o) leads
        ∙ ap (λ (b : Bool). if b then own_view tick (looked tick m) (company_at (looked tick m)) else followed_view (looked tick m) m.me) (eq-eqb m.me m.me refl)) ∙ some
    by_test false none = absurd cc

pub own_views_by_calls : (run : MakerRun) (tick : ℕ) (view : View) → IsOwnView tick (maker_of run) view
own_views_by_calls run tick view leads some =
    own_view_is tick (looked tick (maker_of run)) leads view (below_calls run.settings run.me run.loop_ms run.calls) (own_of_look tick (maker_of run) view leads some)
