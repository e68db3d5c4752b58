-- The view that a look gives has its own node, and configured members alone.
use Rattle.std.proofs.Common.{◌≡◌, ◌⊎◌, inl, inr, ℕ, suc, zero, ◌^◌, ◌<◌, ◌≤◌, Bool, true, false, not, ◌||◌, ◌==◌, List, Option, None, Some, length, is_some, if◌then◌else◌, cond, refl, sym, ◌∙◌, ap, subst, arith, eq-eqb}
use Rattle.std.specs.Prelude.{bit_or, option_and_then}
use Rattle.std.specs.Option.{option_map_or}
use Rattle.std.proofs.lemmas.Bool.{and_from, false≢true, lt-ltb}
use Rattle.std.proofs.lemmas.Nat.{or_lt, pow_pos}
use Rattle.std.proofs.lemmas.Option.{none-some, same_Some}
use Rattle.std.proofs.Math.Pow.{pow-lt}
use Rattle.qn_base.specs.declared.ids.Mask.{Mask}
use Rattle.qn_base.specs.declared.ids.View.{View}
use Rattle.qn_base.specs.Members.{is_member}
use Rattle.qn_candidate.specs.Numbers.{next_plain}
use Rattle.qn_model.specs.declared.nodelist.NodeEntry.{NodeEntry}
use Rattle.qn_model.specs.declared.configuration.Settings.{Settings}
use Rattle.qn_model.specs.Fitting.{is_own_view}
use Rattle.qn_model.specs.Votes.{are_all_in}
use Rattle.qn_member.specs.Maker.{Maker, company_at, company_under, disputed_nodes, followed_view, has_configured, is_kept, is_led, is_present, is_quiet, is_steady, is_visible, kept_nodes, known_nodes, leader_at, led_by, looked, may_install, members_at, overdue_nodes, own_view, ranks_that, view_at}
use Rattle.qn_member.specs.Naming.{NamingMaker, company_by_name, is_led_by_name, is_own, knows_all, knows_bit, leader_by_name}
use Rattle.qn_member.specs.NamingViews.{company_now, facts_seen, followed_by_age, is_named_anew, is_sixth_loop, looked_by_name, may_begin, members_by_name, own_by_name, seeing_names, view_by_name, view_found, view_of}
use Rattle.qn_service.specs.Leading.{LeavesOut, MakesView, TakesView}
use Rattle.qn_service.proofs.Knowing.{Knows}
use Rattle.qn_service.proofs.LeftOut.{leaves_out}
use Rattle.qn_service.proofs.Made.{CameOf, Followed, NextBy, aged, followed_was, if_is, looked_notes, made_or_taken, name_way, noted_then, plain_way}
use Rattle.qn_service.proofs.Outside.{came_by}

abbrev pub IsWithin : List NodeEntry → View → Type 0
IsWithin nodes view = has_configured nodes view.members ≡ true

-- ## Sets of ranks

-- ranks below a number make a set below that power of two, and each greater one
ranks_under : (test : ℕ → Bool) (count bound : ℕ) → count ≤ bound → ranks_that test count < 2 ^ bound
unfolding ranks_that
ranks_under test zero bound fits = pow_pos bound
ranks_under test (suc count) bound fits = by_test (test count) (ranks_under test count bound (omega arith))
  where
    by_test : (b : Bool) → ranks_that test count < 2 ^ bound → cond b (bit_or (ranks_that test count) (2 ^ count)) (ranks_that test count) < 2 ^ bound
    by_test true under = or_lt bound (ranks_that test count) (2 ^ count) under (pow-lt (omega arith))
    by_test false under = under

ranks_within : (nodes : List NodeEntry) (test : ℕ → Bool) → has_configured nodes (record { 0 = ranks_that test (length nodes) }) ≡ true
ranks_within nodes test = lt-ltb (ranks_that test (length nodes)) (2 ^ length nodes) (ranks_under test (length nodes) (length nodes) (omega arith))

either_within : (nodes : List NodeEntry) (b : Bool) (one other : Mask) → has_configured nodes one ≡ true → has_configured nodes other ≡ true
    → has_configured nodes (if b then one else other) ≡ true
either_within nodes true one other first second = first
either_within nodes false one other first second = second

-- ## A company

under_within : (k : Maker) (leader : Option ℕ) → has_configured k.nodes k.seen ≡ true → has_configured k.nodes (option_map_or (company_under k k.seen) leader k.seen) ≡ true
under_within k None seen = seen
under_within k (Some leader) seen = either_within k.nodes (leader == k.me) _ k.seen (ranks_within k.nodes (is_led k k.seen)) seen

plain_within : (tick : ℕ) (k : Maker) → has_configured k.nodes (company_at (looked tick k)) ≡ true
plain_within tick k = under_within (looked tick k) (leader_at (looked tick k)) (ranks_within k.nodes (is_visible tick k))

name_within : (tick : ℕ) (m : NamingMaker) → has_configured m.maker.nodes (company_now (seeing_names tick m)) ≡ true
name_within tick m =
    let n = seeing_names tick m in
    let seen : has_configured m.maker.nodes n.maker.seen ≡ true = ranks_within m.maker.nodes (is_visible tick m.maker) in
    either_within m.maker.nodes (knows_all n n.maker.seen) (company_by_name n (facts_seen n)) (company_at n.maker)
    (either_within m.maker.nodes (option_map_or (λ leader. leader == n.maker.me) (leader_by_name n (facts_seen n)) false) _ n.maker.seen (ranks_within m.maker.nodes (is_led_by_name n)) seen)
    (under_within n.maker (leader_at n.maker) seen)

-- ## A view of a company

abbrev IsOf : Maker → Mask → Mask → ℕ → Type 0
IsOf k company members tick = (company ≡ members) ⊎ (kept_nodes tick k company ≡ members)

members_are : (tick : ℕ) (k : Maker) (company members : Mask) → members_at tick k company ≡ Some members → IsOf k company members tick
members_are tick k company members gives =
    by_way (came_by (are_all_in k.nodes (known_nodes k company)) (not (is_some k.view)) (option_map_or (is_quiet tick k) k.change false)
    (not ((disputed_nodes tick k company).0 == 0)) (is_steady tick k) ((overdue_nodes tick k).0 == 0) company (kept_nodes tick k company) members gives)
  where
    by_way : ((are_all_in k.nodes (known_nodes k company) ≡ true) × (company ≡ members))
        ⊎ (((not (is_some k.view) ≡ true) × (company ≡ members))
        ⊎ ((not ((disputed_nodes tick k company).0 == 0) ≡ false) × ((company ≡ members) ⊎ (kept_nodes tick k company ≡ members))))
        → IsOf k company members tick
    by_way (inl known) = inl known.1
    by_way (inr (inl first)) = inl first.1
    by_way (inr (inr agreed)) = agreed.1

of_within : (tick : ℕ) (k : Maker) (company members : Mask) → has_configured k.nodes company ≡ true → IsOf k company members tick → has_configured k.nodes members ≡ true
of_within tick k company members within (inl same) = subst (λ (set : Mask). has_configured k.nodes set ≡ true) same within
of_within tick k company members within (inr same) = subst (λ (set : Mask). has_configured k.nodes set ≡ true) same (ranks_within k.nodes (is_kept tick k company))

named_within : (tick : ℕ) (l : NamingMaker) (company members : Mask) → has_configured l.maker.nodes company ≡ true → members_by_name tick l company ≡ Some members
    → has_configured l.maker.nodes members ≡ true
named_within tick l company members within gives = by_view (is_some l.maker.view) gives
  where
    by_due : (b : Bool) → (if b then Some company else None) ≡ Some members → company ≡ members
    by_due true is = same_Some company members is
    by_due false is = absurd (none-some members is)

    by_view : (b : Bool) → (if b then members_at tick l.maker company
        else (if are_all_in l.maker.nodes (known_nodes l.maker company) || is_steady tick l.maker || is_sixth_loop tick l.maker then Some company else None)) ≡ Some members
        → has_configured l.maker.nodes members ≡ true
    by_view true is = of_within tick l.maker company members within (members_are tick l.maker company members is)
    by_view false is = of_within tick l.maker company members within (inl (by_due _ is))

-- a view of members that are configured
given_within : (nodes : List NodeEntry) (found : Option Mask) (test : Mask → Bool) (made : Mask → View) (view : View)
    → ((members : Mask) → found ≡ Some members → has_configured nodes members ≡ true) → ((members : Mask) → (made members).members ≡ members)
    → option_and_then (λ members. if test members then None else Some (made members)) found ≡ Some view → IsWithin nodes view
given_within nodes None test made view within is gives = absurd (none-some view gives)
given_within nodes (Some members) test made view within is gives = by_test (test members) gives
  where
    by_test : (b : Bool) → (if b then None else Some (made members)) ≡ Some view → IsWithin nodes view
    by_test true gives = absurd (none-some view gives)
    by_test false gives =
        subst (IsWithin nodes) (same_Some (made members) view gives) (subst (λ (set : Mask). has_configured nodes set ≡ true) (sym (is members)) (within members refl))

own_name_within : (tick : ℕ) (l : NamingMaker) (company : Mask) (view : View) → has_configured l.maker.nodes company ≡ true → own_by_name tick l company ≡ Some view
    → IsWithin l.maker.nodes view
own_name_within tick l company view within gives = by_present (is_present l.maker company) gives
  where
    anew : (b : Bool) → (if b then Some (view_of l company) else None) ≡ Some view → IsWithin l.maker.nodes view
    anew true is = subst (IsWithin l.maker.nodes) (same_Some (view_of l company) view is) within
    anew false is = absurd (none-some view is)

    by_present : (b : Bool) → (if b then (if is_named_anew tick l (view_of l company) then Some (view_of l company) else None)
        else option_and_then (λ members. if is_present l.maker members then None else Some (view_of l members)) (members_by_name tick l company)) ≡ Some view
        → IsWithin l.maker.nodes view
    by_present true is = anew (is_named_anew tick l (view_of l company)) is
    by_present false is =
        given_within l.maker.nodes (members_by_name tick l company) (is_present l.maker) (view_of l) view
        (λ members found. named_within tick l company members within found) (λ members. refl) is

own_plain_within : (tick : ℕ) (k : Maker) (company : Mask) (view : View) → has_configured k.nodes company ≡ true → own_view tick k company ≡ Some view → IsWithin k.nodes view
own_plain_within tick k company view within gives = by_present (is_present k company) gives
  where
    by_present : (b : Bool) → (if b then None
        else option_and_then (λ members. if is_present k members then None else Some (record { id = next_plain k.greatest; members = members })) (members_at tick k company)) ≡ Some view
        → IsWithin k.nodes view
    by_present true is = absurd (none-some view is)
    by_present false is =
        given_within k.nodes (members_at tick k company) (is_present k) (λ members. record { id = next_plain k.greatest; members = members }) view
        (λ members found. of_within tick k company members within (members_are tick k company members found)) (λ members. refl) is

-- ## A look

module _ (s : Settings) (me tick : ℕ) (m : NamingMaker) (view : View) (known : Knows s me (IsWithin s.nodes) m.maker) where
  followed_within : (k : Maker) → k.announced ≡ m.maker.announced → (leader : ℕ) → followed_view k leader ≡ Some view → IsWithin s.nodes view
  followed_within k same leader is =
      let was : Followed k leader view = followed_was k leader view is in
      known.announced leader view (sym (ap (λ items. Rattle.qn_member.specs.Maker.of_rank items leader) same) ∙ was.announced) was.has_leader

  by_name : view_by_name tick m ≡ Some view → IsWithin s.nodes view
  by_name is = by_came way.who way.came
    where
      l : NamingMaker
      l = looked_by_name tick m

      same : (looked_by_name tick m).maker ≡ noted_then tick m
      same = looked_notes tick m

      way : NextBy (may_begin tick l (company_now (seeing_names tick m))) (led_by l.maker) l.maker.me
          (own_by_name tick l (company_now (seeing_names tick m))) (followed_by_age tick l) view
      way = name_way tick m view is

      nodes : (looked_by_name tick m).maker.nodes ≡ m.maker.nodes
      nodes = ap (λ (k : Maker). k.nodes) same

      by_came : (who : ℕ) → CameOf (own_by_name tick (looked_by_name tick m) (company_now (seeing_names tick m))) (followed_by_age tick (looked_by_name tick m) who) (who == (looked_by_name tick m).maker.me) view
          → IsWithin s.nodes view
      by_came who (inl made) =
          subst (λ all. IsWithin all view) (nodes ∙ known.nodes)
          (own_name_within tick (looked_by_name tick m) (company_now (seeing_names tick m)) view
          (subst (λ all. has_configured all (company_now (seeing_names tick m)) ≡ true) (sym nodes) (name_within tick m)) made.1)
      by_came who (inr taken) =
          followed_within (looked_by_name tick m).maker (ap (λ (k : Maker). k.announced) same) who (aged tick (looked_by_name tick m) who view taken.1)

  by_plain : view_at tick m.maker ≡ Some view → IsWithin s.nodes view
  by_plain is = by_came way.who way.came
    where
      k : Maker
      k = looked tick m.maker

      way : NextBy (may_install tick k (company_at k)) (leader_at k) m.maker.me (own_view tick k (company_at k)) (followed_view k) view
      way = plain_way tick m.maker view is

      by_came : (who : ℕ) → CameOf (own_view tick (looked tick m.maker) (company_at (looked tick m.maker))) (followed_view (looked tick m.maker) who) (who == m.maker.me) view
          → IsWithin s.nodes view
      by_came who (inl made) =
          subst (λ all. IsWithin all view) known.nodes (own_plain_within tick (looked tick m.maker) (company_at (looked tick m.maker)) view (plain_within tick m.maker) made.1)
      by_came who (inr taken) = followed_within (looked tick m.maker) refl who taken.1

  pub found_within : view_found tick m ≡ Some view → IsWithin s.nodes view
  unfolding view_found
  found_within found = by_own (is_own m knows_bit) refl
    where
      by_own : (b : Bool) → is_own m knows_bit ≡ b → IsWithin s.nodes view
      by_own true own = by_name (sym (if_is true (is_own m knows_bit) (view_by_name tick m) (view_at tick m.maker) own) ∙ found)
      by_own false own = by_plain (sym (if_is false (is_own m knows_bit) (view_by_name tick m) (view_at tick m.maker) own) ∙ found)

  -- it has its own node
  pub found_own : me < length s.nodes → view_found tick m ≡ Some view → is_member view.members me ≡ true
  found_own under found = subst (λ r. is_member view.members r ≡ true) known.own (by_came (made_or_taken tick m view found))
    where
      under_own : m.maker.me < length m.maker.nodes
      under_own = subst (λ r. r < length m.maker.nodes) (sym known.own) (subst (λ (all : List NodeEntry). me < length all) (sym known.nodes) under)

      by_member : (b : Bool) → is_member view.members m.maker.me ≡ b → MakesView tick m view → is_member view.members m.maker.me ≡ true
      by_member true is makes = is
      by_member false out makes =
          let left : LeavesOut tick m m.maker.me = leaves_out tick m view m.maker.me under_own makes out in
          absurd (false≢true (sym left.other ∙ eq-eqb m.maker.me m.maker.me refl))

      by_came : MakesView tick m view ⊎ TakesView tick m view → is_member view.members m.maker.me ≡ true
      by_came (inl makes) = by_member (is_member view.members m.maker.me) refl makes
      by_came (inr takes) = takes.has_own

  -- so it fits the log
  pub found_fits : me < length s.nodes → view_found tick m ≡ Some view → is_own_view s me view ≡ true
  found_fits under found = and_from (has_configured s.nodes view.members) (is_member view.members me) (found_within found) (found_own under found)
