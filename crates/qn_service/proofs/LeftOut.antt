-- Whom a view that a look makes leaves out.
use Rattle.std.proofs.Common.{◌≡◌, ◌⊎◌, inl, inr, ℕ, ◌<◌, ◌≤◌, Bool, true, false, not, ◌&&◌, ◌||◌, ◌==◌, Option, None, Some, length, is_some, if◌then◌else◌, refl, sym, ◌∙◌, ap, subst, arith, eq-eqb}
use Rattle.std.specs.Prelude.{nat_lt, option_and_then}
use Rattle.std.specs.Option.{option_map_or}
use Rattle.std.proofs.lemmas.Bool.{and_cases, cases_lt, eqb-false, eqb-true, false≢true, lt-ltb, or_parts, true≢false}
use Rattle.std.proofs.lemmas.Option.{none-some, same_Some}
use Rattle.qn_base.specs.declared.ids.Mask.{Mask}
use Rattle.qn_base.specs.declared.ids.View.{View}
use Rattle.qn_base.specs.Members.{is_member}
use Rattle.qn_model.specs.Votes.{are_all_in}
use Rattle.qn_candidate.specs.Numbers.{next_plain}
use Rattle.qn_member.specs.Maker.{Maker, company_at, company_under, followed_view, follows_other, is_first_due, is_led, is_present, is_present_member, is_steady, is_visible, known_nodes, leader_at, led_by, led_nodes, looked, may_install, members_at, own_view, view_at, visible_nodes}
use Rattle.qn_member.specs.Naming.{NamingMaker, company_by_name, follows_follower, is_led_by_name, is_own, knows_all, knows_bit, leader_by_name, led_by_name}
use Rattle.qn_member.specs.NamingViews.{company_now, facts_seen, followed_by_age, is_named_anew, is_sixth_loop, looked_by_name, may_begin, members_by_name, own_by_name, seeing_names, view_by_name, view_found, view_of}
use Rattle.qn_service.specs.Leading.{LeavesOut, MakesView, company_then, has_hello, known_then, names_then}
use Rattle.qn_service.proofs.Made.{CameOf, NextBy, if_is, looked_notes, name_way, noted_then, plain_way}
use Rattle.qn_service.proofs.Outside.{OutOf, members_out, no_present, same_out}
use Rattle.qn_service.proofs.Ranks.{not_all_in, out_fails}

-- ## Who is apart

-- who is not led by a node is another one; it is not seen, or follows another, or is of less rank
abbrev ApartOf : Maker → ℕ → Type 0
ApartOf k rank = (is_member k.seen rank ≡ false) ⊎ ((follows_other k rank ≡ true) ⊎ (rank < k.me))

less_rank : (k : Maker) (rank : ℕ) → (rank == k.me) ≡ false → nat_lt k.me rank ≡ false → rank < k.me
less_rank k rank other behind = by_order (cases_lt k.me rank) (cases_lt rank k.me)
  where
    by_order : (k.me < rank) ⊎ (rank ≤ k.me) → (rank < k.me) ⊎ (k.me ≤ rank) → rank < k.me
    by_order (inl past) place = absurd (true≢false (sym (lt-ltb k.me rank past) ∙ behind))
    by_order (inr under) (inl before) = before
    by_order (inr under) (inr at) = absurd (eqb-false rank k.me other (omega arith))

not_false : (b : Bool) → not b ≡ false → b ≡ true
not_false true is = refl
not_false false is = absurd (true≢false is)

led_apart : (k : Maker) (rank : ℕ) → is_led k k.seen rank ≡ false → ((rank == k.me) ≡ false) × ApartOf k rank
led_apart k rank out =
    let parts = or_parts (rank == k.me) _ out in
    (parts.0, by_rest parts.0 (and_cases (is_member k.seen rank && nat_lt k.me rank) (not (follows_other k rank)) parts.1))
  where
    by_seen : (rank == k.me) ≡ false → (is_member k.seen rank ≡ false) ⊎ (nat_lt k.me rank ≡ false) → ApartOf k rank
    by_seen other (inl unseen) = inl unseen
    by_seen other (inr behind) = inr (inr (less_rank k rank other behind))

    by_rest : (rank == k.me) ≡ false → ((is_member k.seen rank && nat_lt k.me rank) ≡ false) ⊎ (not (follows_other k rank) ≡ false) → ApartOf k rank
    by_rest other (inl first) = by_seen other (and_cases (is_member k.seen rank) (nat_lt k.me rank) first)
    by_rest other (inr follows) = inr (inl (not_false (follows_other k rank) follows))

-- where all know names, rank does not count
name_apart : (m : NamingMaker) (rank : ℕ) → is_led_by_name m rank ≡ false
    → ((rank == m.maker.me) ≡ false) × ((is_member m.maker.seen rank ≡ false) ⊎ (follows_other m.maker rank ≡ true))
name_apart m rank out =
    let parts = or_parts (rank == m.maker.me) _ out in
    (parts.0, by_rest (and_cases (is_member m.maker.seen rank) _ parts.1))
  where
    by_rest : (is_member m.maker.seen rank ≡ false) ⊎ ((not (follows_other m.maker rank) || follows_follower m.maker rank) ≡ false)
        → (is_member m.maker.seen rank ≡ false) ⊎ (follows_other m.maker rank ≡ true)
    by_rest (inl unseen) = inl unseen
    by_rest (inr follows) = inr (not_false (follows_other m.maker rank) (or_parts (not (follows_other m.maker rank)) _ follows).0)

-- a company is whom the node leads, or whom it sees
led_or_seen : (k : Maker) (leader : Option ℕ) (rank : ℕ) → is_member (option_map_or (company_under k k.seen) leader k.seen) rank ≡ false
    → (is_member k.seen rank ≡ false) ⊎ (is_member (led_nodes k k.seen) rank ≡ false)
led_or_seen k None rank out = inl out
led_or_seen k (Some leader) rank out = by_own (leader == k.me) out
  where
    by_own : (b : Bool) → is_member (if b then led_nodes k k.seen else k.seen) rank ≡ false
        → (is_member k.seen rank ≡ false) ⊎ (is_member (led_nodes k k.seen) rank ≡ false)
    by_own true out = inr out
    by_own false out = inl out

-- What a node that is out of a company is, by what the view maker knows then: another one, and apart.
record AwayOf (tick : ℕ) (m : NamingMaker) (k : Maker) (rank : ℕ) : Type 0 where
  other : (rank == m.maker.me) ≡ false
  apart : (is_visible tick m.maker rank ≡ false) ⊎ ((follows_other k rank ≡ true) ⊎ ((names_then tick m ≡ false) × (rank < m.maker.me)))

unseen_away : (tick : ℕ) (m : NamingMaker) (k : Maker) (rank : ℕ) → rank < length m.maker.nodes → is_member (visible_nodes tick m.maker) rank ≡ false → AwayOf tick m k rank
unseen_away tick m k rank under unseen =
    let invisible = out_fails (is_visible tick m.maker) (length m.maker.nodes) rank unseen under in
    record { other = (or_parts (rank == m.maker.me) _ invisible).0; apart = inl invisible }

-- of a view maker that does not know that all know names
plain_away : (tick : ℕ) (m : NamingMaker) (k : Maker) (leader : Option ℕ) (rank : ℕ) → rank < length m.maker.nodes
    → k.seen ≡ visible_nodes tick m.maker → k.me ≡ m.maker.me → k.nodes ≡ m.maker.nodes → names_then tick m ≡ false
    → is_member (option_map_or (company_under k k.seen) leader k.seen) rank ≡ false → AwayOf tick m k rank
plain_away tick m k leader rank under sees own nodes unnamed out = by_way (led_or_seen k leader rank out)
  where
    unseen : is_member k.seen rank ≡ false → AwayOf tick m k rank
    unseen is = unseen_away tick m k rank under (subst (λ (set : Mask). is_member set rank ≡ false) sees is)

    by_apart : (rank == k.me) ≡ false → ApartOf k rank → AwayOf tick m k rank
    by_apart other (inl is) = unseen is
    by_apart other (inr (inl follows)) = record { other = subst (λ n. (rank == n) ≡ false) own other; apart = inr (inl follows) }
    by_apart other (inr (inr less)) = record { other = subst (λ n. (rank == n) ≡ false) own other; apart = inr (inr (unnamed, subst (λ n. rank < n) own less)) }

    by_way : (is_member k.seen rank ≡ false) ⊎ (is_member (led_nodes k k.seen) rank ≡ false) → AwayOf tick m k rank
    by_way (inl is) = unseen is
    by_way (inr is) =
        let two = led_apart k rank (out_fails (is_led k k.seen) (length k.nodes) rank is (subst (λ nodes. rank < length nodes) (sym nodes) under)) in
        by_apart two.0 two.1

-- of one that knows names
name_away : (tick : ℕ) (m : NamingMaker) (rank : ℕ) → rank < length m.maker.nodes → is_member (company_now (seeing_names tick m)) rank ≡ false
    → AwayOf tick m (noted_then tick m) rank
name_away tick m rank under out = by_names (knows_all (seeing_names tick m) (seeing_names tick m).maker.seen) refl out
  where
    seen : NamingMaker
    seen = seeing_names tick m

    by_led : ((rank == m.maker.me) ≡ false) × ((is_member seen.maker.seen rank ≡ false) ⊎ (follows_other seen.maker rank ≡ true)) → AwayOf tick m (noted_then tick m) rank
    by_led (other, inl is) = unseen_away tick m (noted_then tick m) rank under is
    by_led (other, inr follows) = record { other = other; apart = inr (inl follows) }

    by_leader : (b : Bool) → is_member (if b then led_by_name seen else seen.maker.seen) rank ≡ false → AwayOf tick m (noted_then tick m) rank
    by_leader true is = by_led (name_apart seen rank (out_fails (is_led_by_name seen) (length m.maker.nodes) rank is under))
    by_leader false is = unseen_away tick m (noted_then tick m) rank under is

    by_names : (b : Bool) → names_then tick m ≡ b → is_member (if b then company_by_name seen (facts_seen seen) else company_at seen.maker) rank ≡ false
        → AwayOf tick m (noted_then tick m) rank
    by_names true named is = by_leader (option_map_or (λ leader. leader == m.maker.me) (leader_by_name seen (facts_seen seen)) false) is
    by_names false unnamed is = plain_away tick m (noted_then tick m) (leader_at seen.maker) rank under refl refl refl unnamed is

-- ## Who is out of a view

-- a view of the present members, under another name
present_out : (tick : ℕ) (m : Maker) (company members : Mask) (rank : ℕ) → is_present m company ≡ true → company ≡ members → is_member members rank ≡ false
    → OutOf tick m company rank
present_out tick m company members rank is same out =
    let away = same_out rank company members same out in
    record { away = away; waited = λ there heard. absurd (false≢true (sym (by_view m.view is away) ∙ there)) }
  where
    by_view : (present : Option View) → option_map_or (λ (seen : View). seen.members.0 == company.0) present false ≡ true → is_member company rank ≡ false
        → option_map_or (λ (seen : View). is_member seen.members rank) present false ≡ false
    by_view None is away = absurd (false≢true is)
    by_view (Some seen) is away =
        let same : seen.members.0 ≡ company.0 = eqb-true seen.members.0 company.0 is in
        subst (λ n. is_member (record { 0 = n }) rank ≡ false) (sym same) away

-- the members of a view of a node that knows names
named_out : (tick : ℕ) (m : NamingMaker) (company members : Mask) (rank : ℕ) → rank < length m.maker.nodes → is_member members rank ≡ false
    → members_by_name tick m company ≡ Some members → OutOf tick m.maker company rank
named_out tick m company members rank under out gives = by_view (is_some m.maker.view) refl gives
  where
    by_due : (b : Bool) → (if b then Some company else None) ≡ Some members → company ≡ members
    by_due true is = same_Some company members is
    by_due false is = absurd (none-some members is)

    by_view : (b : Bool) → is_some m.maker.view ≡ b
        → (if b then members_at tick m.maker company
        else (if are_all_in m.maker.nodes (known_nodes m.maker company) || is_steady tick m.maker || is_sixth_loop tick m.maker then Some company else None)) ≡ Some members
        → OutOf tick m.maker company rank
    by_view true some is = members_out tick m.maker company members rank under out is
    by_view false none is =
        record {
          away = same_out rank company members (by_due _ is) out;
          waited = λ present heard. absurd (false≢true (sym (no_present m.maker rank none) ∙ present));
        }

own_name_out : (tick : ℕ) (m : NamingMaker) (company : Mask) (view : View) (rank : ℕ) → rank < length m.maker.nodes → is_member view.members rank ≡ false
    → own_by_name tick m company ≡ Some view → OutOf tick m.maker company rank
own_name_out tick m company view rank under out gives = by_present (is_present m.maker company) refl gives
  where
    anew : (b : Bool) → (if b then Some (view_of m company) else None) ≡ Some view → company ≡ view.members
    anew true is = ap (λ (v : View). v.members) (same_Some (view_of m company) view is)
    anew false is = absurd (none-some view is)

    given : (members : Mask) (b : Bool) → (if b then None else Some (view_of m members)) ≡ Some view → members ≡ view.members
    given members true is = absurd (none-some view is)
    given members false is = ap (λ (v : View). v.members) (same_Some (view_of m members) view is)

    by_found : (found : Option Mask) → members_by_name tick m company ≡ found
        → option_and_then (λ members. if is_present m.maker members then None else Some (view_of m members)) found ≡ Some view → OutOf tick m.maker company rank
    by_found None is e = absurd (none-some view e)
    by_found (Some members) is e =
        named_out tick m company members rank under (same_out rank members view.members (given members (is_present m.maker members) e) out) is

    by_present : (b : Bool) → is_present m.maker company ≡ b
        → (if b then (if is_named_anew tick m (view_of m company) then Some (view_of m company) else None)
        else option_and_then (λ members. if is_present m.maker members then None else Some (view_of m members)) (members_by_name tick m company)) ≡ Some view
        → OutOf tick m.maker company rank
    by_present true is e = present_out tick m.maker company view.members rank is (anew (is_named_anew tick m (view_of m company)) e) out
    by_present false is e = by_found (members_by_name tick m company) refl e

own_out : (tick : ℕ) (m : Maker) (company : Mask) (view : View) (rank : ℕ) → rank < length m.nodes → is_member view.members rank ≡ false
    → own_view tick m company ≡ Some view → OutOf tick m company rank
own_out tick m company view rank under out gives = by_present (is_present m company) gives
  where
    given : (members : Mask) (b : Bool) → (if b then None else Some (record { id = next_plain m.greatest; members = members })) ≡ Some view → members ≡ view.members
    given members true is = absurd (none-some view is)
    given members false is = ap (λ (v : View). v.members) (same_Some (record { id = next_plain m.greatest; members = members }) view is)

    by_found : (found : Option Mask) → members_at tick m company ≡ found
        → option_and_then (λ members. if is_present m members then None else Some (record { id = next_plain m.greatest; members = members })) found ≡ Some view
        → OutOf tick m company rank
    by_found None is e = absurd (none-some view e)
    by_found (Some members) is e = members_out tick m company members rank under (same_out rank members view.members (given members (is_present m members) e) out) is

    by_present : (b : Bool) → (if b then None
        else option_and_then (λ members. if is_present m members then None else Some (record { id = next_plain m.greatest; members = members })) (members_at tick m company)) ≡ Some view
        → OutOf tick m company rank
    by_present true e = absurd (none-some view e)
    by_present false e = by_found (members_at tick m company) refl e

-- ## The first view

first_due : (some due all meets : Bool) → some ≡ false → (some || due || all && meets) ≡ true → all ≡ false → due ≡ true
first_due true due all meets none may out = absurd (true≢false none)
first_due false true all meets none may out = refl
first_due false false true meets none may out = absurd (true≢false out)
first_due false false false meets none may out = absurd (false≢true may)

first_due_plain : (some all due : Bool) → some ≡ false → (some || all || due) ≡ true → all ≡ false → due ≡ true
first_due_plain true all due none may out = absurd (true≢false none)
first_due_plain false true due none may out = absurd (true≢false out)
first_due_plain false false due none may out = may

-- one who is out of company is configured, so not all are in it
not_all : (m : Maker) (company : Mask) (rank : ℕ) → rank < length m.nodes → is_member company rank ≡ false → are_all_in m.nodes company ≡ false
not_all m company rank under out = not_all_in company 0 (length m.nodes) rank (omega arith) (omega arith) out

-- ## A node that a view leaves out

-- the same, by what is known then
record LeavesBy (tick : ℕ) (m : NamingMaker) (k : Maker) (company : Mask) (rank : ℕ) : Type 0 where
  away : AwayOf tick m k rank
  out : OutOf tick k company rank
  first : k.view ≡ None → is_first_due tick k company ≡ true

leaves_name : (tick : ℕ) (m : NamingMaker) (view : View) (rank : ℕ) → rank < length m.maker.nodes → is_member view.members rank ≡ false
    → led_by (looked_by_name tick m).maker ≡ Some m.maker.me → view_by_name tick m ≡ Some view
    → LeavesBy tick m (noted_then tick m) (company_now (seeing_names tick m)) rank
leaves_name tick m view rank under out leads gives = by_came way.who way.leads way.came way.due
  where
    company : Mask
    company = company_now (seeing_names tick m)

    after : NamingMaker
    after = looked_by_name tick m

    same : after.maker ≡ noted_then tick m
    same = looked_notes tick m

    way : NextBy (may_begin tick after company) (led_by after.maker) after.maker.me (own_by_name tick after company) (followed_by_age tick after) view
    way = name_way tick m view gives

    under_then : rank < length after.maker.nodes
    under_then = subst (λ (k : Maker). rank < length k.nodes) (sym same) under

    own : (who : ℕ) → led_by after.maker ≡ Some who → CameOf (own_by_name tick after company) (followed_by_age tick after who) (who == after.maker.me) view
        → own_by_name tick after company ≡ Some view
    own who led (inl made) = made.1
    own who led (inr taken) =
        let me : who ≡ after.maker.me = same_Some who m.maker.me (sym led ∙ leads) ∙ sym (ap (λ (k : Maker). k.me) same) in
        absurd (true≢false (sym (eq-eqb who after.maker.me me) ∙ taken.0))

    outside : (who : ℕ) → led_by after.maker ≡ Some who → CameOf (own_by_name tick after company) (followed_by_age tick after who) (who == after.maker.me) view
        → OutOf tick after.maker company rank
    outside who led came = own_name_out tick after company view rank under_then out (own who led came)

    by_out : OutOf tick after.maker company rank → may_begin tick after company ≡ true → LeavesBy tick m (noted_then tick m) company rank
    by_out there due =
        let here : OutOf tick (noted_then tick m) company rank = subst (λ (k : Maker). OutOf tick k company rank) same there in
        record {
          away = name_away tick m rank under here.away;
          out = here;
          first = λ none. subst (λ (k : Maker). k.view ≡ None → is_first_due tick k company ≡ true) same
              (λ absent. first_due (is_some after.maker.view) (is_first_due tick after.maker company) (are_all_in after.maker.nodes company) _ (ap is_some absent) due
              (not_all after.maker company rank under_then there.away)) none;
        }

    by_came : (who : ℕ) → led_by after.maker ≡ Some who → CameOf (own_by_name tick after company) (followed_by_age tick after who) (who == after.maker.me) view
        → may_begin tick after company ≡ true → LeavesBy tick m (noted_then tick m) company rank
    by_came who led came due = by_out (outside who led came) due

leaves_plain : (tick : ℕ) (m : NamingMaker) (view : View) (rank : ℕ) → rank < length m.maker.nodes → is_member view.members rank ≡ false
    → names_then tick m ≡ false → leader_at (looked tick m.maker) ≡ Some m.maker.me → view_at tick m.maker ≡ Some view
    → LeavesBy tick m (looked tick m.maker) (company_at (looked tick m.maker)) rank
leaves_plain tick m view rank under out unnamed leads gives = by_came way.who way.leads way.came way.due
  where
    k : Maker
    k = looked tick m.maker

    way : NextBy (may_install tick k (company_at k)) (leader_at k) m.maker.me (own_view tick k (company_at k)) (followed_view k) view
    way = plain_way tick m.maker view gives

    own : (who : ℕ) → leader_at k ≡ Some who → CameOf (own_view tick k (company_at k)) (followed_view k who) (who == m.maker.me) view
        → own_view tick k (company_at k) ≡ Some view
    own who led (inl made) = made.1
    own who led (inr taken) =
        let me : who ≡ m.maker.me = same_Some who m.maker.me (sym led ∙ leads) in
        absurd (true≢false (sym (eq-eqb who m.maker.me me) ∙ taken.0))

    by_out : OutOf tick k (company_at k) rank → may_install tick k (company_at k) ≡ true → LeavesBy tick m k (company_at k) rank
    by_out there due =
        record {
          away = plain_away tick m k (leader_at k) rank under refl refl refl unnamed there.away;
          out = there;
          first = λ none. first_due_plain (is_some k.view) (are_all_in k.nodes (company_at k)) (is_first_due tick k (company_at k)) (ap is_some none) due
              (not_all k (company_at k) rank under there.away);
        }

    by_came : (who : ℕ) → leader_at k ≡ Some who → CameOf (own_view tick k (company_at k)) (followed_view k who) (who == m.maker.me) view
        → may_install tick k (company_at k) ≡ true → LeavesBy tick m k (company_at k) rank
    by_came who led came due = by_out (own_out tick k (company_at k) view rank under out (own who led came)) due

-- a view maker that keeps what it knew of Hellos and of the present view
leaves_from : (tick : ℕ) (m : NamingMaker) (rank : ℕ) → LeavesBy tick m (known_then tick m) (company_then tick m) rank
    → (is_present_member m.maker rank ≡ is_present_member (known_then tick m) rank) × ((has_hello tick m.maker rank ≡ has_hello tick (known_then tick m) rank) × (m.maker.view ≡ (known_then tick m).view))
    → LeavesOut tick m rank
leaves_from tick m rank by (present, (heard, seen)) =
    record {
      other = by.away.other;
      apart = by.away.apart;
      waited = λ there hello. by.out.waited (sym present ∙ there) (sym heard ∙ hello);
      first = λ none. by.first (sym seen ∙ none);
    }

none_first : (a b c : Bool) → a ≡ false → (a && b && c) ≡ false
none_first true b c is = absurd (true≢false is)
none_first false b c is = refl

-- a node that knows no names does not know that all know them
unnamed : (tick : ℕ) (m : NamingMaker) → is_own m knows_bit ≡ false → names_then tick m ≡ false
unnamed tick m off = none_first (is_own m knows_bit) _ _ off

pub leaves_out : (tick : ℕ) (m : NamingMaker) (view : View) (rank : ℕ) → rank < length m.maker.nodes → MakesView tick m view → is_member view.members rank ≡ false
    → LeavesOut tick m rank
unfolding view_found
leaves_out tick m view rank under makes out = by_own (is_own m knows_bit) refl
  where
    by_own : (b : Bool) → is_own m knows_bit ≡ b → LeavesOut tick m rank
    by_own true own =
        let leads : led_by (looked_by_name tick m).maker ≡ Some m.maker.me = sym (if_is true (is_own m knows_bit) _ _ own) ∙ makes.leads in
        let gives : view_by_name tick m ≡ Some view = sym (if_is true (is_own m knows_bit) _ _ own) ∙ makes.gives in
        let by = leaves_name tick m view rank under out leads gives in
        let knows : known_then tick m ≡ noted_then tick m = if_is true (is_own m knows_bit) _ _ own ∙ looked_notes tick m in
        let together : company_then tick m ≡ company_now (seeing_names tick m) = if_is true (is_own m knows_bit) _ _ own in
        leaves_from tick m rank
        (subst (λ (k : Maker). LeavesBy tick m k (company_then tick m) rank) (sym knows)
        (subst (λ (company : Mask). LeavesBy tick m (noted_then tick m) company rank) (sym together) by))
        (subst (λ (k : Maker). (is_present_member m.maker rank ≡ is_present_member k rank) × ((has_hello tick m.maker rank ≡ has_hello tick k rank) × (m.maker.view ≡ k.view))) (sym knows)
        (refl, (refl, refl)))
    by_own false own =
        let leads : leader_at (looked tick m.maker) ≡ Some m.maker.me = sym (if_is false (is_own m knows_bit) _ _ own) ∙ makes.leads in
        let gives : view_at tick m.maker ≡ Some view = sym (if_is false (is_own m knows_bit) _ _ own) ∙ makes.gives in
        let by = leaves_plain tick m view rank under out (unnamed tick m own) leads gives in
        let knows : known_then tick m ≡ looked tick m.maker = if_is false (is_own m knows_bit) _ _ own in
        let together : company_then tick m ≡ company_at (looked tick m.maker) = if_is false (is_own m knows_bit) _ _ own in
        leaves_from tick m rank
        (subst (λ (k : Maker). LeavesBy tick m k (company_then tick m) rank) (sym knows)
        (subst (λ (company : Mask). LeavesBy tick m (looked tick m.maker) company rank) (sym together) by))
        (subst (λ (k : Maker). (is_present_member m.maker rank ≡ is_present_member k rank) × ((has_hello tick m.maker rank ≡ has_hello tick k rank) × (m.maker.view ≡ k.view))) (sym knows)
        (refl, (refl, refl)))
