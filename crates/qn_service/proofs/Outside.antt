-- A look makes a view or takes one, and what holds of a node that a view that it makes leaves out.
use Rattle.std.proofs.Common.{◌≡◌, ◌⊎◌, inl, inr, ℕ, ◌<◌, Bool, true, false, not, ◌&&◌, ◌||◌, ◌==◌, Option, None, Some, length, is_some, if◌then◌else◌, refl, sym, ◌∙◌, ap, subst, arith}
use Rattle.std.specs.Prelude.{nat_le}
use Rattle.std.specs.Option.{option_map_or}
use Rattle.std.proofs.lemmas.Bool.{eqb-true, false≢true, not-true, or_parts, or_right, true≢false}
use Rattle.std.proofs.lemmas.Option.{none-some, same_Some}
use Rattle.qn_base.specs.declared.ids.Mask.{Mask}
use Rattle.qn_base.specs.declared.ids.View.{View}
use Rattle.qn_base.specs.Members.{is_member}
use Rattle.qn_base.specs.lemmas.Masks.{empty_has_none}
use Rattle.qn_model.specs.Votes.{are_all_in}
use Rattle.qn_member.specs.Maker.{Maker, disputed_nodes, has_left, is_disputed, is_heard, is_kept, is_known, is_overdue, is_present_member, is_quiet, is_steady, kept_nodes, known_nodes, members_at, of_rank, overdue_nodes, three_loops_after}
use Rattle.qn_service.specs.Leading.{has_hello}
use Rattle.qn_service.proofs.Ranks.{fails_out, not_all_in, out_fails, passes_in}

-- ## Who is out of a view of these members

-- how the members of a view come of a company: all are known; there was no view; or nobody is in dispute
abbrev pub CameBy : Bool → Bool → Bool → Mask → Mask → Mask → Type 0
CameBy known first disputed company kept members =
    ((known ≡ true) × (company ≡ members))
    ⊎ (((first ≡ true) × (company ≡ members))
    ⊎ ((disputed ≡ false) × ((company ≡ members) ⊎ (kept ≡ members))))

pub came_by : (known first quiet disputed steady due : Bool) (company kept members : Mask)
    → (if known then Some company
    else (if first then (if quiet then Some company else None)
    else (if disputed then None
    else (if steady then Some company
    else (if due then None else Some kept))))) ≡ Some members
    → CameBy known first disputed company kept members
came_by true first quiet disputed steady due company kept members is = inl (refl, same_Some company members is)
came_by false true true disputed steady due company kept members is = inr (inl (refl, same_Some company members is))
came_by false true false disputed steady due company kept members is = absurd (none-some members is)
came_by false false quiet true steady due company kept members is = absurd (none-some members is)
came_by false false quiet false true due company kept members is = inr (inr (refl, inl (same_Some company members is)))
came_by false false quiet false false true company kept members is = absurd (none-some members is)
came_by false false quiet false false false company kept members is = inr (inr (refl, inr (same_Some kept members is)))

-- who is out of such a view is out of the company; a present member of which a Hello came is overdue then
pub record OutOf (tick : ℕ) (m : Maker) (company : Mask) (rank : ℕ) : Type 0 where
  pub away : is_member company rank ≡ false
  pub waited : is_present_member m rank ≡ true → has_hello tick m rank ≡ true → is_overdue tick m rank ≡ true

overdue_else : (overdue left company present heard : Bool) → present ≡ true → heard ≡ true → company ≡ false → left ≡ false
    → ((present && not company && not left && not overdue) && heard) ≡ false → overdue ≡ true
overdue_else true left company present heard p h c l agreed = refl
overdue_else false left company false heard p h c l agreed = absurd (false≢true p)
overdue_else false left true true heard p h c l agreed = absurd (true≢false c)
overdue_else false true false true heard p h c l agreed = absurd (true≢false l)
overdue_else false false false true false p h c l agreed = absurd (false≢true h)
overdue_else false false false true true p h c l agreed = absurd (true≢false agreed)

-- one of which a Hello came has not left, and is heard
hello_stays : (tick : ℕ) (m : Maker) (rank : ℕ) → has_hello tick m rank ≡ true → has_left m rank ≡ false
hello_stays tick m rank is = by_hello (of_rank m.hellos rank) _ is
  where
    by_hello : (o : Option ℕ) (rest : Bool) → option_map_or (λ heard. nat_le tick (three_loops_after m heard)) o false ≡ true → (not (is_some o) && rest) ≡ false
    by_hello None rest is = absurd (false≢true is)
    by_hello (Some heard) rest is = refl

hello_heard : (tick : ℕ) (m : Maker) (rank : ℕ) → has_hello tick m rank ≡ true → is_heard tick m rank ≡ true
hello_heard tick m rank is = or_right (rank == m.me) _ is

-- a set that is no number has nobody
none_in_it : (set : Mask) (rank : ℕ) → not (set.0 == 0) ≡ false → (test : Bool) → (test ≡ true → is_member set rank ≡ true) → test ≡ false
none_in_it set rank none true member =
    let zero : set.0 ≡ 0 = by_test (set.0 == 0) refl none in
    absurd (false≢true (sym (ap (λ n. is_member (record { 0 = n }) rank) zero ∙ empty_has_none rank) ∙ member refl))
  where
    by_test : (b : Bool) → (set.0 == 0) ≡ b → not b ≡ false → set.0 ≡ 0
    by_test true is none = eqb-true set.0 0 is
    by_test false is none = absurd (true≢false none)
none_in_it set rank none false member = refl

pub same_out : (rank : ℕ) (one other : Mask) → one ≡ other → is_member other rank ≡ false → is_member one rank ≡ false
same_out rank one other same out = subst (λ (set : Mask). is_member set rank ≡ false) (sym same) out

-- one who is kept is in, so who is out of those kept is out of the company
kept_out : (tick : ℕ) (m : Maker) (company : Mask) (rank : ℕ) → rank < length m.nodes → is_member (kept_nodes tick m company) rank ≡ false → is_member company rank ≡ false
kept_out tick m company rank under out = (or_parts (is_member company rank) _ (out_fails (is_kept tick m company) (length m.nodes) rank out under)).0

-- who is out of company is not known of, unless it left
unknown_out : (m : Maker) (company : Mask) (rank : ℕ) → rank < length m.nodes → is_member company rank ≡ false → has_left m rank ≡ false
    → are_all_in m.nodes (known_nodes m company) ≡ false
unknown_out m company rank under out here =
    not_all_in (known_nodes m company) 0 (length m.nodes) rank (omega arith) (omega arith)
    (fails_out (is_known m company) (length m.nodes) rank (neither (is_member company rank) (has_left m rank) out here))
  where
    neither : (a b : Bool) → a ≡ false → b ≡ false → (a || b) ≡ false
    neither true b first second = absurd (true≢false first)
    neither false b first second = second

-- without a view nobody is present
pub no_present : (m : Maker) (rank : ℕ) → is_some m.view ≡ false → is_present_member m rank ≡ false
no_present m rank none = by_view m.view none
  where
    by_view : (present : Option View) → is_some present ≡ false → option_map_or (λ (seen : View). is_member seen.members rank) present false ≡ false
    by_view None none = refl
    by_view (Some seen) none = absurd (true≢false none)

pub members_out : (tick : ℕ) (m : Maker) (company members : Mask) (rank : ℕ) → rank < length m.nodes → is_member members rank ≡ false
    → members_at tick m company ≡ Some members → OutOf tick m company rank
members_out tick m company members rank under out gives =
    by_way (came_by (are_all_in m.nodes (known_nodes m company)) (not (is_some m.view)) (option_map_or (is_quiet tick m) m.change false)
    (not ((disputed_nodes tick m company).0 == 0)) (is_steady tick m) ((overdue_nodes tick m).0 == 0) company (kept_nodes tick m company) members gives)
  where
    agreed : not ((disputed_nodes tick m company).0 == 0) ≡ false → is_member company rank ≡ false
        → is_present_member m rank ≡ true → has_hello tick m rank ≡ true → is_overdue tick m rank ≡ true
    agreed none away present heard =
        overdue_else (is_overdue tick m rank) (has_left m rank) (is_member company rank) (is_present_member m rank) (is_heard tick m rank)
        present (hello_heard tick m rank heard) away (hello_stays tick m rank heard)
        (none_in_it (disputed_nodes tick m company) rank none (is_disputed tick m company rank) (passes_in (is_disputed tick m company) (length m.nodes) rank under))

    by_way : CameBy (are_all_in m.nodes (known_nodes m company)) (not (is_some m.view)) (not ((disputed_nodes tick m company).0 == 0)) company (kept_nodes tick m company) members
        → OutOf tick m company rank
    by_way (inl known) =
        let away = same_out rank company members known.1 out in
        record {
          away = away;
          waited = λ present heard. absurd (false≢true (sym (unknown_out m company rank under away (hello_stays tick m rank heard)) ∙ known.0));
        }
    by_way (inr (inl first)) =
        record {
          away = same_out rank company members first.1 out;
          waited = λ present heard. absurd (false≢true (sym (no_present m rank (not-true (is_some m.view) first.0)) ∙ present));
        }
    by_way (inr (inr (none, inl same))) =
        let away = same_out rank company members same out in
        record { away = away; waited = agreed none away }
    by_way (inr (inr (none, inr same))) =
        let away = kept_out tick m company rank under (same_out rank (kept_nodes tick m company) members same out) in
        record { away = away; waited = agreed none away }
