use Rattle.std.proofs.Common.{◌≡◌, ℕ, Bool, true, false, sym, ap, ap₂, ◌∙◌, arith, subst, ◌<◌, ◌⊎◌, inl, inr, ◌+◌, ◌&&◌, ◌||◌}
use Rattle.std.specs.Prelude.{◌==◌, nat_lt}
use Rattle.std.proofs.lemmas.Bool.{and_right, cases_order, eq-eqb, lt-ltb, ne_eqb, le-ltb}
use Rattle.qn_base.specs.Members.{is_member}
use Rattle.qn_base.specs.lemmas.Masks.{empty_has_none}
use Rattle.qn_candidate.specs.Candidate.{can}
use Rattle.qn_candidate.proofs.candidate.able.Goals as goal
use Rattle.qn_candidate.proofs.candidate.able.Goals.{then-can, else-can}

same_below : (a b c : Bool) → a ≡ b → (a && c) ≡ (b && c)
same_below a b c e = ap (λ x. x && c) e

-- one number more that passes, and is put in
put_in : (test : ℕ → Bool) (rank j : ℕ) (old : Bool) → test rank ≡ true → old ≡ (nat_lt j rank && test j)
    → (rank == j || old) ≡ (nat_lt j (rank + 1) && test j)
put_in test rank j old passes is = by_order (cases_order rank j)
  where
    by_order : (rank ≡ j) ⊎ ((rank < j) ⊎ (j < rank)) → (rank == j || old) ≡ (nat_lt j (rank + 1) && test j)
    by_order (inl same) =
        ap (λ b. b || old) (eq-eqb rank j same)
        ∙ sym (ap₂ (λ a b. a && b) (lt-ltb j (rank + 1) (omega arith)) (subst (λ n. test n ≡ true) same passes))
    by_order (inr (inl past)) =
        ap₂ (λ a b. a || b) (ne_eqb rank j (λ e. omega arith)) (is ∙ ap (λ a. a && test j) (le-ltb j rank (omega arith)))
        ∙ sym (ap (λ a. a && test j) (le-ltb j (rank + 1) (omega arith)))
    by_order (inr (inr under)) =
        ap₂ (λ a b. a || b) (ne_eqb rank j (λ e. omega arith)) (is ∙ ap (λ a. a && test j) (lt-ltb j rank under))
        ∙ sym (ap (λ a. a && test j) (lt-ltb j (rank + 1) (omega arith)))

-- one number more that does not pass
left_out : (test : ℕ → Bool) (rank j : ℕ) → test rank ≡ false → (nat_lt j rank && test j) ≡ (nat_lt j (rank + 1) && test j)
left_out test rank j fails = by_order (cases_order rank j)
  where
    by_order : (rank ≡ j) ⊎ ((rank < j) ⊎ (j < rank)) → (nat_lt j rank && test j) ≡ (nat_lt j (rank + 1) && test j)
    by_order (inl same) =
        let here : test j ≡ false = subst (λ n. test n ≡ false) same fails in
        and_right (nat_lt j rank) (test j) here ∙ sym (and_right (nat_lt j (rank + 1)) (test j) here)
    by_order (inr (inl past)) = ap (λ a. a && test j) (le-ltb j rank (omega arith) ∙ sym (le-ltb j (rank + 1) (omega arith)))
    by_order (inr (inr under)) = ap (λ a. a && test j) (lt-ltb j rank under ∙ sym (lt-ltb j (rank + 1) (omega arith)))

pub loop-rank-init : goal.loop-rank-init
loop-rank-init c = λ j below.
    empty_has_none j ∙ sym (ap (λ a. a && can c.args.facts.now c.args.members j) (le-ltb j 0 (omega arith)))

pub loop-rank-preserved : goal.loop-rank-preserved
loop-rank-preserved c =
    let test = can c.args.facts.now c.args.members in
    let rank = c.loop-rank.rank in
    λ j below.
    elim c.if-can.branch [
      | then-can w ↦
          ap (λ found. is_member found j) w.found-is
          ∙ (w.with-found.ensures j below
          ∙ put_in test rank j (is_member c.loop-rank.found j) (sym c.can.ensures ∙ w.if-can.true) (c.loop-rank.invariant j below))
      | else-can w ↦
          ap (λ found. is_member found j) w.found-is
          ∙ (c.loop-rank.invariant j below ∙ left_out test rank j (sym c.can.ensures ∙ w.if-can.false))
    ]

pub returns : goal.returns
returns c = λ j below.
    c.loop-rank.invariant j below
    ∙ ap (λ a. a && can c.args.facts.now c.args.members j) (lt-ltb j c.loop-rank.rank (let past = c.loop-rank-test.false in omega arith))
