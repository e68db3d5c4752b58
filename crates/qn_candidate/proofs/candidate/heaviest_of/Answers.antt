use Rattle.std.proofs.Common.{◌≡◌, ℕ, ◌+◌, Bool, None, refl, ap, ◌∙◌, arith, add-one, slice_index}
use Rattle.qn_base.specs.Members.{is_member}
use Rattle.qn_candidate.specs.Candidate.{heavier, heaviest}
use Rattle.qn_candidate.proofs.candidate.heaviest_of.Goals as goal

-- none of no numbers
heaviest-none : (test : ℕ → Bool) (weight : ℕ → ℕ) → None ≡ heaviest test weight 0
unfolding heaviest
heaviest-none test weight = refl

-- one number more
heaviest-next : (test : ℕ → Bool) (weight : ℕ → ℕ) (count : ℕ) → heavier test weight (heaviest test weight count) count ≡ heaviest test weight (count + 1)
unfolding heaviest
heaviest-next test weight count = rw add-one refl

pub loop-rank-init : goal.loop-rank-init
loop-rank-init c =
    record { value = heaviest-none (λ rank. is_member c.args.able rank) (λ rank. slice_index c.args.facts.now.weights rank); below = tt }

pub loop-rank-preserved : goal.loop-rank-preserved
loop-rank-preserved c =
    let test = λ (rank : ℕ). is_member c.args.able rank in
    let weight = λ (rank : ℕ). slice_index c.args.facts.now.weights rank in
    record {
      value = c.heavier-best.ensures.value
          ∙ (ap (λ best. heavier test weight best c.loop-rank.rank) c.loop-rank.invariant.value ∙ heaviest-next test weight c.loop-rank.rank);
      below = c.heavier-best.ensures.below;
    }

pub returns : goal.returns
returns c =
    let ended : c.loop-rank.rank ≡ 32 = let past = c.loop-rank-test.false in let within = c.loop-rank.auto.rank-end in omega arith in
    c.loop-rank.invariant.value
    ∙ ap (heaviest (λ rank. is_member c.args.able rank) (λ rank. slice_index c.args.facts.now.weights rank)) ended
