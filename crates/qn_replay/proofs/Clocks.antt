-- A pass that is drawn is well formed, and so is a view.
use Rattle.std.proofs.Common.{◌≡◌, ℕ, zero, suc, ◌+◌, ◌*◌, ◌%◌, ◌^◌, ◌<◌, ◌≤◌, Bool, true, false, List, [], refl, sym, ap, ap₂, ◌∙◌, subst, arith, nat_le, lit<, lit≤}
use Rattle.std.specs.Prelude.{bit_or}
use Rattle.std.proofs.lemmas.Bool.Decides.{nat_tests}
use Rattle.qn_base.specs.declared.ids.Rank.{Rank}
use Rattle.qn_model.specs.declared.events.Event.TheVariants.{Pass}
use Rattle.qn_model.specs.Rules.{is_well_formed, is_between}
use Rattle.qn_replay.specs.Draws.{draw_at, next_state}
use Rattle.qn_replay.specs.Generator.{DrawnClocks, soak_settings, pass_at, pass_with, clocks_of, with_clock, length_at}

advance_fits : (dt v : ℕ) → dt ≤ 400 → nat_le (99 * dt + v % (2 * dt + 1)) 1000000000000 ≡ true
advance_fits dt v short =
    let small : v % (2 * dt + 1) < 2 * dt + 1 = omega arith in
    grind (arith, nat_tests)

length_fits : (v : ℕ) → is_between 1 1000000000 (1 + v % 400) ≡ true
length_fits v =
    let small : v % 400 < 400 = omega arith in
    grind (arith, nat_tests)

-- a pass with the clocks of any of the nodes is well formed
pass_formed_at : (dt : ℕ) (first second third : Bool) (state : ℕ) → dt ≤ 400 → is_between 1 1000000000 dt ≡ true
    → is_well_formed soak_settings (Pass dt (clocks_of dt first second third state).clocks) ≡ true
unfolding is_well_formed clocks_of with_clock
pass_formed_at dt false false false state short fits = rw fits refl
pass_formed_at dt true false false state short fits =
    rw (fits, advance_fits dt (draw_at (next_state state)) short) refl
pass_formed_at dt false true false state short fits =
    rw (fits, advance_fits dt (draw_at (next_state state)) short) refl
pass_formed_at dt false false true state short fits =
    rw (fits, advance_fits dt (draw_at (next_state state)) short) refl
pass_formed_at dt true true false state short fits =
    rw (fits, advance_fits dt (draw_at (next_state state)) short, advance_fits dt (draw_at (next_state (next_state state))) short) refl
pass_formed_at dt true false true state short fits =
    rw (fits, advance_fits dt (draw_at (next_state state)) short, advance_fits dt (draw_at (next_state (next_state state))) short) refl
pass_formed_at dt false true true state short fits =
    rw (fits, advance_fits dt (draw_at (next_state state)) short, advance_fits dt (draw_at (next_state (next_state state))) short) refl
pass_formed_at dt true true true state short fits =
    rw (
      fits,
      advance_fits dt (draw_at (next_state state)) short,
      advance_fits dt (draw_at (next_state (next_state state))) short,
      advance_fits dt (draw_at (next_state (next_state (next_state state)))) short,
    ) refl

pub pass_formed : (first second third : Bool) (state : ℕ) → is_well_formed soak_settings (pass_at first second third state).event ≡ true
unfolding pass_at
pass_formed first second third state =
    pass_formed_at (length_at state) first second third state (let small : draw_at state % 400 < 400 = omega arith in omega arith) (length_fits (draw_at state))

-- the bit of a rank below three
pub bit_is : (rank : ℕ) → rank < 3 → 1 * 2 ^ rank % 2 ^ 32 ≡ 2 ^ rank
bit_is zero below = refl
bit_is (suc zero) below = refl
bit_is (suc (suc zero)) below = refl
bit_is (suc (suc (suc rank))) below = absurd (omega arith)

pub bit_small : (rank : ℕ) → rank < 3 → 2 ^ rank ≤ 4
bit_small zero below = omega arith
bit_small (suc zero) below = omega arith
bit_small (suc (suc zero)) below = omega arith
bit_small (suc (suc (suc rank))) below = absurd (omega arith)

-- the clocks of a pass, one after the other
pub clocks_are : (first second third : Bool) (dt state : ℕ) (empty : List (Rank × ℕ)) (one two three : DrawnClocks) → empty ≡ []
    → one ≡ with_clock dt 0 first (record { clocks = empty; state = state }) → two ≡ with_clock dt 1 second one → three ≡ with_clock dt 2 third two
    → three ≡ clocks_of dt first second third state
unfolding clocks_of
clocks_are first second third dt state empty one two three empty_is one_is two_is three_is =
    let start : one ≡ with_clock dt 0 first (record { clocks = []; state = state }) =
    one_is ∙ ap (λ c. with_clock dt 0 first (record { clocks = c; state = state })) empty_is in
    three_is ∙ ap (λ k. with_clock dt 2 third k) (two_is ∙ ap (λ k. with_clock dt 1 second k) start)

-- a pass, by its draws
pub pass_is : (first second third : Bool) (old state value dt : ℕ) (drawn : DrawnClocks) → state ≡ next_state old → value ≡ draw_at (next_state old)
    → dt ≡ 1 + value % 400 → drawn ≡ clocks_of dt first second third state → pass_with dt drawn ≡ pass_at first second third (next_state old)
unfolding pass_at
pass_is first second third old state value dt drawn state_is value_is dt_is drawn_is =
    ap (λ k. pass_with dt k) (drawn_is ∙ ap (λ x. clocks_of dt first second third x) state_is)
    ∙ ap (λ t. pass_with t (clocks_of t first second third (next_state old))) (dt_is ∙ ap (λ v. 1 + v % 400) value_is)

record Few (members : ℕ) : Type 0 where
  some : 0 < members
  few : members ≤ 7

few_members : (bits rank : ℕ) → bits < 8 → rank < 3 → Few (bit_or bits (2 ^ rank))
few_members zero zero small below = record { some = lit< tt; few = lit≤ tt }
few_members zero (suc zero) small below = record { some = lit< tt; few = lit≤ tt }
few_members zero (suc (suc zero)) small below = record { some = lit< tt; few = lit≤ tt }
few_members (suc zero) zero small below = record { some = lit< tt; few = lit≤ tt }
few_members (suc zero) (suc zero) small below = record { some = lit< tt; few = lit≤ tt }
few_members (suc zero) (suc (suc zero)) small below = record { some = lit< tt; few = lit≤ tt }
few_members (suc (suc zero)) zero small below = record { some = lit< tt; few = lit≤ tt }
few_members (suc (suc zero)) (suc zero) small below = record { some = lit< tt; few = lit≤ tt }
few_members (suc (suc zero)) (suc (suc zero)) small below = record { some = lit< tt; few = lit≤ tt }
few_members (suc (suc (suc zero))) zero small below = record { some = lit< tt; few = lit≤ tt }
few_members (suc (suc (suc zero))) (suc zero) small below = record { some = lit< tt; few = lit≤ tt }
few_members (suc (suc (suc zero))) (suc (suc zero)) small below = record { some = lit< tt; few = lit≤ tt }
few_members (suc (suc (suc (suc zero)))) zero small below = record { some = lit< tt; few = lit≤ tt }
few_members (suc (suc (suc (suc zero)))) (suc zero) small below = record { some = lit< tt; few = lit≤ tt }
few_members (suc (suc (suc (suc zero)))) (suc (suc zero)) small below = record { some = lit< tt; few = lit≤ tt }
few_members (suc (suc (suc (suc (suc zero))))) zero small below = record { some = lit< tt; few = lit≤ tt }
few_members (suc (suc (suc (suc (suc zero))))) (suc zero) small below = record { some = lit< tt; few = lit≤ tt }
few_members (suc (suc (suc (suc (suc zero))))) (suc (suc zero)) small below = record { some = lit< tt; few = lit≤ tt }
few_members (suc (suc (suc (suc (suc (suc zero)))))) zero small below = record { some = lit< tt; few = lit≤ tt }
few_members (suc (suc (suc (suc (suc (suc zero)))))) (suc zero) small below = record { some = lit< tt; few = lit≤ tt }
few_members (suc (suc (suc (suc (suc (suc zero)))))) (suc (suc zero)) small below = record { some = lit< tt; few = lit≤ tt }
few_members (suc (suc (suc (suc (suc (suc (suc zero))))))) zero small below = record { some = lit< tt; few = lit≤ tt }
few_members (suc (suc (suc (suc (suc (suc (suc zero))))))) (suc zero) small below = record { some = lit< tt; few = lit≤ tt }
few_members (suc (suc (suc (suc (suc (suc (suc zero))))))) (suc (suc zero)) small below = record { some = lit< tt; few = lit≤ tt }
few_members zero (suc (suc (suc rank))) small below = absurd (omega arith)
few_members (suc zero) (suc (suc (suc rank))) small below = absurd (omega arith)
few_members (suc (suc zero)) (suc (suc (suc rank))) small below = absurd (omega arith)
few_members (suc (suc (suc zero))) (suc (suc (suc rank))) small below = absurd (omega arith)
few_members (suc (suc (suc (suc zero)))) (suc (suc (suc rank))) small below = absurd (omega arith)
few_members (suc (suc (suc (suc (suc zero))))) (suc (suc (suc rank))) small below = absurd (omega arith)
few_members (suc (suc (suc (suc (suc (suc zero)))))) (suc (suc (suc rank))) small below = absurd (omega arith)
few_members (suc (suc (suc (suc (suc (suc (suc zero))))))) (suc (suc (suc rank))) small below = absurd (omega arith)
few_members (suc (suc (suc (suc (suc (suc (suc (suc bits)))))))) rank small below = absurd (omega arith)

-- some nodes, and the node of a rank below three
pub members_some : (bits rank bit : ℕ) → rank < 3 → bits < 8 → bit ≡ 2 ^ rank → 0 < bit_or bits bit
members_some bits rank bit below small is = subst (λ (b : ℕ). 0 < bit_or bits b) (sym is) (few_members bits rank small below).some

pub members_few : (bits rank bit : ℕ) → rank < 3 → bits < 8 → bit ≡ 2 ^ rank → bit_or bits bit ≤ 7
members_few bits rank bit below small is = subst (λ (b : ℕ). bit_or bits b ≤ 7) (sym is) (few_members bits rank small below).few
