-- What holds of a node where no condition blocks a start.
use Rattle.std.proofs.Common.{◌≡◌, ℕ, ◌<◌, ◌≤◌, Bool, true, false, List, length, Some, None, Option, refl, ap, arith, ◌&&◌, ◌==◌, not, if◌then◌else◌, is_none, unwrap_or}
use Rattle.std.specs.Option.{option_map_or}
use Rattle.std.proofs.lemmas.Bool.{false≢true, true≢false, eqb-true, ne_eqb}
use Rattle.qn_base.specs.lemmas.Options.{some_is_not_none}
use Rattle.qn_base.specs.lemmas.Bools.{never_both}
use Rattle.qn_model.specs.declared.configuration.Settings.{Settings}
use Rattle.qn_model.specs.declared.life.Why.TheVariants as why
use Rattle.qn_model.specs.Log.{Line}
use Rattle.qn_model.specs.Phases.{phase, is_up}
use Rattle.qn_model.specs.Holding.{holds}
use Rattle.qn_model.specs.NodeVotes.{view, is_in_view, released, quorate_with_tie}
use Rattle.qn_model.specs.Hearing.{is_free, is_held}
use Rattle.qn_model.specs.Licences.{is_licensed, is_written, left_to_wait}
use Rattle.qn_model.specs.Unmet.{unmet, is_clear, id_of, chosen, holder, unheard, unfenced, or_else, other_chosen}
use Rattle.qn_model.specs.lemmas.LeastRanks.{least_none}

-- what a start rests on
pub record IsClear (s : Settings) (me : ℕ) (log : List Line) (tick : ℕ) : Type 0 where
  pub up : is_up (phase s log) ≡ true
  pub idle : holds log ≡ false
  pub released : released s log ≡ true
  pub mine : chosen s log ≡ Some me
  pub free : (j : ℕ) → j < length s.nodes → is_in_view log j ≡ true → ¬ (j ≡ me) → is_free log j ≡ true
  pub licensed : (j : ℕ) → j < length s.nodes → is_in_view log j ≡ false → is_licensed log j tick ≡ true

record NothingLacks (up held released : Bool) (other holds_it unheard_of unfenced_one : Option ℕ) : Type 0 where
  is_up : up ≡ true
  is_idle : held ≡ false
  is_released : released ≡ true
  no_other : other ≡ None
  no_holder : holds_it ≡ None
  none_unheard : unheard_of ≡ None
  none_unfenced : unfenced_one ≡ None

clear_cases : (s : Settings) (log : List Line) (tick votes quorum : ℕ) (up held blank free_to quorate : Bool) (other holds_it unheard_of unfenced_one : Option ℕ)
    → is_clear (if not up then why.Down
    else (if held then why.Holding
    else (if blank then why.NoView
    else (if not free_to then why.WaitForAll
    else (if not quorate then why.NotQuorate votes quorum
    else or_else other (λ rank. why.NotChosen (id_of s rank))
    (or_else holds_it (λ rank. why.HeldBy (id_of s rank))
    (or_else unheard_of (λ rank. why.Unheard (id_of s rank))
    (or_else unfenced_one (λ rank. why.Unfenced (id_of s rank) (is_written log rank) (left_to_wait log rank tick))
    why.Clear)))))))) ≡ true
    → NothingLacks up held free_to other holds_it unheard_of unfenced_one
clear_cases s log tick votes quorum true false false true true None None None None e =
    record { is_up = refl; is_idle = refl; is_released = refl; no_other = refl; no_holder = refl; none_unheard = refl; none_unfenced = refl }
clear_cases s log tick votes quorum true false false true true None None None (Some a) e = absurd (false≢true e)
clear_cases s log tick votes quorum true false false true true None None (Some b) a e = absurd (false≢true e)
clear_cases s log tick votes quorum true false false true true None (Some c) b a e = absurd (false≢true e)
clear_cases s log tick votes quorum true false false true true (Some d) c b a e = absurd (false≢true e)
clear_cases s log tick votes quorum true false false true false d c b a e = absurd (false≢true e)
clear_cases s log tick votes quorum true false false false q d c b a e = absurd (false≢true e)
clear_cases s log tick votes quorum true false true f q d c b a e = absurd (false≢true e)
clear_cases s log tick votes quorum true true v f q d c b a e = absurd (false≢true e)
clear_cases s log tick votes quorum false h v f q d c b a e = absurd (false≢true e)

-- where no other one is chosen, the node itself is
own_choice : (me : ℕ) (found : Option ℕ) → (if option_map_or (λ rank. rank == me) found false then None else Some (unwrap_or found 255)) ≡ None
    → found ≡ Some me
own_choice me None other = some_is_not_none 255 other
own_choice me (Some found) other = by_test (found == me) refl other
  where
    by_test : (b : Bool) → (found == me) ≡ b → (if b then None else Some found) ≡ None → Some found ≡ Some me
    by_test true same o = ap Some (eqb-true found me same)
    by_test false differs o = some_is_not_none found o

free_of : (inside other free held : Bool) → inside ≡ true → other ≡ true → (inside && other && held) ≡ false → (inside && other && not free && not held) ≡ false → free ≡ true
free_of true true true held i o h u = refl
free_of true true false true i o h u = absurd (true≢false h)
free_of true true false false i o h u = absurd (true≢false u)
free_of true false free held i o h u = absurd (false≢true o)
free_of false other free held i o h u = absurd (false≢true i)

licensed_of : (inside licensed : Bool) → inside ≡ false → (not inside && not licensed) ≡ false → licensed ≡ true
licensed_of false true i e = refl
licensed_of false false i e = absurd (true≢false e)
licensed_of true licensed i e = absurd (true≢false i)

another : (j me : ℕ) → ¬ (j ≡ me) → not (j == me) ≡ true
another j me differs = ap not (ne_eqb j me differs)

-- a start comes only where nothing blocks it
pub why_clear : (s : Settings) (me : ℕ) (log : List Line) (tick : ℕ) → is_clear (unmet s me log tick) ≡ true → IsClear s me log tick
unfolding unmet
why_clear s me log tick e =
    let parts = clear_cases s log tick _ _ (is_up (phase s log)) (holds log) (is_none (view log)) (released s log) (quorate_with_tie s log tick)
    (other_chosen s me log) (holder s me log) (unheard s me log) (unfenced s log tick) e in
    record {
      up = parts.is_up;
      idle = parts.is_idle;
      released = parts.is_released;
      mine = own_choice me (chosen s log) parts.no_other;
      free = λ j below member differs. free_of (is_in_view log j) (not (j == me)) (is_free log j) (is_held log j) member (another j me differs)
          (least_none (length s.nodes) 0 _ parts.no_holder j (omega arith) (omega arith))
          (least_none (length s.nodes) 0 _ parts.none_unheard j (omega arith) (omega arith));
      licensed = λ j below outside. licensed_of (is_in_view log j) (is_licensed log j tick) outside
          (least_none (length s.nodes) 0 _ parts.none_unfenced j (omega arith) (omega arith));
    }
