-- The conditions of a start, and the next disk operation, by what a node keeps.
use Rattle.std.proofs.Common.{◌≡◌, ◌+◌, ℕ, Bool, true, false, List, Option, None, Some, refl, sym, ap, ◌∙◌, subst, ◌&&◌, not}
use Rattle.std.specs.Prelude.{if◌then◌else◌, is_none, nat_le, option_and_then}
use Rattle.std.specs.Option.{option_map, option_or}
use Rattle.qn_base.specs.declared.ids.Rank.{Rank}
use Rattle.qn_model.specs.declared.configuration.Settings.{Settings}
use Rattle.qn_model.specs.declared.life.Phase.TheVariants.{Up, Leaving}
use Rattle.qn_model.specs.declared.life.Why.TheVariants as why
use Rattle.qn_model.specs.declared.votes.Answer.{Answer}
use Rattle.qn_model.specs.declared.outputs.DiskOp.TheVariants as disk
use Rattle.qn_model.specs.Votes.{answer_at, view_tick}
use Rattle.qn_model.specs.Log.{Line, now}
use Rattle.qn_model.specs.Phases.{is_leaving, is_up, phase}
use Rattle.qn_model.specs.Holding.{holds}
use Rattle.qn_model.specs.NodeVotes.{answer_with_tie, quorate_with_tie, released, view, votes}
use Rattle.qn_model.specs.Unmet.{is_chosen, unmet}
use Rattle.qn_model.specs.Wanted.{fence_delay, fencing_op, fencing_op_with_delay, is_delay_over, is_mail_due, may_fence, rank_of, to_read, to_reset, wanted_with_delay}
use Rattle.qn_fence.specs.declared.fencing.Want.{Want}
use Rattle.qn_fence.specs.declared.fencing.Want.TheVariants as want
use Rattle.qn_fence.specs.Fence.{op_of}
use Rattle.qn_node.proofs.LiveReads.{up_of}
use Rattle.qn_node.specs.declared.live.Live.{Live}
use Rattle.qn_node.specs.Live.{LiveFor, lacks, live_phase, must_wait, unmet_by, wanted_by}

-- a node that is leaving is down
pub unmet_down : (s : Settings) (me : ℕ) (log : List Line) (tick : ℕ) → phase s log ≡ Leaving → unmet s me log tick ≡ why.Down
unfolding unmet
unmet_down s me log tick leaving = rw leaving

pub unmet_up : (s : Settings) (me : ℕ) (log : List Line) (tick : ℕ) (count : Answer) → phase s log ≡ Up → count ≡ answer_with_tie s log tick
    → unmet s me log tick ≡ unmet_by (holds log) (is_none (view log)) count (lacks s me log tick)
unfolding unmet answer_at
unmet_up s me log tick count up is =
    subst (λ a. unmet s me log tick ≡ unmet_by (holds log) (is_none (view log)) a (lacks s me log tick)) (sym is) (rw up)

-- the parts of a count
pub released_of : (s : Settings) (log : List Line) (tick : ℕ) (count : Answer) → count ≡ answer_with_tie s log tick → count.released ≡ released s log
unfolding answer_at
released_of s log tick count is = ap (λ a. a.released) is

pub quorate_of : (s : Settings) (log : List Line) (tick : ℕ) (count : Answer) → count ≡ answer_with_tie s log tick → count.quorate ≡ quorate_with_tie s log tick
unfolding answer_at
quorate_of s log tick count is = ap (λ a. a.quorate) is

leaving_of : (leaving : Bool) → is_leaving (live_phase leaving) ≡ leaving
leaving_of true = refl
leaving_of false = refl

-- the next disk operation
pub wanted_is : (live : Live) (s : Settings) (me : ℕ) (log : List Line) → LiveFor live s me log
    → wanted_with_delay s me log ≡ wanted_by live (is_mail_due log) (may_fence s me log) (fencing_op_with_delay s log)
unfolding wanted_with_delay
wanted_is live s me log h =
    let leaves : is_leaving (phase s log) ≡ live.leaving = ap is_leaving h.phases ∙ leaving_of live.leaving in
    rw (h.is_out, leaves, h.has_resource.has, h.knows)

pub may_fence_is : (live : Live) (s : Settings) (me : ℕ) (log : List Line) → LiveFor live s me log
    → may_fence s me log ≡ (not live.leaving && quorate_with_tie s log (now log) && is_chosen s me log)
may_fence_is live s me log h =
    let ups : is_up (phase s log) ≡ not live.leaving = ap is_up h.phases ∙ up_of live.leaving in
    ap (λ b. b && quorate_with_tie s log (now log) && is_chosen s me log) ups

-- a reset waits for the fence delay of its rank
kept_back : (rank : Rank) (over : Bool)
    → option_map (λ rank. disk.WriteReset (rank_of rank)) (if over then Some rank.0 else None) ≡ (if not over then None else op_of (want.WriteReset rank))
kept_back rank true = refl
kept_back rank false = refl

op_waits : (read reset : Option ℕ) (is_over : ℕ → Bool) (next : Want)
    → op_of next ≡ option_or (option_map (λ rank. disk.ReadSlot (rank_of rank)) read) (option_map (λ rank. disk.WriteReset (rank_of rank)) reset)
    → option_or (option_map (λ rank. disk.ReadSlot (rank_of rank)) read)
    (option_map (λ rank. disk.WriteReset (rank_of rank)) (option_and_then (λ rank. if is_over rank then Some rank else None) reset))
    ≡ (if must_wait is_over next then None else op_of next)
op_waits (Some rank) reset is_over want.None is = absurd (cc)
op_waits (Some rank) reset is_over (want.ReadSlot other) is = sym is
op_waits (Some rank) reset is_over (want.WriteReset other) is = absurd (cc)
op_waits None (Some rank) is_over want.None is = absurd (cc)
op_waits None (Some rank) is_over (want.ReadSlot other) is = absurd (cc)
op_waits None (Some rank) is_over (want.WriteReset other) is =
    let same : other ≡ rank_of rank = cc in
    subst (λ (r : Rank). option_map (λ rank. disk.WriteReset (rank_of rank)) (if is_over rank then Some rank else None) ≡ (if not (is_over r.0) then None else op_of (want.WriteReset r)))
    (sym same) (kept_back (rank_of rank) (is_over rank))
op_waits None None is_over want.None is = refl
op_waits None None is_over (want.ReadSlot other) is = absurd (cc)
op_waits None None is_over (want.WriteReset other) is = absurd (cc)

pub fencing_waits : (s : Settings) (log : List Line) (next : Want) (tick since : ℕ) → op_of next ≡ fencing_op s log → now log ≡ tick → since ≡ view_tick (votes log)
    → fencing_op_with_delay s log ≡ (if must_wait (λ rank. nat_le (since + fence_delay s rank) tick) next then None else op_of next)
fencing_waits s log next tick since is at from =
    op_waits (to_read s log) (to_reset s log) (is_delay_over s log) next is
    ∙ (ap (λ v. if must_wait (λ rank. nat_le (v + fence_delay s rank) (now log)) next then None else op_of next) (sym from)
    ∙ ap (λ n. if must_wait (λ rank. nat_le (since + fence_delay s rank) n) next then None else op_of next) at)
