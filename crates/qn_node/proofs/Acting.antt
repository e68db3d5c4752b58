-- A node that has taken an entry in, and the log once its outputs are given.
use Rattle.std.proofs.Common.{◌≡◌, ℕ, Bool, true, false, List, ◌++◌, Option, None, Some, refl, sym, ap, ◌∙◌, ◌&&◌, ◌||◌, not}
use Rattle.std.specs.Prelude.{if◌then◌else◌, is_some, unwrap_or}
use Rattle.std.specs.Option.{option_map, option_or}
use Rattle.qn_base.specs.lemmas.Bools.{first_of_three}
use Rattle.qn_model.specs.declared.configuration.Settings.{Settings}
use Rattle.qn_model.specs.declared.entries.What.{What}
use Rattle.qn_model.specs.declared.entries.What.TheVariants as what
use Rattle.qn_model.specs.declared.life.Why.{Why}
use Rattle.qn_model.specs.declared.life.Why.TheVariants as why
use Rattle.qn_model.specs.declared.outputs.DiskOp.{DiskOp}
use Rattle.qn_model.specs.declared.outputs.DiskOp.TheVariants as disk
use Rattle.qn_model.specs.declared.outputs.Out.{Out}
use Rattle.qn_model.specs.declared.outputs.Out.TheVariants as out
use Rattle.qn_model.specs.Log.{Line, claim_of, claimed, disk_of, incarnation, is_answer, now, op_out, times_of, timing}
use Rattle.qn_model.specs.Phases.{is_leaving, is_up, phase}
use Rattle.qn_model.specs.Holding.{holds, may_stop}
use Rattle.qn_model.specs.NodeVotes.{quorate_with_tie}
use Rattle.qn_model.specs.NodeOutputs.{acts, asks, disk_outs, gives_start, gives_stop, replies, taken_in, when}
use Rattle.qn_model.specs.Unmet.{is_clear, is_given_away, unmet}
use Rattle.qn_model.specs.Wanted.{close_op, fencing_op_with_delay, is_mail_due, may_fence, to_read, to_reset_now, rank_of, wanted_with_delay}
use Rattle.qn_fence.specs.Fence.{FenceFor, is_boot_end}
use Rattle.qn_heard.specs.Heard.{HeardFor}
use Rattle.qn_heard.specs.declared.listener.Heard.{Heard}
use Rattle.qn_fence.specs.declared.fencing.Fence.{Fence}
use Rattle.qn_watch.specs.Watch.{WatchFor}
use Rattle.qn_watch.specs.declared.mailbox.Watch.{Watch}
use Rattle.qn_node.specs.declared.live.Live.{Live}
use Rattle.qn_node.specs.Live.{LiveFor, LiveTook, is_boot_entry, is_live_op, with_outs}
use Rattle.qn_node.specs.Resource.{after_outs, is_held}
use Rattle.qn_node.proofs.ActsLaws.{acts_has}
use Rattle.qn_node.proofs.ResourceSteps.{resource_given}

-- an entry of a node that takes part gives no times and ends no boot
pub no_times_of : (w : What) → is_boot_entry w ≡ false → times_of w ≡ None
no_times_of what.Begin plain = absurd (cc)
no_times_of what.BeginClean plain = absurd (cc)
no_times_of (what.Header seen) plain = absurd (cc)
no_times_of (what.SlotRead rank seen) plain = refl
no_times_of (what.MailChecked seen) plain = absurd (cc)
no_times_of (what.Claimed ok) plain = absurd (cc)
no_times_of (what.Cleared ok) plain = absurd (cc)
no_times_of (what.MailRead seen) plain = refl
no_times_of (what.MailWritten rank ok) plain = refl
no_times_of (what.View installed) plain = refl
no_times_of (what.Ask ask) plain = refl
no_times_of (what.Tell tell) plain = refl
no_times_of (what.Device agrees) plain = refl
no_times_of what.Tick plain = refl
no_times_of (what.Stopped ok) plain = refl
no_times_of what.Leave plain = refl
no_times_of (what.Closed ok) plain = refl

pub no_boot_end : (w : What) → is_boot_entry w ≡ false → is_boot_end w ≡ false
no_boot_end what.Begin plain = refl
no_boot_end what.BeginClean plain = refl
no_boot_end (what.Header seen) plain = refl
no_boot_end (what.SlotRead rank seen) plain = refl
no_boot_end (what.MailChecked seen) plain = refl
no_boot_end (what.Claimed ok) plain = refl
no_boot_end (what.Cleared ok) plain = absurd (cc)
no_boot_end (what.MailRead seen) plain = refl
no_boot_end (what.MailWritten rank ok) plain = refl
no_boot_end (what.View installed) plain = refl
no_boot_end (what.Ask ask) plain = refl
no_boot_end (what.Tell tell) plain = refl
no_boot_end (what.Device agrees) plain = refl
no_boot_end what.Tick plain = refl
no_boot_end (what.Stopped ok) plain = refl
no_boot_end what.Leave plain = refl
no_boot_end (what.Closed ok) plain = refl

-- the operations that a node wants are no steps of a boot
pub live_if : (b : Bool) (first second : Option DiskOp) → is_live_op first ≡ true → is_live_op second ≡ true → is_live_op (if b then first else second) ≡ true
live_if true first second one other = one
live_if false first second one other = other

live_close : (number : Option ℕ) → is_live_op (option_map (λ n. disk.WriteClose n) number) ≡ true
live_close None = refl
live_close (Some number) = refl

live_fencing : (read reset : Option ℕ)
    → is_live_op (option_or (option_map (λ rank. disk.ReadSlot (rank_of rank)) read) (option_map (λ rank. disk.WriteReset (rank_of rank)) reset)) ≡ true
live_fencing (Some rank) reset = refl
live_fencing None (Some rank) = refl
live_fencing None None = refl

pub wanted_live : (s : Settings) (me : ℕ) (log : List Line) → is_live_op (wanted_with_delay s me log) ≡ true
unfolding wanted_with_delay
wanted_live s me log =
    live_if (is_some (op_out log)) None _ refl
    (live_if (is_mail_due log) (Some disk.ReadMail) _ refl
    (live_if (is_leaving (phase s log) && not (holds log)) (close_op log) _ (live_close (incarnation log))
    (live_if (may_fence s me log) (fencing_op_with_delay s log) None (live_fencing (to_read s log) (to_reset_now s log)) refl)))

no_claim : (op : Option DiskOp) → is_live_op op ≡ true → claim_of op ≡ None
no_claim None live = refl
no_claim (Some disk.ReadHeader) live = refl
no_claim (Some (disk.ReadSlot rank)) live = refl
no_claim (Some disk.CheckMail) live = refl
no_claim (Some (disk.WriteClaim number)) live = absurd (cc)
no_claim (Some disk.WriteClear) live = refl
no_claim (Some disk.ReadMail) live = refl
no_claim (Some (disk.WriteReset rank)) live = refl
no_claim (Some (disk.WriteClose number)) live = refl

-- what a node that acts asks of the disk claims no incarnation
pub acts_claim : (s : Settings) (me : ℕ) (log : List Line) (w : What) (fed : Bool) → claim_of (disk_of (acts s me log w fed)) ≡ None
acts_claim s me log w fed = ap claim_of (acts_has s me log w fed).of_op ∙ no_claim (wanted_with_delay s me log) (wanted_live s me log)

-- the node that took an entry in stands for the log with it, before its outputs
pub took_stands : (live : Live) (s : Settings) (me : ℕ) (past : List Line) (tick : ℕ) (w : What) (heard : Heard) → LiveTook live s me past tick w
    → HeardFor heard s me (taken_in past tick w) → WatchFor live.watch (taken_in past tick w)
    → LiveFor (record live { heard = heard }) s me (taken_in past tick w)
unfolding claimed timing
took_stands live s me past tick w heard took hears watches = record {
  phases = took.phases;
  loops = ap (λ o. (unwrap_or o (timing past)).loop_ms) (no_times_of w took.plain) ∙ took.loops;
  claims = took.claims;
  knows = took.claims;
  is_out = took.is_out;
  no_boot = took.no_boot;
  has_resource = took.has_resource;
  watches = watches;
  fences = took.fences;
  hears = hears;
}

live_or : (first second : Option DiskOp) → is_live_op first ≡ true → is_live_op second ≡ true → is_live_op (option_or first second) ≡ true
live_or None second one other = other
live_or (Some op) second one other = one

-- a Stop is given only by a node that holds, a Start only by one that does not
gives_stop-held : (s : Settings) (me : ℕ) (log : List Line) → gives_stop s me log ≡ true → holds log ≡ true
gives_stop-held s me log e =
    first_of_three (holds log) (is_leaving (phase s log) || not (quorate_with_tie s log (now log)) || is_given_away s me log) (may_stop (timing log).loop_ms (now log) log) e

start_free : (down held : Bool) (rest : Why) → is_clear (if down then why.Down else (if held then why.Holding else rest)) ≡ true → held ≡ false
start_free true held rest e = absurd (cc)
start_free false true rest e = absurd (cc)
start_free false false rest e = refl

gives_start-free : (s : Settings) (me : ℕ) (log : List Line) → gives_start s me log ≡ true → holds log ≡ false
unfolding unmet
gives_start-free s me log e = start_free (not (is_up (phase s log))) (holds log) _ e

-- the phase does not look at the outputs of the newest entry
pub phase_same : (s : Settings) (past : List Line) (tick : ℕ) (w : What) (outs : List Out) → phase s (with_outs past tick w outs) ≡ phase s (taken_in past tick w)
unfolding phase
phase_same s past tick w outs = refl

-- once the outputs are given, the node stands for the log with them
pub acted_stands : (live : Live) (s : Settings) (me : ℕ) (past : List Line) (tick : ℕ) (w : What) (fed : Bool) (heard : Heard) (watch : Watch) (fence : Fence)
    (stops starts : Bool) (op : Option DiskOp)
    → LiveTook live s me past tick w
    → stops ≡ gives_stop s me (taken_in past tick w) → starts ≡ gives_start s me (taken_in past tick w) → op ≡ wanted_with_delay s me (taken_in past tick w)
    → HeardFor heard s me (with_outs past tick w (acts s me (taken_in past tick w) w fed))
    → WatchFor watch (with_outs past tick w (acts s me (taken_in past tick w) w fed))
    → FenceFor fence s (with_outs past tick w (acts s me (taken_in past tick w) w fed))
    → LiveFor (record live { op = option_or op live.op; resource = after_outs stops starts live.resource; watch = watch; fence = fence; heard = heard }) s me
    (with_outs past tick w (acts s me (taken_in past tick w) w fed))
unfolding phase claimed timing op_out
acted_stands live s me past tick w fed heard watch fence stops starts op took is_stop is_start is_op hears watches fences =
    let log = taken_in past tick w in
    let outs = acts s me log w fed in
    let has = acts_has s me log w fed in
    let none : claim_of (disk_of outs) ≡ None = acts_claim s me log w fed in
    let wants : is_live_op op ≡ true = ap is_live_op is_op ∙ wanted_live s me log in
    let asked : disk_of outs ≡ op = has.of_op ∙ sym is_op in
    record {
      phases = took.phases;
      loops = ap (λ o. (unwrap_or o (timing past)).loop_ms) (no_times_of w took.plain) ∙ took.loops;
      claims = ap (λ o. option_or o (claimed past)) none ∙ took.claims;
      knows = took.claims;
      is_out = ap (λ o. option_or o (if is_answer w then None else op_out past)) asked ∙ ap (option_or op) took.is_out;
      no_boot = live_or op live.op wants took.no_boot;
      has_resource =
          resource_given live.resource past _ outs stops starts took.has_resource refl refl (has.of_start ∙ sym is_start) (has.of_stop ∙ sym is_stop)
          (λ e. sym took.has_resource.has ∙ gives_stop-held s me log (sym is_stop ∙ e))
          (λ e. sym took.has_resource.has ∙ gives_start-free s me log (sym is_start ∙ e));
      watches = watches;
      fences = fences;
      hears = hears;
    }

-- the outputs one after the other are those of a node that acts
pub acts_chain : (s : Settings) (me : ℕ) (log : List Line) (w : What) (fed stops starts held : Bool) (op : Option DiskOp) (one two three four five six : List Out)
    → one ≡ when stops out.Stop → two ≡ one ++ when starts out.Start → three ≡ two ++ when fed out.Feed
    → four ≡ three ++ replies s me (starts || held) log w → five ≡ four ++ asks s me log → six ≡ five ++ disk_outs op
    → stops ≡ gives_stop s me log → starts ≡ gives_start s me log → held ≡ holds log → op ≡ wanted_with_delay s me log
    → six ≡ acts s me log w fed
unfolding acts
acts_chain s me log w fed stops starts held op one two three four five six a b c d e f is_stop is_start is_held is_op =
    f ∙ rw (e, d, c, b, a, is_stop, is_start, is_held, is_op)
