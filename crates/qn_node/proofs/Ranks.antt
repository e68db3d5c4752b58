-- The outputs of a node name configured nodes.
use Rattle.std.proofs.Common.{◌≡◌, ℕ, suc, zero, ◌+◌, ◌<◌, ◌≤◌, Bool, true, false, List, [], ◌∷◌, ◌++◌, map, length, Some, None, refl, sym, subst, ◌∙◌, ◌&&◌, ◌||◌, not, arith}
use Rattle.std.proofs.lemmas.Bool.{ltb-true}
use Rattle.std.specs.Prelude.{Option, All, filter, is_some, nat_lt, option_and_then, ◌==◌, if◌then◌else◌}
use Rattle.std.specs.Option.{option_map, option_map_or, option_or}
use Rattle.std.specs.List.{range_with_len}
use Rattle.std.proofs.lemmas.List.Elements.{All-nil, All-cons, All-append}
use Rattle.qn_base.specs.declared.ids.View.{View}
use Rattle.qn_base.specs.lemmas.Bools.{second_of_both, second_of_three}
use Rattle.qn_model.specs.declared.configuration.Settings.{Settings}
use Rattle.qn_model.specs.declared.packets.Ask.{Ask}
use Rattle.qn_model.specs.declared.disk.Message.{Message}
use Rattle.qn_model.specs.declared.seen.SlotSeen.{SlotSeen}
use Rattle.qn_model.specs.declared.seen.SlotSeen.TheVariants as slot
use Rattle.qn_model.specs.declared.entries.Entry.{Entry}
use Rattle.qn_model.specs.declared.entries.What.{What}
use Rattle.qn_model.specs.declared.entries.What.TheVariants as what
use Rattle.qn_model.specs.declared.outputs.BootCause.{BootCause}
use Rattle.qn_model.specs.declared.outputs.DiskOp.{DiskOp}
use Rattle.qn_model.specs.declared.outputs.DiskOp.TheVariants as disk
use Rattle.qn_model.specs.declared.outputs.HaltKind.TheVariants as halt
use Rattle.qn_model.specs.declared.outputs.Out.{Out}
use Rattle.qn_model.specs.declared.outputs.Out.TheVariants as out
use Rattle.qn_model.specs.Log.{Line, begins_clean, incarnation, op_out, slot_number}
use Rattle.qn_model.specs.Phases.{boot_halt, deadly_of, is_booting, is_leaving, is_live, message_of, phase}
use Rattle.qn_model.specs.Holding.{holds}
use Rattle.qn_model.specs.NodeVotes.{view}
use Rattle.qn_model.specs.Fitting.{fits, is_for, read_as}
use Rattle.qn_model.specs.Unmet.{least_from}
use Rattle.qn_model.specs.Wanted.{boot_op, claim_after, close_op, fencing_op_with_delay, is_delay_over, is_mail_due, may_fence, rank_of, to_read, to_reset, to_reset_now, wanted_with_delay}
use Rattle.qn_model.specs.NodeOutputs.{acts, ask_to, asks_under, boot_outs, boot_step_outs, disk_outs, gives_start, gives_stop, is_asked, is_asking, is_begin, is_boot_step, live_outs, mail_feeds, newest_outs, outs_at, replies, taken_in, when, with_entry}
use Rattle.qn_node.specs.Outputs.{IsNodeOutput}

-- the least number that passes a test is one of those that were tried
least_here : (from found bound : ℕ) (later : Option ℕ) (b : Bool) → from < bound → (later ≡ Some found → found < bound)
    → (if b then Some from else later) ≡ Some found → found < bound
least_here from found bound later true below rest e = let same : from ≡ found = cc in omega arith
least_here from found bound later false below rest e = rest e

least_below : (count from bound : ℕ) (test : ℕ → Bool) (found : ℕ) → from + count ≤ bound → least_from count from test ≡ Some found → found < bound
unfolding least_from
least_below zero from bound test found within e = absurd (cc)
least_below (suc count) from bound test found within e =
    least_here from found bound (least_from count (from + 1) test) (test from) (omega arith) (least_below count (from + 1) bound test found (omega arith)) e

-- who asks in an entry
abbrev asker : What → Option ℕ
asker (what.Ask ask) = Some ask.from.0
asker entry = None

no_asker : (w : What) (b : Bool) (from : ℕ) → asker w ≡ None → asker (if b then w else what.Tick) ≡ Some from → (from < 0)
no_asker w true from none e = absurd (let z : None ≡ Some from = sym none ∙ e in cc)
no_asker w false from none e = absurd (cc)

asked_from : (s : Settings) (me : ℕ) (live : Bool) (ask : Ask) (from : ℕ) (b : Bool) → (live && is_for s me ask.from ask.to) ≡ b
    → asker (if b then what.Ask ask else what.Tick) ≡ Some from → from < length s.nodes
asked_from s me live ask from true fit e =
    let same : ask.from.0 ≡ from = cc in
    let listed = second_of_three (ask.to.0 == me) (nat_lt ask.from.0 (length s.nodes)) (not (ask.from.0 == me)) (second_of_both live (is_for s me ask.from ask.to) fit) in
    subst (λ n. n < length s.nodes) same (ltb-true ask.from.0 (length s.nodes) listed)
asked_from s me live ask from false fit e = absurd (cc)

none_below : (from bound : ℕ) → from < 0 → from < bound
none_below from bound h = absurd (omega arith)

-- an Ask that is read as one is from a configured node
read_asker : (s : Settings) (me : ℕ) (log : List Line) (w : What) (from : ℕ) → asker (read_as s me log w) ≡ Some from → from < length s.nodes
read_asker s me log what.Begin from e = none_below from (length s.nodes) (no_asker what.Begin (fits s me log what.Begin) from refl e)
read_asker s me log what.BeginClean from e = none_below from (length s.nodes) (no_asker what.BeginClean (fits s me log what.BeginClean) from refl e)
read_asker s me log (what.Header seen) from e = none_below from (length s.nodes) (no_asker (what.Header seen) (fits s me log (what.Header seen)) from refl e)
read_asker s me log (what.SlotRead rank seen) from e = none_below from (length s.nodes) (no_asker (what.SlotRead rank seen) (fits s me log (what.SlotRead rank seen)) from refl e)
read_asker s me log (what.MailChecked seen) from e = none_below from (length s.nodes) (no_asker (what.MailChecked seen) (fits s me log (what.MailChecked seen)) from refl e)
read_asker s me log (what.Claimed ok) from e = none_below from (length s.nodes) (no_asker (what.Claimed ok) (fits s me log (what.Claimed ok)) from refl e)
read_asker s me log (what.Cleared ok) from e = none_below from (length s.nodes) (no_asker (what.Cleared ok) (fits s me log (what.Cleared ok)) from refl e)
read_asker s me log (what.MailRead seen) from e = none_below from (length s.nodes) (no_asker (what.MailRead seen) (fits s me log (what.MailRead seen)) from refl e)
read_asker s me log (what.MailWritten rank ok) from e = none_below from (length s.nodes) (no_asker (what.MailWritten rank ok) (fits s me log (what.MailWritten rank ok)) from refl e)
read_asker s me log (what.View view) from e = none_below from (length s.nodes) (no_asker (what.View view) (fits s me log (what.View view)) from refl e)
read_asker s me log (what.Ask ask) from e = asked_from s me (is_live (phase s log)) ask from (fits s me log (what.Ask ask)) refl e
read_asker s me log (what.Tell tell) from e = none_below from (length s.nodes) (no_asker (what.Tell tell) (fits s me log (what.Tell tell)) from refl e)
read_asker s me log (what.Device agrees) from e = none_below from (length s.nodes) (no_asker (what.Device agrees) (fits s me log (what.Device agrees)) from refl e)
read_asker s me log what.Tick from e = none_below from (length s.nodes) (no_asker what.Tick (fits s me log what.Tick) from refl e)
read_asker s me log (what.Stopped ok) from e = none_below from (length s.nodes) (no_asker (what.Stopped ok) (fits s me log (what.Stopped ok)) from refl e)
read_asker s me log what.Leave from e = none_below from (length s.nodes) (no_asker what.Leave (fits s me log what.Leave) from refl e)
read_asker s me log (what.Closed ok) from e = none_below from (length s.nodes) (no_asker (what.Closed ok) (fits s me log (what.Closed ok)) from refl e)

module _ (s : Settings) where
  abbrev Proper : List Out → Type 0
  Proper outs = All (IsNodeOutput s) outs

  proper_none : Proper []
  proper_none = All-nil (IsNodeOutput s)

  proper_one : (o : Out) → IsNodeOutput s o → Proper (o ∷ [])
  proper_one o p = All-cons (IsNodeOutput s) o [] p proper_none

  proper_when : (b : Bool) (o : Out) → IsNodeOutput s o → Proper (when b o)
  proper_when true o p = proper_one o p
  proper_when false o p = proper_none

  proper_both : (front back : List Out) → Proper front → Proper back → Proper (front ++ back)
  proper_both front back p q = All-append (IsNodeOutput s) front back p q

  proper_if : (b : Bool) (first second : Option DiskOp) → Proper (disk_outs first) → Proper (disk_outs second) → Proper (disk_outs (if b then first else second))
  proper_if true first second p q = p
  proper_if false first second p q = q

  proper_close : (number : Option ℕ) → Proper (disk_outs (option_map (λ n. disk.WriteClose n) number))
  proper_close None = proper_none
  proper_close (Some n) = proper_one (out.Disk (disk.WriteClose n)) tt

  proper_fencing : (read reset : Option ℕ) → ((rank : ℕ) → read ≡ Some rank → rank < length s.nodes) → ((rank : ℕ) → reset ≡ Some rank → rank < length s.nodes)
      → Proper (disk_outs (option_or (option_map (λ rank. disk.ReadSlot (rank_of rank)) read) (option_map (λ rank. disk.WriteReset (rank_of rank)) reset)))
  proper_fencing (Some rank) reset p q = proper_one (out.Disk (disk.ReadSlot (rank_of rank))) (p rank refl)
  proper_fencing None (Some rank) p q = proper_one (out.Disk (disk.WriteReset (rank_of rank))) (q rank refl)
  proper_fencing None None p q = proper_none

  -- a number that a test keeps was there before
  kept_was : (test : ℕ → Bool) (found : Option ℕ) (rank : ℕ) → option_and_then (λ r. if test r then Some r else None) found ≡ Some rank → found ≡ Some rank
  kept_was test None rank e = e
  kept_was test (Some other) rank e = kept_if (test other) e
    where
      kept_if : (b : Bool) → (if b then Some other else None) ≡ Some rank → Some other ≡ Some rank
      kept_if true is = is
      kept_if false is = absurd (cc)

  proper_wanted : (me : ℕ) (log : List Line) → Proper (disk_outs (wanted_with_delay s me log))
  unfolding wanted_with_delay
  proper_wanted me log =
      proper_if (is_some (op_out log)) None _ proper_none
      (proper_if (is_mail_due log) (Some disk.ReadMail) _ (proper_one (out.Disk disk.ReadMail) tt)
      (proper_if (is_leaving (phase s log) && not (holds log)) (close_op log) _ (proper_close (incarnation log))
      (proper_if (may_fence s me log) (fencing_op_with_delay s log) None
      (proper_fencing (to_read s log) (to_reset_now s log)
      (λ rank e. least_below (length s.nodes) 0 (length s.nodes) _ rank (omega arith) e)
      (λ rank e. least_below (length s.nodes) 0 (length s.nodes) _ rank (omega arith) (kept_was (is_delay_over s log) (to_reset s log) rank e)))
      proper_none)))

  proper_replies : (me : ℕ) (held : Bool) (log : List Line) (w : What) → ((from : ℕ) → asker w ≡ Some from → from < length s.nodes) → Proper (replies s me held log w)
  proper_replies me held log what.Begin from = proper_none
  proper_replies me held log what.BeginClean from = proper_none
  proper_replies me held log (what.Header seen) from = proper_none
  proper_replies me held log (what.SlotRead rank seen) from = proper_none
  proper_replies me held log (what.MailChecked seen) from = proper_none
  proper_replies me held log (what.Claimed ok) from = proper_none
  proper_replies me held log (what.Cleared ok) from = proper_none
  proper_replies me held log (what.MailRead seen) from = proper_none
  proper_replies me held log (what.MailWritten rank ok) from = proper_none
  proper_replies me held log (what.View view) from = proper_none
  proper_replies me held log (what.Ask ask) from = proper_when _ _ (from ask.from.0 refl)
  proper_replies me held log (what.Tell tell) from = proper_none
  proper_replies me held log (what.Device agrees) from = proper_none
  proper_replies me held log what.Tick from = proper_none
  proper_replies me held log (what.Stopped ok) from = proper_none
  proper_replies me held log what.Leave from = proper_none
  proper_replies me held log (what.Closed ok) from = proper_none

  proper_pick : (me : ℕ) (log : List Line) (present : View) (rank : ℕ) (ranks : List ℕ) (b : Bool) → rank < length s.nodes
      → Proper (map (ask_to me log present) ranks) → Proper (map (ask_to me log present) (if b then rank ∷ ranks else ranks))
  proper_pick me log present rank ranks true below rest = All-cons (IsNodeOutput s) _ _ below rest
  proper_pick me log present rank ranks false below rest = rest

  proper_asks_from : (me : ℕ) (log : List Line) (present : View) (test : ℕ → Bool) (from count : ℕ) → from + count ≤ length s.nodes
      → Proper (map (ask_to me log present) (filter test (range_with_len from count)))
  proper_asks_from me log present test from zero within = proper_none
  proper_asks_from me log present test from (suc count) within =
      proper_pick me log present from (filter test (range_with_len (from + 1) count)) (test from) (omega arith)
      (proper_asks_from me log present test (from + 1) count (omega arith))

  proper_under : (me : ℕ) (log : List Line) (present : Option View) → Proper (option_map_or (asks_under s me log) present [])
  proper_under me log None = proper_none
  proper_under me log (Some present) = proper_asks_from me log present (is_asked s me log) 0 (length s.nodes) (omega arith)

  proper_asks : (me : ℕ) (log : List Line) (b : Bool) → Proper (if b then option_map_or (asks_under s me log) (view log) [] else [])
  proper_asks me log true = proper_under me log (view log)
  proper_asks me log false = proper_none

  proper_acts : (me : ℕ) (log : List Line) (w : What) (fed : Bool) → ((from : ℕ) → asker w ≡ Some from → from < length s.nodes) → Proper (acts s me log w fed)
  unfolding acts
  proper_acts me log w fed from =
      proper_both _ _
      (proper_both _ _
      (proper_both _ _
      (proper_both _ _
      (proper_both _ _ (proper_when (gives_stop s me log) out.Stop tt) (proper_when (gives_start s me log) out.Start tt))
      (proper_when fed out.Feed tt))
      (proper_replies me (gives_start s me log || holds log) log w from))
      (proper_asks me log (is_asking s log)))
      (proper_wanted me log)

  proper_live : (me : ℕ) (log : List Line) (w : What) (fed : Bool) (message : Option Message) → ((from : ℕ) → asker w ≡ Some from → from < length s.nodes)
      → Proper (live_outs s me log w fed message)
  proper_live me log w fed (Some message) from = proper_one (out.Halt (halt.Deadly message)) tt
  proper_live me log what.Begin fed None from = proper_acts me log what.Begin fed from
  proper_live me log what.BeginClean fed None from = proper_acts me log what.BeginClean fed from
  proper_live me log (what.Header seen) fed None from = proper_acts me log (what.Header seen) fed from
  proper_live me log (what.SlotRead rank seen) fed None from = proper_acts me log (what.SlotRead rank seen) fed from
  proper_live me log (what.MailChecked seen) fed None from = proper_acts me log (what.MailChecked seen) fed from
  proper_live me log (what.Claimed ok) fed None from = proper_acts me log (what.Claimed ok) fed from
  proper_live me log (what.Cleared ok) fed None from = proper_acts me log (what.Cleared ok) fed from
  proper_live me log (what.MailRead seen) fed None from = proper_acts me log (what.MailRead seen) fed from
  proper_live me log (what.MailWritten rank ok) fed None from = proper_acts me log (what.MailWritten rank ok) fed from
  proper_live me log (what.View view) fed None from = proper_acts me log (what.View view) fed from
  proper_live me log (what.Ask ask) fed None from = proper_acts me log (what.Ask ask) fed from
  proper_live me log (what.Tell tell) fed None from = proper_acts me log (what.Tell tell) fed from
  proper_live me log (what.Device agrees) fed None from = proper_acts me log (what.Device agrees) fed from
  proper_live me log what.Tick fed None from = proper_acts me log what.Tick fed from
  proper_live me log (what.Stopped ok) fed None from = proper_acts me log (what.Stopped ok) fed from
  proper_live me log what.Leave fed None from = proper_acts me log what.Leave fed from
  proper_live me log (what.Closed ok) fed None from = proper_one out.Disarm tt

  proper_claim : (seen : SlotSeen) → Proper (disk_outs (claim_after seen))
  proper_claim (slot.Read own) = proper_one _ tt
  proper_claim slot.Damaged = proper_none
  proper_claim slot.Failed = proper_none

  proper_boot_op : (me : ℕ) (clean : Bool) (number : ℕ) (w : What) → me < length s.nodes → Proper (disk_outs (boot_op me clean number w))
  proper_boot_op me clean number what.Begin own = proper_one _ tt
  proper_boot_op me clean number what.BeginClean own = proper_one _ tt
  proper_boot_op me clean number (what.Header seen) own = proper_one (out.Disk (disk.ReadSlot (rank_of me))) own
  proper_boot_op me clean number (what.SlotRead rank seen) own = proper_if clean (Some disk.CheckMail) (claim_after seen) (proper_one _ tt) (proper_claim seen)
  proper_boot_op me clean number (what.MailChecked seen) own = proper_one _ tt
  proper_boot_op me clean number (what.Claimed ok) own = proper_one _ tt
  proper_boot_op me clean number (what.Cleared ok) own = proper_one _ tt
  proper_boot_op me clean number (what.MailRead seen) own = proper_none
  proper_boot_op me clean number (what.MailWritten rank ok) own = proper_none
  proper_boot_op me clean number (what.View view) own = proper_none
  proper_boot_op me clean number (what.Ask ask) own = proper_none
  proper_boot_op me clean number (what.Tell tell) own = proper_none
  proper_boot_op me clean number (what.Device agrees) own = proper_none
  proper_boot_op me clean number what.Tick own = proper_none
  proper_boot_op me clean number (what.Stopped ok) own = proper_none
  proper_boot_op me clean number what.Leave own = proper_none
  proper_boot_op me clean number (what.Closed ok) own = proper_none

  proper_boot_step : (me : ℕ) (clean : Bool) (number : ℕ) (w : What) (cause : Option BootCause) → me < length s.nodes
      → Proper (boot_step_outs me clean number w cause)
  proper_boot_step me clean number w None own = proper_both _ _ (proper_when (not (is_begin w)) out.Feed tt) (proper_boot_op me clean number w own)
  proper_boot_step me clean number w (Some cause) own = proper_one _ tt

  proper_boot : (me : ℕ) (clean : Bool) (number : ℕ) (w : What) (b : Bool) → me < length s.nodes
      → Proper (if b then boot_step_outs me clean number w (boot_halt s w) else [])
  proper_boot me clean number w true own = proper_boot_step me clean number w (boot_halt s w) own
  proper_boot me clean number w false own = proper_none

  proper_phase : (me tick : ℕ) (w : What) (past log : List Line) (booting live : Bool) → me < length s.nodes
      → ((from : ℕ) → asker w ≡ Some from → from < length s.nodes)
      → Proper (if booting then boot_outs s me (begins_clean log) (slot_number log) w else (if live then live_outs s me log w (mail_feeds tick past w) (deadly_of (message_of w)) else []))
  proper_phase me tick w past log true live own from = proper_boot me (begins_clean log) (slot_number log) w (is_boot_step w) own
  proper_phase me tick w past log false true own from = proper_live me log w (mail_feeds tick past w) (deadly_of (message_of w)) from
  proper_phase me tick w past log false false own from = proper_none

-- what comes out of an entry names configured nodes
pub entry_ranks : (s : Settings) (me : ℕ) (log : List Line) (entry : Entry) → me < length s.nodes → All (IsNodeOutput s) (newest_outs (with_entry s me log entry))
unfolding with_entry outs_at
entry_ranks s me log entry own =
    proper_phase s me entry.tick (read_as s me log entry.what) log (taken_in log entry.tick (read_as s me log entry.what)) (is_booting (phase s log)) (is_live (phase s log)) own
    (λ from e. read_asker s me log entry.what from e)
