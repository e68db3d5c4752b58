-- What an output of a node tells of the entry that gave it.
use Rattle.std.proofs.Common.{◌≡◌, ℕ, suc, zero, ◌+◌, ◌<◌, ◌≤◌, Bool, true, false, List, [], ◌∷◌, ◌++◌, length, Some, None, Option, refl, sym, ap, ◌∙◌, subst, arith, cond, ◌&&◌, ◌||◌, ◌==◌, not, if◌then◌else◌, ◌⊎◌, inl, inr, is_some, All, map, filter}
use Rattle.std.specs.Prelude.{option_and_then}
use Rattle.std.specs.Option.{option_or, option_map, option_map_or}
use Rattle.std.proofs.lemmas.List.Elements.{All-nil, All-cons, All-append, All-head, All-tail, All-map}
use Rattle.std.proofs.lemmas.Bool.{false≢true}
use Rattle.std.proofs.lemmas.Option.{same_Some}
use Rattle.qn_base.specs.declared.ids.Rank.{Rank}
use Rattle.qn_base.specs.declared.ids.View.{View}
use Rattle.qn_base.specs.Members.{is_member}
use Rattle.qn_base.specs.lemmas.Bools.{first_fails, first_of_three_fails, first_of_both, second_of_both}
use Rattle.qn_base.specs.lemmas.Options.{none_is_not_some}
use Rattle.qn_model.specs.declared.configuration.Settings.{Settings}
use Rattle.qn_model.specs.declared.disk.Message.{Message}
use Rattle.qn_model.specs.declared.packets.Ask.{Ask}
use Rattle.qn_model.specs.declared.packets.Tell.{Tell}
use Rattle.qn_model.specs.declared.packets.Packet.{Packet}
use Rattle.qn_model.specs.declared.packets.Packet.TheVariants as packet
use Rattle.qn_model.specs.declared.entries.What.{What}
use Rattle.qn_model.specs.declared.entries.What.TheVariants as what
use Rattle.qn_model.specs.declared.outputs.BootCause.{BootCause}
use Rattle.qn_model.specs.declared.outputs.DiskOp.{DiskOp}
use Rattle.qn_model.specs.declared.outputs.DiskOp.TheVariants as disk
use Rattle.qn_model.specs.declared.outputs.Out.{Out}
use Rattle.qn_model.specs.declared.outputs.Out.TheVariants as out
use Rattle.qn_model.specs.declared.outputs.HaltKind.TheVariants as halt
use Rattle.qn_model.specs.Log.{Line, begins_clean, op_out, incarnation, now, disk_of, has_start, slot_number}
use Rattle.qn_model.specs.Phases.{phase, boot_halt, message_of, deadly_of, is_booting, is_live, is_up, is_leaving}
use Rattle.qn_model.specs.Fitting.{is_closed}
use Rattle.qn_model.specs.Holding.{holds}
use Rattle.qn_model.specs.NodeVotes.{install, view, is_in_view, is_present, released, quorate_with_tie}
use Rattle.qn_model.specs.Unmet.{unmet, is_clear, is_chosen}
use Rattle.qn_model.specs.Wanted.{wanted_with_delay, fencing_op_with_delay, is_delay_over, to_read, to_reset, to_reset_now, boot_op, close_op, rank_of, is_mail_due, may_fence}
use Rattle.qn_model.specs.NodeOutputs.{acts, outs_at, live_outs, boot_outs, boot_step_outs, is_boot_step, is_begin, disk_outs, when, replies, reply, asks_under, ask_to, is_asking, gives_stop, gives_start, mail_feeds}
use Rattle.qn_model.specs.lemmas.LeastRanks.{least_bound, least_passes}

-- an operation of the boot: the entry is a step of the boot that goes on
pub record BootReason (s : Settings) (me : ℕ) (past log : List Line) (entry : What) (op : DiskOp) : Type 0 where
  pub booting : is_booting (phase s past) ≡ true
  pub goes_on : boot_halt s entry ≡ None
  pub next : boot_op me (begins_clean log) (slot_number log) entry ≡ Some op

-- the state that a node that takes part asks for an operation in
abbrev pub LiveState : Settings → ℕ → List Line → DiskOp → Type 0
LiveState s me log disk.ReadMail = Unit {0}
LiveState s me log (disk.ReadSlot rank) = (is_up (phase s log) ≡ true) × (is_in_view log rank.0 ≡ false) × (rank.0 < length s.nodes)
LiveState s me log (disk.WriteReset rank) =
    (is_up (phase s log) ≡ true) × (is_in_view log rank.0 ≡ false) × (rank.0 < length s.nodes) × (is_chosen s me log ≡ true)
LiveState s me log (disk.WriteClose number) = (is_leaving (phase s log) ≡ true) × (holds log ≡ false) × (incarnation log ≡ Some number)
LiveState s me log op = ⊥

pub record LiveReason (s : Settings) (me : ℕ) (past log : List Line) (entry : What) (op : DiskOp) : Type 0 where
  pub live : is_live (phase s past) ≡ true
  pub lives_on : deadly_of (message_of entry) ≡ None
  pub not_closed : is_closed entry ≡ false
  pub silent : op_out log ≡ None
  pub state : LiveState s me log op

abbrev pub Reason : Settings → ℕ → List Line → What → List Line → DiskOp → Type 0
Reason s me past entry log op = BootReason s me past log entry op ⊎ LiveReason s me past log entry op

pub record StartReason (s : Settings) (me : ℕ) (past log : List Line) : Type 0 where
  pub live : is_live (phase s past) ≡ true
  pub clear : is_clear (unmet s me log (now log)) ≡ true

-- a Tell answers the Ask of another member under the present view
pub record TellReason (s : Settings) (me : ℕ) (past log : List Line) (entry : What) (to : Rank) (tell : Tell) : Type 0 where
  pub live : is_live (phase s past) ≡ true
  pub ask : Ask
  pub asked : entry ≡ what.Ask ask
  pub to_asker : to ≡ ask.from
  pub from_me : tell.from ≡ rank_of me
  pub for_asker : tell.to ≡ ask.from
  pub incarnation : tell.incarnation ≡ ask.incarnation
  pub number_of_view : tell.install ≡ ask.install
  pub same_view : tell.view ≡ ask.view
  pub present : is_present log ask.view ≡ true
  pub member : is_member ask.view.members ask.from.0 ≡ true
  pub held : tell.holds ≡ (gives_start s me log || holds log)
  pub release : tell.released ≡ released s log

-- an Ask carries the own incarnation and the present view
pub record AskReason (s : Settings) (me : ℕ) (past log : List Line) (to : Rank) (ask : Ask) : Type 0 where
  pub live : is_live (phase s past) ≡ true
  pub from_me : ask.from ≡ rank_of me
  pub to_other : ask.to ≡ to
  pub number : ask.incarnation ≡ Rattle.std.proofs.Common.unwrap_or (incarnation log) 0
  pub number_of_view : ask.install ≡ install log
  pub present : view log ≡ Some ask.view

abbrev pub PacketReason : Settings → ℕ → List Line → List Line → What → Rank → Packet → Type 0
PacketReason s me past log entry to (packet.Tell tell) = TellReason s me past log entry to tell
PacketReason s me past log entry to (packet.Ask ask) = AskReason s me past log to ask
PacketReason s me past log entry to other = ⊥

-- what an output tells; the log has the entry, without its outputs
abbrev pub Says : Settings → ℕ → List Line → ℕ → What → List Line → Out → Type 0
Says s me past tick entry log (out.Disk op) = Reason s me past entry log op
Says s me past tick entry log out.Start = StartReason s me past log
Says s me past tick entry log out.Feed = (is_booting (phase s past) ≡ true) ⊎ (mail_feeds tick past entry ≡ true)
Says s me past tick entry log (out.Send to sent) = PacketReason s me past log entry to sent
Says s me past tick entry log output = Unit {0}

to_read_outside : (s : Settings) (log : List Line) (rank : ℕ) → to_read s log ≡ Some rank → (is_in_view log rank ≡ false) × (rank < length s.nodes)
to_read_outside s log rank e = (first_fails _ _ (least_passes _ 0 _ rank e), (let under = least_bound (length s.nodes) 0 _ rank e in omega arith))

to_reset_outside : (s : Settings) (log : List Line) (rank : ℕ) → to_reset s log ≡ Some rank → (is_in_view log rank ≡ false) × (rank < length s.nodes)
to_reset_outside s log rank e = (first_of_three_fails _ _ _ (least_passes _ 0 _ rank e), (let under = least_bound (length s.nodes) 0 _ rank e in omega arith))

-- the node that is reset now is the one to reset
now_or_later : (reset : Option ℕ) (over : ℕ → Bool) (rank : ℕ) → option_and_then (λ r. if over r then Some r else None) reset ≡ Some rank → reset ≡ Some rank
now_or_later None over rank e = none_is_not_some rank e
now_or_later (Some other) over rank e = by_delay (over other) e
  where
    by_delay : (b : Bool) → (if b then Some other else None) ≡ Some rank → Some other ≡ Some rank
    by_delay true is = is
    by_delay false is = none_is_not_some rank is

to_reset_now_outside : (s : Settings) (log : List Line) (rank : ℕ) → to_reset_now s log ≡ Some rank → (is_in_view log rank ≡ false) × (rank < length s.nodes)
to_reset_now_outside s log rank e = to_reset_outside s log rank (now_or_later (to_reset s log) (is_delay_over s log) rank e)

fencing_state : (s : Settings) (me : ℕ) (log : List Line) (read reset : Option ℕ) (op : DiskOp)
    → is_up (phase s log) ≡ true
    → is_chosen s me log ≡ true
    → ((rank : ℕ) → read ≡ Some rank → (is_in_view log rank ≡ false) × (rank < length s.nodes))
    → ((rank : ℕ) → reset ≡ Some rank → (is_in_view log rank ≡ false) × (rank < length s.nodes))
    → option_or (option_map (λ rank. disk.ReadSlot (rank_of rank)) read) (option_map (λ rank. disk.WriteReset (rank_of rank)) reset) ≡ Some op
    → LiveState s me log op
fencing_state s me log (Some rank) reset op up first p q e = subst (λ o. LiveState s me log o) (same_Some _ _ e) (up, (p rank refl).0, (p rank refl).1)
fencing_state s me log None (Some rank) op up first p q e = subst (λ o. LiveState s me log o) (same_Some _ _ e) (up, (q rank refl).0, (q rank refl).1, first)
fencing_state s me log None None op up first p q e = none_is_not_some op e

close_state : (s : Settings) (me : ℕ) (log : List Line) (number : Option ℕ) (op : DiskOp)
    → incarnation log ≡ number → is_leaving (phase s log) ≡ true → holds log ≡ false
    → option_map (λ n. disk.WriteClose n) number ≡ Some op → LiveState s me log op
close_state s me log None op n leaving held e = none_is_not_some op e
close_state s me log (Some number) op n leaving held e = subst (λ o. LiveState s me log o) (same_Some _ _ e) (leaving, held, n)

wanted_cases : (s : Settings) (me : ℕ) (log : List Line) (op : DiskOp) (before : Option DiskOp) (due leaving held fence : Bool) (fencing closing : Option DiskOp)
    → (leaving ≡ true → held ≡ false → closing ≡ Some op → LiveState s me log op)
    → (fence ≡ true → fencing ≡ Some op → LiveState s me log op)
    → (if is_some before then None else (if due then Some disk.ReadMail else (if leaving && not held then closing else (if fence then fencing else None)))) ≡ Some op
    → (before ≡ None) × LiveState s me log op
wanted_cases s me log op (Some other) due leaving held fence fencing closing p q e = none_is_not_some op e
wanted_cases s me log op None true leaving held fence fencing closing p q e = (refl, subst (λ o. LiveState s me log o) (same_Some _ _ e) tt)
wanted_cases s me log op None false true false fence fencing closing p q e = (refl, p refl refl e)
wanted_cases s me log op None false true true true fencing closing p q e = (refl, q refl e)
wanted_cases s me log op None false true true false fencing closing p q e = none_is_not_some op e
wanted_cases s me log op None false false held true fencing closing p q e = (refl, q refl e)
wanted_cases s me log op None false false held false fencing closing p q e = none_is_not_some op e

-- what a node that takes part wants next, it wants for a reason
pub wanted_by : (s : Settings) (me : ℕ) (log : List Line) (op : DiskOp) → wanted_with_delay s me log ≡ Some op → (op_out log ≡ None) × LiveState s me log op
unfolding wanted_with_delay
wanted_by s me log op e =
    wanted_cases s me log op (op_out log) (is_mail_due log) (is_leaving (phase s log)) (holds log) (may_fence s me log) (fencing_op_with_delay s log) (close_op log)
    (λ leaving held closing. close_state s me log (incarnation log) op refl leaving held closing)
    (λ fence fencing. fencing_state s me log (to_read s log) (to_reset_now s log) op
    (first_of_both (is_up (phase s log)) (quorate_with_tie s log (now log)) (first_of_both _ (is_chosen s me log) fence))
    (second_of_both (is_up (phase s log) && quorate_with_tie s log (now log)) (is_chosen s me log) fence)
    (to_read_outside s log) (to_reset_now_outside s log) fencing)
    e

module _ (s : Settings) (me : ℕ) (past : List Line) (tick : ℕ) (entry : What) (log : List Line) where
  abbrev AllSay : List Out → Type 0
  AllSay outs = All (Says s me past tick entry log) outs

  none_says : AllSay []
  none_says = All-nil (Says s me past tick entry log)

  one_says : (o : Out) → Says s me past tick entry log o → AllSay (o ∷ [])
  one_says o p = All-cons (Says s me past tick entry log) o [] p none_says

  when_says : (b : Bool) (o : Out) → (b ≡ true → Says s me past tick entry log o) → AllSay (when b o)
  when_says true o p = one_says o (p refl)
  when_says false o p = none_says

  both_say : (front back : List Out) → AllSay front → AllSay back → AllSay (front ++ back)
  both_say front back p q = All-append (Says s me past tick entry log) front back p q

  op_says : (op : Option DiskOp) → ((o : DiskOp) → op ≡ Some o → Reason s me past entry log o) → AllSay (disk_outs op)
  op_says None p = none_says
  op_says (Some op) p = one_says (out.Disk op) (p op refl)

  reply_says : (ask : Ask) (live : is_live (phase s past) ≡ true) → entry ≡ what.Ask ask
      → AllSay (reply s me (gives_start s me log || holds log) log ask)
  reply_says ask live asked = when_says _ _ (λ present. record {
    live = live;
    ask = ask;
    asked = asked;
    to_asker = refl;
    from_me = refl;
    for_asker = refl;
    incarnation = refl;
    number_of_view = refl;
    same_view = refl;
    present = first_of_both _ _ present;
    member = second_of_both (is_present log ask.view) _ present;
    held = refl;
    release = refl;
  })

  replies_say : (other : What) → is_live (phase s past) ≡ true → entry ≡ other → AllSay (replies s me (gives_start s me log || holds log) log other)
  replies_say (what.Ask ask) live same = reply_says ask live same
  replies_say what.Begin live same = none_says
  replies_say what.BeginClean live same = none_says
  replies_say (what.Header seen) live same = none_says
  replies_say (what.SlotRead rank seen) live same = none_says
  replies_say (what.MailChecked seen) live same = none_says
  replies_say (what.Claimed ok) live same = none_says
  replies_say (what.Cleared ok) live same = none_says
  replies_say (what.MailRead seen) live same = none_says
  replies_say (what.MailWritten rank ok) live same = none_says
  replies_say (what.View installed) live same = none_says
  replies_say (what.Tell tell) live same = none_says
  replies_say (what.Device agrees) live same = none_says
  replies_say what.Tick live same = none_says
  replies_say (what.Stopped ok) live same = none_says
  replies_say what.Leave live same = none_says
  replies_say (what.Closed ok) live same = none_says

  asks_under_say : (present : Option View) → is_live (phase s past) ≡ true → view log ≡ present → AllSay (option_map_or (asks_under s me log) present [])
  asks_under_say None live same = none_says
  asks_under_say (Some present) live same = All-map (Says s me past tick entry log) (ask_to me log present) _ (λ k d h. record {
    live = live;
    from_me = refl;
    to_other = refl;
    number = refl;
    number_of_view = refl;
    present = same;
  })

  asks_say : (asking : Bool) → is_live (phase s past) ≡ true → AllSay (if asking then option_map_or (asks_under s me log) (view log) [] else [])
  asks_say true live = asks_under_say (view log) live refl
  asks_say false live = none_says

  acts_say : is_live (phase s past) ≡ true → deadly_of (message_of entry) ≡ None → is_closed entry ≡ false
      → AllSay (acts s me log entry (mail_feeds tick past entry))
  unfolding acts
  acts_say live lives not_closed =
      both_say _ _
      (both_say _ _
      (both_say _ _
      (both_say _ _
      (both_say _ _ (when_says (gives_stop s me log) out.Stop (λ e. tt)) (when_says (gives_start s me log) out.Start (λ e. record { live = live; clear = e })))
      (when_says (mail_feeds tick past entry) out.Feed (λ e. inr e)))
      (replies_say entry live refl))
      (asks_say (is_asking s log) live))
      (op_says (wanted_with_delay s me log) (λ op e. let why = wanted_by s me log op e in
      inr (record { live = live; lives_on = lives; not_closed = not_closed; silent = why.0; state = why.1 })))

  live_say : (other : What) (message : Option Message) → is_live (phase s past) ≡ true → is_closed entry ≡ is_closed other → deadly_of (message_of entry) ≡ message
      → (deadly_of (message_of entry) ≡ None → is_closed entry ≡ false → AllSay (acts s me log other (mail_feeds tick past entry)))
      → AllSay (live_outs s me log other (mail_feeds tick past entry) message)
  live_say other (Some message) live same deadly p = one_says (out.Halt (halt.Deadly message)) tt
  live_say (what.Closed ok) None live same deadly p = one_says out.Disarm tt
  live_say what.Begin None live same deadly p = p deadly same
  live_say what.BeginClean None live same deadly p = p deadly same
  live_say (what.Header seen) None live same deadly p = p deadly same
  live_say (what.SlotRead rank seen) None live same deadly p = p deadly same
  live_say (what.MailChecked seen) None live same deadly p = p deadly same
  live_say (what.Claimed ok) None live same deadly p = p deadly same
  live_say (what.Cleared ok) None live same deadly p = p deadly same
  live_say (what.MailRead seen) None live same deadly p = p deadly same
  live_say (what.MailWritten rank ok) None live same deadly p = p deadly same
  live_say (what.View installed) None live same deadly p = p deadly same
  live_say (what.Ask ask) None live same deadly p = p deadly same
  live_say (what.Tell tell) None live same deadly p = p deadly same
  live_say (what.Device agrees) None live same deadly p = p deadly same
  live_say what.Tick None live same deadly p = p deadly same
  live_say (what.Stopped ok) None live same deadly p = p deadly same
  live_say what.Leave None live same deadly p = p deadly same

  boot_step_says : (cause : Option BootCause) → is_booting (phase s past) ≡ true → boot_halt s entry ≡ cause → AllSay (boot_step_outs me (begins_clean log) (slot_number log) entry cause)
  boot_step_says None booting goes = both_say _ _ (when_says (not (is_begin entry)) out.Feed (λ e. inl booting))
      (op_says (boot_op me (begins_clean log) (slot_number log) entry) (λ op e. inl (record { booting = booting; goes_on = goes; next = e })))
  boot_step_says (Some cause) booting goes = one_says _ tt

  boot_says : (step : Bool) → is_booting (phase s past) ≡ true → AllSay (if step then boot_step_outs me (begins_clean log) (slot_number log) entry (boot_halt s entry) else [])
  boot_says true booting = boot_step_says (boot_halt s entry) booting refl
  boot_says false booting = none_says

  phase_says : (booting live : Bool) → is_booting (phase s past) ≡ booting → is_live (phase s past) ≡ live
      → AllSay (if booting then boot_outs s me (begins_clean log) (slot_number log) entry else (if live then live_outs s me log entry (mail_feeds tick past entry) (deadly_of (message_of entry)) else []))
  phase_says true live b l = boot_says (is_boot_step entry) b
  phase_says false true b l = live_say entry (deadly_of (message_of entry)) l refl refl (acts_say l)
  phase_says false false b l = none_says

  -- every output tells why it came
  pub outs_say : AllSay (outs_at s me past tick entry log)
  unfolding outs_at
  outs_say = phase_says (is_booting (phase s past)) (is_live (phase s past)) refl refl

-- the disk operation among outputs is one of them
pub disk_is : (P : Out → Type 0) (outs : List Out) (op : DiskOp) → All P outs → disk_of outs ≡ Some op → P (out.Disk op)
disk_is P [] op p e = none_is_not_some op e
disk_is P (out.Disk other ∷ outs) op p e = subst (λ o. P (out.Disk o)) (same_Some _ _ e) (All-head P (out.Disk other) outs p)
disk_is P (out.Stop ∷ outs) op p e = disk_is P outs op (All-tail P out.Stop outs p) e
disk_is P (out.Start ∷ outs) op p e = disk_is P outs op (All-tail P out.Start outs p) e
disk_is P (out.Feed ∷ outs) op p e = disk_is P outs op (All-tail P out.Feed outs p) e
disk_is P (out.Send to sent ∷ outs) op p e = disk_is P outs op (All-tail P (out.Send to sent) outs p) e
disk_is P (out.Disarm ∷ outs) op p e = disk_is P outs op (All-tail P out.Disarm outs p) e
disk_is P (out.Halt kind ∷ outs) op p e = disk_is P outs op (All-tail P (out.Halt kind) outs p) e

-- a Start among outputs is one of them
pub start_is : (P : Out → Type 0) (outs : List Out) → All P outs → has_start outs ≡ true → P out.Start
start_is P [] p e = absurd (false≢true e)
start_is P (out.Start ∷ outs) p e = All-head P out.Start outs p
start_is P (out.Disk op ∷ outs) p e = start_is P outs (All-tail P (out.Disk op) outs p) e
start_is P (out.Stop ∷ outs) p e = start_is P outs (All-tail P out.Stop outs p) e
start_is P (out.Feed ∷ outs) p e = start_is P outs (All-tail P out.Feed outs p) e
start_is P (out.Send to sent ∷ outs) p e = start_is P outs (All-tail P (out.Send to sent) outs p) e
start_is P (out.Disarm ∷ outs) p e = start_is P outs (All-tail P out.Disarm outs p) e
start_is P (out.Halt kind ∷ outs) p e = start_is P outs (All-tail P (out.Halt kind) outs p) e
