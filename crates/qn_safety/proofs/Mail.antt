-- A reset that landed: the incarnation that was up gets bad mail from then on.
use Rattle.std.proofs.Common.{◌≡◌, ℕ, ◌<◌, ◌≤◌, Bool, true, false, List, ◌∷◌, length, Some, None, Option, refl, sym, ap, ◌∙◌, subst, arith, ◌==◌, ◌||◌, not, if◌then◌else◌, ◌⊎◌, inl, inr}
use Rattle.std.specs.Option.{option_map_or}
use Rattle.std.proofs.lemmas.Bool.{false≢true, eqb-true}
use Rattle.qn_base.specs.declared.ids.Rank.{Rank}
use Rattle.qn_model.specs.declared.configuration.Settings.{Settings}
use Rattle.qn_model.specs.declared.times.Timing.{Timing}
use Rattle.qn_model.specs.declared.disk.Message.{Message}
use Rattle.qn_model.specs.declared.disk.Message.TheVariants as message
use Rattle.qn_model.specs.declared.entries.What.{What}
use Rattle.qn_model.specs.declared.outputs.DiskOp.{DiskOp}
use Rattle.qn_model.specs.declared.outputs.DiskOp.TheVariants as disk
use Rattle.qn_model.specs.Log.{op_out, ask_place, is_answer}
use Rattle.qn_model.specs.Phases.{phase, message_of, is_booting}
use Rattle.qn_model.specs.Sectors.{is_deadly}
use Rattle.qn_model.specs.NodeVotes.{view}
use Rattle.qn_model.specs.Licences.{writes_reset}
use Rattle.qn_model.specs.NodeOutputs.{feeds_on}
use Rattle.qn_model.specs.Moments.{Before, Itself, Later}
use Rattle.qn_safety.specs.Earlier.{before_length, before_then, before_tail, before_total, before_same}
use Rattle.qn_model.specs.declared.packets.Sent.{Sent}
use Rattle.qn_model.specs.Moments.{Moment, Adds, node, packets}
use Rattle.qn_safety.specs.Timed.{IsUp, IsSameBoot, IsBetween, GetsBadMail, WrittenMeansBadMail}
use Rattle.qn_model.specs.declared.events.Event.{Event}
use Rattle.qn_model.specs.declared.events.Event.TheVariants as event
use Rattle.qn_model.specs.World.{World, put, op_at, mailboxes_with, taken, numbered}
use Rattle.qn_model.specs.Rules.{refusal, is_on, may_operate}
use Rattle.qn_model.specs.Steps.{happens, landed, answered, fails, lands_late, entry_of, step, run}
use Rattle.std.specs.Prelude.{slice_get}
use Rattle.std.proofs.lemmas.Option.{same_Some}
use Rattle.qn_base.specs.lemmas.Options.{none_is_not_some}
use Rattle.qn_base.specs.lemmas.Bools.{never_both, first_of_both}
use Rattle.qn_model.specs.lemmas.Rules.{allowed}
use Rattle.qn_model.specs.lemmas.Moments.{put_same, put_other}
use Rattle.qn_model.specs.lemmas.Entries.{read_answers_none}
use Rattle.qn_model.specs.lemmas.Failures.{failed_no_mail, failed_unwritten}
use Rattle.qn_model.specs.lemmas.Logs.{ask_place-within}
use Rattle.qn_safety.proofs.Logs.{Made, made_line}
use Rattle.qn_safety.proofs.Stays.{ask_place_kept}
use Rattle.qn_safety.proofs.Rests.{write_is}
use Rattle.qn_safety.proofs.Runs.{sound, ruled_before, span, same_mid}
use Rattle.qn_safety.proofs.Origins.{line_of, line_what}
use Rattle.qn_safety.proofs.Fence.{up_later, plain_no_mail}
use Rattle.qn_safety.proofs.Seats.{seat_of, Effect, Rests, Enters, Answers, Fails, BootsUp, GoesOff, Lands, LandsLate}
use Rattle.qn_safety.proofs.Kept.{some_op, booting_op}
use Rattle.qn_safety.proofs.Held.{Held, resets_late}
use Rattle.qn_safety.proofs.Events.{IsAllowed, allowed_before, stage, effect_at, earlier_allowed, newest_allowed, moments_grow, run_step}
use Rattle.qn_safety.proofs.Landings.{LandedAt, landed_at, AddedBy, added_by, LineKind, Plain, Taken, Failed}
use Rattle.qn_safety.proofs.Facts.{asked_le, between_of}

deadly_same : (a b : Message) → a ≡ b → is_deadly b ≡ true → is_deadly a ≡ true
deadly_same a b e deadly = ap is_deadly e ∙ deadly

-- a mailbox with a deadly message keeps one at each write but a clear of its own node
deadly_with : (k j : ℕ) (op : DiskOp) (mailboxes : ℕ → Message) → (k ≡ j → op ≡ disk.WriteClear → ⊥) → is_deadly (mailboxes j) ≡ true → is_deadly (mailboxes_with k op mailboxes j) ≡ true
deadly_with k j disk.WriteClear mailboxes no_clear deadly = by_owner (k == j) refl
  where
    by_owner : (b : Bool) → (k == j) ≡ b → is_deadly (put mailboxes k message.Empty j) ≡ true
    by_owner true e = absurd (no_clear (eqb-true k j e) refl)
    by_owner false e = deadly_same _ _ (put_other mailboxes k j message.Empty e) deadly
deadly_with k j (disk.WriteReset other) mailboxes no_clear deadly = by_owner (other.0 == j) refl
  where
    by_owner : (b : Bool) → (other.0 == j) ≡ b → is_deadly (put mailboxes other.0 message.Reset j) ≡ true
    by_owner true e = deadly_same _ _ (ap (λ b. if b then message.Reset else mailboxes j) e) refl
    by_owner false e = deadly_same _ _ (put_other mailboxes other.0 j message.Reset e) deadly
deadly_with k j disk.ReadHeader mailboxes no_clear deadly = deadly
deadly_with k j (disk.ReadSlot rank) mailboxes no_clear deadly = deadly
deadly_with k j disk.CheckMail mailboxes no_clear deadly = deadly
deadly_with k j (disk.WriteClaim number) mailboxes no_clear deadly = deadly
deadly_with k j disk.ReadMail mailboxes no_clear deadly = deadly
deadly_with k j (disk.WriteClose number) mailboxes no_clear deadly = deadly

module _ (s : Settings) (t : Timing) (j : ℕ) (w : World) (made : Made s j (node s j w.moments).log) (held : Held s (seat_of s j w)) (on : (node s j w.moments).on ≡ true)
    (booted : is_booting (phase s (node s j w.moments).log) ≡ false) (deadly : is_deadly (w.mailboxes j) ≡ true) where
  -- no clear of a node that is up is out, nor left over
  no_clear_out : (k : ℕ) (op : DiskOp) → op_at s k w ≡ Some op → k ≡ j → op ≡ disk.WriteClear → ⊥
  no_clear_out k op out same clear =
      let own : op_out (node s j w.moments).log ≡ Some disk.WriteClear = subst (λ r. op_at s r w ≡ Some disk.WriteClear) same (out ∙ ap Some clear) in
      never_both (is_booting (phase s (node s j w.moments).log)) (booting_op made disk.WriteClear own refl refl) booted

  no_clear_left : (k number : ℕ) (op : DiskOp) → numbered (w.left k) number ≡ Some op → k ≡ j → op ≡ disk.WriteClear → ⊥
  no_clear_left k number op there same clear =
      let own : numbered (w.left j) number ≡ Some disk.WriteClear = subst (λ r. numbered (w.left r) number ≡ Some disk.WriteClear) same (there ∙ ap Some clear) in
      false≢true ((resets_late (w.left j) number disk.WriteClear (held.resets on) own).0)

  -- an operator sends the node no other message than a deadly one
  deadly_sent : (rank : ℕ) (message : Message) → may_operate s rank message w ≡ true → is_deadly (put w.mailboxes rank message j) ≡ true
  deadly_sent rank message may = by_owner (rank == j) refl
    where
      by_rule : (a b c : Bool) → (a || not b || not c) ≡ true → b ≡ true → c ≡ true → a ≡ true
      by_rule true b c may holds runs = refl
      by_rule false true true may holds runs = absurd (false≢true may)
      by_rule false false c may holds runs = absurd (false≢true holds)
      by_rule false true false may holds runs = absurd (false≢true runs)

      by_owner : (b : Bool) → (rank == j) ≡ b → is_deadly (put w.mailboxes rank message j) ≡ true
      by_owner false e = deadly_same _ _ (put_other w.mailboxes rank j message e) deadly
      by_owner true e =
          let own = eqb-true rank j e in
          deadly_same _ _ (ap (λ b. if b then message else w.mailboxes j) e)
          (by_rule (is_deadly message) (is_deadly (w.mailboxes rank)) (is_on s rank w) may
          (ap (λ r. is_deadly (w.mailboxes r)) own ∙ deadly) (ap (λ r. is_on s r w) own ∙ on))

  mail_step : (e : Event) → refusal s t e w ≡ None → is_deadly ((step s t e w).mailboxes j) ≡ true
  unfolding refusal step
  mail_step (event.Pass dt clocks) ok = deadly
  mail_step (event.Boot rank base) ok = deadly
  mail_step (event.BootClean rank base) ok = deadly
  mail_step (event.Crash rank) ok = deadly
  mail_step (event.Land rank) ok = by_op (op_at s rank.0 w) refl
    where
      by_op : (o : Option DiskOp) → op_at s rank.0 w ≡ o → is_deadly ((option_map_or (λ op. landed s t rank.0 op w) o w).mailboxes j) ≡ true
      by_op None e = deadly
      by_op (Some op) e = deadly_with rank.0 j op w.mailboxes (no_clear_out rank.0 op e) deadly
  mail_step (event.Done rank) ok = by_took (w.took rank.0)
    where
      by_took : (o : Option What) → is_deadly ((option_map_or (λ entry. answered rank.0 entry w) o w).mailboxes j) ≡ true
      by_took None = deadly
      by_took (Some entry) = deadly
  mail_step (event.Fail rank) ok = by_op (op_at s rank.0 w)
    where
      by_op : (o : Option DiskOp) → is_deadly ((option_map_or (λ op. fails s rank.0 op w) o w).mailboxes j) ≡ true
      by_op None = deadly
      by_op (Some op) = deadly
  mail_step (event.Late rank number) ok = by_op (numbered (w.left rank.0) number) refl
    where
      by_op : (o : Option DiskOp) → numbered (w.left rank.0) number ≡ o → is_deadly ((option_map_or (λ op. lands_late rank.0 number op w) o w).mailboxes j) ≡ true
      by_op None e = deadly
      by_op (Some op) e = deadly_with rank.0 j op w.mailboxes (no_clear_left rank.0 number op e) deadly
  mail_step (event.View rank view) ok = deadly
  mail_step (event.Deliver rank number) ok = by_sent (slice_get (packets s w.moments) number)
    where
      by_sent : (o : Option Sent) → is_deadly ((option_map_or (λ x. happens (Adds rank.0 (entry_of x.packet)) w) o w).mailboxes j) ≡ true
      by_sent None = deadly
      by_sent (Some sent) = deadly
  mail_step (event.Device rank agrees) ok = deadly
  mail_step (event.Tick rank) ok = deadly
  mail_step (event.Stopped rank) ok = deadly
  mail_step (event.Unstopped rank) ok = deadly
  mail_step (event.Leave rank) ok = deadly
  mail_step (event.Feed rank) ok = deadly
  mail_step (event.Operator rank message) ok = deadly_sent rank.0 message (allowed (may_operate s rank.0 message w) 10 ok)

-- node j after a reset landed at p: its mailbox is deadly, and a read that it asked for later does not feed it
record BadMail (s : Settings) (t : Timing) (j : ℕ) (p : List Moment) (w : World) : Type 0 where
  deadly : is_deadly (w.mailboxes j) ≡ true
  took : (v : What) → w.took j ≡ Some v → length (node s j p).log < ask_place (node s j w.moments).log → feeds_on (message_of v) ≡ false

taken_bad : (s : Settings) (t : Timing) (j : ℕ) (op : DiskOp) (w : World) → is_deadly (w.mailboxes j) ≡ true → feeds_on (message_of (taken s t j op w)) ≡ false
unfolding taken
taken_bad s t j disk.ReadMail w deadly = ap not deadly
taken_bad s t j disk.ReadHeader w deadly = refl
taken_bad s t j (disk.ReadSlot other) w deadly = refl
taken_bad s t j disk.CheckMail w deadly = refl
taken_bad s t j (disk.WriteClaim number) w deadly = refl
taken_bad s t j disk.WriteClear w deadly = refl
taken_bad s t j (disk.WriteReset other) w deadly = refl
taken_bad s t j (disk.WriteClose number) w deadly = refl

module _ {s : Settings} {t : Timing} (j : ℕ) (p : List Moment) where
  took_step : {e : Event} {events : List Event} → IsAllowed s t (e ∷ events) → BadMail s t j p (run s t events) → (node s j (run s t (e ∷ events)).moments).on ≡ true
      → Effect s t j (run s t events) (run s t (e ∷ events)) → (v : What) → (run s t (e ∷ events)).took j ≡ Some v
      → length (node s j p).log < ask_place (node s j (run s t (e ∷ events)).moments).log → feeds_on (message_of v) ≡ false
  took_step {e = e} {events = events} allowed was on (Rests same) v took after =
      was.took v (sym (ap (λ x. x.took) same) ∙ took) (let q : ask_place (node s j (run s t (e ∷ events)).moments).log ≡ ask_place (node s j (run s t events).moments).log = ap (λ x. ask_place x.log) same in omega arith)
  took_step {e = e} {events = events} allowed was on (LandsLate number op there same) v took after =
      was.took v (sym (ap (λ x. x.took) same) ∙ took) (let q : ask_place (node s j (run s t (e ∷ events)).moments).log ≡ ask_place (node s j (run s t events).moments).log = ap (λ x. ask_place x.log) same in omega arith)
  took_step {e = e} {events = events} allowed was on (Enters tick entry on_before plain same) v took after =
      let was_took : (run s t events).took j ≡ Some v = sym (ap (λ x. x.took) same) ∙ took in
      let waits = ((stage (earlier_allowed allowed)).held j).answers on_before v was_took in
      let out = some_op (op_out (node s j (run s t events).moments).log) v waits in
      let made' : Made s j (line_of s j tick entry (node s j (run s t events).moments).log ∷ (node s j (run s t events).moments).log) =
      subst (λ l. Made s j l) (ap (λ x. x.log) same) ((sound ((stage allowed).ruled) j).made) in
      let place : ask_place (node s j (run s t (e ∷ events)).moments).log ≡ ask_place (node s j (run s t events).moments).log =
      ap (λ x. ask_place x.log) same
      ∙ ask_place_kept (made_line made') out.0 out.1 (ap is_answer (line_what s j tick entry (node s j (run s t events).moments).log) ∙ read_answers_none s j (node s j (run s t events).moments).log entry plain) in
      was.took v was_took (omega arith)
  took_step allowed was on (Answers tick entry on_before was_took same) v took after = none_is_not_some v (sym (ap (λ x. x.took) same) ∙ took)
  took_step allowed was on (Fails tick op on_before out same) v took after = none_is_not_some v (sym (ap (λ x. x.took) same) ∙ took)
  took_step allowed was on (BootsUp tick clean off same) v took after = none_is_not_some v (sym (ap (λ x. x.took) same) ∙ took)
  took_step allowed was on (GoesOff on_before same) v took after = none_is_not_some v (sym (ap (λ x. x.took) same) ∙ took)
  took_step {events = events} allowed was on (Lands op on_before out none all same) v took after =
      ap (λ u. feeds_on (message_of u)) (same_Some _ _ (sym took ∙ ap (λ x. x.took) same)) ∙ taken_bad s t j op (run s t events) was.deadly

  bad_mail_step : {e : Event} {events : List Event} → IsAllowed s t (e ∷ events) → IsUp s j (run s t events).moments → (node s j (run s t (e ∷ events)).moments).on ≡ true
      → BadMail s t j p (run s t events) → BadMail s t j p (run s t (e ∷ events))
  bad_mail_step {e = e} {events = events} allowed up on was =
      let stood = stage (earlier_allowed allowed) in
      record {
        deadly = subst (λ w'. is_deadly (w'.mailboxes j) ≡ true) (sym (run_step s t e events))
            (mail_step s t j (run s t events) ((sound stood.ruled j).made) (stood.held j) up.on up.booted was.deadly e (newest_allowed allowed));
        took = took_step allowed was on (effect_at j allowed);
      }

  -- from the landing of the reset on, while the incarnation runs
  bad_mail_on : {e : Event} {earlier events : List Event} (i : ℕ) (other : Rank) → Before (e ∷ earlier) events → IsAllowed s t events
      → run s t (e ∷ earlier) ≡ landed s t i (disk.WriteReset other) (run s t earlier) → other.0 ≡ j → p ≡ (run s t earlier).moments → IsUp s j p
      → IsSameBoot s j p (run s t events).moments → (node s j (run s t events).moments).on ≡ true → BadMail s t j p (run s t events)
  bad_mail_on {e = e} {earlier = earlier} i other Itself allowed lands own is up same on = record {
    deadly = subst (λ w. is_deadly (w.mailboxes j) ≡ true) (sym lands) (deadly_same _ _ own_mail refl);
    took = λ v took after.
        absurd (let place : ask_place (node s j (run s t (e ∷ earlier)).moments).log ≡ ask_place (node s j p).log =
        ap (λ w. ask_place (node s j w.moments).log) lands ∙ ap (λ ms. ask_place (node s j ms).log) (sym is) in
        let inside = ask_place-within (node s j p).log in
        omega arith);
  }
    where
      own_mail : put (run s t earlier).mailboxes other.0 message.Reset j ≡ message.Reset
      own_mail = ap (λ r. put (run s t earlier).mailboxes other.0 message.Reset r) (sym own) ∙ put_same (run s t earlier).mailboxes other.0 message.Reset
  bad_mail_on {e = e} {earlier = earlier} i other (Later newest {new = new} more) allowed lands own is up same on =
      let to_new : Before p (run s t new).moments = subst (λ ms. Before ms (run s t new).moments) (sym is) (moments_grow s t (before_tail more)) in
      let newer : Before (run s t new).moments (run s t (newest ∷ new)).moments = moments_grow s t (Later newest Itself) in
      let mids = same_mid s j to_new newer same in
      let ruled = (stage allowed).ruled in
      let on_new = (span j ruled newer mids.1 on).on in
      let up_new = up_later j (ruled_before newer ruled) to_new up mids.0 on_new in
      bad_mail_step allowed up_new on (bad_mail_on i other more (earlier_allowed allowed) lands own is up mids.0 on_new)

taken_reset : (s : Settings) (t : Timing) (i j : ℕ) (op : DiskOp) (w : World) → writes_reset j (taken s t i op w) ≡ true → (other : Rank) × (op ≡ disk.WriteReset other) × (other.0 ≡ j)
unfolding taken
taken_reset s t i j (disk.WriteReset other) w e = (other, refl, eqb-true other.0 j (first_of_both (other.0 == j) true e))
taken_reset s t i j disk.ReadHeader w e = absurd (false≢true e)
taken_reset s t i j (disk.ReadSlot other) w e = absurd (false≢true e)
taken_reset s t i j disk.CheckMail w e = absurd (false≢true e)
taken_reset s t i j (disk.WriteClaim number) w e = absurd (false≢true e)
taken_reset s t i j disk.WriteClear w e = absurd (false≢true e)
taken_reset s t i j disk.ReadMail w e = absurd (false≢true e)
taken_reset s t i j (disk.WriteClose number) w e = absurd (false≢true e)

module _ {s : Settings} {t : Timing} {events : List Event} (allowed : IsAllowed s t events) (i j : ℕ) (v : What) (since : List Event) (back : Before since events)
    (land : LandedAt s t i v since) (other : Rank) (resets : land.op ≡ disk.WriteReset other) (own : other.0 ≡ j) where
  -- the incarnation of j that was up when the reset of it landed gets bad mail
  pub bad_mail_from : GetsBadMail s j (run s t land.earlier).moments (run s t events).moments
  bad_mail_from up line past before added p_before same after = by_kind it.kind
    where
      p : List Moment
      p = (run s t land.earlier).moments

      it : AddedBy s t j line before events
      it = added_by j line past before allowed added

      asked : line.asked ≤ ask_place (node s j before).log
      asked = asked_le j line past before allowed added

      lands : run s t (land.e ∷ land.earlier) ≡ landed s t i (disk.WriteReset other) (run s t land.earlier)
      lands = land.lands ∙ ap (λ op. landed s t i op (run s t land.earlier)) resets

      late_asked : length (node s j p).log < ask_place (node s j (run s t it.earlier).moments).log
      late_asked = let a = asked in let q : ask_place (node s j (run s t it.earlier).moments).log ≡ ask_place (node s j before).log = ap (λ ms. ask_place (node s j ms).log) it.same in omega arith

      by_order : Before (land.e ∷ land.earlier) it.earlier ⊎ Before it.earlier (land.e ∷ land.earlier) → (run s t it.earlier).took j ≡ Some line.what → feeds_on (message_of line.what) ≡ false
      by_order (inl first) took =
          let mail = bad_mail_on j p i other first (allowed_before (before_tail it.back) allowed) lands own refl up
          (same ∙ ap (λ ms. (node s j ms).boots) (sym it.same)) it.on in
          mail.took line.what took late_asked
      by_order (inr second) took =
          absurd (let a = asked in
          let to_p : Before before p = subst (λ ms. Before ms p) it.same (subst (λ ms. Before (run s t it.earlier).moments ms) (ap (λ w. w.moments) lands) (moments_grow s t second)) in
          let equal : before ≡ p = before_same to_p (before_length p_before) in
          let place : ask_place (node s j before).log ≡ ask_place (node s j p).log = ap (λ ms. ask_place (node s j ms).log) equal in
          let inside = ask_place-within (node s j p).log in
          omega arith)

      by_kind : LineKind s t j line (run s t it.earlier) → feeds_on (message_of line.what) ≡ false
      by_kind (Plain plain) = plain_no_mail line.what plain
      by_kind (Failed op failure) = ap (λ w. feeds_on (message_of w)) failure ∙ failed_no_mail op
      by_kind (Taken took) = by_order (before_total (before_then land.back back) (before_tail it.back)) took

-- where a reset is written, the incarnation that was up at its landing gets bad mail
pub written_means_bad_mail : {s : Settings} {t : Timing} {events : List Event} → IsAllowed s t events → WrittenMeansBadMail s (run s t events).moments
written_means_bad_mail {s = s} {t = t} {events = events} allowed i j line past before added writes = by_kind it.kind
  where
    it : AddedBy s t i line before events
    it = added_by i line past before allowed added

    by_kind : LineKind s t i line (run s t it.earlier) → (between : List Moment) × IsBetween s i line before between × GetsBadMail s j between (run s t events).moments
    by_kind (Plain plain) = never_both (is_answer line.what) (ap is_answer (write_is j line.what writes).1) plain
    by_kind (Failed op failure) = absurd (failed_unwritten j op (subst (λ w. writes_reset j w ≡ true) failure writes))
    by_kind (Taken took) =
        let land = landed_at i line.what (allowed_before (before_tail it.back) allowed) it.on took in
        let reset = taken_reset s t i j land.op (run s t land.earlier) (subst (λ w. writes_reset j w ≡ true) land.value writes) in
        ((run s t land.earlier).moments, between_of i line past before allowed added it land, bad_mail_from allowed i j line.what it.earlier (before_tail it.back) land reset.0 reset.1 reset.2)
