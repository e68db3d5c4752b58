-- The leftover writes of a node, and what stays true of a node's seat at each event.
use Rattle.std.proofs.Common.{◌≡◌, ℕ, suc, zero, ◌≤◌, Bool, true, false, List, [], ◌∷◌, ◌++◌, Some, None, Option, refl, sym, ap, ◌∙◌, subst, arith, not, if◌then◌else◌}
use Rattle.std.proofs.lemmas.Bool.{false≢true, true≢false, not-true}
use Rattle.qn_base.specs.declared.ids.Rank.{Rank}
use Rattle.qn_model.specs.declared.configuration.Settings.{Settings}
use Rattle.qn_model.specs.declared.times.Timing.{Timing}
use Rattle.qn_model.specs.declared.disk.Slot.{Slot}
use Rattle.qn_model.specs.declared.seen.SlotSeen.TheVariants as slot
use Rattle.qn_model.specs.declared.entries.What.{What}
use Rattle.qn_model.specs.declared.entries.What.TheVariants as what
use Rattle.qn_model.specs.declared.life.Phase.{Phase}
use Rattle.qn_model.specs.declared.outputs.DiskOp.{DiskOp}
use Rattle.qn_model.specs.declared.outputs.DiskOp.TheVariants as disk
use Rattle.qn_model.specs.Log.{Line, op_out, is_answer}
use Rattle.qn_model.specs.Phases.{phase, next_phase, in_time}
use Rattle.qn_model.specs.NodeVotes.{answers}
use Rattle.qn_model.specs.Fitting.{answers_op}
use Rattle.qn_model.specs.Moments.{begin_of, is_gone, node}
use Rattle.qn_model.specs.World.{World, first_world, taken, failed, is_write, given_up, numbered, without}
use Rattle.std.proofs.Common.{append-nil}
use Rattle.std.proofs.lemmas.Option.{same_Some}
use Rattle.qn_base.specs.lemmas.Options.{none_is_not_some}
use Rattle.qn_model.specs.lemmas.Entries.{begin_answers_none, failed_answers, read_answers_none}
use Rattle.qn_safety.proofs.Logs.{Made, NoLine, IsLine, made_line}
use Rattle.qn_safety.proofs.Stays.{op_kept}
use Rattle.qn_safety.proofs.Outs.{out_closes, answer_fits}
use Rattle.qn_safety.proofs.Origins.{line_of, line_what}
use Rattle.qn_safety.proofs.Seats.{Seat, seat_of, entered, fresh, slot_after, Effect, Rests, Enters, Answers, Fails, BootsUp, GoesOff, Lands, LandsLate}
use Rattle.qn_safety.proofs.Kept.{Kept, first_kept, some_op, kept_enter, kept_reply, kept_land, taken_answers, booted_op}

abbrev pub is_reset : DiskOp → Bool
is_reset (disk.WriteReset rank) = true
is_reset op = false

abbrev pub AllResets : List DiskOp → Type 0
AllResets [] = Unit {0}
AllResets (op ∷ ops) = (is_reset op ≡ true) × AllResets ops

-- a leftover that lands late does not lower the number in the slot of its node
abbrev pub KeepsNumber : Slot → DiskOp → Type 0
KeepsNumber mine (disk.WriteClaim number) = mine.incarnation ≤ number
KeepsNumber mine (disk.WriteClose number) = mine.incarnation ≤ number
KeepsNumber mine op = Unit {0}

-- all leftovers but the newest are resets
abbrev pub LeftOk : Slot → List DiskOp → Type 0
LeftOk mine [] = Unit {0}
LeftOk mine (op ∷ []) = KeepsNumber mine op
LeftOk mine (op ∷ next ∷ ops) = (is_reset op ≡ true) × LeftOk mine (next ∷ ops)

reset_keeps : (mine : Slot) (op : DiskOp) → is_reset op ≡ true → KeepsNumber mine op
reset_keeps mine (disk.WriteReset rank) e = tt
reset_keeps mine disk.ReadHeader e = tt
reset_keeps mine (disk.ReadSlot rank) e = tt
reset_keeps mine disk.CheckMail e = tt
reset_keeps mine disk.WriteClear e = tt
reset_keeps mine disk.ReadMail e = tt
reset_keeps mine (disk.WriteClaim number) e = absurd (false≢true e)
reset_keeps mine (disk.WriteClose number) e = absurd (false≢true e)

pub reset_slot : (mine : Slot) (op : DiskOp) → is_reset op ≡ true → slot_after op mine ≡ mine
reset_slot mine (disk.WriteReset rank) e = refl
reset_slot mine disk.ReadHeader e = refl
reset_slot mine (disk.ReadSlot rank) e = refl
reset_slot mine disk.CheckMail e = refl
reset_slot mine disk.WriteClear e = refl
reset_slot mine disk.ReadMail e = refl
reset_slot mine (disk.WriteClaim number) e = absurd (false≢true e)
reset_slot mine (disk.WriteClose number) e = absurd (false≢true e)

resets_ok : (mine : Slot) (left : List DiskOp) → AllResets left → LeftOk mine left
resets_ok mine [] all = tt
resets_ok mine (op ∷ []) all = reset_keeps mine op all.0
resets_ok mine (op ∷ next ∷ ops) all = (all.0, resets_ok mine (next ∷ ops) all.1)

left_push : (mine : Slot) (left : List DiskOp) (op : DiskOp) → AllResets left → KeepsNumber mine op → LeftOk mine (left ++ op ∷ [])
left_push mine [] op all keeps = keeps
left_push mine (first ∷ []) op all keeps = (all.0, keeps)
left_push mine (first ∷ next ∷ ops) op all keeps = (all.0, left_push mine (next ∷ ops) op all.1 keeps)

resets_push : (left : List DiskOp) (op : DiskOp) → AllResets left → is_reset op ≡ true → AllResets (left ++ op ∷ [])
resets_push [] op all is = (is, tt)
resets_push (first ∷ ops) op all is = (all.0, resets_push ops op all.1 is)

left_cons : (mine : Slot) (op : DiskOp) (rest : List DiskOp) → is_reset op ≡ true → LeftOk mine rest → LeftOk mine (op ∷ rest)
left_cons mine op [] is rest = reset_keeps mine op is
left_cons mine op (next ∷ ops) is rest = (is, rest)

pub slot_keeps : (mine : Slot) (op : DiskOp) → KeepsNumber mine op → mine.incarnation ≤ (slot_after op mine).incarnation
slot_keeps mine (disk.WriteClaim number) keeps = keeps
slot_keeps mine (disk.WriteClose number) keeps = keeps
slot_keeps mine disk.ReadHeader keeps = omega arith
slot_keeps mine (disk.ReadSlot rank) keeps = omega arith
slot_keeps mine disk.CheckMail keeps = omega arith
slot_keeps mine disk.WriteClear keeps = omega arith
slot_keeps mine disk.ReadMail keeps = omega arith
slot_keeps mine (disk.WriteReset rank) keeps = omega arith

-- a leftover lands late
pub left_late : (mine : Slot) (left : List DiskOp) (number : ℕ) (op : DiskOp) → LeftOk mine left → numbered left number ≡ Some op
    → (mine.incarnation ≤ (slot_after op mine).incarnation) × LeftOk (slot_after op mine) (without left number)
left_late mine left zero op ok there = none_is_not_some op there
left_late mine [] (suc place) op ok there = none_is_not_some op there
left_late mine (first ∷ []) (suc zero) op ok there = (slot_keeps mine op (subst (λ o. KeepsNumber mine o) (same_Some _ _ there) ok), tt)
left_late mine (first ∷ []) (suc (suc place)) op ok there = none_is_not_some op there
left_late mine (first ∷ next ∷ ops) (suc zero) op ok there =
    let is : is_reset op ≡ true = ap is_reset (sym (same_Some _ _ there)) ∙ ok.0 in
    let same = reset_slot mine op is in
    (slot_keeps mine op (reset_keeps mine op is), subst (λ m. LeftOk m (next ∷ ops)) (sym same) ok.1)
left_late mine (first ∷ next ∷ ops) (suc (suc place)) op ok there =
    let rest = left_late mine (next ∷ ops) (suc place) op ok.1 there in
    (rest.0, left_cons (slot_after op mine) first (without (next ∷ ops) (suc place)) ok.0 rest.1)

pub resets_late : (left : List DiskOp) (number : ℕ) (op : DiskOp) → AllResets left → numbered left number ≡ Some op → (is_reset op ≡ true) × AllResets (without left number)
resets_late left zero op all there = none_is_not_some op there
resets_late [] (suc place) op all there = none_is_not_some op there
resets_late (first ∷ ops) (suc zero) op all there = (ap is_reset (sym (same_Some _ _ there)) ∙ all.0, all.1)
resets_late (first ∷ ops) (suc (suc place)) op all there = let rest = resets_late ops (suc place) op all.1 there in (rest.0, (all.0, rest.1))

-- an operation that is given up keeps the number
pub keeps_out : {s : Settings} {me : ℕ} {log : List Line} → Made s me log → (mine : Slot) → Kept s log None mine → (op : DiskOp) → op_out log ≡ Some op → KeepsNumber mine op
keeps_out made mine was (disk.WriteClaim number) out = let waits = was.claim_waits number out refl in omega arith
keeps_out {s = s} made mine was (disk.WriteClose number) out =
    let same = same_Some _ _ (sym (was.numbered (booted_op made (disk.WriteClose number) out refl)) ∙ out_closes made number out) in omega arith
keeps_out made mine was disk.ReadHeader out = tt
keeps_out made mine was (disk.ReadSlot rank) out = tt
keeps_out made mine was disk.CheckMail out = tt
keeps_out made mine was disk.WriteClear out = tt
keeps_out made mine was disk.ReadMail out = tt
keeps_out made mine was (disk.WriteReset rank) out = tt

left_given : {s : Settings} {me : ℕ} {log : List Line} → Made s me log → (mine : Slot) (took : Option What) → Kept s log took mine → (left : List DiskOp) → AllResets left
    → (out : Option DiskOp) → op_out log ≡ out → LeftOk mine (left ++ given_up out took)
left_given made mine took was left all None e = subst (λ l. LeftOk mine l) (sym (append-nil left)) (resets_ok mine left all)
left_given made mine (Some v) was left all (Some op) e = subst (λ l. LeftOk mine l) (sym (append-nil left)) (resets_ok mine left all)
left_given made mine None was left all (Some op) e = by_write (is_write op)
  where
    by_write : (b : Bool) → LeftOk mine (left ++ (if b then op ∷ [] else []))
    by_write true = left_push mine left op all (keeps_out made mine was op e)
    by_write false = subst (λ l. LeftOk mine l) (sym (append-nil left)) (resets_ok mine left all)

-- a node that runs on after a failure leaves over a reset at most
failed_reset : (s : Settings) (op : DiskOp) (timely : Bool) (p : Phase) → is_write op ≡ true → is_gone (next_phase s (failed op) timely p) ≡ false → is_reset op ≡ true
unfolding failed
failed_reset s (disk.WriteReset rank) timely p writes living = refl
failed_reset s (disk.WriteClaim number) timely p writes living = absurd (true≢false living)
failed_reset s disk.WriteClear timely p writes living = absurd (true≢false living)
failed_reset s (disk.WriteClose number) timely p writes living = absurd (true≢false living)
failed_reset s disk.ReadHeader timely p writes living = absurd (false≢true writes)
failed_reset s (disk.ReadSlot rank) timely p writes living = absurd (false≢true writes)
failed_reset s disk.CheckMail timely p writes living = absurd (false≢true writes)
failed_reset s disk.ReadMail timely p writes living = absurd (false≢true writes)

resets_given : (left : List DiskOp) (op : DiskOp) (took : Option What) → AllResets left → (is_write op ≡ true → is_reset op ≡ true) → AllResets (left ++ given_up (Some op) took)
resets_given left op (Some v) all reset = subst (λ l. AllResets l) (sym (append-nil left)) all
resets_given left op None all reset = by_write (is_write op) refl
  where
    by_write : (b : Bool) → is_write op ≡ b → AllResets (left ++ (if b then op ∷ [] else []))
    by_write true e = resets_push left op all (reset e)
    by_write false e = subst (λ l. AllResets l) (sym (append-nil left)) all

phase_of_line : (s : Settings) (j tick : ℕ) (entry : What) (log : List Line)
    → phase s (line_of s j tick entry log ∷ log) ≡ next_phase s (line_of s j tick entry log).what (in_time tick log) (phase s log)
unfolding phase line_of
phase_of_line s j tick entry log = refl

-- what is always true of a seat
pub record Held (s : Settings) (x : Seat) : Type 0 where
  pub answers : x.on ≡ true → (v : What) → x.took ≡ Some v → answers_op (op_out x.log) v ≡ true
  pub kept : x.on ≡ true → Kept s x.log x.took x.slot
  pub resets : x.on ≡ true → AllResets x.left
  pub left_ok : LeftOk x.slot x.left

module _ (s : Settings) (t : Timing) (j : ℕ) (x : Seat) (made : Made s j x.log) (was : Held s x) where
  line_from : (tick : ℕ) (entry : What) → Made s j (line_of s j tick entry x.log ∷ x.log) → IsLine s j (line_of s j tick entry x.log) x.log
  line_from tick entry made' = made_line made'

  living_of : (tick : ℕ) (entry : What) → not (is_gone (phase s (line_of s j tick entry x.log ∷ x.log))) ≡ true → is_gone (phase s (line_of s j tick entry x.log ∷ x.log)) ≡ false
  living_of tick entry e = not-true (is_gone (phase s (line_of s j tick entry x.log ∷ x.log))) e

  held_enters : (tick : ℕ) (entry : What) → Made s j (line_of s j tick entry x.log ∷ x.log) → x.on ≡ true → is_answer entry ≡ false → Held s (entered s j tick entry x)
  held_enters tick entry made' on plain =
      let it = made_line made' in
      let no_answer : is_answer (line_of s j tick entry x.log).what ≡ false = ap is_answer (line_what s j tick entry x.log) ∙ read_answers_none s j x.log entry plain in
      record {
        answers = λ on' v e.
            let waits = was.answers on v e in
            let out = some_op (op_out x.log) v waits in
            subst (λ o. answers_op o v ≡ true) (out.1 ∙ sym (op_kept it out.0 out.1 no_answer)) waits;
        kept = λ on'. kept_enter it made x.took x.slot (was.kept on) no_answer (was.answers on);
        resets = λ on'. was.resets on;
        left_ok = was.left_ok;
      }

  answer_what : (tick : ℕ) (entry : What) → answers_op (op_out x.log) entry ≡ true → (is_answer (line_of s j tick entry x.log).what ≡ true) × ((line_of s j tick entry x.log).what ≡ entry)
  answer_what tick entry answers =
      let fit = answer_fits s j x.log entry answers in
      let same = line_what s j tick entry x.log ∙ fit.1 in
      (ap is_answer same ∙ fit.0, same)

  held_answers : (tick : ℕ) (entry : What) → Made s j (line_of s j tick entry x.log ∷ x.log) → x.on ≡ true → x.took ≡ Some entry → Held s (record (entered s j tick entry x) { took = None })
  held_answers tick entry made' on took =
      let fit = answer_what tick entry (was.answers on entry took) in
      let kept = was.kept on in
      record {
        answers = λ on' v e. none_is_not_some v e;
        kept = λ on'. kept_reply (made_line made') made x.took x.slot kept fit.0 (living_of tick entry on')
            (λ rank own booting reads. kept.reading rank own booting (took ∙ ap Some (sym fit.1 ∙ reads)))
            (λ number out claims. kept.claim_landed number entry out took);
        resets = λ on'. was.resets on;
        left_ok = was.left_ok;
      }

  held_fails : (tick : ℕ) (op : DiskOp) → Made s j (line_of s j tick (failed op) x.log ∷ x.log) → x.on ≡ true → op_out x.log ≡ Some op
      → Held s (record (entered s j tick (failed op) x) { took = None; left = x.left ++ given_up (Some op) x.took })
  held_fails tick op made' on out =
      let fit = answer_what tick (failed op) (subst (λ o. answers_op o (failed op) ≡ true) (sym out) (failed_answers op)) in
      let kept = was.kept on in
      record {
        answers = λ on' v e. none_is_not_some v e;
        kept = λ on'. kept_reply (made_line made') made x.took x.slot kept fit.0 (living_of tick (failed op) on')
            (λ rank own booting reads. absurd (failed_read op rank own (sym fit.1 ∙ reads)))
            (λ number o claims. absurd (failed_claim op (sym fit.1 ∙ claims)));
        resets = λ on'. resets_given x.left op x.took (was.resets on) (λ writes. failed_reset s op (in_time tick x.log) (phase s x.log) writes (living_next fit.1 on'));
        left_ok = left_given made x.slot x.took kept x.left (was.resets on) (Some op) out;
      }
    where
      failed_read : (op : DiskOp) (rank : Rank) (own : Slot) → failed op ≡ what.SlotRead rank (slot.Read own) → ⊥
      failed_read disk.ReadHeader rank own e = absurd (unfold failed in cc)
      failed_read (disk.ReadSlot other) rank own e = absurd (unfold failed in cc)
      failed_read disk.CheckMail rank own e = absurd (unfold failed in cc)
      failed_read (disk.WriteClaim number) rank own e = absurd (unfold failed in cc)
      failed_read disk.WriteClear rank own e = absurd (unfold failed in cc)
      failed_read disk.ReadMail rank own e = absurd (unfold failed in cc)
      failed_read (disk.WriteReset other) rank own e = absurd (unfold failed in cc)
      failed_read (disk.WriteClose number) rank own e = absurd (unfold failed in cc)

      failed_claim : (op : DiskOp) → failed op ≡ what.Claimed true → ⊥
      failed_claim disk.ReadHeader e = absurd (unfold failed in cc)
      failed_claim (disk.ReadSlot other) e = absurd (unfold failed in cc)
      failed_claim disk.CheckMail e = absurd (unfold failed in cc)
      failed_claim (disk.WriteClaim number) e = absurd (unfold failed in cc)
      failed_claim disk.WriteClear e = absurd (unfold failed in cc)
      failed_claim disk.ReadMail e = absurd (unfold failed in cc)
      failed_claim (disk.WriteReset other) e = absurd (unfold failed in cc)
      failed_claim (disk.WriteClose number) e = absurd (unfold failed in cc)

      living_next : (line_of s j tick (failed op) x.log).what ≡ failed op → not (is_gone (phase s (line_of s j tick (failed op) x.log ∷ x.log))) ≡ true
          → is_gone (next_phase s (failed op) (in_time tick x.log) (phase s x.log)) ≡ false
      living_next same on' =
          subst (λ w. is_gone (next_phase s w (in_time tick x.log) (phase s x.log)) ≡ false) same (phase_line (living_of tick (failed op) on'))
        where
          phase_line : is_gone (phase s (line_of s j tick (failed op) x.log ∷ x.log)) ≡ false
              → is_gone (next_phase s (line_of s j tick (failed op) x.log).what (in_time tick x.log) (phase s x.log)) ≡ false
          phase_line e = ap is_gone (sym (phase_of_line s j tick (failed op) x.log)) ∙ e

  held_ends : x.on ≡ true → Held s (record x { on = false; took = None; left = x.left ++ given_up (op_out x.log) x.took })
  held_ends on = record {
    answers = λ on' v e. none_is_not_some v e;
    kept = λ on'. absurd (false≢true on');
    resets = λ on'. absurd (false≢true on');
    left_ok = left_given made x.slot x.took (was.kept on) x.left (was.resets on) (op_out x.log) refl;
  }

  held_lands : (op : DiskOp) (w : World) → x.on ≡ true → op_out x.log ≡ Some op → x.took ≡ None → w.slots j ≡ x.slot
      → Held s (record x { took = Some (taken s t j op w); slot = slot_after op x.slot })
  held_lands op w on out none own = record {
    answers = λ on' v e. subst (λ o. answers_op o v ≡ true) (sym out) (subst (λ u. answers_op (Some op) u ≡ true) (same_Some _ _ e) (taken_answers s t j op w));
    kept = λ on'. kept_land made x.slot (subst (λ k. Kept s x.log k x.slot) none (was.kept on)) t op w out own;
    resets = λ on'. was.resets on;
    left_ok = resets_ok (slot_after op x.slot) x.left (was.resets on);
  }

  held_late : (number : ℕ) (op : DiskOp) → numbered x.left number ≡ Some op → Held s (record x { left = without x.left number; slot = slot_after op x.slot })
  held_late number op there = record {
    answers = was.answers;
    kept = λ on. subst (λ m. Kept s x.log x.took m) (sym (reset_slot x.slot op (resets_late x.left number op (was.resets on) there).0)) (was.kept on);
    resets = λ on. (resets_late x.left number op (was.resets on) there).1;
    left_ok = (left_late x.slot x.left number op was.left_ok there).1;
  }

fresh_held : (s : Settings) (x : Seat) → Held s (fresh x)
fresh_held s x = record {
  answers = λ on v e. none_is_not_some v e;
  kept = λ on. first_kept s x.slot;
  resets = λ on. tt;
  left_ok = tt;
}

-- each event keeps what is true of a seat
pub held_effect : (s : Settings) (t : Timing) (j : ℕ) (w w' : World) → Effect s t j w w' → Made s j (node s j w.moments).log → Made s j (node s j w'.moments).log
    → Held s (seat_of s j w) → Held s (seat_of s j w')
held_effect s t j w w' (Rests e) made made' was = subst (λ x. Held s x) (sym e) was
held_effect s t j w w' (Enters tick entry on plain e) made made' was =
    subst (λ x. Held s x) (sym e) (held_enters s t j (seat_of s j w) made was tick entry (subst (λ l. Made s j l) (ap (λ x. x.log) e) made') on plain)
held_effect s t j w w' (Answers tick entry on took e) made made' was =
    subst (λ x. Held s x) (sym e) (held_answers s t j (seat_of s j w) made was tick entry (subst (λ l. Made s j l) (ap (λ x. x.log) e) made') on took)
held_effect s t j w w' (Fails tick op on out e) made made' was =
    subst (λ x. Held s x) (sym e) (held_fails s t j (seat_of s j w) made was tick op (subst (λ l. Made s j l) (ap (λ x. x.log) e) made') on out)
held_effect s t j w w' (BootsUp tick clean off e) made made' was =
    subst (λ x. Held s x) (sym e)
    (held_enters s t j (fresh (seat_of s j w)) NoLine (fresh_held s (seat_of s j w)) tick (begin_of clean) (subst (λ l. Made s j l) (ap (λ x. x.log) e) made') refl (begin_answers_none clean))
held_effect s t j w w' (GoesOff on e) made made' was = subst (λ x. Held s x) (sym e) (held_ends s t j (seat_of s j w) made was on)
held_effect s t j w w' (Lands op on out none all e) made made' was = subst (λ x. Held s x) (sym e) (held_lands s t j (seat_of s j w) made was op w on out none refl)
held_effect s t j w w' (LandsLate number op there e) made made' was = subst (λ x. Held s x) (sym e) (held_late s t j (seat_of s j w) made was number op there)

pub first_held : (s : Settings) (j : ℕ) → Held s (seat_of s j first_world)
unfolding node
first_held s j = record {
  answers = λ on v e. none_is_not_some v e;
  kept = λ on. absurd (false≢true on);
  resets = λ on. absurd (false≢true on);
  left_ok = tt;
}
