-- What holds of each configured node of the world of three images.
use Rattle.std.proofs.Common.{◌≡◌, ℕ, Bool, true, false, List, ◌∷◌, Option, None, Some, refl, sym, ap, ◌∙◌, subst, ◌&&◌, ◌||◌, ◌==◌, ◌⊎◌, inl, inr}
use Rattle.std.specs.Prelude.{◌<◌, length}
use Rattle.std.proofs.lemmas.Bool.{eqb-true, false≢true, true≢false}
use Rattle.std.proofs.lemmas.Option.{same_Some}
use Rattle.qn_base.specs.declared.ids.Rank.{Rank}
use Rattle.qn_base.specs.lemmas.Bools.{never_both}
use Rattle.qn_base.specs.lemmas.Options.{value_tested}
use Rattle.qn_model.specs.declared.configuration.Settings.{Settings}
use Rattle.qn_model.specs.declared.times.Timing.{Timing}
use Rattle.qn_model.specs.declared.entries.What.{What}
use Rattle.qn_model.specs.declared.entries.What.TheVariants as what
use Rattle.qn_model.specs.declared.outputs.DiskOp.{DiskOp}
use Rattle.qn_model.specs.declared.outputs.DiskOp.TheVariants as disk
use Rattle.qn_model.specs.Log.{Line, op_out}
use Rattle.qn_model.specs.Moments.{node, time}
use Rattle.qn_model.specs.Fitting.{answers_op}
use Rattle.qn_model.specs.NodeVotes.{is_in_view}
use Rattle.qn_model.specs.Unmet.{chosen, is_chosen}
use Rattle.qn_model.specs.Phases.{is_booting, phase}
use Rattle.qn_model.specs.World.{failed}
use Rattle.qn_safety.specs.declared.triple_event.TripleEvent.{TripleEvent}
use Rattle.qn_safety.specs.declared.part.Part.{Part}
use Rattle.qn_safety.specs.Answers.{answer_answers}
use Rattle.qn_safety.specs.TripleNumbers.{AllMayTriple, IsTripleNode, TripleNodesHold, is_two}
use Rattle.qn_safety.specs.TripleSteps.{run_triple}
use Rattle.qn_safety.specs.TripleWorld.{TripleWorld, answer_of, good_after, op_of, together}
use Rattle.qn_safety.proofs.Kept.{booting_back, booting_op}
use Rattle.qn_safety.proofs.Apt.{boot_step_of}
use Rattle.qn_safety.proofs.Logs.{Made, ask_line, before_outs, disk_reason, line_at, made_line}
use Rattle.qn_safety.proofs.Rests.{no_reset}
use Rattle.qn_safety.proofs.Says.{Reason}
use Rattle.qn_model.specs.lemmas.ChosenRanks.{chosen_inside}
use Rattle.qn_safety.proofs.NodeLogs.{node_log}
use Rattle.qn_safety.proofs.Origins.{line_of, line_what}
use Rattle.qn_safety.proofs.Outs.{answer_fits}
use Rattle.qn_safety.proofs.Runs.{IsSound, sound}
use Rattle.qn_safety.proofs.TripleAnswers.{AnswerIs, FewCount, TwoCount, answer_is}
use Rattle.qn_safety.proofs.TripleEvents.{IsAllowed, NoEvent, OneEvent, effect_at, may_of, stage}
use Rattle.qn_safety.proofs.TripleHeld.{cleared_phase}
use Rattle.qn_safety.proofs.TripleKept.{Kept}
use Rattle.qn_safety.proofs.TripleSeats.{Answers, BootsUp, Effect, Enters, FailsOn, GoesOff, LandsOn, LateOn, Rests, TripleSeat, answered, entered, seat_of}
use Rattle.qn_safety.proofs.TripleSets.{TwoOf, OneTwo, OneThree, TwoThree}

-- while a node boots all its images are good
abbrev AtBoot : Settings → TripleSeat → Type 0
AtBoot s x = x.on ≡ true → is_booting (phase s x.log) ≡ true → (k : ℕ) → x.good k ≡ true

-- the clear is answered by no other entry
clear_told : (parts : ℕ → Part) (good : ℕ → Bool) → (ok : Bool) × (answer_of disk.WriteClear parts good ≡ what.Cleared ok)
unfolding failed
clear_told parts good = by_answer (answer_is disk.WriteClear parts good)
  where
    by_answer : AnswerIs disk.WriteClear parts good (answer_of disk.WriteClear parts good) → (ok : Bool) × (answer_of disk.WriteClear parts good ≡ what.Cleared ok)
    by_answer (FewCount e) = (false, e)
    by_answer (TwoCount first there two e) = (true, e)

good_stays : (op : DiskOp) (parts : ℕ → Part) (good : ℕ → Bool) → (op ≡ disk.WriteClear → ⊥) → (k : ℕ) → good k ≡ true → good_after op parts good k ≡ true
good_stays disk.WriteClear parts good never k e = absurd (never refl)
good_stays disk.ReadHeader parts good never k e = e
good_stays (disk.ReadSlot rank) parts good never k e = e
good_stays disk.CheckMail parts good never k e = e
good_stays (disk.WriteClaim number) parts good never k e = e
good_stays disk.ReadMail parts good never k e = e
good_stays (disk.WriteReset rank) parts good never k e = e
good_stays (disk.WriteClose number) parts good never k e = e

module _ (s : Settings) (j : ℕ) (x : TripleSeat) (was : AtBoot s x) where
  boot_enters : (tick : ℕ) (entry : What) → x.on ≡ true → Made s j (line_of s j tick entry x.log ∷ x.log) → AtBoot s (entered s j tick entry x)
  boot_enters tick entry on made on' booting = was on (booting_back (made_line made) booting)

  boot_answers : (tick : ℕ) (op : DiskOp) → x.on ≡ true → op_out x.log ≡ Some op → Made s j (line_of s j tick (answer_of op x.parts x.good) x.log ∷ x.log) → AtBoot s (answered s j tick op x)
  boot_answers tick op on out made on' booting k = good_stays op x.parts x.good no_clear k (was on (booting_back (made_line made) booting) k)
    where
      entry : What
      entry = answer_of op x.parts x.good

      fits : answers_op (op_out x.log) entry ≡ true
      fits = subst (λ o. answers_op o entry ≡ true) (sym out) (answer_answers op x.parts x.good)

      no_clear : op ≡ disk.WriteClear → ⊥
      no_clear same =
          let told = clear_told x.parts x.good in
          never_both (is_booting (phase s (line_of s j tick entry x.log ∷ x.log))) booting
          (cleared_phase s (line_of s j tick entry x.log) x.log told.0 (line_what s j tick entry x.log ∙ (answer_fits s j x.log entry fits).1 ∙ ap (λ o. answer_of o x.parts x.good) same ∙ told.1))

boot_effect : {s : Settings} {t : Timing} {j : ℕ} {w w' : TripleWorld} → Effect s t j w w' → Made s j (node s j w'.moments).log → AtBoot s (seat_of s j w) → AtBoot s (seat_of s j w')
boot_effect {s = s} (Rests e) made was = subst (λ x. AtBoot s x) (sym e) was
boot_effect {s = s} {j = j} {w = w} (Enters tick entry on plain e) made was =
    subst (λ x. AtBoot s x) (sym e) (boot_enters s j (seat_of s j w) was tick entry on (subst (λ l. Made s j l) (ap (λ x. x.log) e) made))
boot_effect {s = s} {j = j} {w = w} (Answers tick op on out e) made was =
    subst (λ x. AtBoot s x) (sym e) (boot_answers s j (seat_of s j w) was tick op on out (subst (λ l. Made s j l) (ap (λ x. x.log) e) made))
boot_effect {s = s} (BootsUp tick clean off e) made was = subst (λ x. AtBoot s x) (sym e) (λ on booting k. refl)
boot_effect {s = s} (GoesOff on e) made was = subst (λ x. AtBoot s x) (sym e) (λ on booting k. absurd (false≢true on))
boot_effect {s = s} (LandsOn n op on out pending all e) made was = subst (λ x. AtBoot s x) (sym e) was
boot_effect {s = s} (FailsOn n op on out e) made was = subst (λ x. AtBoot s x) (sym e) was
boot_effect {s = s} (LateOn n number op there e) made was = subst (λ x. AtBoot s x) (sym e) was

at_boot : {s : Settings} {t : Timing} {events : List TripleEvent} (j : ℕ) → IsAllowed s t events → AtBoot s (seat_of s j (run_triple s t events))
unfolding run_triple node
at_boot j NoEvent = λ on booting k. refl
at_boot {s = s} {t = t} j (OneEvent {e = e} {earlier = earlier} form ok allowed) =
    boot_effect (effect_at j (OneEvent form ok allowed)) ((sound (stage (OneEvent form ok allowed)).ruled j).made) (at_boot j allowed)

two_good : (good : ℕ → Bool) → TwoOf (λ k. good k ≡ true) → is_two good ≡ true
two_good good (OneTwo a b) = by_tests (good 1) (good 2) (good 3) a b
  where
    by_tests : (x y z : Bool) → x ≡ true → y ≡ true → (x && y || x && z || y && z) ≡ true
    by_tests true true z a b = refl
    by_tests false y z a b = absurd (false≢true a)
    by_tests true false z a b = absurd (false≢true b)
two_good good (OneThree a b) = by_tests (good 1) (good 2) (good 3) a b
  where
    by_tests : (x y z : Bool) → x ≡ true → z ≡ true → (x && y || x && z || y && z) ≡ true
    by_tests true true true a b = refl
    by_tests true false true a b = refl
    by_tests false y z a b = absurd (false≢true a)
    by_tests true y false a b = absurd (false≢true b)
two_good good (TwoThree a b) = by_tests (good 1) (good 2) (good 3) a b
  where
    by_tests : (x y z : Bool) → y ≡ true → z ≡ true → (x && y || x && z || y && z) ≡ true
    by_tests true true true a b = refl
    by_tests false true true a b = refl
    by_tests x false z a b = absurd (false≢true a)
    by_tests x true false a b = absurd (false≢true b)

-- a node resets another one alone: it is the chosen one of its view, and whom it resets is outside
resets_other : (s : Settings) (me : ℕ) (log : List Line) (rank : ℕ) → is_in_view log rank ≡ false → is_chosen s me log ≡ true → (rank == me) ≡ false
resets_other s me log rank outside chosen_is = by_same (rank == me) refl
  where
    by_same : (b : Bool) → (rank == me) ≡ b → (rank == me) ≡ false
    by_same false e = e
    by_same true e =
        let first = value_tested (λ r. r == me) (chosen s log) chosen_is in
        let inside : is_in_view log first.0 ≡ true = chosen_inside s log first.0 first.1 in
        never_both (is_in_view log rank) (subst (λ r. is_in_view log r ≡ true) (eqb-true first.0 me first.2 ∙ sym (eqb-true rank me e)) inside) outside

reset_other : {s : Settings} {me : ℕ} {log : List Line} → Made s me log → (other : Rank) → op_out log ≡ Some (disk.WriteReset other) → (other.0 == me) ≡ false
reset_other {s = s} {me = me} {log = log} made other e =
    let asked = ask_line (disk.WriteReset other) log e in
    by_reason asked.line asked.past (disk_reason (line_at asked.back made) (disk.WriteReset other) asked.gave)
  where
    by_reason : (line : Line) (past : List Line) → Reason s me past line.what (before_outs line past) (disk.WriteReset other) → (other.0 == me) ≡ false
    by_reason line past (inl boots) = absurd (no_reset s me line.what (disk.WriteReset other) _ other (boot_step_of s me _ line.what (disk.WriteReset other) false boots.goes_on boots.next) refl)
    by_reason line past (inr lives) = resets_other s me (before_outs line past) other.0 lives.state.1 lives.state.3

pub triple_nodes_hold : (s : Settings) (t : Timing) → TripleNodesHold s t
triple_nodes_hold s t events rank may below =
    record { log = node_log _ at.made below at.going; good = good_by (is_booting (phase s (node s rank w.moments).log)) refl; checks = checks; others = reset_other at.made }
  where
    w : TripleWorld
    w = run_triple s t events

    allowed : IsAllowed s t events
    allowed = may_of s t events may

    at : IsSound s t rank (time w.moments) (node s rank w.moments)
    at = sound (stage allowed).ruled rank

    good_by : (b : Bool) → is_booting (phase s (node s rank w.moments).log) ≡ b → (node s rank w.moments).on ≡ true → is_two (w.good rank) ≡ true
    good_by true booting on = let all = at_boot rank allowed on booting in two_good (w.good rank) (OneTwo (all 1) (all 2))
    good_by false booted on = two_good (w.good rank) ((((stage allowed).height rank).held.kept on).standing booted).good

    checks : (node s rank w.moments).on ≡ true → op_of s rank w ≡ Some disk.CheckMail → (image : ℕ) → w.good rank image ≡ true
    checks on out = at_boot rank allowed on (booting_op at.made disk.CheckMail out refl refl)
