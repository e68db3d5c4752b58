-- An input whose head was read: its audit ends there, or goes on with the lines after it.
use Rattle.std.proofs.Common.{◌≡◌, ◌≤◌, ◌==◌, ℕ, List, [], ◌++◌, Option, None, Some, Err, length, position, refl, sym, ap, ◌∙◌, subst}
use Rattle.std.specs.Io.KnownBytes.{IsAtEnd, prepend_known}
use Rattle.qn_playback.specs.declared.head_fault.HeadFault.{HeadFault}
use Rattle.qn_playback.specs.declared.head_fault.HeadFault.TheVariants as head
use Rattle.qn_playback.specs.declared.settings_head.SettingsHead.{SettingsHead}
use Rattle.qn_playback.specs.Faults.{end_of}
use Rattle.qn_playback.specs.Heads.{settings_part}
use Rattle.qn_playback.specs.Parts.{Given, Gives, Refuses}
use Rattle.qn_playback.specs.Parts as part
use Rattle.qn_io.specs.declared.buffered.TheConstants.{PIECE}
use Rattle.qn_io.specs.Outside.{HasRisen, prepend_known-append, prepend_known-nil}
use Rattle.qn_model.specs.declared.configuration.Settings.{Settings}
use Rattle.qn_model.specs.Inputs.{Anyway, AtEnd, AtFailure}
use Rattle.qn_model.specs.Lines.{Ending, Ended, ReadFailed, lines_of}
use Rattle.qn_sched.specs.declared.replay_end.ReplayEnd.TheVariants as replay
use Rattle.qn_audit.specs.declared.audit_end.AuditEnd.{AuditEnd}
use Rattle.qn_audit.specs.declared.audit_end.AuditEnd.TheVariants.{NoMemory, UnknownNode}
use Rattle.qn_audit.specs.Auditing.{LogEnds, at_first}
use Rattle.qn_audit.specs.Deciding.{IsNeeded, LastDecides, Leads, StillOpen, Stops, input_of}
use Rattle.qn_audit.specs.Inputs.{AuditEnds, AuditedRun, EndsBy, HeadEnds, InputAt, JudgesInput, NodeEnds, Told, Wanted, end_in_head, plan_of, rank_in}

-- before the first read nothing waits
pub nothing_waits : (pieces : List ℕ) (left : Option (List ℕ)) → pieces ≡ [] → prepend_known pieces left ≡ left
nothing_waits pieces left none = ap (λ p. prepend_known p left) none ∙ prepend_known-nil left

module _ (run : AuditedRun) where
  -- the place that is found by the number of the node's id is its rank
  pub rank_found : (settings : Settings) (number : ℕ) (place : Option ℕ) → number ≡ run.id.0
      → position (λ node. node.id.0 == number) settings.nodes ≡ place → rank_in run settings ≡ place
  rank_found settings number place same is = ap (λ (n : ℕ). position (λ node. node.id.0 == n) settings.nodes) (sym same) ∙ is

  -- the head is at fault
  head_ended : (fault : HeadFault) (ending : Ending) (bytes : List ℕ) → settings_part ending bytes ≡ Err (end_of fault) → AuditEnds run (end_in_head fault) (input_of ending bytes)
  head_ended fault ending bytes is =
      subst (λ (given : Given SettingsHead). HeadEnds (end_in_head fault) run ending given) (sym is) (fault, refl, refl)

  head_needed : {taken : List ℕ} → part.IsNeeded settings_part taken → IsNeeded (AuditEnds run) taken
  head_needed {taken} (part.StillOpen still) = StillOpen (head_ended head.ReadFault ReadFailed taken still)
  head_needed (part.LastDecides front byte parts still) = LastDecides front byte parts (head_ended head.ReadFault ReadFailed front still)

  wanted_in_head : (fault : HeadFault) → end_of fault ≡ replay.NoMemory → end_in_head fault ≡ NoMemory
  wanted_in_head (head.BadConf why) is = absurd cc
  wanted_in_head (head.BadSettings why) is = absurd cc
  wanted_in_head (head.BadSchedule line why) is = absurd cc
  wanted_in_head head.ReadFault is = absurd cc
  wanted_in_head head.NoMemory is = refl

  head_ends : (fault : HeadFault) {taken : List ℕ} {at_end failed : Type 0} → part.IsNeeded settings_part taken
      → part.EndsBy settings_part taken at_end failed (end_of fault) → EndsBy run taken at_end failed (end_in_head fault)
  head_ends fault {taken} needed (part.Told (Anyway always)) = Told (Anyway (λ ending more. head_ended fault ending (taken ++ more) (always ending more)))
  head_ends fault {taken} needed (part.Told (AtEnd ended is)) = Told (AtEnd ended (head_ended fault Ended taken is))
  head_ends fault {taken} needed (part.Told (AtFailure fails is)) = Told (AtFailure fails (head_ended fault ReadFailed taken is))
  head_ends fault needed (part.Wanted memory) = Wanted (wanted_in_head fault memory) needed

  -- the head is at fault, or could not be read whole, or it ran out of memory
  pub judges_head : (old new : InputAt) (waiting : List ℕ) (fault : HeadFault) → length waiting ≤ PIECE
      → Refuses settings_part old.left (prepend_known waiting new.left) ((waiting ≡ []) × IsAtEnd new.left) ((waiting ≡ []) × HasRisen old.faults new.faults) (end_of fault)
      → JudgesInput run old new (end_in_head fault)
  judges_head old new waiting fault within refuses = record {
    taken = refuses.taken;
    waiting = waiting;
    takes = refuses.takes ∙ sym (prepend_known-append refuses.taken waiting new.left);
    needed = head_needed refuses.needed;
    within = within;
    ends = head_ends fault refuses.needed refuses.ends;
  }

  module _ (head : SettingsHead) {a b : Option (List ℕ)} (given : Gives settings_part head a b) where
    -- the lines after the head decide
    after_head : (found : Option ℕ) → rank_in run head.settings ≡ found → (end : AuditEnd) (ending : Ending) (more : List ℕ)
        → NodeEnds end run head found ending (lines_of more) → AuditEnds run end (input_of ending (given.taken ++ more))
    after_head found is end ending more ends =
        subst (λ (g : Given SettingsHead). HeadEnds end run ending g) (sym (given.rest ending more))
        (subst (λ (rank : Option ℕ). NodeEnds end run head rank ending (lines_of more)) (sym is) ends)

    -- no node of the settings has the id
    pub judges_unknown : (old new : InputAt) (waiting : List ℕ) → a ≡ old.left → b ≡ prepend_known waiting new.left → length waiting ≤ PIECE
        → rank_in run head.settings ≡ None → JudgesInput run old new UnknownNode
    judges_unknown old new waiting from to within unnamed = record {
      taken = given.taken;
      waiting = waiting;
      takes = sym from ∙ given.takes ∙ ap (prepend_known given.taken) to ∙ sym (prepend_known-append given.taken waiting new.left);
      needed = head_needed given.needed;
      within = within;
      ends = Told (Anyway (λ ending more. after_head None unnamed UnknownNode ending more refl));
    }

    -- the log behind the head is audited as the run of its node
    pub leads_to_log : (rank : ℕ) → rank_in run head.settings ≡ Some rank → Leads (AuditEnds run) (LogEnds (at_first (plan_of run head.settings rank) head.lines)) a b
    leads_to_log rank named = record {
      taken = given.taken;
      takes = given.takes;
      needed = head_needed given.needed;
      rest = λ end ending more ends. after_head (Some rank) named end ending more ends;
    }

  -- the log ended the audit
  pub judges_log : (old new : InputAt) (waiting : List ℕ) {end : AuditEnd} → length waiting ≤ PIECE
      → Stops (AuditEnds run) old.left (prepend_known waiting new.left) ((waiting ≡ []) × IsAtEnd new.left) ((waiting ≡ []) × HasRisen old.faults new.faults) end
      → JudgesInput run old new end
  judges_log old new waiting within stop = record {
    taken = stop.taken;
    waiting = waiting;
    takes = stop.takes ∙ sym (prepend_known-append stop.taken waiting new.left);
    needed = stop.needed;
    within = within;
    ends = Told stop.tells;
  }
