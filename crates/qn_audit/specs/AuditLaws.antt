-- Laws of the ends of audits: an input has one end, which fits the way in which the input ended. This project's profile.
use Rattle.std.proofs.Common.{◌≡◌, ℕ, Bool, true, false, cond, List, [], ◌∷◌, Option, None, Some, Result, Ok, Err, length, nat_lt, refl, sym, ap, ◌∙◌, subst}
use Rattle.qn_base.specs.declared.calls.Call.{Call}
use Rattle.qn_base.specs.Plans.{question}
use Rattle.qn_playback.specs.declared.head_fault.HeadFault.{HeadFault}
use Rattle.qn_playback.specs.declared.head_fault.HeadFault.TheVariants as head
use Rattle.qn_playback.specs.declared.settings_head.SettingsHead.{SettingsHead}
use Rattle.qn_playback.specs.Faults.{end_of}
use Rattle.qn_playback.specs.HeadLaws.{settings_no_memory, settings_read}
use Rattle.qn_playback.specs.Heads.{settings_part}
use Rattle.qn_playback.specs.Parts.{Given}
use Rattle.qn_model.specs.declared.line_fault.LineFault.{LineFault}
use Rattle.qn_model.specs.declared.line_fault.LineFault.TheVariants.{TooLong}
use Rattle.qn_model.specs.Lines.{Ending, Ended, ReadFailed}
use Rattle.qn_sched.specs.declared.replay_end.ReplayEnd.{ReplayEnd}
use Rattle.qn_sched.specs.declared.replay_end.ReplayEnd.TheVariants as replay
use Rattle.qn_audit.specs.declared.audit_end.AuditEnd.{AuditEnd}
use Rattle.qn_audit.specs.declared.audit_end.AuditEnd.TheVariants as ended
use Rattle.qn_audit.specs.Auditing.{AtFault, JudgesLine, LinesEnd, Next, NotNext, Standing, after_call, at_first, bad_line, call_at, end_of_log, last_line, next_line, over_or_not}
use Rattle.qn_audit.specs.Deciding.{Input}
use Rattle.qn_audit.specs.Inputs.{AuditEnds, AuditedRun, HeadEnds, NodeEnds, end_in_head, plan_of, rank_in}
use Rattle.qn_audit.specs.Judging.{IsNext}

-- whole and prefix are ends of inputs that were read to their end, ReadFault is one of an input of which a read failed, and no
-- input tells of memory
abbrev pub FitsEnding : AuditEnd → Ending → Type 0
FitsEnding (ended.Whole turns) Ended = Unit {0}
FitsEnding (ended.Whole turns) ReadFailed = ⊥
FitsEnding (ended.Prefix turns) Ended = Unit {0}
FitsEnding (ended.Prefix turns) ReadFailed = ⊥
FitsEnding ended.ReadFault Ended = ⊥
FitsEnding ended.ReadFault ReadFailed = Unit {0}
FitsEnding ended.NoMemory ending = ⊥
FitsEnding (ended.NotARun line) ending = Unit {0}
FitsEnding ended.UnknownNode ending = Unit {0}
FitsEnding (ended.BadConf fault) ending = Unit {0}
FitsEnding (ended.BadSettings fault) ending = Unit {0}
FitsEnding (ended.BadSchedule line fault) ending = Unit {0}

-- ---- the end fits

over_fits : (asked : Option Call) (turns : ℕ) → FitsEnding (over_or_not asked turns) Ended
over_fits None turns = tt
over_fits (Some wanted) turns = tt

log_fits : (at : Standing) (ending : Ending) (rest : List ℕ) → FitsEnding (end_of_log at ending rest) ending
log_fits at Ended [] = over_fits (question at.plan) at.turns
log_fits at Ended (byte ∷ rest) = tt
log_fits at ReadFailed rest = tt

either_fits : (ending : Ending) (test : Bool) (first second : AuditEnd) → FitsEnding first ending → FitsEnding second ending → FitsEnding (cond test first second) ending
either_fits ending true first second fits others = fits
either_fits ending false first second fits others = others

last_fits : (at : Standing) (ending : Ending) (rest : List ℕ) → FitsEnding (last_line at ending rest) ending
unfolding last_line
last_fits at ending rest = either_fits ending (nat_lt 4096 (length rest)) (bad_line at TooLong) (end_of_log at ending rest) tt (log_fits at ending rest)

same_fits : (ending : Ending) (end own : AuditEnd) → end ≡ own → FitsEnding own ending → FitsEnding end ending
same_fits ending end own is fits = subst (λ (e : AuditEnd). FitsEnding e ending) (sym is) fits

judged_fits : (end : AuditEnd) (at : Standing) (ending : Ending) (said : Result Call LineFault) (Follow : Call → Type 0)
    → ((call : Call) → Follow call → FitsEnding end ending) → JudgesLine end at said Follow → FitsEnding end ending
judged_fits end at ending said Follow follows (AtFault fault is ends) = same_fits ending end (bad_line at fault) ends tt
judged_fits end at ending said Follow follows (NotNext call says other ends) = same_fits ending end (ended.NotARun (next_line at)) ends tt
judged_fits end at ending said Follow follows (Next call says next follow) = follows call follow

lines_fit : (end : AuditEnd) (at : Standing) (ending : Ending) (lines : List (List ℕ)) → LinesEnd end at ending lines → FitsEnding end ending
lines_fit end at ending [] is = same_fits ending end (last_line at ending []) is (last_fits at ending [])
lines_fit end at ending (rest ∷ []) is = same_fits ending end (last_line at ending rest) is (last_fits at ending rest)
lines_fit end at ending (line ∷ next ∷ lines) judged =
    judged_fits end at ending (call_at at.lines line) (λ call. LinesEnd end (after_call at call) ending (next ∷ lines))
    (λ call follow. lines_fit end (after_call at call) ending (next ∷ lines) follow) judged

node_fits : (end : AuditEnd) (run : AuditedRun) (head : SettingsHead) (rank : Option ℕ) (ending : Ending) (lines : List (List ℕ)) → NodeEnds end run head rank ending lines → FitsEnding end ending
node_fits end run head None ending lines is = same_fits ending end ended.UnknownNode is tt
node_fits end run head (Some rank) ending lines ends = lines_fit end (at_first (plan_of run head.settings rank) head.lines) ending lines ends

in_head_fits : (fault : HeadFault) (ending : Ending) (bytes : List ℕ) → settings_part ending bytes ≡ Err (end_of fault) → FitsEnding (end_in_head fault) ending
in_head_fits (head.BadConf why) ending bytes is = tt
in_head_fits (head.BadSettings why) ending bytes is = tt
in_head_fits (head.BadSchedule line why) ending bytes is = tt
in_head_fits head.ReadFault Ended bytes is = settings_read bytes is
in_head_fits head.ReadFault ReadFailed bytes is = tt
in_head_fits head.NoMemory ending bytes is = settings_no_memory ending bytes is

head_fits : (end : AuditEnd) (run : AuditedRun) (ending : Ending) (bytes : List ℕ) (given : Given SettingsHead) → settings_part ending bytes ≡ given → HeadEnds end run ending given → FitsEnding end ending
head_fits end run ending bytes (Ok given) is ends = node_fits end run given.0 (rank_in run given.0.settings) ending given.1 ends
head_fits end run ending bytes (Err early) is ends =
    same_fits ending end (end_in_head ends.0) ends.2 (in_head_fits ends.0 ending bytes (is ∙ ap Err ends.1))

-- the end of an audit fits the way in which its input ended
pub audit_fits : (run : AuditedRun) (input : Input) (end : AuditEnd) → AuditEnds run end input → FitsEnding end input.ending
audit_fits run input end ends = head_fits end run input.ending input.bytes (settings_part input.ending input.bytes) refl ends

-- ---- there is one end

one_judged : (first second : AuditEnd) (at : Standing) (said : Result Call LineFault) (One Other : Call → Type 0)
    → ((call : Call) → One call → Other call → first ≡ second) → JudgesLine first at said One → JudgesLine second at said Other → first ≡ second
one_judged first second at said One Other same (AtFault fault is ends) (AtFault other is_other ends_other) =
    let one : fault ≡ other = cc in ends ∙ ap (bad_line at) one ∙ sym ends_other
one_judged first second at said One Other same (AtFault fault is ends) (NotNext call says not ends_other) = absurd cc
one_judged first second at said One Other same (AtFault fault is ends) (Next call says next follow) = absurd cc
one_judged first second at said One Other same (NotNext call says not ends) (AtFault fault is ends_other) = absurd cc
one_judged first second at said One Other same (NotNext call says not ends) (NotNext other says_other not_other ends_other) = ends ∙ sym ends_other
one_judged first second at said One Other same (NotNext call says not ends) (Next other says_other next follow) =
    let one : other ≡ call = cc in absurd (not (subst (λ (c : Call). IsNext at.plan c) one next))
one_judged first second at said One Other same (Next call says next follow) (AtFault fault is ends_other) = absurd cc
one_judged first second at said One Other same (Next call says next follow) (NotNext other says_other not ends_other) =
    let one : call ≡ other = cc in absurd (not (subst (λ (c : Call). IsNext at.plan c) one next))
one_judged first second at said One Other same (Next call says next follow) (Next other says_other next_other follow_other) =
    let one : other ≡ call = cc in same call follow (subst Other one follow_other)

one_end : (first second : AuditEnd) (at : Standing) (ending : Ending) (lines : List (List ℕ)) → LinesEnd first at ending lines → LinesEnd second at ending lines → first ≡ second
one_end first second at ending [] is other = is ∙ sym other
one_end first second at ending (rest ∷ []) is other = is ∙ sym other
one_end first second at ending (line ∷ next ∷ lines) is other =
    one_judged first second at (call_at at.lines line) (λ call. LinesEnd first (after_call at call) ending (next ∷ lines)) (λ call. LinesEnd second (after_call at call) ending (next ∷ lines))
    (λ call one two. one_end first second (after_call at call) ending (next ∷ lines) one two) is other

one_of_node : (first second : AuditEnd) (run : AuditedRun) (head : SettingsHead) (rank : Option ℕ) (ending : Ending) (lines : List (List ℕ))
    → NodeEnds first run head rank ending lines → NodeEnds second run head rank ending lines → first ≡ second
one_of_node first second run head None ending lines is other = is ∙ sym other
one_of_node first second run head (Some rank) ending lines is other = one_end first second (at_first (plan_of run head.settings rank) head.lines) ending lines is other

-- the end of an audit, by the end of its head
abbrev named_so : ReplayEnd → AuditEnd
named_so (replay.BadConf why) = ended.BadConf why
named_so (replay.BadSettings why) = ended.BadSettings why
named_so (replay.BadSchedule line why) = ended.BadSchedule line why
named_so replay.ReadFault = ended.ReadFault
named_so replay.NoMemory = ended.NoMemory
named_so (replay.Done events) = ended.NoMemory
named_so (replay.NotAllowed line rule) = ended.NoMemory
named_so replay.WriteFault = ended.NoMemory
named_so (replay.UnsafeTiming timing) = ended.NoMemory
named_so (replay.UnsafeLease timeout limit lease) = ended.NoMemory

is_named_so : (fault : HeadFault) → end_in_head fault ≡ named_so (end_of fault)
is_named_so (head.BadConf why) = refl
is_named_so (head.BadSettings why) = refl
is_named_so (head.BadSchedule line why) = refl
is_named_so head.ReadFault = refl
is_named_so head.NoMemory = refl

one_of_head : (first second : AuditEnd) (run : AuditedRun) (ending : Ending) (given : Given SettingsHead) → HeadEnds first run ending given → HeadEnds second run ending given → first ≡ second
one_of_head first second run ending (Ok given) is other = one_of_node first second run given.0 (rank_in run given.0.settings) ending given.1 is other
one_of_head first second run ending (Err early) is other =
    is.2 ∙ is_named_so is.0 ∙ ap named_so (sym is.1 ∙ other.1) ∙ sym (is_named_so other.0) ∙ sym other.2

-- the audit of an input has one end
pub one_audit : (run : AuditedRun) (input : Input) (first second : AuditEnd) → AuditEnds run first input → AuditEnds run second input → first ≡ second
one_audit run input first second is other = one_of_head first second run input.ending (settings_part input.ending input.bytes) is other
