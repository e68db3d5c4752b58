use Rattle.std.proofs.Common.{◌∷◌, List, subst}
use Rattle.qn_base.specs.declared.calls.Call.{Call}
use Rattle.qn_base.specs.Plans.{Follows}
use Rattle.qn_audit.specs.Logs.{AreRecorded}
use Rattle.qn_audit.proofs.WholeLogs.{front_log, recorded_front, whole_log}
use Rattle.qn_audit.proofs.laws.law_logs_audit.Goals as goal

pub returns : goal.returns
returns c = record {
  whole = λ plan ran before after head did few. whole_log plan head did.calls ran did.recorded did.follows few;
  prefix = λ plan ran before after head did front call more parts few.
      front_log plan head front call more ran (recorded_front front (call ∷ more) (subst AreRecorded parts did.recorded))
      (subst (λ (calls : List Call). Follows plan calls ran) parts did.follows) few;
}
