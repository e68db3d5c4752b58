use Rattle.std.proofs.Common.{◌≡◌, ◌==◌, true, false, Err, [], if◌then◌else◌, refl, rules}
use Rattle.std.proofs.lemmas.Result.{err_from_is_err_and}
use Rattle.qn_base.specs.Plans.{Ends, Follows}
use Rattle.qn_base.specs.PlanSteps.{did_map}
use Rattle.qn_image.specs.declared.fault.ImageFault.TheVariants.{NotImage}
use Rattle.qn_image.specs.Plans.{header_plan, or_fault, message_plan, search_plan}
use Rattle.qn_image.specs.Joining.{went_on, faulted}
use Rattle.qn_image.proofs.Outcomes.{message_causes}
use Rattle.qn_image.proofs.messaging.message.Goals as goal

pub returns-clause-did : goal.returns-clause-did
unfolding message_plan
returns-clause-did g c =
    let second : (c.in_ok-version.version == 2) ≡ true = search rules in
    went_on header_plan _ c.in_ok-version.ensures.did (rw second c.send.ensures)

pub returns-clause-disk : goal.returns-clause-disk
returns-clause-disk g c = (message_causes _ _ _ (returns-clause-did g c)).0

pub returns-clause-faults : goal.returns-clause-faults
returns-clause-faults g c = (message_causes _ _ _ (returns-clause-did g c)).1

pub returns-then-version-ne2-clause-did : goal.returns-then-version-ne2-clause-did
unfolding message_plan
returns-then-version-ne2-clause-did g c =
    let first : (c.in_ok-version.version == 2) ≡ false = search rules in
    let after : Follows (if c.in_ok-version.version == 2 then search_plan c.args.id c.args.message 0 c.in_ok-version.nodes else Ends (Err NotImage)) [] (Err NotImage) =
    rw first (refl, refl) in
    did_map (or_fault _) _ c.in_ok-version.ensures.did after

pub returns-in_err-version-clause-did : goal.returns-in_err-version-clause-did
unfolding message_plan
returns-in_err-version-clause-did g c =
    let p = err_from_is_err_and c.from_residual.result c.from_residual.ensures.1 in
    rw (p.1, p.2) (faulted header_plan _ c.in_err-version.ensures.did)
