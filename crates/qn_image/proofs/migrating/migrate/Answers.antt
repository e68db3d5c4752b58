use Rattle.std.proofs.Common.{◌≡◌, ◌==◌, true, false, Ok, [], if◌then◌else◌, refl, rules}
use Rattle.std.proofs.lemmas.Result.{err_from_is_err_and}
use Rattle.qn_base.specs.Plans.{Ends, ◌>>=◌, Follows}
use Rattle.qn_base.specs.PlanSteps.{did_map}
use Rattle.qn_image.specs.Plans.{header_plan, or_fault}
use Rattle.qn_image.specs.Joining.{went_on, faulted, ended}
use Rattle.qn_image.specs.Migration.{convert_plan, migrate_plan}
use Rattle.qn_image.proofs.Outcomes.{migrate_causes}
use Rattle.qn_image.proofs.migrating.migrate.Goals as goal

pub returns-clause-did : goal.returns-clause-did
unfolding migrate_plan
returns-clause-did g c =
    let first : (c.in_ok-version.version == 2) ≡ false = search rules in
    went_on header_plan _ c.in_ok-version.ensures.did (rw first (ended (convert_plan c.in_ok-version.nodes c.in_ok-version.timing) _ _ refl c.in_ok-convert.ensures))

pub returns-clause-disk : goal.returns-clause-disk
returns-clause-disk g c = (migrate_causes _ (returns-clause-did g c)).0

pub returns-clause-faults : goal.returns-clause-faults
returns-clause-faults g c = (migrate_causes _ (returns-clause-did g c)).1

pub returns-then-version-eq2-clause-did : goal.returns-then-version-eq2-clause-did
unfolding migrate_plan
returns-then-version-eq2-clause-did g c =
    let second : (c.in_ok-version.version == 2) ≡ true = search rules in
    let after : Follows (if c.in_ok-version.version == 2 then Ends (Ok c.in_ok-version.nodes) else convert_plan c.in_ok-version.nodes c.in_ok-version.timing >>= or_fault (λ done. Ends (Ok c.in_ok-version.nodes))) [] (Ok c.in_ok-version.nodes) =
    rw second (refl, refl) in
    did_map (or_fault _) _ c.in_ok-version.ensures.did after

pub returns-in_err-convert-clause-did : goal.returns-in_err-convert-clause-did
unfolding migrate_plan
returns-in_err-convert-clause-did g c =
    let first : (c.in_ok-version.version == 2) ≡ false = search rules in
    let p = err_from_is_err_and c.from_residual-in_err-convert.result c.from_residual-in_err-convert.ensures.1 in
    rw (p.1, p.2)
    (went_on header_plan _ c.in_ok-version.ensures.did (rw first (faulted (convert_plan c.in_ok-version.nodes c.in_ok-version.timing) _ c.in_err-convert.ensures)))

pub returns-in_err-convert-clause-disk : goal.returns-in_err-convert-clause-disk
returns-in_err-convert-clause-disk g c = (migrate_causes _ (returns-in_err-convert-clause-did g c)).0

pub returns-in_err-convert-clause-faults : goal.returns-in_err-convert-clause-faults
returns-in_err-convert-clause-faults g c = (migrate_causes _ (returns-in_err-convert-clause-did g c)).1

pub returns-in_err-version-clause-did : goal.returns-in_err-version-clause-did
unfolding migrate_plan
returns-in_err-version-clause-did g c =
    let p = err_from_is_err_and c.from_residual.result c.from_residual.ensures.1 in
    rw (p.1, p.2) (faulted header_plan _ c.in_err-version.ensures.did)

pub returns-in_err-version-clause-disk : goal.returns-in_err-version-clause-disk
returns-in_err-version-clause-disk g c = (migrate_causes _ (returns-in_err-version-clause-did g c)).0

pub returns-in_err-version-clause-faults : goal.returns-in_err-version-clause-faults
returns-in_err-version-clause-faults g c = (migrate_causes _ (returns-in_err-version-clause-did g c)).1
