use Rattle.std.proofs.Common.{◌≡◌, true, rules}
use Rattle.qn_model.specs.Timing.{is_safe}
use Rattle.qn_image.proofs.Outcomes.{writes_causes, create_faults, safe_creation}
use Rattle.qn_image.proofs.creating.create.Goals as goal

pub returns-clause-disk : goal.returns-clause-disk
returns-clause-disk g c = (writes_causes _ _ c.write_image.ensures).0

pub returns-clause-faults : goal.returns-clause-faults
returns-clause-faults g c = create_faults _ (writes_causes _ _ c.write_image.ensures).1

pub returns-clause-unsafe_timing : goal.returns-clause-unsafe_timing
returns-clause-unsafe_timing g c =
    let safe : is_safe c.args.timing ≡ true = search rules in
    safe_creation _ _ safe (writes_causes _ _ c.write_image.ensures).1
