use Rattle.std.proofs.Common.{◌∙◌, sym}
use Rattle.qn_base.specs.lemmas.Results.{ok_holds}
use Rattle.qn_cluster.specs.ResultLaws.{err_holds}
use Rattle.qn_cluster.specs.WorldStepLaws.{applied, refused_starved, reportable}
use Rattle.qn_cluster.proofs.steps.Steps.apply_into.Goals as goal

pub returns-then-is_err-clause-err : goal.returns-then-is_err-clause-err
returns-then-is_err-clause-err g c =
    refused_starved g.Self.HasNodes.kind g.met.Self.HasNodes.is_lawful c.args.self.now c.apply_allowed.new.self c.args.event.now (λ d is. c.in_default.ensures d is)
    (err_holds c.apply_allowed.result (sym c.is_err.ensures.value ∙ c.if-is_err.true) c.apply_allowed.ensures.err)

pub fill-requires : goal.fill-requires
fill-requires g c =
    let can =
    reportable g.Self.HasNodes.kind g.met.Self.HasNodes.is_lawful c.args.self.now c.apply_allowed.new.self c.args.event.now c.apply_allowed.new.outs c.requires.standing
    (ok_holds c.apply_allowed.result (sym c.is_err.ensures.value ∙ c.if-is_err.false) c.apply_allowed.ensures.ok) c.requires.formed in
    record { formed = can.0; standing = can.1 }

pub returns-clause-ok : goal.returns-clause-ok
returns-clause-ok g c =
    applied g.Self.HasNodes.kind g.met.Self.HasNodes.is_lawful c.args.self.now c.apply_allowed.new.self c.args.event.now c.apply_allowed.new.outs c.requires.standing
    (ok_holds c.apply_allowed.result (sym c.is_err.ensures.value ∙ c.if-is_err.false) c.apply_allowed.ensures.ok) c.fill.new.into
    (λ d is. c.in_default.ensures d is) c.fill.ensures
