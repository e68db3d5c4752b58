use Rattle.std.proofs.Common.{subst}
use Rattle.qn_triple.specs.Stepping.{Writes}
use Rattle.qn_triple.proofs.DiskSteps.{AtPlace, write_turned}
use Rattle.qn_triple.proofs.state.State.write.Goals as goal

pub returns : goal.returns
returns c =
    write_turned c.args.self.now c.write_at.new.self c.args.i.0 c.args.image c.args.op c.requires.standing c.requires.image
    (subst (λ place. AtPlace c.args.self.now c.write_at.new.self place (λ own after. Writes own after c.args.i.0 c.args.op)) c.place_of.ensures.place c.write_at.ensures)
