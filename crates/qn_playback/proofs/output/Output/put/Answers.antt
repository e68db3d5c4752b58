use Rattle.std.proofs.Common.{refl, [], ◌++◌}
use Rattle.std.proofs.lemmas.Result.{err_from_is_err_and, on_ok_weaker, on_err_weaker}
use Rattle.qn_playback.specs.Writing.{gives_all, gives_then, prefix_of_more, prefix_then}
use Rattle.qn_playback.proofs.output.Output.put.Goals as goal

pub returns-in_err-flush-clause-prefix : goal.returns-in_err-flush-clause-prefix
returns-in_err-flush-clause-prefix g c =
    let exit = err_from_is_err_and c.from_residual.result c.from_residual.ensures.1 in
    rw exit.1 (prefix_of_more c.args.text.now c.in_err-flush.ensures.prefix)

pub returns-clause-given : goal.returns-clause-given
returns-clause-given g c =
    on_ok_weaker c.put_all.result (λ whole.
    gives_then (gives_all [] c.args.self.now refl c.in_ok-flush.ensures.whole) c.args.text.now
    (gives_all c.flush.new.self ([] ++ c.args.text.now) c.in_ok-flush.ensures.empty whole))
    c.put_all.ensures.whole

pub returns-clause-prefix : goal.returns-clause-prefix
returns-clause-prefix g c =
    on_err_weaker c.put_all.result (λ begun.
    prefix_then (gives_all [] c.args.self.now refl c.in_ok-flush.ensures.whole) c.args.text.now begun)
    c.put_all.ensures.front
