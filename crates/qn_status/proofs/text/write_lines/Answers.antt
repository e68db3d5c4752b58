use Rattle.std.proofs.Common.{◌∙◌, arith}
use Rattle.std.proofs.lemmas.Result.{err_from_is_err_and}
use Rattle.qn_status.specs.StatusText.{state_line}
use Rattle.qn_status.proofs.Lines.{line_cut}
use Rattle.qn_status.proofs.text.write_lines.Goals as goal

pub returns-in_err-put_all-clause-front : goal.returns-in_err-put_all-clause-front
returns-in_err-put_all-clause-front g c =
    let exit = err_from_is_err_and c.from_residual.result c.from_residual.ensures.1 in
    rw exit.1
    (line_cut state_line c.args.nodes.now c.nodes.node-index _ c.as_slice.result.now (omega arith) (c.as_slice.ensures ∙ c.state_line-line.ensures) c.nodes.invariant.0
    c.in_err-put_all.ensures.front)
