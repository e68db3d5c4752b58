use Rattle.std.proofs.lemmas.Result.{err_from_is_err_and}
use Rattle.qn_image.proofs.Writing.{image_written, filling_failed, erasing_failed}
use Rattle.qn_image.proofs.creating.write_image.Goals as goal

pub returns : goal.returns
returns g c =
    image_written c.args.nodes.now c.args.timing.now c.in_ok-write.ensures c.in_ok-write_nodes.ensures c.write_header.ensures

pub returns-in_err-write_nodes : goal.returns-in_err-write_nodes
returns-in_err-write_nodes g c =
    let p = err_from_is_err_and c.from_residual-in_err-write_nodes.result c.from_residual-in_err-write_nodes.ensures.1 in
    rw (p.1, p.2)
    (filling_failed c.args.nodes.now c.args.timing.now _ c.in_ok-write.ensures c.in_err-write_nodes.ensures)

pub returns-in_err-write : goal.returns-in_err-write
returns-in_err-write g c =
    let p = err_from_is_err_and c.from_residual.result c.from_residual.ensures.1 in
    rw (p.1, p.2) (erasing_failed c.args.nodes.now c.args.timing.now _ c.in_err-write.ensures)
