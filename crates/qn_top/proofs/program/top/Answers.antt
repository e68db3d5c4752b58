use Rattle.qn_top.specs.declared.command.Command.TheVariants as command
use Rattle.qn_top.proofs.Branches.{ends}
use Rattle.qn_top.proofs.program.top.Goals as goal

pub returns : goal.returns
returns g c =
    let end = ends c.code.result c.code.ensures c.run-status.ensures in
    record {
      does = end.runs.does;
      usage = end.usage;
      usage_only = end.usage_only;
      unread = end.runs.unread;
      uncalled = end.runs.uncalled;
      memory = end.memory;
      read_fault = end.causes.read_fault;
      write_fault = end.causes.write_fault;
      env_fault = end.causes.env_fault;
      never_fall = (end.causes.never_fall.source, end.causes.never_fall.sink, end.causes.never_fall.env);
      one_holder = end.one_holder command.Replay;
      triple_one_holder = end.one_holder command.Replay3;
      one_holder_beside = end.one_holder command.ReplayArbiter;
      soak_one_holder = λ seed events. end.one_holder (command.Soak seed events);
    }
