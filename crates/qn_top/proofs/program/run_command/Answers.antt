use Rattle.std.proofs.Common.{Some, ℕ, List, ap, refl, sym, ◌∙◌}
use Rattle.qn_commands.specs.Seen.{outside, source}
use Rattle.qn_top.specs.declared.command.Command.TheVariants as command
use Rattle.qn_top.proofs.Branches.{of_words, used}
use Rattle.qn_top.proofs.program.run_command.Goals as goal

pub returns-in-Count : goal.returns-in-Count
returns-in-Count g c =
    of_words _ (Some command.Count) (ap Some c.in-Count.is)
    (record { does = c.count.ensures (outside g.E.Env.calls g.E.Env.faults c.args.env.now); unread = used; uncalled = λ no. refl; one_holder = tt })

pub returns-in-Replay : goal.returns-in-Replay
returns-in-Replay g c =
    of_words _ (Some command.Replay) (ap Some c.in-Replay.is)
    (record { does = c.run_replay.ensures.replays (outside g.E.Env.calls g.E.Env.faults c.args.env.now); unread = used; uncalled = λ no. refl; one_holder = c.run_replay.ensures.one_holder })

pub returns-in-Status : goal.returns-in-Status
returns-in-Status g c =
    of_words _ (Some (command.Status c.in-Status.form)) (ap Some c.in-Status.is)
    (record { does = c.run_status.ensures (outside g.E.Env.calls g.E.Env.faults c.args.env.now); unread = used; uncalled = λ no. refl; one_holder = tt })

pub returns-in-Soak : goal.returns-in-Soak
returns-in-Soak g c =
    of_words _ (Some (command.Soak c.in-Soak.seed c.in-Soak.events)) (ap Some c.in-Soak.is)
    (record { does = c.run_soak.ensures.soaks (source g.I.Source.left g.I.Source.faults c.args.input.now) (outside g.E.Env.calls g.E.Env.faults c.args.env.now); unread = λ no. refl; uncalled = λ no. refl; one_holder = c.run_soak.ensures.one_holder })

pub returns-in-Help : goal.returns-in-Help
returns-in-Help g c =
    of_words _ (Some command.Help) (ap Some c.in-Help.is)
    (record { does = c.help.ensures (source g.I.Source.left g.I.Source.faults c.args.input.now) (outside g.E.Env.calls g.E.Env.faults c.args.env.now); unread = λ no. refl; uncalled = λ no. refl; one_holder = tt })

pub returns-in-Create : goal.returns-in-Create
returns-in-Create g c =
    of_words _ (Some (command.Create c.as_str.result.now c.in-Create.timing)) (ap Some c.in-Create.is ∙ ap (λ (path : List ℕ). Some (command.Create path c.in-Create.timing)) (sym c.as_str.ensures))
    (record { does = c.create.ensures.creates; unread = c.create.ensures.unread; uncalled = c.create.ensures.uncalled; one_holder = tt })

pub returns-in-Dump : goal.returns-in-Dump
returns-in-Dump g c =
    of_words _ (Some (command.Dump c.as_str-in-Dump.result.now)) (ap Some c.in-Dump.is ∙ ap (λ (path : List ℕ). Some (command.Dump path)) (sym c.as_str-in-Dump.ensures))
    (record { does = c.dump.ensures (source g.I.Source.left g.I.Source.faults c.args.input.now); unread = λ no. refl; uncalled = used; one_holder = tt })

pub returns-in-List : goal.returns-in-List
returns-in-List g c =
    of_words _ (Some (command.List c.as_str-in-List.result.now)) (ap Some c.in-List.is ∙ ap (λ (path : List ℕ). Some (command.List path)) (sym c.as_str-in-List.ensures))
    (record { does = c.list.ensures (source g.I.Source.left g.I.Source.faults c.args.input.now); unread = λ no. refl; uncalled = used; one_holder = tt })

pub returns-in-Message : goal.returns-in-Message
returns-in-Message g c =
    of_words _ (Some (command.Message c.as_str-in-Message.result.now c.in-Message.id c.in-Message.kind)) (ap Some c.in-Message.is ∙ ap (λ (path : List ℕ). Some (command.Message path c.in-Message.id c.in-Message.kind)) (sym c.as_str-in-Message.ensures))
    (record { does = c.send.ensures (source g.I.Source.left g.I.Source.faults c.args.input.now); unread = λ no. refl; uncalled = used; one_holder = tt })

pub returns-in-Migrate : goal.returns-in-Migrate
returns-in-Migrate g c =
    of_words _ (Some (command.Migrate c.as_str-in-Migrate.result.now)) (ap Some c.in-Migrate.is ∙ ap (λ (path : List ℕ). Some (command.Migrate path)) (sym c.as_str-in-Migrate.ensures))
    (record { does = c.migrate.ensures (source g.I.Source.left g.I.Source.faults c.args.input.now); unread = λ no. refl; uncalled = used; one_holder = tt })

pub returns-in-Node : goal.returns-in-Node
returns-in-Node g c =
    of_words _ (Some (command.Node c.in-Node.words)) (ap Some c.in-Node.is)
    (record { does = c.node.ensures; unread = used; uncalled = used; one_holder = tt })

pub returns-in-Node3 : goal.returns-in-Node3
returns-in-Node3 g c =
    of_words _ (Some (command.Node3 c.in-Node3.words)) (ap Some c.in-Node3.is)
    (record { does = c.node-in-Node3.ensures; unread = used; uncalled = used; one_holder = tt })

pub returns-in-NodeLogged : goal.returns-in-NodeLogged
returns-in-NodeLogged g c =
    of_words _ (Some (command.NodeLogged c.in-NodeLogged.words)) (ap Some c.in-NodeLogged.is)
    (record { does = c.node_logged.ensures; unread = used; uncalled = used; one_holder = tt })

pub returns-in-Node3Logged : goal.returns-in-Node3Logged
returns-in-Node3Logged g c =
    of_words _ (Some (command.Node3Logged c.in-Node3Logged.words)) (ap Some c.in-Node3Logged.is)
    (record { does = c.node_logged-in-Node3Logged.ensures; unread = used; uncalled = used; one_holder = tt })

pub returns-in-Audit : goal.returns-in-Audit
returns-in-Audit g c =
    of_words _ (Some (command.Audit c.in-Audit.words)) (ap Some c.in-Audit.is)
    (record { does = c.run_audit.ensures (outside g.E.Env.calls g.E.Env.faults c.args.env.now); unread = used; uncalled = λ no. refl; one_holder = tt })

pub returns-in-Replay3 : goal.returns-in-Replay3
returns-in-Replay3 g c =
    of_words _ (Some command.Replay3) (ap Some c.in-Replay3.is)
    (record { does = c.run_replay3.ensures.replays (outside g.E.Env.calls g.E.Env.faults c.args.env.now); unread = used; uncalled = λ no. refl; one_holder = c.run_replay3.ensures.one_holder })

pub returns-in-ReplayArbiter : goal.returns-in-ReplayArbiter
returns-in-ReplayArbiter g c =
    of_words _ (Some command.ReplayArbiter) (ap Some c.in-ReplayArbiter.is)
    (record { does = c.run_replay_arbiter.ensures.replays (outside g.E.Env.calls g.E.Env.faults c.args.env.now); unread = used; uncalled = λ no. refl; one_holder = c.run_replay_arbiter.ensures.one_holder })

pub returns-in-Arbiter : goal.returns-in-Arbiter
returns-in-Arbiter g c =
    of_words _ (Some (command.Arbiter c.in-Arbiter.words)) (ap Some c.in-Arbiter.is)
    (record { does = c.arbiter.ensures; unread = used; uncalled = used; one_holder = tt })
