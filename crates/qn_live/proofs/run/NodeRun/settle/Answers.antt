use Rattle.std.proofs.Common.{◌≡◌, None, sym, ap, ◌∙◌}
use Rattle.qn_base.specs.Plans.{◌>>=◌}
use Rattle.qn_live.specs.Greetings.{maker_begun, maker_of, maker_where}
use Rattle.qn_model.specs.Phases.{is_live, phase}
use Rattle.std.proofs.Common.{Option}
use Rattle.qn_safety.specs.declared.polls.Poll.{Poll}
use Rattle.qn_live.specs.declared.run.NodeRun.{NodeRun}
use Rattle.qn_live.specs.Polling.{poll_plan, polled}
use Rattle.qn_live.specs.Machine.{SameBeside, StandsFor, next_of, state_of}
use Rattle.qn_live.specs.Performing.{end_in}
use Rattle.qn_live.specs.Running.{RunState, later}
use Rattle.qn_live.proofs.Joining.{greeted_by, hellos, settled_on, settled_over, polling_beside, saying_beside, stands_beside, stands_too}
use Rattle.qn_live.proofs.run.NodeRun.settle.Goals as goal

pub returns-in-Some-clause-runs : goal.returns-in-Some-clause-runs
returns-in-Some-clause-runs c = λ log stands.
    let run = c.args.self.now in
    stands_too
    (ap (λ p. p >>= later (next_of run))
    (settled_over run.settings run.me.0 run.entry run.outs (state_of run log) c.in-Some.end (sym c.end_in.ensures ∙ c.in-Some.is)))
    (c.leave.ensures.runs log stands)

pub returns-in-Some-next_poll-clause-runs : goal.returns-in-Some-next_poll-clause-runs
unfolding hellos
returns-in-Some-next_poll-clause-runs c = λ log stands.
    let run = c.args.self.now in
    let asked : NodeRun = record run { member = c.hello_due-greets.new.member } in
    let due = c.hello_due-greets.result in
    let none : end_in run.entry run.outs ≡ None = sym c.end_in.ensures ∙ c.in_default.is in
    let present : c.keep_member.new.member ≡ maker_of run.settings run.me.0 (state_of run log) =
    c.keep_member.ensures
    ∙ ap (λ live. maker_where live (maker_begun run.settings run.me.0 run.loop_ms c.own-own.result) run.member) (c.is_live-live.ensures log stands)
    ∙ ap (λ own. maker_where (is_live (phase run.settings log)) (maker_begun run.settings run.me.0 run.loop_ms own) run.member) (c.own-own.ensures log stands) in
    let st : RunState = polled run.settings run.me.0 due run.entry (state_of asked log) in
    let here : StandsFor run.settings run.me.0 run.node run.tick log = stands in
    let greets =
    settled_on run.settings run.me.0 run.entry run.outs (state_of run log) none
    ∙ greeted_by run.settings run.me.0 run.entry (state_of run log) run.tick c.keep_member.new.member c.hello_due-greets.new.member due stands.at present c.hello_due-greets.ensures.after c.hello_due-greets.ensures.due in
    let told = λ (poll : Option Poll). (poll_plan poll >>= (λ told. hellos run.settings run.me.0 st c.hello_due-greets.new.member due)) >>= later (next_of run) in
    let only : SameBeside asked c.next_poll.new.self =
    record {
      settings = c.next_poll.ensures.only.settings;
      me = c.next_poll.ensures.only.me;
      leave_at = c.next_poll.ensures.only.leave_at;
      node = c.next_poll.ensures.only.node;
      member = c.next_poll.ensures.only.member;
      tick = c.next_poll.ensures.only.tick;
      turn = c.next_poll.ensures.only.turn;
      after = c.next_poll.ensures.only.after;
    } in
    let found = sym (c.next_poll.ensures.poll log here) ∙ c.in-Some-next_poll.is in
    record {
      log = log;
      stands = stands_beside asked c.next_poll.new.self only log here;
      more = tt;
      is_left = ap (λ p. p >>= later (next_of run)) greets ∙ ap told found ∙ polling_beside asked c.next_poll.new.self only log st _ due (c.next_poll.ensures.polled log here);
    }

pub returns-in-None-clause-runs : goal.returns-in-None-clause-runs
unfolding hellos
returns-in-None-clause-runs c = λ log stands.
    let run = c.args.self.now in
    let asked : NodeRun = record run { member = c.hello_due-greets.new.member } in
    let due = c.hello_due-greets.result in
    let none : end_in run.entry run.outs ≡ None = sym c.end_in.ensures ∙ c.in_default.is in
    let present : c.keep_member.new.member ≡ maker_of run.settings run.me.0 (state_of run log) =
    c.keep_member.ensures
    ∙ ap (λ live. maker_where live (maker_begun run.settings run.me.0 run.loop_ms c.own-own.result) run.member) (c.is_live-live.ensures log stands)
    ∙ ap (λ own. maker_where (is_live (phase run.settings log)) (maker_begun run.settings run.me.0 run.loop_ms own) run.member) (c.own-own.ensures log stands) in
    let st : RunState = polled run.settings run.me.0 due run.entry (state_of asked log) in
    let here : StandsFor run.settings run.me.0 run.node run.tick log = stands in
    let greets =
    settled_on run.settings run.me.0 run.entry run.outs (state_of run log) none
    ∙ greeted_by run.settings run.me.0 run.entry (state_of run log) run.tick c.keep_member.new.member c.hello_due-greets.new.member due stands.at present c.hello_due-greets.ensures.after c.hello_due-greets.ensures.due in
    let told = λ (poll : Option Poll). (poll_plan poll >>= (λ told. hellos run.settings run.me.0 st c.hello_due-greets.new.member due)) >>= later (next_of run) in
    let only : SameBeside asked c.next_poll.new.self =
    record {
      settings = c.next_poll.ensures.only.settings;
      me = c.next_poll.ensures.only.me;
      leave_at = c.next_poll.ensures.only.leave_at;
      node = c.next_poll.ensures.only.node;
      member = c.next_poll.ensures.only.member;
      tick = c.next_poll.ensures.only.tick;
      turn = c.next_poll.ensures.only.turn;
      after = c.next_poll.ensures.only.after;
    } in
    let found = sym (c.next_poll.ensures.poll log here) ∙ c.in-None.is in
    stands_too
    (ap (λ p. p >>= later (next_of run)) greets ∙ ap told found ∙ saying_beside asked c.next_poll.new.self only log st due (c.next_poll.ensures.polled log here))
    (c.greet_or_finish.ensures.runs log (stands_beside asked c.next_poll.new.self only log here))
