use Rattle.std.proofs.Common.{◌∙◌}
use Rattle.qn_etcd.specs.Answers.{done_by}
use Rattle.qn_exchange.proofs.Asking.{opens_boot}
use Rattle.qn_exchange.proofs.etcd_client.EtcdClient.open.Goals as goal

pub returns-clause-opened : goal.returns-clause-opened
returns-clause-opened g c =
    opens_boot c.args.self.now c.begin-done.new.self c.args.boot c.args.revision _ _ _ _ c.begin-done.result c.as_str.result.now c.in_ok-text.text.now
    (done_by c.in_ok-said.said) (c.as_str.ensures.value ∙ c.in_ok-body.ensures) c.in_ok-text.ensures c.in_ok-said.ensures c.begin-done.ensures
