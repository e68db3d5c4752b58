use Rattle.std.proofs.Common.{◌∙◌}
use Rattle.qn_etcd.specs.Answers.{done_by}
use Rattle.qn_exchange.proofs.Asking.{writes_key}
use Rattle.qn_exchange.proofs.etcd_client.EtcdClient.write.Goals as goal

pub returns-clause-wrote : goal.returns-clause-wrote
returns-clause-wrote g c =
    writes_key c.args.self.now c.note-done.new.self c.args.sector _ _ _ _ c.note-done.result c.args.from.now c.as_str.result.now c.in_ok-text.text.now
    (done_by c.in_ok-said.said) (c.as_str.ensures.value ∙ c.in_ok-body.ensures) c.in_ok-text.ensures c.in_ok-said.ensures c.note-done.ensures
