use Rattle.std.proofs.Common.{◌∙◌}
use Rattle.qn_etcd.specs.Answers.{said_by}
use Rattle.qn_exchange.proofs.Asking.{reads_key}
use Rattle.qn_exchange.proofs.etcd_client.EtcdClient.read.Goals as goal

pub returns : goal.returns
returns g c =
    reads_key c.args.self.now c.args.sector _ _ _ _ c.put_sector-done.result c.put_sector-done.new.into c.as_str.result.now c.in_ok-text.text.now
    (said_by c.in_ok-said.said) (c.as_str.ensures.value ∙ c.in_ok-body.ensures) c.in_ok-text.ensures c.in_ok-said.ensures c.put_sector-done.ensures
