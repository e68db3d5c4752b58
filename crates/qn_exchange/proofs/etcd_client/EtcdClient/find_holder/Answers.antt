use Rattle.std.proofs.Common.{◌∙◌}
use Rattle.qn_exchange.proofs.Asking.{finds_holder}
use Rattle.qn_exchange.proofs.etcd_client.EtcdClient.find_holder.Goals as goal

pub returns : goal.returns
returns g c =
    finds_holder c.args.self.now c.args.rank _ _ _ _ c.in_ok-said.said c.as_str.result.now c.in_ok-text.text.now
    (c.as_str.ensures.value ∙ c.in_ok-body.ensures) c.in_ok-text.ensures c.in_ok-said.ensures
