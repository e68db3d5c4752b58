use Rattle.qn_etcd.specs.Answers.{done_by}
use Rattle.std.specs.String.{string_bytes}
use Rattle.qn_exchange.proofs.Asking.{releases}
use Rattle.qn_exchange.proofs.etcd_client.EtcdClient.release.Goals as goal

pub returns : goal.returns
returns g c =
    releases c.args.self.now _ _ _ _ c.is_done-done.result (string_bytes c.in_ok-body.body) c.as_str.result.now c.in_ok-text.text.now
    (done_by c.in_ok-said.said) c.in_ok-body.ensures c.as_str.ensures.value c.in_ok-text.ensures c.in_ok-said.ensures c.is_done-done.ensures
