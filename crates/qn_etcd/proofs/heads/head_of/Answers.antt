use Rattle.std.proofs.Common.{◌≡◌, None, ap, sym, refl, ◌∙◌, map, take}
use Rattle.httparse.specs.Outcome.{IfComplete}
use Rattle.httparse.specs.Spans.{IsResponseOf, header_bytes, name_and_value}
use Rattle.qn_etcd.specs.Heads.{length_in}
use Rattle.qn_etcd.specs.HeadLaws.{unsaid_never_begins}
use Rattle.qn_etcd.proofs.heads.head_of.Goals as goal

pub returns-in-None-clause-strange : goal.returns-in-None-clause-strange
returns-in-None-clause-strange c =
    let bytes = c.args.bytes.now in
    let fields = c.parse_response.new.headers in
    let head = c.in-Ok-Complete.head in
    let found : IsResponseOf bytes fields head = rw c.in-Ok-Complete.field-0-is at c.in-Ok-Complete.ensures.complete in
    let unsaid : length_in (map (header_bytes bytes) (take head.headers fields)) ≡ None = sym c.length_of.ensures ∙ c.in-None.is in
    (refl, unsaid_never_begins bytes found.0 _ found.1.reads (ap length_in (sym found.1.fields) ∙ unsaid))
