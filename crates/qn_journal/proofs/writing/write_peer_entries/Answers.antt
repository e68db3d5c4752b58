use Rattle.std.proofs.Common.{ℕ, Some, codes, option_map, ap, ◌∙◌}
use Rattle.json.specs.Json.{string}
use Rattle.qn_shown.specs.Spelling.{heard_json, id_json, whole}
use Rattle.qn_journal.specs.declared.json_text.JsonText.{JsonText}
use Rattle.qn_journal.specs.JsonTexts.{with_entry}
use Rattle.qn_journal.proofs.writing.write_peer_entries.Goals as goal

pub returns : goal.returns
returns c =
    let peer = c.args.peer.now in
    let id = c.whole.ensures
    ∙ ap (λ (n : ℕ). with_entry c.whole_or_null.new.self (codes "id", Some (whole n))) c.from.ensures
    ∙ ap (λ (json : JsonText). with_entry json (codes "id", Some (id_json peer.id))) c.whole_or_null.ensures in
    let name = c.text_if_any.ensures ∙ ap (λ (json : JsonText). with_entry json (codes "name", option_map string peer.name)) id in
    let down = c.whole_if_any.ensures ∙ ap (λ (json : JsonText). with_entry json (codes "network_down", option_map whole peer.network_down)) name in
    let refused = c.whole_if_any-2.ensures ∙ ap (λ (json : JsonText). with_entry json (codes "refused", option_map whole peer.refused)) down in
    c.write_heard.ensures ∙ ap (λ (json : JsonText). with_entry json (codes "told", heard_json peer.told)) refused
