use Rattle.std.proofs.Common.{ap, take, drop, ◌∙◌}
use Rattle.qn_shown.specs.Spelling.{shown_entries}
use Rattle.qn_journal.specs.declared.json_text.JsonText.{JsonText}
use Rattle.qn_journal.specs.JsonTexts.{with_entries}
use Rattle.qn_journal.proofs.EntryTexts.{object_value}
use Rattle.qn_journal.proofs.writing.write_shown.Goals as goal

pub returns : goal.returns
returns c =
    let entries = shown_entries c.args.shown.now in
    let to_loop =
    c.write_group_to_loop.ensures
    ∙ ap (λ (json : JsonText). with_entries json (take 8 (drop 5 entries))) c.write_arbiter_to_format.ensures in
    let to_peers = c.write_mail_to_peers.ensures ∙ ap (λ (json : JsonText). with_entries json (take 5 (drop 13 entries))) to_loop in
    let to_standing = c.write_phase_to_standing.ensures ∙ ap (λ (json : JsonText). with_entries json (take 7 (drop 18 entries))) to_peers in
    let to_why = c.write_tick_to_why.ensures ∙ ap (λ (json : JsonText). with_entries json (drop 25 entries)) to_standing in
    object_value c.args.json.now entries c.begin_object.ensures to_why c.end_object.ensures
