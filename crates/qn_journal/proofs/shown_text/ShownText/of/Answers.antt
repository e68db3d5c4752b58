use Rattle.std.proofs.Common.{◌≡◌, sym, ap, ◌∙◌, true, false, arith}
use Rattle.qn_shown.specs.Spelling.{shown_json}
use Rattle.qn_journal.specs.declared.fixed_text.FixedText.{FixedText}
use Rattle.qn_journal.specs.declared.json_text.JsonText.{JsonText}
use Rattle.qn_journal.specs.FixedTexts.{nothing_yet, with_byte, with_text}
use Rattle.qn_journal.specs.JsonTexts.{with_json}
use Rattle.qn_journal.specs.StatusTexts.{status_text}
use Rattle.qn_journal.proofs.Rooms.{usual_fits}
use Rattle.qn_journal.proofs.StatusTexts.{status_is}
use Rattle.qn_journal.proofs.Wholeness.{nothing_has_no_room, whole}
use Rattle.qn_journal.proofs.shown_text.ShownText.of.Goals as goal

pub returns-then-is_cut-clause-room : goal.returns-then-is_cut-clause-room
returns-then-is_cut-clause-room c =
    let shown = c.args.shown.now in
    let is : c.end_line.new.self.text ≡ with_text nothing_yet (status_text shown) =
    ap (λ (j : JsonText). j.text) c.end_line.ensures
    ∙ ap (λ (j : JsonText). with_byte j.text 10) (c.write_shown.ensures ∙ ap (λ (j : JsonText). with_json j (shown_json shown)) c.new-json.ensures)
    ∙ status_is shown in
    let cut : (with_text nothing_yet (status_text shown)).is_cut ≡ true =
    ap (λ (t : FixedText). t.is_cut) (sym is) ∙ sym c.is_cut.ensures ∙ c.if-is_cut.true in
    nothing_has_no_room (status_text shown) cut

pub returns-clause-text : goal.returns-clause-text
returns-clause-text c =
    let shown = c.args.shown.now in
    let is : c.end_line.new.self.text ≡ with_text nothing_yet (status_text shown) =
    ap (λ (j : JsonText). j.text) c.end_line.ensures
    ∙ ap (λ (j : JsonText). with_byte j.text 10) (c.write_shown.ensures ∙ ap (λ (j : JsonText). with_json j (shown_json shown)) c.new-json.ensures)
    ∙ status_is shown in
    let not_cut : (with_text nothing_yet (status_text shown)).is_cut ≡ false =
    ap (λ (t : FixedText). t.is_cut) (sym is) ∙ sym c.is_cut.ensures ∙ c.if-is_cut.false in
    ap (λ (t : FixedText). t.bytes.items) is ∙ whole nothing_yet (status_text shown) not_cut

pub returns-then-is_cut-clause-enough : goal.returns-then-is_cut-clause-enough
returns-then-is_cut-clause-enough c = λ usual.
    let shown = c.args.shown.now in
    let is : c.end_line.new.self.text ≡ with_text nothing_yet (status_text shown) =
    ap (λ (j : JsonText). j.text) c.end_line.ensures
    ∙ ap (λ (j : JsonText). with_byte j.text 10) (c.write_shown.ensures ∙ ap (λ (j : JsonText). with_json j (shown_json shown)) c.new-json.ensures)
    ∙ status_is shown in
    let cut : (with_text nothing_yet (status_text shown)).is_cut ≡ true =
    ap (λ (t : FixedText). t.is_cut) (sym is) ∙ sym c.is_cut.ensures ∙ c.if-is_cut.true in
    let long = nothing_has_no_room (status_text shown) cut in
    let short = usual_fits shown usual in
    absurd (omega (arith, long, short))
