use Rattle.std.proofs.Common.{take, ap, sym, ◌∙◌, arith}
use Rattle.std.specs.Io.KnownBytes.{prepend_known}
use Rattle.qn_base.specs.Rising.{HasRisen-within}
use Rattle.qn_commands.specs.Seen.{source}
use Rattle.qn_commands.proofs.ReadTexts.{text_ended, text_too_long, text_unread, text_wanted, text_whole}
use Rattle.qn_commands.proofs.settings_text.read_text.Goals as goal

pub returns-in_default-clause-judges : goal.returns-in_default-clause-judges
returns-in_default-clause-judges g c =
    text_unread c.pieces.bytes.items _ (source g.I.Source.left g.I.Source.faults c.pieces.input) (source g.I.Source.left g.I.Source.faults c.read.new.self) c.pieces.invariant.0 c.pieces.invariant.2
    c.in_default.ensures.kept
    (HasRisen-within _ _ _ _ c.pieces.invariant.1 c.in_default.ensures.never_falls (omega arith) c.in_default.ensures.cause)

pub returns-then-count-eq0-clause-judges : goal.returns-then-count-eq0-clause-judges
returns-then-count-eq0-clause-judges g c =
    text_ended c.pieces.bytes.items _ (source g.I.Source.left g.I.Source.faults c.pieces.input) (source g.I.Source.left g.I.Source.faults c.read.new.self) c.pieces.invariant.0 c.pieces.invariant.2
    (c.in-Ok.ensures.takes ∙ ap (λ n. prepend_known (take n c.read.new.into) (g.I.Source.left c.read.new.self)) c.if-count-eq0.true)
    (c.in-Ok.ensures.end c.if-count-eq0.true (omega arith))

pub returns-in_default-extend_from_slice-clause-judges : goal.returns-in_default-extend_from_slice-clause-judges
returns-in_default-extend_from_slice-clause-judges g c =
    text_wanted c.pieces.bytes.items _ (source g.I.Source.left g.I.Source.faults c.pieces.input) (source g.I.Source.left g.I.Source.faults c.read.new.self) c.pieces.invariant.0 c.pieces.invariant.2
    c.split_at.result.0.now
    (c.in-Ok.ensures.takes ∙ ap (λ piece. prepend_known piece (g.I.Source.left c.read.new.self)) (sym c.split_at.ensures.front))
    (omega arith)

pub returns-then-as_slice-gt-MOST_TEXT_BYTES-clause-judges : goal.returns-then-as_slice-gt-MOST_TEXT_BYTES-clause-judges
returns-then-as_slice-gt-MOST_TEXT_BYTES-clause-judges g c =
    text_too_long c.pieces.bytes.items _ (source g.I.Source.left g.I.Source.faults c.pieces.input) (source g.I.Source.left g.I.Source.faults c.read.new.self) c.pieces.invariant.0 c.pieces.invariant.2
    c.split_at.result.0.now
    (c.in-Ok.ensures.takes ∙ ap (λ piece. prepend_known piece (g.I.Source.left c.read.new.self)) (sym c.split_at.ensures.front))
    (omega arith)
    c.as_slice.result.now
    (c.as_slice.ensures.value ∙ c.in-Ok-extend_from_slice.ensures.items)
    c.if-as_slice-gt-MOST_TEXT_BYTES.true

pub returns-then-count-eq0-clause-whole : goal.returns-then-count-eq0-clause-whole
returns-then-count-eq0-clause-whole g c =
    text_whole c.pieces.bytes.items _ (source g.I.Source.left g.I.Source.faults c.pieces.input) (source g.I.Source.left g.I.Source.faults c.read.new.self) c.pieces.invariant.0 c.pieces.invariant.2
    (c.in-Ok.ensures.takes ∙ ap (λ n. prepend_known (take n c.read.new.into) (g.I.Source.left c.read.new.self)) c.if-count-eq0.true)
    (c.in-Ok.ensures.end c.if-count-eq0.true (omega arith))
