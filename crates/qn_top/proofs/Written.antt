-- A text that was written, and then another, or a prefix of it.
use Rattle.std.proofs.Common.{◌≡◌, ◌≤◌, ℕ, List, [], ◌++◌, Option, sym, ap, ◌∙◌, subst, append_assoc, append-nil, arith}
use Rattle.std.specs.Io.KnownBytes.{append_known}
use Rattle.qn_base.specs.Rising.{HasRisen-within}
use Rattle.qn_io.specs.Outside.{append_known-append}
use Rattle.qn_io.specs.Writes.{AppendsFront}
use Rattle.qn_commands.specs.Endings.{Cut, Says, Whole}
use Rattle.qn_commands.specs.Seen.{Output}
use Rattle.qn_top.specs.Traces.{written_to}

module _ {old new : Option (List ℕ)} where
  -- a text that was written whole
  pub whole_prefix : (text : List ℕ) → new ≡ append_known old text → AppendsFront old new text
  whole_prefix text writes = record { front = text; rest = []; parts = sym (append-nil text); adds = writes }

  -- a prefix of a longer text
  pub longer : (text more : List ℕ) → AppendsFront old new text → AppendsFront old new (text ++ more)
  longer text more writes = record {
    front = writes.front;
    rest = writes.rest ++ more;
    parts = ap (λ t. t ++ more) writes.parts ∙ append_assoc writes.front writes.rest more;
    adds = writes.adds;
  }

  -- a text that was written whole, and then a prefix of another
  pub after_text : (middle : Option (List ℕ)) (text more : List ℕ) → middle ≡ append_known old text → AppendsFront middle new more
      → AppendsFront old new (text ++ more)
  after_text middle text more is writes = record {
    front = text ++ writes.front;
    rest = writes.rest;
    parts = ap (λ t. text ++ t) writes.parts ∙ sym (append_assoc text writes.front writes.rest);
    adds = writes.adds ∙ ap (λ known. append_known known writes.front) is ∙ sym (append_known-append old text writes.front);
  }

-- a prefix of a last text
pub says_prefix : {text : List ℕ} {wanted : ℕ} {before later : Output} {status : ℕ} → Says text wanted before later status
    → AppendsFront before.written later.written text
says_prefix {text} (Whole is whole) = whole_prefix text whole
says_prefix (Cut is fails prefix) = prefix

-- the last text of a sink that had written a text before
pub says_after : {text : List ℕ} {wanted : ℕ} (before middle later : Output) (trace : List ℕ) {status : ℕ}
    → middle.written ≡ append_known before.written trace → before.faults ≤ middle.faults → middle.faults ≤ later.faults
    → Says text wanted middle later status → Says text wanted (written_to before trace) later status
says_after {text} before middle later trace wrote rises goes (Whole is whole) = Whole is (whole ∙ ap (λ known. append_known known text) wrote)
says_after {text} before middle later trace wrote rises goes (Cut is fails prefix) =
    Cut is (HasRisen-within before.faults middle.faults later.faults later.faults rises goes (omega arith) fails)
    (subst (λ known. AppendsFront known later.written text) wrote prefix)
