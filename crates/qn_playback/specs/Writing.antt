-- Text that is given out: a prefix of it was written, and the rest of it waits. With the laws of texts that are given out
-- one after the other.
use Rattle.std.specs.Prelude.{◌≡◌, ℕ, List, [], ◌++◌, Option}
use Rattle.std.specs.Io.KnownBytes.{append_known}
use Rattle.std.proofs.Common.{refl, sym, ap, ◌∙◌, append_assoc, append-nil}
use Rattle.qn_io.specs.Outside.{append_known-append, append_known-nil}
use Rattle.qn_io.specs.Writes.{AppendsFront}

-- a prefix of the text was written, and what waits is the rest
pub record GivesOut (old new : Option (List ℕ)) (waiting text : List ℕ) : Type 0 where
  pub front : List ℕ
  pub parts : text ≡ front ++ waiting
  pub adds : new ≡ append_known old front

-- none of it was written
pub gives_later : (old : Option (List ℕ)) (text : List ℕ) → GivesOut old old text text
gives_later old text = record { front = []; parts = refl; adds = sym (append_known-nil old) }

-- all of it was written
pub gives_all : {old new : Option (List ℕ)} (waiting text : List ℕ) → waiting ≡ [] → new ≡ append_known old text → GivesOut old new waiting text
gives_all waiting text none whole = record {
  front = text;
  parts = sym (ap (λ w. text ++ w) none ∙ append-nil text);
  adds = whole;
}

-- a further text waits
pub gives_more : {old new : Option (List ℕ)} {waiting text : List ℕ} (more longer : List ℕ) → GivesOut old new waiting text → longer ≡ waiting ++ more
    → GivesOut old new longer (text ++ more)
gives_more {waiting} more longer first is = record {
  front = first.front;
  parts = ap (λ t. t ++ more) first.parts ∙ append_assoc first.front waiting more ∙ ap (λ w. first.front ++ w) (sym is);
  adds = first.adds;
}

-- a prefix of a text is one of a longer text
pub prefix_of_more : {old new : Option (List ℕ)} {text : List ℕ} (more : List ℕ) → AppendsFront old new text → AppendsFront old new (text ++ more)
prefix_of_more more begun = record {
  front = begun.front;
  rest = begun.rest ++ more;
  parts = ap (λ t. t ++ more) begun.parts ∙ append_assoc begun.front begun.rest more;
  adds = begun.adds;
}

module _ {old now : Option (List ℕ)} {waiting text : List ℕ} (first : GivesOut old now waiting text) where
  -- the same text, and then another
  pub gives_then : {new : Option (List ℕ)} {longer : List ℕ} (more : List ℕ) → GivesOut now new longer (waiting ++ more) → GivesOut old new longer (text ++ more)
  gives_then {new} {longer} more second = record {
    front = first.front ++ second.front;
    parts =
        ap (λ t. t ++ more) first.parts ∙ append_assoc first.front waiting more ∙ ap (λ w. first.front ++ w) second.parts
        ∙ sym (append_assoc first.front second.front longer);
    adds = second.adds ∙ ap (λ known. append_known known second.front) first.adds ∙ sym (append_known-append old first.front second.front);
  }

  -- more of what waited was written
  pub gives_on : {new : Option (List ℕ)} {left : List ℕ} → GivesOut now new left waiting → GivesOut old new left text
  gives_on {new} {left} second = record {
    front = first.front ++ second.front;
    parts = first.parts ∙ ap (λ w. first.front ++ w) second.parts ∙ sym (append_assoc first.front second.front left);
    adds = second.adds ∙ ap (λ known. append_known known second.front) first.adds ∙ sym (append_known-append old first.front second.front);
  }

  -- a prefix of what waited, and of a further text, was written
  pub prefix_then : {new : Option (List ℕ)} (more : List ℕ) → AppendsFront now new (waiting ++ more) → AppendsFront old new (text ++ more)
  prefix_then more second = record {
    front = first.front ++ second.front;
    rest = second.rest;
    parts =
        ap (λ t. t ++ more) first.parts ∙ append_assoc first.front waiting more ∙ ap (λ w. first.front ++ w) second.parts
        ∙ sym (append_assoc first.front second.front second.rest);
    adds = second.adds ∙ ap (λ known. append_known known second.front) first.adds ∙ sym (append_known-append old first.front second.front);
  }

  -- all that waited was written
  pub written_all : {new : Option (List ℕ)} → new ≡ append_known now waiting → new ≡ append_known old text
  written_all whole =
      whole ∙ ap (λ known. append_known known waiting) first.adds ∙ sym (append_known-append old first.front waiting) ∙ ap (append_known old) (sym first.parts)

  -- a prefix of what waited was written
  pub written_prefix : {new : Option (List ℕ)} → AppendsFront now new waiting → AppendsFront old new text
  written_prefix second = record {
    front = first.front ++ second.front;
    rest = second.rest;
    parts = first.parts ∙ ap (λ w. first.front ++ w) second.parts ∙ sym (append_assoc first.front second.front second.rest);
    adds = second.adds ∙ ap (λ known. append_known known second.front) first.adds ∙ sym (append_known-append old first.front second.front);
  }
