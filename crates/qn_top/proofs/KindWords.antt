-- A word of a kind is read as the message that it names.
use Rattle.std.proofs.Common.{◌≡◌, ℕ, Bool, true, false, List, Option, None, Some, IfSome, refl, sym}
use Rattle.std.specs.Str.{bytes_eq}
use Rattle.std.proofs.lemmas.Slice.Eq.{bytes_eq-Decides}
use Rattle.qn_model.specs.declared.disk.Message.{Message}
use Rattle.qn_model.specs.declared.disk.Message.TheVariants.{Empty, Test, Reset, Off, Exit, Crashdump}
use Rattle.qn_model.specs.Messages.{operator_word}
use Rattle.qn_top.specs.Words.{kind_named}

kind_named-operator_word : (message : Message) → kind_named (operator_word message) ≡ Some message
kind_named-operator_word Empty = refl
kind_named-operator_word Test = refl
kind_named-operator_word Reset = refl
kind_named-operator_word Off = refl
kind_named-operator_word Exit = refl
kind_named-operator_word Crashdump = refl

-- two texts that differ are not the same
differ : (word other : List ℕ) (same : Bool) → same ≡ bytes_eq word other → (word ≡ other → ⊥) → bytes_eq word other ≡ false
differ word other true is not = absurd (not ((bytes_eq-Decides word other).0 (sym is)))
differ word other false is not = sym is

unnamed : (word : List ℕ) → ((message : Message) → word ≡ operator_word message → ⊥) → kind_named word ≡ None
unnamed word none =
    let other : (message : Message) → bytes_eq word (operator_word message) ≡ false =
    λ message. differ word (operator_word message) (bytes_eq word (operator_word message)) refl (none message) in
    rw (other Empty, other Test, other Reset, other Off, other Exit, other Crashdump) refl

-- the message that the word names, where it names one
pub named_kind : (word : List ℕ) (result : Option Message) → IfSome result (λ message. word ≡ operator_word message)
    → ((message : Message) → word ≡ operator_word message → result ≡ Some message) → result ≡ kind_named word
named_kind word None named every =
    sym (unnamed word (λ message is. let found = every message is in cc))
named_kind word (Some message) named every = rw named (sym (kind_named-operator_word message))
