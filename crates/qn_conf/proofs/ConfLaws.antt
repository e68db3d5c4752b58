-- The tree of a text exactly where the text is a configuration, and a fault exactly where it is the first.
use Rattle.std.proofs.Common.{◌≡◌, ℕ, ◌<◌, ◌≤◌, ◌==◌, Bool, true, false, not, cond, if◌then◌else◌, List, [], length, get_or, Option, Some, None, Result, Ok, Err, refl, sym, ap, subst, ◌∙◌, ⊎_elim, arith}
use Rattle.std.specs.Prelude.{nat_lt, ◌↔◌, IsUtf8}
use Rattle.std.specs.Str.{is_utf8}
use Rattle.std.specs.Option.{option_map_or}
use Rattle.std.proofs.lemmas.Str.{IsUtf8-from_is_utf8, is_utf8-from_IsUtf8}
use Rattle.std.proofs.lemmas.List.{take_all}
use Rattle.std.proofs.lemmas.Bool.{cases_Bool, false≢true}
use borrow.Author.Tests.{ltb-true, ltb-false, lt-ltb, eqb-true, eqb-false, eq-eqb}
use Rattle.qn_conf.specs.declared.faults.ConfFault.{ConfFault}
use Rattle.qn_conf.specs.declared.faults.ConfFault.TheVariants.{BadLine, Unclosed, ExtraClose, TooDeep, NotText, TooLong, NoMemory}
use Rattle.qn_conf.specs.declared.tree.Item.{Item}
use Rattle.qn_conf.specs.declared.tree.Item.TheVariants.{Enter, Exit, Pair}
use Rattle.qn_conf.specs.declared.line.Meaning.{Meaning}
use Rattle.qn_conf.specs.declared.line.Meaning.TheVariants.{PassedOver, Says, Bad}
use Rattle.qn_conf.specs.Line.{meaning_of}
use Rattle.qn_conf.specs.Nesting.{IsNested, begins, ends}
use Rattle.qn_conf.specs.Conf.{Conf, IsFirstFault, IsFirstOfLines, IsText, conf_of, fault_at, fault_in, first_fault, items_of, lines, open_after, tree_of}
use Rattle.qn_conf.proofs.NestingLemmas.{eqb_differ, nested_whole}
use Rattle.qn_conf.proofs.LineFaults.{clear_all, first_found, first_of_lines, known_all, nested_upto, no_line, none_found}

-- the answer, from its three tests
abbrev judged : Bool → Bool → Option ConfFault → Result (List Item) ConfFault → Result (List Item) ConfFault
judged long utf8 found tree =
    if long then Err TooLong else if not utf8 then Err NotText else option_map_or Err found tree

abbrev ended_tree : Bool → List Item → Result (List Item) ConfFault
ended_tree ended items = if ended then Ok items else Err Unclosed

conf_of_is :
    (text : List ℕ)
    → conf_of text ≡ judged (nat_lt 1048576 (length text)) (is_utf8 text) (first_fault [] (lines text)) (tree_of (lines text))
unfolding conf_of
conf_of_is text = refl

record GivesTree (long utf8 : Bool) (found : Option ConfFault) (ended : Bool) (items tree : List Item) : Type 0 where
  fits : long ≡ false
  text : utf8 ≡ true
  clear : found ≡ None
  closed : ended ≡ true
  same : items ≡ tree

gives_tree :
    (long utf8 : Bool) (found : Option ConfFault) (ended : Bool) (items tree : List Item)
    → judged long utf8 found (ended_tree ended items) ≡ Ok tree
    → GivesTree long utf8 found ended items tree
gives_tree true utf8 found ended items tree e = cc
gives_tree false false found ended items tree e = cc
gives_tree false true (Some fault) ended items tree e = cc
gives_tree false true None false items tree e = cc
gives_tree false true None true items tree e =
    record { fits = refl; text = refl; clear = refl; closed = refl; same = cc }

-- why an answer is a fault
data WhyFault (long utf8 : Bool) (found : Option ConfFault) (ended : Bool) (fault : ConfFault) : Type 0 where
  by_length : long ≡ true → fault ≡ TooLong → WhyFault long utf8 found ended fault
  by_bytes : long ≡ false → utf8 ≡ false → fault ≡ NotText → WhyFault long utf8 found ended fault
  by_line : long ≡ false → utf8 ≡ true → found ≡ Some fault → WhyFault long utf8 found ended fault
  by_end : long ≡ false → utf8 ≡ true → found ≡ None → ended ≡ false → fault ≡ Unclosed → WhyFault long utf8 found ended fault

why_fault :
    (long utf8 : Bool) (found : Option ConfFault) (ended : Bool) (items : List Item) (fault : ConfFault)
    → judged long utf8 found (ended_tree ended items) ≡ Err fault
    → WhyFault long utf8 found ended fault
why_fault true utf8 found ended items fault e = by_length refl (cc)
why_fault false false found ended items fault e = by_bytes refl refl (cc)
why_fault false true (Some own) ended items fault e = by_line refl refl (cc)
why_fault false true None false items fault e = by_end refl refl refl refl (cc)
why_fault false true None true items fault e = cc

-- the sections are nested where no line has a fault
nested_all :
    (lines : List (List ℕ)) → ((k : ℕ) → k < length lines → fault_at lines k ≡ None) → IsNested (items_of lines)
nested_all lines clear =
    let P : List (List ℕ) → Type 0 = λ front. IsNested (items_of front)
    in subst P (take_all (length lines) lines (omega arith)) (nested_upto lines clear (length lines) (omega arith))

pub conf-from_tree : (text : List ℕ) (tree : List Item) → conf_of text ≡ Ok tree → Conf text tree
conf-from_tree text tree e =
    let g = gives_tree (nat_lt 1048576 (length text)) (is_utf8 text) (first_fault [] (lines text)) (open_after (lines text) == 0) (items_of (lines text)) tree (sym (conf_of_is text) ∙ e)
    in let clear = no_line (lines text) g.clear
    in let nested = nested_all (lines text) clear
    in let whole = nested_whole (items_of (lines text)) nested
    in let none = eqb-true (open_after (lines text)) 0 g.closed
    in let P : List Item → Type 0 = IsNested
    in let E : List Item → Type 0 = λ items. ends items ≡ begins items
    in record {
      fits = ltb-false 1048576 (length text) g.fits;
      utf8 = IsUtf8-from_is_utf8 text g.text;
      known = known_all (lines text) clear;
      items = sym g.same;
      nested = subst P g.same nested;
      ended = subst E g.same (omega arith);
    }

tree_when :
    (long utf8 : Bool) (found : Option ConfFault) (ended : Bool) (items : List Item)
    → long ≡ false → utf8 ≡ true → found ≡ None → ended ≡ true
    → judged long utf8 found (ended_tree ended items) ≡ Ok items
tree_when long utf8 found ended items a b c d = rw (a, b, c, d) refl

short_text : (text : List ℕ) → length text ≤ 1048576 → nat_lt 1048576 (length text) ≡ false
short_text text fits =
    ⊎_elim (λ (t : nat_lt 1048576 (length text) ≡ true). let more = ltb-true 1048576 (length text) t in absurd (omega arith))
    (λ (f : nat_lt 1048576 (length text) ≡ false). f)
    (cases_Bool (nat_lt 1048576 (length text)))

pub tree-from_conf : (text : List ℕ) (tree : List Item) → Conf text tree → conf_of text ≡ Ok tree
tree-from_conf text tree conf =
    let P : List Item → Type 0 = IsNested
    in let E : List Item → Type 0 = λ items. ends items ≡ begins items
    in let ended = subst E conf.items conf.ended
    in let nested = subst P conf.items conf.nested
    in conf_of_is text
    ∙ tree_when (nat_lt 1048576 (length text)) (is_utf8 text) (first_fault [] (lines text)) (open_after (lines text) == 0) (items_of (lines text))
    (short_text text conf.fits)
    (is_utf8-from_IsUtf8 text conf.utf8)
    (none_found (lines text) (clear_all (lines text) conf.known nested))
    (eq-eqb (open_after (lines text)) 0 (omega arith))
    ∙ ap (λ items. Ok items) (sym conf.items)

-- the faults that a line can have
abbrev IsOfLine : ConfFault → Type 0
IsOfLine (BadLine line) = Unit {0}
IsOfLine (ExtraClose line) = Unit {0}
IsOfLine (TooDeep line) = Unit {0}
IsOfLine fault = ⊥

of_test : (b : Bool) (own fault : ConfFault) → IsOfLine own → cond b (Some own) None ≡ Some fault → IsOfLine fault
of_test true own fault is e = let same : own ≡ fault = cc in subst IsOfLine same is
of_test false own fault is e = cc

of_line :
    (number depth : ℕ) (m : Meaning) (fault : ConfFault) → fault_in number depth m ≡ Some fault → IsOfLine fault
of_line number depth PassedOver fault e = cc
of_line number depth (Says (Enter name)) fault e = of_test (depth == 4) (TooDeep number) fault tt e
of_line number depth (Says Exit) fault e = of_test (depth == 0) (ExtraClose number) fault tt e
of_line number depth (Says (Pair key value)) fault e = cc
of_line number depth Bad fault e = let same : BadLine number ≡ fault = cc in subst IsOfLine same tt

line_is_first :
    (text : List ℕ) (fault : ConfFault)
    → IsOfLine fault → IsText text → IsFirstOfLines (lines text) fault → IsFirstFault text fault
line_is_first text (BadLine line) is utf8 first = (utf8, first)
line_is_first text (ExtraClose line) is utf8 first = (utf8, first)
line_is_first text (TooDeep line) is utf8 first = (utf8, first)
line_is_first text Unclosed is utf8 first = absurd is
line_is_first text NotText is utf8 first = absurd is
line_is_first text TooLong is utf8 first = absurd is
line_is_first text NoMemory is utf8 first = absurd is

not_utf8 : (text : List ℕ) → is_utf8 text ≡ false → IsUtf8 text → ⊥
not_utf8 text refused is = false≢true (sym refused ∙ is_utf8-from_IsUtf8 text is)

line_first :
    (text : List ℕ) (fault : ConfFault)
    → length text ≤ 1048576 → IsUtf8 text → first_fault [] (lines text) ≡ Some fault → IsFirstFault text fault
line_first text fault fits utf8 found =
    let first = first_of_lines (lines text) fault found
    in line_is_first text fault (of_line _ _ (meaning_of (get_or (lines text) first.place [])) fault first.here) (fits, utf8) first

unclosed_first :
    (text : List ℕ)
    → length text ≤ 1048576 → IsUtf8 text → first_fault [] (lines text) ≡ None → (open_after (lines text) == 0) ≡ false
    → IsFirstFault text Unclosed
unclosed_first text fits utf8 none left =
    let apart = eqb-false (open_after (lines text)) 0 left
    in ((fits, utf8), no_line (lines text) none, λ same. apart (omega arith))

pub first-from_fault : (text : List ℕ) (fault : ConfFault) → conf_of text ≡ Err fault → IsFirstFault text fault
first-from_fault text fault e =
    elim (why_fault (nat_lt 1048576 (length text)) (is_utf8 text) (first_fault [] (lines text)) (open_after (lines text) == 0) (items_of (lines text)) fault (sym (conf_of_is text) ∙ e)) [
      | by_length long is ↦ subst (IsFirstFault text) (sym is) (ltb-true 1048576 (length text) long)
      | by_bytes fits refused is ↦ subst (IsFirstFault text) (sym is) (ltb-false 1048576 (length text) fits, not_utf8 text refused)
      | by_line fits utf8 found ↦ line_first text fault (ltb-false 1048576 (length text) fits) (IsUtf8-from_is_utf8 text utf8) found
      | by_end fits utf8 clear left is ↦ subst (IsFirstFault text) (sym is) (unclosed_first text (ltb-false 1048576 (length text) fits) (IsUtf8-from_is_utf8 text utf8) clear left)
    ]

fault_when :
    (long utf8 : Bool) (found : Option ConfFault) (tree : Result (List Item) ConfFault) (fault : ConfFault)
    → long ≡ false → utf8 ≡ true → found ≡ Some fault → judged long utf8 found tree ≡ Err fault
fault_when long utf8 found tree fault a b c = rw (a, b, c) refl

fault-from_line :
    (text : List ℕ) (fault : ConfFault) → IsText text → IsFirstOfLines (lines text) fault → conf_of text ≡ Err fault
fault-from_line text fault is first =
    conf_of_is text
    ∙ fault_when (nat_lt 1048576 (length text)) (is_utf8 text) (first_fault [] (lines text)) (tree_of (lines text)) fault
    (short_text text is.0) (is_utf8-from_IsUtf8 text is.1) (first_found (lines text) fault first)

no_utf8 : (text : List ℕ) → ¬ (IsUtf8 text) → is_utf8 text ≡ false
no_utf8 text refused =
    ⊎_elim (λ (t : is_utf8 text ≡ true). absurd (refused (IsUtf8-from_is_utf8 text t)))
    (λ (f : is_utf8 text ≡ false). f)
    (cases_Bool (is_utf8 text))

long_when :
    (long utf8 : Bool) (found : Option ConfFault) (tree : Result (List Item) ConfFault)
    → long ≡ true → judged long utf8 found tree ≡ Err TooLong
long_when long utf8 found tree a = rw a refl

not_when :
    (long utf8 : Bool) (found : Option ConfFault) (tree : Result (List Item) ConfFault)
    → long ≡ false → utf8 ≡ false → judged long utf8 found tree ≡ Err NotText
not_when long utf8 found tree a b = rw (a, b) refl

unclosed_when :
    (long utf8 : Bool) (found : Option ConfFault) (ended : Bool) (items : List Item)
    → long ≡ false → utf8 ≡ true → found ≡ None → ended ≡ false
    → judged long utf8 found (ended_tree ended items) ≡ Err Unclosed
unclosed_when long utf8 found ended items a b c d = rw (a, b, c, d) refl

pub fault-from_first : (text : List ℕ) (fault : ConfFault) → IsFirstFault text fault → conf_of text ≡ Err fault
fault-from_first text TooLong first =
    conf_of_is text ∙ long_when (nat_lt 1048576 (length text)) (is_utf8 text) (first_fault [] (lines text)) (tree_of (lines text)) (lt-ltb 1048576 (length text) first)
fault-from_first text NotText first =
    conf_of_is text
    ∙ not_when (nat_lt 1048576 (length text)) (is_utf8 text) (first_fault [] (lines text)) (tree_of (lines text)) (short_text text first.0) (no_utf8 text first.1)
fault-from_first text (BadLine line) first = fault-from_line text (BadLine line) first.0 first.1
fault-from_first text (ExtraClose line) first = fault-from_line text (ExtraClose line) first.0 first.1
fault-from_first text (TooDeep line) first = fault-from_line text (TooDeep line) first.0 first.1
fault-from_first text Unclosed first =
    let whole = nested_whole (items_of (lines text)) (nested_all (lines text) first.1)
    in conf_of_is text
    ∙ unclosed_when (nat_lt 1048576 (length text)) (is_utf8 text) (first_fault [] (lines text)) (open_after (lines text) == 0) (items_of (lines text))
    (short_text text first.0.0) (is_utf8-from_IsUtf8 text first.0.1) (none_found (lines text) first.1)
    (eqb_differ (open_after (lines text)) 0 (λ none. first.2 (omega arith)))
fault-from_first text NoMemory first = absurd first

text_when :
    (long utf8 : Bool) (found : Option ConfFault) (tree : Result (List Item) ConfFault)
    → long ≡ false → utf8 ≡ true → judged long utf8 found tree ≡ option_map_or Err found tree
text_when long utf8 found tree a b = rw (a, b) refl

-- the clauses of a reader that answers `conf_of`
pub tree_exactly :
    (answer : Result (List Item) ConfFault) (text : List ℕ)
    → answer ≡ conf_of text → (tree : List Item) → (answer ≡ Ok tree) ↔ Conf text tree
tree_exactly answer text is tree =
    (λ e. conf-from_tree text tree (sym is ∙ e), λ conf. is ∙ tree-from_conf text tree conf)

pub fault_exactly :
    (answer : Result (List Item) ConfFault) (text : List ℕ)
    → answer ≡ conf_of text → (fault : ConfFault) → (answer ≡ Err fault) ↔ IsFirstFault text fault
fault_exactly answer text is fault =
    (λ e. first-from_fault text fault (sym is ∙ e), λ first. is ∙ fault-from_first text fault first)

pub long_answer : (text : List ℕ) → 1048576 < length text → Err TooLong ≡ conf_of text
long_answer text long = sym (fault-from_first text TooLong long)

pub not_text_answer : (text : List ℕ) → length text ≤ 1048576 → ¬ (IsUtf8 text) → Err NotText ≡ conf_of text
not_text_answer text fits refused = sym (fault-from_first text NotText (fits, refused))

pub lines_answer :
    (answer : Result (List Item) ConfFault) (text : List ℕ)
    → length text ≤ 1048576 → IsUtf8 text
    → answer ≡ option_map_or Err (first_fault [] (lines text)) (tree_of (lines text)) → answer ≡ conf_of text
lines_answer answer text fits utf8 is =
    is ∙ sym (conf_of_is text ∙ text_when (nat_lt 1048576 (length text)) (is_utf8 text) (first_fault [] (lines text)) (tree_of (lines text)) (short_text text fits) (is_utf8-from_IsUtf8 text utf8))
