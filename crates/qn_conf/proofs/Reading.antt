-- What the reader keeps of the lines that it has read.
use Rattle.std.proofs.Common.{◌≡◌, ℕ, ◌+◌, ◌-◌, ◌<◌, List, [], ◌∷◌, ◌++◌, length, take, drop, get_or, if◌then◌else◌, ◌==◌, Option, Some, None, Result, Ok, Err, refl, sym, ap, ◌∙◌, arith, length-append}
use Rattle.std.proofs.lemmas.List.{append-nil, take_more, drop_more, take_all, drop_all}
use Rattle.std.specs.Option.{option_map_or}
use Rattle.qn_conf.specs.declared.faults.ConfFault.{ConfFault}
use Rattle.qn_conf.specs.declared.faults.ConfFault.TheVariants.{BadLine, Unclosed, ExtraClose, TooDeep, NotText, TooLong, NoMemory}
use Rattle.qn_conf.specs.declared.tree.Item.{Item}
use Rattle.qn_conf.specs.declared.tree.Item.TheVariants.{Enter, Exit, Pair}
use Rattle.qn_conf.specs.declared.line.Meaning.{Meaning}
use Rattle.qn_conf.specs.declared.line.Meaning.TheVariants.{PassedOver, Says, Bad}
use Rattle.qn_conf.specs.Line.{item_in, meaning_of}
use Rattle.qn_conf.specs.Nesting.{begins, ends, is_begin, is_end, depth_after_all}
use Rattle.qn_conf.specs.Conf.{items_of, fault_in, fault_after, open_after, first_fault, tree_of, UnlessNoMemory}
use Rattle.qn_conf.proofs.NestingLemmas.{count_by-push, no_fault}
use Rattle.qn_conf.proofs.LineFaults.{items_of-push}
use borrow.Author.Tests.{eqb-false}

pub record HasRead (before : List (List ℕ)) (items : List Item) (depth number : ℕ) : Type 0 where
  pub items_are : items ≡ items_of before
  pub number_is : number ≡ length before
  pub balanced : depth + ends items ≡ begins items

-- the sections that stand open after an item without a fault
balanced_step :
    (items : List Item) (depth number : ℕ) (m : Meaning)
    → depth + ends items ≡ begins items
    → fault_in number depth m ≡ None
    → depth_after_all depth (item_in m) + ends (items ++ item_in m) ≡ begins (items ++ item_in m)
balanced_step items depth number PassedOver balanced e = rw append-nil balanced
balanced_step items depth number (Says (Enter name)) balanced e =
    omega (arith, count_by-push is_begin items (Enter name), count_by-push is_end items (Enter name))
balanced_step items depth number (Says Exit) balanced e =
    let apart = eqb-false _ _ (no_fault _ _ e)
    in omega (arith, count_by-push is_begin items Exit, count_by-push is_end items Exit)
balanced_step items depth number (Says (Pair key value)) balanced e =
    omega (arith, count_by-push is_begin items (Pair key value), count_by-push is_end items (Pair key value))
balanced_step items depth number Bad balanced e = cc

depth_is : (items : List Item) (depth : ℕ) → depth + ends items ≡ begins items → depth ≡ begins items - ends items
depth_is items depth balanced = omega arith

-- what the next line's fault is
pub fault_here :
    (before : List (List ℕ)) (items : List Item) (depth number : ℕ) (line : List ℕ)
    → HasRead before items depth number
    → fault_in (number + 1) depth (meaning_of line) ≡ fault_after before line
fault_here before items depth number line has =
    let open_is : depth ≡ open_after before = rw (has.items_are) at (depth_is items depth has.balanced)
    in rw (has.number_is, open_is) refl

pub HasRead-more :
    (before : List (List ℕ)) (items : List Item) (depth number : ℕ) (line : List ℕ)
    → HasRead before items depth number
    → fault_in (number + 1) depth (meaning_of line) ≡ None
    → HasRead (before ++ line ∷ []) (items ++ item_in (meaning_of line)) (depth_after_all depth (item_in (meaning_of line))) (number + 1)
HasRead-more before items depth number line has good =
    record {
      items_are = ap (λ front. front ++ item_in (meaning_of line)) has.items_are ∙ sym (items_of-push before line);
      number_is = simp length-append (omega (arith, has.number_is));
      balanced = balanced_step items depth (number + 1) (meaning_of line) has.balanced good;
    }

-- what an error of a line says of the first fault
pub failed :
    (S T : Type 0) (fault : ConfFault) (P : Type 0) (found : Option ConfFault) (tree : Result T ConfFault)
    → (P → found ≡ Some fault)
    → UnlessNoMemory {T = S} (Err fault) P
    → UnlessNoMemory {T = T} (Err fault) (Err fault ≡ option_map_or Err found tree)
failed S T (BadLine line) P found tree is e = rw (is e) refl
failed S T Unclosed P found tree is e = rw (is e) refl
failed S T (ExtraClose line) P found tree is e = rw (is e) refl
failed S T (TooDeep line) P found tree is e = rw (is e) refl
failed S T NotText P found tree is e = rw (is e) refl
failed S T TooLong P found tree is e = rw (is e) refl
failed S T NoMemory P found tree is e = tt

-- what holds of every answer
pub always : {T : Type 0} (answer : Result T ConfFault) (P : Type 0) → P → UnlessNoMemory answer P
always (Ok tree) P e = e
always (Err (BadLine line)) P e = e
always (Err Unclosed) P e = e
always (Err (ExtraClose line)) P e = e
always (Err (TooDeep line)) P e = e
always (Err NotText) P e = e
always (Err TooLong) P e = e
always (Err NoMemory) P e = tt

-- what follows from what is said of an answer
pub weaker :
    {T : Type 0} (answer : Result T ConfFault) (P Q : Type 0) → (P → Q) → UnlessNoMemory answer P → UnlessNoMemory answer Q
weaker (Ok tree) P Q f e = f e
weaker (Err (BadLine line)) P Q f e = f e
weaker (Err Unclosed) P Q f e = f e
weaker (Err (ExtraClose line)) P Q f e = f e
weaker (Err (TooDeep line)) P Q f e = f e
weaker (Err NotText) P Q f e = f e
weaker (Err TooLong) P Q f e = f e
weaker (Err NoMemory) P Q f e = tt

-- what is known once `place` lines of all were read
pub record HasReached (place : ℕ) (all : List (List ℕ)) (items : List Item) (depth number : ℕ) : Type 0 where
  pub has : HasRead (take place all) items depth number
  pub search : first_fault (take place all) (drop place all) ≡ first_fault [] all

-- the fault of the line at a place, from what the reader keeps
fault_there :
    (place : ℕ) (all : List (List ℕ)) (items : List Item) (depth number : ℕ) (line : List ℕ) (found : Option ConfFault)
    → HasReached place all items depth number
    → place < length all
    → line ≡ get_or all place line
    → fault_in (number + 1) depth (meaning_of line) ≡ found
    → (fault_after (take place all) line ≡ found) × (first_fault (take place all) (line ∷ drop (place + 1) all) ≡ first_fault [] all)
fault_there place all items depth number line found reached within is e =
    let rest : drop place all ≡ line ∷ drop (place + 1) all =
    drop_more all place line within ∙ ap (λ first. first ∷ drop (place + 1) all) (sym is)
    in (sym (fault_here (take place all) items depth number line reached.has) ∙ e, ap (first_fault (take place all)) (sym rest) ∙ reached.search)

found_none :
    (before after : List (List ℕ)) (line : List ℕ)
    → fault_after before line ≡ None
    → first_fault before (line ∷ after) ≡ first_fault (before ++ line ∷ []) after
found_none before after line e = rw e refl

found_some :
    (before after : List (List ℕ)) (line : List ℕ) (fault : ConfFault)
    → fault_after before line ≡ Some fault
    → first_fault before (line ∷ after) ≡ Some fault
found_some before after line fault e = rw e refl

-- a line without a fault leads to the next one
pub HasReached-more :
    (place : ℕ) (all : List (List ℕ)) (items : List Item) (depth number : ℕ) (line : List ℕ)
    → HasReached place all items depth number
    → place < length all
    → line ≡ get_or all place line
    → fault_in (number + 1) depth (meaning_of line) ≡ None
    → HasReached (place + 1) all (items ++ item_in (meaning_of line)) (depth_after_all depth (item_in (meaning_of line))) (number + 1)
HasReached-more place all items depth number line reached within is good =
    let more : take (place + 1) all ≡ take place all ++ line ∷ [] =
    take_more all place line within ∙ ap (λ last. take place all ++ last ∷ []) (sym is)
    in let there = fault_there place all items depth number line None reached within is good
    in record {
      has = rw more (HasRead-more (take place all) items depth number line reached.has good);
      search = rw more (sym (found_none (take place all) (drop (place + 1) all) line there.0) ∙ there.1);
    }

-- the fault of a line is the first of all
pub reached_fault :
    (place : ℕ) (all : List (List ℕ)) (items : List Item) (depth number : ℕ) (line : List ℕ) (fault : ConfFault)
    → HasReached place all items depth number
    → place < length all
    → line ≡ get_or all place line
    → fault_in (number + 1) depth (meaning_of line) ≡ Some fault
    → first_fault [] all ≡ Some fault
reached_fault place all items depth number line fault reached within is e =
    let there = fault_there place all items depth number line (Some fault) reached within is e
    in sym there.1 ∙ found_some (take place all) (drop (place + 1) all) line fault there.0

pub HasReached-none : (all : List (List ℕ)) → HasReached 0 all [] 0 0
HasReached-none all = record { has = record { items_are = refl; number_is = refl; balanced = refl }; search = refl }

-- at the end the tree stands on all lines
pub reached_all :
    (place : ℕ) (all : List (List ℕ)) (items : List Item) (depth number : ℕ)
    → HasReached place all items depth number
    → place ≡ length all
    → (if depth == 0 then Ok items else Err Unclosed) ≡ option_map_or Err (first_fault [] all) (tree_of all)
reached_all place all items depth number reached at_end =
    let front : take place all ≡ all = take_all place all (omega arith)
    in let rest : drop place all ≡ [] = drop_all place all (omega arith)
    in let has : HasRead all items depth number = rw front at reached.has
    in let none : first_fault [] all ≡ None = sym (rw (front, rest) at reached.search)
    in let open_is : depth ≡ open_after all = rw has.items_are at (depth_is items depth has.balanced)
    in rw (none, has.items_are, open_is) refl
