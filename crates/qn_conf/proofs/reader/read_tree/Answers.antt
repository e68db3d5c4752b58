use Rattle.std.proofs.Common.{◌≡◌, Result, Ok, Err, true, false}
use Rattle.std.specs.Result.{MatchResult, is_err}
use Rattle.qn_conf.proofs.ConfLaws.{fault_exactly, lines_answer, long_answer, not_text_answer, tree_exactly}
use Rattle.qn_conf.proofs.Reading.{weaker}
use Rattle.qn_conf.proofs.reader.read_tree.Goals as goal

refused :
    {T E : Type 0} (read : Result T E) (P : T → Type 0) (Q : Type 0) (R : E → Type 0)
    → is_err read ≡ true → MatchResult read P (λ e. Q × R e) → Q
refused (Ok text) P Q R e cases = cc
refused (Err fault) P Q R e cases = cases.0

accepted :
    {T E : Type 0} (read : Result T E) (P : T → Type 0) (Q : Type 0) (R : E → Type 0)
    → is_err read ≡ false → MatchResult read (λ t. P t × Q) R → Q
accepted (Ok text) P Q R e cases = cases.1
accepted (Err fault) P Q R e cases = cc

pub returns-then-text-gt-MOST_TEXT_BYTES : goal.returns-then-text-gt-MOST_TEXT_BYTES
returns-then-text-gt-MOST_TEXT_BYTES c =
    let is = long_answer c.args.text.now c.if-text-gt-MOST_TEXT_BYTES.true
    in record { tree = tree_exactly _ _ is; fault = fault_exactly _ _ is; answer = is }

pub returns-then-is_err : goal.returns-then-is_err
returns-then-is_err c =
    let is = not_text_answer c.args.text.now c.if-text-gt-MOST_TEXT_BYTES.false (refused c.from_utf8.result _ _ _ (cc) c.from_utf8.ensures.cases)
    in record { tree = tree_exactly _ _ is; fault = fault_exactly _ _ is; answer = is }

pub returns : goal.returns
returns c =
    let utf8 = accepted c.from_utf8.result _ _ _ (cc) c.from_utf8.ensures.cases
    in let answer = weaker _ _ _ (lines_answer c.read_lines.result c.args.text.now c.if-text-gt-MOST_TEXT_BYTES.false utf8) c.read_lines.ensures
    in record {
      tree = weaker _ _ _ (tree_exactly _ _) answer;
      fault = weaker _ _ _ (fault_exactly _ _) answer;
      answer = answer;
    }
