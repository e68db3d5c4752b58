-- The log of a run audits as whole, and each prefix of it that ends at the end of a line as prefix.
use Rattle.std.proofs.Common.{◌≡◌, ◌≢◌, ◌<◌, ◌≤◌, ◌+◌, ◌^◌, ◌==◌, inl, inr, ℕ, Bool, true, false, List, [], ◌∷◌, ◌++◌, Option, Ok, length, lit<, refl, ◌∙◌, subst, arith, ne_eqb}
use Rattle.std.specs.Prelude.{codes, decimal}
use Rattle.std.specs.List.{list_any}
use Rattle.std.proofs.lemmas.Bool.{cases_eq}
use Rattle.std.proofs.lemmas.Fmt.{length-decimal-le}
use Rattle.std.proofs.lemmas.List.{length-append}
use Rattle.std.proofs.lemmas.List.Elements.{All-append, All-nil}
use Rattle.hex.specs.Hex.{IsBytes, encode_lower, is_hex_digit, lower_digits}
use Rattle.hex.proofs.HexLemmas.{length-encode_with}
use Rattle.qn_base.specs.declared.calls.Call.{Call}
use Rattle.qn_base.specs.declared.calls.Call.TheVariants as call
use Rattle.qn_base.specs.declared.calls.Received.{Received}
use Rattle.qn_base.specs.declared.calls.Received.TheVariants as received
use Rattle.qn_base.specs.Plans.{Follows, Plan, question}
use Rattle.qn_live.specs.Running.{Ran}
use Rattle.qn_model.specs.LineLaws.{IsPartOfLine}
use Rattle.qn_model.specs.Lines.{Ended}
use Rattle.qn_sched.specs.WrittenNumbers.{decimal_without}
use Rattle.qn_audit.specs.declared.audit_end.AuditEnd.TheVariants.{Prefix, Whole}
use Rattle.qn_audit.specs.Auditing.{LogEnds, Next, Standing, after_call, at_first, call_at, is_now, over_or_not, turns_in}
use Rattle.qn_audit.specs.Deciding.{input_of}
use Rattle.qn_audit.specs.Judging.{Keeps, left_after}
use Rattle.qn_audit.specs.JudgeLaws.{follows_whole, front_is_prefix}
use Rattle.qn_audit.specs.Logs.{AreRecorded, HasReceivedBytes, IsRecorded, IsSoundRead, IsSoundReceived, bytes_text, call_line, log_text, ok_text, read_text, received_text}
use Rattle.qn_audit.proofs.Digits.{digits_of-ok}
use Rattle.qn_audit.proofs.LogSteps.{call_at-within, ends_last, ends_line}
use Rattle.qn_audit.proofs.OneWords.{none_passes}
use Rattle.qn_audit.proofs.ReadBack.{digits_back, reads_back}

-- ---- each line is one line, and short

-- a text of at most so many bytes without the end of a line
abbrev Fits : ℕ → List ℕ → Type 0
Fits most text = IsPartOfLine text × (length text ≤ most)

fits_then : (a b most : ℕ) (text more : List ℕ) → Fits a text → Fits b more → a + b ≤ most → Fits most (text ++ more)
fits_then a b most text more first second within =
    (All-append (λ byte. (byte == 10) ≡ false) text more first.0 second.0, omega (arith, length-append text more, first.1, second.1, within))

fits_word : (most : ℕ) (text : List ℕ) → list_any (λ byte. byte == 10) text ≡ false → length text ≤ most → Fits most text
fits_word most text none short = (none_passes (λ byte. byte == 10) text none, short)

fits_number : (n : ℕ) → n < 2 ^ 64 → Fits 20 (decimal n)
fits_number n small = (decimal_without 10 (inl (omega arith)) n small, length-decimal-le 20 n (lit< tt) (omega arith) small)

digit_no_end : (digit : ℕ) → is_hex_digit digit ≡ true → (digit == 10) ≡ false
digit_no_end digit is = elim (cases_eq digit 10) [
  | inl same ↦ absurd (let here : is_hex_digit 10 ≡ true = rw same at is in cc)
  | inr other ↦ ne_eqb digit 10 other
]

fits_bytes : (bytes : List ℕ) → IsBytes bytes → length bytes ≤ 512 → Fits 1024 (bytes_text bytes)
fits_bytes [] all few = fits_word 1024 (codes "-") refl (omega arith)
fits_bytes (first ∷ bytes) all few =
    let spelled = digits_of-ok (encode_lower (first ∷ bytes)) (first ∷ bytes) (digits_back first bytes all few) in
    (λ k d within. digit_no_end _ (spelled.digits k d within), omega (arith, length-encode_with lower_digits (first ∷ bytes), few))

fits_ok : (ok : Bool) → Fits 6 (ok_text ok)
fits_ok true = fits_word 6 (codes "ok") refl (omega arith)
fits_ok false = fits_word 6 (codes "failed") refl (omega arith)

fits_received : (got : Received) → IsSoundReceived got → HasReceivedBytes got → Fits 1024 (received_text got)
fits_received (received.Packet bytes) few all = fits_bytes bytes all (omega (arith, few))
fits_received received.Nothing few all = fits_word 1024 (codes "nothing") refl (omega arith)
fits_received received.Failed few all = fits_word 1024 (codes "failed") refl (omega arith)

fits_read : (bytes : List ℕ) (ok : Bool) → IsSoundRead bytes ok → IsBytes bytes → Fits 1024 (read_text bytes ok)
fits_read bytes true whole all = fits_bytes bytes all (omega (arith, whole))
fits_read bytes false whole all = fits_word 1024 (codes "failed") refl (omega arith)

fits_space : Fits 1 (codes " ")
fits_space = fits_word 1 (codes " ") refl (omega arith)

-- a word and a number
fits_numbered : (word : List ℕ) (number : ℕ) → list_any (λ byte. byte == 10) word ≡ false → length word ≤ 8 → number < 2 ^ 64 → Fits 30 (word ++ decimal number ++ codes " ")
fits_numbered word number none short small =
    fits_then 28 1 30 (word ++ decimal number) (codes " ")
    (fits_then 8 20 28 word (decimal number) (fits_word 8 word none short) (fits_number number small) (omega arith)) fits_space (omega arith)

-- a word, a number, bytes and an answer
fits_sent : (word : List ℕ) (number : ℕ) (bytes : List ℕ) (ok : Bool) → list_any (λ byte. byte == 10) word ≡ false → length word ≤ 8 → number < 2 ^ 64 → IsBytes bytes
    → length bytes ≤ 512 → Fits 4096 (word ++ decimal number ++ codes " " ++ bytes_text bytes ++ codes " " ++ ok_text ok)
fits_sent word number bytes ok none short small all few =
    fits_then 1100 6 4096 (word ++ decimal number ++ codes " " ++ bytes_text bytes ++ codes " ") (ok_text ok)
    (fits_then 1090 1 1100 (word ++ decimal number ++ codes " " ++ bytes_text bytes) (codes " ")
    (fits_then 30 1024 1090 (word ++ decimal number ++ codes " ") (bytes_text bytes) (fits_numbered word number none short small) (fits_bytes bytes all few) (omega arith))
    fits_space (omega arith)) (fits_ok ok) (omega arith)

fits_device : (word : List ℕ) (ok : Bool) → list_any (λ byte. byte == 10) word ≡ false → length word ≤ 8 → Fits 4096 (word ++ ok_text ok)
fits_device word ok none short = fits_then 8 6 4096 word (ok_text ok) (fits_word 8 word none short) (fits_ok ok) (omega arith)

fits_line : (call : Call) → IsRecorded call → Fits 4096 (call_line call)
unfolding call_line
fits_line (call.OpenImage path ok) recorded = absurd recorded.0
fits_line (call.OpenNode images image watchdog resource port rank ok) recorded = absurd recorded.0
fits_line (call.Now tick) recorded = fits_then 8 20 4096 (codes "now ") (decimal tick) (fits_word 8 (codes "now ") refl (omega arith)) (fits_number tick recorded.1) (omega arith)
fits_line (call.Receive got) recorded =
    fits_then 8 1024 4096 (codes "receive ") (received_text got) (fits_word 8 (codes "receive ") refl (omega arith)) (fits_received got recorded.0 recorded.1) (omega arith)
fits_line (call.Read sector bytes ok) recorded =
    fits_then 30 1024 4096 (codes "read " ++ decimal sector ++ codes " ") (read_text bytes ok)
    (fits_numbered (codes "read ") sector refl (omega arith) (let fits = recorded.1.0 in omega arith)) (fits_read bytes ok recorded.0 recorded.1.1) (omega arith)
fits_line (call.Write sector bytes ok) recorded =
    fits_sent (codes "write ") sector bytes ok refl (omega arith) (let fits = recorded.1.0 in omega arith) recorded.1.1 (let whole = recorded.0 in omega arith)
fits_line (call.Feed ok) recorded = fits_device (codes "feed ") ok refl (omega arith)
fits_line (call.Start ok) recorded = fits_device (codes "start ") ok refl (omega arith)
fits_line (call.Stop ok) recorded = fits_device (codes "stop ") ok refl (omega arith)
fits_line (call.Send to bytes ok) recorded =
    fits_sent (codes "send ") to.0 bytes ok refl (omega arith) (let node = recorded.0.0 in omega arith) recorded.1 (let few = recorded.0.1 in omega arith)
fits_line (call.Disarm ok) recorded = fits_device (codes "disarm ") ok refl (omega arith)
fits_line (call.Halt code) recorded =
    fits_then 8 20 4096 (codes "halt ") (decimal code) (fits_word 8 (codes "halt ") refl (omega arith)) (fits_number code (let fits = recorded.1 in omega arith)) (omega arith)

-- ---- the whole log

turns_first : (first : Call) (calls : List Call) (test : Bool) → is_now first ≡ test → turns_in (first ∷ calls) ≡ turns_in (first ∷ []) + turns_in calls
turns_first first calls true is = rw is (omega arith)
turns_first first calls false is = rw is (omega arith)

-- calls that a run asks for are read back one after the other, and what is left of the run decides the end
logs_end : (at : Standing) (calls : List Call) → AreRecorded calls → Keeps at.plan calls → at.lines + length calls ≤ 2000000
    → LogEnds at (over_or_not (question (left_after at.plan calls)) (at.turns + turns_in calls)) (input_of Ended (log_text calls))
logs_end at [] recorded kept few =
    let end = over_or_not (question at.plan) at.turns in
    let same : at.turns + 0 ≡ at.turns = omega arith in
    rw same (ends_last end at Ended [] (All-nil (λ byte. (byte == 10) ≡ false)) (omega arith) refl)
logs_end at (call ∷ calls) recorded kept few =
    let fits = fits_line call recorded.0 in
    let end = over_or_not (question (left_after at.plan (call ∷ calls))) (at.turns + turns_in (call ∷ calls)) in
    let few_lines : at.lines ≢ 2000000 = λ many. omega arith in
    let says : call_at at.lines (call_line call) ≡ Ok call = call_at-within at.lines (call_line call) fits.1 few_lines ∙ reads_back call recorded.0 in
    let more : at.turns + turns_in (call ∷ []) + turns_in calls ≡ at.turns + turns_in (call ∷ calls) = omega (arith, turns_first call calls (is_now call) refl) in
    let rest : LogEnds (after_call at call) end (input_of Ended (log_text calls)) =
    subst (λ (turns : ℕ). LogEnds (after_call at call) (over_or_not (question (left_after at.plan (call ∷ calls))) turns) (input_of Ended (log_text calls))) more
    (logs_end (after_call at call) calls recorded.1 kept.1 (omega arith)) in
    ends_line end at Ended (call_line call) (log_text calls) fits.0 (Next call says kept.0 rest)

module _ (plan : Plan Ran) (head : ℕ) where
  -- the log of a run
  pub whole_log : (calls : List Call) (ran : Ran) → AreRecorded calls → Follows plan calls ran → length calls ≤ 2000000
      → LogEnds (at_first plan head) (Whole (turns_in calls)) (input_of Ended (log_text calls))
  whole_log calls ran recorded follows few =
      let whole = follows_whole plan calls ran follows in
      let turns : 0 + turns_in calls ≡ turns_in calls = omega arith in
      subst (λ (turns : ℕ). LogEnds (at_first plan head) (Whole turns) (input_of Ended (log_text calls))) turns
      (subst (λ (asked : Option Call). LogEnds (at_first plan head) (over_or_not asked (0 + turns_in calls)) (input_of Ended (log_text calls))) whole.1
      (logs_end (at_first plan head) calls recorded whole.0 (omega (arith, few))))

  -- the first lines of it
  pub front_log : (front : List Call) (call : Call) (more : List Call) (ran : Ran) → AreRecorded front → Follows plan (front ++ call ∷ more) ran → length front ≤ 2000000
      → LogEnds (at_first plan head) (Prefix (turns_in front)) (input_of Ended (log_text front))
  front_log front call more ran recorded follows few =
      let prefix = front_is_prefix plan front call more ran follows in
      let turns : 0 + turns_in front ≡ turns_in front = omega arith in
      subst (λ (turns : ℕ). LogEnds (at_first plan head) (Prefix turns) (input_of Ended (log_text front))) turns
      (subst (λ (asked : Option Call). LogEnds (at_first plan head) (over_or_not asked (0 + turns_in front)) (input_of Ended (log_text front))) prefix.1.1
      (logs_end (at_first plan head) front recorded prefix.0 (omega (arith, few))))

-- recorded calls, and the first of them
pub recorded_front : (front more : List Call) → AreRecorded (front ++ more) → AreRecorded front
recorded_front [] more recorded = tt
recorded_front (first ∷ front) more recorded = (recorded.0, recorded_front front more recorded.1)
