-- The settings text of an input, line by line and byte by byte.
use Rattle.std.proofs.Common.{◌≡◌, ◌+◌, ◌<◌, ◌≤◌, ℕ, true, false, cond, List, [], ◌∷◌, ◌++◌, length, drop, refl, sym, ap, ◌∙◌, arith, nat_eq, nat_lt, if◌then◌else◌, inl, inr, append_assoc, append-nil, lt-ltb, le-ltb, Err}
use Rattle.std.specs.List.{starts_with}
use Rattle.std.specs.Str.{bytes_eq}
use Rattle.std.proofs.lemmas.Bool.{cases_Bool, cond-false, cond-true, false_from_ne_true, both_ways}
use Rattle.std.proofs.lemmas.Bool.Decides.{Decides-eqb}
use Rattle.std.proofs.lemmas.List.{length-append}
use Rattle.std.proofs.lemmas.Slice.Eq.{bytes_eq-Decides, starts_is}
use Rattle.qn_conf.specs.declared.faults.ConfFault.TheVariants as conf
use Rattle.qn_model.specs.LineLaws.{IsPartOfLine, first_line, lines_of-last, lines_of-line, lines_of-some}
use Rattle.qn_model.specs.Lines.{Ending, lines_of}
use Rattle.qn_sched.specs.declared.replay_end.ReplayEnd.TheVariants.{BadConf}
use Rattle.qn_sched.specs.Head.{dashes}
use Rattle.qn_playback.specs.declared.settings_head.SettingsHead.{SettingsHead}
use Rattle.qn_playback.specs.Heads.{counted_bytes, cut, last_of_text, text_given, text_lines}
use Rattle.qn_playback.specs.Parts.{Given}
use Rattle.qn_playback.specs.Texts.{TextSoFar, text_rest, whole_text, with_end}

-- what a whole line makes of the settings text
abbrev line_of_text : List ℕ → ℕ → Ending → List ℕ → List (List ℕ) → Given SettingsHead
line_of_text text before ending line lines =
    if bytes_eq line dashes then text_given text (before + 1) lines
    else if nat_lt 1048576 (length (text ++ line ++ 10 ∷ [])) then Err (BadConf conf.TooLong)
    else text_lines (text ++ line ++ 10 ∷ []) (before + 1) ending lines

text_lines-more : (text : List ℕ) (before : ℕ) (ending : Ending) (line : List ℕ) (lines : List (List ℕ)) → 0 < length lines
    → text_lines text before ending (line ∷ lines) ≡ line_of_text text before ending line lines
text_lines-more text before ending line [] some = absurd (omega arith)
text_lines-more text before ending line (next ∷ lines) some = refl

-- the next line is ended
text_rest-ended : (text : TextSoFar) (ending : Ending) (more : List ℕ) → IsPartOfLine text.rest
    → text_rest text ending (10 ∷ more) ≡ line_of_text text.whole text.lines ending text.rest (lines_of more)
text_rest-ended text ending more inside =
    ap (text_lines text.whole text.lines ending) (lines_of-line text.rest more inside)
    ∙ text_lines-more text.whole text.lines ending text.rest (lines_of more) (lines_of-some more)

-- the next line is `----`
pub text_rest-dashes : (text : TextSoFar) (ending : Ending) (more : List ℕ) → IsPartOfLine text.rest → bytes_eq text.rest dashes ≡ true
    → text_rest text ending (10 ∷ more) ≡ whole_text text.whole text.lines ending more
text_rest-dashes text ending more inside is = text_rest-ended text ending more inside ∙ cond-true (bytes_eq text.rest dashes) _ _ is

-- the next line belongs to the text
pub text_rest-line : (text : TextSoFar) (ending : Ending) (more : List ℕ) → IsPartOfLine text.rest → bytes_eq text.rest dashes ≡ false
    → length (with_end text).whole ≤ 1048576 → text_rest text ending (10 ∷ more) ≡ text_rest (with_end text) ending more
text_rest-line text ending more inside other fits =
    text_rest-ended text ending more inside ∙ cond-false (bytes_eq text.rest dashes) _ _ other
    ∙ cond-false (nat_lt 1048576 (length (with_end text).whole)) _ _ (le-ltb 1048576 (length (with_end text).whole) fits)

-- the next line makes the text too long
pub text_rest-full : (text : TextSoFar) (ending : Ending) (more : List ℕ) → IsPartOfLine text.rest → bytes_eq text.rest dashes ≡ false
    → 1048576 < length (with_end text).whole → text_rest text ending (10 ∷ more) ≡ Err (BadConf conf.TooLong)
text_rest-full text ending more inside other full =
    text_rest-ended text ending more inside ∙ cond-false (bytes_eq text.rest dashes) _ _ other
    ∙ cond-true (nat_lt 1048576 (length (with_end text).whole)) _ _ (lt-ltb 1048576 (length (with_end text).whole) full)

-- the whole lines are always counted
pub counted-whole : (text rest : List ℕ) → length text ≤ counted_bytes text rest
counted-whole text rest =
    elim (starts_with nat_eq dashes rest) as (λ b. length text ≤ cond b (length text) (length text + length rest)) [ true ↦ omega arith | false ↦ omega arith ]

-- a rest that may become `----` is one of its prefixes
rest_of_dashes : (rest : List ℕ) → starts_with nat_eq dashes rest ≡ true → dashes ≡ rest ++ drop (length rest) dashes
rest_of_dashes rest may = (starts_is Decides-eqb dashes rest (starts_with nat_eq dashes rest) refl).0 may

-- all but four bytes at most are counted
pub counted-all : (text rest : List ℕ) → length text + length rest ≤ counted_bytes text rest + 4
counted-all text rest =
    elim (cases_Bool (starts_with nat_eq dashes rest)) [
      | inl may ↦
          let parts : 4 ≡ length rest + length (drop (length rest) dashes) = ap length (rest_of_dashes rest may) ∙ length-append rest (drop (length rest) dashes) in
          let counted : counted_bytes text rest ≡ length text = cond-true (starts_with nat_eq dashes rest) _ _ may in
          omega arith
      | inr never ↦
          let counted : counted_bytes text rest ≡ length text + length rest = cond-false (starts_with nat_eq dashes rest) _ _ never in
          omega arith
    ]

-- what a rest that cannot become `----` begins cannot become it either
longer_than_dashes : (rest more : List ℕ) → starts_with nat_eq dashes rest ≡ false → starts_with nat_eq dashes (rest ++ more) ≡ false
longer_than_dashes rest more never =
    false_from_ne_true (starts_with nat_eq dashes (rest ++ more))
    (λ may.
    let back = drop (length (rest ++ more)) dashes in
    both_ways (starts_with nat_eq dashes rest) never
    ((starts_is Decides-eqb dashes rest (starts_with nat_eq dashes rest) refl).1 (more ++ back)
    (rest_of_dashes (rest ++ more) may ∙ append_assoc rest more back)))

other_than_dashes : (rest more : List ℕ) → starts_with nat_eq dashes rest ≡ false → bytes_eq (rest ++ more) dashes ≡ false
other_than_dashes rest more never =
    false_from_ne_true (bytes_eq (rest ++ more) dashes)
    (λ same.
    both_ways (starts_with nat_eq dashes rest) never
    ((starts_is Decides-eqb dashes rest (starts_with nat_eq dashes rest) refl).1 more
    (sym ((bytes_eq-Decides (rest ++ more) dashes).0 same))))

last_of_text-long : (text rest : List ℕ) (before : ℕ) (ending : Ending) → 1048576 < counted_bytes text rest → last_of_text text before ending rest ≡ BadConf conf.TooLong
unfolding last_of_text
last_of_text-long text rest before ending long = cond-true (nat_lt 1048576 (counted_bytes text rest)) _ _ (lt-ltb 1048576 (counted_bytes text rest) long)

last_of_text-short : (text rest : List ℕ) (before : ℕ) (ending : Ending) → counted_bytes text rest ≤ 1048576 → last_of_text text before ending rest ≡ cut (before + 1) ending
unfolding last_of_text
last_of_text-short text rest before ending short = cond-false (nat_lt 1048576 (counted_bytes text rest)) _ _ (le-ltb 1048576 (counted_bytes text rest) short)

-- the first line goes on with bytes that cannot become `----`, and has too many
first_too_long : (text front more : List ℕ) (before : ℕ) (ending : Ending) (others : List (List ℕ)) → starts_with nat_eq dashes front ≡ false
    → 1048576 < length text + length front → text_lines text before ending ((front ++ more) ∷ others) ≡ Err (BadConf conf.TooLong)
first_too_long text front more before ending [] never long =
    let counted : counted_bytes text (front ++ more) ≡ length text + length (front ++ more) =
    cond-false (starts_with nat_eq dashes (front ++ more)) _ _ (longer_than_dashes front more never) in
    ap (λ e. Err e) (last_of_text-long text (front ++ more) before ending (omega (arith, counted, length-append front more)))
first_too_long text front more before ending (next ∷ lines) never long =
    let whole : List ℕ = text ++ (front ++ more) ++ 10 ∷ [] in
    let full : 1048576 < length whole = omega (arith, length-append (text ++ (front ++ more)) (10 ∷ []), length-append text (front ++ more), length-append front more) in
    cond-false (bytes_eq (front ++ more) dashes) _ _ (other_than_dashes front more never) ∙ cond-true (nat_lt 1048576 (length whole)) _ _ (lt-ltb 1048576 (length whole) full)

-- too many bytes were read, whatever follows
pub text_rest-long : (text : TextSoFar) (ending : Ending) (more : List ℕ) → IsPartOfLine text.rest → length text.whole ≤ 1048576
    → 1048576 < counted_bytes text.whole text.rest → text_rest text ending more ≡ Err (BadConf conf.TooLong)
text_rest-long text ending more inside low long =
    let first = first_line text.rest more inside in
    let test = starts_with nat_eq dashes text.rest in
    elim (cases_Bool test) [
      | inl may ↦
          let counted : counted_bytes text.whole text.rest ≡ length text.whole = cond-true test _ _ may in
          absurd (omega arith)
      | inr never ↦
          let counted : counted_bytes text.whole text.rest ≡ length text.whole + length text.rest = cond-false test _ _ never in
          ap (text_lines text.whole text.lines ending) first.cut
          ∙ first_too_long text.whole text.rest first.more text.lines ending first.others never (omega arith)
    ]

-- the input ended, or a read failed, before the text was whole
pub text_rest-cut : (text : TextSoFar) (ending : Ending) → IsPartOfLine text.rest → counted_bytes text.whole text.rest ≤ 1048576
    → text_rest text ending [] ≡ Err (cut (text.lines + 1) ending)
text_rest-cut text ending inside short =
    ap (λ rest. text_lines text.whole text.lines ending (lines_of rest)) (append-nil text.rest)
    ∙ ap (text_lines text.whole text.lines ending) (lines_of-last text.rest inside)
    ∙ ap (λ e. Err e) (last_of_text-short text.whole text.rest text.lines ending short)
