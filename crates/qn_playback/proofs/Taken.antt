-- One more byte of a settings text.
use Rattle.std.proofs.Common.{◌≡◌, ◌+◌, ◌==◌, ℕ, false, List, [], ◌∷◌, ◌++◌, length, sym, ap, ◌∙◌, subst, arith, append_assoc, append-nil}
use Rattle.std.specs.Str.{bytes_eq}
use Rattle.std.proofs.lemmas.List.{length-append}
use Rattle.std.proofs.lemmas.List.Elements.{All-nil, All-push}
use Rattle.qn_model.specs.Lines.{Ending, lines_of}
use Rattle.qn_sched.specs.Head.{dashes}
use Rattle.qn_playback.specs.declared.part_text.Taken.{Taken}
use Rattle.qn_playback.specs.declared.part_text.Taken.TheVariants.{More, Whole, TooLong, NoMemory}
use Rattle.qn_playback.specs.Texts.{MayGoOn, Progresses, Takes, TextSoFar, text_rest, with_byte, with_end}
use Rattle.qn_playback.specs.Heads.{text_lines}
use Rattle.qn_playback.proofs.TextLines.{counted-whole, text_rest-full, text_rest-line, text_rest-long}

-- the text with the byte has the same input to come
text_rest-byte : (text : TextSoFar) (byte : ℕ) (ending : Ending) (more : List ℕ) → text_rest text ending (byte ∷ more) ≡ text_rest (with_byte text byte) ending more
text_rest-byte text byte ending more = ap (λ rest. text_lines text.whole text.lines ending (lines_of rest)) (sym (append_assoc text.rest (byte ∷ []) more))

inside_takes : (taken : Taken) (byte : ℕ) (old : TextSoFar) → MayGoOn old → (byte == 10) ≡ false → Progresses taken (with_byte old byte) → Takes taken byte old (with_byte old byte)
inside_takes More byte old may inside fits = record {
  may_go_on = record {
    inside = All-push (λ b. (b == 10) ≡ false) old.rest byte may.inside inside;
    fits = fits;
    numbered = may.numbered;
  };
  longer = sym (append_assoc old.whole old.rest (byte ∷ []));
  rest = text_rest-byte old byte;
}
inside_takes TooLong byte old may inside long = λ ending more.
    text_rest-byte old byte ending more
    ∙ text_rest-long (with_byte old byte) ending more (All-push (λ b. (b == 10) ≡ false) old.rest byte may.inside inside)
    (omega (arith, may.fits, counted-whole old.whole old.rest)) long
inside_takes Whole byte old may inside never = absurd never
inside_takes NoMemory byte old may inside never = absurd never

-- a byte inside a line
pub took_inside : (taken : Taken) (byte : ℕ) (old new : TextSoFar) → MayGoOn old → (byte == 10) ≡ false → new ≡ with_byte old byte
    → Progresses taken new → Takes taken byte old new
took_inside taken byte old new may inside is =
    subst (λ (n : TextSoFar). Progresses taken n → Takes taken byte old n) (sym is) (inside_takes taken byte old may inside)

whole_length : (old : TextSoFar) → length (with_end old).whole ≡ length old.whole + length old.rest + 1
whole_length old = omega (arith, length-append (old.whole ++ old.rest) (10 ∷ []), length-append old.whole old.rest)

end_takes : (taken : Taken) (old : TextSoFar) → MayGoOn old → bytes_eq old.rest dashes ≡ false → Progresses taken (with_end old) → Takes taken 10 old (with_end old)
end_takes More old may other fits = record {
  may_go_on = record { inside = All-nil (λ byte. (byte == 10) ≡ false); fits = fits; numbered = omega (arith, may.numbered, whole_length old) };
  longer = append-nil ((old.whole ++ old.rest) ++ 10 ∷ []);
  rest = λ ending more. text_rest-line old ending more may.inside other fits;
}
end_takes TooLong old may other long = λ ending more. text_rest-full old ending more may.inside other long
end_takes Whole old may other never = absurd never
end_takes NoMemory old may other never = absurd never

-- the end of a line that is not `----`
pub took_end : (taken : Taken) (old new : TextSoFar) → MayGoOn old → bytes_eq old.rest dashes ≡ false → new ≡ with_end old
    → Progresses taken new → Takes taken 10 old new
took_end taken old new may other is =
    subst (λ (n : TextSoFar). Progresses taken n → Takes taken 10 old n) (sym is) (end_takes taken old may other)
