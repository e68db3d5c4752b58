-- A part of a head, and then a line that is judged: laws of the timing line, and of each line that the head of a kind of schedule
-- has after it.
use Rattle.std.proofs.Common.{◌≡◌, ℕ, List, Option, Ok, Err}
use Rattle.qn_model.specs.Lines.{lines_of}
use Rattle.qn_sched.specs.declared.replay_end.ReplayEnd.{ReplayEnd}
use Rattle.qn_playback.specs.Heads.{line_lines, line_part}
use Rattle.qn_playback.specs.Parts.{Given, Gives, Leads, Part, Refuses, then_given, whole}
use Rattle.qn_playback.specs.PartLaws.{joined, leads_judged, leads_then, leads_to_next, refuses_first, refuses_judged, refuses_then}

-- `before` has so many lines, and `judged` says what its value and the line after it give
module _ {A B : Type 0} (before : Part A) (lines : A → ℕ) (judged : A → List ℕ → List (List ℕ) → Given B) where
  abbrev pub with_line : Part B
  with_line = joined before (λ value ending rest. then_given (line_lines (lines value) ending rest) (judged value))

  -- the part before the line was refused
  pub refuses_before : {a b : Option (List ℕ)} {at_end failed : Type 0} {end : ReplayEnd} → Refuses before a b at_end failed end → Refuses with_line a b at_end failed end
  refuses_before stop = refuses_first before (λ value ending rest. then_given (line_lines (lines value) ending rest) (judged value)) stop

  module _ {a b : Option (List ℕ)} (value : A) (first : Gives before value a b) where
    -- the line is due
    to_line : Leads with_line (λ ending more. then_given (line_lines (lines value) ending (lines_of more)) (judged value)) a b
    to_line = leads_to_next before (λ v ending rest. then_given (line_lines (lines v) ending rest) (judged v)) value first

    -- the line could not be read
    pub refuses_line : {c : Option (List ℕ)} {at_end failed : Type 0} {end : ReplayEnd} → Refuses (line_part (lines value)) b c at_end failed end → Refuses with_line a c at_end failed end
    refuses_line stop = refuses_then to_line (refuses_first (line_part (lines value)) (λ line ending rest. judged value line rest) stop)

    module _ {c : Option (List ℕ)} (line : List ℕ) (second : Gives (line_part (lines value)) line b c) where
      -- the line is due to be judged
      to_judge : Leads with_line (λ ending more. judged value line (lines_of more)) a c
      to_judge = leads_then to_line (leads_to_next (line_part (lines value)) (λ l ending rest. judged value l rest) line second)

      -- the line is good
      pub gives_judged : (made : B) → ((rest : List (List ℕ)) → judged value line rest ≡ Ok (made, rest)) → Gives with_line made a c
      gives_judged made good = leads_judged to_judge (whole made) (λ ending more. good (lines_of more))

      -- the line is at fault
      pub refuses_at_fault : {at_end failed : Type 0} (end : ReplayEnd) → ((rest : List (List ℕ)) → judged value line rest ≡ Err end) → Refuses with_line a c at_end failed end
      refuses_at_fault end fault = refuses_judged to_judge end (λ ending more. fault (lines_of more))
