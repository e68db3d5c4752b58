-- The line of a schedule that gives the two times of a lease: `lease LIMIT LEASE`, this project's profile.
use Rattle.std.specs.Prelude.{ℕ, nat_lt, if◌then◌else◌, List, [], ◌∷◌, length, Result, Ok, Err, codes, decimal}
use Rattle.std.specs.List.{join_with_byte}
use Rattle.std.specs.Str.{bytes_eq}
use Rattle.qn_base.specs.declared.limits.TheConstants.{LONGEST_PERIOD, MOST_LINE_BYTES}
use Rattle.qn_model.specs.declared.line_fault.LineFault.{LineFault}
use Rattle.qn_model.specs.declared.line_fault.LineFault.TheVariants.{UnknownWord, TooLong}
use Rattle.qn_model.specs.Lines.{◌>>=◌, number_between, two_words, words_of}
use Rattle.qn_safety.specs.declared.lease.Lease.{Lease}
use Rattle.qn_safety.specs.declared.lease.TheConstants.{LONGEST_LEASE}

-- the spelling of a lease line, without its end
abbrev pub lease_line : Lease → List ℕ
lease_line times = join_with_byte 32 (codes "lease" ∷ decimal times.limit ∷ decimal times.lease ∷ [])

-- exactly two words after the first, judged from left to right
unfoldable pub times_of_words : List (List ℕ) → Result Lease LineFault
times_of_words words = do
  pair ← two_words words
  limit ← number_between 1 LONGEST_PERIOD pair.0
  lease ← number_between 1 LONGEST_LEASE pair.1
  Ok (record { limit = limit; lease = lease })

-- the first word
unfoldable pub lease_of_words : List (List ℕ) → Result Lease LineFault
lease_of_words [] = Err UnknownWord
lease_of_words (first ∷ words) = if bytes_eq first (codes "lease") then times_of_words words else Err UnknownWord

-- the times that a line gives, or its first fault
unfoldable pub lease_of : List ℕ → Result Lease LineFault
lease_of line = if nat_lt MOST_LINE_BYTES (length line) then Err TooLong else lease_of_words (words_of line)
