-- The text that `count` writes for its whole input: this project's profile, over the votes and the plain
-- majority of votequorum(5).
use Rattle.std.specs.Prelude.{ℕ, ◌+◌, ◌-◌, ◌/◌, ◌^◌, ◌==◌, nat_le, nat_lt, if◌then◌else◌, List, [], ◌∷◌, ◌++◌, length, sum_by, Result, Ok, Err, codes, decimal}
use Rattle.std.specs.List.{list_any}
use Rattle.std.specs.Str.{bytes_eq}
use Rattle.qn_base.specs.declared.ids.Mask.{Mask}
use Rattle.qn_base.specs.declared.limits.TheConstants.{MOST_EVENTS, MOST_LINE_BYTES}
use Rattle.qn_base.specs.Text.{yes_no}
use Rattle.qn_model.specs.declared.nodelist.NodeEntry.{NodeEntry}
use Rattle.qn_model.specs.declared.line_fault.LineFault.{LineFault}
use Rattle.qn_model.specs.declared.line_fault.LineFault.TheVariants.{UnknownWord, TooLong, Unended, TooMany, RepeatedNode}
use Rattle.qn_model.specs.declared.count_line.CountLine.{CountLine}
use Rattle.qn_model.specs.declared.count_line.CountLine.TheVariants.{Node, View}
use Rattle.qn_model.specs.Lines.{Ending, Ended, ReadFailed, Outcome, after, lines_of, words_of, ◌>>=◌, two_words, number_between, members_of, bad_line, read_fault}
use Rattle.qn_model.specs.Settings.{ids}
use Rattle.qn_model.specs.Votes.{votes_among}

-- what the good lines so far say: the nodes in the order of their lines, and the numbers of lines and of views
pub record Counted : Type 0 where
  pub nodes : List NodeEntry
  pub lines : ℕ
  pub views : ℕ

abbrev pub nothing_counted : Counted
nothing_counted = record { nodes = []; lines = 0; views = 0 }

-- `node ID VOTES`: an id that no earlier line has, of at most 32 nodes
unfoldable pub node_line : List NodeEntry → List (List ℕ) → Result CountLine LineFault
node_line nodes words = do
  pair ← two_words words
  id ← number_between 1 4294967295 pair.0
  votes ← number_between 0 65535 pair.1
  if list_any (λ node. node.id.0 == id) nodes
      then Err RepeatedNode
      else (if length nodes == 32 then Err TooMany else Ok (Node (record { id = record { 0 = id }; votes = votes; fence_delay = 0 })))

-- `view VID MEMBERS`, with members among the nodes so far
unfoldable pub view_line : List NodeEntry → List (List ℕ) → Result CountLine LineFault
view_line nodes words = do
  pair ← two_words words
  id ← number_between 0 (2 ^ 64 - 1) pair.0
  members ← members_of (ids nodes) pair.1
  Ok (View (record { id = id; members = members }))

-- a line by its first word
unfoldable pub line_of_words : List NodeEntry → List (List ℕ) → Result CountLine LineFault
line_of_words nodes [] = Err UnknownWord
line_of_words nodes (first ∷ words) =
    if bytes_eq first (codes "node") then node_line nodes words
    else (if bytes_eq first (codes "view") then view_line nodes words else Err UnknownWord)

-- a whole line, without its end
unfoldable pub line_of : Counted → List ℕ → Result CountLine LineFault
line_of so_far line =
    if nat_lt MOST_LINE_BYTES (length line) then Err TooLong
    else (if so_far.lines == MOST_EVENTS then Err TooMany else line_of_words so_far.nodes (words_of line))

-- the sum of the votes of the node lines so far
abbrev pub expected_of : List NodeEntry → ℕ
expected_of nodes = sum_by (λ n. n.votes) nodes

-- votequorum(5): more than half of the expected votes
abbrev pub majority_of : ℕ → ℕ
majority_of expected = expected / 2 + 1

-- what a view line writes: its votes, and whether they are a majority
unfoldable pub view_text : List NodeEntry → ℕ → Mask → List ℕ
view_text nodes id members =
    let votes = votes_among nodes members in
    let quorum = majority_of (expected_of nodes) in
    codes "view " ++ decimal id ++ codes " votes " ++ decimal votes ++ codes " quorum " ++ decimal quorum
    ++ codes " quorate " ++ yes_no (nat_le quorum votes) ++ codes "\n"

-- what a good line writes
unfoldable pub text_of_line : Counted → CountLine → List ℕ
text_of_line so_far (Node entry) = []
text_of_line so_far (View view) = view_text so_far.nodes view.id view.members

-- what the lines say with one more
unfoldable pub with_line : Counted → CountLine → Counted
with_line so_far (Node entry) = record { nodes = so_far.nodes ++ entry ∷ []; lines = so_far.lines + 1; views = so_far.views }
with_line so_far (View view) = record { nodes = so_far.nodes; lines = so_far.lines + 1; views = so_far.views + 1 }

-- the end, where every line was good and the input was read to its end
abbrev pub good_end : Counted → Outcome
good_end so_far = record { text = codes "end " ++ decimal so_far.views ++ codes "\n"; status = 0 }

-- the end of the input after the last end of a line
unfoldable pub end_of_input : Counted → Ending → List ℕ → Outcome
end_of_input so_far ReadFailed rest = read_fault
end_of_input so_far Ended [] = good_end so_far
end_of_input so_far Ended (byte ∷ rest) = bad_line (so_far.lines + 1) Unended

-- the same, where too many bytes of a line come before everything else
unfoldable pub last_line : Counted → Ending → List ℕ → Outcome
last_line so_far ending rest = if nat_lt MOST_LINE_BYTES (length rest) then bad_line (so_far.lines + 1) TooLong else end_of_input so_far ending rest

-- go on with a good line, or end at the fault
abbrev pub go_on : Counted → Result CountLine LineFault → (CountLine → Outcome) → Outcome
go_on so_far (Ok line) next = after (text_of_line so_far line) (next line)
go_on so_far (Err fault) next = bad_line (so_far.lines + 1) fault

-- what is written from here on, for the lines that are left and the way in which the input ends
abbrev pub count_lines : Counted → Ending → List (List ℕ) → Outcome
count_lines so_far ending [] = last_line so_far ending []
count_lines so_far ending (rest ∷ []) = last_line so_far ending rest
count_lines so_far ending (line ∷ next ∷ lines) =
    go_on so_far (line_of so_far line) (λ good. count_lines (with_line so_far good) ending (next ∷ lines))

-- what `count` writes and how it ends, for the bytes that were read and the way in which the input ended
abbrev pub count_of : Ending → List ℕ → Outcome
count_of ending bytes = count_lines nothing_counted ending (lines_of bytes)
