-- The votes of a node: the vote list of its log, and the answers of others that it counts.
use Rattle.std.specs.Prelude.{ℕ, suc, Bool, false, List, [], ◌∷◌, Option, None, ◌&&◌, ◌==◌, if◌then◌else◌}
use Rattle.std.specs.Option.{option_or, option_map_or}
use Rattle.qn_base.specs.declared.ids.View.{View}
use Rattle.qn_base.specs.Members.{is_member}
use Rattle.qn_model.specs.declared.packets.Tell.{Tell}
use Rattle.qn_model.specs.declared.entries.What.{What}
use Rattle.qn_model.specs.declared.entries.What.TheVariants as what
use Rattle.qn_model.specs.declared.votes.Answer.{Answer}
use Rattle.qn_model.specs.declared.votes.VoteEntry.{VoteEntry}
use Rattle.qn_model.specs.declared.votes.VoteWhat.{VoteWhat}
use Rattle.qn_model.specs.declared.votes.VoteWhat.TheVariants as vote
use Rattle.qn_model.specs.declared.configuration.Settings.{Settings}
use Rattle.qn_model.specs.Votes.{answer_at, is_quorate, is_released}
use Rattle.qn_model.specs.Tie.{answer_with_tie_at, is_quorate_with_tie}
use Rattle.qn_model.specs.Log.{Line, view_of, is_view, claimed}

-- the present view: that of the last View entry
unfoldable pub view : List Line → Option View
view [] = None
view (line ∷ past) = option_or (view_of line.what) (view past)

-- the install number: the count of View entries
unfoldable pub install : List Line → ℕ
install [] = 0
install (line ∷ past) = if is_view line.what then suc (install past) else install past

-- two views are the same in id and members
abbrev pub is_same_view : View → View → Bool
is_same_view first second = first.id == second.id && first.members.0 == second.members.0

-- whether a view is the present one
abbrev pub is_present : List Line → View → Bool
is_present past asked = option_map_or (λ own. is_same_view own asked) (view past) false

-- whether a Tell that comes after these entries answers them: it carries their incarnation, install
-- number and view
abbrev pub answers : List Line → Tell → Bool
answers past tell =
    option_map_or (λ number. number == tell.incarnation) (claimed past) false && install past == tell.install && is_present past tell.view

-- what an entry after these ones is to the count of votes: a Tell that answers and says released is a
-- release; what is no view, device or release lets time pass
abbrev pub vote_of : List Line → What → VoteWhat
vote_of past (what.View view) = vote.View view
vote_of past (what.Device agrees) = vote.Device agrees
vote_of past (what.Tell tell) = if answers past tell && tell.released then vote.Released else vote.Tick
vote_of past entry = vote.Tick

-- the vote list of a log, newest entry first
unfoldable pub votes : List Line → List VoteEntry
votes [] = []
votes (line ∷ past) = record { tick = line.tick; what = vote_of past line.what } ∷ votes past

-- votequorum(5), "wait_for_all"
abbrev pub released : Settings → List Line → Bool
released s log = is_released s (votes log)

-- votequorum(5), "OVERVIEW": by the votes alone
abbrev pub quorate : Settings → List Line → ℕ → Bool
quorate s log tick = is_quorate s (votes log) tick

-- the count of a node at a tick, by the votes alone
abbrev pub answer : Settings → List Line → ℕ → Answer
answer s log tick = answer_at s (votes log) tick

-- votequorum(5), `auto_tie_breaker`: by the votes or by the breaker
abbrev pub quorate_with_tie : Settings → List Line → ℕ → Bool
quorate_with_tie s log tick = is_quorate_with_tie s (votes log) tick

-- the count of a node at a tick, with the breaker: what a node prints
abbrev pub answer_with_tie : Settings → List Line → ℕ → Answer
answer_with_tie s log tick = answer_with_tie_at s (votes log) tick

-- whether a rank is a member of the present view
abbrev pub is_in_view : List Line → ℕ → Bool
is_in_view log rank = option_map_or (λ view. is_member view.members rank) (view log) false
