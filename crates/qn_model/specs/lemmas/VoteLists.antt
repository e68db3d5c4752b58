-- The list of votes of a log has the log's own view.
use Rattle.std.proofs.Common.{◌≡◌, ℕ, Bool, true, false, List, [], ◌∷◌, refl, ap, ◌∙◌, cond, ◌&&◌}
use Rattle.std.specs.Prelude.{Option}
use Rattle.std.specs.Option.{option_or}
use Rattle.qn_base.specs.declared.ids.View.{View}
use Rattle.qn_model.specs.declared.entries.What.{What}
use Rattle.qn_model.specs.declared.entries.What.TheVariants as what
use Rattle.qn_model.specs.declared.votes.VoteWhat.TheVariants as vote
use Rattle.qn_model.specs.Votes.{newer_view, present_view}
use Rattle.qn_model.specs.Log.{Line, view_of}
use Rattle.qn_model.specs.NodeVotes.{answers, view, vote_of, votes}

-- a Tell installs no view, whether or not it releases
newer_view-tell : (releases : Bool) (before : Option View)
    → newer_view (cond releases vote.Released vote.Tick) before ≡ before
newer_view-tell true before = refl
newer_view-tell false before = refl

-- an entry installs the same view in the log and in its vote list
newer_view-vote_of : (past : List Line) (entry : What) (before : Option View)
    → newer_view (vote_of past entry) before ≡ option_or (view_of entry) before
newer_view-vote_of past what.Begin before = refl
newer_view-vote_of past what.BeginClean before = refl
newer_view-vote_of past (what.Header seen) before = refl
newer_view-vote_of past (what.SlotRead rank seen) before = refl
newer_view-vote_of past (what.MailChecked seen) before = refl
newer_view-vote_of past (what.Claimed ok) before = refl
newer_view-vote_of past (what.Cleared ok) before = refl
newer_view-vote_of past (what.MailRead seen) before = refl
newer_view-vote_of past (what.MailWritten rank ok) before = refl
newer_view-vote_of past (what.View installed) before = refl
newer_view-vote_of past (what.Ask ask) before = refl
newer_view-vote_of past (what.Tell tell) before = newer_view-tell (answers past tell && tell.released) before
newer_view-vote_of past (what.Device agrees) before = refl
newer_view-vote_of past what.Tick before = refl
newer_view-vote_of past (what.Stopped ok) before = refl
newer_view-vote_of past what.Leave before = refl
newer_view-vote_of past (what.Closed ok) before = refl

pub present_view-votes : (log : List Line) → present_view (votes log) ≡ view log
unfolding present_view votes view
present_view-votes [] = refl
present_view-votes (line ∷ past) =
    newer_view-vote_of past line.what (present_view (votes past))
    ∙ ap (option_or (view_of line.what)) (present_view-votes past)
