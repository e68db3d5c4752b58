-- The install number of a log, by its vote list.
use Rattle.std.proofs.Common.{◌≡◌, suc, Bool, true, false, List, [], ◌∷◌, None, refl, ap, ◌∙◌}
use Rattle.std.specs.Prelude.{is_some, ◌&&◌, if◌then◌else◌}
use Rattle.qn_model.specs.declared.entries.What.{What}
use Rattle.qn_model.specs.declared.entries.What.TheVariants as what
use Rattle.qn_model.specs.declared.votes.VoteWhat.TheVariants as vote
use Rattle.qn_model.specs.Log.{Line, is_view}
use Rattle.qn_model.specs.NodeVotes.{answers, install, vote_of, votes}
use Rattle.qn_model.specs.Votes.{newer_view}
use Rattle.qn_node.specs.Tally.{view_count}

-- an entry is a view to the count of votes where it is one
counts_view : (past : List Line) (w : What) → is_some (newer_view (vote_of past w) None) ≡ is_view w
counts_view past what.Begin = refl
counts_view past what.BeginClean = refl
counts_view past (what.Header seen) = refl
counts_view past (what.SlotRead rank seen) = refl
counts_view past (what.MailChecked seen) = refl
counts_view past (what.Claimed ok) = refl
counts_view past (what.Cleared ok) = refl
counts_view past (what.MailRead seen) = refl
counts_view past (what.MailWritten rank ok) = refl
counts_view past (what.View shown) = refl
counts_view past (what.Ask ask) = refl
counts_view past (what.Tell tell) = no_view (answers past tell && tell.released)
  where
    no_view : (b : Bool) → is_some (newer_view (if b then vote.Released else vote.Tick) None) ≡ false
    no_view true = refl
    no_view false = refl
counts_view past (what.Device agrees) = refl
counts_view past what.Tick = refl
counts_view past (what.Stopped ok) = refl
counts_view past what.Leave = refl
counts_view past (what.Closed ok) = refl

pub view_count-votes : (log : List Line) → view_count (votes log) ≡ install log
unfolding view_count votes install
view_count-votes [] = refl
view_count-votes (line ∷ past) =
    ap (λ b. if b then suc (view_count (votes past)) else view_count (votes past)) (counts_view past line.what)
    ∙ ap (λ n. if is_view line.what then suc n else n) (view_count-votes past)
