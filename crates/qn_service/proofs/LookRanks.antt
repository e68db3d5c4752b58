-- A look of a running node is one of its own rank.
use Rattle.std.proofs.Common.{◌≡◌, ℕ, ◌<◌, ◌≤◌, true, ◌==◌, List, Some, length, sym, ◌∙◌, ap, subst}
use Rattle.std.proofs.lemmas.Bool.{false≢true}
use Rattle.qn_io.specs.Answered.{time_of}
use Rattle.qn_model.specs.declared.configuration.Settings.{Settings}
use Rattle.qn_member.specs.Naming.{NamingMaker}
use Rattle.qn_joined.specs.Joints.{Happening}
use Rattle.qn_service.specs.Hellos.{packet_chosen}
use Rattle.qn_service.specs.Looks.{LookOf, look_of}
use Rattle.qn_service.specs.NextLooks.{look_of_rank}
use Rattle.qn_service.proofs.FreshHellos.{LookIs, look_is}
use Rattle.qn_service.proofs.LogViews.{always_shown}
use Rattle.qn_service.proofs.Made.{filtered}
use Rattle.qn_service.proofs.RankSteps.{Anew, Calls, Stands, StepTo, host_after, step_to}
use Rattle.qn_service.proofs.Shown.{Chooses, ShownAt}
use Rattle.qn_service.proofs.Sound.{told_beat}

pub look_me : (s : Settings) (image : ℕ → List ℕ) (rank : ℕ) → rank < length s.nodes → length s.nodes ≤ 32 → (newest : Happening) (at : List Happening) (look : LookOf)
    → look_of_rank s image rank newest at ≡ Some look → look.maker.maker.me ≡ rank
look_me s image rank under few newest at look found = by_step (step_to s image rank newest at)
  where
    parts : (look_of s image newest at ≡ Some look) × ((look.rank == rank) ≡ true)
    parts = filtered (λ (l : LookOf). l.rank == rank) (look_of s image newest at) look found

    by_step : StepTo s image rank newest at → look.maker.maker.me ≡ rank
    by_step (Stands same none) = absurd (false≢true (sym (none look parts.0) ∙ parts.1))
    by_step (Anew clean polls turns spot none) = absurd (false≢true (sym (none look parts.0) ∙ parts.1))
    by_step (Calls c) =
        let is : LookIs (host_after s image rank at).stand.spot c.made look = look_is rank (host_after s image rank at).stand.spot c.made look (sym c.looks ∙ parts.0) in
        let shown : Chooses s rank is.chosen = subst (ShownAt s rank) is.is (always_shown s image rank under few at) in
        ap (λ (m : NamingMaker). m.maker.me) is.told
        ∙ (told_beat (time_of c.made) is.own (packet_chosen is.chosen.0) is.before).own ∙ (shown.turns.fine.maker is.before is.had).known.own
