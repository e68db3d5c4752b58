-- The first condition that blocks a start of the resource: this project's profile.
use Rattle.std.specs.Prelude.{ℕ, suc, zero, Bool, true, false, List, [], ◌∷◌, length, Option, None, Some, ◌&&◌, ◌||◌, ◌==◌, ◌+◌, not, is_none, unwrap_or, if◌then◌else◌}
use Rattle.std.specs.Option.{option_map_or, option_or}
use Rattle.qn_base.specs.Candidates.{is_barred, is_named}
use Rattle.qn_base.specs.declared.ids.NodeId.{NodeId}
use Rattle.qn_model.specs.declared.nodelist.NodeEntry.{NodeEntry}
use Rattle.qn_model.specs.declared.configuration.Settings.{Settings}
use Rattle.qn_model.specs.declared.life.Why.{Why}
use Rattle.qn_model.specs.declared.life.Why.TheVariants as why
use Rattle.qn_model.specs.Log.{Line}
use Rattle.qn_model.specs.Phases.{phase, is_up}
use Rattle.qn_model.specs.Holding.{holds}
use Rattle.qn_model.specs.NodeVotes.{view, is_in_view, answer_with_tie, released, quorate_with_tie}
use Rattle.qn_model.specs.Hearing.{is_free, is_held}
use Rattle.qn_model.specs.Licences.{is_licensed, is_written, left_to_wait}

-- the least number from one on, among the next so many, that passes a test
unfoldable pub least_from : ℕ → ℕ → (ℕ → Bool) → Option ℕ
least_from zero from test = None
least_from (suc count) from test = if test from then Some from else least_from count (from + 1) test

-- the least configured rank that passes a test
abbrev pub least_rank : Settings → (ℕ → Bool) → Option ℕ
least_rank s test = least_from (length s.nodes) 0 test

-- the id of a rank, 0 where it is not configured
abbrev pub id_from : List NodeEntry → ℕ → NodeId
id_from [] rank = record { 0 = 0 }
id_from (node ∷ nodes) zero = node.id
id_from (node ∷ nodes) (suc rank) = id_from nodes rank

abbrev pub id_of : Settings → ℕ → NodeId
id_of s rank = id_from s.nodes rank

-- whether the present view names a rank
abbrev pub is_candidate : List Line → ℕ → Bool
is_candidate log rank = option_map_or (λ view. is_named view rank) (view log) false

-- whether the present view says that none of its members may start
abbrev pub is_none_chosen : List Line → Bool
is_none_chosen log = option_map_or (λ view. is_barred view) (view log) false

-- the member that the present view names
abbrev pub named : Settings → List Line → Option ℕ
named s log = least_rank s (λ rank. is_in_view log rank && is_candidate log rank)

-- the chosen node: the member that the present view names, else its least member; none where the view says so
abbrev pub chosen : Settings → List Line → Option ℕ
chosen s log = if is_none_chosen log then None else option_or (named s log) (least_rank s (λ rank. is_in_view log rank))

-- whether the present view gives the resource away: it says that none of its members may start, or it names another one
abbrev pub is_given_away : Settings → ℕ → List Line → Bool
is_given_away s me log = is_none_chosen log || option_map_or (λ rank. not (rank == me)) (named s log) false

-- whether the node is the chosen one
abbrev pub is_chosen : Settings → ℕ → List Line → Bool
is_chosen s me log = option_map_or (λ rank. rank == me) (chosen s log) false

-- the least other member that says that it holds
abbrev pub holder : Settings → ℕ → List Line → Option ℕ
holder s me log = least_rank s (λ rank. is_in_view log rank && not (rank == me) && is_held log rank)

-- the least other member that is neither free nor held
abbrev pub unheard : Settings → ℕ → List Line → Option ℕ
unheard s me log =
    least_rank s (λ rank. is_in_view log rank && not (rank == me) && not (is_free log rank) && not (is_held log rank))

-- the least node outside the present view that has no licence at a tick
abbrev pub unfenced : Settings → List Line → ℕ → Option ℕ
unfenced s log tick = least_rank s (λ rank. not (is_in_view log rank) && not (is_licensed log rank tick))

-- what is said of the rank where there is one, else the rest
abbrev pub or_else : Option ℕ → (ℕ → Why) → Why → Why
or_else None said rest = rest
or_else (Some rank) said rest = said rank

-- what of the other nodes blocks a start, once the node is quorate and chosen
abbrev pub lacks_of_others : Settings → ℕ → List Line → ℕ → Why
lacks_of_others s me log tick =
    or_else (holder s me log) (λ rank. why.HeldBy (id_of s rank))
    (or_else (unheard s me log) (λ rank. why.Unheard (id_of s rank))
    (or_else (unfenced s log tick) (λ rank. why.Unfenced (id_of s rank) (is_written log rank) (left_to_wait log rank tick))
    why.Clear))

-- who is chosen in the node's place: another node, or nobody, which stands as a rank that no node has, so that its id is 0
abbrev pub other_chosen : Settings → ℕ → List Line → Option ℕ
other_chosen s me log = if is_chosen s me log then None else Some (unwrap_or (chosen s log) 255)

-- the first condition that blocks a start at a tick
unfoldable pub unmet : Settings → ℕ → List Line → ℕ → Why
unmet s me log tick =
    if not (is_up (phase s log)) then why.Down
    else (if holds log then why.Holding
    else (if is_none (view log) then why.NoView
    else (if not (released s log) then why.WaitForAll
    else (if not (quorate_with_tie s log tick) then why.NotQuorate ((answer_with_tie s log tick).votes) ((answer_with_tie s log tick).quorum)
    else or_else (other_chosen s me log) (λ rank. why.NotChosen (id_of s rank)) (lacks_of_others s me log tick)))))

abbrev pub is_clear : Why → Bool
is_clear why.Clear = true
is_clear condition = false
