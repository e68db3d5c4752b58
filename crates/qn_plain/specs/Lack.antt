-- The first condition that blocks a start, by what a history comes to.
use Rattle.std.specs.Prelude.{◌<◌, ℕ, Bool, true, false, Option, None, Some, ◌==◌, length, not, is_none, unwrap_or, if◌then◌else◌}
use Rattle.std.specs.Option.{option_map_or}
use Rattle.qn_base.specs.declared.ids.Rank.{Rank}
use Rattle.qn_model.specs.declared.configuration.Settings.{Settings}
use Rattle.qn_model.specs.declared.life.Why.{Why}
use Rattle.qn_model.specs.declared.life.Why.TheVariants as why
use Rattle.qn_model.specs.Phases.{is_up}
use Rattle.qn_model.specs.Unmet.{id_of}
use Rattle.qn_plain.specs.declared.past.Past.{Past}
use Rattle.qn_plain.specs.declared.lack.Lack.{Lack}
use Rattle.qn_plain.specs.declared.lack.Lack.TheVariants as lack
use Rattle.qn_plain.specs.declared.sought.Sought.TheVariants as sought
use Rattle.qn_plain.specs.Peer.{peer_at, peer_is_written, peer_left}
use Rattle.qn_plain.specs.Sought.{chosen_at, least_sought}
use Rattle.qn_plain.specs.Tally.{tally_with_tie}

-- whether the node is quorate at a tick, by the votes or by the tie breaker
abbrev pub is_quorate_at : Settings → ℕ → Past → Bool
is_quorate_at s tick past = (tally_with_tie s past.votes tick).quorate

-- what is said of the rank where there is one, else the rest
abbrev pub or_lack : Option Rank → (Rank → Lack) → Lack → Lack
or_lack None said rest = rest
or_lack (Some rank) said rest = said rank

-- whether it is this rank
abbrev pub is_rank : ℕ → Option Rank → Bool
is_rank me found = option_map_or (λ rank. rank.0 == me) found false

-- the rank where it is another one, and a rank that no node has where there is none
abbrev pub other_than : ℕ → Option Rank → Option Rank
other_than me found = if is_rank me found then None else Some (unwrap_or found (record { 0 = 255 }))

-- what of the other nodes blocks a start
abbrev pub lack_of_others : Settings → ℕ → ℕ → Past → Lack
lack_of_others s me tick past =
    or_lack (least_sought s sought.Holder me tick past) (λ rank. lack.HeldBy rank)
    (or_lack (least_sought s sought.Unheard me tick past) (λ rank. lack.Unheard rank)
    (or_lack (least_sought s sought.Unfenced me tick past) (λ rank. lack.Unfenced rank)
    lack.Clear))

-- the first condition that blocks a start at a tick
abbrev pub lack_at : Settings → ℕ → ℕ → Past → Lack
lack_at s me tick past =
    if not (is_up past.life.phase) then lack.Down
    else (if past.life.holds then lack.Holding
    else (if is_none past.votes.view then lack.NoView
    else (if not past.votes.released then lack.WaitForAll
    else (if not (is_quorate_at s tick past) then lack.NotQuorate
    else or_lack (other_than me (chosen_at s me tick past)) (λ rank. lack.NotChosen rank) (lack_of_others s me tick past)))))

-- the rank that blocks a start is configured, but for one that is chosen in place of the node
abbrev pub HasRank : Settings → Lack → Type 0
HasRank s (lack.HeldBy rank) = rank.0 < length s.nodes
HasRank s (lack.Unheard rank) = rank.0 < length s.nodes
HasRank s (lack.Unfenced rank) = rank.0 < length s.nodes
HasRank s other = Unit {0}

-- nothing blocks a start
abbrev pub is_nothing : Lack → Bool
is_nothing lack.Clear = true
is_nothing other = false

-- the condition with the numbers that it names
abbrev pub why_by : Settings → ℕ → Past → Lack → Why
why_by s tick past lack.Down = why.Down
why_by s tick past lack.Holding = why.Holding
why_by s tick past lack.NoView = why.NoView
why_by s tick past lack.WaitForAll = why.WaitForAll
why_by s tick past lack.NotQuorate = why.NotQuorate ((tally_with_tie s past.votes tick).votes) ((tally_with_tie s past.votes tick).quorum)
why_by s tick past (lack.NotChosen rank) = why.NotChosen (id_of s rank.0)
why_by s tick past (lack.HeldBy rank) = why.HeldBy (id_of s rank.0)
why_by s tick past (lack.Unheard rank) = why.Unheard (id_of s rank.0)
why_by s tick past (lack.Unfenced rank) =
    why.Unfenced (id_of s rank.0) (peer_is_written (peer_at past.peers rank.0)) (peer_left (peer_at past.peers rank.0) past.life.timing.msgwait tick)
why_by s tick past lack.Clear = why.Clear
