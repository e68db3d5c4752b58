-- Which rank is the least one that is sought, by what a history comes to.
use Rattle.std.specs.Prelude.{ℕ, Bool, false, Option, None, ◌||◌, ◌&&◌, ◌==◌, not, if◌then◌else◌}
use Rattle.std.specs.Option.{option_map, option_map_or, option_or}
use Rattle.qn_base.specs.declared.ids.Rank.{Rank}
use Rattle.qn_model.specs.declared.configuration.Settings.{Settings}
use Rattle.qn_model.specs.Unmet.{least_rank}
use Rattle.qn_model.specs.Wanted.{rank_of}
use Rattle.qn_plain.specs.declared.past.Past.{Past}
use Rattle.qn_plain.specs.declared.sought.Sought.{Sought}
use Rattle.qn_plain.specs.declared.sought.Sought.TheVariants.{Member, Named, Holder, Unheard, Unfenced, Unread, Unreset}
use Rattle.qn_plain.specs.Past.{is_barred_in, is_in, is_named_in}
use Rattle.qn_plain.specs.Peer.{peer_at, peer_is_clean, peer_is_fenced, peer_is_held, peer_is_seen, peer_is_written}

-- whether a rank is sought
abbrev pub is_sought : Sought → ℕ → ℕ → Past → ℕ → Bool
is_sought Member me tick past rank = is_in past.votes.view rank
is_sought Named me tick past rank = is_in past.votes.view rank && is_named_in past.votes.view rank
is_sought Holder me tick past rank =
    is_in past.votes.view rank && not (rank == me) && peer_is_held (peer_at past.peers rank)
is_sought Unheard me tick past rank =
    is_in past.votes.view rank && not (rank == me) && not (peer_at past.peers rank).free && not (peer_is_held (peer_at past.peers rank))
is_sought Unfenced me tick past rank =
    not (is_in past.votes.view rank) && not (peer_is_clean (peer_at past.peers rank) || peer_is_fenced (peer_at past.peers rank) past.life.timing.msgwait tick)
is_sought Unread me tick past rank = not (is_in past.votes.view rank) && not (peer_is_seen (peer_at past.peers rank))
is_sought Unreset me tick past rank =
    not (is_in past.votes.view rank) && not (peer_is_clean (peer_at past.peers rank)) && not (peer_is_written (peer_at past.peers rank))

-- the least configured rank that is sought
abbrev pub least_sought : Settings → Sought → ℕ → ℕ → Past → Option Rank
least_sought s sought me tick past = option_map rank_of (least_rank s (is_sought sought me tick past))

-- the chosen node: the member that the present view names, else its least member; none where the view says so
abbrev pub chosen_at : Settings → ℕ → ℕ → Past → Option Rank
chosen_at s me tick past =
    if is_barred_in past.votes.view then None else option_or (least_sought s Named me tick past) (least_sought s Member me tick past)

-- whether the present view gives the resource away: it says that none of its members may start, or it names another one
abbrev pub is_given_away_at : Settings → ℕ → ℕ → Past → Bool
is_given_away_at s me tick past =
    is_barred_in past.votes.view || option_map_or (λ rank. not (rank.0 == me)) (least_sought s Named me tick past) false
