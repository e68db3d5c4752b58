-- What a vote list comes to, entry by entry. Lists stand newest entry first.
use Rattle.std.specs.Prelude.{ℕ, Bool, false, List, Option, ◌+◌, ◌*◌, ◌==◌, ◌&&◌, ◌||◌, find, length, nat_le, nat_lt, option_and_then, if◌then◌else◌, is_some}
use Rattle.std.specs.Option.{option_map_or, option_or}
use Rattle.qn_base.specs.declared.ids.Rank.{Rank}
use Rattle.qn_base.specs.Members.{is_member}
use Rattle.qn_model.specs.declared.configuration.Settings.{Settings}
use Rattle.qn_model.specs.declared.votes.VoteEntry.{VoteEntry}
use Rattle.qn_model.specs.declared.votes.Answer.{Answer}
use Rattle.qn_model.specs.declared.votes.VoteWhat.{VoteWhat}
use Rattle.qn_model.specs.Votes.{present_view, view_tick, is_released, expected_votes, device_yes, newer_view, newer_view_tick, newer_yes, releases, raised, quorum_of, votes_among, votes_of_device}
use Rattle.qn_model.specs.Tie.{majority_of, majority_view}
use Rattle.qn_plain.specs.declared.tally.Tally.{Tally}

-- the tally of a vote list
abbrev pub tally_of : Settings → List VoteEntry → Tally
tally_of s past =
    record {
      view = present_view past;
      view_tick = view_tick past;
      released = is_released s past;
      expected = expected_votes s past;
      device_yes = device_yes past;
      majority = majority_view s past;
    }

-- the votes of the tally's view
abbrev pub tally_votes : Settings → Tally → ℕ
tally_votes s tally = option_map_or (λ view. votes_among s.nodes view.members) tally.view 0

-- a tally with one more entry, before last man standing is asked
abbrev pub with_entry : Settings → VoteEntry → Tally → Tally
with_entry s entry tally =
    record {
      view = newer_view entry.what tally.view;
      view_tick = newer_view_tick entry tally.view_tick;
      released = releases s entry.what || tally.released;
      expected = raised s entry.what tally.expected;
      device_yes = newer_yes entry.tick entry.what tally.device_yes;
      majority = tally.majority;
    }

-- whether last man standing lowers the expected votes
abbrev pub tally_lowers : Settings → Tally → ℕ → Bool
tally_lowers s tally now =
    s.last_man_standing && is_some tally.view && nat_le (tally.view_tick + s.window) now && tally.released && nat_le (quorum_of s tally.expected) (tally_votes s tally) && nat_lt (tally_votes s tally) tally.expected

-- a tally after last man standing was asked
abbrev pub with_lowered : Settings → ℕ → Tally → Tally
with_lowered s now tally =
    record tally { expected = if tally_lowers s tally now then tally_votes s tally else tally.expected }

-- a tally that keeps the view of an entry where it is one of a majority
abbrev pub with_majority : Settings → VoteWhat → Tally → Tally
with_majority s what tally =
    record tally { majority = option_or (majority_of s tally.expected what) tally.majority }

-- a tally with one more entry
abbrev pub tally_after : Settings → VoteEntry → Tally → Tally
tally_after s entry tally = with_majority s entry.what (with_lowered s entry.tick (with_entry s entry tally))

-- the device's votes at a tick
abbrev pub tally_device : Settings → Tally → ℕ → ℕ
tally_device s tally now =
    if s.last_man_standing then 0 else option_map_or (λ device. votes_of_device device tally.device_yes now) s.device 0

-- the votes that count at a tick
abbrev pub tally_counted : Settings → Tally → ℕ → ℕ
tally_counted s tally now =
    if is_some tally.view then tally_votes s tally + tally_device s tally now else 0

-- the count at a tick, by the votes alone
abbrev pub tally_answer : Settings → Tally → ℕ → Answer
tally_answer s tally now =
    record {
      quorate = is_some tally.view && tally.released && nat_le (quorum_of s tally.expected) (tally_counted s tally now);
      votes = tally_counted s tally now;
      quorum = quorum_of s tally.expected;
      expected = tally.expected;
      released = tally.released;
    }

-- whether a rank was in the last view of a majority
abbrev pub was_in_majority_of : Settings → Tally → ℕ → Bool
was_in_majority_of s tally rank =
    option_map_or (λ view. is_member view.members rank) tally.majority (nat_lt rank (length s.nodes))

-- the tie node
abbrev pub tally_tie_node : Settings → Tally → Option Rank
tally_tie_node s tally = option_and_then (λ order. find (λ rank. was_in_majority_of s tally rank.0) order) s.tie

-- whether a rank is a member of the tally's view
abbrev pub is_seen_in : Tally → ℕ → Bool
is_seen_in tally rank = option_map_or (λ view. is_member view.members rank) tally.view false

-- whether the tally's view has exactly half of the expected votes, and the tie node
abbrev pub tally_breaks : Settings → Tally → Bool
tally_breaks s tally =
    2 * tally_votes s tally == tally.expected && option_map_or (λ rank. is_seen_in tally rank.0) (tally_tie_node s tally) false

-- the count at a tick, with the tie breaker
abbrev pub tally_with_tie : Settings → Tally → ℕ → Answer
tally_with_tie s tally now =
    let votes = tally_answer s tally now in
    record votes { quorate = votes.quorate || (tally.released && tally_breaks s tally) }
