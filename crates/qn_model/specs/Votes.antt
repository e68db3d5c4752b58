-- The count of votes. Each list of vote entries here stands newest entry first.
use Rattle.std.specs.Prelude.{ℕ, Bool, true, false, List, [], ◌∷◌, Option, None, Some, ◌+◌, ◌/◌, ◌&&◌, ◌||◌, not, max, nat_le, nat_lt, if◌then◌else◌, is_some, length}
use Rattle.std.specs.List.{list_all, range_with_len}
use Rattle.std.specs.Option.{option_map_or}
use Rattle.qn_base.specs.declared.ids.View.{View}
use Rattle.qn_base.specs.declared.ids.Mask.{Mask}
use Rattle.qn_base.specs.Members.{is_member, votes_of}
use Rattle.qn_model.specs.declared.nodelist.NodeEntry.{NodeEntry}
use Rattle.qn_model.specs.declared.configuration.Device.{Device}
use Rattle.qn_model.specs.declared.configuration.Settings.{Settings}
use Rattle.qn_model.specs.declared.votes.VoteEntry.{VoteEntry}
use Rattle.qn_model.specs.declared.votes.VoteWhat.{VoteWhat}
use Rattle.qn_model.specs.declared.votes.VoteWhat.TheVariants as what
use Rattle.qn_model.specs.declared.votes.Answer.{Answer}
use Rattle.qn_model.specs.Settings.{node_votes}

-- votequorum(5), "OVERVIEW": the plain sum of the votes of these members
abbrev pub votes_among : List NodeEntry → Mask → ℕ
votes_among nodes members = votes_of (node_votes nodes) members

-- every configured node is one of these members
abbrev pub are_all_in : List NodeEntry → Mask → Bool
are_all_in nodes members = list_all (is_member members) (range_with_len 0 (length nodes))

-- votequorum(5), "OVERVIEW" and "two_node": the votes that are needed, by the expected votes
abbrev pub quorum_of : Settings → ℕ → ℕ
quorum_of s votes = if s.two_node then 1 else votes / 2 + 1

-- the present view after an entry, by the one before it
abbrev pub newer_view : VoteWhat → Option View → Option View
newer_view (what.View view) before = Some view
newer_view (what.Device agrees) before = before
newer_view what.Released before = before
newer_view what.Tick before = before

-- the present view: that of the last View entry
unfoldable pub present_view : List VoteEntry → Option View
present_view [] = None
present_view (entry ∷ past) = newer_view entry.what (present_view past)

-- the tick of the last View entry, by the one before it
abbrev pub newer_view_tick : VoteEntry → ℕ → ℕ
newer_view_tick entry before = if is_some (newer_view entry.what None) then entry.tick else before

-- the tick of the last View entry, 0 where there is none
unfoldable pub view_tick : List VoteEntry → ℕ
view_tick [] = 0
view_tick (entry ∷ past) = newer_view_tick entry (view_tick past)

-- the votes of the present view, 0 without one
abbrev pub view_votes : Settings → List VoteEntry → ℕ
view_votes s past = option_map_or (λ view. votes_among s.nodes view.members) (present_view past) 0

-- votequorum(5), "wait_for_all": a view of all nodes releases. This project's profile: so does another
-- node's word that it is released itself.
abbrev pub releases : Settings → VoteWhat → Bool
releases s (what.View view) = are_all_in s.nodes view.members
releases s (what.Device agrees) = false
releases s what.Released = true
releases s what.Tick = false

-- votequorum(5), "wait_for_all": released once, until the next boot (this project's profile)
unfoldable pub is_released : Settings → List VoteEntry → Bool
is_released s [] = not s.wait_for_all
is_released s (entry ∷ past) = releases s entry.what || is_released s past

-- votequorum(5), "expected_votes": a view with more votes raises them at once
abbrev pub raised : Settings → VoteWhat → ℕ → ℕ
raised s (what.View view) before = max before (votes_among s.nodes view.members)
raised s (what.Device agrees) before = before
raised s what.Released before = before
raised s what.Tick before = before

-- votequorum(5), "last_man_standing": whether the present view's votes become the expected ones. This
-- project's profile: the window is counted from the last view.
abbrev pub lowers : Settings → List VoteEntry → ℕ → ℕ → Bool
lowers s past now before =
    s.last_man_standing && is_some (present_view past) && nat_le (view_tick past + s.window) now && is_released s past && nat_le (quorum_of s before) (view_votes s past) && nat_lt (view_votes s past) before

-- the expected votes, after the newest entry was taken in and might lower them
abbrev pub lowered : Settings → List VoteEntry → ℕ → ℕ → ℕ
lowered s past now before = if lowers s past now before then view_votes s past else before

-- votequorum(5), "expected_votes" and "last_man_standing"
unfoldable pub expected_votes : Settings → List VoteEntry → ℕ
expected_votes s [] = s.expected
expected_votes s (entry ∷ past) =
    lowered s (entry ∷ past) entry.tick (raised s entry.what (expected_votes s past))

-- the tick of the device's standing yes after an entry, by the one before it: a view ends it
abbrev pub newer_yes : ℕ → VoteWhat → Option ℕ → Option ℕ
newer_yes now (what.View view) before = None
newer_yes now (what.Device agrees) before = if agrees then Some now else None
newer_yes now what.Released before = before
newer_yes now what.Tick before = before

-- the tick of the last Device entry since the last View, where that entry says yes
unfoldable pub device_yes : List VoteEntry → Option ℕ
device_yes [] = None
device_yes (entry ∷ past) = newer_yes entry.tick entry.what (device_yes past)

-- the device's votes at a tick, by the tick of its standing yes: they count below its timeout
abbrev pub votes_of_device : Device → Option ℕ → ℕ → ℕ
votes_of_device device agreed now =
    option_map_or (λ since. if nat_lt now (since + device.timeout) then device.votes else 0) agreed 0

-- corosync-qdevice(8), "timeout". This project's profile: with last_man_standing the device counts for
-- nothing.
abbrev pub device_votes : Settings → List VoteEntry → ℕ → ℕ
device_votes s past now =
    if s.last_man_standing then 0 else option_map_or (λ device. votes_of_device device (device_yes past) now) s.device 0

-- the votes that count: those of the present view and the device's, 0 without a view
abbrev pub counted_votes : Settings → List VoteEntry → ℕ → ℕ
counted_votes s past now =
    if is_some (present_view past) then view_votes s past + device_votes s past now else 0

-- votequorum(5), "OVERVIEW" and "wait_for_all"
abbrev pub is_quorate : Settings → List VoteEntry → ℕ → Bool
is_quorate s past now =
    is_some (present_view past) && is_released s past && nat_le (quorum_of s (expected_votes s past)) (counted_votes s past now)

-- the count of a vote list at a tick
unfoldable pub answer_at : Settings → List VoteEntry → ℕ → Answer
answer_at s past now =
    record {
      quorate = is_quorate s past now;
      votes = counted_votes s past now;
      quorum = quorum_of s (expected_votes s past);
      expected = expected_votes s past;
      released = is_released s past;
    }
