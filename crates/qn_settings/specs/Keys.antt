-- The keys of corosync.conf(5) and votequorum(5) that are read: their names, and the ranges of their numbers; the ranges
-- are this project's profile.
use Rattle.std.specs.Prelude.{ℕ, ◌==◌, ◌||◌, Bool, if◌then◌else◌, List, Option, Some, None, nat_lt, codes, option_and_then}
use Rattle.qn_base.specs.Decimal.{number_of}
use Rattle.qn_base.specs.declared.limits.TheConstants.{LONGEST_PERIOD}
use Rattle.qn_settings.specs.declared.key.Key.{Key}
use Rattle.qn_settings.specs.declared.key.Key.TheVariants.{NodeId, QuorumVotes, FenceDelay, Provider, ExpectedVotes, TwoNode, WaitForAll, LastManStanding, LastManStandingWindow, AutoTieBreaker, AutoTieBreakerNode, AllowDownscale, Model, Votes, Timeout}

-- the name of a key in the text
abbrev pub key_name : Key → List ℕ
key_name NodeId = codes "nodeid"
key_name QuorumVotes = codes "quorum_votes"
key_name FenceDelay = codes "fence_delay"
key_name Provider = codes "provider"
key_name ExpectedVotes = codes "expected_votes"
key_name TwoNode = codes "two_node"
key_name WaitForAll = codes "wait_for_all"
key_name LastManStanding = codes "last_man_standing"
key_name LastManStandingWindow = codes "last_man_standing_window"
key_name AutoTieBreaker = codes "auto_tie_breaker"
key_name AutoTieBreakerNode = codes "auto_tie_breaker_node"
key_name AllowDownscale = codes "allow_downscale"
key_name Model = codes "model"
key_name Votes = codes "votes"
key_name Timeout = codes "timeout"

-- the least and the greatest number of a key that has numbers
abbrev pub range_of : Key → Option (ℕ × ℕ)
range_of NodeId = Some (1, 4294967295)
range_of QuorumVotes = Some (0, 65535)
range_of FenceDelay = Some (0, LONGEST_PERIOD)
range_of Provider = None
range_of ExpectedVotes = Some (0, 1000000)
range_of TwoNode = Some (0, 1)
range_of WaitForAll = Some (0, 1)
range_of LastManStanding = Some (0, 1)
range_of LastManStandingWindow = Some (1, LONGEST_PERIOD)
range_of AutoTieBreaker = Some (0, 1)
range_of AutoTieBreakerNode = None
range_of AllowDownscale = None
range_of Model = None
range_of Votes = Some (0, 65535)
range_of Timeout = Some (1, LONGEST_PERIOD)

-- the number, where it is in the range
abbrev pub within_range : ℕ × ℕ → ℕ → Option ℕ
within_range range number = if nat_lt number range.0 || nat_lt range.1 number then None else Some number

-- the number of a key that a text spells in 1 to 20 digits, where it is in the range of the key
unfoldable pub number_in : Key → List ℕ → Option ℕ
number_in key text =
    option_and_then (λ range. option_and_then (within_range range) (number_of text)) (range_of key)

-- the place of a key in the list of keys
abbrev pub place_of : Key → ℕ
place_of NodeId = 0
place_of QuorumVotes = 1
place_of FenceDelay = 2
place_of Provider = 3
place_of ExpectedVotes = 4
place_of TwoNode = 5
place_of WaitForAll = 6
place_of LastManStanding = 7
place_of LastManStandingWindow = 8
place_of AutoTieBreaker = 9
place_of AutoTieBreakerNode = 10
place_of AllowDownscale = 11
place_of Model = 12
place_of Votes = 13
place_of Timeout = 14

-- whether two keys are the same
abbrev pub is_key : Key → Key → Bool
is_key one other = place_of one == place_of other
