-- A view maker whose views name who may start: what it knows besides, and whom it follows where each node that it sees knows names.
-- This project's profile; bars and weights are after Pacemaker's standby and location scores.
use Rattle.std.specs.Prelude.{ℕ, Bool, true, false, List, Option, None, Some, ◌+◌, ◌%◌, ◌^◌, ◌==◌, ◌&&◌, ◌||◌, not, nat_le, nat_lt, bit_or, if◌then◌else◌, length, replicate, slice_index_or, slice_set}
use Rattle.std.specs.Int.{bit_at}
use Rattle.std.specs.Option.{option_map_or, option_or}
use Rattle.qn_base.specs.declared.ids.Mask.{Mask}
use Rattle.qn_base.specs.declared.ids.Said.{Said}
use Rattle.qn_base.specs.declared.ids.Standing.{Standing}
use Rattle.qn_base.specs.declared.ids.View.{View}
use Rattle.qn_base.specs.Members.{is_member}
use Rattle.qn_model.specs.declared.configuration.Settings.{Settings}
use Rattle.qn_model.specs.Votes.{quorum_of, votes_among}
use Rattle.qn_candidate.specs.declared.candidate.Facts.{Facts}
use Rattle.qn_candidate.specs.Candidate.{meets}
use Rattle.qn_member.specs.declared.lead.Lead.{Lead}
use Rattle.qn_member.specs.Maker.{Maker, after_announce, after_hello, first_maker, follows_of, follows_other, has_configured, is_configured, least_of, of_rank, plain, ranks_that, said_in, says_able, says_more}

-- What such a view maker knows. By rank: whom a node hears as its last Hello says, or sees, of the node itself; and what it
-- said of itself beside it.
pub record NamingMaker : Type 0 where
  pub maker : Maker  -- what the Hellos and announcements of the others say
  pub sure : ℕ  -- the votes that a side needs of its own nodes where the device gives it none
  pub hears : List Mask
  pub deaf : List Bool  -- by rank, whether the last Hello of a node did not name this one
  pub unable : List Bool  -- whether a node said that it never starts, and named this one in no Hello since that does not say so
  pub flags : List ℕ  -- 0 where a node knows no names
  pub weights : List ℕ
  pub lead : Option Lead  -- who led at the last look, and since when
  pub came : Mask  -- the nodes that announced a view since then
  pub withdrawn : List Bool  -- by rank, whether a node said that it follows another one since it announced a view
  pub made : Option ℕ  -- the tick at which the present view came
  pub naming : Bool  -- at the last look each visible node knew names
  pub closed : Bool  -- the view that was handed on last is one under which nobody may start
  pub stands : Standing  -- what the node says of itself: after a look with what that found
  pub told_stands : Standing  -- what it said of itself last

abbrev pub first_naming : Settings → ℕ → ℕ → NamingMaker
first_naming s me loop_ms =
    record {
      maker = first_maker s me loop_ms;
      sure = quorum_of s s.expected;
      hears = replicate 32 (record { 0 = 0 });
      deaf = replicate 32 false;
      unable = replicate 32 false;
      flags = replicate 32 0;
      weights = replicate 32 0;
      lead = None;
      came = record { 0 = 0 };
      withdrawn = replicate 32 false;
      made = None;
      naming = false;
      closed = false;
      stands = record { flags = 0; weight = 0 };
      told_stands = record { flags = 0; weight = 0 };
    }

-- ## What nodes say of themselves

-- The bits of what a node says of itself: it may never hold; may not hold now; asks for the resource; holds; holds, or sees one
-- that holds; knows names; is able to lead with the votes of the device alone.
abbrev pub barred_bit : ℕ
barred_bit = 0

abbrev pub unfit_bit : ℕ
unfit_bit = 1

abbrev pub pulls_bit : ℕ
pulls_bit = 2

abbrev pub holds_bit : ℕ
holds_bit = 3

abbrev pub keeps_bit : ℕ
keeps_bit = 4

abbrev pub knows_bit : ℕ
knows_bit = 5

abbrev pub leans_bit : ℕ
leans_bit = 6

abbrev pub has_bit : ℕ → ℕ → Bool
has_bit flags bit = bit_at flags bit == 1

abbrev pub flags_of : NamingMaker → ℕ → ℕ
flags_of m rank = slice_index_or m.flags rank 0

-- the node itself says so of itself
abbrev pub is_own : NamingMaker → ℕ → Bool
is_own m bit = nat_lt m.maker.me 32 && has_bit (flags_of m m.maker.me) bit

-- the visible nodes that say so
abbrev pub is_flagged : NamingMaker → Mask → ℕ → ℕ → Bool
is_flagged m visible bit rank = is_member visible rank && has_bit (flags_of m rank) bit

abbrev pub flagged_nodes : NamingMaker → Mask → ℕ → Mask
flagged_nodes m visible bit = record { 0 = ranks_that (is_flagged m visible bit) (length m.maker.nodes) }

-- the node and all that it sees know names; never with two_node
abbrev pub knows_all : NamingMaker → Mask → Bool
knows_all m visible =
    is_own m knows_bit && not (m.maker.enough == 0) && (flagged_nodes m visible knows_bit).0 == visible.0

-- what is known of the nodes, of which the node sees these
abbrev pub facts_of : NamingMaker → Mask → Facts
facts_of m visible =
    record {
      sees = visible;
      hears = m.hears;
      knows = flagged_nodes m visible knows_bit;
      barred = flagged_nodes m visible barred_bit;
      unfit = flagged_nodes m visible unfit_bit;
      pulls = flagged_nodes m visible pulls_bit;
      holds = flagged_nodes m visible holds_bit;
      weights = m.weights;
    }

-- of another node that is configured
abbrev pub is_other : NamingMaker → ℕ → Bool
is_other m from = is_configured m.maker from && not (from == m.maker.me)

-- a Hello that says that its sender follows another node withdraws what that announced
abbrev pub withdraws : ℕ → Said → Bool
withdraws from said = option_map_or (λ leader. not (leader.0 == from)) said.follows false

abbrev pub withdrawn_by : ℕ → Said → List Bool → List Bool
withdrawn_by from said withdrawn = if withdraws from said then slice_set withdrawn from true else withdrawn

abbrev pub is_withdrawn : NamingMaker → ℕ → Bool
is_withdrawn m rank = slice_index_or m.withdrawn rank false

-- a Hello says whom its sender hears and follows; what that says of itself comes beside it, and counts for nothing until then
abbrev pub after_named_hello : ℕ → ℕ → Said → NamingMaker → NamingMaker
after_named_hello tick from said m =
    if is_other m from
    then record m {
      maker = after_hello tick from said m.maker;
      hears = slice_set m.hears from (said_in m.maker said).hears;
      deaf = slice_set m.deaf from (not (is_member said.hears m.maker.me));
      flags = slice_set m.flags from 0;
      withdrawn = withdrawn_by from (said_in m.maker said) m.withdrawn;
    }
    else record m { maker = after_hello tick from said m.maker }

abbrev pub after_named_plain_hello : ℕ → ℕ → NamingMaker → NamingMaker
after_named_plain_hello tick from m =
    if is_configured m.maker from && not (says_more tick m.maker from) then after_named_hello tick from plain m else m

-- who says that it is barred, or unfit and does not hold, starts under no view
abbrev pub never_starts : ℕ → Bool
never_starts flags = has_bit flags barred_bit || has_bit flags unfit_bit && not (has_bit flags holds_bit)

-- the first Hello of a process may say that it may hold before its host's word came: that counts once it names this node
abbrev pub is_unable_then : NamingMaker → ℕ → ℕ → Bool
is_unable_then m from flags = never_starts flags || slice_index_or m.deaf from false && slice_index_or m.unable from false

-- With two_node a Hello counts as one that names all. But where a node that does not hold hears one that never starts and did not
-- name it, that Hello counts as one that names nobody: no start waits for its sender then.
abbrev pub is_passed_over : NamingMaker → ℕ → ℕ → Bool
is_passed_over m from flags =
    is_own m knows_bit
    && not (is_own m holds_bit)
    && m.maker.enough == 0
    && slice_index_or m.deaf from false
    && is_unable_then m from flags

abbrev pub names_nobody : Said
names_nobody = record { hears = record { 0 = 0 }; follows = None; able = false }

abbrev pub said_with : NamingMaker → ℕ → ℕ → List (Option Said)
said_with m from flags = if is_passed_over m from flags then slice_set m.maker.said from (Some names_nobody) else m.maker.said

-- what a node says of itself counts where it knows names
abbrev pub after_standing : ℕ → Standing → NamingMaker → NamingMaker
after_standing from standing m =
    if is_other m from && has_bit standing.flags knows_bit
    then record m {
      maker = record m.maker { said = said_with m from standing.flags };
      flags = slice_set m.flags from standing.flags;
      weights = slice_set m.weights from standing.weight;
      unable = slice_set m.unable from (is_unable_then m from standing.flags);
    }
    else m

-- what the node itself says: whether it is barred, unfit, or pulls, its weight, and whether it holds
abbrev pub own_flags : Standing → Bool → ℕ
own_flags standing holds = standing.flags % 8 + (if holds then 40 else 32)

abbrev pub after_stand : Standing → Bool → NamingMaker → NamingMaker
after_stand standing holds m =
    if is_configured m.maker m.maker.me
    then record m {
      flags = slice_set m.flags m.maker.me (own_flags standing holds);
      weights = slice_set m.weights m.maker.me standing.weight;
      stands = record { flags = own_flags standing holds; weight = standing.weight };
    }
    else m

-- an announcement that counts came since its sender leads, if it does, and is not withdrawn
abbrev pub after_named_announce : ℕ → View → NamingMaker → NamingMaker
after_named_announce from view m =
    if is_configured m.maker from && has_configured m.maker.nodes view.members
    then record m {
      maker = after_announce from view m.maker;
      came = record { 0 = bit_or m.came.0 (2 ^ from) };
      withdrawn = slice_set m.withdrawn from false;
    }
    else record m { maker = after_announce from view m.maker }

-- ## Whom a node follows where all know names

-- a node is able where it may hold now, and the visible nodes have enough votes
abbrev pub is_fit_to_lead : NamingMaker → Bool
is_fit_to_lead m =
    not (is_own m barred_bit) && not (is_own m unfit_bit)
    && nat_le m.maker.enough (votes_among m.maker.nodes m.maker.seen)

-- the able visible nodes, of any rank
abbrev pub is_able_node : NamingMaker → ℕ → Bool
is_able_node m rank =
    is_member m.maker.seen rank && (if rank == m.maker.me then is_fit_to_lead m else says_able m.maker rank)

abbrev pub able_ones : NamingMaker → Mask
able_ones m = record { 0 = ranks_that (is_able_node m) (length m.maker.nodes) }

-- the nodes that hold and that a node meets
abbrev pub is_met_holder : Facts → ℕ → ℕ → Bool
is_met_holder f rank other = is_member f.holds other && meets f rank other

abbrev pub met_holders : NamingMaker → Facts → ℕ → Mask
met_holders m f rank = record { 0 = ranks_that (is_met_holder f rank) (length m.maker.nodes) }

-- those of the able nodes that keep: they say so, or meet one that holds
abbrev pub is_keeper : NamingMaker → Facts → ℕ → Bool
is_keeper m f rank =
    is_able_node m rank && (has_bit (flags_of m rank) keeps_bit || not ((met_holders m f rank).0 == 0))

abbrev pub keepers : NamingMaker → Facts → Mask
keepers m f = record { 0 = ranks_that (is_keeper m f) (length m.maker.nodes) }

-- a node is sure where its visible nodes have the votes without those of the device
abbrev pub has_sure_votes : NamingMaker → Bool
has_sure_votes m = nat_le m.sure (votes_among m.maker.nodes m.maker.seen)

abbrev pub is_sure : NamingMaker → ℕ → Bool
is_sure m rank = if rank == m.maker.me then has_sure_votes m else not (has_bit (flags_of m rank) leans_bit)

abbrev pub is_sure_in : NamingMaker → Mask → ℕ → Bool
is_sure_in m nodes rank = is_member nodes rank && is_sure m rank

abbrev pub sure_ones : NamingMaker → Mask → Mask
sure_ones m nodes = record { 0 = ranks_that (is_sure_in m nodes) (length m.maker.nodes) }

-- the least of these that is sure, else the least of them
unfoldable pub least_sure : NamingMaker → Mask → Option ℕ
least_sure m nodes = option_or (least_of m.maker (sure_ones m nodes)) (least_of m.maker nodes)

-- a node follows the least able node that keeps, where there is none the least able one; of each of these a sure one first
abbrev pub followed_by_name : NamingMaker → Facts → Option ℕ
followed_by_name m f = option_or (least_sure m (keepers m f)) (least_sure m (able_ones m))

abbrev pub leader_by_name : NamingMaker → Facts → Option ℕ
leader_by_name m f = option_or (followed_by_name m f) (least_of m.maker m.maker.seen)

-- the last Hello of a node says that it follows this one
abbrev pub follows_this : Maker → ℕ → Bool
follows_this m rank = option_map_or (λ leader. leader.0 == m.me) (follows_of m rank) false

-- the last Hello of a node came no earlier than that of another
abbrev pub is_heard_since : Maker → ℕ → ℕ → Bool
is_heard_since m rank other =
    option_map_or (λ first. option_map_or (nat_le first) (of_rank m.hellos rank) false) (of_rank m.hellos other) false

-- a node that says it follows this one makes no view: who said before that it follows that node counts as one that follows no other
abbrev pub is_follower_since : Maker → ℕ → ℕ → Bool
is_follower_since m leader rank = is_member m.seen leader && follows_this m leader && is_heard_since m leader rank

abbrev pub follows_follower : Maker → ℕ → Bool
follows_follower m rank =
    option_map_or (λ leader. is_configured m leader.0 && is_follower_since m leader.0 rank) (follows_of m rank) false

-- a leader leads itself and each visible node that follows no other, or one that follows the leader since
abbrev pub is_led_by_name : NamingMaker → ℕ → Bool
is_led_by_name m rank =
    rank == m.maker.me
    || is_member m.maker.seen rank && (not (follows_other m.maker rank) || follows_follower m.maker rank)

abbrev pub led_by_name : NamingMaker → Mask
led_by_name m = record { 0 = ranks_that (is_led_by_name m) (length m.maker.nodes) }

abbrev pub company_by_name : NamingMaker → Facts → Mask
company_by_name m f =
    if option_map_or (λ leader. leader == m.maker.me) (leader_by_name m f) false then led_by_name m else m.maker.seen
