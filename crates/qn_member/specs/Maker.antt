-- The view maker of a running node: what it knows of the others, and what each call makes of it. This project's profile.
use Rattle.std.specs.Prelude.{◌≡◌, ℕ, suc, zero, Bool, true, false, List, Option, None, Some, ◌+◌, ◌-◌, ◌*◌, ◌^◌, ◌==◌, ◌&&◌, ◌||◌, not, max, nat_le, nat_lt, bit_or, if◌then◌else◌, is_some, length, replicate, slice_index_or, slice_set, option_and_then, unwrap_or}
use Rattle.std.specs.Option.{option_map, option_map_or, option_or}
use Rattle.qn_base.specs.declared.ids.Mask.{Mask}
use Rattle.qn_base.specs.declared.ids.Rank.{Rank}
use Rattle.qn_base.specs.declared.ids.View.{View}
use Rattle.qn_base.specs.Members.{is_member}
use Rattle.qn_model.specs.declared.nodelist.NodeEntry.{NodeEntry}
use Rattle.qn_model.specs.declared.configuration.Settings.{Settings}
use Rattle.qn_model.specs.NodeVotes.{is_same_view}
use Rattle.qn_model.specs.Unmet.{least_from}
use Rattle.qn_model.specs.Votes.{are_all_in, quorum_of, votes_among}
use Rattle.qn_candidate.specs.Numbers.{next_plain, without_name}
use Rattle.qn_member.specs.declared.change.Change.{Change}
use Rattle.qn_base.specs.declared.ids.Said.{Said}
use Rattle.qn_member.specs.declared.told.Told.{Told}

-- What a view maker knows. By rank: the tick of the last Hello of a node since its last farewell, and the view that it
-- announced last. Ticks are milliseconds of the node's clock.
pub record Maker : Type 0 where
  pub nodes : List NodeEntry  -- the configured nodes
  pub me : ℕ  -- the node's own rank
  pub loop_ms : ℕ  -- the loop's time of its image
  pub enough : ℕ  -- the votes that a side needs of its own nodes; 0 with two_node
  pub hellos : List (Option ℕ)
  pub said : List (Option Said)  -- what the last Hello of each says
  pub forgotten : Mask  -- the nodes of which it is forgotten whom they follow
  pub announced : List (Option View)
  pub view : Option View  -- the present view
  pub greatest : ℕ  -- the greatest id, without its name, of a view that the node has had or was announced
  pub first_look : Option ℕ  -- the tick of the first look
  pub change : Option Change  -- the present change, where the last look found one and gave no view
  pub differs : List (Option ℕ)  -- by rank, the first of the looks in a row that found it otherwise than the present view
  pub seen : Mask  -- the nodes that the last look saw
  pub says : Said  -- what a Hello says after the last look
  pub last_hello : Option ℕ  -- the tick of the last Hello of the regular beat
  pub told : Option Told  -- what was sent last

-- the votes that a side needs of its own nodes: a configured device may have given the others
abbrev pub enough_of : Settings → ℕ
enough_of s =
    if s.two_node then 0
    else max 1 (quorum_of s s.expected - (if s.last_man_standing then 0 else option_map_or (λ device. device.votes) s.device 0))

-- what a node says before its first look: it hears itself, where it has a rank
abbrev pub alone : ℕ → Said
alone me = record { hears = record { 0 = if nat_lt me 32 then 2 ^ me else 0 }; follows = None; able = false }

-- at the beginning nothing is known of the others, and there is no view
abbrev pub first_maker : Settings → ℕ → ℕ → Maker
first_maker s me loop_ms =
    record {
      nodes = s.nodes;
      me = me;
      loop_ms = loop_ms;
      enough = enough_of s;
      hellos = replicate 32 None;
      said = replicate 32 None;
      forgotten = record { 0 = 0 };
      announced = replicate 32 None;
      view = None;
      greatest = 0;
      first_look = None;
      change = None;
      differs = replicate 32 None;
      seen = record { 0 = 0 };
      says = alone me;
      last_hello = None;
      told = None;
    }

-- what is known of a rank
abbrev pub of_rank : {A : Type 0} → List (Option A) → ℕ → Option A
of_rank items rank = slice_index_or items rank None

abbrev pub is_configured : Maker → ℕ → Bool
is_configured m rank = nat_lt rank (length m.nodes)

-- every member is configured: a set of ranks below a number is a number below that power of two
abbrev pub has_configured : List NodeEntry → Mask → Bool
has_configured nodes members = nat_lt members.0 (2 ^ length nodes)

-- the views that are kept have configured members alone
abbrev pub KeepsConfigured : List NodeEntry → List (Option View) → Type 0
KeepsConfigured nodes kept =
    (rank : ℕ) → option_map_or (λ view. has_configured nodes view.members) (of_rank kept rank) true ≡ true

-- what a plain Hello says, of a node of an older version: it hears all, follows nobody, and is able
abbrev pub plain : Said
plain = record { hears = record { 0 = 2 ^ 32 - 1 }; follows = None; able = true }

-- with two_node each node alone has enough, and each Hello counts as a plain one
abbrev pub said_in : Maker → Said → Said
said_in m said = if m.enough == 0 then plain else said

-- the set of the ranks below a number that pass a test
unfoldable pub ranks_that : (ℕ → Bool) → ℕ → ℕ
ranks_that test zero = 0
ranks_that test (suc rank) = if test rank then bit_or (ranks_that test rank) (2 ^ rank) else ranks_that test rank

-- of a node that is heard again it is no longer forgotten whom it follows
abbrev pub is_forgotten_beside : Maker → ℕ → ℕ → Bool
is_forgotten_beside m from rank = is_member m.forgotten rank && not (rank == from)

abbrev pub remembered_nodes : Maker → ℕ → Mask
remembered_nodes m from = record { 0 = ranks_that (is_forgotten_beside m from) (length m.nodes) }

-- a Hello is kept until the next one of its sender
abbrev pub after_hello : ℕ → ℕ → Said → Maker → Maker
after_hello tick from said m =
    if is_configured m from
    then record m {
      hellos = slice_set m.hellos from (Some tick);
      said = slice_set m.said from (Some (said_in m said));
      forgotten = remembered_nodes m from;
    }
    else m

abbrev pub is_plain : Said → Bool
is_plain said = said.hears.0 == plain.hears.0 && not (is_some said.follows) && said.able

-- A plain Hello counts for nothing beside another Hello of the same node, for three loops.
abbrev pub says_more : ℕ → Maker → ℕ → Bool
says_more tick m rank =
    option_map_or (λ heard. nat_le tick (heard + 3 * m.loop_ms)) (of_rank m.hellos rank) false
    && option_map_or (λ said. not (is_plain said)) (of_rank m.said rank) false

abbrev pub after_plain_hello : ℕ → ℕ → Maker → Maker
after_plain_hello tick from m = if is_configured m from && not (says_more tick m from) then after_hello tick from plain m else m

-- an announced view without its sender is a farewell: the Hello of its sender counts no more
abbrev pub hellos_after : ℕ → View → Maker → List (Option ℕ)
hellos_after from view m = if is_member view.members from then m.hellos else slice_set m.hellos from None

-- an announcement is kept until the next one of its sender; one with a node that is not configured is passed over
abbrev pub after_announce : ℕ → View → Maker → Maker
after_announce from view m =
    if is_configured m from && has_configured m.nodes view.members
    then record m {
      hellos = hellos_after from view m;
      announced = slice_set m.announced from (Some view);
      greatest = max m.greatest (without_name view.id);
    }
    else m

-- a node has left while what it announced last is a farewell and no Hello of it came since
abbrev pub has_left : Maker → ℕ → Bool
has_left m rank =
    not (is_some (of_rank m.hellos rank))
    && option_map_or (λ view. not (is_member view.members rank)) (of_rank m.announced rank) false

-- the tick that is three loops after another
abbrev pub three_loops_after : Maker → ℕ → ℕ
three_loops_after m tick = tick + 3 * m.loop_ms

-- heard are the node itself and each node with a Hello at most three loops ago that came since its last farewell
abbrev pub is_heard : ℕ → Maker → ℕ → Bool
is_heard tick m rank =
    rank == m.me || option_map_or (λ heard. nat_le tick (three_loops_after m heard)) (of_rank m.hellos rank) false

-- the last Hello of a node names this one
abbrev pub names : Maker → ℕ → Bool
names m rank = option_map_or (λ said. is_member said.hears m.me) (of_rank m.said rank) false

-- visible are the node itself and whom it hears that hears it
abbrev pub is_visible : ℕ → Maker → ℕ → Bool
is_visible tick m rank = rank == m.me || is_heard tick m rank && names m rank

-- the visible nodes
abbrev pub visible_nodes : ℕ → Maker → Mask
visible_nodes tick m = record { 0 = ranks_that (is_visible tick m) (length m.nodes) }

abbrev pub heard_nodes : ℕ → Maker → Mask
heard_nodes tick m = record { 0 = ranks_that (is_heard tick m) (length m.nodes) }

-- the node of least rank among these
abbrev pub least_of : Maker → Mask → Option ℕ
least_of m members = least_from (length m.nodes) 0 (is_member members)

-- ## Who leads

-- the visible nodes from the own rank on
abbrev pub is_upper : Maker → Mask → ℕ → Bool
is_upper m visible rank = is_member visible rank && nat_le m.me rank

abbrev pub upper_nodes : Maker → Mask → Mask
upper_nodes m visible = record { 0 = ranks_that (is_upper m visible) (length m.nodes) }

-- a node is able where these have enough votes
abbrev pub is_able : Maker → Mask → Bool
is_able m visible = nat_le m.enough (votes_among m.nodes (upper_nodes m visible))

abbrev pub says_able : Maker → ℕ → Bool
says_able m rank = option_map_or (λ said. said.able) (of_rank m.said rank) false

-- the visible nodes up to the own rank that are able
abbrev pub may_lead : Maker → Mask → ℕ → Bool
may_lead m visible rank =
    is_member visible rank && nat_le rank m.me && (if rank == m.me then is_able m visible else says_able m rank)

abbrev pub able_nodes : Maker → Mask → Mask
able_nodes m visible = record { 0 = ranks_that (may_lead m visible) (length m.nodes) }

-- a node follows the least of them, and is led by the least visible node where there is none
abbrev pub followed : Maker → Mask → Option ℕ
followed m visible = least_of m (able_nodes m visible)

abbrev pub leader_of : Maker → Mask → Option ℕ
leader_of m visible = option_or (followed m visible) (least_of m visible)

-- whom a node follows, by its last Hello
abbrev pub follows_of : Maker → ℕ → Option Rank
follows_of m rank = option_and_then (λ said. said.follows) (of_rank m.said rank)

-- a node said that it follows another node than this one
abbrev pub follows_other : Maker → ℕ → Bool
follows_other m rank =
    option_map_or (λ leader. not (leader.0 == m.me)) (follows_of m rank) false && not (is_member m.forgotten rank)

-- a node leads itself and the visible nodes of greater rank that follow no other
abbrev pub is_led : Maker → Mask → ℕ → Bool
is_led m visible rank = rank == m.me || is_member visible rank && nat_lt m.me rank && not (follows_other m rank)

abbrev pub led_nodes : Maker → Mask → Mask
led_nodes m visible = record { 0 = ranks_that (is_led m visible) (length m.nodes) }

-- the nodes that a look finds together: those that it leads, at a leader, and the visible nodes at another node
abbrev pub company_under : Maker → Mask → ℕ → Mask
company_under m visible leader = if leader == m.me then led_nodes m visible else visible

-- whom a node follows is forgotten once the last look saw that one and this look does not
abbrev pub follows_lost : Maker → Mask → ℕ → Bool
follows_lost m visible rank =
    option_map_or (λ leader. is_member m.seen leader.0 && not (is_member visible leader.0)) (follows_of m rank) false

abbrev pub is_forgotten : Maker → Mask → ℕ → Bool
is_forgotten m visible rank = is_member m.forgotten rank || follows_lost m visible rank

abbrev pub forgotten_nodes : Maker → Mask → Mask
forgotten_nodes m visible = record { 0 = ranks_that (is_forgotten m visible) (length m.nodes) }

-- ## When a view may come

-- a node is heard that is not in company
abbrev pub is_outside : ℕ → Maker → Mask → ℕ → Bool
is_outside tick m company rank = is_heard tick m rank && not (is_member company rank)

abbrev pub outside_nodes : ℕ → Maker → Mask → Mask
outside_nodes tick m company = record { 0 = ranks_that (is_outside tick m company) (length m.nodes) }

-- how many loops a first view waits
abbrev pub first_loops : ℕ → Maker → Mask → ℕ
first_loops tick m company = if (outside_nodes tick m company).0 == 0 then 3 else 4

-- so many loops passed since the first look
abbrev pub is_first_due : ℕ → Maker → Mask → Bool
is_first_due tick m company =
    option_map_or (λ first. nat_le (first + first_loops tick m company * m.loop_ms) tick) m.first_look false

-- there is no first view, own or announced, before all nodes are in company or that many loops passed
abbrev pub may_install : ℕ → Maker → Mask → Bool
may_install tick m company = is_some m.view || are_all_in m.nodes company || is_first_due tick m company

-- the present members are these
abbrev pub is_present : Maker → Mask → Bool
is_present m visible = option_map_or (λ present. present.members.0 == visible.0) m.view false

-- a change after a look that found other nodes than the present members
abbrev pub changed : ℕ → Option Change → Mask → Change
changed tick None visible = record { visible = visible; since = tick; begun = tick }
changed tick (Some change) visible =
    if change.visible.0 == visible.0 then change else record { visible = visible; since = tick; begun = change.begun }

-- a look that finds the present members ends the change
abbrev pub change_at : ℕ → Maker → Mask → Option Change
change_at tick m visible = if is_present m visible then None else Some (changed tick m.change visible)

-- the same nodes were visible at each look for one loop, or the change goes on for three
abbrev pub is_quiet : ℕ → Maker → Change → Bool
is_quiet tick m change = nat_le (change.since + m.loop_ms) tick || nat_le (three_loops_after m change.begun) tick

-- the nodes of which it is known where they are: they are in company, or have left
abbrev pub is_known : Maker → Mask → ℕ → Bool
is_known m company rank = is_member company rank || has_left m rank

abbrev pub known_nodes : Maker → Mask → Mask
known_nodes m company = record { 0 = ranks_that (is_known m company) (length m.nodes) }

-- the present members, none without a view
abbrev pub is_present_member : Maker → ℕ → Bool
is_present_member m rank = option_map_or (λ present. is_member present.members rank) m.view false

-- a node is in one of two sets alone
abbrev pub is_in_one : Bool → Bool → Bool
is_in_one true there = not there
is_in_one false there = there

-- by rank, since when the looks in a row found a node otherwise than the present view
abbrev pub differs_at : ℕ → Maker → Mask → ℕ → Option ℕ
differs_at tick m company rank =
    if is_in_one (is_present_member m rank) (is_member company rank) then Some (unwrap_or (of_rank m.differs rank) tick) else None

-- a list with new items at the ranks below a number
unfoldable pub with_ranks : {A : Type 0} → (ℕ → Option A) → ℕ → List (Option A) → List (Option A)
with_ranks item zero items = items
with_ranks item (suc rank) items = slice_set (with_ranks item rank items) rank (item rank)

-- a node is overdue three loops after that, if it has not left
abbrev pub is_overdue : ℕ → Maker → ℕ → Bool
is_overdue tick m rank =
    not (has_left m rank)
    && option_map_or (λ since. nat_le (three_loops_after m since) tick) (of_rank m.differs rank) false

abbrev pub overdue_nodes : ℕ → Maker → Mask
overdue_nodes tick m = record { 0 = ranks_that (is_overdue tick m) (length m.nodes) }

-- a present member that is not in company is missed, till it is overdue or has left
abbrev pub is_missed : ℕ → Maker → Mask → ℕ → Bool
is_missed tick m company rank =
    is_present_member m rank
    && not (is_member company rank)
    && not (has_left m rank)
    && not (is_overdue tick m rank)

-- it is in dispute where it is heard, and in doubt where it is not
abbrev pub is_disputed : ℕ → Maker → Mask → ℕ → Bool
is_disputed tick m company rank = is_missed tick m company rank && is_heard tick m rank

abbrev pub disputed_nodes : ℕ → Maker → Mask → Mask
disputed_nodes tick m company = record { 0 = ranks_that (is_disputed tick m company) (length m.nodes) }

-- those in company, and those in doubt
abbrev pub is_kept : ℕ → Maker → Mask → ℕ → Bool
is_kept tick m company rank =
    is_member company rank || is_missed tick m company rank && not (is_heard tick m rank)

abbrev pub kept_nodes : ℕ → Maker → Mask → Mask
kept_nodes tick m company = record { 0 = ranks_that (is_kept tick m company) (length m.nodes) }

-- the same company was found at each look for one loop
abbrev pub is_steady : ℕ → Maker → Bool
is_steady tick m = option_map_or (λ change. nat_le (change.since + m.loop_ms) tick) m.change false

-- The members of the view of a leader that finds this company, where one may be made. Once all are known it is the company. A
-- first view waits until the change is quiet. Another one waits while a member is in dispute, and is of the company once that is
-- steady; else, once a node is overdue, of the company and those in doubt.
abbrev pub members_at : ℕ → Maker → Mask → Option Mask
members_at tick m company =
    if are_all_in m.nodes (known_nodes m company) then Some company
    else (if not (is_some m.view)
    then (if option_map_or (is_quiet tick m) m.change false then Some company else None)
    else (if not ((disputed_nodes tick m company).0 == 0) then None
    else (if is_steady tick m then Some company
    else (if (overdue_nodes tick m).0 == 0 then None else Some (kept_nodes tick m company)))))

-- a leader whose company is not the present members makes a view, where that has other members
abbrev pub own_view : ℕ → Maker → Mask → Option View
own_view tick m company =
    if is_present m company then None
    else option_and_then
    (λ members. if is_present m members then None else Some (record { id = next_plain m.greatest; members = members }))
    (members_at tick m company)

-- another node takes the last view that its leader announced, where that has both of them and is not the present one
abbrev pub is_taken : Maker → ℕ → View → Bool
is_taken m leader view =
    is_member view.members m.me
    && is_member view.members leader
    && not (option_map_or (λ present. is_same_view present view) m.view false)

abbrev pub followed_view : Maker → ℕ → Option View
followed_view m leader =
    option_and_then (λ view. if is_taken m leader view then Some view else None) (of_rank m.announced leader)

-- the view that a look at a tick installs, under its company and its leader
abbrev pub view_under : ℕ → Maker → Mask → ℕ → Option View
view_under tick m company leader = if leader == m.me then own_view tick m company else followed_view m leader

-- whom a look sees, once it is forgotten whom those follow who followed a node that it sees no more
abbrev pub seeing : ℕ → Maker → Maker
seeing tick m =
    let visible = visible_nodes tick m in
    record m { forgotten = forgotten_nodes m visible; seen = visible }

-- what a Hello says then
abbrev pub said_at : ℕ → Maker → Said
said_at tick m =
    record {
      hears = heard_nodes tick m;
      follows = option_map (λ rank. record { 0 = rank }) (followed m m.seen);
      able = is_able m m.seen;
    }

-- the leader of a look that saw these, and its company
abbrev pub leader_at : Maker → Option ℕ
leader_at m = leader_of m m.seen

abbrev pub company_at : Maker → Mask
company_at m = option_map_or (company_under m m.seen) (leader_at m) m.seen

-- who led at the last look
abbrev pub led_by : Maker → Option ℕ
led_by m = option_or (option_map (λ rank. rank.0) m.says.follows) (least_of m m.seen)

-- a look that finds this company is remembered, the change that it finds, and what a Hello says
abbrev pub noted_with : ℕ → Mask → Said → Maker → Maker
noted_with tick company said m =
    record m {
      first_look = option_or m.first_look (Some tick);
      change = change_at tick m company;
      differs = with_ranks (differs_at tick m company) 32 m.differs;
      says = said;
    }

abbrev pub noted : ℕ → Maker → Maker
noted tick m = noted_with tick (company_at m) (said_at tick m) m

abbrev pub looked : ℕ → Maker → Maker
looked tick m = noted tick (seeing tick m)

abbrev pub next_view : ℕ → Maker → Option View
next_view tick m =
    if may_install tick m (company_at m) then option_and_then (view_under tick m (company_at m)) (leader_at m) else None

-- a rank goes on differing from a new view where its place did not change and the company still differs
abbrev pub differs_still : Maker → Mask → View → ℕ → Option ℕ
differs_still m company view rank =
    if not (is_in_one (is_member view.members rank) (is_present_member m rank))
    && is_in_one (is_member view.members rank) (is_member company rank)
    then of_rank m.differs rank
    else None

-- a new view ends the change
abbrev pub installed_beside : Mask → Option View → Maker → Maker
installed_beside company None m = m
installed_beside company (Some view) m =
    record m {
      view = Some view;
      greatest = max m.greatest (without_name view.id);
      change = None;
      differs = with_ranks (differs_still m company view) 32 m.differs;
    }

abbrev pub installed : Option View → Maker → Maker
installed next m = installed_beside (company_at m) next m

-- a look at a tick: the view that it makes, where the present one does not stay, and the view maker after it
unfoldable pub view_at : ℕ → Maker → Option View
view_at tick m = next_view tick (looked tick m)

unfoldable pub after_tick : ℕ → Maker → Maker
after_tick tick m = installed (view_at tick m) (looked tick m)
