-- The views of a view maker that names: who is named, when a view comes, and the copy that the node itself is handed. This
-- project's profile.
use Rattle.std.specs.Prelude.{ℕ, Bool, true, false, Option, None, Some, ◌+◌, ◌-◌, ◌*◌, ◌/◌, ◌%◌, ◌^◌, ◌==◌, ◌&&◌, ◌||◌, not, nat_le, nat_lt, bit_or, if◌then◌else◌, is_some, length, slice_index_or, slice_set, option_and_then}
use Rattle.std.specs.Option.{option_map, option_map_or, option_or}
use Rattle.qn_base.specs.declared.ids.Mask.{Mask}
use Rattle.qn_base.specs.declared.ids.Rank.{Rank}
use Rattle.qn_base.specs.declared.ids.Said.{Said}
use Rattle.qn_base.specs.declared.ids.Standing.{Standing}
use Rattle.qn_base.specs.declared.ids.View.{View}
use Rattle.qn_base.specs.Candidates.{is_barred}
use Rattle.qn_base.specs.Members.{is_member}
use Rattle.qn_model.specs.NodeVotes.{is_same_view}
use Rattle.qn_model.specs.Votes.{are_all_in}
use Rattle.qn_candidate.specs.declared.candidate.Facts.{Facts}
use Rattle.qn_candidate.specs.Candidate.{hears_all, named_by}
use Rattle.qn_candidate.specs.Numbers.{number_of, without_name}
use Rattle.qn_member.specs.declared.lead.Lead.{Lead}
use Rattle.qn_member.specs.declared.told.Told.{Told}
use Rattle.qn_member.specs.Announcing.{is_beat, is_same_said, view_to_announce}
use Rattle.qn_member.specs.Maker.{Maker, after_tick, company_at, followed, followed_view, is_able, heard_nodes, installed_beside, is_configured, is_first_due, is_in_one, is_present, is_steady, known_nodes, least_of, led_by, members_at, noted_with, ranks_that, seeing, view_at, visible_nodes}
use Rattle.qn_member.specs.Naming.{NamingMaker, barred_bit, company_by_name, facts_of, flagged_nodes, flags_of, followed_by_name, has_sure_votes, holds_bit, is_fit_to_lead, is_own, is_withdrawn, knows_all, knows_bit, unfit_bit}

-- ## Who leads

abbrev pub is_led_by : NamingMaker → Option ℕ → Bool
is_led_by m leader =
    option_map_or (λ lead. option_map_or (λ rank. lead.rank.0 == rank) leader false) m.lead false

-- who leads since a look
abbrev pub lead_since : ℕ → Option ℕ → Option Lead
lead_since tick None = None
lead_since tick (Some rank) = Some (record { rank = record { 0 = rank }; since = tick })

-- who led at each look since a look, and who announced a view since then
abbrev pub leading : ℕ → Option ℕ → NamingMaker → NamingMaker
leading tick leader m =
    if is_led_by m leader then m else record m { lead = lead_since tick leader; came = record { 0 = 0 } }

abbrev pub leads_itself : NamingMaker → Bool
leads_itself m = option_map_or (λ leader. leader == m.maker.me) (led_by m.maker) false

-- ## A look of a node that knows names

-- whom the node sees is whom it hears
abbrev pub seeing_names : ℕ → NamingMaker → NamingMaker
seeing_names tick m =
    record m {
      maker = seeing tick m.maker;
      hears = if nat_lt m.maker.me 32 then slice_set m.hears m.maker.me (visible_nodes tick m.maker) else m.hears;
    }

-- what is known at a look that saw these
abbrev pub facts_seen : NamingMaker → Facts
facts_seen m = facts_of m m.maker.seen

-- where all know names the node follows by them, else as ever
abbrev pub followed_now : NamingMaker → Option ℕ
followed_now m =
    if knows_all m m.maker.seen then followed_by_name m (facts_seen m) else followed m.maker m.maker.seen

abbrev pub leader_now : NamingMaker → Option ℕ
leader_now m = option_or (followed_now m) (least_of m.maker m.maker.seen)

abbrev pub is_able_now : NamingMaker → Bool
is_able_now m = if knows_all m m.maker.seen then is_fit_to_lead m else is_able m.maker m.maker.seen

abbrev pub company_now : NamingMaker → Mask
company_now m = if knows_all m m.maker.seen then company_by_name m (facts_seen m) else company_at m.maker

-- what a Hello says then
abbrev pub said_by_name : ℕ → NamingMaker → Said
said_by_name tick m =
    record {
      hears = heard_nodes tick m.maker;
      follows = option_map (λ rank. record { 0 = rank }) (followed_now m);
      able = is_able_now m;
    }

abbrev pub noted_by_name : ℕ → NamingMaker → NamingMaker
noted_by_name tick m =
    let noted = noted_with tick (company_now m) (said_by_name tick m) m.maker in
    leading tick (led_by noted) (record m { maker = noted })

-- ## When a view comes, and whom it names

-- two in company do not meet
abbrev pub is_apart : Facts → Mask → ℕ → Bool
is_apart f company rank = is_member company rank && not (hears_all f company rank)

abbrev pub apart_nodes : NamingMaker → Facts → Mask → Mask
apart_nodes m f company = record { 0 = ranks_that (is_apart f company) (length m.maker.nodes) }

-- there is no first view before all nodes are in company, and meet each other where the node leads, or some loops passed
abbrev pub may_begin : ℕ → NamingMaker → Mask → Bool
may_begin tick m company =
    is_some m.maker.view
    || is_first_due tick m.maker company
    || are_all_in m.maker.nodes company && (not (leads_itself m) || (apart_nodes m (facts_seen m) company).0 == 0)

-- six loops passed since the first look
abbrev pub is_sixth_loop : ℕ → Maker → Bool
is_sixth_loop tick m = option_map_or (λ first. nat_le (first + 6 * m.loop_ms) tick) m.first_look false

-- a first view is of the company once all are known, or that was the same for a loop, or six loops passed; another one as ever
abbrev pub members_by_name : ℕ → NamingMaker → Mask → Option Mask
members_by_name tick m company =
    if is_some m.maker.view then members_at tick m.maker company
    else (if are_all_in m.maker.nodes (known_nodes m.maker company)
    || is_steady tick m.maker
    || is_sixth_loop tick m.maker
    then Some company
    else None)

-- the rank that a number names
abbrev pub named_rank : ℕ → Option Rank
named_rank number =
    if nat_lt 0 (number / 2 ^ 56) && nat_lt (number / 2 ^ 56) 33 then Some (record { 0 = number / 2 ^ 56 - 1 }) else None

abbrev pub named_now : NamingMaker → Option Rank
named_now m = option_and_then (λ view. named_rank view.id) m.maker.view

-- the view that a leader makes of these members
abbrev pub view_of : NamingMaker → Mask → View
view_of m members = record { id = number_of (named_by (facts_seen m) members (named_now m)) m.maker.greatest; members = members }

-- what a number has for its name
abbrev pub name_part : ℕ → ℕ
name_part number = number - without_name number

-- the present view has another name, and is a loop old
abbrev pub is_loop_old : ℕ → NamingMaker → Bool
is_loop_old tick m = option_map_or (λ made. nat_le (made + m.maker.loop_ms) tick) m.made true

abbrev pub is_named_anew : ℕ → NamingMaker → View → Bool
is_named_anew tick m next =
    option_map_or (λ present. not (name_part present.id == name_part next.id)) m.maker.view false && is_loop_old tick m

-- a leader whose company is the present members names anew; else it makes a view of other members
abbrev pub own_by_name : ℕ → NamingMaker → Mask → Option View
own_by_name tick m company =
    if is_present m.maker company
    then (if is_named_anew tick m (view_of m company) then Some (view_of m company) else None)
    else option_and_then
    (λ members. if is_present m.maker members then None else Some (view_of m members))
    (members_by_name tick m company)

-- a newer view is taken of a leader that did not withdraw it; an older one of a leader that led at each look for a loop, where
-- it came after the first of them
abbrev pub is_newer : NamingMaker → View → Bool
is_newer m view = option_map_or (λ present. nat_lt (without_name present.id) (without_name view.id)) m.maker.view true

abbrev pub is_newer_of : NamingMaker → ℕ → View → Bool
is_newer_of m leader view = is_newer m view && not (is_withdrawn m leader)

abbrev pub is_proven : ℕ → NamingMaker → Bool
is_proven tick m =
    option_map_or (λ lead. nat_le (lead.since + m.maker.loop_ms) tick && is_member m.came lead.rank.0) m.lead false

abbrev pub followed_by_age : ℕ → NamingMaker → ℕ → Option View
followed_by_age tick m leader =
    if is_configured m.maker leader
    then option_and_then (λ view. if is_newer_of m leader view || is_proven tick m then Some view else None) (followed_view m.maker leader)
    else None

abbrev pub next_by_name : ℕ → NamingMaker → Mask → Option View
next_by_name tick m company =
    if may_begin tick m company
    then option_and_then
    (λ leader. if leader == m.maker.me then own_by_name tick m company else followed_by_age tick m leader)
    (led_by m.maker)
    else None

abbrev pub looked_by_name : ℕ → NamingMaker → NamingMaker
looked_by_name tick m = noted_by_name tick (seeing_names tick m)

abbrev pub view_by_name : ℕ → NamingMaker → Option View
view_by_name tick m = next_by_name tick (looked_by_name tick m) (company_now (seeing_names tick m))

abbrev pub after_by_name : ℕ → NamingMaker → NamingMaker
after_by_name tick m =
    let after = looked_by_name tick m in
    record after { maker = installed_beside (company_now (seeing_names tick m)) (view_by_name tick m) after.maker }

-- ## Each look

-- while the node says nothing of itself, a look is one of a view maker without names
abbrev pub after_plain_look : ℕ → NamingMaker → NamingMaker
after_plain_look tick m = leading tick (led_by (after_tick tick m.maker)) (record m { maker = after_tick tick m.maker })

unfoldable pub view_found : ℕ → NamingMaker → Option View
view_found tick m = if is_own m knows_bit then view_by_name tick m else view_at tick m.maker

unfoldable pub after_found : ℕ → NamingMaker → NamingMaker
after_found tick m = if is_own m knows_bit then after_by_name tick m else after_plain_look tick m

-- the node itself may not start
abbrev pub may_not_start : NamingMaker → Bool
may_not_start m = is_own m barred_bit || is_own m unfit_bit && not (is_own m holds_bit)

-- the member that a view chooses
abbrev pub chosen_by : Maker → View → Option ℕ
chosen_by m view =
    if is_barred view then None
    else option_map_or
    (λ rank. if is_member view.members rank.0 then Some rank.0 else least_of m view.members)
    (named_rank view.id)
    (least_of m view.members)

-- the node's own copy of a view that would choose it, while it may not start, says that nobody may
abbrev pub is_closed_to : NamingMaker → View → Bool
is_closed_to m view =
    may_not_start m && option_map_or (λ rank. rank == m.maker.me) (chosen_by m.maker view) false

abbrev pub copy_of : NamingMaker → View → View
copy_of m view = if is_closed_to m view then record view { id = 254 * 2 ^ 56 + view.id % 2 ^ 56 } else view

-- a look hands on its new view, or the present one where the node's own copy changed
abbrev pub copy_again : NamingMaker → Option View
copy_again m =
    if is_own m knows_bit
    then option_and_then
    (λ view. if is_in_one (is_closed_to m view) m.closed then Some (copy_of m view) else None)
    m.maker.view
    else None

abbrev pub handed : Option View → NamingMaker → Option View
handed None m = copy_again m
handed (Some view) m = Some (copy_of m view)

-- a node leans that is able to lead with the votes of the device alone
abbrev pub is_leaning : NamingMaker → Bool
is_leaning m = is_fit_to_lead m && not (has_sure_votes m)

-- what the node says of itself then
abbrev pub flags_with : Bool → ℕ → ℕ → ℕ
flags_with says flag flags = if says then bit_or flags flag else flags

abbrev pub standing_with : Bool → NamingMaker → Standing
standing_with keeps m =
    record {
      flags = flags_with (is_leaning m) 64 (flags_with keeps 16 (flags_of m m.maker.me));
      weight = slice_index_or m.weights m.maker.me 0;
    }

abbrev pub standing_at : NamingMaker → Standing
standing_at m =
    if is_own m knows_bit then standing_with (not ((flagged_nodes m m.maker.seen holds_bit).0 == 0)) m
    else record { flags = 0; weight = 0 }

abbrev pub ended : ℕ → Option View → NamingMaker → NamingMaker
ended tick found m =
    record m {
      made = if is_some found then Some tick else m.made;
      naming = knows_all m m.maker.seen;
      closed = option_map_or (is_closed_to m) m.maker.view false;
      stands = standing_at m;
    }

unfoldable pub answer_at : ℕ → NamingMaker → Option View
answer_at tick m = handed (view_found tick m) (after_found tick m)

unfoldable pub after_look : ℕ → NamingMaker → NamingMaker
after_look tick m = ended tick (view_found tick m) (after_found tick m)

-- ## What is said

-- who leads announces its present view, if it is a member of it; where a node knows no names, as ever
abbrev pub view_announced : NamingMaker → Option View
view_announced m =
    if m.naming
    then option_and_then
    (λ view. if leads_itself m && is_member view.members m.maker.me then Some view else None)
    m.maker.view
    else view_to_announce m.maker

abbrev pub is_same_standing : Standing → Standing → Bool
is_same_standing a b = a.flags == b.flags && a.weight == b.weight

-- other than was sent last
abbrev pub is_view_news : NamingMaker → Told → Bool
is_view_news m told = option_map_or (λ view. not (option_map_or (is_same_view view) told.view false)) (view_announced m) false

abbrev pub is_naming_news : NamingMaker → Told → Bool
is_naming_news m told =
    not (is_same_said told.said m.maker.says) || not (is_same_standing m.told_stands m.stands) || is_view_news m told

-- news are due a sixteenth of a loop after the last Hello
abbrev pub is_naming_news_due : ℕ → NamingMaker → Bool
is_naming_news_due tick m =
    option_map_or
    (λ told. is_naming_news m told && nat_le (16 * told.tick + m.maker.loop_ms) (16 * tick))
    m.maker.told false

abbrev pub is_naming_hello_due : ℕ → NamingMaker → Bool
is_naming_hello_due tick m = is_beat tick m.maker || is_naming_news_due tick m

abbrev pub after_naming_hello_due : ℕ → NamingMaker → NamingMaker
after_naming_hello_due tick m =
    if is_naming_hello_due tick m
    then record m {
      maker = record m.maker {
        last_hello = if is_beat tick m.maker then Some tick else m.maker.last_hello;
        told = Some (record { tick = tick; said = m.maker.says; view = view_announced m });
      };
      told_stands = m.stands;
    }
    else m
