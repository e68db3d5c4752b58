-- When a Hello of a running node is due, and which views it announces. This project's profile.
use Rattle.std.specs.Prelude.{ℕ, Bool, true, false, Option, None, Some, ◌+◌, ◌*◌, ◌==◌, ◌&&◌, ◌||◌, not, nat_le, if◌then◌else◌, is_some, length, option_and_then}
use Rattle.std.specs.Option.{option_map_or}
use Rattle.qn_base.specs.declared.ids.Mask.{Mask}
use Rattle.qn_base.specs.declared.ids.Rank.{Rank}
use Rattle.qn_base.specs.declared.ids.View.{View}
use Rattle.qn_base.specs.Members.{is_member}
use Rattle.qn_model.specs.NodeVotes.{is_same_view}
use Rattle.qn_base.specs.declared.ids.Said.{Said}
use Rattle.qn_candidate.specs.Numbers.{without_name}
use Rattle.qn_member.specs.declared.told.Told.{Told}
use Rattle.qn_member.specs.Maker.{Maker, ranks_that, least_of, is_in_one}

-- the present view is announced by its member of least rank
abbrev pub is_announced_by : Maker → View → Bool
is_announced_by m view = option_map_or (λ least. least == m.me) (least_of m view.members) false

abbrev pub view_to_announce : Maker → Option View
view_to_announce m = option_and_then (λ view. if is_announced_by m view then Some view else None) m.view

-- the beat: a Hello is due at the first call, and half a loop, rounded up, after the last one of the beat
abbrev pub is_beat : ℕ → Maker → Bool
is_beat tick m = option_map_or (λ last. nat_le (2 * last + m.loop_ms) (2 * tick)) m.last_hello true

-- other than was sent last
abbrev pub is_new_view : Maker → Told → Bool
is_new_view m told = option_map_or (λ view. not (option_map_or (is_same_view view) told.view false)) (view_to_announce m) false

abbrev pub is_same_rank : Option Rank → Option Rank → Bool
is_same_rank None other = not (is_some other)
is_same_rank (Some rank) other = option_map_or (λ found. rank.0 == found.0) other false

abbrev pub is_same_said : Said → Said → Bool
is_same_said a b = a.hears.0 == b.hears.0 && is_same_rank a.follows b.follows && not (is_in_one a.able b.able)

abbrev pub is_news : Maker → Told → Bool
is_news m told = not (is_same_said told.said m.says) || is_new_view m told

-- besides, news are due a sixteenth of a loop after the last Hello
abbrev pub is_news_due : ℕ → Maker → Bool
is_news_due tick m =
    option_map_or (λ told. is_news m told && nat_le (16 * told.tick + m.loop_ms) (16 * tick)) m.told false

abbrev pub is_hello_due : ℕ → Maker → Bool
is_hello_due tick m = is_beat tick m || is_news_due tick m

abbrev pub after_hello_due : ℕ → Maker → Maker
after_hello_due tick m =
    if is_hello_due tick m
    then record m {
      last_hello = if is_beat tick m then Some tick else m.last_hello;
      told = Some (record { tick = tick; said = m.says; view = view_to_announce m });
    }
    else m

-- the members without the node itself
abbrev pub is_other_in : Maker → Mask → ℕ → Bool
is_other_in m members rank = is_member members rank && not (rank == m.me)

abbrev pub others_in : Maker → Mask → Mask
others_in m members = record { 0 = ranks_that (is_other_in m members) (length m.nodes) }

-- the farewell of a node that leaves: its present view without itself and without a name, where anybody else is in it
abbrev pub farewell_of : Maker → View → Option View
farewell_of m view =
    if (others_in m view.members).0 == 0 then None
    else Some (record { id = without_name view.id; members = others_in m view.members })

abbrev pub view_to_leave : Maker → Option View
view_to_leave m = option_and_then (farewell_of m) m.view
