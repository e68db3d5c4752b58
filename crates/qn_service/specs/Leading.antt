-- Which views a look makes and which it takes, and whom a view that it makes leaves out. This project's profile.
use Rattle.std.specs.Prelude.{◌≡◌, ◌⊎◌, ◌<◌, ◌==◌, ℕ, Bool, true, false, Option, None, Some, nat_le, if◌then◌else◌}
use Rattle.std.specs.Option.{option_map_or}
use Rattle.qn_base.specs.declared.ids.Mask.{Mask}
use Rattle.qn_base.specs.declared.ids.View.{View}
use Rattle.qn_base.specs.Members.{is_member}
use Rattle.qn_member.specs.Maker.{Maker, company_at, follows_other, is_first_due, is_overdue, is_present_member, is_visible, leader_at, led_by, looked, of_rank, three_loops_after}
use Rattle.qn_member.specs.Naming.{NamingMaker, is_own, knows_all, knows_bit}
use Rattle.qn_member.specs.NamingViews.{company_now, looked_by_name, seeing_names, view_found}

-- what a view maker knows once it looked, before its view
abbrev pub known_then : ℕ → NamingMaker → Maker
known_then tick m = if is_own m knows_bit then (looked_by_name tick m).maker else looked tick m.maker

-- who leads at a look
abbrev pub leader_then : ℕ → NamingMaker → Option ℕ
leader_then tick m = if is_own m knows_bit then led_by (looked_by_name tick m).maker else leader_at (looked tick m.maker)

-- whom the node finds together at a look
abbrev pub company_then : ℕ → NamingMaker → Mask
company_then tick m = if is_own m knows_bit then company_now (seeing_names tick m) else company_at (looked tick m.maker)

-- the node and all that it sees at a look know names
abbrev pub names_then : ℕ → NamingMaker → Bool
names_then tick m = knows_all (seeing_names tick m) (seeing_names tick m).maker.seen

-- a look makes a view: its node leads
pub record MakesView (tick : ℕ) (m : NamingMaker) (view : View) : Type 0 where
  pub leads : leader_then tick m ≡ Some m.maker.me
  pub gives : view_found tick m ≡ Some view

-- a look takes the view that a leader announced last, which has both of them
pub record TakesView (tick : ℕ) (m : NamingMaker) (view : View) : Type 0 where
  pub leader : ℕ
  pub leads : leader_then tick m ≡ Some leader
  pub announced : of_rank m.maker.announced leader ≡ Some view
  pub has_leader : is_member view.members leader ≡ true
  pub has_own : is_member view.members m.maker.me ≡ true

-- a Hello of a node came at most three loops ago, and no farewell since
abbrev pub has_hello : ℕ → Maker → ℕ → Bool
has_hello tick m rank = option_map_or (λ heard. nat_le tick (three_loops_after m heard)) (of_rank m.hellos rank) false

-- A node is not in the company of a leader: it is not visible, as no Hello of it came for three loops, or its last one does not
-- name the leader; or its last Hello says that it follows another node; or, where not all know names, its rank is less.
abbrev pub IsApart : ℕ → NamingMaker → ℕ → Type 0
IsApart tick m rank =
    (is_visible tick m.maker rank ≡ false)
    ⊎ ((follows_other (known_then tick m) rank ≡ true)
    ⊎ ((names_then tick m ≡ false) × (rank < m.maker.me)))

-- What holds of a node that a view leaves out, of the look that made it. It is another one, and not in company. Where it was a
-- member of the view before, and a Hello of it came within three loops, the looks have found it out of company for three loops.
-- Where there was no view before, three loops passed since the first look, four where somebody is heard that is not in company.
pub record LeavesOut (tick : ℕ) (m : NamingMaker) (rank : ℕ) : Type 0 where
  pub other : (rank == m.maker.me) ≡ false
  pub apart : IsApart tick m rank
  pub waited : is_present_member m.maker rank ≡ true
      → has_hello tick m.maker rank ≡ true
      → is_overdue tick (known_then tick m) rank ≡ true
  pub first : m.maker.view ≡ None → is_first_due tick (known_then tick m) (company_then tick m) ≡ true
