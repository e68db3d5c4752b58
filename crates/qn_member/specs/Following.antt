-- Whom nodes follow, by the calls of a view maker: who leads, who has an own view, and of whom it is forgotten. This project's
-- profile.
use Rattle.std.specs.Prelude.{◌≡◌, ◌⊎◌, ◌==◌, ◌&&◌, ◌<◌, ℕ, true, false, not, List, [], ◌∷◌, IfSome, None, Some}
use Rattle.qn_base.specs.declared.ids.Mask.{Mask}
use Rattle.qn_base.specs.declared.ids.View.{View}
use Rattle.qn_base.specs.Members.{is_member}
use Rattle.qn_base.specs.declared.ids.Said.{Said}
use Rattle.qn_member.specs.Maker.{Maker, follows_of, is_configured, looked, may_lead, said_at, says_more, seeing, view_at, visible_nodes}
use Rattle.qn_member.specs.MakerCalls.{Announce, Due, Hello, Look, MakerCall, MakerRun, PlainHello, after_calls, last_said, leader_found, maker_of}

-- the least able node up to the own rank leads
abbrev pub LeadsAble : Maker → ℕ → Type 0
LeadsAble m leader = (may_lead m m.seen leader ≡ true) × ((rank : ℕ) → rank < leader → may_lead m m.seen rank ≡ false)

-- none is able, and the least visible node leads
abbrev pub LeadsLeast : Maker → ℕ → Type 0
LeadsLeast m leader =
    ((rank : ℕ) → is_configured m rank ≡ true → may_lead m m.seen rank ≡ false)
    × (is_member m.seen leader ≡ true)
    × ((rank : ℕ) → rank < leader → is_member m.seen rank ≡ false)

-- A node of greater rank that a leader sees follows it: its last Hello there is of a look at which this leader was the least
-- able node that it saw.
pub record IsFollower (run other : MakerRun) (at : ℕ) : Type 0 where
  pub followed : LeadsAble (seeing at (maker_of other)) run.me
  pub told : last_said run other.me ≡ Some (said_at at (seeing at (maker_of other)))

-- what the last look saw, and what a Hello says after it
abbrev pub last_seen : Maker → List MakerCall → Mask
last_seen first [] = first.seen
last_seen first (Look tick ∷ earlier) = visible_nodes tick (after_calls earlier first)
last_seen first (Hello tick from said ∷ earlier) = last_seen first earlier
last_seen first (PlainHello tick from ∷ earlier) = last_seen first earlier
last_seen first (Announce from view ∷ earlier) = last_seen first earlier
last_seen first (Due tick ∷ earlier) = last_seen first earlier

abbrev pub last_says : Maker → List MakerCall → Said
last_says first [] = first.says
last_says first (Look tick ∷ earlier) = said_at tick (seeing tick (after_calls earlier first))
last_says first (Hello tick from said ∷ earlier) = last_says first earlier
last_says first (PlainHello tick from ∷ earlier) = last_says first earlier
last_says first (Announce from view ∷ earlier) = last_says first earlier
last_says first (Due tick ∷ earlier) = last_says first earlier

-- a look makes an own view: the node leads, and it gives this one
abbrev pub Makes : MakerRun → ℕ → View → Type 0
Makes run tick view = (leader_found tick (maker_of run) ≡ Some run.me) × (view_at tick (maker_of run) ≡ Some view)

-- a look does not see the one whom a rank follows, and the look before it did
abbrev pub Loses : ℕ → ℕ → Maker → Type 0
Loses rank tick m =
    (leader : ℕ) × (IfSome (follows_of m rank) (λ found. found.0 ≡ leader))
    × (is_member m.seen leader ≡ true)
    × (is_member (visible_nodes tick m) leader ≡ false)

-- since the last Hello of a rank that counts a look was so
abbrev pub HasLost : ℕ → Maker → List MakerCall → Type 0
HasLost rank first [] = ⊥
HasLost rank first (Look tick ∷ earlier) = Loses rank tick (after_calls earlier first) ⊎ HasLost rank first earlier
HasLost rank first (Hello tick from said ∷ earlier) = ((rank == from) ≡ false) × HasLost rank first earlier
HasLost rank first (PlainHello tick from ∷ earlier) =
    ((rank == from && not (says_more tick (after_calls earlier first) from)) ≡ false) × HasLost rank first earlier
HasLost rank first (Announce from view ∷ earlier) = HasLost rank first earlier
HasLost rank first (Due tick ∷ earlier) = HasLost rank first earlier

-- The last Hello of a rank is one and the same at two view makers: it says whom the rank follows, and neither forgot that.
pub record SameWordIs (one other : MakerRun) (tick other_tick rank : ℕ) (said : Said) : Type 0 where
  pub says_one : last_said one rank ≡ Some said
  pub says_other : last_said other rank ≡ Some said
  pub follows : said.follows ≡ None → ⊥
  pub known_one : is_member (looked tick (maker_of one)).forgotten rank ≡ false
  pub known_other : is_member (looked other_tick (maker_of other)).forgotten rank ≡ false

abbrev pub SameWord : MakerRun → MakerRun → ℕ → ℕ → ℕ → Type 0
SameWord one other tick other_tick rank = (said : Said) × SameWordIs one other tick other_tick rank said

-- the last Hello of a rank says that it follows itself, and this is not forgotten
pub record FollowsItselfIs (run : MakerRun) (tick rank : ℕ) (said : Said) : Type 0 where
  pub says : last_said run rank ≡ Some said
  pub follows : said.follows ≡ Some (record { 0 = rank })
  pub known : is_member (looked tick (maker_of run)).forgotten rank ≡ false

abbrev pub FollowsItself : MakerRun → ℕ → ℕ → Type 0
FollowsItself run tick rank = (said : Said) × FollowsItselfIs run tick rank said
