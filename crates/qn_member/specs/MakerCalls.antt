-- A view maker by the list of its calls, newest first: what the laws say of it. This project's profile.
use Rattle.std.specs.Prelude.{◌≡◌, ◌⊎◌, ◌+◌, ◌*◌, ◌<◌, ◌≤◌, ◌==◌, ◌&&◌, ◌||◌, ℕ, Bool, true, false, not, max, nat_le, nat_lt, List, [], ◌∷◌, length, Option, None, Some, IfSome, if◌then◌else◌}
use Rattle.std.specs.Option.{option_map_or}
use Rattle.qn_base.specs.declared.ids.Mask.{Mask}
use Rattle.qn_base.specs.declared.ids.View.{View}
use Rattle.qn_base.specs.Members.{is_member}
use Rattle.qn_model.specs.declared.nodelist.NodeEntry.{NodeEntry}
use Rattle.qn_model.specs.declared.configuration.Settings.{Settings}
use Rattle.qn_model.specs.Votes.{are_all_in}
use Rattle.qn_candidate.specs.Numbers.{is_last, without_name}
use Rattle.qn_member.specs.declared.change.Change.{Change}
use Rattle.qn_base.specs.declared.ids.Said.{Said}
use Rattle.qn_member.specs.Announcing.{after_hello_due}
use Rattle.qn_member.specs.Maker.{Maker, after_announce, after_hello, after_plain_hello, after_tick, company_at, enough_of, first_loops, first_maker, has_configured, is_configured, is_heard, is_in_one, is_kept, is_overdue, is_plain, is_present, is_present_member, leader_at, looked, members_at, plain, seeing, view_at}

pub data MakerCall : Type 0 where
  Hello : ℕ → ℕ → Said → MakerCall  -- at a tick a Hello of a rank came, which says this
  PlainHello : ℕ → ℕ → MakerCall  -- at a tick a plain Hello of a rank came
  Announce : ℕ → View → MakerCall  -- a rank announced a view
  Look : ℕ → MakerCall  -- a look at a tick
  Due : ℕ → MakerCall  -- at a tick it was asked whether a Hello is due

abbrev pub after_call : MakerCall → Maker → Maker
after_call (Hello tick from said) m = after_hello tick from said m
after_call (PlainHello tick from) m = after_plain_hello tick from m
after_call (Announce from view) m = after_announce from view m
after_call (Look tick) m = after_tick tick m
after_call (Due tick) m = after_hello_due tick m

unfoldable pub after_calls : List MakerCall → Maker → Maker
after_calls [] first = first
after_calls (made ∷ earlier) first = after_call made (after_calls earlier first)

-- a view maker from its beginning on
pub record MakerRun : Type 0 where
  pub settings : Settings
  pub me : ℕ  -- the node's own rank
  pub loop_ms : ℕ
  pub calls : List MakerCall

abbrev pub first_of : MakerRun → Maker
first_of run = first_maker run.settings run.me run.loop_ms

abbrev pub maker_of : MakerRun → Maker
maker_of run = after_calls run.calls (first_of run)

-- the company of a look, and its leader
abbrev pub company_of : ℕ → Maker → Mask
company_of tick m = company_at (seeing tick m)

abbrev pub leader_found : ℕ → Maker → Option ℕ
leader_found tick m = leader_at (seeing tick m)

-- ## Who is heard and seen

-- what is known of a node by its Hellos: the tick of the last one, where no farewell of it came since, and what the last one says
pub record Heard : Type 0 where
  pub tick : Option ℕ
  pub said : Option Said

-- an announced view that counts and does not have the node that announced it
abbrev pub is_farewell : List NodeEntry → ℕ → View → Bool
is_farewell nodes from view = has_configured nodes view.members && not (is_member view.members from)

-- at most three loops after another tick
abbrev pub is_within : ℕ → ℕ → Option ℕ → Bool
is_within loop_ms tick last = option_map_or (λ heard. nat_le tick (heard + 3 * loop_ms)) last false

-- within three loops of another Hello a plain one counts for nothing
abbrev pub is_beside : ℕ → ℕ → Heard → Bool
is_beside loop_ms tick before =
    is_within loop_ms tick before.tick && option_map_or (λ said. not (is_plain said)) before.said false

-- with two_node each Hello counts as a plain one
abbrev pub counted : Settings → Said → Said
counted s said = if enough_of s == 0 then plain else said

abbrev pub heard_after : Settings → ℕ → ℕ → MakerCall → Heard → Heard
heard_after s loop_ms rank (Hello tick from said) before =
    if from == rank then record { tick = Some tick; said = Some (counted s said) } else before
heard_after s loop_ms rank (PlainHello tick from) before =
    if from == rank && not (is_beside loop_ms tick before) then record { tick = Some tick; said = Some plain } else before
heard_after s loop_ms rank (Announce from view) before =
    if from == rank && is_farewell s.nodes from view then record { tick = None; said = before.said } else before
heard_after s loop_ms rank (Look tick) before = before
heard_after s loop_ms rank (Due tick) before = before

abbrev pub heard_in : Settings → ℕ → ℕ → List MakerCall → Heard
heard_in s loop_ms rank [] = record { tick = None; said = None }
heard_in s loop_ms rank (made ∷ earlier) = heard_after s loop_ms rank made (heard_in s loop_ms rank earlier)

-- the tick of the last Hello of a rank, where no farewell of it came since, and what its last Hello says
abbrev pub last_hello : MakerRun → ℕ → Option ℕ
last_hello run rank = (heard_in run.settings run.loop_ms rank run.calls).tick

abbrev pub last_said : MakerRun → ℕ → Option Said
last_said run rank = (heard_in run.settings run.loop_ms rank run.calls).said

-- the node itself, and each configured node with a Hello at most three loops ago that came since its last farewell
abbrev pub was_heard : MakerRun → ℕ → ℕ → Bool
was_heard run tick rank =
    nat_lt rank (length run.settings.nodes) && (rank == run.me || is_within run.loop_ms tick (last_hello run rank))

-- of these the node itself, and each whose last Hello names it
abbrev pub is_seen : MakerRun → ℕ → ℕ → Bool
is_seen run tick rank =
    nat_lt rank (length run.settings.nodes)
    && (rank == run.me
    || is_within run.loop_ms tick (last_hello run rank)
    && option_map_or (λ said. is_member said.hears run.me) (last_said run rank) false)

-- ## Ids

-- the ids of the views that were announced and count, and of those that were installed, newest first
abbrev pub ids_had : Maker → List MakerCall → List ℕ
ids_had first [] = []
ids_had first (Announce from view ∷ earlier) =
    if is_configured first from && has_configured first.nodes view.members then view.id ∷ ids_had first earlier
    else ids_had first earlier
ids_had first (Look tick ∷ earlier) =
    option_map_or (λ view. view.id ∷ ids_had first earlier) (view_at tick (after_calls earlier first)) (ids_had first earlier)
ids_had first (Hello tick from said ∷ earlier) = ids_had first earlier
ids_had first (PlainHello tick from ∷ earlier) = ids_had first earlier
ids_had first (Due tick ∷ earlier) = ids_had first earlier

-- the greatest of these ids, without their names, 0 where there is none
abbrev pub greatest_of : List ℕ → ℕ
greatest_of [] = 0
greatest_of (id ∷ ids) = max (greatest_of ids) (without_name id)

-- ## Own views

-- What holds of a view that a leader makes at a tick, by what it knows once it looked. It has all in company, none of which is
-- below the node; its other members are present members that are not heard, in doubt; they are not the present members. Its id
-- is above all that the node has had or was announced, without their names, while there is such an id. A present member that is heard and is left
-- out has been found otherwise for three loops.
pub record OwnView (tick : ℕ) (m : Maker) (view : View) : Type 0 where
  pub company : (rank : ℕ) → is_member (company_at m) rank ≡ true → is_member view.members rank ≡ true
  pub members : (rank : ℕ) → is_member view.members rank ≡ true → is_kept tick m (company_at m) rank ≡ true
  pub least : (rank : ℕ) → is_member (company_at m) rank ≡ true → m.me ≤ rank
  pub settled : members_at tick m (company_at m) ≡ Some view.members
  pub other : is_present m view.members ≡ false
  pub newest : is_last m.greatest ≡ false → m.greatest < view.id
  pub rises : is_last m.greatest ≡ false → IfSome m.view (λ present. without_name present.id < view.id)
  pub heard_stays : (rank : ℕ)
      → is_configured m rank ≡ true
      → is_present_member m rank ≡ true
      → is_heard tick m rank ≡ true
      → is_member view.members rank ≡ false
      → is_overdue tick m rank ≡ true

-- the view that a look gives at a node that leads is so
abbrev pub IsOwnView : ℕ → Maker → View → Type 0
IsOwnView tick m view =
    leader_found tick m ≡ Some m.me → view_at tick m ≡ Some view → OwnView tick (looked tick m) view

-- ## The first view

-- the tick of the first look, where one at this tick follows these calls
abbrev pub first_look_before : ℕ → List MakerCall → ℕ
first_look_before tick [] = tick
first_look_before tick (Look at ∷ earlier) = first_look_before at earlier
first_look_before tick (Hello at from said ∷ earlier) = first_look_before tick earlier
first_look_before tick (PlainHello at from ∷ earlier) = first_look_before tick earlier
first_look_before tick (Announce from view ∷ earlier) = first_look_before tick earlier
first_look_before tick (Due at ∷ earlier) = first_look_before tick earlier

-- A first view comes at a tick only where all nodes are in company, or three loops passed since the first look, four where
-- somebody is heard that is not in company.
abbrev pub MayBegin : MakerRun → ℕ → Type 0
MayBegin run tick =
    (are_all_in run.settings.nodes (company_of tick (maker_of run)) ≡ true)
    ⊎ (first_look_before tick run.calls
    + first_loops tick (maker_of run) (company_of tick (maker_of run)) * run.loop_ms
    ≤ tick)

-- ## Changes

-- no look of these calls is later than this tick, or than a look that follows it
abbrev pub NeverFalls : ℕ → List MakerCall → Type 0
NeverFalls tick [] = Unit {0}
NeverFalls tick (Look at ∷ earlier) = (at ≤ tick) × NeverFalls at earlier
NeverFalls tick (Hello at from said ∷ earlier) = NeverFalls tick earlier
NeverFalls tick (PlainHello at from ∷ earlier) = NeverFalls tick earlier
NeverFalls tick (Announce from view ∷ earlier) = NeverFalls tick earlier
NeverFalls tick (Due at ∷ earlier) = NeverFalls tick earlier

-- the last looks, in a row back to one at this tick, are all so
abbrev pub LooksBackTo : (ℕ → Maker → Type 0) → ℕ → Maker → List MakerCall → Type 0
LooksBackTo IsSo since first [] = ⊥
LooksBackTo IsSo since first (Look tick ∷ earlier) =
    IsSo tick (after_calls earlier first) × ((tick ≡ since) ⊎ LooksBackTo IsSo since first earlier)
LooksBackTo IsSo since first (Hello tick from said ∷ earlier) = LooksBackTo IsSo since first earlier
LooksBackTo IsSo since first (PlainHello tick from ∷ earlier) = LooksBackTo IsSo since first earlier
LooksBackTo IsSo since first (Announce from view ∷ earlier) = LooksBackTo IsSo since first earlier
LooksBackTo IsSo since first (Due tick ∷ earlier) = LooksBackTo IsSo since first earlier

-- a look finds this company
abbrev pub Finds : Mask → ℕ → Maker → Type 0
Finds company tick m = company_of tick m ≡ company

-- a look finds another company than the present members, and gives no view
abbrev pub Misses : ℕ → Maker → Type 0
Misses tick m = (is_present m (company_of tick m) ≡ false) × (view_at tick m ≡ None)

-- a look finds a rank otherwise than the present view: in company and no member, or a member and not in company
abbrev pub Differs : ℕ → ℕ → Maker → Type 0
Differs rank tick m = is_in_one (is_present_member m rank) (is_member (company_of tick m) rank) ≡ true

-- what a change says of the calls: which looks found its company, which belong to it, and that the first of those is not
-- the later one
pub record ChangeOf (run : MakerRun) (change : Change) : Type 0 where
  pub saw : LooksBackTo (Finds change.visible) change.since (first_of run) run.calls
  pub missed : LooksBackTo Misses change.begun (first_of run) run.calls
  pub order : (tick : ℕ) → NeverFalls tick run.calls → change.begun ≤ change.since
