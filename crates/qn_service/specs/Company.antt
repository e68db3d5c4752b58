-- When the company of a leader has become its view, and when another node takes that, where views name who may start. This project's profile.
use Rattle.std.specs.Prelude.{◌≡◌, ◌+◌, ◌≤◌, ◌==◌, ◌&&◌, ◌||◌, ℕ, true, false, IfSome, Some}
use Rattle.qn_base.specs.declared.ids.Mask.{Mask}
use Rattle.qn_base.specs.declared.ids.View.{View}
use Rattle.qn_base.specs.Members.{is_member}
use Rattle.qn_member.specs.Maker.{Maker, disputed_nodes, is_configured, of_rank}
use Rattle.qn_member.specs.Naming.{NamingMaker, is_own, knows_bit}
use Rattle.qn_member.specs.NamingViews.{after_look, is_newer_of, is_proven, looked_by_name, may_begin, view_found}
use Rattle.qn_service.specs.Leading.{company_then, leader_then}

-- a look of a node that knows names finds this company, and gives no view but of it
pub record FindsCompany (company : Mask) (tick : ℕ) (m : NamingMaker) : Type 0 where
  pub knows : is_own m knows_bit ≡ true
  pub finds : company_then tick m ≡ company
  pub gives : IfSome (view_found tick m) (λ view. view.members ≡ company)

-- what a view maker knows of its own view and of its change is at a look what it was after the look before
pub record IsNextLook (before after : Maker) : Type 0 where
  pub view : after.view ≡ before.view
  pub change : after.change ≡ before.change

-- Each look from one at a tick on, up to one at another tick, is so. No change began after the first of them.
pub data FoundSince (company : Mask) (since : ℕ) : ℕ → NamingMaker → Type 0 where
  Once : (m : NamingMaker) → IfSome m.maker.change (λ change. change.since ≤ since) → FindsCompany company since m → FoundSince company since since m
  Again : {tick : ℕ} {m : NamingMaker} (next : ℕ) (after : NamingMaker) → FoundSince company since tick m
      → IsNextLook (after_look tick m).maker after.maker → FindsCompany company next after → FoundSince company since next after

-- The last of them is at least a loop later. There the node leads, a view may be installed, and nobody is in dispute.
pub record IsSettled (company : Mask) (since tick : ℕ) (m : NamingMaker) : Type 0 where
  pub found : FoundSince company since tick m
  pub late : since + m.maker.loop_ms ≤ tick
  pub leads : leader_then tick m ≡ Some m.maker.me
  pub begins : may_begin tick (looked_by_name tick m) company ≡ true
  pub agreed : (disputed_nodes tick (looked_by_name tick m).maker company).0 ≡ 0

-- A look of a node that knows names finds another leader, which is configured and announced this view last; it has both of them. The view is newer
-- than the present one, and was not withdrawn, or the node led at each look for a loop and announced it since. A view may be installed.
pub record IsLedByName (tick : ℕ) (m : NamingMaker) (leader : ℕ) (view : View) : Type 0 where
  pub knows : is_own m knows_bit ≡ true
  pub leads : leader_then tick m ≡ Some leader
  pub other : (leader == m.maker.me) ≡ false
  pub configured : is_configured m.maker leader ≡ true
  pub announced : of_rank m.maker.announced leader ≡ Some view
  pub has_both : (is_member view.members m.maker.me && is_member view.members leader) ≡ true
  pub newer : (is_newer_of (looked_by_name tick m) leader view || is_proven tick (looked_by_name tick m)) ≡ true
  pub begins : may_begin tick (looked_by_name tick m) (company_then tick m) ≡ true
