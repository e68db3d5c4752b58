-- When a company has become a view at the node that leads it. This project's profile.
use Rattle.std.specs.Prelude.{◌≡◌, ◌+◌, ◌*◌, ◌≤◌, ℕ, true, Some, IfSome}
use Rattle.qn_base.specs.declared.ids.Mask.{Mask}
use Rattle.qn_member.specs.Maker.{Maker, disputed_nodes, looked, may_install, view_at}
use Rattle.qn_member.specs.MakerCalls.{Finds, LooksBackTo, MakerRun, NeverFalls, company_of, first_of, leader_found, maker_of}

-- a look finds this company, and gives no view but of it
abbrev pub Keeps : Mask → ℕ → Maker → Type 0
Keeps company tick m = Finds company tick m × IfSome (view_at tick m) (λ view. view.members ≡ company)

-- Each look back to one at a tick found this company and gave no view but of it, and so does one at least a loop later find
-- it, at which a view may be installed, nobody is in dispute, and the node leads.
pub record IsSteady (run : MakerRun) (since tick : ℕ) (company : Mask) : Type 0 where
  pub saw : LooksBackTo (Keeps company) since (first_of run) run.calls
  pub sees : company_of tick (maker_of run) ≡ company
  pub rises : NeverFalls tick run.calls
  pub late : since + run.loop_ms ≤ tick
  pub begins : may_install tick (looked tick (maker_of run)) company ≡ true
  pub agreed : (disputed_nodes tick (looked tick (maker_of run)) company).0 ≡ 0
  pub leads : leader_found tick (maker_of run) ≡ Some run.me

-- a look finds this company at the node, which leads it
abbrev pub Leads : ℕ → Mask → ℕ → Maker → Type 0
Leads me company tick m = (leader_found tick m ≡ Some me) × Finds company tick m

-- Each look back to one at a tick was so, also one at least three loops later, and so is one at least a loop after that.
-- Nothing is asked of who is in dispute or in doubt, and of other views on the way.
pub record IsLasting (run : MakerRun) (since mid tick : ℕ) (company : Mask) : Type 0 where
  pub saw : LooksBackTo (Leads run.me company) since (first_of run) run.calls
  pub then_saw : LooksBackTo (Leads run.me company) mid (first_of run) run.calls
  pub long : since + 3 * run.loop_ms ≤ mid
  pub sees : company_of tick (maker_of run) ≡ company
  pub rises : NeverFalls tick run.calls
  pub late : mid + run.loop_ms ≤ tick
  pub leads : leader_found tick (maker_of run) ≡ Some run.me
