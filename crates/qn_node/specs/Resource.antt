-- What a node does with the resource, and what that stands for: this project's profile.
use Rattle.std.specs.Prelude.{◌≡◌, ℕ, Bool, true, false, List, ◌+◌, nat_le, if◌then◌else◌}
use Rattle.qn_model.specs.declared.entries.What.{What}
use Rattle.qn_model.specs.declared.entries.What.TheVariants as what
use Rattle.qn_model.specs.Log.{Line}
use Rattle.qn_model.specs.Holding.{holds, may_stop, stop_due}
use Rattle.qn_node.specs.declared.resource.Resource.{Resource}
use Rattle.qn_node.specs.declared.resource.Resource.TheVariants as resource

abbrev pub is_held : Resource → Bool
is_held resource.Free = false
is_held resource.Held = true
is_held resource.Stopping = true
is_held (resource.StopFailed tick) = true

-- whether a Stop is unanswered
abbrev pub is_stopping : Resource → Bool
is_stopping resource.Free = false
is_stopping resource.Held = false
is_stopping resource.Stopping = true
is_stopping (resource.StopFailed tick) = false

-- whether a Stop may be given at a tick, where the node holds: the last one was not given, or it failed
-- at least `wait` ticks ago
abbrev pub may_give_stop : Resource → ℕ → ℕ → Bool
may_give_stop resource.Free wait tick = true
may_give_stop resource.Held wait tick = true
may_give_stop resource.Stopping wait tick = false
may_give_stop (resource.StopFailed failed) wait tick = nat_le (failed + wait) tick

-- after the answer of a Stop at a tick
abbrev pub after_stop : ℕ → Bool → Resource → Resource
after_stop tick true before = resource.Free
after_stop tick false before = resource.StopFailed tick

-- after an entry at a tick: the answer of a Stop counts where one is unanswered
abbrev pub after_entry : ℕ → What → Resource → Resource
after_entry tick (what.Stopped ok) before = if is_stopping before then after_stop tick ok before else before
after_entry tick what.Begin before = before
after_entry tick what.BeginClean before = before
after_entry tick (what.Header seen) before = before
after_entry tick (what.SlotRead rank seen) before = before
after_entry tick (what.MailChecked seen) before = before
after_entry tick (what.Claimed ok) before = before
after_entry tick (what.Cleared ok) before = before
after_entry tick (what.MailRead seen) before = before
after_entry tick (what.MailWritten rank ok) before = before
after_entry tick (what.View view) before = before
after_entry tick (what.Ask ask) before = before
after_entry tick (what.Tell tell) before = before
after_entry tick (what.Device agrees) before = before
after_entry tick what.Tick before = before
after_entry tick what.Leave before = before
after_entry tick (what.Closed ok) before = before

-- after a Stop and a Start, each where it was given
abbrev pub after_outs : Bool → Bool → Resource → Resource
after_outs stops starts before = if starts then resource.Held else (if stops then resource.Stopping else before)

-- what a node does with the resource stands for a log
pub record ResourceFor (resource : Resource) (log : List Line) : Type 0 where
  pub has : holds log ≡ is_held resource
  pub waits : stop_due log ≡ is_stopping resource
  pub again : is_held resource ≡ true → (wait tick : ℕ) → may_stop wait tick log ≡ may_give_stop resource wait tick
