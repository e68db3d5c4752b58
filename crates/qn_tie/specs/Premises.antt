-- The premises of the law of halves are met: a valid cluster that is cut into two halves, of which one goes on.
use Rattle.std.specs.Prelude.{◌≡◌, ℕ, List, false, Some, IsTrue}
use Rattle.qn_base.specs.declared.ids.View.{View}
use Rattle.qn_model.specs.declared.configuration.Settings.{Settings}
use Rattle.qn_model.specs.declared.entries.Entry.{Entry}
use Rattle.qn_model.specs.Laws.{AreDisjoint}
use Rattle.qn_model.specs.NodeOutputs.{log_of}
use Rattle.qn_model.specs.NodeVotes.{quorate, quorate_with_tie, view}
use Rattle.qn_tie.specs.Halves.{SplitAlike}

-- settings and the histories of two nodes, which meet what the law of halves asks of them: the views that they see last have no
-- node in common, and the first node is quorate, by the breaker alone
pub record OneHalfGoesOn : Type 0 where
  pub settings : Settings
  pub first : ℕ
  pub second : ℕ
  pub first_history : List Entry
  pub second_history : List Entry
  pub tick : ℕ
  pub left : View
  pub right : View
  pub alike : SplitAlike settings (log_of settings first first_history) (log_of settings second second_history)
  pub first_sees : view (log_of settings first first_history) ≡ Some left
  pub second_sees : view (log_of settings second second_history) ≡ Some right
  pub apart : AreDisjoint left right
  pub goes_on : IsTrue (quorate_with_tie settings (log_of settings first first_history) tick)
  pub not_by_votes : quorate settings (log_of settings first first_history) tick ≡ false
