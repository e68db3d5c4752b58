-- What the status file of a running node says of it (docs/STATUS.md). This project's profile.
use Rattle.std.specs.Prelude.{◌≡◌, ℕ, List}
use Rattle.qn_model.specs.Unmet.{id_from}
use Rattle.qn_shown.specs.declared.shown.Shown.{Shown}
use Rattle.qn_journal.specs.StatusTexts.{status_text}
use Rattle.qn_told.specs.Tellings.{held_ms}
use Rattle.qn_journal.specs.declared.status.Seen.{Seen}

-- what is shown of where the node stands, of what it counted, and when: nothing else than that
pub record Shows (seen : Seen) (shown : Shown) : Type 0 where
  pub answer : shown.answer ≡ seen.standing.now.answer
  pub counts : shown.counts ≡ seen.counts
  pub group : shown.group ≡ seen.telling.now.group
  pub held_ms : shown.held_ms ≡ held_ms seen.telling.now seen.at.tick
  pub holds : shown.holds ≡ seen.standing.now.holds
  pub id : shown.id ≡ id_from seen.nodes.now seen.me.0
  pub images : shown.images ≡ seen.images
  pub incarnation : shown.incarnation ≡ seen.standing.now.incarnation
  pub phase : shown.phase ≡ seen.standing.now.phase
  pub pid : shown.pid ≡ seen.pid
  pub tick : shown.tick ≡ seen.at.tick
  pub time_ms : shown.time_ms ≡ seen.at.time

-- the text is that of a value which shows this
pub record IsStatusOf (seen : Seen) (text : List ℕ) : Type 0 where
  pub shown : Shown
  pub shows : Shows seen shown
  pub is : text ≡ status_text shown
