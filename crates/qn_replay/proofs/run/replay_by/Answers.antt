use Rattle.qn_playback.specs.ReplayLaws.{answer_fits}
use Rattle.qn_playback.specs.Replays.{answer_of}
use Rattle.qn_model.specs.Lines.{Ending}
use Rattle.qn_playback.specs.EndLaws.{run_done, run_leased, run_wanted, run_unread, run_unwritten}
use Rattle.qn_playback.specs.Endings.{FitsWith}
use Rattle.qn_playback.specs.RunLaws.{runs_complete}
use Rattle.std.proofs.Common.{List, ℕ}
use Rattle.qn_replay.proofs.run.replay_by.Given.{Over}
use Rattle.qn_replay.proofs.run.replay_by.Goals as goal

-- the end of a replay fits the way in which its input ended
ends_fit : (g : Over) → (ending : Ending) (bytes : List ℕ) → FitsWith g.W.TakesEvents.Leased (answer_of g.W.TakesEvents.replay ending bytes).end ending
ends_fit g = answer_fits g.W.TakesEvents.replay g.W.TakesEvents.Leased g.met.W.TakesEvents.fits

pub returns-clause-complete : goal.returns-clause-complete
returns-clause-complete g c = λ read wrote memory. runs_complete _ _ c.run.ensures.replays read wrote memory

pub returns-clause-done : goal.returns-clause-done
returns-clause-done g c = run_done g.W.TakesEvents.Leased (answer_of g.W.TakesEvents.replay) (ends_fit g) _ _ _ c.run.ensures.replays

pub returns-clause-lease : goal.returns-clause-lease
returns-clause-lease g c = λ timeout limit lease is. run_leased g.W.TakesEvents.Leased (answer_of g.W.TakesEvents.replay) (ends_fit g) _ _ _ c.run.ensures.replays timeout limit lease is

pub returns-clause-read_fault : goal.returns-clause-read_fault
returns-clause-read_fault g c = run_unread g.W.TakesEvents.Leased (answer_of g.W.TakesEvents.replay) (ends_fit g) _ _ _ c.run.ensures.replays

pub returns-clause-write_fault : goal.returns-clause-write_fault
returns-clause-write_fault g c = run_unwritten g.W.TakesEvents.Leased (answer_of g.W.TakesEvents.replay) (ends_fit g) _ _ _ c.run.ensures.replays

pub returns-clause-memory : goal.returns-clause-memory
returns-clause-memory g c = run_wanted g.W.TakesEvents.Leased (answer_of g.W.TakesEvents.replay) (ends_fit g) _ _ _ c.run.ensures.replays
