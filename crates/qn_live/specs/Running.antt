-- What a running node keeps between its turns, and how a turn and a run end: this project's profile.
use Rattle.std.specs.Prelude.{ℕ, Bool, false, List, [], Option, None, option_map}
use Rattle.qn_base.specs.Plans.{Plan, Ends}
use Rattle.qn_model.specs.Log.{Line}
use Rattle.qn_member.specs.Naming.{NamingMaker}
use Rattle.qn_live.specs.declared.live_end.LiveEnd.{LiveEnd}
use Rattle.qn_live.specs.declared.place.Waits.{Waits}
use Rattle.qn_live.specs.declared.words.Words.{Words}
use Rattle.qn_live.specs.Words.{no_words}
use Rattle.qn_safety.specs.Poller.{Poller, fresh_poller}

-- What a running node knows between two turns: the log of what it was handed, newest entry first; the loop's time of the
-- header that it read, 0 before; the view maker of a node that takes part; the answers that wait; whether the turn before
-- took a failed answer of the disk, so that this one takes none; the tick of the last look of the view maker; whether the host of
-- the node has asked it to leave; and what that host says of it.
pub record RunState : Type 0 where
  pub log : List Line
  pub loop_ms : ℕ
  pub maker : Option NamingMaker
  pub waits : Waits
  pub rests : Bool
  pub last_look : ℕ
  pub asked : Bool
  pub words : Words
  -- of a node that polls an arbiter: what it polls with, and the tick from which on it does
  pub poller : Option Poller
  pub polls_from : ℕ

-- at the beginning nothing was handed to the node, and nothing waits
abbrev pub first_state : Option ℕ → RunState
first_state polls =
    record {
      log = [];
      loop_ms = 0;
      maker = None;
      waits = record { stopped = None; disk = None };
      rests = false;
      last_look = 0;
      asked = false;
      words = no_words;
      poller = option_map fresh_poller polls;
      polls_from = 0;
    }

-- how a turn ends: with the run and its log, or with what the next turn begins from
pub data Turned : Type 0 where
  Over : LiveEnd → List Line → Turned
  Next : RunState → Turned

-- a run that is over: how it ended, and the log of what the node was handed
pub record Ran : Type 0 where
  pub end : LiveEnd
  pub log : List Line

-- after a turn the run is over, or it goes on
abbrev pub later : (RunState → Plan Ran) → Turned → Plan Ran
later next (Over end log) = Ends (record { end = end; log = log })
later next (Next st) = next st
