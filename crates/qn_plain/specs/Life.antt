-- What a history says of the node itself, entry by entry.
use Rattle.std.specs.Prelude.{◌<◌, ◌^◌, ◌-◌, IsTrue, ℕ, Bool, true, false, List, [], ◌∷◌, None, Some, ◌||◌, ◌&&◌, ◌+◌, not, nat_le, is_some, unwrap_or, if◌then◌else◌}
use Rattle.std.specs.Option.{option_or}
use Rattle.qn_model.specs.declared.configuration.Settings.{Settings}
use Rattle.qn_model.specs.declared.entries.What.{What}
use Rattle.qn_model.specs.declared.outputs.Out.{Out}
use Rattle.qn_model.specs.declared.life.Phase.{Phase}
use Rattle.qn_model.specs.Log.{Line, ask_place, ask_tick, begins_clean, claim_of, claimed, disk_of, has_start, has_stop, is_answer, is_clean_begin, number_read, op_out, slot_number, times_of, timing}
use Rattle.qn_model.specs.Phases.{is_booting, is_up, next_phase, phase}
use Rattle.qn_model.specs.Holding.{answers_stop, holds, is_stopped, stop_due}
use Rattle.qn_model.specs.Wanted.{asks_mail, mail_tick}
use Rattle.qn_model.specs.NodeOutputs.{is_asking, is_moment, moment}
use Rattle.qn_plain.specs.declared.life.Life.{Life}
use Rattle.qn_plain.specs.declared.life.Stopping.{Stopping}
use Rattle.qn_plain.specs.declared.life.Stopping.TheVariants.{NotAsked, Asked, Answered}

-- how the last Stop stands
unfoldable pub stopping : List Line → Stopping
stopping [] = NotAsked
stopping (line ∷ past) =
    if has_start line.outs then NotAsked
    else (if has_stop line.outs then Asked
    else (if answers_stop line.what then Answered line.tick else stopping past))

-- whether a Stop may be given at a tick, by how the last one stands
abbrev pub stops_again : Stopping → ℕ → ℕ → Bool
stops_again NotAsked wait tick = true
stops_again Asked wait tick = false
stops_again (Answered at) wait tick = nat_le (at + wait) tick

-- what a log says of the node itself
abbrev pub life_of : Settings → List Line → Life
life_of s log =
    record {
      phase = phase s log;
      clean = begins_clean log;
      slot_number = slot_number log;
      claimed = claimed log;
      holds = holds log;
      stop_due = stop_due log;
      stopping = stopping log;
      op = op_out log;
      ask_place = ask_place log;
      ask_tick = ask_tick log;
      timing = timing log;
      mail_tick = mail_tick log;
      moment = moment s log;
      asks = is_asking s log;
    }

-- whether an answer at a tick is in time
abbrev pub is_timely : ℕ → Life → Bool
is_timely tick life = nat_le tick (life.ask_tick + life.timing.read_limit)

-- the phase after an entry
abbrev pub life_phase : Settings → ℕ → What → Life → Phase
life_phase s tick entry life = next_phase s entry (is_timely tick life) life.phase

-- whether the others are asked at an entry
abbrev pub asks_at : Settings → ℕ → What → Life → Bool
asks_at s tick entry life = is_up (life_phase s tick entry life) && is_moment life.timing.loop_ms tick entry life.moment

-- the life with an entry as it was read, before its outputs
abbrev pub life_taken : Settings → ℕ → What → Life → Life
life_taken s tick entry life =
    record {
      phase = life_phase s tick entry life;
      clean = is_clean_begin entry || life.clean;
      slot_number = unwrap_or (number_read entry) life.slot_number;
      claimed = life.claimed;
      holds = life.holds && not (is_stopped entry);
      stop_due = life.stop_due && not (answers_stop entry);
      stopping = if answers_stop entry then Answered tick else life.stopping;
      op = if is_answer entry then None else life.op;
      ask_place = life.ask_place;
      ask_tick = life.ask_tick;
      timing = unwrap_or (times_of entry) life.timing;
      mail_tick = life.mail_tick;
      moment = if asks_at s tick entry life then Some tick else life.moment;
      asks = asks_at s tick entry life;
    }

-- how the last Stop stands after the outputs of an entry
abbrev pub stopping_given : List Out → Stopping → Stopping
stopping_given outs before = if has_start outs then NotAsked else (if has_stop outs then Asked else before)

-- the life with the outputs of the newest entry
abbrev pub life_given : ℕ → ℕ → List Out → Life → Life
life_given place tick outs life =
    record life {
      claimed = option_or (claim_of (disk_of outs)) life.claimed;
      holds = has_start outs || life.holds;
      stop_due = has_stop outs || life.stop_due;
      stopping = stopping_given outs life.stopping;
      op = option_or (disk_of outs) life.op;
      ask_place = if is_some (disk_of outs) then place else life.ask_place;
      ask_tick = if is_some (disk_of outs) then tick else life.ask_tick;
      mail_tick = if asks_mail (disk_of outs) then tick else life.mail_tick;
    }

-- while the node boots, one more than the incarnation that was read can be claimed
abbrev pub IsClaimable : Life → Type 0
IsClaimable life = IsTrue (is_booting life.phase) → life.slot_number < 2 ^ 64 - 1
