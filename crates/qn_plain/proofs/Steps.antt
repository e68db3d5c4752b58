-- One entry more, as a whole, and the whole history.
use Rattle.std.proofs.Common.{◌≡◌, ℕ, suc, ◌-◌, ◌^◌, ◌<◌, ◌≤◌, Bool, List, length, ap, sym, ◌∙◌, subst}
use Rattle.std.specs.Prelude.{IsTrue}
use Rattle.qn_base.specs.lemmas.Numbers.{either_within}
use Rattle.qn_model.specs.declared.configuration.Settings.{Settings}
use Rattle.qn_model.specs.declared.entries.Entry.{Entry}
use Rattle.qn_model.specs.declared.entries.What.{What}
use Rattle.qn_model.specs.declared.outputs.Out.{Out}
use Rattle.qn_model.specs.Log.{Line, slot_number}
use Rattle.qn_model.specs.Fitting.{read_as}
use Rattle.qn_model.specs.Licences.{writes_reset}
use Rattle.qn_model.specs.NodeOutputs.{is_begin, newest_outs, outs_at, taken_in, with_entry, with_read}
use Rattle.qn_plain.specs.declared.past.Past.{Past}
use Rattle.qn_plain.specs.declared.peer.Reading.{Reading}
use Rattle.qn_plain.specs.Life.{is_timely, life_given}
use Rattle.qn_plain.specs.Outputs.{outs_after}
use Rattle.qn_plain.specs.Past.{PastFor, ResetsBy, TakesIn, read_at, reading_of}
use Rattle.qn_plain.specs.Peer.{peer_at}
use Rattle.qn_plain.proofs.Claimable.{begins_first}
use Rattle.qn_plain.proofs.Lives.{with_outs}
use Rattle.qn_plain.proofs.Stands.{past_given, past_taken, read-past}
use Rattle.qn_plain.proofs.Given.{outs_past}

-- an entry more stands for the log with it, and gives what comes out of it
pub record Adds (s : Settings) (me : ℕ) (log : List Line) (entry : Entry) (new : Past) (outs : List Out) : Type 0 where
  pub stands : PastFor s new (with_entry s me log entry)
  pub given : outs ≡ newest_outs (with_entry s me log entry)

-- the same of an entry as it was read
record AddsRead (s : Settings) (me : ℕ) (log : List Line) (tick : ℕ) (w : What) (new : Past) (outs : List Out) : Type 0 where
  stands : PastFor s new (with_read s me log tick w)
  given : outs ≡ newest_outs (with_read s me log tick w)

adds_read : (s : Settings) (me : ℕ) (old mid new : Past) (log : List Line) (place tick : ℕ) (w : What) (reading : Reading) (timely : Bool) (outs : List Out)
    → place ≡ suc (length log) → (IsTrue (is_begin w) → slot_number log < 2 ^ 64 - 1)
    → reading ≡ reading_of place tick w old → timely ≡ is_timely tick old.life → TakesIn s reading old mid
    → outs ≡ outs_after s me old.life.phase timely tick w mid → new ≡ record mid { life = life_given place tick outs mid.life }
    → PastFor s old log → AddsRead s me log tick w new outs
adds_read s me old mid new log place tick w reading timely outs here first known in_time takes comes gives h =
    let mid_for = past_taken s old mid log place tick w reading here known first h takes in
    let is : outs ≡ outs_at s me log tick w (taken_in log tick w)
    = comes ∙ (ap (λ b. outs_after s me old.life.phase b tick w mid) in_time ∙ outs_past s old mid log me tick w h mid_for) in
    record {
      stands = subst (λ given. PastFor s new (with_outs log tick w given)) is (past_given s mid new log place tick w outs here gives mid_for);
      given = is;
    }

pub adds : (s : Settings) (me : ℕ) (old mid new : Past) (log : List Line) (place : ℕ) (entry : Entry) (w : What) (reading : Reading) (timely : Bool) (outs : List Out)
    → place ≡ suc (length log) → w ≡ read_at s me place old entry.what → reading ≡ reading_of place entry.tick w old → timely ≡ is_timely entry.tick old.life
    → TakesIn s reading old mid → outs ≡ outs_after s me old.life.phase timely entry.tick w mid
    → new ≡ record mid { life = life_given place entry.tick outs mid.life } → PastFor s old log → Adds s me log entry new outs
unfolding with_entry
adds s me old mid new log place entry w reading timely outs here read known in_time takes comes gives h =
    let is : w ≡ read_as s me log entry.what = read ∙ read-past s old log h me place entry.what here in
    let first : IsTrue (is_begin w) → slot_number log < 2 ^ 64 - 1
    = λ begins. begins_first s me log entry.what (subst (λ v. IsTrue (is_begin v)) is begins) in
    let added = adds_read s me old mid new log place entry.tick w reading timely outs here first known in_time takes comes gives h in
    record {
      stands = subst (λ v. PastFor s new (with_read s me log entry.tick v)) is added.stands;
      given = subst (λ v. outs ≡ newest_outs (with_read s me log entry.tick v)) is added.given;
    }

pub resets_more : (s : Settings) (reading : Reading) (old new : Past) (tick : ℕ) → TakesIn s reading old new → reading.tick ≤ tick
    → ResetsBy old tick → ResetsBy new tick
resets_more s reading old new tick takes late h = λ rank below.
    subst (λ p. p.reset_tick ≤ tick) (sym (takes.each rank below))
    (either_within (writes_reset rank reading.what) reading.tick (peer_at old.peers rank).reset_tick tick late (h rank below))
