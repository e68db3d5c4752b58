-- What a core that hears the other members stands for: a node's log.
use Rattle.std.specs.Prelude.{◌≡◌, ◌<◌, ◌+◌, ◌^◌, ℕ, Bool, true, false, List, [], ◌∷◌, Option, None, Some, nat_le, nat_lt, if◌then◌else◌}
use Rattle.std.specs.Option.{option_map, option_map_or}
use Rattle.qn_base.specs.declared.ids.Rank.{Rank}
use Rattle.qn_base.specs.Members.{is_member}
use Rattle.qn_model.specs.declared.configuration.Settings.{Settings}
use Rattle.qn_model.specs.declared.entries.What.{What}
use Rattle.qn_model.specs.declared.entries.What.TheVariants as what
use Rattle.qn_model.specs.declared.outputs.Out.{Out}
use Rattle.qn_model.specs.declared.outputs.Out.TheVariants as out
use Rattle.qn_model.specs.declared.packets.Ask.{Ask}
use Rattle.qn_model.specs.declared.packets.Packet.TheVariants as packet
use Rattle.qn_model.specs.declared.packets.Tell.{Tell}
use Rattle.qn_model.specs.Log.{Line, claimed, now, timing}
use Rattle.qn_model.specs.NodeVotes.{install, view}
use Rattle.qn_model.specs.Hearing.{is_free, is_held, told}
use Rattle.qn_model.specs.NodeOutputs.{is_asking, moment}
use Rattle.qn_model.specs.Phases.{is_up, phase}
use Rattle.qn_heard.specs.declared.listener.Heard.{Heard}
use Rattle.qn_heard.specs.declared.listener.Heardness.{Heardness}
use Rattle.qn_heard.specs.declared.listener.Heardness.TheVariants as said

-- how many views the core was told
abbrev pub installs_of : Heard → ℕ
installs_of heard = heard.installs

-- what a member said of the resource since the last View
abbrev pub heardness : List Line → ℕ → Heardness
heardness log rank =
    if is_free log rank then said.Free else (if is_held log rank then said.Held else said.Unheard)

-- a Tell came from that rank since the last View
abbrev pub is_told : List Line → ℕ → Bool
is_told log rank = told (λ tell. true) rank log

-- the outputs that send a Tell, where there is one
abbrev pub tells_sent : Rank → Option Tell → List Out
tells_sent to None = []
tells_sent to (Some tell) = out.Send to (packet.Tell tell) ∷ []

-- the output that sends an Ask, where there is one
abbrev pub asks_sent : Rank → Option Ask → Option Out
asks_sent to ask = option_map (λ question. out.Send to (packet.Ask question)) ask

-- a tick that a clock can reach
abbrev pub as_tick : ℕ → Option ℕ
as_tick tick = if nat_lt tick (2 ^ 64) then Some tick else None

-- the tick from which the next asking is due, after the last asking moment
abbrev pub due_after : ℕ → Option ℕ → Option ℕ
due_after loop None = None
due_after loop (Some moment) = as_tick (moment + loop)

-- whether an asking is due at a tick
abbrev pub is_due : Heard → ℕ → Bool
is_due heard tick = option_map_or (λ due. nat_le due tick) heard.next_ask false

-- an entry that bears on what a core hears: a View, a Tell, the header with the loop's time, and the end
-- of the boot, from which on a node asks
abbrev pub bears_on_hearing : What → Bool
bears_on_hearing (what.View view) = true
bears_on_hearing (what.Tell tell) = true
bears_on_hearing (what.Header seen) = true
bears_on_hearing (what.Cleared ok) = true
bears_on_hearing entry = false

-- the core has heard what the log has: who the node is, its present view, and what was said since
pub record Hears (heard : Heard) (me : ℕ) (log : List Line) : Type 0 where
  pub own : heard.me.0 ≡ me
  pub incarnations : claimed log ≡ Some heard.incarnation
  pub loops : (timing log).loop_ms ≡ heard.loop_ms
  pub views : view log ≡ heard.view
  pub installed : install log ≡ heard.installs
  pub frees : (rank : ℕ) → rank < 32 → is_member heard.free rank ≡ is_free log rank
  pub tolds : (rank : ℕ) → rank < 32 → is_member heard.told rank ≡ is_told log rank

-- the core stands for the log of the node of that rank
pub record HeardFor (heard : Heard) (s : Settings) (me : ℕ) (log : List Line) : Type 0 where
  pub hears : Hears heard me log
  pub next : is_up (phase s log) ≡ true → heard.next_ask ≡ due_after heard.loop_ms (moment s log)

-- the core has taken in the newest entry of the log, and was not yet asked whom to ask at it
pub record HeardBefore (heard : Heard) (s : Settings) (me : ℕ) (log : List Line) : Type 0 where
  pub hears : Hears heard me log
  pub moments : is_up (phase s log) ≡ true → now log < 2 ^ 64 → is_due heard (now log) ≡ is_asking s log
  pub later : is_up (phase s log) ≡ true → is_asking s log ≡ false → heard.next_ask ≡ due_after heard.loop_ms (moment s log)
