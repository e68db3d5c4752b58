-- What one call that returns does to a host and to the node of the world that it is: this project's profile.
use Rattle.std.specs.Prelude.{◌≡◌, ◌≤◌, ℕ, Bool, true, false, List, [], ◌∷◌, ◌++◌, Option, None, Some, Contains}
use Rattle.qn_base.specs.declared.calls.Call.{Call}
use Rattle.qn_base.specs.declared.calls.Call.TheVariants as call
use Rattle.qn_base.specs.Calls.{blank}
use Rattle.qn_model.specs.declared.configuration.Settings.{Settings}
use Rattle.qn_model.specs.declared.entries.What.{What}
use Rattle.qn_model.specs.declared.outputs.DiskOp.{DiskOp}
use Rattle.qn_model.specs.declared.outputs.Out.{Out}
use Rattle.qn_model.specs.declared.outputs.Out.TheVariants as out
use Rattle.qn_model.specs.declared.packets.Packet.{Packet}
use Rattle.qn_model.specs.declared.packets.Sent.{Sent}
use Rattle.qn_model.specs.Log.{is_answer, now, op_out}
use Rattle.qn_model.specs.Moments.{Running, handed, tick_of}
use Rattle.qn_model.specs.NodeOutputs.{newest_outs}
use Rattle.qn_model.specs.World.{given_up}
use Rattle.qn_wire.specs.Reading.{packet_of}
use Rattle.qn_live.specs.Runs.{looked_at}
use Rattle.qn_live.specs.declared.place.Choice.{Choice}
use Rattle.qn_live.specs.Running.{RunState}
use Rattle.qn_joined.specs.Joints.{Host, MayAnswer, counts, returned, waits_for}
use Rattle.qn_safety.specs.NodeLogs.{IsNodeLog}
use Rattle.qn_joined.specs.Owning.{is_no_stop}
use Rattle.qn_joined.specs.Stands.{Spot, Receiving, Looking, Acting, Polling, Saying, Parting, Ended}
use Rattle.qn_joined.specs.WorldOf.{AreAmong, IsNode, Waiting, WasSentTo, is_answer_in}
use Rattle.qn_live.specs.Polling.{answered}

-- a host whose run stands there
abbrev pub at : Host → Spot → Host
at host spot =
    record host { stand = record { turn = host.stand.turn; more = host.stand.more; spot = spot } }

-- the call that comes next is a look at the clock
abbrev pub is_looking : Spot → Bool
is_looking (Looking chosen) = true
is_looking (Receiving st) = false
is_looking (Acting entry outs o rest st) = false
is_looking (Polling poll sents st) = false
is_looking (Saying sent rest st) = false
is_looking (Parting end sent rest st) = false
is_looking (Ended ran) = false

-- what of the packets that were sent to a rank counts was sent by a node of the world
abbrev pub KnowsPackets : ℕ → List (ℕ × List ℕ) → List Sent → Type 0
KnowsPackets rank sent all =
    (bytes : List ℕ) (p : Packet)
    → Contains sent (rank, bytes)
    → packet_of bytes ≡ Some p
    → counts (Some p) ≡ true
    → WasSentTo rank all p

-- a call that returns, and that is no look at the clock, leaves a host the node that it was
abbrev pub ReturnsAsNode : Settings → ℕ → Type 0
ReturnsAsNode s rank =
    (host : Host) (n : Running) (took : Option What) (left : List DiskOp) (all : List Sent)
    (spot : Spot) (made : Call) (time : ℕ) (sent : List (ℕ × List ℕ))
    → (n.on ≡ true → IsNodeLog s n.log)
    → IsNode s rank (at host spot) n took left all
    → host.on ≡ true
    → host.asked ≡ true
    → waits_for s rank (at host spot) ≡ Some (blank made)
    → MayAnswer rank (at host spot) sent made
    → KnowsPackets rank sent all
    → is_looking spot ≡ false
    → IsNode s rank (returned s rank made time (at host spot)) n took left all

-- each packet among the outputs was sent
abbrev pub AllSaid : List Sent → List Out → Type 0
AllSaid all [] = Unit {0}
AllSaid all (out.Send to p ∷ outs) = WasSentTo to.0 all p × AllSaid all outs
AllSaid all (out.Stop ∷ outs) = AllSaid all outs
AllSaid all (out.Start ∷ outs) = AllSaid all outs
AllSaid all (out.Feed ∷ outs) = AllSaid all outs
AllSaid all (out.Disk op ∷ outs) = AllSaid all outs
AllSaid all (out.Disarm ∷ outs) = AllSaid all outs
AllSaid all (out.Halt kind ∷ outs) = AllSaid all outs

-- what an entry does to what the operation of its node took, and to its leftovers: an answer spends what was taken
pub record Spends (s : Settings) (rank : ℕ) (entry : What) (host : Host) (took took' : Option What) (left left' : List DiskOp) : Type 0 where
  pub plain : is_answer entry ≡ false → (took' ≡ took) × (left' ≡ left)
  pub answer : is_answer entry ≡ true → (took' ≡ None) × AreAmong s rank host.left left'

-- a host that is to look at the clock is ready to be handed what it chose
pub record IsReady (s : Settings) (rank : ℕ) (host : Host) (chosen : Choice × RunState) (n : Running) (took : Option What) (left : List DiskOp) : Type 0 where
  pub log : n.log ≡ chosen.1.log
  pub clock : n.clock ≡ host.clock
  pub tick : now n.log ≤ tick_of n.clock
  pub fed : host.fed ≤ n.fed
  pub decided : n.decided ≡ host.decided
  pub silent : op_out n.log ≡ None → took ≡ None
  pub waiting : Waiting chosen.1 took
  pub calm : is_no_stop chosen.1.waits.stopped ≡ true
  pub free : is_answer_in chosen.0 ≡ true → chosen.1.waits.disk ≡ None
  pub idle : host.took ≡ None
  pub among : AreAmong s rank host.left (left ++ given_up (op_out chosen.1.log) took)

-- a look at the clock hands the node of the world what it hands the running node
abbrev pub LooksAsNode : Settings → ℕ → Type 0
LooksAsNode s rank =
    (host : Host) (chosen : Choice × RunState) (n : Running) (took took' : Option What)
    (left left' : List DiskOp) (all : List Sent) (time tick : ℕ)
    → IsReady s rank host chosen n took left
    → host.on ≡ true
    → host.asked ≡ true
    → tick ≡ tick_of host.clock
    → IsNodeLog s (handed s rank time (looked_at tick (answered tick chosen)).1 n).log
    → Spends s rank (looked_at tick (answered tick chosen)).1 host took took' left left'
    → AllSaid all (newest_outs (handed s rank time (looked_at tick (answered tick chosen)).1 n).log)
    → IsNode s rank (returned s rank (call.Now tick) time (at host (Looking chosen)))
    (handed s rank time (looked_at tick (answered tick chosen)).1 n) took' left' all
