-- What is among the outputs of a node that acts.
use Rattle.std.proofs.Common.{◌≡◌, ℕ, Bool, true, false, List, [], ◌∷◌, ◌++◌, map, Option, None, Some, refl, ◌∙◌, ◌||◌}
use Rattle.std.proofs.Math.Bool.{or-false}
use Rattle.std.specs.Prelude.{if◌then◌else◌}
use Rattle.std.specs.Option.{option_map_or, option_or}
use Rattle.qn_base.specs.declared.ids.View.{View}
use Rattle.qn_model.specs.declared.configuration.Settings.{Settings}
use Rattle.qn_model.specs.declared.entries.What.{What}
use Rattle.qn_model.specs.declared.entries.What.TheVariants as what
use Rattle.qn_model.specs.declared.outputs.DiskOp.{DiskOp}
use Rattle.qn_model.specs.declared.outputs.Out.{Out}
use Rattle.qn_model.specs.declared.outputs.Out.TheVariants as out
use Rattle.qn_model.specs.Log.{Line, disk_of, has_start, has_stop}
use Rattle.qn_model.specs.Holding.{holds}
use Rattle.qn_model.specs.NodeVotes.{view}
use Rattle.qn_model.specs.NodeOutputs.{acts, ask_to, asks_under, disk_outs, gives_start, gives_stop, is_asking, replies, when}
use Rattle.qn_model.specs.Wanted.{wanted_with_delay}
use Rattle.qn_model.specs.lemmas.Operations.{disk_of-append}

has_start-append : (first second : List Out) → has_start (first ++ second) ≡ (has_start first || has_start second)
has_start-append [] second = refl
has_start-append (out.Stop ∷ first) second = has_start-append first second
has_start-append (out.Start ∷ first) second = refl
has_start-append (out.Feed ∷ first) second = has_start-append first second
has_start-append (out.Send to packet ∷ first) second = has_start-append first second
has_start-append (out.Disk op ∷ first) second = has_start-append first second
has_start-append (out.Disarm ∷ first) second = has_start-append first second
has_start-append (out.Halt kind ∷ first) second = has_start-append first second

has_stop-append : (first second : List Out) → has_stop (first ++ second) ≡ (has_stop first || has_stop second)
has_stop-append [] second = refl
has_stop-append (out.Stop ∷ first) second = refl
has_stop-append (out.Start ∷ first) second = has_stop-append first second
has_stop-append (out.Feed ∷ first) second = has_stop-append first second
has_stop-append (out.Send to packet ∷ first) second = has_stop-append first second
has_stop-append (out.Disk op ∷ first) second = has_stop-append first second
has_stop-append (out.Disarm ∷ first) second = has_stop-append first second
has_stop-append (out.Halt kind ∷ first) second = has_stop-append first second

-- what a list of outputs has of the three that a log is read for
pub record Has (outs : List Out) (stops starts : Bool) (op : Option DiskOp) : Type 0 where
  pub of_stop : has_stop outs ≡ stops
  pub of_start : has_start outs ≡ starts
  pub of_op : disk_of outs ≡ op

abbrev IsPlain : List Out → Type 0
IsPlain outs = Has outs false false None

or_none : (op : Option DiskOp) → option_or op None ≡ op
or_none None = refl
or_none (Some op) = refl

-- outputs with more of another kind after them
plain_behind : (outs more : List Out) (stops starts : Bool) (op : Option DiskOp) → Has outs stops starts op → IsPlain more → Has (outs ++ more) stops starts op
plain_behind outs more stops starts op has plain = record {
  of_stop = has_stop-append outs more ∙ rw (has.of_stop, plain.of_stop) (or-false stops);
  of_start = has_start-append outs more ∙ rw (has.of_start, plain.of_start) (or-false starts);
  of_op = disk_of-append outs more ∙ rw (has.of_op, plain.of_op) (or_none op);
}

plain_feed : (fed : Bool) → IsPlain (when fed out.Feed)
plain_feed true = record { of_stop = refl; of_start = refl; of_op = refl }
plain_feed false = record { of_stop = refl; of_start = refl; of_op = refl }

plain_nothing : IsPlain []
plain_nothing = record { of_stop = refl; of_start = refl; of_op = refl }

module _ (s : Settings) (me : ℕ) (log : List Line) where
  plain_send : (b : Bool) (to : _) (packet : _) → IsPlain (when b (out.Send to packet))
  plain_send true to packet = record { of_stop = refl; of_start = refl; of_op = refl }
  plain_send false to packet = record { of_stop = refl; of_start = refl; of_op = refl }

  plain_replies : (held : Bool) (entry : What) → IsPlain (replies s me held log entry)
  plain_replies held (what.Ask ask) = plain_send _ _ _
  plain_replies held what.Begin = plain_nothing
  plain_replies held what.BeginClean = plain_nothing
  plain_replies held (what.Header seen) = plain_nothing
  plain_replies held (what.SlotRead rank seen) = plain_nothing
  plain_replies held (what.MailChecked seen) = plain_nothing
  plain_replies held (what.Claimed ok) = plain_nothing
  plain_replies held (what.Cleared ok) = plain_nothing
  plain_replies held (what.MailRead seen) = plain_nothing
  plain_replies held (what.MailWritten rank ok) = plain_nothing
  plain_replies held (what.View installed) = plain_nothing
  plain_replies held (what.Tell tell) = plain_nothing
  plain_replies held (what.Device agrees) = plain_nothing
  plain_replies held what.Tick = plain_nothing
  plain_replies held (what.Stopped ok) = plain_nothing
  plain_replies held what.Leave = plain_nothing
  plain_replies held (what.Closed ok) = plain_nothing

  plain_map : (present : View) (ranks : List ℕ) → IsPlain (map (ask_to me log present) ranks)
  plain_map present [] = plain_nothing
  plain_map present (rank ∷ ranks) =
      let rest = plain_map present ranks in record { of_stop = rest.of_stop; of_start = rest.of_start; of_op = rest.of_op }

  plain_under : (present : Option View) → IsPlain (option_map_or (asks_under s me log) present [])
  plain_under None = plain_nothing
  plain_under (Some present) = plain_map present _

  plain_asks : (b : Bool) → IsPlain (if b then option_map_or (asks_under s me log) (view log) [] else [])
  plain_asks true = plain_under (view log)
  plain_asks false = plain_nothing

  stop_and_start : (stops starts : Bool) → Has (when stops out.Stop ++ when starts out.Start) stops starts None
  stop_and_start true true = record { of_stop = refl; of_start = refl; of_op = refl }
  stop_and_start true false = record { of_stop = refl; of_start = refl; of_op = refl }
  stop_and_start false true = record { of_stop = refl; of_start = refl; of_op = refl }
  stop_and_start false false = record { of_stop = refl; of_start = refl; of_op = refl }

  op_behind : (outs : List Out) (stops starts : Bool) (op : Option DiskOp) → Has outs stops starts None → Has (outs ++ disk_outs op) stops starts op
  op_behind outs stops starts None has = plain_behind outs [] stops starts None has plain_nothing
  op_behind outs stops starts (Some op) has = record {
    of_stop = has_stop-append outs (out.Disk op ∷ []) ∙ rw has.of_stop (or-false stops);
    of_start = has_start-append outs (out.Disk op ∷ []) ∙ rw has.of_start (or-false starts);
    of_op = disk_of-append outs (out.Disk op ∷ []) ∙ rw has.of_op;
  }

  -- a node that acts gives a Stop, a Start and a disk operation exactly where the definitions say so
  pub acts_has : (entry : What) (fed : Bool) → Has (acts s me log entry fed) (gives_stop s me log) (gives_start s me log) (wanted_with_delay s me log)
  unfolding acts
  acts_has entry fed =
      let stops = gives_stop s me log in
      let starts = gives_start s me log in
      op_behind _ stops starts (wanted_with_delay s me log)
      (plain_behind _ _ stops starts None
      (plain_behind _ _ stops starts None
      (plain_behind _ _ stops starts None (stop_and_start stops starts) (plain_feed fed))
      (plain_replies (starts || holds log) entry))
      (plain_asks (is_asking s log)))
