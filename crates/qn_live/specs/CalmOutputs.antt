-- The outputs that halt no boot, proved over the definitions of a node: what the laws of ends stand on.
use Rattle.std.proofs.Common.{◌≡◌, ℕ, Bool, true, false, not, ◌||◌, ◌&&◌, ◌++◌, List, [], ◌∷◌, Option, None, Some, map, filter, length, refl, if◌then◌else◌}
use Rattle.std.proofs.lemmas.Bool.{and_from}
use Rattle.std.specs.List.{range_with_len}
use Rattle.std.specs.Option.{option_map_or}
use Rattle.qn_base.specs.declared.ids.View.{View}
use Rattle.qn_base.specs.lemmas.Bools.{first_of_both, second_of_both}
use Rattle.qn_model.specs.declared.configuration.Settings.{Settings}
use Rattle.qn_model.specs.declared.disk.Message.{Message}
use Rattle.qn_model.specs.declared.entries.What.{What}
use Rattle.qn_model.specs.declared.entries.What.TheVariants as what
use Rattle.qn_model.specs.declared.outputs.DiskOp.{DiskOp}
use Rattle.qn_model.specs.declared.outputs.HaltKind.TheVariants as halt
use Rattle.qn_model.specs.declared.outputs.Out.{Out}
use Rattle.qn_model.specs.declared.outputs.Out.TheVariants as out
use Rattle.qn_model.specs.Holding.{holds}
use Rattle.qn_model.specs.Log.{Line}
use Rattle.qn_model.specs.NodeOutputs.{acts, ask_to, asks, boot_step_outs, disk_outs, gives_start, gives_stop, is_asked, is_asking, is_begin, live_outs, replies, when}
use Rattle.qn_model.specs.NodeVotes.{view}
use Rattle.qn_model.specs.Wanted.{boot_op, wanted_with_delay}

-- the output halts no boot
abbrev pub calm_out : Out → Bool
calm_out (out.Halt (halt.Boot why)) = false
calm_out (out.Halt (halt.Deadly message)) = true
calm_out out.Stop = true
calm_out out.Start = true
calm_out out.Feed = true
calm_out (out.Send to packet) = true
calm_out (out.Disk op) = true
calm_out out.Disarm = true

abbrev pub calm_outs : List Out → Bool
calm_outs [] = true
calm_outs (o ∷ outs) = calm_out o && calm_outs outs

calm_join : (outs more : List Out) → calm_outs outs ≡ true → calm_outs more ≡ true → calm_outs (outs ++ more) ≡ true
calm_join [] more first second = second
calm_join (o ∷ outs) more first second =
    and_from (calm_out o) (calm_outs (outs ++ more)) (first_of_both (calm_out o) (calm_outs outs) first)
    (calm_join outs more (second_of_both (calm_out o) (calm_outs outs) first) second)

calm_when : (test : Bool) (o : Out) → calm_out o ≡ true → calm_outs (when test o) ≡ true
calm_when true o calm = and_from (calm_out o) true calm refl
calm_when false o calm = refl

calm_disk : (op : Option DiskOp) → calm_outs (disk_outs op) ≡ true
calm_disk None = refl
calm_disk (Some op) = refl

pub calm_boot : (me : ℕ) (clean : Bool) (number : ℕ) (entry : What) → calm_outs (boot_step_outs me clean number entry None) ≡ true
calm_boot me clean number entry =
    calm_join (when (not (is_begin entry)) out.Feed) (disk_outs (boot_op me clean number entry))
    (calm_when (not (is_begin entry)) out.Feed refl) (calm_disk (boot_op me clean number entry))

calm_asks : (me : ℕ) (log : List Line) (present : View) (ranks : List ℕ) → calm_outs (map (ask_to me log present) ranks) ≡ true
calm_asks me log present [] = refl
calm_asks me log present (rank ∷ ranks) = calm_asks me log present ranks

calm_asked : (me : ℕ) (log : List Line) (ranks : View → List ℕ) (asking : Bool) (present : Option View)
    → calm_outs (if asking then option_map_or (λ own. map (ask_to me log own) (ranks own)) present [] else []) ≡ true
calm_asked me log ranks true None = refl
calm_asked me log ranks true (Some own) = calm_asks me log own (ranks own)
calm_asked me log ranks false present = refl

calm_replies : (s : Settings) (me : ℕ) (held : Bool) (log : List Line) (entry : What) → calm_outs (replies s me held log entry) ≡ true
calm_replies s me held log (what.Ask ask) = calm_when _ _ refl
calm_replies s me held log what.Begin = refl
calm_replies s me held log what.BeginClean = refl
calm_replies s me held log (what.Header seen) = refl
calm_replies s me held log (what.SlotRead rank seen) = refl
calm_replies s me held log (what.MailChecked seen) = refl
calm_replies s me held log (what.Claimed ok) = refl
calm_replies s me held log (what.Cleared ok) = refl
calm_replies s me held log (what.MailRead seen) = refl
calm_replies s me held log (what.MailWritten rank ok) = refl
calm_replies s me held log (what.View own) = refl
calm_replies s me held log (what.Tell tell) = refl
calm_replies s me held log (what.Device agrees) = refl
calm_replies s me held log what.Tick = refl
calm_replies s me held log (what.Stopped ok) = refl
calm_replies s me held log what.Leave = refl
calm_replies s me held log (what.Closed ok) = refl

calm_six : (stop start feed tell ask op : List Out) → calm_outs stop ≡ true → calm_outs start ≡ true → calm_outs feed ≡ true
    → calm_outs tell ≡ true → calm_outs ask ≡ true → calm_outs op ≡ true → calm_outs (stop ++ start ++ feed ++ tell ++ ask ++ op) ≡ true
calm_six stop start feed tell ask op one two three four five six =
    calm_join (stop ++ start ++ feed ++ tell ++ ask) op
    (calm_join (stop ++ start ++ feed ++ tell) ask
    (calm_join (stop ++ start ++ feed) tell (calm_join (stop ++ start) feed (calm_join stop start one two) three) four) five) six

calm_acts : (s : Settings) (me : ℕ) (log : List Line) (entry : What) (fed : Bool) → calm_outs (acts s me log entry fed) ≡ true
unfolding acts
calm_acts s me log entry fed =
    calm_six (when (gives_stop s me log) out.Stop) (when (gives_start s me log) out.Start) (when fed out.Feed)
    (replies s me (gives_start s me log || holds log) log entry) (asks s me log) (disk_outs (wanted_with_delay s me log))
    (calm_when (gives_stop s me log) out.Stop refl) (calm_when (gives_start s me log) out.Start refl) (calm_when fed out.Feed refl)
    (calm_replies s me (gives_start s me log || holds log) log entry)
    (calm_asked me log (λ own. filter (is_asked s me log) (range_with_len 0 (length s.nodes))) (is_asking s log) (view log))
    (calm_disk (wanted_with_delay s me log))

pub calm_live : (s : Settings) (me : ℕ) (log : List Line) (entry : What) (fed : Bool) (deadly : Option Message)
    → calm_outs (live_outs s me log entry fed deadly) ≡ true
calm_live s me log entry fed (Some message) = refl
calm_live s me log (what.Closed ok) fed None = refl
calm_live s me log what.Begin fed None = calm_acts s me log what.Begin fed
calm_live s me log what.BeginClean fed None = calm_acts s me log what.BeginClean fed
calm_live s me log (what.Header seen) fed None = calm_acts s me log (what.Header seen) fed
calm_live s me log (what.SlotRead rank seen) fed None = calm_acts s me log (what.SlotRead rank seen) fed
calm_live s me log (what.MailChecked seen) fed None = calm_acts s me log (what.MailChecked seen) fed
calm_live s me log (what.Claimed ok) fed None = calm_acts s me log (what.Claimed ok) fed
calm_live s me log (what.Cleared ok) fed None = calm_acts s me log (what.Cleared ok) fed
calm_live s me log (what.MailRead seen) fed None = calm_acts s me log (what.MailRead seen) fed
calm_live s me log (what.MailWritten rank ok) fed None = calm_acts s me log (what.MailWritten rank ok) fed
calm_live s me log (what.View own) fed None = calm_acts s me log (what.View own) fed
calm_live s me log (what.Ask ask) fed None = calm_acts s me log (what.Ask ask) fed
calm_live s me log (what.Tell tell) fed None = calm_acts s me log (what.Tell tell) fed
calm_live s me log (what.Device agrees) fed None = calm_acts s me log (what.Device agrees) fed
calm_live s me log what.Tick fed None = calm_acts s me log what.Tick fed
calm_live s me log (what.Stopped ok) fed None = calm_acts s me log (what.Stopped ok) fed
calm_live s me log what.Leave fed None = calm_acts s me log what.Leave fed
