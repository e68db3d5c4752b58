-- The disk operation that comes next: its call is the next one of the run.
use Rattle.std.proofs.Common.{◌≡◌, ℕ, false, ◌+◌, List, Option, None, Some, refl, sym, ap, subst, ◌∙◌, get_or}
use Rattle.std.specs.Prelude.{option_and_then, slice_get}
use Rattle.std.proofs.lemmas.Option.{slice_get-get_or}
use Rattle.qn_base.specs.declared.calls.Call.{Call}
use Rattle.qn_base.specs.Plans.{Plan, question}
use Rattle.qn_model.specs.declared.configuration.Settings.{Settings}
use Rattle.qn_model.specs.declared.entries.What.{What}
use Rattle.qn_model.specs.declared.outputs.DiskOp.{DiskOp}
use Rattle.qn_model.specs.declared.outputs.Out.{Out}
use Rattle.qn_model.specs.declared.outputs.Out.TheVariants as out
use Rattle.qn_model.specs.Log.{Line}
use Rattle.qn_node.specs.Outputs.{IsNodeOutput}
use Rattle.qn_live.specs.declared.place.Place.{Place}
use Rattle.qn_live.specs.declared.place.Place.TheVariants as place
use Rattle.qn_live.specs.declared.run.NodeRun.{NodeRun}
use Rattle.qn_live.specs.Halts.{is_on_disk}
use Rattle.std.specs.Option.{option_map}
use Rattle.qn_polls.specs.Poller.{poller_of}
use Rattle.qn_live.specs.Machine.{HasMore, RunFor, acting, left_at, operation_at, operation_in, operation_of, state_of}
use Rattle.qn_live.specs.Performing.{disk_answer, disk_call, noted, out_call, own_number, waits_after}
use Rattle.qn_live.specs.Running.{Ran}
use Rattle.qn_live.proofs.Ids.{holds_at}
use Rattle.qn_live.proofs.Joining.{acting_more, parting_more, saying_more}

-- the output of an operation
pub op_known : (o : Out) (op : DiskOp) → operation_in o ≡ Some op → o ≡ out.Disk op
op_known (out.Disk found) op is = cc
op_known out.Stop op is = cc
op_known out.Start op is = cc
op_known out.Feed op is = cc
op_known (out.Send to packet) op is = cc
op_known out.Disarm op is = cc
op_known (out.Halt kind) op is = cc

-- the call of an output that is no operation
off_disk : (s : Settings) (me number : ℕ) (o : Out) → operation_in o ≡ None → is_on_disk (out_call s me number o) ≡ false
unfolding out_call
off_disk s me number (out.Disk found) is = cc
off_disk s me number out.Stop is = refl
off_disk s me number out.Start is = refl
off_disk s me number out.Feed is = refl
off_disk s me number (out.Send to packet) is = refl
off_disk s me number out.Disarm is = refl
off_disk s me number (out.Halt kind) is = refl

-- the output that comes next
record NextOut (run : NodeRun) (op : DiskOp) : Type 0 where
  at : ℕ
  place : run.place ≡ place.Act at
  found : slice_get run.outs at ≡ Some (out.Disk op)

next_out : (run : NodeRun) (op : DiskOp) → operation_of run ≡ Some op → NextOut run op
next_out run op is = of_place run.place refl is
  where
    of_out : (at : ℕ) (o : Option Out) → run.place ≡ place.Act at → slice_get run.outs at ≡ o → option_and_then operation_in o ≡ Some op → NextOut run op
    of_out at None e found here = absurd (let no : None ≡ Some op = here in cc)
    of_out at (Some o) e found here = record { at = at; place = e; found = found ∙ ap Some (op_known o op here) }

    of_place : (p : Place) → run.place ≡ p → operation_at run.outs p ≡ Some op → NextOut run op
    of_place (place.Act at) e here = of_out at (slice_get run.outs at) e refl here
    of_place place.Receive e here = absurd (let no : None ≡ Some op = here in cc)
    of_place (place.Now choice) e here = absurd (let no : None ≡ Some op = here in cc)
    of_place (place.Poll poll greets) e here = absurd (let no : None ≡ Some op = here in cc)
    of_place (place.Greet said to) e here = absurd (let no : None ≡ Some op = here in cc)
    of_place (place.Part view to) e here = absurd (let no : None ≡ Some op = here in cc)
    of_place (place.Over end) e here = absurd (let no : None ≡ Some op = here in cc)

pub op_found : (run : NodeRun) (at : ℕ) (op : DiskOp) → run.place ≡ place.Act at → operation_of run ≡ Some op → slice_get run.outs at ≡ Some (out.Disk op)
op_found run at op e is =
    let n = next_out run op is in
    let same : n.at ≡ at = cc (n.place, e) in
    subst (λ (k : ℕ). slice_get run.outs k ≡ Some (out.Disk op)) same n.found

-- what is left once the operation was answered so
pub acted : (run : NodeRun) (log : List Line) (at : ℕ) (op : DiskOp) (made : Call) (answer : What) → disk_answer run.settings op made ≡ answer
    → acting run (noted run.settings (out.Disk op) made (state_of run log)) (at + 1)
    ≡ acting run (record { log = log; loop_ms = run.loop_ms; maker = run.member; waits = record { stopped = run.waits.stopped; disk = Some answer }; rests = run.rests; last_look = run.last_look; asked = run.asked; words = run.words; poller = option_map poller_of run.poller; polls_from = run.polls_from }) (at + 1)
unfolding waits_after
acted run log at op made answer is = rw is refl

module _ (run : NodeRun) (plan : Plan Ran) (h : RunFor run plan) where
  -- what is left at a place that is known
  left_here : (p : Place) → run.place ≡ p → plan ≡ left_at run h.log p
  left_here p e = h.is_left ∙ ap (λ p. left_at run h.log p) e

  more_here : (p : Place) → run.place ≡ p → HasMore run.settings run.me.0 run.outs p
  more_here p e = subst (λ (p : Place). HasMore run.settings run.me.0 run.outs p) e h.more

  pub op_asked : (op : DiskOp) → operation_of run ≡ Some op → question plan ≡ Some (disk_call run.settings run.me.0 (own_number h.log) op)
  unfolding out_call
  op_asked op is =
      let n = next_out run op is in
      ap question (left_here (place.Act n.at) n.place ∙ acting_more run (state_of run h.log) n.at (out.Disk op) n.found)

  pub op_fits : (op : DiskOp) → operation_of run ≡ Some op → IsNodeOutput run.settings (out.Disk op)
  op_fits op is =
      let n = next_out run op is in
      let more = more_here (place.Act n.at) n.place in
      holds_at (IsNodeOutput run.settings) run.outs n.at (out.Disk op) more.2 more.0 n.found

  pub no_op_asked : (asked : Call) → operation_of run ≡ None → question plan ≡ Some asked → is_on_disk asked ≡ false
  no_op_asked asked is next = of_place run.place refl is
    where
      by_question : (found : Call) → question plan ≡ Some found → is_on_disk found ≡ false → is_on_disk asked ≡ false
      by_question found e off = let same : found ≡ asked = cc in ap is_on_disk (sym same) ∙ off

      of_out : (at : ℕ) (o : Option Out) → run.place ≡ place.Act at → slice_get run.outs at ≡ o → option_and_then operation_in o ≡ None → is_on_disk asked ≡ false
      of_out at None e found here =
          absurd
          (let some : slice_get run.outs at ≡ Some (get_or run.outs at out.Stop) = slice_get-get_or run.outs at out.Stop (more_here (place.Act at) e).0 in
          cc)
      of_out at (Some o) e found here =
          by_question (out_call run.settings run.me.0 (own_number h.log) o)
          (ap question (left_here (place.Act at) e ∙ acting_more run (state_of run h.log) at o found))
          (off_disk run.settings run.me.0 (own_number h.log) o here)

      of_place : (p : Place) → run.place ≡ p → operation_at run.outs p ≡ None → is_on_disk asked ≡ false
      of_place (place.Act at) e here = of_out at (slice_get run.outs at) e refl here
      of_place place.Receive e here = by_question _ (ap question (left_here place.Receive e)) refl
      of_place (place.Now choice) e here = by_question _ (ap question (left_here (place.Now choice) e)) refl
      of_place (place.Poll poll greets) e here = by_question _ (ap question (left_here (place.Poll poll greets) e)) refl
      of_place (place.Greet said to) e here =
          let more = more_here (place.Greet said to) e in
          by_question _ (ap question (left_here (place.Greet said to) e ∙ saying_more run h.log said to more.0 more.1)) refl
      of_place (place.Part view to) e here =
          let more = more_here (place.Part view to) e in
          by_question _ (ap question (left_here (place.Part view to) e ∙ parting_more run h.log view to more.0 more.1)) refl
      of_place (place.Over end) e here = absurd (let none : None ≡ Some asked = sym (ap question (left_here (place.Over end) e)) ∙ next in cc)
