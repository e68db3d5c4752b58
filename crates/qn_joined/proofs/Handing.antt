-- A look at the clock hands the node of the world what it hands the running node.
use Rattle.std.proofs.Common.{◌≡◌, ◌≤◌, ℕ, Bool, true, false, not, ◌&&◌, ◌||◌, List, [], ◌∷◌, ◌++◌, Option, None, Some, if◌then◌else◌, refl, sym, ap, subst, ◌∙◌, is_some, arith}
use Rattle.std.specs.Prelude.{is_none, nat_lt}
use Rattle.std.proofs.lemmas.List.{append-nil}
use Rattle.std.proofs.lemmas.Bool.{le-ltb}
use Rattle.qn_base.specs.declared.calls.Call.TheVariants as call
use Rattle.qn_base.specs.declared.ids.View.{View}
use Rattle.qn_model.specs.declared.configuration.Settings.{Settings}
use Rattle.qn_model.specs.declared.entries.What.{What}
use Rattle.qn_model.specs.declared.outputs.DiskOp.{DiskOp}
use Rattle.qn_model.specs.declared.outputs.HaltKind.TheVariants as halt
use Rattle.qn_model.specs.declared.outputs.Out.{Out}
use Rattle.qn_model.specs.declared.outputs.Out.TheVariants as out
use Rattle.qn_model.specs.declared.packets.Sent.{Sent}
use Rattle.qn_model.specs.lemmas.Entries.{read_answers_none}
use Rattle.qn_model.specs.lemmas.Logs.{op_out-newest}
use Rattle.qn_model.specs.Holding.{answers_stop, holds, stop_due}
use Rattle.qn_model.specs.Log.{Line, disk_of, has_stop, is_answer, now, op_out}
use Rattle.qn_model.specs.Moments.{Running, handed, has_feed, is_gone, logged, tick_of}
use Rattle.qn_model.specs.NodeOutputs.{newest_outs, with_entry}
use Rattle.qn_model.specs.Phases.{phase}
use Rattle.qn_model.specs.World.{given_up}
use Rattle.qn_member.specs.Naming.{NamingMaker}
use Rattle.qn_member.specs.NamingViews.{answer_at}
use Rattle.qn_live.specs.declared.place.Choice.{Choice}
use Rattle.qn_live.specs.declared.place.Choice.TheVariants as choice
use Rattle.qn_live.specs.Choosing.{looked, looking, own_of, told, view_or_tick}
use Rattle.qn_live.specs.Performing.{end_after}
use Rattle.qn_live.specs.Running.{RunState}
use Rattle.qn_live.specs.declared.words.Own.{Own}
use Rattle.qn_live.specs.Runs.{looked_at, taken}
use Rattle.qn_joined.specs.Joints.{Host, after_effect, returned}
use Rattle.qn_safety.specs.NodeLogs.{IsNodeLog, is_end, is_disk_last}
use Rattle.qn_joined.specs.Owning.{is_no_stop}
use Rattle.qn_joined.specs.Stands.{Looking, Stand, acts_at, after_spot, clocked_by, log_at}
use Rattle.qn_joined.specs.Nodes.{AllSaid, IsReady, Spends, at}
use Rattle.qn_joined.specs.WorldOf.{AllComeOut, AreAmong, IsAnswer, IsEnding, IsNode, Performs, Waiting, disk_ahead, is_answer_in, still_out}
use Rattle.qn_joined.proofs.Moving.{among_more}
use Rattle.qn_joined.proofs.Owning.{acts_log}
use Rattle.qn_joined.proofs.Standing.{acts_ahead, acts_backed, acts_greets}
use Rattle.qn_safety.specs.Poller.{Poller, answer_taken}
use Rattle.qn_live.specs.Polling.{answered, answered_at}
use Rattle.std.specs.Option.{option_map_or}
use Rattle.std.specs.Prelude.{option_and_then}
use Rattle.qn_model.specs.declared.entries.What.TheVariants as what

-- the outputs of an entry come out of its log
all_come : (log : List Line) (all : List Sent) (outs : List Out)
    → (has_stop outs ≡ true → stop_due log ≡ true)
    → ((op : DiskOp) → disk_of outs ≡ Some op → op_out log ≡ Some op)
    → is_disk_last outs ≡ true
    → AllSaid all outs
    → AllComeOut log all outs
all_come log all [] stops disk last said = tt
all_come log all (out.Stop ∷ outs) stops disk last said = (stops refl, all_come log all outs (λ e. stops refl) disk last said)
all_come log all (out.Start ∷ outs) stops disk last said = (tt, all_come log all outs stops disk last said)
all_come log all (out.Feed ∷ outs) stops disk last said = (tt, all_come log all outs stops disk last said)
all_come log all (out.Send to p ∷ outs) stops disk last said = (said.0, all_come log all outs stops disk last said.1)
all_come log all (out.Disk op ∷ []) stops disk last said = (disk op refl, tt)
all_come log all (out.Disk op ∷ o ∷ outs) stops disk last said = absurd cc
all_come log all (out.Disarm ∷ outs) stops disk last said = (tt, all_come log all outs stops disk last said)
all_come log all (out.Halt kind ∷ outs) stops disk last said = (tt, all_come log all outs stops disk last said)

stops_newest : (line : Line) (past : List Line) → has_stop line.outs ≡ true → stop_due (line ∷ past) ≡ true
unfolding stop_due
stops_newest line past is = ap (λ b. b || (stop_due past && not (answers_stop line.what))) is

end_ends : (entry : What) (o : Out) → is_end o ≡ true → is_some (end_after entry o) ≡ true
end_ends entry out.Disarm is = refl
end_ends entry (out.Halt (halt.Deadly message)) is = refl
end_ends entry (out.Halt (halt.Boot cause)) is = refl
end_ends entry out.Stop is = absurd cc
end_ends entry out.Start is = absurd cc
end_ends entry out.Feed is = absurd cc
end_ends entry (out.Send to p) is = absurd cc
end_ends entry (out.Disk op) is = absurd cc

no_stop_waits : (stopped : Option Bool) (ok : Bool) → is_no_stop stopped ≡ true → stopped ≡ Some ok → ⊥
no_stop_waits None ok is e = cc
no_stop_waits (Some other) ok is e = cc

view_plain : (found : Option View) → is_answer (view_or_tick found) ≡ false
view_plain None = refl
view_plain (Some view) = refl

-- what is chosen is an answer where its entry is one
looked_plain : (tick : ℕ) (own : Own) (chosen : Choice) (maker : Option NamingMaker) → is_answer_in chosen ≡ false → is_answer (looked tick own chosen maker).1 ≡ false
looked_plain tick own (choice.Whole entry) maker is = is
looked_plain tick own (choice.Open p) None is = refl
looked_plain tick own (choice.Open p) (Some m) is = view_plain (answer_at tick (told tick own p m))
looked_plain tick own (choice.Answer reply) maker is = refl

looked_answer : (tick : ℕ) (own : Own) (poller : Option Poller) (chosen : Choice) (maker : Option NamingMaker) → is_answer_in chosen ≡ true
    → is_answer (looked tick own (answered_at tick poller chosen) maker).1 ≡ true
looked_answer tick own poller (choice.Whole entry) maker is = is
looked_answer tick own poller (choice.Open p) maker is = absurd cc
looked_answer tick own poller (choice.Answer reply) maker is = absurd cc

device_plain : (answer : Option Bool) → is_answer_in (option_map_or (λ agrees. choice.Whole (what.Device agrees)) answer (choice.Open None)) ≡ false
device_plain None = refl
device_plain (Some agrees) = refl

answered_plain : (tick : ℕ) (poller : Option Poller) (chosen : Choice) → is_answer_in chosen ≡ false → is_answer_in (answered_at tick poller chosen) ≡ false
answered_plain tick poller (choice.Whole entry) is = is
answered_plain tick poller (choice.Open p) is = refl
answered_plain tick poller (choice.Answer reply) is = device_plain (option_and_then (answer_taken tick reply) poller)

pub plain_looked : (tick : ℕ) (chosen : Choice × RunState) → is_answer_in chosen.0 ≡ false → is_answer (looked_at tick (answered tick chosen)).1 ≡ false
plain_looked tick chosen is =
    looked_plain tick (own_of (looking tick (answered tick chosen))) (answered tick chosen).0 chosen.1.maker (answered_plain tick chosen.1.poller chosen.0 is)

pub answer_looked : (tick : ℕ) (chosen : Choice × RunState) → is_answer_in chosen.0 ≡ true → is_answer (looked_at tick (answered tick chosen)).1 ≡ true
answer_looked tick chosen is = looked_answer tick (own_of (looking tick (answered tick chosen))) chosen.1.poller chosen.0 chosen.1.maker is

module _ (s : Settings) (rank : ℕ) (n : Running) (took took' : Option What) (left left' : List DiskOp) (all' : List Sent) (host : Host) (chosen : Choice × RunState) (time tick : ℕ)
    (is : IsReady s rank host chosen n took left) (on : host.on ≡ true) (asked : host.asked ≡ true) (clock : tick ≡ tick_of host.clock)
    (logs : IsNodeLog s (handed s rank time (looked_at tick (answered tick chosen)).1 n).log)
    (spends : Spends s rank (looked_at tick (answered tick chosen)).1 host took took' left left')
    (plain_in : is_answer_in chosen.0 ≡ false → is_answer (looked_at tick (answered tick chosen)).1 ≡ false)
    (answer_in : is_answer_in chosen.0 ≡ true → is_answer (looked_at tick (answered tick chosen)).1 ≡ true)
    (said : AllSaid all' (newest_outs (handed s rank time (looked_at tick (answered tick chosen)).1 n).log)) where
  abbrev found : Option NamingMaker × What
  found = looked_at tick (answered tick chosen)

  abbrev st' : RunState
  st' = taken s rank (looking tick (answered tick chosen)) tick found

  same_log : (handed s rank time found.1 n).log ≡ st'.log
  unfolding handed logged
  same_log =
      ap (λ l. with_entry s rank l (record { tick = tick_of n.clock; what = found.1 })) is.log
      ∙ ap (λ k. with_entry s rank chosen.1.log (record { tick = k; what = found.1 })) (ap tick_of is.clock ∙ sym clock)

  known : IsNodeLog s st'.log
  known = subst (λ l. IsNodeLog s l) same_log logs

  abbrev outs : List Out
  outs = newest_outs st'.log

  said' : AllSaid all' outs
  said' = subst (λ l. AllSaid all' (newest_outs l)) same_log said

  -- the operation that is out stays, where the entry answers nothing
  stays : is_answer found.1 ≡ false → (op : DiskOp) → op_out chosen.1.log ≡ Some op → (op_out st'.log ≡ Some op) × (disk_of outs ≡ None)
  unfolding with_entry
  stays plain op out = known.kept _ chosen.1.log op refl (read_answers_none s rank chosen.1.log found.1 plain) out

  comes : AllComeOut st'.log all' outs
  unfolding with_entry
  comes = all_come st'.log all' outs (stops_newest _ chosen.1.log) (op_out-newest _ chosen.1.log) known.last said'

  now_newest : now st'.log ≡ tick
  unfolding with_entry
  now_newest = refl

  host_idle : host.took ≡ None
  host_idle = is.idle

  none_out : op_out chosen.1.log ≡ None → took ≡ None
  none_out none = is.silent (ap op_out is.log ∙ none)

  waits : Waiting st' took'
  waits = by_answer (is_answer_in chosen.0) refl
    where
      by_answer : (b : Bool) → is_answer_in chosen.0 ≡ b → Waiting st' took'
      by_answer true e = record {
        stopped = λ ok w. absurd (no_stop_waits chosen.1.waits.stopped ok is.calm w);
        disk = λ answer w. absurd (let none = is.free e in cc);
      }
      by_answer false e = record {
        stopped = λ ok w. absurd (no_stop_waits chosen.1.waits.stopped ok is.calm w);
        disk = λ answer w.
            let was = is.waiting.disk answer w in
            let kept = stays (plain_in e) was.op was.out in
            subst (λ x. IsAnswer st'.log x answer) (sym (spends.plain (plain_in e)).0) (record { answers = was.answers; op = was.op; out = kept.0; source = was.source });
      }

  performs : Performs s None took' all' st' outs
  performs = record { come = comes; last = known.last; disk = λ op e. (calm op e (is_answer_in chosen.0) refl chosen.1.waits.disk refl, fresh op e (is_answer_in chosen.0) refl) }
    where
      calm : (op : DiskOp) → disk_of outs ≡ Some op → (b : Bool) → is_answer_in chosen.0 ≡ b → (w : Option What) → chosen.1.waits.disk ≡ w → chosen.1.waits.disk ≡ None
      calm op e true answers w same = is.free answers
      calm op e false answers None same = same
      calm op e false answers (Some answer) same =
          let was = is.waiting.disk answer same in
          absurd (let none = (stays (plain_in answers) was.op was.out).1 in cc)

      fresh : (op : DiskOp) → disk_of outs ≡ Some op → (b : Bool) → is_answer_in chosen.0 ≡ b → took' ≡ None
      fresh op e true answers = (spends.answer (answer_in answers)).0
      fresh op e false answers = (spends.plain (plain_in answers)).0 ∙ none_out (by_out (op_out chosen.1.log) refl)
        where
          by_out : (o : Option DiskOp) → op_out chosen.1.log ≡ o → op_out chosen.1.log ≡ None
          by_out None same = same
          by_out (Some other) same = absurd (let none = (stays (plain_in answers) other same).1 in cc)

  abbrev stand' : Stand
  stand' = acts_at s rank host.leave host.stand.turn host.stand.more found.1 outs outs st'

  log_is : log_at stand'.spot ≡ st'.log
  log_is = acts_log s rank host.leave host.stand.turn host.stand.more found.1 outs outs st'

  abbrev acted : Host
  acted = record (after_effect (call.Now tick) (newest_outs (log_at stand'.spot)) time (at host (Looking chosen))) { stand = stand' }

  -- the clock does not go back
  goes_on : nat_lt tick (now chosen.1.log) ≡ false
  goes_on = le-ltb tick (now chosen.1.log)
      (subst (λ k. now chosen.1.log ≤ k) (sym clock) (subst (λ c. now chosen.1.log ≤ tick_of c) is.clock (subst (λ l. now l ≤ tick_of n.clock) is.log is.tick)))

  is_acted : returned s rank (call.Now tick) time (at host (Looking chosen)) ≡ acted
  unfolding returned after_spot
  is_acted =
      ap (λ b. let stand = clocked_by s rank host.leave host.stand.turn host.stand.more chosen tick b in
      record (after_effect (call.Now tick) (newest_outs (log_at stand.spot)) time (at host (Looking chosen))) { stand = stand }) goes_on

  abbrev n' : Running
  n' = handed s rank time found.1 n

  on_again : is_gone (phase s st'.log) ≡ false → n'.on ≡ true
  unfolding handed logged
  on_again e = ap (λ l. not (is_gone (phase s l))) same_log ∙ ap not e

  -- what is still out, by the operation that was out
  among' : AreAmong s rank host.left (left' ++ still_out n' stand'.spot took')
  among' = by_answer (is_answer_in chosen.0) refl
    where
      before : AreAmong s rank host.left (left ++ given_up (op_out chosen.1.log) took)
      before = is.among

      living : (op : DiskOp) → op_out st'.log ≡ Some op → n'.on ≡ true
      living op out = by_gone (is_gone (phase s st'.log)) refl
        where
          by_gone : (b : Bool) → is_gone (phase s st'.log) ≡ b → n'.on ≡ true
          by_gone false e = on_again e
          by_gone true e = absurd (let none = known.silent e in cc)

      by_out : is_answer found.1 ≡ false → (o : Option DiskOp) → op_out chosen.1.log ≡ o → AreAmong s rank host.left (left ++ still_out n' stand'.spot took)
      by_out plain None same =
          among_more (still_out n' stand'.spot took)
          (subst (λ l. AreAmong s rank host.left l) (append-nil left) (subst (λ o. AreAmong s rank host.left (left ++ given_up o took)) same before))
      by_out plain (Some op) same =
          let kept = stays plain op same in
          let alive = living op kept.0 in
          let still : still_out n' stand'.spot took ≡ given_up (Some op) took =
          ap (λ b. if b && is_none (disk_ahead stand'.spot) then given_up (op_out n'.log) took else []) alive
          ∙ ap (λ a. if is_none a then given_up (op_out n'.log) took else []) (acts_ahead s rank host.leave host.stand.turn host.stand.more found.1 outs outs st' ∙ kept.1)
          ∙ ap (λ l. given_up (op_out l) took) same_log ∙ ap (λ o. given_up o took) kept.0 in
          subst (λ l. AreAmong s rank host.left (left ++ l)) (sym still) (subst (λ o. AreAmong s rank host.left (left ++ given_up o took)) same before)

      by_answer : (b : Bool) → is_answer_in chosen.0 ≡ b → AreAmong s rank host.left (left' ++ still_out n' stand'.spot took')
      by_answer true e = among_more (still_out n' stand'.spot took') (spends.answer (answer_in e)).1
      by_answer false e =
          subst (λ l. AreAmong s rank host.left (l ++ still_out n' stand'.spot took')) (sym (spends.plain (plain_in e)).1)
          (subst (λ x. AreAmong s rank host.left (left ++ still_out n' stand'.spot x)) (sym (spends.plain (plain_in e)).0) (by_out (plain_in e) (op_out chosen.1.log) refl))

  silent' : op_out st'.log ≡ None → took' ≡ None
  silent' none = by_answer (is_answer_in chosen.0) refl
    where
      by_out : is_answer found.1 ≡ false → (o : Option DiskOp) → op_out chosen.1.log ≡ o → op_out chosen.1.log ≡ None
      by_out plain None same = same
      by_out plain (Some op) same = absurd (let out = (stays plain op same).0 in cc)

      by_answer : (b : Bool) → is_answer_in chosen.0 ≡ b → took' ≡ None
      by_answer true e = (spends.answer (answer_in e)).0
      by_answer false e = (spends.plain (plain_in e)).0 ∙ none_out (by_out (plain_in e) (op_out chosen.1.log) refl)

  acted_node : IsNode s rank acted n' took' left' all'
  unfolding handed logged
  acted_node = record {
    on = ap (λ l. not (is_gone (phase s l))) same_log ∙ sym (timed_same on asked) ∙ ap (λ l. host.on && host.asked && not (is_gone (phase s l))) (sym log_is);
    log = λ o. same_log ∙ sym log_is;
    clock = λ o. is.clock;
    tick = λ o. subst (λ l. now l ≤ tick_of n.clock) (sym same_log) (subst (λ k. now st'.log ≤ k) (clock ∙ ap tick_of (sym is.clock)) (subst (λ k. k ≤ tick) (sym now_newest) (omega arith)));
    fed = λ o. is.fed;
    decided = λ o.
        ap (λ l. if has_feed (newest_outs l) then Some time else n.decided) (same_log ∙ sym log_is)
        ∙ ap (λ d. if has_feed (newest_outs (log_at stand'.spot)) then Some time else d) is.decided;
    silent = λ o none. silent' (ap op_out (sym same_log) ∙ none);
    backed = λ o.
        acts_backed s rank acted.took took' all' rank host.leave host.stand.turn host.stand.more found.1 outs outs st' waits
        (subst (λ k. Performs s k took' all' st' outs) (sym host_idle) performs);
    idle = λ o none. host_idle;
    among = among';
    fresh = λ o un. absurd (let yes = sym asked ∙ un in cc);
    greets = acts_greets s rank host.leave host.stand.turn host.stand.more found.1 outs outs st';
    ending = λ o gone. ends (ap (λ l. is_gone (phase s l)) (sym log_is) ∙ gone);
    rests = λ o gone. ap holds log_is ∙ known.rests (ap (λ l. is_gone (phase s l)) (sym log_is) ∙ gone);
  }
    where
      timed_same : host.on ≡ true → host.asked ≡ true → (host.on && host.asked && not (is_gone (phase s st'.log))) ≡ not (is_gone (phase s st'.log))
      timed_same one two = ap (λ b. b && host.asked && not (is_gone (phase s st'.log))) one ∙ ap (λ b. b && not (is_gone (phase s st'.log))) two

      ends : is_gone (phase s st'.log) ≡ true → IsEnding stand'.spot
      ends gone =
          let last = known.ends gone in
          subst (λ x. IsEnding (acts_at s rank host.leave host.stand.turn host.stand.more found.1 x x st').spot) (sym last.1)
          (refl, refl, end_ends found.1 last.0 last.2)

  pub handed_at : IsNode s rank (returned s rank (call.Now tick) time (at host (Looking chosen))) (handed s rank time (looked_at tick (answered tick chosen)).1 n) took' left' all'
  handed_at = subst (λ h. IsNode s rank h n' took' left' all') (sym is_acted) acted_node

  -- the operation that is ahead then came out of the entry
  pub handed_ahead : disk_ahead (returned s rank (call.Now tick) time (at host (Looking chosen))).stand.spot ≡ disk_of (newest_outs (handed s rank time (looked_at tick (answered tick chosen)).1 n).log)
  handed_ahead =
      ap (λ h. disk_ahead h.stand.spot) is_acted ∙ acts_ahead s rank host.leave host.stand.turn host.stand.more found.1 outs outs st' ∙ ap (λ l. disk_of (newest_outs l)) (sym same_log)
