-- A call that returns and hands the node no entry leaves the host the node that it was.
use Rattle.std.proofs.Common.{◌≡◌, ◌≤◌, ℕ, Bool, true, false, not, ◌&&◌, List, [], ◌∷◌, ◌++◌, Option, None, Some, if◌then◌else◌, refl, sym, ap, subst, ◌∙◌, is_some, ◌⊎◌, inl, inr}
use Rattle.std.specs.Prelude.{◌<◌, ◌^◌}
use Rattle.std.proofs.lemmas.List.{append-nil}
use Rattle.std.proofs.lemmas.Option.{same_Some}
use Rattle.qn_base.specs.declared.calls.Call.{Call}
use Rattle.qn_base.specs.declared.calls.Call.TheVariants as call
use Rattle.qn_base.specs.Calls.{blank, is_failed}
use Rattle.qn_io.specs.Answered.{bytes_read}
use Rattle.qn_model.specs.declared.configuration.Settings.{Settings}
use Rattle.qn_model.specs.declared.entries.What.{What}
use Rattle.qn_model.specs.declared.outputs.DiskOp.{DiskOp}
use Rattle.qn_model.specs.declared.outputs.DiskOp.TheVariants as disk
use Rattle.qn_model.specs.declared.outputs.Out.{Out}
use Rattle.qn_model.specs.declared.packets.Sent.{Sent}
use Rattle.qn_model.specs.Holding.{holds, is_stopped}
use Rattle.qn_model.specs.Log.{is_answer}
use Rattle.qn_model.specs.Moments.{Running, is_gone}
use Rattle.qn_model.specs.Phases.{phase}
use Rattle.qn_model.specs.World.{failed, given_up, is_write}
use Rattle.qn_live.specs.Performing.{disk_answer, disk_call, done}
use Rattle.qn_joined.specs.Joints.{Host, MayAnswer, after_effect, is_disk, is_timed, left_over}
use Rattle.qn_joined.specs.Stands.{log_at}
use Rattle.qn_joined.specs.WorldOf.{AreAmong, NoCall, Skips, Made, IsBacked, IsEnding, IsNode, TookAlike, disk_ahead, greets_at, still_out}
use Rattle.qn_safety.specs.NodeLogs.{IsOperation}

-- the call changes nothing of its host but what it runs
abbrev pub is_quiet : Call → Bool
is_quiet (call.Now tick) = false
is_quiet (call.Read sector bytes ok) = false
is_quiet (call.Write sector bytes ok) = false
is_quiet other = true

quiet_blank : (made : Call) → is_quiet (blank made) ≡ is_quiet made
quiet_blank (call.Now tick) = refl
quiet_blank (call.Receive got) = refl
quiet_blank (call.Read sector bytes ok) = refl
quiet_blank (call.Write sector bytes ok) = refl
quiet_blank (call.Feed ok) = refl
quiet_blank (call.Start ok) = refl
quiet_blank (call.Stop ok) = refl
quiet_blank (call.Send to bytes ok) = refl
quiet_blank (call.Disarm ok) = refl
quiet_blank (call.Halt code) = refl
quiet_blank (call.OpenImage path ok) = refl
quiet_blank (call.OpenNode images image watchdog resource port rank ok) = refl

pub disk_blank : (made : Call) → is_disk (blank made) ≡ is_disk made
disk_blank (call.Now tick) = refl
disk_blank (call.Receive got) = refl
disk_blank (call.Read sector bytes ok) = refl
disk_blank (call.Write sector bytes ok) = refl
disk_blank (call.Feed ok) = refl
disk_blank (call.Start ok) = refl
disk_blank (call.Stop ok) = refl
disk_blank (call.Send to bytes ok) = refl
disk_blank (call.Disarm ok) = refl
disk_blank (call.Halt code) = refl
disk_blank (call.OpenImage path ok) = refl
disk_blank (call.OpenNode images image watchdog resource port rank ok) = refl

pub quiet_of : (asked made : Call) → is_quiet asked ≡ true → Some asked ≡ Some (blank made) → is_quiet made ≡ true
quiet_of asked made is e = sym (quiet_blank made) ∙ sym (ap is_quiet (same_Some _ _ e)) ∙ is

pub disk_of_call : (asked made : Call) → is_disk asked ≡ true → Some asked ≡ Some (blank made) → is_disk made ≡ true
disk_of_call asked made is e = sym (disk_blank made) ∙ sym (ap is_disk (same_Some _ _ e)) ∙ is

-- what stays of a host
pub record Keeps (host after : Host) : Type 0 where
  pub on : after.on ≡ host.on
  pub asked : after.asked ≡ host.asked
  pub clock : after.clock ≡ host.clock
  pub fed : after.fed ≡ host.fed
  pub decided : after.decided ≡ host.decided

keeps_itself : (host : Host) → Keeps host host
keeps_itself host = record { on = refl; asked = refl; clock = refl; fed = refl; decided = refl }

-- and of one whose quiet call returned
pub record KeepsDisk (host after : Host) : Type 0 where
  pub keeps : Keeps host after
  pub took : after.took ≡ host.took
  pub left : after.left ≡ host.left

all_kept : (host : Host) → KeepsDisk host host
all_kept host = record { keeps = keeps_itself host; took = refl; left = refl }

pub quiet_effect : (made : Call) (outs : List Out) (time : ℕ) (host : Host) → is_quiet made ≡ true → KeepsDisk host (after_effect made outs time host)
quiet_effect (call.Now tick) outs time host is = absurd cc
quiet_effect (call.Receive got) outs time host is = all_kept host
quiet_effect (call.Read sector bytes ok) outs time host is = absurd cc
quiet_effect (call.Write sector bytes ok) outs time host is = absurd cc
quiet_effect (call.Feed ok) outs time host is = all_kept host
quiet_effect (call.Start ok) outs time host is = all_kept host
quiet_effect (call.Stop ok) outs time host is =
    record { keeps = record { on = refl; asked = refl; clock = refl; fed = refl; decided = refl }; took = refl; left = refl }
quiet_effect (call.Send to bytes ok) outs time host is = all_kept host
quiet_effect (call.Disarm ok) outs time host is = all_kept host
quiet_effect (call.Halt code) outs time host is = all_kept host
quiet_effect (call.OpenImage path ok) outs time host is = all_kept host
quiet_effect (call.OpenNode images image watchdog resource port rank ok) outs time host is = all_kept host

-- what a disk call leaves of its host
pub record EndsDisk (host after : Host) (made : Call) : Type 0 where
  pub keeps : Keeps host after
  pub took : after.took ≡ None
  pub left : after.left ≡ host.left ++ left_over made host.took

pub disk_effect : (made : Call) (outs : List Out) (time : ℕ) (host : Host) → is_disk made ≡ true → EndsDisk host (after_effect made outs time host) made
disk_effect (call.Now tick) outs time host is = absurd cc
disk_effect (call.Receive got) outs time host is = absurd cc
disk_effect (call.Read sector bytes ok) outs time host is =
    record { keeps = record { on = refl; asked = refl; clock = refl; fed = refl; decided = refl }; took = refl; left = sym (append-nil host.left) }
disk_effect (call.Write sector bytes ok) outs time host is =
    record { keeps = record { on = refl; asked = refl; clock = refl; fed = refl; decided = refl }; took = refl; left = refl }
disk_effect (call.Feed ok) outs time host is = absurd cc
disk_effect (call.Start ok) outs time host is = absurd cc
disk_effect (call.Stop ok) outs time host is = absurd cc
disk_effect (call.Send to bytes ok) outs time host is = absurd cc
disk_effect (call.Disarm ok) outs time host is = absurd cc
disk_effect (call.Halt code) outs time host is = absurd cc
disk_effect (call.OpenImage path ok) outs time host is = absurd cc
disk_effect (call.OpenNode images image watchdog resource port rank ok) outs time host is = absurd cc

-- a call that landed leaves nothing over
left_over_landed : (made : Call) (bytes : List ℕ) → left_over made (Some bytes) ≡ []
left_over_landed (call.Now tick) bytes = refl
left_over_landed (call.Receive got) bytes = refl
left_over_landed (call.Read sector read ok) bytes = refl
left_over_landed (call.Write sector written ok) bytes = refl
left_over_landed (call.Feed ok) bytes = refl
left_over_landed (call.Start ok) bytes = refl
left_over_landed (call.Stop ok) bytes = refl
left_over_landed (call.Send to sent ok) bytes = refl
left_over_landed (call.Disarm ok) bytes = refl
left_over_landed (call.Halt code) bytes = refl
left_over_landed (call.OpenImage path ok) bytes = refl
left_over_landed (call.OpenNode images image watchdog resource port rank ok) bytes = refl

left_over_blank : (made : Call) → left_over made None ≡ left_over (blank made) None
left_over_blank (call.Now tick) = refl
left_over_blank (call.Receive got) = refl
left_over_blank (call.Read sector read ok) = refl
left_over_blank (call.Write sector written ok) = refl
left_over_blank (call.Feed ok) = refl
left_over_blank (call.Start ok) = refl
left_over_blank (call.Stop ok) = refl
left_over_blank (call.Send to sent ok) = refl
left_over_blank (call.Disarm ok) = refl
left_over_blank (call.Halt code) = refl
left_over_blank (call.OpenImage path ok) = refl
left_over_blank (call.OpenNode images image watchdog resource port rank ok) = refl

-- leftovers that are more operations than calls
pub among_more : {s : Settings} {rank : ℕ} {calls : List Call} {ops : List DiskOp} (more : List DiskOp) → AreAmong s rank calls ops → AreAmong s rank calls (ops ++ more)
among_more more NoCall = NoCall
among_more more (Skips op rest) = Skips op (among_more more rest)
among_more more (Made number op small is rest) = Made number op small is (among_more more rest)

among_last : {s : Settings} {rank : ℕ} (number : ℕ) (op : DiskOp) (ops : List DiskOp) → number < 2 ^ 64 → IsOperation s op
    → AreAmong s rank (disk_call s rank number op ∷ []) (ops ++ op ∷ [])
among_last number op [] small fits = Made number op small fits NoCall
among_last number op (other ∷ ops) small fits = Skips other (among_last number op ops small fits)

pub among_one : {s : Settings} {rank : ℕ} {calls : List Call} {ops : List DiskOp} (number : ℕ) (op : DiskOp) → number < 2 ^ 64 → IsOperation s op
    → AreAmong s rank calls ops → AreAmong s rank (calls ++ disk_call s rank number op ∷ []) (ops ++ op ∷ [])
among_one {ops = ops} number op small fits NoCall = among_last number op ops small fits
among_one number op small fits (Skips other rest) = Skips other (among_one number op small fits rest)
among_one number op small fits (Made n other less is rest) = Made n other less is (among_one number op small fits rest)

among_nothing : {s : Settings} {rank : ℕ} {calls : List Call} {ops : List DiskOp} → AreAmong s rank calls ops → AreAmong s rank (calls ++ []) (ops ++ [])
among_nothing {s} {rank} {calls} {ops} among = subst (λ c. AreAmong s rank c (ops ++ [])) (sym (append-nil calls)) (among_more [] among)

-- what a call that is given up before it landed leaves over
pub given_up_call : (s : Settings) (rank number : ℕ) (op : DiskOp) {calls : List Call} {ops : List DiskOp} → number < 2 ^ 64 → IsOperation s op
    → AreAmong s rank calls ops
    → AreAmong s rank (calls ++ left_over (disk_call s rank number op) None) (ops ++ given_up (Some op) None)
unfolding disk_call
given_up_call s rank number disk.ReadHeader small fits among = among_nothing among
given_up_call s rank number (disk.ReadSlot other) small fits among = among_nothing among
given_up_call s rank number disk.CheckMail small fits among = among_nothing among
given_up_call s rank number disk.ReadMail small fits among = among_nothing among
given_up_call s rank number (disk.WriteClaim next) small fits among = among_one number (disk.WriteClaim next) small fits among
given_up_call s rank number (disk.WriteClose last) small fits among = among_one number (disk.WriteClose last) small fits among
given_up_call s rank number disk.WriteClear small fits among = among_one number disk.WriteClear small fits among
given_up_call s rank number (disk.WriteReset other) small fits among = among_one number (disk.WriteReset other) small fits among

-- the same by what the call took
pub disk_given_up : (s : Settings) (rank number : ℕ) (op : DiskOp) (took_call : Option (List ℕ)) (took : Option What) {calls : List Call} {ops : List DiskOp}
    → number < 2 ^ 64
    → IsOperation s op
    → TookAlike s op took_call took
    → AreAmong s rank calls ops
    → AreAmong s rank (calls ++ left_over (disk_call s rank number op) took_call) (ops ++ given_up (Some op) took)
disk_given_up s rank number op None took {calls} {ops} small fits alike among =
    subst (λ x. AreAmong s rank (calls ++ left_over (disk_call s rank number op) None) (ops ++ given_up (Some op) x)) (sym alike)
    (given_up_call s rank number op small fits among)
disk_given_up s rank number op (Some bytes) took {calls} {ops} small fits alike among =
    subst (λ l. AreAmong s rank (calls ++ l) (ops ++ given_up (Some op) took)) (sym (left_over_landed (disk_call s rank number op) bytes))
    (subst (λ c. AreAmong s rank c (ops ++ given_up (Some op) took)) (sym (append-nil calls)) (among_more (given_up (Some op) took) among))

left_over_same : (made : Call) (took_call : Option (List ℕ)) → left_over made took_call ≡ left_over (blank made) took_call
left_over_same made None = left_over_blank made
left_over_same made (Some bytes) = left_over_landed made bytes ∙ sym (left_over_landed (blank made) bytes)

pub left_alike : (s : Settings) (rank number : ℕ) (op : DiskOp) (made : Call) (took_call : Option (List ℕ)) (took : Option What) {calls : List Call} {ops : List DiskOp}
    → number < 2 ^ 64
    → IsOperation s op
    → Some (disk_call s rank number op) ≡ Some (blank made)
    → TookAlike s op took_call took
    → AreAmong s rank calls ops
    → AreAmong s rank (calls ++ left_over made took_call) (ops ++ given_up (Some op) took)
left_alike s rank number op made took_call took {calls} {ops} small fits asked alike among =
    subst (λ l. AreAmong s rank (calls ++ l) (ops ++ given_up (Some op) took)) (ap (λ c. left_over c took_call) (same_Some _ _ asked) ∙ sym (left_over_same made took_call))
    (disk_given_up s rank number op took_call took small fits alike among)

-- a host whose run moved on, while its node did not
pub node_moves : {s : Settings} {rank : ℕ} {host : Host} {n : Running} {took : Option What} {left : List DiskOp} {all : List Sent}
    → IsNode s rank host n took left all → (after : Host) → Keeps host after
    → host.asked ≡ true
    → log_at after.stand.spot ≡ log_at host.stand.spot
    → (n.on ≡ true → IsBacked s rank after.took took all after.stand.spot)
    → (host.on ≡ true → disk_ahead after.stand.spot ≡ None → after.took ≡ None)
    → AreAmong s rank after.left (left ++ still_out n after.stand.spot took)
    → (host.on ≡ true → is_gone (phase s (log_at host.stand.spot)) ≡ true → IsEnding after.stand.spot)
    → greets_at after.stand.spot ≡ true
    → IsNode s rank after n took left all
node_moves {s} {rank} {host} {n} {took} {left} {all} is after keeps asked same backed idle among ending greets =
    record {
      on = is.on ∙ timed_same keeps.on keeps.asked same;
      log = λ on. is.log on ∙ sym same;
      clock = λ on. is.clock on ∙ sym keeps.clock;
      tick = is.tick;
      fed = λ on. subst (λ f. f ≤ n.fed) (sym keeps.fed) (is.fed on);
      decided = λ on. is.decided on ∙ sym keeps.decided;
      silent = is.silent;
      backed = backed;
      idle = λ on none. idle (sym keeps.on ∙ on) none;
      among = among;
      greets = greets;
      fresh = λ on no. absurd (let a = sym asked ∙ sym keeps.asked ∙ no in cc);
      ending = λ on gone. ending (sym keeps.on ∙ on) (sym (ap (λ l. is_gone (phase s l)) same) ∙ gone);
      rests = λ on gone. ap holds same ∙ is.rests (sym keeps.on ∙ on) (sym (ap (λ l. is_gone (phase s l)) same) ∙ gone);
    }
  where
    timed_same : after.on ≡ host.on → after.asked ≡ host.asked → log_at after.stand.spot ≡ log_at host.stand.spot → is_timed s host ≡ is_timed s after
    timed_same one two three = ap (λ b. b && host.asked && not (is_gone (phase s (log_at host.stand.spot)))) (sym one)
        ∙ ap (λ b. after.on && b && not (is_gone (phase s (log_at host.stand.spot)))) (sym two)
        ∙ ap (λ l. after.on && after.asked && not (is_gone (phase s l))) (sym three)

-- the entry of an operation that failed, and of one that was done, is its answer and no stop
pub op_answers : (s : Settings) (op : DiskOp) (bytes : List ℕ)
    → (is_answer (failed op) ≡ true) × (is_stopped (failed op) ≡ false) × (is_answer (done s op bytes) ≡ true) × (is_stopped (done s op bytes) ≡ false)
unfolding failed done
op_answers s disk.ReadHeader bytes = (refl, refl, refl, refl)
op_answers s (disk.ReadSlot rank) bytes = (refl, refl, refl, refl)
op_answers s disk.CheckMail bytes = (refl, refl, refl, refl)
op_answers s disk.ReadMail bytes = (refl, refl, refl, refl)
op_answers s (disk.WriteClaim next) bytes = (refl, refl, refl, refl)
op_answers s (disk.WriteClose own) bytes = (refl, refl, refl, refl)
op_answers s disk.WriteClear bytes = (refl, refl, refl, refl)
op_answers s (disk.WriteReset rank) bytes = (refl, refl, refl, refl)

-- a write is done whatever was read
write_done : (s : Settings) (op : DiskOp) (bytes other : List ℕ) → is_write op ≡ true → done s op bytes ≡ done s op other
unfolding done
write_done s disk.ReadHeader bytes other is = absurd cc
write_done s (disk.ReadSlot rank) bytes other is = absurd cc
write_done s disk.CheckMail bytes other is = absurd cc
write_done s disk.ReadMail bytes other is = absurd cc
write_done s (disk.WriteClaim next) bytes other is = refl
write_done s (disk.WriteClose own) bytes other is = refl
write_done s disk.WriteClear bytes other is = refl
write_done s (disk.WriteReset rank) bytes other is = refl

abbrev is_writing : Call → Bool
is_writing (call.Write sector bytes ok) = true
is_writing other = false

writing_blank : (made : Call) → is_writing made ≡ is_writing (blank made)
writing_blank (call.Now tick) = refl
writing_blank (call.Receive got) = refl
writing_blank (call.Read sector read ok) = refl
writing_blank (call.Write sector written ok) = refl
writing_blank (call.Feed ok) = refl
writing_blank (call.Start ok) = refl
writing_blank (call.Stop ok) = refl
writing_blank (call.Send to sent ok) = refl
writing_blank (call.Disarm ok) = refl
writing_blank (call.Halt code) = refl
writing_blank (call.OpenImage path ok) = refl
writing_blank (call.OpenNode images image watchdog resource port rank ok) = refl

writes_call : (s : Settings) (rank number : ℕ) (op : DiskOp) → is_writing (disk_call s rank number op) ≡ is_write op
unfolding disk_call
writes_call s rank number disk.ReadHeader = refl
writes_call s rank number (disk.ReadSlot other) = refl
writes_call s rank number disk.CheckMail = refl
writes_call s rank number disk.ReadMail = refl
writes_call s rank number (disk.WriteClaim next) = refl
writes_call s rank number (disk.WriteClose own) = refl
writes_call s rank number disk.WriteClear = refl
writes_call s rank number (disk.WriteReset other) = refl

-- what a disk call that succeeded read is what it took
took_by : (rank : ℕ) (host : Host) (sent : List (ℕ × List ℕ)) (made : Call) → is_disk made ≡ true → is_failed made ≡ false → MayAnswer rank host sent made
    → (bytes : List ℕ) × (host.took ≡ Some bytes) × ((is_writing made ≡ true) ⊎ (bytes ≡ bytes_read made))
took_by rank host sent (call.Now tick) is ok may = absurd cc
took_by rank host sent (call.Receive got) is ok may = absurd cc
took_by rank host sent (call.Read sector read true) is ok may = (read, may refl, inr refl)
took_by rank host sent (call.Read sector read false) is ok may = absurd cc
took_by rank host sent (call.Write sector written true) is ok may = by_took host.took refl (may refl)
  where
    by_took : (found : Option (List ℕ)) → host.took ≡ found → is_some host.took ≡ true
        → (bytes : List ℕ) × (host.took ≡ Some bytes) × ((true ≡ true) ⊎ (bytes ≡ []))
    by_took None e some = absurd (let no = sym (ap is_some e) ∙ some in cc)
    by_took (Some bytes) e some = (bytes, e, inl refl)
took_by rank host sent (call.Write sector written false) is ok may = absurd cc
took_by rank host sent (call.Feed ok) is fails may = absurd cc
took_by rank host sent (call.Start ok) is fails may = absurd cc
took_by rank host sent (call.Stop ok) is fails may = absurd cc
took_by rank host sent (call.Send to bytes ok) is fails may = absurd cc
took_by rank host sent (call.Disarm ok) is fails may = absurd cc
took_by rank host sent (call.Halt code) is fails may = absurd cc
took_by rank host sent (call.OpenImage path ok) is fails may = absurd cc
took_by rank host sent (call.OpenNode images image watchdog resource port owner ok) is fails may = absurd cc

-- the answer of a disk call is backed by what it took
pub answer_backed : (s : Settings) (rank number : ℕ) (op : DiskOp) (made : Call) (host : Host) (sent : List (ℕ × List ℕ)) (took : Option What)
    → Some (disk_call s rank number op) ≡ Some (blank made)
    → is_disk made ≡ true
    → MayAnswer rank host sent made
    → TookAlike s op host.took took
    → (is_answer (disk_answer s op made) ≡ true) × ((disk_answer s op made ≡ failed op) ⊎ (took ≡ Some (disk_answer s op made)))
answer_backed s rank number op made host sent took asked is may alike = by_failed (is_failed made) refl
  where
    by_failed : (b : Bool) → is_failed made ≡ b
        → (is_answer (if b then failed op else done s op (bytes_read made)) ≡ true)
        × (((if b then failed op else done s op (bytes_read made)) ≡ failed op) ⊎ (took ≡ Some (if b then failed op else done s op (bytes_read made))))
    by_failed true e = ((op_answers s op (bytes_read made)).0, inl refl)
    by_failed false e =
        let found = took_by rank host sent made is e may in
        let landed : took ≡ Some (done s op found.0) = subst (λ x. TookAlike s op x took) found.1 alike in
        ((op_answers s op (bytes_read made)).2, inr (landed ∙ ap Some (same found.2)))
      where
        same : {bytes : List ℕ} → (is_writing made ≡ true) ⊎ (bytes ≡ bytes_read made) → done s op bytes ≡ done s op (bytes_read made)
        same {bytes} (inl writes) =
            write_done s op bytes (bytes_read made)
            (sym (writes_call s rank number op) ∙ ap is_writing (same_Some _ _ asked) ∙ sym (writing_blank made) ∙ writes)
        same (inr e) = ap (done s op) e
