-- A call that returns and is no look at the clock leaves the host the node that it was.
use Rattle.std.proofs.Common.{◌≡◌, ℕ, Bool, true, false, not, ◌&&◌, List, [], ◌∷◌, ◌++◌, Option, None, Some, if◌then◌else◌, refl, sym, ap, subst, ◌∙◌, is_some, ◌⊎◌}
use Rattle.std.specs.Prelude.{Contains, is_none}
use Rattle.std.proofs.lemmas.List.{append-nil}
use Rattle.qn_base.specs.declared.calls.Call.{Call}
use Rattle.qn_base.specs.declared.calls.Call.TheVariants as call
use Rattle.qn_base.specs.declared.calls.Received.{Received}
use Rattle.qn_base.specs.declared.calls.Received.TheVariants as received
use Rattle.qn_base.specs.Calls.{blank}
use Rattle.qn_io.specs.Answered.{received_in}
use Rattle.qn_model.specs.declared.configuration.Settings.{Settings}
use Rattle.qn_model.specs.declared.entries.What.{What}
use Rattle.qn_model.specs.declared.outputs.DiskOp.{DiskOp}
use Rattle.qn_model.specs.declared.outputs.DiskOp.TheVariants as disk
use Rattle.qn_model.specs.declared.outputs.Out.{Out}
use Rattle.qn_model.specs.declared.outputs.Out.TheVariants as out
use Rattle.qn_model.specs.declared.packets.Packet.{Packet}
use Rattle.qn_model.specs.declared.packets.Sent.{Sent}
use Rattle.qn_model.specs.Log.{disk_of, is_answer, op_out}
use Rattle.qn_model.specs.Moments.{Running, is_gone}
use Rattle.qn_model.specs.NodeOutputs.{newest_outs}
use Rattle.qn_model.specs.Phases.{phase}
use Rattle.qn_model.specs.World.{failed, given_up}
use Rattle.qn_wire.specs.Reading.{packet_of}
use Rattle.qn_live.specs.Greetings.{sends_plan}
use Rattle.qn_live.specs.Performing.{disk_answer, disk_call, end_after, noted, out_call, outs_plan, own_number, waits_after}
use Rattle.qn_live.specs.Running.{RunState}
use Rattle.qn_joined.specs.Joints.{Host, MayAnswer, MayReceive, after_effect, counts, is_disk, left_over, returned, waits_for}
use Rattle.qn_joined.specs.Stands.{Spot, Receiving, Looking, Acting, Polling, Saying, Parting, Ended, Stand, acts_at, after_spot, left_plan, log_at, parts_at, said_at}
use Rattle.qn_safety.specs.NodeLogs.{IsNodeLog}
use Rattle.qn_joined.specs.Nodes.{at, is_looking}
use Rattle.qn_joined.specs.WorldOf.{AreAmong, IsAnswer, IsEnding, IsNode, Performs, TookAlike, Waiting, WasSentTo, disk_ahead, still_out}
use Rattle.qn_joined.proofs.Moving.{EndsDisk, answer_backed, disk_effect, disk_of_call, left_alike, node_moves, quiet_effect, quiet_of, is_quiet}
use Rattle.qn_joined.proofs.Owning.{acts_log, parts_log, said_log}
use Rattle.qn_joined.proofs.Standing.{acts_ahead, acts_backed, acts_greets, last_ends, parts_ahead, parts_backed, parts_ends, parts_greets, received_comes, rest_greet, said_ahead, said_backed, said_greets}

still_same : (n : Running) (took : Option What) (one other : Option DiskOp) → one ≡ other
    → (if n.on && is_none one then given_up (op_out n.log) took else []) ≡ (if n.on && is_none other then given_up (op_out n.log) took else [])
still_same n took one other same = ap (λ d. if n.on && is_none d then given_up (op_out n.log) took else []) same

-- what is received, and counts, was sent
received_may : (rank : ℕ) (host : Host) (sent : List (ℕ × List ℕ)) (made : Call) (bytes : List ℕ) → MayAnswer rank host sent made → received_in made ≡ received.Packet bytes
    → counts (packet_of bytes) ≡ true → Contains sent (rank, bytes)
received_may rank host sent (call.Receive got) bytes may e = subst (λ (g : Received). MayReceive rank g sent) e may
received_may rank host sent (call.Now tick) bytes may e = absurd cc
received_may rank host sent (call.Read sector read ok) bytes may e = absurd cc
received_may rank host sent (call.Write sector written ok) bytes may e = absurd cc
received_may rank host sent (call.Feed ok) bytes may e = absurd cc
received_may rank host sent (call.Start ok) bytes may e = absurd cc
received_may rank host sent (call.Stop ok) bytes may e = absurd cc
received_may rank host sent (call.Send to said ok) bytes may e = absurd cc
received_may rank host sent (call.Disarm ok) bytes may e = absurd cc
received_may rank host sent (call.Halt code) bytes may e = absurd cc
received_may rank host sent (call.OpenImage path ok) bytes may e = absurd cc
received_may rank host sent (call.OpenNode images image watchdog resource port owner ok) bytes may e = absurd cc

pub disk_is : (s : Settings) (rank number : ℕ) (op : DiskOp) → is_disk (disk_call s rank number op) ≡ true
unfolding disk_call
disk_is s rank number disk.ReadHeader = refl
disk_is s rank number (disk.ReadSlot other) = refl
disk_is s rank number disk.CheckMail = refl
disk_is s rank number disk.ReadMail = refl
disk_is s rank number (disk.WriteClaim next) = refl
disk_is s rank number (disk.WriteClose own) = refl
disk_is s rank number disk.WriteClear = refl
disk_is s rank number (disk.WriteReset other) = refl

pub timed_on : (on asked gone : Bool) → on ≡ true → asked ≡ true → gone ≡ false → (on && asked && not gone) ≡ true
timed_on true true false one two three = refl
timed_on false asked gone one two three = cc
timed_on true false gone one two three = cc
timed_on true true true one two three = cc

same_answer : {a b : What} → Some a ≡ Some b → a ≡ b
same_answer e = cc

-- the last output of a run that ends
gone_last : (s : Settings) (me : ℕ) (leave : Option ℕ) (turn more : ℕ) (entry : What) (outs rest : List Out) (o : Out) (st : RunState)
    → (rest ≡ []) × (outs ≡ o ∷ []) × (is_some (end_after entry o) ≡ true) → IsEnding (acts_at s me leave turn more entry outs rest st).spot
gone_last s me leave turn more entry outs rest o st is =
    subst (λ r. IsEnding (acts_at s me leave turn more entry outs r st).spot) (sym is.0)
    (subst (λ x. IsEnding (acts_at s me leave turn more entry x [] st).spot) (sym is.1) (last_ends s me leave turn more entry o st is.2))

module _ {s : Settings} {rank : ℕ} {n : Running} {took : Option What} {left : List DiskOp} {all : List Sent} (host : Host) (made : Call) (time : ℕ) where
  -- an output that is no operation of the disk was performed
  quiet_out : (entry : What) (outs rest : List Out) (o : Out) (st : RunState)
      → IsNode s rank (at host (Acting entry outs o rest st)) n took left all
      → host.asked ≡ true
      → is_quiet made ≡ true
      → disk_of (o ∷ rest) ≡ disk_of rest
      → (n.on ≡ true → Waiting (noted s o made st) took)
      → (n.on ≡ true → Performs s host.took took all (noted s o made st) rest)
      → IsNode s rank (returned s rank made time (at host (Acting entry outs o rest st))) n took left all
  unfolding returned after_spot
  quiet_out entry outs rest o st is asked quiet plain waits performs =
      let h = at host (Acting entry outs o rest st) in
      let st' = noted s o made st in
      let after = acts_at s rank host.leave host.stand.turn host.stand.more entry outs rest st' in
      let log = acts_log s rank host.leave host.stand.turn host.stand.more entry outs rest st' in
      let q = quiet_effect made (newest_outs (log_at after.spot)) time h quiet in
      let ahead = acts_ahead s rank host.leave host.stand.turn host.stand.more entry outs rest st' in
      node_moves is (returned s rank made time h)
      (record { on = q.keeps.on; asked = q.keeps.asked; clock = q.keeps.clock; fed = q.keeps.fed; decided = q.keeps.decided })
      asked log
      (λ on. acts_backed s rank (returned s rank made time h).took took all rank host.leave host.stand.turn host.stand.more entry outs rest st' (waits on)
      (subst (λ k. Performs s k took all st' rest) (sym q.took) (performs on)))
      (λ on none. q.took ∙ is.idle on (plain ∙ sym ahead ∙ none))
      (subst (λ l. AreAmong s rank l (left ++ still_out n after.spot took)) (sym q.left)
      (subst (λ l. AreAmong s rank host.left (left ++ l)) (still_same n took (disk_of (o ∷ rest)) (disk_ahead after.spot) (plain ∙ sym ahead)) is.among))
      (λ on gone. gone_last s rank host.leave host.stand.turn host.stand.more entry outs rest o st' (is.ending on gone))
      (acts_greets s rank host.leave host.stand.turn host.stand.more entry outs rest st')

  -- an operation of the disk, which is the last output
  disk_out : (entry : What) (outs : List Out) (op : DiskOp) (st : RunState) (sent : List (ℕ × List ℕ))
      → (n.on ≡ true → IsNodeLog s n.log)
      → IsNode s rank (at host (Acting entry outs (out.Disk op) [] st)) n took left all
      → host.on ≡ true
      → host.asked ≡ true
      → Some (disk_call s rank (own_number st.log) op) ≡ Some (blank made)
      → MayAnswer rank (at host (Acting entry outs (out.Disk op) [] st)) sent made
      → IsNode s rank (returned s rank made time (at host (Acting entry outs (out.Disk op) [] st))) n took left all
  unfolding returned after_spot waits_after
  disk_out entry outs op st sent logs is on asked wants may =
      node_moves is (returned s rank made time h)
      (record { on = d.keeps.on; asked = d.keeps.asked; clock = d.keeps.clock; fed = d.keeps.fed; decided = d.keeps.decided })
      asked log
      (λ lives. acts_backed s rank (returned s rank made time h).took took all rank host.leave host.stand.turn host.stand.more entry outs [] st' waits
      (record { come = tt; last = refl; disk = λ other e. absurd cc }))
      (λ is_on none. d.took)
      (subst (λ l. AreAmong s rank l (left ++ still_out n after.spot took)) (sym d.left)
      (subst (λ l. AreAmong s rank (host.left ++ left_over made host.took) (left ++ l)) (sym still_after)
      (subst (λ l. AreAmong s rank (host.left ++ left_over made host.took) (l ++ given_up (Some op) took)) (append-nil left)
      (left_alike s rank (own_number st.log) op made host.took took (known.number) (known.fits op performs.come.0) wants alike (subst (λ l. AreAmong s rank host.left (left ++ l)) still_before is.among)))))
      (λ is_on gone. gone_last s rank host.leave host.stand.turn host.stand.more entry outs [] (out.Disk op) st' (is.ending is_on gone))
      (acts_greets s rank host.leave host.stand.turn host.stand.more entry outs [] st')
    where
      h : Host
      h = at host (Acting entry outs (out.Disk op) [] st)

      st' : RunState
      st' = noted s (out.Disk op) made st

      lives_by : (b : Bool) → is_gone (phase s st.log) ≡ b → n.on ≡ true
      lives_by false e = is.on ∙ timed_on host.on host.asked (is_gone (phase s st.log)) on asked e
      lives_by true e = absurd (let none = (is.ending on e).2 in cc)

      lives : n.on ≡ true
      lives = lives_by (is_gone (phase s st.log)) refl

      known : IsNodeLog s st.log
      known = subst (λ l. IsNodeLog s l) (is.log lives) (logs lives)

      performs : Performs s host.took took all st (out.Disk op ∷ [])
      performs = (is.backed lives).1

      was : Waiting st took
      was = (is.backed lives).0

      alike : TookAlike s op host.took took
      alike = (performs.disk op refl).1

      is_disk_made : is_disk made ≡ true
      is_disk_made = disk_of_call (disk_call s rank (own_number st.log) op) made (disk_is s rank (own_number st.log) op) wants

      backed : (is_answer (disk_answer s op made) ≡ true) × ((disk_answer s op made ≡ failed op) ⊎ (took ≡ Some (disk_answer s op made)))
      backed = answer_backed s rank (own_number st.log) op made h sent took wants is_disk_made may alike

      waits : Waiting st' took
      waits = record {
        stopped = was.stopped;
        disk = λ answer e. subst (λ a. IsAnswer st.log took a) (same_answer e) (record { answers = backed.0; op = op; out = performs.come.0; source = backed.1 });
      }

      log : log_at (acts_at s rank host.leave host.stand.turn host.stand.more entry outs [] st').spot ≡ st.log
      log = acts_log s rank host.leave host.stand.turn host.stand.more entry outs [] st'

      after : Stand
      after = acts_at s rank host.leave host.stand.turn host.stand.more entry outs [] st'

      d : EndsDisk h (after_effect made (newest_outs (log_at after.spot)) time h) made
      d = disk_effect made (newest_outs (log_at after.spot)) time h is_disk_made

      still_before : still_out n (Acting entry outs (out.Disk op) [] st) took ≡ []
      still_before = ap (λ b. if b && false then given_up (op_out n.log) took else []) lives

      still_after : still_out n after.spot took ≡ given_up (Some op) took
      still_after =
          ap (λ b. if b && is_none (disk_ahead after.spot) then given_up (op_out n.log) took else []) lives
          ∙ ap (λ a. if is_none a then given_up (op_out n.log) took else []) (acts_ahead s rank host.leave host.stand.turn host.stand.more entry outs [] st')
          ∙ ap (λ l. given_up (op_out l) took) (is.log lives) ∙ ap (λ o. given_up o took) performs.come.0

  pub returns_at : (spot : Spot) (sent : List (ℕ × List ℕ))
      → (n.on ≡ true → IsNodeLog s n.log)
      → IsNode s rank (at host spot) n took left all
      → host.on ≡ true
      → host.asked ≡ true
      → waits_for s rank (at host spot) ≡ Some (blank made)
      → MayAnswer rank (at host spot) sent made
      → ((bytes : List ℕ) (p : Packet) → Contains sent (rank, bytes) → packet_of bytes ≡ Some p → counts (Some p) ≡ true → WasSentTo rank all p)
      → is_looking spot ≡ false
      → IsNode s rank (returned s rank made time (at host spot)) n took left all
  unfolding returned after_spot left_plan outs_plan sends_plan out_call waits_after
  returns_at (Looking chosen) sent logs is on asked wants may known apart = absurd cc
  returns_at (Ended ran) sent logs is on asked wants may known apart = absurd cc
  returns_at (Receiving st) sent logs is on asked wants may known apart =
      let h = at host (Receiving st) in
      let q = quiet_effect made (newest_outs st.log) time h (quiet_of (call.Receive received.Nothing) made refl wants) in
      let comes = received_comes rank st.poller st.log took all (received_in made)
      (λ bytes p got spelled c. known bytes p (received_may rank h sent made bytes may got (ap counts spelled ∙ c)) spelled c) in
      node_moves is (returned s rank made time h)
      (record { on = q.keeps.on; asked = q.keeps.asked; clock = q.keeps.clock; fed = q.keeps.fed; decided = q.keeps.decided })
      asked refl
      (λ lives. (
        let was = (is.backed lives).0 in record { stopped = was.stopped; disk = was.disk },
        (is.backed lives).1,
        comes.0,
        λ answers. absurd (let no_answer = comes.1 in cc),
      ))
      (λ is_on none. q.took ∙ is.idle is_on refl)
      (subst (λ l. AreAmong s rank l (left ++ still_out n (Receiving st) took)) (sym q.left) is.among)
      (λ is_on gone. absurd (is.ending is_on gone))
      refl
  returns_at (Polling poll sents st) sent logs is on asked wants may known apart =
      let h = at host (Polling poll sents st) in
      let after = said_at s rank host.leave host.stand.turn host.stand.more st sents in
      let q = quiet_effect made (newest_outs (log_at after.spot)) time h (quiet_of _ made refl wants) in
      let ahead = said_ahead s rank host.leave host.stand.turn host.stand.more st sents in
      node_moves is (returned s rank made time h)
      (record { on = q.keeps.on; asked = q.keeps.asked; clock = q.keeps.clock; fed = q.keeps.fed; decided = q.keeps.decided })
      asked (said_log s rank host.leave host.stand.turn host.stand.more st sents)
      (λ lives. said_backed s rank (returned s rank made time h).took took all rank host.leave host.stand.turn host.stand.more st sents (is.backed lives))
      (λ is_on none. q.took ∙ is.idle is_on refl)
      (subst (λ l. AreAmong s rank l (left ++ still_out n after.spot took)) (sym q.left)
      (subst (λ l. AreAmong s rank host.left (left ++ l)) (still_same n took None (disk_ahead after.spot) (sym ahead)) is.among))
      (λ is_on gone. absurd (is.ending is_on gone))
      (said_greets s rank host.leave host.stand.turn host.stand.more st sents is.greets)
  returns_at (Saying said rest st) sent logs is on asked wants may known apart =
      let h = at host (Saying said rest st) in
      let after = said_at s rank host.leave host.stand.turn host.stand.more st rest in
      let q = quiet_effect made (newest_outs (log_at after.spot)) time h (quiet_of _ made refl wants) in
      let ahead = said_ahead s rank host.leave host.stand.turn host.stand.more st rest in
      node_moves is (returned s rank made time h)
      (record { on = q.keeps.on; asked = q.keeps.asked; clock = q.keeps.clock; fed = q.keeps.fed; decided = q.keeps.decided })
      asked (said_log s rank host.leave host.stand.turn host.stand.more st rest)
      (λ lives. said_backed s rank (returned s rank made time h).took took all rank host.leave host.stand.turn host.stand.more st rest (is.backed lives))
      (λ is_on none. q.took ∙ is.idle is_on refl)
      (subst (λ l. AreAmong s rank l (left ++ still_out n after.spot took)) (sym q.left)
      (subst (λ l. AreAmong s rank host.left (left ++ l)) (still_same n took None (disk_ahead after.spot) (sym ahead)) is.among))
      (λ is_on gone. absurd (is.ending is_on gone))
      (said_greets s rank host.leave host.stand.turn host.stand.more st rest (rest_greet said rest is.greets))
  returns_at (Parting end said rest st) sent logs is on asked wants may known apart =
      let h = at host (Parting end said rest st) in
      let after = parts_at host.stand.turn host.stand.more end st rest in
      let q = quiet_effect made (newest_outs (log_at after.spot)) time h (quiet_of _ made refl wants) in
      let ahead = parts_ahead host.stand.turn host.stand.more end st rest in
      node_moves is (returned s rank made time h)
      (record { on = q.keeps.on; asked = q.keeps.asked; clock = q.keeps.clock; fed = q.keeps.fed; decided = q.keeps.decided })
      asked (parts_log host.stand.turn host.stand.more end st rest)
      (λ lives. parts_backed s rank (returned s rank made time h).took took all host.stand.turn host.stand.more end st rest)
      (λ is_on none. q.took ∙ is.idle is_on refl)
      (subst (λ l. AreAmong s rank l (left ++ still_out n after.spot took)) (sym q.left)
      (subst (λ l. AreAmong s rank host.left (left ++ l)) (still_same n took None (disk_ahead after.spot) (sym ahead)) is.among))
      (λ is_on gone. parts_ends host.stand.turn host.stand.more end st rest)
      (parts_greets host.stand.turn host.stand.more end st rest (rest_greet said rest is.greets))
  returns_at (Acting entry outs out.Stop rest st) sent logs is on asked wants may known apart =
      quiet_out entry outs rest out.Stop st is asked (quiet_of (call.Stop true) made refl wants) refl
      (λ lives. record { stopped = λ ok e. (is.backed lives).1.come.0; disk = (is.backed lives).0.disk })
      (λ lives. record { come = (is.backed lives).1.come.1; last = (is.backed lives).1.last; disk = (is.backed lives).1.disk })
  returns_at (Acting entry outs out.Start rest st) sent logs is on asked wants may known apart =
      quiet_out entry outs rest out.Start st is asked (quiet_of (call.Start true) made refl wants) refl (λ lives. (is.backed lives).0)
      (λ lives. record { come = (is.backed lives).1.come.1; last = (is.backed lives).1.last; disk = (is.backed lives).1.disk })
  returns_at (Acting entry outs out.Feed rest st) sent logs is on asked wants may known apart =
      quiet_out entry outs rest out.Feed st is asked (quiet_of (call.Feed true) made refl wants) refl (λ lives. (is.backed lives).0)
      (λ lives. record { come = (is.backed lives).1.come.1; last = (is.backed lives).1.last; disk = (is.backed lives).1.disk })
  returns_at (Acting entry outs (out.Send to p) rest st) sent logs is on asked wants may known apart =
      quiet_out entry outs rest (out.Send to p) st is asked (quiet_of _ made refl wants) refl (λ lives. (is.backed lives).0)
      (λ lives. record { come = (is.backed lives).1.come.1; last = (is.backed lives).1.last; disk = (is.backed lives).1.disk })
  returns_at (Acting entry outs out.Disarm rest st) sent logs is on asked wants may known apart =
      quiet_out entry outs rest out.Disarm st is asked (quiet_of (call.Disarm true) made refl wants) refl (λ lives. (is.backed lives).0)
      (λ lives. record { come = (is.backed lives).1.come.1; last = (is.backed lives).1.last; disk = (is.backed lives).1.disk })
  returns_at (Acting entry outs (out.Halt kind) rest st) sent logs is on asked wants may known apart =
      quiet_out entry outs rest (out.Halt kind) st is asked (quiet_of _ made refl wants) refl (λ lives. (is.backed lives).0)
      (λ lives. record { come = (is.backed lives).1.come.1; last = (is.backed lives).1.last; disk = (is.backed lives).1.disk })
  returns_at (Acting entry outs (out.Disk op) [] st) sent logs is on asked wants may known apart = disk_out entry outs op st sent logs is on asked wants may
  returns_at (Acting entry outs (out.Disk op) (more ∷ rest) st) sent logs is on asked wants may known apart = absurd (two_ahead (is_gone (phase s st.log)) refl)
    where
      two_ahead : (b : Bool) → is_gone (phase s st.log) ≡ b → ⊥
      two_ahead true e = let none = (is.ending on e).2 in cc
      two_ahead false e =
          let lives = is.on ∙ timed_on host.on host.asked (is_gone (phase s st.log)) on asked e in
          let last = (is.backed lives).1.last in cc
