-- From call to call: what is known of the log and the view maker of a running node at each place of a turn, where each step keeps it.
use Rattle.std.proofs.Common.{◌≡◌, ℕ, suc, zero, ◌≤◌, Bool, true, false, List, [], ◌∷◌, Option, None, Some, if◌then◌else◌, refl, sym, subst}
use Rattle.std.specs.Prelude.{nat_lt, option_and_then, option_map}
use Rattle.std.specs.Option.{option_map_or}
use Rattle.std.proofs.lemmas.Bool.{ltb-false}
use Rattle.std.proofs.lemmas.Option.{none-some, same_Some}
use Rattle.qn_base.specs.declared.calls.Call.{Call}
use Rattle.qn_io.specs.Answered.{time_of}
use Rattle.qn_model.specs.declared.configuration.Settings.{Settings}
use Rattle.qn_model.specs.declared.entries.What.{What}
use Rattle.qn_model.specs.declared.entries.What.TheVariants as what
use Rattle.qn_model.specs.declared.outputs.Out.{Out}
use Rattle.qn_model.specs.declared.packets.Packet.{Packet}
use Rattle.qn_model.specs.declared.packets.Sent.{Sent}
use Rattle.qn_model.specs.Log.{Line, now}
use Rattle.qn_model.specs.NodeOutputs.{newest_outs, with_entry}
use Rattle.qn_model.specs.Phases.{is_live, phase}
use Rattle.qn_member.specs.Naming.{NamingMaker}
use Rattle.qn_member.specs.NamingViews.{after_look, after_naming_hello_due, answer_at}
use Rattle.qn_safety.specs.declared.polls.Poll.{Poll}
use Rattle.qn_safety.specs.Poller.{Poller, answer_taken}
use Rattle.qn_live.specs.declared.live_end.LiveEnd.{LiveEnd}
use Rattle.qn_live.specs.declared.place.Choice.{Choice}
use Rattle.qn_live.specs.declared.place.Choice.TheVariants as choice
use Rattle.qn_live.specs.declared.words.Own.{Own}
use Rattle.qn_live.specs.Choosing.{is_late, is_to_leave, looked, looking, own_of, ready, told, view_or_tick}
use Rattle.qn_live.specs.Greetings.{hellos_where, is_due, maker_begun, maker_where}
use Rattle.qn_live.specs.Performing.{end_in, noted}
use Rattle.qn_live.specs.Polling.{answered, answered_at, poll_due, polled}
use Rattle.qn_live.specs.Running.{RunState}
use Rattle.qn_live.specs.Runs.{asked_maker, greets, looked_at, taken}
use Rattle.qn_joined.specs.Stands.{Acting, Ended, Looking, Parting, Polling, Receiving, Saying, Spot, acts_at, after_spot, begun_at, clocked_by, farewells_due, log_at, opening, parts_at, polled_at, said_at, sends_due, settled_by, taking}
use Rattle.qn_service.specs.Hellos.{packet_chosen}
use Rattle.qn_service.specs.Looks.{LookOf, look_at, look_by, look_in}
use Rattle.qn_service.proofs.SpotLogs.{acts_log}

-- what is known between two turns, while outputs are performed, while these greetings are left to send, and once the last turn is over
pub record Places : Type 1 where
  pub between : List Line → Option NamingMaker → Type 0
  pub acting : List Line → Option NamingMaker → Type 0
  pub saying : List Sent → List Line → Option NamingMaker → Type 0
  pub over : List Line → Type 0

abbrev pub KnownAt : Places → Spot → Type 0
KnownAt p (Receiving st) = p.between st.log st.maker
KnownAt p (Looking chosen) = p.between chosen.1.log chosen.1.maker
KnownAt p (Acting entry outs o rest st) = p.acting st.log st.maker
KnownAt p (Polling poll sents st) = p.saying sents st.log st.maker
KnownAt p (Saying sent rest st) = p.saying (sent ∷ rest) st.log st.maker
KnownAt p (Parting end sent rest st) = p.over st.log
KnownAt p (Ended ran) = p.over ran.log

-- where there is a view maker, it is so
abbrev pub MakerIs : (NamingMaker → Type 0) → Option NamingMaker → Type 0
MakerIs M had = (m : NamingMaker) → had ≡ Some m → M m

abbrev pub MakerAt : (NamingMaker → Type 0) → Spot → Type 0
MakerAt M (Receiving st) = MakerIs M st.maker
MakerAt M (Looking chosen) = MakerIs M chosen.1.maker
MakerAt M (Acting entry outs o rest st) = MakerIs M st.maker
MakerAt M (Polling poll sents st) = MakerIs M st.maker
MakerAt M (Saying sent rest st) = MakerIs M st.maker
MakerAt M (Parting end sent rest st) = Unit {0}
MakerAt M (Ended ran) = Unit {0}

-- the view maker that a turn asks whether a Hello is due, and what it leaves
abbrev pub maker_asked : Settings → ℕ → ℕ → Own → List Line → Option NamingMaker → Option NamingMaker
maker_asked s me loop_ms own log had = maker_where (is_live (phase s log)) (maker_begun s me loop_ms own) had

abbrev pub maker_left : Settings → ℕ → ℕ → Own → List Line → Option NamingMaker → Option NamingMaker
maker_left s me loop_ms own log had = option_map (after_naming_hello_due (now log)) (maker_asked s me loop_ms own log had)

abbrev pub sends_left : Settings → ℕ → ℕ → Own → List Line → Option NamingMaker → List Sent
sends_left s me loop_ms own log had =
    hellos_where (is_due (now log) (maker_asked s me loop_ms own log had)) s me (maker_left s me loop_ms own log had)

-- the log after an entry of a turn
abbrev pub log_with : Settings → ℕ → List Line → ℕ → What → List Line
log_with s me log tick entry = with_entry s me log (record { tick = tick; what = entry })

-- What is known of a call besides: of the tick that a clock told, after a log, and the packet that came; of a look; of a greeting that was sent; of the
-- log after it.
pub record Besides : Type 1 where
  pub clock : List Line → ℕ → Option Packet → Type 0
  pub look : ℕ → NamingMaker → Type 0
  pub sent : Sent → List Line → Type 0
  pub log : List Line → Type 0
  pub maker : NamingMaker → Type 0

-- Each step of a turn leads from what was known to what is known after it.
pub record StepsLead (s : Settings) (me : ℕ) (b : Besides) (old new : Places) : Type 0 where
  pub waits : (log : List Line) (had : Option NamingMaker) → old.between log had → new.between log had
  pub takes : (log : List Line) (had : Option NamingMaker) (tick : ℕ) (p : Option Packet) (entry : What) → b.clock log tick p → now log ≤ tick → MakerIs b.maker had → old.between log had
      → new.acting (log_with s me log tick entry) had
  pub looks : (log : List Line) (m : NamingMaker) (tick : ℕ) (own : Own) (p : Option Packet) → b.clock log tick p → b.look tick (told tick own p m) → now log ≤ tick → b.maker m
      → old.between log (Some m) → new.acting (log_with s me log tick (view_or_tick (answer_at tick (told tick own p m)))) (Some (after_look tick (told tick own p m)))
  pub kept : (m : NamingMaker) (tick : ℕ) (own : Own) (p : Option Packet) → b.maker m → b.maker (after_look tick (told tick own p m))
  pub acts : (log : List Line) (had : Option NamingMaker) → old.acting log had → new.acting log had
  pub greets : (log : List Line) (had : Option NamingMaker) (loop_ms : ℕ) (own : Own) → b.log log → MakerIs b.maker had → new.acting log had
      → new.saying (sends_left s me loop_ms own log had) log (maker_left s me loop_ms own log had)
  pub polls : (sents : List Sent) (log : List Line) (had : Option NamingMaker) → old.saying sents log had → new.saying sents log had
  pub says : (sent : Sent) (rest : List Sent) (log : List Line) (had : Option NamingMaker) → b.sent sent log → old.saying (sent ∷ rest) log had → new.saying rest log had
  pub said : (log : List Line) (had : Option NamingMaker) → new.saying [] log had → new.between log had
  pub stops : (log : List Line) (had : Option NamingMaker) → new.between log had → new.over log
  pub parts : (log : List Line) (had : Option NamingMaker) → new.acting log had → new.over log
  pub ends : (log : List Line) → old.over log → new.over log

-- a reply of an arbiter is no packet, whatever it answers
pub answered_same : (tick : ℕ) (poller : Option Poller) (chosen : Choice) → packet_chosen (answered_at tick poller chosen) ≡ packet_chosen chosen
answered_same tick poller (choice.Whole entry) = refl
answered_same tick poller (choice.Open p) = refl
answered_same tick poller (choice.Answer reply) = by_answer (option_and_then (answer_taken tick reply) poller)
  where
    by_answer : (answer : Option Bool) → packet_chosen (option_map_or (λ agrees. choice.Whole (what.Device agrees)) answer (choice.Open None)) ≡ None
    by_answer None = refl
    by_answer (Some agrees) = refl

module _ (s : Settings) (me : ℕ) (b : Besides) (old new : Places) (lead : StepsLead s me b old new) where
  opening_known : (st : RunState) (late : Bool) → new.between st.log st.maker → KnownAt new (opening st late)
  opening_known st true known = known
  opening_known st false known = known

  taking_known : (st : RunState) (leaves rests : Bool) (stopped : Option Bool) (disk : Option What) → new.between st.log st.maker
      → KnownAt new (taking (record st { waits = record { stopped = stopped; disk = disk } }) (ready leaves rests (record { stopped = stopped; disk = disk })))
  taking_known st leaves rests (Some ok) disk known = known
  taking_known st leaves false None (Some answer) known = known
  taking_known st true false None None known = known
  taking_known st false false None None known = opening_known (record st { waits = record { stopped = None; disk = None } }) (is_late st) known
  taking_known st true true None disk known = known
  taking_known st false true None disk known = opening_known (record st { waits = record { stopped = None; disk = disk } }) (is_late st) known

  begun_known : (leave : Option ℕ) (turn more : ℕ) (st : RunState) → new.between st.log st.maker → KnownAt new (begun_at s me leave turn more st).spot
  begun_known leave turn zero st known = lead.stops st.log st.maker known
  begun_known leave turn (suc more) st known = taking_known st (is_to_leave s leave turn st) st.rests st.waits.stopped st.waits.disk known

  said_known : (leave : Option ℕ) (turn more : ℕ) (st : RunState) (sents : List Sent) → new.saying sents st.log st.maker
      → KnownAt new (said_at s me leave turn more st sents).spot
  said_known leave turn more st [] known = begun_known leave turn more st (lead.said st.log st.maker known)
  said_known leave turn more st (sent ∷ rest) known = known

  polled_known : (leave : Option ℕ) (turn more : ℕ) (st : RunState) (sents : List Sent) (poll : Option Poll) → new.saying sents st.log st.maker
      → KnownAt new (polled_at s me leave turn more st sents poll).spot
  polled_known leave turn more st sents None known = said_known leave turn more st sents known
  polled_known leave turn more st sents (Some poll) known = known

  parts_known : (turn more : ℕ) (end : LiveEnd) (st : RunState) (sents : List Sent) → new.over st.log → KnownAt new (parts_at turn more end st sents).spot
  parts_known turn more end st [] known = known
  parts_known turn more end st (sent ∷ rest) known = known

  settled_known : (leave : Option ℕ) (turn more : ℕ) (entry : What) (st : RunState) (found : Option LiveEnd) → b.log st.log → MakerIs b.maker st.maker → new.acting st.log st.maker
      → KnownAt new (settled_by s me leave turn more entry st found).spot
  settled_known leave turn more entry st None logged makers known =
      polled_known leave turn more (polled s me (greets s me st) entry (asked_maker s me st)) (sends_due s me st)
      (poll_due s me (greets s me st) entry (asked_maker s me st))
      (lead.greets st.log st.maker st.loop_ms (own_of st) logged makers known)
  settled_known leave turn more entry st (Some end) logged makers known = parts_known turn more end st (farewells_due s me end st) (lead.parts st.log st.maker known)

  acts_known : (leave : Option ℕ) (turn more : ℕ) (entry : What) (outs rest : List Out) (st : RunState) → b.log st.log → MakerIs b.maker st.maker → new.acting st.log st.maker
      → KnownAt new (acts_at s me leave turn more entry outs rest st).spot
  acts_known leave turn more entry outs [] st logged makers known = settled_known leave turn more entry st (end_in entry outs) logged makers known
  acts_known leave turn more entry outs (o ∷ rest) st logged makers known = known

  -- the log is the one after the call
  pub acts_logged : (leave : Option ℕ) (turn more : ℕ) (entry : What) (outs rest : List Out) (st : RunState) → b.log (log_at (acts_at s me leave turn more entry outs rest st).spot)
      → MakerIs b.maker st.maker → new.acting st.log st.maker
      → KnownAt new (acts_at s me leave turn more entry outs rest st).spot
  acts_logged leave turn more entry outs rest st logged makers known =
      acts_known leave turn more entry outs rest st (subst b.log (acts_log s me leave turn more entry outs rest st) logged) makers known

  -- ## A look at the clock

  clocked_open : (st : RunState) (tick : ℕ) (own : Own) (chosen : Choice) (had : Option NamingMaker) → b.clock st.log tick (packet_chosen chosen)
      → ((look : LookOf) → look_in me tick own chosen had ≡ Some look → b.look look.tick look.maker) → now st.log ≤ tick → MakerIs b.maker had → old.between st.log had → new.acting (taken s me st tick (looked tick own chosen had)).log (looked tick own chosen had).0
  clocked_open st tick own (choice.Whole entry) had clock looking order makers known = lead.takes st.log had tick None entry clock order makers known
  clocked_open st tick own (choice.Answer reply) had clock looking order makers known = lead.takes st.log had tick None what.Tick clock order makers known
  clocked_open st tick own (choice.Open p) None clock looking order makers known = lead.takes st.log None tick p what.Tick clock order makers known
  clocked_open st tick own (choice.Open p) (Some m) clock looking order makers known =
      lead.looks st.log m tick own p clock (looking (record { rank = me; tick = tick; maker = told tick own p m }) refl) order (makers m refl) known

  clocked_makers : (tick : ℕ) (own : Own) (chosen : Choice) (had : Option NamingMaker) → MakerIs b.maker had → MakerIs b.maker (looked tick own chosen had).0
  clocked_makers tick own (choice.Whole entry) had makers = makers
  clocked_makers tick own (choice.Answer reply) had makers = makers
  clocked_makers tick own (choice.Open p) None makers = λ m is. absurd (none-some m is)
  clocked_makers tick own (choice.Open p) (Some m) makers =
      λ n is. subst b.maker (same_Some (after_look tick (told tick own p m)) n is) (lead.kept m tick own p (makers m refl))

  clocked_known : (leave : Option ℕ) (turn more tick : ℕ) (chosen : Choice × RunState) (back : Bool) → nat_lt tick (now chosen.1.log) ≡ back
      → b.log (log_at (clocked_by s me leave turn more chosen tick back).spot) → b.clock chosen.1.log tick (packet_chosen chosen.0)
      → ((look : LookOf) → (if back then None else look_by me tick (answered tick chosen)) ≡ Some look → b.look look.tick look.maker) → MakerIs b.maker chosen.1.maker → old.between chosen.1.log chosen.1.maker
      → KnownAt new (clocked_by s me leave turn more chosen tick back).spot
  clocked_known leave turn more tick chosen true order logged clock looks makers known = lead.stops chosen.1.log chosen.1.maker (lead.waits chosen.1.log chosen.1.maker known)
  clocked_known leave turn more tick chosen false order logged clock looks makers known =
      let st = looking tick (answered tick chosen) in
      let found = looked_at tick (answered tick chosen) in
      let after = taken s me st tick found in
      acts_logged leave turn more found.1 (newest_outs after.log) (newest_outs after.log) after logged
      (clocked_makers tick (own_of st) (answered tick chosen).0 chosen.1.maker makers)
      (clocked_open st tick (own_of st) (answered tick chosen).0 chosen.1.maker (subst (λ p. b.clock chosen.1.log tick p) (sym (answered_same tick chosen.1.poller chosen.0)) clock) looks
      (ltb-false tick (now chosen.1.log) order) makers known)

  -- ## A call

  pub spot_leads : (leave : Option ℕ) (turn more : ℕ) (spot : Spot) (made : Call)
      → ((chosen : Choice × RunState) → spot ≡ Looking chosen → b.clock chosen.1.log (time_of made) (packet_chosen chosen.0))
      → ((look : LookOf) → look_at me spot made ≡ Some look → b.look look.tick look.maker)
      → ((sent : Sent) (rest : List Sent) (st : RunState) → spot ≡ Saying sent rest st → b.sent sent st.log)
      → b.log (log_at (after_spot s me leave turn more spot made).spot)
      → MakerAt b.maker spot → KnownAt old spot → KnownAt new (after_spot s me leave turn more spot made).spot
  unfolding after_spot
  spot_leads leave turn more (Receiving st) made clock looks sends logged makers known = lead.waits st.log st.maker known
  spot_leads leave turn more (Looking chosen) made clock looks sends logged makers known =
      clocked_known leave turn more (time_of made) chosen (nat_lt (time_of made) (now chosen.1.log)) refl logged (clock chosen refl) looks makers known
  spot_leads leave turn more (Acting entry outs o rest st) made clock looks sends logged makers known =
      acts_logged leave turn more entry outs rest (noted s o made st) logged makers (lead.acts st.log st.maker known)
  spot_leads leave turn more (Polling poll sents st) made clock looks sends logged makers known = said_known leave turn more st sents (lead.polls sents st.log st.maker known)
  spot_leads leave turn more (Saying sent rest st) made clock looks sends logged makers known =
      said_known leave turn more st rest (lead.says sent rest st.log st.maker (sends sent rest st refl) known)
  spot_leads leave turn more (Parting end sent rest st) made clock looks sends logged makers known = parts_known turn more end st rest (lead.ends st.log known)
  spot_leads leave turn more (Ended ran) made clock looks sends logged makers known = lead.ends ran.log known

  -- what is known where a run stands goes on without a call
  pub spot_rests : (spot : Spot) → KnownAt old spot → KnownAt new spot
  spot_rests (Receiving st) known = lead.waits st.log st.maker known
  spot_rests (Looking chosen) known = lead.waits chosen.1.log chosen.1.maker known
  spot_rests (Acting entry outs o rest st) known = lead.acts st.log st.maker known
  spot_rests (Polling poll sents st) known = lead.polls sents st.log st.maker known
  spot_rests (Saying sent rest st) known = lead.polls (sent ∷ rest) st.log st.maker known
  spot_rests (Parting end sent rest st) known = lead.ends st.log known
  spot_rests (Ended ran) known = lead.ends ran.log known

  -- after a look what is known of the view maker that it left is known where the run stands
  open_looked : (look : LookOf) (log : List Line) (tick : ℕ) (own : Own) (c : Choice) (had : Option NamingMaker) → look_in me tick own c had ≡ Some look
      → ((entry : What) → new.acting (log_with s me log look.tick entry) (Some (after_look look.tick look.maker)))
      → new.acting (log_with s me log tick (looked tick own c had).1) (looked tick own c had).0
  open_looked look log tick own (choice.Whole entry) had found left = absurd (none-some look found)
  open_looked look log tick own (choice.Answer reply) had found left = absurd (none-some look found)
  open_looked look log tick own (choice.Open p) None found left = absurd (none-some look found)
  open_looked look log tick own (choice.Open p) (Some m) found left =
      let entry : What = view_or_tick (answer_at tick (told tick own p m)) in
      subst (λ (l : LookOf). new.acting (log_with s me log l.tick entry) (Some (after_look l.tick l.maker)))
      (sym (same_Some (record { rank = me; tick = tick; maker = told tick own p m }) look found)) (left entry)

  pub spot_looked : (look : LookOf) (leave : Option ℕ) (turn more : ℕ) (spot : Spot) (made : Call) → look_at me spot made ≡ Some look → MakerAt b.maker spot
      → b.log (log_at (after_spot s me leave turn more spot made).spot)
      → ((log : List Line) (entry : What) → new.acting (log_with s me log look.tick entry) (Some (after_look look.tick look.maker)))
      → KnownAt new (after_spot s me leave turn more spot made).spot
  unfolding after_spot
  spot_looked look leave turn more (Looking chosen) made found makers logged left = by_order (nat_lt (time_of made) (now chosen.1.log)) found logged
    where
      by_order : (back : Bool) → (if back then None else look_by me (time_of made) (answered (time_of made) chosen)) ≡ Some look
          → b.log (log_at (clocked_by s me leave turn more chosen (time_of made) back).spot) → KnownAt new (clocked_by s me leave turn more chosen (time_of made) back).spot
      by_order true none logged = absurd (none-some look none)
      by_order false here logged =
          let tick = time_of made in
          let st = looking tick (answered tick chosen) in
          let got = looked_at tick (answered tick chosen) in
          let after = taken s me st tick got in
          acts_logged leave turn more got.1 (newest_outs after.log) (newest_outs after.log) after logged
          (clocked_makers tick (own_of st) (answered tick chosen).0 chosen.1.maker makers)
          (open_looked look chosen.1.log tick (own_of st) (answered tick chosen).0 chosen.1.maker here (left chosen.1.log))
  spot_looked look leave turn more (Receiving st) made found makers logged left = absurd (none-some look found)
  spot_looked look leave turn more (Acting entry outs o rest st) made found makers logged left = absurd (none-some look found)
  spot_looked look leave turn more (Polling poll sents st) made found makers logged left = absurd (none-some look found)
  spot_looked look leave turn more (Saying sent rest st) made found makers logged left = absurd (none-some look found)
  spot_looked look leave turn more (Parting end sent rest st) made found makers logged left = absurd (none-some look found)
  spot_looked look leave turn more (Ended ran) made found makers logged left = absurd (none-some look found)

-- nothing is asked of the view makers
pub any_maker : (spot : Spot) → MakerAt (λ m. Unit {0}) spot
any_maker (Receiving st) = λ m is. tt
any_maker (Looking chosen) = λ m is. tt
any_maker (Acting entry outs o rest st) = λ m is. tt
any_maker (Polling poll sents st) = λ m is. tt
any_maker (Saying sent rest st) = λ m is. tt
any_maker (Parting end sent rest st) = tt
any_maker (Ended ran) = tt
