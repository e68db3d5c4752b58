-- What waits in a state, and what is still to be performed, is backed by the world at each stand that follows.
use Rattle.std.proofs.Common.{◌≡◌, ℕ, suc, zero, Bool, true, false, ◌&&◌, List, [], ◌∷◌, ◌++◌, Option, None, Some, if◌then◌else◌, refl, ap, ◌∙◌, is_some, option_and_then}
use Rattle.qn_model.specs.declared.configuration.Settings.{Settings}
use Rattle.qn_model.specs.declared.entries.What.{What}
use Rattle.qn_model.specs.declared.entries.What.TheVariants as what
use Rattle.qn_model.specs.declared.outputs.Out.{Out}
use Rattle.qn_model.specs.declared.packets.Packet.{Packet}
use Rattle.qn_model.specs.declared.packets.Packet.TheVariants as packet
use Rattle.qn_model.specs.declared.packets.Sent.{Sent}
use Rattle.qn_base.specs.declared.calls.Received.{Received}
use Rattle.qn_base.specs.declared.calls.Received.TheVariants as received
use Rattle.qn_model.specs.Holding.{stop_due}
use Rattle.qn_model.specs.Log.{Line, disk_of}
use Rattle.qn_model.specs.Steps.{entry_of}
use Rattle.qn_base.specs.declared.ids.View.{View}
use Rattle.std.specs.Option.{option_map_or}
use Rattle.qn_model.specs.lemmas.Entries.{packet_answers_none}
use Rattle.qn_member.specs.Naming.{NamingMaker}
use Rattle.qn_member.specs.NamingViews.{view_announced}
use Rattle.qn_wire.specs.Reading.{packet_of}
use Rattle.qn_live.specs.declared.live_end.LiveEnd.{LiveEnd}
use Rattle.qn_live.specs.declared.place.Choice.{Choice}
use Rattle.qn_live.specs.declared.place.Choice.TheVariants as choice
use Rattle.qn_live.specs.declared.place.Waits.{Waits}
use Rattle.qn_live.specs.Running.{RunState}
use Rattle.qn_live.specs.Choosing.{choice_in, choice_of, is_entry_for, is_late, is_to_leave, packet_in, ready}
use Rattle.qn_live.specs.declared.place.Greeting.{Greeting}
use Rattle.qn_live.specs.declared.place.Greeting.TheVariants as greeting
use Rattle.qn_live.specs.Greetings.{farewell_after, first_greeting, greeting_packet, others_from, said_after, to_each, to_send}
use Rattle.qn_live.specs.Performing.{end_after, end_in}
use Rattle.qn_live.specs.Polling.{choice_beside, is_device, is_reply_for, poll_due, polled, reply_in}
use Rattle.qn_live.specs.Runs.{asked_maker, greets}
use Rattle.qn_joined.specs.Joints.{counts}
use Rattle.qn_joined.specs.Owning.{is_no_stop}
use Rattle.qn_joined.specs.Stands.{acts_at, begun_at, farewells_due, opening, parts_at, polled_at, said_at, sends_due, settled_by, taking}
use Rattle.qn_joined.specs.WorldOf.{ComesAs, ComesIn, IsAnswer, IsBacked, IsEnding, Performs, Waiting, WasSentTo, all_greet, disk_ahead, greets_at, is_answer_in, is_greeting}
use Rattle.qn_safety.specs.declared.polls.Poll.{Poll}
use Rattle.qn_safety.specs.declared.polls.Reply.{Reply}
use Rattle.qn_safety.specs.Poller.{Poller}

-- an answer comes in
answer_comes : (rank : ℕ) (log : List Line) (took : Option What) (all : List Sent) (entry : What) → IsAnswer log took entry → ComesIn rank log took all entry
answer_comes rank log took all what.Begin is = absurd (let no = is.answers in cc)
answer_comes rank log took all what.BeginClean is = absurd (let no = is.answers in cc)
answer_comes rank log took all (what.Header seen) is = is
answer_comes rank log took all (what.SlotRead other seen) is = is
answer_comes rank log took all (what.MailChecked seen) is = is
answer_comes rank log took all (what.Claimed ok) is = is
answer_comes rank log took all (what.Cleared ok) is = is
answer_comes rank log took all (what.MailRead seen) is = is
answer_comes rank log took all (what.MailWritten other ok) is = is
answer_comes rank log took all (what.Closed ok) is = is
answer_comes rank log took all (what.Ask ask) is = absurd (let no = is.answers in cc)
answer_comes rank log took all (what.Tell tell) is = absurd (let no = is.answers in cc)
answer_comes rank log took all (what.Stopped ok) is = absurd (let no = is.answers in cc)
answer_comes rank log took all (what.View view) is = tt
answer_comes rank log took all (what.Device agrees) is = tt
answer_comes rank log took all what.Tick is = tt
answer_comes rank log took all what.Leave is = tt

module _ (s : Settings) (rank : ℕ) (took_call : Option (List ℕ)) (took : Option What) (all : List Sent) where
  opening_backed : (st : RunState) (late : Bool) → Waiting st took → is_no_stop st.waits.stopped ≡ true → IsBacked s rank took_call took all (opening st late)
  opening_backed st true waits free = (waits, free, tt, λ e. absurd cc)
  opening_backed st false waits free = (waits, free)

  taking_backed : (st : RunState) (leaves rests : Bool) (stopped : Option Bool) (disk : Option What)
      → ((ok : Bool) → stopped ≡ Some ok → stop_due st.log ≡ true)
      → ((answer : What) → disk ≡ Some answer → IsAnswer st.log took answer)
      → IsBacked s rank took_call took all (taking (record st { waits = record { stopped = stopped; disk = disk } }) (ready leaves rests (record { stopped = stopped; disk = disk })))
  taking_backed st leaves rests (Some ok) disk stops answers =
      (record { stopped = λ o e. absurd cc; disk = answers }, refl, stops ok refl, λ e. absurd cc)
  taking_backed st leaves false None (Some answer) stops answers =
      (record { stopped = λ o e. absurd cc; disk = λ a e. absurd cc }, refl, answer_comes rank st.log took all answer (answers answer refl), λ e. refl)
  taking_backed st true false None None stops answers = (record { stopped = stops; disk = answers }, refl, tt, λ e. absurd cc)
  taking_backed st false false None None stops answers =
      opening_backed (record st { waits = record { stopped = None; disk = None } }) (is_late st) (record { stopped = stops; disk = answers }) refl
  taking_backed st true true None disk stops answers = (record { stopped = stops; disk = answers }, refl, tt, λ e. absurd cc)
  taking_backed st false true None disk stops answers =
      opening_backed (record st { waits = record { stopped = None; disk = disk } }) (is_late st) (record { stopped = stops; disk = answers }) refl

  begun_backed : (me : ℕ) (leave : Option ℕ) (turn more : ℕ) (st : RunState) → Waiting st took → IsBacked s rank took_call took all (begun_at s me leave turn more st).spot
  begun_backed me leave turn zero st waits = tt
  begun_backed me leave turn (suc more) st waits =
      taking_backed st (is_to_leave s leave turn st) st.rests st.waits.stopped st.waits.disk waits.stopped waits.disk

  pub said_backed : (me : ℕ) (leave : Option ℕ) (turn more : ℕ) (st : RunState) (sents : List Sent) → Waiting st took
      → IsBacked s rank took_call took all (said_at s me leave turn more st sents).spot
  said_backed me leave turn more st [] waits = begun_backed me leave turn more st waits
  said_backed me leave turn more st (sent ∷ rest) waits = waits

  polled_backed : (me : ℕ) (leave : Option ℕ) (turn more : ℕ) (st : RunState) (sents : List Sent) (poll : Option Poll) → Waiting st took
      → IsBacked s rank took_call took all (polled_at s me leave turn more st sents poll).spot
  polled_backed me leave turn more st sents None waits = said_backed me leave turn more st sents waits
  polled_backed me leave turn more st sents (Some poll) waits = waits

  pub parts_backed : (turn more : ℕ) (end : LiveEnd) (st : RunState) (sents : List Sent) → IsBacked s rank took_call took all (parts_at turn more end st sents).spot
  parts_backed turn more end st [] = tt
  parts_backed turn more end st (sent ∷ rest) = tt

  settled_backed : (me : ℕ) (leave : Option ℕ) (turn more : ℕ) (entry : What) (st : RunState) (found : Option LiveEnd) → Waiting st took
      → IsBacked s rank took_call took all (settled_by s me leave turn more entry st found).spot
  settled_backed me leave turn more entry st None waits =
      polled_backed me leave turn more (polled s me (greets s me st) entry (asked_maker s me st)) (sends_due s me st)
      (poll_due s me (greets s me st) entry (asked_maker s me st)) (record { stopped = waits.stopped; disk = waits.disk })
  settled_backed me leave turn more entry st (Some end) waits = parts_backed turn more end st (farewells_due s me end st)

  pub acts_backed : (me : ℕ) (leave : Option ℕ) (turn more : ℕ) (entry : What) (outs rest : List Out) (st : RunState) → Waiting st took
      → Performs s took_call took all st rest → IsBacked s rank took_call took all (acts_at s me leave turn more entry outs rest st).spot
  acts_backed me leave turn more entry outs [] st waits performs = settled_backed me leave turn more entry st (end_in entry outs) waits
  acts_backed me leave turn more entry outs (o ∷ rest) st waits performs = (waits, performs)

-- no operation is ahead but that of the outputs
opening_ahead : (st : RunState) (late : Bool) → disk_ahead (opening st late) ≡ None
opening_ahead st true = refl
opening_ahead st false = refl

taking_ahead : (st : RunState) (found : Option (What × Waits)) → disk_ahead (taking st found) ≡ None
taking_ahead st None = opening_ahead st (is_late st)
taking_ahead st (Some found) = refl

begun_ahead : (s : Settings) (me : ℕ) (leave : Option ℕ) (turn more : ℕ) (st : RunState) → disk_ahead (begun_at s me leave turn more st).spot ≡ None
begun_ahead s me leave turn zero st = refl
begun_ahead s me leave turn (suc more) st = taking_ahead st (ready (is_to_leave s leave turn st) st.rests st.waits)

pub said_ahead : (s : Settings) (me : ℕ) (leave : Option ℕ) (turn more : ℕ) (st : RunState) (sents : List Sent) → disk_ahead (said_at s me leave turn more st sents).spot ≡ None
said_ahead s me leave turn more st [] = begun_ahead s me leave turn more st
said_ahead s me leave turn more st (sent ∷ rest) = refl

polled_ahead : (s : Settings) (me : ℕ) (leave : Option ℕ) (turn more : ℕ) (st : RunState) (sents : List Sent) (poll : Option Poll)
    → disk_ahead (polled_at s me leave turn more st sents poll).spot ≡ None
polled_ahead s me leave turn more st sents None = said_ahead s me leave turn more st sents
polled_ahead s me leave turn more st sents (Some poll) = refl

pub parts_ahead : (turn more : ℕ) (end : LiveEnd) (st : RunState) (sents : List Sent) → disk_ahead (parts_at turn more end st sents).spot ≡ None
parts_ahead turn more end st [] = refl
parts_ahead turn more end st (sent ∷ rest) = refl

settled_ahead : (s : Settings) (me : ℕ) (leave : Option ℕ) (turn more : ℕ) (entry : What) (st : RunState) (found : Option LiveEnd)
    → disk_ahead (settled_by s me leave turn more entry st found).spot ≡ None
settled_ahead s me leave turn more entry st None =
    polled_ahead s me leave turn more (polled s me (greets s me st) entry (asked_maker s me st)) (sends_due s me st)
    (poll_due s me (greets s me st) entry (asked_maker s me st))
settled_ahead s me leave turn more entry st (Some end) = parts_ahead turn more end st (farewells_due s me end st)

pub acts_ahead : (s : Settings) (me : ℕ) (leave : Option ℕ) (turn more : ℕ) (entry : What) (outs rest : List Out) (st : RunState)
    → disk_ahead (acts_at s me leave turn more entry outs rest st).spot ≡ disk_of rest
acts_ahead s me leave turn more entry outs [] st = settled_ahead s me leave turn more entry st (end_in entry outs)
acts_ahead s me leave turn more entry outs (o ∷ rest) st = refl

-- a run that ends goes on to end
pub parts_ends : (turn more : ℕ) (end : LiveEnd) (st : RunState) (sents : List Sent) → IsEnding (parts_at turn more end st sents).spot
parts_ends turn more end st [] = tt
parts_ends turn more end st (sent ∷ rest) = tt

settled_ends : (s : Settings) (me : ℕ) (leave : Option ℕ) (turn more : ℕ) (entry : What) (st : RunState) (found : Option LiveEnd) → is_some found ≡ true
    → IsEnding (settled_by s me leave turn more entry st found).spot
settled_ends s me leave turn more entry st None some = absurd cc
settled_ends s me leave turn more entry st (Some end) some = parts_ends turn more end st (farewells_due s me end st)

one_end_in : (found : Option LiveEnd) (entry : What) (o : Out) → end_after entry o ≡ found → is_some found ≡ true → is_some (end_in entry (o ∷ [])) ≡ true
one_end_in None entry o e some = absurd cc
one_end_in (Some end) entry o e some = cc

pub last_ends : (s : Settings) (me : ℕ) (leave : Option ℕ) (turn more : ℕ) (entry : What) (o : Out) (st : RunState) → is_some (end_after entry o) ≡ true
    → IsEnding (acts_at s me leave turn more entry (o ∷ []) [] st).spot
last_ends s me leave turn more entry o st some =
    settled_ends s me leave turn more entry st (end_in entry (o ∷ [])) (one_end_in (end_after entry o) entry o refl some)

-- a packet that counts comes in where it was sent
entry_comes : (rank : ℕ) (log : List Line) (took : Option What) (all : List Sent) (p : Packet) → (counts (Some p) ≡ true → WasSentTo rank all p) → ComesIn rank log took all (entry_of p)
entry_comes rank log took all (packet.Ask ask) sent = sent refl
entry_comes rank log took all (packet.Tell tell) sent = sent refl
entry_comes rank log took all (packet.Hello from) sent = tt
entry_comes rank log took all (packet.Heard from said standing) sent = tt
entry_comes rank log took all (packet.Announce from view) sent = tt
entry_comes rank log took all (packet.Vote agrees) sent = tt

-- what a packet becomes
abbrev pub Taken : ℕ → List Line → Option What → List Sent → Choice → Type 0
Taken rank log took all chosen = ComesAs rank log took all chosen × (is_answer_in chosen ≡ false)

packet_comes : (rank : ℕ) (log : List Line) (took : Option What) (all : List Sent) (found : Option Packet)
    → ((p : Packet) → found ≡ Some p → counts (Some p) ≡ true → WasSentTo rank all p)
    → Taken rank log took all (choice_of rank found)
packet_comes rank log took all None sent = (tt, refl)
packet_comes rank log took all (Some p) sent = by_test (is_entry_for rank p)
  where
    by_test : (mine : Bool) → ComesAs rank log took all (if mine then choice.Whole (entry_of p) else choice.Open (Some p)) × (is_answer_in (if mine then choice.Whole (entry_of p) else choice.Open (Some p)) ≡ false)
    by_test true = (entry_comes rank log took all p (λ c. sent p refl c), packet_answers_none p)
    by_test false = (tt, refl)

-- beside an arbiter
beside_comes : (rank : ℕ) (log : List Line) (took : Option What) (all : List Sent) (reply : Option Reply) (before : Choice)
    → Taken rank log took all before → Taken rank log took all (choice_beside rank reply before)
beside_comes rank log took all (Some reply) before is = by_test (is_reply_for rank reply)
  where
    by_test : (mine : Bool) → Taken rank log took all (if mine then choice.Answer reply else choice.Open None)
    by_test true = (tt, refl)
    by_test false = (tt, refl)
beside_comes rank log took all None (choice.Whole entry) is = by_test (is_device entry)
  where
    by_test : (device : Bool) → Taken rank log took all (if device then choice.Open None else choice.Whole entry)
    by_test true = (tt, refl)
    by_test false = is
beside_comes rank log took all None (choice.Open p) is = (tt, refl)
beside_comes rank log took all None (choice.Answer reply) is = (tt, refl)

content_comes : (rank : ℕ) (log : List Line) (took : Option What) (all : List Sent) (got : Received)
    → ((bytes : List ℕ) (p : Packet) → got ≡ received.Packet bytes → packet_of bytes ≡ Some p → counts (Some p) ≡ true → WasSentTo rank all p)
    → Taken rank log took all (choice_of rank (packet_in got))
content_comes rank log took all (received.Packet bytes) sent = packet_comes rank log took all (packet_of bytes) (λ p is c. sent bytes p refl is c)
content_comes rank log took all received.Nothing sent = (tt, refl)
content_comes rank log took all received.Failed sent = (tt, refl)

pub received_comes : (rank : ℕ) (poller : Option Poller) (log : List Line) (took : Option What) (all : List Sent) (got : Received)
    → ((bytes : List ℕ) (p : Packet) → got ≡ received.Packet bytes → packet_of bytes ≡ Some p → counts (Some p) ≡ true → WasSentTo rank all p)
    → Taken rank log took all (choice_in rank poller got)
received_comes rank None log took all got sent = content_comes rank log took all got sent
received_comes rank (Some poller) log took all got sent =
    beside_comes rank log took all (reply_in got) (choice_of rank (packet_in got)) (content_comes rank log took all got sent)

-- what the view maker sends are greetings
each_greet : (p : Packet) → is_greeting p ≡ true → (ranks : List ℕ) → all_greet (to_each p ranks) ≡ true
each_greet p is [] = refl
each_greet p is (rank ∷ ranks) = ap (λ b. b && all_greet (to_each p ranks)) is ∙ each_greet p is ranks

both_greet : (first second : List Sent) → all_greet first ≡ true → all_greet second ≡ true → all_greet (first ++ second) ≡ true
both_greet [] second one two = two
both_greet (sent ∷ rest) second one two = by_first (is_greeting sent.packet) one (λ h. both_greet rest second h two)
  where
    by_first : (b : Bool) → (b && all_greet rest) ≡ true → (all_greet rest ≡ true → all_greet (rest ++ second) ≡ true) → (b && all_greet (rest ++ second)) ≡ true
    by_first true h next = next h
    by_first false h next = absurd cc

said_greet : (me : ℕ) (said : Greeting) → is_greeting (greeting_packet me said) ≡ true
said_greet me (greeting.Hello said standing) = refl
said_greet me (greeting.Announce view) = refl

views_greet : (me : ℕ) (ranks : List ℕ) (found : Option View) → all_greet (option_map_or (λ view. to_each (greeting_packet me (greeting.Announce view)) ranks) found []) ≡ true
views_greet me ranks None = refl
views_greet me ranks (Some view) = each_greet (greeting_packet me (greeting.Announce view)) refl ranks

send_greet : (s : Settings) (me : ℕ) (maker : Option NamingMaker) (said : Greeting) (from : ℕ) → all_greet (to_send s me maker said from) ≡ true
send_greet s me maker said from =
    both_greet (to_each (greeting_packet me said) (others_from s me from)) _ (each_greet (greeting_packet me said) (said_greet me said) (others_from s me from))
    (follows said maker)
  where
    follows : (said : Greeting) (maker : Option NamingMaker) → all_greet (said_after s me maker said) ≡ true
    follows (greeting.Hello said standing) maker = views_greet me (others_from s me 0) (option_and_then view_announced maker)
    follows (greeting.Announce view) maker = refl

due_greet : (s : Settings) (me : ℕ) (st : RunState) → all_greet (sends_due s me st) ≡ true
due_greet s me st = by_first (first_greeting (greets s me st) maker)
  where
    maker : Option NamingMaker
    maker = (asked_maker s me st).maker

    by_first : (first : Option Greeting) → all_greet (option_map_or (λ said. to_send s me maker said 0) first []) ≡ true
    by_first None = refl
    by_first (Some said) = send_greet s me maker said 0

opening_greets : (st : RunState) (late : Bool) → greets_at (opening st late) ≡ true
opening_greets st true = refl
opening_greets st false = refl

taking_greets : (st : RunState) (found : Option (What × Waits)) → greets_at (taking st found) ≡ true
taking_greets st None = opening_greets st (is_late st)
taking_greets st (Some found) = refl

begun_greets : (s : Settings) (me : ℕ) (leave : Option ℕ) (turn more : ℕ) (st : RunState) → greets_at (begun_at s me leave turn more st).spot ≡ true
begun_greets s me leave turn zero st = refl
begun_greets s me leave turn (suc more) st = taking_greets st (ready (is_to_leave s leave turn st) st.rests st.waits)

pub said_greets : (s : Settings) (me : ℕ) (leave : Option ℕ) (turn more : ℕ) (st : RunState) (sents : List Sent) → all_greet sents ≡ true
    → greets_at (said_at s me leave turn more st sents).spot ≡ true
said_greets s me leave turn more st [] is = begun_greets s me leave turn more st
said_greets s me leave turn more st (sent ∷ rest) is = is

polled_greets : (s : Settings) (me : ℕ) (leave : Option ℕ) (turn more : ℕ) (st : RunState) (sents : List Sent) (poll : Option Poll) → all_greet sents ≡ true
    → greets_at (polled_at s me leave turn more st sents poll).spot ≡ true
polled_greets s me leave turn more st sents None is = said_greets s me leave turn more st sents is
polled_greets s me leave turn more st sents (Some poll) is = is

pub parts_greets : (turn more : ℕ) (end : LiveEnd) (st : RunState) (sents : List Sent) → all_greet sents ≡ true → greets_at (parts_at turn more end st sents).spot ≡ true
parts_greets turn more end st [] is = refl
parts_greets turn more end st (sent ∷ rest) is = is

settled_greets : (s : Settings) (me : ℕ) (leave : Option ℕ) (turn more : ℕ) (entry : What) (st : RunState) (found : Option LiveEnd)
    → greets_at (settled_by s me leave turn more entry st found).spot ≡ true
settled_greets s me leave turn more entry st None =
    polled_greets s me leave turn more (polled s me (greets s me st) entry (asked_maker s me st)) (sends_due s me st)
    (poll_due s me (greets s me st) entry (asked_maker s me st)) (due_greet s me st)
settled_greets s me leave turn more entry st (Some end) = parts_greets turn more end st (farewells_due s me end st) (views_greet me (others_from s me 0) (farewell_after end st.maker))

pub acts_greets : (s : Settings) (me : ℕ) (leave : Option ℕ) (turn more : ℕ) (entry : What) (outs rest : List Out) (st : RunState)
    → greets_at (acts_at s me leave turn more entry outs rest st).spot ≡ true
acts_greets s me leave turn more entry outs [] st = settled_greets s me leave turn more entry st (end_in entry outs)
acts_greets s me leave turn more entry outs (o ∷ rest) st = refl

-- what is left of greetings are greetings
pub rest_greet : (sent : Sent) (rest : List Sent) → all_greet (sent ∷ rest) ≡ true → all_greet rest ≡ true
rest_greet sent rest is = by_first (is_greeting sent.packet) is
  where
    by_first : (b : Bool) → (b && all_greet rest) ≡ true → all_greet rest ≡ true
    by_first true h = h
    by_first false h = absurd cc

pub first_greets : (sent : Sent) (rest : List Sent) → all_greet (sent ∷ rest) ≡ true → is_greeting sent.packet ≡ true
first_greets sent rest is = by_first (is_greeting sent.packet) is
  where
    by_first : (b : Bool) → (b && all_greet rest) ≡ true → b ≡ true
    by_first true h = refl
    by_first false h = absurd cc
