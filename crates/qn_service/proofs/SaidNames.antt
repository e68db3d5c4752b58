-- What a running node says is what its last look left to be said: it names whom that heard.
use Rattle.std.proofs.Common.{◌≡◌, ℕ, ◌<◌, Bool, true, false, List, [], ◌∷◌, ◌++◌, Option, None, Some, length, if◌then◌else◌, refl, sym, ◌∙◌, ap, subst}
use Rattle.std.specs.Prelude.{option_map}
use Rattle.std.specs.Option.{option_map_or}
use Rattle.std.proofs.lemmas.Bool.{false≢true}
use Rattle.std.proofs.lemmas.Option.{none-some, same_Some}
use Rattle.qn_base.specs.declared.ids.Mask.{Mask}
use Rattle.qn_base.specs.declared.ids.Rank.{Rank}
use Rattle.qn_base.specs.declared.ids.Said.{Said}
use Rattle.qn_base.specs.declared.ids.Standing.{Standing}
use Rattle.qn_base.specs.declared.ids.View.{View}
use Rattle.qn_base.specs.Members.{is_member}
use Rattle.qn_model.specs.declared.configuration.Settings.{Settings}
use Rattle.qn_model.specs.declared.packets.Packet.{Packet}
use Rattle.qn_model.specs.declared.packets.Packet.TheVariants as packet
use Rattle.qn_model.specs.declared.packets.Sent.{Sent}
use Rattle.qn_model.specs.Log.{now}
use Rattle.qn_model.specs.Phases.{is_live, phase}
use Rattle.qn_model.specs.Wanted.{rank_of}
use Rattle.qn_member.specs.Announcing.{is_beat}
use Rattle.qn_member.specs.Maker.{Maker, after_tick, company_at, heard_nodes, installed_beside, is_heard, led_by, looked, view_at}
use Rattle.qn_member.specs.Naming.{NamingMaker, is_own, knows_bit}
use Rattle.qn_member.specs.NamingViews.{after_by_name, after_found, after_look, after_naming_hello_due, after_plain_look, company_now, is_naming_hello_due, looked_by_name, seeing_names, view_announced, view_by_name}
use Rattle.qn_live.specs.Choosing.{told}
use Rattle.qn_live.specs.Greetings.{announcements, greeting_packet, hello_of, hellos_where, maker_begun, maker_where, others_from, said_after, to_each}
use Rattle.qn_joined.specs.Joints.{Begins, Ends, Feeds, Happening, Lands, LandsLate, Looks, Operates, Passes, Returns, joint_after}
use Rattle.qn_joined.specs.Stands.{Acting, Ended, Looking, Parting, Polling, Receiving, Saying, Spot, Stand, first_stand}
use Rattle.qn_service.specs.Hellos.{Says, said_in, sent_next}
use Rattle.qn_service.proofs.Made.{leading_keeps, looked_notes}
use Rattle.qn_service.proofs.RankSteps.{Anew, Calls, Stands, StepTo, host_after, returned_spot, step_to}
use Rattle.qn_service.proofs.Ranks.{passes_in}
use Rattle.qn_service.proofs.TurnSteps.{Besides, KnownAt, Places, StepsLead, any_maker, spot_leads}

-- ## What a look leaves to be said

-- after a look a node says whom it heard there
found_says : (tick : ℕ) (m : NamingMaker) → (after_found tick m).maker.says.hears ≡ heard_nodes tick m.maker
unfolding after_found after_tick
found_says tick m = by_own (is_own m knows_bit)
  where
    installs : (company : Mask) (found : Option View) (k : Maker) → (installed_beside company found k).says ≡ k.says
    installs company None k = refl
    installs company (Some view) k = refl

    by_own : (b : Bool) → (if b then after_by_name tick m else after_plain_look tick m).maker.says.hears ≡ heard_nodes tick m.maker
    by_own true =
        ap (λ (said : Said). said.hears)
        (installs (company_now (seeing_names tick m)) (view_by_name tick m) (looked_by_name tick m).maker ∙ ap (λ (k : Maker). k.says) (looked_notes tick m))
    by_own false =
        ap (λ (said : Said). said.hears)
        (ap (λ (k : Maker). k.says) (leading_keeps tick (led_by (after_tick tick m.maker)) (record m { maker = after_tick tick m.maker }) (after_tick tick m.maker) refl)
        ∙ installs (company_at (looked tick m.maker)) (view_at tick m.maker) (looked tick m.maker))

look_says : (tick : ℕ) (m : NamingMaker) → (after_look tick m).maker.says.hears ≡ heard_nodes tick m.maker
unfolding after_look
look_says tick m = found_says tick m

-- it names each configured node that it heard
pub look_names : (tick to : ℕ) (m : NamingMaker) → to < length m.maker.nodes → is_heard tick m.maker to ≡ true → is_member (after_look tick m).maker.says.hears to ≡ true
look_names tick to m under heard =
    ap (λ (set : Mask). is_member set to) (look_says tick m) ∙ passes_in (is_heard tick m.maker) (length m.maker.nodes) to under heard

pub due_says : (tick : ℕ) (m : NamingMaker) → (after_naming_hello_due tick m).maker.says ≡ m.maker.says
due_says tick m = by_due (is_naming_hello_due tick m)
  where
    by_due : (b : Bool) → (if b
        then record m {
          maker = record m.maker {
            last_hello = if is_beat tick m.maker then Some tick else m.maker.last_hello;
            told = Some (record { tick = tick; said = m.maker.says; view = view_announced m });
          };
          told_stands = m.stands;
        }
        else m).maker.says ≡ m.maker.says
    by_due true = refl
    by_due false = refl

-- ## What is to be said

-- a packet that is a Hello says these words
abbrev HelloSays : Said → Packet → Type 0
HelloSays said p = (from : Rank) (words : Said) (standing : Standing) → p ≡ packet.Heard from words standing → words ≡ said

abbrev pub AllHellosSay : Said → List Sent → Type 0
AllHellosSay said [] = Unit {0}
AllHellosSay said (sent ∷ rest) = HelloSays said sent.packet × AllHellosSay said rest

each_says : (said : Said) (p : Packet) (ranks : List ℕ) → HelloSays said p → AllHellosSay said (to_each p ranks)
each_says said p [] says = tt
each_says said p (rank ∷ ranks) says = (says, each_says said p ranks says)

both_say : (said : Said) (front behind : List Sent) → AllHellosSay said front → AllHellosSay said behind → AllHellosSay said (front ++ behind)
both_say said [] behind first second = second
both_say said (sent ∷ front) behind (says, first) second = (says, both_say said front behind first second)

announcement_says : (s : Settings) (me : ℕ) (said : Said) (announced : Option View) → AllHellosSay said (announcements s me announced)
announcement_says s me said None = tt
announcement_says s me said (Some view) = each_says said (packet.Announce (rank_of me) view) (others_from s me 0) (λ from words standing is. absurd cc)

heard_says : (me : ℕ) (said : Said) (standing : Standing) → HelloSays said (packet.Heard (rank_of me) said standing)
heard_says me said standing from words other is = cc

hellos_say : (s : Settings) (me : ℕ) (due : Bool) (had : Option NamingMaker) (m : NamingMaker) → had ≡ Some m → AllHellosSay m.maker.says (hellos_where due s me had)
hellos_say s me false had m is = tt
hellos_say s me true None m is = absurd (none-some m is)
hellos_say s me true (Some k) m is =
    subst (λ (n : NamingMaker). AllHellosSay n.maker.says (hellos_where true s me (Some k))) (same_Some k m is)
    (both_say k.maker.says (to_each (greeting_packet me (hello_of k)) (others_from s me 0)) (said_after s me (Some k) (hello_of k))
    (each_says k.maker.says (greeting_packet me (hello_of k)) (others_from s me 0) (heard_says me k.maker.says k.stands))
    (announcement_says s me k.maker.says (view_announced k)))

-- the Hellos that are left to say are those of the view maker
abbrev pub word_places : Places
word_places =
    record {
      between = λ log had. Unit {0};
      acting = λ log had. Unit {0};
      saying = λ sents log had. (m : NamingMaker) → had ≡ Some m → AllHellosSay m.maker.says sents;
      over = λ log. Unit {0};
    }

abbrev no_besides : Besides
no_besides =
    record { clock = λ log tick p. Unit {0}; look = λ tick m. Unit {0}; sent = λ sent log. Unit {0}; log = λ log. Unit {0}; maker = λ m. Unit {0} }

word_leads : (s : Settings) (me : ℕ) → StepsLead s me no_besides word_places word_places
word_leads s me =
    record {
      waits = λ log had known. tt;
      takes = λ log had tick p entry clock order makers known. tt;
      looks = λ log m tick own p clock looking order maker known. tt;
      kept = λ m tick own p known. tt;
      acts = λ log had known. tt;
      greets = λ log had loop_ms own logged makers known m is.
          hellos_say s me (option_map_or (is_naming_hello_due (now log)) (maker_where (is_live (phase s log)) (maker_begun s me loop_ms own) had) false)
          (option_map (after_naming_hello_due (now log)) (maker_where (is_live (phase s log)) (maker_begun s me loop_ms own) had)) m is;
      polls = λ sents log had known. known;
      says = λ sent rest log had says known m is. (known m is).1;
      said = λ log had known. tt;
      stops = λ log had known. tt;
      parts = λ log had known. tt;
      ends = λ log known. tt;
    }

first_words : (clean : Bool) (polls : Option ℕ) (turns : ℕ) → KnownAt word_places (first_stand clean polls turns).spot
first_words true polls turns = tt
first_words false polls turns = tt

module _ (s : Settings) (image : ℕ → List ℕ) (rank : ℕ) where
  always_words : (h : List Happening) → KnownAt word_places (host_after s image rank h).stand.spot
  unfolding joint_after
  always_words [] = first_words false None 1
  always_words (newest ∷ earlier) = by_step (step_to s image rank newest earlier) (always_words earlier)
    where
      by_step : StepTo s image rank newest earlier → KnownAt word_places (host_after s image rank earlier).stand.spot → KnownAt word_places (host_after s image rank (newest ∷ earlier)).stand.spot
      by_step (Stands same none) before = subst (λ (st : Stand). KnownAt word_places st.spot) (sym same) before
      by_step (Anew clean polls turns spot none) before = subst (KnownAt word_places) (sym spot) (first_words clean polls turns)
      by_step (Calls c) before =
          let host = host_after s image rank earlier in
          subst (KnownAt word_places) (sym (c.stand ∙ returned_spot s rank (joint_after s image earlier).time host c.made))
          (spot_leads s rank no_besides word_places word_places (word_leads s rank) host.leave host.stand.turn host.stand.more host.stand.spot c.made
          (λ chosen is. tt) (λ look is. tt) (λ sent rest st is. tt) tt (any_maker host.stand.spot) before)

-- ## What a node has to say

-- there is a view maker, and what it says passes a test
pub record HasWord (test : Said → Bool) (had : Option NamingMaker) : Type 0 where
  pub maker : NamingMaker
  pub is : had ≡ Some maker
  pub so : test maker.maker.says ≡ true

abbrev pub saying_places : (Said → Bool) → Places
saying_places test =
    record {
      between = λ log had. HasWord test had;
      acting = λ log had. HasWord test had;
      saying = λ sents log had. HasWord test had;
      over = λ log. Unit {0};
    }

-- beside: what each look leaves to be said passes it, and the node is live
abbrev pub saying_besides : Settings → (Said → Bool) → Besides
saying_besides s test =
    record {
      clock = λ log tick p. Unit {0};
      look = λ tick m. test (after_look tick m).maker.says ≡ true;
      sent = λ sent log. Unit {0};
      log = λ log. is_live (phase s log) ≡ true;
      maker = λ m. Unit {0};
    }

left_word : (test : Said → Bool) (tick : ℕ) (live : Bool) (begun : NamingMaker) (had : Option NamingMaker) → live ≡ true → HasWord test had
    → HasWord test (option_map (after_naming_hello_due tick) (maker_where live begun had))
left_word test tick false begun had live word = absurd (false≢true live)
left_word test tick true begun None live word = absurd (none-some word.maker word.is)
left_word test tick true begun (Some m) live word =
    record {
      maker = after_naming_hello_due tick m;
      is = refl;
      so = ap test (due_says tick m) ∙ ap (λ (k : NamingMaker). test k.maker.says) (same_Some m word.maker word.is) ∙ word.so;
    }

pub saying_leads : (s : Settings) (me : ℕ) (test : Said → Bool) → StepsLead s me (saying_besides s test) (saying_places test) (saying_places test)
saying_leads s me test =
    record {
      waits = λ log had known. known;
      takes = λ log had tick p entry clock order makers known. known;
      looks = λ log m tick own p clock looking order maker known. record { maker = after_look tick (told tick own p m); is = refl; so = looking };
      kept = λ m tick own p known. tt;
      acts = λ log had known. known;
      greets = λ log had loop_ms own live makers known. left_word test (now log) (is_live (phase s log)) (maker_begun s me loop_ms own) had live known;
      polls = λ sents log had known. known;
      says = λ sent rest log had says known. known;
      said = λ log had known. known;
      stops = λ log had known. tt;
      parts = λ log had known. tt;
      ends = λ log known. tt;
    }

-- ## What is said

-- who says a packet is about to send it
pub says_next : (s : Settings) (image : ℕ → List ℕ) (from : ℕ) (sent : Sent) (newest : Happening) (earlier : List Happening) → said_in s image newest earlier ≡ Some (from, sent)
    → sent_next (host_after s image from earlier).stand.spot ≡ Some sent
says_next s image from sent (Returns rank made) earlier says = by_next (sent_next (host_after s image rank earlier).stand.spot) refl says
  where
    by_next : (o : Option Sent) → sent_next (host_after s image rank earlier).stand.spot ≡ o → option_map {U = ℕ × Sent} (λ one. (rank, one)) o ≡ Some (from, sent)
        → sent_next (host_after s image from earlier).stand.spot ≡ Some sent
    by_next None next is = absurd (none-some (from, sent) is)
    by_next (Some one) next is =
        let same : (rank, one) ≡ (from, sent) = same_Some (rank, one) (from, sent) is in
        subst (λ r. sent_next (host_after s image r earlier).stand.spot ≡ Some sent) (ap (λ (pair : ℕ × Sent). pair.0) same) (next ∙ ap (λ (pair : ℕ × Sent). Some pair.1) same)
says_next s image from sent (Looks rank base) earlier says = absurd (none-some (from, sent) says)
says_next s image from sent (Passes dt clocks) earlier says = absurd (none-some (from, sent) says)
says_next s image from sent (Begins rank clean leave polls turns) earlier says = absurd (none-some (from, sent) says)
says_next s image from sent (Lands rank) earlier says = absurd (none-some (from, sent) says)
says_next s image from sent (Feeds rank) earlier says = absurd (none-some (from, sent) says)
says_next s image from sent (LandsLate rank number) earlier says = absurd (none-some (from, sent) says)
says_next s image from sent (Ends rank) earlier says = absurd (none-some (from, sent) says)
says_next s image from sent (Operates rank message) earlier says = absurd (none-some (from, sent) says)

spot_words : (test : Said → Bool) (from place : Rank) (said : Said) (standing : Standing) (spot : Spot)
    → sent_next spot ≡ Some (record { to = place; packet = packet.Heard from said standing })
    → KnownAt (saying_places test) spot → KnownAt word_places spot → test said ≡ true
spot_words test from place said standing (Saying sent rest st) next word words =
    let same : sent ≡ record { to = place; packet = packet.Heard from said standing } = same_Some sent _ next in
    let says : said ≡ word.maker.maker.says = (words word.maker word.is).0 from said standing (ap (λ (one : Sent). one.packet) same) in
    ap test says ∙ word.so
spot_words test from place said standing (Receiving st) next word words = absurd (none-some _ next)
spot_words test from place said standing (Looking chosen) next word words = absurd (none-some _ next)
spot_words test from place said standing (Acting entry outs o rest st) next word words = absurd (none-some _ next)
spot_words test from place said standing (Polling poll sents st) next word words = absurd (none-some _ next)
spot_words test from place said standing (Parting end sent rest st) next word words = absurd (none-some _ next)
spot_words test from place said standing (Ended ran) next word words = absurd (none-some _ next)

-- a Hello that is said where what the view maker says passes a test passes it
pub hello_words : (s : Settings) (image : ℕ → List ℕ) (from to : ℕ) (test : Said → Bool) (said : Said) (standing : Standing) (newest : Happening) (earlier : List Happening)
    → Says s image from to (packet.Heard (rank_of from) said standing) newest earlier → KnownAt (saying_places test) (host_after s image from earlier).stand.spot
    → test said ≡ true
hello_words s image from to test said standing newest earlier says word =
    spot_words test (rank_of from) (rank_of to) said standing (host_after s image from earlier).stand.spot
    (says_next s image from (record { to = rank_of to; packet = packet.Heard (rank_of from) said standing }) newest earlier says) word (always_words s image from earlier)
