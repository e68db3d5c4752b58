-- The Tell lemma: what a Tell that a node counts says of the node that sent it.
use Rattle.std.proofs.Common.{◌≡◌, ℕ, Bool, true, false, List, ◌∷◌, Some, None, Option, refl, sym, ap, ◌∙◌, subst, ◌&&◌, ◌||◌, ◌==◌, not, if◌then◌else◌}
use Rattle.std.specs.Option.{option_map_or}
use Rattle.std.proofs.lemmas.Bool.{false≢true, eqb-true, or_from, not-true}
use Rattle.qn_base.specs.declared.ids.Rank.{Rank}
use Rattle.qn_base.specs.declared.ids.View.{View}
use Rattle.qn_base.specs.Members.{is_member}
use Rattle.qn_model.specs.declared.configuration.Settings.{Settings}
use Rattle.qn_model.specs.declared.times.Timing.{Timing}
use Rattle.qn_model.specs.declared.packets.Ask.{Ask}
use Rattle.qn_model.specs.declared.packets.Tell.{Tell}
use Rattle.qn_model.specs.declared.packets.Packet.{Packet}
use Rattle.qn_model.specs.declared.packets.Packet.TheVariants as packet
use Rattle.qn_model.specs.declared.outputs.Out.TheVariants as out
use Rattle.qn_model.specs.declared.entries.What.{What}
use Rattle.qn_model.specs.declared.entries.What.TheVariants as what
use Rattle.qn_model.specs.Log.{Line, claimed, has_start}
use Rattle.qn_model.specs.Phases.{phase, is_booting, is_live}
use Rattle.qn_model.specs.Holding.{holds, is_stopped}
use Rattle.qn_model.specs.NodeVotes.{view, is_in_view, is_present, answers, install}
use Rattle.qn_model.specs.Fitting.{fits, read_as, is_for}
use Rattle.qn_model.specs.NodeOutputs.{gives_start}
use Rattle.qn_model.specs.Moments.{Before, Itself, Later}
use Rattle.qn_safety.specs.Earlier.{before_then, before_tail}
use Rattle.qn_model.specs.declared.packets.Sent.{Sent}
use Rattle.qn_model.specs.Moments.{Moment, begin_of, Adds, node}
use Rattle.qn_safety.specs.Timed.{IsAdded, IsUp, IsSameBoot, IsSentTo, WasSent, AllRuled, IsTimedRun}
use Rattle.std.proofs.Common.{unwrap_or}
use Rattle.std.proofs.lemmas.Option.{same_Some}
use Rattle.qn_safety.specs.Boots.{one_boot}
use Rattle.qn_base.specs.lemmas.Bools.{first_of_neither, second_of_neither, never_both, first_of_both, second_of_both}
use Rattle.qn_base.specs.lemmas.Elements.{IsIn}
use Rattle.qn_model.specs.NodeVotes.{is_same_view}
use Rattle.qn_model.specs.lemmas.Phases.{live_booted}
use Rattle.qn_safety.proofs.Says.{PacketReason, TellReason, AskReason}
use Rattle.qn_safety.proofs.Logs.{Made, IsLine, before_outs, made_line, start_reason}
use Rattle.qn_safety.proofs.Installs.{view_is, view_stays}
use Rattle.qn_safety.proofs.Rests.{TellFound, same_view_at}
use Rattle.qn_safety.proofs.Runs.{sound, ruled_before, newest_rule}
use Rattle.qn_safety.proofs.Origins.{Origin, ByEntry, ByBoot, origin, AddedLine, added_line, Sending, sent_at}
use Rattle.qn_safety.proofs.Numbers.{up_number}
use Rattle.qn_safety.proofs.Fence.{added_then}
use Rattle.qn_safety.proofs.Licensed.{added_boots}

-- what node i knows at m by a Tell of node j that says not holding
pub record Traced (s : Settings) (i j : ℕ) (m : List Moment) : Type 0 where
  pub sent : List Moment
  pub back : Before sent m
  pub line : Line
  pub past : List Line
  pub gave : (node s j sent).log ≡ line ∷ past
  pub idle : holds (line ∷ past) ≡ false
  pub sees : is_in_view (line ∷ past) i ≡ true
  pub asked : List Moment
  pub asked_back : Before asked sent
  pub up : IsUp s i asked
  pub same : IsSameBoot s i asked m
  pub shows : view (line ∷ past) ≡ view (node s i m).log
  pub asking : List Moment
  pub asking_back : Before asking sent
  pub asking_same : IsSameBoot s i asking m
  pub installed : install (node s i asking).log ≡ install (node s i m).log

-- an entry that is read as a packet is that packet
read_by_test : (b : Bool) (entry w : What) → (if b then entry else what.Tick) ≡ w → ((what.Tick ≡ w) → ⊥) → entry ≡ w
read_by_test true entry w e no_tick = e
read_by_test false entry w e no_tick = absurd (no_tick e)

pub read_tell : (s : Settings) (me : ℕ) (past : List Line) (entry : What) (tell : Tell) → read_as s me past entry ≡ what.Tell tell → entry ≡ what.Tell tell
read_tell s me past entry tell e = read_by_test (fits s me past entry) entry (what.Tell tell) e (λ q. cc)

read_ask : (s : Settings) (me : ℕ) (past : List Line) (entry : What) (ask : Ask) → read_as s me past entry ≡ what.Ask ask → entry ≡ what.Ask ask
read_ask s me past entry ask e = read_by_test (fits s me past entry) entry (what.Ask ask) e (λ q. cc)

number_of_test : (found : Option ℕ) (number : ℕ) → option_map_or (λ n. n == number) found false ≡ true → found ≡ Some number
number_of_test None number e = absurd (false≢true e)
number_of_test (Some n) number e = ap Some (eqb-true n number e)

-- a Tell that answers carries the claimed number
answers_number : (past : List Line) (tell : Tell) → answers past tell ≡ true → claimed past ≡ Some tell.incarnation
answers_number past tell e =
    number_of_test (claimed past) tell.incarnation
    (first_of_both (option_map_or (λ number. number == tell.incarnation) (claimed past) false) (install past == tell.install)
    (first_of_both (option_map_or (λ number. number == tell.incarnation) (claimed past) false && install past == tell.install) (is_present past tell.view) e))

-- and the present view
answers_view : (past : List Line) (tell : Tell) → answers past tell ≡ true → is_present past tell.view ≡ true
answers_view past tell e = second_of_both (option_map_or (λ number. number == tell.incarnation) (claimed past) false && install past == tell.install) (is_present past tell.view) e

-- and the install number
answers_install : (past : List Line) (tell : Tell) → answers past tell ≡ true → install past ≡ tell.install
answers_install past tell e =
    eqb-true (install past) tell.install
    (second_of_both (option_map_or (λ number. number == tell.incarnation) (claimed past) false) (install past == tell.install)
    (first_of_both (option_map_or (λ number. number == tell.incarnation) (claimed past) false && install past == tell.install) (is_present past tell.view) e))

-- a rank that is in a view that is the present one is in the present one
member_of_present : (found : Option View) (asked : View) (rank : ℕ) → option_map_or (λ own. is_same_view own asked) found false ≡ true → is_member asked.members rank ≡ true
    → option_map_or (λ view. is_member view.members rank) found false ≡ true
member_of_present None asked rank e member = absurd (false≢true e)
member_of_present (Some own) asked rank e member =
    let same : own.members.0 ≡ asked.members.0 = eqb-true own.members.0 asked.members.0 (second_of_both (own.id == asked.id) (own.members.0 == asked.members.0) e) in
    subst (λ mask. (Rattle.std.specs.Int.bit_at mask rank == 1) ≡ true) (sym same) member

-- a line whose Tell says not holding leaves the node not holding
tell_idle : {s : Settings} {me : ℕ} {line : Line} {past : List Line} → IsLine s me line past → (gives_start s me (before_outs line past) || holds (before_outs line past)) ≡ false
    → holds (line ∷ past) ≡ false
unfolding holds
tell_idle {s = s} {me = me} {line = line} {past = past} it none =
    by_start (has_start line.outs) refl
  where
    by_start : (b : Bool) → has_start line.outs ≡ b → (has_start line.outs || (holds past && not (is_stopped line.what))) ≡ false
    by_start true e = never_both (gives_start s me (before_outs line past)) ((start_reason it e).clear) (first_of_neither (gives_start s me (before_outs line past)) _ none)
    by_start false e = or_from (has_start line.outs) (holds past && not (is_stopped line.what)) e (second_of_neither (gives_start s me (before_outs line past)) _ none)

-- What a Tell that answers its reader i, and was sent by j, says of j and of the Ask that it answers. `heard_at` is right
-- before the Tell was read.
pub record TellTrace (s : Settings) (i j : ℕ) (tell : Tell) (heard_at : List Moment) : Type 0 where
  pub line : Line
  pub past : List Line
  pub before : List Moment
  pub added : IsAdded s j line past before heard_at
  pub idle : tell.holds ≡ false → holds (line ∷ past) ≡ false
  pub sees : is_in_view (line ∷ past) i ≡ true
  pub shows : is_present (line ∷ past) tell.view ≡ true
  pub to : Rank
  pub receives : to.0 ≡ i
  pub sends : IsIn (out.Send to (packet.Tell tell)) line.outs
  pub ask_line : Line
  pub ask_past : List Line
  pub asked : List Moment
  pub ask_added : IsAdded s i ask_line ask_past asked before
  pub up : IsUp s i asked
  pub same : IsSameBoot s i asked heard_at
  pub installed : install (ask_line ∷ ask_past) ≡ tell.install

same_install : (line : Line) (past : List Line) → install (before_outs line past) ≡ install (line ∷ past)
unfolding install
same_install line past = refl

same_present : (line : Line) (past : List Line) (seen : View) → is_present (before_outs line past) seen ≡ is_present (line ∷ past) seen
unfolding view
same_present line past seen = refl

module _ {s : Settings} {t : Timing} {all : List Moment} (run : IsTimedRun s t all) (i : ℕ) where
  -- from the Ask that was sent on: both packets, and the boot that asked
  traced_from : (j : ℕ) (tell : Tell) (heard_at : List Moment) → Before heard_at all → IsUp s i heard_at → claimed (node s i heard_at).log ≡ Some tell.incarnation
      → (sent_tell : Sent) → sent_tell.to.0 ≡ i → sent_tell.packet ≡ packet.Tell tell → (sending : Sending s j sent_tell heard_at)
      → TellReason s j sending.past (before_outs sending.line sending.past) sending.line.what sent_tell.to tell → TellTrace s i j tell heard_at
  traced_from j tell heard_at heard_all up_heard claims sent_tell receiver content sending why =
      by_ask (sent_at (ruled_before back_before_all run.ruled) asked_sent)
    where
      back_sent_all : Before (Adds j sending.added.entry ∷ sending.before) all
      back_sent_all = before_then sending.added.back heard_all

      back_before_all : Before sending.before all
      back_before_all = before_tail back_sent_all

      ruled_sent : AllRuled s t (Adds j sending.added.entry ∷ sending.before)
      ruled_sent = ruled_before back_sent_all run.ruled

      parts : AddedLine s j sending.added.entry sending.line sending.past sending.before
      parts = added_line s j sending.added.entry sending.line sending.past sending.before sending.added.gave

      asked_sent : IsSentTo s j (packet.Ask why.ask) sending.before
      asked_sent =
          let rule = (newest_rule ruled_sent).1 in
          subst (λ w. WasSent s j w sending.before) (read_ask s j sending.past sending.added.entry why.ask (sym parts.reads ∙ why.asked)) rule

      it : IsLine s j sending.line sending.past
      it = made_line (subst (λ log. Made s j log) sending.added.gave ((sound ruled_sent j).made))

      asker : why.ask.from.0 ≡ i
      asker = ap (λ r. r.0) (sym why.to_asker) ∙ receiver

      same_asker : (k : ℕ) (asking : Sending s k asked_sent.sent sending.before) → k ≡ i → AskReason s k asking.past (before_outs asking.line asking.past) asked_sent.sent.to why.ask
          → IsSameBoot s i asking.before heard_at
      same_asker k asking own reason =
          let up_asking : IsUp s i asking.before = subst (λ r. IsUp s r asking.before) own asking.up in
          let asking_all : Before asking.before all = before_then (before_tail asking.added.back) back_before_all in
          let ruled_asking = ruled_before asking_all run.ruled in
          let state = sound ruled_asking i in
          let has = up_number state.made up_asking.booted (state.living up_asking.on) in
          let heard_state = sound (ruled_before heard_all run.ruled) i in
          let heard_has = up_number heard_state.made up_heard.booted (heard_state.living up_heard.on) in
          let own_log : asking.past ≡ (node s i asking.before).log = asking.behind ∙ ap (λ r. (node s r asking.before).log) own in
          let number : why.ask.incarnation ≡ has.number = reason.number ∙ ap (λ log. unwrap_or (claimed log) 0) own_log ∙ ap (λ o. unwrap_or o 0) has.claims in
          let heard_number : tell.incarnation ≡ heard_has.number = same_Some _ _ (sym claims ∙ heard_has.claims) in
          let numbers : heard_has.number ≡ has.number = sym heard_number ∙ why.incarnation ∙ number in
          one_boot run i has.number asking.before heard_at asking_all heard_all up_asking up_heard has.has (heard_has.has ∙ ap Some numbers)

      traced_ask : (k : ℕ) (asking : Sending s k asked_sent.sent sending.before) → AskReason s k asking.past (before_outs asking.line asking.past) asked_sent.sent.to why.ask → k ≡ i
          → TellTrace s i j tell heard_at
      traced_ask k asking reason own = record {
        line = sending.line;
        past = sending.past;
        before = sending.before;
        added = sending.added;
        idle = λ free. tell_idle it (sym why.held ∙ free);
        sees = sym (same_view_at sending.line sending.past i)
            ∙ member_of_present (view (before_outs sending.line sending.past)) why.ask.view i why.present (subst (λ r. is_member why.ask.view.members r ≡ true) asker why.member);
        shows = sym (same_present sending.line sending.past tell.view) ∙ ap (is_present (before_outs sending.line sending.past)) why.same_view ∙ why.present;
        to = sent_tell.to;
        receives = receiver;
        sends = subst (λ (p : Packet). IsIn (out.Send sent_tell.to p) sending.line.outs) content sending.sends;
        ask_line = asking.line;
        ask_past = asking.past;
        asked = asking.before;
        ask_added = subst (λ r. IsAdded s r asking.line asking.past asking.before sending.before) own asking.added;
        up = subst (λ r. IsUp s r asking.before) own asking.up;
        same = same_asker k asking own reason;
        installed = sym (same_install asking.line asking.past) ∙ sym reason.number_of_view ∙ sym why.number_of_view;
      }

      by_ask : (k : ℕ) × Sending s k asked_sent.sent sending.before → TellTrace s i j tell heard_at
      by_ask found =
          let reason : AskReason s found.0 found.1.past (before_outs found.1.line found.1.past) asked_sent.sent.to why.ask =
          subst (λ c. PacketReason s found.0 found.1.past (before_outs found.1.line found.1.past) found.1.line.what asked_sent.sent.to c) asked_sent.content found.1.reason in
          traced_ask found.0 found.1 reason (sym (ap (λ r. r.0) reason.from_me) ∙ asker)

  by_sending : (tell : Tell) (heard_at : List Moment) → Before heard_at all → IsUp s i heard_at → claimed (node s i heard_at).log ≡ Some tell.incarnation
      → IsSentTo s i (packet.Tell tell) heard_at → TellTrace s i tell.from.0 tell heard_at
  by_sending tell heard_at heard_all up_heard claims told_sent =
      by_teller (sent_at (ruled_before heard_all run.ruled) told_sent)
    where
      by_teller : (k : ℕ) × Sending s k told_sent.sent heard_at → TellTrace s i tell.from.0 tell heard_at
      by_teller found =
          let why : TellReason s found.0 found.1.past (before_outs found.1.line found.1.past) found.1.line.what told_sent.sent.to tell =
          subst (λ c. PacketReason s found.0 found.1.past (before_outs found.1.line found.1.past) found.1.line.what told_sent.sent.to c) told_sent.content found.1.reason in
          subst (λ x. TellTrace s i x tell heard_at) (sym (ap (λ r. r.0) why.from_me))
          (traced_from found.0 tell heard_at heard_all up_heard claims told_sent.sent told_sent.receiver told_sent.content found.1 why)

  -- what a Tell that answers says
  pub tell_trace : (line : Line) (past : List Line) (before : List Moment) (tell : Tell) → IsAdded s i line past before all → line.what ≡ what.Tell tell → answers past tell ≡ true
      → TellTrace s i tell.from.0 tell before
  tell_trace line past before tell added reads answered =
      let ruled_add = ruled_before added.back run.ruled in
      let rule = newest_rule ruled_add in
      let parts = added_line s i added.entry line past before added.gave in
      let it : IsLine s i line past = made_line (subst (λ log. Made s i log) added.gave ((sound ruled_add i).made)) in
      let entry : added.entry ≡ what.Tell tell = read_tell s i past added.entry tell (sym parts.reads ∙ reads) in
      let fit : fits s i past (what.Tell tell) ≡ true = subst (λ w. fits s i past w ≡ true) reads it.fitting in
      let live : is_live (phase s past) ≡ true = first_of_both (is_live (phase s past)) (is_for s i tell.from tell.to) fit in
      let booted : is_booting (phase s (node s i before).log) ≡ false = subst (λ log. is_booting (phase s log) ≡ false) parts.behind (live_booted (phase s past) live) in
      let claims : claimed (node s i before).log ≡ Some tell.incarnation = subst (λ log. claimed log ≡ Some tell.incarnation) parts.behind (answers_number past tell answered) in
      let told_sent : IsSentTo s i (packet.Tell tell) before = subst (λ w. WasSent s i w before) entry rule.1 in
      by_sending tell before (before_tail added.back) (record { on = rule.0; booted = booted }) claims told_sent

  -- what node i knows at m by a Tell of node j that says not holding
  traced_at : (m before : List Moment) (tell : Tell) → Before before m → IsSameBoot s i before m → not tell.holds ≡ true → TellTrace s i tell.from.0 tell before
      → (past : List Line) → Before past (node s i m).log → answers past tell ≡ true → install past ≡ install (node s i m).log → Traced s i tell.from.0 m
  traced_at m before tell back same free trace past grows answered stays = record {
    sent = Adds tell.from.0 trace.added.entry ∷ trace.before;
    back = before_then trace.added.back back;
    line = trace.line;
    past = trace.past;
    gave = trace.added.gave;
    idle = trace.idle (not-true tell.holds free);
    sees = trace.sees;
    asked = trace.asked;
    asked_back = before_then (before_tail trace.ask_added.back) (Later (Adds tell.from.0 trace.added.entry) Itself);
    up = trace.up;
    same = trace.same ∙ same;
    shows = view_is (trace.line ∷ trace.past) tell.view trace.shows ∙ sym (view_is past tell.view (answers_view past tell answered)) ∙ sym (view_stays grows stays);
    asking = Adds i trace.ask_added.entry ∷ trace.asked;
    asking_back = before_then trace.ask_added.back (Later (Adds tell.from.0 trace.added.entry) Itself);
    asking_same = added_boots s i trace.ask_added.entry trace.asked ∙ trace.same ∙ same;
    installed = ap install trace.ask_added.gave ∙ trace.installed ∙ sym (answers_install past tell answered) ∙ stays;
  }

  pub traced : (m : List Moment) → Before m all → (j : ℕ) → TellFound (λ tell. not tell.holds) j (node s i m).log → Traced s i j m
  traced m m_all j found = by_origin (origin s i found.line found.past m found.back)
    where
      no_begin : (clean : Bool) → found.line.what ≡ begin_of clean → ⊥
      no_begin clean begins = told_begin clean (sym begins ∙ found.reads)
        where
          told_begin : (clean : Bool) → begin_of clean ≡ what.Tell found.tell → ⊥
          told_begin false e = cc
          told_begin true e = cc

      by_origin : Origin s i found.line found.past m → Traced s i j m
      by_origin (ByBoot clean begins first) = absurd (no_begin clean begins)
      by_origin (ByEntry before added same) =
          subst (λ x. Traced s i x m) found.sender
          (traced_at m before found.tell (before_tail added.back) (sym (added_boots s i added.entry before) ∙ same) found.passes
          (tell_trace found.line found.past before found.tell (added_then added m_all) found.reads found.answers)
          found.past (before_tail found.back) found.answers found.stays)
