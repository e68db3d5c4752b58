-- A reset that was written on two of three images: the incarnation that was up gets bad mail from then on.
use Rattle.std.proofs.Common.{◌≡◌, ℕ, ◌<◌, Bool, true, false, List, ◌∷◌, length, Some, None, Option, refl, sym, ap, ◌∙◌, subst, arith, ◌||◌, not, ◌⊎◌, inl, inr}
use Rattle.std.specs.Option.{option_map_or}
use Rattle.std.proofs.lemmas.Bool.{false≢true}
use Rattle.std.proofs.lemmas.Option.{same_Some}
use Rattle.qn_base.specs.declared.ids.Rank.{Rank}
use Rattle.qn_base.specs.lemmas.Bools.{never_both}
use Rattle.qn_base.specs.lemmas.Elements.{IsIn}
use Rattle.qn_model.specs.declared.configuration.Settings.{Settings}
use Rattle.qn_model.specs.declared.times.Timing.{Timing}
use Rattle.qn_model.specs.declared.disk.Message.{Message}
use Rattle.qn_model.specs.declared.disk.Message.TheVariants as message
use Rattle.qn_model.specs.declared.seen.MailSeen.TheVariants as mail
use Rattle.qn_model.specs.declared.entries.What.{What}
use Rattle.qn_model.specs.declared.entries.What.TheVariants as what
use Rattle.qn_model.specs.declared.events.Event.{Event}
use Rattle.qn_model.specs.declared.events.Event.TheVariants as event
use Rattle.qn_model.specs.declared.outputs.DiskOp.{DiskOp}
use Rattle.qn_model.specs.declared.outputs.DiskOp.TheVariants as disk
use Rattle.qn_model.specs.lemmas.Rules.{allowed}
use Rattle.qn_model.specs.lemmas.Moments.{put_same}
use Rattle.qn_model.specs.lemmas.Logs.{ask_place-within}
use Rattle.qn_model.specs.Log.{ask_place, is_answer}
use Rattle.qn_model.specs.Phases.{phase, message_of, is_booting}
use Rattle.qn_model.specs.Sectors.{is_deadly}
use Rattle.qn_model.specs.Licences.{writes_reset}
use Rattle.qn_model.specs.NodeOutputs.{feeds_on}
use Rattle.qn_model.specs.Moments.{Before, Itself, Later, Moment, node}
use Rattle.qn_model.specs.World.{World, put, taken, numbered}
use Rattle.qn_model.specs.Rules.{is_on, may_operate}
use Rattle.qn_model.specs.lemmas.Failures.{failed_no_mail}
use Rattle.qn_safety.specs.declared.triple_event.TripleEvent.{TripleEvent}
use Rattle.qn_safety.specs.declared.triple_event.TripleEvent.TheVariants as triple
use Rattle.qn_safety.specs.Timed.{IsUp, IsSameBoot, IsBetween, GetsBadMail, WrittenMeansBadMail}
use Rattle.qn_safety.specs.declared.part.Part.{Part}
use Rattle.qn_safety.specs.declared.part.Part.TheVariants.{Landed}
use Rattle.qn_safety.specs.TripleWorld.{TripleWorld, put_on, image_of, op_of, counting, needs_good, message_among, messages_among, together, answer_of, good_after, mailboxes_on}
use Rattle.qn_safety.specs.TripleRules.{refusal_triple}
use Rattle.qn_safety.specs.TripleSteps.{landed_on, failed_on, done_triple, lands_late_on, step_of_one, step_triple, run_triple}
use Rattle.qn_safety.specs.Earlier.{before_length, before_tail, before_total, before_same}
use Rattle.qn_safety.proofs.Logs.{Made}
use Rattle.qn_safety.proofs.Rests.{write_is}
use Rattle.qn_safety.proofs.Runs.{sound, ruled_before, span, same_mid}
use Rattle.qn_safety.proofs.Fence.{up_later, plain_no_mail}
use Rattle.qn_safety.proofs.Kept.{booting_op}
use Rattle.qn_safety.proofs.TripleSets.{TwoOf, meet, put_case, numbered_in}
use Rattle.qn_safety.proofs.TripleAnswers.{CountsAt, AnswerIs, FewCount, TwoCount, answer_is, written_answer, mail_in, deadly_told}
use Rattle.qn_safety.proofs.TripleSeats.{seat_of, Effect, Rests, Enters, Answers, BootsUp, GoesOff, LandsOn, FailsOn, LateOn}
use Rattle.qn_safety.proofs.TripleKept.{Kept}
use Rattle.qn_safety.proofs.TripleEvents.{IsAllowed, allowed_before, stage, effect_at, earlier_allowed, newest_allowed, moments_grow, run_step}
use Rattle.qn_safety.proofs.TripleLandings.{LineKind, Plain, Told, AddedBy, added_by, asked_le, Seen, between_of, between_here, PartCase, WasThere, JustLanded, Carried, carry, watch}

-- a mailbox with a deadly message keeps one at each write on its image but a clear of its own node
deadly_on : (r n j k : ℕ) (op : DiskOp) (mailboxes : ℕ → ℕ → Message) → (r ≡ j → n ≡ k → op ≡ disk.WriteClear → ⊥) → is_deadly (mailboxes j k) ≡ true
    → is_deadly (mailboxes_on r n op mailboxes j k) ≡ true
deadly_on r n j k disk.WriteClear mailboxes no_clear deadly =
    put_case (λ (f : ℕ → Message). is_deadly (f k) ≡ true) mailboxes r j (put (mailboxes r) n message.Empty)
    (λ own. put_case (λ m. is_deadly m ≡ true) (mailboxes r) n k message.Empty (λ there. absurd (no_clear own there refl)) (subst (λ q. is_deadly (mailboxes q k) ≡ true) (sym own) deadly)) deadly
deadly_on r n j k (disk.WriteReset other) mailboxes no_clear deadly =
    put_case (λ (f : ℕ → Message). is_deadly (f k) ≡ true) mailboxes other.0 j (put (mailboxes other.0) n message.Reset)
    (λ own. put_case (λ m. is_deadly m ≡ true) (mailboxes other.0) n k message.Reset (λ there. refl) (subst (λ q. is_deadly (mailboxes q k) ≡ true) (sym own) deadly)) deadly
deadly_on r n j k disk.ReadHeader mailboxes no_clear deadly = deadly
deadly_on r n j k (disk.ReadSlot rank) mailboxes no_clear deadly = deadly
deadly_on r n j k disk.CheckMail mailboxes no_clear deadly = deadly
deadly_on r n j k (disk.WriteClaim number) mailboxes no_clear deadly = deadly
deadly_on r n j k disk.ReadMail mailboxes no_clear deadly = deadly
deadly_on r n j k (disk.WriteClose number) mailboxes no_clear deadly = deadly

-- a node is up, and the mailbox of one of its good images is deadly: it stays so
module _ (s : Settings) (t : Timing) (j k top : ℕ) (w : TripleWorld) (made : Made s j (node s j w.moments).log) (kept : Kept s t j top (seat_of s j w)) (up : IsUp s j w.moments)
    (good : w.good j k ≡ true) (deadly : is_deadly (w.mailboxes j k) ≡ true) where
  no_clear_out : (r : ℕ) (op : DiskOp) → op_of s r w ≡ Some op → r ≡ j → op ≡ disk.WriteClear → ⊥
  no_clear_out r op out same clear =
      let own : op_of s j w ≡ Some disk.WriteClear = subst (λ q. op_of s q w ≡ Some disk.WriteClear) same (out ∙ ap Some clear) in
      never_both (is_booting (phase s (node s j w.moments).log)) (booting_op made disk.WriteClear own refl refl) up.booted

  -- a clear that is left over is on no good image
  no_clear_left : (r n number : ℕ) (op : DiskOp) → numbered (w.left r n) number ≡ Some op → r ≡ j → n ≡ k → op ≡ disk.WriteClear → ⊥
  no_clear_left r n number op there same here clear =
      let own : numbered (w.left j k) number ≡ Some disk.WriteClear = subst (λ q. numbered (w.left q k) number ≡ Some disk.WriteClear) same
      (subst (λ m. numbered (w.left r m) number ≡ Some disk.WriteClear) here (there ∙ ap Some clear)) in
      never_both (w.good j k) good ((kept.own k disk.WriteClear (numbered_in (w.left j k) number disk.WriteClear own)).bad up.booted)

  by_rule : (a b c : Bool) → (a || not b || not c) ≡ true → b ≡ true → c ≡ true → a ≡ true
  by_rule true b c may holds runs = refl
  by_rule false true true may holds runs = absurd (false≢true may)
  by_rule false false c may holds runs = absurd (false≢true holds)
  by_rule false true false may holds runs = absurd (false≢true runs)

  -- an operator sends the node no other message than a deadly one
  deadly_sent : (rank n : ℕ) (sent : Message) → may_operate s rank sent (image_of n w) ≡ true → is_deadly (put_on w.mailboxes rank n sent j k) ≡ true
  deadly_sent rank n sent may =
      put_case (λ (f : ℕ → Message). is_deadly (f k) ≡ true) w.mailboxes rank j (put (w.mailboxes rank) n sent)
      (λ own. put_case (λ m. is_deadly m ≡ true) (w.mailboxes rank) n k sent
      (λ there. by_rule (is_deadly sent) (is_deadly (w.mailboxes rank n)) (is_on s rank (image_of n w)) may
      (subst (λ m. is_deadly (w.mailboxes rank m) ≡ true) (sym there) (at_rank own)) (ap (λ r. (node s r w.moments).on) own ∙ up.on)) (at_rank own)) deadly
    where
      at_rank : rank ≡ j → is_deadly (w.mailboxes rank k) ≡ true
      at_rank own = subst (λ q. is_deadly (w.mailboxes q k) ≡ true) (sym own) deadly

  mail_one : (e : Event) → is_deadly ((step_of_one s t e w).mailboxes j k) ≡ true
  mail_one (event.Pass dt clocks) = deadly
  mail_one (event.Boot rank base) = deadly
  mail_one (event.BootClean rank base) = deadly
  mail_one (event.Crash rank) = deadly
  mail_one (event.Land rank) = deadly
  mail_one (event.Fail rank) = deadly
  mail_one (event.Late rank number) = deadly
  mail_one (event.Done rank) = by_op (op_of s rank.0 w)
    where
      by_op : (o : Option DiskOp) → is_deadly ((option_map_or (λ op. done_triple rank.0 op w) o w).mailboxes j k) ≡ true
      by_op None = deadly
      by_op (Some op) = deadly
  mail_one (event.View rank view) = deadly
  mail_one (event.Deliver rank number) = deadly
  mail_one (event.Device rank agrees) = deadly
  mail_one (event.Tick rank) = deadly
  mail_one (event.Stopped rank) = deadly
  mail_one (event.Unstopped rank) = deadly
  mail_one (event.Leave rank) = deadly
  mail_one (event.Feed rank) = deadly
  mail_one (event.Operator rank sent) = deadly

  mail_step : (e : TripleEvent) → refusal_triple s t e w ≡ None → is_deadly ((step_triple s t e w).mailboxes j k) ≡ true
  unfolding refusal_triple step_triple
  mail_step (triple.One e) ok = mail_one e
  mail_step (triple.LandOn rank n) ok = by_op (op_of s rank.0 w) refl
    where
      by_op : (o : Option DiskOp) → op_of s rank.0 w ≡ o → is_deadly ((option_map_or (λ op. landed_on s t rank.0 n op w) o w).mailboxes j k) ≡ true
      by_op None e = deadly
      by_op (Some op) e = deadly_on rank.0 n j k op w.mailboxes (λ own there clear. no_clear_out rank.0 op e own clear) deadly
  mail_step (triple.FailOn rank n) ok = by_op (op_of s rank.0 w)
    where
      by_op : (o : Option DiskOp) → is_deadly ((option_map_or (λ op. failed_on rank.0 n op w) o w).mailboxes j k) ≡ true
      by_op None = deadly
      by_op (Some op) = deadly
  mail_step (triple.LateOn rank n number) ok = by_op (numbered (w.left rank.0 n) number) refl
    where
      by_op : (o : Option DiskOp) → numbered (w.left rank.0 n) number ≡ o → is_deadly ((option_map_or (λ op. lands_late_on rank.0 n number op w) o w).mailboxes j k) ≡ true
      by_op None e = deadly
      by_op (Some op) e = deadly_on rank.0 n j k op w.mailboxes (no_clear_left rank.0 n number op e) deadly
  mail_step (triple.OperatorOn rank n sent) ok = deadly_sent rank.0 n sent (allowed (may_operate s rank.0 sent (image_of n w)) 10 ok)

-- the good images of a node that is up stay
same_good : (op : DiskOp) (parts : ℕ → Part) (good : ℕ → Bool) (k : ℕ) → (op ≡ disk.WriteClear → ⊥) → good_after op parts good k ≡ good k
same_good disk.WriteClear parts good k never = absurd (never refl)
same_good disk.ReadHeader parts good k never = refl
same_good (disk.ReadSlot rank) parts good k never = refl
same_good disk.CheckMail parts good k never = refl
same_good (disk.WriteClaim number) parts good k never = refl
same_good disk.ReadMail parts good k never = refl
same_good (disk.WriteReset rank) parts good k never = refl
same_good (disk.WriteClose number) parts good k never = refl

good_kept : {s : Settings} {t : Timing} {j : ℕ} {w w' : TripleWorld} → Effect s t j w w' → Made s j (node s j w.moments).log → IsUp s j w.moments → (k : ℕ) → w'.good j k ≡ w.good j k
good_kept (Rests e) made up k = ap (λ x. x.good k) e
good_kept (Enters tick entry on plain e) made up k = ap (λ x. x.good k) e
good_kept {s = s} {j = j} {w = w} (Answers tick op on out e) made up k =
    ap (λ x. x.good k) e
    ∙ same_good op (w.parts j) (w.good j) k (λ same. never_both (is_booting (phase s (node s j w.moments).log)) (booting_op made disk.WriteClear (out ∙ ap Some same) refl refl) up.booted)
good_kept {s = s} {j = j} {w = w} (BootsUp tick clean off e) made up k = never_both (node s j w.moments).on up.on off
good_kept (GoesOff on e) made up k = ap (λ x. x.good k) e
good_kept (LandsOn n op on out pending all e) made up k = ap (λ x. x.good k) e
good_kept (FailsOn n op on out e) made up k = ap (λ x. x.good k) e
good_kept (LateOn n number op there e) made up k = ap (λ x. x.good k) e

-- over an event at whose beginning a node is up: a deadly mailbox of a good image stays deadly
module _ {s : Settings} {t : Timing} {e : TripleEvent} {earlier : List TripleEvent} (j : ℕ) (allowed : IsAllowed s t (e ∷ earlier)) (up : IsUp s j (run_triple s t earlier).moments) where
  good_before : (k : ℕ) → (run_triple s t (e ∷ earlier)).good j k ≡ true → (run_triple s t earlier).good j k ≡ true
  good_before k good = sym (good_kept (effect_at j allowed) ((sound ((stage (earlier_allowed allowed)).ruled) j).made) up k) ∙ good

  deadly_after : (k : ℕ) → (run_triple s t (e ∷ earlier)).good j k ≡ true → is_deadly ((run_triple s t earlier).mailboxes j k) ≡ true → is_deadly ((run_triple s t (e ∷ earlier)).mailboxes j k) ≡ true
  deadly_after k good deadly =
      let stood = stage (earlier_allowed allowed) in
      let height = stood.height j in
      subst (λ w. is_deadly (w.mailboxes j k) ≡ true) (sym (run_step s t e earlier))
      (mail_step s t j k height.top (run_triple s t earlier) (sound stood.ruled j).made (height.held.kept up.on) up (good_before k good) deadly e (newest_allowed allowed))

-- node j after a reset was written on two images: their mailboxes are deadly where they are good images, and what it read
-- there later is deadly
record BadMail (s : Settings) (j : ℕ) (There : ℕ → Type 0) (p : List Moment) (w : TripleWorld) : Type 0 where
  deadly : (k : ℕ) → There k → w.good j k ≡ true → is_deadly (w.mailboxes j k) ≡ true
  took : (k : ℕ) (found : Message) → There k → w.good j k ≡ true → w.parts j k ≡ Landed (what.MailRead (mail.Read found)) → length (node s j p).log < ask_place (node s j w.moments).log
      → is_deadly found ≡ true

taken_mail : (s : Settings) (t : Timing) (j : ℕ) (op : DiskOp) (w : World) (found : Message) → what.MailRead (mail.Read found) ≡ taken s t j op w → found ≡ w.mailboxes j
unfolding taken
taken_mail s t j disk.ReadMail w found e = cc
taken_mail s t j disk.ReadHeader w found e = absurd (cc)
taken_mail s t j (disk.ReadSlot other) w found e = absurd (cc)
taken_mail s t j disk.CheckMail w found e = absurd (cc)
taken_mail s t j (disk.WriteClaim number) w found e = absurd (cc)
taken_mail s t j disk.WriteClear w found e = absurd (cc)
taken_mail s t j (disk.WriteReset other) w found e = absurd (cc)
taken_mail s t j (disk.WriteClose number) w found e = absurd (cc)

module _ {s : Settings} {t : Timing} (j : ℕ) (There : ℕ → Type 0) (p : List Moment) where
  bad_mail_step : {e : TripleEvent} {earlier : List TripleEvent} → IsAllowed s t (e ∷ earlier) → IsUp s j (run_triple s t earlier).moments → (node s j (run_triple s t (e ∷ earlier)).moments).on ≡ true
      → BadMail s j There p (run_triple s t earlier) → BadMail s j There p (run_triple s t (e ∷ earlier))
  bad_mail_step {e = e} {earlier = earlier} allowed up on was = record {
    deadly = λ k there good. deadly_after j allowed up k good (was.deadly k there (good_before j allowed up k good));
    took = λ k found there good landed late. by_carry k found there good landed late (carry j allowed on (effect_at j allowed));
  }
    where
      by_carry : (k : ℕ) (found : Message) → There k → (run_triple s t (e ∷ earlier)).good j k ≡ true → (run_triple s t (e ∷ earlier)).parts j k ≡ Landed (what.MailRead (mail.Read found))
          → length (node s j p).log < ask_place (node s j (run_triple s t (e ∷ earlier)).moments).log
          → Carried s t j (run_triple s t earlier) (run_triple s t (e ∷ earlier)) ⊎ ((k : ℕ) (value : What) → (run_triple s t (e ∷ earlier)).parts j k ≡ Landed value → ⊥) → is_deadly found ≡ true
      by_carry k found there good landed late (inr new) = absurd (new k _ landed)
      by_carry k found there good landed late (inl carried) = by_part (carried.parts k _ landed)
        where
          by_part : PartCase s t j (run_triple s t earlier) (run_triple s t (e ∷ earlier)) k (what.MailRead (mail.Read found)) → is_deadly found ≡ true
          by_part (WasThere before) = was.took k found there (good_before j allowed up k good) before (let q = carried.place in omega arith)
          by_part (JustLanded op out all is) =
              ap is_deadly (taken_mail s t j op (image_of k (run_triple s t earlier)) found is) ∙ was.deadly k there (good_before j allowed up k good)

  -- from the answer of the reset on, while the incarnation runs
  bad_mail_on : {old new : List TripleEvent} → Before old new → IsAllowed s t new → p ≡ (run_triple s t old).moments → IsUp s j p
      → ((k : ℕ) → There k → (run_triple s t old).good j k ≡ true → is_deadly ((run_triple s t old).mailboxes j k) ≡ true)
      → IsSameBoot s j p (run_triple s t new).moments → (node s j (run_triple s t new).moments).on ≡ true → BadMail s j There p (run_triple s t new)
  bad_mail_on {old = old} Itself allowed is up deadly same on = record {
    deadly = deadly;
    took = λ k found there good landed late.
        absurd (let place : ask_place (node s j (run_triple s t old).moments).log ≡ ask_place (node s j p).log = ap (λ ms. ask_place (node s j ms).log) (sym is) in
        let inside = ask_place-within (node s j p).log in
        omega arith);
  }
  bad_mail_on {old = old} (Later newest {new = new} more) allowed is up deadly same on =
      let to_new : Before p (run_triple s t new).moments = subst (λ ms. Before ms (run_triple s t new).moments) (sym is) (moments_grow s t more) in
      let newer : Before (run_triple s t new).moments (run_triple s t (newest ∷ new)).moments = moments_grow s t (Later newest Itself) in
      let mids = same_mid s j to_new newer same in
      let ruled = (stage allowed).ruled in
      let on_new = (span j ruled newer mids.1 on).on in
      let up_new = up_later j (ruled_before newer ruled) to_new up mids.0 on_new in
      bad_mail_step allowed up_new on (bad_mail_on more (earlier_allowed allowed) is up deadly mids.0 on_new)

together_no_mail : (op : DiskOp) (first : What) (values : List What) → (op ≡ disk.ReadMail → feeds_on (message_of (together disk.ReadMail first values)) ≡ false) → feeds_on (message_of (together op first values)) ≡ false
together_no_mail disk.ReadMail first values bad = bad refl
together_no_mail disk.ReadHeader first values bad = refl
together_no_mail (disk.ReadSlot other) first values bad = refl
together_no_mail disk.CheckMail first values bad = refl
together_no_mail (disk.WriteClaim number) first values bad = refl
together_no_mail disk.WriteClear first values bad = refl
together_no_mail (disk.WriteReset other) first values bad = refl
together_no_mail (disk.WriteClose number) first values bad = refl

-- an answer that was asked for after the reset was written feeds nothing
answer_no_feed : {s : Settings} {t : Timing} {j top : ℕ} {There : ℕ → Type 0} {p : List Moment} (w : TripleWorld) (op : DiskOp) → Kept s t j top (seat_of s j w) → op_of s j w ≡ Some op → TwoOf There
    → BadMail s j There p w → length (node s j p).log < ask_place (node s j w.moments).log → feeds_on (message_of (answer_of op (w.parts j) (w.good j))) ≡ false
answer_no_feed {s = s} {t = t} {j = j} {There = There} w op kept out two bad late = by_answer (answer_is op (w.parts j) (w.good j))
  where
    deadly_value : op ≡ disk.ReadMail → (k : ℕ) × There k × CountsAt op (w.parts j) (w.good j) k → is_deadly (message_among (messages_among (counting op (w.parts j) (w.good j)))) ≡ true
    deadly_value is (k, there, counts) =
        let took = kept.took k counts.value counts.landed in
        let same : took.op ≡ disk.ReadMail = same_Some _ _ (sym took.is ∙ out) ∙ is in
        let read : counts.value ≡ what.MailRead (mail.Read (took.at.mailboxes j)) = took.same ∙ ap (λ o. taken s t j o took.at) same ∙ read_mail took.at in
        let deadly = bad.took k (took.at.mailboxes j) there (counts.fine (ap needs_good is)) (counts.landed ∙ ap Landed read) late in
        deadly_told (took.at.mailboxes j) _ (mail_in (took.at.mailboxes j) (counting op (w.parts j) (w.good j)) (subst (λ v. IsIn v (counting op (w.parts j) (w.good j))) read counts.told)) deadly
      where
        read_mail : (v : World) → taken s t j disk.ReadMail v ≡ what.MailRead (mail.Read (v.mailboxes j))
        read_mail v = unfold taken in refl

    by_answer : AnswerIs op (w.parts j) (w.good j) (answer_of op (w.parts j) (w.good j)) → feeds_on (message_of (answer_of op (w.parts j) (w.good j))) ≡ false
    by_answer (FewCount e) = ap (λ v. feeds_on (message_of v)) e ∙ failed_no_mail op
    by_answer (TwoCount first there counts e) =
        ap (λ v. feeds_on (message_of v)) e ∙ together_no_mail op first (counting op (w.parts j) (w.good j)) (λ is. ap not (deadly_value is (meet two counts)))

module _ {s : Settings} {t : Timing} {events : List TripleEvent} (allowed : IsAllowed s t events) (j : ℕ) (There : ℕ → Type 0) (two : TwoOf There) (since : List TripleEvent) (back : Before since events)
    (deadly : (k : ℕ) → There k → (run_triple s t since).good j k ≡ true → is_deadly ((run_triple s t since).mailboxes j k) ≡ true) where
  -- the incarnation of j that is up when the reset is answered gets bad mail
  bad_mail_from : GetsBadMail s j (run_triple s t since).moments (run_triple s t events).moments
  bad_mail_from up line past before added p_before same after = by_kind it.kind
    where
      p : List Moment
      p = (run_triple s t since).moments

      it : AddedBy s t j line before events
      it = added_by j line past before allowed added

      late_asked : length (node s j (run_triple s t since).moments).log < ask_place (node s j (run_triple s t it.earlier).moments).log
      late_asked =
          let a = asked_le j line past before allowed added in
          let q : ask_place (node s j (run_triple s t it.earlier).moments).log ≡ ask_place (node s j before).log = ap (λ ms. ask_place (node s j ms).log) it.same in
          omega arith

      by_order : (op : DiskOp) → op_of s j (run_triple s t it.earlier) ≡ Some op → Before since it.earlier ⊎ Before it.earlier since
          → feeds_on (message_of (answer_of op ((run_triple s t it.earlier).parts j) ((run_triple s t it.earlier).good j))) ≡ false
      by_order op out (inl first) =
          let allowed_then = allowed_before (before_tail it.back) allowed in
          let bad = bad_mail_on j There (run_triple s t since).moments first allowed_then refl up deadly (same ∙ ap (λ ms. (node s j ms).boots) (sym it.same)) it.on in
          answer_no_feed (run_triple s t it.earlier) op (((stage allowed_then).height j).held.kept it.on) out two bad late_asked
      by_order op out (inr second) =
          absurd (let a = asked_le j line past before allowed added in
          let to_p : Before before (run_triple s t since).moments = subst (λ ms. Before ms (run_triple s t since).moments) it.same (moments_grow s t second) in
          let equal : before ≡ (run_triple s t since).moments = before_same to_p (before_length p_before) in
          let place : ask_place (node s j before).log ≡ ask_place (node s j (run_triple s t since).moments).log = ap (λ ms. ask_place (node s j ms).log) equal in
          let inside = ask_place-within (node s j (run_triple s t since).moments).log in
          omega arith)

      by_kind : LineKind s j line (run_triple s t it.earlier) → feeds_on (message_of line.what) ≡ false
      by_kind (Plain plain) = plain_no_mail line.what plain
      by_kind (Told op out told) = ap (λ v. feeds_on (message_of v)) told ∙ by_order op out (before_total back (before_tail it.back))

-- a node is up, or it is not
up_or_not : (s : Settings) (j : ℕ) (p : List Moment) → (IsUp s j p → ⊥) ⊎ IsUp s j p
up_or_not s j p = by_tests (node s j p).on (is_booting (phase s (node s j p).log)) refl refl
  where
    by_tests : (a b : Bool) → (node s j p).on ≡ a → is_booting (phase s (node s j p).log) ≡ b → (IsUp s j p → ⊥) ⊎ IsUp s j p
    by_tests false b off e = inl (λ up. never_both (node s j p).on up.on off)
    by_tests true true on booting = inl (λ up. never_both (is_booting (phase s (node s j p).log)) booting up.booted)
    by_tests true false on booted = inr (record { on = on; booted = booted })

-- a reset of node j
record ResetsNode (j : ℕ) (out : Option DiskOp) : Type 0 where
  rank : Rank
  is : out ≡ Some (disk.WriteReset rank)
  own : rank.0 ≡ j

-- while node j is up and node i resets it: where the reset landed, and the image is a good one of j, its mailbox is deadly
abbrev ResetThere : ℕ → ℕ → TripleWorld → Type 0
ResetThere i j w = (k : ℕ) (value : What) → w.parts i k ≡ Landed value → w.good j k ≡ true → is_deadly (w.mailboxes j k) ≡ true

module _ {s : Settings} {t : Timing} (i j : ℕ) where
  reset_starts : (events : List TripleEvent) → IsAllowed s t events → IsUp s j (run_triple s t events).moments → ((k : ℕ) (value : What) → (run_triple s t events).parts i k ≡ Landed value → ⊥)
      → ResetThere i j (run_triple s t events)
  reset_starts events allowed up new k value landed good = absurd (new k value landed)

  reset_goes_on : (e : TripleEvent) (earlier : List TripleEvent) → IsAllowed s t (e ∷ earlier) → ResetsNode j (op_of s i (run_triple s t earlier)) → IsUp s j (run_triple s t earlier).moments
      → IsUp s j (run_triple s t (e ∷ earlier)).moments → Carried s t i (run_triple s t earlier) (run_triple s t (e ∷ earlier)) → ResetThere i j (run_triple s t earlier) → ResetThere i j (run_triple s t (e ∷ earlier))
  reset_goes_on e earlier allowed about up up' carried was k value landed good = by_part (carried.parts k value landed)
    where
      by_part : PartCase s t i (run_triple s t earlier) (run_triple s t (e ∷ earlier)) k value → is_deadly ((run_triple s t (e ∷ earlier)).mailboxes j k) ≡ true
      by_part (WasThere before) = deadly_after j allowed up k good (was k value before (good_before j allowed up k good))
      by_part (JustLanded op out all is) =
          ap is_deadly (ap (λ w. w.mailboxes j k) all ∙ ap (λ o. mailboxes_on i k o (run_triple s t earlier).mailboxes j k) (same_Some _ _ (sym out ∙ about.is))
          ∙ ap (λ r. put_on (run_triple s t earlier).mailboxes r k message.Reset j k) about.own
          ∙ ap (λ (f : ℕ → Message). f k) (put_same (run_triple s t earlier).mailboxes j (put ((run_triple s t earlier).mailboxes j) k message.Reset))
          ∙ put_same ((run_triple s t earlier).mailboxes j) k message.Reset)

-- where a reset is written, the incarnation that was up at some moment of the write gets bad mail
pub written_means_bad_mail : {s : Settings} {t : Timing} {events : List TripleEvent} → IsAllowed s t events → WrittenMeansBadMail s (run_triple s t events).moments
written_means_bad_mail {s = s} {t = t} {events = events} allowed i j line past before added writes = by_kind it.kind
  where
    it : AddedBy s t i line before events
    it = added_by i line past before allowed added

    allowed_then : IsAllowed s t it.earlier
    allowed_then = allowed_before (before_tail it.back) allowed

    by_kind : LineKind s i line (run_triple s t it.earlier) → (between : List Moment) × IsBetween s i line before between × GetsBadMail s j between (run_triple s t events).moments
    by_kind (Plain plain) = never_both (is_answer line.what) (ap is_answer (write_is j line.what writes).1) plain
    by_kind (Told op out told) =
        let answer = written_answer j op ((run_triple s t it.earlier).parts i) ((run_triple s t it.earlier).good i) (subst (λ v. writes_reset j v ≡ true) told writes) in
        by_watch (watch i (ResetsNode j) (λ p. IsUp s j p → ⊥) (IsUp s j) (ResetThere i j) (up_or_not s j) (reset_starts i j) (reset_goes_on i j) allowed_then it.on
        (record { rank = (answer.0).other; is = out ∙ ap Some (answer.0).is; own = (answer.0).own })) answer.1
      where
        by_watch : Seen s i (λ p. IsUp s j p → ⊥) (run_triple s t it.earlier).moments ⊎ ResetThere i j (run_triple s t it.earlier)
            → TwoOf (λ k. CountsAt op ((run_triple s t it.earlier).parts i) ((run_triple s t it.earlier).good i) k)
            → (between : List Moment) × IsBetween s i line before between × GetsBadMail s j between (run_triple s t events).moments
        by_watch (inl seen) two =
            let at : Seen s i (λ p. IsUp s j p → ⊥) before = subst (λ ms. Seen s i (λ p. IsUp s j p → ⊥) ms) it.same seen in
            (at.at, between_of i line past before allowed added at, λ up. absurd (at.gone up))
        by_watch (inr there) two = (
          (run_triple s t it.earlier).moments,
          subst (λ ms. IsBetween s i line before ms) (sym it.same) (between_here i line past before allowed added (subst (λ ms. (node s i ms).on ≡ true) it.same it.on)),
          bad_mail_from allowed j (λ k. CountsAt op ((run_triple s t it.earlier).parts i) ((run_triple s t it.earlier).good i) k) two it.earlier (before_tail it.back)
              (λ k counts good. there k (CountsAt.value counts) (CountsAt.landed counts) good),
        )
