-- What three images tell together of an operation, whatever each of them answers, is what the world of three images answers.
use Rattle.std.proofs.Common.{◌≡◌, ◌<◌, ◌+◌, ◌*◌, ℕ, zero, suc, Bool, true, false, not, ◌&&◌, ◌||◌, ◌==◌, List, [], ◌∷◌, Option, None, Some, if◌then◌else◌, refl, sym, ap, subst, ◌∙◌, arith, inl, inr, map}
use Rattle.std.specs.Prelude.{length, nat_le, IsTrue}
use Rattle.std.specs.List.{list_any}
use Rattle.std.proofs.lemmas.Bool.{eq-eqb, eqb-false, leb-true, ne_eqb}
use Rattle.qn_base.specs.declared.calls.Call.{Call}
use Rattle.qn_base.specs.declared.calls.Call.TheVariants as call
use Rattle.qn_base.specs.declared.ids.Rank.{Rank}
use Rattle.qn_base.specs.Calls.{blank, is_failed}
use Rattle.qn_base.specs.lemmas.Bools.{first_of_both, second_of_both}
use Rattle.qn_base.specs.Plans as plans
use Rattle.qn_base.specs.Plans.{Follows, Plan, ◌>>=◌}
use Rattle.qn_io.specs.Answered.{bytes_read}
use Rattle.qn_model.specs.declared.configuration.Settings.{Settings}
use Rattle.qn_model.specs.declared.disk.Message.{Message}
use Rattle.qn_model.specs.declared.disk.Slot.{Slot}
use Rattle.qn_model.specs.declared.times.Timing.{Timing}
use Rattle.qn_model.specs.declared.entries.What.{What}
use Rattle.qn_model.specs.declared.entries.What.TheVariants as what
use Rattle.qn_model.specs.declared.outputs.DiskOp.{DiskOp}
use Rattle.qn_model.specs.declared.outputs.DiskOp.TheVariants as disk
use Rattle.qn_model.specs.declared.seen.HeaderSeen.TheVariants as header
use Rattle.qn_model.specs.declared.seen.MailSeen.TheVariants as mail
use Rattle.qn_model.specs.declared.seen.SlotSeen.TheVariants as slot
use Rattle.qn_model.specs.Sectors.{mail_place, slot_place}
use Rattle.qn_model.specs.World.{is_write}
use Rattle.qn_parts.specs.Parts.{is_good_on, part_on}
use Rattle.qn_safety.specs.declared.part.Part.{Part}
use Rattle.qn_safety.specs.declared.part.Part.TheVariants.{Pending, Landed, Failed}
use Rattle.qn_safety.specs.NodeLogs.{IsOperation}
use Rattle.qn_safety.specs.TripleRules.{is_image}
use Rattle.qn_safety.specs.TripleWorld.{answer_of, good_after, has_failed, has_landed}
use Rattle.qn_live.specs.Performing.{disk_answer, disk_call, done}
use Rattle.qn_live.specs.PlacesRead.{mail_is_read, slot_is_read}
use Rattle.qn_live.specs.TripleDisk.{Told, call_plan, differ, good_after_write, image_plan, images_plan, is_asked, is_failed_read, is_majority, is_strange, part_of, part_plan, parts_plan, read_entry, read_of, read_plan, reading, same_times, sector_of, some_differ, strange, write_plan}
use Rattle.qn_live.specs.TripleLaws.{IsTold, parts_told, taken_from}
use Rattle.qn_live.specs.TripleRuns.{all_good}
use Rattle.qn_joined.specs.TripleWorldOf.{CallsAnswer, IsAnswered, IsEnough, IsHeld, IsHonest, IsLeft, none_told, on_image}

-- ## What is cited

abbrev pub WritesTell : Settings → Type 0
WritesTell s =
    (me number : ℕ) (op : DiskOp) (good : List Bool) (calls : List Call) (told : Told)
    → IsTrue (is_write op)
    → Follows (call_plan s me good (disk_call s me number op)) calls told
    → disk_answer s op told.0 ≡ answer_of op (part_on (parts_told s op calls)) (is_good_on good)

abbrev pub CheckTells : Settings → Type 0
CheckTells s =
    (me number : ℕ) (calls : List Call) (told : Told)
    → Follows (call_plan s me all_good (disk_call s me number disk.CheckMail)) calls told
    → disk_answer s disk.CheckMail told.0 ≡ read_entry disk.CheckMail (parts_told s disk.CheckMail calls) all_good

abbrev pub ReadTells : Settings → DiskOp → Type 0
ReadTells s op =
    (sector : ℕ) (one two three : Part) (good : List Bool)
    → IsTold s op one → IsTold s op two → IsTold s op three
    → taken_from s op sector (read_entry op (one ∷ two ∷ three ∷ []) good) ≡ read_entry op (one ∷ two ∷ three ∷ []) good

-- what the laws of a run on three images say of one operation
pub record Tells (s : Settings) : Type 0 where
  pub writes : WritesTell s
  pub check : CheckTells s
  pub header : ReadTells s disk.ReadHeader
  pub slot : (rank : Rank) → ReadTells s (disk.ReadSlot rank)
  pub mailbox : ReadTells s disk.ReadMail

-- ## The answer of a read

-- what an image told: it failed, or it told what its sector holds, or it was not asked
data Says (A : Type 0) : Type 0 where
  Fails : Says A
  Holds : A → Says A
  Silent : Says A

abbrev part_from : {A : Type 0} → (A → What) → Says A → Part
part_from value Fails = Failed
part_from value (Holds found) = Landed (value found)
part_from value Silent = Pending

-- an image that was asked is not silent
abbrev Speaks : {A : Type 0} → Bool → Says A → Type 0
Speaks asked Fails = Unit {0}
Speaks asked (Holds found) = Unit {0}
Speaks asked Silent = asked ≡ false

any_first : (a b c : Bool) → a ≡ true → (a || (b || (c || false))) ≡ true
any_first a b c e = ap (λ x. x || (b || (c || false))) e

any_second : (a b c : Bool) → b ≡ true → (a || (b || (c || false))) ≡ true
any_second true b c e = refl
any_second false b c e = ap (λ x. x || (c || false)) e

any_third : (a b c : Bool) → c ≡ true → (a || (b || (c || false))) ≡ true
any_third true b c e = refl
any_third false true c e = refl
any_third false false c e = ap (λ x. x || false) e

never_when : (a b : Bool) → b ≡ true → (a && not b) ≡ false
never_when true b e = ap not e
never_when false b e = refl

-- the parts agree, and the answer fails only where a call did: it is the answer of the world
entry_same : (op : DiskOp) (parts : List Part) (good : List Bool) → some_differ parts ≡ false
    → (is_failed_read (answer_of op (part_on parts) (is_good_on good)) && not (list_any has_failed parts)) ≡ false
    → read_entry op parts good ≡ answer_of op (part_on parts) (is_good_on good)
entry_same op parts good agree fine =
    let answer = answer_of op (part_on parts) (is_good_on good) in
    ap (λ b. if b then what.Header header.NotImage else (if is_failed_read answer && not (list_any has_failed parts) then strange op else answer)) agree
    ∙ ap (λ b. if b then strange op else answer) fine

agree_by : (a b c : Bool) → a ≡ false → b ≡ false → c ≡ false → (a || b || c) ≡ false
agree_by false false false x y z = refl
agree_by true b c x y z = absurd cc
agree_by false true c x y z = absurd cc
agree_by false false true x y z = absurd cc

-- a kind of read: its values do not differ, and enough of them tell something
record Kind (op : DiskOp) (A : Type 0) (value : A → What) (x y z : Bool) : Type 0 where
  agree : (a b : Says A) → differ (part_from value a) (part_from value b) ≡ false
  enough : (a b c : Says A) → Speaks (is_asked op x) a → Speaks (is_asked op y) b → Speaks (is_asked op z) c
      → has_failed (part_from value a) ≡ false → has_failed (part_from value b) ≡ false → has_failed (part_from value c) ≡ false
      → is_failed_read (answer_of op (part_on (part_from value a ∷ part_from value b ∷ part_from value c ∷ [])) (is_good_on (x ∷ y ∷ z ∷ []))) ≡ false

kind_same : {op : DiskOp} {A : Type 0} {value : A → What} {x y z : Bool} → Kind op A value x y z → (a b c : Says A)
    → Speaks (is_asked op x) a → Speaks (is_asked op y) b → Speaks (is_asked op z) c
    → read_entry op (part_from value a ∷ part_from value b ∷ part_from value c ∷ []) (x ∷ y ∷ z ∷ [])
    ≡ answer_of op (part_on (part_from value a ∷ part_from value b ∷ part_from value c ∷ [])) (is_good_on (x ∷ y ∷ z ∷ []))
kind_same {op} {A} {value} {x} {y} {z} kind a b c one two three =
    entry_same op parts (x ∷ y ∷ z ∷ [])
    (agree_by (differ (part_from value a) (part_from value b)) (differ (part_from value a) (part_from value c)) (differ (part_from value b) (part_from value c)) (kind.agree a b) (kind.agree a c) (kind.agree b c))
    (by_failed (has_failed (part_from value a)) refl (has_failed (part_from value b)) refl (has_failed (part_from value c)) refl)
  where
    parts : List Part
    parts = part_from value a ∷ part_from value b ∷ part_from value c ∷ []

    fails : Bool
    fails = is_failed_read (answer_of op (part_on parts) (is_good_on (x ∷ y ∷ z ∷ [])))

    by_failed : (p : Bool) → has_failed (part_from value a) ≡ p → (q : Bool) → has_failed (part_from value b) ≡ q → (r : Bool) → has_failed (part_from value c) ≡ r
        → (fails && not (list_any has_failed parts)) ≡ false
    by_failed true e q f r g = never_when fails (list_any has_failed parts) (any_first (has_failed (part_from value a)) (has_failed (part_from value b)) (has_failed (part_from value c)) e)
    by_failed false e true f r g = never_when fails (list_any has_failed parts) (any_second (has_failed (part_from value a)) (has_failed (part_from value b)) (has_failed (part_from value c)) f)
    by_failed false e false f true g = never_when fails (list_any has_failed parts) (any_third (has_failed (part_from value a)) (has_failed (part_from value b)) (has_failed (part_from value c)) g)
    by_failed false e false f false g = ap (λ k. k && not (list_any has_failed parts)) (kind.enough a b c one two three e f g)

times_same : (n : ℕ) (t : Timing) → not (n == n && same_times t t) ≡ false
times_same n t =
    ap (λ b. not (b && same_times t t)) (eq-eqb n n refl)
    ∙ ap (λ b. not (b && t.msgwait == t.msgwait && t.loop_ms == t.loop_ms && t.read_limit == t.read_limit && t.feed_delay == t.feed_delay)) (eq-eqb t.watchdog t.watchdog refl)
    ∙ ap (λ b. not (b && t.loop_ms == t.loop_ms && t.read_limit == t.read_limit && t.feed_delay == t.feed_delay)) (eq-eqb t.msgwait t.msgwait refl)
    ∙ ap (λ b. not (b && t.read_limit == t.read_limit && t.feed_delay == t.feed_delay)) (eq-eqb t.loop_ms t.loop_ms refl)
    ∙ ap (λ b. not (b && t.feed_delay == t.feed_delay)) (eq-eqb t.read_limit t.read_limit refl)
    ∙ ap not (eq-eqb t.feed_delay t.feed_delay refl)

never_silent : {P : Type 0} (g : Bool) → (g || true) ≡ false → P
never_silent true e = absurd cc
never_silent false e = absurd cc

header_kind : (s : Settings) (t : Timing) (x y z : Bool) → Kind disk.ReadHeader (Unit {0}) (λ u. what.Header (header.Read (length s.nodes) t)) x y z
unfolding answer_of
header_kind s t x y z = record { agree = agree; enough = enough x y z }
  where
    value : Unit {0} → What
    value u = what.Header (header.Read (length s.nodes) t)

    agree : (a b : Says (Unit {0})) → differ (part_from value a) (part_from value b) ≡ false
    agree (Holds u) (Holds v) = times_same (length s.nodes) t
    agree (Holds u) Fails = refl
    agree (Holds u) Silent = refl
    agree Fails b = refl
    agree Silent b = refl

    enough : (x y z : Bool) (a b c : Says (Unit {0})) → Speaks (x || true) a → Speaks (y || true) b → Speaks (z || true) c
        → has_failed (part_from value a) ≡ false → has_failed (part_from value b) ≡ false → has_failed (part_from value c) ≡ false
        → is_failed_read (answer_of disk.ReadHeader (part_on (part_from value a ∷ part_from value b ∷ part_from value c ∷ [])) (is_good_on (x ∷ y ∷ z ∷ []))) ≡ false
    enough x y z Fails b c p q r e f g = absurd cc
    enough x y z Silent b c p q r e f g = never_silent x p
    enough x y z (Holds u) Fails c p q r e f g = absurd cc
    enough x y z (Holds u) Silent c p q r e f g = never_silent y q
    enough x y z (Holds u) (Holds v) Fails p q r e f g = absurd cc
    enough x y z (Holds u) (Holds v) Silent p q r e f g = never_silent z r
    enough true true true (Holds u) (Holds v) (Holds w) p q r e f g = refl
    enough true true false (Holds u) (Holds v) (Holds w) p q r e f g = refl
    enough true false true (Holds u) (Holds v) (Holds w) p q r e f g = refl
    enough true false false (Holds u) (Holds v) (Holds w) p q r e f g = refl
    enough false true true (Holds u) (Holds v) (Holds w) p q r e f g = refl
    enough false true false (Holds u) (Holds v) (Holds w) p q r e f g = refl
    enough false false true (Holds u) (Holds v) (Holds w) p q r e f g = refl
    enough false false false (Holds u) (Holds v) (Holds w) p q r e f g = refl

slot_kind : (other : Rank) (x y z : Bool) → Kind (disk.ReadSlot other) Slot (λ own. what.SlotRead other (slot.Read own)) x y z
unfolding answer_of
slot_kind other x y z = record { agree = agree; enough = enough x y z }
  where
    value : Slot → What
    value own = what.SlotRead other (slot.Read own)

    agree : (a b : Says Slot) → differ (part_from value a) (part_from value b) ≡ false
    agree (Holds u) b = refl
    agree Fails b = refl
    agree Silent b = refl

    enough : (x y z : Bool) (a b c : Says Slot) → Speaks (x || true) a → Speaks (y || true) b → Speaks (z || true) c
        → has_failed (part_from value a) ≡ false → has_failed (part_from value b) ≡ false → has_failed (part_from value c) ≡ false
        → is_failed_read (answer_of (disk.ReadSlot other) (part_on (part_from value a ∷ part_from value b ∷ part_from value c ∷ [])) (is_good_on (x ∷ y ∷ z ∷ []))) ≡ false
    enough x y z Fails b c p q r e f g = absurd cc
    enough x y z Silent b c p q r e f g = never_silent x p
    enough x y z (Holds u) Fails c p q r e f g = absurd cc
    enough x y z (Holds u) Silent c p q r e f g = never_silent y q
    enough x y z (Holds u) (Holds v) Fails p q r e f g = absurd cc
    enough x y z (Holds u) (Holds v) Silent p q r e f g = never_silent z r
    enough true true true (Holds u) (Holds v) (Holds w) p q r e f g = refl
    enough true true false (Holds u) (Holds v) (Holds w) p q r e f g = refl
    enough true false true (Holds u) (Holds v) (Holds w) p q r e f g = refl
    enough true false false (Holds u) (Holds v) (Holds w) p q r e f g = refl
    enough false true true (Holds u) (Holds v) (Holds w) p q r e f g = refl
    enough false true false (Holds u) (Holds v) (Holds w) p q r e f g = refl
    enough false false true (Holds u) (Holds v) (Holds w) p q r e f g = refl
    enough false false false (Holds u) (Holds v) (Holds w) p q r e f g = refl

check_kind : Kind disk.CheckMail Message (λ found. what.MailChecked (mail.Read found)) true true true
unfolding answer_of
check_kind = record { agree = agree; enough = enough }
  where
    value : Message → What
    value found = what.MailChecked (mail.Read found)

    agree : (a b : Says Message) → differ (part_from value a) (part_from value b) ≡ false
    agree (Holds u) b = refl
    agree Fails b = refl
    agree Silent b = refl

    enough : (a b c : Says Message) → Speaks true a → Speaks true b → Speaks true c
        → has_failed (part_from value a) ≡ false → has_failed (part_from value b) ≡ false → has_failed (part_from value c) ≡ false
        → is_failed_read (answer_of disk.CheckMail (part_on (part_from value a ∷ part_from value b ∷ part_from value c ∷ [])) (is_good_on (true ∷ true ∷ true ∷ []))) ≡ false
    enough Fails b c p q r e f g = absurd cc
    enough Silent b c p q r e f g = absurd cc
    enough (Holds u) Fails c p q r e f g = absurd cc
    enough (Holds u) Silent c p q r e f g = absurd cc
    enough (Holds u) (Holds v) Fails p q r e f g = absurd cc
    enough (Holds u) (Holds v) Silent p q r e f g = absurd cc
    enough (Holds u) (Holds v) (Holds w) p q r e f g = refl

mail_kind : (x y z : Bool) → (x && y || x && z || y && z) ≡ true → Kind disk.ReadMail Message (λ found. what.MailRead (mail.Read found)) x y z
unfolding answer_of
mail_kind x y z two = record { agree = agree; enough = enough x y z two }
  where
    value : Message → What
    value found = what.MailRead (mail.Read found)

    agree : (a b : Says Message) → differ (part_from value a) (part_from value b) ≡ false
    agree (Holds u) b = refl
    agree Fails b = refl
    agree Silent b = refl

    enough : (x y z : Bool) → (x && y || x && z || y && z) ≡ true → (a b c : Says Message) → Speaks (x || false) a → Speaks (y || false) b → Speaks (z || false) c
        → has_failed (part_from value a) ≡ false → has_failed (part_from value b) ≡ false → has_failed (part_from value c) ≡ false
        → is_failed_read (answer_of disk.ReadMail (part_on (part_from value a ∷ part_from value b ∷ part_from value c ∷ [])) (is_good_on (x ∷ y ∷ z ∷ []))) ≡ false
    enough x y z two Fails b c p q r e f g = absurd cc
    enough x y z two a Fails c p q r e f g = absurd cc
    enough x y z two a b Fails p q r e f g = absurd cc
    enough true true true two (Holds u) (Holds v) (Holds w) p q r e f g = refl
    enough true true false two (Holds u) (Holds v) (Holds w) p q r e f g = refl
    enough true true false two (Holds u) (Holds v) Silent p q r e f g = refl
    enough true false true two (Holds u) (Holds v) (Holds w) p q r e f g = refl
    enough true false true two (Holds u) Silent (Holds w) p q r e f g = refl
    enough false true true two (Holds u) (Holds v) (Holds w) p q r e f g = refl
    enough false true true two Silent (Holds v) (Holds w) p q r e f g = refl
    enough true true true two Silent b c p q r e f g = absurd cc
    enough true true true two (Holds u) Silent c p q r e f g = absurd cc
    enough true true true two (Holds u) (Holds v) Silent p q r e f g = absurd cc
    enough true true false two Silent b c p q r e f g = absurd cc
    enough true true false two (Holds u) Silent c p q r e f g = absurd cc
    enough true false true two Silent b c p q r e f g = absurd cc
    enough true false true two (Holds u) b Silent p q r e f g = absurd cc
    enough false true true two a Silent c p q r e f g = absurd cc
    enough false true true two a (Holds v) Silent p q r e f g = absurd cc
    enough true false false two a b c p q r e f g = absurd cc
    enough false true false two a b c p q r e f g = absurd cc
    enough false false true two a b c p q r e f g = absurd cc
    enough false false false two a b c p q r e f g = absurd cc

-- ## The calls of a read

pub plain_held : (s : Settings) (t : Timing) (op : DiskOp) (value : What) → is_write op ≡ false → IsHeld s t op value → is_strange value ≡ false
plain_held s t disk.ReadHeader value is held = ap is_strange held
plain_held s t (disk.ReadSlot other) value is held = ap is_strange held.1
plain_held s t disk.CheckMail value is held = ap is_strange held.1
plain_held s t disk.ReadMail value is held = ap is_strange held.1
plain_held s t (disk.WriteClaim number) value is held = absurd cc
plain_held s t (disk.WriteClose number) value is held = absurd cc
plain_held s t disk.WriteClear value is held = absurd cc
plain_held s t (disk.WriteReset other) value is held = absurd cc

-- what an image told of a read
record Heard (s : Settings) (op : DiskOp) (A : Type 0) (value : A → What) (asked : Bool) (part : Part) : Type 0 where
  says : Says A
  is : part ≡ part_from value says
  speaks : Speaks asked says
  told : IsTold s op part

unasked : {s : Settings} {op : DiskOp} {A : Type 0} {value : A → What} (asked : Bool) → asked ≡ false → Heard s op A value asked Pending
unasked asked e = record { says = Silent; is = refl; speaks = e; told = tt }

module _ (s : Settings) (t : Timing) (op : DiskOp) (A : Type 0) (value : A → What) (reads : is_write op ≡ false)
    (of_held : (found : What) → IsHeld s t op found → (a : A) × (found ≡ value a)) where
  heard : (asked : Bool) (made : Call) → IsHonest s t op made → Heard s op A value asked (part_of s op made)
  heard asked made (inl fails) =
      let is = ap (λ b. if b then Failed else (if is_strange (done s op (bytes_read made)) then Pending else Landed (done s op (bytes_read made)))) fails in
      record { says = Fails; is = is; speaks = tt; told = subst (λ p. IsTold s op p) (sym is) tt }
  heard asked made (inr held) =
      let plain = plain_held s t op (done s op (bytes_read made)) reads held.1 in
      let is = ap (λ b. if b then Failed else (if is_strange (done s op (bytes_read made)) then Pending else Landed (done s op (bytes_read made)))) held.0
      ∙ ap (λ b. if b then Pending else Landed (done s op (bytes_read made))) plain in
      let found = of_held (done s op (bytes_read made)) held.1 in
      record { says = Holds found.0; is = is ∙ ap Landed found.1; speaks = tt; told = subst (λ p. IsTold s op p) (sym is) (bytes_read made, refl, plain) }

  module _ (rank number sector : ℕ) (asks : disk_call s rank number op ≡ call.Read sector [] true) (x y z : Bool) (kind : Kind op A value x y z)
      (tells : ReadTells s op) (stays : (parts : ℕ → Part) (good : ℕ → Bool) (image : ℕ) → good_after op parts good image ≡ good image) where
    abbrev good : List Bool
    good = x ∷ y ∷ z ∷ []

    abbrev told_of : List Part → Told
    told_of parts = (read_of sector (sector_of s (read_entry op parts good)), good)

    abbrev finish : List Part → Plan Told
    finish parts = plans.Ends (told_of parts)

    asks_again : (found : Option (List ℕ)) → blank (read_of sector found) ≡ disk_call s rank number op
    asks_again None = sym asks
    asks_again (Some bytes) = sym asks

    ends : (one two three : Part) → Heard s op A value (is_asked op x) one → Heard s op A value (is_asked op y) two → Heard s op A value (is_asked op z) three
        → IsAnswered s rank number op good (record { one = one; two = two; three = three }) (told_of (one ∷ two ∷ three ∷ []))
    ends one two three h k l = record {
      call = asks_again (sector_of s (read_entry op (one ∷ two ∷ three ∷ []) good));
      answer = tells sector one two three good h.told k.told l.told ∙ same;
      goods = λ image is. sym (stays (part_on (one ∷ two ∷ three ∷ [])) (is_good_on good) image);
      three = refl;
    }
      where
        same : read_entry op (one ∷ two ∷ three ∷ []) good ≡ answer_of op (part_on (one ∷ two ∷ three ∷ [])) (is_good_on good)
        same =
            subst (λ p. read_entry op (p ∷ two ∷ three ∷ []) good ≡ answer_of op (part_on (p ∷ two ∷ three ∷ [])) (is_good_on good)) (sym h.is)
            (subst (λ p. read_entry op (part_from value h.says ∷ p ∷ three ∷ []) good ≡ answer_of op (part_on (part_from value h.says ∷ p ∷ three ∷ [])) (is_good_on good)) (sym k.is)
            (subst (λ p. read_entry op (part_from value h.says ∷ part_from value k.says ∷ p ∷ []) good ≡ answer_of op (part_on (part_from value h.says ∷ part_from value k.says ∷ p ∷ [])) (is_good_on good)) (sym l.is)
            (kind_same kind h.says k.says l.says h.speaks k.speaks l.speaks)))

    third : (a : Bool) → is_asked op z ≡ a → (one two : Part) → Heard s op A value (is_asked op x) one → Heard s op A value (is_asked op y) two
        → IsLeft s t rank number op good 1 (record { one = one; two = two; three = Pending })
        ((part_plan s op a 3 sector >>= (λ three. plans.Ends (one ∷ two ∷ three ∷ []))) >>= finish)
    unfolding part_plan
    third true e one two h k =
        inr (
          (λ made. finish (one ∷ two ∷ part_of s op made ∷ [])),
          ap (λ c. plans.Asks (on_image 3 c) (λ made. finish (one ∷ two ∷ part_of s op made ∷ []))) (sym asks),
          (λ made same honest. (told_of (one ∷ two ∷ part_of s op made ∷ []), refl, ends one two (part_of s op made) h k (heard (is_asked op z) made honest))),
        )
    third false e one two h k = inl (told_of (one ∷ two ∷ Pending ∷ []), refl, ends one two Pending h k (unasked (is_asked op z) e))

    second : (a : Bool) → is_asked op y ≡ a → (one : Part) → Heard s op A value (is_asked op x) one
        → IsLeft s t rank number op good 2 (record { one = one; two = Pending; three = Pending })
        ((part_plan s op a 2 sector >>= (λ two. part_plan s op (is_asked op z) 3 sector >>= (λ three. plans.Ends (one ∷ two ∷ three ∷ [])))) >>= finish)
    unfolding part_plan
    second true e one h =
        inr (
          (λ made. (part_plan s op (is_asked op z) 3 sector >>= (λ three. plans.Ends (one ∷ part_of s op made ∷ three ∷ []))) >>= finish),
          ap (λ c. plans.Asks (on_image 2 c) (λ made. (part_plan s op (is_asked op z) 3 sector >>= (λ three. plans.Ends (one ∷ part_of s op made ∷ three ∷ []))) >>= finish)) (sym asks),
          (λ made same honest. third (is_asked op z) refl one (part_of s op made) h (heard (is_asked op y) made honest)),
        )
    second false e one h = inl (third (is_asked op z) refl one Pending h (unasked (is_asked op y) e))

    first : (a : Bool) → is_asked op x ≡ a
        → IsLeft s t rank number op good 3 none_told
        ((part_plan s op a 1 sector >>= (λ one. part_plan s op (is_asked op y) 2 sector >>= (λ two. part_plan s op (is_asked op z) 3 sector >>= (λ three. plans.Ends (one ∷ two ∷ three ∷ []))))) >>= finish)
    unfolding part_plan
    first true e =
        inr (
          (λ made. (part_plan s op (is_asked op y) 2 sector >>= (λ two. part_plan s op (is_asked op z) 3 sector >>= (λ three. plans.Ends (part_of s op made ∷ two ∷ three ∷ [])))) >>= finish),
          ap (λ c. plans.Asks (on_image 1 c) (λ made. (part_plan s op (is_asked op y) 2 sector >>= (λ two. part_plan s op (is_asked op z) 3 sector >>= (λ three. plans.Ends (part_of s op made ∷ two ∷ three ∷ [])))) >>= finish)) (sym asks),
          (λ made same honest. second (is_asked op y) refl (part_of s op made) (heard (is_asked op x) made honest)),
        )
    first false e = inl (second (is_asked op y) refl Pending (unasked (is_asked op x) e))

    read_left : reading sector ≡ op → IsLeft s t rank number op good 3 none_told (call_plan s rank good (disk_call s rank number op))
    unfolding read_plan parts_plan
    read_left same =
        subst (λ c. IsLeft s t rank number op good 3 none_told (call_plan s rank good c)) (sym asks)
        (subst (λ o. IsLeft s t rank number op good 3 none_told (parts_plan s o good sector >>= (λ parts. plans.Ends (read_of sector (sector_of s (read_entry o parts good)), good)))) (sym same)
        (first (is_asked op x) refl))

-- the check of a clean start, as the read of the mailbox
module _ (s : Settings) (t : Timing) (rank number : ℕ) (check : CheckTells s) (reads : reading (mail_place rank) ≡ disk.ReadMail) where
  abbrev sector : ℕ
  sector = mail_place rank

  abbrev mails : List Call → List Part
  mails calls = map (part_of s disk.ReadMail) calls

  abbrev mail_plan : DiskOp → Plan Told
  mail_plan o = parts_plan s o all_good sector >>= (λ parts. plans.Ends (read_of sector (sector_of s (read_entry o parts all_good)), all_good))

  abbrev mail_told : Call → Call → Call → Told
  mail_told one two three = (read_of sector (sector_of s (read_entry disk.ReadMail (mails (one ∷ two ∷ three ∷ [])) all_good)), all_good)

  mail_asks : (found : Option (List ℕ)) → blank (read_of sector found) ≡ disk_call s rank number disk.CheckMail
  unfolding disk_call
  mail_asks None = refl
  mail_asks (Some bytes) = refl

  of_mail : (found : What) → IsHeld s t disk.CheckMail found → (a : Message) × (found ≡ what.MailChecked (mail.Read a))
  of_mail found held = held

  abbrev CheckHeard : Call → Type 0
  CheckHeard made = Heard s disk.CheckMail Message (λ found. what.MailChecked (mail.Read found)) true (part_of s disk.CheckMail made)

  check_heard : (made : Call) → IsHonest s t disk.CheckMail made → CheckHeard made
  check_heard made honest = heard s t disk.CheckMail Message (λ found. what.MailChecked (mail.Read found)) refl of_mail true made honest

  check_same : (one two three : Part) → Heard s disk.CheckMail Message (λ found. what.MailChecked (mail.Read found)) true one
      → Heard s disk.CheckMail Message (λ found. what.MailChecked (mail.Read found)) true two → Heard s disk.CheckMail Message (λ found. what.MailChecked (mail.Read found)) true three
      → read_entry disk.CheckMail (one ∷ two ∷ three ∷ []) all_good ≡ answer_of disk.CheckMail (part_on (one ∷ two ∷ three ∷ [])) (is_good_on all_good)
  check_same one two three h k l =
      let value = λ (found : Message). what.MailChecked (mail.Read found) in
      subst (λ p. read_entry disk.CheckMail (p ∷ two ∷ three ∷ []) all_good ≡ answer_of disk.CheckMail (part_on (p ∷ two ∷ three ∷ [])) (is_good_on all_good)) (sym h.is)
      (subst (λ p. read_entry disk.CheckMail (part_from value h.says ∷ p ∷ three ∷ []) all_good ≡ answer_of disk.CheckMail (part_on (part_from value h.says ∷ p ∷ three ∷ [])) (is_good_on all_good)) (sym k.is)
      (subst (λ p. read_entry disk.CheckMail (part_from value h.says ∷ part_from value k.says ∷ p ∷ []) all_good ≡ answer_of disk.CheckMail (part_on (part_from value h.says ∷ part_from value k.says ∷ p ∷ [])) (is_good_on all_good)) (sym l.is)
      (kind_same check_kind h.says k.says l.says h.speaks k.speaks l.speaks)))

  check_ends : (one two three : Call) → CheckHeard one → CheckHeard two → CheckHeard three
      → Follows (call_plan s rank all_good (disk_call s rank number disk.CheckMail)) (one ∷ two ∷ three ∷ []) (mail_told one two three)
      → IsAnswered s rank number disk.CheckMail all_good (record { one = part_of s disk.CheckMail one; two = part_of s disk.CheckMail two; three = part_of s disk.CheckMail three }) (mail_told one two three)
  check_ends one two three h k l follows = record {
    call = mail_asks (sector_of s (read_entry disk.ReadMail (mails (one ∷ two ∷ three ∷ [])) all_good));
    answer = check rank number (one ∷ two ∷ three ∷ []) (mail_told one two three) follows
        ∙ check_same (part_of s disk.CheckMail one) (part_of s disk.CheckMail two) (part_of s disk.CheckMail three) h k l;
    goods = λ image is. refl;
    three = refl;
  }

  check_left : IsLeft s t rank number disk.CheckMail all_good 3 none_told (call_plan s rank all_good (disk_call s rank number disk.CheckMail))
  unfolding disk_call read_plan parts_plan part_plan
  check_left =
      subst (λ o. IsLeft s t rank number disk.CheckMail all_good 3 none_told (mail_plan o)) (sym reads)
      (inr (
        _,
        refl,
        λ one same honest. inr (
          _,
          refl,
          λ two same' honest'. inr (
            _,
            refl,
            λ three same'' honest''. (
              mail_told one two three,
              refl,
              check_ends one two three (check_heard one honest) (check_heard two honest') (check_heard three honest'')
                  (subst (λ o. Follows (mail_plan o) (one ∷ two ∷ three ∷ []) (mail_told one two three)) (sym reads) (same, (same', (same'', (refl, refl))))),
            ),
          ),
        ),
      ))

-- ## The calls of a write

landed_not : (f : Bool) (value : What) → has_landed (if f then Failed else Landed value) ≡ not f
landed_not true value = refl
landed_not false value = refl

-- the good images after a write of the own mailbox are those on which it was done
written_good : (a b c : Bool) (u v w : What) (image : ℕ) → is_image image ≡ true
    → is_good_on (not a ∷ not b ∷ not c ∷ []) image
    ≡ has_landed (part_on ((if a then Failed else Landed u) ∷ (if b then Failed else Landed v) ∷ (if c then Failed else Landed w) ∷ []) image)
written_good a b c u v w zero is = absurd (let under = leb-true 1 0 (first_of_both (nat_le 1 0) (nat_le 0 3) is) in omega (arith, under))
written_good a b c u v w (suc zero) is = sym (landed_not a u)
written_good a b c u v w (suc (suc zero)) is = sym (landed_not b v)
written_good a b c u v w (suc (suc (suc zero))) is = sym (landed_not c w)
written_good a b c u v w (suc (suc (suc (suc more)))) is = absurd (out_of more is)
  where
    out_of : (more : ℕ) → is_image (suc (suc (suc (suc more)))) ≡ true → ⊥
    out_of more is =
        let under = leb-true (suc (suc (suc (suc more)))) 3 (second_of_both (nat_le 1 (suc (suc (suc (suc more))))) (nat_le (suc (suc (suc (suc more)))) 3) is) in omega (arith, under)

module _ (s : Settings) (t : Timing) (rank number sector : ℕ) (bytes : List ℕ) (op : DiskOp) (good : List Bool) (tells : WritesTell s) (write : is_write op ≡ true)
    (asks : disk_call s rank number op ≡ call.Write sector bytes true)
    (shape : good ≡ is_good_on good 1 ∷ is_good_on good 2 ∷ is_good_on good 3 ∷ []) where
  abbrev done_on : Call → Call → Call → List Bool
  done_on one two three = not (is_failed one) ∷ not (is_failed two) ∷ not (is_failed three) ∷ []

  abbrev write_told : Call → Call → Call → Told
  write_told one two three =
      (call.Write sector bytes (is_majority (done_on one two three)), good_after_write rank sector (done_on one two three) good)

  three_good : (b : Bool) (written : List Bool) → written ≡ is_good_on written 1 ∷ is_good_on written 2 ∷ is_good_on written 3 ∷ []
      → (if b then written else good) ≡ is_good_on (if b then written else good) 1 ∷ is_good_on (if b then written else good) 2 ∷ is_good_on (if b then written else good) 3 ∷ []
  three_good true written e = e
  three_good false written e = shape

  module _ (goods : (one two three : Call) (image : ℕ) → is_image image ≡ true
      → is_good_on (good_after_write rank sector (done_on one two three) good) image
      ≡ good_after op (part_on (part_of s op one ∷ part_of s op two ∷ part_of s op three ∷ [])) (is_good_on good) image) where
    write_left : IsLeft s t rank number op good 3 none_told (call_plan s rank good (disk_call s rank number op))
    unfolding write_plan images_plan image_plan
    write_left =
        subst (λ p. IsLeft s t rank number op good 3 none_told p) (sym (ap (λ c. call_plan s rank good c) asks))
        (inr (
          _,
          ap (λ c. plans.Asks (on_image 1 c) (plans.left (write_plan rank good sector bytes))) (sym asks),
          λ one same honest.
              inr (
                _,
                ap (λ c. plans.Asks (on_image 2 c) (plans.left (plans.left (write_plan rank good sector bytes) one))) (sym asks),
                λ two same' honest'.
                    inr (
                      _,
                      ap (λ c. plans.Asks (on_image 3 c) (plans.left (plans.left (plans.left (write_plan rank good sector bytes) one) two))) (sym asks),
                      λ three same'' honest''. (
                        write_told one two three,
                        refl,
                        record {
                          call = sym asks;
                          answer = tells rank number op good (one ∷ two ∷ three ∷ []) (write_told one two three) write
                              (subst (λ c. Follows (call_plan s rank good c) (one ∷ two ∷ three ∷ []) (write_told one two three)) (sym asks)
                              (same ∙ ap (on_image 1) asks, (same' ∙ ap (on_image 2) asks, (same'' ∙ ap (on_image 3) asks, (refl, refl)))));
                          goods = goods one two three;
                          three = three_good (sector == mail_place rank) (done_on one two three) refl;
                        },
                      ),
                    ),
              ),
        ))

-- ## Each operation

apart_slot : (rank : ℕ) → rank < 32 → (1 + 2 * rank == 512 + rank) ≡ false
apart_slot rank small = ne_eqb (1 + 2 * rank) (512 + rank) (λ e. omega (arith, small))

pub calls_answer : (s : Settings) (t : Timing) → Tells s → CallsAnswer s t
unfolding disk_call done
calls_answer s t tells rank number op good x y z fits below is_op shape enough =
    subst (λ g. IsEnough rank op g → IsLeft s t rank number op g 3 none_told (call_plan s rank g (disk_call s rank number op))) (sym shape) (by_op op is_op) enough
  where
    small : rank < 32
    small = omega (arith, below, fits.few)

    kept : (sector : ℕ) (written : List Bool) → (sector == mail_place rank) ≡ false → good_after_write rank sector written (x ∷ y ∷ z ∷ []) ≡ x ∷ y ∷ z ∷ []
    kept sector written apart = ap (λ b. if b then written else x ∷ y ∷ z ∷ []) apart

    by_op : (o : DiskOp) → IsOperation s o → IsEnough rank o (x ∷ y ∷ z ∷ []) → IsLeft s t rank number o (x ∷ y ∷ z ∷ []) 3 none_told (call_plan s rank (x ∷ y ∷ z ∷ []) (disk_call s rank number o))
    by_op disk.ReadHeader is e =
        read_left s t disk.ReadHeader (Unit {0}) (λ u. what.Header (header.Read (length s.nodes) t)) refl (λ found held. (tt, held)) rank number 0 refl x y z (header_kind s t x y z) tells.header
        (λ parts good image. refl) refl
    by_op (disk.ReadSlot other) is e =
        read_left s t (disk.ReadSlot other) Slot (λ own. what.SlotRead other (slot.Read own)) refl (λ found held. held) rank number (slot_place other.0) refl x y z (slot_kind other x y z) (tells.slot other)
        (λ parts good image. refl) (slot_is_read other (omega (arith, is, fits.few)))
    by_op disk.ReadMail is e =
        read_left s t disk.ReadMail Message (λ found. what.MailRead (mail.Read found)) refl (λ found held. held) rank number (mail_place rank) refl x y z (mail_kind x y z e) tells.mailbox
        (λ parts good image. refl) (mail_is_read rank)
    by_op disk.CheckMail is e =
        subst (λ g. IsLeft s t rank number disk.CheckMail g 3 none_told (call_plan s rank g (disk_call s rank number disk.CheckMail))) (sym e)
        (check_left s t rank number tells.check (mail_is_read rank))
    by_op (disk.WriteClaim next) is e =
        write_left s t rank number (slot_place rank) _ (disk.WriteClaim next) (x ∷ y ∷ z ∷ []) tells.writes refl refl refl
        (λ one two three image is. ap (λ g. is_good_on g image) (kept (slot_place rank) (not (is_failed one) ∷ not (is_failed two) ∷ not (is_failed three) ∷ []) (apart_slot rank small)))
    by_op (disk.WriteClose last) is e =
        write_left s t rank number (slot_place rank) _ (disk.WriteClose last) (x ∷ y ∷ z ∷ []) tells.writes refl refl refl
        (λ one two three image is. ap (λ g. is_good_on g image) (kept (slot_place rank) (not (is_failed one) ∷ not (is_failed two) ∷ not (is_failed three) ∷ []) (apart_slot rank small)))
    by_op disk.WriteClear is e =
        write_left s t rank number (mail_place rank) _ disk.WriteClear (x ∷ y ∷ z ∷ []) tells.writes refl refl refl
        (λ one two three image is.
        ap (λ b. is_good_on (if b then not (is_failed one) ∷ not (is_failed two) ∷ not (is_failed three) ∷ [] else x ∷ y ∷ z ∷ []) image) (eq-eqb (mail_place rank) (mail_place rank) refl)
        ∙ written_good (is_failed one) (is_failed two) (is_failed three) (what.Cleared true) (what.Cleared true) (what.Cleared true) image is)
    by_op (disk.WriteReset other) is e =
        write_left s t rank number (mail_place other.0) _ (disk.WriteReset other) (x ∷ y ∷ z ∷ []) tells.writes refl refl refl
        (λ one two three image is.
        ap (λ g. is_good_on g image) (kept (mail_place other.0) (not (is_failed one) ∷ not (is_failed two) ∷ not (is_failed three) ∷ [])
        (ne_eqb (512 + other.0) (512 + rank) (λ same. eqb-false other.0 rank e (omega (arith, same))))))
