-- What the check of a clean start on three images tells is the answer that its parts give.
use Rattle.std.proofs.Common.{◌≡◌, ℕ, Bool, true, false, List, [], ◌∷◌, ◌++◌, map, Option, None, Some, refl, sym, ap, ◌∙◌}
use Rattle.std.specs.List.{list_any}
use Rattle.std.proofs.lemmas.List.{map-append}
use Rattle.qn_base.specs.declared.calls.Call.{Call}
use Rattle.qn_base.specs.Calls.{is_failed}
use Rattle.qn_base.specs.Plans.{Follows}
use Rattle.qn_io.specs.Answered.{bytes_read}
use Rattle.qn_model.specs.declared.configuration.Settings.{Settings}
use Rattle.qn_model.specs.declared.disk.Message.{Message}
use Rattle.qn_model.specs.declared.entries.What.{What}
use Rattle.qn_model.specs.declared.entries.What.TheVariants as what
use Rattle.qn_model.specs.declared.mailbox.Mail.{Mail}
use Rattle.qn_model.specs.declared.outputs.DiskOp.{DiskOp}
use Rattle.qn_model.specs.declared.outputs.DiskOp.TheVariants as disk
use Rattle.qn_model.specs.declared.seen.MailSeen.TheVariants as mail
use Rattle.qn_model.specs.Sectors.{anonymous, mail_place}
use Rattle.qn_model.specs.World.{failed}
use Rattle.qn_sector.specs.Reading.{mail_of}
use Rattle.qn_safety.specs.declared.part.Part.{Part}
use Rattle.qn_safety.specs.declared.part.Part.TheVariants.{Pending, Landed, Failed}
use Rattle.qn_safety.specs.TripleWorld.{answer_among, answer_of, counted, counting, has_failed, message_among, messages_among}
use Rattle.qn_parts.specs.Parts.{is_good_on, part_on}
use Rattle.qn_live.specs.Performing.{disk_answer, disk_call, done}
use Rattle.qn_live.specs.TripleDisk.{Told, call_plan, differ, if_failed, part_of, part_plan, parts_plan, read_entry, read_of, read_plan, sector_of}
use Rattle.qn_live.specs.TripleLaws.{parts_told}
use Rattle.qn_live.specs.TripleRuns.{all_good}
use Rattle.qn_live.proofs.Answers.{ReadsMailBack, zeros_mail}
use Rattle.qn_live.specs.PlacesRead.{mail_is_read}

-- what an image told of a mailbox
data Heard : Type 0 where
  Nothing : Heard
  NoMail : Heard
  Holds : Message → Heard

-- as the part of a read of the mailbox, and as that of the check
abbrev as_read : Heard → Part
as_read Nothing = Failed
as_read NoMail = Pending
as_read (Holds message) = Landed (what.MailRead (mail.Read message))

abbrev as_check : Heard → Part
as_check Nothing = Failed
as_check NoMail = Pending
as_check (Holds message) = Landed (what.MailChecked (mail.Read message))

abbrev messages : Heard → List Message
messages Nothing = []
messages NoMail = []
messages (Holds message) = message ∷ []

abbrev reads : List Message → List What
reads found = map (λ message. what.MailRead (mail.Read message)) found

abbrev checks : List Message → List What
checks found = map (λ message. what.MailChecked (mail.Read message)) found

messages_read : (found : List Message) → messages_among (reads found) ≡ found
messages_read [] = refl
messages_read (message ∷ found) = ap (λ l. message ∷ l) (messages_read found)

messages_checked : (found : List Message) → messages_among (checks found) ≡ found
messages_checked [] = refl
messages_checked (message ∷ found) = ap (λ l. message ∷ l) (messages_checked found)

-- both parts of a call are those of one thing that was heard
record Hears (s : Settings) (c : Call) : Type 0 where
  heard : Heard
  read : part_of s disk.ReadMail c ≡ as_read heard
  check : part_of s disk.CheckMail c ≡ as_check heard

hears : (s : Settings) (c : Call) → Hears s c
unfolding done
hears s c = of_call (is_failed c) refl
  where
    of_found : (found : Option Mail) → mail_of (bytes_read c) ≡ found → is_failed c ≡ false → Hears s c
    of_found None is whole = record { heard = NoMail; read = rw (whole, is) refl; check = rw (whole, is) refl }
    of_found (Some found) is whole = record { heard = Holds found.message; read = rw (whole, is) refl; check = rw (whole, is) refl }

    of_call : (failing : Bool) → is_failed c ≡ failing → Hears s c
    of_call true is = record { heard = Nothing; read = rw is refl; check = rw is refl }
    of_call false is = of_found (mail_of (bytes_read c)) refl is

module _ (s : Settings) (back : ReadsMailBack) where
  -- what a node takes for its check from the sector that says what was read
  abbrev taken_as_check : ℕ → What → What
  taken_as_check sector entry = disk_answer s disk.CheckMail (read_of sector (sector_of s entry))

  checks_mail : (sector : ℕ) (message : Message) → taken_as_check sector (what.MailRead (mail.Read message)) ≡ what.MailChecked (mail.Read message)
  unfolding done
  checks_mail sector message = rw (back (anonymous message) tt) refl

  checks_none : (sector : ℕ) → taken_as_check sector (what.MailRead mail.Damaged) ≡ what.MailChecked mail.Damaged
  unfolding done
  checks_none sector = rw zeros_mail refl

  among : (sector : ℕ) (some : Bool) (found : List Message)
      → taken_as_check sector (if_failed disk.ReadMail some (answer_among disk.ReadMail (reads found)))
      ≡ if_failed disk.CheckMail some (answer_among disk.CheckMail (checks found))
  unfolding failed
  among sector true [] = refl
  among sector false [] = checks_none sector
  among sector true (one ∷ []) = refl
  among sector false (one ∷ []) = checks_none sector
  among sector some (one ∷ two ∷ more) =
      checks_mail sector (message_among (messages_among (reads (one ∷ two ∷ more))))
      ∙ ap (λ l. what.MailChecked (mail.Read (message_among l))) (messages_read (one ∷ two ∷ more) ∙ sym (messages_checked (one ∷ two ∷ more)))

  counted_read : (heard : Heard) → counted disk.ReadMail true (as_read heard) ≡ reads (messages heard)
  counted_read Nothing = refl
  counted_read NoMail = refl
  counted_read (Holds message) = refl

  counted_check : (heard : Heard) → counted disk.CheckMail true (as_check heard) ≡ checks (messages heard)
  counted_check Nothing = refl
  counted_check NoMail = refl
  counted_check (Holds message) = refl

  fails_alike : (heard : Heard) → has_failed (as_read heard) ≡ has_failed (as_check heard)
  fails_alike Nothing = refl
  fails_alike NoMail = refl
  fails_alike (Holds message) = refl

  reads_agree : (heard : Heard) (other : Part) → differ (as_read heard) other ≡ false
  reads_agree Nothing other = refl
  reads_agree NoMail other = refl
  reads_agree (Holds message) other = refl

  checks_agree : (heard : Heard) (other : Part) → differ (as_check heard) other ≡ false
  checks_agree Nothing other = refl
  checks_agree NoMail other = refl
  checks_agree (Holds message) other = refl

  module _ (one two three : Heard) where
    abbrev read_parts : List Part
    read_parts = as_read one ∷ as_read two ∷ as_read three ∷ []

    abbrev check_parts : List Part
    check_parts = as_check one ∷ as_check two ∷ as_check three ∷ []

    abbrev found : List Message
    found = messages one ++ (messages two ++ messages three)

    read_counts : counting disk.ReadMail (part_on read_parts) (is_good_on all_good) ≡ reads found
    read_counts =
        rw (counted_read one, counted_read two, counted_read three)
        (sym (map-append (λ m. what.MailRead (mail.Read m)) (messages one) (messages two ++ messages three)
        ∙ ap (λ l. reads (messages one) ++ l) (map-append (λ m. what.MailRead (mail.Read m)) (messages two) (messages three))))

    check_counts : counting disk.CheckMail (part_on check_parts) (is_good_on all_good) ≡ checks found
    check_counts =
        rw (counted_check one, counted_check two, counted_check three)
        (sym (map-append (λ m. what.MailChecked (mail.Read m)) (messages one) (messages two ++ messages three)
        ∙ ap (λ l. checks (messages one) ++ l) (map-append (λ m. what.MailChecked (mail.Read m)) (messages two) (messages three))))

    some_fail : list_any has_failed read_parts ≡ list_any has_failed check_parts
    some_fail = rw (fails_alike one, fails_alike two, fails_alike three) refl

    read_says : read_entry disk.ReadMail read_parts all_good ≡ if_failed disk.ReadMail (list_any has_failed read_parts) (answer_among disk.ReadMail (reads found))
    unfolding answer_of
    read_says =
        rw (reads_agree one (as_read two), reads_agree one (as_read three), reads_agree two (as_read three))
        (ap (λ l. if_failed disk.ReadMail (list_any has_failed read_parts) (answer_among disk.ReadMail l)) read_counts)

    check_says : read_entry disk.CheckMail check_parts all_good ≡ if_failed disk.CheckMail (list_any has_failed check_parts) (answer_among disk.CheckMail (checks found))
    unfolding answer_of
    check_says =
        rw (checks_agree one (as_check two), checks_agree one (as_check three), checks_agree two (as_check three))
        (ap (λ l. if_failed disk.CheckMail (list_any has_failed check_parts) (answer_among disk.CheckMail l)) check_counts)

    checked_alike : (sector : ℕ) → taken_as_check sector (read_entry disk.ReadMail read_parts all_good) ≡ read_entry disk.CheckMail check_parts all_good
    checked_alike sector =
        ap (taken_as_check sector) read_says
        ∙ among sector (list_any has_failed read_parts) found
        ∙ ap (λ some. if_failed disk.CheckMail some (answer_among disk.CheckMail (checks found))) some_fail
        ∙ sym check_says

  pub check_told : (me number : ℕ) (calls : List Call) (told : Told) → Follows (call_plan s me all_good (disk_call s me number disk.CheckMail)) calls told
      → disk_answer s disk.CheckMail told.0 ≡ read_entry disk.CheckMail (parts_told s disk.CheckMail calls) all_good
  unfolding disk_call read_plan parts_plan part_plan
  check_told me number [] told follows = absurd follows
  check_told me number (one ∷ []) told follows = absurd follows.1
  check_told me number (one ∷ two ∷ []) told follows = absurd follows.1.1
  check_told me number (one ∷ two ∷ three ∷ more) told follows =
      let first = hears s one in
      let second = hears s two in
      let third = hears s three in
      let R : DiskOp → What = λ op. taken_as_check (mail_place me) (read_entry op (part_of s op one ∷ part_of s op two ∷ part_of s op three ∷ []) all_good) in
      let P : List Part → What = λ parts. taken_as_check (mail_place me) (read_entry disk.ReadMail parts all_good) in
      let told_parts : R disk.ReadMail ≡ P (read_parts first.heard second.heard third.heard) = rw (first.read, second.read, third.read) refl in
      let check_parts_told : parts_told s disk.CheckMail (one ∷ two ∷ three ∷ more) ≡ check_parts first.heard second.heard third.heard =
      rw (follows.1.1.1.0, first.check, second.check, third.check) refl in
      ap (λ (t : Told). disk_answer s disk.CheckMail t.0) follows.1.1.1.1
      ∙ ap R (mail_is_read me)
      ∙ told_parts
      ∙ checked_alike first.heard second.heard third.heard (mail_place me)
      ∙ sym (ap (λ parts. read_entry disk.CheckMail parts all_good) check_parts_told)
