-- What was read where a migration ended with a mailbox that is none, and that it wrote nothing.
use Rattle.std.proofs.Common.{◌≡◌, ◌↔◌, ◌<◌, ◌+◌, ◌==◌, ℕ, zero, suc, Bool, true, false, Option, None, Some, ok_or, option_map, Result, Ok, Err, List, [], ◌∷◌, ◌++◌, length, length-append, All, if◌then◌else◌, refl, sym, ap, ◌∙◌, arith}
use Rattle.std.specs.Option.{option_or}
use Rattle.std.proofs.lemmas.List.Elements.{All-nil, All-cons, All-head, All-tail}
use Rattle.qn_base.specs.declared.calls.Call.{Call}
use Rattle.qn_base.specs.declared.calls.Call.TheVariants.{Read}
use Rattle.qn_base.specs.Calls.{blank, is_failed}
use Rattle.qn_base.specs.Plans.{Plan, Ends, ◌>>=◌, Follows}
use Rattle.qn_model.specs.declared.disk.Message.{Message}
use Rattle.qn_model.specs.declared.times.Timing.{Timing}
use Rattle.qn_model.specs.Sectors.{anonymous, mail_place_1}
use Rattle.qn_sector.specs.Reading.{header_of, header_of_1, mail_of_1}
use Rattle.qn_image.specs.declared.fault.ImageFault.{ImageFault}
use Rattle.qn_image.specs.declared.fault.ImageFault.TheVariants.{Disk, NotImage, DamagedSector}
use Rattle.qn_image.specs.Causes.{FoundDamaged, IsMailbox, mail_reads}
use Rattle.qn_image.specs.Migration.{convert_plan, mailboxes_plan, migrate_plan, migrate_writes}
use Rattle.qn_io.specs.Answered.{bytes_read}
use Rattle.qn_image.specs.Plans.{or_fault, header_plan, mail_plan}
use Rattle.qn_image.specs.Versions.{any_header_of, with_version}
use Rattle.qn_image.specs.Writes.{SectorWrite, writes_plan}
use Rattle.qn_image.proofs.Kept.{asked_read}
use Rattle.qn_image.proofs.Writing.{answer_of}

-- on an image of version 2 a migration ends after the header
pub version_2 : (header : List ℕ) (nodes : ℕ) (timing : Timing) (calls : List Call) (result : Result ℕ ImageFault)
    → Follows migrate_plan (Read 0 header true ∷ calls) result → any_header_of header ≡ Some (2, nodes, timing)
    → (calls ≡ []) × (result ≡ Ok nodes)
unfolding migrate_plan header_plan
version_2 header nodes timing calls result did is = rw is at did.1

-- the mailboxes of some ranks, the first of which is this, were read up to the first that is none
record Damaged (first left rank : ℕ) (calls : List Call) : Type 0 where
  mails : List (List ℕ)
  damaged : List ℕ
  made : calls ≡ mail_reads first mails ++ Read (mail_place_1 rank) damaged true ∷ []
  before : first + length mails ≡ rank
  counted : length mails < left
  good : All IsMailbox mails
  none : mail_of_1 damaged ≡ None

module _ (nodes : ℕ) (timing : Timing) where
  abbrev then_writes : List Message → Plan (Result (Unit {0}) ImageFault)
  then_writes messages = writes_plan (migrate_writes nodes timing messages)

  abbrev then_done : Unit {0} → Plan (Result ℕ ImageFault)
  then_done done = Ends (Ok nodes)

  -- what is left of a conversion, once these messages were read
  abbrev rest_plan : List Message → ℕ → Plan (Result ℕ ImageFault)
  rest_plan found left = mailboxes_plan found left >>= or_fault then_writes >>= or_fault then_done

  after_write : (failed : Bool) (writes : List SectorWrite) (calls : List Call) (fault : ImageFault)
      → (Follows (writes_plan writes >>= or_fault then_done) calls (Err fault) → fault ≡ Disk)
      → Follows (or_fault (λ done. writes_plan writes) (answer_of failed) >>= or_fault then_done) calls (Err fault)
      → fault ≡ Disk
  after_write true writes calls fault others did = cc
  after_write false writes calls fault others did = others did

  -- the writes end with no fault but the disk's
  writes_fault : (writes : List SectorWrite) (calls : List Call) (fault : ImageFault)
      → Follows (writes_plan writes >>= or_fault then_done) calls (Err fault) → fault ≡ Disk
  unfolding writes_plan
  writes_fault [] calls fault did = cc
  writes_fault (write ∷ writes) [] fault did = absurd did
  writes_fault (write ∷ writes) (call ∷ calls) fault did =
      after_write (is_failed call) writes calls fault (writes_fault writes calls fault) did.1

  module _ (rank : ℕ) where
    -- a mailbox was read, and then others up to the first that is none
    one_more : (first left : ℕ) (bytes : List ℕ) (calls : List Call) → IsMailbox bytes
        → Damaged (first + 1) left rank calls
        → Damaged first (suc left) rank (Read (mail_place_1 first) bytes true ∷ calls)
    one_more first left bytes calls mailbox rest =
        record {
          mails = bytes ∷ rest.mails;
          damaged = rest.damaged;
          made = ap (λ more. Read (mail_place_1 first) bytes true ∷ more) rest.made;
          before = omega (arith, rest.before);
          counted = omega (arith, rest.counted);
          good = All-cons IsMailbox bytes rest.mails mailbox rest.good;
          none = rest.none;
        }

    -- the first that was read is none
    at_once : (first left : ℕ) (bytes : List ℕ) (calls : List Call) → calls ≡ []
        → mail_place_1 rank ≡ mail_place_1 first → mail_of_1 bytes ≡ None
        → Damaged first (suc left) rank (Read (mail_place_1 first) bytes true ∷ calls)
    at_once first left bytes calls over same none =
        let at : first ≡ rank = omega (arith, same) in
        record {
          mails = [];
          damaged = bytes;
          made = rw (over, at) refl;
          before = omega (arith, at);
          counted = omega arith;
          good = All-nil IsMailbox;
          none = none;
        }

    module _ (found : List Message) (first left : ℕ) (counted : length found ≡ first) where
      abbrev then_others : (mail : Option Message) → Plan (Result ℕ ImageFault)
      then_others mail =
          or_fault (λ held. mailboxes_plan (found ++ held.message ∷ []) left)
          (ok_or (option_map anonymous mail) (DamagedSector (mail_place_1 (length found))))
          >>= or_fault then_writes >>= or_fault then_done

      module _ (others : (message : Message) (calls : List Call)
          → Follows (rest_plan (found ++ message ∷ []) left) calls (Err (DamagedSector (mail_place_1 rank)))
          → Damaged (first + 1) left rank calls) where
        by_mail : (mail : Option Message) (bytes : List ℕ) (calls : List Call) → mail ≡ mail_of_1 bytes
            → Follows (then_others mail) calls (Err (DamagedSector (mail_place_1 rank)))
            → Damaged first (suc left) rank (Read (mail_place_1 first) bytes true ∷ calls)
        by_mail None bytes calls same did =
            let place : mail_place_1 rank ≡ mail_place_1 (length found) = cc in
            at_once first left bytes calls did.0 (place ∙ ap mail_place_1 counted) (sym same)
        by_mail (Some message) bytes calls same did =
            one_more first left bytes calls (message, sym same) (others message calls did)

        by_answer : (failed : Bool) (call : Call) (calls : List Call) → failed ≡ is_failed call
            → blank call ≡ Read (mail_place_1 (length found)) [] true
            → Follows (Ends (if failed then Err Disk else Ok (bytes_read call))
            >>= or_fault (λ bytes. Ends (ok_or (option_map anonymous (mail_of_1 bytes))
            (DamagedSector (mail_place_1 (length found)))))
            >>= or_fault (λ held. mailboxes_plan (found ++ held.message ∷ []) left) >>= or_fault then_writes
            >>= or_fault then_done) calls (Err (DamagedSector (mail_place_1 rank)))
            → Damaged first (suc left) rank (call ∷ calls)
        by_answer true call calls same asked did = cc
        by_answer false call calls same asked did =
            let read : call ≡ Read (mail_place_1 first) (bytes_read call) true =
            asked_read call (mail_place_1 (length found)) asked (sym same)
            ∙ ap (λ n. Read (mail_place_1 n) (bytes_read call) true) counted in
            let rest = by_mail (mail_of_1 (bytes_read call)) (bytes_read call) calls refl did in
            record {
              mails = rest.mails;
              damaged = rest.damaged;
              made = ap (λ c. c ∷ calls) read ∙ rest.made;
              before = rest.before;
              counted = rest.counted;
              good = rest.good;
              none = rest.none;
            }

    -- a conversion that ended with a mailbox that is none read those before it
    damaged_of : (found : List Message) (first left : ℕ) (calls : List Call) → length found ≡ first
        → Follows (rest_plan found left) calls (Err (DamagedSector (mail_place_1 rank)))
        → Damaged first left rank calls
    unfolding mailboxes_plan mail_plan
    damaged_of found first zero calls counted did =
        let disk = writes_fault (migrate_writes nodes timing found) calls (DamagedSector (mail_place_1 rank)) did in cc
    damaged_of found first (suc left) [] counted did = absurd did
    damaged_of found first (suc left) (call ∷ calls) counted did =
        by_answer found first left counted
        (λ message more rest. damaged_of (found ++ message ∷ []) (first + 1) left more
        (omega (arith, length-append found (message ∷ []), counted)) rest)
        (is_failed call) call calls refl did.0 did.1

    -- and a conversion that reads a mailbox that is none ends with it
    of_damaged : (found : List Message) (first left : ℕ) (mails : List (List ℕ)) (damaged : List ℕ)
        → length found ≡ first → first + length mails ≡ rank → length mails < left → All IsMailbox mails
        → mail_of_1 damaged ≡ None
        → Follows (rest_plan found left) (mail_reads first mails ++ Read (mail_place_1 rank) damaged true ∷ [])
        (Err (DamagedSector (mail_place_1 rank)))
    unfolding mailboxes_plan mail_plan
    of_damaged found first zero mails damaged counted before few good none = absurd (omega arith)
    of_damaged found first (suc left) [] damaged counted before few good none =
        let at : length found ≡ rank = omega (arith, counted, before) in rw (at, none) (refl, (refl, refl))
    of_damaged found first (suc left) (bytes ∷ mails) damaged counted before few good none =
        let mailbox = All-head IsMailbox bytes mails good in
        let rest =
        of_damaged (found ++ mailbox.0 ∷ []) (first + 1) left mails damaged
        (omega (arith, length-append found (mailbox.0 ∷ []), counted)) (omega (arith, before)) (omega (arith, few))
        (All-tail IsMailbox bytes mails good) none in
        (ap (λ n. Read (mail_place_1 n) [] true) (sym counted), rw mailbox.1 rest)

-- a header that is not of version 2 is of version 1
is_first : (sector : List ℕ) (version nodes : ℕ) (timing : Timing)
    → any_header_of sector ≡ Some (version, nodes, timing) → (version == 2) ≡ false → version ≡ 1
unfolding any_header_of
is_first sector version nodes timing is other = by_headers (header_of sector) (header_of_1 sector) is
  where
    by_headers : (second first : Option (ℕ × Timing))
        → option_or (with_version 2 second) (with_version 1 first) ≡ Some (version, nodes, timing) → version ≡ 1
    by_headers None None is = cc
    by_headers None (Some header) is =
        let same : ◌≡◌ {A = ℕ × ℕ × Timing} (1, header.0, header.1) (version, nodes, timing) = cc in
        sym (ap (λ (h : ℕ × ℕ × Timing). h.0) same)
    by_headers (Some header) first is =
        let same : ◌≡◌ {A = ℕ × ℕ × Timing} (2, header.0, header.1) (version, nodes, timing) = cc in
        let second : version ≡ 2 = sym (ap (λ (h : ℕ × ℕ × Timing). h.0) same) in
        let no = rw second at other in cc

module _ (rank : ℕ) where
  abbrev after_header : ℕ × ℕ × Timing → Plan (Result ℕ ImageFault)
  after_header header =
      if header.0 == 2 then Ends (Ok header.1)
      else convert_plan header.1 header.2 >>= or_fault (λ done. Ends (Ok header.1))

  by_version : (known : Bool) (version nodes : ℕ) (timing : Timing) (call : Call) (calls : List Call)
      → known ≡ (version == 2) → any_header_of (bytes_read call) ≡ Some (version, nodes, timing)
      → call ≡ Read 0 (bytes_read call) true
      → Follows (if known then Ends (Ok nodes) else convert_plan nodes timing
      >>= or_fault (λ done. Ends (Ok nodes))) calls (Err (DamagedSector (mail_place_1 rank)))
      → FoundDamaged rank (call ∷ calls)
  by_version true version nodes timing call calls same read is did = cc
  by_version false version nodes timing call calls same read is did =
      let rest = damaged_of nodes timing rank [] 0 nodes calls refl did in
      let first = is_first (bytes_read call) version nodes timing read (sym same) in
      record {
        header = bytes_read call;
        nodes = nodes;
        timing = timing;
        mails = rest.mails;
        damaged = rest.damaged;
        made = ap (λ c. c ∷ calls) is ∙ ap (λ more. Read 0 (bytes_read call) true ∷ more) rest.made;
        version_1 = read ∙ ap (λ v. Some (v, nodes, timing)) first;
        before = omega (arith, rest.before);
        counted = omega (arith, rest.before, rest.counted);
        good = rest.good;
        none = rest.none;
      }

  by_header : (header : Option (ℕ × ℕ × Timing)) (call : Call) (calls : List Call)
      → header ≡ any_header_of (bytes_read call) → call ≡ Read 0 (bytes_read call) true
      → Follows (or_fault after_header (ok_or header NotImage)) calls (Err (DamagedSector (mail_place_1 rank)))
      → FoundDamaged rank (call ∷ calls)
  by_header None call calls same is did = cc
  by_header (Some header) call calls same is did =
      by_version (header.0 == 2) header.0 header.1 header.2 call calls refl (sym same) is did

  by_read : (failed : Bool) (call : Call) (calls : List Call) → failed ≡ is_failed call → blank call ≡ Read 0 [] true
      → Follows (Ends (if failed then Err Disk else Ok (bytes_read call))
      >>= or_fault (λ bytes. Ends (ok_or (any_header_of bytes) NotImage)) >>= or_fault after_header) calls
      (Err (DamagedSector (mail_place_1 rank)))
      → FoundDamaged rank (call ∷ calls)
  by_read true call calls same asked did = cc
  by_read false call calls same asked did =
      by_header (any_header_of (bytes_read call)) call calls refl (asked_read call 0 asked (sym same)) did

  found_damaged : (calls : List Call) → Follows migrate_plan calls (Err (DamagedSector (mail_place_1 rank)))
      → FoundDamaged rank calls
  unfolding migrate_plan header_plan
  found_damaged [] did = absurd did
  found_damaged (call ∷ calls) did = by_read (is_failed call) call calls refl did.0 did.1

  follows_damaged : (calls : List Call) → FoundDamaged rank calls
      → Follows migrate_plan calls (Err (DamagedSector (mail_place_1 rank)))
  unfolding migrate_plan header_plan
  follows_damaged calls found =
      let rest =
      of_damaged found.nodes found.timing rank [] 0 found.nodes found.mails found.damaged refl
      (omega (arith, found.before)) (omega (arith, found.before, found.counted)) found.good found.none in
      rw found.made (refl, rw found.version_1 rest)

  pub damaged_mailbox_1 : (calls : List Call)
      → Follows migrate_plan calls (Err (DamagedSector (mail_place_1 rank))) ↔ FoundDamaged rank calls
  damaged_mailbox_1 calls = (found_damaged calls, follows_damaged calls)
