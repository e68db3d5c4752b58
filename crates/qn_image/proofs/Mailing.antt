-- How the mailboxes of a migration are read and written, rank by rank.
use Rattle.std.proofs.Common.{◌≡◌, ◌<◌, ◌≤◌, ◌+◌, ◌-◌, ℕ, suc, Result, Ok, Err, Option, List, [], ◌∷◌, ◌++◌, length, get_or, take, drop, refl, sym, ap, ◌∙◌, add-zero, arith}
use Rattle.std.proofs.lemmas.List.{take_more, take-append-drop, length-take-le}
use Rattle.qn_base.specs.declared.calls.Call.{Call}
use Rattle.qn_base.specs.Plans.{Plan, Ends, ◌>>=◌, Did, At}
use Rattle.qn_base.specs.PlanSteps.{did_none, at_then, at_end}
use Rattle.qn_model.specs.declared.disk.Message.{Message}
use Rattle.qn_model.specs.declared.mailbox.Mail.{Mail}
use Rattle.qn_image.specs.declared.fault.ImageFault.{ImageFault}
use Rattle.qn_image.specs.Joining.{faulted}
use Rattle.qn_image.specs.Migration.{mail_writes, mailboxes_plan}
use Rattle.qn_image.specs.Plans.{or_fault, mail_plan, write_plan}
use Rattle.qn_image.specs.Writes.{SectorWrite, mail_write, writes_plan}
use Rattle.qn_image.proofs.Writing.{did_writes, did_writes_fault, one_write}

-- the mailboxes of some ranks, and then those of the others
mail_writes-append : (rank : ℕ) (messages others : List Message) → mail_writes rank (messages ++ others) ≡ mail_writes rank messages ++ mail_writes (rank + length messages) others
unfolding mail_writes
mail_writes-append rank [] others = rw add-zero refl
mail_writes-append rank (message ∷ messages) others =
    ap (λ writes. mail_write rank message ∷ writes) (mail_writes-append (rank + 1) messages others ∙ ap (λ r. mail_writes (rank + 1) messages ++ mail_writes r others) (omega arith))

module _ (messages : List Message) (n : ℕ) (d : Message) (more : n < length messages) where
  -- one mailbox more
  mail_writes-more : mail_writes 0 (take (n + 1) messages) ≡ mail_writes 0 (take n messages) ++ mail_write n (get_or messages n d) ∷ []
  unfolding mail_writes
  mail_writes-more =
      let count : 0 + length (take n messages) ≡ n = omega (arith, length-take-le n messages (omega arith)) in
      ap (λ x. mail_writes 0 x) (take_more messages n d more)
      ∙ mail_writes-append 0 (take n messages) (get_or messages n d ∷ [])
      ∙ ap (λ rank. mail_writes 0 (take n messages) ++ mail_write rank (get_or messages n d) ∷ []) count

  -- that mailbox and those after it
  mail_writes-rest : (rest : List SectorWrite) × (mail_writes 0 messages ≡ mail_writes 0 (take (n + 1) messages) ++ rest)
  mail_writes-rest = (
    _,
    ap (λ x. mail_writes 0 x) (sym (take-append-drop (n + 1) messages)) ∙ mail_writes-append 0 (take (n + 1) messages) (drop (n + 1) messages),
  )

  module _ {f g h : ℕ} {a b c : Option (List Call)} where
    pub mail_written : Did f g a b (writes_plan (mail_writes 0 (take n messages))) (Ok tt) → Did g h b c (write_plan n (get_or messages n d)) (Ok tt) → Did f h a c (writes_plan (mail_writes 0 (take (n + 1) messages))) (Ok tt)
    mail_written before mail = rw mail_writes-more (did_writes _ _ before (one_write _ _ _ mail))

    pub mail_failed : (fault : ImageFault) → Did f g a b (writes_plan (mail_writes 0 (take n messages))) (Ok tt) → Did g h b c (write_plan n (get_or messages n d)) (Err fault) → Did f h a c (writes_plan (mail_writes 0 messages)) (Err fault)
    mail_failed fault before mail =
        let so_far : Did f h a c (writes_plan (mail_writes 0 (take (n + 1) messages))) (Err fault) = rw mail_writes-more (did_writes _ _ before (one_write _ _ _ mail)) in
        rw mail_writes-rest.1 (did_writes_fault _ mail_writes-rest.0 so_far)

module _ (found : List Message) (rank nodes : ℕ) (counted : length found ≡ rank) where
  -- what follows the mailbox of this rank
  abbrev go_on : Mail → Plan (Result (List Message) ImageFault)
  go_on mail = mailboxes_plan (found ++ mail.message ∷ []) (nodes - (rank + 1))

  mailboxes_plan-more : rank < nodes → mailboxes_plan found (nodes - rank) ≡ mail_plan 1 rank >>= or_fault go_on
  unfolding mailboxes_plan
  mailboxes_plan-more more =
      let left : nodes - rank ≡ suc (nodes - (rank + 1)) = omega arith in
      ap (λ n. mailboxes_plan found n) left ∙ ap (λ r. mail_plan 1 r >>= or_fault go_on) counted

  mailboxes_plan-over : nodes ≤ rank → mailboxes_plan found (nodes - rank) ≡ Ends (Ok found)
  unfolding mailboxes_plan
  mailboxes_plan-over over =
      let left : nodes - rank ≡ 0 = omega arith in ap (λ n. mailboxes_plan found n) left

  module _ {f g : ℕ} {a b : Option (List Call)} {whole : Plan (Result (List Message) ImageFault)} (so_far : At f g a b whole (mailboxes_plan found (nodes - rank))) where
    -- a mailbox was read
    pub one_more : {h : ℕ} {c : Option (List Call)} → rank < nodes → (mail : Mail) → Did g h b c (mail_plan 1 rank) (Ok mail) → At f h a c whole (mailboxes_plan (found ++ mail.message ∷ []) (nodes - (rank + 1)))
    one_more more mail read = at_then (or_fault go_on) (rw (mailboxes_plan-more more) at so_far) read

    -- a mailbox could not be read
    pub unread_mail : {h : ℕ} {c : Option (List Call)} → rank < nodes → (fault : ImageFault) → Did g h b c (mail_plan 1 rank) (Err fault) → Did f h a c whole (Err fault)
    unread_mail more fault read =
        at_end (rw (mailboxes_plan-more more) at so_far) (faulted (mail_plan 1 rank) go_on read)

    -- every mailbox was read
    pub all_read : nodes ≤ rank → Did f g a b whole (Ok found)
    all_read over = at_end (rw (mailboxes_plan-over over) at so_far) (did_none _ _ _)
