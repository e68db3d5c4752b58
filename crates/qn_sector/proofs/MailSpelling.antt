-- A sector is read as a mailbox exactly where it is the spelling of that mailbox.
use Rattle.std.proofs.Common.{◌≡◌, ◌≢◌, ◌≤◌, List, ℕ, false, ◌==◌, ◌++◌, Option, None, Some, IfSome, IfNone, option_and_then, slice_index, if◌then◌else◌, refl, sym, ap, ◌∙◌, arith}
use Rattle.std.specs.Int.{bytes_high_first}
use Rattle.std.specs.Str.{bytes_eq}
use Rattle.std.proofs.lemmas.Slice.Eq.{bytes_eq-Decides}
use Rattle.byteorder.specs.Numbers.{big_number-reads_back}
use Rattle.qn_base.specs.lemmas.Options.{some_if_true, true_if_some}
use Rattle.qn_model.specs.declared.disk.Message.{Message}
use Rattle.qn_model.specs.declared.disk.Message.TheVariants.{Empty, Test, Reset, Off, Exit, Crashdump}
use Rattle.qn_model.specs.declared.mailbox.Mail.{Mail}
use Rattle.qn_model.specs.declared.mailbox.Sender.{Sender}
use Rattle.qn_model.specs.Sectors.{IsSender, anonymous, mail_bytes, mail_bytes_1, message_code, zeros}
use Rattle.qn_sector.specs.Reading.{SpellsMail, if_spelled, mail_of, mail_of_1, message_of, nobodys, sender_at}

-- a message is read from its byte
message_of-message_code : (message : Message) → message_of (message_code message) ≡ Some message
message_of-message_code Empty = refl
message_of-message_code Test = refl
message_of-message_code Reset = refl
message_of-message_code Off = refl
message_of-message_code Exit = refl
message_of-message_code Crashdump = refl

not_zero : (n : ℕ) → 1 ≤ n → (n == 0) ≡ false
not_zero n some = grind arith

-- the sender that stands in the bytes of some numbers
sender_of_numbers : (id read_id incarnation read_incarnation : ℕ) → 1 ≤ id → read_id ≡ id → read_incarnation ≡ incarnation → ◌≡◌ {A = Option Sender} (if read_id == 0 then None else Some (record { id = record { 0 = read_id }; incarnation = read_incarnation })) (Some (record { id = record { 0 = id }; incarnation = incarnation }))
sender_of_numbers id read_id incarnation read_incarnation some same_id same_incarnation =
    rw (same_id, same_incarnation, not_zero id some) refl

-- a sender is read from its bytes
sender_at-mail_bytes : (message : Message) (by : Option Sender) → IfSome by IsSender → sender_at (mail_bytes (record { message = message; by = by })) ≡ by
unfolding mail_bytes
sender_at-mail_bytes message None is = refl
sender_at-mail_bytes message (Some sender) is =
    sender_of_numbers sender.id.0 _ sender.incarnation _ is.some_id (big_number-reads_back 4 sender.id.0 (bytes_high_first 8 sender.incarnation ++ zeros 492) is.id_fits) (big_number-reads_back 8 sender.incarnation (zeros 492) is.incarnation_fits)

code_at-mail_bytes : (mail : Mail) → slice_index (mail_bytes mail) 4 ≡ message_code mail.message
unfolding mail_bytes
code_at-mail_bytes mail = refl

-- what a sector is read as, once these fields were taken from it
judged : (sector : List ℕ) (mail : Mail) (read : Option Message) (by : Option Sender) → read ≡ Some mail.message → by ≡ mail.by → sector ≡ mail_bytes mail → option_and_then (λ message. if_spelled sector (record { message = message; by = by })) read ≡ Some mail
judged sector mail read by same_message same_by spelled =
    rw (same_message, same_by) (some_if_true (bytes_eq (mail_bytes mail) sector) mail ((bytes_eq-Decides (mail_bytes mail) sector).1 (sym spelled)))

-- a spelling is read as what it spells
pub mail_of-spelling : (sector : List ℕ) (mail : Mail) → SpellsMail sector mail → mail_of sector ≡ Some mail
unfolding mail_of
mail_of-spelling sector mail spells =
    let message : message_of (slice_index sector 4) ≡ Some mail.message =
    ap (λ bytes. message_of (slice_index bytes 4)) spells.bytes
    ∙ ap message_of (code_at-mail_bytes mail)
    ∙ message_of-message_code mail.message in
    let by : sender_at sector ≡ mail.by =
    ap sender_at spells.bytes ∙ sender_at-mail_bytes mail.message mail.by spells.sender in
    judged sector mail (message_of (slice_index sector 4)) (sender_at sector) message by spells.bytes

spelled_mail : (sector : List ℕ) (by : Option Sender) (read : Option Message) (mail : Mail) → option_and_then (λ message. if_spelled sector (record { message = message; by = by })) read ≡ Some mail → sector ≡ mail_bytes mail
spelled_mail sector by None mail is = cc
spelled_mail sector by (Some message) mail is =
    let found = true_if_some _ (record { message = message; by = by }) mail is in
    rw found.1 (sym ((bytes_eq-Decides _ _).0 found.0))

-- what is read as a mailbox is its spelling
mail_of-spells : (sector : List ℕ) (mail : Mail) → mail_of sector ≡ Some mail → sector ≡ mail_bytes mail
unfolding mail_of
mail_of-spells sector mail is = spelled_mail sector (sender_at sector) _ mail is

pub mail_found : (sector : List ℕ) (found : Option Mail) → found ≡ mail_of sector → IfSome found (λ mail. IfSome mail.by IsSender) → IfSome found (SpellsMail sector)
mail_found sector None is sender = tt
mail_found sector (Some mail) is sender = record { sender = sender; bytes = mail_of-spells sector mail (sym is) }

pub no_mail_found : (sector : List ℕ) (found : Option Mail) → found ≡ mail_of sector → IfNone found ((mail : Mail) → SpellsMail sector mail → ⊥)
no_mail_found sector None is = λ mail spells. let read = mail_of-spelling sector mail spells in cc
no_mail_found sector (Some mail) is = tt

-- a mailbox of version 1 is spelled as one of version 2 that names nobody
mail_bytes-anonymous : (message : Message) → mail_bytes (anonymous message) ≡ mail_bytes_1 message
unfolding mail_bytes mail_bytes_1
mail_bytes-anonymous message = refl

pub mail_of_1-mail_bytes_1 : (message : Message) → mail_of_1 (mail_bytes_1 message) ≡ Some message
unfolding mail_of_1
mail_of_1-mail_bytes_1 message =
    ap (λ sector. option_and_then nobodys (mail_of sector)) (sym (mail_bytes-anonymous message))
    ∙ ap (λ read. option_and_then nobodys read) (mail_of-spelling _ (anonymous message) (record { sender = tt; bytes = refl }))

nobodys_mail : (by : Option Sender) (held message : Message) → nobodys (record { message = held; by = by }) ≡ Some message → ◌≡◌ {A = Mail} (record { message = held; by = by }) (anonymous message)
nobodys_mail None held message is = let same : held ≡ message = cc in rw same refl
nobodys_mail (Some sender) held message is = cc

anonymous_mail : (sector : List ℕ) (read : Option Mail) (message : Message) → read ≡ mail_of sector → option_and_then nobodys read ≡ Some message → sector ≡ mail_bytes_1 message
anonymous_mail sector None message same is = cc
anonymous_mail sector (Some mail) message same is =
    mail_of-spells sector mail (sym same)
    ∙ ap mail_bytes (nobodys_mail mail.by mail.message message is)
    ∙ mail_bytes-anonymous message

mail_of_1-spells : (sector : List ℕ) (message : Message) → mail_of_1 sector ≡ Some message → sector ≡ mail_bytes_1 message
unfolding mail_of_1
mail_of_1-spells sector message is = anonymous_mail sector (mail_of sector) message refl is

pub mail_1_found : (sector : List ℕ) (found : Option Message) → found ≡ mail_of_1 sector → IfSome found (λ m. sector ≡ mail_bytes_1 m)
mail_1_found sector None is = tt
mail_1_found sector (Some message) is = mail_of_1-spells sector message (sym is)

pub no_mail_1_found : (sector : List ℕ) (found : Option Message) → found ≡ mail_of_1 sector → IfNone found ((m : Message) → sector ≢ mail_bytes_1 m)
no_mail_1_found sector None is =
    λ message spelled. let read : mail_of_1 sector ≡ Some message = rw spelled (mail_of_1-mail_bytes_1 message) in cc
no_mail_1_found sector (Some message) is = tt
