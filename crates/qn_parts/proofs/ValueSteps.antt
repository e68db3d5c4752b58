-- What the values of parts give together, by one value more.
use Rattle.std.proofs.Common.{◌≡◌, ℕ, ◌+◌, suc, zero, List, [], ◌∷◌, ◌++◌, length, drop, Some, None, refl, sym, ◌∙◌, ap, arith, if◌then◌else◌}
use Rattle.std.specs.Prelude.{Option, option_to_list, slice_get}
use Rattle.std.specs.Option.{option_map_or}
use Rattle.qn_model.specs.declared.disk.Message.{Message}
use Rattle.qn_model.specs.declared.disk.Message.TheVariants as message
use Rattle.qn_model.specs.declared.disk.Slot.{Slot}
use Rattle.qn_model.specs.declared.entries.What.{What}
use Rattle.qn_model.specs.declared.entries.What.TheVariants as what
use Rattle.qn_model.specs.declared.seen.MailSeen.TheVariants as mail
use Rattle.qn_model.specs.declared.seen.SlotSeen.{SlotSeen}
use Rattle.qn_model.specs.declared.seen.SlotSeen.TheVariants as slot
use Rattle.qn_parts.specs.Parts.{message_in, slot_in, stronger}
use Rattle.qn_safety.specs.TripleWorld.{highest, is_above, message_among, messages_among, slot_among, slots_among}

-- the values from a place on
from_place : {A : Type 0} (values : List A) (k : ℕ) (v : A) → slice_get values k ≡ Some v → drop k values ≡ v ∷ drop (k + 1) values
from_place [] k v e = absurd (cc)
from_place (first ∷ values) zero v e = let same : first ≡ v = cc in ap (λ x. x ∷ values) same
from_place (first ∷ values) (suc k) v e = from_place values k v e ∙ (let s : suc k + 1 ≡ suc (k + 1) = omega arith in ap (λ n. v ∷ drop n (first ∷ values)) (sym s))

past_end : {A : Type 0} (values : List A) → drop (length values) values ≡ []
past_end [] = refl
past_end (first ∷ values) = past_end values

-- ---- slots

slots_step : (v : What) (values : List What) → slots_among (v ∷ values) ≡ option_to_list (slot_in v) ++ slots_among values
slots_step (what.SlotRead other (slot.Read found)) values = refl
slots_step v values = refl

-- the highest one of the best slot so far and of those that follow
abbrev pub seen_with : Option Slot → List Slot → SlotSeen
seen_with None found = slot_among found
seen_with (Some best) found = slot.Read (highest best found)

found_next : (best : Option Slot) (next : Slot) (more : List Slot)
    → seen_with (Some (option_map_or (λ best. if is_above next best then next else best) best next)) more ≡ seen_with best (next ∷ more)
found_next None next more = refl
found_next (Some best) next more = refl

pub slot_more : (values : List What) (k : ℕ) (v : What) (best : Option Slot) (next : Slot) (seen : SlotSeen) → slice_get values k ≡ Some v
    → slot_in v ≡ Some next → seen_with best (slots_among (drop k values)) ≡ seen
    → seen_with (Some (option_map_or (λ best. if is_above next best then next else best) best next)) (slots_among (drop (k + 1) values)) ≡ seen
slot_more values k v best next seen at is before =
    found_next best next (slots_among (drop (k + 1) values))
    ∙ (ap (λ o. seen_with best (option_to_list o ++ slots_among (drop (k + 1) values))) (sym is)
    ∙ (ap (seen_with best) (sym (slots_step v (drop (k + 1) values)))
    ∙ (ap (λ rest. seen_with best (slots_among rest)) (sym (from_place values k v at)) ∙ before)))

pub slot_same : (values : List What) (k : ℕ) (v : What) (best : Option Slot) (seen : SlotSeen) → slice_get values k ≡ Some v
    → slot_in v ≡ None → seen_with best (slots_among (drop k values)) ≡ seen
    → seen_with best (slots_among (drop (k + 1) values)) ≡ seen
slot_same values k v best seen at is before =
    ap (λ o. seen_with best (option_to_list o ++ slots_among (drop (k + 1) values))) (sym is)
    ∙ (ap (seen_with best) (sym (slots_step v (drop (k + 1) values)))
    ∙ (ap (λ rest. seen_with best (slots_among rest)) (sym (from_place values k v at)) ∙ before))

pub slot_end : (values : List What) (best : Option Slot) (seen : SlotSeen) → seen_with best (slots_among (drop (length values) values)) ≡ seen → seen_with best [] ≡ seen
slot_end values best seen e = ap (λ rest. seen_with best (slots_among rest)) (sym (past_end values)) ∙ e

-- ---- messages

messages_step : (v : What) (values : List What) → messages_among (v ∷ values) ≡ option_to_list (message_in v) ++ messages_among values
messages_step (what.MailRead (mail.Read found)) values = refl
messages_step (what.MailChecked (mail.Read found)) values = refl
messages_step v values = refl

-- two messages tell with those that follow what the stronger one tells with them
both_told : (told found : Message) (more : List Message) → message_among (stronger told found ∷ more) ≡ message_among (told ∷ found ∷ more)
both_told message.Reset found more = refl
both_told message.Off found more = refl
both_told message.Crashdump found more = refl
both_told message.Empty message.Empty more = refl
both_told message.Empty message.Test more = refl
both_told message.Empty message.Reset more = refl
both_told message.Empty message.Off more = refl
both_told message.Empty message.Exit more = refl
both_told message.Empty message.Crashdump more = refl
both_told message.Test message.Empty more = refl
both_told message.Test message.Test more = refl
both_told message.Test message.Reset more = refl
both_told message.Test message.Off more = refl
both_told message.Test message.Exit more = refl
both_told message.Test message.Crashdump more = refl
both_told message.Exit message.Empty more = refl
both_told message.Exit message.Test more = refl
both_told message.Exit message.Reset more = refl
both_told message.Exit message.Off more = refl
both_told message.Exit message.Exit more = refl
both_told message.Exit message.Crashdump more = refl

pub told_first : (found : List Message) → message_among (message.Empty ∷ found) ≡ message_among found
told_first found = refl

told_alone : (told : Message) → message_among (told ∷ []) ≡ told
told_alone message.Empty = refl
told_alone message.Test = refl
told_alone message.Reset = refl
told_alone message.Off = refl
told_alone message.Exit = refl
told_alone message.Crashdump = refl

pub message_more : (values : List What) (k : ℕ) (v : What) (told next seen : Message) → slice_get values k ≡ Some v → message_in v ≡ Some next
    → message_among (told ∷ messages_among (drop k values)) ≡ seen
    → message_among (stronger told next ∷ messages_among (drop (k + 1) values)) ≡ seen
message_more values k v told next seen at is before =
    both_told told next (messages_among (drop (k + 1) values))
    ∙ (ap (λ o. message_among (told ∷ (option_to_list o ++ messages_among (drop (k + 1) values)))) (sym is)
    ∙ (ap (λ found. message_among (told ∷ found)) (sym (messages_step v (drop (k + 1) values)))
    ∙ (ap (λ rest. message_among (told ∷ messages_among rest)) (sym (from_place values k v at)) ∙ before)))

pub message_same : (values : List What) (k : ℕ) (v : What) (told seen : Message) → slice_get values k ≡ Some v → message_in v ≡ None
    → message_among (told ∷ messages_among (drop k values)) ≡ seen
    → message_among (told ∷ messages_among (drop (k + 1) values)) ≡ seen
message_same values k v told seen at is before =
    ap (λ o. message_among (told ∷ (option_to_list o ++ messages_among (drop (k + 1) values)))) (sym is)
    ∙ (ap (λ found. message_among (told ∷ found)) (sym (messages_step v (drop (k + 1) values)))
    ∙ (ap (λ rest. message_among (told ∷ messages_among rest)) (sym (from_place values k v at)) ∙ before))

pub message_end : (values : List What) (told seen : Message) → message_among (told ∷ messages_among (drop (length values) values)) ≡ seen → told ≡ seen
message_end values told seen e =
    sym (told_alone told) ∙ (ap (λ rest. message_among (told ∷ messages_among rest)) (sym (past_end values)) ∙ e)
