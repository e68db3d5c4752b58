-- The words of a status file that stand for a value. This project's profile.
use Rattle.std.specs.Prelude.{ℕ, List, [], ◌∷◌, Option, codes}
use Rattle.std.specs.List.{find}
use Rattle.std.specs.Str.{bytes_eq}
use Rattle.qn_model.specs.declared.disk.Message.TheVariants as message
use Rattle.qn_model.specs.declared.life.Phase.{Phase}
use Rattle.qn_model.specs.declared.life.Phase.TheVariants.{Booting, Up, Leaving, Dying, Gone}
use Rattle.qn_model.specs.Messages.{message_name}
use Rattle.qn_names.specs.PhaseNames.{phase_name}
use Rattle.qn_shown.specs.declared.words.DeviceAnswer.{DeviceAnswer}
use Rattle.qn_shown.specs.declared.words.DeviceAnswer.TheVariants.{Yes, No, Silent}
use Rattle.qn_shown.specs.declared.words.MailState.{MailState}
use Rattle.qn_shown.specs.declared.words.MailState.TheVariants.{Holds, Damaged, Failed, Unread}

-- the word of what a mailbox held
abbrev pub mail_word : MailState → List ℕ
mail_word (Holds found) = message_name found
mail_word Damaged = codes "damaged"
mail_word Failed = codes "failed"
mail_word Unread = codes "unread"

abbrev pub mail_states : List MailState
mail_states =
    Holds message.Empty ∷ Holds message.Test ∷ Holds message.Reset ∷ Holds message.Off ∷ Holds message.Exit ∷ Holds message.Crashdump
    ∷ Damaged ∷ Failed ∷ Unread ∷ []

abbrev pub phases : List Phase
phases = Booting ∷ Up ∷ Leaving ∷ Dying ∷ Gone ∷ []

-- the word of what an arbiter answered
abbrev pub answer_word : DeviceAnswer → List ℕ
answer_word Yes = codes "yes"
answer_word No = codes "no"
answer_word Silent = codes "none"

-- the value of a word
abbrev pub mail_named : List ℕ → Option MailState
mail_named word = find (λ mail. bytes_eq word (mail_word mail)) mail_states

abbrev pub phase_named : List ℕ → Option Phase
phase_named word = find (λ phase. bytes_eq word (phase_name phase)) phases

abbrev pub answer_named : List ℕ → Option DeviceAnswer
answer_named word = find (λ answer. bytes_eq word (answer_word answer)) (Yes ∷ No ∷ Silent ∷ [])
