-- Each kind of a value is read back.
use Rattle.std.proofs.Common.{◌≡◌, ◌≤◌, ℕ, ◌<◌, ◌&&◌, ◌==◌, ◌^◌, true, false, Bool, List, [], ◌∷◌, Option, Some, None, option_and_then, option_map, length, refl, ap, ap₂, ◌∙◌, decimal, arith, nat_le, nat_lt, if◌then◌else◌}
use Rattle.std.proofs.lemmas.Bool.{le-leb, lt-ltb}
use Rattle.std.proofs.lemmas.Bool.Decides.{nat_tests}
use Rattle.json.specs.Json.{Json, boolean, number, string, array}
use Rattle.json.specs.Find.{as_bool}
use Rattle.qn_base.specs.declared.ids.NodeId.{NodeId}
use Rattle.qn_base.specs.lemmas.Decimals.{number_of-decimal}
use Rattle.qn_model.specs.declared.disk.Message.TheVariants as message
use Rattle.qn_model.specs.declared.life.Phase.{Phase}
use Rattle.qn_model.specs.declared.life.Phase.TheVariants.{Booting, Up, Leaving, Dying, Gone}
use Rattle.qn_names.specs.PhaseNames.{phase_name}
use Rattle.qn_shown.specs.declared.group.Group.{Group}
use Rattle.qn_shown.specs.declared.group.Group.TheVariants.{NoGroup, Down, Looking, Starting, Runs, Unsure, Stopping, Failed, Stuck, Maintenance, Unattended}
use Rattle.qn_shown.specs.declared.shown.Candidate.{Candidate}
use Rattle.qn_shown.specs.declared.shown.Candidate.TheVariants as candidate
use Rattle.qn_shown.specs.declared.words.DeviceAnswer.{DeviceAnswer}
use Rattle.qn_shown.specs.declared.words.DeviceAnswer.TheVariants.{Yes, No, Silent}
use Rattle.qn_shown.specs.declared.words.MailState.{MailState}
use Rattle.qn_shown.specs.declared.words.MailState.TheVariants.{Holds, Damaged, Failed, Unread}
use Rattle.qn_shown.specs.Fits.{AllOf, CandidateFits, Fits, IsId, OnValue, Within}
use Rattle.qn_shown.specs.Groups.{group_number, group_of}
use Rattle.qn_shown.specs.Kinds.{device_answer_in, id_in, id_of, mail_in, period_in, period_of, phase_in, said_group, text_in, text_of, time_in, time_text, told_group_in, weight_in, weight_of, whole_in}
use Rattle.qn_shown.specs.Reading.{◌<*>◌, all_in, candidate_of, few, group_if_there, if_there, list_in, named_by, or_null}
use Rattle.qn_shown.specs.Spelling.{candidate_json, group_json, id_json, items_of, json_or_null, whole}
use Rattle.qn_shown.specs.Words.{answer_word, mail_word}
use Rattle.qn_shown.proofs.Times.{time_back}

pub whole_back : (n : ℕ) → Fits n → whole_in (whole n) ≡ Some n
whole_back n fits = number_of-decimal n fits

pub id_back : (id : NodeId) → IsId id → id_in (id_json id) ≡ Some id
id_back id is =
    let fits : id.0 < 2 ^ 64 = omega (arith, is.1) in
    ap (option_and_then id_of) (whole_back id.0 fits)
    ∙ ap (λ test. if test then Some id else None) (ap₂ (λ a b. a && b) (lt-ltb 0 id.0 is.0) (lt-ltb id.0 (2 ^ 32) is.1))

pub period_back : (n : ℕ) → n ≤ 3600000 → period_in (whole n) ≡ Some n
period_back n short =
    ap (option_and_then period_of) (whole_back n (omega (arith, short))) ∙ ap (λ test. if test then Some n else None) (le-leb n 3600000 short)

pub weight_back : (n : ℕ) → n ≤ 254 → weight_in (whole n) ≡ Some n
weight_back n small =
    ap (option_and_then weight_of) (whole_back n (omega (arith, small))) ∙ ap (λ test. if test then Some n else None) (le-leb n 254 small)

-- an id that is read is a number above 0
named_back : (id : NodeId) → IsId id → named_by id.0 ≡ Some (candidate.Named id)
named_back id is =
    let known : id_of id.0 ≡ Some id = ap (λ test. if test then Some id else None) (ap₂ (λ a b. a && b) (lt-ltb 0 id.0 is.0) (lt-ltb id.0 (2 ^ 32) is.1)) in
    ap (λ test. if test then Some candidate.Nobody else option_map (λ id. candidate.Named id) (id_of id.0)) (no_zero id.0 is.0)
    ∙ ap (option_map (λ id. candidate.Named id)) known
  where
    no_zero : (n : ℕ) → 0 < n → (n == 0) ≡ false
    no_zero n positive = grind (arith, nat_tests)

pub candidate_back : (candidate : Candidate) → CandidateFits candidate → candidate_of (candidate_json candidate) ≡ Some candidate
candidate_back candidate.Unsaid fits = refl
candidate_back candidate.Unnamed fits = refl
candidate_back candidate.Nobody fits = ap (option_and_then named_by) (whole_back 0 (omega arith))
candidate_back (candidate.Named id) fits = ap (option_and_then named_by) (whole_back id.0 (omega (arith, fits.1))) ∙ named_back id fits

pub device_answer_back : (answer : DeviceAnswer) → device_answer_in (string (answer_word answer)) ≡ Some answer
device_answer_back Yes = refl
device_answer_back No = refl
device_answer_back Silent = refl

pub text_back : (most : ℕ) (text : List ℕ) → Within most text → text_in most (string text) ≡ Some text
text_back most text within = ap (λ test. if test then Some text else None) (le-leb (length text) most within)

pub phase_back : (phase : Phase) → phase_in (string (phase_name phase)) ≡ Some phase
phase_back Booting = refl
phase_back Up = refl
phase_back Leaving = refl
phase_back Dying = refl
phase_back Gone = refl

pub mail_back : (mail : MailState) → mail_in (string (mail_word mail)) ≡ Some mail
mail_back (Holds message.Empty) = refl
mail_back (Holds message.Test) = refl
mail_back (Holds message.Reset) = refl
mail_back (Holds message.Off) = refl
mail_back (Holds message.Exit) = refl
mail_back (Holds message.Crashdump) = refl
mail_back Damaged = refl
mail_back Failed = refl
mail_back Unread = refl

pub group_number_fits : (group : Group) → group_number group ≤ 10
group_number_fits NoGroup = omega arith
group_number_fits Down = omega arith
group_number_fits Looking = omega arith
group_number_fits Starting = omega arith
group_number_fits Runs = omega arith
group_number_fits Unsure = omega arith
group_number_fits Stopping = omega arith
group_number_fits Failed = omega arith
group_number_fits Stuck = omega arith
group_number_fits Maintenance = omega arith
group_number_fits Unattended = omega arith

pub group_of_back : (group : Group) → group_of (group_number group) ≡ Some group
group_of_back NoGroup = refl
group_of_back Down = refl
group_of_back Looking = refl
group_of_back Starting = refl
group_of_back Runs = refl
group_of_back Unsure = refl
group_of_back Stopping = refl
group_of_back Failed = refl
group_of_back Stuck = refl
group_of_back Maintenance = refl
group_of_back Unattended = refl

pub told_group_back : (group : Group) → told_group_in (whole (group_number group)) ≡ Some group
told_group_back group =
    let small = group_number_fits group in
    ap (option_and_then group_of) (whole_back (group_number group) (omega (arith, small))) ∙ group_of_back group

pub host_group_back : (group : Group) → group_if_there (group_json group) ≡ Some group
host_group_back NoGroup = refl
host_group_back Down = ap (option_and_then said_group) (told_group_back Down)
host_group_back Looking = ap (option_and_then said_group) (told_group_back Looking)
host_group_back Starting = ap (option_and_then said_group) (told_group_back Starting)
host_group_back Runs = ap (option_and_then said_group) (told_group_back Runs)
host_group_back Unsure = ap (option_and_then said_group) (told_group_back Unsure)
host_group_back Stopping = ap (option_and_then said_group) (told_group_back Stopping)
host_group_back Failed = ap (option_and_then said_group) (told_group_back Failed)
host_group_back Stuck = ap (option_and_then said_group) (told_group_back Stuck)
host_group_back Maintenance = ap (option_and_then said_group) (told_group_back Maintenance)
host_group_back Unattended = refl

pub time_in_back : (ms : ℕ) → Fits ms → time_in (number (time_text ms)) ≡ Some ms
time_in_back ms fits = time_back ms fits

-- a value, or null
pub null_back : {A : Type 0} {P : A → Type 0} (spells : A → Json) (reads : Json → Option A) → ((a : A) → P a → reads (spells a) ≡ Some a)
    → ((a : A) → or_null reads (spells a) ≡ option_map (λ x. Some x) (reads (spells a)))
    → (o : Option A) → OnValue P o → or_null reads (json_or_null spells o) ≡ Some o
null_back spells reads back is_some None fits = refl
null_back spells reads back is_some (Some a) fits = is_some a ∙ ap (option_map (λ x. Some x)) (back a fits)

-- a value, or none where its key is left out
pub there_back : {A : Type 0} {P : A → Type 0} (spells : A → Json) (reads : Json → Option A) → ((a : A) → P a → reads (spells a) ≡ Some a)
    → (o : Option A) → OnValue P o → if_there reads (option_map spells o) ≡ Some o
there_back spells reads back None fits = refl
there_back spells reads back (Some a) fits = ap (option_map (λ x. Some x)) (back a fits)

-- a function and its value, where both were read
pub both : {A B : Type 0} (f : Option (A → B)) (g : A → B) (x : Option A) (a : A) → f ≡ Some g → x ≡ Some a → (f <*> x) ≡ Some (g a)
both f g x a same known = rw (same, known) refl

pub all_back : {A : Type 0} {P : A → Type 0} (spells : A → Json) (reads : Json → Option A) → ((a : A) → P a → reads (spells a) ≡ Some a)
    → (xs : List A) → AllOf P xs → all_in reads (items_of spells xs) ≡ Some xs
all_back spells reads back [] fit = refl
all_back spells reads back (a ∷ xs) fit =
    both _ _ _ xs (both (Some (λ first rest. first ∷ rest)) _ _ a refl (back a fit.0)) (all_back spells reads back xs fit.1)

pub list_back : {A : Type 0} {P : A → Type 0} (spells : A → Json) (reads : Json → Option A) → ((a : A) → P a → reads (spells a) ≡ Some a)
    → (xs : List A) → AllOf P xs → length xs ≤ 32 → list_in reads (array (items_of spells xs)) ≡ Some xs
list_back spells reads back xs fit few_enough =
    ap (option_and_then few) (all_back spells reads back xs fit) ∙ ap (λ test. if test then Some xs else None) (le-leb (length xs) 32 few_enough)
