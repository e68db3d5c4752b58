-- How a node ended whose calls did not fail, and what settings it was given.
use Rattle.std.proofs.Common.{◌≡◌, ◌≢◌, ◌⊎◌, inl, inr, ℕ, Bool, true, false, List, [], ◌∷◌, ◌++◌, Option, None, Some, Result, Ok, Err, IfOk, IfSome, refl, sym, ap, subst, if◌then◌else◌}
use Rattle.std.specs.Option.{option_map_or}
use Rattle.std.specs.Io.KnownBytes.{IsAtEnd}
use Rattle.std.proofs.lemmas.Result.{IfOk-weaker}
use Rattle.qn_base.specs.declared.calls.Call.{Call}
use Rattle.qn_base.specs.declared.calls.Call.TheVariants.{OpenImage, OpenNode, Now, Receive, Read, Write, Feed, Start, Stop, Send, Disarm, Halt}
use Rattle.qn_base.specs.Calls.{blank, is_failed, some_failed}
use Rattle.qn_base.specs.Plans.{Plan, Ends, Asks, Follows}
use Rattle.qn_base.specs.lemmas.Bools.{first_of_neither, second_of_neither}
use Rattle.qn_live.specs.Running.{Ran}
use Rattle.qn_live.specs.Laws.{NeverFalls, tick_after}
use Rattle.qn_model.specs.declared.configuration.Settings.{Settings}
use Rattle.qn_model.specs.Lines.{Ended}
use Rattle.qn_running.specs.declared.commands.node.NodeWords.{NodeWords}
use Rattle.qn_live.specs.declared.node_images.NodeImages.{NodeImages}
use Rattle.qn_commands.specs.declared.fault.Fault.{Fault}
use Rattle.qn_commands.specs.declared.fault.Fault.TheVariants.{EnvFault, UnknownNode}
use Rattle.qn_running.specs.Commands.Node.{EndsUndisturbed, EndsWithCause, node_plan, node_work, opened_work, opening, rank_with, run_end, run_work}
use Rattle.qn_commands.specs.Endings.{AnswersWhole, Cut, Says, Whole}
use Rattle.qn_commands.specs.Faults.{status_of}
use Rattle.qn_commands.specs.InputSettings.{IsWanted, Judges, input_settings}
use Rattle.qn_running.specs.NodeTexts.{end_outcome}
use Rattle.qn_commands.specs.Reads.{Tells}
use Rattle.qn_commands.specs.RunLaws.{known_whole, tells_all}
use Rattle.qn_commands.specs.Seen.{CallFails, Input, Output, ReadFails, Seen, WriteFails}
use Rattle.qn_commands.specs.Works.{Performs, Work, Works, after_plan, refusal}
use Rattle.qn_commands.specs.SettingsLaws.{refused_settings}

-- ## The settings that were given

if_some_map : {A : Type 0} {P Q : A → Type 0} (value : Option A) → ((a : A) → P a → Q a) → IfSome value P → IfSome value Q
if_some_map None maps holds = tt
if_some_map (Some a) maps holds = maps a holds

if_some_all : {A P : Type 0} (value : Option A) → ((a : A) → value ≡ Some a → P) → IfSome value (λ a. P)
if_some_all None holds = tt
if_some_all (Some a) holds = holds a refl

judged_settings : (before after : Input) (settings : Settings) → Judges input_settings before after (Ok settings) → ¬ ReadFails before after
    → IfSome before.left (λ bytes. input_settings Ended bytes ≡ Ok settings)
judged_settings before after settings judges no_read =
    known_whole (λ bytes. input_settings Ended bytes ≡ Ok settings) before.left after.left judges.read judges.takes
    (λ rest bytes left parts. of_judged rest bytes left parts judges.judged)
  where
    of_judged : (rest bytes : List ℕ) → after.left ≡ Some rest → bytes ≡ judges.read ++ rest
        → IsWanted {A = Settings} (Ok settings) ⊎ Tells input_settings judges.read (IsAtEnd after.left) (ReadFails before after) (λ answer. answer ≡ Ok settings)
        → input_settings Ended bytes ≡ Ok settings
    of_judged rest bytes left parts (inl (inl wanted)) = absurd cc
    of_judged rest bytes left parts (inl (inr wanted)) = absurd cc
    of_judged rest bytes left parts (inr tells) =
        tells_all input_settings judges.read rest bytes (Ok settings) parts
        (subst (λ (l : Option (List ℕ)). IsAtEnd l → rest ≡ []) (sym left) (λ ended. ended)) no_read tells

module _ (P : Type 0) (words : NodeWords) (before after : Input) where
  -- good settings: what holds where they have the id
  pub good_settings : (settings : Settings) → Judges input_settings before after (Ok settings) → ¬ ReadFails before after
      → ((rank : ℕ) → rank_with settings words.id ≡ Some rank → P)
      → IfSome before.left (λ bytes. IfOk (input_settings Ended bytes) (λ given. IfSome (rank_with given words.id) (λ rank. P)))
  good_settings settings judges no_read holds =
      if_some_map before.left
      (λ bytes same. subst (λ (given : Result Settings Fault). IfOk given (λ own. IfSome (rank_with own words.id) (λ rank. P))) (sym same)
      (if_some_all (rank_with settings words.id) holds))
      (judged_settings before after settings judges no_read)

  -- settings with a fault are not good ones
  pub bad_settings : (why : Fault) → Judges input_settings before after (Err why) → status_of why ≢ 11 → ¬ ReadFails before after
      → IfSome before.left (λ bytes. IfOk (input_settings Ended bytes) (λ given. IfSome (rank_with given words.id) (λ rank. P)))
  bad_settings why judges memory no_read =
      if_some_map before.left (λ bytes none. IfOk-weaker (input_settings Ended bytes) _ _ (λ given never. absurd never) none)
      (refused_settings ⊥ before after why judges memory no_read)

-- ## The end of a run

module _ (images : NodeImages) (words : NodeWords) (polls : Option ℕ) (settings : Settings) where
  pub unknown_work : None ≡ rank_with settings words.id → node_work images words polls settings ≡ refusal (UnknownNode words.id)
  unfolding node_work
  unknown_work none = ap (λ place. option_map_or (opened_work images words polls settings) place (refusal (UnknownNode words.id))) (sym none)

  pub known_work : (rank : ℕ) → Some rank ≡ rank_with settings words.id → node_work images words polls settings ≡ opened_work images words polls settings rank
  unfolding node_work
  known_work rank some = ap (λ place. option_map_or (opened_work images words polls settings) place (refusal (UnknownNode words.id))) (sym some)

-- a run that was performed ended with a line
pub record Performed (plan : Plan Ran) (turns : ℕ) (calls : List Call) (before after : Output) (code : ℕ) : Type 0 where
  pub ran : Ran
  pub follows : Follows plan calls ran
  pub says : Says (end_outcome turns ran.end).text (end_outcome turns ran.end).status before after code

pub performed : (plan : Plan Ran) (turns : ℕ) (calls : List Call) (before after : Output) (code : ℕ)
    → Performs (after_plan plan (run_end turns)) calls before after code → Performed plan turns calls before after code
performed (Ends ran) turns calls before after code did = record { ran = ran; follows = (did.0, refl); says = did.1 }
performed (Asks question left) turns [] before after code did = absurd did
performed (Asks question left) turns (call ∷ calls) before after code did =
    let more = performed (left call) turns calls before after code did.1 in
    record { ran = more.ran; follows = (did.0, more.follows); says = more.says }

said_whole : (text : List ℕ) (wanted : ℕ) (before after : Output) (code : ℕ) → ¬ WriteFails before after → Says text wanted before after code
    → AnswersWhole (record { text = text; status = wanted }) before after code
said_whole text wanted before after code no_write (Whole is whole) = (is, whole)
said_whole text wanted before after code no_write (Cut is fails front) = absurd (no_write fails)

not_risen : {rises : Type 0} (failing : Bool) → (failing ≡ true → rises) → (rises → ⊥) → failing ≡ false
not_risen true cause calm = absurd (calm (cause refl))
not_risen false cause calm = refl

module _ (images : NodeImages) (words : NodeWords) (rank : ℕ) where
  -- the opening tells no tick
  pub opening_tells_none : (call : Call) → blank call ≡ opening images words rank true → tick_after call 0 ≡ 0
  opening_tells_none (OpenNode images image watchdog resource port own ok) asked = refl
  opening_tells_none (OpenImage path ok) asked = refl
  opening_tells_none (Now tick) asked = absurd cc
  opening_tells_none (Receive got) asked = refl
  opening_tells_none (Read sector bytes ok) asked = refl
  opening_tells_none (Write sector bytes ok) asked = refl
  opening_tells_none (Feed ok) asked = refl
  opening_tells_none (Start ok) asked = refl
  opening_tells_none (Stop ok) asked = refl
  opening_tells_none (Send to bytes ok) asked = refl
  opening_tells_none (Disarm ok) asked = refl
  opening_tells_none (Halt code) asked = refl

  module _ (polls : Option ℕ) (settings : Settings) (law : EndsWithCause images words polls settings rank) (before after : Output) (code : ℕ) where
    opened_ends : (calls : List Call) → Performs (opened_work images words polls settings rank) calls before after code → some_failed calls ≡ false
        → NeverFalls 0 calls → ¬ WriteFails before after → EndsUndisturbed words.turns before after code
    unfolding opened_work run_work
    opened_ends [] did whole rises no_write = absurd did
    opened_ends (call ∷ calls) did whole rises no_write =
        let ran_on : Performs (run_work images words polls settings rank) calls before after code =
        subst (λ (failing : Bool). Performs (if failing then refusal EnvFault else run_work images words polls settings rank) calls before after code)
        (first_of_neither (is_failed call) (some_failed calls) whole) did.1 in
        let run = performed (node_plan images words polls settings rank) words.turns calls before after code ran_on in
        record {
          end = run.ran.end;
          no_call = law.call calls run.ran run.follows
              (second_of_neither (is_failed call) (some_failed calls) whole);
          no_clock = law.clock calls run.ran run.follows
              (subst (λ (last : ℕ). NeverFalls last calls) (opening_tells_none call did.0) rises.1);
          answers = said_whole (end_outcome words.turns run.ran.end).text (end_outcome words.turns run.ran.end).status before after code no_write run.says;
        }

-- no call failed and no tick fell: the end is one that comes so
pub undisturbed_node : {before after : Seen} {code : ℕ} (images : NodeImages) (words : NodeWords) (polls : Option ℕ) (settings : Settings) (rank : ℕ)
    → EndsWithCause images words polls settings rank → rank_with settings words.id ≡ Some rank → (works : Works (node_work images words polls settings) before after code)
    → ¬ WriteFails before.output after.output → ¬ CallFails before.env after.env → NeverFalls 0 works.calls
    → EndsUndisturbed words.turns before.output after.output code
undisturbed_node {before} {after} {code} images words polls settings rank law some works no_write no_call rises =
    opened_ends images words rank polls settings law before.output after.output code works.calls
    (subst (λ (work : Work). Performs work works.calls before.output after.output code) (known_work images words polls settings rank (sym some)) works.performs)
    (not_risen (some_failed works.calls) works.made.cause no_call) rises no_write
