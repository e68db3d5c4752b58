-- Why a node ended with status 12 or 14.
use Rattle.std.proofs.Common.{◌≡◌, ◌⊎◌, inl, inr, ℕ, Bool, true, false, List, [], ◌∷◌, Option, None, Some, Ok, refl, sym, ap, subst, if◌then◌else◌, arith}
use Rattle.std.specs.Prelude.{IsSomeAnd}
use Rattle.std.specs.Option.{option_map_or}
use Rattle.qn_base.specs.declared.calls.Call.{Call}
use Rattle.qn_base.specs.Calls.{blank, is_failed, some_failed}
use Rattle.qn_base.specs.Plans.{Plan}
use Rattle.qn_live.specs.declared.live_end.LiveEnd.{LiveEnd}
use Rattle.qn_live.specs.declared.live_end.LiveEnd.TheVariants as end
use Rattle.qn_live.specs.EndLaws.{halted_failed}
use Rattle.qn_live.specs.Halts.{HaltedBy, one_call}
use Rattle.qn_live.specs.Laws.{NeverFalls, is_by_clock, is_no_failure}
use Rattle.qn_live.specs.TripleHalts.{three_calls}
use Rattle.qn_model.specs.declared.configuration.Settings.{Settings}
use Rattle.qn_model.specs.declared.outputs.BootCause.{BootCause}
use Rattle.qn_running.specs.declared.commands.node.NodeWords.{NodeWords}
use Rattle.qn_live.specs.declared.node_images.NodeImages.{NodeImages}
use Rattle.qn_live.specs.declared.node_images.NodeImages.TheVariants.{One, Three}
use Rattle.qn_commands.specs.declared.fault.Fault.TheVariants.{BootHalted, EnvFault, UnknownNode}
use Rattle.qn_running.specs.Commands.Node.{EndsWithCause, HaltedOn, HaltsBoot, node_plan, node_work, opened_work, opening, rank_with, run_work}
use Rattle.qn_commands.specs.Endings.{AnswersWhole, Cut, Says, Whole, refused}
use Rattle.qn_running.specs.NodeTexts.{end_outcome}
use Rattle.qn_commands.specs.Seen.{Output, Seen}
use Rattle.qn_commands.specs.Works.{Performs, Works, refusal}
use Rattle.qn_running.proofs.NodeEnds.{Performed, opening_tells_none, performed}

-- the node was opened by the first call, and ran with the others
record RanOn (images : NodeImages) (words : NodeWords) (polls : Option ℕ) (settings : Settings) (calls : List Call) (before after : Output) (code : ℕ) : Type 0 where
  rank : ℕ
  found : rank_with settings words.id ≡ Some rank
  first : Call
  more : List Call
  parts : calls ≡ first ∷ more
  asked : blank first ≡ opening images words rank true
  run : Performed (node_plan images words polls settings rank) words.turns more before after code

-- it was refused before, or it ran
abbrev Went : NodeImages → NodeWords → Option ℕ → Settings → List Call → Output → Output → ℕ → Type 0
Went images words polls settings calls before after code = (code ≡ 16) ⊎ (code ≡ 8) ⊎ (code ≡ 7) ⊎ RanOn images words polls settings calls before after code

said : {text : List ℕ} {wanted code : ℕ} {before after : Output} → Says text wanted before after code → (code ≡ wanted) ⊎ (code ≡ 7)
said (Whole is whole) = inl is
said (Cut is fails front) = inr is

module _ (images : NodeImages) (words : NodeWords) (polls : Option ℕ) (settings : Settings) (calls : List Call) (before after : Output) (code : ℕ) where
  refused_unknown : (code ≡ 16) ⊎ (code ≡ 7) → Went images words polls settings calls before after code
  refused_unknown (inl sixteen) = inl sixteen
  refused_unknown (inr seven) = inr (inr (inl seven))

  refused_opening : (code ≡ 8) ⊎ (code ≡ 7) → Went images words polls settings calls before after code
  refused_opening (inl eight) = inr (inl eight)
  refused_opening (inr seven) = inr (inr (inl seven))

went_opened : (images : NodeImages) (words : NodeWords) (polls : Option ℕ) (settings : Settings) (rank : ℕ) (calls : List Call) (before after : Output) (code : ℕ)
    → rank_with settings words.id ≡ Some rank → Performs (opened_work images words polls settings rank) calls before after code → Went images words polls settings calls before after code
unfolding opened_work run_work
went_opened images words polls settings rank [] before after code found did = absurd did
went_opened images words polls settings rank (call ∷ more) before after code found did = of_answer (is_failed call) did.1
  where
    of_answer : (failing : Bool) → Performs (if failing then refusal EnvFault else run_work images words polls settings rank) more before after code
        → Went images words polls settings (call ∷ more) before after code
    of_answer true refuses = refused_opening images words polls settings (call ∷ more) before after code (said refuses.1)
    of_answer false ran_on = inr (inr (inr (record {
      rank = rank;
      found = found;
      first = call;
      more = more;
      parts = refl;
      asked = did.0;
      run = performed (node_plan images words polls settings rank) words.turns more before after code ran_on;
    })))

went : (images : NodeImages) (words : NodeWords) (polls : Option ℕ) (settings : Settings) (calls : List Call) (before after : Output) (code : ℕ)
    → Performs (node_work images words polls settings) calls before after code → Went images words polls settings calls before after code
unfolding node_work
went images words polls settings calls before after code did = of_place (rank_with settings words.id) refl did
  where
    of_place : (place : Option ℕ) → rank_with settings words.id ≡ place → Performs (option_map_or (opened_work images words polls settings) place (refusal (UnknownNode words.id))) calls before after code
        → Went images words polls settings calls before after code
    of_place None none refuses = refused_unknown images words polls settings calls before after code (said refuses.1)
    of_place (Some rank) found opens = went_opened images words polls settings rank calls before after code found opens

-- status 12 is that of a clock
of_clock : (turns : ℕ) (end : LiveEnd) (code : ℕ) → (code ≡ (end_outcome turns end).status) ⊎ (code ≡ 7) → code ≡ 12 → is_by_clock end ≡ true
of_clock turns (end.Turns phase holds answer why) code (inl is) twelve = absurd (omega arith)
of_clock turns (end.Left clean) code (inl is) twelve = absurd (omega arith)
of_clock turns (end.ClockBack before now) code (inl is) twelve = refl
of_clock turns (end.SelfReset message) code (inl is) twelve = absurd (omega arith)
of_clock turns (end.BootHalted cause) code (inl is) twelve = absurd (omega arith)
of_clock turns end code (inr seven) twelve = absurd (omega arith)

-- status 14 is that of a boot that was halted, and its line was written whole
record Halts (turns : ℕ) (ended : LiveEnd) (before after : Output) (code : ℕ) : Type 0 where
  cause : BootCause
  is : ended ≡ end.BootHalted cause
  answers : AnswersWhole (refused (BootHalted cause)) before after code

of_halt : (turns : ℕ) (end : LiveEnd) (before after : Output) (code : ℕ)
    → Says (end_outcome turns end).text (end_outcome turns end).status before after code → code ≡ 14 → Halts turns end before after code
of_halt turns end before after code (Cut is fails front) fourteen = absurd (omega arith)
of_halt turns (end.Turns phase holds answer why) before after code (Whole is whole) fourteen = absurd (omega arith)
of_halt turns (end.Left clean) before after code (Whole is whole) fourteen = absurd (omega arith)
of_halt turns (end.ClockBack first now) before after code (Whole is whole) fourteen = absurd (omega arith)
of_halt turns (end.SelfReset message) before after code (Whole is whole) fourteen = absurd (omega arith)
of_halt turns (end.BootHalted cause) before after code (Whole is whole) fourteen = record { cause = cause; is = refl; answers = (is, whole) }

-- more calls before the others
after_first : (plan_of : Call → Plan Call) (settings : Settings) (rank : ℕ) (cause : BootCause) (first : Call) (calls : List Call)
    → HaltedBy plan_of settings rank cause calls → HaltedBy plan_of settings rank cause (first ∷ calls)
after_first plan_of settings rank cause first calls halted = record {
  op = halted.op;
  number = halted.number;
  halts = halted.halts;
  fails = record {
    before = first ∷ halted.fails.before;
    own = halted.fails.own;
    after = halted.fails.after;
    parts = ap (λ (more : List Call). first ∷ more) halted.fails.parts;
    told = halted.fails.told;
    made = halted.fails.made;
    failed = halted.fails.failed;
    told_failed = halted.fails.told_failed;
    last = halted.fails.last;
  };
}

halted_on_first : (images : NodeImages) (settings : Settings) (rank : ℕ) (cause : BootCause) (first : Call) (calls : List Call)
    → HaltedOn images settings rank cause calls → HaltedOn images settings rank cause (first ∷ calls)
halted_on_first One settings rank cause first calls halted = after_first one_call settings rank cause first calls halted
halted_on_first Three settings rank cause first calls halted =
    (halted.0, after_first (three_calls settings rank halted.0) settings rank cause first calls halted.1)

-- where a failed operation halted the boot, a call failed
halted_failed_on : (images : NodeImages) (settings : Settings) (rank : ℕ) (cause : BootCause) (calls : List Call)
    → HaltedOn images settings rank cause calls → some_failed calls ≡ true
halted_failed_on One settings rank cause calls halted = halted_failed one_call settings rank cause calls halted
halted_failed_on Three settings rank cause calls halted = halted_failed (three_calls settings rank halted.0) settings rank cause calls halted.1

module _ (images : NodeImages) (words : NodeWords) (polls : Option ℕ) (settings : Settings) {before after : Seen} {code : ℕ}
    (law : (rank : ℕ) → EndsWithCause images words polls settings rank) (works : Works (node_work images words polls settings) before after code) where
  -- at status 12 a tick fell
  pub clock_went_back : code ≡ 12 → NeverFalls 0 works.calls → ⊥
  clock_went_back twelve rises = of_went (went images words polls settings works.calls before.output after.output code works.performs)
    where
      of_went : Went images words polls settings works.calls before.output after.output code → ⊥
      of_went (inl sixteen) = omega arith
      of_went (inr (inl eight)) = omega arith
      of_went (inr (inr (inl seven))) = omega arith
      of_went (inr (inr (inr ran))) =
          let known : NeverFalls 0 (ran.first ∷ ran.more) = subst (λ (calls : List Call). NeverFalls 0 calls) ran.parts rises in
          let later : NeverFalls 0 ran.more =
          subst (λ (last : ℕ). NeverFalls last ran.more) (opening_tells_none images words ran.rank ran.first ran.asked) known.1 in
          let no_clock = (law ran.rank).clock ran.more ran.run.ran ran.run.follows later in
          let by_clock = of_clock words.turns ran.run.ran.end code (said ran.run.says) twelve in
          cc

  -- at status 14 the boot was halted, by a failed call only where a call of the operation failed that halted it
  pub boot_halted : code ≡ 14 → HaltsBoot images words (Ok settings) works.calls before after code
  boot_halted fourteen = of_went (went images words polls settings works.calls before.output after.output code works.performs)
    where
      halted_on : (ran : RanOn images words polls settings works.calls before.output after.output code) (cause : BootCause)
          → ran.run.ran.end ≡ end.BootHalted cause → is_no_failure cause ≡ false → HaltedOn images settings ran.rank cause works.calls
      halted_on ran cause is failure =
          subst (λ (calls : List Call). HaltedOn images settings ran.rank cause calls) (sym ran.parts)
          (halted_on_first images settings ran.rank cause ran.first ran.more
          ((law ran.rank).halted ran.more ran.run.ran cause ran.run.follows is failure))

      of_went : Went images words polls settings works.calls before.output after.output code → HaltsBoot images words (Ok settings) works.calls before after code
      of_went (inl sixteen) = absurd (omega arith)
      of_went (inr (inl eight)) = absurd (omega arith)
      of_went (inr (inr (inl seven))) = absurd (omega arith)
      of_went (inr (inr (inr ran))) =
          let halts = of_halt words.turns ran.run.ran.end before.output after.output code ran.run.says fourteen in
          record {
            cause = halts.cause;
            answers = halts.answers;
            fails = λ failure.
                works.made.cause (halted_failed_on images settings ran.rank halts.cause works.calls (halted_on ran halts.cause halts.is failure));
            operation = λ failure.
                subst (λ (place : Option ℕ). IsSomeAnd place (λ rank. HaltedOn images settings rank halts.cause works.calls)) (sym ran.found)
                (halted_on ran halts.cause halts.is failure);
          }
