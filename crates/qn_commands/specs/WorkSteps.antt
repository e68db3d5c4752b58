-- How a work goes on, step by step.
use Rattle.std.proofs.Common.{◌≡◌, ◌≤◌, inl, inr, arith, ℕ, List, [], ◌∷◌, ◌++◌, Option, refl, sym, subst}
use Rattle.std.specs.Io.KnownBytes.{append_known}
use Rattle.qn_base.specs.Rising.{HasRisen-within}
use Rattle.qn_base.specs.declared.calls.Call.{Call}
use Rattle.qn_base.specs.Plans.{Plan, Ends, Asks, Follows, Made}
use Rattle.qn_base.specs.PlanSteps.{made_none, made_then}
use Rattle.qn_io.specs.Writes.{AppendsFront}
use Rattle.qn_commands.specs.Endings.{Says, Whole, Cut}
use Rattle.qn_commands.specs.Seen.{Input, Output, Outside, Seen, WriteFails, seen}
use Rattle.qn_commands.specs.Works.{Carries, Last, Makes, Performs, Work, Works, Writes, after_plan}

-- the calls of a plan, and then the work that follows from its value
pub performs_after : {A : Type 0} (plan : Plan A) (next : A → Work) (calls more : List Call) (value : A) (before after : Output) (status : ℕ)
    → Follows plan calls value → Performs (next value) more before after status → Performs (after_plan plan next) (calls ++ more) before after status
performs_after {A} (Ends end) next calls more value before after status did left =
    rw did.0 (subst (λ (x : A). Performs (next x) more before after status) did.1 left)
performs_after (Asks question left_of) next [] more value before after status did left = absurd did
performs_after (Asks question left_of) next (call ∷ calls) more value before after status did left =
    (did.0, performs_after (left_of call) next calls more value before after status did.1 left)

-- the same text, written by a sink with fewer faults before
says_wider : {text : List ℕ} {wanted : ℕ} {written : Option (List ℕ)} {first faults : ℕ} {after : Output} {status : ℕ}
    → first ≤ faults → faults ≤ after.faults → Says text wanted (record { written = written; faults = faults }) after status
    → Says text wanted (record { written = written; faults = first }) after status
says_wider before behind (Whole is whole) = Whole is whole
says_wider {first = first} {faults = faults} {after = after} before behind (Cut is fails front) =
    Cut is (HasRisen-within first faults after.faults after.faults before behind (omega arith) fails) front

-- the same work, with more calls before
performs_wider : (work : Work) (calls : List Call) (written : Option (List ℕ)) (first faults : ℕ) (after : Output) (status : ℕ)
    → first ≤ faults → faults ≤ after.faults
    → Performs work calls (record { written = written; faults = faults }) after status
    → Performs work calls (record { written = written; faults = first }) after status
performs_wider (Last text wanted) calls written first faults after status before behind did = (did.0, says_wider before behind did.1)
performs_wider (Makes question next) [] written first faults after status before behind did = did
performs_wider (Makes question next) (call ∷ calls) written first faults after status before behind did =
    (did.0, performs_wider (next call) calls written first faults after status before behind did.1)
performs_wider (Writes text next) calls written first faults after status before behind (inl did) =
    inl (performs_wider next calls (append_known written text) first faults after status before behind did)
performs_wider (Writes text next) calls written first faults after status before behind (inr cut) =
    inr (cut.0, cut.1, HasRisen-within first faults after.faults after.faults before behind (omega arith) cut.2, cut.3)

module _ {A : Type 0} {plan : Plan A} {value : A} (next : A → Work) where
  -- a plan, and then a last text
  abbrev pub plan_then_last : (input : Input) (before after : Output) (env_before env_after : Outside) (text : List ℕ) (wanted status : ℕ)
      → Carries plan env_before env_after value → next value ≡ Last text wanted → Says text wanted before after status
      → Works (after_plan plan next) (seen input before env_before) (seen input after env_after) status
  plan_then_last input before after env_before env_after text wanted status did is says = record {
    calls = did.calls ++ [];
    made = made_then did.made (made_none env_after.faults env_after.calls);
    performs = performs_after plan next did.calls [] value before after status did.follows
        (subst (λ (work : Work). Performs work [] before after status) (sym is) (refl, says));
  }

  -- a plan, and then a text that could not be written
  pub plan_then_cut : (input : Input) (before after : Output) (env_before env_after : Outside) (text : List ℕ) (others : Work)
      → Carries plan env_before env_after value → next value ≡ Writes text others → WriteFails before after
      → AppendsFront before.written after.written text
      → Works (after_plan plan next) (seen input before env_before) (seen input after env_after) 7
  plan_then_cut input before after env_before env_after text others did is rose front = record {
    calls = did.calls ++ [];
    made = made_then did.made (made_none env_after.faults env_after.calls);
    performs = performs_after plan next did.calls [] value before after 7 did.follows
        (subst (λ (work : Work). Performs work [] before after 7) (sym is) (inr (refl, refl, rose, front)));
  }

  -- a plan, and then a work
  pub plan_then_work : (input : Input) (before after : Output) (env_before env_middle env_after : Outside) (status : ℕ)
      → Carries plan env_before env_middle value
      → Works (next value) (seen input before env_middle) (seen input after env_after) status
      → Works (after_plan plan next) (seen input before env_before) (seen input after env_after) status
  plan_then_work input before after env_before env_middle env_after status did left = record {
    calls = did.calls ++ left.calls;
    made = made_then did.made left.made;
    performs = performs_after plan next did.calls left.calls value before after status did.follows left.performs;
  }

-- the work of another name
abbrev pub recast : {work other : Work} {before after : Seen} {status : ℕ} → work ≡ other → Works work before after status → Works other before after status
recast {work} {other} {before} {after} {status} same works = record {
  calls = works.calls;
  made = works.made;
  performs = subst (λ (w : Work). Performs w works.calls before.output after.output status) same works.performs;
}

-- no call, and a last text
abbrev pub last_alone : (before after : Seen) (text : List ℕ) (wanted status : ℕ) → after.env ≡ before.env
    → Says text wanted before.output after.output status → Works (Last text wanted) before after status
last_alone before after text wanted status same says = record {
  calls = [];
  made = subst
      (λ (e : Outside). Made before.env.faults e.faults before.env.calls e.calls []) (sym same)
      (made_none before.env.faults before.env.calls);
  performs = (refl, says);
}

-- what is left of a work, done, makes the whole work
pub record LeadsTo (input : Input) (before later : Output) (env_before env_later : Outside) (whole left : Work) : Type 0 where
  pub leads : (env : Outside) (output : Output) (status : ℕ) → later.faults ≤ output.faults
      → Works left (seen input later env_later) (seen input output env) status
      → Works whole (seen input before env_before) (seen input output env) status

pub leads_start : (input : Input) (output : Output) (env : Outside) (whole : Work) → LeadsTo input output output env env whole whole
leads_start input output env whole = record { leads = λ env output status rises works. works }

-- a plan and a text that was written, and then what is left
pub leads_more : {A : Type 0} {plan : Plan A} {value : A} {input : Input} {before middle later : Output} {env_before env_middle env_later : Outside} {whole : Work}
    (next : A → Work) (text : List ℕ) (others : Work) → LeadsTo input before middle env_before env_middle whole (after_plan plan next)
    → middle.faults ≤ later.faults → Carries plan env_middle env_later value → next value ≡ Writes text others
    → later.written ≡ append_known middle.written text → LeadsTo input before later env_before env_later whole others
leads_more {A} {plan} {value} {input} {before} {middle} {later} {env_before} {env_middle} {env_later} {whole} next text others so_far rises did is wrote = record {
  leads = λ env output status later_rises works.
      so_far.leads env output status (omega arith)
      (plan_then_work next input middle output env_middle env_later env status did
      (subst (λ (work : Work). Works work (seen input middle env_later) (seen input output env) status) (sym is)
      record {
        calls = works.calls;
        made = works.made;
        performs = inl (subst (λ (known : Option (List ℕ)). Performs others works.calls (record { written = known; faults = middle.faults }) output status) wrote
            (performs_wider others works.calls later.written middle.faults later.faults output status rises later_rises works.performs));
      }));
}
