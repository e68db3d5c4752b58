-- The calls of each process of a joint are the beginning of a run of its node.
use Rattle.std.proofs.Common.{◌≡◌, ℕ, Bool, true, false, List, [], ◌∷◌, ◌++◌, Option, None, Some, ◌==◌, if◌then◌else◌, refl, sym, ap, subst, ◌∙◌, append_assoc}
use Rattle.std.specs.Option.{option_map_or}
use Rattle.qn_base.specs.declared.calls.Call.{Call}
use Rattle.qn_base.specs.declared.calls.Call.TheVariants as call
use Rattle.std.proofs.lemmas.Bool.{eqb-true}
use Rattle.qn_model.specs.declared.outputs.Out.{Out}
use Rattle.qn_model.specs.Moments.{tick_of}
use Rattle.qn_model.specs.NodeOutputs.{newest_outs}
use Rattle.qn_base.specs.Calls.{blank}
use Rattle.qn_base.specs.Plans.{Plan, Follows, question, left}
use Rattle.qn_base.specs.PlanSteps.{follows_call}
use Rattle.qn_model.specs.declared.configuration.Settings.{Settings}
use Rattle.qn_model.specs.declared.times.Timing.{Timing}
use Rattle.qn_model.specs.World.{numbered, put, without}
use Rattle.qn_live.specs.Running.{Ran}
use Rattle.qn_live.specs.Runs.{live_plan}
use Rattle.qn_joined.specs.Stands.{Stand, after_call, log_at, plan_at}
use Rattle.qn_joined.specs.Joints.{AllMayHappen, Passes, Begins, Looks, Lands, Returns, Feeds, LandsLate, Ends, Operates, Host, Joint, after_effect, began, calls_of, ended, happens, joint_after, landed_image, looked_first, MayReturn, returned, takes, waits_for, with_host}
use Rattle.qn_joined.specs.Theorem.{IsRunSoFar, RunsAreRuns}
use Rattle.qn_joined.proofs.Stands.{stand_first, stand_left}

-- one call further
one_further : (s : Settings) (rank : ℕ) (calls : List Call) (host after : Host) (made : Call)
    → question (plan_at s rank host.leave host.stand) ≡ Some (blank made)
    → after.leave ≡ host.leave
    → after.stand ≡ after_call s rank host.leave host.stand made
    → IsRunSoFar s rank calls host
    → IsRunSoFar s rank (calls ++ made ∷ []) after
one_further s rank calls host after made asked leave stand so_far =
    record {
      clean = so_far.clean;
      polls = so_far.polls;
      turns = so_far.turns;
      goes_on =
          λ more value follows.
          let at_left : Follows (left (plan_at s rank host.leave host.stand) made) more value =
          subst (λ (p : Plan Ran). Follows p more value) (sym (stand_left s rank host.leave host.stand made))
          (subst (λ (x : Stand). Follows (plan_at s rank host.leave x) more value) stand (subst (λ (l : Option ℕ). Follows (plan_at s rank l after.stand) more value) leave follows)) in
          subst (λ (l : Option ℕ). Follows (live_plan s rank so_far.clean l so_far.polls so_far.turns) ((calls ++ made ∷ []) ++ more) value) (sym leave)
          (subst (λ (c : List Call). Follows (live_plan s rank so_far.clean host.leave so_far.polls so_far.turns) c value) (sym (append_assoc calls (made ∷ []) more))
          (so_far.goes_on (made ∷ more) value (follows_call (plan_at s rank host.leave host.stand) made more value asked at_left)));
    }

-- a process that begins
just_begun : (s : Settings) (rank : ℕ) (clean : Bool) (leave polls : Option ℕ) (turns time : ℕ) → IsRunSoFar s rank [] (began clean leave polls turns time)
just_begun s rank clean leave polls turns time =
    record { clean = clean; polls = polls; turns = turns; goes_on = λ more value follows. subst (λ (p : Plan Ran). Follows p more value) (sym (stand_first s rank clean leave polls turns)) follows }

-- nothing of the run changed
unchanged : (s : Settings) (rank : ℕ) (calls : List Call) (host after : Host) → after.leave ≡ host.leave → after.stand ≡ host.stand → IsRunSoFar s rank calls host → IsRunSoFar s rank calls after
unchanged s rank calls host after leave stand so_far =
    record {
      clean = so_far.clean;
      polls = so_far.polls;
      turns = so_far.turns;
      goes_on =
          λ more value follows.
          subst (λ (l : Option ℕ). Follows (live_plan s rank so_far.clean l so_far.polls so_far.turns) (calls ++ more) value) (sym leave)
          (so_far.goes_on more value (subst (λ (x : Stand). Follows (plan_at s rank host.leave x) more value) stand (subst (λ (l : Option ℕ). Follows (plan_at s rank l after.stand) more value) leave follows)));
    }

effect_leave : (made : Call) (outs : List Out) (time : ℕ) (host : Host) → (after_effect made outs time host).leave ≡ host.leave
effect_leave (call.Now tick) outs time host = refl
effect_leave (call.Receive got) outs time host = refl
effect_leave (call.Read sector bytes ok) outs time host = refl
effect_leave (call.Write sector bytes ok) outs time host = refl
effect_leave (call.Feed ok) outs time host = refl
effect_leave (call.Start ok) outs time host = refl
effect_leave (call.Stop ok) outs time host = refl
effect_leave (call.Send to bytes ok) outs time host = refl
effect_leave (call.Disarm ok) outs time host = refl
effect_leave (call.Halt code) outs time host = refl
effect_leave (call.OpenImage path ok) outs time host = refl
effect_leave (call.OpenNode images image watchdog resource port rank ok) outs time host = refl

-- what happens to the host of a rank leaves its run as it is: whether it is this host or another one
kept_by : (s : Settings) (rank other : ℕ) (calls : List Call) (hosts : ℕ → Host) (after : Host)
    → after.leave ≡ (hosts other).leave → after.stand ≡ (hosts other).stand → after.on ≡ (hosts other).on
    → ((hosts rank).on ≡ true → IsRunSoFar s rank calls (hosts rank))
    → (put hosts other after rank).on ≡ true
    → IsRunSoFar s rank calls (put hosts other after rank)
kept_by s rank other calls hosts after leave stand on was = by_owner (other == rank) (λ same. eqb-true other rank same)
  where
    by_owner : (b : Bool) → (b ≡ true → other ≡ rank) → (if b then after else hosts rank).on ≡ true → IsRunSoFar s rank calls (if b then after else hosts rank)
    by_owner true same is_on =
        let e = same refl in
        unchanged s rank calls (hosts rank) after (leave ∙ ap (λ r. (hosts r).leave) e) (stand ∙ ap (λ r. (hosts r).stand) e)
        (was (sym (on ∙ ap (λ r. (hosts r).on) e) ∙ is_on))
    by_owner false same is_on = was is_on

-- a host that is off, or that begins, or of which a call returns
off_by : (s : Settings) (rank other : ℕ) (calls : List Call) (hosts : ℕ → Host) (after : Host)
    → after.on ≡ false
    → ((hosts rank).on ≡ true → IsRunSoFar s rank calls (hosts rank))
    → (put hosts other after rank).on ≡ true
    → IsRunSoFar s rank calls (put hosts other after rank)
off_by s rank other calls hosts after off was = by_owner (other == rank)
  where
    by_owner : (b : Bool) → (if b then after else hosts rank).on ≡ true → IsRunSoFar s rank calls (if b then after else hosts rank)
    by_owner true is_on = absurd (let both = sym off ∙ is_on in cc)
    by_owner false is_on = was is_on

begun_by : (s : Settings) (rank other : ℕ) (calls : List Call) (hosts : ℕ → Host) (clean : Bool) (leave polls : Option ℕ) (turns time : ℕ)
    → ((hosts rank).on ≡ true → IsRunSoFar s rank calls (hosts rank))
    → (put hosts other (began clean leave polls turns time) rank).on ≡ true
    → IsRunSoFar s rank (if other == rank then [] else calls) (put hosts other (began clean leave polls turns time) rank)
begun_by s rank other calls hosts clean leave polls turns time was = by_owner (other == rank)
  where
    by_owner : (b : Bool) → (if b then began clean leave polls turns time else hosts rank).on ≡ true → IsRunSoFar s rank (if b then [] else calls) (if b then began clean leave polls turns time else hosts rank)
    by_owner true is_on = just_begun s rank clean leave polls turns time
    by_owner false is_on = was is_on

returned_by : (s : Settings) (rank other time : ℕ) (calls : List Call) (j : Joint) (made : Call)
    → MayReturn s other made j
    → ((j.hosts rank).on ≡ true → IsRunSoFar s rank calls (j.hosts rank))
    → (put j.hosts other (returned s other made time (j.hosts other)) rank).on ≡ true
    → IsRunSoFar s rank (if other == rank then calls ++ made ∷ [] else calls) (put j.hosts other (returned s other made time (j.hosts other)) rank)
unfolding returned
returned_by s rank other time calls j made may was = by_owner (other == rank) (λ same. eqb-true other rank same)
  where
    after : Host
    after = returned s other made time (j.hosts other)

    by_owner : (b : Bool) → (b ≡ true → other ≡ rank) → (if b then after else j.hosts rank).on ≡ true
        → IsRunSoFar s rank (if b then calls ++ made ∷ [] else calls) (if b then after else j.hosts rank)
    by_owner true same is_on =
        subst (λ r. IsRunSoFar s r (calls ++ made ∷ []) after) (same refl)
        (one_further s other calls (j.hosts other) after made may.waits
        (effect_leave made (newest_outs (log_at (after_call s other (j.hosts other).leave (j.hosts other).stand made).spot)) time (j.hosts other))
        refl
        (subst (λ r. (j.hosts r).on ≡ true → IsRunSoFar s r calls (j.hosts r)) (sym (same refl)) was may.on))
    by_owner false same is_on = was is_on

looked_by : (s : Settings) (rank other base time : ℕ) (calls : List Call) (hosts : ℕ → Host)
    → (hosts other).on ≡ true
    → waits_for s other (hosts other) ≡ Some (call.Now 0)
    → ((hosts rank).on ≡ true → IsRunSoFar s rank calls (hosts rank))
    → (put hosts other (looked_first s other base time (hosts other)) rank).on ≡ true
    → IsRunSoFar s rank (if other == rank then calls ++ call.Now (tick_of base) ∷ [] else calls) (put hosts other (looked_first s other base time (hosts other)) rank)
unfolding returned looked_first
looked_by s rank other base time calls hosts on waits was = by_owner (other == rank) (λ same. eqb-true other rank same)
  where
    after : Host
    after = looked_first s other base time (hosts other)

    by_owner : (b : Bool) → (b ≡ true → other ≡ rank) → (if b then after else hosts rank).on ≡ true
        → IsRunSoFar s rank (if b then calls ++ call.Now (tick_of base) ∷ [] else calls) (if b then after else hosts rank)
    by_owner true same is_on =
        subst (λ r. IsRunSoFar s r (calls ++ call.Now (tick_of base) ∷ []) after) (same refl)
        (one_further s other calls (hosts other) after (call.Now (tick_of base)) waits refl refl
        (subst (λ r. (hosts r).on ≡ true → IsRunSoFar s r calls (hosts r)) (sym (same refl)) was on))
    by_owner false same is_on = was is_on

pub processes : (s : Settings) (t : Timing) → RunsAreRuns s t
unfolding joint_after AllMayHappen happens calls_of
processes s t image [] rank may on = absurd cc
processes s t image (Passes dt clocks ∷ earlier) rank may on =
    unchanged s rank (calls_of rank earlier) ((joint_after s image earlier).hosts rank) _ refl refl (processes s t image earlier rank may.1 on)
processes s t image (Begins other clean leave polls turns ∷ earlier) rank may on =
    begun_by s rank other (calls_of rank earlier) (joint_after s image earlier).hosts clean leave polls turns (joint_after s image earlier).time
    (processes s t image earlier rank may.1) on
processes s t image (Looks other base ∷ earlier) rank may on =
    looked_by s rank other base (joint_after s image earlier).time (calls_of rank earlier) (joint_after s image earlier).hosts
    may.0.0 may.0.2 (processes s t image earlier rank may.1) on
processes s t image (Lands other ∷ earlier) rank may on =
    by_call (processes s t image earlier rank may.1) (waits_for s other (j.hosts other)) on
  where
    j : Joint
    j = joint_after s image earlier

    by_call : ((j.hosts rank).on ≡ true → IsRunSoFar s rank (calls_of rank earlier) (j.hosts rank)) → (waiting : Option Call)
        → ((option_map_or (λ w. record (with_host other (record (j.hosts other) { took = Some (takes w j.image) }) j) { image = landed_image w j.image }) waiting j).hosts rank).on ≡ true
        → IsRunSoFar s rank (calls_of rank earlier) ((option_map_or (λ w. record (with_host other (record (j.hosts other) { took = Some (takes w j.image) }) j) { image = landed_image w j.image }) waiting j).hosts rank)
    by_call was None on = was on
    by_call was (Some waiting) on =
        kept_by s rank other (calls_of rank earlier) j.hosts (record (j.hosts other) { took = Some (takes waiting j.image) }) refl refl refl was on
processes s t image (Returns other made ∷ earlier) rank may on =
    returned_by s rank other (joint_after s image earlier).time (calls_of rank earlier) (joint_after s image earlier) made may.0
    (processes s t image earlier rank may.1) on
processes s t image (Feeds other ∷ earlier) rank may on =
    kept_by s rank other (calls_of rank earlier) (joint_after s image earlier).hosts _ refl refl refl (processes s t image earlier rank may.1) on
processes s t image (LandsLate other number ∷ earlier) rank may on =
    by_call (processes s t image earlier rank may.1) (numbered (j.hosts other).left number) on
  where
    j : Joint
    j = joint_after s image earlier

    by_call : ((j.hosts rank).on ≡ true → IsRunSoFar s rank (calls_of rank earlier) (j.hosts rank)) → (write : Option Call)
        → ((option_map_or (λ w. record (with_host other (record (j.hosts other) { left = without (j.hosts other).left number }) j) { image = landed_image w j.image }) write j).hosts rank).on ≡ true
        → IsRunSoFar s rank (calls_of rank earlier) ((option_map_or (λ w. record (with_host other (record (j.hosts other) { left = without (j.hosts other).left number }) j) { image = landed_image w j.image }) write j).hosts rank)
    by_call was None on = was on
    by_call was (Some write) on =
        kept_by s rank other (calls_of rank earlier) j.hosts (record (j.hosts other) { left = without (j.hosts other).left number }) refl refl refl was on
processes s t image (Ends other ∷ earlier) rank may on =
    off_by s rank other (calls_of rank earlier) (joint_after s image earlier).hosts (ended s other ((joint_after s image earlier).hosts other)) refl
    (processes s t image earlier rank may.1) on
processes s t image (Operates other sent ∷ earlier) rank may on = processes s t image earlier rank may.1 on
