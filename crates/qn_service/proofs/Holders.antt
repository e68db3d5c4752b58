-- In every joint a resource that a log holds runs, or a Stop of it is unanswered.
use Rattle.std.proofs.Common.{◌≡◌, ◌⊎◌, inl, inr, ℕ, Bool, true, false, ◌&&◌, ◌==◌, List, [], ◌∷◌, Option, None, Some, if◌then◌else◌, sym, subst}
use Rattle.std.specs.Option.{option_map_or}
use Rattle.std.proofs.lemmas.Bool.{and_from}
use Rattle.qn_base.specs.declared.calls.Call.{Call}
use Rattle.qn_base.specs.declared.calls.Call.TheVariants as call
use Rattle.qn_base.specs.Calls.{blank}
use Rattle.qn_model.specs.declared.configuration.Settings.{Settings}
use Rattle.qn_model.specs.declared.times.Timing.{Timing}
use Rattle.qn_model.specs.Holding.{stop_due}
use Rattle.qn_model.specs.Moments.{tick_of}
use Rattle.qn_model.specs.NodeOutputs.{newest_outs}
use Rattle.qn_model.specs.World.{numbered, put, without}
use Rattle.qn_joined.specs.Joints.{AllMayHappen, Begins, Ends, Feeds, Happening, Host, Joint, Lands, LandsLate, Looks, Operates, Passes, Returns, began, ended, happens, joint_after, landed_image, looked_first, returned, takes, waits_for, with_host}
use Rattle.qn_joined.specs.Stands.{after_call, log_at}
use Rattle.qn_service.specs.Holders.{HoldersRun}
use Rattle.qn_service.proofs.Holding.{RunsAt, effect_after, first_runs, spot_goes_on, spot_runs}

abbrev HostRuns : Host → Type 0
HostRuns host = host.on ≡ true → RunsAt host.stand.spot host.runs

-- one host is replaced
put_runs : (rank other : ℕ) (hosts : ℕ → Host) (after : Host) → HostRuns after → HostRuns (hosts rank) → HostRuns (put hosts other after rank)
put_runs rank other hosts after there here = by_owner (other == rank)
  where
    by_owner : (b : Bool) → HostRuns (if b then after else hosts rank)
    by_owner true = there
    by_owner false = here

-- a call that returns
returns_run : (s : Settings) (rank time : ℕ) (host : Host) (made : Call) → waits_for s rank host ≡ Some (blank made) → RunsAt host.stand.spot host.runs
    → RunsAt (returned s rank made time host).stand.spot (returned s rank made time host).runs
unfolding returned
returns_run s rank time host made waits runs =
    let after = after_call s rank host.leave host.stand made in
    subst (λ (b : Bool). RunsAt after.spot b) (sym (effect_after made (newest_outs (log_at after.spot)) time host))
    (spot_goes_on s rank host.leave host.stand.turn host.stand.more host.stand.spot made host.runs waits runs)

all_run : (s : Settings) (t : Timing) (image : ℕ → List ℕ) (h : List Happening) → AllMayHappen s t image h → (rank : ℕ) → HostRuns ((joint_after s image h).hosts rank)
unfolding joint_after AllMayHappen happens looked_first
all_run s t image [] may rank = λ on. absurd cc
all_run s t image (Passes dt clocks ∷ earlier) may rank = all_run s t image earlier may.1 rank
all_run s t image (Begins other clean leave polls turns ∷ earlier) may rank =
    put_runs rank other (joint_after s image earlier).hosts (began clean leave polls turns (joint_after s image earlier).time)
    (λ on. first_runs clean polls turns false) (all_run s t image earlier may.1 rank)
all_run s t image (Looks other base ∷ earlier) may rank =
    let j = joint_after s image earlier in
    put_runs rank other j.hosts (looked_first s other base j.time (j.hosts other))
    (λ on. returns_run s other j.time (j.hosts other) (call.Now (tick_of base)) may.0.2 (all_run s t image earlier may.1 other may.0.0))
    (all_run s t image earlier may.1 rank)
all_run s t image (Lands other ∷ earlier) may rank = by_call (waits_for s other (j.hosts other)) (all_run s t image earlier may.1 other) (all_run s t image earlier may.1 rank)
  where
    j : Joint
    j = joint_after s image earlier

    by_call : (waiting : Option Call) → HostRuns (j.hosts other) → HostRuns (j.hosts rank)
        → HostRuns ((option_map_or (λ w. record (with_host other (record (j.hosts other) { took = Some (takes w j.image) }) j) { image = landed_image w j.image }) waiting j).hosts rank)
    by_call None there here = here
    by_call (Some waiting) there here =
        put_runs rank other j.hosts (record (j.hosts other) { took = Some (takes waiting j.image) }) there here
all_run s t image (Returns other made ∷ earlier) may rank =
    let j = joint_after s image earlier in
    put_runs rank other j.hosts (returned s other made j.time (j.hosts other))
    (λ on. returns_run s other j.time (j.hosts other) made may.0.waits (all_run s t image earlier may.1 other may.0.on))
    (all_run s t image earlier may.1 rank)
all_run s t image (Feeds other ∷ earlier) may rank =
    let j = joint_after s image earlier in
    put_runs rank other j.hosts (record (j.hosts other) { fed = j.time }) (all_run s t image earlier may.1 other) (all_run s t image earlier may.1 rank)
all_run s t image (LandsLate other number ∷ earlier) may rank = by_call (numbered (j.hosts other).left number) (all_run s t image earlier may.1 other) (all_run s t image earlier may.1 rank)
  where
    j : Joint
    j = joint_after s image earlier

    by_call : (write : Option Call) → HostRuns (j.hosts other) → HostRuns (j.hosts rank)
        → HostRuns ((option_map_or (λ w. record (with_host other (record (j.hosts other) { left = without (j.hosts other).left number }) j) { image = landed_image w j.image }) write j).hosts rank)
    by_call None there here = here
    by_call (Some write) there here =
        put_runs rank other j.hosts (record (j.hosts other) { left = without (j.hosts other).left number }) there here
all_run s t image (Ends other ∷ earlier) may rank =
    let j = joint_after s image earlier in
    put_runs rank other j.hosts (ended s other (j.hosts other)) (λ on. absurd cc) (all_run s t image earlier may.1 rank)
all_run s t image (Operates other message ∷ earlier) may rank = all_run s t image earlier may.1 rank

pub holders_run : (s : Settings) (t : Timing) → HoldersRun s t
holders_run s t image h rank may on held = by_either (spot_runs host.stand.spot host.runs (all_run s t image h may rank on) held)
  where
    host : Host
    host = (joint_after s image h).hosts rank

    by_either : (host.runs ≡ true) ⊎ (stop_due (log_at host.stand.spot) ≡ true) → ((host.on && host.runs) ≡ true) ⊎ (stop_due (log_at host.stand.spot) ≡ true)
    by_either (inl runs) = inl (and_from host.on host.runs on runs)
    by_either (inr due) = inr due
