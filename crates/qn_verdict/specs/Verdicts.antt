-- What the status files of a cluster come to, at a moment of their host's monotonic clock. This project's profile; the statuses are
-- those of a Nagios plug-in.
use Rattle.std.specs.Prelude.{ℕ, Bool, true, false, ◌&&◌, ◌||◌, not, List, if◌then◌else◌, nat_lt, filter, length, codes}
use Rattle.std.specs.List.{list_any, list_all}
use Rattle.qn_shown.specs.declared.shown.Shown.{Shown}
use Rattle.qn_verdict.specs.declared.verdict.Verdict.{Verdict}
use Rattle.qn_verdict.specs.declared.verdict.Verdict.TheVariants.{Healthy, Degraded, NoOwner, Unknown}
use Rattle.qn_verdict.specs.Voices.{are_all_told, is_contested, is_held, is_held_twice, is_live, is_well}

-- a live node that holds: what a silent node said last is no fact
abbrev pub is_holder : ℕ → Shown → Bool
is_holder now file = is_live now file && file.holds

abbrev pub holders : ℕ → List Shown → ℕ
holders now files = length (filter (is_holder now) files)

-- a node may hold that has no voice
abbrev pub is_owner_unknown : ℕ → List Shown → Bool
is_owner_unknown now files = list_any (λ file. is_live now file && not (are_all_told now files file)) files

-- of live nodes of which none holds
abbrev pub without_holder : ℕ → List Shown → Verdict
without_holder now files = if is_owner_unknown now files then Degraded else NoOwner

-- of live nodes of which one holds
abbrev pub with_holder : ℕ → List Shown → Verdict
with_holder now files = if list_all (is_well now files) files then Healthy else Degraded

-- of live nodes; where two hold one after the other, one hands over to the other
abbrev pub of_live : ℕ → List Shown → Verdict
of_live now files =
    if nat_lt 1 (holders now files) || is_contested now files then NoOwner
    else if is_held_twice now files then Degraded
    else if is_held now files then with_holder now files else without_holder now files

abbrev pub judge : ℕ → List Shown → Verdict
judge now files = if list_any (is_live now) files then of_live now files else Unknown

-- a file that cannot be read keeps a cluster from being healthy
abbrev pub beside_unread : Bool → Verdict → Verdict
beside_unread true Healthy = Degraded
beside_unread false Healthy = Healthy
beside_unread unread Degraded = Degraded
beside_unread unread NoOwner = NoOwner
beside_unread unread Unknown = Unknown

abbrev pub exit_status : Verdict → ℕ
exit_status Healthy = 0
exit_status Degraded = 1
exit_status NoOwner = 2
exit_status Unknown = 3

-- the word of a verdict
abbrev pub verdict_name : Verdict → List ℕ
verdict_name Healthy = codes "healthy"
verdict_name Degraded = codes "degraded"
verdict_name NoOwner = codes "no owner"
verdict_name Unknown = codes "unknown"
