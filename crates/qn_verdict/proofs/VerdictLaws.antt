-- What follows from a verdict.
use Rattle.std.proofs.Common.{◌≡◌, ◌≤◌, ◌<◌, ℕ, Bool, true, false, not, ◌&&◌, ◌||◌, ◌==◌, List, [], ◌∷◌, refl, sym, ◌∙◌, ap, arith, if◌then◌else◌, nat_lt, filter, length, All, slice_index_or, is_some}
use Rattle.std.specs.List.{list_any, list_all}
use Rattle.std.proofs.lemmas.Bool.{false≢true, and_parts, not-true, lt-ltb, ltb-false, eqb-false, or_right}
use Rattle.std.proofs.lemmas.List.Sums.{AllPass-from_list_all}
use Rattle.qn_shown.specs.declared.shown.Shown.{Shown}
use Rattle.qn_verdict.specs.declared.verdict.Verdict.{Verdict}
use Rattle.qn_verdict.specs.declared.verdict.Verdict.TheVariants.{Healthy, Degraded, NoOwner, Unknown}
use Rattle.qn_verdict.specs.Files.{is_arbiter_well, is_quiet, is_stale}
use Rattle.qn_verdict.specs.Verdicts.{holders, is_holder, is_owner_unknown, judge, of_live, with_holder, without_holder}
use Rattle.qn_verdict.specs.Voices.{is_contested, is_held, is_held_twice, is_in_service, is_live, is_peer_well, is_voice_well, is_well, voice_of}

-- where a node holds, a node is live
pub live_of_holder : (now : ℕ) (files : List Shown) → 1 ≤ holders now files → list_any (is_live now) files ≡ true
live_of_holder now [] some = absurd (omega arith)
live_of_holder now (file ∷ files) some = by_holder (is_holder now file) refl (live_of_holder now files)
  where
    by_holder : (holds : Bool) → is_holder now file ≡ holds → (1 ≤ holders now files → list_any (is_live now) files ≡ true)
        → list_any (is_live now) (file ∷ files) ≡ true
    by_holder true holds later = let both = and_parts (is_live now file) file.holds holds in rw both.0 refl
    by_holder false holds later =
        let same : holders now (file ∷ files) ≡ holders now files = rw holds refl in
        or_right (is_live now file) (list_any (is_live now) files) (later (omega arith))

pub two_holders : (now : ℕ) (files : List Shown) → 2 ≤ holders now files → judge now files ≡ NoOwner
two_holders now files two =
    rw (live_of_holder now files (omega arith)) (rw (lt-ltb 1 (holders now files) (omega arith)) refl)

abbrev is_healthy : Verdict → Bool
is_healthy Healthy = true
is_healthy Degraded = false
is_healthy NoOwner = false
is_healthy Unknown = false

-- what a healthy verdict stands on
pub record IsHealthy (now : ℕ) (files : List Shown) : Type 0 where
  pub held : is_held now files ≡ true
  pub once : is_held_twice now files ≡ false
  pub well : list_all (is_well now files) files ≡ true

no_other : (verdict : Verdict) → is_healthy verdict ≡ false → {A : Type 0} → verdict ≡ Healthy → A
no_other verdict other healthy = absurd (false≢true (sym other ∙ ap is_healthy healthy))

of_without : (unknown : Bool) → is_healthy (if unknown then Degraded else NoOwner) ≡ false
of_without true = refl
of_without false = refl

of_with : (well : Bool) → (if well then Healthy else Degraded) ≡ Healthy → well ≡ true
of_with true healthy = refl
of_with false healthy = no_other Degraded refl healthy

pub healthy_parts : (now : ℕ) (files : List Shown) → judge now files ≡ Healthy → IsHealthy now files
healthy_parts now files healthy = by_live (list_any (is_live now) files) healthy
  where
    by_held : (held : Bool) → is_held now files ≡ held → is_held_twice now files ≡ false
        → (if held then with_holder now files else without_holder now files) ≡ Healthy → IsHealthy now files
    by_held false none once is = no_other (without_holder now files) (of_without (is_owner_unknown now files)) is
    by_held true held once is = record { held = held; once = once; well = of_with (list_all (is_well now files) files) is }

    by_twice : (twice : Bool) → is_held_twice now files ≡ twice
        → (if twice then Degraded else if is_held now files then with_holder now files else without_holder now files) ≡ Healthy → IsHealthy now files
    by_twice true more is = no_other Degraded refl is
    by_twice false once is = by_held (is_held now files) refl once is

    by_two : (two : Bool)
        → (if two then NoOwner else if is_held_twice now files then Degraded else if is_held now files then with_holder now files else without_holder now files) ≡ Healthy
        → IsHealthy now files
    by_two true is = no_other NoOwner refl is
    by_two false is = by_twice (is_held_twice now files) refl is

    by_live : (live : Bool) → (if live then of_live now files else Unknown) ≡ Healthy → IsHealthy now files
    by_live true is = by_two (nat_lt 1 (holders now files) || is_contested now files) is
    by_live false is = no_other Unknown refl is

fresh : (now : ℕ) (files : List Shown) (file : Shown) → is_well now files file ≡ true → is_stale now file ≡ false
fresh now files file well =
    let six = and_parts (is_live now file && is_voice_well (voice_of file) && is_in_service file.phase && is_quiet file.mailbox.state && not (is_some file.images) && is_arbiter_well file) (list_all (is_peer_well now files file) file.peers.items) well in
    let five = and_parts (is_live now file && is_voice_well (voice_of file) && is_in_service file.phase && is_quiet file.mailbox.state && not (is_some file.images)) (is_arbiter_well file) six.0 in
    let four = and_parts (is_live now file && is_voice_well (voice_of file) && is_in_service file.phase && is_quiet file.mailbox.state) (not (is_some file.images)) five.0 in
    let three = and_parts (is_live now file && is_voice_well (voice_of file) && is_in_service file.phase) (is_quiet file.mailbox.state) four.0 in
    let two = and_parts (is_live now file && is_voice_well (voice_of file)) (is_in_service file.phase) three.0 in
    let live = and_parts (is_live now file) (is_voice_well (voice_of file)) two.0 in
    not-true (is_stale now file) live.0

pub all_fresh : (now : ℕ) (files : List Shown) → list_all (is_well now files) files ≡ true → All (λ file. is_stale now file ≡ false) files
all_fresh now files well = λ k d below. fresh now files (slice_index_or files k d) (AllPass-from_list_all (is_well now files) files well k d below)
