-- The rules that look at nodes alone, by the seats of a cluster.
use Rattle.std.proofs.Common.{◌≡◌, ℕ, suc, zero, ◌+◌, ◌-◌, ◌*◌, ◌<◌, ◌≤◌, Bool, true, false, List, [], ◌∷◌, length, Some, None, refl, not, if◌then◌else◌, ◌&&◌, ◌||◌, sym, ◌∙◌, ap, subst, arith, add-one, drop}
use Rattle.std.proofs.lemmas.Bool.{ltb-true, leb-true}
use Rattle.std.specs.Prelude.{Option, slice_get, nat_le}
use Rattle.std.specs.List.{list_all, range_with_len}
use Rattle.std.specs.Option.{option_map_or, option_or}
use Rattle.std.proofs.lemmas.Bool.Decides.{nat_tests}
use Rattle.qn_base.specs.declared.ids.Rank.{Rank}
use Rattle.qn_base.specs.declared.limits.TheConstants.{LONGEST_PERIOD}
use Rattle.qn_base.specs.lemmas.Bools.{first_of_both, second_of_both}
use Rattle.qn_model.specs.declared.configuration.Settings.{Settings}
use Rattle.qn_model.specs.declared.times.Timing.{Timing}
use Rattle.qn_model.specs.declared.events.Event.TheVariants as event
use Rattle.qn_model.specs.Timing.{is_safe}
use Rattle.qn_model.specs.Moments.{advance_of, time}
use Rattle.qn_model.specs.World.{World, node_at}
use Rattle.qn_model.specs.Rules.{is_between, is_clock, is_configured, is_on, is_well_formed, is_within_bounds, may_be_stopped, may_feed, may_pass, outlives, passes, unless, unless_running}
use Rattle.qn_cluster.specs.declared.seat.Seat.{Seat}
use Rattle.qn_cluster.specs.Standing.{ClusterFor, IsStanding}
use Rattle.qn_cluster.specs.Tests.{decided_lately, lives_through, on_at, passes_at}
use Rattle.qn_cluster.specs.Nodes.{Nodes}
use Rattle.qn_cluster.proofs.Lists.{item_there}

-- rule 3 first: what another rule says matters of a running node alone
after_running : (on : Bool) (mine theirs : Option ℕ) → (on ≡ true → mine ≡ theirs) → option_or (unless on 3) mine ≡ option_or (unless on 3) theirs
after_running true mine theirs same = same refl
after_running false mine theirs same = refl

pub running_rule : (w : Nodes) (d : World) (i : ℕ) (seat : Seat) (mine theirs : Option ℕ) → ClusterFor w d.moments → slice_get w.seats i ≡ Some seat
    → (is_on w.settings i d ≡ true → mine ≡ theirs)
    → option_or (unless seat.on 3) mine ≡ unless_running w.settings i d theirs
running_rule w d i seat mine theirs is here same =
    ap (λ on. option_or (unless on 3) mine) (is.nodes i seat here).runs ∙ after_running (node_at w.settings i d).on mine theirs same

-- an unanswered Stop, and a feed that may take effect, of a running node
pub stop_rule : (w : Nodes) (d : World) (i : ℕ) (seat : Seat) → ClusterFor w d.moments → slice_get w.seats i ≡ Some seat → is_on w.settings i d ≡ true
    → seat.stop_due ≡ may_be_stopped w.settings i d
stop_rule w d i seat is here on = ((is.nodes i seat here).running on).stops

-- a feed at most so long ago
lately : (now delay : ℕ) (decided : Option ℕ) → decided_lately now delay decided ≡ option_map_or (λ decided. nat_le now (decided + delay)) decided false
lately now delay None = refl
lately now delay (Some decided) = grind (arith, nat_tests)

pub feed_rule : (w : Nodes) (t : Timing) (d : World) (i : ℕ) (seat : Seat) → ClusterFor w d.moments → slice_get w.seats i ≡ Some seat → is_on w.settings i d ≡ true
    → decided_lately w.time t.feed_delay seat.decided ≡ may_feed w.settings t i d
feed_rule w t d i seat is here on =
    ap (λ decided. decided_lately w.time t.feed_delay decided) ((is.nodes i seat here).running on).decisions
    ∙ (ap (λ now. decided_lately now t.feed_delay (node_at w.settings i d).decided) is.times
    ∙ lately (time d.moments) t.feed_delay (node_at w.settings i d).decided)

-- a running node lives through a pass
lives_by : (watchdog dt advance later fed : ℕ) (on : Bool) → (not on || is_within_bounds dt advance && nat_le (99 * (later - fed)) (100 * watchdog))
    ≡ (if on then is_within_bounds dt advance && nat_le (99 * (later - fed)) (100 * watchdog) else true)
lives_by watchdog dt advance later fed true = refl
lives_by watchdog dt advance later fed false = refl

fed_if_on : (on : Bool) (mine theirs : Bool) → (on ≡ true → mine ≡ theirs) → (if on then mine else true) ≡ (if on then theirs else true)
fed_if_on true mine theirs same = same refl
fed_if_on false mine theirs same = refl

lives_rule : (w : Nodes) (t : Timing) (d : World) (i : ℕ) (seat : Seat) (dt advance later : ℕ) → ClusterFor w d.moments → slice_get w.seats i ≡ Some seat → later ≡ w.time + dt
    → lives_through t.watchdog dt advance later seat ≡ passes t dt advance (time d.moments) (node_at w.settings i d)
lives_rule w t d i seat dt advance later is here at =
    let own = is.nodes i seat here in
    let at_end : later ≡ time d.moments + dt = at ∙ ap (λ now. now + dt) is.times in
    lives_by t.watchdog dt advance later seat.fed seat.on
    ∙ (ap (λ on. if on then is_within_bounds dt advance && nat_le (99 * (later - seat.fed)) (100 * t.watchdog) else true) own.runs
    ∙ fed_if_on (node_at w.settings i d).on _ _ (λ on.
    ap (λ fed. is_within_bounds dt advance && nat_le (99 * (later - fed)) (100 * t.watchdog)) (own.running on).feeds
    ∙ ap (λ later. is_within_bounds dt advance && outlives t later (node_at w.settings i d).fed) at_end))

-- ---- ranks

-- ---- tests of all ranks

all_split : (p : ℕ → Bool) (rank count : ℕ) → rank < count
    → list_all p (range_with_len rank (count - rank)) ≡ (p rank && list_all p (range_with_len (rank + 1) (count - (rank + 1))))
all_split p rank count below =
    let one_more : count - rank ≡ suc (count - (rank + 1)) = omega arith in
    ap (λ n. list_all p (range_with_len rank n)) one_more

-- tests that agree on what a third one lets pass
same_by : (p q : Bool) (rest others : Bool) (guard more : Bool) → (guard && more) ≡ true → (guard ≡ true → p ≡ q) → (more ≡ true → rest ≡ others)
    → (p && rest) ≡ (q && others)
same_by p q rest others true more e same behind = cc (same refl, behind e)
same_by p q rest others false more e same behind = absurd (cc)

pub list_all_same : {A : Type 0} (guard p q : A → Bool) (items : List A) → list_all guard items ≡ true → ((item : A) → guard item ≡ true → p item ≡ q item)
    → list_all p items ≡ list_all q items
list_all_same guard p q [] e same = refl
list_all_same guard p q (item ∷ items) e same =
    same_by (p item) (q item) (list_all p items) (list_all q items) (guard item) (list_all guard items) e (same item) (λ e. list_all_same guard p q items e same)

pub list_all_at : {A : Type 0} (p : A → Bool) (items : List A) (i : ℕ) (item : A) → list_all p items ≡ true → slice_get items i ≡ Some item → p item ≡ true
list_all_at p [] i item e here = absurd (cc)
list_all_at p (first ∷ items) zero item e here = let z : first ≡ item = cc in subst (λ x. p x ≡ true) z (first_of_both (p first) (list_all p items) e)
list_all_at p (first ∷ items) (suc i) item e here = list_all_at p items i item (second_of_both (p first) (list_all p items) e) here

range_same : (p q : ℕ → Bool) (from count limit : ℕ) → from + count ≤ limit → ((rank : ℕ) → rank < limit → p rank ≡ q rank)
    → list_all p (range_with_len from count) ≡ list_all q (range_with_len from count)
range_same p q from zero limit fits same = refl
range_same p q from (suc count) limit fits same =
    let here : p from ≡ q from = same from (omega arith) in
    let behind : list_all p (range_with_len (from + 1) count) ≡ list_all q (range_with_len (from + 1) count) = range_same p q (from + 1) count limit (omega arith) same in
    cc

-- the clocks of a well formed pass
pub short_pass : (s : Settings) (dt : ℕ) (clocks : List (Rank × ℕ)) → is_well_formed s (event.Pass dt clocks) ≡ true → dt ≤ 1000000000
unfolding is_well_formed
short_pass s dt clocks formed =
    let in_range : is_between 1 1000000000 dt ≡ true = first_of_both _ (list_all (is_clock s) clocks) (first_of_both _ _ formed) in
    leb-true dt 1000000000 (second_of_both (nat_le 1 dt) _ in_range)

pub clocks_configured : (s : Settings) (dt : ℕ) (clocks : List (Rank × ℕ)) → is_well_formed s (event.Pass dt clocks) ≡ true → list_all (is_clock s) clocks ≡ true
unfolding is_well_formed
clocks_configured s dt clocks formed = second_of_both (is_between 1 1000000000 dt) _ (first_of_both _ _ formed)

-- every clock that is named is that of a seat
pub clock_within : (w : Nodes) (dt : ℕ) (clocks : List (Rank × ℕ)) (place : ℕ) (clock : Rank × ℕ) → IsStanding w
    → is_well_formed w.settings (event.Pass dt clocks) ≡ true → slice_get clocks place ≡ Some clock → clock.0.0 < length w.seats
clock_within w dt clocks place clock standing formed here =
    subst (λ count. clock.0.0 < count) (sym standing.1.count)
    (ltb-true clock.0.0 (length w.settings.nodes)
    (first_of_both (is_configured w.settings clock.0.0) _ (list_all_at (is_clock w.settings) clocks place clock (clocks_configured w.settings dt clocks formed) here)))

pub on_same : (w : Nodes) (d : World) (rank : ℕ) → ClusterFor w d.moments → rank < length w.seats → on_at w rank ≡ is_on w.settings rank d
on_same w d rank is within =
    let there = item_there w.seats rank within in
    ap (λ seat. option_map_or (λ seat. seat.on) seat false) there.1 ∙ (is.nodes rank there.0 there.1).runs

passes_same : (w : Nodes) (t : Timing) (d : World) (dt : ℕ) (clocks : List (Rank × ℕ)) (rank : ℕ) → ClusterFor w d.moments → rank < length w.seats
    → passes_at t.watchdog w dt clocks rank ≡ passes t dt (advance_of dt clocks rank) (time d.moments) (node_at w.settings rank d)
passes_same w t d dt clocks rank is within =
    let there = item_there w.seats rank within in
    ap (λ seat. option_map_or (λ seat. lives_through t.watchdog dt (advance_of dt clocks rank) (w.time + dt) seat) seat true) there.1
    ∙ lives_rule w t d rank there.0 dt (advance_of dt clocks rank) (w.time + dt) is there.1 refl

-- rule 1
pub pass_rule : (w : Nodes) (t : Timing) (d : World) (dt : ℕ) (clocks : List (Rank × ℕ)) → ClusterFor w d.moments → is_well_formed w.settings (event.Pass dt clocks) ≡ true
    → (list_all (λ clock. on_at w clock.0.0) clocks && list_all (passes_at t.watchdog w dt clocks) (range_with_len 0 (length w.seats)))
    ≡ may_pass w.settings t dt clocks d
pass_rule w t d dt clocks is formed =
    let clocks_same : list_all (λ clock. on_at w clock.0.0) clocks ≡ list_all (λ clock. is_on w.settings clock.0.0 d) clocks =
    list_all_same (is_clock w.settings) (λ clock. on_at w clock.0.0) (λ clock. is_on w.settings clock.0.0 d) clocks (clocks_configured w.settings dt clocks formed)
    (λ clock good. on_same w d clock.0.0 is
    (subst (λ count. clock.0.0 < count) (sym is.count) (ltb-true clock.0.0 (length w.settings.nodes) (first_of_both (is_configured w.settings clock.0.0) _ good)))) in
    let ranks_same : list_all (passes_at t.watchdog w dt clocks) (range_with_len 0 (length w.seats))
    ≡ list_all (λ rank. passes t dt (advance_of dt clocks rank) (time d.moments) (node_at w.settings rank d)) (range_with_len 0 (length w.settings.nodes)) =
    range_same (passes_at t.watchdog w dt clocks) (λ rank. passes t dt (advance_of dt clocks rank) (time d.moments) (node_at w.settings rank d)) 0 (length w.seats) (length w.seats)
    (omega arith) (λ rank below. passes_same w t d dt clocks rank is below)
    ∙ ap (λ count. list_all (λ rank. passes t dt (advance_of dt clocks rank) (time d.moments) (node_at w.settings rank d)) (range_with_len 0 count)) is.count in
    cc

-- the watchdog of safe timing
pub short_watchdog : (t : Timing) → is_safe t ≡ true → t.watchdog ≤ LONGEST_PERIOD
short_watchdog t safe =
    leb-true t.watchdog LONGEST_PERIOD (second_of_both (nat_le 1 t.watchdog) _ (first_of_both _ _ (first_of_both _ _ (first_of_both _ _ (first_of_both _ _ (first_of_both _ _ safe))))))

pub few_seats : (w : Nodes) → IsStanding w → length w.seats ≤ 32
few_seats w standing = subst (λ count. count ≤ 32) (sym standing.1.count) standing.1.valid.few_nodes

all_behind : {A : Type 0} (p : A → Bool) (items : List A) (place : ℕ) (item : A) → slice_get items place ≡ Some item
    → list_all p (drop place items) ≡ (p item && list_all p (drop (suc place) items))
all_behind p [] place item here = absurd (cc)
all_behind p (first ∷ items) zero item here = let z : first ≡ item = cc in ap (λ x. p x && list_all p items) z
all_behind p (first ∷ items) (suc place) item here = all_behind p items place item here

-- one item more passes
pub all_of_more : {A : Type 0} (p : A → Bool) (items : List A) (place : ℕ) (item : A) (all : Bool) → slice_get items place ≡ Some item → p item ≡ true
    → list_all p (drop place items) ≡ all → list_all p (drop (place + 1) items) ≡ all
all_of_more p items place item all here passes was =
    rw add-one (sym (all_behind p items place item here ∙ ap (λ b. b && list_all p (drop (suc place) items)) passes) ∙ was)

pub one_of_all_fails : {A : Type 0} (p : A → Bool) (items : List A) (place : ℕ) (item : A) (all : Bool) → slice_get items place ≡ Some item → p item ≡ false
    → list_all p (drop place items) ≡ all → false ≡ all
one_of_all_fails p items place item all here fails was =
    sym (all_behind p items place item here ∙ ap (λ b. b && list_all p (drop (suc place) items)) fails) ∙ was

-- both halves of a test
pub both_tests : (r on lives : Bool) → (on ≡ true) → r ≡ lives → r ≡ (on && lives)
both_tests r on lives e same = same ∙ ap (λ on. on && lives) (sym e)

pub first_test : (r on lives : Bool) → (on ≡ false) → r ≡ false → r ≡ (on && lives)
first_test r on lives e same = same ∙ ap (λ on. on && lives) (sym e)
