-- Settings without a fault are valid.
use Rattle.std.proofs.Common.{◌≡◌, ℕ, ◌≤◌, ◌==◌, not, cond, ◌&&◌, Bool, true, false, List, [], ◌∷◌, ◌++◌, map, length, Option, Some, None, refl, sym, arith, if◌then◌else◌}
use Rattle.std.specs.Prelude.{All, IsTrue, IsNone, IsSome, IfSome, nat_lt, option_map, is_some, find, unwrap_or}
use Rattle.std.specs.Option.{option_map_or}
use Rattle.std.specs.List.{list_all, position_from}
use Rattle.std.proofs.lemmas.Bool.{false≢true, and_parts}
use Rattle.std.proofs.lemmas.List.{length-map}
use Rattle.std.proofs.lemmas.List.Elements.{All-cons}
use borrow.Author.Tests.{ltb-false, eqb-false, eqb-true}
use Rattle.qn_base.specs.declared.ids.Rank.{Rank}
use Rattle.qn_model.specs.declared.nodelist.NodeEntry.{NodeEntry}
use Rattle.qn_model.specs.declared.configuration.Device.{Device}
use Rattle.qn_model.specs.Settings.{all_votes, IsPeriod, IsValid}
use Rattle.qn_settings.specs.declared.key.Key.TheVariants as keys
use Rattle.qn_settings.specs.declared.entries.Entry.{Entry}
use Rattle.qn_settings.specs.declared.faults.SettingsFault.{SettingsFault}
use Rattle.qn_settings.specs.declared.faults.SettingsFault.TheVariants.{ExpectedZero, LmsVotes, NoId, NoNodes, NoVotes, RepeatedId, TieDevice, TieTwoNode, TooManyNodes, TwoNodeCount, TwoNodeDevice, TwoNodeVotes}
use Rattle.qn_settings.specs.Answer.{device_of, fault_in, filled, has_one_vote, value_faults, vote_faults}
use Rattle.qn_settings.specs.Nodes.{lacks_id, node_faults, node_of, nodes_of, repeated_in, sections}
use Rattle.qn_settings.specs.Values.{bad_number_in, first_some, flag, has_device, number}
use Rattle.qn_settings.proofs.NodeLemmas.{All-fold, Ascends-fold, length-fold, strictly}
use Rattle.qn_settings.proofs.TieLemmas.{IsOrder-tie_of}
use Rattle.qn_settings.proofs.ValueLemmas.{default-range, delays_fit, good_entries, ids_fit, ids_from_one, votes_fit, or_none}

-- none of several is there
abbrev AllNone : {X : Type 0} → List (Option X) → Type 0
AllNone [] = Unit {0}
AllNone (o ∷ others) = (o ≡ None) × AllNone others

all_none : {X : Type 0} (os : List (Option X)) → first_some os ≡ None → AllNone os
all_none [] e = tt
all_none (o ∷ others) e = let parts = or_none o (first_some others) e in (parts.0, all_none others parts.1)

no_fault : (b : Bool) (fault : SettingsFault) → cond b (Some fault) None ≡ None → b ≡ false
no_fault true fault e = cc
no_fault false fault e = refl

map_none : {X Y : Type 0} (f : X → Y) (o : Option X) → option_map f o ≡ None → o ≡ None
map_none f None e = refl
map_none f (Some x) e = cc

both : (a b : Bool) → (a && not b) ≡ false → IsTrue a → b ≡ true
both true true e is = refl
both true false e is = absurd (false≢true (sym e))
both false b e is = absurd (false≢true is)

neither : (a b : Bool) → (a && b) ≡ false → IsTrue a → b ≡ false
neither true true e is = absurd (false≢true (sym e))
neither true false e is = refl
neither false b e is = absurd (false≢true is)

one_vote_each : (nodes : List NodeEntry) → list_all has_one_vote nodes ≡ true → All (λ n. n.votes ≡ 1) nodes
one_vote_each [] e = λ k d within. absurd (omega arith)
one_vote_each (node ∷ nodes) e =
    let parts = and_parts (has_one_vote node) _ e
    in All-cons (λ n. n.votes ≡ 1) node nodes (eqb-true node.votes 1 parts.0) (one_vote_each nodes parts.1)

not_found : (b : Bool) (node : NodeEntry) (rest : Option NodeEntry) → cond (not b) (Some node) rest ≡ None → (b ≡ true) × (rest ≡ None)
not_found true node rest e = (refl, e)
not_found false node rest e = cc

none_found : (nodes : List NodeEntry) → find (λ node. not (has_one_vote node)) nodes ≡ None → All (λ n. n.votes ≡ 1) nodes
none_found [] e = λ k d within. absurd (omega arith)
none_found (node ∷ nodes) e =
    let parts = not_found (has_one_vote node) node _ e
    in All-cons (λ n. n.votes ≡ 1) node nodes (eqb-true node.votes 1 parts.0) (none_found nodes parts.1)

last_man :
    (on : Bool) (nodes : List NodeEntry)
    → (if on then option_map (λ (n : NodeEntry). LmsVotes n.id) (find (λ node. not (has_one_vote node)) nodes) else None) ≡ None
    → IsTrue on → All (λ n. n.votes ≡ 1) nodes
last_man true nodes e is = none_found nodes (map_none (λ (n : NodeEntry). LmsVotes n.id) _ e)
last_man false nodes e is = absurd (false≢true is)

expected_from_one :
    (o : Option ℕ) (sum : ℕ)
    → option_map_or (λ n. if n == 0 then Some ExpectedZero else None) o None ≡ None
    → 1 ≤ sum → 1 ≤ unwrap_or o sum
expected_from_one None sum e some = some
expected_from_one (Some n) sum e some =
    let apart = eqb-false n 0 (no_fault (n == 0) ExpectedZero e) in omega arith

device_period : (there : Bool) (device : Device) → IsPeriod device.timeout → IfSome (if there then Some device else None) (λ d. IsPeriod d.timeout)
device_period true device period = period
device_period false device period = tt

no_device : (device : Option Device) → is_some device ≡ false → IsNone device
no_device None e = refl
no_device (Some device) e = absurd (false≢true (sym e))

-- the breaker, where it has an order, stands without two_node and without a device
tie_alone :
    (on two : Bool) (device : Option Device) (order : Option (List Rank))
    → (if on && is_some device then Some TieDevice else None) ≡ None
    → (if on && two then Some TieTwoNode else None) ≡ None
    → IsSome (if on then order else None) → (two ≡ false) × IsNone device
tie_alone false two device order free single some = absurd (false≢true some)
tie_alone true two device order free single some =
    (no_fault two TieTwoNode single, no_device device (no_fault (is_some device) TieDevice free))

length-nodes : (entries : List Entry) → length (nodes_of entries) ≡ length (sections entries)
length-nodes entries = omega (arith, length-fold [] (map node_of (sections entries)), length-map (sections entries) node_of)

pub votes_fit_all : (entries : List Entry) → All (λ n. n.votes ≤ 65535) (nodes_of entries)
votes_fit_all entries =
    All-fold (λ n. n.votes ≤ 65535) [] (map node_of (sections entries)) (λ k d within. absurd (omega arith)) (votes_fit (sections entries))

delays_fit_all : (entries : List Entry) → All (λ n. n.fence_delay ≤ 3600000) (nodes_of entries)
delays_fit_all entries =
    All-fold (λ n. n.fence_delay ≤ 3600000) [] (map node_of (sections entries)) (λ k d within. absurd (omega arith)) (delays_fit (sections entries))

ids_fit_all : (entries : List Entry) → All (λ n. n.id.0 ≤ 4294967295) (nodes_of entries)
ids_fit_all entries =
    All-fold (λ n. n.id.0 ≤ 4294967295) [] (map node_of (sections entries)) (λ k d within. absurd (omega arith)) (ids_fit (sections entries))

ids_all :
    (entries : List Entry)
    → first_some (map (bad_number_in (has_device entries)) entries) ≡ None
    → position_from lacks_id 1 (sections entries) ≡ None
    → All (λ n. 1 ≤ n.id.0) (nodes_of entries)
ids_all entries good all =
    All-fold (λ n. 1 ≤ n.id.0) [] (map node_of (sections entries)) (λ k d within. absurd (omega arith))
    (ids_from_one (has_device entries) 1 entries (good_entries (has_device entries) entries good) all)

pub IsValid-filled : (entries : List Entry) → fault_in entries ≡ None → IsValid (filled (nodes_of entries) entries)
IsValid-filled entries e =
    let nodes = nodes_of entries
    in let clear = all_none (value_faults entries ++ node_faults entries ++ vote_faults (filled nodes entries) entries) e
    in let bad = clear.1.1
    in let count = eqb-false (length (sections entries)) 0 (no_fault (length (sections entries) == 0) NoNodes bad.1.1.0)
    in let few = ltb-false 32 (length (sections entries)) (no_fault (nat_lt 32 (length (sections entries))) TooManyNodes bad.1.1.1.0)
    in let len = length-nodes entries
    in let once = map_none (λ id. RepeatedId id) (repeated_in nodes) bad.1.1.1.1.0
    in let votes = bad.1.1.1.1.1
    in let some = eqb-false (all_votes nodes) 0 (no_fault (all_votes nodes == 0) NoVotes votes.0)
    in let two = flag keys.TwoNode entries
    in let device = device_of (all_votes nodes) entries
    in record {
      some_node = omega arith;
      few_nodes = omega arith;
      ids_from_one = ids_all entries bad.0 (map_none (λ place. NoId place) (position_from lacks_id 1 (sections entries)) bad.1.0);
      ids_fit = ids_fit_all entries;
      ids_ascend = strictly nodes (Ascends-fold [] (map node_of (sections entries)) tt) once;
      votes_fit = votes_fit_all entries;
      some_vote = omega arith;
      some_expected = expected_from_one (number keys.ExpectedVotes entries) _ votes.1.0 (omega arith);
      window = default-range keys.LastManStandingWindow (1, 3600000) entries 10000 refl (omega arith) (omega arith);
      timeout = device_period (has_device entries) _ (default-range keys.Timeout (1, 3600000) entries 10000 refl (omega arith) (omega arith));
      two_nodes = λ is. eqb-true (length nodes) 2 (both two (length nodes == 2) (no_fault (two && not (length nodes == 2)) TwoNodeCount votes.1.1.0) is);
      two_votes = λ is. one_vote_each nodes (both two (list_all has_one_vote nodes) (no_fault (two && not (list_all has_one_vote nodes)) TwoNodeVotes votes.1.1.1.0) is);
      two_alone = λ is. no_device device (neither two (is_some device) (no_fault (two && is_some device) TwoNodeDevice votes.1.1.1.1.0) is);
      last_man_votes = last_man (flag keys.LastManStanding entries) nodes votes.1.1.1.1.1.0;
      delays_fit = delays_fit_all entries;
      tie_order = IsOrder-tie_of nodes entries (omega arith);
      tie_alone = tie_alone (flag keys.AutoTieBreaker entries) two device _ votes.1.1.1.1.1.1.0 votes.1.1.1.1.1.1.1.0;
    }
