-- Two nodes with disjoint views that are both quorate both count the device.
use Rattle.std.proofs.Common.{◌≡◌, ℕ, ◌+◌, ◌/◌, ◌<◌, ◌≤◌, Bool, true, false, List, Some, None, Option, refl, sym, ap, ◌∙◌, arith, is_some, ◌&&◌, ◌||◌, if◌then◌else◌, ◌⊎◌, inl, inr, nat_lt, ◌*◌, ◌==◌}
use Rattle.std.specs.Option.{option_map_or}
use Rattle.std.proofs.lemmas.Bool.{leb-true, ltb-true, false≢true, true≢false}
use Rattle.qn_base.specs.declared.ids.View.{View}
use Rattle.qn_model.specs.declared.configuration.Device.{Device}
use Rattle.qn_model.specs.declared.configuration.Settings.{Settings}
use Rattle.qn_model.specs.declared.votes.VoteEntry.{VoteEntry}
use Rattle.qn_model.specs.Settings.{IsValid, all_votes}
use Rattle.qn_model.specs.Tie.{breaks_tie, is_quorate_with_tie, is_seen, tie_node}
use Rattle.qn_model.specs.Votes.{counted_votes, device_votes, device_yes, expected_votes, is_quorate, is_released, present_view, quorum_of, view_votes, votes_among, votes_of_device}
use Rattle.qn_base.specs.declared.ids.Rank.{Rank}

-- the device's yes of a node still counts at a tick
pub record CountsDevice (past : List VoteEntry) (device : Device) (now : ℕ) : Type 0 where
  pub since : ℕ
  pub agreed : device_yes past ≡ Some since
  pub counts : now < since + device.timeout

last_of : (a b c : Bool) → (a && b && c) ≡ true → c ≡ true
last_of true true c all = all
last_of true false c all = absurd (false≢true all)
last_of false b c all = absurd (false≢true all)

-- without an order no tie is broken
no_tie_node : (s : Settings) (past : List VoteEntry) → s.tie ≡ None → breaks_tie s past ≡ false
no_tie_node s past none =
    ap (λ (o : Option Rank). (2 * view_votes s past == expected_votes s past) && option_map_or (λ rank. is_seen past rank.0) o false)
    (node_none s past none) ∙ and_false (2 * view_votes s past == expected_votes s past)
  where
    node_none : (s : Settings) (past : List VoteEntry) → s.tie ≡ None → tie_node s past ≡ None
    node_none s past none = rw none refl

    and_false : (b : Bool) → (b && false) ≡ false
    and_false true = refl
    and_false false = refl

by_votes : (quorate free breaks : Bool) → breaks ≡ false → (quorate || (free && breaks)) ≡ true → quorate ≡ true
by_votes true free breaks none e = refl
by_votes false true breaks none e = absurd (true≢false (sym e ∙ none))
by_votes false false breaks none e = absurd (false≢true e)

-- the settings of the law of one leased vote
pub record Leased (s : Settings) (device : Device) : Type 0 where
  pub one_vote_apart : s.two_node ≡ false
  pub no_tie : s.tie ≡ None
  pub no_last_man : s.last_man_standing ≡ false
  pub has_device : s.device ≡ Some device
  pub whole : all_votes s.nodes + device.votes ≤ s.expected

tie_of : (s : Settings) (device : Device) → IsValid s → s.device ≡ Some device → s.tie ≡ None
tie_of s device valid has = by_tie s.tie refl
  where
    by_tie : (o : Option (List Rank)) → s.tie ≡ o → o ≡ None
    by_tie None e = refl
    by_tie (Some order) e = absurd (true≢false (sym (ap is_some has) ∙ (valid.tie_alone (ap is_some e)).1))

two_of : (s : Settings) (device : Device) → IsValid s → s.device ≡ Some device → s.two_node ≡ false
two_of s device valid has = by_two s.two_node refl
  where
    by_two : (b : Bool) → s.two_node ≡ b → b ≡ false
    by_two false e = refl
    by_two true e = absurd (true≢false (sym (ap is_some has) ∙ valid.two_alone e))

pub leased_of : (s : Settings) (device : Device) → IsValid s → s.device ≡ Some device → s.last_man_standing ≡ false → all_votes s.nodes + device.votes ≤ s.expected → Leased s device
leased_of s device valid has no_last whole = record {
  one_vote_apart = two_of s device valid has;
  no_tie = tie_of s device valid has;
  no_last_man = no_last;
  has_device = has;
  whole = whole;
}

-- the votes of a node that is quorate, with those of the device
record Needs (s : Settings) (device : Device) (past : List VoteEntry) (now : ℕ) (view : View) : Type 0 where
  enough : expected_votes s past / 2 + 1 ≤ votes_among s.nodes view.members + votes_of_device device (device_yes past) now

counted_in : (present : Option View) (counts : View → ℕ) (more : ℕ) (view : View) → present ≡ Some view
    → (if is_some present then option_map_or counts present 0 + more else 0) ≡ counts view + more
counted_in present counts more view seen = rw seen refl

needs : (s : Settings) (device : Device) (past : List VoteEntry) (now : ℕ) (view : View) → Leased s device → present_view past ≡ Some view
    → is_quorate_with_tie s past now ≡ true → Needs s device past now view
needs s device past now view leased seen quorate =
    let votes = by_votes (is_quorate s past now) (is_released s past) (breaks_tie s past) (no_tie_node s past leased.no_tie) quorate in
    let enough : quorum_of s (expected_votes s past) ≤ counted_votes s past now = leb-true _ _ (last_of (is_some (present_view past)) (is_released s past) _ votes) in
    let half : quorum_of s (expected_votes s past) ≡ expected_votes s past / 2 + 1 = ap (λ (b : Bool). if b then 1 else expected_votes s past / 2 + 1) leased.one_vote_apart in
    let device_counts : device_votes s past now ≡ votes_of_device device (device_yes past) now =
    ap (λ (b : Bool). if b then 0 else option_map_or (λ d. votes_of_device d (device_yes past) now) s.device 0) leased.no_last_man
    ∙ ap (λ o. option_map_or (λ d. votes_of_device d (device_yes past) now) o 0) leased.has_device in
    let counted : counted_votes s past now ≡ votes_among s.nodes view.members + device_votes s past now =
    counted_in (present_view past) (λ v. votes_among s.nodes v.members) (device_votes s past now) view seen in
    record { enough = omega arith }

-- the device's votes, or none
device_counts : (device : Device) (past : List VoteEntry) (now : ℕ) → CountsDevice past device now ⊎ (votes_of_device device (device_yes past) now ≡ 0)
device_counts device past now = by_yes (device_yes past) refl
  where
    by_test : (since : ℕ) (b : Bool) → device_yes past ≡ Some since → nat_lt now (since + device.timeout) ≡ b
        → CountsDevice past device now ⊎ ((if b then device.votes else 0) ≡ 0)
    by_test since true agreed e = inl (record { since = since; agreed = agreed; counts = ltb-true now (since + device.timeout) e })
    by_test since false agreed e = inr refl

    by_yes : (o : Option ℕ) → device_yes past ≡ o → CountsDevice past device now ⊎ (votes_of_device device o now ≡ 0)
    by_yes None e = inr refl
    by_yes (Some since) e = by_test since (nat_lt now (since + device.timeout)) e refl

device_at_most : (device : Device) (o : Option ℕ) (now : ℕ) → votes_of_device device o now ≤ device.votes
device_at_most device None now = omega arith
device_at_most device (Some since) now = by_test (nat_lt now (since + device.timeout))
  where
    by_test : (b : Bool) → (if b then device.votes else 0) ≤ device.votes
    by_test true = omega arith
    by_test false = omega arith

-- of two quorate nodes with disjoint views the first one counts the device
pub must_count : (s : Settings) (device : Device) (first second : List VoteEntry) (now later : ℕ) (left right : View) → Leased s device
    → present_view first ≡ Some left → present_view second ≡ Some right
    → votes_among s.nodes left.members + votes_among s.nodes right.members ≤ all_votes s.nodes
    → s.expected ≤ expected_votes s first → s.expected ≤ expected_votes s second
    → is_quorate_with_tie s first now ≡ true → is_quorate_with_tie s second later ≡ true → CountsDevice first device now
must_count s device first second now later left right leased seen also together kept also_kept quorate also_quorate =
    by_device (device_counts device first now)
  where
    by_device : CountsDevice first device now ⊎ (votes_of_device device (device_yes first) now ≡ 0) → CountsDevice first device now
    by_device (inl counts) = counts
    by_device (inr none) =
        let one = (needs s device first now left leased seen quorate).enough in
        let other = (needs s device second later right leased also also_quorate).enough in
        let most = device_at_most device (device_yes second) later in
        let whole = leased.whole in
        absurd (omega arith)
