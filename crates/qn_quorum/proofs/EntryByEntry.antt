-- One entry more, and the answer, of a count that stands for a vote list.
use Rattle.std.proofs.Common.{◌≡◌, ℕ, ◌+◌, ◌^◌, ◌<◌, Bool, true, false, Option, None, Some, List, ◌∷◌, refl, ap, ◌∙◌}
use Rattle.std.specs.Prelude.{◌&&◌, nat_le, nat_lt, is_some, if◌then◌else◌}
use Rattle.std.specs.Option.{option_map, option_map_or}
use Rattle.qn_base.specs.declared.ids.View.{View}
use Rattle.qn_model.specs.declared.configuration.Device.{Device}
use Rattle.qn_model.specs.declared.configuration.Settings.{Settings}
use Rattle.qn_model.specs.declared.votes.VoteEntry.{VoteEntry}
use Rattle.qn_model.specs.declared.votes.VoteWhat.TheVariants as what
use Rattle.qn_model.specs.Votes.{answer_at, counted_votes, device_yes, expected_votes, is_released, present_view, quorum_of, raised, view_tick, votes_among, votes_of_device}
use Rattle.qn_quorum.specs.declared.deadlines.Deadline.{Deadline}
use Rattle.qn_quorum.specs.declared.counting.Present.{Present}
use Rattle.qn_quorum.specs.declared.counting.Quorum.{Quorum}
use Rattle.qn_quorum.specs.Agreed.{agreed_until}
use Rattle.qn_quorum.specs.Counting.{count_at, counted, is_last_man, votes_at, votes_of_device as device_votes, with_agreed, with_device, with_last_man, with_view}
use Rattle.qn_quorum.specs.Deadline.{deadline_at}
use Rattle.qn_quorum.specs.Quorum.{QuorumFor, present_of}
use Rattle.qn_quorum.proofs.Spans.{reached, with_agreed_votes}

-- a count has taken an entry in, and last man standing is still to be asked
record Taken (q : Quorum) (s : Settings) (entry : VoteEntry) (past : List VoteEntry) : Type 0 where
  has_settings : q.settings ≡ s
  has_present : q.present ≡ present_of s (entry ∷ past)
  has_expected : q.expected ≡ raised s entry.what (expected_votes s past)
  has_released : q.released ≡ is_released s (entry ∷ past)

-- what is kept of a view
abbrev kept_of : Settings → ℕ → Option Deadline → View → Present
kept_of s since until view = record { votes = votes_among s.nodes view.members; votes_with_device = votes_among s.nodes view.members + device_votes s; window_end = deadline_at (since + s.window); agreed_until = until }

-- no view, no last man
no_last_man : (on timely released enough fewer : Bool) (before : ℕ)
    → before ≡ (if on && false && timely && released && enough && fewer then 0 else before)
no_last_man true timely released enough fewer before = refl
no_last_man false timely released enough fewer before = refl

with_view_there : (on : Bool) → on && true ≡ on
with_view_there true = refl
with_view_there false = refl

-- last man standing, over a view that may not be there
last_man : (q : Quorum) (s : Settings) (view : Option View) (since : ℕ) (until : Option Deadline) (released : Bool) (before now : ℕ)
    → now < 2 ^ 64
    → q.settings ≡ s → q.released ≡ released → q.expected ≡ before
    → option_map_or (λ p. if is_last_man q p now then p.votes else q.expected) (option_map (kept_of s since until) view) q.expected
    ≡ (let votes = option_map_or (λ v. votes_among s.nodes v.members) view 0 in
    if s.last_man_standing && is_some view && nat_le (since + s.window) now && released && nat_le (quorum_of s before) votes && nat_lt votes before then votes else before)
last_man q s None since until released before now small settings free expects =
    expects ∙ no_last_man s.last_man_standing (nat_le (since + s.window) now) released (nat_le (quorum_of s before) 0) (nat_lt 0 before) before
last_man q s (Some view) since until released before now small settings free expects =
    rw (settings, free, expects, reached (since + s.window) now small, with_view_there s.last_man_standing)

-- a count that took an entry in stands for the list once last man standing was asked
asked : (q : Quorum) (s : Settings) (entry : VoteEntry) (past : List VoteEntry) → entry.tick < 2 ^ 64
    → Taken q s entry past → QuorumFor (with_last_man entry.tick q) s (entry ∷ past)
unfolding expected_votes
asked q s entry past small taken = record {
  has_settings = taken.has_settings;
  has_present = taken.has_present;
  has_expected =
      ap (λ present. option_map_or (λ p. if is_last_man q p entry.tick then p.votes else q.expected) present q.expected) taken.has_present
      ∙ last_man q s (present_view (entry ∷ past)) (view_tick (entry ∷ past)) (agreed_until s.device (device_yes (entry ∷ past))) (is_released s (entry ∷ past)) (raised s entry.what (expected_votes s past)) entry.tick small taken.has_settings taken.has_released taken.has_expected;
  has_released = taken.has_released;
}

no_yes : (device : Option Device) → agreed_until device None ≡ None
no_yes None = refl
no_yes (Some device) = refl

-- another answer of the device under the same view
kept_again : (s : Settings) (since : ℕ) (before until : Option Deadline) (view : Option View)
    → option_map (with_agreed until) (option_map (kept_of s since before) view) ≡ option_map (kept_of s since until) view
kept_again s since before until None = refl
kept_again s since before until (Some view) = refl

-- the entries
pub view_stands : (q : Quorum) (s : Settings) (tick : ℕ) (view : View) (past : List VoteEntry) → tick < 2 ^ 64 → QuorumFor q s past
    → QuorumFor (with_last_man tick (with_view tick view q)) s (record { tick = tick; what = what.View view } ∷ past)
unfolding present_view view_tick is_released device_yes
view_stands q s tick view past small stands =
    asked (with_view tick view q) s (record { tick = tick; what = what.View view }) past small (record {
      has_settings = stands.has_settings;
      has_present = rw (stands.has_settings, no_yes s.device);
      has_expected = rw (stands.has_settings, stands.has_expected);
      has_released = rw (stands.has_settings, stands.has_released);
    })

pub device_stands : (q : Quorum) (s : Settings) (tick : ℕ) (agrees : Bool) (past : List VoteEntry) → tick < 2 ^ 64 → QuorumFor q s past
    → QuorumFor (with_last_man tick (with_device tick agrees q)) s (record { tick = tick; what = what.Device agrees } ∷ past)
unfolding present_view view_tick is_released device_yes
device_stands q s tick agrees past small stands =
    asked (with_device tick agrees q) s (record { tick = tick; what = what.Device agrees }) past small (record {
      has_settings = stands.has_settings;
      has_present =
          (let until = agreed_until s.device (if agrees then Some tick else None) in
          rw (stands.has_settings, stands.has_present) (kept_again s (view_tick past) (agreed_until s.device (device_yes past)) until (present_view past)));
      has_expected = stands.has_expected;
      has_released = stands.has_released;
    })

pub release_stands : (q : Quorum) (s : Settings) (tick : ℕ) (past : List VoteEntry) → tick < 2 ^ 64 → QuorumFor q s past
    → QuorumFor (with_last_man tick (record q { released = true })) s (record { tick = tick; what = what.Released } ∷ past)
unfolding present_view view_tick is_released device_yes
release_stands q s tick past small stands =
    asked (record q { released = true }) s (record { tick = tick; what = what.Released }) past small (record {
      has_settings = stands.has_settings;
      has_present = stands.has_present;
      has_expected = stands.has_expected;
      has_released = refl;
    })

pub tick_stands : (q : Quorum) (s : Settings) (tick : ℕ) (past : List VoteEntry) → tick < 2 ^ 64 → QuorumFor q s past
    → QuorumFor (with_last_man tick q) s (record { tick = tick; what = what.Tick } ∷ past)
unfolding present_view view_tick is_released device_yes
tick_stands q s tick past small stands =
    asked q s (record { tick = tick; what = what.Tick }) past small (record {
      has_settings = stands.has_settings;
      has_present = stands.has_present;
      has_expected = stands.has_expected;
      has_released = stands.has_released;
    })

-- the votes that count, over a view that may not be there
counted_same : (s : Settings) (view : Option View) (since : ℕ) (agreed : Option ℕ) (now : ℕ) → now < 2 ^ 64
    → option_map_or (votes_at now) (option_map (kept_of s since (agreed_until s.device agreed)) view) 0
    ≡ (if is_some view then option_map_or (λ v. votes_among s.nodes v.members) view 0 + (if s.last_man_standing then 0 else option_map_or (λ d. votes_of_device d agreed now) s.device 0) else 0)
counted_same s None since agreed now small = refl
counted_same s (Some view) since agreed now small =
    with_agreed_votes s.last_man_standing s.device agreed (votes_among s.nodes view.members) now small

is_some-kept : (s : Settings) (since : ℕ) (until : Option Deadline) (view : Option View)
    → is_some (option_map (kept_of s since until) view) ≡ is_some view
is_some-kept s since until None = refl
is_some-kept s since until (Some view) = refl

-- a count that stands for a vote list answers as the list does
pub count_stands : (q : Quorum) (s : Settings) (votes : List VoteEntry) (now : ℕ) → now < 2 ^ 64 → QuorumFor q s votes
    → count_at q now ≡ answer_at s votes now
unfolding answer_at
count_stands q s votes now small stands =
    let until = agreed_until s.device (device_yes votes) in
    let some : is_some q.present ≡ is_some (present_view votes) = ap is_some stands.has_present ∙ is_some-kept s (view_tick votes) until (present_view votes) in
    let sum : counted q now ≡ counted_votes s votes now =
    ap (λ present. option_map_or (votes_at now) present 0) stands.has_present
    ∙ counted_same s (present_view votes) (view_tick votes) (device_yes votes) now small in
    cc
