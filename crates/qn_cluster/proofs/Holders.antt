-- Which seats hold the resource, as a mask.
use Rattle.std.proofs.Common.{◌≡◌, ℕ, suc, zero, ◌+◌, ◌-◌, ◌*◌, ◌%◌, ◌^◌, ◌<◌, ◌≤◌, Bool, true, false, ◌&&◌, List, length, Some, ◌⊎◌, inl, inr, if◌then◌else◌, refl, sym, ◌∙◌, ap, subst, arith}
use Rattle.std.specs.Prelude.{fold, filter, bit_or, slice_get, slice_set, ◌==◌}
use Rattle.std.specs.List.{range_with_len}
use Rattle.std.specs.Option.{option_map_or}
use Rattle.std.proofs.lemmas.List.{length-set}
use Rattle.std.proofs.lemmas.Nat.{one_shl}
use Rattle.qn_base.specs.declared.ids.Mask.{Mask}
use Rattle.qn_base.specs.lemmas.Lists.{get_set_other}
use Rattle.qn_base.specs.lemmas.Numbers.{same_or_not}
use Rattle.qn_model.specs.declared.configuration.Settings.{Settings}
use Rattle.qn_model.specs.Holding.{holds}
use Rattle.qn_model.specs.Moments.{Running, is_holder, node}
use Rattle.qn_model.specs.Steps.{holders}
use Rattle.qn_model.specs.World.{World}
use Rattle.qn_cluster.specs.declared.seat.Seat.{Seat}
use Rattle.qn_cluster.specs.Holders.{holders_among, holds_at}
use Rattle.qn_cluster.specs.Nodes.{Nodes}
use Rattle.qn_cluster.specs.Seats.{SeatFor}
use Rattle.qn_cluster.specs.Standing.{ClusterFor}
use Rattle.qn_cluster.proofs.Lists.{item_there}

-- the mask of the numbers from one on, among the next so many, that pass a test, added to a mask
abbrev pub mask_from : ℕ → ℕ → (ℕ → Bool) → ℕ → ℕ
mask_from from count test mask = fold (λ mask rank. bit_or mask (2 ^ rank)) mask (filter test (range_with_len from count))

pub mask_from-more : (from count mask : ℕ) (test : ℕ → Bool) (b : Bool) → test from ≡ b
    → mask_from from (suc count) test mask ≡ mask_from (from + 1) count test (if b then bit_or mask (2 ^ from) else mask)
mask_from-more from count mask test true e = rw e
mask_from-more from count mask test false e = rw e

-- the same where so many are left up to an end
pub mask_from-next : (from end mask : ℕ) (test : ℕ → Bool) (b : Bool) → from < end → test from ≡ b
    → mask_from from (end - from) test mask ≡ mask_from (from + 1) (end - (from + 1)) test (if b then bit_or mask (2 ^ from) else mask)
mask_from-next from end mask test b below e =
    let left : end - from ≡ suc (end - (from + 1)) = omega arith in
    ap (λ count. mask_from from count test mask) left ∙ mask_from-more from (end - (from + 1)) mask test b e

pub mask_from-none : (from count mask : ℕ) (test : ℕ → Bool) → count ≡ 0 → mask_from from count test mask ≡ mask
mask_from-none from count mask test none = ap (λ count. mask_from from count test mask) none

-- one place more, at which the test holds or not
pub one_held : (mask next from end : ℕ) (test : ℕ → Bool) (held : Bool) → from < end → from < 32 → held ≡ true → held ≡ test from
    → next ≡ bit_or mask (1 * 2 ^ from % 2 ^ 32)
    → mask_from (from + 1) (end - (from + 1)) test next ≡ mask_from from (end - from) test mask
one_held mask next from end test held below fits it_holds same is =
    ap (mask_from (from + 1) (end - (from + 1)) test) (is ∙ ap (bit_or mask) (one_shl from 32 fits)) ∙ sym (mask_from-next from end mask test true below (sym same ∙ it_holds))

pub one_free : (mask next from end : ℕ) (test : ℕ → Bool) (held : Bool) → from < end → held ≡ false → held ≡ test from → next ≡ mask
    → mask_from (from + 1) (end - (from + 1)) test next ≡ mask_from from (end - from) test mask
one_free mask next from end test held below it_is_free same is =
    ap (mask_from (from + 1) (end - (from + 1)) test) is ∙ sym (mask_from-next from end mask test false below (sym same ∙ it_is_free))

-- tests that agree at these numbers have one mask
pub mask_from-same : (from count mask : ℕ) (f g : ℕ → Bool) → ((rank : ℕ) → from ≤ rank → rank < from + count → f rank ≡ g rank)
    → mask_from from count f mask ≡ mask_from from count g mask
mask_from-same from zero mask f g same = refl
mask_from-same from (suc count) mask f g same =
    mask_from-more from count mask f (f from) refl
    ∙ mask_from-same (from + 1) count (if f from then bit_or mask (2 ^ from) else mask) f g (λ rank above below. same rank (omega arith) (omega arith))
    ∙ sym (mask_from-more from count mask g (f from) (sym (same from (omega arith) (omega arith))))

-- seats that hold at the same ranks
pub holders_alike : (seats others : List Seat) → length others ≡ length seats → ((rank : ℕ) → rank < length seats → holds_at others rank ≡ holds_at seats rank)
    → holders_among others ≡ holders_among seats
holders_alike seats others count same =
    ap (λ (m : ℕ). record { 0 = m })
    (ap (λ k. mask_from 0 k (holds_at others) 0) count
    ∙ mask_from-same 0 (length seats) 0 (holds_at others) (holds_at seats) (λ rank above below. same rank (omega arith)))

pub holds_there : (seats : List Seat) (i : ℕ) (seat : Seat) → slice_get seats i ≡ Some seat → holds_at seats i ≡ (seat.on && seat.held)
holds_there seats i seat here = ap (λ found. option_map_or (λ (seat : Seat). seat.on && seat.held) found false) here

-- a seat that holds as the one before it
pub holders_set : (seats : List Seat) (i : ℕ) (new : Seat) → holds_at (slice_set seats i new) i ≡ holds_at seats i
    → holders_among (slice_set seats i new) ≡ holders_among seats
holders_set seats i new kept = holders_alike seats (slice_set seats i new) (length-set seats i new) (λ rank below. at rank (same_or_not i rank))
  where
    at : (rank : ℕ) → (i ≡ rank) ⊎ ((i == rank) ≡ false) → holds_at (slice_set seats i new) rank ≡ holds_at seats rank
    at rank (inl same) = subst (λ k. holds_at (slice_set seats i new) k ≡ holds_at seats k) same kept
    at rank (inr apart) = ap (λ found. option_map_or (λ (seat : Seat). seat.on && seat.held) found false) (get_set_other seats i rank new apart)

-- the mask is kept where another seat in place of one holds as that one did
pub still_held : (seats others : List Seat) (i k : ℕ) (new : Seat) (held : Bool) (mask : Mask) → k ≡ i → others ≡ slice_set seats k new
    → held ≡ holds_at seats i → mask ≡ holders_among seats → held ≡ holds_at others i → mask ≡ holders_among others
still_held seats others i k new held mask at is was known now =
    let placed : others ≡ slice_set seats i new = is ∙ ap (λ p. slice_set seats p new) at in
    known ∙ sym (ap holders_among placed ∙ holders_set seats i new (sym (ap (λ o. holds_at o i) placed) ∙ (sym now ∙ was)))

seat_holds : (seat : Seat) (s : Settings) (me : ℕ) (node : Running) → SeatFor seat s me node → (seat.on && seat.held) ≡ (node.on && holds node.log)
seat_holds seat s me node is = by_on node.on refl
  where
    by_on : (b : Bool) → node.on ≡ b → (seat.on && seat.held) ≡ (node.on && holds node.log)
    by_on true on = ap (λ b. b && seat.held) is.runs ∙ ap (λ b. node.on && b) (is.running on).holds
    by_on false off = ap (λ b. b && seat.held) (is.runs ∙ off) ∙ sym (ap (λ b. b && holds node.log) off)

-- the seats of a cluster hold where the nodes do that they stand for
pub holders_for : (c : Nodes) (d : World) → ClusterFor c d.moments → holders_among c.seats ≡ holders c.settings d
holders_for c d is =
    ap (λ (m : ℕ). record { 0 = m })
    (ap (λ k. mask_from 0 k (holds_at c.seats) 0) is.count
    ∙ mask_from-same 0 (length c.settings.nodes) 0 (holds_at c.seats) (is_holder c.settings d.moments) (λ rank above below. at rank (let count = is.count in omega arith)))
  where
    at : (rank : ℕ) → rank < length c.seats → holds_at c.seats rank ≡ is_holder c.settings d.moments rank
    at rank below =
        let there = item_there c.seats rank below in
        holds_there c.seats rank there.0 there.1
        ∙ seat_holds there.0 c.settings rank (node c.settings rank d.moments) (is.nodes rank there.0 there.1)
