-- Which nodes a fencer names, and what it says of their licences.
use Rattle.std.proofs.Common.{◌≡◌, ℕ, ◌+◌, ◌-◌, ◌<◌, ◌≤◌, Bool, true, false, List, Some, None, refl, ◌&&◌, ◌||◌, not, if◌then◌else◌, sym, ◌∙◌, ap, arith}
use Rattle.std.specs.Prelude.{Option, unwrap_or, ◌==◌, nat_le, is_some, slice_index, IfSome, IfNone}
use Rattle.std.specs.Option.{option_or, option_map, option_map_or}
use Rattle.std.proofs.lemmas.Bool.Decides.{nat_tests}
use Rattle.qn_base.specs.declared.ids.Mask.{Mask}
use Rattle.qn_base.specs.declared.ids.Rank.{Rank}
use Rattle.qn_base.specs.Members.{is_member}
use Rattle.qn_model.specs.declared.configuration.Settings.{Settings}
use Rattle.qn_model.specs.declared.outputs.DiskOp.TheVariants as disk
use Rattle.qn_model.specs.Log.{Line, now, timing}
use Rattle.qn_model.specs.NodeVotes.{is_in_view}
use Rattle.qn_model.specs.Licences.{is_clean, is_fenced, is_licensed, is_slot_seen, is_written, left_to_wait, reset_tick}
use Rattle.qn_model.specs.Unmet.{least_from, least_rank, unfenced}
use Rattle.qn_model.specs.Wanted.{rank_of, to_read, to_reset}
use Rattle.qn_model.specs.LeastMembers.{first-least}
use Rattle.qn_fence.specs.declared.fencing.Fence.{Fence}
use Rattle.qn_fence.specs.Fence.{FenceFor, is_waited_for, left_at, unfenced_at}

-- the ticks that remain, where no tick of the log is past the present one
waited : (at msgwait tick : ℕ) → at ≤ tick → (msgwait - (tick - at) == 0) ≡ nat_le (at + msgwait) tick
waited at msgwait tick before = grind (arith, nat_tests)

lacks : (at msgwait tick : ℕ) → at ≤ tick → msgwait - (tick - at) ≡ at + msgwait - tick
lacks at msgwait tick before = omega arith

waited_where : (written : Option ℕ) (msgwait tick : ℕ) → ((at : ℕ) → written ≡ Some at → at ≤ tick)
    → option_map_or (λ left. left == 0) (option_map (λ at. msgwait - (tick - at)) written) false
    ≡ option_map_or (λ written. nat_le (written + msgwait) tick) written false
waited_where None msgwait tick past = refl
waited_where (Some at) msgwait tick past = waited at msgwait tick (past at refl)

left_where : (written : Option ℕ) (msgwait tick : ℕ) → ((at : ℕ) → written ≡ Some at → at ≤ tick)
    → option_map (λ at. msgwait - (tick - at)) written ≡ option_map (λ written. written + msgwait - tick) written
left_where None msgwait tick past = refl
left_where (Some at) msgwait tick past = ap Some (lacks at msgwait tick (past at refl))

module _ (fence : Fence) (s : Settings) (log : List Line) (tick : ℕ) (h : FenceFor fence s log) (later : now log ≤ tick) where
  past : (rank at : ℕ) → reset_tick log rank ≡ Some at → at ≤ tick
  past rank at is = let before = h.past rank at is in omega arith

  left-same : (rank : ℕ) → rank < 32
      → left_at fence tick rank ≡ option_map (λ written. written + (timing log).msgwait - tick) (reset_tick log rank)
  left-same rank below =
      ap (λ o. option_map (λ at. fence.msgwait - (tick - at)) o) (h.resets rank below)
      ∙ (ap (λ msgwait. option_map (λ at. msgwait - (tick - at)) (reset_tick log rank)) h.waits
      ∙ left_where (reset_tick log rank) (timing log).msgwait tick (past rank))

  waited-same : (rank : ℕ) → rank < 32 → is_waited_for fence tick rank ≡ is_fenced log rank tick
  waited-same rank below =
      ap (λ o. option_map_or (λ left. left == 0) (option_map (λ at. fence.msgwait - (tick - at)) o) false) (h.resets rank below)
      ∙ (ap (λ msgwait. option_map_or (λ left. left == 0) (option_map (λ at. msgwait - (tick - at)) (reset_tick log rank)) false) h.waits
      ∙ waited_where (reset_tick log rank) (timing log).msgwait tick (past rank))

-- ---- the least of those that are not seen, or not fenced

either_licence : (a clean fenced : Bool) → (not a && not clean && not fenced) ≡ (not a && not (clean || fenced))
either_licence true clean fenced = refl
either_licence false true fenced = refl
either_licence false false fenced = refl

module _ (fence : Fence) (s : Settings) (log : List Line) (h : FenceFor fence s log) where
  -- the least member of a mask that agrees with a test
  first_of_mask : (first : Option Rank) (mask : Mask) (test : ℕ → Bool) → ((rank : ℕ) → rank < 32 → is_member mask rank ≡ test rank)
      → IfSome first (λ rank. rank.0 < fence.count) → IfSome first (λ rank. is_member mask rank.0 ≡ true)
      → IfSome first (λ rank. (j : ℕ) → j < rank.0 → is_member mask j ≡ false)
      → IfNone first ((j : ℕ) → j < fence.count → is_member mask j ≡ false)
      → option_map (λ rank. rank.0) first ≡ least_rank s test
  first_of_mask first mask test same within member least none =
      first-least mask fence.count test first within member least none (λ j below. let few = h.few in same j (omega arith))
      ∙ ap (λ count. least_from count 0 test) h.counts

  -- the ranks that are no members of the present view
  module _ (outside : Mask) (is_outside : (rank : ℕ) → rank < 32 → is_member outside rank ≡ not (is_member fence.members rank)) where
    outsider : (rank : ℕ) → rank < 32 → is_member outside rank ≡ not (is_in_view log rank)
    outsider rank below = is_outside rank below ∙ ap not (h.views rank below)

    pub to_read-first : (mask : Mask) (first : Option Rank)
        → ((rank : ℕ) → is_member mask rank ≡ (is_member outside rank && not (is_member fence.seen rank)))
        → IfSome first (λ rank. rank.0 < fence.count) → IfSome first (λ rank. is_member mask rank.0 ≡ true)
        → IfSome first (λ rank. (j : ℕ) → j < rank.0 → is_member mask j ≡ false)
        → IfNone first ((j : ℕ) → j < fence.count → is_member mask j ≡ false)
        → option_map (λ rank. rank.0) first ≡ to_read s log
    to_read-first mask first is_mask =
        first_of_mask first mask (λ rank. not (is_in_view log rank) && not (is_slot_seen log rank)) (λ rank below.
        is_mask rank
        ∙ (ap (λ b. b && not (is_member fence.seen rank)) (outsider rank below)
        ∙ ap (λ b. not (is_in_view log rank) && not b) (h.seens rank below)))

    written_same : (rank : ℕ) → rank < 32 → is_member fence.written rank ≡ is_written log rank
    written_same rank below = some_where (is_member fence.written rank) (slice_index fence.ticks rank) ∙ ap is_some (h.resets rank below)
      where
        some_where : (b : Bool) (tick : ℕ) → b ≡ is_some (if b then Some tick else None)
        some_where true tick = refl
        some_where false tick = refl

    pub to_reset-first : (unclean mask : Mask) (first : Option Rank)
        → ((rank : ℕ) → is_member unclean rank ≡ (is_member outside rank && not (is_member fence.clean rank)))
        → ((rank : ℕ) → is_member mask rank ≡ (is_member unclean rank && not (is_member fence.written rank)))
        → IfSome first (λ rank. rank.0 < fence.count) → IfSome first (λ rank. is_member mask rank.0 ≡ true)
        → IfSome first (λ rank. (j : ℕ) → j < rank.0 → is_member mask j ≡ false)
        → IfNone first ((j : ℕ) → j < fence.count → is_member mask j ≡ false)
        → option_map (λ rank. rank.0) first ≡ to_reset s log
    to_reset-first unclean mask first is_unclean is_mask =
        first_of_mask first mask (λ rank. not (is_in_view log rank) && not (is_clean log rank) && not (is_written log rank)) (λ rank below.
        is_mask rank
        ∙ (ap (λ b. b && not (is_member fence.written rank)) (is_unclean rank)
        ∙ (ap (λ b. b && not (is_member fence.clean rank) && not (is_member fence.written rank)) (outsider rank below)
        ∙ (ap (λ b. not (is_in_view log rank) && not b && not (is_member fence.written rank)) (h.cleans rank below)
        ∙ ap (λ b. not (is_in_view log rank) && not (is_clean log rank) && not b) (written_same rank below)))))

    pub unfenced-first : (tick : ℕ) (unclean fenced mask : Mask) (first : Option Rank) → now log ≤ tick
        → ((rank : ℕ) → is_member unclean rank ≡ (is_member outside rank && not (is_member fence.clean rank)))
        → ((rank : ℕ) → rank < 32 → is_member fenced rank ≡ is_waited_for fence tick rank)
        → ((rank : ℕ) → is_member mask rank ≡ (is_member unclean rank && not (is_member fenced rank)))
        → IfSome first (λ rank. rank.0 < fence.count) → IfSome first (λ rank. is_member mask rank.0 ≡ true)
        → IfSome first (λ rank. (j : ℕ) → j < rank.0 → is_member mask j ≡ false)
        → IfNone first ((j : ℕ) → j < fence.count → is_member mask j ≡ false)
        → option_map (λ rank. rank.0) first ≡ unfenced s log tick
    unfenced-first tick unclean fenced mask first later is_unclean is_waited is_mask =
        first_of_mask first mask (λ rank. not (is_in_view log rank) && not (is_licensed log rank tick)) (λ rank below.
        is_mask rank
        ∙ (ap (λ b. b && not (is_member fenced rank)) (is_unclean rank)
        ∙ (ap (λ b. b && not (is_member fence.clean rank) && not (is_member fenced rank)) (outsider rank below)
        ∙ (ap (λ b. not (is_in_view log rank) && not b && not (is_member fenced rank)) (h.cleans rank below)
        ∙ (ap (λ b. not (is_in_view log rank) && not (is_clean log rank) && not b) (is_waited rank below ∙ waited-same fence s log tick h later rank below)
        ∙ either_licence (is_in_view log rank) (is_clean log rank) (is_fenced log rank tick))))))

-- the operation of the fencing, by the least ranks
pub reads_least : (read reset : Option ℕ) (rank : Rank) (first : Option Rank) → option_map (λ rank. rank.0) first ≡ read → first ≡ Some rank
    → Some (disk.ReadSlot rank) ≡ option_or (option_map (λ rank. disk.ReadSlot (rank_of rank)) read) (option_map (λ rank. disk.WriteReset (rank_of rank)) reset)
reads_least read reset rank first same is =
    let found : read ≡ Some rank.0 = sym same ∙ ap (option_map (λ rank. rank.0)) is in
    ap (λ o. option_or (option_map (λ rank. disk.ReadSlot (rank_of rank)) o) (option_map (λ rank. disk.WriteReset (rank_of rank)) reset)) (sym found)

pub resets_least : (read reset : Option ℕ) (rank : Rank) (first second : Option Rank) → option_map (λ rank. rank.0) first ≡ read → first ≡ None
    → option_map (λ rank. rank.0) second ≡ reset → second ≡ Some rank
    → Some (disk.WriteReset rank) ≡ option_or (option_map (λ rank. disk.ReadSlot (rank_of rank)) read) (option_map (λ rank. disk.WriteReset (rank_of rank)) reset)
resets_least read reset rank first second same none same_too is =
    let unread : read ≡ None = sym same ∙ ap (option_map (λ rank. rank.0)) none in
    let found : reset ≡ Some rank.0 = sym same_too ∙ ap (option_map (λ rank. rank.0)) is in
    ap (λ o. option_or (option_map (λ rank. disk.ReadSlot (rank_of rank)) o) (option_map (λ rank. disk.WriteReset (rank_of rank)) (Some rank.0))) (sym unread)
    ∙ ap (λ o. option_or (option_map (λ rank. disk.ReadSlot (rank_of rank)) read) (option_map (λ rank. disk.WriteReset (rank_of rank)) o)) (sym found)

pub none_least : (read reset : Option ℕ) (first second : Option Rank) → option_map (λ rank. rank.0) first ≡ read → first ≡ None
    → option_map (λ rank. rank.0) second ≡ reset → second ≡ None
    → None ≡ option_or (option_map (λ rank. disk.ReadSlot (rank_of rank)) read) (option_map (λ rank. disk.WriteReset (rank_of rank)) reset)
none_least read reset first second same none same_too is =
    let unread : read ≡ None = sym same ∙ ap (option_map (λ rank. rank.0)) none in
    let found : reset ≡ None = sym same_too ∙ ap (option_map (λ rank. rank.0)) is in
    ap (λ o. option_or (option_map (λ rank. disk.ReadSlot (rank_of rank)) o) None) (sym unread)
    ∙ ap (λ o. option_or (option_map (λ rank. disk.ReadSlot (rank_of rank)) read) (option_map (λ rank. disk.WriteReset (rank_of rank)) o)) (sym found)

-- how far the fencing of the least rank is
some_of_map : (written : Option ℕ) (msgwait tick : ℕ) → is_some (option_map (λ written. written + msgwait - tick) written) ≡ is_some written
some_of_map None msgwait tick = refl
some_of_map (Some at) msgwait tick = refl

left_of_map : (written : Option ℕ) (msgwait tick : ℕ)
    → unwrap_or (option_map (λ written. written + msgwait - tick) written) 0 ≡ option_map_or (λ written. written + msgwait - tick) written 0
left_of_map None msgwait tick = refl
left_of_map (Some at) msgwait tick = refl

pub unfenced_some : (fence : Fence) (s : Settings) (log : List Line) (tick : ℕ) → FenceFor fence s log → now log ≤ tick
    → (first : Option Rank) (rank : Rank) → option_map (λ rank. rank.0) first ≡ unfenced s log tick → first ≡ Some rank → rank.0 < 32
    → (left : Option ℕ) (written : Bool) (lacking : ℕ) → left ≡ left_at fence tick rank.0 → written ≡ is_some left → lacking ≡ unwrap_or left 0
    → Some (record { rank = rank; written = written; left = lacking }) ≡ option_map (unfenced_at log tick) (unfenced s log tick)
unfenced_some fence s log tick h later first rank least is below left written lacking lacks_now was lack =
    let found : unfenced s log tick ≡ Some rank.0 = sym least ∙ ap (option_map (λ rank. rank.0)) is in
    let same = lacks_now ∙ left-same fence s log tick h later rank.0 below in
    let is_done : written ≡ is_written log rank.0 = was ∙ (ap is_some same ∙ some_of_map (reset_tick log rank.0) (timing log).msgwait tick) in
    let is_left : lacking ≡ left_to_wait log rank.0 tick = lack ∙ (ap (λ o. unwrap_or o 0) same ∙ left_of_map (reset_tick log rank.0) (timing log).msgwait tick) in
    ap (λ b. Some (record { rank = rank; written = b; left = lacking })) is_done
    ∙ (ap (λ n. Some (record { rank = rank; written = is_written log rank.0; left = n })) is_left
    ∙ ap (option_map (unfenced_at log tick)) (sym found))

pub unfenced_none : (s : Settings) (log : List Line) (tick : ℕ) (first : Option Rank) → option_map (λ rank. rank.0) first ≡ unfenced s log tick → first ≡ None
    → None ≡ option_map (unfenced_at log tick) (unfenced s log tick)
unfenced_none s log tick first least is = ap (λ o. option_map (unfenced_at log tick) (option_map (λ rank. rank.0) o)) (sym is) ∙ ap (option_map (unfenced_at log tick)) least
