-- A reset is asked for only of a node that the maker of the view left out.
use Rattle.std.proofs.Common.{◌≡◌, ◌⊎◌, inl, inr, ℕ, ◌<◌, Bool, true, false, not, ◌&&◌, ◌||◌, ◌==◌, List, [], ◌∷◌, ◌++◌, Option, None, Some, filter, length, is_some, if◌then◌else◌, refl, sym, ◌∙◌, ap, subst, arith}
use Rattle.std.specs.Prelude.{IfSome}
use Rattle.std.specs.List.{range_with_len}
use Rattle.std.specs.Option.{option_map, option_map_or, option_or}
use Rattle.std.proofs.lemmas.Bool.{eqb-true, false≢true, true≢false}
use Rattle.std.proofs.lemmas.Option.{none-some}
use Rattle.qn_base.specs.declared.ids.Rank.{Rank}
use Rattle.qn_base.specs.declared.ids.View.{View}
use Rattle.qn_base.specs.Candidates.{is_barred}
use Rattle.qn_base.specs.Members.{is_member}
use Rattle.qn_base.specs.lemmas.Bools.{first_of_three_fails, second_of_both}
use Rattle.qn_model.specs.declared.configuration.Settings.{Settings}
use Rattle.qn_model.specs.declared.disk.Message.{Message}
use Rattle.qn_model.specs.declared.entries.Entry.{Entry}
use Rattle.qn_model.specs.declared.entries.What.{What}
use Rattle.qn_model.specs.declared.entries.What.TheVariants as what
use Rattle.qn_model.specs.declared.outputs.BootCause.{BootCause}
use Rattle.qn_model.specs.declared.outputs.DiskOp.{DiskOp}
use Rattle.qn_model.specs.declared.outputs.DiskOp.TheVariants as disk
use Rattle.qn_model.specs.declared.outputs.Out.{Out}
use Rattle.qn_model.specs.declared.outputs.Out.TheVariants as out
use Rattle.qn_model.specs.declared.seen.SlotSeen.TheVariants as slot
use Rattle.qn_model.specs.declared.times.Timing.{Timing}
use Rattle.qn_model.specs.Fitting.{read_as}
use Rattle.qn_model.specs.Holding.{holds}
use Rattle.qn_model.specs.Log.{Line, begins_clean, incarnation, disk_of, op_out, slot_number}
use Rattle.qn_model.specs.NodeOutputs.{acts, asks, asks_under, boot_outs, boot_step_outs, disk_outs, gives_start, gives_stop, is_asked, is_asking, is_begin, is_boot_step, live_outs, mail_feeds, newest_outs, outs_at, replies, taken_in, when, with_entry}
use Rattle.qn_model.specs.NodeVotes.{is_in_view, view}
use Rattle.qn_model.specs.Phases.{boot_halt, deadly_of, is_booting, is_leaving, is_live, message_of, phase}
use Rattle.qn_model.specs.Unmet.{chosen, is_chosen, is_none_chosen}
use Rattle.qn_model.specs.Wanted.{boot_op, close_op, fencing_op_with_delay, is_delay_over, is_mail_due, may_fence, rank_of, to_read, to_reset, to_reset_now, wanted_with_delay}
use Rattle.qn_model.specs.lemmas.ChosenRanks.{chosen_inside}
use Rattle.qn_model.specs.lemmas.LeastRanks.{least_bound, least_passes}
use Rattle.qn_model.specs.lemmas.Operations.{disk_of-append, none_joined, none_of_asks, none_of_replies, none_when}
use Rattle.qn_joined.specs.Joints.{AllMayHappen, Happening, joint_after}
use Rattle.qn_service.specs.Leading.{IsApart}
use Rattle.qn_service.specs.Looks.{EachLook, IfLook, LookOf, SomeLook, look_of}
use Rattle.qn_service.specs.Unheard.{AreSent, AsksReset, HasLeftOut, HasMade, IsAwaited, IsTogether, KeepsAll, NobodyIsReset, ResetsTheUnheard, WasLeftOut, log_after}
use Rattle.qn_service.proofs.Everywhere.{WasMade, always_stands}
use Rattle.qn_service.proofs.LeftOut.{leaves_out}
use Rattle.qn_service.proofs.Made.{filtered}
use Rattle.qn_service.proofs.Walking.{IsLogged, Stands}

-- ## What asks for a reset

abbrev is_reset : Option DiskOp → Bool
is_reset None = false
is_reset (Some (disk.WriteReset rank)) = true
is_reset (Some disk.ReadHeader) = false
is_reset (Some (disk.ReadSlot rank)) = false
is_reset (Some disk.CheckMail) = false
is_reset (Some disk.ReadMail) = false
is_reset (Some (disk.WriteClaim number)) = false
is_reset (Some (disk.WriteClose number)) = false
is_reset (Some disk.WriteClear) = false

-- whom an operation resets
abbrev reset_of : Option DiskOp → ℕ
reset_of (Some (disk.WriteReset rank)) = rank.0
reset_of None = 0
reset_of (Some disk.ReadHeader) = 0
reset_of (Some (disk.ReadSlot rank)) = 0
reset_of (Some disk.CheckMail) = 0
reset_of (Some disk.ReadMail) = 0
reset_of (Some (disk.WriteClaim number)) = 0
reset_of (Some (disk.WriteClose number)) = 0
reset_of (Some disk.WriteClear) = 0

-- an operation that is no reset
no_reset : {P : Type 0} (op : Option DiskOp) (other : Rank) → is_reset op ≡ false → op ≡ Some (disk.WriteReset other) → P
no_reset op other never is = absurd (true≢false (sym (ap is_reset is) ∙ never))

boot_resets_none : (me : ℕ) (clean : Bool) (number : ℕ) (entry : What) → is_reset (boot_op me clean number entry) ≡ false
boot_resets_none me clean number what.Begin = refl
boot_resets_none me clean number what.BeginClean = refl
boot_resets_none me clean number (what.Header seen) = refl
boot_resets_none me true number (what.SlotRead rank seen) = refl
boot_resets_none me false number (what.SlotRead rank (slot.Read own)) = refl
boot_resets_none me false number (what.SlotRead rank slot.Damaged) = refl
boot_resets_none me false number (what.SlotRead rank slot.Failed) = refl
boot_resets_none me clean number (what.MailChecked seen) = refl
boot_resets_none me clean number (what.Claimed ok) = refl
boot_resets_none me clean number (what.Cleared ok) = refl
boot_resets_none me clean number (what.MailRead seen) = refl
boot_resets_none me clean number (what.MailWritten rank ok) = refl
boot_resets_none me clean number (what.View given) = refl
boot_resets_none me clean number (what.Ask ask) = refl
boot_resets_none me clean number (what.Tell tell) = refl
boot_resets_none me clean number (what.Device agrees) = refl
boot_resets_none me clean number what.Tick = refl
boot_resets_none me clean number (what.Stopped ok) = refl
boot_resets_none me clean number what.Leave = refl
boot_resets_none me clean number (what.Closed ok) = refl

-- the operation behind outputs that ask nothing of the disk
disk_behind : (front : List Out) (op : Option DiskOp) → disk_of front ≡ None → disk_of (front ++ disk_outs op) ≡ op
disk_behind front op none = disk_of-append front (disk_outs op) ∙ (ap (λ o. option_or o (disk_of (disk_outs op))) none ∙ alone op)
  where
    alone : (last : Option DiskOp) → disk_of (disk_outs last) ≡ last
    alone None = refl
    alone (Some last) = refl

behind_five : (stop start feed tell ask : List Out) (op : Option DiskOp) → disk_of stop ≡ None → disk_of start ≡ None → disk_of feed ≡ None → disk_of tell ≡ None → disk_of ask ≡ None
    → disk_of (stop ++ start ++ feed ++ tell ++ ask ++ disk_outs op) ≡ op
behind_five stop start feed tell ask op one two three four five =
    disk_behind (stop ++ start ++ feed ++ tell ++ ask) op
    (none_joined (stop ++ start ++ feed ++ tell) ask
    (none_joined (stop ++ start ++ feed) tell (none_joined (stop ++ start) feed (none_joined stop start one two) three) four) five)

-- the operation that comes out is the one that is wanted
acts_want : (s : Settings) (me : ℕ) (log : List Line) (entry : What) (fed : Bool) (op : DiskOp) → disk_of (acts s me log entry fed) ≡ Some op → wanted_with_delay s me log ≡ Some op
unfolding acts
acts_want s me log entry fed op is =
    sym (behind_five (when (gives_stop s me log) out.Stop) (when (gives_start s me log) out.Start) (when fed out.Feed)
    (replies s me (gives_start s me log || holds log) log entry) (asks s me log) (wanted_with_delay s me log)
    (none_when (gives_stop s me log) out.Stop refl) (none_when (gives_start s me log) out.Start refl) (none_when fed out.Feed refl)
    (none_of_replies s me (gives_start s me log || holds log) log entry) (no_asks (is_asking s log) (view log)))
    ∙ is
  where
    no_asks : (b : Bool) (present : Option View) → disk_of (if b then option_map_or (asks_under s me log) present [] else []) ≡ None
    no_asks true None = refl
    no_asks true (Some seen) = none_of_asks me log seen (filter (is_asked s me log) (range_with_len 0 (length s.nodes)))
    no_asks false present = refl

live_disk : (s : Settings) (me : ℕ) (log : List Line) (entry : What) (fed : Bool) (deadly : Option Message) (op : DiskOp)
    → disk_of (live_outs s me log entry fed deadly) ≡ Some op → wanted_with_delay s me log ≡ Some op
live_disk s me log entry fed (Some message) op is = absurd (none-some op is)
live_disk s me log (what.Closed ok) fed None op is = absurd (none-some op is)
live_disk s me log what.Begin fed None op is = acts_want s me log what.Begin fed op is
live_disk s me log what.BeginClean fed None op is = acts_want s me log what.BeginClean fed op is
live_disk s me log (what.Header seen) fed None op is = acts_want s me log (what.Header seen) fed op is
live_disk s me log (what.SlotRead rank seen) fed None op is = acts_want s me log (what.SlotRead rank seen) fed op is
live_disk s me log (what.MailChecked seen) fed None op is = acts_want s me log (what.MailChecked seen) fed op is
live_disk s me log (what.Claimed ok) fed None op is = acts_want s me log (what.Claimed ok) fed op is
live_disk s me log (what.Cleared ok) fed None op is = acts_want s me log (what.Cleared ok) fed op is
live_disk s me log (what.MailRead seen) fed None op is = acts_want s me log (what.MailRead seen) fed op is
live_disk s me log (what.MailWritten rank ok) fed None op is = acts_want s me log (what.MailWritten rank ok) fed op is
live_disk s me log (what.View given) fed None op is = acts_want s me log (what.View given) fed op is
live_disk s me log (what.Ask ask) fed None op is = acts_want s me log (what.Ask ask) fed op is
live_disk s me log (what.Tell tell) fed None op is = acts_want s me log (what.Tell tell) fed op is
live_disk s me log (what.Device agrees) fed None op is = acts_want s me log (what.Device agrees) fed op is
live_disk s me log what.Tick fed None op is = acts_want s me log what.Tick fed op is
live_disk s me log (what.Stopped ok) fed None op is = acts_want s me log (what.Stopped ok) fed op is
live_disk s me log what.Leave fed None op is = acts_want s me log what.Leave fed op is

-- who asks for a reset is chosen, and resets a configured node outside its view
record ResetOf (s : Settings) (me : ℕ) (log : List Line) (other : ℕ) : Type 0 where
  outside : is_in_view log other ≡ false
  below : other < length s.nodes
  chosen : is_chosen s me log ≡ true

reset_by : (s : Settings) (log : List Line) (read reset : Option ℕ) (other : Rank)
    → option_or (option_map (λ rank. disk.ReadSlot (rank_of rank)) read) (option_map (λ rank. disk.WriteReset (rank_of rank)) reset) ≡ Some (disk.WriteReset other)
    → reset ≡ Some other.0
reset_by s log (Some rank) reset other is = no_reset (Some (disk.ReadSlot (rank_of rank))) other refl is
reset_by s log None (Some rank) other is = ap Some (ap reset_of is)
reset_by s log None None other is = absurd (none-some (disk.WriteReset other) is)

wanted_by : (busy mail leaving fence : Bool) (closing fencing : Option DiskOp) (other : Rank) → is_reset closing ≡ false
    → (if busy then None else (if mail then Some disk.ReadMail else (if leaving then closing else (if fence then fencing else None)))) ≡ Some (disk.WriteReset other)
    → (fence ≡ true) × (fencing ≡ Some (disk.WriteReset other))
wanted_by true mail leaving fence closing fencing other never is = absurd (none-some (disk.WriteReset other) is)
wanted_by false true leaving fence closing fencing other never is = no_reset (Some disk.ReadMail) other refl is
wanted_by false false true fence closing fencing other never is = no_reset closing other never is
wanted_by false false false true closing fencing other never is = (refl, is)
wanted_by false false false false closing fencing other never is = absurd (none-some (disk.WriteReset other) is)

close_resets_none : (number : Option ℕ) → is_reset (option_map (λ n. disk.WriteClose n) number) ≡ false
close_resets_none None = refl
close_resets_none (Some number) = refl

wanted_reset : (s : Settings) (me : ℕ) (log : List Line) (other : Rank) → wanted_with_delay s me log ≡ Some (disk.WriteReset other) → ResetOf s me log other.0
unfolding wanted_with_delay
wanted_reset s me log other is =
    let both = wanted_by (is_some (op_out log)) (is_mail_due log) (is_leaving (phase s log) && not (holds log)) (may_fence s me log) (close_op log) (fencing_op_with_delay s log) other
    (close_resets_none (incarnation log)) is in
    let now : to_reset_now s log ≡ Some other.0 = reset_by s log (to_read s log) (to_reset_now s log) other both.1 in
    let least = (filtered (is_delay_over s log) (to_reset s log) other.0 now).0 in
    let under = least_bound (length s.nodes) 0 _ other.0 least in
    record { outside = first_of_three_fails _ _ _ (least_passes (length s.nodes) 0 _ other.0 least); below = omega arith; chosen = second_of_both _ (is_chosen s me log) both.0 }

outs_reset : (s : Settings) (me : ℕ) (past : List Line) (tick : ℕ) (entry : What) (log : List Line) (other : Rank)
    → disk_of (outs_at s me past tick entry log) ≡ Some (disk.WriteReset other) → ResetOf s me log other.0
unfolding outs_at
outs_reset s me past tick entry log other is = by_phase (is_booting (phase s past)) (is_live (phase s past)) is
  where
    by_halt : (cause : Option BootCause) → disk_of (boot_step_outs me (begins_clean log) (slot_number log) entry cause) ≡ Some (disk.WriteReset other) → ResetOf s me log other.0
    by_halt None e =
        no_reset (boot_op me (begins_clean log) (slot_number log) entry) other (boot_resets_none me (begins_clean log) (slot_number log) entry)
        (sym (disk_behind (when (not (is_begin entry)) out.Feed) (boot_op me (begins_clean log) (slot_number log) entry) (none_when (not (is_begin entry)) out.Feed refl)) ∙ e)
    by_halt (Some cause) e = absurd (none-some (disk.WriteReset other) e)

    by_step : (b : Bool) → disk_of (if b then boot_step_outs me (begins_clean log) (slot_number log) entry (boot_halt s entry) else []) ≡ Some (disk.WriteReset other) → ResetOf s me log other.0
    by_step true e = by_halt (boot_halt s entry) e
    by_step false e = absurd (none-some (disk.WriteReset other) e)

    by_phase : (boots lives : Bool)
        → disk_of (if boots then boot_outs s me (begins_clean log) (slot_number log) entry
        else (if lives then live_outs s me log entry (mail_feeds tick past entry) (deadly_of (message_of entry)) else [])) ≡ Some (disk.WriteReset other)
        → ResetOf s me log other.0
    by_phase true lives e = by_step (is_boot_step entry) e
    by_phase false true e = wanted_reset s me log other (live_disk s me log entry (mail_feeds tick past entry) (deadly_of (message_of entry)) (disk.WriteReset other) e)
    by_phase false false e = absurd (none-some (disk.WriteReset other) e)

entry_reset : (s : Settings) (me : ℕ) (past : List Line) (entry : Entry) (other : Rank)
    → disk_of (newest_outs (with_entry s me past entry)) ≡ Some (disk.WriteReset other) → ResetOf s me (with_entry s me past entry) other.0
unfolding with_entry view
entry_reset s me past entry other is =
    let read = read_as s me past entry.what in
    let found = outs_reset s me past entry.tick read (taken_in past entry.tick read) other is in
    record { outside = found.outside; below = found.below; chosen = found.chosen }

log_reset : (s : Settings) (me : ℕ) (log : List Line) (other : Rank) → IsLogged s me log → disk_of (newest_outs log) ≡ Some (disk.WriteReset other) → ResetOf s me log other.0
log_reset s me log other (inl none) is = absurd (none-some _ (sym (ap (λ l. disk_of (newest_outs l)) none) ∙ is))
log_reset s me log other (inr (past, entry, same)) is =
    subst (λ l. ResetOf s me l other.0) (sym same) (entry_reset s me past entry other (sym (ap (λ l. disk_of (newest_outs l)) same) ∙ is))

-- ## Whose view that is

-- who is chosen has a view that bars not all
record ChosenBy (log : List Line) (v : View) : Type 0 where
  sees : view log ≡ Some v
  free : is_barred v ≡ false

chosen_view : (s : Settings) (me : ℕ) (log : List Line) → is_chosen s me log ≡ true → (v : View) × ChosenBy log v
chosen_view s me log is = by_view (view log) refl (chosen_inside s log me named) (not_barred (is_none_chosen log) _ named)
  where
    name_of : (found : Option ℕ) → option_map_or (λ rank. rank == me) found false ≡ true → found ≡ Some me
    name_of None e = absurd (false≢true e)
    name_of (Some rank) e = ap Some (eqb-true rank me e)

    named : chosen s log ≡ Some me
    named = name_of (chosen s log) is

    not_barred : (b : Bool) (rest : Option ℕ) → (if b then None else rest) ≡ Some me → b ≡ false
    not_barred true rest e = absurd (none-some me e)
    not_barred false rest e = refl

    by_view : (found : Option View) → view log ≡ found → is_in_view log me ≡ true → is_none_chosen log ≡ false → (v : View) × ChosenBy log v
    by_view None none inside free = absurd (false≢true (sym (ap (λ o. option_map_or (λ (v : View). is_member v.members me) o false) none) ∙ inside))
    by_view (Some v) sees inside free = (v, record { sees = sees; free = sym (ap (λ o. option_map_or is_barred o false) sees) ∙ free })

-- ## Some look and each look

some_look : (s : Settings) (image : ℕ → List ℕ) (P R : LookOf → Type 0) → ((look : LookOf) → P look → R look) → (happenings : List Happening)
    → SomeLook s image P happenings → SomeLook s image R happenings
some_look s image P R more [] some = some
some_look s image P R more (newest ∷ earlier) (inl here) = inl (by_look (look_of s image newest earlier) here)
  where
    by_look : (found : Option LookOf) → IfLook P found → IfLook R found
    by_look None here = here
    by_look (Some look) here = more look here
some_look s image P R more (newest ∷ earlier) (inr before) = inr (some_look s image P R more earlier before)

no_look : (s : Settings) (image : ℕ → List ℕ) (P R : LookOf → Type 0) → ((look : LookOf) → P look → R look → ⊥) → (happenings : List Happening)
    → SomeLook s image P happenings → EachLook s image R happenings → ⊥
no_look s image P R never [] some each = some
no_look s image P R never (newest ∷ earlier) (inl here) each = by_look (look_of s image newest earlier) here each.0
  where
    by_look : (found : Option LookOf) → IfLook P found → IfSome found R → ⊥
    by_look None here each = here
    by_look (Some look) here each = never look here each
no_look s image P R never (newest ∷ earlier) (inr before) each = no_look s image P R never earlier before each.1

-- ## The laws

-- a node that is reset was left out, and is configured
record Reset (s : Settings) (image : ℕ → List ℕ) (happenings : List Happening) (rank other : ℕ) : Type 0 where
  below : other < length s.nodes
  out : WasLeftOut s image happenings rank other

reset_was : (s : Settings) (t : Timing) (image : ℕ → List ℕ) (happenings : List Happening) (rank : ℕ) (other : Rank) → AllMayHappen s t image happenings → AreSent s image happenings
    → AsksReset s image happenings rank other → Reset s image happenings rank other.0
reset_was s t image happenings rank other may sent asks = by_chosen (chosen_view s rank log reset.chosen)
  where
    log : List Line
    log = log_after s image happenings rank

    stands : Stands s rank (WasMade s image happenings) ((joint_after s image happenings).hosts rank).stand.spot
    stands = always_stands s t image happenings rank may sent asks.on

    reset : ResetOf s rank log other.0
    reset = log_reset s rank log other stands.logged asks.asks

    left_out : (v : View) → view log ≡ Some v → (look : LookOf) → HasMade s v look → HasLeftOut s v other.0 look
    left_out v sees look made =
        record {
          is = made;
          out = leaves_out look.tick look.maker v other.0 (subst (λ nodes. other.0 < length nodes) (sym made.nodes) reset.below) made.makes
              (sym (ap (λ o. option_map_or (λ (seen : View). is_member seen.members other.0) o false) sees) ∙ reset.outside);
        }

    by_chosen : (v : View) × ChosenBy log v → Reset s image happenings rank other.0
    by_chosen (v, by) =
        record {
          below = reset.below;
          out = record {
            present = v;
            has = by.sees;
            made = some_look s image (HasMade s v) (HasLeftOut s v other.0) (left_out v by.sees) happenings (stands.shows v by.sees by.free);
          };
        }

pub resets_unheard : (s : Settings) (t : Timing) → ResetsTheUnheard s t
resets_unheard s t image happenings rank other may sent asks = (reset_was s t image happenings rank other may sent asks).out

-- who was kept was not left out
kept_in : (s : Settings) (v : View) (rank : ℕ) → rank < length s.nodes → (look : LookOf) → HasLeftOut s v rank look → KeepsAll s look → ⊥
kept_in s v rank below look left keeps = by_way (keeps left.is.makes.leads rank below left.out.other) left.out.apart
  where
    by_way : IsTogether look rank ⊎ IsAwaited look rank → IsApart look.tick look.maker rank → ⊥
    by_way (inl together) (inl unseen) = true≢false (sym together.sees ∙ unseen)
    by_way (inl together) (inr (inl follows)) = true≢false (sym follows ∙ together.follows)
    by_way (inl together) (inr (inr less)) = true≢false (sym together.names ∙ less.0)
    by_way (inr awaited) apart = true≢false (sym (left.out.waited awaited.present awaited.heard) ∙ awaited.early)

pub nobody_reset : (s : Settings) (t : Timing) → NobodyIsReset s t
nobody_reset s t image happenings rank other may sent each asks =
    let reset = reset_was s t image happenings rank other may sent asks in
    no_look s image (HasLeftOut s reset.out.present other.0) (KeepsAll s) (kept_in s reset.out.present other.0 reset.below) happenings reset.out.made each
