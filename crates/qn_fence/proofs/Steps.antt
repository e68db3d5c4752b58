-- What a fencer stands for, line by line.
use Rattle.std.proofs.Common.{◌≡◌, ℕ, suc, ◌<◌, ◌≤◌, Bool, true, false, List, ◌∷◌, length, Some, None, refl, ◌&&◌, ◌||◌, not, if◌then◌else◌, sym, ◌∙◌, ap, subst, arith}
use Rattle.std.specs.Prelude.{Option, unwrap_or, ◌==◌, nat_lt, is_some, slice_index}
use Rattle.std.specs.Option.{option_or, option_map_or}
use Rattle.std.proofs.lemmas.Bool.Decides.{nat_tests, Decides-eqb}
use Rattle.std.proofs.Math.Bool.{and-false, and-true}
use Rattle.std.proofs.lemmas.Option.{none-some}
use Rattle.qn_base.specs.declared.ids.Mask.{Mask}
use Rattle.qn_base.specs.declared.ids.Rank.{Rank}
use Rattle.qn_base.specs.declared.ids.View.{View}
use Rattle.qn_base.specs.Members.{is_member}
use Rattle.qn_base.specs.lemmas.Masks.{empty_has_none}
use Rattle.qn_base.specs.lemmas.Options.{found_within}
use Rattle.qn_model.specs.declared.configuration.Settings.{Settings}
use Rattle.qn_model.specs.declared.entries.What.{What}
use Rattle.qn_model.specs.declared.entries.What.TheVariants as what
use Rattle.qn_model.specs.declared.outputs.DiskOp.{DiskOp}
use Rattle.qn_model.specs.declared.outputs.DiskOp.TheVariants as disk
use Rattle.qn_model.specs.declared.outputs.Out.{Out}
use Rattle.qn_model.specs.declared.seen.SlotSeen.{SlotSeen}
use Rattle.qn_model.specs.lemmas.Logs.{ask_place-within, out_time-within}
use Rattle.qn_model.specs.Fitting.{answers_op}
use Rattle.qn_model.specs.Log.{Line, ask_place, disk_of, is_answer, now, op_out, times_of, timing, view_of}
use Rattle.qn_model.specs.NodeVotes.{is_in_view, view}
use Rattle.qn_model.specs.Licences.{is_clean, is_clean_slot, is_seen_slot, is_slot_seen, out_time, reads_slot, reset_since, reset_tick, slot_read_since, starts_out_time, writes_reset}
use Rattle.qn_fence.specs.declared.fencing.Fence.{Fence}
use Rattle.qn_fence.specs.declared.fencing.Want.{Want}
use Rattle.qn_fence.specs.Fence.{FenceFor, IsAskedInside, IsOutside, about_rank, bears_on_fencing, fresh_outside, is_about, is_boot_end, is_fresh, want_of, written_at}
use Rattle.qn_fence.proofs.Asked.{inside-more, inside-other, reset_since-other, slot_read_since-other}

-- ---- what a line changes, and what it leaves

-- the operation that is out after a line that asks for none was out before it
about_before : (answer : Bool) (asked out : Option DiskOp) (rank : ℕ) → asked ≡ None
    → is_about rank (option_or asked (if answer then None else out)) ≡ true → is_about rank out ≡ true
about_before answer (Some op) out rank none e = cc
about_before true None out rank none e = absurd (cc)
about_before false None out rank none e = e

about_out : (log : List Line) (line : Line) (rank : ℕ) → disk_of line.outs ≡ None
    → is_about rank (op_out (line ∷ log)) ≡ true → is_about rank (op_out log) ≡ true
unfolding op_out
about_out log line rank none e = about_before (is_answer line.what) (disk_of line.outs) (op_out log) rank none e

ask_place-bare : (log : List Line) (line : Line) → disk_of line.outs ≡ None → ask_place (line ∷ log) ≡ ask_place log
unfolding ask_place
ask_place-bare log line none = ap (λ op. if is_some op then suc (length log) else ask_place log) none

out_time-kept : (rank : ℕ) (log : List Line) (line : Line) → starts_out_time rank line.what ≡ false
    → out_time rank (line ∷ log) ≡ out_time rank log
unfolding out_time
out_time-kept rank log line e = ap (λ b. if b then suc (length log) else out_time rank log) e

out_time-begun : (rank : ℕ) (log : List Line) (line : Line) → starts_out_time rank line.what ≡ true
    → out_time rank (line ∷ log) ≡ suc (length log)
unfolding out_time
out_time-begun rank log line e = ap (λ b. if b then suc (length log) else out_time rank log) e

timing-kept : (log : List Line) (line : Line) → times_of line.what ≡ None → timing (line ∷ log) ≡ timing log
unfolding timing
timing-kept log line e = ap (λ times. unwrap_or times (timing log)) e

view-kept : (log : List Line) (line : Line) → view_of line.what ≡ None → view (line ∷ log) ≡ view log
unfolding view
view-kept log line e = ap (λ installed. option_or installed (view log)) e

view-new : (log : List Line) (line : Line) (installed : View) → line.what ≡ what.View installed
    → view (line ∷ log) ≡ Some installed
unfolding view
view-new log line installed e = ap (λ w. option_or (view_of w) (view log)) e

abbrev in_view : Option View → ℕ → Bool
in_view present rank = option_map_or (λ view. is_member view.members rank) present false

-- a read of that rank's slot passed a test in its out-time
abbrev was_read : (SlotSeen → Bool) → List Line → ℕ → Bool
was_read test log rank = slot_read_since (out_time rank log) test rank log

was_read-kept : (test : SlotSeen → Bool) (rank : ℕ) (log : List Line) (line : Line)
    → starts_out_time rank line.what ≡ false → reads_slot test rank line.what ≡ false
    → was_read test (line ∷ log) rank ≡ was_read test log rank
was_read-kept test rank log line kept e =
    slot_read_since-other (out_time rank (line ∷ log)) rank test log line e
    ∙ ap (λ place. slot_read_since place test rank log) (out_time-kept rank log line kept)

was_read-begun : (test : SlotSeen → Bool) (rank : ℕ) (log : List Line) (line : Line) → IsAskedInside log
    → starts_out_time rank line.what ≡ true → reads_slot test rank line.what ≡ false
    → was_read test (line ∷ log) rank ≡ false
was_read-begun test rank log line inside begun e =
    let behind : length log ≤ out_time rank (line ∷ log) = let z = out_time-begun rank log line begun in omega arith in
    slot_read_since-other (out_time rank (line ∷ log)) rank test log line e
    ∙ inside.reads (out_time rank (line ∷ log)) rank test behind

reset_tick-kept : (rank : ℕ) (log : List Line) (line : Line)
    → starts_out_time rank line.what ≡ false → writes_reset rank line.what ≡ false
    → reset_tick (line ∷ log) rank ≡ reset_tick log rank
reset_tick-kept rank log line kept e =
    reset_since-other (out_time rank (line ∷ log)) rank log line e
    ∙ ap (λ place. reset_since place rank log) (out_time-kept rank log line kept)

reset_tick-begun : (rank : ℕ) (log : List Line) (line : Line) → IsAskedInside log
    → starts_out_time rank line.what ≡ true → writes_reset rank line.what ≡ false → reset_tick (line ∷ log) rank ≡ None
reset_tick-begun rank log line inside begun e =
    let behind : length log ≤ out_time rank (line ∷ log) = let z = out_time-begun rank log line begun in omega arith in
    reset_since-other (out_time rank (line ∷ log)) rank log line e
    ∙ inside.resets (out_time rank (line ∷ log)) rank behind

-- ---- one line more

-- whether the answer of the operation that is out counts is as before, at a line that asks for none
fresh_kept : (fence : Fence) (s : Settings) (log : List Line) (line : Line) (rank : ℕ) → FenceFor fence s log
    → rank < 32
    → disk_of line.outs ≡ None → starts_out_time rank line.what ≡ false → is_about rank (op_out (line ∷ log)) ≡ true
    → is_fresh fence rank ≡ nat_lt (out_time rank (line ∷ log)) (ask_place (line ∷ log))
fresh_kept fence s log line rank h below none kept about =
    h.freshes rank below (about_out log line rank none about)
    ∙ (ap (λ place. nat_lt place (ask_place log)) (sym (out_time-kept rank log line kept))
    ∙ ap (λ place. nat_lt (out_time rank (line ∷ log)) place) (sym (ask_place-bare log line none)))

-- what an entry is that installs no view, gives no times, and starts no out-time
record IsStep (w : What) : Type 0 where
  times : times_of w ≡ None
  views : view_of w ≡ None
  starts : (rank : ℕ) → starts_out_time rank w ≡ false

-- what a fencer keeps at every entry that is no view
record IsKept (fence after : Fence) : Type 0 where
  count : after.count ≡ fence.count
  msgwait : after.msgwait ≡ fence.msgwait
  members : after.members ≡ fence.members
  fresh : after.fresh ≡ fence.fresh

fence_step : (fence after : Fence) (s : Settings) (log : List Line) (line : Line) → FenceFor fence s log
    → IsKept fence after
    → IsStep line.what → disk_of line.outs ≡ None → IsAskedInside (line ∷ log)
    → ((rank : ℕ) → rank < 32 → is_member after.clean rank ≡ is_clean (line ∷ log) rank)
    → ((rank : ℕ) → rank < 32 → is_member after.seen rank ≡ is_slot_seen (line ∷ log) rank)
    → ((rank : ℕ) → rank < 32 → written_at after rank ≡ reset_tick (line ∷ log) rank)
    → ((rank at : ℕ) → reset_tick (line ∷ log) rank ≡ Some at → at ≤ line.tick)
    → FenceFor after s (line ∷ log)
fence_step fence after s log line h kept step none inside cleans seens resets past = record {
  counts = kept.count ∙ h.counts;
  few = let same : after.count ≡ fence.count = kept.count in let few = h.few in omega arith;
  waits = kept.msgwait ∙ (h.waits ∙ ap (λ times. times.msgwait) (sym (timing-kept log line step.times)));
  views =
      λ rank below. ap (λ members. is_member members rank) kept.members
      ∙ (h.views rank below ∙ ap (λ present. in_view present rank) (sym (view-kept log line step.views)));
  cleans = cleans;
  seens = seens;
  resets = resets;
  past = past;
  inside = inside;
  freshes =
      λ rank below about. ap (λ fresh. option_map_or (λ other. other.0 == rank) fresh false) kept.fresh
      ∙ fresh_kept fence s log line rank h below none (step.starts rank) about;
}

past_kept : (fence : Fence) (s : Settings) (log : List Line) (line : Line) → FenceFor fence s log → now log ≤ line.tick
    → (rank at : ℕ) → reset_tick log rank ≡ Some at → at ≤ line.tick
past_kept fence s log line h later rank at is = let before = h.past rank at is in omega arith

-- what an entry is that does not bear on the fencing
record IsQuiet (w : What) : Type 0 where
  step : IsStep w
  reads : (rank : ℕ) (test : SlotSeen → Bool) → reads_slot test rank w ≡ false
  resets : (rank : ℕ) → writes_reset rank w ≡ false

quiet : (w : What) → bears_on_fencing w ≡ false → IsQuiet w
quiet what.Begin e =
    record {
      step = record { times = refl; views = refl; starts = λ rank. refl };
      reads = λ rank test. refl;
      resets = λ rank. refl;
    }
quiet what.BeginClean e =
    record {
      step = record { times = refl; views = refl; starts = λ rank. refl };
      reads = λ rank test. refl;
      resets = λ rank. refl;
    }
quiet (what.Header seen) e = absurd (cc)
quiet (what.SlotRead rank seen) e = absurd (cc)
quiet (what.MailChecked seen) e =
    record {
      step = record { times = refl; views = refl; starts = λ rank. refl };
      reads = λ rank test. refl;
      resets = λ rank. refl;
    }
quiet (what.Claimed ok) e =
    record {
      step = record { times = refl; views = refl; starts = λ rank. refl };
      reads = λ rank test. refl;
      resets = λ rank. refl;
    }
quiet (what.Cleared ok) e = absurd (cc)
quiet (what.MailRead seen) e =
    record {
      step = record { times = refl; views = refl; starts = λ rank. refl };
      reads = λ rank test. refl;
      resets = λ rank. refl;
    }
quiet (what.MailWritten rank ok) e = absurd (cc)
quiet (what.View installed) e = absurd (cc)
quiet (what.Ask ask) e =
    record {
      step = record { times = refl; views = refl; starts = λ rank. refl };
      reads = λ rank test. refl;
      resets = λ rank. refl;
    }
quiet (what.Tell tell) e =
    record {
      step = record { times = refl; views = refl; starts = λ rank. refl };
      reads = λ rank test. refl;
      resets = λ rank. refl;
    }
quiet (what.Device agrees) e =
    record {
      step = record { times = refl; views = refl; starts = λ rank. refl };
      reads = λ rank test. refl;
      resets = λ rank. refl;
    }
quiet what.Tick e =
    record {
      step = record { times = refl; views = refl; starts = λ rank. refl };
      reads = λ rank test. refl;
      resets = λ rank. refl;
    }
quiet (what.Stopped ok) e =
    record {
      step = record { times = refl; views = refl; starts = λ rank. refl };
      reads = λ rank test. refl;
      resets = λ rank. refl;
    }
quiet what.Leave e =
    record {
      step = record { times = refl; views = refl; starts = λ rank. refl };
      reads = λ rank test. refl;
      resets = λ rank. refl;
    }
quiet (what.Closed ok) e =
    record {
      step = record { times = refl; views = refl; starts = λ rank. refl };
      reads = λ rank test. refl;
      resets = λ rank. refl;
    }

-- a line that does not bear on the fencing
pub fence_other : (fence : Fence) (s : Settings) (log : List Line) (line : Line)
    → FenceFor fence s log → bears_on_fencing line.what ≡ false → now log ≤ line.tick → disk_of line.outs ≡ None
    → FenceFor fence s (line ∷ log)
fence_other fence s log line h other later none =
    let q = quiet line.what other in
    fence_step fence fence s log line h
    (record { count = refl; msgwait = refl; members = refl; fresh = refl }) q.step none
    (inside-other log line h.inside q.reads q.resets)
    (λ rank below. h.cleans rank below
    ∙ sym (was_read-kept is_clean_slot rank log line (q.step.starts rank) (q.reads rank is_clean_slot)))
    (λ rank below. h.seens rank below
    ∙ sym (was_read-kept is_seen_slot rank log line (q.step.starts rank) (q.reads rank is_seen_slot)))
    (λ rank below. h.resets rank below ∙ sym (reset_tick-kept rank log line (q.step.starts rank) (q.resets rank)))
    (λ rank at is. past_kept fence s log line h later rank at
    (sym (reset_tick-kept rank log line (q.step.starts rank) (q.resets rank)) ∙ is))

-- ---- the answers

-- an answer is about the rank that it names
slot_about : (op : Option DiskOp) (j : Rank) (seen : SlotSeen) → answers_op op (what.SlotRead j seen) ≡ true
    → is_about j.0 op ≡ true
slot_about None j seen e = absurd (cc)
slot_about (Some disk.ReadHeader) j seen e = absurd (cc)
slot_about (Some (disk.ReadSlot rank)) j seen e = e
slot_about (Some disk.CheckMail) j seen e = absurd (cc)
slot_about (Some (disk.WriteClaim number)) j seen e = absurd (cc)
slot_about (Some disk.WriteClear) j seen e = absurd (cc)
slot_about (Some disk.ReadMail) j seen e = absurd (cc)
slot_about (Some (disk.WriteReset rank)) j seen e = absurd (cc)
slot_about (Some (disk.WriteClose number)) j seen e = absurd (cc)

mail_about : (op : Option DiskOp) (j : Rank) (ok : Bool) → answers_op op (what.MailWritten j ok) ≡ true
    → is_about j.0 op ≡ true
mail_about None j ok e = absurd (cc)
mail_about (Some disk.ReadHeader) j ok e = absurd (cc)
mail_about (Some (disk.ReadSlot rank)) j ok e = absurd (cc)
mail_about (Some disk.CheckMail) j ok e = absurd (cc)
mail_about (Some (disk.WriteClaim number)) j ok e = absurd (cc)
mail_about (Some disk.WriteClear) j ok e = absurd (cc)
mail_about (Some disk.ReadMail) j ok e = absurd (cc)
mail_about (Some (disk.WriteReset rank)) j ok e = e
mail_about (Some (disk.WriteClose number)) j ok e = absurd (cc)

-- the answer counts for the rank that it names where the operation is fresh, and for no other
counts_where : (fence : Fence) (s : Settings) (log : List Line) (j : Rank) (rank : ℕ) (given names : Bool)
    → FenceFor fence s log
    → is_about j.0 (op_out log) ≡ true → rank < 32 → (j.0 == rank) ≡ names
    → (nat_lt (out_time rank log) (ask_place log) && (names && given)) ≡ (is_fresh fence j.0 && (names && given))
counts_where fence s log j rank given true h about below is =
    let same : j.0 ≡ rank = (Decides-eqb j.0 rank).0 is in
    let here : is_about rank (op_out log) ≡ true = subst (λ r. is_about r (op_out log) ≡ true) same about in
    ap (λ b. b && given) (sym (h.freshes rank below here)) ∙ ap (λ r. is_fresh fence r && given) (sym same)
counts_where fence s log j rank given false h about below is =
    and-false (nat_lt (out_time rank log) (ask_place log)) ∙ sym (and-false (is_fresh fence j.0))

counts : (fence : Fence) (s : Settings) (log : List Line) (j : Rank) (rank : ℕ) (given : Bool) → FenceFor fence s log
    → is_about j.0 (op_out log) ≡ true → rank < 32
    → (nat_lt (out_time rank log) (ask_place log) && (j.0 == rank && given))
    ≡ (is_fresh fence j.0 && (j.0 == rank && given))
counts fence s log j rank given h about below = counts_where fence s log j rank given (j.0 == rank) h about below refl

was_read-slot : (test : SlotSeen → Bool) (rank : ℕ) (log : List Line) (line : Line) (j : Rank) (seen : SlotSeen)
    → line.what ≡ what.SlotRead j seen → line.asked ≡ ask_place log
    → was_read test (line ∷ log) rank
    ≡ ((nat_lt (out_time rank log) (ask_place log) && (j.0 == rank && test seen)) || was_read test log rank)
unfolding slot_read_since
was_read-slot test rank log line j seen is asked =
    ap (λ place. (nat_lt place line.asked && reads_slot test rank line.what) || slot_read_since place test rank log)
    (out_time-kept rank log line (ap (starts_out_time rank) is))
    ∙ (ap (λ place. (nat_lt (out_time rank log) place
    && reads_slot test rank line.what) || was_read test log rank) asked
    ∙ ap (λ w. (nat_lt (out_time rank log) (ask_place log) && reads_slot test rank w) || was_read test log rank) is)

-- a mask after a read of a slot
read_mask : (fence : Fence) (s : Settings) (log : List Line) (line : Line) (j : Rank) (seen : SlotSeen)
    (test : SlotSeen → Bool) (before after : Mask)
    → FenceFor fence s log → line.what ≡ what.SlotRead j seen → line.asked ≡ ask_place log
    → is_about j.0 (op_out log) ≡ true
    → ((rank : ℕ) → rank < 32 → is_member before rank ≡ was_read test log rank)
    → ((rank : ℕ) → rank < 32 → is_member after rank
    ≡ ((is_fresh fence j.0 && (j.0 == rank && test seen)) || is_member before rank))
    → (rank : ℕ) → rank < 32 → is_member after rank ≡ was_read test (line ∷ log) rank
read_mask fence s log line j seen test before after h is asked about old new rank below =
    new rank below
    ∙ (ap (λ b. (is_fresh fence j.0 && (j.0 == rank && test seen)) || b) (old rank below)
    ∙ (ap (λ b. b || was_read test log rank) (sym (counts fence s log j rank (test seen) h about below))
    ∙ sym (was_read-slot test rank log line j seen is asked)))

-- a read of a slot
pub fence_slot : (fence after : Fence) (s : Settings) (log : List Line) (line : Line) (j : Rank) (seen : SlotSeen)
    → FenceFor fence s log → line.what ≡ what.SlotRead j seen → line.asked ≡ ask_place log
    → answers_op (op_out log) line.what ≡ true
    → now log ≤ line.tick → disk_of line.outs ≡ None
    → after ≡ record fence { seen = after.seen; clean = after.clean }
    → ((rank : ℕ) → rank < 32 → is_member after.seen rank
    ≡ ((is_fresh fence j.0 && (j.0 == rank && is_seen_slot seen)) || is_member fence.seen rank))
    → ((rank : ℕ) → rank < 32 → is_member after.clean rank
    ≡ ((is_fresh fence j.0 && (j.0 == rank && is_clean_slot seen)) || is_member fence.clean rank))
    → FenceFor after s (line ∷ log)
fence_slot fence after s log line j seen h is asked fits later none rest seens cleans =
    let about = slot_about (op_out log) j seen (ap (answers_op (op_out log)) (sym is) ∙ fits) in
    let within : line.asked ≤ length log = let few = ask_place-within log in omega arith in
    let no_reset : (rank : ℕ) → writes_reset rank line.what ≡ false = λ rank. ap (writes_reset rank) is in
    let starts : (rank : ℕ) → starts_out_time rank line.what ≡ false = λ rank. ap (starts_out_time rank) is in
    fence_step fence after s log line h
    (record {
      count = ap (λ x. x.count) rest;
      msgwait = ap (λ x. x.msgwait) rest;
      members = ap (λ x. x.members) rest;
      fresh = ap (λ x. x.fresh) rest;
    })
    (record { times = ap times_of is; views = ap view_of is; starts = starts })
    none (inside-more log line h.inside within)
    (read_mask fence s log line j seen is_clean_slot fence.clean after.clean h is asked about h.cleans cleans)
    (read_mask fence s log line j seen is_seen_slot fence.seen after.seen h is asked about h.seens seens)
    (λ rank below. ap (λ x. written_at x rank) rest
    ∙ (h.resets rank below ∙ sym (reset_tick-kept rank log line (starts rank) (no_reset rank))))
    (λ rank at is_at. past_kept fence s log line h later rank at
    (sym (reset_tick-kept rank log line (starts rank) (no_reset rank)) ∙ is_at))

reset_tick-mail : (rank : ℕ) (log : List Line) (line : Line) (j : Rank) (ok : Bool)
    → line.what ≡ what.MailWritten j ok → line.asked ≡ ask_place log
    → reset_tick (line ∷ log) rank
    ≡ (if nat_lt (out_time rank log) (ask_place log) && (j.0 == rank && ok) then Some line.tick
    else reset_tick log rank)
unfolding reset_since
reset_tick-mail rank log line j ok is asked =
    ap (λ place. if nat_lt place line.asked && writes_reset rank line.what then Some line.tick
    else reset_since place rank log) (out_time-kept rank log line (ap (starts_out_time rank) is))
    ∙ (ap (λ place. if nat_lt (out_time rank log) place && writes_reset rank line.what then Some line.tick
    else reset_tick log rank) asked
    ∙ ap (λ w. if nat_lt (out_time rank log) (ask_place log) && writes_reset rank w then Some line.tick
    else reset_tick log rank) is)

-- a reset that was written, or not
pub fence_mail : (fence after : Fence) (s : Settings) (log : List Line) (line : Line) (j : Rank) (ok : Bool)
    → FenceFor fence s log → line.what ≡ what.MailWritten j ok → line.asked ≡ ask_place log
    → answers_op (op_out log) line.what ≡ true
    → now log ≤ line.tick → disk_of line.outs ≡ None
    → after ≡ record fence { written = after.written; ticks = after.ticks }
    → ((rank : ℕ) → rank < 32 → written_at after rank
    ≡ (if is_fresh fence j.0 && (j.0 == rank && ok) then Some line.tick else written_at fence rank))
    → FenceFor after s (line ∷ log)
fence_mail fence after s log line j ok h is asked fits later none rest resets =
    let about = mail_about (op_out log) j ok (ap (answers_op (op_out log)) (sym is) ∙ fits) in
    let within : line.asked ≤ length log = let few = ask_place-within log in omega arith in
    let no_read : (rank : ℕ) (test : SlotSeen → Bool) → reads_slot test rank line.what ≡ false =
    λ rank test. ap (reads_slot test rank) is in
    let starts : (rank : ℕ) → starts_out_time rank line.what ≡ false = λ rank. ap (starts_out_time rank) is in
    fence_step fence after s log line h
    (record {
      count = ap (λ x. x.count) rest;
      msgwait = ap (λ x. x.msgwait) rest;
      members = ap (λ x. x.members) rest;
      fresh = ap (λ x. x.fresh) rest;
    })
    (record { times = ap times_of is; views = ap view_of is; starts = starts })
    none (inside-more log line h.inside within)
    (λ rank below. ap (λ x. is_member x.clean rank) rest
    ∙ (h.cleans rank below ∙ sym (was_read-kept is_clean_slot rank log line (starts rank)
    (no_read rank is_clean_slot))))
    (λ rank below. ap (λ x. is_member x.seen rank) rest
    ∙ (h.seens rank below ∙ sym (was_read-kept is_seen_slot rank log line (starts rank) (no_read rank is_seen_slot))))
    (λ rank below. resets rank below
    ∙ (ap (λ o. if is_fresh fence j.0 && (j.0 == rank && ok) then Some line.tick else o) (h.resets rank below)
    ∙ (ap (λ b. if b then Some line.tick else reset_tick log rank) (sym (counts fence s log j rank ok h about below))
    ∙ sym (reset_tick-mail rank log line j ok is asked))))
    (λ rank at is_at. found_within (nat_lt (out_time rank log) (ask_place log) && (j.0 == rank && ok)) line.tick at
    (reset_tick log rank)
    (past_kept fence s log line h later rank at) (sym (reset_tick-mail rank log line j ok is asked) ∙ is_at))

-- ---- a View

apart_where : (members : Mask) (a b : ℕ) (same : Bool) → is_member members a ≡ true → is_member members b ≡ false
    → (a == b) ≡ same → same ≡ false
apart_where members a b true p q is =
    let e : a ≡ b = (Decides-eqb a b).0 is in
    absurd (let z : true ≡ false = sym p ∙ (ap (is_member members) e ∙ q) in cc)
apart_where members a b false p q is = refl

-- a member and another rank
apart : (members : Mask) (a b : ℕ) → is_member members a ≡ true → is_member members b ≡ false → (a == b) ≡ false
apart members a b p q = apart_where members a b (a == b) p q refl

out_where : (members : Mask) (other : Rank) (rank : ℕ) (there : Bool) → is_member members other.0 ≡ there
    → is_member members rank ≡ true
    → option_map_or (λ other. other.0 == rank) (if there then None else Some other) false ≡ false
out_where members other rank true is member = refl
out_where members other rank false is member =
    let z = apart members rank other.0 member is in swapped other.0 rank z
  where
    swapped : (a b : ℕ) → (b == a) ≡ false → (a == b) ≡ false
    swapped a b e = grind (arith, nat_tests)

-- a member of the new view is fresh no more
fresh_out : (members : Mask) (fresh : Option Rank) (rank : ℕ) → is_member members rank ≡ true
    → option_map_or (λ other. other.0 == rank) (fresh_outside members fresh) false ≡ false
fresh_out members None rank member = refl
fresh_out members (Some other) rank member = out_where members other rank (is_member members other.0) refl member

stays_where : (members : Mask) (other : Rank) (rank : ℕ) (there : Bool) → is_member members other.0 ≡ there
    → is_member members rank ≡ false
    → option_map_or (λ other. other.0 == rank) (if there then None else Some other) false ≡ (other.0 == rank)
stays_where members other rank true is outside = sym (apart members other.0 rank is outside)
stays_where members other rank false is outside = refl

-- another rank is as fresh as before
fresh_stays : (members : Mask) (fresh : Option Rank) (rank : ℕ) → is_member members rank ≡ false
    → option_map_or (λ other. other.0 == rank) (fresh_outside members fresh) false
    ≡ option_map_or (λ other. other.0 == rank) fresh false
fresh_stays members None rank outside = refl
fresh_stays members (Some other) rank outside = stays_where members other rank (is_member members other.0) refl outside

module _ (fence : Fence) (s : Settings) (log : List Line) (line : Line) (installed : View)
    (h : FenceFor fence s log) (is : line.what ≡ what.View installed) (later : now log ≤ line.tick)
    (none : disk_of line.outs ≡ None) where
  no_read : (rank : ℕ) (test : SlotSeen → Bool) → reads_slot test rank line.what ≡ false
  no_read rank test = ap (reads_slot test rank) is

  no_reset : (rank : ℕ) → writes_reset rank line.what ≡ false
  no_reset rank = ap (writes_reset rank) is

  starts : (rank : ℕ) (there : Bool) → is_member installed.members rank ≡ there → starts_out_time rank line.what ≡ there
  starts rank there e = ap (starts_out_time rank) is ∙ e

  -- a mask of slots that were read, after a View
  view_mask : (test : SlotSeen → Bool) (before after : Mask)
      → ((rank : ℕ) → rank < 32 → is_member before rank ≡ was_read test log rank)
      → ((rank : ℕ) → is_member after rank ≡ (is_member before rank && not (is_member installed.members rank)))
      → (rank : ℕ) (there : Bool) → is_member installed.members rank ≡ there → rank < 32
      → is_member after rank ≡ was_read test (line ∷ log) rank
  view_mask test before after old new rank true e below =
      new rank ∙ (ap (λ b. is_member before rank && not b) e
      ∙ (and-false (is_member before rank)
      ∙ sym (was_read-begun test rank log line h.inside (starts rank true e) (no_read rank test))))
  view_mask test before after old new rank false e below =
      new rank ∙ (ap (λ b. is_member before rank && not b) e
      ∙ (and-true (is_member before rank)
      ∙ (old rank below ∙ sym (was_read-kept test rank log line (starts rank false e) (no_read rank test)))))

  view_resets : (after : Mask)
      → ((rank : ℕ) → is_member after rank ≡ (is_member fence.written rank && not (is_member installed.members rank)))
      → (rank : ℕ) (there : Bool) → is_member installed.members rank ≡ there → rank < 32
      → (if is_member after rank then Some (slice_index fence.ticks rank) else None) ≡ reset_tick (line ∷ log) rank
  view_resets after new rank true e below =
      let gone =
      new rank ∙ (ap (λ b. is_member fence.written rank && not b) e ∙ and-false (is_member fence.written rank)) in
      ap (λ b. if b then Some (slice_index fence.ticks rank) else None) gone
      ∙ sym (reset_tick-begun rank log line h.inside (starts rank true e) (no_reset rank))
  view_resets after new rank false e below =
      let same =
      new rank ∙ (ap (λ b. is_member fence.written rank && not b) e ∙ and-true (is_member fence.written rank)) in
      ap (λ b. if b then Some (slice_index fence.ticks rank) else None) same
      ∙ (h.resets rank below ∙ sym (reset_tick-kept rank log line (starts rank false e) (no_reset rank)))

  view_past : (rank at : ℕ) (there : Bool) → is_member installed.members rank ≡ there
      → reset_tick (line ∷ log) rank ≡ Some at → at ≤ line.tick
  view_past rank at true e found =
      absurd (none-some at (sym (reset_tick-begun rank log line h.inside (starts rank true e) (no_reset rank)) ∙ found))
  view_past rank at false e found =
      past_kept fence s log line h later rank at
      (sym (reset_tick-kept rank log line (starts rank false e) (no_reset rank)) ∙ found)

  not_asked_since : (rank : ℕ) → starts_out_time rank line.what ≡ true
      → nat_lt (out_time rank (line ∷ log)) (ask_place (line ∷ log)) ≡ false
  not_asked_since rank begun =
      let place = out_time-begun rank log line begun in
      let asked = ask_place-bare log line none in
      let few = ask_place-within log in
      grind (arith, nat_tests)

  view_fresh : (rank : ℕ) (there : Bool) → is_member installed.members rank ≡ there → rank < 32
      → is_about rank (op_out (line ∷ log)) ≡ true
      → option_map_or (λ other. other.0 == rank) (fresh_outside installed.members fence.fresh) false
      ≡ nat_lt (out_time rank (line ∷ log)) (ask_place (line ∷ log))
  view_fresh rank true e below about =
      fresh_out installed.members fence.fresh rank e ∙ sym (not_asked_since rank (starts rank true e))
  view_fresh rank false e below about =
      fresh_stays installed.members fence.fresh rank e
      ∙ fresh_kept fence s log line rank h below none (starts rank false e) about

  pub fence_view : (clean seen written : Mask)
      → ((rank : ℕ) → is_member clean rank ≡ (is_member fence.clean rank && not (is_member installed.members rank)))
      → ((rank : ℕ) → is_member seen rank ≡ (is_member fence.seen rank && not (is_member installed.members rank)))
      → ((rank : ℕ) → is_member written rank ≡ (is_member fence.written rank && not (is_member installed.members rank)))
      → FenceFor (record fence {
        members = installed.members;
        clean = clean;
        seen = seen;
        written = written;
        fresh = fresh_outside installed.members fence.fresh;
      }) s (line ∷ log)
  fence_view clean seen written cleans seens writtens = record {
    counts = h.counts;
    few = h.few;
    waits = h.waits ∙ ap (λ times. times.msgwait) (sym (timing-kept log line (ap times_of is)));
    views = λ rank below. ap (λ present. in_view present rank) (sym (view-new log line installed is));
    cleans =
        λ rank below. view_mask is_clean_slot fence.clean clean h.cleans cleans rank
        (is_member installed.members rank) refl below;
    seens =
        λ rank below. view_mask is_seen_slot fence.seen seen h.seens seens rank
        (is_member installed.members rank) refl below;
    resets = λ rank below. view_resets written writtens rank (is_member installed.members rank) refl below;
    past = λ rank at found. view_past rank at (is_member installed.members rank) refl found;
    inside = inside-other log line h.inside no_read no_reset;
    freshes = λ rank below about. view_fresh rank (is_member installed.members rank) refl below about;
  }

-- ---- an operation is asked for

op_out-bare : (log : List Line) (line : Line) → disk_of line.outs ≡ None
    → op_out (line ∷ log) ≡ (if is_answer line.what then None else op_out log)
unfolding op_out
op_out-bare log line none = ap (λ asked. option_or asked (if is_answer line.what then None else op_out log)) none

-- an entry that ends no boot and leaves a rank outside the view starts no out-time of it
no_start : (w : What) (before : Option View) (rank : ℕ) → is_boot_end w ≡ false
    → in_view (option_or (view_of w) before) rank ≡ false → starts_out_time rank w ≡ false
no_start what.Begin before rank boot outside = refl
no_start what.BeginClean before rank boot outside = refl
no_start (what.Header seen) before rank boot outside = refl
no_start (what.SlotRead other seen) before rank boot outside = refl
no_start (what.MailChecked seen) before rank boot outside = refl
no_start (what.Claimed ok) before rank boot outside = refl
no_start (what.Cleared ok) before rank boot outside = absurd (cc)
no_start (what.MailRead seen) before rank boot outside = refl
no_start (what.MailWritten other ok) before rank boot outside = refl
no_start (what.View installed) before rank boot outside = outside
no_start (what.Ask ask) before rank boot outside = refl
no_start (what.Tell tell) before rank boot outside = refl
no_start (what.Device agrees) before rank boot outside = refl
no_start what.Tick before rank boot outside = refl
no_start (what.Stopped ok) before rank boot outside = refl
no_start what.Leave before rank boot outside = refl
no_start (what.Closed ok) before rank boot outside = refl

no_start_outside : (log : List Line) (line : Line) (rank : ℕ) → is_boot_end line.what ≡ false
    → is_in_view (line ∷ log) rank ≡ false → starts_out_time rank line.what ≡ false
unfolding view
no_start_outside log line rank boot outside = no_start line.what (view log) rank boot outside

-- what is asked for at an entry is asked for in the out-time of a rank that is outside the view
asked_now : (log : List Line) (line : Line) (rank : ℕ) → is_boot_end line.what ≡ false
    → is_in_view (line ∷ log) rank ≡ false
    → nat_lt (out_time rank (line ∷ log)) (suc (length log)) ≡ true
asked_now log line rank boot outside =
    let kept = out_time-kept rank log line (no_start_outside log line rank boot outside) in
    let few = out_time-within rank log in
    grind (arith, nat_tests)

module _ (fence : Fence) (s : Settings) (log : List Line) (line : Line) (h : FenceFor fence s (line ∷ log))
    (boot : is_boot_end line.what ≡ false) (none : disk_of line.outs ≡ None) where
  issued_fresh : (asked : Option DiskOp) → IsOutside (line ∷ log) asked → (rank : ℕ) → rank < 32
      → is_about rank (option_or asked (if is_answer line.what then None else op_out log)) ≡ true
      → option_map_or (λ other. other.0 == rank) (option_or (about_rank (want_of asked)) fence.fresh) false
      ≡ nat_lt (out_time rank (line ∷ log)) (if is_some asked then suc (length log) else ask_place log)
  issued_fresh None outside rank below about =
      h.freshes rank below (ap (is_about rank) (op_out-bare log line none) ∙ about)
      ∙ ap (nat_lt (out_time rank (line ∷ log))) (ask_place-bare log line none)
  issued_fresh (Some disk.ReadHeader) outside rank below about = absurd (cc)
  issued_fresh (Some (disk.ReadSlot other)) outside rank below about =
      about ∙ sym (asked_now log line rank boot (outside rank about))
  issued_fresh (Some disk.CheckMail) outside rank below about = absurd (cc)
  issued_fresh (Some (disk.WriteClaim number)) outside rank below about = absurd (cc)
  issued_fresh (Some disk.WriteClear) outside rank below about = absurd (cc)
  issued_fresh (Some disk.ReadMail) outside rank below about = absurd (cc)
  issued_fresh (Some (disk.WriteReset other)) outside rank below about =
      about ∙ sym (asked_now log line rank boot (outside rank about))
  issued_fresh (Some (disk.WriteClose number)) outside rank below about = absurd (cc)

  pub fence_issued : (outs : List Out) (w : Want) → w ≡ want_of (disk_of outs) → IsOutside (line ∷ log) (disk_of outs)
      → FenceFor (record fence { fresh = option_or (about_rank w) fence.fresh }) s (record line { outs = outs } ∷ log)
  unfolding view timing out_time slot_read_since reset_since op_out ask_place
  fence_issued outs w is outside = record {
    counts = h.counts;
    few = h.few;
    waits = h.waits;
    views = h.views;
    cleans = h.cleans;
    seens = h.seens;
    resets = h.resets;
    past = h.past;
    inside = record { reads = h.inside.reads; resets = h.inside.resets };
    freshes = λ rank below about.
        ap (λ w. option_map_or (λ other. other.0 == rank) (option_or (about_rank w) fence.fresh) false) is
        ∙ issued_fresh (disk_of outs) outside rank below about;
  }

-- ---- the end of the boot

pub fence_new : (s : Settings) (count msgwait : ℕ) (ticks : List ℕ) (log : List Line) (line : Line) (ok : Bool)
    → count ≡ length s.nodes → count ≤ 32
    → line.what ≡ what.Cleared ok → IsAskedInside log → (timing (line ∷ log)).msgwait ≡ msgwait
    → view (line ∷ log) ≡ None
    → op_out (line ∷ log) ≡ Some disk.ReadMail
    → FenceFor (record {
      count = count;
      msgwait = msgwait;
      members = record { 0 = 0 };
      clean = record { 0 = 0 };
      seen = record { 0 = 0 };
      written = record { 0 = 0 };
      ticks = ticks;
      fresh = None;
    }) s (line ∷ log)
fence_new s count msgwait ticks log line ok counts few is inside waits no_view out =
    let no_read : (rank : ℕ) (test : SlotSeen → Bool) → reads_slot test rank line.what ≡ false =
    λ rank test. ap (reads_slot test rank) is in
    let no_reset : (rank : ℕ) → writes_reset rank line.what ≡ false = λ rank. ap (writes_reset rank) is in
    let starts : (rank : ℕ) → starts_out_time rank line.what ≡ true = λ rank. ap (starts_out_time rank) is in
    record {
      counts = counts;
      few = few;
      waits = sym waits;
      views = λ rank below. empty_has_none rank ∙ ap (λ present. in_view present rank) (sym no_view);
      cleans =
          λ rank below. empty_has_none rank
          ∙ sym (was_read-begun is_clean_slot rank log line inside (starts rank) (no_read rank is_clean_slot));
      seens =
          λ rank below. empty_has_none rank
          ∙ sym (was_read-begun is_seen_slot rank log line inside (starts rank) (no_read rank is_seen_slot));
      resets =
          λ rank below. ap (λ b. if b then Some (slice_index ticks rank) else None) (empty_has_none rank)
          ∙ sym (reset_tick-begun rank log line inside (starts rank) (no_reset rank));
      past =
          λ rank at found. absurd (none-some at (sym (reset_tick-begun rank log line inside (starts rank) (no_reset rank)) ∙ found));
      inside = inside-other log line inside no_read no_reset;
      freshes = λ rank below about. absurd (let z : false ≡ true = sym (ap (is_about rank) out) ∙ about in cc);
    }
