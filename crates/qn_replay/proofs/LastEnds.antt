-- The last world of a replay, or its end.
use Rattle.std.proofs.Common.{◌≡◌, ◌≤◌, ◌≢◌, length, ◌⊎◌, inl, inr, ℕ, List, [], ◌++◌, None, Option, Some, Result, Err, IfErr, IfSome, refl, sym, ap, ◌∙◌, subst}
use Rattle.std.specs.Io.KnownBytes.{IsAtEnd, prepend_known}
use Rattle.qn_io.specs.declared.buffered.TheConstants.{PIECE}
use Rattle.qn_io.specs.Outside.{prepend_known-append, prepend_known-nil}
use Rattle.qn_model.specs.Inputs.{Tells, Anyway, AtEnd, AtFailure, tells_more}
use Rattle.qn_model.specs.declared.events.Event.{Event}
use Rattle.qn_model.specs.declared.reports.Report.{Report}
use Rattle.qn_model.specs.Lines.{Ending, Ended, ReadFailed}
use Rattle.qn_playback.specs.declared.head.Head.{Head}
use Rattle.qn_playback.specs.Faults.{IsHeadEnd}
use Rattle.qn_playback.specs.HeadLaws.{head_fits}
use Rattle.qn_playback.specs.ReplayLaws.{answer_fits}
use Rattle.qn_playback.specs.Replays.{WantsMemory, answer_of}
use Rattle.qn_model.specs.World.{World}
use Rattle.qn_playback.specs.Lines.{Taken}
use Rattle.qn_playback.specs.Endings.{EndFits}
use Rattle.qn_playback.specs.Reading.{Anywhere, EndsWith, IsNeeded, IsOpen, LastDecides, Rest, StillOpen, Stops, Told}
use Rattle.qn_playback.specs.Reading as reading
use Rattle.qn_playback.specs.RunLaws.{tells_all}
use Rattle.qn_playback.specs.Runs as runs
use Rattle.qn_sched.specs.declared.replay_end.ReplayEnd.{ReplayEnd}
use Rattle.qn_sched.specs.declared.replay_end.ReplayEnd.TheVariants.{Done, BadConf, BadSettings, BadSchedule, NotAllowed, ReadFault, WriteFault, UnsafeTiming, UnsafeLease, NoMemory}
use Rattle.qn_world.specs.Standing.{WorldFor}
use Rattle.qn_world.specs.Whole.{Whole}
use Rattle.qn_playback.specs.EndLaws.{fits, run_leased, run_unwritten, tells_leased, tells_unwritten}
use Rattle.qn_playback.specs.Runs.{Unwritten, Wanted, WroteAll}
use Rattle.qn_playback.specs.Worlds.{Progress, progress_at}
use Rattle.qn_replay.specs.declared.playback.Playback.{Playback as AnyPlayback}
use Rattle.qn_replay.specs.Endings.{replay_fits}
use Rattle.qn_replay.specs.EventWorlds.{untraced}
use Rattle.qn_replay.specs.Playing.{HasPlayed, last_of, place_at}
use Rattle.qn_replay.specs.Replay.{Replayed, ends, image_replay, image_world, replay_of}
use Rattle.qn_replay.specs.Runs.{GivesWorld, IsFault, Reaches}
use Rattle.qn_replay.proofs.Untraced.{SameEnd, answers_same}

abbrev no_world : ReplayEnd → Result Whole ReplayEnd
no_world end = Err end

head_gives : {taken : List ℕ} {at_end failed : Type 0} (end : ReplayEnd) → IsFault end → EndsWith replay_of None Anywhere taken at_end failed end
    → (no_world end ≡ no_world NoMemory) ⊎ Tells replay_of taken at_end failed (GivesWorld (no_world end))
head_gives end fault (Told tells) = inr (tells_more (λ a. a ≡ ends end) (GivesWorld (no_world end)) (λ a is. (ap (λ (x : Replayed). x.end) is, fault)) tells)
head_gives end fault (reading.Wanted memory anywhere) = inl (ap no_world memory)

-- the head was not good
pub reaches_in_head : {left left_new : Option (List ℕ)} {failed : Type 0} (pieces waiting : List ℕ) (end : ReplayEnd) → pieces ≡ [] → IsFault end → length waiting ≤ PIECE
    → Stops replay_of None Anywhere (prepend_known pieces left) (prepend_known waiting left_new) ((waiting ≡ []) × IsAtEnd left_new) ((waiting ≡ []) × failed) end
    → Reaches left left_new failed (no_world end)
reaches_in_head {left} {left_new} pieces waiting end none fault within stop = record {
  taken = stop.taken;
  waiting = waiting;
  takes = sym (prepend_known-nil left) ∙ ap (λ p. prepend_known p left) (sym none) ∙ stop.takes ∙ sym (prepend_known-append stop.taken waiting left_new);
  needed = stop.needed;
  within = within;
  ends = head_gives end fault stop.stops;
}

-- an end within the head is a fault
pub head_fault : (fault : ReplayEnd) → IsHeadEnd fault → IsFault fault
head_fault (Done events) is = is
head_fault (BadConf fault) is = tt
head_fault (BadSettings fault) is = tt
head_fault (BadSchedule line fault) is = tt
head_fault (NotAllowed line rule) is = tt
head_fault ReadFault is = tt
head_fault WriteFault is = is
head_fault (UnsafeTiming timing) is = tt
head_fault (UnsafeLease timeout limit lease) is = is
head_fault NoMemory is = tt

-- ---- a run of which no trace is kept

abbrev Playback : Type 0
Playback = AnyPlayback Whole Event Report Head

-- what such a replay answers
abbrev untraced_of : Rest (Option (Progress World))
untraced_of = answer_of (untraced image_replay)

untraced_fits : (ending : Ending) (bytes : List ℕ) → EndFits (untraced_of ending bytes).end ending
untraced_fits ending bytes = answer_fits (untraced image_replay) ⊥ head_fits ending bytes

-- it needs the same bytes
open_same : (taken : List ℕ) → IsOpen untraced_of taken → IsOpen replay_of taken
open_same taken still = sym (answers_same image_replay ReadFailed taken).end ∙ still

needed_same : {taken : List ℕ} → IsNeeded untraced_of taken → IsNeeded replay_of taken
needed_same {taken} (StillOpen still) = StillOpen (open_same taken still)
needed_same (LastDecides front byte parts still) = LastDecides front byte parts (open_same front still)

-- and tells of the same end and place
tells_same : {taken : List ℕ} {at_end failed : Type 0} (played : Replayed) (P : Replayed → Type 0) → ((a : Replayed) → SameEnd played a → P a)
    → Tells untraced_of taken at_end failed (λ p. p ≡ played) → Tells replay_of taken at_end failed P
tells_same {taken} played P holds (Anyway always) =
    Anyway (λ ending more. holds (replay_of ending (taken ++ more)) (subst (λ (p : Replayed). SameEnd p (replay_of ending (taken ++ more))) (always ending more) (answers_same image_replay ending (taken ++ more))))
tells_same {taken} played P holds (AtEnd at_end is) =
    AtEnd at_end (holds (replay_of Ended taken) (subst (λ (p : Replayed). SameEnd p (replay_of Ended taken)) is (answers_same image_replay Ended taken)))
tells_same {taken} played P holds (AtFailure fails is) =
    AtFailure fails (holds (replay_of ReadFailed taken) (subst (λ (p : Replayed). SameEnd p (replay_of ReadFailed taken)) is (answers_same image_replay ReadFailed taken)))

-- where the world of a playback stands
pub record IsPlaceOf (playback : Playback) (last : Option (Progress World)) : Type 0 where
  pub so_far : Progress World
  pub is : last ≡ Some so_far
  pub settings : playback.world.settings ≡ so_far.settings
  pub timing : playback.world.timing ≡ so_far.timing
  pub stands : WorldFor playback.world so_far.world

-- it stands where its lines lead
pub place_after : (start playback : Playback) (earlier : Taken) (played : HasPlayed image_world start playback earlier) → IsPlaceOf playback (Some (progress_at (place_at image_world playback) played.after.world))
place_after start playback earlier played = record {
  so_far = progress_at (place_at image_world playback) played.after.world;
  is = refl;
  settings = refl;
  timing = refl;
  stands = played.after.stands;
}

module _ (playback : Playback) where
  gives : {taken : List ℕ} {at_end failed : Type 0} (played a : Replayed) (end : ReplayEnd) → Tells untraced_of taken at_end failed (λ p. p ≡ played) → end ≡ played.end → IsPlaceOf playback played.last → SameEnd played a
      → GivesWorld (last_of playback.world end) a
  gives played a (Done events) tells is place same = record {
    events = events;
    so_far = place.so_far;
    ends = sym same.end ∙ sym is;
    last = sym same.last ∙ place.is;
    settings = place.settings;
    timing = place.timing;
    stands = place.stands;
  }
  gives played a WriteFault tells is place same = absurd (tells_unwritten ⊥ untraced_of untraced_fits played tells (sym is))
  gives played a (UnsafeLease timeout limit lease) tells is place same = absurd (tells_leased ⊥ untraced_of untraced_fits played timeout limit lease tells (sym is))
  gives played a (BadConf fault) tells is place same = (sym same.end ∙ sym is, tt)
  gives played a (BadSettings fault) tells is place same = (sym same.end ∙ sym is, tt)
  gives played a (BadSchedule line fault) tells is place same = (sym same.end ∙ sym is, tt)
  gives played a (NotAllowed line rule) tells is place same = (sym same.end ∙ sym is, tt)
  gives played a ReadFault tells is place same = (sym same.end ∙ sym is, tt)
  gives played a (UnsafeTiming timing) tells is place same = (sym same.end ∙ sym is, tt)
  gives played a NoMemory tells is place same = (sym same.end ∙ sym is, tt)

  run_gives : {taken : List ℕ} {at_end failed write_failed : Type 0} {old new : Option (List ℕ)} (end : ReplayEnd) → (write_failed → ⊥)
      → runs.EndsAs untraced_of (IsPlaceOf playback) (WantsMemory (untraced image_replay)) taken at_end failed old new write_failed end
      → (last_of playback.world end ≡ Err NoMemory) ⊎ Tells replay_of taken at_end failed (GivesWorld (last_of playback.world end))
  run_gives end wrote (WroteAll played tells is whole place) =
      inr (tells_same played (GivesWorld (last_of playback.world end)) (λ a same. gives played a end tells is place same) tells)
  run_gives end wrote (Unwritten trace tells is fails prefix) = absurd (wrote fails)
  run_gives end wrote (Wanted trace tells is whole why) = inl (ap (last_of playback.world) is)

  -- the run ended
  pub reaches_out : {left left_new old new : Option (List ℕ)} {failed write_failed : Type 0} (end : ReplayEnd) → (write_failed → ⊥)
      → runs.Runs untraced_of (IsPlaceOf playback) (WantsMemory (untraced image_replay)) left left_new failed old new write_failed end → Reaches left left_new failed (last_of playback.world end)
  reaches_out end wrote run = record {
    taken = run.taken;
    waiting = run.waiting;
    takes = run.takes;
    needed = needed_same run.needed;
    within = run.within;
    ends = run_gives end wrote run.ends;
  }

-- a run of which nothing is written does not fail to write
pub is_written : {left left_new old new : Option (List ℕ)} {failed write_failed : Type 0} {end : ReplayEnd} (playback : Playback) → (write_failed → ⊥)
    → runs.Runs untraced_of (IsPlaceOf playback) (WantsMemory (untraced image_replay)) left left_new failed old new write_failed end → end ≢ WriteFault
is_written {end} playback wrote run is = wrote (run_unwritten ⊥ untraced_of untraced_fits end _ _ run is)

-- and judges no lease
pub is_unleased : {left left_new old new : Option (List ℕ)} {failed write_failed : Type 0} {end : ReplayEnd} (playback : Playback)
    → runs.Runs untraced_of (IsPlaceOf playback) (WantsMemory (untraced image_replay)) left left_new failed old new write_failed end → (timeout limit lease : ℕ) → end ≢ UnsafeLease timeout limit lease
is_unleased {end = end} playback run timeout limit lease is = run_leased ⊥ untraced_of untraced_fits end _ _ run timeout limit lease is

-- the end of a run is a fault where it gives no world
pub out_fault : (world : Whole) (end : ReplayEnd) → end ≢ WriteFault → ((timeout limit lease : ℕ) → end ≢ UnsafeLease timeout limit lease) → IfErr (last_of world end) IsFault
out_fault world (Done events) written unleased = tt
out_fault world (BadConf fault) written unleased = tt
out_fault world (BadSettings fault) written unleased = tt
out_fault world (BadSchedule line fault) written unleased = tt
out_fault world (NotAllowed line rule) written unleased = tt
out_fault world ReadFault written unleased = tt
out_fault world WriteFault written unleased = absurd (written refl)
out_fault world (UnsafeTiming timing) written unleased = tt
out_fault world (UnsafeLease timeout limit lease) written unleased = absurd (unleased timeout limit lease refl)
out_fault world NoMemory written unleased = tt

-- where no read failed and it did not run out of memory, the world or the end is that of all that was there
pub last_complete : (left_old left_new : Option (List ℕ)) (failed : Type 0) (result : Result Whole ReplayEnd) → Reaches left_old left_new failed result → (failed → ⊥) → (result ≡ Err NoMemory → ⊥)
    → IfSome left_old (λ bytes. GivesWorld result (replay_of Ended bytes))
last_complete None left_new failed result run no_failure memory = tt
last_complete (Some bytes) None failed result run no_failure memory = let never = run.takes in cc
last_complete (Some bytes) (Some rest) failed result run no_failure memory =
    let takes = run.takes in
    let parts : bytes ≡ (run.taken ++ run.waiting) ++ rest = cc in
    elim run.ends [ inl wanted ↦ absurd (memory wanted) | inr tells ↦ tells_all (GivesWorld result) parts no_failure tells ]

unread : {taken : List ℕ} {at_end failed : Type 0} → Tells replay_of taken at_end failed (GivesWorld (no_world ReadFault)) → failed
unread {taken} (Anyway always) = absurd (fits ⊥ replay_of replay_fits Ended (taken ++ []) (replay_of Ended (taken ++ [])) ReadFault refl (always Ended []).0)
unread {taken} (AtEnd at_end holds) = absurd (fits ⊥ replay_of replay_fits Ended taken (replay_of Ended taken) ReadFault refl holds.0)
unread (AtFailure fails holds) = fails

-- ReadFault comes only where a read failed
pub last_unread : (left_old left_new : Option (List ℕ)) (failed : Type 0) (result : Result Whole ReplayEnd) → Reaches left_old left_new failed result → result ≡ Err ReadFault → failed
last_unread left_old left_new failed result run is =
    elim run.ends [
      | inl wanted ↦ let never : no_world NoMemory ≡ no_world ReadFault = sym wanted ∙ is in cc
      | inr tells ↦ (unread (subst (λ (r : Result Whole ReplayEnd). Tells replay_of run.taken ((run.waiting ≡ []) × IsAtEnd left_new) ((run.waiting ≡ []) × failed) (GivesWorld r)) is tells)).1
    ]
