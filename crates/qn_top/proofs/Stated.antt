-- The last world of a schedule or its fault, and what `status` writes of it.
use Rattle.std.proofs.Common.{◌≡◌, ◌⊎◌, inl, inr, ℕ, List, [], ◌++◌, Option, Result, Ok, Err, refl, sym, ap, ◌∙◌, subst, append-nil}
use Rattle.qn_model.specs.Inputs.{BeginsWith, Tells, Anyway, AtEnd, AtFailure}
use Rattle.qn_model.specs.Lines.{Ended, ReadFailed, Outcome}
use Rattle.qn_model.specs.World.{World}
use Rattle.qn_playback.specs.Reading as reading
use Rattle.qn_replay.specs.Endings.{EndFits, ReplayFits}
use Rattle.qn_playback.specs.Worlds.{Progress}
use Rattle.qn_replay.specs.Replay.{Replayed, replay_of}
use Rattle.qn_replay.specs.Runs.{GivesWorld, IsFault, IsLast, Reaches}
use Rattle.qn_sched.specs.declared.replay_end.ReplayEnd.{ReplayEnd}
use Rattle.qn_sched.specs.declared.replay_end.ReplayEnd.TheVariants as end
use Rattle.qn_world.specs.Standing.{WorldFor}
use Rattle.qn_world.specs.Whole.{Whole as WorldKept}
use Rattle.qn_commands.specs.Endings.{Cut, Says, Whole}
use Rattle.qn_commands.specs.Reads.{IsNeeded, LastDecides, StillOpen, WroteAll, WroteFront}
use Rattle.qn_commands.specs.Seen.{Input, Output, Outside, ReadFails, seen}
use Rattle.qn_top.specs.declared.command.Form.{Form}
use Rattle.qn_top.specs.Commands.Status.{RunsStatus, StatesWorld, Stated, Unstated, StatusEnds, Told, Wanted, status_answer, status_behind, status_in}
use Rattle.qn_top.specs.ReplayEnds.{end_outcome}
use Rattle.qn_top.proofs.PlayedEnds.{same_status}

-- the bytes that the end needs are those that the status needs
open_status : (form : Form) (taken : List ℕ) → reading.IsOpen replay_of taken → (status_answer form ReadFailed taken).status ≡ 6
open_status form taken still =
    same_status form (replay_of ReadFailed taken).end (replay_of ReadFailed taken).last ∙ ap (λ (e : ReplayEnd). (end_outcome e).status) still

needed_status : {taken : List ℕ} (form : Form) → reading.IsNeeded replay_of taken → IsNeeded (status_answer form) taken
needed_status {taken} form (reading.StillOpen still) = StillOpen (open_status form taken still)
needed_status form (reading.LastDecides front byte parts still) = LastDecides front byte parts (open_status form front still)

-- an answer that the bytes tell of was written, or a prefix of it
answered : {form : Form} {taken : List ℕ} {at_end failed : Type 0} {before later : Output} {status : ℕ} (outcome : Outcome)
    → Tells (status_answer form) taken at_end failed (λ o. o ≡ outcome) → Tells (status_answer form) taken at_end failed (λ o. BeginsWith o.text outcome.text)
    → Says outcome.text outcome.status before later status → StatusEnds form taken at_end failed before later status
answered outcome tells begins (Whole is whole) = Told (WroteAll outcome tells is whole)
answered outcome tells begins (Cut is fails front) = Told (WroteFront outcome.text begins is fails front)

begins_same : (o outcome : Outcome) → o ≡ outcome → BeginsWith o.text outcome.text
begins_same o outcome same = ([], ap (λ a. a.text) same ∙ sym (append-nil outcome.text))

-- a schedule whose input could not be read to its end has no last world
not_unread : (answer : Replayed) (world : WorldKept) → IsLast answer world → EndFits answer.end ReadFailed → ⊥
not_unread answer world last fits = subst (λ (e : ReplayEnd). EndFits e ReadFailed) last.ends fits

-- the answer for a last world
world_answer : (form : Form) (taken : List ℕ) (world : WorldKept) (last : IsLast (replay_of Ended taken) world)
    → status_answer form Ended taken ≡ record { text = status_in form world.settings last.so_far.world; status = 0 }
world_answer form taken world last =
    ap (λ (e : ReplayEnd). status_behind form e (replay_of Ended taken).last) last.ends
    ∙ ap (λ (l : Option (Progress World)). status_behind form (end.Done last.events) l) last.last
    ∙ ap (λ s. record { text = status_in form s last.so_far.world; status = 0 }) (sym last.settings)

-- a fault is answered by its line alone
fault_alone : (form : Form) (ended : ReplayEnd) (last : Option (Progress World)) → IsFault ended → status_behind form ended last ≡ end_outcome ended
fault_alone form (end.Done events) last never = absurd never
fault_alone form (end.BadConf fault) last is = refl
fault_alone form (end.BadSettings fault) last is = refl
fault_alone form (end.BadSchedule line fault) last is = refl
fault_alone form (end.NotAllowed line rule) last is = refl
fault_alone form end.ReadFault last is = refl
fault_alone form end.WriteFault last never = absurd never
fault_alone form (end.UnsafeTiming timing) last is = refl
fault_alone form (end.UnsafeLease timeout limit lease) last never = absurd never
fault_alone form end.NoMemory last is = refl

same_fault : (form : Form) (ended : ReplayEnd) (answer : Replayed) → GivesWorld (Err ended) answer
    → status_behind form answer.end answer.last ≡ end_outcome ended
same_fault form ended answer gives =
    ap (λ (e : ReplayEnd). status_behind form e answer.last) gives.0 ∙ fault_alone form ended answer.last gives.1

tells_fault : {taken : List ℕ} {at_end failed : Type 0} (form : Form) (ended : ReplayEnd) (Q : Outcome → Type 0) → ((o : Outcome) → o ≡ end_outcome ended → Q o)
    → Tells replay_of taken at_end failed (GivesWorld (Err ended)) → Tells (status_answer form) taken at_end failed Q
tells_fault {taken} form ended Q weaker (Anyway always) = Anyway (λ ending more. weaker (status_answer form ending (taken ++ more)) (same_fault form ended (replay_of ending (taken ++ more)) (always ending more)))
tells_fault {taken} form ended Q weaker (AtEnd at holds) = AtEnd at (weaker (status_answer form Ended taken) (same_fault form ended (replay_of Ended taken) holds))
tells_fault {taken} form ended Q weaker (AtFailure fails holds) = AtFailure fails (weaker (status_answer form ReadFailed taken) (same_fault form ended (replay_of ReadFailed taken) holds))

-- out of memory
abbrev WantedMemory : Result WorldKept ReplayEnd → Type 0
WantedMemory result = result ≡ Err end.NoMemory

module _ {taken : List ℕ} {at_end failed : Type 0} {before later : Output} {status : ℕ} where
  stated : (form : Form) (world : WorldKept) → at_end → (last : IsLast (replay_of Ended taken) world)
      → StatesWorld form world.settings last.so_far.world before later status → StatusEnds form taken at_end failed before later status
  stated form world ended last (Stated answers) =
      answered (record { text = status_in form world.settings last.so_far.world; status = 0 })
      (AtEnd ended (world_answer form taken world last))
      (AtEnd ended (begins_same (status_answer form Ended taken) (record { text = status_in form world.settings last.so_far.world; status = 0 }) (world_answer form taken world last)))
      answers
  stated form world ended last (Unstated answers) = Wanted answers

  told_world : (form : Form) (world : WorldKept) → ReplayFits → Tells replay_of taken at_end failed (λ answer. IsLast answer world)
      → ((d : World) → WorldFor world d → StatesWorld form world.settings d before later status)
      → StatusEnds form taken at_end failed before later status
  told_world form world fits (Anyway always) states =
      absurd (not_unread (replay_of ReadFailed (taken ++ [])) world (always ReadFailed []) (fits ReadFailed (taken ++ [])))
  told_world form world fits (AtEnd ended last) states = stated form world ended last (states last.so_far.world last.stands)
  told_world form world fits (AtFailure fails last) states =
      absurd (not_unread (replay_of ReadFailed taken) world last (fits ReadFailed taken))

  reached_world : (form : Form) (world : WorldKept) → ReplayFits
      → WantedMemory (Ok world) ⊎ Tells replay_of taken at_end failed (GivesWorld (Ok world))
      → ((d : World) → WorldFor world d → StatesWorld form world.settings d before later status)
      → StatusEnds form taken at_end failed before later status
  reached_world form world fits (inl never) states = cc
  reached_world form world fits (inr tells) states = told_world form world fits tells states

  reached_fault : (form : Form) (ended : ReplayEnd)
      → WantedMemory (Err ended) ⊎ Tells replay_of taken at_end failed (GivesWorld (Err ended))
      → Says (end_outcome ended).text (end_outcome ended).status before later status
      → StatusEnds form taken at_end failed before later status
  reached_fault form ended (inl memory) answers =
      let same : ended ≡ end.NoMemory = cc in
      Wanted (subst (λ (e : ReplayEnd). Says (end_outcome e).text (end_outcome e).status before later status) same answers)
  reached_fault form ended (inr tells) answers =
      answered (end_outcome ended)
      (tells_fault form ended (λ o. o ≡ end_outcome ended) (λ o same. same) tells)
      (tells_fault form ended (λ o. BeginsWith o.text (end_outcome ended).text) (λ o same. begins_same o (end_outcome ended) same) tells)
      answers

module _ (first last : Input) (before later : Output) (env : Outside) (status : ℕ) (form : Form) where
  -- the status of a last world
  pub world_stated : (world : WorldKept) → ReplayFits → Reaches first.left last.left (ReadFails first last) (Ok world)
      → ((d : World) → WorldFor world d → StatesWorld form world.settings d before later status)
      → RunsStatus form (seen first before env) (seen last later env) status
  world_stated world fits reaches states = record {
    taken = reaches.taken;
    waiting = reaches.waiting;
    takes = reaches.takes;
    needed = needed_status form reaches.needed;
    within = reaches.within;
    ends = reached_world form world fits reaches.ends states;
  }

  -- the line of a fault
  pub fault_stated : (ended : ReplayEnd) → Reaches first.left last.left (ReadFails first last) (Err ended)
      → Says (end_outcome ended).text (end_outcome ended).status before later status
      → RunsStatus form (seen first before env) (seen last later env) status
  fault_stated ended reaches says = record {
    taken = reaches.taken;
    waiting = reaches.waiting;
    takes = reaches.takes;
    needed = needed_status form reaches.needed;
    within = reaches.within;
    ends = reached_fault form ended reaches.ends says;
  }
