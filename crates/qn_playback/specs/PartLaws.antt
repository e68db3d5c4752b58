-- Laws of the parts at the beginning of an input: taken one after the other, and before whatever a run plays after them.
use Rattle.std.proofs.Common.{◌≡◌, ℕ, List, [], ◌∷◌, ◌++◌, Option, Err, refl, sym, ap, ◌∙◌, append_assoc}
use Rattle.std.specs.Io.KnownBytes.{prepend_known}
use Rattle.qn_io.specs.Outside.{prepend_known-append, prepend_known-nil}
use Rattle.qn_model.specs.Inputs.{Anyway, AtEnd, AtFailure}
use Rattle.qn_model.specs.Lines.{Ending, Ended, ReadFailed, lines_of}
use Rattle.qn_playback.specs.Played.{Played, go_on}
use Rattle.qn_playback.specs.Reading as reading
use Rattle.qn_playback.specs.Reading.{Anywhere, GoesOn, Rest, Stops}
use Rattle.qn_sched.specs.declared.replay_end.ReplayEnd.{ReplayEnd}
use Rattle.qn_sched.specs.declared.replay_end.ReplayEnd.TheVariants as end
use Rattle.qn_playback.specs.Parts.{EndsBy, Given, Gives, IsNeeded, IsOpen, LastDecides, Leads, Part, Refuses, StillOpen, Told, Wanted, then_given}

-- ---- one step after the other

-- nothing was taken yet
pub leads_nowhere : {A : Type 0} (part : Part A) (to_come : Option (List ℕ)) → IsOpen part [] → Leads part part to_come to_come
leads_nowhere part to_come still = record {
  taken = [];
  takes = sym (prepend_known-nil to_come);
  needed = StillOpen still;
  rest = λ ending more. refl;
}

module _ {A : Type 0} {part between : Part A} {a b : Option (List ℕ)} (first : Leads part between a b) where
  open_after : (front : List ℕ) → IsOpen between front → IsOpen part (first.taken ++ front)
  open_after front still = first.rest ReadFailed front ∙ still

  needed_after : {taken : List ℕ} → IsNeeded between taken → IsNeeded part (first.taken ++ taken)
  needed_after {taken} (StillOpen still) = StillOpen (open_after taken still)
  needed_after {taken} (LastDecides front byte parts still) =
      LastDecides (first.taken ++ front) byte
      (ap (λ t. first.taken ++ t) parts ∙ sym (append_assoc first.taken front (byte ∷ [])))
      (open_after front still)

  takes_after : (taken : List ℕ) (c : Option (List ℕ)) → b ≡ prepend_known taken c → a ≡ prepend_known (first.taken ++ taken) c
  takes_after taken c takes = first.takes ∙ ap (prepend_known first.taken) takes ∙ sym (prepend_known-append first.taken taken c)

  -- one step, and then another
  pub leads_then : {rest : Part A} {c : Option (List ℕ)} → Leads between rest b c → Leads part rest a c
  leads_then {c} second = record {
    taken = first.taken ++ second.taken;
    takes = takes_after second.taken c second.takes;
    needed = needed_after second.needed;
    rest = λ ending more.
        ap (part ending) (append_assoc first.taken second.taken more) ∙ first.rest ending (second.taken ++ more) ∙ second.rest ending more;
  }

  ends_after : {taken : List ℕ} {at_end failed : Type 0} {fault : ReplayEnd} → EndsBy between taken at_end failed fault → EndsBy part (first.taken ++ taken) at_end failed fault
  ends_after {taken} (Told (Anyway always)) =
      Told (Anyway (λ ending more. ap (part ending) (append_assoc first.taken taken more) ∙ first.rest ending (taken ++ more) ∙ always ending more))
  ends_after {taken} (Told (AtEnd at_end is)) = Told (AtEnd at_end (first.rest Ended taken ∙ is))
  ends_after {taken} (Told (AtFailure failed is)) = Told (AtFailure failed (first.rest ReadFailed taken ∙ is))
  ends_after (Wanted memory) = Wanted memory

  -- a step, and then the end
  pub refuses_then : {c : Option (List ℕ)} {at_end failed : Type 0} {fault : ReplayEnd} → Refuses between b c at_end failed fault → Refuses part a c at_end failed fault
  refuses_then {c} second = record {
    taken = first.taken ++ second.taken;
    takes = takes_after second.taken c second.takes;
    needed = needed_after second.needed;
    ends = ends_after second.ends;
  }

  -- out of memory
  pub refuses_wanted : {at_end failed : Type 0} (fault : ReplayEnd) → fault ≡ end.NoMemory → Refuses part a b at_end failed fault
  refuses_wanted fault memory = record { taken = first.taken; takes = first.takes; needed = first.needed; ends = Wanted memory }

  -- what was taken is at fault, whatever follows
  pub refuses_judged : {at_end failed : Type 0} (fault : ReplayEnd) → ((ending : Ending) (more : List ℕ) → between ending more ≡ Err fault) → Refuses part a b at_end failed fault
  refuses_judged fault always = record {
    taken = first.taken;
    takes = first.takes;
    needed = first.needed;
    ends = Told (Anyway (λ ending more. first.rest ending more ∙ always ending more));
  }

  -- what was taken is good, whatever follows
  pub leads_judged : (after : Part A) → ((ending : Ending) (more : List ℕ) → between ending more ≡ after ending more) → Leads part after a b
  leads_judged after same = record {
    taken = first.taken;
    takes = first.takes;
    needed = first.needed;
    rest = λ ending more. first.rest ending more ∙ same ending more;
  }

-- the bytes end what is open without the last of them
pub refuses_at : {A : Type 0} {part : Part A} {a b : Option (List ℕ)} {at_end failed : Type 0} (front : List ℕ) (byte : ℕ) (fault : ReplayEnd)
    → a ≡ prepend_known (front ++ byte ∷ []) b → IsOpen part front
    → ((ending : Ending) (more : List ℕ) → part ending ((front ++ byte ∷ []) ++ more) ≡ Err fault) → Refuses part a b at_end failed fault
refuses_at front byte fault takes still always = record {
  taken = front ++ byte ∷ [];
  takes = takes;
  needed = LastDecides front byte refl still;
  ends = Told (Anyway always);
}

-- the input ended after these bytes
pub refuses_ended : {A : Type 0} {part : Part A} {a b : Option (List ℕ)} {at_end failed : Type 0} (taken : List ℕ) (fault : ReplayEnd)
    → a ≡ prepend_known taken b → at_end → IsOpen part taken → part Ended taken ≡ Err fault → Refuses part a b at_end failed fault
refuses_ended taken fault takes at_end still is = record { taken = taken; takes = takes; needed = StillOpen still; ends = Told (AtEnd at_end is) }

-- a read failed after these bytes
pub refuses_failed : {A : Type 0} {part : Part A} {a b : Option (List ℕ)} {at_end failed : Type 0} (taken : List ℕ)
    → a ≡ prepend_known taken b → failed → IsOpen part taken → Refuses part a b at_end failed end.ReadFault
refuses_failed taken takes failed still = record { taken = taken; takes = takes; needed = StillOpen still; ends = Told (AtFailure failed still) }

ends_wider : {A : Type 0} {part : Part A} {taken : List ℕ} {at_end failed wider : Type 0} {fault : ReplayEnd} → (failed → wider)
    → EndsBy part taken at_end failed fault → EndsBy part taken at_end wider fault
ends_wider widen (Told (Anyway always)) = Told (Anyway always)
ends_wider widen (Told (AtEnd at_end is)) = Told (AtEnd at_end is)
ends_wider widen (Told (AtFailure failed is)) = Told (AtFailure (widen failed) is)
ends_wider widen (Wanted memory) = Wanted memory

-- the count rose in a part of the call
pub refuses_wider : {A : Type 0} {part : Part A} {a b : Option (List ℕ)} {at_end failed wider : Type 0} {fault : ReplayEnd} → (failed → wider)
    → Refuses part a b at_end failed fault → Refuses part a b at_end wider fault
refuses_wider widen stop = record { taken = stop.taken; takes = stop.takes; needed = stop.needed; ends = ends_wider widen stop.ends }

-- ---- a further part after the first

-- the first part, and then what `next` makes of its value and the lines after it
abbrev pub joined : {A B : Type 0} → Part A → (A → Ending → List (List ℕ) → Given B) → Part B
joined first next ending bytes = then_given (first ending bytes) (λ value rest. next value ending rest)

module _ {A B : Type 0} (first : Part A) (next : A → Ending → List (List ℕ) → Given B) where
  joined_open : (front : List ℕ) → IsOpen first front → IsOpen (joined first next) front
  joined_open front still = ap (λ g. then_given g (λ value rest. next value ReadFailed rest)) still

  joined_needed : {taken : List ℕ} → IsNeeded first taken → IsNeeded (joined first next) taken
  joined_needed {taken} (StillOpen still) = StillOpen (joined_open taken still)
  joined_needed (LastDecides front byte parts still) = LastDecides front byte parts (joined_open front still)

  -- the first part was taken, and the further one is due
  pub leads_to_next : {a b : Option (List ℕ)} (value : A) → Gives first value a b → Leads (joined first next) (λ ending more. next value ending (lines_of more)) a b
  leads_to_next value given = record {
    taken = given.taken;
    takes = given.takes;
    needed = joined_needed given.needed;
    rest = λ ending more. ap (λ g. then_given g (λ v rest. next v ending rest)) (given.rest ending more);
  }

  joined_ends : {taken : List ℕ} {at_end failed : Type 0} {fault : ReplayEnd} → EndsBy first taken at_end failed fault → EndsBy (joined first next) taken at_end failed fault
  joined_ends (Told (Anyway always)) = Told (Anyway (λ ending more. ap (λ g. then_given g (λ v rest. next v ending rest)) (always ending more)))
  joined_ends (Told (AtEnd at_end is)) = Told (AtEnd at_end (ap (λ g. then_given g (λ v rest. next v Ended rest)) is))
  joined_ends (Told (AtFailure failed is)) = Told (AtFailure failed (ap (λ g. then_given g (λ v rest. next v ReadFailed rest)) is))
  joined_ends (Wanted memory) = Wanted memory

  -- the first part was refused
  pub refuses_first : {a b : Option (List ℕ)} {at_end failed : Type 0} {fault : ReplayEnd} → Refuses first a b at_end failed fault → Refuses (joined first next) a b at_end failed fault
  refuses_first stop = record { taken = stop.taken; takes = stop.takes; needed = joined_needed stop.needed; ends = joined_ends stop.ends }

-- ---- what a run plays after a part

-- the run of an input that begins with a part, where `none` says where it stood within the part
abbrev pub after_part : {A Last : Type 0} → Last → Part A → (A → Ending → List (List ℕ) → Played Last) → Rest Last
after_part none part next ending bytes = go_on none (part ending bytes) (λ given. next given.0 ending given.1)

module _ {A Last : Type 0} (none : Last) (part : Part A) (next : A → Ending → List (List ℕ) → Played Last) where
  run_open : (front : List ℕ) → IsOpen part front → reading.IsOpen (after_part none part next) front
  run_open front still = ap (λ g. let played : Played Last = go_on none g (λ given. next given.0 ReadFailed given.1) in played.end) still

  -- the bytes that the part needs are those that the run needs
  pub run_needed : {taken : List ℕ} → IsNeeded part taken → reading.IsNeeded (after_part none part next) taken
  run_needed {taken} (StillOpen still) = reading.StillOpen (run_open taken still)
  run_needed (LastDecides front byte parts still) = reading.LastDecides front byte parts (run_open front still)

  -- the part was taken, and the run goes on after it
  pub goes_on_after : {a b : Option (List ℕ)} (value : A) → Gives part value a b → GoesOn (after_part none part next) (λ ending more. next value ending (lines_of more)) a b
  goes_on_after value given = record {
    taken = given.taken;
    takes = given.takes;
    needed = run_needed given.needed;
    rest = λ ending more. ap (λ g. go_on none g (λ v. next v.0 ending v.1)) (given.rest ending more);
  }

  run_ends : {taken : List ℕ} {at_end failed : Type 0} {fault : ReplayEnd} → EndsBy part taken at_end failed fault → reading.EndsWith (after_part none part next) none Anywhere taken at_end failed fault
  run_ends (Told (Anyway always)) = reading.Told (Anyway (λ ending more. ap (λ g. go_on none g (λ v. next v.0 ending v.1)) (always ending more)))
  run_ends (Told (AtEnd at_end is)) = reading.Told (AtEnd at_end (ap (λ g. go_on none g (λ v. next v.0 Ended v.1)) is))
  run_ends (Told (AtFailure failed is)) = reading.Told (AtFailure failed (ap (λ g. go_on none g (λ v. next v.0 ReadFailed v.1)) is))
  run_ends (Wanted memory) = reading.Wanted memory tt

  -- the part was refused, and so the run ended
  pub stops_in_part : {a b : Option (List ℕ)} {at_end failed : Type 0} {fault : ReplayEnd} → Refuses part a b at_end failed fault
      → Stops (after_part none part next) none Anywhere a b at_end failed fault
  stops_in_part stop = record { taken = stop.taken; takes = stop.takes; needed = run_needed stop.needed; stops = run_ends stop.ends }
