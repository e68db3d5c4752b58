-- What the events of an entry say on one matter.
use Rattle.std.proofs.Common.{◌≡◌, refl, ap, ◌∙◌, ℕ, Bool, true, false, not, ◌&&◌, ◌==◌, List, [], ◌++◌, Option, None, Some}
use Rattle.std.specs.Bool.{then_some}
use Rattle.std.specs.List.{cons_option}
use Rattle.std.specs.Prelude.{filter_map, option_and_then, option_map, option_to_list, if◌then◌else◌}
use Rattle.std.proofs.lemmas.List.Elements.{filter_map-append}
use Rattle.qn_base.specs.declared.ids.Rank.{Rank}
use Rattle.qn_base.specs.declared.ids.View.{View}
use Rattle.qn_model.specs.declared.entries.What.{What}
use Rattle.qn_model.specs.declared.entries.What.TheVariants as what
use Rattle.qn_model.specs.declared.life.Phase.{Phase}
use Rattle.qn_model.specs.declared.life.Why.{Why}
use Rattle.qn_model.specs.declared.outputs.HaltKind.{HaltKind}
use Rattle.qn_model.specs.declared.outputs.Out.{Out}
use Rattle.qn_model.specs.declared.seen.SlotSeen.{SlotSeen}
use Rattle.qn_model.specs.declared.votes.Answer.{Answer}
use Rattle.qn_model.specs.Licences.{is_clean_slot}
use Rattle.qn_model.specs.Log.{disk_of, has_start, has_stop}
use Rattle.qn_live.specs.declared.standing.Standing.{Standing}
use Rattle.qn_notice.specs.declared.kinds.Event.{Event}
use Rattle.qn_notice.specs.declared.kinds.Event.TheVariants as event
use Rattle.qn_notice.specs.Events.{came, change, events, fence_asked, halt_of, halt_told, hold_told, installs, is_outside, is_same_condition, is_same_phase, phase_told, quorum_told, release_told, reset_of, view_told, why_told}
use Rattle.qn_notice.specs.Laws.{hold_in, quorum_in, reset_answer, reset_in}

-- what an event, where there is one, says on a matter
abbrev pub says : {X : Type 0} → (Event → Option X) → Option Event → List X
says word told = filter_map word (option_to_list told)

-- ## Events that say nothing on a matter

silent_one : {X : Type 0} (word : Event → Option X) (told : Event) → word told ≡ None → says word (Some told) ≡ []
silent_one word told h = ap (λ said. cons_option said []) h

silent_when : {X : Type 0} (word : Event → Option X) (test : Bool) (told : Event) → word told ≡ None → says word (then_some test told) ≡ []
silent_when word true told h = silent_one word told h
silent_when word false told h = refl

silent_then : {A X : Type 0} (word : Event → Option X) (f : A → Option Event) (o : Option A) → ((x : A) → says word (f x) ≡ []) → says word (option_and_then f o) ≡ []
silent_then word f None h = refl
silent_then word f (Some x) h = h x

silent_map : {A X : Type 0} (word : Event → Option X) (f : A → Event) (o : Option A) → ((x : A) → word (f x) ≡ None) → says word (option_map f o) ≡ []
silent_map word f None h = refl
silent_map word f (Some x) h = silent_one word (f x) (h x)

module _ {X : Type 0} (word : Event → Option X) where
  silent_claim : ((number : ℕ) → word (event.Claimed number) ≡ None) → (after : Standing) (ok : Bool) → says word (came after (what.Claimed ok)) ≡ []
  silent_claim h after ok =
      silent_then word (λ number. then_some ok (event.Claimed number)) after.incarnation
      (λ number. silent_when word ok (event.Claimed number) (h number))

  silent_licence : ((rank : Rank) → word (event.Licence rank) ≡ None) → (after : Standing) (rank : Rank) (seen : SlotSeen) → says word (came after (what.SlotRead rank seen)) ≡ []
  silent_licence h after rank seen =
      silent_when word (is_clean_slot seen && is_outside after.view rank.0) (event.Licence rank) (h rank)

  silent_came :
      ((number : ℕ) → word (event.Claimed number) ≡ None)
      → ((rank : Rank) (ok : Bool) → word (event.FenceWritten rank ok) ≡ None)
      → ((rank : Rank) → word (event.Licence rank) ≡ None)
      → (after : Standing) (entry : What)
      → says word (came after entry) ≡ []
  silent_came claim written licence after (what.Claimed ok) = silent_claim claim after ok
  silent_came claim written licence after (what.MailWritten rank ok) =
      silent_one word (event.FenceWritten rank ok) (written rank ok)
  silent_came claim written licence after (what.SlotRead rank seen) = silent_licence licence after rank seen
  silent_came claim written licence after other = refl

  silent_phase : ((from to : Phase) → word (event.Phase from to) ≡ None) → (before after : Standing) → says word (phase_told before after) ≡ []
  silent_phase h before after =
      silent_when word (not (is_same_phase before.phase after.phase)) (event.Phase before.phase after.phase) (h before.phase after.phase)

  silent_view : ((view : View) (answer : Answer) → word (event.View view answer) ≡ None) → (before after : Standing) → says word (view_told before after) ≡ []
  silent_view h before after =
      silent_then word
      (λ installed. then_some (not (installs before.view == installed.0)) (event.View installed.1 after.answer))
      after.view
      (λ installed.
      silent_when word (not (installs before.view == installed.0)) (event.View installed.1 after.answer) (h installed.1 after.answer))

  silent_release : word event.Released ≡ None → (before after : Standing) → says word (release_told before after) ≡ []
  silent_release h before after =
      silent_when word (not before.answer.released && after.answer.released) event.Released h

  silent_quorum :
      ((answer : Answer) → word (event.QuorumWon answer) ≡ None)
      → ((answer : Answer) → word (event.QuorumLost answer) ≡ None)
      → (before after : Standing)
      → says word (quorum_told before after) ≡ []
  silent_quorum won lost before after =
      silent_map word
      (λ gained. if gained then event.QuorumWon after.answer else event.QuorumLost after.answer)
      (change before.answer.quorate after.answer.quorate)
      (by_gain after.answer)
    where
      by_gain : (answer : Answer) (gained : Bool) → word (if gained then event.QuorumWon answer else event.QuorumLost answer) ≡ None
      by_gain answer true = won answer
      by_gain answer false = lost answer

  silent_fence : ((rank : Rank) → word (event.FenceAsked rank) ≡ None) → (outs : List Out) → says word (fence_asked outs) ≡ []
  silent_fence h outs = silent_map word (λ rank. event.FenceAsked rank) (option_and_then reset_of (disk_of outs)) h

  silent_hold : word event.HoldWon ≡ None → word event.HoldLost ≡ None → (before after : Standing) → says word (hold_told before after) ≡ []
  silent_hold won lost before after =
      silent_map word (λ gained. if gained then event.HoldWon else event.HoldLost) (change before.holds after.holds) by_gain
    where
      by_gain : (gained : Bool) → word (if gained then event.HoldWon else event.HoldLost) ≡ None
      by_gain true = won
      by_gain false = lost

  silent_why : ((why : Why) → word (event.Why why) ≡ None) → (before after : Standing) → says word (why_told before after) ≡ []
  silent_why h before after =
      silent_when word (not (is_same_condition before.why after.why)) (event.Why after.why) (h after.why)

  silent_halt : ((kind : HaltKind) → word (event.Halt kind) ≡ None) → (outs : List Out) → says word (halt_told outs) ≡ []
  silent_halt h outs = silent_map word (λ kind. event.Halt kind) (halt_of outs) h

-- ## Events that say something

-- what an entry says of resets
came_resets : (after : Standing) (entry : What) → says reset_in (came after entry) ≡ option_to_list (reset_answer entry)
came_resets after (what.Claimed ok) = silent_claim reset_in (λ number. refl) after ok
came_resets after (what.MailWritten rank ok) = refl
came_resets after (what.SlotRead rank seen) = silent_licence reset_in (λ r. refl) after rank seen
came_resets after other = refl

-- a change is told by its own word
hold_change : (changed : Option Bool) → says hold_in (option_map (λ won. if won then event.HoldWon else event.HoldLost) changed) ≡ option_to_list changed
hold_change None = refl
hold_change (Some true) = refl
hold_change (Some false) = refl

hold_says : (before after : Standing) → says hold_in (hold_told before after) ≡ option_to_list (change before.holds after.holds)
hold_says before after = hold_change (change before.holds after.holds)

quorum_change : (answer : Answer) (changed : Option Bool) → says quorum_in (option_map (λ won. if won then event.QuorumWon answer else event.QuorumLost answer) changed) ≡ option_to_list changed
quorum_change answer None = refl
quorum_change answer (Some true) = refl
quorum_change answer (Some false) = refl

quorum_says : (before after : Standing) → says quorum_in (quorum_told before after) ≡ option_to_list (change before.answer.quorate after.answer.quorate)
quorum_says before after = quorum_change after.answer (change before.answer.quorate after.answer.quorate)

-- ## The events of an entry together

-- all that they say, part by part
events_say :
    {X : Type 0} (word : Event → Option X) (before after : Standing) (entry : What) (outs : List Out)
    → filter_map word (events before after entry outs)
    ≡ says word (came after entry)
    ++ says word (phase_told before after)
    ++ says word (view_told before after)
    ++ says word (release_told before after)
    ++ says word (quorum_told before after)
    ++ says word (fence_asked outs)
    ++ says word (then_some (has_start outs) event.StartAsked)
    ++ says word (then_some (has_stop outs) event.StopAsked)
    ++ says word (hold_told before after)
    ++ says word (why_told before after)
    ++ says word (halt_told outs)
unfolding events
events_say word before after entry outs =
    simp (filter_map-append word)

join : {X : Type 0} {first said rest later : List X} → first ≡ said → rest ≡ later → first ++ rest ≡ said ++ later
join {said = said} {rest = rest} h k = ap (λ xs. xs ++ rest) h ∙ ap (λ ys. said ++ ys) k

-- what follows says nothing
two_more : {X : Type 0} (o : Option X) → option_to_list o ++ [] ++ [] ≡ option_to_list o
two_more None = refl
two_more (Some x) = refl

six_more : {X : Type 0} (o : Option X) → option_to_list o ++ [] ++ [] ++ [] ++ [] ++ [] ++ [] ≡ option_to_list o
six_more None = refl
six_more (Some x) = refl

ten_more : {X : Type 0} (o : Option X) → option_to_list o ++ [] ++ [] ++ [] ++ [] ++ [] ++ [] ++ [] ++ [] ++ [] ++ [] ≡ option_to_list o
ten_more None = refl
ten_more (Some x) = refl

pub hold_once : (before after : Standing) (entry : What) (outs : List Out) → filter_map hold_in (events before after entry outs) ≡ option_to_list (change before.holds after.holds)
hold_once before after entry outs =
    events_say hold_in before after entry outs
    ∙ (join (join (join (join (join (join (join (join (join (join (silent_came hold_in (λ n. refl) (λ r ok. refl) (λ r. refl) after entry)
    (silent_phase hold_in (λ from to. refl) before after))
    (silent_view hold_in (λ v a. refl) before after))
    (silent_release hold_in refl before after))
    (silent_quorum hold_in (λ a. refl) (λ a. refl) before after))
    (silent_fence hold_in (λ rank. refl) outs))
    (silent_when hold_in (has_start outs) event.StartAsked refl))
    (silent_when hold_in (has_stop outs) event.StopAsked refl))
    (hold_says before after))
    (silent_why hold_in (λ why. refl) before after))
    (silent_halt hold_in (λ kind. refl) outs))
    ∙ two_more (change before.holds after.holds)

pub quorum_once : (before after : Standing) (entry : What) (outs : List Out) → filter_map quorum_in (events before after entry outs) ≡ option_to_list (change before.answer.quorate after.answer.quorate)
quorum_once before after entry outs =
    events_say quorum_in before after entry outs
    ∙ (join (join (join (join (join (join (join (join (join (join (silent_came quorum_in (λ n. refl) (λ r ok. refl) (λ r. refl) after entry)
    (silent_phase quorum_in (λ from to. refl) before after))
    (silent_view quorum_in (λ v a. refl) before after))
    (silent_release quorum_in refl before after))
    (quorum_says before after))
    (silent_fence quorum_in (λ rank. refl) outs))
    (silent_when quorum_in (has_start outs) event.StartAsked refl))
    (silent_when quorum_in (has_stop outs) event.StopAsked refl))
    (silent_hold quorum_in refl refl before after))
    (silent_why quorum_in (λ why. refl) before after))
    (silent_halt quorum_in (λ kind. refl) outs))
    ∙ six_more (change before.answer.quorate after.answer.quorate)

pub reset_once : (before after : Standing) (entry : What) (outs : List Out) → filter_map reset_in (events before after entry outs) ≡ option_to_list (reset_answer entry)
reset_once before after entry outs =
    events_say reset_in before after entry outs
    ∙ (join (join (join (join (join (join (join (join (join (join (came_resets after entry)
    (silent_phase reset_in (λ from to. refl) before after))
    (silent_view reset_in (λ v a. refl) before after))
    (silent_release reset_in refl before after))
    (silent_quorum reset_in (λ a. refl) (λ a. refl) before after))
    (silent_fence reset_in (λ rank. refl) outs))
    (silent_when reset_in (has_start outs) event.StartAsked refl))
    (silent_when reset_in (has_stop outs) event.StopAsked refl))
    (silent_hold reset_in refl refl before after))
    (silent_why reset_in (λ why. refl) before after))
    (silent_halt reset_in (λ kind. refl) outs))
    ∙ ten_more (reset_answer entry)
