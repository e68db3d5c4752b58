-- The calls of a run on three images that perform outputs, and what the clock told in it.
use Rattle.std.proofs.Common.{◌≡◌, ℕ, Bool, true, false, filter, List, [], ◌∷◌, ◌++◌, if◌then◌else◌, refl, sym, ap, subst, ◌∙◌, append_assoc}
use Rattle.std.proofs.lemmas.List.{append-nil}
use Rattle.std.proofs.lemmas.List.Elements.{filter-append}
use Rattle.qn_base.specs.declared.calls.Call.{Call}
use Rattle.qn_base.specs.declared.calls.Call.TheVariants as call
use Rattle.qn_base.specs.Calls.{blank, some_failed}
use Rattle.qn_base.specs.Plans.{Plan, Ends, Asks, ◌>>=◌, Follows}
use Rattle.qn_base.specs.PlanSteps.{follows_then}
use Rattle.qn_model.specs.declared.configuration.Settings.{Settings}
use Rattle.qn_model.specs.declared.outputs.DiskOp.{DiskOp}
use Rattle.qn_parts.specs.Parts.{is_good_on}
use Rattle.qn_live.specs.EndLaws.{asked_place}
use Rattle.qn_live.specs.Halts.{is_on_disk}
use Rattle.qn_live.specs.Handed.{look_in, looks_in}
use Rattle.qn_live.specs.Laws.{if_output, is_output, outputs_among}
use Rattle.qn_live.specs.TripleDisk.{Told, call_plan, image_plan, images_plan, is_asked, once, part_plan, parts_plan, read_plan, reading, write_plan}
use Rattle.qn_live.specs.TripleOutputs.{one_by_one}
use Rattle.qn_live.specs.TripleRuns.{on_three}
use Rattle.qn_live.proofs.Single.{OneTold, call_told, cut, leads_end, ticks}
use Rattle.qn_live.proofs.Wiped.{AsksWiped}

-- ## Calls on the disk

-- each call of the plan reads or writes a sector
abbrev OnDisk : {A : Type 0} → Plan A → Type 0
OnDisk (Ends value) = Unit {0}
OnDisk (Asks question left) = (is_on_disk question ≡ true) × ((call : Call) → OnDisk (left call))

on_disk_then : {A B : Type 0} (plan : Plan A) (next : A → Plan B) → OnDisk plan → ((value : A) → OnDisk (next value)) → OnDisk (plan >>= next)
on_disk_then (Ends value) next on goes_on = goes_on value
on_disk_then (Asks question left) next on goes_on = (on.0, λ call. on_disk_then (left call) next (on.1 call) goes_on)

part_on_disk : (s : Settings) (op : DiskOp) (asked : Bool) (image sector : ℕ) → OnDisk (part_plan s op asked image sector)
unfolding part_plan
part_on_disk s op true image sector = (refl, λ call. tt)
part_on_disk s op false image sector = tt

parts_on_disk : (s : Settings) (op : DiskOp) (good : List Bool) (sector : ℕ) → OnDisk (parts_plan s op good sector)
unfolding parts_plan
parts_on_disk s op good sector =
    on_disk_then (part_plan s op (is_asked op (is_good_on good 1)) 1 sector) _ (part_on_disk s op (is_asked op (is_good_on good 1)) 1 sector)
    (λ one. on_disk_then (part_plan s op (is_asked op (is_good_on good 2)) 2 sector) _ (part_on_disk s op (is_asked op (is_good_on good 2)) 2 sector)
    (λ two. on_disk_then (part_plan s op (is_asked op (is_good_on good 3)) 3 sector) _ (part_on_disk s op (is_asked op (is_good_on good 3)) 3 sector)
    (λ three. tt)))

read_on_disk : (s : Settings) (good : List Bool) (sector : ℕ) → OnDisk (read_plan s good sector)
unfolding read_plan
read_on_disk s good sector =
    on_disk_then (parts_plan s (reading sector) good sector) _ (parts_on_disk s (reading sector) good sector) (λ parts. tt)

image_on_disk : (image sector : ℕ) (bytes : List ℕ) → OnDisk (image_plan image sector bytes)
unfolding image_plan
image_on_disk image sector bytes = (refl, λ call. tt)

write_on_disk : (me : ℕ) (good : List Bool) (sector : ℕ) (bytes : List ℕ) → OnDisk (write_plan me good sector bytes)
unfolding write_plan images_plan
write_on_disk me good sector bytes =
    on_disk_then (images_plan sector bytes) _
    (on_disk_then (image_plan 1 sector bytes) _ (image_on_disk 1 sector bytes)
    (λ one. on_disk_then (image_plan 2 sector bytes) _ (image_on_disk 2 sector bytes)
    (λ two. on_disk_then (image_plan 3 sector bytes) _ (image_on_disk 3 sector bytes)
    (λ three. tt))))
    (λ written. tt)

-- such a call performs an output, and tells nothing of the clock
one_on_disk : (c : Call) → is_on_disk c ≡ true → (is_output c ≡ true) × (look_in c ≡ [])
one_on_disk (call.Read sector bytes ok) on = (refl, refl)
one_on_disk (call.Write sector bytes ok) on = (refl, refl)
one_on_disk (call.Now tick) on = absurd cc
one_on_disk (call.OpenImage path ok) on = absurd cc
one_on_disk (call.OpenNode images image watchdog resource port rank ok) on = absurd cc
one_on_disk (call.Receive got) on = absurd cc
one_on_disk (call.Feed ok) on = absurd cc
one_on_disk (call.Start ok) on = absurd cc
one_on_disk (call.Stop ok) on = absurd cc
one_on_disk (call.Send to bytes ok) on = absurd cc
one_on_disk (call.Disarm ok) on = absurd cc
one_on_disk (call.Halt code) on = absurd cc

all_on_disk : {A : Type 0} (plan : Plan A) (calls : List Call) (value : A) → OnDisk plan → Follows plan calls value
    → (filter is_output calls ≡ calls) × (looks_in calls ≡ [])
all_on_disk (Ends end) calls value on follows = rw follows.0 (refl, refl)
all_on_disk (Asks question left) [] value on follows = absurd follows
all_on_disk (Asks question left) (c ∷ calls) value on follows =
    let rest = all_on_disk (left c) calls value (on.1 c) follows.1 in
    let one = one_on_disk c (asked_place c question follows.0 ∙ on.0) in
    (rw one.0 (ap (λ cs. c ∷ cs) rest.0), rw one.1 rest.1)

-- ## The calls for one call

-- the calls that were made on three images for one call that performs an output all do; for any other one, none does, and
-- the good images stay; and the clock told the same
record Alike (good : List Bool) (own : List Call) (told : Told) : Type 0 where
  outputs : is_output told.0 ≡ true → filter is_output own ≡ own
  others : is_output told.0 ≡ false → (filter is_output own ≡ []) × (told.1 ≡ good)
  looks : looks_in own ≡ look_in told.0

disk_alike : (good : List Bool) (own : List Call) (told : Told) → is_on_disk told.0 ≡ true → (filter is_output own ≡ own) × (looks_in own ≡ [])
    → Alike good own told
disk_alike good own told on all =
    let one = one_on_disk told.0 on in
    record {
      outputs = λ is. all.0;
      others = λ is. absurd (let never : true ≡ false = sym one.0 ∙ is in cc);
      looks = all.1 ∙ sym one.1;
    }

once_alike : (good : List Bool) (question : Call) (own : List Call) (told : Told) → Follows (once good question) own told → Alike good own told
once_alike good question [] told follows = absurd follows
once_alike good question (c ∷ more) told follows =
    subst (λ (t : Told). Alike good (c ∷ more) t) (sym follows.1.1) (subst (λ (cs : List Call). Alike good (c ∷ cs) (c, good)) (sym follows.1.0) alone)
  where
    alone : Alike good (c ∷ []) (c, good)
    alone = record {
      outputs = λ is. rw is refl;
      others = λ is. (rw is refl, refl);
      looks = append-nil (look_in c);
    }

call_alike : (s : Settings) (me : ℕ) (good : List Bool) (question : Call) (own : List Call) (told : Told) → blank told.0 ≡ question
    → Follows (call_plan s me good question) own told → Alike good own told
call_alike s me good (call.Read sector bytes ok) own told asked follows =
    disk_alike good own told (asked_place told.0 (call.Read sector bytes ok) asked) (all_on_disk (read_plan s good sector) own told (read_on_disk s good sector) follows)
call_alike s me good (call.Write sector bytes ok) own told asked follows =
    disk_alike good own told (asked_place told.0 (call.Write sector bytes ok) asked) (all_on_disk (write_plan me good sector bytes) own told (write_on_disk me good sector bytes) follows)
call_alike s me good (call.Now tick) own told asked follows = once_alike good (call.Now tick) own told follows
call_alike s me good (call.Receive got) own told asked follows = once_alike good (call.Receive got) own told follows
call_alike s me good (call.Feed ok) own told asked follows = once_alike good (call.Feed ok) own told follows
call_alike s me good (call.Start ok) own told asked follows = once_alike good (call.Start ok) own told follows
call_alike s me good (call.Stop ok) own told asked follows = once_alike good (call.Stop ok) own told follows
call_alike s me good (call.Send to bytes ok) own told asked follows = once_alike good (call.Send to bytes ok) own told follows
call_alike s me good (call.Disarm ok) own told asked follows = once_alike good (call.Disarm ok) own told follows
call_alike s me good (call.Halt code) own told asked follows = once_alike good (call.Halt code) own told follows
call_alike s me good (call.OpenImage path ok) own told asked follows = once_alike good (call.OpenImage path ok) own told follows
call_alike s me good (call.OpenNode images image watchdog resource port rank ok) own told asked follows =
    once_alike good (call.OpenNode images image watchdog resource port rank ok) own told follows

-- ## The whole run

looks_joined : (calls more : List Call) → looks_in (calls ++ more) ≡ looks_in calls ++ looks_in more
looks_joined [] more = refl
looks_joined (c ∷ calls) more =
    ap (λ l. look_in c ++ l) (looks_joined calls more) ∙ sym (append_assoc (look_in c) (looks_in calls) (looks_in more))

-- calls on one image lead to the same value: those on three that perform outputs are theirs, and the clock told the same
pub record OnOne {A : Type 0} (s : Settings) (me : ℕ) (good : List Bool) (plan : Plan A) (calls : List Call) (value : A) : Type 0 where
  pub one : List Call
  pub follows : Follows plan one value
  pub outputs : Follows (on_three s me good (one_by_one (outputs_among one))) (filter is_output calls) tt
  pub looks : looks_in calls ≡ looks_in one

pub on_one : {A : Type 0} (s : Settings) (me : ℕ) (good : List Bool) (plan : Plan A) (calls : List Call) (value : A) → AsksWiped plan
    → Follows (on_three s me good plan) calls value → OnOne s me good plan calls value
on_one s me good (Ends end) calls value wiped follows =
    record { one = []; follows = (refl, follows.1); outputs = (ap (filter is_output) follows.0, refl); looks = ap looks_in follows.0 }
on_one s me good (Asks question left) calls value wiped follows =
    let parts = cut (call_plan s me good question) (λ told. on_three s me told.1 (left told.0)) calls value follows in
    let told = parts.value in
    let more = on_one s me told.1 (left told.0) parts.rest value (wiped.1 told.0) parts.goes_on in
    let each : OneTold 0 question (ticks 0 parts.first) (some_failed parts.first) told =
    leads_end (OneTold 0 question) 0 false (call_plan s me good question) parts.first told (call_told s me good question 0 wiped.0) parts.follows in
    let alike = call_alike s me good question parts.first told each.0 parts.follows in
    let Q : List Call → Type 0 = λ cs. Follows (on_three s me good (one_by_one (outputs_among (told.0 ∷ more.one)))) cs tt in
    record {
      one = told.0 ∷ more.one;
      follows = (each.0, more.follows);
      outputs = subst Q (sym (ap (filter is_output) parts.joined ∙ filter-append is_output parts.first parts.rest))
          (joined s me good told more.one parts.first parts.rest alike
          (subst (λ (q : Call). Follows (call_plan s me good q) parts.first told) (sym each.0) parts.follows) more.outputs);
      looks = ap looks_in parts.joined ∙ looks_joined parts.first parts.rest ∙ rw (alike.looks, more.looks) refl;
    }
  where
    joined : (s : Settings) (me : ℕ) (good : List Bool) (told : Told) (one first rest : List Call) → Alike good first told
        → Follows (call_plan s me good (blank told.0)) first told
        → Follows (on_three s me told.1 (one_by_one (outputs_among one))) (filter is_output rest) tt
        → Follows (on_three s me good (one_by_one (if_output told.0 ++ outputs_among one))) (filter is_output first ++ filter is_output rest) tt
    joined s me good told one first rest alike made goes_on = of_test (is_output told.0) refl
      where
        of_test : (test : Bool) → is_output told.0 ≡ test
            → Follows (on_three s me good (one_by_one ((if test then blank told.0 ∷ [] else []) ++ outputs_among one))) (filter is_output first ++ filter is_output rest) tt
        of_test true is =
            rw (alike.outputs is)
            (follows_then (call_plan s me good (blank told.0)) (λ t. on_three s me t.1 (one_by_one (outputs_among one))) first (filter is_output rest) told tt made goes_on)
        of_test false is =
            let none = alike.others is in
            rw none.0 (subst (λ (g : List Bool). Follows (on_three s me g (one_by_one (outputs_among one))) (filter is_output rest) tt) none.1 goes_on)
