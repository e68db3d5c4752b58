-- The image that an operation is asked of, what its call did there, and what is left to be asked then.
use Rattle.std.proofs.Common.{◌≡◌, ◌<◌, ◌≤◌, ◌+◌, ℕ, zero, suc, Bool, true, false, List, [], Option, None, Some, if◌then◌else◌, refl, sym, ap, subst, ◌∙◌, arith, inl, inr}
use Rattle.std.specs.Prelude.{length, nat_lt}
use Rattle.std.specs.Option.{option_map_or}
use Rattle.std.proofs.lemmas.Bool.{lt-ltb, ltb-true}
use Rattle.qn_base.specs.declared.calls.Call.{Call}
use Rattle.qn_base.specs.declared.calls.Call.TheVariants as call
use Rattle.qn_base.specs.Plans as plans
use Rattle.qn_base.specs.Plans.{Plan, question}
use Rattle.qn_model.specs.declared.configuration.Settings.{Settings}
use Rattle.qn_model.specs.declared.times.Timing.{Timing}
use Rattle.qn_model.specs.declared.entries.What.{What}
use Rattle.qn_model.specs.declared.outputs.DiskOp.{DiskOp}
use Rattle.qn_model.specs.declared.outputs.DiskOp.TheVariants as disk
use Rattle.qn_model.specs.declared.packets.Sent.{Sent}
use Rattle.qn_model.specs.Sectors.{mail_place, slot_place}
use Rattle.qn_model.specs.World.{put}
use Rattle.qn_safety.specs.declared.part.Part.{Part}
use Rattle.qn_safety.specs.declared.part.Part.TheVariants.{Pending, Landed, Failed}
use Rattle.qn_safety.specs.NodeLogs.{IsOperation}
use Rattle.qn_live.specs.Performing.{disk_call, done}
use Rattle.qn_live.specs.TripleDisk.{Told, call_plan, sector_on}
use Rattle.qn_joined.specs.Joints.{FitsImage, Host, is_disk, waits_for}
use Rattle.qn_joined.specs.TripleJoints.{TripleHost, call_on_three, image_named, image_of_sector}
use Rattle.qn_joined.specs.TripleNodes.{AllAre, AreSilent, IsAhead, IsAsking, IsNodeOnThree, PartsAre}
use Rattle.qn_joined.specs.TripleWorldOf.{IsAnswered, IsHeld, IsLeft, ToldBy, image_before, none_told, on_image, told_also}
use Rattle.qn_model.specs.declared.outputs.Out.TheVariants as out
use Rattle.qn_model.specs.Log.{disk_of, op_out}
use Rattle.qn_model.specs.Moments.{Running, is_gone}
use Rattle.qn_model.specs.Phases.{phase}
use Rattle.qn_joined.specs.Stands.{Spot, Receiving, Looking, Acting, Polling, Saying, Parting, Ended, log_at}
use Rattle.qn_joined.specs.WorldOf.{IsEnding, IsNode, TookAlike, disk_ahead}
use Rattle.qn_joined.proofs.Calls.{disk_is, timed_on}
use Rattle.qn_joined.proofs.Landing.{DiskWaits, disk_waits}

-- ## Parts

none_here : (s : Settings) (t : Timing) (op : DiskOp) (images : ℕ) (by : ToldBy) (parts : ℕ → Part) → AllAre by parts → AreSilent (suc images) by → PartsAre s t op images None by parts
none_here s t op zero by parts are silent = (are.2 ∙ silent, are.0, are.1)
none_here s t op (suc zero) by parts are silent = (are.1 ∙ silent.1, are.0, are.2)
none_here s t op (suc (suc more)) by parts are silent = (are.0 ∙ silent.2, are.1, are.2)

less_silent : (images : ℕ) (by : ToldBy) → AreSilent (suc images) by → AreSilent images by
less_silent zero by silent = tt
less_silent (suc zero) by silent = silent.0
less_silent (suc (suc zero)) by silent = (silent.0, silent.1)
less_silent (suc (suc (suc more))) by silent = silent

pub told_silent : (images : ℕ) (part : Part) (by : ToldBy) → AreSilent (suc images) by → images < 3 → AreSilent images (told_also images part by)
told_silent zero part by silent less = tt
told_silent (suc zero) part by silent less = silent.0
told_silent (suc (suc zero)) part by silent less = (silent.0, silent.1)
told_silent (suc (suc (suc more))) part by silent less = absurd (omega (arith, less))

-- what is left to be asked: an image is asked, or none and all told
pub data Comes (s : Settings) (t : Timing) (rank number : ℕ) (op : DiskOp) (good : List Bool) (parts : ℕ → Part) (call : Plan Told) : Type 0 where
  AsksOne : (asking : IsAsking s t rank op good None parts call) → asking.number ≡ number → Comes s t rank number op good parts call
  AllTold : (told : Told) (by : ToldBy) → call ≡ plans.Ends told → IsAnswered s rank number op good by told → AllAre by parts → Comes s t rank number op good parts call

pub comes_next : {s : Settings} {t : Timing} {rank number : ℕ} {op : DiskOp} {good : List Bool} {parts : ℕ → Part} (images : ℕ) (by : ToldBy) (call : Plan Told)
    → IsLeft s t rank number op good images by call → images ≤ 3 → AllAre by parts → AreSilent images by → Comes s t rank number op good parts call
comes_next zero by call is few are silent = AllTold is.0 by is.1 is.2 are
comes_next {s} {t} {rank} {number} {op} {good} {parts} (suc images) by call is few are silent =
    by_asked is (λ rest. comes_next images by call rest (omega (arith, few)) are (less_silent images by silent))
  where
    by_asked : IsLeft s t rank number op good (suc images) by call → (IsLeft s t rank number op good images by call → Comes s t rank number op good parts call) → Comes s t rank number op good parts call
    by_asked (inl rest) go_on = go_on rest
    by_asked (inr asked) go_on =
        AsksOne (record { number = number; images = images; few = omega (arith, few); by = by; more = asked.0; asks = asked.1; next = asked.2; are = none_here s t op images by parts are silent; silent = silent }) refl

-- ## Landing

pub part_pending : (s : Settings) (t : Timing) (op : DiskOp) (images : ℕ) (by : ToldBy) (parts : ℕ → Part) → PartsAre s t op images None by parts → parts (image_before images) ≡ Pending
part_pending s t op zero by parts are = are.0
part_pending s t op (suc zero) by parts are = are.0
part_pending s t op (suc (suc more)) by parts are = are.0

pub part_lands : (s : Settings) (t : Timing) (op : DiskOp) (images : ℕ) (by : ToldBy) (parts : ℕ → Part) (bytes : List ℕ) (value : What) → value ≡ done s op bytes → IsHeld s t op value → PartsAre s t op images None by parts
    → PartsAre s t op images (Some bytes) by (put parts (image_before images) (Landed value))
part_lands s t op zero by parts bytes value same held are = ((ap Landed same, subst (λ v. IsHeld s t op v) same held), are.1, are.2)
part_lands s t op (suc zero) by parts bytes value same held are = ((ap Landed same, subst (λ v. IsHeld s t op v) same held), are.1, are.2)
part_lands s t op (suc (suc more)) by parts bytes value same held are = ((ap Landed same, subst (λ v. IsHeld s t op v) same held), are.1, are.2)

-- ## Returning

pub told_failed : (s : Settings) (t : Timing) (op : DiskOp) (took : Option (List ℕ)) (images : ℕ) (by : ToldBy) (parts : ℕ → Part) (part : Part) → part ≡ Failed → PartsAre s t op images took by parts
    → AllAre (told_also images part by) (put parts (image_before images) Failed)
told_failed s t op took zero by parts part same are = (are.1, are.2, sym same)
told_failed s t op took (suc zero) by parts part same are = (are.1, sym same, are.2)
told_failed s t op took (suc (suc more)) by parts part same are = (sym same, are.1, are.2)

pub told_landed : (s : Settings) (t : Timing) (op : DiskOp) (bytes : List ℕ) (images : ℕ) (by : ToldBy) (parts : ℕ → Part) (part : Part) → part ≡ Landed (done s op bytes) → PartsAre s t op images (Some bytes) by parts
    → AllAre (told_also images part by) parts
told_landed s t op bytes zero by parts part same are = (are.1, are.2, are.0.0 ∙ sym same)
told_landed s t op bytes (suc zero) by parts part same are = (are.1, are.0.0 ∙ sym same, are.2)
told_landed s t op bytes (suc (suc more)) by parts part same are = (are.0.0 ∙ sym same, are.1, are.2)

-- ## The image that a call names

named : (images sector : ℕ) → sector < 1024 → image_of_sector (sector_on (image_before images) sector) ≡ image_before images
named zero sector small =
    ap (λ b. if b then 1 else (if nat_lt (2048 + sector) 2048 then 2 else 3)) (not_under (2048 + sector) 1024 (omega arith))
    ∙ ap (λ b. if b then 2 else 3) (not_under (2048 + sector) 2048 (omega arith))
  where
    not_under : (n m : ℕ) → m ≤ n → nat_lt n m ≡ false
    not_under n m le = by_test (nat_lt n m) refl
      where
        by_test : (b : Bool) → nat_lt n m ≡ b → nat_lt n m ≡ false
        by_test false e = e
        by_test true e = absurd (let under = ltb-true n m e in omega (arith, under, le))
named (suc zero) sector small =
    ap (λ b. if b then 1 else (if nat_lt (1024 + sector) 2048 then 2 else 3)) (not_under (1024 + sector) 1024 (omega arith))
    ∙ ap (λ b. if b then 2 else 3) (lt-ltb (1024 + sector) 2048 (omega (arith, small)))
  where
    not_under : (n m : ℕ) → m ≤ n → nat_lt n m ≡ false
    not_under n m le = by_test (nat_lt n m) refl
      where
        by_test : (b : Bool) → nat_lt n m ≡ b → nat_lt n m ≡ false
        by_test false e = e
        by_test true e = absurd (let under = ltb-true n m e in omega (arith, under, le))
named (suc (suc more)) sector small = ap (λ b. if b then 1 else (if nat_lt (0 + sector) 2048 then 2 else 3)) (lt-ltb (0 + sector) 1024 (omega (arith, small)))

pub named_on : (s : Settings) (t : Timing) (rank number images : ℕ) (op : DiskOp) → FitsImage s t → rank < length s.nodes → IsOperation s op
    → image_named (on_image (image_before images) (disk_call s rank number op)) ≡ image_before images
unfolding disk_call
named_on s t rank number images disk.ReadHeader fits below is = named images 0 (omega arith)
named_on s t rank number images (disk.ReadSlot other) fits below is = named images (slot_place other.0) (omega (arith, is, fits.few))
named_on s t rank number images disk.CheckMail fits below is = named images (mail_place rank) (omega (arith, below, fits.few))
named_on s t rank number images disk.ReadMail fits below is = named images (mail_place rank) (omega (arith, below, fits.few))
named_on s t rank number images (disk.WriteClaim next) fits below is = named images (slot_place rank) (omega (arith, below, fits.few))
named_on s t rank number images (disk.WriteClose last) fits below is = named images (slot_place rank) (omega (arith, below, fits.few))
named_on s t rank number images disk.WriteClear fits below is = named images (mail_place rank) (omega (arith, below, fits.few))
named_on s t rank number images (disk.WriteReset other) fits below is = named images (mail_place other.0) (omega (arith, is, fits.few))

-- ## The operation that a host asks for

pub disk_on : (s : Settings) (rank number image : ℕ) (op : DiskOp) → is_disk (on_image image (disk_call s rank number op)) ≡ true
unfolding disk_call
disk_on s rank number image disk.ReadHeader = refl
disk_on s rank number image (disk.ReadSlot other) = refl
disk_on s rank number image disk.CheckMail = refl
disk_on s rank number image disk.ReadMail = refl
disk_on s rank number image (disk.WriteClaim next) = refl
disk_on s rank number image (disk.WriteClose last) = refl
disk_on s rank number image disk.WriteClear = refl
disk_on s rank number image (disk.WriteReset other) = refl

-- a call that is none of the disk is made once
pub once_made : (s : Settings) (rank : ℕ) (good : List Bool) (asked : Call) → is_disk asked ≡ false → call_plan s rank good asked ≡ plans.Asks asked (λ made. plans.Ends (made, good))
once_made s rank good (call.Read sector bytes ok) none = absurd cc
once_made s rank good (call.Write sector bytes ok) none = absurd cc
once_made s rank good (call.Now tick) none = refl
once_made s rank good (call.Receive got) none = refl
once_made s rank good (call.Feed ok) none = refl
once_made s rank good (call.Start ok) none = refl
once_made s rank good (call.Stop ok) none = refl
once_made s rank good (call.Send to bytes ok) none = refl
once_made s rank good (call.Disarm ok) none = refl
once_made s rank good (call.Halt code) none = refl
once_made s rank good (call.OpenImage path ok) none = refl
once_made s rank good (call.OpenNode images image watchdog resource port owner ok) none = refl

plain_asked : (s : Settings) (rank : ℕ) (good : List Bool) (waiting : Option Call) → option_map_or is_disk waiting false ≡ false
    → option_map_or is_disk (question (option_map_or (call_plan s rank good) waiting (plans.Ends (call.Now 0, good)))) false ≡ false
plain_asked s rank good None none = refl
plain_asked s rank good (Some asked) none = ap (λ p. option_map_or is_disk (question p) false) (once_made s rank good asked none) ∙ none

-- a run that only ends asks for no operation
ending_ahead : (spot : Spot) → IsEnding spot → disk_ahead spot ≡ None
ending_ahead (Receiving st) ends = absurd ends
ending_ahead (Looking chosen) ends = absurd ends
ending_ahead (Polling poll sents st) ends = absurd ends
ending_ahead (Saying said rest st) ends = absurd ends
ending_ahead (Parting end said rest st) ends = refl
ending_ahead (Ended ran) ends = refl
ending_ahead (Acting entry outs (out.Disk op) rest st) ends = absurd (let none = ends.2 in cc)
ending_ahead (Acting entry outs out.Stop rest st) ends = ap disk_of ends.0
ending_ahead (Acting entry outs out.Start rest st) ends = ap disk_of ends.0
ending_ahead (Acting entry outs out.Feed rest st) ends = ap disk_of ends.0
ending_ahead (Acting entry outs (out.Send to p) rest st) ends = ap disk_of ends.0
ending_ahead (Acting entry outs out.Disarm rest st) ends = ap disk_of ends.0
ending_ahead (Acting entry outs (out.Halt kind) rest st) ends = ap disk_of ends.0

-- a node whose operation is ahead runs
pub ahead_on : {s : Settings} {rank : ℕ} {host : Host} {n : Running} {took : Option What} {left : List DiskOp} {all : List Sent} {op : DiskOp}
    → IsNode s rank host n took left all → host.on ≡ true → disk_ahead host.stand.spot ≡ Some op → n.on ≡ true
ahead_on {s} {rank} {host} {n} is on ahead = by_asked host.asked refl (is_gone (phase s (log_at host.stand.spot))) refl
  where
    by_asked : (a : Bool) → host.asked ≡ a → (b : Bool) → is_gone (phase s (log_at host.stand.spot)) ≡ b → n.on ≡ true
    by_asked false a b e = absurd (let none = ap (λ x. disk_ahead x.spot) (is.fresh on a).stand in let both = sym ahead ∙ none in cc)
    by_asked true a true e = absurd (let none = ending_ahead host.stand.spot (is.ending on e) in let both = sym ahead ∙ none in cc)
    by_asked true a false e = is.on ∙ timed_on host.on host.asked (is_gone (phase s (log_at host.stand.spot))) on a e

-- a host asks for an operation of the disk, on an image
pub record AsksDisk (s : Settings) (t : Timing) (rank : ℕ) (host : TripleHost) (n : Running) (took : Option What) (parts : ℕ → Part) (all : List Sent) : Type 0 where
  pub waits : DiskWaits s rank host.one n took [] all
  pub asking : IsAsking s t rank waits.op host.good host.took parts host.call
  pub call : waits_for s rank host.one ≡ Some (disk_call s rank asking.number waits.op)

pub record IsAskingFor (s : Settings) (t : Timing) (rank number : ℕ) (op : DiskOp) (good : List Bool) (took : Option (List ℕ)) (parts : ℕ → Part) (call : Plan Told) : Type 0 where
  pub asking : IsAsking s t rank op good took parts call
  pub same : asking.number ≡ number

asking_for : {s : Settings} {t : Timing} {rank number : ℕ} {op : DiskOp} {good : List Bool} {parts : ℕ → Part} {call call' : Plan Told} {took : Option (List ℕ)}
    → IsAskingFor s t rank number op good None parts call → call' ≡ call → took ≡ None → IsAskingFor s t rank number op good took parts call'
asking_for {s} {t} {rank} {number} {op} {good} {parts} {call} {call'} {took} is same none =
    subst (λ p. IsAskingFor s t rank number op good took parts p) (sym same) (subst (λ k. IsAskingFor s t rank number op good k parts call) (sym none) is)

module _ {s : Settings} {t : Timing} {rank : ℕ} {host : TripleHost} {n : Running} {parts : ℕ → Part} {left : ℕ → List DiskOp} {good : ℕ → Bool} {all : List Sent}
    (is : IsNodeOnThree s t rank host n parts left good all) (on : host.one.on ≡ true)
    (starts : (number : ℕ) (op : DiskOp) → n.on ≡ true → op_out n.log ≡ Some op → disk_ahead host.one.stand.spot ≡ Some op → is.took ≡ None
    → IsLeft s t rank number op host.good 3 none_told (call_plan s rank host.good (disk_call s rank number op))) where
  pub asks_disk : option_map_or is_disk (question host.call) false ≡ true → AsksDisk s t rank host n is.took parts all
  asks_disk asks = by_call (option_map_or is_disk (waits_for s rank host.one) false) refl
    where
      fresh_disk : (d : DiskWaits s rank host.one n is.took [] all) → AllAre none_told parts → host.took ≡ None → host.call ≡ call_on_three s rank host.good host.one
          → AsksDisk s t rank host n is.took parts all
      fresh_disk d are none call_is =
          by_next (comes_next 3 none_told (call_plan s rank host.good (disk_call s rank d.number d.op)) (starts d.number d.op d.lives d.out d.ahead took_none) (omega arith) are (refl, refl, refl))
        where
          took_none : is.took ≡ None
          took_none = subst (λ k. TookAlike s d.op k is.took) is.plain.0 d.alike

          same : host.call ≡ call_plan s rank host.good (disk_call s rank d.number d.op)
          same = call_is ∙ ap (λ w. option_map_or (call_plan s rank host.good) w (plans.Ends (call.Now 0, host.good))) d.waits

          by_next : Comes s t rank d.number d.op host.good parts (call_plan s rank host.good (disk_call s rank d.number d.op)) → AsksDisk s t rank host n is.took parts all
          by_next (AllTold told by ends answered are') =
              absurd (let none' = sym asks ∙ ap (λ p. option_map_or is_disk (question p) false) (same ∙ ends) in cc)
          by_next (AsksOne asking number) =
              let a = asking_for (record { asking = asking; same = number }) same none in
              record { waits = d; asking = a.asking; call = d.waits ∙ ap (λ k. Some (disk_call s rank k d.op)) (sym a.same) }

      by_disk : (d : DiskWaits s rank host.one n is.took [] all) → IsAhead s t rank host d.op parts → AsksDisk s t rank host n is.took parts all
      by_disk d (inr asking) = record { waits = d; asking = asking.0; call = asking.1 }
      by_disk d (inl fresh) = fresh_disk d fresh.0 fresh.1 fresh.2

      by_call : (b : Bool) → option_map_or is_disk (waits_for s rank host.one) false ≡ b → AsksDisk s t rank host n is.took parts all
      by_call true disk = let d = disk_waits host.one n is.took [] all host.one.stand.spot is.one on disk in by_disk d (is.ahead d.lives d.op d.ahead)
      by_call false plain = absurd (by_ahead (disk_ahead host.one.stand.spot) refl)
        where
          never : host.call ≡ call_on_three s rank host.good host.one → ⊥
          never same = let none = sym asks ∙ ap (λ p. option_map_or is_disk (question p) false) same ∙ plain_asked s rank host.good (waits_for s rank host.one) plain in cc

          by_how : (op : DiskOp) → IsAhead s t rank host op parts → ⊥
          by_how op (inl fresh) = never fresh.2
          by_how op (inr asking) = let both = sym plain ∙ ap (λ w. option_map_or is_disk w false) asking.1 ∙ disk_is s rank asking.0.number op in cc

          by_ahead : (o : Option DiskOp) → disk_ahead host.one.stand.spot ≡ o → ⊥
          by_ahead None e = never (is.idle on e).1
          by_ahead (Some op) e = by_how op (is.ahead (ahead_on is.one on e) op e)
