-- The calls that follow a list of writes.
use Rattle.std.proofs.Common.{◌≡◌, ℕ, suc, Bool, true, false, not, List, [], ◌∷◌, length, Result, Err, refl, arith}
use Rattle.std.proofs.Math.Dec.{eqb-suc-suc, eqb-zero-suc}
use Rattle.qn_base.specs.declared.calls.Call.{Call}
use Rattle.qn_base.specs.declared.calls.Call.TheVariants.{OpenImage, OpenNode, Now, Receive, Read, Write, Feed, Start, Stop, Send, Disarm, Halt}
use Rattle.qn_base.specs.Calls.{blank, is_failed}
use Rattle.qn_base.specs.Plans.{Follows}
use Rattle.qn_model.specs.declared.nodelist.NodeEntry.{NodeEntry}
use Rattle.qn_model.specs.declared.times.Timing.{Timing}
use Rattle.qn_model.specs.Timing.{is_safe}
use Rattle.qn_image.specs.declared.fault.ImageFault.{ImageFault}
use Rattle.qn_image.specs.declared.fault.ImageFault.TheVariants.{UnsafeTiming}
use Rattle.qn_image.specs.Plans.{or_fault}
use Rattle.qn_image.specs.Writes.{SectorWrite, writes_plan, create_writes, create_plan, IsTried}
use Rattle.qn_image.proofs.Writing.{answer_of}

-- a call that asks for a write is that write
asked_write : (call : Call) (sector : ℕ) (bytes : List ℕ) → blank call ≡ Write sector bytes true → call ≡ Write sector bytes (not (is_failed call))
asked_write (OpenImage path ok) sector bytes asked = cc
asked_write (OpenNode images image watchdog resource port rank ok) sector bytes asked = cc
asked_write (Now tick) sector bytes asked = cc
asked_write (Receive got) sector bytes asked = cc
asked_write (Read place found ok) sector bytes asked = cc
asked_write (Write place given true) sector bytes asked = cc
asked_write (Write place given false) sector bytes asked = cc
asked_write (Feed ok) sector bytes asked = cc
asked_write (Start ok) sector bytes asked = cc
asked_write (Stop ok) sector bytes asked = cc
asked_write (Send to given ok) sector bytes asked = cc
asked_write (Disarm ok) sector bytes asked = cc
asked_write (Halt code) sector bytes asked = cc

-- the first write of a list, and then the others
first_tried : (failed : Bool) (write : SectorWrite) (writes : List SectorWrite) (call : Call) (calls : List Call) (result : Result (Unit {0}) ImageFault) → call ≡ Write write.sector write.bytes (not failed) → (Follows (writes_plan writes) calls result → IsTried writes calls result) → Follows (or_fault (λ done. writes_plan writes) (answer_of failed)) calls result → IsTried (write ∷ writes) (call ∷ calls) result
first_tried true write writes call calls result is others did =
    record { done = 0; few = omega arith; made = rw (is, did.0) refl; answer = rw (eqb-zero-suc (length writes)) did.1 }
first_tried false write writes call calls result is others did =
    let left = others did in
    record {
      done = suc left.done;
      few = omega (arith, left.few);
      made = rw (is, left.made) refl;
      answer = rw (eqb-suc-suc left.done (length writes)) left.answer;
    }

-- the calls of the writes, in order, up to the first that fails
tried_writes : (writes : List SectorWrite) (calls : List Call) (result : Result (Unit {0}) ImageFault) → Follows (writes_plan writes) calls result → IsTried writes calls result
unfolding writes_plan
tried_writes [] calls result did =
    record { done = 0; few = omega arith; made = did.0; answer = did.1 }
tried_writes (write ∷ writes) [] result did = absurd did
tried_writes (write ∷ writes) (call ∷ calls) result did =
    first_tried (is_failed call) write writes call calls result (asked_write call write.sector write.bytes did.0) (tried_writes writes calls result) did.1

module _ (nodes : List NodeEntry) (timing : Timing) (calls : List Call) (result : Result (Unit {0}) ImageFault) (did : Follows (create_plan nodes timing) calls result) where
  pub tried_creation : is_safe timing ≡ true → IsTried (create_writes nodes timing) calls result
  unfolding create_plan
  tried_creation safe = tried_writes (create_writes nodes timing) calls result (rw safe at did)

  pub no_creation : is_safe timing ≡ false → (calls ≡ []) × (result ≡ Err UnsafeTiming)
  unfolding create_plan
  no_creation unsafe = rw unsafe at did
