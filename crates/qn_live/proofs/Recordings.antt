-- The calls that an outside can have made are recorded calls.
use Rattle.std.proofs.Common.{◌≡◌, ◌<◌, ℕ, zero, suc, Bool, true, false, List, [], ◌∷◌, length, take, if◌then◌else◌, refl, arith}
use Rattle.std.proofs.lemmas.List.{length-take}
use Rattle.hex.specs.Hex.{IsBytes}
use Rattle.qn_base.specs.declared.calls.Call.TheVariants as call
use Rattle.qn_io.specs.declared.calls.Got.{Got}
use Rattle.qn_io.specs.declared.calls.Got.TheVariants as got
use Rattle.qn_io.specs.Receives.{FitsPacket, received}
use Rattle.qn_live.specs.Sound.{IsRecorded}

no_bytes : IsBytes []
no_bytes i = omega arith

first_bytes : (count : ℕ) (bytes : List ℕ) → IsBytes bytes → IsBytes (take count bytes)
first_bytes zero bytes all i = no_bytes i
first_bytes (suc count) [] all i = no_bytes i
first_bytes (suc count) (byte ∷ bytes) all zero = all 0
first_bytes (suc count) (byte ∷ bytes) all (suc i) = first_bytes count bytes (λ k. all (suc k)) i

pub receive_recorded : (found : Got) (packet : List ℕ) → FitsPacket found → IsBytes packet → IsRecorded (call.Receive (received found packet))
receive_recorded (got.Packet count) packet fits all = (omega (arith, fits, length-take count packet), first_bytes count packet all)
receive_recorded got.Nothing packet fits all = (tt, tt)
receive_recorded got.Failed packet fits all = (tt, tt)

pub read_recorded : (sector : ℕ) (bytes : List ℕ) (ok : Bool) → sector < 3072 → length bytes ≡ 512 → IsBytes bytes → IsRecorded (call.Read sector (if ok then bytes else []) ok)
read_recorded sector bytes true within whole all = (whole, (omega (arith, within), all))
read_recorded sector bytes false within whole all = (refl, (omega (arith, within), no_bytes))
