-- The phases of a node.
use Rattle.std.proofs.Common.{◌≡◌, true, false, refl}
use Rattle.std.proofs.lemmas.Bool.{false≢true}
use Rattle.qn_model.specs.declared.life.Phase.{Phase}
use Rattle.qn_model.specs.declared.life.Phase.TheVariants.{Booting, Up, Leaving, Dying, Gone}
use Rattle.qn_model.specs.Phases.{is_booting, is_up, is_live}

pub up_booted : (p : Phase) → is_up p ≡ true → is_booting p ≡ false
up_booted Up e = refl
up_booted Booting e = absurd (false≢true e)
up_booted Leaving e = refl
up_booted Dying e = refl
up_booted Gone e = refl

pub live_booted : (p : Phase) → is_live p ≡ true → is_booting p ≡ false
live_booted Up e = refl
live_booted Leaving e = refl
live_booted Booting e = absurd (false≢true e)
live_booted Dying e = absurd (false≢true e)
live_booted Gone e = absurd (false≢true e)

pub not_up : (p : Phase) → is_live p ≡ false → is_up p ≡ false
not_up Booting e = refl
not_up Up e = absurd (cc)
not_up Leaving e = refl
not_up Dying e = refl
not_up Gone e = refl
