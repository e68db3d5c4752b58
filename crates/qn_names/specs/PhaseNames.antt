-- The words of phases, as a status and a running node print them: this project's profile.
use Rattle.std.specs.Prelude.{ℕ, List, codes}
use Rattle.qn_model.specs.declared.life.Phase.{Phase}
use Rattle.qn_model.specs.declared.life.Phase.TheVariants.{Booting, Up, Leaving, Dying, Gone}

-- the word of a phase
abbrev pub phase_name : Phase → List ℕ
phase_name Booting = codes "booting"
phase_name Up = codes "up"
phase_name Leaving = codes "leaving"
phase_name Dying = codes "dying"
phase_name Gone = codes "off"
