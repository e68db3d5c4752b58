-- A step of a group that has begun: this project's profile.
use Rattle.std.specs.Prelude.{Option, None, Some}
use Rattle.qn_group.specs.declared.group.Event.{Event}
use Rattle.qn_group.specs.declared.group.Given.{Given}
use Rattle.qn_group.specs.declared.group.Group.{Group}
use Rattle.qn_group.specs.Steps.{Step}

-- from that group an event leads to that group, and that is given; both have begun
abbrev pub GroupStep : Option Group → Event → Given → Option Group → Type 0
GroupStep (Some old) happened given (Some new) = Step old happened given new
GroupStep (Some old) happened given None = ⊥
GroupStep None happened given new = ⊥
