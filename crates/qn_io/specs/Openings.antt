-- The call that opens all that a running node uses: this project's profile.
use Rattle.std.specs.Prelude.{Bool}
use Rattle.qn_base.specs.declared.calls.Call.{Call}
use Rattle.qn_base.specs.declared.calls.Call.TheVariants.{OpenNode}
use Rattle.qn_io.specs.declared.calls.Opening.{Opening}

-- with its answer
abbrev pub node_opening : Opening → Bool → Call
node_opening opening ok =
    OpenNode opening.images opening.image.now opening.watchdog.now opening.resource.now opening.port opening.rank ok
