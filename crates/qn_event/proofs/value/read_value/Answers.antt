use Rattle.std.proofs.Common.{◌≡◌, ◌≤◌, ◌<◌, ◌+◌, ◌-◌, ◌∙◌, length, nat_le, arith}
use Rattle.qn_event.specs.ValuesRead.{value_in}
use Rattle.qn_event.proofs.ValueSteps.{left_of, neither, nothing_said}
use Rattle.qn_event.proofs.value.read_value.Goals as goal

pub returns-then-not-read_before : goal.returns-then-not-read_before
returns-then-not-read_before c =
    let value = c.args.value.now in
    let place = c.loop-place.place in
    let within : place < length value = c.loop-place-test.true in
    let none =
    left_of value c.loop-place.said.items place within c.loop-place.invariant.said ∙ c.read_before.ensures.nothing c.if-not-read_before.true in
    neither (nat_le (length value) 384) (value_in value) (nothing_said value (length value - (place + 1)) none)

pub loop-place-preserved : goal.loop-place-preserved
loop-place-preserved c =
    let value = c.args.value.now in
    let place = c.loop-place.place in
    let within : place < length value = c.loop-place-test.true in
    let room = c.loop-place.invariant.fits in
    let more = c.read_before.ensures.fits in
    record {
      said =
          left_of value c.loop-place.said.items place within c.loop-place.invariant.said ∙ c.read_before.ensures.said c.if-not-read_before.false;
      fits = omega (arith, room, more);
    }
