use Rattle.std.proofs.Common.{◌≡◌, ◌≤◌, ◌+◌, ◌*◌}
use Rattle.std.specs.Prelude.{count_ones}
use Rattle.qn_model.specs.Steps.{holders}
use Rattle.qn_world.specs.Standing.{WorldFor}
use Rattle.qn_replay.specs.Generator.{soak_settings, soak_timing}
use Rattle.qn_replay.specs.Soak.{IsWithin, soaked}
use Rattle.qn_replay.proofs.soaking.tally_of.Given as goal

abbrev pub invariant-events : goal.invariant-events
invariant-events l = record {
  stands : WorldFor l.world (soaked l.seed l.number).world;
  state : l.generator ≡ (soaked l.seed l.number).state;
  tally : l.tally ≡ (soaked l.seed l.number).tally;
  counted : count_ones (holders soak_settings (soaked l.seed l.number).world).0 ≤ l.tally.most_holders;
  one : l.tally.most_holders ≤ 1;
  within : IsWithin (40 * l.number) l.tally;
  settings : l.world.settings ≡ soak_settings;
  timing : l.world.timing ≡ soak_timing;
  early : l.world.time ≤ 1000000000 * l.number;
  steps : l.world.steps + l.number ≡ 18446744073709551615;
}
