use Rattle.std.proofs.Common.{refl, sym}
use Rattle.qn_commands.specs.CountTurns.{Bad, Unwritten}
use Rattle.qn_playback.specs.Writing.{gives_more, prefix_of_more}
use Rattle.qn_commands.proofs.commands.count.take_line.Goals as goal

pub returns-in-Err-clause-judges : goal.returns-in-Err-clause-judges
returns-in-Err-clause-judges g c =
    Bad c.in-Err.fault (sym c.in-Err.ensures.line) c.end_at_fault.ensures.answers

pub returns-in_default-clause-judges : goal.returns-in_default-clause-judges
returns-in_default-clause-judges g c =
    Unwritten c.in-Ok.good (sym c.in-Ok.ensures.line) refl c.in_default.ensures.cause
    (prefix_of_more _ c.in_default.ensures.prefix)

pub returns-clause-judges : goal.returns-clause-judges
returns-clause-judges g c = record {
  good = c.in-Ok.good;
  judged = sym c.in-Ok.ensures.line;
  room = c.in-Ok.ensures.room.0;
  counted = c.add.ensures;
  gives = gives_more _ c.write_line.new.output c.in-Ok-make_room.ensures.given c.write_line.ensures;
}
