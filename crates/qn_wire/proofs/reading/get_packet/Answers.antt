use Rattle.qn_wire.proofs.Spelling.{packet_found, no_packet_found}
use Rattle.qn_wire.proofs.reading.get_packet.Goals as goal

pub returns-clause-some : goal.returns-clause-some
returns-clause-some c = packet_found _ _ c.read_packet.ensures

pub returns-clause-none : goal.returns-clause-none
returns-clause-none c = no_packet_found _ _ c.read_packet.ensures
