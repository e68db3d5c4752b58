use Rattle.std.proofs.Common.{refl, inl}
use Rattle.qn_wire.proofs.Spelling.{packet_of-spelling}
use Rattle.qn_wire.proofs.laws.law_read_back.Goals as goal

pub returns : goal.returns
returns c = λ packet well_formed. packet_of-spelling _ packet (record { well_formed = well_formed; spelling = inl refl })
