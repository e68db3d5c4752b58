use Rattle.std.proofs.Common.{false, sym, ap, ◌∙◌}
use Rattle.std.specs.Option.{option_map_or}
use Rattle.std.specs.Str.{bytes_eq}
use Rattle.qn_model.specs.declared.packets.Packet.{Packet}
use Rattle.qn_wire.specs.Packets.{named_bytes}
use Rattle.qn_wire.proofs.reading.is_named_spelling.Goals as goal

pub returns-in-Announce : goal.returns-in-Announce
unfolding named_bytes
returns-in-Announce c =
    c.is_announce.ensures ∙ ap (λ (p : Packet). option_map_or (λ named. bytes_eq named c.args.from.now) (named_bytes p) false) (sym c.in-Announce.is)
