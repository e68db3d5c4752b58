use Rattle.std.proofs.Common.{◌≡◌, ◌⊎◌, ℕ, Bool, true, List, Some, sym, ap, ◌∙◌, inl, inr, slice_index}
use Rattle.std.specs.Prelude.{if◌then◌else◌}
use Rattle.std.proofs.lemmas.Option.{same_Some}
use Rattle.qn_base.specs.declared.ids.Rank.{Rank}
use Rattle.qn_base.specs.declared.ids.View.{View}
use Rattle.qn_model.specs.declared.packets.Packet.TheVariants as packet
use Rattle.qn_wire.specs.Packets.{announce_bytes, has_name, named_bytes, packet_bytes}
use Rattle.qn_wire.proofs.Spelling.{packet_of-spells}
use Rattle.qn_wire.proofs.laws.law_named_views_have_their_kind.Goals as goal

put_kind : (from : Rank) (view : View) → has_name view ≡ true → slice_index (packet_bytes (packet.Announce from view)) 2 ≡ 11
unfolding packet_bytes
put_kind from view named = ap (λ (b : Bool). if b then 11 else 4) named

read_kind : (bytes : List ℕ) (from : Rank) (view : View) → has_name view ≡ true
    → (bytes ≡ packet_bytes (packet.Announce from view)) ⊎ (named_bytes (packet.Announce from view) ≡ Some bytes) → slice_index bytes 2 ≡ 11
unfolding named_bytes
read_kind bytes from view named (inl e) = ap (λ b. slice_index b 2) e ∙ put_kind from view named
read_kind bytes from view named (inr e) = ap (λ b. slice_index b 2) (sym (same_Some (announce_bytes 11 from view) bytes e))

pub returns-clause-put : goal.returns-clause-put
returns-clause-put c = λ from view named. put_kind from view named

pub returns-clause-read : goal.returns-clause-read
returns-clause-read c = λ bytes from view read named.
    read_kind bytes from view named (packet_of-spells bytes (packet.Announce from view) read).spelling
