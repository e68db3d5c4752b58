-- What bytes say: a poll that is read is well formed and is spelt so, and what a node sends is a packet, which is no poll, or its poll.
use Rattle.std.proofs.Common.{◌≡◌, ℕ, Bool, true, false, ◌&&◌, ◌==◌, List, [], ◌∷◌, None, Some, if◌then◌else◌, refl, sym, ap, subst, ◌∙◌, arith, length, inl, inr, ◌⊎◌, zero, suc}
use Rattle.std.specs.Prelude.{Contains, ◌<◌, slice_index_or}
use Rattle.std.specs.Str.{bytes_eq}
use Rattle.std.proofs.lemmas.Option.{same_Some}
use Rattle.std.proofs.lemmas.Slice.Eq.{bytes_eq-Decides}
use Rattle.qn_base.specs.declared.calls.Call.{Call}
use Rattle.qn_base.specs.declared.calls.Call.TheVariants as call
use Rattle.qn_base.specs.declared.ids.Rank.{Rank}
use Rattle.qn_base.specs.Calls.{blank}
use Rattle.qn_base.specs.lemmas.Bools.{first_of_both, second_of_both}
use Rattle.qn_base.specs.lemmas.Options.{none_is_not_some}
use Rattle.qn_model.specs.declared.configuration.Settings.{Settings}
use Rattle.qn_model.specs.declared.outputs.DiskOp.{DiskOp}
use Rattle.qn_model.specs.declared.outputs.DiskOp.TheVariants as disk
use Rattle.qn_model.specs.declared.outputs.Out.{Out}
use Rattle.qn_model.specs.declared.outputs.Out.TheVariants as out
use Rattle.qn_model.specs.declared.packets.Packet.{Packet}
use Rattle.qn_model.specs.declared.packets.Packet.TheVariants as packet
use Rattle.qn_wire.specs.Packets.{has_name, packet_bytes}
use Rattle.qn_polls.specs.Polls.{is_poll, poll_bytes}
use Rattle.qn_polls.specs.Reading.{poll_at, poll_of}
use Rattle.qn_safety.specs.declared.polls.Poll.{Poll}
use Rattle.qn_live.specs.Greetings.{sends_plan}
use Rattle.qn_live.specs.Performing.{disk_call, out_call, outs_plan, own_number}
use Rattle.qn_joined.specs.Joints.{Host, sent_by, waits_for}
use Rattle.qn_joined.specs.Nodes.{at}
use Rattle.qn_joined.specs.Stands.{Spot, Receiving, Looking, Acting, Polling, Saying, Parting, Ended, left_plan}
use Rattle.qn_beside.specs.Beside.{poll_said}

pub record IsRead (bytes : List ℕ) (poll : Poll) : Type 0 where
  pub well_formed : is_poll poll ≡ true
  pub spelling : poll_bytes poll ≡ bytes

pub poll_read : (bytes : List ℕ) (poll : Poll) → poll_of bytes ≡ Some poll → IsRead bytes poll
unfolding poll_of
poll_read bytes poll e = by_length (length bytes == 40) e
  where
    found : Poll
    found = poll_at bytes

    by_spelling : (b : Bool) → (is_poll found && bytes_eq (poll_bytes found) bytes) ≡ b → (if b then Some found else None) ≡ Some poll → IsRead bytes poll
    by_spelling false ok same = none_is_not_some poll same
    by_spelling true ok same =
        subst (λ p. IsRead bytes p) (same_Some found poll same)
        (record { well_formed = first_of_both (is_poll found) _ ok; spelling = (bytes_eq-Decides _ _).0 (second_of_both (is_poll found) _ ok) })

    by_length : (b : Bool) → (if b then (if is_poll found && bytes_eq (poll_bytes found) bytes then Some found else None) else None) ≡ Some poll → IsRead bytes poll
    by_length false same = none_is_not_some poll same
    by_length true same = by_spelling (is_poll found && bytes_eq (poll_bytes found) bytes) refl same

-- the third byte, which is the kind
kind_of : List ℕ → ℕ
kind_of [] = 0
kind_of (a ∷ []) = 0
kind_of (a ∷ b ∷ []) = 0
kind_of (a ∷ b ∷ kind ∷ rest) = kind

abbrev announced : Bool → ℕ
announced named = if named then 11 else 4

named_kind : (named : Bool) → announced named ≡ 6 → ⊥
named_kind true e = cc
named_kind false e = cc

packet_kind : (p : Packet) → kind_of (packet_bytes p) ≡ 6 → ⊥
unfolding packet_bytes kind_of
packet_kind (packet.Ask ask) e = cc
packet_kind (packet.Tell tell) e = cc
packet_kind (packet.Hello from) e = cc
packet_kind (packet.Announce from view) e = named_kind (has_name view) e
packet_kind (packet.Vote agrees) e = cc
packet_kind (packet.Heard from said standing) e = cc

poll_kind : (poll : Poll) → kind_of (poll_bytes poll) ≡ 6
unfolding poll_bytes kind_of
poll_kind poll = refl

pub packet_no_poll : (p : Packet) (poll : Poll) → poll_of (packet_bytes p) ≡ Some poll → ⊥
packet_no_poll p poll e = packet_kind p (sym (ap kind_of (poll_read (packet_bytes p) poll e).spelling) ∙ poll_kind poll)

-- what a call sent is a packet, or the poll that is sent where the run stands
abbrev pub IsSaid : Spot → List ℕ → Type 0
IsSaid spot bytes = ((p : Packet) × (bytes ≡ packet_bytes p)) ⊎ ((poll : Poll) × (poll_said spot ≡ Some poll) × (bytes ≡ poll_bytes poll))

disk_no_send : (s : Settings) (rank number : ℕ) (op : DiskOp) (to : Rank) (bytes : List ℕ) → disk_call s rank number op ≡ call.Send to bytes true → ⊥
unfolding disk_call
disk_no_send s rank number disk.ReadHeader to bytes e = cc
disk_no_send s rank number (disk.ReadSlot other) to bytes e = cc
disk_no_send s rank number disk.CheckMail to bytes e = cc
disk_no_send s rank number disk.ReadMail to bytes e = cc
disk_no_send s rank number (disk.WriteClaim next) to bytes e = cc
disk_no_send s rank number (disk.WriteClose own) to bytes e = cc
disk_no_send s rank number disk.WriteClear to bytes e = cc
disk_no_send s rank number (disk.WriteReset other) to bytes e = cc

same_bytes : (to other : Rank) (bytes more : List ℕ) → call.Send to bytes true ≡ call.Send other more true → more ≡ bytes
same_bytes to other bytes more e = cc

out_said : (s : Settings) (rank number : ℕ) (o : Out) (spot : Spot) (to : Rank) (bytes : List ℕ) → out_call s rank number o ≡ call.Send to bytes true → IsSaid spot bytes
unfolding out_call
out_said s rank number out.Stop spot to bytes e = absurd cc
out_said s rank number out.Start spot to bytes e = absurd cc
out_said s rank number out.Feed spot to bytes e = absurd cc
out_said s rank number (out.Send other p) spot to bytes e = inl (p, same_bytes other to (packet_bytes p) bytes e)
out_said s rank number (out.Disk op) spot to bytes e = absurd (disk_no_send s rank number op to bytes e)
out_said s rank number out.Disarm spot to bytes e = absurd cc
out_said s rank number (out.Halt kind) spot to bytes e = absurd cc

send_said : (s : Settings) (rank : ℕ) (host : Host) (spot : Spot) (to : Rank) (bytes : List ℕ) → waits_for s rank (at host spot) ≡ Some (call.Send to bytes true) → IsSaid spot bytes
unfolding left_plan outs_plan sends_plan
send_said s rank host (Receiving st) to bytes e = absurd cc
send_said s rank host (Looking chosen) to bytes e = absurd cc
send_said s rank host (Acting entry outs o rest st) to bytes e = out_said s rank (own_number st.log) o (Acting entry outs o rest st) to bytes (same_Some _ _ e)
send_said s rank host (Polling poll sents st) to bytes e = inr (poll, refl, same_bytes _ to (poll_bytes poll) bytes (same_Some _ _ e))
send_said s rank host (Saying sent rest st) to bytes e = inl (sent.packet, same_bytes sent.to to (packet_bytes sent.packet) bytes (same_Some _ _ e))
send_said s rank host (Parting end sent rest st) to bytes e = inl (sent.packet, same_bytes sent.to to (packet_bytes sent.packet) bytes (same_Some _ _ e))
send_said s rank host (Ended ran) to bytes e = absurd cc

no_item : {A : Type 0} {P : Type 0} (x : A) → Contains [] x → P
no_item x there = absurd (omega (arith, there.1))

abbrev sent_once : Rank → List ℕ → List (ℕ × List ℕ)
sent_once to bytes = (to.0, bytes) ∷ []

pub one_sent : (to : Rank) (bytes : List ℕ) (receiver : ℕ) (sent : List ℕ) → Contains (sent_once to bytes) (receiver, sent) → sent ≡ bytes
one_sent to bytes receiver sent there = by_place there.0 there.1 there.2
  where
    by_place : (k : ℕ) → k < 1 → slice_index_or (sent_once to bytes) k (receiver, sent) ≡ (receiver, sent) → sent ≡ bytes
    by_place zero less e = sym (ap (λ (x : ℕ × List ℕ). x.1) e)
    by_place (suc k) less e = absurd (omega arith)

pub call_said : (s : Settings) (rank : ℕ) (host : Host) (spot : Spot) (made : Call) (receiver : ℕ) (bytes : List ℕ) → waits_for s rank (at host spot) ≡ Some (blank made)
    → Contains (sent_by made) (receiver, bytes) → IsSaid spot bytes
call_said s rank host spot (call.Send to sent ok) receiver bytes waits there =
    subst (λ l. IsSaid spot l) (sym (one_sent to sent receiver bytes there)) (send_said s rank host spot to sent waits)
call_said s rank host spot (call.Now tick) receiver bytes waits there = no_item _ there
call_said s rank host spot (call.Receive got) receiver bytes waits there = no_item _ there
call_said s rank host spot (call.Read sector read ok) receiver bytes waits there = no_item _ there
call_said s rank host spot (call.Write sector written ok) receiver bytes waits there = no_item _ there
call_said s rank host spot (call.Feed ok) receiver bytes waits there = no_item _ there
call_said s rank host spot (call.Start ok) receiver bytes waits there = no_item _ there
call_said s rank host spot (call.Stop ok) receiver bytes waits there = no_item _ there
call_said s rank host spot (call.Disarm ok) receiver bytes waits there = no_item _ there
call_said s rank host spot (call.Halt code) receiver bytes waits there = no_item _ there
call_said s rank host spot (call.OpenImage path ok) receiver bytes waits there = no_item _ there
call_said s rank host spot (call.OpenNode images image watchdog resource port owner ok) receiver bytes waits there = no_item _ there
