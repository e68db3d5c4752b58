-- What changes one node of a world leaves the others as they were.
use Rattle.std.proofs.Common.{◌≡◌, ◌<◌, ◌≤◌, ℕ, Bool, true, false, List, [], ◌∷◌, ◌++◌, Option, Some, ◌==◌, if◌then◌else◌, refl, sym, ap, subst, ◌∙◌, arith}
use Rattle.std.specs.Prelude.{Contains, length}
use Rattle.std.proofs.lemmas.Bool.{eqb-true}
use Rattle.std.proofs.lemmas.List.Elements.{Contains-append_left}
use Rattle.qn_model.specs.declared.configuration.Settings.{Settings}
use Rattle.qn_model.specs.declared.times.Timing.{Timing}
use Rattle.qn_model.specs.declared.entries.What.{What}
use Rattle.qn_model.specs.declared.entries.What.TheVariants as what
use Rattle.qn_model.specs.declared.outputs.DiskOp.{DiskOp}
use Rattle.qn_model.specs.declared.outputs.Out.{Out}
use Rattle.qn_model.specs.declared.outputs.Out.TheVariants as out
use Rattle.qn_model.specs.declared.packets.Packet.{Packet}
use Rattle.qn_model.specs.declared.packets.Sent.{Sent}
use Rattle.qn_model.specs.lemmas.Moments.{adds_apart}
use Rattle.qn_model.specs.Log.{Line}
use Rattle.qn_model.specs.Moments.{Adds, Running, node, packets, time}
use Rattle.qn_model.specs.World.{World, node_at, put}
use Rattle.qn_wire.specs.Reading.{packet_of}
use Rattle.qn_live.specs.declared.place.Choice.{Choice}
use Rattle.qn_live.specs.declared.place.Choice.TheVariants as choice
use Rattle.qn_joined.specs.Joints.{Host, Joint, counts}
use Rattle.qn_joined.specs.Moves.{Changes, Grows}
use Rattle.qn_joined.specs.Stands.{Spot, Receiving, Looking, Acting, Polling, Saying, Parting, Ended}
use Rattle.qn_joined.specs.WorldOf.{AllComeOut, ComesAs, ComesIn, ComesOut, IsBacked, IsImage, IsNode, IsWorld, WasSentTo}

pub grows_more : (all more : List Sent) → Grows all (all ++ more)
grows_more all more rank p is = record { to = is.to; there = Contains-append_left all more is.to is.there; receiver = is.receiver; content = is.content }

comes_in_grows : (rank : ℕ) (log : List Line) (took : Option What) (all all' : List Sent) → Grows all all' → (entry : What) → ComesIn rank log took all entry → ComesIn rank log took all' entry
comes_in_grows rank log took all all' grows what.Begin is = is
comes_in_grows rank log took all all' grows what.BeginClean is = is
comes_in_grows rank log took all all' grows (what.Header seen) is = is
comes_in_grows rank log took all all' grows (what.SlotRead other seen) is = is
comes_in_grows rank log took all all' grows (what.MailChecked seen) is = is
comes_in_grows rank log took all all' grows (what.Claimed ok) is = is
comes_in_grows rank log took all all' grows (what.Cleared ok) is = is
comes_in_grows rank log took all all' grows (what.MailRead seen) is = is
comes_in_grows rank log took all all' grows (what.MailWritten other ok) is = is
comes_in_grows rank log took all all' grows (what.Closed ok) is = is
comes_in_grows rank log took all all' grows (what.Ask ask) is = grows rank _ is
comes_in_grows rank log took all all' grows (what.Tell tell) is = grows rank _ is
comes_in_grows rank log took all all' grows (what.Stopped ok) is = is
comes_in_grows rank log took all all' grows (what.View view) is = is
comes_in_grows rank log took all all' grows (what.Device agrees) is = is
comes_in_grows rank log took all all' grows what.Tick is = is
comes_in_grows rank log took all all' grows what.Leave is = is

comes_as_grows : (rank : ℕ) (log : List Line) (took : Option What) (all all' : List Sent) → Grows all all' → (chosen : Choice) → ComesAs rank log took all chosen → ComesAs rank log took all' chosen
comes_as_grows rank log took all all' grows (choice.Whole entry) is = comes_in_grows rank log took all all' grows entry is
comes_as_grows rank log took all all' grows (choice.Open p) is = is
comes_as_grows rank log took all all' grows (choice.Answer reply) is = is

comes_out_grows : (log : List Line) (all all' : List Sent) → Grows all all' → (o : Out) → ComesOut log all o → ComesOut log all' o
comes_out_grows log all all' grows out.Stop is = is
comes_out_grows log all all' grows (out.Send to p) is = grows to.0 p is
comes_out_grows log all all' grows (out.Disk op) is = is
comes_out_grows log all all' grows out.Start is = is
comes_out_grows log all all' grows out.Feed is = is
comes_out_grows log all all' grows out.Disarm is = is
comes_out_grows log all all' grows (out.Halt kind) is = is

come_out_grows : (log : List Line) (all all' : List Sent) → Grows all all' → (outs : List Out) → AllComeOut log all outs → AllComeOut log all' outs
come_out_grows log all all' grows [] is = is
come_out_grows log all all' grows (o ∷ outs) is = (comes_out_grows log all all' grows o is.0, come_out_grows log all all' grows outs is.1)

pub backed_grows : (s : Settings) (rank : ℕ) (took_call : Option (List ℕ)) (took : Option What) (all all' : List Sent) → Grows all all' → (spot : Spot)
    → IsBacked s rank took_call took all spot → IsBacked s rank took_call took all' spot
backed_grows s rank took_call took all all' grows (Receiving st) is = is
backed_grows s rank took_call took all all' grows (Looking chosen) is = (is.0, is.1, comes_as_grows rank chosen.1.log took all all' grows chosen.0 is.2, is.3)
backed_grows s rank took_call took all all' grows (Acting entry outs o rest st) is =
    (is.0, record { come = come_out_grows st.log all all' grows (o ∷ rest) is.1.come; last = is.1.last; disk = is.1.disk })
backed_grows s rank took_call took all all' grows (Polling poll sents st) is = is
backed_grows s rank took_call took all all' grows (Saying said rest st) is = is
backed_grows s rank took_call took all all' grows (Parting end said rest st) is = is
backed_grows s rank took_call took all all' grows (Ended ran) is = is

pub node_grows : {s : Settings} {rank : ℕ} {host : Host} {n : Running} {took : Option What} {left : List DiskOp} {all : List Sent} (all' : List Sent) → Grows all all'
    → IsNode s rank host n took left all → IsNode s rank host n took left all'
node_grows {s} {rank} {host} {n} {took} {left} {all} all' grows is =
    record {
      on = is.on;
      log = is.log;
      clock = is.clock;
      tick = is.tick;
      fed = is.fed;
      decided = is.decided;
      silent = is.silent;
      backed = λ on. backed_grows s rank host.took took all all' grows host.stand.spot (is.backed on);
      idle = is.idle;
      among = is.among;
      fresh = is.fresh;
      ending = is.ending;
      greets = is.greets;
      rests = is.rests;
    }

pub no_change : (s : Settings) (rank : ℕ) (w : World) → Changes s rank w w
no_change s rank w = record { time = refl; grows = λ r p is. is; node = λ r apart. refl; took = λ r apart. refl; left = λ r apart. refl }

pub adds_changes : (s : Settings) (rank : ℕ) (entry : What) (w w' : World) → w'.moments ≡ Adds rank entry ∷ w.moments
    → ((r : ℕ) → (rank == r) ≡ false → w'.took r ≡ w.took r) → ((r : ℕ) → (rank == r) ≡ false → w'.left r ≡ w.left r) → Changes s rank w w'
unfolding time packets
adds_changes s rank entry w w' adds took left =
    record {
      time = ap time adds;
      grows = λ r p is. subst (λ m. WasSentTo r (packets s m) p) (sym adds) (grows_more (packets s w.moments) _ r p is);
      node = λ r apart. ap (node s r) adds ∙ adds_apart s rank r entry w.moments apart;
      took = took;
      left = left;
    }

nodes_after : {s : Settings} {t : Timing} {j : Joint} {w : World} (rank : ℕ) (w' : World) (host : Host) → IsWorld s t j w → Changes s rank w w'
    → IsNode s rank host (node_at s rank w') (w'.took rank) (w'.left rank) (packets s w'.moments)
    → (r : ℕ) → r < length s.nodes → IsNode s r (put j.hosts rank host r) (node_at s r w') (w'.took r) (w'.left r) (packets s w'.moments)
nodes_after {s} {t} {j} {w} rank w' host is changes here r below = by_owner (rank == r) refl
  where
    by_owner : (b : Bool) → (rank == r) ≡ b → IsNode s r (if b then host else j.hosts r) (node_at s r w') (w'.took r) (w'.left r) (packets s w'.moments)
    by_owner true e = subst (λ k. IsNode s k host (node_at s k w') (w'.took k) (w'.left k) (packets s w'.moments)) (eqb-true rank r e) here
    by_owner false e =
        subst (λ n. IsNode s r (j.hosts r) n (w'.took r) (w'.left r) (packets s w'.moments)) (sym (changes.node r e))
        (subst (λ x. IsNode s r (j.hosts r) (node_at s r w) x (w'.left r) (packets s w'.moments)) (sym (changes.took r e))
        (subst (λ l. IsNode s r (j.hosts r) (node_at s r w) (w.took r) l (packets s w'.moments)) (sym (changes.left r e))
        (node_grows (packets s w'.moments) changes.grows (is.nodes r below))))

-- what is known of the packets that were sent
abbrev pub Knows : List (ℕ × List ℕ) → List Sent → Type 0
Knows sent all = (to : ℕ) (bytes : List ℕ) (p : Packet) → Contains sent (to, bytes) → packet_of bytes ≡ Some p → counts (Some p) ≡ true → WasSentTo to all p

pub knows_grows : (sent : List (ℕ × List ℕ)) (all all' : List Sent) → Grows all all' → Knows sent all → Knows sent all'
knows_grows sent all all' grows knows to bytes p there spelled c = grows to p (knows to bytes p there spelled c)

-- one host of a joint, and its node, moved on
pub one_moves : {s : Settings} {t : Timing} {j : Joint} {w : World} (rank : ℕ) (w' : World) (host : Host) (image : ℕ → List ℕ) (sent : List (ℕ × List ℕ))
    → IsWorld s t j w
    → rank < length s.nodes
    → Changes s rank w w'
    → IsNode s rank host (node_at s rank w') (w'.took rank) (w'.left rank) (packets s w'.moments)
    → host.fed ≤ j.time
    → IsImage s t image w'
    → Knows sent (packets s w'.moments)
    → IsWorld s t (record j { hosts = put j.hosts rank host; image = image; sent = sent }) w'
one_moves {s} {t} {j} {w} rank w' host image sent is below changes here fed spells knows =
    record {
      time = changes.time ∙ is.time;
      nodes = nodes_after rank w' host is changes here;
      off = λ r out. by_off r out (rank == r) refl;
      fed = λ r. by_fed r (rank == r);
      bare = λ r out. by_bare r out (rank == r) refl;
      image = spells;
      sent = knows;
    }
  where
    by_off : (r : ℕ) → length s.nodes ≤ r → (b : Bool) → (rank == r) ≡ b → (if b then host else j.hosts r).on ≡ false
    by_off r out true e = absurd (let same = eqb-true rank r e in omega arith)
    by_off r out false e = is.off r out

    by_bare : (r : ℕ) → length s.nodes ≤ r → (b : Bool) → (rank == r) ≡ b → (if b then host else j.hosts r).left ≡ []
    by_bare r out true e = absurd (let same = eqb-true rank r e in omega arith)
    by_bare r out false e = is.bare r out

    by_fed : (r : ℕ) → (b : Bool) → (if b then host else j.hosts r).fed ≤ j.time
    by_fed r true = fed
    by_fed r false = is.fed r
