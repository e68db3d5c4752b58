-- A disk call that lands, and a write of an operator, as events of the world of a joint.
use Rattle.std.proofs.Common.{◌≡◌, ◌<◌, ℕ, Bool, true, false, not, ◌&&◌, ◌||◌, List, [], ◌∷◌, ◌++◌, Option, None, Some, if◌then◌else◌, refl, sym, ap, subst, ◌∙◌, is_some}
use Rattle.std.specs.Prelude.{◌^◌, IfSome, length}
use Rattle.std.specs.Option.{option_or, option_map_or}
use Rattle.std.proofs.lemmas.Option.{same_Some}
use Rattle.qn_model.specs.declared.configuration.Settings.{Settings}
use Rattle.qn_model.specs.declared.disk.Message.{Message}
use Rattle.qn_model.specs.declared.mailbox.Mail.{Mail}
use Rattle.qn_model.specs.declared.times.Timing.{Timing}
use Rattle.qn_model.specs.declared.entries.What.{What}
use Rattle.qn_model.specs.declared.events.Event.{Event}
use Rattle.qn_model.specs.declared.events.Event.TheVariants as event
use Rattle.qn_model.specs.declared.outputs.DiskOp.{DiskOp}
use Rattle.qn_model.specs.declared.outputs.Out.TheVariants as out
use Rattle.qn_model.specs.declared.packets.Sent.{Sent}
use Rattle.qn_model.specs.lemmas.Moments.{put_same, put_other}
use Rattle.qn_model.specs.Log.{op_out}
use Rattle.qn_model.specs.Moments.{Itself, Later, Running, is_gone, packets}
use Rattle.qn_model.specs.Phases.{phase}
use Rattle.qn_model.specs.Rules.{is_on, may_land, may_operate, refusal, unless}
use Rattle.qn_model.specs.Sectors.{IsSender, anonymous, is_deadly, mail_bytes, mail_place}
use Rattle.qn_model.specs.Steps.{landed, run, step}
use Rattle.qn_model.specs.Wanted.{rank_of}
use Rattle.qn_model.specs.World.{World, given_up, node_at, op_at, taken}
use Rattle.qn_sector.specs.Reading.{mail_of}
use Rattle.qn_live.specs.Greetings.{sends_plan}
use Rattle.qn_live.specs.Performing.{disk_call, done, out_call, outs_plan, own_number}
use Rattle.qn_joined.specs.Joints as joints
use Rattle.qn_joined.specs.Joints.{FitsImage, Host, Joint, MayHappen, happens, is_deadly_mail, is_disk, is_timed, landed_image, takes, waits_for, with_host}
use Rattle.qn_safety.specs.NodeLogs.{IsNodeLog, LogsHold}
use Rattle.qn_joined.specs.Nodes.{at}
use Rattle.qn_safety.specs.AnyNumbers.{AllMay}
use Rattle.qn_joined.specs.Stands.{Spot, Receiving, Looking, Acting, Polling, Saying, Parting, Ended, left_plan, log_at}
use Rattle.qn_joined.specs.Theorem.{TakesAlike}
use Rattle.qn_joined.specs.Moves as moves
use Rattle.qn_joined.specs.Moves.{HasStepped}
use Rattle.qn_joined.specs.WorldOf.{AreAmong, IsNode, IsWorld, Performs, TookAlike, disk_ahead}
use Rattle.qn_joined.proofs.Calls.{timed_on}
use Rattle.qn_joined.proofs.Frames.{one_moves}
use Rattle.qn_joined.proofs.Images.{image_lands, mail_put, takes_done}
use Rattle.qn_joined.proofs.Passing.{asked_of}

-- the operation of a host whose disk call waits
pub record DiskWaits (s : Settings) (rank : ℕ) (host : Host) (n : Running) (took : Option What) (left : List DiskOp) (all : List Sent) : Type 0 where
  pub number : ℕ
  pub op : DiskOp
  pub waits : waits_for s rank host ≡ Some (disk_call s rank number op)
  pub small : n.on ≡ true → IsNodeLog s n.log → number < 2 ^ 64
  pub lives : n.on ≡ true
  pub ahead : disk_ahead host.stand.spot ≡ Some op
  pub out : op_out n.log ≡ Some op
  pub alike : TookAlike s op host.took took
  pub lands : (bytes : List ℕ) (answer : What) → answer ≡ done s op bytes → IsNode s rank (record host { took = Some bytes }) n (Some answer) left all

module _ {s : Settings} {rank : ℕ} (host : Host) (n : Running) (took : Option What) (left : List DiskOp) (all : List Sent) where
  pub disk_waits : (spot : Spot) → IsNode s rank (at host spot) n took left all → host.on ≡ true → option_map_or is_disk (waits_for s rank (at host spot)) false ≡ true
      → DiskWaits s rank (at host spot) n took left all
  unfolding left_plan outs_plan sends_plan out_call
  disk_waits (Receiving st) is on disk = absurd cc
  disk_waits (Looking chosen) is on disk = absurd cc
  disk_waits (Polling poll sents st) is on disk = absurd cc
  disk_waits (Saying said rest st) is on disk = absurd cc
  disk_waits (Parting end said rest st) is on disk = absurd cc
  disk_waits (Ended ran) is on disk = absurd cc
  disk_waits (Acting entry outs out.Stop rest st) is on disk = absurd cc
  disk_waits (Acting entry outs out.Start rest st) is on disk = absurd cc
  disk_waits (Acting entry outs out.Feed rest st) is on disk = absurd cc
  disk_waits (Acting entry outs (out.Send to p) rest st) is on disk = absurd cc
  disk_waits (Acting entry outs out.Disarm rest st) is on disk = absurd cc
  disk_waits (Acting entry outs (out.Halt kind) rest st) is on disk = absurd cc
  disk_waits (Acting entry outs (out.Disk op) rest st) is on disk = record {
    number = own_number st.log;
    op = op;
    waits = refl;
    small = λ alive logs. subst (λ l. own_number l < 2 ^ 64) (is.log alive) logs.number;
    lives = lives;
    ahead = refl;
    out = out_is;
    alike = (performs.disk op refl).1;
    lands = λ bytes answer same. record {
      on = is.on;
      log = is.log;
      clock = is.clock;
      tick = is.tick;
      fed = is.fed;
      decided = is.decided;
      silent = λ alive none. absurd (let both = sym out_is ∙ none in cc);
      backed = λ alive. (
        record { stopped = (is.backed lives).0.stopped; disk = λ a e. absurd (let none = (performs.disk op refl).0 in let both = sym none ∙ e in cc) },
        record { come = performs.come; last = performs.last; disk = λ other e. ((performs.disk op refl).0, ap Some (same ∙ ap (λ o. done s o bytes) (same_Some _ _ e))) },
      );
      idle = λ is_on none. absurd cc;
      among = subst (λ l. AreAmong s rank host.left (left ++ l)) (still took ∙ sym (still (Some answer))) is.among;
      fresh = λ is_on unasked. absurd (let a = asked_of is lives in let both = sym a ∙ unasked in cc);
      ending = is.ending;
      greets = is.greets;
      rests = is.rests;
    };
  }
    where
      asked : (b : Bool) → host.asked ≡ b → host.asked ≡ true
      asked true e = e
      asked false e = absurd (let same = ap (λ x. disk_ahead x.spot) (is.fresh on e).stand in cc)

      by_gone : (b : Bool) → is_gone (phase s st.log) ≡ b → n.on ≡ true
      by_gone true e = absurd (let none = (is.ending on e).2 in cc)
      by_gone false e = is.on ∙ timed_on host.on host.asked (is_gone (phase s st.log)) on (asked host.asked refl) e

      lives : n.on ≡ true
      lives = by_gone (is_gone (phase s st.log)) refl

      performs : Performs s host.took took all st (out.Disk op ∷ rest)
      performs = (is.backed lives).1

      out_is : op_out n.log ≡ Some op
      out_is = ap op_out (is.log lives) ∙ performs.come.0

      still : (x : Option What) → (if n.on && false then given_up (op_out n.log) x else []) ≡ []
      still x = ap (λ b. if b && false then given_up (op_out n.log) x else []) lives

pub lands_in_world : (s : Settings) (t : Timing) (events : List Event) (j : Joint) (rank : ℕ)
    → TakesAlike s t → LogsHold s t → rank < length s.nodes
    → AllMay s t events → IsWorld s t j (run s t events) → FitsImage s t → MayHappen s t (joints.Lands rank) j → HasStepped s t (moves.Hands rank None) events (happens s (joints.Lands rank) j)
unfolding AllMay run step refusal happens
lands_in_world s t events j rank alike logs below may is fits happen =
    subst (λ o. HasStepped s t (moves.Hands rank None) events (option_map_or
    (λ waiting. record (with_host rank (record (j.hosts rank) { took = Some (takes waiting j.image) }) j) { image = landed_image waiting j.image }) o j)) (sym d.waits)
    (record {
      events' = event.Land (rank_of rank) ∷ events;
      grew = Later _ Itself;
      one = record { event = Some (event.Land (rank_of rank)); is = moves.Plainly refl; grew = refl };
      may = (
        refl,
        ap (λ b. option_or (unless b 3) (unless (may_land s rank w) 4)) d.lives
            ∙ ap (λ o. unless (is_some o && not (is_some (w.took rank))) 4) d.out
            ∙ ap (λ k. unless (true && not (is_some k)) 4) took_none,
        may,
      );
      world = subst (λ x. IsWorld s t after x) (sym steps)
          (one_moves rank (landed s t rank d.op w) (record (j.hosts rank) { took = Some bytes }) (landed_image (disk_call s rank d.number d.op) j.image) j.sent is below
          (record { time = refl; grows = λ r p h. h; node = λ r apart. refl; took = λ r apart. put_other w.took rank r (Some (taken s t rank d.op w)) apart; left = λ r apart. refl })
          (subst (λ x. IsNode s rank (record (j.hosts rank) { took = Some bytes }) n x (w.left rank) (packets s w.moments)) (sym (put_same w.took rank (Some (taken s t rank d.op w))))
          (d.lands bytes (taken s t rank d.op w) (sym (takes_done s rank d.number d.op j.image ∙ alike j.image w rank d.op fits is.image below (known.fits d.op d.out)))))
          (is.fed rank)
          (image_lands is.image fits (landed s t rank d.op w) rank d.number d.op below (d.small d.lives known) (known.fits d.op d.out) refl refl)
          is.sent);
    })
  where
    w : World
    w = run s t events

    n : Running
    n = node_at s rank w

    d : DiskWaits s rank (j.hosts rank) n (w.took rank) (w.left rank) (packets s w.moments)
    d = disk_waits (j.hosts rank) n (w.took rank) (w.left rank) (packets s w.moments) (j.hosts rank).stand.spot (is.nodes rank below) happen.0 happen.1

    known : IsNodeLog s n.log
    known = logs events rank may below

    bytes : List ℕ
    bytes = takes (disk_call s rank d.number d.op) j.image

    after : Joint
    after = record (with_host rank (record (j.hosts rank) { took = Some bytes }) j) { image = landed_image (disk_call s rank d.number d.op) j.image }

    took_none : w.took rank ≡ None
    took_none = subst (λ k. TookAlike s d.op k (w.took rank)) happen.2 d.alike

    steps : option_map_or (λ op. landed s t rank op w) (op_at s rank w) w ≡ landed s t rank d.op w
    steps = ap (λ o. option_map_or (λ op. landed s t rank op w) o w) d.out

pub may_by : (deadly there there' on on' : Bool) → there ≡ there' → (on ≡ false → on' ≡ false) → (deadly || not there || not on) ≡ true → (deadly || not there' || not on') ≡ true
may_by deadly there there' on on' same off is = subst (λ b. (deadly || not b || not on') ≡ true) same (by_on deadly there on off is)
  where
    by_on : (deadly there on : Bool) → (on ≡ false → on' ≡ false) → (deadly || not there || not on) ≡ true → (deadly || not there || not on') ≡ true
    by_on true there on off is = refl
    by_on false false on off is = refl
    by_on false true false off is = ap not (off refl)
    by_on false true true off is = absurd cc

pub operates_in_world : (s : Settings) (t : Timing) (events : List Event) (j : Joint) (rank : ℕ) (sent : Message)
    → ((m : Mail) → IfSome m.by IsSender → mail_of (mail_bytes m) ≡ Some m)
    → AllMay s t events → IsWorld s t j (run s t events) → FitsImage s t → MayHappen s t (joints.Operates rank sent) j → HasStepped s t (moves.Hands rank None) events (happens s (joints.Operates rank sent) j)
unfolding AllMay run step refusal happens
operates_in_world s t events j rank sent back may is fits happen =
    record {
      events' = event.Operator (rank_of rank) sent ∷ events;
      grew = Later _ Itself;
      one = record { event = Some (event.Operator (rank_of rank) sent); is = moves.Plainly refl; grew = refl };
      may = (refl, ap (λ b. unless b 10) allowed, may);
      world = record {
        time = is.time;
        nodes = is.nodes;
        off = is.off;
        fed = is.fed;
        bare = is.bare;
        image = mail_put is.image fits _ rank (anonymous sent) happen.0 tt refl refl;
        sent = is.sent;
      };
    }
  where
    w : World
    w = run s t events

    deadly_same : is_deadly_mail (j.image (mail_place rank)) ≡ is_deadly (w.mailboxes rank)
    deadly_same =
        let found = is.image.mails rank happen.0 in
        ap (λ x. option_map_or (λ (m : Mail). is_deadly m.message) x false)
        (ap mail_of found.2 ∙ back (record { message = w.mailboxes rank; by = found.0 }) found.1)

    off_same : (j.hosts rank).on ≡ false → is_on s rank w ≡ false
    off_same off =
        (is.nodes rank happen.0).on
        ∙ ap (λ b. b && (j.hosts rank).asked && not (is_gone (phase s (log_at (j.hosts rank).stand.spot)))) off

    allowed : may_operate s rank sent w ≡ true
    allowed =
        may_by (is_deadly sent) (is_deadly_mail (j.image (mail_place rank))) (is_deadly (w.mailboxes rank)) (j.hosts rank).on (is_on s rank w) deadly_same off_same happen.1
