-- A write that was given up and lands after all, as an event of the world of a joint.
use Rattle.std.proofs.Common.{◌≡◌, ◌<◌, ◌≤◌, ℕ, zero, suc, Bool, true, false, not, ◌&&◌, List, [], ◌∷◌, ◌++◌, Option, None, Some, if◌then◌else◌, refl, sym, ap, subst, ◌∙◌, is_some, ◌⊎◌, inl, inr}
use Rattle.std.specs.Prelude.{◌^◌, is_none, length, slice_get}
use Rattle.std.specs.Option.{option_or, option_map_or}
use Rattle.std.proofs.lemmas.Bool.{cases_lt}
use Rattle.std.proofs.lemmas.List.{append-nil}
use Rattle.qn_base.specs.declared.calls.Call.{Call}
use Rattle.qn_model.specs.declared.configuration.Settings.{Settings}
use Rattle.qn_model.specs.declared.times.Timing.{Timing}
use Rattle.qn_model.specs.declared.entries.What.{What}
use Rattle.qn_model.specs.declared.entries.What.TheVariants as what
use Rattle.qn_model.specs.declared.events.Event.{Event}
use Rattle.qn_model.specs.declared.events.Event.TheVariants as event
use Rattle.qn_model.specs.declared.outputs.DiskOp.{DiskOp}
use Rattle.qn_model.specs.declared.packets.Sent.{Sent}
use Rattle.qn_model.specs.lemmas.Moments.{put_same, put_other}
use Rattle.qn_model.specs.Log.{Line, op_out}
use Rattle.qn_model.specs.Moments.{Itself, Later, Running, packets}
use Rattle.qn_model.specs.Rules.{may_land, refusal, unless}
use Rattle.qn_model.specs.Steps.{landed, lands_late, run, step}
use Rattle.qn_model.specs.Wanted.{rank_of}
use Rattle.qn_model.specs.World.{World, failed, given_up, is_write, node_at, numbered, mailboxes_with, slots_with, taken, without}
use Rattle.qn_live.specs.declared.place.Choice.{Choice}
use Rattle.qn_live.specs.declared.place.Choice.TheVariants as choice
use Rattle.qn_live.specs.Performing.{disk_call}
use Rattle.qn_live.specs.Running.{RunState}
use Rattle.qn_joined.specs.Joints as joints
use Rattle.qn_joined.specs.Joints.{FitsImage, Host, Joint, MayHappen, happens, landed_image, with_host}
use Rattle.qn_safety.specs.AnyNumbers.{AllMay}
use Rattle.qn_joined.specs.Stands.{Spot, Receiving, Looking, Acting, Polling, Saying, Parting, Ended}
use Rattle.qn_joined.specs.Moves as moves
use Rattle.qn_joined.specs.Moves.{HasStepped}
use Rattle.qn_joined.specs.WorldOf.{AreAmong, NoCall, Skips, Made, ComesAs, ComesIn, IsAnswer, IsBacked, IsImage, IsNode, IsWorld, Waiting, disk_ahead, still_out}
use Rattle.qn_safety.specs.NodeLogs.{IsOperation}
use Rattle.qn_joined.proofs.Frames.{one_moves}
use Rattle.qn_joined.proofs.Images.{image_lands}
use Rattle.qn_joined.proofs.Moving.{among_more}

-- the operation of a leftover
pub record LateOp (s : Settings) (rank : ℕ) (calls : List Call) (ops : List DiskOp) (place : ℕ) (write : Call) : Type 0 where
  pub at : ℕ
  pub number : ℕ
  pub op : DiskOp
  pub there : slice_get ops at ≡ Some op
  pub call : write ≡ disk_call s rank number op
  pub small : number < 2 ^ 64
  pub fits : IsOperation s op
  pub among : AreAmong s rank (without calls (suc place)) (without ops (suc at))

pub late_op : {s : Settings} {rank : ℕ} {calls : List Call} {ops : List DiskOp} (place : ℕ) (write : Call) → AreAmong s rank calls ops → slice_get calls place ≡ Some write
    → LateOp s rank calls ops place write
late_op place write NoCall is = absurd cc
late_op place write (Skips op rest) is =
    let late = late_op place write rest is in
    record { at = suc late.at; number = late.number; op = late.op; there = late.there; call = late.call; small = late.small; fits = late.fits; among = Skips op late.among }
late_op zero write (Made number op small fits rest) is =
    record { at = 0; number = number; op = op; there = refl; call = cc; small = small; fits = fits; among = rest }
late_op (suc place) write (Made number op small fits rest) is =
    let late = late_op place write rest is in
    record { at = suc late.at; number = late.number; op = late.op; there = late.there; call = late.call; small = late.small; fits = late.fits; among = Made number op small fits late.among }

-- where an item of two lists stands
abbrev Parted : List DiskOp → List DiskOp → ℕ → DiskOp → Type 0
Parted xs ys at op =
    ((slice_get xs at ≡ Some op) × (without (xs ++ ys) (suc at) ≡ without xs (suc at) ++ ys))
    ⊎ ((m : ℕ) × (slice_get ys m ≡ Some op) × (without (xs ++ ys) (suc at) ≡ xs ++ without ys (suc m)))

parted : (xs ys : List DiskOp) (at : ℕ) (op : DiskOp) → slice_get (xs ++ ys) at ≡ Some op → Parted xs ys at op
parted [] ys at op is = inr (at, is, refl)
parted (x ∷ xs) ys zero op is = inl (is, refl)
parted (x ∷ xs) ys (suc at) op is = by_rest (parted xs ys at op is)
  where
    by_rest : Parted xs ys at op → Parted (x ∷ xs) ys (suc at) op
    by_rest (inl two) = inl (two.0, ap (λ l. x ∷ l) two.1)
    by_rest (inr three) = inr (three.0, three.1, ap (λ l. x ∷ l) three.2)

-- an operation that is out and failed for its node may land, and nothing that is backed changes
answer_stays : (log : List Line) (took' : Option What) (answer : What) → IsAnswer log None answer → IsAnswer log took' answer
answer_stays log took' answer is = record { answers = is.answers; op = is.op; out = is.out; source = by_source is.source }
  where
    by_source : (answer ≡ failed is.op) ⊎ (None ≡ Some answer) → (answer ≡ failed is.op) ⊎ (took' ≡ Some answer)
    by_source (inl same) = inl same
    by_source (inr none) = absurd cc

waiting_stays : (st : RunState) (took' : Option What) → Waiting st None → Waiting st took'
waiting_stays st took' is = record { stopped = is.stopped; disk = λ answer e. answer_stays st.log took' answer (is.disk answer e) }

comes_in_stays : (rank : ℕ) (log : List Line) (took' : Option What) (all : List Sent) (entry : What) → ComesIn rank log None all entry → ComesIn rank log took' all entry
comes_in_stays rank log took' all what.Begin is = is
comes_in_stays rank log took' all what.BeginClean is = is
comes_in_stays rank log took' all (what.Header seen) is = answer_stays log took' (what.Header seen) is
comes_in_stays rank log took' all (what.SlotRead other seen) is = answer_stays log took' (what.SlotRead other seen) is
comes_in_stays rank log took' all (what.MailChecked seen) is = answer_stays log took' (what.MailChecked seen) is
comes_in_stays rank log took' all (what.Claimed ok) is = answer_stays log took' (what.Claimed ok) is
comes_in_stays rank log took' all (what.Cleared ok) is = answer_stays log took' (what.Cleared ok) is
comes_in_stays rank log took' all (what.MailRead seen) is = answer_stays log took' (what.MailRead seen) is
comes_in_stays rank log took' all (what.MailWritten other ok) is = answer_stays log took' (what.MailWritten other ok) is
comes_in_stays rank log took' all (what.Closed ok) is = answer_stays log took' (what.Closed ok) is
comes_in_stays rank log took' all (what.Ask ask) is = is
comes_in_stays rank log took' all (what.Tell tell) is = is
comes_in_stays rank log took' all (what.Stopped ok) is = is
comes_in_stays rank log took' all (what.View view) is = is
comes_in_stays rank log took' all (what.Device agrees) is = is
comes_in_stays rank log took' all what.Tick is = is
comes_in_stays rank log took' all what.Leave is = is

comes_as_stays : (rank : ℕ) (log : List Line) (took' : Option What) (all : List Sent) (chosen : Choice) → ComesAs rank log None all chosen → ComesAs rank log took' all chosen
comes_as_stays rank log took' all (choice.Whole entry) is = comes_in_stays rank log took' all entry is
comes_as_stays rank log took' all (choice.Open p) is = is
comes_as_stays rank log took' all (choice.Answer reply) is = is

backed_stays : (s : Settings) (rank : ℕ) (took_call : Option (List ℕ)) (took' : Option What) (all : List Sent) (spot : Spot) → disk_ahead spot ≡ None
    → IsBacked s rank took_call None all spot → IsBacked s rank took_call took' all spot
backed_stays s rank took_call took' all (Receiving st) none is = (waiting_stays st took' is.0, is.1)
backed_stays s rank took_call took' all (Looking chosen) none is =
    (waiting_stays chosen.1 took' is.0, is.1, comes_as_stays rank chosen.1.log took' all chosen.0 is.2, is.3)
backed_stays s rank took_call took' all (Acting entry outs o rest st) none is =
    (waiting_stays st took' is.0, record { come = is.1.come; last = is.1.last; disk = λ op e. absurd (let both = sym none ∙ e in cc) })
backed_stays s rank took_call took' all (Polling poll sents st) none is = waiting_stays st took' is
backed_stays s rank took_call took' all (Saying said rest st) none is = waiting_stays st took' is
backed_stays s rank took_call took' all (Parting end said rest st) none is = is
backed_stays s rank took_call took' all (Ended ran) none is = is

-- what is still out is the one operation of its node
pub record StillOut (n : Running) (took : Option What) (ahead : Option DiskOp) (m : ℕ) (op : DiskOp) : Type 0 where
  pub lives : n.on ≡ true
  pub none : ahead ≡ None
  pub out : op_out n.log ≡ Some op
  pub took_none : took ≡ None
  pub only : without (if n.on && is_none ahead then given_up (op_out n.log) took else []) (suc m) ≡ []

still_one : (n : Running) (took : Option What) (ahead : Option DiskOp) (m : ℕ) (op : DiskOp) (on : Bool) (a : Option DiskOp) (o : Option DiskOp) (k : Option What)
    → n.on ≡ on → ahead ≡ a → op_out n.log ≡ o → took ≡ k
    → slice_get (if on && is_none a then given_up o k else []) m ≡ Some op
    → StillOut n took ahead m op
still_one n took ahead m op false a o k e1 e2 e3 e4 is = absurd cc
still_one n took ahead m op true (Some other) o k e1 e2 e3 e4 is = absurd cc
still_one n took ahead m op true None None k e1 e2 e3 e4 is = absurd cc
still_one n took ahead m op true None (Some out) (Some entry) e1 e2 e3 e4 is = absurd cc
still_one n took ahead m op true None (Some out) None e1 e2 e3 e4 is = by_write (is_write out) refl is
  where
    by_write : (b : Bool) → is_write out ≡ b → slice_get (if b then out ∷ [] else []) m ≡ Some op → StillOut n took ahead m op
    by_write false w is = absurd cc
    by_write true w is = by_place m refl
      where
        by_place : (k : ℕ) → m ≡ k → StillOut n took ahead m op
        by_place zero at = record {
          lives = e1;
          none = e2;
          out = e3 ∙ subst (λ x. slice_get (out ∷ []) x ≡ Some op) at is;
          took_none = e4;
          only =
              ap (λ x. without (if n.on && is_none ahead then given_up (op_out n.log) took else []) (suc x)) at
              ∙ ap (λ b. without (if b && is_none ahead then given_up (op_out n.log) took else []) 1) e1
              ∙ ap (λ x. without (if is_none x then given_up (op_out n.log) took else []) 1) e2
              ∙ ap (λ x. without (given_up x took) 1) e3
              ∙ ap (λ x. without (given_up (Some out) x) 1) e4
              ∙ ap (λ b. without (if b then out ∷ [] else []) 1) w;
        }
        by_place (suc more) at = absurd (let gone = subst (λ x. slice_get (out ∷ []) x ≡ Some op) at is in cc)

-- leftovers of a host changed, and those of its node
left_node : {s : Settings} {rank : ℕ} {host : Host} {n : Running} {took : Option What} {left : List DiskOp} {all : List Sent} (calls : List Call) (left' : List DiskOp)
    → IsNode s rank host n took left all
    → (host.left ≡ [] → ⊥)
    → AreAmong s rank calls (left' ++ still_out n host.stand.spot took)
    → IsNode s rank (record host { left = calls }) n took left' all
left_node calls left' is some among =
    record {
      on = is.on;
      log = is.log;
      clock = is.clock;
      tick = is.tick;
      fed = is.fed;
      decided = is.decided;
      silent = is.silent;
      backed = is.backed;
      idle = is.idle;
      among = among;
      ending = is.ending;
      greets = is.greets;
      rests = is.rests;
      fresh = λ on unasked. absurd (some (is.fresh on unasked).left);
    }

-- the operation that was still out landed
still_node : {s : Settings} {rank : ℕ} {host : Host} {n : Running} {took : Option What} {left : List DiskOp} {all : List Sent} (calls : List Call) (op : DiskOp) (answer : What)
    → IsNode s rank host n took left all
    → (host.left ≡ [] → ⊥)
    → disk_ahead host.stand.spot ≡ None
    → op_out n.log ≡ Some op
    → took ≡ None
    → AreAmong s rank calls left
    → IsNode s rank (record host { left = calls }) n (Some answer) left all
still_node {s} {rank} {host} {n} {took} {left} {all} calls op answer is some none out took_none among =
    record {
      on = is.on;
      log = is.log;
      clock = is.clock;
      tick = is.tick;
      fed = is.fed;
      decided = is.decided;
      silent = λ on no. absurd (let both = sym out ∙ no in cc);
      backed = λ on. backed_stays s rank host.took (Some answer) all host.stand.spot none (subst (λ k. IsBacked s rank host.took k all host.stand.spot) took_none (is.backed on));
      idle = is.idle;
      among = among_more (still_out n host.stand.spot (Some answer)) among;
      ending = is.ending;
      greets = is.greets;
      rests = is.rests;
      fresh = λ on unasked. absurd (some (is.fresh on unasked).left);
    }

module _ (s : Settings) (t : Timing) (events : List Event) (j : Joint) (rank : ℕ) (below : rank < length s.nodes) (may : AllMay s t events) (is : IsWorld s t j (run s t events)) (fits : FitsImage s t) where
  abbrev w : World
  w = run s t events

  abbrev host : Host
  host = j.hosts rank

  abbrev n : Running
  n = node_at s rank w

  abbrev ahead : Option DiskOp
  ahead = disk_ahead host.stand.spot

  abbrev after : ℕ → Call → Joint
  after number write = record (with_host rank (record host { left = without host.left number }) j) { image = landed_image write j.image }

  late_here : (place : ℕ) (write : Call) → slice_get host.left place ≡ Some write → HasStepped s t (moves.Hands rank None) events (after (suc place) write)
  unfolding AllMay run step refusal
  late_here place write there = by_place (parted (w.left rank) (still_out n host.stand.spot (w.took rank)) d.at d.op d.there)
    where
      d : LateOp s rank host.left (w.left rank ++ still_out n host.stand.spot (w.took rank)) place write
      d = late_op place write (is.nodes rank below).among there

      some : host.left ≡ [] → ⊥
      some none = let both = sym (ap (λ l. slice_get l place) none) ∙ there in cc

      spells : (w' : World) → w'.slots ≡ slots_with rank d.op w.slots → w'.mailboxes ≡ mailboxes_with rank d.op w.mailboxes → IsImage s t (landed_image write j.image) w'
      spells w' slots mails =
          subst (λ c. IsImage s t (landed_image c j.image) w') (sym d.call) (image_lands is.image fits w' rank d.number d.op below d.small d.fits slots mails)

      by_place : Parted (w.left rank) (still_out n host.stand.spot (w.took rank)) d.at d.op → HasStepped s t (moves.Hands rank None) events (after (suc place) write)
      by_place (inl two) = record {
        events' = event.Late (rank_of rank) (suc d.at) ∷ events;
        grew = Later _ Itself;
        one = record { event = Some (event.Late (rank_of rank) (suc d.at)); is = moves.Plainly refl; grew = refl };
        may = (refl, ap (λ o. unless (is_some o) 6) two.0, may);
        world =
            subst (λ x. IsWorld s t (after (suc place) write) x) (sym (ap (λ o. option_map_or (λ op. lands_late rank (suc d.at) op w) o w) two.0))
            (one_moves rank (lands_late rank (suc d.at) d.op w) (record host { left = without host.left (suc place) }) (landed_image write j.image) j.sent is below
            (record { time = refl; grows = λ r p h. h; node = λ r apart. refl; took = λ r apart. refl; left = λ r apart. put_other w.left rank r (without (w.left rank) (suc d.at)) apart })
            (subst (λ l. IsNode s rank (record host { left = without host.left (suc place) }) n (w.took rank) l (packets s w.moments)) (sym (put_same w.left rank (without (w.left rank) (suc d.at))))
            (left_node (without host.left (suc place)) (without (w.left rank) (suc d.at)) (is.nodes rank below) some
            (subst (λ l. AreAmong s rank (without host.left (suc place)) l) two.1 d.among)))
            (is.fed rank)
            (spells (lands_late rank (suc d.at) d.op w) refl refl)
            is.sent);
      }
      by_place (inr three) =
          let still = still_one n (w.took rank) ahead three.0 d.op n.on ahead (op_out n.log) (w.took rank) refl refl refl refl three.1 in
          record {
            events' = event.Land (rank_of rank) ∷ events;
            grew = Later _ Itself;
            one = record { event = Some (event.Land (rank_of rank)); is = moves.Plainly refl; grew = refl };
            may = (
              refl,
              ap (λ b. option_or (unless b 3) (unless (may_land s rank w) 4)) still.lives
                  ∙ ap (λ o. unless (is_some o && not (is_some (w.took rank))) 4) still.out
                  ∙ ap (λ k. unless (true && not (is_some k)) 4) still.took_none,
              may,
            );
            world =
                subst (λ x. IsWorld s t (after (suc place) write) x) (sym (ap (λ o. option_map_or (λ op. landed s t rank op w) o w) still.out))
                (one_moves rank (landed s t rank d.op w) (record host { left = without host.left (suc place) }) (landed_image write j.image) j.sent is below
                (record { time = refl; grows = λ r p h. h; node = λ r apart. refl; took = λ r apart. put_other w.took rank r (Some (taken s t rank d.op w)) apart; left = λ r apart. refl })
                (subst (λ x. IsNode s rank (record host { left = without host.left (suc place) }) n x (w.left rank) (packets s w.moments)) (sym (put_same w.took rank (Some (taken s t rank d.op w))))
                (still_node (without host.left (suc place)) d.op (taken s t rank d.op w) (is.nodes rank below) some still.none still.out still.took_none
                (subst (λ l. AreAmong s rank (without host.left (suc place)) l) (three.2 ∙ ap (λ l. w.left rank ++ l) still.only ∙ append-nil (w.left rank)) d.among)))
                (is.fed rank)
                (spells (landed s t rank d.op w) refl refl)
                is.sent);
          }

  late_by : (number : ℕ) → is_some (numbered host.left number) ≡ true
      → HasStepped s t (moves.Hands rank None) events (option_map_or (λ write. after number write) (numbered host.left number) j)
  late_by zero some = absurd cc
  late_by (suc place) some = by_found (slice_get host.left place) refl some (late_here place)
    where
      by_found : (found : Option Call) → slice_get host.left place ≡ found → is_some found ≡ true
          → ((write : Call) → slice_get host.left place ≡ Some write → HasStepped s t (moves.Hands rank None) events (after (suc place) write))
          → HasStepped s t (moves.Hands rank None) events (option_map_or (λ write. after (suc place) write) found j)
      by_found None e some here = absurd cc
      by_found (Some write) e some here = here write e

pub late_in_world : (s : Settings) (t : Timing) (events : List Event) (j : Joint) (rank number : ℕ)
    → AllMay s t events → IsWorld s t j (run s t events) → FitsImage s t → MayHappen s t (joints.LandsLate rank number) j → HasStepped s t (moves.Hands rank None) events (happens s (joints.LandsLate rank number) j)
unfolding happens
late_in_world s t events j rank number may is fits happen = by_order (cases_lt rank (length s.nodes))
  where
    by_order : (rank < length s.nodes) ⊎ (length s.nodes ≤ rank) → HasStepped s t (moves.Hands rank None) events (happens s (joints.LandsLate rank number) j)
    by_order (inl below) = late_by s t events j rank below may is fits number happen
    by_order (inr out) = absurd (none_numbered number (subst (λ l. is_some (numbered l number) ≡ true) (is.bare rank out) happen))
      where
        none_numbered : (k : ℕ) → is_some (numbered {A = Call} [] k) ≡ true → ⊥
        none_numbered zero e = cc
        none_numbered (suc k) e = cc
