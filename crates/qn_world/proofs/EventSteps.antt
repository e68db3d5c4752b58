-- What a world stands for after an event that hands no node an entry by itself.
use Rattle.std.proofs.Common.{◌≡◌, ◌≢◌, ℕ, ◌<◌, ◌≤◌, Bool, true, false, List, [], ◌++◌, length, Some, None, refl, if◌then◌else◌, ◌⊎◌, inl, inr, sym, ◌∙◌, ap, subst}
use Rattle.std.proofs.lemmas.Bool.{or_right, leb-true}
use Rattle.std.specs.Prelude.{Option, is_some, slice_get, slice_set, ◌==◌, nat_lt}
use Rattle.std.specs.Option.{option_map_or}
use Rattle.qn_base.specs.declared.ids.Rank.{Rank}
use Rattle.qn_base.specs.lemmas.Bools.{second_of_both}
use Rattle.qn_base.specs.lemmas.Lists.{longer_joined}
use Rattle.qn_base.specs.lemmas.Numbers.{equal_to_itself, same_or_not}
use Rattle.qn_cluster.specs.Nodes.{Nodes}
use Rattle.qn_cluster.specs.Events.{CanStep, KeepsOut, Starved, Stepped as NodesStepped, is_of_nodes}
use Rattle.qn_cluster.specs.Standing.{IsOpWithin, IsWithin}
use Rattle.qn_cluster.specs.Stepping.{Booted, Ended}
use Rattle.qn_model.specs.declared.configuration.Settings.{Settings}
use Rattle.qn_model.specs.declared.disk.Message.{Message}
use Rattle.qn_model.specs.declared.entries.What.{What}
use Rattle.qn_model.specs.declared.events.Event.{Event}
use Rattle.qn_model.specs.declared.events.Event.TheVariants as event
use Rattle.qn_model.specs.declared.outputs.DiskOp.{DiskOp}
use Rattle.qn_model.specs.declared.outputs.DiskOp.TheVariants as disk
use Rattle.qn_model.specs.declared.outputs.Out.{Out}
use Rattle.qn_model.specs.declared.packets.Sent.{Sent}
use Rattle.qn_model.specs.declared.times.Timing.{Timing}
use Rattle.qn_model.specs.Fitting.{answers_op}
use Rattle.qn_model.specs.Moments.{Adds, Boots, Ends, packets}
use Rattle.qn_model.specs.NodeOutputs.{newest_outs}
use Rattle.qn_model.specs.World.{World, given_up, leftover_at, node_at, numbered, op_at, put, taken, without}
use Rattle.qn_model.specs.Rules.{is_configured, is_on, is_well_formed, may_be_late, may_land, refusal}
use Rattle.qn_model.specs.Steps.{boots, entry_of, gives_up, happens, landed, lands_late, outs_after, step, touched, with_mail, written}
use Rattle.qn_model.specs.lemmas.Moments.{put_same}
use Rattle.qn_model.specs.lemmas.Rules.{allowed as passed, running_allowed}
use Rattle.qn_cluster.specs.EventLaws.{first_some, is_some_none, no_outputs, or_first, passed_both, wider}
use Rattle.qn_cluster.specs.WorldStepLaws.{framed, same_frames, turned}
use Rattle.qn_cluster.specs.WorldSteps.{IsReady, OutOfMemory, Stepped, Turns, boot_event}
use Rattle.qn_world.specs.Standing.{IsStanding, WorldFor, one_image}
use Rattle.qn_world.specs.Stepping.{LeavesOver}
use Rattle.qn_world.specs.Whole.{Whole, cluster_of, with_nodes}
use Rattle.qn_world.proofs.WorldSteps.{boots_others, ends_others, took_put, with_kept, with_none, with_took}

-- ---- leftovers

-- what is given up is that of the definitions
pub given_up_same : (s : Settings) (d : World) (i : ℕ) (op : Option DiskOp) (took : Option What) → op ≡ op_at s i d → took ≡ d.took i
    → given_up op took ≡ leftover_at s i d
given_up_same s d i op took op_is took_is = ap (λ op. given_up op took) op_is ∙ ap (λ took. given_up (op_at s i d) took) took_is

pub gave_up : (w left : Whole) (d : World) (i : ℕ) (op : Option DiskOp) (took : Option What) → WorldFor w d
    → op ≡ op_at w.settings i d → took ≡ d.took i → LeavesOver w left i (given_up op took)
    → WorldFor left (record d { left = put d.left i (d.left i ++ leftover_at w.settings i d) })
gave_up w left d i op took is op_is took_is leaves =
    subst (λ ops. WorldFor left (record d { left = put d.left i (d.left i ++ ops) })) (given_up_same w.settings d i op took op_is took_is) (leaves.stands d is)

-- what a world says of the operation of a rank that is out, and of what it took
pub record IsOut (w : Whole) (i : ℕ) (op : Option DiskOp) (took : Option What) : Type 0 where
  pub below : i < 32
  pub op_is : (d : World) → WorldFor w d → is_on w.settings i d ≡ true → op ≡ op_at w.settings i d
  pub took_is : (d : World) → WorldFor w d → took ≡ d.took i

pub took_same : (w : Whole) (i : ℕ) (took : Option What) → i < 32 → ((seen : Option What) → slice_get w.took i ≡ Some seen → took ≡ seen)
    → (d : World) → WorldFor w d → took ≡ d.took i
took_same w i took below reads d is = reads (d.took i) (is.landings i below)

-- ---- crash

crash_on : (w : Whole) (d : World) (rank : Rank) → refusal w.settings w.timing (event.Crash rank) d ≡ None → is_on w.settings rank.0 d ≡ true
unfolding refusal
crash_on w d rank e = running_allowed (is_on w.settings rank.0 d) None e

pub crash_stepped : (w left mid new : Whole) (rank : Rank) (op : Option DiskOp) (took : Option What) → IsOut w rank.0 op took
    → LeavesOver w left rank.0 (given_up op took)
    → mid ≡ record left { took = slice_set left.took rank.0 None }
    → new ≡ with_nodes mid (cluster_of new) → Ended (cluster_of mid) (cluster_of new) rank.0
    → Stepped one_image w new (event.Crash rank) []
unfolding step
crash_stepped w left mid new rank op took out leaves f g ends =
    let e = leaves.rest in
    let nodes : cluster_of mid ≡ cluster_of w = ap cluster_of f ∙ ap cluster_of e in
    let ended : Ended (cluster_of w) (cluster_of new) rank.0 = subst (λ c. Ended c (cluster_of new) rank.0) nodes ends in
    record {
      frame =
          same_frames one_image w mid new
          (record { settings = ap (λ c. c.settings) nodes; timing = ap (λ w. w.timing) f ∙ ap (λ w. w.timing) e; steps = ap (λ c. c.steps) nodes })
          (framed one_image mid new (ap (λ w. w.timing) g) ends.frame);
      stands = λ d is allowed.
          let on = crash_on w d rank allowed in
          let i = rank.0 in
          let d1 = record d { left = put d.left i (d.left i ++ leftover_at w.settings i d) } in
          with_none left new (cluster_of new) d1 (Ends i) i (gave_up w left d i op took is (out.op_is d is on) (out.took_is d is) leaves) out.below
          (ended.frame.settings ∙ sym (ap (λ w. w.settings) e)) (ended.stands d.moments is.cluster)
          (ends_others left.settings d.moments i) (g ∙ ap (λ m. with_nodes m (cluster_of new)) f);
      gives = λ d is allowed. refl;
      ranks = λ d is allowed. no_outputs w.settings;
    }

pub leaves_more : (d after : World) (rank : Rank) (ops : List DiskOp) → ops ≢ [] → after.left rank.0 ≡ d.left rank.0 ++ ops
    → nat_lt (length (d.left rank.0)) (length (after.left rank.0)) ≡ true
leaves_more d after rank ops some e = ap (λ left. nat_lt (length (d.left rank.0)) (length left)) e ∙ longer_joined (d.left rank.0) ops some

pub crash_starved : (w new : Whole) (rank : Rank) (op : Option DiskOp) (took : Option What) → IsOut w rank.0 op took → new ≡ w → given_up op took ≢ []
    → OutOfMemory one_image w new (event.Crash rank)
unfolding step
crash_starved w new rank op took out e some =
    record {
      same = e;
      cause = λ d is allowed.
          let on = crash_on w d rank allowed in
          or_right _ _ (leaves_more d (happens (Ends rank.0) (gives_up w.settings rank.0 d)) rank (leftover_at w.settings rank.0 d)
          (λ none. some (given_up_same w.settings d rank.0 op took (out.op_is d is on) (out.took_is d is) ∙ none)) (put_same d.left rank.0 (d.left rank.0 ++ leftover_at w.settings rank.0 d)));
    }

-- ---- land

land_ready : (w : Whole) (d : World) (rank : Rank) → refusal w.settings w.timing (event.Land rank) d ≡ None
    → (is_on w.settings rank.0 d ≡ true) × (may_land w.settings rank.0 d ≡ true)
unfolding refusal
land_ready w d rank e = passed_both (is_on w.settings rank.0 d) (may_land w.settings rank.0 d) 4 e

answers_itself : (w : Whole) (d : World) (i : ℕ) (op : DiskOp) → answers_op (Some op) (taken w.settings w.timing i op d) ≡ true
unfolding taken
answers_itself w d i disk.ReadHeader = refl
answers_itself w d i (disk.ReadSlot other) = equal_to_itself other.0
answers_itself w d i disk.CheckMail = refl
answers_itself w d i (disk.WriteClaim number) = refl
answers_itself w d i disk.WriteClear = refl
answers_itself w d i disk.ReadMail = refl
answers_itself w d i (disk.WriteReset other) = equal_to_itself other.0
answers_itself w d i (disk.WriteClose number) = refl

land_answers : (w : Whole) (d : World) (i : ℕ) (op : DiskOp) → WorldFor w d → op_at w.settings i d ≡ Some op
    → (j : ℕ) (entry : What) → put d.took i (Some (taken w.settings w.timing i op d)) j ≡ Some entry → is_on w.settings j d ≡ true
    → answers_op (op_at w.settings j d) entry ≡ true
land_answers w d i op is op_is j entry took on = land_by (same_or_not i j)
  where
    land_by : (i ≡ j) ⊎ ((i == j) ≡ false) → answers_op (op_at w.settings j d) entry ≡ true
    land_by (inl same) =
        let here : put d.took i (Some (taken w.settings w.timing i op d)) i ≡ Some entry = subst (λ k. put d.took i (Some (taken w.settings w.timing i op d)) k ≡ Some entry) (sym same) took in
        let z : Some (taken w.settings w.timing i op d) ≡ Some entry = sym (put_same d.took i (Some (taken w.settings w.timing i op d))) ∙ here in
        let y : taken w.settings w.timing i op d ≡ entry = cc in
        subst (λ k. answers_op (op_at w.settings k d) entry ≡ true) same
        (ap (λ op. answers_op op entry) op_is ∙ (ap (λ entry. answers_op (Some op) entry) (sym y) ∙ answers_itself w d i op))
    land_by (inr apart) = is.answers j entry (sym (ap (λ b. if b then Some (taken w.settings w.timing i op d) else d.took j) apart) ∙ took) on

pub land_stepped : (w mid new : Whole) (rank : Rank) (op : DiskOp) (entry : What) → rank.0 < 32
    → ((d : World) → WorldFor w d → is_on w.settings rank.0 d ≡ true → Some op ≡ op_at w.settings rank.0 d)
    → ((d : World) → WorldFor w d → entry ≡ taken w.settings w.timing rank.0 op d)
    → Turns one_image w mid (written rank.0 op)
    → new ≡ record mid { took = slice_set mid.took rank.0 (Some entry) }
    → Stepped one_image w new (event.Land rank) []
unfolding step
land_stepped w mid new rank op entry below out takes writes e =
    let frame = turned one_image w mid writes.rest in
    record {
      frame = same_frames one_image w mid new frame (record { settings = ap (λ w. w.settings) e; timing = ap (λ w. w.timing) e; steps = ap (λ w. w.steps) e });
      stands = λ d is allowed.
          let i = rank.0 in
          let ready = land_ready w d rank allowed in
          let op_is : op_at w.settings i d ≡ Some op = sym (out d is ready.0) in
          let value = taken w.settings w.timing i op d in
          let middle = writes.stands d is in
          let made : new ≡ record mid { took = slice_set mid.took i (Some value) } = e ∙ ap (λ entry. record mid { took = slice_set mid.took i (Some entry) }) (takes d is) in
          let lands : WorldFor new (record (written i op d) { took = put d.took i (Some value) }) =
          subst (λ n. WorldFor n (record (written i op d) { took = put d.took i (Some value) })) (sym made)
          (with_took mid (written i op d) (slice_set mid.took i (Some value)) (put d.took i (Some value)) middle (took_put mid (written i op d) i (Some value) middle below)
          (λ j entry f. subst (λ s. is_on s j d ≡ true → answers_op (op_at s j d) entry ≡ true) (sym frame.settings) (land_answers w d i op is op_is j entry f))) in
          subst (λ o. WorldFor new (option_map_or (λ op. landed w.settings w.timing i op d) o d)) (sym op_is) lands;
      gives = λ d is allowed. refl;
      ranks = λ d is allowed. no_outputs w.settings;
    }

pub some_op : (o : Option DiskOp) → is_some o ≡ true → (op : DiskOp) × (o ≡ Some op)
some_op None e = absurd (cc)
some_op (Some op) e = (op, refl)

none_out : (w : Whole) (d : World) (rank : Rank) (op : Option DiskOp) → WorldFor w d → (is_on w.settings rank.0 d ≡ true → op ≡ op_at w.settings rank.0 d)
    → ((out : DiskOp) → op ≡ Some out → ⊥)
    → refusal w.settings w.timing (event.Land rank) d ≡ None → ⊥
none_out w d rank op is op_is none allowed =
    let ready = land_ready w d rank allowed in
    let found = some_op (op_at w.settings rank.0 d) (first_some (op_at w.settings rank.0 d) _ ready.1) in
    none found.0 (op_is ready.0 ∙ found.1)

pub not_landed : (w : Whole) (rank : Rank) (op : Option DiskOp) → ((d : World) → WorldFor w d → is_on w.settings rank.0 d ≡ true → op ≡ op_at w.settings rank.0 d)
    → ((out : DiskOp) → op ≡ Some out → ⊥) → Stepped one_image w w (event.Land rank) []
not_landed w rank op op_is none =
    record {
      frame = record { settings = refl; timing = refl; steps = refl };
      stands = λ d is allowed. absurd (none_out w d rank op is (op_is d is) none allowed);
      gives = λ d is allowed. refl;
      ranks = λ d is allowed. no_outputs w.settings;
    }

-- ---- an event that changes nodes alone

-- a packet that is found is one entry more
delivers : (o : Option Sent) (rank : Rank) (d : World) → option_map_or (λ sent. happens (Adds rank.0 (entry_of sent.packet)) d) o d
    ≡ record d { moments = (option_map_or (λ sent. happens (Adds rank.0 (entry_of sent.packet)) d) o d).moments }
delivers None rank d = refl
delivers (Some sent) rank d = refl

-- its step changes the moments alone
moves : (s : Settings) (t : Timing) (event : Event) (d : World) → is_of_nodes event ≡ true → step s t event d ≡ record d { moments = (step s t event d).moments }
unfolding step
moves s t (event.Pass dt clocks) d e = refl
moves s t (event.View rank view) d e = refl
moves s t (event.Deliver rank number) d e = delivers (slice_get (packets s d.moments) number) rank d
moves s t (event.Device rank agrees) d e = refl
moves s t (event.Tick rank) d e = refl
moves s t (event.Stopped rank) d e = refl
moves s t (event.Unstopped rank) d e = refl
moves s t (event.Leave rank) d e = refl
moves s t (event.Feed rank) d e = refl
moves s t (event.Boot rank base) d e = absurd (cc)
moves s t (event.BootClean rank base) d e = absurd (cc)
moves s t (event.Crash rank) d e = absurd (cc)
moves s t (event.Land rank) d e = absurd (cc)
moves s t (event.Done rank) d e = absurd (cc)
moves s t (event.Fail rank) d e = absurd (cc)
moves s t (event.Late rank number) d e = absurd (cc)
moves s t (event.Operator rank message) d e = absurd (cc)

can_step : (w : Whole) (event : Event) → is_of_nodes event ≡ true → IsReady one_image w event → CanStep (cluster_of w) event
can_step w event nodes ready =
    record {
      nodes = nodes;
      formed = ready.formed;
      room = ready.room;
      early = ready.early;
      timing = w.timing;
      world = ready.standing.0;
      stands = ready.standing.1.cluster;
      allowed = ready.allowed;
    }

nodes_stepped : (w new : Whole) (event : Event) (outs : List Out) → is_of_nodes event ≡ true → new ≡ with_nodes w (cluster_of new)
    → NodesStepped (cluster_of w) (cluster_of new) event outs → Stepped one_image w new event outs
nodes_stepped w new event outs nodes disk made =
    record {
      frame = framed one_image w new (ap (λ w. w.timing) disk) made.frame;
      stands = λ d is allowed.
          let after = step w.settings w.timing event d in
          subst (λ after. WorldFor new after) (sym (moves w.settings w.timing event d nodes))
          (with_kept w new d after.moments is disk made.frame.settings (made.stands w.timing d is.cluster allowed)
          (subst (KeepsOut w.settings d) (moves w.settings w.timing event d nodes) (made.keeps w.timing d is.cluster allowed)));
      gives = λ d is allowed. made.gives w.timing d is.cluster allowed;
      ranks = λ d is allowed. made.ranks w.timing d is.cluster allowed;
    }

nodes_starved : (w new : Whole) (event : Event) → new ≡ with_nodes w (cluster_of new) → Starved (cluster_of w) (cluster_of new) event → OutOfMemory one_image w new event
nodes_starved w new event disk starved =
    record {
      same = disk ∙ ap (λ c. with_nodes w c) starved.same;
      cause = λ d is allowed. or_first _ _ (starved.cause w.timing d is.cluster allowed);
    }

-- the nodes make the step in a world that is kept as another one, which is the same
module _ (w kept : Whole) (is : kept ≡ w) (event : Event) where
  pub kept_can : is_of_nodes event ≡ true → IsReady one_image w event → CanStep (cluster_of kept) event
  kept_can nodes ready = subst (λ (v : Whole). CanStep (cluster_of v) event) (sym is) (can_step w event nodes ready)

  module _ (after : Nodes) where
    pub kept_stepped : (outs : List Out) → is_of_nodes event ≡ true → NodesStepped (cluster_of kept) after event outs
        → Stepped one_image w (with_nodes kept after) event outs
    kept_stepped outs nodes made =
        nodes_stepped w (with_nodes kept after) event outs nodes (ap (λ v. with_nodes v after) is)
        (subst (λ (v : Whole). NodesStepped (cluster_of v) after event outs) is made)

    pub kept_starved : Starved (cluster_of kept) after event → OutOfMemory one_image w (with_nodes kept after) event
    kept_starved starved =
        nodes_starved w (with_nodes kept after) event (ap (λ v. with_nodes v after) is)
        (subst (λ (v : Whole). Starved (cluster_of v) after event) is starved)

-- ---- boot

pub few_base : (s : Settings) (rank : Rank) (base : ℕ) (clean : Bool) → is_well_formed s (boot_event rank base clean) ≡ true → base ≤ 1000000000000000
unfolding is_well_formed
few_base s rank base false formed = leb-true base 1000000000000000 (second_of_both (is_configured s rank.0) _ formed)
few_base s rank base true formed = leb-true base 1000000000000000 (second_of_both (is_configured s rank.0) _ formed)

-- both events that boot a rank touch it, make its boot, and report what comes out of it
pub boot_touches : (rank : Rank) (base : ℕ) (clean : Bool) → touched (boot_event rank base clean) ≡ Some rank
boot_touches rank base false = refl
boot_touches rank base true = refl

boot_steps : (s : Settings) (t : Timing) (rank : Rank) (base : ℕ) (clean : Bool) (d : World)
    → step s t (boot_event rank base clean) d ≡ boots rank.0 base clean d
unfolding step
boot_steps s t rank base false d = refl
boot_steps s t rank base true d = refl

boot_reports : (s : Settings) (rank : Rank) (base : ℕ) (clean : Bool) (after : World)
    → outs_after s (boot_event rank base clean) after ≡ newest_outs (node_at s rank.0 after).log
boot_reports s rank base false after = refl
boot_reports s rank base true after = refl

pub boot_stepped : (w left mid new : Whole) (rank : Rank) (base : ℕ) (clean : Bool) (outs : List Out) → rank.0 < 32
    → Turns one_image w left (λ d. record d { left = put d.left rank.0 [] })
    → mid ≡ record left { took = slice_set left.took rank.0 None }
    → new ≡ with_nodes mid (cluster_of new) → Booted (cluster_of mid) (cluster_of new) rank.0 base clean outs
    → Stepped one_image w new (boot_event rank base clean) outs
boot_stepped w left mid new rank base clean outs below drops f g booting =
    let i = rank.0 in
    let nodes : cluster_of mid ≡ cluster_of w = ap cluster_of f ∙ drops.rest.nodes in
    let booted : Booted (cluster_of w) (cluster_of new) i base clean outs = subst (λ c. Booted c (cluster_of new) i base clean outs) nodes booting in
    record {
      frame =
          same_frames one_image w mid new
          (record { settings = ap (λ c. c.settings) nodes; timing = ap (λ w. w.timing) f ∙ drops.rest.timing; steps = ap (λ c. c.steps) nodes })
          (framed one_image mid new (ap (λ w. w.timing) g) booting.frame);
      stands = λ d is allowed.
          let d1 = record d { left = put d.left i [] } in
          subst (λ after. WorldFor new after) (sym (boot_steps w.settings w.timing rank base clean d))
          (with_none left new (cluster_of new) d1 (Boots i base clean) i (drops.stands d is) below
          (booted.frame.settings ∙ sym (ap (λ c. c.settings) drops.rest.nodes)) (booted.stands d.moments is.cluster)
          (boots_others left.settings d.moments i base clean) (g ∙ ap (λ m. with_nodes m (cluster_of new)) f));
      gives = λ d is allowed.
          booted.gives d.moments is.cluster
          ∙ (sym (boot_reports w.settings rank base clean (boots i base clean d))
          ∙ ap (λ after. outs_after w.settings (boot_event rank base clean) after) (sym (boot_steps w.settings w.timing rank base clean d)));
      ranks = λ d is allowed. booted.ranks;
    }

-- ---- late

late_ready : (w : Whole) (d : World) (rank : Rank) (number : ℕ) → refusal w.settings w.timing (event.Late rank number) d ≡ None
    → may_be_late rank.0 number d ≡ true
unfolding refusal
late_ready w d rank number e = passed (may_be_late rank.0 number d) 6 e

pub late_stepped : (w mid new : Whole) (rank : Rank) (number : ℕ) (op : DiskOp) → ((d : World) → WorldFor w d → Some op ≡ numbered (d.left rank.0) number)
    → Turns one_image w mid (λ d. record d { left = put d.left rank.0 (without (d.left rank.0) number) }) → Turns one_image mid new (written rank.0 op)
    → Stepped one_image w new (event.Late rank number) []
unfolding step
late_stepped w mid new rank number op found takes writes =
    record {
      frame = same_frames one_image w mid new (turned one_image w mid takes.rest) (turned one_image mid new writes.rest);
      stands = λ d is allowed.
          subst (λ o. WorldFor new (option_map_or (λ op. lands_late rank.0 number op d) o d)) (found d is)
          (writes.stands (record d { left = put d.left rank.0 (without (d.left rank.0) number) }) (takes.stands d is));
      gives = λ d is allowed. refl;
      ranks = λ d is allowed. no_outputs w.settings;
    }

none_late : (w : Whole) (d : World) (rank : Rank) (number : ℕ) → None ≡ numbered (d.left rank.0) number
    → refusal w.settings w.timing (event.Late rank number) d ≡ None → ⊥
none_late w d rank number none allowed = is_some_none (numbered (d.left rank.0) number) (sym none) (late_ready w d rank number allowed)

pub not_late : (w new : Whole) (rank : Rank) (number : ℕ) → new ≡ w → ((d : World) → WorldFor w d → None ≡ numbered (d.left rank.0) number)
    → Stepped one_image w new (event.Late rank number) []
not_late w new rank number e none =
    subst (λ n. Stepped one_image w n (event.Late rank number) []) (sym e)
    (record {
      frame = record { settings = refl; timing = refl; steps = refl };
      stands = λ d is allowed. absurd (none_late w d rank number (none d is) allowed);
      gives = λ d is allowed. refl;
      ranks = λ d is allowed. no_outputs w.settings;
    })

-- an operator replaces what a mailbox holds
pub operator_stepped : (w new : Whole) (rank : Rank) (value : Message) → Turns one_image w new (with_mail rank.0 value) → Stepped one_image w new (event.Operator rank value) []
unfolding step
operator_stepped w new rank value puts =
    record {
      frame = turned one_image w new puts.rest;
      stands = λ d is allowed. puts.stands d is;
      gives = λ d is allowed. refl;
      ranks = λ d is allowed. no_outputs w.settings;
    }

-- ---- ranks of the other node that an operation is about

pub op_target : (w : Whole) (op : DiskOp) → IsStanding w → IsOpWithin (length w.settings.nodes) (Some op) → IsWithin 32 op
op_target w op standing within = wider (length w.settings.nodes) op standing.1.cluster.valid.few_nodes within
