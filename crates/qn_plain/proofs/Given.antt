-- What comes out of an entry, by what is kept, is what comes out of it by the log.
use Rattle.std.proofs.Common.{◌≡◌, ℕ, ◌+◌, ◌<◌, Bool, true, false, List, [], ◌++◌, length, Option, None, Some, refl, ap, sym, ◌∙◌, arith}
use Rattle.std.specs.Prelude.{◌&&◌, ◌||◌, ◌==◌, not, if◌then◌else◌, nat_le, is_some, option_and_then, unwrap_or, map, filter}
use Rattle.std.specs.Option.{option_map, option_map_or, option_or}
use Rattle.std.specs.List.{range_with_len}
use Rattle.qn_base.specs.declared.ids.Rank.{Rank}
use Rattle.qn_base.specs.declared.ids.View.{View}
use Rattle.qn_base.specs.lemmas.Ranges.{filter_same}
use Rattle.qn_model.specs.declared.configuration.Settings.{Settings}
use Rattle.qn_model.specs.declared.disk.Message.{Message}
use Rattle.qn_model.specs.declared.entries.What.{What}
use Rattle.qn_model.specs.declared.entries.What.TheVariants as what
use Rattle.qn_model.specs.declared.outputs.Out.{Out}
use Rattle.qn_model.specs.declared.outputs.Out.TheVariants as out
use Rattle.qn_model.specs.declared.packets.Packet.TheVariants as packet
use Rattle.qn_model.specs.declared.outputs.DiskOp.{DiskOp}
use Rattle.qn_model.specs.declared.outputs.DiskOp.TheVariants as disk
use Rattle.qn_model.specs.Log.{Line, begins_clean, claimed, incarnation, now, op_out, slot_number, timing}
use Rattle.qn_model.specs.Phases.{deadly_of, is_booting, is_leaving, is_live, is_up, message_of, phase}
use Rattle.qn_model.specs.Holding.{holds, may_stop}
use Rattle.qn_model.specs.NodeVotes.{view, votes}
use Rattle.qn_model.specs.Votes.{view_tick}
use Rattle.qn_model.specs.Unmet.{chosen, is_chosen, is_clear, unmet}
use Rattle.qn_model.specs.Wanted.{close_op, fence_delay, fencing_op_with_delay, is_delay_over, is_mail_due, mail_tick, may_fence, rank_of, to_read, to_reset, to_reset_now, wanted_with_delay}
use Rattle.qn_model.specs.NodeOutputs.{acts, ask_to, asks, asks_under, boot_outs, disk_outs, gives_start, gives_stop, is_asked, is_asking, live_outs, mail_feeds, outs_at, replies, taken_in, when}
use Rattle.qn_plain.specs.declared.past.Past.{Past}
use Rattle.qn_plain.specs.Lack.{is_rank}
use Rattle.qn_plain.specs.Life.{is_timely, stops_again}
use Rattle.qn_plain.specs.Outputs.{acts_at, asks_at_entry, asks_from, close_op_of, fencing_op_at, gives_start_at, gives_stop_at, is_asked_of, is_delay_over_at, is_mail_due_at, live_outs_at, may_fence_at, outs_after, replies_to, to_reset_at, wanted_at}
use Rattle.qn_plain.specs.Past.{PastFor, is_in}
use Rattle.qn_plain.specs.Sought.{chosen_at}
use Rattle.qn_plain.proofs.Lives.{stops_again-stopping}
use Rattle.qn_plain.proofs.Stands.{views}
use Rattle.qn_plain.proofs.Questions.{given_away, quorate_past, released_past, sought_chosen, sought_unread, sought_unreset, starts_past}

option_map-rank_of : (found : Option ℕ) (op : Rank → DiskOp)
    → option_map op (option_map rank_of found) ≡ option_map (λ rank. op (rank_of rank)) found
option_map-rank_of None op = refl
option_map-rank_of (Some rank) op = refl

-- a number is kept where a test of it holds
kept-rank_of : (found : Option ℕ) (first second : ℕ → Bool) → ((rank : ℕ) → first rank ≡ second rank)
    → option_and_then (λ (rank : Rank). if first rank.0 then Some rank else None) (option_map rank_of found)
    ≡ option_map rank_of (option_and_then (λ rank. if second rank then Some rank else None) found)
kept-rank_of None first second same = refl
kept-rank_of (Some rank) first second same = kept_if (first rank) (second rank) (same rank)
  where
    kept_if : (b kept : Bool) → b ≡ kept → (if b then Some (rank_of rank) else None) ≡ option_map rank_of (if kept then Some rank else None)
    kept_if true true e = refl
    kept_if true false e = absurd (cc)
    kept_if false true e = absurd (cc)
    kept_if false false e = refl

is_rank-rank_of : (me : ℕ) (found : Option ℕ) → is_rank me (option_map rank_of found) ≡ option_map_or (λ rank. rank == me) found false
is_rank-rank_of me None = refl
is_rank-rank_of me (Some rank) = refl

-- the Ask to a rank, by the incarnation that was claimed and the install number
abbrev ask_by : ℕ → Option ℕ → ℕ → View → ℕ → Out
ask_by me claim count present rank =
    out.Send (rank_of rank) (packet.Ask (record { from = rank_of me; to = rank_of rank; incarnation = unwrap_or claim 0; install = count; view = present }))

shown_same : (first second : View → List Out) (present : Option View) → ((v : View) → first v ≡ second v)
    → option_map_or first present [] ≡ option_map_or second present []
shown_same first second None same = refl
shown_same first second (Some v) same = same v

-- the log is at a tick, and its newest entry claimed nothing so far
pub record IsTaken (log : List Line) (tick : ℕ) : Type 0 where
  pub at : now log ≡ tick
  pub claims : incarnation log ≡ claimed log

pub taken : (log : List Line) (tick : ℕ) (w : What) → IsTaken (taken_in log tick w) tick
unfolding claimed
taken log tick w = record { at = refl; claims = refl }

module _ (s : Settings) (past : Past) (log : List Line) (h : PastFor s past log) (me tick : ℕ) (t : IsTaken log tick) where
  stop_past : gives_stop_at s me tick past ≡ gives_stop s me log
  stop_past =
      let held : past.life.holds ≡ holds log = ap (λ l. l.holds) h.lives in
      let leaving : is_leaving past.life.phase ≡ is_leaving (phase s log) = ap (λ l. is_leaving l.phase) h.lives in
      let many = quorate_past s past log h tick in
      let again : stops_again past.life.stopping past.life.timing.loop_ms tick ≡ may_stop (timing log).loop_ms tick log
      = ap (λ l. stops_again l.stopping l.timing.loop_ms tick) h.lives ∙ stops_again-stopping (timing log).loop_ms tick log in
      let away = given_away s past log h me tick in
      let at = t.at in
      cc

  start_past : gives_start_at s me tick past ≡ gives_start s me log
  start_past = starts_past s past log h me tick ∙ ap (λ n. is_clear (unmet s me log n)) (sym t.at)

  delay_past : (rank : ℕ) → is_delay_over_at s rank tick past ≡ is_delay_over s log rank
  delay_past rank =
      ap (λ t. nat_le (t.view_tick + fence_delay s rank) tick) h.tallies ∙ ap (nat_le (view_tick (votes log) + fence_delay s rank)) (sym t.at)

  reset_past : to_reset_at s me tick past ≡ option_map rank_of (to_reset_now s log)
  reset_past =
      ap (option_and_then (λ rank. if is_delay_over_at s rank.0 tick past then Some rank else None)) (sought_unreset s past log h me tick)
      ∙ kept-rank_of (to_reset s log) (λ rank. is_delay_over_at s rank tick past) (λ rank. is_delay_over s log rank) delay_past

  fencing_past : fencing_op_at s me tick past ≡ fencing_op_with_delay s log
  fencing_past =
      let reads = ap (option_map (λ rank. disk.ReadSlot rank)) (sought_unread s past log h me tick) ∙ option_map-rank_of (to_read s log) (λ rank. disk.ReadSlot rank) in
      let writes = ap (option_map (λ rank. disk.WriteReset rank)) reset_past ∙ option_map-rank_of (to_reset_now s log) (λ rank. disk.WriteReset rank) in
      ap (λ o. option_or o (option_map (λ rank. disk.WriteReset rank) (to_reset_at s me tick past))) reads
      ∙ ap (option_or (option_map (λ rank. disk.ReadSlot (rank_of rank)) (to_read s log))) writes

  may_past : may_fence_at s me tick past ≡ may_fence s me log
  may_past =
      let up : is_up past.life.phase ≡ is_up (phase s log) = ap (λ l. is_up l.phase) h.lives in
      let many = quorate_past s past log h tick in
      let at = t.at in
      let first : is_rank me (chosen_at s me tick past) ≡ is_chosen s me log
      = ap (is_rank me) (sought_chosen s past log h me tick) ∙ is_rank-rank_of me (chosen s log) in
      cc

  wanted_past : wanted_at s me tick past ≡ wanted_with_delay s me log
  unfolding wanted_with_delay
  wanted_past =
      let out : is_some past.life.op ≡ is_some (op_out log) = ap (λ l. is_some l.op) h.lives in
      let due : is_mail_due_at tick past ≡ is_mail_due log = ap (λ l. nat_le (l.mail_tick + l.timing.loop_ms) tick) h.lives ∙ ap (λ n. nat_le (mail_tick log + (timing log).loop_ms) n) (sym t.at) in
      let leaves : (is_leaving past.life.phase && not past.life.holds) ≡ (is_leaving (phase s log) && not (holds log)) = ap (λ l. is_leaving l.phase && not l.holds) h.lives in
      let close : close_op_of past ≡ close_op log = ap (λ l. option_map (λ number. disk.WriteClose number) l.claimed) h.lives ∙ ap (option_map (λ number. disk.WriteClose number)) (sym t.claims) in
      let fences = may_past in
      let op = fencing_past in
      cc

  replies_past : (held : Bool) (w : What) → replies_to me held past w ≡ replies s me held log w
  replies_past held (what.Ask ask) = let shown = views s past log h in let free = released_past s past log h in cc
  replies_past held w = refl

  asked_past : (rank : ℕ) → rank < 32 → is_asked_of me past rank ≡ is_asked s me log rank
  asked_past rank below =
      let shown = ap (λ v. is_in v rank) (views s past log h) in
      let free = (h.peers rank below).frees in
      let released_too = released_past s past log h in
      cc

  under_past : (present : View) → asks_from me past present 0 (length s.nodes) ≡ asks_under s me log present
  under_past present =
      let ranks = filter (is_asked_of me past) (range_with_len 0 (length s.nodes)) in
      ap (λ l. map (ask_by me l.claimed past.installs present) ranks) h.lives
      ∙ (ap (λ claim. map (ask_by me claim past.installs present) ranks) (sym t.claims)
      ∙ (ap (λ count. map (ask_by me (incarnation log) count present) ranks) h.installed
      ∙ ap (map (ask_to me log present)) (filter_same (is_asked_of me past) (is_asked s me log) 0 (length s.nodes) (λ j above below. let few = h.few in asked_past j (omega arith)))))

  asks_past : asks_at_entry s me past ≡ asks s me log
  asks_past =
      ap (λ b. if b then option_map_or (λ present. asks_from me past present 0 (length s.nodes)) past.votes.view [] else []) (ap (λ l. l.asks) h.lives)
      ∙ (ap (λ v. if is_asking s log then option_map_or (λ present. asks_from me past present 0 (length s.nodes)) v [] else []) (views s past log h)
      ∙ ap (λ outs. if is_asking s log then outs else []) (shown_same (λ present. asks_from me past present 0 (length s.nodes)) (asks_under s me log) (view log) under_past))

  acts_past : (w : What) (fed : Bool) → acts_at s me tick past w fed ≡ acts s me log w fed
  unfolding acts
  acts_past w fed =
      let stops = stop_past in
      let starts = start_past in
      let held : (gives_start_at s me tick past || past.life.holds) ≡ (gives_start s me log || holds log)
      = ap (λ b. b || past.life.holds) start_past ∙ ap (λ l. gives_start s me log || l.holds) h.lives in
      let replied = replies_past (gives_start_at s me tick past || past.life.holds) w ∙ ap (λ b. replies s me b log w) held in
      let asked = asks_past in
      let op = wanted_past in
      ap (λ b. when b out.Stop ++ when (gives_start_at s me tick past) out.Start ++ when fed out.Feed ++ replies_to me (gives_start_at s me tick past || past.life.holds) past w ++ asks_at_entry s me past ++ disk_outs (wanted_at s me tick past)) stops
      ∙ (ap (λ b. when (gives_stop s me log) out.Stop ++ when b out.Start ++ when fed out.Feed ++ replies_to me (gives_start_at s me tick past || past.life.holds) past w ++ asks_at_entry s me past ++ disk_outs (wanted_at s me tick past)) starts
      ∙ (ap (λ outs. when (gives_stop s me log) out.Stop ++ when (gives_start s me log) out.Start ++ when fed out.Feed ++ outs ++ asks_at_entry s me past ++ disk_outs (wanted_at s me tick past)) replied
      ∙ (ap (λ outs. when (gives_stop s me log) out.Stop ++ when (gives_start s me log) out.Start ++ when fed out.Feed ++ replies s me (gives_start s me log || holds log) log w ++ outs ++ disk_outs (wanted_at s me tick past)) asked
      ∙ ap (λ o. when (gives_stop s me log) out.Stop ++ when (gives_start s me log) out.Start ++ when fed out.Feed ++ replies s me (gives_start s me log || holds log) log w ++ asks s me log ++ disk_outs o) op)))

  live_past : (w : What) (fed : Bool) (message : Option Message) → live_outs_at s me tick past w fed message ≡ live_outs s me log w fed message
  live_past w fed (Some message) = refl
  live_past (what.Closed ok) fed None = refl
  live_past w fed None = acts_past w fed

-- what comes out of an entry that was taken in
pub outs_past : (s : Settings) (old new : Past) (log : List Line) (me tick : ℕ) (w : What)
    → PastFor s old log → PastFor s new (taken_in log tick w)
    → outs_after s me old.life.phase (is_timely tick old.life) tick w new ≡ outs_at s me log tick w (taken_in log tick w)
unfolding outs_at
outs_past s old new log me tick w before h =
    let live = live_outs_at s me tick new w (mail_feeds tick log w) (deadly_of (message_of w)) in
    let acts_too = live_past s new (taken_in log tick w) h me tick (taken log tick w) w (mail_feeds tick log w) (deadly_of (message_of w)) in
    ap (λ l. outs_after s me l.phase (is_timely tick l) tick w new) before.lives
    ∙ (ap (λ l. if is_booting (phase s log) then boot_outs s me l.clean l.slot_number w else (if is_live (phase s log) then live else [])) h.lives
    ∙ ap (λ outs. if is_booting (phase s log) then boot_outs s me (begins_clean (taken_in log tick w)) (slot_number (taken_in log tick w)) w else (if is_live (phase s log) then outs else [])) acts_too)
