-- What is asked of what is kept of a history is what is asked of its log.
use Rattle.std.proofs.Common.{◌≡◌, ℕ, zero, suc, ◌+◌, ◌-◌, ◌<◌, Bool, true, false, List, length, Option, None, Some, refl, ap, ap₂, sym, ◌∙◌, arith, cond}
use Rattle.std.specs.Prelude.{◌&&◌, ◌||◌, ◌==◌, not, if◌then◌else◌, nat_le, nat_lt, is_some, is_none, unwrap_or}
use Rattle.std.specs.Option.{option_map, option_map_or, option_or}
use Rattle.qn_base.specs.declared.ids.Rank.{Rank}
use Rattle.qn_model.specs.declared.configuration.Settings.{Settings}
use Rattle.qn_model.specs.declared.life.Why.{Why}
use Rattle.qn_model.specs.declared.life.Why.TheVariants as why
use Rattle.qn_model.specs.Log.{Line, timing}
use Rattle.qn_model.specs.Phases.{is_up, phase}
use Rattle.qn_model.specs.Hearing.{is_free, is_held}
use Rattle.qn_model.specs.Holding.{holds}
use Rattle.qn_model.specs.Licences.{is_clean, is_fenced, is_licensed, is_slot_seen, is_written, left_to_wait, out_time, reset_tick}
use Rattle.qn_model.specs.NodeVotes.{answer_with_tie, is_in_view, quorate_with_tie, released, view, votes}
use Rattle.qn_model.specs.Unmet.{chosen, is_candidate, is_given_away, is_none_chosen, named, holder, id_of, is_clear, lacks_of_others, least_from, least_rank, or_else, other_chosen, unfenced, unheard, unmet}
use Rattle.qn_model.specs.Wanted.{rank_of, to_read, to_reset}
use Rattle.qn_model.specs.LeastMembers.{least_from-same}
use Rattle.qn_plain.specs.declared.past.Past.{Past}
use Rattle.qn_plain.specs.declared.peer.Peer.{Peer}
use Rattle.qn_plain.specs.declared.lack.Lack.{Lack}
use Rattle.qn_plain.specs.declared.lack.Lack.TheVariants as lack
use Rattle.qn_plain.specs.declared.sought.Sought.{Sought}
use Rattle.qn_plain.specs.declared.sought.Sought.TheVariants as sought
use Rattle.qn_plain.specs.Lack.{is_nothing, is_quorate_at, lack_at, or_lack, other_than, why_by}
use Rattle.qn_plain.specs.Past.{PastFor, is_barred_in, is_in, is_named_in}
use Rattle.qn_plain.specs.Peer.{PeerFor, peer_at, peer_is_clean, peer_is_fenced, peer_is_held, peer_is_seen, peer_is_written, peer_left}
use Rattle.qn_plain.specs.Sought.{chosen_at, is_given_away_at, is_sought, least_sought}
use Rattle.qn_plain.specs.Tally.{tally_with_tie}
use Rattle.qn_plain.proofs.EntryByEntry.{tally_with_tie-tally_of}
use Rattle.qn_plain.proofs.Stands.{views}

-- ---- one rank

some_if : (b : Bool) (t : ℕ) → is_some (if b then Some t else None) ≡ b
some_if true t = refl
some_if false t = refl

passed_if : (b : Bool) (t span tick : ℕ)
    → option_map_or (λ written. nat_le (written + span) tick) (if b then Some t else None) false ≡ (b && nat_le (t + span) tick)
passed_if true t span tick = refl
passed_if false t span tick = refl

left_if : (b : Bool) (t span tick : ℕ)
    → option_map_or (λ written. written + span - tick) (if b then Some t else None) 0 ≡ (if b then t + span - tick else 0)
left_if true t span tick = refl
left_if false t span tick = refl

module _ (peer : Peer) (log : List Line) (rank : ℕ) (h : PeerFor peer log rank) where
  clean_rank : peer_is_clean peer ≡ is_clean log rank
  clean_rank = sym (h.cleans (out_time rank log) ∙ ap (λ p. nat_lt p peer.clean_asked) h.outs)

  seen_rank : peer_is_seen peer ≡ is_slot_seen log rank
  seen_rank = sym (h.seens (out_time rank log) ∙ ap (λ p. nat_lt p peer.seen_asked) h.outs)

  reset_rank : reset_tick log rank ≡ (if peer_is_written peer then Some peer.reset_tick else None)
  reset_rank = h.resets (out_time rank log) ∙ ap (λ p. if nat_lt p peer.reset_asked then Some peer.reset_tick else None) h.outs

  written_rank : peer_is_written peer ≡ is_written log rank
  written_rank = sym (ap is_some reset_rank ∙ some_if (peer_is_written peer) peer.reset_tick)

  fenced_rank : (tick : ℕ) → peer_is_fenced peer (timing log).msgwait tick ≡ is_fenced log rank tick
  fenced_rank tick =
      sym (ap (λ o. option_map_or (λ written. nat_le (written + (timing log).msgwait) tick) o false) reset_rank
      ∙ passed_if (peer_is_written peer) peer.reset_tick (timing log).msgwait tick)

  left_rank : (tick : ℕ) → peer_left peer (timing log).msgwait tick ≡ left_to_wait log rank tick
  left_rank tick =
      sym (ap (λ o. option_map_or (λ written. written + (timing log).msgwait - tick) o 0) reset_rank
      ∙ left_if (peer_is_written peer) peer.reset_tick (timing log).msgwait tick)

  held_rank : peer_is_held peer ≡ is_held log rank
  held_rank = let free = h.frees in let said = h.tolds in cc

-- ---- the ranks that are sought

module _ (s : Settings) (past : Past) (log : List Line) (h : PastFor s past log) where
  in_view : (rank : ℕ) → is_in past.votes.view rank ≡ is_in_view log rank
  in_view rank = ap (λ v. is_in v rank) (views s past log h)

  times : past.life.timing ≡ timing log
  times = ap (λ l. l.timing) h.lives

  least_same : (what : Sought) (me tick : ℕ) (test : ℕ → Bool) → ((rank : ℕ) → rank < 32 → is_sought what me tick past rank ≡ test rank)
      → least_sought s what me tick past ≡ option_map rank_of (least_rank s test)
  least_same what me tick test same =
      ap (option_map rank_of) (least_from-same (length s.nodes) 0 (is_sought what me tick past) test (λ j above below. let few = h.few in same j (omega arith)))

  in_name : (rank : ℕ) → is_named_in past.votes.view rank ≡ is_candidate log rank
  in_name rank = ap (λ v. is_named_in v rank) (views s past log h)

  ranks_of : (b : Bool) (named least : Option ℕ)
      → (if b then None else option_or (option_map rank_of named) (option_map rank_of least)) ≡ option_map rank_of (if b then None else option_or named least)
  ranks_of true named least = refl
  ranks_of false None least = refl
  ranks_of false (Some rank) least = refl

  none_chosen : is_barred_in past.votes.view ≡ is_none_chosen log
  none_chosen = ap is_barred_in (views s past log h)

  named_past : (me tick : ℕ) → least_sought s sought.Named me tick past ≡ option_map rank_of (named s log)
  named_past me tick =
      least_same sought.Named me tick (λ rank. is_in_view log rank && is_candidate log rank) (λ rank below. ap₂ (λ a b. a && b) (in_view rank) (in_name rank))

  pub sought_chosen : (me tick : ℕ) → chosen_at s me tick past ≡ option_map rank_of (chosen s log)
  sought_chosen me tick =
      ap₂ (λ (b : Bool) o. if b then None else o) none_chosen (ap₂ option_or
      (named_past me tick)
      (least_same sought.Member me tick (λ rank. is_in_view log rank) (λ rank below. in_view rank)))
      ∙ ranks_of (is_none_chosen log) (named s log) (least_rank s (λ rank. is_in_view log rank))

  other_named : (me : ℕ) (found : Option ℕ)
      → option_map_or (λ (rank : Rank). not (rank.0 == me)) (option_map rank_of found) false ≡ option_map_or (λ rank. not (rank == me)) found false
  other_named me None = refl
  other_named me (Some rank) = refl

  pub given_away : (me tick : ℕ) → is_given_away_at s me tick past ≡ is_given_away s me log
  given_away me tick =
      ap₂ (λ a b. a || b) none_chosen
      (ap (λ found. option_map_or (λ (rank : Rank). not (rank.0 == me)) found false) (named_past me tick) ∙ other_named me (named s log))

  pub sought_holder : (me tick : ℕ) → least_sought s sought.Holder me tick past ≡ option_map rank_of (holder s me log)
  sought_holder me tick =
      least_same sought.Holder me tick (λ rank. is_in_view log rank && not (rank == me) && is_held log rank)
      (λ rank below. let shown = in_view rank in let held = held_rank (peer_at past.peers rank) log rank (h.peers rank below) in cc)

  pub sought_unheard : (me tick : ℕ) → least_sought s sought.Unheard me tick past ≡ option_map rank_of (unheard s me log)
  sought_unheard me tick =
      least_same sought.Unheard me tick (λ rank. is_in_view log rank && not (rank == me) && not (is_free log rank) && not (is_held log rank))
      (λ rank below.
      let shown = in_view rank in
      let free = (h.peers rank below).frees in
      let held = held_rank (peer_at past.peers rank) log rank (h.peers rank below) in cc)

  pub sought_unfenced : (me tick : ℕ) → least_sought s sought.Unfenced me tick past ≡ option_map rank_of (unfenced s log tick)
  sought_unfenced me tick =
      least_same sought.Unfenced me tick (λ rank. not (is_in_view log rank) && not (is_licensed log rank tick))
      (λ rank below.
      let shown = in_view rank in
      let clean = clean_rank (peer_at past.peers rank) log rank (h.peers rank below) in
      let fenced = ap (λ t. peer_is_fenced (peer_at past.peers rank) t.msgwait tick) times ∙ fenced_rank (peer_at past.peers rank) log rank (h.peers rank below) tick in cc)

  pub sought_unread : (me tick : ℕ) → least_sought s sought.Unread me tick past ≡ option_map rank_of (to_read s log)
  sought_unread me tick =
      least_same sought.Unread me tick (λ rank. not (is_in_view log rank) && not (is_slot_seen log rank))
      (λ rank below.
      let shown = in_view rank in
      let seen = seen_rank (peer_at past.peers rank) log rank (h.peers rank below) in cc)

  pub sought_unreset : (me tick : ℕ) → least_sought s sought.Unreset me tick past ≡ option_map rank_of (to_reset s log)
  sought_unreset me tick =
      least_same sought.Unreset me tick (λ rank. not (is_in_view log rank) && not (is_clean log rank) && not (is_written log rank))
      (λ rank below.
      let shown = in_view rank in
      let clean = clean_rank (peer_at past.peers rank) log rank (h.peers rank below) in
      let written = written_rank (peer_at past.peers rank) log rank (h.peers rank below) in cc)

  -- ---- votes

  pub quorate_past : (tick : ℕ) → is_quorate_at s tick past ≡ quorate_with_tie s log tick
  quorate_past tick = ap (λ t. (tally_with_tie s t tick).quorate) h.tallies

  pub released_past : past.votes.released ≡ released s log
  released_past = ap (λ t. t.released) h.tallies

  pub answer_past : (tick : ℕ) → tally_with_tie s past.votes tick ≡ answer_with_tie s log tick
  answer_past tick = ap (λ t. tally_with_tie s t tick) h.tallies ∙ tally_with_tie-tally_of s (votes log) tick

-- ---- the first condition that blocks a start

-- the conditions by the log, in the form of the code
abbrev fencing_of_log : Settings → List Line → ℕ → Lack
fencing_of_log s log tick = or_lack (option_map rank_of (unfenced s log tick)) (λ rank. lack.Unfenced rank) lack.Clear

abbrev hearing_of_log : Settings → ℕ → List Line → ℕ → Lack
hearing_of_log s me log tick = or_lack (option_map rank_of (unheard s me log)) (λ rank. lack.Unheard rank) (fencing_of_log s log tick)

abbrev others_of_log : Settings → ℕ → List Line → ℕ → Lack
others_of_log s me log tick = or_lack (option_map rank_of (holder s me log)) (λ rank. lack.HeldBy rank) (hearing_of_log s me log tick)

abbrev choice_of_log : Settings → ℕ → List Line → ℕ → Lack
choice_of_log s me log tick =
    or_lack (other_than me (option_map rank_of (chosen s log))) (λ rank. lack.NotChosen rank) (others_of_log s me log tick)

abbrev lack_of_log : Settings → ℕ → List Line → ℕ → Lack
lack_of_log s me log tick =
    if not (is_up (phase s log)) then lack.Down
    else (if holds log then lack.Holding
    else (if is_none (view log) then lack.NoView
    else (if not (released s log) then lack.WaitForAll
    else (if not (quorate_with_tie s log tick) then lack.NotQuorate else choice_of_log s me log tick))))

lack_same : (s : Settings) (past : Past) (log : List Line) (h : PastFor s past log) (me tick : ℕ)
    → lack_at s me tick past ≡ lack_of_log s me log tick
lack_same s past log h me tick =
    let up : is_up past.life.phase ≡ is_up (phase s log) = ap (λ l. is_up l.phase) h.lives in
    let held : past.life.holds ≡ holds log = ap (λ l. l.holds) h.lives in
    let none : is_none past.votes.view ≡ is_none (view log) = ap is_none (views s past log h) in
    let free = released_past s past log h in
    let many = quorate_past s past log h tick in
    let first = sought_chosen s past log h me tick in
    let second = sought_holder s past log h me tick in
    let third = sought_unheard s past log h me tick in
    let fourth = sought_unfenced s past log h me tick in
    cc

-- the conditions and the numbers that they name
module _ (s : Settings) (past : Past) (me tick : ℕ) where
  why_or : (found : Option ℕ) (said : Rank → Lack) (named : ℕ → Why) (rest : Lack) (others : Why)
      → ((rank : ℕ) → found ≡ Some rank → why_by s tick past (said (rank_of rank)) ≡ named rank) → why_by s tick past rest ≡ others
      → why_by s tick past (or_lack (option_map rank_of found) said rest) ≡ or_else found named others
  why_or None said named rest others here there = there
  why_or (Some rank) said named rest others here there = here rank refl

  other_same : (found : Option ℕ)
      → other_than me (option_map rank_of found) ≡ option_map rank_of (if option_map_or (λ rank. rank == me) found false then None else Some (unwrap_or found 255))
  other_same None = refl
  other_same (Some rank) = other_if (rank == me)
    where
      other_if : (b : Bool) → (if b then None else Some (rank_of rank)) ≡ option_map rank_of (if b then None else Some rank)
      other_if true = refl
      other_if false = refl

  why_if : (b : Bool) (first second : Lack) (named others : Why) → why_by s tick past first ≡ named → why_by s tick past second ≡ others
      → why_by s tick past (if b then first else second) ≡ (if b then named else others)
  why_if true first second named others p q = p
  why_if false first second named others p q = q

-- a least number is below the end
least_below : (count from found : ℕ) (test : ℕ → Bool) → least_from count from test ≡ Some found → found < from + count
unfolding least_from
least_below zero from found test e = absurd (cc)
least_below (suc count) from found test e = below_if (test from) (least_from count (from + 1) test) (λ later. let z : found < from + 1 + count = least_below count (from + 1) found test later in omega arith) e
  where
    below_if : (b : Bool) (later : Option ℕ) → (later ≡ Some found → found < from + suc count) → cond b (Some from) later ≡ Some found → found < from + suc count
    below_if true later rest is = let same : from ≡ found = cc in omega arith
    below_if false later rest is = rest is

module _ (s : Settings) (past : Past) (log : List Line) (h : PastFor s past log) (me tick : ℕ) where
  why_unfenced : (rank : ℕ) → rank < 32
      → why_by s tick past (lack.Unfenced (rank_of rank)) ≡ why.Unfenced (id_of s rank) (is_written log rank) (left_to_wait log rank tick)
  why_unfenced rank below =
      let written = written_rank (peer_at past.peers rank) log rank (h.peers rank below) in
      let left = ap (λ t. peer_left (peer_at past.peers rank) t.msgwait tick) (times s past log h) ∙ left_rank (peer_at past.peers rank) log rank (h.peers rank below) tick in
      cc

  why_fencing : why_by s tick past (fencing_of_log s log tick)
      ≡ or_else (unfenced s log tick) (λ rank. why.Unfenced (id_of s rank) (is_written log rank) (left_to_wait log rank tick)) why.Clear
  why_fencing =
      why_or s past me tick (unfenced s log tick) (λ rank. lack.Unfenced rank) (λ rank. why.Unfenced (id_of s rank) (is_written log rank) (left_to_wait log rank tick)) lack.Clear why.Clear
      (λ rank is.
      let below = least_below (length s.nodes) 0 rank (λ rank. not (is_in_view log rank) && not (is_licensed log rank tick)) is in
      let few = h.few in why_unfenced rank (omega arith))
      refl

  why_others : why_by s tick past (others_of_log s me log tick) ≡ lacks_of_others s me log tick
  why_others =
      why_or s past me tick (holder s me log) (λ rank. lack.HeldBy rank) (λ rank. why.HeldBy (id_of s rank)) (hearing_of_log s me log tick)
      (or_else (unheard s me log) (λ rank. why.Unheard (id_of s rank)) (or_else (unfenced s log tick) (λ rank. why.Unfenced (id_of s rank) (is_written log rank) (left_to_wait log rank tick)) why.Clear))
      (λ rank is. refl)
      (why_or s past me tick (unheard s me log) (λ rank. lack.Unheard rank) (λ rank. why.Unheard (id_of s rank)) (fencing_of_log s log tick)
      (or_else (unfenced s log tick) (λ rank. why.Unfenced (id_of s rank) (is_written log rank) (left_to_wait log rank tick)) why.Clear)
      (λ rank is. refl) why_fencing)

  why_choice : why_by s tick past (choice_of_log s me log tick) ≡ or_else (other_chosen s me log) (λ rank. why.NotChosen (id_of s rank)) (lacks_of_others s me log tick)
  why_choice =
      ap (λ o. why_by s tick past (or_lack o (λ rank. lack.NotChosen rank) (others_of_log s me log tick))) (other_same s past me tick (chosen s log))
      ∙ why_or s past me tick (other_chosen s me log) (λ rank. lack.NotChosen rank) (λ rank. why.NotChosen (id_of s rank)) (others_of_log s me log tick)
      (lacks_of_others s me log tick) (λ rank is. refl) why_others

  pub unmet_past : why_by s tick past (lack_at s me tick past) ≡ unmet s me log tick
  unfolding unmet
  unmet_past =
      let count = answer_past s past log h tick in
      let not_quorate : why_by s tick past lack.NotQuorate ≡ why.NotQuorate ((answer_with_tie s log tick).votes) ((answer_with_tie s log tick).quorum)
      = ap (λ a. why.NotQuorate a.votes a.quorum) count in
      ap (why_by s tick past) (lack_same s past log h me tick)
      ∙ why_if s past me tick (not (is_up (phase s log))) _ _ _ _ refl
      (why_if s past me tick (holds log) _ _ _ _ refl
      (why_if s past me tick (is_none (view log)) _ _ _ _ refl
      (why_if s past me tick (not (released s log)) _ _ _ _ refl
      (why_if s past me tick (not (quorate_with_tie s log tick)) lack.NotQuorate (choice_of_log s me log tick) _ _ not_quorate why_choice))))

-- nothing blocks a start exactly where the condition is that nothing does
is_nothing-why_by : (s : Settings) (tick : ℕ) (past : Past) (l : Lack) → is_nothing l ≡ is_clear (why_by s tick past l)
is_nothing-why_by s tick past lack.Down = refl
is_nothing-why_by s tick past lack.Holding = refl
is_nothing-why_by s tick past lack.NoView = refl
is_nothing-why_by s tick past lack.WaitForAll = refl
is_nothing-why_by s tick past lack.NotQuorate = refl
is_nothing-why_by s tick past (lack.NotChosen rank) = refl
is_nothing-why_by s tick past (lack.HeldBy rank) = refl
is_nothing-why_by s tick past (lack.Unheard rank) = refl
is_nothing-why_by s tick past (lack.Unfenced rank) = refl
is_nothing-why_by s tick past lack.Clear = refl

pub starts_past : (s : Settings) (past : Past) (log : List Line) (h : PastFor s past log) (me tick : ℕ)
    → is_nothing (lack_at s me tick past) ≡ is_clear (unmet s me log tick)
starts_past s past log h me tick =
    is_nothing-why_by s tick past (lack_at s me tick past) ∙ ap is_clear (unmet_past s past log h me tick)
