-- One entry more, of what a history says of each rank.
use Rattle.std.proofs.Common.{◌≡◌, ◌≢◌, ℕ, zero, suc, ◌+◌, ◌<◌, ◌≤◌, Bool, true, false, List, [], length, Option, None, Some, refl, ap, sym, ◌∙◌, arith, set, get_or-set_other, get_or-set_same, below_more, subst}
use Rattle.std.specs.Prelude.{◌&&◌, ◌||◌, ◌==◌, not, max, if◌then◌else◌, nat_lt, is_some, replicate}
use Rattle.std.specs.Option.{option_map_or}
use Rattle.std.proofs.lemmas.Bool.Decides.{nat_tests}
use Rattle.std.proofs.Math.Bool.{and-false}
use Rattle.qn_model.specs.declared.packets.Tell.{Tell}
use Rattle.qn_model.specs.declared.entries.What.{What}
use Rattle.qn_model.specs.declared.entries.What.TheVariants as what
use Rattle.qn_model.specs.declared.outputs.Out.{Out}
use Rattle.qn_model.specs.lemmas.Logs.{ask_place-within}
use Rattle.qn_model.specs.Log.{Line, ask_place, disk_of, is_answer, is_view}
use Rattle.qn_model.specs.Hearing.{tell_of, tells, told}
use Rattle.qn_model.specs.Licences.{is_clean_slot, is_seen_slot, out_time, reads_slot, reset_since, slot_read_since, writes_reset}
use Rattle.qn_model.specs.NodeVotes.{answers}
use Rattle.qn_model.specs.NodeOutputs.{taken_in}
use Rattle.qn_plain.specs.declared.peer.Peer.{Peer}
use Rattle.qn_plain.specs.declared.peer.Reading.{Reading}
use Rattle.qn_plain.specs.Peer.{PeerFor, later_if, no_peer, peer_after, peer_at}
use Rattle.qn_plain.proofs.Lives.{with_outs}

-- ---- all ranks

-- one rank more was told
pub record Told (reading : Reading) (before after : List Peer) (count : ℕ) : Type 0 where
  pub done : (k : ℕ) → k < count → peer_at after k ≡ peer_after k reading (peer_at before k)
  pub left : (k : ℕ) → count ≤ k → peer_at after k ≡ peer_at before k

pub told_none : (reading : Reading) (before : List Peer) → Told reading before before 0
told_none reading before = record { done = λ k below. absurd (omega arith); left = λ k above. refl }

told_next : (reading : Reading) (before after : List Peer) (rank : ℕ) (peer : Peer) → rank < length after
    → peer ≡ peer_after rank reading (peer_at after rank) → Told reading before after rank → Told reading before (set after rank peer) (rank + 1)
told_next reading before after rank peer here is h = record {
  done = below_more _ _
      (λ k below. let other : k ≢ rank = omega arith in rw get_or-set_other (h.done k below))
      (rw get_or-set_same (is ∙ ap (peer_after rank reading) (h.left rank (omega arith))));
  left = λ k above. let other : k ≢ rank = omega arith in rw get_or-set_other (h.left k (omega arith));
}

pub told_more : (reading : Reading) (before after : List Peer) (rank place : ℕ) (peer : Peer) → place ≡ rank → rank < length after
    → peer ≡ peer_after rank reading (peer_at after place) → Told reading before after rank → Told reading before (set after place peer) (rank + 1)
told_more reading before after rank place peer at here is h =
    subst (λ p. Told reading before (set after p peer) (rank + 1)) (sym at)
    (told_next reading before after rank peer here (is ∙ ap (λ p. peer_after rank reading (peer_at after p)) at) h)

-- before the first entry
pub same_peers : (count rank : ℕ) → peer_at (replicate count no_peer) rank ≡ no_peer
same_peers zero rank = refl
same_peers (suc count) zero = refl
same_peers (suc count) (suc rank) = same_peers count rank

none_behind : (place : ℕ) → false ≡ nat_lt place 0
none_behind place = grind (arith, nat_tests)

pub peer_none : (rank : ℕ) → PeerFor no_peer [] rank
unfolding out_time slot_read_since reset_since told ask_place
peer_none rank = record {
  outs = refl;
  cleans = λ place. none_behind place;
  seens = λ place. none_behind place;
  resets = λ place. ap (λ b. if b then Some 0 else None) (none_behind place);
  behind = omega arith;
  frees = refl;
  tolds = refl;
}

-- ---- one rank

-- the later of two asking places
later_of : (first second : Bool) (place before asked : ℕ) → nat_lt place asked ≡ first → nat_lt place before ≡ second
    → ((first && true) || second) ≡ nat_lt place (max before asked)
later_of true second place before asked p q = let z : nat_lt place (max before asked) ≡ true = grind (arith, nat_tests) in sym z
later_of false true place before asked p q = let z : nat_lt place (max before asked) ≡ true = grind (arith, nat_tests) in sym z
later_of false false place before asked p q = let z : nat_lt place (max before asked) ≡ false = grind (arith, nat_tests) in sym z

later : (b : Bool) (place before asked : ℕ) → ((nat_lt place asked && b) || nat_lt place before) ≡ nat_lt place (later_if b before asked)
later true place before asked = later_of (nat_lt place asked) (nat_lt place before) place before asked refl refl
later false place before asked = ap (λ b. b || nat_lt place before) (and-false (nat_lt place asked))

-- a reset after another
reset_first : (b : Bool) (place asked before tick earlier : ℕ) → nat_lt place asked ≡ b → before ≤ asked
    → (if b && true then Some tick else (if nat_lt place before then Some earlier else None)) ≡ (if b then Some tick else None)
reset_first true place asked before tick earlier is order = refl
reset_first false place asked before tick earlier is order =
    let z : nat_lt place before ≡ false = grind (arith, nat_tests) in ap (λ b. if b then Some earlier else None) z

reset_later : (b : Bool) (place asked before tick earlier : ℕ) → (b ≡ true → before ≤ asked)
    → (if nat_lt place asked && b then Some tick else (if nat_lt place before then Some earlier else None))
    ≡ (if nat_lt place (if b then asked else before) then Some (if b then tick else earlier) else None)
reset_later true place asked before tick earlier order = reset_first (nat_lt place asked) place asked before tick earlier refl (order refl)
reset_later false place asked before tick earlier order =
    ap (λ b. if b then Some tick else (if nat_lt place before then Some earlier else None)) (and-false (nat_lt place asked))

writes_answer : (rank : ℕ) (w : What) → writes_reset rank w ≡ true → is_answer w ≡ true
writes_answer rank (what.MailWritten other ok) e = refl
writes_answer rank w e = absurd (cc)

-- the last disk operation was asked for by an entry of the log
place_more : (b : Bool) (before count : ℕ) → before ≤ count → (if b then suc count else before) ≤ suc count
place_more true before count h = omega arith
place_more false before count h = omega arith

-- a Tell counts by whether it answers
told_so : (said test : Tell → Bool) (rank : ℕ) (tell : Option Tell)
    → option_map_or (λ t. t.from.0 == rank && option_map_or said tell false && test t) tell false
    ≡ option_map_or (λ t. t.from.0 == rank && said t && test t) tell false
told_so said test rank None = refl
told_so said test rank (Some t) = refl

-- the entry as it was read after a log
abbrev pub read_after : List Line → ℕ → ℕ → What → Reading
read_after log place tick entry =
    record {
      place = place;
      tick = tick;
      what = entry;
      asked = (if is_answer entry then ask_place log else 0);
      answers = option_map_or (answers log) (tell_of entry) false;
    }

asked_behind : (answer writes : Bool) (before asked : ℕ) → (writes ≡ true → answer ≡ true) → before ≤ asked
    → (if writes then (if answer then asked else 0) else before) ≤ asked
asked_behind true true before asked only h = omega arith
asked_behind false true before asked only h = absurd (let z : false ≡ true = only refl in cc)
asked_behind answer false before asked only h = h

before_asked : (answer writes : Bool) (before asked : ℕ) → (writes ≡ true → answer ≡ true) → before ≤ asked
    → writes ≡ true → before ≤ (if answer then asked else 0)
before_asked true writes before asked only h e = h
before_asked false writes before asked only h e = absurd (let z : false ≡ true = only e in cc)

pub peer_taken : (peer : Peer) (log : List Line) (rank place tick : ℕ) (w : What) → place ≡ suc (length log) → PeerFor peer log rank
    → PeerFor (peer_after rank (read_after log place tick w) peer) (taken_in log tick w) rank
unfolding out_time slot_read_since reset_since told ask_place
peer_taken peer log rank place tick w here h = record {
  outs = cc;
  cleans = λ p.
      ap (λ b. (nat_lt p (if is_answer w then ask_place log else 0) && reads_slot is_clean_slot rank w) || b) (h.cleans p)
      ∙ later (reads_slot is_clean_slot rank w) p peer.clean_asked (if is_answer w then ask_place log else 0);
  seens = λ p.
      ap (λ b. (nat_lt p (if is_answer w then ask_place log else 0) && reads_slot is_seen_slot rank w) || b) (h.seens p)
      ∙ later (reads_slot is_seen_slot rank w) p peer.seen_asked (if is_answer w then ask_place log else 0);
  resets = λ p.
      ap (λ o. if nat_lt p (if is_answer w then ask_place log else 0) && writes_reset rank w then Some tick else o) (h.resets p)
      ∙ reset_later (writes_reset rank w) p (if is_answer w then ask_place log else 0) peer.reset_asked tick peer.reset_tick
      (before_asked (is_answer w) (writes_reset rank w) peer.reset_asked (ask_place log) (writes_answer rank w) h.behind);
  behind = asked_behind (is_answer w) (writes_reset rank w) peer.reset_asked (ask_place log) (writes_answer rank w) h.behind;
  frees =
      ap (λ b. tells (λ tell. not tell.holds) rank log w || (not (is_view w) && b)) h.frees
      ∙ ap (λ b. b || (not (is_view w) && peer.free)) (sym (told_so (answers log) (λ tell. not tell.holds) rank (tell_of w)));
  tolds =
      ap (λ b. tells (λ tell. true) rank log w || (not (is_view w) && b)) h.tolds
      ∙ ap (λ b. b || (not (is_view w) && peer.told)) (sym (told_so (answers log) (λ tell. true) rank (tell_of w)));
}

pub peer_given : (peer : Peer) (log : List Line) (rank tick : ℕ) (w : What) (outs : List Out)
    → PeerFor peer (taken_in log tick w) rank → PeerFor peer (with_outs log tick w outs) rank
unfolding out_time slot_read_since reset_since told ask_place
peer_given peer log rank tick w outs h = record {
  outs = h.outs;
  cleans = h.cleans;
  seens = h.seens;
  resets = h.resets;
  behind = place_later (is_some (disk_of outs)) (ask_place log) (length log) peer.reset_asked (ask_place-within log) h.behind;
  frees = h.frees;
  tolds = h.tolds;
}
  where
    place_later : (b : Bool) (before count asked : ℕ) → before ≤ count → asked ≤ before → asked ≤ (if b then suc count else before)
    place_later true before count asked few h = omega arith
    place_later false before count asked few h = h
