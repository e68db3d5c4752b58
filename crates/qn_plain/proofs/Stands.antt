-- What is kept of a history stands for its log: entry by entry, and each question that is asked of it.
use Rattle.std.proofs.Common.{◌≡◌, ℕ, suc, ◌+◌, ◌-◌, ◌^◌, ◌<◌, Bool, false, List, [], ◌∷◌, length, Option, None, Some, refl, ap, sym, ◌∙◌, arith, subst}
use Rattle.std.specs.Prelude.{IsTrue, ◌&&◌, ◌==◌, if◌then◌else◌}
use Rattle.std.specs.Option.{option_map_or}
use Rattle.std.proofs.lemmas.Bool.Decides.{nat_tests}
use Rattle.qn_model.specs.declared.configuration.Settings.{Settings}
use Rattle.qn_model.specs.declared.packets.Tell.{Tell}
use Rattle.qn_model.specs.declared.entries.What.{What}
use Rattle.qn_model.specs.declared.entries.What.TheVariants as what
use Rattle.qn_model.specs.declared.outputs.Out.{Out}
use Rattle.qn_model.specs.lemmas.VoteLists.{present_view-votes}
use Rattle.qn_model.specs.Log.{Line, claimed, is_view, slot_number}
use Rattle.qn_model.specs.Phases.{is_live, is_up}
use Rattle.qn_model.specs.Fitting.{answers_op, fits, is_first, is_for, is_own_view, read_as}
use Rattle.qn_model.specs.Hearing.{tell_of}
use Rattle.qn_model.specs.NodeVotes.{answers, install, view, vote_of, votes}
use Rattle.qn_model.specs.NodeOutputs.{is_begin, taken_in}
use Rattle.qn_plain.specs.declared.past.Past.{Past}
use Rattle.qn_plain.specs.declared.peer.Reading.{Reading}
use Rattle.qn_plain.specs.Life.{IsClaimable, life_given, life_taken}
use Rattle.qn_plain.specs.Past.{PastFor, TakesIn, fits_at, past_answers, read_at, reading_of, vote_said}
use Rattle.qn_plain.specs.Peer.{PeerFor, peer_after, peer_at}
use Rattle.qn_plain.specs.Tally.{tally_after, tally_of}
use Rattle.qn_plain.proofs.Claimable.{claimable_taken}
use Rattle.qn_plain.proofs.EntryByEntry.{tally_of-cons}
use Rattle.qn_plain.proofs.Lives.{install-next, life_given-life_of, life_taken-life_of, vote_said-vote_of, with_outs}
use Rattle.qn_plain.proofs.Peers.{peer_given, peer_taken, read_after}

option_map_or-same : (first second : Tell → Bool) (tell : Option Tell) → ((t : Tell) → first t ≡ second t)
    → option_map_or first tell false ≡ option_map_or second tell false
option_map_or-same first second None same = refl
option_map_or-same first second (Some t) same = same t

not_first : (count place : ℕ) → place ≡ suc (suc count) → (place == 1) ≡ false
not_first count place here = grind (arith, nat_tests)

first_at : (log : List Line) (place : ℕ) → place ≡ suc (length log) → (place == 1) ≡ is_first log
first_at [] place here = ap (λ p. p == 1) here
first_at (line ∷ past) place here = not_first (length past) place here

module _ (s : Settings) (past : Past) (log : List Line) (h : PastFor s past log) where
  pub views : past.votes.view ≡ view log
  views = ap (λ t. t.view) h.tallies ∙ present_view-votes log

  pub answers-past : (tell : Tell) → past_answers past tell ≡ answers log tell
  answers-past tell = let claims : past.life.claimed ≡ claimed log = ap (λ l. l.claimed) h.lives in let v = views in let i = h.installed in cc

  pub reading-after : (place tick : ℕ) (w : What) → reading_of place tick w past ≡ read_after log place tick w
  reading-after place tick w =
      let said : option_map_or (past_answers past) (tell_of w) false ≡ option_map_or (answers log) (tell_of w) false
      = option_map_or-same (past_answers past) (answers log) (tell_of w) answers-past in
      let lives = h.lives in
      cc

  pub fits-past : (me place : ℕ) (w : What) → place ≡ suc (length log) → fits_at s me place past w ≡ fits s me log w
  fits-past me place what.Begin here = first_at log place here
  fits-past me place what.BeginClean here = first_at log place here
  fits-past me place (what.Header seen) here = ap (λ l. answers_op l.op (what.Header seen)) h.lives
  fits-past me place (what.SlotRead rank seen) here = ap (λ l. answers_op l.op (what.SlotRead rank seen)) h.lives
  fits-past me place (what.MailChecked seen) here = ap (λ l. answers_op l.op (what.MailChecked seen)) h.lives
  fits-past me place (what.Claimed ok) here = ap (λ l. answers_op l.op (what.Claimed ok)) h.lives
  fits-past me place (what.Cleared ok) here = ap (λ l. answers_op l.op (what.Cleared ok)) h.lives
  fits-past me place (what.MailRead seen) here = ap (λ l. answers_op l.op (what.MailRead seen)) h.lives
  fits-past me place (what.MailWritten rank ok) here = ap (λ l. answers_op l.op (what.MailWritten rank ok)) h.lives
  fits-past me place (what.View shown) here = ap (λ l. is_live l.phase && is_own_view s me shown) h.lives
  fits-past me place (what.Ask ask) here = ap (λ l. is_live l.phase && is_for s me ask.from ask.to) h.lives
  fits-past me place (what.Tell tell) here = ap (λ l. is_live l.phase && is_for s me tell.from tell.to) h.lives
  fits-past me place (what.Device agrees) here = ap (λ l. is_live l.phase) h.lives
  fits-past me place what.Tick here = refl
  fits-past me place (what.Stopped ok) here = ap (λ l. l.stop_due) h.lives
  fits-past me place what.Leave here = ap (λ l. is_up l.phase) h.lives
  fits-past me place (what.Closed ok) here = ap (λ l. answers_op l.op (what.Closed ok)) h.lives

  pub read-past : (me place : ℕ) (w : What) → place ≡ suc (length log) → read_at s me place past w ≡ read_as s me log w
  read-past me place w here = ap (λ b. if b then w else what.Tick) (fits-past me place w here)

votes_taken : (s : Settings) (log : List Line) (tick : ℕ) (w : What)
    → tally_after s (record { tick = tick; what = vote_of log w }) (tally_of s (votes log)) ≡ tally_of s (votes (taken_in log tick w))
unfolding votes
votes_taken s log tick w = tally_of-cons s (record { tick = tick; what = vote_of log w }) (votes log)

-- an entry was taken in
pub past_taken : (s : Settings) (old new : Past) (log : List Line) (place tick : ℕ) (w : What) (reading : Reading)
    → place ≡ suc (length log) → reading ≡ reading_of place tick w old → (IsTrue (is_begin w) → slot_number log < 2 ^ 64 - 1)
    → PastFor s old log → TakesIn s reading old new → PastFor s new (taken_in log tick w)
past_taken s old new log place tick w reading here is first h takes =
    let known : reading ≡ read_after log place tick w = is ∙ reading-after s old log h place tick w in
    let life : new.life ≡ life_taken s tick w old.life = takes.life ∙ ap (λ r. life_taken s r.tick r.what old.life) known in
    record {
      few = h.few;
      lives = life ∙ (ap (life_taken s tick w) h.lives ∙ life_taken-life_of s log tick w);
      claimable =
          subst IsClaimable (sym life)
          (claimable_taken s tick w old.life (λ begins. subst (λ l. l.slot_number < 2 ^ 64 - 1) (sym h.lives) (first begins)) h.claimable);
      tallies =
          takes.tally ∙ (ap (λ r. tally_after s (record { tick = r.tick; what = vote_said r.answers r.what }) old.votes) known
          ∙ (ap (tally_after s (record { tick = tick; what = vote_said (option_map_or (answers log) (tell_of w) false) w })) h.tallies
          ∙ (ap (λ v. tally_after s (record { tick = tick; what = v }) (tally_of s (votes log))) (vote_said-vote_of log w)
          ∙ votes_taken s log tick w)));
      installed =
          takes.count ∙ (ap (λ r. if is_view r.what then old.installs + 1 else old.installs) known
          ∙ (ap (λ n. if is_view w then n + 1 else n) h.installed ∙ sym (install-next log _)));
      peers = λ rank below.
          subst (λ p. PeerFor p (taken_in log tick w) rank)
          (sym (takes.each rank below ∙ ap (λ r. peer_after rank r (peer_at old.peers rank)) known))
          (peer_taken (peer_at old.peers rank) log rank place tick w here (h.peers rank below));
    }

-- the outputs were given
votes_given : (s : Settings) (log : List Line) (tick : ℕ) (w : What) (outs : List Out)
    → tally_of s (votes (taken_in log tick w)) ≡ tally_of s (votes (with_outs log tick w outs))
unfolding votes
votes_given s log tick w outs = refl

install_given : (log : List Line) (tick : ℕ) (w : What) (outs : List Out) → install (taken_in log tick w) ≡ install (with_outs log tick w outs)
unfolding install
install_given log tick w outs = refl

pub past_given : (s : Settings) (old new : Past) (log : List Line) (place tick : ℕ) (w : What) (outs : List Out)
    → place ≡ suc (length log) → new ≡ record old { life = life_given place tick outs old.life }
    → PastFor s old (taken_in log tick w) → PastFor s new (with_outs log tick w outs)
past_given s old new log place tick w outs here is h =
    subst (λ p. PastFor s p (with_outs log tick w outs)) (sym is)
    (record {
      few = h.few;
      claimable = h.claimable;
      lives = ap (λ p. life_given p tick outs old.life) here ∙ (ap (life_given (suc (length log)) tick outs) h.lives ∙ life_given-life_of s log tick w outs);
      tallies = h.tallies ∙ votes_given s log tick w outs;
      installed = h.installed ∙ install_given log tick w outs;
      peers = λ rank below. peer_given (peer_at old.peers rank) log rank tick w outs (h.peers rank below);
    })
