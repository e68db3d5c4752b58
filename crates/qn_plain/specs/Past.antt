-- What a history comes to, entry by entry, and which log it stands for.
use Rattle.std.specs.Prelude.{◌≡◌, ◌≤◌, ◌<◌, ℕ, Bool, true, false, List, length, Option, ◌&&◌, ◌==◌, ◌+◌, if◌then◌else◌}
use Rattle.std.specs.Option.{option_map_or}
use Rattle.qn_base.specs.declared.ids.View.{View}
use Rattle.qn_base.specs.Candidates.{is_barred, is_named}
use Rattle.qn_base.specs.Members.{is_member}
use Rattle.qn_model.specs.declared.configuration.Settings.{Settings}
use Rattle.qn_model.specs.declared.packets.Tell.{Tell}
use Rattle.qn_model.specs.declared.entries.What.{What}
use Rattle.qn_model.specs.declared.entries.What.TheVariants as what
use Rattle.qn_model.specs.declared.votes.VoteWhat.{VoteWhat}
use Rattle.qn_model.specs.declared.votes.VoteWhat.TheVariants as vote
use Rattle.qn_model.specs.Log.{Line, is_answer, is_view}
use Rattle.qn_model.specs.Phases.{is_live, is_up}
use Rattle.qn_model.specs.NodeVotes.{install, is_same_view, votes}
use Rattle.qn_model.specs.Hearing.{tell_of}
use Rattle.qn_model.specs.Fitting.{answers_op, is_for, is_own_view}
use Rattle.qn_plain.specs.declared.peer.Reading.{Reading}
use Rattle.qn_plain.specs.declared.past.Past.{Past}
use Rattle.qn_plain.specs.Life.{IsClaimable, life_of, life_taken}
use Rattle.qn_plain.specs.Peer.{PeerFor, peer_after, peer_at}
use Rattle.qn_plain.specs.Tally.{tally_after, tally_of}

-- whether a view is the present one
abbrev pub is_shown : Option View → View → Bool
is_shown present asked = option_map_or (λ own. is_same_view own asked) present false

-- whether a rank is a member of the present view
abbrev pub is_in : Option View → ℕ → Bool
is_in present rank = option_map_or (λ view. is_member view.members rank) present false

-- whether the present view names a rank
abbrev pub is_named_in : Option View → ℕ → Bool
is_named_in present rank = option_map_or (λ view. is_named view rank) present false

-- whether the present view says that none of its members may start
abbrev pub is_barred_in : Option View → Bool
is_barred_in present = option_map_or (λ view. is_barred view) present false

-- whether a Tell answers the entries so far
abbrev pub past_answers : Past → Tell → Bool
past_answers past tell =
    option_map_or (λ number. number == tell.incarnation) past.life.claimed false && past.installs == tell.install && is_shown past.votes.view tell.view

-- an entry as it was read, by what is known before it
abbrev pub reading_of : ℕ → ℕ → What → Past → Reading
reading_of place tick entry past =
    record {
      place = place;
      tick = tick;
      what = entry;
      asked = if is_answer entry then past.life.ask_place else 0;
      answers = option_map_or (past_answers past) (tell_of entry) false;
    }

-- what an entry is to the count of votes, by whether it is a Tell that answers
abbrev pub vote_said : Bool → What → VoteWhat
vote_said answers (what.View view) = vote.View view
vote_said answers (what.Device agrees) = vote.Device agrees
vote_said answers (what.Tell tell) = if answers && tell.released then vote.Released else vote.Tick
vote_said answers what.Begin = vote.Tick
vote_said answers what.BeginClean = vote.Tick
vote_said answers (what.Header seen) = vote.Tick
vote_said answers (what.SlotRead rank seen) = vote.Tick
vote_said answers (what.MailChecked seen) = vote.Tick
vote_said answers (what.Claimed ok) = vote.Tick
vote_said answers (what.Cleared ok) = vote.Tick
vote_said answers (what.MailRead seen) = vote.Tick
vote_said answers (what.MailWritten rank ok) = vote.Tick
vote_said answers (what.Ask ask) = vote.Tick
vote_said answers what.Tick = vote.Tick
vote_said answers (what.Stopped ok) = vote.Tick
vote_said answers what.Leave = vote.Tick
vote_said answers (what.Closed ok) = vote.Tick

-- whether an entry fits at a place
abbrev pub fits_at : Settings → ℕ → ℕ → Past → What → Bool
fits_at s me place past what.Begin = place == 1
fits_at s me place past what.BeginClean = place == 1
fits_at s me place past (what.View view) = is_live past.life.phase && is_own_view s me view
fits_at s me place past (what.Ask ask) = is_live past.life.phase && is_for s me ask.from ask.to
fits_at s me place past (what.Tell tell) = is_live past.life.phase && is_for s me tell.from tell.to
fits_at s me place past (what.Device agrees) = is_live past.life.phase
fits_at s me place past (what.Stopped ok) = past.life.stop_due
fits_at s me place past what.Leave = is_up past.life.phase
fits_at s me place past what.Tick = true
fits_at s me place past (what.Header seen) = answers_op past.life.op (what.Header seen)
fits_at s me place past (what.SlotRead rank seen) = answers_op past.life.op (what.SlotRead rank seen)
fits_at s me place past (what.MailChecked seen) = answers_op past.life.op (what.MailChecked seen)
fits_at s me place past (what.Claimed ok) = answers_op past.life.op (what.Claimed ok)
fits_at s me place past (what.Cleared ok) = answers_op past.life.op (what.Cleared ok)
fits_at s me place past (what.MailRead seen) = answers_op past.life.op (what.MailRead seen)
fits_at s me place past (what.MailWritten rank ok) = answers_op past.life.op (what.MailWritten rank ok)
fits_at s me place past (what.Closed ok) = answers_op past.life.op (what.Closed ok)

-- an entry as it is read at a place: one that does not fit is a Tick
abbrev pub read_at : Settings → ℕ → ℕ → Past → What → What
read_at s me place past entry = if fits_at s me place past entry then entry else what.Tick

-- an entry as it was read was taken in, before its outputs
pub record TakesIn (s : Settings) (reading : Reading) (old new : Past) : Type 0 where
  pub life : new.life ≡ life_taken s reading.tick reading.what old.life
  pub tally : new.votes ≡ tally_after s (record { tick = reading.tick; what = vote_said reading.answers reading.what }) old.votes
  pub count : new.installs ≡ (if is_view reading.what then old.installs + 1 else old.installs)
  pub each : (rank : ℕ) → rank < 32 → peer_at new.peers rank ≡ peer_after rank reading (peer_at old.peers rank)

-- what is kept of a history stands for its log
pub record PastFor (s : Settings) (past : Past) (log : List Line) : Type 0 where
  pub few : length s.nodes ≤ 32
  pub lives : past.life ≡ life_of s log
  pub claimable : IsClaimable past.life
  pub tallies : past.votes ≡ tally_of s (votes log)
  pub installed : past.installs ≡ install log
  pub peers : (rank : ℕ) → rank < 32 → PeerFor (peer_at past.peers rank) log rank

-- no reset was written after a tick
abbrev pub ResetsBy : Past → ℕ → Type 0
ResetsBy past tick = (rank : ℕ) → rank < 32 → (peer_at past.peers rank).reset_tick ≤ tick
