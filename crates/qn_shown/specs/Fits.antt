-- What the values of a status file are, by their types and bounds. This project's profile.
use Rattle.std.specs.Prelude.{ℕ, ◌<◌, ◌≤◌, ◌^◌, List, [], ◌∷◌, Option, Some, None, length}
use Rattle.qn_base.specs.declared.ids.NodeId.{NodeId}
use Rattle.qn_model.specs.declared.votes.Answer.{Answer}
use Rattle.qn_shown.specs.declared.shown.Arbiter.{Arbiter}
use Rattle.qn_shown.specs.declared.shown.Candidate.{Candidate}
use Rattle.qn_shown.specs.declared.shown.Candidate.TheVariants as candidate
use Rattle.qn_shown.specs.declared.shown.Counts.{Counts}
use Rattle.qn_shown.specs.declared.shown.Heard.{Heard}
use Rattle.qn_shown.specs.declared.shown.Heard.TheVariants.{Unsaid, Nothing, Said}
use Rattle.qn_shown.specs.declared.shown.HostStanding.{HostStanding}
use Rattle.qn_shown.specs.declared.shown.Mailbox.{Mailbox}
use Rattle.qn_shown.specs.declared.shown.Peer.{Peer}
use Rattle.qn_shown.specs.declared.shown.Shown.{Shown}
use Rattle.qn_shown.specs.declared.shown.ShownView.{ShownView}
use Rattle.qn_shown.specs.declared.shown.Told.{Told}

-- a number of 64 bits
abbrev pub Fits : ℕ → Type 0
Fits n = n < 2 ^ 64

-- the id of a node
abbrev pub IsId : NodeId → Type 0
IsId id = (0 < id.0) × (id.0 < 2 ^ 32)

-- a text of at most so many bytes
abbrev pub Within : ℕ → List ℕ → Type 0
Within most text = length text ≤ most

abbrev pub OnValue : {A : Type 0} → (A → Type 0) → Option A → Type 0
OnValue P None = Unit {0}
OnValue P (Some a) = P a

abbrev pub AllOf : {A : Type 0} → (A → Type 0) → List A → Type 0
AllOf P [] = Unit {0}
AllOf P (a ∷ rest) = P a × AllOf P rest

abbrev pub ToldFits : Told → Type 0
ToldFits told = Fits told.held_ms × Fits told.incarnation

abbrev pub HeardFits : Heard → Type 0
HeardFits Unsaid = Unit {0}
HeardFits Nothing = Unit {0}
HeardFits (Said told tick) = ToldFits told × Fits tick

pub record PeerFits (peer : Peer) : Type 0 where
  pub hello_tick : OnValue Fits peer.hello_tick
  pub id : IsId peer.id
  pub name : OnValue (Within 63) peer.name
  pub network_down : OnValue Fits peer.network_down
  pub refused : OnValue Fits peer.refused
  pub told : HeardFits peer.told

abbrev pub CandidateFits : Candidate → Type 0
CandidateFits candidate.Unsaid = Unit {0}
CandidateFits candidate.Unnamed = Unit {0}
CandidateFits candidate.Nobody = Unit {0}
CandidateFits (candidate.Named id) = IsId id

pub record ArbiterFits (arbiter : Arbiter) : Type 0 where
  pub address : OnValue (Within 256) arbiter.address
  pub age_ms : Fits arbiter.age_ms
  pub no : Fits arbiter.no
  pub polls : Fits arbiter.polls
  pub refused : Fits arbiter.refused
  pub yes : Fits arbiter.yes

abbrev pub StandingFits : HostStanding → Type 0
StandingFits standing = standing.weight ≤ 254

pub record ViewFits (view : ShownView) : Type 0 where
  pub candidate : CandidateFits view.candidate
  pub id : Fits view.id
  pub members : AllOf IsId view.members.items
  pub count : length view.members.items ≤ 32

pub record AnswerFits (answer : Answer) : Type 0 where
  pub expected : Fits answer.expected
  pub quorum : Fits answer.quorum
  pub votes : Fits answer.votes

pub record CountsFit (counts : Counts) : Type 0 where
  pub dropped : Fits counts.dropped
  pub late : Fits counts.late
  pub refused : Fits counts.refused
  pub unwritten : Fits counts.unwritten

pub record MailboxFits (mailbox : Mailbox) : Type 0 where
  pub by : OnValue IsId mailbox.by
  pub tick : OnValue Fits mailbox.tick

pub record FitsTypes (s : Shown) : Type 0 where
  pub answer : AnswerFits s.answer
  pub arbiter : OnValue ArbiterFits s.arbiter
  pub counts : CountsFit s.counts
  pub end : OnValue (Within 256) s.end
  pub held_ms : OnValue Fits s.held_ms
  pub id : IsId s.id
  pub images : OnValue Fits s.images
  pub incarnation : OnValue Fits s.incarnation
  pub loop_ms : s.loop_ms ≤ 3600000
  pub mailbox : MailboxFits s.mailbox
  pub name : OnValue (Within 63) s.name
  pub peers : AllOf PeerFits s.peers.items
  pub peer_count : length s.peers.items ≤ 32
  pub pid : Fits s.pid
  pub standing : OnValue StandingFits s.standing
  pub tick : Fits s.tick
  pub time_ms : Fits s.time_ms
  pub view : OnValue ViewFits s.view
  pub why : Within 256 s.why
