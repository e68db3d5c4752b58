-- One entry more of a node that takes part.
use Rattle.std.proofs.Common.{◌≡◌, ℕ, Bool, true, false, List, [], ◌∷◌, None, Some, refl, ap, subst, ◌∙◌}
use Rattle.std.specs.Prelude.{if◌then◌else◌}
use Rattle.qn_model.specs.declared.configuration.Settings.{Settings}
use Rattle.qn_model.specs.declared.disk.Message.{Message}
use Rattle.qn_model.specs.declared.entries.What.{What}
use Rattle.qn_model.specs.declared.entries.What.TheVariants as what
use Rattle.qn_model.specs.declared.life.Phase.{Phase}
use Rattle.qn_model.specs.declared.life.Phase.TheVariants.{Dying, Gone}
use Rattle.qn_model.specs.declared.outputs.HaltKind.TheVariants as halt
use Rattle.qn_model.specs.declared.outputs.Out.{Out}
use Rattle.qn_model.specs.declared.outputs.Out.TheVariants as out
use Rattle.qn_model.specs.declared.votes.VoteWhat.{VoteWhat}
use Rattle.qn_model.specs.Log.{Line, claim_of, claimed, disk_of, has_start, has_stop, is_answer, op_out}
use Rattle.qn_model.specs.Phases.{deadly_of, in_time, is_booting, is_leaving, is_live, message_of, next_phase, phase}
use Rattle.qn_model.specs.NodeVotes.{vote_of, votes}
use Rattle.qn_model.specs.NodeOutputs.{acts, live_outs, mail_feeds, newest_outs, outs_at, taken_in, with_read}
use Rattle.qn_fence.specs.Fence.{FenceFor}
use Rattle.qn_fence.specs.declared.fencing.Fence.{Fence}
use Rattle.qn_heard.specs.Heard.{HeardBefore}
use Rattle.qn_heard.specs.declared.listener.Heard.{Heard}
use Rattle.qn_node.specs.declared.live.Live.{Live}
use Rattle.qn_node.specs.declared.live.Course.TheVariants as course
use Rattle.qn_model.specs.Fitting.{is_closed}
use Rattle.qn_node.specs.Live.{LiveFor, LiveTook, course_by, course_of, live_phase, with_outs}
use Rattle.qn_node.specs.Resource.{after_entry}
use Rattle.qn_node.specs.Rest.{RestFor}
use Rattle.qn_node.specs.Tally.{TallyFor}
use Rattle.qn_node.specs.declared.tally.Tally.{Tally}
use Rattle.qn_node.proofs.Acting.{live_if}
use Rattle.qn_node.proofs.LiveReads.{Reads, end_parts, feeds_part, goes_on, halt_part, live_acts}
use Rattle.qn_node.proofs.ResourceSteps.{resource_taken}

-- the votes with one entry more
pub counted : (tally : Tally) (s : Settings) (me : ℕ) (log : List Line) (tick : ℕ) (vote : VoteWhat) (r : What)
    → TallyFor tally s (record { tick = tick; what = vote } ∷ votes log) → vote ≡ vote_of log r → TallyFor tally s (votes (with_read s me log tick r))
unfolding votes
counted tally s me log tick vote r h is = subst (λ v. TallyFor tally s (record { tick = tick; what = v } ∷ votes log)) is h

pub counted_taken : (tally : Tally) (s : Settings) (log : List Line) (tick : ℕ) (vote : VoteWhat) (r : What)
    → TallyFor tally s (record { tick = tick; what = vote } ∷ votes log) → vote ≡ vote_of log r → TallyFor tally s (votes (taken_in log tick r))
unfolding votes
counted_taken tally s log tick vote r h is = subst (λ v. TallyFor tally s (record { tick = tick; what = v } ∷ votes log)) is h

-- the node once it has taken the entry in
pub took : (live : Live) (s : Settings) (me : ℕ) (log : List Line) (tick : ℕ) (r : What) (feeds leaving : Bool) (heard : Heard) (fence : Fence)
    → LiveFor live s me log → Reads log r → course_of s log tick r ≡ course.Act feeds leaving
    → ((line : Line) → line.tick ≡ tick → line.what ≡ r → claim_of (disk_of line.outs) ≡ None → HeardBefore heard s me (line ∷ log))
    → FenceFor fence s (taken_in log tick r)
    → LiveTook (record live { leaving = leaving; op = if is_answer r then None else live.op; resource = after_entry tick r live.resource; heard = heard; fence = fence })
    s me log tick r
unfolding phase op_out
took live s me log tick r feeds leaving heard fence h reads goes hears fences =
    let timely = in_time tick log in
    let goes_from = subst (λ p. course_by (deadly_of (message_of r)) (is_closed r) (mail_feeds tick log r) (is_leaving (next_phase s r timely p)) ≡ course.Act feeds leaving) h.phases goes in
    record {
      phases = ap (next_phase s r timely) h.phases ∙ (goes_on s r timely live.leaving (mail_feeds tick log r) feeds leaving reads.plain goes_from).takes_part;
      loops = h.loops;
      claims = h.claims;
      is_out = ap (λ o. if is_answer r then None else o) h.is_out;
      no_boot = live_if (is_answer r) None live.op refl h.no_boot;
      plain = reads.plain;
      has_resource = resource_taken live.resource log _ h.has_resource refl refl reads.stops;
      watches = h.watches;
      fences = fences;
      hears = hears;
    }

outs_of_live : (p : Phase) (leaving : Bool) (boot live : List Out) → p ≡ live_phase leaving → (if is_booting p then boot else (if is_live p then live else [])) ≡ live
outs_of_live p true boot live is = rw is
outs_of_live p false boot live is = rw is

-- what comes out of a node that takes part
live_newest : (live : Live) (s : Settings) (me : ℕ) (log : List Line) (tick : ℕ) (r : What) → LiveFor live s me log
    → newest_outs (with_read s me log tick r) ≡ live_outs s me (taken_in log tick r) r (mail_feeds tick log r) (deadly_of (message_of r))
unfolding outs_at
live_newest live s me log tick r h = outs_of_live (phase s log) live.leaving _ _ h.phases

pub act_newest : (live : Live) (s : Settings) (me : ℕ) (log : List Line) (tick : ℕ) (r : What) (feeds leaving : Bool) → LiveFor live s me log
    → course_of s log tick r ≡ course.Act feeds leaving → Reads log r
    → newest_outs (with_read s me log tick r) ≡ acts s me (taken_in log tick r) r feeds
act_newest live s me log tick r feeds leaving h goes reads =
    let timely = in_time tick log in
    let goes_from = subst (λ p. course_by (deadly_of (message_of r)) (is_closed r) (mail_feeds tick log r) (is_leaving (next_phase s r timely p)) ≡ course.Act feeds leaving) h.phases goes in
    let on = goes_on s r timely live.leaving (mail_feeds tick log r) feeds leaving reads.plain goes_from in
    live_newest live s me log tick r h
    ∙ (ap (λ deadly. live_outs s me (taken_in log tick r) r (mail_feeds tick log r) deadly) on.alive
    ∙ (live_acts s me (taken_in log tick r) r (mail_feeds tick log r) on.open_still
    ∙ ap (acts s me (taken_in log tick r) r) (feeds_part s r (mail_feeds tick log r) _ feeds leaving goes)))

pub act_log : (s : Settings) (me : ℕ) (log : List Line) (tick : ℕ) (r : What) (outs : List Out) → newest_outs (with_read s me log tick r) ≡ outs
    → with_read s me log tick r ≡ with_outs log tick r outs
act_log s me log tick r outs is = ap (with_outs log tick r) is

-- a node that takes part no more
rest_stands : (live : Live) (s : Settings) (me : ℕ) (log : List Line) (tick : ℕ) (r : What) (after : Phase) (only : Out) → LiveFor live s me log → Reads log r
    → next_phase s r (in_time tick log) (phase s log) ≡ after → is_live after ≡ false → is_answer r ≡ true
    → newest_outs (with_read s me log tick r) ≡ only ∷ []
    → has_start (only ∷ []) ≡ false → has_stop (only ∷ []) ≡ false → disk_of (only ∷ []) ≡ None
    → RestFor (record { phase = after; claims = Some live.incarnation; resource = after_entry tick r live.resource }) s (with_read s me log tick r)
unfolding phase claimed op_out
rest_stands live s me log tick r after only h reads next quiet answer outs no_start no_stop no_op = record {
  phases = next;
  not_live = quiet;
  not_first = refl;
  claims = rw (outs, no_op) h.claims;
  none_out = rw (outs, no_op, answer);
  resource = resource_taken live.resource log _ h.has_resource (ap has_start outs ∙ no_start) (ap has_stop outs ∙ no_stop) reads.stops;
}

-- a deadly message is the answer of a read of the own mailbox
record IsDeadly (w : What) : Type 0 where
  answer : is_answer w ≡ true
  dying : (s : Settings) (timely : Bool) (before : Phase) → next_phase s w timely before ≡ Dying

deadly_mail : (w : What) (message : Message) → deadly_of (message_of w) ≡ Some message → IsDeadly w
deadly_mail what.Begin message e = absurd (cc)
deadly_mail what.BeginClean message e = absurd (cc)
deadly_mail (what.Header seen) message e = absurd (cc)
deadly_mail (what.SlotRead rank seen) message e = absurd (cc)
deadly_mail (what.MailChecked seen) message e = absurd (cc)
deadly_mail (what.Claimed ok) message e = absurd (cc)
deadly_mail (what.Cleared ok) message e = absurd (cc)
deadly_mail (what.MailRead seen) message e = record { answer = refl; dying = λ s timely before. rw e }
deadly_mail (what.MailWritten rank ok) message e = absurd (cc)
deadly_mail (what.View view) message e = absurd (cc)
deadly_mail (what.Ask ask) message e = absurd (cc)
deadly_mail (what.Tell tell) message e = absurd (cc)
deadly_mail (what.Device agrees) message e = absurd (cc)
deadly_mail what.Tick message e = absurd (cc)
deadly_mail (what.Stopped ok) message e = absurd (cc)
deadly_mail what.Leave message e = absurd (cc)
deadly_mail (what.Closed ok) message e = absurd (cc)

-- the end of the close
record IsEnd (w : What) : Type 0 where
  answer : is_answer w ≡ true
  gone : (s : Settings) (timely : Bool) (before : Phase) → next_phase s w timely before ≡ Gone
  disarms : (s : Settings) (me : ℕ) (log : List Line) (fed : Bool) → live_outs s me log w fed None ≡ out.Disarm ∷ []

closed_end : (w : What) → is_closed w ≡ true → IsEnd w
closed_end what.Begin e = absurd (cc)
closed_end what.BeginClean e = absurd (cc)
closed_end (what.Header seen) e = absurd (cc)
closed_end (what.SlotRead rank seen) e = absurd (cc)
closed_end (what.MailChecked seen) e = absurd (cc)
closed_end (what.Claimed ok) e = absurd (cc)
closed_end (what.Cleared ok) e = absurd (cc)
closed_end (what.MailRead seen) e = absurd (cc)
closed_end (what.MailWritten rank ok) e = absurd (cc)
closed_end (what.View view) e = absurd (cc)
closed_end (what.Ask ask) e = absurd (cc)
closed_end (what.Tell tell) e = absurd (cc)
closed_end (what.Device agrees) e = absurd (cc)
closed_end what.Tick e = absurd (cc)
closed_end (what.Stopped ok) e = absurd (cc)
closed_end what.Leave e = absurd (cc)
closed_end (what.Closed ok) e = record { answer = refl; gone = λ s timely before. refl; disarms = λ s me log fed. refl }

pub halt_newest : (live : Live) (s : Settings) (me : ℕ) (log : List Line) (tick : ℕ) (r : What) (message : Message) → LiveFor live s me log
    → course_of s log tick r ≡ course.Halt message
    → newest_outs (with_read s me log tick r) ≡ out.Halt (halt.Deadly message) ∷ []
halt_newest live s me log tick r message h goes =
    live_newest live s me log tick r h
    ∙ ap (λ deadly. live_outs s me (taken_in log tick r) r (mail_feeds tick log r) deadly) (halt_part _ _ _ _ message goes)

pub halt_stands : (live : Live) (s : Settings) (me : ℕ) (log : List Line) (tick : ℕ) (r : What) (message : Message) → LiveFor live s me log → Reads log r
    → course_of s log tick r ≡ course.Halt message
    → RestFor (record { phase = Dying; claims = Some live.incarnation; resource = after_entry tick r live.resource }) s (with_read s me log tick r)
halt_stands live s me log tick r message h reads goes =
    let deadly = deadly_mail r message (halt_part _ _ _ _ message goes) in
    rest_stands live s me log tick r Dying (out.Halt (halt.Deadly message)) h reads (deadly.dying s (in_time tick log) (phase s log)) refl deadly.answer
    (halt_newest live s me log tick r message h goes) refl refl refl

pub end_newest : (live : Live) (s : Settings) (me : ℕ) (log : List Line) (tick : ℕ) (r : What) → LiveFor live s me log
    → course_of s log tick r ≡ course.End
    → newest_outs (with_read s me log tick r) ≡ out.Disarm ∷ []
end_newest live s me log tick r h goes =
    let parts = end_parts _ _ _ _ goes in
    live_newest live s me log tick r h
    ∙ (ap (λ deadly. live_outs s me (taken_in log tick r) r (mail_feeds tick log r) deadly) parts.0
    ∙ (closed_end r parts.1).disarms s me (taken_in log tick r) (mail_feeds tick log r))

pub end_stands : (live : Live) (s : Settings) (me : ℕ) (log : List Line) (tick : ℕ) (r : What) → LiveFor live s me log → Reads log r
    → course_of s log tick r ≡ course.End
    → RestFor (record { phase = Gone; claims = Some live.incarnation; resource = after_entry tick r live.resource }) s (with_read s me log tick r)
end_stands live s me log tick r h reads goes =
    let parts = end_parts _ _ _ _ goes in
    let end = closed_end r parts.1 in
    rest_stands live s me log tick r Gone out.Disarm h reads (end.gone s (in_time tick log) (phase s log)) refl end.answer
    (end_newest live s me log tick r h goes) refl refl refl
