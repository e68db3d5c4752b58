-- A member that holds, and stays quorate and up, goes on holding.
use Rattle.std.proofs.Common.{◌≡◌, ℕ, Bool, true, false, List, [], ◌∷◌, ◌++◌, Option, Some, None, refl, sym, ap, ap₂, ◌∙◌, subst, ◌&&◌, ◌||◌, not, if◌then◌else◌, filter, map, arith, ◌⊎◌, inl, inr}
use Rattle.std.specs.Prelude.{length}
use Rattle.std.specs.List.{range_with_len}
use Rattle.std.specs.Option.{option_map_or}
use Rattle.std.proofs.lemmas.Bool.{and_from, and_parts, and_right, false≢true, true≢false, or_right}
use Rattle.qn_base.specs.declared.ids.View.{View}
use Rattle.qn_model.specs.declared.configuration.Settings.{Settings}
use Rattle.qn_model.specs.declared.entries.What.{What}
use Rattle.qn_model.specs.declared.entries.What.TheVariants as what
use Rattle.qn_model.specs.declared.life.Phase.{Phase}
use Rattle.qn_model.specs.declared.life.Phase.TheVariants.{Up}
use Rattle.qn_model.specs.declared.outputs.DiskOp.{DiskOp}
use Rattle.qn_model.specs.declared.outputs.Out.{Out}
use Rattle.qn_model.specs.declared.outputs.Out.TheVariants as out
use Rattle.qn_model.specs.Fitting.{fits}
use Rattle.qn_model.specs.Holding.{answers_stop, holds, is_stopped, may_stop, stop_due}
use Rattle.qn_model.specs.Log.{Line, has_start, has_stop, now, timing}
use Rattle.qn_model.specs.Moments.{Before, Itself, Later, Moment, Running, is_holder, node, tick_of}
use Rattle.qn_model.specs.NodeOutputs.{acts, ask_to, asks, asks_under, disk_outs, gives_start, gives_stop, is_asked, is_asking, mail_feeds, outs_at, replies, reply, taken_in, when, with_read}
use Rattle.qn_model.specs.NodeVotes.{quorate_with_tie, view}
use Rattle.qn_model.specs.Phases.{is_leaving, phase}
use Rattle.qn_model.specs.Unmet.{is_given_away}
use Rattle.qn_model.specs.Wanted.{wanted_with_delay}
use Rattle.qn_safety.specs.Earlier.{before_length}
use Rattle.qn_progress.specs.Hearing.{HasHeld}
use Rattle.qn_progress.specs.Keeping.{AndThen, FromHere, MayKeep, KeepsOn, MayKeepSince}
use Rattle.qn_progress.proofs.Given.{outs_up}
use Rattle.qn_progress.proofs.Over.{Enters, Move, Rests, Restarts, move, not_booting, quorate_alike, given_alike}
use Rattle.qn_progress.proofs.Steps.{outs_now}

-- no Stop in two lists is none in both
stops_neither : (front rest : List Out) → has_stop front ≡ false → has_stop rest ≡ false → has_stop (front ++ rest) ≡ false
stops_neither [] rest e f = f
stops_neither (out.Halt kind ∷ front) rest e f = stops_neither front rest e f
stops_neither (out.Disarm ∷ front) rest e f = stops_neither front rest e f
stops_neither (out.Feed ∷ front) rest e f = stops_neither front rest e f
stops_neither (out.Start ∷ front) rest e f = stops_neither front rest e f
stops_neither (out.Stop ∷ front) rest e f = absurd (true≢false e)
stops_neither (out.Send to sent ∷ front) rest e f = stops_neither front rest e f
stops_neither (out.Disk op ∷ front) rest e f = stops_neither front rest e f

none_when : (b : Bool) (o : Out) → has_stop (o ∷ []) ≡ false → has_stop (when b o) ≡ false
none_when true o e = e
none_when false o e = refl

no_stop : (b : Bool) → b ≡ false → has_stop (when b out.Stop) ≡ false
no_stop true e = absurd (true≢false e)
no_stop false e = refl

none_replied : (s : Settings) (me : ℕ) (held : Bool) (log : List Line) (entry : What) → has_stop (replies s me held log entry) ≡ false
none_replied s me held log (what.Ask ask) = none_when _ _ refl
none_replied s me held log what.Begin = refl
none_replied s me held log what.BeginClean = refl
none_replied s me held log (what.Header seen) = refl
none_replied s me held log (what.SlotRead rank seen) = refl
none_replied s me held log (what.MailChecked seen) = refl
none_replied s me held log (what.Claimed ok) = refl
none_replied s me held log (what.Cleared ok) = refl
none_replied s me held log (what.MailRead seen) = refl
none_replied s me held log (what.MailWritten rank ok) = refl
none_replied s me held log (what.View installed) = refl
none_replied s me held log (what.Tell tell) = refl
none_replied s me held log (what.Device agrees) = refl
none_replied s me held log what.Tick = refl
none_replied s me held log (what.Stopped ok) = refl
none_replied s me held log what.Leave = refl
none_replied s me held log (what.Closed ok) = refl

none_asked : (me : ℕ) (log : List Line) (present : View) (ranks : List ℕ) → has_stop (map (ask_to me log present) ranks) ≡ false
none_asked me log present [] = refl
none_asked me log present (rank ∷ ranks) = none_asked me log present ranks

none_in_asks : (s : Settings) (me : ℕ) (log : List Line) → has_stop (asks s me log) ≡ false
none_in_asks s me log = by_test (is_asking s log) (view log)
  where
    by_test : (b : Bool) (v : Option View) → has_stop (if b then option_map_or (asks_under s me log) v [] else []) ≡ false
    by_test true (Some present) = none_asked me log present (filter (is_asked s me log) (range_with_len 0 (length s.nodes)))
    by_test true None = refl
    by_test false v = refl

none_on_disk : (op : Option DiskOp) → has_stop (disk_outs op) ≡ false
none_on_disk None = refl
none_on_disk (Some op) = refl

-- a node that takes part gives a Stop only where it is due
acts_stop : (s : Settings) (me : ℕ) (log : List Line) (entry : What) (fed : Bool) → gives_stop s me log ≡ false → has_stop (acts s me log entry fed) ≡ false
unfolding acts
acts_stop s me log entry fed e =
    stops_neither (when (gives_stop s me log) out.Stop ++ when (gives_start s me log) out.Start ++ when fed out.Feed ++ replies s me (gives_start s me log || holds log) log entry ++ asks s me log) (disk_outs (wanted_with_delay s me log))
    (stops_neither (when (gives_stop s me log) out.Stop ++ when (gives_start s me log) out.Start ++ when fed out.Feed ++ replies s me (gives_start s me log || holds log) log entry) (asks s me log)
    (stops_neither (when (gives_stop s me log) out.Stop ++ when (gives_start s me log) out.Start ++ when fed out.Feed) (replies s me (gives_start s me log || holds log) log entry)
    (stops_neither (when (gives_stop s me log) out.Stop ++ when (gives_start s me log) out.Start) (when fed out.Feed)
    (stops_neither (when (gives_stop s me log) out.Stop) (when (gives_start s me log) out.Start) (no_stop (gives_stop s me log) e) (none_when (gives_start s me log) out.Start refl))
    (none_when fed out.Feed refl))
    (none_replied s me (gives_start s me log || holds log) log entry))
    (none_in_asks s me log))
    (none_on_disk (wanted_with_delay s me log))

-- an entry that fits where no Stop is unanswered is no answer of one
no_answer : (s : Settings) (me : ℕ) (past : List Line) (entry : What) → fits s me past entry ≡ true → stop_due past ≡ false → is_stopped entry ≡ false
no_answer s me past (what.Stopped ok) fit calm = absurd (false≢true (sym calm ∙ fit))
no_answer s me past what.Begin fit calm = refl
no_answer s me past what.BeginClean fit calm = refl
no_answer s me past (what.Header seen) fit calm = refl
no_answer s me past (what.SlotRead rank seen) fit calm = refl
no_answer s me past (what.MailChecked seen) fit calm = refl
no_answer s me past (what.Claimed ok) fit calm = refl
no_answer s me past (what.Cleared ok) fit calm = refl
no_answer s me past (what.MailRead seen) fit calm = refl
no_answer s me past (what.MailWritten rank ok) fit calm = refl
no_answer s me past (what.View installed) fit calm = refl
no_answer s me past (what.Ask ask) fit calm = refl
no_answer s me past (what.Tell tell) fit calm = refl
no_answer s me past (what.Device agrees) fit calm = refl
no_answer s me past what.Tick fit calm = refl
no_answer s me past what.Leave fit calm = refl
no_answer s me past (what.Closed ok) fit calm = refl

-- no Stop comes of an entry of a node that is quorate and up, and whose view does not give its resource away
quorate_stops : (s : Settings) (me : ℕ) (log : List Line) → phase s log ≡ Up → quorate_with_tie s log (now log) ≡ true → is_given_away s me log ≡ false
    → gives_stop s me log ≡ false
quorate_stops s me log up quorate kept =
    ap (λ b. b && may_stop (timing log).loop_ms (now log) log)
    (and_right (holds log) (is_leaving (phase s log) || not (quorate_with_tie s log (now log)) || is_given_away s me log)
    (ap₂ (λ p q. is_leaving p || not q || is_given_away s me log) up quorate ∙ kept))

outs_stop : (s : Settings) (me : ℕ) (past : List Line) (tick : ℕ) (entry : What) → phase s past ≡ Up → phase s (with_read s me past tick entry) ≡ Up
    → quorate_with_tie s (with_read s me past tick entry) tick ≡ true → is_given_away s me (with_read s me past tick entry) ≡ false
    → has_stop (outs_now s me past tick entry) ≡ false
unfolding phase
outs_stop s me past tick entry was up quorate kept =
    ap has_stop (outs_up s me past tick entry was up)
    ∙ acts_stop s me (taken_in past tick entry) entry (mail_feeds tick past entry)
    (quorate_stops s me (taken_in past tick entry) up (quorate_alike s me past tick entry ∙ quorate) (given_alike s me past tick entry ∙ kept))

keeps_calm : {s : Settings} {me : ℕ} {old new : Running} → Move s me old new → phase s old.log ≡ Up → phase s new.log ≡ Up
    → quorate_with_tie s new.log (now new.log) ≡ true → is_given_away s me new.log ≡ false → stop_due old.log ≡ false → stop_due new.log ≡ false
unfolding stop_due
keeps_calm (Rests log clock boots) was up quorate kept calm = ap stop_due log ∙ calm
keeps_calm {s = s} {me = me} {old = old} (Enters entry fit log clock boots) was up quorate kept calm =
    ap stop_due log
    ∙ ap (λ b. b || (stop_due old.log && not (answers_stop entry))) (outs_stop s me old.log (tick_of old.clock) entry was (sym (ap (phase s) log) ∙ up) (subst (λ l. quorate_with_tie s l (now l) ≡ true) log quorate) (subst (λ l. is_given_away s me l ≡ false) log kept))
    ∙ ap (λ b. b && not (answers_stop entry)) calm
keeps_calm (Restarts line log tick begins) was up quorate kept calm = not_booting _ begins up

keeps_hold : {s : Settings} {me : ℕ} {old new : Running} → Move s me old new → phase s new.log ≡ Up → stop_due old.log ≡ false → holds old.log ≡ true → holds new.log ≡ true
unfolding holds
keeps_hold (Rests log clock boots) up calm held = ap holds log ∙ held
keeps_hold {s = s} {me = me} {old = old} (Enters entry fit log clock boots) up calm held =
    ap holds log
    ∙ or_right (has_start (outs_now s me old.log (tick_of old.clock) entry)) (holds old.log && not (is_stopped entry))
    (ap (λ b. b && not (is_stopped entry)) held ∙ ap not (no_answer s me old.log entry fit calm))
keeps_hold (Restarts line log tick begins) up calm held = not_booting _ begins up

kept_last : {s : Settings} {rank : ℕ} {old new : List Moment} → MayKeepSince s rank old new → MayKeep s rank new
kept_last (FromHere is) = is
kept_last (AndThen before is) = is

calm_since : {s : Settings} {rank : ℕ} {old new : List Moment} → stop_due (node s rank old).log ≡ false → MayKeepSince s rank old new → stop_due (node s rank new).log ≡ false
calm_since calm (FromHere is) = calm
calm_since {s = s} {rank = rank} calm (AndThen {moment = moment} {earlier = earlier} before is) =
    keeps_calm (move s rank moment earlier) (kept_last before).up is.up is.quorate is.kept (calm_since calm before)

-- a moment at which it held, between the two
held_since : {s : Settings} {rank : ℕ} {old at new : List Moment} → stop_due (node s rank old).log ≡ false → MayKeepSince s rank old new → Before old at → Before at new
    → holds (node s rank at).log ≡ true → holds (node s rank new).log ≡ true
held_since calm (FromHere is) after Itself held = held
held_since calm (FromHere is) after (Later moment back) held = absurd (let one = before_length after in let two = before_length back in omega arith)
held_since calm (AndThen before is) after Itself held = held
held_since {s = s} {rank = rank} calm (AndThen {moment = moment} {earlier = earlier} before is) after (Later newest back) held =
    keeps_hold (move s rank moment earlier) is.up (calm_since calm before) (held_since calm before after back held)

pub holder_holds : {s : Settings} {rank : ℕ} {old new : List Moment} → KeepsOn s rank old new → HasHeld s rank old new → is_holder s new rank ≡ true
holder_holds {s = s} {rank = rank} {old = old} {new = new} keeps held =
    and_from (node s rank new).on (holds (node s rank new).log) (kept_last keeps.since).on
    (held_since keeps.calm keeps.since held.after held.back (and_parts (node s rank held.at).on (holds (node s rank held.at).log) held.holds).1)

-- some node holds: this one, or one that goes on
pub by_member : (s : Settings) (rank : ℕ) (old mid new : List Moment) → ((other : ℕ) → HasHeld s other old mid → is_holder s new other ≡ true)
    → (is_holder s new rank ≡ true) ⊎ ((other : ℕ) × HasHeld s other old mid) → (holder : ℕ) × (is_holder s new holder ≡ true)
by_member s rank old mid new goes (inl holds) = (rank, holds)
by_member s rank old mid new goes (inr held) = (held.0, goes held.0 held.1)

-- and gives no Stop meanwhile
pub keeper_calm : {s : Settings} {rank : ℕ} {old new : List Moment} → KeepsOn s rank old new → stop_due (node s rank new).log ≡ false
keeper_calm keeps = calm_since keeps.calm keeps.since
