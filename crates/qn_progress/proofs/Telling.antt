-- An Ask is answered, and what the answer says is heard.
use Rattle.std.proofs.Common.{◌≡◌, ℕ, ◌<◌, Bool, true, false, List, ◌∷◌, ◌++◌, length, Some, refl, sym, ap, ◌∙◌, subst, ◌||◌, ◌&&◌, ◌==◌, not, nat_lt}
use Rattle.std.specs.Option.{option_map_or}
use Rattle.std.proofs.lemmas.Bool.{false≢true, eq-eqb, ne_eqb, lt-ltb}
use Rattle.qn_base.specs.declared.ids.View.{View}
use Rattle.qn_base.specs.Members.{is_member}
use Rattle.qn_base.specs.lemmas.Elements.{IsIn, First}
use Rattle.qn_model.specs.declared.configuration.Settings.{Settings}
use Rattle.qn_model.specs.declared.packets.Ask.{Ask}
use Rattle.qn_model.specs.declared.packets.Tell.{Tell}
use Rattle.qn_model.specs.declared.packets.Packet.TheVariants as packet
use Rattle.qn_model.specs.declared.entries.What.TheVariants as what
use Rattle.qn_model.specs.declared.outputs.Out.{Out}
use Rattle.qn_model.specs.declared.outputs.Out.TheVariants as out
use Rattle.qn_model.specs.declared.life.Phase.TheVariants.{Up}
use Rattle.qn_model.specs.Log.{Line, claimed, has_start, is_view}
use Rattle.qn_model.specs.Phases.{phase}
use Rattle.qn_model.specs.Holding.{holds}
use Rattle.qn_model.specs.Hearing.{told, tells, is_free}
use Rattle.qn_model.specs.NodeVotes.{view, install, released, is_present, is_same_view, answers}
use Rattle.qn_model.specs.Wanted.{rank_of, wanted_with_delay}
use Rattle.qn_model.specs.NodeOutputs.{when, disk_outs, acts, asks, gives_stop, gives_start, taken_in, with_read, mail_feeds}
use Rattle.qn_progress.proofs.Given.{acts_start, outs_up}
use Rattle.qn_progress.proofs.Steps.{outs_now}
use Rattle.qn_progress.proofs.Starts.{starts_of}
use Rattle.qn_progress.proofs.Asking.{in_left, in_right}

-- the Tell of a node that answers an Ask
abbrev pub tell_to : Settings → ℕ → List Line → Ask → Out
tell_to s me log ask =
    out.Send ask.from (packet.Tell (record {
      from = rank_of me;
      to = ask.from;
      incarnation = ask.incarnation;
      install = ask.install;
      view = ask.view;
      holds = (gives_start s me log || holds log);
      released = released s log;
    }))

-- a member that is up under that view answers at once
pub member_tells : (s : Settings) (me : ℕ) (past : List Line) (tick : ℕ) (ask : Ask) → phase s past ≡ Up → phase s (with_read s me past tick (what.Ask ask)) ≡ Up
    → is_present (taken_in past tick (what.Ask ask)) ask.view ≡ true → is_member ask.view.members ask.from.0 ≡ true
    → IsIn (tell_to s me (taken_in past tick (what.Ask ask)) ask) (outs_now s me past tick (what.Ask ask))
unfolding acts
member_tells s me past tick ask was stays sees member =
    subst (λ outs. IsIn (tell_to s me (taken_in past tick (what.Ask ask)) ask) outs) (sym (outs_up s me past tick (what.Ask ask) was stays))
    (in_left (disk_outs (wanted_with_delay s me (taken_in past tick (what.Ask ask)))) (in_left (asks s me (taken_in past tick (what.Ask ask)))
    (in_right (when (gives_stop s me (taken_in past tick (what.Ask ask))) out.Stop ++ when (gives_start s me (taken_in past tick (what.Ask ask))) out.Start ++ when (mail_feeds tick past (what.Ask ask)) out.Feed)
    (here (is_present (taken_in past tick (what.Ask ask)) ask.view) (is_member ask.view.members ask.from.0) (tell_to s me (taken_in past tick (what.Ask ask)) ask) sees member))))
  where
    here : (a b : Bool) (o : Out) → a ≡ true → b ≡ true → IsIn o (when (a && b) o)
    here true true o ea eb = First
    here true false o ea eb = absurd (false≢true eb)
    here false b o ea eb = absurd (false≢true ea)

-- a Tell that answers and says not holding frees its sender
pub member_free : (line : Line) (past : List Line) (tell : Tell) (j : ℕ) → line.what ≡ what.Tell tell → tell.from.0 ≡ j → answers past tell ≡ true → tell.holds ≡ false
    → is_free (line ∷ past) j ≡ true
unfolding told
member_free line past tell j is from answer none =
    ap (λ e. tells (λ (x : Tell). not x.holds) j past e || (not (is_view e) && told (λ (x : Tell). not x.holds) j past)) is
    ∙ hit (tell.from.0 == j) (answers past tell) tell.holds (told (λ (x : Tell). not x.holds) j past) (eq-eqb tell.from.0 j from) answer none
  where
    hit : (a b h rest : Bool) → a ≡ true → b ≡ true → h ≡ false → ((a && b && not h) || (not false && rest)) ≡ true
    hit a b h rest ea eb eh = rw ea (rw eb (rw eh refl))

-- a packet from another configured rank fits a node that is up
pub packet_fits : (s : Settings) (me from : ℕ) (up : Bool) → up ≡ true → from < length s.nodes → ¬ (from ≡ me)
    → (up && ((me == me) && nat_lt from (length s.nodes) && not (from == me))) ≡ true
packet_fits s me from up live below other = rw live (rw (eq-eqb me me refl) (rw (lt-ltb from (length s.nodes) below) (rw (ne_eqb from me other) refl)))

-- who answers that it holds, holds
pub teller_holds : (s : Settings) (me : ℕ) (past : List Line) (tick : ℕ) (ask : Ask) → phase s past ≡ Up → phase s (with_read s me past tick (what.Ask ask)) ≡ Up
    → (gives_start s me (taken_in past tick (what.Ask ask)) || holds (taken_in past tick (what.Ask ask))) ≡ true → holds (with_read s me past tick (what.Ask ask)) ≡ true
unfolding holds
teller_holds s me past tick ask was stays held = by_start (gives_start s me (taken_in past tick (what.Ask ask))) refl
  where
    before : (b : Bool) → b ≡ false → (b || holds (taken_in past tick (what.Ask ask))) ≡ true → holds (taken_in past tick (what.Ask ask)) ≡ true
    before true e h = absurd (false≢true (sym e))
    before false e h = h

    goes_on : (started rest : Bool) → rest ≡ true → (started || rest) ≡ true
    goes_on true rest e = refl
    goes_on false rest e = e

    by_start : (b : Bool) → gives_start s me (taken_in past tick (what.Ask ask)) ≡ b → holds (with_read s me past tick (what.Ask ask)) ≡ true
    by_start true gives =
        starts_of s me past tick (what.Ask ask)
        (ap has_start (outs_up s me past tick (what.Ask ask) was stays) ∙ acts_start s me (taken_in past tick (what.Ask ask)) (what.Ask ask) (mail_feeds tick past (what.Ask ask)) gives)
    by_start false idle = goes_on (has_start (outs_now s me past tick (what.Ask ask))) (holds past && not false) (before (gives_start s me (taken_in past tick (what.Ask ask))) idle held)

-- an answer to the Ask of this incarnation under this view counts
pub answer_counts : (past : List Line) (tell : Tell) (number : ℕ) (present : View) → claimed past ≡ Some number → number ≡ tell.incarnation → install past ≡ tell.install
    → view past ≡ Some present → tell.view ≡ present → answers past tell ≡ true
answer_counts past tell number present named same installed sees under =
    both (option_map_or (λ n. n == tell.incarnation) (claimed past) false) (install past == tell.install) (is_present past tell.view)
    (ap (λ c. option_map_or (λ n. n == tell.incarnation) c false) named ∙ eq-eqb number tell.incarnation same)
    (eq-eqb (install past) tell.install installed)
    (ap (λ v. is_present past v) under ∙ ap (λ v. option_map_or (λ own. is_same_view own present) v false) sees ∙ alike)
  where
    both : (a b c : Bool) → a ≡ true → b ≡ true → c ≡ true → (a && b && c) ≡ true
    both a b c ea eb ec = rw ea (rw eb (rw ec refl))

    alike : is_same_view present present ≡ true
    alike = rw (eq-eqb present.id present.id refl) (eq-eqb present.members.0 present.members.0 refl)
