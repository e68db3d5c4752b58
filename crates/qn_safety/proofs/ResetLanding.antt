-- A reset that lands: the mailbox that it marks, and the incarnation that it ends.
use Rattle.std.proofs.Common.{◌≡◌, Bool, true, false, List, ◌∷◌, Option, refl, sym, ap, ◌∙◌}
use Rattle.std.specs.Option.{option_map_or}
use Rattle.qn_base.specs.declared.ids.Rank.{Rank}
use Rattle.qn_model.specs.declared.configuration.Settings.{Settings}
use Rattle.qn_model.specs.declared.disk.Message.TheVariants as message
use Rattle.qn_model.specs.declared.events.Event.{Event}
use Rattle.qn_model.specs.declared.events.Event.TheVariants as event
use Rattle.qn_model.specs.declared.outputs.DiskOp.{DiskOp}
use Rattle.qn_model.specs.declared.outputs.DiskOp.TheVariants as disk
use Rattle.qn_model.specs.declared.times.Timing.{Timing}
use Rattle.qn_model.specs.lemmas.Moments.{put_same}
use Rattle.qn_model.specs.Log.{ask_place}
use Rattle.qn_model.specs.Moments.{Before, Itself, Moment, node}
use Rattle.qn_model.specs.Steps.{AllAllowed, landed, run, step}
use Rattle.qn_model.specs.Timing.{is_safe}
use Rattle.qn_model.specs.World.{World, op_at, taken}
use Rattle.qn_safety.specs.Landing.{HasPassed, LandsReset}
use Rattle.qn_safety.specs.Lemmas.{HasEnded}
use Rattle.qn_safety.specs.Earlier.{before_tail}
use Rattle.qn_safety.proofs.Runs.{span}
use Rattle.qn_safety.proofs.Events.{allowed_of, moments_grow, run_step, stage}
use Rattle.qn_safety.proofs.Landings.{LandedAt}
use Rattle.qn_safety.proofs.Fence.{fence}
use Rattle.qn_safety.proofs.Mail.{bad_mail_from}
use Rattle.qn_safety.proofs.Holders.{run_timed}

step_land : (s : Settings) (t : Timing) (rank : Rank) (w : World) → step s t (event.Land rank) w ≡ option_map_or (λ op. landed s t rank.0 op w) (op_at s rank.0 w) w
unfolding step
step_land s t rank w = refl

module _ {s : Settings} {t : Timing} {writer other : Rank} {earlier events : List Event} (it : LandsReset s t writer other earlier events) where
  -- the world after the landing
  lands : run s t (event.Land writer ∷ earlier) ≡ landed s t writer.0 (disk.WriteReset other) (run s t earlier)
  lands =
      run_step s t (event.Land writer) earlier
      ∙ step_land s t writer (run s t earlier)
      ∙ ap (λ (o : Option DiskOp). option_map_or (λ op. landed s t writer.0 op (run s t earlier)) o (run s t earlier)) it.out

  -- the landing, as an answer of the writer remembers it
  landing : (node s writer.0 (run s t earlier).moments).on ≡ true
      → LandedAt s t writer.0 (taken s t writer.0 (disk.WriteReset other) (run s t earlier)) (event.Land writer ∷ earlier)
  landing on = record {
    e = event.Land writer;
    earlier = earlier;
    back = Itself;
    op = disk.WriteReset other;
    on = on;
    out = it.out;
    lands = lands;
    value = refl;
    same = ap (λ (w : World). (node s writer.0 w.moments).boots) (sym lands);
    place = ap (λ (w : World). ask_place (node s writer.0 w.moments).log) lands;
  }

-- the mailbox holds the reset
pub landed_mailbox : (s : Settings) (t : Timing) (events earlier : List Event) (writer other : Rank) → LandsReset s t writer other earlier events
    → (run s t (event.Land writer ∷ earlier)).mailboxes other.0 ≡ message.Reset
landed_mailbox s t events earlier writer other it =
    ap (λ (w : World). w.mailboxes other.0) (lands it) ∙ put_same (run s t earlier).mailboxes other.0 message.Reset

-- the incarnation that was up is not running any more
pub landed_ends : (s : Settings) (t : Timing) (events earlier : List Event) (writer other : Rank) → is_safe t ≡ true → AllAllowed s t events → LandsReset s t writer other earlier events
    → HasPassed s t writer.0 (run s t earlier).moments (run s t events).moments → HasEnded s other.0 (run s t earlier).moments (run s t events).moments
unfolding landing
landed_ends s t events earlier writer other safe all it passed up same = by_on (node s other.0 now).on refl
  where
    at : List Moment
    at = (run s t earlier).moments

    now : List Moment
    now = (run s t events).moments

    since : Before at now
    since = moments_grow s t (before_tail it.back)

    stopped : (node s other.0 now).on ≡ true → ⊥
    stopped on =
        let allowed = allowed_of s t events all in
        let on_then = (span writer.0 (stage allowed).ruled since passed.same passed.on).on in
        let bad_mail = bad_mail_from allowed writer.0 other.0 _ (event.Land writer ∷ earlier) it.back (landing it on_then) other refl refl in
        fence (run_timed s t events all) other.0 at up bad_mail safe writer.0 now since Itself same on passed.same passed.on passed.waited

    by_on : (b : Bool) → (node s other.0 now).on ≡ b → (node s other.0 now).on ≡ false
    by_on false off = off
    by_on true on = absurd (stopped on)
