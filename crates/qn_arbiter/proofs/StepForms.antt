-- The world after each kind of event.
use Rattle.std.proofs.Common.{◌≡◌, ℕ, [], ◌∷◌, ◌++◌, Option, None, Some, ◌*◌, refl, sym, ◌∙◌, ap, ap₂}
use Rattle.std.specs.Prelude.{unwrap_or}
use Rattle.std.specs.Option.{option_map, option_map_or, option_to_list}
use Rattle.std.proofs.lemmas.List.{append-nil}
use Rattle.qn_base.specs.declared.ids.Rank.{Rank}
use Rattle.qn_safety.specs.declared.arbiter_event.ArbiterEvent.TheVariants as beside
use Rattle.qn_safety.specs.declared.lease.Lease.{Lease}
use Rattle.qn_safety.specs.declared.polls.Poll.{Poll}
use Rattle.qn_safety.specs.declared.polls.Reply.{Reply}
use Rattle.qn_safety.specs.ArbiterRules.{pass_of}
use Rattle.qn_safety.specs.ArbiterSteps.{advanced_arbiter, arbiter_after, booted_arbiter, hearing, played, poll_sent, pollers_after, pollers_with, reply_sent, reply_to, step_beside}
use Rattle.qn_safety.specs.ArbiterWorld.{Arbiter, ArbiterWorld, poll_at, standing_at}
use Rattle.qn_safety.specs.Poller.{Standing, next_poll, with_sent}
use Rattle.qn_model.specs.declared.configuration.Settings.{Settings}
use Rattle.qn_model.specs.declared.events.Event.{Event}
use Rattle.qn_model.specs.declared.times.Timing.{Timing}
use Rattle.qn_model.specs.Steps.{step}
use Rattle.qn_model.specs.World.{put}
use Rattle.qn_arbiter.specs.Stepping.{heard_at, heard_by}

module _ (s : Settings) (t : Timing) (l : Lease) (d : ArbiterWorld) where
  pub after_one : (one : Event) → step_beside s t l (beside.One one) d
      ≡ record d {
        world = step s t one d.world;
        arbiter = option_map (advanced_arbiter (100 * unwrap_or (pass_of one) 0)) d.arbiter;
        pollers = pollers_with l one d.pollers;
      }
  unfolding step_beside played arbiter_after pollers_after poll_sent reply_sent
  after_one one =
      ap₂ (λ polls replies. record {
        world = step s t one d.world;
        arbiter = option_map (advanced_arbiter (100 * unwrap_or (pass_of one) 0)) d.arbiter;
        pollers = pollers_with l one d.pollers;
        polls = polls;
        replies = replies;
      }) (append-nil d.polls) (append-nil d.replies)

  pub after_pass_with : (hundredths : ℕ) (one : Event) → step_beside s t l (beside.PassWith hundredths one) d
      ≡ record d { world = step s t one d.world; arbiter = option_map (advanced_arbiter hundredths) d.arbiter }
  unfolding step_beside played arbiter_after pollers_after poll_sent reply_sent
  after_pass_with hundredths one =
      ap₂ (λ polls replies. record {
        world = step s t one d.world;
        arbiter = option_map (advanced_arbiter hundredths) d.arbiter;
        pollers = d.pollers;
        polls = polls;
        replies = replies;
      }) (append-nil d.polls) (append-nil d.replies)

  pub after_boot : (base : ℕ) → step_beside s t l (beside.ArbiterBoot base) d ≡ record d { arbiter = Some (booted_arbiter l.lease base) }
  unfolding step_beside played arbiter_after pollers_after poll_sent reply_sent
  after_boot base =
      ap₂ (λ polls replies. record d { arbiter = Some (booted_arbiter l.lease base); polls = polls; replies = replies }) (append-nil d.polls) (append-nil d.replies)

  pub after_crash : step_beside s t l beside.ArbiterCrash d ≡ record d { arbiter = None }
  unfolding step_beside played arbiter_after pollers_after poll_sent reply_sent
  after_crash = ap₂ (λ polls replies. record d { arbiter = None; polls = polls; replies = replies }) (append-nil d.polls) (append-nil d.replies)

  pub after_poll : (rank : Rank) (at : Standing) → standing_at s rank.0 d ≡ Some at → step_beside s t l (beside.Poll rank) d
      ≡ record d {
        pollers = put d.pollers rank.0 (with_sent rank at (d.pollers rank.0));
        polls = d.polls ++ next_poll rank at (d.pollers rank.0) ∷ [];
      }
  unfolding step_beside played arbiter_after pollers_after poll_sent reply_sent
  after_poll rank at e =
      ap₂ (λ o replies. record d {
        pollers = option_map_or (λ at. put d.pollers rank.0 (with_sent rank at (d.pollers rank.0))) o d.pollers;
        polls = d.polls ++ option_to_list (option_map (λ at. next_poll rank at (d.pollers rank.0)) o);
        replies = replies;
      }) e (append-nil d.replies)

  pub after_reply : (number : ℕ) (one : Event) → played s (beside.Reply number) d ≡ Some one → step_beside s t l (beside.Reply number) d
      ≡ record d { world = step s t one d.world }
  unfolding step_beside arbiter_after pollers_after poll_sent reply_sent
  after_reply number one e =
      ap (λ o. record d { world = option_map_or (λ one. step s t one d.world) o d.world; polls = d.polls ++ []; replies = d.replies ++ [] }) e
      ∙ ap₂ (λ polls replies. record d { world = step s t one d.world; polls = polls; replies = replies }) (append-nil d.polls) (append-nil d.replies)

pub some_same : {A : Type 0} (a b : A) → Some a ≡ Some b → a ≡ b
some_same a b e = cc

pub none_some : {A : Type 0} (a : A) → None ≡ Some a → ⊥
none_some a e = cc

-- the poll that is heard, and its reply
pub record HeardAt (number : ℕ) (d : ArbiterWorld) (poll : Poll) (reply : Reply) : Type 0 where
  pub there : poll_at number d ≡ Some poll
  pub sent : reply_sent (beside.Hear number) d ≡ Some reply
  pub to : reply.to ≡ poll.from

pub heard_there : (number : ℕ) (d : ArbiterWorld) (poll : Poll) (reply : Reply) → heard_at number d ≡ Some (poll, reply) → HeardAt number d poll reply
unfolding reply_sent
heard_there number d poll reply e = by_both (poll_at number d) d.arbiter refl refl e
  where
    by_both : (p : Option Poll) (a : Option Arbiter) → poll_at number d ≡ p → d.arbiter ≡ a
        → option_map_or (λ poll. option_map (heard_by poll) a) p None ≡ Some (poll, reply) → HeardAt number d poll reply
    by_both None a pe ae is = absurd (none_some (poll, reply) is)
    by_both (Some other) None pe ae is = absurd (none_some (poll, reply) is)
    by_both (Some other) (Some arbiter) pe ae is =
        let both = some_same (other, reply_to arbiter other) (poll, reply) is in
        record {
          there = pe ∙ ap (λ both. Some both.0) both;
          sent =
              ap (λ a. option_map_or (λ arbiter. option_map (reply_to arbiter) (poll_at number d)) a None) ae
              ∙ (ap (λ p. option_map (reply_to arbiter) p) pe ∙ ap (λ both. Some both.1) both);
          to = sym (ap (λ both. both.1.to) both) ∙ ap (λ both. both.0.from) both;
        }

-- the world after the arbiter heard a poll
pub after_hear : (s : Settings) (t : Timing) (l : Lease) (d : ArbiterWorld) (number : ℕ) (poll : Poll) (reply : Reply) → HeardAt number d poll reply
    → step_beside s t l (beside.Hear number) d ≡ record d { arbiter = option_map (hearing poll) d.arbiter; replies = d.replies ++ reply ∷ [] }
unfolding step_beside played arbiter_after pollers_after poll_sent
after_hear s t l d number poll reply h =
    ap₂ (λ p polls. record d {
      arbiter = option_map_or (λ poll. option_map (hearing poll) d.arbiter) p d.arbiter;
      polls = polls;
      replies = d.replies ++ option_to_list (reply_sent (beside.Hear number) d);
    }) h.there (append-nil d.polls)
    ∙ ap (λ sent. record d { arbiter = option_map (hearing poll) d.arbiter; replies = d.replies ++ option_to_list sent }) h.sent
