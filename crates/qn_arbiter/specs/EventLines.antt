-- The line of an event beside an arbiter, as a schedule spells it: this project's profile.
use Rattle.std.specs.Prelude.{ℕ, List, [], ◌∷◌, Option, None, Some, codes, decimal, drop, is_some, if◌then◌else◌}
use Rattle.std.specs.List.{join_with_byte}
use Rattle.std.specs.Option.{option_map}
use Rattle.qn_model.specs.declared.events.Event.{Event}
use Rattle.qn_safety.specs.declared.arbiter_event.ArbiterEvent.{ArbiterEvent}
use Rattle.qn_safety.specs.declared.arbiter_event.ArbiterEvent.TheVariants.{One, PassWith, ArbiterBoot, ArbiterCrash, Poll, Hear, Reply}
use Rattle.qn_safety.specs.ArbiterRules.{pass_of}
use Rattle.qn_sched.specs.EventLines.{event_words, id_word}

-- the words of a pass after its first, None where the event is no pass
abbrev pub pass_words : List ℕ → Event → Option (List (List ℕ))
pass_words ids one = if is_some (pass_of one) then Some (drop 1 (event_words ids one)) else None

-- the words of the line of an event, None where no line says it: where the arbiter's clock is to advance at an event that is no
-- pass
abbrev pub arbiter_words : List ℕ → ArbiterEvent → Option (List (List ℕ))
arbiter_words ids (One one) = Some (event_words ids one)
arbiter_words ids (PassWith advance one) = option_map (λ words. codes "pass-with" ∷ decimal advance ∷ words) (pass_words ids one)
arbiter_words ids (ArbiterBoot base) = Some (codes "arbiter-boot" ∷ decimal base ∷ [])
arbiter_words ids ArbiterCrash = Some (codes "arbiter-crash" ∷ [])
arbiter_words ids (Poll rank) = Some (codes "poll" ∷ id_word ids rank ∷ [])
arbiter_words ids (Hear number) = Some (codes "hear" ∷ decimal number ∷ [])
arbiter_words ids (Reply number) = Some (codes "reply" ∷ decimal number ∷ [])

-- the line of an event, without its end, where the nodes have these ids by rank
unfoldable pub arbiter_line : List ℕ → ArbiterEvent → Option (List ℕ)
arbiter_line ids event = option_map (join_with_byte 32) (arbiter_words ids event)
