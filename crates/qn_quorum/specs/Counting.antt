-- What each entry does to a count, and what a count answers, by what it keeps.
use Rattle.std.specs.Prelude.{ℕ, Bool, true, Option, None, Some, ◌+◌, ◌&&◌, ◌||◌, max, nat_le, nat_lt, is_some, if◌then◌else◌}
use Rattle.std.specs.Option.{option_map, option_map_or}
use Rattle.qn_base.specs.declared.ids.View.{View}
use Rattle.qn_model.specs.declared.configuration.Settings.{Settings}
use Rattle.qn_model.specs.declared.votes.Answer.{Answer}
use Rattle.qn_model.specs.Votes.{are_all_in, quorum_of, votes_among}
use Rattle.qn_quorum.specs.declared.counting.Present.{Present}
use Rattle.qn_quorum.specs.declared.counting.Quorum.{Quorum}
use Rattle.qn_quorum.specs.declared.deadlines.Deadline.{Deadline}
use Rattle.qn_quorum.specs.Agreed.{agreed_until}
use Rattle.qn_quorum.specs.Deadline.{deadline_at, is_reached}

-- the device's votes, by the settings: with last man standing they count for nothing (this project's profile)
abbrev pub votes_of_device : Settings → ℕ
votes_of_device s = if s.last_man_standing then 0 else option_map_or (λ device. device.votes) s.device 0

-- a count after a view, before last man standing is asked
abbrev pub with_view : ℕ → View → Quorum → Quorum
with_view tick view q =
    record {
      settings = q.settings;
      present = Some (record {
        votes = votes_among q.settings.nodes view.members;
        votes_with_device = votes_among q.settings.nodes view.members + votes_of_device q.settings;
        window_end = deadline_at (tick + q.settings.window);
        agreed_until = None;
      });
      expected = max q.expected (votes_among q.settings.nodes view.members);
      released = are_all_in q.settings.nodes view.members || q.released;
    }

-- what is kept of the present view, with another end of the device's yes
abbrev pub with_agreed : Option Deadline → Present → Present
with_agreed until p = record p { agreed_until = until }

-- a count after an answer of the device, before last man standing is asked
abbrev pub with_device : ℕ → Bool → Quorum → Quorum
with_device tick agrees q =
    let until = agreed_until q.settings.device (if agrees then Some tick else None) in
    record q { present = option_map (with_agreed until) q.present }

-- whether last man standing makes the present view's votes the expected ones
abbrev pub is_last_man : Quorum → Present → ℕ → Bool
is_last_man q p now =
    q.settings.last_man_standing && is_reached p.window_end now && q.released && nat_le (quorum_of q.settings q.expected) p.votes && nat_lt p.votes q.expected

-- a count after last man standing was asked
abbrev pub with_last_man : ℕ → Quorum → Quorum
with_last_man now q =
    record q { expected = option_map_or (λ p. if is_last_man q p now then p.votes else q.expected) q.present q.expected }

-- the votes of the present view that count at a tick: the device's too, until the end of its yes
abbrev pub votes_at : ℕ → Present → ℕ
votes_at now p =
    if option_map_or (λ end. is_reached end now) p.agreed_until true then p.votes else p.votes_with_device

-- the votes that count at a tick
abbrev pub counted : Quorum → ℕ → ℕ
counted q now = option_map_or (votes_at now) q.present 0

-- the answer at a tick
abbrev pub count_at : Quorum → ℕ → Answer
count_at q now =
    record {
      quorate = is_some q.present && q.released && nat_le (quorum_of q.settings q.expected) (counted q now);
      votes = counted q now;
      quorum = quorum_of q.settings q.expected;
      expected = q.expected;
      released = q.released;
    }
