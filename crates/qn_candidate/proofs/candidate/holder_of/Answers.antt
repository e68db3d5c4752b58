use Rattle.std.proofs.Common.{◌≡◌, ℕ, Bool, true, false, Option, ap, sym, ◌∙◌}
use Rattle.std.specs.Prelude.{if◌then◌else◌}
use Rattle.std.specs.Option.{option_map, option_map_or}
use Rattle.qn_base.specs.declared.ids.Rank.{Rank}
use Rattle.qn_model.specs.LeastMembers.{first-least}
use Rattle.qn_model.specs.Unmet.{least_from}
use Rattle.qn_candidate.specs.Candidate.{is_holding}
use Rattle.qn_candidate.proofs.candidate.holder_of.Goals as goal
use Rattle.qn_candidate.proofs.candidate.holder_of.Goals.{in_default-via-in-Some+else-has, in_default-via-in_default}

-- where the named one does not hold the least one does
else_by : (b : Bool) (here least : Option ℕ) {found : Option ℕ} → b ≡ false → found ≡ least → found ≡ (if b then here else least)
else_by true here least is same = cc
else_by false here least is same = same

pub returns-in_default : goal.returns-in_default
returns-in_default c =
    let f = c.args.facts.now in
    let members = c.args.members in
    let least = first-least c.both-holding.result 32 (is_holding f members) c.first.result
    c.first.ensures.within c.first.ensures.member c.first.ensures.least c.first.ensures.none
    (λ j below. c.both-holding.ensures j) in
    let holds = λ (rank : Rank). is_holding f members rank.0 in
    let named = option_map (λ (rank : Rank). rank.0) c.args.named in
    elim c.in_default.branch [
      | in_default-via-in-Some+else-has w ↦
          else_by (option_map_or holds c.args.named false) named (least_from 32 0 (is_holding f members))
          (ap (λ n. option_map_or holds n false) w.in-Some.is
          ∙ (sym (c.both-holding.ensures w.in-Some.rank.0) ∙ (sym w.has.ensures ∙ w.if-has.false)))
          least
      | in_default-via-in_default w ↦
          else_by (option_map_or holds c.args.named false) named (least_from 32 0 (is_holding f members))
          (ap (λ n. option_map_or holds n false) w.in_default.is) least
    ]
