-- The rules that look at the disk, and the ranks of well formed events.
use Rattle.std.proofs.Common.{◌≡◌, ℕ, ◌<◌, ◌≤◌, Bool, true, length, Some, not, ◌||◌, sym, ◌∙◌, ap, subst, arith}
use Rattle.std.proofs.lemmas.Bool.{leb-true}
use Rattle.std.specs.Prelude.{nat_le}
use Rattle.qn_base.specs.declared.ids.Rank.{Rank}
use Rattle.qn_base.specs.lemmas.Bools.{first_of_both, second_of_both}
use Rattle.qn_cluster.specs.EventRanks.{rank_configured}
use Rattle.qn_model.specs.declared.configuration.Settings.{Settings}
use Rattle.qn_model.specs.declared.disk.Message.{Message}
use Rattle.qn_model.specs.declared.events.Event.{Event}
use Rattle.qn_model.specs.declared.events.Event.TheVariants as event
use Rattle.qn_model.specs.World.{World}
use Rattle.qn_model.specs.Rules.{is_configured, is_on, is_well_formed, may_operate}
use Rattle.qn_model.specs.Sectors.{is_deadly}
use Rattle.qn_model.specs.Steps.{touched}
use Rattle.qn_world.specs.Standing.{IsStanding}
use Rattle.qn_world.specs.Whole.{Whole}

-- ---- ranks

-- the rank of a well formed event has a seat
pub rank_within : (w : Whole) (event : Event) (rank : Rank) → IsStanding w → is_well_formed w.settings event ≡ true → touched event ≡ Some rank
    → rank.0 < length w.seats
rank_within w event rank standing formed e = subst (λ count. rank.0 < count) (sym standing.1.cluster.count) (rank_configured w.settings event rank formed e)

pub rank_few : (w : Whole) (event : Event) (rank : Rank) → IsStanding w → is_well_formed w.settings event ≡ true → touched event ≡ Some rank → rank.0 < 32
rank_few w event rank standing formed e =
    let few = standing.1.cluster.valid.few_nodes in let below = rank_configured w.settings event rank formed e in omega arith

-- the number of a leftover is 1 or more
pub late_number : (s : Settings) (rank : Rank) (number : ℕ) → is_well_formed s (event.Late rank number) ≡ true → 1 ≤ number
unfolding is_well_formed
late_number s rank number formed = leb-true 1 number (first_of_both (nat_le 1 number) _ (second_of_both (is_configured s rank.0) _ formed))

-- rule 10, by the mailbox of a rank
pub operator_rule : (w : Whole) (d : World) (i : ℕ) (sent there : Message) (on : Bool) → there ≡ d.mailboxes i → on ≡ is_on w.settings i d
    → (is_deadly sent || not (is_deadly there) || not on) ≡ may_operate w.settings i sent d
operator_rule w d i sent there on holds runs =
    ap (λ message. is_deadly sent || not (is_deadly message) || not on) holds
    ∙ ap (λ on. is_deadly sent || not (is_deadly (d.mailboxes i)) || not on) runs

pub few_seats : (w : Whole) → IsStanding w → length w.seats ≤ 32
few_seats w standing = subst (λ count. count ≤ 32) (sym standing.1.cluster.count) standing.1.cluster.valid.few_nodes
