-- The node itself in its company, and the company among those that a view keeps.
use Rattle.std.proofs.Common.{◌≡◌, ℕ, ◌<◌, true, ◌==◌, if◌then◌else◌, length, ap, ◌∙◌, arith, eq-eqb, refl, Some, None}
use Rattle.std.specs.Prelude.{Option}
use Rattle.std.specs.Option.{option_map_or, option_or}
use Rattle.std.proofs.lemmas.Bool.{and_from, lt-ltb, or_left}
use Rattle.qn_base.specs.declared.ids.Mask.{Mask}
use Rattle.qn_base.specs.Members.{is_member}
use Rattle.qn_model.specs.lemmas.LeastRanks.{least_bound}
use Rattle.qn_member.specs.Maker.{Maker, able_nodes, company_at, company_under, has_configured, is_kept, is_led, kept_nodes, leader_at, leader_of, led_nodes}
use Rattle.qn_member.proofs.Ranks.{member_of-ranks_that, member-lt}

pub found_within : (one other : Option ℕ) (found count : ℕ) → ((n : ℕ) → one ≡ Some n → n < count) → ((n : ℕ) → other ≡ Some n → n < count)
    → option_or one other ≡ Some found → found < count
found_within None other found count first second is = second found is
found_within (Some n) other found count first second is = first found is

-- a leader is configured
pub leader_within : (m : Maker) (visible : Mask) (found : ℕ) → leader_of m visible ≡ Some found → found < length m.nodes
leader_within m visible found is =
    found_within _ _ found (length m.nodes)
    (λ n one. let within = least_bound (length m.nodes) 0 (is_member (able_nodes m visible)) n one in omega arith)
    (λ n other. let within = least_bound (length m.nodes) 0 (is_member visible) n other in omega arith) is

-- a node leads itself
pub led_has_own : (m : Maker) (visible : Mask) → m.me < length m.nodes → is_member (led_nodes m visible) m.me ≡ true
led_has_own m visible within =
    member_of-ranks_that (is_led m visible) (length m.nodes) m.me
    ∙ and_from _ _ (lt-ltb _ _ within) (or_left (m.me == m.me) _ (eq-eqb m.me m.me refl))

-- and is in its company
pub company_has_own : (m : Maker) → leader_at m ≡ Some m.me → is_member (company_at m) m.me ≡ true
company_has_own m leads =
    ap (λ (o : Option ℕ). is_member (option_map_or (company_under m m.seen) o m.seen) m.me) leads
    ∙ (ap (λ b. is_member (if b then led_nodes m m.seen else m.seen) m.me) (eq-eqb m.me m.me refl)
    ∙ led_has_own m m.seen (leader_within m m.seen m.me leads))

-- who is in company is kept
pub keeps_company : (tick : ℕ) (m : Maker) (company : Mask) → has_configured m.nodes company ≡ true
    → (rank : ℕ) → is_member company rank ≡ true → is_member (kept_nodes tick m company) rank ≡ true
keeps_company tick m company few rank member =
    member_of-ranks_that (is_kept tick m company) (length m.nodes) rank
    ∙ and_from _ _ (lt-ltb _ _ (member-lt company.0 (length m.nodes) rank few member)) (or_left (is_member company rank) _ member)
