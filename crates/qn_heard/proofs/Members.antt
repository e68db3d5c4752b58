-- The members that a listener names.
use Rattle.std.proofs.Common.{◌≡◌, ℕ, ◌<◌, ◌≤◌, Bool, true, false, List, ◌∷◌, length, Some, None, refl, ◌&&◌, not, sym, ◌∙◌, ap, arith}
use Rattle.std.specs.Prelude.{suc, zero, ◌+◌, [], filter, map, if◌then◌else◌, Option, unwrap_or, ◌==◌, IfSome, IfNone}
use Rattle.std.specs.Option.{option_map, option_map_or, option_or}
use Rattle.std.specs.List.{range_with_len}
use Rattle.qn_base.specs.declared.ids.Mask.{Mask}
use Rattle.qn_base.specs.declared.ids.Rank.{Rank}
use Rattle.qn_base.specs.declared.ids.View.{View}
use Rattle.qn_base.specs.Members.{is_member}
use Rattle.qn_base.specs.lemmas.Ranges.{filter_same}
use Rattle.qn_model.specs.declared.configuration.Settings.{Settings}
use Rattle.qn_model.specs.declared.outputs.Out.TheVariants as out
use Rattle.qn_model.specs.declared.packets.Packet.TheVariants as packet
use Rattle.qn_model.specs.Log.{Line, claim_of, claimed, disk_of, incarnation}
use Rattle.qn_model.specs.NodeOutputs.{ask_to, asks, asks_under, is_asked, is_asking}
use Rattle.qn_model.specs.Wanted.{rank_of}
use Rattle.qn_model.specs.NodeVotes.{view, is_in_view}
use Rattle.qn_model.specs.Hearing.{is_free, is_held}
use Rattle.qn_model.specs.Unmet.{holder, least_from, least_rank, unheard}
use Rattle.qn_model.specs.LeastMembers.{first-least}
use Rattle.qn_heard.specs.declared.listener.Heard.{Heard}
use Rattle.qn_heard.specs.Heard.{Hears, is_told}

held_parts : (other told free : Bool) → (other && told && not free) ≡ (other && (told && not free))
held_parts true told free = refl
held_parts false told free = refl

unheard_parts : (other told free : Bool) → (other && not told && not free) ≡ (other && not free && not (told && not free))
unheard_parts true true true = refl
unheard_parts true true false = refl
unheard_parts true false true = refl
unheard_parts true false false = refl
unheard_parts false told free = refl

module _ (heard : Heard) (s : Settings) (me : ℕ) (log : List Line) (count : ℕ) (first : Option Rank)
    (h : Hears heard me log) (nodes : length s.nodes ≡ count) (few : count ≤ 32) where
  -- the least member of a mask that agrees with a test
  first_of_mask : (mask : Mask) (test : ℕ → Bool) → ((rank : ℕ) → rank < 32 → is_member mask rank ≡ test rank)
      → IfSome first (λ rank. rank.0 < count) → IfSome first (λ rank. is_member mask rank.0 ≡ true)
      → IfSome first (λ rank. (j : ℕ) → j < rank.0 → is_member mask j ≡ false)
      → IfNone first ((j : ℕ) → j < count → is_member mask j ≡ false)
      → option_map (λ rank. rank.0) first ≡ least_rank s test
  first_of_mask mask test same within member least none =
      first-least mask count test first within member least none (λ j below. same j (omega arith))
      ∙ ap (λ n. least_from n 0 test) (sym nodes)

  -- those who answered, and never said that they do not hold
  pub holder_first : (others told mask : Mask)
      → ((rank : ℕ) → rank < 32 → is_member others rank ≡ (is_in_view log rank && not (rank == me)))
      → ((rank : ℕ) → is_member told rank ≡ (is_member others rank && is_member heard.told rank))
      → ((rank : ℕ) → is_member mask rank ≡ (is_member told rank && not (is_member heard.free rank)))
      → IfSome first (λ rank. rank.0 < count) → IfSome first (λ rank. is_member mask rank.0 ≡ true)
      → IfSome first (λ rank. (j : ℕ) → j < rank.0 → is_member mask j ≡ false)
      → IfNone first ((j : ℕ) → j < count → is_member mask j ≡ false)
      → option_map (λ rank. rank.0) first ≡ holder s me log
  holder_first others told mask is_others is_told_too is_mask =
      first_of_mask mask (λ rank. is_in_view log rank && not (rank == me) && is_held log rank) (λ rank below.
      let other = is_others rank below in
      let free = h.frees rank below in
      let was = h.tolds rank below in
      is_mask rank
      ∙ (ap (λ b. b && not (is_member heard.free rank)) (is_told_too rank)
      ∙ (ap (λ b. b && is_member heard.told rank && not (is_member heard.free rank)) other
      ∙ (ap (λ b. is_in_view log rank && not (rank == me) && b && not (is_member heard.free rank)) was
      ∙ (ap (λ b. is_in_view log rank && not (rank == me) && is_told log rank && not b) free
      ∙ held_parts (is_in_view log rank && not (rank == me)) (is_told log rank) (is_free log rank))))))

  -- those who did not answer
  pub unheard_first : (others untold mask : Mask)
      → ((rank : ℕ) → rank < 32 → is_member others rank ≡ (is_in_view log rank && not (rank == me)))
      → ((rank : ℕ) → is_member untold rank ≡ (is_member others rank && not (is_member heard.told rank)))
      → ((rank : ℕ) → is_member mask rank ≡ (is_member untold rank && not (is_member heard.free rank)))
      → IfSome first (λ rank. rank.0 < count) → IfSome first (λ rank. is_member mask rank.0 ≡ true)
      → IfSome first (λ rank. (j : ℕ) → j < rank.0 → is_member mask j ≡ false)
      → IfNone first ((j : ℕ) → j < count → is_member mask j ≡ false)
      → option_map (λ rank. rank.0) first ≡ unheard s me log
  unheard_first others untold mask is_others is_untold is_mask =
      first_of_mask mask (λ rank. is_in_view log rank && not (rank == me) && not (is_free log rank) && not (is_held log rank)) (λ rank below.
      let other = is_others rank below in
      let free = h.frees rank below in
      let was = h.tolds rank below in
      is_mask rank
      ∙ (ap (λ b. b && not (is_member heard.free rank)) (is_untold rank)
      ∙ (ap (λ b. b && not (is_member heard.told rank) && not (is_member heard.free rank)) other
      ∙ (ap (λ b. is_in_view log rank && not (rank == me) && not b && not (is_member heard.free rank)) was
      ∙ (ap (λ b. is_in_view log rank && not (rank == me) && not (is_told log rank) && not b) free
      ∙ unheard_parts (is_in_view log rank && not (rank == me)) (is_told log rank) (is_free log rank))))))

-- the incarnation before a line that claims none
claimed_before : (log : List Line) (line : Line) (number : ℕ) → claim_of (disk_of line.outs) ≡ None
    → claimed (line ∷ log) ≡ Some number → claimed log ≡ Some number
unfolding claimed
claimed_before log line number none is = ap (λ claim. option_or claim (claimed log)) (sym none) ∙ is

-- the Ask to a member
pub ask_sent : (heard : Heard) (me : ℕ) (log : List Line) (line : Line) (to : Rank) (present : View)
    → Hears heard me (line ∷ log) → claim_of (disk_of line.outs) ≡ None → heard.view ≡ Some present
    → Some (out.Send to (packet.Ask (record { from = heard.me; to = to; incarnation = heard.incarnation; install = heard.installs; view = present })))
    ≡ option_map (λ present. ask_to me (line ∷ log) present to.0) (view (line ∷ log))
ask_sent heard me log line to present h none is =
    let was : claimed log ≡ Some heard.incarnation = claimed_before log line heard.incarnation none h.incarnations in
    let there : view (line ∷ log) ≡ Some present = h.views ∙ is in
    let own : heard.me ≡ rank_of me = ap rank_of h.own in
    let number : heard.incarnation ≡ unwrap_or (incarnation (line ∷ log)) 0 = sym (ap (λ o. unwrap_or o 0) was) in
    ap (λ rank. Some (out.Send to (packet.Ask (record { from = rank; to = to; incarnation = heard.incarnation; install = heard.installs; view = present })))) own
    ∙ (ap (λ n. Some (out.Send to (packet.Ask (record { from = rank_of me; to = to; incarnation = n; install = heard.installs; view = present })))) number
    ∙ (ap (λ n. Some (out.Send to (packet.Ask (record { from = rank_of me; to = to; incarnation = unwrap_or (incarnation (line ∷ log)) 0; install = n; view = present })))) (sym h.installed)
    ∙ ap (option_map (λ present. ask_to me (line ∷ log) present to.0)) (sym there)))

filter-none : (from count : ℕ) → filter (λ j. false) (range_with_len from count) ≡ []
filter-none from zero = refl
filter-none from (suc count) = filter-none (from + 1) count

-- the Asks, where they are due or not
asks_where : (s : Settings) (me : ℕ) (log : List Line) (mask : Mask) (due : Bool) → length s.nodes ≤ 32
    → ((rank : ℕ) → rank < 32 → is_member mask rank ≡ (due && is_asked s me log rank))
    → (present : Option View)
    → (if due then option_map_or (asks_under s me log) present [] else [])
    ≡ option_map_or (λ present. map (ask_to me log present) (filter (is_member mask) (range_with_len 0 (length s.nodes)))) present []
asks_where s me log mask true few same None = refl
asks_where s me log mask false few same None = refl
asks_where s me log mask true few same (Some present) =
    ap (map (ask_to me log present)) (sym (filter_same (is_member mask) (is_asked s me log) 0 (length s.nodes) (λ j above below. same j (omega arith))))
asks_where s me log mask false few same (Some present) =
    ap (map (ask_to me log present))
    (sym (filter_same (is_member mask) (λ j. false) 0 (length s.nodes) (λ j above below. same j (omega arith)) ∙ filter-none 0 (length s.nodes)))

pub asks_by_members : (s : Settings) (me : ℕ) (log : List Line) (mask : Mask) → length s.nodes ≤ 32
    → ((rank : ℕ) → rank < 32 → is_member mask rank ≡ (is_asking s log && is_asked s me log rank))
    → asks s me log ≡ option_map_or (λ present. map (ask_to me log present) (filter (is_member mask) (range_with_len 0 (length s.nodes)))) (view log) []
asks_by_members s me log mask few same = asks_where s me log mask (is_asking s log) few same (view log)
