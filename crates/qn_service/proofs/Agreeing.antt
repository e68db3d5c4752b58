-- Looks that find the same follow the same one.
use Rattle.std.proofs.Common.{◌≡◌, ℕ, suc, zero, ◌^◌, ◌<◌, Bool, true, ◌&&◌, List, Option, length, cond, refl, sym, ◌∙◌, ap, arith}
use Rattle.std.specs.Prelude.{bit_or, option_map}
use Rattle.std.specs.Option.{option_or}
use Rattle.qn_base.specs.declared.ids.Mask.{Mask}
use Rattle.qn_base.specs.declared.ids.Rank.{Rank}
use Rattle.qn_base.specs.Members.{is_member}
use Rattle.qn_model.specs.declared.nodelist.NodeEntry.{NodeEntry}
use Rattle.qn_model.specs.Unmet.{least_from}
use Rattle.qn_member.specs.Maker.{Maker, is_visible, leader_at, least_of, led_by, looked, ranks_that}
use Rattle.qn_member.specs.Naming.{NamingMaker, able_ones, followed_by_name, is_able_node, is_own, is_keeper, is_sure, keepers, knows_bit, least_sure, sure_ones}
use Rattle.qn_member.specs.NamingViews.{facts_seen, followed_now, looked_by_name, seeing_names}
use Rattle.qn_member.specs.Maker as maker
use Rattle.qn_service.specs.Agreeing.{FindAlike}
use Rattle.qn_service.specs.Leading.{leader_then, names_then}
use Rattle.qn_service.proofs.Made.{if_is, looked_notes, noted_then}

-- ## Sets

abbrev pub mask_of : ℕ → Mask
mask_of n = record { 0 = n }

-- the ranks below a number that pass a test
abbrev pub set_that : (ℕ → Bool) → ℕ → Mask
set_that test count = mask_of (ranks_that test count)

-- tests that agree below a number make the same set
pub set_alike : (one other : ℕ → Bool) (count : ℕ) → ((rank : ℕ) → rank < count → one rank ≡ other rank)
    → set_that one count ≡ set_that other count
unfolding ranks_that
set_alike one other zero alike = refl
set_alike one other (suc count) alike =
    ap (λ b. mask_of (cond b (bit_or (ranks_that one count) (2 ^ count)) (ranks_that one count))) (alike count (omega arith))
    ∙ ap (λ (set : Mask). mask_of (cond (other count) (bit_or set.0 (2 ^ count)) set.0))
    (set_alike one other count (λ rank under. alike rank (omega (arith, under))))

-- the same set of one size for two lists of nodes
set_of : (one other : ℕ → Bool) (nodes others : List NodeEntry) → others ≡ nodes → ((rank : ℕ) → rank < length nodes → one rank ≡ other rank)
    → set_that one (length nodes) ≡ set_that other (length others)
set_of one other nodes others same alike =
    set_alike one other (length nodes) alike ∙ ap (λ (list : List NodeEntry). set_that other (length list)) (sym same)

least_alike : (k l : Maker) (set : Mask) → l.nodes ≡ k.nodes → least_of k set ≡ least_of l set
least_alike k l set same = ap (λ (list : List NodeEntry). least_from (length list) 0 (is_member set)) (sym same)

-- ## Whom a look follows

module _ (tick at : ℕ) (one other : NamingMaker) (alike : FindAlike tick at one other) where
  -- the sure ones of a set
  sure_alike : (set : Mask) → sure_ones (seeing_names tick one) set ≡ sure_ones (seeing_names at other) set
  sure_alike set =
      set_of (λ rank. is_member set rank && is_sure (seeing_names tick one) rank) (λ rank. is_member set rank && is_sure (seeing_names at other) rank) one.maker.nodes other.maker.nodes
      alike.nodes (λ rank under. ap (λ b. is_member set rank && b) (alike.sure rank under))

  least_sure_alike : (set : Mask) → least_sure (seeing_names tick one) set ≡ least_sure (seeing_names at other) set
  unfolding least_sure
  least_sure_alike set =
      ap (λ (sure : Mask). option_or (least_of (seeing_names tick one).maker sure) (least_of (seeing_names tick one).maker set)) (sure_alike set)
      ∙ ap (λ o. option_or o (least_of (seeing_names tick one).maker set))
      (least_alike (seeing_names tick one).maker (seeing_names at other).maker (sure_ones (seeing_names at other) set) alike.nodes)
      ∙ ap (option_or (least_of (seeing_names at other).maker (sure_ones (seeing_names at other) set)))
      (least_alike (seeing_names tick one).maker (seeing_names at other).maker set alike.nodes)

  keepers_alike : keepers (seeing_names tick one) (facts_seen (seeing_names tick one)) ≡ keepers (seeing_names at other) (facts_seen (seeing_names at other))
  keepers_alike =
      set_of (is_keeper (seeing_names tick one) (facts_seen (seeing_names tick one))) (is_keeper (seeing_names at other) (facts_seen (seeing_names at other))) one.maker.nodes
      other.maker.nodes alike.nodes alike.keeps

  able_alike : able_ones (seeing_names tick one) ≡ able_ones (seeing_names at other)
  able_alike = set_of (is_able_node (seeing_names tick one)) (is_able_node (seeing_names at other)) one.maker.nodes other.maker.nodes alike.nodes alike.able

  named_alike : followed_by_name (seeing_names tick one) (facts_seen (seeing_names tick one)) ≡ followed_by_name (seeing_names at other) (facts_seen (seeing_names at other))
  named_alike =
      ap (λ (set : Mask). option_or (least_sure (seeing_names tick one) set) (least_sure (seeing_names tick one) (able_ones (seeing_names tick one)))) keepers_alike
      ∙ ap (λ o. option_or o (least_sure (seeing_names tick one) (able_ones (seeing_names tick one))))
      (least_sure_alike (keepers (seeing_names at other) (facts_seen (seeing_names at other))))
      ∙ ap (λ (set : Mask). option_or (least_sure (seeing_names at other) (keepers (seeing_names at other) (facts_seen (seeing_names at other)))) (least_sure (seeing_names tick one) set))
      able_alike
      ∙ ap (option_or (least_sure (seeing_names at other) (keepers (seeing_names at other) (facts_seen (seeing_names at other))))) (least_sure_alike (able_ones (seeing_names at other)))

  followed_alike : followed_now (seeing_names tick one) ≡ followed_now (seeing_names at other)
  followed_alike =
      if_is true (names_then tick one) (followed_by_name (seeing_names tick one) (facts_seen (seeing_names tick one))) (maker.followed (seeing_names tick one).maker (seeing_names tick one).maker.seen)
      alike.one_names
      ∙ named_alike
      ∙ sym (if_is true (names_then at other) (followed_by_name (seeing_names at other) (facts_seen (seeing_names at other)))
      (maker.followed (seeing_names at other).maker (seeing_names at other).maker.seen) alike.other_names)

  seen_alike : (seeing_names tick one).maker.seen ≡ (seeing_names at other).maker.seen
  seen_alike = set_of (is_visible tick one.maker) (is_visible at other.maker) one.maker.nodes other.maker.nodes alike.nodes alike.sees

  noted_alike : led_by (noted_then tick one) ≡ led_by (noted_then at other)
  noted_alike =
      ap (λ (o : Option ℕ). option_or (option_map (λ (rank : Rank). rank.0) (option_map (λ rank. record { 0 = rank }) o)) (least_of (noted_then tick one) (seeing_names tick one).maker.seen)) followed_alike
      ∙ ap (option_or (option_map (λ (rank : Rank). rank.0) (option_map (λ rank. record { 0 = rank }) (followed_now (seeing_names at other)))))
      (ap (least_of (noted_then tick one)) seen_alike ∙ least_alike (noted_then tick one) (noted_then at other) (seeing_names at other).maker.seen alike.nodes)

  pub leads_alike : leader_then tick one ≡ leader_then at other
  leads_alike =
      if_is true (is_own one knows_bit) (led_by (looked_by_name tick one).maker) (leader_at (looked tick one.maker)) alike.one_knows
      ∙ ap led_by (looked_notes tick one) ∙ noted_alike ∙ ap led_by (sym (looked_notes at other))
      ∙ sym (if_is true (is_own other knows_bit) (led_by (looked_by_name at other).maker) (leader_at (looked at other.maker)) alike.other_knows)
