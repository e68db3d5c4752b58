-- When the looks of two nodes that know names follow the same one. This project's profile.
use Rattle.std.specs.Prelude.{◌≡◌, ◌<◌, ℕ, Bool, true, length}
use Rattle.qn_member.specs.Maker.{is_visible}
use Rattle.qn_member.specs.Naming.{NamingMaker, is_able_node, is_keeper, is_own, is_sure, knows_bit}
use Rattle.qn_member.specs.NamingViews.{facts_seen, seeing_names}
use Rattle.qn_service.specs.Leading.{names_then}

-- what a look finds of a node that counts for whom it follows: that it is able, that it keeps, and that it is sure of its votes
abbrev pub is_able_then : ℕ → NamingMaker → ℕ → Bool
is_able_then tick m rank = is_able_node (seeing_names tick m) rank

abbrev pub keeps_then : ℕ → NamingMaker → ℕ → Bool
keeps_then tick m rank = is_keeper (seeing_names tick m) (facts_seen (seeing_names tick m)) rank

abbrev pub is_sure_then : ℕ → NamingMaker → ℕ → Bool
is_sure_then tick m rank = is_sure (seeing_names tick m) rank

-- Two looks, each of a node that knows names, as all do that it sees, see the same nodes and find of each of the configured nodes the same.
pub record FindAlike (tick at : ℕ) (one other : NamingMaker) : Type 0 where
  pub nodes : other.maker.nodes ≡ one.maker.nodes
  pub one_knows : is_own one knows_bit ≡ true
  pub other_knows : is_own other knows_bit ≡ true
  pub one_names : names_then tick one ≡ true
  pub other_names : names_then at other ≡ true
  pub sees : (rank : ℕ) → rank < length one.maker.nodes → is_visible tick one.maker rank ≡ is_visible at other.maker rank
  pub able : (rank : ℕ) → rank < length one.maker.nodes → is_able_then tick one rank ≡ is_able_then at other rank
  pub keeps : (rank : ℕ) → rank < length one.maker.nodes → keeps_then tick one rank ≡ keeps_then at other rank
  pub sure : (rank : ℕ) → rank < length one.maker.nodes → is_sure_then tick one rank ≡ is_sure_then at other rank
