-- Who leads and who is in company where all know names.
use Rattle.std.proofs.Common.{◌≡◌, ℕ, ◌<◌, true, ◌==◌, length, ap, ◌∙◌, arith, eq-eqb, refl, Some}
use Rattle.std.specs.Prelude.{Option}
use Rattle.std.proofs.lemmas.Bool.{and_from, lt-ltb, or_left}
use Rattle.qn_base.specs.declared.ids.Mask.{Mask}
use Rattle.qn_base.specs.declared.ids.View.{View}
use Rattle.qn_base.specs.Members.{is_member}
use Rattle.qn_model.specs.lemmas.LeastRanks.{least_bound}
use Rattle.qn_candidate.specs.declared.candidate.Facts.{Facts}
use Rattle.qn_member.specs.Naming.{NamingMaker, able_ones, is_led_by_name, keepers, leader_by_name, least_sure, led_by_name, sure_ones}
use Rattle.qn_member.specs.Maker.{Maker, installed_beside, led_by, noted_with}
use Rattle.qn_member.specs.NamingViews.{company_now, noted_by_name, said_by_name}
use Rattle.qn_member.proofs.Companies.{found_within}
use Rattle.qn_member.proofs.Ranks.{member_of-ranks_that}
use Rattle.qn_member.proofs.Silent.{maker_leading}

least_sure_within : (m : NamingMaker) (nodes : Mask) (found : ℕ) → least_sure m nodes ≡ Some found → found < length m.maker.nodes
unfolding least_sure
least_sure_within m nodes found is =
    found_within _ _ found (length m.maker.nodes)
    (λ n sure. let within = least_bound (length m.maker.nodes) 0 (is_member (sure_ones m nodes)) n sure in omega arith)
    (λ n least. let within = least_bound (length m.maker.nodes) 0 (is_member nodes) n least in omega arith) is

-- who leads is configured
pub leader_by_name_within : (m : NamingMaker) (f : Facts) (found : ℕ) → leader_by_name m f ≡ Some found → found < length m.maker.nodes
leader_by_name_within m f found is =
    found_within _ _ found (length m.maker.nodes)
    (λ n one. found_within _ _ n (length m.maker.nodes)
    (least_sure_within m (keepers m f))
    (least_sure_within m (able_ones m)) one)
    (λ n other. let within = least_bound (length m.maker.nodes) 0 (is_member m.maker.seen) n other in omega arith) is

pub led_has_itself : (m : NamingMaker) → m.maker.me < length m.maker.nodes → is_member (led_by_name m) m.maker.me ≡ true
led_has_itself m within =
    member_of-ranks_that (is_led_by_name m) (length m.maker.nodes) m.maker.me
    ∙ and_from _ _ (lt-ltb _ _ within) (or_left (m.maker.me == m.maker.me) _ (eq-eqb m.maker.me m.maker.me refl))

-- what a look remembers
abbrev noted_maker : ℕ → NamingMaker → Maker
noted_maker tick m = noted_with tick (company_now m) (said_by_name tick m) m.maker

maker_noted : (tick : ℕ) (m : NamingMaker) → (noted_by_name tick m).maker ≡ noted_maker tick m
maker_noted tick m = maker_leading tick (led_by (noted_maker tick m)) (record m { maker = noted_maker tick m })

-- a look leaves the node and the configured nodes as they are
pub noted_me : (tick : ℕ) (m : NamingMaker) → (noted_by_name tick m).maker.me ≡ m.maker.me
noted_me tick m = ap (λ (n : Maker). n.me) (maker_noted tick m)

pub noted_nodes : (tick : ℕ) (m : NamingMaker) → (noted_by_name tick m).maker.nodes ≡ m.maker.nodes
noted_nodes tick m = ap (λ (n : Maker). n.nodes) (maker_noted tick m)

pub same_installed : (a b : Mask) (u v : Option View) (x y : Maker) → a ≡ b → u ≡ v → x ≡ y → installed_beside a u x ≡ installed_beside b v y
same_installed a b u v x y masks views makers =
    ap (λ (mask : Mask). installed_beside mask u x) masks
    ∙ (ap (λ (view : Option View). installed_beside b view x) views ∙ ap (installed_beside b v) makers)
