-- One address more, at the place of the next rank.
use Rattle.std.proofs.Common.{◌≡◌, ◌≢◌, ℕ, suc, zero, ◌+◌, ◌<◌, Bool, true, false, nat_eq, List, length, get_or, replicate, Option, Some, None, refl, sym, subst, ◌∙◌, arith}
use Rattle.std.specs.Prelude.{slice_set}
use Rattle.std.proofs.lemmas.Bool.Decides.{nat_tests}
use Rattle.std.proofs.lemmas.List.{get_or-set_other}
use Rattle.std.proofs.lemmas.Grind.{get_or-set_at}
use Rattle.std.specs.declared.net.ip_addr.IpAddr.{IpAddr}
use Rattle.qn_model.specs.declared.nodelist.NodeEntry.{NodeEntry}
use Rattle.qn_links.specs.declared.sections.NodeSection.{NodeSection}
use Rattle.qn_links.specs.declared.sections.Ring.{Ring}
use Rattle.qn_links.specs.Links.{AreLinks, HasAddress, IsApartFrom, id_at}

placed_at : {X : Type 0} (P : ℕ → X → Type 0) (links : List (Option X)) (r k : ℕ) (x : X) (same : Bool)
    → nat_eq k r ≡ same → r < length links
    → ((n : ℕ) → n < r → (y : X) × (get_or links n None ≡ Some y) × P n y)
    → P r x → k < r + 1
    → (y : X) × (get_or (slice_set links r (Some x)) k None ≡ Some y) × P k y
placed_at P links r k x true is fits placed here below =
    let same : k ≡ r = grind (arith, nat_tests) in
    (x, get_or-set_at links r k (Some x) None same fits, subst (λ n. P n x) (sym same) here)
placed_at P links r k x false is fits placed here below =
    let other : k ≢ r = λ same. grind (arith, nat_tests) in
    let was = placed k (grind (arith, nat_tests)) in
    (was.0, get_or-set_other links r k (Some x) None other ∙ was.1, was.2)

pub placed_more : {X : Type 0} (P : ℕ → X → Type 0) (links : List (Option X)) (r : ℕ) (x : X)
    → r < length links
    → ((n : ℕ) → n < r → (y : X) × (get_or links n None ≡ Some y) × P n y)
    → P r x → (k : ℕ) → k < r + 1
    → (y : X) × (get_or (slice_set links r (Some x)) k None ≡ Some y) × P k y
placed_more P links r x fits placed here k below = placed_at P links r k x (nat_eq k r) refl fits placed here below

-- the places below a rank are as they were
apart_below : (links : List (Option IpAddr)) (r k : ℕ) (x y : IpAddr) → k < r + 1 → IsApartFrom links k y → IsApartFrom (slice_set links r (Some x)) k y
apart_below links r k x y low apart = λ below lower other is.
    let before : below ≢ r = λ same. grind (arith, nat_tests) in
    apart below lower other (sym (get_or-set_other links r below (Some x) None before) ∙ is)

apart_at : (links : List (Option IpAddr)) (r k : ℕ) (x y : IpAddr) (same : Bool) → nat_eq k r ≡ same → r < length links
    → ((n : ℕ) → n < r → (z : IpAddr) → get_or links n None ≡ Some z → IsApartFrom links n z)
    → IsApartFrom links r x → k < r + 1 → get_or (slice_set links r (Some x)) k None ≡ Some y
    → IsApartFrom (slice_set links r (Some x)) k y
apart_at links r k x y true is fits apart here below found =
    let same : k ≡ r = grind (arith, nat_tests) in
    let its : Some x ≡ Some y = sym (get_or-set_at links r k (Some x) None same fits) ∙ found in
    let address : x ≡ y = cc in
    apart_below links r k x y below (subst (λ n. IsApartFrom links n y) (sym same) (subst (IsApartFrom links r) address here))
apart_at links r k x y false is fits apart here below found =
    let other : k ≢ r = λ same. grind (arith, nat_tests) in
    apart_below links r k x y below (apart k (grind (arith, nat_tests)) y (sym (get_or-set_other links r k (Some x) None other) ∙ found))

-- the links of one rank more
pub links_more : (ring : Ring) (sections : List NodeSection) (nodes : List NodeEntry) (links : List (Option IpAddr)) (r : ℕ) (x : IpAddr)
    → r < length links → AreLinks ring sections nodes links r → HasAddress ring sections (id_at nodes r) x → IsApartFrom links r x
    → AreLinks ring sections nodes (slice_set links r (Some x)) (r + 1)
links_more ring sections nodes links r x fits before has apart = record {
  placed = placed_more (λ rank address. HasAddress ring sections (id_at nodes rank) address) links r x fits before.placed has;
  apart = λ k below y found. apart_at links r k x y (nat_eq k r) refl fits before.apart apart below found;
  past = λ k above.
      let other : k ≢ r = λ same. grind (arith, nat_tests) in
      get_or-set_other links r k (Some x) None other ∙ before.past k (omega arith);
}

-- before the first rank there is none
pub no_links : (count rank : ℕ) → get_or {A = Option IpAddr} (replicate count None) rank None ≡ None
no_links zero rank = refl
no_links (suc count) zero = refl
no_links (suc count) (suc rank) = no_links count rank
