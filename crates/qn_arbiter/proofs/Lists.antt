-- Lists whose items are replaced, and pollers by rank.
use Rattle.std.proofs.Common.{◌≡◌, ℕ, suc, zero, ◌<◌, List, [], ◌∷◌, get_or, Some, refl, ◌∙◌, ap, arith, map}
use Rattle.std.specs.Prelude.{replicate, slice_get, slice_set}
use Rattle.std.proofs.lemmas.Option.{slice_get_within}
use Rattle.qn_polls.specs.declared.poller.Poller.{Poller as CodePoller}
use Rattle.qn_polls.specs.Poller.{poller_of}
use Rattle.qn_safety.specs.Poller.{Poller}
use Rattle.qn_model.specs.World.{put}
use Rattle.qn_cluster.specs.ListLaws.{rank_put}
use Rattle.qn_arbiter.specs.Standing.{PollersFor}

map_set : {A B : Type 0} (f : A → B) (items : List A) (i : ℕ) (item : A) → map f (slice_set items i item) ≡ slice_set (map f items) i (f item)
map_set f [] i item = refl
map_set f (first ∷ items) zero item = refl
map_set f (first ∷ items) (suc i) item = ap (λ rest. f first ∷ rest) (map_set f items i item)

-- one poller is replaced, at the place of its rank
pub poller_put : (all : List CodePoller) (now : List Poller) (pollers : ℕ → Poller) (place i : ℕ) (new : CodePoller) (theirs : Poller)
    → map poller_of all ≡ now → place ≡ i → i < 32 → poller_of new ≡ theirs → PollersFor now pollers
    → PollersFor (map poller_of (slice_set all place new)) (put pollers i theirs)
poller_put all now pollers place i new theirs same at few is h =
    record {
      each = λ rank below.
          ap (λ items. slice_get items rank) (map_set poller_of all place new ∙ (ap (λ items. slice_set items place (poller_of new)) same ∙ ap (λ i. slice_set now i (poller_of new)) at))
          ∙ (rank_put now pollers i (poller_of new) (slice_get_within now i (pollers i) (h.each i few)) h.each rank below
          ∙ ap (λ p. Some (put pollers i p rank)) is);
    }

map_read : {A B : Type 0} (f : A → B) (items : List A) (i : ℕ) (d : A) (there : B) → slice_get (map f items) i ≡ Some there → f (get_or items i d) ≡ there
map_read f [] i d there e = absurd (cc)
map_read f (first ∷ items) zero d there e = cc
map_read f (first ∷ items) (suc i) d there e = map_read f items i d there e

-- the poller that is read at the place of a rank
pub poller_read : (all : List CodePoller) (now : List Poller) (there : Poller) (place i : ℕ) (d : CodePoller) → map poller_of all ≡ now → place ≡ i
    → slice_get now i ≡ Some there → poller_of (get_or all place d) ≡ there
poller_read all now there place i d same at here =
    map_read poller_of all place d there (ap (λ items. slice_get items place) same ∙ (ap (λ place. slice_get now place) at ∙ here))

-- the poller that is read at a place, if there is one, sent few polls
pub read_few : (all : List CodePoller) (place : ℕ) (d : CodePoller) (most : ℕ) → d.count < most
    → ((poller : Poller) → slice_get (map poller_of all) place ≡ Some poller → poller.count < most) → (get_or all place d).count < most
read_few [] place d most none few = none
read_few (first ∷ items) zero d most none few = few (poller_of first) refl
read_few (first ∷ items) (suc place) d most none few = read_few items place d most none few

-- equal pollers at all ranks
map_all : {A B : Type 0} (f : A → B) (count rank : ℕ) (item : A) → rank < count → slice_get (map f (replicate count item)) rank ≡ Some (f item)
map_all f zero rank item below = absurd (omega arith)
map_all f (suc count) zero item below = refl
map_all f (suc count) (suc rank) item below = map_all f count rank item (omega arith)

pub pollers_all : (poller : CodePoller) (theirs : Poller) → poller_of poller ≡ theirs → PollersFor (map poller_of (replicate 32 poller)) (λ rank. theirs)
pollers_all poller theirs same = record { each = λ rank below. map_all poller_of 32 rank poller below ∙ ap Some same }
