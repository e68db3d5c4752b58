-- Whom a look hears within three loops of the image it finds together with its node.
use Rattle.std.proofs.Common.{◌≡◌, inl, ℕ, ◌≤◌, ◌+◌, ◌*◌, true, false, ◌&&◌, ◌==◌, List, [], ◌∷◌, Option, None, Some, ◌∙◌, ap, arith}
use Rattle.std.specs.Prelude.{IfSome, nat_le}
use Rattle.std.specs.Option.{option_map_or}
use Rattle.std.proofs.lemmas.Bool.Decides.{nat_tests}
use Rattle.std.proofs.lemmas.Bool.{and_from, or_right}
use Rattle.qn_model.specs.declared.configuration.Settings.{Settings}
use Rattle.qn_model.specs.declared.times.Timing.{Timing}
use Rattle.qn_member.specs.Maker.{is_heard, is_visible, names, three_loops_after}
use Rattle.qn_joined.specs.Joints.{Happening}
use Rattle.qn_service.specs.Heard.{HearsAll, HearsInTime, NobodyHeardIsReset}
use Rattle.qn_service.specs.Looks.{EachLook, LookOf, look_of}
use Rattle.qn_service.specs.Loops.{HasLoop, LooksByTheImage}
use Rattle.qn_service.specs.Unheard.{KeepsAll, NobodyIsReset}

-- two things that are so of each look
both_looks : (s : Settings) (image : ℕ → List ℕ) (P Q R : LookOf → Type 0) → ((look : LookOf) → P look → Q look → R look) → (h : List Happening)
    → EachLook s image P h → EachLook s image Q h → EachLook s image R h
both_looks s image P Q R both [] one other = tt
both_looks s image P Q R both (newest ∷ earlier) one other =
    (by_look (look_of s image newest earlier) one.0 other.0, both_looks s image P Q R both earlier one.1 other.1)
  where
    by_look : (found : Option LookOf) → IfSome found P → IfSome found Q → IfSome found R
    by_look None first second = tt
    by_look (Some look) first second = both look first second

in_time : (tick at loop_ms image_loop : ℕ) → loop_ms ≡ image_loop → tick ≤ at + 3 * image_loop → nat_le tick (at + 3 * loop_ms) ≡ true
in_time tick at loop_ms image_loop same soon = grind (arith, nat_tests)

hears_together : (t : Timing) (look : LookOf) (rank : ℕ) → HasLoop t look → HearsInTime t look rank → is_visible look.tick look.maker.maker rank ≡ true
hears_together t look rank loop hears =
    or_right (rank == look.maker.maker.me) (is_heard look.tick look.maker.maker rank && names look.maker.maker rank)
    (and_from (is_heard look.tick look.maker.maker rank) (names look.maker.maker rank)
    (or_right (rank == look.maker.maker.me) _
    (ap (λ o. option_map_or (λ heard. nat_le look.tick (three_loops_after look.maker.maker heard)) o false) hears.hello
    ∙ in_time look.tick hears.at look.maker.maker.loop_ms t.loop_ms loop hears.soon))
    hears.names)

hears_keep : (s : Settings) (t : Timing) (look : LookOf) → HasLoop t look → HearsAll s t look → KeepsAll s look
hears_keep s t look loop hears leads rank below other =
    let known = hears leads in
    let heard = known.1 rank below other in
    inl (record { names = known.0; sees = hears_together t look rank loop heard; follows = heard.follows })

pub nobody_heard : (s : Settings) (t : Timing) → LooksByTheImage s t → NobodyIsReset s t → NobodyHeardIsReset s t
nobody_heard s t loops nobody image h rank other joined sent hears =
    nobody image h rank other joined.may sent (both_looks s image (HasLoop t) (HearsAll s t) (KeepsAll s) (hears_keep s t) h (loops image h joined) hears)
