-- A joined run on three images, of which one is lost all the time, in which the resources of two nodes run, one after the other, with
-- a reset between.
use Rattle.std.proofs.Common.{◌≡◌, ℕ, Bool, true, false, List, [], ◌∷◌, ◌++◌, ◌==◌, if◌then◌else◌, refl, arith, ◌⊎◌, inl, inr, sym, subst}
use Rattle.std.specs.Prelude.{nat_lt}
use Rattle.qn_base.specs.declared.calls.Call.{Call}
use Rattle.qn_base.specs.declared.calls.Call.TheVariants as call
use Rattle.qn_base.specs.lemmas.Numbers.{one_is_not_zero}
use Rattle.qn_model.specs.lemmas.TwoNodes.{two_nodes}
use Rattle.qn_model.specs.Sectors.{mail_place}
use Rattle.qn_safety.specs.TripleWorld.{answer_of}
use Rattle.qn_live.specs.TripleDisk.{image_plan, images_plan, part_plan, parts_plan, read_plan, sector_on, write_plan}
use Rattle.qn_joined.specs.Joints as one
use Rattle.qn_joined.specs.Joints.{Happening, is_deadly_mail, is_disk}
use Rattle.qn_joined.specs.TripleJoints.{AllMayHappenTriple, Passes, Begins, Looks, Lands, Returns, Feeds, LandsLate, Ends, Operates, TripleHappening, happens_triple, returned_triple, triple_joint_after, triple_runs_at}
use Rattle.qn_joined.specs.TripleTheorem.{OneAfterAnotherOnThree}
use Rattle.qn_joined.specs.TripleWorldOf.{on_image}
use Rattle.qn_joined.proofs.Rows.{◌▸◌, claims, comes_up, created, fences, fits, is_alone, joint_steps, new_image, of_two, short_times, start_alone, take_over}
use Rattle.qn_joined.proofs.TripleFrames.{one_of_three}

-- What happened over one image, over three of which the third is lost, newest first: a disk call fails on the third, and lands and
-- is done on the others. The own mailbox is read on these alone, since the clear failed on the third.
abbrev fails_on_third : ℕ → Call → List TripleHappening
fails_on_third me (call.Read sector bytes ok) = if nat_lt sector 512 then Returns me (call.Read (sector_on 3 sector) [] false) ∷ [] else []
fails_on_third me (call.Write sector bytes ok) = Returns me (call.Write (sector_on 3 sector) bytes false) ∷ []
fails_on_third me other = []

abbrev made_on_three : ℕ → Call → List TripleHappening
made_on_three me made =
    if is_disk made then fails_on_third me made ++ Returns me (on_image 2 made) ∷ Lands me ∷ Returns me (on_image 1 made) ∷ Lands me ∷ []
    else Returns me made ∷ []

abbrev on_two : List Happening → List TripleHappening
on_two [] = []
on_two (one.Passes dt clocks ∷ earlier) = Passes dt clocks ∷ on_two earlier
on_two (one.Begins rank clean leave polls turns ∷ earlier) = Begins rank clean leave polls turns ∷ on_two earlier
on_two (one.Looks rank base ∷ earlier) = Looks rank base ∷ on_two earlier
on_two (one.Lands rank ∷ earlier) = on_two earlier
on_two (one.Returns rank made ∷ earlier) = made_on_three rank made ++ on_two earlier
on_two (one.Feeds rank ∷ earlier) = Feeds rank ∷ on_two earlier
on_two (one.LandsLate rank number ∷ earlier) = LandsLate rank 2 number ∷ LandsLate rank 1 number ∷ on_two earlier
on_two (one.Ends rank ∷ earlier) = Ends rank ∷ on_two earlier
on_two (one.Operates rank sent ∷ earlier) = Operates rank 2 sent ∷ Operates rank 1 sent ∷ on_two earlier

abbrev May : List Happening → Type 0
May happenings = AllMayHappenTriple two_nodes short_times (λ image. new_image) (on_two happenings)

-- what the rows compute with
triple_steps : Bool
unfolding joint_steps answer_of part_plan parts_plan read_plan image_plan images_plan write_plan returned_triple happens_triple triple_joint_after AllMayHappenTriple
triple_steps = true

claims_first : May (claims 1)
unfolding triple_steps
claims_first =
    record { on = refl; asked = refl; waits = refl; answer = tt; spells = refl } ▸
    record { on = refl; asked = refl; waits = refl; answer = refl; spells = refl } ▸
    record { on = refl; asked = refl; waits = refl; answer = λ ok. absurd cc; spells = refl } ▸
    record { on = refl; asked = refl; waits = refl; answer = λ ok. refl; spells = refl } ▸
    (refl, refl, refl) ▸
    record { on = refl; asked = refl; waits = refl; answer = λ ok. refl; spells = refl } ▸
    (refl, refl, refl) ▸
    record { on = refl; asked = refl; waits = refl; answer = tt; spells = refl } ▸
    record { on = refl; asked = refl; waits = refl; answer = refl; spells = refl } ▸
    record { on = refl; asked = refl; waits = refl; answer = λ ok. absurd cc; spells = refl } ▸
    record { on = refl; asked = refl; waits = refl; answer = λ ok. refl; spells = refl } ▸
    (refl, refl, refl) ▸
    record { on = refl; asked = refl; waits = refl; answer = λ ok. refl; spells = refl } ▸
    (refl, refl, refl) ▸
    record { on = refl; asked = refl; waits = refl; answer = tt; spells = refl } ▸
    record { on = refl; asked = refl; waits = refl; answer = refl; spells = refl } ▸
    record { on = refl; asked = refl; waits = refl; answer = λ ok. absurd cc; spells = refl } ▸
    record { on = refl; asked = refl; waits = refl; answer = λ ok. refl; spells = refl } ▸
    (refl, refl, refl) ▸
    record { on = refl; asked = refl; waits = refl; answer = λ ok. refl; spells = refl } ▸
    (refl, refl, refl) ▸
    (refl, refl, refl) ▸
    (omega arith, omega arith, refl) ▸
    tt

comes_up_first : May (comes_up 1 0 ++ claims 1)
unfolding triple_steps
comes_up_first =
    record { on = refl; asked = refl; waits = refl; answer = tt; spells = refl } ▸
    record { on = refl; asked = refl; waits = refl; answer = refl; spells = refl } ▸
    record { on = refl; asked = refl; waits = refl; answer = tt; spells = refl } ▸
    record { on = refl; asked = refl; waits = refl; answer = λ ok. refl; spells = refl } ▸
    (refl, refl, refl) ▸
    record { on = refl; asked = refl; waits = refl; answer = λ ok. refl; spells = refl } ▸
    (refl, refl, refl) ▸
    record { on = refl; asked = refl; waits = refl; answer = tt; spells = refl } ▸
    record { on = refl; asked = refl; waits = refl; answer = refl; spells = refl } ▸
    record { on = refl; asked = refl; waits = refl; answer = λ ok. absurd cc; spells = refl } ▸
    record { on = refl; asked = refl; waits = refl; answer = λ ok. refl; spells = refl } ▸
    (refl, refl, refl) ▸
    record { on = refl; asked = refl; waits = refl; answer = λ ok. refl; spells = refl } ▸
    (refl, refl, refl) ▸
    claims_first

alone_first : May (is_alone 1 0 ++ comes_up 1 0 ++ claims 1)
unfolding triple_steps
alone_first =
    (refl, refl) ▸
    record { on = refl; asked = refl; waits = refl; answer = tt; spells = refl } ▸
    record { on = refl; asked = refl; waits = refl; answer = refl; spells = refl } ▸
    record { on = refl; asked = refl; waits = refl; answer = tt; spells = refl } ▸
    record { on = refl; asked = refl; waits = refl; answer = tt; spells = refl } ▸
    record { on = refl; asked = refl; waits = refl; answer = λ ok. refl; spells = refl } ▸
    (refl, refl, refl) ▸
    record { on = refl; asked = refl; waits = refl; answer = λ ok. refl; spells = refl } ▸
    (refl, refl, refl) ▸
    record { on = refl; asked = refl; waits = refl; answer = refl; spells = refl } ▸
    record { on = refl; asked = refl; waits = refl; answer = tt; spells = refl } ▸
    (of_two _ refl refl, refl) ▸
    record { on = refl; asked = refl; waits = refl; answer = refl; spells = refl } ▸
    record { on = refl; asked = refl; waits = refl; answer = tt; spells = refl } ▸
    comes_up_first

start_may : May (start_alone)
unfolding triple_steps
start_may =
    record { on = refl; asked = refl; waits = refl; answer = refl; spells = refl } ▸
    record { on = refl; asked = refl; waits = refl; answer = λ ok. absurd cc; spells = refl } ▸
    record { on = refl; asked = refl; waits = refl; answer = λ ok. refl; spells = refl } ▸
    (refl, refl, refl) ▸
    record { on = refl; asked = refl; waits = refl; answer = λ ok. refl; spells = refl } ▸
    (refl, refl, refl) ▸
    alone_first

claims_second : May (claims 0 ++ one.Ends 1 ∷ start_alone)
unfolding triple_steps
claims_second =
    record { on = refl; asked = refl; waits = refl; answer = tt; spells = refl } ▸
    record { on = refl; asked = refl; waits = refl; answer = refl; spells = refl } ▸
    record { on = refl; asked = refl; waits = refl; answer = λ ok. absurd cc; spells = refl } ▸
    record { on = refl; asked = refl; waits = refl; answer = λ ok. refl; spells = refl } ▸
    (refl, refl, refl) ▸
    record { on = refl; asked = refl; waits = refl; answer = λ ok. refl; spells = refl } ▸
    (refl, refl, refl) ▸
    record { on = refl; asked = refl; waits = refl; answer = tt; spells = refl } ▸
    record { on = refl; asked = refl; waits = refl; answer = refl; spells = refl } ▸
    record { on = refl; asked = refl; waits = refl; answer = λ ok. absurd cc; spells = refl } ▸
    record { on = refl; asked = refl; waits = refl; answer = λ ok. refl; spells = refl } ▸
    (refl, refl, refl) ▸
    record { on = refl; asked = refl; waits = refl; answer = λ ok. refl; spells = refl } ▸
    (refl, refl, refl) ▸
    record { on = refl; asked = refl; waits = refl; answer = tt; spells = refl } ▸
    record { on = refl; asked = refl; waits = refl; answer = refl; spells = refl } ▸
    record { on = refl; asked = refl; waits = refl; answer = λ ok. absurd cc; spells = refl } ▸
    record { on = refl; asked = refl; waits = refl; answer = λ ok. refl; spells = refl } ▸
    (refl, refl, refl) ▸
    record { on = refl; asked = refl; waits = refl; answer = λ ok. refl; spells = refl } ▸
    (refl, refl, refl) ▸
    (refl, refl, refl) ▸
    (omega arith, omega arith, refl) ▸
    refl ▸
    start_may

comes_up_second : May (comes_up 0 1 ++ claims 0 ++ one.Ends 1 ∷ start_alone)
unfolding triple_steps
comes_up_second =
    record { on = refl; asked = refl; waits = refl; answer = tt; spells = refl } ▸
    record { on = refl; asked = refl; waits = refl; answer = refl; spells = refl } ▸
    record { on = refl; asked = refl; waits = refl; answer = tt; spells = refl } ▸
    record { on = refl; asked = refl; waits = refl; answer = λ ok. refl; spells = refl } ▸
    (refl, refl, refl) ▸
    record { on = refl; asked = refl; waits = refl; answer = λ ok. refl; spells = refl } ▸
    (refl, refl, refl) ▸
    record { on = refl; asked = refl; waits = refl; answer = tt; spells = refl } ▸
    record { on = refl; asked = refl; waits = refl; answer = refl; spells = refl } ▸
    record { on = refl; asked = refl; waits = refl; answer = λ ok. absurd cc; spells = refl } ▸
    record { on = refl; asked = refl; waits = refl; answer = λ ok. refl; spells = refl } ▸
    (refl, refl, refl) ▸
    record { on = refl; asked = refl; waits = refl; answer = λ ok. refl; spells = refl } ▸
    (refl, refl, refl) ▸
    claims_second

alone_second : May (is_alone 0 1 ++ comes_up 0 1 ++ claims 0 ++ one.Ends 1 ∷ start_alone)
unfolding triple_steps
alone_second =
    (refl, refl) ▸
    record { on = refl; asked = refl; waits = refl; answer = tt; spells = refl } ▸
    record { on = refl; asked = refl; waits = refl; answer = refl; spells = refl } ▸
    record { on = refl; asked = refl; waits = refl; answer = tt; spells = refl } ▸
    record { on = refl; asked = refl; waits = refl; answer = tt; spells = refl } ▸
    record { on = refl; asked = refl; waits = refl; answer = λ ok. refl; spells = refl } ▸
    (refl, refl, refl) ▸
    record { on = refl; asked = refl; waits = refl; answer = λ ok. refl; spells = refl } ▸
    (refl, refl, refl) ▸
    record { on = refl; asked = refl; waits = refl; answer = refl; spells = refl } ▸
    record { on = refl; asked = refl; waits = refl; answer = tt; spells = refl } ▸
    (of_two _ refl refl, refl) ▸
    record { on = refl; asked = refl; waits = refl; answer = refl; spells = refl } ▸
    record { on = refl; asked = refl; waits = refl; answer = tt; spells = refl } ▸
    comes_up_second

fences_second : May (fences ++ is_alone 0 1 ++ comes_up 0 1 ++ claims 0 ++ one.Ends 1 ∷ start_alone)
unfolding triple_steps
fences_second =
    record { on = refl; asked = refl; waits = refl; answer = refl; spells = refl } ▸
    record { on = refl; asked = refl; waits = refl; answer = λ ok. absurd cc; spells = refl } ▸
    record { on = refl; asked = refl; waits = refl; answer = λ ok. refl; spells = refl } ▸
    (refl, refl, refl) ▸
    record { on = refl; asked = refl; waits = refl; answer = λ ok. refl; spells = refl } ▸
    (refl, refl, refl) ▸
    record { on = refl; asked = refl; waits = refl; answer = refl; spells = refl } ▸
    record { on = refl; asked = refl; waits = refl; answer = λ ok. absurd cc; spells = refl } ▸
    record { on = refl; asked = refl; waits = refl; answer = λ ok. refl; spells = refl } ▸
    (refl, refl, refl) ▸
    record { on = refl; asked = refl; waits = refl; answer = λ ok. refl; spells = refl } ▸
    (refl, refl, refl) ▸
    alone_second

take_over_may : May (take_over ++ start_alone)
unfolding triple_steps
take_over_may =
    record { on = refl; asked = refl; waits = refl; answer = refl; spells = refl } ▸
    record { on = refl; asked = refl; waits = refl; answer = tt; spells = refl } ▸
    (of_two _ refl refl, refl) ▸
    (refl, refl) ▸
    record { on = refl; asked = refl; waits = refl; answer = tt; spells = refl } ▸
    record { on = refl; asked = refl; waits = refl; answer = refl; spells = refl } ▸
    record { on = refl; asked = refl; waits = refl; answer = tt; spells = refl } ▸
    record { on = refl; asked = refl; waits = refl; answer = tt; spells = refl } ▸
    record { on = refl; asked = refl; waits = refl; answer = λ ok. refl; spells = refl } ▸
    (refl, refl, refl) ▸
    record { on = refl; asked = refl; waits = refl; answer = λ ok. refl; spells = refl } ▸
    (refl, refl, refl) ▸
    record { on = refl; asked = refl; waits = refl; answer = refl; spells = refl } ▸
    record { on = refl; asked = refl; waits = refl; answer = tt; spells = refl } ▸
    (of_two _ refl refl, refl) ▸
    fences_second

first_runs : triple_runs_at two_nodes (λ image. new_image) (on_two start_alone) 1 ≡ true
unfolding triple_steps
first_runs = refl

second_runs : triple_runs_at two_nodes (λ image. new_image) (on_two take_over ++ on_two start_alone) 0 ≡ true
unfolding triple_steps
second_runs = refl

lost_stays : (sector : ℕ) → (triple_joint_after two_nodes (λ image. new_image) (on_two take_over ++ on_two start_alone)).images 3 sector ≡ new_image sector
unfolding triple_steps
lost_stays sector = refl

-- a deadly message stands in the mailbox of the first that ran, on this image
abbrev HasReset : ℕ → Type 0
HasReset image =
    is_deadly_mail ((triple_joint_after two_nodes (λ image. new_image) (on_two take_over ++ on_two start_alone)).images image (mail_place 1)) ≡ true

reset_on : (image : ℕ) → (image ≡ 1) ⊎ ((image ≡ 2) ⊎ (image ≡ 3)) → (3 == image) ≡ false → HasReset image
unfolding triple_steps
reset_on image (inl first) apart = subst HasReset (sym first) refl
reset_on image (inr (inl second)) apart = subst HasReset (sym second) refl
reset_on image (inr (inr third)) apart = absurd (let never = subst (λ k. (3 == k) ≡ false) third apart in cc)

pub one_after_another_on_three : OneAfterAnotherOnThree
one_after_another_on_three =
    record {
      settings = two_nodes;
      timing = short_times;
      images = λ image. new_image;
      lost = 3;
      earlier = on_two start_alone;
      later = on_two take_over;
      first = 1;
      second = 0;
      safe = refl;
      joined = record { fits = fits; created = λ image in_range. created; may = take_over_may };
      one_of_three = refl;
      fails = refl;
      stays = lost_stays;
      first_runs = first_runs;
      second_runs = second_runs;
      reset = λ image is. reset_on image (one_of_three image is);
      differ = one_is_not_zero;
    }
