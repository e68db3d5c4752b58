-- The world of three images obeys the laws of its kind.
use Rattle.std.proofs.Common.{refl}
use Rattle.qn_cluster.specs.WorldKinds.{IsLawful}
use Rattle.qn_safety.specs.TripleSteps.{AllAllowedTriple, run_triple}
use Rattle.qn_triple.specs.Standing.{three_images}

pub three_images_are_lawful : IsLawful three_images
unfolding run_triple AllAllowedTriple
three_images_are_lawful =
    record {
      safe = λ w d is. is.safe;
      cluster = λ w d is. is.cluster;
      counted = λ w n. refl;
      timed = λ w n. refl;
      restored = λ w n. refl;
      stands = λ w n d is cluster.
          record { safe = is.safe; cluster = cluster; parts = is.parts; good = is.good; images = is.images; lefts = is.lefts };
      begins = λ s t. refl;
      none_allowed = λ s t. tt;
      one_allowed = λ s t event earlier formed allowed before. (formed, allowed, before);
      one_more = λ s t event earlier. refl;
    }
