-- The world of one image obeys the laws of its kind.
use Rattle.std.proofs.Common.{refl}
use Rattle.qn_cluster.specs.WorldKinds.{IsLawful}
use Rattle.qn_model.specs.Steps.{AllAllowed, run}
use Rattle.qn_world.specs.Standing.{one_image}

pub one_image_is_lawful : IsLawful one_image
unfolding run AllAllowed
one_image_is_lawful =
    record {
      safe = λ w d is. is.safe;
      cluster = λ w d is. is.cluster;
      counted = λ w n. refl;
      timed = λ w n. refl;
      restored = λ w n. refl;
      stands = λ w n d is cluster.
          record { safe = is.safe; cluster = cluster; landings = is.landings; answers = is.answers; sectors = is.sectors; lefts = is.lefts };
      begins = λ s t. refl;
      none_allowed = λ s t. tt;
      one_allowed = λ s t event earlier formed allowed before. (formed, allowed, before);
      one_more = λ s t event earlier. refl;
    }
