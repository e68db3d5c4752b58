-- In every joint a node that runs works with the loop's time of the image, so each look does.
use Rattle.std.proofs.Common.{◌≡◌, ◌⊎◌, inl, inr, ℕ, ◌<◌, ◌≤◌, Bool, true, false, ◌==◌, List, [], ◌∷◌, Option, None, Some, if◌then◌else◌, refl, sym, ◌∙◌, ap, subst}
use Rattle.std.specs.Prelude.{IsTrue, length}
use Rattle.std.specs.Option.{option_map_or}
use Rattle.std.proofs.lemmas.Bool.{cases_lt, eqb-true, false≢true}
use Rattle.std.proofs.lemmas.Option.{none-some, same_Some}
use Rattle.qn_base.specs.declared.calls.Call.{Call}
use Rattle.qn_base.specs.declared.calls.Call.TheVariants as call
use Rattle.qn_base.specs.Calls.{blank}
use Rattle.qn_model.specs.declared.configuration.Settings.{Settings}
use Rattle.qn_model.specs.declared.times.Timing.{Timing}
use Rattle.qn_model.specs.Moments.{is_gone, tick_of}
use Rattle.qn_model.specs.Phases.{phase}
use Rattle.qn_model.specs.Sectors.{header_bytes}
use Rattle.qn_model.specs.Timing.{has_periods}
use Rattle.qn_model.specs.World.{numbered, put, without}
use Rattle.qn_sector.specs.Reading.{header_of}
use Rattle.qn_joined.specs.AnyImage.{EveryJointHasAWorldAgain}
use Rattle.qn_joined.specs.Joints.{AllMayHappen, Begins, Ends, Feeds, Happening, Host, Joint, Lands, LandsLate, Looks, MayAnswer, Operates, Passes, Returns, began, ended, happens, is_disk, joint_after, landed_image, looked_first, returned, takes, waits_for, with_host}
use Rattle.qn_joined.specs.Stands.{log_at}
use Rattle.qn_joined.specs.WorldOf.{EveryJointHasAWorld, HasWorld, IsEnding}
use Rattle.qn_service.specs.Looks.{EachLook}
use Rattle.qn_service.specs.Loops.{HasLoop, LooksByTheImage, LooksByTheImageAgain}
use Rattle.qn_service.proofs.Timing.{WorksAt, first_works, look_works, spot_works}

-- what a disk call took, where it landed: the header, where the host waits for that
pub record IsTook (s : Settings) (t : Timing) (rank : ℕ) (host : Host) (bytes : List ℕ) : Type 0 where
  pub disk : option_map_or is_disk (waits_for s rank host) false ≡ true
  pub header : waits_for s rank host ≡ Some (call.Read 0 [] true) → bytes ≡ header_bytes (length s.nodes) t

pub record HostWorks (s : Settings) (t : Timing) (rank : ℕ) (host : Host) : Type 0 where
  pub took : (bytes : List ℕ) → host.took ≡ Some bytes → IsTook s t rank host bytes
  pub at : WorksAt s t host.stand.spot

abbrev pub WorksOn : Settings → Timing → ℕ → Host → Type 0
WorksOn s t rank host = host.on ≡ true → HostWorks s t rank host

-- a disk call that returned took nothing further, and no other call did
nothing_took : (s : Settings) (rank time : ℕ) (host : Host) (made : Call) → waits_for s rank host ≡ Some (blank made)
    → ((bytes : List ℕ) → host.took ≡ Some bytes → option_map_or is_disk (waits_for s rank host) false ≡ true)
    → (bytes : List ℕ) → (returned s rank made time host).took ≡ Some bytes → ⊥
unfolding returned
nothing_took s rank time host (call.Read sector read ok) waits disk bytes is = none-some bytes is
nothing_took s rank time host (call.Write sector written ok) waits disk bytes is = none-some bytes is
nothing_took s rank time host (call.Now tick) waits disk bytes is = false≢true (ap (λ o. option_map_or is_disk o false) (sym waits) ∙ disk bytes is)
nothing_took s rank time host (call.Receive got) waits disk bytes is = false≢true (ap (λ o. option_map_or is_disk o false) (sym waits) ∙ disk bytes is)
nothing_took s rank time host (call.Feed ok) waits disk bytes is = false≢true (ap (λ o. option_map_or is_disk o false) (sym waits) ∙ disk bytes is)
nothing_took s rank time host (call.Start ok) waits disk bytes is = false≢true (ap (λ o. option_map_or is_disk o false) (sym waits) ∙ disk bytes is)
nothing_took s rank time host (call.Stop ok) waits disk bytes is = false≢true (ap (λ o. option_map_or is_disk o false) (sym waits) ∙ disk bytes is)
nothing_took s rank time host (call.Send to sent ok) waits disk bytes is = false≢true (ap (λ o. option_map_or is_disk o false) (sym waits) ∙ disk bytes is)
nothing_took s rank time host (call.Disarm ok) waits disk bytes is = false≢true (ap (λ o. option_map_or is_disk o false) (sym waits) ∙ disk bytes is)
nothing_took s rank time host (call.Halt code) waits disk bytes is = false≢true (ap (λ o. option_map_or is_disk o false) (sym waits) ∙ disk bytes is)
nothing_took s rank time host (call.OpenImage path ok) waits disk bytes is = false≢true (ap (λ o. option_map_or is_disk o false) (sym waits) ∙ disk bytes is)
nothing_took s rank time host (call.OpenNode images image watchdog resource port owner ok) waits disk bytes is =
    false≢true (ap (λ o. option_map_or is_disk o false) (sym waits) ∙ disk bytes is)

module _ (s : Settings) (t : Timing) (back : header_of (header_bytes (length s.nodes) t) ≡ Some (length s.nodes, t)) where
  put_works : (rank other : ℕ) (hosts : ℕ → Host) (after : Host) → WorksOn s t other after → WorksOn s t rank (hosts rank)
      → WorksOn s t rank (put hosts other after rank)
  put_works rank other hosts after there here = by_owner (other == rank) refl
    where
      by_owner : (b : Bool) → (other == rank) ≡ b → WorksOn s t rank (if b then after else hosts rank)
      by_owner true is = subst (λ r. WorksOn s t r after) (eqb-true other rank is) there
      by_owner false is = here

  -- a call that returns
  returns_work : (rank time : ℕ) (host : Host) (made : Call) → waits_for s rank host ≡ Some (blank made)
      → ((bytes : List ℕ) → made ≡ call.Read 0 bytes true → host.took ≡ Some bytes)
      → (is_gone (phase s (log_at host.stand.spot)) ≡ true → IsEnding host.stand.spot)
      → HostWorks s t rank host → HostWorks s t rank (returned s rank made time host)
  unfolding returned
  returns_work rank time host made waits answer ends works =
      record {
        took = λ bytes is. absurd (nothing_took s rank time host made waits (λ had taken. (works.took had taken).disk) bytes is);
        at = after;
      }
    where
      reads : (bytes : List ℕ) → made ≡ call.Read 0 bytes true → bytes ≡ header_bytes (length s.nodes) t
      reads bytes is = (works.took bytes (answer bytes is)).header (waits ∙ ap (λ (c : Call). Some (blank c)) is)

      after : WorksAt s t (returned s rank made time host).stand.spot
      after = spot_works s rank t back host.leave host.stand.turn host.stand.more host.stand.spot made waits reads ends works.at

  -- an answer of the image is what the call took
  read_took : (rank : ℕ) (host : Host) (sent : List (ℕ × List ℕ)) (made : Call) → MayAnswer rank host sent made
      → (bytes : List ℕ) → made ≡ call.Read 0 bytes true → host.took ≡ Some bytes
  read_took rank host sent made may bytes is = subst (λ (c : Call). MayAnswer rank host sent c) is may refl

  lands_took : (image : ℕ → List ℕ) (waiting : Call) → image 0 ≡ header_bytes (length s.nodes) t → waiting ≡ call.Read 0 [] true
      → takes waiting image ≡ header_bytes (length s.nodes) t
  lands_took image waiting header is = ap (λ (c : Call). takes c image) is ∙ header

  module _ (image : ℕ → List ℕ) (worlds : (h : List Happening) → AllMayHappen s t image h → HasWorld s t (joint_after s image h)) where
    -- a host that is on is of a configured rank, and ends where its node is gone
    ends_gone : (h : List Happening) → AllMayHappen s t image h → (rank : ℕ) → ((joint_after s image h).hosts rank).on ≡ true
        → is_gone (phase s (log_at ((joint_after s image h).hosts rank).stand.spot)) ≡ true → IsEnding ((joint_after s image h).hosts rank).stand.spot
    ends_gone h may rank on gone = by_rank (cases_lt rank (length s.nodes))
      where
        has : HasWorld s t (joint_after s image h)
        has = worlds h may

        by_rank : (rank < length s.nodes) ⊎ (length s.nodes ≤ rank) → IsEnding ((joint_after s image h).hosts rank).stand.spot
        by_rank (inl below) = (has.world.nodes rank below).ending on gone
        by_rank (inr out) = absurd (false≢true (sym (has.world.off rank out) ∙ on))

    pub all_work : (h : List Happening) → AllMayHappen s t image h → (rank : ℕ) → WorksOn s t rank ((joint_after s image h).hosts rank)
    unfolding joint_after AllMayHappen happens looked_first
    all_work [] may rank = λ on. absurd cc
    all_work (Passes dt clocks ∷ earlier) may rank =
        let was = all_work earlier may.1 rank in
        λ on. let before = was on in
        record { took = λ bytes is. record { disk = (before.took bytes is).disk; header = (before.took bytes is).header }; at = before.at }
    all_work (Begins other clean leave polls turns ∷ earlier) may rank =
        put_works rank other (joint_after s image earlier).hosts (began clean leave polls turns (joint_after s image earlier).time)
        (λ on. record { took = λ bytes is. absurd (none-some bytes is); at = first_works s other t clean polls turns }) (all_work earlier may.1 rank)
    all_work (Looks other base ∷ earlier) may rank =
        let j = joint_after s image earlier in
        put_works rank other j.hosts (looked_first s other base j.time (j.hosts other))
        (λ on. let after = returns_work other j.time (j.hosts other) (call.Now (tick_of base)) may.0.2 (λ bytes is. absurd cc) (ends_gone earlier may.1 other may.0.0) (all_work earlier may.1 other may.0.0) in
        record { took = λ bytes is. record { disk = (after.took bytes is).disk; header = (after.took bytes is).header }; at = after.at })
        (all_work earlier may.1 rank)
    all_work (Lands other ∷ earlier) may rank = by_call (waits_for s other (j.hosts other)) refl (all_work earlier may.1 other) (all_work earlier may.1 rank)
      where
        j : Joint
        j = joint_after s image earlier

        by_call : (waiting : Option Call) → waits_for s other (j.hosts other) ≡ waiting → WorksOn s t other (j.hosts other) → WorksOn s t rank (j.hosts rank)
            → WorksOn s t rank
            ((option_map_or (λ w. record (with_host other (record (j.hosts other) { took = Some (takes w j.image) }) j) { image = landed_image w j.image }) waiting j).hosts rank)
        by_call None is there here = here
        by_call (Some waiting) is there here =
            put_works rank other j.hosts (record (j.hosts other) { took = Some (takes waiting j.image) })
            (λ on. let before = there on in
            record {
              took = λ bytes gave. record {
                disk = may.0.1;
                header = λ reads. sym (same_Some (takes waiting j.image) bytes gave)
                    ∙ lands_took j.image waiting (worlds earlier may.1).world.image.header (same_Some waiting (call.Read 0 [] true) (sym is ∙ reads));
              };
              at = before.at;
            })
            here
    all_work (Returns other made ∷ earlier) may rank =
        let j = joint_after s image earlier in
        put_works rank other j.hosts (returned s other made j.time (j.hosts other))
        (λ on. returns_work other j.time (j.hosts other) made may.0.waits (read_took other (j.hosts other) j.sent made may.0.answer) (ends_gone earlier may.1 other may.0.on) (all_work earlier may.1 other may.0.on))
        (all_work earlier may.1 rank)
    all_work (Feeds other ∷ earlier) may rank =
        let j = joint_after s image earlier in
        put_works rank other j.hosts (record (j.hosts other) { fed = j.time })
        (λ on. let before = all_work earlier may.1 other on in
        record { took = λ bytes is. record { disk = (before.took bytes is).disk; header = (before.took bytes is).header }; at = before.at })
        (all_work earlier may.1 rank)
    all_work (LandsLate other number ∷ earlier) may rank = by_call (numbered (j.hosts other).left number) (all_work earlier may.1 other) (all_work earlier may.1 rank)
      where
        j : Joint
        j = joint_after s image earlier

        by_call : (write : Option Call) → WorksOn s t other (j.hosts other) → WorksOn s t rank (j.hosts rank)
            → WorksOn s t rank
            ((option_map_or (λ w. record (with_host other (record (j.hosts other) { left = without (j.hosts other).left number }) j) { image = landed_image w j.image }) write j).hosts rank)
        by_call None there here = here
        by_call (Some write) there here =
            put_works rank other j.hosts (record (j.hosts other) { left = without (j.hosts other).left number })
            (λ on. let before = there on in
            record { took = λ bytes is. record { disk = (before.took bytes is).disk; header = (before.took bytes is).header }; at = before.at })
            here
    all_work (Ends other ∷ earlier) may rank =
        let j = joint_after s image earlier in
        put_works rank other j.hosts (ended s other (j.hosts other)) (λ on. absurd cc) (all_work earlier may.1 rank)
    all_work (Operates other message ∷ earlier) may rank = all_work earlier may.1 rank

    -- so each look is by the image
    each_look : (h : List Happening) → AllMayHappen s t image h → EachLook s image (HasLoop t) h
    unfolding AllMayHappen
    each_look [] may = tt
    each_look (Returns other made ∷ earlier) may =
        (look_works s other t ((joint_after s image earlier).hosts other).stand.spot made (all_work earlier may.1 other may.0.on).at, each_look earlier may.1)
    each_look (Looks other base ∷ earlier) may =
        (look_works s other t ((joint_after s image earlier).hosts other).stand.spot (call.Now (tick_of base)) (all_work earlier may.1 other may.0.0).at, each_look earlier may.1)
    each_look (Passes dt clocks ∷ earlier) may = (tt, each_look earlier may.1)
    each_look (Begins other clean leave polls turns ∷ earlier) may = (tt, each_look earlier may.1)
    each_look (Lands other ∷ earlier) may = (tt, each_look earlier may.1)
    each_look (Feeds other ∷ earlier) may = (tt, each_look earlier may.1)
    each_look (LandsLate other number ∷ earlier) may = (tt, each_look earlier may.1)
    each_look (Ends other ∷ earlier) may = (tt, each_look earlier may.1)
    each_look (Operates other message ∷ earlier) may = (tt, each_look earlier may.1)

abbrev pub HeadersReadBack : Type 0
HeadersReadBack = (nodes : ℕ) (t : Timing) → 1 ≤ nodes → nodes ≤ 32 → IsTrue (has_periods t) → header_of (header_bytes nodes t) ≡ Some (nodes, t)

pub looks_by_the_image : (s : Settings) (t : Timing) → EveryJointHasAWorld s t → HeadersReadBack → LooksByTheImage s t
looks_by_the_image s t worlds back image h joined =
    each_look s t (back (length s.nodes) t joined.fits.some joined.fits.few joined.fits.times) image
    (λ past may. worlds image past (record { fits = joined.fits; created = joined.created; may = may })) h joined.may

pub looks_by_the_image_again : (s : Settings) (t : Timing) → EveryJointHasAWorldAgain s t → HeadersReadBack → LooksByTheImageAgain s t
looks_by_the_image_again s t worlds back image h joined =
    each_look s t (back (length s.nodes) t joined.fits.some joined.fits.few joined.fits.times) image
    (λ past may. worlds image past (record { fits = joined.fits; left = joined.left; may = may })) h joined.may
