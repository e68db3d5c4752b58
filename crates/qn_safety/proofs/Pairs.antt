-- Two nodes never hold the resource at the same moment of a timed run.
use Rattle.std.proofs.Common.{◌≡◌, ℕ, ◌<◌, ◌≤◌, Bool, true, false, List, [], ◌∷◌, length, refl, sym, ap, ◌∙◌, subst, arith, not, ◌⊎◌, inl, inr}
use Rattle.std.proofs.lemmas.Bool.{false≢true, and_from}
use Rattle.std.proofs.lemmas.Option.{same_Some}
use Rattle.qn_model.specs.declared.configuration.Settings.{Settings}
use Rattle.qn_model.specs.declared.times.Timing.{Timing}
use Rattle.qn_model.specs.Log.{Line, has_start}
use Rattle.qn_model.specs.Phases.{phase, is_booting, is_live}
use Rattle.qn_model.specs.Holding.{holds}
use Rattle.qn_model.specs.NodeVotes.{install, is_in_view, view}
use Rattle.qn_model.specs.lemmas.ChosenRanks.{same_chosen}
use Rattle.qn_model.specs.Hearing.{told}
use Rattle.qn_model.specs.Licences.{out_time}
use Rattle.qn_model.specs.Moments.{Before, Itself}
use Rattle.qn_safety.specs.Earlier.{before_then, before_total}
use Rattle.qn_model.specs.Moments.{Moment, Adds, node, is_holder}
use Rattle.qn_safety.specs.Timed.{IsAdded, IsUp, IsSameBoot, AllRuled, IsTimedRun}
use Rattle.std.proofs.lemmas.Bool.{cases_eq}
use Rattle.qn_base.specs.lemmas.Bools.{never_both}
use Rattle.qn_model.specs.lemmas.Phases.{up_booted}
use Rattle.qn_model.specs.Timing.{is_safe}
use Rattle.qn_safety.proofs.Logs.{IsLine, line_at, start_reason}
use Rattle.qn_safety.proofs.Installs.{install_le, view_stays}
use Rattle.qn_safety.proofs.Stays.{StartedAt, start_since}
use Rattle.qn_safety.proofs.Rests.{StartFacts, start_facts, TellFound, stays_out, out_time_grows}
use Rattle.qn_safety.proofs.Runs.{sound, ruled_before, span, same_mid}
use Rattle.qn_safety.proofs.Origins.{Origin, ByEntry, ByBoot, origin}
use Rattle.qn_safety.proofs.Fence.{up_later}
use Rattle.qn_safety.proofs.Licensed.{Licensed, licensed, holder_on, holder_holds}
use Rattle.qn_safety.proofs.Tells.{Traced, traced}

-- the moment at which node i started what it holds at the present moment
pub record Started (s : Settings) (i : ℕ) (now : List Moment) : Type 0 where
  pub at : List Moment
  pub back : Before at now
  pub same : IsSameBoot s i at now
  pub up : IsUp s i at
  pub line : Line
  pub past : List Line
  pub gave : (node s i at).log ≡ line ∷ past
  pub before : List Moment
  pub added : IsAdded s i line past before now
  pub is : at ≡ Adds i added.entry ∷ before
  pub starts : has_start line.outs ≡ true
  pub facts : StartFacts s i line past
  pub held : (mid : List Moment) → Before at mid → Before mid now → is_holder s mid i ≡ true

module _ {s : Settings} {t : Timing} {all : List Moment} (run : IsTimedRun s t all) where
  no_begin_start : (i : ℕ) (line : Line) (past : List Line) → IsLine s i line past → has_start line.outs ≡ true → past ≡ [] → ⊥
  no_begin_start i line past it start first =
      false≢true (sym (first_not_live s) ∙ subst (λ p. is_live (phase s p) ≡ true) first ((start_reason it start).live))
    where
      first_not_live : (s : Settings) → is_live (phase s []) ≡ false
      first_not_live s = unfold phase in refl

  pub started : (i : ℕ) (now : List Moment) → Before now all → is_holder s now i ≡ true → Started s i now
  started i now until holder = by_origin (origin s i start.line start.past now start.back)
    where
      start : StartedAt (node s i now).log
      start = start_since (node s i now).log (holder_holds s now i holder)

      ruled_now : AllRuled s t now
      ruled_now = ruled_before until run.ruled

      it : IsLine s i start.line start.past
      it = line_at start.back ((sound ruled_now i).made)

      by_origin : Origin s i start.line start.past now → Started s i now
      by_origin (ByBoot clean begins first) = absurd (no_begin_start i start.line start.past it start.start first)
      by_origin (ByEntry before added same) =
          let at : List Moment = Adds i added.entry ∷ before in
          let on = holder_on s now i holder in
          let facts = start_facts it start.start in
          let spans = span i ruled_now added.back same on in
          record {
            at = at;
            back = added.back;
            same = same;
            up = record { on = spans.on; booted = subst (λ log. is_booting (phase s log) ≡ false) (sym added.gave) (up_booted (phase s (start.line ∷ start.past)) facts.up) };
            line = start.line;
            past = start.past;
            gave = added.gave;
            before = before;
            added = added;
            is = refl;
            starts = start.start;
            facts = facts;
            held = λ mid since to_now.
                let mids = same_mid s i since to_now same in
                let later = span i ruled_now to_now mids.1 on in
                let earlier = span i (ruled_before to_now ruled_now) since mids.0 later.on in
                and_from (node s i mid).on (holds (node s i mid).log) later.on
                (start.held (node s i mid).log (subst (λ log. Before log (node s i mid).log) added.gave earlier.grows) later.grows);
          }

  module _ (safe : is_safe t ≡ true) (i j : ℕ) (now : List Moment) (until : Before now all) (first : Started s i now) (second : Started s j now)
      (order : Before first.at second.at) (differs : ¬ (i ≡ j)) where
    second_all : Before second.at all
    second_all = before_then second.back until

    first_all : Before first.at all
    first_all = before_then first.back until

    ruled_second : AllRuled s t second.at
    ruled_second = ruled_before second_all run.ruled

    -- both hold at the second start
    first_holds : is_holder s second.at i ≡ true
    first_holds = first.held second.at order second.back

    second_holds : is_holder s second.at j ≡ true
    second_holds = second.held second.at Itself second.back

    first_on : (node s i second.at).on ≡ true
    first_on = holder_on s second.at i first_holds

    first_same : IsSameBoot s i first.at second.at
    first_same = (same_mid s i order second.back first.same).0

    i_known : i < length s.nodes
    i_known = (sound ruled_second i).known first_on

    j_known : j < length s.nodes
    j_known = (sound ruled_second j).known second.up.on

    -- the first one is up from its start to the second start
    up_between : (k : ℕ) (p q : List Moment) → Before p q → Before q second.at → IsUp s k p → IsSameBoot s k p second.at → (node s k second.at).on ≡ true → IsUp s k q × IsSameBoot s k q second.at
    up_between k p q p_q q_m up same on =
        let mids = same_mid s k p_q q_m same in
        let later = span k ruled_second q_m mids.1 on in
        (up_later k (ruled_before q_m ruled_second) p_q up mids.0 later.on, mids.1)

    -- a licence of i for j, resting on a moment at which j was up in the boot that holds, is impossible
    licence_fails : (lic : Licensed s i j first.at all) → IsUp s j lic.p → IsSameBoot s j lic.p second.at → ⊥
    licence_fails lic up same = lic.no_more second.at order second_all first_same first_on up same second_holds

    licence_first : is_in_view (first.line ∷ first.past) j ≡ false → Licensed s i j first.at all
    licence_first outside =
        licensed run safe i j first.at first_all first.up.on first.line first.past first.gave first.up (λ e. differs (sym e)) (first.facts.licensed j j_known outside)

    -- a view that leaves a rank out from a moment on does so at each later moment of the out-time
    outside_at : (k other : ℕ) (p q m : List Moment) (asking : Line) (older : List Line) → AllRuled s t m → Before p q → Before q m → IsSameBoot s k p m → (node s k m).on ≡ true
        → Before (asking ∷ older) (node s k p).log → is_in_view (asking ∷ older) other ≡ false → out_time other (node s k m).log ≤ length (asking ∷ older)
        → is_in_view (node s k q).log other ≡ false
    outside_at k other p q m asking older ruled p_q q_m same on asked outside since =
        let mids = same_mid s k p_q q_m same in
        let later = span k ruled q_m mids.1 on in
        let earlier = span k (ruled_before q_m ruled) p_q mids.0 later.on in
        let grows = out_time_grows other later.grows in
        stays_out other (before_then asked earlier.grows) (omega arith) outside

    -- between two moments of one install number the view is the same
    view_between : (k : ℕ) (p q m : List Moment) → AllRuled s t m → Before p q → Before q m → IsSameBoot s k p m → (node s k m).on ≡ true
        → install (node s k p).log ≡ install (node s k m).log → view (node s k q).log ≡ view (node s k m).log
    view_between k p q m ruled p_q q_m same on installed =
        let mids = same_mid s k p_q q_m same in
        let later = span k ruled q_m mids.1 on in
        let earlier = span k (ruled_before q_m ruled) p_q mids.0 later.on in
        let under = install_le earlier.grows in
        let over = install_le later.grows in
        sym (view_stays later.grows (omega arith))

    -- the first case: i is outside the view of j at the start of j
    module _ (lic : Licensed s j i second.at all) where
      -- the incarnation of i that holds was not up at the moment that the licence rests on
      was_not_up : IsUp s i lic.p → IsSameBoot s i lic.p second.at → ⊥
      was_not_up up same = lic.no_more second.at Itself second_all refl second.up.on up same first_holds

      was_not_up_later : (a : List Moment) → Before a lic.p → IsUp s i a → IsSameBoot s i a second.at → ⊥
      was_not_up_later a a_p up same = let now_up = up_between i a lic.p a_p lic.back up same first_on in was_not_up now_up.0 now_up.1

      rests_before : Before lic.p first.at
      rests_before = by_order (before_total lic.back order)
        where
          by_order : Before lic.p first.at ⊎ Before first.at lic.p → Before lic.p first.at
          by_order (inl early) = early
          by_order (inr late) = absurd (was_not_up_later first.at late first.up first_same)

      outside_outside : Licensed s i j first.at all → ⊥
      outside_outside other = by_order (before_total (before_then other.back order) lic.back)
        where
          same_other : IsSameBoot s i other.p second.at
          same_other = other.same ∙ first_same

          by_order : Before other.p lic.p ⊎ Before lic.p other.p → ⊥
          by_order (inl early) = was_not_up_later other.p early other.up same_other
          by_order (inr late) =
              let up = up_between j lic.p other.p late (before_then other.back order) lic.up lic.same second.up.on in
              licence_fails other up.0 up.1

      outside_inside : Traced s i j first.at → ⊥
      outside_inside told = by_order (before_total (before_then (before_then told.asked_back told.back) order) lic.back)
        where
          by_order : Before told.asked lic.p ⊎ Before lic.p told.asked → ⊥
          by_order (inl early) = was_not_up_later told.asked early told.up (told.same ∙ first_same)
          by_order (inr late) =
              never_both (is_in_view (told.line ∷ told.past) i) told.sees
              (subst (λ log. is_in_view log i ≡ false) told.gave
              (outside_at j i lic.p told.sent second.at lic.asking lic.older ruled_second (before_then late told.asked_back) (before_then told.back order) lic.same second.up.on
              lic.asked lic.outside lic.since))

      outside_case : (b : Bool) → is_in_view (first.line ∷ first.past) j ≡ b → ⊥
      outside_case false outside = outside_outside (licence_first outside)
      outside_case true inside =
          outside_inside (traced run i first.at first_all j
          (subst (λ log. TellFound (λ tell. not tell.holds) j log) (sym first.gave) (first.facts.free j j_known inside (λ e. differs (sym e)))))

    -- the second case: i is in the view of j at the start of j
    module _ (told : Traced s j i second.at) (member : is_in_view (second.line ∷ second.past) i ≡ true) where
      -- i started after its Tell
      told_before : Before told.sent first.at
      told_before = by_order (before_total told.back order)
        where
          by_order : Before told.sent first.at ⊎ Before first.at told.sent → Before told.sent first.at
          by_order (inl early) = early
          by_order (inr late) =
              never_both (holds (told.line ∷ told.past))
              (subst (λ log. holds log ≡ true) told.gave (holder_holds s told.sent i (first.held told.sent late (before_then told.back second.back)))) told.idle

      inside_outside : Licensed s i j first.at all → ⊥
      inside_outside lic = by_order (before_total lic.back told_before)
        where
          by_order : Before lic.p told.sent ⊎ Before told.sent lic.p → ⊥
          by_order (inl early) =
              never_both (is_in_view (told.line ∷ told.past) j) told.sees
              (subst (λ log. is_in_view log j ≡ false) told.gave
              (outside_at i j lic.p told.sent first.at lic.asking lic.older (ruled_before first_all run.ruled) early told_before lic.same first.up.on lic.asked lic.outside lic.since))
          by_order (inr late) =
              let up = up_between j told.asked lic.p (before_then told.asked_back late) (before_then lic.back order) told.up told.same second.up.on in
              licence_fails lic up.0 up.1

      inside_case : (b : Bool) → is_in_view (first.line ∷ first.past) j ≡ b → ⊥
      inside_case false outside = inside_outside (licence_first outside)
      inside_case true inside =
          one_choice (traced run i first.at first_all j
          (subst (λ log. TellFound (λ tell. not tell.holds) j log) (sym first.gave) (first.facts.free j j_known inside (λ e. differs (sym e)))))
        where
          -- one of the two Tells was sent in the view of its own sender's start
          one_view : Traced s i j first.at → view (first.line ∷ first.past) ≡ view (second.line ∷ second.past)
          one_view other = ap view (sym first.gave) ∙ by_order (before_total (before_then other.asking_back (before_then other.back order)) told.back) ∙ ap view second.gave
            where
              by_order : Before other.asking told.sent ⊎ Before told.sent other.asking → view (node s i first.at).log ≡ view (node s j second.at).log
              by_order (inl early) =
                  sym (view_between i other.asking told.sent first.at (ruled_before first_all run.ruled) early told_before other.asking_same first.up.on other.installed)
                  ∙ ap view told.gave ∙ told.shows
              by_order (inr late) =
                  sym other.shows ∙ ap view (sym other.gave)
                  ∙ view_between j told.asking other.sent second.at ruled_second (before_then told.asking_back (before_then late other.asking_back)) (before_then other.back order)
                  told.asking_same second.up.on told.installed

          one_choice : Traced s i j first.at → ⊥
          one_choice other =
              differs (same_Some i j
              (sym first.facts.mine ∙ same_chosen s (first.line ∷ first.past) (second.line ∷ second.past) (one_view other) ∙ second.facts.mine))

    -- the start of j while i holds is impossible
    collide : ⊥
    collide = by_view (is_in_view (second.line ∷ second.past) i) refl
      where
        by_view : (b : Bool) → is_in_view (second.line ∷ second.past) i ≡ b → ⊥
        by_view false outside =
            outside_case (licensed run safe j i second.at second_all second.up.on second.line second.past second.gave second.up differs (second.facts.licensed i i_known outside))
            (is_in_view (first.line ∷ first.past) j) refl
        by_view true inside =
            inside_case (traced run j second.at second_all i
            (subst (λ log. TellFound (λ tell. not tell.holds) i log) (sym second.gave) (second.facts.free i i_known inside differs))) inside
            (is_in_view (first.line ∷ first.past) j) refl

  -- at every moment of a timed run at most one node holds
  pub at_most_one : is_safe t ≡ true → (now : List Moment) → Before now all → (i j : ℕ) → is_holder s now i ≡ true → is_holder s now j ≡ true → i ≡ j
  at_most_one safe now until i j i_holds j_holds = by_eq (cases_eq i j)
    where
      first : Started s i now
      first = started i now until i_holds

      second : Started s j now
      second = started j now until j_holds

      by_order : ¬ (i ≡ j) → Before first.at second.at ⊎ Before second.at first.at → ⊥
      by_order differs (inl order) = collide safe i j now until first second order differs
      by_order differs (inr order) = collide safe j i now until second first order (λ e. differs (sym e))

      by_eq : (i ≡ j) ⊎ ((i ≡ j) → ⊥) → i ≡ j
      by_eq (inl same) = same
      by_eq (inr differs) = absurd (by_order differs (before_total first.back second.back))
