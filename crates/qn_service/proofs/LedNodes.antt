-- Nodes whose leader keeps its view have an owner, and so have nodes whose looks agree.
use Rattle.std.proofs.Common.{◌≡◌, ℕ, ◌+◌, ◌*◌, ◌≤◌, true, List, [], ◌∷◌, ◌++◌, refl, sym, ◌∙◌, ap, subst}
use Rattle.qn_base.specs.declared.ids.Mask.{Mask}
use Rattle.qn_base.specs.declared.ids.View.{View}
use Rattle.qn_base.specs.Members.{is_member}
use Rattle.qn_model.specs.declared.configuration.Settings.{Settings}
use Rattle.qn_model.specs.declared.times.Timing.{Timing}
use Rattle.qn_model.specs.Moments.{Before, Itself, Later}
use Rattle.qn_member.specs.Maker.{has_configured}
use Rattle.qn_progress.specs.Pace.{outside}
use Rattle.qn_safety.specs.Earlier.{before_then}
use Rattle.qn_joined.specs.Joints.{Happening, IsJoined, joint_after, runs_at}
use Rattle.qn_service.specs.Leaders.{HasSettled, LeadersSettle, SettlesIn}
use Rattle.qn_service.specs.Following.{AreLed, KeepsLeading, LooksComeToAgree, NodesServe, Service}
use Rattle.qn_service.specs.KeptViews.{AgreeOnView, LooksServe}
use Rattle.qn_service.specs.Serving.{MayServe, serving_ticks}
use Rattle.qn_service.specs.Unheard.{log_after}

-- what happened up to a later joint is what happened up to an earlier one, and more
more_since : {old new : List Happening} → Before old new → (more : List Happening) × (more ++ old ≡ new)
more_since Itself = ([], refl)
more_since (Later newest before) = let rest = more_since before in (newest ∷ rest.0, ap (λ (h : List Happening). newest ∷ h) rest.1)

pub nodes_serve : (s : Settings) (t : Timing) → LooksComeToAgree s t → LooksServe s t → NodesServe s t
nodes_serve s t agree serve image pace turn post gaze leader rank present newer older at joined k since until late may takes =
    by_more (more_since until) joined (agree image turn post gaze leader present newer older at joined k since until late) may takes
  where
    by_more : {all : List Happening} → (more : List Happening) × (more ++ at ≡ all) → IsJoined s t image all → AgreeOnView s image leader present at all
        → MayServe s t image pace post rank present at all
        → 100 * serving_ticks t pace post (outside s (log_after s image at rank)) + 99 * (joint_after s image at).time ≤ 99 * (joint_after s image all).time
        → (owner : ℕ) × (is_member present.members owner ≡ true) × (runs_at s image all owner ≡ true)
    by_more (more, same) is agrees serves enough =
        subst (λ (h : List Happening). (owner : ℕ) × (is_member present.members owner ≡ true) × (runs_at s image h owner ≡ true)) same
        (serve image pace post rank leader present more at
        (subst (IsJoined s t image) (sym same) is)
        (subst (AgreeOnView s image leader present at) (sym same) agrees)
        (subst (MayServe s t image pace post rank present at) (sym same) serves)
        (subst (λ (h : List Happening). 100 * serving_ticks t pace post (outside s (log_after s image at rank)) + 99 * (joint_after s image at).time ≤ 99 * (joint_after s image h).time)
        (sym same) enough))

-- members of a view of a set are in that
in_view : (present : View) (set : Mask) (rank : ℕ) → present.members ≡ set → is_member present.members rank ≡ true → is_member set rank ≡ true
in_view present set rank is member = ap (λ (members : Mask). is_member members rank) (sym is) ∙ member

-- a leader that settled leads the others
leads_on : (s : Settings) (image : ℕ → List ℕ) (turn post gaze : ℕ) (set : Mask) (leader : ℕ) (older settled all : List Happening) → Before older settled
    → SettlesIn s image turn gaze set leader older all → (has : HasSettled s image set leader settled all) → AreLed s image turn post gaze set leader settled all
    → KeepsLeading s image turn post gaze leader has.present settled all
leads_on s image turn post gaze set leader older settled all since joins has led =
    record {
      configured = λ rank member. led.configured rank (in_view has.present set rank has.is member);
      members = ap (has_configured s.nodes) has.is ∙ led.members;
      member = ap (λ (members : Mask). is_member members leader) has.is ∙ joins.member;
      awake = λ at after before. joins.awake at (before_then since after) before;
      looks = led.looks;
      keeps = has.keeps;
      names = led.names;
      follows = λ rank member other. led.follows rank (in_view has.present set rank has.is member) other;
    }

pub service : (s : Settings) (t : Timing) → LeadersSettle s t → NodesServe s t → Service s t
service s t settle serve image pace turn post gaze set leader rank newer older settled at joined agree joins since order until late led late_led may takes =
    (found.0, in_view has.present set found.0 has.is found.1, found.2)
  where
    settled_before : Before settled (newer ++ older)
    settled_before = before_then order until

    has : HasSettled s image set leader settled (newer ++ older)
    has = settle image turn post gaze set leader newer older settled joined agree joins since settled_before late

    rest : (more : List Happening) × (more ++ settled ≡ newer ++ older)
    rest = more_since settled_before

    found : (owner : ℕ) × (is_member has.present.members owner ≡ true) × (runs_at s image (newer ++ older) owner ≡ true)
    found =
        subst (λ (h : List Happening). (owner : ℕ) × (is_member has.present.members owner ≡ true) × (runs_at s image h owner ≡ true)) rest.1
        (serve image pace turn post gaze leader rank has.present rest.0 settled at
        (subst (IsJoined s t image) (sym rest.1) joined)
        (subst (KeepsLeading s image turn post gaze leader has.present settled) (sym rest.1)
        (leads_on s image turn post gaze set leader older settled (newer ++ older) since joins has led))
        order (subst (Before at) (sym rest.1) until) late_led
        (subst (MayServe s t image pace post rank has.present at) (sym rest.1) (may has.present has.is))
        (subst (λ (h : List Happening). 100 * serving_ticks t pace post (outside s (log_after s image at rank)) + 99 * (joint_after s image at).time ≤ 99 * (joint_after s image h).time)
        (sym rest.1) takes))
