-- In every joint the view of a node that runs was made by a look.
use Rattle.std.proofs.Common.{◌≡◌, ◌⊎◌, inl, inr, ℕ, Bool, true, false, ◌==◌, List, [], ◌∷◌, Option, None, Some, if◌then◌else◌, refl, sym, subst}
use Rattle.std.specs.Option.{option_map_or}
use Rattle.std.proofs.lemmas.Bool.{eqb-true}
use Rattle.qn_base.specs.declared.calls.Call.{Call}
use Rattle.qn_base.specs.declared.calls.Call.TheVariants as call
use Rattle.qn_base.specs.declared.ids.View.{View}
use Rattle.qn_base.specs.Calls.{blank}
use Rattle.qn_base.specs.Members.{is_member}
use Rattle.qn_io.specs.Answered.{received_in}
use Rattle.qn_model.specs.declared.configuration.Settings.{Settings}
use Rattle.qn_model.specs.declared.packets.Packet.{Packet}
use Rattle.qn_model.specs.declared.packets.Packet.TheVariants as packet
use Rattle.qn_model.specs.declared.times.Timing.{Timing}
use Rattle.qn_model.specs.Moments.{tick_of}
use Rattle.qn_model.specs.Wanted.{rank_of}
use Rattle.qn_model.specs.World.{numbered, put, without}
use Rattle.qn_live.specs.Choosing.{packet_in}
use Rattle.qn_joined.specs.Joints.{AllMayHappen, Begins, Ends, Feeds, Happening, Host, Joint, Lands, LandsLate, Looks, Operates, Passes, Returns, began, ended, happens, joint_after, landed_image, looked_first, returned, takes, waits_for, with_host}
use Rattle.qn_service.specs.Looks.{HasAnnounced, IfLook, IfAnnounced, LookOf, SomeLook, look_at}
use Rattle.qn_service.specs.Unheard.{AreSent, HasMade}
use Rattle.qn_service.proofs.Knowing.{Word}
use Rattle.qn_service.proofs.Walking.{Stands, first_stands, grown, grown_word, next_word, spot_stands}

-- some look made a view
abbrev pub WasMade : Settings → (ℕ → List ℕ) → List Happening → View → Type 0
WasMade s image happenings v = SomeLook s image (HasMade s v) happenings

abbrev pub HostStands : Settings → (View → Type 0) → ℕ → Host → Type 0
HostStands s Q rank host = host.on ≡ true → Stands s rank Q host.stand.spot

-- of all hosts, and of each announcement that was sent
record All (s : Settings) (image : ℕ → List ℕ) (happenings : List Happening) : Type 0 where
  hosts : (rank : ℕ) → HostStands s (WasMade s image happenings) rank ((joint_after s image happenings).hosts rank)
  said : (from : ℕ) (v : View) → HasAnnounced s image from v happenings → is_member v.members from ≡ true → WasMade s image happenings v

-- one host is replaced
put_stands : (s : Settings) (Q : View → Type 0) (rank other : ℕ) (hosts : ℕ → Host) (after : Host) → HostStands s Q other after → HostStands s Q rank (hosts rank)
    → HostStands s Q rank (put hosts other after rank)
put_stands s Q rank other hosts after there here = by_owner (other == rank) refl
  where
    by_owner : (b : Bool) → (other == rank) ≡ b → HostStands s Q rank (if b then after else hosts rank)
    by_owner true is = subst (λ r. HostStands s Q r after) (eqb-true other rank is) there
    by_owner false is = here

-- a call that returns
returns_stand : (s : Settings) (rank time : ℕ) (Q : View → Type 0) (host : Host) (made : Call) → waits_for s rank host ≡ Some (blank made) → Word Q (packet_in (received_in made))
    → ((look : LookOf) → look_at rank host.stand.spot made ≡ Some look → (v : View) → HasMade s v look → Q v)
    → Stands s rank Q host.stand.spot → Stands s rank Q (returned s rank made time host).stand.spot
unfolding returned
returns_stand s rank time Q host made asked word makes stands =
    spot_stands s rank Q host.leave host.stand.turn host.stand.more host.stand.spot made asked word makes stands

-- a look that was just made is one of the looks
just_made : (s : Settings) (image : ℕ → List ℕ) (found : Option LookOf) (rest : View → Type 0) (look : LookOf) → found ≡ Some look → (v : View) → HasMade s v look
    → IfLook (HasMade s v) found ⊎ rest v
just_made s image found rest look is v made = inl (subst (IfLook (HasMade s v)) (sym is) made)

-- the words that were received before are still so
sent_word : (s : Settings) (image : ℕ → List ℕ) (earlier : List Happening) → ((from : ℕ) (v : View) → HasAnnounced s image from v earlier → is_member v.members from ≡ true → WasMade s image earlier v)
    → (p : Option Packet) → IfAnnounced (λ from v. HasAnnounced s image from v earlier) p → Word (WasMade s image earlier) p
sent_word s image earlier said None word = tt
sent_word s image earlier said (Some (packet.Announce from v)) word = λ member. said from.0 v (word member) member
sent_word s image earlier said (Some (packet.Hello from)) word = tt
sent_word s image earlier said (Some (packet.Heard from told standing)) word = tt
sent_word s image earlier said (Some (packet.Ask ask)) word = tt
sent_word s image earlier said (Some (packet.Tell tell)) word = tt
sent_word s image earlier said (Some (packet.Vote agrees)) word = tt

grown_hosts : (s : Settings) (Q R : View → Type 0) → ((v : View) → Q v → R v) → (rank : ℕ) (host : Host) → HostStands s Q rank host → HostStands s R rank host
grown_hosts s Q R more rank host stands on = grown s rank Q R more host.stand.spot (stands on)

-- a happening that is no look, and of which no announcement is sent
unchanged : (s : Settings) (t : Timing) (image : ℕ → List ℕ) (earlier : List Happening) → All s image earlier → (R : View → Type 0) → ((v : View) → WasMade s image earlier v → R v)
    → (rank : ℕ) → HostStands s R rank ((joint_after s image earlier).hosts rank)
unchanged s t image earlier before R more rank = grown_hosts s (WasMade s image earlier) R more rank ((joint_after s image earlier).hosts rank) (before.hosts rank)

all_stand : (s : Settings) (t : Timing) (image : ℕ → List ℕ) (happenings : List Happening) → AllMayHappen s t image happenings → AreSent s image happenings → All s image happenings
unfolding joint_after AllMayHappen happens looked_first
all_stand s t image [] may sent = record { hosts = λ rank on. absurd cc; said = λ from v said member. absurd said }
all_stand s t image (Passes dt clocks ∷ earlier) may sent =
    let before = all_stand s t image earlier may.1 sent in
    record {
      hosts = unchanged s t image earlier before (WasMade s image (Passes dt clocks ∷ earlier)) (λ v made. inr made);
      said = λ from v said member. inr (before.said from v said member);
    }
all_stand s t image (Begins other clean leave polls turns ∷ earlier) may sent =
    let before = all_stand s t image earlier may.1 sent in
    let now = WasMade s image (Begins other clean leave polls turns ∷ earlier) in
    record {
      hosts = λ rank. put_stands s now rank other (joint_after s image earlier).hosts (began clean leave polls turns (joint_after s image earlier).time)
          (λ on. first_stands s other now clean polls turns) (unchanged s t image earlier before now (λ v made. inr made) rank);
      said = λ from v said member. inr (before.said from v said member);
    }
all_stand s t image (Looks other base ∷ earlier) may sent =
    let before = all_stand s t image earlier may.1 sent in
    let now = WasMade s image (Looks other base ∷ earlier) in
    let j = joint_after s image earlier in
    record {
      hosts = λ rank. put_stands s now rank other j.hosts (looked_first s other base j.time (j.hosts other))
          (λ on. returns_stand s other j.time now (j.hosts other) (call.Now (tick_of base)) may.0.2 tt
          (just_made s image (look_at other (j.hosts other).stand.spot (call.Now (tick_of base))) (WasMade s image earlier))
          (unchanged s t image earlier before now (λ v made. inr made) other may.0.0))
          (unchanged s t image earlier before now (λ v made. inr made) rank);
      said = λ from v said member. inr (before.said from v said member);
    }
all_stand s t image (Lands other ∷ earlier) may sent =
    let before = all_stand s t image earlier may.1 sent in
    record {
      hosts = by_call (waits_for s other ((joint_after s image earlier).hosts other)) (unchanged s t image earlier before (WasMade s image (Lands other ∷ earlier)) (λ v made. inr made));
      said = λ from v said member. inr (before.said from v said member);
    }
  where
    j : Joint
    j = joint_after s image earlier

    by_call : (waiting : Option Call) → ((rank : ℕ) → HostStands s (WasMade s image (Lands other ∷ earlier)) rank (j.hosts rank))
        → (rank : ℕ) → HostStands s (WasMade s image (Lands other ∷ earlier)) rank
        ((option_map_or (λ w. record (with_host other (record (j.hosts other) { took = Some (takes w j.image) }) j) { image = landed_image w j.image }) waiting j).hosts rank)
    by_call None here rank = here rank
    by_call (Some waiting) here rank =
        put_stands s (WasMade s image (Lands other ∷ earlier)) rank other j.hosts (record (j.hosts other) { took = Some (takes waiting j.image) }) (here other) (here rank)
all_stand s t image (Returns other made ∷ earlier) may sent =
    let before = all_stand s t image earlier may.1 sent.1 in
    let now = WasMade s image (Returns other made ∷ earlier) in
    let j = joint_after s image earlier in
    record {
      hosts = λ rank. put_stands s now rank other j.hosts (returned s other made j.time (j.hosts other))
          (λ on. returns_stand s other j.time now (j.hosts other) made may.0.waits
          (grown_word (WasMade s image earlier) now (λ v made. inr made) (packet_in (received_in made)) (sent_word s image earlier before.said (packet_in (received_in made)) sent.0))
          (just_made s image (look_at other (j.hosts other).stand.spot made) (WasMade s image earlier))
          (unchanged s t image earlier before now (λ v made. inr made) other may.0.on))
          (unchanged s t image earlier before now (λ v made. inr made) rank);
      said = by_said before.said (before.hosts other may.0.on);
    }
  where
    by_said : ((from : ℕ) (v : View) → HasAnnounced s image from v earlier → is_member v.members from ≡ true → WasMade s image earlier v)
        → Stands s other (WasMade s image earlier) ((joint_after s image earlier).hosts other).stand.spot
        → (from : ℕ) (v : View) → HasAnnounced s image from v (Returns other made ∷ earlier) → is_member v.members from ≡ true → WasMade s image (Returns other made ∷ earlier) v
    by_said old stands from v (inl (same, says)) member =
        inr (next_word s other (WasMade s image earlier) ((joint_after s image earlier).hosts other).stand.spot stands (packet.Announce (rank_of from) v) says member)
    by_said old stands from v (inr said) member = inr (old from v said member)
all_stand s t image (Feeds other ∷ earlier) may sent =
    let before = all_stand s t image earlier may.1 sent in
    let now = WasMade s image (Feeds other ∷ earlier) in
    record {
      hosts = λ rank. put_stands s now rank other (joint_after s image earlier).hosts _
          (unchanged s t image earlier before now (λ v made. inr made) other) (unchanged s t image earlier before now (λ v made. inr made) rank);
      said = λ from v said member. inr (before.said from v said member);
    }
all_stand s t image (LandsLate other number ∷ earlier) may sent =
    let before = all_stand s t image earlier may.1 sent in
    record {
      hosts = by_call (numbered ((joint_after s image earlier).hosts other).left number) (unchanged s t image earlier before (WasMade s image (LandsLate other number ∷ earlier)) (λ v made. inr made));
      said = λ from v said member. inr (before.said from v said member);
    }
  where
    j : Joint
    j = joint_after s image earlier

    by_call : (write : Option Call) → ((rank : ℕ) → HostStands s (WasMade s image (LandsLate other number ∷ earlier)) rank (j.hosts rank))
        → (rank : ℕ) → HostStands s (WasMade s image (LandsLate other number ∷ earlier)) rank
        ((option_map_or (λ w. record (with_host other (record (j.hosts other) { left = without (j.hosts other).left number }) j) { image = landed_image w j.image }) write j).hosts rank)
    by_call None here rank = here rank
    by_call (Some write) here rank =
        put_stands s (WasMade s image (LandsLate other number ∷ earlier)) rank other j.hosts (record (j.hosts other) { left = without (j.hosts other).left number }) (here other) (here rank)
all_stand s t image (Ends other ∷ earlier) may sent =
    let before = all_stand s t image earlier may.1 sent in
    let now = WasMade s image (Ends other ∷ earlier) in
    record {
      hosts = λ rank. put_stands s now rank other (joint_after s image earlier).hosts (ended s other ((joint_after s image earlier).hosts other))
          (λ on. absurd cc) (unchanged s t image earlier before now (λ v made. inr made) rank);
      said = λ from v said member. inr (before.said from v said member);
    }
all_stand s t image (Operates other message ∷ earlier) may sent =
    let before = all_stand s t image earlier may.1 sent in
    record {
      hosts = unchanged s t image earlier before (WasMade s image (Operates other message ∷ earlier)) (λ v made. inr made);
      said = λ from v said member. inr (before.said from v said member);
    }

-- in every joint
pub always_stands : (s : Settings) (t : Timing) (image : ℕ → List ℕ) (happenings : List Happening) (rank : ℕ) → AllMayHappen s t image happenings → AreSent s image happenings
    → HostStands s (WasMade s image happenings) rank ((joint_after s image happenings).hosts rank)
always_stands s t image happenings rank may sent = (all_stand s t image happenings may sent).hosts rank
