-- What a choice comes to, by what is pending in a world.
use Rattle.std.proofs.Common.{◌≡◌, ◌≢◌, ℕ, ◌-◌, ◌%◌, ◌<◌, true, false, ◌==◌, Option, refl, sym, ap, ap₂, ◌∙◌, arith, length, min, nat_lt, option_map}
use Rattle.std.specs.Prelude.{slice_get, unwrap_or}
use Rattle.std.proofs.lemmas.Bool.{ne_eqb}
use Rattle.std.proofs.lemmas.Bool.Decides.{nat_tests}
use Rattle.qn_base.specs.declared.ids.Rank.{Rank}
use Rattle.qn_model.specs.declared.configuration.Settings.{Settings}
use Rattle.qn_model.specs.declared.events.Event.{Event}
use Rattle.qn_model.specs.declared.events.Event.TheVariants.{Deliver, Device, Tick}
use Rattle.qn_model.specs.Moments.{packets, time}
use Rattle.qn_model.specs.Rules.{is_well_formed}
use Rattle.qn_model.specs.World.{World}
use Rattle.qn_world.specs.declared.pending.Pending.{Pending}
use Rattle.qn_world.specs.Pending.{pending_of}
use Rattle.qn_replay.specs.declared.choice.Choice.{Choice}
use Rattle.qn_replay.specs.declared.choice.Choice.TheVariants as kind
use Rattle.qn_replay.specs.Draws.{draw_at, next_state}
use Rattle.qn_replay.specs.Generator.{Drawn, undrawn, soak_settings, pending_at, next_step, pass_at, view_at, receiver, number_at, delivery, incident_of, chosen_event}

-- what is pending under equal settings
pub pending_as : {s : Settings} (rank : ℕ) (d : World) (pending : Pending) → s ≡ soak_settings → pending ≡ pending_of s rank d → pending ≡ pending_at rank d
pending_as rank d pending settings is = is ∙ ap (λ s. pending_of s rank d) settings

module _ (d : World) (choice : Choice) (rank : Rank) (state : ℕ) (drawn : Drawn) where
  pub step_drawn : {s : Settings} (pending : Pending) (now : ℕ) → choice ≡ kind.Step → s ≡ soak_settings → pending ≡ pending_of s rank.0 d → now ≡ time d.moments
      → drawn ≡ next_step pending now rank state → drawn ≡ chosen_event d choice rank state
  unfolding chosen_event
  step_drawn pending now chosen settings pending_is now_is is =
      is ∙ ap₂ (λ x y. next_step x y rank state) (pending_as rank.0 d pending settings pending_is) now_is ∙ ap (λ c. chosen_event d c rank state) (sym chosen)

  pub pass_drawn : {s : Settings} (first second third : Pending) → s ≡ soak_settings → first ≡ pending_of s 0 d → second ≡ pending_of s 1 d → third ≡ pending_of s 2 d
      → drawn ≡ pass_at first.running second.running third.running (next_state state) → drawn ≡ chosen_event d kind.Pass rank state
  unfolding chosen_event
  pass_drawn first second third settings a b c is =
      is ∙ ap (λ n. pass_at n.running second.running third.running (next_state state)) (pending_as 0 d first settings a)
      ∙ ap (λ n. pass_at (pending_at 0 d).running n.running third.running (next_state state)) (pending_as 1 d second settings b)
      ∙ ap (λ n. pass_at (pending_at 0 d).running (pending_at 1 d).running n.running (next_state state)) (pending_as 2 d third settings c)

  pub pass_chosen : choice ≡ kind.Pass → drawn ≡ chosen_event d kind.Pass (record { 0 = 0 }) state → drawn ≡ chosen_event d choice rank state
  unfolding chosen_event
  pass_chosen chosen is = is ∙ ap (λ c. chosen_event d c rank state) (sym chosen)

  pub view_drawn : choice ≡ kind.View → drawn ≡ view_at rank (next_state state) → drawn ≡ chosen_event d choice rank state
  unfolding chosen_event
  view_drawn chosen is = is ∙ ap (λ c. chosen_event d c rank state) (sym chosen)

  pub delivery_drawn : choice ≡ kind.Delivery → drawn ≡ delivery rank (length (packets soak_settings d.moments)) d state → drawn ≡ chosen_event d choice rank state
  unfolding chosen_event
  delivery_drawn chosen is = is ∙ ap (λ c. chosen_event d c rank state) (sym chosen)

pub device_drawn : (d : World) (choice : Choice) (rank : Rank) (state : ℕ) → choice ≡ kind.Device → undrawn (Device rank true) state ≡ chosen_event d choice rank state
unfolding chosen_event
device_drawn d choice rank state chosen = ap (λ c. chosen_event d c rank state) (sym chosen)

pub incident_drawn : (d : World) (choice : Choice) (rank : Rank) (state next value : ℕ) (event : Event) → choice ≡ kind.Incident → next ≡ next_state state
    → value ≡ draw_at (next_state state) → event ≡ incident_of (value % 8) rank → undrawn event next ≡ chosen_event d choice rank state
unfolding chosen_event
incident_drawn d choice rank state next value event chosen next_is value_is event_is =
    ap₂ undrawn (event_is ∙ ap (λ v. incident_of (v % 8) rank) value_is) next_is ∙ ap (λ c. chosen_event d c rank state) (sym chosen)

-- where no packet was sent
pub delivery_none : {s : Settings} (d : World) (rank : Rank) (state count : ℕ) → s ≡ soak_settings → count ≡ length (packets s d.moments) → count ≡ 0
    → undrawn (Tick rank) state ≡ delivery rank (length (packets soak_settings d.moments)) d state
unfolding delivery
delivery_none d rank state count settings count_is none =
    let zero : length (packets soak_settings d.moments) ≡ 0 = sym (ap (λ s. length (packets s d.moments)) settings) ∙ sym count_is ∙ none in
    rw zero refl

pub receiver_as : {s : Settings} (d : World) (rank to : Rank) (number : ℕ) (got : Option Rank) → s ≡ soak_settings
    → got ≡ option_map (λ sent. sent.to) (slice_get (packets s d.moments) number) → to ≡ unwrap_or got rank → to ≡ receiver rank number d
receiver_as d rank to number got settings got_is to_is =
    to_is ∙ ap (λ g. unwrap_or g rank) (got_is ∙ ap (λ s. option_map (λ sent. sent.to) (slice_get (packets s d.moments) number)) settings)

-- one of the last packets
pub delivery_some : {s : Settings} (d : World) (rank to : Rank) (state next value count number : ℕ) → s ≡ soak_settings → count ≡ length (packets s d.moments)
    → count ≢ 0 → next ≡ next_state state → value ≡ draw_at (next_state state) → number ≡ count - 1 - value % min count 8 → to ≡ receiver rank number d
    → undrawn (Deliver to number) next ≡ delivery rank (length (packets soak_settings d.moments)) d state
unfolding delivery
delivery_some d rank to state next value count number settings count_is some next_is value_is number_is to_is =
    let sent : count ≡ length (packets soak_settings d.moments) = count_is ∙ ap (λ s. length (packets s d.moments)) settings in
    let not_zero : (length (packets soak_settings d.moments) == 0) ≡ false = ne_eqb (length (packets soak_settings d.moments)) 0 (λ zero. some (sent ∙ zero)) in
    let right : number ≡ number_at (length (packets soak_settings d.moments)) (next_state state) =
    number_is ∙ ap₂ (λ c v. c - 1 - v % min c 8) sent value_is in
    rw not_zero (ap (λ r. undrawn (Deliver r number) next) to_is ∙ ap₂ (λ n x. undrawn (Deliver (receiver rank n d) n) x) right next_is)

pub device_formed : (rank : Rank) → rank.0 < 3 → is_well_formed soak_settings (Device rank true) ≡ true
unfolding is_well_formed
device_formed rank below = let inside : nat_lt rank.0 3 ≡ true = grind (arith, nat_tests) in inside
