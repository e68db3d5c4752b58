-- No call of a view maker changes its loop's time.
use Rattle.std.proofs.Common.{◌≡◌, ℕ, Bool, true, false, not, ◌&&◌, Option, None, Some, if◌then◌else◌, refl, sym, ◌∙◌, ap}
use Rattle.std.specs.Prelude.{option_map}
use Rattle.std.proofs.lemmas.Option.{none-some, same_Some}
use Rattle.qn_base.specs.declared.ids.Mask.{Mask}
use Rattle.qn_base.specs.declared.ids.Said.{Said}
use Rattle.qn_base.specs.declared.ids.Standing.{Standing}
use Rattle.qn_base.specs.declared.ids.View.{View}
use Rattle.qn_model.specs.declared.configuration.Settings.{Settings}
use Rattle.qn_model.specs.declared.packets.Packet.{Packet}
use Rattle.qn_model.specs.declared.packets.Packet.TheVariants as packet
use Rattle.qn_member.specs.Maker.{Maker, after_announce, after_hello, after_tick, company_at, has_configured, installed_beside, is_configured, led_by, looked, plain, says_more, view_at}
use Rattle.qn_member.specs.Naming.{NamingMaker, after_named_announce, after_named_hello, after_stand, after_standing, first_naming, has_bit, is_other, is_own, knows_bit}
use Rattle.qn_member.specs.NamingViews.{after_by_name, after_found, after_look, after_naming_hello_due, after_plain_look, company_now, is_naming_hello_due, looked_by_name, seeing_names, view_by_name}
use Rattle.qn_live.specs.declared.words.Own.{Own}
use Rattle.qn_live.specs.Choosing.{heard, told}
use Rattle.qn_live.specs.Greetings.{maker_begun, maker_where}
use Rattle.qn_service.proofs.Made.{leading_keeps, looked_notes}

abbrev pub loop_of : NamingMaker → ℕ
loop_of m = m.maker.loop_ms

if_loop : (b : Bool) (one other : NamingMaker) (loop_ms : ℕ) → loop_of one ≡ loop_ms → loop_of other ≡ loop_ms → loop_of (if b then one else other) ≡ loop_ms
if_loop true one other loop_ms first second = first
if_loop false one other loop_ms first second = second

if_kept : (b : Bool) (one other : Maker) (loop_ms : ℕ) → one.loop_ms ≡ loop_ms → other.loop_ms ≡ loop_ms → (if b then one else other).loop_ms ≡ loop_ms
if_kept true one other loop_ms first second = first
if_kept false one other loop_ms first second = second

hello_keeps : (tick from : ℕ) (said : Said) (k : Maker) → (after_hello tick from said k).loop_ms ≡ k.loop_ms
hello_keeps tick from said k = if_kept (is_configured k from) _ k k.loop_ms refl refl

named_hello_keeps : (tick from : ℕ) (said : Said) (m : NamingMaker) → loop_of (after_named_hello tick from said m) ≡ loop_of m
named_hello_keeps tick from said m =
    if_loop (is_other m from) _ _ (loop_of m) (hello_keeps tick from said m.maker) (hello_keeps tick from said m.maker)

standing_keeps : (from : ℕ) (standing : Standing) (m : NamingMaker) → loop_of (after_standing from standing m) ≡ loop_of m
standing_keeps from standing m = if_loop (is_other m from && has_bit standing.flags knows_bit) _ m (loop_of m) refl refl

announce_keeps : (from : ℕ) (view : View) (m : NamingMaker) → loop_of (after_named_announce from view m) ≡ loop_of m
announce_keeps from view m =
    let counts = is_configured m.maker from && has_configured m.maker.nodes view.members in
    let kept : (after_announce from view m.maker).loop_ms ≡ loop_of m = if_kept counts _ m.maker (loop_of m) refl refl in
    if_loop counts _ _ (loop_of m) kept kept

heard_keeps : (tick : ℕ) (p : Option Packet) (m : NamingMaker) → loop_of (heard tick p m) ≡ loop_of m
heard_keeps tick None m = refl
heard_keeps tick (Some (packet.Hello from)) m =
    if_loop (is_configured m.maker from.0 && not (says_more tick m.maker from.0)) _ m (loop_of m) (named_hello_keeps tick from.0 plain m) refl
heard_keeps tick (Some (packet.Heard from said standing)) m =
    standing_keeps from.0 standing (after_named_hello tick from.0 said m) ∙ named_hello_keeps tick from.0 said m
heard_keeps tick (Some (packet.Announce from view)) m = announce_keeps from.0 view m
heard_keeps tick (Some (packet.Ask ask)) m = refl
heard_keeps tick (Some (packet.Tell tell)) m = refl
heard_keeps tick (Some (packet.Vote agrees)) m = refl

stand_keeps : (standing : Standing) (holds : Bool) (m : NamingMaker) → loop_of (after_stand standing holds m) ≡ loop_of m
stand_keeps standing holds m = if_loop (is_configured m.maker m.maker.me) _ m (loop_of m) refl refl

-- what a view maker hears
pub told_keeps : (tick : ℕ) (own : Own) (p : Option Packet) (m : NamingMaker) → loop_of (told tick own p m) ≡ loop_of m
told_keeps tick own p m = stand_keeps own.said own.holds (heard tick p m) ∙ heard_keeps tick p m

installed_keeps : (company : Mask) (found : Option View) (k : Maker) → (installed_beside company found k).loop_ms ≡ k.loop_ms
installed_keeps company None k = refl
installed_keeps company (Some view) k = refl

found_keeps : (tick : ℕ) (m : NamingMaker) → loop_of (after_found tick m) ≡ loop_of m
unfolding after_found after_tick
found_keeps tick m = if_loop (is_own m knows_bit) (after_by_name tick m) (after_plain_look tick m) (loop_of m) by_name plainly
  where
    by_name : loop_of (after_by_name tick m) ≡ loop_of m
    by_name =
        installed_keeps (company_now (seeing_names tick m)) (view_by_name tick m) (looked_by_name tick m).maker
        ∙ ap (λ (k : Maker). k.loop_ms) (looked_notes tick m)

    plainly : loop_of (after_plain_look tick m) ≡ loop_of m
    plainly =
        ap (λ (k : Maker). k.loop_ms) (leading_keeps tick (led_by (after_tick tick m.maker)) (record m { maker = after_tick tick m.maker }) (after_tick tick m.maker) refl)
        ∙ installed_keeps (company_at (looked tick m.maker)) (view_at tick m.maker) (looked tick m.maker)

-- a look
pub look_keeps : (tick : ℕ) (m : NamingMaker) → loop_of (after_look tick m) ≡ loop_of m
unfolding after_look
look_keeps tick m = found_keeps tick m

due_keeps : (tick : ℕ) (m : NamingMaker) → loop_of (after_naming_hello_due tick m) ≡ loop_of m
due_keeps tick m = if_loop (is_naming_hello_due tick m) _ m (loop_of m) refl refl

begun_has : (s : Settings) (me loop_ms : ℕ) (own : Own) → loop_of (maker_begun s me loop_ms own) ≡ loop_ms
begun_has s me loop_ms own = stand_keeps own.said own.holds (first_naming s me loop_ms)

-- the view maker that a turn leaves: it begins with the loop's time of the run, where the node is live
pub asked_keeps : (s : Settings) (me tick loop_ms image_loop : ℕ) (own : Own) (live : Bool) (had : Option NamingMaker)
    → ((m : NamingMaker) → had ≡ Some m → loop_of m ≡ image_loop) → (live ≡ true → loop_ms ≡ image_loop)
    → (m : NamingMaker) → option_map (after_naming_hello_due tick) (maker_where live (maker_begun s me loop_ms own) had) ≡ Some m → loop_of m ≡ image_loop
asked_keeps s me tick loop_ms image_loop own false had known begins m is = absurd (none-some m is)
asked_keeps s me tick loop_ms image_loop own true (Some before) known begins m is =
    ap loop_of (sym (same_Some (after_naming_hello_due tick before) m is)) ∙ due_keeps tick before ∙ known before refl
asked_keeps s me tick loop_ms image_loop own true None known begins m is =
    ap loop_of (sym (same_Some (after_naming_hello_due tick (maker_begun s me loop_ms own)) m is))
    ∙ due_keeps tick (maker_begun s me loop_ms own) ∙ begun_has s me loop_ms own ∙ begins refl
