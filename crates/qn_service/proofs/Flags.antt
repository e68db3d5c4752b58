-- What a view maker of a running node says of itself: at each look it knows names; and which copy of its view it handed on stays from look to look.
use Rattle.std.proofs.Common.{◌≡◌, ℕ, ◌+◌, ◌*◌, ◌/◌, ◌%◌, ◌<◌, Bool, true, false, not, ◌&&◌, ◌==◌, Option, None, Some, length, if◌then◌else◌, refl, sym, ◌∙◌, ap, subst, arith, lit<}
use Rattle.std.specs.Prelude.{nat_lt, slice_set}
use Rattle.std.proofs.lemmas.Bool.{and_from, false≢true, lt-ltb}
use Rattle.std.proofs.lemmas.List.{get_or-set_same, length-set}
use Rattle.std.proofs.lemmas.Nat.{div-mul-add}
use Rattle.std.proofs.Math.Nat.{mod-lt}
use Rattle.qn_base.specs.declared.ids.Said.{Said}
use Rattle.qn_base.specs.declared.ids.Standing.{Standing}
use Rattle.qn_base.specs.declared.ids.View.{View}
use Rattle.qn_model.specs.declared.configuration.Settings.{Settings}
use Rattle.qn_model.specs.declared.packets.Packet.{Packet}
use Rattle.qn_model.specs.declared.packets.Packet.TheVariants as packet
use Rattle.qn_member.specs.Maker.{after_tick, has_configured, is_configured, led_by, plain, says_more}
use Rattle.qn_member.specs.Naming.{NamingMaker, after_named_announce, after_named_hello, after_stand, after_standing, first_naming, has_bit, is_other, is_own, knows_bit, own_flags}
use Rattle.qn_member.specs.NamingViews.{after_by_name, after_found, after_naming_hello_due, after_plain_look, is_led_by, is_naming_hello_due, lead_since, leading, seeing_names}
use Rattle.qn_live.specs.declared.words.Own.{Own}
use Rattle.qn_live.specs.Choosing.{heard, told}
use Rattle.qn_live.specs.Greetings.{maker_begun}
use Rattle.qn_service.proofs.Made.{noted_then}

-- it has as many flags as before, and handed on the same copy of its view
pub record KeepsFlags (before after : NamingMaker) : Type 0 where
  pub flags : length after.flags ≡ length before.flags
  pub closed : after.closed ≡ before.closed

flags_same : (m : NamingMaker) → KeepsFlags m m
flags_same m = record { flags = refl; closed = refl }

flags_then : {a b c : NamingMaker} → KeepsFlags a b → KeepsFlags b c → KeepsFlags a c
flags_then first second = record { flags = second.flags ∙ first.flags; closed = second.closed ∙ first.closed }

if_flags : (b : Bool) (one other before : NamingMaker) → KeepsFlags before one → KeepsFlags before other → KeepsFlags before (if b then one else other)
if_flags true one other before first second = first
if_flags false one other before first second = second

-- ## What comes

hello_flags : (tick from : ℕ) (said : Said) (m : NamingMaker) → KeepsFlags m (after_named_hello tick from said m)
hello_flags tick from said m =
    if_flags (is_other m from) _ _ m (record { flags = length-set m.flags from 0; closed = refl }) (record { flags = refl; closed = refl })

standing_flags : (from : ℕ) (standing : Standing) (m : NamingMaker) → KeepsFlags m (after_standing from standing m)
standing_flags from standing m =
    if_flags (is_other m from && has_bit standing.flags knows_bit) _ m m (record { flags = length-set m.flags from standing.flags; closed = refl }) (flags_same m)

announce_flags : (from : ℕ) (view : View) (m : NamingMaker) → KeepsFlags m (after_named_announce from view m)
announce_flags from view m =
    if_flags (is_configured m.maker from && has_configured m.maker.nodes view.members) _ _ m (record { flags = refl; closed = refl }) (record { flags = refl; closed = refl })

heard_flags : (tick : ℕ) (p : Option Packet) (m : NamingMaker) → KeepsFlags m (heard tick p m)
heard_flags tick None m = flags_same m
heard_flags tick (Some (packet.Hello from)) m =
    if_flags (is_configured m.maker from.0 && not (says_more tick m.maker from.0)) _ m m (hello_flags tick from.0 plain m) (flags_same m)
heard_flags tick (Some (packet.Heard from said standing)) m =
    flags_then (hello_flags tick from.0 said m) (standing_flags from.0 standing (after_named_hello tick from.0 said m))
heard_flags tick (Some (packet.Announce from view)) m = announce_flags from.0 view m
heard_flags tick (Some (packet.Ask ask)) m = flags_same m
heard_flags tick (Some (packet.Tell tell)) m = flags_same m
heard_flags tick (Some (packet.Vote agrees)) m = flags_same m

stand_flags : (standing : Standing) (holds : Bool) (m : NamingMaker) → KeepsFlags m (after_stand standing holds m)
stand_flags standing holds m =
    if_flags (is_configured m.maker m.maker.me) _ m m (record { flags = length-set m.flags m.maker.me (own_flags standing holds); closed = refl }) (flags_same m)

pub told_flags : (tick : ℕ) (own : Own) (p : Option Packet) (m : NamingMaker) → KeepsFlags m (told tick own p m)
told_flags tick own p m = flags_then (heard_flags tick p m) (stand_flags own.said own.holds (heard tick p m))

pub due_flags : (tick : ℕ) (m : NamingMaker) → KeepsFlags m (after_naming_hello_due tick m)
due_flags tick m = if_flags (is_naming_hello_due tick m) _ m m (record { flags = refl; closed = refl }) (flags_same m)

pub begun_flags : (s : Settings) (me loop_ms : ℕ) (own : Own) → KeepsFlags (first_naming s me loop_ms) (maker_begun s me loop_ms own)
begun_flags s me loop_ms own = stand_flags own.said own.holds (first_naming s me loop_ms)

-- ## A look

leading_flags : (tick : ℕ) (leader : Option ℕ) (m : NamingMaker) → (leading tick leader m).flags ≡ m.flags
leading_flags tick leader m = by_test (is_led_by m leader)
  where
    by_test : (b : Bool) → (if b then m else record m { lead = lead_since tick leader; came = record { 0 = 0 } }).flags ≡ m.flags
    by_test true = refl
    by_test false = refl

leading_closed : (tick : ℕ) (leader : Option ℕ) (m : NamingMaker) → (leading tick leader m).closed ≡ m.closed
leading_closed tick leader m = by_test (is_led_by m leader)
  where
    by_test : (b : Bool) → (if b then m else record m { lead = lead_since tick leader; came = record { 0 = 0 } }).closed ≡ m.closed
    by_test true = refl
    by_test false = refl

-- a look changes neither before it hands its view on
pub record SameFlags (before after : NamingMaker) : Type 0 where
  pub flags : after.flags ≡ before.flags
  pub closed : after.closed ≡ before.closed

pub found_flags : (tick : ℕ) (m : NamingMaker) → SameFlags m (after_found tick m)
unfolding after_found
found_flags tick m = by_own (is_own m knows_bit)
  where
    by_own : (b : Bool) → SameFlags m (if b then after_by_name tick m else after_plain_look tick m)
    by_own true =
        record {
          flags = leading_flags tick (led_by (noted_then tick m)) (record (seeing_names tick m) { maker = noted_then tick m });
          closed = leading_closed tick (led_by (noted_then tick m)) (record (seeing_names tick m) { maker = noted_then tick m });
        }
    by_own false =
        record {
          flags = leading_flags tick (led_by (after_tick tick m.maker)) (record m { maker = after_tick tick m.maker });
          closed = leading_closed tick (led_by (after_tick tick m.maker)) (record m { maker = after_tick tick m.maker });
        }

-- ## Names

knows_flags : (standing : Standing) (holds : Bool) → has_bit (own_flags standing holds) knows_bit ≡ true
knows_flags standing holds = by_holds holds
  where
    low : standing.flags % 8 < 8
    low = mod-lt standing.flags (lit< tt)

    by_holds : (b : Bool) → has_bit (standing.flags % 8 + (if b then 40 else 32)) knows_bit ≡ true
    by_holds true =
        ap (λ n. n % 2 == 1) (ap (λ n. n / 32) (let same : standing.flags % 8 + 40 ≡ 1 * 32 + (standing.flags % 8 + 8) = omega arith in same)
        ∙ div-mul-add 1 32 (standing.flags % 8 + 8) (omega (arith, low)))
    by_holds false =
        ap (λ n. n % 2 == 1) (ap (λ n. n / 32) (let same : standing.flags % 8 + 32 ≡ 1 * 32 + standing.flags % 8 = omega arith in same)
        ∙ div-mul-add 1 32 (standing.flags % 8) (omega (arith, low)))

-- where its node is configured, and it has a flag of it
pub told_knows : (tick : ℕ) (own : Own) (p : Option Packet) (m : NamingMaker) (me : ℕ) → (heard tick p m).maker.me ≡ me → me < length (heard tick p m).maker.nodes → me < 32
    → length m.flags ≡ 32 → is_own (told tick own p m) knows_bit ≡ true
told_knows tick own p m me same under few flags = by_configured (is_configured h.maker h.maker.me) refl
  where
    h : NamingMaker
    h = heard tick p m

    configured : is_configured h.maker h.maker.me ≡ true
    configured = ap (λ r. nat_lt r (length h.maker.nodes)) same ∙ lt-ltb me (length h.maker.nodes) under

    few_own : h.maker.me < 32
    few_own = subst (λ r. r < 32) (sym same) few

    there : h.maker.me < length h.flags
    there = subst (λ n. h.maker.me < n) (sym ((heard_flags tick p m).flags ∙ flags)) few_own

    by_configured : (b : Bool) → is_configured h.maker h.maker.me ≡ b
        → is_own (if b
        then record h {
          flags = slice_set h.flags h.maker.me (own_flags own.said own.holds);
          weights = slice_set h.weights h.maker.me own.said.weight;
          stands = record { flags = own_flags own.said own.holds; weight = own.said.weight };
        }
        else h) knows_bit ≡ true
    by_configured true is =
        and_from (nat_lt h.maker.me 32) _ (lt-ltb h.maker.me 32 few_own)
        (ap (λ n. has_bit n knows_bit) (get_or-set_same h.flags h.maker.me (own_flags own.said own.holds) 0 there) ∙ knows_flags own.said own.holds)
    by_configured false is = absurd (false≢true (sym is ∙ configured))
