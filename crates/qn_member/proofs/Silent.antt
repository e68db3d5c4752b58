-- A view maker that names, while its own node says nothing of itself: it knows and answers what one without names does.
use Rattle.std.proofs.Common.{◌≡◌, ◌≢◌, ℕ, ◌+◌, ◌*◌, Bool, true, false, ◌&&◌, ◌||◌, ◌==◌, not, subst, List, [], ◌∷◌, refl, sym, ◌∙◌, ap, ap₂, if◌then◌else◌, Some, None}
use Rattle.std.specs.Prelude.{Option, nat_lt, nat_le, slice_index_or, slice_set}
use Rattle.std.specs.Option.{option_map_or}
use Rattle.std.proofs.lemmas.Bool.{and_right, cases_lt, eq-eqb, true≢false}
use Rattle.std.proofs.lemmas.List.{get_or-set_other}
use Rattle.std.proofs.lemmas.Nat.Bits.{bit_at-zero}
use Rattle.qn_base.specs.declared.ids.Said.{Said}
use Rattle.qn_base.specs.declared.ids.Standing.{Standing}
use Rattle.qn_base.specs.declared.ids.View.{View}
use Rattle.qn_base.specs.lemmas.Bools.{first_of_both, second_of_both}
use Rattle.qn_model.specs.declared.configuration.Settings.{Settings}
use Rattle.qn_model.specs.NodeVotes.{is_same_view}
use Rattle.qn_member.specs.declared.told.Told.{Told}
use Rattle.qn_member.specs.Announcing.{after_hello_due, is_beat, is_hello_due, is_news, is_same_said, view_to_announce}
use Rattle.qn_member.specs.Maker.{Maker, after_announce, after_hello, after_plain_hello, after_tick, first_maker, has_configured, installed, is_configured, led_by, looked, plain, says_more, view_at}
use Rattle.qn_member.specs.MakerCalls.{Announce, Due, Hello, Look, MakerCall, PlainHello, after_call, after_calls}
use Rattle.qn_member.specs.Naming.{NamingMaker, after_named_announce, after_named_hello, after_named_plain_hello, after_standing, first_naming, flagged_nodes, flags_of, has_bit, holds_bit, is_other, is_own, is_passed_over, is_unable_then, knows_all, knows_bit}
use Rattle.qn_member.specs.NamingCalls.{Called, IsPlain, Says, SilentCall, after_naming_call, after_silent_call, plain_calls, silent_maker}
use Rattle.qn_member.specs.NamingViews.{after_found, after_look, after_naming_hello_due, after_plain_look, answer_at, chosen_by, copy_of, handed, is_closed_to, is_led_by, is_naming_hello_due, is_naming_news, is_view_news, leading, may_not_start, standing_at, view_announced, view_found}
use Rattle.qn_member.proofs.Kept.{nothing_at}

abbrev nothing_said : Standing
nothing_said = record { flags = 0; weight = 0 }

-- the node said nothing of itself
pub record Silent (m : NamingMaker) : Type 0 where
  pub own : flags_of m m.maker.me ≡ 0
  pub naming : m.naming ≡ false
  pub stands : m.stands ≡ nothing_said
  pub told : m.told_stands ≡ nothing_said

-- what holds of both sides of a test holds of what it gives
by_if : {A : Type 0} (P : A → Type 0) (b : Bool) (x y : A) → (b ≡ true → P x) → (b ≡ false → P y) → P (if b then x else y)
by_if P true x y first second = first refl
by_if P false x y first second = second refl

-- a test that fails
if_fails : {A : Type 0} (b : Bool) (x y : A) → b ≡ false → (if b then x else y) ≡ y
if_fails true x y is = absurd (true≢false is)
if_fails false x y is = refl

-- nothing is said
no_bit : (m : NamingMaker) (bit : ℕ) → Silent m → is_own m bit ≡ false
no_bit m bit silent =
    ap (λ f. nat_lt m.maker.me 32 && has_bit f bit) silent.own
    ∙ (ap (λ b. nat_lt m.maker.me 32 && b == 1) (bit_at-zero bit) ∙ and_right (nat_lt m.maker.me 32) false refl)

me_hello : (tick from : ℕ) (said : Said) (m : Maker) → (after_hello tick from said m).me ≡ m.me
me_hello tick from said m = by_if (λ (n : Maker). n.me ≡ m.me) (is_configured m from) _ _ (λ is. refl) (λ is. refl)

me_announce : (from : ℕ) (view : View) (m : Maker) → (after_announce from view m).me ≡ m.me
me_announce from view m =
    by_if (λ (n : Maker). n.me ≡ m.me) (is_configured m from && has_configured m.nodes view.members) _ _ (λ is. refl) (λ is. refl)

me_installed : (found : Option View) (m : Maker) → (installed found m).me ≡ m.me
me_installed None m = refl
me_installed (Some view) m = refl

me_look : (tick : ℕ) (m : Maker) → (after_tick tick m).me ≡ m.me
unfolding after_tick
me_look tick m = me_installed (view_at tick m) (looked tick m)

-- what another node says changes nothing of that
not_own : (m : NamingMaker) (from : ℕ) → is_other m from ≡ true → m.maker.me ≢ from
not_own m from other =
    λ same. true≢false (sym (second_of_both (is_configured m.maker from) (not (from == m.maker.me)) other) ∙ ap not (eq-eqb from m.maker.me (sym same)))

own_beside : (m : NamingMaker) (from value me : ℕ) → me ≡ m.maker.me → m.maker.me ≢ from → Silent m → slice_index_or (slice_set m.flags from value) me 0 ≡ 0
own_beside m from value me same other silent =
    ap (λ r. slice_index_or (slice_set m.flags from value) r 0) same ∙ (get_or-set_other m.flags from m.maker.me value 0 other ∙ silent.own)

still_own : (m : NamingMaker) (me : ℕ) → me ≡ m.maker.me → Silent m → slice_index_or m.flags me 0 ≡ 0
still_own m me same silent = ap (λ r. slice_index_or m.flags r 0) same ∙ silent.own

silent_hello : (tick from : ℕ) (said : Said) (m : NamingMaker) → Silent m → Silent (after_named_hello tick from said m)
silent_hello tick from said m silent =
    by_if Silent (is_other m from) _ _
    (λ is. record {
      own = own_beside m from 0 _ (me_hello tick from said m.maker) (not_own m from is) silent;
      naming = silent.naming;
      stands = silent.stands;
      told = silent.told;
    })
    (λ is. record {
      own = still_own m _ (me_hello tick from said m.maker) silent;
      naming = silent.naming;
      stands = silent.stands;
      told = silent.told;
    })

maker_hello : (tick from : ℕ) (said : Said) (m : NamingMaker) → (after_named_hello tick from said m).maker ≡ after_hello tick from said m.maker
maker_hello tick from said m =
    by_if (λ (n : NamingMaker). n.maker ≡ after_hello tick from said m.maker) (is_other m from) _ _ (λ is. refl) (λ is. refl)

silent_plain : (tick from : ℕ) (m : NamingMaker) → Silent m → Silent (after_named_plain_hello tick from m)
silent_plain tick from m silent =
    by_if Silent (is_configured m.maker from && not (says_more tick m.maker from)) _ _ (λ is. silent_hello tick from plain m silent) (λ is. silent)

maker_if : (b : Bool) (x y : NamingMaker) (first second : Maker) → x.maker ≡ first → y.maker ≡ second
    → (if b then x else y).maker ≡ (if b then first else second)
maker_if true x y first second one other = one
maker_if false x y first second one other = other

maker_plain : (tick from : ℕ) (m : NamingMaker) → (after_named_plain_hello tick from m).maker ≡ after_plain_hello tick from m.maker
maker_plain tick from m =
    maker_if (is_configured m.maker from && not (says_more tick m.maker from)) _ _ _ _ (maker_hello tick from plain m) refl

silent_announce : (from : ℕ) (view : View) (m : NamingMaker) → Silent m → Silent (after_named_announce from view m)
silent_announce from view m silent =
    by_if Silent (is_configured m.maker from && has_configured m.maker.nodes view.members) _ _
    (λ is. record { own = still_own m _ (me_announce from view m.maker) silent; naming = silent.naming; stands = silent.stands; told = silent.told })
    (λ is. record { own = still_own m _ (me_announce from view m.maker) silent; naming = silent.naming; stands = silent.stands; told = silent.told })

maker_announce : (from : ℕ) (view : View) (m : NamingMaker) → (after_named_announce from view m).maker ≡ after_announce from view m.maker
maker_announce from view m =
    by_if (λ (n : NamingMaker). n.maker ≡ after_announce from view m.maker)
    (is_configured m.maker from && has_configured m.maker.nodes view.members) _ _ (λ is. refl) (λ is. refl)

silent_standing : (from : ℕ) (standing : Standing) (m : NamingMaker) → Silent m → Silent (after_standing from standing m)
silent_standing from standing m silent =
    by_if Silent (is_other m from && has_bit standing.flags knows_bit) _ _
    (λ is. record {
      own = own_beside m from standing.flags _ refl (not_own m from (first_of_both (is_other m from) (has_bit standing.flags knows_bit) is)) silent;
      naming = silent.naming;
      stands = silent.stands;
      told = silent.told;
    })
    (λ is. silent)

-- nobody is passed over by a node that says nothing of itself
passes_nobody : (m : NamingMaker) (from flags : ℕ) → Silent m → is_passed_over m from flags ≡ false
passes_nobody m from flags silent =
    ap (λ b. b && not (is_own m holds_bit) && m.maker.enough == 0 && slice_index_or m.deaf from false && is_unable_then m from flags) (no_bit m knows_bit silent)

maker_standing : (from : ℕ) (standing : Standing) (m : NamingMaker) → Silent m → (after_standing from standing m).maker ≡ m.maker
maker_standing from standing m silent =
    by_if (λ (n : NamingMaker). n.maker ≡ m.maker) (is_other m from && has_bit standing.flags knows_bit) _ _
    (λ is. ap (λ (said : List (Option Said)). record m.maker { said = said })
    (if_fails (is_passed_over m from standing.flags) _ m.maker.said (passes_nobody m from standing.flags silent)))
    (λ is. refl)

-- ## Looks

plain_found : (tick : ℕ) (m : NamingMaker) → Silent m → view_found tick m ≡ view_at tick m.maker
unfolding view_found
plain_found tick m silent = if_fails (is_own m knows_bit) _ _ (no_bit m knows_bit silent)

plain_after : (tick : ℕ) (m : NamingMaker) → Silent m → after_found tick m ≡ after_plain_look tick m
unfolding after_found
plain_after tick m silent = if_fails (is_own m knows_bit) _ _ (no_bit m knows_bit silent)

silent_leading : (tick : ℕ) (leader : Option ℕ) (m : NamingMaker) → Silent m → Silent (leading tick leader m)
silent_leading tick leader m silent =
    by_if Silent (is_led_by m leader) _ _ (λ is. silent)
    (λ is. record { own = silent.own; naming = silent.naming; stands = silent.stands; told = silent.told })

pub maker_leading : (tick : ℕ) (leader : Option ℕ) (m : NamingMaker) → (leading tick leader m).maker ≡ m.maker
maker_leading tick leader m = by_if (λ (n : NamingMaker). n.maker ≡ m.maker) (is_led_by m leader) _ _ (λ is. refl) (λ is. refl)

silent_found : (tick : ℕ) (m : NamingMaker) → Silent m → Silent (after_found tick m)
silent_found tick m silent =
    subst Silent (sym (plain_after tick m silent))
    (silent_leading tick (led_by (after_tick tick m.maker)) (record m { maker = after_tick tick m.maker })
    (record { own = still_own m _ (me_look tick m.maker) silent; naming = silent.naming; stands = silent.stands; told = silent.told }))

maker_found : (tick : ℕ) (m : NamingMaker) → Silent m → (after_found tick m).maker ≡ after_tick tick m.maker
maker_found tick m silent =
    ap (λ (n : NamingMaker). n.maker) (plain_after tick m silent)
    ∙ maker_leading tick (led_by (after_tick tick m.maker)) (record m { maker = after_tick tick m.maker })

says_nothing : (m : NamingMaker) → Silent m → standing_at m ≡ nothing_said
says_nothing m silent = if_fails (is_own m knows_bit) _ _ (no_bit m knows_bit silent)

knows_nothing : (m : NamingMaker) → Silent m → knows_all m m.maker.seen ≡ false
knows_nothing m silent = ap (λ b. b && not (m.maker.enough == 0) && (flagged_nodes m m.maker.seen knows_bit).0 == m.maker.seen.0) (no_bit m knows_bit silent)

silent_look : (tick : ℕ) (m : NamingMaker) → Silent m → Silent (after_look tick m)
unfolding after_look
silent_look tick m silent =
    let found = silent_found tick m silent in
    record { own = found.own; naming = knows_nothing (after_found tick m) found; stands = says_nothing (after_found tick m) found; told = found.told }

maker_look : (tick : ℕ) (m : NamingMaker) → Silent m → (after_look tick m).maker ≡ after_tick tick m.maker
unfolding after_look
maker_look tick m silent = maker_found tick m silent

may_start : (m : NamingMaker) → Silent m → may_not_start m ≡ false
may_start m silent = ap₂ (λ a b. a || b && not (is_own m 3)) (no_bit m 0 silent) (no_bit m 1 silent)

same_copy : (m : NamingMaker) (view : View) → Silent m → copy_of m view ≡ view
same_copy m view silent =
    if_fails (is_closed_to m view) _ _
    (ap (λ b. b && option_map_or (λ rank. rank == m.maker.me) (chosen_by m.maker view) false) (may_start m silent))

handed_same : (found : Option View) (m : NamingMaker) → Silent m → handed found m ≡ found
handed_same None m silent = if_fails (is_own m knows_bit) _ _ (no_bit m knows_bit silent)
handed_same (Some view) m silent = ap Some (same_copy m view silent)

answer_same : (tick : ℕ) (m : NamingMaker) → Silent m → answer_at tick m ≡ view_at tick m.maker
unfolding answer_at
answer_same tick m silent = handed_same (view_found tick m) (after_found tick m) (silent_found tick m silent) ∙ plain_found tick m silent

-- ## What is said

announces_same : (m : NamingMaker) → Silent m → view_announced m ≡ view_to_announce m.maker
announces_same m silent = if_fails m.naming _ _ silent.naming

or_not_same : (a c : Bool) → (a || false || c) ≡ (a || c)
or_not_same true c = refl
or_not_same false c = refl

news_same : (m : NamingMaker) (told : Told) → Silent m → is_naming_news m told ≡ is_news m.maker told
news_same m told silent =
    ap₂ (λ (a b : Standing). not (is_same_said told.said m.maker.says) || not (a.flags == b.flags && a.weight == b.weight) || is_view_news m told) silent.told silent.stands
    ∙ (or_not_same (not (is_same_said told.said m.maker.says)) (is_view_news m told)
    ∙ ap (λ (o : Option View). not (is_same_said told.said m.maker.says) || option_map_or (λ view. not (option_map_or (is_same_view view) told.view false)) o false) (announces_same m silent))

due_same : (tick : ℕ) (m : NamingMaker) → Silent m → is_naming_hello_due tick m ≡ is_hello_due tick m.maker
due_same tick m silent = ap (λ b. is_beat tick m.maker || b) (by_told m.maker.told)
  where
    by_told : (o : Option Told) → option_map_or (λ told. is_naming_news m told && nat_le (16 * told.tick + m.maker.loop_ms) (16 * tick)) o false
        ≡ option_map_or (λ told. is_news m.maker told && nat_le (16 * told.tick + m.maker.loop_ms) (16 * tick)) o false
    by_told None = refl
    by_told (Some told) = ap (λ b. b && nat_le (16 * told.tick + m.maker.loop_ms) (16 * tick)) (news_same m told silent)

silent_due : (tick : ℕ) (m : NamingMaker) → Silent m → Silent (after_naming_hello_due tick m)
silent_due tick m silent =
    by_if Silent (is_naming_hello_due tick m) _ _
    (λ is. record { own = silent.own; naming = silent.naming; stands = silent.stands; told = silent.stands })
    (λ is. silent)

-- a Hello is said, and this view
abbrev saying : ℕ → Maker → Option View → Maker
saying tick m view =
    record m {
      last_hello = if is_beat tick m then Some tick else m.last_hello;
      told = Some (record { tick = tick; said = m.says; view = view });
    }

maker_due : (tick : ℕ) (m : NamingMaker) → Silent m → (after_naming_hello_due tick m).maker ≡ after_hello_due tick m.maker
maker_due tick m silent =
    maker_if (is_naming_hello_due tick m) _ _ (saying tick m.maker (view_to_announce m.maker)) m.maker
    (ap (saying tick m.maker) (announces_same m silent)) refl
    ∙ ap (λ (b : Bool). if b then saying tick m.maker (view_to_announce m.maker) else m.maker) (due_same tick m silent)

-- ## Any calls

first_silent : (s : Settings) (me loop_ms : ℕ) → Silent (first_naming s me loop_ms)
first_silent s me loop_ms = record { own = nothing_at 32 me 0 (cases_lt me 32); naming = refl; stands = refl; told = refl }

silent_call : (made : SilentCall) (m : NamingMaker) → Silent m → Silent (after_silent_call made m)
silent_call (Called (Hello tick from said)) m silent = silent_hello tick from said m silent
silent_call (Called (PlainHello tick from)) m silent = silent_plain tick from m silent
silent_call (Called (Announce from view)) m silent = silent_announce from view m silent
silent_call (Called (Look tick)) m silent = silent_look tick m silent
silent_call (Called (Due tick)) m silent = silent_due tick m silent
silent_call (Says from standing) m silent = silent_standing from standing m silent

maker_call : (made : MakerCall) (m : NamingMaker) → Silent m → (after_naming_call made m).maker ≡ after_call made m.maker
maker_call (Hello tick from said) m silent = maker_hello tick from said m
maker_call (PlainHello tick from) m silent = maker_plain tick from m
maker_call (Announce from view) m silent = maker_announce from view m
maker_call (Look tick) m silent = maker_look tick m silent
maker_call (Due tick) m silent = maker_due tick m silent

silent_calls : (s : Settings) (me loop_ms : ℕ) (calls : List SilentCall) → Silent (silent_maker s me loop_ms calls)
silent_calls s me loop_ms [] = first_silent s me loop_ms
silent_calls s me loop_ms (made ∷ earlier) = silent_call made (silent_maker s me loop_ms earlier) (silent_calls s me loop_ms earlier)

maker_calls : (s : Settings) (me loop_ms : ℕ) (calls : List SilentCall)
    → (silent_maker s me loop_ms calls).maker ≡ after_calls (plain_calls calls) (first_maker s me loop_ms)
unfolding after_calls
maker_calls s me loop_ms [] = refl
maker_calls s me loop_ms (Called made ∷ earlier) =
    maker_call made (silent_maker s me loop_ms earlier) (silent_calls s me loop_ms earlier)
    ∙ ap (after_call made) (maker_calls s me loop_ms earlier)
maker_calls s me loop_ms (Says from standing ∷ earlier) =
    maker_standing from standing (silent_maker s me loop_ms earlier) (silent_calls s me loop_ms earlier) ∙ maker_calls s me loop_ms earlier

pub is_plain_after : (s : Settings) (me loop_ms : ℕ) (calls : List SilentCall) → IsPlain s me loop_ms calls (silent_maker s me loop_ms calls)
is_plain_after s me loop_ms calls =
    let m = silent_maker s me loop_ms calls in
    let silent = silent_calls s me loop_ms calls in
    record {
      knows = maker_calls s me loop_ms calls;
      looks = λ tick. answer_same tick m silent;
      due = λ tick. due_same tick m silent;
      announces = announces_same m silent;
    }
