-- What a listener stands for, line by line.
use Rattle.std.proofs.Common.{◌≡◌, ℕ, suc, ◌+◌, ◌^◌, ◌<◌, ◌≤◌, Bool, true, false, List, [], ◌∷◌, Some, None, refl, cond, ◌&&◌, ◌||◌, not, if◌then◌else◌, sym, ◌∙◌, ap, arith}
use Rattle.std.specs.Prelude.{Option, SomeIff, unwrap_or, ◌==◌, nat_le, nat_lt, is_some}
use Rattle.std.specs.Option.{option_or, option_map_or}
use Rattle.std.proofs.lemmas.Bool.Decides.{nat_tests}
use Rattle.std.proofs.lemmas.Bool.{and_right}
use Rattle.std.proofs.Math.Bool.{and-true}
use Rattle.qn_base.specs.declared.ids.View.{View}
use Rattle.qn_base.specs.Members.{is_member}
use Rattle.qn_base.specs.lemmas.Masks.{empty_has_none}
use Rattle.qn_model.specs.declared.configuration.Settings.{Settings}
use Rattle.qn_model.specs.declared.packets.Tell.{Tell}
use Rattle.qn_model.specs.declared.entries.What.{What}
use Rattle.qn_model.specs.declared.entries.What.TheVariants as what
use Rattle.qn_model.specs.declared.life.Phase.{Phase}
use Rattle.qn_model.specs.declared.life.Phase.TheVariants.{Leaving, Dying, Gone}
use Rattle.qn_model.specs.declared.outputs.BootCause.{BootCause}
use Rattle.qn_model.specs.Log.{Line, claim_of, claimed, disk_of, is_view, now, times_of, timing, view_of}
use Rattle.qn_model.specs.Phases.{phase, next_phase, is_up, is_booting, in_time, boot_phase, check_halt, slot_halt, deadly_of, gives_exit, message_of}
use Rattle.qn_model.specs.NodeVotes.{view, install, answers, is_present, is_same_view}
use Rattle.qn_model.specs.Hearing.{told, tells, tell_of, is_free}
use Rattle.qn_model.specs.NodeOutputs.{is_asking, is_moment, moment}
use Rattle.qn_heard.specs.declared.listener.Heard.{Heard}
use Rattle.qn_heard.specs.Heard.{HeardFor, HeardBefore, Hears, as_tick, bears_on_hearing, due_after, is_due, is_told}

middle_false : (a b c : Bool) → b ≡ false → (a && b && c) ≡ false
middle_false true b c e = rw e
middle_false false b c e = refl

-- ---- before the first view

or_none : {A : Type 0} (first second : Option A) → option_or first second ≡ None → (first ≡ None) × (second ≡ None)
or_none None second e = (refl, e)
or_none (Some x) second e = cc

view_none : (line : Line) (past : List Line) → view (line ∷ past) ≡ None → (view_of line.what ≡ None) × (view past ≡ None)
unfolding view
view_none line past e = or_none (view_of line.what) (view past) e

pub install-none : (log : List Line) → view log ≡ None → install log ≡ 0
unfolding install
install-none [] e = refl
install-none (line ∷ past) e =
    let parts = view_none line past e in
    let no_view : is_view line.what ≡ false = ap is_some parts.0 in
    rw no_view (install-none past parts.1)

no_tell : (test : Tell → Bool) (rank : ℕ) (past : List Line) (tell : Option Tell) → view past ≡ None
    → option_map_or (λ tell. tell.from.0 == rank && answers past tell && test tell) tell false ≡ false
no_tell test rank past None e = refl
no_tell test rank past (Some tell) e =
    let absent : is_present past tell.view ≡ false = ap (λ own. option_map_or (λ own. is_same_view own tell.view) own false) e in
    middle_false _ (answers past tell) _ (and_right _ (is_present past tell.view) absent)

pub told-none : (test : Tell → Bool) (rank : ℕ) (log : List Line) → view log ≡ None → told test rank log ≡ false
unfolding told
told-none test rank [] e = refl
told-none test rank (line ∷ past) e =
    let parts = view_none line past e in
    rw (no_tell test rank past (tell_of line.what) parts.1) (and_right _ (told test rank past) (told-none test rank past parts.1))

pub moment-none : (s : Settings) (log : List Line) → view log ≡ None → moment s log ≡ None
unfolding moment
moment-none s [] e = refl
moment-none s (line ∷ past) e =
    let parts = view_none line past e in
    let before = moment-none s past parts.1 in
    let no_view : is_view line.what ≡ false = ap is_some parts.0 in
    let none : is_moment (timing past).loop_ms line.tick line.what (moment s past) ≡ false = rw (no_view, before) in
    ap (λ yes. cond yes (Some line.tick) (moment s past)) (and_right _ _ none) ∙ before

-- ---- one line more

-- the node is up after an entry that does not end its boot only where it was up before
up_of_two : {P : Type 0} (b : Bool) (first second : Phase) → (is_up first ≡ true → P) → (is_up second ≡ true → P)
    → is_up (if b then first else second) ≡ true → P
up_of_two true first second p q up = p up
up_of_two false first second p q up = q up

up_of_halt : {P : Type 0} (cause : Option BootCause) (next : Phase) → (is_up next ≡ true → P) → is_up (boot_phase cause next) ≡ true → P
up_of_halt None next p up = p up
up_of_halt (Some cause) next p up = absurd (cc)

abbrev pub ends_no_boot : What → Bool
ends_no_boot (what.Cleared ok) = false
ends_no_boot (what.Header seen) = false
ends_no_boot entry = true

pub up_before : (s : Settings) (w : What) (timely : Bool) (before : Phase) → ends_no_boot w ≡ true
    → is_up (next_phase s w timely before) ≡ true → is_up before ≡ true
up_before s what.Begin timely before plain up = absurd (cc)
up_before s what.BeginClean timely before plain up = absurd (cc)
up_before s (what.Header seen) timely before plain up = absurd (cc)
up_before s (what.SlotRead rank seen) timely before plain up =
    up_of_two (is_booting before) (boot_phase (slot_halt seen) before) before (up_of_halt (slot_halt seen) before (λ h. h)) (λ h. h) up
up_before s (what.MailChecked seen) timely before plain up = up_of_halt (check_halt seen) before (λ h. h) up
up_before s (what.Claimed ok) timely before plain up = up_of_two ok before Gone (λ h. h) (λ h. absurd (cc)) up
up_before s (what.Cleared ok) timely before plain up = absurd (cc)
up_before s (what.MailRead seen) timely before plain up =
    up_of_two (is_some (deadly_of (message_of (what.MailRead seen)))) Dying _ (λ h. absurd (cc))
    (up_of_two (gives_exit (message_of (what.MailRead seen)) && timely) Leaving before (λ h. absurd (cc)) (λ h. h)) up
up_before s (what.MailWritten rank ok) timely before plain up = up
up_before s (what.View view) timely before plain up = up
up_before s (what.Ask ask) timely before plain up = up
up_before s (what.Tell tell) timely before plain up = up
up_before s (what.Device agrees) timely before plain up = up
up_before s what.Tick timely before plain up = up
up_before s (what.Stopped ok) timely before plain up = up
up_before s what.Leave timely before plain up = absurd (cc)
up_before s (what.Closed ok) timely before plain up = absurd (cc)

-- the next asking is due exactly where the loop's time has passed since the last asking moment
tick_passed : (due tick : ℕ) (b : Bool) → nat_lt due (2 ^ 64) ≡ b → tick < 2 ^ 64
    → option_map_or (λ due. nat_le due tick) (if b then Some due else None) false ≡ nat_le due tick
tick_passed due tick true is fits = refl
tick_passed due tick false is fits = let z : nat_le due tick ≡ false = grind (arith, nat_tests) in sym z

due_passed : (loop tick : ℕ) (last : Option ℕ) → tick < 2 ^ 64
    → option_map_or (λ due. nat_le due tick) (due_after loop last) false ≡ option_map_or (λ moment. nat_le (moment + loop) tick) last false
due_passed loop tick None fits = refl
due_passed loop tick (Some moment) fits = tick_passed (moment + loop) tick (nat_lt (moment + loop) (2 ^ 64)) refl fits

-- a sum that may not fit a tick
some_as_tick : (due : ℕ) (b : Bool) (o : Option ℕ) → nat_lt due (2 ^ 64) ≡ b → SomeIff o (due < 2 ^ 64) due → o ≡ (if b then Some due else None)
some_as_tick due true None is none = absurd (none (grind (arith, nat_tests)))
some_as_tick due true (Some tick) is some = ap Some some.1
some_as_tick due false None is none = refl
some_as_tick due false (Some tick) is some = absurd (let z : due < 2 ^ 64 = some.0 in let f : nat_lt due (2 ^ 64) ≡ true = grind (arith, nat_tests) in let g : false ≡ true = sym is ∙ f in cc)

pub as_tick-some : (due : ℕ) (o : Option ℕ) → SomeIff o (due < 2 ^ 64) due → o ≡ as_tick due
as_tick-some due o some = some_as_tick due (nat_lt due (2 ^ 64)) o refl some

-- what an entry is that bears on no hearing
record IsPlain (w : What) : Type 0 where
  times : times_of w ≡ None
  views : view_of w ≡ None
  tellers : tell_of w ≡ None
  boots : ends_no_boot w ≡ true

plain : (w : What) → bears_on_hearing w ≡ false → IsPlain w
plain what.Begin e = record { times = refl; views = refl; tellers = refl; boots = refl }
plain what.BeginClean e = record { times = refl; views = refl; tellers = refl; boots = refl }
plain (what.Header seen) e = absurd (cc)
plain (what.SlotRead rank seen) e = record { times = refl; views = refl; tellers = refl; boots = refl }
plain (what.MailChecked seen) e = record { times = refl; views = refl; tellers = refl; boots = refl }
plain (what.Claimed ok) e = record { times = refl; views = refl; tellers = refl; boots = refl }
plain (what.Cleared ok) e = absurd (cc)
plain (what.MailRead seen) e = record { times = refl; views = refl; tellers = refl; boots = refl }
plain (what.MailWritten rank ok) e = record { times = refl; views = refl; tellers = refl; boots = refl }
plain (what.View view) e = absurd (cc)
plain (what.Ask ask) e = record { times = refl; views = refl; tellers = refl; boots = refl }
plain (what.Tell tell) e = absurd (cc)
plain (what.Device agrees) e = record { times = refl; views = refl; tellers = refl; boots = refl }
plain what.Tick e = record { times = refl; views = refl; tellers = refl; boots = refl }
plain (what.Stopped ok) e = record { times = refl; views = refl; tellers = refl; boots = refl }
plain what.Leave e = record { times = refl; views = refl; tellers = refl; boots = refl }
plain (what.Closed ok) e = record { times = refl; views = refl; tellers = refl; boots = refl }

-- what a line that is no View tells
told-next : (test : Tell → Bool) (rank : ℕ) (log : List Line) (line : Line) → view_of line.what ≡ None
    → told test rank (line ∷ log) ≡ (tells test rank log line.what || told test rank log)
unfolding told
told-next test rank log line no_view =
    ap (λ view. tells test rank log line.what || (not (is_some view) && told test rank log)) no_view

told-other : (test : Tell → Bool) (rank : ℕ) (log : List Line) (line : Line) → view_of line.what ≡ None → tell_of line.what ≡ None
    → told test rank (line ∷ log) ≡ told test rank log
told-other test rank log line no_view no_tell =
    told-next test rank log line no_view
    ∙ ap (λ tell. option_map_or (λ tell. tell.from.0 == rank && answers log tell && test tell) tell false || told test rank log) no_tell

told-tell : (test : Tell → Bool) (rank : ℕ) (log : List Line) (line : Line) (tell : Tell) → line.what ≡ what.Tell tell
    → told test rank (line ∷ log) ≡ ((tell.from.0 == rank && answers log tell && test tell) || told test rank log)
told-tell test rank log line tell is =
    told-next test rank log line (ap view_of is) ∙ ap (λ w. tells test rank log w || told test rank log) is

-- what a core hears at a line that is no View and gives no times
hears_line : (heard after : Heard) (me : ℕ) (log : List Line) (line : Line)
    → Hears heard me log → claim_of (disk_of line.outs) ≡ None → times_of line.what ≡ None → view_of line.what ≡ None
    → after ≡ record heard { told = after.told; free = after.free }
    → ((rank : ℕ) → rank < 32 → is_member after.free rank ≡ is_free (line ∷ log) rank)
    → ((rank : ℕ) → rank < 32 → is_member after.told rank ≡ is_told (line ∷ log) rank)
    → Hears after me (line ∷ log)
unfolding claimed timing view install
hears_line heard after me log line h no_claim no_times no_view rest frees tolds = record {
  own = ap (λ x. x.me.0) rest ∙ h.own;
  incarnations = rw (no_claim, h.incarnations) (ap (λ x. Some x.incarnation) (sym rest));
  loops = rw (no_times, h.loops) (ap (λ x. x.loop_ms) (sym rest));
  views = rw (no_view, h.views) (ap (λ x. x.view) (sym rest));
  installed = rw (no_view, h.installed) (ap (λ x. x.installs) (sym rest));
  frees = frees;
  tolds = tolds;
}

asking : (s : Settings) (log : List Line) (line : Line) → is_up (phase s (line ∷ log)) ≡ true → is_view line.what ≡ false
    → is_asking s (line ∷ log) ≡ option_map_or (λ moment. nat_le (moment + (timing log).loop_ms) line.tick) (moment s log) false
asking s log line up no_view = rw (up, no_view)

-- the asking moments at a line that is no View
asks_same : (heard after : Heard) (s : Settings) (me : ℕ) (log : List Line) (line : Line)
    → HeardFor heard s me log → Hears after me (line ∷ log)
    → after.next_ask ≡ heard.next_ask → after.loop_ms ≡ heard.loop_ms
    → is_view line.what ≡ false → ends_no_boot line.what ≡ true
    → HeardBefore after s me (line ∷ log)
unfolding phase moment
asks_same heard after s me log line h hears due loop no_view no_boot = record {
  hears = hears;
  moments = λ up fits.
      let was = up_before s line.what (in_time line.tick log) (phase s log) no_boot up in
      let next = due ∙ h.next was in
      ap (λ o. option_map_or (λ due. nat_le due line.tick) o false) next
      ∙ (due_passed heard.loop_ms line.tick (moment s log) fits
      ∙ (ap (λ loop. option_map_or (λ moment. nat_le (moment + loop) line.tick) (moment s log) false) (sym h.hears.loops)
      ∙ sym (asking s log line up no_view)));
  later = λ up none.
      let was = up_before s line.what (in_time line.tick log) (phase s log) no_boot up in
      due ∙ (h.next was ∙ (ap (λ loop. due_after loop (moment s log)) (sym loop)
      ∙ ap (λ yes. due_after after.loop_ms (if yes then Some line.tick else moment s log)) (sym none)));
}

-- a line that bears on no hearing
pub heard_other : (heard : Heard) (s : Settings) (me : ℕ) (log : List Line) (line : Line)
    → HeardFor heard s me log → bears_on_hearing line.what ≡ false → claim_of (disk_of line.outs) ≡ None → HeardBefore heard s me (line ∷ log)
heard_other heard s me log line h other no_claim =
    let p = plain line.what other in
    let hears = hears_line heard heard me log line h.hears no_claim p.times p.views refl
    (λ rank below. h.hears.frees rank below ∙ sym (told-other (λ tell. not tell.holds) rank log line p.views p.tellers))
    (λ rank below. h.hears.tolds rank below ∙ sym (told-other (λ tell. true) rank log line p.views p.tellers)) in
    asks_same heard heard s me log line h hears refl refl (ap is_some p.views) p.boots

-- a Tell
pub heard_tell : (heard after : Heard) (s : Settings) (me : ℕ) (log : List Line) (line : Line) (tell : Tell)
    → HeardFor heard s me log → line.what ≡ what.Tell tell → claim_of (disk_of line.outs) ≡ None
    → after ≡ record heard { told = after.told; free = after.free }
    → ((rank : ℕ) → rank < 32 → is_member after.told rank ≡ ((tell.from.0 == rank && answers log tell) || is_member heard.told rank))
    → ((rank : ℕ) → rank < 32 → is_member after.free rank ≡ ((tell.from.0 == rank && answers log tell && not tell.holds) || is_member heard.free rank))
    → HeardBefore after s me (line ∷ log)
heard_tell heard after s me log line tell h is no_claim rest tolds frees =
    let hears = hears_line heard after me log line h.hears no_claim (ap times_of is) (ap view_of is) rest
    (λ rank below. frees rank below
    ∙ (ap (λ b. (tell.from.0 == rank && answers log tell && not tell.holds) || b) (h.hears.frees rank below)
    ∙ sym (told-tell (λ tell. not tell.holds) rank log line tell is)))
    (λ rank below. tolds rank below
    ∙ (ap (λ b. (tell.from.0 == rank && answers log tell) || b) (h.hears.tolds rank below)
    ∙ (ap (λ b. b || is_told log rank) (sym (and-true (tell.from.0 == rank && answers log tell)))
    ∙ sym (told-tell (λ tell. true) rank log line tell is)))) in
    asks_same heard after s me log line h hears (ap (λ x. x.next_ask) rest) (ap (λ x. x.loop_ms) rest) (ap is_view is) (ap ends_no_boot is)

-- a View forgets what was told
told-view : (test : Tell → Bool) (rank : ℕ) (log : List Line) (line : Line) (installed : View) → line.what ≡ what.View installed
    → told test rank (line ∷ log) ≡ false
unfolding told
told-view test rank log line installed is = ap (λ w. tells test rank log w || (not (is_view w) && told test rank log)) is

nat_le_same : (n m : ℕ) → n ≡ m → nat_le m n ≡ true
nat_le_same n m same = grind (arith, nat_tests)

asking-view : (s : Settings) (log : List Line) (line : Line) (installed : View) → line.what ≡ what.View installed → is_up (phase s (line ∷ log)) ≡ true
    → is_asking s (line ∷ log) ≡ true
asking-view s log line installed is up = let view = ap is_view is in rw (up, view)

-- a View
pub heard_view : (heard : Heard) (s : Settings) (me : ℕ) (log : List Line) (line : Line) (installed : View) (tick : ℕ)
    → HeardFor heard s me log → line.tick ≡ tick → line.what ≡ what.View installed → claim_of (disk_of line.outs) ≡ None
    → HeardBefore (record heard { view = Some installed; installs = heard.installs + 1; free = record { 0 = 0 }; told = record { 0 = 0 }; next_ask = Some tick }) s me (line ∷ log)
unfolding claimed timing view install
heard_view heard s me log line installed tick h at is no_claim = record {
  hears = record {
    own = h.hears.own;
    incarnations = rw no_claim h.hears.incarnations;
    loops = ap (λ w. (unwrap_or (times_of w) (timing log)).loop_ms) is ∙ h.hears.loops;
    views = ap (λ w. option_or (view_of w) (view log)) is;
    installed = ap (λ w. if is_view w then suc (install log) else install log) is ∙ (ap suc h.hears.installed ∙ omega arith);
    frees = λ rank below. empty_has_none rank ∙ sym (told-view (λ tell. not tell.holds) rank log line installed is);
    tolds = λ rank below. empty_has_none rank ∙ sym (told-view (λ tell. true) rank log line installed is);
  };
  moments = λ up fits. nat_le_same line.tick tick at ∙ sym (asking-view s log line installed is up);
  later = λ up none. absurd (let z : true ≡ false = sym (asking-view s log line installed is up) ∙ none in cc);
}

-- what an asking moment is
moment-asking : (s : Settings) (log : List Line) → is_asking s log ≡ true → moment s log ≡ Some (now log)
unfolding moment
moment-asking s [] e = cc
moment-asking s (line ∷ past) e = ap (λ yes. if yes then Some line.tick else moment s past) e

-- the others were asked at an asking moment
pub heard_asked : (heard : Heard) (s : Settings) (me : ℕ) (log : List Line) (tick due : ℕ) (next : Option ℕ)
    → HeardBefore heard s me log → now log ≡ tick → tick < 2 ^ 64 → heard.next_ask ≡ Some due → due ≤ tick
    → SomeIff next (tick + heard.loop_ms < 2 ^ 64) (tick + heard.loop_ms)
    → HeardFor (record heard { next_ask = next }) s me log
heard_asked heard s me log tick due next h at fits was reached some = record {
  hears = record {
    own = h.hears.own;
    incarnations = h.hears.incarnations;
    loops = h.hears.loops;
    views = h.hears.views;
    installed = h.hears.installed;
    frees = h.hears.frees;
    tolds = h.hears.tolds;
  };
  next = λ up.
      let in_range : now log < 2 ^ 64 = omega arith in
      let is_passed : nat_le due (now log) ≡ true = grind (arith, nat_tests) in
      let here : is_due heard (now log) ≡ true = rw was is_passed in
      let asked : is_asking s log ≡ true = sym (h.moments up in_range) ∙ here in
      let last : moment s log ≡ Some tick = moment-asking s log asked ∙ ap Some at in
      as_tick-some (tick + heard.loop_ms) next some ∙ ap (due_after heard.loop_ms) (sym last);
}
