-- A line is taken exactly where it is the one spelling of what it says.
use Rattle.std.proofs.Common.{◌≡◌, ◌-◌, ◌^◌, ◌<◌, ◌≤◌, ◌↔◌, ℕ, Bool, true, false, cond, List, [], ◌∷◌, Option, Some, None, Ok, Err, find, refl, sym, ap, ◌∙◌, subst, arith}
use Rattle.std.specs.Prelude.{codes, decimal, IfSome}
use Rattle.std.specs.Option.{ok_or}
use Rattle.std.specs.Str.{bytes_eq}
use Rattle.std.proofs.lemmas.Slice.Eq.{bytes_eq-Decides}
use Rattle.qn_model.specs.declared.line_fault.LineFault.TheVariants.{UnknownWord}
use Rattle.qn_model.specs.lemmas.Lines.{bind_ok, good, same_ok, two_words-ok}
use Rattle.qn_model.specs.Lines.{number_between, two_words, words_of}
use Rattle.qn_sched.specs.lemmas.Words.{one_word-ok}
use Rattle.qn_sched.specs.Words.{one_word}
use Rattle.qn_sched.specs.WrittenNumbers.{number_between-decimal, number_between-ok}
use Rattle.qn_group.specs.declared.phase.Verb.{Verb}
use Rattle.qn_group.specs.declared.phase.Verb.TheVariants as verb
use Rattle.qn_group.specs.declared.phase.Outcome.{Outcome}
use Rattle.qn_group.specs.declared.phase.Outcome.TheVariants as outcome
use Rattle.qn_group.specs.declared.group.Event.{Event}
use Rattle.qn_group.specs.declared.group.Event.TheVariants as event
use Rattle.qn_supervisor.specs.declared.line.Line.{Line}
use Rattle.qn_supervisor.specs.declared.line.Line.TheVariants as line
use Rattle.qn_supervisor.specs.declared.name.LineName.{LineName}
use Rattle.qn_supervisor.specs.declared.name.LineName.TheVariants as name
use Rattle.qn_supervisor.specs.LineNames.{line_name, line_names, name_word}
use Rattle.qn_supervisor.specs.Lines.{Fits, held_word, line_words, switch_word}
use Rattle.qn_supervisor.specs.Reading.{alone, begin_of, either, ended_of, failed_of, line_named, line_of, line_of_words, loop_of, maintenance_of, number_first, resource_of, tick_of, time_first}
use Rattle.qn_supervisor.specs.Words.{outcome_named, outcome_word, outcomes, verb_named, verb_word}

-- ---- words

-- what a search finds passes its test
found : {A : Type 0} (test : A → Bool) (items : List A) → IfSome (find test items) (λ item. test item ≡ true)
found test [] = tt
found test (first ∷ items) = by_test (test first) refl (found test items)
  where
    by_test : (b : Bool) → test first ≡ b → IfSome (find test items) (λ item. test item ≡ true)
        → IfSome (cond b (Some first) (find test items)) (λ item. test item ≡ true)
    by_test true passes others = passes
    by_test false fails others = others

-- what is there has what was said of it
picked : {A : Type 0} (P : A → Type 0) (o : Option A) (a : A) → IfSome o P → ok_or o UnknownWord ≡ good a → P a
picked P None a holds is = cc
picked P (Some b) a holds is = subst P (same_ok b a is) holds

name_said : (word : List ℕ) (one : LineName) → ok_or (line_name word) UnknownWord ≡ good one → word ≡ name_word one
unfolding line_name
name_said word one is =
    let test : LineName → Bool = λ n. bytes_eq (name_word n) word in
    sym ((bytes_eq-Decides (name_word one) word).0 (picked (λ n. test n ≡ true) (find test line_names) one (found test line_names) is))

name_read : (one : LineName) → line_name (name_word one) ≡ Some one
unfolding line_name
name_read name.Resource = refl
name_read name.Loop = refl
name_read name.Begin = refl
name_read name.Failed = refl
name_read name.Tick = refl
name_read name.Start = refl
name_read name.Stop = refl
name_read name.Move = refl
name_read name.Maintenance = refl
name_read name.Ended = refl

verb_said : (word : List ℕ) (one : Verb) → ok_or (verb_named word) UnknownWord ≡ good one → word ≡ verb_word one
unfolding verb_named
verb_said word one is =
    let test : Verb → Bool = λ n. bytes_eq (verb_word n) word in
    let all : List Verb = verb.Start ∷ verb.Stop ∷ verb.Monitor ∷ [] in
    sym ((bytes_eq-Decides (verb_word one) word).0 (picked (λ n. test n ≡ true) (find test all) one (found test all) is))

verb_read : (one : Verb) → verb_named (verb_word one) ≡ Some one
unfolding verb_named
verb_read verb.Start = refl
verb_read verb.Stop = refl
verb_read verb.Monitor = refl

outcome_said : (word : List ℕ) (one : Outcome) → ok_or (outcome_named word) UnknownWord ≡ good one → word ≡ outcome_word one
unfolding outcome_named
outcome_said word one is =
    let test : Outcome → Bool = λ n. bytes_eq (outcome_word n) word in
    sym ((bytes_eq-Decides (outcome_word one) word).0 (picked (λ n. test n ≡ true) (find test outcomes) one (found test outcomes) is))

outcome_read : (one : Outcome) → outcome_named (outcome_word one) ≡ Some one
unfolding outcome_named
outcome_read outcome.Done = refl
outcome_read outcome.NotRunning = refl
outcome_read outcome.Broken = refl
outcome_read outcome.Hard = refl
outcome_read outcome.Unknown = refl

-- of two words the one that it is
either-ok : (first second word : List ℕ) (truth : Bool) → either first second word ≡ Ok truth → word ≡ cond truth first second
unfolding either
either-ok first second word truth is = by_first (bytes_eq word first) refl is
  where
    by_second : (b : Bool) → bytes_eq word second ≡ b → cond b (good false) (Err UnknownWord) ≡ Ok truth → word ≡ cond truth first second
    by_second true same is = subst (λ (a : Bool). word ≡ cond a first second) (same_ok false truth is) ((bytes_eq-Decides word second).0 same)
    by_second false same is = cc

    by_first : (b : Bool) → bytes_eq word first ≡ b → cond b (good true) (cond (bytes_eq word second) (good false) (Err UnknownWord)) ≡ Ok truth → word ≡ cond truth first second
    by_first true same is = subst (λ (a : Bool). word ≡ cond a first second) (same_ok true truth is) ((bytes_eq-Decides word first).0 same)
    by_first false same is = by_second (bytes_eq word second) refl is

held_read : (held : Bool) → either (codes "held") (codes "released") (held_word held) ≡ Ok held
unfolding either
held_read true = refl
held_read false = refl

held_same : (held : Bool) → cond held (codes "held") (codes "released") ≡ held_word held
held_same true = refl
held_same false = refl

switch_read : (on : Bool) → either (codes "on") (codes "off") (switch_word on) ≡ Ok on
unfolding either
switch_read true = refl
switch_read false = refl

switch_same : (on : Bool) → cond on (codes "on") (codes "off") ≡ switch_word on
switch_same true = refl
switch_same false = refl

-- ---- numbers

record IsFirst (high : ℕ) (words : List (List ℕ)) (next : ℕ × List (List ℕ)) : Type 0 where
  words_are : words ≡ decimal next.0 ∷ next.1
  below : next.0 ≤ high

number_first-ok : (high : ℕ) (words : List (List ℕ)) (next : ℕ × List (List ℕ)) → number_first high words ≡ Ok next → IsFirst high words next
unfolding number_first
number_first-ok high [] next is = cc
number_first-ok high (word ∷ words) next is =
    let step = bind_ok (number_between 0 high word) _ next is in
    let number = number_between-ok 0 high word step.0 step.1 in
    subst (λ (n : ℕ × List (List ℕ)). IsFirst high (word ∷ words) n) (same_ok (step.0, words) next step.2)
    (record { words_are = ap (λ w. w ∷ words) number.word_is; below = number.below })

number_first-words : (high n : ℕ) (words : List (List ℕ)) → n ≤ high → n < 2 ^ 64 → number_first high (decimal n ∷ words) ≡ Ok (n, words)
unfolding number_first
number_first-words high n words below fits = rw (number_between-decimal 0 high n (omega arith) below fits) refl

time_first-words : (n : ℕ) (words : List (List ℕ)) → n < 2 ^ 64 → time_first (decimal n ∷ words) ≡ Ok (n, words)
time_first-words n words fits = number_first-words (2 ^ 64 - 1) n words (omega (arith, fits)) fits

-- ---- what is taken is spelled so

record Says (one : LineName) (words : List (List ℕ)) (said : Line) : Type 0 where
  words_are : name_word one ∷ words ≡ line_words said
  fits : Fits said

alone-ok : (one said : Line) (words : List (List ℕ)) → alone one words ≡ Ok said → (words ≡ []) × (one ≡ said)
alone-ok one said [] is = (refl, same_ok one said is)
alone-ok one said (word ∷ words) is = cc

resource_of-ok : (words : List (List ℕ)) (said : Line) → resource_of words ≡ Ok said → Says name.Resource words said
unfolding resource_of
resource_of-ok words said is =
    let a = bind_ok (time_first words) _ said is in
    let b = bind_ok (time_first a.0.1) _ said a.2 in
    let c = bind_ok (time_first b.0.1) _ said b.2 in
    let d = bind_ok (time_first c.0.1) _ said c.2 in
    let e = bind_ok (number_first (2 ^ 32 - 1) d.0.1) _ said d.2 in
    let f = bind_ok (time_first e.0.1) _ said e.2 in
    let first = number_first-ok (2 ^ 64 - 1) words a.0 a.1 in
    let second = number_first-ok (2 ^ 64 - 1) a.0.1 b.0 b.1 in
    let third = number_first-ok (2 ^ 64 - 1) b.0.1 c.0 c.1 in
    let fourth = number_first-ok (2 ^ 64 - 1) c.0.1 d.0 d.1 in
    let fifth = number_first-ok (2 ^ 32 - 1) d.0.1 e.0 e.1 in
    let sixth = number_first-ok (2 ^ 64 - 1) e.0.1 f.0 f.1 in
    let one : Line = line.Resource (record { interval = a.0.0; patience = b.0.0; check = c.0.0; stop = d.0.0; limit = e.0.0; window = f.0.0 }) in
    let done = alone-ok one said f.0.1 f.2 in
    subst (λ (l : Line). Says name.Resource words l) done.1
    (record {
      words_are = ap (λ ws. codes "resource" ∷ ws)
          (first.words_are ∙ ap (λ ws. decimal a.0.0 ∷ ws)
          (second.words_are ∙ ap (λ ws. decimal b.0.0 ∷ ws)
          (third.words_are ∙ ap (λ ws. decimal c.0.0 ∷ ws)
          (fourth.words_are ∙ ap (λ ws. decimal d.0.0 ∷ ws)
          (fifth.words_are ∙ ap (λ ws. decimal e.0.0 ∷ ws)
          (sixth.words_are ∙ ap (λ ws. decimal f.0.0 ∷ ws) done.0))))));
      fits =
          (omega (arith, first.below), omega (arith, second.below), omega (arith, third.below), omega (arith, fourth.below), omega (arith, fifth.below), omega (arith, sixth.below));
    })

loop_of-ok : (words : List (List ℕ)) (said : Line) → loop_of words ≡ Ok said → Says name.Loop words said
unfolding loop_of
loop_of-ok words said is =
    let word = bind_ok (one_word words) _ said is in
    let turn = bind_ok (number_between 0 3600000 word.0) _ said word.2 in
    let number = number_between-ok 0 3600000 word.0 turn.0 turn.1 in
    subst (λ (l : Line). Says name.Loop words l) (same_ok (line.Loop turn.0) said turn.2)
    (record {
      words_are = ap (λ ws. codes "loop" ∷ ws) (one_word-ok words word.0 word.1 ∙ ap (λ w. w ∷ []) number.word_is);
      fits = number.below;
    })

begin_of-ok : (words : List (List ℕ)) (said : Line) → begin_of words ≡ Ok said → Says name.Begin words said
unfolding begin_of
begin_of-ok words said is =
    let word = bind_ok (one_word words) _ said is in
    let held = bind_ok (either (codes "held") (codes "released") word.0) _ said word.2 in
    let same = either-ok (codes "held") (codes "released") word.0 held.0 held.1 ∙ held_same held.0 in
    subst (λ (l : Line). Says name.Begin words l) (same_ok (line.Begin held.0) said held.2)
    (record { words_are = ap (λ ws. codes "begin" ∷ ws) (one_word-ok words word.0 word.1 ∙ ap (λ w. w ∷ []) same); fits = tt })

failed_of-ok : (words : List (List ℕ)) (said : Line) → failed_of words ≡ Ok said → Says name.Failed words said
unfolding failed_of
failed_of-ok words said is =
    let at = bind_ok (number_first 15 words) _ said is in
    let tick = bind_ok (time_first at.0.1) _ said at.2 in
    let first = number_first-ok 15 words at.0 at.1 in
    let second = number_first-ok (2 ^ 64 - 1) at.0.1 tick.0 tick.1 in
    let done = alone-ok (line.Failed at.0.0 tick.0.0) said tick.0.1 tick.2 in
    subst (λ (l : Line). Says name.Failed words l) done.1
    (record {
      words_are = ap (λ ws. codes "failed" ∷ ws)
          (first.words_are ∙ ap (λ ws. decimal at.0.0 ∷ ws) (second.words_are ∙ ap (λ ws. decimal tick.0.0 ∷ ws) done.0));
      fits = (omega (arith, first.below), omega (arith, second.below));
    })

tick_of-ok : (words : List (List ℕ)) (said : Line) → tick_of words ≡ Ok said → Says name.Tick words said
unfolding tick_of
tick_of-ok words said is =
    let word = bind_ok (one_word words) _ said is in
    let tick = bind_ok (number_between 0 (2 ^ 64 - 1) word.0) _ said word.2 in
    let number = number_between-ok 0 (2 ^ 64 - 1) word.0 tick.0 tick.1 in
    subst (λ (l : Line). Says name.Tick words l) (same_ok (line.Happens (event.Tick tick.0)) said tick.2)
    (record {
      words_are = ap (λ ws. codes "tick" ∷ ws) (one_word-ok words word.0 word.1 ∙ ap (λ w. w ∷ []) number.word_is);
      fits = let below = number.below in omega (arith, below);
    })

maintenance_of-ok : (words : List (List ℕ)) (said : Line) → maintenance_of words ≡ Ok said → Says name.Maintenance words said
unfolding maintenance_of
maintenance_of-ok words said is =
    let word = bind_ok (one_word words) _ said is in
    let on = bind_ok (either (codes "on") (codes "off") word.0) _ said word.2 in
    let same = either-ok (codes "on") (codes "off") word.0 on.0 on.1 ∙ switch_same on.0 in
    subst (λ (l : Line). Says name.Maintenance words l) (same_ok (line.Happens (event.Maintenance on.0)) said on.2)
    (record { words_are = ap (λ ws. codes "maintenance" ∷ ws) (one_word-ok words word.0 word.1 ∙ ap (λ w. w ∷ []) same); fits = tt })

ended_of-ok : (words : List (List ℕ)) (said : Line) → ended_of words ≡ Ok said → Says name.Ended words said
unfolding ended_of
ended_of-ok words said is =
    let at = bind_ok (number_first 15 words) _ said is in
    let pair = bind_ok (two_words at.0.1) _ said at.2 in
    let done = bind_ok (ok_or (verb_named pair.0.0) UnknownWord) _ said pair.2 in
    let how = bind_ok (ok_or (outcome_named pair.0.1) UnknownWord) _ said done.2 in
    let first = number_first-ok 15 words at.0 at.1 in
    subst (λ (l : Line). Says name.Ended words l) (same_ok (line.Happens (event.Ended at.0.0 done.0 how.0)) said how.2)
    (record {
      words_are = ap (λ ws. codes "ended" ∷ ws)
          (first.words_are ∙ ap (λ ws. decimal at.0.0 ∷ ws)
          (two_words-ok at.0.1 pair.0 pair.1 ∙ ap (λ w. w ∷ pair.0.1 ∷ []) (verb_said pair.0.0 done.0 done.1)
          ∙ ap (λ w. verb_word done.0 ∷ w ∷ []) (outcome_said pair.0.1 how.0 how.1)));
      fits = omega (arith, first.below);
    })

start_says : (words : List (List ℕ)) (said : Line) → alone (line.Happens event.Start) words ≡ Ok said → Says name.Start words said
start_says words said is =
    let done = alone-ok (line.Happens event.Start) said words is in
    subst (λ (l : Line). Says name.Start words l) done.1 (record { words_are = ap (λ ws. codes "start" ∷ ws) done.0; fits = tt })

stop_says : (words : List (List ℕ)) (said : Line) → alone (line.Happens event.Stop) words ≡ Ok said → Says name.Stop words said
stop_says words said is =
    let done = alone-ok (line.Happens event.Stop) said words is in
    subst (λ (l : Line). Says name.Stop words l) done.1 (record { words_are = ap (λ ws. codes "stop" ∷ ws) done.0; fits = tt })

move_says : (words : List (List ℕ)) (said : Line) → alone (line.Happens event.Move) words ≡ Ok said → Says name.Move words said
move_says words said is =
    let done = alone-ok (line.Happens event.Move) said words is in
    subst (λ (l : Line). Says name.Move words l) done.1 (record { words_are = ap (λ ws. codes "move" ∷ ws) done.0; fits = tt })

line_named-ok : (one : LineName) (words : List (List ℕ)) (said : Line) → line_named one words ≡ Ok said → Says one words said
unfolding line_named
line_named-ok name.Resource words said is = resource_of-ok words said is
line_named-ok name.Loop words said is = loop_of-ok words said is
line_named-ok name.Begin words said is = begin_of-ok words said is
line_named-ok name.Failed words said is = failed_of-ok words said is
line_named-ok name.Tick words said is = tick_of-ok words said is
line_named-ok name.Start words said is = start_says words said is
line_named-ok name.Stop words said is = stop_says words said is
line_named-ok name.Move words said is = move_says words said is
line_named-ok name.Maintenance words said is = maintenance_of-ok words said is
line_named-ok name.Ended words said is = ended_of-ok words said is

words_said : (words : List (List ℕ)) (said : Line) → line_of_words words ≡ Ok said → Fits said × (words ≡ line_words said)
unfolding line_of_words
words_said [] said is = cc
words_said (first ∷ words) said is =
    let step = bind_ok (ok_or (line_name first) UnknownWord) _ said is in
    let says = line_named-ok step.0 words said step.2 in
    (says.fits, ap (λ w. w ∷ words) (name_said first step.0 step.1) ∙ says.words_are)

-- ---- what is spelled so is taken

by_name : (one : LineName) (words : List (List ℕ)) (said : Line) → line_named one words ≡ Ok said → line_of_words (name_word one ∷ words) ≡ Ok said
unfolding line_of_words
by_name one words said is = rw (name_read one) is

event_read : (happened : Event) → Fits (line.Happens happened) → line_of_words (line_words (line.Happens happened)) ≡ Ok (line.Happens happened)
unfolding line_named tick_of maintenance_of ended_of
event_read (event.Tick tick) fits =
    by_name name.Tick (decimal tick ∷ []) (line.Happens (event.Tick tick))
    (rw (number_between-decimal 0 (2 ^ 64 - 1) tick (omega arith) (omega (arith, fits)) fits) refl)
event_read event.Start fits = by_name name.Start [] (line.Happens event.Start) refl
event_read event.Stop fits = by_name name.Stop [] (line.Happens event.Stop) refl
event_read event.Move fits = by_name name.Move [] (line.Happens event.Move) refl
event_read (event.Maintenance on) fits =
    by_name name.Maintenance (switch_word on ∷ []) (line.Happens (event.Maintenance on)) (rw (switch_read on) refl)
event_read (event.Ended at done how) fits =
    by_name name.Ended (decimal at ∷ verb_word done ∷ outcome_word how ∷ []) (line.Happens (event.Ended at done how))
    (rw (number_first-words 15 at (verb_word done ∷ outcome_word how ∷ []) (omega (arith, fits)) (omega (arith, fits)), verb_read done, outcome_read how) refl)

words_read : (said : Line) → Fits said → line_of_words (line_words said) ≡ Ok said
unfolding line_named resource_of loop_of begin_of failed_of
words_read (line.Resource rule) fits =
    let limit = fits.4 in
    by_name name.Resource
    (decimal rule.interval ∷ decimal rule.patience ∷ decimal rule.check ∷ decimal rule.stop ∷ decimal rule.limit ∷ decimal rule.window ∷ []) (line.Resource rule)
    (rw (
      time_first-words rule.interval (decimal rule.patience ∷ decimal rule.check ∷ decimal rule.stop ∷ decimal rule.limit ∷ decimal rule.window ∷ []) fits.0,
      time_first-words rule.patience (decimal rule.check ∷ decimal rule.stop ∷ decimal rule.limit ∷ decimal rule.window ∷ []) fits.1,
      time_first-words rule.check (decimal rule.stop ∷ decimal rule.limit ∷ decimal rule.window ∷ []) fits.2,
      time_first-words rule.stop (decimal rule.limit ∷ decimal rule.window ∷ []) fits.3,
      number_first-words (2 ^ 32 - 1) rule.limit (decimal rule.window ∷ []) (omega (arith, limit)) (omega (arith, limit)),
      time_first-words rule.window [] fits.5,
    ) refl)
words_read (line.Loop turn) fits =
    by_name name.Loop (decimal turn ∷ []) (line.Loop turn)
    (rw (number_between-decimal 0 3600000 turn (omega arith) fits (omega (arith, fits))) refl)
words_read (line.Begin held) fits = by_name name.Begin (held_word held ∷ []) (line.Begin held) (rw (held_read held) refl)
words_read (line.Failed at tick) fits =
    let place = fits.0 in
    by_name name.Failed (decimal at ∷ decimal tick ∷ []) (line.Failed at tick)
    (rw (number_first-words 15 at (decimal tick ∷ []) (omega (arith, place)) (omega (arith, place)), time_first-words tick [] fits.1) refl)
words_read (line.Happens happened) fits = event_read happened fits

-- what is taken is what is spelled so
pub line_spelled : (text : List ℕ) (said : Line) → (line_of text ≡ Ok said) ↔ (Fits said × (words_of text ≡ line_words said))
unfolding line_of
line_spelled text said = (λ is. words_said (words_of text) said is, λ both. ap line_of_words both.1 ∙ words_read said both.0)
