-- A line is accepted as an event exactly where it is the line of that well formed event.
use Rattle.std.proofs.Common.{◌≡◌, ◌-◌, ◌^◌, ◌<◌, ◌≤◌, ◌↔◌, ℕ, Bool, true, false, ◌&&◌, cond, List, [], ◌∷◌, Option, Some, None, Ok, Err, find, map, length, nat_le, nat_lt, refl, sym, ap, ◌∙◌, subst, arith, lt-ltb, le-ltb}
use Rattle.std.specs.Prelude.{codes, decimal}
use Rattle.std.specs.List.{join_with_byte, list_all}
use Rattle.std.specs.Option.{ok_or}
use Rattle.std.specs.Str.{bytes_eq}
use Rattle.std.proofs.lemmas.Bool.{and_parts, leb-true, ltb-true, cond-false}
use Rattle.std.proofs.lemmas.Bool.Decides.{nat_tests}
use Rattle.std.proofs.lemmas.List.Splits.{join_with_byte-slice_split}
use Rattle.std.proofs.lemmas.Slice.Eq.{bytes_eq-Decides}
use Rattle.qn_base.specs.declared.ids.Rank.{Rank}
use Rattle.qn_base.specs.Text.{yes_no}
use Rattle.qn_model.specs.declared.configuration.Settings.{Settings}
use Rattle.qn_model.specs.declared.events.Event.{Event}
use Rattle.qn_model.specs.declared.events.Event.TheVariants as event
use Rattle.qn_model.specs.declared.disk.Message.{Message}
use Rattle.qn_model.specs.declared.disk.Message.TheVariants.{Empty, Test, Reset, Off, Exit, Crashdump}
use Rattle.qn_model.specs.declared.line_fault.LineFault.TheVariants.{TooLong, UnknownWord}
use Rattle.qn_model.specs.lemmas.Lines.{bind_ok, good, same_ok, two_words-ok}
use Rattle.qn_model.specs.Lines.{◌>>=◌, is_ascending, members_of, number_between, two_words, words_of}
use Rattle.qn_model.specs.Messages.{operator_word}
use Rattle.qn_model.specs.Rules.{is_between, is_configured, is_well_formed}
use Rattle.qn_model.specs.Settings.{ids}
use Rattle.qn_sched.specs.declared.event_name.EventName.{EventName}
use Rattle.qn_sched.specs.declared.event_name.EventName.TheVariants.{Pass, Boot, BootClean, Late, View, Deliver, Device, Operator, OfNode}
use Rattle.qn_sched.specs.declared.event_name.NodeEvent.{NodeEvent}
use Rattle.qn_sched.specs.declared.event_name.NodeEvent.TheVariants.{Crash, Land, Done, Fail, Tick, Stopped, Unstopped, Leave, Feed}
use Rattle.qn_sched.specs.lemmas.Words.{one_word-ok}
use Rattle.qn_sched.specs.EventLines.{clock_word, event_line, event_words, id_word}
use Rattle.qn_sched.specs.EventNames.{event_at, event_name, event_names, event_word, node_event_word}
use Rattle.qn_sched.specs.EventReading.{boot_clean_of, boot_of, clocks_of, deliver_of, device_of, event_named, event_of, event_of_words, late_of, message_worded, messages, node_event_of, numbered_of, operator_of, pass_of, rank_of, view_of, yes_or_no}
use Rattle.qn_sched.specs.Words.{one_word, three_words}
use Rattle.qn_sched.proofs.ClockSpelling.{clocks_of-ok, clocks_of-words, is_clock, ranks_of}
use Rattle.qn_sched.proofs.LineWords.{line_plain}
use Rattle.qn_sched.proofs.MemberSpelling.{members_of-ok, members_of-word}
use Rattle.qn_sched.proofs.RankSpelling.{AreIds, rank_of-id, rank_of-ok}
use Rattle.qn_sched.specs.WrittenNumbers.{number_between-decimal, number_between-ok}

-- ---- the first word

first_or_later : {A : Type 0} (test : A → Bool) (first : A) (later : Option A) (name : A) (b : Bool) → test first ≡ b
    → (later ≡ Some name → test name ≡ true) → cond b (Some first) later ≡ Some name → test name ≡ true
first_or_later test first later name true passes others is = let same : first ≡ name = cc in subst (λ n. test n ≡ true) same passes
first_or_later test first later name false fails others is = others is

found : {A : Type 0} (test : A → Bool) (names : List A) (name : A) → find test names ≡ Some name → test name ≡ true
found test [] name is = cc
found test (first ∷ names) name is = first_or_later test first (find test names) name (test first) refl (found test names name) is

named : (word : List ℕ) (name : EventName) → event_name word ≡ Some name → word ≡ event_word name
unfolding event_name
named word name is = sym ((bytes_eq-Decides (event_word name) word).0 (found (λ n. bytes_eq (event_word n) word) event_names name is))

node_names : (e : NodeEvent) → event_name (node_event_word e) ≡ Some (OfNode e)
unfolding event_name
node_names Crash = refl
node_names Land = refl
node_names Done = refl
node_names Fail = refl
node_names Tick = refl
node_names Stopped = refl
node_names Unstopped = refl
node_names Leave = refl
node_names Feed = refl

names : (name : EventName) → event_name (event_word name) ≡ Some name
unfolding event_name
names Pass = refl
names Boot = refl
names BootClean = refl
names Late = refl
names View = refl
names Deliver = refl
names Device = refl
names Operator = refl
names (OfNode e) = node_names e

ok_or-name : {A : Type 0} (o : Option A) (name : A) → ok_or o UnknownWord ≡ Ok name → o ≡ Some name
ok_or-name None name is = cc
ok_or-name (Some n) name is = cc

-- ---- the words after it

three_words-ok : (words : List (List ℕ)) (three : List ℕ × List ℕ × List ℕ) → three_words words ≡ Ok three → words ≡ three.0 ∷ three.1 ∷ three.2 ∷ []
three_words-ok [] three is = cc
three_words-ok (first ∷ []) three is = cc
three_words-ok (first ∷ second ∷ []) three is = cc
three_words-ok (first ∷ second ∷ third ∷ []) three is =
    subst (λ (t : List ℕ × List ℕ × List ℕ). first ∷ second ∷ third ∷ [] ≡ t.0 ∷ t.1 ∷ t.2 ∷ []) (same_ok (first, second, third) three is) refl
three_words-ok (first ∷ second ∷ third ∷ fourth ∷ words) three is = cc

yes_or_no-ok : (word : List ℕ) (agrees : Bool) → yes_or_no word ≡ Ok agrees → word ≡ yes_no agrees
unfolding yes_or_no
yes_or_no-ok word agrees is = by_yes (bytes_eq word (codes "yes")) refl is
  where
    by_no : (b : Bool) → bytes_eq word (codes "no") ≡ b → cond b (good false) (Err UnknownWord) ≡ Ok agrees → word ≡ yes_no agrees
    by_no true same is = subst (λ (a : Bool). word ≡ yes_no a) (same_ok false agrees is) ((bytes_eq-Decides word (codes "no")).0 same)
    by_no false same is = cc

    by_yes : (b : Bool) → bytes_eq word (codes "yes") ≡ b → cond b (good true) (cond (bytes_eq word (codes "no")) (good false) (Err UnknownWord)) ≡ Ok agrees → word ≡ yes_no agrees
    by_yes true same is = subst (λ (a : Bool). word ≡ yes_no a) (same_ok true agrees is) ((bytes_eq-Decides word (codes "yes")).0 same)
    by_yes false same is = by_no (bytes_eq word (codes "no")) refl is

yes_or_no-word : (agrees : Bool) → yes_or_no (yes_no agrees) ≡ Ok agrees
unfolding yes_or_no
yes_or_no-word true = refl
yes_or_no-word false = refl

message_worded-ok : (word : List ℕ) (message : Message) → message_worded word ≡ Some message → word ≡ operator_word message
unfolding message_worded
message_worded-ok word message is =
    sym ((bytes_eq-Decides (operator_word message) word).0 (found (λ m. bytes_eq (operator_word m) word) messages message is))

message_worded-word : (message : Message) → message_worded (operator_word message) ≡ Some message
unfolding message_worded
message_worded-word Empty = refl
message_worded-word Test = refl
message_worded-word Reset = refl
message_worded-word Off = refl
message_worded-word Exit = refl
message_worded-word Crashdump = refl

module _ (s : Settings) (known : AreIds (ids s.nodes)) (count : length (ids s.nodes) ≡ length s.nodes) where
  abbrev all_ids : List ℕ
  all_ids = ids s.nodes

  configured : (rank : Rank) → rank.0 < length all_ids → is_configured s rank.0 ≡ true
  configured rank inside = let same = count in let z : nat_lt rank.0 (length s.nodes) ≡ true = lt-ltb rank.0 (length s.nodes) (omega arith) in z

  inside_ids : (rank : Rank) → is_configured s rank.0 ≡ true → rank.0 < length all_ids
  inside_ids rank is = let same = count in let inside = ltb-true rank.0 (length s.nodes) is in omega arith

  between : (low high n : ℕ) → low ≤ n → n ≤ high → is_between low high n ≡ true
  between low high n above below =
      let one : nat_le low n ≡ true = grind (arith, nat_tests) in
      let other : nat_le n high ≡ true = grind (arith, nat_tests) in
      rw (one, other) refl

  -- what the words after a first word say
  record Says (name : EventName) (words : List (List ℕ)) (e : Event) : Type 0 where
    words_are : event_word name ∷ words ≡ event_words all_ids e
    formed : is_well_formed s e ≡ true

  node_says : (e : NodeEvent) (rank : Rank) (words : List (List ℕ)) → is_configured s rank.0 ≡ true → words ≡ id_word all_ids rank ∷ [] → Says (OfNode e) words (event_at e rank)
  unfolding is_well_formed
  node_says Crash rank words formed is = record { words_are = ap (λ ws. codes "crash" ∷ ws) is; formed = formed }
  node_says Land rank words formed is = record { words_are = ap (λ ws. codes "land" ∷ ws) is; formed = formed }
  node_says Done rank words formed is = record { words_are = ap (λ ws. codes "done" ∷ ws) is; formed = formed }
  node_says Fail rank words formed is = record { words_are = ap (λ ws. codes "fail" ∷ ws) is; formed = formed }
  node_says Tick rank words formed is = record { words_are = ap (λ ws. codes "tick" ∷ ws) is; formed = formed }
  node_says Stopped rank words formed is = record { words_are = ap (λ ws. codes "stopped" ∷ ws) is; formed = formed }
  node_says Unstopped rank words formed is = record { words_are = ap (λ ws. codes "unstopped" ∷ ws) is; formed = formed }
  node_says Leave rank words formed is = record { words_are = ap (λ ws. codes "leave" ∷ ws) is; formed = formed }
  node_says Feed rank words formed is = record { words_are = ap (λ ws. codes "feed" ∷ ws) is; formed = formed }

  node_event_of-ok : (n : NodeEvent) (words : List (List ℕ)) (e : Event) → node_event_of all_ids n words ≡ Ok e → Says (OfNode n) words e
  unfolding node_event_of
  node_event_of-ok n words e is =
      let first = bind_ok (one_word words) _ e is in
      let step = bind_ok (rank_of all_ids first.0) _ e first.2 in
      let id = rank_of-ok all_ids first.0 step.0 step.1 in
      subst (λ (x : Event). Says (OfNode n) words x) (same_ok (event_at n step.0) e step.2)
      (node_says n step.0 words (configured step.0 id.inside) (one_word-ok words first.0 first.1 ∙ ap (λ w. w ∷ []) id.word_is))

  -- a node and a number that were accepted
  record IsNumbered (low high : ℕ) (words : List (List ℕ)) (numbered : Rank × ℕ) : Type 0 where
    words_are : words ≡ id_word all_ids numbered.0 ∷ decimal numbered.1 ∷ []
    formed : is_configured s numbered.0.0 ≡ true
    above : low ≤ numbered.1
    below : numbered.1 ≤ high

  numbered_of-ok : (low high : ℕ) (words : List (List ℕ)) (numbered : Rank × ℕ) → numbered_of all_ids low high words ≡ Ok numbered → IsNumbered low high words numbered
  unfolding numbered_of
  numbered_of-ok low high words numbered is =
      let pair = bind_ok (two_words words) _ numbered is in
      let first = bind_ok (rank_of all_ids pair.0.0) _ numbered pair.2 in
      let second = bind_ok (number_between low high pair.0.1) _ numbered first.2 in
      let id = rank_of-ok all_ids pair.0.0 first.0 first.1 in
      let number = number_between-ok low high pair.0.1 second.0 second.1 in
      subst (λ (n : Rank × ℕ). IsNumbered low high words n) (same_ok (first.0, second.0) numbered second.2)
      (record {
        words_are = two_words-ok words pair.0 pair.1 ∙ ap (λ w. w ∷ pair.0.1 ∷ []) id.word_is ∙ ap (λ w. id_word all_ids first.0 ∷ w ∷ []) number.word_is;
        formed = configured first.0 id.inside;
        above = number.above;
        below = number.below;
      })

  numbered_of-words : (low high : ℕ) (rank : Rank) (n : ℕ) → is_configured s rank.0 ≡ true → low ≤ n → n ≤ high → n < 2 ^ 64
      → numbered_of all_ids low high (id_word all_ids rank ∷ decimal n ∷ []) ≡ Ok (rank, n)
  unfolding numbered_of
  numbered_of-words low high rank n formed above below fits =
      rw (rank_of-id all_ids known rank (inside_ids rank formed), number_between-decimal low high n above below fits) refl

  boot_of-ok : (words : List (List ℕ)) (e : Event) → boot_of all_ids words ≡ Ok e → Says Boot words e
  unfolding boot_of is_well_formed
  boot_of-ok words e is =
      let step = bind_ok (numbered_of all_ids 0 1000000000000000 words) _ e is in
      let it = numbered_of-ok 0 1000000000000000 words step.0 step.1 in
      let below = it.below in
      let high : nat_le step.0.1 1000000000000000 ≡ true = grind (arith, nat_tests) in
      subst (λ (x : Event). Says Boot words x) (same_ok (event.Boot step.0.0 step.0.1) e step.2)
      (record { words_are = ap (λ ws. codes "boot" ∷ ws) it.words_are; formed = rw (it.formed, high) refl })

  boot_clean_of-ok : (words : List (List ℕ)) (e : Event) → boot_clean_of all_ids words ≡ Ok e → Says BootClean words e
  unfolding boot_clean_of is_well_formed
  boot_clean_of-ok words e is =
      let step = bind_ok (numbered_of all_ids 0 1000000000000000 words) _ e is in
      let it = numbered_of-ok 0 1000000000000000 words step.0 step.1 in
      let below = it.below in
      let high : nat_le step.0.1 1000000000000000 ≡ true = grind (arith, nat_tests) in
      subst (λ (x : Event). Says BootClean words x) (same_ok (event.BootClean step.0.0 step.0.1) e step.2)
      (record { words_are = ap (λ ws. codes "boot-clean" ∷ ws) it.words_are; formed = rw (it.formed, high) refl })

  late_of-ok : (words : List (List ℕ)) (e : Event) → late_of all_ids words ≡ Ok e → Says Late words e
  unfolding late_of is_well_formed
  late_of-ok words e is =
      let step = bind_ok (numbered_of all_ids 1 200000 words) _ e is in
      let it = numbered_of-ok 1 200000 words step.0 step.1 in
      let range = between 1 200000 step.0.1 it.above it.below in
      subst (λ (x : Event). Says Late words x) (same_ok (event.Late step.0.0 step.0.1) e step.2)
      (record { words_are = ap (λ ws. codes "late" ∷ ws) it.words_are; formed = rw (it.formed) range })

  deliver_of-ok : (words : List (List ℕ)) (e : Event) → deliver_of all_ids words ≡ Ok e → Says Deliver words e
  unfolding deliver_of is_well_formed
  deliver_of-ok words e is =
      let step = bind_ok (numbered_of all_ids 0 (2 ^ 64 - 1) words) _ e is in
      let it = numbered_of-ok 0 (2 ^ 64 - 1) words step.0 step.1 in
      let below = it.below in
      let fits : nat_lt step.0.1 (2 ^ 64) ≡ true = lt-ltb step.0.1 (2 ^ 64) (omega arith) in
      subst (λ (x : Event). Says Deliver words x) (same_ok (event.Deliver step.0.0 step.0.1) e step.2)
      (record { words_are = ap (λ ws. codes "deliver" ∷ ws) it.words_are; formed = rw (it.formed, fits) refl })

  device_of-ok : (words : List (List ℕ)) (e : Event) → device_of all_ids words ≡ Ok e → Says Device words e
  unfolding device_of is_well_formed
  device_of-ok words e is =
      let pair = bind_ok (two_words words) _ e is in
      let first = bind_ok (rank_of all_ids pair.0.0) _ e pair.2 in
      let second = bind_ok (yes_or_no pair.0.1) _ e first.2 in
      let id = rank_of-ok all_ids pair.0.0 first.0 first.1 in
      subst (λ (x : Event). Says Device words x) (same_ok (event.Device first.0 second.0) e second.2)
      (record {
        words_are = ap (λ ws. codes "device" ∷ ws)
            (two_words-ok words pair.0 pair.1 ∙ ap (λ w. w ∷ pair.0.1 ∷ []) id.word_is
            ∙ ap (λ w. id_word all_ids first.0 ∷ w ∷ []) (yes_or_no-ok pair.0.1 second.0 second.1));
        formed = configured first.0 id.inside;
      })

  operator_of-ok : (words : List (List ℕ)) (e : Event) → operator_of all_ids words ≡ Ok e → Says Operator words e
  unfolding operator_of is_well_formed
  operator_of-ok words e is =
      let pair = bind_ok (two_words words) _ e is in
      let first = bind_ok (rank_of all_ids pair.0.0) _ e pair.2 in
      let second = bind_ok (ok_or (message_worded pair.0.1) UnknownWord) _ e first.2 in
      let id = rank_of-ok all_ids pair.0.0 first.0 first.1 in
      let word = message_worded-ok pair.0.1 second.0 (ok_or-name (message_worded pair.0.1) second.0 second.1) in
      subst (λ (x : Event). Says Operator words x) (same_ok (event.Operator first.0 second.0) e second.2)
      (record {
        words_are = ap (λ ws. codes "operator" ∷ ws)
            (two_words-ok words pair.0 pair.1 ∙ ap (λ w. w ∷ pair.0.1 ∷ []) id.word_is ∙ ap (λ w. id_word all_ids first.0 ∷ w ∷ []) word);
        formed = configured first.0 id.inside;
      })

  view_of-ok : (words : List (List ℕ)) (e : Event) → view_of all_ids words ≡ Ok e → Says View words e
  unfolding view_of is_well_formed
  view_of-ok words e is =
      let three = bind_ok (three_words words) _ e is in
      let first = bind_ok (rank_of all_ids three.0.0) _ e three.2 in
      let second = bind_ok (number_between 0 (2 ^ 64 - 1) three.0.1) _ e first.2 in
      let third = bind_ok (members_of all_ids three.0.2) _ e second.2 in
      let id = rank_of-ok all_ids three.0.0 first.0 first.1 in
      let number = number_between-ok 0 (2 ^ 64 - 1) three.0.1 second.0 second.1 in
      let list = members_of-ok all_ids known three.0.2 third.0 third.1 in
      let below = number.below in
      let fits : nat_lt second.0 (2 ^ 64) ≡ true = lt-ltb second.0 (2 ^ 64) (omega arith) in
      let room : third.0.0 < 2 ^ length s.nodes = subst (λ n. third.0.0 < 2 ^ n) count list.fits in
      let members = between 1 (2 ^ length s.nodes - 1) third.0.0 list.some (omega arith) in
      subst (λ (x : Event). Says View words x) (same_ok (event.View first.0 (record { id = second.0; members = third.0 })) e third.2)
      (record {
        words_are = ap (λ ws. codes "view" ∷ ws)
            (three_words-ok words three.0 three.1 ∙ ap (λ w. w ∷ three.0.1 ∷ three.0.2 ∷ []) id.word_is
            ∙ ap (λ w. id_word all_ids first.0 ∷ w ∷ three.0.2 ∷ []) number.word_is
            ∙ ap (λ w. id_word all_ids first.0 ∷ decimal second.0 ∷ w ∷ []) list.word_is);
        formed = rw (configured first.0 id.inside, fits) members;
      })

  pass_formed : (dt : ℕ) (clocks : List (Rank × ℕ)) → is_between 1 1000000000 dt ≡ true → list_all (is_clock (length s.nodes)) clocks ≡ true → is_ascending (ranks_of clocks) ≡ true
      → is_well_formed s (event.Pass dt clocks) ≡ true
  unfolding is_well_formed
  pass_formed dt clocks range all ascend = rw (range, all, ascend) refl

  pass_of-ok : (words : List (List ℕ)) (e : Event) → pass_of all_ids words ≡ Ok e → Says Pass words e
  unfolding pass_of is_well_formed
  pass_of-ok [] e is = cc
  pass_of-ok (word ∷ words) e is =
      let first = bind_ok (number_between 1 1000000000 word) _ e is in
      let second = bind_ok (clocks_of all_ids words) _ e first.2 in
      let number = number_between-ok 1 1000000000 word first.0 first.1 in
      let clocks = clocks_of-ok all_ids words second.0 second.1 in
      let dt = between 1 1000000000 first.0 number.above number.below in
      subst (λ (x : Event). Says Pass (word ∷ words) x) (same_ok (event.Pass first.0 second.0) e second.2)
      (record {
        words_are = ap (λ w. codes "pass" ∷ w ∷ words) number.word_is ∙ ap (λ ws. codes "pass" ∷ decimal first.0 ∷ ws) clocks.words_are;
        formed = pass_formed first.0 second.0 dt (subst (λ n. list_all (is_clock n) second.0 ≡ true) count clocks.in_range) clocks.ascend;
      })

  event_named-ok : (name : EventName) (words : List (List ℕ)) (e : Event) → event_named all_ids name words ≡ Ok e → Says name words e
  unfolding event_named
  event_named-ok Pass words e is = pass_of-ok words e is
  event_named-ok Boot words e is = boot_of-ok words e is
  event_named-ok BootClean words e is = boot_clean_of-ok words e is
  event_named-ok Late words e is = late_of-ok words e is
  event_named-ok View words e is = view_of-ok words e is
  event_named-ok Deliver words e is = deliver_of-ok words e is
  event_named-ok Device words e is = device_of-ok words e is
  event_named-ok Operator words e is = operator_of-ok words e is
  event_named-ok (OfNode n) words e is = node_event_of-ok n words e is

  -- what the words of a line say
  event_of_words-ok : (words : List (List ℕ)) (e : Event) → event_of_words all_ids words ≡ Ok e → (words ≡ event_words all_ids e) × (is_well_formed s e ≡ true)
  unfolding event_of_words
  event_of_words-ok [] e is = cc
  event_of_words-ok (first ∷ words) e is =
      let step = bind_ok (ok_or (event_name first) UnknownWord) _ e is in
      let name = named first step.0 (ok_or-name (event_name first) step.0 step.1) in
      let says = event_named-ok step.0 words e step.2 in
      (ap (λ w. w ∷ words) name ∙ says.words_are, says.formed)

  -- ---- the words of a line are accepted

  by_name : (name : EventName) (words : List (List ℕ)) (e : Event) → event_named all_ids name words ≡ Ok e → event_of_words all_ids (event_word name ∷ words) ≡ Ok e
  unfolding event_of_words
  by_name name words e is = ap (λ o. ok_or o UnknownWord >>= (λ n. event_named all_ids n words)) (names name) ∙ is

  node_words : (n : NodeEvent) (rank : Rank) → is_configured s rank.0 ≡ true → event_of_words all_ids (node_event_word n ∷ id_word all_ids rank ∷ []) ≡ Ok (event_at n rank)
  unfolding event_named node_event_of
  node_words n rank formed = by_name (OfNode n) (id_word all_ids rank ∷ []) (event_at n rank) (rw (rank_of-id all_ids known rank (inside_ids rank formed)) refl)

  accepted : (e : Event) → is_well_formed s e ≡ true → event_of_words all_ids (event_words all_ids e) ≡ Ok e
  unfolding is_well_formed event_named pass_of boot_of boot_clean_of late_of view_of deliver_of device_of operator_of
  accepted (event.Pass dt clocks) formed =
      let all = and_parts (is_between 1 1000000000 dt && list_all (is_clock (length s.nodes)) clocks) (is_ascending (ranks_of clocks)) formed in
      let first = and_parts (is_between 1 1000000000 dt) (list_all (is_clock (length s.nodes)) clocks) all.0 in
      let range = and_parts (nat_le 1 dt) (nat_le dt 1000000000) first.0 in
      let above = leb-true 1 dt range.0 in
      let below = leb-true dt 1000000000 range.1 in
      by_name Pass (decimal dt ∷ map (clock_word all_ids) clocks) (event.Pass dt clocks)
      (rw (number_between-decimal 1 1000000000 dt above below (omega arith), clocks_of-words all_ids known clocks (subst (λ n. list_all (is_clock n) clocks ≡ true) (sym count) first.1) all.1) refl)
  accepted (event.Boot rank base) formed =
      let both = and_parts (is_configured s rank.0) (nat_le base 1000000000000000) formed in
      let below = leb-true base 1000000000000000 both.1 in
      by_name Boot _ (event.Boot rank base) (rw (numbered_of-words 0 1000000000000000 rank base both.0 (omega arith) below (omega arith)) refl)
  accepted (event.BootClean rank base) formed =
      let both = and_parts (is_configured s rank.0) (nat_le base 1000000000000000) formed in
      let below = leb-true base 1000000000000000 both.1 in
      by_name BootClean _ (event.BootClean rank base)
      (rw (numbered_of-words 0 1000000000000000 rank base both.0 (omega arith) below (omega arith)) refl)
  accepted (event.Crash rank) formed = node_words Crash rank formed
  accepted (event.Land rank) formed = node_words Land rank formed
  accepted (event.Done rank) formed = node_words Done rank formed
  accepted (event.Fail rank) formed = node_words Fail rank formed
  accepted (event.Late rank number) formed =
      let both = and_parts (is_configured s rank.0) (is_between 1 200000 number) formed in
      let range = and_parts (nat_le 1 number) (nat_le number 200000) both.1 in
      let above = leb-true 1 number range.0 in
      let below = leb-true number 200000 range.1 in
      by_name Late _ (event.Late rank number) (rw (numbered_of-words 1 200000 rank number both.0 above below (omega arith)) refl)
  accepted (event.View rank view) formed =
      let all = and_parts (is_configured s rank.0 && nat_lt view.id (2 ^ 64)) (is_between 1 (2 ^ length s.nodes - 1) view.members.0) formed in
      let first = and_parts (is_configured s rank.0) (nat_lt view.id (2 ^ 64)) all.0 in
      let fits = ltb-true view.id (2 ^ 64) first.1 in
      let range = and_parts (nat_le 1 view.members.0) (nat_le view.members.0 (2 ^ length s.nodes - 1)) all.1 in
      let above = leb-true 1 view.members.0 range.0 in
      let below = leb-true view.members.0 (2 ^ length s.nodes - 1) range.1 in
      let room : view.members.0 < 2 ^ length s.nodes = omega arith in
      by_name View _ (event.View rank view)
      (rw (rank_of-id all_ids known rank (inside_ids rank first.0), number_between-decimal 0 (2 ^ 64 - 1) view.id (omega arith) (omega arith) fits, members_of-word all_ids known view.members above (subst (λ n. view.members.0 < 2 ^ n) (sym count) room)) refl)
  accepted (event.Deliver rank number) formed =
      let both = and_parts (is_configured s rank.0) (nat_lt number (2 ^ 64)) formed in
      let fits = ltb-true number (2 ^ 64) both.1 in
      by_name Deliver _ (event.Deliver rank number) (rw (numbered_of-words 0 (2 ^ 64 - 1) rank number both.0 (omega arith) (omega arith) fits) refl)
  accepted (event.Device rank agrees) formed =
      by_name Device _ (event.Device rank agrees) (rw (rank_of-id all_ids known rank (inside_ids rank formed), yes_or_no-word agrees) refl)
  accepted (event.Tick rank) formed = node_words Tick rank formed
  accepted (event.Stopped rank) formed = node_words Stopped rank formed
  accepted (event.Unstopped rank) formed = node_words Unstopped rank formed
  accepted (event.Leave rank) formed = node_words Leave rank formed
  accepted (event.Feed rank) formed = node_words Feed rank formed
  accepted (event.Operator rank message) formed =
      by_name Operator _ (event.Operator rank message)
      (rw (rank_of-id all_ids known rank (inside_ids rank formed), message_worded-word message) refl)

-- a line is accepted exactly where it is the line of a well formed event
pub event_spelled : (s : Settings) → AreIds (ids s.nodes) → length (ids s.nodes) ≡ length s.nodes → length s.nodes ≤ 32 → (line : List ℕ) (e : Event)
    → (event_of (ids s.nodes) line ≡ Ok e) ↔ ((is_well_formed s e ≡ true) × (line ≡ event_line (ids s.nodes) e))
unfolding event_of event_line
event_spelled s known count few line e = (
  λ is.
      let said = short_line line e (nat_lt 4096 (length line)) is in
      let says = event_of_words-ok s known count (words_of line) e said in
      (says.1, sym (join_with_byte-slice_split 32 line) ∙ ap (join_with_byte 32) says.0),
  λ both.
      let plain = line_plain s known (omega arith) count e both.0 in
      let fits : length (join_with_byte 32 (event_words (ids s.nodes) e)) ≤ 4096 = plain.short in
      ap (event_of (ids s.nodes)) both.1
      ∙ cond-false (nat_lt 4096 (length (join_with_byte 32 (event_words (ids s.nodes) e)))) (Err TooLong) _ (le-ltb 4096 _ fits)
      ∙ ap (event_of_words (ids s.nodes)) plain.parted
      ∙ accepted s known count e both.0,
)
  where
    short_line : (line : List ℕ) (e : Event) (b : Bool) → cond b (Err TooLong) (event_of_words (ids s.nodes) (words_of line)) ≡ Ok e → event_of_words (ids s.nodes) (words_of line) ≡ Ok e
    short_line line e true is = cc
    short_line line e false is = is
