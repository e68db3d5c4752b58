-- What a view maker keeps of its nodes, and what it knows by their Hellos, after any list of its calls.
use Rattle.std.proofs.Common.{◌≡◌, ◌≢◌, ℕ, ◌<◌, ◌≤◌, Bool, true, false, not, ◌==◌, ◌&&◌, ◌||◌, max, List, [], ◌∷◌, length, get_or, set, Option, None, Some, if◌then◌else◌, refl, sym, ap, subst, ◌∙◌, arith, eq-eqb, nat_lt}
use Rattle.std.specs.Option.{option_map_or}
use Rattle.std.proofs.lemmas.Bool.{false≢true, lt-ltb}
use Rattle.std.proofs.lemmas.Bool.Decides.{nat_tests, Decides-eqb}
use Rattle.std.proofs.lemmas.List.{get_or-replicate, get_or-set_same, get_or-set_other, length-replicate, length-set}
use Rattle.qn_base.specs.declared.ids.View.{View}
use Rattle.qn_base.specs.Members.{is_member}
use Rattle.qn_model.specs.declared.nodelist.NodeEntry.{NodeEntry}
use Rattle.qn_model.specs.declared.configuration.Settings.{Settings}
use Rattle.qn_base.specs.declared.ids.Said.{Said}
use Rattle.qn_member.specs.Announcing.{after_hello_due, is_hello_due}
use Rattle.qn_candidate.specs.Numbers.{without_name}
use Rattle.qn_member.specs.Maker.{Maker, after_announce, after_hello, after_plain_hello, after_tick, enough_of, first_maker, has_configured, heard_nodes, installed, is_configured, is_heard, is_plain, is_visible, looked, names, of_rank, plain, remembered_nodes, said_in, says_more, view_at, visible_nodes}
use Rattle.qn_member.specs.MakerCalls.{Announce, Due, Heard, Hello, Look, MakerCall, MakerRun, PlainHello, after_call, after_calls, counted, heard_in, is_beside, is_farewell, is_seen, is_within, last_hello, last_said, maker_of, was_heard}
use Rattle.qn_member.proofs.Differs.{length-with_ranks}
use Rattle.qn_member.proofs.Ranks.{member_of-ranks_that}

-- what each call leaves as it is: the nodes, the own rank, the loop's time, the votes that are enough, and how many ranks are kept
pub record Kept (entries : List NodeEntry) (own span need : ℕ) (m : Maker) : Type 0 where
  pub nodes : m.nodes ≡ entries
  pub me : m.me ≡ own
  pub loop_ms : m.loop_ms ≡ span
  pub enough : m.enough ≡ need
  pub hellos : length m.hellos ≡ 32
  pub said : length m.said ≡ 32
  pub differs : length m.differs ≡ 32

pub if_both : {A : Type 0} (P : A → Type 0) (b : Bool) (x y : A) → P x → P y → P (if b then x else y)
if_both P true x y one other = one
if_both P false x y one other = other

-- a Hello is taken in
abbrev pub greeted : ℕ → ℕ → Said → Maker → Maker
greeted tick from said m =
    record m {
      hellos = set m.hellos from (Some tick);
      said = set m.said from (Some (said_in m said));
      forgotten = remembered_nodes m from;
    }

-- an announced view that counts is taken in
abbrev pub told : ℕ → View → Maker → Maker
told from view m =
    record m {
      hellos = if is_member view.members from then m.hellos else set m.hellos from None;
      announced = set m.announced from (Some view);
      greatest = max m.greatest (without_name view.id);
    }

module _ (nodes : List NodeEntry) (me loop_ms need : ℕ) where
  kept_hellos : (b : Bool) (m : Maker) (from : ℕ) → Kept nodes me loop_ms need m → length (if b then m.hellos else set m.hellos from None) ≡ 32
  kept_hellos true m from kept = kept.hellos
  kept_hellos false m from kept = length-set m.hellos from None ∙ kept.hellos

  kept_look : (tick : ℕ) (found : Option View) (m : Maker) → Kept nodes me loop_ms need m → Kept nodes me loop_ms need (installed found (looked tick m))
  kept_look tick None m kept =
      record { nodes = kept.nodes; me = kept.me; loop_ms = kept.loop_ms; enough = kept.enough; hellos = kept.hellos; said = kept.said; differs = length-with_ranks _ 32 m.differs ∙ kept.differs }
  kept_look tick (Some view) m kept =
      record { nodes = kept.nodes; me = kept.me; loop_ms = kept.loop_ms; enough = kept.enough; hellos = kept.hellos; said = kept.said; differs = length-with_ranks _ 32 _ ∙ (length-with_ranks _ 32 m.differs ∙ kept.differs) }

  kept_hello : (tick from : ℕ) (said : Said) (m : Maker) → Kept nodes me loop_ms need m → Kept nodes me loop_ms need (after_hello tick from said m)
  kept_hello tick from said m kept =
      if_both (Kept nodes me loop_ms need) (is_configured m from) (greeted tick from said m) m
      (record { nodes = kept.nodes; me = kept.me; loop_ms = kept.loop_ms; enough = kept.enough; hellos = length-set m.hellos from (Some tick) ∙ kept.hellos; said = length-set m.said from (Some (said_in m said)) ∙ kept.said; differs = kept.differs }) kept

  kept_call : (made : MakerCall) (m : Maker) → Kept nodes me loop_ms need m → Kept nodes me loop_ms need (after_call made m)
  unfolding after_tick
  kept_call (Hello tick from said) m kept = kept_hello tick from said m kept
  kept_call (PlainHello tick from) m kept =
      if_both (Kept nodes me loop_ms need) (is_configured m from && not (says_more tick m from)) (after_hello tick from plain m) m (kept_hello tick from plain m kept) kept
  kept_call (Announce from view) m kept =
      if_both (Kept nodes me loop_ms need) (is_configured m from && has_configured m.nodes view.members) (told from view m) m
      (record { nodes = kept.nodes; me = kept.me; loop_ms = kept.loop_ms; enough = kept.enough; hellos = kept_hellos (is_member view.members from) m from kept; said = kept.said; differs = kept.differs }) kept
  kept_call (Look tick) m kept = kept_look tick (view_at tick m) m kept
  kept_call (Due tick) m kept =
      if_both (Kept nodes me loop_ms need) (is_hello_due tick m) _ m
      (record { nodes = kept.nodes; me = kept.me; loop_ms = kept.loop_ms; enough = kept.enough; hellos = kept.hellos; said = kept.said; differs = kept.differs }) kept

pub kept_calls : (s : Settings) (me loop_ms : ℕ) (calls : List MakerCall) → Kept s.nodes me loop_ms (enough_of s) (after_calls calls (first_maker s me loop_ms))
unfolding after_calls
kept_calls s me loop_ms [] =
    record { nodes = refl; me = refl; loop_ms = refl; enough = refl; hellos = length-replicate {A = Option ℕ} 32 None; said = length-replicate {A = Option Said} 32 None; differs = length-replicate {A = Option ℕ} 32 None }
kept_calls s me loop_ms (made ∷ earlier) =
    kept_call s.nodes me loop_ms (enough_of s) made (after_calls earlier (first_maker s me loop_ms)) (kept_calls s me loop_ms earlier)

-- ## Calls that are no look

-- what each call but a look leaves as it is
pub record Still (before after : Maker) : Type 0 where
  pub view : after.view ≡ before.view
  pub first_look : after.first_look ≡ before.first_look
  pub change : after.change ≡ before.change
  pub differs : after.differs ≡ before.differs
  pub seen : after.seen ≡ before.seen
  pub says : after.says ≡ before.says

still_if : (b : Bool) (m other : Maker) → Still m other → Still m (if b then other else m)
still_if true m other still = still
still_if false m other still = record { view = refl; first_look = refl; change = refl; differs = refl; seen = refl; says = refl }

pub still_hello : (tick from : ℕ) (said : Said) (m : Maker) → Still m (after_hello tick from said m)
still_hello tick from said m =
    still_if (is_configured m from) m (greeted tick from said m) (record { view = refl; first_look = refl; change = refl; differs = refl; seen = refl; says = refl })

pub still_plain : (tick from : ℕ) (m : Maker) → Still m (after_plain_hello tick from m)
still_plain tick from m =
    still_if (is_configured m from && not (says_more tick m from)) m (after_hello tick from plain m) (still_hello tick from plain m)

pub still_announce : (from : ℕ) (view : View) (m : Maker) → Still m (after_announce from view m)
still_announce from view m =
    still_if (is_configured m from && has_configured m.nodes view.members) m (told from view m) (record { view = refl; first_look = refl; change = refl; differs = refl; seen = refl; says = refl })

pub still_due : (tick : ℕ) (m : Maker) → Still m (after_hello_due tick m)
still_due tick m = still_if (is_hello_due tick m) m _ (record { view = refl; first_look = refl; change = refl; differs = refl; seen = refl; says = refl })

-- ## Who was heard

set_at : {A : Type 0} (xs : List (Option A)) (from rank : ℕ) (x : Option A) → (from == rank) ≡ true → from < length xs
    → get_or (set xs from x) rank None ≡ x
set_at xs from rank x is within =
    let same : from ≡ rank = (Decides-eqb from rank).0 is in
    subst (λ r. get_or (set xs from x) r None ≡ x) same (get_or-set_same xs from x None within)

set_beside : {A : Type 0} (xs : List (Option A)) (from rank : ℕ) (x : Option A) → (from == rank) ≡ false
    → get_or (set xs from x) rank None ≡ get_or xs rank None
set_beside xs from rank x is =
    let other : rank ≢ from = λ same. absurd (false≢true (sym is ∙ eq-eqb from rank (sym same))) in
    get_or-set_other xs from rank x None other

-- a view maker knows this of a rank
record Knows (rank : ℕ) (m : Maker) (heard : Heard) : Type 0 where
  tick : of_rank m.hellos rank ≡ heard.tick
  said : of_rank m.said rank ≡ heard.said

module _ (s : Settings) (me loop_ms rank : ℕ) (configured : rank < length s.nodes) (few : length s.nodes ≤ 32) where
  abbrev KeptHere : Maker → Type 0
  KeptHere m = Kept s.nodes me loop_ms (enough_of s) m

  -- a Hello of a rank that is not configured is none of this rank
  other_rank : (m : Maker) (from : ℕ) → KeptHere m → is_configured m from ≡ false → (from == rank) ≡ false
  other_rank m from kept out =
      let past : nat_lt from (length s.nodes) ≡ false = ap (λ (n : List NodeEntry). nat_lt from (length n)) (sym kept.nodes) ∙ out in
      grind (arith, nat_tests)

  within_room : (m : Maker) (from size : ℕ) → KeptHere m → is_configured m from ≡ true → size ≡ 32 → from < size
  within_room m from size kept is room =
      let below : nat_lt from (length s.nodes) ≡ true = ap (λ (n : List NodeEntry). nat_lt from (length n)) (sym kept.nodes) ∙ is in
      let under : from < length s.nodes = grind (arith, nat_tests) in
      omega (arith, few, under, room)

  greeted_here : (m : Maker) (tick from : ℕ) (said : Said) (heard : Heard) (same : Bool) → (from == rank) ≡ same → is_configured m from ≡ true → KeptHere m → Knows rank m heard
      → Knows rank (greeted tick from said m) (if same then record { tick = Some tick; said = Some (counted s said) } else heard)
  greeted_here m tick from said heard true same is kept knows =
      record {
        tick = set_at m.hellos from rank (Some tick) same (within_room m from (length m.hellos) kept is kept.hellos);
        said =
            set_at m.said from rank (Some (said_in m said)) same (within_room m from (length m.said) kept is kept.said)
            ∙ ap (λ n. Some (if n == 0 then plain else said)) kept.enough;
      }
  greeted_here m tick from said heard false other is kept knows =
      record {
        tick = set_beside m.hellos from rank (Some tick) other ∙ knows.tick;
        said = set_beside m.said from rank (Some (said_in m said)) other ∙ knows.said;
      }

  hello_here : (m : Maker) (tick from : ℕ) (said : Said) (heard : Heard) (b : Bool) → is_configured m from ≡ b → KeptHere m → Knows rank m heard
      → Knows rank (if b then greeted tick from said m else m) (if from == rank then record { tick = Some tick; said = Some (counted s said) } else heard)
  hello_here m tick from said heard true is kept knows = greeted_here m tick from said heard (from == rank) refl is kept knows
  hello_here m tick from said heard false is kept knows =
      subst (λ b. Knows rank m (if b then record { tick = Some tick; said = Some (counted s said) } else heard)) (sym (other_rank m from kept is)) knows

  -- this rank is configured
  is_here : (m : Maker) (from : ℕ) → KeptHere m → (from == rank) ≡ true → is_configured m from ≡ true
  is_here m from kept is =
      let same : from ≡ rank = (Decides-eqb from rank).0 is in
      let under : nat_lt from (length s.nodes) ≡ true = lt-ltb from (length s.nodes) (omega arith) in
      ap (λ (n : List NodeEntry). nat_lt from (length n)) kept.nodes ∙ under

  more_here : (m : Maker) (tick from : ℕ) (heard : Heard) → KeptHere m → Knows rank m heard → (from == rank) ≡ true → says_more tick m from ≡ is_beside loop_ms tick heard
  more_here m tick from heard kept knows is =
      let same : from ≡ rank = (Decides-eqb from rank).0 is in
      ap (λ r. says_more tick m r) same
      ∙ (ap (λ (o : Option ℕ). is_within m.loop_ms tick o && option_map_or (λ said. not (is_plain said)) (of_rank m.said rank) false) knows.tick
      ∙ (ap (λ l. is_within l tick heard.tick && option_map_or (λ said. not (is_plain said)) (of_rank m.said rank) false) kept.loop_ms
      ∙ ap (λ (o : Option Said). is_within loop_ms tick heard.tick && option_map_or (λ said. not (is_plain said)) o false) knows.said))

  plain_counted : (b : Bool) → (if b then plain else plain) ≡ plain
  plain_counted true = refl
  plain_counted false = refl

  plain_of_it : (m : Maker) (tick from : ℕ) (heard : Heard) (known beside : Bool) → (from == rank) ≡ true → is_configured m from ≡ known → KeptHere m → Knows rank m heard
      → Knows rank (if known && not beside then after_hello tick from plain m else m) (if not beside then record { tick = Some tick; said = Some plain } else heard)
  plain_of_it m tick from heard true true same is kept knows = knows
  plain_of_it m tick from heard true false same is kept knows =
      subst (λ (b : Bool). Knows rank (if b then greeted tick from plain m else m) (record { tick = Some tick; said = Some plain })) (sym is)
      (subst (λ (said : Said). Knows rank (greeted tick from plain m) (record { tick = Some tick; said = Some said })) (plain_counted (enough_of s == 0))
      (greeted_here m tick from plain heard true same is kept knows))
  plain_of_it m tick from heard false beside same is kept knows = absurd (false≢true (sym is ∙ is_here m from kept same))

  plain_here : (m : Maker) (tick from : ℕ) (heard : Heard) (here : Bool) → (from == rank) ≡ here → KeptHere m → Knows rank m heard
      → Knows rank (after_plain_hello tick from m) (if here && not (is_beside loop_ms tick heard) then record { tick = Some tick; said = Some plain } else heard)
  plain_here m tick from heard true same kept knows =
      subst (λ (b : Bool). Knows rank (if is_configured m from && not b then after_hello tick from plain m else m) (if not (is_beside loop_ms tick heard) then record { tick = Some tick; said = Some plain } else heard))
      (sym (more_here m tick from heard kept knows same))
      (plain_of_it m tick from heard (is_configured m from) (is_beside loop_ms tick heard) same refl kept knows)
  plain_here m tick from heard false other kept knows =
      if_both (λ (after : Maker). Knows rank after heard) (is_configured m from && not (says_more tick m from)) (after_hello tick from plain m) m
      (if_both (λ (after : Maker). Knows rank after heard) (is_configured m from) (greeted tick from plain m) m
      (record {
        tick = set_beside m.hellos from rank (Some tick) other ∙ knows.tick;
        said = set_beside m.said from rank (Some (said_in m plain)) other ∙ knows.said;
      }) knows) knows

  told_here : (m : Maker) (from : ℕ) (view : View) (heard : Heard) (here has : Bool) → (from == rank) ≡ here → is_configured m from ≡ true → KeptHere m → Knows rank m heard
      → (of_rank (if has then m.hellos else set m.hellos from None) rank ≡ (if here && not has then record { tick = None; said = heard.said } else heard).tick)
      × (of_rank m.said rank ≡ (if here && not has then record { tick = None; said = heard.said } else heard).said)
  told_here m from view heard true true same is kept knows = (knows.tick, knows.said)
  told_here m from view heard true false same is kept knows = (set_at m.hellos from rank None same (within_room m from (length m.hellos) kept is kept.hellos), knows.said)
  told_here m from view heard false true other is kept knows = (knows.tick, knows.said)
  told_here m from view heard false false other is kept knows = (set_beside m.hellos from rank None other ∙ knows.tick, knows.said)

  and_false : (b : Bool) → (b && false) ≡ false
  and_false true = refl
  and_false false = refl

  announce_here : (m : Maker) (from : ℕ) (view : View) (heard : Heard) (known fits : Bool) → is_configured m from ≡ known → KeptHere m → Knows rank m heard
      → Knows rank (if known && fits then told from view m else m) (if from == rank && (fits && not (is_member view.members from)) then record { tick = None; said = heard.said } else heard)
  announce_here m from view heard true true is kept knows =
      let both = told_here m from view heard (from == rank) (is_member view.members from) refl is kept knows in
      record { tick = both.0; said = both.1 }
  announce_here m from view heard true false is kept knows =
      subst (λ b. Knows rank m (if b then record { tick = None; said = heard.said } else heard)) (sym (and_false (from == rank))) knows
  announce_here m from view heard false fits is kept knows =
      subst (λ b. Knows rank m (if b && (fits && not (is_member view.members from)) then record { tick = None; said = heard.said } else heard)) (sym (other_rank m from kept is)) knows

  look_here : (tick : ℕ) (found : Option View) (m : Maker) (heard : Heard) → Knows rank m heard → Knows rank (installed found (looked tick m)) heard
  look_here tick None m heard knows = record { tick = knows.tick; said = knows.said }
  look_here tick (Some view) m heard knows = record { tick = knows.tick; said = knows.said }

  knows_calls : (calls : List MakerCall) → Knows rank (after_calls calls (first_maker s me loop_ms)) (heard_in s loop_ms rank calls)
  unfolding after_calls after_tick
  knows_calls [] = record { tick = get_or-replicate 32 rank None None (omega (arith, configured, few)); said = get_or-replicate 32 rank None None (omega (arith, configured, few)) }
  knows_calls (Hello tick from said ∷ earlier) =
      let m = after_calls earlier (first_maker s me loop_ms) in
      hello_here m tick from said (heard_in s loop_ms rank earlier) (is_configured m from) refl (kept_calls s me loop_ms earlier) (knows_calls earlier)
  knows_calls (PlainHello tick from ∷ earlier) =
      let m = after_calls earlier (first_maker s me loop_ms) in
      plain_here m tick from (heard_in s loop_ms rank earlier) (from == rank) refl (kept_calls s me loop_ms earlier) (knows_calls earlier)
  knows_calls (Announce from view ∷ earlier) =
      let m = after_calls earlier (first_maker s me loop_ms) in
      let kept = kept_calls s me loop_ms earlier in
      subst (λ (n : List NodeEntry). Knows rank (after_announce from view m) (if from == rank && is_farewell n from view then record { tick = None; said = (heard_in s loop_ms rank earlier).said } else heard_in s loop_ms rank earlier)) kept.nodes
      (announce_here m from view (heard_in s loop_ms rank earlier) (is_configured m from) (has_configured m.nodes view.members) refl kept (knows_calls earlier))
  knows_calls (Look tick ∷ earlier) =
      let m = after_calls earlier (first_maker s me loop_ms) in
      look_here tick (view_at tick m) m (heard_in s loop_ms rank earlier) (knows_calls earlier)
  knows_calls (Due tick ∷ earlier) =
      let m = after_calls earlier (first_maker s me loop_ms) in
      let knows = knows_calls earlier in
      if_both (λ (after : Maker). Knows rank after (heard_in s loop_ms rank earlier)) (is_hello_due tick m) _ m (record { tick = knows.tick; said = knows.said }) knows

-- what the last Hello of a configured rank says
pub said_by_calls : (run : MakerRun) (rank : ℕ) → rank < length run.settings.nodes → length run.settings.nodes ≤ 32
    → of_rank (maker_of run).said rank ≡ last_said run rank
said_by_calls run rank configured few = (knows_calls run.settings run.me run.loop_ms rank configured few run.calls).said

-- who is heard, by the calls
pub heard_by_calls : (run : MakerRun) (tick rank : ℕ) → length run.settings.nodes ≤ 32
    → is_member (heard_nodes tick (maker_of run)) rank ≡ was_heard run tick rank
heard_by_calls run tick rank few =
    member_of-ranks_that (is_heard tick (maker_of run)) (length (maker_of run).nodes) rank
    ∙ (ap (λ (n : List NodeEntry). nat_lt rank (length n) && is_heard tick (maker_of run) rank) kept.nodes
    ∙ by_order (nat_lt rank (length run.settings.nodes)) refl)
  where
    kept : Kept run.settings.nodes run.me run.loop_ms (enough_of run.settings) (maker_of run)
    kept = kept_calls run.settings run.me run.loop_ms run.calls

    by_order : (b : Bool) → nat_lt rank (length run.settings.nodes) ≡ b
        → (b && is_heard tick (maker_of run) rank) ≡ (b && (rank == run.me || is_within run.loop_ms tick (last_hello run rank)))
    by_order false is = refl
    by_order true is =
        let m = maker_of run in
        let configured : rank < length run.settings.nodes = grind (arith, nat_tests) in
        let knows = knows_calls run.settings run.me run.loop_ms rank configured few run.calls in
        ap (λ (o : Option ℕ). rank == m.me || is_within m.loop_ms tick o) knows.tick
        ∙ (ap (λ (l : ℕ). rank == m.me || is_within l tick (last_hello run rank)) kept.loop_ms
        ∙ ap (λ (i : ℕ). rank == i || is_within run.loop_ms tick (last_hello run rank)) kept.me)

-- who is seen, by the calls
pub seen_by_calls : (run : MakerRun) (tick rank : ℕ) → length run.settings.nodes ≤ 32
    → is_member (visible_nodes tick (maker_of run)) rank ≡ is_seen run tick rank
seen_by_calls run tick rank few =
    member_of-ranks_that (is_visible tick (maker_of run)) (length (maker_of run).nodes) rank
    ∙ (ap (λ (n : List NodeEntry). nat_lt rank (length n) && is_visible tick (maker_of run) rank) kept.nodes
    ∙ by_order (nat_lt rank (length run.settings.nodes)) refl)
  where
    kept : Kept run.settings.nodes run.me run.loop_ms (enough_of run.settings) (maker_of run)
    kept = kept_calls run.settings run.me run.loop_ms run.calls

    -- one that is not the node itself
    one_or : (own within named : Bool) → (own || (own || within) && named) ≡ (own || within && named)
    one_or true within named = refl
    one_or false within named = refl

    by_order : (b : Bool) → nat_lt rank (length run.settings.nodes) ≡ b
        → (b && is_visible tick (maker_of run) rank)
        ≡ (b && (rank == run.me || is_within run.loop_ms tick (last_hello run rank) && option_map_or (λ said. is_member said.hears run.me) (last_said run rank) false))
    by_order false is = refl
    by_order true is =
        let m = maker_of run in
        let configured : rank < length run.settings.nodes = grind (arith, nat_tests) in
        let knows = knows_calls run.settings run.me run.loop_ms rank configured few run.calls in
        one_or (rank == m.me) (is_within m.loop_ms tick (of_rank m.hellos rank)) (names m rank)
        ∙ (ap (λ (o : Option ℕ). rank == m.me || is_within m.loop_ms tick o && names m rank) knows.tick
        ∙ (ap (λ (o : Option Said). rank == m.me || is_within m.loop_ms tick (last_hello run rank) && option_map_or (λ said. is_member said.hears m.me) o false) knows.said
        ∙ (ap (λ (l : ℕ). rank == m.me || is_within l tick (last_hello run rank) && option_map_or (λ said. is_member said.hears m.me) (last_said run rank) false) kept.loop_ms
        ∙ ap (λ (i : ℕ). rank == i || is_within run.loop_ms tick (last_hello run rank) && option_map_or (λ said. is_member said.hears i) (last_said run rank) false) kept.me)))
