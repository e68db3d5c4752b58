-- A view maker whose looks find one leader knows since when, and that this announced a view since.
use Rattle.std.proofs.Common.{◌≡◌, ℕ, ◌+◌, ◌*◌, ◌^◌, ◌≤◌, Bool, true, false, not, ◌&&◌, ◌||◌, ◌==◌, Option, None, Some, IfSome, if◌then◌else◌, refl, sym, ◌∙◌, ap, arith}
use Rattle.std.specs.Prelude.{is_some, nat_le}
use Rattle.std.specs.Option.{option_map_or, option_or}
use Rattle.std.proofs.lemmas.Bool.{and_from, eq-eqb, eqb-true, false≢true, le-leb, or_left, or_right}
use Rattle.qn_base.specs.declared.ids.Mask.{Mask}
use Rattle.qn_base.specs.declared.ids.Said.{Said}
use Rattle.qn_base.specs.declared.ids.View.{View}
use Rattle.qn_base.specs.Members.{is_member}
use Rattle.qn_model.specs.declared.packets.Packet.{Packet}
use Rattle.qn_model.specs.declared.packets.Packet.TheVariants as packet
use Rattle.qn_model.specs.Wanted.{rank_of}
use Rattle.qn_member.specs.declared.lead.Lead.{Lead}
use Rattle.qn_member.specs.Maker.{Maker, first_loops, has_configured, is_configured, is_first_due, leader_at, led_by, looked, outside_nodes, plain, says_more}
use Rattle.qn_member.specs.Naming.{NamingMaker, after_named_announce, after_named_hello, has_bit, is_other, is_own, knows_bit}
use Rattle.qn_member.specs.NamingViews.{after_by_name, after_found, after_look, after_naming_hello_due, after_plain_look, is_led_by, is_naming_hello_due, is_proven, lead_since, leading, looked_by_name, may_begin, seeing_names}
use Rattle.qn_live.specs.declared.words.Own.{Own}
use Rattle.qn_live.specs.Choosing.{heard, told}
use Rattle.qn_service.specs.Leading.{company_then, leader_then}
use Rattle.qn_service.proofs.Made.{if_is, looked_notes, noted_then}
use Rattle.qn_service.proofs.OwnPast.{IsPast, due_own, found_first, told_own}
use Rattle.qn_service.proofs.Ranks.{comes_in, stays_in}
use Rattle.qn_service.proofs.Keeping.{Keeping}

-- each look from one at a tick at the latest found this leader
pub record IsLedSince (leader limit : ℕ) (m : NamingMaker) : Type 0 where
  pub lead : Lead
  pub is : m.lead ≡ Some lead
  pub rank : lead.rank.0 ≡ leader
  pub since : lead.since ≤ limit
  pub first : ℕ
  pub looked : m.maker.first_look ≡ Some first
  pub early : first ≤ limit

abbrev pub HasCome : ℕ → NamingMaker → Type 0
HasCome leader m = is_member m.came leader ≡ true

pub led_kept : (leader limit : ℕ) (before after : NamingMaker) → after.lead ≡ before.lead → after.maker.first_look ≡ before.maker.first_look → IsLedSince leader limit before
    → IsLedSince leader limit after
led_kept leader limit before after lead first led =
    record { lead = led.lead; is = lead ∙ led.is; rank = led.rank; since = led.since; first = led.first; looked = first ∙ led.looked; early = led.early }

pub led_later : (leader limit more : ℕ) (m : NamingMaker) → limit ≤ more → IsLedSince leader limit m → IsLedSince leader more m
led_later leader limit more m order led =
    let since = led.since in let early = led.early in
    record { lead = led.lead; is = led.is; rank = led.rank; since = omega (arith, order, since); first = led.first; looked = led.looked; early = omega (arith, order, early) }

-- ## A look

module _ (tick leader : ℕ) (m : NamingMaker) (knows : is_own m knows_bit ≡ true) (leads : leader_then tick m ≡ Some leader) where
  led_is : led_by (noted_then tick m) ≡ Some leader
  led_is = ap led_by (sym (looked_notes tick m)) ∙ sym (if_is true (is_own m knows_bit) (led_by (looked_by_name tick m).maker) (leader_at (looked tick m.maker)) knows) ∙ leads

  -- who leads then
  looked_lead : (looked_by_name tick m).lead ≡ (if is_led_by m (Some leader) then m.lead else lead_since tick (Some leader))
  looked_lead = ap (λ o. (leading tick o (record (seeing_names tick m) { maker = noted_then tick m })).lead) led_is ∙ by_test (is_led_by m (Some leader))
    where
      by_test : (b : Bool) → (if b
          then record (seeing_names tick m) { maker = noted_then tick m }
          else record (record (seeing_names tick m) { maker = noted_then tick m }) { lead = lead_since tick (Some leader); came = record { 0 = 0 } }).lead
          ≡ (if b then m.lead else lead_since tick (Some leader))
      by_test true = refl
      by_test false = refl

  looked_came : is_led_by m (Some leader) ≡ true → (looked_by_name tick m).came ≡ m.came
  looked_came same = ap (λ o. (leading tick o (record (seeing_names tick m) { maker = noted_then tick m })).came) led_is ∙ by_test (is_led_by m (Some leader)) same
    where
      by_test : (b : Bool) → b ≡ true → (if b
          then record (seeing_names tick m) { maker = noted_then tick m }
          else record (record (seeing_names tick m) { maker = noted_then tick m }) { lead = lead_since tick (Some leader); came = record { 0 = 0 } }).came ≡ m.came
      by_test true is = refl
      by_test false is = absurd (false≢true is)

  looked_first : (looked_by_name tick m).maker.first_look ≡ option_or m.maker.first_look (Some tick)
  looked_first = ap (λ (k : Maker). k.first_look) (looked_notes tick m)

  leads_since : (limit : ℕ) → IsLedSince leader limit m → is_led_by m (Some leader) ≡ true
  leads_since limit led = ap (λ (o : Option Lead). option_map_or (λ (lead : Lead). lead.rank.0 == leader) o false) led.is ∙ eq-eqb led.lead.rank.0 leader led.rank

  -- where it was so before, it is so at the look
  pub looked_led : (limit : ℕ) → IsLedSince leader limit m → IsLedSince leader limit (looked_by_name tick m)
  looked_led limit led =
      led_kept leader limit m (looked_by_name tick m)
      (looked_lead ∙ ap (λ b. if b then m.lead else lead_since tick (Some leader)) (leads_since limit led))
      (looked_first ∙ ap (λ (o : Option ℕ). option_or o (Some tick)) led.looked ∙ sym led.looked) led

  pub looked_come : (limit : ℕ) → IsLedSince leader limit m → HasCome leader m → HasCome leader (looked_by_name tick m)
  looked_come limit led come = ap (λ (set : Mask). is_member set leader) (looked_came (leads_since limit led)) ∙ come

  -- and from the first such look on
  first_led : IsPast tick m → IsLedSince leader tick (looked_by_name tick m)
  first_led past = by_lead m.lead refl past.lead m.maker.first_look refl past.first
    where
      by_first : (lead : Lead) → (looked_by_name tick m).lead ≡ Some lead → lead.rank.0 ≡ leader → lead.since ≤ tick → (o : Option ℕ) → m.maker.first_look ≡ o → IfSome o (λ at. at ≤ tick)
          → IsLedSince leader tick (looked_by_name tick m)
      by_first lead is rank since None none early =
          record { lead = lead; is = is; rank = rank; since = since; first = tick; looked = looked_first ∙ ap (λ (o : Option ℕ). option_or o (Some tick)) none; early = omega arith }
      by_first lead is rank since (Some at) some early =
          record { lead = lead; is = is; rank = rank; since = since; first = at; looked = looked_first ∙ ap (λ (o : Option ℕ). option_or o (Some tick)) some; early = early }

      anew : is_led_by m (Some leader) ≡ false → (first : Option ℕ) → m.maker.first_look ≡ first → IfSome first (λ at. at ≤ tick) → IsLedSince leader tick (looked_by_name tick m)
      anew other first is early =
          by_first (record { rank = record { 0 = leader }; since = tick }) (looked_lead ∙ ap (λ b. if b then m.lead else lead_since tick (Some leader)) other) refl (omega arith) first is early

      by_rank : (lead : Lead) → m.lead ≡ Some lead → lead.since ≤ tick → (b : Bool) → (lead.rank.0 == leader) ≡ b → (first : Option ℕ) → m.maker.first_look ≡ first
          → IfSome first (λ at. at ≤ tick) → IsLedSince leader tick (looked_by_name tick m)
      by_rank lead some since true same first is early =
          by_first lead
          (looked_lead ∙ ap (λ b. if b then m.lead else lead_since tick (Some leader))
          (ap (λ (o : Option Lead). option_map_or (λ (l : Lead). l.rank.0 == leader) o false) some ∙ same) ∙ some)
          (eqb-true lead.rank.0 leader same) since first is early
      by_rank lead some since false other first is early = anew (ap (λ (o : Option Lead). option_map_or (λ (l : Lead). l.rank.0 == leader) o false) some ∙ other) first is early

      by_lead : (o : Option Lead) → m.lead ≡ o → IfSome o (λ lead. lead.since ≤ tick) → (first : Option ℕ) → m.maker.first_look ≡ first → IfSome first (λ at. at ≤ tick)
          → IsLedSince leader tick (looked_by_name tick m)
      by_lead None none past' first is early = anew (ap (λ (o : Option Lead). option_map_or (λ (l : Lead). l.rank.0 == leader) o false) none) first is early
      by_lead (Some lead) some since first is early = by_rank lead some since (lead.rank.0 == leader) refl first is early

  -- what it leaves
  after_lead : (after_look tick m).lead ≡ (looked_by_name tick m).lead
  unfolding after_look after_found
  after_lead = ap (λ (n : NamingMaker). n.lead) (if_is true (is_own m knows_bit) (after_by_name tick m) (after_plain_look tick m) knows)

  after_came : (after_look tick m).came ≡ (looked_by_name tick m).came
  unfolding after_look after_found
  after_came = ap (λ (n : NamingMaker). n.came) (if_is true (is_own m knows_bit) (after_by_name tick m) (after_plain_look tick m) knows)

  after_first : (after_look tick m).maker.first_look ≡ (looked_by_name tick m).maker.first_look
  unfolding after_look
  after_first = found_first tick m ∙ sym looked_first

  pub look_led : (limit : ℕ) → IsLedSince leader limit m → IsLedSince leader limit (after_look tick m)
  look_led limit led = led_kept leader limit (looked_by_name tick m) (after_look tick m) after_lead after_first (looked_led limit led)

  pub look_come : (limit : ℕ) → IsLedSince leader limit m → HasCome leader m → HasCome leader (after_look tick m)
  look_come limit led come = ap (λ (set : Mask). is_member set leader) after_came ∙ looked_come limit led come

  pub look_first_led : IsPast tick m → IsLedSince leader tick (after_look tick m)
  look_first_led past = led_kept leader tick (looked_by_name tick m) (after_look tick m) after_lead after_first (first_led past)

  -- so long after the first of them the leader is proven, and a view may begin
  pub proven : (limit : ℕ) → IsLedSince leader limit m → HasCome leader m → limit + m.maker.loop_ms ≤ tick → is_proven tick (looked_by_name tick m) ≡ true
  proven limit led come late =
      ap (λ (o : Option Lead). option_map_or (λ (lead : Lead). nat_le (lead.since + (looked_by_name tick m).maker.loop_ms) tick && is_member (looked_by_name tick m).came lead.rank.0) o false) then.is
      ∙ and_from (nat_le (then.lead.since + (looked_by_name tick m).maker.loop_ms) tick) (is_member (looked_by_name tick m).came then.lead.rank.0)
      (le-leb (then.lead.since + (looked_by_name tick m).maker.loop_ms) tick (let since = then.since in let loop = loops in omega (arith, since, loop, late)))
      (ap (is_member (looked_by_name tick m).came) then.rank ∙ looked_come limit led come)
    where
      then : IsLedSince leader limit (looked_by_name tick m)
      then = looked_led limit led

      loops : (looked_by_name tick m).maker.loop_ms ≡ m.maker.loop_ms
      loops = ap (λ (k : Maker). k.loop_ms) (looked_notes tick m)

  pub begins : (limit : ℕ) → IsLedSince leader limit m → limit + 4 * m.maker.loop_ms ≤ tick → may_begin tick (looked_by_name tick m) (company_then tick m) ≡ true
  begins limit led late =
      or_left (is_some (looked_by_name tick m).maker.view || is_first_due tick (looked_by_name tick m).maker (company_then tick m)) _
      (or_right (is_some (looked_by_name tick m).maker.view) (is_first_due tick (looked_by_name tick m).maker (company_then tick m))
      (ap (λ (o : Option ℕ). option_map_or (λ first. nat_le (first + first_loops tick (looked_by_name tick m).maker (company_then tick m) * (looked_by_name tick m).maker.loop_ms) tick) o false) then.looked
      ∙ le-leb (then.first + first_loops tick (looked_by_name tick m).maker (company_then tick m) * (looked_by_name tick m).maker.loop_ms) tick
      (by_outside ((outside_nodes tick (looked_by_name tick m).maker (company_then tick m)).0 == 0))))
    where
      then : IsLedSince leader limit (looked_by_name tick m)
      then = looked_led limit led

      loops : (looked_by_name tick m).maker.loop_ms ≡ m.maker.loop_ms
      loops = ap (λ (k : Maker). k.loop_ms) (looked_notes tick m)

      by_outside : (b : Bool) → then.first + (if b then 3 else 4) * (looked_by_name tick m).maker.loop_ms ≤ tick
      by_outside true = let early = then.early in let loop = loops in omega (arith, early, loop, late)
      by_outside false = let early = then.early in let loop = loops in omega (arith, early, loop, late)

-- ## What comes

module _ (leader : ℕ) where
  if_come : (b : Bool) (one other : NamingMaker) → HasCome leader one → HasCome leader other → HasCome leader (if b then one else other)
  if_come true one other first second = first
  if_come false one other first second = second

  hello_come : (tick from : ℕ) (said : Said) (m : NamingMaker) → HasCome leader m → HasCome leader (after_named_hello tick from said m)
  hello_come tick from said m come = if_come (is_other m from) _ _ come come

  heard_come : (tick : ℕ) (p : Option Packet) (m : NamingMaker) → HasCome leader m → HasCome leader (heard tick p m)
  heard_come tick None m come = come
  heard_come tick (Some (packet.Hello from)) m come =
      if_come (is_configured m.maker from.0 && not (says_more tick m.maker from.0)) _ m (hello_come tick from.0 plain m come) come
  heard_come tick (Some (packet.Heard from said standing)) m come =
      if_come (is_other (after_named_hello tick from.0 said m) from.0 && has_bit standing.flags knows_bit) _ (after_named_hello tick from.0 said m)
      (hello_come tick from.0 said m come) (hello_come tick from.0 said m come)
  heard_come tick (Some (packet.Announce from view)) m come =
      if_come (is_configured m.maker from.0 && has_configured m.maker.nodes view.members) _ _ (stays_in m.came.0 (2 ^ from.0) leader come) come
  heard_come tick (Some (packet.Ask ask)) m come = come
  heard_come tick (Some (packet.Tell tell)) m come = come
  heard_come tick (Some (packet.Vote agrees)) m come = come

  pub told_come : (tick : ℕ) (own : Own) (p : Option Packet) (m : NamingMaker) → HasCome leader m → HasCome leader (told tick own p m)
  told_come tick own p m come =
      let there = heard_come tick p m come in
      if_come (is_configured (heard tick p m).maker (heard tick p m).maker.me) _ (heard tick p m) there there

  pub due_come : (tick : ℕ) (m : NamingMaker) → HasCome leader m → HasCome leader (after_naming_hello_due tick m)
  due_come tick m come = if_come (is_naming_hello_due tick m) _ m come come

  -- an announcement of the leader that counts has come
  pub comes_now : (tick : ℕ) (own : Own) (view : View) (m : NamingMaker) → is_configured m.maker leader ≡ true → has_configured m.maker.nodes view.members ≡ true
      → HasCome leader (told tick own (Some (packet.Announce (rank_of leader) view)) m)
  comes_now tick own view m configured members =
      if_come (is_configured (heard tick (Some (packet.Announce (rank_of leader) view)) m).maker (heard tick (Some (packet.Announce (rank_of leader) view)) m).maker.me) _
      (heard tick (Some (packet.Announce (rank_of leader) view)) m) here here
    where
      by_true : (b : Bool) (one other : NamingMaker) → b ≡ true → HasCome leader one → HasCome leader (if b then one else other)
      by_true true one other is come = come
      by_true false one other is come = absurd (false≢true is)

      here : HasCome leader (after_named_announce leader view m)
      here =
          by_true (is_configured m.maker leader && has_configured m.maker.nodes view.members) _ _
          (and_from (is_configured m.maker leader) (has_configured m.maker.nodes view.members) configured members) (comes_in m.came.0 leader)

-- ## From call to call

-- a look finds this leader, and knows names
pub record FindsIt (leader tick : ℕ) (m : NamingMaker) : Type 0 where
  pub knows : is_own m knows_bit ≡ true
  pub leads : leader_then tick m ≡ Some leader

pub told_led : (leader limit tick : ℕ) (own : Own) (p : Option Packet) (m : NamingMaker) → IsLedSince leader limit m → IsLedSince leader limit (told tick own p m)
told_led leader limit tick own p m led = let kept = told_own tick own p m in led_kept leader limit m (told tick own p m) kept.lead kept.first led

pub due_led : (leader limit tick : ℕ) (m : NamingMaker) → IsLedSince leader limit m → IsLedSince leader limit (after_naming_hello_due tick m)
due_led leader limit tick m led = let kept = due_own tick m in led_kept leader limit m (after_naming_hello_due tick m) kept.lead kept.first led

abbrev pub led_keeping : ℕ → ℕ → Keeping
led_keeping leader limit =
    record {
      holds = IsLedSince leader limit;
      hears = λ p. Unit {0};
      looks = FindsIt leader;
      due = due_led leader limit;
      look = λ tick own p m hears finds led. look_led tick leader (told tick own p m) finds.knows finds.leads limit (told_led leader limit tick own p m led);
    }

abbrev pub come_keeping : ℕ → ℕ → Keeping
come_keeping leader limit =
    record {
      holds = λ m. IsLedSince leader limit m × HasCome leader m;
      hears = λ p. Unit {0};
      looks = FindsIt leader;
      due = λ tick m has. (due_led leader limit tick m has.0, due_come leader tick m has.1);
      look = λ tick own p m hears finds has. (
        look_led tick leader (told tick own p m) finds.knows finds.leads limit (told_led leader limit tick own p m has.0),
        look_come tick leader (told tick own p m) finds.knows finds.leads limit (told_led leader limit tick own p m has.0) (told_come leader tick own p m has.1),
      );
    }
