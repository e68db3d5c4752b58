-- What a view maker of a running node knows: the view that it has, and each that was announced to it by a member, was made by a look.
use Rattle.std.proofs.Common.{◌≡◌, ◌⊎◌, inl, inr, ℕ, suc, zero, ◌+◌, ◌*◌, ◌/◌, ◌%◌, ◌^◌, Bool, true, false, not, ◌&&◌, ◌==◌, List, [], ◌∷◌, ◌++◌, replicate, Option, None, Some, if◌then◌else◌, refl, sym, ◌∙◌, ap, subst, arith, eq-eqb}
use Rattle.std.specs.Prelude.{option_and_then, option_map, slice_set}
use Rattle.std.proofs.lemmas.Bool.{true≢false}
use Rattle.std.proofs.lemmas.Nat.{div-mul-add}
use Rattle.std.proofs.lemmas.Option.{none-some, same_Some}
use Rattle.qn_base.specs.declared.ids.Mask.{Mask}
use Rattle.qn_base.specs.declared.ids.Said.{Said}
use Rattle.qn_base.specs.declared.ids.Standing.{Standing}
use Rattle.qn_base.specs.declared.ids.View.{View}
use Rattle.qn_base.specs.Candidates.{is_barred}
use Rattle.qn_base.specs.Members.{is_member}
use Rattle.qn_model.specs.declared.configuration.Settings.{Settings}
use Rattle.qn_model.specs.declared.packets.Packet.{Packet}
use Rattle.qn_model.specs.declared.packets.Packet.TheVariants as packet
use Rattle.qn_model.specs.declared.packets.Sent.{Sent}
use Rattle.qn_member.specs.Announcing.{is_announced_by, view_to_announce}
use Rattle.qn_member.specs.Maker.{Maker, after_announce, after_hello, after_tick, first_maker, has_configured, installed_beside, is_configured, looked, of_rank, plain, says_more, view_at}
use Rattle.qn_member.specs.Naming.{NamingMaker, after_named_announce, after_named_hello, after_stand, after_standing, has_bit, is_other, is_own, knows_bit}
use Rattle.qn_member.specs.NamingViews.{after_by_name, after_found, after_look, after_naming_hello_due, after_plain_look, answer_at, company_now, copy_of, handed, is_closed_to, is_naming_hello_due, leads_itself, looked_by_name, seeing_names, view_announced, view_by_name, view_found}
use Rattle.qn_member.specs.Maker as maker
use Rattle.qn_live.specs.declared.words.Own.{Own}
use Rattle.qn_live.specs.Choosing.{heard, told}
use Rattle.qn_live.specs.Greetings.{announcements, greeting_packet, hello_of, hellos_where, maker_begun, maker_where, others_from, said_after, to_each}
use Rattle.qn_model.specs.Wanted.{rank_of}
use Rattle.qn_service.specs.Looks.{IfAnnounced}
use Rattle.qn_service.proofs.Made.{filtered, if_is, leading_keeps, looked_notes, noted_then}

-- ## By rank

pub nothing_known : {A : Type 0} (count rank : ℕ) (a : A) → of_rank (replicate count None) rank ≡ Some a → ⊥
nothing_known zero rank a is = none-some a is
nothing_known (suc count) zero a is = none-some a is
nothing_known (suc count) (suc rank) a is = nothing_known count rank a is

pub newly_known : {A : Type 0} (items : List (Option A)) (i j : ℕ) (a b : A) → of_rank (slice_set items i (Some a)) j ≡ Some b
    → ((j ≡ i) × (a ≡ b)) ⊎ (of_rank items j ≡ Some b)
newly_known [] i j a b is = inr is
newly_known (x ∷ items) zero zero a b is = inl (refl, same_Some a b is)
newly_known (x ∷ items) zero (suc j) a b is = inr is
newly_known (x ∷ items) (suc i) zero a b is = inr is
newly_known (x ∷ items) (suc i) (suc j) a b is = behind (newly_known items i j a b is)
  where
    behind : ((j ≡ i) × (a ≡ b)) ⊎ (of_rank items j ≡ Some b) → ((suc j ≡ suc i) × (a ≡ b)) ⊎ (of_rank items j ≡ Some b)
    behind (inl (same, value)) = inl (ap suc same, value)
    behind (inr old) = inr old

-- ## What is known

-- a view maker of a rank, of whose views this holds
pub record Knows (s : Settings) (me : ℕ) (Q : View → Type 0) (k : Maker) : Type 0 where
  pub nodes : k.nodes ≡ s.nodes
  pub own : k.me ≡ me
  pub present : (v : View) → k.view ≡ Some v → Q v
  pub announced : (rank : ℕ) (v : View) → of_rank k.announced rank ≡ Some v → is_member v.members rank ≡ true → Q v

-- an announcement of a view with its sender is one of which this holds
abbrev pub Word : (View → Type 0) → Option Packet → Type 0
Word Q p = IfAnnounced (λ from v. Q v) p

abbrev pub AllSaid : (View → Type 0) → List Sent → Type 0
AllSaid Q [] = Unit {0}
AllSaid Q (sent ∷ rest) = Word Q (Some sent.packet) × AllSaid Q rest

if_maker : (b : Bool) (one other : NamingMaker) (k : Maker) → one.maker ≡ k → other.maker ≡ k → (if b then one else other).maker ≡ k
if_maker true one other k first second = first
if_maker false one other k first second = second

module _ (s : Settings) (me : ℕ) (Q : View → Type 0) where
  abbrev IsKnown : Maker → Type 0
  IsKnown k = Knows s me Q k

  first_known : (loop_ms : ℕ) → IsKnown (first_maker s me loop_ms)
  first_known loop_ms =
      record { nodes = refl; own = refl; present = λ v is. absurd (none-some v is); announced = λ rank v is member. absurd (nothing_known 32 rank v is) }

  if_known : (b : Bool) (one other : NamingMaker) → IsKnown one.maker → IsKnown other.maker → IsKnown (if b then one else other).maker
  if_known true one other first second = first
  if_known false one other first second = second

  pub stand_known : (standing : Standing) (holds : Bool) (m : NamingMaker) → IsKnown m.maker → IsKnown (after_stand standing holds m).maker
  stand_known standing holds m known = subst IsKnown (sym (if_maker (is_configured m.maker m.maker.me) _ m m.maker refl refl)) known

  pub begun_known : (loop_ms : ℕ) (own : Own) → IsKnown (maker_begun s me loop_ms own).maker
  begun_known loop_ms own = stand_known own.said own.holds (Rattle.qn_member.specs.Naming.first_naming s me loop_ms) (first_known loop_ms)

  -- ## What comes

  hello_by : (b : Bool) (tick from : ℕ) (said : Said) (k : Maker) → IsKnown k
      → IsKnown (if b then record k { hellos = slice_set k.hellos from (Some tick); said = slice_set k.said from (Some (maker.said_in k said)); forgotten = maker.remembered_nodes k from } else k)
  hello_by true tick from said k known = record { nodes = known.nodes; own = known.own; present = known.present; announced = known.announced }
  hello_by false tick from said k known = known

  hello_known : (tick from : ℕ) (said : Said) (k : Maker) → IsKnown k → IsKnown (after_hello tick from said k)
  hello_known tick from said k known = hello_by (is_configured k from) tick from said k known

  named_hello_known : (tick from : ℕ) (said : Said) (m : NamingMaker) → IsKnown m.maker → IsKnown (after_named_hello tick from said m).maker
  named_hello_known tick from said m known =
      subst IsKnown (sym (if_maker (is_other m from) _ _ (after_hello tick from said m.maker) refl refl)) (hello_known tick from said m.maker known)

  plain_hello_by : (b : Bool) (tick from : ℕ) (m : NamingMaker) → IsKnown m.maker → IsKnown (if b then after_named_hello tick from plain m else m).maker
  plain_hello_by true tick from m known = named_hello_known tick from plain m known
  plain_hello_by false tick from m known = known

  standing_known : (from : ℕ) (standing : Standing) (m : NamingMaker) → IsKnown m.maker → IsKnown (after_standing from standing m).maker
  standing_known from standing m known =
      if_known (is_other m from && has_bit standing.flags knows_bit) _ m
      (record { nodes = known.nodes; own = known.own; present = known.present; announced = known.announced }) known

  announce_by : (b : Bool) (from : ℕ) (view : View) (k : Maker) → IsKnown k → (b ≡ true → is_member view.members from ≡ true → Q view)
      → IsKnown (if b then record k { hellos = maker.hellos_after from view k; announced = slice_set k.announced from (Some view); greatest = Rattle.std.proofs.Common.max k.greatest (Rattle.qn_candidate.specs.Numbers.without_name view.id) } else k)
  announce_by false from view k known word = known
  announce_by true from view k known word =
      record {
        nodes = known.nodes;
        own = known.own;
        present = known.present;
        announced = λ rank v is member. by_place rank v member (newly_known k.announced from rank view v is);
      }
    where
      by_place : (rank : ℕ) (v : View) → is_member v.members rank ≡ true → ((rank ≡ from) × (view ≡ v)) ⊎ (of_rank k.announced rank ≡ Some v) → Q v
      by_place rank v member (inl (place, same)) =
          subst Q same (word refl (subst (λ r. is_member view.members r ≡ true) place (subst (λ (x : View). is_member x.members rank ≡ true) (sym same) member)))
      by_place rank v member (inr old) = known.announced rank v old member

  -- an announcement is passed over where not all its members are configured
  pub announce_known : (from : ℕ) (view : View) (m : NamingMaker) → IsKnown m.maker
      → ((is_configured m.maker from && has_configured m.maker.nodes view.members) ≡ true → is_member view.members from ≡ true → Q view)
      → IsKnown (after_named_announce from view m).maker
  announce_known from view m known word =
      let counts = is_configured m.maker from && has_configured m.maker.nodes view.members in
      subst IsKnown (sym (if_maker counts _ _ (after_announce from view m.maker) refl refl))
      (announce_by counts from view m.maker known word)

  pub heard_known : (tick : ℕ) (p : Option Packet) (m : NamingMaker) → IsKnown m.maker → Word Q p → IsKnown (heard tick p m).maker
  heard_known tick None m known word = known
  heard_known tick (Some (packet.Hello from)) m known word = plain_hello_by (is_configured m.maker from.0 && not (says_more tick m.maker from.0)) tick from.0 m known
  heard_known tick (Some (packet.Heard from said standing)) m known word =
      standing_known from.0 standing (after_named_hello tick from.0 said m) (named_hello_known tick from.0 said m known)
  heard_known tick (Some (packet.Announce from view)) m known word = announce_known from.0 view m known (λ counts. word)
  heard_known tick (Some (packet.Ask ask)) m known word = known
  heard_known tick (Some (packet.Tell tell)) m known word = known
  heard_known tick (Some (packet.Vote agrees)) m known word = known

  pub told_known : (tick : ℕ) (own : Own) (p : Option Packet) (m : NamingMaker) → IsKnown m.maker → Word Q p → IsKnown (told tick own p m).maker
  told_known tick own p m known word = stand_known own.said own.holds (heard tick p m) (heard_known tick p m known word)

  -- ## A look

  installed_known : (company : Mask) (found : Option View) (k : Maker) → IsKnown k → ((v : View) → found ≡ Some v → Q v) → IsKnown (installed_beside company found k)
  installed_known company None k known made = known
  installed_known company (Some view) k known made =
      record { nodes = known.nodes; own = known.own; present = λ v is. made v is; announced = known.announced }

  same_known : (k n : Maker) → IsKnown k → n.nodes ≡ k.nodes → n.me ≡ k.me → n.view ≡ k.view → n.announced ≡ k.announced → IsKnown n
  same_known k n known nodes own present announced =
      record {
        nodes = nodes ∙ known.nodes;
        own = own ∙ known.own;
        present = λ v is. known.present v (sym present ∙ is);
        announced = λ rank v is member. known.announced rank v (sym (ap (λ items. of_rank items rank) announced) ∙ is) member;
      }

-- what a look leaves
pub look_known : (s : Settings) (me : ℕ) (Q : View → Type 0) (tick : ℕ) (m : NamingMaker) → Knows s me Q m.maker → ((v : View) → view_found tick m ≡ Some v → Q v)
    → Knows s me Q (after_found tick m).maker
unfolding view_found after_found after_tick
look_known s me Q tick m known made = by_own (is_own m knows_bit) refl
  where
    by_own : (b : Bool) → is_own m knows_bit ≡ b → Knows s me Q (after_found tick m).maker
    by_own true own =
        subst (λ (k : NamingMaker). Knows s me Q k.maker) (sym (if_is true (is_own m knows_bit) (after_by_name tick m) (after_plain_look tick m) own))
        (installed_known s me Q (company_now (seeing_names tick m)) (view_by_name tick m) (looked_by_name tick m).maker
        (subst (Knows s me Q) (sym (looked_notes tick m)) (same_known s me Q m.maker (noted_then tick m) known refl refl refl refl))
        (λ v is. made v (if_is true (is_own m knows_bit) _ _ own ∙ is)))
    by_own false own =
        subst (λ (k : NamingMaker). Knows s me Q k.maker) (sym (if_is false (is_own m knows_bit) (after_by_name tick m) (after_plain_look tick m) own))
        (subst (Knows s me Q) (sym (leading_keeps tick (maker.led_by (after_tick tick m.maker)) (record m { maker = after_tick tick m.maker }) (after_tick tick m.maker) refl))
        (installed_known s me Q (maker.company_at (looked tick m.maker)) (view_at tick m.maker) (looked tick m.maker)
        (same_known s me Q m.maker (looked tick m.maker) known refl refl refl refl)
        (λ v is. made v (if_is false (is_own m knows_bit) _ _ own ∙ is))))

pub after_known : (s : Settings) (me : ℕ) (Q : View → Type 0) (tick : ℕ) (m : NamingMaker) → Knows s me Q (after_found tick m).maker → Knows s me Q (after_look tick m).maker
unfolding after_look
after_known s me Q tick m known = known

-- a copy that bars nobody is the view
closed_bars : (id : ℕ) → ((254 * 2 ^ 56 + id % 2 ^ 56) / 2 ^ 56 == 254) ≡ true
closed_bars id = eq-eqb _ 254 (div-mul-add 254 (2 ^ 56) (id % 2 ^ 56) (omega arith))

copy_by : (Q : View → Type 0) (b : Bool) (view : View) → Q view
    → is_barred (if b then record view { id = 254 * 2 ^ 56 + view.id % 2 ^ 56 } else view) ≡ false
    → Q (if b then record view { id = 254 * 2 ^ 56 + view.id % 2 ^ 56 } else view)
copy_by Q true view made free = absurd (true≢false (sym (closed_bars view.id) ∙ free))
copy_by Q false view made free = made

copy_made : (Q : View → Type 0) (m : NamingMaker) (view v : View) → Q view → Some (copy_of m view) ≡ Some v → is_barred v ≡ false → Q v
copy_made Q m view v made is free =
    let same = same_Some (copy_of m view) v is in
    subst Q same (copy_by Q (is_closed_to m view) view made (subst (λ x. is_barred x ≡ false) (sym same) free))

again_made : (Q : View → Type 0) (m : NamingMaker) (present : Option View) (v : View) (test : View → Bool) → ((w : View) → present ≡ Some w → Q w)
    → option_and_then (λ view. if test view then Some (copy_of m view) else None) present ≡ Some v → is_barred v ≡ false → Q v
again_made Q m None v test made is free = absurd (none-some v is)
again_made Q m (Some view) v test made is free = by_test (test view) is
  where
    by_test : (b : Bool) → (if b then Some (copy_of m view) else None) ≡ Some v → Q v
    by_test true is = copy_made Q m view v (made view refl) is free
    by_test false is = absurd (none-some v is)

handed_made : (Q : View → Type 0) (m : NamingMaker) (found : Option View) (v : View) → ((w : View) → found ≡ Some w → Q w) → ((w : View) → m.maker.view ≡ Some w → Q w)
    → handed found m ≡ Some v → is_barred v ≡ false → Q v
handed_made Q m (Some view) v made present is free = copy_made Q m view v (made view refl) is free
handed_made Q m None v made present is free = by_own (is_own m knows_bit) is
  where
    by_own : (b : Bool) → (if b then option_and_then (λ view. if maker.is_in_one (is_closed_to m view) m.closed then Some (copy_of m view) else None) m.maker.view else None) ≡ Some v → Q v
    by_own true is = again_made Q m m.maker.view v (λ view. maker.is_in_one (is_closed_to m view) m.closed) present is free
    by_own false is = absurd (none-some v is)

-- the view that a look hands on
pub answer_made : (s : Settings) (me : ℕ) (Q : View → Type 0) (tick : ℕ) (m : NamingMaker) → ((v : View) → view_found tick m ≡ Some v → Q v) → Knows s me Q (after_found tick m).maker
    → (v : View) → answer_at tick m ≡ Some v → is_barred v ≡ false → Q v
unfolding answer_at
answer_made s me Q tick m made known v is free = handed_made Q (after_found tick m) (view_found tick m) v made known.present is free

-- ## What is said

pub due_known : (s : Settings) (me : ℕ) (Q : View → Type 0) (tick : ℕ) (m : NamingMaker) → Knows s me Q m.maker → Knows s me Q (after_naming_hello_due tick m).maker
due_known s me Q tick m known = by_due (is_naming_hello_due tick m)
  where
    by_due : (b : Bool) → Knows s me Q (if b
        then record m {
          maker = record m.maker {
            last_hello = if Rattle.qn_member.specs.Announcing.is_beat tick m.maker then Some tick else m.maker.last_hello;
            told = Some (record { tick = tick; said = m.maker.says; view = view_announced m });
          };
          told_stands = m.stands;
        }
        else m).maker
    by_due true = record { nodes = known.nodes; own = known.own; present = known.present; announced = known.announced }
    by_due false = known

-- the view maker that a turn leaves
pub asked_known : (s : Settings) (me : ℕ) (Q : View → Type 0) (tick loop_ms : ℕ) (own : Own) (live : Bool) (had : Option NamingMaker)
    → ((m : NamingMaker) → had ≡ Some m → Knows s me Q m.maker)
    → (m : NamingMaker) → option_map (after_naming_hello_due tick) (maker_where live (maker_begun s me loop_ms own) had) ≡ Some m → Knows s me Q m.maker
asked_known s me Q tick loop_ms own false had known m is = absurd (none-some m is)
asked_known s me Q tick loop_ms own true (Some before) known m is =
    subst (λ (k : NamingMaker). Knows s me Q k.maker) (same_Some (after_naming_hello_due tick before) m is) (due_known s me Q tick before (known before refl))
asked_known s me Q tick loop_ms own true None known m is =
    subst (λ (k : NamingMaker). Knows s me Q k.maker) (same_Some (after_naming_hello_due tick (maker_begun s me loop_ms own)) m is)
    (due_known s me Q tick (maker_begun s me loop_ms own) (begun_known s me Q loop_ms own))

each_said : (Q : View → Type 0) (p : Packet) (ranks : List ℕ) → Word Q (Some p) → AllSaid Q (to_each p ranks)
each_said Q p [] word = tt
each_said Q p (rank ∷ ranks) word = (word, each_said Q p ranks word)

joined_said : (Q : View → Type 0) (front back : List Sent) → AllSaid Q front → AllSaid Q back → AllSaid Q (front ++ back)
joined_said Q [] back first second = second
joined_said Q (sent ∷ front) back (word, first) second = (word, joined_said Q front back first second)

announced_present : (m : NamingMaker) (v : View) → view_announced m ≡ Some v → m.maker.view ≡ Some v
announced_present m v is = by_naming m.naming is
  where
    by_naming : (b : Bool) → (if b then option_and_then (λ view. if leads_itself m && is_member view.members m.maker.me then Some view else None) m.maker.view else view_to_announce m.maker) ≡ Some v
        → m.maker.view ≡ Some v
    by_naming true is = (filtered (λ view. leads_itself m && is_member view.members m.maker.me) m.maker.view v is).0
    by_naming false is = (filtered (is_announced_by m.maker) m.maker.view v is).0

announcement_said : (s : Settings) (me : ℕ) (Q : View → Type 0) (announced : Option View) → ((v : View) → announced ≡ Some v → Q v) → AllSaid Q (announcements s me announced)
announcement_said s me Q None made = tt
announcement_said s me Q (Some view) made = each_said Q (packet.Announce (rank_of me) view) (others_from s me 0) (λ member. made view refl)

pub hellos_said : (s : Settings) (me : ℕ) (Q : View → Type 0) (due : Bool) (had : Option NamingMaker) → ((m : NamingMaker) → had ≡ Some m → Knows s me Q m.maker)
    → AllSaid Q (hellos_where due s me had)
hellos_said s me Q false had known = tt
hellos_said s me Q true None known = tt
hellos_said s me Q true (Some m) known =
    joined_said Q (to_each (greeting_packet me (hello_of m)) (others_from s me 0)) (said_after s me (Some m) (hello_of m))
    (each_said Q (greeting_packet me (hello_of m)) (others_from s me 0) tt)
    (announcement_said s me Q (view_announced m) (λ v is. (known m refl).present v (announced_present m v is)))
