-- A joined run in which a node that is alone has one view of its own for longer than a take-over takes.
use Rattle.std.proofs.Common.{◌≡◌, ◌<◌, ℕ, suc, zero, true, false, List, [], ◌∷◌, ◌==◌, refl, sym, ◌∙◌, ap, subst, arith}
use Rattle.std.proofs.lemmas.Bool.{false≢true, leb-true}
use Rattle.std.proofs.lemmas.Nat.Bits.{bit_at-suc, bit_at-zero}
use Rattle.qn_base.specs.declared.calls.Call.TheVariants as call
use Rattle.qn_base.specs.declared.calls.Received.TheVariants as received
use Rattle.qn_base.specs.declared.ids.View.{View}
use Rattle.qn_base.specs.Members.{is_member}
use Rattle.qn_model.specs.declared.disk.Message.TheVariants as message
use Rattle.qn_model.specs.Holding.{stop_due}
use Rattle.qn_model.specs.lemmas.TwoNodes.{one_node}
use Rattle.qn_model.specs.Moments.{Before, Itself, Later}
use Rattle.qn_model.specs.Sectors.{anonymous, mail_bytes, mail_place}
use Rattle.qn_safety.specs.Earlier.{before_length, before_same}
use Rattle.qn_progress.specs.Majority.{IsMajority}
use Rattle.qn_progress.specs.Pace.{Pace, total}
use Rattle.qn_progress.specs.Quiet.{DelaysOver}
use Rattle.qn_joined.specs.Joints.{Feeds, Happening, Lands, Passes, Returns}
use Rattle.qn_service.specs.Serving.{HasView, HaveOneView, IsPaced, MayServe, MembersAreMet, clock_at}
use Rattle.qn_service.specs.Unheard.{log_after}
use Rattle.qn_service.proofs.WellRows.{MayBe, below_one, fresh_image, image_fits, image_is_new, quick_ticks, row_steps, starts_may, starts_then}

abbrev pub alone : View
alone = record { id = 72057594037927937; members = record { 0 = 1 } }

abbrev pub slow_pace : Pace
slow_pace = record { disk = 0; turn = 800 }

-- what is so at each joint between
pub data EachAfter (P : List Happening → Type 0) (older : List Happening) : List Happening → Type 0 where
  Here : P older → EachAfter P older older
  Next : (newest : Happening) {newer : List Happening} → EachAfter P older newer → P (newest ∷ newer) → EachAfter P older (newest ∷ newer)

pub each_after : (P : List Happening → Type 0) {older newer : List Happening} → EachAfter P older newer → (mid : List Happening) → Before older mid → Before mid newer → P mid
each_after P (Here is) mid since back = subst P (before_same since (before_length back)) is
each_after P (Next newest before is) mid since Itself = is
each_after P (Next newest before is) mid since (Later same back) = each_after P before mid since back

-- the node is well at a joint
pub record IsWell (h : List Happening) : Type 0 where
  pub has : HasView one_node fresh_image alone 0 h
  pub paced : IsPaced one_node fresh_image slow_pace 1 0 h

abbrev pub then_0 : List Happening
then_0 = Returns 0 (call.Start true) ∷ starts_then

abbrev pub then_1 : List Happening
then_1 = Passes 800 [] ∷ then_0

abbrev pub then_2 : List Happening
then_2 = Returns 0 (call.Receive received.Nothing) ∷ then_1

abbrev pub then_3 : List Happening
then_3 = Returns 0 (call.Now 800) ∷ then_2

abbrev pub then_4 : List Happening
then_4 = Lands 0 ∷ then_3

abbrev pub then_5 : List Happening
then_5 = Returns 0 (call.Read (mail_place 0) (mail_bytes (anonymous message.Empty)) true) ∷ then_4

abbrev pub then_6 : List Happening
then_6 = Returns 0 (call.Now 800) ∷ then_5

abbrev pub then_7 : List Happening
then_7 = Returns 0 (call.Feed true) ∷ then_6

abbrev pub then_8 : List Happening
then_8 = Feeds 0 ∷ then_7

abbrev pub then_9 : List Happening
then_9 = Passes 800 [] ∷ then_8

abbrev pub then_10 : List Happening
then_10 = Returns 0 (call.Receive received.Nothing) ∷ then_9

abbrev pub then_11 : List Happening
then_11 = Returns 0 (call.Now 1600) ∷ then_10

abbrev pub then_12 : List Happening
then_12 = Lands 0 ∷ then_11

abbrev pub then_13 : List Happening
then_13 = Returns 0 (call.Read (mail_place 0) (mail_bytes (anonymous message.Empty)) true) ∷ then_12

abbrev pub then_14 : List Happening
then_14 = Returns 0 (call.Now 1600) ∷ then_13

abbrev pub then_15 : List Happening
then_15 = Returns 0 (call.Feed true) ∷ then_14

abbrev pub then_16 : List Happening
then_16 = Feeds 0 ∷ then_15

abbrev pub then_17 : List Happening
then_17 = Passes 800 [] ∷ then_16

abbrev pub then_18 : List Happening
then_18 = Returns 0 (call.Receive received.Nothing) ∷ then_17

abbrev pub then_19 : List Happening
then_19 = Returns 0 (call.Now 2400) ∷ then_18

abbrev pub then_20 : List Happening
then_20 = Lands 0 ∷ then_19

abbrev pub then_21 : List Happening
then_21 = Returns 0 (call.Read (mail_place 0) (mail_bytes (anonymous message.Empty)) true) ∷ then_20

abbrev pub then_22 : List Happening
then_22 = Returns 0 (call.Now 2400) ∷ then_21

abbrev pub then_23 : List Happening
then_23 = Returns 0 (call.Feed true) ∷ then_22

abbrev pub then_24 : List Happening
then_24 = Feeds 0 ∷ then_23

abbrev pub then_25 : List Happening
then_25 = Passes 800 [] ∷ then_24

abbrev pub then_26 : List Happening
then_26 = Returns 0 (call.Receive received.Nothing) ∷ then_25

abbrev pub then_27 : List Happening
then_27 = Returns 0 (call.Now 3200) ∷ then_26

abbrev pub then_28 : List Happening
then_28 = Lands 0 ∷ then_27

abbrev pub then_29 : List Happening
then_29 = Returns 0 (call.Read (mail_place 0) (mail_bytes (anonymous message.Empty)) true) ∷ then_28

abbrev pub then_30 : List Happening
then_30 = Returns 0 (call.Now 3200) ∷ then_29

abbrev pub then_31 : List Happening
then_31 = Returns 0 (call.Feed true) ∷ then_30

abbrev pub then_32 : List Happening
then_32 = Feeds 0 ∷ then_31

infixr 5 ◌▸◌
◌▸◌ : {A B : Type 0} → A → B → A × B
newest ▸ earlier = (newest, earlier)

may_0 : MayBe then_0
unfolding row_steps
may_0 = record { on = refl; asked = refl; waits = refl; answer = tt; spells = refl } ▸ starts_may

may_8 : MayBe then_8
unfolding row_steps
may_8 =
    (refl, refl) ▸
    record { on = refl; asked = refl; waits = refl; answer = tt; spells = refl } ▸
    record { on = refl; asked = refl; waits = refl; answer = refl; spells = refl } ▸
    record { on = refl; asked = refl; waits = refl; answer = λ ok. refl; spells = refl } ▸
    (refl, refl, refl) ▸
    record { on = refl; asked = refl; waits = refl; answer = refl; spells = refl } ▸
    record { on = refl; asked = refl; waits = refl; answer = tt; spells = refl } ▸
    (below_one _ refl, refl) ▸
    may_0

may_16 : MayBe then_16
unfolding row_steps
may_16 =
    (refl, refl) ▸
    record { on = refl; asked = refl; waits = refl; answer = tt; spells = refl } ▸
    record { on = refl; asked = refl; waits = refl; answer = refl; spells = refl } ▸
    record { on = refl; asked = refl; waits = refl; answer = λ ok. refl; spells = refl } ▸
    (refl, refl, refl) ▸
    record { on = refl; asked = refl; waits = refl; answer = refl; spells = refl } ▸
    record { on = refl; asked = refl; waits = refl; answer = tt; spells = refl } ▸
    (below_one _ refl, refl) ▸
    may_8

may_24 : MayBe then_24
unfolding row_steps
may_24 =
    (refl, refl) ▸
    record { on = refl; asked = refl; waits = refl; answer = tt; spells = refl } ▸
    record { on = refl; asked = refl; waits = refl; answer = refl; spells = refl } ▸
    record { on = refl; asked = refl; waits = refl; answer = λ ok. refl; spells = refl } ▸
    (refl, refl, refl) ▸
    record { on = refl; asked = refl; waits = refl; answer = refl; spells = refl } ▸
    record { on = refl; asked = refl; waits = refl; answer = tt; spells = refl } ▸
    (below_one _ refl, refl) ▸
    may_16

pub may_32 : MayBe then_32
unfolding row_steps
may_32 =
    (refl, refl) ▸
    record { on = refl; asked = refl; waits = refl; answer = tt; spells = refl } ▸
    record { on = refl; asked = refl; waits = refl; answer = refl; spells = refl } ▸
    record { on = refl; asked = refl; waits = refl; answer = λ ok. refl; spells = refl } ▸
    (refl, refl, refl) ▸
    record { on = refl; asked = refl; waits = refl; answer = refl; spells = refl } ▸
    record { on = refl; asked = refl; waits = refl; answer = tt; spells = refl } ▸
    (below_one _ refl, refl) ▸
    may_24

well_start : IsWell starts_then
unfolding row_steps
well_start =
    record {
      has = record { on = refl; up = refl; sees = refl };
      paced = record { installs = refl; gentle = refl; turns = leb-true _ _ refl; answers = λ out. leb-true _ _ refl };
    }

well_0 : IsWell then_0
unfolding row_steps
well_0 =
    record {
      has = record { on = refl; up = refl; sees = refl };
      paced = record { installs = refl; gentle = refl; turns = leb-true _ _ refl; answers = λ out. leb-true _ _ refl };
    }

well_1 : IsWell then_1
unfolding row_steps
well_1 =
    record {
      has = record { on = refl; up = refl; sees = refl };
      paced = record { installs = refl; gentle = refl; turns = leb-true _ _ refl; answers = λ out. absurd (out refl) };
    }

well_2 : IsWell then_2
unfolding row_steps
well_2 =
    record {
      has = record { on = refl; up = refl; sees = refl };
      paced = record { installs = refl; gentle = refl; turns = leb-true _ _ refl; answers = λ out. absurd (out refl) };
    }

well_3 : IsWell then_3
unfolding row_steps
well_3 =
    record {
      has = record { on = refl; up = refl; sees = refl };
      paced = record { installs = refl; gentle = refl; turns = leb-true _ _ refl; answers = λ out. leb-true _ _ refl };
    }

well_4 : IsWell then_4
unfolding row_steps
well_4 =
    record {
      has = record { on = refl; up = refl; sees = refl };
      paced = record { installs = refl; gentle = refl; turns = leb-true _ _ refl; answers = λ out. leb-true _ _ refl };
    }

well_5 : IsWell then_5
unfolding row_steps
well_5 =
    record {
      has = record { on = refl; up = refl; sees = refl };
      paced = record { installs = refl; gentle = refl; turns = leb-true _ _ refl; answers = λ out. leb-true _ _ refl };
    }

well_6 : IsWell then_6
unfolding row_steps
well_6 =
    record {
      has = record { on = refl; up = refl; sees = refl };
      paced = record { installs = refl; gentle = refl; turns = leb-true _ _ refl; answers = λ out. leb-true _ _ refl };
    }

well_7 : IsWell then_7
unfolding row_steps
well_7 =
    record {
      has = record { on = refl; up = refl; sees = refl };
      paced = record { installs = refl; gentle = refl; turns = leb-true _ _ refl; answers = λ out. leb-true _ _ refl };
    }

well_8 : IsWell then_8
unfolding row_steps
well_8 =
    record {
      has = record { on = refl; up = refl; sees = refl };
      paced = record { installs = refl; gentle = refl; turns = leb-true _ _ refl; answers = λ out. leb-true _ _ refl };
    }

well_9 : IsWell then_9
unfolding row_steps
well_9 =
    record {
      has = record { on = refl; up = refl; sees = refl };
      paced = record { installs = refl; gentle = refl; turns = leb-true _ _ refl; answers = λ out. absurd (out refl) };
    }

well_10 : IsWell then_10
unfolding row_steps
well_10 =
    record {
      has = record { on = refl; up = refl; sees = refl };
      paced = record { installs = refl; gentle = refl; turns = leb-true _ _ refl; answers = λ out. absurd (out refl) };
    }

well_11 : IsWell then_11
unfolding row_steps
well_11 =
    record {
      has = record { on = refl; up = refl; sees = refl };
      paced = record { installs = refl; gentle = refl; turns = leb-true _ _ refl; answers = λ out. leb-true _ _ refl };
    }

well_12 : IsWell then_12
unfolding row_steps
well_12 =
    record {
      has = record { on = refl; up = refl; sees = refl };
      paced = record { installs = refl; gentle = refl; turns = leb-true _ _ refl; answers = λ out. leb-true _ _ refl };
    }

well_13 : IsWell then_13
unfolding row_steps
well_13 =
    record {
      has = record { on = refl; up = refl; sees = refl };
      paced = record { installs = refl; gentle = refl; turns = leb-true _ _ refl; answers = λ out. leb-true _ _ refl };
    }

well_14 : IsWell then_14
unfolding row_steps
well_14 =
    record {
      has = record { on = refl; up = refl; sees = refl };
      paced = record { installs = refl; gentle = refl; turns = leb-true _ _ refl; answers = λ out. leb-true _ _ refl };
    }

well_15 : IsWell then_15
unfolding row_steps
well_15 =
    record {
      has = record { on = refl; up = refl; sees = refl };
      paced = record { installs = refl; gentle = refl; turns = leb-true _ _ refl; answers = λ out. leb-true _ _ refl };
    }

well_16 : IsWell then_16
unfolding row_steps
well_16 =
    record {
      has = record { on = refl; up = refl; sees = refl };
      paced = record { installs = refl; gentle = refl; turns = leb-true _ _ refl; answers = λ out. leb-true _ _ refl };
    }

well_17 : IsWell then_17
unfolding row_steps
well_17 =
    record {
      has = record { on = refl; up = refl; sees = refl };
      paced = record { installs = refl; gentle = refl; turns = leb-true _ _ refl; answers = λ out. absurd (out refl) };
    }

well_18 : IsWell then_18
unfolding row_steps
well_18 =
    record {
      has = record { on = refl; up = refl; sees = refl };
      paced = record { installs = refl; gentle = refl; turns = leb-true _ _ refl; answers = λ out. absurd (out refl) };
    }

well_19 : IsWell then_19
unfolding row_steps
well_19 =
    record {
      has = record { on = refl; up = refl; sees = refl };
      paced = record { installs = refl; gentle = refl; turns = leb-true _ _ refl; answers = λ out. leb-true _ _ refl };
    }

well_20 : IsWell then_20
unfolding row_steps
well_20 =
    record {
      has = record { on = refl; up = refl; sees = refl };
      paced = record { installs = refl; gentle = refl; turns = leb-true _ _ refl; answers = λ out. leb-true _ _ refl };
    }

well_21 : IsWell then_21
unfolding row_steps
well_21 =
    record {
      has = record { on = refl; up = refl; sees = refl };
      paced = record { installs = refl; gentle = refl; turns = leb-true _ _ refl; answers = λ out. leb-true _ _ refl };
    }

well_22 : IsWell then_22
unfolding row_steps
well_22 =
    record {
      has = record { on = refl; up = refl; sees = refl };
      paced = record { installs = refl; gentle = refl; turns = leb-true _ _ refl; answers = λ out. leb-true _ _ refl };
    }

well_23 : IsWell then_23
unfolding row_steps
well_23 =
    record {
      has = record { on = refl; up = refl; sees = refl };
      paced = record { installs = refl; gentle = refl; turns = leb-true _ _ refl; answers = λ out. leb-true _ _ refl };
    }

well_24 : IsWell then_24
unfolding row_steps
well_24 =
    record {
      has = record { on = refl; up = refl; sees = refl };
      paced = record { installs = refl; gentle = refl; turns = leb-true _ _ refl; answers = λ out. leb-true _ _ refl };
    }

well_25 : IsWell then_25
unfolding row_steps
well_25 =
    record {
      has = record { on = refl; up = refl; sees = refl };
      paced = record { installs = refl; gentle = refl; turns = leb-true _ _ refl; answers = λ out. absurd (out refl) };
    }

well_26 : IsWell then_26
unfolding row_steps
well_26 =
    record {
      has = record { on = refl; up = refl; sees = refl };
      paced = record { installs = refl; gentle = refl; turns = leb-true _ _ refl; answers = λ out. absurd (out refl) };
    }

well_27 : IsWell then_27
unfolding row_steps
well_27 =
    record {
      has = record { on = refl; up = refl; sees = refl };
      paced = record { installs = refl; gentle = refl; turns = leb-true _ _ refl; answers = λ out. leb-true _ _ refl };
    }

well_28 : IsWell then_28
unfolding row_steps
well_28 =
    record {
      has = record { on = refl; up = refl; sees = refl };
      paced = record { installs = refl; gentle = refl; turns = leb-true _ _ refl; answers = λ out. leb-true _ _ refl };
    }

well_29 : IsWell then_29
unfolding row_steps
well_29 =
    record {
      has = record { on = refl; up = refl; sees = refl };
      paced = record { installs = refl; gentle = refl; turns = leb-true _ _ refl; answers = λ out. leb-true _ _ refl };
    }

well_30 : IsWell then_30
unfolding row_steps
well_30 =
    record {
      has = record { on = refl; up = refl; sees = refl };
      paced = record { installs = refl; gentle = refl; turns = leb-true _ _ refl; answers = λ out. leb-true _ _ refl };
    }

well_31 : IsWell then_31
unfolding row_steps
well_31 =
    record {
      has = record { on = refl; up = refl; sees = refl };
      paced = record { installs = refl; gentle = refl; turns = leb-true _ _ refl; answers = λ out. leb-true _ _ refl };
    }

well_32 : IsWell then_32
unfolding row_steps
well_32 =
    record {
      has = record { on = refl; up = refl; sees = refl };
      paced = record { installs = refl; gentle = refl; turns = leb-true _ _ refl; answers = λ out. leb-true _ _ refl };
    }

all_well : EachAfter IsWell starts_then then_32
all_well =
    Next _ (Next _ (Next _ (Next _ (Next _ (Next _ (Next _ (Next _ (Next _ (Next _ (Next _ (Next _ (Next _ (Next _ (Next _ (Next _ (Next _ (Next _ (Next _ (Next _ (Next _ (Next _ (Next _ (Next _ (Next _ (Next _ (Next _ (Next _ (Next _ (Next _ (Next _ (Next _ (Next _ (Here well_start) well_0) well_1) well_2) well_3) well_4) well_5) well_6) well_7) well_8) well_9) well_10) well_11) well_12) well_13) well_14) well_15) well_16) well_17) well_18) well_19) well_20) well_21) well_22) well_23) well_24) well_25) well_26) well_27) well_28) well_29) well_30) well_31) well_32

-- it is the one member
pub only_member : (rank : ℕ) → is_member (record { 0 = 1 }) rank ≡ true → rank ≡ 0
only_member zero member = refl
only_member (suc rank) member = absurd (false≢true (sym (ap (λ bit. bit == 1) (bit_at-suc 1 rank ∙ bit_at-zero rank)) ∙ member))

majority : IsMajority one_node (record { 0 = 1 })
majority =
    record {
      configured = λ rank member. subst (λ r. r < 1) (sym (only_member rank member)) (omega arith);
      votes = leb-true _ _ refl;
      device = refl;
      two_node = refl;
      wait_for_all = refl;
      last_man = refl;
    }

pub well_at : (mid : List Happening) → Before starts_then mid → Before mid then_32 → IsWell mid
well_at mid since back = each_after IsWell all_well mid since back

calm_there : stop_due (log_after one_node fresh_image starts_then 0) ≡ false
unfolding row_steps
calm_there = refl

over_there : DelaysOver one_node (clock_at one_node fresh_image starts_then 0) (log_after one_node fresh_image starts_then 0)
unfolding row_steps
over_there = below_one _ (λ outside. absurd (false≢true (sym outside)))

pub may_serve : MayServe one_node quick_ticks fresh_image slow_pace 0 0 alone starts_then then_32
unfolding row_steps
may_serve =
    record {
      majority = majority;
      fast = leb-true _ _ refl;
      member = refl;
      chosen = refl;
      paced = λ mid since back. (well_at mid since back).paced;
      over = over_there;
      claims = (1, refl);
      asked = (0, refl);
      calm = λ other member. subst (λ r. stop_due (log_after one_node fresh_image starts_then r) ≡ false) (sym (only_member other member)) calm_there;
      kept = λ other member apart. absurd (apart (only_member other member));
      asks_come = λ other member apart. absurd (apart (only_member other member));
      tells_come = λ other member apart. absurd (apart (only_member other member));
    }

have_view : HaveOneView one_node quick_ticks fresh_image slow_pace 0 0 alone starts_then then_32
have_view =
    record {
      members = λ other member mid since back. subst (λ r. HasView one_node fresh_image alone r mid) (sym (only_member other member)) (well_at mid since back).has;
      serves = may_serve;
    }

-- what happens after it started
abbrev pub goes_on : List Happening
goes_on =
    Feeds 0
    ∷ Returns 0 (call.Feed true)
    ∷ Returns 0 (call.Now 3200)
    ∷ Returns 0 (call.Read (mail_place 0) (mail_bytes (anonymous message.Empty)) true)
    ∷ Lands 0
    ∷ Returns 0 (call.Now 3200)
    ∷ Returns 0 (call.Receive received.Nothing)
    ∷ Passes 800 []
    ∷ Feeds 0
    ∷ Returns 0 (call.Feed true)
    ∷ Returns 0 (call.Now 2400)
    ∷ Returns 0 (call.Read (mail_place 0) (mail_bytes (anonymous message.Empty)) true)
    ∷ Lands 0
    ∷ Returns 0 (call.Now 2400)
    ∷ Returns 0 (call.Receive received.Nothing)
    ∷ Passes 800 []
    ∷ Feeds 0
    ∷ Returns 0 (call.Feed true)
    ∷ Returns 0 (call.Now 1600)
    ∷ Returns 0 (call.Read (mail_place 0) (mail_bytes (anonymous message.Empty)) true)
    ∷ Lands 0
    ∷ Returns 0 (call.Now 1600)
    ∷ Returns 0 (call.Receive received.Nothing)
    ∷ Passes 800 []
    ∷ Feeds 0
    ∷ Returns 0 (call.Feed true)
    ∷ Returns 0 (call.Now 800)
    ∷ Returns 0 (call.Read (mail_place 0) (mail_bytes (anonymous message.Empty)) true)
    ∷ Lands 0
    ∷ Returns 0 (call.Now 800)
    ∷ Returns 0 (call.Receive received.Nothing)
    ∷ Passes 800 []
    ∷ Returns 0 (call.Start true)
    ∷ []

pub members_are_met : MembersAreMet
unfolding row_steps total
members_are_met =
    record {
      settings = one_node;
      timing = quick_ticks;
      image = fresh_image;
      pace = slow_pace;
      post = 0;
      rank = 0;
      present = alone;
      newer = goes_on;
      older = starts_then;
      safe = refl;
      joined = record { fits = image_fits; created = image_is_new; may = may_32 };
      have = have_view;
      late = leb-true _ _ refl;
    }
