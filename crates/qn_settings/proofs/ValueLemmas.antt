-- The numbers that stand in a text without a bad number.
use Rattle.std.proofs.Common.{◌≡◌, ℕ, ◌+◌, ◌≤◌, cond, ◌||◌, ◌&&◌, Bool, true, false, List, [], ◌∷◌, map, Option, Some, None, refl, sym, ap, subst, ◌∙◌, ⊎_elim, ◌⊎◌, inl, inr, arith, if◌then◌else◌}
use Rattle.std.specs.Prelude.{All, nat_lt, option_and_then, is_none, unwrap_or}
use Rattle.std.specs.List.{position_from}
use Rattle.std.proofs.lemmas.List.Elements.{All-cons}
use borrow.Author.Tests.{ltb-false}
use Rattle.qn_base.specs.Decimal.{number_of}
use Rattle.qn_settings.specs.declared.key.Key.{Key}
use Rattle.qn_settings.specs.declared.key.Key.TheVariants.{FenceDelay, NodeId, QuorumVotes}
use Rattle.qn_settings.specs.declared.entries.Entry.{Entry}
use Rattle.qn_settings.specs.declared.entries.Entry.TheVariants.{NodeBegins, Written}
use Rattle.qn_settings.specs.declared.faults.SettingsFault.TheVariants.{BadNumber}
use Rattle.qn_settings.specs.Keys.{number_in, range_of, within_range}
use Rattle.qn_settings.specs.Nodes.{lacks_id, node_of, own_entries, sections}
use Rattle.qn_settings.specs.Values.{bad_number_in, first_some, last_value, number, or_else, value_in}

in_range_by :
    (below above : Bool) (range : ℕ × ℕ) (m n : ℕ)
    → below ≡ nat_lt m range.0 → above ≡ nat_lt range.1 m
    → (if below || above then None else Some m) ≡ Some n → (range.0 ≤ n) × (n ≤ range.1)
in_range_by true above range m n b a e = cc
in_range_by false true range m n b a e = cc
in_range_by false false range m n b a e =
    let low = ltb-false m range.0 (sym b)
    in let high = ltb-false range.1 m (sym a)
    in let same : m ≡ n = cc
    in (omega arith, omega arith)

in_range : (range : ℕ × ℕ) (m n : ℕ) → within_range range m ≡ Some n → (range.0 ≤ n) × (n ≤ range.1)
in_range range m n e = in_range_by (nat_lt m range.0) (nat_lt range.1 m) range m n refl refl e

then_some :
    {X Y : Type 0} (f : X → Option Y) (o : Option X) (y : Y) → option_and_then f o ≡ Some y → (x : X) × (o ≡ Some x) × (f x ≡ Some y)
then_some f None y e = cc
then_some f (Some x) y e = (x, refl, e)

-- a number of a key is in the range of the key
number_in-range :
    (key : Key) (range : ℕ × ℕ) (text : List ℕ) (n : ℕ)
    → range_of key ≡ Some range → number_in key text ≡ Some n → (range.0 ≤ n) × (n ≤ range.1)
unfolding number_in
number_in-range key range text n is e =
    let ranged = then_some _ (range_of key) n e
    in let spelled = then_some (within_range ranged.0) (number_of text) n ranged.2
    in let same : ranged.0 ≡ range = cc
    in let P : ℕ × ℕ → Type 0 = λ r. (r.0 ≤ n) × (n ≤ r.1)
    in subst P same (in_range ranged.0 spelled.0 n spelled.2)

pub number-range :
    (key : Key) (range : ℕ × ℕ) (entries : List Entry) (n : ℕ)
    → range_of key ≡ Some range → number key entries ≡ Some n → (range.0 ≤ n) × (n ≤ range.1)
number-range key range entries n is e =
    let read = then_some (number_in key) (last_value key entries) n e in number_in-range key range read.0 n is read.2

default_by :
    (o : Option ℕ) (range : ℕ × ℕ) (default : ℕ)
    → range.0 ≤ default → default ≤ range.1
    → ((n : ℕ) → o ≡ Some n → (range.0 ≤ n) × (n ≤ range.1))
    → (range.0 ≤ unwrap_or o default) × (unwrap_or o default ≤ range.1)
default_by None range default low high within = (low, high)
default_by (Some n) range default low high within = within n refl

-- a number with a default in its range is in the range
pub default-range :
    (key : Key) (range : ℕ × ℕ) (entries : List Entry) (default : ℕ)
    → range_of key ≡ Some range → range.0 ≤ default → default ≤ range.1
    → (range.0 ≤ unwrap_or (number key entries) default) × (unwrap_or (number key entries) default ≤ range.1)
default-range key range entries default is low high =
    default_by (number key entries) range default low high (λ n e. number-range key range entries n is e)

-- no entry has a bad number
abbrev pub AreGood : Bool → List Entry → Type 0
AreGood device [] = Unit {0}
AreGood device (entry ∷ entries) = (bad_number_in device entry ≡ None) × AreGood device entries

pub or_none : {X : Type 0} (a b : Option X) → or_else a b ≡ None → (a ≡ None) × (b ≡ None)
or_none None b e = (refl, e)
or_none (Some x) b e = cc

pub good_entries : (device : Bool) (entries : List Entry) → first_some (map (bad_number_in device) entries) ≡ None → AreGood device entries
good_entries device [] e = tt
good_entries device (entry ∷ entries) e =
    let parts = or_none (bad_number_in device entry) _ e in (parts.0, good_entries device entries parts.1)

good_own : (device : Bool) (entries : List Entry) → AreGood device entries → AreGood device (own_entries entries)
good_own device [] good = tt
good_own device (NodeBegins ∷ entries) good = tt
good_own device (Written key value ∷ entries) good = (good.0, good_own device entries good.1)

id_good :
    (device : Bool) (o : Option ℕ)
    → (if (device || true) && (true && is_none o) then Some (BadNumber NodeId) else None) ≡ None
    → (n : ℕ) × (o ≡ Some n)
id_good true None e = cc
id_good false None e = cc
id_good device (Some n) e = (n, refl)

-- the value of a node's id is a number
id_in :
    (device : Bool) (entry : Entry) (value : List ℕ)
    → bad_number_in device entry ≡ None → value_in NodeId entry ≡ Some value
    → (n : ℕ) × (number_in NodeId value ≡ Some n)
id_in device NodeBegins value good is = cc
id_in device (Written NodeId own) value good is =
    let same : own ≡ value = cc
    in let P : List ℕ → Type 0 = λ text. (n : ℕ) × (number_in NodeId text ≡ Some n)
    in subst P same (id_good device (number_in NodeId own) good)
id_in device (Written key own) value good is = cc

or_some : {X : Type 0} (a b : Option X) (x : X) → or_else a b ≡ Some x → (a ≡ Some x) ⊎ (b ≡ Some x)
or_some None b x e = inr e
or_some (Some y) b x e = inl e

id_of :
    (device : Bool) (entries : List Entry) (value : List ℕ)
    → AreGood device entries → last_value NodeId entries ≡ Some value
    → (n : ℕ) × (number_in NodeId value ≡ Some n)
id_of device [] value good is = cc
id_of device (entry ∷ entries) value good is =
    ⊎_elim
    (λ (later : last_value NodeId entries ≡ Some value). id_of device entries value good.1 later)
    (λ (here : value_in NodeId entry ≡ Some value). id_in device entry value good.0 here)
    (or_some (last_value NodeId entries) (value_in NodeId entry) value is)

there : (o : Option (List ℕ)) → is_none o ≡ false → (value : List ℕ) × (o ≡ Some value)
there None e = cc
there (Some value) e = (value, refl)

-- a section with an id has one from 1 on
id_from_one :
    (device : Bool) (section : List Entry) → AreGood device section → lacks_id section ≡ false → 1 ≤ (node_of section).id.0
id_from_one device section good has =
    let value = there (last_value NodeId section) has
    in let read = id_of device section value.0 good value.1
    in let is : number NodeId section ≡ Some read.0 = ap (option_and_then (number_in NodeId)) value.1 ∙ read.1
    in let range = number-range NodeId (1, 4294967295) section read.0 refl is
    in let same : unwrap_or (number NodeId section) 0 ≡ read.0 = ap (λ o. unwrap_or o 0) is
    in omega arith

past : (b : Bool) (place : ℕ) (rest : Option ℕ) → cond b (Some place) rest ≡ None → (b ≡ false) × (rest ≡ None)
past true place rest e = cc
past false place rest e = (refl, e)

-- each node of a text without a bad number has an id from 1 on
pub ids_from_one :
    (device : Bool) (place : ℕ) (entries : List Entry)
    → AreGood device entries → position_from lacks_id place (sections entries) ≡ None
    → All (λ n. 1 ≤ n.id.0) (map node_of (sections entries))
ids_from_one device place [] good all = λ k d within. absurd (omega arith)
ids_from_one device place (NodeBegins ∷ entries) good all =
    let parts = past (lacks_id (own_entries entries)) place _ all
    in All-cons (λ n. 1 ≤ n.id.0) (node_of (own_entries entries)) (map node_of (sections entries))
    (id_from_one device (own_entries entries) (good_own device entries good.1) parts.0)
    (ids_from_one device (place + 1) entries good.1 parts.1)
ids_from_one device place (Written key value ∷ entries) good all = ids_from_one device place entries good.1 all

id_fits : (o : Option ℕ) → ((n : ℕ) → o ≡ Some n → (1 ≤ n) × (n ≤ 4294967295)) → unwrap_or o 0 ≤ 4294967295
id_fits None within = omega arith
id_fits (Some n) within = (within n refl).1

-- each node's id is one of 32 bits
pub ids_fit : (entries : List (List Entry)) → All (λ n. n.id.0 ≤ 4294967295) (map node_of entries)
ids_fit [] = λ k d within. absurd (omega arith)
ids_fit (section ∷ others) =
    All-cons (λ n. n.id.0 ≤ 4294967295) (node_of section) (map node_of others)
    (id_fits (number NodeId section) (λ n is. number-range NodeId (1, 4294967295) section n refl is)) (ids_fit others)

-- each node has at most 65535 votes
pub votes_fit : (entries : List (List Entry)) → All (λ n. n.votes ≤ 65535) (map node_of entries)
votes_fit [] = λ k d within. absurd (omega arith)
votes_fit (section ∷ others) =
    All-cons (λ n. n.votes ≤ 65535) (node_of section) (map node_of others)
    (default-range QuorumVotes (0, 65535) section 1 refl (omega arith) (omega arith)).1 (votes_fit others)

-- each node waits at most an hour
pub delays_fit : (entries : List (List Entry)) → All (λ n. n.fence_delay ≤ 3600000) (map node_of entries)
delays_fit [] = λ k d within. absurd (omega arith)
delays_fit (section ∷ others) =
    All-cons (λ n. n.fence_delay ≤ 3600000) (node_of section) (map node_of others)
    (default-range FenceDelay (0, 3600000) section 0 refl (omega arith) (omega arith)).1 (delays_fit others)
