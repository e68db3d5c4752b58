-- What was read of an answer so far, and why it is none.
use Rattle.std.proofs.Common.{◌≡◌, ℕ, true, false, List, [], ◌++◌, Option, None, Some, Result, Ok, Err, sym, ap, subst, ◌∙◌, append-nil, append_assoc}
use Rattle.std.specs.Prelude.{is_err, IsOk, OnErr}
use Rattle.std.specs.Io.KnownBytes.{Appends, Consumes, Keeps}
use Rattle.std.proofs.KnownBytes.{Appends-trans, Consumes-kept, Consumes-trans}
use Rattle.qn_etcd.specs.Heads.{IsAnswer}
use Rattle.qn_exchange.specs.Exchanges.{ReadsNoAnswer}
use Rattle.qn_exchange.specs.Writes.{SendsFront}

pub at_err : {A E : Type 0} (P : Type 0) (r : Result A E) → P → OnErr r P
at_err P (Ok x) holds = tt
at_err P (Err e) holds = holds

pub ok_is_no_err : {A E : Type 0} (r : Result A E) → is_err r ≡ true → IsOk r → ⊥
ok_is_no_err (Ok x) err ok = absurd (let no : false ≡ true = err in cc)
ok_is_no_err (Err e) err ok = absurd (let no : false ≡ true = ok in cc)

-- what was read is no answer, and nothing was read after it
pub stays_none : (a b c : Option (List ℕ)) (bytes : List ℕ) → Consumes a b bytes → ((body : List ℕ) → IsAnswer bytes body → ⊥) → Keeps b c → ReadsNoAnswer a c
stays_none a b c bytes takes none kept = record { bytes = bytes; takes = Consumes-kept a b c bytes takes kept; none = λ body short text. none body }

-- what was read is none
pub is_none : (a b : Option (List ℕ)) (bytes : List ℕ) → Consumes a b bytes → ((body : List ℕ) → IsAnswer bytes body → ⊥) → ReadsNoAnswer a b
is_none a b bytes takes none = record { bytes = bytes; takes = takes; none = λ body short text. none body }

-- a reader that gave no bytes stays as it was
pub kept_by_none : (b c : Option (List ℕ)) (xs : List ℕ) → xs ≡ [] → Consumes b c xs → Keeps b c
kept_by_none None c xs is takes = tt
kept_by_none (Some x) None xs is takes = absurd takes
kept_by_none (Some x) (Some y) xs is takes = sym (takes ∙ ap (λ l. l ++ y) is)

-- bytes that grew by what was read
pub takes_more : (a b c : Option (List ℕ)) (old xs new : List ℕ) → Consumes a b old → Consumes b c xs → new ≡ old ++ xs → Consumes a c new
takes_more a b c old xs new first second is = subst (Consumes a c) (sym is) (Consumes-trans a b c old xs first second)

-- the whole text was written
pub all_sent : (a b : Option (List ℕ)) (text : List ℕ) → Appends a b text → SendsFront a b text
all_sent a b text adds = record { front = text; rest = []; parts = sym (append-nil text); adds = adds }

-- a part of the first of two texts was written
pub front_of_two : (a b : Option (List ℕ)) (first second : List ℕ) → SendsFront a b first → SendsFront a b (first ++ second)
front_of_two a b first second sends =
    record {
      front = sends.front;
      rest = sends.rest ++ second;
      parts = ap (λ l. l ++ second) sends.parts ∙ append_assoc sends.front sends.rest second;
      adds = sends.adds;
    }

-- the first of two texts was written, and a part of the second
pub front_after : {A E : Type 0} (a b c : Option (List ℕ)) (first second : List ℕ) (r : Result A E) → Appends a b first → OnErr r (SendsFront b c second)
    → OnErr r (SendsFront a c (first ++ second))
front_after a b c first second (Ok x) whole part = tt
front_after a b c first second (Err e) whole part =
    record {
      front = first ++ part.front;
      rest = part.rest;
      parts = ap (λ l. first ++ l) part.parts ∙ sym (append_assoc first part.front part.rest);
      adds = Appends-trans a b c first part.front whole part.adds;
    }

-- what was kept first, and read then
pub kept_before : (a b c : Option (List ℕ)) (bytes : List ℕ) → Keeps a b → Consumes b c bytes → Consumes a c bytes
kept_before None b c bytes kept takes = tt
kept_before (Some x) None c bytes kept takes = absurd kept
kept_before (Some x) (Some y) None bytes kept takes = absurd takes
kept_before (Some x) (Some y) (Some z) bytes kept takes = sym kept ∙ takes

-- what was written first, and kept then
pub kept_after : (a b c : Option (List ℕ)) (bytes : List ℕ) → Appends a b bytes → Keeps b c → Appends a c bytes
kept_after None b c bytes adds kept = tt
kept_after (Some x) None c bytes adds kept = absurd adds
kept_after (Some x) (Some y) None bytes adds kept = absurd kept
kept_after (Some x) (Some y) (Some z) bytes adds kept = kept ∙ adds

-- the whole text was written, and nothing after it
pub all_sent_then : (a b c : Option (List ℕ)) (text : List ℕ) → Appends a b text → Keeps b c → SendsFront a c text
all_sent_then a b c text adds kept = all_sent a c text (kept_after a b c text adds kept)

-- what was read after others were kept is no answer
pub none_before : (a b c : Option (List ℕ)) → Keeps a b → ReadsNoAnswer b c → ReadsNoAnswer a c
none_before a b c kept reads = record { bytes = reads.bytes; takes = kept_before a b c reads.bytes kept reads.takes; none = reads.none }

-- nothing was read of what was kept
pub none_of_kept : (a b : Option (List ℕ)) → Keeps a b → ((body : List ℕ) → IsAnswer [] body → ⊥) → ReadsNoAnswer a b
none_of_kept a b kept none = is_none a b [] (none_taken a b kept) none
  where
    none_taken : (a b : Option (List ℕ)) → Keeps a b → Consumes a b []
    none_taken None b kept = tt
    none_taken (Some x) None kept = absurd kept
    none_taken (Some x) (Some y) kept = sym kept
