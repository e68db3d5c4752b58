-- Laws of heads and answers: bytes begin with one head at most, whatever stands after it.
use Rattle.std.proofs.Common.{◌≡◌, ℕ, ◌+◌, ◌<◌, ◌≤◌, List, [], ◌∷◌, ◌++◌, Option, Some, None, refl, sym, ap, subst, ◌∙◌, length, map, drop, take, append-nil, arith, length-append}
use Rattle.std.specs.Prelude.{unwrap_or}
use Rattle.httparse.proofs.GrammarLemmas.{print_response-append, response_prefix_free}
use Rattle.httparse.specs.Grammar.{ResponseHead, ReadsResponse, print_blank, print_end, print_reason, print_section, print_version, print_response, status_code}
use Rattle.httparse.specs.Spans.{name_and_value}
use Rattle.qn_etcd.specs.declared.heads.Head.{Head}
use Rattle.qn_etcd.specs.Heads.{BeginsWith, IsAnswer, IsHeadOf, IsWhole, MayBegin, NeverBegins, length_in}

abbrev size_of : ResponseHead → Option ℕ
size_of h = length_in (map name_and_value h.fields)

-- bytes that begin with a head that does not say how long its body is never begin with one that does
pub unsaid_never_begins : (bytes : List ℕ) (h : ResponseHead) (rest : List ℕ) → ReadsResponse bytes h rest → size_of h ≡ None → NeverBegins bytes
unsaid_never_begins bytes h rest reads unsaid more head begins =
    let same = (response_prefix_free bytes more h begins.0 rest _ reads begins.1.reads).0 in
    let size : Some head.length ≡ None = begins.1.size ∙ ap size_of (sym same) ∙ unsaid in
    absurd (let none : Some head.length ≡ None = size in cc)

-- nor do those whose heads have more than 32 fields
pub long_never_begins : (bytes : List ℕ) → ((more : List ℕ) (h : ResponseHead) (rest : List ℕ) → ReadsResponse (bytes ++ more) h rest → 32 < length h.fields) → NeverBegins bytes
long_never_begins bytes long more head begins =
    let many = long more begins.0 _ begins.1.reads in
    let few = begins.1.few in
    omega (arith, many, few)

-- whatever follows a head, it is the one that the bytes begin with
pub same_head : (bytes : List ℕ) (a b : Head) → IsHeadOf bytes a → IsHeadOf bytes b → a ≡ b
same_head bytes a b x y =
    let reads = subst (λ l. ReadsResponse l y.0 (drop b.body bytes)) (sym (append-nil bytes)) y.1.reads in
    let same = (response_prefix_free bytes [] x.0 y.0 (drop a.body bytes) (drop b.body bytes) x.1.reads reads).0 in
    let code : a.code ≡ b.code = x.1.code ∙ ap status_code same ∙ sym y.1.code in
    let body : a.body ≡ b.body = x.1.body ∙ ap (λ h. length (print_response h)) same ∙ sym y.1.body in
    let size : a.length ≡ b.length = ap (λ o. unwrap_or o 0) (x.1.size ∙ ap size_of same ∙ sym y.1.size) in
    ap (λ n. record { code = n; body = a.body; length = a.length }) code
    ∙ ap (λ n. record { code = b.code; body = n; length = a.length }) body
    ∙ ap (λ n. record { code = b.code; body = b.body; length = n }) size

-- no bytes are no answer
pub nothing_is_no_answer : (bytes body : List ℕ) → bytes ≡ [] → IsAnswer bytes body → ⊥
nothing_is_no_answer bytes body empty answer =
    let h = answer.whole.begins.0 in
    let rest = drop answer.head.body bytes in
    let parts = sym empty ∙ answer.whole.begins.1.reads.1 ∙ print_response-append h rest in
    let after = h.digits ++ (print_reason h.reason ++ (print_end h.line_end ++ (print_section h.fields h.last ++ rest))) in
    let counts = ap length parts ∙ length-append (print_blank h.blank) (print_version h.minor ++ 32 ∷ after) in
    let more = length-append (print_version h.minor) (32 ∷ after) in
    omega (arith, counts, more)

-- bytes before the end of a head are none
pub open_is_no_answer : (bytes body : List ℕ) → MayBegin bytes → IsAnswer bytes body → ⊥
open_is_no_answer bytes body early answer = early.0 answer.whole.begins.0 _ answer.whole.begins.1.reads

-- nor are those that never begin with a head
pub strange_is_no_answer : (bytes body : List ℕ) → NeverBegins bytes → IsAnswer bytes body → ⊥
strange_is_no_answer bytes body never answer =
    never [] answer.head (subst (λ l. IsHeadOf l answer.head) (sym (append-nil bytes)) answer.whole.begins)

-- nor those that are more or less than the head says
pub other_size_is_no_answer : (bytes body : List ℕ) (head : Head) → IsHeadOf bytes head → (length bytes ≡ head.body + head.length → ⊥) → IsAnswer bytes body → ⊥
other_size_is_no_answer bytes body head begins other answer =
    let same = same_head bytes answer.head head answer.whole.begins begins in
    other (subst (λ found. length bytes ≡ found.body + found.length) same answer.whole.size)

-- nor those with another status
pub other_code_is_no_answer : (bytes body : List ℕ) (head : Head) → IsHeadOf bytes head → (head.code ≡ 200 → ⊥) → IsAnswer bytes body → ⊥
other_code_is_no_answer bytes body head begins other answer =
    other (subst (λ found. found.code ≡ 200) (same_head bytes answer.head head answer.whole.begins begins) answer.code)

-- an answer has one body
pub one_body : (bytes body : List ℕ) (head : Head) → IsHeadOf bytes head → IsAnswer bytes body → drop head.body bytes ≡ body
one_body bytes body head begins answer =
    subst (λ found. drop found.body bytes ≡ body) (same_head bytes answer.head head answer.whole.begins begins) answer.body_is
