-- The head of an answer (RFC 9112): its status, where its body begins and how long that is.
use Rattle.std.specs.Prelude.{◌≡◌, ℕ, ◌+◌, ◌≤◌, List, [], ◌∷◌, ◌++◌, length, Option, Some, None, map, drop, codes, if◌then◌else◌}
use Rattle.std.specs.Str.{str_eq_ignore_ascii_case}
use Rattle.httparse.specs.Grammar.{ResponseHead, HasNoResponse, MayBecomeResponse, ReadsResponse, print_response, status_code}
use Rattle.httparse.specs.Spans.{name_and_value}
use Rattle.qn_base.specs.Decimal.{number_of}
use Rattle.qn_etcd.specs.declared.heads.Head.{Head}

-- the number in the first field that is named `Content-Length`
abbrev pub length_in : List (List ℕ × List ℕ) → Option ℕ
length_in [] = None
length_in (field ∷ fields) =
    if str_eq_ignore_ascii_case field.0 (codes "content-length") then number_of field.1 else length_in fields

-- these bytes begin with a head of at most 32 fields that says so
pub record BeginsWith (bytes : List ℕ) (head : Head) (h : ResponseHead) : Type 0 where
  pub reads : ReadsResponse bytes h (drop head.body bytes)
  pub few : length h.fields ≤ 32
  pub code : head.code ≡ status_code h
  pub body : head.body ≡ length (print_response h)
  pub size : Some head.length ≡ length_in (map name_and_value h.fields)

abbrev pub IsHeadOf : List ℕ → Head → Type 0
IsHeadOf bytes head = (h : ResponseHead) × BeginsWith bytes head h

-- no head is there yet, and bytes that follow can make one
abbrev pub MayBegin : List ℕ → Type 0
MayBegin bytes = HasNoResponse bytes × MayBecomeResponse bytes

-- whatever follows these bytes, they begin with no head that says how long its body is
abbrev pub NeverBegins : List ℕ → Type 0
NeverBegins bytes = (more : List ℕ) (head : Head) → ¬ (IsHeadOf (bytes ++ more) head)

-- these bytes are that head and its body, and no more
pub record IsWhole (bytes : List ℕ) (head : Head) : Type 0 where
  pub begins : IsHeadOf bytes head
  pub size : length bytes ≡ head.body + head.length

-- these bytes are an answer of status 200 with this body, and no more
pub record IsAnswer (bytes body : List ℕ) : Type 0 where
  pub head : Head
  pub whole : IsWhole bytes head
  pub code : head.code ≡ 200
  pub body_is : drop head.body bytes ≡ body
