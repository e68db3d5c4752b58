-- Of what a node shows the room of a status file is enough (docs/STATUS.md). This project's profile.
use Rattle.std.specs.Prelude.{◌≡◌, ◌≤◌, ℕ, List, length}
use Rattle.json.specs.Print.{escape}
use Rattle.qn_shown.specs.declared.shown.Arbiter.{Arbiter}
use Rattle.qn_shown.specs.declared.shown.Peer.{Peer}
use Rattle.qn_shown.specs.declared.shown.Shown.{Shown}
use Rattle.qn_shown.specs.Fits.{AllOf, FitsTypes, OnValue}

-- a string of JSON writes the text as it stands: it has no quote, no backslash and no control (RFC 8259, section 7)
abbrev pub IsPlain : List ℕ → Type 0
IsPlain text = escape text ≡ text

abbrev pub HasPlainAddress : Arbiter → Type 0
HasPlainAddress arbiter = OnValue IsPlain arbiter.address

abbrev pub HasPlainName : Peer → Type 0
HasPlainName peer = OnValue IsPlain peer.name

pub record ArePlain (s : Shown) : Type 0 where
  pub arbiter : OnValue HasPlainAddress s.arbiter
  pub end : OnValue IsPlain s.end
  pub name : OnValue IsPlain s.name
  pub peers : AllOf HasPlainName s.peers.items
  pub why : IsPlain s.why

-- a node of at most 32, whose numbers have at most 64 bits and whose names have at most 63 bytes, all of them plain
pub record IsUsual (s : Shown) : Type 0 where
  pub fits : FitsTypes s
  pub plain : ArePlain s
  pub others : length s.peers.items ≤ 31
