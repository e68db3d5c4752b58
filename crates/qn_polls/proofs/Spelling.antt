-- Bytes are read as a poll, or as a reply, exactly where they are its spelling and it is well formed.
use Rattle.std.proofs.Common.{◌≡◌, Bool, true, false, ◌&&◌, ◌==◌, List, ℕ, Option, None, Some, IfSome, IfNone, if◌then◌else◌, length, sym, ap, ◌∙◌}
use Rattle.std.specs.Str.{bytes_eq}
use Rattle.std.proofs.lemmas.Slice.Eq.{bytes_eq-Decides}
use Rattle.std.proofs.lemmas.Bool.{and_parts, and_from}
use Rattle.qn_base.specs.lemmas.Options.{some_if_true, true_if_some}
use Rattle.qn_safety.specs.declared.polls.Poll.{Poll}
use Rattle.qn_safety.specs.declared.polls.Reply.{Reply}
use Rattle.qn_polls.specs.Polls.{SpellsPoll, SpellsReply, is_poll, is_reply, poll_bytes, reply_bytes}
use Rattle.qn_polls.specs.Reading.{poll_at, poll_of, reply_at, reply_of}
use Rattle.qn_polls.proofs.FieldsBack.{poll_at-poll_bytes, poll_is_long, reply_at-reply_bytes, reply_is_long}

-- what is taken from bytes counts only where it is well formed and they are its spelling
abbrev judged_poll : List ℕ → Poll → Option Poll
judged_poll bytes p = if is_poll p && bytes_eq (poll_bytes p) bytes then Some p else None

poll_judged : (bytes : List ℕ) (p : Poll) → SpellsPoll bytes p → judged_poll bytes p ≡ Some p
poll_judged bytes p spells =
    some_if_true _ p (and_from _ _ spells.well_formed ((bytes_eq-Decides _ _).1 (sym spells.spelling)))

poll_where : (test : Bool) (bytes : List ℕ) (read p : Poll) → test ≡ true → read ≡ p → judged_poll bytes p ≡ Some p → (if test then judged_poll bytes read else None) ≡ Some p
poll_where true bytes read p is same judged = ap (judged_poll bytes) same ∙ judged
poll_where false bytes read p is same judged = cc

poll_if : (test : Bool) (bytes : List ℕ) (read p : Poll) → (if test then judged_poll bytes read else None) ≡ Some p → SpellsPoll bytes p
poll_if false bytes read p is = cc
poll_if true bytes read p is =
    let found = true_if_some _ read p is in
    let tests = and_parts _ _ found.0 in
    record {
      well_formed = rw found.1 tests.0;
      spelling = rw found.1 (sym ((bytes_eq-Decides _ _).0 tests.1));
    }

-- a spelling is read as what it spells
pub poll_of-spelling : (bytes : List ℕ) (p : Poll) → SpellsPoll bytes p → poll_of bytes ≡ Some p
unfolding poll_of
poll_of-spelling bytes p spells =
    let long : (length bytes == 40) ≡ true = rw spells.spelling (poll_is_long p) in
    let at : poll_at bytes ≡ p = rw spells.spelling (poll_at-poll_bytes p spells.well_formed) in
    poll_where (length bytes == 40) bytes (poll_at bytes) p long at (poll_judged bytes p spells)

poll_of-spells : (bytes : List ℕ) (p : Poll) → poll_of bytes ≡ Some p → SpellsPoll bytes p
unfolding poll_of
poll_of-spells bytes p is = poll_if (length bytes == 40) bytes (poll_at bytes) p is

pub poll_found : (bytes : List ℕ) (found : Option Poll) → found ≡ poll_of bytes → IfSome found (SpellsPoll bytes)
poll_found bytes None is = tt
poll_found bytes (Some p) is = poll_of-spells bytes p (sym is)

pub no_poll_found : (bytes : List ℕ) (found : Option Poll) → found ≡ poll_of bytes → IfNone found ((p : Poll) → SpellsPoll bytes p → ⊥)
no_poll_found bytes None is = λ p spells. let read = poll_of-spelling bytes p spells in cc
no_poll_found bytes (Some p) is = tt

abbrev judged_reply : List ℕ → Reply → Option Reply
judged_reply bytes p = if is_reply p && bytes_eq (reply_bytes p) bytes then Some p else None

reply_judged : (bytes : List ℕ) (p : Reply) → SpellsReply bytes p → judged_reply bytes p ≡ Some p
reply_judged bytes p spells =
    some_if_true _ p (and_from _ _ spells.well_formed ((bytes_eq-Decides _ _).1 (sym spells.spelling)))

reply_where : (test : Bool) (bytes : List ℕ) (read p : Reply) → test ≡ true → read ≡ p → judged_reply bytes p ≡ Some p → (if test then judged_reply bytes read else None) ≡ Some p
reply_where true bytes read p is same judged = ap (judged_reply bytes) same ∙ judged
reply_where false bytes read p is same judged = cc

reply_if : (test : Bool) (bytes : List ℕ) (read p : Reply) → (if test then judged_reply bytes read else None) ≡ Some p → SpellsReply bytes p
reply_if false bytes read p is = cc
reply_if true bytes read p is =
    let found = true_if_some _ read p is in
    let tests = and_parts _ _ found.0 in
    record {
      well_formed = rw found.1 tests.0;
      spelling = rw found.1 (sym ((bytes_eq-Decides _ _).0 tests.1));
    }

pub reply_of-spelling : (bytes : List ℕ) (p : Reply) → SpellsReply bytes p → reply_of bytes ≡ Some p
unfolding reply_of
reply_of-spelling bytes p spells =
    let long : (length bytes == 29) ≡ true = rw spells.spelling (reply_is_long p) in
    let at : reply_at bytes ≡ p = rw spells.spelling (reply_at-reply_bytes p spells.well_formed) in
    reply_where (length bytes == 29) bytes (reply_at bytes) p long at (reply_judged bytes p spells)

reply_of-spells : (bytes : List ℕ) (p : Reply) → reply_of bytes ≡ Some p → SpellsReply bytes p
unfolding reply_of
reply_of-spells bytes p is = reply_if (length bytes == 29) bytes (reply_at bytes) p is

pub reply_found : (bytes : List ℕ) (found : Option Reply) → found ≡ reply_of bytes → IfSome found (SpellsReply bytes)
reply_found bytes None is = tt
reply_found bytes (Some p) is = reply_of-spells bytes p (sym is)

pub no_reply_found : (bytes : List ℕ) (found : Option Reply) → found ≡ reply_of bytes → IfNone found ((p : Reply) → SpellsReply bytes p → ⊥)
no_reply_found bytes None is = λ p spells. let read = reply_of-spelling bytes p spells in cc
no_reply_found bytes (Some p) is = tt
