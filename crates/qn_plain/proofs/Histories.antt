-- A history, entry by entry.
use Rattle.std.proofs.Common.{◌≡◌, ℕ, suc, ◌+◌, ◌<◌, ◌≤◌, List, [], ◌∷◌, length, take, get_or, refl, ap, ◌∙◌, arith}
use Rattle.std.proofs.lemmas.List.{length-take-le, take_more}
use Rattle.qn_model.specs.declared.configuration.Settings.{Settings}
use Rattle.qn_model.specs.declared.entries.Entry.{Entry}
use Rattle.qn_model.specs.lemmas.Logs.{log_from-more, install-within}
use Rattle.qn_model.specs.Log.{Line}
use Rattle.qn_plain.specs.declared.past.Past.{Past}
use Rattle.qn_plain.specs.Past.{PastFor}
use Rattle.qn_model.specs.NodeOutputs.{log_from, log_of, with_entry}

-- the log of one entry more
pub log_of-more : (s : Settings) (me : ℕ) (history : List Entry) (i : ℕ) (d : Entry) → i < length history
    → log_of s me (take (i + 1) history) ≡ with_entry s me (log_of s me (take i history)) (get_or history i d)
log_of-more s me history i d here =
    ap (log_of s me) (take_more history i d here) ∙ log_from-more s me [] (take i history) (get_or history i d)

with_entry-length : (s : Settings) (me : ℕ) (past : List Line) (entry : Entry) → length (with_entry s me past entry) ≡ suc (length past)
unfolding with_entry
with_entry-length s me past entry = refl

log_from-length : (s : Settings) (me : ℕ) (past : List Line) (history : List Entry) → length (log_from s me past history) ≡ length past + length history
unfolding log_from
log_from-length s me past [] = omega arith
log_from-length s me past (entry ∷ history) =
    let rest = log_from-length s me (with_entry s me past entry) history in
    let one = with_entry-length s me past entry in
    omega arith

pub log_of-length : (s : Settings) (me : ℕ) (history : List Entry) (i : ℕ) → i ≤ length history → length (log_of s me (take i history)) ≡ i
log_of-length s me history i below =
    let all = log_from-length s me [] (take i history) in let some = length-take-le i history below in omega arith

-- the place of the next entry
pub place_after : (s : Settings) (me : ℕ) (history : List Entry) (i : ℕ) → i ≤ length history → i + 1 ≡ suc (length (log_of s me (take i history)))
place_after s me history i below = let is = log_of-length s me history i below in omega arith

pub installs_by : (s : Settings) (me : ℕ) (history : List Entry) (i : ℕ) (past : Past) → i ≤ length history
    → PastFor s past (log_of s me (take i history)) → past.installs ≤ i
installs_by s me history i past below h =
    let few = install-within (log_of s me (take i history)) in
    let all = log_of-length s me history i below in
    let count = h.installed in
    omega arith
