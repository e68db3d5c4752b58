-- A sector is read as a header of a version exactly where it is the spelling of that header.
use Rattle.std.proofs.Common.{◌≡◌, ◌≤◌, ◌<◌, ◌^◌, ℕ, true, ◌&&◌, List, ◌++◌, Option, None, Some, IfSome, IfNone, nat_le, if◌then◌else◌, refl, sym, ap, ◌∙◌, arith}
use Rattle.std.specs.Str.{bytes_eq}
use Rattle.std.specs.Int.{bytes_high_first}
use Rattle.std.proofs.lemmas.Bool.Decides.{nat_tests}
use Rattle.std.proofs.lemmas.Slice.Eq.{bytes_eq-Decides}
use Rattle.std.proofs.lemmas.Bool.{and_parts, and_from}
use Rattle.byteorder.specs.Numbers.{big_number-reads_back}
use Rattle.qn_base.specs.lemmas.Options.{some_if_true, true_if_some}
use Rattle.qn_model.specs.declared.times.Timing.{Timing}
use Rattle.qn_model.specs.Sectors.{header_bytes_in, zeros}
use Rattle.qn_model.specs.Timing.{has_periods, is_period}
use Rattle.qn_sector.specs.Reading.{SpellsHeader, nodes_at, timing_at, is_header, header_in}

-- each time of a header fits its eight bytes
record Fit (t : Timing) : Type 0 where
  watchdog : t.watchdog < 2 ^ 64
  msgwait : t.msgwait < 2 ^ 64
  loop_ms : t.loop_ms < 2 ^ 64
  read_limit : t.read_limit < 2 ^ 64
  feed_delay : t.feed_delay < 2 ^ 64

period_fits : (time : ℕ) → is_period time ≡ true → time < 2 ^ 64
period_fits time is = grind (arith, nat_tests)

times_fit : (t : Timing) → has_periods t ≡ true → Fit t
times_fit t are =
    let four = and_parts _ _ are in
    let three = and_parts _ _ four.0 in
    let two = and_parts _ _ three.0 in
    let one = and_parts _ _ two.0 in
    record {
      watchdog = period_fits t.watchdog one.0;
      msgwait = period_fits t.msgwait one.1;
      loop_ms = period_fits t.loop_ms two.1;
      read_limit = period_fits t.read_limit three.1;
      feed_delay = period_fits t.feed_delay four.1;
    }

nodes_at-header_bytes_in : (version nodes : ℕ) (t : Timing) → nodes ≤ 32 → nodes_at (header_bytes_in version nodes t) ≡ nodes
unfolding header_bytes_in
nodes_at-header_bytes_in version nodes t few =
    big_number-reads_back 2 nodes (zeros 4 ++ bytes_high_first 8 t.watchdog ++ bytes_high_first 8 t.msgwait ++ bytes_high_first 8 t.loop_ms ++ bytes_high_first 8 t.read_limit ++ bytes_high_first 8 t.feed_delay ++ zeros 456) (omega arith)

same_times : (first second : Timing) → first.watchdog ≡ second.watchdog → first.msgwait ≡ second.msgwait → first.loop_ms ≡ second.loop_ms → first.read_limit ≡ second.read_limit → first.feed_delay ≡ second.feed_delay → first ≡ second
same_times first second watchdog msgwait loop_ms read_limit feed_delay =
    rw (watchdog, msgwait, loop_ms, read_limit, feed_delay) refl

timing_at-header_bytes_in : (version nodes : ℕ) (t : Timing) → Fit t → timing_at (header_bytes_in version nodes t) ≡ t
unfolding header_bytes_in
timing_at-header_bytes_in version nodes t fit =
    same_times (timing_at (header_bytes_in version nodes t)) t
    (big_number-reads_back 8 t.watchdog (bytes_high_first 8 t.msgwait ++ bytes_high_first 8 t.loop_ms ++ bytes_high_first 8 t.read_limit ++ bytes_high_first 8 t.feed_delay ++ zeros 456) fit.watchdog)
    (big_number-reads_back 8 t.msgwait (bytes_high_first 8 t.loop_ms ++ bytes_high_first 8 t.read_limit ++ bytes_high_first 8 t.feed_delay ++ zeros 456) fit.msgwait)
    (big_number-reads_back 8 t.loop_ms (bytes_high_first 8 t.read_limit ++ bytes_high_first 8 t.feed_delay ++ zeros 456) fit.loop_ms)
    (big_number-reads_back 8 t.read_limit (bytes_high_first 8 t.feed_delay ++ zeros 456) fit.read_limit)
    (big_number-reads_back 8 t.feed_delay (zeros 456) fit.feed_delay)

is_header-in_range : (nodes : ℕ) (t : Timing) → 1 ≤ nodes → nodes ≤ 32 → has_periods t ≡ true → is_header nodes t ≡ true
is_header-in_range nodes t some few are = rw are (grind (arith, nat_tests))

-- what a sector is read as, once these numbers were taken from it
abbrev judged : ℕ → List ℕ → ℕ → Timing → Option (ℕ × Timing)
judged version sector nodes t =
    if is_header nodes t && bytes_eq (header_bytes_in version nodes t) sector then Some (nodes, t) else None

judged-spelling : (version : ℕ) (sector : List ℕ) (nodes : ℕ) (t : Timing) → is_header nodes t ≡ true → sector ≡ header_bytes_in version nodes t → judged version sector nodes t ≡ Some (nodes, t)
judged-spelling version sector nodes t in_range spelled =
    some_if_true _ (nodes, t) (and_from _ _ in_range ((bytes_eq-Decides _ _).1 (sym spelled)))

header_in-read : (version : ℕ) (sector : List ℕ) (nodes : ℕ) (t : Timing) → nodes_at sector ≡ nodes → timing_at sector ≡ t → header_in version sector ≡ judged version sector nodes t
unfolding header_in
header_in-read version sector nodes t same_nodes same_times =
    ap (λ n. judged version sector n (timing_at sector)) same_nodes ∙ ap (λ x. judged version sector nodes x) same_times

-- a spelling is read as what it spells
pub header_in-spelling : (version : ℕ) (sector : List ℕ) (nodes : ℕ) (t : Timing) → SpellsHeader version sector nodes t → header_in version sector ≡ Some (nodes, t)
header_in-spelling version sector nodes t spells =
    let same_nodes : nodes_at sector ≡ nodes = rw spells.bytes (nodes_at-header_bytes_in version nodes t spells.few_nodes) in
    let same_times : timing_at sector ≡ t = rw spells.bytes (timing_at-header_bytes_in version nodes t (times_fit t spells.times)) in
    header_in-read version sector nodes t same_nodes same_times
    ∙ judged-spelling version sector nodes t (is_header-in_range nodes t spells.some_nodes spells.few_nodes spells.times) spells.bytes

-- what is read as a header is its spelling
pub header_in-spells : (version : ℕ) (sector : List ℕ) (nodes : ℕ) (t : Timing) → header_in version sector ≡ Some (nodes, t) → SpellsHeader version sector nodes t
unfolding header_in
header_in-spells version sector nodes t is =
    let found = true_if_some _ _ (nodes, t) is in
    let tests = and_parts _ _ found.0 in
    let same_nodes : nodes ≡ nodes_at sector = ap (λ h. h.0) found.1 in
    let same_times : t ≡ timing_at sector = ap (λ h. h.1) found.1 in
    let ranges : is_header nodes t ≡ true = rw (same_nodes, same_times) tests.0 in
    let of_header = and_parts _ _ ranges in
    let of_nodes = and_parts _ _ of_header.0 in
    record {
      some_nodes = at_least nodes of_nodes.0;
      few_nodes = at_most nodes of_nodes.1;
      times = of_header.1;
      bytes = rw (same_nodes, same_times) (sym ((bytes_eq-Decides _ _).0 tests.1));
    }
  where
    at_least : (n : ℕ) → nat_le 1 n ≡ true → 1 ≤ n
    at_least n is = grind (arith, nat_tests)

    at_most : (n : ℕ) → nat_le n 32 ≡ true → n ≤ 32
    at_most n is = grind (arith, nat_tests)

pub header_found : (version : ℕ) (sector : List ℕ) (found : Option (ℕ × Timing)) → found ≡ header_in version sector → IfSome found (λ h. SpellsHeader version sector h.0 h.1)
header_found version sector None is = tt
header_found version sector (Some h) is = header_in-spells version sector h.0 h.1 (sym is)

pub no_header_found : (version : ℕ) (sector : List ℕ) (found : Option (ℕ × Timing)) → found ≡ header_in version sector → IfNone found ((nodes : ℕ) (t : Timing) → SpellsHeader version sector nodes t → ⊥)
no_header_found version sector None is = λ nodes t spells. let read = header_in-spelling version sector nodes t spells in cc
no_header_found version sector (Some h) is = tt
