-- How lists of writes join.
use Rattle.std.proofs.Common.{◌≡◌, ◌<◌, ◌+◌, ℕ, Bool, true, false, Result, Ok, Err, Option, List, [], ◌∷◌, ◌++◌, length, get_or, take, drop, if◌then◌else◌, refl, sym, ap, ◌∙◌, append_assoc, add-zero, arith}
use Rattle.std.proofs.lemmas.List.{take_more, take-append-drop, length-take-le}
use Rattle.qn_base.specs.declared.calls.Call.{Call}
use Rattle.qn_base.specs.Calls.{is_failed}
use Rattle.qn_base.specs.Plans.{Follows, Did}
use Rattle.qn_base.specs.PlanSteps.{made_then}
use Rattle.qn_model.specs.declared.nodelist.NodeEntry.{NodeEntry}
use Rattle.qn_image.specs.declared.fault.ImageFault.{ImageFault}
use Rattle.qn_image.specs.declared.fault.ImageFault.TheVariants.{Disk}
use Rattle.qn_image.specs.Plans.{or_fault, put_plan}
use Rattle.qn_model.specs.declared.times.Timing.{Timing}
use Rattle.qn_model.specs.Sectors.{header_bytes, zeros}
use Rattle.qn_image.specs.Writes.{SectorWrite, writes_plan, node_pair, node_writes, create_writes, erasing_write, header_write}
use Rattle.qn_image.specs.Joining.{faulted, ended}

-- what a write answered
abbrev pub answer_of : Bool → Result (Unit {0}) ImageFault
answer_of failed = if failed then Err Disk else Ok tt

after_write : (failed : Bool) (writes joined : List SectorWrite) (calls more : List Call) (result : Result (Unit {0}) ImageFault) → (Follows (writes_plan writes) calls (Ok tt) → Follows (writes_plan joined) more result) → Follows (or_fault (λ done. writes_plan writes) (answer_of failed)) calls (Ok tt) → Follows (or_fault (λ done. writes_plan joined) (answer_of failed)) more result
after_write true writes joined calls more result join did = cc
after_write false writes joined calls more result join did = join did

-- the writes of one list were done, and then those of the other
follows_writes : (writes others : List SectorWrite) (calls more : List Call) (result : Result (Unit {0}) ImageFault) → Follows (writes_plan writes) calls (Ok tt) → Follows (writes_plan others) more result → Follows (writes_plan (writes ++ others)) (calls ++ more) result
unfolding writes_plan
follows_writes [] others calls more result did left = rw did.0 left
follows_writes (write ∷ writes) others [] more result did left = absurd did
follows_writes (write ∷ writes) others (call ∷ calls) more result did left = (
  did.0,
  after_write (is_failed call) writes (writes ++ others) calls (calls ++ more) result (λ done. follows_writes writes others calls more result done left) did.1,
)

after_fault : (failed : Bool) (writes joined : List SectorWrite) (calls : List Call) (fault : ImageFault) → (Follows (writes_plan writes) calls (Err fault) → Follows (writes_plan joined) calls (Err fault)) → Follows (or_fault (λ done. writes_plan writes) (answer_of failed)) calls (Err fault) → Follows (or_fault (λ done. writes_plan joined) (answer_of failed)) calls (Err fault)
after_fault true writes joined calls fault join did = did
after_fault false writes joined calls fault join did = join did

-- a write of the first list failed
follows_writes_fault : (writes others : List SectorWrite) (calls : List Call) (fault : ImageFault) → Follows (writes_plan writes) calls (Err fault) → Follows (writes_plan (writes ++ others)) calls (Err fault)
unfolding writes_plan
follows_writes_fault [] others calls fault did = cc
follows_writes_fault (write ∷ writes) others [] fault did = absurd did
follows_writes_fault (write ∷ writes) others (call ∷ calls) fault did = (
  did.0,
  after_fault (is_failed call) writes (writes ++ others) calls fault (λ met. follows_writes_fault writes others calls fault met) did.1,
)

module _ {f g : ℕ} {a b : Option (List Call)} where
  -- a single write
  pub one_write : (result : Result (Unit {0}) ImageFault) (sector : ℕ) (bytes : List ℕ) → Did f g a b (put_plan sector bytes) result → Did f g a b (writes_plan (record { sector = sector; bytes = bytes } ∷ [])) result
  unfolding writes_plan
  one_write (Ok done) sector bytes did = ended (put_plan sector bytes) _ tt refl did
  one_write (Err fault) sector bytes did = faulted (put_plan sector bytes) _ did

  -- the writes of one list, and then those of the other
  pub did_writes : {h : ℕ} {c : Option (List Call)} {result : Result (Unit {0}) ImageFault} (writes others : List SectorWrite) → Did f g a b (writes_plan writes) (Ok tt) → Did g h b c (writes_plan others) result → Did f h a c (writes_plan (writes ++ others)) result
  did_writes {result} writes others first second =
      record {
        calls = first.calls ++ second.calls;
        made = made_then first.made second.made;
        follows = follows_writes writes others first.calls second.calls result first.follows second.follows;
      }

  -- a write of the first list failed
  pub did_writes_fault : {fault : ImageFault} (writes others : List SectorWrite) → Did f g a b (writes_plan writes) (Err fault) → Did f g a b (writes_plan (writes ++ others)) (Err fault)
  did_writes_fault {fault} writes others did =
      record {
        calls = did.calls;
        made = did.made;
        follows = follows_writes_fault writes others did.calls fault did.follows;
      }

module _ {f g h : ℕ} {a b c : Option (List Call)} {result : Result (Unit {0}) ImageFault} where
  -- the writes of one list, and then a last one
  pub last_written : (writes : List SectorWrite) (sector : ℕ) (bytes : List ℕ) → Did f g a b (writes_plan writes) (Ok tt) → Did g h b c (put_plan sector bytes) result → Did f h a c (writes_plan (writes ++ record { sector = sector; bytes = bytes } ∷ [])) result
  last_written writes sector bytes before last = did_writes writes _ before (one_write result sector bytes last)

-- the writes of some nodes, and then those of the others
pub node_writes-append : (rank : ℕ) (nodes others : List NodeEntry) → node_writes rank (nodes ++ others) ≡ node_writes rank nodes ++ node_writes (rank + length nodes) others
unfolding node_writes
node_writes-append rank [] others = rw add-zero refl
node_writes-append rank (node ∷ nodes) others =
    ap (λ writes. node_pair rank node.id.0 ++ writes) (node_writes-append (rank + 1) nodes others ∙ ap (λ r. node_writes (rank + 1) nodes ++ node_writes r others) (omega arith))
    ∙ sym (append_assoc (node_pair rank node.id.0) (node_writes (rank + 1) nodes) (node_writes (rank + length (node ∷ nodes)) others))

module _ (nodes : List NodeEntry) (n : ℕ) (d : NodeEntry) (more : n < length nodes) where
  -- the writes of one node more
  node_writes-more : node_writes 0 (take (n + 1) nodes) ≡ node_writes 0 (take n nodes) ++ node_pair n (get_or nodes n d).id.0
  unfolding node_writes
  node_writes-more =
      let count : 0 + length (take n nodes) ≡ n = omega (arith, length-take-le n nodes (omega arith)) in
      ap (λ x. node_writes 0 x) (take_more nodes n d more)
      ∙ node_writes-append 0 (take n nodes) (get_or nodes n d ∷ [])
      ∙ ap (λ rank. node_writes 0 (take n nodes) ++ node_pair rank (get_or nodes n d).id.0) count

  -- the writes of that node and those of the nodes after it
  node_writes-rest : (rest : List SectorWrite) × (node_writes 0 nodes ≡ node_writes 0 (take (n + 1) nodes) ++ rest)
  node_writes-rest = (
    _,
    ap (λ x. node_writes 0 x) (sym (take-append-drop (n + 1) nodes)) ∙ node_writes-append 0 (take (n + 1) nodes) (drop (n + 1) nodes),
  )

  module _ {f g h : ℕ} {a b c : Option (List Call)} where
    pub node_written : Did f g a b (writes_plan (node_writes 0 (take n nodes))) (Ok tt) → Did g h b c (writes_plan (node_pair n (get_or nodes n d).id.0)) (Ok tt) → Did f h a c (writes_plan (node_writes 0 (take (n + 1) nodes))) (Ok tt)
    node_written before pair = rw node_writes-more (did_writes _ _ before pair)

    pub node_failed : (fault : ImageFault) → Did f g a b (writes_plan (node_writes 0 (take n nodes))) (Ok tt) → Did g h b c (writes_plan (node_pair n (get_or nodes n d).id.0)) (Err fault) → Did f h a c (writes_plan (node_writes 0 nodes)) (Err fault)
    node_failed fault before pair =
        let so_far : Did f h a c (writes_plan (node_writes 0 (take (n + 1) nodes))) (Err fault) = rw node_writes-more (did_writes _ _ before pair) in
        rw node_writes-rest.1 (did_writes_fault _ node_writes-rest.0 so_far)

module _ (nodes : List NodeEntry) (timing : Timing) {f g : ℕ} {a b : Option (List Call)} where
  -- the header was erased, the nodes were written, and then the header was tried
  pub image_written : {h i : ℕ} {c d : Option (List Call)} {result : Result (Unit {0}) ImageFault} → Did f g a b (put_plan 0 (zeros 512)) (Ok tt) → Did g h b c (writes_plan (node_writes 0 nodes)) (Ok tt) → Did h i c d (put_plan 0 (header_bytes (length nodes) timing)) result → Did f i a d (writes_plan (create_writes nodes timing)) result
  unfolding create_writes
  image_written {result} erased filled header =
      did_writes (erasing_write ∷ []) _ (one_write _ _ _ erased) (did_writes _ _ filled (one_write result _ _ header))

  -- a write of a node failed
  pub filling_failed : {h : ℕ} {c : Option (List Call)} (fault : ImageFault) → Did f g a b (put_plan 0 (zeros 512)) (Ok tt) → Did g h b c (writes_plan (node_writes 0 nodes)) (Err fault) → Did f h a c (writes_plan (create_writes nodes timing)) (Err fault)
  unfolding create_writes
  filling_failed fault erased filled =
      did_writes (erasing_write ∷ []) _ (one_write _ _ _ erased) (did_writes_fault _ (header_write (length nodes) timing ∷ []) filled)

  -- the first write failed
  pub erasing_failed : (fault : ImageFault) → Did f g a b (put_plan 0 (zeros 512)) (Err fault) → Did f g a b (writes_plan (create_writes nodes timing)) (Err fault)
  unfolding create_writes
  erasing_failed fault erased =
      did_writes_fault (erasing_write ∷ []) (node_writes 0 nodes ++ header_write (length nodes) timing ∷ []) (one_write _ _ _ erased)
