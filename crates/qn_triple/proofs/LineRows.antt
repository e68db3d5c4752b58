-- Lines of three images that are at fault, and some that are not, as theorems of the definitions.
use Rattle.std.proofs.Common.{◌≡◌, ℕ, List, [], ◌∷◌, refl}
use Rattle.std.specs.Prelude.{Ok, Err, codes}
use Rattle.qn_model.specs.declared.disk.Message.TheVariants as message
use Rattle.qn_model.specs.declared.events.Event.TheVariants as event
use Rattle.qn_model.specs.declared.line_fault.LineFault.TheVariants.{UnknownWord, UnknownNode, BadCount, BadNumber}
use Rattle.qn_model.specs.Lines.{known_rank, number_between}
use Rattle.qn_safety.specs.declared.triple_event.TripleEvent.TheVariants.{One, LandOn, FailOn, LateOn, OperatorOn}
use Rattle.qn_sched.specs.EventNames.{event_name}
use Rattle.qn_sched.specs.EventReading.{event_named, event_of, event_of_words, message_worded, node_event_of, rank_of}
use Rattle.qn_triple.specs.TripleReading.{fail_on_of, image_between, land_on_of, late_on_of, one_of, operator_on_of, triple_event_of, triple_event_of_words}

-- one node, with id 1
abbrev one_id : List ℕ
one_id = 1 ∷ []

no_image : triple_event_of one_id (codes "land 1") ≡ Err BadCount
unfolding known_rank number_between rank_of image_between land_on_of triple_event_of triple_event_of_words
no_image = refl

image_0 : triple_event_of one_id (codes "land 1 0") ≡ Err BadNumber
unfolding known_rank number_between rank_of image_between land_on_of triple_event_of triple_event_of_words
image_0 = refl

image_4 : triple_event_of one_id (codes "land 1 4") ≡ Err BadNumber
unfolding known_rank number_between rank_of image_between land_on_of triple_event_of triple_event_of_words
image_4 = refl

node_before_image : triple_event_of one_id (codes "land 9 9") ≡ Err UnknownNode
unfolding known_rank number_between rank_of image_between land_on_of triple_event_of triple_event_of_words
node_before_image = refl

leftover_0 : triple_event_of one_id (codes "late 1 1 0") ≡ Err BadNumber
unfolding known_rank number_between rank_of image_between late_on_of triple_event_of triple_event_of_words
leftover_0 = refl

empty_is_clear : triple_event_of one_id (codes "operator 1 1 empty") ≡ Err UnknownWord
unfolding known_rank number_between rank_of image_between message_worded operator_on_of triple_event_of triple_event_of_words
empty_is_clear = refl

clears : triple_event_of one_id (codes "operator 1 3 clear") ≡ Ok (OperatorOn (record { 0 = 0 }) 3 message.Empty)
unfolding known_rank number_between rank_of image_between message_worded operator_on_of triple_event_of triple_event_of_words
clears = refl

lands : triple_event_of one_id (codes "land 1 2") ≡ Ok (LandOn (record { 0 = 0 }) 2)
unfolding known_rank number_between rank_of image_between land_on_of triple_event_of triple_event_of_words
lands = refl

fails : triple_event_of one_id (codes "fail 1 3") ≡ Ok (FailOn (record { 0 = 0 }) 3)
unfolding known_rank number_between rank_of image_between fail_on_of triple_event_of triple_event_of_words
fails = refl

lands_late : triple_event_of one_id (codes "late 1 3 2") ≡ Ok (LateOn (record { 0 = 0 }) 3 2)
unfolding known_rank number_between rank_of image_between late_on_of triple_event_of triple_event_of_words
lands_late = refl

names_no_image : triple_event_of one_id (codes "done 1") ≡ Ok (One (event.Done (record { 0 = 0 })))
unfolding known_rank number_between rank_of one_of triple_event_of triple_event_of_words event_of event_of_words event_named event_name node_event_of
names_no_image = refl
