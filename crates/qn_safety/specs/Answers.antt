-- The answer of three images answers the operation that was out on them.
use Rattle.std.proofs.Common.{◌≡◌, ℕ, Bool, true, List, [], ◌∷◌, Some, refl}
use Rattle.qn_base.specs.lemmas.Numbers.{equal_to_itself}
use Rattle.qn_model.specs.declared.entries.What.{What}
use Rattle.qn_model.specs.declared.outputs.DiskOp.{DiskOp}
use Rattle.qn_model.specs.declared.outputs.DiskOp.TheVariants as disk
use Rattle.qn_model.specs.lemmas.Entries.{failed_answers}
use Rattle.qn_model.specs.Fitting.{answers_op}
use Rattle.qn_safety.specs.declared.part.Part.{Part}
use Rattle.qn_safety.specs.TripleWorld.{answer_among, answer_of, counting, together}

pub together_answers : (op : DiskOp) (first : What) (values : List What)
    → answers_op (Some op) (together op first values) ≡ true
together_answers disk.ReadHeader first values = refl
together_answers (disk.ReadSlot other) first values = equal_to_itself other.0
together_answers disk.CheckMail first values = refl
together_answers (disk.WriteClaim number) first values = refl
together_answers disk.WriteClear first values = refl
together_answers disk.ReadMail first values = refl
together_answers (disk.WriteReset other) first values = equal_to_itself other.0
together_answers (disk.WriteClose number) first values = refl

among_answers : (op : DiskOp) (values : List What) → answers_op (Some op) (answer_among op values) ≡ true
among_answers op [] = failed_answers op
among_answers op (one ∷ []) = failed_answers op
among_answers op (first ∷ second ∷ more) = together_answers op first (first ∷ second ∷ more)

pub answer_answers : (op : DiskOp) (parts : ℕ → Part) (good : ℕ → Bool)
    → answers_op (Some op) (answer_of op parts good) ≡ true
unfolding answer_of
answer_answers op parts good = among_answers op (counting op parts good)
