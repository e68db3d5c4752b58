use Rattle.qn_member.proofs.NamedViews.{handed_not_chosen}
use Rattle.qn_member.proofs.naming_laws.law_barred_copies.Goals as goal

pub returns : goal.returns
returns c = λ m found view bars hands. handed_not_chosen m found view bars hands
