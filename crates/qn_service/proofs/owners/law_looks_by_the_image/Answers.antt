use Rattle.qn_service.proofs.ByTheImage.{looks_by_the_image, looks_by_the_image_again}
use Rattle.qn_service.proofs.owners.law_looks_by_the_image.Goals as goal

pub returns-clause-new : goal.returns-clause-new
returns-clause-new c = λ s t. looks_by_the_image s t (c.law_worlds.ensures s t) c.law_read_back.ensures.header

pub returns-clause-again : goal.returns-clause-again
returns-clause-again c = λ s t safe. looks_by_the_image_again s t (c.law_worlds_again.ensures s t safe) c.law_read_back.ensures.header
