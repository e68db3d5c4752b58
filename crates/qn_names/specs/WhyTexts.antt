-- The first condition that blocks a start, as a trace, a status and a journal print it: this project's profile.
use Rattle.std.specs.Prelude.{ℕ, true, false, List, ◌++◌, codes, decimal}
use Rattle.qn_model.specs.declared.life.Why.{Why}
use Rattle.qn_model.specs.declared.life.Why.TheVariants.{Down, Holding, NoView, WaitForAll, NotQuorate, NotChosen, HeldBy, Unheard, Unfenced, Clear}

-- the first condition that blocks a start
abbrev pub why_text : Why → List ℕ
why_text Down = codes "down"
why_text Holding = codes "holding"
why_text NoView = codes "no-view"
why_text WaitForAll = codes "wait-for-all"
why_text (NotQuorate votes quorum) = codes "not-quorate:" ++ decimal votes ++ codes "/" ++ decimal quorum
why_text (NotChosen id) = codes "not-chosen:" ++ decimal id.0
why_text (HeldBy id) = codes "held-by:" ++ decimal id.0
why_text (Unheard id) = codes "unheard:" ++ decimal id.0
why_text (Unfenced id false left) = codes "unfenced:" ++ decimal id.0 ++ codes ":unwritten"
why_text (Unfenced id true left) = codes "unfenced:" ++ decimal id.0 ++ codes ":" ++ decimal left
why_text Clear = codes "clear"
