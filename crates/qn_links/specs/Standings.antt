-- Whether a node may hold the resource, and how gladly it is to: `nodelist`, `node`, `standby` and `location_score`. This project's profile;
-- the keys are after Pacemaker's standby nodes and location scores.
use Rattle.std.specs.Prelude.{◌≡◌, ◌≢◌, ℕ, ◌==◌, nat_le, Bool, true, false, List, [], ◌∷◌, Option, Some, None, codes, option_and_then, option_map, if◌then◌else◌}
use Rattle.std.specs.Str.{bytes_eq}
use Rattle.qn_base.specs.Decimal.{number_of}
use Rattle.qn_base.specs.declared.ids.NodeId.{NodeId}
use Rattle.qn_links.specs.declared.sections.NodeSection.{NodeSection}
use Rattle.qn_links.specs.declared.standing.StandingFault.{StandingFault}
use Rattle.qn_links.specs.declared.standing.StandingFault.TheVariants.{Standby, LocationScore}

-- the first section of that node
abbrev pub section_of : List NodeSection → NodeId → Option NodeSection
section_of [] id = None
section_of (section ∷ sections) id = if section.id.0 == id.0 then Some section else section_of sections id

-- `standby`: `yes` or `no`, and no where it is not written
abbrev pub standby_in : Option (List ℕ) → Option Bool
standby_in None = Some false
standby_in (Some text) = if bytes_eq text (codes "yes") then Some true else if bytes_eq text (codes "no") then Some false else None

abbrev pub score_number : ℕ → Option ℕ
score_number number = if nat_le number 254 then Some number else None

-- `location_score`: a decimal number from 0 to 254, and 0 where it is not written
abbrev pub score_in : Option (List ℕ) → Option ℕ
score_in None = Some 0
score_in (Some text) = option_and_then score_number (number_of text)

-- whether the first section of that node makes it a standby; none where what it writes is no answer
abbrev pub standby_of : List NodeSection → NodeId → Option Bool
standby_of sections id = standby_in (option_and_then (λ section. option_map (λ written. written.now) section.standby) (section_of sections id))

-- the score by the first section of that node; none where what it writes is no score
abbrev pub score_of : List NodeSection → NodeId → Option ℕ
score_of sections id = score_in (option_and_then (λ section. option_map (λ written. written.now) section.score) (section_of sections id))

-- the first fault: `standby` is misread, or `location_score` alone is
abbrev pub IsMisread : List NodeSection → NodeId → StandingFault → Type 0
IsMisread sections id Standby = standby_of sections id ≡ None
IsMisread sections id LocationScore = (standby_of sections id ≢ None) × (score_of sections id ≡ None)
