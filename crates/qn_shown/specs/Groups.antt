-- How a group of resources is: its number, and the word of its supervisor. This project's profile.
use Rattle.std.specs.Prelude.{ℕ, Bool, true, false, ◌==◌, List, [], ◌∷◌, Option, codes}
use Rattle.std.specs.List.{find}
use Rattle.std.specs.Str.{bytes_eq}
use Rattle.qn_shown.specs.declared.group.Group.{Group}
use Rattle.qn_shown.specs.declared.group.Group.TheVariants.{NoGroup, Down, Looking, Starting, Runs, Unsure, Stopping, Failed, Stuck, Maintenance, Unattended}

abbrev pub group_number : Group → ℕ
group_number NoGroup = 0
group_number Down = 1
group_number Looking = 2
group_number Starting = 3
group_number Runs = 4
group_number Unsure = 5
group_number Stopping = 6
group_number Failed = 7
group_number Stuck = 8
group_number Maintenance = 9
group_number Unattended = 10

-- what a supervisor can say
abbrev pub said_groups : List Group
said_groups = Down ∷ Looking ∷ Starting ∷ Runs ∷ Unsure ∷ Stopping ∷ Failed ∷ Stuck ∷ Maintenance ∷ []

abbrev pub group_of : ℕ → Option Group
group_of n = find (λ group. n == group_number group) (NoGroup ∷ Down ∷ Looking ∷ Starting ∷ Runs ∷ Unsure ∷ Stopping ∷ Failed ∷ Stuck ∷ Maintenance ∷ Unattended ∷ [])

abbrev pub group_word : Group → List ℕ
group_word NoGroup = codes "none"
group_word Down = codes "down"
group_word Looking = codes "looking"
group_word Starting = codes "starting"
group_word Runs = codes "runs"
group_word Unsure = codes "unsure"
group_word Stopping = codes "stopping"
group_word Failed = codes "failed"
group_word Stuck = codes "stuck"
group_word Maintenance = codes "maintenance"
group_word Unattended = codes "unattended"

-- the group of a word of a supervisor
abbrev pub group_named : List ℕ → Option Group
group_named word = find (λ group. bytes_eq word (group_word group)) said_groups

-- as it should be where its node holds
abbrev pub is_fine : Group → Bool
is_fine NoGroup = true
is_fine Down = false
is_fine Looking = false
is_fine Starting = false
is_fine Runs = true
is_fine Unsure = true
is_fine Stopping = false
is_fine Failed = false
is_fine Stuck = false
is_fine Maintenance = true
is_fine Unattended = false
