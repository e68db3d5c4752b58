-- Where the sectors of a node stand, and what its images say together (this project's profile).
use Rattle.std.specs.Prelude.{ℕ, ◌+◌, ◌/◌, ◌%◌, ◌&&◌, ◌||◌, Bool, true, false, nat_lt, is_some, List, slice_index_or, Option, None, if◌then◌else◌}
use Rattle.qn_outside.specs.declared.layout.Layout.{Layout}
use Rattle.qn_outside.specs.declared.layout.Layout.TheVariants as layout
use Rattle.qn_outside.specs.declared.times.Times.{Times}
use Rattle.qn_outside.specs.Times.{lesser}

-- which of the images has a sector
abbrev pub image_of : Layout → ℕ → ℕ
image_of layout.One sector = 0
image_of layout.Three sector = sector / 1024

-- and which of its sectors it is
abbrev pub sector_there : Layout → ℕ → ℕ
sector_there layout.One sector = sector
sector_there layout.Three sector = sector % 1024

abbrev pub is_three : Layout → Bool
is_three layout.One = false
is_three layout.Three = true

-- the last write was done on the image, or on two of three
abbrev pub is_written : Layout → List Bool → Bool
is_written layout.One wrote = slice_index_or wrote 0 false
is_written layout.Three wrote =
    slice_index_or wrote 0 false && slice_index_or wrote 1 false
    || slice_index_or wrote 2 false && (slice_index_or wrote 0 false || slice_index_or wrote 1 false)

-- how many headers have to say times
abbrev pub wanted : Layout → ℕ
wanted layout.One = 1
wanted layout.Three = 2

abbrev pub as_one : Bool → ℕ
as_one true = 1
as_one false = 0

-- how many of three headers say times
abbrev pub said_by : List (Option Times) → ℕ
said_by said =
    as_one (is_some (slice_index_or said 0 None)) + as_one (is_some (slice_index_or said 1 None))
    + as_one (is_some (slice_index_or said 2 None))

-- the least of what three headers say, of those that say any
abbrev pub least_of : List (Option Times) → Option Times
least_of said = lesser (slice_index_or said 0 None) (lesser (slice_index_or said 1 None) (slice_index_or said 2 None))

-- what the headers say together, where enough of them say any
abbrev pub times_on : Layout → List (Option Times) → Option Times
times_on images said = if nat_lt (said_by said) (wanted images) then None else least_of said
