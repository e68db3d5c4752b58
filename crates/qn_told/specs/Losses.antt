-- Which of three images are lost, and of which that is told (this project's profile, LIVE.md "The journal").
use Rattle.std.specs.Prelude.{ℕ, ◌+◌, ◌/◌, ◌&&◌, ◌||◌, Bool, false, not, cond, List, Option, Some, None, nat_lt, slice_index_or, slice_set, if◌then◌else◌}
use Rattle.qn_told.specs.declared.images.ImageNews.{ImageNews}
use Rattle.qn_told.specs.declared.images.Images.{Images}

-- what is noted of the image at a place, where there is one
abbrev pub noted_at : ℕ → Bool → List Bool → List Bool
noted_at place is_so noted = if nat_lt place 3 then slice_set noted place is_so else noted

abbrev pub at : List Bool → ℕ → Bool
at noted place = slice_index_or noted place false

-- a call on a sector was done or failed; the first sector of an image is a header or none; the node's mailbox on one is one or none
abbrev pub called : Images → ℕ → Bool → Images
called images sector ok = record images {
  are_three = images.are_three || nat_lt 0 (sector / 1024);
  failed = noted_at (sector / 1024) (not ok) images.failed;
}

abbrev pub headed : Images → ℕ → Bool → Images
headed images place is_one = record images { without_header = noted_at place (not is_one) images.without_header }

abbrev pub mailboxed : Images → ℕ → Bool → Images
mailboxed images place is_one = record images { without_mailbox = noted_at place (not is_one) images.without_mailbox }

-- its last call failed, it has no header, or the node's mailbox on it is none
abbrev pub is_lost : Images → ℕ → Bool
is_lost images place = at images.failed place || at images.without_header place || at images.without_mailbox place

abbrev pub differ : Bool → Bool → Bool
differ one other = if one then not other else other

abbrev pub is_changed : Images → ℕ → Bool
is_changed images place = differ (at images.told place) (is_lost images place)

-- the first of three of which there is news
abbrev pub place_of_news : Images → Option ℕ
place_of_news images =
    if not images.are_three then None
    else if is_changed images 0 then Some 0
    else if is_changed images 1 then Some 1
    else if is_changed images 2 then Some 2 else None

abbrev pub image_news : Images → ℕ → ImageNews
image_news images place = record { image = place + 1; is_lost = is_lost images place }

abbrev pub after_news : Images → Option ℕ → Images
after_news images None = images
after_news images (Some place) = record images { told = slice_set images.told place (is_lost images place) }

-- how many are not lost
abbrev pub good_count : Images → ℕ
good_count images = cond (is_lost images 0) 0 1 + cond (is_lost images 1) 0 1 + cond (is_lost images 2) 0 1

-- on how many a node runs, where these are fewer than three
abbrev pub fewer : Bool → ℕ → Option ℕ
fewer are_three good = if are_three && nat_lt good 3 then Some good else None
