-- How late a feed is still given (this project's profile).
use Rattle.std.specs.Prelude.{ℕ, ◌/◌, min}

-- half the feed delay of the image, and never more than 500 milliseconds
abbrev pub feed_limit : ℕ → ℕ
feed_limit feed_delay = min 500 (feed_delay / 2)
