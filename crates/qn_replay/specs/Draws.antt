-- The draws of the generator of events: this project's profile.
use Rattle.std.specs.Prelude.{ℕ, ◌+◌, ◌*◌, ◌/◌, ◌%◌, ◌^◌}

-- the state after one more draw
unfoldable pub next_state : ℕ → ℕ
next_state state = (state * 6364136223846793005 + 1442695040888963407) % 2 ^ 64

-- the value of the draw that led to this state
unfoldable pub draw_at : ℕ → ℕ
draw_at state = state / 8589934592
