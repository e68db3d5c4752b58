-- A resource that runs is held: what is known of a running node alone. This project's profile.
use Rattle.std.specs.Prelude.{◌≡◌, Bool, true, false, not, Option, None, Some}
use Rattle.qn_model.specs.declared.entries.What.{What}
use Rattle.qn_model.specs.Holding.{holds, is_stopped}
use Rattle.qn_live.specs.declared.place.Choice.{Choice}
use Rattle.qn_live.specs.declared.place.Choice.TheVariants as choice
use Rattle.qn_joined.specs.Stands.{Spot, Receiving, Looking, Acting, Polling, Saying, Parting, Ended, log_at, waits_at}

-- a stop that succeeded waits for its turn
abbrev pub is_done_stop : Option Bool → Bool
is_done_stop None = false
is_done_stop (Some ok) = ok

abbrev pub is_no_stop : Option Bool → Bool
is_no_stop None = true
is_no_stop (Some ok) = false

-- the answer of the disk that waits is no answer of a stop
abbrev pub is_calm : Option What → Bool
is_calm None = true
is_calm (Some answer) = not (is_stopped answer)

-- what is taken is a stop that succeeded
abbrev pub stops_in : Choice → Bool
stops_in (choice.Whole entry) = is_stopped entry
stops_in (choice.Open p) = false
stops_in (choice.Answer reply) = false

-- a stop that succeeded is on its way to the node
abbrev pub stop_waits : Spot → Bool
stop_waits (Receiving st) = is_done_stop st.waits.stopped
stop_waits (Looking chosen) = stops_in chosen.0
stop_waits (Acting entry outs o rest st) = is_done_stop st.waits.stopped
stop_waits (Polling poll sents st) = is_done_stop st.waits.stopped
stop_waits (Saying sent rest st) = is_done_stop st.waits.stopped
stop_waits (Parting end sent rest st) = is_done_stop st.waits.stopped
stop_waits (Ended ran) = false

-- no answer of a stop is passed over
abbrev pub is_free : Spot → Bool
is_free (Receiving st) = is_no_stop st.waits.stopped
is_free (Looking chosen) = is_no_stop chosen.1.waits.stopped
is_free (Acting entry outs o rest st) = true
is_free (Polling poll sents st) = true
is_free (Saying sent rest st) = true
is_free (Parting end sent rest st) = true
is_free (Ended ran) = true

-- a resource that runs is held where a run stands
pub record Owns (spot : Spot) (runs : Bool) : Type 0 where
  pub held : runs ≡ true → (holds (log_at spot) ≡ true) × (stop_waits spot ≡ false)
  pub free : is_free spot ≡ true
  pub calm : is_calm (waits_at spot).disk ≡ true
