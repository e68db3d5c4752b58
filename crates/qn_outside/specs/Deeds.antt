-- What the outside of a node has its machine do, part by part, and which calls of a node that is.
use Rattle.std.specs.Prelude.{◌≡◌, ℕ, ◌+◌, ◌<◌, ◌≤◌, Bool, true, List, [], ◌∷◌, ◌++◌, Option, None, Some, IsSomeAnd}
use Rattle.qn_base.specs.declared.calls.Call.{Call}
use Rattle.qn_base.specs.declared.calls.Call.TheVariants as call
use Rattle.qn_exchange.specs.declared.order.Order.{Order}
use Rattle.qn_exchange.specs.declared.order.Order.TheVariants as order
use Rattle.qn_exchange.specs.Feeds.{feed_limit}
use Rattle.qn_io.specs.declared.calls.Opening.{Opening}
use Rattle.qn_io.specs.Openings.{node_opening}

pub data Deed : Type 0 where
  -- the clock answered a node; whether it could be read
  Ticked : ℕ → Bool → Deed
  -- the clock was looked at for a feed
  Glanced : Option ℕ → Deed
  Ordered : Order → Bool → Deed
  -- a feed that was decided at the first tick was asked for at the second one, beside that feed delay
  Fed : Option ℕ → Option ℕ → ℕ → Bool → Deed
  Disarmed : Bool → Deed
  -- the parts of an opening: the port, the images, their headers' watchdog's time and feed delay, the first stop, the look at the watchdog
  -- beside a watchdog's time, the arming, and what was said of it
  Listened : Bool → Deed
  ImagesOpened : Bool → Deed
  HeadersRead : ℕ → ℕ → Bool → Deed
  StoppedFirst : Bool → Deed
  Looked : ℕ → Bool → Deed
  Armed : Bool → Deed
  Opened : Opening → Bool → Deed

-- the call of a node that a deed is; the parts of an opening are none by themselves, and no look at the clock for a feed
abbrev pub call_of : Deed → List Call
call_of (Ticked tick ok) = call.Now tick ∷ []
call_of (Glanced tick) = []
call_of (Ordered order.Start ok) = call.Start ok ∷ []
call_of (Ordered order.Stop ok) = call.Stop ok ∷ []
call_of (Fed last tick delay ok) = call.Feed ok ∷ []
call_of (Disarmed ok) = call.Disarm ok ∷ []
call_of (Listened ok) = []
call_of (ImagesOpened ok) = []
call_of (HeadersRead watchdog delay ok) = []
call_of (StoppedFirst ok) = []
call_of (Looked watchdog ok) = []
call_of (Armed ok) = []
call_of (Opened opening ok) = node_opening opening ok ∷ []

abbrev pub calls_of : List Deed → List Call
calls_of [] = []
calls_of (deed ∷ deeds) = call_of deed ++ calls_of deeds

-- the deeds that are told grow by these, where they are still told
abbrev pub Does : Option (List Deed) → Option (List Deed) → List Deed → Type 0
Does old None more = Unit {0}
Does None (Some new) more = ⊥
Does (Some old) (Some new) more = new ≡ old ++ more

-- the parts of an opening that succeeded, in their order
abbrev pub parts_in_order : ℕ → ℕ → List Deed
parts_in_order watchdog kept =
    Listened true ∷ ImagesOpened true ∷ HeadersRead watchdog kept true ∷ StoppedFirst true ∷ Looked watchdog true ∷ Armed true ∷ []

pub record OpensParts (old new : Option (List Deed)) (kept : ℕ) : Type 0 where
  pub watchdog : ℕ
  pub did : Does old new (parts_in_order watchdog kept)

-- an opening that succeeded: all else is there before the watchdog is armed, the resource is stopped, and the watchdog is beside the image's
-- own time; the feed delay that is kept is the image's
pub record OpensInOrder (old new : Option (List Deed)) (opening : Opening) (kept : ℕ) : Type 0 where
  pub watchdog : ℕ
  pub did : Does old new (parts_in_order watchdog kept ++ Opened opening true ∷ [])

-- deeds that are no call of a node
pub record Silent (old new : Option (List Deed)) : Type 0 where
  pub deeds : List Deed
  pub did : Does old new deeds
  pub none : calls_of deeds ≡ []

-- a feed is in time: so many milliseconds after the last answer of the clock, of the image's feed delay
abbrev pub IsInTime : Option ℕ → Option ℕ → ℕ → Type 0
IsInTime last tick delay = IsSomeAnd last (λ l. IsSomeAnd tick (λ t. (l ≤ t) × (t < l + feed_limit delay)))

-- a feed that was given: beside the last answer of the clock, at a look at the clock of its own, in time beside the feed delay that was kept
pub record FeedsInTime (old new : Option (List Deed)) (last : Option ℕ) (delay : ℕ) : Type 0 where
  pub tick : Option ℕ
  pub did : Does old new (Glanced tick ∷ Fed last tick delay true ∷ [])
  pub in_time : IsInTime last tick delay
