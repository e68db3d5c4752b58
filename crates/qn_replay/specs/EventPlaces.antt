-- The event of a soak that was drawn last, in the place of its kind: this project's profile.
use Rattle.qn_model.specs.declared.events.Event.{Event}
use Rattle.qn_replay.specs.declared.event_places.Events.{Events}
use Rattle.qn_replay.specs.declared.event_places.Place.{Place}
use Rattle.qn_replay.specs.declared.event_places.Place.TheVariants as place

abbrev pub event_in : Place → Events → Event
event_in place.Pass events = events.pass
event_in place.View events = events.view
event_in place.Deliver events = events.deliver
event_in place.Device events = events.device
event_in place.Tick events = events.tick
event_in place.Feed events = events.feed
event_in place.Land events = events.land
event_in place.Done events = events.done
event_in place.Other events = events.other
