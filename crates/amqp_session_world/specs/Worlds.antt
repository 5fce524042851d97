-- Two ends with sessions, as a step sees them.
use Rattle.amqp_session_world.specs.declared.world.SessionWorld.{SessionWorld}
use Rattle.amqp_session_world.specs.Paired.{seen}
use Rattle.amqp_session_world.specs.Turn.{View}

-- both ends, which of their sessions pair, the entries of the steps made, and the moment of the last
abbrev pub view_of : SessionWorld → View
view_of w = record { client = w.client; listener = w.listener; paired = seen w.pairs; entries = w.trace.entries.items; moment = w.moment }
