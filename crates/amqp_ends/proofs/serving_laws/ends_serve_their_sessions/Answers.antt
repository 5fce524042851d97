use Rattle.amqp_ends.proofs.Serving.{serves_fresh, serves_looks, serves_calls, serves_polls, serves_on, serves_last, serves_hands, serves_asks, serves_sends, serves_seats, serves_frees, serves_tells, serves_links, by_channel, carries}
use Rattle.amqp_ends.proofs.serving_laws.ends_serve_their_sessions.Goals as goal

pub returns-clause-begins : goal.returns-clause-begins
returns-clause-begins g c = serves_fresh

pub returns-clause-looks : goal.returns-clause-looks
returns-clause-looks g c = serves_looks

pub returns-clause-calls : goal.returns-clause-calls
returns-clause-calls g c = serves_calls g.L.Link

pub returns-clause-polls : goal.returns-clause-polls
returns-clause-polls g c = serves_polls g.L.Link

pub returns-clause-goes_on : goal.returns-clause-goes_on
returns-clause-goes_on g c = serves_on g.L.Link

pub returns-clause-rests : goal.returns-clause-rests
returns-clause-rests g c = serves_last g.L.Link

pub returns-clause-hands : goal.returns-clause-hands
returns-clause-hands g c = serves_hands

pub returns-clause-asks : goal.returns-clause-asks
returns-clause-asks g c = serves_asks

pub returns-clause-sends : goal.returns-clause-sends
returns-clause-sends g c = serves_sends g.L.Link

pub returns-clause-seats : goal.returns-clause-seats
returns-clause-seats g c = serves_seats g.L.Link

pub returns-clause-frees : goal.returns-clause-frees
returns-clause-frees g c = serves_frees g.L.Link

pub returns-clause-tells : goal.returns-clause-tells
returns-clause-tells g c = serves_tells

pub returns-clause-links : goal.returns-clause-links
returns-clause-links g c = serves_links

pub returns-clause-by_channel : goal.returns-clause-by_channel
returns-clause-by_channel g c = by_channel

pub returns-clause-carries : goal.returns-clause-carries
returns-clause-carries g c = carries
