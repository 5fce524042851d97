use Rattle.amqp_peer.proofs.Laws.{has_fresh, replies_law, causes_law, gated_law, tied_law, said_law, beats_law}
use Rattle.amqp_peer.proofs.promises.ends_keep_their_promises.Goals as goal

pub returns-clause-begins : goal.returns-clause-begins
returns-clause-begins g c = has_fresh

pub returns-clause-replies : goal.returns-clause-replies
returns-clause-replies g c = replies_law

pub returns-clause-causes : goal.returns-clause-causes
returns-clause-causes g c = causes_law

pub returns-clause-writes : goal.returns-clause-writes
returns-clause-writes g c = gated_law

pub returns-clause-frames : goal.returns-clause-frames
returns-clause-frames g c = tied_law

pub returns-clause-says : goal.returns-clause-says
returns-clause-says g c = said_law

pub returns-clause-beats : goal.returns-clause-beats
returns-clause-beats g c = beats_law
