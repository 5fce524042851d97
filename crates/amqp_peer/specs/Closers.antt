-- Whose Close came first at an end (OASIS AMQP 1.0, part 2, section 2.4.3).
use Rattle.std.specs.Prelude.{List, [], ◌∷◌}
use Rattle.amqp_engine.specs.Closers.{Closer, Nobody, This, Peer, closer_by}
use Rattle.amqp_peer.specs.History.{Local, Made, Polled, AtLink, Exchanged, Got, Put, Replied}

-- no Close was queued or read, this end queued its own before it read one, or it read the peer's first
abbrev pub closer_in : List Local → Closer
closer_in [] = Nobody
closer_in (Made at name call ∷ h) = closer_in h
closer_in (Polled at ∷ h) = closer_in h
closer_in (AtLink x ∷ h) = closer_in h
closer_in (Exchanged ∷ h) = closer_in h
closer_in (Got x ∷ h) = closer_by Peer x.body (closer_in h)
closer_in (Put x ∷ h) = closer_by This x.body (closer_in h)
closer_in (Replied r ∷ h) = closer_in h
