-- What a Begin of this end says of the handles is no part of what waits.
use Rattle.std.proofs.Common.{◌≡◌, List, [], ◌∷◌, refl}
use Rattle.amqp_transport.specs.declared.frames.Frame.{Frame}
use Rattle.amqp_engine.specs.Channels.{Channels, said_in, said_all}

pub said_keeps : (c : Channels) (xs : List Frame) → ((said_all c xs).begun ≡ c.begun) × ((said_all c xs).incoming ≡ c.incoming)
said_keeps c [] = (refl, refl)
said_keeps c (x ∷ xs) = said_keeps (said_in c x) xs
