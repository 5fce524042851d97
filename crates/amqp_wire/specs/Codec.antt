-- What a codec went through in one call.
use Rattle.std.specs.Prelude.{◌≡◌, ℕ, List, [], ◌++◌, Option, None}
use Rattle.amqp_wire.specs.declared.link.Link.{Ghosts}
use Rattle.amqp_wire.specs.declared.link.Held.{Held}
use Rattle.amqp_wire.specs.Steps.{Gave, Took, WroteBy}

-- a link, what was read of it and not given, what is to be written, and the most bytes of a frame that is read and of one
-- that is written
pub record Codec (L : Type 0) : Type 0 where
  pub link : L
  pub input : List ℕ
  pub output : List ℕ
  pub decoder : ℕ
  pub encoder : ℕ

-- both limits
abbrev pub limits_of : {L : Type 0} → Codec L → ℕ × ℕ
limits_of c = (c.decoder, c.encoder)

-- bytes came in, and nothing else changed; where none came, the link was not read
pub record Fed {L : Type 0} (link : Ghosts L) (old : Codec L) (bytes : List ℕ) (new : Codec L) : Type 0 where
  pub gave : Gave link old.link bytes new.link
  pub none : bytes ≡ [] → new.link ≡ old.link
  pub rest : new ≡ record old { link = new.link; input = old.input ++ bytes }

-- bytes went out, and nothing else changed
pub record Sent {L : Type 0} (link : Ghosts L) (old : Codec L) (bytes : List ℕ) (new : Codec L) : Type 0 where
  pub took : Took link old.link bytes new.link
  pub rest : new ≡ record old { link = new.link; output = new.output }
  pub out : old.output ≡ bytes ++ new.output

-- these bytes went out, and nothing else changed; all of them, if nothing held them
pub record Flushed {L : Type 0} (link : Ghosts L) (old : Codec L) (held : Option Held) (new : Codec L) : Type 0 where
  pub bytes : List ℕ
  pub writes : WroteBy link old.link bytes held new.link
  pub rest : new ≡ record old { link = new.link; output = new.output }
  pub out : old.output ≡ bytes ++ new.output
  pub all : held ≡ None → new.output ≡ []
