-- What an end may have written, by its calls, what it wrote and what it read: nothing but the SASL header and SASL frames before its
-- check holds (OASIS AMQP 1.0, part 5, section 5.3.2), and then a legal conversation (part 2, section 2.4).
use Rattle.std.specs.Prelude.{◌≡◌, ◌⊎◌, ℕ, List, [], ◌∷◌, ◌++◌, Option, Some, None}
use Rattle.amqp_transport.specs.declared.frames.Frame.{Frame}
use Rattle.amqp_engine.specs.Sentence.{bytes_of_all, IsBegun, IsClosed}
use Rattle.amqp_opening.specs.declared.authentication.SaslCall.{SaslCall}
use Rattle.amqp_opening.specs.Gated.{IsGatedBy}
use Rattle.amqp_opening.specs.Opening.{amqp_header}
use Rattle.amqp_words.specs.declared.call.Call.{Call}
use Rattle.amqp_peer.specs.Prepared.{sasl_of}

-- the AMQP header, then Open, frames of sessions and empty frames, at most one Close, and nothing after it; the last may be cut off
pub record IsConversation (wrote : List ℕ) : Type 0 where
  pub frames : List Frame
  pub rest : List ℕ
  pub is : wrote ++ rest ≡ amqp_header ++ bytes_of_all frames
  pub form : IsBegun frames ⊎ IsClosed frames

-- the AMQP header begins so, or a conversation does
abbrev pub IsTalk : List ℕ → Type 0
IsTalk wrote = ((rest : List ℕ) × (wrote ++ rest ≡ amqp_header)) ⊎ IsConversation wrote

-- only the SASL layer was written, or its check holds and a conversation follows; without that layer there is the conversation alone
abbrev pub IsGatedIn : Option SaslCall → List ℕ → List ℕ → Type 0
IsGatedIn None wrote read = IsTalk wrote
IsGatedIn (Some call) wrote read = IsGatedBy IsTalk call wrote read

-- an end that made no call wrote nothing; its first call says what it may write
abbrev pub IsGated : List (ℕ × Call) → List ℕ → List ℕ → Type 0
IsGated [] wrote read = wrote ≡ []
IsGated (call ∷ []) wrote read = IsGatedIn (sasl_of call.1) wrote read
IsGated (call ∷ earlier ∷ calls) wrote read = IsGated (earlier ∷ calls) wrote read
