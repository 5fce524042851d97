-- What passed at a link as reads gave bytes, event by event.
use Rattle.std.proofs.Common.{inl, ◌≡◌, ◌≤◌, ℕ, List, [], ◌∷◌, ◌++◌, Option, Some, None, refl, sym, ◌∙◌, subst, arith}
use Rattle.amqp_wire.specs.declared.link.Link.{Ghosts}
use Rattle.amqp_wire.specs.declared.link.Stop.{Stop}
use Rattle.amqp_wire.specs.Steps.{Gave, ReadBy}
use Rattle.amqp_wire.specs.Codec.{Codec, Fed}
use Rattle.amqp_wire.specs.Events.{LinkEvent, Read, NotRead, Went, read_of, wrote_of, reads_in, Includes}
use Rattle.amqp_transport.specs.Causes.{IsLast}

abbrev pub read_events : List ℕ → List LinkEvent
read_events [] = []
read_events (b ∷ bytes) = Read (b ∷ bytes) ∷ []

abbrev pub stop_events : Option Stop → List LinkEvent
stop_events None = []
stop_events (Some stop) = NotRead stop ∷ []

-- reads that gave these bytes, if any, and then the last of them
abbrev pub events_of : List ℕ → Option Stop → List LinkEvent
events_of bytes stop = stop_events stop ++ read_events bytes

-- these bytes were read in these events, and none were written
pub record Passed {L : Type 0} (link : Ghosts L) (old : L) (bytes : List ℕ) (events : List LinkEvent) (new : L) : Type 0 where
  pub went : Went link old events new
  pub silent : wrote_of events ≡ []
  pub few : reads_in events ≤ 1
  pub read : read_of events ≡ bytes

pub passed : {L : Type 0} (link : Ghosts L) (a b : L) (bytes : List ℕ) (stop : Option Stop) → ReadBy link a bytes stop b → Passed link a bytes (events_of bytes stop) b
passed link a b [] None r = record { went = r.last ∙ r.none refl; silent = refl; few = omega arith; read = refl }
passed link a b [] (Some s) r = record { went = (r.mid, r.none refl, r.last); silent = refl; few = omega arith; read = refl }
passed {L} link a b (x ∷ xs) None r = record { went = (a, refl, (omega arith, subst (λ (c : L). Gave link a (x ∷ xs) c) (sym r.last) r.gave)); silent = refl; few = omega arith; read = refl }
passed link a b (x ∷ xs) (Some s) r = record { went = (r.mid, (a, refl, (omega arith, r.gave)), r.last); silent = refl; few = omega arith; read = refl }

-- bytes that came in with no answer of the last read
pub fed_reads : {L : Type 0} (link : Ghosts L) (a b : Codec L) (bytes : List ℕ) → Fed link a bytes b → ReadBy link a.link bytes None b.link
fed_reads link a b bytes f = record { mid = b.link; gave = f.gave; none = f.none; last = refl }

-- the last event is one of them
pub last_included : (events : List LinkEvent) (y : LinkEvent) → IsLast events y → Includes events y
last_included [] y p = absurd p
last_included (x ∷ events) y p = inl p

-- the last event is the last, whatever was before
pub last_left : (fs es : List LinkEvent) (y : LinkEvent) → IsLast fs y → IsLast (fs ++ es) y
last_left [] es y p = absurd p
last_left (x ∷ fs) es y p = p
