-- What is read of the bytes of a message or a body.
use Rattle.std.proofs.Common.{◌≡◌, ℕ, List, Result, Ok, Err, subst}
use Rattle.amqp_data.specs.Data.{Items}
use Rattle.amqp_fields.specs.declared.error.BaseError.{BaseError}
use Rattle.amqp_fields.specs.declared.error.BaseError.TheVariants as errors
use Rattle.amqp_described.specs.Reading.{IsTheOne}
use Rattle.amqp_messages.specs.declared.message.Message.{Message}
use Rattle.amqp_messages.specs.declared.message.Body.{Body}
use Rattle.amqp_messages.specs.Message.{Said, seen}
use Rattle.amqp_messages.specs.Reading.{IsTheMessage, SpellsMessage}
use Rattle.amqp_messages.specs.Writing.{message_items, AllFit, Encodes as EncodesMessage}
use Rattle.amqp_described.specs.Bodies.{Encodes as EncodesBody}
use Rattle.amqp_readback.specs.Bodies.{ComesBack, FitFrames}

-- ---- messages

message_read : (r : Result (Message Body) BaseError) (bytes : List ℕ) (m : Message Said) → SpellsMessage bytes m → AllFit (message_items m) → IsTheMessage r (SpellsMessage bytes) → ComesBack seen r m (AllFit (message_items m))
message_read (Ok x) bytes m s f h = (h.1 m s, f)
message_read (Err (errors.Memory a)) bytes m s f h = tt
message_read (Err errors.Decode) bytes m s f h = h m s
message_read (Err errors.Size) bytes m s f h = absurd h

pub message_back : (r : Result (Message Body) BaseError) (input bytes : List ℕ) (m : Message Said) → input ≡ bytes → EncodesMessage (Ok bytes) (message_items m) → SpellsMessage bytes m → IsTheMessage r (SpellsMessage input) → ComesBack seen r m (AllFit (message_items m))
message_back r input bytes m is w s h = message_read r bytes m s w.1 (subst (λ (z : List ℕ). IsTheMessage r (SpellsMessage z)) is h)

pub message_unwritten : (e : BaseError) (m : Message Said) → EncodesMessage (Err e) (message_items m) → ComesBack seen (Err e) m (AllFit (message_items m))
message_unwritten (errors.Memory a) m h = tt
message_unwritten errors.Decode m h = absurd h
message_unwritten errors.Size m h = h

-- ---- bodies

one_read : {A : Type 0} (r : Result A BaseError) (Holds : A → Type 0) (x : A) (Fits : Type 0) → Holds x → Fits → IsTheOne r Holds → ComesBack (λ y. y) r x Fits
one_read (Ok y) Holds x Fits s f h = (h.1 x s, f)
one_read (Err (errors.Memory a)) Holds x Fits s f h = tt
one_read (Err errors.Decode) Holds x Fits s f h = h x s
one_read (Err errors.Size) Holds x Fits s f h = absurd h

pub body_back : {A : Type 0} (r : Result A BaseError) (Spell : List ℕ → A → Type 0) (input bytes payload : List ℕ) (x : A) (vs : Items) → input ≡ bytes → EncodesBody (Ok bytes) vs payload → Spell bytes x → IsTheOne r (Spell input) → ComesBack (λ y. y) r x (FitFrames vs)
body_back r Spell input bytes payload x vs is w s h = one_read r (Spell bytes) x (FitFrames vs) s (w.1, w.2) (subst (λ (z : List ℕ). IsTheOne r (Spell z)) is h)

pub body_unwritten : {A : Type 0} (e : BaseError) (payload : List ℕ) (x : A) (vs : Items) → EncodesBody (Err e) vs payload → ComesBack (λ (y : A). y) (Err e) x (FitFrames vs)
body_unwritten (errors.Memory a) payload x vs h = tt
body_unwritten errors.Decode payload x vs h = absurd h
body_unwritten errors.Size payload x vs h = λ f. h f.0 f.1
