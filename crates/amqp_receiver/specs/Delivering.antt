-- The messages of deliveries (OASIS AMQP 1.0, part 3, section 3.2).
use Rattle.std.specs.Prelude.{◌≡◌, ◌⊎◌, ℕ, List, [], ◌∷◌, ◌++◌, Some, None, Result, Ok, Err, Box}
use Rattle.std.specs.declared.alloc.Global.{Global}
use Rattle.amqp_fields.specs.declared.error.BaseError.{BaseError}
use Rattle.amqp_messages.specs.declared.message.Body.{Body}
use Rattle.amqp_messages.specs.declared.message.Message.{Message}
use Rattle.amqp_messages.specs.Reading.{IsTheMessage, SpellsMessage}
use Rattle.amqp_receiver.specs.declared.delivering.Delivery.{Delivery}
use Rattle.amqp_receiver.specs.declared.delivering.RecvReply.{RecvReply}
use Rattle.amqp_receiver.specs.declared.delivering.RecvReply.TheVariants.{Pending, Ready}
use Rattle.amqp_receiver.specs.declared.error.RecvError.{RecvError}
use Rattle.amqp_receiver.specs.declared.error.RecvError.TheVariants as error
use Rattle.amqp_receiver.specs.AutoAccept.{auto_accepted}
use Rattle.amqp_receiver.specs.Receiver.{State}
use Rattle.amqp_receiver.specs.Receiving.{Got, Step, Steps}

-- the bytes of all parts
abbrev pub all_bytes : List (List ℕ) → List ℕ
all_bytes [] = []
all_bytes (p ∷ ps) = p ++ all_bytes ps

-- a message that lies in its own place of memory
abbrev pub unboxed : Result (Box (Message Body) Global) BaseError → Result (Message Body) BaseError
unboxed (Ok place) = Ok place.value
unboxed (Err error) = Err error

-- what the bytes of a delivery spell
abbrev pub Decodes : Result Delivery RecvError → ℕ → Got → Type 0
Decodes (Ok d) handle x = (d.info ≡ x.info) × (d.link_handle ≡ handle) × (d.message_format ≡ x.message_format) × IsTheMessage (Ok d.message.value) (SpellsMessage (all_bytes x.payloads))
Decodes (Err (error.Memory a)) handle x = Unit {0}
Decodes (Err (error.MessageDecode info source)) handle x = (info ≡ x.info) × IsTheMessage (Err source) (SpellsMessage (all_bytes x.payloads))
Decodes (Err e) handle x = ⊥

-- a message that is given is accepted, where that is to be done at once
abbrev pub given_behind : Result Delivery RecvError → Got → State → State
given_behind (Ok d) x s = auto_accepted x.info s
given_behind (Err e) x s = s

-- this is what the bytes of a delivery spell that is complete
abbrev pub IsGiven : Result Delivery RecvError → Got → State → State → Type 0
IsGiven result x old new = (new ≡ given_behind result x old) × Decodes result old.link.own.handle x

abbrev pub Gives : Result RecvReply RecvError → Got → State → State → Type 0
Gives (Ok Pending) x old new = ⊥
Gives (Ok (Ready d)) x old new = IsGiven (Ok d) x old new
Gives (Err (error.Memory a)) x old new = Unit {0}
Gives (Err e) x old new = IsGiven (Err e) x old new

-- a delivery was complete, and this is what its bytes spell
abbrev pub GivesMessage : Result Delivery RecvError → Step → State → Type 0
GivesMessage result step new = (x : Got) × ((step.answer ≡ Some (Ok x)) × IsGiven result x step.state new)

-- a message, none yet, or why there is none
abbrev pub Receives : Result RecvReply RecvError → Step → State → Type 0
Receives (Ok Pending) step new = Steps (Ok None) step new
Receives (Ok (Ready d)) step new = GivesMessage (Ok d) step new
Receives (Err e) step new = Steps (Err e) step new ⊎ GivesMessage (Err e) step new
