-- What happens at one end, event by event, the newest first.
use Rattle.std.specs.Prelude.{◌≡◌, ℕ, List, [], ◌∷◌, ◌++◌}
use Rattle.amqp_transport.specs.declared.frames.Frame.{Frame}
use Rattle.amqp_wire.specs.Events.{LinkEvent, read_of, wrote_of}
use Rattle.amqp_words.specs.declared.call.Call.{Call}
use Rattle.amqp_words.specs.declared.reply.NamedReply.{NamedReply}

-- a call at a moment with its name, a poll at a moment, what passed at the link, the end of the exchange of headers, a frame that was
-- read, a frame that was queued, a reply
pub data Local : Type 0 where
  Made : ℕ → ℕ → Call → Local
  Polled : ℕ → Local
  AtLink : LinkEvent → Local
  Exchanged : Local
  Got : Frame → Local
  Put : Frame → Local
  Replied : NamedReply → Local

-- the calls with their names, the newest first
abbrev pub made_in : List Local → List (ℕ × Call)
made_in [] = []
made_in (Made at name call ∷ h) = (name, call) ∷ made_in h
made_in (Polled at ∷ h) = made_in h
made_in (AtLink x ∷ h) = made_in h
made_in (Exchanged ∷ h) = made_in h
made_in (Got x ∷ h) = made_in h
made_in (Put x ∷ h) = made_in h
made_in (Replied r ∷ h) = made_in h

-- what passed at the link, the newest first
abbrev pub link_in : List Local → List LinkEvent
link_in [] = []
link_in (Made at name call ∷ h) = link_in h
link_in (Polled at ∷ h) = link_in h
link_in (AtLink x ∷ h) = x ∷ link_in h
link_in (Exchanged ∷ h) = link_in h
link_in (Got x ∷ h) = link_in h
link_in (Put x ∷ h) = link_in h
link_in (Replied r ∷ h) = link_in h

-- what passed at the link since the last call or poll, the newest first
abbrev pub latest_in : List Local → List LinkEvent
latest_in [] = []
latest_in (Made at name call ∷ h) = []
latest_in (Polled at ∷ h) = []
latest_in (AtLink x ∷ h) = x ∷ latest_in h
latest_in (Exchanged ∷ h) = latest_in h
latest_in (Got x ∷ h) = latest_in h
latest_in (Put x ∷ h) = latest_in h
latest_in (Replied r ∷ h) = latest_in h

-- the frames that were read, in order
abbrev pub given_in : List Local → List Frame
given_in [] = []
given_in (Made at name call ∷ h) = given_in h
given_in (Polled at ∷ h) = given_in h
given_in (AtLink x ∷ h) = given_in h
given_in (Exchanged ∷ h) = given_in h
given_in (Got x ∷ h) = given_in h ++ x ∷ []
given_in (Put x ∷ h) = given_in h
given_in (Replied r ∷ h) = given_in h

-- the frames that were queued, in order
abbrev pub sent_in : List Local → List Frame
sent_in [] = []
sent_in (Made at name call ∷ h) = sent_in h
sent_in (Polled at ∷ h) = sent_in h
sent_in (AtLink x ∷ h) = sent_in h
sent_in (Exchanged ∷ h) = sent_in h
sent_in (Got x ∷ h) = sent_in h
sent_in (Put x ∷ h) = sent_in h ++ x ∷ []
sent_in (Replied r ∷ h) = sent_in h

-- the replies, in order
abbrev pub replied_in : List Local → List NamedReply
replied_in [] = []
replied_in (Made at name call ∷ h) = replied_in h
replied_in (Polled at ∷ h) = replied_in h
replied_in (AtLink x ∷ h) = replied_in h
replied_in (Exchanged ∷ h) = replied_in h
replied_in (Got x ∷ h) = replied_in h
replied_in (Put x ∷ h) = replied_in h
replied_in (Replied r ∷ h) = replied_in h ++ r ∷ []

-- the bytes that were read
abbrev pub read_in : List Local → List ℕ
read_in h = read_of (link_in h)

-- the bytes that were written
abbrev pub wrote_in : List Local → List ℕ
wrote_in h = wrote_of (link_in h)

-- the moment of the last call or poll
abbrev pub moment_in : List Local → ℕ
moment_in [] = 0
moment_in (Made at name call ∷ h) = at
moment_in (Polled at ∷ h) = at
moment_in (AtLink x ∷ h) = moment_in h
moment_in (Exchanged ∷ h) = moment_in h
moment_in (Got x ∷ h) = moment_in h
moment_in (Put x ∷ h) = moment_in h
moment_in (Replied r ∷ h) = moment_in h

-- the moment from which the idle time counts: that of the last frame that was read, or of the exchange of headers (part 2, section 2.4.5)
abbrev pub since_in : List Local → ℕ
since_in [] = 0
since_in (Made at name call ∷ h) = since_in h
since_in (Polled at ∷ h) = since_in h
since_in (AtLink x ∷ h) = since_in h
since_in (Exchanged ∷ h) = moment_in h
since_in (Got x ∷ h) = moment_in h
since_in (Put x ∷ h) = since_in h
since_in (Replied r ∷ h) = since_in h

-- what passed at the link, as part of a history
abbrev pub at_link : List LinkEvent → List Local
at_link [] = []
at_link (x ∷ events) = AtLink x ∷ at_link events

-- frames that were read, as part of a history
abbrev pub got : List Frame → List Local
got [] = []
got (x ∷ xs) = got xs ++ Got x ∷ []

-- frames that were queued, as part of a history
abbrev pub put : List Frame → List Local
put [] = []
put (x ∷ xs) = put xs ++ Put x ∷ []

-- no call and no poll is among them
abbrev pub IsInside : List Local → Type 0
IsInside [] = Unit {0}
IsInside (Made at name call ∷ h) = ⊥
IsInside (Polled at ∷ h) = ⊥
IsInside (AtLink x ∷ h) = IsInside h
IsInside (Exchanged ∷ h) = IsInside h
IsInside (Got x ∷ h) = IsInside h
IsInside (Put x ∷ h) = IsInside h
IsInside (Replied r ∷ h) = IsInside h

-- it held at some time
pub record Once (P : List Local → Type 0) (h : List Local) : Type 0 where
  pub later : List Local
  pub earlier : List Local
  pub split : h ≡ later ++ earlier
  pub held : P earlier
