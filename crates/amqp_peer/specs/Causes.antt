-- Why something was replied, by the calls, by what passed at the link and by the frames that were read and queued.
use Rattle.std.specs.Prelude.{◌≡◌, ◌⊎◌, ◌<◌, ◌≤◌, ◌+◌, ℕ, List, [], ◌∷◌, ◌++◌, length, Bool, true, false, max, Option, Some, None, ⊤, All}
use Rattle.amqp_composites.specs.declared.error.Error.{Error as AmqpError}
use Rattle.amqp_performatives.specs.declared.open.Open.{Open}
use Rattle.amqp_performatives.specs.declared.close.Close.{Close}
use Rattle.amqp_sasl_bodies.specs.declared.sasl_body.SaslBody.{SaslBody}
use Rattle.amqp_frames.specs.declared.body.FrameBody.TheVariants as b
use Rattle.amqp_frames.specs.Session.{of_session}
use Rattle.amqp_wire.specs.declared.frame.Front.TheVariants.{Refused, Foreign}
use Rattle.amqp_wire.specs.declared.link.Held.TheVariants.{Full}
use Rattle.amqp_wire.specs.declared.link.Stop.TheVariants.{End as EndStop}
use Rattle.amqp_wire.specs.declared.link.IoKind.TheVariants.{Fault, End}
use Rattle.amqp_wire.specs.Events.{LinkEvent, NotRead, NotWritten, Includes, HasFailed, read_of, wrote_of}
use Rattle.amqp_wire.specs.Frame.{IsFront}
use Rattle.amqp_transport.specs.declared.frames.Frame.{Frame}
use Rattle.amqp_transport.specs.declared.transport.Error.{Error as TransportFault}
use Rattle.amqp_transport.specs.declared.transport.Error.TheVariants as fault
use Rattle.amqp_transport.specs.Causes.{IsUnspelled}
use Rattle.amqp_transport.specs.Kinds.{amqp_spells}
use Rattle.amqp_transport.specs.Stream.{Joined, IsPart}
use Rattle.amqp_engine.specs.Closers.{This, Peer}
use Rattle.amqp_engine.specs.declared.error.Error.{Error as ConnectionFault}
use Rattle.amqp_engine.specs.declared.error.Error.TheVariants as connection
use Rattle.amqp_engine.specs.Calls.{IsTooLarge}
use Rattle.amqp_engine.specs.declared.phase.Rejection.{Rejection}
use Rattle.amqp_engine.specs.Heard.{IsGreeted, IsRejectedFor}
use Rattle.amqp_engine.specs.Plans.{rejection_told}
use Rattle.amqp_engine.specs.Phases.{kind_of, IsInner}
use Rattle.amqp_engine.specs.Sentence.{bytes_of_all, size_of_frame, AllWithin, read_limit, write_limit}
use Rattle.amqp_engine.specs.Settings.{open_of}
use Rattle.amqp_engine.specs.State.{open_frame, close_frame, IsFramed}
use Rattle.sasl_exchange.specs.declared.error.NegotiationError.{NegotiationError}
use Rattle.sasl_exchange.specs.declared.error.NegotiationError.TheVariants.{ScramError}
use Rattle.sasl_scram.specs.declared.error.ScramErrorKind.TheVariants.{TextNotAllowed}
use Rattle.sasl_gate.specs.Frames.{Heard, HasSaslFrame, said}
use Rattle.amqp_opening.specs.declared.authentication.Authentication.{Authentication}
use Rattle.amqp_opening.specs.declared.authentication.SaslCall.{SaslCall}
use Rattle.amqp_opening.specs.Authentication.{peer_mechanism, MadeFor, HasAllowedTexts}
use Rattle.amqp_opening.specs.Opening.{amqp_header, HasEnding}
use Rattle.amqp_words.specs.declared.call.Call.{Call}
use Rattle.amqp_words.specs.declared.call.Call.TheVariants.{Close as CloseCall}
use Rattle.amqp_words.specs.declared.open_error.OpenError.TheVariants as failed
use Rattle.amqp_words.specs.declared.reply.Reply.{Reply}
use Rattle.amqp_words.specs.declared.reply.Reply.TheVariants as reply
use Rattle.amqp_words.specs.declared.reply.NamedReply.{NamedReply}
use Rattle.amqp_transport.specs.Wire.{idle_of}
use Rattle.amqp_peer.specs.declared.prepared.Prepared.{Prepared}
use Rattle.amqp_peer.specs.Prepared.{prepared_of, sasl_of, error_for}
use Rattle.amqp_peer.specs.Closers.{closer_in}
use Rattle.amqp_peer.specs.History.{Local, Made, Polled, AtLink, Exchanged, Got, Put, Replied, made_in, link_in, latest_in, given_in, sent_in, replied_in, moment_in, since_in, Once}

-- the exchange is that of the SASL layer, if there is one
abbrev pub MadeIn : Option SaslCall → Bool → Authentication → Type 0
MadeIn None layer x = layer ≡ false
MadeIn (Some c) layer x = (layer ≡ true) × MadeFor c x

-- why an open or an accept failed in the exchange of headers: its user or password is outside the profile, and this error says so, or the
-- exchange that it began has ended by another error, with what it had taken and sent
pub data IsOpenCause (call : Call) (e : NegotiationError) (events : List LinkEvent) : Type 0 where
  not_allowed : (c : SaslCall) → sasl_of call ≡ Some c → ¬ HasAllowedTexts c → e ≡ ScramError TextNotAllowed → IsOpenCause call e events
  in_opening : (layer : Bool) (x : Authentication) → MadeIn (sasl_of call) layer x → ¬ (e ≡ ScramError TextNotAllowed) → HasEnding peer_mechanism layer x e events → IsOpenCause call e events

-- the same of the first of these calls
abbrev pub OpenCauseIn : List (ℕ × Call) → NegotiationError → List LinkEvent → Type 0
OpenCauseIn [] e events = ⊥
OpenCauseIn (call ∷ []) e events = IsOpenCause call.1 e events
OpenCauseIn (call ∷ earlier ∷ calls) e events = OpenCauseIn (earlier ∷ calls) e events

-- user and password of the SASL layer, if there is one, are in the profile
abbrev pub AreAllowedTexts : Option SaslCall → Type 0
AreAllowedTexts None = ⊤
AreAllowedTexts (Some c) = HasAllowedTexts c

-- the same of the layer that the first of these calls asks for
abbrev pub AreAllowedTextsIn : List (ℕ × Call) → Type 0
AreAllowedTextsIn [] = ⊥
AreAllowedTextsIn (call ∷ []) = AreAllowedTexts (sasl_of call.1)
AreAllowedTextsIn (call ∷ earlier ∷ calls) = AreAllowedTextsIn (earlier ∷ calls)

-- with what the first of these calls begins the connection
abbrev pub prepared_in : List (ℕ × Call) → Option Prepared
prepared_in [] = None
prepared_in (call ∷ []) = prepared_of call.1
prepared_in (call ∷ earlier ∷ calls) = prepared_in (earlier ∷ calls)

-- a SASL layer is asked for
abbrev pub is_layer : Option SaslCall → Bool
is_layer None = false
is_layer (Some c) = true

-- the same by the first of these calls
abbrev pub has_layer : List (ℕ × Call) → Bool
has_layer [] = false
has_layer (call ∷ []) = is_layer (sasl_of call.1)
has_layer (call ∷ earlier ∷ calls) = has_layer (earlier ∷ calls)

abbrev pub idle_with : Option Prepared → ℕ
idle_with None = 0
idle_with (Some p) = idle_of p.idle

-- the largest frame that this end takes in, as it says in its Open (part 2, section 2.7.1)
abbrev pub largest_of : Option Prepared → ℕ
largest_of None = 512
largest_of (Some p) = max (open_of p.end).max_frame_size 512

-- ---- frames

-- Open is the first
pub record BeginsWithOpen (xs : List Frame) : Type 0 where
  pub channel : ℕ
  pub first : Open
  pub more : List Frame
  pub is : xs ≡ record { channel = channel; body = b.Open first } ∷ more

-- Close is the last
pub record EndsWithClose (xs : List Frame) : Type 0 where
  pub front : List Frame
  pub channel : ℕ
  pub last : Close
  pub is : xs ≡ front ++ record { channel = channel; body = b.Close last } ∷ []

-- Close came in place of Open, with that error
pub record IsShut (error : Option AmqpError) (given : List Frame) : Type 0 where
  pub channel : ℕ
  pub is : given ≡ record { channel = channel; body = b.Close (record { error = error }) } ∷ []

-- Close came after Open, with that error
pub record IsLeft (error : Option AmqpError) (given : List Frame) : Type 0 where
  pub front : List Frame
  pub channel : ℕ
  pub before : IsGreeted front
  pub is : given ≡ front ++ record { channel = channel; body = b.Close (record { error = error }) } ∷ []

-- another frame than Open or Close came first
pub record IsOther (given : List Frame) : Type 0 where
  pub first : Frame
  pub other : IsInner (kind_of first.body)
  pub is : given ≡ first ∷ []

-- ---- bytes

-- the SASL layer that was read: its header and whole frames, or nothing where there is none (part 5, section 5.3)
abbrev pub IsLayerRead : Bool → List ℕ → Type 0
IsLayerRead false head = head ≡ []
IsLayerRead true head = (bodies : List SaslBody) × Heard head bodies []

-- the SASL layer that was queued: its header and the frames of its bodies, each of which is read again as it is, or nothing where there is
-- none (part 5, section 5.3)
abbrev pub IsLayerWritten : Bool → List ℕ → Type 0
IsLayerWritten false head = head ≡ []
IsLayerWritten true head = (bodies : List SaslBody) × All HasSaslFrame bodies × (head ≡ said bodies)

-- an end has written its AMQP header, behind the SASL layer if it has one (part 2, section 2.2; part 5, section 5.3.2)
pub record HasHeader (h : List Local) : Type 0 where
  pub head : List ℕ
  pub behind : List ℕ
  pub layer : IsLayerWritten (has_layer (made_in h)) head
  pub wrote : wrote_of (link_in h) ≡ head ++ (amqp_header ++ behind)

-- what was queued behind the SASL layer: nothing, the AMQP header alone, or that and the frames (part 2, section 2.2)
abbrev pub IsTail : List Frame → List ℕ → Type 0
IsTail sent tail = ((sent ≡ []) × ((tail ≡ []) ⊎ (tail ≡ amqp_header))) ⊎ (tail ≡ amqp_header ++ bytes_of_all sent)

-- what was read is the SASL layer, if there is one, the AMQP header, the frames that were read, and then a rest
pub record IsReadTo (h : List Local) (rest : List ℕ) : Type 0 where
  pub head : List ℕ
  pub behind : List ℕ
  pub read : read_of (link_in h) ≡ head ++ (amqp_header ++ behind)
  pub layer : IsLayerRead (has_layer (made_in h)) head
  pub joined : Joined 0 amqp_spells behind (given_in h) rest

-- What was written, and then what is still to go out, is the SASL layer, if there is one, and what was queued behind it. Where a call with
-- a SASL layer failed before anything was written, its header is counted as still to go out.
pub record IsQueued (h : List Local) : Type 0 where
  pub head : List ℕ
  pub tail : List ℕ
  pub out : List ℕ
  pub wrote : wrote_of (link_in h) ++ out ≡ head ++ tail
  pub layer : IsLayerWritten (has_layer (made_in h)) head
  pub talk : IsTail (sent_in h) tail

-- and nothing is still to go out, unless the link was full
pub record IsOut (h : List Local) : Type 0 where
  pub queued : IsQueued h
  pub all : Includes (link_in h) (NotWritten Full) ⊎ (queued.out ≡ [])

-- each whole frame that was read was taken, or no frame was sent yet
abbrev pub IsTakenUp : List Local → Type 0
IsTakenUp h = (sent_in h ≡ []) ⊎ ((rest : List ℕ) × IsReadTo h rest × IsPart rest)

-- the first frame, if there is one, is within that size
abbrev pub StartsWithin : ℕ → List Frame → Type 0
StartsWithin limit [] = ⊤
StartsWithin limit (x ∷ xs) = size_of_frame x ≤ limit

-- The frames of an end are those of the bytes that it read, if it has any, and wrote; each that it wrote is read again as it is (part 2,
-- section 2.3). None is above the limit that its peer's Open tells, and the first, which is Open, is of at most 512 bytes (section 2.4.1).
pub record IsTied (h : List Local) : Type 0 where
  pub heard : (given_in h ≡ []) ⊎ ((rest : List ℕ) × IsReadTo h rest)
  pub said : IsQueued h
  pub framed : All IsFramed (sent_in h)
  pub sized : AllWithin (write_limit (given_in h)) (sent_in h)
  pub starts : StartsWithin 512 (sent_in h)

-- ---- causes

-- both ends' Opens went through
pub record IsMade (h : List Local) : Type 0 where
  pub heard : BeginsWithOpen (given_in h)
  pub said : BeginsWithOpen (sent_in h)
  pub out : IsOut h

-- both ends' Closes went through, this end's first, and the peer's has no error (part 2, section 2.4.3)
pub record IsParted (h : List Local) : Type 0 where
  pub heard : IsLeft None (given_in h)
  pub said : EndsWithClose (sent_in h)
  pub first : closer_in h ≡ This
  pub out : IsOut h

-- after a call both AMQP headers are there: the own one was written, and the peer's was read (part 2, section 2.2)
pub record HasHeaders (h : List Local) : Type 0 where
  pub called : 1 ≤ length (made_in h)
  pub own : HasHeader h
  pub head : List ℕ
  pub rest : List ℕ
  pub read : read_of (link_in h) ≡ head ++ (amqp_header ++ rest)

-- the exchange of headers ends here
abbrev pub EndsExchange : List Local → Type 0
EndsExchange [] = ⊥
EndsExchange (Made at name call ∷ h) = ⊥
EndsExchange (Polled at ∷ h) = ⊥
EndsExchange (AtLink x ∷ h) = ⊥
EndsExchange (Exchanged ∷ h) = HasHeaders h
EndsExchange (Got x ∷ h) = ⊥
EndsExchange (Put x ∷ h) = ⊥
EndsExchange (Replied r ∷ h) = ⊥

-- behind the headers no frame came for the idle time
pub record HasIdled (h : List Local) : Type 0 where
  pub began : Once EndsExchange h
  pub opens : BeginsWithOpen (sent_in h)
  pub runs : 0 < idle_with (prepared_in (made_in h))
  pub passed : since_in h + idle_with (prepared_in (made_in h)) ≤ moment_in h

-- a frame of this end's own: the Open of the first call, the Close of the last, or a frame of a session
pub data IsOwn (calls : List (ℕ × Call)) : Frame → Type 0 where
  opening : (p : Prepared) → prepared_in calls ≡ Some p → IsOwn calls (open_frame p.end)
  closing : (name : ℕ) (condition : Option (List ℕ)) (earlier : List (ℕ × Call)) → calls ≡ (name, CloseCall condition) ∷ earlier → IsOwn calls (close_frame (error_for condition))
  in_session : (x : Frame) → of_session x.body ≡ true → IsOwn calls x

-- behind the headers a frame of its own is above the limit that the peer's Open tells, or above 512 where none was read (part 2, section
-- 2.4.1)
pub record IsOverlarge (h : List Local) : Type 0 where
  pub began : Once EndsExchange h
  pub limit : ℕ
  pub x : Frame
  pub is_limit : limit ≡ write_limit (given_in h)
  pub own : IsOwn (made_in h) x
  pub large : IsTooLarge limit x

-- after a call, what was read ends in a frame whose size is refused under the limit of this end, or whose body would lie outside of it
-- (part 2, section 2.3.1)
pub record IsRefusedAt (h : List Local) : Type 0 where
  pub called : 1 ≤ length (made_in h)
  pub limit : ℕ
  pub rest : List ℕ
  pub is_limit : limit ≡ read_limit (largest_of (prepared_in (made_in h))) (given_in h)
  pub read : IsReadTo h rest
  pub refused : IsFront 0 limit rest Refused

-- what was read ends in a whole frame within that limit that is of another type (part 2, section 2.3.1)
pub record IsForeignAt (h : List Local) : Type 0 where
  pub limit : ℕ
  pub rest : List ℕ
  pub is_limit : limit ≡ read_limit (largest_of (prepared_in (made_in h))) (given_in h)
  pub read : IsReadTo h rest
  pub foreign : IsFront 0 limit rest Foreign

-- what was read ends in a whole frame within that limit whose body spells nothing (part 2, section 2.3.2)
pub record IsUnspelledAt (h : List Local) : Type 0 where
  pub limit : ℕ
  pub rest : List ℕ
  pub is_limit : limit ≡ read_limit (largest_of (prepared_in (made_in h))) (given_in h)
  pub read : IsReadTo h rest
  pub unspelled : IsUnspelled 0 amqp_spells limit rest

-- why the transport failed
abbrev pub TransportCause : TransportFault → List Local → Type 0
TransportCause (fault.Memory a) h = ⊥
TransportCause (fault.Io Fault) h = HasFailed (link_in h)
TransportCause (fault.Io End) h = Includes (link_in h) (NotRead EndStop)
TransportCause fault.IdleTimeoutElapsed h = HasIdled h
TransportCause fault.DecodeError h = IsUnspelledAt h
TransportCause fault.NotImplemented h = IsForeignAt h
TransportCause fault.FramingError h = IsRefusedAt h ⊎ IsOverlarge h

-- a failure of the link, or the end of its input, came since the last call or poll
abbrev pub IsRecent : TransportFault → List Local → Type 0
IsRecent (fault.Memory a) h = ⊥
IsRecent (fault.Io Fault) h = HasFailed (latest_in h)
IsRecent (fault.Io End) h = Includes (latest_in h) (NotRead EndStop)
IsRecent fault.IdleTimeoutElapsed h = ⊤
IsRecent fault.DecodeError h = ⊤
IsRecent fault.NotImplemented h = ⊤
IsRecent fault.FramingError h = ⊤

-- The transport failed so. The fault had its cause then, and since then no frame was read or queued.
pub record IsBrokenBy (e : TransportFault) (h : List Local) : Type 0 where
  pub later : List Local
  pub earlier : List Local
  pub split : h ≡ later ++ earlier
  pub cause : TransportCause e earlier
  pub recent : IsRecent e earlier
  pub still : (given_in later ≡ []) × (sent_in later ≡ [])

-- the peer's Open, and last a frame that is refused for a reason which is told so (part 2, sections 2.4, 2.5.1 and 2.7.1)
abbrev pub IsRefusedAs : ConnectionFault → List Frame → Type 0
IsRefusedAs e given = (why : Rejection) × (e ≡ rejection_told why) × IsRejectedFor why given

-- why a call on the connection failed
abbrev pub ConnectionCause : ConnectionFault → List Local → Type 0
ConnectionCause (connection.Memory a) h = ⊥
ConnectionCause (connection.TransportError e) h = IsBrokenBy e h
ConnectionCause connection.IllegalState h = Once (λ g. IsRefusedAs connection.IllegalState (given_in g)) h
ConnectionCause connection.NotImplemented h = Once (λ g. IsRefusedAs connection.NotImplemented (given_in g)) h
ConnectionCause connection.NotFound h = Once (λ g. IsRefusedAs connection.NotFound (given_in g)) h
ConnectionCause connection.RemoteClosed h = IsLeft None (given_in h) × (closer_in h ≡ Peer)
ConnectionCause (connection.RemoteClosedWithError e) h = IsLeft (Some e) (given_in h)

-- a reply has its cause in what happened before it
abbrev pub HasCause : List Local → Reply → Type 0
HasCause h reply.Pending = AreAllowedTextsIn (made_in h)
HasCause h reply.Connection = IsMade h
HasCause h reply.Closed = IsParted h
HasCause h (reply.OpenError (failed.Negotiation e)) = OpenCauseIn (made_in h) e (link_in h)
HasCause h (reply.OpenError (failed.TransportError e)) = IsBrokenBy e h
HasCause h (reply.OpenError failed.RemoteClosed) = IsShut None (given_in h)
HasCause h (reply.OpenError (failed.RemoteClosedWithError e)) = IsShut (Some e) (given_in h)
HasCause h (reply.OpenError failed.IllegalState) = Once (λ g. IsOther (given_in g)) h
HasCause h (reply.ConnectionError e) = ConnectionCause e h

-- each reply has its cause
abbrev pub AllCaused : List Local → Type 0
AllCaused [] = ⊤
AllCaused (Made at name c ∷ h) = AllCaused h
AllCaused (Polled at ∷ h) = AllCaused h
AllCaused (AtLink x ∷ h) = AllCaused h
AllCaused (Exchanged ∷ h) = AllCaused h
AllCaused (Got x ∷ h) = AllCaused h
AllCaused (Put x ∷ h) = AllCaused h
AllCaused (Replied r ∷ h) = HasCause h r.reply × AllCaused h

-- ---- an end that does not go on

-- a reply behind which its connection is over
abbrev pub IsLast : Reply → Type 0
IsLast reply.Pending = ⊥
IsLast reply.Connection = ⊥
IsLast reply.Closed = ⊤
IsLast (reply.OpenError e) = ⊤
IsLast (reply.ConnectionError e) = ⊤

-- the transport failed, and since then no frame was read or queued
pub record IsBroken (h : List Local) : Type 0 where
  pub fault : TransportFault
  pub how : IsBrokenBy fault h

-- Why an end does not go on: nothing was called, its connection was answered to be over, the peer's Close was read, another frame came in
-- place of Open, or the transport failed.
pub data IsSpent (h : List Local) : Type 0 where
  uncalled : made_in h ≡ [] → IsSpent h
  answered : (before : List NamedReply) (last : NamedReply) → replied_in h ≡ before ++ last ∷ [] → IsLast last.reply → IsSpent h
  left : EndsWithClose (given_in h) → IsSpent h
  mistaken : IsOther (given_in h) → IsSpent h
  broken : IsBroken h → IsSpent h
