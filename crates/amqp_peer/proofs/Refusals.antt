-- An open or accept that has failed, and one whose user or password is outside the profile.
use Rattle.std.proofs.Common.{◌≡◌, inl, inr, ℕ, List, [], ◌∷◌, ◌++◌, Bool, true, false, Option, Some, None, sym, ap, ◌∙◌, subst}
use Rattle.amqp_sasl_bodies.specs.declared.sasl_body.SaslBody.{SaslBody}
use Rattle.amqp_wire.specs.Events.{LinkEvent}
use Rattle.amqp_engine.specs.declared.error.Error.{Error as ConnectionFault}
use Rattle.amqp_engine.specs.declared.error.Error.TheVariants as connection
use Rattle.sasl_exchange.specs.declared.client.ClientExchange.{ClientExchange}
use Rattle.sasl_exchange.specs.declared.client.ClientExchange.TheVariants as client
use Rattle.sasl_exchange.specs.declared.error.NegotiationError.{NegotiationError}
use Rattle.sasl_exchange.specs.declared.error.NegotiationError.TheVariants.{ScramError}
use Rattle.sasl_exchange.specs.declared.server.ServerExchange.{ServerExchange}
use Rattle.sasl_exchange.specs.declared.server.ServerExchange.TheVariants as server
use Rattle.sasl_scram.specs.declared.error.ScramErrorKind.TheVariants.{TextNotAllowed}
use Rattle.sasl_exchange.specs.AnyClient.{any_client_causes}
use Rattle.sasl_exchange.specs.AnyServer.{any_server_causes}
use Rattle.sasl_exchange.specs.ScramClient.{ClientEnd, IsScramCause, by_challenge, by_final, by_no_signature}
use Rattle.sasl_exchange.specs.Credentials.{Credentials, credentials_of}
use Rattle.sasl_exchange.specs.Credentials as own
use Rattle.sasl_gate.specs.Negotiation.{IsCaused, at_link, at_header, at_frame, by_body, too_long}
use Rattle.sasl_scram.specs.States.{Account}
use Rattle.amqp_opening.specs.declared.authentication.Authentication.{Authentication}
use Rattle.amqp_opening.specs.declared.authentication.Authentication.TheVariants.{Idle, Client, Listener}
use Rattle.amqp_opening.specs.declared.authentication.SaslCall.{SaslCall}
use Rattle.amqp_opening.specs.declared.authentication.SaslCall.TheVariants as call
use Rattle.amqp_opening.specs.Admission.{Admission, admission_of, account_by}
use Rattle.amqp_opening.specs.Admission as admitted
use Rattle.amqp_opening.specs.Authentication.{peer_mechanism, passwords_for, stored_for, causes_by, owes_by, account_in, IsAllowedAccount, HasAllowedTexts, IsAskedWith, IsAskedFor, IsAskedSo, MadeFor, asked_so}
use Rattle.amqp_opening.specs.Opening.{IsOpeningCause, in_negotiation, at_amqp_header, at_plain_header}
use Rattle.amqp_opening.specs.Opening.{at_link as at_plain_link}
use Rattle.amqp_words.specs.declared.call.Call.{Call}
use Rattle.amqp_words.specs.declared.open_error.OpenError.{OpenError}
use Rattle.amqp_words.specs.declared.open_error.OpenError.TheVariants as failed
use Rattle.amqp_words.specs.declared.reply.Reply.{Reply}
use Rattle.amqp_words.specs.declared.reply.Reply.TheVariants as reply
use Rattle.amqp_words.specs.declared.reply.NamedReply.{NamedReply}
use Rattle.amqp_peer.specs.declared.held.Held.{Held}
use Rattle.amqp_peer.specs.declared.held.Held.TheVariants.{Early, Late, Unopened, Moving}
use Rattle.amqp_peer.specs.Causes.{MadeIn, AreAllowedTexts, AreAllowedTextsIn}
use Rattle.amqp_peer.specs.Held.{with_link}
use Rattle.amqp_peer.specs.History.{Local, Polled, made_in}
use Rattle.amqp_peer.specs.Peering.{HasCalled, IsHeld, IsMadeIn, IsSilent}
use Rattle.amqp_peer.specs.Prepared.{sasl_of}
use Rattle.amqp_peer.specs.Replies.{pending, connection as made_reply, open_failed, texts_refused, IsOpenRefusal, IsConnected}
use Rattle.amqp_peer.specs.Runs.{open_failure}

-- ---- user and password of a layer whose exchange was made

with_texts : (c : Credentials) → IsAskedWith c → IsAllowedAccount (account_in c)
with_texts own.anonymous a = tt
with_texts (own.plain user password) a = a
with_texts (own.scram hash user password nonce) a = (a.0, a.1)

for_texts : (d : Admission) → IsAskedFor d → IsAllowedAccount (account_by d)
for_texts admitted.anonymous a = tt
for_texts (admitted.plain user password) a = a
for_texts (admitted.scram hash user password salt iterations nonce) a = (a.0, a.1)

asked_texts : (c : SaslCall) → IsAskedSo c → HasAllowedTexts c
asked_texts (call.Client p hostname) a = with_texts (credentials_of p) a
asked_texts (call.Listener acceptor) a = for_texts (admission_of acceptor) a

pub made_texts : (z : Option SaslCall) (layer : Bool) (x : Authentication) → MadeIn z layer x → AreAllowedTexts z
made_texts None layer x m = tt
made_texts (Some c) layer x m = asked_texts c (asked_so c x m.1)

-- and of a call whose layer it is
pub layer_texts : (asked : Call) (c : SaslCall) (x : Authentication) → sasl_of asked ≡ Some c → MadeFor c x → AreAllowedTexts (sasl_of asked)
layer_texts asked c x e m = subst AreAllowedTexts (sym e) (asked_texts c (asked_so c x m))

pub plain_texts : (asked : Call) → sasl_of asked ≡ None → AreAllowedTexts (sasl_of asked)
plain_texts asked e = subst AreAllowedTexts (sym e) tt

-- the connection that a call began has begun
running_texts : {L : Type 0} (asked : Call) (held : Held L) (fault : Option ConnectionFault) (h : List Local) → IsMadeIn fault held h → IsHeld asked held h → AreAllowedTexts (sasl_of asked)
running_texts asked (Early o p) fault h m k = absurd m
running_texts asked (Late s) fault h m k = made_texts (sasl_of asked) k.layer k.x k.made
running_texts asked (Unopened c) fault h m k = absurd m
running_texts asked Moving fault h m k = absurd m

pub closing_texts : {L : Type 0} (asked last : Call) (n m : ℕ) (held : Held L) (fault : Option ConnectionFault) (h : List Local) → made_in h ≡ (m, last) ∷ (n, asked) ∷ [] → IsMadeIn fault held h → HasCalled asked held h → AreAllowedTextsIn (made_in h)
closing_texts asked last n m held fault h e made called = subst AreAllowedTextsIn (sym e) (running_texts asked held fault h made called.holds)

pub first_texts : (asked : Call) (n : ℕ) (h : List Local) → made_in h ≡ (n, asked) ∷ [] → AreAllowedTexts (sasl_of asked) → AreAllowedTextsIn (made_in h)
first_texts asked n h e t = subst AreAllowedTextsIn (sym e) t

-- ---- no exchange fails for the own user or password

scram_not : (x : ClientEnd) (given sent : List SaslBody) → IsScramCause x TextNotAllowed given sent → ⊥
scram_not x given sent (by_challenge names text is m r) = r
scram_not x given sent (by_final names server_first client_final signature text body f is told answers r) = r
scram_not x given sent (by_no_signature names server_first is s) = absurd (cc s)

client_not : (x : ClientExchange) (given sent : List SaslBody) → any_client_causes x (ScramError TextNotAllowed) given sent → ⊥
client_not (client.Scram x) given sent c = scram_not x given sent c
client_not (client.Init x) given sent c = c

listener_not : (x : ServerExchange Account Account) (given sent : List SaslBody) → any_server_causes passwords_for stored_for x (ScramError TextNotAllowed) given sent → ⊥
listener_not (server.Scram x) given sent c = c
listener_not (server.Init x) given sent c = c

causes_not : (x : Authentication) (given sent : List SaslBody) → causes_by x (ScramError TextNotAllowed) given sent → ⊥
causes_not Idle given sent c = c
causes_not (Client x) given sent c = client_not x given sent c
causes_not (Listener x) given sent c = listener_not x given sent c

caused_not : (x : Authentication) (events : List LinkEvent) → IsCaused (causes_by x) (owes_by x) (ScramError TextNotAllowed) events → ⊥
caused_not x events (at_link c) = c
caused_not x events (at_header c) = c
caused_not x events (at_frame given rest heard c) = c
caused_not x events (by_body given sent rest heard c) = causes_not x given sent c
caused_not x events (too_long body owed long is) = absurd (cc is)

opening_not : (layer : Bool) (x : Authentication) (events : List LinkEvent) → IsOpeningCause peer_mechanism layer x (ScramError TextNotAllowed) events → ⊥
opening_not true x events (in_negotiation c) = caused_not x events c
opening_not true x events (at_amqp_header given sent rest heard held turn long other is) = absurd (cc is)
opening_not false x events (at_plain_link c) = c
opening_not false x events (at_plain_header long other is) = absurd (cc is)

pub ending_not : (layer : Bool) (x : Authentication) (e : NegotiationError) (events : List LinkEvent) → IsOpeningCause peer_mechanism layer x e events → e ≡ ScramError TextNotAllowed → ⊥
ending_not layer x e events c t = opening_not layer x events (subst (λ (z : NegotiationError). IsOpeningCause peer_mechanism layer x z events) t c)

pub negotiation_not : (e : NegotiationError) → ¬ (e ≡ ScramError TextNotAllowed) → failed.Negotiation e ≡ texts_refused → ⊥
negotiation_not e n t = n (cc t)

-- nor does a connection
pub failure_not : (e : Option ConnectionFault) → open_failure e ≡ texts_refused → ⊥
failure_not None t = absurd (cc t)
failure_not (Some (connection.Memory a)) t = absurd (cc t)
failure_not (Some (connection.TransportError e)) t = absurd (cc t)
failure_not (Some connection.IllegalState) t = absurd (cc t)
failure_not (Some connection.NotImplemented) t = absurd (cc t)
failure_not (Some connection.NotFound) t = absurd (cc t)
failure_not (Some connection.RemoteClosed) t = absurd (cc t)
failure_not (Some (connection.RemoteClosedWithError e)) t = absurd (cc t)

-- ---- the replies of an open or accept that has failed

-- the error is the last of them
pub refusal_last : (n : ℕ) (e : OpenError) (replies : List NamedReply) → IsOpenRefusal n e replies → (front : List NamedReply) × (replies ≡ front ++ open_failed n e ∷ [])
refusal_last n e replies (inl r) = (pending n ∷ [], r.0)
refusal_last n e replies (inr r) = ([], r.0)

abbrev first_reply : List NamedReply → Reply
first_reply [] = reply.Closed
first_reply (x ∷ xs) = x.reply

-- pending alone is not among them
pub refusal_waits_not : (n : ℕ) (e : OpenError) (replies : List NamedReply) → IsOpenRefusal n e replies → (m : ℕ) → replies ≡ pending m ∷ [] → ⊥
refusal_waits_not n e replies (inl r) m w = absurd (cc (sym w ∙ r.0))
refusal_waits_not n e replies (inr r) m w = absurd (cc (ap first_reply (sym w ∙ r.0)))

-- and a close is not
pub refusal_closes_not : (n : ℕ) (e : OpenError) (replies : List NamedReply) → IsOpenRefusal n e replies → (m k : ℕ) → replies ≡ pending m ∷ made_reply m ∷ pending k ∷ [] → ⊥
refusal_closes_not n e replies (inl r) m k w = absurd (cc (sym w ∙ r.0))
refusal_closes_not n e replies (inr r) m k w = absurd (cc (sym w ∙ r.0))

behind_not : (n : ℕ) (e : OpenError) → IsConnected (pending n ∷ open_failed n e ∷ []) → ⊥
behind_not n e (inl x) = absurd (cc x)
behind_not n e (inr (inl x)) = absurd (cc x)
behind_not n e (inr (inr x)) = x

alone_not : (n : ℕ) (e : OpenError) → IsConnected (open_failed n e ∷ []) → ⊥
alone_not n e (inl x) = absurd (cc x)
alone_not n e (inr x) = x

pub refusal_connects_not : (n : ℕ) (e : OpenError) (replies : List NamedReply) → IsOpenRefusal n e replies → IsConnected replies → ⊥
refusal_connects_not n e replies (inl r) c = behind_not n e (subst IsConnected r.0 c)
refusal_connects_not n e replies (inr r) c = alone_not n e (subst IsConnected r.0 c)

-- ---- nothing passed at the link

pub silent_polled : {L : Type 0} (held : Held L) (at : ℕ) (h : List Local) → IsSilent held h → IsSilent held (Polled at ∷ h)
silent_polled (Early o p) at h s = s
silent_polled (Late t) at h s = s
silent_polled (Unopened c) at h s = s
silent_polled Moving at h s = s

pub silent_with : {L : Type 0} (held : Held L) (w : L) (h : List Local) → IsSilent held h → IsSilent (with_link held w) h
silent_with (Early o p) w h s = s
silent_with (Late t) w h s = s
silent_with (Unopened c) w h s = s
silent_with Moving w h s = absurd s
