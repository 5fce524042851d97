-- What the calls of an end over a link that accept deliveries write (OASIS AMQP 1.0, part 2, section 2.6.12; part 3,
-- section 3.4.2).
use Rattle.std.specs.Prelude.{◌≡◌, ℕ, nat_eq, List, [], ◌∷◌, ◌++◌, Some, ⊤}
use Rattle.std.specs.Map.{lookup}
use Rattle.amqp_wire.specs.declared.link.Link.{Ghosts}
use Rattle.amqp_end.specs.Deeds.{Deed, Did, IsDeed, Asks}
use Rattle.amqp_end.specs.declared.end.End.{End}
use Rattle.amqp_link_calls.specs.Called.{Called}
use Rattle.amqp_link_calls.specs.Side.{Receiver}
use Rattle.amqp_link_words.specs.declared.link_call.Disposal.TheVariants.{Accepted}
use Rattle.amqp_link_words.specs.declared.link_call.LinkCall.{LinkCall}
use Rattle.amqp_link_words.specs.declared.link_call.LinkCall.TheVariants as call
use Rattle.amqp_links.specs.declared.links.GivenDelivery.{GivenDelivery}
use Rattle.amqp_links.specs.State.{State as Links, seen as linked, link_of}
use Rattle.amqp_peer.specs.Peering.{Peering}
use Rattle.amqp_receiver.specs.Receiver.{State}
use Rattle.amqp_served_calls.specs.Calls.{accept_delivery_call}
use Rattle.amqp_sessions.specs.State.{State as Sessions, seen}
use Rattle.amqp_serve.specs.Ran.{Turn, calls, polls, waits, tells, forgets, IsTurn, Ran}
use Rattle.served_connection.specs.ListenLaws.Disposed.{IsAccepted}

-- in these deeds the links were asked for that call
pub record AskedIn {L : Type 0} (link : Ghosts L) (at : ℕ) (old : Peering L) (s : Sessions) (l : Links) (ds : List Deed)
    (new : Peering L) (s' : Sessions) (l' : Links) (name : ℕ) (x : LinkCall) : Type 0 where
  pub earlier : List Deed
  pub later : List Deed
  pub deeds_are : ds ≡ later ++ (Asks name x ∷ earlier)
  pub held : Peering L
  pub sessions : Sessions
  pub before : Links
  pub begins : Did link at old s l earlier held sessions before
  pub held_behind : Peering L
  pub sessions_behind : Sessions
  pub behind : Links
  pub asks : IsDeed link at held sessions before (Asks name x) held_behind sessions_behind behind
  pub ends : Did link at held_behind sessions_behind behind later new s' l'

-- The links were asked to accept the delivery that this call gave. Where the receiver stands, and knows the delivery,
-- it takes no disposal any more, the delivery is not unsettled, or a Disposition that says that it is accepted is to go
-- out.
pub record AcceptsIn {L : Type 0} (link : Ghosts L) (at : ℕ) (old new : End L) (ds : List Deed)
    (name receiver delivery : ℕ) : Type 0 where
  pub asked : AskedIn link at old.connection (seen old.sessions) (linked old.links) ds new.connection
      (seen new.sessions) (linked new.links) name (call.Dispose receiver Accepted (delivery ∷ []))
  pub writes : (l : Called) (s : State) (g : GivenDelivery)
      → link_of receiver asked.before ≡ Some l → l.side ≡ Receiver s
      → lookup (nat_eq delivery) asked.before.deliveries ≡ Some g
      → IsAccepted l.session g.info s asked.before asked.behind

-- so it is with each call that accepts a delivery
abbrev pub TurnAccepts : {L : Type 0} (link : Ghosts L) (old : End L) (t : Turn) (new : End L) → IsTurn link old t new
    → Type 0
TurnAccepts link old (calls name call) new k =
    (receiver delivery : ℕ) → call ≡ accept_delivery_call receiver delivery
    → AcceptsIn link k.1 (record old { last = Some name }) new k.2.deeds name receiver delivery
TurnAccepts link old polls new k = ⊤
TurnAccepts link old waits new k = ⊤
TurnAccepts link old (tells rs) new k = ⊤
TurnAccepts link old (forgets name) new k = ⊤

unfoldable pub EachAccepts : {L : Type 0} (link : Ghosts L) (old : End L) (ts : List Turn) (new : End L)
    → Ran link old ts new → Type 0
unfolding Ran
EachAccepts link old [] new k = ⊤
EachAccepts link old (t ∷ ts) new k = EachAccepts link old ts k.0 k.1 × TurnAccepts link k.0 t new k.2

abbrev pub RunsAccept : {L : Type 0} → Ghosts L → Type 0
RunsAccept {L} link = (old new : End L) (ts : List Turn) (ran : Ran link old ts new) → EachAccepts link old ts new ran
