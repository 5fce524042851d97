-- What a sender hears of credit is what its session hands over (OASIS AMQP 1.0, part 2, section 2.6.7).
use Rattle.std.specs.Prelude.{◌≡◌, ℕ, List, [], ◌∷◌}
use Rattle.amqp_links.specs.State.{State as Links}
use Rattle.amqp_performatives.specs.declared.flow.Flow.{Flow}
use Rattle.amqp_sender.specs.Sender.{State as SenderState}
use Rattle.amqp_session.specs.declared.session.LinkInput.TheVariants as input
use Rattle.amqp_sessions.specs.Parts.{EndpointState}
use Rattle.amqp_sessions.specs.State.{State as Sessions}
use Rattle.session_laws.specs.Crediting.{flows_heard}
use Rattle.session_laws.specs.Handing.{handed_over}
use Rattle.session_laws.specs.Sending.{IsShort}
use Rattle.session_laws.specs.Speaking.{brought, flows_on}
use Rattle.link_lives.specs.Deeds as links
use Rattle.session_lives.specs.Deeds as sessions
use Rattle.session_lives.specs.Laws.{SessionLives}
use Rattle.session_lives.specs.Lives.{moves}
use Rattle.session_lives.specs.Logs.{own}
use Rattle.world_lives.specs.EndLives.Ends.{Together}
use Rattle.world_lives.specs.EndLives.Laws.{IsLed}
use Rattle.world_lives.specs.OutcomeLives.Hearing.{AreFirst}
use Rattle.sender_hears.specs.Laws.{SenderLearns}

-- that handle of the peer on that session leads to the link, and no other does, as each Flow is heard
abbrev pub IsLedAt : ℕ → ℕ → ℕ → links.Deed → Links → Type 0
IsLedAt handle session n (links.Hears name (input.Flow x)) l = IsLed handle session n l
IsLedAt handle session n d l = Unit {0}

abbrev pub AreLed : (handle session n : ℕ) (l : Links) (ld : List links.Deed) (l' : Links) → links.Did l ld l' → Type 0
AreLed handle session n l [] l' h = Unit {0}
AreLed handle session n l (d ∷ ds) l' h = IsLedAt handle session n d l × AreLed handle session n h.0 ds l' h.1.1

-- the credit in each of these Flows, if it has one, is a number of 32 bits, as it is in each frame
abbrev pub GiveShort : List Flow → Type 0
GiveShort [] = Unit {0}
GiveShort (x ∷ xs) = IsShort x.link_credit × GiveShort xs

-- A sender and its session go on together. The Flows that the sender hears are the first of those on the peer's handle
-- that its session hands over, each once and in order, as long as that handle leads to it and no other does, and where
-- none of them was on its way from the session to the links.
abbrev pub FlowsAreHeard : Type 0
FlowsAreHeard =
    (handle n session : ℕ) (t : SenderState) (e : EndpointState) (s : Sessions) (sd : List sessions.Deed)
    (s' : Sessions) (l : Links) (ld : List links.Deed) (l' : Links) (k : Together s sd s' l ld l')
    (g : SenderLearns n session t ld l l' k.links_did) (w : SessionLives session e sd s s' k.sessions_did)
    → AreLed handle session n l ld l' k.links_did → flows_on handle (brought (own session s.incoming)) ≡ []
    → AreFirst (flows_heard g.goes.moves) (flows_on handle (brought (handed_over e.session (moves w.steps))))
