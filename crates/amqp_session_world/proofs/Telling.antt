-- What an end tells of its connection.
use Rattle.std.proofs.Common.{◌≡◌, inl, inr, ℕ, List, [], ◌∷◌, ◌++◌, refl, sym, ap, ◌∙◌, subst, append_assoc}
use Rattle.std.proofs.lemmas.List.{append-nil}
use Rattle.amqp_wire.specs.declared.link.Link.{Ghosts}
use Rattle.amqp_words.specs.declared.reply.NamedReply.{NamedReply as ConnectionReply}
use Rattle.amqp_end.specs.amqp_calls.declared.reply.NamedReply.{NamedReply}
use Rattle.amqp_end.specs.amqp_links.State.{State as Links}
use Rattle.amqp_peer.specs.History.{Local, Made, Polled, replied_in}
use Rattle.amqp_peer.specs.Passing.{IsHeldAlone}
use Rattle.amqp_peer.specs.Peering.{Peering}
use Rattle.amqp_peer.proofs.Laws.{replied_in-append}
use Rattle.amqp_end.specs.amqp_sessions.State.{State}
use Rattle.amqp_end.specs.Deeds.{Deed, Makes, Polls, Goes, Moves, Hears, Writes, Seats, Lacks, Frees, Accepts, Asks, LinksHear, LinksWrite, LinksLack, LinksKnow, LinksLook, Tells, TellsFirst, IsStep, IsDeed, Did, adds, behind, told_of, told_by}
use Rattle.amqp_end.specs.Answers.{with_first}
use Rattle.amqp_session_world.specs.Answers.{AreOfSessions, of_connections, replies_to, IsTold}
use Rattle.amqp_session_world.proofs.Own.{of_connections-append, replies_to-append, told_in_order, told_first}
use Rattle.amqp_session_world.proofs.Sessions.{sessions_answer}

-- ---- three ways to go on

-- the connection has answered more, and nothing is told
told_more : (told : List NamedReply) (old new more : List ConnectionReply) (h h' : List Local) → new ≡ old ++ more → replied_in h' ≡ replied_in h ++ more → IsTold told old h → IsTold (told ++ []) new h'
told_more told old new more h h' e f k name =
    let own : List ConnectionReply = replies_to name (of_connections told) in
    ap (λ (u : List NamedReply). replies_to name (of_connections u) ++ replies_to name new) (append-nil told)
    ∙ ap (λ (u : List ConnectionReply). own ++ replies_to name u) e
    ∙ ap (λ (u : List ConnectionReply). own ++ u) (replies_to-append name old more)
    ∙ sym (append_assoc own (replies_to name old) (replies_to name more))
    ∙ ap (λ (u : List ConnectionReply). u ++ replies_to name more) (k name)
    ∙ sym (replies_to-append name (replied_in h) more)
    ∙ ap (replies_to name) (sym f)

-- it has answered nothing
told_same : (told : List NamedReply) (old new : List ConnectionReply) (h : List Local) → new ≡ old → IsTold told old h → IsTold (told ++ []) new h
told_same told old new h e k = told_more told old new [] h h (e ∙ sym (append-nil old)) (sym (append-nil (replied_in h))) k

-- what it had answered is told, for each call
told_out : (told answers : List NamedReply) (old new : List ConnectionReply) (h : List Local) → new ≡ [] → ((name : ℕ) → replies_to name (of_connections answers) ≡ replies_to name old) → IsTold told old h → IsTold (told ++ answers) new h
told_out told answers old new h e f k name =
    let own : List ConnectionReply = replies_to name (of_connections told) in
    let both : List ConnectionReply = replies_to name (of_connections (told ++ answers)) in
    ap (λ (u : List ConnectionReply). both ++ replies_to name u) e
    ∙ append-nil both
    ∙ ap (replies_to name) (of_connections-append told answers)
    ∙ replies_to-append name (of_connections told) (of_connections answers)
    ∙ ap (λ (u : List ConnectionReply). own ++ u) (f name)
    ∙ k name

-- ---- one deed

held_replies : {L : Type 0} (p p' : Peering L) → IsHeldAlone p p' → p'.replies ≡ p.replies
held_replies {L} p p' e = ap (λ (q : Peering L). q.replies) e

same_replies : {L : Type 0} (p p' : Peering L) → p' ≡ p → p'.replies ≡ p.replies
same_replies {L} p p' e = ap (λ (q : Peering L). q.replies) e

-- behind events, and behind a call or a poll with its events
replied_first : (events : List Local) (first : Local) (h : List Local) → replied_in (first ∷ []) ≡ [] → replied_in ((events ++ first ∷ []) ++ h) ≡ replied_in h ++ replied_in events
replied_first events first h e =
    replied_in-append (events ++ first ∷ []) h
    ∙ ap (λ (u : List ConnectionReply). replied_in h ++ u) (replied_in-append events (first ∷ []) ∙ ap (λ (u : List ConnectionReply). u ++ replied_in events) e)

more_as : (old new : List ConnectionReply) (es events : List Local) → new ≡ old ++ replied_in es → es ≡ events → new ≡ old ++ replied_in events
more_as old new es events e f = e ∙ ap (λ (u : List Local). old ++ replied_in u) f

step_replies : {L : Type 0} (link : Ghosts L) (at : ℕ) (p p' : Peering L) (events : List Local) → IsStep link at p events p' → p'.replies ≡ p.replies ++ replied_in events
step_replies link at p p' events (inl (k, e)) = more_as p.replies p'.replies k.0.run.events events k.0.run.answers e
step_replies link at p p' events (inr (k, e)) = more_as p.replies p'.replies k.0.run.events events k.0.run.answers e

deed_tells : {L : Type 0} (link : Ghosts L) (at : ℕ) (d : Deed) (p p' : Peering L) (s s' : State) (l l' : Links) (told : List NamedReply) (h : List Local) → IsDeed link at p s l d p' s' l' → AreOfSessions s.replies
    → IsTold told p.replies h → IsTold (told ++ told_of d) p'.replies (adds at d ++ h)
deed_tells link at (Makes name call events) p p' s s' l l' told h x a k =
    told_more told p.replies p'.replies (replied_in events) h ((events ++ Made at name call ∷ []) ++ h) (more_as p.replies p'.replies x.0.0.events events x.0.0.answers x.0.1) (replied_first events (Made at name call) h refl) k
deed_tells link at (Polls events) p p' s s' l l' told h x a k =
    told_more told p.replies p'.replies (replied_in events) h ((events ++ Polled at ∷ []) ++ h) (more_as p.replies p'.replies x.0.0.events events x.0.0.answers x.0.1) (replied_first events (Polled at) h refl) k
deed_tells link at (Goes events) p p' s s' l l' told h x a k = told_more told p.replies p'.replies (replied_in events) h (events ++ h) (step_replies link at p p' events x.0) (replied_in-append events h) k
deed_tells link at (Moves m) p p' s s' l l' told h x a k = told_same told p.replies p'.replies h (same_replies p p' x.0) k
deed_tells link at (Hears f) p p' s s' l l' told h x a k = told_same told p.replies p'.replies h (held_replies p p' x.1) k
deed_tells link at (Writes f events) p p' s s' l l' told h x a k =
    let w = x.0 in
    let silent : replied_in events ≡ [] = ap replied_in (sym w.adds) ∙ w.sent.mute in
    told_more told p.replies p'.replies [] h (events ++ h) (w.sent.replies ∙ sym (append-nil p.replies)) (replied_in-append events h ∙ ap (λ (u : List ConnectionReply). replied_in h ++ u) silent) k
deed_tells link at (Seats channel) p p' s s' l l' told h x a k = told_same told p.replies p'.replies h (held_replies p p' x.1) k
deed_tells link at (Lacks e) p p' s s' l l' told h x a k = told_same told p.replies p'.replies h (held_replies p p' x.1) k
deed_tells {L} link at (Frees channel) p p' s s' l l' told h x a k = told_same told p.replies p'.replies h (ap (λ (q : Peering L). q.replies) x.1) k
deed_tells link at (Accepts name n channel limit incoming) p p' s s' l l' told h x a k = told_same told p.replies p'.replies h (held_replies p p' x.1) k
deed_tells link at (Asks name call) p p' s s' l l' told h x a k = told_same told p.replies p'.replies h (same_replies p p' x.0) k
deed_tells link at (LinksHear session y) p p' s s' l l' told h x a k = told_same told p.replies p'.replies h (same_replies p p' x.0) k
deed_tells link at (LinksWrite session y) p p' s s' l l' told h x a k = told_same told p.replies p'.replies h (same_replies p p' x.0) k
deed_tells link at (LinksLack session) p p' s s' l l' told h x a k = told_same told p.replies p'.replies h (same_replies p p' x.0) k
deed_tells link at LinksKnow p p' s s' l l' told h x a k = told_same told p.replies p'.replies h (same_replies p p' x.0) k
deed_tells link at LinksLook p p' s s' l l' told h x a k = told_same told p.replies p'.replies h (same_replies p p' x.0) k
deed_tells {L} link at (Tells answers) p p' s s' l l' told h x a k =
    told_out told answers p.replies p'.replies h (ap (λ (q : Peering L). q.replies) x.0) (λ name. told_in_order name s.replies p.replies l.replies answers a x.3) k
deed_tells {L} link at (TellsFirst first answers) p p' s s' l l' told h x a k =
    told_out told (with_first first answers) p.replies p'.replies h (ap (λ (q : Peering L). q.replies) x.0) (λ name. told_first name first s.replies p.replies l.replies answers a x.3) k

-- ---- all of them

told_as : (a b : List NamedReply) (rs : List ConnectionReply) (h : List Local) → a ≡ b → IsTold a rs h → IsTold b rs h
told_as a b rs h e k = subst (λ (u : List NamedReply). IsTold u rs h) e k

pub ends_tell : {L : Type 0} (link : Ghosts L) (at : ℕ) (p : Peering L) (s : State) (l : Links) (ds : List Deed) (p' : Peering L) (s' : State) (l' : Links) (told : List NamedReply) (h : List Local)
    → Did link at p s l ds p' s' l' → AreOfSessions s.replies → IsTold told p.replies h → IsTold (told ++ told_by ds) p'.replies (behind at ds h)
ends_tell link at p s l [] p' s' l' told h x a k = told_same told p.replies p'.replies h (same_replies p p' x.0) k
ends_tell link at p s l (d ∷ ds) p' s' l' told h x a k =
    told_as ((told ++ told_by ds) ++ told_of d) (told ++ told_by (d ∷ ds)) p'.replies (behind at (d ∷ ds) h) (append_assoc told (told_by ds) (told_of d))
    (deed_tells link at d x.0 p' x.1 s' x.2 l' (told ++ told_by ds) (behind at ds h) x.4 (sessions_answer link at p s l ds x.0 x.1 x.2 x.3 a) (ends_tell link at p s l ds x.0 x.1 x.2 told h x.3 a k))
