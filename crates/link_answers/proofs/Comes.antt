-- What links were handed comes of frames that were heard, and what was given to the connection of what links gave, behind
-- the deeds of an end.
use Rattle.std.proofs.Common.{◌≡◌, inl, inr, subst, refl, sym, ℕ, List, [], ◌∷◌, ◌++◌, All, Contains}
use Rattle.std.proofs.lemmas.List.Elements.{All-nil, All-cons, All-head, All-tail, All-append, All-weaker, All-contains_itself, Contains-append_left}
use Rattle.amqp_end.specs.Deeds as end
use Rattle.amqp_end.specs.Deeds.{Deed, IsDeed, Did, framed_of, given_of, given_by}
use Rattle.amqp_end.specs.Moves as move
use Rattle.amqp_end.specs.Moves.{Move, on}
use Rattle.amqp_frames.specs.declared.body.FrameBody.{FrameBody}
use Rattle.amqp_frames.specs.declared.body.FrameBody.TheVariants as b
use Rattle.amqp_links.specs.State.{State as Links}
use Rattle.amqp_parts.specs.declared.part.Part.{Part}
use Rattle.amqp_peer.specs.Peering.{Peering}
use Rattle.amqp_performatives.specs.declared.transfer.Transfer.{Transfer}
use Rattle.amqp_session.specs.declared.session.LinkInput.{LinkInput}
use Rattle.amqp_session.specs.declared.session.LinkInput.TheVariants as input
use Rattle.amqp_session.specs.State.{Framed}
use Rattle.amqp_sessions.specs.Calls.{accepted}
use Rattle.amqp_sessions.specs.Frames.{heard, written, refusing}
use Rattle.amqp_sessions.specs.Parts.{EndpointState}
use Rattle.amqp_sessions.specs.State.{State, none_begun}
use Rattle.amqp_transport.specs.declared.frames.Frame.{Frame}
use Rattle.amqp_wire.specs.declared.link.Link.{Ghosts}
use Rattle.link_answers.specs.Coming.{Comes, IsPiece, WritesFor, Passed, frames_of, channels_in, channels_of, accepted_of, added, passed_then, nothing_passed, IsBegunOn, IsRead, IsOfLink, IsOfSession, IsComing, OneComes, AreComing, Passes, DeedsPass}
use Rattle.link_answers.specs.Passing.{read_of, read_by, gave_of, gave_by}
use Rattle.link_answers.proofs.Sessions.{OwnStands, PeerStands, EarlyStands, HandedStands, hands_out, heard_stands, written_stands, refusing_stands, begun_stands, accepted_stands, ended_stands, halted_stands, concluded_stands}

-- ---- of the first elements, and of the last

pub all_front : {X : Type 0} (P : X → Type 0) (xs ys : List X) → All P (xs ++ ys) → All P xs
all_front P [] ys h = All-nil P
all_front P (x ∷ xs) ys h = All-cons P x xs (All-head P x (xs ++ ys) h) (all_front P xs ys (All-tail P x (xs ++ ys) h))

pub all_back : {X : Type 0} (P : X → Type 0) (xs ys : List X) → All P (xs ++ ys) → All P ys
all_back P [] ys h = h
all_back P (x ∷ xs) ys h = all_back P xs ys (All-tail P x (xs ++ ys) h)

pub none_comes : (p : Passed) → AreComing p none_begun
none_comes p = record {
  endpoints = All-nil (OneComes p);
  channels = All-nil (OwnStands p);
  remotes = All-nil (PeerStands p);
  early = All-nil (EarlyStands p);
  incoming = All-nil (HandedStands p);
  output = All-nil (IsOfSession p);
}

-- ---- one deed

module _ (p : Passed) where
  abbrev pub GivenStands : Frame → Type 0
  GivenStands x = IsOfSession p (framed_of x)

  -- what passes in a deed, and in deeds, is among what has passed
  pub record HasPassed (d : Deed) : Type 0 where
    pub frames : All (Contains p.frames) (frames_of d)
    pub gave : All (Contains p.gave) (gave_of d)
    pub channels : All (Contains p.channels) (channels_of d)
    pub accepted : All (Contains p.accepted) (accepted_of d)

  pub record HavePassed (ds : List Deed) : Type 0 where
    pub frames : All (Contains p.frames) (added frames_of ds)
    pub gave : All (Contains p.gave) (gave_by ds)
    pub channels : All (Contains p.channels) (added channels_of ds)
    pub accepted : All (Contains p.accepted) (added accepted_of ds)

  rest_passed : (d : Deed) (ds : List Deed) → HavePassed (d ∷ ds) → HavePassed ds
  rest_passed d ds h = record {
    frames = all_front (Contains p.frames) (added frames_of ds) (frames_of d) h.frames;
    gave = all_front (Contains p.gave) (gave_by ds) (gave_of d) h.gave;
    channels = all_front (Contains p.channels) (added channels_of ds) (channels_of d) h.channels;
    accepted = all_front (Contains p.accepted) (added accepted_of ds) (accepted_of d) h.accepted;
  }

  first_passed : (d : Deed) (ds : List Deed) → HavePassed (d ∷ ds) → HasPassed d
  first_passed d ds h = record {
    frames = all_back (Contains p.frames) (added frames_of ds) (frames_of d) h.frames;
    gave = all_back (Contains p.gave) (gave_by ds) (gave_of d) h.gave;
    channels = all_back (Contains p.channels) (added channels_of ds) (channels_of d) h.channels;
    accepted = all_back (Contains p.accepted) (added accepted_of ds) (accepted_of d) h.accepted;
  }

  -- the sessions behind a deed, and what passes in it
  record Step (d : Deed) (s : State) : Type 0 where
    coming : AreComing p s
    handed : All (HandedStands p) (read_of d)
    given : All GivenStands (given_of d)

  quiet : (s t : State) → t ≡ s → AreComing p s → AreComing p t
  quiet s t e k = subst (AreComing p) (sym e) k

  -- parts change of which nothing is said
  besides : (s t : State) → t.endpoints ≡ s.endpoints → t.channels ≡ s.channels → t.remotes ≡ s.remotes → t.early ≡ s.early → t.incoming ≡ s.incoming → t.output ≡ s.output → AreComing p s → AreComing p t
  besides s t a c r f i o k = record {
    endpoints = subst (All (OneComes p)) (sym a) k.endpoints;
    channels = subst (All (OwnStands p)) (sym c) k.channels;
    remotes = subst (All (PeerStands p)) (sym r) k.remotes;
    early = subst (All (EarlyStands p)) (sym f) k.early;
    incoming = subst (All (HandedStands p)) (sym i) k.incoming;
    output = subst (All (IsOfSession p)) (sym o) k.output;
  }

  moves : (m : Move) (s : State) → All (Contains p.channels) (channels_in m) → AreComing p s → AreComing p (on m s)
  moves (move.Begun name x channel limit) s h k = begun_stands p name x channel limit s (All-head (Contains p.channels) (name, channel) [] h) k
  moves (move.Awaiting name x) s h k = besides s _ refl refl refl refl refl refl k
  moves (move.Refused name error) s h k = besides s _ refl refl refl refl refl refl k
  moves (move.Ended name session condition) s h k = ended_stands p name session condition s k
  moves (move.HandedOut name) s h k = hands_out p name s k
  moves (move.Halted why) s h k = halted_stands p why s k
  moves (move.Concluded why) s h k = concluded_stands p why s k

  -- the first of what sessions have for links, and the first frame to be written, is taken off
  handed_first : (e : ℕ × LinkInput) (s s' : State) → s.incoming ≡ e ∷ s'.incoming → s' ≡ record s { incoming = s'.incoming } → AreComing p s → AreComing p s' × HandedStands p e
  handed_first e s s' o is k =
      let all : All (HandedStands p) (e ∷ s'.incoming) = subst (All (HandedStands p)) o k.incoming in
      let t : State = record s { incoming = s'.incoming } in
      let rest : AreComing p t = record { endpoints = k.endpoints; channels = k.channels; remotes = k.remotes; early = k.early; incoming = All-tail (HandedStands p) e s'.incoming all; output = k.output } in
      (quiet t s' is rest, All-head (HandedStands p) e s'.incoming all)

  out_first : (x : Framed) (s s' : State) → s.output ≡ x ∷ s'.output → s' ≡ record s { output = s'.output } → AreComing p s → AreComing p s' × IsOfSession p x
  out_first x s s' o is k =
      let all : All (IsOfSession p) (x ∷ s'.output) = subst (All (IsOfSession p)) o k.output in
      let t : State = record s { output = s'.output } in
      let rest : AreComing p t = record { endpoints = k.endpoints; channels = k.channels; remotes = k.remotes; early = k.early; incoming = k.incoming; output = All-tail (IsOfSession p) x s'.output all } in
      (quiet t s' is rest, All-head (IsOfSession p) x s'.output all)

  deed : {L : Type 0} (link : Ghosts L) (at : ℕ) (d : Deed) (c c' : Peering L) (s s' : State) (l l' : Links) → IsDeed link at c s l d c' s' l' → HasPassed d → AreComing p s → Step d s'
  deed {L} link at d c c' s s' l l' x h k = by d x h
    where
      nothing : All (HandedStands p) []
      nothing = All-nil (HandedStands p)

      none : All GivenStands []
      none = All-nil GivenStands

      by : (d : Deed) → IsDeed link at c s l d c' s' l' → HasPassed d → Step d s'
      by (end.Makes name call events) x h = record { coming = quiet s s' x.1 k; handed = nothing; given = none }
      by (end.Polls events) x h = record { coming = quiet s s' x.1 k; handed = nothing; given = none }
      by (end.Goes events) x h = record { coming = quiet s s' x.1 k; handed = nothing; given = none }
      by (end.Moves m) x h = record { coming = quiet (on m s) s' x.1 (moves m s h.channels k); handed = nothing; given = none }
      by (end.Hears f) x h =
          record { coming = quiet (heard (framed_of f) s) s' x.2 (heard_stands p (framed_of f) s (All-head (Contains p.frames) (framed_of f) [] h.frames) k); handed = nothing; given = none }
      by (end.Writes f events) x h =
          let o = out_first (framed_of f) s s' x.0.takes.0 x.0.takes.1 k in
          record { coming = o.0; handed = nothing; given = All-cons GivenStands f [] o.1 none }
      by (end.Seats channel) x h = record { coming = quiet s s' x.2 k; handed = nothing; given = none }
      by (end.Lacks e) x h = record { coming = quiet s s' x.2 k; handed = nothing; given = none }
      by (end.Frees channel) x h =
          record { coming = quiet (record s { freed = s'.freed }) s' x.0.1 (besides s (record s { freed = s'.freed }) refl refl refl refl refl refl k); handed = nothing; given = none }
      by (end.Accepts name n channel limit incoming) x h =
          let there : Contains p.channels (name, channel) = All-head (Contains p.channels) (name, channel) [] h.channels in
          let led : Contains p.accepted (name, incoming.channel) = All-head (Contains p.accepted) (name, incoming.channel) [] h.accepted in
          record { coming = quiet (accepted name n channel limit incoming s) s' x.2 (accepted_stands p name n channel limit incoming s there led k); handed = nothing; given = none }
      by (end.Asks name call) x h = record { coming = quiet s s' x.1 k; handed = nothing; given = none }
      by (end.LinksHear session y) x h =
          let o = handed_first (session, y) s s' x.1.0 x.1.1 k in
          record { coming = o.0; handed = All-cons (HandedStands p) (session, y) [] o.1 nothing; given = none }
      by (end.LinksWrite session y) x h =
          record { coming = quiet (written session y s) s' x.1 (written_stands p session y s (All-head (Contains p.gave) _ [] h.gave) k); handed = nothing; given = none }
      by (end.LinksLack session) x h = record { coming = quiet (refusing session s) s' x.1 (refusing_stands p session s k); handed = nothing; given = none }
      by end.LinksKnow x h = record { coming = quiet s s' x.1 k; handed = nothing; given = none }
      by end.LinksLook x h = record { coming = quiet s s' x.1 k; handed = nothing; given = none }
      by (end.Tells answers) x h =
          record { coming = quiet (record s { replies = [] }) s' x.1 (besides s (record s { replies = [] }) refl refl refl refl refl refl k); handed = nothing; given = none }
      by (end.TellsFirst name answers) x h =
          record { coming = quiet (record s { replies = [] }) s' x.1 (besides s (record s { replies = [] }) refl refl refl refl refl refl k); handed = nothing; given = none }

  -- ---- all of them

  pub deeds_pass : {L : Type 0} (link : Ghosts L) (at : ℕ) (q : Peering L) (s : State) (l : Links) (ds : List Deed) (q' : Peering L) (s' : State) (l' : Links)
      → Did link at q s l ds q' s' l' → HavePassed ds → AreComing p s → AreComing p s' × Passes p ds
  deeds_pass link at q s l [] q' s' l' x h k = (quiet s s' x.1 k, record { handed = All-nil (HandedStands p); given = All-nil GivenStands })
  deeds_pass link at q s l (d ∷ ds) q' s' l' x h k =
      let m = deeds_pass link at q s l ds x.0 x.1 x.2 x.3 (rest_passed d ds h) k in
      let one : Step d s' = deed link at d x.0 q' x.1 s' x.2 l' x.4 (first_passed d ds h) m.0 in
      let both : Passes p (d ∷ ds) = record {
        handed = All-append (HandedStands p) (read_by ds) (read_of d) m.1.handed one.handed;
        given = All-append GivenStands (given_by ds) (given_of d) m.1.given one.given;
      } in
      (one.coming, both)

-- ---- by more frames

pub comes_wider : (P Q : FrameBody → Type 0) → ((x : FrameBody) → P x → Q x) → (x : LinkInput) → Comes P x → Comes Q x
comes_wider P Q f (input.Attach x) h = f (b.Attach x) h
comes_wider P Q f (input.Flow x) h = (h.0, f (b.Flow x) h.1)
comes_wider P Q f (input.Transfer x payload) h = f (b.Transfer x payload) h
comes_wider P Q f (input.Disposition x) h = f (b.Disposition x) h
comes_wider P Q f (input.Detach x) h = f (b.Detach x) h
comes_wider P Q f other h = tt

piece_wider : (P Q : FrameBody → Type 0) → ((x : FrameBody) → P x → Q x) → (x : Transfer) (payload : List ℕ) → IsPiece P x payload → IsPiece Q x payload
piece_wider P Q f x payload k = record { whole = k.whole; before = k.before; later = k.later; is = f _ k.is; part = k.part }

pub goes_wider : (P Q : FrameBody → Type 0) → ((x : FrameBody) → P x → Q x) → (x : FrameBody) → WritesFor P x → WritesFor Q x
goes_wider P Q f (b.Attach x) h = f (b.Attach x) h
goes_wider P Q f (b.Flow x) (inl h) = inl h
goes_wider P Q f (b.Flow x) (inr h) = inr (h.0, (h.1.0, (f (b.Flow h.1.0) h.1.1.0, h.1.1.1)))
goes_wider P Q f (b.Transfer x payload) h = piece_wider P Q f x payload h
goes_wider P Q f (b.Disposition x) h = f (b.Disposition x) h
goes_wider P Q f (b.Detach x) h = f (b.Detach x) h
goes_wider P Q f other h = tt

-- all that has passed has passed still
pub record Wider (p q : Passed) : Type 0 where
  pub frames : (x : Framed) → Contains p.frames x → Contains q.frames x
  pub gave : (x : ℕ × FrameBody) → Contains p.gave x → Contains q.gave x
  pub channels : (x : ℕ × ℕ) → Contains p.channels x → Contains q.channels x
  pub accepted : (x : ℕ × ℕ) → Contains p.accepted x → Contains q.accepted x

module _ (p q : Passed) (w : Wider p q) where
  begun_wider : (session channel : ℕ) → IsBegunOn p session channel → IsBegunOn q session channel
  begun_wider session channel (inl h) = inl (w.accepted (session, channel) h)
  begun_wider session channel (inr h) = inr (record { begin = h.begin; own = h.own; names = h.names; on = w.channels (session, h.own) h.on; read = w.frames _ h.read })

  read_wider : (session : ℕ) (x : FrameBody) → IsRead p session x → IsRead q session x
  read_wider session x h = (h.0, (begun_wider session h.0 h.1.0, w.frames _ h.1.1))

  link_wider : (session : ℕ) (x : FrameBody) → IsOfLink p session x → IsOfLink q session x
  link_wider session x h = w.gave (session, x) h

  out_wider : (x : Framed) → IsOfSession p x → IsOfSession q x
  out_wider x h = (h.0, (w.channels (h.0, x.channel) h.1.0, goes_wider (IsOfLink p h.0) (IsOfLink q h.0) (link_wider h.0) x.body h.1.1))

  one_wider : (e : ℕ × EndpointState) → OneComes p e → OneComes q e
  one_wider e h =
      let k : IsComing h.0 (IsRead p e.0) (IsOfLink p e.0) e.1.session = h.1.1 in
      let wider : IsComing h.0 (IsRead q e.0) (IsOfLink q e.0) e.1.session = record {
        on = k.on;
        incoming = All-weaker (Comes (IsRead p e.0)) (Comes (IsRead q e.0)) (comes_wider (IsRead p e.0) (IsRead q e.0) (read_wider e.0)) e.1.session.incoming k.incoming;
        held = All-weaker (λ (x : Part). IsPiece (IsOfLink p e.0) x.transfer x.payload) (λ (x : Part). IsPiece (IsOfLink q e.0) x.transfer x.payload)
            (λ x i. piece_wider (IsOfLink p e.0) (IsOfLink q e.0) (link_wider e.0) x.transfer x.payload i) e.1.session.held k.held;
        output = All-weaker (λ (x : Framed). (x.channel ≡ h.0) × WritesFor (IsOfLink p e.0) x.body) (λ (x : Framed). (x.channel ≡ h.0) × WritesFor (IsOfLink q e.0) x.body)
            (λ x i. (i.0, goes_wider (IsOfLink p e.0) (IsOfLink q e.0) (link_wider e.0) x.body i.1)) e.1.session.output k.output;
      } in
      (h.0, (w.channels (e.0, h.0) h.1.0, wider))

  pub coming_wider : (s : State) → AreComing p s → AreComing q s
  coming_wider s k = record {
    endpoints = All-weaker (OneComes p) (OneComes q) one_wider s.endpoints k.endpoints;
    channels = All-weaker (OwnStands p) (OwnStands q) (λ e h. w.channels (e.1, e.0) h) s.channels k.channels;
    remotes = All-weaker (PeerStands p) (PeerStands q) (λ e h. begun_wider e.1 e.0 h) s.remotes k.remotes;
    early = All-weaker (EarlyStands p) (EarlyStands q) (λ e h. All-weaker (Contains p.frames) (Contains q.frames) w.frames e.1 h) s.early k.early;
    incoming = All-weaker (HandedStands p) (HandedStands q) (λ e h. comes_wider (IsRead p e.0) (IsRead q e.0) (read_wider e.0) e.1 h) s.incoming k.incoming;
    output = All-weaker (IsOfSession p) (IsOfSession q) out_wider s.output k.output;
  }

-- ---- behind deeds

-- what is behind others is among all
pub behind_others : {X : Type 0} (xs ys : List X) → All (Contains (xs ++ ys)) ys
behind_others xs ys = all_back (Contains (xs ++ ys)) xs ys (All-contains_itself (xs ++ ys))

pub they_have_passed : (ds : List Deed) (p : Passed) → HavePassed (passed_then ds p) ds
they_have_passed ds p = record {
  frames = behind_others p.frames (added frames_of ds);
  gave = behind_others p.gave (gave_by ds);
  channels = behind_others p.channels (added channels_of ds);
  accepted = behind_others p.accepted (added accepted_of ds);
}

wider_then : (ds : List Deed) (p : Passed) → Wider p (passed_then ds p)
wider_then ds p = record {
  frames = λ x h. Contains-append_left p.frames (added frames_of ds) x h;
  gave = λ x h. Contains-append_left p.gave (gave_by ds) x h;
  channels = λ x h. Contains-append_left p.channels (added channels_of ds) x h;
  accepted = λ x h. Contains-append_left p.accepted (added accepted_of ds) x h;
}

pub none_comes_first : AreComing nothing_passed none_begun
none_comes_first = none_comes nothing_passed

pub ends_pass : {L : Type 0} (link : Ghosts L) (at : ℕ) (q : Peering L) (s : State) (l : Links) (ds : List Deed) (q' : Peering L) (s' : State) (l' : Links) (p : Passed)
    → Did link at q s l ds q' s' l' → AreComing p s → DeedsPass p ds s'
ends_pass link at q s l ds q' s' l' p x k =
    let r : Passed = passed_then ds p in
    let m = deeds_pass r link at q s l ds q' s' l' x (they_have_passed ds p) (coming_wider p r (wider_then ds p) s k) in
    record { coming = m.0; passes = m.1 }
