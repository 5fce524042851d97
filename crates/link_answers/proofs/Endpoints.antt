-- One session: what it hands to its links comes of the frames that it hears, and what it writes of what they gave.
use Rattle.std.proofs.Common.{◌≡◌, inl, inr, ◌∙◌, subst, refl, sym, ℕ, zero, suc, nat_lt, nat_eq, not, Bool, true, false, if◌then◌else◌, List, [], ◌∷◌, ◌++◌, All, IsSome, Option, Some, None}
use Rattle.std.proofs.lemmas.List.Elements.{All-nil, All-push, All-append, All-head, All-tail, All-filter}
use Rattle.amqp_composites.specs.declared.error.Error.{Error as AmqpError}
use Rattle.amqp_composites.specs.declared.modes.Role.{Role}
use Rattle.amqp_composites.specs.declared.modes.Role.TheVariants as role
use Rattle.amqp_frames.specs.declared.body.FrameBody.{FrameBody}
use Rattle.amqp_frames.specs.declared.body.FrameBody.TheVariants as b
use Rattle.amqp_frames.specs.declared.shared.IncomingSession.{IncomingSession}
use Rattle.amqp_frames.specs.declared.shared.LinkFrame.{LinkFrame}
use Rattle.amqp_frames.specs.declared.shared.LinkFrame.TheVariants as link
use Rattle.amqp_frames.specs.declared.shared.SessionStopReason.{SessionStopReason}
use Rattle.amqp_link.specs.Link.{body_of}
use Rattle.amqp_parts.specs.Cut.{cut_of}
use Rattle.amqp_parts.specs.declared.part.Part.{Part}
use Rattle.amqp_performatives.specs.declared.attach.Attach.{Attach}
use Rattle.amqp_performatives.specs.declared.detach.Detach.{Detach}
use Rattle.amqp_performatives.specs.declared.flow.Flow.{Flow}
use Rattle.amqp_performatives.specs.declared.transfer.Transfer.{Transfer}
use Rattle.amqp_session.specs.Begin.{mapped, begun, accepted}
use Rattle.amqp_session.specs.declared.error.Error.{Error}
use Rattle.amqp_session.specs.declared.error.Error.TheVariants as error
use Rattle.amqp_session.specs.declared.error.Fault.{Fault}
use Rattle.amqp_session.specs.declared.error.Fault.TheVariants as fault
use Rattle.amqp_session.specs.declared.session.LinkInput.{LinkInput}
use Rattle.amqp_session.specs.declared.session.LinkInput.TheVariants as input
use Rattle.amqp_session.specs.declared.session.SessionState.{SessionState}
use Rattle.amqp_session.specs.declared.session.SessionState.TheVariants as state
use Rattle.amqp_session.specs.declared.settings.SessionSettings.{SessionSettings}
use Rattle.amqp_session.specs.Ends.{stopping, stopped, own_reason, remote_reason, ending, failing, ended, answered, end_asked, attach_refused}
use Rattle.amqp_session.specs.Faults.{error_for}
use Rattle.amqp_session.specs.Frames.{heard_unanswered, heard_mapped, heard_ending, heard_in, heard, told, told_in}
use Rattle.amqp_session.specs.Hold.{numbered, left_of, leaving, first_leaving, releasing, released, dropping, reporting}
use Rattle.amqp_session.specs.Links.{input_at, attach_at, attach_read, detach_at, transfer_at, hand_flow, echo, is_astray, flow_at}
use Rattle.amqp_session.specs.State.{State, Framed, Made, handing, saying, refuses}
use Rattle.amqp_session.specs.Windows.{windows_flowed, transfer_read, is_report_due}
use Rattle.link_answers.specs.Coming.{Comes, WritesFor, IsComing}
use Rattle.link_answers.proofs.Pieces.{PieceStands, piece_itself, keeps, Cuts, cuts}

module _ (c : ℕ) (Read Gave : FrameBody → Type 0) where
  abbrev Stands : State → Type 0
  Stands s = IsComing c Read Gave s

  -- a frame on its channel
  abbrev OutStands : Framed → Type 0
  OutStands x = (x.channel ≡ c) × WritesFor Gave x.body

  -- other parts of it change
  still : (s t : State) → t.channel ≡ s.channel → t.incoming ≡ s.incoming → t.held ≡ s.held → t.output ≡ s.output → Stands s → Stands t
  still s t w i h o k = record {
    on = w ∙ k.on;
    incoming = subst (All (Comes Read)) (sym i) k.incoming;
    held = subst (All (PieceStands Gave)) (sym h) k.held;
    output = subst (All OutStands) (sym o) k.output;
  }

  -- its links are handed something
  hands : (x : LinkInput) (s : State) → Comes Read x → Stands s → Stands (handing x s)
  hands x s h k = record { on = k.on; incoming = All-push (Comes Read) s.incoming x k.incoming h; held = k.held; output = k.output }

  -- it writes a frame
  says : (x : FrameBody) (s : State) → WritesFor Gave x → Stands s → Stands (saying x s)
  says x s h k = record { on = k.on; incoming = k.incoming; held = k.held; output = All-push OutStands s.output _ k.output (k.on, h) }

  -- ---- the Transfers that wait

  left_comes : (tag : Option (List ℕ)) (n : ℕ) (x : Transfer) → All (Comes Read) (left_of tag n x)
  left_comes None n x = All-nil (Comes Read)
  left_comes (Some tag) n x = All-push (Comes Read) [] _ (All-nil (Comes Read)) tt

  leaves : (x : Part) (s : State) → PieceStands Gave x → Stands s → Stands (leaving x s)
  leaves x s h k =
      let n : ℕ = s.windows.next_delivery_id in
      let cut : Cuts Gave (cut_of s.max_frame_size (numbered n x.transfer) x.payload) = cuts Gave s.max_frame_size n x h in
      record {
        on = k.on;
        incoming = All-append (Comes Read) s.incoming (left_of x.transfer.delivery_tag n x.transfer) k.incoming (left_comes x.transfer.delivery_tag n x.transfer);
        held = keeps Gave (cut_of s.max_frame_size (numbered n x.transfer) x.payload).rest s.held cut.rest k.held;
        output = All-push OutStands s.output _ k.output (k.on, cut.first);
      }

  first_leaves : (xs : List Part) (s : State) → All (PieceStands Gave) xs → Stands s → Stands (first_leaving xs s)
  first_leaves [] s h k = k
  first_leaves (x ∷ xs) s h k =
      leaves x (record s { held = xs }) (All-head (PieceStands Gave) x xs h) (record { on = k.on; incoming = k.incoming; held = All-tail (PieceStands Gave) x xs h; output = k.output })

  releases_so_many : (n : ℕ) (s : State) → Stands s → Stands (releasing n s)
  unfolding releasing
  releases_so_many zero s k = k
  releases_so_many (suc n) s k = releases_so_many n (first_leaving s.held s) (first_leaves s.held s k.held k)

  releases : (s : State) → Stands s → Stands (released s)
  releases s k = releases_so_many s.windows.allowance s k

  reports : (s : State) → Stands s → Stands (reporting s)
  reports s k = record { on = k.on; incoming = k.incoming; held = k.held; output = All-push OutStands s.output _ k.output (k.on, inl refl) }

  -- ---- the end

  stopping_stands : (o : Option SessionStopReason) (why : SessionStopReason) (s : State) → Stands s → Stands (stopping o why s)
  stopping_stands None why s k = hands (input.Stopped why) (record s { stop_reason = Some why }) tt (still s _ refl refl refl refl k)
  stopping_stands (Some first) why s k = k

  pub stops : (phase : SessionState) (why : SessionStopReason) (s : State) → Stands s → Stands (stopped phase why s)
  stops phase why s k =
      stopping_stands s.stop_reason why (record s { state = phase; held = [] }) (record { on = k.on; incoming = k.incoming; held = All-nil (PieceStands Gave); output = k.output })

  ends : (e : Option AmqpError) (s : State) → Stands s → Stands (ending e s)
  ends e s k = says (b.End (record { error = e })) (stopped state.EndSent (own_reason e) s) tt (stops state.EndSent (own_reason e) s k)

  fails : (x : Fault) (s : State) → Stands s → Stands (failing x s).state
  fails x s k = still (ending (Some (error_for x)) s) _ refl refl refl refl (ends (Some (error_for x)) s k)

  is_ended : (e : Option AmqpError) (s : State) → Stands s → Stands (ended e s)
  is_ended e s k =
      let t : State = stopped state.Unmapped (remote_reason e) s in
      hands input.Over (saying (b.End (record { error = None })) t) tt (says (b.End (record { error = None })) t tt (stops state.Unmapped (remote_reason e) s k))

  is_answered : (e : Option AmqpError) (s : State) → Stands s → Stands (answered e s).state
  is_answered None s k = hands input.Over (record s { state = state.Unmapped }) tt (still s _ refl refl refl refl k)
  is_answered (Some e) s k = hands input.Over (record s { state = state.Unmapped }) tt (still s _ refl refl refl refl k)

  -- ---- frames

  attaches_at : (o : Option Role) (x : Attach) (s : State) → Read (b.Attach x) → Stands s → Stands (attach_at o x s).state
  attaches_at None x s h k = hands (input.Attach x) _ h (still s _ refl refl refl refl k)
  attaches_at (Some r) x s h k = fails fault.HandleInUse s k

  limited : (t : Bool) (e : Error) (s : State) (m : Made) → Stands s → Stands m.state → Stands (if t then refuses e s else m).state
  limited true e s m k h = k
  limited false e s m k h = h

  attaches : (x : Attach) (s : State) → Read (b.Attach x) → Stands s → Stands (attach_read x s).state
  attaches x s h k = limited (nat_lt s.own_handle_max x.handle) error.FramingError s (attach_at (input_at x.handle s) x s) k (attaches_at (input_at x.handle s) x s h k)

  detaches : (o : Option Role) (x : Detach) (s : State) → Read (b.Detach x) → Stands s → Stands (detach_at o x s).state
  detaches None x s h k = fails fault.UnattachedHandle s k
  detaches (Some r) x s h k = hands (input.Detach x) _ h (still s _ refl refl refl refl k)

  reports_if : (t : Bool) (s : State) → Stands s → Stands (if t then reporting s else s)
  reports_if true s k = reports s k
  reports_if false s k = k

  transfers : (o : Option Role) (x : Transfer) (payload : List ℕ) (s : State) → Read (b.Transfer x payload) → Stands s → Stands (transfer_at o x payload s).state
  transfers None x payload s h k = fails fault.UnattachedHandle s k
  transfers (Some role.Receiver) x payload s h k = fails fault.TransferFrameToSender s k
  transfers (Some role.Sender) x payload s h k =
      let t : State = record s { windows = transfer_read s.windows } in
      reports_if (is_report_due t.windows) (handing (input.Transfer x payload) t) (hands (input.Transfer x payload) t h (still s t refl refl refl refl k))

  hands_flow : (o : Option ℕ) (x : Flow) (s : State) → x.handle ≡ o → Read (b.Flow x) → Stands s → Stands (hand_flow o x s)
  hands_flow None x s e h k = k
  hands_flow (Some handle) x s e h k = hands (input.Flow x) s (is_some_of x handle e, h) k
    where
      is_some_of : (x : Flow) (handle : ℕ) → x.handle ≡ Some handle → IsSome x.handle
      is_some_of x handle e = subst IsSome (sym e) refl

  echoes : (t : Bool) (s : State) → Stands s → Stands (echo t s)
  echoes true s k = reports s k
  echoes false s k = k

  flows : (t : Bool) (x : Flow) (s : State) → Read (b.Flow x) → Stands s → Stands (flow_at t x s).state
  flows true x s h k = fails fault.UnattachedHandle s k
  flows false x s h k =
      let t : State = record s { windows = windows_flowed x s.windows } in
      let u : State = released t in
      echoes x.echo (hand_flow x.handle x u) (hands_flow x.handle x u refl h (releases t (still s t refl refl refl refl k)))

  begins_mapped : (channel : ℕ) (body : FrameBody) (s : State) → Stands s → Stands (heard_unanswered channel body s).state
  begins_mapped channel (b.Begin x) s k = releases (mapped channel x s) (still s _ refl refl refl refl k)
  begins_mapped channel (b.End x) s k = is_ended x.error s k
  begins_mapped channel (b.Open x) s k = k
  begins_mapped channel (b.Attach x) s k = k
  begins_mapped channel (b.Flow x) s k = k
  begins_mapped channel (b.Transfer x payload) s k = k
  begins_mapped channel (b.Disposition x) s k = k
  begins_mapped channel (b.Detach x) s k = k
  begins_mapped channel (b.Close x) s k = k
  begins_mapped channel b.Empty s k = k

  hears_mapped : (body : FrameBody) (s : State) → Read body → Stands s → Stands (heard_mapped body s).state
  hears_mapped (b.Attach x) s h k = attaches x s h k
  hears_mapped (b.Flow x) s h k = flows (is_astray x.handle s) x s h k
  hears_mapped (b.Transfer x payload) s h k = transfers (input_at x.handle s) x payload s h k
  hears_mapped (b.Disposition x) s h k = hands (input.Disposition x) s h k
  hears_mapped (b.Detach x) s h k = detaches (input_at x.handle s) x s h k
  hears_mapped (b.End x) s h k = is_ended x.error s k
  hears_mapped (b.Begin x) s h k = k
  hears_mapped (b.Open x) s h k = k
  hears_mapped (b.Close x) s h k = k
  hears_mapped b.Empty s h k = k

  hears_ending : (body : FrameBody) (s : State) → Read body → Stands s → Stands (heard_ending body s).state
  hears_ending (b.Disposition x) s h k = hands (input.Disposition x) s h k
  hears_ending (b.End x) s h k = is_answered x.error s k
  hears_ending (b.Begin x) s h k = k
  hears_ending (b.Open x) s h k = k
  hears_ending (b.Attach x) s h k = k
  hears_ending (b.Flow x) s h k = k
  hears_ending (b.Transfer x payload) s h k = k
  hears_ending (b.Detach x) s h k = k
  hears_ending (b.Close x) s h k = k
  hears_ending b.Empty s h k = k

  hears_in : (st : SessionState) (x : Framed) (s : State) → Read x.body → Stands s → Stands (heard_in st x s).state
  hears_in state.BeginSent x s h k = begins_mapped x.channel x.body s k
  hears_in state.Mapped x s h k = hears_mapped x.body s h k
  hears_in state.EndSent x s h k = hears_ending x.body s h k
  hears_in state.Unmapped x s h k = k

  -- a frame was read
  pub hears : (x : Framed) (s : State) → Read x.body → Stands s → Stands (heard x s).state
  hears x s h k = hears_in s.state x s h k

  -- ---- links and calls

  tells_mapped : (x : LinkFrame) (s : State) → Gave (body_of x) → Stands s → Stands (told x s)
  tells_mapped (link.Attach x) s h k = says (b.Attach x) s h k
  tells_mapped (link.Flow x) s h k = record { on = k.on; incoming = k.incoming; held = k.held; output = All-push OutStands s.output _ k.output (k.on, inr (s.windows, (x, (h, refl)))) }
  tells_mapped (link.Transfer x payload) s h k =
      releases (record s { held = s.held ++ record { transfer = x; payload = payload } ∷ [] })
      (record { on = k.on; incoming = k.incoming; held = All-push (PieceStands Gave) s.held (record { transfer = x; payload = payload }) k.held (piece_itself Gave x payload h); output = k.output })
  tells_mapped (link.Disposition x covered) s h k = says (b.Disposition x) s h k
  tells_mapped (link.Detach x) s h k =
      says (b.Detach x) (dropping x.handle s) h
      (record { on = k.on; incoming = k.incoming; held = All-filter (λ (p : Part). not (nat_eq p.transfer.handle x.handle)) (PieceStands Gave) s.held k.held; output = k.output })

  -- a link writes a frame
  pub tells : (st : SessionState) (x : LinkFrame) (s : State) → Gave (body_of x) → Stands s → Stands (told_in st x s).state
  tells state.Mapped x s h k = tells_mapped x s h k
  tells state.BeginSent x s h k = k
  tells state.EndSent x s h k = k
  tells state.Unmapped x s h k = k

  -- the links have no place for an Attach
  pub refuses_attach : (st : SessionState) (s : State) → Stands s → Stands (attach_refused st s).state
  refuses_attach state.Mapped s k = fails fault.RemoteAttachingLinkNameNotFound s k
  refuses_attach state.BeginSent s k = k
  refuses_attach state.EndSent s k = k
  refuses_attach state.Unmapped s k = k

  -- a call ends it
  pub asks_end : (st : SessionState) (e : Option AmqpError) (s : State) → Stands s → Stands (end_asked st e s).state
  asks_end state.Mapped e s k = ends e s k
  asks_end state.BeginSent e s k = k
  asks_end state.EndSent e s k = k
  asks_end state.Unmapped e s k = k

  -- a session begins on the channel
  pub begins : (x : SessionSettings) → Stands (begun x c)
  begins x = record { on = refl; incoming = All-nil (Comes Read); held = All-nil (PieceStands Gave); output = All-push OutStands [] _ (All-nil OutStands) (refl, tt) }

  pub accepts : (x : SessionSettings) (incoming : IncomingSession) → Stands (accepted x c incoming)
  accepts x incoming = record { on = refl; incoming = All-nil (Comes Read); held = All-nil (PieceStands Gave); output = All-push OutStands [] _ (All-nil OutStands) (refl, tt) }
