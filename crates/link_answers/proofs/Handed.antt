-- What the links of one end were handed the links of the other have put out.
use Rattle.std.proofs.Common.{◌≡◌, inl, inr, refl, subst, sym, ℕ, Bool, List, [], ◌∷◌, ◌++◌, map, filter, All, IsSome, Contains, Option, Some, None}
use Rattle.std.proofs.lemmas.List.Elements.{All-nil, All-cons, All-head, All-append, All-map, All-filter, All-weaker, All-contains, All-contains_itself, Contains-append_left}
use Rattle.std.specs.Map.{values_of}
use Rattle.amqp_end.specs.Deeds as end
use Rattle.amqp_end.specs.Deeds.{Deed, framed_of, heard_of, heard_by, given_by}
use Rattle.amqp_frames.specs.Body.{read_again_body}
use Rattle.amqp_frames.specs.declared.body.FrameBody.{FrameBody}
use Rattle.amqp_frames.specs.declared.body.FrameBody.TheVariants as b
use Rattle.amqp_performatives.specs.declared.attach.Attach.{Attach}
use Rattle.amqp_performatives.specs.declared.detach.Detach.{Detach}
use Rattle.amqp_performatives.specs.declared.disposition.Disposition.{Disposition}
use Rattle.amqp_performatives.specs.declared.flow.Flow.{Flow}
use Rattle.amqp_performatives.specs.declared.transfer.Transfer.{Transfer}
use Rattle.amqp_session.specs.declared.session.LinkInput.{LinkInput}
use Rattle.amqp_session.specs.declared.session.LinkInput.TheVariants as input
use Rattle.amqp_session.specs.State.{Framed}
use Rattle.amqp_transport.specs.declared.frames.Frame.{Frame}
use Rattle.amqp_transport.specs.Kinds.{amqp_again}
use Rattle.link_answers.specs.Coming.{Comes, IsPiece, IsStamped, WritesFor, Passed, frames_of, added, passed_in, IsBegunOn, IsRead, IsOfLink, IsOfSession, Passes}
use Rattle.link_answers.specs.Passing.{read_by, gave_by}
use Rattle.link_answers.specs.Standing.{Written}
use Rattle.link_answers.specs.Worlds.{Ends, IsPut, IsFrom, WasPut}
use Rattle.link_answers.proofs.Comes.{all_front, all_back, GivenStands, comes_wider, goes_wider}

-- ---- what links have put out

-- what was put out, under the name of some link
abbrev IsAmong : List Written → ℕ × FrameBody → Type 0
IsAmong out e = (link : ℕ) × Contains out (link, e)

values_are : (out : List Written) → All (IsAmong out) (values_of out)
values_are out = All-map (IsAmong out) (λ (e : Written). e.1) out (All-weaker (Contains out) (λ (e : Written). IsAmong out e.1) (λ e h. (e.0, h)) out (All-contains_itself out))

-- what links gave to sessions they have put out
out_of : (gave later : List (ℕ × FrameBody)) (out : List Written) → gave ++ later ≡ values_of out → (e : ℕ × FrameBody) → Contains gave e → IsAmong out e
out_of gave later out same e h =
    let there : Contains (values_of out) e = subst (λ (u : List (ℕ × FrameBody)). Contains u e) same (Contains-append_left gave later e h) in
    All-contains (IsAmong out) (values_of out) e (values_are out) there

-- ---- frames that are read again

-- a frame that comes of the links of a session on its channel, as it is read again
pub record Again (far : Passed) (x : Framed) : Type 0 where
  pub facing : ℕ
  pub on : Contains far.channels (facing, x.channel)
  pub body : FrameBody
  pub again : x.body ≡ read_again_body body
  pub comes : WritesFor (IsOfLink far facing) body

again_of : (far : Passed) (x : Frame) → IsOfSession far (framed_of x) → Again far (framed_of (amqp_again x))
again_of far x h = record { facing = h.0; on = h.1.0; body = x.body; again = refl; comes = h.1.1 }

heard_again : (far : Passed) (test : Frame → Bool) (gs xs more : List Frame) → All (GivenStands far) gs → xs ++ more ≡ map amqp_again (filter test gs) → All (λ (x : Frame). Again far (framed_of x)) xs
heard_again far test gs xs more h e =
    let P : Frame → Type 0 = λ (x : Frame). Again far (framed_of x) in
    let all : All (λ (x : Frame). P (amqp_again x)) gs = All-weaker (GivenStands far) (λ (x : Frame). P (amqp_again x)) (λ x g. again_of far x g) gs h in
    all_front P xs more (subst (All P) (sym e) (All-map P amqp_again (filter test gs) (All-filter test (λ (x : Frame). P (amqp_again x)) gs all)))

-- of the frames that a deed hears
one_frame : (P : Framed → Type 0) (d : Deed) → All (λ (x : Frame). P (framed_of x)) (heard_of d) → All P (frames_of d)
one_frame P (end.Hears x) h = All-cons P (framed_of x) [] (All-head (λ (y : Frame). P (framed_of y)) x [] h) (All-nil P)
one_frame P other h = All-nil P

all_frames : (P : Framed → Type 0) (ds : List Deed) → All (λ (x : Frame). P (framed_of x)) (heard_by ds) → All P (added frames_of ds)
all_frames P [] h = All-nil P
all_frames P (d ∷ ds) h =
    let Q : Frame → Type 0 = λ (x : Frame). P (framed_of x) in
    All-append P (added frames_of ds) (frames_of d) (all_frames P ds (all_front Q (heard_by ds) (heard_of d) h)) (one_frame P d (all_back Q (heard_by ds) (heard_of d) h))

-- ---- what that says

no_handle : (o : Option ℕ) → o ≡ None → IsSome o → ⊥
no_handle None e h = cc
no_handle (Some n) e h = cc

module _ (Is : FrameBody → Type 0) where
  attach_from : (x : Attach) (y : FrameBody) → b.Attach x ≡ read_again_body y → WritesFor Is y → IsFrom Is (input.Attach x)
  attach_from x (b.Attach z) e g = (z, (g, cc))
  attach_from x other e g = absurd cc

  disposition_from : (x : Disposition) (y : FrameBody) → b.Disposition x ≡ read_again_body y → WritesFor Is y → Is (b.Disposition x)
  disposition_from x (b.Disposition z) e g = subst Is (sym e) g
  disposition_from x other e g = absurd cc

  detach_from : (x : Detach) (y : FrameBody) → b.Detach x ≡ read_again_body y → WritesFor Is y → Is (b.Detach x)
  detach_from x (b.Detach z) e g = subst Is (sym e) g
  detach_from x other e g = absurd cc

  transfer_from : (x : Transfer) (payload : List ℕ) (y : FrameBody) → b.Transfer x payload ≡ read_again_body y → WritesFor Is y → IsPiece Is x payload
  transfer_from x payload (b.Transfer z bytes) e g = subst (WritesFor Is) (sym e) g
  transfer_from x payload other e g = absurd cc

  flow_is : (x : Flow) → IsSome x.handle → WritesFor Is (b.Flow x) → IsStamped Is x
  flow_is x h (inl none) = absurd (no_handle x.handle none h)
  flow_is x h (inr g) = g

  flow_from : (x : Flow) (y : FrameBody) → b.Flow x ≡ read_again_body y → IsSome x.handle → WritesFor Is y → IsStamped Is x
  flow_from x (b.Flow z) e h g = flow_is x h (subst (WritesFor Is) (sym e) g)
  flow_from x other e h g = absurd cc

  -- such a frame, as it is read again
  abbrev pub IsAgain : FrameBody → Type 0
  IsAgain x = (y : FrameBody) × ((x ≡ read_again_body y) × WritesFor Is y)

  pub is_from : (x : LinkInput) → Comes IsAgain x → IsFrom Is x
  is_from (input.Attach x) h = attach_from x h.0 h.1.0 h.1.1
  is_from (input.Flow x) h = flow_from x h.1.0 h.1.1.0 h.0 h.1.1.1
  is_from (input.Transfer x payload) h = transfer_from x payload h.0 h.1.0 h.1.1
  is_from (input.Disposition x) h = disposition_from x h.0 h.1.0 h.1.1
  is_from (input.Detach x) h = detach_from x h.0 h.1.0 h.1.1
  is_from other h = tt

-- ---- two ends

module _ (w : Ends) (later : List (ℕ × FrameBody)) (same : w.far.gave ++ later ≡ values_of w.out) (all : All (Again w.far) w.near.frames) where
  -- a link of the session that faces it has put it out
  put_by : (session channel facing : ℕ) → IsBegunOn w.near session channel → Contains w.far.channels (facing, channel) → (x : FrameBody) → IsOfLink w.far facing x → IsPut w session x
  put_by session channel facing begun on x h =
      let k : IsAmong w.out (facing, x) = out_of w.far.gave later w.out same (facing, x) h in
      record { channel = channel; begun = begun; facing = facing; on = on; link = k.0; out = k.1 }

  of_frame : (session : ℕ) (x : FrameBody) → IsRead w.near session x → IsAgain (IsPut w session) x
  of_frame session x h =
      let a : Again w.far (record { channel = h.0; body = x }) = All-contains (Again w.far) w.near.frames (record { channel = h.0; body = x }) all h.1.1 in
      (a.body, (a.again, goes_wider (IsOfLink w.far a.facing) (IsPut w session) (put_by session h.0 a.facing h.1.0 a.on) a.body a.comes))

  sent : (e : ℕ × LinkInput) → Comes (IsRead w.near e.0) e.1 → WasPut w e.0 e.1
  sent e h = is_from (IsPut w e.0) e.1 (comes_wider (IsRead w.near e.0) (IsAgain (IsPut w e.0)) (of_frame e.0) e.1 h)

  pub all_sent : (es : List (ℕ × LinkInput)) → All (λ (e : ℕ × LinkInput). Comes (IsRead w.near e.0) e.1) es → All (λ (e : ℕ × LinkInput). WasPut w e.0 e.1) es
  all_sent es h = All-weaker (λ (e : ℕ × LinkInput). Comes (IsRead w.near e.0) e.1) (λ (e : ℕ × LinkInput). WasPut w e.0 e.1) sent es h

-- what the links of the one were handed, where its sessions heard the first frames that the other's gave
pub all_from : (ds es : List Deed) (test : Frame → Bool) (later : List (ℕ × FrameBody)) (more : List Frame) (out : List Written) → Passes (passed_in ds) ds → Passes (passed_in es) es
    → heard_by ds ++ more ≡ map amqp_again (filter test (given_by es)) → gave_by es ++ later ≡ values_of out
    → All (λ (e : ℕ × LinkInput). WasPut (record { near = passed_in ds; far = passed_in es; out = out }) e.0 e.1) (read_by ds)
all_from ds es test later more out near far heard same =
    let w : Ends = record { near = passed_in ds; far = passed_in es; out = out } in
    all_sent w later same (all_frames (Again w.far) ds (heard_again w.far test (given_by es) (heard_by ds) more far.given heard)) (read_by ds) near.handed
