-- What a session hands to its links was written by it, or heard.
use Rattle.std.specs.Prelude.{◌≡◌, ℕ, Bool, true, false, is_some, List, [], ◌∷◌, Option, Some, None, if◌then◌else◌, refl}
use Rattle.std.proofs.Common.{inl, inr, sym, ◌∙◌, ap, subst}
use Rattle.amqp_performatives.specs.declared.transfer.Transfer.{Transfer}
use Rattle.amqp_frames.specs.declared.body.FrameBody.{FrameBody}
use Rattle.amqp_frames.specs.declared.body.FrameBody.TheVariants as b
use Rattle.amqp_frames.specs.declared.shared.LinkFrame.{LinkFrame}
use Rattle.amqp_frames.specs.declared.shared.LinkFrame.TheVariants as link
use Rattle.amqp_parts.specs.declared.part.Part.{Part}
use Rattle.amqp_parts.specs.Cut.{cut_of}
use Rattle.amqp_session.specs.declared.session.LinkInput.{LinkInput}
use Rattle.amqp_session.specs.declared.session.SessionState.{SessionState}
use Rattle.amqp_session.specs.declared.session.SessionState.TheVariants as phase
use Rattle.amqp_session.specs.Hold.{begins, numbered, left_of}
use Rattle.amqp_session.specs.State.{State, Framed}
use Rattle.session_laws.proofs.Cuts.{is_cut, is_first}
use Rattle.session_laws.proofs.Lists.{Each, each_at, among_first, among_last}
use Rattle.session_laws.proofs.Speaks.{Fair, Of, Brings, Tells, TellsIn, AllTold, AllHears, all_handed}
use Rattle.session_laws.specs.Handing.{handed_over, heard}
use Rattle.session_laws.specs.Holding.{Move, tells, hears, after, transfers, written}
use Rattle.session_laws.specs.Messages.{transfer_in}
use Rattle.session_laws.specs.Settling.{IsAmong}
use Rattle.session_laws.specs.Speaking.{bodies}
use Rattle.connect_laws.specs.Bringing.{IsBrought, SessionsBring}

-- anything is told
abbrev Any : FrameBody → Type 0
Any x = Unit {0}

any_one : (x : LinkFrame) → Tells Any x
any_one (link.Attach x) = tt
any_one (link.Flow x) = λ w. tt
any_one (link.Transfer x payload) = tt
any_one (link.Disposition x covered) = tt
any_one (link.Detach x) = tt

any_in : (p : SessionState) (x : LinkFrame) → TellsIn Any p x
any_in phase.Mapped x = any_one x
any_in phase.BeginSent x = tt
any_in phase.EndSent x = tt
any_in phase.Unmapped x = tt

any_told : (s : State) (ms : List Move) → AllTold Any s ms
any_told s [] = tt
any_told s (tells x ∷ ms) = (any_in s.state x, any_told (after s (tells x)) ms)
any_told s (m ∷ ms) = (tt, any_told (after s m) ms)

-- ---- deliveries that begin to leave

abbrev IsWritten : List Part → FrameBody → Type 0
IsWritten parts (b.Transfer x payload) = IsAmong (record { transfer = x; payload = payload }) parts
IsWritten parts other = Unit {0}

numbered_is : (n : ℕ) (x : Transfer) (tag : List ℕ) → x.delivery_tag ≡ Some tag → (numbered n x).delivery_id ≡ Some n
numbered_is n x tag h =
    let e : begins x ≡ true = ap is_some h in subst (λ (c : Bool). (if c then record x { delivery_id = Some n } else x).delivery_id ≡ Some n) (sym e) refl

numbered_tag : (n : ℕ) (x : Transfer) (c : Bool) → (if c then record x { delivery_id = Some n } else x).delivery_tag ≡ x.delivery_tag
numbered_tag n x true = refl
numbered_tag n x false = refl

numbered_handle : (n : ℕ) (x : Transfer) (c : Bool) → (if c then record x { delivery_id = Some n } else x).handle ≡ x.handle
numbered_handle n x true = refl
numbered_handle n x false = refl

left_out : (parts : List Part) (frames : List FrameBody) (frame n : ℕ) (x : Transfer) (payload : List ℕ) (o : Option (List ℕ)) → x.delivery_tag ≡ o
    → IsAmong (record { transfer = (cut_of frame (numbered n x) payload).first.transfer; payload = (cut_of frame (numbered n x) payload).first.payload }) parts → Each (IsBrought parts frames) (left_of o n x)
left_out parts frames frame n x payload None e a = tt
left_out parts frames frame n x payload (Some tag) e a =
    let c = is_cut frame (numbered n x) payload in
    let f = is_first frame (numbered n x) payload in (
      record {
        part = record { transfer = (cut_of frame (numbered n x) payload).first.transfer; payload = (cut_of frame (numbered n x) payload).first.payload };
        among = a;
        handle = c.handle ∙ numbered_handle n x (begins x);
        number = f.number ∙ numbered_is n x tag e;
        tag = f.tag ∙ (numbered_tag n x (begins x) ∙ e);
      },
      tt,
    )

brings_fair : (parts : List Part) (frames : List FrameBody) → Fair Any (IsWritten parts) (IsBrought parts frames)
brings_fair parts frames = record {
  transfer = λ x payload. tt;
  ends = λ x. tt;
  flow = λ w. tt;
  attach = λ x. tt;
  detach = λ x. tt;
  part = λ x payload. tt;
  stops = λ why. tt;
  over = tt;
  left = λ frame n x payload v. left_out parts frames frame n x payload x.delivery_tag refl v;
}

-- ---- what is written is written, and what is heard is heard

one_written : (parts : List Part) (x : FrameBody) → ((p : Part) → IsAmong p (transfer_in x) → IsAmong p parts) → IsWritten parts x
one_written parts (b.Transfer x payload) h = h (record { transfer = x; payload = payload }) (inl refl)
one_written parts other h = tt

all_written : (parts : List Part) (xs : List Framed) → ((p : Part) → IsAmong p (transfers xs) → IsAmong p parts) → Each (Of (IsWritten parts)) xs
all_written parts [] h = tt
all_written parts (x ∷ xs) h =
    (one_written parts x.body (λ p i. h p (among_first p (transfer_in x.body) (transfers xs) i)), all_written parts xs (λ p i. h p (among_last p (transfer_in x.body) (transfers xs) i)))

one_heard : (parts : List Part) (frames : List FrameBody) (x : FrameBody) → IsAmong x frames → Brings (IsBrought parts frames) x
one_heard parts frames (b.Flow x) h = tt
one_heard parts frames (b.Disposition x) h = h
one_heard parts frames other h = tt

all_heard : (parts : List Part) (frames : List FrameBody) (ms : List Move) → ((x : FrameBody) → IsAmong x (bodies (heard ms)) → IsAmong x frames) → AllHears (IsBrought parts frames) ms
all_heard parts frames [] h = tt
all_heard parts frames (hears x ∷ ms) h = (one_heard parts frames x.body (h x.body (inl refl)), all_heard parts frames ms (λ y i. h y (inr i)))
all_heard parts frames (m ∷ ms) h = (tt, all_heard parts frames ms h)

pub sessions_bring : SessionsBring
sessions_bring s ms none x h =
    let parts = transfers (written s ms) in
    let frames = bodies (heard ms) in
    let C : LinkInput → Type 0 = IsBrought parts frames in
    each_at C (handed_over s ms) x h
    (all_handed Any (IsWritten parts) C (brings_fair parts frames) s ms (any_told s ms) (all_heard parts frames ms (λ y i. i)) (all_written parts (written s ms) (λ p i. i)) (subst (λ (xs : List LinkInput). Each C xs) (sym none) tt))
