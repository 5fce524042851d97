-- The end that made a step, in words of its history.
use Rattle.std.proofs.Common.{◌≡◌, ◌⊎◌, ◌+◌, ◌≤◌, inl, inr, List, ℕ, [], ◌∷◌, ◌++◌, true, false, length, take, drop, sym, ap, ◌∙◌, subst, arith, append_assoc, append-nil}
use Rattle.std.proofs.Math.Seq.{take-add}
use Rattle.std.proofs.lemmas.List.{take-append-drop}
use Rattle.amqp_wire.specs.Events.{LinkEvent}
use Rattle.amqp_wire.specs.Piped.{Piped}
use Rattle.amqp_words.specs.declared.call.Call as peer_call
use Rattle.amqp_words.specs.declared.reply.NamedReply.{NamedReply}
use Rattle.amqp_words.specs.declared.step.Act.{Act}
use Rattle.amqp_words.specs.declared.step.Act.TheVariants.{Take, TakeAll, Call}
use Rattle.amqp_words.specs.declared.step.End.{End}
use Rattle.amqp_peer.specs.Gated.{IsGated}
use Rattle.amqp_peer.specs.Held.{IsExchanged}
use Rattle.amqp_peer.specs.History.{Local, made_in, link_in, replied_in, read_in, wrote_in}
use Rattle.amqp_peer.specs.Layers.{layer_in}
use Rattle.amqp_peer.specs.Peering.{Peering, Has}
use Rattle.amqp_peer.proofs.Laws.{has_with_link, gated_law, tied_law, said_law, causes_law, exchanged_with_link}
use Rattle.amqp_ends.specs.Gates.{AllFair, Faces}
use Rattle.amqp_ends.specs.Joined.{IsCalm, Meets}
use Rattle.amqp_ends.specs.Quiet.{AreOpposite}
use Rattle.amqp_ends.specs.Passes.{FacedWhenTold}
use Rattle.amqp_ends.proofs.Faced.{faced_called, faced_polled, faced_other, faced_inside}
use Rattle.amqp_ends.proofs.GateReplies.{replies_fair}
use Rattle.amqp_world.specs.History.{Event, wrote, taken, moved, read, calls, called, begun, other, is_same}
use Rattle.amqp_world.specs.Related.{Side}
use Rattle.amqp_world.specs.Turn.{Turned, fed, pipe_of}
use Rattle.amqp_world.proofs.Growth.{calls_near, calls_far, made_grown, link_grown, read_grown, wrote_grown}
use Rattle.amqp_world.proofs.Meeting.{meeting}
use Rattle.amqp_world.proofs.Pipes.{calm_more}
use Rattle.amqp_world.proofs.Turns.{stepped_input, stepped_calm, turned_replied, turned_link}
use Rattle.amqp_world.proofs.Waiting.{layer_law}

-- how far a step moves the mark of the other end, in words of the past
pub moved_to : (e f : End) (past : List Event) (act : Act) (q : Peering Piped) (count : ℕ) → Side f e q past → (pipe_of q).mark + count ≡ moved act (pipe_of q).mark (length (pipe_of q).output) → (pipe_of q).mark + count ≡ moved act (taken e past) (length (wrote f past))
moved_to e f past act q count far counted =
    counted ∙ ap (λ (k : ℕ). moved act k (length (pipe_of q).output)) far.mark ∙ ap (λ (u : List ℕ). moved act (taken e past) (length u)) far.output

-- the history of the end that made the step: its events, behind the call or poll that began it
abbrev pub grown_of : {p q p' q' : Peering Piped} (e f : End) (x : Event) (past : List Event) → Side e f p past → Turned p q (length past) x.step.at x.step.act p' q' x.entry → List Local
grown_of e f x past near t = t.stepped.events ++ begun x.step.at (length past) x.step.act ∷ near.h

pub near_ran : (e f : End) (x : Event) (past : List Event) (p q p' q' : Peering Piped) → (near : Side e f p past) → (t : Turned p q (length past) x.step.at x.step.act p' q' x.entry) → Has t.ran (grown_of e f x past near t)
near_ran e f x past p q p' q' near t = t.stepped.grows near.h (has_with_link p (fed (pipe_of p) (pipe_of q) t.count) near.h near.has)

pub near_rests : (e f : End) (x : Event) (past : List Event) (p q p' q' : Peering Piped) → Side e f p past → (t : Turned p q (length past) x.step.at x.step.act p' q' x.entry) → IsExchanged t.ran.held → ⊥
near_rests e f x past p q p' q' near t = t.stepped.begun (exchanged_with_link p (fed (pipe_of p) (pipe_of q) t.count) near.begun)

-- what it read by now, and what its link still holds, are the first bytes of the other's output
pub near_read : (e f : End) (x : Event) (past : List Event) (p q p' q' : Peering Piped) → other e ≡ f → (near : Side e f p past) → Side f e q past → (t : Turned p q (length past) x.step.at x.step.act p' q' x.entry)
    → read_in (grown_of e f x past near t) ++ (pipe_of p').input ≡ take ((pipe_of q).mark + t.count) (pipe_of q).output
near_read e f x past p q p' q' o near far t =
    let name : ℕ = length past in
    let es : List Local = t.stepped.events in
    let k : Piped = pipe_of q in
    let same : pipe_of p' ≡ pipe_of t.ran = turned_link p q p' q' name x.step.at x.step.act x.entry t in
    let before : read_in near.h ++ (pipe_of p).input ≡ take k.mark k.output =
    near.got ∙ ap (λ (y : End). take (taken e past) (wrote y past)) o ∙ ap (λ (i : ℕ). take i (wrote f past)) (sym far.mark) ∙ ap (λ (u : List ℕ). take k.mark u) (sym far.output) in
    let came : (pipe_of p).input ++ take t.count (drop k.mark k.output) ≡ read_in es ++ (pipe_of t.ran).input = stepped_input p k t.count (begun x.step.at name x.step.act) t.ran t.stepped in
    ap (λ (u : List ℕ). u ++ (pipe_of p').input) (read_grown es near.h x.step.at name x.step.act) ∙ ap (λ (z : Piped). (read_in near.h ++ read_in es) ++ z.input) same
    ∙ append_assoc (read_in near.h) (read_in es) (pipe_of t.ran).input ∙ ap (λ (u : List ℕ). read_in near.h ++ u) (sym came) ∙ sym (append_assoc (read_in near.h) (pipe_of p).input _)
    ∙ ap (λ (u : List ℕ). u ++ take t.count (drop k.mark k.output)) before ∙ sym (take-add k.mark t.count k.output)

pub near_made : (e f : End) (x : Event) (past : List Event) (p q p' q' : Peering Piped) → is_same e x.step.end ≡ true → (near : Side e f p past) → (t : Turned p q (length past) x.step.at x.step.act p' q' x.entry) → made_in (grown_of e f x past near t) ≡ calls e (x ∷ past)
near_made e f x past p q p' q' n near t =
    made_grown t.stepped.events near.h x.step.at (length past) x.step.act t.stepped.inside ∙ ap (λ (cs : List (ℕ × peer_call.Call)). called x.step.act (length past) cs) near.made ∙ sym (calls_near e x past n)

pub near_calm : (e f : End) (x : Event) (past : List Event) (p q p' q' : Peering Piped) → (near : Side e f p past) → (t : Turned p q (length past) x.step.at x.step.act p' q' x.entry) → IsCalm (link_in (grown_of e f x past near t))
near_calm e f x past p q p' q' near t =
    subst (λ (u : List LinkEvent). IsCalm u) (sym (link_grown t.stepped.events near.h x.step.at (length past) x.step.act))
    (calm_more (link_in t.stepped.events) (link_in near.h) (stepped_calm p (pipe_of q) t.count (begun x.step.at (length past) x.step.act) t.ran t.stepped) near.calm)

pub near_meets : (e f : End) (x : Event) (past : List Event) (p q p' q' : Peering Piped) → other e ≡ f → (near : Side e f p past) → (far : Side f e q past) → (t : Turned p q (length past) x.step.at x.step.act p' q' x.entry) → Meets (grown_of e f x past near t) far.h
near_meets e f x past p q p' q' o near far t =
    let h' = grown_of e f x past near t in
    let ran = near_ran e f x past p q p' q' near t in
    meeting h' far.h (pipe_of p').input (pipe_of q).output ((pipe_of q).mark + t.count) (near_calm e f x past p q p' q' near t) (tied_law t.ran h' ran) (tied_law q far.h far.has) (said_law q far.h far.has)
    (near_read e f x past p q p' q' o near far t) (far.output ∙ sym far.sent)

-- ---- its negotiation

-- what the other end read by now was written before the step
far_read : (e f : End) (past : List Event) (p q : Peering Piped) → other f ≡ e → (near : Side e f p past) → (far : Side f e q past) → (left : List ℕ) × (read_in far.h ++ left ≡ wrote_in near.h)
far_read e f past p q o near far = (
  (pipe_of q).input ++ drop (taken f past) (wrote e past),
  sym (append_assoc (read_in far.h) (pipe_of q).input (drop (taken f past) (wrote e past)))
      ∙ ap (λ (u : List ℕ). u ++ drop (taken f past) (wrote e past)) (far.got ∙ ap (λ (y : End). take (taken f past) (wrote y past)) o)
      ∙ take-append-drop (taken f past) (wrote e past) ∙ sym near.sent,
)

wrote_begun : (at name : ℕ) (act : Act) (h : List Local) → wrote_in (begun at name act ∷ h) ≡ wrote_in h
wrote_begun at name act h = wrote_grown [] h at name act ∙ append-nil (wrote_in h)

-- an end that made a step faces the other
near_faces : (e f : End) (x : Event) (past : List Event) (p q p' q' : Peering Piped) → other e ≡ f → other f ≡ e → (near : Side e f p past) → (far : Side f e q past) → (t : Turned p q (length past) x.step.at x.step.act p' q' x.entry)
    → AreOpposite (made_in (grown_of e f x past near t)) (made_in far.h) → Faces (grown_of e f x past near t) far.h
near_faces e f x past p q p' q' o o' near far t k =
    let m = near_meets e f x past p q p' q' o near far t in
    let r = far_read e f past p q o' near far in
    record {
      opposite = k;
      left = m.left;
      reads = m.reads;
      far_left = r.0 ++ wrote_in t.stepped.events;
      far_reads = sym (append_assoc (read_in far.h) r.0 (wrote_in t.stepped.events)) ∙ ap (λ (u : List ℕ). u ++ wrote_in t.stepped.events) r.1 ∙ sym (wrote_grown t.stepped.events near.h x.step.at (length past) x.step.act);
      far_tied = m.far_tied;
      far_layer = layer_law q far.h far.has;
    }

-- one end is a client and the other a listener, also behind a step
opposite_near : (e f : End) (x : Event) (past : List Event) (p q p' q' : Peering Piped) → is_same e x.step.end ≡ true → AreOpposite (calls e (x ∷ past)) (calls f past) → (near : Side e f p past) → (far : Side f e q past)
    → (t : Turned p q (length past) x.step.at x.step.act p' q' x.entry) → AreOpposite (made_in (grown_of e f x past near t)) (made_in far.h)
opposite_near e f x past p q p' q' n k near far t =
    subst (λ (cs : List (ℕ × peer_call.Call)). AreOpposite cs (made_in far.h)) (sym (near_made e f x past p q p' q' n near t)) (subst (λ (cs : List (ℕ × peer_call.Call)). AreOpposite (calls e (x ∷ past)) cs) (sym far.made) k)

-- the replies of a step that tell of a negotiation
pub fair_turn : (e f : End) (x : Event) (past : List Event) (p q p' q' : Peering Piped) → is_same e x.step.end ≡ true → is_same f x.step.end ≡ false → other e ≡ f → other f ≡ e → AreOpposite (calls e (x ∷ past)) (calls f past)
    → (near : Side e f p past) → (far : Side f e q past) → (t : Turned p q (length past) x.step.at x.step.act p' q' x.entry) → AllFair (layer_in (calls e (x ∷ past))) (layer_in (calls f (x ∷ past))) x.entry.replies
fair_turn e f x past p q p' q' n m o o' k near far t =
    let name = length past in
    let h' = grown_of e f x past near t in
    let first : made_in (begun x.step.at name x.step.act ∷ near.h) ≡ calls e (x ∷ past) = made_grown [] near.h x.step.at name x.step.act tt ∙ ap (λ (cs : List (ℕ × peer_call.Call)). called x.step.act name cs) near.made ∙ sym (calls_near e x past n) in
    let both : AreOpposite (made_in h') (made_in far.h) = opposite_near e f x past p q p' q' n k near far t in
    let r = far_read e f past p q o' near far in
    let fair : AllFair (layer_in (made_in (begun x.step.at name x.step.act ∷ near.h))) (layer_in (made_in far.h)) (replied_in t.stepped.events) =
    replies_fair t.stepped.events (begun x.step.at name x.step.act ∷ near.h) far.h t.stepped.inside (near_calm e f x past p q p' q' near t) (near_faces e f x past p q p' q' o o' near far t both)
    r.0 (r.1 ∙ sym (wrote_begun x.step.at name x.step.act near.h)) (causes_law t.ran h' (near_ran e f x past p q p' q' near t)) in
    subst (λ (rs : List NamedReply). AllFair (layer_in (calls e (x ∷ past))) (layer_in (calls f (x ∷ past))) rs) (turned_replied p q p' q' name x.step.at x.step.act x.entry t near.empty)
    (subst (λ (cs : List (ℕ × peer_call.Call)). AllFair (layer_in (calls e (x ∷ past))) (layer_in cs) (replied_in t.stepped.events)) (far.made ∙ sym (calls_far f x past m))
    (subst (λ (cs : List (ℕ × peer_call.Call)). AllFair (layer_in cs) (layer_in (made_in far.h)) (replied_in t.stepped.events)) first fair))

-- ---- that each faced the other when it told of a negotiation

-- an end that was not called wrote nothing
called_or_silent : (cs : List (ℕ × peer_call.Call)) (wrote read : List ℕ) → IsGated cs wrote read → (1 ≤ length cs) ⊎ (wrote ≡ [])
called_or_silent [] wrote read g = inr g
called_or_silent (c ∷ cs) wrote read g = inl (omega arith)

faced_begun : (at name : ℕ) (act : Act) (h far : List Local) → FacedWhenTold h far → FacedWhenTold (begun at name act ∷ h) far
faced_begun at name (Take n) h far k = faced_polled at h far k
faced_begun at name TakeAll h far k = faced_polled at h far k
faced_begun at name (Call call) h far k = faced_called at name call h far k

-- the end that made the step
pub faced_near : (e f : End) (x : Event) (past : List Event) (p q p' q' : Peering Piped) → is_same e x.step.end ≡ true → other e ≡ f → other f ≡ e → AreOpposite (calls e (x ∷ past)) (calls f past) → (near : Side e f p past) → (far : Side f e q past)
    → (t : Turned p q (length past) x.step.at x.step.act p' q' x.entry) → FacedWhenTold near.h far.h → FacedWhenTold (grown_of e f x past near t) far.h
faced_near e f x past p q p' q' n o o' k near far t faced =
    let name = length past in
    let r = far_read e f past p q o' near far in
    faced_inside t.stepped.events (begun x.step.at name x.step.act ∷ near.h) far.h t.stepped.inside
    (near_faces e f x past p q p' q' o o' near far t (opposite_near e f x past p q p' q' n k near far t))
    r.0 (r.1 ∙ sym (wrote_begun x.step.at name x.step.act near.h)) (called_or_silent (made_in far.h) (wrote_in far.h) (read_in far.h) (gated_law q far.h far.has))
    (faced_begun x.step.at name x.step.act near.h far.h faced)

-- the other end
pub faced_far : (e f : End) (x : Event) (past : List Event) (p q p' q' : Peering Piped) → (near : Side e f p past) → (far : Side f e q past) → (t : Turned p q (length past) x.step.at x.step.act p' q' x.entry)
    → FacedWhenTold far.h near.h → FacedWhenTold far.h (grown_of e f x past near t)
faced_far e f x past p q p' q' near far t faced =
    let first = begun x.step.at (length past) x.step.act in
    subst (FacedWhenTold far.h) (append_assoc t.stepped.events (first ∷ []) near.h) (faced_other far.h (t.stepped.events ++ first ∷ []) near.h faced)
