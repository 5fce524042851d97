-- Each reply of an end that tells of a negotiation tells of one that failed fairly.
use Rattle.std.proofs.Common.{◌≡◌, ℕ, List, [], ◌∷◌, ◌++◌, Option, refl, sym, ap, ◌∙◌, subst, append_assoc}
use Rattle.amqp_opening.specs.declared.authentication.SaslCall.{SaslCall}
use Rattle.amqp_wire.specs.Events.{wrote_of}
use Rattle.amqp_wire.proofs.Events.{wrote_of-append}
use Rattle.amqp_peer.specs.amqp_words.declared.call.Call.{Call}
use Rattle.amqp_peer.specs.amqp_words.declared.open_error.OpenError.TheVariants as failed
use Rattle.amqp_peer.specs.amqp_words.declared.reply.Reply.{Reply}
use Rattle.amqp_peer.specs.amqp_words.declared.reply.Reply.TheVariants as reply
use Rattle.amqp_peer.specs.amqp_words.declared.reply.NamedReply.{NamedReply}
use Rattle.amqp_peer.specs.Causes.{AllCaused, HasCause}
use Rattle.amqp_peer.specs.History.{Local, Made, Polled, AtLink, Exchanged, Got, Put, Replied, made_in, link_in, replied_in, read_in, wrote_in, IsInside}
use Rattle.amqp_peer.specs.Layers.{layer_in}
use Rattle.amqp_peer.proofs.Histories.{link_in-append}
use Rattle.amqp_ends.specs.Gates.{AllFair, Faces, IsFairReply}
use Rattle.amqp_ends.specs.Quiet.{AreOpposite}
use Rattle.amqp_ends.specs.Joined.{IsCalm}
use Rattle.amqp_ends.proofs.GateFair.{negotiation_fair}
use Rattle.amqp_ends.proofs.Hearing.{read_before}
use Rattle.amqp_ends.proofs.Honesty.{calm_before}

-- no call is made inside
pub made_before : (inside before : List Local) → IsInside inside → made_in (inside ++ before) ≡ made_in before
made_before [] before i = refl
made_before (Made at name call ∷ inside) before i = absurd i
made_before (Polled at ∷ inside) before i = absurd i
made_before (AtLink x ∷ inside) before i = made_before inside before i
made_before (Exchanged ∷ inside) before i = made_before inside before i
made_before (Got x ∷ inside) before i = made_before inside before i
made_before (Put x ∷ inside) before i = made_before inside before i
made_before (Replied r ∷ inside) before i = made_before inside before i

fair_join : (near there : Option SaslCall) (rs ss : List NamedReply) → AllFair near there rs → AllFair near there ss → AllFair near there (rs ++ ss)
fair_join near there [] ss a b = b
fair_join near there (r ∷ rs) ss a b = (a.0, fair_join near there rs ss a.1 b)

reply_fair : (g far : List Local) → IsCalm (link_in g) → Faces g far → (r : Reply) → HasCause g r → IsFairReply (layer_in (made_in g)) (layer_in (made_in far)) r
reply_fair g far calm f reply.Pending c = tt
reply_fair g far calm f reply.Connection c = tt
reply_fair g far calm f reply.Closed c = tt
reply_fair g far calm f (reply.OpenError (failed.Negotiation e)) c = negotiation_fair g far calm f e c
reply_fair g far calm f (reply.OpenError (failed.TransportError e)) c = tt
reply_fair g far calm f (reply.OpenError failed.RemoteClosed) c = tt
reply_fair g far calm f (reply.OpenError (failed.RemoteClosedWithError e)) c = tt
reply_fair g far calm f (reply.OpenError failed.IllegalState) c = tt
reply_fair g far calm f (reply.ConnectionError e) c = tt

module _ (before far : List Local) (left : List ℕ) (heard : read_in far ++ left ≡ wrote_in before) where
  abbrev near : Option SaslCall
  near = layer_in (made_in before)

  abbrev there : Option SaslCall
  there = layer_in (made_in far)

  -- at each moment inside, the other end has read nothing that was written later
  module _ (later inside : List Local) (i : IsInside inside) (f : Faces (later ++ (inside ++ before)) far) (opposite : AreOpposite (made_in before) (made_in far)) where
    pub faces_at : Faces (inside ++ before) far
    faces_at = record {
      opposite = subst (λ (calls : List (ℕ × Call)). AreOpposite calls (made_in far)) (sym (made_before inside before i)) opposite;
      left = read_in later ++ f.left;
      reads = read_before later (inside ++ before) f.left (wrote_in far) f.reads;
      far_left = left ++ wrote_in inside;
      far_reads = sym (append_assoc (read_in far) left (wrote_in inside)) ∙ ap (λ (u : List ℕ). u ++ wrote_in inside) heard
          ∙ sym (ap wrote_of (link_in-append inside before) ∙ wrote_of-append (link_in inside) (link_in before));
      far_tied = f.far_tied;
      far_layer = f.far_layer;
    }

    fair_at : IsCalm (link_in (later ++ (inside ++ before))) → (r : Reply) → HasCause (inside ++ before) r → IsFairReply near there r
    fair_at calm r c =
        subst (λ (calls : List (ℕ × Call)). IsFairReply (layer_in calls) there r) (made_before inside before i)
        (reply_fair (inside ++ before) far (calm_before later (inside ++ before) calm) faces_at r c)

  module _ (all : List Local) (calm : IsCalm (link_in all)) (f : Faces all far) (opposite : AreOpposite (made_in before) (made_in far)) where
    next : (later : List Local) (x : Local) (inside : List Local) → all ≡ later ++ (x ∷ (inside ++ before)) → all ≡ (later ++ x ∷ []) ++ (inside ++ before)
    next later x inside e = e ∙ sym (append_assoc later (x ∷ []) (inside ++ before))

    fair_from : (later inside : List Local) → all ≡ later ++ (inside ++ before) → IsInside inside → AllCaused (inside ++ before) → AllFair near there (replied_in inside)
    fair_from later [] e i c = tt
    fair_from later (Made at name call ∷ inside) e i c = absurd i
    fair_from later (Polled at ∷ inside) e i c = absurd i
    fair_from later (AtLink x ∷ inside) e i c = fair_from (later ++ AtLink x ∷ []) inside (next later (AtLink x) inside e) i c
    fair_from later (Exchanged ∷ inside) e i c = fair_from (later ++ Exchanged ∷ []) inside (next later Exchanged inside e) i c
    fair_from later (Got x ∷ inside) e i c = fair_from (later ++ Got x ∷ []) inside (next later (Got x) inside e) i c
    fair_from later (Put x ∷ inside) e i c = fair_from (later ++ Put x ∷ []) inside (next later (Put x) inside e) i c
    fair_from later (Replied r ∷ inside) e i c =
        let at = next later (Replied r) inside e in
        fair_join near there (replied_in inside) (r ∷ []) (fair_from (later ++ Replied r ∷ []) inside at i c.1)
        (fair_at (later ++ Replied r ∷ []) inside i (subst (λ (h : List Local). Faces h far) at f) opposite (subst (λ (h : List Local). IsCalm (link_in h)) at calm) r.reply c.0, tt)

-- each reply inside is fair
pub replies_fair : (inside before far : List Local) → IsInside inside → IsCalm (link_in (inside ++ before)) → Faces (inside ++ before) far
    → (left : List ℕ) → read_in far ++ left ≡ wrote_in before → AllCaused (inside ++ before) → AllFair (layer_in (made_in before)) (layer_in (made_in far)) (replied_in inside)
replies_fair inside before far i calm f left heard c =
    fair_from before far left heard (inside ++ before) calm f
    (subst (λ (calls : List (ℕ × Call)). AreOpposite calls (made_in far)) (made_before inside before i) f.opposite) [] inside refl i c
