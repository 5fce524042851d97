-- A call that accepts a delivery has a Disposition go out, where the delivery is unsettled and the link takes disposals.
use Rattle.std.specs.Prelude.{◌≡◌, ◌⊎◌, ℕ, nat_eq, Bool, true, false, cond, map, List, [], ◌∷◌, ◌++◌, Option, Some, None, refl}
use Rattle.std.specs.Map.{lookup, set_value}
use Rattle.std.proofs.Common.{sym, ◌∙◌, ap, subst, inl, inr, append_assoc, eq-eqb}
use Rattle.std.proofs.lemmas.List.{map-append}
use Rattle.amqp_composites.specs.declared.modes.Role.{Role}
use Rattle.amqp_composites.specs.declared.modes.Role.TheVariants as role
use Rattle.amqp_frames.specs.declared.body.FrameBody.{FrameBody}
use Rattle.amqp_parts.specs.declared.part.Part.{Part}
use Rattle.amqp_delivery.specs.Book.{found_in}
use Rattle.amqp_delivery.specs.States.{accepted}
use Rattle.amqp_delivery.specs.declared.info.DeliveryInfo.{DeliveryInfo}
use Rattle.amqp_link_calls.specs.Called.{Called, with_side}
use Rattle.amqp_link_calls.specs.Calling.{disposes}
use Rattle.amqp_link_calls.specs.Disposers.{settles}
use Rattle.amqp_link_calls.specs.Side.{Side, Receiver}
use Rattle.amqp_link_words.specs.declared.link_call.Disposal.TheVariants.{Accepted}
use Rattle.amqp_link_words.specs.declared.link_reply.LinkReply.{LinkReply}
use Rattle.amqp_links.specs.declared.links.GivenDelivery.{GivenDelivery}
use Rattle.amqp_links.specs.Calling.{disposing_at}
use Rattle.amqp_links.specs.Disposers.{info_at, infos_of}
use Rattle.amqp_links.specs.Numbering.{is_done, disposed_at, all_left, disposed_left}
use Rattle.amqp_links.specs.Parts.{Told, Frame, output_of}
use Rattle.amqp_links.specs.Settling.{forgetting}
use Rattle.amqp_links.specs.State.{State as Links, place_of, link_of, with_link, stepped, at_place, answering}
use Rattle.amqp_links.specs.Taking.{written_at, written, told, attach_told, freed, reattached, taken_up}
use Rattle.amqp_receiver.specs.Receiver.{State}
use Rattle.amqp_receiver.specs.Disposing.{disposed}
use Rattle.amqp_session_links.specs.Numbers.{forgotten}
use Rattle.amqp_session_links.specs.State.{State as Place}
use Rattle.link_lives.specs.Logs.{Goes}
use Rattle.link_lives.specs.Logs as logs
use Rattle.link_lives.proofs.Going.{nothing, goes_then}
use Rattle.link_lives.proofs.Taking.{told_goes, attach_told_goes, freed_goes, reattached_goes}
use Rattle.link_lives.proofs.Tables.{set_at}
use Rattle.served_connection.specs.ListenLaws.Disposed.{disposition_of, is_settled, IsRefused, IsTold, IsDisposed, IsWritten, IsAccepted, TellsWhatIsAccepted}
use Rattle.served_connection.proofs.ListenLaws.Disposes.{tells_what_is_disposed}

-- the links and what is to be done on the sessions are the same
record Alike (s t : Links) : Type 0 where
  endpoints : t.endpoints ≡ s.endpoints
  output : t.output ≡ s.output

alike : (s : Links) → Alike s s
alike s = record { endpoints = refl; output = refl }

alike_then : (s t u : Links) → Alike s t → Alike t u → Alike s u
alike_then s t u a c = record { endpoints = c.endpoints ∙ a.endpoints; output = c.output ∙ a.output }

stepped_alike : (o : Option Place) (session : ℕ) (f : Place → Place) (s : Links) → Alike s (stepped o session f s)
stepped_alike None session f s = alike s
stepped_alike (Some p) session f s = record { endpoints = refl; output = refl }

forgetting_alike : (c : Bool) (teller : Role) (session number : ℕ) (s : Links) → Alike s (forgetting c teller session number s)
forgetting_alike true teller session number s = stepped_alike (place_of session s) session (forgotten teller number) s
forgetting_alike false teller session number s = alike s

disposed_alike : (o : Option Called) (info : DeliveryInfo) (s : Links) → Alike s (disposed_at o info s)
disposed_alike None info s = alike s
disposed_alike (Some l) info s = forgetting_alike (settles info l.side) role.Sender l.session info.delivery_id s

all_left_alike : (link : ℕ) (xs : List DeliveryInfo) (s : Links) → Alike s (all_left link xs s)
all_left_alike link [] s = alike s
all_left_alike link (x ∷ xs) s =
    let t = disposed_at (link_of link s) x s in alike_then s t (all_left link xs t) (disposed_alike (link_of link s) x s) (all_left_alike link xs t)

left_alike : (c : Bool) (link : ℕ) (xs : List DeliveryInfo) (s : Links) → Alike s (disposed_left c link xs s)
left_alike true link xs s = all_left_alike link xs s
left_alike false link xs s = alike s

-- ---- what a link has to write goes to its session

-- all links
abbrev All : ℕ → Type 0
All n = Unit {0}

record Adds (old : List Told) (new : List Told) : Type 0 where
  more : List Told
  all : new ≡ old ++ more

taken_adds : (link : ℕ) (s : Links) → Adds (written link s).output (taken_up link s).output
taken_adds link s =
    let a = written link s in
    let b = told link a in
    let c = attach_told link b in
    let d = freed link c in
    let e = reattached link d in
    let p = goes_then All nothing nothing a b e (told_goes All link a) (goes_then All nothing nothing b c e (attach_told_goes All link b) (goes_then All nothing nothing c d e (freed_goes All link c) (reattached_goes All link d))) in
    record { more = logs.told p.log; all = p.output }

written_is : (link : ℕ) (l : Called) (s : Links) → link_of link s ≡ Some l → (written link s).output ≡ s.output ++ map (Frame l.session) (output_of l)
written_is link l s at = ap (λ (o : Option Called). (written_at o link s).output) at

-- the link stands as it was set
set_here : (link : ℕ) (l m : Called) (s : Links) → link_of link s ≡ Some l → lookup (nat_eq link) (set_value (nat_eq link) s.endpoints m) ≡ Some m
set_here link l m s at = set_at link link s.endpoints l m at ∙ ap (λ (c : Bool). cond c (Some m) (link_of link s)) (eq-eqb link link refl)

-- ---- the call

-- what the link has to write behind a disposal
disposes_output : (name link : ℕ) (infos : List DeliveryInfo) (l : Called) (t : Side) (x : LinkReply) (s : Links) → link_of link s ≡ Some l
    → Adds (s.output ++ map (Frame l.session) (output_of (with_side t l))) (taken_up link (answering name x (disposed_left (is_done x) link infos (with_link link (with_side t l) s)))).output
disposes_output name link infos l t x s at =
    let m = with_side t l in
    let a = with_link link m s in
    let b = disposed_left (is_done x) link infos a in
    let c = answering name x b in
    let k : Alike a b = left_alike (is_done x) link infos a in
    let there : link_of link c ≡ Some m = ap (λ es. lookup (nat_eq link) es) k.endpoints ∙ set_here link l m s at in
    let first : (written link c).output ≡ s.output ++ map (Frame l.session) (output_of m) = written_is link m c there ∙ ap (λ xs. xs ++ map (Frame l.session) (output_of m)) k.output in
    let rest = taken_adds link c in
    record { more = rest.more; all = rest.all ∙ ap (λ xs. xs ++ rest.more) first }

-- a frame among those that a link has to write
among : (session : ℕ) (old own before more : List FrameBody) (x : FrameBody) (start later new : List Told) → own ≡ old ++ (before ++ x ∷ more) → new ≡ (start ++ map (Frame session) own) ++ later
    → new ≡ start ++ ((map (Frame session) old ++ map (Frame session) before) ++ Frame session x ∷ (map (Frame session) more ++ later))
among session old own before more x start later new e f =
    let F = Frame session in
    let spread : map F own ≡ map F old ++ (map F before ++ F x ∷ map F more) =
    ap (map F) e ∙ (map-append F old (before ++ x ∷ more) ∙ ap (λ xs. map F old ++ xs) (map-append F before (x ∷ more))) in
    f ∙ (append_assoc start (map F own) later
    ∙ ap (λ xs. start ++ xs)
    (ap (λ xs. xs ++ later) (spread ∙ sym (append_assoc (map F old) (map F before) (F x ∷ map F more)))
    ∙ append_assoc (map F old ++ map F before) (F x ∷ map F more) later))

accepted_at : (name link : ℕ) (info : DeliveryInfo) (l : Called) (s : State) (old new : Links) → link_of link old ≡ Some l → l.side ≡ Receiver s → new ≡ disposing_at (Some l) name link Accepted (info ∷ []) old
    → IsDisposed info accepted s (disposed (info ∷ []) accepted s) → IsAccepted l.session info s old new
accepted_at name link info l s old new at side is (inl r) = inl (r.error, r.why)
accepted_at name link info l s old new at side is (inr (inl n)) = inr (inl n)
accepted_at name link info l s old new at side is (inr (inr w)) =
    let m = disposes Accepted (info ∷ []) l.side in
    let k = disposes_output name link (info ∷ []) l m.side m.reply old at in
    let own : output_of (with_side m.side l) ≡ s.link.output ++ (w.before ++ disposition_of (is_settled info s) info accepted ∷ w.more) =
    ap (λ (a : Side). output_of (with_side (disposes Accepted (info ∷ []) a).side l)) side ∙ w.wrote in
    inr (inr (record {
      before = map (Frame l.session) s.link.output ++ map (Frame l.session) w.before;
      more = map (Frame l.session) w.more ++ k.more;
      output =
          among l.session s.link.output (output_of (with_side m.side l)) w.before w.more (disposition_of (is_settled info s) info accepted) old.output k.more new.output own
          (ap (λ (x : Links). x.output) is ∙ k.all);
    }))

pub tells_what_is_accepted : TellsWhatIsAccepted
tells_what_is_accepted name receiver delivery max old new l s g h at side given =
    let infos : infos_of (delivery ∷ []) old.deliveries ≡ g.info ∷ [] = ap (λ (o : Option GivenDelivery). info_at o ++ []) given in
    let is : new ≡ disposing_at (Some l) name receiver Accepted (g.info ∷ []) old =
    h ∙ (ap (λ (o : Option Called). disposing_at o name receiver Accepted (infos_of (delivery ∷ []) old.deliveries) old) at
    ∙ ap (λ (xs : List DeliveryInfo). disposing_at (Some l) name receiver Accepted xs old) infos) in
    accepted_at name receiver g.info l s old new at side is (tells_what_is_disposed g.info accepted s)
