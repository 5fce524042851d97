-- What an end says, from its Open on.
use Rattle.std.proofs.Common.{◌≡◌, ◌≤◌, ℕ, List, [], ◌++◌, Ok, None, refl, sym, ap, ◌∙◌, subst, append_assoc, arith}
use Rattle.std.proofs.lemmas.List.{append-nil}
use Rattle.std.proofs.lemmas.List.Elements.{All-nil, All-cons, All-append}
use Rattle.std.proofs.lemmas.Grind.{flat_map-append}
use Rattle.amqp_wire.specs.declared.link.Link.{Ghosts}
use Rattle.amqp_wire.specs.Events.{read_of, wrote_of}
use Rattle.amqp_wire.proofs.Events.{read_of-append, wrote_of-append}
use Rattle.amqp_transport.specs.Kinds.{amqp_spells}
use Rattle.amqp_transport.specs.Stream.{Joined}
use Rattle.amqp_transport.specs.Wire.{Wire}
use Rattle.amqp_engine.specs.declared.connection.EndKind.{EndKind}
use Rattle.amqp_engine.specs.Calls.{OpensTo}
use Rattle.amqp_engine.specs.State.{State, opened, open_frame, bytes_of, IsFramed}
use Rattle.amqp_engine.specs.Settings.{open_of}
use Rattle.amqp_engine.specs.Sentence.{Ran, Has, IsCalm, History, grown, begun, IsSentence, AllWithin, size_of_frame, bytes_of_all}
use Rattle.amqp_engine.proofs.Said.{said_form}
use Rattle.amqp_engine.proofs.Runs.{within, within_more, within_append}

starts_opened : {L : Type 0} (before arrived : List ℕ) (w : Wire L) (end : EndKind) → size_of_frame (open_frame end) ≤ 512 → IsFramed (open_frame end) → w.codec.output ≡ before → w.codec.input ≡ arrived → Has before arrived (opened w end) (begun end)
starts_opened before arrived w end n spells e i =
    record {
      out = ap (λ (u : List ℕ). u ++ bytes_of (open_frame end)) e ∙ ap (λ (u : List ℕ). before ++ u) (sym (append-nil (bytes_of (open_frame end))));
      joined = append-nil arrived ∙ sym i;
      said = record { first = open_of end; inner = []; each = tt; is = refl };
      heard = (refl, refl);
      limited = record { told = refl; least = omega arith; reads = omega arith; first = λ f. refl };
      sized = (n, tt);
      framed = All-cons IsFramed (open_frame end) [] spells (All-nil IsFramed);
      bounded = record { reads = refl; writes = refl };
    }

pub starts : {L : Type 0} (before arrived : List ℕ) (w : Wire L) (end : EndKind) (s : State L) → OpensTo w end (Ok s) → w.codec.output ≡ before → w.codec.input ≡ arrived → Has before arrived s (begun end)
starts {L} before arrived w end s o e i = subst (λ (t : State L). Has before arrived t (begun end)) (sym o.1) (starts_opened before arrived w end (within 512 (open_frame end) o.0) o.2 e i)

pub goes_on : {L : Type 0} (link : Ghosts L) (before arrived : List ℕ) (old new : State L) (h : History) (ran : Ran link old new) → Has before arrived old h → Has before arrived new (grown h ran)
goes_on {L} link before arrived old new h ran s =
    let l = ran.limits s.limited in
    let more : old.settings.largest_written ≤ new.settings.largest_written = omega (arith, s.limited.told, l.0.told, l.1) in
    record {
      out = ap (λ (u : List ℕ). u ++ new.wire.codec.output) (wrote_of-append ran.events h.events)
          ∙ append_assoc (wrote_of h.events) (wrote_of ran.events) new.wire.codec.output
          ∙ ap (λ (u : List ℕ). wrote_of h.events ++ u) (sym ran.goes_out)
          ∙ sym (append_assoc (wrote_of h.events) old.wire.codec.output (bytes_of_all ran.queued))
          ∙ ap (λ (u : List ℕ). u ++ bytes_of_all ran.queued) s.out
          ∙ append_assoc before (bytes_of_all h.sent) (bytes_of_all ran.queued)
          ∙ ap (λ (u : List ℕ). before ++ u) (sym (flat_map-append bytes_of h.sent ran.queued));
      joined = subst (λ (u : List ℕ). Joined 0 amqp_spells u (h.given ++ ran.given) new.wire.codec.input) (append_assoc arrived (read_of h.events) (read_of ran.events) ∙ ap (λ (u : List ℕ). arrived ++ u) (sym (read_of-append ran.events h.events))) (ran.joined (arrived ++ read_of h.events) h.given s.joined);
      said = ran.said h.sent s.said;
      heard = ran.heard h.given s.heard;
      limited = l.0;
      sized = within_append new.settings.largest_written h.sent ran.queued (within_more old.settings.largest_written new.settings.largest_written h.sent more s.sized)
          (subst (λ (n : ℕ). AllWithin n ran.queued) (sym l.0.told) l.2);
      framed = All-append IsFramed h.sent ran.queued s.framed ran.framed;
      bounded = ran.bounds h.given s.heard s.bounded;
    }

pub written : {L : Type 0} (before arrived : List ℕ) (s : State L) (h : History) → Has before arrived s h → IsSentence s.settings.largest_written before (wrote_of h.events)
written before arrived s h p = record { frames = h.sent; rest = s.wire.codec.output; is = p.out; form = said_form s.phase h.sent p.said; sized = p.sized }

-- an engine begins with no error kept where its transport has none
pub starts_calm : {L : Type 0} (w : Wire L) (end : EndKind) (s : State L) → OpensTo w end (Ok s) → w.kept ≡ None → IsCalm s
starts_calm {L} w end s o k = subst (λ (t : State L). IsCalm t) (sym o.1) (λ f. k)
