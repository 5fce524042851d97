-- How the ends stand after a step, and what their calls wait for.
use Rattle.std.proofs.Common.{◌≡◌, ◌⊎◌, ◌+◌, ◌≤◌, ◌^◌, inl, inr, List, ℕ, [], ◌∷◌, ◌++◌, Option, Some, None, length, refl, sym, ap, ◌∙◌, subst, arith, length-append}
use Rattle.amqp_wire.specs.Events.{reads_in}
use Rattle.amqp_wire.specs.Piped.{Piped}
use Rattle.amqp_wire.proofs.Events.{reads_in-append}
use Rattle.amqp_transport.specs.declared.frames.Frame.{Frame}
use Rattle.amqp_opening.specs.declared.authentication.SaslCall.{SaslCall}
use Rattle.amqp_words.specs.declared.call.Call as peer_call
use Rattle.amqp_words.specs.declared.call.Call.TheVariants as call_as
use Rattle.amqp_words.specs.declared.reply.NamedReply.{NamedReply}
use Rattle.amqp_words.specs.declared.step.Act.{Act}
use Rattle.amqp_words.specs.declared.step.Act.TheVariants.{Take, TakeAll, Call}
use Rattle.amqp_words.specs.declared.step.End.{End}
use Rattle.amqp_peer.specs.declared.peer.PeerKind.{PeerKind}
use Rattle.amqp_peer.specs.declared.peer.PeerKind.TheVariants as kind
use Rattle.amqp_peer.specs.Calls.{IsFirstCall, IsValidCall}
use Rattle.amqp_peer.specs.Held.{IsActive, IsExchanged, IsSorted}
use Rattle.amqp_peer.specs.History.{Local, made_in, link_in, given_in, sent_in, moment_in}
use Rattle.amqp_peer.specs.Layers.{layer_in, HasLayer}
use Rattle.amqp_peer.specs.Peering.{Peering, Has}
use Rattle.amqp_peer.specs.Runs.{Stepped}
use Rattle.amqp_peer.proofs.Broken.{broken_law}
use Rattle.amqp_peer.proofs.Histories.{given_in-append, sent_in-append, moment_in-inside}
use Rattle.amqp_peer.proofs.Layers.{exchange_law}
use Rattle.amqp_peer.proofs.Settled.{sorted_of, blocked_full}
use Rattle.amqp_peer.proofs.Laws.{replies_law, causes_law}
use Rattle.amqp_ends.specs.Quiet.{Begins, BeginsIn}
use Rattle.amqp_ends.specs.Standing.{IsVast, Stands}
use Rattle.amqp_ends.specs.Wants.{IsAnswered}
use Rattle.amqp_ends.proofs.Standing.{stands}
use Rattle.amqp_world.specs.History.{Event, calls, called, replied, begun}
use Rattle.amqp_world.specs.Valid.{IsValidAct, kind_of}
use Rattle.amqp_world.specs.Turn.{piping, pipe_of, empty_pipe}
use Rattle.amqp_world.proofs.Growth.{link_grown}
use Rattle.amqp_world.proofs.Pipes.{never_fills, pipe_emptied}

-- ---- a great many reads or frames of a step are so of the whole history

given_begun : (at name : ℕ) (act : Act) (h : List Local) → given_in (begun at name act ∷ h) ≡ given_in h
given_begun at name (Take n) h = refl
given_begun at name TakeAll h = refl
given_begun at name (Call call) h = refl

sent_begun : (at name : ℕ) (act : Act) (h : List Local) → sent_in (begun at name act ∷ h) ≡ sent_in h
sent_begun at name (Take n) h = refl
sent_begun at name TakeAll h = refl
sent_begun at name (Call call) h = refl

length_given : (es h : List Local) (at name : ℕ) (act : Act) → length (given_in (es ++ begun at name act ∷ h)) ≡ length (given_in h) + length (given_in es)
length_given es h at name act =
    ap length (given_in-append es (begun at name act ∷ h) ∙ ap (λ (u : List Frame). u ++ given_in es) (given_begun at name act h)) ∙ length-append (given_in h) (given_in es)

length_sent : (es h : List Local) (at name : ℕ) (act : Act) → length (sent_in (es ++ begun at name act ∷ h)) ≡ length (sent_in h) + length (sent_in es)
length_sent es h at name act =
    ap length (sent_in-append es (begun at name act ∷ h) ∙ ap (λ (u : List Frame). u ++ sent_in es) (sent_begun at name act h)) ∙ length-append (sent_in h) (sent_in es)

many_reads : (es h : List Local) (at name : ℕ) (act : Act) → 2 ^ 62 ≤ reads_in (link_in es) → IsVast (es ++ begun at name act ∷ h)
many_reads es h at name act m =
    let all : reads_in (link_in (es ++ begun at name act ∷ h)) ≡ reads_in (link_in h) + reads_in (link_in es) = ap reads_in (link_grown es h at name act) ∙ reads_in-append (link_in es) (link_in h) in
    inl (omega (arith, m, all))

many_frames : (es h : List Local) (at name : ℕ) (act : Act) → 2 ^ 62 ≤ 1 + (length (given_in es) + length (sent_in es)) → IsVast (es ++ begun at name act ∷ h)
many_frames es h at name act m = inr (omega (arith, m, length_given es h at name act, length_sent es h at name act))

-- ---- how an end stands that made a step

moment_begun : (at name : ℕ) (act : Act) (h : List Local) → moment_in (begun at name act ∷ h) ≡ moment_in (begun at name act ∷ [])
moment_begun at name (Take n) h = refl
moment_begun at name TakeAll h = refl
moment_begun at name (Call call) h = refl

sorted_by : (near : Peering Piped) (ran : Peering Piped) (at name : ℕ) (act : Act) (h : List Local) (s : Stepped piping near (begun at name act) ran) → IsActive ran.held
    → (((pipe_of ran).input ≡ []) × IsSorted (moment_in (s.events ++ begun at name act ∷ h)) ran.held) ⊎ IsVast (s.events ++ begun at name act ∷ h)
sorted_by near ran at name act h s a = elim (s.settled a) [
  | inl r ↦ inl (
    pipe_emptied (pipe_of near) (pipe_of ran) (link_in s.events) (s.went empty_pipe) r.0,
    subst (λ (n : ℕ). IsSorted n ran.held) (sym (moment_in-inside s.events (begun at name act ∷ h) s.inside ∙ moment_begun at name act h))
        (sorted_of (moment_in (begun at name act ∷ [])) ran.held s.events (never_fills (pipe_of near) (pipe_of ran) (link_in s.events) (s.went empty_pipe)) r.1),
  )
  | inr m ↦ elim m [
    | inl f ↦ absurd (never_fills (pipe_of near) (pipe_of ran) (link_in s.events) (s.went empty_pipe) (blocked_full ran.held s.events f))
    | inr v ↦ elim v [ inl n ↦ inr (many_reads s.events h at name act n) | inr n ↦ inr (many_frames s.events h at name act (omega (arith, n))) ]
  ]
]

pub stands_near : (near : Peering Piped) (ran : Peering Piped) (at name : ℕ) (act : Act) (h : List Local) (s : Stepped piping near (begun at name act) ran) → (IsExchanged ran.held → ⊥)
    → Has ran (s.events ++ begun at name act ∷ h) → Stands (s.events ++ begun at name act ∷ h) (pipe_of ran).input
stands_near near ran at name act h s b has =
    stands ran (s.events ++ begun at name act ∷ h) (pipe_of ran).input has (broken_law ran (s.events ++ begun at name act ∷ h) has) (record {
      begun = b;
      sorted = sorted_by near ran at name act h s;
      events = s.events;
      concluded = s.concluded;
      unfilled = never_fills (pipe_of near) (pipe_of ran) (link_in s.events) (s.went empty_pipe);
      few = many_frames s.events h at name act;
    })

-- ---- the calls of an end begin with that of its kind

first_begins : (k : PeerKind) (call : peer_call.Call) → IsFirstCall k call → Begins k call
first_begins kind.Client (call_as.Open settings host sasl) f = tt
first_begins kind.Client (call_as.Accept settings sasl) f = f
first_begins kind.Client (call_as.Close error) f = f
first_begins kind.Listener (call_as.Open settings host sasl) f = f
first_begins kind.Listener (call_as.Accept settings sasl) f = tt
first_begins kind.Listener (call_as.Close error) f = f

begins_call : (k : PeerKind) (cs : List (ℕ × peer_call.Call)) (rs : List NamedReply) (n name : ℕ) (call : peer_call.Call) → BeginsIn k cs → IsValidCall k cs rs n call → BeginsIn k ((name, call) ∷ cs)
begins_call k [] rs n name call b v = first_begins k call v
begins_call k (first ∷ []) rs n name call b v = b
begins_call k (close ∷ first ∷ cs) rs n name call b v = absurd v

begins_act : (e : End) (past : List Event) (act : Act) (name : ℕ) → BeginsIn (kind_of e) (calls e past) → IsValidAct e past act → BeginsIn (kind_of e) (called act name (calls e past))
begins_act e past (Take n) name b v = b
begins_act e past TakeAll name b v = b
begins_act e past (Call call) name b v = begins_call (kind_of e) (calls e past) (replied e past) (length past) name call b v

pub begins_near : (e : End) (x : Event) (past : List Event) → calls e (x ∷ past) ≡ called x.step.act (length past) (calls e past) → BeginsIn (kind_of e) (calls e past) → IsValidAct e past x.step.act → BeginsIn (kind_of e) (calls e (x ∷ past))
begins_near e x past near b v = subst (BeginsIn (kind_of e)) (sym near) (begins_act e past x.step.act (length past) b v)

-- ---- what an end has by its own laws

layer_of : (c : Option SaslCall) (p : Peering Piped) (h : List Local) → Has p h → layer_in (made_in h) ≡ c → HasLayer c h
layer_of None p h x e = tt
layer_of (Some c) p h x e = exchange_law p h x c e

pub layer_law : (p : Peering Piped) (h : List Local) → Has p h → HasLayer (layer_in (made_in h)) h
layer_law p h x = layer_of (layer_in (made_in h)) p h x refl

pub answered_law : (p : Peering Piped) (h : List Local) → Has p h → IsAnswered h
answered_law p h x = record { replies = replies_law p h x; caused = causes_law p h x }
