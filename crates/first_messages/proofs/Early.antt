-- Frames that came before their session was accepted: none of those on a channel is a Transfer on a handle, where none was read there.
use Rattle.std.specs.Prelude.{◌≡◌, ℕ, nat_eq, Bool, true, false, cond, List, [], ◌∷◌, ◌++◌, Option, Some, None, refl}
use Rattle.std.proofs.Common.{sym, ◌∙◌, ap, subst}
use Rattle.std.proofs.lemmas.Bool.{eqb-true}
use Rattle.std.proofs.lemmas.Grind.{flat_map-append}
use Rattle.std.specs.Map.{lookup}
use Rattle.indexmap.specs.IndexMap.{insert_entry, swap_remove_entry}
use Rattle.amqp_frames.specs.declared.shared.ConnectionStopReason.{ConnectionStopReason}
use Rattle.amqp_frames.specs.declared.shared.LinkFrame.{LinkFrame}
use Rattle.amqp_session.specs.declared.error.Error.{Error}
use Rattle.amqp_session.specs.declared.session.SessionState.{SessionState}
use Rattle.amqp_session.specs.declared.session.SessionState.TheVariants as state
use Rattle.amqp_session.specs.State.{Framed}
use Rattle.amqp_sessions.specs.declared.endpoint.Change.{Change}
use Rattle.amqp_sessions.specs.declared.endpoint.Change.TheVariants.{Same, Begun, Refused, Gone, Answered}
use Rattle.amqp_sessions.specs.declared.sessions.Waiting.{Waiting}
use Rattle.amqp_sessions.specs.declared.sessions.Waiting.TheVariants.{Begin, Accept}
use Rattle.amqp_sessions.specs.Parts.{EndpointState}
use Rattle.amqp_sessions.specs.Endpoint.{hearing, change_of, having_heard, having_written, having_refused, asking_end, having_asked}
use Rattle.amqp_sessions.specs.Calls.{left_in, left_at, end_told, end_at}
use Rattle.amqp_sessions.specs.Frames.{place_of, freed_at, freed, concluding_for, concluding, changed, hearing_at, kept_at, heard_by, heard, heard_all, written_at, refusing_at}
use Rattle.amqp_sessions.specs.State.{State, endpoint_of, with_endpoint, handing, handed_out}
use Rattle.amqp_sessions.specs.Stops.{halted, finished, end_answered, ends_answered, without_ends, begin_concluded, concluded}
use Rattle.session_laws.specs.Holding.{transfers}
use Rattle.session_laws.specs.Messages.{transfer_in, on as on_handle}
use Rattle.session_lives.specs.Deeds.{Deed, Begins, Awaits, Accepts, Refuses, Ends, HandsOut, Halts, Concludes, Hears, Writes, Frees, Gives, Takes, Lacks, Tells, IsDeed}
use Rattle.session_lives.proofs.Tables.{IsKeyed, insert_other, insert_here, gone, set_at}
use Rattle.session_lives.proofs.Sound.{IsPlain, without_early}
use Rattle.first_messages.proofs.Lists.{none_both}
use Rattle.first_messages.proofs.Each.{AllOf}
use Rattle.first_messages.proofs.None.{IsNone}

-- ---- what leaves them as they are

handing_early : (name : ℕ) (o : Option EndpointState) (s : State) → (handing name o s).early ≡ s.early
handing_early name None s = refl
handing_early name (Some e) s = refl

out_early : (name : ℕ) (f : EndpointState) (s : State) → (handed_out name (with_endpoint name f s)).early ≡ s.early
out_early name f s = let u = with_endpoint name f s in handing_early name (endpoint_of name u) u

freed_early : (o : Option EndpointState) (s : State) → (freed_at o s).early ≡ s.early
freed_early None s = refl
freed_early (Some e) s = refl

both_freed_early : (name remote : ℕ) (s : State) → (freed name remote s).early ≡ s.early
both_freed_early name remote s =
    let t : State = record s { remotes = swap_remove_entry (nat_eq remote) s.remotes } in
    freed_early (endpoint_of name t) t

concluding_for_early : (ending : Option ℕ) (is_left : Bool) (name : ℕ) (answer : Option Error) (s : State) → (concluding_for ending is_left name answer s).early ≡ s.early
concluding_for_early (Some end) is_left name answer s = refl
concluding_for_early None true name answer s = refl
concluding_for_early None false name answer s = refl

concluding_early : (o : Option EndpointState) (name : ℕ) (answer : Option Error) (s : State) → (concluding o name answer s).early ≡ s.early
concluding_early None name answer s = refl
concluding_early (Some e) name answer s = concluding_for_early e.ending e.is_left name answer s

changed_early : (c : Change) (name remote : ℕ) (answer : Option Error) (s : State) → (changed c name remote answer s).early ≡ s.early
changed_early Same name remote answer s = refl
changed_early Begun name remote answer s = refl
changed_early Refused name remote answer s = freed_early (endpoint_of name s) s
changed_early Gone name remote answer s = both_freed_early name remote s
changed_early Answered name remote answer s = let t = freed name remote s in concluding_early (endpoint_of name s) name answer t ∙ both_freed_early name remote s

hearing_early : (o : Option EndpointState) (name : ℕ) (x : Framed) (s : State) → (hearing_at o name x s).early ≡ s.early
hearing_early None name x s = refl
hearing_early (Some e) name x s =
    let t = handed_out name (with_endpoint name (having_heard x e) s) in
    changed_early (change_of x e) name x.channel (hearing x e).answer t ∙ out_early name (having_heard x e) s

left_early : (phase : SessionState) (name : ℕ) (s : State) → (left_in phase name s).early ≡ s.early
left_early state.EndSent name s = refl
left_early state.BeginSent name s = refl
left_early state.Mapped name s = refl
left_early state.Unmapped name s = refl

left_at_early : (o : Option EndpointState) (name : ℕ) (s : State) → (left_at o name s).early ≡ s.early
left_at_early None name s = refl
left_at_early (Some e) name s = left_early e.session.state name s

told_early : (o : Option Error) (name session : ℕ) (s : State) → (end_told o name session s).early ≡ s.early
told_early None name session s = refl
told_early (Some refusal) name session s = left_at_early (endpoint_of session s) session s

end_early : (o : Option EndpointState) (name session : ℕ) (condition : Option (List ℕ)) (s : State) → (end_at o name session condition s).early ≡ s.early
end_early None name session condition s = refl
end_early (Some e) name session condition s = told_early (asking_end condition e).answer name session (with_endpoint session (having_asked name condition e) s)

written_early : (o : Option EndpointState) (name : ℕ) (x : LinkFrame) (s : State) → (written_at o name x s).early ≡ s.early
written_early None name x s = refl
written_early (Some e) name x s = out_early name (having_written x e) s

refusing_early : (o : Option EndpointState) (name : ℕ) (s : State) → (refusing_at o name s).early ≡ s.early
refusing_early None name s = refl
refusing_early (Some e) name s = out_early name (having_refused e) s

answered_early : (o : Option ℕ) (s : State) → (end_answered o s).early ≡ s.early
answered_early None s = refl
answered_early (Some end) s = refl

ends_early : (es : List (ℕ × EndpointState)) (s : State) → (ends_answered es s).early ≡ s.early
ends_early [] s = refl
ends_early (e ∷ es) s = ends_early es (end_answered e.1.ending s) ∙ answered_early e.1.ending s

begin_early : (o : Option Waiting) (why : ConnectionStopReason) (s : State) → (begin_concluded o why s).early ≡ s.early
begin_early None why s = refl
begin_early (Some (Accept name numbers)) why s = refl
begin_early (Some (Begin name)) why s = refl

concluded_early : (why : ConnectionStopReason) (s : State) → (concluded why s).early ≡ s.early
concluded_early why s =
    let b = finished (halted why s) in
    let c = ends_answered b.endpoints b in
    let d = without_ends c in
    begin_early d.waiting why d ∙ ends_early b.endpoints b

pub plain_early : (d : Deed) (old new : State) → IsDeed old d new → IsPlain d → new.early ≡ old.early
plain_early (Begins name x channel limit) old new h plain = absurd plain
plain_early (Accepts name x channel limit incoming) old new h plain = absurd plain
plain_early (Hears x) old new h plain = absurd plain
plain_early (Awaits name x) old new h plain = ap (λ s. s.early) h
plain_early (Refuses name why) old new h plain = ap (λ s. s.early) h
plain_early (Ends name session condition) old new h plain = ap (λ s. s.early) h ∙ end_early (endpoint_of session old) name session condition old
plain_early (HandsOut name) old new h plain = ap (λ s. s.early) h ∙ handing_early name (endpoint_of name old) old
plain_early (Halts why) old new h plain = ap (λ s. s.early) h
plain_early (Concludes why) old new h plain = ap (λ s. s.early) h ∙ concluded_early why old
plain_early (Writes x) old new h plain = ap (λ s. s.early) h.1
plain_early (Frees channel) old new h plain = ap (λ s. s.early) h.1
plain_early (Gives session x) old new h plain = ap (λ s. s.early) h.1
plain_early (Takes session x) old new h plain = ap (λ s. s.early) h ∙ written_early (endpoint_of session old) session x old
plain_early (Lacks session) old new h plain = ap (λ s. s.early) h ∙ refusing_early (endpoint_of session old) session old
plain_early Tells old new h plain = ap (λ s. s.early) h

-- ---- what is kept

module _ (c handle : ℕ) where
  -- no Transfer on the handle is among what is kept on the channel
  abbrev pub IsBare : State → Type 0
  IsBare s = (xs : List Framed) → lookup (nat_eq c) s.early ≡ Some xs → on_handle handle (transfers xs) ≡ []

  pub bare_as : (s t : State) → t.early ≡ s.early → IsBare s → IsBare t
  bare_as s t e k xs at = k xs (sym (ap (lookup (nat_eq c)) e) ∙ at)

  alone_none : (x : Framed) → on_handle handle (transfer_in x.body) ≡ [] → on_handle handle (transfers (x ∷ [])) ≡ []
  alone_none x n = none_both handle (transfer_in x.body) [] n refl

  is_first : (x : Framed) (ys : List Framed) → on_handle handle (transfer_in x.body) ≡ [] → Some (x ∷ []) ≡ Some ys → on_handle handle (transfers ys) ≡ []
  is_first x ys n found = let same : x ∷ [] ≡ ys = cc in subst (λ (zs : List Framed). on_handle handle (transfers zs) ≡ []) same (alone_none x n)

  is_more : (xs ys : List Framed) (x : Framed) → on_handle handle (transfers xs) ≡ [] → on_handle handle (transfer_in x.body) ≡ [] → Some (xs ++ x ∷ []) ≡ Some ys → on_handle handle (transfers ys) ≡ []
  is_more xs ys x k n found =
      let same : xs ++ x ∷ [] ≡ ys = cc in
      subst (λ (zs : List Framed). on_handle handle (transfers zs) ≡ []) same
      (ap (on_handle handle) (flat_map-append (λ (y : Framed). transfer_in y.body) xs (x ∷ [])) ∙ none_both handle (transfers xs) (transfers (x ∷ [])) k (alone_none x n))

  kept_bare : (o : Option (List Framed)) (x : Framed) (s : State) → lookup (nat_eq x.channel) s.early ≡ o → IsNone handle c x → IsBare s → IsBare (kept_at o x s)
  kept_bare None x s at n k ys there = by (nat_eq c x.channel) refl there
    where
      by : (t : Bool) → nat_eq c x.channel ≡ t → lookup (nat_eq c) (insert_entry nat_eq s.early x.channel (x ∷ [])) ≡ Some ys → on_handle handle (transfers ys) ≡ []
      by true e there =
          let same = eqb-true c x.channel e in
          is_first x ys (n (sym same)) (sym (insert_here x.channel (x ∷ []) s.early) ∙ (sym (ap (λ j. lookup (nat_eq j) (insert_entry nat_eq s.early x.channel (x ∷ []))) same) ∙ there))
      by false e there = k ys (sym (insert_other x.channel c (x ∷ []) s.early e) ∙ there)
  kept_bare (Some xs) x s at n k ys there = by (nat_eq c x.channel) refl (sym (set_at x.channel c s.early xs (xs ++ x ∷ []) at) ∙ there)
    where
      by : (t : Bool) → nat_eq c x.channel ≡ t → cond (nat_eq c x.channel) (Some (xs ++ x ∷ [])) (lookup (nat_eq c) s.early) ≡ Some ys → on_handle handle (transfers ys) ≡ []
      by true e found =
          let same = eqb-true c x.channel e in
          is_more xs ys x (k xs (ap (λ j. lookup (nat_eq j) s.early) same ∙ at)) (n (sym same)) (sym (ap (λ t. cond t (Some (xs ++ x ∷ [])) (lookup (nat_eq c) s.early)) e) ∙ found)
      by false e found = k ys (sym (ap (λ t. cond t (Some (xs ++ x ∷ [])) (lookup (nat_eq c) s.early)) e) ∙ found)

  heard_by_bare : (o : Option ℕ) (x : Framed) (s : State) → IsNone handle c x → IsBare s → IsBare (heard_by o x s)
  heard_by_bare None x s n k = kept_bare (lookup (nat_eq x.channel) s.early) x s refl n k
  heard_by_bare (Some name) x s n k = bare_as s (hearing_at (endpoint_of name s) name x s) (hearing_early (endpoint_of name s) name x s) k

  pub heard_bare : (x : Framed) (s : State) → IsNone handle c x → IsBare s → IsBare (heard x s)
  heard_bare x s n k = heard_by_bare (place_of x s) x s n k

  pub heard_all_bare : (xs : List Framed) (s : State) → AllOf (IsNone handle c) xs → IsBare s → IsBare (heard_all xs s)
  heard_all_bare [] s n k = k
  heard_all_bare (x ∷ xs) s n k = heard_all_bare xs (heard x s) n.1 (heard_bare x s n.0 k)

  -- frames that are taken
  pub without_bare : (remote : ℕ) (s : State) → IsKeyed s.early → IsBare s → IsBare (without_early remote s)
  without_bare remote s keyed k xs at = let g = gone remote s.early keyed in k xs (by (nat_eq c remote) (lookup (nat_eq c) s.early) (sym (g.at c) ∙ at))
    where
      by : (t : Bool) (o : Option (List Framed)) → cond t None o ≡ Some xs → o ≡ Some xs
      by true o h = cc
      by false o h = h
