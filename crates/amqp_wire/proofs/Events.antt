-- Laws of what passes at a link.
use Rattle.std.proofs.Common.{◌≡◌, ◌≤◌, ◌+◌, ◌⊎◌, inl, inr, ℕ, List, [], ◌∷◌, ◌++◌, refl, sym, ap, ◌∙◌, subst, append_assoc, arith}
use Rattle.std.proofs.lemmas.List.{append-nil}
use Rattle.std.proofs.lemmas.Bool.{cases_lt}
use Rattle.list_laws.specs.Told.{Loses, Gains}
use Rattle.list_laws.proofs.Told.{loses_none, gains_none, loses_then, gains_then}
use Rattle.amqp_wire.specs.declared.link.Link.{Ghosts}
use Rattle.amqp_wire.specs.declared.link.Stop.TheVariants.{Failed}
use Rattle.amqp_wire.specs.declared.link.Held.TheVariants.{Failed as FailedWrite}
use Rattle.amqp_wire.specs.Link.{Rose}
use Rattle.amqp_wire.specs.Events.{LinkEvent, Read, Wrote, NotRead, NotWritten, IsEvent, Went, read_of, wrote_of, reads_in, Includes, HasFailed}

-- events after events
pub went_then : {L : Type 0} (link : Ghosts L) (a b c : L) (es fs : List LinkEvent) → Went link a es b → Went link b fs c → Went link a (fs ++ es) c
went_then {L} link a b c es [] p q = subst (λ (x : L). Went link a es x) (sym q) p
went_then link a b c es (f ∷ fs) p q = (q.0, went_then link a b q.0 es fs p q.1, q.2)

-- one event
pub went_one : {L : Type 0} (link : Ghosts L) (a b : L) (x : LinkEvent) → IsEvent link a x b → Went link a (x ∷ []) b
went_one link a b x p = (a, refl, p)

pub read_of-append : (fs es : List LinkEvent) → read_of (fs ++ es) ≡ read_of es ++ read_of fs
read_of-append [] es = sym (append-nil (read_of es))
read_of-append (Read bytes ∷ fs) es = ap (λ (u : List ℕ). u ++ bytes) (read_of-append fs es) ∙ append_assoc (read_of es) (read_of fs) bytes
read_of-append (Wrote bytes ∷ fs) es = read_of-append fs es
read_of-append (NotRead stop ∷ fs) es = read_of-append fs es
read_of-append (NotWritten held ∷ fs) es = read_of-append fs es

pub wrote_of-append : (fs es : List LinkEvent) → wrote_of (fs ++ es) ≡ wrote_of es ++ wrote_of fs
wrote_of-append [] es = sym (append-nil (wrote_of es))
wrote_of-append (Read bytes ∷ fs) es = wrote_of-append fs es
wrote_of-append (Wrote bytes ∷ fs) es = ap (λ (u : List ℕ). u ++ bytes) (wrote_of-append fs es) ∙ append_assoc (wrote_of es) (wrote_of fs) bytes
wrote_of-append (NotRead stop ∷ fs) es = wrote_of-append fs es
wrote_of-append (NotWritten held ∷ fs) es = wrote_of-append fs es

pub reads_in-append : (fs es : List LinkEvent) → reads_in (fs ++ es) ≡ reads_in es + reads_in fs
reads_in-append [] es = omega arith
reads_in-append (Read bytes ∷ fs) es = omega (arith, reads_in-append fs es)
reads_in-append (Wrote bytes ∷ fs) es = reads_in-append fs es
reads_in-append (NotRead stop ∷ fs) es = reads_in-append fs es
reads_in-append (NotWritten held ∷ fs) es = reads_in-append fs es

pub includes_left : (fs es : List LinkEvent) (y : LinkEvent) → Includes fs y → Includes (fs ++ es) y
includes_left [] es y p = absurd p
includes_left (f ∷ fs) es y (inl e) = inl e
includes_left (f ∷ fs) es y (inr p) = inr (includes_left fs es y p)

pub includes_right : (fs es : List LinkEvent) (y : LinkEvent) → Includes es y → Includes (fs ++ es) y
includes_right [] es y p = p
includes_right (f ∷ fs) es y p = inr (includes_right fs es y p)

-- what a link tells, over one event
event_reads : {L : Type 0} (link : Ghosts L) (a b : L) (x : LinkEvent) → IsEvent link a x b → Loses (link.input a) (link.input b) (read_of (x ∷ []))
event_reads link a b (Read bytes) p = p.1.input
event_reads link a b (Wrote bytes) p = loses_none _ _ p.input
event_reads link a b (NotRead stop) p = p.gave.input
event_reads link a b (NotWritten held) p = loses_none _ _ p.took.input

event_writes : {L : Type 0} (link : Ghosts L) (a b : L) (x : LinkEvent) → IsEvent link a x b → Gains (link.output a) (link.output b) (wrote_of (x ∷ []))
event_writes link a b (Read bytes) p = gains_none _ _ p.1.output
event_writes link a b (Wrote bytes) p = p.output
event_writes link a b (NotRead stop) p = gains_none _ _ p.gave.output
event_writes link a b (NotWritten held) p = p.took.output

event_mark : {L : Type 0} (link : Ghosts L) (a b : L) (x : LinkEvent) → IsEvent link a x b → link.mark b ≡ link.mark a
event_mark link a b (Read bytes) p = p.1.mark
event_mark link a b (Wrote bytes) p = p.mark
event_mark link a b (NotRead stop) p = p.gave.mark
event_mark link a b (NotWritten held) p = p.took.mark

event_faults : {L : Type 0} (link : Ghosts L) (a b : L) (x : LinkEvent) → IsEvent link a x b → link.faults a ≤ link.faults b
event_faults link a b (Read bytes) p = p.1.faults
event_faults link a b (Wrote bytes) p = p.faults
event_faults link a b (NotRead stop) p = p.gave.faults
event_faults link a b (NotWritten held) p = p.took.faults

-- what a link tells, over all events
pub went_reads : {L : Type 0} (link : Ghosts L) (a b : L) (es : List LinkEvent) → Went link a es b → Loses (link.input a) (link.input b) (read_of es)
went_reads {L} link a b [] p = loses_none _ _ (ap (λ (x : L). link.input x) p)
went_reads link a b (x ∷ es) p =
    subst (λ (u : List ℕ). Loses (link.input a) (link.input b) u) (sym (read_of-append (x ∷ []) es))
    (loses_then _ _ _ (read_of es) (read_of (x ∷ [])) (went_reads link a p.0 es p.1) (event_reads link p.0 b x p.2))

pub went_writes : {L : Type 0} (link : Ghosts L) (a b : L) (es : List LinkEvent) → Went link a es b → Gains (link.output a) (link.output b) (wrote_of es)
went_writes {L} link a b [] p = gains_none _ _ (ap (λ (x : L). link.output x) p)
went_writes link a b (x ∷ es) p =
    subst (λ (u : List ℕ). Gains (link.output a) (link.output b) u) (sym (wrote_of-append (x ∷ []) es))
    (gains_then _ _ _ (wrote_of es) (wrote_of (x ∷ [])) (went_writes link a p.0 es p.1) (event_writes link p.0 b x p.2))

pub went_mark : {L : Type 0} (link : Ghosts L) (a b : L) (es : List LinkEvent) → Went link a es b → link.mark b ≡ link.mark a
went_mark {L} link a b [] p = ap (λ (x : L). link.mark x) p
went_mark link a b (x ∷ es) p = event_mark link p.0 b x p.2 ∙ went_mark link a p.0 es p.1

pub went_faults : {L : Type 0} (link : Ghosts L) (a b : L) (es : List LinkEvent) → Went link a es b → link.faults a ≤ link.faults b
went_faults {L} link a b [] p = let e : link.faults b ≡ link.faults a = ap (λ (x : L). link.faults x) p in omega arith
went_faults link a b (x ∷ es) p = omega (arith, event_faults link p.0 b x p.2, went_faults link a p.0 es p.1)

-- a count that rose on the way has risen at the end
pub rose_between : (a b c d : ℕ) → a ≤ b → b ≤ c → Rose b c → c ≤ d → Rose a d
rose_between a b c d p q r s = elim r [ inl x ↦ inl (omega arith) | inr x ↦ elim (cases_lt a d) [ inl y ↦ inl y | inr y ↦ inr (omega arith) ] ]

-- a link that failed in one event
event_failed : {L : Type 0} (link : Ghosts L) (a b : L) (x : LinkEvent) → IsEvent link a x b → (x ≡ NotRead Failed) ⊎ (x ≡ NotWritten FailedWrite) → Rose (link.faults a) (link.faults b)
event_failed link a b x p (inl e) = let q : IsEvent link a (NotRead Failed) b = subst (λ (y : LinkEvent). IsEvent link a y b) e p in q.why
event_failed link a b x p (inr e) = let q : IsEvent link a (NotWritten FailedWrite) b = subst (λ (y : LinkEvent). IsEvent link a y b) e p in q.why

failed_here : (x : LinkEvent) (es : List LinkEvent) → HasFailed (x ∷ es) → ((x ≡ NotRead Failed) ⊎ (x ≡ NotWritten FailedWrite)) ⊎ HasFailed es
failed_here x es (inl (inl e)) = inl (inl e)
failed_here x es (inl (inr i)) = inr (inl i)
failed_here x es (inr (inl e)) = inl (inr e)
failed_here x es (inr (inr i)) = inr (inr i)

-- a link that failed on the way has a count that rose
pub went_failed : {L : Type 0} (link : Ghosts L) (a b : L) (es : List LinkEvent) → Went link a es b → HasFailed es → Rose (link.faults a) (link.faults b)
went_failed link a b [] p (inl x) = absurd x
went_failed link a b [] p (inr x) = absurd x
went_failed link a b (x ∷ es) p q =
    let first : link.faults a ≤ link.faults p.0 = went_faults link a p.0 es p.1 in
    let last : link.faults p.0 ≤ link.faults b = event_faults link p.0 b x p.2 in
    elim (failed_here x es q) [
      | inl here ↦ rose_between (link.faults a) (link.faults p.0) (link.faults b) (link.faults b) first last (event_failed link p.0 b x p.2 here) (omega arith)
      | inr there ↦ rose_between (link.faults a) (link.faults a) (link.faults p.0) (link.faults b) (omega arith) first (went_failed link a p.0 es p.1 there) last
    ]
