-- Lemmas on what a link and a codec went through.
use Rattle.std.proofs.Common.{◌≡◌, ◌<◌, ◌≤◌, List, ℕ, [], ◌++◌, length, take, Option, Some, None, refl, sym, ap, ◌∙◌, subst, append_assoc, arith, length-append}
use Rattle.std.proofs.lemmas.List.{append-nil}
use Rattle.list_laws.specs.Told.{Gains}
use Rattle.list_laws.proofs.Told.{loses_none, gains_none, loses_then, gains_then}
use Rattle.amqp_wire.specs.declared.link.Link.{Ghosts}
use Rattle.amqp_wire.specs.declared.link.Stop.{Stop}
use Rattle.amqp_wire.specs.declared.link.Held.{Held}
use Rattle.amqp_wire.specs.Steps.{Gave, ReadBy, Took, WroteBy}
use Rattle.amqp_wire.specs.Codec.{Codec, Fed, Sent}

-- no reads give no bytes
pub gave_nothing : {L : Type 0} (link : Ghosts L) (a : L) → Gave link a [] a
gave_nothing link a = record { input = loses_none _ _ refl; output = refl; mark = refl; faults = omega arith }

-- reads and then reads are reads
pub gave_then : {L : Type 0} (link : Ghosts L) (a b c : L) (r s : List ℕ) → Gave link a r b → Gave link b s c → Gave link a (r ++ s) c
gave_then link a b c r s g h =
    record { input = loses_then _ _ _ r s g.input h.input; output = h.output ∙ g.output; mark = h.mark ∙ g.mark; faults = omega (arith, g.faults, h.faults) }

-- no writes take no bytes
pub took_nothing : {L : Type 0} (link : Ghosts L) (a : L) → Took link a [] a
took_nothing link a = record { output = gains_none _ _ refl; input = refl; ready = refl; mark = refl; faults = omega arith }

-- writes and then writes are writes
pub took_then : {L : Type 0} (link : Ghosts L) (a b c : L) (r s : List ℕ) → Took link a r b → Took link b s c → Took link a (r ++ s) c
took_then link a b c r s g h =
    record { output = gains_then _ _ _ r s g.output h.output; input = h.input ∙ g.input; ready = h.ready ∙ g.ready; mark = h.mark ∙ g.mark; faults = omega (arith, g.faults, h.faults) }

-- a codec that is as it was was fed no bytes
pub fed_nothing : {L : Type 0} (link : Ghosts L) (a : Codec L) → Fed link a [] a
fed_nothing link a = record { gave = gave_nothing link a.link; none = λ e. refl; rest = ap (λ (xs : List ℕ). record a { input = xs }) (sym (append-nil a.input)) }

-- a codec that was fed and read more was fed all of it
pub fed_more : {L : Type 0} (link : Ghosts L) (a b : Codec L) (r s : List ℕ) (to : L) (input : List ℕ) → Fed link a r b → 0 < length s → Gave link b.link s to → input ≡ b.input ++ s → Fed link a (r ++ s) (record b { link = to; input = input })
fed_more {L} link a b r s to input f n g e =
    record {
      gave = gave_then link a.link b.link to r s f.gave g;
      none = λ z. absurd (omega (arith, ap length z, length-append r s, n));
      rest = ap (λ (c : Codec L). record c { link = to; input = input }) f.rest ∙ ap (λ (xs : List ℕ). record a { link = to; input = xs }) (e ∙ ap (λ (xs : List ℕ). xs ++ s) (ap (λ (c : Codec L). c.input) f.rest) ∙ append_assoc a.input r s);
    }

-- a codec that is as it was sent no bytes
pub sent_nothing : {L : Type 0} (link : Ghosts L) (a : Codec L) → Sent link a [] a
sent_nothing link a = record { took = took_nothing link a.link; rest = refl; out = refl }

-- a codec that sent and wrote more sent all of it
pub sent_more : {L : Type 0} (link : Ghosts L) (a b : Codec L) (r s : List ℕ) (to : L) (output : List ℕ) → Sent link a r b → Took link b.link s to → b.output ≡ s ++ output → Sent link a (r ++ s) (record b { link = to; output = output })
sent_more {L} link a b r s to output f t e =
    record {
      took = took_then link a.link b.link to r s f.took t;
      rest = ap (λ (c : Codec L). record c { link = to; output = output }) f.rest;
      out = f.out ∙ ap (λ (xs : List ℕ). r ++ xs) e ∙ sym (append_assoc r s output);
    }

-- a write took the front of the output
pub took_front : {L : Type 0} (link : Ghosts L) (a b : L) (n : ℕ) (piece output : List ℕ) → piece ≡ output → Gains (link.output a) (link.output b) (take n piece) → link.input b ≡ link.input a → link.ready b ≡ link.ready a → link.mark b ≡ link.mark a → link.faults a ≤ link.faults b → Took link a (take n output) b
took_front link a b n piece output e g i r m f = record { output = subst (λ (xs : List ℕ). Gains (link.output a) (link.output b) (take n xs)) e g; input = i; ready = r; mark = m; faults = f }

-- bytes that reads gave, whatever the last of them answered
pub read_by_gave : {L : Type 0} (link : Ghosts L) (a b : L) (bytes : List ℕ) (stop : Option Stop) → ReadBy link a bytes stop b → Gave link a bytes b
read_by_gave {L} link a b bytes None r = subst (λ (x : L). Gave link a bytes x) (sym r.last) r.gave
read_by_gave link a b bytes (Some s) r = subst (λ (u : List ℕ). Gave link a u b) (append-nil bytes) (gave_then link a r.mid b bytes [] r.gave r.last.gave)

-- bytes that writes took, whatever the last of them answered
pub wrote_took : {L : Type 0} (link : Ghosts L) (a b : L) (bytes : List ℕ) (held : Option Held) → WroteBy link a bytes held b → Took link a bytes b
wrote_took {L} link a b bytes None r = subst (λ (x : L). Took link a bytes x) (sym r.last) r.took
wrote_took link a b bytes (Some h) r = subst (λ (u : List ℕ). Took link a u b) (append-nil bytes) (took_then link a r.mid b bytes [] r.took r.last.took)
