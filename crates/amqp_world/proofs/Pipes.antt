-- Pipes as links: what passed at one.
use Rattle.std.proofs.Common.{◌≡◌, inl, inr, ℕ, List, [], ◌∷◌, ◌++◌, length, refl, sym, ap, ◌∙◌, subst, arith}
use Rattle.amqp_wire.specs.declared.link.Stop.TheVariants as stop
use Rattle.amqp_wire.specs.declared.link.Held.TheVariants as held
use Rattle.amqp_wire.specs.Link.{Rose}
use Rattle.amqp_wire.specs.Events.{LinkEvent, NotRead, NotWritten, IsEvent, Went, Includes, read_of, wrote_of}
use Rattle.amqp_wire.specs.Piped.{Piped}
use Rattle.amqp_wire.proofs.Events.{went_reads, went_writes, went_mark, went_failed}
use Rattle.amqp_ends.specs.Joined.{IsCalm}
use Rattle.amqp_world.specs.Turn.{piping}

pub pipe_input : (a b : Piped) (es : List LinkEvent) → Went piping a es b → a.input ≡ read_of es ++ b.input
pipe_input a b es w = went_reads piping a b es w

pub pipe_output : (a b : Piped) (es : List LinkEvent) → Went piping a es b → b.output ≡ a.output ++ wrote_of es
pipe_output a b es w = went_writes piping a b es w

pub pipe_mark : (a b : Piped) (es : List LinkEvent) → Went piping a es b → b.mark ≡ a.mark
pipe_mark a b es w = went_mark piping a b es w

never_rose : Rose 0 0 → ⊥
never_rose (inl r) = omega arith
never_rose (inr r) = omega arith

never_ends : (a b : Piped) (es : List LinkEvent) → Went piping a es b → Includes es (NotRead stop.End) → ⊥
never_ends a b [] w i = i
never_ends a b (x ∷ es) w (inl e) = let q : IsEvent piping w.0 (NotRead stop.End) b = subst (λ (y : LinkEvent). IsEvent piping w.0 y b) e w.2 in q.why
never_ends a b (x ∷ es) w (inr i) = never_ends a w.0 es w.1 i

pub never_fills : (a b : Piped) (es : List LinkEvent) → Went piping a es b → Includes es (NotWritten held.Full) → ⊥
never_fills a b [] w i = i
never_fills a b (x ∷ es) w (inl e) = let q : IsEvent piping w.0 (NotWritten held.Full) b = subst (λ (y : LinkEvent). IsEvent piping w.0 y b) e w.2 in q.why
never_fills a b (x ∷ es) w (inr i) = never_fills a w.0 es w.1 i

pub pipe_calm : (a b : Piped) (es : List LinkEvent) → Went piping a es b → IsCalm es
pipe_calm a b es w =
    record {
      unfailed_reads = λ i. never_rose (went_failed piping a b es w (inl i));
      unfailed_writes = λ i. never_rose (went_failed piping a b es w (inr i));
      unended = never_ends a b es w;
      unfilled = never_fills a b es w;
    }

pub calm_none : IsCalm []
calm_none = record { unfailed_reads = λ i. i; unfailed_writes = λ i. i; unended = λ i. i; unfilled = λ i. i }

none_of : (fs es : List LinkEvent) (y : LinkEvent) → (Includes fs y → ⊥) → (Includes es y → ⊥) → Includes (fs ++ es) y → ⊥
none_of [] es y p q i = q i
none_of (f ∷ fs) es y p q (inl e) = p (inl e)
none_of (f ∷ fs) es y p q (inr i) = none_of fs es y (λ j. p (inr j)) q i

pub calm_more : (fs es : List LinkEvent) → IsCalm fs → IsCalm es → IsCalm (fs ++ es)
calm_more fs es p q =
    record {
      unfailed_reads = none_of fs es _ p.unfailed_reads q.unfailed_reads;
      unfailed_writes = none_of fs es _ p.unfailed_writes q.unfailed_writes;
      unended = none_of fs es _ p.unended q.unended;
      unfilled = none_of fs es _ p.unfilled q.unfilled;
    }

-- after a read that found nothing, the input is used up
nothing_left : (r b : List ℕ) → [] ≡ r ++ b → b ≡ []
nothing_left [] b e = sym e
nothing_left (y ∷ r) b e = absurd (omega (arith, ap length e))

pub pipe_emptied : (a b : Piped) (es : List LinkEvent) → Went piping a es b → Includes es (NotRead stop.Empty) → b.input ≡ []
pipe_emptied a b [] w i = absurd i
pipe_emptied a b (x ∷ es) w (inl e) = let q : IsEvent piping w.0 (NotRead stop.Empty) b = subst (λ (y : LinkEvent). IsEvent piping w.0 y b) e w.2 in sym q.gave.input ∙ q.why
pipe_emptied a b (x ∷ es) w (inr i) = nothing_left (read_of (x ∷ [])) b.input (sym (pipe_emptied a w.0 es w.1 i) ∙ pipe_input w.0 b (x ∷ []) (w.0, refl, w.2))
