use Rattle.std.specs.Prelude.{◌≡◌, ℕ, List, [], ◌∷◌, ◌++◌, refl}
use Rattle.std.proofs.Common.{ap, sym, ◌∙◌, subst}
use Rattle.amqp_delivery.specs.Book.{Book}
use Rattle.amqp_delivery.specs.Step.{step}
use Rattle.amqp_delivery.specs.declared.calls.BookCall.{BookCall}
use Rattle.book_history.specs.History.{Event, Replays, event_of}

-- one step more
pub replays_push : (b : Book) (es : List Event) (c : Book) (e : Event) (d : Book) → Replays b es c → e.reply ≡ (step c e.call).reply → d ≡ (step c e.call).book → Replays b (es ++ e ∷ []) d
replays_push b [] c e d is reply next = (reply ∙ ap (λ (x : Book). (step x e.call).reply) (sym is), ap (λ (x : Book). (step x e.call).book) is ∙ sym next)
replays_push b (x ∷ es) c e d replays reply next = (replays.0, replays_push (step b x.call).book es c e d replays.1 reply next)

-- one call more
pub replays_call : (b : Book) (es : List Event) (c : Book) (seat : ℕ) (call : BookCall) (e : Event) (d : Book) → Replays b es c → e ≡ event_of seat c call → d ≡ (step c call).book → Replays b (es ++ e ∷ []) d
replays_call b es c seat call e d replays is next = replays_push b es c e d replays
    (ap (λ (x : Event). x.reply) is ∙ ap (λ (k : BookCall). (step c k).reply) (sym (ap (λ (x : Event). x.call) is)))
    (next ∙ ap (λ (k : BookCall). (step c k).book) (sym (ap (λ (x : Event). x.call) is)))

-- the same entries lead to the same book
pub replays_same : (b : Book) (es es' : List Event) (c c' : Book) → Replays b es c → es' ≡ es → c' ≡ c → Replays b es' c'
replays_same b es es' c c' replays entries book = subst (λ (xs : List Event). Replays b xs c') (sym entries) (subst (λ (x : Book). Replays b es x) (sym book) replays)
