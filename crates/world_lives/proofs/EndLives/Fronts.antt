-- A list that begins another.
use Rattle.std.specs.Prelude.{◌≡◌, ℕ, nat_eq, List, [], ◌++◌, refl}
use Rattle.std.proofs.Common.{sym, ◌∙◌, ap, append_assoc}
use Rattle.std.proofs.lemmas.List.{append-nil}
use Rattle.std.proofs.lemmas.List.Elements.{filter-append}
use Rattle.amqp_parts.specs.declared.part.Part.{Part}
use Rattle.session_laws.specs.Messages.{on}
use Rattle.world_lives.specs.EndLives.Laws.{IsFront}

pub front_is : (xs ys : List Part) → xs ≡ ys → IsFront xs ys
front_is xs ys e = record { rest = []; front = append-nil xs ∙ e }

pub front_more : (xs ys : List Part) → IsFront xs (xs ++ ys)
front_more xs ys = record { rest = ys; front = refl }

pub front_then : (xs ys zs : List Part) → IsFront xs ys → IsFront ys zs → IsFront xs zs
front_then xs ys zs p q = record { rest = p.rest ++ q.rest; front = sym (append_assoc xs p.rest q.rest) ∙ (ap (λ vs. vs ++ q.rest) p.front ∙ q.front) }

pub front_to : (xs ys zs : List Part) → IsFront xs ys → ys ≡ zs → IsFront xs zs
front_to xs ys zs p e = record { rest = p.rest; front = p.front ∙ e }

pub front_of : (xs ys zs : List Part) → xs ≡ ys → IsFront ys zs → IsFront xs zs
front_of xs ys zs e p = record { rest = p.rest; front = ap (λ vs. vs ++ p.rest) e ∙ p.front }

pub on_more : (handle : ℕ) (xs ys : List Part) → on handle (xs ++ ys) ≡ on handle xs ++ on handle ys
on_more handle xs ys = filter-append (λ (x : Part). nat_eq x.transfer.handle handle) xs ys

pub front_on : (handle : ℕ) (xs ys : List Part) → IsFront xs ys → IsFront (on handle xs) (on handle ys)
front_on handle xs ys p = record { rest = on handle p.rest; front = sym (on_more handle xs p.rest) ∙ ap (on handle) p.front }
