-- A link goes from one state to another by moves.
use Rattle.std.specs.Prelude.{◌≡◌, List, [], ◌∷◌, ◌++◌, refl}
use Rattle.std.proofs.Common.{sym, ◌∙◌, ap}
use Rattle.amqp_link.specs.Link.{Link}
use Rattle.crossing_laws.specs.Lives.{Move, after, after_all}

unfoldable pub Goes : Link → Link → Type 0
Goes l n = (ls : List Move) × (n ≡ after_all l ls)

pub stays : (l : Link) → Goes l l
unfolding Goes
stays l = ([], refl)

pub same : (l n : Link) → n ≡ l → Goes l n
unfolding Goes
same l n e = ([], e)

pub by : (l : Link) (m : Move) → Goes l (after l m)
unfolding Goes
by l m = (m ∷ [], refl)

behind : (l : Link) (xs ys : List Move) → after_all l (xs ++ ys) ≡ after_all (after_all l xs) ys
behind l [] ys = refl
behind l (x ∷ xs) ys = behind (after l x) xs ys

pub onwards : (l m n : Link) → Goes l m → Goes m n → Goes l n
unfolding Goes
onwards l m n (xs, p) (ys, q) = (xs ++ ys, q ∙ ap (λ t. after_all t ys) p ∙ sym (behind l xs ys))

-- what leaves the link as it is
pub likewise : (l m n : Link) → Goes l m → n ≡ m → Goes l n
unfolding Goes
likewise l m n (xs, p) e = (xs, e ∙ p)
