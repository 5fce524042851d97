-- Of lists, each of which is among another.
use Rattle.std.specs.Prelude.{◌≡◌, List, [], ◌∷◌, ◌++◌, flat_map, map, refl}
use Rattle.std.proofs.Common.{sym, subst, inl, inr}
use Rattle.session_laws.specs.Settling.{IsAmong}
use Rattle.session_laws.specs.Speaking.{AreAmong}
use Rattle.session_laws.proofs.Lists.{among_first, among_last, are_at, among_flat, among_map}

pub among_all : {X : Type 0} → (xs ys : List X) → ((x : X) → IsAmong x xs → IsAmong x ys) → AreAmong xs ys
among_all [] ys f = tt
among_all (x ∷ xs) ys f = (f x (inl refl), among_all xs ys (λ y a. f y (inr a)))

pub among_then : {X : Type 0} → (xs ys zs : List X) → AreAmong xs ys → AreAmong ys zs → AreAmong xs zs
among_then xs ys zs p q = among_all xs zs (λ x a. are_at ys zs x q (are_at xs ys x p a))

pub among_itself : {X : Type 0} → (xs : List X) → AreAmong xs xs
among_itself xs = among_all xs xs (λ x a. a)

pub among_same : {X : Type 0} → (xs ys : List X) → xs ≡ ys → AreAmong xs ys
among_same xs ys e = subst (λ zs. AreAmong xs zs) e (among_itself xs)

-- the first of a list
pub among_whole : {X : Type 0} → (xs later ys : List X) → xs ++ later ≡ ys → AreAmong xs ys
among_whole xs later ys e = subst (λ zs. AreAmong xs zs) e (among_all xs (xs ++ later) (λ x a. among_first x xs later a))

pub among_none : {X : Type 0} → (xs ys : List X) → xs ≡ [] → AreAmong xs ys
among_none xs ys e = subst (λ zs. AreAmong zs ys) (sym e) tt

-- both are
pub among_join : {X : Type 0} → (xs ys zs : List X) → AreAmong xs zs → AreAmong ys zs → AreAmong (xs ++ ys) zs
among_join [] ys zs p q = q
among_join (x ∷ xs) ys zs p q = (p.0, among_join xs ys zs p.1 q)

pub among_both : {X : Type 0} → (xs ys vs ws : List X) → AreAmong xs vs → AreAmong ys ws → AreAmong (xs ++ ys) (vs ++ ws)
among_both xs ys vs ws p q =
    among_join xs ys (vs ++ ws)
    (among_all xs (vs ++ ws) (λ x a. among_first x vs ws (are_at xs vs x p a)))
    (among_all ys (vs ++ ws) (λ x a. among_last x vs ws (are_at ys ws x q a)))

-- what is read off them is too
pub among_said : {X Y : Type 0} → (f : X → List Y) (xs ys : List X) → AreAmong xs ys → AreAmong (flat_map f xs) (flat_map f ys)
among_said f [] ys h = tt
among_said f (x ∷ xs) ys h = among_join (f x) (flat_map f xs) (flat_map f ys) (among_all (f x) (flat_map f ys) (λ y a. among_flat f ys x y h.0 a)) (among_said f xs ys h.1)

pub among_mapped : {X Y : Type 0} → (f : X → Y) (xs ys : List X) → AreAmong xs ys → AreAmong (map f xs) (map f ys)
among_mapped f [] ys h = tt
among_mapped f (x ∷ xs) ys h = (among_map f ys x h.0, among_mapped f xs ys h.1)
