-- What the links of an end give to one of its sessions: that takes the first of it, until it is let go.
use Rattle.std.specs.Prelude.{◌≡◌, ℕ, nat_eq, Bool, true, false, List, [], ◌∷◌, ◌++◌, Option, Some, None, if◌then◌else◌, refl}
use Rattle.std.proofs.Common.{sym, ◌∙◌, ap, append_assoc}
use Rattle.std.proofs.lemmas.Grind.{flat_map-append}
use Rattle.amqp_frames.specs.declared.shared.LinkFrame.{LinkFrame}
use Rattle.amqp_frames.specs.declared.shared.LinkFrame.TheVariants as frame
use Rattle.amqp_link.specs.Link.{body_of}
use Rattle.amqp_parts.specs.declared.part.Part.{Part}
use Rattle.amqp_sessions.specs.Parts.{EndpointState}
use Rattle.amqp_sessions.specs.State.{State, endpoint_of}
use Rattle.session_laws.specs.Messages.{transfer_in}
use Rattle.link_lives.specs.Deeds.{part_told, parts_told}
use Rattle.link_lives.proofs.Tables.{flip}
use Rattle.session_lives.specs.Deeds.{Deed, Takes, Did, where_there, told_of, came_in, AreOther}
use Rattle.session_lives.specs.Lives.{Share}
use Rattle.session_lives.specs.Logs.{AreKeyed, Fate}
use Rattle.session_lives.proofs.Deeds.{one_session_lives}
use Rattle.world_lives.specs.EndLives.Ends.{taken_of, taken_in}
use Rattle.world_lives.specs.EndLives.Laws.{IsFront}
use Rattle.world_lives.proofs.EndLives.Phases.{part_in, parts_given}

-- the frames that links give to the session of that name, whether it stands or not
abbrev pub meant_by : ℕ → Deed → List LinkFrame
meant_by n (Takes session x) = if nat_eq n session then x ∷ [] else []
meant_by n d = []

abbrev pub meant : ℕ → List Deed → List LinkFrame
meant n [] = []
meant n (d ∷ ds) = meant_by n d ++ meant n ds

-- ---- a session that is let go

still_gone : (o p : Option EndpointState) (a : Share) → o ≡ None → Fate o a p → p ≡ None
still_gone None None a e f = refl
still_gone None (Some m) a e f = absurd f
still_gone (Some l) p a e f = absurd cc

nothing_there : (o : Option EndpointState) (xs : List LinkFrame) → o ≡ None → where_there o xs ≡ []
nothing_there None xs e = refl
nothing_there (Some l) xs e = absurd cc

all_there : (o : Option EndpointState) (e : EndpointState) (xs : List LinkFrame) → o ≡ Some e → where_there o xs ≡ xs
all_there None e xs h = absurd cc
all_there (Some l) e xs h = refl

gone_of : (d : Deed) (s : State) (n : ℕ) → endpoint_of n s ≡ None → told_of d s n ≡ []
gone_of (Takes session x) s n e = nothing_there (endpoint_of n s) (if nat_eq n session then x ∷ [] else []) e
gone_of d s n e = refl

stood_of : (d : Deed) (s : State) (n : ℕ) (e : EndpointState) → endpoint_of n s ≡ Some e → told_of d s n ≡ meant_by n d
stood_of (Takes session x) s n e at = all_there (endpoint_of n s) e (if nat_eq n session then x ∷ [] else []) at
stood_of d s n e at = refl

gone_in : (n : ℕ) (old : State) (ds : List Deed) (new : State) (did : Did old ds new) → AreKeyed old → endpoint_of n old ≡ None → AreOther n ds → (came_in old ds new did n).told ≡ []
gone_in n old [] new did keyed none other = refl
gone_in n old (d ∷ ds) new did keyed none other =
    let mid = did.0 in
    let k = one_session_lives d old mid did.1.0 keyed in
    let after = still_gone (endpoint_of n old) (endpoint_of n mid) _ none (k.each n other.0) in
    ap (λ (xs : List LinkFrame). xs ++ (came_in mid ds new did.1.1 n).told) (gone_of d old n none) ∙ gone_in n mid ds new did.1.1 k.keyed after other.1

-- ---- what it takes is a front of what is meant for it

pub record IsFirst (some all : List LinkFrame) : Type 0 where
  pub rest : List LinkFrame
  pub first : some ++ rest ≡ all

none_first : (some all : List LinkFrame) → some ≡ [] → IsFirst some all
none_first some all e = record { rest = all; first = ap (λ (xs : List LinkFrame). xs ++ all) e }

more_first : (a b xs ys : List LinkFrame) → a ≡ b → IsFirst xs ys → IsFirst (a ++ xs) (b ++ ys)
more_first a b xs ys e p = record { rest = p.rest; first = append_assoc a xs p.rest ∙ (ap (λ (zs : List LinkFrame). a ++ zs) p.first ∙ ap (λ (zs : List LinkFrame). zs ++ ys) e) }

taken_first : (n : ℕ) (old : State) (ds : List Deed) (new : State) (did : Did old ds new) (o : Option EndpointState) → endpoint_of n old ≡ o → AreKeyed old → AreOther n ds
    → IsFirst (came_in old ds new did n).told (meant n ds)
taken_first n old [] new did o at keyed other = record { rest = []; first = refl }
taken_first n old (d ∷ ds) new did None at keyed other = none_first _ (meant n (d ∷ ds)) (gone_in n old (d ∷ ds) new did keyed at other)
taken_first n old (d ∷ ds) new did (Some e) at keyed other =
    let mid = did.0 in
    let k = one_session_lives d old mid did.1.0 keyed in
    more_first (told_of d old n) (meant_by n d) (came_in mid ds new did.1.1 n).told (meant n ds) (stood_of d old n e at)
    (taken_first n mid ds new did.1.1 (endpoint_of n mid) refl k.keyed other.1)

pub takes_first : (n : ℕ) (old : State) (ds : List Deed) (new : State) (did : Did old ds new) → AreKeyed old → AreOther n ds → IsFirst (came_in old ds new did n).told (meant n ds)
takes_first n old ds new did keyed other = taken_first n old ds new did (endpoint_of n old) refl keyed other

-- ---- the Transfers among it

pub parts_first : (xs ys : List LinkFrame) → IsFirst xs ys → IsFront (parts_given xs) (parts_given ys)
parts_first xs ys p = record { rest = parts_given p.rest; front = sym (flat_map-append part_in xs p.rest) ∙ ap parts_given p.first }

body_parts : (x : LinkFrame) → transfer_in (body_of x) ≡ part_in x
body_parts (frame.Transfer x payload) = refl
body_parts other = refl

chosen : (b : Bool) (x : LinkFrame) → (if b then transfer_in (body_of x) else []) ++ [] ≡ parts_given (if b then x ∷ [] else [])
chosen true x = ap (λ (xs : List Part). xs ++ []) (body_parts x)
chosen false x = refl

pub meant_one : (n : ℕ) (d : Deed) → parts_told n (taken_of d) ≡ parts_given (meant_by n d)
meant_one n (Takes session x) =
    ap (λ b. (if b then transfer_in (body_of x) else []) ++ []) (flip n session) ∙ chosen (nat_eq n session) x
meant_one n d = refl

-- what the sessions take of links, as that is told by links
pub meant_parts : (n : ℕ) (ds : List Deed) → parts_told n (taken_in ds) ≡ parts_given (meant n ds)
meant_parts n [] = refl
meant_parts n (d ∷ ds) =
    flat_map-append (part_told n) (taken_of d) (taken_in ds)
    ∙ (ap (λ (xs : List Part). xs ++ parts_told n (taken_in ds)) (meant_one n d)
    ∙ (ap (λ (xs : List Part). parts_given (meant_by n d) ++ xs) (meant_parts n ds) ∙ sym (flat_map-append part_in (meant_by n d) (meant n ds))))
