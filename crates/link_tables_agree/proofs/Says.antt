-- The handles of the Transfers among frames, and of what is told.
use Rattle.std.specs.Prelude.{◌≡◌, ℕ, List, [], ◌∷◌, ◌++◌, map, refl}
use Rattle.std.proofs.Common.{subst}
use Rattle.std.proofs.lemmas.Grind.{flat_map-append}
use Rattle.amqp_frames.specs.declared.body.FrameBody.{FrameBody}
use Rattle.amqp_parts.specs.declared.part.Part.{Part}
use Rattle.session_laws.specs.Messages.{Message, transfer_in, transfers}
use Rattle.session_laws.specs.Receiving.{Answer}
use Rattle.link_lives.specs.Lives.{Event, Wrote, Sent, Answered}
use Rattle.link_tables_agree.specs.Sound.{AllOn}

module _ (Q : ℕ → Type 0) where
  pub on_both : (xs ys : List Part) → AllOn Q xs → AllOn Q ys → AllOn Q (xs ++ ys)
  on_both [] ys p q = q
  on_both (x ∷ xs) ys p q = (p.0, on_both xs ys p.1 q)

  pub on_first : (xs ys : List Part) → AllOn Q (xs ++ ys) → AllOn Q xs
  on_first [] ys p = tt
  on_first (x ∷ xs) ys p = (p.0, on_first xs ys p.1)

  pub on_last : (xs ys : List Part) → AllOn Q (xs ++ ys) → AllOn Q ys
  on_last [] ys p = p
  on_last (x ∷ xs) ys p = on_last xs ys p.1

  -- and so is each that is among these frames
  abbrev pub Say : List FrameBody → Type 0
  Say xs = AllOn Q (transfers xs)

  pub say_first : (xs ys : List FrameBody) → Say (xs ++ ys) → Say xs
  say_first xs ys p = on_first (transfers xs) (transfers ys) (subst (AllOn Q) (flat_map-append transfer_in xs ys) p)

  pub say_last : (xs ys : List FrameBody) → Say (xs ++ ys) → Say ys
  say_last xs ys p = on_last (transfers xs) (transfers ys) (subst (AllOn Q) (flat_map-append transfer_in xs ys) p)

  -- what a link on that session tells writes no other
  abbrev pub Told : ℕ → Event → Type 0
  Told session (Wrote other x) = (other ≡ session) × AllOn Q (transfer_in x)
  Told session other = Unit {0}

  abbrev pub AllTold : ℕ → List Event → Type 0
  AllTold session [] = Unit {0}
  AllTold session (e ∷ es) = Told session e × AllTold session es

  pub told_both : (session : ℕ) (xs ys : List Event) → AllTold session xs → AllTold session ys → AllTold session (xs ++ ys)
  told_both session [] ys p q = q
  told_both session (x ∷ xs) ys p q = (p.0, told_both session xs ys p.1 q)

  pub wrote_told : (session : ℕ) (xs : List FrameBody) → Say xs → AllTold session (map (Wrote session) xs)
  wrote_told session [] p = tt
  wrote_told session (x ∷ xs) p =
      let q : AllOn Q (transfer_in x ++ transfers xs) = p in
      ((refl, on_first (transfer_in x) (transfers xs) q), wrote_told session xs (on_last (transfer_in x) (transfers xs) q))

  pub sent_told : (session : ℕ) (xs : List Message) → AllTold session (map Sent xs)
  sent_told session [] = tt
  sent_told session (x ∷ xs) = (tt, sent_told session xs)

  pub answered_told : (session : ℕ) (xs : List Answer) → AllTold session (map Answered xs)
  answered_told session [] = tt
  answered_told session (x ∷ xs) = (tt, answered_told session xs)
