-- Frames of which none on a channel is a Transfer on a handle.
use Rattle.std.specs.Prelude.{◌≡◌, ℕ, nat_eq, Bool, true, false, List, [], ◌∷◌, ◌++◌, if◌then◌else◌, refl}
use Rattle.std.proofs.Common.{sym, ◌∙◌, ap, eq-eqb}
use Rattle.std.proofs.lemmas.Bool.{eqb-true}
use Rattle.amqp_session.specs.State.{Framed}
use Rattle.session_laws.specs.Holding.{transfers}
use Rattle.session_laws.specs.Messages.{transfer_in, on as on_handle}
use Rattle.session_lives.specs.Channels.{AllOn, on}
use Rattle.first_messages.proofs.Lists.{none_both, none_left, none_right}
use Rattle.first_messages.proofs.Each.{AllOf}

module _ (handle c : ℕ) where
  -- a frame on the channel is no Transfer on the handle
  abbrev pub IsNone : Framed → Type 0
  IsNone x = x.channel ≡ c → on_handle handle (transfer_in x.body) ≡ []

  -- so it is with frames of a channel where none of them is
  pub frames_none : (k : ℕ) (xs : List Framed) → AllOn k xs → (k ≡ c → on_handle handle (transfers xs) ≡ []) → AllOf IsNone xs
  frames_none k [] is h = tt
  frames_none k (x ∷ xs) is h =
      (λ e. none_left handle (transfer_in x.body) (transfers xs) (h (sym is.0 ∙ e)), frames_none k xs is.1 (λ e. none_right handle (transfer_in x.body) (transfers xs) (h e)))

  pub none_on : (xs : List Framed) → AllOf IsNone xs → on_handle handle (transfers (on c xs)) ≡ []
  none_on [] h = refl
  none_on (x ∷ xs) h = by (nat_eq c x.channel) refl (none_on xs h.1)
    where
      by : (b : Bool) → nat_eq c x.channel ≡ b → on_handle handle (transfers (on c xs)) ≡ [] → on_handle handle (transfers ((if b then x ∷ [] else []) ++ on c xs)) ≡ []
      by true e rest = none_both handle (transfer_in x.body) (transfers (on c xs)) (h.0 (sym (eqb-true c x.channel e))) rest
      by false e rest = rest

  pub one_none : (x : Framed) → on_handle handle (transfers (on c (x ∷ []))) ≡ [] → IsNone x
  one_none x k is =
      let e : nat_eq c x.channel ≡ true = eq-eqb c x.channel (sym is) in
      none_left handle (transfer_in x.body) [] (sym (ap (λ b. on_handle handle (transfers ((if b then x ∷ [] else []) ++ []))) e) ∙ k)
