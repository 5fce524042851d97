-- How what waits is written, a part at a time.
use Rattle.std.proofs.Common.{◌≡◌, ◌∙◌, ap, refl, ℕ, zero, suc, ◌-◌, ◌<◌, List, [], ◌∷◌, arith}
use Rattle.amqp_parts.specs.declared.part.Part.{Part}
use Rattle.amqp_session.specs.State.{State}
use Rattle.amqp_session.specs.Hold.{leaving, first_leaving, releasing, released}

-- nothing waits
pub releasing_none : (n : ℕ) (s : State) → s.held ≡ [] → releasing n s ≡ s
unfolding releasing
releasing_none zero s h = refl
releasing_none (suc n) s h = ap (λ xs. releasing n (first_leaving xs s)) h ∙ releasing_none n s h

pub released_none : (s : State) → s.held ≡ [] → released s ≡ s
released_none s h = releasing_none s.windows.allowance s h

-- nothing may be written
pub released_spent : (s : State) → s.windows.allowance ≡ 0 → released s ≡ s
unfolding releasing
released_spent s h = ap (λ n. releasing n s) h

first_by : (n : ℕ) (s : State) (x : Part) (xs : List Part) → s.held ≡ x ∷ xs → 0 < n → releasing n s ≡ releasing (n - 1) (leaving x (record s { held = xs }))
unfolding releasing
first_by zero s x xs h p = absurd (omega arith)
first_by (suc n) s x xs h p =
    let e : n ≡ suc n - 1 = omega arith in
    ap (λ ys. releasing n (first_leaving ys s)) h ∙ ap (λ k. releasing k (leaving x (record s { held = xs }))) e

-- the first part of what waits is written, and then what the peer can still take
pub released_first : (s : State) (x : Part) (xs : List Part) → s.held ≡ x ∷ xs → 0 < s.windows.allowance → released s ≡ released (leaving x (record s { held = xs }))
released_first s x xs h p = first_by s.windows.allowance s x xs h p
