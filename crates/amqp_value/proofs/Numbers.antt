-- What the small readers take from the front, and what they read again.
use Rattle.std.proofs.Common.{◌≡◌, ℕ, suc, ◌+◌, ◌^◌, ◌<◌, ◌≤◌, Bool, true, false, cond, ltb, List, [], ◌∷◌, ◌++◌, length, get_or, take, drop, Option, Some, None, refl, sym, ap, ◌∙◌, append_assoc, arith, inl, inr}
use Rattle.std.specs.Int.{Width, w16, w32, w64, byte_len, from_be_bytes, to_be_bytes}
use Rattle.std.proofs.lemmas.Bool.{cases_lt, ltb-false, le-ltb}
use Rattle.std.proofs.lemmas.List.{take_at, drop_at, take-append-drop, length-append, length-take, get_or-drop, get_or-take, get_or_past}
use Rattle.std.proofs.lemmas.Option.{some_pair_parts}
use Rattle.std.proofs.lemmas.Nat.{be_bytes_2, be_bytes_4, be_bytes_8, from_be_bytes-to_be_bytes_2, from_be_bytes-to_be_bytes_4, from_be_bytes-to_be_bytes_8}
use Rattle.amqp_value.specs.declared.code.SizeWidth.{SizeWidth}
use Rattle.amqp_value.specs.declared.code.SizeWidth.TheVariants.{One, Four}
use Rattle.amqp_value.specs.Code.{octets, limit, block}
use Rattle.amqp_value.specs.Reading.{◌>>=◌, Parse, byte_at, number_at, bytes_at, size_at, block_at}

abbrev pub IsBytes : List ℕ → Type 0
IsBytes bytes = (i : ℕ) → get_or bytes i 0 < 256

IsBytes-drop : (n : ℕ) (bytes : List ℕ) → IsBytes bytes → IsBytes (drop n bytes)
IsBytes-drop n bytes h i = rw get_or-drop (h (n + i))

IsBytes-take : (n : ℕ) (bytes : List ℕ) → IsBytes bytes → IsBytes (take n bytes)
IsBytes-take n bytes h i =
    elim (cases_lt i n) [
      | inl lt ↦ rw (get_or-take n bytes i 0 lt) (h i)
      | inr le ↦ rw (get_or_past (take n bytes) i 0 (omega (arith, length-take n bytes))) (omega arith)
    ]

pub bind_some : {A B : Type 0} (r : Option A) (f : A → Option B) (y : B) → (r >>= f) ≡ Some y → (x : A) × (r ≡ Some x) × (f x ≡ Some y)
bind_some (Some x) f y e = (x, refl, e)
bind_some None f y e = absurd cc

pub guard_none : {A : Type 0} (b : Bool) (x y : A) → cond b None (Some x) ≡ Some y → (b ≡ false) × (x ≡ y)
guard_none true x y e = absurd cc
guard_none false x y e = (refl, cc)

pub some_is : {A : Type 0} (x y : A) → ◌≡◌ {A = Option A} (Some x) (Some y) → x ≡ y
some_is x y e = cc

-- what a reader took from the front
pub record Takes (bytes text rest : List ℕ) : Type 0 where
  pub parts : bytes ≡ text ++ rest
  pub rest_fits : IsBytes rest

-- ---- bytes

pub byte_takes : (bytes : List ℕ) (n : ℕ) (rest : List ℕ) → IsBytes bytes → byte_at bytes ≡ Some (n, rest) → Takes bytes (n ∷ []) rest × (n < 256)
byte_takes [] n rest fits e = absurd cc
byte_takes (b ∷ bytes) n rest fits e =
    let pq = some_pair_parts b n bytes rest e in
    let p = pq.0 in
    let q = pq.1 in
    (record { parts = rw (p, q) refl; rest_fits = rw (← q) (λ i. fits (suc i)) }, rw (← p) (fits 0))

pub bytes_takes : (k : ℕ) (bytes s rest : List ℕ) → IsBytes bytes → bytes_at k bytes ≡ Some (s, rest) → Takes bytes s rest × (length s ≡ k) × IsBytes s
bytes_takes k bytes s rest fits e =
    let g = guard_none (ltb (length bytes) k) (take k bytes, drop k bytes) (s, rest) e in
    let long : k ≤ length bytes = ltb-false _ _ g.0 in
    let s-is : take k bytes ≡ s = ap (λ (p : List ℕ × List ℕ). p.0) g.1 in
    let rest-is : drop k bytes ≡ rest = ap (λ (p : List ℕ × List ℕ). p.1) g.1 in (
      record { parts = rw (← s-is, ← rest-is) (sym (take-append-drop k bytes)); rest_fits = rw (← rest-is) (IsBytes-drop k bytes fits) },
      rw (← s-is) (omega (arith, length-take k bytes)),
      rw (← s-is) (IsBytes-take k bytes fits),
    )

pub bytes_length : (k : ℕ) (bytes s rest : List ℕ) → bytes_at k bytes ≡ Some (s, rest) → length s ≡ k
bytes_length k bytes s rest e =
    let g = guard_none (ltb (length bytes) k) (take k bytes, drop k bytes) (s, rest) e in
    let long : k ≤ length bytes = ltb-false _ _ g.0 in
    let s-is : take k bytes ≡ s = ap (λ (p : List ℕ × List ℕ). p.0) g.1 in
    rw (← s-is) (omega (arith, length-take k bytes))

pub bytes_again : (s rest : List ℕ) → bytes_at (length s) (s ++ rest) ≡ Some (s, rest)
bytes_again s rest =
    let long : ltb (length (s ++ rest)) (length s) ≡ false = le-ltb _ _ (omega (arith, length-append s rest)) in
    rw (long, take_at s rest (length s) refl, drop_at s rest (length s) refl) refl

-- ---- numbers

pub record IsWide (w : Width) (limit : ℕ) : Type 0 where
  pub len : (n : ℕ) → length (to_be_bytes w n) ≡ byte_len w
  pub back : (bytes : List ℕ) → length bytes ≡ byte_len w → IsBytes bytes → to_be_bytes w (from_be_bytes w bytes) ≡ bytes
  pub again : (n : ℕ) → n < limit → from_be_bytes w (to_be_bytes w n) ≡ n
  pub below : (bytes : List ℕ) → IsBytes bytes → from_be_bytes w bytes < limit

pub wide16 : IsWide w16 (2 ^ 16)
wide16 = record {
  len = λ n. refl;
  back = λ bytes len fits. be_bytes_2 bytes _ len fits refl;
  again = λ n lt. from_be_bytes-to_be_bytes_2 n lt;
  below = λ bytes fits. omega (arith, fits 0, fits 1);
}

pub wide32 : IsWide w32 (2 ^ 32)
wide32 = record {
  len = λ n. refl;
  back = λ bytes len fits. be_bytes_4 bytes _ len fits refl;
  again = λ n lt. from_be_bytes-to_be_bytes_4 n lt;
  below = λ bytes fits. omega (arith, fits 0, fits 1, fits 2, fits 3);
}

pub wide64 : IsWide w64 (2 ^ 64)
wide64 = record {
  len = λ n. refl;
  back = λ bytes len fits. be_bytes_8 bytes _ len fits refl;
  again = λ n lt. from_be_bytes-to_be_bytes_8 n lt;
  below = λ bytes fits. omega (arith, fits 0, fits 1, fits 2, fits 3, fits 4, fits 5, fits 6, fits 7);
}

pub number_takes : (w : Width) (limit : ℕ) (wide : IsWide w limit) (bytes : List ℕ) (n : ℕ) (rest : List ℕ) → IsBytes bytes → number_at w bytes ≡ Some (n, rest) → Takes bytes (to_be_bytes w n) rest × (n < limit)
number_takes w limit wide bytes n rest fits e =
    let g = guard_none (ltb (length bytes) (byte_len w)) (from_be_bytes w (take (byte_len w) bytes), drop (byte_len w) bytes) (n, rest) e in
    let long : byte_len w ≤ length bytes = ltb-false _ _ g.0 in
    let n-is : from_be_bytes w (take (byte_len w) bytes) ≡ n = ap (λ (p : ℕ × List ℕ). p.0) g.1 in
    let rest-is : drop (byte_len w) bytes ≡ rest = ap (λ (p : ℕ × List ℕ). p.1) g.1 in
    let front : to_be_bytes w n ≡ take (byte_len w) bytes = rw (← n-is) (wide.back (take (byte_len w) bytes) (omega (arith, length-take (byte_len w) bytes)) (IsBytes-take (byte_len w) bytes fits)) in
    (record { parts = rw (front, ← rest-is) (sym (take-append-drop (byte_len w) bytes)); rest_fits = rw (← rest-is) (IsBytes-drop (byte_len w) bytes fits) }, rw (← n-is) (wide.below (take (byte_len w) bytes) (IsBytes-take (byte_len w) bytes fits)))

pub number_again : (w : Width) (limit : ℕ) (wide : IsWide w limit) (n : ℕ) (rest : List ℕ) → n < limit → number_at w (to_be_bytes w n ++ rest) ≡ Some (n, rest)
number_again w limit wide n rest lt =
    let len = wide.len n in
    let long : ltb (length (to_be_bytes w n ++ rest)) (byte_len w) ≡ false = le-ltb _ _ (omega (arith, length-append (to_be_bytes w n) rest)) in
    rw (long, take_at (to_be_bytes w n) rest (byte_len w) len, drop_at (to_be_bytes w n) rest (byte_len w) len, wide.again n lt) refl

-- ---- sizes: how they are read, and how they are written

pub record IsLength (count_at : Parse ℕ) (written : ℕ → List ℕ) (limit : ℕ) : Type 0 where
  pub takes : (bytes : List ℕ) (n : ℕ) (rest : List ℕ) → IsBytes bytes → count_at bytes ≡ Some (n, rest) → Takes bytes (written n) rest × (n < limit)
  pub again : (n : ℕ) (rest : List ℕ) → n < limit → count_at (written n ++ rest) ≡ Some (n, rest)

abbrev one_byte : ℕ → List ℕ
one_byte n = n ∷ []

length8 : IsLength byte_at one_byte 256
length8 = record { takes = byte_takes; again = λ n rest lt. refl }

length32 : IsLength (number_at w32) (to_be_bytes w32) (2 ^ 32)
length32 = record { takes = number_takes w32 (2 ^ 32) wide32; again = number_again w32 (2 ^ 32) wide32 }

-- a size or a count
pub sizes : (w : SizeWidth) → IsLength (size_at w) (octets w) (limit w)
unfolding size_at
sizes One = length8
sizes Four = length32

-- ---- blocks

-- a block that was taken from the front
pub record TookBlock (w : SizeWidth) (bytes s rest : List ℕ) : Type 0 where
  pub takes : Takes bytes (block w s) rest
  pub short : length s < limit w
  pub fits : IsBytes s

pub block_takes : (w : SizeWidth) (bytes : List ℕ) (x : List ℕ × List ℕ) → IsBytes bytes → block_at w bytes ≡ Some x → TookBlock w bytes x.0 x.1
unfolding block_at
block_takes w bytes x fits e =
    let a = bind_some (size_at w bytes) (λ n. bytes_at n.0 n.1) x e in
    let t = (sizes w).takes bytes a.0.0 a.0.1 fits a.1 in
    let u = bytes_takes a.0.0 a.0.1 x.0 x.1 t.0.rest_fits a.2 in
    record {
      takes = record { parts = rw u.1 (t.0.parts ∙ ap (λ (z : List ℕ). octets w a.0.0 ++ z) u.0.parts ∙ sym (append_assoc (octets w a.0.0) x.0 x.1)); rest_fits = u.0.rest_fits };
      short = omega (arith, u.1, t.1);
      fits = u.2;
    }

pub block_again : (w : SizeWidth) (s rest : List ℕ) → length s < limit w → block_at w (block w s ++ rest) ≡ Some (s, rest)
unfolding block_at
block_again w s rest lt =
    ap (λ (z : List ℕ). size_at w z >>= λ n. bytes_at n.0 n.1) (append_assoc (octets w (length s)) s rest) ∙ rw ((sizes w).again (length s) (s ++ rest) lt) (bytes_again s rest)
