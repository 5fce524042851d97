-- Constructors are found by their bytes, and only by those.
use Rattle.std.proofs.Common.{◌≡◌, ℕ, Bool, true, false, cond, eqb, List, [], ◌∷◌, Option, Some, None, refl, ap, subst, ◌∙◌}
use Rattle.std.proofs.lemmas.Bool.{eqb-true}
use Rattle.std.proofs.lemmas.Option.{none-some}
use Rattle.amqp_data.specs.declared.kind.ElementKind.{ElementKind}
use Rattle.amqp_value.specs.declared.code.SizeWidth.TheVariants.{One, Four}
use Rattle.amqp_value.specs.declared.code.ScalarCode.{ScalarCode}
use Rattle.amqp_value.specs.declared.code.ScalarCode.TheVariants as c
use Rattle.amqp_value.specs.declared.code.Code.{Code}
use Rattle.amqp_value.specs.declared.code.Code.TheVariants as code
use Rattle.amqp_value.specs.Code.{scalar_number, number, all_scalars, scalar_among, find_scalar, all_compounds, as_code, code_among, find_code, code_kind}
use Rattle.amqp_value.specs.Reading.{◌>>=◌, byte_at, constructor_at, code_at}
use Rattle.amqp_value.proofs.Numbers.{IsBytes, bind_some, some_is, Takes, byte_takes}

-- ---- what is found has that byte

one_scalar : (n : ℕ) (m k : ScalarCode) (others : Option ScalarCode) (b : Bool) → (others ≡ Some k → n ≡ scalar_number k) → eqb n (scalar_number m) ≡ b → cond b (Some m) others ≡ Some k → n ≡ scalar_number k
one_scalar n m k others true h q f = eqb-true _ _ q ∙ ap scalar_number (some_is m k f)
one_scalar n m k others false h q f = h f

pub scalar_is : (cs : List ScalarCode) (n : ℕ) (k : ScalarCode) → scalar_among cs n ≡ Some k → n ≡ scalar_number k
scalar_is [] n k e = absurd (none-some k e)
scalar_is (m ∷ cs) n k e = one_scalar n m k (scalar_among cs n) (eqb n (scalar_number m)) (λ f. scalar_is cs n k f) refl e

one_code : (n : ℕ) (m k : Code) (others : Option Code) (b : Bool) → (others ≡ Some k → n ≡ number k) → eqb n (number m) ≡ b → cond b (Some m) others ≡ Some k → n ≡ number k
one_code n m k others true h q f = eqb-true _ _ q ∙ ap number (some_is m k f)
one_code n m k others false h q f = h f

as_code_is : (n : ℕ) (r : Option ScalarCode) (k : Code) → ((m : ScalarCode) → r ≡ Some m → n ≡ scalar_number m) → as_code r ≡ Some k → n ≡ number k
as_code_is n (Some m) k h e = h m refl ∙ ap number (some_is (code.Scalar m) k e)
as_code_is n None k h e = absurd (none-some k e)

code_is : (cs : List Code) (n : ℕ) (k : Code) → code_among cs n ≡ Some k → n ≡ number k
code_is [] n k e = as_code_is n (find_scalar n) k (λ m f. scalar_is all_scalars n m f) e
code_is (m ∷ cs) n k e = one_code n m k (code_among cs n) (eqb n (number m)) (λ f. code_is cs n k f) refl e

pub code_takes : (bytes : List ℕ) (x : Code × List ℕ) → IsBytes bytes → code_at bytes ≡ Some x → Takes bytes (number x.0 ∷ []) x.1
unfolding code_at
code_takes bytes x fits e =
    let a = bind_some (byte_at bytes) (λ b. find_code b.0 >>= λ m. Some (m, b.1)) x e in
    let b = bind_some (find_code a.0.0) (λ m. Some (m, a.0.1)) x a.2 in
    let t = byte_takes bytes a.0.0 a.0.1 fits a.1 in
    subst (λ (y : Code × List ℕ). Takes bytes (number y.0 ∷ []) y.1) (some_is (b.0, a.0.1) x b.2)
    (subst (λ (k : ℕ). Takes bytes (k ∷ []) a.0.1) (code_is all_compounds a.0.0 b.0 b.1) t.0)

-- the constructor of an array's elements that was taken
pub record TookConstructor (bytes : List ℕ) (c : ScalarCode) (k : ElementKind) (rest : List ℕ) : Type 0 where
  pub takes : Takes bytes (scalar_number c ∷ []) rest
  pub kind : code_kind c ≡ Some k

pub constructor_takes : (bytes : List ℕ) (x : (ScalarCode × ElementKind) × List ℕ) → IsBytes bytes → constructor_at bytes ≡ Some x → TookConstructor bytes x.0.0 x.0.1 x.1
unfolding constructor_at
constructor_takes bytes x fits e =
    let a = bind_some (byte_at bytes) (λ b. find_scalar b.0 >>= λ m. code_kind m >>= λ k. Some ((m, k), b.1)) x e in
    let b = bind_some (find_scalar a.0.0) (λ m. code_kind m >>= λ k. Some ((m, k), a.0.1)) x a.2 in
    let d = bind_some (code_kind b.0) (λ k. Some ((b.0, k), a.0.1)) x b.2 in
    let t = byte_takes bytes a.0.0 a.0.1 fits a.1 in
    subst (λ (y : (ScalarCode × ElementKind) × List ℕ). TookConstructor bytes y.0.0 y.0.1 y.1) (some_is ((b.0, d.0), a.0.1) x d.2)
    (record { takes = subst (λ (k : ℕ). Takes bytes (k ∷ []) a.0.1) (scalar_is all_scalars a.0.0 b.0 b.1) t.0; kind = d.1 })

-- ---- each constructor is found

find_scalar_number : (m : ScalarCode) → find_scalar (scalar_number m) ≡ Some m
find_scalar_number c.Null = refl
find_scalar_number c.True = refl
find_scalar_number c.False = refl
find_scalar_number c.Boolean = refl
find_scalar_number c.Ubyte = refl
find_scalar_number c.Ushort = refl
find_scalar_number c.Uint0 = refl
find_scalar_number c.SmallUint = refl
find_scalar_number c.Uint = refl
find_scalar_number c.Ulong0 = refl
find_scalar_number c.SmallUlong = refl
find_scalar_number c.Ulong = refl
find_scalar_number c.Byte = refl
find_scalar_number c.Short = refl
find_scalar_number c.SmallInt = refl
find_scalar_number c.Int = refl
find_scalar_number c.SmallLong = refl
find_scalar_number c.Long = refl
find_scalar_number c.Char = refl
find_scalar_number c.Timestamp = refl
find_scalar_number c.Uuid = refl
find_scalar_number (c.Binary One) = refl
find_scalar_number (c.Binary Four) = refl
find_scalar_number (c.String One) = refl
find_scalar_number (c.String Four) = refl
find_scalar_number (c.Symbol One) = refl
find_scalar_number (c.Symbol Four) = refl

find_code_scalar : (m : ScalarCode) → find_code (scalar_number m) ≡ Some (code.Scalar m)
find_code_scalar c.Null = refl
find_code_scalar c.True = refl
find_code_scalar c.False = refl
find_code_scalar c.Boolean = refl
find_code_scalar c.Ubyte = refl
find_code_scalar c.Ushort = refl
find_code_scalar c.Uint0 = refl
find_code_scalar c.SmallUint = refl
find_code_scalar c.Uint = refl
find_code_scalar c.Ulong0 = refl
find_code_scalar c.SmallUlong = refl
find_code_scalar c.Ulong = refl
find_code_scalar c.Byte = refl
find_code_scalar c.Short = refl
find_code_scalar c.SmallInt = refl
find_code_scalar c.Int = refl
find_code_scalar c.SmallLong = refl
find_code_scalar c.Long = refl
find_code_scalar c.Char = refl
find_code_scalar c.Timestamp = refl
find_code_scalar c.Uuid = refl
find_code_scalar (c.Binary One) = refl
find_code_scalar (c.Binary Four) = refl
find_code_scalar (c.String One) = refl
find_code_scalar (c.String Four) = refl
find_code_scalar (c.Symbol One) = refl
find_code_scalar (c.Symbol Four) = refl

find_number : (k : Code) → find_code (number k) ≡ Some k
find_number code.Described = refl
find_number code.EmptyList = refl
find_number (code.List One) = refl
find_number (code.List Four) = refl
find_number (code.Map One) = refl
find_number (code.Map Four) = refl
find_number (code.Array One) = refl
find_number (code.Array Four) = refl
find_number (code.Scalar m) = find_code_scalar m

pub code_again : (k : Code) (rest : List ℕ) → code_at (number k ∷ rest) ≡ Some (k, rest)
unfolding code_at
code_again k rest = rw (find_number k) refl

pub constructor_again : (c : ScalarCode) (k : ElementKind) (rest : List ℕ) → code_kind c ≡ Some k → constructor_at (scalar_number c ∷ rest) ≡ Some ((c, k), rest)
unfolding constructor_at
constructor_again c k rest e = rw (find_scalar_number c, e) refl
