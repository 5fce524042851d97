-- What was written of a body is read again.
use Rattle.std.proofs.Common.{◌≡◌, ℕ, List, sym, subst}
use Rattle.std.specs.Prelude.{Some, Result, Ok, Err, IfOk, OnOk}
use Rattle.amqp_described.specs.amqp_data.Data.{Items, list}
use Rattle.amqp_described.specs.amqp_value.Canonical.{canonical}
use Rattle.amqp_described.specs.amqp_fields.declared.error.BaseError.{BaseError}
use Rattle.amqp_described.specs.amqp_fields.Fields.{MakesItems, trimmed}
use Rattle.amqp_described.specs.Writing.{numbered}
use Rattle.amqp_described.specs.Bodies.{Puts}
use Rattle.amqp_performatives.specs.declared.performative.Performative.{Performative}
use Rattle.amqp_described.specs.amqp_composites.Kind.{number_of}
use Rattle.amqp_performatives.specs.Performative.{performative_in, kind_of_performative, performative_fields, IsPerformativeValid, read_again, performative_again}
use Rattle.amqp_frames.specs.declared.body.FrameBody.{FrameBody}
use Rattle.amqp_frames.specs.Body.{framed, SpellsBody, performative'}

-- the bytes spell the body
pub spells : (r : Result (List ℕ) BaseError) (fields : Result Items BaseError) (said : Performative) (payload : List ℕ) (body : FrameBody) → framed (read_again said) payload ≡ Some body → Puts r fields (number_of (kind_of_performative said)) payload → MakesItems (λ l. l) fields (trimmed (performative_fields said))
    → OnOk fields (IsPerformativeValid said)
    → IfOk r (λ bytes. SpellsBody bytes body)
spells (Ok bytes) (Ok vs) said payload body is p m valid =
    let n = number_of (kind_of_performative said) in
    let says = subst (λ (z : Items). performative_in (numbered n (list z)) ≡ Some (read_again said)) (sym m) (performative_again said valid) in
    subst (λ (z : List ℕ). SpellsBody z body) (sym p.text) (performative' (canonical (numbered n (list vs))) payload (numbered n (list vs)) (read_again said) body p.spelled p.fits.nests says is)
spells (Ok bytes) (Err e) said payload body is p m valid = absurd p
spells (Err e) fields said payload body is p m valid = tt
