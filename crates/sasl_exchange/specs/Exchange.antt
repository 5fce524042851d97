-- What becomes of a body that was read.
use Rattle.std.specs.Prelude.{Result, Ok, Err, None, ⊤}
use Rattle.amqp_sasl_bodies.specs.declared.sasl_code.SaslCode.{SaslCode}
use Rattle.sasl_exchange.specs.declared.error.NegotiationError.{NegotiationError}
use Rattle.sasl_exchange.specs.declared.error.NegotiationError.TheVariants.{SaslError}
use Rattle.sasl_exchange.specs.declared.exchange.Verdict.{Verdict}
use Rattle.sasl_exchange.specs.declared.exchange.Verdict.TheVariants.{Taken, Refused}

-- the body was taken, and a fact on that
abbrev pub OnTaken : {E : Type 0} → Result Verdict E → Type 0 → Type 0
OnTaken (Ok Taken) P = P
OnTaken (Ok (Refused e)) P = ⊤
OnTaken (Err e) P = ⊤

-- it was refused, and a fact on the error
abbrev pub OnRefused : {E : Type 0} → Result Verdict E → (NegotiationError → Type 0) → Type 0
OnRefused (Ok Taken) P = ⊤
OnRefused (Ok (Refused e)) P = P e
OnRefused (Err e) P = ⊤

-- the error of an end that told the other this outcome
abbrev pub refused_with : SaslCode → NegotiationError
refused_with code = SaslError code None
