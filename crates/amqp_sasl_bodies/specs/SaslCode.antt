-- How a SASL dialog ends (OASIS AMQP 1.0, part 5, section 5.3.3.6).
use Rattle.std.specs.Prelude.{◌≡◌, ℕ, Option, Some, None, refl, ◌==◌, if◌then◌else◌}
use Rattle.amqp_described.specs.amqp_data.Data.{Amqp, scalar, ubyte}
use Rattle.amqp_described.specs.amqp_fields.Again.{IsField, Each}
use Rattle.amqp_sasl_bodies.specs.declared.sasl_code.SaslCode.{SaslCode}
use Rattle.amqp_sasl_bodies.specs.declared.sasl_code.SaslCode.TheVariants as code

abbrev pub sasl_code_number : SaslCode → ℕ
sasl_code_number code.Ok = 0
sasl_code_number code.Auth = 1
sasl_code_number code.Sys = 2
sasl_code_number code.SysPerm = 3
sasl_code_number code.SysTemp = 4

abbrev pub sasl_code_in : Amqp → Option SaslCode
sasl_code_in (scalar (ubyte n)) =
    if n == 0 then Some code.Ok else if n == 1 then Some code.Auth else if n == 2 then Some code.Sys else if n == 3 then Some code.SysPerm else if n == 4 then Some code.SysTemp else None
sasl_code_in v = None

abbrev pub of_sasl_code : SaslCode → Amqp
of_sasl_code x = scalar (ubyte (sasl_code_number x))

pub sasl_code_again : (x : SaslCode) → Unit {0} → sasl_code_in (of_sasl_code x) ≡ Some x
sasl_code_again code.Ok h = refl
sasl_code_again code.Auth h = refl
sasl_code_again code.Sys h = refl
sasl_code_again code.SysPerm h = refl
sasl_code_again code.SysTemp h = refl

pub sasl_code_field : IsField sasl_code_in of_sasl_code Each
sasl_code_field = record { again = sasl_code_again; there = λ x. tt }
