-- The bodies of frames as texts: a name, and each field that is there and is not its default, in the standard's order.
use Rattle.std.specs.Prelude.{◌≡◌, List, ℕ, [], ◌∷◌, ◌++◌, codes, Option, Some, None, Result, Ok, Err, Bool, true, false}
use Rattle.amqp_data.specs.Data.{Amqp, Items}
use Rattle.amqp_fields.specs.declared.error.BaseError.{BaseError}
use Rattle.amqp_fields.specs.declared.error.BaseError.TheVariants as errors
use Rattle.amqp_fields.specs.Fields.{trimmed}
use Rattle.amqp_composites.specs.declared.kind.CompositeKind.{CompositeKind}
use Rattle.amqp_composites.specs.declared.kind.CompositeKind.TheVariants as kind
use Rattle.amqp_performatives.specs.Attach.{attach_fields}
use Rattle.amqp_performatives.specs.Begin.{begin_fields}
use Rattle.amqp_performatives.specs.Close.{close_fields}
use Rattle.amqp_performatives.specs.Detach.{detach_fields}
use Rattle.amqp_performatives.specs.Disposition.{disposition_fields}
use Rattle.amqp_performatives.specs.End.{end_fields}
use Rattle.amqp_performatives.specs.Flow.{flow_fields}
use Rattle.amqp_performatives.specs.Open.{open_fields}
use Rattle.amqp_performatives.specs.Transfer.{transfer_fields}
use Rattle.amqp_frames.specs.declared.body.FrameBody.{FrameBody}
use Rattle.amqp_frames.specs.declared.body.FrameBody.TheVariants as b
use Rattle.amqp_sasl_bodies.specs.declared.sasl_body.SaslBody.{SaslBody}
use Rattle.amqp_sasl_bodies.specs.declared.sasl_body.SaslBody.TheVariants as s
use Rattle.amqp_sasl_bodies.specs.declared.sasl_code.SaslCode.{SaslCode}
use Rattle.amqp_sasl_bodies.specs.declared.sasl_code.SaslCode.TheVariants as code
use Rattle.amqp_sasl_bodies.specs.Sasl.{sasl_mechanisms_fields}
use Rattle.amqp_shown.specs.Bytes.{escaped, quoted}
use Rattle.amqp_shown.specs.Names.{kind_name, names_of}
use Rattle.amqp_shown.specs.Values.{fields_text}
use Rattle.amqp_lines.specs.Hidden.{init_text, response_text}

-- the name of a described list, and ` NAME=VALUE` for each of its fields that is no null
abbrev pub list_line : CompositeKind → Items → List ℕ
list_line k fields = kind_name k ++ fields_text (names_of k) 0 fields

-- the fields were made, and their line was added
abbrev pub AddsList : CompositeKind → Result Items BaseError → List ℕ → List ℕ → Type 0
AddsList k (Ok fields) old new = new ≡ old ++ list_line k fields
AddsList k (Err e) old new = ⊥

-- fields that were made, or for which memory was wanting
abbrev pub AreMade : Result Items BaseError → Type 0
AreMade (Ok fields) = Unit {0}
AreMade (Err (errors.Memory a)) = Unit {0}
AreMade (Err errors.Decode) = ⊥
AreMade (Err errors.Size) = ⊥

-- what a frame of AMQP says but for its payload (part 2, section 2.7); an empty one is a heartbeat (section 2.4.5)
abbrev pub body_text : FrameBody → List ℕ
body_text (b.Open x) = list_line kind.Open (trimmed (open_fields x))
body_text (b.Begin x) = list_line kind.Begin (trimmed (begin_fields x))
body_text (b.Attach x) = list_line kind.Attach (trimmed (attach_fields x))
body_text (b.Flow x) = list_line kind.Flow (trimmed (flow_fields x))
body_text (b.Transfer x payload) = list_line kind.Transfer (trimmed (transfer_fields x))
body_text (b.Disposition x) = list_line kind.Disposition (trimmed (disposition_fields x))
body_text (b.Detach x) = list_line kind.Detach (trimmed (detach_fields x))
body_text (b.End x) = list_line kind.End (trimmed (end_fields x))
body_text (b.Close x) = list_line kind.Close (trimmed (close_fields x))
body_text b.Empty = codes "heartbeat"

-- the names of the ends of a negotiation (part 5, section 5.3.3.6)
abbrev pub code_text : SaslCode → List ℕ
code_text code.Ok = codes "ok"
code_text code.Auth = codes "auth"
code_text code.Sys = codes "sys"
code_text code.SysPerm = codes "sys-perm"
code_text code.SysTemp = codes "sys-temp"

-- ` NAME="TEXT"`, where there is such a field
abbrev pub said_text : List ℕ → Option (List ℕ) → List ℕ
said_text name None = []
said_text name (Some text) = 32 ∷ name ++ 61 ∷ 34 ∷ text ++ 34 ∷ []

abbrev pub init_said : List ℕ → Option (List ℕ) → Option (List ℕ)
init_said mechanism None = None
init_said mechanism (Some response) = Some (init_text mechanism response)

abbrev pub escaped_said : Bool → Option (List ℕ) → Option (List ℕ)
escaped_said utf8 None = None
escaped_said utf8 (Some text) = Some (escaped utf8 text)

-- the mechanism that a client chooses
unfoldable pub mechanism_text : List ℕ → List ℕ
mechanism_text mechanism = codes "sasl-init mechanism=:" ++ escaped false mechanism

-- what a server asks
unfoldable pub challenge_text : List ℕ → List ℕ
challenge_text challenge = codes "sasl-challenge challenge=" ++ quoted false challenge

-- what a client answers
unfoldable pub answer_text : List ℕ → List ℕ
answer_text response = codes "sasl-response response=" ++ (34 ∷ (response_text response ++ 34 ∷ []))

-- how a negotiation ends
unfoldable pub end_text : SaslCode → List ℕ
end_text c = codes "sasl-outcome code=" ++ code_text c

-- what a SASL frame says (part 5, section 5.3.3)
abbrev pub sasl_text : SaslBody → List ℕ
sasl_text (s.Mechanisms x) = list_line kind.SaslMechanisms (trimmed (sasl_mechanisms_fields x))
sasl_text (s.Init x) = mechanism_text x.mechanism ++ said_text (codes "initial-response") (init_said x.mechanism x.initial_response) ++ said_text (codes "hostname") (escaped_said true x.hostname)
sasl_text (s.Challenge x) = challenge_text x.challenge
sasl_text (s.Response x) = answer_text x.response
sasl_text (s.Outcome x) = end_text x.code ++ said_text (codes "additional-data") (escaped_said false x.additional_data)
