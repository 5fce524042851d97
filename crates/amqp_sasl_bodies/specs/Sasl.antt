-- The bodies of SASL frames: their fields, in the order of the standard (OASIS AMQP 1.0, part 5, section 5.3.3.1 and following).
use Rattle.std.specs.Prelude.{List, Option, Some, [], refl, ◌∷◌, ◌≡◌}
use Rattle.amqp_described.specs.amqp_data.Data.{Amqp, Items}
use Rattle.amqp_described.specs.amqp_fields.Fields.{binary_in, ends_at, field_at, maybe, of_binary, of_string, of_symbol, of_symbols, optional, string_in, symbol_in, symbols_in, trimmed, ◌>>=◌}
use Rattle.amqp_described.specs.amqp_fields.Again.{binary_field, each, field_ends, optional_is, required_is, string_field, symbol_field, symbols_field}
use Rattle.amqp_sasl_bodies.specs.declared.sasl.SaslMechanisms.{SaslMechanisms}
use Rattle.amqp_sasl_bodies.specs.declared.sasl.SaslInit.{SaslInit}
use Rattle.amqp_sasl_bodies.specs.declared.sasl.SaslChallenge.{SaslChallenge}
use Rattle.amqp_sasl_bodies.specs.declared.sasl.SaslResponse.{SaslResponse}
use Rattle.amqp_sasl_bodies.specs.declared.sasl.SaslOutcome.{SaslOutcome}
use Rattle.amqp_sasl_bodies.specs.SaslCode.{of_sasl_code, sasl_code_field, sasl_code_in}

-- the sasl-mechanisms that the fields say (part 5, section 5.3.3.1)
unfoldable pub sasl_mechanisms_of : Items → Option SaslMechanisms
sasl_mechanisms_of fields = do
  sasl_server_mechanisms ← symbols_in (field_at fields 0)
  no_more ← ends_at fields 1
  Some (record { sasl_server_mechanisms = sasl_server_mechanisms })

-- its fields, as they are written
abbrev pub sasl_mechanisms_fields : SaslMechanisms → List Amqp
sasl_mechanisms_fields x =
    of_symbols x.sasl_server_mechanisms ∷ []

abbrev pub IsSaslMechanismsValid : SaslMechanisms → Type 0
IsSaslMechanismsValid x = Unit {0}

pub sasl_mechanisms_again : (x : SaslMechanisms) → IsSaslMechanismsValid x → sasl_mechanisms_of (trimmed (sasl_mechanisms_fields x)) ≡ Some x
unfolding sasl_mechanisms_of
sasl_mechanisms_again x h = λ i. do
  sasl_server_mechanisms ← required_is symbols_field (sasl_mechanisms_fields x) 0 x.sasl_server_mechanisms refl tt i
  no_more ← field_ends (sasl_mechanisms_fields x) i
  Some (record { sasl_server_mechanisms = sasl_server_mechanisms })

-- the sasl-init that the fields say (part 5, section 5.3.3.2)
unfoldable pub sasl_init_of : Items → Option SaslInit
sasl_init_of fields = do
  mechanism ← symbol_in (field_at fields 0)
  initial_response ← optional binary_in (field_at fields 1)
  hostname ← optional string_in (field_at fields 2)
  no_more ← ends_at fields 3
  Some (record { mechanism = mechanism; initial_response = initial_response; hostname = hostname })

-- its fields, as they are written
abbrev pub sasl_init_fields : SaslInit → List Amqp
sasl_init_fields x =
    of_symbol x.mechanism ∷ maybe of_binary x.initial_response ∷ maybe of_string x.hostname ∷ []

abbrev pub IsSaslInitValid : SaslInit → Type 0
IsSaslInitValid x = Unit {0}

pub sasl_init_again : (x : SaslInit) → IsSaslInitValid x → sasl_init_of (trimmed (sasl_init_fields x)) ≡ Some x
unfolding sasl_init_of
sasl_init_again x h = λ i. do
  mechanism ← required_is symbol_field (sasl_init_fields x) 0 x.mechanism refl tt i
  initial_response ← optional_is binary_field (sasl_init_fields x) 1 x.initial_response refl (each x.initial_response) i
  hostname ← optional_is string_field (sasl_init_fields x) 2 x.hostname refl (each x.hostname) i
  no_more ← field_ends (sasl_init_fields x) i
  Some (record { mechanism = mechanism; initial_response = initial_response; hostname = hostname })

-- the sasl-challenge that the fields say (part 5, section 5.3.3.3)
unfoldable pub sasl_challenge_of : Items → Option SaslChallenge
sasl_challenge_of fields = do
  challenge ← binary_in (field_at fields 0)
  no_more ← ends_at fields 1
  Some (record { challenge = challenge })

-- its fields, as they are written
abbrev pub sasl_challenge_fields : SaslChallenge → List Amqp
sasl_challenge_fields x =
    of_binary x.challenge ∷ []

abbrev pub IsSaslChallengeValid : SaslChallenge → Type 0
IsSaslChallengeValid x = Unit {0}

pub sasl_challenge_again : (x : SaslChallenge) → IsSaslChallengeValid x → sasl_challenge_of (trimmed (sasl_challenge_fields x)) ≡ Some x
unfolding sasl_challenge_of
sasl_challenge_again x h = λ i. do
  challenge ← required_is binary_field (sasl_challenge_fields x) 0 x.challenge refl tt i
  no_more ← field_ends (sasl_challenge_fields x) i
  Some (record { challenge = challenge })

-- the sasl-response that the fields say (part 5, section 5.3.3.4)
unfoldable pub sasl_response_of : Items → Option SaslResponse
sasl_response_of fields = do
  response ← binary_in (field_at fields 0)
  no_more ← ends_at fields 1
  Some (record { response = response })

-- its fields, as they are written
abbrev pub sasl_response_fields : SaslResponse → List Amqp
sasl_response_fields x =
    of_binary x.response ∷ []

abbrev pub IsSaslResponseValid : SaslResponse → Type 0
IsSaslResponseValid x = Unit {0}

pub sasl_response_again : (x : SaslResponse) → IsSaslResponseValid x → sasl_response_of (trimmed (sasl_response_fields x)) ≡ Some x
unfolding sasl_response_of
sasl_response_again x h = λ i. do
  response ← required_is binary_field (sasl_response_fields x) 0 x.response refl tt i
  no_more ← field_ends (sasl_response_fields x) i
  Some (record { response = response })

-- the sasl-outcome that the fields say (part 5, section 5.3.3.5)
unfoldable pub sasl_outcome_of : Items → Option SaslOutcome
sasl_outcome_of fields = do
  code ← sasl_code_in (field_at fields 0)
  additional_data ← optional binary_in (field_at fields 1)
  no_more ← ends_at fields 2
  Some (record { code = code; additional_data = additional_data })

-- its fields, as they are written
abbrev pub sasl_outcome_fields : SaslOutcome → List Amqp
sasl_outcome_fields x =
    of_sasl_code x.code ∷ maybe of_binary x.additional_data ∷ []

abbrev pub IsSaslOutcomeValid : SaslOutcome → Type 0
IsSaslOutcomeValid x = Unit {0}

pub sasl_outcome_again : (x : SaslOutcome) → IsSaslOutcomeValid x → sasl_outcome_of (trimmed (sasl_outcome_fields x)) ≡ Some x
unfolding sasl_outcome_of
sasl_outcome_again x h = λ i. do
  code ← required_is sasl_code_field (sasl_outcome_fields x) 0 x.code refl tt i
  additional_data ← optional_is binary_field (sasl_outcome_fields x) 1 x.additional_data refl (each x.additional_data) i
  no_more ← field_ends (sasl_outcome_fields x) i
  Some (record { code = code; additional_data = additional_data })
