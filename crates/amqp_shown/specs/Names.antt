-- The names of the standard's described lists and of their fields, in their order (OASIS AMQP 1.0, parts 2 to 5).
use Rattle.std.specs.Prelude.{ℕ, List, [], ◌∷◌, codes, get_or}
use Rattle.amqp_composites.specs.declared.kind.CompositeKind.{CompositeKind}
use Rattle.amqp_composites.specs.declared.kind.CompositeKind.TheVariants as kind

-- the name of the list
abbrev pub kind_name : CompositeKind → List ℕ
kind_name kind.Open = codes "open"
kind_name kind.Begin = codes "begin"
kind_name kind.Attach = codes "attach"
kind_name kind.Flow = codes "flow"
kind_name kind.Transfer = codes "transfer"
kind_name kind.Disposition = codes "disposition"
kind_name kind.Detach = codes "detach"
kind_name kind.End = codes "end"
kind_name kind.Close = codes "close"
kind_name kind.Error = codes "error"
kind_name kind.Received = codes "received"
kind_name kind.Accepted = codes "accepted"
kind_name kind.Rejected = codes "rejected"
kind_name kind.Released = codes "released"
kind_name kind.Modified = codes "modified"
kind_name kind.Source = codes "source"
kind_name kind.Target = codes "target"
kind_name kind.Coordinator = codes "coordinator"
kind_name kind.Declared = codes "declared"
kind_name kind.TransactionalState = codes "transactional-state"
kind_name kind.SaslMechanisms = codes "sasl-mechanisms"
kind_name kind.SaslInit = codes "sasl-init"
kind_name kind.SaslChallenge = codes "sasl-challenge"
kind_name kind.SaslResponse = codes "sasl-response"
kind_name kind.SaslOutcome = codes "sasl-outcome"
kind_name kind.Header = codes "header"
kind_name kind.Properties = codes "properties"

-- the names of its fields
abbrev pub names_of : CompositeKind → List (List ℕ)
names_of kind.Open =
    codes "container-id" ∷ codes "hostname" ∷ codes "max-frame-size" ∷ codes "channel-max" ∷
    codes "idle-time-out" ∷ codes "outgoing-locales" ∷ codes "incoming-locales" ∷
    codes "offered-capabilities" ∷ codes "desired-capabilities" ∷ codes "properties" ∷ []
names_of kind.Begin =
    codes "remote-channel" ∷ codes "next-outgoing-id" ∷ codes "incoming-window" ∷ codes "outgoing-window" ∷
    codes "handle-max" ∷ codes "offered-capabilities" ∷ codes "desired-capabilities" ∷ codes "properties" ∷
    []
names_of kind.Attach =
    codes "name" ∷ codes "handle" ∷ codes "role" ∷ codes "snd-settle-mode" ∷ codes "rcv-settle-mode" ∷
    codes "source" ∷ codes "target" ∷ codes "unsettled" ∷ codes "incomplete-unsettled" ∷
    codes "initial-delivery-count" ∷ codes "max-message-size" ∷ codes "offered-capabilities" ∷
    codes "desired-capabilities" ∷ codes "properties" ∷ []
names_of kind.Flow =
    codes "next-incoming-id" ∷ codes "incoming-window" ∷ codes "next-outgoing-id" ∷ codes "outgoing-window" ∷
    codes "handle" ∷ codes "delivery-count" ∷ codes "link-credit" ∷ codes "available" ∷ codes "drain" ∷
    codes "echo" ∷ codes "properties" ∷ []
names_of kind.Transfer =
    codes "handle" ∷ codes "delivery-id" ∷ codes "delivery-tag" ∷ codes "message-format" ∷ codes "settled" ∷
    codes "more" ∷ codes "rcv-settle-mode" ∷ codes "state" ∷ codes "resume" ∷ codes "aborted" ∷
    codes "batchable" ∷ []
names_of kind.Disposition =
    codes "role" ∷ codes "first" ∷ codes "last" ∷ codes "settled" ∷ codes "state" ∷ codes "batchable" ∷ []
names_of kind.Detach = codes "handle" ∷ codes "closed" ∷ codes "error" ∷ []
names_of kind.End = codes "error" ∷ []
names_of kind.Close = codes "error" ∷ []
names_of kind.Error = codes "condition" ∷ codes "description" ∷ codes "info" ∷ []
names_of kind.Received = codes "section-number" ∷ codes "section-offset" ∷ []
names_of kind.Accepted = []
names_of kind.Rejected = codes "error" ∷ []
names_of kind.Released = []
names_of kind.Modified = codes "delivery-failed" ∷ codes "undeliverable-here" ∷ codes "message-annotations" ∷ []
names_of kind.Source =
    codes "address" ∷ codes "durable" ∷ codes "expiry-policy" ∷ codes "timeout" ∷ codes "dynamic" ∷
    codes "dynamic-node-properties" ∷ codes "distribution-mode" ∷ codes "filter" ∷ codes "default-outcome" ∷
    codes "outcomes" ∷ codes "capabilities" ∷ []
names_of kind.Target =
    codes "address" ∷ codes "durable" ∷ codes "expiry-policy" ∷ codes "timeout" ∷ codes "dynamic" ∷
    codes "dynamic-node-properties" ∷ codes "capabilities" ∷ []
names_of kind.Coordinator = codes "capabilities" ∷ []
names_of kind.Declared = codes "txn-id" ∷ []
names_of kind.TransactionalState = codes "txn-id" ∷ codes "outcome" ∷ []
names_of kind.SaslMechanisms = codes "sasl-server-mechanisms" ∷ []
names_of kind.SaslInit = codes "mechanism" ∷ codes "initial-response" ∷ codes "hostname" ∷ []
names_of kind.SaslChallenge = codes "challenge" ∷ []
names_of kind.SaslResponse = codes "response" ∷ []
names_of kind.SaslOutcome = codes "code" ∷ codes "additional-data" ∷ []
names_of kind.Header =
    codes "durable" ∷ codes "priority" ∷ codes "ttl" ∷ codes "first-acquirer" ∷ codes "delivery-count" ∷ []
names_of kind.Properties =
    codes "message-id" ∷ codes "user-id" ∷ codes "to" ∷ codes "subject" ∷ codes "reply-to" ∷
    codes "correlation-id" ∷ codes "content-type" ∷ codes "content-encoding" ∷ codes "absolute-expiry-time" ∷
    codes "creation-time" ∷ codes "group-id" ∷ codes "group-sequence" ∷ codes "reply-to-group-id" ∷ []

-- the name of the field at a place, from 0; behind the last there is none
abbrev pub name_at : List (List ℕ) → ℕ → List ℕ
name_at names i = get_or names i (codes "?")
