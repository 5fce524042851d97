use Rattle.std.proofs.Common.{rules, ap}
use Rattle.indexmap.proofs.CallerLemmas.{filter-RetainsPairs}
use Rattle.amqp_sessions.specs.State.{seen}
use Rattle.amqp_sessions.proofs.sessions.Sessions.let_ends_go.Goals as goal

pub returns : goal.returns
returns c = ap (λ es. record (seen c.args.self.now) { endpoints = es }) (filter-RetainsPairs _ _ _ (λ k v b w g call. search rules) _ _ c.retain.ensures.filtered)
