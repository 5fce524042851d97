-- Calls that have a receiver go on otherwise (OASIS AMQP 1.0, part 2, section 2.6.7).
use Rattle.std.specs.Prelude.{ℕ, Option, Some, None}
use Rattle.amqp_link_calls.specs.Called.{Called, with_side}
use Rattle.amqp_link_calls.specs.Regulating.{regulates}
use Rattle.amqp_link_calls.specs.amqp_link_words.declared.regulation.Regulation.{Regulation}
use Rattle.amqp_links.specs.State.{State, with_link, answering}
use Rattle.amqp_links.specs.Taking.{taken_up}

-- the receiver answers, and what has become of the link is taken up
abbrev pub regulating_at : Option Called → ℕ → ℕ → Regulation → State → State
regulating_at None name link x s = s
regulating_at (Some l) name link x s =
    let m = regulates x l.side in taken_up link (answering name m.reply (with_link link (with_side m.side l) s))
