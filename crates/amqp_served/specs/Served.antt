-- What becomes of a connection that is served.
use Rattle.std.specs.Prelude.{◌+◌, ◌-◌, ℕ, min, ⊤}
use Rattle.amqp_served.specs.declared.news.News.{News}
use Rattle.amqp_served.specs.declared.news.News.TheVariants as news
use Rattle.amqp_served.specs.declared.served.Act.{Act}
use Rattle.amqp_served.specs.declared.served.Act.TheVariants.{AcceptConnection, Settle, Finish}
use Rattle.amqp_served.specs.declared.served.Phase.{Phase}
use Rattle.amqp_served.specs.declared.served.Phase.TheVariants.{Opening, Open, Closed}

-- how many messages came, with what an answer says of one more; the count stands still at the last value of a u64
abbrev pub counted : News → ℕ → ℕ
counted news.Delivery n = min (n + 1) 18446744073709551615
counted _ n = n

-- how many messages were not accepted yet, with the call of an act
abbrev pub owed_made : Act → ℕ → ℕ
owed_made (Settle receiver delivery) n = n - 1
owed_made _ n = n

-- how far the connection is, with what an answer says
abbrev pub phase_after : News → Phase → Phase
phase_after news.Opened p = Open
phase_after news.Closed p = Closed
phase_after _ p = p

-- the same, with the call of an act
abbrev pub phase_made : Act → Phase → Phase
phase_made AcceptConnection p = Opening
phase_made _ p = p

-- there is something to be done yet
abbrev pub IsUnfinished : Act → Type 0
IsUnfinished Finish = ⊥
IsUnfinished _ = ⊤
