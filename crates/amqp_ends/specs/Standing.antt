-- How an end stands once its step is over (OASIS AMQP 1.0, part 2, section 2.4).
use Rattle.std.specs.Prelude.{◌≡◌, ◌⊎◌, ◌≤◌, ◌+◌, ◌^◌, ℕ, List, [], length}
use Rattle.amqp_wire.specs.Events.{reads_in}
use Rattle.amqp_peer.specs.Causes.{BeginsWithOpen, EndsWithClose, IsBroken}
use Rattle.amqp_peer.specs.History.{Local, made_in, link_in, given_in, sent_in, wrote_in}
use Rattle.amqp_peer.specs.Layers.{layer_in, IsResting}
use Rattle.amqp_peer.specs.Rest.{OpenWaits, CloseWaits, HasWaiting, IsAllOut, RestsBehind}

-- a great many reads or frames: 2^62 or more
abbrev pub IsVast : List Local → Type 0
IsVast h = (2 ^ 62 ≤ reads_in (link_in h)) ⊎ (2 ^ 62 ≤ 1 + (length (given_in h) + length (sent_in h)))

-- Nothing was called there; its open or accept waits in the exchange of headers; it rests behind them; its connection is over by its Close,
-- which is written, or by a failure of the exchange of headers, or of its own Open, and no call waits; its transport failed; or a great
-- many frames came. `left` is what its link still holds for it: nothing, where it waits.
pub data Stands (h : List Local) (left : List ℕ) : Type 0 where
  uncalled : made_in h ≡ [] → wrote_in h ≡ [] → Stands h left
  in_headers : OpenWaits h → IsResting (layer_in (made_in h)) h → left ≡ [] → Stands h left
  behind : RestsBehind h → (CloseWaits h → BeginsWithOpen (given_in h)) → left ≡ [] → Stands h left
  parted : EndsWithClose (sent_in h) → IsAllOut h → (HasWaiting h → ⊥) → Stands h left
  refused : sent_in h ≡ [] → (HasWaiting h → ⊥) → Stands h left
  broken : IsBroken h → Stands h left
  vast : IsVast h → Stands h left
