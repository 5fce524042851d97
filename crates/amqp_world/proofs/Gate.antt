-- Both ends wrote only what they may.
use Rattle.std.proofs.Common.{◌≡◌, List, sym, subst}
use Rattle.amqp_peer.specs.Gated.{IsGated}
use Rattle.amqp_words.specs.declared.step.End.{End}
use Rattle.amqp_words.specs.declared.step.End.TheVariants.{Client, Listener}
use Rattle.amqp_world.specs.History.{Event, wrote, read, calls, other}
use Rattle.amqp_world.specs.Gate.{Gate}

pub gate_of : (e f : End) (past : List Event) → other e ≡ f → IsGated (calls e past) (wrote e past) (read e past) → IsGated (calls f past) (wrote f past) (read f past) → Gate past
gate_of Client f past o near far Client = near
gate_of Client f past o near far Listener = subst (λ (y : End). IsGated (calls y past) (wrote y past) (read y past)) (sym o) far
gate_of Listener f past o near far Client = subst (λ (y : End). IsGated (calls y past) (wrote y past) (read y past)) (sym o) far
gate_of Listener f past o near far Listener = near
