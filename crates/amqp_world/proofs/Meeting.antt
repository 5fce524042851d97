-- Two ends of which one reads what the other wrote.
use Rattle.std.proofs.Common.{◌≡◌, List, ℕ, [], ◌∷◌, ◌++◌, Bool, true, false, if◌then◌else◌, length, take, drop, sym, ap, ◌∙◌, append_assoc}
use Rattle.std.proofs.lemmas.List.{take-append-drop}
use Rattle.amqp_words.specs.declared.call.Call as peer_call
use Rattle.amqp_words.specs.declared.reply.NamedReply.{NamedReply}
use Rattle.amqp_words.specs.declared.step.Act.{Act}
use Rattle.amqp_words.specs.declared.step.Act.TheVariants.{Take, TakeAll, Call}
use Rattle.amqp_peer.specs.Causes.{IsTied}
use Rattle.amqp_peer.specs.History.{Local, link_in, read_in, wrote_in}
use Rattle.amqp_peer.specs.Said.{HasSaid}
use Rattle.amqp_ends.specs.Honest.{AllHonest}
use Rattle.amqp_ends.specs.Joined.{IsCalm, Meets, NoneCloses}
use Rattle.amqp_world.specs.History.{Event, calls, called, is_same}
use Rattle.amqp_world.specs.Causes.{NobodyCloses}

-- what an end read, and what its link still holds, are the first bytes that the other wrote
pub meeting : (h far : List Local) (input output : List ℕ) (n : ℕ) → IsCalm (link_in h) → IsTied h → IsTied far → HasSaid far → read_in h ++ input ≡ take n output → output ≡ wrote_in far → Meets h far
meeting h far input output n calm tied far_tied far_said e o = record {
  calm = calm;
  tied = tied;
  far_tied = far_tied;
  far_said = far_said;
  left = input ++ drop n output;
  reads = sym (append_assoc (read_in h) input (drop n output)) ∙ ap (λ (u : List ℕ). u ++ drop n output) e ∙ take-append-drop n output ∙ o;
}

-- where nobody has called close, nobody had before

none_called : (act : Act) (name : ℕ) (cs : List (ℕ × peer_call.Call)) → NoneCloses (called act name cs) → NoneCloses cs
none_called (Take n) name cs c = c
none_called TakeAll name cs c = c
none_called (Call call) name cs c = c.1

none_if : (b : Bool) (act : Act) (name : ℕ) (cs : List (ℕ × peer_call.Call)) → NoneCloses (if b then called act name cs else cs) → NoneCloses cs
none_if true act name cs c = none_called act name cs c
none_if false act name cs c = c

pub nobody_before : (x : Event) (past : List Event) → NobodyCloses (x ∷ past) → NobodyCloses past
nobody_before x past n e = none_if (is_same e x.step.end) x.step.act (length past) (calls e past) (n e)

-- the last of such replies
pub honest_right : (rs ss : List NamedReply) → AllHonest (rs ++ ss) → AllHonest ss
honest_right [] ss a = a
honest_right (r ∷ rs) ss a = honest_right rs ss a.1
