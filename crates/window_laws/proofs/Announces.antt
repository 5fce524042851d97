-- The window that a session announces.
use Rattle.std.specs.Prelude.{◌≡◌, ℕ, refl}
use Rattle.amqp_frames.specs.declared.body.FrameBody.{FrameBody}
use Rattle.amqp_frames.specs.declared.body.FrameBody.TheVariants as b
use Rattle.window_laws.specs.Starting.{window, reads, writes}
use Rattle.window_laws.specs.Announcing.{Announces, AnnouncesItsWindow}
use Rattle.window_laws.specs.Counting.{InOrder}
use Rattle.window_laws.proofs.Walks.{View, IsPlain, Walks, lives}
use Rattle.window_laws.proofs.Orders.{Each, order_push, each_all, none_known}

record Named (size n : ℕ) (v : View) : Type 0 where
  stays : v.windows.incoming_window ≡ size
  named : InOrder (Each (Announces size)) 0 v.output

plain_named : (size : ℕ) (x : FrameBody) → IsPlain x → Announces size x
plain_named size (b.Begin x) h = absurd h
plain_named size (b.Flow x) h = absurd h
plain_named size other h = tt

names : (size : ℕ) → Walks (Each (λ x. Unit {0})) (Named size) (Named size)
names size = record {
  starts = λ n v h. h;
  drops = λ n v p e h. record { stays = h.stays; named = h.named };
  takes = λ n v e h. record { stays = h.stays; named = h.named };
  ends = λ n v p e h. record { stays = h.stays; named = h.named };
  says = λ n v x q h. record { stays = h.stays; named = order_push (Each (Announces size)) 0 v.output x h.named (plain_named size x.body q) };
  flows = λ n v channel x e h. record { stays = h.stays; named = order_push (Each (Announces size)) 0 v.output _ h.named h.stays };
  leaves = λ n v channel c x payload p h. record { stays = h.stays; named = order_push (Each (Announces size)) 0 v.output _ h.named tt };
  begun = λ n v x k h. record { stays = h.stays; named = h.named };
  flowed = λ n v x k e h. record { stays = h.stays; named = h.named };
}

pub announces_its_window : AnnouncesItsWindow
announces_its_window u js =
    let h = lives (Each (λ x. Unit {0})) (Named (window u)) (names (window u)) u js (λ channel remote. record { stays = refl; named = (refl, tt) }) (none_known 0 (reads u js)) in
    record { stays = h.stays; announced = each_all (Announces (window u)) 0 (writes u js) h.named }
