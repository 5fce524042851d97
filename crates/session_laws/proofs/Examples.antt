-- Two ends that meet what the laws of messages, outcomes and credit ask of them.
use Rattle.std.specs.Prelude.{true, [], ◌∷◌, refl}
use Rattle.std.proofs.Common.{inl, inr, arith}
use Rattle.amqp_parts.specs.Cut.{cut_of, is_sized}
use Rattle.amqp_receiver.specs.Receiving.{taken}
use Rattle.amqp_session.specs.Hold.{releasing}
use Rattle.amqp_value.specs.Canonical.{canonical, canonical_scalar, laid}
use Rattle.session_laws.specs.Numbering.{leaves, covers}
use Rattle.session_laws.specs.Example.{mine, theirs, accepts, ruling, left, PathsAreMet}

pub paths_are_met : PathsAreMet
unfolding releasing cut_of is_sized canonical canonical_scalar laid taken
paths_are_met found = record {
  path = record {
    attached = refl;
    unsent = refl;
    unheld = refl;
    unwritten = refl;
    stays = (tt, (tt, (tt, (tt, (tt, tt)))));
    begun = refl;
    unhanded = refl;
    ready = record { attached = refl; waiting = refl; buffer = refl };
    mine = mine;
    theirs = theirs;
    sends_by = inl (true, refl);
    receives_by = inr (accepts, (0, (refl, refl)));
    untold = [];
    takes = refl;
    unheard = [];
    hears = refl;
    unread = [];
    reads = refl;
  };
  back = record {
    silent = (record { output = refl; orders = refl }, tt);
    unsaid = refl;
    takes = (inl refl, tt);
    unheard = [];
    hears = refl;
    unhanded = refl;
    unleft = refl;
    steps = leaves left ∷ covers ruling ∷ [];
    reads = (inr (inr (inl refl)), (inr (inr (inr (inl refl))), tt));
    short = (omega arith, ((omega arith, omega arith), tt));
    learns = (inl refl, tt);
    unsettled = refl;
    unknown = refl;
    apart = (tt, tt);
  };
  way = record {
    told = tt;
    orders = refl;
    unsaid = refl;
    takes = (inl refl, tt);
    unheard = [];
    hears = refl;
    unhanded = refl;
    learns = (inl refl, tt);
    credit = refl;
    short = (omega arith, (tt, (tt, tt)));
  };
  sends_one = refl;
  answers = ((omega arith, refl, refl, refl), tt);
  tells_outcome = refl;
}
