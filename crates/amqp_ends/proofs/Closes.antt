-- Where nobody calls close, nobody says a Close.
use Rattle.std.proofs.Common.{◌≡◌, inl, inr, true, ℕ, List, [], ◌∷◌, ◌++◌, Option, sym, subst}
use Rattle.std.specs.Prelude.{map}
use Rattle.amqp_performatives.specs.declared.close.Close.{Close}
use Rattle.amqp_composites.specs.declared.error.Error.{Error as AmqpError}
use Rattle.amqp_frames.specs.declared.body.FrameBody.{FrameBody}
use Rattle.amqp_frames.specs.declared.body.FrameBody.TheVariants as b
use Rattle.amqp_frames.specs.Session.{of_session}
use Rattle.amqp_transport.specs.declared.frames.Frame.{Frame}
use Rattle.amqp_engine.specs.Heard.{AllUnclosed}
use Rattle.amqp_engine.specs.Phases.{kind_of, IsClose}
use Rattle.amqp_transport.specs.Kinds.{amqp_again}
use Rattle.amqp_peer.specs.amqp_words.declared.call.Call.{Call}
use Rattle.amqp_peer.specs.declared.prepared.Prepared.{Prepared}
use Rattle.amqp_peer.specs.Causes.{prepared_in}
use Rattle.amqp_peer.specs.History.{Local, made_in, given_in, sent_in}
use Rattle.amqp_peer.specs.Said.{AllMiddle, IsMiddle, IsPlain, HasStray, IsSaidFor, HasSaid, HasClose, CloseCause, called, answers, mistaken, rejected}
use Rattle.amqp_ends.specs.Joined.{Meets, MeetsUnstrayed, NoneCloses}
use Rattle.amqp_ends.proofs.Hearing.{hears}
use Rattle.amqp_ends.proofs.Honesty.{tidy_given, other_first_not}
use Rattle.amqp_ends.proofs.Tidy.{IsTidy, again_kind}

-- ---- no Close among them

unclosed_first : (xs ys : List Frame) → AllUnclosed (xs ++ ys) → AllUnclosed xs
unclosed_first [] ys a = tt
unclosed_first (x ∷ xs) ys a = (a.0, unclosed_first xs ys a.1)

unclosed_again : (xs : List Frame) → AllUnclosed xs → AllUnclosed (map amqp_again xs)
unclosed_again [] a = tt
unclosed_again (x ∷ xs) a = (λ c. a.0 (subst IsClose (again_kind x.body) c), unclosed_again xs a.1)

-- what an end was given has none where the other said none
pub unclosed_given : (h far : List Local) → Meets h far → AllUnclosed (sent_in far) → AllUnclosed (given_in h)
unclosed_given h far m u =
    let s = hears h far m.left m.tied m.far_tied m.reads in
    subst AllUnclosed (sym s.items) (unclosed_again s.first (unclosed_first s.first s.others (subst AllUnclosed s.split u)))

close_among : (front more : List Frame) (channel : ℕ) (last : Close) → AllUnclosed (front ++ record { channel = channel; body = b.Close last } ∷ more) → ⊥
close_among [] more channel last a = a.0 tt
close_among (x ∷ front) more channel last a = close_among front more channel last a.1

pub closed_not : (given : List Frame) → AllUnclosed given → HasClose given → ⊥
closed_not given a c = close_among c.front c.more c.channel c.last (subst AllUnclosed c.is a)

-- ---- what is said

session_unclosed : (body : FrameBody) → of_session body ≡ true → IsClose (kind_of body) → ⊥
session_unclosed (b.Open x) t c = absurd (cc t)
session_unclosed (b.Close x) t c = absurd (cc t)
session_unclosed b.Empty t c = c
session_unclosed (b.Begin x) t c = c
session_unclosed (b.Attach x) t c = c
session_unclosed (b.Flow x) t c = c
session_unclosed (b.Transfer x y) t c = c
session_unclosed (b.Disposition x) t c = c
session_unclosed (b.Detach x) t c = c
session_unclosed (b.End x) t c = c

middle_unclosed : (x : Frame) → IsMiddle x → IsClose (kind_of x.body) → ⊥
middle_unclosed x (inl e) c = subst (λ (y : Frame). IsClose (kind_of y.body)) e c
middle_unclosed x (inr t) c = session_unclosed x.body t c

empty_unclosed : (xs : List Frame) → AllMiddle xs → AllUnclosed xs
empty_unclosed [] a = tt
empty_unclosed (x ∷ xs) a = (middle_unclosed x a.0, empty_unclosed xs a.1)

pub plain_unclosed : (p : Option Prepared) (sent : List Frame) → IsPlain p sent → AllUnclosed sent
plain_unclosed p sent s = subst AllUnclosed (sym s.is) (λ c. c, empty_unclosed s.more s.each)

cause_not : (calls : List (ℕ × Call)) (given : List Frame) (error : Option AmqpError) → NoneCloses calls → IsTidy given → (HasStray given → ⊥) → AllUnclosed given → CloseCause calls given error → ⊥
cause_not calls given error n t z a (called name condition earlier is e) = (subst NoneCloses is n).0 tt
cause_not calls given error n t z a (answers c e) = closed_not given a c
cause_not calls given error n t z a (mistaken o e) = other_first_not given t o
cause_not calls given error n t z a (rejected why s e) = z s.it

said_unclosed : (p : Option Prepared) (calls : List (ℕ × Call)) (given sent : List Frame) → NoneCloses calls → IsTidy given → (HasStray given → ⊥) → AllUnclosed given → IsSaidFor p calls given sent → AllUnclosed sent
said_unclosed p calls given sent n t z a (inl e) = subst AllUnclosed (sym e) tt
said_unclosed p calls given sent n t z a (inr (inl s)) = plain_unclosed p sent s
said_unclosed p calls given sent n t z a (inr (inr (front, error, s, e, cause))) = absurd (cause_not calls given error n t z a cause)

-- an end at which nobody called close says no Close to an end that said none
pub says_no_close : (h far : List Local) → MeetsUnstrayed h far → HasSaid h → NoneCloses (made_in h) → AllUnclosed (sent_in far) → AllUnclosed (sent_in h)
says_no_close h far m s n u = said_unclosed (prepared_in (made_in h)) (made_in h) (given_in h) (sent_in h) n (tidy_given h far m.meets) m.unstrayed (unclosed_given h far m.meets u) s
