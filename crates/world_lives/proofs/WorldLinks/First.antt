-- Before the first Transfer of a link: what was written and what was read up to a moment.
use Rattle.std.specs.Prelude.{◌≡◌, ℕ, nat_eq, Bool, true, false, List, [], ◌∷◌, ◌++◌, refl}
use Rattle.std.proofs.Common.{inl, inr, sym, ◌∙◌, ap, subst}
use Rattle.std.proofs.lemmas.Bool.{eqb-true}
use Rattle.std.proofs.lemmas.Grind.{flat_map-append}
use Rattle.std.specs.List.{IsDistinct}
use Rattle.amqp_frames.specs.declared.shared.LinkFrame.{LinkFrame}
use Rattle.amqp_frames.specs.declared.shared.LinkFrame.TheVariants as frame
use Rattle.amqp_parts.specs.declared.part.Part.{Part}
use Rattle.session_laws.specs.Handing.{transfer_in as input_in, inputs}
use Rattle.session_laws.specs.Messages.{on as on_handle}
use Rattle.link_lives.specs.Deeds.{all_handed, part_told, parts_told}
use Rattle.session_lives.specs.Deeds.{Deed, Begins, Awaits, Accepts, Refuses, Ends, HandsOut, Halts, Concludes, Hears, Writes, Frees, Gives, Takes, Lacks, Tells, gave_in}
use Rattle.session_lives.specs.Logs.{own}
use Rattle.session_lives.proofs.Going.{own_more}
use Rattle.first_messages.proofs.Lists.{none_left, none_right}
use Rattle.first_messages.specs.Reading.{IsMadeOnce}
use Rattle.first_messages.specs.Writing as first
use Rattle.first_messages.specs.Writing.{given_in, parts_of}
use Rattle.first_messages.proofs.Unread as unread
use Rattle.first_messages.proofs.Unwritten as unwritten
use Rattle.world_lives.specs.EndLives.Ends.{taken_in}
use Rattle.world_lives.proofs.EndLives.Gone.{meant_by, meant, meant_parts}
use Rattle.world_lives.proofs.EndLives.Phases.{part_in, parts_given}
use Rattle.world_lives.specs.Lived.{Both, sessions_by, links_by}
use Rattle.world_lives.specs.Naming.{made_in}
use Rattle.world_lives.proofs.Calls.{names_are_new}
use Rattle.world_lives.proofs.Joins.{sessions_by_more}
use Rattle.world_lives.proofs.Naming.{IsFar, others, made_more, distinct_first, far_made, later_distinct}
use Rattle.world_lives.specs.WorldLinks.Starting.{NoneIsWritten, NoneIsRead}

-- ---- what links give a session

one_part : (x : LinkFrame) → first.part_in x ≡ part_in x
one_part (frame.Transfer x payload) = refl
one_part (frame.Attach x) = refl
one_part (frame.Flow x) = refl
one_part (frame.Disposition x covered) = refl
one_part (frame.Detach x) = refl

all_parts : (xs : List LinkFrame) → parts_of xs ≡ parts_given xs
all_parts [] = refl
all_parts (x ∷ xs) = ap (λ (ys : List Part). ys ++ parts_of xs) (one_part x) ∙ ap (λ (ys : List Part). part_in x ++ ys) (all_parts xs)

one_given : (n : ℕ) (d : Deed) → first.given_of n d ≡ meant_by n d
one_given n (Begins name x channel limit) = refl
one_given n (Accepts name x channel limit incoming) = refl
one_given n (Awaits name x) = refl
one_given n (Refuses name why) = refl
one_given n (Ends name session condition) = refl
one_given n (HandsOut name) = refl
one_given n (Halts why) = refl
one_given n (Concludes why) = refl
one_given n (Hears x) = refl
one_given n (Writes x) = refl
one_given n (Frees channel) = refl
one_given n (Gives session x) = refl
one_given n (Takes session x) = refl
one_given n (Lacks session) = refl
one_given n Tells = refl

all_given : (n : ℕ) (ds : List Deed) → given_in n ds ≡ meant n ds
all_given n [] = refl
all_given n (d ∷ ds) = ap (λ (xs : List LinkFrame). xs ++ given_in n ds) (one_given n d) ∙ ap (λ (xs : List LinkFrame). meant_by n d ++ xs) (all_given n ds)

given_parts : (n : ℕ) (ds : List Deed) → parts_of (given_in n ds) ≡ parts_told n (taken_in ds)
given_parts n ds = all_parts (given_in n ds) ∙ (ap parts_given (all_given n ds) ∙ sym (meant_parts n ds))

pub none_is_written : NoneIsWritten
none_is_written accepts all last end q c handle session own none =
    let ds = sessions_by q.before in
    let gave = all_handed (links_by q.before) in
    let split = ap (on_handle handle) (sym (flat_map-append (part_told session) gave q.links.output)) ∙ none in
    let given = none_left handle (parts_told session gave) (parts_told session q.links.output) split in
    let taken = ap (on_handle handle) (given_parts session ds ∙ ap (parts_told session) (sym q.came.taken)) ∙ given in
    let r = unwritten.none_is_written c handle session ds q.sessions q.came.sessions_did own taken in
    record {
      written = r.written;
      left = none_right handle (parts_told session gave) (parts_told session q.links.output) split;
      waits = r.waits;
      alone = r.alone;
    }

-- ---- what a session was made, once

module _ (n : ℕ) where
  by_name : (d : Deed) (name : ℕ) (ds : List Deed) → (nat_eq n name ≡ false → IsMadeOnce n (d ∷ ds)) → (n ≡ name → IsMadeOnce n (d ∷ ds)) → IsMadeOnce n (d ∷ ds)
  by_name d name ds apart itself = by (nat_eq n name) refl
    where
      by : (t : Bool) → nat_eq n name ≡ t → IsMadeOnce n (d ∷ ds)
      by true e = itself (eqb-true n name e)
      by false e = apart e

  made_once : (ds : List Deed) → IsDistinct nat_eq (made_in ds) → IsMadeOnce n ds
  made_once [] k = tt
  made_once (Begins name x channel limit ∷ ds) k =
      let rest = made_once ds (later_distinct name (made_in ds) k) in
      by_name (Begins name x channel limit) name ds (λ e. inl (e, rest)) (λ e. inr (others n ds (subst (λ (m : ℕ). IsFar (made_in ds) m) (sym e) (far_made name (made_in ds) k))))
  made_once (Accepts name x channel limit incoming ∷ ds) k =
      let rest = made_once ds (later_distinct name (made_in ds) k) in
      by_name (Accepts name x channel limit incoming) name ds (λ e. inl (e, rest)) (λ e. inr (others n ds (subst (λ (m : ℕ). IsFar (made_in ds) m) (sym e) (far_made name (made_in ds) k))))
  made_once (Awaits name x ∷ ds) k = inl (tt, made_once ds k)
  made_once (Refuses name why ∷ ds) k = inl (tt, made_once ds k)
  made_once (Ends name session condition ∷ ds) k = inl (tt, made_once ds k)
  made_once (HandsOut name ∷ ds) k = inl (tt, made_once ds k)
  made_once (Halts why ∷ ds) k = inl (tt, made_once ds k)
  made_once (Concludes why ∷ ds) k = inl (tt, made_once ds k)
  made_once (Hears x ∷ ds) k = inl (tt, made_once ds k)
  made_once (Writes x ∷ ds) k = inl (tt, made_once ds k)
  made_once (Frees channel ∷ ds) k = inl (tt, made_once ds k)
  made_once (Gives session x ∷ ds) k = inl (tt, made_once ds k)
  made_once (Takes session x ∷ ds) k = inl (tt, made_once ds k)
  made_once (Lacks session ∷ ds) k = inl (tt, made_once ds k)
  made_once (Tells ∷ ds) k = inl (tt, made_once ds k)

pub none_is_read : NoneIsRead
none_is_read accepts all last end p c handle w y once at is read =
    let here = names_are_new accepts all last end p once in
    let came = sessions_by p.before in
    let goes = sessions_by p.since in
    let names : made_in (sessions_by all) ≡ made_in came ++ made_in goes =
    ap (λ (xs : List Both). made_in (sessions_by xs)) (sym p.whole) ∙ (ap made_in (sessions_by_more p.before p.since) ∙ made_more came goes) in
    let distinct = distinct_first (made_in came) (made_in goes) (subst (λ (xs : List ℕ). IsDistinct nat_eq xs) names once.made) in
    let r = unread.none_is_read c handle w y came p.sessions p.came.sessions_did here.named.before (made_once w came distinct) at is read in
    let gave = gave_in came in
    let split = ap (on_handle handle) (sym (flat_map-append input_in (own w gave) (own w p.sessions.incoming)) ∙ ap inputs (sym (own_more w gave p.sessions.incoming))) ∙ r.gave in
    record { handed = r.handed; waits = none_right handle (inputs (own w gave)) (inputs (own w p.sessions.incoming)) split }
