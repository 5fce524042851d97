-- A session that the peer has begun takes no notice of Begins.
use Rattle.std.specs.Prelude.{◌≡◌, ℕ, Bool, true, false, List, [], ◌∷◌, ◌++◌, length, if◌then◌else◌, refl}
use Rattle.std.proofs.Common.{sym, ◌∙◌, ap, append_assoc}
use Rattle.std.proofs.lemmas.Grind.{flat_map-append}
use Rattle.amqp_frames.specs.declared.body.FrameBody.{FrameBody}
use Rattle.amqp_frames.specs.declared.body.FrameBody.TheVariants as b
use Rattle.amqp_parts.specs.declared.part.Part.{Part}
use Rattle.amqp_session.specs.declared.session.SessionState.{SessionState}
use Rattle.amqp_session.specs.declared.session.SessionState.TheVariants as state
use Rattle.amqp_session.specs.Frames.{heard_in}
use Rattle.amqp_session.specs.State.{State, Framed}
use Rattle.session_laws.specs.Handing.{heard_by, heard}
use Rattle.session_laws.specs.Holding.{Move, hears, after, after_all, handed, handed_all, written, transfers}
use Rattle.session_laws.specs.Messages.{transfer_in}
use Rattle.session_laws.specs.Speaking.{bodies}
use Rattle.session_lives.specs.Channels.{is_begun, IsJoined}
use Rattle.session_lives.proofs.Channels.{move_keeps}
use Rattle.window_laws.specs.Counting.{count}
use Rattle.window_laws.specs.Starting.{Start, session_of, read_at_first, reads, writes}
use Rattle.world_lives.specs.Hearing.{are}
use Rattle.world_lives.specs.WorldWindows.Keeping.{is_later}
use Rattle.world_lives.proofs.WorldWindows.Making.{after_more, handed_more}

-- the moves but those that hear a Begin
abbrev pub if_later : Framed → List Move
if_later x = if is_later x.body then hears x ∷ [] else []

abbrev pub later_of : Move → List Move
later_of (hears x) = if_later x
later_of other = other ∷ []

abbrev pub later_moves : List Move → List Move
later_moves [] = []
later_moves (m ∷ ms) = later_of m ++ later_moves ms

-- ---- one that is heard

still : (p : SessionState) (channel : ℕ) (body : FrameBody) (s : State) → is_begun p ≡ true → is_later body ≡ false → (heard_in p (record { channel = channel; body = body }) s).state ≡ s
still state.BeginSent channel (b.Begin x) s e h = absurd cc
still state.Mapped channel (b.Begin x) s e h = refl
still state.EndSent channel (b.Begin x) s e h = refl
still state.Unmapped channel (b.Begin x) s e h = refl
still p channel other s e h = absurd cc

begin_still : (c : ℕ) (s : State) (x : Framed) → IsJoined c s → is_later x.body ≡ false → after s (hears x) ≡ s
begin_still c s x j h = still s.state x.channel x.body s j.1 h

-- ---- a session behind moves

record Same (s : State) (ms : List Move) : Type 0 where
  behind : after_all s (later_moves ms) ≡ after_all s ms
  gives : handed_all s (later_moves ms) ≡ handed_all s ms

-- one move more
same_more : (s : State) (m : Move) (ms : List Move) → Same (after s m) ms → (after_all (after s m) (later_moves ms) ≡ after_all s (m ∷ ms)) × (handed s m ++ handed_all (after s m) (later_moves ms) ≡ handed_all s (m ∷ ms))
same_more s m ms r = (r.behind, ap (λ xs. handed s m ++ xs) r.gives)

same : (c : ℕ) (s : State) (ms : List Move) → IsJoined c s → Same s ms
same c s [] j = record { behind = refl; gives = refl }
same c s (hears x ∷ ms) j = by (is_later x.body) refl (same c (after s (hears x)) ms ((move_keeps s (hears x)).joined c j))
  where
    begun : is_later x.body ≡ false → Same (after s (hears x)) ms → Same s (hears x ∷ ms)
    begun e r =
        let h = begin_still c s x j e in
        let l = later_moves ms in
        record {
          behind = ap (λ (ns : List Move). after_all s (ns ++ l)) (ap (λ (t : Bool). if t then hears x ∷ [] else []) e) ∙ (ap (λ (t : State). after_all t l) (sym h) ∙ r.behind);
          gives = ap (λ (ns : List Move). handed_all s (ns ++ l)) (ap (λ (t : Bool). if t then hears x ∷ [] else []) e) ∙ (ap (λ (t : State). handed_all t l) (sym h) ∙ r.gives);
        }

    by : (t : Bool) → is_later x.body ≡ t → Same (after s (hears x)) ms → Same s (hears x ∷ ms)
    by true e r =
        let l = later_moves ms in
        record {
          behind = ap (λ (ns : List Move). after_all s (ns ++ l)) (ap (λ (t : Bool). if t then hears x ∷ [] else []) e) ∙ r.behind;
          gives = ap (λ (ns : List Move). handed_all s (ns ++ l)) (ap (λ (t : Bool). if t then hears x ∷ [] else []) e) ∙ r.gives;
        }
    by false e r = begun e r
same c s (m ∷ ms) j = let k = same_more s m ms (same c (after s m) ms ((move_keeps s m).joined c j)) in record { behind = k.0; gives = k.1 }

-- ---- what it has heard

later_heard : (ms : List Move) → bodies (heard (later_moves ms)) ≡ are is_later (heard ms)
later_heard [] = refl
later_heard (hears x ∷ ms) = by (is_later x.body) (later_heard ms)
  where
    by : (t : Bool) → bodies (heard (later_moves ms)) ≡ are is_later (heard ms)
        → bodies (heard ((if t then hears x ∷ [] else []) ++ later_moves ms)) ≡ (if t then x.body ∷ [] else []) ++ are is_later (heard ms)
    by true e = ap (λ (xs : List FrameBody). x.body ∷ xs) e
    by false e = e
later_heard (m ∷ ms) = later_heard ms

-- no Transfer is a Begin
none_in : (body : FrameBody) → is_later body ≡ false → transfer_in body ≡ []
none_in (b.Begin x) e = refl
none_in other e = absurd cc

later_parts : (ms : List Move) → transfers (heard (later_moves ms)) ≡ transfers (heard ms)
later_parts [] = refl
later_parts (hears x ∷ ms) = by (is_later x.body) refl (later_parts ms)
  where
    by : (t : Bool) → is_later x.body ≡ t → transfers (heard (later_moves ms)) ≡ transfers (heard ms) → transfers (heard (if_later x ++ later_moves ms)) ≡ transfer_in x.body ++ transfers (heard ms)
    by true e r =
        ap (λ (ns : List Move). transfers (heard (ns ++ later_moves ms))) (ap (λ (t : Bool). if t then hears x ∷ [] else []) e) ∙ ap (λ (xs : List Part). transfer_in x.body ++ xs) r
    by false e r =
        ap (λ (ns : List Move). transfers (heard (ns ++ later_moves ms))) (ap (λ (t : Bool). if t then hears x ∷ [] else []) e)
        ∙ (r ∙ ap (λ (xs : List Part). xs ++ transfers (heard ms)) (sym (none_in x.body e)))
later_parts (m ∷ ms) = later_parts ms

-- ---- from its begin on

heard_more : (ms ns : List Move) → heard (ms ++ ns) ≡ heard ms ++ heard ns
heard_more [] ns = refl
heard_more (m ∷ ms) ns = ap (λ xs. heard_by m ++ xs) (heard_more ms ns) ∙ sym (append_assoc (heard_by m) (heard ms) (heard ns))

pub reads_more : (u : Start) (js ks : List Move) → reads u (js ++ ks) ≡ reads u js ++ heard ks
reads_more u js ks = ap (λ xs. read_at_first u ++ xs) (heard_more js ks) ∙ sym (append_assoc (read_at_first u) (heard js) (heard ks))

pub writes_more : (u : Start) (js ks : List Move) → writes u (js ++ ks) ≡ handed_all (session_of u) js ++ written (after_all (session_of u) js) ks
writes_more u js ks =
    let s = session_of u in
    let t = after_all s js in
    ap (λ (xs : List Framed). xs ++ (after_all s (js ++ ks)).output) (handed_more s js ks)
    ∙ (ap (λ (x : State). (handed_all s js ++ handed_all t ks) ++ x.output) (after_more s js ks) ∙ append_assoc (handed_all s js) (handed_all t ks) (after_all t ks).output)

-- what it writes is the same without the Begins that it hears
pub later_writes : (c : ℕ) (u : Start) (js ks : List Move) → IsJoined c (after_all (session_of u) js) → writes u (js ++ later_moves ks) ≡ writes u (js ++ ks)
later_writes c u js ks j =
    let t = after_all (session_of u) js in
    let r = same c t ks j in
    writes_more u js (later_moves ks)
    ∙ (ap (λ (xs : List Framed). handed_all (session_of u) js ++ xs) (ap (λ (xs : List Framed). xs ++ (after_all t (later_moves ks)).output) r.gives ∙ ap (λ (x : State). handed_all t ks ++ x.output) r.behind)
    ∙ sym (writes_more u js ks))

-- and so is how many Transfers it has read
pub later_count : (u : Start) (js ks : List Move) → count (reads u (js ++ later_moves ks)) ≡ count (reads u (js ++ ks))
later_count u js ks = ap length (parts (later_moves ks) ∙ (ap (λ (xs : List Part). transfers (reads u js) ++ xs) (later_parts ks) ∙ sym (parts ks)))
  where
    parts : (ls : List Move) → transfers (reads u (js ++ ls)) ≡ transfers (reads u js) ++ transfers (heard ls)
    parts ls = ap transfers (reads_more u js ls) ∙ flat_map-append (λ (x : Framed). transfer_in x.body) (reads u js) (heard ls)

bodies_more : (xs ys : List Framed) → bodies (xs ++ ys) ≡ bodies xs ++ bodies ys
bodies_more [] ys = refl
bodies_more (x ∷ xs) ys = ap (λ (zs : List FrameBody). x.body ∷ zs) (bodies_more xs ys)

pub later_bodies : (u : Start) (js ks : List Move) → bodies (reads u (js ++ later_moves ks)) ≡ bodies (reads u js) ++ are is_later (heard ks)
later_bodies u js ks =
    ap bodies (reads_more u js (later_moves ks)) ∙ (bodies_more (reads u js) (heard (later_moves ks)) ∙ ap (λ (zs : List FrameBody). bodies (reads u js) ++ zs) (later_heard ks))
