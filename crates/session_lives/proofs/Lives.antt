-- Steps of one session, one behind the other.
use Rattle.std.specs.Prelude.{◌≡◌, List, [], ◌∷◌, ◌++◌, Option, Some, None, refl}
use Rattle.std.proofs.Common.{sym, ◌∙◌, ap, subst, append_assoc}
use Rattle.std.proofs.lemmas.List.{append-nil}
use Rattle.amqp_composites.specs.declared.error.Error.{Error as AmqpError}
use Rattle.amqp_frames.specs.declared.shared.LinkFrame.{LinkFrame}
use Rattle.amqp_frames.specs.declared.shared.SessionStopReason.{SessionStopReason}
use Rattle.amqp_session.specs.declared.session.LinkInput.{LinkInput}
use Rattle.amqp_session.specs.declared.session.LinkInput.TheVariants.{Over}
use Rattle.amqp_session.specs.State.{State, Framed}
use Rattle.amqp_sessions.specs.Parts.{EndpointState}
use Rattle.session_laws.specs.Holding.{Move, tells, hears, ends, refuses, stops, hands_frame, hands_input, after, after_all, handed, handed_all}
use Rattle.session_laws.specs.Handing.{taken_by, heard_by, heard}
use Rattle.session_lives.specs.Lives.{Step, Makes, Closes, moves, told_by, told, given, Share, nothing, both, share_of, Lives}
use Rattle.session_lives.specs.Logs.{Fate}

moves_more : (xs ys : List Step) → moves (xs ++ ys) ≡ moves xs ++ moves ys
moves_more [] ys = refl
moves_more (Makes m ∷ xs) ys = ap (λ ms. m ∷ ms) (moves_more xs ys)
moves_more (Closes ∷ xs) ys = moves_more xs ys

after_more : (s : State) (ms ns : List Move) → after_all s (ms ++ ns) ≡ after_all (after_all s ms) ns
after_more s [] ns = refl
after_more s (m ∷ ms) ns = after_more (after s m) ms ns

heard_more : (ms ns : List Move) → heard (ms ++ ns) ≡ heard ms ++ heard ns
heard_more [] ns = refl
heard_more (m ∷ ms) ns = ap (λ xs. heard_by m ++ xs) (heard_more ms ns) ∙ sym (append_assoc (heard_by m) (heard ms) (heard ns))

told_more : (ms ns : List Move) → told (ms ++ ns) ≡ told ms ++ told ns
told_more [] ns = refl
told_more (m ∷ ms) ns = ap (λ xs. told_by m ++ xs) (told_more ms ns) ∙ sym (append_assoc (told_by m) (told ms) (told ns))

wrote_more : (s : State) (ms ns : List Move) → handed_all s (ms ++ ns) ≡ handed_all s ms ++ handed_all (after_all s ms) ns
wrote_more s [] ns = refl
wrote_more s (m ∷ ms) ns =
    let t = after s m in
    ap (λ xs. handed s m ++ xs) (wrote_more t ms ns) ∙ sym (append_assoc (handed s m) (handed_all t ms) (handed_all (after_all t ms) ns))

given_more : (s : State) (xs ys : List Step) → given s (xs ++ ys) ≡ given s xs ++ given (after_all s (moves xs)) ys
given_more s [] ys = refl
given_more s (Makes m ∷ xs) ys =
    let t = after s m in
    ap (λ zs. taken_by s m ++ zs) (given_more t xs ys) ∙ sym (append_assoc (taken_by s m) (given t xs) (given (after_all t (moves xs)) ys))
given_more s (Closes ∷ xs) ys = ap (λ zs. Over ∷ zs) (given_more s xs ys)

share_more : (s : State) (xs ys : List Step) → share_of s (xs ++ ys) ≡ both (share_of s xs) (share_of (after_all s (moves xs)) ys)
share_more s xs ys =
    let ms = moves xs in
    let ns = moves ys in
    let h : heard (moves (xs ++ ys)) ≡ heard ms ++ heard ns = ap heard (moves_more xs ys) ∙ heard_more ms ns in
    let t : told (moves (xs ++ ys)) ≡ told ms ++ told ns = ap told (moves_more xs ys) ∙ told_more ms ns in
    let w : handed_all s (moves (xs ++ ys)) ≡ handed_all s ms ++ handed_all (after_all s ms) ns = ap (handed_all s) (moves_more xs ys) ∙ wrote_more s ms ns in
    let g : given s (xs ++ ys) ≡ given s xs ++ given (after_all s ms) ys = given_more s xs ys in
    λ i. record { heard = h i; told = t i; wrote = w i; gave = g i }

pub lives_as : (s : State) (a b : Share) (t : State) → a ≡ b → Lives s a t → Lives s b t
lives_as s a b t e p = record { steps = p.steps; behind = p.behind; share = sym e ∙ p.share }

pub lives_still : (s : State) → Lives s nothing s
lives_still s = record { steps = []; behind = refl; share = refl }

pub lives_then : (s t u : State) (a b : Share) → Lives s a t → Lives t b u → Lives s (both a b) u
lives_then s t u a b p q =
    record {
      steps = p.steps ++ q.steps;
      behind =
          q.behind ∙ (ap (λ x. after_all x (moves q.steps)) p.behind
          ∙ (sym (after_more s (moves p.steps) (moves q.steps)) ∙ sym (ap (after_all s) (moves_more p.steps q.steps))));
      share =
          ap (λ x. both x b) p.share
          ∙ (ap (λ x. both (share_of s p.steps) x) (q.share ∙ ap (λ x. share_of x q.steps) p.behind) ∙ sym (share_more s p.steps q.steps));
    }

-- ---- one move

abbrev pub hearing_share : Framed → Share
hearing_share x = record { heard = x ∷ []; told = []; wrote = []; gave = [] }

abbrev pub telling_share : LinkFrame → Share
telling_share x = record { heard = []; told = x ∷ []; wrote = []; gave = [] }

abbrev pub out_share : List Framed → List LinkInput → Share
out_share frames inputs = record { heard = []; told = []; wrote = frames; gave = inputs }

pub lives_hears : (x : Framed) (s : State) → Lives s (hearing_share x) (after s (hears x))
lives_hears x s = record { steps = Makes (hears x) ∷ []; behind = refl; share = refl }

pub lives_tells : (x : LinkFrame) (s : State) → Lives s (telling_share x) (after s (tells x))
lives_tells x s = record { steps = Makes (tells x) ∷ []; behind = refl; share = refl }

pub lives_ends : (e : Option AmqpError) (s : State) → Lives s nothing (after s (ends e))
lives_ends e s = record { steps = Makes (ends e) ∷ []; behind = refl; share = refl }

pub lives_refuses : (s : State) → Lives s nothing (after s refuses)
lives_refuses s = record { steps = Makes refuses ∷ []; behind = refl; share = refl }

pub lives_stops : (why : SessionStopReason) (s : State) → Lives s nothing (after s (stops why))
lives_stops why s = record { steps = Makes (stops why) ∷ []; behind = refl; share = refl }

pub lives_closes : (s : State) → Lives s (out_share [] (Over ∷ [])) s
lives_closes s = record { steps = Closes ∷ []; behind = refl; share = refl }

-- ---- all that it has is taken off

frames_out : (xs : List Framed) (s : State) → Lives (record s { output = xs }) (out_share xs []) (record s { output = [] })
frames_out [] s = lives_still (record s { output = [] })
frames_out (x ∷ xs) s =
    let a : State = record s { output = x ∷ xs } in
    let b : State = record s { output = xs } in
    let one : Lives a (out_share (x ∷ []) []) b = record { steps = Makes hands_frame ∷ []; behind = refl; share = refl } in
    lives_then a b (record s { output = [] }) (out_share (x ∷ []) []) (out_share xs []) one (frames_out xs s)

pub inputs_out : (xs : List LinkInput) (s : State) → Lives (record s { incoming = xs }) (out_share [] xs) (record s { incoming = [] })
inputs_out [] s = lives_still (record s { incoming = [] })
inputs_out (x ∷ xs) s =
    let a : State = record s { incoming = x ∷ xs } in
    let b : State = record s { incoming = xs } in
    let one : Lives a (out_share [] (x ∷ [])) b = record { steps = Makes hands_input ∷ []; behind = refl; share = refl } in
    lives_then a b (record s { incoming = [] }) (out_share [] (x ∷ [])) (out_share [] xs) one (inputs_out xs s)

pub lives_emptied : (s : State) → Lives s (out_share s.output s.incoming) (record s { output = []; incoming = [] })
lives_emptied s =
    let a : State = record s { output = [] } in
    let p = lives_then s a (record s { output = []; incoming = [] }) (out_share s.output []) (out_share [] s.incoming) (frames_out s.output s) (inputs_out s.incoming a) in
    lives_as s (both (out_share s.output []) (out_share [] s.incoming)) (out_share s.output s.incoming) (record s { output = []; incoming = [] }) (ap (λ xs. out_share xs s.incoming) (append-nil s.output)) p

-- ---- what has become of a session

pub fate_still : (o : Option EndpointState) → Fate o nothing o
fate_still None = refl
fate_still (Some e) = lives_still e.session

both_nothing : (a : Share) → both a nothing ≡ a
both_nothing a =
    let h : a.heard ++ [] ≡ a.heard = append-nil a.heard in
    let t : a.told ++ [] ≡ a.told = append-nil a.told in
    let w : a.wrote ++ [] ≡ a.wrote = append-nil a.wrote in
    let g : a.gave ++ [] ≡ a.gave = append-nil a.gave in
    λ i. record { heard = h i; told = t i; wrote = w i; gave = g i }

pub fate_then : (a b c : Option EndpointState) (x y : Share) → Fate a x b → Fate b y c → Fate a (both x y) c
fate_then None None None x y p q = ap (λ z. both z y) p ∙ q
fate_then None None (Some n) x y p q = absurd q
fate_then None (Some m) c x y p q = absurd p
fate_then (Some l) None None x y p q = (p.0, lives_as l.session x (both x y) p.0 (sym (both_nothing x) ∙ ap (λ z. both x z) (sym q)) p.1)
fate_then (Some l) None (Some n) x y p q = absurd q
fate_then (Some l) (Some m) None x y p q = (q.0, lives_then l.session m.session q.0 x y p q.1)
fate_then (Some l) (Some m) (Some n) x y p q = lives_then l.session m.session n.session x y p q

pub fate_as : (a b : Option EndpointState) (x y : Share) → x ≡ y → Fate a x b → Fate a y b
fate_as a b x y e p = subst (λ z. Fate a z b) e p
