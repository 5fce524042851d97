-- Where a step leaves both ends.
use Rattle.std.proofs.Common.{◌≡◌, ◌↔◌, ◌⊎◌, inl, inr, ◌+◌, ◌≤◌, List, ℕ, [], ◌∷◌, ◌++◌, true, false, length, take, refl, sym, ap, ◌∙◌, subst, arith, length-append}
use Rattle.std.proofs.lemmas.List.{take-append-le}
use Rattle.amqp_wire.specs.Piped.{Piped}
use Rattle.amqp_words.specs.declared.call.Call as peer_call
use Rattle.amqp_peer.specs.declared.peer.PeerKind.{PeerKind}
use Rattle.amqp_words.specs.declared.reply.NamedReply.{NamedReply}
use Rattle.amqp_peer.specs.History.{Local, made_in, link_in, replied_in, read_in, wrote_in, moment_in}
use Rattle.amqp_peer.specs.Calls.{IsValidCall}
use Rattle.amqp_peer.specs.Causes.{IsSpent, IsTakenUp}
use Rattle.amqp_peer.specs.Gated.{IsGated}
use Rattle.amqp_peer.specs.Layers.{layer_in}
use Rattle.amqp_peer.specs.Held.{IsActive, IsExchanged}
use Rattle.amqp_peer.specs.Peering.{Peering, Has, MayCall, fresh}
use Rattle.amqp_peer.specs.Replies.{AreReplies}
use Rattle.amqp_peer.specs.Runs.{Stepped}
use Rattle.amqp_peer.proofs.Settled.{sorted_of, blocked_full}
use Rattle.amqp_peer.proofs.Laws.{has_fresh, has_with_link, has_taken, link_of-fresh, may_law, replies_law, gated_law, gated_more, causes_law, beats_law, tied_law, said_law, taken_up_law, spent_law, exchanged_with_link, fresh_not_exchanged}
use Rattle.amqp_words.specs.declared.step.End.{End}
use Rattle.amqp_words.specs.declared.step.End.TheVariants.{Client, Listener}
use Rattle.amqp_words.specs.declared.step.Act.{Act}
use Rattle.amqp_words.specs.declared.step.Act.TheVariants.{Take, TakeAll, Call}
use Rattle.amqp_world.specs.History.{Event, wrote, taken, moved, read, calls, begun, replied, other, is_same}
use Rattle.amqp_world.specs.Valid.{IsValid, IsValidAct, kind_of}
use Rattle.amqp_ends.specs.Gates.{Agree, AllFair}
use Rattle.amqp_ends.specs.Honest.{AllHonest}
use Rattle.amqp_ends.specs.Joined.{Meets, NoneCloses}
use Rattle.amqp_ends.proofs.Closes.{says_no_close}
use Rattle.amqp_ends.proofs.Honesty.{honest_replies}
use Rattle.amqp_ends.specs.Quiet.{BeginsIn, AreOpposite}
use Rattle.amqp_ends.specs.Standing.{Stands, uncalled}
use Rattle.amqp_ends.specs.Passes.{AreAgreed, FacedWhenTold}
use Rattle.amqp_ends.specs.Wants.{AreStill}
use Rattle.amqp_ends.proofs.Faced.{faced_none}
use Rattle.amqp_ends.proofs.Passes.{both_through}
use Rattle.amqp_ends.proofs.QuietFew.{few_frames}
use Rattle.amqp_ends.proofs.Sizes.{never_refused}
use Rattle.amqp_ends.proofs.Streams.{meets_unsaid}
use Rattle.amqp_ends.proofs.Wants.{wants}
use Rattle.amqp_world.specs.Causes.{IsVast, Adds, NothingInFlight, AreAgreeing, IsHistoried, Histories}
use Rattle.amqp_world.specs.Explains.{Explains}
use Rattle.amqp_world.specs.Turn.{CanAct, Turned, piping, drained, given, marked, empty_pipe, pipe_of}
use Rattle.amqp_world.specs.Related.{Side, Sides}
use Rattle.amqp_world.proofs.Pipes.{calm_none, never_fills, pipe_emptied}
use Rattle.amqp_world.proofs.Growth.{wrote_near, wrote_far, taken_near, taken_far, calls_near, calls_far, replied_near, replied_far, follows_near, follows_far, replied_grown, wrote_grown, unsaid_grown}
use Rattle.amqp_world.proofs.Turns.{marked_link, stepped_mark, turned_wrote, turned_replied, turned_link}
use Rattle.amqp_world.proofs.Form.{form_of}
use Rattle.amqp_world.proofs.Nears.{grown_of, moved_to, near_ran, near_rests, near_read, near_made, near_calm, near_meets, fair_turn, faced_near, faced_far}
use Rattle.amqp_world.proofs.Waiting.{stands_near, begins_near, layer_law, answered_law}
use Rattle.amqp_world.proofs.Meeting.{meeting, nobody_before, honest_right}
use Rattle.amqp_world.proofs.Gate.{gate_of}

-- what a valid act moves is there
moved_within : (e f : End) (act : Act) (past : List Event) → other e ≡ f → IsValidAct e past act → taken e past ≤ length (wrote f past) → moved act (taken e past) (length (wrote f past)) ≤ length (wrote f past)
moved_within e f (Take n) past o v b = subst (λ (x : End). taken e past + n ≤ length (wrote x past)) o v
moved_within e f TakeAll past o v b = omega arith
moved_within e f (Call call) past o v b = b

-- an end that goes on has read all that came to it, unless there was a vast lot of it
kept_up : (near : Peering Piped) (far : Piped) (count : ℕ) (first : Local) (ran : Peering Piped) (h : List Local) (left : List ℕ) → left ≡ (pipe_of ran).input → (s : Stepped piping (given near far count) first ran) → Has ran h → IsActive ran.held ⊎ IsSpent h → ((left ≡ []) × IsTakenUp h) ⊎ (IsSpent h ⊎ IsVast s.events)
kept_up near far count first ran h left e s has (inr spent) = inr (inl spent)
kept_up near far count first ran h left e s has (inl active) = elim (s.settled active) [
  | inl a ↦ inl (
    e ∙ pipe_emptied (pipe_of (given near far count)) (pipe_of ran) (link_in s.events) (s.went empty_pipe) a.0,
    taken_up_law (moment_in (first ∷ [])) ran h has active
        (sorted_of (moment_in (first ∷ [])) ran.held s.events (never_fills (pipe_of (given near far count)) (pipe_of ran) (link_in s.events) (s.went empty_pipe)) a.1),
  )
  | inr a ↦ elim a [
    | inl f ↦ absurd (never_fills (pipe_of (given near far count)) (pipe_of ran) (link_in s.events) (s.went empty_pipe) (blocked_full ran.held s.events f))
    | inr v ↦ inr (inr v)
  ]
]

-- what an event begins at its end
abbrev begun_first : Event → List Event → Local
begun_first x past = begun x.step.at (length past) x.step.act

-- a side with this history
abbrev SideBy : (e f : End) → Peering Piped → List Event → List Local → Type 0
SideBy e f p past h = (s : Side e f p past) × (s.h ≡ h)

-- the end that made a step, whose history has the step's events
side_near : (e f : End) (x : Event) (past : List Event) (p q p' q' : Peering Piped) → is_same e x.step.end ≡ true → is_same f x.step.end ≡ false → other e ≡ f → IsValidAct e past x.step.act → (near : Side e f p past) → Side f e q past → (t : Turned p q (length past) x.step.at x.step.act p' q' x.entry) → SideBy e f p' (x ∷ past) (grown_of e f x past near t)
side_near e f x past p q p' q' n m o v near far t =
    let name : ℕ = length past in
    let es : List Local = t.stepped.events in
    let h' : List Local = es ++ begun x.step.at name x.step.act ∷ near.h in
    let W : List ℕ = wrote f past in
    let k : Piped = pipe_of q in
    let same : pipe_of p' ≡ pipe_of t.ran = turned_link p q p' q' name x.step.at x.step.act x.entry t in
    let to : k.mark + t.count ≡ moved x.step.act (taken e past) (length W) = moved_to e f past x.step.act q t.count far t.counted in
    let after : read e (x ∷ past) ≡ take (k.mark + t.count) k.output =
    ap (λ (y : End). take (taken e (x ∷ past)) (wrote y (x ∷ past))) o
    ∙ ap (λ (i : ℕ). take i (wrote f (x ∷ past))) (taken_near e x past n ∙ ap (λ (y : End). moved x.step.act (taken e past) (length (wrote y past))) o ∙ sym to)
    ∙ ap (λ (u : List ℕ). take (k.mark + t.count) u) (wrote_far f x past m ∙ sym far.output) in
    let output : (pipe_of p').output ≡ (pipe_of p).output ++ x.entry.wrote = ap (λ (z : Piped). z.output) same ∙ t.output in
    let mark : (pipe_of p').mark ≡ (pipe_of p).mark = ap (λ (z : Piped). z.mark) same ∙ stepped_mark p k t.count (begun x.step.at name x.step.act) t.ran t.stepped in
    let got : read_in h' ++ (pipe_of p').input ≡ read e (x ∷ past) = near_read e f x past p q p' q' o near far t ∙ sym after in
    let ran : Has t.ran h' = near_ran e f x past p q p' q' near t in
    let rests : IsExchanged t.ran.held → ⊥ = near_rests e f x past p q p' q' near t in
    let adds : Adds e x past near.h h' =
    record {
      inside = es;
      within = t.stepped.inside;
      is = refl;
      replies = turned_replied p q p' q' name x.step.at x.step.act x.entry t near.empty;
      writes = turned_wrote p q p' q' name x.step.at x.step.act x.entry t;
      left = (pipe_of p').input;
      reads = got;
      all = kept_up p k t.count (begun_first x past) t.ran h' (pipe_of p').input (ap (λ (z : Piped). z.input) same) t.stepped ran (spent_law t.ran h' ran rests);
    } in
    let made : made_in h' ≡ calls e (x ∷ past) = near_made e f x past p q p' q' n near t in
    let meets : Meets h' far.h = near_meets e f x past p q p' q' o near far t in (
      record {
        h = h';
        has = subst (λ (z : Peering Piped). Has z h') (sym t.near_end) (has_taken t.ran h' ran);
        made = made;
        follows = follows_near e x past near.h h' n adds near.follows;
        got = got;
        sent = wrote_grown es near.h x.step.at name x.step.act ∙ ap (λ (u : List ℕ). wrote_in near.h ++ u) (turned_wrote p q p' q' name x.step.at x.step.act x.entry t) ∙ ap (λ (u : List ℕ). u ++ x.entry.wrote) near.sent ∙ sym (wrote_near e x past n);
        answered = replied_grown es near.h x.step.at name x.step.act ∙ ap (λ (u : List NamedReply). replied_in near.h ++ u) (turned_replied p q p' q' name x.step.at x.step.act x.entry t near.empty) ∙ ap (λ (u : List NamedReply). u ++ x.entry.replies) near.answered ∙ sym (replied_near e x past n);
        calm = near_calm e f x past p q p' q' near t;
        unsaid = unsaid_grown es near.h x.step.at name x.step.act t.stepped.gathers.unsaid near.unsaid;
        unclosed = λ nobody. says_no_close h' far.h (meets_unsaid h' far.h meets far.unsaid) (said_law t.ran h' ran) (subst NoneCloses (sym made) (nobody e)) (far.unclosed (nobody_before x past nobody));
        stands = subst (λ (u : List ℕ). Stands h' u) (sym (ap (λ (z : Piped). z.input) same)) (stands_near (given p k t.count) t.ran x.step.at name x.step.act near.h t.stepped rests ran);
        begins = begins_near e x past (calls_near e x past n) near.begins v;
        output = output ∙ ap (λ (u : List ℕ). u ++ x.entry.wrote) near.output ∙ sym (wrote_near e x past n);
        mark = mark ∙ near.mark ∙ sym (taken_far f x past m);
        bound = let more : length (pipe_of p').output ≡ length (pipe_of p).output + length x.entry.wrote = ap length output ∙ length-append (pipe_of p).output x.entry.wrote in omega (arith, near.bound);
        empty = ap (λ (z : Peering Piped). z.replies) t.near_end;
        begun = λ z. rests (subst (λ (y : Peering Piped). IsExchanged y.held) t.near_end z);
        kind = ap (λ (z : Peering Piped). z.kind) t.near_end ∙ t.stepped.kind ∙ near.kind;
        alive = t.alive ∙ near.alive;
      },
      refl,
    )

-- the other end
side_far : (e f : End) (x : Event) (past : List Event) (p q p' q' : Peering Piped) → is_same e x.step.end ≡ true → is_same f x.step.end ≡ false → other e ≡ f → other f ≡ e → IsValidAct e past x.step.act → Side e f p past → (far : Side f e q past) → Turned p q (length past) x.step.at x.step.act p' q' x.entry → SideBy f e q' (x ∷ past) far.h
side_far e f x past p q p' q' n m o o' v near far t =
    let W : List ℕ = wrote f past in
    let k : Piped = pipe_of q in
    let to : k.mark + t.count ≡ moved x.step.act (taken e past) (length W) = moved_to e f past x.step.act q t.count far t.counted in
    let had : taken e past ≤ length W = subst (λ (i : ℕ). i ≤ length W) far.mark (subst (λ (u : List ℕ). k.mark ≤ length u) far.output far.bound) in
    let within : k.mark + t.count ≤ length k.output = subst (λ (u : List ℕ). k.mark + t.count ≤ length u) (sym far.output) (subst (λ (i : ℕ). i ≤ length W) (sym to) (moved_within e f x.step.act past o v had)) in
    let taken_before : taken f past ≤ length (wrote e past) = subst (λ (i : ℕ). i ≤ length (wrote e past)) near.mark (subst (λ (u : List ℕ). (pipe_of p).mark ≤ length u) near.output near.bound) in
    let same_read : read f past ≡ read f (x ∷ past) =
    ap (λ (y : End). take (taken f past) (wrote y past)) o' ∙ sym (take-append-le (taken f past) (wrote e past) x.entry.wrote taken_before)
    ∙ ap (λ (u : List ℕ). take (taken f past) u) (sym (wrote_near e x past n)) ∙ ap (λ (i : ℕ). take i (wrote e (x ∷ past))) (sym (taken_far f x past m))
    ∙ ap (λ (y : End). take (taken f (x ∷ past)) (wrote y (x ∷ past))) (sym o') in
    let link : pipe_of (marked q t.count) ≡ drained k t.count = marked_link q t.count in
    subst (λ (z : Peering Piped). SideBy f e z (x ∷ past) far.h) (sym t.far_end) (
      record {
        h = far.h;
        has = has_with_link q (drained k t.count) far.h far.has;
        made = far.made ∙ sym (calls_far f x past m);
        follows = follows_far f x past far.h m far.follows;
        got = ap (λ (z : Piped). read_in far.h ++ z.input) link ∙ far.got ∙ same_read;
        sent = far.sent ∙ sym (wrote_far f x past m);
        answered = far.answered ∙ sym (replied_far f x past m);
        calm = far.calm;
        unsaid = far.unsaid;
        unclosed = λ nobody. far.unclosed (nobody_before x past nobody);
        stands = subst (λ (z : Piped). Stands far.h z.input) (sym link) far.stands;
        begins = subst (BeginsIn (kind_of f)) (sym (calls_far f x past m)) far.begins;
        output = ap (λ (z : Piped). z.output) link ∙ far.output ∙ sym (wrote_far f x past m);
        mark = ap (λ (z : Piped). z.mark) link ∙ to ∙ ap (λ (y : End). moved x.step.act (taken e past) (length (wrote y past))) (sym o) ∙ sym (taken_near e x past n);
        bound = subst (λ (z : Piped). z.mark ≤ length z.output) (sym link) within;
        empty = far.empty;
        begun = exchanged_with_link q (drained k t.count) far.begun;
        kind = far.kind;
        alive = far.alive;
      },
      refl,
    )

-- a side at the start
side_start : (e f : End) → Side e f (fresh empty_pipe (kind_of e)) []
side_start e f =
    let link : pipe_of (fresh empty_pipe (kind_of e)) ≡ empty_pipe = link_of-fresh empty_pipe empty_pipe (kind_of e) in
    record {
      h = [];
      has = has_fresh empty_pipe (kind_of e);
      made = refl;
      follows = refl;
      got = ap (λ (z : Piped). z.input) link;
      sent = refl;
      answered = refl;
      calm = calm_none;
      unsaid = refl;
      unclosed = λ nobody. tt;
      stands = uncalled refl refl;
      begins = tt;
      output = ap (λ (z : Piped). z.output) link;
      mark = ap (λ (z : Piped). z.mark) link;
      bound = subst (λ (z : Piped). z.mark ≤ length z.output) (sym link) (omega arith);
      empty = refl;
      begun = fresh_not_exchanged empty_pipe (kind_of e);
      kind = refl;
      alive = refl;
    }

-- both sides at the start
pub sides_start : Sides (fresh empty_pipe (kind_of Client)) (fresh empty_pipe (kind_of Listener)) []
unfolding side_start
sides_start = record { client = side_start Client Listener; listener = side_start Listener Client; faced = faced_none []; far_faced = faced_none [] }

-- what an end's own laws say of the past

side_replies : (e f : End) (p : Peering Piped) (past : List Event) → Side e f p past → AreReplies (calls e past) (replied e past)
side_replies e f p past s = subst (λ (rs : List NamedReply). AreReplies (calls e past) rs) s.answered (subst (λ (cs : List (ℕ × peer_call.Call)). AreReplies cs (replied_in s.h)) s.made (replies_law p s.h s.has))

side_gate : (e f : End) (p : Peering Piped) (past : List Event) → Side e f p past → IsGated (calls e past) (wrote e past) (read e past)
side_gate e f p past s =
    let own : IsGated (made_in s.h) (wrote_in s.h) (read_in s.h ++ (pipe_of p).input) = gated_more (made_in s.h) (wrote_in s.h) (read_in s.h) (pipe_of p).input (gated_law p s.h s.has) in
    let a : IsGated (calls e past) (wrote_in s.h) (read_in s.h ++ (pipe_of p).input) = subst (λ (cs : List (ℕ × peer_call.Call)). IsGated cs (wrote_in s.h) (read_in s.h ++ (pipe_of p).input)) s.made own in
    let b : IsGated (calls e past) (wrote e past) (read_in s.h ++ (pipe_of p).input) = subst (λ (u : List ℕ). IsGated (calls e past) u (read_in s.h ++ (pipe_of p).input)) s.sent a in
    subst (λ (u : List ℕ). IsGated (calls e past) (wrote e past) u) s.got b

-- of two ends, what the one read is the front of what the other wrote
side_meets : (e f : End) (p q : Peering Piped) (past : List Event) → other e ≡ f → (near : Side e f p past) → (far : Side f e q past) → Meets near.h far.h
side_meets e f p q past o near far =
    meeting near.h far.h (pipe_of p).input (wrote (other e) past) (taken e past) near.calm (tied_law p near.h near.has) (tied_law q far.h far.has) (said_law q far.h far.has) near.got
    (ap (λ (y : End). wrote y past) o ∙ sym far.sent)

-- an end has a history that explains its replies
side_history : (e f : End) (p q : Peering Piped) (past : List Event) → other e ≡ f → other f ≡ e → Side e f p past → Side f e q past → IsHistoried e past
side_history e f p q past o o' s far =
    record {
      h = s.h;
      follows = s.follows;
      calm = s.calm;
      tied = tied_law p s.h s.has;
      layer = layer_law p s.h s.has;
      few = few_frames s.h (layer_law p s.h s.has);
      said = said_law p s.h s.has;
      beats = beats_law p s.h s.has;
      replies = replies_law p s.h s.has;
      caused = causes_law p s.h s.has;
      unclosed = s.unclosed;
      unrefused = never_refused s.h far.h (side_meets e f p q past o s far) (side_meets f e q p past o' far s);
    }

-- two ends between which nothing is in flight
side_still : (e f : End) (p q : Peering Piped) (past : List Event) → other e ≡ f → other f ≡ e → AreOpposite (calls e past) (calls f past) → NothingInFlight past → (near : Side e f p past) → (far : Side f e q past)
    → AreStill near.h far.h (pipe_of p).input (pipe_of q).input
side_still e f p q past o o' k n near far = record {
  stands = near.stands;
  far_stands = far.stands;
  reads = near.got ∙ n e ∙ ap (λ (y : End). wrote y past) o ∙ sym far.sent;
  far_reads = far.got ∙ n f ∙ ap (λ (y : End). wrote y past) o' ∙ sym near.sent;
  calm = near.calm;
  far_calm = far.calm;
  tied = tied_law p near.h near.has;
  far_tied = tied_law q far.h far.has;
  said = said_law p near.h near.has;
  far_said = said_law q far.h far.has;
  layer = layer_law p near.h near.has;
  far_layer = layer_law q far.h far.has;
  kinds = subst (λ (cs : List (ℕ × peer_call.Call)). AreOpposite cs (made_in far.h)) (sym near.made) (subst (λ (cs : List (ℕ × peer_call.Call)). AreOpposite (calls e past) cs) (sym far.made) k);
  answered = answered_law p near.h near.has;
  far_answered = answered_law q far.h far.has;
}

-- both ends where their layers agree
sides_agreed : (p q : Peering Piped) (past : List Event) (s : Sides p q past) → AreAgreeing past s.client.h s.listener.h → AreAgreed s.client.h s.listener.h (pipe_of p).input (pipe_of q).input
sides_agreed p q past s a =
    let near = s.client in
    let far = s.listener in
    let layers : Agree (layer_in (made_in near.h)) (layer_in (calls Listener past)) = subst (λ (cs : List (ℕ × peer_call.Call)). Agree (layer_in cs) (layer_in (calls Listener past))) (sym near.made) a.agreed in
    record {
      still = side_still Client Listener p q past refl refl (inl (near.begins, far.begins)) a.still near far;
      called = subst (λ (cs : List (ℕ × peer_call.Call)). 1 ≤ length cs) (sym near.made) (a.called Client);
      far_called = subst (λ (cs : List (ℕ × peer_call.Call)). 1 ≤ length cs) (sym far.made) (a.called Listener);
      agreed = subst (λ (cs : List (ℕ × peer_call.Call)). Agree (layer_in (made_in near.h)) (layer_in cs)) (sym far.made) layers;
      faced = s.faced;
      far_faced = s.far_faced;
      few = a.few;
    }

-- both ends have histories that explain their replies, and say what their calls wait for
pub histories : (p q : Peering Piped) (past : List Event) → Sides p q past → Histories past
unfolding side_history
histories p q past s = record {
  client = side_history Client Listener p q past refl refl s.client s.listener;
  listener = side_history Listener Client q p past refl refl s.listener s.client;
  wants = λ n. (
    wants s.client.h s.listener.h (pipe_of p).input (pipe_of q).input (side_still Client Listener p q past refl refl (inl (s.client.begins, s.listener.begins)) n s.client s.listener),
    wants s.listener.h s.client.h (pipe_of q).input (pipe_of p).input (side_still Listener Client q p past refl refl (inr (s.listener.begins, s.client.begins)) n s.listener s.client),
  );
  passes = λ a. both_through s.client.h s.listener.h (pipe_of p).input (pipe_of q).input (sides_agreed p q past s a);
}

-- ---- both ends behind a step

facing : (h g h' g' : List Local) → h' ≡ h → g' ≡ g → FacedWhenTold h g → FacedWhenTold h' g'
facing h g h' g' a b k = subst (λ (u : List Local). FacedWhenTold u g') (sym a) (subst (FacedWhenTold h) (sym b) k)

-- the client made it
pub sides_client : (x : Event) (past : List Event) (p q p' q' : Peering Piped) → x.step.end ≡ Client → IsValidAct Client past x.step.act → Sides p q past → Turned p q (length past) x.step.at x.step.act p' q' x.entry → Sides p' q' (x ∷ past)
sides_client x past p q p' q' h v s t =
    let n : is_same Client x.step.end ≡ true = ap (is_same Client) h in
    let m : is_same Listener x.step.end ≡ false = ap (is_same Listener) h in
    let near = side_near Client Listener x past p q p' q' n m refl v s.client s.listener t in
    let far = side_far Client Listener x past p q p' q' n m refl refl v s.client s.listener t in
    let grown = grown_of Client Listener x past s.client t in
    record {
      client = near.0;
      listener = far.0;
      faced = facing grown s.listener.h near.0.h far.0.h near.1 far.1 (faced_near Client Listener x past p q p' q' n refl refl (inl (near.0.begins, s.listener.begins)) s.client s.listener t s.faced);
      far_faced = facing s.listener.h grown far.0.h near.0.h far.1 near.1 (faced_far Client Listener x past p q p' q' s.client s.listener t s.far_faced);
    }

-- the listener made it
pub sides_listener : (x : Event) (past : List Event) (p q p' q' : Peering Piped) → x.step.end ≡ Listener → IsValidAct Listener past x.step.act → Sides p q past → Turned q p (length past) x.step.at x.step.act q' p' x.entry → Sides p' q' (x ∷ past)
sides_listener x past p q p' q' h v s t =
    let n : is_same Listener x.step.end ≡ true = ap (is_same Listener) h in
    let m : is_same Client x.step.end ≡ false = ap (is_same Client) h in
    let near = side_near Listener Client x past q p q' p' n m refl v s.listener s.client t in
    let far = side_far Listener Client x past q p q' p' n m refl refl v s.listener s.client t in
    let grown = grown_of Listener Client x past s.listener t in
    record {
      client = far.0;
      listener = near.0;
      faced = facing s.client.h grown far.0.h near.0.h far.1 near.1 (faced_far Listener Client x past q p q' p' s.listener s.client t s.faced);
      far_faced = facing grown s.client.h near.0.h far.0.h near.1 far.1 (faced_near Listener Client x past q p q' p' n refl refl (inr (near.0.begins, s.client.begins)) s.listener s.client t s.far_faced);
    }

-- the replies of a step are honest
honest_turn : (e f : End) (x : Event) (past : List Event) (p' q' : Peering Piped) → other e ≡ f → replied e (x ∷ past) ≡ replied e past ++ x.entry.replies → Side e f p' (x ∷ past) → Side f e q' (x ∷ past) → AllHonest x.entry.replies
honest_turn e f x past p' q' o replies near far =
    honest_right (replied e past) x.entry.replies (subst AllHonest (near.answered ∙ replies) (honest_replies near.h far.h (meets_unsaid near.h far.h (side_meets e f p' q' (x ∷ past) o near far) far.unsaid) (causes_law p' near.h near.has)))

-- a step makes an event that is explained
pub explains_turn : (e f : End) (x : Event) (past : List Event) (p q p' q' : Peering Piped) → is_same e x.step.end ≡ true → is_same f x.step.end ≡ false → x.step.end ≡ e → other e ≡ f → other f ≡ e → IsValid past x.step → (before : Side e f p past) → Side f e q past → AreOpposite (calls e (x ∷ past)) (calls f past) → (t : Turned p q (length past) x.step.at x.step.act p' q' x.entry) → Side e f p' (x ∷ past)
    → Side f e q' (x ∷ past) → Histories (x ∷ past) → Explains x past
explains_turn e f x past p q p' q' n m same o o' v before rest k t near far hs =
    let va : IsValidAct e past x.step.act = subst (λ (y : End). IsValidAct y past x.step.act) same v.act in
    let replies : replied e (x ∷ past) ≡ replied e past ++ x.entry.replies = replied_near e x past n in
    record {
      valid = v;
      form = form_of e f x past same o (calls_near e x past n) replies va (side_replies e f p past before) (side_replies e f p' (x ∷ past) near) (side_replies f e q' (x ∷ past) far);
      gate = gate_of e f (x ∷ past) o (side_gate e f p' (x ∷ past) near) (side_gate f e q' (x ∷ past) far);
      causes = hs;
      honest = honest_turn e f x past p' q' o replies near far;
      fair = subst (λ (y : End). AllFair (layer_in (calls y (x ∷ past))) (layer_in (calls (other y) (x ∷ past))) x.entry.replies) (sym same)
          (subst (λ (y : End). AllFair (layer_in (calls e (x ∷ past))) (layer_in (calls y (x ∷ past))) x.entry.replies) (sym o) (fair_turn e f x past p q p' q' n m o o' k before rest t));
    }

-- what the code tests at an end is what is valid after the past
pub may_act : (e f : End) (p q : Peering Piped) (past : List Event) (act : Act) → other e ≡ f → Side e f p past → Side f e q past → CanAct p q (length past) act ↔ IsValidAct e past act
may_act e f p q past (Take n) o near far = rw (far.mark, far.output, o) (λ m. m, λ m. m)
may_act e f p q past TakeAll o near far = (λ m. m, λ m. m)
may_act e f p q past (Call call) o near far =
    let own : MayCall p (length past) call ↔ IsValidCall p.kind (made_in near.h) (replied_in near.h) (length past) call = may_law p (length past) call near.h near.has in
    let kind : MayCall p (length past) call ↔ IsValidCall (kind_of e) (made_in near.h) (replied_in near.h) (length past) call = subst (λ (y : PeerKind). MayCall p (length past) call ↔ IsValidCall y (made_in near.h) (replied_in near.h) (length past) call) near.kind own in
    let made : MayCall p (length past) call ↔ IsValidCall (kind_of e) (calls e past) (replied_in near.h) (length past) call = subst (λ (cs : List (ℕ × peer_call.Call)). MayCall p (length past) call ↔ IsValidCall (kind_of e) cs (replied_in near.h) (length past) call) near.made kind in
    subst (λ (rs : List NamedReply). MayCall p (length past) call ↔ IsValidCall (kind_of e) (calls e past) rs (length past) call) near.answered made
