-- What the links of an end do in what is done with it.
use Rattle.std.proofs.Common.{◌≡◌, ◌⊎◌, inl, inr, ◌∙◌, ap, subst, sym, refl, append_assoc, ℕ, List, [], ◌∷◌, ◌++◌, Option, Some, None, All}
use Rattle.std.proofs.lemmas.List.Elements.{All-nil, All-cons, All-head, All-tail, All-append, All-map, All-filter, All-weaker}
use Rattle.std.proofs.lemmas.List.Sorted.{All-permutation}
use Rattle.std.specs.Prelude.{map, not, ◌==◌, ⊤}
use Rattle.amqp_wire.specs.declared.link.Link.{Ghosts}
use Rattle.amqp_words.specs.declared.reply.NamedReply.{NamedReply as ConnectionReply}
use Rattle.amqp_link_words.specs.declared.link_call.LinkCall.{LinkCall}
use Rattle.amqp_link_words.specs.declared.link_reply.LinkReply.{LinkReply}
use Rattle.amqp_link_words.specs.declared.link_reply.NamedLinkReply.{NamedLinkReply}
use Rattle.amqp_calls.specs.declared.reply.NamedReply.{NamedReply}
use Rattle.amqp_calls.specs.declared.reply.Reply.{Reply}
use Rattle.amqp_calls.specs.declared.reply.Reply.TheVariants as answer
use Rattle.amqp_links.specs.declared.output.LinksOutput.TheVariants as out
use Rattle.amqp_links.specs.Calling.{Calls}
use Rattle.amqp_links.specs.Parts as parts
use Rattle.amqp_links.specs.State.{State as Links}
use Rattle.amqp_peer.specs.Peering.{Peering}
use Rattle.amqp_session.specs.declared.session.LinkInput.{LinkInput}
use Rattle.amqp_sessions.specs.State.{State as Sessions}
use Rattle.amqp_end.specs.Answers.{of_link, of_connection, together, AreOrdered, answers_to, answers_to_others, with_first}
use Rattle.amqp_end.specs.Asks.{limit_for}
use Rattle.amqp_end.specs.Deeds.{Deed, Did, IsDeed, links_called_of, links_called_by, told_of, told_by}
use Rattle.amqp_end.specs.Deeds as end
use Rattle.amqp_session_world.specs.Answers.{IsOfSession, AreOfSessions}
use Rattle.amqp_session_world.proofs.Sessions.{sessions_answer}
use Rattle.link_lives.specs.Deeds as links
use Rattle.session_laws.specs.Settling.{IsAmong}
use Rattle.connect_laws.specs.Ruling.{IsSending, Step, Does, Did as DidSteps, heard_of, heard_in, told_in, AreBetween}
use Rattle.connect_laws.specs.Ruling as steps
use Rattle.connect_laws.specs.Asking.{inputs_of, inputs_by}

-- ---- lists

pub among_left : {X : Type 0} (x : X) (xs ys : List X) → IsAmong x xs → IsAmong x (xs ++ ys)
among_left x [] ys h = absurd h
among_left x (y ∷ xs) ys (inl e) = inl e
among_left x (y ∷ xs) ys (inr h) = inr (among_left x xs ys h)

pub among_right : {X : Type 0} (x : X) (xs ys : List X) → IsAmong x ys → IsAmong x (xs ++ ys)
among_right x [] ys h = h
among_right x (y ∷ xs) ys h = inr (among_right x xs ys h)

either_more : {X : Type 0} (x y : X) (xs ys : List X) → IsAmong x xs ⊎ IsAmong x ys → IsAmong x (y ∷ xs) ⊎ IsAmong x ys
either_more x y xs ys (inl h) = inl (inr h)
either_more x y xs ys (inr h) = inr h

pub among_either : {X : Type 0} (x : X) (xs ys : List X) → IsAmong x (xs ++ ys) → IsAmong x xs ⊎ IsAmong x ys
among_either x [] ys h = inr h
among_either x (y ∷ xs) ys (inl e) = inl (inl e)
among_either x (y ∷ xs) ys (inr h) = either_more x y xs ys (among_either x xs ys h)

all_at : {X : Type 0} (P : X → Type 0) (x : X) (xs : List X) → All P xs → IsAmong x xs → P x
all_at P x [] all h = absurd h
all_at P x (y ∷ xs) all (inl e) = subst P (sym e) (All-head P y xs all)
all_at P x (y ∷ xs) all (inr h) = all_at P x xs (All-tail P y xs all) h

among_all : {X : Type 0} (all xs : List X) → ((x : X) → IsAmong x xs → IsAmong x all) → All (λ (x : X). IsAmong x all) xs
among_all {X} all [] f = All-nil (λ (x : X). IsAmong x all)
among_all {X} all (x ∷ xs) f = All-cons (λ (y : X). IsAmong y all) x xs (f x (inl refl)) (among_all all xs (λ y h. f y (inr h)))

any_all : {X : Type 0} (P : X → Type 0) (xs : List X) → ((x : X) → P x) → All P xs
any_all P [] f = All-nil P
any_all P (x ∷ xs) f = All-cons P x xs (f x) (any_all P xs f)

-- ---- the answers of links among all answers

-- an answer of the links is one of these
abbrev IsFrom : List NamedLinkReply → ℕ → Reply → Type 0
IsFrom ls name (answer.Connection r) = ⊤
IsFrom ls name (answer.Session r) = ⊤
IsFrom ls name (answer.Link r) = IsAmong (record { name = name; reply = r }) ls

session_from : (ls : List NamedLinkReply) (name : ℕ) (r : Reply) → IsOfSession r → IsFrom ls name r
session_from ls name (answer.Connection r) h = tt
session_from ls name (answer.Session r) h = tt
session_from ls name (answer.Link r) h = absurd h

ordered_from : (ss : List NamedReply) (p : List ConnectionReply) (ls : List NamedLinkReply) (answers : List NamedReply) → AreOfSessions ss → AreOrdered (together ss p ls) answers → All (λ (r : NamedReply). IsFrom ls r.name r.reply) answers
ordered_from ss p ls answers h o =
    let P : NamedReply → Type 0 = λ (r : NamedReply). IsFrom ls r.name r.reply in
    let of_sessions : All P ss = All-weaker (λ (r : NamedReply). IsOfSession r.reply) P (λ r x. session_from ls r.name r.reply x) ss h in
    let of_connections : All P (map of_connection p) = All-map P of_connection p (any_all (λ (r : ConnectionReply). P (of_connection r)) p (λ r. tt)) in
    let of_links : All P (map of_link ls) = All-map P of_link ls (among_all ls ls (λ x i. i)) in
    All-permutation P (together ss p ls) answers o.all (All-append P (ss ++ map of_connection p) (map of_link ls) (All-append P ss (map of_connection p) of_sessions of_connections) of_links)

first_from : (name : ℕ) (P : NamedReply → Type 0) (answers : List NamedReply) → All P answers → All P (with_first name answers)
first_from name P answers h =
    All-append P (answers_to name answers) (answers_to_others name answers) (All-filter (λ (r : NamedReply). r.name == name) P answers h) (All-filter (λ (r : NamedReply). not (r.name == name)) P answers h)

-- ---- parts of what links do

-- The links do this, with no call under one of these names. They hear what is heard, and what is told of their answers they tell.
pub record Part (names : List ℕ) (old new : Links) (heard : List (ℕ × LinkInput)) (told : List NamedReply) : Type 0 where
  pub steps : List Step
  pub did : DidSteps old steps new
  pub others : AreBetween names steps
  pub hears : (x : ℕ × LinkInput) → IsAmong x (heard_in steps) → IsAmong x heard
  pub tells : (name : ℕ) (r : LinkReply) → IsAmong (record { name = name; reply = answer.Link r }) told → IsAmong (record { name = name; reply = r }) (told_in old steps new did)

pub part_none : (names : List ℕ) (old new : Links) → new ≡ old → Part names old new [] []
part_none names old new e = record { steps = []; did = e; others = tt; hears = λ x h. h; tells = λ name r h. absurd h }

others_then : (names : List ℕ) (xs ys : List Step) → AreBetween names xs → AreBetween names ys → AreBetween names (xs ++ ys)
others_then names [] ys h g = g
others_then names (x ∷ xs) ys h g = (h.0, others_then names xs ys h.1 g)

heard_then : (xs ys : List Step) → heard_in (xs ++ ys) ≡ heard_in xs ++ heard_in ys
heard_then [] ys = refl
heard_then (x ∷ xs) ys = ap (λ (hs : List (ℕ × LinkInput)). heard_of x ++ hs) (heard_then xs ys) ∙ sym (append_assoc (heard_of x) (heard_in xs) (heard_in ys))

-- one behind the other, with the answers that both tell
record Joined (old new : Links) (first second : List NamedLinkReply) (steps : List Step) : Type 0 where
  did : DidSteps old steps new
  left : (r : NamedLinkReply) → IsAmong r first → IsAmong r (told_in old steps new did)
  right : (r : NamedLinkReply) → IsAmong r second → IsAmong r (told_in old steps new did)

join_left : (r : NamedLinkReply) (one first rest : List NamedLinkReply) → (IsAmong r first → IsAmong r rest) → IsAmong r one ⊎ IsAmong r first → IsAmong r (one ++ rest)
join_left r one first rest f (inl i) = among_left r one rest i
join_left r one first rest f (inr i) = among_right r one rest (f i)

joined : (a b c : Links) (xs ys : List Step) (h : DidSteps a xs b) (g : DidSteps b ys c) → Joined a c (told_in a xs b h) (told_in b ys c g) (xs ++ ys)
joined a b c [] ys h g = subst (λ (s : Links). Joined s c [] (told_in b ys c g) ys) h (record { did = g; left = λ r i. absurd i; right = λ r i. i })
joined a b c (x ∷ xs) ys h g =
    let j = joined h.0 b c xs ys h.1.1 g in
    let one = steps.told_of x a in
    let rest = told_in h.0 (xs ++ ys) c j.did in
    record {
      did = (h.0, (h.1.0, j.did));
      left = λ r i. join_left r one (told_in h.0 xs b h.1.1) rest (j.left r) (among_either r one (told_in h.0 xs b h.1.1) i);
      right = λ r i. among_right r one rest (j.right r i);
    }

heard_both : (i : ℕ × LinkInput) (xs ys h g : List (ℕ × LinkInput)) → (IsAmong i xs → IsAmong i h) → (IsAmong i ys → IsAmong i g) → IsAmong i xs ⊎ IsAmong i ys → IsAmong i (h ++ g)
heard_both i xs ys h g f e (inl k) = among_left i h g (f k)
heard_both i xs ys h g f e (inr k) = among_right i h g (e k)

told_both : (x : NamedReply) (y : NamedLinkReply) (t u : List NamedReply) (ts us all : List NamedLinkReply) → (IsAmong x t → IsAmong y ts) → (IsAmong x u → IsAmong y us) → (IsAmong y ts → IsAmong y all) → (IsAmong y us → IsAmong y all) → IsAmong x t ⊎ IsAmong x u → IsAmong y all
told_both x y t u ts us all f e left right (inl k) = left (f k)
told_both x y t u ts us all f e left right (inr k) = right (e k)

pub part_then : (names : List ℕ) (a b c : Links) (h g : List (ℕ × LinkInput)) (t u : List NamedReply) → Part names a b h t → Part names b c g u → Part names a c (h ++ g) (t ++ u)
part_then names a b c h g t u x y =
    let j = joined a b c x.steps y.steps x.did y.did in
    record {
      steps = x.steps ++ y.steps;
      did = j.did;
      others = others_then names x.steps y.steps x.others y.others;
      hears = λ i k. heard_both i (heard_in x.steps) (heard_in y.steps) h g (x.hears i) (y.hears i) (among_either i (heard_in x.steps) (heard_in y.steps) (subst (λ (hs : List (ℕ × LinkInput)). IsAmong i hs) (heard_then x.steps y.steps) k));
      tells = λ name r k.
          told_both (record { name = name; reply = answer.Link r }) (record { name = name; reply = r }) t u (told_in a x.steps b x.did) (told_in b y.steps c y.did) (told_in a (x.steps ++ y.steps) c j.did)
          (x.tells name r) (y.tells name r) (j.left (record { name = name; reply = r })) (j.right (record { name = name; reply = r })) (among_either (record { name = name; reply = answer.Link r }) t u k);
    }

pub part_as : (names : List ℕ) (a b : Links) (h g : List (ℕ × LinkInput)) (t u : List NamedReply) → h ≡ g → t ≡ u → Part names a b h t → Part names a b g u
part_as names a b h g t u e f x = subst (λ (hs : List (ℕ × LinkInput)). Part names a b hs u) e (subst (λ (ts : List NamedReply). Part names a b h ts) f x)

-- ---- one deed

-- one step that tells nothing
one : (names : List ℕ) (old new : Links) (d : links.Deed) (h : List (ℕ × LinkInput)) → links.IsDeed old d new → steps.IsBetween names (Does d) → ((x : ℕ × LinkInput) → IsAmong x (heard_of (Does d) ++ []) → IsAmong x h) → Part names old new h []
one names old new d h is other hears = record { steps = Does d ∷ []; did = (new, (is, refl)); others = (other, tt); hears = hears; tells = λ name r k. absurd k }

-- answers of the links are taken, and told
told_part : (names : List ℕ) (old new : Links) (answers : List NamedReply) → new ≡ record old { replies = [] } → All (λ (r : NamedReply). IsFrom old.replies r.name r.reply) answers → Part names old new [] answers
told_part names old new answers e all = record {
  steps = Does links.Tells ∷ [];
  did = (new, (e, refl));
  others = (tt, tt);
  hears = λ x h. h;
  tells = λ name r k. among_left (record { name = name; reply = r }) old.replies [] (all_at (λ (q : NamedReply). IsFrom old.replies q.name q.reply) (record { name = name; reply = answer.Link r }) answers all k);
}

-- the links are asked for a call
abbrev IsAsked : Deed → Type 0
IsAsked d = (name : ℕ) × (call : LinkCall) × (d ≡ end.Asks name call)

is_asking : (d : Deed) → (links_called_of d ≡ []) ⊎ IsAsked d
is_asking (end.Makes name call events) = inl refl
is_asking (end.Polls events) = inl refl
is_asking (end.Goes events) = inl refl
is_asking (end.Moves m) = inl refl
is_asking (end.Hears x) = inl refl
is_asking (end.Writes x events) = inl refl
is_asking (end.Seats channel) = inl refl
is_asking (end.Lacks why) = inl refl
is_asking (end.Frees channel) = inl refl
is_asking (end.Accepts name x channel limit incoming) = inl refl
is_asking (end.Asks name call) = inr (name, call, refl)
is_asking (end.LinksHear session x) = inl refl
is_asking (end.LinksWrite session x) = inl refl
is_asking (end.LinksLack session) = inl refl
is_asking end.LinksKnow = inl refl
is_asking end.LinksLook = inl refl
is_asking (end.Tells answers) = inl refl
is_asking (end.TellsFirst name answers) = inl refl

-- calls that such an end makes, under other names
abbrev pub AreAllowed : List ℕ → List (ℕ × LinkCall) → Type 0
AreAllowed names [] = Unit {0}
AreAllowed names (x ∷ xs) = (IsSending x.1 × (IsAmong x.0 names → ⊥)) × AreAllowed names xs

allowed_first : (names : List ℕ) (xs ys : List (ℕ × LinkCall)) → AreAllowed names (xs ++ ys) → AreAllowed names xs
allowed_first names [] ys h = tt
allowed_first names (x ∷ xs) ys h = (h.0, allowed_first names xs ys h.1)

allowed_rest : (names : List ℕ) (xs ys : List (ℕ × LinkCall)) → AreAllowed names (xs ++ ys) → AreAllowed names ys
allowed_rest names [] ys h = h
allowed_rest names (x ∷ xs) ys h = allowed_rest names xs ys h.1

-- ---- around a call

-- the links are asked for that call once, with what they do before and behind it
pub record Around (name : ℕ) (call : LinkCall) (old new : Links) (heard : List (ℕ × LinkInput)) (told : List NamedReply) : Type 0 where
  pub max : Option ℕ
  pub ready : Links
  pub done : Links
  pub calls : Calls name call max ready done
  pub heard_before : List (ℕ × LinkInput)
  pub told_before : List NamedReply
  pub before : (names : List ℕ) → Part names old ready heard_before told_before
  pub heard_behind : List (ℕ × LinkInput)
  pub told_behind : List NamedReply
  pub behind : (names : List ℕ) → Part names done new heard_behind told_behind
  pub heard_all : heard_before ++ heard_behind ≡ heard
  pub told_all : told_before ++ told_behind ≡ told

no_more : (n name : ℕ) (c call : LinkCall) (xs : List (ℕ × LinkCall)) → (n, c) ∷ xs ≡ (name, call) ∷ [] → (n ≡ name) × (c ≡ call) × (xs ≡ [])
no_more n name c call xs e =
    let rest : xs ≡ [] = cc in
    let head : (n, c) ≡ (name, call) = cc in
    (ap (λ (x : ℕ × LinkCall). x.0) head, ap (λ (x : ℕ × LinkCall). x.1) head, rest)

around_more : (name : ℕ) (call : LinkCall) (l m l' : Links) (heard more : List (ℕ × LinkInput)) (told rest : List NamedReply) → Around name call l m heard told → ((names : List ℕ) → Part names m l' more rest) → Around name call l l' (heard ++ more) (told ++ rest)
around_more name call l m l' heard more told rest x y = record {
  max = x.max;
  ready = x.ready;
  done = x.done;
  calls = x.calls;
  heard_before = x.heard_before;
  told_before = x.told_before;
  before = x.before;
  heard_behind = x.heard_behind ++ more;
  told_behind = x.told_behind ++ rest;
  behind = λ names. part_then names x.done m l' x.heard_behind more x.told_behind rest (x.behind names) (y names);
  heard_all = sym (append_assoc x.heard_before x.heard_behind more) ∙ ap (λ (hs : List (ℕ × LinkInput)). hs ++ more) x.heard_all;
  told_all = sym (append_assoc x.told_before x.told_behind rest) ∙ ap (λ (ts : List NamedReply). ts ++ rest) x.told_all;
}

-- ---- deeds

module _ {L : Type 0} (link : Ghosts L) (at : ℕ) where
  part_deed : (names : List ℕ) (d : Deed) (p : Peering L) (s : Sessions) (l : Links) (p' : Peering L) (s' : Sessions) (l' : Links) → IsDeed link at p s l d p' s' l' → AreOfSessions s.replies → AreAllowed names (links_called_of d)
      → Part names l l' (inputs_of d) (told_of d)
  part_deed names (end.Makes name call events) p s l p' s' l' h o a = part_none names l l' h.2
  part_deed names (end.Polls events) p s l p' s' l' h o a = part_none names l l' h.2
  part_deed names (end.Goes events) p s l p' s' l' h o a = part_none names l l' h.2
  part_deed names (end.Moves m) p s l p' s' l' h o a = part_none names l l' h.2
  part_deed names (end.Hears x) p s l p' s' l' h o a = part_none names l l' h.3
  part_deed names (end.Writes x events) p s l p' s' l' h o a = part_none names l l' h.1
  part_deed names (end.Seats channel) p s l p' s' l' h o a = part_none names l l' h.3
  part_deed names (end.Lacks why) p s l p' s' l' h o a = part_none names l l' h.3
  part_deed names (end.Frees channel) p s l p' s' l' h o a = part_none names l l' h.2
  part_deed names (end.Accepts name x channel limit incoming) p s l p' s' l' h o a = part_none names l l' h.3
  part_deed names (end.Asks name call) p s l p' s' l' h o a = one names l l' (links.Asks name call (limit_for call s)) [] h.2 a.0 (λ x k. k)
  part_deed names (end.LinksHear session x) p s l p' s' l' h o a = one names l l' (links.Hears session x) ((session, x) ∷ []) h.2 tt (λ y k. k)
  part_deed names (end.LinksWrite session x) p s l p' s' l' h o a = one names l l' (links.Hands (parts.told (out.Frame session x))) [] h.2 tt (λ y k. k)
  part_deed names (end.LinksLack session) p s l p' s' l' h o a = one names l l' (links.Hands (parts.told (out.Astray session))) [] h.2 tt (λ y k. k)
  part_deed names end.LinksKnow p s l p' s' l' h o a = one names l l' (links.Knows at) [] h.2 tt (λ y k. k)
  part_deed names end.LinksLook p s l p' s' l' h o a = one names l l' links.Looks [] h.2 tt (λ y k. k)
  part_deed names (end.Tells answers) p s l p' s' l' h o a = told_part names l l' answers h.2 (ordered_from s.replies p.replies l.replies answers o h.3)
  part_deed names (end.TellsFirst name answers) p s l p' s' l' h o a =
      told_part names l l' (with_first name answers) h.2 (first_from name (λ (r : NamedReply). IsFrom l.replies r.name r.reply) answers (ordered_from s.replies p.replies l.replies answers o h.3))

  -- ---- deeds, one after another

  pub part_deeds : (names : List ℕ) (p : Peering L) (s : Sessions) (l : Links) (ds : List Deed) (p' : Peering L) (s' : Sessions) (l' : Links) → Did link at p s l ds p' s' l' → AreOfSessions s.replies → AreAllowed names (links_called_by ds)
      → Part names l l' (inputs_by ds) (told_by ds)
  part_deeds names p s l [] p' s' l' h o a = part_none names l l' h.2
  part_deeds names p s l (d ∷ ds) p' s' l' h o a =
      part_then names l h.2 l' (inputs_by ds) (inputs_of d) (told_by ds) (told_of d)
      (part_deeds names p s l ds h.0 h.1 h.2 h.3 o (allowed_rest names (links_called_of d) (links_called_by ds) a))
      (part_deed names d h.0 h.1 h.2 p' s' l' h.4 (sessions_answer link at p s l ds h.0 h.1 h.2 h.3 o) (allowed_first names (links_called_of d) (links_called_by ds) a))

  around_here : (name : ℕ) (call : LinkCall) (p : Peering L) (s : Sessions) (l : Links) (ds : List Deed) (n : ℕ) (c : LinkCall) (p' : Peering L) (s' : Sessions) (l' : Links) → Did link at p s l (end.Asks n c ∷ ds) p' s' l' → AreOfSessions s.replies
      → n ≡ name → c ≡ call → links_called_by ds ≡ [] → Around name call l l' (inputs_by ds ++ []) (told_by ds ++ [])
  around_here name call p s l ds n c p' s' l' h o is_name is_call none = record {
    max = limit_for c h.1;
    ready = h.2;
    done = l';
    calls = subst (λ (m : ℕ). Calls m call (limit_for c h.1) h.2 l') is_name (subst (λ (k : LinkCall). Calls n k (limit_for c h.1) h.2 l') is_call h.4.2);
    heard_before = inputs_by ds;
    told_before = told_by ds;
    before = λ names. part_deeds names p s l ds h.0 h.1 h.2 h.3 o (subst (AreAllowed names) (sym none) tt);
    heard_behind = [];
    told_behind = [];
    behind = λ names. part_none names l' l' refl;
    heard_all = refl;
    told_all = refl;
  }

  around_asked : (name : ℕ) (call : LinkCall) (p : Peering L) (s : Sessions) (l : Links) (d : Deed) (ds : List Deed) (p' : Peering L) (s' : Sessions) (l' : Links) → Did link at p s l (d ∷ ds) p' s' l' → AreOfSessions s.replies
      → IsAsked d → links_called_of d ++ links_called_by ds ≡ (name, call) ∷ [] → Around name call l l' (inputs_by ds ++ inputs_of d) (told_by ds ++ told_of d)
  around_asked name call p s l d ds p' s' l' h o is e =
      let h' = subst (λ (x : Deed). Did link at p s l (x ∷ ds) p' s' l') is.2 h in
      let e' = subst (λ (x : Deed). links_called_of x ++ links_called_by ds ≡ (name, call) ∷ []) is.2 e in
      let g = no_more is.0 name is.1 call (links_called_by ds) e' in
      subst (λ (x : Deed). Around name call l l' (inputs_by ds ++ inputs_of x) (told_by ds ++ told_of x)) (sym is.2) (around_here name call p s l ds is.0 is.1 p' s' l' h' o g.0 g.1 g.2)

  around_by : (name : ℕ) (call : LinkCall) (p : Peering L) (s : Sessions) (l : Links) (d : Deed) (ds : List Deed) (p' : Peering L) (s' : Sessions) (l' : Links) (h : Did link at p s l (d ∷ ds) p' s' l') → AreOfSessions s.replies
      → (links_called_by ds ≡ (name, call) ∷ [] → Around name call l h.2 (inputs_by ds) (told_by ds)) → links_called_of d ++ links_called_by ds ≡ (name, call) ∷ []
      → (links_called_of d ≡ []) ⊎ IsAsked d → Around name call l l' (inputs_by ds ++ inputs_of d) (told_by ds ++ told_of d)
  around_by name call p s l d ds p' s' l' h o before e (inl none) =
      around_more name call l h.2 l' (inputs_by ds) (inputs_of d) (told_by ds) (told_of d) (before (ap (λ (xs : List (ℕ × LinkCall)). xs ++ links_called_by ds) (sym none) ∙ e))
      (λ names. part_deed names d h.0 h.1 h.2 p' s' l' h.4 (sessions_answer link at p s l ds h.0 h.1 h.2 h.3 o) (subst (AreAllowed names) (sym none) tt))
  around_by name call p s l d ds p' s' l' h o before e (inr is) = around_asked name call p s l d ds p' s' l' h o is e

  pub around_call : (name : ℕ) (call : LinkCall) (p : Peering L) (s : Sessions) (l : Links) (ds : List Deed) (p' : Peering L) (s' : Sessions) (l' : Links) → Did link at p s l ds p' s' l' → AreOfSessions s.replies → links_called_by ds ≡ (name, call) ∷ []
      → Around name call l l' (inputs_by ds) (told_by ds)
  around_call name call p s l [] p' s' l' h o e = absurd cc
  around_call name call p s l (d ∷ ds) p' s' l' h o e = around_by name call p s l d ds p' s' l' h o (λ f. around_call name call p s l ds h.0 h.1 h.2 h.3 o f) e (is_asking d)
