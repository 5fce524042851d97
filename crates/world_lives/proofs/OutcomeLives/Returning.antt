-- From the call that gives an outcome to the sender that tells it (as `outcomes_were_given` of session_laws, of which
-- the steps are taken again from what is known here of the frames that are heard).
use Rattle.std.specs.Prelude.{◌≡◌, ◌⊎◌, ℕ, List, [], ◌∷◌, ◌++◌, map, refl}
use Rattle.std.proofs.Common.{sym, ◌∙◌, ap, subst, inl, inr}
use Rattle.std.proofs.lemmas.Grind.{flat_map-append}
use Rattle.amqp_composites.specs.declared.modes.Role.{Role}
use Rattle.amqp_composites.specs.declared.modes.Role.TheVariants as role
use Rattle.amqp_performatives.specs.declared.disposition.Disposition.{Disposition}
use Rattle.amqp_frames.specs.declared.body.FrameBody.{FrameBody}
use Rattle.amqp_frames.specs.declared.body.FrameBody.TheVariants as b
use Rattle.amqp_parts.specs.declared.part.Part.{Part}
use Rattle.amqp_sender.specs.declared.sender.Settlement.{Settlement}
use Rattle.amqp_sender.specs.Sender.{State as Sender}
use Rattle.amqp_sender.specs.Settling.{settlement_of}
use Rattle.amqp_session.specs.declared.session.LinkInput.TheVariants as input
use Rattle.amqp_session.specs.State.{State as Session}
use Rattle.session_laws.specs.Messages.{Message, Delivery, Carry, whole_of, on}
use Rattle.session_laws.specs.Sending as sending
use Rattle.session_laws.specs.Holding as session
use Rattle.session_laws.specs.Handing.{handed_over}
use Rattle.session_laws.specs.Handing.{heard as frames_heard}
use Rattle.session_laws.specs.Settling.{heard, IsAmong, AreSettled}
use Rattle.session_laws.specs.Speaking.{bodies, by_receiver, ruling_in, rulings, brought, spoken}
use Rattle.session_laws.specs.Giving.{Ruling, IsGiven, AllGiven, last_of}
use Rattle.session_laws.specs.Numbering.{News, news, told}
use Rattle.session_laws.specs.Laws.{message_of}
use Rattle.session_laws.specs.Outcomes.{Life, given_in, given_by, written_in, written_by, AreSilent, lefts, AreApart}
use Rattle.session_laws.proofs.Gives.{says_given}
use Rattle.session_laws.proofs.Lists.{Each, each_first, each_last, each_at, each_all, among_first, among_last, either, none_among, are_at}
use Rattle.session_laws.proofs.Numbers.{in_order, IsNews, first_news}
use Rattle.session_laws.proofs.Paths.{leave, answer}
use Rattle.session_laws.proofs.Settles.{outcomes_were_heard}
use Rattle.amqp_performatives.specs.declared.flow.Flow.{Flow}
use Rattle.session_laws.proofs.Gives.{Says}
use Rattle.session_laws.proofs.Returns.{Any}
use Rattle.world_lives.specs.OutcomeLives.Returning.{Back, OutcomesReturn}
use Rattle.world_lives.proofs.OutcomeLives.Carries.{Gets, Lasts, bodies_each, gets_all, writes_said, hands_said}
use Rattle.world_lives.proofs.OutcomeLives.Leaving.{left_written, out_found}
use Rattle.world_lives.proofs.OutcomeLives.Knowing.{Learnt, news_heard, known, unknown, all_known}

given_at : (told : List Ruling) (xs : List Disposition) (x : Disposition) → IsAmong x xs → AllGiven told xs → IsGiven told x
given_at told [] x a h = absurd a
given_at told (y ∷ ys) x (inl e) h = subst (λ z. IsGiven told z) (sym e) h.0
given_at told (y ∷ ys) x (inr a) h = given_at told ys x a h.1

given_both : (told : List Ruling) (xs ys : List Disposition) → AllGiven told xs → AllGiven told ys → AllGiven told (xs ++ ys)
given_both told [] ys h k = k
given_both told (x ∷ xs) ys h k = (h.0, given_both told xs ys h.1 k)

rulings_both : (xs ys : List FrameBody) → rulings (xs ++ ys) ≡ rulings xs ++ rulings ys
rulings_both xs ys = flat_map-append ruling_in xs ys

lives_give : (told : List Ruling) (lives : List Life) → Each (λ (r : Ruling). IsAmong r told) (given_by lives) → AreSilent lives → AllGiven told (rulings (written_by lives))
lives_give told [] h k = tt
lives_give told (x ∷ xs) h k =
    subst (λ ys. AllGiven told ys) (sym (rulings_both (written_in x) (written_by xs)))
    (given_both told (rulings (written_in x)) (rulings (written_by xs))
    (says_given told x.receiver x.moves (each_first (λ (r : Ruling). IsAmong r told) (given_in x) (given_by xs) h) k.0)
    (lives_give told xs (each_last (λ (r : Ruling). IsAmong r told) (given_in x) (given_by xs) h) k.1))

-- ---- from session to session

-- a Disposition of a receiver says what was given
abbrev Rules : List Ruling → Disposition → Type 0
Rules told x = x.role ≡ role.Receiver → IsGiven told x

-- each is a receiver's that has told so
not_both : ◌≡◌ {A = Role} role.Receiver role.Sender → ⊥
not_both h = cc

ruled : (told : List Ruling) (x : Disposition) (r : Role) → x.role ≡ r → ((y : Disposition) → IsAmong y (by_receiver r x) → IsGiven told y) → Rules told x
ruled told x role.Receiver e f = λ u. f x (inl refl)
ruled told x role.Sender e f = λ u. absurd (not_both (sym u ∙ e))

rules_last : Lasts (Any {X = Flow})
rules_last = record { stamps = λ w x h. tt; reports = λ w. tt }

says_one : (told : List Ruling) (x : FrameBody) → ((y : Disposition) → IsAmong y (ruling_in x) → IsGiven told y) → Says (Any {X = Flow}) (Rules told) x
says_one told (b.Disposition x) f = ruled told x x.role refl f
says_one told other f = tt

says_all : (told : List Ruling) (xs : List FrameBody) → ((y : Disposition) → IsAmong y (rulings xs) → IsGiven told y) → Each (Says (Any {X = Flow}) (Rules told)) xs
says_all told [] f = tt
says_all told (x ∷ xs) f = (says_one told x (λ y a. f y (among_first y (ruling_in x) (rulings xs) a)), says_all told xs (λ y a. f y (among_last y (ruling_in x) (rulings xs) a)))

-- and back
said_by : (told : List Ruling) (x : Disposition) (r : Role) (y : Disposition) → x.role ≡ r → Rules told x → IsAmong y (by_receiver r x) → IsGiven told y
said_by told x role.Receiver y e h (inl i) = subst (λ (z : Disposition). IsGiven told z) (sym i) (h e)
said_by told x role.Receiver y e h (inr a) = absurd a
said_by told x role.Sender y e h a = absurd a

said_one : (told : List Ruling) (x : FrameBody) (y : Disposition) → Says (Any {X = Flow}) (Rules told) x → IsAmong y (ruling_in x) → IsGiven told y
said_one told (b.Disposition x) y h a = said_by told x x.role y refl h a
said_one told other y h a = absurd a

said_all : (told : List Ruling) (xs : List FrameBody) (y : Disposition) → Each (Says (Any {X = Flow}) (Rules told)) xs → IsAmong y (rulings xs) → IsGiven told y
said_all told [] y h a = absurd a
said_all told (x ∷ xs) y h a = by (λ i. said_all told xs y h.1 i) (either y (ruling_in x) (rulings xs) a)
  where
    by : (IsAmong y (rulings xs) → IsGiven told y) → IsAmong y (ruling_in x) ⊎ IsAmong y (rulings xs) → IsGiven told y
    by f (inl i) = said_one told x y h.0 i
    by f (inr i) = f i

-- what the links are handed
handed_well : (handle : ℕ) (s : Sender) (ms : List sending.Move) (t : Session) (ns : List session.Move) (u : Session) (is : List session.Move) (lives : List Life) → Back handle s ms t ns u is lives
    → Each (Gets (Any {X = Flow}) (Rules (given_by lives))) (handed_over t ns)
handed_well handle s ms t ns u is lives k =
    let gave = given_by lives in
    let F = Any {X = Flow} in
    let D = Rules gave in
    let says = lives_give gave lives (each_all (λ (r : Ruling). IsAmong r gave) gave (λ r a. a)) k.silent in
    let spoke = says_all gave (spoken u is) (λ y a. given_at gave (rulings (written_by lives)) y (are_at (rulings (spoken u is)) (rulings (written_by lives)) y k.takes a) says) in
    let first = says_all gave (bodies u.output) (λ y a. none_among {P = IsGiven gave y} y (rulings (bodies u.output)) k.unsaid a) in
    let wrote = bodies_each (Says F D) (session.written u is) (writes_said F D rules_last u is spoke first) in
    let read = says_all gave (bodies (frames_heard ns)) (λ y a. said_all gave (bodies (session.written u is)) y wrote (are_at (rulings (bodies (frames_heard ns))) (rulings (bodies (session.written u is))) y k.hears a)) in
    let old = says_all gave (brought t.incoming) (λ y a. none_among {P = IsGiven gave y} y (rulings (brought t.incoming)) k.unhanded a) in
    hands_said F D t ns read (gets_all F D t.incoming old)

-- ---- together

learnt : (gave : List Ruling) (ds : List Delivery) (handle : ℕ) (base parts later : List Part) (t : Session) (ns : List session.Move) (w : News) (x : Settlement) → lefts t.incoming ≡ []
    → on handle (session.transfers (session.written t ns)) ≡ base ++ parts → base ≡ [] → Carry (map whole_of ds) (parts ++ later)
    → Each (Gets (Any {X = Flow}) (Rules gave)) (handed_over t ns) → IsNews (handed_over t ns) handle w → x ≡ settlement_of w.state → Learnt ds gave w.delivery.delivery_tag x
learnt gave ds handle base parts later t ns w x none o e c h n is =
    let rules : Rules gave n.disposition = each_at (Gets (Any {X = Flow}) (Rules gave)) (handed_over t ns) (input.Disposition n.disposition) n.among h in
    let g = rules n.by_receiver in
    let out = left_written t ns none n.left.delivery n.left.among in
    let f = out_found handle ds (session.transfers (session.written t ns)) base parts later n.left.delivery w.delivery.delivery_id w.delivery.delivery_tag o e c out n.left.is_handle n.left.is_number n.left.is_tag in
    let i = in_order n.disposition.first (last_of n.disposition) w.delivery.delivery_id g.order n.short n.left.short n.within in
    record {
      delivery = f.delivery;
      among = f.among;
      is_tag = f.is_tag;
      state = g.state;
      is = is ∙ ap settlement_of (n.state ∙ g.says);
      was_given = subst (λ (m : ℕ). IsAmong (record { number = m; state = g.state }) gave) (sym f.is_number) (g.each w.delivery.delivery_id i.above i.below);
    }

pub outcomes_return : OutcomesReturn
outcomes_return handle s ms t ns u js is r ks others p k =
    let lives : List Life = record { receiver = r; moves = ks } ∷ others in
    let gave = given_by lives in
    let l = leave handle s ms t ns u js r ks p in
    let handed = handed_well handle s ms t ns u is lives k in
    let news_are = first_news (handed_over t ns) handle k.steps k.reads k.short in
    let hear : (tag : List ℕ) (x : Settlement) → IsAmong (tag, x) (heard ms) → Learnt l.deliveries gave tag x = (λ tag x a.
    (let y = news_heard ms tag x a in
    subst (λ (z : List ℕ). Learnt l.deliveries gave z x) y.is_tag
    (learnt gave l.deliveries handle (on handle (session.transfers t.output)) l.parts l.later t ns y.word x k.unleft l.output p.unwritten l.carried handed
    (each_at (IsNews (handed_over t ns) handle) (told handle [] k.steps) y.word (are_at (news ms) (told handle [] k.steps) y.word k.learns y.among) news_are) y.is))) in
    let apart : AreApart (map message_of l.deliveries ++ l.others) = subst (λ (ys : List Message). AreApart ys) l.all k.apart in
    let settled = subst (λ (ys : List Message). AreSettled (heard ms) ys (sending.after_all s ms).settlements) l.all (outcomes_were_heard s ms k.unknown k.unsettled) in
    record {
      deliveries = l.deliveries;
      others = l.others;
      all = l.all;
      answers = answer handle s ms t ns u js r ks p l;
      outcomes = all_known gave (heard ms) l.deliveries l.others (sending.after_all s ms).settlements
          (λ d a. known l.deliveries l.others gave (heard ms) apart d a hear) (λ m a. unknown l.deliveries l.others gave (heard ms) apart m a hear) settled;
    }
