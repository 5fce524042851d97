-- What an event adds to the past, and a step to an end's own history.
use Rattle.std.proofs.Common.{◌≡◌, ◌+◌, List, ℕ, [], ◌∷◌, ◌++◌, Bool, true, false, length, refl, sym, ap, ◌∙◌, subst, arith}
use Rattle.amqp_wire.specs.Events.{LinkEvent, read_of, wrote_of}
use Rattle.amqp_wire.proofs.Events.{read_of-append, wrote_of-append}
use Rattle.amqp_words.specs.declared.reply.NamedReply.{NamedReply}
use Rattle.amqp_peer.specs.Frames.{sessions_of}
use Rattle.amqp_peer.specs.History.{Local, made_in, link_in, sent_in, replied_in, read_in, wrote_in, IsInside}
use Rattle.amqp_peer.proofs.Laws.{link_in-append, replied_in-append}
use Rattle.amqp_peer.proofs.Histories.{made_in-keeps}
use Rattle.amqp_peer.proofs.Unsaid.{unsaid_join}
use Rattle.amqp_words.specs.declared.step.End.{End}
use Rattle.amqp_words.specs.declared.step.Act.{Act}
use Rattle.amqp_words.specs.declared.step.Act.TheVariants.{Take, TakeAll, Call}
use Rattle.amqp_words.specs.declared.step.Step.{Step}
use Rattle.amqp_words.specs.declared.trace.Entry.{Entry}
use Rattle.amqp_world.specs.History.{Event, wrote, taken, moved, calls, called, begun, replied, other, is_same}
use Rattle.amqp_world.specs.Causes.{Adds, Choose, Follows}
use Rattle.amqp_world.specs.Explains.{onto, past_of}

-- what an event adds at its own end, and at the other

pub wrote_near : (e : End) (x : Event) (past : List Event) → is_same e x.step.end ≡ true → wrote e (x ∷ past) ≡ wrote e past ++ x.entry.wrote
wrote_near e x past q = rw q refl

pub wrote_far : (e : End) (x : Event) (past : List Event) → is_same e x.step.end ≡ false → wrote e (x ∷ past) ≡ wrote e past
wrote_far e x past q = rw q refl

pub taken_near : (e : End) (x : Event) (past : List Event) → is_same e x.step.end ≡ true → taken e (x ∷ past) ≡ moved x.step.act (taken e past) (length (wrote (other e) past))
taken_near e x past q = rw q refl

pub taken_far : (e : End) (x : Event) (past : List Event) → is_same e x.step.end ≡ false → taken e (x ∷ past) ≡ taken e past
taken_far e x past q = rw q refl

pub calls_near : (e : End) (x : Event) (past : List Event) → is_same e x.step.end ≡ true → calls e (x ∷ past) ≡ called x.step.act (length past) (calls e past)
calls_near e x past q = rw q refl

pub calls_far : (e : End) (x : Event) (past : List Event) → is_same e x.step.end ≡ false → calls e (x ∷ past) ≡ calls e past
calls_far e x past q = rw q refl

pub replied_near : (e : End) (x : Event) (past : List Event) → is_same e x.step.end ≡ true → replied e (x ∷ past) ≡ replied e past ++ x.entry.replies
replied_near e x past q = rw q refl

pub replied_far : (e : End) (x : Event) (past : List Event) → is_same e x.step.end ≡ false → replied e (x ∷ past) ≡ replied e past
replied_far e x past q = rw q refl

-- a history that follows the past, at the end of an event and at the other

pub follows_near : (e : End) (x : Event) (past : List Event) (before h : List Local) → is_same e x.step.end ≡ true → Adds e x past before h → Follows e past before → Follows e (x ∷ past) h
follows_near e x past before h q a f = subst (λ (b : Bool). Choose b ((u : List Local) × Adds e x past u h × Follows e past u) (Follows e past h)) (sym q) (before, a, f)

pub follows_far : (e : End) (x : Event) (past : List Event) (h : List Local) → is_same e x.step.end ≡ false → Follows e past h → Follows e (x ∷ past) h
follows_far e x past h q f = subst (λ (b : Bool). Choose b ((u : List Local) × Adds e x past u h × Follows e past u) (Follows e past h)) (sym q) f

-- what a step adds to the history of its end

made_begun : (at name : ℕ) (act : Act) (h : List Local) → made_in (begun at name act ∷ h) ≡ called act name (made_in h)
made_begun at name (Take n) h = refl
made_begun at name TakeAll h = refl
made_begun at name (Call call) h = refl

link_begun : (at name : ℕ) (act : Act) (h : List Local) → link_in (begun at name act ∷ h) ≡ link_in h
link_begun at name (Take n) h = refl
link_begun at name TakeAll h = refl
link_begun at name (Call call) h = refl

replied_begun : (at name : ℕ) (act : Act) (h : List Local) → replied_in (begun at name act ∷ h) ≡ replied_in h
replied_begun at name (Take n) h = refl
replied_begun at name TakeAll h = refl
replied_begun at name (Call call) h = refl

sent_begun : (at name : ℕ) (act : Act) (h : List Local) → sent_in (begun at name act ∷ h) ≡ sent_in h
sent_begun at name (Take n) h = refl
sent_begun at name TakeAll h = refl
sent_begun at name (Call call) h = refl

pub unsaid_grown : (es h : List Local) (at name : ℕ) (act : Act) → sessions_of (sent_in es) ≡ [] → sessions_of (sent_in h) ≡ [] → sessions_of (sent_in (es ++ begun at name act ∷ h)) ≡ []
unsaid_grown es h at name act e k = unsaid_join es (begun at name act ∷ h) e (ap sessions_of (sent_begun at name act h) ∙ k)

pub made_grown : (es h : List Local) (at name : ℕ) (act : Act) → IsInside es → made_in (es ++ begun at name act ∷ h) ≡ called act name (made_in h)
made_grown es h at name act inside = made_in-keeps es (begun at name act ∷ h) inside ∙ made_begun at name act h

pub link_grown : (es h : List Local) (at name : ℕ) (act : Act) → link_in (es ++ begun at name act ∷ h) ≡ link_in es ++ link_in h
link_grown es h at name act = link_in-append es (begun at name act ∷ h) ∙ ap (λ (u : List LinkEvent). link_in es ++ u) (link_begun at name act h)

pub replied_grown : (es h : List Local) (at name : ℕ) (act : Act) → replied_in (es ++ begun at name act ∷ h) ≡ replied_in h ++ replied_in es
replied_grown es h at name act = replied_in-append es (begun at name act ∷ h) ∙ ap (λ (u : List NamedReply). u ++ replied_in es) (replied_begun at name act h)

pub read_grown : (es h : List Local) (at name : ℕ) (act : Act) → read_in (es ++ begun at name act ∷ h) ≡ read_in h ++ read_in es
read_grown es h at name act = ap read_of (link_grown es h at name act) ∙ read_of-append (link_in es) (link_in h)

pub wrote_grown : (es h : List Local) (at name : ℕ) (act : Act) → wrote_in (es ++ begun at name act ∷ h) ≡ wrote_in h ++ wrote_in es
wrote_grown es h at name act = ap wrote_of (link_grown es h at name act) ∙ wrote_of-append (link_in es) (link_in h)

-- a step and an entry more
onto_more : (past : List Event) (ss : List Step) (xs : List Entry) (s : Step) (x : Entry) → length ss ≡ length xs → onto past (ss ++ s ∷ []) (xs ++ x ∷ []) ≡ record { step = s; entry = x } ∷ onto past ss xs
onto_more past [] [] s x e = refl
onto_more past (t ∷ ss) (y ∷ xs) s x e = onto_more (record { step = t; entry = y } ∷ past) ss xs s x (omega arith)
onto_more past [] (y ∷ xs) s x e = absurd (omega arith)
onto_more past (t ∷ ss) [] s x e = absurd (omega arith)

pub past_more : (ss : List Step) (xs : List Entry) (s : Step) (x : Entry) → length ss ≡ length xs → past_of (ss ++ s ∷ []) (xs ++ x ∷ []) ≡ record { step = s; entry = x } ∷ past_of ss xs
past_more ss xs s x e = onto_more [] ss xs s x e

length-onto : (past : List Event) (ss : List Step) (xs : List Entry) → length ss ≡ length xs → length (onto past ss xs) ≡ length past + length ss
length-onto past [] [] e = omega arith
length-onto past (t ∷ ss) (y ∷ xs) e = let h : length (onto (record { step = t; entry = y } ∷ past) ss xs) ≡ length past + 1 + length ss = length-onto (record { step = t; entry = y } ∷ past) ss xs (omega arith) ∙ omega arith in omega arith
length-onto past [] (y ∷ xs) e = absurd (omega arith)
length-onto past (t ∷ ss) [] e = absurd (omega arith)

pub length-past_of : (ss : List Step) (xs : List Entry) → length ss ≡ length xs → length (past_of ss xs) ≡ length ss
length-past_of ss xs e = length-onto [] ss xs e ∙ omega arith
