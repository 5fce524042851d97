-- Histories of one end, joined.
use Rattle.std.proofs.Common.{◌≡◌, ℕ, List, [], ◌∷◌, ◌++◌, refl, sym, ap, ◌∙◌, subst, append_assoc}
use Rattle.std.proofs.lemmas.List.{append-nil}
use Rattle.amqp_wire.specs.Events.{LinkEvent}
use Rattle.amqp_transport.specs.declared.frames.Frame.{Frame}
use Rattle.amqp_words.specs.declared.call.Call.{Call}
use Rattle.amqp_words.specs.declared.reply.NamedReply.{NamedReply}
use Rattle.amqp_peer.specs.History.{Local, Made, Polled, AtLink, Exchanged, Got, Put, Replied, made_in, link_in, latest_in, given_in, sent_in, replied_in, moment_in, since_in, at_link, got, put, IsInside, Once}
use Rattle.amqp_peer.specs.Causes.{AllCaused}

-- ---- histories, one after another

pub made_in-append : (es h : List Local) → made_in (es ++ h) ≡ made_in es ++ made_in h
made_in-append [] h = refl
made_in-append (Made at name call ∷ es) h = ap (λ (u : List (ℕ × Call)). (name, call) ∷ u) (made_in-append es h)
made_in-append (Polled at ∷ es) h = made_in-append es h
made_in-append (AtLink x ∷ es) h = made_in-append es h
made_in-append (Exchanged ∷ es) h = made_in-append es h
made_in-append (Got x ∷ es) h = made_in-append es h
made_in-append (Put x ∷ es) h = made_in-append es h
made_in-append (Replied r ∷ es) h = made_in-append es h

pub link_in-append : (es h : List Local) → link_in (es ++ h) ≡ link_in es ++ link_in h
link_in-append [] h = refl
link_in-append (Made at name call ∷ es) h = link_in-append es h
link_in-append (Polled at ∷ es) h = link_in-append es h
link_in-append (AtLink x ∷ es) h = ap (λ (u : List LinkEvent). x ∷ u) (link_in-append es h)
link_in-append (Exchanged ∷ es) h = link_in-append es h
link_in-append (Got x ∷ es) h = link_in-append es h
link_in-append (Put x ∷ es) h = link_in-append es h
link_in-append (Replied r ∷ es) h = link_in-append es h

pub given_in-append : (es h : List Local) → given_in (es ++ h) ≡ given_in h ++ given_in es
given_in-append [] h = sym (append-nil (given_in h))
given_in-append (Made at name call ∷ es) h = given_in-append es h
given_in-append (Polled at ∷ es) h = given_in-append es h
given_in-append (AtLink x ∷ es) h = given_in-append es h
given_in-append (Exchanged ∷ es) h = given_in-append es h
given_in-append (Got x ∷ es) h = ap (λ (u : List Frame). u ++ x ∷ []) (given_in-append es h) ∙ append_assoc (given_in h) (given_in es) (x ∷ [])
given_in-append (Put x ∷ es) h = given_in-append es h
given_in-append (Replied r ∷ es) h = given_in-append es h

pub sent_in-append : (es h : List Local) → sent_in (es ++ h) ≡ sent_in h ++ sent_in es
sent_in-append [] h = sym (append-nil (sent_in h))
sent_in-append (Made at name call ∷ es) h = sent_in-append es h
sent_in-append (Polled at ∷ es) h = sent_in-append es h
sent_in-append (AtLink x ∷ es) h = sent_in-append es h
sent_in-append (Exchanged ∷ es) h = sent_in-append es h
sent_in-append (Got x ∷ es) h = sent_in-append es h
sent_in-append (Put x ∷ es) h = ap (λ (u : List Frame). u ++ x ∷ []) (sent_in-append es h) ∙ append_assoc (sent_in h) (sent_in es) (x ∷ [])
sent_in-append (Replied r ∷ es) h = sent_in-append es h

pub replied_in-append : (es h : List Local) → replied_in (es ++ h) ≡ replied_in h ++ replied_in es
replied_in-append [] h = sym (append-nil (replied_in h))
replied_in-append (Made at name call ∷ es) h = replied_in-append es h
replied_in-append (Polled at ∷ es) h = replied_in-append es h
replied_in-append (AtLink x ∷ es) h = replied_in-append es h
replied_in-append (Exchanged ∷ es) h = replied_in-append es h
replied_in-append (Got x ∷ es) h = replied_in-append es h
replied_in-append (Put x ∷ es) h = replied_in-append es h
replied_in-append (Replied r ∷ es) h = ap (λ (u : List NamedReply). u ++ r ∷ []) (replied_in-append es h) ∙ append_assoc (replied_in h) (replied_in es) (r ∷ [])

-- ---- what passed inside a step
pub inside-append : (es h : List Local) → IsInside es → IsInside h → IsInside (es ++ h)
inside-append [] h p q = q
inside-append (Made at name call ∷ es) h p q = absurd p
inside-append (Polled at ∷ es) h p q = absurd p
inside-append (AtLink x ∷ es) h p q = inside-append es h p q
inside-append (Exchanged ∷ es) h p q = inside-append es h p q
inside-append (Got x ∷ es) h p q = inside-append es h p q
inside-append (Put x ∷ es) h p q = inside-append es h p q
inside-append (Replied r ∷ es) h p q = inside-append es h p q

pub made_in-inside : (es : List Local) → IsInside es → made_in es ≡ []
made_in-inside [] p = refl
made_in-inside (Made at name call ∷ es) p = absurd p
made_in-inside (Polled at ∷ es) p = absurd p
made_in-inside (AtLink x ∷ es) p = made_in-inside es p
made_in-inside (Exchanged ∷ es) p = made_in-inside es p
made_in-inside (Got x ∷ es) p = made_in-inside es p
made_in-inside (Put x ∷ es) p = made_in-inside es p
made_in-inside (Replied r ∷ es) p = made_in-inside es p

pub moment_in-inside : (es h : List Local) → IsInside es → moment_in (es ++ h) ≡ moment_in h
moment_in-inside [] h p = refl
moment_in-inside (Made at name call ∷ es) h p = absurd p
moment_in-inside (Polled at ∷ es) h p = absurd p
moment_in-inside (AtLink x ∷ es) h p = moment_in-inside es h p
moment_in-inside (Exchanged ∷ es) h p = moment_in-inside es h p
moment_in-inside (Got x ∷ es) h p = moment_in-inside es h p
moment_in-inside (Put x ∷ es) h p = moment_in-inside es h p
moment_in-inside (Replied r ∷ es) h p = moment_in-inside es h p

pub latest_in-inside : (es h : List Local) → IsInside es → latest_in (es ++ h) ≡ link_in es ++ latest_in h
latest_in-inside [] h p = refl
latest_in-inside (Made at name call ∷ es) h p = absurd p
latest_in-inside (Polled at ∷ es) h p = absurd p
latest_in-inside (AtLink x ∷ es) h p = ap (λ (u : List LinkEvent). x ∷ u) (latest_in-inside es h p)
latest_in-inside (Exchanged ∷ es) h p = latest_in-inside es h p
latest_in-inside (Got x ∷ es) h p = latest_in-inside es h p
latest_in-inside (Put x ∷ es) h p = latest_in-inside es h p
latest_in-inside (Replied r ∷ es) h p = latest_in-inside es h p

pub made_in-keeps : (es h : List Local) → IsInside es → made_in (es ++ h) ≡ made_in h
made_in-keeps es h p = made_in-append es h ∙ ap (λ (u : List (ℕ × Call)). u ++ made_in h) (made_in-inside es p)

-- ---- what passed at the link alone

pub given_in-at : (es : List LinkEvent) → given_in (at_link es) ≡ []
given_in-at [] = refl
given_in-at (x ∷ es) = given_in-at es

pub sent_in-at : (es : List LinkEvent) → sent_in (at_link es) ≡ []
sent_in-at [] = refl
sent_in-at (x ∷ es) = sent_in-at es

pub replied_in-at : (es : List LinkEvent) → replied_in (at_link es) ≡ []
replied_in-at [] = refl
replied_in-at (x ∷ es) = replied_in-at es

pub link_in-at : (es : List LinkEvent) → link_in (at_link es) ≡ es
link_in-at [] = refl
link_in-at (x ∷ es) = ap (λ (u : List LinkEvent). x ∷ u) (link_in-at es)

pub inside-at : (es : List LinkEvent) → IsInside (at_link es)
inside-at [] = tt
inside-at (x ∷ es) = inside-at es

pub since_in-at : (es : List LinkEvent) (h : List Local) → since_in (at_link es ++ h) ≡ since_in h
since_in-at [] h = refl
since_in-at (x ∷ es) h = since_in-at es h

pub caused-at : (es : List LinkEvent) (h : List Local) → AllCaused h → AllCaused (at_link es ++ h)
caused-at [] h c = c
caused-at (x ∷ es) h c = caused-at es h c

-- ---- frames alone

pub given_in-got : (xs : List Frame) → given_in (got xs) ≡ xs
given_in-got [] = refl
given_in-got (x ∷ xs) = given_in-append (got xs) (Got x ∷ []) ∙ ap (λ (u : List Frame). x ∷ u) (given_in-got xs)

pub sent_in-got : (xs : List Frame) → sent_in (got xs) ≡ []
sent_in-got [] = refl
sent_in-got (x ∷ xs) = sent_in-append (got xs) (Got x ∷ []) ∙ sent_in-got xs

pub link_in-got : (xs : List Frame) → link_in (got xs) ≡ []
link_in-got [] = refl
link_in-got (x ∷ xs) = link_in-append (got xs) (Got x ∷ []) ∙ append-nil (link_in (got xs)) ∙ link_in-got xs

pub replied_in-got : (xs : List Frame) → replied_in (got xs) ≡ []
replied_in-got [] = refl
replied_in-got (x ∷ xs) = replied_in-append (got xs) (Got x ∷ []) ∙ replied_in-got xs

pub inside-got : (xs : List Frame) → IsInside (got xs)
inside-got [] = tt
inside-got (x ∷ xs) = inside-append (got xs) (Got x ∷ []) (inside-got xs) tt

pub caused-got : (xs : List Frame) (h : List Local) → AllCaused h → AllCaused (got xs ++ h)
caused-got [] h c = c
caused-got (x ∷ xs) h c = subst AllCaused (sym (append_assoc (got xs) (Got x ∷ []) h)) (caused-got xs (Got x ∷ h) c)

pub sent_in-put : (xs : List Frame) → sent_in (put xs) ≡ xs
sent_in-put [] = refl
sent_in-put (x ∷ xs) = sent_in-append (put xs) (Put x ∷ []) ∙ ap (λ (u : List Frame). x ∷ u) (sent_in-put xs)

pub given_in-put : (xs : List Frame) → given_in (put xs) ≡ []
given_in-put [] = refl
given_in-put (x ∷ xs) = given_in-append (put xs) (Put x ∷ []) ∙ given_in-put xs

pub link_in-put : (xs : List Frame) → link_in (put xs) ≡ []
link_in-put [] = refl
link_in-put (x ∷ xs) = link_in-append (put xs) (Put x ∷ []) ∙ append-nil (link_in (put xs)) ∙ link_in-put xs

pub replied_in-put : (xs : List Frame) → replied_in (put xs) ≡ []
replied_in-put [] = refl
replied_in-put (x ∷ xs) = replied_in-append (put xs) (Put x ∷ []) ∙ replied_in-put xs

pub inside-put : (xs : List Frame) → IsInside (put xs)
inside-put [] = tt
inside-put (x ∷ xs) = inside-append (put xs) (Put x ∷ []) (inside-put xs) tt

pub caused-put : (xs : List Frame) (h : List Local) → AllCaused h → AllCaused (put xs ++ h)
caused-put [] h c = c
caused-put (x ∷ xs) h c = subst AllCaused (sym (append_assoc (put xs) (Put x ∷ []) h)) (caused-put xs (Put x ∷ h) c)

pub since_in-put : (xs : List Frame) (h : List Local) → since_in (put xs ++ h) ≡ since_in h
since_in-put [] h = refl
since_in-put (x ∷ xs) h = ap since_in (append_assoc (put xs) (Put x ∷ []) h) ∙ since_in-put xs (Put x ∷ h)

-- ---- what held once
pub once_now : (P : List Local → Type 0) (h : List Local) → P h → Once P h
once_now P h p = record { later = []; earlier = h; split = refl; held = p }

pub once_more : (P : List Local → Type 0) (es h : List Local) → Once P h → Once P (es ++ h)
once_more P es h o = record { later = es ++ o.later; earlier = o.earlier; split = ap (λ (u : List Local). es ++ u) o.split ∙ sym (append_assoc es o.later o.earlier); held = o.held }
