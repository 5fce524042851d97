-- What sessions and links do together, one deed after another.
use Rattle.std.specs.Prelude.{◌≡◌, ℕ, List, [], ◌∷◌, ◌++◌, refl}
use Rattle.std.proofs.Common.{sym, ◌∙◌, ap, subst, append_assoc}
use Rattle.std.proofs.lemmas.Grind.{flat_map-append}
use Rattle.std.proofs.lemmas.List.{append-nil}
use Rattle.amqp_wire.specs.declared.link.Link.{Ghosts}
use Rattle.amqp_peer.specs.Peering.{Peering}
use Rattle.amqp_links.specs.State.{State as Links}
use Rattle.amqp_sessions.specs.State.{State as Sessions}
use Rattle.amqp_end.specs.Deeds as end
use Rattle.link_lives.specs.Deeds as links
use Rattle.link_lives.specs.Deeds.{handed, all_handed}
use Rattle.session_lives.specs.Deeds as sessions
use Rattle.session_lives.specs.Deeds.{gave_of, gave_in}
use Rattle.world_lives.specs.EndLives.Ends.{sessions_of, sessions_in, links_of, heard_of, heard_in, taken_of, taken_in, Together}
use Rattle.world_lives.proofs.EndLives.Deeds.{ends_do}
use Rattle.world_lives.specs.Lived.{Both, sessions_by, links_by, both_in}

-- ---- lists of deeds

sessions_more : (old mid new : Sessions) (ds es : List sessions.Deed) → sessions.Did old ds mid → sessions.Did mid es new → sessions.Did old (ds ++ es) new
sessions_more old mid new [] es p q = subst (λ s. sessions.Did s es new) p q
sessions_more old mid new (d ∷ ds) es p q = (p.0, (p.1.0, sessions_more p.0 mid new ds es p.1.1 q))

links_more : (old mid new : Links) (ds es : List links.Deed) → links.Did old ds mid → links.Did mid es new → links.Did old (ds ++ es) new
links_more old mid new [] es p q = subst (λ s. links.Did s es new) p q
links_more old mid new (d ∷ ds) es p q = (p.0, (p.1.0, links_more p.0 mid new ds es p.1.1 q))

gave_more : (ds es : List sessions.Deed) → gave_in (ds ++ es) ≡ gave_in ds ++ gave_in es
gave_more [] es = refl
gave_more (d ∷ ds) es = ap (λ xs. gave_of d ++ xs) (gave_more ds es) ∙ sym (append_assoc (gave_of d) (gave_in ds) (gave_in es))

taken_more : (ds es : List sessions.Deed) → taken_in (ds ++ es) ≡ taken_in ds ++ taken_in es
taken_more [] es = refl
taken_more (d ∷ ds) es = ap (λ xs. taken_of d ++ xs) (taken_more ds es) ∙ sym (append_assoc (taken_of d) (taken_in ds) (taken_in es))

heard_more : (ds es : List links.Deed) → heard_in (ds ++ es) ≡ heard_in ds ++ heard_in es
heard_more [] es = refl
heard_more (d ∷ ds) es = ap (λ xs. heard_of d ++ xs) (heard_more ds es) ∙ sym (append_assoc (heard_of d) (heard_in ds) (heard_in es))

handed_more : (ds es : List links.Deed) → all_handed (ds ++ es) ≡ all_handed ds ++ all_handed es
handed_more [] es = refl
handed_more (d ∷ ds) es = ap (λ xs. handed d ++ xs) (handed_more ds es) ∙ sym (append_assoc (handed d) (all_handed ds) (all_handed es))

pub sessions_by_more : (xs ys : List Both) → sessions_by (xs ++ ys) ≡ sessions_by xs ++ sessions_by ys
sessions_by_more xs ys = flat_map-append (λ (x : Both). x.sessions) xs ys

-- ---- together

together_still : (s t : Sessions) (l m : Links) → t ≡ s → m ≡ l → Together s [] t l [] m
together_still s t l m a b = record { sessions_did = a; links_did = b; heard = refl; taken = refl }

together_then : (s t u : Sessions) (sd se : List sessions.Deed) (l m n : Links) (ld le : List links.Deed) → Together s sd t l ld m → Together t se u m le n → Together s (sd ++ se) u l (ld ++ le) n
together_then s t u sd se l m n ld le p q = record {
  sessions_did = sessions_more s t u sd se p.sessions_did q.sessions_did;
  links_did = links_more l m n ld le p.links_did q.links_did;
  heard = heard_more ld le ∙ (ap (λ xs. xs ++ heard_in le) p.heard ∙ (ap (λ xs. gave_in sd ++ xs) q.heard ∙ sym (gave_more sd se)));
  taken = handed_more ld le ∙ (ap (λ xs. xs ++ all_handed le) p.taken ∙ (ap (λ xs. taken_in sd ++ xs) q.taken ∙ sym (taken_more sd se)));
}

-- ---- runs

-- the sessions and the links did these, one after another
abbrev pub Run : Sessions → Links → List Both → Sessions → Links → Type 0
Run s l [] s' l' = (s' ≡ s) × (l' ≡ l)
Run s l (x ∷ xs) s' l' = (t : Sessions) × (m : Links) × Together s x.sessions t l x.links m × Run t m xs s' l'

pub run_as : (s t u v : Sessions) (l m n o : Links) (xs : List Both) → t ≡ s → m ≡ l → v ≡ u → o ≡ n → Run s l xs u n → Run t m xs v o
run_as s t u v l m n o xs a b c d k =
    subst (λ (x : Sessions). Run x m xs v o) (sym a)
    (subst (λ (x : Links). Run s x xs v o) (sym b)
    (subst (λ (x : Sessions). Run s l xs x o) (sym c)
    (subst (λ (x : Links). Run s l xs u x) (sym d) k)))

pub run_then : (s t u : Sessions) (l m n : Links) (xs ys : List Both) → Run s l xs t m → Run t m ys u n → Run s l (xs ++ ys) u n
run_then s t u l m n [] ys p q = run_as t s u u m l n n ys (sym p.0) (sym p.1) refl refl q
run_then s t u l m n (x ∷ xs) ys p q = (p.0, p.1, p.2, run_then p.0 t u p.1 m n xs ys p.3 q)

pub run_together : (s t : Sessions) (l m : Links) (xs : List Both) → Run s l xs t m → Together s (sessions_by xs) t l (links_by xs) m
run_together s t l m [] r = together_still s t l m r.0 r.1
run_together s t l m (x ∷ xs) r = together_then s r.0 t x.sessions (sessions_by xs) l r.1 m x.links (links_by xs) r.2 (run_together r.0 t r.1 m xs r.3)

-- where it stands between two deeds
pub record Halves (s : Sessions) (l : Links) (xs ys : List Both) (u : Sessions) (n : Links) : Type 0 where
  pub sessions : Sessions
  pub links : Links
  pub came : Run s l xs sessions links
  pub goes : Run sessions links ys u n

pub run_halves : (s u : Sessions) (l n : Links) (xs ys : List Both) → Run s l (xs ++ ys) u n → Halves s l xs ys u n
run_halves s u l n [] ys r = record { sessions = s; links = l; came = (refl, refl); goes = r }
run_halves s u l n (x ∷ xs) ys r =
    let h = run_halves r.0 u r.1 n xs ys r.3 in
    record { sessions = h.sessions; links = h.links; came = (r.0, r.1, r.2, h.came); goes = h.goes }

-- ---- deeds of an end

module _ {L : Type 0} (link : Ghosts L) (at : ℕ) where
  one_run : (q p' : Peering L) (t s' : Sessions) (m l' : Links) (d : end.Deed) → end.IsDeed link at q t m d p' s' l' → Run t m (record { sessions = sessions_of d; links = links_of at d t } ∷ []) s' l'
  one_run q p' t s' m l' d h =
      let k : Together t (sessions_of d) s' m (links_of at d t) l' = ends_do link at q t m (d ∷ []) p' s' l' (q, t, m, (refl, refl, refl), h) in
      (s', l', k, (refl, refl))

  pub end_run : (p : Peering L) (s : Sessions) (l : Links) (ds : List end.Deed) (p' : Peering L) (s' : Sessions) (l' : Links) (h : end.Did link at p s l ds p' s' l') → Run s l (both_in link at p s l ds p' s' l' h) s' l'
  end_run p s l [] p' s' l' h = (h.1, h.2)
  end_run p s l (d ∷ ds) p' s' l' h =
      run_then s h.1 s' l h.2 l' (both_in link at p s l ds h.0 h.1 h.2 h.3) (record { sessions = sessions_of d; links = links_of at d h.1 } ∷ [])
      (end_run p s l ds h.0 h.1 h.2 h.3) (one_run h.0 p' h.1 s' h.2 l' d h.4)

  -- those of the sessions
  pub end_sessions : (p : Peering L) (s : Sessions) (l : Links) (ds : List end.Deed) (p' : Peering L) (s' : Sessions) (l' : Links) (h : end.Did link at p s l ds p' s' l') → sessions_by (both_in link at p s l ds p' s' l' h) ≡ sessions_in ds
  end_sessions p s l [] p' s' l' h = refl
  end_sessions p s l (d ∷ ds) p' s' l' h =
      sessions_by_more (both_in link at p s l ds h.0 h.1 h.2 h.3) (record { sessions = sessions_of d; links = links_of at d h.1 } ∷ [])
      ∙ (ap (λ (xs : List sessions.Deed). xs ++ (sessions_of d ++ [])) (end_sessions p s l ds h.0 h.1 h.2 h.3) ∙ ap (λ (xs : List sessions.Deed). sessions_in ds ++ xs) (append-nil (sessions_of d)))

-- of deeds of which the newest stand first
pub newest_first : (ds es : List end.Deed) → sessions_in (ds ++ es) ≡ sessions_in es ++ sessions_in ds
newest_first [] es = sym (append-nil (sessions_in es))
newest_first (d ∷ ds) es = ap (λ (xs : List sessions.Deed). xs ++ sessions_of d) (newest_first ds es) ∙ append_assoc (sessions_in es) (sessions_in ds) (sessions_of d)
