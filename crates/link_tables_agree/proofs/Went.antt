-- What a link with its calls keeps as it goes on.
use Rattle.std.specs.Prelude.{◌≡◌, ℕ, true, List}
use Rattle.std.proofs.Common.{sym, subst}
use Rattle.amqp_parts.specs.declared.part.Part.{Part}
use Rattle.amqp_link_calls.specs.Called.{Called}
use Rattle.amqp_link_calls.specs.Side.{Side, Sender, Receiver, link_of}
use Rattle.amqp_links.specs.Parts.{is_heard, handle_of, output_of}
use Rattle.amqp_link.specs.Link as link
use Rattle.link_lives.specs.Lives.{Event, Lives, Went}
use Rattle.link_tables_agree.proofs.Links.{Heard}
use Rattle.link_tables_agree.proofs.Says.{Say, AllTold}
use Rattle.link_tables_agree.proofs.Senders.{sender_speaks}
use Rattle.link_tables_agree.proofs.Receivers.{receiver_speaks}

-- where the Transfers that were to be written are on such handles, and its own is one while it is heard
abbrev pub Speaks : (Q : ℕ → Type 0) → Side → Type 0
Speaks Q s = Say Q (link_of s).output × (link.is_heard (link_of s).phase ≡ true → Q (link_of s).own.handle)

-- so they are behind it, and it has told no others
pub record Spoke (Q : ℕ → Type 0) (session : ℕ) (s t : Side) (es : List Event) : Type 0 where
  pub heard : Heard (link_of s) (link_of t)
  pub output : Say Q (link_of t).output
  pub told : AllTold Q session es

lives_speak : (Q : ℕ → Type 0) (session : ℕ) (s t : Side) (es : List Event) (ps : List Part) → Lives session s es ps t → Speaks Q s → Spoke Q session s t es
lives_speak Q session (Sender s) t es ps k p =
    let r = sender_speaks Q session s k.moves p.0 p.1 in
    subst (λ u. Spoke Q session (Sender s) u es) (sym k.behind) (record { heard = r.heard; output = r.output; told = subst (AllTold Q session) (sym k.told) r.told })
lives_speak Q session (Receiver s) t es ps k p =
    let r = receiver_speaks Q session s k.moves p.0 in
    subst (λ u. Spoke Q session (Receiver s) u es) (sym k.behind) (record { heard = r.heard; output = r.output; told = subst (AllTold Q session) (sym k.told) r.told })

pub went_speaks : (Q : ℕ → Type 0) (l m : Called) (es : List Event) (ps : List Part) → Went l es ps m → Say Q (output_of l) → (is_heard l ≡ true → Q (handle_of l)) → Spoke Q l.session l.side m.side es
went_speaks Q l m es ps w p q = lives_speak Q l.session l.side m.side es ps w.lives (p, q)
