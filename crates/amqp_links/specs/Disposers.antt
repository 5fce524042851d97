-- Disposers, and what names the deliveries that they dispose of (OASIS AMQP 1.0, part 2, section 2.6.12).
use Rattle.std.specs.Prelude.{ℕ, nat_eq, List, [], ◌∷◌, ◌++◌, Option, Some, None}
use Rattle.std.specs.Map.{lookup}
use Rattle.indexmap.specs.IndexMap.{insert_entry}
use Rattle.amqp_delivery.specs.declared.info.DeliveryInfo.{DeliveryInfo}
use Rattle.amqp_delivery.specs.declared.info.DisposerView.{DisposerView}
use Rattle.amqp_link_calls.specs.Called.{Called, with_side}
use Rattle.amqp_link_calls.specs.Disposers.{view_of, disposes_by}
use Rattle.amqp_link_calls.specs.amqp_link_words.declared.link_call.Disposal.{Disposal}
use Rattle.amqp_link_calls.specs.amqp_link_words.declared.link_reply.LinkReply.TheVariants as reply
use Rattle.amqp_links.specs.declared.links.GivenDelivery.{GivenDelivery}
use Rattle.amqp_links.specs.declared.links.KeptDisposer.{KeptDisposer}
use Rattle.amqp_links.specs.Numbering.{is_done, disposed_left}
use Rattle.amqp_links.specs.State.{State, link_of, with_link, answering}
use Rattle.amqp_links.specs.Taking.{taken_up}

-- what names the deliveries of those calls
abbrev pub info_at : Option GivenDelivery → List DeliveryInfo
info_at None = []
info_at (Some x) = x.info ∷ []

abbrev pub infos_of : List ℕ → List (ℕ × GivenDelivery) → List DeliveryInfo
infos_of [] given = []
infos_of (n ∷ ns) given = info_at (lookup (nat_eq n) given) ++ infos_of ns given

-- a disposer is known by the name of its call
abbrev pub disposer_kept : Option DisposerView → ℕ → ℕ → State → State
disposer_kept None name link s = s
disposer_kept (Some view) name link s =
    answering name reply.Disposer (record s { disposers = insert_entry nat_eq s.disposers name (record { link = link; view = view }) })

-- it keeps how the link stands
abbrev pub disposer_made : Option Called → ℕ → ℕ → State → State
disposer_made None name link s = s
disposer_made (Some l) name link s = disposer_kept (view_of l.side) name link s

-- a delivery is given a state by what a disposer keeps
abbrev pub disposing_with : Option Called → ℕ → KeptDisposer → Disposal → List DeliveryInfo → State → State
disposing_with None name x disposal infos s = s
disposing_with (Some l) name x disposal infos s =
    let m = disposes_by x.view disposal infos l.side in
    let t = disposed_left (is_done m.reply) x.link infos (with_link x.link (with_side m.side l) s) in
    taken_up x.link (answering name m.reply t)

abbrev pub disposing_by : Option KeptDisposer → ℕ → Disposal → ℕ → State → State
disposing_by None name disposal delivery s = s
disposing_by (Some x) name disposal delivery s =
    disposing_with (link_of x.link s) name x disposal (infos_of (delivery ∷ []) s.deliveries) s
