-- What a call waits for where nothing is in flight (OASIS AMQP 1.0, part 2, section 2.4).
use Rattle.std.specs.Prelude.{◌≡◌, ◌⊎◌, ◌≤◌, ℕ, List, [], ◌∷◌, ◌++◌, length, Option}
use Rattle.amqp_peer.specs.amqp_words.declared.call.Call.{Call}
use Rattle.amqp_peer.specs.amqp_words.declared.call.Call.TheVariants.{Close}
use Rattle.amqp_peer.specs.amqp_words.declared.open_error.OpenError.{OpenError}
use Rattle.amqp_peer.specs.Causes.{AllCaused, IsBroken, HasHeader, IsTied}
use Rattle.amqp_peer.specs.History.{Local, made_in, link_in, replied_in, read_in, wrote_in}
use Rattle.amqp_peer.specs.Layers.{layer_in, HasLayer}
use Rattle.amqp_peer.specs.Replies.{AreReplies, IsOpenRefusal}
use Rattle.amqp_peer.specs.Rest.{OpenWaits, CloseWaits}
use Rattle.amqp_peer.specs.Said.{HasSaid}
use Rattle.amqp_ends.specs.Joined.{IsCalm}
use Rattle.amqp_ends.specs.Quiet.{AreOpposite}
use Rattle.amqp_ends.specs.Standing.{IsVast, Stands}

-- ---- two ends

-- the replies of an end have their form and their causes
pub record IsAnswered (h : List Local) : Type 0 where
  pub replies : AreReplies (made_in h) (replied_in h)
  pub caused : AllCaused h

-- two ends of which each has been given all that the other wrote, but for what its link still holds
pub record AreStill (h far : List Local) (left far_left : List ℕ) : Type 0 where
  pub stands : Stands h left
  pub far_stands : Stands far far_left
  pub reads : read_in h ++ left ≡ wrote_in far
  pub far_reads : read_in far ++ far_left ≡ wrote_in h
  pub calm : IsCalm (link_in h)
  pub far_calm : IsCalm (link_in far)
  pub tied : IsTied h
  pub far_tied : IsTied far
  pub said : HasSaid h
  pub far_said : HasSaid far
  pub layer : HasLayer (layer_in (made_in h)) h
  pub far_layer : HasLayer (layer_in (made_in far)) far
  pub kinds : AreOpposite (made_in h) (made_in far)
  pub answered : IsAnswered h
  pub far_answered : IsAnswered far

-- ---- why a call may wait

-- the last of these calls is a close
abbrev pub LastCloses : List (ℕ × Call) → Type 0
LastCloses calls = (name : ℕ) × (condition : Option (List ℕ)) × (earlier : List (ℕ × Call)) × (calls ≡ (name, Close condition) ∷ earlier)

-- an open or accept was refused
abbrev pub HasRefused : List Local → Type 0
HasRefused h = (name : ℕ) × (error : OpenError) × IsOpenRefusal name error (replied_in h)

-- the transport of one of the ends failed, as for its idle time or an own frame that was too large, or a great many reads or frames came
pub data HasFailed (h far : List Local) : Type 0 where
  own : IsBroken h → HasFailed h far
  other : IsBroken far → HasFailed h far
  many : IsVast h ⊎ IsVast far → HasFailed h far

-- the connection is at its end: it failed, or the open or accept of the other end was refused
pub data IsEnded (h far : List Local) : Type 0 where
  failed : HasFailed h far → IsEnded h far
  refused : HasRefused far → IsEnded h far

-- An open or accept waits for the call of the other end, and a close for nothing but a failure. Where both ends were called, this one has
-- written its AMQP header, unless one of them was refused or failed.
pub record Wants (h far : List Local) : Type 0 where
  pub opening : OpenWaits h → (made_in far ≡ []) ⊎ IsEnded h far
  pub closing : CloseWaits h → HasFailed h far
  pub header : 1 ≤ length (made_in h) → 1 ≤ length (made_in far) → HasHeader h ⊎ ((HasRefused h ⊎ HasRefused far) ⊎ HasFailed h far)
