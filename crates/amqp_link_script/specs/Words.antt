-- The words of links.
use Rattle.std.specs.Prelude.{List, ℕ, Option, Some, None, if◌then◌else◌, codes, bytes_eq}
use Rattle.amqp_link_script.specs.declared.words.LinkWord.{LinkWord}
use Rattle.amqp_link_script.specs.declared.words.LinkWord.TheVariants.{Sender, Receiver, AcceptLink, Send, Outcome, Recv, Dispose, SetCredit, Credit, CreditMode, Auto, Drain, SendProperties, Disposer, DisposerAccept, DisposerRelease, OnDetach, Detach, CloseLink, Abandon}

-- the word by which a link is left that the bytes are, if they are one
unfoldable pub parting_word_of : List ℕ → Option LinkWord
parting_word_of word =
    if bytes_eq word (codes "on_detach") then Some OnDetach else
    if bytes_eq word (codes "detach") then Some Detach else
    if bytes_eq word (codes "close_link") then Some CloseLink else
    if bytes_eq word (codes "abandon") then Some Abandon else None

-- the words by which a receiver goes on otherwise, and those of its disposers
unfoldable pub regulating_word_of : List ℕ → Option LinkWord
regulating_word_of word =
    if bytes_eq word (codes "credit_mode") then Some CreditMode else
    if bytes_eq word (codes "auto") then Some Auto else
    if bytes_eq word (codes "drain") then Some Drain else
    if bytes_eq word (codes "send_properties") then Some SendProperties else
    if bytes_eq word (codes "disposer") then Some Disposer else
    if bytes_eq word (codes "disposer_accept") then Some DisposerAccept else
    if bytes_eq word (codes "disposer_release") then Some DisposerRelease else parting_word_of word

-- the word of links that the bytes are, if they are one
unfoldable pub word_of : List ℕ → Option LinkWord
word_of word =
    if bytes_eq word (codes "sender") then Some Sender else
    if bytes_eq word (codes "receiver") then Some Receiver else
    if bytes_eq word (codes "accept_link") then Some AcceptLink else
    if bytes_eq word (codes "send") then Some Send else
    if bytes_eq word (codes "outcome") then Some Outcome else
    if bytes_eq word (codes "recv") then Some Recv else
    if bytes_eq word (codes "dispose") then Some Dispose else
    if bytes_eq word (codes "set_credit") then Some SetCredit else
    if bytes_eq word (codes "credit") then Some Credit else regulating_word_of word
