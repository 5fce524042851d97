-- What follows of URLs and of what is said beside them.
use Rattle.std.proofs.Common.{◌≡◌, ◌∙◌, ℕ, List, Option, Some, None, Ok, ap}
use Rattle.std.specs.Prelude.{codes, option_map}
use Rattle.percent_encoding.specs.Percent.{percent_decode}
use Rattle.url.specs.declared.host.Host.{Host}
use Rattle.url.specs.Host.{host_text}
use Rattle.url.specs.Parser.{parse_url}
use Rattle.url.specs.Parts.{Parts, nonempty_host}
use Rattle.sasl_exchange.specs.UserInfo.{HasUserInfo}
use Rattle.sasl_exchange.specs.declared.profile.SaslProfile.{SaslProfile}
use Rattle.sasl_exchange.specs.declared.profile.SaslProfile.TheVariants as profile
use Rattle.amqp_waiting_words.specs.declared.command.Mechanism.{Mechanism}
use Rattle.amqp_clients.specs.Peers.{NamesPeer, scram_with, IsPlain, IsScram}

-- a host that has a text is there
is_there : (host : List ℕ) (h : Option (Host (List ℕ))) → Some host ≡ option_map host_text h → h ≡ None → ⊥
is_there host (Some x) e none = (cc)
is_there host None e none = (cc)

pub names_peer : (text : List ℕ) (url : Parts) (host : List ℕ) → parse_url None text ≡ Ok url → url.scheme ≡ codes "amqp" → Some host ≡ option_map host_text (nonempty_host url) → NamesPeer text url
names_peer text url host is scheme there = record { is = is; scheme = scheme; host = is_there host (nonempty_host url) there }

pub plain_by : (url : Parts) (p : SaslProfile) → HasUserInfo url → p ≡ profile.Plain (percent_decode url.username) (percent_decode url.password) → IsPlain url (Some p)
plain_by url p user is = record { user = user; is = ap (λ (q : SaslProfile). Some q) is }

pub scram_by : (m : Mechanism) (url : Parts) (p : SaslProfile) (user password nonce : List ℕ) → IsPlain url (Some (profile.Plain user password)) → p ≡ scram_with m user password nonce → IsScram m url (Some p)
scram_by m url p user password nonce plain is =
    let u : user ≡ percent_decode url.username = cc plain.is in
    let w : password ≡ percent_decode url.password = cc plain.is in
    record {
      user = plain.user;
      nonce = nonce;
      is = ap (λ (q : SaslProfile). Some q) (is ∙ ap (λ (x : List ℕ). scram_with m x password nonce) u ∙ ap (λ (x : List ℕ). scram_with m (percent_decode url.username) x nonce) w);
    }
