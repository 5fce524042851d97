-- What is written is read, and in one way.
use Rattle.std.proofs.Common.{◌≡◌, ◌≢◌, ℕ, ◌≤◌, inl, List, [], ◌∷◌, ◌++◌, length, refl, ap, sym, ◌∙◌, subst, arith, codes, decimal, append_assoc, append-nil, length-append}
use Rattle.std.proofs.lemmas.List.{take_at}
use Rattle.std.proofs.lemmas.List.Elements.{All-append}
use Rattle.base64.specs.Engines.{standard}
use Rattle.base64.specs.GeneralPurpose.{encode_of}
use Rattle.base64.specs.Rfc4648.{encode_symbols}
use Rattle.sasl_scram.specs.Parts.{IsAttribute, IsNext, IsPair}
use Rattle.sasl_scram.specs.Profile.{IsNonce, IsAllowedCount}
use Rattle.sasl_scram.specs.Texts.{escaped_of, client_first_of, client_first_bare_of, server_first_of, client_final_of, client_final_bare_of, server_final_of, Extends, IsHeader, IsValue, IsClientFirst, IsServerFirst, IsClientFinal, IsServerFinal}
use Rattle.sasl_scram.specs.Texts.IsExtensions.{none}
use Rattle.sasl_scram.proofs.Attributes.{attribute_once, next_once, pair_once}
use Rattle.sasl_scram.proofs.ExtensionLists.{tail_of}
use Rattle.sasl_scram.proofs.Readers.{client_first_split, client_final_once, cons_value, header_value}
use Rattle.amqp_pairs.proofs.Texts.{nonce_value, escaped_value, encoded_value, decimal_value}

-- ---- nonces

pub joined_nonce : (own more : List ℕ) → IsNonce own → IsNonce more → IsNonce (own ++ more)
joined_nonce own more p q = (omega (arith, length-append own more, p.0), All-append (λ (b : ℕ). (0x21 ≤ b) × (b ≤ 0x7e) × (b ≢ 44)) own more p.1 q.1)

pub extended : (own more : List ℕ) → IsNonce more → Extends own (own ++ more)
extended own more q = (omega (arith, length-append own more, q.0), take_at own more (length own) refl)

-- ---- client first

pub client_first_reads : (user nonce : List ℕ) → IsNonce nonce
    → IsClientFirst (client_first_of user nonce) (codes "n,,") (client_first_bare_of user nonce) (escaped_of user) nonce
client_first_reads user nonce n = record {
  extensions = [];
  text_is = refl;
  header_is = inl refl;
  bare_is = simp append-nil;
  name_is = escaped_value user;
  nonce_is = n;
  extensions_are = none;
}

first_pair : (text h b n r : List ℕ) (f : IsClientFirst text h b n r) → IsPair 110 114 b n r f.extensions
first_pair text h b n r f = record {
  text_is = f.bare_is ∙ simp append_assoc;
  value_is = f.name_is;
  other_is = nonce_value r f.nonce_is;
  rest_is = tail_of f.extensions f.extensions_are;
}

pub client_first_once : (text h b n r h' b' n' r' : List ℕ) → IsClientFirst text h b n r → IsClientFirst text h' b' n' r'
    → (h ≡ h') × (b ≡ b') × (n ≡ n') × (r ≡ r')
client_first_once text h b n r h' b' n' r' f g =
    let one = client_first_split text h b n r f in
    let two = client_first_split text h' b' n' r' g in
    let bares : b ≡ b' = sym one.1 ∙ two.1 in
    let right : IsPair 110 114 b n' r' g.extensions = subst (λ (t : List ℕ). IsPair 110 114 t n' r' g.extensions) (sym bares) (first_pair text h' b' n' r' g) in
    let same = pair_once 110 114 b n r f.extensions n' r' g.extensions (first_pair text h b n r f) right in
    (sym one.0 ∙ two.0, bares, same.0, same.1)

-- ---- server first

pub server_first_reads : (nonce salt : List ℕ) (count : ℕ) → IsNonce nonce → IsAllowedCount count
    → IsServerFirst (server_first_of nonce salt count) nonce (encode_of standard salt) (decimal count)
server_first_reads nonce salt count n c = record {
  extensions = [];
  text_is = simp append-nil;
  nonce_is = n;
  salt_is = encoded_value salt;
  count_is = decimal_value count c;
  extensions_are = none;
}

server_pair : (text n s c : List ℕ) (f : IsServerFirst text n s c) → IsPair 114 115 text n s (44 ∷ 105 ∷ 61 ∷ (c ++ f.extensions))
server_pair text n s c f = record {
  text_is = f.text_is ∙ simp append_assoc;
  value_is = nonce_value n f.nonce_is;
  other_is = f.salt_is;
  rest_is = refl;
}

count_next : (text n s c : List ℕ) (f : IsServerFirst text n s c) → IsNext 105 (44 ∷ 105 ∷ 61 ∷ (c ++ f.extensions)) c f.extensions
count_next text n s c f = record {
  after = 105 ∷ 61 ∷ (c ++ f.extensions);
  comma = refl;
  attribute = record { text_is = refl; value_is = f.count_is; rest_is = tail_of f.extensions f.extensions_are };
}

pub server_first_once : (text n s c n' s' c' : List ℕ) → IsServerFirst text n s c → IsServerFirst text n' s' c'
    → (n ≡ n') × (s ≡ s') × (c ≡ c')
server_first_once text n s c n' s' c' f g =
    let same = pair_once 114 115 text n s _ n' s' _ (server_pair text n s c f) (server_pair text n' s' c' g) in
    let right = subst (λ (t : List ℕ). IsNext 105 t c' g.extensions) (sym same.2) (count_next text n' s' c' g) in
    let counts = next_once 105 _ c f.extensions c' g.extensions (count_next text n s c f) right in
    (same.0, same.1, counts.0)

-- ---- client final

encoded_header : encode_of standard (codes "n,,") ≡ codes "biws"
unfolding encode_symbols
encoded_header = refl

pub client_final_reads : (nonce proof : List ℕ) → IsNonce nonce
    → IsClientFinal (codes "n,,") (client_final_of nonce proof) (client_final_bare_of nonce) nonce (encode_of standard proof)
client_final_reads nonce proof n = record {
  extensions = [];
  bare_is = ap (λ (t : List ℕ). codes "c=biws,r=" ++ t) (sym (append-nil nonce)) ∙ ap (λ (t : List ℕ). codes "c=" ++ t ++ codes ",r=" ++ nonce ++ []) (sym encoded_header);
  text_is = refl;
  nonce_is = n;
  proof_is = encoded_value proof;
  extensions_are = none;
}

final_pair : (header text b r p : List ℕ) (f : IsClientFinal header text b r p) → IsHeader header → IsPair 99 114 b (encode_of standard header) r f.extensions
final_pair header text b r p f h = record {
  text_is = f.bare_is ∙ simp append_assoc;
  value_is = header_value header h;
  other_is = nonce_value r f.nonce_is;
  rest_is = tail_of f.extensions f.extensions_are;
}

last_value : (p : List ℕ) → IsValue p → IsValue (112 ∷ 61 ∷ p)
last_value p v = cons_value 112 (61 ∷ p) (λ e. absurd (omega (arith, e))) (cons_value 61 p (λ e. absurd (omega (arith, e))) v)

pub client_final_whole : (header text b r p b' r' p' : List ℕ) → IsHeader header → IsClientFinal header text b r p → IsClientFinal header text b' r' p'
    → (b ≡ b') × (r ≡ r') × (p ≡ p')
client_final_whole header text b r p b' r' p' h f g =
    let parts = client_final_once header text b (112 ∷ 61 ∷ p) b' r' p' (f.text_is ∙ append_assoc b (codes ",p=") p) (last_value p f.proof_is) g in
    let bares : b ≡ b' = parts.0 in
    let proofs : 112 ∷ 61 ∷ p ≡ 112 ∷ 61 ∷ p' = parts.1 in
    let right = subst (λ (t : List ℕ). IsPair 99 114 t (encode_of standard header) r' g.extensions) (sym bares) (final_pair header text b' r' p' g h) in
    let same = pair_once 99 114 b (encode_of standard header) r f.extensions (encode_of standard header) r' g.extensions (final_pair header text b r p f h) right in
    (bares, same.1, cc)

-- ---- server final

pub server_final_reads : (signature : List ℕ) → IsServerFinal (server_final_of signature) (encode_of standard signature)
server_final_reads signature = record {
  extensions = [];
  text_is = simp append-nil;
  signature_is = encoded_value signature;
  extensions_are = none;
}

signature_attribute : (text s : List ℕ) (f : IsServerFinal text s) → IsAttribute 118 text s f.extensions
signature_attribute text s f = record { text_is = f.text_is; value_is = f.signature_is; rest_is = tail_of f.extensions f.extensions_are }

pub server_final_once : (text s s' : List ℕ) → IsServerFinal text s → IsServerFinal text s' → s ≡ s'
server_final_once text s s' f g = (attribute_once 118 text s f.extensions s' g.extensions (signature_attribute text s f) (signature_attribute text s' g)).0
