-- Bytes that are no text, no symbol or no map.
use Rattle.std.proofs.Common.{◌≡◌, ℕ, Bool, true, false, List, Some, Result, Err, refl}
use Rattle.std.specs.Prelude.{IsUtf8}
use Rattle.std.specs.Str.{is_utf8}
use Rattle.std.proofs.lemmas.Str.{IsUtf8-from_is_utf8}
use Rattle.amqp_text.specs.declared.text.Text.{Text}
use Rattle.amqp_text.specs.declared.text.TextError.{TextError}
use Rattle.amqp_text.specs.declared.text.TextError.TheVariants as text
use Rattle.amqp_text.specs.declared.symbol.Symbol.{Symbol}
use Rattle.amqp_text.specs.declared.symbol.SymbolError.{SymbolError}
use Rattle.amqp_text.specs.declared.symbol.SymbolError.TheVariants as symbols
use Rattle.amqp_data.specs.declared.value.OrderedMap.{OrderedMap}
use Rattle.amqp_data.specs.declared.map.MapError.{MapError}
use Rattle.amqp_data.specs.declared.map.MapError.TheVariants as maps
use Rattle.amqp_data.specs.Data.{scalar, string, symbol, Pairs, HasDistinctKeys}
use Rattle.amqp_data.specs.Same.{distinct_keys}
use Rattle.amqp_data.specs.SameLaws.{HasDistinctKeys-from}
use Rattle.amqp_value.specs.Grammar.{IsAscii}
use Rattle.amqp_value.specs.ReadErrors.{from_text_error, from_symbol_error, from_map_error}
use Rattle.amqp_value.specs.declared.code.SizeWidth.{SizeWidth}
use Rattle.amqp_value.specs.Reading.{Fails, block_at, text_at, symbol_at, kept, distinct}
use Rattle.amqp_value.proofs.Ascii.{is_not_ascii}

not_true : (b : Bool) → (b ≡ true → ⊥) → b ≡ false
not_true true h = absurd (h refl)
not_true false h = refl

pub text_fails : (e : TextError) (w : SizeWidth) (bytes s rest : List ℕ) → block_at w bytes ≡ Some (s, rest) → (◌≡◌ {A = Result Text TextError} (Err e) (Err text.NotUtf8) → IsUtf8 s → ⊥)
    → Fails (from_text_error e) (kept scalar (kept string (text_at w bytes)))
unfolding text_at
text_fails (text.Memory a) w bytes s rest h refused = tt
text_fails text.NotUtf8 w bytes s rest h refused = rw (h, not_true (is_utf8 s) (λ t. refused refl (IsUtf8-from_is_utf8 s t))) refl

pub symbol_fails : (e : SymbolError) (w : SizeWidth) (bytes s rest : List ℕ) → block_at w bytes ≡ Some (s, rest) → (◌≡◌ {A = Result Symbol SymbolError} (Err e) (Err symbols.NotAscii) → IsAscii s → ⊥)
    → Fails (from_symbol_error e) (kept scalar (kept symbol (symbol_at w bytes)))
unfolding symbol_at
symbol_fails (symbols.Memory a) w bytes s rest h refused = tt
symbol_fails symbols.NotAscii w bytes s rest h refused = rw (h, is_not_ascii s (refused refl)) refl

pub map_fails : (e : MapError) (ps : Pairs) → (◌≡◌ {A = Result OrderedMap MapError} (Err e) (Err maps.DuplicateKey) → HasDistinctKeys ps → ⊥) → Fails (from_map_error e) (distinct ps)
map_fails (maps.Memory a) ps refused = tt
map_fails maps.DuplicateKey ps refused = rw (not_true (distinct_keys ps) (λ t. refused refl (HasDistinctKeys-from ps t))) refl
