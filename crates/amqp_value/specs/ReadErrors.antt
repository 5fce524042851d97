-- Errors of reading, and what becomes of the errors of texts, symbols and maps.
use Rattle.amqp_text.specs.declared.text.TextError.{TextError}
use Rattle.amqp_text.specs.declared.text.TextError.TheVariants as text
use Rattle.amqp_text.specs.declared.symbol.SymbolError.{SymbolError}
use Rattle.amqp_text.specs.declared.symbol.SymbolError.TheVariants as symbol
use Rattle.amqp_data.specs.declared.map.MapError.{MapError}
use Rattle.amqp_data.specs.declared.map.MapError.TheVariants as map
use Rattle.amqp_value.specs.declared.error.ValueError.{ValueError}
use Rattle.amqp_value.specs.declared.error.ValueError.TheVariants.{Memory, Decode, Depth, Size, Short}

abbrev pub IsMemory : ValueError → Type 0
IsMemory (Memory a) = Unit {0}
IsMemory Decode = ⊥
IsMemory Depth = ⊥
IsMemory Size = ⊥
IsMemory Short = ⊥

-- there was not enough memory, or no spelling begins the bytes
abbrev pub IsReadError : ValueError → Type 0
IsReadError (Memory a) = Unit {0}
IsReadError Decode = Unit {0}
IsReadError Depth = ⊥
IsReadError Size = ⊥
IsReadError Short = ⊥

-- bytes that are no text are no spelling
abbrev pub from_text_error : TextError → ValueError
from_text_error (text.Memory a) = Memory a
from_text_error text.NotUtf8 = Decode

-- bytes that are no symbol are no spelling
abbrev pub from_symbol_error : SymbolError → ValueError
from_symbol_error (symbol.Memory a) = Memory a
from_symbol_error symbol.NotAscii = Decode

-- entries that are no map are no spelling
abbrev pub from_map_error : MapError → ValueError
from_map_error (map.Memory a) = Memory a
from_map_error map.DuplicateKey = Decode
