-- Maps are read again.
use Rattle.std.specs.Prelude.{◌≡◌, Bool, Some, IsTrue, refl}
use Rattle.amqp_data.specs.Data.{Amqp, Pairs}
use Rattle.amqp_fields.specs.Fields.{all_keys, map_with, of_map}

pub map_again : (test : Amqp → Bool) (ps : Pairs) → IsTrue (all_keys test ps) → map_with test (of_map ps) ≡ Some ps
map_again test ps h = rw h refl
