-- What a constructor says of the bytes behind it (OASIS AMQP 1.0, part 1, sections 1.2 and 1.6).
use Rattle.std.specs.Prelude.{ℕ, Bool, ◌==◌, ◌||◌, if◌then◌else◌, Option, Some, None}
use Rattle.amqp_value.specs.declared.code.SizeWidth.{SizeWidth}
use Rattle.amqp_value.specs.declared.code.SizeWidth.TheVariants as size
use Rattle.amqp_value.specs.declared.code.ScalarCode.{ScalarCode}
use Rattle.amqp_value.specs.declared.code.ScalarCode.TheVariants as c
use Rattle.amqp_value.specs.declared.code.Code.{Code}
use Rattle.amqp_value.specs.declared.code.Code.TheVariants as code
use Rattle.amqp_value.specs.Code.{find_scalar}
use Rattle.amqp_faults.specs.declared.fault.Reason.{Reason}
use Rattle.amqp_faults.specs.declared.fault.Reason.TheVariants.{CutShort, UnknownCode, Float, NoBoolean, NoCharacter, NotUtf8, NotAscii}
use Rattle.amqp_faults.specs.declared.form.Width.{Width}
use Rattle.amqp_faults.specs.declared.form.Width.TheVariants as w
use Rattle.amqp_faults.specs.declared.form.Layout.{Layout}
use Rattle.amqp_faults.specs.declared.form.Layout.TheVariants as l
use Rattle.amqp_faults.specs.declared.form.Form.{Form}
use Rattle.amqp_faults.specs.declared.form.Form.TheVariants as f

abbrev pub width_of : SizeWidth → Width
width_of size.One = w.One
width_of size.Four = w.Four

abbrev pub size_width : Width → SizeWidth
size_width w.One = size.One
size_width w.Four = size.Four

abbrev pub octets_of : Width → ℕ
octets_of w.One = 1
octets_of w.Four = 4

-- what stands behind the constructor of a scalar (sections 1.6.1 to 1.6.21)
abbrev pub layout_of : ScalarCode → Layout
layout_of c.Null = l.Fixed 0
layout_of c.True = l.Fixed 0
layout_of c.False = l.Fixed 0
layout_of c.Boolean = l.Boolean
layout_of c.Ubyte = l.Fixed 1
layout_of c.Ushort = l.Fixed 2
layout_of c.Uint0 = l.Fixed 0
layout_of c.SmallUint = l.Fixed 1
layout_of c.Uint = l.Fixed 4
layout_of c.Ulong0 = l.Fixed 0
layout_of c.SmallUlong = l.Fixed 1
layout_of c.Ulong = l.Fixed 8
layout_of c.Byte = l.Fixed 1
layout_of c.Short = l.Fixed 2
layout_of c.SmallInt = l.Fixed 1
layout_of c.Int = l.Fixed 4
layout_of c.SmallLong = l.Fixed 1
layout_of c.Long = l.Fixed 8
layout_of c.Char = l.Character
layout_of c.Timestamp = l.Fixed 8
layout_of c.Uuid = l.Fixed 16
layout_of (c.Binary v) = l.Binary (width_of v)
layout_of (c.String v) = l.String (width_of v)
layout_of (c.Symbol v) = l.Symbol (width_of v)

-- what stands behind a constructor
abbrev pub form_of : Code → Form
form_of code.Described = f.Described
form_of code.EmptyList = f.EmptyList
form_of (code.List v) = f.List (width_of v)
form_of (code.Map v) = f.Map (width_of v)
form_of (code.Array v) = f.Array (width_of v)
form_of (code.Scalar s) = f.Scalar (layout_of s)

-- an element takes a byte or more (section 1.6.24)
abbrev pub wide : Layout → Option Layout
wide (l.Fixed n) = if n == 0 then None else Some (l.Fixed n)
wide l.Boolean = Some l.Boolean
wide l.Character = Some l.Character
wide (l.Binary v) = Some (l.Binary v)
wide (l.String v) = Some (l.String v)
wide (l.Symbol v) = Some (l.Symbol v)

abbrev pub layout_in : Option ScalarCode → Option Layout
layout_in (Some s) = wide (layout_of s)
layout_in None = None

-- what stands behind each element of an array with that constructor
abbrev pub element_layout : ℕ → Option Layout
element_layout b = layout_in (find_scalar b)

-- the constructors of float, double and the decimals (sections 1.6.11 to 1.6.15)
abbrev pub is_float : ℕ → Bool
is_float b = (b == 0x72) || (b == 0x82) || (b == 0x74) || (b == 0x84) || (b == 0x94)

abbrev pub reason_of_code : ℕ → Reason
reason_of_code b = if is_float b then Float else UnknownCode

-- why bytes of a layout are refused that are there
abbrev pub unlike : Layout → Reason
unlike (l.Fixed n) = CutShort
unlike l.Boolean = NoBoolean
unlike l.Character = NoCharacter
unlike (l.Binary v) = CutShort
unlike (l.String v) = NotUtf8
unlike (l.Symbol v) = NotAscii
