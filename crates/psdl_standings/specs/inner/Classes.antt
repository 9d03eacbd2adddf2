-- Types, as far as constants look at them.
use Rattle.std.specs.Prelude.{◌≡◌, ◌≤◌, Some, None, IfSome, false}
use Rattle.type_layout.specs.Types.{PlainType, Str}
use Rattle.psdl_standings.specs.declared.types.Class.{Class}
use Rattle.psdl_standings.specs.declared.types.Class.TheVariants as classes
use Rattle.psdl_standings.specs.Standings.{range}
use Rattle.psdl_standings.specs.Uses.{is_text}
use Rattle.psdl_standings.specs.inner.Widths.{range_view}

abbrev pub IsClass : PlainType → Class → Type 0
IsClass type (classes.Number r) = (range type ≡ Some (range_view r)) × IfSome r.width (λ bits. bits ≤ 64)
IsClass type (classes.Text bound) = type ≡ Str bound
IsClass type classes.Other = (range type ≡ None) × (is_text type ≡ false)
