-- That lists of plain types can be told apart.
use Rattle.std.specs.Prelude.{List}
use Rattle.std.specs.Coded.{Coded, coded_list}
use Rattle.type_layout.specs.Types.{PlainType}
use Rattle.type_layout.specs.Codes.{type_code}

abbrev pub types_code : Coded (List PlainType)
types_code = coded_list type_code
