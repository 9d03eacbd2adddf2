-- That the types of states can be told apart.
use Rattle.std.specs.Prelude.{Option}
use Rattle.std.specs.Coded.{Coded-set, coded_option}
use Rattle.type_layout.specs.Types.{PlainType}
use Rattle.type_layout.specs.Codes.{type_code}

pub kept_set : IsSet (Option PlainType)
kept_set = Coded-set (coded_option type_code)
