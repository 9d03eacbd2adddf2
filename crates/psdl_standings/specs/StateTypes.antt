-- The layouts of storage types.
use Rattle.std.specs.Prelude.{List, Option}
use Rattle.std.specs.Option.{option_map}
use Rattle.psdl_tree.specs.Trees.{Name, StateType, PlainState, Reference}
use Rattle.type_layout.specs.declared.home.HomeNo.{HomeNo}
use Rattle.type_layout.specs.Types.{PlainType, RefTo}
use Rattle.psdl_standings.specs.Standings.{Standing, plain_by}

-- the type of a state; `homes` lists the homes that a reference to a type may have
abbrev pub state_type_by : (Name → Standing) → (Name → Option (List HomeNo)) → StateType → Option PlainType
state_type_by names homes (PlainState plain) = plain_by names plain
state_type_by names homes (Reference name) = option_map RefTo (homes name)
