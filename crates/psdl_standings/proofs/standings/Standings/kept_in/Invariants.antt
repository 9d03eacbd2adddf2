use Rattle.std.proofs.Common.{◌≡◌, List, ℕ, map, take, length}
use Rattle.std.specs.List.{flat_map}
use Rattle.type_layout.specs.declared.home.HomeNo.{HomeNo}
use Rattle.psdl_standings.specs.States.{type_kept, AreKeptBelow, own_types}
use Rattle.psdl_standings.specs.Texts.{text_of, types_in}
use Rattle.psdl_standings.proofs.standings.Standings.kept_in.Given as goal

abbrev pub invariant-loop-body : goal.invariant-loop-body
invariant-loop-body l =
    record {
      types : (homes : ℕ → List HomeNo) → map (type_kept (types_in l.self) homes) l.kept.items ≡ flat_map (own_types (text_of l.self) homes) (take l.body-index l.bodies);
      below : AreKeptBelow (length (types_in l.self)) (length (text_of l.self)) l.kept.items;
    }
