use Rattle.std.proofs.Common.{map, refl}
use Rattle.psdl_tree.specs.Views.{identifiers_view}
use Rattle.type_layout.specs.Types.{Enum}
use Rattle.psdl_directory.specs.Declarations.{IsEnumeration, all_identifiers}
use Rattle.psdl_standings.proofs.Toldly.{told_added}
use Rattle.psdl_standings.proofs.walk.Walk.told_enumeration.Goals as goal

pub returns : goal.returns
returns c = λ number.
    let e = identifiers_view c.args.enumerators.now in
    told_added c.args.self.now c.add.new.self number (IsEnumeration e) (Enum (map (λ i. i.name) (all_identifiers e))) c.in_ok-added.added c.told_type.result c.in_ok-added.ensures refl c.told_type.ensures.is c.told_type.ensures.there refl
