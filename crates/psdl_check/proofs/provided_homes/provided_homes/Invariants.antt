use Rattle.std.proofs.Common.{ℕ, List, ◌≡◌, ◌≤◌, ◌++◌, drop, map, length}
use Rattle.std.specs.List.{flat_map, enumerate_from}
use Rattle.type_layout.specs.Scopes.{provided_in}
use Rattle.psdl_check.specs.Schemas.{provided_homes}
use Rattle.psdl_check.specs.inner.Modules.{AreModules}
use Rattle.psdl_check.specs.inner.Texts.{text_in}
use Rattle.psdl_check.proofs.provided_homes.provided_homes.Given as goal

abbrev pub invariant-loop-index : goal.invariant-loop-index
invariant-loop-index l =
    let all = text_in l.text in
    record {
      within : l.index ≤ length all;
      named : AreModules l.directory l.scopes;
      rest : (more : List (List ℕ)) → map (provided_in (l.scopes ++ more)) l.list.items ++ flat_map (provided_homes all) (enumerate_from l.index (drop l.index all)) ≡ flat_map (provided_homes all) (enumerate_from 0 all);
    }
