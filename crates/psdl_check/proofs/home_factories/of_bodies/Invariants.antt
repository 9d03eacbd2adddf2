use Rattle.std.proofs.Common.{◌≡◌, ◌≤◌, [], map, length}
use Rattle.std.specs.List.{range_with_len}
use Rattle.type_layout.specs.Schemas.{given}
use Rattle.psdl_directory.specs.Directories.{all_of}
use Rattle.psdl_members.specs.declared.list_kind.ListKind.TheVariants as kinds
use Rattle.psdl_members.specs.inner.Listing.{own_lists}
use Rattle.psdl_check.specs.inner.Declaring.{declared_as}
use Rattle.psdl_check.proofs.home_factories.of_bodies.Given as goal

abbrev pub invariant-loop-index : goal.invariant-loop-index
invariant-loop-index l =
    record {
      within : l.index ≤ length (all_of l.directory);
      lists : map (λ o. given o [] (λ s. s.value)) l.all.items ≡ map (λ n. map declared_as (own_lists kinds.Factory (all_of l.directory) n)) (range_with_len 0 l.index);
    }
