use Rattle.std.proofs.Common.{◌≡◌, take, map}
use Rattle.std.specs.List.{flat_map}
use Rattle.psdl_tree.specs.Views.{operation_view}
use Rattle.psdl_directory.specs.Noting.{noting}
use Rattle.psdl_directory.specs.Parts.{parameter_names}
use Rattle.psdl_rules.specs.Faults.Redefined.{redefined_in}
use Rattle.psdl_rules.proofs.redefined_inside.redefined_in_operations.Given as goal

abbrev pub invariant-loop-operation : goal.invariant-loop-operation
invariant-loop-operation l = l.least ≡ noting l.initial.least (flat_map redefined_in (map parameter_names (map (λ o. operation_view o.now) (take l.operation-index l.operations))))
