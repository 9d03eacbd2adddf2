use Rattle.std.proofs.Common.{◌≡◌, ℕ, List, map, drop}
use Rattle.std.specs.List.{list_any}
use Rattle.std.specs.Str.{bytes_eq}
use Rattle.psdl_directory.specs.Lookup.{lower}
use Rattle.psdl_directory.specs.Noting.{noting}
use Rattle.psdl_rules.specs.Faults.Redefined.{redefined_behind, redefined_in}
use Rattle.psdl_rules.specs.inner.Scopes.{has_name}
use Rattle.psdl_rules.proofs.Noted.{before}
use Rattle.psdl_rules.proofs.redefined_inside.redefined_in.Given as goal

abbrev pub invariant-loop-identifier : goal.invariant-loop-identifier
invariant-loop-identifier l = record {
  noted : (q : List ℕ) → has_name l.names q ≡ list_any (λ j. bytes_eq q (lower j.name)) (before l.identifiers l.identifier-index);
  so_far : noting l.least (redefined_behind (before l.identifiers l.identifier-index) (map (λ i. i.now) (drop l.identifier-index l.identifiers))) ≡ noting l.initial.least (redefined_in (map (λ i. i.now) l.identifiers));
}
