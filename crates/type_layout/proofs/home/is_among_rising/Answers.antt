use Rattle.std.proofs.Common.{rules, of_calls, nat_lt, true, false, ◌≡◌}
use Rattle.std.specs.List.Sorted.{IsPartitionPoint}
use Rattle.std.proofs.lemmas.List.Sorted.{IsPartitionPoint-from_clause, IsPartitionedBy-ltb}
use Rattle.type_layout.specs.declared.home.HomeNo.{HomeNo}
use Rattle.type_layout.proofs.HomesFound.{none_there, one_there}
use Rattle.type_layout.proofs.home.is_among_rising.Goals as goal

pub returns-in-Some : goal.returns-in-Some
returns-in-Some c =
    let place = c.partition_point-place.result in
    let point : IsPartitionPoint (λ (h : HomeNo). nat_lt h.0 c.args.number ≡ true) (λ (h : HomeNo). nat_lt h.0 c.args.number ≡ false) c.args.homes.now place =
    IsPartitionPoint-from_clause (λ (h : HomeNo). nat_lt h.0 c.args.number) c.args.homes.now place c.partition_point-place.ensures.partitioned (IsPartitionedBy-ltb (λ (h : HomeNo). h.0) c.args.homes.now c.args.number c.requires) (λ a r f called. search (rules, of_calls)) in
    one_there c.args.homes.now c.args.number place point c.requires c.in-Some.home.now c.in-Some.ensures.lookup.0 c.in-Some.ensures.lookup.1

pub returns-in-None : goal.returns-in-None
returns-in-None c =
    let place = c.partition_point-place.result in
    let point : IsPartitionPoint (λ (h : HomeNo). nat_lt h.0 c.args.number ≡ true) (λ (h : HomeNo). nat_lt h.0 c.args.number ≡ false) c.args.homes.now place =
    IsPartitionPoint-from_clause (λ (h : HomeNo). nat_lt h.0 c.args.number) c.args.homes.now place c.partition_point-place.ensures.partitioned (IsPartitionedBy-ltb (λ (h : HomeNo). h.0) c.args.homes.now c.args.number c.requires) (λ a r f called. search (rules, of_calls)) in
    none_there c.args.homes.now c.args.number place point c.in-None.ensures.lookup.0
