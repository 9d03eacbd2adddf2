use Rattle.std.proofs.Common.{◌∙◌, Some, None, false, cond, ap, subst, IsSome, rules}
use Rattle.std.specs.FinMap as map
use Rattle.std.specs.FinSet as set
use Rattle.key_index.specs.Index.{Index}
use Rattle.storage_home.proofs.Holding.{held_without}
use Rattle.storage_home.specs.Indexes.{TurnsIndex}
use Rattle.storage_home.proofs.Indexing.{part_of, one_turned, none_turned}
use Rattle.storage_home.proofs.indexes.take.Goals as goal

turned : (c : goal.After-indexes-in-Some-1) → TurnsIndex c.args.indexes.now (c.get_mut.follows.lender c.take.new.self) c.args.key.0 (Some c.take.new.self)
turned c = c.get_mut.follows.holds c.take.new.self (subst IsSome c.in-Some.ensures.value (search rules))

pub returns-in-Some-clause-found : goal.returns-in-Some-clause-found
returns-in-Some-clause-found c =
    one_turned (λ (i : Index) q. map.get i.held q) None c.args.indexes.now (c.get_mut.follows.lender c.take.new.self) c.args.key.0 c.take.new.self (turned c) c.args.bytes.now None
    (λ q. ap (λ m. map.get m q) c.take.ensures.held ∙ held_without _ c.args.bytes.now q ∙ ap (cond _ None) (part_of (λ (i : Index) q. map.get i.held q) None c.args.indexes.now c.args.key.0 c.in-Some.index.now c.in-Some.ensures.value q))

pub returns-in-Some-clause-reserved : goal.returns-in-Some-clause-reserved
returns-in-Some-clause-reserved c =
    none_turned (λ (i : Index) q. set.contains i.reserved q) false c.args.indexes.now (c.get_mut.follows.lender c.take.new.self) c.args.key.0 c.take.new.self (turned c)
    (λ q. ap (λ s. set.contains s q) c.take.ensures.reserved ∙ part_of (λ (i : Index) q. set.contains i.reserved q) false c.args.indexes.now c.args.key.0 c.in-Some.index.now c.in-Some.ensures.value q)
