use Rattle.std.proofs.Common.{◌∙◌, Some, None, false, cond, ap, subst, IsSome, rules}
use Rattle.std.specs.FinMap as map
use Rattle.std.specs.FinSet as set
use Rattle.key_index.specs.Index.{Index}
use Rattle.storage_home.proofs.Holding.{held_with, reserved_without}
use Rattle.storage_home.specs.Indexes.{TurnsIndex}
use Rattle.storage_home.proofs.Indexing.{part_of, one_turned}
use Rattle.storage_home.proofs.indexes.put.Goals as goal

turned : (c : goal.After-indexes-in-Some-1) → TurnsIndex c.args.indexes.now (c.get_mut.follows.lender c.put_reserved.new.self) c.args.key.0 (Some c.put_reserved.new.self)
turned c = c.get_mut.follows.holds c.put_reserved.new.self (subst IsSome c.in-Some.ensures.value (search rules))

pub returns-in-Some-clause-found : goal.returns-in-Some-clause-found
returns-in-Some-clause-found c =
    one_turned (λ (i : Index) q. map.get i.held q) None c.args.indexes.now (c.get_mut.follows.lender c.put_reserved.new.self) c.args.key.0 c.put_reserved.new.self (turned c) c.args.bytes.now (Some c.args.serial)
    (λ q. ap (λ m. map.get m q) c.put_reserved.ensures.held ∙ held_with _ c.args.bytes.now c.args.serial q ∙ ap (cond _ (Some c.args.serial)) (part_of (λ (i : Index) q. map.get i.held q) None c.args.indexes.now c.args.key.0 c.in-Some.index.now c.in-Some.ensures.value q))

pub returns-in-Some-clause-reserved : goal.returns-in-Some-clause-reserved
returns-in-Some-clause-reserved c =
    one_turned (λ (i : Index) q. set.contains i.reserved q) false c.args.indexes.now (c.get_mut.follows.lender c.put_reserved.new.self) c.args.key.0 c.put_reserved.new.self (turned c) c.args.bytes.now false
    (λ q. ap (λ s. set.contains s q) c.put_reserved.ensures.reserved ∙ reserved_without _ c.args.bytes.now q ∙ ap (cond _ false) (part_of (λ (i : Index) q. set.contains i.reserved q) false c.args.indexes.now c.args.key.0 c.in-Some.index.now c.in-Some.ensures.value q))
