use Rattle.std.proofs.Common.{◌∙◌, Some, None, true, false, cond, sym, ap, subst, IsSome, IsTrue, rules}
use Rattle.std.specs.FinMap as map
use Rattle.std.specs.FinSet as set
use Rattle.key_index.specs.Index.{Index}
use Rattle.storage_home.proofs.Holding.{reserved_with, stays_true, on_ok, on_either}
use Rattle.storage_home.specs.Indexes.{TurnsIndex}
use Rattle.storage_home.proofs.Indexing.{part_of, one_turned, none_turned}
use Rattle.storage_home.proofs.indexes.reserve.Goals as goal

turned : (c : goal.After-indexes-in-Some-1) → TurnsIndex c.args.indexes.now (c.get_mut.follows.lender c.reserve.new.self) c.args.key.0 (Some c.reserve.new.self)
turned c = c.get_mut.follows.holds c.reserve.new.self (subst IsSome c.in-Some.ensures.value (search rules))

pub returns-in-Some-clause-found : goal.returns-in-Some-clause-found
returns-in-Some-clause-found c =
    none_turned (λ (i : Index) q. map.get i.held q) None c.args.indexes.now (c.get_mut.follows.lender c.reserve.new.self) c.args.key.0 c.reserve.new.self (turned c)
    (λ q. ap (λ m. map.get m q) c.reserve.ensures.held ∙ part_of (λ (i : Index) q. map.get i.held q) None c.args.indexes.now c.args.key.0 c.in-Some.index.now c.in-Some.ensures.value q)

pub returns-in-Some-clause-ok : goal.returns-in-Some-clause-ok
returns-in-Some-clause-ok c =
    on_ok c.reserve.result
    (λ is. one_turned (λ (i : Index) q. set.contains i.reserved q) false c.args.indexes.now (c.get_mut.follows.lender c.reserve.new.self) c.args.key.0 c.reserve.new.self (turned c) c.args.bytes.now true
    (λ q. ap (λ s. set.contains s q) is ∙ reserved_with _ c.args.bytes.now q ∙ ap (cond _ true) (part_of (λ (i : Index) q. set.contains i.reserved q) false c.args.indexes.now c.args.key.0 c.in-Some.index.now c.in-Some.ensures.value q)))
    c.reserve.ensures.ok

pub returns-in-Some-clause-stay : goal.returns-in-Some-clause-stay
returns-in-Some-clause-stay c =
    on_either c.reserve.result (returns-in-Some-clause-ok c) c.reserve.ensures.err
    (λ turned_ key q before. subst IsTrue (sym (turned_ key q)) (stays_true _ _ before))
    (λ is key q before.
    subst IsTrue
    (sym (none_turned (λ (i : Index) q. set.contains i.reserved q) false c.args.indexes.now (c.get_mut.follows.lender c.reserve.new.self) c.args.key.0 c.reserve.new.self (turned c)
    (λ q. ap (λ s. set.contains s q) is ∙ part_of (λ (i : Index) q. set.contains i.reserved q) false c.args.indexes.now c.args.key.0 c.in-Some.index.now c.in-Some.ensures.value q) key q)) before)
