use Rattle.std.proofs.Common.{◌∙◌, None, true, false, cond, sym, ap, subst, IsTrue}
use Rattle.std.specs.Ordering.{nat_cmp}
use Rattle.std.specs.Cmp.Lexicographic.{slice_cmp}
use Rattle.std.specs.FinMap as map
use Rattle.std.specs.FinSet as set
use Rattle.type_layout.specs.Schemas.{given}
use Rattle.key_index.specs.Index.{Index}
use Rattle.storage_home.proofs.Holding.{reserved_with, stays_true}
use Rattle.storage_home.proofs.Indexing.{one_turned, none_turned}
use Rattle.storage_home.proofs.indexes.add.Goals as goal

pub returns-clause-found : goal.returns-clause-found
returns-clause-found c =
    none_turned (λ (i : Index) q. map.get i.held q) None c.args.indexes.now c.insert.new.self c.args.key.0 c.in_ok-index.index c.in_ok-insert.ensures.ok
    (λ q. ap (λ m. map.get m q) c.in_ok-index.ensures.held ∙ map.get-empty (slice_cmp nat_cmp) q ∙ sym (ap (λ o. given o None (λ (i : Index). map.get i.held q)) c.requires))

pub returns-clause-ok : goal.returns-clause-ok
returns-clause-ok c =
    one_turned (λ (i : Index) q. set.contains i.reserved q) false c.args.indexes.now c.insert.new.self c.args.key.0 c.in_ok-index.index c.in_ok-insert.ensures.ok c.args.bytes.now true
    (λ q. ap (λ s. set.contains s q) c.in_ok-index.ensures.reserved ∙ reserved_with set.empty c.args.bytes.now q ∙ ap (cond _ true) (set.contains-empty (slice_cmp nat_cmp) q ∙ sym (ap (λ o. given o false (λ (i : Index). set.contains i.reserved q)) c.requires)))

pub returns-clause-stay : goal.returns-clause-stay
returns-clause-stay c key q before = subst IsTrue (sym (returns-clause-ok c key q)) (stays_true _ _ before)
