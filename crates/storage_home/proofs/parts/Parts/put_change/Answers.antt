use Rattle.std.proofs.Common.{false, sym, subst}
use Rattle.std.specs.FinMap.{insert}
use Rattle.storage_home.specs.Indexes.{TurnsKeysReserved}
use Rattle.storage_home.specs.Kept.{IsKept}
use Rattle.storage_home.specs.inner.Steps.{MayPutObject}
use Rattle.storage_home.proofs.Stepping.{may_put, put_on, none_put}
use Rattle.storage_home.proofs.parts.Parts.put_change.Goals as goal

pub put_object-requires : goal.put_object-requires
put_object-requires c =
    subst (MayPutObject c.args.self.now c.args.change.put.serial _) (sym c.as_slice.ensures) (may_put c.requires.1.0 c.requires.1.1 c.args.self.now c.args.change c.requires.0 c.requires.1.2 c.in-Some.bytes c.in-Some.is)

pub returns-in-Some : goal.returns-in-Some
returns-in-Some c rest S F m =
    put_on S F c.args.self.now c.args.change rest m c.in-Some.bytes c.in-Some.is c.put_object.new.self
    (subst (λ k. (p : MayPutObject c.args.self.now c.args.change.put.serial (record { home = record { 0 = c.args.change.put.home }; bytes = c.in-Some.bytes }) k) → IsKept p.schema (insert p.catalog c.args.change.put.serial p.object) c.put_object.new.self) c.as_slice.ensures c.put_object.ensures.kept)
    c.put_object.ensures.reserved
    (subst (λ k. TurnsKeysReserved c.args.self.now.keys c.put_object.new.self.keys k false) c.as_slice.ensures c.put_object.ensures.keys)

pub returns : goal.returns
returns c rest S F m = none_put S F c.args.self.now c.args.change rest m c.in_default.is
