use Rattle.std.proofs.Common.{length, refl, sym, ap, arith}
use Rattle.storage_home.proofs.Replacements.{old_weighs, new_fits, may_put_new, kept_replaced}
use Rattle.storage_home.proofs.parts.Parts.replace_object.Goals as goal

pub overflow_sub-self : goal.overflow_sub-self
overflow_sub-self c =
    let same = ap length c.as_slice.ensures in
    let fits = old_weighs c.args.self.now c.args.serial c.args.object c.args.old_keys.now c.args.new_keys.now c.requires c.in-Some.old.now (sym c.in-Some.ensures) in
    omega (arith, same, fits)

pub overflow_add-self : goal.overflow_add-self
overflow_add-self c =
    let old = ap length c.as_slice.ensures in
    let new = ap length c.as_slice-2.ensures in
    let fits = new_fits c.args.self.now c.args.serial c.args.object c.args.old_keys.now c.args.new_keys.now c.requires c.in-Some.old.now (sym c.in-Some.ensures) in
    omega (arith, old, new, fits)

pub put_all-requires : goal.put_all-requires
put_all-requires c = may_put_new c.args.self.now c.args.serial c.args.object c.args.old_keys.now c.args.new_keys.now c.requires c.take_all.new.indexes c.take_all.ensures.found c.take_all.ensures.reserved

pub returns : goal.returns
returns c m =
    kept_replaced c.args.self.now c.args.serial c.args.object c.args.old_keys.now c.args.new_keys.now m
    _ c.in-Some.old.now (sym c.in-Some.ensures) c.take_all.new.indexes refl c.put.ensures.objects
    (let old = ap length c.as_slice.ensures in let new = ap length c.as_slice-2.ensures in omega (arith, old, new)) refl refl refl c.take_all.ensures.found c.put_all.ensures.found
