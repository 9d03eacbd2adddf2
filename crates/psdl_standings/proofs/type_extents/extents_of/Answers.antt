use Rattle.std.proofs.Common.{◌∷◌, [], List, length, ap, ◌∙◌, arith, length-append}
use Rattle.psdl_standings.specs.declared.extent.Extent.{Extent}
use Rattle.psdl_standings.proofs.Measuring.{extents_more}
use Rattle.psdl_standings.proofs.type_extents.extents_of.Goals as goal

pub loop-number-preserved : goal.loop-number-preserved
loop-number-preserved c =
    let old = c.loop-number.extents.items in
    let one = c.node_extent-extent.result in
    record {
      many = ap (λ (l : List Extent). length l) c.in_ok-push.ensures.items ∙ omega (arith, c.loop-number.invariant.many, length-append old (one ∷ []));
      are = extents_more c.args.types.now old c.push.new.self.items one c.node.result.now c.loop-number.number c.loop-number.invariant.many c.loop-number.invariant.are ((rw c.deref.ensures.value at c.node_extent-extent.ensures) c.args.types.now c.loop-number.invariant.are)
          c.node.ensures.makes c.in_ok-push.ensures.items;
    }
