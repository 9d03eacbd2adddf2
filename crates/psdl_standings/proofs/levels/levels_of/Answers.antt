use Rattle.std.proofs.Common.{◌∷◌, [], List, ℕ, length, ap, ◌∙◌, arith, length-append}
use Rattle.psdl_standings.proofs.Leveling.{levels_more}
use Rattle.psdl_standings.proofs.levels.levels_of.Goals as goal

pub loop-number-preserved : goal.loop-number-preserved
loop-number-preserved c =
    let old = c.loop-number.levels.items in
    let one = c.node_level-level.result in
    record {
      many = ap (λ (l : List ℕ). length l) c.in_ok-push.ensures.items ∙ omega (arith, c.loop-number.invariant.many, length-append old (one ∷ []));
      are = levels_more c.args.types.now old c.push.new.self.items one c.node.result.now c.loop-number.number c.loop-number.invariant.many c.loop-number.invariant.are ((rw c.deref.ensures.value at c.node_level-level.ensures) c.args.types.now c.loop-number.invariant.are)
          c.node.ensures.makes c.in_ok-push.ensures.items;
    }
