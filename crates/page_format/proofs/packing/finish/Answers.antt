use Rattle.std.proofs.Common.{◌++◌, ◌∷◌, ◌∙◌, [], ap, arith}
use Rattle.page_format.proofs.Filling.{filled_all, filled_nothing}
use Rattle.page_format.proofs.packing.finish.Goals as goal

pub returns-then-filling-eq0 : goal.returns-then-filling-eq0
returns-then-filling-eq0 c = filled_nothing c.args.puts.now c.args.pages.items c.args.filling c.requires.all c.if-filling-eq0.true c.requires.filled

pub returns : goal.returns
returns c =
    filled_all c.args.puts.now c.args.pages.items c.push.new.self.items c.args.filling c.requires.all (c.in_ok-push.ensures.items ∙ ap (λ l. c.args.pages.items ++ l ∷ []) c.of.ensures) (omega (arith, c.if-filling-eq0.false)) c.requires.filled
