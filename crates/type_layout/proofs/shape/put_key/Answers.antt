use Rattle.std.proofs.Common.{◌++◌, [], Option, ap, ◌∙◌}
use Rattle.type_layout.specs.declared.key.Key.{Key}
use Rattle.type_layout.specs.Schemas.{given}
use Rattle.type_layout.specs.ShapeText.{key_text}
use Rattle.type_layout.proofs.shape.put_key.Goals as goal

pub returns : goal.returns
returns c = c.in_ok-put_key_text.ensures ∙ ap (λ (o : Option Key). c.args.text.now ++ given o [] key_text) c.in-Some.ensures
