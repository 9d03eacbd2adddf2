use Rattle.std.proofs.Common.{◌∙◌}
use Rattle.schema_names.proofs.Placing.{the_key}
use Rattle.schema_names.proofs.named.NamedSchema.key.Goals as goal

pub returns : goal.returns
returns c = c.read.ensures ∙ the_key c.args.self.now c.args.home c.args.word.now c.in_ok-names.names.now c.in_ok-names.ensures
