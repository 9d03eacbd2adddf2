use Rattle.psdl_sound.proofs.NamedTexts.{texts_are_named}
use Rattle.psdl_sound.proofs.laws.schema_is_named.Goals as goal

pub returns : goal.returns
returns c = texts_are_named
