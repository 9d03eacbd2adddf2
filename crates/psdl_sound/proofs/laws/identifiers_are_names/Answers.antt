use Rattle.psdl_sound.proofs.NamedTexts.{texts_have_names}
use Rattle.psdl_sound.proofs.laws.identifiers_are_names.Goals as goal

pub returns : goal.returns
returns c = texts_have_names
