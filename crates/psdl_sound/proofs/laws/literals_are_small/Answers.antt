use Rattle.psdl_sound.proofs.NamedTexts.{texts_are_small}
use Rattle.psdl_sound.proofs.laws.literals_are_small.Goals as goal

pub returns : goal.returns
returns c = texts_are_small
