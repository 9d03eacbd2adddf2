use Rattle.psdl_sound.proofs.NamedTexts.{texts_are_sound}
use Rattle.psdl_sound.proofs.laws.text_is_sound.Goals as goal

pub returns : goal.returns
returns c = texts_are_sound
