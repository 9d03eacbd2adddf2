use Rattle.psdl_sound.proofs.SoundHomes.{sound_homes}
use Rattle.psdl_sound.proofs.laws.schema_has_sound_homes.Goals as goal

pub returns : goal.returns
returns c = sound_homes
