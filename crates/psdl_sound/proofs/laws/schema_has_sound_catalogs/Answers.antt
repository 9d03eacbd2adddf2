use Rattle.psdl_sound.proofs.SoundCatalogs.{sound_catalogs}
use Rattle.psdl_sound.proofs.laws.schema_has_sound_catalogs.Goals as goal

pub returns : goal.returns
returns c = sound_catalogs
