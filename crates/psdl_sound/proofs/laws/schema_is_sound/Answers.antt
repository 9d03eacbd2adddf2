use Rattle.psdl_sound.proofs.SoundSchemas.{sound_schema}
use Rattle.psdl_sound.proofs.laws.schema_is_sound.Goals as goal

pub returns : goal.returns
returns c = sound_schema
