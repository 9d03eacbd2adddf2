use Rattle.psdl_sound.proofs.BaseLayouts.{layouts_begin_with_bases, keys_keep_members}
use Rattle.psdl_sound.proofs.laws.layouts_begin_with_bases.Goals as goal

pub returns-clause-layouts : goal.returns-clause-layouts
returns-clause-layouts c = layouts_begin_with_bases

pub returns-clause-keys : goal.returns-clause-keys
returns-clause-keys c = keys_keep_members
