use Rattle.std.proofs.Common.{Some, ap, ◌∙◌}
use Rattle.storage_home.proofs.Places.{same_number}
use Rattle.storage_home.proofs.Marking.{key_there}
use Rattle.storage_home.proofs.extents.ends_with.Goals as goal

pub returns-in-Some : goal.returns-in-Some
returns-in-Some c same = key_there c.args.extent.now.entries _ _ c.in-Some.ensures.last ∙ ap Some (same_number c.in-Some.last.now c.args.number same)
