use Rattle.std.proofs.Common.{refl}
use Rattle.cdr_codec.proofs.Members.{if_ok}
use Rattle.owner_view.specs.Seen.{plain_object}
use Rattle.owner_view.proofs.draft.keys_of_changed.Goals as goal

pub returns : goal.returns
returns c = if_ok c.keyed_of.result _ _ (λ pairs tells. tells (record { object = plain_object c.args.object.now; fits = c.requires.fits; is = refl })) c.keyed_of.ensures
