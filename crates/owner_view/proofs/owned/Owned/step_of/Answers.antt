use Rattle.owner_view.proofs.Outcomes.{if_ok}
use Rattle.owner_view.proofs.owned.Owned.step_of.Goals as goal

pub step_of-requires-clause-sees : goal.step_of-requires-clause-sees
step_of-requires-clause-sees c =
    record { catalog = c.requires.look.catalog; sound = c.requires.look.kept.sound; shown = c.requires.look.kept; unique = c.requires.unique; holders = c.requires.under.holders; fits = c.requires.look.fits }

pub step_of-requires-clause-fits : goal.step_of-requires-clause-fits
step_of-requires-clause-fits c = c.requires.fits_op

pub returns : goal.returns
returns c =
    if_ok c.step_of.result
    (λ step all m. all (record { catalog = m.look.catalog; sound = m.look.kept.sound; shown = m.look.kept; unique = m.unique; holders = m.under.holders; fits = m.look.fits }))
    c.step_of.ensures
