use Rattle.owner_view.proofs.owned.Owned.total_with.Goals as goal

pub total_with-requires-clause-shows : goal.total_with-requires-clause-shows
total_with-requires-clause-shows c = record { catalog = c.requires.look.catalog; sound = c.requires.look.kept.sound; shown = c.requires.look.kept; fits = c.requires.look.fits }

pub returns : goal.returns
returns c m = c.total_with.ensures (record { catalog = m.catalog; sound = m.kept.sound; shown = m.kept; fits = m.fits })
