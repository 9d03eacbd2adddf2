use Rattle.owner_view.proofs.Outcomes.{if_ok}
use Rattle.owner_view.proofs.owned.Owned.state_of.Goals as goal

pub state_at-requires : goal.state_at-requires
state_at-requires c = record { catalog = c.requires.catalog; sound = c.requires.kept.sound; shown = c.requires.kept; fits = c.requires.fits }

pub returns : goal.returns
returns c = if_ok c.state_at.result (λ made all m. all (record { catalog = m.catalog; sound = m.kept.sound; shown = m.kept; fits = m.fits })) c.state_at.ensures
