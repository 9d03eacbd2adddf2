use Rattle.owner_view.proofs.Outcomes.{if_ok}
use Rattle.owner_view.proofs.owned.Owned.changes.Goals as goal

pub net_changes-requires : goal.net_changes-requires
net_changes-requires c = record { catalog = c.requires.catalog; sound = c.requires.kept.sound; shown = c.requires.kept; fits = c.requires.fits }

pub returns-clause-net : goal.returns-clause-net
returns-clause-net c = if_ok c.net_changes.result (λ made all m. all (record { catalog = m.catalog; sound = m.kept.sound; shown = m.kept; fits = m.fits })) c.net_changes.ensures.net

pub returns-clause-wanted : goal.returns-clause-wanted
returns-clause-wanted c = if_ok c.net_changes.result (λ made all m. all (record { catalog = m.catalog; sound = m.kept.sound; shown = m.kept; fits = m.fits })) c.net_changes.ensures.wanted
