use Rattle.page_format.proofs.Rows.{are_rows}
use Rattle.page_format.proofs.gathering.gather.Goals as goal

pub returns-in-Ok-take_pages-clause-alone : goal.returns-in-Ok-take_pages-clause-alone
returns-in-Ok-take_pages-clause-alone g c = are_rows _ _ _ _ c.in-Ok-take_pages.ensures.alone
