use Rattle.std.proofs.Common.{◌∙◌}
use Rattle.psdl_members.proofs.contested.contested_rows_of.Goals as goal

pub returns-clause-clash : goal.returns-clause-clash
returns-clause-clash c ns = c.in_ok-kept.ensures.clash ns ∙ c.in_ok-rows.ensures.clash ns

pub returns-clause-past : goal.returns-clause-past
returns-clause-past c n past = c.in_ok-kept.ensures.none n (c.in_ok-rows.ensures.past n past)
