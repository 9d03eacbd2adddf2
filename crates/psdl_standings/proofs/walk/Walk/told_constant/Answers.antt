use Rattle.psdl_standings.proofs.walk.Walk.told_constant.Goals as goal

pub returns : goal.returns
returns c = record { goes = c.in_ok-told.ensures.goes; noted = c.in_ok-told.ensures.noted; there = c.in_ok-told.ensures.there; is = c.in_ok-told.ensures.told }
