use Rattle.psdl_standings.specs.Texts.{text_of}
use Rattle.psdl_standings.proofs.Kept.{deep_found, deep_missed}
use Rattle.psdl_standings.proofs.standings.Standings.is_deep.Goals as goal

pub returns-in-Some : goal.returns-in-Some
returns-in-Some c =
    let s = c.args.self.now in
    let found = rw (c.deref.ensures.value, c.index.ensures) at c.in-Some.ensures.lookup in
    deep_found (text_of s) s.deep.items c.args.number c.in-Some.deep.now s.stood.deep_of found.0 found.1

pub returns-in-None : goal.returns-in-None
returns-in-None c =
    let s = c.args.self.now in
    let missed = rw (c.deref.ensures.value, c.index.ensures) at c.in-None.ensures.lookup in
    deep_missed (text_of s) s.deep.items c.args.number s.stood.deep_of missed.0
