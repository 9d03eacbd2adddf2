use Rattle.psdl_directory.specs.inner.Nodes.{what_view}
use Rattle.psdl_standings.proofs.Headed.{header_noted}
use Rattle.psdl_standings.proofs.walk.Walk.note_header.Goals as goal

pub returns-clause-noted : goal.returns-clause-noted
returns-clause-noted c =
    header_noted c.args.self.now c.note_uses.new.self c.note_uses-2.new.self c.note_managed.new.self c.note_uses-3.new.self (what_view c.args.what) c.args.header.now c.note_uses.ensures.goes c.note_uses-2.ensures.goes c.note_managed.ensures.goes
    (rw (c.base_need.ensures, c.bases.ensures) at c.note_uses.ensures.noted) (rw (c.implements_need.ensures, c.implemented.ensures) at c.note_uses-2.ensures.noted) c.note_managed.ensures.noted (rw c.provided.ensures at c.note_uses-3.ensures.noted)
