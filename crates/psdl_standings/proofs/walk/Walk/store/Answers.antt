use Rattle.psdl_directory.specs.inner.Nodes.{what_view}
use Rattle.psdl_standings.specs.States.{state_types}
use Rattle.psdl_standings.proofs.Headed.{store_walked}
use Rattle.psdl_standings.proofs.Stated.{kept_below_later}
use Rattle.psdl_standings.proofs.walk.Walk.store.Goals as goal

pub body-requires : goal.body-requires
body-requires c = kept_below_later c.args.self.now c.note_header.new.self c.args.kept.now.items c.note_header.ensures.goes c.requires.kept

pub returns : goal.returns
returns c =
    store_walked c.args.self.now c.note_header.new.self c.body.new.self c.args.number (what_view c.args.what) c.args.header.now (state_types (what_view c.args.what)) c.args.kept.now.items c.body.new.kept.items c.requires.kept c.requires.header
    c.note_header.ensures.goes c.note_header.ensures.noted c.in_ok-body.ensures
