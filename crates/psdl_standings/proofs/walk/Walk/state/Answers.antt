use Rattle.psdl_tree.specs.Views.{state_view}
use Rattle.psdl_directory.specs.Parts.{state_names}
use Rattle.psdl_standings.specs.Uses.{in_state_type, state_bounds}
use Rattle.psdl_standings.proofs.Stated.{one_state}
use Rattle.psdl_standings.proofs.walk.Walk.state.Goals as goal

pub returns : goal.returns
returns c =
    let s = state_view c.args.state.now in
    one_state c.args.self.now c.state_type.new.self c.args.spot (in_state_type c.args.spot.limit s.state_type) (state_bounds c.args.spot.limit s.state_type) s.state_type (state_names s) c.in_ok-entry.entry c.args.kept.now.items c.add_entries.new.kept.items c.requires c.in_ok-entry.ensures.noted
    c.in_ok-entry.ensures.entry c.in_ok-add_entries.ensures
