use Rattle.std.proofs.Common.{◌∙◌}
use Rattle.psdl_tree.specs.Views.{struct_view}
use Rattle.psdl_directory.specs.Directories.{all_of}
use Rattle.psdl_directory.specs.Lookup.{at}
use Rattle.psdl_standings.proofs.Cutting.{struct_spelled}
use Rattle.psdl_standings.proofs.nesting.spelled_struct.Goals as goal

pub returns : goal.returns
returns c done e =
    let all = all_of c.args.directory.now in
    let n = c.args.number in
    c.in_ok-nesting.ensures
    ∙ struct_spelled all done c.args.levels.now c.origin-own.result n c.index.result (struct_view c.args.structure.now) (at all n).path e (c.origin-own.ensures.origin c.requires) c.index.ensures
