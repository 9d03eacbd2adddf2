use Rattle.psdl_directory.specs.Directories.{all_of}
use Rattle.psdl_directory.specs.Lookup.{lower, at, is_named}
use Rattle.psdl_rules.proofs.Foremost.{first_there}
use Rattle.psdl_rules.proofs.taken_names.first_alike.Goals as goal

pub returns-clause-there : goal.returns-clause-there
returns-clause-there c =
    let all = all_of c.args.directory.now in
    let n = c.args.number in
    first_there (is_named lower (at all n).path (at all n).name) all c.first_alike.result (c.first_alike.ensures.first c.requires)
