use Rattle.psdl_directory.specs.Directories.{all_of}
use Rattle.psdl_lineage.proofs.Naming.{type_is, no_type, header_got, header_none}
use Rattle.psdl_lineage.proofs.lineage.Lineage.type_of_home.Goals as goal

pub returns-in-Some : goal.returns-in-Some
returns-in-Some c =
    let all = all_of c.args.self.now.directory.now in
    type_is all c.args.home c.in-Some.header.now c.managed_type.result
    (header_got all c.args.self.now.headers.now c.args.home c.index.result c.in-Some.header.now c.args.self.now.known.headed c.index.ensures c.in-Some.ensures.lookup.0 c.in-Some.ensures.lookup.1)
    c.managed_type.ensures

pub returns-in-None : goal.returns-in-None
returns-in-None c =
    let all = all_of c.args.self.now.directory.now in
    no_type all c.args.home (header_none all c.args.self.now.headers.now c.args.home c.index.result c.args.self.now.known.headed c.index.ensures c.in-None.ensures.lookup.0)
