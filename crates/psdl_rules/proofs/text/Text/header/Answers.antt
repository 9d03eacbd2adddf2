use Rattle.psdl_lineage.specs.Lineages.{text_of}
use Rattle.psdl_lineage.proofs.Naming.{header_got, header_none}
use Rattle.psdl_rules.proofs.Headers.{no_names}
use Rattle.psdl_rules.proofs.text.Text.header.Goals as goal

pub returns-in-Some-clause-some : goal.returns-in-Some-clause-some
returns-in-Some-clause-some c =
    header_got (text_of c.args.self.now.lineage.now) c.args.self.now.headers.now c.args.number c.index.result c.in-Some.header.now c.args.self.now.headed c.index.ensures c.in-Some.ensures.lookup.0 c.in-Some.ensures.lookup.1

pub returns-in-None-clause-none : goal.returns-in-None-clause-none
returns-in-None-clause-none c =
    no_names (text_of c.args.self.now.lineage.now) c.args.number
    (header_none (text_of c.args.self.now.lineage.now) c.args.self.now.headers.now c.args.number c.index.result c.args.self.now.headed c.index.ensures c.in-None.ensures.lookup.0)
