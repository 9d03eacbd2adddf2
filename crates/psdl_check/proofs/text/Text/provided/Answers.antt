use Rattle.std.proofs.Common.{◌∙◌, ap}
use Rattle.psdl_directory.specs.Headers.{Header}
use Rattle.psdl_lineage.proofs.Naming.{header_got, header_none}
use Rattle.psdl_check.specs.inner.Texts.{text_in}
use Rattle.psdl_check.proofs.Meant.{none_provided}
use Rattle.psdl_check.proofs.text.Text.provided.Goals as goal

pub returns-in-Some : goal.returns-in-Some
returns-in-Some c =
    let all = text_in c.args.self.now in
    c.provided.ensures
    ∙ ap (λ (h : Header). h.provided) (header_got all c.args.self.now.headers.now c.args.catalog c.index.result c.in-Some.header.now c.args.self.now.headed c.index.ensures c.in-Some.ensures.lookup.0 c.in-Some.ensures.lookup.1)

pub returns-in-None : goal.returns-in-None
returns-in-None c =
    let all = text_in c.args.self.now in
    none_provided _ all c.args.catalog (header_none all c.args.self.now.headers.now c.args.catalog c.index.result c.args.self.now.headed c.index.ensures c.in-None.ensures.lookup.0)
