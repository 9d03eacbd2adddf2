use Rattle.std.proofs.Common.{◌≡◌, ◌∙◌, ap, get_or}
use Rattle.psdl_directory.specs.Parts.{kind}
use Rattle.psdl_directory.proofs.Defining.{keyed_definition}
use Rattle.psdl_directory.proofs.directory.Directory.definition.Goals as goal

pub returns-in-Some : goal.returns-in-Some
returns-in-Some c = record {
  definition = λ lt.
      let d = c.args.self.now in
      let key = c.in-Some.key.now in
      let is : key ≡ get_or d.keys.exact.items c.args.number key = rw (c.deref.ensures.value, c.index.ensures) at c.in-Some.ensures.lookup.1 in
      c.number_of.ensures
      ∙ keyed_definition d.scopes d.named.distinct d.keys.spellings d.keys.exact.items d.declarations.items d.named.placed d.named.exact c.args.number key is lt d.firsts.wholes d.named.defined c.kind_of.result (c.kind_of.ensures ∙ ap kind c.what.ensures);
}
