use Rattle.std.proofs.Common.{◌≡◌, ◌∙◌, get_or}
use Rattle.psdl_directory.specs.Lookup.{as_is}
use Rattle.psdl_directory.proofs.Defining.{keyed_first}
use Rattle.psdl_directory.proofs.directory.Directory.origin.Goals as goal

pub returns-in-Some : goal.returns-in-Some
returns-in-Some c = record {
  origin = λ lt.
      let d = c.args.self.now in
      let key = c.in-Some.key.now in
      let is : key ≡ get_or d.keys.exact.items c.args.number key = rw (c.deref.ensures.value, c.index.ensures) at c.in-Some.ensures.lookup.1 in
      c.number_of.ensures ∙ keyed_first as_is d.scopes d.named.distinct d.keys.spellings d.keys.exact.items d.declarations.items d.named.placed d.named.exact c.args.number key is lt d.firsts.exact d.named.exactly;
}
