use Rattle.std.proofs.Common.{◌≡◌, ◌∙◌, get_or}
use Rattle.psdl_directory.specs.Lookup.{lower}
use Rattle.psdl_directory.proofs.Defining.{keyed_first}
use Rattle.psdl_directory.proofs.directory.Directory.first_alike.Goals as goal

pub returns-in-Some : goal.returns-in-Some
returns-in-Some c = record {
  first = λ lt.
      let d = c.args.self.now in
      let key = c.in-Some.key.now in
      let is : key ≡ get_or d.keys.small.items c.args.number key = rw (c.deref.ensures.value, c.index.ensures) at c.in-Some.ensures.lookup.1 in
      c.number_of.ensures ∙ keyed_first lower d.scopes d.named.distinct d.keys.spellings d.keys.small.items d.declarations.items d.named.placed d.named.small c.args.number key is lt d.firsts.small d.named.but_for_case;
}
