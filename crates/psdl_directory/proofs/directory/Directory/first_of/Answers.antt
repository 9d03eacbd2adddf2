use Rattle.std.proofs.Common.{◌∙◌, ℕ, None, Option, ap, sym}
use Rattle.psdl_directory.specs.Lookup.{below}
use Rattle.psdl_directory.specs.Spelled.{spelled_by}
use Rattle.psdl_directory.specs.inner.Named.{found_in}
use Rattle.psdl_directory.proofs.Agreeing.{agreeing}
use Rattle.psdl_directory.proofs.directory.Directory.first_of.Goals as goal

pub returns : goal.returns
returns c = record {
  first = λ name is.
      let d = c.args.self.now in
      c.below.ensures
      ∙ ap (λ (o : Option ℕ). below c.args.limit o)
      (c.number_of-first.ensures ∙ ap (λ (o : Option ℕ). found_in c.table.result.now c.args.scope None o) (sym is)
      ∙ agreeing (spelled_by c.args.spelling) d.scopes d.named.distinct c.args.scope c.requires name d.keys.spellings c.table.result.now d.declarations.items d.named.placed c.table.ensures);
}
