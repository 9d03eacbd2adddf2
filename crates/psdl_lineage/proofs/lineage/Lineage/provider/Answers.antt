use Rattle.std.proofs.Common.{◌≡◌, false, get_or, length, nat_lt}
use Rattle.psdl_directory.specs.Directories.{all_of}
use Rattle.psdl_lineage.proofs.Naming.{provider_got, provider_there}
use Rattle.psdl_lineage.proofs.lineage.Lineage.provider.Goals as goal

pub returns-in-Some : goal.returns-in-Some
returns-in-Some c lt =
    let all = all_of c.args.self.now.directory.now in
    let ps = c.args.self.now.providers.items in
    let got : c.in-Some.provider.now ≡ get_or ps c.index.result c.in-Some.provider.now = rw c.deref.ensures.value at c.in-Some.ensures.lookup.1 in
    provider_got all ps c.args.home c.index.result c.in-Some.provider.now c.args.self.now.known.provided c.index.ensures got lt

pub returns-in-None : goal.returns-in-None
returns-in-None c lt =
    let all = all_of c.args.self.now.directory.now in
    let ps = c.args.self.now.providers.items in
    let none : false ≡ nat_lt c.index.result (length ps) = rw c.deref.ensures.value at c.in-None.ensures.lookup.0 in
    absurd (provider_there all ps c.args.home c.index.result c.args.self.now.known.provided c.index.ensures none lt)
