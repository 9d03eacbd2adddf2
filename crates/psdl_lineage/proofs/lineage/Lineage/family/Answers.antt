use Rattle.std.proofs.Common.{◌≡◌, false, get_or, length, nat_lt}
use Rattle.psdl_directory.specs.Directories.{all_of}
use Rattle.psdl_lineage.proofs.Naming.{family_got, family_there}
use Rattle.psdl_lineage.proofs.lineage.Lineage.family.Goals as goal

pub returns-in-Some : goal.returns-in-Some
returns-in-Some c lt =
    let all = all_of c.args.self.now.directory.now in
    let fs = c.args.self.now.families.items in
    let got : c.in-Some.family.now ≡ get_or fs c.index.result c.in-Some.family.now = rw c.deref.ensures.value at c.in-Some.ensures.lookup.1 in
    family_got all fs c.args.home c.index.result c.in-Some.family.now c.args.self.now.known.related c.index.ensures got lt

pub returns-in-None : goal.returns-in-None
returns-in-None c lt =
    let all = all_of c.args.self.now.directory.now in
    let fs = c.args.self.now.families.items in
    let none : false ≡ nat_lt c.index.result (length fs) = rw c.deref.ensures.value at c.in-None.ensures.lookup.0 in
    absurd (family_there all fs c.args.home c.index.result c.args.self.now.known.related c.index.ensures none lt)
