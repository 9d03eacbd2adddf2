use Rattle.std.proofs.Common.{◌≡◌, ◌∙◌, true, false, get_or, length, nat_lt, sym}
use Rattle.psdl_check.proofs.Introduced.{numbers_at, no_numbers}
use Rattle.psdl_check.proofs.keys.Keys.numbers_of.Goals as goal

pub returns-in-Some : goal.returns-in-Some
returns-in-Some c =
    let lists = c.args.self.now.of_ids.items in
    let there : true ≡ nat_lt c.args.id (length lists) = rw c.deref.ensures.value at c.in-Some.ensures.lookup.0 in
    let got : c.in-Some.numbers.now ≡ get_or lists c.args.id c.in-Some.numbers.now = rw c.deref.ensures.value at c.in-Some.ensures.lookup.1 in
    c.as_slice.ensures.value ∙ numbers_at lists c.args.id c.in-Some.numbers.now there got

pub returns-in-None : goal.returns-in-None
returns-in-None c =
    let lists = c.args.self.now.of_ids.items in
    let none : false ≡ nat_lt c.args.id (length lists) = rw c.deref.ensures.value at c.in-None.ensures.lookup.0 in
    sym (no_numbers lists c.args.id none)
