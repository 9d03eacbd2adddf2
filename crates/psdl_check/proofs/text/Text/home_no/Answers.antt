use Rattle.std.proofs.Common.{◌≡◌, false, true, get_or, length, nat_lt}
use Rattle.psdl_check.specs.inner.Texts.{text_in}
use Rattle.psdl_check.proofs.Slots.{no_got, no_none}
use Rattle.psdl_check.proofs.text.Text.home_no.Goals as goal

pub returns-in-Some : goal.returns-in-Some
returns-in-Some c =
    let ns = c.args.self.now.numbers.items in
    let there : true ≡ nat_lt c.index.result (length ns) = rw c.deref.ensures.value at c.in-Some.ensures.lookup.0 in
    let got : c.in-Some.number.now ≡ get_or ns c.index.result c.in-Some.number.now = rw c.deref.ensures.value at c.in-Some.ensures.lookup.1 in
    no_got (text_in c.args.self.now) ns c.args.home c.index.result c.in-Some.number.now c.args.self.now.numbered c.index.ensures there got

pub returns-in-None : goal.returns-in-None
returns-in-None c =
    let ns = c.args.self.now.numbers.items in
    let none : false ≡ nat_lt c.index.result (length ns) = rw c.deref.ensures.value at c.in-None.ensures.lookup.0 in
    no_none (text_in c.args.self.now) ns c.args.home c.index.result c.args.self.now.numbered c.index.ensures none
