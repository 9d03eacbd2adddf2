use Rattle.psdl_check.specs.inner.Texts.{text_in}
use Rattle.psdl_check.proofs.Catalogued.{one_catalog}
use Rattle.psdl_check.proofs.provided_homes.add_catalog.Goals as goal

pub returns-in_ok-add_provisions-in-Some : goal.returns-in_ok-add_provisions-in-Some
returns-in_ok-add_provisions-in-Some c =
    one_catalog (text_in c.args.text.now) c.args.catalog c.args.scopes.now c.add_scope.new.scopes c.args.list.now.items c.add_provisions.new.list.items c.in_ok-number-in-Some.number c.in_ok-number-in-Some.ensures.number
    (rw c.requires.same at c.in_ok-number-in-Some.ensures.scopes) c.in_ok-add_provisions-in-Some.ensures
