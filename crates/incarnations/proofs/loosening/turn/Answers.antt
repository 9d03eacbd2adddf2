use Rattle.std.proofs.Common.{refl, sym, ◌∙◌, subst}
use Rattle.incarnations.specs.Stock.{IsSet, meaning_of}
use Rattle.incarnations.proofs.Sets.{entry_is}
use Rattle.incarnations.proofs.Places.{passed_still}
use Rattle.incarnations.proofs.Passed.{set_same, turned_not, turned_loose}
use Rattle.incarnations.proofs.loosening.turn.Goals as goal

pub returns-else-is_asked-clause-entries : goal.returns-else-is_asked-clause-entries
returns-else-is_asked-clause-entries c =
    subst (λ e. IsSet (meaning_of c.args.stock.now) (meaning_of c.args.stock.now) c.args.slot e) (sym (turned_not c.args.chosen c.args.was.entry c.in-Some.view c.in-Some.is (sym c.is_asked.ensures ∙ c.if-is_asked.false)))
    (set_same (meaning_of c.args.stock.now) (meaning_of c.args.stock.now) c.args.slot c.args.was.entry refl (entry_is c.args.stock.now c.requires.sound c.args.slot c.args.was c.requires.entry))

pub returns-else-is_asked-clause-passed : goal.returns-else-is_asked-clause-passed
returns-else-is_asked-clause-passed c = passed_still c.args.stock.now.pool c.args.was.node

pub returns-in_default-clause-entries : goal.returns-in_default-clause-entries
returns-in_default-clause-entries c =
    subst (λ e. IsSet (meaning_of c.args.stock.now) (meaning_of c.args.stock.now) c.args.slot e) (sym (turned_loose c.args.chosen c.args.was.entry c.in_default.is))
    (set_same (meaning_of c.args.stock.now) (meaning_of c.args.stock.now) c.args.slot c.args.was.entry refl (entry_is c.args.stock.now c.requires.sound c.args.slot c.args.was c.requires.entry))

pub returns-in_default-clause-passed : goal.returns-in_default-clause-passed
returns-in_default-clause-passed c = passed_still c.args.stock.now.pool c.args.was.node
