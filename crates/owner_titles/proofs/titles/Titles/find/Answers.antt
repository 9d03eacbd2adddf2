use Rattle.std.proofs.Common.{◌≡◌, ◌≤◌, Some, None, sym, ap, ◌∙◌, arith}
use Rattle.std.specs.Option.{option_map}
use Rattle.owner_titles.specs.Meaning.{Meaning, transaction_named}
use Rattle.owner_titles.proofs.Naming.{named_is, number}
use Rattle.owner_titles.proofs.Sounds.{named_below}
use Rattle.owner_titles.proofs.Machine.{named_here}
use Rattle.owner_titles.proofs.titles.Titles.find.Goals as goal

pub overflow_cast-result : goal.overflow_cast-result
overflow_cast-result c =
    let below : c.in-Some.number ≤ c.self.inside.last = named_below c.self.inside.table c.self.inside.names.held c.self.inside.last c.self.inside.transactions c.self.invariant c.args.name.now c.in-Some.number (sym c.in-Some.ensures) in
    omega (arith, below, c.self.invariant.small)

some_is : (c : goal.In-Some) → Some record { 0 = c.in-Some.number } ≡ transaction_named c.args.self.now c.args.name.now
some_is c =
    ap (option_map number) c.in-Some.ensures ∙ named_is c.self.inside.table c.self.inside.names.held c.self.invariant.named c.args.name.now ∙ ap (λ (m : Meaning). transaction_named m c.args.name.now) c.self.view_is

pub returns-in-Some : goal.returns-in-Some
returns-in-Some c = record { here = some_is c; machine = λ k are. some_is c ∙ named_here c.args.self.now k are c.args.name.now }

none_is : (c : goal.In-None) → None ≡ transaction_named c.args.self.now c.args.name.now
none_is c =
    ap (option_map number) c.in-None.ensures ∙ named_is c.self.inside.table c.self.inside.names.held c.self.invariant.named c.args.name.now ∙ ap (λ (m : Meaning). transaction_named m c.args.name.now) c.self.view_is

pub returns-in-None : goal.returns-in-None
returns-in-None c = record { here = none_is c; machine = λ k are. none_is c ∙ named_here c.args.self.now k are c.args.name.now }
