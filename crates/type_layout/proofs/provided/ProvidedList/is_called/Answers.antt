use Rattle.std.proofs.Common.{◌∙◌}
use Rattle.type_layout.proofs.Provisions.{by_catalog, otherwise}
use Rattle.type_layout.proofs.Scoping.{is_there}
use Rattle.type_layout.proofs.provided.ProvidedList.is_called.Goals as goal

pub returns-in-Some-in_front : goal.returns-in-Some-in_front
returns-in-Some-in_front c =
    let list = c.self.inside in
    let found = rw c.deref.ensures.value at c.in-Some.ensures.lookup in
    let there = is_there list.provisions.items c.args.place c.in-Some.provision.now found.0 found.1 in
    rw (← c.self.view_is) (c.is_name.ensures ∙ by_catalog list.scopes list.provisions.items c.args.place c.in-Some.provision.now c.args.word.now c.in-Some-in_front.catalog.now there (rw c.as_slice.ensures at c.in-Some-in_front.ensures))

pub returns-in-None : goal.returns-in-None
returns-in-None c =
    let list = c.self.inside in
    let found = rw c.deref.ensures.value at c.in-Some.ensures.lookup in
    let there = is_there list.provisions.items c.args.place c.in-Some.provision.now found.0 found.1 in
    rw (← c.self.view_is) (otherwise list.scopes list.provisions.items c.args.place c.in-Some.provision.now c.args.word.now there (rw c.as_slice.ensures at c.in-None.ensures))
