use Rattle.page_format.proofs.Buffers.{of_some}
use Rattle.page_format.proofs.Fields.{refused_first, slot_first}
use Rattle.page_format.proofs.roots.test_slots.Goals as goal

pub returns-in-Ok-Some-clause-refused : goal.returns-in-Ok-Some-clause-refused
returns-in-Ok-Some-clause-refused c = λ image opened its.
    let k = c.in-Ok-Some.k in
    let o = c.in-Ok-Some.field-0 in
    let e = c.in-Ok-Some.field-0-is in
    let found = c.in-Ok-Some.ensures in
    refused_first c.args.len c.args.found image _ opened
    (slot_first c.args.found image opened.found_ c.args.len c.args.slots.now opened.len_ c.requires.head its k (of_some o k _ e found.within) (of_some o k _ e found.wrong) (of_some o k _ e found.first))
