use Rattle.std.proofs.Common.{◌++◌, ◌∙◌, ap, length, refl}
use Rattle.std.specs.Int.{to_be_bytes, w32, w64}
use Rattle.page_format.specs.Roots.{root_magic}
use Rattle.page_format.proofs.Spelled.{and_then, first_put, put_more, root_parts}
use Rattle.page_format.proofs.spelling.put_root.Goals as goal

pub returns-clause-put : goal.returns-clause-put
returns-clause-put c =
    let b = c.args.buffer.now in
    let r = c.args.root.now in
    let epoch = to_be_bytes w64 r.epoch in
    let next = to_be_bytes w64 r.next in
    let shape = to_be_bytes w32 (length r.shape) in
    let count = to_be_bytes w32 (length r.slots) in
    let p1 = first_put b c.put.new.self root_magic root_magic c.put.ensures refl in
    let p2 = put_more b c.put.new.self c.put-2.new.self root_magic c.to_be_bytes.result epoch p1 c.put-2.ensures c.to_be_bytes.ensures in
    let p3 = put_more b c.put-2.new.self c.put-3.new.self (root_magic ++ epoch) c.to_be_bytes-2.result next p2 c.put-3.ensures c.to_be_bytes-2.ensures in
    let p4 = put_more b c.put-3.new.self c.put-4.new.self ((root_magic ++ epoch) ++ next) c.to_be_bytes-3.result shape p3 c.put-4.ensures (c.to_be_bytes-3.ensures ∙ ap (λ l. to_be_bytes w32 (length l)) c.as_slice-shape.ensures) in
    let p5 = put_more b c.put-4.new.self c.put-5.new.self (((root_magic ++ epoch) ++ next) ++ shape) c.to_be_bytes-4.result count p4 c.put-5.ensures (c.to_be_bytes-4.ensures ∙ ap (λ l. to_be_bytes w32 (length l)) c.as_slice-slots.ensures) in
    let p6 = put_more b c.put-5.new.self c.put-6.new.self ((((root_magic ++ epoch) ++ next) ++ shape) ++ count) c.as_slice-shape.result.now r.shape p5 c.put-6.ensures c.as_slice-shape.ensures in
    p6 ∙ ap (and_then b) (root_parts r)
