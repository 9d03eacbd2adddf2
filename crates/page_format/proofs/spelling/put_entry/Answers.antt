use Rattle.std.proofs.Common.{ap, length, ◌++◌, ◌∙◌}
use Rattle.std.specs.Int.{to_be_bytes, w32, w64}
use Rattle.page_format.specs.Objects.{entry_left}
use Rattle.page_format.proofs.Spelled.{and_then, entry_parts, first_put, put_more}
use Rattle.page_format.proofs.spelling.put_entry.Goals as goal

pub returns : goal.returns
returns c =
    let b = c.args.buffer.now in
    let e = entry_left c.args.put.now in
    let home = to_be_bytes w32 e.home in
    let count = to_be_bytes w32 (length e.octets) in
    let serial = to_be_bytes w64 e.serial in
    let p1 = first_put b c.put.new.self c.to_be_bytes.result home c.put.ensures c.to_be_bytes.ensures in
    let p2 = put_more b c.put.new.self c.put-2.new.self home c.to_be_bytes-2.result count p1 c.put-2.ensures (c.to_be_bytes-2.ensures ∙ ap (λ l. to_be_bytes w32 (length l)) c.record_of-octets.ensures) in
    let p3 = put_more b c.put-2.new.self c.put-3.new.self (home ++ count) c.to_be_bytes-3.result serial p2 c.put-3.ensures c.to_be_bytes-3.ensures in
    let p4 = put_more b c.put-3.new.self c.put-4.new.self ((home ++ count) ++ serial) c.record_of-octets.result.now e.octets p3 c.put-4.ensures c.record_of-octets.ensures in
    p4 ∙ ap (and_then b) (entry_parts e)
