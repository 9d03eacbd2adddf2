use Rattle.std.proofs.Common.{◌++◌, ◌-◌, ◌∙◌, ap, arith, length, refl, replicate, sym}
use Rattle.std.specs.Int.{to_be_bytes, w32, w64}
use Rattle.page_format.specs.Objects.{entries_left}
use Rattle.page_format.specs.Pages.{page_magic, page_zeros}
use Rattle.page_format.specs.Written.{entries_octets}
use Rattle.page_format.proofs.Spelled.{and_then, few_entries, first_put, length-left, page_parts, put_more}
use Rattle.page_format.proofs.spelling.put_page.Goals as goal

pub overflow_cast-entries : goal.overflow_cast-entries
overflow_cast-entries c = omega (arith, few_entries c.args.page.now.entries c.requires.writable.storable, c.requires.writable.short, length-left c.as_slice-entries.result.now, ap length c.as_slice-entries.ensures)

pub returns : goal.returns
returns c =
    let b = c.args.buffer.now in
    let p = c.args.page.now in
    let es = p.entries in
    let epoch = to_be_bytes w64 c.args.epoch in
    let slot = to_be_bytes w32 p.slot in
    let count = to_be_bytes w32 (length es) in
    let used = to_be_bytes w32 (length (entries_octets es)) in
    let same = c.as_slice-entries.ensures in
    let in_use = c.used-used.ensures.octets in
    let p1 = first_put b c.put.new.self page_magic page_magic c.put.ensures refl in
    let p2 = put_more b c.put.new.self c.put-2.new.self page_magic c.to_be_bytes.result epoch p1 c.put-2.ensures c.to_be_bytes.ensures in
    let p3 = put_more b c.put-2.new.self c.put-3.new.self (page_magic ++ epoch) c.to_be_bytes-2.result slot p2 c.put-3.ensures c.to_be_bytes-2.ensures in
    let p4 = put_more b c.put-3.new.self c.put-4.new.self ((page_magic ++ epoch) ++ slot) c.to_be_bytes-3.result count p3 c.put-4.ensures (c.to_be_bytes-3.ensures ∙ ap (to_be_bytes w32) (sym (length-left c.as_slice-entries.result.now)) ∙ ap (λ l. to_be_bytes w32 (length l)) same) in
    let p5 = put_more b c.put-4.new.self c.put-5.new.self (((page_magic ++ epoch) ++ slot) ++ count) c.to_be_bytes-4.result used p4 c.put-5.ensures (c.to_be_bytes-4.ensures ∙ ap (to_be_bytes w32) in_use) in
    let p6 = put_more b c.put-5.new.self c.put-6.new.self ((((page_magic ++ epoch) ++ slot) ++ count) ++ used) page_zeros page_zeros p5 c.put-6.ensures refl in
    let p7 = put_more b c.put-6.new.self c.put_entries.new.buffer (((((page_magic ++ epoch) ++ slot) ++ count) ++ used) ++ page_zeros) (entries_octets (entries_left c.as_slice-entries.result.now)) (entries_octets es) p6 c.put_entries.ensures (ap entries_octets same) in
    let p8 = put_more b c.put_entries.new.buffer c.put_zeros.new.self ((((((page_magic ++ epoch) ++ slot) ++ count) ++ used) ++ page_zeros) ++ entries_octets es) (replicate (16344 - c.used-used.result) 0) (replicate (16344 - length (entries_octets es)) 0) p7 c.put_zeros.ensures
    (ap (λ n. replicate (16344 - n) 0) in_use) in
    p8 ∙ ap (and_then b) (page_parts c.args.epoch p)
