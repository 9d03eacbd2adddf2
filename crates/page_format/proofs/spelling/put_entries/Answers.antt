use Rattle.std.proofs.Common.{ap, arith, length, length-append, refl, take}
use Rattle.page_format.specs.Objects.{entries_left, entry_left}
use Rattle.page_format.specs.Written.{entries_octets, entry_octets}
use Rattle.page_format.proofs.EntryOctets.{length_entry}
use Rattle.page_format.proofs.Filling.{storable_at}
use Rattle.page_format.proofs.Spelled.{left_at, next_fits, put_next, there_left}
use Rattle.page_format.proofs.spelling.put_entries.Goals as goal

pub put_entry-requires-clause-storable : goal.put_entry-requires-clause-storable
put_entry-requires-clause-storable c = storable_at c.args.puts.now c.loop-put.put-index c.put-item.result c.requires.storable c.loop-put-test.true c.put-item.is

pub put_entry-requires-clause-room : goal.put_entry-requires-clause-room
put_entry-requires-clause-room c =
    let es = entries_left c.args.puts.now in
    let k = c.loop-put.put-index in
    let e = entry_left c.put-item.result in
    omega (
      arith,
      ap (λ b. b.size) c.loop-put.invariant,
      ap (λ b. length b.octets) c.loop-put.invariant,
      c.requires.room,
      length_entry e,
      next_fits entry_octets es k e (there_left c.args.puts.now k c.loop-put-test.true) (left_at c.args.puts.now k c.put-item.result c.loop-put-test.true c.put-item.is),
      length-append c.args.buffer.now.octets (entries_octets (take k es)),
    )

pub loop-put-preserved : goal.loop-put-preserved
loop-put-preserved c =
    let es = entries_left c.args.puts.now in
    let k = c.loop-put.put-index in
    let e = entry_left c.put-item.result in
    put_next entry_octets es k e c.args.buffer.now c.loop-put.buffer c.put_entry.new.buffer (entry_octets e) (there_left c.args.puts.now k c.loop-put-test.true) (left_at c.args.puts.now k c.put-item.result c.loop-put-test.true c.put-item.is) c.loop-put.invariant c.put_entry.ensures refl
