use Rattle.std.proofs.Common.{length, take, ap, arith, length-append, refl}
use Rattle.std.proofs.lemmas.List.{length-take-le}
use Rattle.page_format.specs.Written.{pages_octets, whole_page}
use Rattle.page_format.proofs.Spelled.{length_pages, put_next, writable_at, writable_taken}
use Rattle.page_format.proofs.spelling.put_pages.Goals as goal

pub put_page-requires-clause-writable : goal.put_page-requires-clause-writable
put_page-requires-clause-writable c = writable_at c.args.pages.now c.loop-page.page-index c.page-item.result c.requires.writable c.loop-page-test.true c.page-item.is

pub put_page-requires-clause-room : goal.put_page-requires-clause-room
put_page-requires-clause-room c =
    let so_far = take c.loop-page.page-index c.args.pages.now in
    omega (
      arith,
      ap (λ b. b.size) c.loop-page.invariant,
      ap (λ b. length b.octets) c.loop-page.invariant,
      c.requires.room,
      c.loop-page-test.true,
      length_pages c.args.epoch so_far (writable_taken c.args.pages.now c.loop-page.page-index c.requires.writable),
      length-take-le c.loop-page.page-index c.args.pages.now (omega (arith, c.loop-page-test.true)),
      length-append c.args.buffer.now.octets (pages_octets c.args.epoch so_far),
    )

pub loop-page-preserved : goal.loop-page-preserved
loop-page-preserved c =
    put_next (whole_page c.args.epoch) c.args.pages.now c.loop-page.page-index c.page-item.result c.args.buffer.now c.loop-page.buffer c.put_page.new.buffer (whole_page c.args.epoch c.page-item.result) c.loop-page-test.true c.page-item.is c.loop-page.invariant c.put_page.ensures refl
