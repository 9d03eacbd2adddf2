use Rattle.std.proofs.Common.{◌+◌, ◌*◌, ◌++◌, ◌∙◌, ap, inr, slice_index_or, sym, take}
use Rattle.page_format.specs.Places.{slot_start}
use Rattle.page_format.specs.Written.{pages_octets}
use Rattle.page_store.specs.inner.Laying.{IsLeft}
use Rattle.page_format.specs.declared.new_page.NewPage.{NewPage}
use Rattle.page_store.proofs.PageRuns.{first_start, run_content, run_fits, run_misses}
use Rattle.page_format.proofs.Spelled.{writable_taken}
use Rattle.pss_disk.specs.Octets.{range_of}
use Rattle.pss_disk.proofs.Stretches.{stretch_write}
use Rattle.page_store.proofs.laying.write_run.Goals as goal

pub put_pages-requires-clause-writable : goal.put_pages-requires-clause-writable
put_pages-requires-clause-writable g c = writable_taken c.args.pages.now c.run_of-count.result c.requires.writable

pub write_at-requires : goal.write_at-requires
write_at-requires g c =
    let pages = c.args.pages.now in
    let count = c.run_of-count.result in
    let run = c.run_of-count.ensures in
    let is = c.as_slice.ensures ∙ ap (λ b. b.octets) c.put_pages.ensures ∙ ap (λ b. b.octets ++ pages_octets c.args.epoch (take count pages)) c.clear.ensures in
    let start = ap (λ (p : NewPage). slot_start p.slot) (sym c.index-pages-0.is) ∙ first_start pages c.index-pages-0.result c.requires.some c.index-pages-0.is in
    record { within = run_fits c.args.epoch count _ pages c.as_slice.result.now run.some run.within run.run c.requires.writable start is }

pub returns-in_err-write_at-clause-stretch : goal.returns-in_err-write_at-clause-stretch
returns-in_err-write_at-clause-stretch g c = λ area all content first before fewer s.
    let pages = c.args.pages.now in
    let count = c.run_of-count.result in
    let run = c.run_of-count.ensures in
    let out = c.as_slice.result.now in
    let at = 4456448 + (slice_index_or pages 0 c.index-pages-0.result).slot * 16384 in
    let is = c.as_slice.ensures ∙ ap (λ b. b.octets) c.put_pages.ensures ∙ ap (λ b. b.octets ++ pages_octets c.args.epoch (take count pages)) c.clear.ensures in
    let start = ap (λ (p : NewPage). slot_start p.slot) (sym c.index-pages-0.is) ∙ first_start pages c.index-pages-0.result c.requires.some c.index-pages-0.is in
    stretch_write (IsLeft area all) content first before (g.W.Station.history c.args.w.now) (g.W.Station.history c.write_at.new.self) (g.W.Station.now c.args.w.now) s (range_of at out) (g.W.Station.now c.write_at.new.self)
    (run_misses c.args.epoch count at pages out run.some run.within run.run c.requires.writable start is area all fewer) c.write_at.ensures.time c.in_err-write_at.ensures.maybe

pub returns-clause-content : goal.returns-clause-content
returns-clause-content g c =
    let pages = c.args.pages.now in
    let count = c.run_of-count.result in
    let run = c.run_of-count.ensures in
    let is = c.as_slice.ensures ∙ ap (λ b. b.octets) c.put_pages.ensures ∙ ap (λ b. b.octets ++ pages_octets c.args.epoch (take count pages)) c.clear.ensures in
    let start = ap (λ (p : NewPage). slot_start p.slot) (sym c.index-pages-0.is) ∙ first_start pages c.index-pages-0.result c.requires.some c.index-pages-0.is in
    run_content c.args.epoch count _ pages c.as_slice.result.now run.some run.within run.run c.requires.writable start is (g.W.Station.content c.args.w.now) (g.W.Station.content c.write_at.new.self) c.in_ok-write_at.ensures.written

pub returns-clause-stretch : goal.returns-clause-stretch
returns-clause-stretch g c = λ area all content first before fewer s.
    let pages = c.args.pages.now in
    let count = c.run_of-count.result in
    let run = c.run_of-count.ensures in
    let out = c.as_slice.result.now in
    let at = 4456448 + (slice_index_or pages 0 c.index-pages-0.result).slot * 16384 in
    let is = c.as_slice.ensures ∙ ap (λ b. b.octets) c.put_pages.ensures ∙ ap (λ b. b.octets ++ pages_octets c.args.epoch (take count pages)) c.clear.ensures in
    let start = ap (λ (p : NewPage). slot_start p.slot) (sym c.index-pages-0.is) ∙ first_start pages c.index-pages-0.result c.requires.some c.index-pages-0.is in
    stretch_write (IsLeft area all) content first before (g.W.Station.history c.args.w.now) (g.W.Station.history c.write_at.new.self) (g.W.Station.now c.args.w.now) s (range_of at out) (g.W.Station.now c.write_at.new.self)
    (run_misses c.args.epoch count at pages out run.some run.within run.run c.requires.writable start is area all fewer) c.write_at.ensures.time (inr c.in_ok-write_at.ensures.now)
