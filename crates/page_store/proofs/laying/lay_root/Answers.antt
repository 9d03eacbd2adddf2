use Rattle.std.proofs.Common.{inr}
use Rattle.page_store.specs.inner.Laying.{IsLeft}
use Rattle.page_store.proofs.Laid.{laid, laid_agrees, laid_content}
use Rattle.pss_disk.proofs.Images.{synced_settled}
use Rattle.pss_disk.proofs.Stretches.{stretch_start, synced_images, synced_quiet, synced_said}
use Rattle.page_store.proofs.laying.lay_root.Goals as goal

pub returns-in_err-write_pages-clause-images : goal.returns-in_err-write_pages-clause-images
returns-in_err-write_pages-clause-images g c =
    let pages = c.args.pages.now in
    let old = g.W.Station.content c.args.w.now in
    let first = g.W.Station.now c.args.w.now in
    let before = g.W.Station.history c.args.w.now in
    let s1 = c.write_pages.ensures.stretch c.args.root.now.area old first before (stretch_start (IsLeft c.args.root.now.area pages) old first before c.requires.settled) in
    s1.images

pub returns-in_err-write_pages-clause-quiet : goal.returns-in_err-write_pages-clause-quiet
returns-in_err-write_pages-clause-quiet g c =
    let pages = c.args.pages.now in
    let old = g.W.Station.content c.args.w.now in
    let first = g.W.Station.now c.args.w.now in
    let before = g.W.Station.history c.args.w.now in
    let s1 = c.write_pages.ensures.stretch c.args.root.now.area old first before (stretch_start (IsLeft c.args.root.now.area pages) old first before c.requires.settled) in
    s1.quiet

pub returns-in_err-write_pages-clause-said : goal.returns-in_err-write_pages-clause-said
returns-in_err-write_pages-clause-said g c =
    let pages = c.args.pages.now in
    let old = g.W.Station.content c.args.w.now in
    let first = g.W.Station.now c.args.w.now in
    let before = g.W.Station.history c.args.w.now in
    let s1 = c.write_pages.ensures.stretch c.args.root.now.area old first before (stretch_start (IsLeft c.args.root.now.area pages) old first before c.requires.settled) in
    s1.said

pub returns-in_err-write_root-clause-images : goal.returns-in_err-write_root-clause-images
returns-in_err-write_root-clause-images g c =
    let pages = c.args.pages.now in
    let old = g.W.Station.content c.args.w.now in
    let first = g.W.Station.now c.args.w.now in
    let before = g.W.Station.history c.args.w.now in
    let s1 = c.write_pages.ensures.stretch c.args.root.now.area old first before (stretch_start (IsLeft c.args.root.now.area pages) old first before c.requires.settled) in
    let s2 = c.write_root.ensures.stretch pages old first before s1 in
    s2.images

pub returns-in_err-write_root-clause-quiet : goal.returns-in_err-write_root-clause-quiet
returns-in_err-write_root-clause-quiet g c =
    let pages = c.args.pages.now in
    let old = g.W.Station.content c.args.w.now in
    let first = g.W.Station.now c.args.w.now in
    let before = g.W.Station.history c.args.w.now in
    let s1 = c.write_pages.ensures.stretch c.args.root.now.area old first before (stretch_start (IsLeft c.args.root.now.area pages) old first before c.requires.settled) in
    let s2 = c.write_root.ensures.stretch pages old first before s1 in
    s2.quiet

pub returns-in_err-write_root-clause-said : goal.returns-in_err-write_root-clause-said
returns-in_err-write_root-clause-said g c =
    let pages = c.args.pages.now in
    let old = g.W.Station.content c.args.w.now in
    let first = g.W.Station.now c.args.w.now in
    let before = g.W.Station.history c.args.w.now in
    let s1 = c.write_pages.ensures.stretch c.args.root.now.area old first before (stretch_start (IsLeft c.args.root.now.area pages) old first before c.requires.settled) in
    let s2 = c.write_root.ensures.stretch pages old first before s1 in
    s2.said

pub returns-in_err-sync-clause-images : goal.returns-in_err-sync-clause-images
returns-in_err-sync-clause-images g c =
    let pages = c.args.pages.now in
    let old = g.W.Station.content c.args.w.now in
    let first = g.W.Station.now c.args.w.now in
    let before = g.W.Station.history c.args.w.now in
    let s1 = c.write_pages.ensures.stretch c.args.root.now.area old first before (stretch_start (IsLeft c.args.root.now.area pages) old first before c.requires.settled) in
    let s2 = c.write_root.ensures.stretch pages old first before s1 in
    let root = c.args.root.now in
    let is = laid_content root pages old (g.W.Station.content c.write_pages.new.w) (g.W.Station.content c.write_root.new.w) c.in_ok-write_pages.ensures.content c.in_ok-write_root.ensures.content in
    synced_images (IsLeft c.args.root.now.area pages) old first before (g.W.Station.history c.write_root.new.w) (g.W.Station.history c.sync.new.self) (g.W.Station.now c.write_root.new.w) s2 (g.W.Station.content c.write_root.new.w) (laid root pages) is (λ x. laid_agrees root pages x c.requires.shape c.requires.slots c.requires.writable) c.sync.ensures.time

pub returns-in_err-sync-clause-quiet : goal.returns-in_err-sync-clause-quiet
returns-in_err-sync-clause-quiet g c =
    let pages = c.args.pages.now in
    let old = g.W.Station.content c.args.w.now in
    let first = g.W.Station.now c.args.w.now in
    let before = g.W.Station.history c.args.w.now in
    let s1 = c.write_pages.ensures.stretch c.args.root.now.area old first before (stretch_start (IsLeft c.args.root.now.area pages) old first before c.requires.settled) in
    let s2 = c.write_root.ensures.stretch pages old first before s1 in
    synced_quiet (IsLeft c.args.root.now.area pages) old first before (g.W.Station.history c.write_root.new.w) (g.W.Station.history c.sync.new.self) (g.W.Station.now c.write_root.new.w) s2 (g.W.Station.content c.write_root.new.w) c.sync.ensures.time

pub returns-in_err-sync-clause-said : goal.returns-in_err-sync-clause-said
returns-in_err-sync-clause-said g c =
    let pages = c.args.pages.now in
    let old = g.W.Station.content c.args.w.now in
    let first = g.W.Station.now c.args.w.now in
    let before = g.W.Station.history c.args.w.now in
    let s1 = c.write_pages.ensures.stretch c.args.root.now.area old first before (stretch_start (IsLeft c.args.root.now.area pages) old first before c.requires.settled) in
    let s2 = c.write_root.ensures.stretch pages old first before s1 in
    synced_said (IsLeft c.args.root.now.area pages) old first before (g.W.Station.history c.write_root.new.w) (g.W.Station.history c.sync.new.self) (g.W.Station.now c.write_root.new.w) s2 (g.W.Station.content c.write_root.new.w) (g.W.Station.now c.sync.new.self) c.in_err-sync.ensures.maybe

pub returns-clause-settled : goal.returns-clause-settled
returns-clause-settled g c =
    synced_settled (g.W.Station.content c.write_root.new.w) (g.W.Station.content c.sync.new.self) (g.W.Station.now c.write_root.new.w) (g.W.Station.now c.sync.new.self) c.in_ok-sync.ensures.durable c.sync.ensures.content

pub returns-clause-images : goal.returns-clause-images
returns-clause-images g c =
    let pages = c.args.pages.now in
    let old = g.W.Station.content c.args.w.now in
    let first = g.W.Station.now c.args.w.now in
    let before = g.W.Station.history c.args.w.now in
    let s1 = c.write_pages.ensures.stretch c.args.root.now.area old first before (stretch_start (IsLeft c.args.root.now.area pages) old first before c.requires.settled) in
    let s2 = c.write_root.ensures.stretch pages old first before s1 in
    let root = c.args.root.now in
    let is = laid_content root pages old (g.W.Station.content c.write_pages.new.w) (g.W.Station.content c.write_root.new.w) c.in_ok-write_pages.ensures.content c.in_ok-write_root.ensures.content in
    synced_images (IsLeft c.args.root.now.area pages) old first before (g.W.Station.history c.write_root.new.w) (g.W.Station.history c.sync.new.self) (g.W.Station.now c.write_root.new.w) s2 (g.W.Station.content c.write_root.new.w) (laid root pages) is (λ x. laid_agrees root pages x c.requires.shape c.requires.slots c.requires.writable) c.sync.ensures.time

pub returns-clause-quiet : goal.returns-clause-quiet
returns-clause-quiet g c =
    let pages = c.args.pages.now in
    let old = g.W.Station.content c.args.w.now in
    let first = g.W.Station.now c.args.w.now in
    let before = g.W.Station.history c.args.w.now in
    let s1 = c.write_pages.ensures.stretch c.args.root.now.area old first before (stretch_start (IsLeft c.args.root.now.area pages) old first before c.requires.settled) in
    let s2 = c.write_root.ensures.stretch pages old first before s1 in
    synced_quiet (IsLeft c.args.root.now.area pages) old first before (g.W.Station.history c.write_root.new.w) (g.W.Station.history c.sync.new.self) (g.W.Station.now c.write_root.new.w) s2 (g.W.Station.content c.write_root.new.w) c.sync.ensures.time

pub returns-clause-said : goal.returns-clause-said
returns-clause-said g c =
    let pages = c.args.pages.now in
    let old = g.W.Station.content c.args.w.now in
    let first = g.W.Station.now c.args.w.now in
    let before = g.W.Station.history c.args.w.now in
    let s1 = c.write_pages.ensures.stretch c.args.root.now.area old first before (stretch_start (IsLeft c.args.root.now.area pages) old first before c.requires.settled) in
    let s2 = c.write_root.ensures.stretch pages old first before s1 in
    synced_said (IsLeft c.args.root.now.area pages) old first before (g.W.Station.history c.write_root.new.w) (g.W.Station.history c.sync.new.self) (g.W.Station.now c.write_root.new.w) s2 (g.W.Station.content c.write_root.new.w) (g.W.Station.now c.sync.new.self) (inr c.in_ok-sync.ensures.durable)
