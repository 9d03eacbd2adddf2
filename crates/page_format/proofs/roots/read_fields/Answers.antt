use Rattle.std.proofs.Common.{◌+◌, List, ℕ, refl}
use Rattle.pss_disk.specs.Parts.{Stands}
use Rattle.page_format.specs.Places.{area_start}
use Rattle.page_format.specs.Roots.{HasRoot}
use Rattle.page_format.specs.inner.Current.{AreItsSlots, IsOpened}
use Rattle.page_format.proofs.Buffers.{some_both, told_same}
use Rattle.page_format.proofs.Fields.{whole_root}
use Rattle.page_format.proofs.roots.read_fields.Goals as goal

pub returns-in-Ok-read_shape-clause-root : goal.returns-in-Ok-read_shape-clause-root
returns-in-Ok-read_shape-clause-root g c =
    let content = g.W.Station.content c.args.w.now in
    let found = c.args.found in
    let slots = c.in-Ok.slots in
    let shape = c.in-Ok-read_shape.shape in
    let stands : List ℕ → Type 0 = λ image. Stands image (area_start found.area + 32) shape in
    let two : List ℕ → Type 0 = λ image. IsOpened c.args.len found image × AreItsSlots found slots image in
    some_both content two stands (HasRoot _)
    (λ image known here. whole_root c.args.len found slots shape image _ refl known.0 c.requires.head known.1 c.in-Ok.ensures.right c.in-Ok-read_shape.ensures.len here)
    (some_both content (IsOpened c.args.len found) (AreItsSlots found slots) two (λ image a b. (a, b)) c.requires.opened c.in-Ok.ensures.slots)
    (told_same content (g.W.Station.content c.read_right_slots.new.w) stands c.in-Ok.ensures.reads.same c.in-Ok-read_shape.ensures.stands)
