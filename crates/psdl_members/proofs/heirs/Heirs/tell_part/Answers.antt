use Rattle.std.proofs.Common.{◌∙◌, ◌*◌, ℕ, length, take, drop}
use Rattle.psdl_members.specs.inner.Heirs.{shows}
use Rattle.psdl_members.specs.inner.Rowed.{Entries}
use Rattle.psdl_members.specs.inner.Seeing.{AreSeen, IsGroup}
use Rattle.psdl_members.proofs.Telling.{met_more}
use Rattle.psdl_members.proofs.heirs.Heirs.tell_part.Goals as goal

pub part-requires : goal.part-requires
part-requires c = rw (c.deref.ensures.value) c.requires.index

pub tell_all-requires-clause-seen : goal.tell_all-requires-clause-seen
tell_all-requires-clause-seen c = c.show.ensures.sized ∙ c.requires.seen

pub returns-clause-met : goal.returns-clause-met
returns-clause-met c before so_far =
    let self = c.args.self.now in
    let rows = self.rows.now in
    let index : ℕ = c.args.index in
    let columns : Entries = self.claims.columns.items in
    let es : Entries = take 64 (drop (index * 64) columns) in
    let group : IsGroup c.put.new.self es = rw c.deref.ensures.value at (rw c.part.ensures.part at c.in_ok-put.ensures) in
    let shown : AreSeen c.show.new.seen.items es (shows rows) = (rw c.deref-2.ensures.value at c.show.ensures.seen) rows es self.claimed group in
    met_more self.graph.now rows columns before c.args.clashes.now.items c.tell_all.new.clashes.items (length self.heirs.items) index so_far (c.tell_all.ensures.told es group.few shown)
