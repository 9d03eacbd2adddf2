use Rattle.std.proofs.Common.{◌≡◌, ◌∙◌, ℕ, Some, ap, sym}
use Rattle.psdl_directory.specs.Lookup.{lower}
use Rattle.psdl_directory.specs.Spelled.{number_of, Keeps}
use Rattle.psdl_members.specs.Listings.{listed_view}
use Rattle.psdl_members.proofs.Entering.{entry_made, entries_kept, spelled_kept}
use Rattle.psdl_members.proofs.entries.entry_of.Goals as goal

pub returns-clause-entry : goal.returns-clause-entry
returns-clause-entry c =
    let listed = c.args.listed.now in
    let view = listed_view listed in
    let named : number_of c.note-2.new.spellings (lower view.name) ≡ Some c.in_ok-name.name = rw c.as_slice.ensures at c.in_ok-name.ensures.number in
    entry_made (record { spellings = c.note-2.new.spellings; lists = c.note.new.self }) view c.in_ok-list.list.items c.index.result c.in_ok-number.number (named ∙ ap (λ (n : ℕ). Some n) (sym c.index.ensures))
    (spelled_kept c.list_of.new.spellings c.note-2.new.spellings c.in_ok-list.list.items view.members c.note-2.ensures.kept c.in_ok-list.ensures.spelled)
    c.in_ok-number.ensures.number

pub returns-clause-kept : goal.returns-clause-kept
returns-clause-kept c =
    let kept : Keeps c.args.numbering.now.spellings c.note-2.new.spellings = λ q n is. c.note-2.ensures.kept q n (c.in_ok-list.ensures.kept q n is) in
    entries_kept c.args.numbering.now (record { spellings = c.note-2.new.spellings; lists = c.note.new.self }) kept c.note.ensures.kept
