use Rattle.std.proofs.Common.{◌≡◌, ◌∙◌, ℕ, Some, ap, sym}
use Rattle.psdl_directory.specs.Spelled.{number_of}
use Rattle.psdl_members.proofs.Entering.{spelled_push}
use Rattle.psdl_members.proofs.spelled.add_number.Goals as goal

pub returns-clause-spelled : goal.returns-clause-spelled
returns-clause-spelled c names e =
    let noted : number_of c.note.new.spellings c.args.identifier.now.name ≡ Some c.in_ok-number.number = rw c.as_slice.ensures at c.in_ok-number.ensures.number in
    rw c.in_ok-push.ensures.items
    (spelled_push c.args.spellings.now c.note.new.spellings c.args.numbers.now.items c.index.result names c.args.identifier.now.name c.note.ensures.kept e (noted ∙ ap (λ (n : ℕ). Some n) (sym c.index.ensures)))
