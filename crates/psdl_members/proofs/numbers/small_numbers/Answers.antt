use Rattle.std.proofs.Common.{◌≡◌, ◌∙◌, ℕ, Some, ap, sym}
use Rattle.psdl_directory.specs.Lookup.{lower}
use Rattle.psdl_directory.specs.Spelled.{number_of}
use Rattle.psdl_members.proofs.Numbering.{numbers_more}
use Rattle.psdl_members.proofs.numbers.small_numbers.Goals as goal

pub loop-member-preserved : goal.loop-member-preserved
loop-member-preserved c =
    let noted : number_of c.note.new.spellings (lower c.member-item.result.name.now.name) ≡ Some c.in_ok-number.number = rw c.as_slice.ensures at c.in_ok-number.ensures.number in
    record {
      numbers =
          numbers_more c.loop-member.spellings c.note.new.spellings c.loop-member.numbers.items c.push.new.self.items c.index.result c.args.members.now c.loop-member.member-index c.member-item.result c.loop-member-test.true
          c.member-item.is c.note.ensures.kept c.in_ok-push.ensures.items c.loop-member.invariant.numbers (noted ∙ ap (λ (n : ℕ). Some n) (sym c.index.ensures));
      kept = λ q n is. c.note.ensures.kept q n (c.loop-member.invariant.kept q n is);
    }
