use Rattle.psdl_members.specs.Listings.{listed_view}
use Rattle.psdl_check.proofs.KeyIding.{id_made, ids_kept}
use Rattle.psdl_check.proofs.key_rows.KeyIds.note.Goals as goal

pub returns-clause-number : goal.returns-clause-number
returns-clause-number c =
    id_made (record { spellings = c.spelled.new.spellings; lists = c.note.new.self }) (listed_view c.args.listed.now) c.in_ok-numbers.numbers.items c.in_ok-number.number c.in_ok-numbers.ensures.spelled c.in_ok-number.ensures.number

pub returns-clause-kept : goal.returns-clause-kept
returns-clause-kept c = ids_kept c.args.self.now (record { spellings = c.spelled.new.spellings; lists = c.note.new.self }) c.in_ok-numbers.ensures.kept c.note.ensures.kept
