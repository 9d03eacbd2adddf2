use Rattle.std.proofs.Common.{sym, ◌∙◌}
use Rattle.lock_table.proofs.Keyed.{no_value}
use Rattle.lock_table.proofs.Emptied.{cols_less, col_bare, col_full}
use Rattle.lock_table.proofs.rings.drop_empty_column.Goals as goal

pub first_of_col_uncounted-requires : goal.first_of_col_uncounted-requires
first_of_col_uncounted-requires c = c.requires.cols.there c.args.owner c.in-Some.col (sym c.in-Some.ensures)

pub remove_column-requires-clause-empty : goal.remove_column-requires-clause-empty
remove_column-requires-clause-empty c = col_bare c.args.links.now c.requires c.args.owner c.in-Some.col (sym c.in-Some.ensures) (sym c.in-None.ensures)

pub returns-in-Some-first_of_col_uncounted-clause-cols : goal.returns-in-Some-first_of_col_uncounted-clause-cols
returns-in-Some-first_of_col_uncounted-clause-cols c keys were = cols_less c.args.links.now c.args.owner keys were (col_full c.args.links.now c.args.owner c.in-Some.col _ (sym c.in-Some.ensures) (sym c.in-Some-first_of_col_uncounted.ensures))

pub returns-in_default-clause-cols : goal.returns-in_default-clause-cols
returns-in_default-clause-cols c keys were = cols_less c.args.links.now c.args.owner keys were (λ s e h. no_value s (sym (sym c.find.ensures ∙ c.in_default.is) ∙ h))
