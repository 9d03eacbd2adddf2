use Rattle.std.proofs.Common.{sym, ap, ◌∙◌, arith}
use Rattle.std.proofs.lemmas.Bool.{le-ltb}
use Rattle.std.specs.Option.{option_map}
use Rattle.lock_table.proofs.Rows.{own_in_row, bare_held}
use Rattle.lock_table.proofs.asks.is_held_at.Goals as goal

pub returns-then-place-gt0 : goal.returns-then-place-gt0
returns-then-place-gt0 c resource at = c.is_in_row.ensures ∙ own_in_row c.args.links.now c.requires.linked resource c.args.place.row (ap (option_map (λ place. place.row)) at) c.args.owner c.args.mode

pub returns-else-place-gt0 : goal.returns-else-place-gt0
returns-else-place-gt0 c resource at = le-ltb 0 c.args.place.locks c.if-place-gt0.false ∙ sym (bare_held c.args.links.now c.requires.linked resource c.args.place at (omega (arith, c.if-place-gt0.false)) c.args.owner c.args.mode)
