use Rattle.std.proofs.Common.{sym, ap, ◌∙◌}
use Rattle.pss_machine.specs.Kept.{is_in_use}
use Rattle.session_calls.proofs.Comings.{unused}
use Rattle.session_calls.proofs.opening.open.Goals as goal

pub open_transactional-requires : goal.open_transactional-requires
open_transactional-requires c = record {
  kept = c.requires.kept;
  at = c.requires.at;
  free = (unused c.requires.kept c.args.name.now (ap (is_in_use c.requires.kept) (sym c.as_slice.ensures) ∙ sym (c.is_in_use.ensures c.requires.kept c.requires.at.stands) ∙ c.if-is_in_use.false)).0;
}

pub open_basic-requires : goal.open_basic-requires
open_basic-requires c = record {
  kept = c.requires.kept;
  at = c.requires.at;
  free = (unused c.requires.kept c.args.name.now (ap (is_in_use c.requires.kept) (sym c.as_slice.ensures) ∙ sym (c.is_in_use.ensures c.requires.kept c.requires.at.stands) ∙ c.if-is_in_use.false)).0;
}
