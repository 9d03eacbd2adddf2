use Rattle.std.proofs.Common.{sym, ap, subst, ◌∙◌}
use Rattle.std.specs.Option.{option_to_list}
use Rattle.storage_home.specs.Kept.{IsKept}
use Rattle.storage_home.proofs.Finding.{holder_is}
use Rattle.storage_home.proofs.homes.Homes.find_key.Goals as goal

pub returns : goal.returns
returns c S M kept =
    holder_is S M c.self.inside.parts (subst (IsKept S M) (sym c.self.view_is) kept) c.args.key c.args.bytes.now ∙ ap option_to_list (sym c.find.ensures)
