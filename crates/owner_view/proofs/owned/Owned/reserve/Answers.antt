use Rattle.std.proofs.Common.{refl, sym, ap, subst, ◌∙◌}
use Rattle.std.specs.FinMap.{len}
use Rattle.storage_home.specs.Indexes.{found_at}
use Rattle.owner_view.specs.Overlay.{indexes_in}
use Rattle.owner_view.specs.Owned.{changed_by}
use Rattle.owner_view.specs.Views.{IsOwnHolder}
use Rattle.owner_view.proofs.owned.Owned.reserve.Goals as goal

pub returns-in-Some-clause-same : goal.returns-in-Some-clause-same
returns-in-Some-clause-same c = record {
  level = refl;
  changes = c.reserve.ensures.changes;
  counted = λ counted. counted ∙ sym (ap len c.reserve.ensures.changes);
  under = λ S under. record {
    holders = λ k bytes. subst (λ changes. IsOwnHolder S changes k bytes (found_at (indexes_in c.reserve.new.self) k.0 bytes)) (sym c.reserve.ensures.changes) (subst (IsOwnHolder S (changed_by c.args.self.now) k bytes) (sym (c.reserve.ensures.found k.0 bytes)) (under.holders k bytes));
    sized = c.reserve.ensures.sized S under.sized;
  };
}
