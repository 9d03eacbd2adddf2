use Rattle.std.proofs.Common.{◌+◌, Bool, List, None, refl, sym, ap, subst, ◌∙◌}
use Rattle.std.specs.Prelude.{if◌then◌else◌}
use Rattle.owner_view.specs.declared.owned.Owned.{Owned}
use Rattle.storage_home.specs.Indexes.{TurnsFound, MayPut}
use Rattle.owner_view.specs.Keyed.{Pair}
use Rattle.owner_view.specs.Overlay.{indexes_in, FoundAfter}
use Rattle.owner_view.specs.Owned.{changed_by}
use Rattle.owner_view.specs.Views.{seen_with}
use Rattle.owner_view.proofs.Putting.{told_insert, has_may, indexed_after, sized_put, counted_after}
use Rattle.owner_view.proofs.owned.Owned.put.Goals as goal

pub put_reserved-before-requires-clause-has : goal.put_reserved-before-requires-clause-has
put_reserved-before-requires-clause-has c between turned keeps =
    subst (MayPut between) (sym c.deref-2.ensures.value)
    (has_may c.args.self.now c.args.put c.requires between (subst (λ (pairs : List Pair). TurnsFound (indexes_in c.args.self.now.overlay) between pairs None) c.deref.ensures.value turned) keeps)

pub returns : goal.returns
returns c =
    let new : Owned = record { level = c.args.self.now.level; overlay = c.put_reserved-before.new.self; changed = c.count_with-self.result } in
    let found =
    subst (λ (pairs : List Pair). FoundAfter (indexes_in c.args.self.now.overlay) (indexes_in c.put_reserved-before.new.self) c.args.put.serial c.args.put.pairs.had.items pairs) c.deref-2.ensures.value
    (subst (λ (pairs : List Pair). FoundAfter (indexes_in c.args.self.now.overlay) (indexes_in c.put_reserved-before.new.self) c.args.put.serial pairs c.deref-2.result.now) c.deref.ensures.value c.put_reserved-before.ensures.found) in
    record {
      level = refl;
      changes = c.put_reserved-before.ensures.changes ∙ told_insert c.requires.schema (seen_with c.requires.catalog (changed_by c.args.self.now)) c.args.put.serial c.args.put.slot (changed_by c.args.self.now) c.requires.is.may;
      counted =
          counted_after c.args.self.now c.args.put c.requires new c.put_reserved-before.ensures.changes
          (c.count_with-self.ensures ∙ ap (λ (before : Bool). if before then c.args.self.now.changed else c.args.self.now.changed + 1) c.put_reserved-before.ensures.before);
      under = λ may. record {
        holders = indexed_after c.args.self.now c.args.put may new c.put_reserved-before.ensures.changes found;
        sized = c.put_reserved-before.ensures.sized may.schema may.under.sized (sized_put c.args.self.now c.args.put may);
      };
    }
