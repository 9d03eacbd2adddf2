-- The step that follows a member.
use Rattle.std.proofs.Common.{◌≡◌, ℕ, List, [], ◌∷◌, Option, Some, sym, ap, ◌∙◌}
use Rattle.std.specs.List.{slice_get}
use Rattle.pss_base.specs.declared.pid.Pid.{Pid}
use Rattle.type_layout.specs.declared.schema.Schema.{Schema}
use Rattle.type_layout.specs.Schemas.{given}
use Rattle.type_layout.specs.Types.{PlainValue}
use Rattle.pss_catalog.specs.Catalog.{Object, Catalog, references}
use Rattle.pss_machine.specs.declared.level.Level.{Level}
use Rattle.pss_machine.specs.declared.lock.Need.{Need}
use Rattle.pss_machine.specs.declared.lock.Mode.TheVariants.{S as Read}
use Rattle.pss_machine.specs.Operations.{Ask, Follow, Gone}
use Rattle.pss_machine.specs.Alone.{answers, followed, object_of}
use Rattle.pss_machine.specs.Needs.{object_need, targets}
use Rattle.owner_view.specs.declared.step.Step.{Step}
use Rattle.owner_view.specs.Steps.{with_reads, ComesTo, IsStep}
use Rattle.owner_view.proofs.Needing.{needs_are}

module _ (S : Schema) (level : Level) (V : Catalog) (p : Pid) (member : ℕ) where
  abbrev needed : Option Object → List Need
  needed o = with_reads level [] (object_need Read p.serial ∷ given o [] (λ object. given (slice_get object.values member) [] (λ value. targets (references value))))

  pub follow_is : (x : Object) (value : PlainValue) (step : Step) → object_of V p ≡ Some x → slice_get x.values member ≡ Some value
      → ComesTo S V (with_reads level [] (object_need Read p.serial ∷ targets (references value))) (answers (followed V p value)) step → IsStep S level V (Ask (Follow p member)) step
  follow_is x value step there is r = record {
    needs = r.needs ∙ ap (λ (o : Option PlainValue). with_reads level [] (object_need Read p.serial ∷ given o [] (λ value. targets (references value)))) (sym is) ∙ ap needed (sym there) ∙ sym (needs_are S level V (Ask (Follow p member)));
    answer =
        r.answer ∙ ap (λ (o : Option PlainValue). given o (Gone p) (followed V p)) (sym is)
        ∙ ap (λ (o : Option Object). given o (Gone p) (λ object. given (slice_get object.values member) (Gone p) (followed V p))) (sym there);
    changes = r.changes;
    put = r.put;
  }
