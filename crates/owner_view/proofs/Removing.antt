-- Objects by their pids, and the step that removes one.
use Rattle.std.proofs.Common.{◌≡◌, Bool, true, false, cond, ◌==◌, List, [], ◌∷◌, Option, Some, None, refl, sym, ap, ◌∙◌}
use Rattle.std.specs.FinMap.{get}
use Rattle.std.proofs.lemmas.List.{append-nil}
use Rattle.std.proofs.lemmas.Bool.{eqb-true}
use Rattle.pss_base.specs.declared.pid.Pid.{Pid}
use Rattle.type_layout.specs.declared.home.HomeNo.{HomeNo}
use Rattle.type_layout.specs.declared.schema.Schema.{Schema}
use Rattle.type_layout.specs.Schemas.{given}
use Rattle.pss_catalog.specs.Catalog.{Object, Catalog}
use Rattle.pss_machine.specs.declared.level.Level.{Level}
use Rattle.pss_machine.specs.declared.level.Level.TheVariants.{Serializable, ReadCommitted, Basic}
use Rattle.pss_machine.specs.declared.lock.Need.{Need}
use Rattle.pss_machine.specs.Operations.{Destroy, Gone, Done}
use Rattle.pss_machine.specs.Alone.{Outcome, answers, object_of}
use Rattle.owner_view.specs.declared.step.Step.{Step}
use Rattle.owner_view.specs.Keyed.{all_keyed, keys_of}
use Rattle.owner_view.specs.Steps.{with_reads, whole_needs, IsRemoval, IsStep}
use Rattle.owner_view.proofs.Needing.{destroy_needs}

-- an object of a pid is there, in the pid's home
pub is_there : (V : Catalog) (p : Pid) (x : Object) → object_of V p ≡ Some x → (get V p.serial ≡ Some x) × (x.home.0 ≡ p.home)
is_there V p x is = by (get V p.serial) is
  where
    one : (y : Object) (b : Bool) → (y.home.0 == p.home) ≡ b → cond b (Some y) None ≡ Some x → (Some y ≡ Some x) × (x.home.0 ≡ p.home)
    one y false e h = absurd cc
    one y true e h = (let same : y ≡ x = cc in (h, ap (λ (o : Object). o.home.0) (sym same) ∙ eqb-true y.home.0 p.home e))

    by : (o : Option Object) → given o None (λ object. cond (object.home.0 == p.home) (Some object) None) ≡ Some x → (o ≡ Some x) × (x.home.0 ≡ p.home)
    by None h = absurd cc
    by (Some y) h = one y (y.home.0 == p.home) refl h

none_read : (level : Level) (needed : List Need) → with_reads level needed [] ≡ needed
none_read Serializable needed = append-nil needed
none_read ReadCommitted needed = refl
none_read Basic needed = refl

pub removal_is : (S : Schema) (level : Level) (V : Catalog) (p : Pid) (x : Object) (home : HomeNo) (step : Step) → object_of V p ≡ Some x → home ≡ x.home → IsRemoval S V p.serial home step → IsStep S level V (Destroy p) step
removal_is S level V p x home step there same r =
    let outcome : Option Object → Outcome = λ o. given o (answers (Gone p)) (λ object. record { changes = record { serial = p.serial; state = None } ∷ []; answer = Done }) in
    record {
      needs =
          r.needs ∙ (λ i. whole_needs p.serial (same i) (keys_of S ((is_there V p x there).0 i))) ∙ sym (none_read level (whole_needs p.serial x.home (all_keyed S x)))
          ∙ destroy_needs S level V p x there;
      answer = r.answer ∙ ap (λ (o : Option Object). (outcome o).answer) (sym there);
      changes = r.changes ∙ ap (λ (o : Option Object). (outcome o).changes) (sym there);
      put = r.put;
    }
