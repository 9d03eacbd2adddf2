-- What a draft comes to.
use Rattle.std.specs.Prelude.{nat_lt, if◌then◌else◌}
use Rattle.pss_machine.specs.declared.lock.Need.{Need}
use Rattle.owner_view.specs.declared.draft.Draft.{Draft}
use Rattle.std.proofs.Common.{◌≡◌, ℕ, length, List, [], ◌∷◌, Option, Some, None, refl, sym, ap, ◌∙◌}
use Rattle.pss_base.specs.declared.pid.Pid.{Pid}
use Rattle.type_layout.specs.declared.key.KeyNo.{KeyNo}
use Rattle.type_layout.specs.declared.schema.Schema.{Schema}
use Rattle.type_layout.specs.Schemas.{given}
use Rattle.pss_catalog.specs.Catalog.{Object, Catalog, object_spelling}
use Rattle.pss_catalog.specs.Changes.{Change}
use Rattle.pss_machine.specs.Operations.{Gone, Duplicate, TooLarge, Done}
use Rattle.pss_machine.specs.Alone.{Outcome, answers, first_gone, first_taken, stored}
use Rattle.owner_view.specs.Refusal.{unless_refused}
use Rattle.owner_view.specs.Steps.{IsDraft, stored_unless}

not_put : {A : Type 0} (changes : List Change) (c : Change) → changes ≡ [] → changes ≡ c ∷ [] → A
not_put changes c p q = absurd cc

-- an object that is not refused has no key that another holds
pub is_free : (S : Schema) (V : Catalog) (serial : ℕ) (object : Object) (references : List Pid) → unless_refused None serial object Done ≡ stored_unless S V serial object references Done → first_taken S V serial object ≡ None
is_free S V serial object references is = by (first_gone V references) refl (first_taken S V serial object) refl
  where
    c : Change
    c = record { serial = serial; state = Some object }

    by : (which : Option Pid) → first_gone V references ≡ which → (taken : Option KeyNo) → first_taken S V serial object ≡ taken → taken ≡ None
    by which e None f = refl
    by (Some q) e (Some k) f = not_put (stored_unless S V serial object references Done).changes c
        (ap (λ (o : Option Pid). (given o (stored S V serial object Done) (λ q. answers (Gone q))).changes) e)
        (ap (λ (o : Outcome). o.changes) (sym is))
    by None e (Some k) f = not_put (stored_unless S V serial object references Done).changes c
        (ap (λ (o : Option Pid). (given o (stored S V serial object Done) (λ q. answers (Gone q))).changes) e
        ∙ ap (λ (o : Option KeyNo). (given o (if nat_lt 8000 (length (object_spelling S object)) then answers TooLarge else record { changes = c ∷ []; answer = Done }) (λ k. answers (Duplicate k))).changes) f)
        (ap (λ (o : Outcome). o.changes) (sym is))

-- the same draft, of what is needed and referred to in other words
pub redrafted : (S : Schema) (V : Catalog) (serial : ℕ) (object : Object) (needed more : List Need) (references others : List Pid) (draft : Draft) → needed ≡ more → references ≡ others → IsDraft S V serial object needed (stored_unless S V serial object references) draft → IsDraft S V serial object more (stored_unless S V serial object others) draft
redrafted S V serial object needed more references others draft same one d = record {
  needs = d.needs ∙ same;
  refusal = λ done. d.refusal done ∙ ap (λ (l : List Pid). stored_unless S V serial object l done) one;
  had = d.had;
  has = d.has;
}
