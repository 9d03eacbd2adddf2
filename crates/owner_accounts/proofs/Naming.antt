-- The homes that changes name are there, under each schema of a catalog that is kept.
use Rattle.std.proofs.Common.{ℕ, zero, suc, ◌≡◌, ◌<◌, ◌≤◌, List, [], ◌∷◌, length, Option, Some, None, IsSome, refl, sym, ap, ◌∙◌, subst, arith}
use Rattle.type_layout.specs.declared.schema.Schema.{Schema}
use Rattle.type_layout.specs.Schemas.{nth, home_at}
use Rattle.pss_catalog.specs.Catalog.{Object, Catalog}
use Rattle.pss_catalog.specs.Changes.{Change as Step}
use Rattle.pss_laws.proofs.Asking.{within_list}
use Rattle.storage_home.specs.declared.change.Change.{Change}
use Rattle.storage_home.specs.declared.parts.Parts.{Parts as Homes}
use Rattle.storage_home.specs.Kept.{IsKept}
use Rattle.storage_home.specs.Applied.{IsState, AreChanges, AreNamed}
use Rattle.storage_home.proofs.Taking.{some_there}

nth_there : {A : Type 0} (xs : List A) (h : ℕ) → 0 < h → h ≤ length xs → IsSome (nth xs h)
nth_there xs zero some most = absurd (omega (arith, some))
nth_there xs (suc h) some most = within_list xs h (omega (arith, most))

module _ (homes : Homes) (S : Schema) (M : Catalog) (kept : IsKept S M homes) (T : Schema) (N : Catalog) (other : IsKept T N homes) where
  homes_alike : length S.homes ≡ length T.homes
  homes_alike = sym kept.extents_size ∙ other.extents_size

  state_named : (home : ℕ) (bytes : Option (List ℕ)) (state : Option Object) → IsState S home bytes state → IsSome bytes → IsSome (home_at T (record { 0 = home }))
  state_named home None None is some = absurd (cc)
  state_named home None (Some object) is some = absurd is
  state_named home (Some bytes) None is some = absurd is
  state_named home (Some bytes) (Some object) is some =
      let there = some_there S.homes object.home.0 is.1.0 in
      subst (λ h. IsSome (nth T.homes h)) is.0 (nth_there T.homes object.home.0 there.0 (subst (λ n. object.home.0 ≤ n) homes_alike there.1))

  pub named : (cs : List Change) (ds : List Step) → AreChanges S M cs ds → AreNamed T cs
  named [] [] are = tt
  named [] (d ∷ ds) are = absurd are
  named (c ∷ cs) [] are = absurd are
  named (c ∷ cs) (d ∷ ds) are = (state_named c.put.home c.put.bytes d.state are.0.step_is.1, named cs ds are.1)

pub as_many : (S : Schema) (M : Catalog) (cs : List Change) (ds : List Step) → AreChanges S M cs ds → length cs ≡ length ds
as_many S M [] [] are = refl
as_many S M [] (d ∷ ds) are = absurd are
as_many S M (c ∷ cs) [] are = absurd are
as_many S M (c ∷ cs) (d ∷ ds) are = ap suc (as_many S M cs ds are.1)
