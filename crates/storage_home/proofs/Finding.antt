-- What is found in what is kept.
use Rattle.std.proofs.Common.{ℕ, ◌≡◌, ◌==◌, List, [], ◌∷◌, map, Option, Some, None, Bool, true, cond, refl, sym, ap, ◌∙◌, arith}
use Rattle.std.specs.Prelude.{not}
use Rattle.std.specs.Option.{option_to_list}
use Rattle.std.specs.FinMap.{get}
use Rattle.pss_base.specs.declared.pid.Pid.{Pid}
use Rattle.type_layout.specs.declared.key.KeyNo.{KeyNo}
use Rattle.type_layout.specs.declared.schema.Schema.{Schema}
use Rattle.pss_catalog.specs.Catalog.{Object, Catalog, holds, holders, pids_where, without, IsUnique}
use Rattle.pss_catalog.proofs.Listing.{only_listed, lists_one}
use Rattle.storage_home.specs.declared.parts.Parts.{Parts}
use Rattle.storage_home.specs.Indexes.{found_at}
use Rattle.storage_home.specs.Kept.{IsKept}
use Rattle.storage_home.proofs.Places.{by_test}

-- ---- keys

empty_both : (pids : List Pid) → without 0 pids ≡ [] → without 1 pids ≡ [] → pids ≡ []
empty_both [] a b = refl
empty_both (p ∷ ps) a b =
    by_test (λ t. (p.serial == 0) ≡ t → cond (not t) (p ∷ without 0 ps) (without 0 ps) ≡ [] → p ∷ ps ≡ []) (p.serial == 0)
    (λ _ zero _. by_test (λ t. (p.serial == 1) ≡ t → cond (not t) (p ∷ without 1 ps) (without 1 ps) ≡ [] → p ∷ ps ≡ []) (p.serial == 1) (λ _ one _. absurd (grind (arith, zero, one))) (λ _ _ never. cc) refl b)
    (λ _ _ never. cc)
    refl a

none_listed : (test : Object → Bool) (M : Catalog) → ((t : ℕ) (object : Object) → get M t ≡ Some object → test object ≡ true → ⊥) → pids_where test M ≡ []
none_listed test M never = empty_both (pids_where test M) ((only_listed test M 0).1 (λ t x found passes. absurd (never t x found passes))) ((only_listed test M 1).1 (λ t x found passes. absurd (never t x found passes)))

module _ (S : Schema) (M : Catalog) (homes : Parts) (kept : IsKept S M homes) (key : KeyNo) (bytes : List ℕ) where
  pub holder_is : map (λ pid. pid.serial) (holders S M key bytes) ≡ option_to_list (found_at homes.keys key.0 bytes)
  holder_is = by (found_at homes.keys key.0 bytes) refl
    where
      by : (o : Option ℕ) → found_at homes.keys key.0 bytes ≡ o → map (λ (pid : Pid). pid.serial) (holders S M key bytes) ≡ option_to_list o
      by None is = ap (map (λ (pid : Pid). pid.serial)) (none_listed (holds S key bytes) M (λ t x found passes. (let here = (kept.keys key bytes t).1 (x, found, passes) in let no : Some t ≡ None = sym here ∙ is in cc)))
      by (Some s) is =
          let holder = (kept.keys key bytes s).0 is in
          ap (map (λ (pid : Pid). pid.serial)) (lists_one (holds S key bytes) M s holder.0 holder.1 holder.2 (λ t x found passes. (let here = (kept.keys key bytes t).1 (x, found, passes) in let one : Some t ≡ Some s = sym here ∙ is in cc)))

same_option : (a b : Option ℕ) → option_to_list a ≡ option_to_list b → a ≡ b
same_option None None e = refl
same_option None (Some t) e = cc
same_option (Some s) None e = cc
same_option (Some s) (Some t) e = cc

-- who is told as the holder is found
pub told_is : (S : Schema) (M : Catalog) (homes : Parts) → IsKept S M homes → (key : KeyNo) (bytes : List ℕ) (o : Option ℕ) → map (λ pid. pid.serial) (holders S M key bytes) ≡ option_to_list o → found_at homes.keys key.0 bytes ≡ o
told_is S M homes kept key bytes o told = same_option _ o (sym (holder_is S M homes kept key bytes) ∙ told)

-- a key has one holder
pub unique_kept : (S : Schema) (M : Catalog) (homes : Parts) → IsKept S M homes → IsUnique S M
unique_kept S M homes kept k bytes s t x y at_s at_t of_x of_y =
    let held : found_at homes.keys k.0 bytes ≡ Some s = (kept.keys k bytes s).1 (x, at_s, of_x) in
    let also : found_at homes.keys k.0 bytes ≡ Some t = (kept.keys k bytes t).1 (y, at_t, of_y) in
    let one : Some s ≡ Some t = sym held ∙ also in
    cc
