-- One more row.
use Rattle.std.proofs.Common.{◌≡◌, ℕ, zero, suc, ◌+◌, ◌-◌, ◌<◌, ◌≤◌, List, [], ◌∷◌, ◌++◌, length, get_or, cond, Some, None, refl, sym, ap, ◌∙◌, arith, length-append, ⊎_elim, subst}
use Rattle.std.proofs.Math.ListN.{get_or-append}
use Rattle.std.proofs.Math.Seq.{get_or-append_seam}
use Rattle.std.proofs.lemmas.Bool.{cases_eq}
use Rattle.std.specs.Map.{lookup}
use Rattle.std.specs.BTreeMap.{BTreeMap}
use Rattle.psdl_directory.specs.declared.scopes.ModuleName.{ModuleName}
use Rattle.psdl_directory.specs.declared.scopes.Row.{Row}
use Rattle.psdl_directory.specs.Declarations.{Path}
use Rattle.psdl_directory.specs.inner.Scopes.{outer, Opens, AreScopes, HasParents, paths_of, path_at, is_same, scope_of, AreDistinct}
use Rattle.psdl_directory.proofs.Rows.{paths_of-append, length-paths_of, outer-is, path-zero}
use Rattle.psdl_directory.proofs.Opening.{AreClosed, opens_more, is_new, distinct_more}

pub closed_rows : (rows : List Row) (d : Row) → HasParents rows → AreClosed (paths_of rows)
closed_rows rows d parents zero name p l e =
    let both : [] ≡ name ∷ p = sym (path-zero rows) ∙ e in absurd (cc)
closed_rows rows d parents (suc n) name p l e =
    let m : ℕ = (get_or rows n d).parent in
    let lt : n < length rows = omega (arith, l, length-paths_of rows) in
    let is : Some (path_at (paths_of rows) m) ≡ outer (path_at (paths_of rows) (suc n)) =
    let one : suc n - 1 ≡ n = omega arith in
    rw one at (outer-is rows (suc n) d parents (omega arith) (omega (arith, lt))) in
    let both : Some (path_at (paths_of rows) m) ≡ Some p = is ∙ ap outer e in
    (m, omega (arith, parents n d lt, lt, length-paths_of rows), cc)

parents_more : (rows : List Row) (r : Row) → HasParents rows → r.parent ≤ length rows → HasParents (rows ++ r ∷ [])
parents_more rows r parents le i d lt = ⊎_elim
    (λ e. subst (λ (k : ℕ). (get_or (rows ++ r ∷ []) k d).parent ≤ k) (sym e) (subst (λ (x : Row). x.parent ≤ length rows) (sym (get_or-append_seam rows r [] d)) le))
    (λ ne. let l : i < length rows = omega (arith, ne, lt, length-append rows (r ∷ [])) in subst (λ (x : Row). x.parent ≤ i) (sym (get_or-append rows (r ∷ []) d i l)) (parents i d l))
    (cases_eq i (length rows))

pub opened : (rows : List Row) (r : Row) (old new : BTreeMap ModuleName ℕ) (key : ModuleName) → AreScopes rows old → r.parent ≡ key.scope → r.name.now ≡ key.name.now
    → key.scope < length (paths_of rows) → scope_of old key ≡ None → ((q : ModuleName) → scope_of new q ≡ cond (is_same key q) (Some (length rows + 1)) (scope_of old q))
    → AreScopes (rows ++ r ∷ []) new
opened rows r old new key scopes is_parent is_name lt absent updates =
    let paths : List Path = paths_of rows in
    let p : Path = key.name.now ∷ path_at paths key.scope in
    let grown : paths_of (rows ++ r ∷ []) ≡ paths ++ p ∷ [] = paths_of-append rows r ∙ rw (is_parent, is_name) refl in
    let len : length rows + 1 ≡ length paths = sym (length-paths_of rows) in
    let ups : (q : ModuleName) → scope_of new q ≡ cond (is_same key q) (Some (length paths)) (scope_of old q) = λ q. updates q ∙ ap (λ (n : ℕ). cond (is_same key q) (Some n) (scope_of old q)) len in
    record {
      parents = parents_more rows r scopes.parents (omega (arith, is_parent, lt, len));
      distinct = subst AreDistinct (sym grown) (distinct_more paths p scopes.distinct (is_new paths old new key scopes.opens lt absent ups));
      opens = subst (λ (ps : List Path). Opens ps new) (sym grown) (opens_more paths old new key scopes.opens lt absent ups scopes.distinct (closed_rows rows r scopes.parents));
    }

pub unchanged : (rows : List Row) (old new : BTreeMap ModuleName ℕ) → AreScopes rows old → new.entries ≡ old.entries → AreScopes rows new
unchanged rows old new scopes e = record {
  parents = scopes.parents;
  distinct = scopes.distinct;
  opens = record {
    some = λ q n is. scopes.opens.some q n (ap (λ (es : List (ModuleName × ℕ)). lookup (is_same q) es) (sym e) ∙ is);
    none = λ q n is. scopes.opens.none q n (ap (λ (es : List (ModuleName × ℕ)). lookup (is_same q) es) (sym e) ∙ is);
  };
}

pub none_yet : (inner : BTreeMap ModuleName ℕ) → inner.entries ≡ [] → AreScopes [] inner
unfolding paths_of
none_yet inner e = record {
  parents = λ i d l. absurd (omega (arith, l));
  distinct = λ i j li lj same. omega (arith, li, lj);
  opens = record {
    some = λ q n is. let u : scope_of inner q ≡ None = ap (λ (es : List (ModuleName × ℕ)). lookup (is_same q) es) e in let both : None ≡ Some n = sym u ∙ is in absurd (cc);
    none = λ q n is ls ln same.
        let zero_n : n ≡ 0 = omega (arith, ln) in
        let both : [] ≡ q.name.now ∷ path_at ([] ∷ []) q.scope = ap (λ (k : ℕ). path_at ([] ∷ []) k) (sym zero_n) ∙ same in cc;
  };
}
