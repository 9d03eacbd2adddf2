-- Scopes by number.
use Rattle.std.proofs.Common.{◌≡◌, ℕ, zero, suc, ◌+◌, ◌-◌, ◌<◌, List, [], ◌∷◌, ◌++◌, length, get_or, Some, refl, sym, ap, ◌∙◌, arith, length-append, ◌≤◌}
use Rattle.std.proofs.Common.{add-zero}
use Rattle.std.proofs.lemmas.List.{append-nil}
use Rattle.std.proofs.Math.ListN.{get_or-append}
use Rattle.std.proofs.Math.Seq.{get_or-append_seam}
use Rattle.psdl_directory.specs.Declarations.{Path}
use Rattle.psdl_directory.specs.inner.Scopes.{outer}
use Rattle.psdl_directory.specs.inner.Scopes.{paths_after, paths_of, HasParents}
use Rattle.psdl_directory.specs.inner.Scopes.{path_at}
use Rattle.psdl_directory.specs.declared.scopes.Row.{Row}

abbrev with_row : List Path → Row → List Path
with_row done r = done ++ (r.name.now ∷ get_or done r.parent []) ∷ []

length-with_row : (done : List Path) (r : Row) → length (with_row done r) ≡ length done + 1
length-with_row done r = length-append done ((r.name.now ∷ get_or done r.parent []) ∷ [])

pub length-paths_after : (done : List Path) (rows : List Row) → length (paths_after done rows) ≡ length done + length rows
length-paths_after done [] = omega arith
length-paths_after done (r ∷ rs) = omega (arith, length-paths_after (with_row done r) rs, length-with_row done r)

there : (done : List Path) (rows : List Row) (n : ℕ) → n < length done → get_or (paths_after done rows) n [] ≡ get_or done n []
there done [] n lt = refl
there done (r ∷ rs) n lt = there (with_row done r) rs n (omega (arith, lt, length-with_row done r)) ∙ get_or-append done _ [] n lt

named : (done : List Path) (rows : List Row) (i : ℕ) (d : Row) → i < length rows → ((k : ℕ) → k < length rows → (get_or rows k d).parent < length done + k)
    → get_or (paths_after done rows) (length done + i) [] ≡ (get_or rows i d).name.now ∷ get_or (paths_after done rows) ((get_or rows i d).parent) []
named done [] i d lt fits = absurd (omega (arith, lt))
named done (r ∷ rs) zero d lt fits =
    let low : r.parent < length done = omega (arith, fits 0 (omega (arith, lt))) in
    let at : get_or (paths_after (with_row done r) rs) (length done + 0) [] ≡ r.name.now ∷ get_or done r.parent [] =
    there (with_row done r) rs (length done + 0) (omega (arith, length-with_row done r)) ∙ rw add-zero (get_or-append_seam done (r.name.now ∷ get_or done r.parent []) [] []) in
    let same : get_or (paths_after (with_row done r) rs) r.parent [] ≡ get_or done r.parent [] = there done (r ∷ rs) r.parent low in
    at ∙ ap (λ (p : Path). r.name.now ∷ p) (sym same)
named done (r ∷ rs) (suc i) d lt fits =
    let e : length done + suc i ≡ length (with_row done r) + i = omega (arith, length-with_row done r) in
    rw e (named (with_row done r) rs i d (omega (arith, lt)) (λ k l. omega (arith, fits (suc k) (omega (arith, l)), length-with_row done r)))

pub length-paths_of : (rows : List Row) → length (paths_of rows) ≡ length rows + 1
unfolding paths_of
length-paths_of rows = omega (arith, length-paths_after ([] ∷ []) rows)

pub path-zero : (scopes : List Row) → path_at (paths_of scopes) 0 ≡ []
unfolding paths_of
path-zero scopes = there ([] ∷ []) scopes 0 (omega arith)

pub outer-is : (rows : List Row) (n : ℕ) (d : Row) → HasParents rows → 0 < n → n < length rows + 1 → Some (path_at (paths_of rows) ((get_or rows (n - 1) d).parent)) ≡ outer (path_at (paths_of rows) n)
unfolding paths_of
outer-is rows n d fits gt lt =
    let e : 1 + (n - 1) ≡ n = omega arith in
    let is = named ([] ∷ []) rows (n - 1) d (omega arith) (λ k l. omega (arith, fits k d l)) in
    ap outer (sym (rw e at is))

-- each scope's path by that of the scope round it
pub path-is : (rows : List Row) (n : ℕ) (d : Row) → HasParents rows → 0 < n → n < length rows + 1
    → path_at (paths_of rows) n ≡ (get_or rows (n - 1) d).name.now ∷ path_at (paths_of rows) ((get_or rows (n - 1) d).parent)
unfolding paths_of
path-is rows n d fits gt lt =
    let e : 1 + (n - 1) ≡ n = omega arith in
    let is = named ([] ∷ []) rows (n - 1) d (omega arith) (λ k l. omega (arith, fits k d l)) in
    rw e at is

paths_after-append : (done : List Path) (rows : List Row) (r : Row) → paths_after done (rows ++ r ∷ []) ≡ paths_after done rows ++ (r.name.now ∷ get_or (paths_after done rows) r.parent []) ∷ []
paths_after-append done [] r = refl
paths_after-append done (x ∷ xs) r = paths_after-append (with_row done x) xs r

pub paths_of-append : (rows : List Row) (r : Row) → paths_of (rows ++ r ∷ []) ≡ paths_of rows ++ (r.name.now ∷ path_at (paths_of rows) r.parent) ∷ []
unfolding paths_of
paths_of-append rows r = paths_after-append ([] ∷ []) rows r

-- at the scope 0 no names are left
pub all_named : (paths : List Path) (rows : List Row) (at : ℕ) (found total : Path) → paths_of rows ≡ paths → at ≤ 0 → found ++ path_at paths at ≡ total → found ≡ total
all_named paths rows at found total is end so_far =
    let zero : at ≡ 0 = omega arith in
    let none : path_at paths at ≡ [] = ap (λ (n : ℕ). path_at paths n) zero ∙ ap (λ (ps : List Path). path_at ps 0) (sym is) ∙ path-zero rows in
    sym (append-nil found) ∙ ap (λ (p : Path). found ++ p) (sym none) ∙ so_far

-- each module's path by that of the scope round it
pub module-is : (rows : List Row) (n : ℕ) (d : Row) → HasParents rows → n < length rows → path_at (paths_of rows) (n + 1) ≡ (get_or rows n d).name.now ∷ path_at (paths_of rows) ((get_or rows n d).parent)
module-is rows n d fits lt =
    let e : n + 1 - 1 ≡ n = omega arith in
    let is = path-is rows (n + 1) d fits (omega arith) (omega arith) in
    rw e at is
