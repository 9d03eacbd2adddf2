-- The names of modules in front of a name.
use Rattle.std.proofs.Common.{◌≡◌, ℕ, ◌-◌, ◌<◌, ◌≤◌, List, [], ◌∷◌, ◌++◌, length, map, get_or, drop, suc, Bor, refl, sym, ap, ◌∙◌, append_assoc, drop-cons, arith}
use Rattle.std.specs.Prelude.{codes}
use Rattle.std.proofs.lemmas.List.{append-nil}
use Rattle.psdl_directory.specs.Declarations.{Path, Declaration}
use Rattle.psdl_check.specs.Schemas.{scoped, scoped_name}

-- what stands in front of a name does not look at it
pub scoped_behind : (path : Path) (a b : List ℕ) → scoped path (a ++ b) ≡ scoped path a ++ b
scoped_behind [] a b = refl
scoped_behind (outer ∷ path) a b = ap (scoped path) (sym (append_assoc (outer ++ codes "::") a b)) ∙ scoped_behind path (outer ++ codes "::" ++ a) b

-- one more module in front of those that are there
pub one_inside : (path : Path) (name : List ℕ) → scoped (name ∷ path) [] ≡ (scoped path [] ++ name) ++ codes "::"
one_inside path name =
    scoped_behind path (name ++ codes "::") [] ∙ append-nil (scoped path (name ++ codes "::")) ∙ scoped_behind path name (codes "::")
    ∙ ap (λ (l : List ℕ). l ++ codes "::") (scoped_behind path [] name)

abbrev pub names_from : List (Bor (List ℕ)) → ℕ → Path
names_from modules left = map (λ n. n.now) (drop left modules)

-- the module in front of those that are left, behind the text of the others
pub next_module : (modules : List (Bor (List ℕ))) (left : ℕ) (d : Bor (List ℕ)) (text named next : List ℕ) → 0 < left → left ≤ length modules → text ≡ scoped (names_from modules left) []
    → named ≡ text ++ (get_or modules (left - 1) d).now → next ≡ named ++ codes "::" → next ≡ scoped (names_from modules (left - 1)) []
next_module modules left d text named next some within so_far with_name with_colons =
    let name : Bor (List ℕ) = get_or modules (left - 1) d in
    let e : suc (left - 1) ≡ left = omega arith in
    let cut : drop (left - 1) modules ≡ name ∷ drop left modules = drop-cons modules (left - 1) d (omega arith) ∙ ap (λ (k : ℕ). name ∷ drop k modules) e in
    with_colons ∙ ap (λ (l : List ℕ). l ++ codes "::") (with_name ∙ ap (λ (l : List ℕ). l ++ name.now) so_far) ∙ sym (one_inside (names_from modules left) name.now)
    ∙ ap (λ (ms : List (Bor (List ℕ))). scoped (map (λ n. n.now) ms) []) (sym cut)

-- the name behind the text of its modules
pub whole_name : (d : Declaration) (path : Path) (text name whole : List ℕ) → text ≡ scoped path [] → path ≡ d.path → name ≡ d.name → whole ≡ text ++ name → whole ≡ scoped_name d
whole_name d path text name whole front round named is =
    is ∙ ap (λ (l : List ℕ). text ++ l) named ∙ ap (λ (l : List ℕ). l ++ d.name) (front ∙ ap (λ (p : Path). scoped p []) round) ∙ sym (scoped_behind d.path [] d.name)
