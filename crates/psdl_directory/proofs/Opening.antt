-- One more scope.
use Rattle.std.proofs.Common.{◌≡◌, ℕ, suc, ◌+◌, ◌<◌, List, [], ◌∷◌, ◌++◌, length, Bool, true, false, cond, Some, None, refl, sym, ap, ◌∙◌, arith, length-append, ⊎_elim, ◌⊎◌, inl, inr, ◌==◌, ◌&&◌}
use Rattle.std.proofs.Math.ListN.{get_or-append}
use Rattle.std.proofs.Math.Seq.{get_or-append_seam}
use Rattle.std.proofs.lemmas.Bool.{cases_eq}
use Rattle.std.specs.BTreeMap.{BTreeMap}
use Rattle.std.specs.Cmp.{tied_then}
use Rattle.std.specs.Cmp.Lexicographic.{slice_cmp}
use Rattle.std.specs.Ordering.{nat_cmp}
use Rattle.std.specs.Str.{bytes_eq}
use Rattle.std.proofs.lemmas.Bool.{and_parts, and_from, eqb-true, eq-eqb}
use Rattle.std.proofs.lemmas.Map.Text.{is_eq-slice_cmp}
use Rattle.std.proofs.lemmas.Slice.Eq.{bytes_eq-Decides}
use Rattle.psdl_directory.proofs.Tabled.{is_eq-nat_cmp}
use Rattle.psdl_directory.specs.declared.scopes.ModuleName.{ModuleName}
use Rattle.psdl_directory.specs.Declarations.{Path}
use Rattle.psdl_directory.specs.inner.Scopes.{Opens, path_at, is_same, scope_of, AreDistinct, Grows}

same_parts : (k q : ModuleName) → is_same k q ≡ (k.scope == q.scope) && bytes_eq k.name.now q.name.now
same_parts k q = sym (tied_then (nat_cmp k.scope q.scope) (slice_cmp nat_cmp k.name.now q.name.now)) ∙ rw (is_eq-nat_cmp k.scope q.scope, is_eq-slice_cmp k.name.now q.name.now) refl

key_parts : (k q : ModuleName) → is_same k q ≡ true → (k.scope ≡ q.scope) × (k.name.now ≡ q.name.now)
key_parts k q h =
    let both = and_parts (k.scope == q.scope) (bytes_eq k.name.now q.name.now) (sym (same_parts k q) ∙ h) in
    (eqb-true k.scope q.scope both.0, (bytes_eq-Decides k.name.now q.name.now).0 both.1)

key_from : (k q : ModuleName) → k.scope ≡ q.scope → k.name.now ≡ q.name.now → is_same k q ≡ true
key_from k q s n = same_parts k q ∙ and_from (k.scope == q.scope) (bytes_eq k.name.now q.name.now) (eq-eqb k.scope q.scope s) ((bytes_eq-Decides k.name.now q.name.now).1 n)

-- what stands round each path is a path
abbrev pub AreClosed : List Path → Type 0
AreClosed paths = (n : ℕ) (name : List ℕ) (p : Path) → n < length paths → path_at paths n ≡ name ∷ p → (m : ℕ) × (m < length paths) × (path_at paths m ≡ p)

module _ (paths : List Path) (p : Path) where
  pub length-more : length (paths ++ p ∷ []) ≡ length paths + 1
  length-more = length-append paths (p ∷ [])

  pub at_old : (n : ℕ) → n < length paths → path_at (paths ++ p ∷ []) n ≡ path_at paths n
  at_old n lt = get_or-append paths (p ∷ []) [] n lt

  pub at_new : path_at (paths ++ p ∷ []) (length paths) ≡ p
  at_new = get_or-append_seam paths p [] []

  pub old_or_new : (n : ℕ) → n < length (paths ++ p ∷ []) → (n < length paths) ⊎ (n ≡ length paths)
  old_or_new n lt = ⊎_elim (λ e. inr e) (λ ne. inl (omega (arith, ne, lt, length-more))) (cases_eq n (length paths))

  pub grows : Grows paths (paths ++ p ∷ [])
  grows n lt = (omega (arith, lt, length-more), at_old n lt)

  pub distinct_more : AreDistinct paths → ((n : ℕ) → n < length paths → path_at paths n ≡ p → ⊥) → AreDistinct (paths ++ p ∷ [])
  distinct_more distinct new i j li lj e = ⊎_elim
      (λ oi. ⊎_elim (λ oj. distinct i j oi oj (sym (at_old i oi) ∙ e ∙ at_old j oj)) (λ nj. absurd (new i oi (sym (at_old i oi) ∙ e ∙ ap (λ (n : ℕ). path_at (paths ++ p ∷ []) n) nj ∙ at_new))) (old_or_new j lj))
      (λ ni. ⊎_elim (λ oj. absurd (new j oj (sym (at_old j oj) ∙ sym e ∙ ap (λ (n : ℕ). path_at (paths ++ p ∷ []) n) ni ∙ at_new))) (λ nj. ni ∙ sym nj) (old_or_new j lj))
      (old_or_new i li)

module _ (paths : List Path) (old new : BTreeMap ModuleName ℕ) (key : ModuleName) (opens : Opens paths old) (lt : key.scope < length paths) (absent : scope_of old key ≡ None)
    (updates : (q : ModuleName) → scope_of new q ≡ cond (is_same key q) (Some (length paths)) (scope_of old q)) where
  -- the new path
  abbrev path : Path
  path = key.name.now ∷ path_at paths key.scope

  abbrev after_it : List Path
  after_it = paths ++ path ∷ []

  pub is_new : (n : ℕ) → n < length paths → path_at paths n ≡ path → ⊥
  is_new n l e = opens.none key n absent lt l e

  some_at : (q : ModuleName) (n : ℕ) (b : Bool) → is_same key q ≡ b → scope_of new q ≡ Some n → (q.scope < length after_it) × (n < length after_it) × (path_at after_it n ≡ q.name.now ∷ path_at after_it q.scope)
  some_at q n true t e =
      let same = key_parts key q t in
      let is : length paths ≡ n =
      let u : scope_of new q ≡ Some (length paths) = rw t at (updates q) in
      let both : Some (length paths) ≡ Some n = sym u ∙ e in cc in
      let inside : q.scope < length paths = rw (← same.0) lt in
      let outside : path_at paths key.scope ≡ path_at after_it q.scope = ap (λ (k : ℕ). path_at paths k) same.0 ∙ sym (at_old paths path q.scope inside) in (
        omega (arith, inside, length-more paths path),
        omega (arith, is, length-more paths path),
        ap (λ (k : ℕ). path_at after_it k) (sym is) ∙ at_new paths path ∙ ap (λ (x : List ℕ). x ∷ path_at paths key.scope) same.1 ∙ ap (λ (r : Path). q.name.now ∷ r) outside,
      )
  some_at q n false t e =
      let u : scope_of new q ≡ scope_of old q = rw t at (updates q) in
      let was = opens.some q n (sym u ∙ e) in (
        omega (arith, was.0, length-more paths path),
        omega (arith, was.1, length-more paths path),
        at_old paths path n was.1 ∙ was.2 ∙ ap (λ (r : Path). q.name.now ∷ r) (sym (at_old paths path q.scope was.0)),
      )

  same_path : (q : ModuleName) → AreDistinct paths → q.scope < length paths → path ≡ q.name.now ∷ path_at paths q.scope → is_same key q ≡ true
  same_path q distinct l e =
      let scopes : path_at paths key.scope ≡ path_at paths q.scope = cc in
      let names : key.name.now ≡ q.name.now = cc in
      key_from key q (distinct key.scope q.scope lt l scopes) names

  longer : (x : List ℕ) (p : Path) → p ≡ x ∷ p → ⊥
  longer x p e =
      let l : length p ≡ suc (length p) = ap (λ (q : Path). length q) e in
      omega (arith, l)

  none_at : AreDistinct paths → AreClosed paths → (q : ModuleName) (n : ℕ) (b : Bool) → is_same key q ≡ b → scope_of new q ≡ None → (q.scope < length paths) ⊎ (q.scope ≡ length paths) → (n < length paths) ⊎ (n ≡ length paths)
      → path_at after_it n ≡ q.name.now ∷ path_at after_it q.scope → ⊥
  none_at distinct closed q n true t e at_scope at_n is =
      let u : scope_of new q ≡ Some (length paths) = rw t at (updates q) in
      let both : Some (length paths) ≡ None = sym u ∙ e in cc
  none_at distinct closed q n false t e (inl ls) (inl ln) is =
      let u : scope_of new q ≡ scope_of old q = rw t at (updates q) in
      opens.none q n (sym u ∙ e) ls ln (sym (at_old paths path n ln) ∙ is ∙ ap (λ (r : Path). q.name.now ∷ r) (at_old paths path q.scope ls))
  none_at distinct closed q n false t e (inl ls) (inr en) is =
      let whole : path ≡ q.name.now ∷ path_at paths q.scope = sym (ap (λ (k : ℕ). path_at after_it k) en ∙ at_new paths path) ∙ is ∙ ap (λ (r : Path). q.name.now ∷ r) (at_old paths path q.scope ls) in
      let yes : is_same key q ≡ true = same_path q distinct ls whole in
      let both : true ≡ false = sym yes ∙ t in cc
  none_at distinct closed q n false t e (inr es) (inl ln) is =
      let end : path_at after_it q.scope ≡ path = ap (λ (k : ℕ). path_at after_it k) es ∙ at_new paths path in
      let whole : path_at paths n ≡ q.name.now ∷ path = sym (at_old paths path n ln) ∙ is ∙ ap (λ (r : Path). q.name.now ∷ r) end in
      let m = closed n q.name.now path ln whole in
      is_new m.0 m.1 m.2
  none_at distinct closed q n false t e (inr es) (inr en) is =
      let end : path_at after_it q.scope ≡ path = ap (λ (k : ℕ). path_at after_it k) es ∙ at_new paths path in
      let whole : path ≡ q.name.now ∷ path = sym (ap (λ (k : ℕ). path_at after_it k) en ∙ at_new paths path) ∙ is ∙ ap (λ (r : Path). q.name.now ∷ r) end in
      longer q.name.now path whole

  pub opens_more : AreDistinct paths → AreClosed paths → Opens (paths ++ (key.name.now ∷ path_at paths key.scope) ∷ []) new
  opens_more distinct closed = record {
    some = λ q n e. some_at q n (is_same key q) refl e;
    none = λ q n e ls ln is. none_at distinct closed q n (is_same key q) refl e (old_or_new paths path q.scope ls) (old_or_new paths path n ln) is;
  }
