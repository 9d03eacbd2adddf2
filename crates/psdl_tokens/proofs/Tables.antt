-- A table, and the list of the texts that its entries stand for.
use Rattle.std.proofs.Common.{◌≡◌, ℕ, zero, suc, ◌<◌, ◌↔◌, List, [], ◌∷◌, length, map, get_or, Bool, IsTrue, Any, Contains, Bor, refl, sym, ap, ◌∙◌, subst, arith}
use Rattle.std.proofs.Math.ListN.{get_or-map, length-map}
use Rattle.std.proofs.lemmas.List.{get_or_default}

-- what an entry is
abbrev pub text_of : Bor (List ℕ) → List ℕ
text_of entry = entry.now

entry_at : {A : Type 0} (table : List A) (k : ℕ) → k < length table → (t : A) × (get_or table k t ≡ t)
entry_at [] k h = absurd (omega arith)
entry_at (t ∷ ts) zero h = (t, refl)
entry_at (t ∷ ts) (suc k) h = entry_at ts k (omega arith)

any_there : {A : Type 0} (f : A → List ℕ) (P : List ℕ → Type 0) (table : List A) → Any (λ t. P (f t)) table → Any P (map f table)
any_there f P table (k, t, lt, at, p) =
    (k, f t, rw length-map lt, get_or-map f table k t ∙ ap f at, p)

any_back : {A : Type 0} (f : A → List ℕ) (P : List ℕ → Type 0) (table : List A) → Any P (map f table) → Any (λ t. P (f t)) table
any_back f P table (k, text, lt, at, p) =
    let here : k < length table = rw length-map at lt in
    let found = entry_at table k here in
    let same : text ≡ f found.0 =
    sym at ∙ get_or_default (map f table) k text (f found.0) lt ∙ get_or-map f table k found.0 ∙ ap f found.1 in
    (k, found.0, here, found.1, subst P same p)

-- a test over a table is one over the texts of its entries
pub any_of : {A : Type 0} (f : A → List ℕ) (P : List ℕ → Type 0) (table : List A) (result : Bool) → (IsTrue result ↔ Any (λ t. P (f t)) table) → (IsTrue result ↔ Any P (map f table))
any_of f P table result h = ((λ yes. any_there f P table (h.0 yes)), (λ any. h.1 (any_back f P table any)))

contains_any : (word : List ℕ) (texts : List (List ℕ)) → Any (λ text. text ≡ word) texts → Contains texts word
contains_any word texts (k, text, lt, at, p) = (k, lt, ap (λ d. get_or texts k d) (sym p) ∙ at ∙ p)

-- the same for being one of them
pub contained_of : (word : List ℕ) (table : List (Bor (List ℕ))) (result : Bool) → (IsTrue result ↔ Any (λ t. t.now ≡ word) table) → (IsTrue result ↔ Contains (map text_of table) word)
contained_of word table result h =
    let there = any_of text_of (λ text. text ≡ word) table result h in (
      (λ yes. contains_any word (map text_of table) (there.0 yes)),
      (λ is. there.1 (is.0, word, is.1, is.2, refl)),
    )
