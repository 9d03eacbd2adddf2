-- What conforms to a definition, where each declaration stands behind those that it names.
use Rattle.std.proofs.Common.{◌≡◌, ◌∙◌, ℕ, ◌+◌, ◌<◌, List, [], ◌∷◌, ◌++◌, Bool, true, false, ◌==◌, ◌||◌, length, get_or, refl, sym, ap, arith, ⊎_elim, get_or-set_same, get_or-set_other}
use Rattle.std.specs.List.{flat_map, list_any}
use Rattle.std.proofs.lemmas.Bool.{cases_eq}
use Rattle.std.proofs.Math.ListN.{set}
use Rattle.psdl_lineage.specs.Descent.{has}
use Rattle.psdl_lineage.specs.Graph.{parents_in, ancestry_in, conforms_in}
use Rattle.psdl_lineage.proofs.Low.{joined_of}
use Rattle.psdl_lineage.proofs.Repeats.{has-append, has_once, has_here, has_later, or_false}
use Rattle.psdl_check.specs.inner.Rising.{IsRising}

has_each : (f : ℕ → List ℕ) (ps : List ℕ) (n : ℕ) → has (flat_map f ps) n ≡ list_any (λ p. has (f p) n) ps
has_each f [] n = refl
has_each f (p ∷ ps) n = has-append (f p) (flat_map f ps) n ∙ ap (λ (b : Bool). has (f p) n || b) (has_each f ps n)

any_there : (f g : ℕ → Bool) (ps : List ℕ) → ((p : ℕ) → has ps p ≡ true → f p ≡ g p) → list_any f ps ≡ list_any g ps
any_there f g [] h = refl
any_there f g (p ∷ ps) h = ap (λ (b : Bool). b || list_any f ps) (h p (has_here p ps)) ∙ ap (λ (b : Bool). g p || b) (any_there f g ps (λ q t. h q (has_later p q ps t)))

or_turned : (a b : Bool) → (a || b) ≡ (b || a)
or_turned true true = refl
or_turned true false = refl
or_turned false true = refl
or_turned false false = refl

-- it is the definition, or names one that conforms to it
pub conforms_by : (graph : List (List ℕ)) (n to : ℕ) → IsRising graph → n < length graph → conforms_in graph n to ≡ ((n == to) || list_any (λ p. conforms_in graph p to) (parents_in graph n))
conforms_by graph n to rising lt =
    let joined = joined_of graph (λ m. m) (λ m. true) n (λ m p on named. (rising m p named, refl)) lt (omega (arith, lt)) (λ p named. (rising n p named, refl)) in
    ap (λ (l : List ℕ). has l to) joined
    ∙ has_once (flat_map (ancestry_in graph) (parents_in graph n) ++ n ∷ []) to
    ∙ has-append (flat_map (ancestry_in graph) (parents_in graph n)) (n ∷ []) to
    ∙ ap (λ (b : Bool). b || has (n ∷ []) to) (has_each (ancestry_in graph) (parents_in graph n) to)
    ∙ ap (λ (b : Bool). list_any (λ p. conforms_in graph p to) (parents_in graph n) || b) (or_false (n == to))
    ∙ or_turned (list_any (λ p. conforms_in graph p to) (parents_in graph n)) (n == to)

-- the first so many are told
abbrev pub AreHeirs : List (List ℕ) → ℕ → ℕ → List Bool → Type 0
AreHeirs graph to i heirs = (n : ℕ) → n < i → get_or heirs n false ≡ conforms_in graph n to

-- one more
pub heirs_more : (graph : List (List ℕ)) (to i : ℕ) (heirs : List Bool) (b : Bool) → IsRising graph → i < length graph → length heirs ≡ length graph → AreHeirs graph to i heirs
    → b ≡ ((i == to) || list_any (λ p. get_or heirs p false) (parents_in graph i)) → AreHeirs graph to (i + 1) (set heirs i b)
heirs_more graph to i heirs b rising lt long are is n there =
    let parents : list_any (λ p. get_or heirs p false) (parents_in graph i) ≡ list_any (λ p. conforms_in graph p to) (parents_in graph i) =
    any_there (λ p. get_or heirs p false) (λ p. conforms_in graph p to) (parents_in graph i) (λ p named. are p (rising i p named)) in
    let value : b ≡ conforms_in graph i to = is ∙ ap (λ (v : Bool). (i == to) || v) parents ∙ sym (conforms_by graph i to rising lt) in
    ⊎_elim
    (λ same. ap (λ (m : ℕ). get_or (set heirs i b) m false) same ∙ get_or-set_same heirs i b false (omega (arith, lt, long)) ∙ value ∙ ap (λ (m : ℕ). conforms_in graph m to) (sym same))
    (λ differ. get_or-set_other heirs i n b false differ ∙ are n (omega (arith, differ, there)))
    (cases_eq n i)
