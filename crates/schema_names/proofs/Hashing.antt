-- Names are hashed part by part.
use Rattle.std.proofs.Common.{ℕ, zero, suc, ◌+◌, ◌≡◌, ◌<◌, ◌≤◌, List, [], ◌∷◌, ◌++◌, length, map, take, get_or, Option, Some, None, codes, true, false, nat_lt, refl, sym, ap, ◌∙◌, arith, append_assoc, IfSome}
use Rattle.std.specs.Hash.DefaultHasher as sip
use Rattle.std.specs.List.{slice_get}
use Rattle.std.specs.Option.{option_map}
use Rattle.std.proofs.lemmas.List.{map-append, get_or_past, get_or_default}
use Rattle.std.proofs.lemmas.List.Sums.{fold-append}
use Rattle.std.proofs.lemmas.Option.{get_or_from_slice_get}
use Rattle.table_hash.specs.declared.byte_hasher.ByteHasher.{ByteHasher}
use Rattle.table_hash.specs.Hashing.{plain, hashing, fed, fed_all}
use Rattle.type_layout.specs.declared.provided.Provision.{Provision}
use Rattle.type_layout.specs.declared.scopes.ScopeNo.{ScopeNo}
use Rattle.type_layout.specs.Scopes.{behind, name_at, full_name, provided_in, IsBehind}
use Rattle.schema_names.specs.inner.Hashed.{state_of, hash_of, AreStates}
use Rattle.schema_names.proofs.Finding.{taken_one_more}

-- one text behind another
pub behind_it : (first rest : List ℕ) → fed_all (state_of first) rest ≡ state_of (first ++ rest)
behind_it first rest = sym (fold-append fed (hashing sip.initial) first rest)

-- `::` and a name behind that of a scope
pub inside : (names : List (List ℕ)) (outer : ScopeNo) (own : List ℕ) (state : ByteHasher) → state ≡ state_of (name_at names outer) → fed_all (fed_all state (codes "::")) own ≡ state_of (behind (Some (name_at names outer)) own)
inside names outer own state is =
    ap (λ (s : ByteHasher). fed_all (fed_all s (codes "::")) own) is ∙ ap (λ (s : ByteHasher). fed_all s own) (behind_it (name_at names outer) (codes "::")) ∙ behind_it (name_at names outer ++ codes "::") own

-- `.` and a name behind that of a catalog
pub called : (names : List (List ℕ)) (p : Provision) (state : ByteHasher) → state ≡ state_of (name_at names p.catalog) → sip.finish (plain (fed_all (fed_all state (46 ∷ [])) p.name)) ≡ hash_of (full_name (provided_in names p))
called names p state is =
    ap (λ (s : ByteHasher). sip.finish (plain (fed_all (fed_all s (46 ∷ [])) p.name))) is
    ∙ ap (λ (s : ByteHasher). sip.finish (plain s)) (ap (λ (s : ByteHasher). fed_all s p.name) (behind_it (name_at names p.catalog) (46 ∷ [])) ∙ behind_it (name_at names p.catalog ++ 46 ∷ []) p.name ∙ ap state_of (append_assoc (name_at names p.catalog) (46 ∷ []) p.name))

pub length-map : {X Y : Type 0} (f : X → Y) (xs : List X) → length (map f xs) ≡ length xs
length-map f [] = refl
length-map f (x ∷ xs) = ap suc (length-map f xs)

at_map : (names : List (List ℕ)) (n : ℕ) (d : ByteHasher) → n < length names → get_or (map state_of names) n d ≡ state_of (get_or names n [])
at_map [] n d within = absurd (omega (arith, within))
at_map (x ∷ names) zero d within = refl
at_map (x ∷ names) (suc n) d within = at_map names n d (omega (arith, within))

-- the state of a scope that is there
pub at_place : (names : List (List ℕ)) (states : List ByteHasher) (n : ScopeNo) (state : ByteHasher) → states ≡ map state_of names → true ≡ nat_lt n.0 (length states) → state ≡ get_or states n.0 state → state ≡ state_of (name_at names n)
at_place names states n state are there is =
    let within : n.0 < length names = (let lt : n.0 < length states = grind (arith, there) in omega (arith, lt, ap length are, length-map state_of names)) in
    is ∙ ap (λ (l : List ByteHasher). get_or l n.0 state) are ∙ at_map names n.0 state within

-- one that is not there has no name
pub past : (names : List (List ℕ)) (states : List ByteHasher) (n : ScopeNo) → states ≡ map state_of names → false ≡ nat_lt n.0 (length states) → hashing sip.initial ≡ state_of (name_at names n)
past names states n are there =
    let le : length names ≤ n.0 = (let ge : length states ≤ n.0 = grind (arith, there) in omega (arith, ge, ap length are, length-map state_of names)) in
    ap state_of (sym (get_or_past names n.0 [] le))

-- ---- all of them

-- the first so many names have these states
pub first_states : (names : List (List ℕ)) (states : List ByteHasher) (i : ℕ) → i ≤ length names → states ≡ map state_of (take i names) → AreStates names states
first_states names states i le are outer d within =
    let many : length states ≡ length (take i names) = ap length are ∙ length-map state_of (take i names) in
    ap (λ (l : List ByteHasher). get_or l outer.0 d) are ∙ at_map (take i names) outer.0 d (omega (arith, within, many)) ∙ ap state_of (in_front names i outer.0 (omega (arith, within, many)))
  where
    in_front : (names : List (List ℕ)) (i n : ℕ) → n < length (take i names) → get_or (take i names) n [] ≡ get_or names n []
    in_front [] zero n lt = refl
    in_front [] (suc i) n lt = refl
    in_front (x ∷ names) zero n lt = absurd (omega (arith, lt))
    in_front (x ∷ names) (suc i) zero lt = refl
    in_front (x ∷ names) (suc i) (suc n) lt = in_front names i n (omega (arith, lt))

pub as_many : (names : List (List ℕ)) (states : List ByteHasher) (i : ℕ) → i ≤ length names → states ≡ map state_of (take i names) → length states ≡ i
as_many names states i le are = ap length are ∙ length-map state_of (take i names) ∙ taken names i le
  where
    taken : (names : List (List ℕ)) (i : ℕ) → i ≤ length names → length (take i names) ≡ i
    taken names zero le = refl
    taken [] (suc i) le = absurd (omega (arith, le))
    taken (x ∷ names) (suc i) le = ap suc (taken names i (omega (arith, le)))

-- the scope round one was before it
pub outer_there : (names : List (List ℕ)) (states : List ByteHasher) (n : ScopeNo) (outer : Option ScopeNo) (own : List ℕ) → n.0 < length names → states ≡ map state_of (take n.0 names) → IsBehind names n outer own → IfSome outer (λ o. o.0 < length states)
outer_there names states n None own within are b = tt
outer_there names states n (Some o) own within are b = omega (arith, b.before, as_many names states n.0 (omega (arith, within)) are)

pub its_state : (names : List (List ℕ)) (states : List ByteHasher) (n : ScopeNo) (outer : Option ScopeNo) (own : List ℕ) (state : ByteHasher) → n.0 < length names → states ≡ map state_of (take n.0 names) → IsBehind names n outer own
    → ((ns : List (List ℕ)) → AreStates ns states → state ≡ state_of (behind (option_map (name_at ns) outer) own)) → state ≡ state_of (name_at names n)
its_state names states n outer own state within are b told =
    let name = behind (option_map (name_at names) outer) own in
    told names (first_states names states n.0 (omega (arith, within)) are) ∙ ap state_of (sym (get_or_from_slice_get names n.0 name [] b.is))

pub always_there : (names : List (List ℕ)) (n : ℕ) → n < length names → slice_get names n ≡ None → ⊥
always_there [] n within e = omega (arith, within)
always_there (x ∷ xs) zero within e = cc
always_there (x ∷ xs) (suc n) within e = always_there xs n (omega (arith, within)) e

-- one more
pub next_state : (names : List (List ℕ)) (states new : List ByteHasher) (n : ℕ) (state : ByteHasher) → n < length names → states ≡ map state_of (take n names) → state ≡ state_of (get_or names n []) → new ≡ states ++ state ∷ [] → new ≡ map state_of (take (n + 1) names)
next_state names states new n state within are is put =
    let name = get_or names n [] in
    put ∙ ap (λ (l : List ByteHasher). l ++ state ∷ []) are ∙ ap (λ (s : ByteHasher). map state_of (take n names) ++ s ∷ []) is ∙ sym (map-append state_of (take n names) (name ∷ []))
    ∙ ap (map state_of) (sym (taken_one_more names n name within (get_or_default names n name [] within)))
