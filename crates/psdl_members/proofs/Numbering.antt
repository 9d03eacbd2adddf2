-- Names by number are names.
use Rattle.std.proofs.Common.{◌≡◌, ℕ, ◌+◌, ◌<◌, ◌≤◌, List, [], ◌∷◌, ◌++◌, Bool, false, not, ◌==◌, ◌&&◌, ◌||◌, nat_lt, length, map, take, get_or, Option, Some, refl, sym, ap, ◌∙◌, arith, ⊎_elim}
use Rattle.std.specs.List.{list_any, flat_map}
use Rattle.std.proofs.lemmas.Bool.{eqb-true, cases_Bool, ltb-true, ltb-false}
use Rattle.std.proofs.lemmas.List.{map-append, get_or_past}
use Rattle.type_layout.specs.Sound.{are_distinct}
use Rattle.psdl_directory.specs.declared.spellings.Spellings.{Spellings}
use Rattle.psdl_directory.specs.Declarations.{Declaration}
use Rattle.psdl_directory.specs.Parts.{states}
use Rattle.psdl_directory.specs.Lookup.{nothing, lower}
use Rattle.psdl_directory.specs.Spelled.{number_of, Keeps}
use Rattle.psdl_directory.proofs.Indexed.{same_number}
use Rattle.psdl_lineage.specs.Descent.{StateMember, members, members_in, has}
use Rattle.psdl_lineage.specs.Graph.{graph_of}
use Rattle.psdl_lineage.specs.Sources.{is_own, sources_in}
use Rattle.psdl_lineage.proofs.Inherited.{inherited}
use Rattle.psdl_lineage.proofs.Listing.{map_more}
use Rattle.psdl_members.specs.declared.member.Member.{Member}
use Rattle.psdl_members.specs.Bodies.{own_members, member_view, member_views}
use Rattle.psdl_members.specs.Clashes.{members_clash}
use Rattle.psdl_members.specs.inner.Flat.{flat, begins, piece, piece_of}
use Rattle.psdl_members.specs.inner.Noted.{Within}
use Rattle.psdl_members.specs.inner.Numbered.{small_number, AreNumberedBy, AreNumbered, AreNumberedAs, AreOwners}
use Rattle.psdl_members.proofs.Cutting.{piece_is, map_piece, length-map_is, is_piece, no_piece}

-- ---- piece by piece

pub own_past : (all : List Declaration) (n : ℕ) → length all ≤ n → own_members all n ≡ []
own_past all n past = ap (λ (d : Declaration). flat_map (members_in n) (states d.what)) (get_or_past all n nothing past)

-- the numbers of a declaration's members
own_numbers : (all : List Declaration) (s : Spellings) (numbers starts : List ℕ) (n : ℕ) → AreNumberedBy all s numbers starts → map (λ k. Some k) (piece_of starts n numbers) ≡ map (small_number s) (own_members all n)
own_numbers all s numbers starts n are =
    ⊎_elim
    (λ t.
    let lt : n < length all = ltb-true n (length all) t in
    let own : ℕ → List StateMember = own_members all in
    let all_starts : List ℕ = begins own (length all + 1) in
    let sized : length numbers ≡ length (flat own (length all)) = length-map_is (λ (k : ℕ). Some k) (small_number s) numbers (flat own (length all)) are.numbers_are in
    ap (λ l. map (λ (k : ℕ). Some k) (piece_of l n numbers)) are.starts_are
    ∙ ap (λ (l : List ℕ). map (λ (k : ℕ). Some k) l) (is_piece own (length all) n numbers lt sized)
    ∙ map_piece (λ (k : ℕ). Some k) all_starts n numbers
    ∙ ap (λ (l : List (Option ℕ)). piece all_starts n l) are.numbers_are
    ∙ sym (map_piece (small_number s) all_starts n (flat own (length all)))
    ∙ ap (λ (l : List StateMember). map (small_number s) l) (piece_is own (length all) n lt))
    (λ f.
    let past : length all ≤ n = ltb-false n (length all) f in
    ap (λ l. map (λ (k : ℕ). Some k) (piece_of l n numbers)) are.starts_are
    ∙ ap (λ (l : List ℕ). map (λ (k : ℕ). Some k) l) (no_piece (own_members all) (length all) n numbers past)
    ∙ sym (ap (λ (l : List StateMember). map (small_number s) l) (own_past all n past)))
    (cases_Bool (nat_lt n (length all)))

all_numbers : (all : List Declaration) (s : Spellings) (numbers starts : List ℕ) (ns : List ℕ) → AreNumberedBy all s numbers starts
    → map (λ k. Some k) (flat_map (λ n. piece_of starts n numbers) ns) ≡ map (small_number s) (flat_map (own_members all) ns)
all_numbers all s numbers starts [] are = refl
all_numbers all s numbers starts (n ∷ ns) are =
    let p : ℕ → List ℕ = λ m. piece_of starts m numbers in
    map-append (λ (k : ℕ). Some k) (p n) (flat_map p ns)
    ∙ ap (λ l. l ++ map (λ (k : ℕ). Some k) (flat_map p ns)) (own_numbers all s numbers starts n are)
    ∙ ap (λ l. map (small_number s) (own_members all n) ++ l) (all_numbers all s numbers starts ns are)
    ∙ sym (map-append (small_number s) (own_members all n) (flat_map (own_members all) ns))

-- ---- two with one number have one name

any_alike : (s : Spellings) (k : ℕ) (m : StateMember) (ks : List ℕ) (ms : List StateMember) → Some k ≡ small_number s m → map (λ j. Some j) ks ≡ map (small_number s) ms
    → list_any (λ j. k == j) ks ≡ list_any (members_clash m) ms
any_alike s k m [] [] here e = refl
any_alike s k m [] (x ∷ ms) here e = absurd (cc)
any_alike s k m (j ∷ ks) [] here e = absurd (cc)
any_alike s k m (j ∷ ks) (x ∷ ms) here e =
    let first : Some j ≡ small_number s x = cc in
    let rest : map (λ (i : ℕ). Some i) ks ≡ map (small_number s) ms = cc in
    ap (λ (b : Bool). b || list_any (λ i. k == i) ks) (same_number s (lower m.name.name) (lower x.name.name) k j (sym here) (sym first))
    ∙ ap (λ (b : Bool). members_clash m x || b) (any_alike s k m ks ms here rest)

distinct_alike : (s : Spellings) (ks : List ℕ) (ms : List StateMember) → map (λ j. Some j) ks ≡ map (small_number s) ms → are_distinct (λ a b. a == b) ks ≡ are_distinct members_clash ms
distinct_alike s [] [] e = refl
distinct_alike s [] (x ∷ ms) e = absurd (cc)
distinct_alike s (k ∷ ks) [] e = absurd (cc)
distinct_alike s (k ∷ ks) (x ∷ ms) e =
    let first : Some k ≡ small_number s x = cc in
    let rest : map (λ (i : ℕ). Some i) ks ≡ map (small_number s) ms = cc in
    ap (λ (b : Bool). not b && are_distinct (λ a b. a == b) ks) (any_alike s k x ks ms first rest)
    ∙ ap (λ (b : Bool). not (list_any (members_clash x) ms) && b) (distinct_alike s ks ms rest)

-- ---- whose spellings are gone

pub numbered_as : (s : Spellings) (ms : List StateMember) (numbers starts : List ℕ) → map (λ k. Some k) numbers ≡ map (small_number s) ms → AreNumberedAs ms starts numbers starts
numbered_as s ms numbers starts e all whole from =
    let by : AreNumberedBy all s numbers starts = record { numbers_are = e ∙ ap (map (small_number s)) whole; starts_are = from } in
    record {
      as_many = λ n. length-map_is (λ (k : ℕ). Some k) (small_number s) (piece_of starts n numbers) (own_members all n) (own_numbers all s numbers starts n by);
      alike = λ ns. distinct_alike s (flat_map (λ m. piece_of starts m numbers) ns) (flat_map (own_members all) ns) (all_numbers all s numbers starts ns by);
    }

-- ---- members by descent

none_own : (all : List Declaration) (own : List Bool) → AreOwners all own → (n : ℕ) → is_own own n ≡ false → own_members all n ≡ []
none_own all own are n off = none (own_members all n) (are n off)
  where
    none : (xs : List StateMember) → length xs ≡ 0 → xs ≡ []
    none [] e = refl
    none (x ∷ xs) e = absurd (omega (arith, e))

pub members_by : (all : List Declaration) (graph : List (List ℕ)) (own : List Bool) (n : ℕ) (sources : List ℕ) → graph ≡ graph_of all → AreOwners all own → sources ≡ sources_in graph own n
    → flat_map (own_members all) sources ≡ members all n
members_by all graph own n sources g are e =
    ap (λ l. flat_map (own_members all) l) (e ∙ ap (λ k. sources_in k own n) g)
    ∙ sym (inherited (own_members all) all own n (none_own all own are))

pub clash_by : (all : List Declaration) (numbers starts : List ℕ) (graph : List (List ℕ)) (own : List Bool) (n : ℕ) (sources : List ℕ) → AreNumbered all numbers starts → graph ≡ graph_of all → AreOwners all own
    → sources ≡ sources_in graph own n → not (are_distinct (λ a b. a == b) (flat_map (λ m. piece_of starts m numbers) sources)) ≡ not (are_distinct members_clash (members all n))
clash_by all numbers starts graph own n sources are g owns e =
    ap not (are.alike sources ∙ ap (λ l. are_distinct members_clash l) (members_by all graph own n sources g owns e))

-- ---- what is kept of a text

pub within_all : (s : Spellings) (limit : ℕ) → ((name : List ℕ) (n : ℕ) → number_of s name ≡ Some n → n < limit) → (ks : List ℕ) (ms : List StateMember) → map (λ j. Some j) ks ≡ map (small_number s) ms → Within limit ks
within_all s limit below [] ms e n h = absurd (cc)
within_all s limit below (k ∷ ks) [] e n h = absurd (cc)
within_all s limit below (k ∷ ks) (m ∷ ms) e n h =
    let first : Some k ≡ small_number s m = cc in
    let rest : map (λ (i : ℕ). Some i) ks ≡ map (small_number s) ms = cc in
    ⊎_elim
    (λ t. let same : k ≡ n = eqb-true k n t in omega (arith, same, below (lower m.name.name) k (sym first)))
    (λ f. within_all s limit below ks ms rest n (sym (ap (λ v. v || has ks n) f) ∙ h))
    (cases_Bool (k == n))

pub within_more : (limit more : ℕ) (ks : List ℕ) → limit ≤ more → Within limit ks → Within more ks
within_more limit more ks le within n h = omega (arith, le, within n h)

-- ---- one name more is noted

numbers_kept : (old new : Spellings) (ks : List ℕ) (ms : List StateMember) → Keeps old new → map (λ j. Some j) ks ≡ map (small_number old) ms → map (λ j. Some j) ks ≡ map (small_number new) ms
numbers_kept old new [] [] kept e = refl
numbers_kept old new [] (m ∷ ms) kept e = absurd (cc)
numbers_kept old new (k ∷ ks) [] kept e = absurd (cc)
numbers_kept old new (k ∷ ks) (m ∷ ms) kept e =
    let first : Some k ≡ small_number old m = cc in
    let rest : map (λ (i : ℕ). Some i) ks ≡ map (small_number old) ms = cc in
    let here : small_number new m ≡ Some k = kept (lower m.name.name) k (sym first) in
    rw (here, numbers_kept old new ks ms kept rest) refl

map_push : {A B : Type 0} (f : A → B) (xs : List A) (x : A) → map f (xs ++ x ∷ []) ≡ map f xs ++ f x ∷ []
map_push f xs x = map-append f xs (x ∷ [])

pub numbers_more : (old new : Spellings) (ks more : List ℕ) (k : ℕ) (ms : List Member) (i : ℕ) (m : Member) → i < length ms → m ≡ get_or ms i m → Keeps old new → more ≡ ks ++ k ∷ []
    → map (λ j. Some j) ks ≡ map (small_number old) (member_views (take i ms)) → number_of new (lower m.name.now.name) ≡ Some k → map (λ j. Some j) more ≡ map (small_number new) (member_views (take (i + 1) ms))
numbers_more old new ks more k ms i m lt is kept push so_far here =
    let front : List StateMember = member_views (take i ms) in
    let next : member_views (take (i + 1) ms) ≡ front ++ member_view m ∷ [] = map_more member_view ms i m lt ∙ ap (λ (x : Member). front ++ member_view x ∷ []) (sym is) in
    ap (λ l. map (λ (j : ℕ). Some j) l) push
    ∙ map_push (λ (j : ℕ). Some j) ks k
    ∙ ap (λ l. l ++ Some k ∷ []) (numbers_kept old new ks front kept so_far)
    ∙ ap (λ o. map (small_number new) front ++ o ∷ []) (sym here)
    ∙ sym (ap (λ l. map (small_number new) l) next ∙ map_push (small_number new) front (member_view m))
