-- Keys by number are keys.
use Rattle.std.proofs.Common.{◌≡◌, ℕ, ◌+◌, ◌<◌, List, [], ◌∷◌, ◌++◌, ◌==◌, map, length, take, get_or, Option, Some, None, option_map, refl, sym, ap, ◌∙◌, true}
use Rattle.std.specs.Option.{option_and_then}
use Rattle.std.specs.Bool.{Decides}
use Rattle.std.specs.Str.{bytes_eq}
use Rattle.std.proofs.lemmas.Bool.{and_parts, and_from}
use Rattle.std.proofs.lemmas.Bool.Decides.{same_from_decides, Decides-eqb}
use Rattle.std.proofs.lemmas.List.{map-append}
use Rattle.std.proofs.lemmas.Slice.Eq.{bytes_eq-Decides, slice_eq-Decides}
use Rattle.psdl_tree.specs.declared.names.Identifier.{Identifier}
use Rattle.psdl_directory.specs.declared.spellings.Spellings.{Spellings}
use Rattle.psdl_directory.specs.Spelled.{number_of, Keeps}
use Rattle.psdl_lineage.specs.Descent.{Listed, same_list, same_listed, names_of}
use Rattle.psdl_lineage.proofs.Listing.{map_more}
use Rattle.psdl_members.specs.declared.listed.Listed.{Listed as ListedNode}
use Rattle.psdl_members.specs.Listings.{listed_view, listed_views}
use Rattle.psdl_members.specs.inner.Entries.{AreSpelled, all_there}
use Rattle.psdl_members.specs.inner.ListNumbered.{list_number, KeepsLists}
use Rattle.psdl_members.proofs.Entering.{spelled_kept}
use Rattle.psdl_check.specs.declared.key_rows.KeyIds.{KeyIds}
use Rattle.psdl_check.specs.declared.key_rows.OwnKey.{OwnKey}
use Rattle.psdl_check.specs.inner.KeyIds.{id_of, KeepsIds, own_view, own_views, HaveIds}

pub spelled_all : (s : Spellings) (ks : List ℕ) (name : List ℕ) (first others : List Identifier) → AreSpelled s ks ((name ∷ names_of first) ++ names_of others) → AreSpelled s ks (name ∷ names_of (first ++ others))
spelled_all s ks name first others e = e ∙ ap (λ (l : List (List ℕ)). map (number_of s) (name ∷ l)) (sym (map-append (λ (x : Identifier). x.name) first others))

-- ---- numbers that are there

there_cons : (o : Option ℕ) (rest : Option (List ℕ)) (k : ℕ) (ks : List ℕ) → o ≡ Some k → rest ≡ Some ks → option_and_then (λ n. option_map (λ ns. n ∷ ns) rest) o ≡ Some (k ∷ ks)
there_cons o rest k ks e f = rw (e, f) refl

there_of : (s : Spellings) (ks : List ℕ) (names : List (List ℕ)) → AreSpelled s ks names → all_there (map (number_of s) names) ≡ Some ks
there_of s [] [] e = refl
there_of s [] (x ∷ names) e = absurd (cc)
there_of s (k ∷ ks) [] e = absurd (cc)
there_of s (k ∷ ks) (x ∷ names) e =
    let first : Some k ≡ number_of s x = cc in
    let rest : AreSpelled s ks names = cc in
    there_cons (number_of s x) (all_there (map (number_of s) names)) k ks (sym first) (there_of s ks names rest)

spelled_cons : (o : Option ℕ) (rest : Option (List ℕ)) (others : List (Option ℕ)) (ks : List ℕ) → ((js : List ℕ) → rest ≡ Some js → map (λ j. Some j) js ≡ others)
    → option_and_then (λ n. option_map (λ ns. n ∷ ns) rest) o ≡ Some ks → map (λ j. Some j) ks ≡ o ∷ others
spelled_cons None rest others ks h e = absurd (cc)
spelled_cons (Some n) None others ks h e = absurd (cc)
spelled_cons (Some n) (Some ns) others ks h e =
    let same : n ∷ ns ≡ ks = cc in
    sym (ap (λ (l : List ℕ). map (λ (j : ℕ). Some j) l) same) ∙ ap (λ (l : List (Option ℕ)). Some n ∷ l) (h ns refl)

spelled_of : (s : Spellings) (ks : List ℕ) (names : List (List ℕ)) → all_there (map (number_of s) names) ≡ Some ks → AreSpelled s ks names
spelled_of s ks [] e = let same : [] ≡ ks = cc in sym (ap (λ (l : List ℕ). map (λ (j : ℕ). Some j) l) same)
spelled_of s ks (x ∷ names) e = spelled_cons (number_of s x) (all_there (map (number_of s) names)) (map (number_of s) names) ks (λ js h. spelled_of s js names h) e

one_spelling : (s : Spellings) (ks : List ℕ) (xs ys : List (List ℕ)) → AreSpelled s ks xs → AreSpelled s ks ys → xs ≡ ys
one_spelling s [] [] [] e f = refl
one_spelling s [] [] (b ∷ ys) e f = absurd (cc)
one_spelling s [] (a ∷ xs) ys e f = absurd (cc)
one_spelling s (k ∷ ks) [] ys e f = absurd (cc)
one_spelling s (k ∷ ks) (a ∷ xs) [] e f = absurd (cc)
one_spelling s (k ∷ ks) (a ∷ xs) (b ∷ ys) e f =
    let one : Some k ≡ number_of s a = cc in
    let two : Some k ≡ number_of s b = cc in
    let ones : AreSpelled s ks xs = cc in
    let twos : AreSpelled s ks ys = cc in
    ap (λ (x : List ℕ). x ∷ xs) (s.distinct.one a b k (sym one) (sym two)) ∙ ap (λ (l : List (List ℕ)). b ∷ l) (one_spelling s ks xs ys ones twos)

then_some : {X : Type 0} (f : X → Option ℕ) (o : Option X) (i : ℕ) → option_and_then f o ≡ Some i → (x : X) × ((o ≡ Some x) × (f x ≡ Some i))
then_some f None i e = absurd (cc)
then_some f (Some x) i e = (x, (refl, e))

-- ---- the number of a name and list

abbrev words : Listed → List (List ℕ)
words l = l.name ∷ l.members

id_parts : (k : KeyIds) (l : Listed) (i : ℕ) → id_of k l ≡ Some i → (ks : List ℕ) × ((AreSpelled k.spellings ks (words l)) × (list_number k.lists ks ≡ Some i))
id_parts k l i e =
    let parts = then_some (list_number k.lists) (all_there (map (number_of k.spellings) (words l))) i e in
    (parts.0, (spelled_of k.spellings parts.0 (words l) parts.1.0, parts.1.1))

pub id_made : (k : KeyIds) (l : Listed) (ks : List ℕ) (i : ℕ) → AreSpelled k.spellings ks (words l) → list_number k.lists ks ≡ Some i → id_of k l ≡ Some i
id_made k l ks i e is = ap (λ (o : Option (List ℕ)). option_and_then (list_number k.lists) o) (there_of k.spellings ks (words l) e) ∙ is

pub ids_kept : (old new : KeyIds) → Keeps old.spellings new.spellings → KeepsLists old.lists new.lists → KeepsIds old new
ids_kept old new spelled listed l i h =
    let parts = id_parts old l i h in
    id_made new l parts.0 i (spelled_kept old.spellings new.spellings parts.0 (words l) spelled parts.1.0) (listed parts.0 i parts.1.1)

lists_decide : (a b : List (List ℕ)) → Decides (same_list a b) (a ≡ b)
lists_decide a b = slice_eq-Decides bytes_eq-Decides a b (same_list a b) refl

pub listed_is : (a b : Listed) → same_listed a b ≡ true → a ≡ b
listed_is a b h =
    let make : List ℕ → List (List ℕ) → Listed = λ n ms. record { name = n; members = ms } in
    let both = and_parts (bytes_eq a.name b.name) (same_list a.members b.members) h in
    ap (λ (n : List ℕ). make n a.members) ((bytes_eq-Decides a.name b.name).0 both.0) ∙ ap (λ (ms : List (List ℕ)). make b.name ms) ((lists_decide a.members b.members).0 both.1)

pub listed_itself : (a b : Listed) → a ≡ b → same_listed a b ≡ true
listed_itself a b e =
    and_from (bytes_eq a.name b.name) (same_list a.members b.members) ((bytes_eq-Decides a.name b.name).1 (ap (λ (l : Listed). l.name) e))
    ((lists_decide a.members b.members).1 (ap (λ (l : Listed). l.members) e))

one_listed : (a b : Listed) → words a ≡ words b → a ≡ b
one_listed a b e =
    let name : a.name ≡ b.name = cc in
    let members : a.members ≡ b.members = cc in
    λ i. record { name = name i; members = members i }

-- equal numbers, the same key
pub same_id : (k : KeyIds) (a b : Listed) (i j : ℕ) → id_of k a ≡ Some i → id_of k b ≡ Some j → (i == j) ≡ same_listed a b
same_id k a b i j ai bj =
    let one = id_parts k a i ai in
    let two = id_parts k b j bj in
    let as_numbers : Decides (same_listed a b) (i ≡ j) = (
      λ t. let both : Some i ≡ Some j = sym ai ∙ ap (id_of k) (listed_is a b t) ∙ bj in cc,
      λ e.
          let keys : one.0 ≡ two.0 = k.lists.distinct.one one.0 two.0 i one.1.1 (two.1.1 ∙ ap (λ (n : ℕ). Some n) (sym e)) in
          listed_itself a b (one_listed a b (one_spelling k.spellings two.0 (words a) (words b) (ap (λ (ks : List ℕ). map (λ (n : ℕ). Some n) ks) (sym keys) ∙ one.1.0) two.1.0)),
    ) in
    same_from_decides (i == j) (same_listed a b) (Decides-eqb i j) as_numbers

-- ---- keys with their numbers

pub have_kept : (old new : KeyIds) (ks : List OwnKey) → KeepsIds old new → HaveIds old ks → HaveIds new ks
have_kept old new [] kept e = refl
have_kept old new (k ∷ ks) kept e =
    let first : Some k.id ≡ id_of old (own_view k) = cc in
    let rest : HaveIds old ks = cc in
    ap (λ (o : Option ℕ). o ∷ map (λ (j : OwnKey). Some j.id) ks) (sym (kept (own_view k) k.id (sym first)))
    ∙ ap (λ (m : List (Option ℕ)). id_of new (own_view k) ∷ m) (have_kept old new ks kept rest)

pub have_more : (old new : KeyIds) (ks more : List OwnKey) (k : OwnKey) (l : ListedNode) (i : ℕ) → KeepsIds old new → more ≡ ks ++ k ∷ [] → k.listed ≡ l → k.id ≡ i → id_of new (listed_view l) ≡ Some i → HaveIds old ks → HaveIds new more
have_more old new ks more k l i kept push is numbered here so_far =
    let mine : Some k.id ≡ id_of new (own_view k) = ap (λ (n : ℕ). Some n) numbered ∙ sym here ∙ ap (λ (m : ListedNode). id_of new (listed_view m)) (sym is) in
    ap (λ (m : List OwnKey). map (λ (j : OwnKey). Some j.id) m) push
    ∙ map-append (λ (j : OwnKey). Some j.id) ks (k ∷ [])
    ∙ ap (λ (m : List (Option ℕ)). m ++ Some k.id ∷ []) (have_kept old new ks kept so_far)
    ∙ ap (λ (o : Option ℕ). map (id_of new) (own_views ks) ++ o ∷ []) mine
    ∙ sym (map-append (id_of new) (own_views ks) (own_view k ∷ []))
    ∙ ap (map (id_of new)) (sym (map-append own_view ks (k ∷ [])))
    ∙ ap (λ (m : List OwnKey). map (id_of new) (own_views m)) (sym push)

pub views_more : (ks more : List OwnKey) (k : OwnKey) (ls : List ListedNode) (i : ℕ) (l : ListedNode) → i < length ls → l ≡ get_or ls i l → more ≡ ks ++ k ∷ [] → k.listed ≡ l → own_views ks ≡ listed_views (take i ls)
    → own_views more ≡ listed_views (take (i + 1) ls)
views_more ks more k ls i l lt at push is so_far =
    ap own_views push ∙ map-append own_view ks (k ∷ []) ∙ ap (λ (m : List Listed). m ++ own_view k ∷ []) so_far
    ∙ ap (λ (n : ListedNode). listed_views (take i ls) ++ listed_view n ∷ []) (is ∙ at)
    ∙ sym (map_more listed_view ls i l lt)
