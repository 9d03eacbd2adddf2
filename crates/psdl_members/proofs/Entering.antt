-- Keys and factories by number are keys and factories.
use Rattle.std.proofs.Common.{◌≡◌, ℕ, ◌+◌, ◌<◌, ◌≤◌, List, [], ◌∷◌, ◌++◌, Bool, not, ◌==◌, ◌&&◌, ◌||◌, append_assoc, map, length, take, get_or, Option, Some, None, option_map, refl, sym, ap, ◌∙◌}
use Rattle.std.specs.List.{list_any}
use Rattle.std.specs.Option.{option_and_then}
use Rattle.std.specs.Bool.{Decides}
use Rattle.std.specs.Str.{bytes_eq}
use Rattle.std.proofs.lemmas.Bool.Decides.{same_from_decides, Decides-eqb}
use Rattle.std.proofs.lemmas.List.{map-append, take_all}
use Rattle.std.proofs.lemmas.Slice.Eq.{bytes_eq-Decides, slice_eq-Decides}
use Rattle.psdl_directory.specs.declared.spellings.Spellings.{Spellings}
use Rattle.psdl_directory.specs.Lookup.{lower}
use Rattle.psdl_directory.specs.Spelled.{number_of, Keeps}
use Rattle.psdl_directory.proofs.Indexed.{same_number}
use Rattle.psdl_tree.specs.declared.names.Identifier.{Identifier}
use Rattle.psdl_lineage.specs.Descent.{Listed, same_list, names_of}
use Rattle.psdl_lineage.proofs.Listing.{map_more}
use Rattle.psdl_members.specs.declared.entry.Entry.{Entry}
use Rattle.psdl_members.specs.declared.entries.Numbering.{Numbering}
use Rattle.psdl_members.specs.declared.listed.Listed.{Listed as ListedNode}
use Rattle.psdl_members.specs.Clashes.{lists_clash}
use Rattle.psdl_members.specs.Listings.{listed_view, listed_views}
use Rattle.psdl_members.specs.inner.Clashing.{some_clash, entries_clash}
use Rattle.psdl_members.specs.inner.Entries.{AreSpelled, all_there, number_of_list, the_entry, entry_with, entry_of, KeepsEntries, AreEntries}
use Rattle.psdl_members.specs.inner.ListNumbered.{list_number, KeepsLists}
use Rattle.psdl_members.proofs.Cutting.{take_none, append_none}

-- ---- names by number

pub spelled_kept : (old new : Spellings) (ks : List ℕ) (names : List (List ℕ)) → Keeps old new → AreSpelled old ks names → AreSpelled new ks names
spelled_kept old new [] [] kept e = refl
spelled_kept old new [] (x ∷ names) kept e = absurd (cc)
spelled_kept old new (k ∷ ks) [] kept e = absurd (cc)
spelled_kept old new (k ∷ ks) (x ∷ names) kept e =
    let first : Some k ≡ number_of old x = cc in
    let rest : AreSpelled old ks names = cc in
    ap (λ (o : Option ℕ). o ∷ map (λ (j : ℕ). Some j) ks) (sym (kept x k (sym first)))
    ∙ ap (λ (l : List (Option ℕ)). number_of new x ∷ l) (spelled_kept old new ks names kept rest)

pub spelled_push : (old new : Spellings) (ks : List ℕ) (k : ℕ) (names : List (List ℕ)) (name : List ℕ) → Keeps old new → AreSpelled old ks names → number_of new name ≡ Some k → AreSpelled new (ks ++ k ∷ []) (names ++ name ∷ [])
spelled_push old new ks k names name kept e here =
    map-append (λ (j : ℕ). Some j) ks (k ∷ [])
    ∙ ap (λ (l : List (Option ℕ)). l ++ Some k ∷ []) (spelled_kept old new ks names kept e)
    ∙ ap (λ (o : Option ℕ). map (number_of new) names ++ o ∷ []) (sym here)
    ∙ sym (map-append (number_of new) names (name ∷ []))

pub spelled_start : (s : Spellings) (ks : List ℕ) (names : List (List ℕ)) (ids : List Identifier) → AreSpelled s ks names → AreSpelled s ks (names ++ names_of (take 0 ids))
spelled_start s ks names ids e = e ∙ ap (λ (l : List (List ℕ)). map (number_of s) l) (sym (ap (λ (l : List Identifier). names ++ names_of l) (take_none ids) ∙ append_none names))

pub spelled_next : (s : Spellings) (ks : List ℕ) (names : List (List ℕ)) (ids : List Identifier) (i : ℕ) (id : Identifier) → i < length ids → id ≡ get_or ids i id → AreSpelled s ks ((names ++ names_of (take i ids)) ++ id.name ∷ [])
    → AreSpelled s ks (names ++ names_of (take (i + 1) ids))
spelled_next s ks names ids i id lt is e =
    let next : names_of (take (i + 1) ids) ≡ names_of (take i ids) ++ id.name ∷ [] =
    map_more (λ (x : Identifier). x.name) ids i id lt ∙ ap (λ (x : Identifier). names_of (take i ids) ++ x.name ∷ []) (sym is) in
    e ∙ ap (λ (l : List (List ℕ)). map (number_of s) l) (append_assoc names (names_of (take i ids)) (id.name ∷ []) ∙ ap (λ (l : List (List ℕ)). names ++ l) (sym next))

pub spelled_end : (s : Spellings) (ks : List ℕ) (names : List (List ℕ)) (ids : List Identifier) (i : ℕ) → length ids ≤ i → AreSpelled s ks (names ++ names_of (take i ids)) → AreSpelled s ks (names ++ names_of ids)
spelled_end s ks names ids i past e = e ∙ ap (λ (l : List Identifier). map (number_of s) (names ++ names_of l)) (take_all i ids past)

pub spelled_both : (s : Spellings) (ks : List ℕ) (first others : List Identifier) → AreSpelled s ks (names_of first ++ names_of others) → AreSpelled s ks (names_of (first ++ others))
spelled_both s ks first others e = e ∙ ap (λ (l : List (List ℕ)). map (number_of s) l) (sym (map-append (λ (x : Identifier). x.name) first others))

there_cons : (o : Option ℕ) (rest : Option (List ℕ)) (k : ℕ) (ks : List ℕ) → o ≡ Some k → rest ≡ Some ks → option_and_then (λ n. option_map (λ ns. n ∷ ns) rest) o ≡ Some (k ∷ ks)
there_cons o rest k ks e f = rw (e, f) refl

there_of : (s : Spellings) (ks : List ℕ) (names : List (List ℕ)) → AreSpelled s ks names → all_there (map (number_of s) names) ≡ Some ks
there_of s [] [] e = refl
there_of s [] (x ∷ names) e = absurd (cc)
there_of s (k ∷ ks) [] e = absurd (cc)
there_of s (k ∷ ks) (x ∷ names) e =
    let first : Some k ≡ number_of s x = cc in
    let rest : AreSpelled s ks names = cc in
    there_cons (number_of s x) (all_there (map (number_of s) names)) k ks (sym first) (there_of s ks names rest)

spelled_cons : (o : Option ℕ) (rest : Option (List ℕ)) (others : List (Option ℕ)) (ks : List ℕ) → ((js : List ℕ) → rest ≡ Some js → map (λ j. Some j) js ≡ others)
    → option_and_then (λ n. option_map (λ ns. n ∷ ns) rest) o ≡ Some ks → map (λ j. Some j) ks ≡ o ∷ others
spelled_cons None rest others ks h e = absurd (cc)
spelled_cons (Some n) None others ks h e = absurd (cc)
spelled_cons (Some n) (Some ns) others ks h e =
    let same : n ∷ ns ≡ ks = cc in
    sym (ap (λ (l : List ℕ). map (λ (j : ℕ). Some j) l) same) ∙ ap (λ (l : List (Option ℕ)). Some n ∷ l) (h ns refl)

spelled_of : (s : Spellings) (ks : List ℕ) (names : List (List ℕ)) → all_there (map (number_of s) names) ≡ Some ks → AreSpelled s ks names
spelled_of s ks [] e = let same : [] ≡ ks = cc in sym (ap (λ (l : List ℕ). map (λ (j : ℕ). Some j) l) same)
spelled_of s ks (x ∷ names) e = spelled_cons (number_of s x) (all_there (map (number_of s) names)) (map (number_of s) names) ks (λ js h. spelled_of s js names h) e

-- equal numbers, equal names
one_spelling : (s : Spellings) (ks : List ℕ) (xs ys : List (List ℕ)) → AreSpelled s ks xs → AreSpelled s ks ys → xs ≡ ys
one_spelling s [] [] [] e f = refl
one_spelling s [] [] (b ∷ ys) e f = absurd (cc)
one_spelling s [] (a ∷ xs) ys e f = absurd (cc)
one_spelling s (k ∷ ks) [] ys e f = absurd (cc)
one_spelling s (k ∷ ks) (a ∷ xs) [] e f = absurd (cc)
one_spelling s (k ∷ ks) (a ∷ xs) (b ∷ ys) e f =
    let one : Some k ≡ number_of s a = cc in
    let two : Some k ≡ number_of s b = cc in
    let ones : AreSpelled s ks xs = cc in
    let twos : AreSpelled s ks ys = cc in
    ap (λ (x : List ℕ). x ∷ xs) (s.distinct.one a b k (sym one) (sym two)) ∙ ap (λ (l : List (List ℕ)). b ∷ l) (one_spelling s ks xs ys ones twos)

-- ---- lists by number

then_some : {X : Type 0} (f : X → Option ℕ) (o : Option X) (i : ℕ) → option_and_then f o ≡ Some i → (x : X) × ((o ≡ Some x) × (f x ≡ Some i))
then_some f None i e = absurd (cc)
then_some f (Some x) i e = (x, (refl, e))

list_parts : (n : Numbering) (names : List (List ℕ)) (i : ℕ) → number_of_list n names ≡ Some i → (ks : List ℕ) × ((AreSpelled n.spellings ks names) × (list_number n.lists ks ≡ Some i))
list_parts n names i e =
    let parts = then_some (list_number n.lists) (all_there (map (number_of n.spellings) names)) i e in
    (parts.0, (spelled_of n.spellings parts.0 names parts.1.0, parts.1.1))

list_of : (n : Numbering) (names : List (List ℕ)) (ks : List ℕ) (i : ℕ) → AreSpelled n.spellings ks names → list_number n.lists ks ≡ Some i → number_of_list n names ≡ Some i
list_of n names ks i e is = ap (λ (o : Option (List ℕ)). option_and_then (list_number n.lists) o) (there_of n.spellings ks names e) ∙ is

lists_decide : (a b : List (List ℕ)) → Decides (same_list a b) (a ≡ b)
lists_decide a b = slice_eq-Decides bytes_eq-Decides a b (same_list a b) refl

same_lists : (n : Numbering) (a b : List (List ℕ)) (i j : ℕ) → number_of_list n a ≡ Some i → number_of_list n b ≡ Some j → (i == j) ≡ same_list a b
same_lists n a b i j ai bj =
    let one = list_parts n a i ai in
    let two = list_parts n b j bj in
    let decides = lists_decide a b in
    let as_numbers : Decides (same_list a b) (i ≡ j) = (
      λ t. let both : Some i ≡ Some j = sym ai ∙ ap (number_of_list n) (decides.0 t) ∙ bj in cc,
      λ e.
          let keys : one.0 ≡ two.0 = n.lists.distinct.one one.0 two.0 i one.1.1 (two.1.1 ∙ ap (λ (k : ℕ). Some k) (sym e)) in
          decides.1 (one_spelling n.spellings two.0 a b (ap (λ (ks : List ℕ). map (λ (k : ℕ). Some k) ks) (sym keys) ∙ one.1.0) two.1.0),
    ) in
    same_from_decides (i == j) (same_list a b) (Decides-eqb i j) as_numbers

-- ---- entries

entry_by : (o p : Option ℕ) (e : Entry) → entry_with o p ≡ Some e → (o ≡ Some e.name) × (p ≡ Some e.list)
entry_by None p e h = absurd (cc)
entry_by (Some n) None e h = absurd (cc)
entry_by (Some n) (Some k) e h =
    let same : the_entry n k ≡ e = cc in
    (ap (λ (x : Entry). Some x.name) same, ap (λ (x : Entry). Some x.list) same)

pub entry_parts : (n : Numbering) (l : Listed) (e : Entry) → entry_of n l ≡ Some e → (number_of n.spellings (lower l.name) ≡ Some e.name) × (number_of_list n l.members ≡ Some e.list)
entry_parts n l e h = entry_by (number_of n.spellings (lower l.name)) (number_of_list n l.members) e h

made_by : (o p : Option ℕ) (i j : ℕ) → o ≡ Some i → p ≡ Some j → entry_with o p ≡ Some (the_entry i j)
made_by o p i j e f = rw (e, f) refl

pub entry_made : (n : Numbering) (l : Listed) (ks : List ℕ) (i j : ℕ) → number_of n.spellings (lower l.name) ≡ Some i → AreSpelled n.spellings ks l.members → list_number n.lists ks ≡ Some j → entry_of n l ≡ Some (the_entry i j)
entry_made n l ks i j name spelled list = made_by (number_of n.spellings (lower l.name)) (number_of_list n l.members) i j name (list_of n l.members ks j spelled list)

pub entries_kept : (old new : Numbering) → Keeps old.spellings new.spellings → KeepsLists old.lists new.lists → KeepsEntries old new
entries_kept old new spelled listed l e h =
    let parts = entry_parts old l e h in
    let list = list_parts old l.members e.list parts.1 in
    entry_made new l list.0 e.name e.list (spelled (lower l.name) e.name parts.0) (spelled_kept old.spellings new.spellings list.0 l.members spelled list.1.0) (listed list.0 e.list list.1.1)

pub all_entries_kept : (old new : Numbering) (es : List Entry) (ls : List Listed) → KeepsEntries old new → AreEntries old es ls → AreEntries new es ls
all_entries_kept old new [] [] kept e = refl
all_entries_kept old new [] (l ∷ ls) kept e = absurd (cc)
all_entries_kept old new (x ∷ es) [] kept e = absurd (cc)
all_entries_kept old new (x ∷ es) (l ∷ ls) kept e =
    let first : Some x ≡ entry_of old l = cc in
    let rest : AreEntries old es ls = cc in
    ap (λ (o : Option Entry). o ∷ map (λ (y : Entry). Some y) es) (sym (kept l x (sym first)))
    ∙ ap (λ (m : List (Option Entry)). entry_of new l ∷ m) (all_entries_kept old new es ls kept rest)

pub entries_more : (old new : Numbering) (es more : List Entry) (e : Entry) (ls : List ListedNode) (i : ℕ) (l : ListedNode) → i < length ls → l ≡ get_or ls i l → KeepsEntries old new → more ≡ es ++ e ∷ []
    → AreEntries old es (listed_views (take i ls)) → entry_of new (listed_view l) ≡ Some e → AreEntries new more (listed_views (take (i + 1) ls))
entries_more old new es more e ls i l lt is kept push so_far here =
    let front : List Listed = listed_views (take i ls) in
    let next : listed_views (take (i + 1) ls) ≡ front ++ listed_view l ∷ [] = map_more listed_view ls i l lt ∙ ap (λ (x : ListedNode). front ++ listed_view x ∷ []) (sym is) in
    ap (λ (m : List Entry). map (λ (x : Entry). Some x) m) push
    ∙ map-append (λ (x : Entry). Some x) es (e ∷ [])
    ∙ ap (λ (m : List (Option Entry)). m ++ Some e ∷ []) (all_entries_kept old new es front kept so_far)
    ∙ ap (λ (o : Option Entry). map (entry_of new) front ++ o ∷ []) (sym here)
    ∙ sym (ap (λ (m : List Listed). map (entry_of new) m) next ∙ map-append (entry_of new) front (listed_view l ∷ []))

-- ---- two clash exactly where their entries do

clash_alike : (n : Numbering) (l m : Listed) (e f : Entry) → entry_of n l ≡ Some e → entry_of n m ≡ Some f → entries_clash e f ≡ lists_clash l m
clash_alike n l m e f le mf =
    let one = entry_parts n l e le in
    let two = entry_parts n m f mf in
    ap (λ (b : Bool). b && not (e.list == f.list)) (same_number n.spellings (lower l.name) (lower m.name) e.name f.name one.0 two.0)
    ∙ ap (λ (b : Bool). bytes_eq (lower l.name) (lower m.name) && not b) (same_lists n l.members m.members e.list f.list one.1 two.1)

any_alike : (n : Numbering) (p : Entry → Bool) (q : Listed → Bool) → ((l : Listed) (e : Entry) → entry_of n l ≡ Some e → p e ≡ q l) → (es : List Entry) (ls : List Listed) → AreEntries n es ls → list_any p es ≡ list_any q ls
any_alike n p q h [] [] e = refl
any_alike n p q h [] (l ∷ ls) e = absurd (cc)
any_alike n p q h (x ∷ es) [] e = absurd (cc)
any_alike n p q h (x ∷ es) (l ∷ ls) e =
    let first : Some x ≡ entry_of n l = cc in
    let rest : AreEntries n es ls = cc in
    ap (λ (b : Bool). b || list_any p es) (h l x (sym first)) ∙ ap (λ (b : Bool). q l || b) (any_alike n p q h es ls rest)

pub some_alike : (n : Numbering) (es : List Entry) (ls : List Listed) → AreEntries n es ls → some_clash entries_clash es ≡ some_clash lists_clash ls
some_alike n es ls are =
    any_alike n (λ e. list_any (entries_clash e) es) (λ l. list_any (lists_clash l) ls) (λ l e le. any_alike n (entries_clash e) (lists_clash l) (λ m f mf. clash_alike n l m e f le mf) es ls are) es ls are
