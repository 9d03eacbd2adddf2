-- Keys are introduced one by one.
use Rattle.std.proofs.Common.{◌≡◌, ℕ, zero, suc, ◌+◌, ◌<◌, ◌≤◌, List, [], ◌∷◌, ◌++◌, Bool, true, false, cond, ◌==◌, if◌then◌else◌, ◌&&◌, length, map, take, drop, find, get_or, Some, None, nat_lt, ltb-true, ltb-false, length-drop, refl, sym, ap, ◌∙◌, arith, get_or-set_same, get_or-set_other}
use Rattle.std.specs.List.{position_from}
use Rattle.std.specs.Option.{option_to_list, option_or}
use Rattle.std.specs.Str.{bytes_eq}
use Rattle.std.proofs.Math.ListN.{set}
use Rattle.std.specs.declared.vec.Vec.{Vec}
use Rattle.std.proofs.lemmas.Bool.{eqb-true, eq-eqb}
use Rattle.std.proofs.lemmas.List.{append-nil, map-append, map-set, take_all, drop-drop, take-append-drop}
use Rattle.std.proofs.lemmas.List.Folds.{find-append}
use Rattle.type_layout.specs.declared.key.Key.{Key}
use Rattle.type_layout.specs.Factories.{numbers_among}
use Rattle.type_layout.specs.Types.{PlainMember}
use Rattle.psdl_directory.specs.Declarations.{Declaration}
use Rattle.psdl_lineage.specs.Descent.{Listed, has, ancestry, same_listed}
use Rattle.psdl_standings.specs.Standings.{standings}
use Rattle.psdl_check.specs.Schemas.{Introduced, indexes, key_of, home_layout}
use Rattle.psdl_check.specs.declared.key_rows.KeyIds.{KeyIds}
use Rattle.psdl_check.specs.declared.keys.Introducing.{Introducing}
use Rattle.psdl_check.specs.declared.keys.Keys.{Keys}
use Rattle.psdl_check.specs.inner.KeysMade.{introduction, HasLayout}
use Rattle.psdl_check.specs.inner.TypedMembers.{typed_names}
use Rattle.psdl_lineage.proofs.Repeats.{turned}
use Rattle.psdl_check.specs.inner.KeyIds.{id_of}
use Rattle.psdl_check.specs.inner.Keys.{places_of, AreKeys, number_among}
use Rattle.psdl_lineage.proofs.Listing.{take_more}
use Rattle.psdl_check.specs.inner.NumbersIn.{numbers_in}
use Rattle.psdl_check.proofs.KeyIding.{same_id}

-- ---- one number more

held_at : {Z : Type 0} (lists : List (Vec ℕ Z)) (i : ℕ) (d : Vec ℕ Z) → i < length lists → numbers_in lists i ≡ (get_or lists i d).items
held_at [] i d lt = absurd (omega (arith, lt))
held_at (l ∷ ls) zero d lt = refl
held_at (l ∷ ls) (suc i) d lt = held_at ls i d (omega (arith, lt))

length_of : {Z : Type 0} (lists : List (Vec ℕ Z)) → length (map (λ v. v.items) lists) ≡ length lists
length_of [] = refl
length_of (l ∷ ls) = ap suc (length_of ls)

put_at : (ls : List (List ℕ)) (i n : ℕ) (x : List ℕ) → i < length ls → (b : Bool) → (i == n) ≡ b → get_or (set ls i x) n [] ≡ if b then x else get_or ls n []
put_at ls i n x lt true h = ap (λ m. get_or (set ls i x) m []) (sym (eqb-true i n h)) ∙ get_or-set_same ls i x [] lt
put_at ls i n x lt false h = get_or-set_other ls i n x [] (λ e. cc (eq-eqb i n (sym e)))

pub number_put : {Z : Type 0} (lists : List (Vec ℕ Z)) (i : ℕ) (v d : Vec ℕ Z) (number : ℕ) → i < length lists → d ≡ get_or lists i d → v.items ≡ d.items ++ number ∷ []
    → (n : ℕ) → numbers_in (set lists i v) n ≡ if i == n then numbers_in lists n ++ number ∷ [] else numbers_in lists n
number_put {Z} lists i v d number lt is e n =
    ap (λ ls. get_or ls n []) (map-set (λ (l : Vec ℕ Z). l.items) lists i v) ∙ put_at (map (λ l. l.items) lists) i n v.items (omega (arith, lt, length_of lists)) (i == n) refl
    ∙ by (i == n) refl
  where
    here : v.items ≡ numbers_in lists i ++ number ∷ []
    here = e ∙ ap (λ (l : Vec ℕ Z). l.items ++ number ∷ []) is ∙ ap (λ l. l ++ number ∷ []) (sym (held_at lists i d lt))

    by : (b : Bool) → (i == n) ≡ b → (if b then v.items else numbers_in lists n) ≡ if b then numbers_in lists n ++ number ∷ [] else numbers_in lists n
    by true h = here ∙ ap (λ m. numbers_in lists m ++ number ∷ []) (eqb-true i n h)
    by false h = refl

-- ---- one key more

pub one_place_more : (l : Listed) (i : ℕ) (xs : List Introduced) (x : Introduced) → places_of l i (xs ++ x ∷ []) ≡ places_of l i xs ++ cond (same_listed l x.listed) ((i + length xs) ∷ []) []
one_place_more l i [] x =
    let same : i ≡ i + 0 = omega arith in
    ap (λ n. cond (same_listed l x.listed) (n ∷ []) []) same
one_place_more l i (y ∷ xs) x = by (same_listed l y.listed) (one_place_more l (i + 1) xs x)
  where
    by : (b : Bool) → places_of l (i + 1) (xs ++ x ∷ []) ≡ places_of l (i + 1) xs ++ cond (same_listed l x.listed) ((i + 1 + length xs) ∷ []) []
        → cond b (i ∷ places_of l (i + 1) (xs ++ x ∷ [])) (places_of l (i + 1) (xs ++ x ∷ [])) ≡ cond b (i ∷ places_of l (i + 1) xs) (places_of l (i + 1) xs) ++ cond (same_listed l x.listed) ((i + length (y ∷ xs)) ∷ []) []
    by b h =
        let same : i + 1 + length xs ≡ i + length (y ∷ xs) = omega arith in
        at b (h ∙ ap (λ n. places_of l (i + 1) xs ++ cond (same_listed l x.listed) (n ∷ []) []) same)
      where
        at : (c : Bool) → places_of l (i + 1) (xs ++ x ∷ []) ≡ places_of l (i + 1) xs ++ cond (same_listed l x.listed) ((i + length (y ∷ xs)) ∷ []) []
            → cond c (i ∷ places_of l (i + 1) (xs ++ x ∷ [])) (places_of l (i + 1) (xs ++ x ∷ [])) ≡ cond c (i ∷ places_of l (i + 1) xs) (places_of l (i + 1) xs) ++ cond (same_listed l x.listed) ((i + length (y ∷ xs)) ∷ []) []
        at true g = ap (λ m. i ∷ m) g
        at false g = g

position_alike : (name : List ℕ) (j : ℕ) (vs : List PlainMember) → position_from (bytes_eq name) j (map (λ (v : PlainMember). v.name) vs) ≡ position_from (λ v. bytes_eq name v.name) j vs
position_alike name j [] = refl
position_alike name j (v ∷ vs) = ap (λ o. cond (bytes_eq name v.name) (Some j) o) (position_alike name (j + 1) vs)

pub numbers_are : (vs : List PlainMember) (names : List (List ℕ)) → numbers_among (map (λ (v : PlainMember). v.name) vs) names ≡ indexes vs names
numbers_are vs [] = refl
numbers_are vs (name ∷ names) =
    ap (λ o. option_to_list o ++ numbers_among (map (λ (v : PlainMember). v.name) vs) names) (position_alike name 0 vs)
    ∙ ap (λ l. option_to_list (position_from (λ (v : PlainMember). bytes_eq name v.name) 0 vs) ++ l) (numbers_are vs names)

-- the record of a key that a home introduces
pub record_is : (all : List Declaration) (home : Introducing) (l : Listed) (record_ : Key) → HasLayout all home → record_ ≡ record { name = l.name; home = home.number; members = numbers_among (typed_names home.members.now) l.members }
    → record_ ≡ key_of all (standings all) (introduction home l)
record_is all home l record_ has is =
    let number = has.number in
    let members : numbers_among (typed_names home.members.now) l.members ≡ indexes (home_layout all (standings all) home.home) l.members =
    ap (λ ns. numbers_among ns l.members) has.members ∙ numbers_are (home_layout all (standings all) home.home) l.members in
    is ∙ (λ i. record { name = l.name; home = number i; members = members i })

put_is : (ids : KeyIds) (l key : Listed) (n id : ℕ) (old : List ℕ) (len : ℕ) → id_of ids l ≡ Some n → id_of ids key ≡ Some id → (if id == n then old ++ len ∷ [] else old) ≡ old ++ cond (same_listed l key) (len ∷ []) []
put_is ids l key n id old len li ki = by (id == n) (same_listed l key) (turned id n ∙ same_id ids l key n id li ki)
  where
    by : (b c : Bool) → b ≡ c → (if b then old ++ len ∷ [] else old) ≡ old ++ cond c (len ∷ []) []
    by true true e = refl
    by false false e = sym (append-nil old)
    by true false e = absurd (cc)
    by false true e = absurd (cc)

-- a home introduces a key
pub introduced_more : (all : List Declaration) (ids : KeyIds) (introduced : List Introduced) (old new : Keys) (home : Introducing) (l : Listed) (id number : ℕ) (record_ : Key) → AreKeys all ids introduced old → HasLayout all home → id_of ids l ≡ Some id
    → record_ ≡ record { name = l.name; home = home.number; members = numbers_among (typed_names home.members.now) l.members } → new.list ≡ old.list ++ record_ ∷ [] → new.homes.items ≡ old.homes.items ++ home.home ∷ []
    → number ≡ length old.homes.items → length new.of_ids.items ≡ length old.of_ids.items
    → (id < length old.of_ids.items → (n : ℕ) → numbers_in new.of_ids.items n ≡ if id == n then numbers_in old.of_ids.items n ++ number ∷ [] else numbers_in old.of_ids.items n)
    → AreKeys all ids (introduced ++ introduction home l ∷ []) new
introduced_more all ids introduced old new home l id number record_ are has is rec list homes counted sized put =
    let x : Introduced = introduction home l in
    let len : number ≡ length introduced = counted ∙ ap length are.homes ∙ map-length (λ (i : Introduced). i.home) introduced in
    record {
      list = list ∙ ap (λ ks. ks ++ record_ ∷ []) are.list ∙ ap (λ k. map (key_of all (standings all)) introduced ++ k ∷ []) (record_is all home l record_ has rec) ∙ sym (map-append (key_of all (standings all)) introduced (x ∷ []));
      homes = homes ∙ ap (λ hs. hs ++ home.home ∷ []) are.homes ∙ sym (map-append (λ (i : Introduced). i.home) introduced (x ∷ []));
      fits = λ m n at. omega (arith, are.fits m n at, sized);
      of_ids = λ m n at.
          put (are.fits l id is) n ∙ put_is ids m l n id (numbers_in old.of_ids.items n) number at is
          ∙ ap (λ ns. ns ++ cond (same_listed m l) (number ∷ []) []) (are.of_ids m n at)
          ∙ ap (λ k. places_of m 0 introduced ++ cond (same_listed m l) (k ∷ []) []) (len ∙ zero_plus (length introduced)) ∙ sym (one_place_more m 0 introduced x);
    }
  where
    map-length : (f : Introduced → ℕ) (xs : List Introduced) → length (map f xs) ≡ length xs
    map-length f [] = refl
    map-length f (y ∷ xs) = ap suc (map-length f xs)

    zero_plus : (n : ℕ) → n ≡ 0 + n
    zero_plus n = omega arith

-- ---- the first of a home's line

cut_head : (hs : List ℕ) (i y : ℕ) (ys : List ℕ) → drop i hs ≡ y ∷ ys → get_or hs i 0 ≡ y
cut_head [] i y ys e =
    let none : List ℕ = [] in
    absurd (omega (arith, ap (λ (l : List ℕ). length l) e, length-drop {A = ℕ} i none))
cut_head (h ∷ hs) zero y ys e = ap (λ l. get_or l 0 0) e
cut_head (h ∷ hs) (suc i) y ys e = cut_head hs i y ys e

cut_rest : (hs : List ℕ) (i y : ℕ) (ys : List ℕ) → drop i hs ≡ y ∷ ys → drop (i + 1) hs ≡ ys
cut_rest hs i y ys e = sym (drop-drop 1 i hs) ∙ ap (λ l. drop 1 l) e

first_from : (f : ℕ → Bool) (l : Listed) (hs : List ℕ) (i : ℕ) (xs : List Introduced) → drop i hs ≡ map (λ (k : Introduced). k.home) xs
    → position_from (λ (k : Introduced). f k.home && same_listed l k.listed) i xs ≡ find (λ n. f (get_or hs n 0)) (places_of l i xs)
first_from f l hs i [] e = refl
first_from f l hs i (x ∷ xs) e =
    by (same_listed l x.listed) (f x.home) (ap f (cut_head hs i x.home (map (λ (k : Introduced). k.home) xs) e)) (first_from f l hs (i + 1) xs (cut_rest hs i x.home (map (λ (k : Introduced). k.home) xs) e))
  where
    by : (b c : Bool) → f (get_or hs i 0) ≡ c → position_from (λ (k : Introduced). f k.home && same_listed l k.listed) (i + 1) xs ≡ find (λ n. f (get_or hs n 0)) (places_of l (i + 1) xs)
        → cond (c && b) (Some i) (position_from (λ (k : Introduced). f k.home && same_listed l k.listed) (i + 1) xs) ≡ find (λ n. f (get_or hs n 0)) (cond b (i ∷ places_of l (i + 1) xs) (places_of l (i + 1) xs))
    by true true h rest = sym (ap (λ t. cond t (Some i) (find (λ n. f (get_or hs n 0)) (places_of l (i + 1) xs))) h)
    by true false h rest = rest ∙ sym (ap (λ t. cond t (Some i) (find (λ n. f (get_or hs n 0)) (places_of l (i + 1) xs))) h)
    by false true h rest = rest
    by false false h rest = rest

-- the number of a home's key, by the numbers of its name and list
pub first_is : (all : List Declaration) (ids : KeyIds) (introduced : List Introduced) (k : Keys) (home id : ℕ) (l : Listed) → id_of ids l ≡ Some id → AreKeys all ids introduced k
    → number_among all home introduced l ≡ find (λ n. has (ancestry all home) (get_or k.homes.items n 0)) (numbers_in k.of_ids.items id)
first_is all ids introduced k home id l is are =
    first_from (has (ancestry all home)) l k.homes.items 0 introduced are.homes ∙ ap (find (λ n. has (ancestry all home) (get_or k.homes.items n 0))) (sym (are.of_ids l id is))

pub found_next : (test : ℕ → Bool) (ns : List ℕ) (i n d : ℕ) → i < length ns → n ≡ get_or ns i d → find test (take i ns) ≡ None → test n ≡ true → Some n ≡ find test ns
found_next test ns i n d lt is none here =
    sym (ap (λ l. find test l) (sym (take-append-drop (i + 1) ns)) ∙ find-append test (take (i + 1) ns) (drop (i + 1) ns) ∙ ap (λ o. option_or o (find test (drop (i + 1) ns))) (front test ns i n d lt is none ∙ ap (λ b. cond b (Some n) None) here))
  where
    front : (t : ℕ → Bool) (ms : List ℕ) (j m e : ℕ) → j < length ms → m ≡ get_or ms j e → find t (take j ms) ≡ None → find t (take (j + 1) ms) ≡ cond (t m) (Some m) None
    front t ms j m e l at off =
        ap (find t) (take_more ms j e l ∙ ap (λ k. take j ms ++ k ∷ []) (sym at)) ∙ find-append t (take j ms) (m ∷ []) ∙ ap (λ o. option_or o (cond (t m) (Some m) None)) off

pub none_next : (test : ℕ → Bool) (ns : List ℕ) (i n d : ℕ) → i < length ns → n ≡ get_or ns i d → find test (take i ns) ≡ None → test n ≡ false → find test (take (i + 1) ns) ≡ None
none_next test ns i n d lt is none off =
    ap (find test) (take_more ns i d lt ∙ ap (λ k. take i ns ++ k ∷ []) (sym is)) ∙ find-append test (take i ns) (n ∷ []) ∙ ap (λ o. option_or o (cond (test n) (Some n) None)) none ∙ ap (λ b. cond b (Some n) None) off

pub all_none : (test : ℕ → Bool) (ns : List ℕ) (i : ℕ) → length ns ≤ i → find test (take i ns) ≡ None → None ≡ find test ns
all_none test ns i le none = sym (ap (find test) (sym (take_all i ns le)) ∙ none)

pub numbers_at : {Z : Type 0} (lists : List (Vec ℕ Z)) (i : ℕ) (v : Vec ℕ Z) → true ≡ nat_lt i (length lists) → v ≡ get_or lists i v → v.items ≡ numbers_in lists i
numbers_at {Z} lists i v there is = ap (λ (l : Vec ℕ Z). l.items) is ∙ sym (held_at lists i v (ltb-true i (length lists) (sym there)))

pub no_numbers : {Z : Type 0} (lists : List (Vec ℕ Z)) (i : ℕ) → false ≡ nat_lt i (length lists) → numbers_in lists i ≡ []
no_numbers [] i none = refl
no_numbers (v ∷ lists) zero none = absurd (omega (arith, ltb-false 0 (length (v ∷ lists)) (sym none)))
no_numbers (v ∷ lists) (suc i) none = past lists i (omega (arith, ltb-false (suc i) (length (v ∷ lists)) (sym none)))
  where
    past : {Y : Type 0} (ls : List (Vec ℕ Y)) (j : ℕ) → length ls ≤ j → numbers_in ls j ≡ []
    past [] j le = refl
    past (l ∷ ls) zero le = absurd (omega (arith, le))
    past (l ∷ ls) (suc j) le = past ls j (omega (arith, le))
