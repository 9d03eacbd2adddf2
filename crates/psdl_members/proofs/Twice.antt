-- Lists in which no two are the same, one more at a time.
use Rattle.std.proofs.Common.{◌≡◌, ℕ, zero, suc, ◌+◌, ◌-◌, ◌<◌, ◌≤◌, nat_lt, cond, subst, List, [], ◌∷◌, ◌++◌, Bool, true, false, not, ◌==◌, ◌&&◌, ◌||◌, length, take, drop, get_or, map, refl, sym, ap, ◌∙◌, append_assoc, ⊎_elim}
use Rattle.std.specs.Prelude.{nat_le}
use Rattle.std.specs.Bool.{MatchBool}
use Rattle.std.specs.List.{list_any, flat_map}
use Rattle.std.proofs.Math.ListN.{set}
use Rattle.std.proofs.lemmas.Bool.{eqb-true, eq-eqb, cases_Bool, or_right}
use Rattle.std.proofs.lemmas.List.{take-append-drop, take_all}
use Rattle.std.proofs.lemmas.List.Folds.{list_any-append}
use Rattle.std.proofs.lemmas.Grind.{flat_map-append}
use Rattle.type_layout.specs.Sound.{are_distinct}
use Rattle.psdl_lineage.specs.Descent.{has}
use Rattle.psdl_lineage.specs.inner.Walking.{is_marked}
use Rattle.psdl_lineage.proofs.Counting.{marked_here, marked_other}
use Rattle.psdl_lineage.proofs.Idle.{none_marked}
use Rattle.psdl_lineage.proofs.Listing.{take_more}
use Rattle.psdl_lineage.proofs.Repeats.{has-append, has_later, or_false}
use Rattle.psdl_members.specs.inner.Noted.{IsNoted, Within}
use Rattle.psdl_members.specs.inner.Flat.{piece, piece_of}
use Rattle.psdl_members.proofs.Cutting.{next_piece, append_none, take_none}

shuffle : (a s d n : Bool) → not (a || (s || false)) && (d && not n) ≡ (not a && d) && not (s || n)
shuffle true s d n = refl
shuffle false true true n = refl
shuffle false true false n = refl
shuffle false false d n = refl

-- one more is the same as none of those in front
pub distinct_push : {A : Type 0} (same : A → A → Bool) (xs : List A) (x : A) → are_distinct same (xs ++ x ∷ []) ≡ are_distinct same xs && not (list_any (λ y. same y x) xs)
distinct_push same [] x = refl
distinct_push same (y ∷ ys) x =
    ap (λ (b : Bool). not b && are_distinct same (ys ++ x ∷ [])) (list_any-append (same y) ys (x ∷ []))
    ∙ ap (λ (b : Bool). not (list_any (same y) ys || (same y x || false)) && b) (distinct_push same ys x)
    ∙ shuffle (list_any (same y) ys) (same y x) (are_distinct same ys) (list_any (λ z. same z x) ys)

and_false : (b : Bool) → b && false ≡ false
and_false true = refl
and_false false = refl

false_parts : (a d : Bool) → not a && d ≡ false → a ≡ false → d ≡ false
false_parts true d h e = absurd (cc)
false_parts false d h e = h

pub distinct_front : {A : Type 0} (same : A → A → Bool) (xs ys : List A) → are_distinct same xs ≡ false → are_distinct same (xs ++ ys) ≡ false
distinct_front same [] ys h = absurd (cc)
distinct_front same (x ∷ xs) ys h =
    ⊎_elim
    (λ t. ap (λ (b : Bool). not b && are_distinct same (xs ++ ys)) (list_any-append (same x) xs ys ∙ ap (λ (b : Bool). b || list_any (same x) ys) t))
    (λ f.
    ap (λ (b : Bool). not (list_any (same x) (xs ++ ys)) && b) (distinct_front same xs ys (false_parts (list_any (same x) xs) (are_distinct same xs) h f))
    ∙ and_false (not (list_any (same x) (xs ++ ys))))
    (cases_Bool (list_any (same x) xs))

-- ---- marks

pub noted_none : (old new : List Bool) → new ≡ map (λ _. false) old → IsNoted new []
noted_none old new e = rw e (record { distinct = refl; marked = λ n. none_marked old n })

pub noted_more : (marks : List Bool) (xs : List ℕ) (x : ℕ) → IsNoted marks xs → x < length marks → is_marked marks x ≡ false → IsNoted (set marks x true) (xs ++ x ∷ [])
noted_more marks xs x w lt off =
    record {
      distinct = distinct_push (λ a b. a == b) xs x ∙ ap (λ (b : Bool). b && not (has xs x)) w.distinct ∙ ap (λ (b : Bool). not b) (sym (w.marked x) ∙ off);
      marked = λ n.
          ⊎_elim
          (λ t.
          ap (λ k. is_marked (set marks x true) k) (sym (eqb-true x n t)) ∙ marked_here marks x lt
          ∙ sym (has-append xs (x ∷ []) n ∙ or_right (has xs n) (has (x ∷ []) n) (ap (λ v. v || false) t)))
          (λ f.
          marked_other marks x n (λ e. cc (eq-eqb x n (sym e))) ∙ w.marked n
          ∙ sym (has-append xs (x ∷ []) n ∙ ap (λ v. has xs n || (v || false)) f ∙ or_false (has xs n)))
          (cases_Bool (x == n));
    }

noted_twice : (marks : List Bool) (xs : List ℕ) (x : ℕ) → IsNoted marks xs → is_marked marks x ≡ true → are_distinct (λ a b. a == b) (xs ++ x ∷ []) ≡ false
noted_twice marks xs x w on =
    distinct_push (λ a b. a == b) xs x ∙ ap (λ (b : Bool). are_distinct (λ a b. a == b) xs && not b) (sym (w.marked x) ∙ on) ∙ and_false (are_distinct (λ a b. a == b) xs)

-- ---- in a loop

pub front_more : (xs numbers : List ℕ) (i : ℕ) → i < length numbers → (xs ++ take i numbers) ++ get_or numbers i 0 ∷ [] ≡ xs ++ take (i + 1) numbers
front_more xs numbers i lt = append_assoc xs (take i numbers) (get_or numbers i 0 ∷ []) ∙ ap (λ l. xs ++ l) (sym (take_more numbers i 0 lt))

pub one_noted : (marks : List Bool) (xs numbers : List ℕ) (i : ℕ) → i < length numbers → IsNoted marks (xs ++ take i numbers) → get_or numbers i 0 < length marks → is_marked marks (get_or numbers i 0) ≡ false
    → IsNoted (set marks (get_or numbers i 0) true) (xs ++ take (i + 1) numbers)
one_noted marks xs numbers i lt w below off = rw (← front_more xs numbers i lt) (noted_more marks (xs ++ take i numbers) (get_or numbers i 0) w below off)

pub one_twice : (marks : List Bool) (xs numbers : List ℕ) (i : ℕ) → i < length numbers → IsNoted marks (xs ++ take i numbers) → is_marked marks (get_or numbers i 0) ≡ true
    → are_distinct (λ a b. a == b) (xs ++ numbers) ≡ false
one_twice marks xs numbers i lt w on =
    let whole : xs ++ numbers ≡ (xs ++ take (i + 1) numbers) ++ drop (i + 1) numbers =
    ap (λ l. xs ++ l) (sym (take-append-drop (i + 1) numbers)) ∙ sym (append_assoc xs (take (i + 1) numbers) (drop (i + 1) numbers)) in
    ap (λ l. are_distinct (λ a b. a == b) l) whole
    ∙ distinct_front (λ a b. a == b) (xs ++ take (i + 1) numbers) (drop (i + 1) numbers)
    (ap (λ l. are_distinct (λ a b. a == b) l) (sym (front_more xs numbers i lt)) ∙ noted_twice marks (xs ++ take i numbers) (get_or numbers i 0) w on)

pub piece_twice : (g : ℕ → List ℕ) (ds : List ℕ) (i : ℕ) → i < length ds → are_distinct (λ a b. a == b) (flat_map g (take i ds) ++ g (get_or ds i 0)) ≡ false
    → are_distinct (λ a b. a == b) (flat_map g ds) ≡ false
piece_twice g ds i lt h =
    let whole : flat_map g ds ≡ (flat_map g (take i ds) ++ g (get_or ds i 0)) ++ flat_map g (drop (i + 1) ds) =
    ap (λ l. flat_map g l) (sym (take-append-drop (i + 1) ds)) ∙ flat_map-append g (take (i + 1) ds) (drop (i + 1) ds) ∙ ap (λ l. l ++ flat_map g (drop (i + 1) ds)) (next_piece g ds i lt) in
    ap (λ l. are_distinct (λ a b. a == b) l) whole ∙ distinct_front (λ a b. a == b) (flat_map g (take i ds) ++ g (get_or ds i 0)) (flat_map g (drop (i + 1) ds)) h

pub noted_start : (marks : List Bool) (xs numbers : List ℕ) → IsNoted marks xs → IsNoted marks (xs ++ take 0 numbers)
noted_start marks xs numbers w = let e : xs ++ take 0 numbers ≡ xs = ap (λ l. xs ++ l) (take_none numbers) ∙ append_none xs in rw e w

pub noted_end : (marks : List Bool) (xs numbers : List ℕ) (i : ℕ) → length numbers ≤ i → IsNoted marks (xs ++ take i numbers) → IsNoted marks (xs ++ numbers)
noted_end marks xs numbers i past w = let e : xs ++ take i numbers ≡ xs ++ numbers = ap (λ l. xs ++ l) (take_all i numbers past) in rw e at w

pub pieces_start : (g : ℕ → List ℕ) (marks : List Bool) (ds : List ℕ) → IsNoted marks [] → IsNoted marks (flat_map g (take 0 ds))
pieces_start g marks ds w = let e : flat_map g (take 0 ds) ≡ [] = ap (λ l. flat_map g l) (take_none ds) in rw e w

pub pieces_end : (g : ℕ → List ℕ) (marks : List Bool) (ds : List ℕ) (i : ℕ) → length ds ≤ i → IsNoted marks (flat_map g (take i ds)) → false ≡ not (are_distinct (λ a b. a == b) (flat_map g ds))
pieces_end g marks ds i past w = sym (ap (λ l. not (are_distinct (λ a b. a == b) (flat_map g l))) (sym (take_all i ds past)) ∙ ap (λ (b : Bool). not b) w.distinct)

of_result : (r : Bool) (P Q : Type 0) (b : Bool) → r ≡ b → MatchBool r P Q → MatchBool b P Q
of_result r P Q b e h = subst (λ (v : Bool). MatchBool v P Q) e h

pub piece_more : (g : ℕ → List ℕ) (marks : List Bool) (ds : List ℕ) (i : ℕ) (twice : Bool) → i < length ds → twice ≡ false
    → MatchBool twice (are_distinct (λ a b. a == b) (flat_map g (take i ds) ++ g (get_or ds i 0)) ≡ false) (IsNoted marks (flat_map g (take i ds) ++ g (get_or ds i 0)))
    → IsNoted marks (flat_map g (take (i + 1) ds))
piece_more g marks ds i twice lt off h =
    let w : IsNoted marks (flat_map g (take i ds) ++ g (get_or ds i 0)) =
    of_result twice (are_distinct (λ a b. a == b) (flat_map g (take i ds) ++ g (get_or ds i 0)) ≡ false) (IsNoted marks (flat_map g (take i ds) ++ g (get_or ds i 0))) false off h in
    rw (next_piece g ds i lt) w

pub piece_clash : (g : ℕ → List ℕ) (marks : List Bool) (ds : List ℕ) (i : ℕ) (twice : Bool) → i < length ds → twice ≡ true
    → MatchBool twice (are_distinct (λ a b. a == b) (flat_map g (take i ds) ++ g (get_or ds i 0)) ≡ false) (IsNoted marks (flat_map g (take i ds) ++ g (get_or ds i 0)))
    → true ≡ not (are_distinct (λ a b. a == b) (flat_map g ds))
piece_clash g marks ds i twice lt on h =
    let w : are_distinct (λ a b. a == b) (flat_map g (take i ds) ++ g (get_or ds i 0)) ≡ false =
    of_result twice (are_distinct (λ a b. a == b) (flat_map g (take i ds) ++ g (get_or ds i 0)) ≡ false) (IsNoted marks (flat_map g (take i ds) ++ g (get_or ds i 0))) true on h in
    sym (ap (λ (b : Bool). not b) (piece_twice g ds i lt w))

-- ---- a piece is within its list

has_take : (k : ℕ) (xs : List ℕ) (n : ℕ) → has (take k xs) n ≡ true → has xs n ≡ true
has_take zero [] n h = h
has_take (suc k) [] n h = h
has_take zero (x ∷ xs) n h = absurd (cc)
has_take (suc k) (x ∷ xs) n h =
    ⊎_elim (λ t. ap (λ v. v || has xs n) t) (λ f. has_later x n xs (has_take k xs n (sym (ap (λ v. v || has (take k xs) n) f) ∙ h))) (cases_Bool (x == n))

has_drop : (k : ℕ) (xs : List ℕ) (n : ℕ) → has (drop k xs) n ≡ true → has xs n ≡ true
has_drop zero [] n h = h
has_drop zero (x ∷ xs) n h = h
has_drop (suc k) [] n h = h
has_drop (suc k) (x ∷ xs) n h = has_later x n xs (has_drop k xs n h)

pub within_piece : (limit : ℕ) (starts numbers : List ℕ) (d : ℕ) → Within limit numbers → Within limit (piece_of starts d numbers)
within_piece limit starts numbers d w n h =
    by (nat_lt (d + 1) (length starts) && (nat_le (get_or starts d 0) (get_or starts (d + 1) 0) && nat_le (get_or starts (d + 1) 0) (length numbers))) h
  where
    by : (b : Bool) → has (cond b (piece starts d numbers) []) n ≡ true → n < limit
    by true h = w n (has_drop (get_or starts d 0) numbers n (has_take (get_or starts (d + 1) 0 - get_or starts d 0) (drop (get_or starts d 0) numbers) n h))
    by false h = absurd (cc)
