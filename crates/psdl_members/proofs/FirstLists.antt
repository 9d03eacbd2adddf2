-- The first list that came with each name, one entry more at a time.
use Rattle.std.proofs.Common.{◌≡◌, ℕ, ◌+◌, ◌<◌, ◌≤◌, ◌≢◌, append_assoc, subst, List, [], ◌∷◌, ◌++◌, Bool, true, false, not, ◌==◌, ◌&&◌, ◌||◌, length, take, drop, get_or, map, refl, sym, ap, ◌∙◌, ⊎_elim, get_or-set_same, get_or-set_other}
use Rattle.std.specs.Bool.{MatchBool}
use Rattle.std.specs.List.{list_any, list_all, flat_map}
use Rattle.std.proofs.Math.ListN.{set}
use Rattle.std.proofs.lemmas.Bool.{cases_Bool, eqb-true, eq-eqb, ne_eqb, and_from}
use Rattle.std.proofs.lemmas.List.{take-append-drop, take_all}
use Rattle.std.proofs.lemmas.List.Folds.{list_any-append, list_all-append}
use Rattle.std.proofs.lemmas.Grind.{flat_map-append}
use Rattle.psdl_lineage.specs.inner.Walking.{is_marked}
use Rattle.psdl_lineage.proofs.Counting.{marked_here, marked_other}
use Rattle.psdl_lineage.proofs.Idle.{none_marked}
use Rattle.psdl_lineage.proofs.Listing.{take_more}
use Rattle.psdl_members.specs.declared.entry.Entry.{Entry}
use Rattle.psdl_members.specs.inner.Clashing.{some_clash, entries_clash}
use Rattle.psdl_members.specs.inner.Firsts.{is_first, is_entry, AreFirsts}
use Rattle.psdl_members.proofs.Cutting.{next_piece, take_none, append_none}
use Rattle.psdl_members.proofs.Pairs.{no_clash, clash_in, clash_front, both, and_false}
use Rattle.psdl_members.proofs.Rowing.{get_or_any}

pub no_firsts : (old marks : List Bool) (lists : List ℕ) → marks ≡ map (λ _. false) old → AreFirsts marks lists []
no_firsts old marks lists e = rw e (record { each = refl; from = λ n h. absurd (cc (none_marked old n)) })

-- ---- one whose name came already

any_same : {A : Type 0} (f g : A → Bool) → ((x : A) → f x ≡ true → g x ≡ true) → (xs : List A) → list_any f xs ≡ true → list_any g xs ≡ true
any_same f g h [] e = absurd (cc)
any_same f g h (x ∷ xs) e =
    ⊎_elim
    (λ t. ap (λ (b : Bool). b || list_any g xs) (h x t))
    (λ u. ap (λ (b : Bool). g x || b) (any_same f g h xs (sym (ap (λ (b : Bool). b || list_any f xs) u) ∙ e)) ∙ or_true (g x))
    (cases_Bool (f x))
  where
    or_true : (b : Bool) → b || true ≡ true
    or_true true = refl
    or_true false = refl

-- with another list: it clashes with the one that came first
pub clashes_first : (marks : List Bool) (lists : List ℕ) (es : List Entry) (e : Entry) → AreFirsts marks lists es → is_marked marks e.name ≡ true → (get_or lists e.name 0 == e.list) ≡ false → list_any (entries_clash e) es ≡ true
clashes_first marks lists es e w on other =
    any_same (is_entry e.name (get_or lists e.name 0)) (entries_clash e)
    (λ x t.
    let parts = both (x.name == e.name) (x.list == get_or lists e.name 0) t in
    let name : (e.name == x.name) ≡ true = eq-eqb e.name x.name (sym (eqb-true x.name e.name parts.0)) in
    let list : x.list ≡ get_or lists e.name 0 = eqb-true x.list (get_or lists e.name 0) parts.1 in
    let apart : (e.list == x.list) ≡ false = ne_eqb e.list x.list (λ s. cc (eq-eqb (get_or lists e.name 0) e.list (sym (s ∙ list)))) in
    ap (λ (b : Bool). b && not (e.list == x.list)) name ∙ ap (λ (b : Bool). not b) apart)
    es (w.from e.name on)

from_more : (name list : ℕ) (es : List Entry) (e : Entry) → list_any (is_entry name list) es ≡ true → list_any (is_entry name list) (es ++ e ∷ []) ≡ true
from_more name list es e h = list_any-append (is_entry name list) es (e ∷ []) ∙ ap (λ (b : Bool). b || list_any (is_entry name list) (e ∷ [])) h

all_more : (p : Entry → Bool) (es : List Entry) (e : Entry) → list_all p es ≡ true → p e ≡ true → list_all p (es ++ e ∷ []) ≡ true
all_more p es e h last = list_all-append p es (e ∷ []) ∙ and_from (list_all p es) (p e && true) h (and_from (p e) true last refl)

-- with the same list
pub again_first : (marks : List Bool) (lists : List ℕ) (es : List Entry) (e : Entry) → AreFirsts marks lists es → is_marked marks e.name ≡ true → (get_or lists e.name 0 == e.list) ≡ true → AreFirsts marks lists (es ++ e ∷ [])
again_first marks lists es e w on same =
    record {
      each = all_more (is_first marks lists) es e w.each (and_from (is_marked marks e.name) (get_or lists e.name 0 == e.list) on same);
      from = λ n h. from_more n (get_or lists n 0) es e (w.from n h);
    }

by_list : (P : Bool → Type 0) (b : Bool) → (b ≡ true → P false) → (b ≡ false → P true) → P (not b)
by_list P true f g = f refl
by_list P false f g = g refl

-- the answer is whether its list is another than the first, which was read
pub came_already : (marks : List Bool) (lists : List ℕ) (es : List Entry) (e : Entry) (first : ℕ) → AreFirsts marks lists es → is_marked marks e.name ≡ true → e.name < length lists → first ≡ get_or lists e.name first
    → MatchBool (not (first == e.list)) (list_any (entries_clash e) es ≡ true) (AreFirsts marks lists (es ++ e ∷ []))
came_already marks lists es e first w on lt is =
    let read : get_or lists e.name 0 ≡ first = get_or_any lists e.name 0 first lt ∙ sym is in
    subst (λ (k : ℕ). MatchBool (not (k == e.list)) (list_any (entries_clash e) es ≡ true) (AreFirsts marks lists (es ++ e ∷ []))) read
    (by_list (λ b. MatchBool b (list_any (entries_clash e) es ≡ true) (AreFirsts marks lists (es ++ e ∷ []))) (get_or lists e.name 0 == e.list) (λ t. again_first marks lists es e w on t) (λ f. clashes_first marks lists es e w on f))

-- ---- one whose name did not come

kept_first : (marks : List Bool) (lists : List ℕ) (name list : ℕ) → is_marked marks name ≡ false → (e : Entry) → is_first marks lists e ≡ true → is_first (set marks name true) (set lists name list) e ≡ true
kept_first marks lists name list off e h =
    let parts = both (is_marked marks e.name) (get_or lists e.name 0 == e.list) h in
    let other : e.name ≢ name = λ s. cc (ap (is_marked marks) s) in
    and_from (is_marked (set marks name true) e.name) (get_or (set lists name list) e.name 0 == e.list) (marked_other marks name e.name other ∙ parts.0)
    (ap (λ l. l == e.list) (get_or-set_other lists name e.name list 0 other) ∙ parts.1)

all_kept : (marks : List Bool) (lists : List ℕ) (name list : ℕ) → is_marked marks name ≡ false → (es : List Entry) → list_all (is_first marks lists) es ≡ true
    → list_all (is_first (set marks name true) (set lists name list)) es ≡ true
all_kept marks lists name list off [] h = refl
all_kept marks lists name list off (e ∷ es) h =
    let parts = both (is_first marks lists e) (list_all (is_first marks lists) es) h in
    and_from (is_first (set marks name true) (set lists name list) e) (list_all (is_first (set marks name true) (set lists name list)) es) (kept_first marks lists name list off e parts.0) (all_kept marks lists name list off es parts.1)

pub new_first : (marks : List Bool) (lists : List ℕ) (es : List Entry) (e : Entry) → AreFirsts marks lists es → e.name < length marks → e.name < length lists → is_marked marks e.name ≡ false
    → AreFirsts (set marks e.name true) (set lists e.name e.list) (es ++ e ∷ [])
new_first marks lists es e w below room off =
    let here : is_marked (set marks e.name true) e.name ≡ true = marked_here marks e.name below in
    let list : get_or (set lists e.name e.list) e.name 0 ≡ e.list = get_or-set_same lists e.name e.list 0 room in
    record {
      each =
          all_more (is_first (set marks e.name true) (set lists e.name e.list)) es e (all_kept marks lists e.name e.list off es w.each)
          (and_from (is_marked (set marks e.name true) e.name) (get_or (set lists e.name e.list) e.name 0 == e.list) here (eq-eqb (get_or (set lists e.name e.list) e.name 0) e.list list));
      from = λ n h.
          ⊎_elim
          (λ t.
          let same : n ≡ e.name = eqb-true n e.name t in
          let last : is_entry n (get_or (set lists e.name e.list) n 0) e ≡ true =
          ap (λ m. is_entry m (get_or (set lists e.name e.list) m 0) e) same
          ∙ and_from (e.name == e.name) (e.list == get_or (set lists e.name e.list) e.name 0) (eq-eqb e.name e.name refl) (eq-eqb e.list (get_or (set lists e.name e.list) e.name 0) (sym list)) in
          list_any-append (is_entry n (get_or (set lists e.name e.list) n 0)) es (e ∷ [])
          ∙ ap (λ (b : Bool). list_any (is_entry n (get_or (set lists e.name e.list) n 0)) es || (b || false)) last
          ∙ or_true (list_any (is_entry n (get_or (set lists e.name e.list) n 0)) es))
          (λ f.
          let other : n ≢ e.name = λ s. cc (eq-eqb n e.name s) in
          let was : is_marked marks n ≡ true = sym (marked_other marks e.name n other) ∙ h in
          ap (λ l. list_any (is_entry n l) (es ++ e ∷ [])) (get_or-set_other lists e.name n e.list 0 other) ∙ from_more n (get_or lists n 0) es e (w.from n was))
          (cases_Bool (n == e.name));
    }
  where
    or_true : (b : Bool) → b || true ≡ true
    or_true true = refl
    or_true false = refl

-- ---- no two of these clash

pub none_clash : (marks : List Bool) (lists : List ℕ) (es : List Entry) → AreFirsts marks lists es → some_clash entries_clash es ≡ false
none_clash marks lists es w =
    no_clash (is_first marks lists) entries_clash
    (λ a b h k.
    ⊎_elim
    (λ t.
    let name : a.name ≡ b.name = eqb-true a.name b.name t in
    let one : get_or lists a.name 0 ≡ a.list = eqb-true (get_or lists a.name 0) a.list ((both (is_marked marks a.name) (get_or lists a.name 0 == a.list) h).1) in
    let two : get_or lists b.name 0 ≡ b.list = eqb-true (get_or lists b.name 0) b.list ((both (is_marked marks b.name) (get_or lists b.name 0 == b.list) k).1) in
    let same : (a.list == b.list) ≡ true = eq-eqb a.list b.list (sym one ∙ ap (λ n. get_or lists n 0) name ∙ two) in
    ap (λ (v : Bool). (a.name == b.name) && not v) same ∙ and_false (a.name == b.name))
    (λ f. ap (λ (v : Bool). v && not (a.list == b.list)) f)
    (cases_Bool (a.name == b.name)))
    es w.each

-- ---- in loops

pub first_start : (marks : List Bool) (lists : List ℕ) (xs es : List Entry) → AreFirsts marks lists xs → AreFirsts marks lists (xs ++ take 0 es)
first_start marks lists xs es w = subst (λ (l : List Entry). AreFirsts marks lists l) (sym (ap (λ l. xs ++ l) (take_none es) ∙ append_none xs)) w

front_more : (xs es : List Entry) (i : ℕ) (d : Entry) → i < length es → (xs ++ take i es) ++ get_or es i d ∷ [] ≡ xs ++ take (i + 1) es
front_more xs es i d lt = append_assoc xs (take i es) (get_or es i d ∷ []) ∙ ap (λ l. xs ++ l) (sym (take_more es i d lt))

of_result : (P Q : Type 0) (r b : Bool) → r ≡ b → MatchBool r P Q → MatchBool b P Q
of_result P Q r b e h = subst (λ (v : Bool). MatchBool v P Q) e h

pub one_more : (marks : List Bool) (lists : List ℕ) (xs es : List Entry) (i : ℕ) (d : Entry) (r : Bool) → i < length es → r ≡ false
    → MatchBool r (list_any (entries_clash (get_or es i d)) (xs ++ take i es) ≡ true) (AreFirsts marks lists ((xs ++ take i es) ++ get_or es i d ∷ [])) → AreFirsts marks lists (xs ++ take (i + 1) es)
one_more marks lists xs es i d r lt off h =
    let w : AreFirsts marks lists ((xs ++ take i es) ++ get_or es i d ∷ []) =
    of_result (list_any (entries_clash (get_or es i d)) (xs ++ take i es) ≡ true) (AreFirsts marks lists ((xs ++ take i es) ++ get_or es i d ∷ [])) r false off h in
    subst (λ (l : List Entry). AreFirsts marks lists l) (front_more xs es i d lt) w

pub one_clash : (marks : List Bool) (lists : List ℕ) (xs es : List Entry) (i : ℕ) (d : Entry) (r : Bool) → i < length es → r ≡ true
    → MatchBool r (list_any (entries_clash (get_or es i d)) (xs ++ take i es) ≡ true) (AreFirsts marks lists ((xs ++ take i es) ++ get_or es i d ∷ [])) → some_clash entries_clash (xs ++ es) ≡ true
one_clash marks lists xs es i d r lt on h =
    let w : list_any (entries_clash (get_or es i d)) (xs ++ take i es) ≡ true =
    of_result (list_any (entries_clash (get_or es i d)) (xs ++ take i es) ≡ true) (AreFirsts marks lists ((xs ++ take i es) ++ get_or es i d ∷ [])) r true on h in
    let whole : xs ++ es ≡ (xs ++ take i es) ++ get_or es i d ∷ drop (i + 1) es =
    ap (λ l. xs ++ l) (sym (take-append-drop (i + 1) es) ∙ ap (λ l. l ++ drop (i + 1) es) (take_more es i d lt) ∙ append_assoc (take i es) (get_or es i d ∷ []) (drop (i + 1) es))
    ∙ sym (append_assoc xs (take i es) (get_or es i d ∷ drop (i + 1) es)) in
    ap (λ l. some_clash entries_clash l) whole ∙ clash_in entries_clash (xs ++ take i es) (drop (i + 1) es) (get_or es i d) w

pub first_end : (marks : List Bool) (lists : List ℕ) (xs es : List Entry) (i : ℕ) → length es ≤ i → AreFirsts marks lists (xs ++ take i es) → AreFirsts marks lists (xs ++ es)
first_end marks lists xs es i past w = subst (λ (l : List Entry). AreFirsts marks lists l) (ap (λ l. xs ++ l) (take_all i es past)) w

-- ---- of declarations

pub rows_start : (g : ℕ → List Entry) (marks : List Bool) (lists : List ℕ) (ds : List ℕ) → AreFirsts marks lists [] → AreFirsts marks lists (flat_map g (take 0 ds))
rows_start g marks lists ds w = subst (λ (l : List Entry). AreFirsts marks lists l) (sym (ap (λ l. flat_map g l) (take_none ds))) w

pub row_more : (g : ℕ → List Entry) (marks : List Bool) (lists : List ℕ) (ds : List ℕ) (i : ℕ) (r : Bool) → i < length ds → r ≡ false
    → MatchBool r (some_clash entries_clash (flat_map g (take i ds) ++ g (get_or ds i 0)) ≡ true) (AreFirsts marks lists (flat_map g (take i ds) ++ g (get_or ds i 0))) → AreFirsts marks lists (flat_map g (take (i + 1) ds))
row_more g marks lists ds i r lt off h =
    let w : AreFirsts marks lists (flat_map g (take i ds) ++ g (get_or ds i 0)) =
    of_result (some_clash entries_clash (flat_map g (take i ds) ++ g (get_or ds i 0)) ≡ true) (AreFirsts marks lists (flat_map g (take i ds) ++ g (get_or ds i 0))) r false off h in
    subst (λ (l : List Entry). AreFirsts marks lists l) (sym (next_piece g ds i lt)) w

pub row_clash : (g : ℕ → List Entry) (marks : List Bool) (lists : List ℕ) (ds : List ℕ) (i : ℕ) (r : Bool) → i < length ds → r ≡ true
    → MatchBool r (some_clash entries_clash (flat_map g (take i ds) ++ g (get_or ds i 0)) ≡ true) (AreFirsts marks lists (flat_map g (take i ds) ++ g (get_or ds i 0))) → true ≡ some_clash entries_clash (flat_map g ds)
row_clash g marks lists ds i r lt on h =
    let w : some_clash entries_clash (flat_map g (take i ds) ++ g (get_or ds i 0)) ≡ true =
    of_result (some_clash entries_clash (flat_map g (take i ds) ++ g (get_or ds i 0)) ≡ true) (AreFirsts marks lists (flat_map g (take i ds) ++ g (get_or ds i 0))) r true on h in
    let whole : flat_map g ds ≡ (flat_map g (take i ds) ++ g (get_or ds i 0)) ++ flat_map g (drop (i + 1) ds) =
    ap (λ l. flat_map g l) (sym (take-append-drop (i + 1) ds)) ∙ flat_map-append g (take (i + 1) ds) (drop (i + 1) ds) ∙ ap (λ l. l ++ flat_map g (drop (i + 1) ds)) (next_piece g ds i lt) in
    sym (ap (λ l. some_clash entries_clash l) whole ∙ clash_front entries_clash (flat_map g (take i ds) ++ g (get_or ds i 0)) (flat_map g (drop (i + 1) ds)) w)

pub rows_end : (g : ℕ → List Entry) (marks : List Bool) (lists : List ℕ) (ds : List ℕ) (i : ℕ) → length ds ≤ i → AreFirsts marks lists (flat_map g (take i ds)) → false ≡ some_clash entries_clash (flat_map g ds)
rows_end g marks lists ds i past w = sym (ap (λ l. some_clash entries_clash (flat_map g l)) (sym (take_all i ds past)) ∙ none_clash marks lists (flat_map g (take i ds)) w)
