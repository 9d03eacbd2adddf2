-- What the readers of several values owe to them.
use Rattle.std.proofs.Common.{◌≡◌, ℕ, zero, suc, ◌<◌, Bool, true, false, cond, eqb, List, [], ◌∷◌, ◌++◌, length, Option, Some, None, refl, sym, ap, subst, ◌∙◌, arith, append_assoc, length-append}
use Rattle.std.specs.Prelude.{codes}
use Rattle.std.specs.List.{flat_map}
use Rattle.std.proofs.lemmas.List.{append-nil}
use Rattle.std.proofs.lemmas.Bool.{eqb-true}
use Rattle.type_layout.specs.Types.{PlainType, Struct, PlainFields, no_fields, field_and, PlainValue, Items, Parts, PlainValues, no_values, value_and, values_of}
use Rattle.type_layout.specs.Values.{AreOf}
use Rattle.type_layout.specs.ShapeText.{listed}
use Rattle.value_text.specs.Texts.{EachWritten, WritesItems, Writes, FieldsWritten, Spells}
use Rattle.value_text.specs.Reading.{◌>>=◌, Reader, given, behind, separator_at, item_at, more_at, items_at, list_at, after_comma, value_at, fields_at, more_fields_at}
use Rattle.value_text.proofs.Owing.{Took, Takes, Reads, stops, some_is, pair_is, bind_some, seen_takes}
use Rattle.value_text.proofs.QuoteLaws.{behind_takes}

abbrev pub list_of : PlainValues → List PlainValue
list_of no_values = []
list_of (value_and v vs) = v ∷ list_of vs

pub values_again : (vs : PlainValues) → values_of (list_of vs) ≡ vs
values_again no_values = refl
values_again (value_and v vs) = ap (value_and v) (values_again vs)

-- ---- items

-- the byte behind an item
abbrev mark : Bool → ℕ
mark true = 44
mark false = 93

separator_takes : (text : List ℕ) (goes_on : Bool) (rest : List ℕ) → separator_at text ≡ Some (goes_on, rest) → text ≡ mark goes_on ∷ rest
separator_takes [] goes_on rest e = absurd cc
separator_takes (b ∷ text) goes_on rest e = by_test (eqb b 44) refl (eqb b 93) refl e
  where
    by_test : (s : Bool) → eqb b 44 ≡ s → (t : Bool) → eqb b 93 ≡ t → cond {A = Option (Bool × List ℕ)} s (Some (true, text)) (cond t (Some (false, text)) None) ≡ Some (goes_on, rest) → b ∷ text ≡ mark goes_on ∷ rest
    by_test true comma t bracket e =
        let is : b ≡ 44 = eqb-true b 44 comma in
        let same = pair_is true goes_on text rest e in
        ap (λ (k : ℕ). k ∷ text) (is ∙ ap mark same.0) ∙ ap (λ (l : List ℕ). mark goes_on ∷ l) same.1
    by_test false comma true bracket e =
        let is : b ≡ 93 = eqb-true b 93 bracket in
        let same = pair_is false goes_on text rest e in
        ap (λ (k : ℕ). k ∷ text) (is ∙ ap mark same.0) ∙ ap (λ (l : List ℕ). mark goes_on ∷ l) same.1
    by_test false comma false bracket e = absurd cc

-- an item with the byte behind it
abbrev ItemIn : (PlainValue → List ℕ → Type 0) → PlainValue × Bool → List ℕ → Type 0
ItemIn W item text = (t : List ℕ) × W item.0 t × (text ≡ t ++ mark item.1 ∷ [])

item_takes : (one : Reader PlainValue) (W : PlainValue → List ℕ → Type 0) → Takes one W → Takes (item_at one) (ItemIn W)
unfolding item_at
item_takes one W takes text item rest e =
    let a = bind_some (one text) (λ x. separator_at x.1 >>= λ next. Some ((x.0, next.0), next.1)) (item, rest) e in
    let b = bind_some (separator_at a.0.1) (λ next. Some ((a.0.0, next.0), next.1)) (item, rest) a.2 in
    let t = takes text a.0.0 a.0.1 a.1 in
    let made : (PlainValue × Bool) × List ℕ = ((a.0.0, b.0.0), b.0.1) in
    subst (λ (m : (PlainValue × Bool) × List ℕ). Took (ItemIn W) text m.0 m.1) (some_is made (item, rest) b.2) (record {
      front = t.front ++ mark b.0.0 ∷ [];
      written = (t.front, t.written, refl);
      split = t.split ∙ ap (λ (l : List ℕ). t.front ++ l) (separator_takes a.0.1 b.0.0 b.0.1 b.1) ∙ sym (append_assoc t.front (mark b.0.0 ∷ []) b.0.1);
    })

-- one item or more, with the bracket behind them
abbrev MoreIn : (PlainValue → List ℕ → Type 0) → List PlainValue → List ℕ → Type 0
MoreIn W vs text = (t : List ℕ) × (ts : List (List ℕ)) × EachWritten W (values_of vs) (t ∷ ts) × (text ≡ listed (t ∷ ts) ++ 93 ∷ [])

listed_one : (t rest : List ℕ) → listed (t ∷ []) ++ rest ≡ t ++ rest
listed_one t rest = ap (λ (l : List ℕ). l ++ rest) (append-nil t)

listed_more : (t u : List ℕ) (us : List (List ℕ)) (rest : List ℕ) → listed (t ∷ u ∷ us) ++ rest ≡ t ++ 44 ∷ (listed (u ∷ us) ++ rest)
listed_more t u us rest = append_assoc t (44 ∷ listed (u ∷ us)) rest

-- what is read behind an item
abbrev others_of : Reader PlainValue → ℕ → PlainValue → List ℕ → Option (List PlainValue × List ℕ)
others_of one n v after = more_at one n after >>= λ others. Some (v ∷ others.0, others.1)

abbrev turn : Reader PlainValue → ℕ → (PlainValue × Bool) × List ℕ → Option (List PlainValue × List ℕ)
turn one n first = cond first.0.1 (others_of one n first.0.0 first.1) (Some (first.0.0 ∷ [], first.1))

more_takes : (one : Reader PlainValue) (W : PlainValue → List ℕ → Type 0) → Takes one W → (n : ℕ) → Takes (more_at one n) (MoreIn W)
unfolding more_at
more_takes one W takes zero text vs rest e = absurd cc
more_takes one W takes (suc n) text vs rest e =
    let a = bind_some (item_at one text) (turn one n) (vs, rest) e in
    let t = item_takes one W takes text a.0.0 a.0.1 a.1 in
    by_test a.0.0.0 a.0.0.1 a.0.1 t a.2 (more_takes one W takes n)
  where
    by_test : (v : PlainValue) (goes_on : Bool) (after : List ℕ) → Took (ItemIn W) text (v, goes_on) after → cond goes_on (others_of one n v after) (Some (v ∷ [], after)) ≡ Some (vs, rest) → Takes (more_at one n) (MoreIn W) → Took (MoreIn W) text vs rest
    by_test v true after t e take =
        let b = bind_some (more_at one n after) (λ others. Some (v ∷ others.0, others.1)) (vs, rest) e in
        let u = take after b.0.0 b.0.1 b.1 in
        let made : List PlainValue × List ℕ = (v ∷ b.0.0, b.0.1) in
        let first = t.written.0 in
        subst (λ (m : List PlainValue × List ℕ). Took (MoreIn W) text m.0 m.1) (some_is made (vs, rest) b.2) (record {
          front = first ++ 44 ∷ u.front;
          written = (first, u.written.0 ∷ u.written.1, (t.written.1, u.written.2), ap (λ (l : List ℕ). first ++ 44 ∷ l) u.written.3 ∙ sym (listed_more first u.written.0 u.written.1 (93 ∷ [])));
          split = t.split ∙ ap (λ (l : List ℕ). l ++ after) t.written.2 ∙ append_assoc first (44 ∷ []) after ∙ ap (λ (l : List ℕ). first ++ 44 ∷ l) u.split ∙ sym (append_assoc first (44 ∷ u.front) b.0.1);
        })
    by_test v false after t e take =
        let made : List PlainValue × List ℕ = (v ∷ [], after) in
        let first = t.written.0 in
        subst (λ (m : List PlainValue × List ℕ). Took (MoreIn W) text m.0 m.1) (some_is made (vs, rest) e) (record {
          front = t.front;
          written = (first, [], (t.written.1, tt), t.written.2 ∙ sym (listed_one first (93 ∷ [])));
          split = t.split;
        })

-- what is read behind the first bracket
abbrev inside_of : Reader PlainValue → List ℕ → Option (List PlainValue × List ℕ)
inside_of one inside = given (behind 93 inside) (more_at one (length inside) inside) (λ after. Some ([], after))

items_take : (one : Reader PlainValue) (W : PlainValue → List ℕ → Type 0) → Takes one W → Takes (items_at one) (λ vs. WritesItems W (values_of vs))
unfolding items_at
items_take one W takes text vs rest e =
    let a = bind_some (behind 91 text) (inside_of one) (vs, rest) e in
    by_end a.0 (behind_takes 91 text a.0 a.1) (behind 93 a.0) refl a.2
  where
    by_end : (inside : List ℕ) → text ≡ 91 ∷ inside → (o : Option (List ℕ)) → behind 93 inside ≡ o → given o (more_at one (length inside) inside) (λ after. Some ([], after)) ≡ Some (vs, rest) → Took (λ vs. WritesItems W (values_of vs)) text vs rest
    by_end inside opens (Some after) end e =
        let made : List PlainValue × List ℕ = ([], after) in
        subst (λ (m : List PlainValue × List ℕ). Took (λ vs. WritesItems W (values_of vs)) text m.0 m.1) (some_is made (vs, rest) e) (record {
          front = 91 ∷ 93 ∷ [];
          written = ([], tt, refl);
          split = opens ∙ ap (λ (l : List ℕ). 91 ∷ l) (behind_takes 93 inside after end);
        })
    by_end inside opens None end e =
        let t = more_takes one W takes (length inside) inside vs rest e in
        record {
          front = 91 ∷ t.front;
          written = (t.written.0 ∷ t.written.1, t.written.2, ap (λ (l : List ℕ). 91 ∷ l) t.written.3);
          split = opens ∙ ap (λ (l : List ℕ). 91 ∷ l) t.split;
        }

pub list_takes : (one : Reader PlainValue) (W V : PlainValue → List ℕ → Type 0) → ((vs : PlainValues) (text : List ℕ) → WritesItems W vs text → V (Items vs) text) → Takes one W → Takes (list_at one) V
list_takes one W V to takes = seen_takes (λ vs. Items (values_of vs)) (items_at one) (λ vs. WritesItems W (values_of vs)) V (λ vs text w. to (values_of vs) text w) (items_take one W takes)

more_read : (one : Reader PlainValue) (W : PlainValue → List ℕ → Type 0) → Reads one W → (n : ℕ) (vs : List PlainValue) (t : List ℕ) (ts : List (List ℕ)) (rest : List ℕ) → EachWritten W (values_of vs) (t ∷ ts) → length (listed (t ∷ ts)) < n → more_at one n (listed (t ∷ ts) ++ 93 ∷ rest) ≡ Some (vs, rest)
unfolding more_at item_at
more_read one W reads zero vs t ts rest w lt = absurd (omega arith)
more_read one W reads (suc n) [] t ts rest w lt = absurd w
more_read one W reads (suc n) (v ∷ []) t [] rest w lt =
    let first = reads v t (93 ∷ rest) w.0 refl in
    ap (more_at one (suc n)) (listed_one t (93 ∷ rest)) ∙ rw first refl
more_read one W reads (suc n) (v ∷ []) t (u ∷ us) rest w lt = absurd w.1
more_read one W reads (suc n) (v ∷ v' ∷ vs) t [] rest w lt = absurd w.1
more_read one W reads (suc n) (v ∷ v' ∷ vs) t (u ∷ us) rest w lt =
    let first = reads v t (44 ∷ (listed (u ∷ us) ++ 93 ∷ rest)) w.0 refl in
    let others = more_read one W reads n (v' ∷ vs) u us rest w.1 (omega (arith, length-append t (44 ∷ listed (u ∷ us)))) in
    ap (more_at one (suc n)) (listed_more t u us (93 ∷ rest)) ∙ rw (first, others) refl

-- no item begins with the bracket
abbrev pub IsClosed : Reader PlainValue → Type 0
IsClosed one = (rest : List ℕ) → one (93 ∷ rest) ≡ None

more_closed : (one : Reader PlainValue) → IsClosed one → (n : ℕ) (rest : List ℕ) → more_at one n (93 ∷ rest) ≡ None
unfolding more_at item_at
more_closed one closed zero rest = refl
more_closed one closed (suc n) rest = rw (closed rest) refl

items_read : (one : Reader PlainValue) (W : PlainValue → List ℕ → Type 0) → Reads one W → IsClosed one → (vs : List PlainValue) (texts : List (List ℕ)) (rest : List ℕ) → EachWritten W (values_of vs) texts → items_at one (91 ∷ (listed texts ++ 93 ∷ rest)) ≡ Some (vs, rest)
unfolding items_at
items_read one W reads closed [] [] rest w = refl
items_read one W reads closed [] (t ∷ ts) rest w = absurd w
items_read one W reads closed (v ∷ vs) [] rest w = absurd w
items_read one W reads closed (v ∷ vs) (t ∷ ts) rest w =
    let inside = listed (t ∷ ts) ++ 93 ∷ rest in
    let read = more_read one W reads (length inside) (v ∷ vs) t ts rest w (omega (arith, length-append (listed (t ∷ ts)) (93 ∷ rest))) in
    by_first inside refl read
  where
    by_first : (inside : List ℕ) → inside ≡ inside → more_at one (length inside) inside ≡ Some (v ∷ vs, rest) → given (behind 93 inside) (more_at one (length inside) inside) (λ after. Some ([], after)) ≡ Some (v ∷ vs, rest)
    by_first [] is read = read
    by_first (b ∷ bs) is read = by_test (eqb b 93) refl
      where
        by_test : (s : Bool) → eqb b 93 ≡ s → given (cond s (Some bs) None) (more_at one (length (b ∷ bs)) (b ∷ bs)) (λ after. Some ([], after)) ≡ Some (v ∷ vs, rest)
        by_test true bracket =
            let begins : b ≡ 93 = eqb-true b 93 bracket in
            let none : more_at one (length (b ∷ bs)) (b ∷ bs) ≡ None = ap (λ (k : ℕ). more_at one (length (b ∷ bs)) (k ∷ bs)) begins ∙ more_closed one closed (length (b ∷ bs)) bs in
            absurd (let no : None ≡ Some (v ∷ vs, rest) = sym none ∙ read in cc)
        by_test false other = read

pub list_reads : (one : Reader PlainValue) (W V : PlainValue → List ℕ → Type 0) → ((x : PlainValue) (text : List ℕ) → V x text → (vs : PlainValues) × (x ≡ Items vs) × WritesItems W vs text) → Reads one W → IsClosed one → Reads (list_at one) V
list_reads one W V from reads closed x front rest v ends =
    let f = from x front v in
    let texts = f.2.0 in
    let whole : front ++ rest ≡ 91 ∷ (listed texts ++ 93 ∷ rest) = ap (λ (l : List ℕ). l ++ rest) f.2.2 ∙ ap (λ (l : List ℕ). 91 ∷ l) (append_assoc (listed texts) (93 ∷ []) rest) in
    let written : EachWritten W (values_of (list_of f.0)) texts = subst (λ (vs : PlainValues). EachWritten W vs texts) (sym (values_again f.0)) f.2.1 in
    let items = items_read one W reads closed (list_of f.0) texts rest written in
    let same : Items (values_of (list_of f.0)) ≡ x = ap Items (values_again f.0) ∙ sym f.1 in
    ap (list_at one) whole ∙ rw items (ap (λ (y : PlainValue). Some (y, rest)) same)

-- ---- fields

abbrev comma : List ℕ → List ℕ
comma u = codes "," ++ u

-- fields behind a first one
abbrev pub MoreFieldsIn : PlainFields → List PlainValue → List ℕ → Type 0
MoreFieldsIn fields vs text = (texts : List (List ℕ)) × FieldsWritten fields (values_of vs) texts × (text ≡ flat_map comma texts)

abbrev pub FieldsIn : PlainFields → List PlainValue → List ℕ → Type 0
FieldsIn fields vs text = (texts : List (List ℕ)) × FieldsWritten fields (values_of vs) texts × (text ≡ listed texts)

pub no_more_fields_take : Takes (more_fields_at no_fields) (MoreFieldsIn no_fields)
unfolding more_fields_at
no_more_fields_take text vs rest e =
    let made : List PlainValue × List ℕ = ([], text) in
    subst (λ (m : List PlainValue × List ℕ). Took (MoreFieldsIn no_fields) text m.0 m.1) (some_is made (vs, rest) e) (record { front = []; written = ([], tt, refl); split = refl })

pub more_field_takes : (name : List ℕ) (t : PlainType) (fields : PlainFields) → Takes (value_at t) (Writes t) → Takes (more_fields_at fields) (MoreFieldsIn fields) → Takes (more_fields_at (field_and name t fields)) (MoreFieldsIn (field_and name t fields))
unfolding more_fields_at
more_field_takes name t fields takes take text vs rest e =
    let a = bind_some (after_comma (value_at t) text) (λ first. more_fields_at fields first.1 >>= λ others. Some (first.0 ∷ others.0, others.1)) (vs, rest) e in
    let b = bind_some (more_fields_at fields a.0.1) (λ others. Some (a.0.0 ∷ others.0, others.1)) (vs, rest) a.2 in
    let c = bind_some (behind 44 text) (value_at t) a.0 a.1 in
    let first = takes c.0 a.0.0 a.0.1 c.2 in
    let others = take a.0.1 b.0.0 b.0.1 b.1 in
    let made : List PlainValue × List ℕ = (a.0.0 ∷ b.0.0, b.0.1) in
    subst (λ (m : List PlainValue × List ℕ). Took (MoreFieldsIn (field_and name t fields)) text m.0 m.1) (some_is made (vs, rest) b.2) (record {
      front = 44 ∷ (first.front ++ others.front);
      written = (first.front ∷ others.written.0, (first.written, others.written.1), ap (λ (l : List ℕ). 44 ∷ (first.front ++ l)) others.written.2);
      split = behind_takes 44 text c.0 c.1 ∙ ap (λ (l : List ℕ). 44 ∷ l) (first.split ∙ ap (λ (l : List ℕ). first.front ++ l) others.split ∙ sym (append_assoc first.front others.front b.0.1));
    })

pub no_fields_take : Takes (fields_at no_fields) (FieldsIn no_fields)
unfolding fields_at
no_fields_take text vs rest e =
    let made : List PlainValue × List ℕ = ([], text) in
    subst (λ (m : List PlainValue × List ℕ). Took (FieldsIn no_fields) text m.0 m.1) (some_is made (vs, rest) e) (record { front = []; written = ([], tt, refl); split = refl })

pub field_takes : (name : List ℕ) (t : PlainType) (fields : PlainFields) → Takes (value_at t) (Writes t) → Takes (more_fields_at fields) (MoreFieldsIn fields) → Takes (fields_at (field_and name t fields)) (FieldsIn (field_and name t fields))
unfolding fields_at
field_takes name t fields takes take text vs rest e =
    let a = bind_some (value_at t text) (λ first. more_fields_at fields first.1 >>= λ others. Some (first.0 ∷ others.0, others.1)) (vs, rest) e in
    let b = bind_some (more_fields_at fields a.0.1) (λ others. Some (a.0.0 ∷ others.0, others.1)) (vs, rest) a.2 in
    let first = takes text a.0.0 a.0.1 a.1 in
    let others = take a.0.1 b.0.0 b.0.1 b.1 in
    let made : List PlainValue × List ℕ = (a.0.0 ∷ b.0.0, b.0.1) in
    subst (λ (m : List PlainValue × List ℕ). Took (FieldsIn (field_and name t fields)) text m.0 m.1) (some_is made (vs, rest) b.2) (record {
      front = first.front ++ others.front;
      written = (first.front ∷ others.written.0, (first.written, others.written.1), ap (λ (l : List ℕ). first.front ++ l) others.written.2);
      split = first.split ∙ ap (λ (l : List ℕ). first.front ++ l) others.split ∙ sym (append_assoc first.front others.front b.0.1);
    })

pub struct_takes : (fields : PlainFields) → Takes (fields_at fields) (FieldsIn fields) → Takes (value_at (Struct fields)) (Writes (Struct fields))
unfolding value_at
struct_takes fields take text x rest e =
    let a = bind_some (behind 123 text) (λ inside. fields_at fields inside >>= λ vs. behind 125 vs.1 >>= λ after. Some (Parts (values_of vs.0), after)) (x, rest) e in
    let b = bind_some (fields_at fields a.0) (λ vs. behind 125 vs.1 >>= λ after. Some (Parts (values_of vs.0), after)) (x, rest) a.2 in
    let c = bind_some (behind 125 b.0.1) (λ after. Some (Parts (values_of b.0.0), after)) (x, rest) b.2 in
    let t = take a.0 b.0.0 b.0.1 b.1 in
    let made : PlainValue × List ℕ = (Parts (values_of b.0.0), c.0) in
    subst (λ (m : PlainValue × List ℕ). Took (Writes (Struct fields)) text m.0 m.1) (some_is made (x, rest) c.2) (record {
      front = 123 ∷ (t.front ++ 125 ∷ []);
      written = (t.written.0, t.written.1, ap (λ (l : List ℕ). 123 ∷ (l ++ 125 ∷ [])) t.written.2);
      split = behind_takes 123 text a.0 a.1 ∙ ap (λ (l : List ℕ). 123 ∷ l) (t.split ∙ ap (λ (l : List ℕ). t.front ++ l) (behind_takes 125 b.0.1 c.0 c.1) ∙ sym (append_assoc t.front (125 ∷ []) c.0));
    })

-- values of the fields, and their texts
abbrev pub MoreFieldsSpelled : PlainFields → List PlainValue → List ℕ → Type 0
MoreFieldsSpelled fields vs text = AreOf fields (values_of vs) × MoreFieldsIn fields vs text

abbrev pub FieldsSpelled : PlainFields → List PlainValue → List ℕ → Type 0
FieldsSpelled fields vs text = AreOf fields (values_of vs) × FieldsIn fields vs text

pub no_more_fields_read : Reads (more_fields_at no_fields) (MoreFieldsSpelled no_fields)
unfolding more_fields_at
no_more_fields_read [] front rest w ends = by_texts w.1.0 w.1.1 w.1.2
  where
    by_texts : (texts : List (List ℕ)) → FieldsWritten no_fields no_values texts → front ≡ flat_map comma texts → more_fields_at no_fields (front ++ rest) ≡ Some ([], rest)
    by_texts [] w is = ap (λ (l : List ℕ). Some ([], l ++ rest)) is
    by_texts (t ∷ ts) w is = absurd w
no_more_fields_read (v ∷ vs) front rest w ends = absurd w.0

stop_behind : (us : List (List ℕ)) (rest : List ℕ) → stops rest ≡ true → stops (flat_map comma us ++ rest) ≡ true
stop_behind [] rest ends = ends
stop_behind (u ∷ us) rest ends = refl

pub more_field_reads : (name : List ℕ) (t : PlainType) (fields : PlainFields) → Reads (value_at t) (Spells t) → Reads (more_fields_at fields) (MoreFieldsSpelled fields) → Reads (more_fields_at (field_and name t fields)) (MoreFieldsSpelled (field_and name t fields))
unfolding more_fields_at
more_field_reads name t fields reads read [] front rest w ends = absurd w.0
more_field_reads name t fields reads read (v ∷ vs) front rest w ends = by_texts w.1.0 w.1.1 w.1.2
  where
    by_texts : (texts : List (List ℕ)) → FieldsWritten (field_and name t fields) (values_of (v ∷ vs)) texts → front ≡ flat_map comma texts → more_fields_at (field_and name t fields) (front ++ rest) ≡ Some (v ∷ vs, rest)
    by_texts [] f is = absurd f
    by_texts (u ∷ us) f is =
        let behind_u = flat_map comma us ++ rest in
        let whole : front ++ rest ≡ 44 ∷ (u ++ behind_u) = ap (λ (l : List ℕ). l ++ rest) is ∙ ap (λ (l : List ℕ). 44 ∷ l) (append_assoc u (flat_map comma us) rest) in
        let first = reads v u behind_u (w.0.0, f.0) (stop_behind us rest ends) in
        let others = read vs (flat_map comma us) rest (w.0.1, (us, f.1, refl)) ends in
        ap (more_fields_at (field_and name t fields)) whole ∙ rw (first, others) refl

pub no_fields_read : Reads (fields_at no_fields) (FieldsSpelled no_fields)
unfolding fields_at
no_fields_read [] front rest w ends = by_texts w.1.0 w.1.1 w.1.2
  where
    by_texts : (texts : List (List ℕ)) → FieldsWritten no_fields no_values texts → front ≡ listed texts → fields_at no_fields (front ++ rest) ≡ Some ([], rest)
    by_texts [] w is = ap (λ (l : List ℕ). Some ([], l ++ rest)) is
    by_texts (t ∷ ts) w is = absurd w
no_fields_read (v ∷ vs) front rest w ends = absurd w.0

pub field_reads : (name : List ℕ) (t : PlainType) (fields : PlainFields) → Reads (value_at t) (Spells t) → Reads (more_fields_at fields) (MoreFieldsSpelled fields) → Reads (fields_at (field_and name t fields)) (FieldsSpelled (field_and name t fields))
unfolding fields_at
field_reads name t fields reads read [] front rest w ends = absurd w.0
field_reads name t fields reads read (v ∷ vs) front rest w ends = by_texts w.1.0 w.1.1 w.1.2
  where
    by_texts : (texts : List (List ℕ)) → FieldsWritten (field_and name t fields) (values_of (v ∷ vs)) texts → front ≡ listed texts → fields_at (field_and name t fields) (front ++ rest) ≡ Some (v ∷ vs, rest)
    by_texts [] f is = absurd f
    by_texts (u ∷ us) f is =
        let behind_u = flat_map comma us ++ rest in
        let whole : front ++ rest ≡ u ++ behind_u = ap (λ (l : List ℕ). l ++ rest) is ∙ append_assoc u (flat_map comma us) rest in
        let first = reads v u behind_u (w.0.0, f.0) (stop_behind us rest ends) in
        let others = read vs (flat_map comma us) rest (w.0.1, (us, f.1, refl)) ends in
        ap (fields_at (field_and name t fields)) whole ∙ rw (first, others) refl

pub struct_reads : (fields : PlainFields) → Reads (fields_at fields) (FieldsSpelled fields) → Reads (value_at (Struct fields)) (Spells (Struct fields))
unfolding value_at
struct_reads fields read (Parts vs) front rest w ends =
    let texts = w.1.0 in
    let whole : front ++ rest ≡ 123 ∷ (listed texts ++ 125 ∷ rest) = ap (λ (l : List ℕ). l ++ rest) w.1.2 ∙ ap (λ (l : List ℕ). 123 ∷ l) (append_assoc (listed texts) (125 ∷ []) rest) in
    let again = sym (values_again vs) in
    let spelled : FieldsSpelled fields (list_of vs) (listed texts) = (subst (AreOf fields) again w.0, (texts, subst (λ (us : PlainValues). FieldsWritten fields us texts) again w.1.1, refl)) in
    let parts = read (list_of vs) (listed texts) (125 ∷ rest) spelled refl in
    ap (value_at (Struct fields)) whole ∙ rw parts (ap (λ (us : PlainValues). Some (Parts us, rest)) (values_again vs))
struct_reads fields read _ front rest w ends = absurd w.0
