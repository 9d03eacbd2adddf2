-- How many steps the pieces of a value take.
use Rattle.std.proofs.Common.{◌≡◌, ℕ, zero, suc, ◌+◌, ◌≤◌, true, cond, List, [], ◌∷◌, ◌++◌, length, drop, Option, Some, Result, Ok, Err, refl, sym, ap, subst, ◌∙◌, append_assoc, arith, ◌⊎◌, inl, inr}
use Rattle.std.proofs.lemmas.List.Sums.{sum_by-append, sum_by-cons}
use Rattle.pss_base.specs.declared.pid.Pid.{Pid}
use Rattle.type_layout.specs.declared.home.HomeNo.{HomeNo}
use Rattle.type_layout.specs.Types.{PlainType, Short, Long, LongLong, UShort, ULong, ULongLong, Char, Boolean, Octet, Str, Seq, Arr, Struct, Enum, RefTo, PlainFields, no_fields, field_and, PlainValue, Int, Character, Truth, Ordinal, Text, Items, Parts, Ref, PlainValues, no_values, value_and}
use Rattle.type_layout.specs.Values.{Of, AreOf, EachOf, count}
use Rattle.type_layout.specs.Sound.{IsSound, AreSound}
use Rattle.type_layout.specs.Spelling.{gap}
use Rattle.cdr_codec.specs.declared.fault.RecordFault.{RecordFault}
use Rattle.cdr_codec.specs.Primitives.{One, Two, Four, Eight, Primitive, Pad, Plain, Logical, Enumerator, TextLength, ItemCount, Home, Serial, Letters, width_of, refusal, Piece, joined, size_of, followed, pads, aligned, letters, home_of, serial_of, each_piece, pieces, field_pieces, IsRefusedAmong}
use Rattle.cdr_codec.specs.Reading.{Reader, judged_at, value_at}
use Rattle.cdr_codec.specs.Steps.{is_step, steps_of, begun}
use Rattle.cdr_codec.specs.Taken.{Counter, then_takes, pid_takes, times_take, items_take, value_takes, fields_take}
use Rattle.cdr_codec.proofs.Readers.{size-append, joined-append, behind, IsReader}
use Rattle.cdr_codec.proofs.Ones.{MayBe}
use Rattle.cdr_codec.proofs.Types.{judged_law, value_law, may_lead, may_measure}

-- ---- steps of pieces

abbrev one_of : Piece → ℕ
one_of p = cond (is_step p.what) 1 0

pub steps-append : (ps qs : List Piece) → steps_of (ps ++ qs) ≡ steps_of ps + steps_of qs
steps-append ps qs = sum_by-append one_of ps qs

steps-pad : (octets : List ℕ) (ps : List Piece) → steps_of (record { what = Pad; octets = octets } ∷ ps) ≡ steps_of ps
steps-pad octets ps = (let e = sum_by-cons one_of (record { what = Pad; octets = octets }) ps in omega (arith, e))

steps-pads : (n : ℕ) (ps : List Piece) → steps_of (pads n ++ ps) ≡ steps_of ps
steps-pads zero ps = refl
steps-pads (suc n) ps = steps-pad (0 ∷ []) (pads n ++ ps) ∙ steps-pads n ps

-- ---- what is taken

-- the steps that pieces take where the octets have them, and up to the first that is refused
pub record Counts (taken : Counter) (ps : ℕ → List Piece) : Type 0 where
  pub whole : (bytes : List ℕ) (at : ℕ) (rest : List ℕ) → at ≤ length bytes → drop at bytes ≡ joined (ps at) ++ rest → taken bytes at ≡ steps_of (ps at)
  pub until : (bytes : List ℕ) (at : ℕ) (f : RecordFault) → at ≤ length bytes → (c : IsRefusedAmong (ps at) at (drop at bytes) f) → taken bytes at ≡ steps_of c.front + begun c.next.what

no_front : {A : Type 0} (front : List Piece) (next : Piece) (back : List Piece) → [] ≡ front ++ next ∷ back → A
no_front [] next back e = absurd cc
no_front (p ∷ front) next back e = absurd cc

nothing_counts : Counts (λ bytes at. 0) (λ at. [])
nothing_counts = record { whole = λ bytes at rest le h. refl; until = λ bytes at f le c. no_front c.front c.next c.back c.split }

-- a cut of pieces: in front, or behind
abbrev IsIn : List Piece → List Piece → Piece → Type 0
IsIn ps front next = (tail : List Piece) × (ps ≡ front ++ next ∷ tail)

abbrev IsPast : List Piece → List Piece → List Piece → Piece → List Piece → Type 0
IsPast ps qs front next back = (more : List Piece) × (front ≡ ps ++ more) × (qs ≡ more ++ next ∷ back)

where_cut : (ps qs front : List Piece) (next : Piece) (back : List Piece) → ps ++ qs ≡ front ++ next ∷ back → IsIn ps front next ⊎ IsPast ps qs front next back
where_cut [] qs front next back e = inr (front, refl, e)
where_cut (p ∷ ps) qs [] next back e = (let is : p ≡ next = cc in inl (ps, ap (λ (q : Piece). q ∷ ps) is))
where_cut (p ∷ ps) qs (q ∷ front) next back e =
    let is : p ≡ q = cc in
    let tail : ps ++ qs ≡ front ++ next ∷ back = cc in
    elim (where_cut ps qs front next back tail) [
      | inl d ↦ inl (d.0, ap (λ (l : List Piece). p ∷ l) d.1 ∙ ap (λ (r : Piece). r ∷ (front ++ next ∷ d.0)) is)
      | inr d ↦ inr (d.0, ap (λ (l : List Piece). q ∷ l) d.1 ∙ ap (λ (r : Piece). r ∷ (ps ++ d.0)) (sym is), d.2)
    ]

-- first pieces that a reader takes, and others where these end
pub both_counts : {A : Type 0} (r1 : Reader A) (s1 : A → ℕ → List Piece) (F1 : A → Type 0) → IsReader r1 s1 F1 → (x : A) → F1 x → (t1 : Counter) → Counts t1 (s1 x) → (t2 : A → Counter) (others : ℕ → List Piece) → Counts (t2 x) others → (taken : Counter)
    → ((bytes : List ℕ) (at : ℕ) → taken bytes at ≡ t1 bytes at + then_takes (r1 bytes at) (λ y. t2 y.0 bytes y.1)) → Counts taken (λ at. followed (s1 x at) others at)
both_counts {A} r1 s1 F1 l x fits t1 c1 t2 others c2 taken is = record { whole = all; until = some }
  where
    all : (bytes : List ℕ) (at : ℕ) (rest : List ℕ) → at ≤ length bytes → drop at bytes ≡ joined (followed (s1 x at) others at) ++ rest → taken bytes at ≡ steps_of (followed (s1 x at) others at)
    all bytes at rest le h =
        let next = others (at + size_of (s1 x at)) in
        let split : drop at bytes ≡ joined (s1 x at) ++ (joined next ++ rest) = h ∙ ap (λ (l : List ℕ). l ++ rest) (joined-append (s1 x at) next) ∙ append_assoc (joined (s1 x at)) (joined next) rest in
        let b = behind bytes at (joined (s1 x at)) (joined next ++ rest) le split in
        let one = l.reads bytes at x (joined next ++ rest) le fits split in
        let first = c1.whole bytes at (joined next ++ rest) le split in
        let second = c2.whole bytes (at + size_of (s1 x at)) rest b.within b.rest_is in
        let sum : taken bytes at ≡ t1 bytes at + t2 x bytes (at + size_of (s1 x at)) = is bytes at ∙ rw one refl in
        omega (arith, sum, first, second, steps-append (s1 x at) next)

    some : (bytes : List ℕ) (at : ℕ) (f : RecordFault) → at ≤ length bytes → (c : IsRefusedAmong (followed (s1 x at) others at) at (drop at bytes) f) → taken bytes at ≡ steps_of c.front + begun c.next.what
    some bytes at f le c =
        let first = s1 x at in
        elim (where_cut first (others (at + size_of first)) c.front c.next c.back c.split) [
          | inl d ↦
              let here : IsRefusedAmong first at (drop at bytes) f = record { front = c.front; next = c.next; back = d.0; rest = c.rest; split = d.1; same = c.same; refused = c.refused } in
              let one = l.refuses bytes at x f le fits here in
              let sum : taken bytes at ≡ t1 bytes at + 0 = is bytes at ∙ rw one refl in
              let so = c1.until bytes at f le here in
              omega (arith, sum, so)
          | inr d ↦
              let text : drop at bytes ≡ joined first ++ (joined d.0 ++ c.rest) = c.same ∙ ap (λ (l : List Piece). joined l ++ c.rest) d.1 ∙ ap (λ (l : List ℕ). l ++ c.rest) (joined-append first d.0) ∙ append_assoc (joined first) (joined d.0) c.rest in
              let b = behind bytes at (joined first) (joined d.0 ++ c.rest) le text in
              let place : at + size_of c.front ≡ at + size_of first + size_of d.0 = omega (arith, ap size_of d.1, size-append first d.0) in
              let there : IsRefusedAmong (others (at + size_of first)) (at + size_of first) (drop (at + size_of first) bytes) f = record {
                front = d.0;
                next = c.next;
                back = c.back;
                rest = c.rest;
                split = d.2;
                same = b.rest_is;
                refused = subst (λ (k : ℕ). refusal c.next.what k c.rest ≡ Some f) place c.refused;
              } in
              let one = l.reads bytes at x (joined d.0 ++ c.rest) le fits text in
              let before = c1.whole bytes at (joined d.0 ++ c.rest) le text in
              let so = c2.until bytes (at + size_of first) f b.within there in
              let sum : taken bytes at ≡ t1 bytes at + t2 x bytes (at + size_of first) = is bytes at ∙ rw one refl in
              omega (arith, sum, before, so, ap steps_of d.1, steps-append first d.0)
        ]

-- ---- numbers, and the octets of a string

-- a primitive that is a step, and its padding
abbrev IsOwn : Primitive → Type 0
IsOwn p = (is_step p ≡ true) × (begun p ≡ 1)

pub number_counts : (p : Primitive) → IsOwn p → (n : ℕ) → Counts (λ bytes at. 1) (aligned p n)
number_counts p own n = record { whole = λ bytes at rest le h. sym (all (gap (width_of p) at) _); until = λ bytes at f le c. sym (some (gap (width_of p) at) _ c.front c.next c.back c.split) }
  where
    all : (k : ℕ) (octets : List ℕ) → steps_of (pads k ++ record { what = p; octets = octets } ∷ []) ≡ 1
    all k octets = steps-pads k (record { what = p; octets = octets } ∷ []) ∙ rw own.0 refl

    some : (k : ℕ) (octets : List ℕ) (front : List Piece) (next : Piece) (back : List Piece) → pads k ++ record { what = p; octets = octets } ∷ [] ≡ front ++ next ∷ back → steps_of front + begun next.what ≡ 1
    some zero octets [] next back e = (let is : record { what = p; octets = octets } ≡ next = cc in subst (λ (q : Piece). 0 + begun q.what ≡ 1) is (omega (arith, own.1)))
    some zero octets (q ∷ front) next back e = no_front front next back cc
    some (suc k) octets [] next back e = (let is : record { what = Pad; octets = 0 ∷ [] } ≡ next = cc in subst (λ (q : Piece). 0 + begun q.what ≡ 1) is refl)
    some (suc k) octets (q ∷ front) next back e =
        let is : record { what = Pad; octets = 0 ∷ [] } ≡ q = cc in
        let tail : pads k ++ record { what = p; octets = octets } ∷ [] ≡ front ++ next ∷ back = cc in
        let more = some k octets front next back tail in
        subst (λ (r : Piece). steps_of (r ∷ front) + begun next.what ≡ 1) is (omega (arith, steps-pad (0 ∷ []) front, more))

letters_count : (text : List ℕ) → Counts (λ bytes at. 0) (λ at. letters text)
letters_count text = record { whole = λ bytes at rest le h. refl; until = λ bytes at f le c. sym (none c.front c.next c.back c.split) }
  where
    none : (front : List Piece) (next : Piece) (back : List Piece) → letters text ≡ front ++ next ∷ back → steps_of front + begun next.what ≡ 0
    none [] next back e = (let is : record { what = Letters (length text); octets = text ++ 0 ∷ [] } ≡ next = cc in subst (λ (q : Piece). 0 + begun q.what ≡ 0) is refl)
    none (q ∷ front) next back e = no_front front next back cc

none_taken : {A : Type 0} (r : Result A RecordFault) → then_takes r (λ y. 0) ≡ 0
none_taken (Ok x) = refl
none_taken (Err f) = refl

string_counts : (bound : ℕ) (text : List ℕ) → Of (Str bound) (Text text) → Counts (λ bytes at. 1) (pieces (Str bound) (Text text))
string_counts bound text fits =
    both_counts (judged_at (TextLength bound)) (aligned (TextLength bound)) (MayBe (TextLength bound)) (judged_law (TextLength bound) tt (length text + 1) (may_measure bound text fits)) (length text + 1) (may_measure bound text fits)
    (λ bytes at. 1) (number_counts (TextLength bound) (refl, refl) (length text + 1)) (λ n bytes at. 0) (λ next. letters text) (letters_count text) (λ bytes at. 1) (λ bytes at. omega (arith, none_taken (judged_at (TextLength bound) bytes at)))

reference_counts : (homes : List HomeNo) (pid : Option Pid) → Of (RefTo homes) (Ref pid) → Counts (pid_takes homes) (pieces (RefTo homes) (Ref pid))
unfolding pid_takes
reference_counts homes pid fits =
    both_counts (judged_at (Home homes)) (aligned (Home homes)) (MayBe (Home homes)) (judged_law (Home homes) tt (home_of pid) (may_lead homes pid fits)) (home_of pid) (may_lead homes pid fits)
    (λ bytes at. 1) (number_counts (Home homes) (refl, refl) (home_of pid)) (λ h bytes at. 1) (aligned (Serial (home_of pid)) (serial_of pid)) (number_counts (Serial (home_of pid)) (refl, refl) (serial_of pid)) (pid_takes homes) (λ bytes at. refl)

-- ---- values

-- values one behind the other
each_counts : (one : Reader PlainValue) (spell : PlainValue → ℕ → List Piece) (F : PlainValue → Type 0) → IsReader one spell F → (taken : Counter) → ((v : PlainValue) → F v → Counts taken (spell v)) → (vs : PlainValues) → EachOf F vs
    → Counts (times_take one taken (count vs)) (each_piece spell vs)
unfolding times_take
each_counts one spell F l taken counts no_values fits = nothing_counts
each_counts one spell F l taken counts (value_and v vs) fits =
    both_counts one spell F l v fits.0 taken (counts v fits.0) (λ u. times_take one taken (count vs)) (each_piece spell vs) (each_counts one spell F l taken counts vs fits.1) (times_take one taken (1 + count vs)) next
  where
    next : (bytes : List ℕ) (at : ℕ) → times_take one taken (1 + count vs) bytes at ≡ taken bytes at + then_takes (one bytes at) (λ y. times_take one taken (count vs) bytes y.1)
    next bytes at = (let k : 1 + count vs ≡ suc (count vs) = omega arith in rw k refl)

items_count : (item : PlainType) (bound : ℕ) (vs : PlainValues) → IsReader (value_at item) (pieces item) (Of item) → ((v : PlainValue) → Of item v → Counts (value_takes item) (pieces item v)) → Of (Seq item bound) (Items vs)
    → Counts (items_take (value_at item) (value_takes item) bound) (pieces (Seq item bound) (Items vs))
unfolding items_take
items_count item bound vs l counts fits =
    both_counts (judged_at (ItemCount bound)) (aligned (ItemCount bound)) (MayBe (ItemCount bound)) (judged_law (ItemCount bound) tt (count vs) may) (count vs) may
    (λ bytes at. 1) (number_counts (ItemCount bound) (refl, refl) (count vs)) (times_take (value_at item) (value_takes item)) (each_piece (pieces item) vs) (each_counts (value_at item) (pieces item) (Of item) l (value_takes item) counts vs fits.0)
    (items_take (value_at item) (value_takes item) bound) (λ bytes at. refl)
  where
    may : MayBe (ItemCount bound) (count vs)
    may = (omega (arith, fits.2), fits.1)

array_counts : (item : PlainType) (n : ℕ) (vs : PlainValues) → IsReader (value_at item) (pieces item) (Of item) → ((v : PlainValue) → Of item v → Counts (value_takes item) (pieces item v)) → Of (Arr item n) (Items vs)
    → Counts (times_take (value_at item) (value_takes item) n) (pieces (Arr item n) (Items vs))
array_counts item n vs l counts fits = subst (λ (k : ℕ). Counts (times_take (value_at item) (value_takes item) k) (each_piece (pieces item) vs)) fits.1 (each_counts (value_at item) (pieces item) (Of item) l (value_takes item) counts vs fits.0)

field_counts : (name : List ℕ) (t : PlainType) (fields : PlainFields) (v : PlainValue) (vs : PlainValues) → IsReader (value_at t) (pieces t) (Of t) → Of t v → Counts (value_takes t) (pieces t v) → Counts (fields_take fields) (field_pieces fields vs)
    → Counts (fields_take (field_and name t fields)) (field_pieces (field_and name t fields) (value_and v vs))
unfolding fields_take
field_counts name t fields v vs l fits first others = both_counts (value_at t) (pieces t) (Of t) l v fits (value_takes t) first (λ u. fields_take fields) (field_pieces fields vs) others (fields_take (field_and name t fields)) (λ bytes at. refl)

no_field_counts : Counts (fields_take no_fields) (field_pieces no_fields no_values)
unfolding fields_take
no_field_counts = nothing_counts

mutual
  unfolding value_takes

  pub value_counts : (t : PlainType) → IsSound t → (v : PlainValue) → Of t v → Counts (value_takes t) (pieces t v)
  value_counts Short sound (Int z) fits = number_counts (Plain Two) (refl, refl) _
  value_counts Long sound (Int z) fits = number_counts (Plain Four) (refl, refl) _
  value_counts LongLong sound (Int z) fits = number_counts (Plain Eight) (refl, refl) _
  value_counts UShort sound (Int z) fits = number_counts (Plain Two) (refl, refl) _
  value_counts ULong sound (Int z) fits = number_counts (Plain Four) (refl, refl) _
  value_counts ULongLong sound (Int z) fits = number_counts (Plain Eight) (refl, refl) _
  value_counts Char sound (Character c) fits = number_counts (Plain One) (refl, refl) c
  value_counts Boolean sound (Truth b) fits = number_counts Logical (refl, refl) _
  value_counts Octet sound (Int z) fits = number_counts (Plain One) (refl, refl) _
  value_counts (Str bound) sound (Text text) fits = string_counts bound text fits
  value_counts (Seq item bound) sound (Items vs) fits = items_count item bound vs (value_law item sound) (value_counts item sound) fits
  value_counts (Arr item n) sound (Items vs) fits = array_counts item n vs (value_law item sound.2) (value_counts item sound.2) fits
  value_counts (Struct fields) sound (Parts vs) fits = fields_count fields sound.1 vs fits
  value_counts (Enum names) sound (Ordinal n) fits = number_counts (Enumerator (length names)) (refl, refl) n
  value_counts (RefTo homes) sound (Ref pid) fits = reference_counts homes pid fits
  value_counts _ sound _ fits = absurd fits

  pub fields_count : (fields : PlainFields) → AreSound fields → (vs : PlainValues) → AreOf fields vs → Counts (fields_take fields) (field_pieces fields vs)
  fields_count no_fields sound no_values fits = no_field_counts
  fields_count (field_and name t fields) sound (value_and v vs) fits = field_counts name t fields v vs (value_law t sound.0) fits.0 (value_counts t sound.0 v fits.0) (fields_count fields sound.1 vs fits.1)
  fields_count _ sound _ fits = absurd fits
