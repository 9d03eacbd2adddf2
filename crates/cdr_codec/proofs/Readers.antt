-- What a reader owes to the pieces that it reads.
use Rattle.std.proofs.Common.{◌≡◌, ℕ, ◌+◌, ◌≤◌, List, [], ◌∷◌, ◌++◌, length, take, drop, Some, Result, Ok, Err, refl, sym, ap, subst, ◌∙◌, append_assoc, arith, ◌⊎◌, inl, inr, length-append}
use Rattle.std.proofs.lemmas.List.{drop_at, drop-drop, length-drop}
use Rattle.cdr_codec.specs.declared.fault.RecordFault.{RecordFault}
use Rattle.cdr_codec.specs.Primitives.{Primitive, Letters, wrong_letter, Piece, joined, size_of, followed, refusal, IsRefusedAmong}
use Rattle.cdr_codec.specs.Reading.{◌>>=◌, Reader}
use Rattle.cdr_codec.specs.Laws.{AreOctets}

abbrev pub done : {A : Type 0} → A → Result A RecordFault
done x = Ok x

abbrev pub failed : {A : Type 0} → RecordFault → Result A RecordFault
failed f = Err f

pub bind_id : {A : Type 0} (r : Result (A × ℕ) RecordFault) → r ≡ (r >>= λ y. done (y.0, y.1))
bind_id (Ok x) = refl
bind_id (Err f) = refl

pub ok_is : {A : Type 0} (x y : A) → done x ≡ done y → x ≡ y
ok_is x y e = cc

pub bind_ok : {A B : Type 0} (r : Result A RecordFault) (f : A → Result B RecordFault) (y : B) → (r >>= f) ≡ Ok y → (x : A) × (r ≡ Ok x) × (f x ≡ Ok y)
bind_ok (Ok x) f y e = (x, refl, e)
bind_ok (Err d) f y e = absurd cc

pub bind_err : {A B : Type 0} (r : Result A RecordFault) (f : A → Result B RecordFault) (e : RecordFault) → (r >>= f) ≡ Err e → (r ≡ Err e) ⊎ ((x : A) × (r ≡ Ok x) × (f x ≡ Err e))
bind_err (Ok x) f d e = inr (x, refl, e)
bind_err (Err c) f d e = inl cc

-- ---- places

-- what stands behind the front of the rest
pub record Behind (bytes : List ℕ) (at : ℕ) (text rest : List ℕ) : Type 0 where
  pub rest_is : drop (at + length text) bytes ≡ rest
  pub within : at + length text ≤ length bytes

pub behind : (bytes : List ℕ) (at : ℕ) (text rest : List ℕ) → at ≤ length bytes → drop at bytes ≡ text ++ rest → Behind bytes at text rest
behind bytes at text rest le h = record {
  rest_is = sym (drop-drop (length text) at bytes) ∙ ap (drop (length text)) h ∙ drop_at text rest (length text) refl;
  within = omega (arith, length-drop at bytes, ap length h, length-append text rest);
}

-- a reader took the octets from one place to another
pub record Takes (bytes : List ℕ) (at : ℕ) (text : List ℕ) (after : ℕ) : Type 0 where
  pub whole : drop at bytes ≡ text ++ drop after bytes
  pub after_is : after ≡ at + length text
  pub within : after ≤ length bytes

pub takes_both : (bytes : List ℕ) (at mid after : ℕ) (a b : List ℕ) → Takes bytes at a mid → Takes bytes mid b after → Takes bytes at (a ++ b) after
takes_both bytes at mid after a b p q = record {
  whole = p.whole ∙ ap (λ (l : List ℕ). a ++ l) q.whole ∙ sym (append_assoc a b (drop after bytes));
  after_is = omega (arith, p.after_is, q.after_is, length-append a b);
  within = q.within;
}

-- ---- pieces

pub joined-append : (ps qs : List Piece) → joined (ps ++ qs) ≡ joined ps ++ joined qs
joined-append [] qs = refl
joined-append (p ∷ ps) qs = ap (λ (l : List ℕ). p.octets ++ l) (joined-append ps qs) ∙ sym (append_assoc p.octets (joined ps) (joined qs))

pub size-append : (ps qs : List Piece) → size_of (ps ++ qs) ≡ size_of ps + size_of qs
size-append ps qs = ap length (joined-append ps qs) ∙ length-append (joined ps) (joined qs)

-- a string's octets are those that stand there, up to the first wrong one
abbrev pub IsNear : Primitive → List ℕ → List ℕ → Type 0
IsNear (Letters n) octets rest = (i : ℕ) (more : List ℕ) → wrong_letter n (take (n + 1) rest) ≡ Some i → take i (octets ++ more) ≡ take i rest
IsNear _ octets rest = Unit {0}

-- a refusal of a piece that is as near as can be
abbrev pub IsCut : List Piece → ℕ → List ℕ → RecordFault → Type 0
IsCut ps at octets f = (c : IsRefusedAmong ps at octets f) × IsNear c.next.what c.next.octets c.rest

-- a refusal among the first pieces
pub cut_left : (ps qs : List Piece) (at : ℕ) (octets : List ℕ) (f : RecordFault) → IsCut ps at octets f → IsCut (ps ++ qs) at octets f
cut_left ps qs at octets f (c, near) = (
  record {
    front = c.front;
    next = c.next;
    back = c.back ++ qs;
    rest = c.rest;
    split = ap (λ (l : List Piece). l ++ qs) c.split ∙ append_assoc c.front (c.next ∷ c.back) qs;
    same = c.same;
    refused = c.refused;
  },
  near,
)

-- a refusal behind pieces that the octets have
pub cut_right : (ps qs : List Piece) (at : ℕ) (octets rest : List ℕ) (f : RecordFault) → octets ≡ joined ps ++ rest → IsCut qs (at + size_of ps) rest f → IsCut (ps ++ qs) at octets f
cut_right ps qs at octets rest f whole (c, near) = (
  record {
    front = ps ++ c.front;
    next = c.next;
    back = c.back;
    rest = c.rest;
    split = ap (λ (l : List Piece). ps ++ l) c.split ∙ sym (append_assoc ps c.front (c.next ∷ c.back));
    same = whole ∙ ap (λ (l : List ℕ). joined ps ++ l) c.same ∙ sym (append_assoc (joined ps) (joined c.front) c.rest) ∙ ap (λ (l : List ℕ). l ++ c.rest) (sym (joined-append ps c.front));
    refused = (let place : at + size_of ps + size_of c.front ≡ at + size_of (ps ++ c.front) = omega (arith, size-append ps c.front) in
        subst (λ (k : ℕ). refusal c.next.what k c.rest ≡ Some f) place c.refused);
  },
  near,
)

abbrev pub IsBehind : List Piece → List Piece → ℕ → List ℕ → RecordFault → Type 0
IsBehind ps qs at octets f = (rest : List ℕ) × (octets ≡ joined ps ++ rest) × IsRefusedAmong qs (at + size_of ps) rest f

-- a refusal is among the first pieces, or behind them
pub cut_split : (ps qs : List Piece) (at : ℕ) (octets : List ℕ) (f : RecordFault) → IsRefusedAmong (ps ++ qs) at octets f → IsRefusedAmong ps at octets f ⊎ IsBehind ps qs at octets f
cut_split ps qs at octets f c = by_front ps c.front at octets c.split c.same c.refused
  where
    by_front : (ps front : List Piece) (at : ℕ) (octets : List ℕ) → ps ++ qs ≡ front ++ c.next ∷ c.back → octets ≡ joined front ++ c.rest → refusal c.next.what (at + size_of front) c.rest ≡ Some f → IsRefusedAmong ps at octets f ⊎ IsBehind ps qs at octets f
    by_front [] front at octets split same refused =
        let here : at + 0 ≡ at = omega arith in
        inr (octets, refl, record { front = front; next = c.next; back = c.back; rest = c.rest; split = split; same = same; refused = subst (λ (k : ℕ). refusal c.next.what (k + size_of front) c.rest ≡ Some f) (sym here) refused })
    by_front (p ∷ ps) [] at octets split same refused =
        let is : c.next ≡ p = cc in
        inl (record { front = []; next = p; back = ps; rest = c.rest; split = refl; same = same; refused = subst (λ (q : Piece). refusal q.what (at + 0) c.rest ≡ Some f) is refused })
    by_front (p ∷ ps) (q ∷ front) at octets split same refused =
        let is : p ≡ q = cc in
        let tail : ps ++ qs ≡ front ++ c.next ∷ c.back = cc in
        let place : at + size_of (q ∷ front) ≡ at + length q.octets + size_of front = omega (arith, length-append q.octets (joined front)) in
        let deeper = by_front ps front (at + length q.octets) (joined front ++ c.rest) tail refl (subst (λ (k : ℕ). refusal c.next.what k c.rest ≡ Some f) place refused) in
        let whole : octets ≡ q.octets ++ (joined front ++ c.rest) = same ∙ append_assoc q.octets (joined front) c.rest in
        subst (λ (r : Piece). IsRefusedAmong (r ∷ ps) at octets f ⊎ IsBehind (r ∷ ps) qs at octets f) (sym is) (elim deeper [
          | inl d ↦ inl (record {
            front = q ∷ d.front;
            next = d.next;
            back = d.back;
            rest = d.rest;
            split = ap (λ (l : List Piece). q ∷ l) d.split;
            same = whole ∙ ap (λ (l : List ℕ). q.octets ++ l) d.same ∙ sym (append_assoc q.octets (joined d.front) d.rest);
            refused = (let there : at + length q.octets + size_of d.front ≡ at + size_of (q ∷ d.front) = omega (arith, length-append q.octets (joined d.front)) in
                subst (λ (k : ℕ). refusal d.next.what k d.rest ≡ Some f) there d.refused);
          })
          | inr b ↦ inr (
            b.0,
            whole ∙ ap (λ (l : List ℕ). q.octets ++ l) b.1 ∙ sym (append_assoc q.octets (joined ps) b.0),
            (let there : at + length q.octets + size_of ps ≡ at + size_of (q ∷ ps) = omega (arith, length-append q.octets (joined ps)) in
                subst (λ (k : ℕ). IsRefusedAmong qs k b.0 f) there b.2),
          )
        ])

-- ---- readers

-- a reader stopped at a primitive that some value has there
pub record Stops {A : Type 0} (spell : A → ℕ → List Piece) (Fits : A → Type 0) (bytes : List ℕ) (at : ℕ) (f : RecordFault) : Type 0 where
  pub value : A
  pub fits : Fits value
  pub cut : IsCut (spell value at) at (drop at bytes) f

-- what a reader owes to the pieces
pub record IsReader {A : Type 0} (read : Reader A) (spell : A → ℕ → List Piece) (Fits : A → Type 0) : Type 0 where
  pub some : A
  pub some_fits : Fits some
  pub takes : (bytes : List ℕ) (at : ℕ) (x : A) (after : ℕ) → AreOctets bytes → at ≤ length bytes → read bytes at ≡ Ok (x, after) → Fits x × Takes bytes at (joined (spell x at)) after
  pub reads : (bytes : List ℕ) (at : ℕ) (x : A) (rest : List ℕ) → at ≤ length bytes → Fits x → drop at bytes ≡ joined (spell x at) ++ rest → read bytes at ≡ Ok (x, at + size_of (spell x at))
  pub stops : (bytes : List ℕ) (at : ℕ) (f : RecordFault) → AreOctets bytes → at ≤ length bytes → read bytes at ≡ Err f → Stops spell Fits bytes at f
  pub refuses : (bytes : List ℕ) (at : ℕ) (x : A) (f : RecordFault) → at ≤ length bytes → Fits x → IsRefusedAmong (spell x at) at (drop at bytes) f → read bytes at ≡ Err f

-- nothing at all
pub nothing_law : {A : Type 0} (x : A) (Fits : A → Type 0) → Fits x → ((y : A) → Fits y → x ≡ y) → IsReader (λ bytes at. done (x, at)) (λ y at. []) Fits
nothing_law {A} x Fits fits only = record {
  some = x;
  some_fits = fits;
  takes = λ bytes at y after o le e.
      (let made : A × ℕ = (x, at) in
      subst (λ (m : A × ℕ). Fits m.0 × Takes bytes at [] m.1) (ok_is made (y, after) e) (fits, record { whole = refl; after_is = omega arith; within = le }));
  reads = λ bytes at y rest le f h.
      (let here : at ≡ at + 0 = omega arith in
      ap (λ (k : ℕ). done (x, k)) here ∙ ap (λ (z : A). done (z, at + 0)) (only y f));
  stops = λ bytes at f o le e. absurd cc;
  refuses = λ bytes at y f le fits cut. absurd (none_cut cut.front cut.next cut.back cut.split);
}
  where
    none_cut : (front : List Piece) (next : Piece) (back : List Piece) → [] ≡ front ++ next ∷ back → ⊥
    none_cut [] next back e = cc
    none_cut (p ∷ front) next back e = cc

-- a part, and a part that depends on it where the first ends, put together
pub both_law : {A B C : Type 0} (r1 : Reader A) (s1 : A → ℕ → List Piece) (F1 : A → Type 0) (r2 : A → Reader B) (s2 : A → B → ℕ → List Piece) (F2 : A → B → Type 0)
    (read : Reader C) (spell : C → ℕ → List Piece) (Fits : C → Type 0) (make : A → B → C)
    → IsReader r1 s1 F1 → ((x : A) → F1 x → IsReader (r2 x) (s2 x) (F2 x))
    → ((bytes : List ℕ) (at : ℕ) → read bytes at ≡ (r1 bytes at >>= λ x. r2 x.0 bytes x.1 >>= λ y. Ok (make x.0 y.0, y.1)))
    → ((x : A) (y : B) → F1 x → F2 x y → Fits (make x y) × ((at : ℕ) → spell (make x y) at ≡ followed (s1 x at) (s2 x y) at))
    → ((z : C) → Fits z → (x : A) × (y : B) × F1 x × F2 x y × (make x y ≡ z))
    → IsReader read spell Fits
both_law {A} {B} {C} r1 s1 F1 r2 s2 F2 read spell Fits make l1 l2 is forth back = record {
  some = make l1.some (l2 l1.some l1.some_fits).some;
  some_fits = (forth l1.some (l2 l1.some l1.some_fits).some l1.some_fits (l2 l1.some l1.some_fits).some_fits).0;
  takes = both_take;
  reads = both_read;
  stops = both_stop;
  refuses = both_refuse;
}
  where
    spelled : (x : A) (y : B) (at : ℕ) → F1 x → F2 x y → joined (spell (make x y) at) ≡ joined (s1 x at) ++ joined (s2 x y (at + size_of (s1 x at)))
    spelled x y at f1 f2 = ap joined ((forth x y f1 f2).1 at) ∙ joined-append (s1 x at) (s2 x y (at + size_of (s1 x at)))

    both_take : (bytes : List ℕ) (at : ℕ) (z : C) (after : ℕ) → AreOctets bytes → at ≤ length bytes → read bytes at ≡ Ok (z, after) → Fits z × Takes bytes at (joined (spell z at)) after
    both_take bytes at z after o le e =
        let a = bind_ok (r1 bytes at) (λ x. r2 x.0 bytes x.1 >>= λ y. Ok (make x.0 y.0, y.1)) (z, after) (sym (is bytes at) ∙ e) in
        let b = bind_ok (r2 a.0.0 bytes a.0.1) (λ y. Ok (make a.0.0 y.0, y.1)) (z, after) a.2 in
        let t = l1.takes bytes at a.0.0 a.0.1 o le a.1 in
        let u = (l2 a.0.0 t.0).takes bytes a.0.1 b.0.0 b.0.1 o t.1.within b.1 in
        let rest : Takes bytes a.0.1 (joined (s2 a.0.0 b.0.0 (at + size_of (s1 a.0.0 at)))) b.0.1 = subst (λ (k : ℕ). Takes bytes a.0.1 (joined (s2 a.0.0 b.0.0 k)) b.0.1) t.1.after_is u.1 in
        let all : Takes bytes at (joined (spell (make a.0.0 b.0.0) at)) b.0.1 = subst (λ (l : List ℕ). Takes bytes at l b.0.1) (sym (spelled a.0.0 b.0.0 at t.0 u.0)) (takes_both bytes at a.0.1 b.0.1 (joined (s1 a.0.0 at)) (joined (s2 a.0.0 b.0.0 (at + size_of (s1 a.0.0 at)))) t.1 rest) in
        let made : C × ℕ = (make a.0.0 b.0.0, b.0.1) in
        subst (λ (m : C × ℕ). Fits m.0 × Takes bytes at (joined (spell m.0 at)) m.1) (ok_is made (z, after) b.2) ((forth a.0.0 b.0.0 t.0 u.0).0, all)

    both_read : (bytes : List ℕ) (at : ℕ) (z : C) (rest : List ℕ) → at ≤ length bytes → Fits z → drop at bytes ≡ joined (spell z at) ++ rest → read bytes at ≡ Ok (z, at + size_of (spell z at))
    both_read bytes at z rest le fits h =
        let k = back z fits in
        let first = joined (s1 k.0 at) in
        let second = joined (s2 k.0 k.1 (at + size_of (s1 k.0 at))) in
        let whole : joined (spell z at) ≡ first ++ second = ap (λ (v : C). joined (spell v at)) (sym k.4) ∙ spelled k.0 k.1 at k.2 k.3 in
        let split : drop at bytes ≡ first ++ (second ++ rest) = h ∙ ap (λ (l : List ℕ). l ++ rest) whole ∙ append_assoc first second rest in
        let b = behind bytes at first (second ++ rest) le split in
        let one = l1.reads bytes at k.0 (second ++ rest) le k.2 split in
        let two = (l2 k.0 k.2).reads bytes (at + size_of (s1 k.0 at)) k.1 rest b.within k.3 b.rest_is in
        let end : at + length first + length second ≡ at + size_of (spell z at) = omega (arith, ap length whole, length-append first second) in
        is bytes at ∙ rw (one, two) (ap (λ (n : ℕ). done (make k.0 k.1, n)) end ∙ ap (λ (v : C). done (v, at + size_of (spell z at))) k.4)

    both_stop : (bytes : List ℕ) (at : ℕ) (f : RecordFault) → AreOctets bytes → at ≤ length bytes → read bytes at ≡ Err f → Stops spell Fits bytes at f
    both_stop bytes at f o le e = elim (bind_err (r1 bytes at) (λ x. r2 x.0 bytes x.1 >>= λ y. Ok (make x.0 y.0, y.1)) f (sym (is bytes at) ∙ e)) [
      | inl first ↦
          let s = l1.stops bytes at f o le first in
          let later = l2 s.value s.fits in
          let made = forth s.value later.some s.fits later.some_fits in
          record {
            value = make s.value later.some;
            fits = made.0;
            cut = subst (λ (ps : List Piece). IsCut ps at (drop at bytes) f) (sym (made.1 at)) (cut_left (s1 s.value at) (s2 s.value later.some (at + size_of (s1 s.value at))) at (drop at bytes) f s.cut);
          }
      | inr a ↦ elim (bind_err (r2 a.0.0 bytes a.0.1) (λ y. Ok (make a.0.0 y.0, y.1)) f a.2) [
        | inl second ↦
            let t = l1.takes bytes at a.0.0 a.0.1 o le a.1 in
            let s = (l2 a.0.0 t.0).stops bytes a.0.1 f o t.1.within second in
            let made = forth a.0.0 s.value t.0 s.fits in
            let there : IsCut (s2 a.0.0 s.value (at + size_of (s1 a.0.0 at))) (at + size_of (s1 a.0.0 at)) (drop a.0.1 bytes) f = subst (λ (k : ℕ). IsCut (s2 a.0.0 s.value k) k (drop a.0.1 bytes) f) t.1.after_is s.cut in
            record {
              value = make a.0.0 s.value;
              fits = made.0;
              cut = subst (λ (ps : List Piece). IsCut ps at (drop at bytes) f) (sym (made.1 at)) (cut_right (s1 a.0.0 at) (s2 a.0.0 s.value (at + size_of (s1 a.0.0 at))) at (drop at bytes) (drop a.0.1 bytes) f t.1.whole there);
            }
        | inr b ↦ absurd (let no : done (make a.0.0 b.0.0, b.0.1) ≡ Err f = b.2 in cc)
      ]
    ]

    both_refuse : (bytes : List ℕ) (at : ℕ) (z : C) (f : RecordFault) → at ≤ length bytes → Fits z → IsRefusedAmong (spell z at) at (drop at bytes) f → read bytes at ≡ Err f
    both_refuse bytes at z f le fits cut =
        let k = back z fits in
        let same : spell z at ≡ s1 k.0 at ++ s2 k.0 k.1 (at + size_of (s1 k.0 at)) = ap (λ (v : C). spell v at) (sym k.4) ∙ (forth k.0 k.1 k.2 k.3).1 at in
        let cut' = subst (λ (ps : List Piece). IsRefusedAmong ps at (drop at bytes) f) same cut in
        elim (cut_split (s1 k.0 at) (s2 k.0 k.1 (at + size_of (s1 k.0 at))) at (drop at bytes) f cut') [
          | inl c ↦ is bytes at ∙ rw (l1.refuses bytes at k.0 f le k.2 c) refl
          | inr c ↦
              let one = l1.reads bytes at k.0 c.0 le k.2 c.1 in
              let b = behind bytes at (joined (s1 k.0 at)) c.0 le c.1 in
              let there : IsRefusedAmong (s2 k.0 k.1 (at + size_of (s1 k.0 at))) (at + size_of (s1 k.0 at)) (drop (at + size_of (s1 k.0 at)) bytes) f = subst (λ (l : List ℕ). IsRefusedAmong (s2 k.0 k.1 (at + size_of (s1 k.0 at))) (at + size_of (s1 k.0 at)) l f) (sym b.rest_is) c.2 in
              let two = (l2 k.0 k.2).refuses bytes (at + size_of (s1 k.0 at)) k.1 f b.within k.3 there in
              is bytes at ∙ rw (one, two) refl
        ]

-- what was read, seen as another thing
pub seen_law : {A C : Type 0} (r : Reader A) (s : A → ℕ → List Piece) (F : A → Type 0) (read : Reader C) (spell : C → ℕ → List Piece) (Fits : C → Type 0) (make : A → C)
    → IsReader r s F
    → ((bytes : List ℕ) (at : ℕ) → read bytes at ≡ (r bytes at >>= λ x. Ok (make x.0, x.1)))
    → ((x : A) → F x → Fits (make x) × ((at : ℕ) → spell (make x) at ≡ s x at))
    → ((z : C) → Fits z → (x : A) × F x × (make x ≡ z))
    → IsReader read spell Fits
seen_law {A} {C} r s F read spell Fits make l is forth back = record {
  some = make l.some;
  some_fits = (forth l.some l.some_fits).0;
  takes = λ bytes at z after o le e.
      (let a = bind_ok (r bytes at) (λ x. Ok (make x.0, x.1)) (z, after) (sym (is bytes at) ∙ e) in
      let t = l.takes bytes at a.0.0 a.0.1 o le a.1 in
      let fo = forth a.0.0 t.0 in
      let made : C × ℕ = (make a.0.0, a.0.1) in
      subst (λ (m : C × ℕ). Fits m.0 × Takes bytes at (joined (spell m.0 at)) m.1) (ok_is made (z, after) a.2) (fo.0, subst (λ (ps : List Piece). Takes bytes at (joined ps) a.0.1) (sym (fo.1 at)) t.1));
  reads = λ bytes at z rest le fits h.
      (let k = back z fits in
      let same : spell z at ≡ s k.0 at = ap (λ (v : C). spell v at) (sym k.2) ∙ (forth k.0 k.1).1 at in
      let one = l.reads bytes at k.0 rest le k.1 (h ∙ ap (λ (ps : List Piece). joined ps ++ rest) same) in
      is bytes at ∙ rw one (ap (λ (v : C). done (v, at + size_of (s k.0 at))) k.2 ∙ ap (λ (ps : List Piece). done (z, at + size_of ps)) (sym same)));
  stops = λ bytes at f o le e. elim (bind_err (r bytes at) (λ x. Ok (make x.0, x.1)) f (sym (is bytes at) ∙ e)) [
    | inl first ↦
        let t = l.stops bytes at f o le first in
        let fo = forth t.value t.fits in
        record { value = make t.value; fits = fo.0; cut = subst (λ (ps : List Piece). IsCut ps at (drop at bytes) f) (sym (fo.1 at)) t.cut }
    | inr b ↦ absurd (let no : done (make b.0.0, b.0.1) ≡ Err f = b.2 in cc)
  ];
  refuses = λ bytes at z f le fits cut.
      (let k = back z fits in
      let same : spell z at ≡ s k.0 at = ap (λ (v : C). spell v at) (sym k.2) ∙ (forth k.0 k.1).1 at in
      is bytes at ∙ rw (l.refuses bytes at k.0 f le k.1 (subst (λ (ps : List Piece). IsRefusedAmong ps at (drop at bytes) f) same cut)) refl);
}
