-- Where a value stands in a text, and what is read there.
use Rattle.std.proofs.Common.{◌≡◌, ℕ, ◌+◌, ◌-◌, ◌≤◌, Bool, true, false, List, [], ◌∷◌, ◌++◌, length, take, drop, cond, Option, Some, None, refl, sym, ap, subst, ◌∙◌, arith, length-append, eqb}
use Rattle.std.specs.Prelude.{◌||◌, ◌&&◌, IsTrue, ◌↔◌}
use Rattle.std.proofs.lemmas.Bool.{eqb-true}
use Rattle.std.proofs.lemmas.List.{take_at, drop_at, drop-drop, length-drop, take-append-drop}
use Rattle.std.proofs.Math.Seq.{take-length}
use Rattle.type_layout.specs.Types.{PlainType, PlainValue}
use Rattle.type_layout.specs.Values.{Of}
use Rattle.type_layout.specs.Sound.{IsSound}
use Rattle.type_layout.specs.Testing.{is_of}
use Rattle.type_layout.proofs.OfType.{type_tells}
use Rattle.value_text.specs.declared.fault.ValueFault.{ValueFault}
use Rattle.value_text.specs.declared.fault.ValueFault.TheVariants.{BadValue, NoMemory}
use Rattle.value_text.specs.Texts.{Spells, is_at_end, Stands}
use Rattle.value_text.specs.Laws.{SpellsOneValue, OneStands, SpellingStands, WhatStandsIsRead}
use Rattle.value_text.specs.Reading.{◌>>=◌, Fails, value_at}
use Rattle.value_text.specs.Line.{one_value}
use Rattle.value_text.proofs.Owing.{stops, pair_is, bind_some, let_through, both_true}
use Rattle.value_text.proofs.ValueLaws.{value_takes, value_reads}

-- a blank ends a word
stops_at_end : (rest : List ℕ) → is_at_end rest ≡ true → stops rest ≡ true
stops_at_end [] h = refl
stops_at_end (b ∷ rest) h = by_tests (eqb b 32) refl (eqb b 9) refl h
  where
    by_tests : (s : Bool) → eqb b 32 ≡ s → (t : Bool) → eqb b 9 ≡ t → (s || t) ≡ true → stops (b ∷ rest) ≡ true
    by_tests true space t tab h = (let is : b ≡ 32 = eqb-true b 32 space in ap (λ (k : ℕ). stops (k ∷ rest)) is)
    by_tests false space true tab h = (let is : b ≡ 9 = eqb-true b 9 tab in ap (λ (k : ℕ). stops (k ∷ rest)) is)
    by_tests false space false tab h = absurd cc

-- a text that has a front, from a place on
record Cut (text : List ℕ) (at : ℕ) (front rest : List ℕ) : Type 0 where
  begins : at ≤ at + length front
  within : at + length front ≤ length text
  rest_is : drop (at + length front) text ≡ rest
  front_is : take (at + length front - at) (drop at text) ≡ front
  end_is : length text - length rest ≡ at + length front
  shorter : length rest ≤ length text

cut : (text : List ℕ) (at : ℕ) (front rest : List ℕ) → at ≤ length text → drop at text ≡ front ++ rest → Cut text at front rest
cut text at front rest le split =
    let sizes : length text ≡ at + length front + length rest = omega (arith, length-drop at text, ap length split, length-append front rest) in
    let size : length front ≡ at + length front - at = omega arith in
    record {
      begins = omega arith;
      within = omega arith;
      rest_is = sym (drop-drop (length front) at text) ∙ ap (drop (length front)) split ∙ drop_at front rest (length front) refl;
      front_is = ap (take (at + length front - at)) split ∙ take_at front rest (at + length front - at) size;
      end_is = omega arith;
      shorter = omega arith;
    }

-- what is behind a value that was read
pub read_shorter : (t : PlainType) (text : List ℕ) (v : PlainValue) (rest : List ℕ) → value_at t text ≡ Some (v, rest) → length rest ≤ length text
read_shorter t text v rest e =
    let took = value_takes t text v rest e in
    (cut text 0 took.front rest (omega arith) took.split).shorter

-- a program's test whether a value is of a type
pub test_is : (result : Bool) (t : PlainType) (v : PlainValue) → (IsTrue result ↔ Of t v) → result ≡ is_of t v
test_is true t v tells = sym ((type_tells t v).1 (tells.0 refl))
test_is false t v tells = by_test (is_of t v) refl
  where
    by_test : (b : Bool) → is_of t v ≡ b → false ≡ b
    by_test true same = tells.1 ((type_tells t v).0 same)
    by_test false same = refl

-- a value at the front that ends at a blank or the end, and is of the type
abbrev whole : PlainType → PlainValue × List ℕ → Option (PlainValue × List ℕ)
whole t x = cond (is_at_end x.1 && is_of t x.0) (Some x) None

pub one_is : (t : PlainType) (text : List ℕ) (v : PlainValue) (rest : List ℕ) → one_value t text ≡ Some (v, rest) → (value_at t text ≡ Some (v, rest)) × (is_at_end rest ≡ true) × Of t v
one_is t text v rest e =
    let b = bind_some (value_at t text) (whole t) (v, rest) e in
    let through = let_through (is_at_end b.0.1 && is_of t b.0.0) b.0 (v, rest) b.2 in
    let tests = both_true (is_at_end b.0.1) (is_of t b.0.0) through.0 in
    subst (λ (m : PlainValue × List ℕ). (value_at t text ≡ Some m) × (is_at_end m.1 ≡ true) × Of t m.0) through.1 (b.1, tests.0, (type_tells t b.0.0).0 tests.1)

-- such a value stands there
pub stands_there : (t : PlainType) (text : List ℕ) (at : ℕ) (v : PlainValue) (rest : List ℕ) → at ≤ length text → one_value t (drop at text) ≡ Some (v, rest) → Stands t text at v (length text - length rest)
stands_there t text at v rest le e =
    let one = one_is t (drop at text) v rest e in
    let took = value_takes t (drop at text) v rest one.0 in
    let k = cut text at took.front rest le took.split in
    subst (λ (end : ℕ). Stands t text at v end) (sym k.end_is) (record {
      begins = k.begins;
      within = k.within;
      ends = ap is_at_end k.rest_is ∙ one.1;
      spells = subst (λ (l : List ℕ). Spells t v l) (sym k.front_is) (one.2, took.written);
    })

-- what stands there is read
pub read_there : (t : PlainType) → IsSound t → (text : List ℕ) (at : ℕ) (v : PlainValue) (end : ℕ) → Stands t text at v end → value_at t (drop at text) ≡ Some (v, drop end text)
read_there t sound text at v end stands =
    let front = take (end - at) (drop at text) in
    let sum : at + (end - at) ≡ end = omega (arith, stands.begins) in
    let rest : drop (end - at) (drop at text) ≡ drop end text = drop-drop (end - at) at text ∙ ap (λ (n : ℕ). drop n text) sum in
    let split : drop at text ≡ front ++ drop end text = sym (take-append-drop (end - at) (drop at text)) ∙ ap (λ (l : List ℕ). front ++ l) rest in
    ap (value_at t) split ∙ value_reads t sound v front (drop end text) stands.spells (stops_at_end (drop end text) stands.ends)

both_hold : (a b : Bool) → a ≡ true → b ≡ true → (a && b) ≡ true
both_hold true b ha hb = hb
both_hold false b ha hb = ha

pub one_there : (t : PlainType) → IsSound t → (text : List ℕ) (at : ℕ) (v : PlainValue) (end : ℕ) → Stands t text at v end → one_value t (drop at text) ≡ Some (v, drop end text)
one_there t sound text at v end stands =
    let tests = both_hold (is_at_end (drop end text)) (is_of t v) stands.ends ((type_tells t v).1 stands.spells.0) in
    ap (λ (r : Option (PlainValue × List ℕ)). r >>= whole t) (read_there t sound text at v end stands) ∙ ap (λ (b : Bool). cond b (Some (v, drop end text)) None) tests

-- a reading of what stands there failed for want of memory alone
pub only_memory : (e : ValueFault) (t : PlainType) → IsSound t → (text : List ℕ) (at : ℕ) (v : PlainValue) (end : ℕ) → Stands t text at v end → Fails e (one_value t (drop at text)) → e ≡ NoMemory
only_memory NoMemory t sound text at v end stands fails = refl
only_memory BadValue t sound text at v end stands fails = absurd (let no : None ≡ Some (v, drop end text) = sym fails ∙ one_there t sound text at v end stands in cc)

-- what was read is what stands there
pub same_there : (t : PlainType) → IsSound t → (text : List ℕ) (at : ℕ) (v : PlainValue) (end : ℕ) → Stands t text at v end → (w : PlainValue) (rest : List ℕ) → one_value t (drop at text) ≡ Some (w, rest) → (w ≡ v) × (rest ≡ drop end text)
same_there t sound text at v end stands w rest e =
    pair_is w v rest (drop end text) (sym e ∙ one_there t sound text at v end stands)

-- a text from a place on, as a slice of it is
pub from_place : (text : List ℕ) (at : ℕ) → take (length text - at) (drop at text) ≡ drop at text
from_place text at = ap (λ (n : ℕ). take n (drop at text)) (sym (length-drop at text)) ∙ take-length (drop at text)

-- where the rest begins
pub same_end : (text : List ℕ) (end : ℕ) (rest : List ℕ) → end ≤ length text → rest ≡ drop end text → length text - length rest ≡ end
same_end text end rest le is = omega (arith, ap length is, length-drop end text)

-- ---- laws

pub one_is_spelled : SpellsOneValue
one_is_spelled t sound u v text su sv =
    let one = value_reads t sound u text [] su refl in
    let other = value_reads t sound v text [] sv refl in
    let none : List ℕ = [] in
    (pair_is u v none none (sym one ∙ other)).0

pub one_stands : OneStands
one_stands t sound u v text at m n su sv =
    let same = same_there t sound text at v n sv u (drop m text) (one_there t sound text at u m su) in
    (same.0, sym (same_end text m (drop m text) su.within refl) ∙ same_end text n (drop m text) sv.within same.1)

pub spelling_is_there : SpellingStands
spelling_is_there t v text s front back ends =
    let whole = front ++ (text ++ back) in
    let split : drop (length front) whole ≡ text ++ back = drop_at front (text ++ back) (length front) refl in
    let k = cut whole (length front) text back (omega (arith, length-append front (text ++ back))) split in
    record {
      begins = k.begins;
      within = k.within;
      ends = ap is_at_end k.rest_is ∙ ends;
      spells = subst (λ (l : List ℕ). Spells t v l) (sym k.front_is) s;
    }

pub what_stands : WhatStandsIsRead
what_stands t sound text at le v end within =
    (one_there t sound text at v end, λ e. subst (λ (n : ℕ). Stands t text at v n) (same_end text end (drop end text) within refl) (stands_there t text at v (drop end text) le e))
