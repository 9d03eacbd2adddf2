-- Records: defaults, values that are read, and members that are set.
use Rattle.std.proofs.Common.{arith, ◌≡◌, ℕ, zero, suc, ◌<◌, ◌+◌, Bool, true, false, cond, ◌==◌, ◌&&◌, List, [], ◌∷◌, ◌++◌, length, Option, Some, None, refl, sym, subst}
use Rattle.std.specs.Prelude.{IsSome, Result, Ok, Err, ◌-◌, nat_le, slice_set, if◌then◌else◌}
use Rattle.std.specs.List.{slice_get, prefix_len, list_all}
use Rattle.std.specs.Option.{option_to_list}
use Rattle.std.proofs.lemmas.Bool.Decides.{nat_tests}
use Rattle.type_layout.specs.Types.{PlainType, Short, Long, LongLong, UShort, ULong, ULongLong, Char, Boolean, Octet, Str, Seq, Arr, Struct, Enum, RefTo, PlainFields, no_fields, field_and, PlainValue, PlainMember}
use Rattle.type_layout.specs.Values.{count, EachOf, is_over, Of, AreOf, IsRecord}
use Rattle.type_layout.specs.Testing.{is_of}
use Rattle.type_layout.specs.Sound.{IsSound, AreSound, IsSoundLayout}
use Rattle.type_layout.specs.Defaults.{copies, default, defaults, default_record}
use Rattle.type_layout.specs.Keys.{chosen}
use Rattle.type_layout.proofs.OfType.{type_tells}
use Rattle.value_text.specs.Texts.{is_at_end}
use Rattle.pss_base.specs.Blanks.{is_blank, behind_blanks}
use Rattle.value_text.specs.Reading.{◌>>=◌, value_at, given as picked}
use Rattle.value_text.specs.Line.{one_value, and_then, values_from}
use Rattle.pss_machine.specs.declared.command.Rest.{Rest}
use Rattle.pss_machine.specs.declared.reply.Reply.TheVariants as reply
use Rattle.pss_machine.specs.Values.{values_in, types_of, with_values}
use Rattle.pss_machine.specs.Asking.{read_values}
use Rattle.pss_laws.proofs.Logic.{unlike, and_left, and_right}
use Rattle.pss_laws.proofs.Coming.{Okay}
use Rattle.pss_laws.proofs.Asking.{within_list}

-- ---- defaults

over_none : (bound : ℕ) → is_over bound 0 ≡ false
over_none bound = grind (arith, nat_tests)

each_copy : (P : PlainValue → Type 0) (n : ℕ) (v : PlainValue) → P v → EachOf P (copies n v)
each_copy P zero v h = tt
each_copy P (suc n) v h = (h, each_copy P n v h)

count_copies : (n : ℕ) (v : PlainValue) → count (copies n v) ≡ n
count_copies zero v = refl
count_copies (suc n) v = (let rest = count_copies n v in omega arith)

mutual
  default_is : (t : PlainType) → IsSound t → Of t (default t)
  default_is Short sound = (type_tells Short (default Short)).0 refl
  default_is Long sound = (type_tells Long (default Long)).0 refl
  default_is LongLong sound = (type_tells LongLong (default LongLong)).0 refl
  default_is UShort sound = (type_tells UShort (default UShort)).0 refl
  default_is ULong sound = (type_tells ULong (default ULong)).0 refl
  default_is ULongLong sound = (type_tells ULongLong (default ULongLong)).0 refl
  default_is Char sound = (type_tells Char (default Char)).0 refl
  default_is Boolean sound = tt
  default_is Octet sound = (type_tells Octet (default Octet)).0 refl
  default_is (Str bound) sound = (refl, over_none bound, omega arith, refl)
  default_is (Seq item bound) sound = (tt, over_none bound, omega arith)
  default_is (Arr item n) sound = (each_copy (Of item) n (default item) (default_is item sound.2), count_copies n (default item))
  default_is (Struct fields) sound = defaults_are fields sound.1
  default_is (Enum names) sound = (sound.0, omega arith)
  default_is (RefTo homes) sound = tt

  defaults_are : (fields : PlainFields) → AreSound fields → AreOf fields (defaults fields)
  defaults_are no_fields sound = tt
  defaults_are (field_and name type fields) sound = (default_is type sound.0, defaults_are fields sound.1)

pub default_fits : (members : List PlainMember) → IsSoundLayout members → IsRecord members (default_record members)
default_fits [] sound = tt
default_fits (m ∷ members) sound = (default_is m.type (sound 0 m refl), default_fits members (λ i n at. sound (suc i) n at))

-- ---- a member that is set

pub set_record : (members : List PlainMember) (values : List PlainValue) (i : ℕ) (m : PlainMember) (v : PlainValue) → IsRecord members values → slice_get members i ≡ Some m → Of m.type v → IsRecord members (slice_set values i v)
set_record [] [] i m v fits at of = tt
set_record [] (x ∷ values) i m v fits at of = absurd fits
set_record (n ∷ members) [] i m v fits at of = absurd fits
set_record (n ∷ members) (x ∷ values) zero m v fits at of = (let same : n ≡ m = cc in subst (λ (k : PlainMember). Of k.type v) (sym same) of, fits.1)
set_record (n ∷ members) (x ∷ values) (suc i) m v fits at of = (fits.0, set_record members values i m v fits.1 at of)

-- ---- values that are read

abbrev pub AllOf : List PlainType → List PlainValue → Type 0
AllOf [] [] = Unit {0}
AllOf [] (v ∷ vs) = ⊥
AllOf (t ∷ ts) [] = ⊥
AllOf (t ∷ ts) (v ∷ vs) = Of t v × AllOf ts vs

pub all_record : (members : List PlainMember) (vs : List PlainValue) → AllOf (types_of members) vs → IsRecord members vs
all_record [] [] h = tt
all_record [] (v ∷ vs) h = absurd h
all_record (m ∷ members) [] h = absurd h
all_record (m ∷ members) (v ∷ vs) h = (h.0, all_record members vs h.1)

one_of_type : (t : PlainType) (text : List ℕ) (x : PlainValue × List ℕ) → one_value t text ≡ Some x → Of t x.0
one_of_type t text x e = by_read (value_at t text) e
  where
    by_test : (y : PlainValue × List ℕ) (b : Bool) → (is_at_end y.1 && is_of t y.0) ≡ b → cond b (Some y) None ≡ Some x → Of t x.0
    by_test y true is e = (let same : y ≡ x = cc in subst (λ (z : PlainValue × List ℕ). Of t z.0) same ((type_tells t y.0).0 (and_right (is_at_end y.1) (is_of t y.0) is)))
    by_test y false is e = absurd cc

    by_read : (o : Option (PlainValue × List ℕ)) → (o >>= λ x. if is_at_end x.1 && is_of t x.0 then Some x else None) ≡ Some x → Of t x.0
    by_read None e = absurd cc
    by_read (Some y) e = by_test y (is_at_end y.1 && is_of t y.0) refl e

-- what was read of each is of its type
abbrev Reads : List PlainType → Result (List PlainValue) ℕ → Type 0
Reads types (Ok vs) = AllOf types vs
Reads types (Err column) = Unit {0}

front_reads : (t : PlainType) (ts : List PlainType) (v : PlainValue) (r : Result (List PlainValue) ℕ) → Of t v → Reads ts r → Reads (t ∷ ts) (and_then r (λ vs. Ok (v ∷ vs)))
front_reads t ts v (Ok vs) of h = (of, h)
front_reads t ts v (Err column) of h = tt

from_reads : (types : List PlainType) (column : ℕ) (text : List ℕ) → Reads types (values_from types column text)
from_reads [] column text = by_test (length (behind_blanks text) == 0)
  where
    by_test : (b : Bool) → Reads [] (if b then Ok [] else Err (column + prefix_len is_blank text))
    by_test true = tt
    by_test false = tt
from_reads (t ∷ ts) column text = by_value (one_value t (behind_blanks text)) refl (λ c x. from_reads ts c x)
  where
    by_value : (o : Option (PlainValue × List ℕ)) → one_value t (behind_blanks text) ≡ o → ((c : ℕ) (x : List ℕ) → Reads ts (values_from ts c x))
        → Reads (t ∷ ts) (and_then (picked o (Err (column + prefix_len is_blank text)) (λ x. Ok x)) (λ x. and_then (values_from ts (column + length text - length x.1) x.1) (λ vs. Ok (x.0 ∷ vs))))
    by_value None e rest = tt
    by_value (Some x) e rest = front_reads t ts x.0 (values_from ts (column + length text - length x.1) x.1) (one_of_type t (behind_blanks text) x e) (rest (column + length text - length x.1) x.1)

pub read_fits : (types : List PlainType) (rest : Rest) → Okay (AllOf types) (read_values types rest)
read_fits types rest = by_result (values_in types rest) refl (from_reads types rest.column rest.text)
  where
    by_result : (r : Result (List PlainValue) ℕ) → values_in types rest ≡ r → Reads types (values_from types rest.column rest.text) → Okay (AllOf types) (read_values types rest)
    by_result (Ok vs) e h = (let is : read_values types rest ≡ Ok vs = rw e refl in subst (Okay (AllOf types)) (sym is) (subst (Reads types) e h))
    by_result (Err column) e h = (let is : read_values types rest ≡ Err (reply.BadValue column) = rw e refl in subst (Okay (AllOf types)) (sym is) tt)

-- members with numbers that are there have the values that are given for them
pub made_fits : (members : List PlainMember) (is : List ℕ) (vs values : List PlainValue) → list_all (λ i. nat_le (i + 1) (length members)) is ≡ true → AllOf (types_of (chosen members is)) vs → IsRecord members values → IsRecord members (with_values is vs values)
made_fits members [] vs values there all fits = fits
made_fits members (i ∷ is) vs values there all fits = by_member (slice_get members i) refl all (λ values vs all fits. made_fits members is vs values (and_right (nat_le (i + 1) (length members)) (list_all (λ i. nat_le (i + 1) (length members)) is) there) all fits)
  where
    less : (i n : ℕ) → nat_le (i + 1) n ≡ true → i < n
    less i n e = grind (arith, nat_tests)

    is_there : IsSome (slice_get members i)
    is_there = within_list members i (less i (length members) (and_left (nat_le (i + 1) (length members)) (list_all (λ i. nat_le (i + 1) (length members)) is) there))

    by_values : (m : PlainMember) → slice_get members i ≡ Some m → (vs : List PlainValue) → AllOf (m.type ∷ types_of (chosen members is)) vs
        → ((values vs : List PlainValue) → AllOf (types_of (chosen members is)) vs → IsRecord members values → IsRecord members (with_values is vs values)) → IsRecord members (with_values (i ∷ is) vs values)
    by_values m at [] all rest = absurd all
    by_values m at (v ∷ vs) all rest = rest (slice_set values i v) vs all.1 (set_record members values i m v fits at all.0)

    by_member : (o : Option PlainMember) → slice_get members i ≡ o → AllOf (types_of (option_to_list o ++ chosen members is)) vs
        → ((values vs : List PlainValue) → AllOf (types_of (chosen members is)) vs → IsRecord members values → IsRecord members (with_values is vs values)) → IsRecord members (with_values (i ∷ is) vs values)
    by_member None at all rest = unlike (subst IsSome at is_there)
    by_member (Some m) at all rest = by_values m at vs all rest
