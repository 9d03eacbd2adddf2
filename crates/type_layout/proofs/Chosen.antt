-- The members of a key, one by one.
use Rattle.std.proofs.Common.{ℕ, ◌≡◌, ◌+◌, ◌<◌, ◌≤◌, subst, append_assoc, List, [], ◌∷◌, ◌++◌, length, map, drop, get_or, Option, Some, None, Bool, true, false, refl, sym, ap, ◌∙◌, arith}
use Rattle.std.specs.Prelude.{◌&&◌, nat_le}
use Rattle.std.specs.List.{slice_get, flat_map, list_all}
use Rattle.std.specs.Option.{option_to_list}
use Rattle.std.proofs.lemmas.Bool.Decides.{nat_tests}
use Rattle.std.proofs.lemmas.List.{drop_all, drop_more}
use Rattle.std.proofs.lemmas.List.Concat.{flat_map-cons}
use Rattle.std.proofs.lemmas.Option.{slice_get-get_or}
use Rattle.type_layout.specs.declared.key.KeyNo.{KeyNo}
use Rattle.type_layout.specs.declared.key.Key.{Key}
use Rattle.type_layout.specs.declared.schema.Schema.{Schema}
use Rattle.type_layout.specs.Types.{Short, PlainValue, PlainMember}
use Rattle.type_layout.specs.Values.{Of, IsRecord}
use Rattle.type_layout.specs.Schemas.{given, key_at, members_at}
use Rattle.type_layout.specs.Keys.{key_part, part_at, key_bytes, chosen, parts, value_bytes, HasValues}
use Rattle.type_layout.specs.Sound.{IsSoundSchema}
use Rattle.type_layout.proofs.Lookups.{drop_got}

pub chosen-cons : (ms : List PlainMember) (i : ℕ) (is : List ℕ) (o : Option PlainMember) → slice_get ms i ≡ o → chosen ms (i ∷ is) ≡ option_to_list o ++ chosen ms is
chosen-cons ms i is o there = flat_map-cons (λ i. option_to_list (slice_get ms i)) i is ∙ ap (λ (p : Option PlainMember). option_to_list p ++ chosen ms is) there

-- behind the first n numbers
chosen_more : (ms : List PlainMember) (is : List ℕ) (n : ℕ) (o : Option PlainMember) → n < length is → slice_get ms (get_or is n 0) ≡ o → chosen ms (drop n is) ≡ option_to_list o ++ chosen ms (drop (n + 1) is)
chosen_more ms is n o lt there = ap (chosen ms) (drop_more is n 0 lt) ∙ chosen-cons ms (get_or is n 0) (drop (n + 1) is) o there

-- these values are left for the members behind the first n numbers, and with their parts the bytes are `all`
abbrev pub IsLeft : List PlainMember → List ℕ → ℕ → List PlainValue → List ℕ → List ℕ → Type 0
IsLeft ms is n vs bytes all = IsRecord (chosen ms (drop n is)) vs × (bytes ++ parts (chosen ms (drop n is)) vs ≡ all)

-- the same of members that are equal to those
LeftFor : List PlainMember → List PlainValue → List ℕ → List ℕ → Type 0
LeftFor cs vs bytes all = IsRecord cs vs × (bytes ++ parts cs vs ≡ all)

pub skipped : (ms : List PlainMember) (is : List ℕ) (n : ℕ) (vs : List PlainValue) (bytes all : List ℕ) → n < length is → slice_get ms (get_or is n 0) ≡ None → IsLeft ms is n vs bytes all → IsLeft ms is (n + 1) vs bytes all
unfolding LeftFor
skipped ms is n vs bytes all lt none left = subst (λ (cs : List PlainMember). LeftFor cs vs bytes all) (chosen_more ms is n None lt none) left

-- the first of the values is of its member's type
one_left : (ms : List PlainMember) (is : List ℕ) (n : ℕ) (m : PlainMember) (vs ws : List PlainValue) (bytes all : List ℕ) → n < length is → slice_get ms (get_or is n 0) ≡ Some m → vs ≡ ws → IsLeft ms is n vs bytes all → LeftFor (m ∷ chosen ms (drop (n + 1) is)) ws bytes all
unfolding LeftFor
one_left ms is n m vs ws bytes all lt there same left =
    subst (λ (l : List PlainValue). LeftFor (m ∷ chosen ms (drop (n + 1) is)) l bytes all) same (subst (λ (cs : List PlainMember). LeftFor cs vs bytes all) (chosen_more ms is n (Some m) lt there) left)

pub first_fits : (ms : List PlainMember) (is : List ℕ) (n : ℕ) (m : PlainMember) (vs : List PlainValue) (p : ℕ) (v : PlainValue) (bytes all : List ℕ) → n < length is → slice_get ms (get_or is n 0) ≡ Some m → slice_get vs p ≡ Some v → IsLeft ms is n (drop p vs) bytes all → Of m.type v
unfolding LeftFor
first_fits ms is n m vs p v bytes all lt there here left = (one_left ms is n m (drop p vs) (v ∷ drop (p + 1) vs) bytes all lt there (drop_got vs p v here) left).0.0

pub none_missing : (ms : List PlainMember) (is : List ℕ) (n : ℕ) (m : PlainMember) (vs : List PlainValue) (p : ℕ) (bytes all : List ℕ) → n < length is → slice_get ms (get_or is n 0) ≡ Some m → length vs ≤ p → IsLeft ms is n (drop p vs) bytes all → ⊥
unfolding LeftFor
none_missing ms is n m vs p bytes all lt there past left = (one_left ms is n m (drop p vs) [] bytes all lt there (drop_all p vs past) left).0

pub one_put : (ms : List PlainMember) (is : List ℕ) (n : ℕ) (m : PlainMember) (vs : List PlainValue) (p : ℕ) (v : PlainValue) (bytes new all : List ℕ) → n < length is → slice_get ms (get_or is n 0) ≡ Some m → slice_get vs p ≡ Some v → new ≡ bytes ++ key_part m.type v → IsLeft ms is n (drop p vs) bytes all → IsLeft ms is (n + 1) (drop (p + 1) vs) new all
unfolding LeftFor
one_put ms is n m vs p v bytes new all lt there here put left =
    let now = one_left ms is n m (drop p vs) (v ∷ drop (p + 1) vs) bytes all lt there (drop_got vs p v here) left in
    let behind = parts (chosen ms (drop (n + 1) is)) (drop (p + 1) vs) in
    (now.0.1, ap (λ (l : List ℕ). l ++ behind) put ∙ append_assoc bytes (key_part m.type v) behind ∙ now.1)

both_true : (a b : Bool) → (a && b) ≡ true → (a ≡ true) × (b ≡ true)
both_true true b h = (refl, h)
both_true false b h = absurd cc

parts_alike : (ms : List PlainMember) (us : List PlainValue) (is : List ℕ) (vs : List PlainValue) → list_all (λ i. nat_le (i + 1) (length ms)) is ≡ true → map (slice_get us) is ≡ map Some vs → flat_map (part_at ms us) is ≡ parts (chosen ms is) vs
parts_alike ms us [] [] inside h = refl
parts_alike ms us [] (v ∷ vs) inside h = absurd cc
parts_alike ms us (i ∷ is) [] inside h = absurd cc
parts_alike ms us (i ∷ is) (v ∷ vs) inside h =
    let first : slice_get us i ≡ Some v = cc in
    let others : map (slice_get us) is ≡ map Some vs = cc in
    let both = both_true (nat_le (i + 1) (length ms)) (list_all (λ i. nat_le (i + 1) (length ms)) is) inside in
    let le = both.0 in
    let lt : i < length ms = grind (arith, nat_tests) in
    let there : slice_get ms i ≡ Some (get_or ms i (record { name = []; type = Short; readonly = false })) = slice_get-get_or ms i _ lt in
    let rest = parts_alike ms us is vs both.1 others in
    flat_map-cons (part_at ms us) i is
    ∙ (λ a. given (there a) [] (λ m. given (first a) [] (λ v. key_part m.type v)) ++ rest a)
    ∙ sym (ap (λ (l : List PlainMember). parts l (v ∷ vs)) (chosen-cons ms i is _ there))

pub key_values_tell : (S : Schema) → IsSoundSchema S → (k : KeyNo) (key : Key) → key_at S k ≡ Some key → (us vs : List PlainValue) → HasValues us key.members vs → key_bytes S k us ≡ value_bytes S k vs
key_values_tell S sound k key at us vs h =
    ap (λ (o : Option Key). given o [] (λ found. flat_map (part_at (members_at S found.home) us) found.members)) at
    ∙ parts_alike (members_at S key.home) us key.members vs (sound.key_members k key at).0 h
    ∙ sym (ap (λ (o : Option Key). parts (given o [] (λ found. chosen (members_at S found.home) found.members)) vs) at)
