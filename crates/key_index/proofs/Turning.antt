-- How the map and the set follow the slots.
use Rattle.std.proofs.Common.{ℕ, zero, suc, ◌≡◌, List, [], ◌∷◌, Option, Some, None, Bool, true, false, cond, refl, sym, ap, ◌∙◌, IsSome, OnOk, IfOk, Result, Ok, Err, slice_get, rules}
use Rattle.std.specs.Ordering.{nat_cmp}
use Rattle.std.specs.Prelude.{◌||◌, ◌&&◌, ◌++◌, not}
use Rattle.std.specs.List.{filter}
use Rattle.std.specs.Cmp.Lexicographic.{slice_cmp, texts_ties, nat_list_cmp_total, nat_list_eq_equiv}
use Rattle.std.specs.Str.{bytes_eq}
use Rattle.std.specs.Map.{KeepsOthers, lookup_key, values_of}
use Rattle.std.specs.Option.{option_map, unwrap_or}
use Rattle.std.proofs.lemmas.Map.Entries.{lookup-filter-keys}
use Rattle.std.proofs.lemmas.Map.Made.{lookup_key_passes}
use Rattle.indexmap.specs.IndexMap.{IndexMap, IsUnique, values, with_value_at}
use Rattle.indexmap.proofs.CallerLemmas.{updates-with_value_at}
use Rattle.std.proofs.lemmas.Slice.Eq.{bytes_eq-Decides}
use Rattle.std.specs.declared.vec.Vec.{Vec}
use Rattle.std.specs.FinMap as map
use Rattle.std.specs.FinSet as set
use Rattle.std.specs.FinMap.{nat_cmp-IsAntisymmetric, slice_cmp-IsAntisymmetric}
use Rattle.key_index.specs.declared.slots.Slot.{Slot}
use Rattle.key_index.specs.Slots.{slot_at, key_at, long_slot, is_short, bytes_of, joined, Turns, held_of, reserved_of, with_held, with_reserved, serial_of, is_reserved, serial_at, is_reserved_at}

same_bytes : (xs ys : List ℕ) → bytes_eq xs ys ≡ true → xs ≡ ys
same_bytes xs ys h = (bytes_eq-Decides xs ys).0 h

bytes_swap : (xs ys : List ℕ) → bytes_eq xs ys ≡ bytes_eq ys xs
bytes_swap xs ys = nat_list_eq_equiv.symm xs ys

by_test : (P : Bool → Type 0) (b : Bool) → (b ≡ true → P true) → (b ≡ false → P false) → P b
by_test P true f g = f refl
by_test P false f g = g refl

slot-bytes_of : {Z : Type 0} (q : List ℕ) (es : List (Vec ℕ Z × Slot)) → slot_at q (bytes_of es) ≡ long_slot q es
slot-bytes_of q [] = refl
slot-bytes_of q (e ∷ es) = ap (cond (bytes_eq q e.0.items) (Some e.1)) (slot-bytes_of q es)

-- what a look-up among long keys finds
pub long_at : {Z : Type 0} (q : List ℕ) (es : List (Vec ℕ Z × Slot)) → long_slot q es ≡ slot_at q (bytes_of es)
long_at q es = sym (slot-bytes_of q es)

pub on_ok : {A E P Q : Type 0} (r : Result A E) → (P → Q) → OnOk r P → OnOk r Q
on_ok (Ok a) f p = f p
on_ok (Err e) f p = p

pub given_ok : {A E : Type 0} {P Q : A → Type 0} (r : Result A E) → ((a : A) → P a → Q a) → IfOk r P → IfOk r Q
given_ok (Ok a) f p = f a p
given_ok (Err e) f p = p

-- how the table of short keys turns
short_turned : (key : List ℕ) (old new : List (List ℕ × Slot)) (slot : Option Slot) → ((q : List ℕ) → slot_at q new ≡ cond (bytes_eq key q) slot (slot_at q old)) → Turns old new key slot
short_turned key old new slot turns q = turns q ∙ ap (λ b. cond b slot (slot_at q old)) (bytes_swap key q)

-- how the table of long keys turns
pub long_turned : {Z : Type 0} (key : List ℕ) (old new : List (Vec ℕ Z × Slot)) (slot : Option Slot) → long_slot key new ≡ slot → KeepsOthers (λ x y. bytes_eq x.items y.items) (λ k. bytes_eq key k.items) old new → Turns (bytes_of old) (bytes_of new) key slot
unfolding KeepsOthers
long_turned key old new slot here others q =
    slot-bytes_of q new
    ∙ by_test (λ b. bytes_eq q key ≡ b → long_slot q new ≡ cond b slot (long_slot q old)) (bytes_eq q key)
    (λ e same. ap (λ (l : List ℕ). long_slot l new) (same_bytes q key same) ∙ here)
    (λ e apart. others (λ k. bytes_eq q k.items) (λ x y at. ap (λ (l : List ℕ). bytes_eq l y.items) (same_bytes q x.items at)) (λ k at. ap (bytes_eq q) (sym (same_bytes key k.items at)) ∙ apart))
    refl
    ∙ ap (cond (bytes_eq q key) slot) (long_at q old)

or_else : Option Slot → Option Slot → Option Slot
or_else None y = y
or_else (Some x) y = Some x

cond-or_else : (b : Bool) (x y z : Option Slot) → or_else (cond b x y) z ≡ cond b (or_else x z) (or_else y z)
cond-or_else true x y z = refl
cond-or_else false x y z = refl

slot-append : (q : List ℕ) (xs ys : List (List ℕ × Slot)) → slot_at q (xs ++ ys) ≡ or_else (slot_at q xs) (slot_at q ys)
unfolding or_else
slot-append q [] ys = refl
slot-append q (x ∷ xs) ys = ap (cond (bytes_eq q x.0) (Some x.1)) (slot-append q xs ys) ∙ sym (cond-or_else (bytes_eq q x.0) (Some x.1) (slot_at q xs) (slot_at q ys))

by_length : (b : Bool) (x y : Option Slot) → or_else (cond b x None) (cond (not b) y None) ≡ cond b x y
unfolding or_else
by_length true None y = refl
by_length true (Some x) y = refl
by_length false x y = refl

-- a short key has its slot in one table, and a longer one in the other
joined_at : (q : List ℕ) (short long : List (List ℕ × Slot)) → slot_at q (joined short long) ≡ cond (is_short q) (slot_at q short) (slot_at q long)
joined_at q short long =
    slot-append q _ _
    ∙ ap (λ x. or_else x (slot_at q (filter (λ e. not (is_short e.0)) long))) (lookup-filter-keys (bytes_eq q) is_short (is_short q) (λ k at. ap is_short (sym (same_bytes q k at))) short)
    ∙ ap (or_else (cond (is_short q) (slot_at q short) None)) (lookup-filter-keys (bytes_eq q) (λ k. not (is_short k)) (not (is_short q)) (λ k at. ap (λ k. not (is_short k)) (sym (same_bytes q k at))) long)
    ∙ by_length (is_short q) (slot_at q short) (slot_at q long)

pub at_short : (q : List ℕ) (short long : List (List ℕ × Slot)) → is_short q ≡ true → slot_at q (joined short long) ≡ slot_at q short
at_short q short long is = joined_at q short long ∙ ap (λ b. cond b (slot_at q short) (slot_at q long)) is

pub at_long : (q : List ℕ) (short long : List (List ℕ × Slot)) → is_short q ≡ false → slot_at q (joined short long) ≡ slot_at q long
at_long q short long is = joined_at q short long ∙ ap (λ b. cond b (slot_at q short) (slot_at q long)) is

-- the slots turn as the table does that the key is in
pub turned_short : (key : List ℕ) (old new long : List (List ℕ × Slot)) (slot : Option Slot) → is_short key ≡ true → Turns old new key slot → Turns (joined old long) (joined new long) key slot
turned_short key old new long slot is turns q =
    by_test (λ b. bytes_eq q key ≡ b → slot_at q (joined new long) ≡ cond b slot (slot_at q (joined old long))) (bytes_eq q key)
    (λ e here. at_short q new long (ap is_short (same_bytes q key here) ∙ is) ∙ turns q ∙ ap (λ b. cond b slot (slot_at q old)) here)
    (λ e apart. joined_at q new long ∙ ap (λ x. cond (is_short q) x (slot_at q long)) (turns q ∙ ap (λ b. cond b slot (slot_at q old)) apart) ∙ sym (joined_at q old long))
    refl

pub turned_long : (key : List ℕ) (short old new : List (List ℕ × Slot)) (slot : Option Slot) → is_short key ≡ false → Turns old new key slot → Turns (joined short old) (joined short new) key slot
turned_long key short old new slot is turns q =
    by_test (λ b. bytes_eq q key ≡ b → slot_at q (joined short new) ≡ cond b slot (slot_at q (joined short old))) (bytes_eq q key)
    (λ e here. at_long q short new (ap is_short (same_bytes q key here) ∙ is) ∙ turns q ∙ ap (λ b. cond b slot (slot_at q old)) here)
    (λ e apart. joined_at q short new ∙ ap (cond (is_short q) (slot_at q short)) (turns q ∙ ap (λ b. cond b slot (slot_at q old)) apart) ∙ sym (joined_at q short old))
    refl

-- a slot that turns twice
pub turned_twice : (a b c : List (List ℕ × Slot)) (key : List ℕ) (s t : Option Slot) → Turns a b key s → Turns b c key t → Turns a c key t
turned_twice a b c key s t one two q = two q ∙ ap (cond (bytes_eq q key) t) (one q) ∙ over (bytes_eq q key)
  where
    over : (e : Bool) → cond e t (cond e s (slot_at q a)) ≡ cond e t (slot_at q a)
    over true = refl
    over false = refl

-- the key that was found is the one that was looked for
pub found_key : (es : List (List ℕ × Slot)) (place : ℕ) (key there : List ℕ) (slot : Slot) → Some there ≡ lookup_key (bytes_eq key) es → slice_get es place ≡ Some (there, slot) → key_at place es ≡ Some key
found_key es place key there slot is at = ap (option_map (λ e. e.0)) at ∙ ap Some (sym (same_bytes key there (lookup_key_passes (bytes_eq key) es there (sym is))))

-- what stands at a place has its key
stands : (es : List (List ℕ × Slot)) (place : ℕ) (key : List ℕ) (slot : Slot) → key_at place es ≡ Some key → slice_get (values_of es) place ≡ Some slot → slice_get es place ≡ Some (key, slot)
stands [] place key slot at is = cc
stands (e ∷ es) zero key slot at is = λ i. Some (unwrap_or (at i) key, unwrap_or (is i) slot)
stands (e ∷ es) (suc place) key slot at is = stands es place key slot at is

-- a slot that is written at its place
pub place_turned : {S : Type 0} (m : IndexMap (List ℕ) Slot S) (place : ℕ) (key : List ℕ) (was slot : Slot) → IsUnique bytes_eq m → key_at place m.entries ≡ Some key → Some was ≡ slice_get (values m) place → Turns m.entries (with_value_at m place slot).entries key (Some slot)
place_turned m place key was slot unique at is = short_turned key m.entries _ (Some slot) (updates-with_value_at m place slot nat_list_eq_equiv unique key was (stands m.entries place key was at (sym is))).0

-- where a key stands, there is a slot
pub none_stands : (es : List (List ℕ × Slot)) (place : ℕ) (key : List ℕ) → key_at place es ≡ Some key → None ≡ slice_get (values_of es) place → ⊥
none_stands [] place key at none = cc
none_stands (e ∷ es) zero key at none = cc
none_stands (e ∷ es) (suc place) key at none = none_stands es place key at none

get-with_held : (s : Option ℕ) (k q : List ℕ) (m : map.FinMap (slice_cmp nat_cmp) ℕ) → map.get (with_held s k m) q ≡ cond (bytes_eq q k) s (map.get m q)
get-with_held None k q m = map.get-remove nat_list_cmp_total m k q ∙ ap (λ b. cond b None (map.get m q)) (sym (texts_ties q k))
get-with_held (Some s) k q m = map.get-insert nat_list_cmp_total m k s q ∙ ap (λ b. cond b (Some s) (map.get m q)) (sym (texts_ties q k))

contains-with_reserved : (r : Bool) (k q : List ℕ) (s : set.FinSet (slice_cmp nat_cmp)) → set.contains (with_reserved r k s) q ≡ cond (bytes_eq q k) r (set.contains s q)
contains-with_reserved true k q s = set.contains-insert nat_list_cmp_total s k q ∙ ap (λ b. b || set.contains s q) (sym (texts_ties q k)) ∙ by_test (λ b. (b || set.contains s q) ≡ cond b true (set.contains s q)) (bytes_eq q k) (λ _. refl) (λ _. refl)
contains-with_reserved false k q s = set.contains-remove nat_list_cmp_total s k q ∙ ap (λ b. not b && set.contains s q) (sym (texts_ties q k)) ∙ by_test (λ b. (not b && set.contains s q) ≡ cond b false (set.contains s q)) (bytes_eq q k) (λ _. refl) (λ _. refl)

cond-serial : (b : Bool) (x y : Option Slot) → serial_at (cond b x y) ≡ cond b (serial_at x) (serial_at y)
cond-serial true x y = refl
cond-serial false x y = refl

cond-reserved : (b : Bool) (x y : Option Slot) → is_reserved_at (cond b x y) ≡ cond b (is_reserved_at x) (is_reserved_at y)
cond-reserved true x y = refl
cond-reserved false x y = refl

pub get-held_of : (es : List (List ℕ × Slot)) (q : List ℕ) → map.get (held_of es) q ≡ serial_at (slot_at q es)
get-held_of [] q = map.get-empty _ q
get-held_of (e ∷ es) q =
    get-with_held (serial_of e.1) e.0 q (held_of es) ∙ ap (cond (bytes_eq q e.0) (serial_of e.1)) (get-held_of es q) ∙ sym (cond-serial (bytes_eq q e.0) (Some e.1) (slot_at q es))

pub contains-reserved_of : (es : List (List ℕ × Slot)) (q : List ℕ) → set.contains (reserved_of es) q ≡ is_reserved_at (slot_at q es)
contains-reserved_of [] q = set.contains-empty _ q
contains-reserved_of (e ∷ es) q =
    contains-with_reserved (is_reserved e.1) e.0 q (reserved_of es) ∙ ap (cond (bytes_eq q e.0) (is_reserved e.1)) (contains-reserved_of es q) ∙ sym (cond-reserved (bytes_eq q e.0) (Some e.1) (slot_at q es))

-- the map after the slot of a key has turned
pub held_turned : (old new : List (List ℕ × Slot)) (key : List ℕ) (slot : Option Slot) → Turns old new key slot → held_of new ≡ with_held (serial_at slot) key (held_of old)
held_turned old new key slot turns =
    map.same_map nat_list_cmp_total (slice_cmp-IsAntisymmetric nat_cmp-IsAntisymmetric) _ _ (λ q.
    get-held_of new q ∙ ap serial_at (turns q) ∙ cond-serial (bytes_eq q key) slot (slot_at q old) ∙ ap (cond (bytes_eq q key) (serial_at slot)) (sym (get-held_of old q)) ∙ sym (get-with_held (serial_at slot) key q (held_of old)))

pub reserved_turned : (old new : List (List ℕ × Slot)) (key : List ℕ) (slot : Option Slot) → Turns old new key slot → reserved_of new ≡ with_reserved (is_reserved_at slot) key (reserved_of old)
reserved_turned old new key slot turns =
    set.same_set nat_list_cmp_total (slice_cmp-IsAntisymmetric nat_cmp-IsAntisymmetric) _ _ (λ q.
    contains-reserved_of new q ∙ ap is_reserved_at (turns q) ∙ cond-reserved (bytes_eq q key) slot (slot_at q old) ∙ ap (cond (bytes_eq q key) (is_reserved_at slot)) (sym (contains-reserved_of old q)) ∙ sym (contains-with_reserved (is_reserved_at slot) key q (reserved_of old)))

-- a slot with the serial that the key had leaves the map
pub held_kept : (old new : List (List ℕ × Slot)) (key : List ℕ) (slot : Option Slot) → Turns old new key slot → serial_at slot ≡ serial_at (slot_at key old) → held_of new ≡ held_of old
held_kept old new key slot turns same =
    map.same_map nat_list_cmp_total (slice_cmp-IsAntisymmetric nat_cmp-IsAntisymmetric) _ _ (λ q.
    get-held_of new q ∙ ap serial_at (turns q) ∙ cond-serial (bytes_eq q key) slot (slot_at q old)
    ∙ by_test (λ b. bytes_eq q key ≡ b → cond b (serial_at slot) (serial_at (slot_at q old)) ≡ serial_at (slot_at q old)) (bytes_eq q key)
    (λ e here. same ∙ ap (λ (l : List ℕ). serial_at (slot_at l old)) (sym (same_bytes q key here))) (λ e other. refl) refl
    ∙ sym (get-held_of old q))

pub reserved_kept : (old new : List (List ℕ × Slot)) (key : List ℕ) (slot : Option Slot) → Turns old new key slot → is_reserved_at slot ≡ is_reserved_at (slot_at key old) → reserved_of new ≡ reserved_of old
reserved_kept old new key slot turns same =
    set.same_set nat_list_cmp_total (slice_cmp-IsAntisymmetric nat_cmp-IsAntisymmetric) _ _ (λ q.
    contains-reserved_of new q ∙ ap is_reserved_at (turns q) ∙ cond-reserved (bytes_eq q key) slot (slot_at q old)
    ∙ by_test (λ b. bytes_eq q key ≡ b → cond b (is_reserved_at slot) (is_reserved_at (slot_at q old)) ≡ is_reserved_at (slot_at q old)) (bytes_eq q key)
    (λ e here. same ∙ ap (λ (l : List ℕ). is_reserved_at (slot_at l old)) (sym (same_bytes q key here))) (λ e other. refl) refl
    ∙ sym (contains-reserved_of old q))

pub none_turned : (es : List (List ℕ × Slot)) (key : List ℕ) → slot_at key es ≡ None → Turns es es key None
none_turned es key none q =
    by_test (λ b. bytes_eq q key ≡ b → slot_at q es ≡ cond b None (slot_at q es)) (bytes_eq q key) (λ e here. ap (λ (l : List ℕ). slot_at l es) (same_bytes q key here) ∙ none) (λ e other. refl) refl

pub some_slot : (es : List (List ℕ × Slot)) (key : List ℕ) → set.contains (reserved_of es) key ≡ true → IsSome (slot_at key es)
some_slot es key has = by (slot_at key es) (sym (contains-reserved_of es key) ∙ has)
  where
    by : (o : Option Slot) → is_reserved_at o ≡ true → IsSome o
    by None h = cc
    by (Some slot) h = search rules
