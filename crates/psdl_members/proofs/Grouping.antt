-- A group, one entry more at a time.
use Rattle.std.proofs.Common.{◌≡◌, ◌∙◌, ℕ, ◌+◌, ◌^◌, ◌<◌, ◌≤◌, List, [], ◌∷◌, ◌++◌, Bool, true, false, not, ◌==◌, ◌||◌, ◌&&◌, length, take, get_or, refl, sym, ap, subst, arith, w64, ⊎_elim}
use Rattle.std.specs.List.{list_any}
use Rattle.std.proofs.lemmas.Bool.{cases_Bool, eqb-true, not-false, or_cases}
use Rattle.std.proofs.lemmas.List.Folds.{list_any-append}
use Rattle.psdl_lineage.specs.Descent.{has}
use Rattle.std.specs.Int.{bit_not}
use Rattle.std.specs.Int.RustNames.{bit_and}
use Rattle.std.proofs.Math.ListN.{replicate}
use Rattle.std.proofs.lemmas.List.{length-take-le, length_push, take_all, take_more}
use Rattle.psdl_lineage.proofs.Repeats.{turned}
use Rattle.psdl_members.specs.declared.entry.Entry.{Entry}
use Rattle.psdl_members.specs.declared.group.Group.{Group}
use Rattle.psdl_members.specs.inner.Bits.{has_bit, AreBits}
use Rattle.psdl_members.specs.inner.Seeing.{IsGroup, IsSeen}
use Rattle.psdl_members.proofs.Bits.{bits_and, bits_and_not, bits_cleared, bits_found, bits_put}

pub cleared : (group : Group) (names lists : ℕ) → group.names.items ≡ replicate names 0 → group.lists.items ≡ replicate lists 0 → IsGroup group []
cleared group names lists none nor =
    record {
      few = omega arith;
      names = λ n. subst (λ (l : List ℕ). AreBits (get_or l n 0) [] (λ e. e.name == n)) (sym none) (bits_cleared names n (λ e. e.name == n));
      lists = λ n. subst (λ (l : List ℕ). AreBits (get_or l n 0) [] (λ e. e.list == n)) (sym nor) (bits_cleared lists n (λ e. e.list == n));
      heads = λ n never. absurd (cc);
    }

-- a bit was set of a number
abbrev pub IsPut : List ℕ → List ℕ → ℕ → ℕ → Type 0
IsPut old new number bit = (n k : ℕ) → k < 64 → has_bit (get_or new n 0) k ≡ (has_bit (get_or old n 0) k || (n == number && k == bit))

-- the names that entries have are put down, each where the first comes that has it
abbrev pub IsHeaded : List ℕ → List ℕ → ℕ → ℕ → Type 0
IsHeaded old new name mask = (mask ≡ 0 → has new name ≡ true) × ((n : ℕ) → has old n ≡ true → has new n ≡ true)

or_false : (b : Bool) → b ≡ (b || false)
or_false true = refl
or_false false = refl

headed : (old : Group) (new : List ℕ) (e : Entry) (es : List Entry) (mask : ℕ) → IsGroup old es → mask < 2 ^ 64 → mask ≡ get_or old.names.items e.name 0 → IsHeaded old.heads.items new e.name mask
    → (n : ℕ) → list_any (λ x. x.name == n) (es ++ e ∷ []) ≡ true → has new n ≡ true
headed old new e es mask w long is heads n named =
    ⊎_elim
    (λ before. heads.1 n (w.heads n before))
    (λ here. ap (has new) (sym (eqb-true e.name n (or_false (e.name == n) ∙ here))) ∙ own)
    (or_cases (list_any (λ (x : Entry). x.name == n) es) (list_any (λ (x : Entry). x.name == n) (e ∷ [])) (sym (list_any-append (λ (x : Entry). x.name == n) es (e ∷ [])) ∙ named))
  where
    found : not (mask == 0) ≡ list_any (λ x. x.name == e.name) es
    found = bits_found mask es (λ (x : Entry). x.name == e.name) long w.few (subst (λ (m : ℕ). AreBits m es (λ x. x.name == e.name)) (sym is) (w.names e.name))

    own : has new e.name ≡ true
    own =
        ⊎_elim
        (λ t. heads.1 e.name (w.heads e.name t))
        (λ f. heads.0 (eqb-true mask 0 (not-false (mask == 0) (found ∙ f))))
        (cases_Bool (list_any (λ (x : Entry). x.name == e.name) es))

pub one_put : (old new : Group) (e : Entry) (bit : ℕ) (es : List Entry) (mask : ℕ) → bit < 64 → length es ≡ bit → IsGroup old es → mask < 2 ^ 64 → mask ≡ get_or old.names.items e.name 0 → IsHeaded old.heads.items new.heads.items e.name mask
    → IsPut old.names.items new.names.items e.name bit → IsPut old.lists.items new.lists.items e.list bit → IsGroup new (es ++ e ∷ [])
one_put old new e bit es mask low long w range is heads names lists =
    record {
      few = omega (arith, length_push es e, long, low);
      names = λ n.
          bits_put (get_or old.names.items n 0) (get_or new.names.items n 0) bit es e (λ x. x.name == n) long (w.names n)
          (λ k lt. names n k lt ∙ ap (λ (b : Bool). has_bit (get_or old.names.items n 0) k || (b && k == bit)) (turned n e.name));
      lists = λ n.
          bits_put (get_or old.lists.items n 0) (get_or new.lists.items n 0) bit es e (λ x. x.list == n) long (w.lists n)
          (λ k lt. lists n k lt ∙ ap (λ (b : Bool). has_bit (get_or old.lists.items n 0) k || (b && k == bit)) (turned n e.list));
      heads = headed old new.heads.items e es mask w range is heads;
    }

-- ---- in a loop

pub first_of : (group : Group) (es : List Entry) → IsGroup group [] → IsGroup group (take 0 es)
first_of group [] w = w
first_of group (e ∷ es) w = w

pub long_at : (es : List Entry) (i : ℕ) → i < length es → length (take i es) ≡ i
long_at es i lt = length-take-le i es (omega (arith, lt))

pub next_of : (group : Group) (es : List Entry) (i : ℕ) (d : Entry) → i < length es → IsGroup group (take i es ++ get_or es i d ∷ []) → IsGroup group (take (i + 1) es)
next_of group es i d lt w = subst (λ (l : List Entry). IsGroup group l) (sym (take_more es i d lt)) w

pub whole_of : (group : Group) (es : List Entry) (i : ℕ) → length es ≤ i → IsGroup group (take i es) → IsGroup group es
whole_of group es i past w = subst (λ (l : List Entry). IsGroup group l) (take_all i es past) w

-- ---- one entry

-- those of its name with its list are the same, those with another clash with it
pub one_seen : (group : Group) (e : Entry) (es : List Entry) (named listed : ℕ) → listed < 2 ^ 64 → named ≡ get_or group.names.items e.name 0 → listed ≡ get_or group.lists.items e.list 0 → IsGroup group es
    → IsSeen (record { same = bit_and named listed; other = bit_and named (bit_not w64 listed) }) es (λ test. test e)
one_seen group e es named listed long names lists w =
    let have : AreBits named es (λ x. x.name == e.name) = subst (λ (m : ℕ). AreBits m es (λ x. x.name == e.name)) (sym names) (w.names e.name) in
    let list : AreBits listed es (λ x. x.list == e.list) = subst (λ (m : ℕ). AreBits m es (λ x. x.list == e.list)) (sym lists) (w.lists e.list) in
    record {
      same = bits_and named listed es (λ x. x.name == e.name) (λ x. x.list == e.list) have list;
      other = bits_and_not named listed es (λ x. x.name == e.name) (λ x. x.list == e.list) long have list;
    }
