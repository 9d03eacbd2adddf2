-- Objects are packed anew.
use Rattle.std.proofs.Common.{ℕ, zero, suc, ◌≡◌, ◌+◌, ◌/◌, ◌≤◌, ◌&&◌, Bool, true, false, T, List, [], ◌∷◌, ◌++◌, length, map, All, refl, sym, ap, ◌∙◌, subst, arith}
use Rattle.std.specs.FinMap as finite
use Rattle.std.specs.FinMap.Entries.{below_all, is_sorted}
use Rattle.std.specs.List.{AllByRecursion}
use Rattle.std.specs.List.Sorted.{IsStrictlySortedBy}
use Rattle.std.specs.Map.{keys_of}
use Rattle.std.specs.Ordering.{is_lt, nat_cmp}
use Rattle.std.specs.declared.cmp.Ordering.{Ordering}
use Rattle.std.specs.declared.cmp.Ordering.TheVariants.{Less, Equal, Greater}
use Rattle.pss_base.specs.declared.put.Put.{Put}
use Rattle.page_format.specs.Objects.{IsRightPut, Objects, entries_left, entries_of, over, stored_of}
use Rattle.page_format.specs.Packing.{IsPacking, OnlyLastIsSmall, used_by}
use Rattle.page_format.specs.Pages.{serials_of}
use Rattle.page_format.specs.Pages.{Entry}
use Rattle.page_format.specs.Written.{AreStorable}
use Rattle.page_format.specs.declared.objects.Stored.{Stored}
use Rattle.page_store.specs.inner.Located.{Apart, at}
use Rattle.page_store.specs.Checkpoints.{repacked_slots}
use Rattle.page_store.specs.Kept.{Kept, rows_in}
use Rattle.page_store.specs.inner.Repacked.{AreLeft, AreRepacked, MayBeWritten}
use Rattle.page_store.proofs.ByKey.{found_alike}
use Rattle.page_store.proofs.Givens.{apart_sorted, stored_entries}

first : (a b : Bool) → T (a && b) → T a
first true b p = tt
first false b p = p

second : (a b : Bool) → T (a && b) → T b
second true b p = p
second false b p = absurd p

less : (o : Ordering) → T (is_lt o) → o ≡ Less
less Less p = refl
less Equal p = absurd p
less Greater p = absurd p

keys_below : (x : ℕ) (os : List (ℕ × Stored)) → T (below_all nat_cmp x os) → AllByRecursion (λ y. nat_cmp x y ≡ Less) (keys_of os)
keys_below x [] are = tt
keys_below x (o ∷ os) are = (less (nat_cmp x o.0) (first _ _ are), keys_below x os (second _ _ are))

keys_rise : (os : List (ℕ × Stored)) → T (is_sorted nat_cmp os) → IsStrictlySortedBy nat_cmp (keys_of os)
unfolding IsStrictlySortedBy
keys_rise [] are = tt
keys_rise (o ∷ os) are = (keys_below o.0 os (first _ _ are), keys_rise os (second _ _ are))

keys_are : (os : List (ℕ × Stored)) → serials_of (entries_of os) ≡ keys_of os
keys_are [] = refl
keys_are (o ∷ os) = ap (λ l. o.0 ∷ l) (keys_are os)

pub repacked_of : (m : Objects) (pages : List (List Entry)) → IsPacking (entries_of (finite.entries m)) pages → AreStorable (entries_of (finite.entries m)) → OnlyLastIsSmall pages → length pages ≤ used_by (entries_of (finite.entries m)) / 8328 + 1 → AreRepacked m pages
repacked_of m pages is storable large few =
    let os : List (ℕ × Stored) = finite.entries m in
    let rise = keys_rise os (finite.entries_sorted m) in
    record {
      written = record { storable = subst AreStorable (sym is.all) storable; filled = is.filled; large = large };
      same = λ q. ap (λ es. at q (map stored_of es)) is.all ∙ ap (at q) (stored_entries os) ∙ sym (finite.get-entries m q ∙ found_alike q os);
      apart = subst (λ es. Apart (map stored_of es)) (sym is.all) (subst Apart (sym (stored_entries os)) (apart_sorted os rise));
      packing = record { all = refl; filled = is.filled; closed = is.closed };
      rising = subst (λ es. IsStrictlySortedBy nat_cmp (serials_of es)) (sym is.all) (subst (IsStrictlySortedBy nat_cmp) (sym (keys_are os)) rise);
      few = subst (λ es. length pages ≤ used_by es / 8328 + 1) (sym is.all) few;
    }

-- the same of pages into which what changes leave was packed
pub repacked_left : (kept : Kept) (puts : List Put) (c : List ℕ) (pages : List (List Entry)) → AreLeft kept puts c → AreStorable (entries_left puts) → IsPacking (entries_left puts) pages → OnlyLastIsSmall pages → length pages ≤ used_by (entries_left puts) / 8328 + 1
    → AreRepacked (over (over finite.empty (rows_in c (repacked_slots kept))) kept.noted) pages
repacked_left kept puts c pages are storable is large few =
    repacked_of (over (over finite.empty (rows_in c (repacked_slots kept))) kept.noted) pages (subst (λ es. IsPacking es pages) are.left is) (subst AreStorable are.left storable) large (subst (λ es. length pages ≤ used_by es / 8328 + 1) are.left few)

pub may_be_written : (puts : List Put) (pages : List (List Entry)) → AreStorable (entries_left puts) → IsPacking (entries_left puts) pages → OnlyLastIsSmall pages → MayBeWritten pages
may_be_written puts pages storable is large = record { storable = subst AreStorable (sym is.all) storable; filled = is.filled; large = large }

-- changes behind others are right as these are
pub right_both : (rows noted : List Put) → All IsRightPut rows → All IsRightPut noted → All IsRightPut (rows ++ noted)
right_both [] noted r n = n
right_both (put ∷ rows) noted r n =
    let rest = right_both rows noted (λ k d lt. r (suc k) d (omega (arith, lt))) n in
    each rest
  where
    each : All IsRightPut (rows ++ noted) → All IsRightPut (put ∷ (rows ++ noted))
    each rest zero d lt = r 0 d (omega arith)
    each rest (suc k) d lt = rest k d (omega (arith, lt))
