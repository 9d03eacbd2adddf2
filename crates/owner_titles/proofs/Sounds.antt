-- Owners that come, go and change leave what is stored sound.
use Rattle.std.proofs.Common.{ℕ, ◌≡◌, ⊎_elim, ◌+◌, ◌-◌, ◌≤◌, ◌<◌, ◌^◌, List, Option, Some, None, IsSome, Bool, true, false, not, refl, sym, ap, ◌∙◌, subst, arith}
use Rattle.std.specs.Option.{option_map}
use Rattle.std.specs.Ordering.{nat_cmp}
use Rattle.std.specs.Cmp.Lexicographic.{slice_cmp}
use Rattle.std.specs.FinMap.{FinMap, get, insert, remove, empty, get-empty}
use Rattle.pss_machine.specs.Owners.{is_basic}
use Rattle.recent_table.specs.Maps.{IsWith}
use Rattle.recent_table.proofs.Maps.{no_value, alike_maps, same_or_apart, insert_apart, remove_here, remove_apart, weight, count_none, count_new, count_gone, count_set, count_some}
use Rattle.owner_titles.specs.declared.called.Called.{Called}
use Rattle.owner_titles.specs.Meaning.{is_transaction}
use Rattle.owner_titles.specs.inner.Register.{IsSound, AreNamed}
use Rattle.owner_titles.proofs.Tables.{nat_key}
use Rattle.owner_titles.proofs.Naming.{none_named, transaction_comes, session_comes, transaction_goes, session_goes, other_comes, has}

nothing : {A B : Type 0} (o : Option A) → o ≡ None → IsSome o → B
nothing None e h = absurd (cc)
nothing (Some x) e h = absurd (cc)

some : {A : Type 0} {x : A} (o : Option A) → o ≡ Some x → IsSome o
some None e = no_value _ e
some (Some x) e = refl

pub none_sound : (called : FinMap nat_cmp Called) (numbers : FinMap (slice_cmp nat_cmp) ℕ) → called ≡ empty → numbers ≡ empty → IsSound called numbers 0 0
none_sound called numbers c n = record {
  below = λ k there. nothing (get called k) (ap (λ m. get m k) c ∙ get-empty nat_cmp k) there;
  small = omega arith;
  named = subst (λ m. AreNamed m numbers) (sym c) (subst (AreNamed empty) (sym n) none_named);
  counted = sym (count_none nat_key is_transaction called (λ k v at. no_value v (sym (ap (λ m. get m k) c ∙ get-empty nat_cmp k) ∙ at)));
  fewer = omega arith;
}

module _ (called : FinMap nat_cmp Called) (numbers : FinMap (slice_cmp nat_cmp) ℕ) (last transactions : ℕ) (sound : IsSound called numbers last transactions) where
  -- nobody has the next number
  pub next_free : get called (last + 1) ≡ None
  next_free = by (get called (last + 1)) refl
    where
      by : (o : Option Called) → get called (last + 1) ≡ o → o ≡ None
      by None is = refl
      by (Some c) is = let h = sound.below (last + 1) (some _ is) in absurd (omega (arith, h))

  below_next : (c : Called) (n : ℕ) → IsSome (get (insert called (last + 1) c) n) → n ≤ last + 1
  below_next c n there =
      ⊎_elim (λ same. omega (arith, same)) (λ apart. let h = sound.below n (subst IsSome (insert_apart nat_key called (last + 1) c n apart) there) in omega (arith, h)) (same_or_apart nat_key n (last + 1))

  module _ (c : Called) (small : last + 1 < 2 ^ 32) where
    pub session_sound : is_basic c.level ≡ true → IsSound (insert called (last + 1) c) numbers (last + 1) transactions
    session_sound level = record {
      below = below_next c;
      small = small;
      named = session_comes called numbers sound.named (last + 1) c level next_free;
      counted = omega (arith, sound.counted, count_new nat_key is_transaction called (last + 1) c next_free, ap (λ b. weight (not b)) level);
      fewer = omega (arith, sound.fewer);
    }

    pub transaction_sound : is_basic c.level ≡ false → get numbers c.name ≡ None → IsSound (insert called (last + 1) c) (insert numbers c.name (last + 1)) (last + 1) (transactions + 1)
    transaction_sound level none = record {
      below = below_next c;
      small = small;
      named = transaction_comes called numbers sound.named (last + 1) c level next_free none;
      counted = omega (arith, sound.counted, count_new nat_key is_transaction called (last + 1) c next_free, ap (λ b. weight (not b)) level);
      fewer = omega (arith, sound.fewer);
    }

  below_gone : (k n : ℕ) → IsSome (get (remove called k) n) → n ≤ last
  below_gone k n there =
      ⊎_elim (λ same. nothing (get (remove called k) n) (ap (get (remove called k)) same ∙ remove_here nat_key called k) there)
      (λ apart. sound.below n (subst IsSome (remove_apart nat_key called k n apart) there)) (same_or_apart nat_key n k)

  module _ (k : ℕ) (c : Called) (there : get called k ≡ Some c) where
    pub some_transaction : is_basic c.level ≡ false → 1 ≤ transactions
    some_transaction level = omega (arith, sound.counted, count_some nat_key is_transaction called k c there (ap not level))

    pub transaction_gone : is_basic c.level ≡ false → IsSound (remove called k) (remove numbers c.name) last (transactions - 1)
    transaction_gone level = record {
      below = below_gone k;
      small = sound.small;
      named = transaction_goes called numbers sound.named k c there level;
      counted = omega (arith, sound.counted, count_gone nat_key is_transaction called k c there, ap (λ b. weight (not b)) level);
      fewer = omega (arith, sound.fewer);
    }

    pub session_gone : is_basic c.level ≡ true → IsSound (remove called k) numbers last transactions
    session_gone level = record {
      below = below_gone k;
      small = sound.small;
      named = session_goes called numbers sound.named k c there level;
      counted = omega (arith, sound.counted, count_gone nat_key is_transaction called k c there, ap (λ b. weight (not b)) level);
      fewer = sound.fewer;
    }

    other_sound : (d : Called) → d.name ≡ c.name → d.level ≡ c.level → IsSound (insert called k d) numbers last transactions
    other_sound d name level = record {
      below = λ n was. ⊎_elim (λ same. sound.below n (some (get called n) (ap (get called) same ∙ there))) (λ apart. sound.below n (subst IsSome (insert_apart nat_key called k d n apart) was)) (same_or_apart nat_key n k);
      small = sound.small;
      named = other_comes called numbers sound.named k c there d name level;
      counted = omega (arith, sound.counted, count_set nat_key is_transaction called k c d there, ap (λ l. weight (not (is_basic l))) level);
      fewer = sound.fewer;
    }

  -- nobody goes where there is nobody
  pub none_gone : (k : ℕ) → get called k ≡ None → IsSound (remove called k) numbers last transactions
  none_gone k none = subst (λ m. IsSound m numbers last transactions) (alike_maps nat_key called (remove called k) same) sound
    where
      same : (q : ℕ) → get called q ≡ get (remove called k) q
      same q = ⊎_elim (λ e. ap (get called) e ∙ none ∙ sym (remove_here nat_key called k) ∙ ap (get (remove called k)) (sym e)) (λ apart. sym (remove_apart nat_key called k q apart)) (same_or_apart nat_key q k)

  -- an owner changes but for its name and level
  pub changed_sound : (k : ℕ) (f : Called → Called) (new : FinMap nat_cmp Called) → IsWith called new k f → ((c : Called) → (f c).name ≡ c.name) → ((c : Called) → (f c).level ≡ c.level) → IsSound new numbers last transactions
  changed_sound k f new is names levels =
      let h = has (λ c. new ≡ insert called k (f c)) (get called k) is in
      subst (λ m. IsSound m numbers last transactions) (sym h.holds) (other_sound k h.value h.is (f h.value) (names h.value) (levels h.value))

  -- a number that stands behind a name was given
  pub named_below : (name : List ℕ) (n : ℕ) → get numbers name ≡ Some n → n ≤ last
  named_below name n at = let h = has (λ c. (c.name ≡ name) × (is_basic c.level ≡ false)) (get called n) (sound.named.only name n at) in sound.below n (some (get called n) h.is)

pub none_of : {A B : Type 0} (f : A → B) (o : Option A) → option_map f o ≡ None → o ≡ None
none_of f None h = refl
none_of f (Some x) h = no_value (f x) (sym h)

pub not_true : (b : Bool) → not b ≡ true → b ≡ false
not_true true h = absurd (cc)
not_true false h = refl

pub not_false : (b : Bool) → not b ≡ false → b ≡ true
not_false true h = refl
not_false false h = absurd (cc)
