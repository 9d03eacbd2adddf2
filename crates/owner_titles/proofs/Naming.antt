-- How names follow the transactions.
use Rattle.std.proofs.Common.{ℕ, ◌≡◌, ⊎_elim, ◌&&◌, List, [], ◌∷◌, find, Option, Some, None, Bool, true, false, cond, not, refl, sym, ap, ◌∙◌, subst}
use Rattle.std.specs.Prelude.{IsSomeAnd}
use Rattle.std.specs.Option.{option_map}
use Rattle.std.specs.Str.{bytes_eq}
use Rattle.std.proofs.lemmas.Slice.Eq.{bytes_eq-Decides}
use Rattle.std.specs.Ordering.{nat_cmp, eq_by_cmp}
use Rattle.std.specs.Cmp.Lexicographic.{slice_cmp, nat_list_cmp_total}
use Rattle.std.specs.FinMap as finite
use Rattle.std.specs.FinMap.{FinMap, nat_cmp-IsAntisymmetric, slice_cmp-IsAntisymmetric, get, insert, remove, empty, entries, get-entries, get-empty}
use Rattle.pss_base.specs.declared.owner.OwnerNo.{OwnerNo}
use Rattle.pss_machine.specs.Owners.{is_basic}
use Rattle.pss_machine.proofs.Logic.{both_true, true_false}
use Rattle.pss_machine.proofs.Found.{found_there}
use Rattle.recent_table.proofs.Maps.{IsKey, no_value, one_value, tied, same_or_apart, insert_here, insert_apart, remove_here, remove_apart}
use Rattle.owner_titles.specs.declared.called.Called.{Called}
use Rattle.owner_titles.specs.Meaning.{is_transaction}
use Rattle.owner_titles.specs.inner.Register.{AreNamed}
use Rattle.owner_titles.proofs.Tables.{nat_key}

pub bytes_key : IsKey (slice_cmp nat_cmp)
bytes_key = record { total = nat_list_cmp_total; alike = slice_cmp-IsAntisymmetric nat_cmp-IsAntisymmetric }

-- what an option has
pub record Has {A : Type 0} (o : Option A) (P : A → Type 0) : Type 0 where
  pub value : A
  pub is : o ≡ Some value
  pub holds : P value

pub has : {A : Type 0} (P : A → Type 0) (o : Option A) → IsSomeAnd o P → Has o P
has P None h = absurd h
has P (Some v) h = record { value = v; is = refl; holds = h }

have : {A : Type 0} (P : A → Type 0) (o : Option A) (v : A) → o ≡ Some v → P v → IsSomeAnd o P
have P o v is p = subst (λ x. IsSomeAnd x P) (sym is) p

same_bytes : (xs ys : List ℕ) → bytes_eq xs ys ≡ true → xs ≡ ys
same_bytes xs ys h = (bytes_eq-Decides xs ys).0 h

bytes_same : (xs : List ℕ) → bytes_eq xs xs ≡ true
bytes_same xs = (bytes_eq-Decides xs xs).1 refl

-- a transaction of this name
abbrev IsOf : List ℕ → Called → Type 0
IsOf name c = (c.name ≡ name) × (is_basic c.level ≡ false)

pub none_named : AreNamed empty empty
none_named = record { found = λ n c at level. no_value c (sym (get-empty nat_cmp n) ∙ at); only = λ name n at. no_value n (sym (get-empty (slice_cmp nat_cmp) name) ∙ at) }

module _ (called : FinMap nat_cmp Called) (numbers : FinMap (slice_cmp nat_cmp) ℕ) (named : AreNamed called numbers) (k : ℕ) (c : Called) where
  -- who stands elsewhere than k
  elsewhere : (m : FinMap nat_cmp Called) → ((n : ℕ) → (n ≡ k → ⊥) → get m n ≡ get called n) → (name : List ℕ) (n : ℕ) → get numbers name ≡ Some n → (n ≡ k → ⊥) → IsSomeAnd (get m n) (IsOf name)
  elsewhere m others name n at apart = let old = has (IsOf name) (get called n) (named.only name n at) in have (IsOf name) (get m n) old.value (others n apart ∙ old.is) old.holds

  -- a transaction comes under a free name
  module _ (level : is_basic c.level ≡ false) (free : get called k ≡ None) (none : get numbers c.name ≡ None) where
    pub transaction_comes : AreNamed (insert called k c) (insert numbers c.name k)
    transaction_comes = record { found = λ n d at l. ⊎_elim (found_here n d at) (found_there_ n d at l) (same_or_apart nat_key n k); only = λ name n at. ⊎_elim (only_here name n at) (only_there name n at) (same_or_apart bytes_key name c.name) }
      where
        found_here : (n : ℕ) (d : Called) → get (insert called k c) n ≡ Some d → n ≡ k → get (insert numbers c.name k) d.name ≡ Some n
        found_here n d at same =
            let one : c ≡ d = one_value (sym (insert_here nat_key called k c) ∙ ap (get (insert called k c)) (sym same) ∙ at) in
            ap (λ (x : Called). get (insert numbers c.name k) x.name) (sym one) ∙ insert_here bytes_key numbers c.name k ∙ ap Some (sym same)

        found_there_ : (n : ℕ) (d : Called) → get (insert called k c) n ≡ Some d → is_basic d.level ≡ false → (n ≡ k → ⊥) → get (insert numbers c.name k) d.name ≡ Some n
        found_there_ n d at l apart =
            let old = named.found n d (sym (insert_apart nat_key called k c n apart) ∙ at) l in
            insert_apart bytes_key numbers c.name k d.name (λ same. no_value n (sym none ∙ ap (get numbers) (sym same) ∙ old)) ∙ old

        only_here : (name : List ℕ) (n : ℕ) → get (insert numbers c.name k) name ≡ Some n → name ≡ c.name → IsSomeAnd (get (insert called k c) n) (IsOf name)
        only_here name n at same =
            let one : k ≡ n = one_value (sym (insert_here bytes_key numbers c.name k) ∙ ap (get (insert numbers c.name k)) (sym same) ∙ at) in
            have (IsOf name) (get (insert called k c) n) c (ap (get (insert called k c)) (sym one) ∙ insert_here nat_key called k c) (sym same, level)

        only_there : (name : List ℕ) (n : ℕ) → get (insert numbers c.name k) name ≡ Some n → (name ≡ c.name → ⊥) → IsSomeAnd (get (insert called k c) n) (IsOf name)
        only_there name n at apart =
            let before : get numbers name ≡ Some n = sym (insert_apart bytes_key numbers c.name k name apart) ∙ at in
            let old = has (IsOf name) (get called n) (named.only name n before) in
            elsewhere (insert called k c) (insert_apart nat_key called k c) name n before (λ same. no_value old.value (sym free ∙ ap (get called) (sym same) ∙ old.is))

  -- a basic session comes, whose name is not looked for
  pub session_comes : is_basic c.level ≡ true → get called k ≡ None → AreNamed (insert called k c) numbers
  session_comes level free = record { found = λ n d at l. ⊎_elim (found_here n d at l) (λ apart. named.found n d (sym (insert_apart nat_key called k c n apart) ∙ at) l) (same_or_apart nat_key n k); only = only }
    where
      found_here : (n : ℕ) (d : Called) → get (insert called k c) n ≡ Some d → is_basic d.level ≡ false → n ≡ k → get numbers d.name ≡ Some n
      found_here n d at l same =
          let one : c ≡ d = one_value (sym (insert_here nat_key called k c) ∙ ap (get (insert called k c)) (sym same) ∙ at) in
          absurd (true_false level (ap (λ (x : Called). is_basic x.level) one ∙ l))

      only : (name : List ℕ) (n : ℕ) → get numbers name ≡ Some n → IsSomeAnd (get (insert called k c) n) (IsOf name)
      only name n at =
          let old = has (IsOf name) (get called n) (named.only name n at) in
          elsewhere (insert called k c) (insert_apart nat_key called k c) name n at (λ same. no_value old.value (sym free ∙ ap (get called) (sym same) ∙ old.is))

  module _ (there : get called k ≡ Some c) where
    -- a transaction goes, and its name with it
    pub transaction_goes : is_basic c.level ≡ false → AreNamed (remove called k) (remove numbers c.name)
    transaction_goes level = record { found = λ n d at l. ⊎_elim (found_here n d at) (found_apart n d at l) (same_or_apart nat_key n k); only = λ name n at. ⊎_elim (only_here name n at) (only_apart name n at) (same_or_apart bytes_key name c.name) }
      where
        found_here : (n : ℕ) (d : Called) → get (remove called k) n ≡ Some d → n ≡ k → get (remove numbers c.name) d.name ≡ Some n
        found_here n d at same = no_value d (sym (remove_here nat_key called k) ∙ ap (get (remove called k)) (sym same) ∙ at)

        found_apart : (n : ℕ) (d : Called) → get (remove called k) n ≡ Some d → is_basic d.level ≡ false → (n ≡ k → ⊥) → get (remove numbers c.name) d.name ≡ Some n
        found_apart n d at l apart =
            let old = named.found n d (sym (remove_apart nat_key called k n apart) ∙ at) l in
            remove_apart bytes_key numbers c.name d.name (λ same. apart (one_value (sym old ∙ ap (get numbers) same ∙ named.found k c there level))) ∙ old

        only_here : (name : List ℕ) (n : ℕ) → get (remove numbers c.name) name ≡ Some n → name ≡ c.name → IsSomeAnd (get (remove called k) n) (IsOf name)
        only_here name n at same = no_value n (sym (remove_here bytes_key numbers c.name) ∙ ap (get (remove numbers c.name)) (sym same) ∙ at)

        only_apart : (name : List ℕ) (n : ℕ) → get (remove numbers c.name) name ≡ Some n → (name ≡ c.name → ⊥) → IsSomeAnd (get (remove called k) n) (IsOf name)
        only_apart name n at apart =
            let before : get numbers name ≡ Some n = sym (remove_apart bytes_key numbers c.name name apart) ∙ at in
            let old = has (IsOf name) (get called n) (named.only name n before) in
            elsewhere (remove called k) (remove_apart nat_key called k) name n before
            (λ same. apart (sym old.holds.0 ∙ ap (λ (x : Called). x.name) (one_value (sym old.is ∙ ap (get called) same ∙ there))))

    -- a basic session goes
    pub session_goes : is_basic c.level ≡ true → AreNamed (remove called k) numbers
    session_goes level = record { found = λ n d at l. ⊎_elim (λ same. no_value d (sym (remove_here nat_key called k) ∙ ap (get (remove called k)) (sym same) ∙ at)) (λ apart. named.found n d (sym (remove_apart nat_key called k n apart) ∙ at) l) (same_or_apart nat_key n k); only = only }
      where
        only : (name : List ℕ) (n : ℕ) → get numbers name ≡ Some n → IsSomeAnd (get (remove called k) n) (IsOf name)
        only name n at =
            let old = has (IsOf name) (get called n) (named.only name n at) in
            elsewhere (remove called k) (remove_apart nat_key called k) name n at
            (λ same. true_false level (ap (λ (x : Called). is_basic x.level) (one_value (sym there ∙ ap (get called) (sym same) ∙ old.is)) ∙ old.holds.1))

    -- an owner changes but for its name and level
    pub other_comes : (d : Called) → d.name ≡ c.name → d.level ≡ c.level → AreNamed (insert called k d) numbers
    other_comes d name_is level_is = record { found = λ n e at l. ⊎_elim (found_here n e at l) (λ apart. named.found n e (sym (insert_apart nat_key called k d n apart) ∙ at) l) (same_or_apart nat_key n k); only = λ name n at. ⊎_elim (only_here name n at) (elsewhere (insert called k d) (insert_apart nat_key called k d) name n at) (same_or_apart nat_key n k) }
      where
        found_here : (n : ℕ) (e : Called) → get (insert called k d) n ≡ Some e → is_basic e.level ≡ false → n ≡ k → get numbers e.name ≡ Some n
        found_here n e at l same =
            let one : d ≡ e = one_value (sym (insert_here nat_key called k d) ∙ ap (get (insert called k d)) (sym same) ∙ at) in
            ap (λ (x : Called). get numbers x.name) (sym one) ∙ ap (get numbers) name_is ∙ named.found k c there (ap is_basic (sym level_is) ∙ ap (λ (x : Called). is_basic x.level) one ∙ l) ∙ ap Some (sym same)

        only_here : (name : List ℕ) (n : ℕ) → get numbers name ≡ Some n → n ≡ k → IsSomeAnd (get (insert called k d) n) (IsOf name)
        only_here name n at same =
            let old = has (IsOf name) (get called n) (named.only name n at) in
            let one : c ≡ old.value = one_value (sym there ∙ ap (get called) (sym same) ∙ old.is) in
            have (IsOf name) (get (insert called k d) n) d (ap (get (insert called k d)) same ∙ insert_here nat_key called k d)
            (name_is ∙ ap (λ (x : Called). x.name) one ∙ old.holds.0, ap is_basic level_is ∙ ap (λ (x : Called). is_basic x.level) one ∙ old.holds.1)

-- ---- the transaction of a name

abbrev pub number : ℕ → OwnerNo
number n = record { 0 = n }

module _ {X : Type 0} (test : ℕ × X → Bool) where
  find_passes : (es : List (ℕ × X)) (e : ℕ × X) → find test es ≡ Some e → test e ≡ true
  find_passes [] e is = no_value e is
  find_passes (x ∷ es) e is = by (test x) refl is (find_passes es e)
    where
      by : (b : Bool) → test x ≡ b → cond b (Some x) (find test es) ≡ Some e → (find test es ≡ Some e → test e ≡ true) → test e ≡ true
      by true t is rest = ap test (sym (one_value is)) ∙ t
      by false t is rest = rest is

  none_passes : (es : List (ℕ × X)) (k : ℕ) (v : X) → finite.find nat_cmp k es ≡ Some v → find test es ≡ None → test (k, v) ≡ false
  none_passes [] k v at none = no_value v at
  none_passes (e ∷ es) k v at none = by (test e) refl (eq_by_cmp nat_cmp k e.0) refl at none (none_passes es k v)
    where
      by : (b : Bool) → test e ≡ b → (t : Bool) → eq_by_cmp nat_cmp k e.0 ≡ t → cond t (Some e.1) (finite.find nat_cmp k es) ≡ Some v → cond b (Some e) (find test es) ≡ None → (finite.find nat_cmp k es ≡ Some v → find test es ≡ None → test (k, v) ≡ false) → test (k, v) ≡ false
      by true p t tie at none rest = no_value e (sym none)
      by false p true tie at none rest = (λ i. test (tied nat_key k e.0 tie i, sym (one_value at) i)) ∙ p
      by false p false tie at none rest = rest at none

module _ (called : FinMap nat_cmp Called) (numbers : FinMap (slice_cmp nat_cmp) ℕ) (named : AreNamed called numbers) (name : List ℕ) where
  abbrev test : ℕ × Called → Bool
  test e = bytes_eq e.1.name name && is_transaction e

  pub named_is : option_map number (get numbers name) ≡ option_map (λ e. number e.0) (find test (entries called))
  named_is = by (find test (entries called)) refl
    where
      basic_false : (b : Bool) → not b ≡ true → b ≡ false
      basic_false true h = absurd (cc)
      basic_false false h = refl

      nobody : (o : Option ℕ) → get numbers name ≡ o → find test (entries called) ≡ None → option_map number o ≡ None
      nobody None is none = refl
      nobody (Some n) is none =
          let h = has (IsOf name) (get called n) (named.only name n is) in
          absurd (true_false ((λ i. bytes_eq (h.holds.0 i) name && not (h.holds.1 i)) ∙ ap (λ b. b && true) (bytes_same name)) (none_passes test (entries called) n h.value (sym (get-entries called n) ∙ h.is) none))

      by : (o : Option (ℕ × Called)) → find test (entries called) ≡ o → option_map number (get numbers name) ≡ option_map (λ e. number e.0) o
      by None is = nobody (get numbers name) refl is
      by (Some e) is =
          let passes = both_true (bytes_eq e.1.name name) (is_transaction e) (find_passes test (entries called) e is) in
          ap (option_map number) (ap (get numbers) (sym (same_bytes e.1.name name passes.0)) ∙ named.found e.0 e.1 (found_there test called e is) (basic_false (is_basic e.1.level) passes.1))
