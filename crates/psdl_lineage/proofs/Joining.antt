-- Numbers joined, each once.
use Rattle.std.proofs.Common.{◌≡◌, ◌<◌, ◌+◌, ℕ, List, [], ◌∷◌, ◌++◌, Bool, true, false, ◌==◌, ◌||◌, length, take, get_or, sym, ap, ◌∙◌, ⊎_elim}
use Rattle.std.proofs.Math.ListN.{set}
use Rattle.std.proofs.lemmas.Bool.{eqb-true, eq-eqb, cases_Bool, or_right}
use Rattle.psdl_lineage.specs.Descent.{has}
use Rattle.psdl_lineage.specs.inner.Walking.{is_marked}
use Rattle.psdl_lineage.specs.inner.KeptSources.{AreJoined}
use Rattle.psdl_lineage.proofs.Listing.{take_more}
use Rattle.psdl_lineage.proofs.Counting.{marked_here, marked_other}
use Rattle.psdl_lineage.proofs.Repeats.{once, fresh, fresh_old, fresh_new, once-append, once_absorbs, has-append, or_false}
use Rattle.std.proofs.lemmas.List.{append_assoc, append-nil}

pub old_one : (marks : List Bool) (xs : List ℕ) (x : ℕ) → AreJoined marks xs → is_marked marks x ≡ true → xs ≡ once (xs ++ x ∷ [])
old_one marks xs x w m =
    sym (once-append xs (x ∷ []) ∙ ap (λ l. l ++ fresh xs (x ∷ [])) w.distinct ∙ ap (λ l. xs ++ l) (fresh_old xs x [] (sym (w.marked x) ∙ m)) ∙ append-nil xs)

pub new_one : (marks : List Bool) (xs : List ℕ) (x : ℕ) → AreJoined marks xs → is_marked marks x ≡ false → xs ++ x ∷ [] ≡ once (xs ++ x ∷ [])
new_one marks xs x w m = sym (once-append xs (x ∷ []) ∙ ap (λ l. l ++ fresh xs (x ∷ [])) w.distinct ∙ ap (λ l. xs ++ l) (fresh_new xs x [] (sym (w.marked x) ∙ m)))

pub one_joined : (marks : List Bool) (xs : List ℕ) (x : ℕ) → AreJoined marks xs → x < length marks → is_marked marks x ≡ false → AreJoined (set marks x true) (xs ++ x ∷ [])
one_joined marks xs x w lt m =
    record {
      distinct = sym (new_one marks xs x w m);
      marked = λ n.
          ⊎_elim
          (λ t.
          let same : x ≡ n = eqb-true x n t in
          ap (λ k. is_marked (set marks x true) k) (sym same) ∙ marked_here marks x lt
          ∙ sym (has-append xs (x ∷ []) n ∙ or_right (has xs n) (has (x ∷ []) n) (ap (λ v. v || false) t)))
          (λ f.
          marked_other marks x n (λ e. cc (eq-eqb x n (sym e))) ∙ w.marked n
          ∙ sym (has-append xs (x ∷ []) n ∙ ap (λ v. has xs n || (v || false)) f ∙ or_false (has xs n)))
          (cases_Bool (x == n));
    }

pub joined_more : (xs numbers : List ℕ) (i : ℕ) (joined joined' : List ℕ) → i < length numbers → joined ≡ once (xs ++ take i numbers) → joined' ≡ once (joined ++ get_or numbers i 0 ∷ [])
    → joined' ≡ once (xs ++ take (i + 1) numbers)
joined_more xs numbers i joined joined' lt e e' =
    let x : ℕ = get_or numbers i 0 in
    let front : List ℕ = xs ++ take i numbers in
    e' ∙ ap (λ l. once (l ++ x ∷ [])) e ∙ once_absorbs [] front (x ∷ [])
    ∙ ap (λ l. once l) (append_assoc xs (take i numbers) (x ∷ []) ∙ ap (λ l. xs ++ l) (sym (take_more numbers i 0 lt)))
