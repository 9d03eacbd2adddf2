-- Words by what ends them.
use Rattle.std.proofs.Common.{ℕ, ◌==◌, arith, ◌+◌, ◌-◌, ◌≡◌, List, [], ◌∷◌, ◌++◌, length, take, drop, Option, Some, None, MatchOption, Bor, Bool, true, false, true≢false, refl, sym, ap, ◌∙◌, take-append-drop}
use Rattle.std.specs.Str.{bytes_eq}
use Rattle.std.proofs.lemmas.List.{append_cancel_right}
use Rattle.std.proofs.lemmas.List.Prefix.{end_rest}
use Rattle.std.proofs.lemmas.Slice.Eq.{bytes_eq-Decides}

same : (xs ys : List ℕ) → bytes_eq xs ys ≡ true → xs ≡ ys
same xs ys e = (bytes_eq-Decides xs ys).0 e

by_test : (P : Bool → Type 0) (b : Bool) → (b ≡ true → P true) → (b ≡ false → P false) → P b
by_test P true f g = f refl
by_test P false f g = g refl

-- a word that a name ends
pub ends : (word name rest : List ℕ) → bytes_eq (drop (length word - length name) word) name ≡ true → rest ≡ take (length word - length name) word → word ≡ rest ++ name
ends word name rest e is = sym (take-append-drop (length word - length name) word) ∙ ap (λ l. l ++ drop (length word - length name) word) (sym is) ∙ ap (λ l. rest ++ l) (same _ name e)

-- a word that it does not end
pub never : (word name front : List ℕ) → bytes_eq (drop (length word - length name) word) name ≡ false → word ≡ front ++ name → ⊥
never word name front apart e = true≢false (sym ((bytes_eq-Decides _ name).1 (end_rest word name front e)) ∙ apart)

-- what is in front of a name that ends the word
pub cut : (word name rest front : List ℕ) → word ≡ rest ++ name → word ≡ front ++ name → rest ≡ front
cut word name rest front a b = append_cancel_right rest front name (sym a ∙ b)

-- two words with one end are one where what is in front is
one_end : (front other name : List ℕ) → bytes_eq (front ++ name) (other ++ name) ≡ bytes_eq front other
one_end front other name =
    by_test (λ b. bytes_eq (front ++ name) (other ++ name) ≡ b) (bytes_eq front other)
    (λ e. (bytes_eq-Decides _ _).1 (ap (λ l. l ++ name) (same front other e)))
    (λ apart. by_test (λ b. b ≡ false) (bytes_eq (front ++ name) (other ++ name)) (λ e. absurd (true≢false (sym ((bytes_eq-Decides front other).1 (append_cancel_right front other name (same _ _ e))) ∙ apart))) (λ e. refl))

pub one_end_twice : (front other mark name : List ℕ) → bytes_eq (front ++ mark ++ name) (other ++ mark ++ name) ≡ bytes_eq front other
one_end_twice front other mark name = one_end (front ++ mark) (other ++ mark) name ∙ one_end front other mark

-- a word that a mark and a name do not end is none that they end
pub apart : (word other mark name : List ℕ) → ((front : List ℕ) → word ≡ front ++ mark ++ name → ⊥) → bytes_eq word (other ++ mark ++ name) ≡ false
apart word other mark name none = by_test (λ b. b ≡ false) (bytes_eq word (other ++ mark ++ name)) (λ e. absurd (none other (same word _ e))) (λ e. refl)

-- what ends a word, and what ends what is in front of that
pub both_end : (word rest mark name : List ℕ) (o : Option (Bor (List ℕ))) → word ≡ rest ++ name
    → MatchOption o (bytes_eq (drop (length rest - length mark) rest) mark ≡ false) (λ x. (bytes_eq (drop (length rest - length mark) rest) mark ≡ true) × (x.now ≡ take (length rest - length mark) rest) × (length x.now + length mark ≡ length rest))
    → MatchOption o ((front : List ℕ) → word ≡ front ++ mark ++ name → ⊥) (λ front. word ≡ front.now ++ mark ++ name)
both_end word rest mark name None is apart = λ front e. never rest mark front apart (cut word name rest (front ++ mark) is e)
both_end word rest mark name (Some x) is found = is ∙ ap (λ l. l ++ name) (ends rest mark x.now found.0 found.1)

-- a word is empty where it has no octets
pub none_left : (word : List ℕ) (b : Bool) → b ≡ (length word == 0) → b ≡ bytes_eq word []
none_left [] b e = e ∙ grind arith
none_left (x ∷ xs) b e = e ∙ grind arith
