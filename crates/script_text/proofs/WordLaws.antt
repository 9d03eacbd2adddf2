-- The first word of a text stands behind its blanks, up to the next blank.
use Rattle.std.proofs.Common.{◌≡◌, ℕ, suc, ◌+◌, ◌-◌, ◌<◌, ◌≤◌, List, [], ◌∷◌, length, take, drop, Bool, true, false, not, refl, sym, ◌∙◌, ap, arith, length-drop}
use Rattle.std.proofs.lemmas.Grind.{common_steps}
use Rattle.std.specs.List.{list_any, prefix_len}
use Rattle.pss_base.specs.Blanks.{is_blank, behind_blanks}
use Rattle.script_text.specs.Words.{Word, begins_word, words_from}

-- a byte of a word
abbrev pub no_blank : ℕ → Bool
no_blank b = not (is_blank b)

-- the word of these first bytes of a text
abbrev pub word_to : ℕ → List ℕ → ℕ → Word
word_to column xs n = record { text = take n xs; column = column; rest = record { column = column + n; text = drop n xs } }

next_column : (c n : ℕ) → c + 1 + n ≡ c + suc n
next_column c n = omega arith

one_add : (n : ℕ) → 1 + n ≡ suc n
one_add n = omega arith

blanks_by : (c x : ℕ) (xs : List ℕ) (b : Bool) → is_blank x ≡ b → words_from (c + 1) xs ≡ words_from (c + 1 + prefix_len is_blank xs) (drop (prefix_len is_blank xs) xs)
    → words_from c (x ∷ xs) ≡ words_from (c + prefix_len is_blank (x ∷ xs)) (drop (prefix_len is_blank (x ∷ xs)) (x ∷ xs))
blanks_by c x xs true e rest = rw (e, one_add) (rest ∙ ap (λ n. words_from n (drop (prefix_len is_blank xs) xs)) (next_column c (prefix_len is_blank xs)))
blanks_by c x xs false e rest =
    let none : prefix_len is_blank (x ∷ xs) ≡ 0 = rw e refl in
    let same : c ≡ c + 0 = omega arith in
    ap (λ n. words_from n (x ∷ xs)) same ∙ ap (λ n. words_from (c + n) (drop n (x ∷ xs))) (sym none)

blanks_gone : (c : ℕ) (xs : List ℕ) → words_from c xs ≡ words_from (c + prefix_len is_blank xs) (drop (prefix_len is_blank xs) xs)
blanks_gone c [] = refl
blanks_gone c (x ∷ xs) = blanks_by c x xs (is_blank x) refl (blanks_gone (c + 1) xs)

-- the rest of a text begins with no word where no byte of a word comes first
word_by : (c x : ℕ) (xs : List ℕ) (b : Bool) → begins_word xs ≡ b
    → (b ≡ true → words_from (c + 1) xs ≡ word_to (c + 1) xs (prefix_len no_blank xs) ∷ words_from (c + 1 + prefix_len no_blank xs) (drop (prefix_len no_blank xs) xs)) → is_blank x ≡ false
    → words_from c (x ∷ xs) ≡ word_to c (x ∷ xs) (prefix_len no_blank (x ∷ xs)) ∷ words_from (c + prefix_len no_blank (x ∷ xs)) (drop (prefix_len no_blank (x ∷ xs)) (x ∷ xs))
word_by c x xs true e rest apart = rw (apart, e, one_add, rest refl, next_column) refl
word_by c x [] false e rest apart = rw apart refl
word_by c x (y ∷ ys) false e rest apart = rw (apart, e) refl

word_first : (c : ℕ) (xs : List ℕ) → begins_word xs ≡ true → words_from c xs ≡ word_to c xs (prefix_len no_blank xs) ∷ words_from (c + prefix_len no_blank xs) (drop (prefix_len no_blank xs) xs)
word_first c [] e = cc
word_first c (x ∷ xs) e = word_by c x xs (begins_word xs) refl (word_first (c + 1) xs) (grind (arith, common_steps))

-- what stands behind the blanks is empty, or begins with a word
blanks_end : (xs : List ℕ) → prefix_len no_blank (drop (prefix_len is_blank xs) xs) ≡ 0 → drop (prefix_len is_blank xs) xs ≡ []
blanks_end [] e = refl
blanks_end (x ∷ xs) e = end_by x xs (is_blank x) refl (blanks_end xs) e
  where
    end_by : (x : ℕ) (xs : List ℕ) (b : Bool) → is_blank x ≡ b → (prefix_len no_blank (drop (prefix_len is_blank xs) xs) ≡ 0 → drop (prefix_len is_blank xs) xs ≡ [])
        → prefix_len no_blank (drop (prefix_len is_blank (x ∷ xs)) (x ∷ xs)) ≡ 0 → drop (prefix_len is_blank (x ∷ xs)) (x ∷ xs) ≡ []
    end_by x xs true e rest zero_len = rw (e, one_add) (rest (rw (e, one_add) at zero_len))
    end_by x xs false e rest zero_len = absurd (let n = simp e at zero_len in omega (arith, n))

begins_by : (xs : List ℕ) → 0 < prefix_len no_blank xs → begins_word xs ≡ true
begins_by [] h = absurd (omega arith)
begins_by (x ∷ xs) h = grind (arith, common_steps)

-- blanks are no more than there are bytes
within : (xs : List ℕ) → prefix_len is_blank xs ≤ length xs
within [] = omega arith
within (x ∷ xs) = by x xs (is_blank x) refl (within xs)
  where
    by : (x : ℕ) (xs : List ℕ) (b : Bool) → is_blank x ≡ b → prefix_len is_blank xs ≤ length xs → prefix_len is_blank (x ∷ xs) ≤ length (x ∷ xs)
    by x xs true e rest = rw e (omega arith)
    by x xs false e rest = rw e (omega arith)

blank_count : (text behind : List ℕ) → behind ≡ behind_blanks text → length text - length behind ≡ prefix_len is_blank text
blank_count text behind e = omega (arith, within text, length-drop (prefix_len is_blank text) text, ap length e)

pub next_found : (c column : ℕ) (text behind : List ℕ) (len : ℕ) → behind ≡ behind_blanks text → len ≡ prefix_len no_blank behind → (len ≡ 0 → ⊥) → column ≡ c + (length text - length behind)
    → words_from c text ≡ word_to column behind len ∷ words_from (column + len) (drop len behind)
next_found c column text behind len is at some at_column =
    let same : c + prefix_len is_blank text ≡ column = omega (arith, at_column, blank_count text behind is) in
    let begins : begins_word behind ≡ true = begins_by behind (omega (arith, at, some)) in
    blanks_gone c text ∙ ap (λ n. words_from n (behind_blanks text)) same ∙ ap (words_from column) (sym is)
    ∙ word_first column behind begins ∙ ap (λ n. word_to column behind n ∷ words_from (column + n) (drop n behind)) (sym at)

pub none_found : (c : ℕ) (text behind : List ℕ) (len : ℕ) → behind ≡ behind_blanks text → len ≡ prefix_len no_blank behind → len ≡ 0 → words_from c text ≡ []
none_found c text behind len is at none =
    let gone : behind_blanks text ≡ [] = blanks_end text (ap (prefix_len no_blank) (sym is) ∙ sym at ∙ none) in
    blanks_gone c text ∙ ap (words_from (c + prefix_len is_blank text)) gone

-- behind one blank
pub one_found : (c : ℕ) (text behind : List ℕ) (len : ℕ) → text ≡ 32 ∷ behind → len ≡ prefix_len no_blank behind → (len ≡ 0 → ⊥) → words_from c text ≡ word_to (c + 1) behind len ∷ words_from (c + 1 + len) (drop len behind)
one_found c text behind len is at some =
    ap (words_from c) is ∙ word_first (c + 1) behind (begins_by behind (omega (arith, at, some))) ∙ ap (λ n. word_to (c + 1) behind n ∷ words_from (c + 1 + n) (drop n behind)) (sym at)

-- a text without a blank is a word
pub whole_word : (xs : List ℕ) → list_any is_blank xs ≡ false → length xs ≡ prefix_len no_blank xs
whole_word [] e = refl
whole_word (x ∷ xs) e = by x xs (is_blank x) refl (whole_word xs) e
  where
    by : (x : ℕ) (xs : List ℕ) (b : Bool) → is_blank x ≡ b → (list_any is_blank xs ≡ false → length xs ≡ prefix_len no_blank xs) → list_any is_blank (x ∷ xs) ≡ false → length (x ∷ xs) ≡ prefix_len no_blank (x ∷ xs)
    by x xs true is rest e = cc
    by x xs false is rest e =
        let next : length xs ≡ prefix_len no_blank xs = rest (rw is at e) in
        rw is (omega (arith, next))
