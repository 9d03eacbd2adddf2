-- A name with those of the modules round it is told apart by its parts, which have no `:`.
use Rattle.std.proofs.Common.{◌≡◌, ℕ, ◌<◌, ◌≤◌, List, length, [], ◌∷◌, ◌++◌, Bool, true, false, ◌||◌, ◌==◌, refl, sym, ap, ◌∙◌, append-nil, append_assoc, arith}
use Rattle.std.specs.Prelude.{codes, reverse}
use Rattle.std.specs.List.{list_all}
use Rattle.std.proofs.lemmas.Bool.{and_parts, and_from}
use Rattle.std.proofs.lemmas.List.{reverse-append, reverse-reverse, same_from_push}
use Rattle.type_layout.specs.Sound.{is_letter, is_word_byte, is_name}
use Rattle.psdl_directory.specs.Declarations.{Path}
use Rattle.psdl_check.specs.Schemas.{scoped}

-- ---- words

-- a colon is no byte of a name
no_colon : is_word_byte 58 ≡ true → ⊥
no_colon e = cc

letter_too : (l d u : Bool) → l ≡ true → (l || d || u) ≡ true
letter_too true d u e = refl
letter_too false d u e = absurd (cc)

-- a name has bytes of words
pub name_word : (w : List ℕ) → is_name w ≡ true → list_all is_word_byte w ≡ true
name_word [] e = absurd (cc)
name_word (b ∷ bs) e =
    let p = and_parts (is_letter b) (list_all is_word_byte bs) e in
    and_from (is_word_byte b) (list_all is_word_byte bs) (letter_too (is_letter b) _ (b == 95) p.0) p.1

words_of : (ws : List (List ℕ)) → list_all is_name ws ≡ true → list_all (λ w. list_all is_word_byte w) ws ≡ true
words_of [] e = refl
words_of (w ∷ ws) e = let p = and_parts (is_name w) (list_all is_name ws) e in and_from (list_all is_word_byte w) (list_all (λ v. list_all is_word_byte v) ws) (name_word w p.0) (words_of ws p.1)

-- ---- words with colons between them

behind : List (List ℕ) → List ℕ
behind [] = []
behind (w ∷ ws) = 58 ∷ 58 ∷ (w ++ behind ws)

joined : List (List ℕ) → List ℕ
joined [] = []
joined (w ∷ ws) = w ++ behind ws

abbrev AreWords : List (List ℕ) → Type 0
AreWords ws = list_all (λ w. list_all is_word_byte w) ws ≡ true

-- the words of the whole
told_apart : (ss ts : List (List ℕ)) (s t : List ℕ) → list_all is_word_byte s ≡ true → list_all is_word_byte t ≡ true → AreWords ss → AreWords ts → s ++ behind ss ≡ t ++ behind ts → s ∷ ss ≡ t ∷ ts
unfolding behind
told_apart [] [] s t p q ps qs e =
    let same : s ≡ t = sym (append-nil s) ∙ e ∙ append-nil t in
    ap (λ (w : List ℕ). w ∷ []) same
told_apart [] (v ∷ ts) s t p q ps qs e = absurd (shorter s t p e)
  where
    shorter : (s t : List ℕ) → list_all is_word_byte s ≡ true → s ++ [] ≡ t ++ (58 ∷ 58 ∷ (v ++ behind ts)) → ⊥
    shorter [] [] p e = cc
    shorter [] (c ∷ t) p e = cc
    shorter (b ∷ s) [] p e =
        let first : b ≡ 58 = cc in
        no_colon (ap is_word_byte (sym first) ∙ (and_parts (is_word_byte b) (list_all is_word_byte s) p).0)
    shorter (b ∷ s) (c ∷ t) p e = shorter s t (and_parts (is_word_byte b) (list_all is_word_byte s) p).1 (cc)
told_apart (u ∷ ss) [] s t p q ps qs e = absurd (longer s t q e)
  where
    longer : (s t : List ℕ) → list_all is_word_byte t ≡ true → s ++ (58 ∷ 58 ∷ (u ++ behind ss)) ≡ t ++ [] → ⊥
    longer [] [] q e = cc
    longer (b ∷ s) [] q e = cc
    longer [] (c ∷ t) q e =
        let first : c ≡ 58 = cc in
        no_colon (ap is_word_byte (sym first) ∙ (and_parts (is_word_byte c) (list_all is_word_byte t) q).0)
    longer (b ∷ s) (c ∷ t) q e = longer s t (and_parts (is_word_byte c) (list_all is_word_byte t) q).1 (cc)
told_apart (u ∷ ss) (v ∷ ts) s t p q ps qs e =
    let us = and_parts (list_all is_word_byte u) (list_all (λ w. list_all is_word_byte w) ss) ps in
    let vs = and_parts (list_all is_word_byte v) (list_all (λ w. list_all is_word_byte w) ts) qs in
    both s t p q e (λ rest. told_apart ss ts u v us.0 vs.0 us.1 vs.1 rest)
  where
    both : (s t : List ℕ) → list_all is_word_byte s ≡ true → list_all is_word_byte t ≡ true → s ++ (58 ∷ 58 ∷ (u ++ behind ss)) ≡ t ++ (58 ∷ 58 ∷ (v ++ behind ts))
        → (u ++ behind ss ≡ v ++ behind ts → u ∷ ss ≡ v ∷ ts) → s ∷ u ∷ ss ≡ t ∷ v ∷ ts
    both [] [] p q e later = ap (λ (l : List (List ℕ)). [] ∷ l) (later (cc))
    both [] (c ∷ t) p q e later =
        let first : c ≡ 58 = cc in
        absurd (no_colon (ap is_word_byte (sym first) ∙ (and_parts (is_word_byte c) (list_all is_word_byte t) q).0))
    both (b ∷ s) [] p q e later =
        let first : b ≡ 58 = cc in
        absurd (no_colon (ap is_word_byte (sym first) ∙ (and_parts (is_word_byte b) (list_all is_word_byte s) p).0))
    both (b ∷ s) (c ∷ t) p q e later =
        let first : b ≡ c = cc in
        let rest = both s t (and_parts (is_word_byte b) (list_all is_word_byte s) p).1 (and_parts (is_word_byte c) (list_all is_word_byte t) q).1 (cc) later in
        with_first b c s t first rest
      where
        with_first : (b c : ℕ) (s t : List ℕ) → b ≡ c → s ∷ u ∷ ss ≡ t ∷ v ∷ ts → (b ∷ s) ∷ u ∷ ss ≡ (c ∷ t) ∷ v ∷ ts
        with_first b c s t first rest = cc

-- ---- a scope from the outermost

-- the modules from the outermost, and the name behind them
outermost : Path → List (List ℕ) → List (List ℕ)
outermost [] ws = ws
outermost (outer ∷ path) ws = outermost path (outer ∷ ws)

scoped_is : (path : Path) (w : List ℕ) (ws : List (List ℕ)) → scoped path (joined (w ∷ ws)) ≡ joined (outermost path (w ∷ ws))
unfolding joined behind outermost
scoped_is [] w ws = refl
scoped_is (outer ∷ path) w ws = ap (scoped path) (append_assoc outer (codes "::") (w ++ behind ws)) ∙ scoped_is path outer (w ∷ ws)

all_words : (path : Path) (ws : List (List ℕ)) → AreWords path → AreWords ws → AreWords (outermost path ws)
unfolding outermost
all_words [] ws p q = q
all_words (outer ∷ path) ws p q =
    let both = and_parts (list_all is_word_byte outer) (list_all (λ w. list_all is_word_byte w) path) p in
    all_words path (outer ∷ ws) both.1 (and_from (list_all is_word_byte outer) (list_all (λ w. list_all is_word_byte w) ws) both.0 q)

turned : (path : Path) (ws : List (List ℕ)) → outermost path ws ≡ reverse path ++ ws
unfolding outermost
turned [] ws = refl
turned (outer ∷ path) ws =
    turned path (outer ∷ ws) ∙ sym (ap (λ (l : List (List ℕ)). l ++ ws) (reverse-append (outer ∷ []) path) ∙ append_assoc (reverse path) (outer ∷ []) ws)

some_words : (path : Path) (ws : List (List ℕ)) → length ws ≤ length (outermost path ws)
unfolding outermost
some_words [] ws = omega arith
some_words (outer ∷ path) ws = omega (arith, some_words path (outer ∷ ws))

alone : (w : List ℕ) → joined (w ∷ []) ≡ w
unfolding joined behind
alone w = append-nil w

-- the words of two wholes
same_words : (ss ts : List (List ℕ)) → 0 < length ss → 0 < length ts → AreWords ss → AreWords ts → joined ss ≡ joined ts → ss ≡ ts
unfolding joined
same_words [] ts some more p q e = absurd (omega (arith, some))
same_words (s ∷ ss) [] some more p q e = absurd (omega (arith, more))
same_words (s ∷ ss) (t ∷ ts) some more p q e =
    let first = and_parts (list_all is_word_byte s) (list_all (λ w. list_all is_word_byte w) ss) p in
    let second = and_parts (list_all is_word_byte t) (list_all (λ w. list_all is_word_byte w) ts) q in
    told_apart ss ts s t first.0 second.0 first.1 second.1 e

spelled_words : (path : Path) (name : List ℕ) → scoped path name ≡ joined (outermost path (name ∷ []))
spelled_words path name = ap (scoped path) (sym (alone name)) ∙ scoped_is path name []

-- two names with their scopes are spelled alike only where they are the same
pub same_scoped : (p q : Path) (n m : List ℕ) → list_all is_name p ≡ true → list_all is_name q ≡ true → is_name n ≡ true → is_name m ≡ true → scoped p n ≡ scoped q m → (p ≡ q) × (n ≡ m)
same_scoped p q n m ps qs ns ms e =
    let in_p : AreWords (outermost p (n ∷ [])) = all_words p (n ∷ []) (words_of p ps) (and_from (list_all is_word_byte n) true (name_word n ns) refl) in
    let in_q : AreWords (outermost q (m ∷ [])) = all_words q (m ∷ []) (words_of q qs) (and_from (list_all is_word_byte m) true (name_word m ms) refl) in
    let words : outermost p (n ∷ []) ≡ outermost q (m ∷ []) =
    same_words (outermost p (n ∷ [])) (outermost q (m ∷ [])) (omega (arith, some_words p (n ∷ []))) (omega (arith, some_words q (m ∷ []))) in_p in_q
    (sym (spelled_words p n) ∙ e ∙ spelled_words q m) in
    let both = same_from_push (reverse p) (reverse q) n m (sym (turned p (n ∷ [])) ∙ words ∙ turned q (m ∷ [])) in
    (sym (reverse-reverse p) ∙ ap (λ (l : List (List ℕ)). reverse l) both.0 ∙ reverse-reverse q, both.1)
