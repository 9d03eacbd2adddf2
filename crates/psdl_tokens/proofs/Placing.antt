-- Places of the bytes of a text, one byte after another.
use Rattle.std.proofs.Common.{◌≡◌, ℕ, ◌+◌, ◌≤◌, ◌<◌, List, [], ◌∷◌, ◌++◌, length, take, drop, get_or, Bool, true, false, ◌||◌, cond, inl, inr, refl, sym, ap, ◌∙◌, arith, count_by}
use Rattle.std.specs.List.{list_any}
use Rattle.std.proofs.lemmas.Bool.{cases_Bool}
use Rattle.std.proofs.lemmas.List.{at_drop_all, length-append, take_more, drop-append-le, length-take}
use Rattle.std.proofs.lemmas.List.Folds.{list_any-append}
use Rattle.std.proofs.lemmas.List.Sums.{count_by-le-length, sum_by-append}
use Rattle.pss_base.specs.declared.place.Place.{Place}
use Rattle.psdl_tokens.specs.Places.{is_line_feed, last_line, place_of}

or_true : (a : Bool) → (a || true) ≡ true
or_true true = refl
or_true false = refl

or_false : (a : Bool) → (a || false) ≡ a
or_false true = refl
or_false false = refl

any_push : (xs : List ℕ) (b : ℕ) → list_any is_line_feed (xs ++ b ∷ []) ≡ (list_any is_line_feed xs || is_line_feed b)
any_push xs b = list_any-append is_line_feed xs (b ∷ []) ∙ ap (λ t. list_any is_line_feed xs || t) (or_false (is_line_feed b))

last_line-yes : (b : ℕ) (bs : List ℕ) → list_any is_line_feed (b ∷ bs) ≡ true → last_line (b ∷ bs) ≡ last_line bs
last_line-yes b bs h = rw h refl

last_line-no : (b : ℕ) (bs : List ℕ) → list_any is_line_feed (b ∷ bs) ≡ false → last_line (b ∷ bs) ≡ b ∷ bs
last_line-no b bs h = rw h refl

-- a line feed ends the line
pub last_line-feed : (front : List ℕ) (b : ℕ) → is_line_feed b ≡ true → last_line (front ++ b ∷ []) ≡ []
last_line-feed [] b h = last_line-yes b [] (any_push [] b ∙ h)
last_line-feed (x ∷ xs) b h =
    last_line-yes x (xs ++ b ∷ []) (any_push (x ∷ xs) b ∙ ap (λ t. list_any is_line_feed (x ∷ xs) || t) h ∙ or_true (list_any is_line_feed (x ∷ xs)))
    ∙ last_line-feed xs b h

-- any other byte stands on it
pub last_line-other : (front : List ℕ) (b : ℕ) → is_line_feed b ≡ false → last_line (front ++ b ∷ []) ≡ last_line front ++ b ∷ []
last_line-other [] b h = last_line-no b [] (any_push [] b ∙ h)
last_line-other (x ∷ xs) b h =
    let same : list_any is_line_feed (x ∷ (xs ++ b ∷ [])) ≡ list_any is_line_feed (x ∷ xs) =
    any_push (x ∷ xs) b ∙ ap (λ t. list_any is_line_feed (x ∷ xs) || t) h ∙ or_false (list_any is_line_feed (x ∷ xs)) in
    elim (cases_Bool (list_any is_line_feed (x ∷ xs))) [
      | inl e ↦ last_line-yes x (xs ++ b ∷ []) (same ∙ e) ∙ last_line-other xs b h ∙ sym (ap (λ l. l ++ b ∷ []) (last_line-yes x xs e))
      | inr e ↦ last_line-no x (xs ++ b ∷ []) (same ∙ e) ∙ sym (ap (λ l. l ++ b ∷ []) (last_line-no x xs e))
    ]

length-last_line : (front : List ℕ) → length (last_line front) ≤ length front
length-last_line [] = omega arith
length-last_line (x ∷ xs) =
    elim (cases_Bool (list_any is_line_feed (x ∷ xs))) [
      | inl e ↦ omega (arith, ap length (last_line-yes x xs e), length-last_line xs)
      | inr e ↦ omega (arith, ap length (last_line-no x xs e))
    ]

one_if : (t : Bool) → t ≡ true → cond {A = ℕ} t 1 0 ≡ 1
one_if t h = ap (λ s. cond s 1 0) h

none_if : (t : Bool) → t ≡ false → cond {A = ℕ} t 1 0 ≡ 0
none_if t h = ap (λ s. cond s 1 0) h

-- a place with these numbers
place_with : (line line' column column' offset offset' : ℕ) → line ≡ line' → column ≡ column' → offset ≡ offset' →
    ◌≡◌ {A = Place} (record { line = line; column = column; offset = offset }) (record { line = line'; column = column'; offset = offset' })
place_with line line' column column' offset offset' l c o = cc

-- the place behind a line feed
pub place_of-feed : (place : Place) (front : List ℕ) (b : ℕ) → b ≡ 10 → place ≡ place_of front → ◌≡◌ {A = Place} (record { line = place.line + 1; column = 1; offset = place.offset + 1 }) (place_of (front ++ b ∷ []))
place_of-feed place front b h e =
    let feed : is_line_feed b ≡ true = rw h refl in
    let counted : count_by is_line_feed (front ++ b ∷ []) ≡ count_by is_line_feed front + 1 =
    omega (arith, sum_by-append (λ x. cond (is_line_feed x) 1 0) front (b ∷ []), one_if (is_line_feed b) feed) in
    let empty : length (last_line (front ++ b ∷ [])) ≡ 0 = ap length (last_line-feed front b feed) in
    place_with _ _ _ _ _ _
    (omega (arith, ap (λ p. p.line) e, counted))
    (omega (arith, empty))
    (omega (arith, ap (λ p. p.offset) e, length-append front (b ∷ [])))

-- the place behind another byte
pub place_of-other : (place : Place) (front : List ℕ) (b : ℕ) → is_line_feed b ≡ false → place ≡ place_of front → ◌≡◌ {A = Place} (record { line = place.line; column = place.column + 1; offset = place.offset + 1 }) (place_of (front ++ b ∷ []))
place_of-other place front b h e =
    let counted : count_by is_line_feed (front ++ b ∷ []) ≡ count_by is_line_feed front =
    omega (arith, sum_by-append (λ x. cond (is_line_feed x) 1 0) front (b ∷ []), none_if (is_line_feed b) h) in
    let one_more : length (last_line (front ++ b ∷ [])) ≡ length (last_line front) + 1 =
    ap length (last_line-other front b h) ∙ length-append (last_line front) (b ∷ []) in
    place_with _ _ _ _ _ _
    (omega (arith, ap (λ p. p.line) e, counted))
    (omega (arith, ap (λ p. p.column) e, one_more))
    (omega (arith, ap (λ p. p.offset) e, length-append front (b ∷ [])))

-- the numbers of a place are at most one more than the bytes in front
pub record PlaceWithin (place : Place) (n : ℕ) : Type 0 where
  pub line : place.line ≤ n + 1
  pub column : place.column ≤ n + 1
  pub offset : place.offset ≤ n

pub place_within : (place : Place) (text : List ℕ) (n : ℕ) → place ≡ place_of (take n text) → PlaceWithin place n
place_within place text n e = record {
  line = omega (arith, ap (λ p. p.line) e, count_by-le-length is_line_feed (take n text), length-take n text);
  column = omega (arith, ap (λ p. p.column) e, length-last_line (take n text), length-take n text);
  offset = omega (arith, ap (λ p. p.offset) e, length-take n text);
}

-- the bytes behind a line feed, one byte later
pub last_line-start : (text : List ℕ) (i : ℕ) → i < length text → get_or text i 0 ≡ 10 → last_line (take (i + 1) text) ≡ drop (i + 1) (take (i + 1) text)
last_line-start text i lt h =
    ap last_line (take_more text i 0 lt) ∙ last_line-feed (take i text) (get_or text i 0) (rw h refl)
    ∙ sym (at_drop_all (λ l. l) (take (i + 1) text) (i + 1) (omega (arith, length-take (i + 1) text)))

pub last_line-more : (text : List ℕ) (i start : ℕ) → i < length text → start ≤ i → is_line_feed (get_or text i 0) ≡ false → last_line (take i text) ≡ drop start (take i text) → last_line (take (i + 1) text) ≡ drop start (take (i + 1) text)
last_line-more text i start lt le h e =
    let long : start ≤ length (take i text) = omega (arith, length-take i text) in
    ap last_line (take_more text i 0 lt) ∙ last_line-other (take i text) (get_or text i 0) h
    ∙ ap (λ l. l ++ get_or text i 0 ∷ []) e ∙ sym (drop-append-le start (take i text) (get_or text i 0 ∷ []) long)
    ∙ sym (ap (λ l. drop start l) (take_more text i 0 lt))
