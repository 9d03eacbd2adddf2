-- The tokens of a text, one lexeme after another.
use Rattle.std.proofs.Common.{◌≡◌, ℕ, zero, suc, ◌+◌, ◌-◌, ◌≤◌, ◌<◌, List, [], ◌∷◌, ◌++◌, length, take, drop, get_or, refl, sym, ap, ◌∙◌, arith, append_assoc, length-drop}
use Rattle.std.proofs.Math.Seq.{take-length, take-add}
use Rattle.std.proofs.lemmas.List.{at_drop_more, append-nil, drop-drop, length-take}
use Rattle.pss_base.specs.declared.place.Place.{Place}
use Rattle.psdl_tokens.specs.declared.token.Token.{Token}
use Rattle.psdl_tokens.specs.declared.token.TokenKind.{TokenKind}
use Rattle.psdl_tokens.specs.declared.lexeme.Lexeme.{Lexeme}
use Rattle.psdl_tokens.specs.declared.lexeme.Lexeme.TheVariants.{Gap, Found}
use Rattle.psdl_tokens.specs.Places.{place_of}
use Rattle.psdl_tokens.specs.Lexis.{Lexed, lexeme, size_of, before, lexed_behind, lexed}

-- the bytes of a lexeme that began in front
pub lexed-inside : (n : ℕ) (front xs : List ℕ) → lexed_behind n front xs ≡ lexed_behind 0 (front ++ take n xs) (drop n xs)
lexed-inside zero front xs = ap (λ f. lexed_behind 0 f xs) (sym (append-nil front))
lexed-inside (suc n) front [] = refl
lexed-inside (suc n) front (b ∷ bs) =
    lexed-inside n (front ++ b ∷ []) bs ∙ ap (λ f. lexed_behind 0 f (drop n bs)) (append_assoc front (b ∷ []) (take n bs))

-- what follows a place
abbrev pub rest_of : List ℕ → ℕ → Lexed
rest_of text at = lexed_behind 0 (take at text) (drop at text)

-- a lexeme, and what follows it
pub lexed_at : (text : List ℕ) (at size : ℕ) (l : Lexeme) → at < length text → lexeme (take at text) (drop at text) ≡ l → 1 ≤ size → size_of l ≡ size → rest_of text at ≡ before l (place_of (take at text)) (rest_of text (at + size))
lexed_at text at size l lt e some is =
    let b : ℕ = get_or text at 0 in
    let bs : List ℕ = drop (at + 1) text in
    let front : List ℕ = take at text in
    let n : ℕ = size - 1 in
    let sized : size ≡ suc n = omega arith in
    let here : lexeme front (b ∷ bs) ≡ l = sym (at_drop_more (lexeme front) text at 0 lt) ∙ e in
    let part : b ∷ take n bs ≡ take size (drop at text) =
    ap (λ k. take k (b ∷ bs)) (sym sized) ∙ sym (at_drop_more (take size) text at 0 lt) in
    let passed : drop n bs ≡ drop (at + size) text = drop-drop n (at + 1) text ∙ ap (λ k. drop k text) (omega arith) in
    let sum : (front ++ b ∷ []) ++ take n bs ≡ take (at + size) text =
    append_assoc front (b ∷ []) (take n bs) ∙ ap (λ t. front ++ t) part ∙ sym (take-add at size text) in
    at_drop_more (lexed_behind 0 front) text at 0 lt
    ∙ ap (λ k. before k (place_of front) (lexed_behind (size_of k - 1) (front ++ b ∷ []) bs)) here
    ∙ ap (λ k. before l (place_of front) (lexed_behind (k - 1) (front ++ b ∷ []) bs)) is
    ∙ ap (before l (place_of front)) (lexed-inside n (front ++ b ∷ []) bs ∙ ap (λ f. lexed_behind 0 f (drop n bs)) sum ∙ ap (λ t. lexed_behind 0 (take (at + size) text) t) passed)

-- These tokens stand in front of a place, and no fault.
pub record LexedTo (text : List ℕ) (tokens : List Token) (place : Place) : Type 0 where
  pub placed : place ≡ place_of (take place.offset text)
  pub within : place.offset ≤ length text
  pub tokens_are : (lexed text).tokens ≡ tokens ++ (rest_of text place.offset).tokens
  pub fault_is : (lexed text).fault ≡ (rest_of text place.offset).fault

pub lexed_start : (text : List ℕ) → LexedTo text [] (record { line = 1; column = 1; offset = 0 })
unfolding lexed
lexed_start text = record { placed = refl; within = omega arith; tokens_are = refl; fault_is = refl }

-- what stands at a place of which the text from there on was looked at
looked_at : (text : List ℕ) (at : ℕ) (l : Lexeme) → l ≡ lexeme (take at text) (take (length text - at) (drop at text)) → lexeme (take at text) (drop at text) ≡ l
looked_at text at l e = sym (e ∙ ap (lexeme (take at text)) (ap (λ k. take k (drop at text)) (sym (length-drop at text)) ∙ take-length (drop at text)))

offset_behind : (text : List ℕ) (place next : Place) (size : ℕ) → place.offset + size ≤ length text → next ≡ place_of (take (place.offset + size) text) → next.offset ≡ place.offset + size
offset_behind text place next size le e = omega (arith, ap (λ p. p.offset) e, length-take (place.offset + size) text)

-- a blank or a comment
pub lexed_gap : (text : List ℕ) (tokens : List Token) (place next : Place) (size : ℕ) → LexedTo text tokens place → place.offset < length text → Gap size ≡ lexeme (take place.offset text) (take (length text - place.offset) (drop place.offset text)) → 1 ≤ size → place.offset + size ≤ length text → next ≡ place_of (take (place.offset + size) text) → LexedTo text tokens next
lexed_gap text tokens place next size to lt e some le is =
    let there : next.offset ≡ place.offset + size = offset_behind text place next size le is in
    let step : rest_of text place.offset ≡ rest_of text (place.offset + size) = lexed_at text place.offset size (Gap size) lt (looked_at text place.offset (Gap size) e) some refl in
    let on : rest_of text place.offset ≡ rest_of text next.offset = step ∙ ap (rest_of text) (sym there) in
    record {
      placed = is ∙ ap (λ k. place_of (take k text)) (sym there);
      within = omega arith;
      tokens_are = to.tokens_are ∙ ap (λ k. tokens ++ k.tokens) on;
      fault_is = to.fault_is ∙ ap (λ k. k.fault) on;
    }

-- a token
pub lexed_token : (text : List ℕ) (tokens : List Token) (place next : Place) (kind : TokenKind) (size : ℕ) → LexedTo text tokens place → place.offset < length text → Found kind size ≡ lexeme (take place.offset text) (take (length text - place.offset) (drop place.offset text)) → 1 ≤ size → place.offset + size ≤ length text → next ≡ place_of (take (place.offset + size) text) → LexedTo text (tokens ++ record { place = place; kind = kind } ∷ []) next
lexed_token text tokens place next kind size to lt e some le is =
    let token : Token = record { place = place; kind = kind } in
    let there : next.offset ≡ place.offset + size = offset_behind text place next size le is in
    let step : rest_of text place.offset ≡ before (Found kind size) (place_of (take place.offset text)) (rest_of text (place.offset + size)) = lexed_at text place.offset size (Found kind size) lt (looked_at text place.offset (Found kind size) e) some refl in
    let on : rest_of text place.offset ≡ before (Found kind size) place (rest_of text next.offset) =
    step ∙ ap (λ p. before (Found kind size) p (rest_of text (place.offset + size))) (sym to.placed)
    ∙ ap (λ k. before (Found kind size) place (rest_of text k)) (sym there) in
    record {
      placed = is ∙ ap (λ k. place_of (take k text)) (sym there);
      within = omega arith;
      tokens_are = to.tokens_are ∙ ap (λ k. tokens ++ k.tokens) on ∙ sym (append_assoc tokens (token ∷ []) (rest_of text next.offset).tokens);
      fault_is = to.fault_is ∙ ap (λ k. k.fault) on;
    }
