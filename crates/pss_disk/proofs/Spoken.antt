-- What a writer holds after one more piece.
use Rattle.std.proofs.Common.{ℕ, zero, suc, ◌≡◌, ◌+◌, ◌-◌, List, [], ◌∷◌, ◌++◌, length, take, drop, None, Some, sym, ap, ◌∙◌, append_assoc, arith, length-drop}
use Rattle.std.proofs.lemmas.List.{take_all}
use Rattle.std.specs.declared.option.Option.{Option}
use Rattle.std.specs.Io.KnownBytes.{Appends, Keeps}

pub appends_then : (a b c : Option (List ℕ)) (xs ys zs : List ℕ) → zs ≡ xs ++ ys → Appends a b xs → Appends b c ys → Appends a c zs
appends_then None b c xs ys zs e f g = tt
appends_then (Some a) None c xs ys zs e f g = absurd f
appends_then (Some a) (Some b) None xs ys zs e f g = absurd g
appends_then (Some a) (Some b) (Some c) xs ys zs e f g = g ∙ ap (λ l. l ++ ys) f ∙ append_assoc a xs ys ∙ ap (λ l. a ++ l) (sym e)

pub appends_keeps : (a b c : Option (List ℕ)) (xs : List ℕ) → Appends a b xs → Keeps b c → Appends a c xs
appends_keeps None b c xs f g = tt
appends_keeps (Some a) None c xs f g = absurd f
appends_keeps (Some a) (Some b) None xs f g = absurd g
appends_keeps (Some a) (Some b) (Some c) xs f g = g ∙ f

take_nil : (n : ℕ) → take {A = ℕ} n [] ≡ []
take_nil n = take_all n [] (omega arith)

front_and_more : (count more : ℕ) (bytes : List ℕ) → take (count + more) bytes ≡ take count bytes ++ take more (drop count bytes)
front_and_more zero more bytes = ap (λ n. take n bytes) (let e : 0 + more ≡ more = omega arith in e)
front_and_more (suc count) more [] = take_nil (suc count + more) ∙ sym (take_nil more)
front_and_more (suc count) more (b ∷ bytes) =
    ap (λ n. take n (b ∷ bytes)) (let e : suc count + more ≡ suc (count + more) = omega arith in e) ∙ ap (λ l. b ∷ l) (front_and_more count more bytes)

-- the front that is written, and some of the rest
pub next_front : (count more now : ℕ) (bytes : List ℕ) → now ≡ count + more → take now bytes ≡ take count bytes ++ take more (take (length bytes - count) (drop count bytes))
next_front count more now bytes e =
    ap (λ n. take n bytes) e ∙ front_and_more count more bytes ∙ ap (λ l. take count bytes ++ take more l) (sym (take_all (length bytes - count) (drop count bytes) (omega (arith, length-drop count bytes))))
