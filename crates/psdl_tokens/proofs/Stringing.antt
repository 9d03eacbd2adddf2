-- Strings, one character after another.
use Rattle.std.proofs.Common.{◌≡◌, ℕ, zero, suc, ◌+◌, ◌-◌, ◌≤◌, ◌<◌, List, [], ◌∷◌, ◌++◌, length, take, drop, get_or, false, eqb, Option, Some, None, refl, sym, ap, ◌∙◌, arith, append_assoc, length-drop}
use Rattle.std.specs.Option.{option_map}
use Rattle.std.proofs.Math.Seq.{take-length}
use Rattle.std.proofs.lemmas.Bool.{ne_eqb}
use Rattle.std.proofs.lemmas.List.{at_drop_more, drop-drop}
use Rattle.psdl_tokens.specs.declared.character.Character.{Character}
use Rattle.psdl_tokens.specs.declared.quoted.Quoted.{Quoted}
use Rattle.psdl_tokens.specs.Characters.{character, longer, onto_string, taken, string_in}

-- a string behind bytes that were read already, of so many bytes of the text
abbrev pub behind : List ℕ → ℕ → Option Quoted → Option Quoted
behind bytes at string = option_map (λ s. record { bytes = bytes ++ s.bytes; size = s.size + at }) string

same_string : (b b' : List ℕ) (n n' : ℕ) → b ≡ b' → n ≡ n' → ◌≡◌ {A = Option Quoted} (Some (record { bytes = b; size = n })) (Some (record { bytes = b'; size = n' }))
same_string b b' n n' e f = cc

longer-zero : (o : Option Quoted) → o ≡ longer 0 o
longer-zero None = refl
longer-zero (Some s) = same_string s.bytes s.bytes s.size (s.size + 0) refl (omega arith)

longer-longer : (a b c : ℕ) (o : Option Quoted) → c ≡ a + b → longer a (longer b o) ≡ longer c o
longer-longer a b c None e = refl
longer-longer a b c (Some s) e = same_string s.bytes s.bytes ((s.size + b) + a) (s.size + c) refl (omega arith)

-- the bytes of a character that began in front
string_in-inside : (n : ℕ) (xs : List ℕ) → string_in n xs ≡ longer n (string_in 0 (drop n xs))
string_in-inside zero xs = longer-zero (string_in 0 xs)
string_in-inside (suc n) [] = refl
string_in-inside (suc n) (b ∷ bs) = ap (longer 1) (string_in-inside n bs) ∙ longer-longer 1 n (suc n) (string_in 0 (drop n bs)) (omega arith)

string_in-character : (b : ℕ) (bs : List ℕ) → eqb b 34 ≡ false → string_in 0 (b ∷ bs) ≡ onto_string (character (b ∷ bs)) (longer 1 (string_in (taken (character (b ∷ bs)) - 1) bs))
string_in-character b bs h = rw h refl

-- a text from a place on
from : (text : List ℕ) (at : ℕ) → take (length text - at) (drop at text) ≡ drop at text
from text at = ap (λ k. take k (drop at text)) (sym (length-drop at text)) ∙ take-length (drop at text)

onto-behind : (bytes : List ℕ) (at n : ℕ) (c : Character) (o : Option Quoted) → c.size ≡ suc n → behind bytes at (onto_string (Some c) (longer 1 (longer n o))) ≡ behind (bytes ++ c.byte ∷ []) (at + c.size) o
onto-behind bytes at n c None e = refl
onto-behind bytes at n c (Some s) e =
    same_string (bytes ++ c.byte ∷ s.bytes) ((bytes ++ c.byte ∷ []) ++ s.bytes) (((s.size + n) + 1) + at) (s.size + (at + c.size))
    (sym (append_assoc bytes (c.byte ∷ []) s.bytes)) (omega arith)

-- A string was read up to a place: what stands from there on is what is left of it.
abbrev pub ReadTo : List ℕ → ℕ → List ℕ → Type 0
ReadTo rest at bytes = string_in 0 rest ≡ behind bytes at (string_in 0 (drop at rest))

pub read_more : (rest : List ℕ) (at : ℕ) (bytes : List ℕ) (c : Character) → ReadTo rest at bytes → at < length rest → (get_or rest at 0 ≡ 34 → ⊥) → character (take (length rest - at) (drop at rest)) ≡ Some c → 1 ≤ c.size → ReadTo rest (at + c.size) (bytes ++ c.byte ∷ [])
read_more rest at bytes c h lt q e some =
    let here : character (get_or rest at 0 ∷ drop (at + 1) rest) ≡ Some c = sym (at_drop_more character rest at 0 lt) ∙ sym (ap character (from rest at)) ∙ e in
    let n : ℕ = c.size - 1 in
    let sum : (at + 1) + n ≡ at + c.size = omega arith in
    let passed : drop n (drop (at + 1) rest) ≡ drop (at + c.size) rest = drop-drop n (at + 1) rest ∙ ap (λ k. drop k rest) sum in
    h ∙ ap (behind bytes at)
    (at_drop_more (string_in 0) rest at 0 lt ∙ string_in-character (get_or rest at 0) (drop (at + 1) rest) (ne_eqb (get_or rest at 0) 34 q)
    ∙ ap (λ k. onto_string k (longer 1 (string_in (taken k - 1) (drop (at + 1) rest)))) here
    ∙ ap (λ o. onto_string (Some c) (longer 1 o)) (string_in-inside n (drop (at + 1) rest)))
    ∙ onto-behind bytes at n c (string_in 0 (drop n (drop (at + 1) rest))) (omega arith)
    ∙ ap (λ l. behind (bytes ++ c.byte ∷ []) (at + c.size) (string_in 0 l)) passed
