-- The tokens of a text stand at places of their own, so that those of another text, but for places, are theirs moved.
use Rattle.std.proofs.Common.{◌≡◌, ℕ, zero, suc, ◌+◌, ◌-◌, ◌≤◌, List, [], ◌∷◌, ◌++◌, Bool, true, false, cond, ◌==◌, length, map, Option, Some, None, refl, sym, ap, ◌∙◌, arith, length-append, subst}
use Rattle.std.proofs.lemmas.Bool.{cond-true, cond-false, eq-eqb, ne_eqb}
use Rattle.std.specs.Option.{option_and_then}
use Rattle.pss_base.specs.declared.place.Place.{Place}
use Rattle.psdl_tokens.specs.declared.token.Mark.{Mark}
use Rattle.psdl_tokens.specs.declared.token.Token.{Token}
use Rattle.psdl_tokens.specs.declared.token.TokenKind.{TokenKind}
use Rattle.psdl_tokens.specs.declared.token.TokenKind.TheVariants as kinds
use Rattle.psdl_tokens.specs.declared.lexeme.Lexeme.{Lexeme}
use Rattle.psdl_tokens.specs.declared.lexeme.Lexeme.TheVariants.{Gap, Found, Wrong}
use Rattle.psdl_tokens.specs.Places.{place_of}
use Rattle.psdl_tokens.specs.Lexis.{Lexed, lexeme, size_of, before, lexed_behind, lexed}
use Rattle.psdl_syntax.specs.Seen.{Seen, Word, Sign, Placed, Named, Number, Quoted, Stray, seen, seen_kind, keeps_place}
use Rattle.psdl_syntax.specs.Depth.{room, room_behind}
use Rattle.psdl_syntax.proofs.Moving.{moved_seen}

-- each token stands behind the one in front, and the first not in front of an offset
abbrev Rising : ℕ → List Token → Type 0
Rising least [] = Unit {0}
Rising least (token ∷ tokens) = (least ≤ token.place.offset) × Rising (token.place.offset + 1) tokens

rising_less : (m n : ℕ) (ts : List Token) → m ≤ n → Rising n ts → Rising m ts
rising_less m n [] le h = tt
rising_less m n (t ∷ ts) le h = let here : n ≤ t.place.offset = h.0 in (omega arith, h.1)

rising_before : (l : Lexeme) (front : List ℕ) (later : Lexed) → Rising (length front + 1) later.tokens → Rising (length front) (before l (place_of front) later).tokens
rising_before (Gap size) front later h = rising_less (length front) (length front + 1) later.tokens (omega arith) h
rising_before (Found kind size) front later h = (omega arith, h)
rising_before (Wrong kind) front later h = tt

one_longer : (front : List ℕ) (b : ℕ) → length (front ++ b ∷ []) ≡ length front + 1
one_longer front b = length-append front (b ∷ [])

rising_behind : (inside : ℕ) (front rest : List ℕ) → Rising (length front) (lexed_behind inside front rest).tokens
rising_behind inside front [] = tt
rising_behind (suc inside) front (b ∷ bs) =
    let longer = one_longer front b in
    rising_less (length front) (length (front ++ b ∷ [])) (lexed_behind inside (front ++ b ∷ []) bs).tokens (omega arith) (rising_behind inside (front ++ b ∷ []) bs)
rising_behind zero front (b ∷ bs) =
    let l : Lexeme = lexeme front (b ∷ bs) in
    let later : Lexed = lexed_behind (size_of l - 1) (front ++ b ∷ []) bs in
    rising_before l front later (subst (λ n. Rising n later.tokens) (one_longer front b) (rising_behind (size_of l - 1) (front ++ b ∷ []) bs))

rising_tokens : (text : List ℕ) → Rising 0 (lexed text).tokens
unfolding lexed
rising_tokens text = rising_behind 0 [] text

-- the place of the token with the same number, for the place of a token
abbrev pub relocated : List Token → List Token → Place → Place
relocated [] others place = place
relocated (token ∷ tokens) [] place = place
relocated (token ∷ tokens) (other ∷ others) place = cond (token.place.offset == place.offset) other.place (relocated tokens others place)

-- tokens are moved to where the others stand
abbrev Meets : (Place → Place) → List Token → List Token → Type 0
Meets move [] others = Unit {0}
Meets move (token ∷ tokens) [] = Unit {0}
Meets move (token ∷ tokens) (other ∷ others) = (move token.place ≡ other.place) × Meets move tokens others

-- what is moved alike meets alike
meets_alike : (f g : Place → Place) (least : ℕ) (ts us : List Token) → ((p : Place) → least ≤ p.offset → f p ≡ g p) → Rising least ts → Meets g ts us → Meets f ts us
meets_alike f g least [] us alike rising h = tt
meets_alike f g least (t ∷ ts) [] alike rising h = tt
meets_alike f g least (t ∷ ts) (u ∷ us) alike rising h =
    let here : least ≤ t.place.offset = rising.0 in
    (alike t.place here ∙ h.0, meets_alike f g (t.place.offset + 1) ts us (λ p le. alike p (omega arith)) rising.1 h.1)

meets_relocated : (least : ℕ) (ts us : List Token) → Rising least ts → Meets (relocated ts us) ts us
meets_relocated least [] us rising = tt
meets_relocated least (t ∷ ts) [] rising = tt
meets_relocated least (t ∷ ts) (u ∷ us) rising =
    let others : (p : Place) → t.place.offset + 1 ≤ p.offset → relocated (t ∷ ts) (u ∷ us) p ≡ relocated ts us p =
    λ p le. cond-false (t.place.offset == p.offset) u.place (relocated ts us p) (ne_eqb t.place.offset p.offset (λ e. omega arith)) in (
      cond-true (t.place.offset == t.place.offset) u.place (relocated ts us t.place) (eq-eqb t.place.offset t.place.offset refl),
      meets_alike (relocated (t ∷ ts) (u ∷ us)) (relocated ts us) (t.place.offset + 1) ts us others rising.1 (meets_relocated (t.place.offset + 1) ts us rising.1),
    )

-- a token at another place
mark_moved : (move : Place → Place) (place : Place) (m : Mark) → seen_kind (move place) (kinds.Mark m) ≡ moved_seen move (seen_kind place (kinds.Mark m))
mark_moved move place m = both (keeps_place m)
  where
    both : (keeps : Bool) → cond {A = Seen} keeps (Placed m (move place)) (Sign m) ≡ moved_seen move (cond keeps (Placed m place) (Sign m))
    both true = refl
    both false = refl

kind_moved : (move : Place → Place) (place : Place) (kind : TokenKind) → seen_kind (move place) kind ≡ moved_seen move (seen_kind place kind)
kind_moved move place (kinds.Keyword keyword) = refl
kind_moved move place (kinds.Mark mark) = mark_moved move place mark
kind_moved move place (kinds.Identifier name) = refl
kind_moved move place kinds.Miscased = refl
kind_moved move place (kinds.Integer value) = refl
kind_moved move place (kinds.Text bytes) = refl

token_moved : (move : Place → Place) (t u : Token) → move t.place ≡ u.place → u.kind ≡ t.kind → seen u ≡ moved_seen move (seen t)
token_moved move t u there same =
    ap (λ p. seen_kind p u.kind) (sym there) ∙ ap (seen_kind (move t.place)) same ∙ kind_moved move t.place t.kind

tokens_moved : (move : Place → Place) (ts us : List Token) → map (λ token. token.kind) us ≡ map (λ token. token.kind) ts → Meets move ts us → map seen us ≡ map (moved_seen move) (map seen ts)
tokens_moved move [] [] same h = refl
tokens_moved move [] (u ∷ us) same h = cc
tokens_moved move (t ∷ ts) [] same h = cc
tokens_moved move (t ∷ ts) (u ∷ us) same h =
    let first : u.kind ≡ t.kind = cc in
    let others : map (λ token. token.kind) us ≡ map (λ token. token.kind) ts = cc in
    ap (λ s. s ∷ map seen us) (token_moved move t u h.0 first) ∙ ap (λ l. moved_seen move (seen t) ∷ l) (tokens_moved move ts us others h.1)

-- the tokens of a text, moved to where those of another stand that are the same but for places
pub relocated_tokens : (text : List ℕ) (us : List Token) → map (λ token. token.kind) us ≡ map (λ token. token.kind) (lexed text).tokens → map seen us ≡ map (moved_seen (relocated (lexed text).tokens us)) (map seen (lexed text).tokens)
relocated_tokens text us same =
    tokens_moved (relocated (lexed text).tokens us) (lexed text).tokens us same (meets_relocated 0 (lexed text).tokens us (rising_tokens text))

-- places do not count for brackets
room_one : (move : Place → Place) (n : ℕ) (t : Seen) → room_behind n (moved_seen move t) ≡ room_behind n t
room_one move n (Word k) = refl
room_one move n (Sign m) = refl
room_one move n (Placed m p) = refl
room_one move n (Named i) = refl
room_one move n (Number l) = refl
room_one move n (Quoted l) = refl
room_one move n Stray = refl

same_steps : (f g : ℕ → Option ℕ) (o : Option ℕ) → ((n : ℕ) → f n ≡ g n) → option_and_then f o ≡ option_and_then g o
same_steps f g None each = refl
same_steps f g (Some n) each = each n

pub room_moved : (move : Place → Place) (most : ℕ) (ts : List Seen) → room most (map (moved_seen move) ts) ≡ room most ts
room_moved move most [] = refl
room_moved move most (t ∷ ts) =
    ap (option_and_then (λ n. room n (map (moved_seen move) ts))) (room_one move most t)
    ∙ same_steps (λ n. room n (map (moved_seen move) ts)) (λ n. room n ts) (room_behind most t) (λ n. room_moved move n ts)
