-- The readers of types and declarators keep to the grammar.
use Rattle.std.proofs.Common.{ap, ◌≡◌, ℕ, suc, ◌-◌, Bool, true, false, List, [], ◌∷◌, ◌++◌, Option, Some, None, refl, subst, ◌⊎◌, inl, inr, arith}
use Rattle.std.specs.Prelude.{is_some}
use Rattle.part_readers.specs.Reading.{starts, mapped, both, either, optional}
use Rattle.part_readers.specs.Sentences.{maybe}
use Rattle.part_readers.proofs.Boths.{both_reads, mapped_reads, both_tokens}
use Rattle.part_readers.proofs.Choices.{either_reads, either_tokens, optional_reads}
use Rattle.part_readers.proofs.Steps.{narrowed}
use Rattle.psdl_tokens.specs.declared.token.Keyword.{Keyword}
use Rattle.psdl_tokens.specs.declared.token.Keyword.TheVariants as keywords
use Rattle.psdl_tokens.specs.declared.token.Mark.{Mark}
use Rattle.psdl_tokens.specs.declared.token.Mark.TheVariants as marks
use Rattle.psdl_tree.specs.declared.types.IntegerType.{IntegerType}
use Rattle.psdl_tree.specs.declared.types.IntegerSize.{IntegerSize}
use Rattle.psdl_tree.specs.declared.types.IntegerSize.TheVariants as sizes
use Rattle.psdl_syntax.specs.Seen.{Seen, Word, Sign, Placed}
use Rattle.psdl_tree.specs.Trees.{Name, Expression, PlainType, IntegerPlain, CharPlain, BooleanPlain, OctetPlain, StringPlain, NamePlain}
use Rattle.psdl_syntax.specs.Grammar.{name, unsigned, integer_size, integer, string_bound, plain_type, braced, expression}
use Rattle.psdl_syntax.specs.Productions.{Reads, is_word, is_mark, sign_part, place_part, word_at, enclosed, between, braces, name_at, expression_at, size_of, integer_size_at, integer_at, is_integer, plain_of, bound_at, string_at, plain_type_at}
use Rattle.psdl_syntax.proofs.Psdl.{psdl, Keeps, Ends, word_keeps, sign_told, sign_only, place_told, place_only, some_place}
use Rattle.psdl_syntax.proofs.Parts.{anything, behind_word_keeps}
use Rattle.psdl_syntax.proofs.Enclosed.{enclosed_keeps}
use Rattle.psdl_syntax.proofs.NameLaws.{NameEnds, name_head, name_keeps}
use Rattle.psdl_syntax.specs.Depth.{room_behind_mark}
use Rattle.psdl_syntax.proofs.Numbers.{keyword_self}
use Rattle.psdl_syntax.proofs.ExpressionLaws.{ExpressionEnds, expression_at_keeps}

-- what one less is
one_down : (c d : ℕ) → d ≡ suc c → c ≡ d - 1
one_down c d e = omega (arith, e)

-- a sign, a part at one less depth, and the sign that ends it
pub between_keeps : {B : Type 0} (o close : Mark) → ((c : ℕ) → room_behind_mark (suc c) o ≡ Some c) → (room_behind_mark 0 o ≡ None) → ((c : ℕ) → room_behind_mark c close ≡ Some (suc c)) → (inner : Reads B) (s : B → List Seen) (some_b : B) (EI : List Seen → Type 0) → ((rest : List Seen) → EI (Sign close ∷ rest)) → (d : ℕ) → ((c : ℕ) → d ≡ suc c → Keeps c c inner s EI) → (E : List Seen → Type 0) → Keeps d d (between o close inner d) (λ x. Sign o ∷ (s x ++ Sign close ∷ [])) E
between_keeps {B} o close step none shut inner s some_b EI apart d is E =
    mapped_reads psdl d d (λ (p : Unit {0} × B). p.1) (λ x. (tt, x)) (enclosed (sign_part o) close inner d) (λ p. Sign o ∷ (s p.1 ++ Sign close ∷ [])) (λ x. Sign o ∷ (s x ++ Sign close ∷ [])) E
    (enclosed_keeps (sign_part o) (λ x. Sign o) (sign_told o) (sign_only o) (λ c x. step c) (λ x. none) tt close shut inner s some_b EI apart d is E)
    (λ y. refl) (λ x. refl)

-- the same at a reader of each depth
pub between_keeps_at : {B : Type 0} (o close : Mark) → ((c : ℕ) → room_behind_mark (suc c) o ≡ Some c) → (room_behind_mark 0 o ≡ None) → ((c : ℕ) → room_behind_mark c close ≡ Some (suc c)) → (inner : ℕ → Reads B) (s : B → List Seen) (EI : List Seen → Type 0) → ((rest : List Seen) → EI (Sign close ∷ rest)) → (d : ℕ) → ((c : ℕ) → Keeps c c (inner c) s EI) → (E : List Seen → Type 0) → Keeps d d (between o close (inner (d - 1)) d) (λ x. Sign o ∷ (s x ++ Sign close ∷ [])) E
between_keeps_at {B} o close step none shut inner s EI apart d is E =
    between_keeps o close step none shut (inner (d - 1)) s (is 0).some EI apart d (λ c e. subst (λ (m : ℕ). Keeps c c (inner m) s EI) (one_down c d e) (is c)) E

pub braces_keep_at : {B : Type 0} (inner : ℕ → Reads B) (s : B → List Seen) (EI : List Seen → Type 0) → ((rest : List Seen) → EI (Sign marks.RightBrace ∷ rest)) → (d : ℕ) → ((c : ℕ) → Keeps c c (inner c) s EI) → (E : List Seen → Type 0) → Keeps d d (braces (inner (d - 1)) d) (λ x. braced (s x)) E
braces_keep_at inner s EI apart d is E = between_keeps_at marks.LeftBrace marks.RightBrace (λ c. refl) refl (λ c. refl) inner s EI apart d is E

-- ( with its place, and what it encloses
pub parens_keep_at : {B : Type 0} (inner : ℕ → Reads B) (s : B → List Seen) (EI : List Seen → Type 0) → ((rest : List Seen) → EI (Sign marks.RightParen ∷ rest)) → (d : ℕ) → ((c : ℕ) → Keeps c c (inner c) s EI) → (E : List Seen → Type 0) → Keeps d d (enclosed (place_part marks.LeftParen) marks.RightParen (inner (d - 1)) d) (λ p. Placed marks.LeftParen p.0 ∷ (s p.1 ++ Sign marks.RightParen ∷ [])) E
parens_keep_at inner s EI apart d is E =
    enclosed_keeps (place_part marks.LeftParen) (λ p. Placed marks.LeftParen p) (place_told marks.LeftParen) (place_only marks.LeftParen) (λ c x. refl) (λ x. refl) some_place marks.RightParen (λ c. refl) (inner (d - 1)) s (is 0).some EI apart d (λ c e. subst (λ (m : ℕ). Keeps c c (inner m) s EI) (one_down c d e) (is c)) E

abbrev pub LongEnds : List Seen → Type 0
LongEnds = Ends (is_word keywords.Long ∷ [])

abbrev size_parts : IntegerSize → Unit {0} ⊎ (Unit {0} × Option (Unit {0}))
size_parts sizes.Short = inl tt
size_parts sizes.Long = inr (tt, None)
size_parts sizes.LongLong = inr (tt, Some tt)

size_onto : (x : IntegerSize) → size_of (size_parts x) ≡ x
size_onto sizes.Short = refl
size_onto sizes.Long = refl
size_onto sizes.LongLong = refl

abbrev long_tokens : Unit {0} → List Seen
long_tokens x = Word keywords.Long ∷ []

abbrev size_tokens : Unit {0} ⊎ (Unit {0} × Option (Unit {0})) → List Seen
size_tokens = either_tokens (λ x. Word keywords.Short ∷ []) (both_tokens long_tokens (maybe long_tokens))

size_spelled : (x : Unit {0} ⊎ (Unit {0} × Option (Unit {0}))) → integer_size (size_of x) ≡ size_tokens x
size_spelled (inl x) = refl
size_spelled (inr (x, None)) = refl
size_spelled (inr (x, Some y)) = refl

integer_size_keeps : (d : ℕ) → Keeps d d integer_size_at integer_size LongEnds
unfolding integer_size_at
integer_size_keeps d = mapped_reads psdl d d size_of size_parts (either (is_word keywords.Short) (word_at keywords.Short) (both (word_at keywords.Long) (optional (is_word keywords.Long) (word_at keywords.Long)))) size_tokens integer_size LongEnds
    (either_reads psdl d d (is_word keywords.Short) (word_at keywords.Short) (both (word_at keywords.Long) (optional (is_word keywords.Long) (word_at keywords.Long))) (λ x. Word keywords.Short ∷ []) (both_tokens long_tokens (maybe long_tokens)) LongEnds (word_keeps keywords.Short d LongEnds)
    (both_reads psdl d d d (word_at keywords.Long) (optional (is_word keywords.Long) (word_at keywords.Long)) long_tokens (maybe long_tokens) anything LongEnds (word_keeps keywords.Long d anything)
    (optional_reads psdl d (is_word keywords.Long) (word_at keywords.Long) long_tokens anything (word_keeps keywords.Long d anything) (λ x rest. refl)) (λ y rest h. tt))
    (λ x rest. refl) (λ y rest h. refl))
    size_onto size_spelled

abbrev flag : Bool → Option (Unit {0})
flag true = Some tt
flag false = None

flag_onto : (b : Bool) → is_some (flag b) ≡ b
flag_onto true = refl
flag_onto false = refl

abbrev word_tokens : Keyword → Unit {0} → List Seen
word_tokens k x = Word k ∷ []

flag_spelled : (k : Keyword) (spell : Bool → List Seen) → spell true ≡ Word k ∷ [] → spell false ≡ [] → (o : Option (Unit {0})) → spell (is_some o) ≡ maybe (word_tokens k) o
flag_spelled k spell there lacking None = lacking
flag_spelled k spell there lacking (Some x) = there

-- a word that may stand in front of something
pub flag_keeps : (k : Keyword) (spell : Bool → List Seen) → spell true ≡ Word k ∷ [] → spell false ≡ [] → (d : ℕ) → Keeps d d (mapped is_some (optional (is_word k) (word_at k))) spell (Ends (is_word k ∷ []))
flag_keeps k spell there lacking d = mapped_reads psdl d d is_some flag (optional (is_word k) (word_at k)) (maybe (word_tokens k)) spell (Ends (is_word k ∷ []))
    (optional_reads psdl d (is_word k) (word_at k) (word_tokens k) anything (word_keeps k d anything) (λ x rest. keyword_self k)) flag_onto (flag_spelled k spell there lacking)

size_head : (P : List Seen → Type 0) → ((rest : List Seen) → P (Word keywords.Short ∷ rest)) → ((rest : List Seen) → P (Word keywords.Long ∷ rest)) → (x : IntegerSize) (rest : List Seen) → P (integer_size x ++ rest)
size_head P short long sizes.Short rest = short rest
size_head P short long sizes.Long rest = long rest
size_head P short long sizes.LongLong rest = long (Word keywords.Long ∷ rest)

pub integer_head : (P : List Seen → Type 0) → ((rest : List Seen) → P (Word keywords.Unsigned ∷ rest)) → ((rest : List Seen) → P (Word keywords.Short ∷ rest)) → ((rest : List Seen) → P (Word keywords.Long ∷ rest)) → (x : IntegerType) (rest : List Seen) → P (integer x ++ rest)
integer_head P is_unsigned short long x rest = by_sign x.unsigned
  where
    by_sign : (b : Bool) → P ((unsigned b ++ integer_size x.size) ++ rest)
    by_sign true = is_unsigned (integer_size x.size ++ rest)
    by_sign false = size_head P short long x.size rest

pub integer_keeps : (d : ℕ) → Keeps d d integer_at integer LongEnds
unfolding integer_at
integer_keeps d = mapped_reads psdl d d (λ (p : Option (Unit {0}) × IntegerSize). record { unsigned = is_some p.0; size = p.1 }) (λ (x : IntegerType). (flag x.unsigned, x.size)) (both (optional (is_word keywords.Unsigned) (word_at keywords.Unsigned)) integer_size_at) (both_tokens (maybe (word_tokens keywords.Unsigned)) integer_size) integer LongEnds
    (both_reads psdl d d d (optional (is_word keywords.Unsigned) (word_at keywords.Unsigned)) integer_size_at (maybe (word_tokens keywords.Unsigned)) integer_size (Ends (is_word keywords.Unsigned ∷ [])) LongEnds
    (optional_reads psdl d (is_word keywords.Unsigned) (word_at keywords.Unsigned) (word_tokens keywords.Unsigned) anything (word_keeps keywords.Unsigned d anything) (λ x rest. refl))
    (integer_size_keeps d) (λ y rest h. size_head (Ends (is_word keywords.Unsigned ∷ [])) (λ tail. (refl, tt)) (λ tail. (refl, tt)) y rest))
    (λ x. ap (λ (b : Bool). record x { unsigned = b }) (flag_onto x.unsigned)) (λ p. ap (λ (l : List Seen). l ++ integer_size p.1) (flag_spelled keywords.Unsigned unsigned refl refl p.0))

abbrev pub PlainEnds : List Seen → Type 0
PlainEnds = Ends (is_word keywords.Long ∷ is_mark marks.Less ∷ is_mark marks.Scope ∷ [])

bound_keeps : (d : ℕ) (E : List Seen → Type 0) → Keeps d d (bound_at d) string_bound E
unfolding bound_at
bound_keeps d E = between_keeps_at marks.Less marks.Greater (λ c. refl) refl (λ c. refl) expression_at expression ExpressionEnds (λ rest. (refl, (refl, (refl, (refl, (refl, (refl, (refl, tt)))))))) d expression_at_keeps E

abbrev string_tokens : Option Expression → List Seen
string_tokens bound = Word keywords.String ∷ maybe string_bound bound

string_keeps : (d : ℕ) → Keeps d d (string_at d) string_tokens (Ends (is_mark marks.Less ∷ []))
unfolding string_at
string_keeps d = behind_word_keeps d d (optional (is_mark marks.Less) (bound_at d)) (maybe string_bound) (Ends (is_mark marks.Less ∷ [])) (optional_reads psdl d (is_mark marks.Less) (bound_at d) string_bound anything (bound_keeps d anything) (λ x rest. refl)) keywords.String

abbrev PlainSum : Type 0
PlainSum = IntegerType ⊎ (Unit {0} ⊎ (Unit {0} ⊎ (Unit {0} ⊎ (Option Expression ⊎ Name))))

abbrev plain_parts : PlainType → PlainSum
plain_parts (IntegerPlain i) = inl i
plain_parts CharPlain = inr (inl tt)
plain_parts BooleanPlain = inr (inr (inl tt))
plain_parts OctetPlain = inr (inr (inr (inl tt)))
plain_parts (StringPlain bound) = inr (inr (inr (inr (inl bound))))
plain_parts (NamePlain n) = inr (inr (inr (inr (inr n))))

plain_onto : (x : PlainType) → plain_of (plain_parts x) ≡ x
plain_onto (IntegerPlain i) = refl
plain_onto CharPlain = refl
plain_onto BooleanPlain = refl
plain_onto OctetPlain = refl
plain_onto (StringPlain bound) = refl
plain_onto (NamePlain n) = refl

abbrev string_or_name : Option Expression ⊎ Name → List Seen
string_or_name = either_tokens string_tokens name

abbrev octet_or : Unit {0} ⊎ (Option Expression ⊎ Name) → List Seen
octet_or = either_tokens (word_tokens keywords.Octet) string_or_name

abbrev boolean_or : Unit {0} ⊎ (Unit {0} ⊎ (Option Expression ⊎ Name)) → List Seen
boolean_or = either_tokens (word_tokens keywords.Boolean) octet_or

abbrev char_or : Unit {0} ⊎ (Unit {0} ⊎ (Unit {0} ⊎ (Option Expression ⊎ Name))) → List Seen
char_or = either_tokens (word_tokens keywords.Char) boolean_or

plain_spelled : (x : PlainSum) → plain_type (plain_of x) ≡ either_tokens integer char_or x
plain_spelled (inl i) = refl
plain_spelled (inr (inl x)) = refl
plain_spelled (inr (inr (inl x))) = refl
plain_spelled (inr (inr (inr (inl x)))) = refl
plain_spelled (inr (inr (inr (inr (inl bound))))) = refl
plain_spelled (inr (inr (inr (inr (inr n))))) = refl

no_integer : (y : Unit {0} ⊎ (Unit {0} ⊎ (Unit {0} ⊎ (Option Expression ⊎ Name)))) (rest : List Seen) → starts (is_integer) (char_or y ++ rest) ≡ false
no_integer (inl x) rest = refl
no_integer (inr (inl x)) rest = refl
no_integer (inr (inr (inl x))) rest = refl
no_integer (inr (inr (inr (inl b)))) rest = refl
no_integer (inr (inr (inr (inr n)))) rest = name_head (λ l. starts (is_integer) l ≡ false) (λ p tail. refl) (λ i tail. refl) n rest

no_char : (y : Unit {0} ⊎ (Unit {0} ⊎ (Option Expression ⊎ Name))) (rest : List Seen) → starts (is_word keywords.Char) (boolean_or y ++ rest) ≡ false
no_char (inl x) rest = refl
no_char (inr (inl x)) rest = refl
no_char (inr (inr (inl b))) rest = refl
no_char (inr (inr (inr n))) rest = name_head (λ l. starts (is_word keywords.Char) l ≡ false) (λ p tail. refl) (λ i tail. refl) n rest

no_boolean : (y : Unit {0} ⊎ (Option Expression ⊎ Name)) (rest : List Seen) → starts (is_word keywords.Boolean) (octet_or y ++ rest) ≡ false
no_boolean (inl x) rest = refl
no_boolean (inr (inl b)) rest = refl
no_boolean (inr (inr n)) rest = name_head (λ l. starts (is_word keywords.Boolean) l ≡ false) (λ p tail. refl) (λ i tail. refl) n rest

no_octet : (y : Option Expression ⊎ Name) (rest : List Seen) → starts (is_word keywords.Octet) (string_or_name y ++ rest) ≡ false
no_octet (inl b) rest = refl
no_octet (inr n) rest = name_head (λ l. starts (is_word keywords.Octet) l ≡ false) (λ p tail. refl) (λ i tail. refl) n rest

no_string : (y : Name) (rest : List Seen) → starts (is_word keywords.String) (name y ++ rest) ≡ false
no_string n rest = name_head (λ l. starts (is_word keywords.String) l ≡ false) (λ p tail. refl) (λ i tail. refl) n rest

pub plain_type_keeps : (d : ℕ) → Keeps d d (plain_type_at d) plain_type PlainEnds
unfolding plain_type_at
plain_type_keeps d =
    let names : Keeps d d name_at name PlainEnds = narrowed psdl d d name_at name NameEnds PlainEnds (λ rest h. (h.1.1.0, tt)) (name_keeps d) in
    let strings : Keeps d d (string_at d) string_tokens PlainEnds = narrowed psdl d d (string_at d) string_tokens (Ends (is_mark marks.Less ∷ [])) PlainEnds (λ rest h. (h.1.0, tt)) (string_keeps d) in
    let integers : Keeps d d integer_at integer PlainEnds = narrowed psdl d d integer_at integer LongEnds PlainEnds (λ rest h. (h.0, tt)) (integer_keeps d) in
    let r5 : Reads (Option Expression ⊎ Name) = either (is_word keywords.String) (string_at d) name_at in
    let r4 : Reads (Unit {0} ⊎ (Option Expression ⊎ Name)) = either (is_word keywords.Octet) (word_at keywords.Octet) r5 in
    let r3 : Reads (Unit {0} ⊎ (Unit {0} ⊎ (Option Expression ⊎ Name))) = either (is_word keywords.Boolean) (word_at keywords.Boolean) r4 in
    let r2 : Reads (Unit {0} ⊎ (Unit {0} ⊎ (Unit {0} ⊎ (Option Expression ⊎ Name)))) = either (is_word keywords.Char) (word_at keywords.Char) r3 in
    let k5 : Keeps d d r5 string_or_name PlainEnds = either_reads psdl d d (is_word keywords.String) (string_at d) name_at string_tokens name PlainEnds strings names (λ x rest. refl) (λ y rest h. no_string y rest) in
    let k4 : Keeps d d r4 octet_or PlainEnds = either_reads psdl d d (is_word keywords.Octet) (word_at keywords.Octet) r5 (word_tokens keywords.Octet) string_or_name PlainEnds (word_keeps keywords.Octet d PlainEnds) k5 (λ x rest. refl) (λ y rest h. no_octet y rest) in
    let k3 : Keeps d d r3 boolean_or PlainEnds = either_reads psdl d d (is_word keywords.Boolean) (word_at keywords.Boolean) r4 (word_tokens keywords.Boolean) octet_or PlainEnds (word_keeps keywords.Boolean d PlainEnds) k4 (λ x rest. refl) (λ y rest h. no_boolean y rest) in
    let k2 : Keeps d d r2 char_or PlainEnds = either_reads psdl d d (is_word keywords.Char) (word_at keywords.Char) r3 (word_tokens keywords.Char) boolean_or PlainEnds (word_keeps keywords.Char d PlainEnds) k3 (λ x rest. refl) (λ y rest h. no_char y rest) in
    mapped_reads psdl d d plain_of plain_parts (either is_integer integer_at r2) (either_tokens integer char_or) plain_type PlainEnds
    (either_reads psdl d d is_integer integer_at r2 integer char_or PlainEnds integers k2 (integer_head (λ l. starts is_integer l ≡ true) (λ tail. refl) (λ tail. refl) (λ tail. refl)) (λ y rest h. no_integer y rest))
    plain_onto plain_spelled
