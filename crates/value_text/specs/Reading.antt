-- Reading from left to right.
use Rattle.std.specs.Prelude.{◌≡◌, ◌+◌, ◌*◌, ◌^◌, ℕ, zero, suc, List, [], ◌∷◌, length, drop, codes, position, Result, Ok, Err, Option, Some, None, Bool, true, false, not, ◌&&◌, ◌||◌, nat_lt, ◌==◌, if◌then◌else◌}
use Rattle.std.specs.List.{take_while, prefix_len}
use Rattle.std.specs.Str.{bytes_eq}
use Rattle.std.specs.Char.{is_digit, digit_value}
use Rattle.std.specs.Str.Parse.{digits_value}
use Rattle.pss_base.specs.Blanks.{is_blank}
use Rattle.pss_base.specs.PidText.{pid_of}
use Rattle.type_layout.specs.Types.{PlainType, Short, Long, LongLong, UShort, ULong, ULongLong, Char, Boolean, Octet, Str, Seq, Arr, Struct, Enum, RefTo, PlainFields, no_fields, field_and, PlainValue, Int, Character, Truth, Ordinal, Text, Items, Parts, Ref, values_of}
use Rattle.value_text.specs.declared.fault.ValueFault.{ValueFault}
use Rattle.value_text.specs.declared.fault.ValueFault.TheVariants.{BadValue, NoMemory}
use Rattle.value_text.specs.Words.{digits_of, is_decimal, number_of, truth_text}
use Rattle.value_text.specs.Letters.{is_raw, is_escaped}

infixl 10 ◌>>=◌
-- a step, and the next with what the first gave
abbrev pub ◌>>=◌ : {A B : Type 0} → Option A → (A → Option B) → Option B
None >>= next = None
(Some x) >>= next = next x

-- what is made of a value, or else another thing
abbrev pub given : {A B : Type 0} → Option A → B → (A → B) → B
given None other f = other
given (Some x) other f = f x

-- a function that failed says what reading says, unless memory ran out
abbrev pub Fails : {Y : Type 0} → ValueFault → Option Y → Type 0
Fails BadValue read = read ≡ None
Fails NoMemory read = Unit {0}

-- what a function returned, seen by view, is what reading gives, unless memory ran out
abbrev pub Gives : {X Y : Type 0} → (X → Y) → Result X ValueFault → Option Y → Type 0
Gives view (Ok x) read = read ≡ Some (view x)
Gives view (Err fault) read = Fails fault read

-- from the front of a text, what is read and what is behind it
abbrev pub Reader : Type 0 → Type 0
Reader A = List ℕ → Option (A × List ℕ)

-- what was read, seen as another thing
abbrev pub seen : {A B : Type 0} → (A → B) → Reader A → Reader B
seen f read text = read text >>= λ x. Some (f x.0, x.1)

-- ---- words

-- a byte in a word: no blank, comma or closing bracket
abbrev pub is_part : ℕ → Bool
is_part b = not (is_blank b || b == 44 || b == 93 || b == 125)

-- the bytes up to the first that is in no word, by their meaning
abbrev pub word_at : {A : Type 0} → (List ℕ → Option A) → Reader A
word_at meaning text = meaning (take_while is_part text) >>= λ x. Some (x, drop (prefix_len is_part text) text)

-- a number that may be of some type
abbrev pub number_in : List ℕ → Option PlainValue
number_in word = if is_decimal (digits_of word) && nat_lt (digits_value 10 (digits_of word)) (2 ^ 64) then Some (Int (number_of word)) else None

abbrev pub truth_in : List ℕ → Option PlainValue
truth_in word =
    if bytes_eq word (truth_text true) then Some (Truth true)
    else if bytes_eq word (truth_text false) then Some (Truth false)
    else None

-- the first enumerator of this name
abbrev pub enumerator_in : List (List ℕ) → List ℕ → Option PlainValue
enumerator_in names word = position (λ name. bytes_eq name word) names >>= λ n. if nat_lt n (2 ^ 32) then Some (Ordinal n) else None

abbrev pub reference_in : List ℕ → Option PlainValue
reference_in word =
    if bytes_eq word (codes "nil") then Some (Ref None)
    else pid_of word >>= λ pid. Some (Ref (Some pid))

-- ---- bytes between quotes

-- the text behind a byte
abbrev pub behind : ℕ → List ℕ → Option (List ℕ)
behind b [] = None
behind b (c ∷ rest) = if c == b then Some rest else None

-- the byte of two hexadecimal digits
abbrev pub digits_at : Reader ℕ
digits_at (high ∷ low ∷ rest) = if is_digit high 16 && is_digit low 16 then Some (digit_value high * 16 + digit_value low, rest) else None
digits_at _ = None

-- behind a `\`
abbrev pub escape_at : ℕ → Reader ℕ
escape_at quote [] = None
escape_at quote (b ∷ rest) = if is_escaped quote b then Some (b, rest) else if b == 120 then digits_at rest else None

unfoldable pub byte_at : ℕ → Reader ℕ
byte_at quote [] = None
byte_at quote (b ∷ rest) = if b == 92 then escape_at quote rest else if is_raw quote b then Some (b, rest) else None

-- bytes up to the quote, in so many steps
unfoldable pub bytes_at : ℕ → ℕ → Reader (List ℕ)
bytes_at quote zero text = None
bytes_at quote (suc n) text =
    given (behind quote text) (byte_at quote text >>= λ first. bytes_at quote n first.1 >>= λ others. Some (first.0 ∷ others.0, others.1)) (λ rest. Some ([], rest))

unfoldable pub character_at : Reader ℕ
character_at text = behind 39 text >>= λ inside. byte_at 39 inside >>= λ c. behind 39 c.1 >>= λ rest. Some (c.0, rest)

unfoldable pub string_at : Reader (List ℕ)
string_at text = behind 34 text >>= λ inside. bytes_at 34 (length inside) inside

-- ---- several

-- a comma, behind which an item follows, or the bracket behind the last
abbrev pub separator_at : Reader Bool
separator_at [] = None
separator_at (b ∷ rest) = if b == 44 then Some (true, rest) else if b == 93 then Some (false, rest) else None

-- an item, and whether another one follows
unfoldable pub item_at : Reader PlainValue → Reader (PlainValue × Bool)
item_at one text = one text >>= λ item. separator_at item.1 >>= λ next. Some ((item.0, next.0), next.1)

-- items up to the bracket, in so many steps
unfoldable pub more_at : Reader PlainValue → ℕ → Reader (List PlainValue)
more_at one zero text = None
more_at one (suc n) text =
    item_at one text >>= λ first. if first.0.1 then (more_at one n first.1 >>= λ others. Some (first.0.0 ∷ others.0, others.1)) else Some (first.0.0 ∷ [], first.1)

-- none or more items in brackets
unfoldable pub items_at : Reader PlainValue → Reader (List PlainValue)
items_at one text = behind 91 text >>= λ inside. given (behind 93 inside) (more_at one (length inside) inside) (λ rest. Some ([], rest))

-- what stands behind a comma
abbrev pub after_comma : Reader PlainValue → Reader PlainValue
after_comma one text = behind 44 text >>= one

abbrev pub list_at : Reader PlainValue → Reader PlainValue
list_at one = seen (λ vs. Items (values_of vs)) (items_at one)

unfoldable mutual
  pub value_at : PlainType → Reader PlainValue
  value_at Short text = word_at number_in text
  value_at Long text = word_at number_in text
  value_at LongLong text = word_at number_in text
  value_at UShort text = word_at number_in text
  value_at ULong text = word_at number_in text
  value_at ULongLong text = word_at number_in text
  value_at Char text = seen Character character_at text
  value_at Boolean text = word_at truth_in text
  value_at Octet text = word_at number_in text
  value_at (Str bound) text = seen Text string_at text
  value_at (Seq item bound) text = list_at (value_at item) text
  value_at (Arr item n) text = list_at (value_at item) text
  value_at (Struct fields) text = behind 123 text >>= λ inside. fields_at fields inside >>= λ vs. behind 125 vs.1 >>= λ rest. Some (Parts (values_of vs.0), rest)
  value_at (Enum names) text = word_at (enumerator_in names) text
  value_at (RefTo homes) text = word_at reference_in text

  pub fields_at : PlainFields → Reader (List PlainValue)
  fields_at no_fields text = Some ([], text)
  fields_at (field_and name type fields) text = value_at type text >>= λ first. more_fields_at fields first.1 >>= λ others. Some (first.0 ∷ others.0, others.1)

  -- fields behind a first one, each behind a comma
  pub more_fields_at : PlainFields → Reader (List PlainValue)
  more_fields_at no_fields text = Some ([], text)
  more_fields_at (field_and name type fields) text = after_comma (value_at type) text >>= λ first. more_fields_at fields first.1 >>= λ others. Some (first.0 ∷ others.0, others.1)
