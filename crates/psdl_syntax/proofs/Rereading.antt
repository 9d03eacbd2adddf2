-- The tokens of a canonical text.
use Rattle.std.proofs.Common.{◌≡◌, ℕ, zero, suc, ◌-◌, ◌<◌, List, [], ◌∷◌, ◌++◌, Bool, true, false, ◌||◌, length, drop, map, None, refl, sym, ap, ◌∙◌, subst, arith, append_assoc}
use Rattle.std.specs.List.{list_all}
use Rattle.std.specs.Char.{is_ascii_alphabetic}
use Rattle.std.specs.Fmt.{decimal}
use Rattle.std.proofs.lemmas.Bool.{false≢true, cond_both, and_parts}
use Rattle.std.proofs.lemmas.List.{append-nil, take_at, drop_at}
use Rattle.pss_base.specs.declared.place.Place.{Place}
use Rattle.psdl_tokens.specs.declared.token.Keyword.{Keyword}
use Rattle.psdl_tokens.specs.declared.token.Keyword.TheVariants as keywords
use Rattle.psdl_tokens.specs.declared.token.Mark.{Mark}
use Rattle.psdl_tokens.specs.declared.token.Mark.TheVariants as marks
use Rattle.psdl_tokens.specs.declared.token.TokenKind.{TokenKind}
use Rattle.psdl_tokens.specs.declared.token.TokenKind.TheVariants as kinds
use Rattle.psdl_tokens.specs.declared.lexeme.Lexeme.TheVariants.{Gap, Found}
use Rattle.psdl_syntax.specs.declared.printing.printer.Edge.{Edge}
use Rattle.psdl_syntax.specs.declared.printing.printer.Edge.TheVariants as edges
use Rattle.psdl_tokens.specs.Alphabet.{first, is_blank}
use Rattle.psdl_tokens.specs.Places.{place_of}
use Rattle.psdl_tokens.specs.Spellings.{keyword_spelling, mark_spelling}
use Rattle.psdl_tokens.specs.Lexis.{is_keyword_like, is_left_out, lexeme, before, size_of, lexed_behind, Lexed}
use Rattle.psdl_syntax.specs.Seen.{Seen, Word, Sign, Placed, Named, Number, Quoted, Stray}
use Rattle.psdl_syntax.specs.Canonical.{indent, gap, closing_gap, clings, mark_gap, name_text, string_text, line_end, mark_edge, mark_depth, text_behind}
use Rattle.psdl_syntax.proofs.Following.{mark_ends, behind_keyword, behind_identifier, behind_operand, behind_mark}
use Rattle.psdl_syntax.proofs.MarksAgain.{mark_again}
use Rattle.psdl_syntax.proofs.WordsAgain.{keyword_again, name_again}
use Rattle.psdl_syntax.proofs.IntegersAgain.{integer_is_read, size_decimal}
use Rattle.psdl_syntax.proofs.StringsAgain.{string_again}
use Rattle.psdl_syntax.proofs.Standing.{is_less_mark, may_stand, stand}
use Rattle.psdl_syntax.proofs.Sounding.{kind_of, Sound}
use Rattle.psdl_tokens.proofs.Lexing.{lexed-inside}

indent_blank : (depth : ℕ) → list_all is_blank (indent depth) ≡ true
indent_blank zero = refl
indent_blank (suc depth) = indent_blank depth

gap_blank : (edge : Edge) (depth : ℕ) → list_all is_blank (gap edge depth) ≡ true
gap_blank edges.Line depth = indent_blank depth
gap_blank _ depth = refl

closing_blank : (edge : Edge) (depth : ℕ) → list_all is_blank (closing_gap edge depth) ≡ true
closing_blank edges.Line depth = indent_blank (depth - 1)
closing_blank _ depth = indent_blank (depth - 1)

mark_blank : (edge : Edge) (depth : ℕ) (m : Mark) → list_all is_blank (mark_gap edge depth m) ≡ true
mark_blank edge depth marks.RightBrace = closing_blank edge depth
mark_blank edge depth m = cond_both (clings edge m) [] (gap edge depth) (λ g. list_all is_blank g ≡ true) (λ _. refl) (λ _. gap_blank edge depth)

line_blank : (m : Mark) → list_all is_blank (line_end m) ≡ true
line_blank marks.LeftBrace = refl
line_blank _ = refl

blank_lexeme : (front : List ℕ) (b : ℕ) (bs : List ℕ) → is_blank b ≡ true → lexeme front (b ∷ bs) ≡ Gap 1
unfolding lexeme
blank_lexeme front b bs h = rw h refl

-- blanks in front change nothing but places
lexed_blanks : (blanks front rest : List ℕ) → list_all is_blank blanks ≡ true → lexed_behind 0 front (blanks ++ rest) ≡ lexed_behind 0 (front ++ blanks) rest
lexed_blanks [] front rest h = ap (λ f. lexed_behind 0 f rest) (sym (append-nil front))
lexed_blanks (b ∷ bs) front rest h =
    let both = and_parts (is_blank b) (list_all is_blank bs) h in
    ap (λ l. before l (place_of front) (lexed_behind (size_of l - 1) (front ++ b ∷ []) (bs ++ rest))) (blank_lexeme front b (bs ++ rest) both.0)
    ∙ lexed_blanks bs (front ++ b ∷ []) rest both.1
    ∙ ap (λ f. lexed_behind 0 f rest) (append_assoc front (b ∷ []) bs)

-- a token, and what follows it
lexed_found : (front word rest : List ℕ) (kind : TokenKind) → 0 < length word → lexeme front (word ++ rest) ≡ Found kind (length word) → lexed_behind 0 front (word ++ rest) ≡ before (Found kind (length word)) (place_of front) (lexed_behind 0 (front ++ word) rest)
lexed_found front [] rest kind some e = absurd (omega arith)
lexed_found front (c ∷ cs) rest kind some e =
    let size : length (c ∷ cs) - 1 ≡ length cs = omega arith in
    ap (λ l. before l (place_of front) (lexed_behind (size_of l - 1) (front ++ c ∷ []) (cs ++ rest))) e
    ∙ ap (before (Found kind (length (c ∷ cs))) (place_of front)) (
    ap (λ n. lexed_behind n (front ++ c ∷ []) (cs ++ rest)) size
    ∙ lexed-inside (length cs) (front ++ c ∷ []) (cs ++ rest)
    ∙ ap (λ t. lexed_behind 0 ((front ++ c ∷ []) ++ t) (drop (length cs) (cs ++ rest))) (take_at cs rest (length cs) refl)
    ∙ ap (λ t. lexed_behind 0 ((front ++ c ∷ []) ++ cs) t) (drop_at cs rest (length cs) refl)
    ∙ ap (λ f. lexed_behind 0 f rest) (append_assoc front (c ∷ []) cs)
    )

-- the tokens that are read, of those that were written
pub record Lexes (tokens : List Seen) (found : Lexed) : Type 0 where
  pub no_fault : found.fault ≡ None
  pub kinds_are : map (λ token. token.kind) found.tokens ≡ map kind_of tokens

lexes_more : (t : Seen) (ts : List Seen) (kind : TokenKind) (size : ℕ) (place : Place) (later found : Lexed) → kind ≡ kind_of t → found ≡ before (Found kind size) place later → Lexes ts later → Lexes (t ∷ ts) found
lexes_more t ts kind size place later found k e h = record {
  no_fault = ap (λ l. l.fault) e ∙ h.no_fault;
  kinds_are = ap (λ l. map (λ token. token.kind) l.tokens) e ∙ ap (λ x. x ∷ map (λ token. token.kind) later.tokens) k ∙ ap (λ l. kind_of t ∷ l) h.kinds_are;
}

-- a token behind its gap
lexes_word : (t : Seen) (ts : List Seen) (front blanks word rest : List ℕ) → list_all is_blank blanks ≡ true → 0 < length word → lexeme (front ++ blanks) (word ++ rest) ≡ Found (kind_of t) (length word) → Lexes ts (lexed_behind 0 ((front ++ blanks) ++ word) rest) → Lexes (t ∷ ts) (lexed_behind 0 front (blanks ++ (word ++ rest)))
lexes_word t ts front blanks word rest blank some e h =
    lexes_more t ts (kind_of t) (length word) (place_of (front ++ blanks)) (lexed_behind 0 ((front ++ blanks) ++ word) rest) (lexed_behind 0 front (blanks ++ (word ++ rest))) refl
    (lexed_blanks blanks front (word ++ rest) blank ∙ lexed_found (front ++ blanks) word rest (kind_of t) some e) h

-- a mark behind its gap, with the line's end behind it
lexes_mark : (t : Seen) (m : Mark) (ts : List Seen) (front blanks rest : List ℕ) → kind_of t ≡ kinds.Mark m → list_all is_blank blanks ≡ true → mark_ends m (first (line_end m ++ rest)) ≡ true → Lexes ts (lexed_behind 0 (((front ++ blanks) ++ mark_spelling m) ++ line_end m) rest) → Lexes (t ∷ ts) (lexed_behind 0 front (blanks ++ ((mark_spelling m ++ line_end m) ++ rest)))
lexes_mark t m ts front blanks rest k blank ends h =
    let word : List ℕ = mark_spelling m in
    let line : List ℕ = line_end m in
    let here : List ℕ = front ++ blanks in
    let regrouped : lexed_behind 0 front (blanks ++ ((word ++ line) ++ rest)) ≡ lexed_behind 0 front (blanks ++ (word ++ (line ++ rest))) =
    ap (λ l. lexed_behind 0 front (blanks ++ l)) (append_assoc word line rest) in
    let later : Lexes ts (lexed_behind 0 (here ++ word) (line ++ rest)) =
    subst (Lexes ts) (sym (lexed_blanks line (here ++ word) rest (line_blank m))) h in
    lexes_more t ts (kinds.Mark m) (length word) (place_of here) (lexed_behind 0 (here ++ word) (line ++ rest)) (lexed_behind 0 front (blanks ++ ((word ++ line) ++ rest))) (sym k)
    (regrouped ∙ lexed_blanks blanks front (word ++ (line ++ rest)) blank ∙ lexed_found here word (line ++ rest) (kinds.Mark m) (mark_size m) (mark_again m here (line ++ rest) ends)) later
  where
    mark_size : (m : Mark) → 0 < length (mark_spelling m)
    mark_size marks.LeftBrace = omega arith
    mark_size _ = omega arith

size_name : (name : List ℕ) → is_ascii_alphabetic (first name) ≡ true → 0 < length (name_text name)
unfolding name_text
size_name [] h = absurd (false≢true h)
size_name (c ∷ cs) h = cond_both (is_keyword_like (c ∷ cs) || is_left_out (c ∷ cs)) (95 ∷ c ∷ cs) (c ∷ cs) (λ t. 0 < length t) (λ _. omega arith) (λ _. omega arith)

size_keyword : (k : Keyword) → 0 < length (keyword_spelling k)
size_keyword keywords.Abstract = omega arith
size_keyword _ = omega arith

size_string : (bytes : List ℕ) → 0 < length (string_text bytes)
unfolding string_text
size_string bytes = omega arith

-- tokens that may stand together are read as they were written
pub tokens_again : (less : Bool) (edge : Edge) (depth : ℕ) (front : List ℕ) (ts : List Seen) → stand less ts ≡ true → Sound ts → Lexes ts (lexed_behind 0 front (text_behind edge depth ts))
tokens_again less edge depth front [] h s = record { no_fault = refl; kinds_are = refl }
tokens_again less edge depth front (Word k ∷ ts) h s =
    lexes_word (Word k) ts front (gap edge depth) (keyword_spelling k) (text_behind edges.Spaced depth ts) (gap_blank edge depth) (size_keyword k)
    (keyword_again k (front ++ gap edge depth) (text_behind edges.Spaced depth ts) (behind_keyword depth ts))
    (tokens_again false edges.Spaced depth ((front ++ gap edge depth) ++ keyword_spelling k) ts h s.1)
tokens_again less edge depth front (Sign m ∷ ts) h s =
    let both = and_parts (may_stand less (Sign m)) (stand (is_less_mark m) ts) h in
    lexes_mark (Sign m) m ts front (mark_gap edge depth m) (text_behind (mark_edge edge m) (mark_depth depth m) ts) refl (mark_blank edge depth m)
    (behind_mark m edge (mark_depth depth m) ts both.1 s.1)
    (tokens_again (is_less_mark m) (mark_edge edge m) (mark_depth depth m) (((front ++ mark_gap edge depth m) ++ mark_spelling m) ++ line_end m) ts both.1 s.1)
tokens_again less edge depth front (Placed m p ∷ ts) h s =
    let both = and_parts (may_stand less (Placed m p)) (stand (is_less_mark m) ts) h in
    lexes_mark (Placed m p) m ts front (mark_gap edge depth m) (text_behind (mark_edge edge m) (mark_depth depth m) ts) refl (mark_blank edge depth m)
    (behind_mark m edge (mark_depth depth m) ts both.1 s.1)
    (tokens_again (is_less_mark m) (mark_edge edge m) (mark_depth depth m) (((front ++ mark_gap edge depth m) ++ mark_spelling m) ++ line_end m) ts both.1 s.1)
tokens_again less edge depth front (Named i ∷ ts) h s =
    lexes_word (Named i) ts front (gap edge depth) (name_text i.name) (text_behind edges.Identifier depth ts) (gap_blank edge depth) (size_name i.name s.0.0)
    (name_again (front ++ gap edge depth) i.name (text_behind edges.Identifier depth ts) s.0.0 s.0.1 (behind_identifier depth ts))
    (tokens_again false edges.Identifier depth ((front ++ gap edge depth) ++ name_text i.name) ts h s.1)
tokens_again less edge depth front (Number l ∷ ts) h s =
    lexes_word (Number l) ts front (gap edge depth) (decimal l.value) (text_behind edges.Operand depth ts) (gap_blank edge depth) (size_decimal l.value s.0)
    (integer_is_read (front ++ gap edge depth) l.value (text_behind edges.Operand depth ts) s.0 (behind_operand depth ts))
    (tokens_again false edges.Operand depth ((front ++ gap edge depth) ++ decimal l.value) ts h s.1)
tokens_again less edge depth front (Quoted l ∷ ts) h s =
    lexes_word (Quoted l) ts front (gap edge depth) (string_text l.bytes) (text_behind edges.Operand depth ts) (gap_blank edge depth) (size_string l.bytes)
    (string_again (front ++ gap edge depth) l.bytes (text_behind edges.Operand depth ts) s.0)
    (tokens_again false edges.Operand depth ((front ++ gap edge depth) ++ string_text l.bytes) ts h s.1)
tokens_again less edge depth front (Stray ∷ ts) h s = absurd (false≢true h)
