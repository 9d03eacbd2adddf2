-- Each text has a tree or a fault.
use Rattle.std.proofs.Common.{◌≡◌, ℕ, zero, suc, ◌-◌, ◌≤◌, List, [], length, take, Option, Some, None, Result, Ok, Err, refl, sym, ◌∙◌, subst, arith, ◌⊎◌, inl, inr}
use Rattle.std.specs.Prelude.{IsSome}
use Rattle.std.proofs.lemmas.Bool.{cases_lt}
use Rattle.std.proofs.lemmas.List.{append-nil, take_all}
use Rattle.pss_base.specs.declared.place.Place.{Place}
use Rattle.part_readers.specs.declared.refusal.Refusal.TheVariants as refusals
use Rattle.part_readers.specs.Reading.{whole}
use Rattle.part_readers.specs.Sentences.{Begins, IsFirstFault}
use Rattle.psdl_tokens.specs.declared.lexeme.LexicalKind.{LexicalKind}
use Rattle.psdl_tokens.specs.declared.lexeme.LexicalKind.TheVariants as lexical
use Rattle.psdl_tokens.specs.declared.lexis.LexicalFault.{LexicalFault}
use Rattle.psdl_tokens.specs.Places.{place_of}
use Rattle.psdl_tokens.specs.Lexis.{lexed}
use Rattle.psdl_tree.specs.Trees.{Definition, Definitions}
use Rattle.psdl_tree.specs.Views.{definitions_of}
use Rattle.psdl_syntax.specs.declared.fault.Fault.{Fault}
use Rattle.psdl_syntax.specs.declared.fault.Fault.TheVariants.{Unexpected, TooDeep}
use Rattle.psdl_syntax.specs.declared.syntax_fault.SyntaxKind.{SyntaxKind}
use Rattle.psdl_syntax.specs.declared.syntax_fault.SyntaxKind.TheVariants as kinds
use Rattle.psdl_syntax.specs.Seen.{Seen}
use Rattle.psdl_syntax.specs.Grammar.{definitions}
use Rattle.psdl_syntax.specs.Depth.{room, FitsBefore}
use Rattle.psdl_syntax.specs.Productions.{text_at}
use Rattle.psdl_syntax.specs.Syntax.{most_bytes, most_open, words_of, place_at, IsTextOf, IsNoToken, IsFault, HasTreeOrFault}
use Rattle.psdl_syntax.proofs.WholeTexts.{is_found, is_level, is_first, fits_before, is_deep}

module _ (text : List ℕ) where
  abbrev words : List Seen
  words = words_of text

  abbrev HasTree : Type 0
  HasTree = (tree : Definitions) × IsTextOf tree text

  abbrev HasFault : Type 0
  HasFault = (place : Place) × (kind : SyntaxKind) × IsFault text place kind

  lexical_kind : (place : Place) (kind : LexicalKind) → IsNoToken text place kind → HasFault
  lexical_kind place lexical.BadByte f = (place, kinds.BadByte, f)
  lexical_kind place lexical.OpenComment f = (place, kinds.OpenComment, f)
  lexical_kind place lexical.BadLiteral f = (place, kinds.BadLiteral, f)
  lexical_kind place lexical.LiteralTooWide f = (place, kinds.LiteralTooWide, f)
  lexical_kind place lexical.LeftOut f = (place, kinds.LeftOut, f)

  module _ (within : length text ≤ most_bytes) where
    -- a lexical fault behind tokens that begin a text
    no_token : (f : LexicalFault) → (lexed text).fault ≡ Some f → Begins definitions words → IsSome (room most_open words) → HasFault
    no_token f is begun fits = lexical_kind f.place f.kind (record { within = within; fault = is; begun = begun; fits = fits })

    -- tokens that spell a tree
    behind_tree : (tree : Definitions) (fault : Option LexicalFault) → (lexed text).fault ≡ fault → words ≡ definitions tree → room most_open words ≡ Some most_open → HasTree ⊎ HasFault
    behind_tree tree None clean spelled level = inl (tree, record { within = within; clean = clean; spelled = spelled; fits = subst IsSome (sym level) refl })
    behind_tree tree (Some f) is spelled level = inr (no_token f is ([], tree, append-nil words ∙ spelled) (subst IsSome (sym level) refl))

    -- a token that is not expected, or the end
    stopped : (left : ℕ) (fault : Option LexicalFault) → (lexed text).fault ≡ fault → IsFirstFault definitions words left → FitsBefore most_open words left → HasFault
    stopped zero None clean first fits = (place_at text (lexed text).tokens 0, kinds.Unexpected, record { left = 0; stop = record { within = within; first = first; fits = fits; here = refl }; clean = λ e. clean })
    stopped zero (Some f) is first fits =
        let all : take (length words - 0) words ≡ words = take_all (length words - 0) words (omega arith) in
        no_token f is (subst (Begins definitions) all first.before) (subst (λ (ts : List Seen). IsSome (room most_open ts)) all fits)
    stopped (suc left) fault is first fits = (place_at text (lexed text).tokens (suc left), kinds.Unexpected, record { left = suc left; stop = record { within = within; first = first; fits = fits; here = refl }; clean = λ e. absurd (omega (arith, e)) })

    abbrev view : List Definition → List Definition
    view ds = ds

    -- what reading the tokens gives
    by_reading : (read : Result (List Definition) Fault) → whole Unexpected (text_at most_open) words ≡ read → HasTree ⊎ HasFault
    by_reading (Ok ds) is = behind_tree (definitions_of ds) (lexed text).fault refl (is_found most_open view words (Ok ds) is) (is_level most_open view words (Ok ds) is)
    by_reading (Err (Unexpected left)) is = inr (stopped left (lexed text).fault refl (is_first most_open view words (Err (refusals.Fault (Unexpected left))) is) (fits_before most_open view words (Err (refusals.Fault (Unexpected left))) is))
    by_reading (Err (TooDeep left)) is = inr (place_at text (lexed text).tokens left, kinds.TooDeep, record { within = within; left = left; first = is_deep most_open view words (Err (refusals.Fault (TooDeep left))) is; here = refl })

  has_either : HasTree ⊎ HasFault
  has_either =
      elim (cases_lt most_bytes (length text)) [
        | inl over ↦ inr (place_of (take most_bytes text), kinds.TooLong, record { over = over; here = refl })
        | inr within ↦ by_reading within (whole Unexpected (text_at most_open) words) refl
      ]

pub decided : HasTreeOrFault
decided = has_either
