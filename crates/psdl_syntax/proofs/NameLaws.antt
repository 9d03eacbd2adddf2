-- The readers of names keep to the grammar.
use Rattle.std.proofs.Common.{◌≡◌, ℕ, false, List, [], ◌∷◌, ◌++◌, Option, Some, None, refl}
use Rattle.pss_base.specs.declared.place.Place.{Place}
use Rattle.part_readers.specs.Reading.{starts, both, optional, separated}
use Rattle.part_readers.specs.Sentences.{joined, maybe}
use Rattle.part_readers.proofs.Boths.{both_reads, mapped_reads, both_tokens}
use Rattle.part_readers.proofs.Choices.{optional_reads}
use Rattle.psdl_tokens.specs.declared.token.Mark.TheVariants as marks
use Rattle.psdl_tree.specs.declared.names.Identifier.{Identifier}
use Rattle.psdl_tree.specs.declared.names.NamePart.{NamePart}
use Rattle.psdl_syntax.specs.Seen.{Seen, Placed, Named}
use Rattle.psdl_tree.specs.Trees.{Name, Names, Identifiers}
use Rattle.psdl_syntax.specs.Grammar.{placed, identifier, name_part, name, names, identifiers, after_commas}
use Rattle.psdl_syntax.specs.Productions.{is_mark, place_at, identifier_at, name_part_at, name_at, names_at, identifiers_at, listed}
use Rattle.psdl_syntax.proofs.Psdl.{psdl, Keeps, Ends, place_keeps, identifier_keeps}
use Rattle.psdl_syntax.proofs.Parts.{anything, separated_keeps, listed_keeps}

-- how a name begins
pub name_head : (P : List Seen → Type 0) → ((p : Place) (rest : List Seen) → P (Placed marks.Scope p ∷ rest)) → ((i : Identifier) (rest : List Seen) → P (Named i ∷ rest)) → (n : Name) (rest : List Seen) → P (name n ++ rest)
name_head P scoped plain n rest = by_leading n.leading
  where
    by_leading : (leading : Option Place) → P ((maybe (placed marks.Scope) leading ++ (identifier n.first ++ joined name_part n.others)) ++ rest)
    by_leading None = plain n.first (joined name_part n.others ++ rest)
    by_leading (Some p) = scoped p ((identifier n.first ++ joined name_part n.others) ++ rest)

abbrev pub NameEnds : List Seen → Type 0
NameEnds = Ends (is_mark marks.Scope ∷ [])

name_part_keeps : (d : ℕ) (E : List Seen → Type 0) → Keeps d d name_part_at name_part E
unfolding name_part_at
name_part_keeps d E = mapped_reads psdl d d (λ p. record { scope = p.0; name = p.1 }) (λ (n : NamePart). (n.scope, n.name)) (both (place_at marks.Scope) identifier_at) (both_tokens (placed marks.Scope) identifier) name_part E
    (both_reads psdl d d d (place_at marks.Scope) identifier_at (placed marks.Scope) identifier anything E (place_keeps marks.Scope d refl anything) (identifier_keeps d E) (λ y rest h. tt)) (λ y. refl) (λ x. refl)

abbrev name_of_parts : Option Place × (Identifier × List NamePart) → Name
name_of_parts p = record { leading = p.0; first = p.1.0; others = p.1.1 }

abbrev parts_of_name : Name → Option Place × (Identifier × List NamePart)
parts_of_name n = (n.leading, (n.first, n.others))

abbrev rest_tokens : Identifier × List NamePart → List Seen
rest_tokens p = identifier p.0 ++ joined name_part p.1

pub name_keeps : (d : ℕ) → Keeps d d name_at name NameEnds
unfolding name_at
name_keeps d = mapped_reads psdl d d name_of_parts parts_of_name (both (optional (is_mark marks.Scope) (place_at marks.Scope)) (separated (is_mark marks.Scope) identifier_at name_part_at)) (both_tokens (maybe (placed marks.Scope)) rest_tokens) name NameEnds
    (both_reads psdl d d d (optional (is_mark marks.Scope) (place_at marks.Scope)) (separated (is_mark marks.Scope) identifier_at name_part_at) (maybe (placed marks.Scope)) rest_tokens (λ rest. (starts (is_mark marks.Scope) rest ≡ false) × anything rest) NameEnds
    (optional_reads psdl d (is_mark marks.Scope) (place_at marks.Scope) (placed marks.Scope) anything (place_keeps marks.Scope d refl anything) (λ x rest. refl))
    (separated_keeps d (is_mark marks.Scope) identifier_at name_part_at identifier name_part anything (identifier_keeps d anything) (name_part_keeps d anything) (λ y rest. refl) (λ y rest. tt))
    (λ y rest h. (refl, tt)))
    (λ y. refl) (λ x. refl)

abbrev pub NamesEnds : List Seen → Type 0
NamesEnds = Ends (is_mark marks.Comma ∷ is_mark marks.Scope ∷ [])

pub names_keeps : (d : ℕ) → Keeps d d names_at names NamesEnds
unfolding names_at
names_keeps d = mapped_reads psdl d d (λ p. record { first = p.0; others = p.1 }) (λ (n : Names). (n.first, n.others)) (listed name_at) (λ p. name p.0 ++ after_commas name p.1) names NamesEnds
    (listed_keeps d name_at name NameEnds (name_keeps d) (λ rest. (refl, tt))) (λ y. refl) (λ x. refl)

abbrev pub IdentifiersEnds : List Seen → Type 0
IdentifiersEnds = Ends (is_mark marks.Comma ∷ [])

pub identifiers_keeps : (d : ℕ) → Keeps d d identifiers_at identifiers IdentifiersEnds
unfolding identifiers_at
identifiers_keeps d = mapped_reads psdl d d (λ p. record { first = p.0; others = p.1 }) (λ (n : Identifiers). (n.first, n.others)) (listed identifier_at) (λ p. identifier p.0 ++ after_commas identifier p.1) identifiers IdentifiersEnds
    (listed_keeps d identifier_at identifier anything (identifier_keeps d anything) (λ rest. tt)) (λ y. refl) (λ x. refl)
