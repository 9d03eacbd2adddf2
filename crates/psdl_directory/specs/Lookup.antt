-- What names mean.
use Rattle.std.specs.Prelude.{ℕ, ◌+◌, List, [], ◌∷◌, Option, Some, None, Bool, not, ◌&&◌, nat_lt, if◌then◌else◌}
use Rattle.std.specs.List.{position_from}
use Rattle.std.specs.Option.{option_or, option_and_then}
use Rattle.std.specs.Str.{bytes_eq, str_to_ascii_lowercase}
use Rattle.std.specs.Cmp.Lexicographic.{pointwise}
use Rattle.std.proofs.Common.{get_or}
use Rattle.pss_base.specs.declared.place.Place.{Place}
use Rattle.psdl_tree.specs.declared.names.NamePart.{NamePart}
use Rattle.psdl_tree.specs.Trees.{Name}
use Rattle.type_layout.specs.Schemas.{given}
use Rattle.psdl_directory.specs.Declarations.{Path, IsModule, Declaration}
use Rattle.psdl_directory.specs.Parts.{is_module, same_kind, is_forward}

-- names as they are spelled, and but for case
abbrev pub as_is : List ℕ → List ℕ
as_is name = name

abbrev pub lower : List ℕ → List ℕ
lower = str_to_ascii_lowercase

abbrev pub same_path : Path → Path → Bool
same_path = pointwise bytes_eq

-- a declaration by its number
abbrev pub nothing : Declaration
nothing = record { path = []; name = []; place = record { line = 0; column = 0; offset = 0 }; what = IsModule }

abbrev pub at : List Declaration → ℕ → Declaration
at all n = get_or all n nothing

abbrev pub is_named : (List ℕ → List ℕ) → Path → List ℕ → Declaration → Bool
is_named spelled path name d = same_path path d.path && bytes_eq (spelled name) (spelled d.name)

-- the first declaration of that name in that scope
abbrev pub first : (List ℕ → List ℕ) → List Declaration → Path → List ℕ → Option ℕ
first spelled all path name = position_from (is_named spelled path name) 0 all

abbrev pub below : ℕ → Option ℕ → Option ℕ
below limit None = None
below limit (Some n) = if nat_lt n limit then Some n else None

-- the first of that name, where it is one of the first so many declarations
abbrev pub first_of : (List ℕ → List ℕ) → List Declaration → ℕ → Path → List ℕ → Option ℕ
first_of spelled all limit path name = below limit (first spelled all path name)

-- what is found first from a scope outwards
abbrev pub outwards : (Path → Option ℕ) → Path → Option ℕ
outwards f [] = f []
outwards f (name ∷ path) = option_or (f (name ∷ path)) (outwards f path)

-- the first of that name inside a declaration; only a module has an inside
abbrev pub first_inside : (List ℕ → List ℕ) → List Declaration → ℕ → ℕ → List ℕ → Option ℕ
first_inside spelled all limit n name =
    if is_module (at all n).what then first_of spelled all limit ((at all n).name ∷ (at all n).path) name else None

-- from a declaration inwards
abbrev pub inwards : (List ℕ → List ℕ) → List Declaration → ℕ → ℕ → List NamePart → Option ℕ
inwards spelled all limit n [] = Some n
inwards spelled all limit n (part ∷ parts) = given (first_inside spelled all limit n part.name.name) None (λ m. inwards spelled all limit m parts)

-- where a name begins: in the whole text behind `::`, else from the scope outwards
abbrev pub beginning : (List ℕ → List ℕ) → List Declaration → ℕ → Path → Name → Option ℕ
beginning spelled all limit path name =
    given name.leading (outwards (λ p. first_of spelled all limit p name.first.name) path) (λ _. first_of spelled all limit [] name.first.name)

-- what a name in a scope means, of the first so many declarations
unfoldable pub meaning : (List ℕ → List ℕ) → List Declaration → ℕ → Path → Name → Option ℕ
meaning spelled all limit path name = given (beginning spelled all limit path name) None (λ n. inwards spelled all limit n name.others)

-- the place of a name's first token
abbrev pub place_of : Name → Place
place_of name = given name.leading name.first.place (λ place. place)

-- what a name in the body of a declaration means
abbrev pub named : List Declaration → ℕ → Name → Option ℕ
named all n name = meaning as_is all (n + 1) (at all n).path name

-- ---- declared again

-- the first declaration of the same name and scope: a thing that is declared again is one thing
abbrev pub origin : List Declaration → ℕ → Option ℕ
origin all n = first as_is all (at all n).path (at all n).name

-- one declaration defines what the other declares
abbrev pub defines : Declaration → Declaration → Bool
defines d e = not (is_forward e.what) && same_kind d.what e.what && is_named as_is d.path d.name e

-- the definition of what is declared there
abbrev pub definition : List Declaration → ℕ → Option ℕ
definition all n = position_from (defines (at all n)) 0 all

-- the definition of what a name in the body of a declaration means
abbrev pub defined : List Declaration → ℕ → Name → Option ℕ
defined all n name = option_and_then (definition all) (named all n name)
