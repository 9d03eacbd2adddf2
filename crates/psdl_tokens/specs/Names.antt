-- The words of the grammar, and those that it leaves out.
use Rattle.std.specs.Prelude.{ℕ, List, [], ◌∷◌, ◌≡◌, codes}
use Rattle.std.specs.Str.{str_to_ascii_lowercase}

-- the same letters, each in small or in great
abbrev pub SameButForCase : List ℕ → List ℕ → Type 0
SameButForCase a b = str_to_ascii_lowercase a ≡ str_to_ascii_lowercase b

-- the words of the grammar
abbrev pub keywords : List (List ℕ)
keywords =
    codes "abstract" ∷ codes "boolean" ∷ codes "catalog" ∷ codes "char" ∷ codes "const" ∷ codes "enum" ∷
    codes "factory" ∷ codes "implements" ∷ codes "in" ∷ codes "inout" ∷ codes "key" ∷ codes "long" ∷
    codes "module" ∷ codes "octet" ∷ codes "of" ∷ codes "out" ∷ codes "primary" ∷ codes "provides" ∷
    codes "readonly" ∷ codes "ref" ∷ codes "sequence" ∷ codes "short" ∷ codes "state" ∷
    codes "storagehome" ∷ codes "storagetype" ∷ codes "string" ∷ codes "struct" ∷ codes "typedef" ∷
    codes "unsigned" ∷ codes "void" ∷ []

-- the words of the standard's language that this one leaves out
abbrev pub left_out_words : List (List ℕ)
left_out_words =
    codes "any" ∷ codes "as" ∷ codes "attribute" ∷ codes "case" ∷ codes "context" ∷ codes "custom" ∷ codes "default" ∷
    codes "double" ∷ codes "exception" ∷ codes "fixed" ∷ codes "float" ∷ codes "interface" ∷
    codes "local" ∷ codes "native" ∷ codes "Object" ∷ codes "oneway" ∷ codes "private" ∷
    codes "public" ∷ codes "raises" ∷ codes "scope" ∷ codes "store" ∷ codes "stores" ∷ codes "strong" ∷
    codes "supports" ∷ codes "switch" ∷ codes "truncatable" ∷ codes "union" ∷ codes "valuetype" ∷
    codes "ValueBase" ∷ codes "wchar" ∷ codes "wstring" ∷ codes "TRUE" ∷ codes "FALSE" ∷ []
