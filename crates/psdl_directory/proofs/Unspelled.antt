-- Names that a directory has no number for.
use Rattle.std.proofs.Common.{◌≡◌, ℕ, List, None}
use Rattle.psdl_directory.specs.declared.directory.Directory.{Directory}
use Rattle.psdl_directory.specs.declared.spelling.Spelling.{Spelling}
use Rattle.psdl_directory.specs.declared.spelling.Spelling.TheVariants as spellings
use Rattle.psdl_directory.specs.Declarations.{Path}
use Rattle.psdl_directory.specs.Directories.{all_of}
use Rattle.psdl_directory.specs.Lookup.{as_is, lower, first}
use Rattle.psdl_directory.specs.Spelled.{number_of, spelled_by}
use Rattle.psdl_directory.specs.inner.Keys.{plain}
use Rattle.psdl_directory.proofs.Agreeing.{unspelled}

pub not_found : (d : Directory) (spelling : Spelling) (name : List ℕ) → number_of d.keys.spellings (spelled_by spelling name) ≡ None → (p : Path) → first (spelled_by spelling) (all_of d) p name ≡ None
not_found d spellings.AsIs name is p = unspelled as_is plain d.scopes d.keys.spellings name is p d.keys.exact.items d.declarations.items 0 d.named.exact
not_found d spellings.Lower name is p = unspelled lower plain d.scopes d.keys.spellings name is p d.keys.small.items d.declarations.items 0 d.named.small
