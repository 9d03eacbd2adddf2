-- The home that provides each definition, by number.
use Rattle.std.specs.Prelude.{◌≡◌, ◌<◌, ℕ, List, length, Option, None}
use Rattle.std.proofs.Common.{get_or}
use Rattle.psdl_directory.specs.Declarations.{Declaration}
use Rattle.psdl_lineage.specs.Descent.{provider}

pub record AreProviders (all : List Declaration) (list : List (Option ℕ)) : Type 0 where
  pub sized : length list ≡ length all
  pub each : (n : ℕ) → n < length all → get_or list n None ≡ provider all n
