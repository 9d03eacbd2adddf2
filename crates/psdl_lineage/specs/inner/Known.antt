-- What is known of the lines of descent of a text.
use Rattle.std.specs.Prelude.{◌≡◌, ℕ, List, Option, length}
use Rattle.psdl_directory.specs.Declarations.{Declaration}
use Rattle.psdl_directory.specs.Headers.{Header, headers}
use Rattle.psdl_lineage.specs.Descent.{concrete_homes}
use Rattle.psdl_lineage.specs.Graph.{graph_of}
use Rattle.psdl_lineage.specs.inner.Families.{families_before}
use Rattle.psdl_lineage.specs.inner.Providing.{AreProviders}

pub record IsKnown (all : List Declaration) (hs : List Header) (graph : List (List ℕ)) (homes families : List ℕ) (providers : List (Option ℕ)) : Type 0 where
  pub headed : hs ≡ headers all
  pub graphed : graph ≡ graph_of all
  pub listed : homes ≡ concrete_homes all
  pub related : families ≡ families_before all (length all)
  pub provided : AreProviders all providers
