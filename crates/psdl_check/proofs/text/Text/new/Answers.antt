use Rattle.std.proofs.Common.{List, subst, sym}
use Rattle.psdl_directory.specs.Declarations.{Declaration}
use Rattle.psdl_check.specs.inner.HomeNos.{HasFewHomes}
use Rattle.psdl_check.proofs.text.Text.new.Goals as goal

pub home_numbers-requires : goal.home_numbers-requires
home_numbers-requires c = record { few = subst (λ (d : List Declaration). HasFewHomes d) (sym c.directory.ensures) c.requires.few }
