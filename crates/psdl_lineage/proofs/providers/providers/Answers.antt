use Rattle.std.proofs.Common.{◌<◌, ◌∙◌, ℕ, List, Bool, false, length, sym, ap, arith}
use Rattle.std.proofs.lemmas.List.{length-replicate}
use Rattle.psdl_directory.specs.Directories.{all_of}
use Rattle.psdl_lineage.specs.Descent.{has}
use Rattle.psdl_lineage.proofs.Texts.{length-graph_of}
use Rattle.psdl_lineage.proofs.Inherited.{homes_below}
use Rattle.psdl_lineage.proofs.Supplying.{are_providers}
use Rattle.psdl_lineage.proofs.providers.providers.Goals as goal

pub first_descendants-requires-clause-roots : goal.first_descendants-requires-clause-roots
first_descendants-requires-clause-roots c n h =
    let all = all_of c.args.directory.now in
    let there : n < length all = homes_below all n (ap (λ (l : List ℕ). has l n) (sym c.requires.homes) ∙ h) in
    omega (arith, there, length-graph_of all, ap (λ (g : List (List ℕ)). length g) c.requires.graph)

pub first_descendants-requires-clause-sized : goal.first_descendants-requires-clause-sized
first_descendants-requires-clause-sized c = ap (λ (l : List Bool). length l) c.in_ok-marks.ensures ∙ length-replicate c.len.result false ∙ c.len.ensures

pub returns : goal.returns
returns c =
    are_providers (all_of c.args.directory.now) c.args.graph.now c.args.homes.now c.in_ok-providers.providers.items c.requires.graph c.requires.homes c.in_ok-providers.ensures.len
    c.in_ok-providers.ensures.first
