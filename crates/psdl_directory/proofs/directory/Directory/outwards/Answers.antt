use Rattle.std.proofs.Common.{◌∙◌, ℕ, Option, sym, arith}
use Rattle.psdl_directory.specs.Directories.{all_of}
use Rattle.psdl_directory.specs.Declarations.{Path}
use Rattle.psdl_directory.specs.Lookup.{first_of}
use Rattle.psdl_directory.specs.Spelled.{spelled_by}
use Rattle.psdl_directory.proofs.Outwards.{found_here, ends_here, goes_on}
use Rattle.psdl_directory.proofs.directory.Directory.outwards.Goals as goal

pub returns-in-Some : goal.returns-in-Some
returns-in-Some c = λ name is.
    let found : Path → Option ℕ = λ p. first_of (spelled_by c.args.spelling) (all_of c.args.self.now) c.args.limit p name in
    sym (c.loop-first.invariant.so_far name is ∙ found_here found _ c.in-Some.first (sym (c.in-Some.ensures.first name is)))

pub returns-in-None-outer : goal.returns-in-None-outer
returns-in-None-outer c = λ name is.
    let found : Path → Option ℕ = λ p. first_of (spelled_by c.args.spelling) (all_of c.args.self.now) c.args.limit p name in
    sym (c.loop-first.invariant.so_far name is ∙ ends_here found _ (sym (c.in-None.ensures.first name is)) (sym c.in-None-outer.ensures.path))

pub loop-first-preserved : goal.loop-first-preserved
loop-first-preserved c = record {
  inside = omega (arith, c.in-Some-outer.ensures.lower, c.loop-first.invariant.inside);
  so_far = λ name is.
      let found : Path → Option ℕ = λ p. first_of (spelled_by c.args.spelling) (all_of c.args.self.now) c.args.limit p name in
      c.loop-first.invariant.so_far name is ∙ goes_on found _ _ (sym (c.in-None.ensures.first name is)) (sym c.in-Some-outer.ensures.path);
}
