use Rattle.std.proofs.Common.{◌∙◌, List, length, refl, subst}
use Rattle.psdl_directory.specs.Declarations.{Declaration}
use Rattle.psdl_standings.specs.States.{AreKeptBelow}
use Rattle.psdl_standings.specs.Texts.{types_in}
use Rattle.psdl_check.specs.inner.Texts.{text_in}
use Rattle.psdl_check.proofs.layouts.typed_in.Goals as goal

pub returns-clause-views : goal.returns-clause-views
returns-clause-views c homes =
    c.in_ok-typed.ensures.views (types_in c.args.text.now.standings.now) homes
    ∙ rw (c.deref.ensures.value, c.in_ok-members.ensures, c.requires.same, c.deref-2.ensures.value, c.in_ok-kept.ensures.types homes, c.requires.one) refl

pub returns-clause-there : goal.returns-clause-there
returns-clause-there c =
    let types = length (types_in c.args.text.now.standings.now) in
    c.in_ok-typed.ensures.there types (length (text_in c.args.text.now))
    (rw c.deref-2.ensures.value (subst (λ (d : List Declaration). AreKeptBelow types (length d) c.in_ok-kept.kept.items) c.requires.one c.in_ok-kept.ensures.below))
