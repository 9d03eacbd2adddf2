use Rattle.std.proofs.Common.{◌∙◌, [], List, length, map, ap, subst, sym}
use Rattle.type_layout.specs.Schemas.{given}
use Rattle.psdl_directory.specs.Declarations.{Declaration}
use Rattle.psdl_lineage.specs.Descent.{home_keys}
use Rattle.psdl_check.specs.inner.HeldKeys.{AreMarked, held_by}
use Rattle.psdl_check.proofs.Holding.{are_held}
use Rattle.psdl_check.specs.inner.KeyIds.{HaveIds}
use Rattle.psdl_lineage.specs.Lineages.{text_of}
use Rattle.psdl_check.proofs.Gathering.{row_below}
use Rattle.psdl_check.proofs.home_keys.HomeKeys.held.Goals as goal

pub with_marks-requires : goal.with_marks-requires
with_marks-requires c = row_below c.args.rows.now.ids (length c.mark_base.new.self.marks) c.deref.result.now c.mark_base.ensures.keyed.fits (subst (HaveIds c.args.rows.now.ids) (sym c.deref.ensures.value) c.in_ok-keys.ensures.ids)

pub returns-clause-held : goal.returns-clause-held
returns-clause-held c =
    let ids = c.args.rows.now.ids in
    let marks = c.mark_base.new.self.marks in
    are_held (text_of c.args.self.now.lineage.now) ids marks c.args.home c.args.base c.in_ok-keys.keys.items c.in_ok-held.held.items (c.in_ok-held.ensures ∙ ap (map (held_by marks)) c.deref.ensures.value) c.in_ok-keys.ensures.keys c.in_ok-keys.ensures.ids c.mark_base.ensures.keyed.fits
    (subst (λ (d : List Declaration). AreMarked ids marks (given c.args.base [] (home_keys d))) c.of.ensures.same c.in_ok-mark_base.ensures.marked)
