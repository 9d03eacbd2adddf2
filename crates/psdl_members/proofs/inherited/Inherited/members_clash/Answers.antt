use Rattle.std.proofs.Common.{◌∙◌, length, refl}
use Rattle.psdl_lineage.specs.Lineages.{text_of}
use Rattle.psdl_members.proofs.Numbering.{clash_by, within_more}
use Rattle.psdl_members.proofs.Owning.{fits_kept}
use Rattle.psdl_members.proofs.inherited.Inherited.members_clash.Goals as goal

pub returns-clause-clash : goal.returns-clause-clash
returns-clause-clash c =
    let self = c.args.self.now in
    let names = self.own.names in
    c.have_clash-clash.ensures.clash
    ∙ rw c.deref.ensures.value
    (clash_by (text_of self.lineage.now) names.numbers.items names.starts.items self.sources.graph self.sources.own c.args.number c.in_ok-sources.sources.items self.had.numbered self.graphed self.flagged.members c.in_ok-sources.ensures.sources)

pub have_clash-clash-requires : goal.have_clash-clash-requires
have_clash-clash-requires c =
    let self = c.args.self.now in
    let names = self.own.names in
    record { below = within_more names.names (length self.firsts.marks) names.numbers.items self.fits.members names.below }

pub invariant_of-self-2 : goal.invariant_of-self-2
invariant_of-self-2 c =
    let self = c.args.self.now in
    record {
      graphed = rw c.of.ensures.same self.graphed;
      flagged = rw c.of.ensures.same self.flagged;
      had = self.had;
      fits = fits_kept self.own self.firsts (record { marks = c.have_clash-clash.new.marks; lists = self.firsts.lists }) (record { marks = c.have_clash-clash.ensures.sized; lists = refl }) self.fits;
      told = self.told;
    }
