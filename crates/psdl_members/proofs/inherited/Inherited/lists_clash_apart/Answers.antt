use Rattle.std.proofs.Common.{◌∙◌, Bool, ◌||◌, not, ap}
use Rattle.type_layout.specs.Sound.{are_distinct}
use Rattle.psdl_lineage.specs.Descent.{home_keys}
use Rattle.psdl_lineage.specs.Lineages.{text_of}
use Rattle.psdl_members.specs.declared.list_kind.ListKind.TheVariants as kinds
use Rattle.psdl_members.specs.Clashes as clashes
use Rattle.psdl_members.specs.inner.Clashing.{some_clash, entries_clash}
use Rattle.psdl_members.specs.inner.Rowed.{row_of}
use Rattle.std.specs.List.{flat_map}
use Rattle.psdl_members.proofs.Listing.{clash_by_sources}
use Rattle.psdl_members.proofs.Owning.{fits_kept}
use Rattle.psdl_members.proofs.inherited.Inherited.lists_clash_apart.Goals as goal

pub returns-clause-clash : goal.returns-clause-clash
returns-clause-clash c =
    let self = c.args.self.now in
    let all = text_of self.lineage.now in
    let lists = self.own.lists in
    let sources = c.in_ok-sources.sources.items in
    rw c.deref.ensures.value at c.lists_clash-clash.ensures.clash
    ∙ (ap (λ (b : Bool). b || some_clash entries_clash (flat_map (row_of lists.factories) sources))
    (clash_by_sources kinds.Key all lists.keys self.sources.graph self.sources.own c.args.number sources self.had.listed.keyed self.graphed self.flagged.keys c.in_ok-sources.ensures.sources)
    ∙ ap (λ (b : Bool). not (are_distinct clashes.lists_clash (home_keys all c.args.number)) || b)
    (clash_by_sources kinds.Factory all lists.factories self.sources.graph self.sources.own c.args.number sources self.had.listed.made self.graphed self.flagged.factories c.in_ok-sources.ensures.sources))

pub lists_clash-clash-requires-clause-keys : goal.lists_clash-clash-requires-clause-keys
lists_clash-clash-requires-clause-keys c = c.args.self.now.fits.keys

pub lists_clash-clash-requires-clause-factories : goal.lists_clash-clash-requires-clause-factories
lists_clash-clash-requires-clause-factories c = c.args.self.now.fits.factories

pub invariant_of-self-2 : goal.invariant_of-self-2
invariant_of-self-2 c =
    let self = c.args.self.now in
    record {
      graphed = rw c.of.ensures.same self.graphed;
      flagged = rw c.of.ensures.same self.flagged;
      had = self.had;
      fits = fits_kept self.own self.firsts c.lists_clash-clash.new.firsts c.lists_clash-clash.ensures.room self.fits;
      told = self.told;
    }
