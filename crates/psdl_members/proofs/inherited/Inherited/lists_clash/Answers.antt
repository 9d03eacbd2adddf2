use Rattle.std.proofs.Common.{◌≡◌, ◌∙◌, ◌<◌, ◌||◌, ℕ, Bool, false, not, length, get_or, ap}
use Rattle.type_layout.specs.Sound.{are_distinct}
use Rattle.psdl_lineage.specs.Descent.{home_keys}
use Rattle.psdl_lineage.specs.Graph.{graph_of}
use Rattle.psdl_lineage.specs.Lineages.{text_of}
use Rattle.psdl_members.specs.declared.list_kind.ListKind.TheVariants as kinds
use Rattle.psdl_members.specs.Clashes as clashes
use Rattle.psdl_members.specs.inner.Heirs.{clashes_by_descent}
use Rattle.psdl_members.proofs.Listing.{clash_by_descent}
use Rattle.psdl_members.proofs.inherited.Inherited.lists_clash.Goals as goal

pub returns-in-Some-clause-clash : goal.returns-in-Some-clause-clash
returns-in-Some-clause-clash c =
    let self = c.learn.new.self in
    let all = text_of self.lineage.now in
    let lists = self.own.lists in
    let n : ℕ = c.args.number in
    let flag : c.in-Some.clash ≡ get_or self.clashes.flags.items n false = rw c.index.ensures at c.in-Some.ensures.told in
    let within : n < length self.clashes.flags.items = rw c.index.ensures at c.in-Some.ensures.within in
    rw c.in_ok-learn.ensures at
    (flag
    ∙ self.told n within
    ∙ ap (λ (b : Bool). b || clashes_by_descent (graph_of all) lists.factories n) (clash_by_descent kinds.Key all lists.keys n self.had.listed.keyed)
    ∙ ap (λ (b : Bool). not (are_distinct clashes.lists_clash (home_keys all n)) || b) (clash_by_descent kinds.Factory all lists.factories n self.had.listed.made))
