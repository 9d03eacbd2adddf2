use Rattle.std.proofs.Common.{◌≡◌, ◌∙◌, ℕ, List, Bool, Option, false, sym, subst, arith}
use Rattle.std.specs.Option.{is_some}
use Rattle.psdl_lineage.specs.inner.SourceTables.{kept_in}
use Rattle.psdl_lineage.specs.inner.KeptSources.{AreKept, list_at}
use Rattle.psdl_lineage.proofs.Kept.{one_more, short_is}
use Rattle.psdl_lineage.proofs.source_lists.SourceLists.add.Goals as goal

pub keep-requires : goal.keep-requires
keep-requires c = omega (arith, c.requires.number, c.requires.table.sized)

pub returns-in-Some-clause-table : goal.returns-in-Some-clause-table
returns-in-Some-clause-table c =
    let graph : List (List ℕ) = c.args.graph.now in
    let own : List Bool = c.args.own.now in
    let old : List (Option (List ℕ)) = kept_in c.args.self.now in
    let off : is_some (list_at old c.args.number) ≡ false = sym c.is_kept.ensures ∙ c.if-is_kept.false in
    subst (λ (lists : List (Option (List ℕ))). AreKept graph own lists) (sym c.keep.ensures)
    (one_more graph own old c.args.number c.in_ok-list.list c.in-Some.kept c.requires.table off c.requires.number c.in_ok-list.ensures.list c.in_ok-list.ensures.named (short_is c.in_ok-list.list c.short.result c.in-Some.kept (cc (c.in-Some.is)) c.short.ensures))
