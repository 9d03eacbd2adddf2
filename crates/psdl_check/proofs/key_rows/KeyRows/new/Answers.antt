use Rattle.std.proofs.Common.{◌≡◌, arith, subst, ℕ, length, rules}
use Rattle.psdl_directory.specs.Directories.{all_of}
use Rattle.psdl_members.specs.declared.list_kind.ListKind.TheVariants as kinds
use Rattle.psdl_members.specs.inner.Listing.{own_lists}
use Rattle.psdl_check.specs.inner.KeyIds.{own_views}
use Rattle.psdl_check.specs.inner.KeyRowed.{AreRowsTo}
use Rattle.psdl_check.proofs.KeyRowing.{no_rows, one_row_more}
use Rattle.psdl_check.proofs.key_rows.KeyRows.new.Goals as goal

pub loop-index-init : goal.loop-index-init
loop-index-init c = record { within = omega arith; rows = no_rows (all_of c.args.directory.now) c.new-ids.result c.new-rows.result.items (search rules) }

pub loop-index-preserved : goal.loop-index-preserved
loop-index-preserved c =
    let all = all_of c.args.directory.now in
    let i : ℕ = c.loop-index.index in
    let views : own_views c.in_ok-row.row.items ≡ own_lists kinds.Key all i = search rules in
    record {
      within = omega (arith, c.len-index-end.ensures, c.loop-index-test.true);
      rows = one_row_more all c.loop-index.ids c.row_of.new.ids c.loop-index.rows.items c.push.new.self.items c.in_ok-row.row i c.in_ok-row.ensures.kept c.in_ok-push.ensures.items views c.in_ok-row.ensures.ids c.loop-index.invariant.rows;
    }

pub returns : goal.returns
returns c =
    let all = all_of c.args.directory.now in
    let end : c.loop-index.index ≡ length all = omega (arith, c.len-index-end.ensures, c.loop-index-test.false, c.loop-index.invariant.within) in
    subst (λ (n : ℕ). AreRowsTo all c.loop-index.ids c.loop-index.rows.items n) end c.loop-index.invariant.rows
