use Rattle.psdl_members.specs.inner.Rowed.{row_of}
use Rattle.psdl_members.proofs.Covered.{same_clash, none_left}
use Rattle.psdl_members.proofs.contested.without_others.Goals as goal

pub returns-clause-clash : goal.returns-clause-clash
returns-clause-clash c ns =
    let rows = c.args.rows.now in
    same_clash c.in_ok-lists.lists.items rows.entries.items rows.starts.items (row_of c.in_ok-kept.kept) c.in_ok-lists.ensures (λ n. rw c.deref.ensures.value at (c.in_ok-kept.ensures n)) ns

pub returns-clause-none : goal.returns-clause-none
returns-clause-none c n none =
    none_left c.in_ok-lists.lists.items (row_of c.args.rows.now n) (row_of c.in_ok-kept.kept n) (rw c.deref.ensures.value at (c.in_ok-kept.ensures n)) none
