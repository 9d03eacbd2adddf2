use Rattle.std.proofs.Common.{List, sym, subst}
use Rattle.psdl_members.specs.declared.entry.Entry.{Entry}
use Rattle.psdl_members.specs.inner.Heirs.{AreColumns}
use Rattle.psdl_members.proofs.Meeting.{columns_are}
use Rattle.psdl_members.proofs.columns.columns_of.Goals as goal

pub returns : goal.returns
returns c =
    let all : List Entry = c.args.rows.now.entries.items in
    subst (λ (l : List Entry). AreColumns all l) (sym (rw (c.deref.ensures.value, c.deref-2.ensures.value) at c.in_ok-columns.ensures)) (columns_are c.in_ok-lists.lists.items all)
