use Rattle.std.proofs.Common.{◌∙◌, List, length, refl, sym, ap, arith}
use Rattle.std.specs.List.{list_all}
use Rattle.std.proofs.lemmas.List.{take_all}
use Rattle.psdl_members.specs.declared.entry.Entry.{Entry}
use Rattle.psdl_members.specs.inner.Contested.{is_covered}
use Rattle.psdl_members.proofs.Covered.{none_yet, below_read, all_next}
use Rattle.psdl_members.proofs.contested.add_each.Goals as goal

pub loop-entry-init : goal.loop-entry-init
loop-entry-init c = record { sized = refl; covered = none_yet (is_covered c.args.lists.now.items) c.args.entries.now }

pub add-requires : goal.add-requires
add-requires c =
    below_read (length c.args.lists.now.items) (length c.loop-entry.lists.items) c.args.entries.now c.loop-entry.entry-index _ c.loop-entry-test.true c.requires c.loop-entry.invariant.sized

pub loop-entry-preserved : goal.loop-entry-preserved
loop-entry-preserved c =
    record {
      sized = c.add.ensures.sized ∙ c.loop-entry.invariant.sized;
      covered = all_next (is_covered c.add.new.lists.items) c.args.entries.now c.loop-entry.entry-index _ c.loop-entry-test.true (c.add.ensures.covered _ c.loop-entry.invariant.covered);
    }

pub returns : goal.returns
returns c =
    ap (λ (l : List Entry). list_all (is_covered c.loop-entry.lists.items) l) (sym (take_all c.loop-entry.entry-index c.args.entries.now (omega (arith, c.loop-entry-test.false)))) ∙ c.loop-entry.invariant.covered
