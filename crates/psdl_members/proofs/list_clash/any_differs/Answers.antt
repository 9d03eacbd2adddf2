use Rattle.std.proofs.Common.{◌++◌, ◌∙◌, ℕ, List, length, take, refl, arith}
use Rattle.psdl_members.specs.declared.entry.Entry.{Entry}
use Rattle.psdl_members.proofs.Covered.{below_read}
use Rattle.psdl_members.proofs.FirstLists.{first_start, first_end, one_more, one_clash}
use Rattle.psdl_members.proofs.list_clash.any_differs.Goals as goal

pub loop-entry-init : goal.loop-entry-init
loop-entry-init c = record { room = record { marks = refl; lists = refl }; firsts = λ xs w. first_start c.args.firsts.now.marks c.args.firsts.now.lists.items xs c.args.entries.now w }

pub differs-differs-requires-clause-marks : goal.differs-differs-requires-clause-marks
differs-differs-requires-clause-marks c =
    below_read (length c.args.firsts.now.marks) (length c.loop-entry.firsts.marks) c.args.entries.now c.loop-entry.entry-index _ c.loop-entry-test.true c.requires.marks c.loop-entry.invariant.room.marks

pub differs-differs-requires-clause-lists : goal.differs-differs-requires-clause-lists
differs-differs-requires-clause-lists c =
    below_read (length c.args.firsts.now.lists.items) (length c.loop-entry.firsts.lists.items) c.args.entries.now c.loop-entry.entry-index _ c.loop-entry-test.true c.requires.lists c.loop-entry.invariant.room.lists

pub loop-entry-preserved : goal.loop-entry-preserved
loop-entry-preserved c =
    let i : ℕ = c.loop-entry.entry-index in
    let es : List Entry = c.args.entries.now in
    record {
      room = record { marks = c.differs-differs.ensures.room.marks ∙ c.loop-entry.invariant.room.marks; lists = c.differs-differs.ensures.room.lists ∙ c.loop-entry.invariant.room.lists };
      firsts = λ xs w.
          one_more c.differs-differs.new.firsts.marks c.differs-differs.new.firsts.lists.items xs es i _ c.differs-differs.result c.loop-entry-test.true c.if-differs.false
          (c.differs-differs.ensures.firsts (xs ++ take i es) (c.loop-entry.invariant.firsts xs w));
    }

pub returns-then-differs-clause-firsts : goal.returns-then-differs-clause-firsts
returns-then-differs-clause-firsts c xs w =
    let i : ℕ = c.loop-entry.entry-index in
    let es : List Entry = c.args.entries.now in
    one_clash c.differs-differs.new.firsts.marks c.differs-differs.new.firsts.lists.items xs es i _ c.differs-differs.result c.loop-entry-test.true c.if-differs.true
    (c.differs-differs.ensures.firsts (xs ++ take i es) (c.loop-entry.invariant.firsts xs w))

pub returns-clause-firsts : goal.returns-clause-firsts
returns-clause-firsts c xs w =
    first_end c.loop-entry.firsts.marks c.loop-entry.firsts.lists.items xs c.args.entries.now c.loop-entry.entry-index (omega (arith, c.loop-entry-test.false)) (c.loop-entry.invariant.firsts xs w)
