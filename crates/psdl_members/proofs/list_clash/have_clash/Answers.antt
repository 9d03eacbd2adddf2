use Rattle.std.proofs.Common.{◌≡◌, ◌∙◌, ℕ, List, Bool, length, take, get_or, ap, refl, arith}
use Rattle.std.specs.List.{flat_map}
use Rattle.std.proofs.lemmas.Grind.{get_or_default_zero}
use Rattle.psdl_lineage.proofs.Idle.{length-cleared}
use Rattle.psdl_members.specs.declared.entry.Entry.{Entry}
use Rattle.psdl_members.specs.inner.Rowed.{row_of}
use Rattle.psdl_members.proofs.Covered.{row_below}
use Rattle.psdl_members.proofs.FirstLists.{no_firsts, rows_start, rows_end, row_more, row_clash}
use Rattle.psdl_members.proofs.list_clash.have_clash.Goals as goal

pub loop-declaration-init : goal.loop-declaration-init
loop-declaration-init c =
    record {
      room = record { marks = ap (λ (l : List Bool). length l) c.clear.ensures ∙ length-cleared c.args.firsts.now.marks; lists = refl };
      firsts = rows_start (row_of c.args.rows.now) c.clear.new.self c.args.firsts.now.lists.items c.args.declarations.now (no_firsts c.args.firsts.now.marks c.clear.new.self c.args.firsts.now.lists.items c.clear.ensures);
    }

pub any_differs-differs-requires-clause-marks : goal.any_differs-differs-requires-clause-marks
any_differs-differs-requires-clause-marks c =
    let rows = c.args.rows.now in
    rw c.of.ensures (row_below rows.names (length c.loop-declaration.firsts.marks) rows.starts.items c.index.result rows.entries.items rows.below (omega (arith, c.requires.marks, c.loop-declaration.invariant.room.marks)))

pub any_differs-differs-requires-clause-lists : goal.any_differs-differs-requires-clause-lists
any_differs-differs-requires-clause-lists c =
    let rows = c.args.rows.now in
    rw c.of.ensures (row_below rows.names (length c.loop-declaration.firsts.lists.items) rows.starts.items c.index.result rows.entries.items rows.below (omega (arith, c.requires.lists, c.loop-declaration.invariant.room.lists)))

pub loop-declaration-preserved : goal.loop-declaration-preserved
loop-declaration-preserved c =
    let is : c.index.result ≡ get_or c.args.declarations.now c.loop-declaration.declaration-index 0 = c.index.ensures ∙ c.declaration-item.is ∙ get_or_default_zero c.args.declarations.now c.loop-declaration.declaration-index c.declaration-item.result c.loop-declaration-test.true in
    let g : ℕ → List Entry = row_of c.args.rows.now in
    let i : ℕ = c.loop-declaration.declaration-index in
    record {
      room = record { marks = c.any_differs-differs.ensures.room.marks ∙ c.loop-declaration.invariant.room.marks; lists = c.any_differs-differs.ensures.room.lists ∙ c.loop-declaration.invariant.room.lists };
      firsts =
          row_more g c.any_differs-differs.new.firsts.marks c.any_differs-differs.new.firsts.lists.items c.args.declarations.now i c.any_differs-differs.result c.loop-declaration-test.true c.if-differs.false
          (rw (c.of.ensures, is) at (c.any_differs-differs.ensures.firsts (flat_map g (take i c.args.declarations.now)) c.loop-declaration.invariant.firsts));
    }

pub returns-then-differs-clause-room : goal.returns-then-differs-clause-room
returns-then-differs-clause-room c =
    record { marks = c.any_differs-differs.ensures.room.marks ∙ c.loop-declaration.invariant.room.marks; lists = c.any_differs-differs.ensures.room.lists ∙ c.loop-declaration.invariant.room.lists }

pub returns-then-differs-clause-clash : goal.returns-then-differs-clause-clash
returns-then-differs-clause-clash c =
    let is : c.index.result ≡ get_or c.args.declarations.now c.loop-declaration.declaration-index 0 = c.index.ensures ∙ c.declaration-item.is ∙ get_or_default_zero c.args.declarations.now c.loop-declaration.declaration-index c.declaration-item.result c.loop-declaration-test.true in
    let g : ℕ → List Entry = row_of c.args.rows.now in
    let i : ℕ = c.loop-declaration.declaration-index in
    row_clash g c.any_differs-differs.new.firsts.marks c.any_differs-differs.new.firsts.lists.items c.args.declarations.now i c.any_differs-differs.result c.loop-declaration-test.true c.if-differs.true
    (rw (c.of.ensures, is) at (c.any_differs-differs.ensures.firsts (flat_map g (take i c.args.declarations.now)) c.loop-declaration.invariant.firsts))

pub returns-clause-clash : goal.returns-clause-clash
returns-clause-clash c =
    rows_end (row_of c.args.rows.now) c.loop-declaration.firsts.marks c.loop-declaration.firsts.lists.items c.args.declarations.now c.loop-declaration.declaration-index (omega (arith, c.loop-declaration-test.false)) c.loop-declaration.invariant.firsts
