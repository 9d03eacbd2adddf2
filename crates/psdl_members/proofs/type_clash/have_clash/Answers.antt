use Rattle.std.proofs.Common.{◌≡◌, ◌∙◌, ℕ, List, Bool, length, take, get_or, ap, arith}
use Rattle.std.specs.List.{flat_map}
use Rattle.std.proofs.lemmas.Grind.{get_or_default_zero}
use Rattle.psdl_lineage.proofs.Idle.{length-cleared}
use Rattle.psdl_members.specs.inner.Flat.{piece_of}
use Rattle.psdl_members.specs.inner.Noted.{Within}
use Rattle.psdl_members.proofs.Twice.{noted_none, pieces_start, pieces_end, piece_more, piece_clash, within_piece}
use Rattle.psdl_members.proofs.type_clash.have_clash.Goals as goal

pub loop-declaration-init : goal.loop-declaration-init
loop-declaration-init c =
    let starts = c.args.names.now.starts.items in
    let numbers = c.args.names.now.numbers.items in
    record {
      sized = ap (λ (l : List Bool). length l) c.clear.ensures ∙ length-cleared c.args.marks.now;
      noted = pieces_start (λ n. piece_of starts n numbers) c.clear.new.self c.args.declarations.now (noted_none c.args.marks.now c.clear.new.self c.clear.ensures);
    }

pub comes_twice-twice-requires : goal.comes_twice-twice-requires
comes_twice-twice-requires c =
    let starts = c.args.names.now.starts.items in
    let numbers = c.args.names.now.numbers.items in
    let w : Within (length c.loop-declaration.marks) numbers = λ n h. omega (arith, c.requires.below n h, c.loop-declaration.invariant.sized) in
    rw c.of.ensures (within_piece (length c.loop-declaration.marks) starts numbers c.index.result w)

pub loop-declaration-preserved : goal.loop-declaration-preserved
loop-declaration-preserved c =
    let is : c.index.result ≡ get_or c.args.declarations.now c.loop-declaration.declaration-index 0 = c.index.ensures ∙ c.declaration-item.is ∙ get_or_default_zero c.args.declarations.now c.loop-declaration.declaration-index c.declaration-item.result c.loop-declaration-test.true in
    let starts = c.args.names.now.starts.items in
    let numbers = c.args.names.now.numbers.items in
    let g : ℕ → List ℕ = λ n. piece_of starts n numbers in
    let i : ℕ = c.loop-declaration.declaration-index in
    record {
      sized = c.comes_twice-twice.ensures.sized ∙ c.loop-declaration.invariant.sized;
      noted =
          piece_more g c.comes_twice-twice.new.marks c.args.declarations.now i c.comes_twice-twice.result c.loop-declaration-test.true c.if-twice.false
          (rw (c.of.ensures, is) at (c.comes_twice-twice.ensures.noted (flat_map g (take i c.args.declarations.now)) c.loop-declaration.invariant.noted));
    }

pub returns-then-twice-clause-clash : goal.returns-then-twice-clause-clash
returns-then-twice-clause-clash c =
    let is : c.index.result ≡ get_or c.args.declarations.now c.loop-declaration.declaration-index 0 = c.index.ensures ∙ c.declaration-item.is ∙ get_or_default_zero c.args.declarations.now c.loop-declaration.declaration-index c.declaration-item.result c.loop-declaration-test.true in
    let starts = c.args.names.now.starts.items in
    let numbers = c.args.names.now.numbers.items in
    let g : ℕ → List ℕ = λ n. piece_of starts n numbers in
    let i : ℕ = c.loop-declaration.declaration-index in
    piece_clash g c.comes_twice-twice.new.marks c.args.declarations.now i c.comes_twice-twice.result c.loop-declaration-test.true c.if-twice.true
    (rw (c.of.ensures, is) at (c.comes_twice-twice.ensures.noted (flat_map g (take i c.args.declarations.now)) c.loop-declaration.invariant.noted))

pub returns-clause-clash : goal.returns-clause-clash
returns-clause-clash c =
    let starts = c.args.names.now.starts.items in
    let numbers = c.args.names.now.numbers.items in
    pieces_end (λ n. piece_of starts n numbers) c.loop-declaration.marks c.args.declarations.now c.loop-declaration.declaration-index (omega (arith, c.loop-declaration-test.false)) c.loop-declaration.invariant.noted
