use Rattle.std.proofs.Common.{◌≡◌, None, refl}
use Rattle.psdl_directory.specs.declared.scoped.Scoped.{Scoped}
use Rattle.psdl_directory.specs.Spelled.{spelled_by}
use Rattle.psdl_directory.specs.inner.Keys.{plain, parts, parts_of}
use Rattle.psdl_directory.proofs.Keyed.{keys_more}
use Rattle.psdl_directory.proofs.keys.keys.Goals as goal

pub loop-declaration-preserved : goal.loop-declaration-preserved
loop-declaration-preserved c =
    let d = c.declaration-item.result in
    let k : Scoped = record { scope = d.scope; kind = None; spelling = c.in_ok-number.number } in
    let here : parts k ≡ parts_of (spelled_by c.args.spelling) plain c.note.new.spellings d = rw c.in_ok-number.ensures.number refl in
    record {
      keys = rw c.in_ok-push.ensures.items (keys_more (spelled_by c.args.spelling) plain c.loop-declaration.spellings c.note.new.spellings c.loop-declaration.keys.items k c.args.declarations.now c.loop-declaration.declaration-index d c.loop-declaration-test.true c.note.ensures.kept c.loop-declaration.invariant.keys (rw (← c.declaration-item.is) here));
      kept = λ q n is. c.note.ensures.kept q n (c.loop-declaration.invariant.kept q n is);
    }
