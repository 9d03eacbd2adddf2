use Rattle.std.proofs.Common.{◌≡◌}
use Rattle.psdl_directory.specs.declared.scoped.Scoped.{Scoped}
use Rattle.psdl_directory.specs.Lookup.{as_is}
use Rattle.psdl_directory.specs.inner.Keys.{plain, whole, parts, parts_of}
use Rattle.psdl_directory.specs.inner.Nodes.{what_view}
use Rattle.psdl_directory.proofs.Keyed.{keys_more, key_at, with_kind}
use Rattle.psdl_directory.proofs.keys.whole_keys.Goals as goal

pub loop-i-preserved : goal.loop-i-preserved
loop-i-preserved c =
    let d = c.index-declarations-i.result in
    let key = c.index-keys-i.result in
    let was : parts key ≡ parts_of as_is plain c.args.spellings.now d = rw (c.index-keys-i.is, c.index-declarations-i.is) (key_at as_is plain c.args.spellings.now c.args.keys.now c.args.declarations.now c.loop-i.i key d c.loop-i-test.true c.requires) in
    let k : Scoped = record { scope = key.scope; kind = whole (what_view d.what); spelling = key.spelling } in
    let here : parts k ≡ parts_of as_is whole c.args.spellings.now d = with_kind as_is plain whole c.args.spellings.now key d was in
    rw (c.in_ok-push.ensures.items, c.whole_kind.ensures, ← c.index-declarations-i.is) (keys_more as_is whole c.args.spellings.now c.args.spellings.now c.loop-i.wholes.items k c.args.declarations.now c.loop-i.i d c.loop-i-test.true (λ q n is. is) c.loop-i.invariant (rw (← c.index-declarations-i.is) here))
