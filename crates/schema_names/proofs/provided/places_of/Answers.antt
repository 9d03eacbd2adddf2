use Rattle.std.proofs.Common.{◌<◌, length, arith, ap, sym, ◌∙◌}
use Rattle.type_layout.specs.declared.provided.Provision.{Provision}
use Rattle.type_layout.specs.Scopes.{full_name, provided_in}
use Rattle.schema_names.specs.inner.Hashed.{hash_of}
use Rattle.schema_names.proofs.Leading.{next, as_long}
use Rattle.schema_names.proofs.provided.places_of.Goals as goal

pub loop-place-preserved : goal.loop-place-preserved
loop-place-preserved c =
    let names = c.parts-parts.result.scopes.now in
    let ps = c.parts-parts.result.provisions.now in
    let within : c.loop-place.place < length ps = c.loop-place-test.true in
    let longer : c.loop-place.place < length c.args.list.now = rw c.parts-parts.ensures (as_long names ps c.loop-place.place within) in (
      omega (arith, longer),
      next c.args.list.now names ps c.loop-place.place c.hash_of.result c.index-parts-place.result c.loop-place.places.firsts.entries c.put.new.places.firsts.entries c.loop-place.places.others.items c.put.new.places.others.items
          c.parts-parts.ensures within c.index-parts-place.is (c.hash_of.ensures names (c.deref.ensures.value ∙ c.in_ok-states.ensures) ∙ ap (λ (p : Provision). hash_of (full_name (provided_in names p))) (sym c.index-parts-place.is)) c.loop-place.invariant.1 c.in_ok-put.ensures,
    )
