use Rattle.std.proofs.Common.{◌≡◌, ◌++◌, List, take}
use Rattle.psdl_lineage.specs.Lineages.{asked_of}
use Rattle.psdl_check.specs.Schemas.{Introduced}
use Rattle.psdl_check.specs.declared.key_rows.KeyIds.{KeyIds}
use Rattle.psdl_check.specs.inner.HeldKeys.{held_views, news}
use Rattle.psdl_check.specs.inner.Numbering.{AreNumbered, IsNumberable}
use Rattle.psdl_check.proofs.numbering.number_all.Given as goal

abbrev pub invariant-loop-key : goal.invariant-loop-key
invariant-loop-key l =
    let all = asked_of l.fn.conformity in
    let so_far = take l.key-index l.held in
    record {
      same : asked_of l.conformity ≡ all;
      numbered : (ids : KeyIds) (introduced more : List Introduced) → IsNumberable all ids introduced more l.home l.held l.fn.keys → AreNumbered all ids (introduced ++ news l.home so_far) l.home.home (held_views so_far) l.fn.front.0 l.keys l.numbered;
    }
