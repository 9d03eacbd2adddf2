use Rattle.std.proofs.Common.{length, replicate, refl, ap, ◌∙◌}
use Rattle.storage_home.specs.Indexes.{found_at}
use Rattle.storage_home.proofs.LoadingRows.{nothing_kept}
use Rattle.storage_home.proofs.loading.none.Goals as goal

pub returns : goal.returns
returns c =
    nothing_kept c.args.schema.now c.requires
    (record { alloc = c.args.alloc; families = c.in_ok-families.families; rows = c.empty.result; total = 0; objects = 0; extents = c.in_ok-no_extents.field-0; counts = c.in_ok-vec.field-0; keys = c.new-2.result })
    c.in_ok-families.ensures c.empty.ensures refl refl c.in_ok-no_extents.ensures.empty (c.in_ok-no_extents.ensures.size ∙ ap length c.as_slice-homes.ensures)
    (c.in_ok-vec.ensures.items_if_clones_equal (λ y e. e) ∙ ap (λ hs. replicate (length hs) 0) c.as_slice-homes.ensures) (λ key bytes. ap (λ t. found_at t key bytes) c.new-2.ensures)
