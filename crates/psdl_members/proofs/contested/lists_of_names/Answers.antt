use Rattle.std.proofs.Common.{◌≡◌, ◌∙◌, List, length, ap, rules}
use Rattle.std.proofs.lemmas.List.{length-replicate}
use Rattle.psdl_members.specs.declared.contested.Lists.{Lists}
use Rattle.psdl_members.specs.declared.contested.Lists.TheVariants.{Nothing}
use Rattle.psdl_members.proofs.contested.lists_of_names.Goals as goal

pub add_each-requires : goal.add_each-requires
add_each-requires c =
    let many : length c.in_ok-lists.lists.items ≡ c.args.rows.now.names =
    ap (λ (l : List Lists). length l) (c.in_ok-lists.ensures.items_if_clones_equal (λ y e. search rules)) ∙ length-replicate c.args.rows.now.names Nothing in
    rw (c.deref.ensures.value, many) c.args.rows.now.below

pub returns : goal.returns
returns c = rw c.deref.ensures.value at c.add_each.ensures
