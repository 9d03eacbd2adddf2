-- What was read of the head of a root area.
use Rattle.std.specs.Prelude.{ℕ, ◌≡◌, ◌↔◌, IsTrue, List}
use Rattle.page_format.specs.Roots.{IsRoot, epoch_in, next_in, page_count_in, shape_length_in}
use Rattle.page_format.specs.declared.head.Head.{Head}

-- this is the head of the root area
pub record IsHead (area : ℕ) (head : Head) (image : List ℕ) : Type 0 where
  pub root : IsTrue head.is_root ↔ IsRoot image area
  pub epoch : epoch_in image area ≡ head.epoch
  pub next : next_in image area ≡ head.next
  pub shape_length : shape_length_in image area ≡ head.shape_length
  pub page_count : page_count_in image area ≡ head.page_count
