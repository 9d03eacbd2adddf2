-- What a new store is made of.
use Rattle.std.specs.Prelude.{ℕ, ◌≡◌, ◌+◌, ◌≤◌, List, [], length}
use Rattle.pss_disk.specs.Parts.{Stands, octet_at}
use Rattle.page_format.specs.declared.root.Root.{Root}

-- an image of so many octets, all of them zero
pub record IsBlank (count : ℕ) (image : List ℕ) : Type 0 where
  pub count_ : length image ≡ count
  pub zeros : (i : ℕ) → octet_at image i ≡ 0

-- an image of so many octets: an open gate, this root behind it, and else zero octets
pub record IsMade (count : ℕ) (root image : List ℕ) : Type 0 where
  pub long : length image ≡ count
  pub gate : octet_at image 0 ≡ 165
  pub root_ : Stands image 1 root
  pub rest : (i : ℕ) → 1 + length root ≤ i → octet_at image i ≡ 0

-- the first root of a store
abbrev pub first_root : List ℕ → Root
first_root shape = record { area = 0; epoch = 1; next = 1; shape = shape; slots = [] }
