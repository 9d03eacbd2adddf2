-- Octets that were read of an image.
use Rattle.std.specs.Prelude.{ℕ, ◌≡◌, List}
use Rattle.pss_disk.specs.Octets.{octets_in}

-- these are so many octets of the image from a place on
pub record IsCopy (base n : ℕ) (octets image : List ℕ) : Type 0 where
  pub is : octets ≡ octets_in (record { at = base; count = n }) image
