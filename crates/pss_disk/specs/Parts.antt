-- Parts of an image. Past its end all octets are read as zero.
use Rattle.std.specs.Prelude.{ℕ, ◌≡◌, List, slice_index}
use Rattle.std.specs.Int.{from_be_bytes, w32, w64}
use Rattle.pss_disk.specs.Octets.{octets_in, range_of}

-- the octet at a place
abbrev pub octet_at : List ℕ → ℕ → ℕ
octet_at image i = slice_index image i

-- the number in the four octets from a place on
abbrev pub number4 : List ℕ → ℕ → ℕ
number4 image at = from_be_bytes w32 (octets_in (record { at = at; count = 4 }) image)

-- the number in the eight octets from a place on
abbrev pub number8 : List ℕ → ℕ → ℕ
number8 image at = from_be_bytes w64 (octets_in (record { at = at; count = 8 }) image)

-- these octets stand in the image from a place on
abbrev pub Stands : List ℕ → ℕ → List ℕ → Type 0
Stands image at octets = octets_in (range_of at octets) image ≡ octets
