-- What was read of a content.
use Rattle.std.specs.Prelude.{ℕ, ◌≡◌, ◌≤◌, ◌+◌, ◌↔◌, IsTrue, List, length, IfSome}
use Rattle.std.specs.declared.option.Option.{Option}
use Rattle.std.specs.Int.{to_be_bytes, w32}
use Rattle.pss_disk.specs.Octets.{octets_in, range_of}
use Rattle.pss_disk.specs.Parts.{Stands, number4}
use Rattle.redo_journal.specs.Journal.{HasEpoch, IsOpen}
use Rattle.redo_journal.specs.declared.header.Header.{Header}
use Rattle.redo_journal.specs.declared.window.Window.{Window}

-- the window has what the content has there, a whole header at the least
pub record IsPiece (content : Option (List ℕ)) (window : Window) : Type 0 where
  pub wide : 13 ≤ length window.octets.items
  pub narrow : length window.octets.items ≤ 131072
  pub read : IfSome content (λ c. window.octets.items ≡ octets_in (range_of window.at window.octets.items) c)

-- so many octets from a place on lie in the window
abbrev pub Covers : Window → ℕ → ℕ → Type 0
Covers window at count = (window.at ≤ at) × (at + count ≤ window.at + length window.octets.items)

-- what stands behind a gate
pub record IsHeader (epoch gate : ℕ) (header : Header) (content : List ℕ) : Type 0 where
  pub open_ : IsTrue header.is_open ↔ IsOpen content gate
  pub epoch_ : IsTrue header.has_epoch ↔ HasEpoch epoch content gate
  pub len : number4 content (gate + 9) ≡ header.len
  pub stands : Stands content (gate + 9) (to_be_bytes w32 header.len)
