-- The entries of declarations.
use Rattle.std.specs.Prelude.{ℕ, List}
use Rattle.psdl_members.specs.declared.entry.Entry.{Entry}
use Rattle.psdl_members.specs.declared.rows.Rows.{Rows}
use Rattle.psdl_members.specs.inner.Flat.{piece_of}

abbrev pub Entries : Type 0
Entries = List Entry

abbrev pub row_of : Rows → ℕ → Entries
row_of r n = piece_of r.starts.items n r.entries.items
