-- The rows of keys, or of factories, by number.
use Rattle.std.proofs.Common.{◌≡◌, ℕ, ◌+◌, ◌<◌, ◌≤◌, List, [], ◌∷◌, length, map, Some, nat_lt, refl, sym, ap, ◌∙◌}
use Rattle.std.specs.List.{list_all, flat_map}
use Rattle.std.proofs.lemmas.Bool.{and_from, lt-ltb}
use Rattle.psdl_directory.specs.Declarations.{Declaration}
use Rattle.psdl_directory.specs.Lookup.{lower}
use Rattle.psdl_directory.specs.Spelled.{number_of}
use Rattle.psdl_lineage.specs.Descent.{Listed}
use Rattle.psdl_members.specs.declared.entry.Entry.{Entry}
use Rattle.psdl_members.specs.declared.list_kind.ListKind.{ListKind}
use Rattle.psdl_members.specs.declared.entries.Numbering.{Numbering}
use Rattle.psdl_members.specs.declared.rows.Rows.{Rows}
use Rattle.psdl_members.specs.Clashes.{lists_clash}
use Rattle.psdl_members.specs.inner.Below.{AreBelow}
use Rattle.psdl_members.specs.inner.Clashing.{some_clash, entries_clash, ClashAlike, AreNumberedBy}
use Rattle.psdl_members.specs.inner.Entries.{entry_of, AreEntries}
use Rattle.psdl_members.specs.inner.Flat.{flat, begins, piece_of}
use Rattle.psdl_members.specs.inner.Listing.{own_lists}
use Rattle.psdl_members.specs.inner.Rowed.{row_of}
use Rattle.psdl_members.proofs.Cutting.{no_piece}
use Rattle.psdl_members.proofs.Entering.{entry_parts, some_alike}
use Rattle.psdl_members.proofs.Listing.{no_lists}
use Rattle.psdl_members.proofs.Rowing.{numbered_row, numbered_rows}

pub numbered_by : (n : Numbering) (es : List Entry) (ls : List Listed) (starts : List ℕ) → AreEntries n es ls → (g : ℕ → List Listed) (count : ℕ) → ls ≡ flat g count → starts ≡ begins g (count + 1) → ((m : ℕ) → count ≤ m → g m ≡ [])
    → (ns : List ℕ) → some_clash entries_clash (flat_map (λ m. piece_of starts m es) ns) ≡ some_clash lists_clash (flat_map g ns)
numbered_by n es ls starts are g count whole e past ns =
    some_alike n (flat_map (λ m. piece_of starts m es) ns) (flat_map g ns)
    (numbered_rows (entry_of n) g (λ m. piece_of starts m es) (λ m. numbered_row (entry_of n) g count es starts (are ∙ ap (λ (l : List Listed). map (entry_of n) l) whole) e past m) ns)

pub below_all : (n : Numbering) (limit : ℕ) → ((name : List ℕ) (k : ℕ) → number_of n.spellings name ≡ Some k → k < limit) → (es : List Entry) (ls : List Listed) → AreEntries n es ls → AreBelow limit es
below_all n limit below [] ls e = refl
below_all n limit below (x ∷ es) [] e = absurd (cc)
below_all n limit below (x ∷ es) (l ∷ ls) e =
    let first : Some x ≡ entry_of n l = cc in
    let rest : AreEntries n es ls = cc in
    let parts = entry_parts n l x (sym first) in
    and_from (nat_lt x.name limit) (list_all (λ y. nat_lt y.name limit) es) (lt-ltb x.name limit (below (lower l.name) x.name parts.0)) (below_all n limit below es ls rest)

pub alike_by : (kind : ListKind) (all : List Declaration) (ls : List Listed) (starts : List ℕ) (r : Rows) → AreNumberedBy ls starts r → ls ≡ flat (own_lists kind all) (length all) → starts ≡ begins (own_lists kind all) (length all + 1) → ClashAlike kind all r
alike_by kind all ls starts r by whole e = by (own_lists kind all) (length all) whole e (λ n past. no_lists kind all n past)

pub past_all : (kind : ListKind) (all : List Declaration) (r : Rows) (starts : List ℕ) → r.starts.items ≡ starts → starts ≡ begins (own_lists kind all) (length all + 1) → (n : ℕ) → length all ≤ n → row_of r n ≡ []
past_all kind all r starts same e n past =
    ap (λ (l : List ℕ). piece_of l n r.entries.items) (same ∙ e) ∙ no_piece (own_lists kind all) (length all) n r.entries.items past
