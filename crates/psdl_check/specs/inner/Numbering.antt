-- The keys of a home are numbered one by one.
use Rattle.std.specs.Prelude.{◌≡◌, ◌<◌, ◌≤◌, ◌+◌, ◌++◌, ℕ, List, length, map, true, false, nat_lt}
use Rattle.std.proofs.Common.{get_or}
use Rattle.std.specs.List.{flat_map}
use Rattle.std.specs.Option.{is_some, option_to_list}
use Rattle.type_layout.specs.declared.key.KeyNo.{KeyNo}
use Rattle.type_layout.specs.ShapeText.{key_line}
use Rattle.psdl_directory.specs.Declarations.{Declaration}
use Rattle.psdl_lineage.specs.Descent.{Listed}
use Rattle.psdl_rules.specs.Faults.Limit.{most_shape}
use Rattle.psdl_standings.specs.TextLengths.{cut}
use Rattle.psdl_check.specs.Schemas.{Introduced, all_introduced, key_number, schema}
use Rattle.psdl_check.specs.declared.home_keys.HeldKey.{HeldKey}
use Rattle.psdl_check.specs.declared.key_rows.KeyIds.{KeyIds}
use Rattle.psdl_check.specs.declared.keys.Introducing.{Introducing}
use Rattle.psdl_check.specs.declared.keys.Keys.{Keys}
use Rattle.psdl_check.specs.declared.numbering.Numbered.{Numbered}
use Rattle.psdl_check.specs.inner.HeldKeys.{held_view, held_views, news}
use Rattle.psdl_check.specs.inner.KeyIds.{HaveIds}
use Rattle.psdl_check.specs.inner.Keys.{AreKeys, number_among}
use Rattle.psdl_check.specs.inner.KeysMade.{HasLayout}

-- the numbers that a home has for these keys
abbrev pub numbers_of : List Declaration → ℕ → List Listed → List KeyNo
numbers_of all home views = map (λ n. record { 0 = n }) (flat_map (λ k. option_to_list (key_number all home k)) views)

-- the home, or one that it derives from, has introduced a key
abbrev pub HasNumber : List Declaration → ℕ → List Introduced → Listed → Type 0
HasNumber all home introduced l = is_some (number_among all home introduced l) ≡ true

-- with these keys of a home the keys so far are those, and the shape reaches that far
pub record AreNumbered (all : List Declaration) (ids : KeyIds) (introduced : List Introduced) (home : ℕ) (views : List Listed) (front : ℕ) (keys : Keys) (numbered : Numbered) : Type 0 where
  pub known : AreKeys all ids introduced keys
  pub counted : numbered.numbers ≡ numbers_of all home views
  pub reached : numbered.length.0 ≡ cut (front + length (flat_map (key_line (schema all)) (numbers_of all home views)))
  pub few : length introduced ≤ most_shape + length (flat_map (key_line (schema all)) (numbers_of all home views))

-- these are the keys that the homes in front introduced, and behind them come those of this home
pub record IsNumberable (all : List Declaration) (ids : KeyIds) (introduced more : List Introduced) (home : Introducing) (held : List HeldKey) (keys : Keys) : Type 0 where
  pub layout : HasLayout all home
  pub numbered : HaveIds ids (map (λ h. h.key) held)
  pub before : AreKeys all ids introduced keys
  pub rest : all_introduced all ≡ (introduced ++ news home held) ++ more
  pub few : length introduced ≤ most_shape
  pub of_base : (i : ℕ) (h : HeldKey) → i < length held → h ≡ get_or held i h → h.of_base ≡ true → HasNumber all home.home introduced (held_view h)

-- all keys of a home are numbered, unless the shape gets too long with them
pub record AreAllNumbered (all : List Declaration) (ids : KeyIds) (introduced : List Introduced) (home : Introducing) (held : List HeldKey) (front : ℕ) (keys : Keys) (numbered : Numbered) : Type 0 where
  pub reached : numbered.length.0 ≡ cut (front + length (flat_map (key_line (schema all)) (numbers_of all home.home (held_views held))))
  pub counted : nat_lt most_shape numbered.length.0 ≡ false → numbered.numbers ≡ numbers_of all home.home (held_views held)
  pub known : nat_lt most_shape numbered.length.0 ≡ false → AreKeys all ids (introduced ++ news home held) keys
