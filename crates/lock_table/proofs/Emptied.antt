-- An empty ring goes.
use Rattle.std.proofs.Common.{◌≡◌, ⊎_elim, List, [], ◌∷◌, length, Option, Some, None, IsSome, false, refl, sym, ap, ◌∙◌, subst, arith, slice_get}
use Rattle.std.specs.Prelude.{Contains}
use Rattle.std.specs.Option.{option_map, unwrap_or}
use Rattle.std.specs.FinMap as map
use Rattle.pss_base.specs.declared.owner.OwnerNo.{OwnerNo}
use Rattle.pss_machine.specs.declared.lock.Resource.{Resource}
use Rattle.pss_machine.specs.Needs.{same_resource}
use Rattle.link_pool.specs.Rings.{list_in, first_in}
use Rattle.link_pool.proofs.RingChanges.{bare, no_first}
use Rattle.link_pool.specs.Meaning.{row_in, col_in, AreRings}
use Rattle.link_pool.specs.declared.names.Row.{Row}
use Rattle.link_pool.specs.declared.names.Col.{Col}
use Rattle.link_pool.specs.declared.names.Node.{Node}
use Rattle.lock_table.specs.declared.places.Place.{Place}
use Rattle.lock_table.specs.declared.links.Links.{Links}
use Rattle.lock_table.specs.inner.Tables.{Turns, entry_at}
use Rattle.lock_table.specs.inner.Links.{IsLinked, DropsRow, EmptyRows, EmptyCols, same_owner, resource_in, owner_in, place_at, row_at, col_at}
use Rattle.lock_table.proofs.Sames.{resource-true, resource-self, owner-true, owner-self, cases, differ}
use Rattle.lock_table.proofs.Keyed.{one_value, no_value, keyed_less, empty_less}
use Rattle.lock_table.proofs.Kept.{same_row, same_col, same_key, same_owner_in, same_once, same_held, keyed_cols, empty_cols, keyed_rows, same_counts, row_gone, col_gone, row_gone_here, col_gone_here}

pub nothing_in : (node : Node) → Contains [] node → ⊥
nothing_in node m = omega (arith, m.1)

module _ (old new : Links) (linked : IsLinked old) (r : Resource) (row : Row) (at : row_at old r ≡ Some row) (empty : map.get old.pool.rows row ≡ Some []) (turns : Turns same_resource old.places.table.entries new.places.table.entries r None)
    (pool : new.pool ≡ record old.pool { rows = map.remove old.pool.rows row }) (columns : new.columns.entries ≡ old.columns.entries) (held : new.held ≡ old.held) (rings : AreRings new.pool) where
  nodes_r : new.pool.nodes ≡ old.pool.nodes
  nodes_r = ap (λ p. p.nodes) pool

  cols_r : new.pool.cols ≡ old.pool.cols
  cols_r = ap (λ p. p.cols) pool

  rows_r : new.pool.rows ≡ map.remove old.pool.rows row
  rows_r = ap (λ p. p.rows) pool

  others_r : (q : Resource) → same_resource q r ≡ false → row_at new q ≡ row_at old q
  others_r q ne = ap (option_map (λ place. place.row)) (turns.others q ne)

  left_r : (q : Row) → (q ≡ row → ⊥) → map.get new.pool.rows q ≡ map.get old.pool.rows q
  left_r q ne = ap (λ m. map.get m q) rows_r ∙ row_gone old.pool.rows row q ne

  nobody_r : (node : Node) → row_in old.pool node ≡ Some row → ⊥
  nobody_r node e = nothing_in node (subst (λ (o : Option (List Node)). Contains (unwrap_or o []) node) empty (linked.rings.rows.found row node e))

  counted_r : (q : Resource) (place : Place) → place_at new q ≡ Some place → place.locks ≡ length (unwrap_or (map.get new.pool.rows place.row) [])
  counted_r q place e =
      ⊎_elim
      (λ (is : q ≡ r). no_value place (sym turns.here ∙ ap (place_at new) (sym is) ∙ e))
      (λ (ne : same_resource q r ≡ false).
      let was : place_at old q ≡ Some place = sym (turns.others q ne) ∙ e in
      let away : place.row ≡ row → ⊥ = λ o. differ same_resource resource-self q r ne (linked.rows.apart q r row (ap (option_map (λ p. p.row)) was ∙ ap (λ x. Some x) o) at) in
      linked.counted q place was ∙ ap (λ o. length (unwrap_or o [])) (sym (left_r place.row away)))
      (cases same_resource resource-true q r)

  place_removed : IsLinked new
  place_removed = record {
    rings = rings;
    rows =
        keyed_less same_resource resource-true resource-self (λ row. IsSome (map.get old.pool.rows row)) (λ row. IsSome (map.get new.pool.rows row)) (row_in old.pool) (row_in new.pool) (resource_in old.pool) (resource_in new.pool) (row_at old)
        (row_at new) linked.rows (same_row old new nodes_r) (same_key old new nodes_r) r row others_r at (ap (option_map (λ place. place.row)) turns.here) nobody_r (λ s ne there. subst IsSome (sym (left_r s ne)) there);
    cols = keyed_cols old new nodes_r cols_r columns linked;
    counted = counted_r;
    once = same_once old new nodes_r linked;
    held = same_held old new nodes_r linked held;
  }

  place_removed_rows : (keys : List Resource) → EmptyRows old (r ∷ keys) → EmptyRows new keys
  place_removed_rows keys were =
      empty_less same_resource resource-true resource-self (λ row. map.get old.pool.rows row ≡ Some []) (λ row. map.get new.pool.rows row ≡ Some []) (row_at old) (row_at new) r others_r keys were
      (λ s e. let away : s ≡ row → ⊥ = λ o. no_value {B = ⊥} [] (sym (row_gone_here old.pool.rows row) ∙ ap (map.get (map.remove old.pool.rows row)) (sym o) ∙ ap (λ m. map.get m s) (sym rows_r) ∙ e) in
      (sym (left_r s away) ∙ e, λ (h : row_at old r ≡ Some s). away (one_value (sym h ∙ at))))

  pub place_dropped : DropsRow old new r
  place_dropped = record { linked = place_removed; rows = place_removed_rows; cols = empty_cols old new nodes_r cols_r columns }

module _ (old new : Links) (linked : IsLinked old) (owner : OwnerNo) (col : Col) (at : col_at old owner ≡ Some col) (empty : map.get old.pool.cols col ≡ Some []) (turns : Turns same_owner old.columns.entries new.columns.entries owner None)
    (pool : new.pool ≡ record old.pool { cols = map.remove old.pool.cols col }) (places : new.places.table.entries ≡ old.places.table.entries) (held : new.held ≡ old.held) (rings : AreRings new.pool) where
  nodes_c : new.pool.nodes ≡ old.pool.nodes
  nodes_c = ap (λ p. p.nodes) pool

  rows_c : new.pool.rows ≡ old.pool.rows
  rows_c = ap (λ p. p.rows) pool

  cols_c : new.pool.cols ≡ map.remove old.pool.cols col
  cols_c = ap (λ p. p.cols) pool

  left_c : (q : Col) → (q ≡ col → ⊥) → map.get new.pool.cols q ≡ map.get old.pool.cols q
  left_c q ne = ap (λ m. map.get m q) cols_c ∙ col_gone old.pool.cols col q ne

  nobody_c : (node : Node) → col_in old.pool node ≡ Some col → ⊥
  nobody_c node e = nothing_in node (subst (λ (o : Option (List Node)). Contains (unwrap_or o []) node) empty (linked.rings.cols.found col node e))

  places_c : (r : Resource) → place_at new r ≡ place_at old r
  places_c r = ap (λ es. entry_at same_resource es r) places

  pub column_removed : IsLinked new
  column_removed = record {
    rings = rings;
    rows = keyed_rows old new nodes_c rows_c places_c linked;
    cols =
        keyed_less same_owner owner-true owner-self (λ col. IsSome (map.get old.pool.cols col)) (λ col. IsSome (map.get new.pool.cols col)) (col_in old.pool) (col_in new.pool) (owner_in old.pool) (owner_in new.pool) (col_at old)
        (col_at new) linked.cols (same_col old new nodes_c) (same_owner_in old new nodes_c) owner col turns.others at turns.here nobody_c (λ s ne there. subst IsSome (sym (left_c s ne)) there);
    counted = same_counts old new nodes_c rows_c places_c linked;
    once = same_once old new nodes_c linked;
    held = same_held old new nodes_c linked held;
  }

  pub column_removed_cols : (keys : List OwnerNo) → EmptyCols old (owner ∷ keys) → EmptyCols new keys
  column_removed_cols keys were =
      empty_less same_owner owner-true owner-self (λ col. map.get old.pool.cols col ≡ Some []) (λ col. map.get new.pool.cols col ≡ Some []) (col_at old) (col_at new) owner turns.others keys were
      (λ s e. let away : s ≡ col → ⊥ = λ o. no_value {B = ⊥} [] (sym (col_gone_here old.pool.cols col) ∙ ap (map.get (map.remove old.pool.cols col)) (sym o) ∙ ap (λ m. map.get m s) (sym cols_c) ∙ e) in
      (sym (left_c s away) ∙ e, λ (h : col_at old owner ≡ Some s). away (one_value (sym h ∙ at))))

-- where nothing is empty there, fewer keys do

pub rows_less : (links : Links) (r : Resource) (keys : List Resource) → EmptyRows links (r ∷ keys) → ((s : Row) → map.get links.pool.rows s ≡ Some [] → row_at links r ≡ Some s → ⊥) → EmptyRows links keys
rows_less links r keys were none =
    empty_less same_resource resource-true resource-self (λ row. map.get links.pool.rows row ≡ Some []) (λ row. map.get links.pool.rows row ≡ Some []) (row_at links) (row_at links) r (λ q ne. refl) keys were (λ s e. (e, none s e))

-- so a resource without an empty row drops none
pub drops_none : (links : Links) → IsLinked links → (r : Resource) → ((s : Row) → map.get links.pool.rows s ≡ Some [] → row_at links r ≡ Some s → ⊥) → DropsRow links links r
drops_none links linked r none = record { linked = linked; rows = λ keys were. rows_less links r keys were none; cols = λ keys were. were }

pub cols_less : (links : Links) (owner : OwnerNo) (keys : List OwnerNo) → EmptyCols links (owner ∷ keys) → ((s : Col) → map.get links.pool.cols s ≡ Some [] → col_at links owner ≡ Some s → ⊥) → EmptyCols links keys
cols_less links owner keys were none =
    empty_less same_owner owner-true owner-self (λ col. map.get links.pool.cols col ≡ Some []) (λ col. map.get links.pool.cols col ≡ Some []) (col_at links) (col_at links) owner (λ q ne. refl) keys were (λ s e. (e, none s e))

-- a place that counts no lock has an empty row
pub row_bare : (links : Links) → IsLinked links → (r : Resource) (place : Place) → place_at links r ≡ Some place → place.locks ≡ 0 → map.get links.pool.rows place.row ≡ Some []
row_bare links linked r place at zero =
    bare links.pool.rows place.row (linked.rows.there r place.row (ap (option_map (λ p. p.row)) at)) (no_length (list_in links.pool.rows place.row) (sym (linked.counted r place at) ∙ zero))
  where
    no_length : (xs : List Node) → length xs ≡ 0 → xs ≡ []
    no_length [] e = refl
    no_length (x ∷ xs) e = absurd (omega (arith, e))

-- and one that counts some has not
pub row_full : (links : Links) → IsLinked links → (r : Resource) (place : Place) → place_at links r ≡ Some place → (place.locks ≡ 0 → ⊥) → (s : Row) → map.get links.pool.rows s ≡ Some [] → row_at links r ≡ Some s → ⊥
row_full links linked r place at some s e h =
    let same : place.row ≡ s = one_value (sym (ap (option_map (λ p. p.row)) at) ∙ h) in
    some (linked.counted r place at ∙ ap (λ o. length (unwrap_or o [])) (ap (map.get links.pool.rows) same ∙ e))

pub col_bare : (links : Links) → IsLinked links → (owner : OwnerNo) (col : Col) → col_at links owner ≡ Some col → first_in links.pool.cols col ≡ None → map.get links.pool.cols col ≡ Some []
col_bare links linked owner col at none = bare links.pool.cols col (linked.cols.there owner col at) (no_first links.pool.cols col none)

pub col_full : (links : Links) (owner : OwnerNo) (col : Col) (node : Node) → col_at links owner ≡ Some col → first_in links.pool.cols col ≡ Some node → (s : Col) → map.get links.pool.cols s ≡ Some [] → col_at links owner ≡ Some s → ⊥
col_full links owner col node at some s e h =
    let same : col ≡ s = one_value (sym at ∙ h) in
    no_value {B = ⊥} node (sym (ap (λ o. slice_get (unwrap_or o []) 0) (ap (map.get links.pool.cols) same ∙ e)) ∙ some)
