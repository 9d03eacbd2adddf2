-- The bodies after an entry left one.
use Rattle.std.proofs.Common.{ℕ, ◌≡◌, ◌≢◌, ◌⊎◌, inl, inr, ⊎_elim, ◌<◌, ◌+◌, ◌-◌, Some, None, IsSome, refl, sym, ap, ◌∙◌, subst, arith}
use Rattle.std.specs.Option.{option_map}
use Rattle.std.specs.FinMap.{FinMap, get, remove}
use Rattle.pss_base.specs.declared.session.SessionNo.{SessionNo}
use Rattle.link_pool.specs.Meaning.{Meaning as Pool}
use Rattle.link_pool.specs.declared.names.Row.{Row}
use Rattle.incarnations.specs.declared.names.Slot.{Slot}
use Rattle.incarnations.specs.declared.names.BodyName.{BodyName}
use Rattle.incarnations.specs.declared.names.BodyRecord.{BodyRecord}
use Rattle.incarnations.specs.declared.names.EntryRecord.{EntryRecord}
use Rattle.incarnations.specs.declared.names.SessionRecord.{SessionRecord}
use Rattle.incarnations.specs.declared.stock.Stock.{Stock}
use Rattle.incarnations.specs.Keys.{slot_cmp, session_cmp, object_cmp}
use Rattle.recent_table.specs.Maps.{count}
use Rattle.incarnations.specs.Records.{with_entries}
use Rattle.incarnations.specs.Meaning.{stands_on}
use Rattle.incarnations.specs.Stock.{Place, Loose, On, Spot, spots_in, row_at, load_at, meaning_of, AreApart, IsSound, IsFewer, KeepsBodies}
use Rattle.recent_table.proofs.Maps.{no_value, one_value, same_or_apart, insert_here, insert_apart, remove_here, remove_apart, get_each}
use Rattle.incarnations.proofs.Keys.{body_key}
use Rattle.incarnations.proofs.Seats.{row_key}
use Rattle.incarnations.proofs.Named.{apart_less}
use Rattle.incarnations.proofs.Sets.{plain, load_on}

module _ (k : Stock) (sound : IsSound k) (b : BodyName) (here : BodyRecord) (here_is : get k.bodies b ≡ Some here) (p : Pool Slot) (after : FinMap slot_cmp EntryRecord)
    (sessions : FinMap session_cmp SessionRecord) (objects : FinMap object_cmp ℕ) (attached : ℕ) (same_rows : (s : SessionNo) → option_map (λ r. r.row) (get sessions s) ≡ option_map (λ r. r.row) (get k.sessions s))
    (stay : (r : Row) → IsSome (get k.pool.rows r) → IsSome (get p.rows r)) (nobody : here.place.entries ≡ 1 → (y : Slot) (spot : Spot) → spots_in after y ≡ Some spot → spot.place ≢ On b)
    (n : Stock) (f : IsFewer (record { pool = p; sessions = sessions; entries = after; objects = objects; bodies = k.bodies; attached = attached }) n b here) where
  row_b : row_at k (On b) ≡ Some here.place.row
  row_b = ap (option_map (λ r. r.place.row)) here_is

  pub others : (c : BodyName) → c ≢ b → get n.bodies c ≡ get k.bodies c
  others c ne =
      ⊎_elim (λ g. ap (λ t. get t c) g.1 ∙ remove_apart body_key k.bodies b c ne) (λ g. ap (λ t. get t c) g.1 ∙ insert_apart body_key k.bodies b (with_entries (here.place.entries - 1) here) c ne) f.body

  -- the body is gone, or has one entry fewer
  abbrev pub Parted : Type 0
  Parted =
      ((here.place.entries ≡ 1) × (get n.bodies b ≡ None) × (n.pool.rows ≡ remove p.rows here.place.row))
      ⊎ ((1 < here.place.entries) × (get n.bodies b ≡ Some (with_entries (here.place.entries - 1) here)) × (n.pool.rows ≡ p.rows))

  pub parted : Parted
  parted =
      ⊎_elim (λ g. inl (g.0, ap (λ t. get t b) g.1 ∙ remove_here body_key k.bodies b, g.2)) (λ g. inr (g.0, ap (λ t. get t b) g.1 ∙ insert_here body_key k.bodies b (with_entries (here.place.entries - 1) here), g.2))
      f.body

  pub rows_down : (y : Slot) (spot : Spot) → spots_in after y ≡ Some spot → row_at n spot.place ≡ row_at k spot.place
  rows_down y spot s = by spot.place refl
    where
      body_row : (c : BodyName) → spot.place ≡ On c → (c ≡ b) ⊎ (c ≢ b) → Parted → row_at n (On c) ≡ row_at k (On c)
      body_row c on (inl e') (inl g) = absurd (nobody g.0 y spot s (on ∙ ap On e'))
      body_row c on (inl e') (inr g) = ap (λ z. row_at n (On z)) e' ∙ ap (option_map (λ r. r.place.row)) g.1 ∙ sym row_b ∙ ap (λ z. row_at k (On z)) (sym e')
      body_row c on (inr ne) g = ap (option_map (λ r. r.place.row)) (others c ne)

      by : (place : Place) → spot.place ≡ place → row_at n place ≡ row_at k place
      by (Loose s') on = ap (λ t. option_map (λ r. r.row) (get t s')) f.sessions ∙ same_rows s'
      by (On c) on = body_row c on (same_or_apart body_key c b) parted

  pub rows_less : (a : Place) (r : Row) → row_at n a ≡ Some r → row_at k a ≡ Some r
  rows_less (Loose s') r h = sym (same_rows s') ∙ ap (λ t. option_map (λ z. z.row) (get t s')) (sym f.sessions) ∙ h
  rows_less (On c) r h = by (same_or_apart body_key c b) parted
    where
      by : (c ≡ b) ⊎ (c ≢ b) → Parted → row_at k (On c) ≡ Some r
      by (inl e') (inl g) = no_value r (sym (ap (option_map (λ z. z.place.row)) (ap (get n.bodies) e' ∙ g.1)) ∙ h)
      by (inl e') (inr g) = ap (λ z. row_at k (On z)) e' ∙ row_b ∙ sym (ap (option_map (λ z. z.place.row)) (ap (get n.bodies) e' ∙ g.1)) ∙ h
      by (inr ne) g = sym (ap (option_map (λ z. z.place.row)) (others c ne)) ∙ h

  pub rows_there : (a : Place) (r : Row) → row_at n a ≡ Some r → IsSome (get k.pool.rows r) → IsSome (get n.pool.rows r)
  rows_there a r h there = by parted
    where
      stays : IsSome (get p.rows r)
      stays = stay r there

      none_some : (c : Place) → c ≡ On b → get n.bodies b ≡ None → row_at n c ≡ Some r → ⊥
      none_some c on none is' = no_value r (sym (ap (row_at n) on ∙ ap (option_map (λ z. z.place.row)) none) ∙ is')

      by : Parted → IsSome (get n.pool.rows r)
      by (inl g) =
          subst (λ t. IsSome (get t r)) (sym g.2)
          (subst IsSome (sym (remove_apart row_key p.rows here.place.row r (λ e'. none_some a (sound.rows.apart a (On b) r (rows_less a r h) (row_b ∙ ap Some (sym e'))) g.1 h))) stays)
      by (inr g) = subst (λ t. IsSome (get t r)) (sym g.2) stays

  pub rows_parted : AreApart (row_at n) n.pool.rows
  rows_parted = apart_less (row_at k) (row_at n) k.pool.rows n.pool.rows sound.rows rows_less rows_there

  pub loads : (count (stands_on b) (plain after) + 1 ≡ count (stands_on b) (plain k.entries)) → ((c : BodyName) → c ≢ b → count (stands_on c) (plain after) ≡ count (stands_on c) (plain k.entries))
      → (c : BodyName) (l : ℕ) → load_at n c ≡ Some l → (l ≡ count (stands_on c) (plain after)) × (0 < l)
  loads fewer alike c l h = by (same_or_apart body_key c b) parted
    where
      load : (here.place.entries ≡ count (stands_on b) (plain k.entries)) × (0 < here.place.entries)
      load = load_on k sound b here here_is

      by : (c ≡ b) ⊎ (c ≢ b) → Parted → (l ≡ count (stands_on c) (plain after)) × (0 < l)
      by (inl e') (inl g) = no_value l (sym (ap (option_map (λ z. z.place.entries)) (ap (get n.bodies) e' ∙ g.1)) ∙ h)
      by (inl e') (inr g) =
          let is' : here.place.entries - 1 ≡ l = one_value (sym (ap (option_map (λ z. z.place.entries)) (ap (get n.bodies) e' ∙ g.1)) ∙ h) in
          subst (λ z. (l ≡ count (stands_on z) (plain after)) × (0 < l)) (sym e') (omega (arith, is', g.0, load.0, fewer), omega (arith, is', g.0))
      by (inr ne) g = let h' : load_at k c ≡ Some l = sym (ap (option_map (λ z. z.place.entries)) (others c ne)) ∙ h in (sound.counts.bodies c l h' ∙ sym (alike c ne), sound.counts.some c l h')

  pub keeps : KeepsBodies (meaning_of k) (meaning_of n)
  keeps c value h = by (same_or_apart body_key c b) parted
    where
      has_value : get (meaning_of n).bodies c ≡ option_map (λ r. r.value) (get n.bodies c)
      has_value = get_each (λ r. r.value) n.bodies c

      by : (c ≡ b) ⊎ (c ≢ b) → Parted → get (meaning_of k).bodies c ≡ Some value
      by (inl e') (inl g) = no_value value (sym (has_value ∙ ap (option_map (λ r. r.value)) (ap (get n.bodies) e' ∙ g.1)) ∙ h)
      by (inl e') (inr g) =
          get_each (λ r. r.value) k.bodies c ∙ ap (option_map (λ r. r.value)) (ap (get k.bodies) e' ∙ here_is) ∙ sym (ap (option_map (λ r. r.value)) (ap (get n.bodies) e' ∙ g.1)) ∙ sym has_value ∙ h
      by (inr ne) g = get_each (λ r. r.value) k.bodies c ∙ ap (option_map (λ r. r.value)) (sym (others c ne)) ∙ sym has_value ∙ h
