-- Nothing is stored.
use Rattle.std.proofs.Common.{ℕ, ◌≡◌, Bool, Some, sym, ap, ◌∙◌, subst}
use Rattle.std.specs.Option.{option_map}
use Rattle.std.specs.FinMap as finite
use Rattle.std.specs.FinMap.{FinMap, get, get-empty}
use Rattle.std.specs.declared.cmp.Ordering.{Ordering}
use Rattle.link_pool.specs.Meaning.{Meaning as Pool, AreRings, empty_pool}
use Rattle.link_pool.specs.Names.{node_cmp}
use Rattle.incarnations.specs.declared.names.Slot.{Slot}
use Rattle.incarnations.specs.declared.names.EntryRecord.{EntryRecord}
use Rattle.incarnations.specs.declared.names.SessionRecord.{SessionRecord}
use Rattle.incarnations.specs.declared.names.BodyRecord.{BodyRecord}
use Rattle.incarnations.specs.declared.stock.Stock.{Stock}
use Rattle.incarnations.specs.Keys.{slot_cmp, session_cmp, body_cmp, object_cmp}
use Rattle.recent_table.specs.Maps.{each, count}
use Rattle.incarnations.specs.Meaning.{no_copies, is_attached}
use Rattle.link_pool.specs.declared.names.Row.{Row}
use Rattle.incarnations.specs.declared.names.Entry.{Entry}
use Rattle.incarnations.specs.Stock.{spot_of, Place, Loose, On, meaning_of, row_at, IsSound}
use Rattle.recent_table.proofs.Maps.{IsKey, no_value, alike_maps, get_each, count_none}
use Rattle.incarnations.proofs.Keys.{session_key, slot_key, body_key}

each_empty : {K X Y : Type 0} {R : K → K → Ordering} (key : IsKey R) (f : X → Y) → each {R = R} f finite.empty ≡ finite.empty
each_empty {R = R} key f = alike_maps key _ _ (λ q. get_each f finite.empty q ∙ ap (option_map f) (get-empty R q) ∙ sym (get-empty R q))

nothing : {A K X Y : Type 0} (R : K → K → Ordering) (f : X → Y) (q : K) (y : Y) → option_map f (get (finite.empty {R = R}) q) ≡ Some y → A
nothing R f q y h = no_value y (sym (ap (option_map f) (get-empty R q)) ∙ h)

module _ (p : Pool Slot) (p_is : p ≡ empty_pool) (rings : AreRings p) (sessions : FinMap session_cmp SessionRecord) (s_is : sessions ≡ finite.empty) (entries : FinMap slot_cmp EntryRecord) (e_is : entries ≡ finite.empty) (objects : FinMap object_cmp ℕ) (o_is : objects ≡ finite.empty)
    (bodies : FinMap body_cmp BodyRecord) (b_is : bodies ≡ finite.empty) where
  abbrev stock : Stock
  stock = record { pool = p; sessions = sessions; entries = entries; objects = objects; bodies = bodies; attached = 0 }

  abbrev bare : Stock
  bare = record { pool = p; sessions = finite.empty; entries = finite.empty; objects = finite.empty; bodies = finite.empty; attached = 0 }

  stock_is : stock ≡ bare
  stock_is = λ i. record { pool = p; sessions = s_is i; entries = e_is i; objects = o_is i; bodies = b_is i; attached = 0 }

  pub empty_is : meaning_of stock ≡ no_copies
  empty_is = ap meaning_of stock_is ∙ (λ i. record { lasts = each_empty session_key (λ (r : SessionRecord). r.last) i; entries = each_empty slot_key (λ (r : EntryRecord). r.entry) i; bodies = each_empty body_key (λ (r : BodyRecord). r.value) i })

  zero_of : (test : Slot × Entry → Bool) → 0 ≡ count test (each (λ (r : EntryRecord). r.entry) (finite.empty {R = slot_cmp}))
  zero_of test = sym (count_none slot_key test (each (λ (r : EntryRecord). r.entry) finite.empty) (λ q v at. nothing slot_cmp (λ (r : EntryRecord). r.entry) q v (sym (get_each (λ (r : EntryRecord). r.entry) finite.empty q) ∙ at)))

  no_row : {A : Type 0} (a : Place) (r : Row) → row_at bare a ≡ Some r → A
  no_row (Loose s) r h = nothing session_cmp (λ (z : SessionRecord). z.row) s r h
  no_row (On b) r h = nothing body_cmp (λ (z : BodyRecord). z.place.row) b r h

  pub empty_sound : IsSound stock
  empty_sound =
      subst IsSound (sym stock_is)
      (record {
        seats = record {
          rings = rings;
          seated = λ x spot h. nothing slot_cmp (spot_of x) x spot h;
          known = λ node seat h. no_value seat (sym (get-empty node_cmp node) ∙ ap (λ (z : Pool Slot). get z.nodes node) (sym p_is) ∙ h);
        };
        rows = record { apart = λ a b r h h'. no_row a r h; there = λ a r h. no_row a r h };
        cols = record { apart = λ s t c h h'. nothing session_cmp (λ (z : SessionRecord). z.col) s c h; there = λ s c h. nothing session_cmp (λ (z : SessionRecord). z.col) s c h };
        names = record {
          named = λ x pid h. nothing slot_cmp (λ (z : EntryRecord). z.entry.pid) x pid h;
          meant = λ o n h. no_value n (sym (get-empty object_cmp o) ∙ h);
        };
        numbers = record {
          numbers = λ x e h. nothing slot_cmp (λ (r : EntryRecord). r.entry) x e (sym (get_each (λ (r : EntryRecord). r.entry) finite.empty x) ∙ h);
          counts = λ x e h. nothing slot_cmp (λ (r : EntryRecord). r.entry) x e (sym (get_each (λ (r : EntryRecord). r.entry) finite.empty x) ∙ h);
        };
        counts = record {
          sessions = λ s n h. nothing session_cmp (λ (z : SessionRecord). z.entries) s n h;
          bodies = λ b n h. nothing body_cmp (λ (z : BodyRecord). z.place.entries) b n h;
          some = λ b n h. nothing body_cmp (λ (z : BodyRecord). z.place.entries) b n h;
          all = zero_of is_attached;
        };
        lengths = λ s r h. no_value r (sym (get-empty session_cmp s) ∙ h);
        fronts = λ s r h. no_value r (sym (get-empty session_cmp s) ∙ h);
      })
