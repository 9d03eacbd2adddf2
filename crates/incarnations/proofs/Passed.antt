-- What is stored after an entry stays where it stands, and after its count is another.
use Rattle.std.proofs.Common.{ℕ, ◌≡◌, ⊎_elim, ◌<◌, false, cond, Option, Some, None, refl, sym, ap, ◌∙◌, subst}
use Rattle.std.specs.Prelude.{is_some}
use Rattle.std.specs.Option.{option_map, option_and_then}
use Rattle.std.specs.FinMap.{FinMap, get, insert}
use Rattle.pss_base.specs.declared.session.SessionNo.{SessionNo}
use Rattle.link_pool.specs.Rings.{list_in}
use Rattle.link_pool.specs.declared.names.Node.{Node}
use Rattle.link_pool.specs.declared.names.Seat.{Seat}
use Rattle.incarnations.specs.declared.names.Slot.{Slot}
use Rattle.incarnations.specs.declared.names.Entry.{Entry}
use Rattle.incarnations.specs.declared.names.EntryRecord.{EntryRecord}
use Rattle.incarnations.specs.declared.stock.Stock.{Stock}
use Rattle.incarnations.specs.Keys.{slot_cmp}
use Rattle.pss_machine.specs.declared.session.View.{View}
use Rattle.type_layout.specs.Schemas.{given}
use Rattle.incarnations.specs.Meaning.{Meaning, with_view, with_count, with_entry, is_of, stands_on, is_attached}
use Rattle.recent_table.specs.Maps.{count}
use Rattle.incarnations.specs.Stock.{spot_of, spots_in, spot_at, row_at, col_at, size_at, load_at, pid_at, number_at, meaning_of, AreNumbered, AreCounted, is_standing, AreInFront, IsSound, IsSet, asks, turned_entry}
use Rattle.recent_table.proofs.Maps.{same_or_apart, insert_here, insert_apart, put_back, each_insert}
use Rattle.incarnations.proofs.Keys.{slot_key}
use Rattle.incarnations.proofs.Seats.{seats_alike}
use Rattle.incarnations.proofs.Named.{names_alike, numbered_set}
use Rattle.incarnations.proofs.Sets.{plain, entry_is}
use Rattle.incarnations.proofs.FirstNodes.{first_alike}
use Rattle.incarnations.proofs.Fronts.{is_front}
use Rattle.incarnations.proofs.Loosened.{count_alike}

-- how many of a session stand on a body
abbrev front_count : SessionNo → FinMap slot_cmp Entry → ℕ
front_count s E = count (is_front s) E

-- an entry that stays what it is
pub set_same : (old new : Meaning) (x : Slot) (e : Entry) → new ≡ old → get old.entries x ≡ Some e → IsSet old new x e
set_same old new x e same at = record {
  lasts = ap (λ m. m.lasts) same;
  entries = ap (λ m. m.entries) same ∙ sym (put_back slot_key old.entries x e at);
  bodies = λ b value h. ap (λ m. get m.bodies b) (sym same) ∙ h;
}

module _ (k : Stock) (sound : IsSound k) (x : Slot) (was : EntryRecord) (at : get k.entries x ≡ Some was) where
  -- another count
  module _ (count : ℕ) (some : 0 < count) (after : FinMap slot_cmp EntryRecord) (is : after ≡ insert k.entries x (record { entry = with_count count was.entry; node = was.node })) where
    abbrev put : EntryRecord
    put = record { entry = with_count count was.entry; node = was.node }

    abbrev counted : Stock
    counted = record { pool = k.pool; sessions = k.sessions; entries = after; objects = k.objects; bodies = k.bodies; attached = k.attached }

    plain_counted : plain after ≡ insert (plain k.entries) x (with_count count was.entry)
    plain_counted = ap plain is ∙ each_insert (λ r. r.entry) slot_key k.entries x put

    old : get (plain k.entries) x ≡ Some was.entry
    old = entry_is k sound x was at

    same_spots : (y : Slot) → spots_in after y ≡ spot_at k y
    same_spots y =
        ap (λ t. spots_in t y) is
        ∙ ⊎_elim (λ e. ap (spots_in (insert k.entries x put)) e ∙ ap (option_map (spot_of x)) (insert_here slot_key k.entries x put) ∙ sym (ap (option_map (spot_of x)) at) ∙ ap (spot_at k) (sym e))
        (λ ne. ap (option_map (spot_of y)) (insert_apart slot_key k.entries x put y ne)) (same_or_apart slot_key y x)

    same_pids : (y : Slot) → pid_at counted y ≡ pid_at k y
    same_pids y =
        ap (λ t. option_map (λ r. r.entry.pid) (get t y)) is
        ∙ ⊎_elim (λ e. ap (λ z. option_map (λ r. r.entry.pid) (get (insert k.entries x put) z)) e ∙ ap (option_map (λ r. r.entry.pid)) (insert_here slot_key k.entries x put) ∙ sym (ap (option_map (λ r. r.entry.pid)) at) ∙ ap (pid_at k) (sym e))
        (λ ne. ap (option_map (λ r. r.entry.pid)) (insert_apart slot_key k.entries x put y ne)) (same_or_apart slot_key y x)

    same_standing : (y : Node) → is_standing k.pool.nodes after y ≡ is_standing k.pool.nodes k.entries y
    same_standing y = ap (λ t. is_standing k.pool.nodes t y) is ∙ through (get k.pool.nodes y)
      where
        through : (o : Option (Seat Slot))
            → given (option_and_then (λ seat. get (insert k.entries x put) seat.item) o) false (λ r. is_some r.entry.view) ≡ given (option_and_then (λ seat. get k.entries seat.item) o) false (λ r. is_some r.entry.view)
        through None = refl
        through (Some seat) =
            ⊎_elim
            (λ e. ap (λ z. given (get (insert k.entries x put) z) false (λ r. is_some r.entry.view)) e ∙ ap (λ o. given o false (λ r. is_some r.entry.view)) (insert_here slot_key k.entries x put) ∙ sym (ap (λ o. given o false (λ r. is_some r.entry.view)) at) ∙ ap (λ z. given (get k.entries z) false (λ r. is_some r.entry.view)) (sym e))
            (λ ne. ap (λ o. given o false (λ r. is_some r.entry.view)) (insert_apart slot_key k.entries x put seat.item ne)) (same_or_apart slot_key seat.item x)

    fronts : AreInFront k.pool.nodes k.pool.cols after k.sessions
    fronts s r at' =
        let f = sound.fronts s r at' in
        record {
          first = first_alike (is_standing k.pool.nodes k.entries) (is_standing k.pool.nodes after) r.attached (list_in k.pool.cols r.col) (λ y m. same_standing y) f.first;
          counted = f.counted ∙ sym (ap (front_count s) plain_counted ∙ count_alike (is_front s) (plain k.entries) x was.entry (with_count count was.entry) old refl);
        }

    pub counted_sound : IsSound counted
    counted_sound = record {
      seats = seats_alike k.pool (spot_at k) (spots_in after) (row_at k) (row_at k) (col_at k) (col_at k) sound.seats same_spots (λ y spot h. refl) (λ y spot h. refl);
      rows = sound.rows;
      cols = sound.cols;
      names = names_alike (pid_at k) (pid_at counted) (number_at k) (number_at k) sound.names same_pids (λ o. refl);
      numbers = subst (λ E. AreNumbered E (meaning_of k).lasts) (sym plain_counted) (numbered_set (plain k.entries) (meaning_of k).lasts sound.numbers x was.entry (with_count count was.entry) old some);
      counts =
          subst (λ E. AreCounted E (size_at k) (load_at k) k.attached) (sym plain_counted)
          (record {
            sessions = λ s n h. sound.counts.sessions s n h ∙ sym (count_alike (is_of s) (plain k.entries) x was.entry (with_count count was.entry) old refl);
            bodies = λ b n h. sound.counts.bodies b n h ∙ sym (count_alike (stands_on b) (plain k.entries) x was.entry (with_count count was.entry) old refl);
            some = sound.counts.some;
            all = sound.counts.all ∙ sym (count_alike is_attached (plain k.entries) x was.entry (with_count count was.entry) old refl);
          });
      lengths = sound.lengths;
      fronts = fronts;
    }

    pub counted_is : meaning_of counted ≡ with_entry (meaning_of k) x (with_count count was.entry)
    counted_is = λ i. record { lasts = (meaning_of k).lasts; entries = plain_counted i; bodies = (meaning_of k).bodies }

-- where its view is not asked for
pub turned_not : (chosen : Option View) (e : Entry) (v : View) → e.view ≡ Some v → asks chosen v ≡ false → turned_entry chosen e ≡ e
turned_not chosen e v is no' = ap (λ o. given o e (λ w. cond (asks chosen w) (with_view None e) e)) is ∙ ap (λ t. cond t (with_view None e) e) no'

-- where it stands on no body
pub turned_loose : (chosen : Option View) (e : Entry) → e.view ≡ None → turned_entry chosen e ≡ e
turned_loose chosen e is = ap (λ o. given o e (λ w. cond (asks chosen w) (with_view None e) e)) is
