-- Room for a body.
use Rattle.std.proofs.Common.{ℕ, ◌≡◌, ◌*◌, ◌≤◌, List, [], ◌∷◌, ◌++◌, length, max, Option, None, Some, IfSome, Result, Ok, Err, OnErr, OnOk, length-append, refl, sym, ap, ◌∙◌, subst, arith}
use Rattle.std.specs.Int.{to_be_bytes, w32, w64}
use Rattle.std.specs.List.{AllByRecursion, flat_map}
use Rattle.pss_base.specs.declared.put.Put.{Put}
use Rattle.type_layout.specs.declared.schema.Schema.{Schema}
use Rattle.pss_catalog.specs.Catalog.{Catalog}
use Rattle.redo_journal.specs.Journal.{IsReady, Position}
use Rattle.page_store.specs.Kept.{IsKept, Kept}
use Rattle.page_format.specs.Objects.{HasRecord, IsRightPut}
use Rattle.page_format.specs.Objects.{octets_left}
use Rattle.pss_recovery.specs.Bodies.{body_octets, change_head, change_octets}
use Rattle.pss_recovery.specs.Mounted.{IsMounted}
use Rattle.pss_recovery.specs.Noted.{AreNoted}
use Rattle.pss_recovery.specs.declared.body.Body.{Body}
use Rattle.pss_recovery.specs.declared.parts.Parts.{Parts}

-- ---- how long a body is

length-change_head : (home serial len : ℕ) → length (change_head home serial len) ≡ 16
unfolding change_head
length-change_head home serial len = refl

short_record : (bytes : Option (List ℕ)) → IfSome bytes HasRecord → length (octets_left bytes) ≤ 8000
short_record None has = omega arith
short_record (Some octets) has = has.most

short_changes : (puts : List Put) → AllByRecursion IsRightPut puts → length (flat_map change_octets puts) ≤ 8016 * length puts
short_changes [] right = omega arith
short_changes (put ∷ puts) right =
    omega (
      arith,
      length-append (change_octets put) (flat_map change_octets puts),
      length-append (change_head put.home put.serial (length (octets_left put.bytes))) (octets_left put.bytes),
      length-change_head put.home put.serial (length (octets_left put.bytes)),
      short_record put.bytes right.0,
      short_changes puts right.1,
    )

pub short_body : (body : Body) → length body.puts ≤ 256 → AllByRecursion IsRightPut body.puts → length (body_octets body) ≤ 2052108
short_body body few right =
    let numbers = to_be_bytes w32 (length body.puts) ++ flat_map change_octets body.puts in
    omega (arith, few, length-append (to_be_bytes w64 body.next) numbers, length-append (to_be_bytes w32 (length body.puts)) (flat_map change_octets body.puts), short_changes body.puts right)

-- ---- room in memory

pub room_made : {E : Type 0} (r : Result (Unit {0}) E) (old new : Kept) (n : ℕ) → OnOk r (new ≡ record old { room = max old.room n }) → OnErr r (new ≡ old) → (room : ℕ) × (new ≡ record old { room = room })
room_made (Ok t) old new n ok err = (max old.room n, ok)
room_made (Err e) old new n ok err = (old.room, err)

pub mounted_room : (S : Schema) (M : Catalog) (next : ℕ) (store new : Parts) (room : ℕ) (content : List ℕ) → new.pages ≡ record store.pages { room = room } → new.journal ≡ store.journal → new.epoch ≡ store.epoch → new.next ≡ store.next → IsMounted S M next store content → IsMounted S M next new content
mounted_room S M next store new room content pages journal epoch next_is m = record {
  root = m.root;
  base = m.base;
  bodies = m.bodies;
  loaded = m.loaded;
  replayed = m.replayed;
  ready = subst (λ (p : _). IsReady p m.bodies content) (sym journal) m.ready;
  of_epoch = ap (λ (p : Position). p.epoch) journal ∙ m.of_epoch;
  epoch_ = epoch ∙ m.epoch_;
  next_ = next_is ∙ m.next_;
  pages_ = subst (λ (k : Kept). IsKept m.root k content) (sym pages) (record { area_ = m.pages_.area_; epoch_ = m.pages_.epoch_; shape_ = m.pages_.shape_; slots_ = m.pages_.slots_; places_ = m.pages_.places_; small_ = m.pages_.small_ });
  noted = subst (λ (k : Kept). AreNoted m.bodies k.noted) (sym pages) m.noted;
}

pub any_ok : {T E : Type 0} (r : Result T E) (P : Type 0) → P → OnOk r P
any_ok (Ok t) P p = p
any_ok (Err e) P p = tt

pub some_then : (o : Option (List ℕ)) (P Q : List ℕ → Type 0) → IfSome o P → ((c : List ℕ) → P c → Q c) → IfSome o Q
some_then None P Q p f = tt
some_then (Some c) P Q p f = f c p
