-- Which declarations have something of their own.
use Rattle.std.proofs.Common.{◌≡◌, ℕ, ◌<◌, List, [], ◌∷◌, Bool, true, false, ◌||◌, length, map, get_or, nat_lt, refl, sym, ap, ◌∙◌, arith, ⊎_elim}
use Rattle.std.specs.List.{range_with_len}
use Rattle.std.proofs.lemmas.Bool.{cases_Bool, ltb-true, ltb-false}
use Rattle.std.proofs.lemmas.List.FromFn.{get_or-map-range_with_len}
use Rattle.psdl_directory.specs.Declarations.{Declaration}
use Rattle.psdl_lineage.specs.Sources.{is_own}
use Rattle.psdl_members.specs.declared.firsts.Firsts.{Firsts}
use Rattle.psdl_members.specs.declared.own.Own.{Own}
use Rattle.psdl_members.specs.Bodies.{own_members}
use Rattle.psdl_members.specs.inner.Flat.{piece_of}
use Rattle.psdl_members.specs.inner.Had.{AreHad, AreFlags, has_some, has_own, IsMost, Fits}
use Rattle.psdl_members.specs.inner.Room.{HasRoom, SameRoom}
use Rattle.psdl_members.specs.inner.Rowed.{row_of}
use Rattle.psdl_members.proofs.Numbering.{own_past}

none : {A : Type 0} (xs : List A) → has_some xs ≡ false → xs ≡ []
none [] h = refl
none (x ∷ xs) h = absurd (omega (arith, ltb-false 0 (length (x ∷ xs)) h))

parts : (a b c : Bool) → a || (b || c) ≡ false → (a ≡ false) × ((b ≡ false) × (c ≡ false))
parts true b c h = absurd (cc)
parts false true c h = absurd (cc)
parts false false c h = (refl, (refl, h))

module _ (all : List Declaration) (o : Own) (own : List Bool) (had : AreHad all o) (e : own ≡ map (has_own o) (range_with_len 0 (length all))) where
  flag : (n : ℕ) → n < length all → is_own own n ≡ false → has_own o n ≡ false
  flag n lt off = sym (ap (λ l. get_or l n false) e ∙ get_or-map-range_with_len (has_own o) 0 (length all) n n false lt (omega arith)) ∙ off

  each : (n : ℕ) → n < length all → is_own own n ≡ false → (piece_of o.names.starts.items n o.names.numbers.items ≡ []) × ((row_of o.lists.keys n ≡ []) × (row_of o.lists.factories n ≡ []))
  each n lt off =
      let names : List ℕ = piece_of o.names.starts.items n o.names.numbers.items in
      let off_all = parts (has_some names) (has_some (row_of o.lists.keys n)) (has_some (row_of o.lists.factories n)) (flag n lt off) in
      (none names off_all.0, (none (row_of o.lists.keys n) off_all.1.0, none (row_of o.lists.factories n) off_all.1.1))

  no_member : (n : ℕ) → n < length all → is_own own n ≡ false → length (own_members all n) ≡ 0
  no_member n lt off = sym (had.numbered.as_many n) ∙ ap (λ (l : List ℕ). length l) ((each n lt off).0)

  pub are_flags : AreFlags all o own
  are_flags =
      record {
        members = λ n off.
            ⊎_elim (λ t. no_member n (ltb-true n (length all) t) off) (λ f. ap (λ l. length l) (own_past all n (ltb-false n (length all) f))) (cases_Bool (nat_lt n (length all)));
        keys = λ n off. ⊎_elim (λ t. (each n (ltb-true n (length all) t) off).1.0) (λ f. had.listed.no_key n (ltb-false n (length all) f)) (cases_Bool (nat_lt n (length all)));
        factories = λ n off. ⊎_elim (λ t. (each n (ltb-true n (length all) t) off).1.1) (λ f. had.listed.no_factory n (ltb-false n (length all) f)) (cases_Bool (nat_lt n (length all)));
      }

pub fits_by : (o : Own) (f : Firsts) (most : ℕ) → IsMost o most → HasRoom f most → Fits o f
fits_by o f most is room =
    record {
      members = omega (arith, is.members, room.marks);
      keys = record { marks = omega (arith, is.keys, room.marks); lists = omega (arith, is.keys, room.lists) };
      factories = record { marks = omega (arith, is.factories, room.marks); lists = omega (arith, is.factories, room.lists) };
    }

pub room_kept : (old new : Firsts) (names : ℕ) → SameRoom old new → HasRoom old names → HasRoom new names
room_kept old new names same room = record { marks = omega (arith, same.marks, room.marks); lists = omega (arith, same.lists, room.lists) }

pub fits_kept : (o : Own) (old new : Firsts) → SameRoom old new → Fits o old → Fits o new
fits_kept o old new same fits =
    record {
      members = omega (arith, fits.members, same.marks);
      keys = room_kept old new o.lists.keys.names same fits.keys;
      factories = room_kept old new o.lists.factories.names same fits.factories;
    }
