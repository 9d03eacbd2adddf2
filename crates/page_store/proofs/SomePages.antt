-- Some of the pages of a root, and those that are packed anew.
use Rattle.std.proofs.Common.{ℕ, ◌≡◌, ⊎_elim, ◌+◌, ◌-◌, ◌%◌, ◌^◌, ◌<◌, ◌≤◌, ◌==◌, Bool, true, false, cond, not, List, [], ◌∷◌, ◌++◌, length, get_or, map, Some, None, refl, sym, ap, ◌∙◌, subst, arith}
use Rattle.std.proofs.lemmas.Bool.{cases_eq, cases_lt, eqb-true}
use Rattle.std.specs.Cmp.{nat_cmp_total}
use Rattle.std.specs.FinMap as finite
use Rattle.std.specs.FinMap.{nat_cmp-IsAntisymmetric, same_map}
use Rattle.std.specs.List.{filter}
use Rattle.std.specs.List.Sorted.{IsStrictlySortedBy}
use Rattle.std.specs.Ordering.{nat_cmp}
use Rattle.std.proofs.lemmas.Map.Entries.{option_filter}
use Rattle.std.specs.Option.{option_map}
use Rattle.std.specs.declared.option.Option.{Option}
use Rattle.pss_base.specs.declared.put.Put.{Put}
use Rattle.page_format.specs.Objects.{by_serial, over, stored_of}
use Rattle.page_format.specs.Packing.{AreClosed, AreFilled, AreLeastFree, entries_on}
use Rattle.page_format.specs.Pages.{AreGiven, ArePacked, ArePages, IsPage, IsSmall, entries_in, serials_of}
use Rattle.page_format.specs.Pages.{Entry}
use Rattle.page_format.specs.Places.{slot_start}
use Rattle.page_format.specs.declared.new_page.NewPage.{NewPage}
use Rattle.page_format.specs.declared.objects.Stored.{Stored}
use Rattle.page_format.specs.declared.root.Root.{Root}
use Rattle.page_store.specs.Checkpoints.{ArePackedAnew, MayCheckpoint, kept_slots, repacked_slots}
use Rattle.page_store.specs.Kept.{Kept, rows_in}
use Rattle.page_store.specs.Switch.{Old, objects_of, slots_of}
use Rattle.page_store.specs.Touched.{is_repacked}
use Rattle.page_store.specs.declared.pages.planning.Plan.{Plan}
use Rattle.page_store.specs.inner.Located.{Apart, at}
use Rattle.page_store.specs.inner.Planned.{IsNextRoot, IsPlan}
use Rattle.page_store.specs.inner.Repacked.{AreLeft, AreRepacked, AreTaken, IsRepacked}
use Rattle.page_format.proofs.Filling.{used_by-append}
use Rattle.page_format.proofs.Packed.{few_pages}
use Rattle.page_store.proofs.ByKey.{get_entries}
use Rattle.page_store.proofs.Following.{anew_is, apart, large, objects_packed, touches}
use Rattle.page_store.proofs.Givens.{apart-append, given_from}
use Rattle.page_store.proofs.Merged.{all_at, crossing, merged, part_apart, part_at}
use Rattle.page_store.proofs.MovedSlots.{objects_weight, once_in, used_at_least}
use Rattle.page_store.proofs.Plans.{filter_each, filter_some, length_mapped_to}
use Rattle.page_store.proofs.Turned.{map-append}

-- an object among entries whose serials are given has such a serial
in_range : (next : ℕ) (seen : List ℕ) (es : List Entry) (q : ℕ) (x : Stored) → AreGiven next seen (serials_of es) → at q (map stored_of es) ≡ Some x → (1 ≤ q) × (q < next)
in_range next seen [] q x are there = absurd (cc)
in_range next seen (e ∷ es) q x are there = by (q == e.serial) refl there (λ later. in_range next (seen ++ e.serial ∷ []) es q x are.1 later)
  where
    by : (b : Bool) → (q == e.serial) ≡ b → cond b (Some (stored_of e).1) (at q (map stored_of es)) ≡ Some x → (at q (map stored_of es) ≡ Some x → (1 ≤ q) × (q < next)) → (1 ≤ q) × (q < next)
    by true same is rest = let s = eqb-true q e.serial same in (omega (arith, s, are.0.some), omega (arith, s, are.0.given))
    by false other is rest = rest is

module _ (old : Old) (kept : Kept) (next : ℕ) (c : List ℕ) (may : MayCheckpoint old kept next c) where
  abbrev packs : ℕ → Bool
  packs = is_repacked kept.places kept.noted kept.small

  whole_at : (k : ℕ) → k < length kept.slots → IsPage c (slot_start (get_or kept.slots k 0)) (get_or kept.slots k 0)
  whole_at k lt =
      subst (λ (l : List ℕ). (i : ℕ) → i < length l → IsPage c (slot_start (get_or l i 0)) (get_or l i 0)) (sym may.kept_.slots_) may.store.pages.whole k lt

  whole_part : (test : ℕ → Bool) (k : ℕ) → k < length (filter test kept.slots) → IsPage c (slot_start (get_or (filter test kept.slots) k 0)) (get_or (filter test kept.slots) k 0)
  whole_part test k lt = let there = filter_each test kept.slots k lt in subst (λ (s : ℕ). IsPage c (slot_start s) s) there.2 (whole_at there.0 there.1)

  once : (i j : ℕ) → i < j → j < length kept.slots → get_or kept.slots i 0 ≡ get_or kept.slots j 0 → ⊥
  once = subst (λ (l : List ℕ). (i j : ℕ) → i < j → j < length l → get_or l i 0 ≡ get_or l j 0 → ⊥) (sym may.kept_.slots_) (once_in old.root c may.store.root_)

  given : AreGiven old.root.next [] (serials_of (entries_in c kept.slots))
  given = subst (λ (l : List ℕ). AreGiven old.root.next [] (serials_of (entries_in c l))) (sym may.kept_.slots_) may.store.pages.given

  packed_all : ArePacked c kept.slots
  packed_all = subst (λ (l : List ℕ). ArePacked c l) (sym may.kept_.slots_) may.store.pages.packed

  some_there : (test : ℕ → Bool) (o : Option (ℕ × Stored)) (x : Stored) → option_map (λ (y : ℕ × Stored). y.1) (option_filter (λ (y : ℕ × Stored). test y.0) o) ≡ Some x → option_map (λ (y : ℕ × Stored). y.1) o ≡ Some x
  some_there test None x e = e
  some_there test (Some y) x e = by (test y.0) e
    where
      by : (b : Bool) → option_map (λ (y : ℕ × Stored). y.1) (cond b (Some y) None) ≡ Some x → Some y.1 ≡ Some x
      by true e = e
      by false e = absurd (cc)

  -- some of the pages are right too, for each next serial that is as great
  pub part_pages : (test : ℕ → Bool) (most : ℕ) → old.root.next ≤ most → ArePages most (filter test kept.slots) c
  part_pages test most le = record {
    whole = whole_part test;
    given = given_from most [] (entries_in c (filter test kept.slots)) range (part_apart c kept.slots packs kept.noted (apart old kept next c may) (touches old kept next c may) test) (λ k lt. absurd (omega (arith, lt)));
    packed = λ j k less lt one two.
        let some = filter_some test kept.slots once in
        let a = some.each j (omega (arith, less, lt)) in
        let b = some.each k lt in
        let here = subst (IsSmall c) (sym a.2) one in
        let that = subst (IsSmall c) (sym b.2) two in
        ⊎_elim (λ same. some.once j k less lt (sym a.2 ∙ ap (λ (n : ℕ). get_or kept.slots n 0) same ∙ b.2))
        (λ other. ⊎_elim (λ lower. packed_all a.0 b.0 lower b.1 here that) (λ more. packed_all b.0 a.0 (omega (arith, more, other)) a.1 that here) (cases_lt a.0 b.0)) (cases_eq a.0 b.0);
  }
    where
      range : (q : ℕ) (x : Stored) → at q (map stored_of (entries_in c (filter test kept.slots))) ≡ Some x → (1 ≤ q) × (q < most)
      range q x there =
          let all = some_there test _ x (sym (part_at c kept.slots packs kept.noted (apart old kept next c may) (touches old kept next c may) test q) ∙ there) in
          let h = in_range old.root.next [] (entries_in c kept.slots) q x given (all_at c kept.slots packs kept.noted (apart old kept next c may) (touches old kept next c may) q ∙ all) in
          (h.0, omega (arith, h.1, le))

  pub repacked_pages : ArePages old.root.next (repacked_slots kept) c
  repacked_pages = part_pages packs old.root.next (omega arith)

  -- the pages that stay and those that are packed anew are no more than a root may name
  pub few_slots : (packed : List (List Entry)) → AreRepacked (over (over finite.empty (rows_in c (repacked_slots kept))) kept.noted) packed → length (kept_slots kept) + length packed ≤ 8058
  few_slots packed re =
      let stay = entries_in c (kept_slots kept) in
      let xs = entries_on packed in
      let apart_ = apart old kept next c may in
      let touches_ = touches old kept next c may in
      let all_apart : Apart (map stored_of (stay ++ xs)) =
      subst Apart (sym (map-append stored_of stay xs))
      (apart-append (map stored_of stay) (map stored_of xs) (part_apart c kept.slots packs kept.noted apart_ touches_ (λ s. not (packs s))) re.apart (crossing c kept.slots packs kept.noted apart_ touches_ xs re.same)) in
      let w = objects_weight (stay ++ xs) (over (by_serial old.objects) kept.noted) all_apart
      (λ q. merged c kept.slots packs kept.noted apart_ touches_ xs re.same q ∙ ap (λ es. finite.get (over (by_serial es) kept.noted) q) (ap (entries_in c) may.kept_.slots_ ∙ may.store.objects_)) in
      let u = used_by-append stay xs in
      let a = used_at_least c (kept_slots kept) (whole_part (λ s. not (packs s))) (large old kept next c may) in
      let b = few_pages packed re.written.large in
      omega (arith, w, u, a, b, may.sum)

-- what a plan is laid out of, by the steps that lead to it
module _ (kept one two : Kept) (noted : List Put) (noted_ : noted ≡ kept.noted) (one_ : one ≡ record kept { noted = []; room = 0 }) where
  module _ (two_ : two ≡ record one { places = two.places }) (packed : List (List Entry)) (stay : List ℕ) (next : ℕ) (plan : Plan) (is : IsPlan two stay packed next plan) where
    pub packed_anew : (c repacked : List ℕ) → repacked ≡ repacked_slots (record one { noted = noted }) → AreRepacked (over (over finite.empty (rows_in c repacked)) noted) packed → ArePackedAnew kept plan.pages.items c
    packed_anew c repacked repacked_ re =
        let pages = plan.pages.items in
        let re' = anew_is kept one two noted noted_ one_ c repacked repacked_ packed re in
        let xs_is : objects_of pages ≡ entries_on packed = objects_packed pages ∙ ap entries_on is.packed_ in
        let slots_ : two.slots ≡ kept.slots = ap (λ (k : Kept). k.slots) two_ ∙ ap (λ (k : Kept). k.slots) one_ in
        let many : length packed ≡ length pages = ap length (sym is.packed_) ∙ length_mapped_to (λ (p : NewPage). p.entries) pages in
        record {
          objects_ = same_map nat_cmp_total nat_cmp-IsAntisymmetric _ _ (λ q. get_entries (map stored_of (objects_of pages)) q ∙ ap (λ es. at q (map stored_of es)) xs_is ∙ re'.same q);
          rising = subst (λ es. IsStrictlySortedBy nat_cmp (serials_of es)) (sym xs_is) re'.rising;
          packing = record { all = sym (objects_packed pages); filled = subst AreFilled (sym is.packed_) re'.packing.filled; closed = subst AreClosed (sym is.packed_) re'.packing.closed };
          free = subst (λ (l : List ℕ). AreLeastFree l (length pages) (slots_of pages)) slots_ (subst (λ (n : ℕ). AreLeastFree two.slots n (slots_of pages)) many is.free);
        }

-- the next root, of what was kept before its changes were taken
pub next_root_left : (kept two : Kept) (stay : List ℕ) (pages : List NewPage) (next : ℕ) (root : Root) → AreTaken kept two → stay ≡ kept_slots kept → IsNextRoot two stay pages next root → IsNextRoot kept (kept_slots kept) pages next root
next_root_left kept two stay pages next root taken stay_ is = record {
  area_ = is.area_ ∙ ap (λ (k : Kept). 1 - k.area) taken.pages;
  given = subst (λ (k : Kept). k.epoch < 2 ^ 64) taken.pages is.given;
  epoch_ = is.epoch_ ∙ ap (λ (k : Kept). (k.epoch + 1) % 2 ^ 64) taken.pages;
  next_ = is.next_;
  shape_ = is.shape_ ∙ ap (λ (k : Kept). k.shape) taken.pages;
  slots_ = is.slots_ ∙ ap (λ (l : List ℕ). l ++ slots_of pages) stay_;
}

-- the same, of what is packed anew
pub packed_left : (kept two : Kept) (stay : List ℕ) (puts : List Put) (c : List ℕ) → IsRepacked kept two stay puts c → (packed : List (List Entry)) (next : ℕ) (plan : Plan) → IsPlan two stay packed next plan → AreRepacked (over (over finite.empty (rows_in c (repacked_slots kept))) kept.noted) packed
    → ArePackedAnew kept plan.pages.items c
packed_left kept two stay puts c are packed next plan is re =
    packed_anew kept (record kept { noted = []; room = 0 }) two kept.noted refl refl are.taken.pages packed stay next plan is c (repacked_slots kept) refl re

pub repacked_by : (kept two : Kept) (stay : List ℕ) (puts slice : List Put) (c : List ℕ) → AreTaken kept two → stay ≡ kept_slots kept → slice ≡ puts → AreLeft kept puts c → IsRepacked kept two stay slice c
repacked_by kept two stay puts slice c taken stay_ same left = record { taken = taken; stay_ = stay_; left = subst (λ (ps : List Put). AreLeft kept ps c) (sym same) left }
