-- What changes come to, slot by slot.
use Rattle.std.proofs.Common.{◌≡◌, ◌≤◌, ℕ, ◌+◌, Bool, true, false, cond, ◌==◌, List, [], ◌∷◌, ◌++◌, Option, Some, None, refl, sym, ap, subst, ◌∙◌, arith}
use Rattle.std.specs.Prelude.{filter, IfSome}
use Rattle.std.specs.Option.{option_to_list}
use Rattle.std.specs.Str.{bytes_eq}
use Rattle.std.proofs.lemmas.Bool.{eq-eqb}
use Rattle.std.proofs.lemmas.Bool.Decides.{Decides-int_eq}
use Rattle.std.proofs.lemmas.List.{append-nil, append_assoc}
use Rattle.std.proofs.lemmas.Slice.Eq.{bytes_eq-Decides}
use Rattle.pss_base.specs.declared.pid.Pid.{Pid}
use Rattle.type_layout.specs.declared.home.HomeNo.{HomeNo}
use Rattle.type_layout.specs.declared.schema.Schema.{Schema}
use Rattle.type_layout.specs.Schemas.{given, members_at}
use Rattle.type_layout.specs.Spelling.{record_spelling}
use Rattle.type_layout.specs.Types.{PlainValue, Int, Character, Truth, Ordinal, Text, Items, Parts, Ref, PlainValues, no_values, value_and, values_of}
use Rattle.type_layout.specs.Values.{IsRecord}
use Rattle.type_layout.proofs.Records.{records_apart}
use Rattle.pss_catalog.specs.Catalog.{Object, Catalog, object_spelling}
use Rattle.pss_catalog.specs.Changes.{Change as Step}
use Rattle.storage_home.specs.declared.change.Change.{Change}
use Rattle.storage_home.specs.Changes.{least_next}
use Rattle.pss_machine.specs.Same.{same_truth, same_reference, same_value, same_values, same_state}
use Rattle.pss_laws.proofs.Logic.{and_both}
use Rattle.pss_laws.proofs.Nets.{state_is}
use Rattle.owner_view.specs.declared.states.Slot.{Slot}
use Rattle.owner_view.specs.Net.{is_net, AreNet, IsNetAt, IsNetIn}
use Rattle.owner_view.specs.Seen.{Fits}
use Rattle.owner_view.specs.States.{slot_state}
use Rattle.owner_view.proofs.Told.{told_in, SlotsRise}

-- ---- what is the same

truth_itself : (b : Bool) → same_truth b b ≡ true
truth_itself true = refl
truth_itself false = refl

reference_itself : (p : Option Pid) → same_reference p p ≡ true
reference_itself None = refl
reference_itself (Some p) = and_both (p.home == p.home) _ (eq-eqb p.home p.home refl) (eq-eqb p.serial p.serial refl)

mutual
  value_itself : (v : PlainValue) → same_value v v ≡ true
  value_itself (Int n) = (Decides-int_eq n n).1 refl
  value_itself (Character n) = eq-eqb n n refl
  value_itself (Truth b) = truth_itself b
  value_itself (Ordinal n) = eq-eqb n n refl
  value_itself (Text bytes) = (bytes_eq-Decides bytes bytes).1 refl
  value_itself (Items vs) = values_itself vs
  value_itself (Parts vs) = values_itself vs
  value_itself (Ref p) = reference_itself p

  values_itself : (vs : PlainValues) → same_values vs vs ≡ true
  values_itself no_values = refl
  values_itself (value_and v vs) = and_both (same_value v v) (same_values vs vs) (value_itself v) (values_itself vs)

state_itself : (state : Option Object) → same_state state state ≡ true
state_itself None = refl
state_itself (Some x) = and_both (x.home.0 == x.home.0) _ (eq-eqb x.home.0 x.home.0 refl) (values_itself (values_of x.values))

-- objects of one home are the same where their octets are
module _ (S : Schema) (x y : Object) (fits_x : Fits S x) (fits_y : Fits S y) (home : x.home ≡ y.home) where
  same_octets : object_spelling S x ≡ object_spelling S y → x ≡ y
  same_octets octets =
      let there : IsRecord (members_at S x.home) y.values = subst (λ (h : HomeNo). IsRecord (members_at S h) y.values) (sym home) fits_y.is_record in
      let spelled : record_spelling (members_at S x.home) x.values ≡ record_spelling (members_at S x.home) y.values = octets ∙ ap (λ (h : HomeNo). record_spelling (members_at S h) y.values) (sym home) in
      let values : x.values ≡ y.values = (records_apart (members_at S x.home) x.values y.values fits_x.is_record there [] [] (ap (λ (l : List ℕ). l ++ []) spelled)).0 in
      λ i. record { home = home i; values = values i }

  pub told_by_octets : (octets bytes : List ℕ) → octets ≡ object_spelling S y → bytes ≡ object_spelling S x → bytes_eq octets bytes ≡ same_state (Some x) (Some y)
  told_by_octets octets bytes is_y is_x = by (bytes_eq octets bytes) refl (same_state (Some x) (Some y)) refl
    where
      by : (a : Bool) → bytes_eq octets bytes ≡ a → (b : Bool) → same_state (Some x) (Some y) ≡ b → bytes_eq octets bytes ≡ same_state (Some x) (Some y)
      by true e true f = e ∙ sym f
      by false e false f = e ∙ sym f
      by true e false f =
          let same : x ≡ y = same_octets (sym is_x ∙ sym ((bytes_eq-Decides octets bytes).0 e) ∙ is_y) in
          let wrong : false ≡ true = sym f ∙ ap (λ (o : Object). same_state (Some x) (Some o)) (sym same) ∙ state_itself (Some x) in
          absurd cc
      by false e true f =
          let one : Some x ≡ Some y = state_is (Some x) (Some y) f in
          let same : x ≡ y = cc in
          let wrong : false ≡ true = sym e ∙ ap (λ (l : List ℕ). bytes_eq l bytes) (is_y ∙ ap (object_spelling S) (sym same) ∙ sym is_x) ∙ (bytes_eq-Decides bytes bytes).1 refl in
          absurd cc

-- ---- one change more

module _ (S : Schema) (M : Catalog) where
  net_more : (d : Step) (ds : List Step) (change : Option Change) (more : List Change) → IsNetAt S M d change → AreNet S M (filter (is_net M) ds) more → AreNet S M (filter (is_net M) (d ∷ ds)) (option_to_list change ++ more)
  net_more d ds None more h rest = subst (λ (b : Bool). AreNet S M (cond b (d ∷ filter (is_net M) ds) (filter (is_net M) ds)) more) (sym h) rest
  net_more d ds (Some c) more h rest = subst (λ (b : Bool). AreNet S M (cond b (d ∷ filter (is_net M) ds) (filter (is_net M) ds)) (c ∷ more)) (sym h.0) (h.1, rest)

  net_slot : (e : ℕ × Slot) (es : List (ℕ × Slot)) (change : Option Change) (more : List Change) → IsNetIn S M e.0 (slot_state e.1) change → AreNet S M (filter (is_net M) (told_in es)) more → AreNet S M (filter (is_net M) (told_in (e ∷ es))) (option_to_list change ++ more)
  net_slot e es change more h rest = by (slot_state e.1) h
    where
      by : (o : Option (Option Object)) → IsNetIn S M e.0 o change → AreNet S M (filter (is_net M) (given o (told_in es) (λ state. record { serial = e.0; state = state } ∷ told_in es))) (option_to_list change ++ more)
      by None none = subst (λ (c : Option Change). AreNet S M (filter (is_net M) (told_in es)) (option_to_list c ++ more)) (sym none) rest
      by (Some state) is = net_more (record { serial = e.0; state = state }) (told_in es) change more is rest

  -- what is still to come completes what is there
  abbrev pub IsBegun : List Step → List Step → List Change → Type 0
  IsBegun all left changes = (more : List Change) → AreNet S M (filter (is_net M) left) more → AreNet S M (filter (is_net M) all) (changes ++ more)

  pub begun_turn : (all : List Step) (e : ℕ × Slot) (es fs : List (ℕ × Slot)) (old new : List Change) (change : Option Change) → es ≡ e ∷ fs → IsNetIn S M e.0 (slot_state e.1) change → new ≡ old ++ option_to_list change → IsBegun all (told_in es) old → IsBegun all (told_in fs) new
  begun_turn all e es fs old new change is net put begun more rest =
      let tail = option_to_list change ++ more in
      let here : AreNet S M (filter (is_net M) (told_in es)) tail = subst (λ (l : List (ℕ × Slot)). AreNet S M (filter (is_net M) (told_in l)) tail) (sym is) (net_slot e fs change more net rest) in
      subst (AreNet S M (filter (is_net M) all)) (sym (append_assoc old (option_to_list change) more) ∙ ap (λ (l : List Change). l ++ more) (sym put)) (begun tail here)

  pub begun_ends : (all : List Step) (es : List (ℕ × Slot)) (changes : List Change) → es ≡ [] → IsBegun all (told_in es) changes → AreNet S M (filter (is_net M) all) changes
  begun_ends all es changes end begun = subst (AreNet S M (filter (is_net M) all)) (append-nil changes) (begun [] (subst (λ (l : List (ℕ × Slot)). AreNet S M (filter (is_net M) (told_in l)) []) (sym end) tt))

  net_serial : (s : ℕ) (o : Option (Option Object)) (change : Option Change) → IsNetIn S M s o change → IfSome change (λ c. c.put.serial ≡ s)
  net_serial s None change none = subst (λ (c : Option Change). IfSome c (λ c. c.put.serial ≡ s)) (sym none) tt
  net_serial s (Some state) None h = tt
  net_serial s (Some state) (Some c) h = h.1.serial

  -- the changes so far are of lower serials
  pub behind_all : (e : ℕ × Slot) (es fs : List (ℕ × Slot)) (changes : List Change) (change : Option Change) → es ≡ e ∷ fs → SlotsRise (least_next 0 changes) es → IsNetIn S M e.0 (slot_state e.1) change → IfSome change (λ c. least_next 0 changes ≤ c.put.serial)
  behind_all e es fs changes change is rise net = by change (net_serial e.0 (slot_state e.1) change net)
    where
      low : least_next 0 changes ≤ e.0
      low = (subst (SlotsRise (least_next 0 changes)) is rise).0

      by : (o : Option Change) → IfSome o (λ c. c.put.serial ≡ e.0) → IfSome o (λ c. least_next 0 changes ≤ c.put.serial)
      by None h = tt
      by (Some c) h = (let l = low in omega (arith, l, h))

  next_of : (n : ℕ) (cs : List Change) (c : Change) → least_next n (cs ++ c ∷ []) ≡ c.put.serial + 1
  next_of n [] c = refl
  next_of n (d ∷ ds) c = next_of (d.put.serial + 1) ds c

  slots_lower : (n m : ℕ) (es : List (ℕ × Slot)) → n ≤ m → SlotsRise m es → SlotsRise n es
  slots_lower n m [] le h = tt
  slots_lower n m (e ∷ es) le h = (let l = h.0 in omega (arith, le, l), h.1)

  pub rise_turn : (e : ℕ × Slot) (es fs : List (ℕ × Slot)) (old new : List Change) (change : Option Change) → es ≡ e ∷ fs → SlotsRise (least_next 0 old) es → IsNetIn S M e.0 (slot_state e.1) change → new ≡ old ++ option_to_list change → SlotsRise (least_next 0 new) fs
  rise_turn e es fs old new change is rise net put = subst (λ (l : List Change). SlotsRise (least_next 0 l) fs) (sym put) (by change (net_serial e.0 (slot_state e.1) change net))
    where
      both : SlotsRise (least_next 0 old) (e ∷ fs)
      both = subst (SlotsRise (least_next 0 old)) is rise

      by : (o : Option Change) → IfSome o (λ c. c.put.serial ≡ e.0) → SlotsRise (least_next 0 (old ++ option_to_list o)) fs
      by None h = subst (λ (l : List Change). SlotsRise (least_next 0 l) fs) (sym (append-nil old)) (let l = both.0 in slots_lower (least_next 0 old) (e.0 + 1) fs (omega (arith, l)) both.1)
      by (Some c) h = subst (λ (n : ℕ). SlotsRise n fs) (sym (next_of 0 old c ∙ ap (λ (n : ℕ). n + 1) h)) both.1
