-- The keys of an object as a list.
use Rattle.std.proofs.Common.{ℕ, zero, suc, ◌≡◌, ◌<◌, ◌==◌, List, [], ◌∷◌, length, map, get_or, Option, Some, None, Bool, true, false, refl, sym, ap, subst, ◌∙◌, arith, IsSome, eq-eqb}
use Rattle.std.specs.Prelude.{◌&&◌, ◌||◌, not, IsTrue}
use Rattle.std.specs.List.{list_any}
use Rattle.std.specs.Str.{bytes_eq}
use Rattle.std.proofs.lemmas.Slice.Eq.{bytes_eq-Decides}
use Rattle.type_layout.specs.declared.home.HomeNo.{HomeNo}
use Rattle.type_layout.specs.declared.key.KeyNo.{KeyNo}
use Rattle.type_layout.specs.declared.schema.Home.{Home}
use Rattle.type_layout.specs.declared.schema.Schema.{Schema}
use Rattle.type_layout.specs.Types.{PlainValue}
use Rattle.type_layout.specs.Schemas.{given, home_at, has_key, members_at, keys_at as keys_in}
use Rattle.type_layout.specs.Values.{IsRecord}
use Rattle.type_layout.specs.Keys.{key_bytes}
use Rattle.type_layout.specs.Spelling.{record_spelling}
use Rattle.type_layout.specs.Sound.{IsSoundSchema, are_distinct, key_name}
use Rattle.cdr_codec.specs.Spelled.{SpellsRecordWith}
use Rattle.storage_home.specs.Indexes.{lists, IsOnce}
use Rattle.storage_home.specs.Applied.{AreKeysOf, SpellsObject, object_of}
use Rattle.storage_home.proofs.Places.{by_test, same_number}
use Rattle.storage_home.proofs.Holding.{same_bytes_turned}

module _ (S : Schema) (values : List PlainValue) where
  abbrev pub pairs_of : List KeyNo → List (KeyNo × List ℕ)
  pairs_of keys = map (λ k. (k, key_bytes S k values)) keys

  same_key : (j k : KeyNo) → (j.0 == k.0) ≡ true → j ≡ k
  same_key j k e = λ i. record { 0 = same_number j.0 k.0 e i }

  listed_here : (keys : List KeyNo) (key : KeyNo) (bytes : List ℕ) → lists (pairs_of keys) key.0 bytes ≡ (list_any (λ j. j.0 == key.0) keys && bytes_eq (key_bytes S key values) bytes)
  listed_here [] key bytes = refl
  listed_here (j ∷ js) key bytes =
      by_test (λ b. (j.0 == key.0) ≡ b → ((b && bytes_eq bytes (key_bytes S j values)) || lists (pairs_of js) key.0 bytes) ≡ ((b || list_any (λ x. x.0 == key.0) js) && bytes_eq (key_bytes S key values) bytes)) (j.0 == key.0)
      (λ _ same. ap (λ b. b || lists (pairs_of js) key.0 bytes) (ap (λ k. bytes_eq bytes (key_bytes S k values)) (same_key j key same) ∙ same_bytes_turned bytes (key_bytes S key values)) ∙ ap (λ b. bytes_eq (key_bytes S key values) bytes || b) (listed_here js key bytes) ∙ absorbed (bytes_eq (key_bytes S key values) bytes) (list_any (λ x. x.0 == key.0) js))
      (λ _ _. listed_here js key bytes)
      refl
    where
      absorbed : (a b : Bool) → (a || (b && a)) ≡ a
      absorbed true b = refl
      absorbed false true = refl
      absorbed false false = refl

  -- two keys of one number have one name
  named_alike : (key : KeyNo) (keys : List KeyNo) → list_any (λ j. j.0 == key.0) keys ≡ true → list_any (bytes_eq (key_name S key)) (map (key_name S) keys) ≡ true
  named_alike key [] any = any
  named_alike key (j ∷ js) any =
      by_test (λ b. (j.0 == key.0) ≡ b → (b || list_any (λ x. x.0 == key.0) js) ≡ true → (bytes_eq (key_name S key) (key_name S j) || list_any (bytes_eq (key_name S key)) (map (key_name S) js)) ≡ true) (j.0 == key.0)
      (λ _ same _. ap (λ b. b || list_any (bytes_eq (key_name S key)) (map (key_name S) js)) (ap (λ k. bytes_eq (key_name S key) (key_name S k)) (same_key j key same) ∙ (bytes_eq-Decides (key_name S key) (key_name S key)).1 refl))
      (λ _ _ more. by_test (λ b. (b || list_any (bytes_eq (key_name S key)) (map (key_name S) js)) ≡ true) (bytes_eq (key_name S key) (key_name S j)) (λ _. refl) (λ _. named_alike key js more))
      refl any

  both_hold : (a b : Bool) → (a && b) ≡ true → (a ≡ true) × (b ≡ true)
  both_hold true b e = (refl, e)
  both_hold false b e = cc

  once_where_named : (keys : List KeyNo) → are_distinct bytes_eq (map (key_name S) keys) ≡ true → IsOnce (pairs_of keys)
  once_where_named [] distinct = tt
  once_where_named (j ∷ js) distinct =
      let split = both_hold _ _ distinct in
      (listed_here js j (key_bytes S j values) ∙ by (list_any (λ x. x.0 == j.0) js) refl split.0, once_where_named js split.1)
    where
      by : (b : Bool) → list_any (λ x. x.0 == j.0) js ≡ b → not (list_any (bytes_eq (key_name S j)) (map (key_name S) js)) ≡ true → (b && bytes_eq (key_bytes S j values) (key_bytes S j values)) ≡ false
      by true is none = let some = named_alike j js is in let no = sym (ap not some) ∙ none in cc
      by false is none = refl

  pub keys_of_home : IsSoundSchema S → (home : HomeNo) → IsSome (home_at S home) → AreKeysOf S (Some (record { home = home; values = values })) (pairs_of (keys_in S home))
  keys_of_home sound home there = by (home_at S home) refl there
    where
      by : (o : Option Home) → home_at S home ≡ o → IsSome o → AreKeysOf S (Some (record { home = home; values = values })) (pairs_of (keys_in S home))
      by None is some = cc
      by (Some h) is some =
          let keys_are : keys_in S home ≡ h.keys = ap (λ o. given o [] (λ x. x.keys)) is in
          record {
            listed = λ key bytes.
                ap (λ ks. lists (pairs_of ks) key.0 bytes) keys_are ∙ listed_here h.keys key bytes
                ∙ ap (λ o. given o false (λ x. has_key x key) && bytes_eq (key_bytes S key values) bytes) (sym is);
            once = subst (λ ks. IsOnce (pairs_of ks)) (sym keys_are) (once_where_named h.keys (sound.key_names home h is));
          }

-- ---- the octets of one object

module _ (S : Schema) (home : HomeNo) (bytes : List ℕ) (s : SpellsObject S home bytes) where
  -- the pairs for the home's keys are the keys that the spelled object holds
  pub keys_spelled : IsSoundSchema S → (pairs : List (KeyNo × List ℕ)) → pairs ≡ pairs_of S s.values (keys_in S home) → AreKeysOf S (Some (object_of s)) pairs
  keys_spelled sound pairs are = subst (AreKeysOf S (Some (object_of s))) (sym are) (keys_of_home S s.values sound home s.is_sound.0)

  abbrev pub spells_with : (h : Home) → home_at S home ≡ Some h → (key : KeyNo) → IsTrue (has_key h key) → IsRecord h.layout.members s.values → bytes ≡ record_spelling h.layout.members s.values → SpellsRecordWith S key home bytes
  spells_with h is key keyed record_is spelled = record { home = h; there = is; keyed = keyed; whole = record { values = s.values; is_record = record_is; spelled = spelled } }

  -- the octets spell a record of a home that has the key
  pub spells_key : (key : KeyNo) → list_any (λ j. j.0 == key.0) (keys_in S home) ≡ true → (w : SpellsRecordWith S key home bytes) × (w.whole.values ≡ s.values)
  spells_key key any = by (home_at S home) refl
    where
      by : (o : Option Home) → home_at S home ≡ o → (w : SpellsRecordWith S key home bytes) × (w.whole.values ≡ s.values)
      by None is = let none = sym any ∙ ap (λ o. list_any (λ j. j.0 == key.0) (given o [] (λ (x : Home). x.keys))) is in cc
      by (Some h) is =
          let members : members_at S home ≡ h.layout.members = ap (λ o. given o [] (λ (x : Home). x.layout.members)) is in
          (spells_with h is key (sym (ap (λ o. list_any (λ j. j.0 == key.0) (given o [] (λ (x : Home). x.keys))) is) ∙ any) (subst (λ ms. IsRecord ms s.values) members s.is_sound.1) (s.spelled ∙ ap (λ ms. record_spelling ms s.values) members), refl)

pub any_at : (keys : List KeyNo) (i : ℕ) (d : KeyNo) → i < length keys → list_any (λ j. j.0 == (get_or keys i d).0) keys ≡ true
any_at [] i d within = absurd (omega (arith, within))
any_at (k ∷ ks) zero d within = ap (λ b. b || list_any (λ j. j.0 == k.0) ks) (eq-eqb k.0 k.0 refl)
any_at (k ∷ ks) (suc i) d within = by_test (λ b. (b || list_any (λ j. j.0 == (get_or ks i d).0) ks) ≡ true) (k.0 == (get_or ks i d).0) (λ _. refl) (λ _. any_at ks i d (omega (arith, within)))

pub none_of : (keys : List KeyNo) → (length keys == 0) ≡ true → keys ≡ []
none_of [] is = refl
none_of (k ∷ keys) is = absurd (omega (arith, same_number (length (k ∷ keys)) 0 is))

-- what is said of octets whose members' places are known is said of the same octets
module _ (keys : List KeyNo) (pairs : List (KeyNo × List ℕ)) where
  abbrev AreThese : Schema → HomeNo → List ℕ → Type 0
  AreThese S h bytes = (s : SpellsObject S h bytes) → pairs ≡ pairs_of S s.values keys

  pub at_places : (S S' : Schema) (h h' : HomeNo) (bytes bytes' : List ℕ) → S' ≡ S → h' ≡ h → bytes' ≡ bytes → AreThese S' h' bytes' → AreThese S h bytes
  at_places S S' h h' bytes bytes' schema home octets are = subst (λ (b : List ℕ). AreThese S h b) octets (subst (λ (n : HomeNo). AreThese S n bytes') home (subst (λ (T : Schema). AreThese T h' bytes') schema are))
