-- The needs of operations, by what is written and what is read.
use Rattle.std.proofs.Common.{◌≡◌, ℕ, Bool, true, false, cond, not, List, [], ◌∷◌, ◌++◌, Option, Some, None, refl, sym, ap, ◌∙◌}
use Rattle.std.specs.Prelude.{filter}
use Rattle.std.specs.List.{flat_map, slice_set}
use Rattle.std.specs.Str.{bytes_eq}
use Rattle.std.specs.Cmp.Lexicographic.{nat_list_eq_equiv}
use Rattle.pss_base.specs.declared.pid.Pid.{Pid}
use Rattle.type_layout.specs.declared.key.KeyNo.{KeyNo}
use Rattle.type_layout.specs.declared.schema.Schema.{Schema}
use Rattle.type_layout.specs.Types.{PlainValue}
use Rattle.type_layout.specs.Keys.{key_bytes}
use Rattle.type_layout.specs.Schemas.{given, keys_at}
use Rattle.pss_catalog.specs.Catalog.{Object, Catalog, references}
use Rattle.pss_machine.specs.declared.level.Level.{Level}
use Rattle.pss_machine.specs.declared.level.Level.TheVariants.{Serializable, ReadCommitted, Basic}
use Rattle.pss_machine.specs.declared.lock.Need.{Need}
use Rattle.pss_machine.specs.declared.lock.Mode.TheVariants.{M as Many, X as Write}
use Rattle.pss_machine.specs.Operations.{PlainOp, Create, Set, Destroy}
use Rattle.pss_machine.specs.Alone.{object_of, with_member}
use Rattle.pss_machine.specs.Needs.{needs, writes, reads, keys_written, object_keys, changed_keys, object_need, extent_need, targets, set_needs as machine_set_needs}
use Rattle.owner_view.specs.Keyed.{Pair, keyed, all_keyed, key_needs}
use Rattle.owner_view.specs.Steps.{with_reads, whole_needs, differing, set_needs}

pub needs_are : (S : Schema) (level : Level) (M : Catalog) (op : PlainOp) → needs S level M op ≡ with_reads level (writes S M op) (reads S M op)
needs_are S Serializable M op = refl
needs_are S ReadCommitted M op = refl
needs_are S Basic M op = refl

keys_are : (S : Schema) (values : List PlainValue) (keys : List KeyNo) → key_needs (keyed S values keys) ≡ keys_written S keys values
keys_are S values [] = refl
keys_are S values (k ∷ keys) = (λ i. (key_needs (keyed S values (k ∷ []))) ++ keys_are S values keys i)

whole_are : (S : Schema) (object : Object) (serial : ℕ) → whole_needs serial object.home (all_keyed S object) ≡ object_need Write serial ∷ object_keys S object
whole_are S object serial = (λ i. object_need Write serial ∷ (keys_are S object.values (keys_at S object.home) i ++ extent_need Many object.home ∷ []))

pub create_needs : (S : Schema) (level : Level) (M : Catalog) (serial : ℕ) (object : Object) → with_reads level (whole_needs serial object.home (all_keyed S object)) (targets (flat_map references object.values)) ≡ needs S level M (Create serial object)
create_needs S level M serial object = ap (λ (l : List Need). with_reads level l (targets (flat_map references object.values))) (whole_are S object serial) ∙ sym (needs_are S level M (Create serial object))

pub destroy_needs : (S : Schema) (level : Level) (M : Catalog) (p : Pid) (object : Object) → object_of M p ≡ Some object → with_reads level (whole_needs p.serial object.home (all_keyed S object)) [] ≡ needs S level M (Destroy p)
destroy_needs S level M p object there =
    ap (λ (l : List Need). with_reads level l []) (whole_are S object p.serial ∙ ap (λ (o : Option Object). object_need Write p.serial ∷ given o [] (object_keys S)) (sym there)) ∙ sym (needs_are S level M (Destroy p))

-- ---- a set

changed_pairs : (S : Schema) (a b : List PlainValue) (keys : List KeyNo) → differing (keyed S a keys) (keyed S b keys) ≡ keyed S a (filter (λ k. not (bytes_eq (key_bytes S k a) (key_bytes S k b))) keys)
changed_pairs S a b [] = refl
changed_pairs S a b (k ∷ keys) = by (not (bytes_eq (key_bytes S k a) (key_bytes S k b))) (changed_pairs S a b keys)
  where
    by : (t : Bool) → differing (keyed S a keys) (keyed S b keys) ≡ keyed S a (filter (λ k. not (bytes_eq (key_bytes S k a) (key_bytes S k b))) keys)
        → cond t ((k, key_bytes S k a) ∷ differing (keyed S a keys) (keyed S b keys)) (differing (keyed S a keys) (keyed S b keys)) ≡ keyed S a (cond t (k ∷ filter (λ k. not (bytes_eq (key_bytes S k a) (key_bytes S k b))) keys) (filter (λ k. not (bytes_eq (key_bytes S k a) (key_bytes S k b))) keys))
    by true rest = ap (λ (l : List Pair). (k, key_bytes S k a) ∷ l) rest
    by false rest = rest

turned_filter : (S : Schema) (a b : List PlainValue) (keys : List KeyNo) → filter (λ k. not (bytes_eq (key_bytes S k b) (key_bytes S k a))) keys ≡ filter (λ k. not (bytes_eq (key_bytes S k a) (key_bytes S k b))) keys
turned_filter S a b [] = refl
turned_filter S a b (k ∷ keys) = (λ i. cond (not (nat_list_eq_equiv.symm (key_bytes S k b) (key_bytes S k a) i)) (k ∷ turned_filter S a b keys i) (turned_filter S a b keys i))

pub set_needs_are : (S : Schema) (level : Level) (M : Catalog) (p : Pid) (member : ℕ) (value : PlainValue) (object : Object) → object_of M p ≡ Some object
    → with_reads level (set_needs p.serial (all_keyed S object) (all_keyed S (with_member object member value))) (targets (references value)) ≡ needs S level M (Set p member value)
set_needs_are S level M p member value object there =
    (λ i. with_reads level (object_need Write p.serial ∷ (left i ++ right i)) (targets (references value)))
    ∙ ap (λ (o : Option Object). with_reads level (object_need Write p.serial ∷ given o [] (λ x. machine_set_needs S x (with_member x member value).values)) (targets (references value))) (sym there)
    ∙ sym (needs_are S level M (Set p member value))
  where
    left : key_needs (differing (keyed S object.values (keys_at S object.home)) (keyed S (slice_set object.values member value) (keys_at S object.home))) ≡ keys_written S (changed_keys S object (slice_set object.values member value)) object.values
    left = ap key_needs (changed_pairs S object.values (slice_set object.values member value) (keys_at S object.home)) ∙ keys_are S object.values (changed_keys S object (slice_set object.values member value))

    right : key_needs (differing (keyed S (slice_set object.values member value) (keys_at S object.home)) (keyed S object.values (keys_at S object.home))) ≡ keys_written S (changed_keys S object (slice_set object.values member value)) (slice_set object.values member value)
    right =
        ap key_needs (changed_pairs S (slice_set object.values member value) object.values (keys_at S object.home))
        ∙ keys_are S (slice_set object.values member value) (filter (λ k. not (bytes_eq (key_bytes S k (slice_set object.values member value)) (key_bytes S k object.values))) (keys_at S object.home))
        ∙ ap (λ (l : List KeyNo). keys_written S l (slice_set object.values member value)) (turned_filter S object.values (slice_set object.values member value) (keys_at S object.home))

pub set_gone : (S : Schema) (level : Level) (M : Catalog) (p : Pid) (member : ℕ) (value : PlainValue) → object_of M p ≡ None → with_reads level (object_need Write p.serial ∷ []) (targets (references value)) ≡ needs S level M (Set p member value)
set_gone S level M p member value none =
    ap (λ (o : Option Object). with_reads level (object_need Write p.serial ∷ given o [] (λ x. machine_set_needs S x (with_member x member value).values)) (targets (references value))) (sym none)
    ∙ sym (needs_are S level M (Set p member value))
