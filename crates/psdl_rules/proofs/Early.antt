-- Faults of lists that would not be the least.
use Rattle.std.proofs.Common.{◌≡◌, List, [], ◌∷◌, ◌++◌, Bool, true, false, ◌||◌, not, Option, Some, None, refl, ap, ◌∙◌}
use Rattle.std.specs.List.{flat_map, list_any, find}
use Rattle.psdl_tree.specs.declared.names.Identifier.{Identifier}
use Rattle.type_layout.specs.Schemas.{given}
use Rattle.pss_base.specs.declared.place.Place.{Place}
use Rattle.psdl_directory.specs.declared.fault.CheckFault.{CheckFault}
use Rattle.psdl_directory.specs.declared.fault.CheckKind.{CheckKind}
use Rattle.psdl_directory.specs.declared.fault.CheckKind.TheVariants.{KeyMember, KeyType, FactoryMember}
use Rattle.psdl_directory.specs.Declarations.{Declaration}
use Rattle.psdl_directory.specs.Fault.{is_before, fault, fault_if}
use Rattle.psdl_directory.specs.Noting.{noting, comes_first}
use Rattle.psdl_directory.proofs.Noting.{noting-append, late, not_after_both, not_after_alike}
use Rattle.psdl_lineage.specs.Descent.{StateMember}
use Rattle.psdl_standings.specs.Standings.{Standing}
use Rattle.psdl_rules.specs.Words.{is_called, same_name, listed_wrong}
use Rattle.psdl_rules.specs.Faults.KeyType.{is_compound, keyed_wrong}
use Rattle.psdl_rules.specs.inner.Early.{is_early, list_early}
use Rattle.psdl_rules.specs.inner.Listing.{listed_faults}

-- the kinds of the faults of lists, in their order
no_key_members : is_before KeyMember KeyMember ≡ false
unfolding is_before
no_key_members = refl

no_key_types : is_before KeyType KeyMember ≡ false
unfolding is_before
no_key_types = refl

no_factory_members : is_before FactoryMember KeyMember ≡ false
unfolding is_before
no_factory_members = refl

-- a later kind at one place
later : (first : Option CheckFault) (kind : CheckKind) (place : Place) → is_before kind KeyMember ≡ false → comes_first first KeyMember place ≡ false → comes_first first kind place ≡ false
later None kind place late h = absurd (cc)
later (Some f) kind place late h = not_after_both f (fault KeyMember place) (fault kind place) h (not_after_alike kind KeyMember place late)

pub late_at : (first : Option CheckFault) (kind : CheckKind) (i : Identifier) (holds : Bool) → is_before kind KeyMember ≡ false → is_early first i ≡ false
    → noting first (fault_if holds kind i.place) ≡ first
late_at first kind i holds behind h = late first kind i.place holds (later first kind i.place behind h)

either : (a b : Bool) → a || b ≡ false → (a ≡ false) × (b ≡ false)
either true b h = absurd (cc)
either false b h = (refl, h)

-- where each of some changes nothing, all of them change nothing
pub late_all : {X : Type 0} (first : Option CheckFault) (early : X → Bool) (f : X → List CheckFault) → ((x : X) → early x ≡ false → noting first (f x) ≡ first)
    → (xs : List X) → list_any early xs ≡ false → noting first (flat_map f xs) ≡ first
late_all first early f none [] h = refl
late_all first early f none (x ∷ xs) h =
    let both = either (early x) (list_any early xs) h in
    noting-append first (f x) (flat_map f xs)
    ∙ ap (λ (o : Option CheckFault). noting o (flat_map f xs)) (none x both.0)
    ∙ late_all first early f none xs both.1

pub late_listed : (first : Option CheckFault) (kind : CheckKind) (ms : List StateMember) (earlier is : List Identifier) → is_before kind KeyMember ≡ false → list_any (is_early first) is ≡ false → noting first (listed_wrong kind ms earlier is) ≡ first
late_listed first kind ms earlier [] behind h = refl
late_listed first kind ms earlier (i ∷ is) behind h =
    let both = either (is_early first i) (list_any (is_early first) is) h in
    let wrong = not (list_any (is_called i) ms) || list_any (same_name i) earlier in
    noting-append first (fault_if wrong kind i.place) (listed_wrong kind ms (i ∷ earlier) is)
    ∙ ap (λ (o : Option CheckFault). noting o (listed_wrong kind ms (i ∷ earlier) is)) (late_at first kind i wrong behind both.0)
    ∙ late_listed first kind ms (i ∷ earlier) is behind both.1

late_keyed_one : (all : List Declaration) (done : List Standing) (first : Option CheckFault) (ms : List StateMember) (i : Identifier) → is_early first i ≡ false → noting first (keyed_wrong all done ms i) ≡ first
late_keyed_one all done first ms i h = by (find (is_called i) ms)
  where
    by : (o : Option StateMember) → noting first (given o [] (λ m. fault_if (is_compound all done m) KeyType i.place)) ≡ first
    by None = refl
    by (Some m) = late_at first KeyType i (is_compound all done m) no_key_types h

pub late_keyed : (all : List Declaration) (done : List Standing) (first : Option CheckFault) (ms : List StateMember) (is : List Identifier) → list_any (is_early first) is ≡ false
    → noting first (flat_map (keyed_wrong all done ms) is) ≡ first
late_keyed all done first ms is h = late_all first (is_early first) (keyed_wrong all done ms) (late_keyed_one all done first ms) is h

late_lists_of : (first : Option CheckFault) (kind : CheckKind) (ms : List StateMember) (lists : List (List Identifier)) → is_before kind KeyMember ≡ false → list_any (list_early first) lists ≡ false
    → noting first (flat_map (listed_wrong kind ms []) lists) ≡ first
late_lists_of first kind ms lists behind h = late_all first (list_early first) (listed_wrong kind ms []) (λ list e. late_listed first kind ms [] list behind e) lists h

-- the lists of a home
pub late_lists : (all : List Declaration) (done : List Standing) (first : Option CheckFault) (ms : List StateMember) (keys factories : List (List Identifier))
    → (list_any (list_early first) keys || list_any (list_early first) factories) ≡ false → noting first (listed_faults all done ms keys factories) ≡ first
late_lists all done first ms keys factories h =
    let both = either (list_any (list_early first) keys) (list_any (list_early first) factories) h in
    let a = flat_map (listed_wrong KeyMember ms []) keys in
    let b = flat_map (flat_map (keyed_wrong all done ms)) keys in
    let c = flat_map (listed_wrong FactoryMember ms []) factories in
    noting-append first (a ++ b) c
    ∙ ap (λ (o : Option CheckFault). noting o c)
    (noting-append first a b ∙ ap (λ (o : Option CheckFault). noting o b) (late_lists_of first KeyMember ms keys no_key_members both.0)
    ∙ late_all first (list_early first) (flat_map (keyed_wrong all done ms)) (λ list e. late_keyed all done first ms list e) keys both.0)
    ∙ late_lists_of first FactoryMember ms factories no_factory_members both.1
