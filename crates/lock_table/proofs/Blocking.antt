-- Who holds up whom, by the rows of what is needed.
use Rattle.std.proofs.Common.{ℕ, ◌≡◌, ◌+◌, ◌<◌, ◌==◌, ⊎_elim, List, [], ◌∷◌, ◌++◌, length, take, get_or, Option, Some, None, Bool, true, false, cond, not, refl, sym, ap, ◌∙◌, subst, arith}
use Rattle.std.specs.Prelude.{◌||◌, ◌&&◌, Contains, map}
use Rattle.std.specs.List.{list_any}
use Rattle.std.specs.Option.{unwrap_or}
use Rattle.std.specs.Ordering.{eq_by_cmp}
use Rattle.std.proofs.lemmas.List.{take_more}
use Rattle.std.specs.FinMap as map
use Rattle.std.specs.FinSet as set
use Rattle.pss_base.specs.declared.owner.OwnerNo.{OwnerNo}
use Rattle.pss_machine.specs.declared.lock.Need.{Need}
use Rattle.pss_machine.specs.Needs.{Locks, need_cmp, same_resource, go_together, clash, hold_up}
use Rattle.link_pool.specs.Meaning.{item_in}
use Rattle.link_pool.specs.Rings.{list_in}
use Rattle.link_pool.specs.declared.names.Row.{Row}
use Rattle.link_pool.specs.declared.names.Node.{Node}
use Rattle.lock_table.specs.declared.links.Lock.{Lock}
use Rattle.lock_table.specs.declared.links.Links.{Links}
use Rattle.lock_table.specs.Locks.{Held, blocker}
use Rattle.lock_table.specs.Standing.{need_of, lock_of}
use Rattle.lock_table.specs.inner.Nodes.{held_in, lesser, least_of, least_in_row, owner_if, is_against}
use Rattle.lock_table.specs.inner.Links.{IsLinked, place_at, row_at}
use Rattle.lock_table.proofs.Sames.{resource-true, resource-self, need-true, need-self}
use Rattle.lock_table.proofs.Keyed.{no_value, one_value, contains_first, contains_rest, contains_cases}
use Rattle.lock_table.proofs.Entries.{both_true, or_true}
use Rattle.lock_table.proofs.Holding.{has, node_held, held_node}
use Rattle.lock_table.proofs.Rows.{row_has, has_row, none_held}
use Rattle.lock_table.proofs.Least.{first_least, one_least, least_joined, least_is}

-- another owner's locks hold up what is needed
abbrev pub blocks : OwnerNo → List Need → ℕ × Locks → Bool
blocks owner needs e = not (e.0 == owner.0) && hold_up e.1 needs

-- ---- needs one after the other

or_assoc : (a b c d : Bool) → ((a || b) || (c || d)) ≡ ((a || c) || (b || d))
or_assoc true b c d = refl
or_assoc false true true d = refl
or_assoc false true false d = refl
or_assoc false false c d = refl

any_joined : (t u v : Need → Bool) → ((x : Need) → v x ≡ (t x || u x)) → (xs : List Need) → list_any v xs ≡ (list_any t xs || list_any u xs)
any_joined t u v joins [] = refl
any_joined t u v joins (x ∷ xs) = (λ i. joins x i || any_joined t u v joins xs i) ∙ or_assoc (t x) (u x) (list_any t xs) (list_any u xs)

any_append : (test : Need → Bool) (xs ys : List Need) → list_any test (xs ++ ys) ≡ (list_any test xs || list_any test ys)
any_append test [] ys = refl
any_append test (x ∷ xs) ys = ap (λ b. test x || b) (any_append test xs ys) ∙ or_or (test x) (list_any test xs) (list_any test ys)
  where
    or_or : (a b c : Bool) → (a || (b || c)) ≡ ((a || b) || c)
    or_or true b c = refl
    or_or false b c = refl

and_or : (a b c : Bool) → (a && (b || c)) ≡ ((a && b) || (a && c))
and_or true b c = refl
and_or false b c = refl

blocks-append : (owner : OwnerNo) (xs ys : List Need) (e : ℕ × Locks) → blocks owner (xs ++ ys) e ≡ (blocks owner xs e || blocks owner ys e)
blocks-append owner xs ys e =
    ap (λ b. not (e.0 == owner.0) && b) (any_joined (λ x. list_any (clash x) xs) (λ x. list_any (clash x) ys) (λ x. list_any (clash x) (xs ++ ys)) (λ x. any_append (clash x) xs ys) (set.items e.1))
    ∙ and_or (not (e.0 == owner.0)) (hold_up e.1 xs) (hold_up e.1 ys)

pub blocker-append : (held : Held) (owner : OwnerNo) (xs ys : List Need) → lesser (blocker held owner xs) (blocker held owner ys) ≡ blocker held owner (xs ++ ys)
blocker-append held owner xs ys =
    one_least (blocks owner (xs ++ ys)) held (lesser (blocker held owner xs) (blocker held owner ys)) (blocker held owner (xs ++ ys))
    (least_joined (blocks owner xs) (blocks owner ys) (blocks owner (xs ++ ys)) (blocks-append owner xs ys) held (blocker held owner xs) (blocker held owner ys) (first_least (blocks owner xs) held) (first_least (blocks owner ys) held))
    (first_least (blocks owner (xs ++ ys)) held)

none_blocks : (owner : OwnerNo) (e : ℕ × Locks) → blocks owner [] e ≡ true → ⊥
none_blocks owner e h = empty (set.items e.1) (both_true (not (e.0 == owner.0)) (hold_up e.1 []) h).1
  where
    empty : (xs : List Need) → list_any (λ x. list_any (clash x) []) xs ≡ true → ⊥
    empty [] h = absurd (cc)
    empty (x ∷ xs) h = empty xs h

pub blocker-none : (held : Held) (owner : OwnerNo) → None ≡ blocker held owner []
blocker-none held owner =
    one_least (blocks owner []) held None (blocker held owner [])
    (record { none = λ k v e at t. none_blocks owner (k, v) t; some = λ b e. no_value b e; least = λ b k v e at t. no_value b e }) (first_least (blocks owner []) held)

-- one need more of a list
pub blocker-more : (held : Held) (owner : OwnerNo) (needs : List Need) (k : ℕ) (d : Need) → k < length needs → (least one more : Option OwnerNo) → least ≡ blocker held owner (take k needs) → one ≡ blocker held owner (get_or needs k d ∷ []) → more ≡ lesser least one → more ≡ blocker held owner (take (k + 1) needs)
blocker-more held owner needs k d lt least one more p q r =
    r ∙ (λ i. lesser (p i) (q i)) ∙ blocker-append held owner (take k needs) (get_or needs k d ∷ []) ∙ ap (blocker held owner) (sym (take_more needs k d lt))

-- ---- one need, by its row

-- an element that passes
pub record Among (test : Need → Bool) (locks : Locks) : Type 0 where
  pub need : Need
  pub there : set.contains locks need ≡ true
  pub passes : test need ≡ true

pub among_any : (test : Need → Bool) (locks : Locks) → list_any test (set.items locks) ≡ true → Among test locks
among_any test locks e = let f = go (set.items locks) e in record { need = f.0; there = set.contains-items locks f.0 ∙ f.1; passes = f.2 }
  where
    go : (xs : List Need) → list_any test xs ≡ true → (x : Need) × (list_any (eq_by_cmp need_cmp x) xs ≡ true) × (test x ≡ true)
    go [] e = absurd (cc)
    go (x ∷ xs) e = by (test x) refl e (go xs)
      where
        by : (b : Bool) → test x ≡ b → (b || list_any test xs) ≡ true → (list_any test xs ≡ true → (y : Need) × (list_any (eq_by_cmp need_cmp y) xs ≡ true) × (test y ≡ true)) → (y : Need) × (list_any (eq_by_cmp need_cmp y) (x ∷ xs) ≡ true) × (test y ≡ true)
        by true is h rest = (x, ap (λ b. b || list_any (eq_by_cmp need_cmp x) xs) (need-self x), is)
        by false is h rest = let r = rest h in (r.0, or_true (eq_by_cmp need_cmp r.0 x) (list_any (eq_by_cmp need_cmp r.0) xs) r.1, r.2)

pub any_among : (test : Need → Bool) (locks : Locks) (need : Need) → set.contains locks need ≡ true → test need ≡ true → list_any test (set.items locks) ≡ true
any_among test locks need there passes = go (set.items locks) (sym (set.contains-items locks need) ∙ there)
  where
    go : (xs : List Need) → list_any (eq_by_cmp need_cmp need) xs ≡ true → list_any test xs ≡ true
    go [] e = absurd (cc)
    go (x ∷ xs) e = by (eq_by_cmp need_cmp need x) refl e (go xs)
      where
        by : (b : Bool) → eq_by_cmp need_cmp need x ≡ b → (b || list_any (eq_by_cmp need_cmp need) xs) ≡ true → (list_any (eq_by_cmp need_cmp need) xs ≡ true → list_any test xs ≡ true) → (test x || list_any test xs) ≡ true
        by true is h rest = ap (λ b. b || list_any test xs) (ap test (sym (need-true need x is)) ∙ passes)
        by false is h rest = or_true (test x) (list_any test xs) (rest h)

or_false : (b : Bool) → (b || false) ≡ b
or_false true = refl
or_false false = refl

-- ---- what stands in a list of owners

contains_image : {X Y : Type 0} (f : X → Y) (xs : List X) (x : X) (y : Y) → Contains xs x → f x ≡ y → Contains (map f xs) y
contains_image f [] x y m e = absurd (omega (arith, m.1))
contains_image f (w ∷ ws) x y m e =
    ⊎_elim (λ (h : w ≡ x). subst (λ z. Contains (z ∷ map f ws) y) (sym (ap f h ∙ e)) (contains_first y (map f ws))) (λ (n : Contains ws x). contains_rest (f w) y (map f ws) (contains_image f ws x y n e)) (contains_cases w x ws m)

record Image {X Y : Type 0} (f : X → Y) (xs : List X) (y : Y) : Type 0 where
  pub of : X
  pub there : Contains xs of
  pub is : f of ≡ y

image_contained : {X Y : Type 0} (f : X → Y) (xs : List X) (y : Y) → Contains (map f xs) y → Image f xs y
image_contained f [] y m = absurd (omega (arith, m.1))
image_contained f (w ∷ ws) y m =
    ⊎_elim (λ (h : f w ≡ y). record { of = w; there = contains_first w ws; is = h })
    (λ (n : Contains (map f ws) y). let i = image_contained f ws y n in record { of = i.of; there = contains_rest w i.of ws i.there; is = i.is })
    (contains_cases (f w) y (map f ws) m)

module _ (links : Links) (linked : IsLinked links) (need : Need) (row : Row) (at_r : row_at links need.resource ≡ Some row) (owner : OwnerNo) where
  abbrev against : Lock → Bool
  against = is_against owner need.mode

  -- a lock that is against the need, in the words of the map
  abbrev os : List (Option OwnerNo)
  os = map (λ node. owner_if against (item_in links.pool node)) (list_in links.pool.rows row)

  row_blocks : (k : ℕ) (v : Locks) → map.get (held_in links.pool) k ≡ Some v → blocks owner (need ∷ []) (k, v) ≡ true → Contains os (Some (record { 0 = k }))
  row_blocks k v at t =
      let h = both_true (not (k == owner.0)) (hold_up v (need ∷ [])) t in
      let a = among_any (λ x. list_any (clash x) (need ∷ [])) v h.1 in
      let c = both_true (same_resource a.need.resource need.resource) (not (go_together a.need.mode need.mode)) (sym (or_false (clash a.need need)) ∙ a.passes) in
      let lock : Lock = lock_of (record { 0 = k }) a.need in
      let there : has (held_in links.pool) (record { 0 = k }) a.need ≡ true = ap (λ (o : Option Locks). set.contains (unwrap_or o set.empty) a.need) at ∙ a.there in
      let n = row_has links linked need.resource row at_r lock (resource-true a.need.resource need.resource c.0) (held_node links.pool (record { 0 = k }) a.need there) in
      let is : against lock ≡ true = (λ i. h.0 i && not (go_together a.need.mode need.mode)) ∙ c.1 in
      contains_image (λ node. owner_if against (item_in links.pool node)) (list_in links.pool.rows row) n.node (Some (record { 0 = k })) n.stands (ap (owner_if against) n.at ∙ ap (λ b. cond b (Some lock.owner) None) is)

  record Blocking (b : OwnerNo) : Type 0 where
    pub locks : Locks
    pub at : map.get (held_in links.pool) b.0 ≡ Some locks
    pub passes : blocks owner (need ∷ []) (b.0, locks) ≡ true

  blocks_row : (b : OwnerNo) → Contains os (Some b) → Blocking b
  blocks_row b m = on (image_contained (λ node. owner_if against (item_in links.pool node)) (list_in links.pool.rows row) (Some b) m)
    where
      of_lock : (node : Node) (lock : Lock) → Contains (list_in links.pool.rows row) node → item_in links.pool node ≡ Some lock → against lock ≡ true → lock.owner ≡ b → Blocking b
      of_lock node lock stands at is own = by (map.get (held_in links.pool) lock.owner.0) refl (node_held links.pool node lock at)
        where
          t : (not (lock.owner.0 == owner.0) ≡ true) × (not (go_together lock.mode need.mode) ≡ true)
          t = both_true (not (lock.owner.0 == owner.0)) (not (go_together lock.mode need.mode)) is

          clashes : clash (need_of lock) need ≡ true
          clashes =
              ap (λ b. b && not (go_together lock.mode need.mode)) (ap (λ r. same_resource r need.resource) (has_row links linked need.resource row at_r lock (record { node = node; stands = stands; at = at })) ∙ resource-self need.resource) ∙ t.1

          by : (o : Option Locks) → map.get (held_in links.pool) lock.owner.0 ≡ o → set.contains (unwrap_or o set.empty) (need_of lock) ≡ true → Blocking b
          by None g h = let x : false ≡ true = sym (set.contains-empty need_cmp (need_of lock)) ∙ h in absurd (cc)
          by (Some s) g h = record {
            locks = s;
            at = subst (λ (o : OwnerNo). map.get (held_in links.pool) o.0 ≡ Some s) own g;
            passes =
                subst (λ (o : OwnerNo). blocks owner (need ∷ []) (o.0, s) ≡ true) own
                (ap (λ b. b && hold_up s (need ∷ [])) t.0 ∙ any_among (λ x. list_any (clash x) (need ∷ [])) s (need_of lock) h (or_false (clash (need_of lock) need) ∙ clashes));
          }

      on : Image (λ node. owner_if against (item_in links.pool node)) (list_in links.pool.rows row) (Some b) → Blocking b
      on i = item (item_in links.pool i.of) refl i.is
        where
          chosen : (lock : Lock) → item_in links.pool i.of ≡ Some lock → (z : Bool) → against lock ≡ z → cond z (Some lock.owner) None ≡ Some b → Blocking b
          chosen lock at true is h = of_lock i.of lock i.there at is (one_value h)
          chosen lock at false is h = no_value b h

          item : (o : Option Lock) → item_in links.pool i.of ≡ o → owner_if against o ≡ Some b → Blocking b
          item None at h = no_value b h
          item (Some lock) at h = chosen lock at (against lock) refl h

  pub row_blocker : least_in_row links.pool row against ≡ blocker (held_in links.pool) owner (need ∷ [])
  row_blocker =
      let l = least_is os in
      one_least (blocks owner (need ∷ [])) (held_in links.pool) (least_of os) (blocker (held_in links.pool) owner (need ∷ []))
      (record {
        none = λ k v e at t. l.none (record { 0 = k }) e (row_blocks k v at t);
        some = λ b e. let w = blocks_row b (l.some b e) in (w.locks, w.at, w.passes);
        least = λ b k v e at t. l.least b (record { 0 = k }) e (row_blocks k v at t);
      })
      (first_least (blocks owner (need ∷ [])) (held_in links.pool))

-- nobody holds up what has no row
pub none_blocker : (links : Links) → IsLinked links → (need : Need) → place_at links need.resource ≡ None → (owner : OwnerNo) → None ≡ blocker (held_in links.pool) owner (need ∷ [])
none_blocker links linked need none owner =
    one_least (blocks owner (need ∷ [])) (held_in links.pool) None (blocker (held_in links.pool) owner (need ∷ []))
    (record {
      none = λ k v e at t. never k v at (among_any (λ x. list_any (clash x) (need ∷ [])) v (both_true (not (k == owner.0)) (hold_up v (need ∷ [])) t).1);
      some = λ b e. no_value b e;
      least = λ b k v e at t. no_value b e;
    })
    (first_least (blocks owner (need ∷ [])) (held_in links.pool))
  where
    never : (k : ℕ) (v : Locks) → map.get (held_in links.pool) k ≡ Some v → Among (λ x. list_any (clash x) (need ∷ [])) v → ⊥
    never k v at a =
        let c = both_true (same_resource a.need.resource need.resource) (not (go_together a.need.mode need.mode)) (sym (or_false (clash a.need need)) ∙ a.passes) in
        let there : has (held_in links.pool) (record { 0 = k }) a.need ≡ true = ap (λ (o : Option Locks). set.contains (unwrap_or o set.empty) a.need) at ∙ a.there in
        let not_there : has (held_in links.pool) (record { 0 = k }) a.need ≡ false = none_held links linked a.need.resource (ap (place_at links) (resource-true a.need.resource need.resource c.0) ∙ none) (record { 0 = k }) a.need.mode in
        absurd (cc)
