-- An owner that is alone is held up by nobody.
use Rattle.std.proofs.Common.{◌≡◌, ◌==◌, List, [], ◌∷◌, length, slice_get, Option, Some, None, Bool, true, false, cond, refl, sym, ap, ◌∙◌, arith, eqb-true}
use Rattle.std.specs.Option.{option_map, unwrap_or}
use Rattle.pss_base.specs.declared.owner.OwnerNo.{OwnerNo}
use Rattle.pss_machine.specs.declared.lock.Need.{Need}
use Rattle.link_pool.specs.declared.names.Col.{Col}
use Rattle.link_pool.specs.declared.names.Node.{Node}
use Rattle.lock_table.specs.declared.links.Links.{Links}
use Rattle.lock_table.specs.Locks.{blocker}
use Rattle.lock_table.specs.inner.Nodes.{held_in}
use Rattle.lock_table.specs.inner.Tables.{entry_at}
use Rattle.lock_table.specs.inner.Links.{IsLinked, IsAlone, same_owner, owner_in, col_at}
use Rattle.lock_table.proofs.Holding.{held_node}
use Rattle.lock_table.proofs.Owning.{least_blocker}
use Rattle.lock_table.proofs.Added.{col_seated}

-- the only entry is the owner's
pub only_entry : (es : List (OwnerNo × Col)) (o : OwnerNo) (c : Col) → slice_get es 0 ≡ Some (o, c) → length es ≡ 1 → (n : OwnerNo) (col : Col) → entry_at same_owner es n ≡ Some col → n ≡ o
only_entry [] o c first one n col at = absurd (cc)
only_entry (e ∷ []) o c first one n col at = by (n.0 == e.0.0) refl at
  where
    by : (b : Bool) → (n.0 == e.0.0) ≡ b → cond b (Some e.1) None ≡ Some col → n ≡ o
    by true is found = ap (λ m. record { 0 = m }) (eqb-true n.0 e.0.0 is) ∙ ap (λ f. (unwrap_or f e).0) first
    by false is found = absurd (cc)
only_entry (e ∷ f ∷ es) o c first one n col at = absurd (omega (arith, one))

-- an owner with a lock has a column
seated : (links : Links) → IsLinked links → (owner b : OwnerNo) → IsAlone links owner → (b ≡ owner → ⊥) → (node : Node) → owner_in links.pool node ≡ Some b → ⊥
seated links linked owner b alone ne node own = by (col_at links b) refl
  where
    by : (c : Option Col) → col_at links b ≡ c → ⊥
    by None at = col_seated links.pool node b own (sym (linked.cols.stands node b own) ∙ at)
    by (Some col) at = ne (alone b col at)

pub alone_free : (links : Links) → IsLinked links → (owner : OwnerNo) → IsAlone links owner → (needs : List Need) → None ≡ blocker (held_in links.pool) owner needs
alone_free links linked owner alone needs = by (blocker (held_in links.pool) owner needs) refl
  where
    by : (o : Option OwnerNo) → blocker (held_in links.pool) owner needs ≡ o → None ≡ o
    by None e = refl
    by (Some b) e =
        let s = (least_blocker (held_in links.pool) owner needs).some b e in
        let n = held_node links.pool b s.1.0 s.1.1 in
        absurd (seated links linked owner b alone s.0 n.node (ap (option_map (λ l. l.owner)) n.at))
