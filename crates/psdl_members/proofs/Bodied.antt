-- The members in all bodies, one body more at a time.
use Rattle.std.proofs.Common.{◌≡◌, ℕ, ◌+◌, List, [], ◌∷◌, ◌++◌, ◌<◌, length, take, get_or, refl, sym, ap, ◌∙◌, arith}
use Rattle.std.specs.List.{flat_map}
use Rattle.psdl_directory.specs.Declarations.{What, Declaration}
use Rattle.psdl_directory.specs.Parts.{states}
use Rattle.psdl_directory.specs.Lookup.{at}
use Rattle.psdl_directory.proofs.Ranged.{each_more}
use Rattle.psdl_lineage.specs.Descent.{StateMember, members_in}
use Rattle.psdl_members.specs.declared.member.Member.{Member}
use Rattle.psdl_members.specs.Bodies.{member_views, own_members}
use Rattle.psdl_members.specs.inner.Flat.{flat, begins}
use Rattle.psdl_members.proofs.Cutting.{flat_more, next_piece}

pub more_items : (all : List Declaration) (items new : List StateMember) (what : What) (i : ℕ) → items ≡ flat (own_members all) i → new ≡ items ++ flat_map (members_in i) (states what) → what ≡ (at all i).what
    → new ≡ flat (own_members all) (i + 1)
more_items all items new what i so_far e is =
    e ∙ ap (λ (l : List StateMember). l ++ flat_map (members_in i) (states what)) so_far ∙ ap (λ (w : What). flat (own_members all) i ++ flat_map (members_in i) (states w)) is ∙ sym (flat_more (own_members all) i)

length-views : (ms : List Member) → length (member_views ms) ≡ length ms
length-views [] = refl
length-views (m ∷ ms) = omega (arith, length-views ms)

pub more_starts : (all : List Declaration) (items : List Member) (starts new : List ℕ) (k i : ℕ) → member_views items ≡ flat (own_members all) i → k ≡ length items → new ≡ starts ++ k ∷ [] → starts ≡ begins (own_members all) i
    → new ≡ begins (own_members all) (i + 1)
more_starts all items starts new k i so_far many push e =
    each_more (λ j. length (flat (own_members all) j)) starts new k i push e (many ∙ sym (length-views items) ∙ ap (λ (l : List StateMember). length l) so_far)

pub members_more : (all : List Declaration) (items new : List StateMember) (what : What) (ds : List ℕ) (i : ℕ) → i < length ds → items ≡ flat_map (own_members all) (take i ds)
    → new ≡ items ++ flat_map (members_in (get_or ds i 0)) (states what) → what ≡ (at all (get_or ds i 0)).what → new ≡ flat_map (own_members all) (take (i + 1) ds)
members_more all items new what ds i lt so_far e is =
    let d : ℕ = get_or ds i 0 in
    e ∙ ap (λ (l : List StateMember). l ++ flat_map (members_in d) (states what)) so_far
    ∙ ap (λ (w : What). flat_map (own_members all) (take i ds) ++ flat_map (members_in d) (states w)) is
    ∙ sym (next_piece (own_members all) ds i lt)
