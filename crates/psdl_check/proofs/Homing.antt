-- What is made of a home.
use Rattle.std.proofs.Common.{◌≡◌, ℕ, ◌+◌, List, [], ◌∷◌, ◌++◌, Bool, true, false, not, ◌||◌, if◌then◌else◌, Option, length, map, refl, sym, ap, ◌∙◌, arith, length-append}
use Rattle.std.specs.List.{flat_map, filter}
use Rattle.std.specs.Option.{option_map}
use Rattle.std.proofs.lemmas.Bool.{eq-eqb}
use Rattle.std.proofs.lemmas.List.{append-nil, map-append}
use Rattle.std.proofs.lemmas.List.Concat.{flat_map-append}
use Rattle.type_layout.specs.declared.factories.DeclaredFactory.{DeclaredFactory}
use Rattle.type_layout.specs.declared.home.HomeNo.{HomeNo}
use Rattle.type_layout.specs.declared.key.KeyNo.{KeyNo}
use Rattle.type_layout.specs.declared.schema.Factory.{Factory}
use Rattle.type_layout.specs.declared.schema.Home.{Home}
use Rattle.type_layout.specs.Factories.{same_declared, first_of_each, numbered, factories_held}
use Rattle.type_layout.specs.ShapeText.{home_line, member_line, base_number}
use Rattle.type_layout.specs.Types.{PlainType, RefTo, PlainMember}
use Rattle.psdl_directory.specs.Declarations.{Declaration}
use Rattle.psdl_directory.specs.Lookup.{at}
use Rattle.psdl_lineage.specs.Descent.{Listed, base_home, home_factories, concrete_homes}
use Rattle.psdl_standings.specs.Standings.{standings}
use Rattle.psdl_standings.specs.TextLengths.{cut}
use Rattle.psdl_check.specs.Schemas.{Introduced, introduced, all_introduced, home_no, scoped_name, home_layout, key_numbers, factory_of, home_of}
use Rattle.psdl_check.specs.declared.home_keys.HeldKey.{HeldKey}
use Rattle.psdl_check.specs.declared.key_rows.KeyIds.{KeyIds}
use Rattle.psdl_check.specs.declared.keys.Introducing.{Introducing}
use Rattle.psdl_check.specs.declared.members.MemberType.{MemberType}
use Rattle.psdl_check.specs.declared.members.MemberType.TheVariants as kinds
use Rattle.psdl_check.specs.declared.members.TypedMember.{TypedMember}
use Rattle.psdl_check.specs.inner.Declaring.{declared_as}
use Rattle.psdl_check.specs.inner.HeldKeys.{AreHeld, base_has, held_view, held_views, news}
use Rattle.psdl_check.specs.inner.KeysMade.{new_one}
use Rattle.psdl_check.specs.inner.LineLengths.{length_of_home}
use Rattle.psdl_check.specs.inner.Made.{front_lines, key_lines, lines_at, lines_of, HasNames}
use Rattle.psdl_check.specs.inner.Referring.{is_reference_to, refer_to}
use Rattle.psdl_check.specs.inner.TypedMembers.{type_by, typed_view, typed_views, typed_names}
use Rattle.psdl_check.proofs.Introduced.{numbers_are}
use Rattle.psdl_check.proofs.Lining.{home_length}

-- ---- members

type_agrees : (types : List PlainType) (f g : ℕ → List HomeNo) (t : MemberType) → ((n : ℕ) → is_reference_to n t ≡ true → f n ≡ g n) → type_by types f t ≡ type_by types g t
type_agrees types f g (kinds.Plain number) same = refl
type_agrees types f g (kinds.Reference definition) same = ap RefTo (same definition (eq-eqb definition definition refl))

behind : (a b : Bool) → b ≡ true → (a || b) ≡ true
behind true b e = refl
behind false b e = e

-- by lists that agree on all that is referred to
pub views_agree : (types : List PlainType) (f g : ℕ → List HomeNo) (ms : List TypedMember) → ((n : ℕ) → refer_to ms n ≡ true → f n ≡ g n) → typed_views types f ms ≡ typed_views types g ms
views_agree types f g [] same = refl
views_agree types f g (m ∷ ms) same =
    ap (λ (t : PlainType). record { name = m.name.now.name; type = t; readonly = m.readonly } ∷ typed_views types f ms) (type_agrees types f g m.member_type (λ n on. same n (ap (λ b. b || refer_to ms n) on)))
    ∙ ap (λ (vs : List PlainMember). typed_view types g m ∷ vs) (views_agree types f g ms (λ n on. same n (behind (is_reference_to n m.member_type) (refer_to ms n) on)))

names_back : (types : List PlainType) (f : ℕ → List HomeNo) (ms : List TypedMember) → typed_names ms ≡ map (λ (v : PlainMember). v.name) (typed_views types f ms)
names_back types f [] = refl
names_back types f (m ∷ ms) = ap (λ ns. m.name.now.name ∷ ns) (names_back types f ms)

-- members have the names of the layout
pub names_are : (all : List Declaration) (types : List PlainType) (f : ℕ → List HomeNo) (home : ℕ) (ms : List TypedMember) → typed_views types f ms ≡ home_layout all (standings all) home → HasNames all home ms
names_are all types f home ms is = names_back types f ms ∙ ap (map (λ (v : PlainMember). v.name)) is

-- ---- lines

-- the lines in front of those of the keys
pub front_whole : (all : List Declaration) (home : ℕ) (name : List ℕ) (base : Option HomeNo) (number front line between result : ℕ) (views : List PlainMember) → number ≡ (home_no all home).0 → name ≡ scoped_name (at all home)
    → base ≡ option_map (home_no all) (base_home all home) → views ≡ home_layout all (standings all) home → line ≡ length_of_home number (base_number base) name → between ≡ cut (front + line)
    → result ≡ cut (between + length (flat_map member_line views)) → result ≡ cut (front + length (front_lines all home))
front_whole all home name base number front line between result views is_number is_name is_base is_views is_line is_between is_result =
    let made : Home = home_of all (standings all) home in
    let first : line ≡ cut (length (home_line (home_no all home).0 made)) =
    is_line ∙ (λ i. length_of_home (is_number i) (base_number (is_base i)) (is_name i)) ∙ home_length (home_no all home).0 made in
    let members : length (flat_map member_line views) ≡ length (flat_map member_line (home_layout all (standings all) home)) = ap (λ (vs : List PlainMember). length (flat_map member_line vs)) is_views in
    let whole = length-append (home_line (home_no all home).0 made) (flat_map member_line (home_layout all (standings all) home)) in
    omega (arith, first, members, whole, is_between, is_result)

-- all lines
pub whole_lines : (all : List Declaration) (home front between result : ℕ) → between ≡ cut (front + length (front_lines all home)) → result ≡ cut (between + length (key_lines all home)) → result ≡ cut (front + length (lines_of all home))
unfolding lines_at
whole_lines all home front between result is_between is_result =
    let whole : length (lines_of all home) ≡ length (front_lines all home) + length (key_lines all home) = length-append (front_lines all home) (key_lines all home) in
    omega (arith, is_between, is_result, whole)

-- ---- factories

all_numbered : (vs : List PlainMember) (ls : List Listed) → map (numbered (map (λ (v : PlainMember). v.name) vs)) (map declared_as ls) ≡ map (factory_of vs) ls
all_numbered vs [] = refl
all_numbered vs (l ∷ ls) = λ i. record { name = l.name; members = numbers_are vs l.members i } ∷ all_numbered vs ls i

pub factories_are : (vs : List PlainMember) (held : List DeclaredFactory) (xs : List Listed) → first_of_each same_declared [] held ≡ map declared_as xs → factories_held (map (λ (v : PlainMember). v.name) vs) held ≡ map (factory_of vs) xs
unfolding factories_held
factories_are vs held xs is = ap (map (numbered (map (λ (v : PlainMember). v.name) vs))) is ∙ all_numbered vs xs

-- ---- the record

pub home_is : (all : List Declaration) (h : ℕ) (name : List ℕ) (base : Option HomeNo) (members : List PlainMember) (keys : List KeyNo) (factories : List Factory)
    → name ≡ scoped_name (at all h) → base ≡ option_map (home_no all) (base_home all h) → members ≡ home_layout all (standings all) h → keys ≡ key_numbers all h
    → factories ≡ map (factory_of (home_layout all (standings all) h)) (home_factories all h)
    → record { name = name; base = base; layout = record { members = members }; keys = keys; factories = factories } ≡ home_of all (standings all) h
home_is all h name base members keys factories a b c d e = λ i. record { name = a i; base = b i; layout = record { members = c i }; keys = d i; factories = e i }

-- ---- keys

module _ (all : List Declaration) (base : Option ℕ) (home : Introducing) where
  made : Listed → Introduced
  made k = record { home = home.home; listed = k }

  new_ones : (hs : List HeldKey) → map (λ (h : HeldKey). h.of_base) hs ≡ map (base_has all base) (held_views hs) → news home hs ≡ map (λ (k : Listed). record { home = home.home; listed = k }) (filter (λ k. not (base_has all base k)) (held_views hs))
  new_ones [] e = refl
  new_ones (h ∷ hs) e =
      let here : h.of_base ≡ base_has all base (held_view h) = cc in
      let rest : map (λ (x : HeldKey). x.of_base) hs ≡ map (base_has all base) (held_views hs) = cc in
      by h.of_base (base_has all base (held_view h)) here (new_ones hs rest)
    where
      by : (b c : Bool) → b ≡ c → news home hs ≡ map (λ (k : Listed). record { home = home.home; listed = k }) (filter (λ k. not (base_has all base k)) (held_views hs))
          → new_one b home (held_view h) ++ news home hs ≡ map (λ (k : Listed). record { home = home.home; listed = k }) (if not c then held_view h ∷ filter (λ k. not (base_has all base k)) (held_views hs) else filter (λ k. not (base_has all base k)) (held_views hs))
      by true true e same = same
      by false false e same = ap (λ l. record { home = home.home; listed = held_view h } ∷ l) same
      by true false e same = absurd (cc)
      by false true e same = absurd (cc)

-- what a home introduces
pub news_are : (all : List Declaration) (ids : KeyIds) (home : Introducing) (base : Option ℕ) (hs : List HeldKey) → base ≡ base_home all home.home → AreHeld all ids home.home base hs → news home hs ≡ introduced all home.home
news_are all ids home base hs is are =
    new_ones all base home hs are.of_base
    ∙ ap (λ (o : Option ℕ). map (λ (k : Listed). record { home = home.home; listed = k }) (filter (λ k. not (base_has all o k)) (held_views hs))) is
    ∙ ap (λ (l : List Listed). map (λ (k : Listed). record { home = home.home; listed = k }) (filter (λ k. not (base_has all (base_home all home.home) k)) l)) are.views

pub all_parts : (all : List Declaration) (homes more : List ℕ) (home : Introducing) (new : List Introduced) → concrete_homes all ≡ (homes ++ home.home ∷ []) ++ more → new ≡ introduced all home.home
    → all_introduced all ≡ (flat_map (introduced all) homes ++ new) ++ flat_map (introduced all) more
all_parts all homes more home new whole is =
    ap (flat_map (introduced all)) whole ∙ flat_map-append (introduced all) (homes ++ home.home ∷ []) more
    ∙ ap (λ l. l ++ flat_map (introduced all) more) (flat_map-append (introduced all) homes (home.home ∷ []) ∙ ap (λ l. flat_map (introduced all) homes ++ l) (append-nil (introduced all home.home) ∙ sym is))

pub one_home_more : (all : List Declaration) (homes : List ℕ) (home : ℕ) → flat_map (introduced all) (homes ++ home ∷ []) ≡ flat_map (introduced all) homes ++ introduced all home
one_home_more all homes home = flat_map-append (introduced all) homes (home ∷ []) ∙ ap (λ l. flat_map (introduced all) homes ++ l) (append-nil (introduced all home))

pub homes_more : (f : ℕ → Home) (homes : List ℕ) (home : ℕ) (old between new : List Home) (made : Home) → old ≡ map f homes → between ≡ old → new ≡ between ++ made ∷ [] → made ≡ f home → new ≡ map f (homes ++ home ∷ [])
homes_more f homes home old between new made is same push one =
    push ∙ ap (λ l. l ++ made ∷ []) (same ∙ is) ∙ ap (λ h. map f homes ++ h ∷ []) one ∙ sym (map-append f homes (home ∷ []))
