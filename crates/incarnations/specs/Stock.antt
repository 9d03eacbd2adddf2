-- What is stored, and how its parts belong together.
use Rattle.std.specs.Prelude.{ℕ, zero, suc, ◌≡◌, ◌≢◌, ◌⊎◌, ◌<◌, ◌≤◌, ◌-◌, List, [], ◌∷◌, ◌++◌, length, Option, Some, None, IsSome, IsSomeAnd, Bool, true, false, is_some, ◌&&◌, cond}
use Rattle.std.specs.Option.{option_map, option_and_then}
use Rattle.std.specs.declared.cmp.Ordering.{Ordering}
use Rattle.std.specs.FinMap.{FinMap, get, insert, remove}
use Rattle.pss_base.specs.declared.pid.Pid.{Pid}
use Rattle.pss_base.specs.declared.session.SessionNo.{SessionNo}
use Rattle.type_layout.specs.Types.{PlainValue}
use Rattle.type_layout.specs.Schemas.{given}
use Rattle.pss_machine.specs.declared.session.View.{View}
use Rattle.pss_machine.specs.Copies.{same_view}
use Rattle.link_pool.specs.Rings.{list_in}
use Rattle.link_pool.specs.Meaning.{Meaning as Pool, AreRings, item_in, unlinked, in_row}
use Rattle.link_pool.specs.Names.{col_cmp, node_cmp}
use Rattle.link_pool.specs.declared.names.Row.{Row}
use Rattle.link_pool.specs.declared.names.Col.{Col}
use Rattle.link_pool.specs.declared.names.Node.{Node}
use Rattle.link_pool.specs.declared.names.Seat.{Seat}
use Rattle.incarnations.specs.declared.names.Slot.{Slot}
use Rattle.incarnations.specs.declared.names.BodyName.{BodyName}
use Rattle.incarnations.specs.declared.names.ObjectName.{ObjectName}
use Rattle.incarnations.specs.declared.names.Entry.{Entry}
use Rattle.incarnations.specs.declared.names.BodyRecord.{BodyRecord}
use Rattle.incarnations.specs.declared.names.SessionRecord.{SessionRecord}
use Rattle.incarnations.specs.declared.names.EntryRecord.{EntryRecord}
use Rattle.incarnations.specs.declared.stock.Stock.{Stock}
use Rattle.incarnations.specs.Keys.{session_cmp, slot_cmp}
use Rattle.recent_table.specs.Maps.{each, count}
use Rattle.incarnations.specs.Records.{with_entries}
use Rattle.incarnations.specs.Meaning.{Meaning, is_of, stands_on, is_attached, with_view}

abbrev pub meaning_of : Stock → Meaning
meaning_of k = record { lasts = each (λ r. r.last) k.sessions; entries = each (λ r. r.entry) k.entries; bodies = each (λ b. b.value) k.bodies }

-- ---- where entries stand

-- a row is that of a session's entries which stand on no body, or that of a body
pub data Place : Type 0 where
  Loose : (session : SessionNo) → Place
  On : (name : BodyName) → Place

abbrev pub place_of : Slot → Entry → Place
place_of x e = given e.view (Loose x.session) (λ v. On (record { pid = e.pid; view = v }))

-- an entry's node, and what it stands on
pub record Spot : Type 0 where
  pub node : Node
  pub place : Place

abbrev pub spot_of : Slot → EntryRecord → Spot
spot_of x r = record { node = r.node; place = place_of x r.entry }

abbrev pub spots_in : FinMap slot_cmp EntryRecord → Slot → Option Spot
spots_in entries x = option_map (spot_of x) (get entries x)

abbrev pub spot_at : Stock → Slot → Option Spot
spot_at k x = spots_in k.entries x

abbrev pub row_at : Stock → Place → Option Row
row_at k (Loose s) = option_map (λ r. r.row) (get k.sessions s)
row_at k (On b) = option_map (λ r. r.place.row) (get k.bodies b)

abbrev pub col_at : Stock → SessionNo → Option Col
col_at k s = option_map (λ r. r.col) (get k.sessions s)

abbrev pub pid_at : Stock → Slot → Option Pid
pid_at k x = option_map (λ r. r.entry.pid) (get k.entries x)

abbrev pub number_at : Stock → ObjectName → Option ℕ
number_at k o = get k.objects o

-- ---- how that belongs together

pub record IsSeated (p : Pool Slot) (rows : Place → Option Row) (cols : SessionNo → Option Col) (x : Slot) (spot : Spot) : Type 0 where
  pub row : Row
  pub col : Col
  pub at : get p.nodes spot.node ≡ Some (record { row = row; col = col; item = x })
  pub in_row : rows spot.place ≡ Some row
  pub in_col : cols x.session ≡ Some col

-- each entry has one node, which stands in the row of its place and in the column of its session
pub record AreSeated (p : Pool Slot) (spots : Slot → Option Spot) (rows : Place → Option Row) (cols : SessionNo → Option Col) : Type 0 where
  pub rings : AreRings p
  pub seated : (x : Slot) (spot : Spot) → spots x ≡ Some spot → IsSeated p rows cols x spot
  pub known : (node : Node) (seat : Seat Slot) → get p.nodes node ≡ Some seat → option_map (λ spot. spot.node) (spots seat.item) ≡ Some node

-- each of these has a ring of its own
pub record AreApart {A K : Type 0} {R : K → K → Ordering} (at : A → Option K) (rings : FinMap R (List Node)) : Type 0 where
  pub apart : (a b : A) (ring : K) → at a ≡ Some ring → at b ≡ Some ring → a ≡ b
  pub there : (a : A) (ring : K) → at a ≡ Some ring → IsSome (get rings ring)

-- entries are found by their objects
pub record AreNamed (pids : Slot → Option Pid) (numbers : ObjectName → Option ℕ) : Type 0 where
  pub named : (x : Slot) (pid : Pid) → pids x ≡ Some pid → numbers (record { session = x.session; pid = pid }) ≡ Some x.number
  pub meant : (o : ObjectName) (n : ℕ) → numbers o ≡ Some n → pids (record { session = o.session; number = n }) ≡ Some o.pid

pub record AreNumbered (entries : FinMap slot_cmp Entry) (lasts : FinMap session_cmp ℕ) : Type 0 where
  pub numbers : (x : Slot) (e : Entry) → get entries x ≡ Some e → IsSomeAnd (get lasts x.session) (λ last. (0 < x.number) × (x.number ≤ last))
  pub counts : (x : Slot) (e : Entry) → get entries x ≡ Some e → 0 < e.count

abbrev pub size_at : Stock → SessionNo → Option ℕ
size_at k s = option_map (λ r. r.entries) (get k.sessions s)

abbrev pub load_at : Stock → BodyName → Option ℕ
load_at k b = option_map (λ r. r.place.entries) (get k.bodies b)

-- what is counted is right
pub record AreCounted (entries : FinMap slot_cmp Entry) (sizes : SessionNo → Option ℕ) (loads : BodyName → Option ℕ) (attached : ℕ) : Type 0 where
  pub sessions : (s : SessionNo) (n : ℕ) → sizes s ≡ Some n → n ≡ count (is_of s) entries
  pub bodies : (b : BodyName) (n : ℕ) → loads b ≡ Some n → n ≡ count (stands_on b) entries
  pub some : (b : BodyName) (n : ℕ) → loads b ≡ Some n → 0 < n
  pub all : attached ≡ count is_attached entries

-- a session's number of entries is that of the nodes of its column
abbrev pub AreLong : Stock → Type 0
AreLong k = (s : SessionNo) (r : SessionRecord) → get k.sessions s ≡ Some r → r.entries ≡ length (list_in k.pool.cols r.col)

-- the first so many pass a test, and no others do
abbrev pub AreFirst : {X : Type 0} → (X → Bool) → ℕ → List X → Type 0
AreFirst test zero [] = Unit {0}
AreFirst test (suc n) [] = ⊥
AreFirst test zero (x ∷ xs) = (test x ≡ false) × AreFirst test zero xs
AreFirst test (suc n) (x ∷ xs) = (test x ≡ true) × AreFirst test n xs

-- the entry of a node stands on a body
abbrev pub is_standing : FinMap node_cmp (Seat Slot) → FinMap slot_cmp EntryRecord → Node → Bool
is_standing nodes entries node = given (option_and_then (λ seat. get entries seat.item) (get nodes node)) false (λ r. is_some r.entry.view)

-- those of a session's entries that stand on a body are counted, and their nodes stand first in its column
pub record IsInFront (nodes : FinMap node_cmp (Seat Slot)) (cols : FinMap col_cmp (List Node)) (entries : FinMap slot_cmp EntryRecord) (s : SessionNo) (r : SessionRecord) : Type 0 where
  pub first : AreFirst (is_standing nodes entries) r.attached (list_in cols r.col)
  pub counted : r.attached ≡ count (λ e. is_of s e && is_attached e) (each (λ z. z.entry) entries)

abbrev pub AreInFront : FinMap node_cmp (Seat Slot) → FinMap col_cmp (List Node) → FinMap slot_cmp EntryRecord → FinMap session_cmp SessionRecord → Type 0
AreInFront nodes cols entries sessions = (s : SessionNo) (r : SessionRecord) → get sessions s ≡ Some r → IsInFront nodes cols entries s r

pub record IsSound (k : Stock) : Type 0 where
  pub seats : AreSeated k.pool (spot_at k) (row_at k) (col_at k)
  pub rows : AreApart (row_at k) k.pool.rows
  pub cols : AreApart (col_at k) k.pool.cols
  pub names : AreNamed (pid_at k) (number_at k)
  pub numbers : AreNumbered (meaning_of k).entries (meaning_of k).lasts
  pub counts : AreCounted (meaning_of k).entries (size_at k) (load_at k) k.attached
  pub lengths : AreLong k
  pub fronts : AreInFront k.pool.nodes k.pool.cols k.entries k.sessions

-- ---- a node in another row

-- an end of a list
pub data End : Type 0 where
  First : End
  Last : End

abbrev pub put : End → Node → List Node → List Node
put First node nodes = node ∷ nodes
put Last node nodes = nodes ++ node ∷ []

-- the pool after a node came in, last in its row and at an end of its column
abbrev pub placed : End → Pool Slot → Node → Seat Slot → Pool Slot
placed end p node seat = record {
  rows = insert p.rows seat.row (list_in p.rows seat.row ++ node ∷ []);
  cols = insert p.cols seat.col (put end node (list_in p.cols seat.col));
  nodes = insert p.nodes node seat;
  room = p.room - 1;
}

-- a node went out of its rings, and came last in a row and at an end of its column again, under another name
pub record IsMoved (end : End) (old new : Pool Slot) (node : Node) (row : Row) (again : Node) : Type 0 where
  pub seat : Seat Slot
  pub at : get old.nodes node ≡ Some seat
  pub between : AreRings (unlinked old node seat)
  pub free : get (unlinked old node seat).nodes again ≡ None
  pub is : new ≡ placed end (unlinked old node seat) again (in_row row seat)

-- ---- one entry

-- no body comes, and those that stay have their values
abbrev pub KeepsBodies : Meaning → Meaning → Type 0
KeepsBodies old new = (b : BodyName) (value : List PlainValue) → get new.bodies b ≡ Some value → get old.bodies b ≡ Some value

-- an entry is another
pub record IsSet (old new : Meaning) (x : Slot) (e : Entry) : Type 0 where
  pub lasts : new.lasts ≡ old.lasts
  pub entries : new.entries ≡ insert old.entries x e
  pub bodies : KeepsBodies old new

-- an entry is gone
pub record IsErased (old new : Meaning) (x : Slot) : Type 0 where
  pub lasts : new.lasts ≡ old.lasts
  pub entries : new.entries ≡ remove old.entries x
  pub bodies : KeepsBodies old new

-- bodies that stay keep their rows
abbrev pub KeepsRows : Stock → Stock → Type 0
KeepsRows old new = (b : BodyName) (r : Row) → row_at new (On b) ≡ Some r → row_at old (On b) ≡ Some r

-- sessions keep their columns
abbrev pub KeepsCols : Stock → Stock → Type 0
KeepsCols old new = (s : SessionNo) → col_at new s ≡ col_at old s

-- somewhere in a list these nodes follow each other
pub record HasRun (run nodes : List Node) : Type 0 where
  pub front : List Node
  pub back : List Node
  pub is : nodes ≡ front ++ (run ++ back)

-- a node stays, or goes elsewhere under another name: the others stay, and those behind it follow each other as before
pub record IsPassed (old new : Pool Slot) (node : Node) : Type 0 where
  pub items : (y : Node) → y ≢ node → IsSome (get old.nodes y) → item_in new y ≡ item_in old y
  pub runs : (col : Col) (front run : List Node) → list_in old.cols col ≡ front ++ node ∷ run → HasRun run (list_in new.cols col)

-- one entry fewer stands on a body, which goes where none is left
pub record IsFewer (old new : Stock) (name : BodyName) (b : BodyRecord) : Type 0 where
  pub was : get old.bodies name ≡ Some b
  pub sessions : new.sessions ≡ old.sessions
  pub entries : new.entries ≡ old.entries
  pub objects : new.objects ≡ old.objects
  pub attached : new.attached ≡ old.attached
  pub nodes : new.pool.nodes ≡ old.pool.nodes
  pub cols : new.pool.cols ≡ old.pool.cols
  pub rings : AreRings new.pool
  pub body :
      ((b.place.entries ≡ 1) × (new.bodies ≡ remove old.bodies name) × (new.pool.rows ≡ remove old.pool.rows b.place.row))
      ⊎ ((1 < b.place.entries) × (new.bodies ≡ insert old.bodies name (with_entries (b.place.entries - 1) b)) × (new.pool.rows ≡ old.pool.rows))

abbrev pub IsLowered : Stock → Stock → BodyName → Type 0
IsLowered old new name = IsSomeAnd (get old.bodies name) (IsFewer old new name)

-- ---- what is chosen

-- a view is asked for, or any is
abbrev pub asks : Option View → View → Bool
asks None v = true
asks (Some w) v = same_view w v

-- an entry that leaves its body where its view is asked for
abbrev pub turned_entry : Option View → Entry → Entry
turned_entry chosen e = given e.view e (λ v. cond (asks chosen v) (with_view None e) e)

-- an entry on a body of the view that is asked for, or any entry
abbrev pub chosen_by : Option View → Slot → Entry → Bool
chosen_by None x e = true
chosen_by (Some w) x e = given e.view false (same_view w)
