-- Where the references come from that are followed, and that serials are given once.
use Rattle.std.specs.Prelude.{ℕ, ◌+◌, ◌≤◌, ◌≡◌, ◌⊎◌, List, [], ◌∷◌, ◌++◌, Some, None}
use Rattle.std.specs.List.{slice_get}
use Rattle.pss_base.specs.declared.pid.Pid.{Pid}
use Rattle.type_layout.specs.Types.{PlainValue, Ref}
use Rattle.pss_catalog.specs.Catalog.{Object, Catalog}
use Rattle.pss_machine.specs.Operations.{PlainOp, Create, Set, Ask, Follow, PlainAnswer, Done, Found, Gone, Nil}
use Rattle.pss_machine.specs.Alone.{object_of}
use Rattle.pss_machine.specs.Beside.{Traced}

-- a create that answered with the object, whose member it gave the value
pub record MadeWith (p : Pid) (member : ℕ) (value : PlainValue) (e : Traced) : Type 0 where
  pub serial : ℕ
  pub object : Object
  pub op : e.op ≡ Create serial object
  pub answer : e.answer ≡ Found p
  pub there : slice_get object.values member ≡ Some value

-- a create or a set that gave the object's member the value
abbrev pub Gave : Pid → ℕ → PlainValue → Traced → Type 0
Gave p member value e = MadeWith p member value e ⊎ ((e.op ≡ Set p member value) × (e.answer ≡ Done))

abbrev pub SomeGave : Pid → ℕ → PlainValue → List Traced → Type 0
SomeGave p member value [] = ⊥
SomeGave p member value (e ∷ es) = Gave p member value e ⊎ SomeGave p member value es

-- the object has the value in its member at first
abbrev pub HadAtFirst : Catalog → Pid → ℕ → PlainValue → Type 0
HadAtFirst M p member value = (object : Object) × (object_of M p ≡ Some object) × (slice_get object.values member ≡ Some value)

-- the value was there at first, or given before
abbrev pub WasGiven : Catalog → List Traced → Pid → ℕ → PlainValue → Type 0
WasGiven M before p member value = HadAtFirst M p member value ⊎ SomeGave p member value before

-- the reference, or nil, that an answer to a follow tells of was given before
abbrev pub IsFollowed : Catalog → List Traced → Pid → ℕ → PlainAnswer → Type 0
IsFollowed M before p member (Found q) = WasGiven M before p member (Ref (Some q))
IsFollowed M before p member (Gone q) = (q ≡ p → ⊥) → WasGiven M before p member (Ref (Some q))
IsFollowed M before p member Nil = WasGiven M before p member (Ref None)
IsFollowed M before p member _ = Unit {0}

abbrev pub IsLive : Catalog → List Traced → PlainOp → PlainAnswer → Type 0
IsLive M before (Ask (Follow p member)) answer = IsFollowed M before p member answer
IsLive M before _ answer = Unit {0}

-- so of each member of a trace, by those before it
abbrev pub AreLive : Catalog → List Traced → List Traced → Type 0
AreLive M before [] = Unit {0}
AreLive M before (e ∷ es) = IsLive M before e.op e.answer × AreLive M (before ++ e ∷ []) es

-- a serial that a create may have
abbrev pub IsFrom : ℕ → PlainOp → Type 0
IsFrom n (Create serial object) = n ≤ serial
IsFrom n _ = Unit {0}

-- the least serial that the next create may have
abbrev pub next_from : ℕ → PlainOp → ℕ
next_from n (Create serial object) = serial + 1
next_from n _ = n

-- the serials of creates rise from a number on, so each is given once
abbrev pub SerialsRise : ℕ → List Traced → Type 0
SerialsRise n [] = Unit {0}
SerialsRise n (e ∷ es) = IsFrom n e.op × SerialsRise (next_from n e.op) es

-- what is said of references and serials together
pub record Live (M : Catalog) (next : ℕ) (trace : List Traced) : Type 0 where
  pub followed : AreLive M [] trace
  pub serials : SerialsRise next trace
