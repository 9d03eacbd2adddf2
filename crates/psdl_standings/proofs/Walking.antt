-- The walk from one declaration to the next.
use Rattle.std.proofs.Common.{◌≡◌, Vec, Global, ℕ, zero, suc, ◌+◌, ◌-◌, ◌<◌, ◌≤◌, List, [], ◌∷◌, ◌++◌, length, get_or, Option, None, refl, sym, ap, ◌∙◌, arith}
use Rattle.std.specs.Prelude.{IfSome}
use Rattle.psdl_tree.specs.Trees.{Expression, TypeSpec}
use Rattle.std.proofs.lemmas.List.FromFn.{get_or-map-range_with_len, length-map-range_with_len}
use Rattle.psdl_directory.specs.Declarations.{What, IsAlias, Declaration}
use Rattle.psdl_directory.specs.Headers.{Header, header_of, header, headers}
use Rattle.psdl_directory.specs.Lookup.{at}
use Rattle.psdl_standings.specs.declared.spot.Spot.{Spot}
use Rattle.psdl_standings.specs.declared.state_entry.StateEntry.{StateEntry}
use Rattle.psdl_standings.specs.declared.numbered_standing.NumberedStanding.{NumberedStanding}
use Rattle.psdl_standings.specs.declared.walk.Walk.{Walk}
use Rattle.psdl_standings.specs.Standings.{Standing, sight, spec_by}
use Rattle.psdl_standings.specs.Uses.{in_spec, spec_bounds}
use Rattle.psdl_standings.specs.Turns.{before_of, alias_type, AreInTurn}
use Rattle.psdl_standings.specs.inner.Declared.{type_uses, type_bounds, IsTold, AreStatesThere, IsLast, IsWalked}
use Rattle.psdl_standings.specs.inner.TypeTables.{entry_type}
use Rattle.psdl_standings.specs.inner.Walked.{text_in, done_in, names_in, Goes, Adds}
use Rattle.psdl_standings.proofs.Goings.{done_same, goes_nowhere}
use Rattle.psdl_standings.proofs.InTurn.{behind, type_behind}
use Rattle.psdl_standings.proofs.Stepping.{HasStepped}

-- the type of the typedef in front is the type of the one that follows
pub last_follows : (w : Walk) (n : ℕ) (last : Option ℕ) (what : What) → AreInTurn (text_in w) → n < length (text_in w) → what ≡ (at (text_in w) n).what → IsLast w n last → (before : ℕ) → before_of what ≡ suc before
    → entry_type w.types last ≡ alias_type (text_in w) (done_in w) n (at (text_in w) n).path what
last_follows w n last what turn lt is l before e =
    let some : before_of (at (text_in w) n).what ≡ suc before = ap before_of (sym is) ∙ e in
    let front : 1 ≤ n = (behind (text_in w) n before turn lt some).0 in
    let prev : n ≡ (n - 1) + 1 = omega (arith, front) in
    l.is (n - 1) prev ∙ sym (type_behind (text_in w) (done_in w) n before turn lt some) ∙ ap (λ (x : What). alias_type (text_in w) (done_in w) n (at (text_in w) n).path x) (sym is)

pub header_later : (w x : Walk) (n : ℕ) (what : What) (h : Header) → Goes w x → what ≡ (at (text_in w) n).what → h ≡ header (text_in w) n → h ≡ header_of (text_in x) n what
header_later w x n what h g is e = e ∙ ap (λ (v : What). header_of (text_in w) n v) (sym is) ∙ ap (λ (all : List Declaration). header_of all n what) (sym g.text)

pub item_later : (w x : Walk) (n : ℕ) (what : What) (item : Option ℕ) → Goes w x → entry_type x.types item ≡ alias_type (text_in w) (done_in w) n (at (text_in w) n).path what → entry_type x.types item ≡ alias_type (text_in x) (done_in x) n (at (text_in x) n).path what
item_later w x n what item g e = e ∙ sym (moved (text_in x) (text_in w) (done_in x) (done_in w) g.text (done_same w x g))
  where
    moved : (all others : List Declaration) (done told : List Standing) → all ≡ others → done ≡ told → alias_type all done n (at all n).path what ≡ alias_type others told n (at others n).path what
    moved all others done told p q = rw (p, q) refl

pub number_later : (w x : Walk) (n : ℕ) → Goes w x → n < length (text_in w) → n < length (text_in x)
number_later w x n g lt = rw g.text lt

pub stepped_by : (w x y z : Walk) (n : ℕ) (last item : Option ℕ) (told : NumberedStanding) (states more : List (Vec StateEntry Global)) (kept : Vec StateEntry Global) (what : What) → what ≡ (at (text_in w) n).what → n < length (text_in w) → IsWalked w states n
    → Adds w x (record { limit = n; number = n; own = None }) (type_uses n what) (type_bounds n what) (alias_type (text_in w) (done_in w) n (at (text_in w) n).path what) item → IsTold x y n what told → AreStatesThere x y n what kept.items → text_in z ≡ text_in y → z.types ≡ y.types
    → z.faults ≡ y.faults → z.told.items ≡ y.told.items ++ told ∷ [] → more ≡ states ++ kept ∷ [] → HasStepped w x y z n last item told states more kept
stepped_by w x y z n last item told states more kept what is lt before typed is_told has_states text types faults pushed stored =
    record {
      within_text = lt;
      before = before;
      typed = rw is at typed;
      is_told = rw is at is_told;
      has_states = rw is at has_states;
      text = text;
      types = types;
      faults = faults;
      pushed = pushed;
      stored = stored;
    }

-- ---- the type of a typedef

abbrev front_of : ℕ → Spot
front_of n = record { limit = n; number = n; own = None }

pub alias_first : (a b : Walk) (n : ℕ) (what : What) (k : ℕ) (spec : TypeSpec) (dimensions : List Expression) (number : Option ℕ) → what ≡ IsAlias k spec dimensions → k ≡ 0 → Adds a b (front_of n) (in_spec n spec) (spec_bounds n spec) (spec_by (names_in a (front_of n)) spec) number
    → Adds a b (front_of n) (type_uses n what) (type_bounds n what) (alias_type (text_in a) (done_in a) n (at (text_in a) n).path what) number
alias_first a b n what (suc k) spec dimensions number is none x = absurd (omega (arith, none))
alias_first a b n what zero spec dimensions number is none x =
    let limit : n ≡ n - 0 = omega arith in
    rw is
    (record {
      goes = x.goes;
      noted = x.noted;
      there = x.there;
      is = x.is ∙ ap (λ (k : ℕ). spec_by (sight (text_in a) (done_in a) k (at (text_in a) n).path) spec) limit;
    })

pub alias_next : (a : Walk) (n : ℕ) (what : What) (k : ℕ) (spec : TypeSpec) (dimensions : List Expression) (last : Option ℕ) → what ≡ IsAlias k spec dimensions → 0 < k → IfSome last (λ m. m < length a.types)
    → ((before : ℕ) → before_of what ≡ suc before → entry_type a.types last ≡ alias_type (text_in a) (done_in a) n (at (text_in a) n).path what) → Adds a a (front_of n) (type_uses n what) (type_bounds n what) (alias_type (text_in a) (done_in a) n (at (text_in a) n).path what) last
alias_next a n what zero spec dimensions last is lt there h = absurd (omega (arith, lt))
alias_next a n what (suc before) spec dimensions last is lt there h =
    record {
      goes = goes_nowhere a;
      noted = rw is refl;
      there = there;
      is = h before (ap before_of is);
    }

-- ---- all headers

pub header_at : (all : List Declaration) (hs : List Header) (i : ℕ) (d : Header) → hs ≡ headers all → i < length hs → get_or hs i d ≡ header all i
header_at all hs i d e lt =
    let sized : length hs ≡ length all = ap (λ l. length l) e ∙ length-map-range_with_len (header all) 0 (length all) in
    ap (λ l. get_or l i d) e ∙ get_or-map-range_with_len (header all) 0 (length all) i i d (omega (arith, sized, lt)) (omega arith)

pub as_many : (all : List Declaration) (hs : List Header) → hs ≡ headers all → length hs ≡ length all
as_many all hs e = ap (λ l. length l) e ∙ length-map-range_with_len (header all) 0 (length all)

-- none in front
pub none_last : (w : Walk) → IsLast w 0 None
none_last w = record { there = tt; is = λ n e. absurd (omega (arith, e)) }

pub walked_end : (w : Walk) (states : List (Vec StateEntry Global)) (i : ℕ) (all : List Declaration) → i ≡ length all → IsWalked w states i → IsWalked w states (length all)
walked_end w states i all e x = rw e at x
