-- What changes leave of objects, while they are settled by rising serial.
use Rattle.std.proofs.Common.{ℕ, suc, ◌≡◌, ◌==◌, ◌+◌, ◌<◌, ◌≤◌, ◌&&◌, All, Bool, true, false, cond, T, List, [], ◌∷◌, length, ◌++◌, map, Some, None, IfSome, refl, sym, ap, ◌∙◌, subst, arith}
use Rattle.std.proofs.lemmas.Bool.{true≢false}
use Rattle.std.proofs.lemmas.Bool.Decides.{nat_tests}
use Rattle.std.specs.Cmp.{nat_cmp_total}
use Rattle.std.specs.FinMap as finite
use Rattle.std.specs.FinMap.Entries.{below_all, find, is_sorted, same_entries}
use Rattle.std.specs.Ordering.{is_lt, nat_cmp}
use Rattle.std.specs.declared.option.Option.{Option}
use Rattle.pss_base.specs.declared.put.Put.{Put}
use Rattle.page_format.specs.Objects.{HasRecord, IsRightPut, entries_left, entries_of, entry_left, left_by, over, stored_of}
use Rattle.page_format.specs.Pages.{Entry}
use Rattle.page_format.specs.Written.{AreStorable, IsStorable}
use Rattle.page_format.specs.declared.objects.Stored.{Stored}
use Rattle.page_format.specs.declared.settling.Settling.{Settling}
use Rattle.page_format.specs.inner.Settling.{AreAbove, AreBefore, AreBelow, AreOthersSettled, AreRising, AreSettled, IsSettling, object_at}
use Rattle.page_format.proofs.Leaving.{get-more, tie}

below_more : (s t : ℕ) (es : List Entry) → s ≤ t → AreBelow s es → AreBelow t es
below_more s t [] le are = tt
below_more s t (e ∷ es) le are = (omega (arith, are.0, le), below_more s t es le are.1)

below_one : (s : ℕ) (es : List Entry) (e : Entry) → AreBelow s es → e.serial < s → AreBelow s (es ++ e ∷ [])
below_one s [] e are is = (is, tt)
below_one s (x ∷ es) e are is = (are.0, below_one s es e are.1 is)

above_one : (s : ℕ) (es : List Entry) (e : Entry) → AreAbove s es → s < e.serial → AreAbove s (es ++ e ∷ [])
above_one s [] e are is = (is, tt)
above_one s (x ∷ es) e are is = (are.0, above_one s es e are.1 is)

rising_one : (es : List Entry) (e : Entry) → AreRising es → AreBelow e.serial es → AreRising (es ++ e ∷ [])
rising_one [] e are below = (tt, tt)
rising_one (x ∷ es) e are below = (above_one x.serial es e are.0 below.0, rising_one es e are.1 below.1)

-- one more object behind those below it
same_false : (a b : ℕ) → a < b → (b == a) ≡ false
same_false a b lt = grind (arith, nat_tests)

not_both : (q a b : ℕ) → a < b → (q == a) ≡ true → (q == b) ≡ false
not_both q a b lt is = grind (arith, nat_tests)

object_more : (q : ℕ) (es : List Entry) (e : Entry) → AreBelow e.serial es → object_at q (es ++ e ∷ []) ≡ cond (q == e.serial) (Some (stored_of e).1) (object_at q es)
object_more q [] e below = refl
object_more q (x ∷ es) e below = by (q == x.serial) refl (q == e.serial) refl (object_more q es e below.1)
  where
    by : (b : Bool) → (q == x.serial) ≡ b → (c : Bool) → (q == e.serial) ≡ c → object_at q (es ++ e ∷ []) ≡ cond (q == e.serial) (Some (stored_of e).1) (object_at q es)
        → cond b (Some (stored_of x).1) (object_at q (es ++ e ∷ [])) ≡ cond c (Some (stored_of e).1) (cond b (Some (stored_of x).1) (object_at q es))
    by true is true also ih = absurd (true≢false (sym also ∙ not_both q x.serial e.serial below.0 is))
    by true is false other ih = refl
    by false apart true is ih = ih ∙ ap (λ c. cond c (Some (stored_of e).1) (object_at q es)) is
    by false apart false other ih = ih ∙ ap (λ c. cond c (Some (stored_of e).1) (object_at q es)) other

-- changes that were settled, with one more
storable-append : (puts : List Put) (put : Put) → AreStorable (entries_left puts) → IsStorable (entry_left put) → AreStorable (entries_left (puts ++ put ∷ []))
storable-append [] put are is = (is, tt)
storable-append (x ∷ puts) put are is = (are.0, storable-append puts put are.1 is)

left-append : (puts : List Put) (put : Put) → entries_left (puts ++ put ∷ []) ≡ entries_left puts ++ entry_left put ∷ []
left-append [] put = refl
left-append (x ∷ puts) put = ap (λ l. entry_left x ∷ l) (left-append puts put)

before_one : (settled : List Put) (put : Put) (serial next : ℕ) → AreBefore settled serial → serial ≤ put.serial → put.serial < next → IsStorable (entry_left put) → AreBefore (settled ++ put ∷ []) next
before_one settled put serial next are le lt storable =
    let es = entries_left settled in
    let e = entry_left put in
    let below = below_more serial e.serial es le are.below in
    record {
      storable = storable-append settled put are.storable storable;
      rising = subst AreRising (sym (left-append settled put)) (rising_one es e are.rising below);
      below = subst (AreBelow next) (sym (left-append settled put)) (below_one next es e (below_more e.serial next es (omega (arith, lt)) below) lt);
    }

before_later : (settled : List Put) (s next : ℕ) → AreBefore settled s → s ≤ next → AreBefore settled next
before_later settled s next are le = record { storable = are.storable; rising = are.rising; below = below_more s next (entries_left settled) le are.below }

object_one : (q : ℕ) (settled : List Put) (put : Put) → AreBelow put.serial (entries_left settled) → object_at q (entries_left (settled ++ put ∷ [])) ≡ cond (q == put.serial) (Some (stored_of (entry_left put)).1) (object_at q (entries_left settled))
object_one q settled put below = ap (object_at q) (left-append settled put) ∙ object_more q (entries_left settled) (entry_left put) below

pub settling_nothing : (s : Settling) → s.serial ≡ 0 → s.left ≡ None → s.settled ≡ [] → IsSettling [] s
settling_nothing s first none empty = record {
  before = subst (λ (l : List Put). AreBefore l s.serial) (sym empty) (record { storable = tt; rising = tt; below = tt });
  all = λ q. finite.get-empty nat_cmp q ∙ by (q == s.serial) ∙ ap (λ (o : Option Stored). cond (q == s.serial) o None) (sym none) ∙ ap (λ (l : List Put). cond (q == s.serial) s.left (object_at q (entries_left l))) (sym empty);
  right = subst (λ (o : Option Stored). IfSome o (λ left. HasRecord left.octets)) (sym none) tt;
}
  where
    by : (b : Bool) → ◌≡◌ {A = Option Stored} None (cond b None None)
    by true = refl
    by false = refl

-- what is left of the object that comes next is settled
pub settled_left : (puts : List Put) (s : Settling) (stored : Stored) (put : Put) (new : List Put) (next : ℕ) → s.left ≡ Some stored → put ≡ record { home = stored.home; serial = s.serial; bytes = Some stored.octets } → IsStorable (entry_left put) → s.serial < next → IsSettling puts s
    → new ≡ s.settled ++ put ∷ [] → AreSettled puts next new
settled_left puts s stored put new next is put_ storable lt so_far new_ =
    let p : Put = record { home = stored.home; serial = s.serial; bytes = Some stored.octets } in
    subst (AreSettled puts next) (sym (new_ ∙ ap (λ (x : Put). s.settled ++ x ∷ []) put_)) (record {
      before = before_one s.settled p s.serial next so_far.before (omega arith) lt (subst (λ (x : Put). IsStorable (entry_left x)) put_ storable);
      all = λ q. so_far.all q ∙ ap (λ (o : Option Stored). cond (q == s.serial) o (object_at q (entries_left s.settled))) is ∙ sym (object_one q s.settled p so_far.before.below);
    })

-- nothing is left of it
no_object : (s : ℕ) (es : List Entry) → AreBelow s es → object_at s es ≡ None
no_object s [] below = refl
no_object s (e ∷ es) below = ap (λ b. cond b (Some (stored_of e).1) (object_at s es)) (same_false e.serial s below.0) ∙ no_object s es below.1

pub settled_gone : (puts : List Put) (s : Settling) (next : ℕ) → s.left ≡ None → s.serial < next → IsSettling puts s → AreSettled puts next s.settled
settled_gone puts s next none lt so_far = record {
  before = before_later s.settled s.serial next so_far.before (omega (arith, lt));
  all = λ q. so_far.all q ∙ ap (λ (o : Option Stored). cond (q == s.serial) o (object_at q (entries_left s.settled))) none ∙ by q (q == s.serial) refl;
}
  where
    alike : (q : ℕ) → (q == s.serial) ≡ true → None ≡ object_at q (entries_left s.settled)
    alike q is = sym (no_object s.serial (entries_left s.settled) so_far.before.below) ∙ ap (λ (k : ℕ). object_at k (entries_left s.settled)) (equal q s.serial is)
      where
        equal : (a b : ℕ) → (a == b) ≡ true → b ≡ a
        equal a b e = grind (arith, nat_tests)

    by : (q : ℕ) (b : Bool) → (q == s.serial) ≡ b → cond b None (object_at q (entries_left s.settled)) ≡ object_at q (entries_left s.settled)
    by q true is = alike q is
    by q false other = refl

-- another object comes next
pub others_after : (puts : List Put) (serial : ℕ) (settled : List Put) → AreSettled puts serial settled → AreOthersSettled puts serial settled
others_after puts serial settled are = record { before = are.before; others = λ q other. are.all q }

-- a change was taken
right_left : (home : ℕ) (bytes : Option (List ℕ)) → IfSome bytes HasRecord → IfSome (left_by home bytes) (λ left. HasRecord left.octets)
right_left home None is = tt
right_left home (Some octets) is = is

pub settling_more : (puts : List Put) (put : Put) (new : Settling) → new.serial ≡ put.serial → new.left ≡ left_by put.home put.bytes → IsRightPut put → AreOthersSettled puts put.serial new.settled → IsSettling (puts ++ put ∷ []) new
settling_more puts put new same left right are = record {
  before = before_later new.settled put.serial new.serial are.before (omega (arith, same));
  all = λ q.
      get-more puts put q ∙ by q (q == put.serial) refl ∙ ap (λ (n : ℕ). cond (q == n) (left_by put.home put.bytes) (object_at q (entries_left new.settled))) (sym same) ∙ ap (λ (o : Option Stored). cond (q == new.serial) o (object_at q (entries_left new.settled))) (sym left);
  right = subst (λ (o : Option Stored). IfSome o (λ left. HasRecord left.octets)) (sym left) (right_left put.home put.bytes right);
}
  where
    by : (q : ℕ) (b : Bool) → (q == put.serial) ≡ b → cond b (left_by put.home put.bytes) (finite.get (over finite.empty puts) q) ≡ cond b (left_by put.home put.bytes) (object_at q (entries_left new.settled))
    by q true is = refl
    by q false other = are.others q other

-- changes that are settled as they stand, with one more
pub settled_none : (serial : ℕ) → AreSettled [] serial []
settled_none serial = record { before = record { storable = tt; rising = tt; below = tt }; all = λ q. finite.get-empty nat_cmp q }

pub settled_one : (puts : List Put) (put : Put) (serial : ℕ) → put.bytes ≡ Some (entry_left put).octets → serial < put.serial → IsStorable (entry_left put) → AreSettled puts (serial + 1) puts → AreSettled (puts ++ put ∷ []) (put.serial + 1) (puts ++ put ∷ [])
settled_one puts put serial some lt storable are = record {
  before = before_one puts put (serial + 1) (put.serial + 1) are.before (omega (arith, lt)) (omega arith) storable;
  all = λ q.
      get-more puts put q ∙ ap (λ (o : Option (List ℕ)). cond (q == put.serial) (left_by put.home o) (finite.get (over finite.empty puts) q)) some ∙ ap (cond (q == put.serial) (Some (stored_of (entry_left put)).1)) (are.all q)
      ∙ sym (object_one q puts put (below_more (serial + 1) put.serial (entries_left puts) (omega (arith, lt)) are.before.below));
}

-- the objects that changes leave are those that were settled
both : (a b : Bool) → T a → T b → T (a && b)
both true b p q = q
both false b p q = p

less : (a b : ℕ) → a < b → T (is_lt (nat_cmp a b))
less a b lt = subst T (sym (is a b lt)) tt
  where
    is : (a b : ℕ) → a < b → is_lt (nat_cmp a b) ≡ true
    is a b lt = grind (arith, nat_tests)

below_all_of : (s : ℕ) (es : List Entry) → AreAbove s es → T (below_all nat_cmp s (map stored_of es))
below_all_of s [] are = tt
below_all_of s (e ∷ es) are = both (is_lt (nat_cmp s e.serial)) (below_all nat_cmp s (map stored_of es)) (less s e.serial are.0) (below_all_of s es are.1)

sorted_of : (es : List Entry) → AreRising es → T (is_sorted nat_cmp (map stored_of es))
sorted_of [] are = tt
sorted_of (e ∷ es) are = both (below_all nat_cmp e.serial (map stored_of es)) (is_sorted nat_cmp (map stored_of es)) (below_all_of e.serial es are.0) (sorted_of es are.1)

found_alike : (q : ℕ) (es : List Entry) → find nat_cmp q (map stored_of es) ≡ object_at q es
found_alike q [] = refl
found_alike q (e ∷ es) = ap (λ b. cond b (Some (stored_of e).1) (find nat_cmp q (map stored_of es))) (tie q e.serial) ∙ ap (cond (q == e.serial) (Some (stored_of e).1)) (found_alike q es)

entries_stored : (es : List Entry) → entries_of (map stored_of es) ≡ es
entries_stored [] = refl
entries_stored (e ∷ es) = ap (λ l. e ∷ l) (entries_stored es)

pub objects_are : (puts : List Put) (serial : ℕ) (settled : List Put) → AreSettled puts serial settled → entries_left settled ≡ entries_of (finite.entries (over finite.empty puts))
objects_are puts serial settled are =
    let m = over finite.empty puts in
    let es = entries_left settled in
    sym (entries_stored es) ∙ ap entries_of
    (sym (same_entries nat_cmp nat_cmp_total finite.nat_cmp-IsAntisymmetric (finite.entries m) (map stored_of es) (finite.entries_sorted m) (sorted_of es are.before.rising) (λ q. sym (finite.get-entries m q) ∙ are.all q ∙ sym (found_alike q es))))

pub right_rest : (put : Put) (puts all : List Put) → all ≡ put ∷ puts → All IsRightPut all → IsRightPut put × All IsRightPut puts
right_rest put puts all e right =
    let h : All IsRightPut (put ∷ puts) = subst (All IsRightPut) e right in
    (h 0 put (omega arith), λ k d lt. h (suc k) d (omega (arith, lt)))

pub nothing_left : {X : Type 0} (xs : List X) → length xs ≡ 0 → xs ≡ []
nothing_left [] none = refl
nothing_left (x ∷ xs) none = absurd (omega (arith, none))
