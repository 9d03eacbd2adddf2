-- Octets are a body or none, and it may come or not; so bodies are right, or one of them is the first that is wrong.
use Rattle.std.proofs.Common.{ℕ, zero, suc, ◌≡◌, ◌⊎◌, inl, inr, ⊎_elim, ◌+◌, ◌<◌, ◌≤◌, List, [], ◌∷◌, ◌++◌, length, take, drop, Option, None, Some, IfSome, IsSome, refl, sym, ap, ◌∙◌, subst, arith, append-nil, length-drop, length-take}
use Rattle.std.proofs.Math.Seq.{take-add, take-length}
use Rattle.std.proofs.lemmas.Bool.{cases_eq, cases_lt, false≢true}
use Rattle.std.proofs.lemmas.List.{drop-drop, drop_all, take-append-drop}
use Rattle.std.proofs.lemmas.Nat.{be_bytes_4, be_bytes_8}
use Rattle.std.specs.FinMap.{get}
use Rattle.std.specs.Int.{from_be_bytes, to_be_bytes, w32, w64}
use Rattle.std.specs.List.{AllByRecursion, flat_map}
use Rattle.pss_base.specs.declared.put.Put.{Put}
use Rattle.type_layout.specs.declared.schema.Schema.{Schema}
use Rattle.type_layout.specs.Sound.{IsSoundSchema}
use Rattle.pss_catalog.specs.Catalog.{Catalog, IsUnique, Object, total}
use Rattle.pss_catalog.specs.Changes.{Change as Step, over}
use Rattle.redo_journal.specs.Journal.{journal_start}
use Rattle.redo_journal.specs.Laws.{AreOctets}
use Rattle.page_format.specs.Objects.{octets_left}
use Rattle.storage_home.specs.Applied.{IsState}
use Rattle.pss_recovery.specs.Bodies.{Spells, change_head, change_octets}
use Rattle.pss_recovery.specs.Loading.{RefersBelow, most_octets}
use Rattle.pss_recovery.specs.Replaying.{AreMade, AreReplayed, IsChangeDamage, IsChanged, IsMade, IsRight, Rise, gate_behind}
use Rattle.pss_recovery.specs.declared.body.Body.{Body}
use Rattle.pss_recovery.specs.declared.head.ChangeHead.{ChangeHead}
use Rattle.pss_recovery.specs.inner.Changes.{AreChanges, AreNumbers, AreSoFar, Begins, BeginsNone, change_in}
use Rattle.pss_recovery.proofs.Rows.{one_object}
use Rattle.pss_recovery.proofs.BodyParts.{count_of, one_body, parts}
use Rattle.pss_recovery.proofs.ChangeHeads.{none_in_few, none_where_short}
use Rattle.pss_recovery.proofs.ChangeLists.{never_these, nothing_left, one_more}
use Rattle.page_format.proofs.Decisions.{IsDecided, less_decided, most_decided}
use Rattle.pss_recovery.proofs.FoundKeys.{unique_decided}
use Rattle.pss_recovery.proofs.FoundRecords.{refers_decided, state_found}
use Rattle.pss_recovery.proofs.FoundRows.{all_at, at_place}
use Rattle.pss_recovery.proofs.Joins.{stays_of}
use Rattle.pss_recovery.proofs.Replays.{replayed_more}
use Rattle.pss_recovery.proofs.SmallOctets.{number_of_4, number_of_8, small_front, small_left, small_rest, small_right}

-- ---- the octets of a body

-- the head that octets begin with
abbrev head_in : List ℕ → ChangeHead
head_in octets = record { home = from_be_bytes w32 (take 4 octets); serial = from_be_bytes w64 (take 8 (drop 4 octets)); len = from_be_bytes w32 (take 4 (drop 12 octets)) }

module _ (octets : List ℕ) (small : AreOctets octets) (long : 16 ≤ length octets) where
  small4 : AreOctets (take 4 octets)
  small4 = small_front 4 octets small

  small8 : AreOctets (take 8 (drop 4 octets))
  small8 = small_front 8 (drop 4 octets) (small_rest 4 octets small)

  small12 : AreOctets (take 4 (drop 12 octets))
  small12 = small_front 4 (drop 12 octets) (small_rest 12 octets small)

  head_spelled : take 16 octets ≡ change_head (head_in octets).home (head_in octets).serial (head_in octets).len
  unfolding change_head
  head_spelled =
      let home = be_bytes_4 (take 4 octets) (head_in octets).home (omega (arith, length-take 4 octets, long)) small4 refl in
      let serial = be_bytes_8 (take 8 (drop 4 octets)) (head_in octets).serial (omega (arith, length-take 8 (drop 4 octets), length-drop 4 octets, long)) small8 refl in
      let len = be_bytes_4 (take 4 (drop 12 octets)) (head_in octets).len (omega (arith, length-take 4 (drop 12 octets), length-drop 12 octets, long)) small12 refl in
      take-add 4 12 octets ∙ ap (λ l. take 4 octets ++ l) (take-add 8 4 (drop 4 octets) ∙ ap (λ l. take 8 (drop 4 octets) ++ take 4 l) (drop-drop 8 4 octets))
      ∙ sym (λ i. home i ++ (serial i ++ len i))

  numbers : AreNumbers (head_in octets)
  numbers = record { home = number_of_4 (take 4 octets) small4; serial = number_of_8 (take 8 (drop 4 octets)) small8; len = number_of_4 (take 4 (drop 12 octets)) small12 }

head_found : (octets : List ℕ) → AreOctets octets → ((head : ChangeHead) × Begins head octets) ⊎ BeginsNone octets
head_found octets small = ⊎_elim (λ few. inr (none_in_few octets few)) long (cases_lt (length octets) 16)
  where
    long : 16 ≤ length octets → ((head : ChangeHead) × Begins head octets) ⊎ BeginsNone octets
    long more =
        let head = head_in octets in
        let n = numbers octets small more in
        let spelled = head_spelled octets small more in
        ⊎_elim (λ few. inr (none_where_short octets head.home head.serial head.len n.home n.serial n.len spelled few)) (λ within. inl (head, record { numbers = n; within = within; head_ = spelled })) (cases_lt (length octets) (16 + head.len))

module _ (octets : List ℕ) (count : ℕ) (small : AreOctets octets) where
  abbrev Never : Type 0
  Never = (others : List Put) → AreChanges octets count others → ⊥

  abbrev IsSoFar : ℕ → Type 0
  IsSoFar k = (puts : List Put) × (at : ℕ) × AreSoFar octets k puts at

  so_far_found : (k : ℕ) → k ≤ count → IsSoFar k ⊎ Never
  so_far_found zero le = inl ([], 0, record { within = omega arith; count = refl; each = tt; read = refl })
  so_far_found (suc k) le = ⊎_elim next_found (λ never. inr never) (so_far_found k (omega (arith, le)))
    where
      next_found : IsSoFar k → IsSoFar (suc k) ⊎ Never
      next_found found =
          let puts = found.0 in
          let at = found.1 in
          ⊎_elim
          (λ begins.
          let more = puts ++ change_in begins.0 (drop at octets) ∷ [] in
          inl (more, at + (16 + begins.0.len), subst (λ n. AreSoFar octets n more (at + (16 + begins.0.len))) (let e : k + 1 ≡ suc k = omega arith in e) (one_more octets k count puts at found.2 begins.0 begins.1 more refl)))
          (λ none. inr (λ others are. never_these octets k count puts at found.2 (omega (arith, le)) none others are)) (head_found (drop at octets) (small_rest at octets small))

  changes_found : ((puts : List Put) × AreChanges octets count puts) ⊎ Never
  changes_found = ⊎_elim whole (λ never. inr never) (so_far_found count (omega arith))
    where
      whole : IsSoFar count → ((puts : List Put) × AreChanges octets count puts) ⊎ Never
      whole found =
          let puts = found.0 in
          let at = found.1 in
          let so_far = found.2 in
          ⊎_elim
          (λ end. inl (puts, record { count_ = so_far.count; each = so_far.each; spelled = sym so_far.read ∙ ap (λ l. flat_map change_octets puts ++ l) (drop_all at octets (omega (arith, end))) ∙ append-nil (flat_map change_octets puts) }))
          (λ left. inr (λ others are. left (nothing_left octets count count puts at so_far refl others are))) (cases_eq at (length octets))

abbrev IsBodyFound : List ℕ → Type 0
IsBodyFound octets = ((body : Body) × Spells octets body) ⊎ ((body : Body) → Spells octets body → ⊥)

body_found : (octets : List ℕ) → AreOctets octets → IsBodyFound octets
body_found octets small = ⊎_elim short long (cases_lt (length octets) 12)
  where
    short : length octets < 12 → IsBodyFound octets
    short few = inr (λ body s. let count = (parts octets body s).count_ in omega (arith, ap length count, length-take 4 (drop 8 octets), length-drop 8 octets, few))

    long : 12 ≤ length octets → IsBodyFound octets
    long more =
        let next = from_be_bytes w64 (take 8 octets) in
        let count = from_be_bytes w32 (take 4 (drop 8 octets)) in
        let small4 = small_front 4 (drop 8 octets) (small_rest 8 octets small) in
        let small8 = small_front 8 octets small in
        let next_ : to_be_bytes w64 next ≡ take 8 octets = be_bytes_8 (take 8 octets) next (omega (arith, length-take 8 octets, more)) small8 refl in
        let count_ : to_be_bytes w32 count ≡ take 4 (drop 8 octets) = be_bytes_4 (take 4 (drop 8 octets)) count (omega (arith, length-take 4 (drop 8 octets), length-drop 8 octets, more)) small4 refl in
        let bound = number_of_4 (take 4 (drop 8 octets)) small4 in
        ⊎_elim
        (λ found.
        let body : Body = record { next = next; puts = found.0 } in
        let is = found.1 in
        let front : octets ≡ take 8 octets ++ (take 4 (drop 8 octets) ++ drop 12 octets) = sym (take-append-drop 8 octets) ∙ ap (λ l. take 8 octets ++ l) (sym (take-append-drop 4 (drop 8 octets)) ∙ ap (λ l. take 4 (drop 8 octets) ++ l) (drop-drop 4 8 octets)) in
        inl (
          body,
          record {
            next = number_of_8 (take 8 octets) small8;
            count = omega (arith, is.count_, bound);
            each = is.each;
            spelled = front ∙ sym (λ i. next_ i ++ ((ap (to_be_bytes w32) is.count_ ∙ count_) i ++ (sym is.spelled) i));
          },
        ))
        (λ never. inr (λ body s. never body.puts (record { count_ = count_of octets body count bound count_ s; each = s.each; spelled = (parts octets body s).rest_ }))) (changes_found (drop 12 octets) count (small_rest 12 octets small))

-- the records in the octets of a body have small octets
abbrev HasSmall : Put → Type 0
HasSmall put = IfSome put.bytes AreOctets

puts_small : (puts : List Put) → AreOctets (flat_map change_octets puts) → AllByRecursion HasSmall puts
puts_small [] small = tt
puts_small (put ∷ puts) small = (one put.bytes (small_right (change_head put.home put.serial (length (octets_left put.bytes))) (octets_left put.bytes) (small_left (change_octets put) (flat_map change_octets puts) small)), puts_small puts (small_right (change_octets put) (flat_map change_octets puts) small))
  where
    one : (bytes : Option (List ℕ)) → AreOctets (octets_left bytes) → IfSome bytes AreOctets
    one None small = tt
    one (Some octets) small = small

body_small : (octets : List ℕ) (body : Body) → AreOctets octets → Spells octets body → AllByRecursion HasSmall body.puts
body_small octets body small s = puts_small body.puts (subst AreOctets (parts octets body s).rest_ (small_rest 12 octets small))

-- ---- its changes

rise_decided : (last next : ℕ) (puts : List Put) → IsDecided (Rise last next puts)
rise_decided last next [] = inl tt
rise_decided last next (put ∷ puts) = by (less_decided last put.serial) (less_decided put.serial next) (rise_decided put.serial next puts)
  where
    by : IsDecided (last < put.serial) → IsDecided (put.serial < next) → IsDecided (Rise put.serial next puts) → IsDecided (Rise last next (put ∷ puts))
    by (inr never) within rest = inr (λ r. never r.0)
    by (inl above) (inr never) rest = inr (λ r. never r.1)
    by (inl above) (inl within) (inr never) = inr (λ r. never r.2)
    by (inl above) (inl within) (inl rest) = inl (above, within, rest)

module _ (S : Schema) (sound : IsSoundSchema S) (M : Catalog) (next : ℕ) where
  abbrev IsMadeFound : Put → Type 0
  IsMadeFound put = ((step : Step) × IsMade S M next put step) ⊎ ((step : Step) → IsMade S M next put step → ⊥)

  -- the object that is there has this home
  abbrev IsHome : ℕ → ℕ → Type 0
  IsHome home serial = IfSome (get M serial) (λ object. object.home.0 ≡ home)

  home_decided : (home serial : ℕ) → IsDecided (IsHome home serial)
  home_decided home serial = by (get M serial)
    where
      by : (o : Option Object) → IsDecided (IfSome o (λ object. object.home.0 ≡ home))
      by None = inl tt
      by (Some object) = cases_eq object.home.0 home

  there_decided : (serial : ℕ) → IsDecided (IsSome (get M serial))
  there_decided serial = by (get M serial)
    where
      by : (o : Option Object) → IsDecided (IsSome o)
      by None = inr (λ some. false≢true some)
      by (Some object) = inl refl

  module _ (home serial : ℕ) where
    abbrev removal : Put
    removal = record { home = home; serial = serial; bytes = None }

    removed_found : IsDecided (IsHome home serial) → IsDecided (IsSome (get M serial)) → IsMadeFound removal
    removed_found (inr never) there = inr (λ step made. never made.home)
    removed_found (inl is) (inr never) = inr (λ step made. never (made.there refl))
    removed_found (inl is) (inl there) = inl (record { serial = serial; state = None }, record { step_ = (refl, tt); home = is; there = λ _. there; short = tt; refers = tt })

    module _ (octets : List ℕ) where
      abbrev storing : Put
      storing = record { home = home; serial = serial; bytes = Some octets }

      object_in : (state : Option Object) → IsState S home (Some octets) state → (object : Object) × (state ≡ Some object) × IsState S home (Some octets) (Some object)
      object_in None is = absurd is
      object_in (Some object) is = (object, refl, is)

      object_of : (step : Step) → IsMade S M next storing step → (object : Object) × IsState S home (Some octets) (Some object) × RefersBelow next object
      object_of step made =
          let o = object_in step.state made.step_.1 in
          (o.0, o.2, subst (λ (s : Option Object). IfSome s (RefersBelow next)) o.1 made.refers)

      stored_found : (object : Object) → IsState S home (Some octets) (Some object) → IsDecided (IsHome home serial) → IsDecided (length octets ≤ 8000) → IsDecided (RefersBelow next object) → IsMadeFound storing
      stored_found object is (inr never) short refers = inr (λ step made. never made.home)
      stored_found object is (inl same) (inr never) refers = inr (λ step made. never made.short)
      stored_found object is (inl same) (inl short) (inr never) = inr (λ step made. let o = object_of step made in never (subst (RefersBelow next) (one_object S storing o.0 object o.1 is) o.2))
      stored_found object is (inl same) (inl short) (inl refers) = inl (
        record { serial = serial; state = Some object },
        record {
          step_ = (refl, is);
          home = same;
          there = λ none. absurd (let never : Some octets ≡ None = none in cc);
          short = short;
          refers = refers;
        },
      )

  made_found : (home serial : ℕ) (bytes : Option (List ℕ)) → IfSome bytes AreOctets → IsMadeFound (record { home = home; serial = serial; bytes = bytes })
  made_found home serial None small = removed_found home serial (home_decided home serial) (there_decided serial)
  made_found home serial (Some octets) small =
      ⊎_elim (λ found. stored_found home serial octets found.0 found.1 (home_decided home serial) (most_decided (length octets) 8000) (refers_decided next found.0))
      (λ never. inr (λ step made. let o = object_of home serial octets step made in never o.0 o.1)) (state_found S sound home octets small)

  abbrev AreMadeFound : List Put → Type 0
  AreMadeFound puts = ((steps : List Step) × AreMade S M next puts steps) ⊎ ((steps : List Step) → AreMade S M next puts steps → ⊥)

  none_here : (put : Put) (puts : List Put) → ((step : Step) → IsMade S M next put step → ⊥) → (steps : List Step) → AreMade S M next (put ∷ puts) steps → ⊥
  none_here put puts never [] made = made
  none_here put puts never (step ∷ steps) made = never step made.0

  none_behind : (put : Put) (puts : List Put) → ((steps : List Step) → AreMade S M next puts steps → ⊥) → (steps : List Step) → AreMade S M next (put ∷ puts) steps → ⊥
  none_behind put puts never [] made = made
  none_behind put puts never (step ∷ steps) made = never steps made.1

  all_made : (puts : List Put) → AllByRecursion HasSmall puts → AreMadeFound puts
  all_made [] small = inl ([], tt)
  all_made (put ∷ puts) small =
      ⊎_elim (λ one. ⊎_elim (λ rest. inl (one.0 ∷ rest.0, (one.1, rest.1))) (λ never. inr (none_behind put puts never)) (all_made puts small.1)) (λ never. inr (none_here put puts never))
      (made_found put.home put.serial put.bytes small.0)

-- ---- one body

module _ (S : Schema) (sound : IsSoundSchema S) where
  module _ (M : Catalog) (next : ℕ) (body : Body) where
    abbrev IsChangedFound : Type 0
    IsChangedFound = ((N : Catalog) × IsChanged S M next body N) ⊎ ((N : Catalog) → IsChanged S M next body N → ⊥)

    within_found : (steps : List Step) → AreMade S M body.next body.puts steps → 1 ≤ length body.puts → length body.puts ≤ 256 → next ≤ body.next → Rise 0 body.next body.puts → IsDecided (IsUnique S (over M steps)) → IsDecided (total S (over M steps) ≤ most_octets) → IsChangedFound
    within_found steps made some few later rise (inr never) bounded = inr (λ N changed. never (stays_of S M next body N steps made changed).unique)
    within_found steps made some few later rise (inl unique) (inr never) = inr (λ N changed. never (stays_of S M next body N steps made changed).bounded)
    within_found steps made some few later rise (inl unique) (inl bounded) = inl (over M steps, record { some = some; few = few; later = later; rise = rise; steps = steps; made = made; result = refl; unique = unique; bounded = bounded })

    steps_found : IsDecided (1 ≤ length body.puts) → IsDecided (length body.puts ≤ 256) → IsDecided (next ≤ body.next) → IsDecided (Rise 0 body.next body.puts) → AreMadeFound S sound M body.next body.puts → IsChangedFound
    steps_found (inr never) few later rise made = inr (λ N changed. never changed.some)
    steps_found (inl some) (inr never) later rise made = inr (λ N changed. never changed.few)
    steps_found (inl some) (inl few) (inr never) rise made = inr (λ N changed. never changed.later)
    steps_found (inl some) (inl few) (inl later) (inr never) made = inr (λ N changed. never changed.rise)
    steps_found (inl some) (inl few) (inl later) (inl rise) (inr never) = inr (λ N changed. never changed.steps changed.made)
    steps_found (inl some) (inl few) (inl later) (inl rise) (inl made) = within_found made.0 made.1 some few later rise (unique_decided S (over M made.0)) (most_decided (total S (over M made.0)) most_octets)

    changed_found : AllByRecursion HasSmall body.puts → IsChangedFound
    changed_found small = steps_found (most_decided 1 (length body.puts)) (most_decided (length body.puts) 256) (most_decided next body.next) (rise_decided 0 body.next body.puts) (all_made S sound M body.next body.puts small)

  abbrev IsRightFound : Catalog → ℕ → List ℕ → Type 0
  IsRightFound M next octets = ((N : Catalog) × (last : ℕ) × IsRight S M next octets N last) ⊎ ((N : Catalog) (last : ℕ) → IsRight S M next octets N last → ⊥)

  right_found : (M : Catalog) (next : ℕ) (octets : List ℕ) → AreOctets octets → IsRightFound M next octets
  right_found M next octets small = ⊎_elim some (λ never. inr (λ N last right. never right.body right.spells)) (body_found octets small)
    where
      some : ((body : Body) × Spells octets body) → IsRightFound M next octets
      some found =
          ⊎_elim (λ changed. inl (changed.0, found.0.next, record { body = found.0; spells = found.1; last_ = refl; changed = changed.1 }))
          (λ never. inr (λ N last right. never N (subst (λ (b : Body). IsChanged S M next b N) (one_body octets right.body found.0 right.spells found.1) right.changed)))
          (changed_found M next found.0 (body_small octets found.0 small found.1))

  -- ---- all of them

  module _ (M : Catalog) (next : ℕ) (bodies : List (List ℕ)) (all : AllByRecursion AreOctets bodies) where
    abbrev IsReplayedSome : List (List ℕ) → Type 0
    IsReplayedSome front = (N : Catalog) × (number : ℕ) × AreReplayed S M next front N number

    abbrev IsDamagedSome : Type 0
    IsDamagedSome = (at : ℕ) × IsChangeDamage S M next bodies at

    first_found : (n : ℕ) → n ≤ length bodies → IsReplayedSome (take n bodies) ⊎ IsDamagedSome
    first_found zero le = inl (M, next, (refl, refl))
    first_found (suc n) le = ⊎_elim next_found (λ damaged. inr damaged) (first_found n (omega (arith, le)))
      where
        next_found : IsReplayedSome (take n bodies) → IsReplayedSome (take (suc n) bodies) ⊎ IsDamagedSome
        next_found so_far =
            let here = at_place bodies n (omega (arith, le)) in
            ⊎_elim
            (λ right. inl (right.0, right.1, subst (λ (l : List (List ℕ)). AreReplayed S M next l right.0 right.1) (sym here.up_to) (replayed_more S M next (take n bodies) so_far.0 so_far.1 here.it right.0 right.1 so_far.2 right.2)))
            (λ wrong. inr (gate_behind journal_start (take n bodies), record { index = n; octets = here.it; there = here.there; before = so_far.0; number = so_far.1; replayed = so_far.2; place = refl; wrong = wrong }))
            (right_found so_far.0 so_far.1 here.it (all_at AreOctets bodies n here.it all here.there))

    pub bodies_found : IsReplayedSome bodies ⊎ IsDamagedSome
    bodies_found = ⊎_elim (λ done. inl (done.0, done.1, subst (λ (l : List (List ℕ)). AreReplayed S M next l done.0 done.1) (take-length bodies) done.2)) (λ damaged. inr damaged) (first_found (length bodies) (omega arith))
