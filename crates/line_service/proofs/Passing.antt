-- The moments that pass while a script is served.
use Rattle.std.proofs.Common.{◌≡◌, ◌⊎◌, ⊎_elim, inl, inr, ℕ, ◌≤◌, List, [], ◌∷◌, ◌++◌, length, take, map, slice_get, true, false, arith, None, Some, refl, sym, ◌∙◌, ap, subst}
use Rattle.std.specs.declared.option.Option.{Option}
use Rattle.std.specs.Io.KnownBytes.{append_known}
use Rattle.pss_base.specs.Causes.{HasCauseIf, Rose}
use Rattle.pss_base.specs.Lines.{line_of}
use Rattle.pss_base.specs.Reading.{Reading, TakesLine, IsOver}
use Rattle.pss_base.specs.declared.lines.LineStep.{LineStep}
use Rattle.pss_disk.specs.Moments.{Moment, Disk, Through}
use Rattle.pss_disk.proofs.Passing.{then_come, weaker}
use Rattle.line_service.specs.Turns.{TurnOf, after, said, IsWhole, SaidWhole}
use Rattle.line_service.specs.Runs.{Limits, Comes, SaidByLines, SaidSome, IsCut, Says}
use Rattle.line_service.specs.Spoken.{HasSpoken}
use Rattle.line_service.specs.declared.machine.Turn.{Turn}
use Rattle.line_service.specs.declared.machine.Turn.TheVariants as turns
use Rattle.line_service.specs.declared.serving.Ending.{Ending}
use Rattle.line_service.specs.declared.serving.Ending.TheVariants as ending
use Rattle.line_service.proofs.Progress.{Taken, taken_more, Served, served_more}
use Rattle.line_service.proofs.Exits.{behind, taken_are_first, at_limit, some_lines}

get_behind : {A : Type 0} (xs : List A) (y : A) (ys : List A) → slice_get (xs ++ y ∷ ys) (length xs) ≡ Some y
get_behind [] y ys = refl
get_behind (x ∷ xs) y ys = get_behind xs y ys

module _ {State : Type 0} (turn : TurnOf State) (passes : State → LineStep → Option (List ℕ) → Moment → Type 0) (rests : State → Option Disk → Type 0) (s : State) (limits : Limits) (before old : Option (List ℕ)) where
  -- a moment at which whole replies were spoken
  abbrev pub Whole : Moment → Type 0
  Whole m = Comes turn passes rests s limits before old m × SaidByLines turn s limits before old m.spoken

  -- the same, or the last reply is cut
  abbrev pub WholeOrCut : Ending → Option (List ℕ) → Moment → Type 0
  WholeOrCut result end m = Comes turn passes rests s limits before old m × (SaidByLines turn s limits before old m.spoken ⊎ IsCut result end m.spoken)

  -- no reply was cut
  pub all_whole : (result : Ending) (end : Option (List ℕ)) (a b : List Moment) → Through a b Whole → Through a b (WholeOrCut result end)
  all_whole result end a b so_far = weaker a b Whole (WholeOrCut result end) (λ m is. (is.0, inl is.1)) so_far

module _ {State : Type 0} (turn : TurnOf State) (passes : State → LineStep → Option (List ℕ) → Moment → Type 0) (rests : State → Option Disk → Type 0) (WasIn IsIn : State → Type 0) (limits : Limits) (r : Reading) (old mid : Option (List ℕ)) (s : State) (was : WasIn s) where
  -- a moment at which the next line is served
  at_line : (before rest rest' : Option (List ℕ)) (r' : Reading) (line : LineStep) (p : Taken limits before r rest) → Served turn WasIn IsIn p.raws old mid → TakesLine r r' rest rest' line
      → (m : Moment) → passes (after turn s (map line_of p.raws)) line mid m → Comes turn passes rests s limits before old m
  at_line None rest rest' r' line p q t m pass = tt
  at_line (Some xs) None rest' r' line p q t m pass = absurd p.taken
  at_line (Some xs) (Some ys) None r' line p q t m pass = absurd t.taken
  at_line (Some xs) (Some ys) (Some zs) r' line p q t m pass =
      let start = map line_of p.raws in
      let more = behind limits r r' xs ys zs line p t in
      let first = taken_are_first limits r xs ys p in
      let there : passes (after turn s start) line (append_known old (said turn s start)) m = subst (λ b. passes (after turn s start) line b m) (q.spoken s was) pass in
      inl (length start, line, ap (λ l. slice_get l (length start)) more.1 ∙ get_behind start line more.0, subst (λ l. passes (after turn s l) line (append_known old (said turn s l)) m) (sym first) there)

  by_some : (before here : Option (List ℕ)) → SaidSome turn s limits before old here → SaidByLines turn s limits before old here
  by_some None here some = tt
  by_some (Some xs) here some = inl some

  -- what is spoken where all of a reply is, or nothing
  by_line : (before rest rest' : Option (List ℕ)) (r' : Reading) (line : LineStep) (p : Taken limits before r rest) → Served turn WasIn IsIn p.raws old mid → TakesLine r r' rest rest' line
      → (here : Option (List ℕ)) → IsWhole (turn (after turn s (map line_of p.raws)) line).1 mid here → SaidByLines turn s limits before old here
  unfolding taken_more
  by_line before rest rest' r' line p q t here is = ⊎_elim
      (λ e. by_some before here (some_lines limits r turn WasIn IsIn old mid s was before rest here p q e))
      (λ e. by_some before here (some_lines limits r' turn Is (λ _. Unit {0}) old here s refl before rest' here (taken_more limits before r r' rest rest' line p t) (one_more e) refl))
      is
    where
      -- from this state alone
      Is : State → Type 0
      Is u = u ≡ s

      one_more : here ≡ append_known mid (turn (after turn s (map line_of p.raws)) line).1 → Served turn Is (λ _. Unit {0}) (p.raws ++ t.raw ∷ []) old here
      one_more e = served_more turn Is old (λ u. u ≡ after turn s (map line_of p.raws)) (λ _. Unit {0}) p.raws t.raw mid here line t.told
          (record { state = λ u is. ap (λ v. after turn v (map line_of p.raws)) is; spoken = λ u is. q.spoken s was ∙ ap (λ v. append_known old (said turn v (map line_of p.raws))) (sym is) })
          (λ u is. tt)
          (λ u is. e ∙ ap (λ v. append_known mid (turn v line).1) (sym is))

  module _ (before rest rest' : Option (List ℕ)) where
    abbrev Before : Moment → Type 0
    Before = Whole turn passes rests s limits before old

    abbrev After : Ending → Option (List ℕ) → Moment → Type 0
    After = WholeOrCut turn passes rests s limits before old

    abbrev OfLine : Turn → LineStep → State → Option (List ℕ) → Moment → Type 0
    OfLine result line here end m = passes here line mid m × SaidWhole result (turn here line).1 mid end m.spoken

    module _ (r' : Reading) (line : LineStep) (p : Taken limits before r rest) (q : Served turn WasIn IsIn p.raws old mid) (t : TakesLine r r' rest rest' line) (end : Option (List ℕ)) (a b c : List Moment) where
      -- speech did not fail
      pub whole_line : (result : Turn) → (result ≡ turns.SpeakFault → ⊥) → Through a b Before → Through b c (OfLine result line (after turn s (map line_of p.raws)) end) → Through a c Before
      whole_line result fine so_far came = then_come a b c Before so_far
          (weaker b c (OfLine result line (after turn s (map line_of p.raws)) end) Before
          (λ m is. (at_line before rest rest' r' line p q t m is.0, ⊎_elim (λ w. by_line before rest rest' r' line p q t m.spoken w) (λ cut. absurd (fine cut.0)) is.1)) came)

      -- speech failed
      pub cut_line : Through a b Before → Through b c (OfLine turns.SpeakFault line (after turn s (map line_of p.raws)) end) → Through a c (After ending.SpeakFault end)
      cut_line so_far came = then_come a b c (After ending.SpeakFault end) (weaker a b Before (After ending.SpeakFault end) (λ m is. (is.0, inl is.1)) so_far)
          (weaker b c (OfLine turns.SpeakFault line (after turn s (map line_of p.raws)) end) (After ending.SpeakFault end)
          (λ m is. (at_line before rest rest' r' line p q t m is.0, ⊎_elim (λ w. inl (by_line before rest rest' r' line p q t m.spoken w)) (λ cut. inr (refl, cut.1)) is.1)) came)

module _ {State : Type 0} (turn : TurnOf State) (passes : State → LineStep → Option (List ℕ) → Moment → Type 0) (rests : State → Option Disk → Type 0) (limits : Limits) (r : Reading) (old : Option (List ℕ)) (s : State) where
  -- a moment at which the limit is told
  at_the_limit : (before rest rest' : Option (List ℕ)) (p : Taken limits before r rest) → IsOver r rest rest' → (m : Moment) → rests (after turn s (map line_of p.raws)) m.disk → Comes turn passes rests s limits before old m
  at_the_limit None rest rest' p o m is = tt
  at_the_limit (Some xs) None rest' p o m is = absurd p.taken
  at_the_limit (Some xs) (Some ys) rest' p o m is =
      let all = at_limit limits r xs ys rest' p o in
      inr (all.1, subst (λ l. rests (after turn s l) m.disk) (sym all.0) is)

  module _ (before rest rest' : Option (List ℕ)) (p : Taken limits before r rest) (o : IsOver r rest rest') (end : Option (List ℕ)) (disk : Option Disk) (is : rests (after turn s (map line_of p.raws)) disk) (a b c : List Moment) where
    abbrev Earlier : Moment → Type 0
    Earlier = Whole turn passes rests s limits before old

    abbrev Later : Ending → Option (List ℕ) → Moment → Type 0
    Later = WholeOrCut turn passes rests s limits before old

    limit_moment : (m : Moment) → HasSpoken end disk m → Comes turn passes rests s limits before old m
    limit_moment m has = at_the_limit before rest rest' p o m (subst (rests (after turn s (map line_of p.raws))) (sym has.disk_is) is)

    -- the limit was told
    pub limit_whole : (result : Ending) → SaidByLines turn s limits before old end → Through a b Earlier → Through b c (HasSpoken end disk) → Through a c (Later result end)
    limit_whole result told so_far came = then_come a b c (Later result end) (all_whole turn passes rests s limits before old result end a b so_far)
        (weaker b c (HasSpoken end disk) (Later result end) (λ m has. (limit_moment m has, inl (subst (SaidByLines turn s limits before old) (sym has.spoken_is) told))) came)

    -- it was told in part
    pub limit_cut : Through a b Earlier → Through b c (HasSpoken end disk) → Through a c (Later ending.SpeakFault end)
    limit_cut so_far came = then_come a b c (Later ending.SpeakFault end) (all_whole turn passes rests s limits before old ending.SpeakFault end a b so_far)
        (weaker b c (HasSpoken end disk) (Later ending.SpeakFault end) (λ m has. (limit_moment m has, inr (refl, has.spoken_is))) came)

-- what is spoken behind the replies to all lines
pub by_limit : {State : Type 0} (turn : TurnOf State) (s : State) (limits : Limits) (before left old new : Option (List ℕ)) (IsIn : State → Type 0)
    → Says turn s limits ending.TooLong (record { script = before; left = left; before = old; after = new }) IsIn → SaidByLines turn s limits before old new
by_limit turn s limits None left old new IsIn says = tt
by_limit turn s limits (Some xs) left old new IsIn says = inr (says.0, says.1)

pub moved : {A B : Type 0} (P : A → B → Type 0) (a a' : A) (b b' : B) → a' ≡ a → b' ≡ b → P a b → P a' b'
moved P a a' b b' e f p = subst (P a') (sym f) (subst (λ x. P x b) (sym e) p)

-- no failure came
pub still_cause : (a b : ℕ) → b ≡ a → HasCauseIf a b false
still_cause a b e = record { later = omega (arith, e); rose = λ f. cc; kept = λ _. e }

-- a failure came
pub risen_cause : (a b c : ℕ) → b ≡ a → b ≤ c → Rose b c → HasCauseIf a c true
risen_cause a b c e later rose = record { later = omega (arith, e, later); rose = λ _. subst (λ x. Rose x c) e rose; kept = λ f. cc }
