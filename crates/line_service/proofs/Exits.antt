-- What was spoken, where a run ends.
use Rattle.std.proofs.Common.{◌≡◌, ◌⊎◌, ⊎_elim, inl, inr, ℕ, ◌+◌, ◌<◌, List, [], ◌∷◌, ◌++◌, length, take, map, slice_get, Bool, true, false, if◌then◌else◌, IsTrue, None, Some, refl, sym, ◌∙◌, ap, subst, arith, append_assoc, append-nil}
use Rattle.std.specs.Prelude.{IfSome}
use Rattle.std.specs.declared.option.Option.{Option}
use Rattle.std.specs.Io.KnownBytes.{Consumes, IsAtEnd, append_known, prepend_known}
use Rattle.std.proofs.KnownBytes.{Consumes-trans, prepend_known-nil}
use Rattle.pss_base.specs.Lines.{raw_lines, line_of, within, lines, is_over, ended_lines}
use Rattle.pss_base.specs.Reading.{Reading, TakesLine, TakesNoLine, IsOver}
use Rattle.pss_base.specs.declared.lines.LineStep.{LineStep}
use Rattle.pss_base.proofs.LineLaws.{Raw, all_bytes, map-append, ended-append, limit_here, take_front, take_into}
use Rattle.pss_base.proofs.Splitting.{Splits, splits}
use Rattle.line_service.specs.Turns.{TurnOf, after, said}
use Rattle.line_service.specs.Runs.{Limits, Streams, Says, SaidByLines, SaidSome, SaidInPart, too_long_text, all_said, lines_of, goes_past}
use Rattle.line_service.specs.declared.serving.Ending.TheVariants as ending
use Rattle.line_service.proofs.Saying.{append_known-append, said-join}
use Rattle.line_service.proofs.Progress.{Taken, taken_more, Served}

module _ (limits : Limits) (r : Reading) where
  parts : (xs ys : List ℕ) (p : Taken limits (Some xs) r (Some ys)) → Splits p.raws limits.lines limits.bytes r.lines_left r.bytes_left xs ys
  parts xs ys p = splits p.raws limits.lines limits.bytes r.lines_left r.bytes_left xs ys r.at_end p.shape p.ended p.at_end p.lines p.bytes p.taken

  -- the lines that were taken are the first ones
  pub first_lines : (xs ys : List ℕ) (p : Taken limits (Some xs) r (Some ys)) → lines_of limits xs ≡ map line_of p.raws ++ map line_of (within r.lines_left r.bytes_left (raw_lines ys))
  first_lines xs ys p = ap (map line_of) (parts xs ys p).raw ∙ map-append line_of p.raws _

  pub taken_are_first : (xs ys : List ℕ) (p : Taken limits (Some xs) r (Some ys)) → take (length (map line_of p.raws)) (lines_of limits xs) ≡ map line_of p.raws
  taken_are_first xs ys p = ap (take (length (map line_of p.raws))) (first_lines xs ys p) ∙ take_front (map line_of p.raws) _

  -- the end was reached: these are all lines
  at_the_end : (xs ys : List ℕ) (p : Taken limits (Some xs) r (Some ys)) → ys ≡ [] → (lines_of limits xs ≡ map line_of p.raws) × (goes_past limits xs ≡ false)
  at_the_end xs ys p none =
      let s = parts xs ys p in
      (ap (map line_of) (s.raw ∙ ap (λ l. p.raws ++ within r.lines_left r.bytes_left (raw_lines l)) none ∙ append-nil p.raws), s.over ∙ ap (λ l. is_over r.lines_left r.bytes_left (raw_lines l)) none)

  -- the limit was reached: these are all lines
  pub at_limit : (xs ys : List ℕ) (rest' : Option (List ℕ)) (p : Taken limits (Some xs) r (Some ys)) → IsOver r (Some ys) rest' → (lines_of limits xs ≡ map line_of p.raws) × (goes_past limits xs ≡ true)
  at_limit xs ys None p o = absurd o.taken
  at_limit xs ys (Some zs) p o =
      let s = parts xs ys p in
      let shape : ys ≡ o.part ++ o.next ∷ zs = o.taken ∙ append_assoc o.part (o.next ∷ []) zs in
      let here = limit_here r.lines_left r.bytes_left o.part o.next zs o.one o.over in (
        ap (map line_of) (s.raw ∙ ap (λ l. p.raws ++ within r.lines_left r.bytes_left (raw_lines l)) shape ∙ ap (λ l. p.raws ++ l) here.1 ∙ append-nil p.raws),
        s.over ∙ ap (λ l. is_over r.lines_left r.bytes_left (raw_lines l)) shape ∙ here.0,
      )

  -- the line that is taken next stands behind those that were taken
  pub behind : (r' : Reading) (xs ys zs : List ℕ) (line : LineStep) (p : Taken limits (Some xs) r (Some ys)) → TakesLine r r' (Some ys) (Some zs) line → (more : List LineStep) × (lines_of limits xs ≡ map line_of p.raws ++ line ∷ more)
  unfolding taken_more
  behind r' xs ys zs line p t =
      let q = taken_more limits (Some xs) r r' (Some ys) (Some zs) line p t in
      let w = within r'.lines_left r'.bytes_left (raw_lines zs) in
      let s = splits q.raws limits.lines limits.bytes r'.lines_left r'.bytes_left xs zs r'.at_end q.shape q.ended q.at_end q.lines q.bytes q.taken in (
        map line_of w,
        ap (map line_of) (s.raw ∙ append_assoc p.raws (t.raw ∷ []) w) ∙ map-append line_of p.raws (t.raw ∷ w) ∙ ap (λ l. map line_of p.raws ++ l ∷ map line_of w) (sym t.told),
      )

  module _ {State : Type 0} (turn : TurnOf State) (WasIn IsIn : State → Type 0) (old mid : Option (List ℕ)) (s : State) (was : WasIn s) where
    pub done : (before rest left : Option (List ℕ)) (ahead : List ℕ) (p : Taken limits before r rest) → Served turn WasIn IsIn p.raws old mid → Consumes rest (prepend_known ahead left) [] × (IsTrue r.at_end ⊎ IsAtEnd (prepend_known ahead left))
        → Says turn s limits ending.End (record { script = before; left = left; before = old; after = mid }) IsIn
    done None rest left ahead p q e = tt
    done (Some xs) None left ahead p q e = absurd p.taken
    done (Some xs) (Some ys) None ahead p q e = absurd e.0
    done (Some xs) (Some ys) (Some zs) ahead p q e =
        let none : ys ≡ [] = ⊎_elim (λ t. p.at_end t) (λ z. e.0 ∙ z) e.1 in
        let all = at_the_end xs ys p none in (
          all.1,
          q.spoken s was ∙ ap (λ l. append_known old (said turn s l)) (sym all.0),
          ap Some (last_empty ahead zs (sym e.0 ∙ none)),
          subst (λ l. IsIn (after turn s l)) (sym all.0) (q.state s was),
        )
      where
        last_empty : (xs ys : List ℕ) → xs ++ ys ≡ [] → ys ≡ []
        last_empty [] ys e = e
        last_empty (x ∷ xs) ys e = cc

    pub long : (IsIn' : State → Type 0) (before rest rest' left new : Option (List ℕ)) (p : Taken limits before r rest) → Served turn WasIn IsIn p.raws old mid → IsOver r rest rest' → new ≡ append_known mid too_long_text
        → ((t : State) → IsIn t → IsIn' t) → Says turn s limits ending.TooLong (record { script = before; left = left; before = old; after = new }) IsIn'
    long IsIn' None rest rest' left new p q o e stays = tt
    long IsIn' (Some xs) None rest' left new p q o e stays = absurd p.taken
    long IsIn' (Some xs) (Some ys) rest' left new p q o e stays =
        let all = at_limit xs ys rest' p o in (
          all.1,
          e ∙ ap (λ a. append_known a too_long_text) (q.spoken s was) ∙ append_known-append old (said turn s (map line_of p.raws)) too_long_text ∙ ap (λ l. append_known old (said turn s l ++ too_long_text)) (sym all.0),
          subst (λ l. IsIn' (after turn s l)) (sym all.0) (stays (after turn s (map line_of p.raws)) (q.state s was)),
        )

    pub read_fault : (before rest rest' left : Option (List ℕ)) (ahead : List ℕ) (p : Taken limits before r rest) → Served turn WasIn IsIn p.raws old mid → rest' ≡ prepend_known ahead left → TakesNoLine rest rest' × (ahead ≡ []) × (r.at_end ≡ false)
        → Says turn s limits ending.ReadFault (record { script = before; left = left; before = old; after = mid }) IsIn
    read_fault before rest rest' left ahead p q is e =
        let same : rest' ≡ left = is ∙ ap (λ l. prepend_known l left) e.1 ∙ prepend_known-nil left in
        let all : ended_lines (all_bytes p.raws ++ e.0.0) ≡ map line_of p.raws = ap (map line_of) (ended-append p.raws e.0.0 p.shape (p.ended e.2) e.0.2) in (
          all_bytes p.raws ++ e.0.0,
          subst (λ (l : Option (List ℕ)). Consumes before l (all_bytes p.raws ++ e.0.0)) same (Consumes-trans before rest rest' (all_bytes p.raws) e.0.0 p.taken e.0.1),
          q.spoken s was ∙ ap (λ l. append_known old (said turn s l)) (sym all),
          subst (λ l. IsIn (after turn s l)) (sym all) (q.state s was),
        )

    -- no more than the replies to the lines taken was spoken
    pub some_lines : (before rest new : Option (List ℕ)) (p : Taken limits before r rest) → Served turn WasIn IsIn p.raws old mid → new ≡ mid → SaidSome turn s limits before old new
    some_lines None rest new p q e = tt
    some_lines (Some xs) None new p q e = absurd p.taken
    some_lines (Some xs) (Some ys) new p q e =
        (length (map line_of p.raws), e ∙ q.spoken s was ∙ ap (λ l. append_known old (said turn s l)) (sym (taken_are_first xs ys p)))

    -- the line of the limit was spoken in part
    pub long_fault : (before rest rest' new : Option (List ℕ)) (k : ℕ) (p : Taken limits before r rest) → Served turn WasIn IsIn p.raws old mid → IsOver r rest rest' → new ≡ append_known mid (take k too_long_text)
        → SaidInPart turn s limits before old new
    long_fault None rest rest' new k p q o e = tt
    long_fault (Some xs) None rest' new k p q o e = absurd p.taken
    long_fault (Some xs) (Some ys) rest' new k p q o e =
        let all = at_limit xs ys rest' p o in
        let spoke = said turn s (map line_of p.raws) in
        let into = take_into spoke too_long_text [] k in
        let whole : all_said turn s limits xs ≡ spoke ++ (too_long_text ++ []) =
        ap (λ l. said turn s l ++ (if goes_past limits xs then too_long_text else [])) all.0 ∙ ap (λ t. spoke ++ (if t then too_long_text else [])) all.1 in
        (into.0, e ∙ ap (λ a. append_known a (take k too_long_text)) (q.spoken s was) ∙ append_known-append old spoke (take k too_long_text) ∙ ap (append_known old) (sym (ap (take into.0) whole ∙ into.1)))

    -- the reply to a line was spoken in part
    pub reply_fault : (r' : Reading) (before rest rest' new : Option (List ℕ)) (line : LineStep) (k : ℕ) (p : Taken limits before r rest) → Served turn WasIn IsIn p.raws old mid → TakesLine r r' rest rest' line
        → new ≡ append_known mid (take k (turn (after turn s (map line_of p.raws)) line).1) → SaidInPart turn s limits before old new
    reply_fault r' None rest rest' new line k p q t e = tt
    reply_fault r' (Some xs) None rest' new line k p q t e = absurd p.taken
    reply_fault r' (Some xs) (Some ys) None new line k p q t e = absurd t.taken
    reply_fault r' (Some xs) (Some ys) (Some zs) new line k p q t e =
        let start = map line_of p.raws in
        let c = after turn s start in
        let spoke = said turn s start in
        let more = behind r' xs ys zs line p t in
        let tail : List ℕ = (if goes_past limits xs then too_long_text else []) in
        let rest = said turn (turn c line).0 more.0 in
        let whole : all_said turn s limits xs ≡ spoke ++ ((turn c line).1 ++ (rest ++ tail)) =
        ap (λ r. r ++ tail) (ap (said turn s) more.1 ∙ said-join turn s start (line ∷ more.0))
        ∙ append_assoc spoke ((turn c line).1 ++ rest) tail ∙ ap (λ r. spoke ++ r) (append_assoc (turn c line).1 rest tail) in
        let into = take_into spoke (turn c line).1 (rest ++ tail) k in
        (into.0, e ∙ ap (λ a. append_known a (take k (turn c line).1)) (q.spoken s was) ∙ append_known-append old spoke (take k (turn c line).1) ∙ ap (append_known old) (sym (ap (take into.0) whole ∙ into.1)))
