-- The pieces of a line are taken one after the other.
use Rattle.std.proofs.Common.{◌≡◌, ℕ, zero, suc, ◌+◌, ◌-◌, ◌<◌, List, [], ◌∷◌, ◌++◌, length, take, drop, get_or, true, false, None, Some, IfSome, refl, sym, ◌∙◌, ap, subst, arith, append_assoc, length-append, take-append-drop}
use Rattle.std.proofs.lemmas.Grind.{common_steps}
use Rattle.std.proofs.lemmas.List.{drop_more, length-take-le, take_at}
use Rattle.std.specs.declared.option.Option.{Option}
use Rattle.std.specs.Io.KnownBytes.{Consumes, Keeps, prepend_known}
use Rattle.std.proofs.KnownBytes.{Consumes-trans, Consumes-kept}
use Rattle.pss_base.specs.Lines.{has_lf, bytes_of}
use Rattle.pss_base.specs.Parts.{SoFar, PartOf, TakesPiece, StopsIn, StopsAt}
use Rattle.pss_base.specs.declared.part.Part.{Part}
use Rattle.pss_base.specs.declared.part.Piece.{Piece}
use Rattle.pss_base.specs.declared.part.Stop.{Stop}
use Rattle.pss_base.specs.declared.part.Stop.TheVariants.{Limit, ReadFault, NoMemory}
use Rattle.pss_base.proofs.Pieces.{has_lf-append, size_is}

-- the first bytes of a list and of what follows it
pub take-more : (n : ℕ) (xs ys : List ℕ) → take n xs ++ take (n - length xs) ys ≡ take n (xs ++ ys)
take-more n [] ys = grind (arith, common_steps)
take-more zero (x ∷ xs) ys = grind (arith, common_steps)
take-more (suc n) (x ∷ xs) ys =
    let left : suc n - length (x ∷ xs) ≡ n - length xs = omega arith in
    ap (λ k. take (suc n) (x ∷ xs) ++ take k ys) left ∙ ap (λ l. x ∷ l) (take-more n xs ys)

-- bytes that were ahead are taken
pub from_ahead : (bytes before after : List ℕ) (left : Option (List ℕ)) → before ≡ bytes ++ after → Consumes (prepend_known before left) (prepend_known after left) bytes
from_ahead bytes before after None is = tt
from_ahead bytes before after (Some rest) is = ap (λ l. l ++ rest) is ∙ append_assoc bytes after rest

-- what the loop knows
abbrev pub Taken : Option (List ℕ) → Option (List ℕ) → List ℕ → ℕ → ℕ → Type 0
Taken a b kept n most = (taken : List ℕ) × Consumes a b taken × SoFar taken kept n most

pub stopped : (a b c : Option (List ℕ)) (kept : List ℕ) (n most : ℕ) → Taken a b kept n most → Keeps b c → (part : List ℕ) × Consumes a c part × (has_lf part ≡ false)
stopped a b c kept n most so_far keeps = (so_far.0, Consumes-kept a b c so_far.0 so_far.1 keeps, so_far.2.one)

-- a line so far and its next piece
joined : (taken kept next before after : List ℕ) (n most : ℕ) (piece : Piece) → SoFar taken kept n most → TakesPiece piece n most before after kept next
    → SoFar (taken ++ take piece.len before) next (n + piece.len) most
joined taken kept next before after n most piece so_far takes =
    let len : length (take piece.len before) ≡ piece.len = length-take-le piece.len before takes.cut.len in
    record {
      one = has_lf-append taken (take piece.len before) so_far.one takes.cut.one;
      text = takes.text ∙ ap (λ l. l ++ take (65536 - n) (take piece.len before)) so_far.text ∙ ap (λ k. take 65536 taken ++ take (65536 - k) (take piece.len before)) so_far.count
          ∙ take-more 65536 taken (take piece.len before);
      count = omega (arith, so_far.count, len, length-append taken (take piece.len before));
      within = omega (arith, takes.fits, size_is piece before takes.cut);
    }

split : (before after : List ℕ) (piece : Piece) (n most : ℕ) (kept next : List ℕ) → TakesPiece piece n most before after kept next → before ≡ bytes_of (take piece.len before, piece.ended) ++ after
split before after piece n most kept next takes = takes.cut.front ∙ ap (λ l. bytes_of (take piece.len before, piece.ended) ++ l) (sym takes.rest)

pub more : (a b left : Option (List ℕ)) (kept next before after : List ℕ) (n most : ℕ) (piece : Piece) → Taken a b kept n most → Keeps b (prepend_known before left)
    → TakesPiece piece n most before after kept next → piece.ended ≡ false → Taken a (prepend_known after left) next (n + piece.len) most
more a b left kept next before after n most piece so_far keeps takes open_ =
    let front : bytes_of (take piece.len before, piece.ended) ≡ take piece.len before = ap (λ t. bytes_of (take piece.len before, t)) open_ in (
      so_far.0 ++ take piece.len before,
      Consumes-trans a _ _ so_far.0 (take piece.len before) (Consumes-kept a b _ so_far.0 so_far.1 keeps)
          (from_ahead (take piece.len before) before after left (split before after piece n most kept next takes ∙ ap (λ l. l ++ after) front)),
      joined so_far.0 kept next before after n most piece so_far.2 takes,
    )

pub at_feed : (a b left : Option (List ℕ)) (kept next before after : List ℕ) (n most : ℕ) (piece : Piece) → Taken a b kept n most → Keeps b (prepend_known before left)
    → TakesPiece piece n most before after kept next → piece.ended ≡ true
    → let part : Part = record { text = next; count = n + piece.len; size = n + piece.len + 1; ended = true } in PartOf part most a (prepend_known after left)
at_feed a b left kept next before after n most piece so_far keeps takes ended =
    let front : bytes_of (take piece.len before, piece.ended) ≡ take piece.len before ++ 10 ∷ [] = ap (λ t. bytes_of (take piece.len before, t)) ended in
    let line = joined so_far.0 kept next before after n most piece so_far.2 takes in
    let all : Consumes a (prepend_known after left) (so_far.0 ++ (take piece.len before ++ 10 ∷ [])) =
    Consumes-trans a _ _ so_far.0 (take piece.len before ++ 10 ∷ []) (Consumes-kept a b _ so_far.0 so_far.1 keeps)
    (from_ahead (take piece.len before ++ 10 ∷ []) before after left (split before after piece n most kept next takes ∙ ap (λ l. l ++ after) front)) in
    let size : piece.size ≡ piece.len + 1 = takes.cut.size ∙ ap length front ∙ length-append (take piece.len before) (10 ∷ []) ∙ ap (λ k. k + 1) (length-take-le piece.len before takes.cut.len) in
    record {
      body = so_far.0 ++ take piece.len before;
      so_far = line;
      taken = subst (Consumes a (prepend_known after left)) (sym (append_assoc so_far.0 (take piece.len before) (10 ∷ []))) all;
      size = omega (arith, line.count, length-append (so_far.0 ++ take piece.len before) (10 ∷ []));
      fits = omega (arith, takes.fits, size);
      last = λ e. cc;
    }

-- no piece was taken
pub stops : (a b left : Option (List ℕ)) (kept before after : List ℕ) (n most : ℕ) (stop : Stop) → Taken a b kept n most → Keeps b (prepend_known before left)
    → StopsIn stop (most - n) before after → StopsAt stop most a (prepend_known after left)
stops a b left kept before after n most Limit so_far keeps at =
    let room : ℕ = most - n in
    let front = take room before in
    let next : ℕ = get_or before room 0 in
    let shape : before ≡ (front ++ next ∷ []) ++ after =
    sym (ap (λ l. (front ++ next ∷ []) ++ l) at.2 ∙ append_assoc front (next ∷ []) (drop (room + 1) before) ∙ ap (λ l. front ++ l) (sym (drop_more before room 0 at.0)) ∙ take-append-drop room before) in
    let len : length front ≡ room = length-take-le room before (omega (arith, at.0)) in (
      so_far.0 ++ front,
      next,
      subst (Consumes a (prepend_known after left)) (sym (append_assoc so_far.0 front (next ∷ [])))
          (Consumes-trans a _ _ so_far.0 (front ++ next ∷ []) (Consumes-kept a b _ so_far.0 so_far.1 keeps) (from_ahead (front ++ next ∷ []) before after left shape)),
      has_lf-append so_far.0 front so_far.2.one at.1,
      omega (arith, so_far.2.count, so_far.2.within, len, length-append so_far.0 front),
    )
stops a b left kept before after n most ReadFault so_far keeps at = absurd at
stops a b left kept before after n most NoMemory so_far keeps at =
    subst (λ l. StopsAt NoMemory most a (prepend_known l left)) (sym at) (stopped a b _ kept n most so_far keeps)

-- more bytes come than the limit allows
pub over_limit : (a b left : Option (List ℕ)) (kept next ahead : List ℕ) (room limit : ℕ) → Consumes a b kept → Keeps b (prepend_known ahead left) → next ≡ kept ++ take room ahead → room < length ahead
    → length kept + room ≡ limit → (length next ≡ limit) × IfSome a (λ all. (limit < length all) × (next ≡ take limit all))
over_limit a b left kept next ahead room limit so_far keeps is lt e =
    let taken : Consumes a (prepend_known ahead left) kept = Consumes-kept a b _ kept so_far keeps in
    let len : length next ≡ limit = ap length is ∙ length-append kept (take room ahead) ∙ ap (λ k. length kept + k) (length-take-le room ahead (omega (arith, lt))) ∙ e in
    (len, by_known a left taken)
  where
    by_known : (a left : Option (List ℕ)) → Consumes a (prepend_known ahead left) kept → IfSome a (λ all. (limit < length all) × (next ≡ take limit all))
    by_known None left taken = tt
    by_known (Some all) None taken = absurd taken
    by_known (Some all) (Some rest) taken =
        let shape : all ≡ next ++ (drop room ahead ++ rest) =
        taken ∙ ap (λ l. kept ++ (l ++ rest)) (sym (take-append-drop room ahead)) ∙ ap (λ l. kept ++ l) (append_assoc (take room ahead) (drop room ahead) rest)
        ∙ sym (append_assoc kept (take room ahead) (drop room ahead ++ rest)) ∙ ap (λ l. l ++ (drop room ahead ++ rest)) (sym is) in
        let len : length next ≡ limit = ap length is ∙ length-append kept (take room ahead) ∙ ap (λ k. length kept + k) (length-take-le room ahead (omega (arith, lt))) ∙ e in
        (omega (arith, lt, e, ap length taken, length-append kept (ahead ++ rest), length-append ahead rest), sym (ap (take limit) shape ∙ take_at next (drop room ahead ++ rest) limit len))

keeps_self : (ahead : List ℕ) (left : Option (List ℕ)) → Keeps (prepend_known ahead left) (prepend_known ahead left)
keeps_self ahead None = tt
keeps_self ahead (Some rest) = refl

-- a line that is ahead whole
pub at_once : (left : Option (List ℕ)) (next before after : List ℕ) (most : ℕ) (piece : Piece) → TakesPiece piece 0 most before after [] next → piece.ended ≡ true
    → let part : Part = record { text = next; count = piece.len; size = piece.len + 1; ended = true } in PartOf part most (prepend_known before left) (prepend_known after left)
at_once left next before after most piece takes ended =
    let whole : Option (List ℕ) = prepend_known before left in
    let none : Taken whole whole [] 0 most = ([], from_ahead [] before before left refl, record { one = refl; text = refl; count = refl; within = omega arith }) in
    let same : 0 + piece.len ≡ piece.len = omega arith in
    subst (λ n. PartOf (record { text = next; count = n; size = n + 1; ended = true }) most whole (prepend_known after left)) same
    (at_feed whole whole left [] next before after 0 most piece none (keeps_self before left) takes ended)
