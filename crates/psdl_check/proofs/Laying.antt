-- Members with their types, one more at a time.
use Rattle.std.proofs.Common.{◌≡◌, ℕ, zero, suc, ◌+◌, ◌<◌, List, [], ◌∷◌, ◌++◌, length, map, take, get_or, Option, Some, None, option_map, refl, sym, ap, ◌∙◌, arith, length-take-le}
use Rattle.std.specs.List.{slice_get}
use Rattle.std.proofs.lemmas.List.{map-append}
use Rattle.std.proofs.lemmas.Option.{slice_get-map}
use Rattle.type_layout.specs.declared.home.HomeNo.{HomeNo}
use Rattle.type_layout.specs.Schemas.{given}
use Rattle.type_layout.specs.Types.{PlainType, PlainMember}
use Rattle.psdl_lineage.specs.Descent.{StateMember}
use Rattle.psdl_lineage.proofs.Listing.{map_more}
use Rattle.psdl_members.specs.declared.member.Member.{Member}
use Rattle.psdl_members.specs.Bodies.{member_view, member_views}
use Rattle.psdl_standings.specs.Standings.{all_there}
use Rattle.psdl_standings.specs.States.{type_kept}
use Rattle.psdl_standings.specs.declared.state_entry.StateEntry.{StateEntry}
use Rattle.psdl_check.specs.declared.members.TypedMember.{TypedMember}
use Rattle.psdl_check.specs.inner.TypedMembers.{typed_view, typed_views, laid_out, laid}

-- a member with the type at its place
abbrev laid_at : List (Option PlainType) → ℕ → StateMember → Option PlainMember
laid_at os i m = given (slice_get os i) None (λ o. option_map (laid_out m) o)

one_laid_more : (ms : List StateMember) (os : List (Option PlainType)) (m : StateMember) → laid (ms ++ m ∷ []) os ≡ laid ms os ++ laid_at os (length ms) m ∷ []
one_laid_more [] [] m = refl
one_laid_more [] (o ∷ os) m = refl
one_laid_more (x ∷ ms) [] m = ap (λ l. None ∷ l) (one_laid_more ms [] m)
one_laid_more (x ∷ ms) (o ∷ os) m = ap (λ l. option_map (laid_out x) o ∷ l) (one_laid_more ms os m)

there_step : (a : PlainMember) (o more : Option (List PlainMember)) (vs : List PlainMember) (v : PlainMember) → ((ws : List PlainMember) → o ≡ Some ws → more ≡ Some (ws ++ v ∷ []))
    → option_map (λ l. a ∷ l) o ≡ Some vs → option_map (λ l. a ∷ l) more ≡ Some (vs ++ v ∷ [])
there_step a None more vs v rest h = absurd (cc)
there_step a (Some ws) more vs v rest h =
    let same : a ∷ ws ≡ vs = cc in
    ap (option_map (λ l. a ∷ l)) (rest ws refl) ∙ ap (λ l. Some (l ++ v ∷ [])) same

there_more : (xs : List (Option PlainMember)) (vs : List PlainMember) (v : PlainMember) → all_there xs ≡ Some vs → all_there (xs ++ Some v ∷ []) ≡ Some (vs ++ v ∷ [])
there_more [] vs v e = let none : [] ≡ vs = cc in ap (λ l. Some (l ++ v ∷ [])) none
there_more (None ∷ xs) vs v e = absurd (cc)
there_more (Some a ∷ xs) vs v e = there_step a (all_there xs) (all_there (xs ++ Some v ∷ [])) vs v (λ ws h. there_more xs ws v h) e

none_laid : (ms : List StateMember) (os : List (Option PlainType)) (i : ℕ) (m : StateMember) → i < length ms → m ≡ get_or ms i m → laid_at os i m ≡ None → all_there (laid ms os) ≡ None
none_laid [] os i m lt is off = absurd (omega (arith, lt))
none_laid (x ∷ ms) [] i m lt is off = refl
none_laid (x ∷ ms) (o ∷ os) zero m lt is off = ap (λ r. given r None (λ a. option_map (λ others. a ∷ others) (all_there (laid ms os)))) (ap (λ (y : StateMember). option_map (laid_out y) o) (sym is) ∙ off)
none_laid (x ∷ ms) (o ∷ os) (suc i) m lt is off = by (option_map (laid_out x) o) (none_laid ms os i m (omega (arith, lt)) is off)
  where
    by : (r : Option PlainMember) → all_there (laid ms os) ≡ None → given r None (λ a. option_map (λ others. a ∷ others) (all_there (laid ms os))) ≡ None
    by None rest = refl
    by (Some a) rest = ap (option_map (λ others. a ∷ others)) rest

kept_there : (f : StateEntry → Option PlainType) (ks : List StateEntry) (i : ℕ) (m : StateMember) → laid_at (map f ks) i m ≡ given (slice_get ks i) None (λ k. option_map (laid_out m) (f k))
kept_there f ks i m = ap (λ o. given o None (λ t. option_map (laid_out m) t)) (slice_get-map f ks i) ∙ by (slice_get ks i)
  where
    by : (o : Option StateEntry) → given (option_map f o) None (λ t. option_map (laid_out m) t) ≡ given o None (λ k. option_map (laid_out m) (f k))
    by None = refl
    by (Some k) = refl

module _ (types : List PlainType) (homes : ℕ → List HomeNo) (ms : List Member) (ks : List StateEntry) (i : ℕ) (m : Member) (within : i < length ms) (is : m ≡ get_or ms i m) where
  view_is : member_view m ≡ get_or (member_views ms) i (member_view m)
  view_is = ap member_view is ∙ mapped ms i within
    where
      mapped : (ns : List Member) (j : ℕ) → j < length ns → member_view (get_or ns j m) ≡ get_or (map member_view ns) j (member_view m)
      mapped [] j lt = absurd (omega (arith, lt))
      mapped (n ∷ ns) zero lt = refl
      mapped (n ∷ ns) (suc j) lt = mapped ns j (omega (arith, lt))

  len-views : length (member_views ms) ≡ length ms
  len-views = mapped ms
    where
      mapped : (ns : List Member) → length (map member_view ns) ≡ length ns
      mapped [] = refl
      mapped (n ∷ ns) = ap suc (mapped ns)

  -- a member without a type
  pub without : given (slice_get ks i) None (λ k. option_map (laid_out (member_view m)) (type_kept types homes k)) ≡ None → None ≡ all_there (laid (member_views ms) (map (type_kept types homes) ks))
  without off = sym (none_laid (member_views ms) (map (type_kept types homes) ks) i (member_view m) (omega (arith, within, len-views)) view_is (kept_there (type_kept types homes) ks i (member_view m) ∙ off))

  -- one with its type
  pub with : (t : TypedMember) (old new : List TypedMember) → Some (typed_view types homes t) ≡ given (slice_get ks i) None (λ k. option_map (laid_out (member_view m)) (type_kept types homes k)) → new ≡ old ++ t ∷ []
      → all_there (laid (member_views (take i ms)) (map (type_kept types homes) ks)) ≡ Some (typed_views types homes old)
      → all_there (laid (member_views (take (i + 1) ms)) (map (type_kept types homes) ks)) ≡ Some (typed_views types homes new)
  with t old new there push so_far =
      let os = map (type_kept types homes) ks in
      let front = member_views (take i ms) in
      let len : length front ≡ i = mapped (take i ms) ∙ length-take-le i ms (omega (arith, within)) in
      ap (λ l. all_there (laid l os)) (map_more member_view ms i m within ∙ ap (λ (y : Member). front ++ member_view y ∷ []) (sym is))
      ∙ ap all_there (one_laid_more front os (member_view m))
      ∙ ap (λ n. all_there (laid front os ++ laid_at os n (member_view m) ∷ [])) len
      ∙ ap (λ o. all_there (laid front os ++ o ∷ [])) (kept_there (type_kept types homes) ks i (member_view m) ∙ sym there)
      ∙ there_more (laid front os) (typed_views types homes old) (typed_view types homes t) so_far
      ∙ ap Some (sym (ap (typed_views types homes) push ∙ map-append (typed_view types homes) old (t ∷ [])))
    where
      mapped : (ns : List Member) → length (map member_view ns) ≡ length ns
      mapped [] = refl
      mapped (n ∷ ns) = ap suc (mapped ns)
