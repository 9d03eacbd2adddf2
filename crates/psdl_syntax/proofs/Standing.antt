-- Tokens that may stand one behind the other in a canonical text. Of all that stand there with nothing between them, a
-- `<` alone would run together with what is behind it, where that is a `<` or a `<<`.
use Rattle.std.proofs.Common.{◌≡◌, List, [], ◌∷◌, ◌++◌, Bool, true, false, not, ◌&&◌, Option, Some, None, refl, ap, ◌∙◌}
use Rattle.std.proofs.lemmas.Bool.{true≢false, and_parts, and_from}
use Rattle.pss_base.specs.declared.place.Place.{Place}
use Rattle.part_readers.specs.Sentences.{joined, maybe}
use Rattle.psdl_tokens.specs.declared.token.Keyword.{Keyword}
use Rattle.psdl_tokens.specs.declared.token.Mark.{Mark}
use Rattle.psdl_tokens.specs.declared.token.Mark.TheVariants as marks
use Rattle.psdl_syntax.specs.Seen.{Seen, Word, Sign, Placed, Named, Number, Quoted, Stray}
use Rattle.psdl_syntax.specs.Grammar.{word, sign}

abbrev pub is_less_mark : Mark → Bool
is_less_mark marks.Less = true
is_less_mark _ = false

-- a mark that begins with `<`
abbrev pub begins_less : Mark → Bool
begins_less marks.Less = true
begins_less marks.ShiftLeft = true
begins_less _ = false

abbrev pub is_less : Seen → Bool
is_less (Sign mark) = is_less_mark mark
is_less (Placed mark place) = is_less_mark mark
is_less _ = false

-- a token that may stand behind a `<`, or behind another token
abbrev pub may_stand : Bool → Seen → Bool
may_stand behind_less (Word keyword) = true
may_stand behind_less (Sign mark) = not (behind_less && begins_less mark)
may_stand behind_less (Placed mark place) = not (behind_less && begins_less mark)
may_stand behind_less (Named identifier) = true
may_stand behind_less (Number literal) = true
may_stand behind_less (Quoted literal) = true
may_stand behind_less Stray = false

-- these tokens may, behind a `<` or behind another token
abbrev pub stand : Bool → List Seen → Bool
stand behind_less [] = true
stand behind_less (token ∷ tokens) = may_stand behind_less token && stand (is_less token) tokens

-- a `<` is the last of them, or there is none and one is in front
abbrev less_behind : Bool → List Seen → Bool
less_behind behind_less [] = behind_less
less_behind behind_less (token ∷ tokens) = less_behind (is_less token) tokens

-- tokens that may stand behind any, and leave no `<`
pub record Closed (tokens : List Seen) : Type 0 where
  pub stands : stand true tokens ≡ true
  pub leaves : less_behind false tokens ≡ false

-- the same of one token or more
pub record Solid (tokens : List Seen) : Type 0 where
  pub stands : stand true tokens ≡ true
  pub leaves : less_behind true tokens ≡ false

may_stand-more : (s : Bool) (t : Seen) → may_stand true t ≡ true → may_stand s t ≡ true
may_stand-more true t h = h
may_stand-more false (Word k) h = refl
may_stand-more false (Sign m) h = refl
may_stand-more false (Placed m p) h = refl
may_stand-more false (Named i) h = refl
may_stand-more false (Number l) h = refl
may_stand-more false (Quoted l) h = refl
may_stand-more false Stray h = h

-- what may stand behind a `<` may stand behind any
pub stand-more : (s : Bool) (ts : List Seen) → stand true ts ≡ true → stand s ts ≡ true
stand-more s [] h = refl
stand-more s (t ∷ ts) h =
    let both = and_parts (may_stand true t) (stand (is_less t) ts) h in
    and_from (may_stand s t) (stand (is_less t) ts) (may_stand-more s t both.0) both.1

stand-append : (s : Bool) (a b : List Seen) → stand s a ≡ true → stand (less_behind s a) b ≡ true → stand s (a ++ b) ≡ true
stand-append s [] b front behind = behind
stand-append s (t ∷ ts) b front behind =
    let both = and_parts (may_stand s t) (stand (is_less t) ts) front in
    and_from (may_stand s t) (stand (is_less t) (ts ++ b)) both.0 (stand-append (is_less t) ts b both.1 behind)

less_behind-append : (s : Bool) (a b : List Seen) → less_behind s (a ++ b) ≡ less_behind (less_behind s a) b
less_behind-append s [] b = refl
less_behind-append s (t ∷ ts) b = less_behind-append (is_less t) ts b

less_behind-less : (ts : List Seen) → less_behind true ts ≡ false → less_behind false ts ≡ false
less_behind-less [] h = absurd (true≢false h)
less_behind-less (t ∷ ts) h = h

less_behind-any : (s : Bool) (ts : List Seen) → less_behind true ts ≡ false → less_behind s ts ≡ false
less_behind-any true ts h = h
less_behind-any false ts h = less_behind-less ts h

pub solid_closed : (a : List Seen) → Solid a → Closed a
solid_closed a h = record { stands = h.stands; leaves = less_behind-less a h.leaves }

pub nothing : Closed []
nothing = record { stands = refl; leaves = refl }

pub both_closed : (a b : List Seen) → Closed a → Closed b → Closed (a ++ b)
both_closed a b ha hb = record {
  stands = stand-append true a b ha.stands (stand-more (less_behind true a) b hb.stands);
  leaves = less_behind-append false a b ∙ ap (λ s. less_behind s b) ha.leaves ∙ hb.leaves;
}

pub first_solid : (a b : List Seen) → Solid a → Closed b → Solid (a ++ b)
first_solid a b ha hb = record {
  stands = stand-append true a b ha.stands (stand-more (less_behind true a) b hb.stands);
  leaves = less_behind-append true a b ∙ ap (λ s. less_behind s b) ha.leaves ∙ hb.leaves;
}

pub second_solid : (a b : List Seen) → Closed a → Solid b → Solid (a ++ b)
second_solid a b ha hb = record {
  stands = stand-append true a b ha.stands (stand-more (less_behind true a) b hb.stands);
  leaves = less_behind-append true a b ∙ less_behind-any (less_behind true a) b hb.leaves;
}

-- a sign between two parts
pub sign_between : (a : List Seen) (m : Mark) (place : Place) (b : List Seen) → is_less_mark m ≡ false → Solid a → Closed b → Solid (a ++ (Placed m place ∷ b))
sign_between a m place b other ha hb =
    let behind : stand (is_less_mark m) b ≡ true = stand-more (is_less_mark m) b hb.stands in
    record {
      stands = stand-append true a (Placed m place ∷ b) ha.stands (ap (λ s. stand s (Placed m place ∷ b)) ha.leaves ∙ behind);
      leaves = less_behind-append true a (Placed m place ∷ b) ∙ ap (λ s. less_behind s b) other ∙ hb.leaves;
    }

-- what stands between `<` and `>` behind a keyword
pub angled : (k : Keyword) (inner : List Seen) → Closed inner → Closed (word k ++ (sign marks.Less ++ (inner ++ sign marks.Greater)))
angled k inner h =
    let all : Closed (inner ++ sign marks.Greater) = both_closed inner (sign marks.Greater) h (record { stands = refl; leaves = refl }) in
    record {
      stands = all.stands;
      leaves = less_behind-append true inner (sign marks.Greater);
    }

pub maybe_closed : {A : Type 0} (spell : A → List Seen) → ((x : A) → Closed (spell x)) → (o : Option A) → Closed (maybe spell o)
maybe_closed spell each None = nothing
maybe_closed spell each (Some x) = each x

pub joined_closed : {A : Type 0} (spell : A → List Seen) → ((x : A) → Closed (spell x)) → (xs : List A) → Closed (joined spell xs)
joined_closed spell each [] = nothing
joined_closed spell each (x ∷ xs) = both_closed (spell x) (joined spell xs) (each x) (joined_closed spell each xs)
