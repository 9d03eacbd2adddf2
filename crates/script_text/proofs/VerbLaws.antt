-- Each verb has one word.
use Rattle.std.proofs.Common.{◌≡◌, ℕ, List, [], ◌∷◌, Bool, true, false, refl, sym, ◌∙◌, ap, subst, Option, Some, None}
use Rattle.std.proofs.lemmas.Slice.Eq.{bytes_eq-Decides}
use Rattle.std.specs.Prelude.{find}
use Rattle.std.specs.Str.{bytes_eq}
use Rattle.script_text.specs.declared.verb.AloneVerb.TheVariants.{Checkpoint, Stat, History}
use Rattle.script_text.specs.declared.verb.SessionVerb.TheVariants.{Close, Suspend, Status, FreeAll, Flush, Refresh}
use Rattle.script_text.specs.declared.verb.TransactionVerb.TheVariants.{Commit, Rollback}
use Rattle.script_text.specs.declared.verb.HomeVerb.TheVariants.{Home, Count, List as Lists}
use Rattle.script_text.specs.declared.verb.KeyVerb.TheVariants.{Make, Find, FindRef}
use Rattle.script_text.specs.declared.verb.EntryVerb.TheVariants.{Exists, Destroy, PidOf, Dup, Release}
use Rattle.script_text.specs.declared.verb.MemberVerb.TheVariants.{Get, Follow}
use Rattle.script_text.specs.declared.verb.Verb.{Verb}
use Rattle.script_text.specs.declared.verb.Verb.TheVariants as verb
use Rattle.script_text.specs.Meaning.{verb_text, all_verbs, verb_of}
use Rattle.script_text.specs.inner.Likely.{likely}

same : (a b : List ℕ) → bytes_eq a b ≡ true → a ≡ b
same a b e = (bytes_eq-Decides a b).0 e

-- what was found first passes the test
found_passes : {A : Type 0} (p : A → Bool) (xs : List A) (x : A) → find p xs ≡ Some x → p x ≡ true
found_passes p [] x e = absurd (cc)
found_passes p (y ∷ ys) x e = by p y ys x (p y) refl e (found_passes p ys x)
  where
    by : {A : Type 0} (p : A → Bool) (y : A) (ys : List A) (x : A) (b : Bool) → p y ≡ b → find p (y ∷ ys) ≡ Some x → (find p ys ≡ Some x → p x ≡ true) → p x ≡ true
    by p y ys x true is e rest = let one : Some y ≡ Some x = rw is at e in let eq : y ≡ x = cc in subst (λ z. p z ≡ true) eq is
    by p y ys x false is e rest = rest (rw is at e)

pub verb_spelled : (word : List ℕ) (v : Verb) → verb_of word ≡ Some v → word ≡ verb_text v
unfolding verb_of
verb_spelled word v e = same word (verb_text v) (found_passes (λ v. bytes_eq word (verb_text v)) all_verbs v e)

pub verb_again : (v : Verb) → verb_of (verb_text v) ≡ Some v
unfolding verb_of
verb_again verb.Open = refl
verb_again verb.Begin = refl
verb_again verb.Start = refl
verb_again verb.End = refl
verb_again verb.Create = refl
verb_again verb.Pid = refl
verb_again verb.Short = refl
verb_again verb.Set = refl
verb_again (verb.Alone Checkpoint) = refl
verb_again (verb.Alone Stat) = refl
verb_again (verb.Alone History) = refl
verb_again (verb.Session Close) = refl
verb_again (verb.Session Suspend) = refl
verb_again (verb.Session Status) = refl
verb_again (verb.Session FreeAll) = refl
verb_again (verb.Session Flush) = refl
verb_again (verb.Session Refresh) = refl
verb_again (verb.Transaction Commit) = refl
verb_again (verb.Transaction Rollback) = refl
verb_again (verb.Home Home) = refl
verb_again (verb.Home Count) = refl
verb_again (verb.Home Lists) = refl
verb_again (verb.Key Make) = refl
verb_again (verb.Key Find) = refl
verb_again (verb.Key FindRef) = refl
verb_again (verb.Entry Exists) = refl
verb_again (verb.Entry Destroy) = refl
verb_again (verb.Entry PidOf) = refl
verb_again (verb.Entry Dup) = refl
verb_again (verb.Entry Release) = refl
verb_again (verb.Member Get) = refl
verb_again (verb.Member Follow) = refl

-- a verb is likely by its word
likely_again : (v : Verb) → likely (verb_text v) ≡ Some v
likely_again verb.Open = refl
likely_again verb.Begin = refl
likely_again verb.Start = refl
likely_again verb.End = refl
likely_again verb.Create = refl
likely_again verb.Pid = refl
likely_again verb.Short = refl
likely_again verb.Set = refl
likely_again (verb.Alone Checkpoint) = refl
likely_again (verb.Alone Stat) = refl
likely_again (verb.Alone History) = refl
likely_again (verb.Session Close) = refl
likely_again (verb.Session Suspend) = refl
likely_again (verb.Session Status) = refl
likely_again (verb.Session FreeAll) = refl
likely_again (verb.Session Flush) = refl
likely_again (verb.Session Refresh) = refl
likely_again (verb.Transaction Commit) = refl
likely_again (verb.Transaction Rollback) = refl
likely_again (verb.Home Home) = refl
likely_again (verb.Home Count) = refl
likely_again (verb.Home Lists) = refl
likely_again (verb.Key Make) = refl
likely_again (verb.Key Find) = refl
likely_again (verb.Key FindRef) = refl
likely_again (verb.Entry Exists) = refl
likely_again (verb.Entry Destroy) = refl
likely_again (verb.Entry PidOf) = refl
likely_again (verb.Entry Dup) = refl
likely_again (verb.Entry Release) = refl
likely_again (verb.Member Get) = refl
likely_again (verb.Member Follow) = refl

-- the word of the likely verb
pub is_verb : (word text : List ℕ) (v : Verb) → text ≡ verb_text v → bytes_eq text word ≡ true → Some v ≡ verb_of word
is_verb word text v e true_is = sym (subst (λ w. verb_of w ≡ Some v) (sym e ∙ same text word true_is) (verb_again v))

-- no verb but a likely one has the word
only_likely : (word : List ℕ) (u : Verb) → verb_of word ≡ Some u → likely word ≡ Some u
only_likely word u is = subst (λ w. likely w ≡ Some u) (sym (verb_spelled word u is)) (likely_again u)

-- another word than that of the likely verb
pub is_none : (word text : List ℕ) (v : Verb) → text ≡ verb_text v → Some v ≡ likely word → bytes_eq text word ≡ false → None ≡ verb_of word
is_none word text v e found other = by (verb_of word) refl
  where
    by : (o : Option Verb) → verb_of word ≡ o → None ≡ verb_of word
    by None is = sym is
    by (Some u) is =
        let again : Some u ≡ Some v = sym (only_likely word u is) ∙ sym found in
        let one : u ≡ v = cc in
        let one_text : word ≡ text = verb_spelled word u is ∙ ap verb_text one ∙ sym e in
        absurd (let is : bytes_eq text word ≡ true = (bytes_eq-Decides text word).1 (sym one_text) in cc)

-- no verb is likely
pub is_unlikely : (word : List ℕ) → None ≡ likely word → None ≡ verb_of word
is_unlikely word e = by (verb_of word) refl
  where
    by : (o : Option Verb) → verb_of word ≡ o → None ≡ verb_of word
    by None is = sym is
    by (Some u) is = let again = only_likely word u is in absurd (cc)
