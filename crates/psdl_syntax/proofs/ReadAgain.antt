-- The canonical text of a tree has the tokens of each text that the tree was read from, but for their places.
use Rattle.std.proofs.Common.{◌≡◌, ℕ, List, [], ◌∷◌, false, map, refl, sym, ap, ◌∙◌, subst}
use Rattle.std.proofs.lemmas.Bool.{cond_both}
use Rattle.pss_base.specs.declared.place.Place.{Place}
use Rattle.psdl_tokens.specs.declared.token.Mark.{Mark}
use Rattle.psdl_tokens.specs.declared.token.Token.{Token}
use Rattle.psdl_tokens.specs.declared.token.TokenKind.{TokenKind}
use Rattle.psdl_tokens.specs.declared.token.TokenKind.TheVariants as token_kinds
use Rattle.psdl_syntax.specs.declared.printing.printer.Edge.TheVariants as edges
use Rattle.psdl_syntax.specs.Seen.{Sign, Placed, seen, seen_kind, keeps_place}
use Rattle.psdl_tree.specs.Trees.{Definitions}
use Rattle.psdl_syntax.specs.Grammar.{definitions}
use Rattle.psdl_tokens.specs.Lexis.{lexed}
use Rattle.psdl_syntax.specs.Canonical.{canonical}
use Rattle.psdl_syntax.specs.Again.{kinds, KeepsTree}
use Rattle.psdl_syntax.specs.Depth.{room}
use Rattle.psdl_syntax.proofs.Standing.{stand-more}
use Rattle.psdl_syntax.proofs.Neighbours as neighbours
use Rattle.psdl_syntax.proofs.Sounding.{SoundKind, SoundKinds, kind_of, Sound, sound_tokens}
use Rattle.psdl_syntax.proofs.Moving.{moved_seen}
use Rattle.psdl_syntax.proofs.Moving as moving
use Rattle.psdl_syntax.proofs.Relocating.{relocated, relocated_tokens, room_moved}
use Rattle.psdl_syntax.proofs.Rereading.{Lexes, tokens_again}

-- a token as the grammar sees it has its kind
mark_kind : (place : Place) (m : Mark) → kind_of (seen_kind place (token_kinds.Mark m)) ≡ token_kinds.Mark m
mark_kind place m = cond_both (keeps_place m) (Placed m place) (Sign m) (λ s. kind_of s ≡ token_kinds.Mark m) (λ _. refl) (λ _. refl)

seen_again : (place : Place) (kind : TokenKind) → kind_of (seen_kind place kind) ≡ kind
seen_again place (token_kinds.Keyword keyword) = refl
seen_again place (token_kinds.Mark mark) = mark_kind place mark
seen_again place (token_kinds.Identifier name) = refl
seen_again place token_kinds.Miscased = refl
seen_again place (token_kinds.Integer value) = refl
seen_again place (token_kinds.Text bytes) = refl

kinds_seen : (tokens : List Token) → map kind_of (map seen tokens) ≡ map (λ token. token.kind) tokens
kinds_seen [] = refl
kinds_seen (t ∷ ts) = ap (λ k. k ∷ map kind_of (map seen ts)) (seen_again t.place t.kind) ∙ ap (λ l. t.kind ∷ l) (kinds_seen ts)

sound_seen : (tokens : List Token) → SoundKinds tokens → Sound (map seen tokens)
sound_seen [] h = tt
sound_seen (t ∷ ts) h = (subst SoundKind (sym (seen_again t.place t.kind)) h.0, sound_seen ts h.1)

canonical_lexes : (tree : Definitions) → Sound (definitions tree) → Lexes (definitions tree) (lexed (canonical tree))
unfolding lexed canonical
canonical_lexes tree sound = tokens_again false edges.Line 0 [] (definitions tree) (stand-more false (definitions tree) (neighbours.definitions tree).stands) sound

-- each text that spells a tree has the tokens of its canonical text, but for places
same_kinds : (tree : Definitions) (text : List ℕ) → map seen (lexed text).tokens ≡ definitions tree → Lexes (definitions tree) (lexed (canonical tree)) → kinds (lexed (canonical tree)).tokens ≡ kinds (lexed text).tokens
same_kinds tree text spelled lexes = lexes.kinds_are ∙ ap (map kind_of) (sym spelled) ∙ kinds_seen (lexed text).tokens

pub canonical_keeps : (tree : Definitions) → KeepsTree (canonical tree) tree
canonical_keeps tree text bytes spelled =
    let sound : Sound (definitions tree) = subst Sound spelled (sound_seen (lexed text).tokens (sound_tokens text bytes)) in
    let lexes = canonical_lexes tree sound in
    let printed : List Token = (lexed (canonical tree)).tokens in
    let same : kinds printed ≡ kinds (lexed text).tokens = same_kinds tree text spelled lexes in
    let move : Place → Place = relocated (lexed text).tokens printed in
    let there : map seen printed ≡ map (moved_seen move) (map seen (lexed text).tokens) = relocated_tokens text printed same in
    record {
      no_fault = lexes.no_fault;
      same_tokens = same;
      same_tree = (move, there ∙ ap (map (moved_seen move)) spelled ∙ sym (moving.definitions move tree));
      same_depth = λ most. ap (room most) there ∙ room_moved move most (map seen (lexed text).tokens);
    }
