-- A watch goes on: what was told before and what is told now are the changes of one piece of a list.
use Rattle.std.proofs.Common.{◌≡◌, ◌∙◌, ℕ, List, [], ◌∷◌, ◌++◌, length, drop, refl, ap, ap₂, sym, append_assoc}
use Rattle.std.proofs.lemmas.List.{append-nil}
use Rattle.std.proofs.lemmas.List.Concat.{flat_map-append}
use Rattle.rr_types.specs.declared.command.Command.{Command}
use Rattle.rr_window.specs.declared.change.Change.{Change}
use Rattle.rr_window.specs.Changes.{change_of, told, changes_with}
use Rattle.rr_window.specs.Watches.{IsWatched}
use Rattle.rr_shell.specs.Watches.{IsPiece}
use Rattle.rr_run.specs.declared.news.News.{News}
use Rattle.rr_run.specs.News.{told_by}

-- the changes of two pieces, one behind the other
pub changes_on : (prefix : List ℕ) (list xs ys : List Command) → changes_with prefix list (xs ++ ys) ≡ changes_with prefix list xs ++ changes_with prefix (list ++ xs) ys
changes_on prefix list [] ys = ap (λ (l : List Command). changes_with prefix l ys) (sym (append-nil list))
changes_on prefix list (c ∷ cs) ys =
    let first = told prefix (change_of list c) in
    let rest = changes_with prefix (list ++ c ∷ []) cs in
    ap (λ (l : List Change). first ++ l)
    (changes_on prefix (list ++ c ∷ []) cs ys ∙ ap (λ (l : List Command). rest ++ changes_with prefix l ys) (append_assoc list (c ∷ []) cs))
    ∙ sym (append_assoc first rest (changes_with prefix (list ++ c ∷ cs) ys))

-- what follows a front
pub behind_front : (front rest : List Command) → drop (length front) (front ++ rest) ≡ rest
behind_front [] rest = refl
behind_front (c ∷ cs) rest = behind_front cs rest

-- a list that goes on goes on from where a watch began
pub goes_on : (begun reached new piece : List Command) → reached ≡ begun ++ drop (length begun) reached → new ≡ reached ++ piece
    → drop (length begun) new ≡ drop (length begun) reached ++ piece
goes_on begun reached new piece from to =
    let middle = drop (length begun) reached in
    ap (λ (l : List Command). drop (length begun) l) (to ∙ ap (λ (l : List Command). l ++ piece) from ∙ append_assoc begun middle piece)
    ∙ behind_front begun (middle ++ piece)

pub reaches_on : (prefix : List ℕ) (begun reached new : List Command) (changes : List Change) → reached ≡ begun ++ drop (length begun) reached
    → IsWatched prefix reached new changes → new ≡ begun ++ drop (length begun) new
reaches_on prefix begun reached new changes from (piece, to, is) =
    let middle = drop (length begun) reached in
    (to ∙ ap (λ (l : List Command). l ++ piece) from ∙ append_assoc begun middle piece)
    ∙ ap (λ (l : List Command). begun ++ l) (sym (goes_on begun reached new piece from to))

pub tells_on : (prefix : List ℕ) (begun reached new : List Command) (before changes : List Change) → reached ≡ begun ++ drop (length begun) reached
    → before ≡ changes_with prefix begun (drop (length begun) reached)
    → IsWatched prefix reached new changes → before ++ changes ≡ changes_with prefix begun (drop (length begun) new)
tells_on prefix begun reached new before changes from tells (piece, to, is) =
    let middle = drop (length begun) reached in
    ap₂ (λ (l m : List Change). l ++ m) tells (is ∙ ap (λ (l : List Command). changes_with prefix l piece) from)
    ∙ sym (changes_on prefix begun middle piece)
    ∙ ap (λ (l : List Command). changes_with prefix begun l) (sym (goes_on begun reached new piece from to))

-- they are those of a piece
pub piece_on : (prefix : List ℕ) (begun reached new : List Command) (before changes : List Change) → reached ≡ begun ++ drop (length begun) reached
    → before ≡ changes_with prefix begun (drop (length begun) reached) → IsWatched prefix reached new changes → IsPiece prefix (before ++ changes)
piece_on prefix begun reached new before changes from tells watched =
    (begun, drop (length begun) new, tells_on prefix begun reached new before changes from tells watched)

-- what all news tell, with one more
pub told_more : (news : List News) (one : News) → told_by (news ++ one ∷ []) ≡ told_by news ++ one.changes.items
told_more news one =
    flat_map-append (λ (n : News). n.changes.items) news (one ∷ []) ∙ ap (λ (l : List Change). told_by news ++ l) (append-nil one.changes.items)

-- the news with one more tell the changes up to there
pub news_on : (prefix : List ℕ) (begun reached new : List Command) (first old now : List News) (one : News) → old ≡ first → now ≡ old ++ one ∷ []
    → reached ≡ begun ++ drop (length begun) reached → told_by first ≡ changes_with prefix begun (drop (length begun) reached)
    → IsWatched prefix reached new one.changes.items → told_by now ≡ changes_with prefix begun (drop (length begun) new)
news_on prefix begun reached new first old now one same more from tells watched =
    ap told_by (more ∙ ap (λ (l : List News). l ++ one ∷ []) same) ∙ told_more first one
    ∙ tells_on prefix begun reached new (told_by first) one.changes.items from tells watched
