-- What looks that follow one another tell together.
use Rattle.std.proofs.Common.{◌≡◌, ℕ, Bool, List, [], ◌∷◌, ◌++◌, Some, Result, Ok, Err, refl, ap, sym, ◌∙◌, subst, append_assoc}
use Rattle.std.proofs.lemmas.List.{append-nil}
use mathlib.Core.List.{IsPrefix}
use Rattle.rr_types.specs.declared.command.Command.{Command}
use Rattle.rr_window.specs.declared.change.Change.{Change}
use Rattle.rr_window.specs.Changes.{change_of, told, changes_with}
use Rattle.rr_window.specs.Watches.{IsWatched}
use Rattle.rr_client.specs.declared.error.ClusterError.{ClusterError}
use Rattle.rr_client.specs.declared.error.ClusterError.TheVariants.{Over, Unseen, OutOfMemory, Late, System}
use Rattle.rr_client.specs.declared.names.Awaited.{Awaited}
use Rattle.rr_client.specs.declared.names.Awaited.TheVariants.{Changed, TimeIsOver}
use Rattle.rr_client.specs.Asking.{Asker, IsTold, IsToldOf, IsQuiet, IsAwaited, IsLookedFor}

-- the changes of one piece and of the next are those of both
changes_append : (prefix : List ℕ) (list xs ys : List Command) → changes_with prefix list (xs ++ ys) ≡ changes_with prefix list xs ++ changes_with prefix (list ++ xs) ys
changes_append prefix list [] ys = ap (λ l. changes_with prefix l ys) (sym (append-nil list))
changes_append prefix list (x ∷ xs) ys =
    let first = told prefix (change_of list x) in
    let rest = changes_with prefix (list ++ x ∷ []) xs in
    ap (λ cs. first ++ cs) (changes_append prefix (list ++ x ∷ []) xs ys ∙ ap (λ l. rest ++ changes_with prefix l ys) (append_assoc list (x ∷ []) xs))
    ∙ sym (append_assoc first rest (changes_with prefix (list ++ x ∷ xs) ys))

-- where nothing is told of a first piece, all that is told of both is what is told of the second
pub watched_on : (prefix : List ℕ) (a b c : List Command) (changes : List Change) → IsWatched prefix a b [] → IsWatched prefix b c changes → IsWatched prefix a c changes
watched_on prefix a b c changes first second =
    let one = first.0 in
    let other = second.0 in (
      one ++ other,
      second.1 ∙ ap (λ l. l ++ other) first.1 ∙ append_assoc a one other,
      second.2 ∙ ap (λ l. changes_with prefix l other) first.1 ∙ ap (λ cs. cs ++ changes_with prefix (a ++ one) other) first.2 ∙ sym (changes_append prefix a one other),
    )

-- nothing is told of a list that is told already
pub watched_self : (prefix : List ℕ) (a : List Command) → IsWatched prefix a a []
watched_self prefix a = ([], sym (append-nil a), refl)

prefix_on : (a b c : List Command) → IsPrefix a b → IsPrefix b c → IsPrefix a c
prefix_on a b c first second = (first.0 ++ second.0, sym (append_assoc a first.0 second.0) ∙ ap (λ l. l ++ second.0) first.1 ∙ second.1)

-- a client that has looked no more is quiet
pub quiet_self : (prefix : List ℕ) (a : Asker) → IsQuiet prefix a a
quiet_self prefix a = (refl, refl, ([], append-nil a.known), refl, refl, watched_self prefix a.told)

-- a look that tells nothing leaves a client quiet
pub quiet_told : (prefix : List ℕ) (a b : Asker) (changes : List Change) → IsTold a b → IsWatched prefix a.told b.told changes → changes ≡ [] → IsQuiet prefix a b
quiet_told prefix a b changes told watched none =
    (told.0, told.1, told.2, told.3, told.4, subst (λ cs. IsWatched prefix a.told b.told cs) none watched)

pub quiet_on : (prefix : List ℕ) (a b c : Asker) → IsQuiet prefix a b → IsQuiet prefix b c → IsQuiet prefix a c
quiet_on prefix a b c first second = (
  second.0 ∙ first.0,
  second.1 ∙ first.1,
  prefix_on a.known b.known c.known first.2 second.2,
  second.3 ∙ first.3,
  second.4 ∙ first.4,
  watched_on prefix a.told b.told c.told [] first.5 second.5,
)

told_on : (prefix : List ℕ) (a b c : Asker) → IsQuiet prefix a b → IsTold b c → IsTold a c
told_on prefix a b c first second =
    (second.0 ∙ first.0, second.1 ∙ first.1, prefix_on a.known b.known c.known first.2 second.2, second.3 ∙ first.3, second.4 ∙ first.4, second.5)

-- an error of a look for changes is one of a wait
pub told_error : (prefix : List ℕ) (a b : Asker) (e : ClusterError) → IsToldOf prefix a b (Err e) → IsAwaited prefix a b (Err e)
told_error prefix a b Late told = (told.0, (a.told, watched_self prefix a.told, told.1))
told_error prefix a b Unseen told = subst (λ x. IsQuiet prefix a x) (sym told) (quiet_self prefix a)
told_error prefix a b OutOfMemory told = subst (λ x. IsQuiet prefix a x) (sym told) (quiet_self prefix a)
told_error prefix a b _ told = absurd told

-- what a look gives behind looks that told nothing is what the wait gives
pub awaited_on : (prefix : List ℕ) (a b c : Asker) (result : Result Awaited ClusterError) → IsQuiet prefix a b → IsAwaited prefix b c result → IsAwaited prefix a c result
awaited_on prefix a b c (Ok (Changed v)) first second = (told_on prefix a b c first second.0, watched_on prefix a.told b.told c.told v.items first.5 second.1, second.2)
awaited_on prefix a b c (Ok TimeIsOver) first second = (told_on prefix a b c first second.0, watched_on prefix a.told b.told c.told [] first.5 second.1)
awaited_on prefix a b c (Err Late) first second =
    (told_on prefix a b c first second.0, (second.1.0, watched_on prefix a.told b.told second.1.0 [] first.5 second.1.1, second.1.2))
awaited_on prefix a b c (Err Over) first second = quiet_on prefix a b c first second
awaited_on prefix a b c (Err Unseen) first second = quiet_on prefix a b c first second
awaited_on prefix a b c (Err OutOfMemory) first second = quiet_on prefix a b c first second
awaited_on prefix a b c (Err (System e)) first second = quiet_on prefix a b c first second
awaited_on prefix a b c (Err _) first second = absurd second

-- what a look of a wait gives behind looks that told nothing, where it ends the wait
pub looked_last : (prefix : List ℕ) (late : Bool) (a b c : Asker) (awaited : Awaited) → IsQuiet prefix a b → IsLookedFor prefix late b c (Ok (Some awaited)) → IsAwaited prefix a c (Ok awaited)
looked_last prefix late a b c (Changed v) first second = awaited_on prefix a b c (Ok (Changed v)) first second
looked_last prefix late a b c TimeIsOver first second = awaited_on prefix a b c (Ok TimeIsOver) first second.1
