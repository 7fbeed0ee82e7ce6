-- More ways lead to more inboxes, and more nodes have their mail.
use Rattle.std.proofs.Common.{◌≡◌, ◌∙◌, ◌++◌, ◌∷◌, [], ◌+◌, ◌≤◌, ℕ, List, Result, Ok, Err, Some, length, take, sym, ap}
use Rattle.std.specs.Prelude.{map, slice_get, IfOk, OnErr}
use Rattle.std.proofs.lemmas.List.{take_more, map-append}
use Rattle.std.proofs.lemmas.Option.{slice_get_within, get_or_from_slice_get}
use Rattle.rr_window.specs.InOrder.{End, end_of, new_end, one_more}

-- one more has the next name
pub next_named : {A N : Type 0} (f : A → N) (names : List N) (xs : List A) (x : A) (p : ℕ) → map f xs ≡ take p names → slice_get names p ≡ Some (f x)
    → map f (xs ++ x ∷ []) ≡ take (p + 1) names
next_named f names xs x p are is =
    map-append f xs (x ∷ []) ∙ ap (λ l. l ++ f x ∷ []) are
    ∙ sym (take_more names p (f x) (slice_get_within names p (f x) is) ∙ ap (λ n. take p names ++ n ∷ []) (get_or_from_slice_get names p (f x) (f x) is))

-- an inbox that is asked for a port stays the same inbox
pub same_inbox : {Q T E : Type 0} (r : Result (End Q T) E) (old new : End Q T)
    → IfOk r (λ port. (port ≡ end_of old.queue (new_end old.view)) × (new ≡ end_of old.queue (one_more old.view))) → OnErr r (new ≡ old) → new.queue ≡ old.queue
same_inbox (Ok port) old new is same = ap (λ o. o.queue) is.1
same_inbox (Err e) old new is same = ap (λ o. o.queue) same
