-- The traces that are kept of a list tell the changes of its last commands.
use Rattle.std.proofs.Common.{◌≡◌, ℕ, zero, suc, ◌+◌, ◌-◌, ◌<◌, ◌≤◌, nat_lt, Bool, true, false, if◌then◌else◌, List, [], ◌∷◌, ◌++◌, length, drop, get_or, refl, ap, sym, ◌∙◌, subst, arith, append_assoc, length-append}
use Rattle.std.proofs.lemmas.List.{append-nil, length-drop, drop-drop, drop-append-le, at_drop_more, at_drop_all}
use Rattle.std.proofs.lemmas.Bool.Decides.{nat_tests}
use mathlib.Core.List.{IsPrefix}
use Rattle.logbook.specs.Pages.{Book}
use Rattle.rr_types.specs.declared.command.Command.{Command}
use Rattle.rr_window.specs.declared.change.Change.{Change}
use Rattle.rr_window.specs.Changes.{change_of, told, changes_with}
use Rattle.rr_window.specs.Watches.{Trace, IsWatched, trace_of, traces_of, with_trace, kept_traces, told_of, told_behind}

-- there is a trace for each command
pub traces_length : (b : Book) (list cs : List Command) → length (traces_of b list cs) ≡ length cs
traces_length b list [] = refl
traces_length b list (c ∷ cs) = ap suc (traces_length b (list ++ c ∷ []) cs)

pub traces_append : (b : Book) (list xs ys : List Command) → traces_of b list (xs ++ ys) ≡ traces_of b list xs ++ traces_of b (list ++ xs) ys
traces_append b list [] ys = ap (λ l. traces_of b l ys) (sym (append-nil list))
traces_append b list (x ∷ xs) ys =
    ap (λ ts. trace_of b list x ∷ ts)
    (traces_append b (list ++ x ∷ []) xs ys ∙ ap (λ l. traces_of b (list ++ x ∷ []) xs ++ traces_of b l ys) (append_assoc list (x ∷ []) xs))

pub told_append : (prefix : List ℕ) (n : ℕ) (xs ys : List Trace) → told_behind prefix n (xs ++ ys) ≡ told_behind prefix n xs ++ told_behind prefix n ys
told_append prefix n [] ys = refl
told_append prefix n (x ∷ xs) ys =
    let first = if nat_lt n (length x.beginning.list) then told prefix x.change else [] in
    ap (λ rest. first ++ rest) (told_append prefix n xs ys) ∙ sym (append_assoc first (told_behind prefix n xs) (told_behind prefix n ys))

-- what is told of the traces that are left, one step on and at the end
pub told_step : (prefix : List ℕ) (n : ℕ) (ts : List Trace) (i : ℕ) (d : Trace) → i < length ts
    → told_behind prefix n (drop i ts) ≡ told_of prefix n (get_or ts i d) ++ told_behind prefix n (drop (i + 1) ts)
told_step prefix n ts i d less = at_drop_more (told_behind prefix n) ts i d less

pub told_end : (prefix : List ℕ) (n : ℕ) (ts : List Trace) (i : ℕ) → length ts ≤ i → told_behind prefix n (drop i ts) ≡ []
told_end prefix n ts i all = at_drop_all (told_behind prefix n) ts i all

-- all traces behind so many commands are told
told_all : (prefix : List ℕ) (n : ℕ) (b : Book) (list cs : List Command) → n ≤ length list → told_behind prefix n (traces_of b list cs) ≡ changes_with prefix list cs
told_all prefix n b list [] le = refl
told_all prefix n b list (c ∷ cs) le =
    let longer : length (list ++ c ∷ []) ≡ length list + 1 = length-append list (c ∷ []) in
    let is : nat_lt n (length (list ++ c ∷ [])) ≡ true = grind (arith, nat_tests) in
    let rest = told_all prefix n b (list ++ c ∷ []) cs (omega arith) in
    rw is (ap (λ r. told prefix (change_of list c) ++ r) rest)

-- no trace of the commands before is told
told_none : (prefix : List ℕ) (n : ℕ) (b : Book) (list cs : List Command) → length list + length cs ≤ n → told_behind prefix n (traces_of b list cs) ≡ []
told_none prefix n b list [] le = refl
told_none prefix n b list (c ∷ cs) le =
    let longer : length (list ++ c ∷ []) ≡ length list + 1 = length-append list (c ∷ []) in
    let is : nat_lt n (length (list ++ c ∷ [])) ≡ false = grind (arith, nat_tests) in
    rw is (told_none prefix n b (list ++ c ∷ []) cs (omega arith))

right_empty : (xs ys : List Change) → xs ++ ys ≡ [] → ys ≡ []
right_empty [] ys is = is
right_empty (x ∷ xs) ys is = absurd (cc is)

told_drop : (prefix : List ℕ) (n k : ℕ) (ts : List Trace) → told_behind prefix n ts ≡ [] → told_behind prefix n (drop k ts) ≡ []
told_drop prefix n zero ts is = is
told_drop prefix n (suc k) [] is = refl
told_drop prefix n (suc k) (t ∷ ts) is = told_drop prefix n k ts (right_empty (if nat_lt n (length t.beginning.list) then told prefix t.change else []) (told_behind prefix n ts) is)

-- what is kept tells all changes of a piece, if it reaches back to that
pub told_piece : (prefix : List ℕ) (b : Book) (old piece : List Command) → length (old ++ piece) - 1024 ≤ length old
    → told_behind prefix (length old) (kept_traces b (old ++ piece)) ≡ changes_with prefix old piece
told_piece prefix b old piece le =
    let k = length (old ++ piece) - 1024 in
    let ts = traces_of b [] old in
    let us = traces_of b old piece in
    let split : drop k (traces_of b [] (old ++ piece)) ≡ drop k ts ++ us =
    ap (drop k) (traces_append b [] old piece) ∙ drop-append-le k ts us (subst (λ n. k ≤ n) (sym (traces_length b [] old)) le) in
    let none : told_behind prefix (length old) (drop k ts) ≡ [] = told_drop prefix (length old) k ts (told_none prefix (length old) b [] old (omega arith)) in
    ap (told_behind prefix (length old)) split ∙ told_append prefix (length old) (drop k ts) us ∙ ap (λ r. r ++ told_behind prefix (length old) us) none ∙ told_all prefix (length old) b old piece (omega arith)

-- one more trace behind the last ones that are kept
push_kept : (ts : List Trace) (t : Trace) (small : Bool) → nat_lt (length (drop (length ts - 1024) ts)) 1024 ≡ small
    → (if small then drop (length ts - 1024) ts else drop 1 (drop (length ts - 1024) ts)) ++ t ∷ [] ≡ drop (length (ts ++ t ∷ []) - 1024) (ts ++ t ∷ [])
push_kept ts t true is =
    let more : length (ts ++ t ∷ []) ≡ length ts + 1 = length-append ts (t ∷ []) in
    let kept : length (drop (length ts - 1024) ts) ≡ length ts - (length ts - 1024) = length-drop (length ts - 1024) ts in
    let few : length ts < 1024 = grind (arith, nat_tests) in
    let none : length ts - 1024 ≡ 0 = omega arith in
    let none_more : length (ts ++ t ∷ []) - 1024 ≡ 0 = omega arith in
    ap (λ k. drop k ts ++ t ∷ []) none ∙ sym (ap (λ k. drop k (ts ++ t ∷ [])) none_more)
push_kept ts t false is =
    let more : length (ts ++ t ∷ []) ≡ length ts + 1 = length-append ts (t ∷ []) in
    let kept : length (drop (length ts - 1024) ts) ≡ length ts - (length ts - 1024) = length-drop (length ts - 1024) ts in
    let many : 1024 ≤ length ts = grind (arith, nat_tests) in
    let one_more : (length ts - 1024) + 1 ≡ length (ts ++ t ∷ []) - 1024 = omega arith in
    ap (λ xs. xs ++ t ∷ []) (drop-drop 1 (length ts - 1024) ts) ∙ ap (λ k. drop k ts ++ t ∷ []) one_more
    ∙ sym (drop-append-le (length (ts ++ t ∷ []) - 1024) ts (t ∷ []) (omega arith))

-- the trace of the next command behind those that are kept
pub kept_more : (b : Book) (list : List Command) (c : Command) → with_trace (kept_traces b list) (trace_of b list c) ≡ kept_traces b (list ++ c ∷ [])
kept_more b list c =
    let ts = traces_of b [] list in
    let t = trace_of b list c in
    let all : traces_of b [] (list ++ c ∷ []) ≡ ts ++ t ∷ [] = traces_append b [] list (c ∷ []) in
    let n : length ts ≡ length list = traces_length b [] list in
    let m : length (ts ++ t ∷ []) ≡ length (list ++ c ∷ []) = ap length (sym all) ∙ traces_length b [] (list ++ c ∷ []) in
    let pushed = push_kept ts t (nat_lt (length (drop (length ts - 1024) ts)) 1024) refl in
    subst (λ k. with_trace (drop (k - 1024) ts) t ≡ kept_traces b (list ++ c ∷ [])) n
    (pushed ∙ ap (λ k. drop (k - 1024) (ts ++ t ∷ [])) m ∙ ap (drop (length (list ++ c ∷ []) - 1024)) (sym all))

-- how many traces are kept of a list
kept_length : (b : Book) (list : List Command) → length (kept_traces b list) ≡ length list - (length list - 1024)
kept_length b list = length-drop (length list - 1024) (traces_of b [] list) ∙ ap (λ n. n - (length list - 1024)) (traces_length b [] list)

-- a list that is longer by more than what is kept is longer by more than 1,024
pub is_late : (b : Book) (old new : List Command) (recent : List Trace) → length recent < length new - length old → recent ≡ kept_traces b new → length old + 1024 < length new
is_late b old new recent less is =
    let kept : length recent ≡ length new - (length new - 1024) = ap length is ∙ kept_length b new in
    omega arith

-- what is kept tells one who watched up to a beginning of the list, where it reaches back to that
pub is_watched : (prefix : List ℕ) (b : Book) (old new : List Command) (recent : List Trace) (n : ℕ) (changes : List Change) → changes ≡ told_behind prefix n recent → n ≡ length old
    → recent ≡ kept_traces b new → IsPrefix old new → length new - length old ≤ length recent → IsWatched prefix old new changes
is_watched prefix b old new recent n changes told count is begins le =
    let piece = begins.0 in
    let whole : new ≡ old ++ piece = sym begins.1 in
    let kept : length recent ≡ length new - (length new - 1024) = ap length is ∙ kept_length b new in
    let reaches : length new - 1024 ≤ length old = omega (arith, ap length whole, length-append old piece) in
    let all : told_behind prefix (length old) (kept_traces b (old ++ piece)) ≡ changes_with prefix old piece =
    told_piece prefix b old piece (subst (λ (l : List Command). length l - 1024 ≤ length old) whole reaches) in
    let same : told_behind prefix n recent ≡ told_behind prefix (length old) (kept_traces b (old ++ piece)) =
    ap (λ k. told_behind prefix k recent) count ∙ ap (told_behind prefix (length old)) (is ∙ ap (kept_traces b) whole) in
    (piece, whole, told ∙ same ∙ all)
