-- When the pool has no command for an instance that no fact names.
use Rattle.std.proofs.Common.{◌≡◌, ℕ, ◌-◌, arith, length, length-append, take, Bool, true, false, eqb, cond, not, ◌&&◌, ◌||◌, List, [], ◌∷◌, ◌++◌, ap, sym, ◌∙◌, refl, subst, Option, Some, None, option_map, append-nil}
use Rattle.std.specs.Prelude.{find}
use Rattle.std.proofs.Math.Seq.{take-append_seam}
use Rattle.rr_types.specs.declared.command.RequestNo.{RequestNo}
use Rattle.std.specs.List.{list_any}
use Rattle.std.specs.Option.{option_map_or}
use Rattle.std.proofs.lemmas.Bool.{eqb-true}
use Rattle.std.proofs.lemmas.Option.{none-some}
use Rattle.rr_types.specs.declared.command.Command.{Command}
use Rattle.rr_types.specs.declared.promise.Standing.{Standing}
use Rattle.rr_types.specs.Commands.{is_same_command}
use Rattle.rr_types.specs.Standings.{estimate_of}
use Rattle.rr_model.specs.NodeState.{Row, row_of, put_row, is_decided, lowest_undecided}
use Rattle.rr_state.specs.Rowed.{AscendFrom}
use Rattle.rr_core.specs.Places.{first_free, is_estimate_of, is_estimate_beside}
use Rattle.rr_core.specs.Steps.{put_rows, without_requests, IsSpent, IsFrontSpent}
use Rattle.rr_core.proofs.OverLemmas.{row_of_put, open_stays, tally_keeps, changed_ascend}
use Rattle.rr_core.proofs.PoolLemmas.{none_taken}

any_same : (p q : ℕ → Bool) (xs : List ℕ) → ((j : ℕ) → p j ≡ q j) → list_any p xs ≡ list_any q xs
any_same p q [] h = refl
any_same p q (x ∷ xs) h = rw (h x) (ap (λ (b : Bool). q x || b) (any_same p q xs h))

pub find_same : (p q : Command → Bool) (cs : List Command) → ((c : Command) → p c ≡ q c) → find p cs ≡ find q cs
find_same p q [] h = refl
find_same p q (c ∷ cs) h = rw (h c) (ap (λ (o : Option Command). cond (q c) (Some c) o) (find_same p q cs h))

abbrev stands_at : List Row → ℕ → Option Standing
stands_at rows j = option_map (λ (q : Row). q.standing) (row_of rows j)

-- where all instances stand as before, the same command is free
free_same : (rows after : List Row) (is : List ℕ) (i : ℕ) (pool : List Command) → ((j : ℕ) → stands_at after j ≡ stands_at rows j) → first_free after is i pool ≡ first_free rows is i pool
unfolding first_free is_estimate_beside is_estimate_of
free_same rows after is i pool h =
    find_same (λ c. not (is_estimate_beside after is i c)) (λ c. not (is_estimate_beside rows is i c)) pool
    (λ c. ap not (any_same (λ j. not (eqb j i) && is_estimate_of after j c) (λ j. not (eqb j i) && is_estimate_of rows j c) is
    (λ j. ap (λ (s : Option Standing). not (eqb j i) && option_map_or (λ v. is_same_command v c) (estimate_of s) false) (h j))))

stands_same : (rows : List Row) (r : Row) → stands_at rows r.instance ≡ Some r.standing → (j : ℕ) → stands_at (put_row r rows) j ≡ stands_at rows j
stands_same rows r h j = ap (λ (x : Option Row). option_map (λ (q : Row). q.standing) x) (row_of_put r rows j) ∙ by (eqb r.instance j) refl
  where
    by : (b : Bool) → eqb r.instance j ≡ b → option_map (λ (q : Row). q.standing) (cond b (Some r) (row_of rows j)) ≡ stands_at rows j
    by true e = sym h ∙ ap (λ (i : ℕ). stands_at rows i) (eqb-true _ _ e)
    by false e = refl

pub not_named : (rows : List Row) (r : Row) (i : ℕ) → row_of (put_row r rows) i ≡ None → row_of rows i ≡ None
not_named rows r i n = by (eqb r.instance i) (sym (row_of_put r rows i) ∙ n)
  where
    by : (b : Bool) → cond b (Some r) (row_of rows i) ≡ None → row_of rows i ≡ None
    by true e = absurd (none-some r (sym e))
    by false e = e

-- a tally changes nothing of it
pub spent_stays : (rows : List Row) (r : Row) (pool : List Command) → AscendFrom 0 rows → stands_at rows r.instance ≡ Some r.standing → is_decided r ≡ false → IsSpent rows pool → IsSpent (put_row r rows) pool
spent_stays rows r pool a h d s = record {
  none = λ i n.
      ap (λ (xs : List ℕ). first_free (put_row r rows) xs i pool) (open_stays (r ∷ []) rows a (tally_keeps rows r h, tt) (rw d refl) 8 0)
      ∙ free_same rows (put_row r rows) (lowest_undecided 8 0 rows) i pool (stands_same rows r h)
      ∙ s.none i (not_named rows r i n);
}

pub tally_spent : (rs after rows : List Row) (r : Row) (pool : List Command) → AscendFrom 0 rows → put_rows after rows ≡ put_row r (put_rows rs rows) → stands_at (put_rows rs rows) r.instance ≡ Some r.standing → is_decided r ≡ false → IsSpent (put_rows rs rows) pool → IsSpent (put_rows after rows) pool
tally_spent rs after rows r pool a e h d s = subst (λ (os : List Row). IsSpent os pool) (sym e) (spent_stays (put_rows rs rows) r pool (changed_ascend rs rows a) h d s)

-- nor does a step that has changed nothing
pub none_spent : (rows : List Row) (pool : List Command) → IsSpent rows pool → IsSpent rows (without_requests [] (pool ++ []))
none_spent rows pool s = subst (IsSpent rows) (sym (ap (without_requests []) (append-nil pool) ∙ none_taken pool)) s

-- a command is pooled last
pub front_pushed : (rows : List Row) (taken : List RequestNo) (pool pooled : List Command) (c : Command) → IsSpent rows (without_requests taken (pool ++ pooled)) → IsFrontSpent rows taken pool (pooled ++ c ∷ [])
front_pushed rows taken pool pooled c s =
    let l = length-append pooled (c ∷ []) in
    let n : length (pooled ++ c ∷ []) - 1 ≡ length pooled = omega (arith, l) in
    subst (λ (cs : List Command). IsSpent rows (without_requests taken (pool ++ cs))) (sym (ap (λ k. take k (pooled ++ c ∷ [])) n ∙ take-append_seam pooled (c ∷ []))) s
