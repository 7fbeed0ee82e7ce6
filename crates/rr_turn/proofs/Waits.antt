-- How often a client has rested.
use Rattle.std.proofs.Common.{◌≡◌, ◌++◌, ◌∷◌, [], ◌≤◌, ◌+◌, ℕ, zero, suc, true, false, refl, sym, ap, subst, arith}
use Rattle.rr_turn.specs.Asked.{Call, Ran, still, more, sees_told, sees_end, rests_there}
use Rattle.rr_turn.specs.Waits.{waits, is_told, is_ending, is_late, WaitsAt}
use Rattle.rr_turn.proofs.Runs.{run_join}

waits_more : (n : ℕ) → waits (suc n) ≡ waits n ++ (sees_told false ∷ sees_end false ∷ rests_there ∷ [])
unfolding waits
waits_more zero = refl
waits_more (suc n) = ap (λ l. sees_told false ∷ sees_end false ∷ rests_there ∷ l) (waits_more n)

module _ {E : Type 0} (gives : E → Call → E → Type 0) where
  -- it hasn't rested yet
  pub waits_none : (from : E) → Ran gives (waits 0) from from
  unfolding waits
  waits_none from = still from

  -- once more
  pub waits_on : (n : ℕ) (from told_at end_at at to : E) → Ran gives (waits n) from at → gives at (sees_told false) told_at → gives told_at (sees_end false) end_at → gives end_at rests_there to
      → Ran gives (waits (n + 1)) from to
  waits_on n from told_at end_at at to ran told ending rested =
      let more_by : suc n ≡ n + 1 = omega arith in
      subst (λ k. Ran gives (waits k) from to) more_by
      (subst (λ cs. Ran gives cs from to) (sym (waits_more n))
      (run_join gives (waits n) (sees_told false ∷ sees_end false ∷ rests_there ∷ []) from at to ran
      (more (sees_told false) (sees_end false ∷ rests_there ∷ []) at told_at to told
      (more (sees_end false) (rests_there ∷ []) told_at end_at to ending (more rests_there [] end_at to to rested (still to))))))

  -- it is told
  pub waited_told : (looks n : ℕ) (from at to : E) → n ≤ looks → Ran gives (waits n) from at → gives at (sees_told true) to → WaitsAt gives looks n from to
  waited_told looks n from at to few ran told = record {
    stop = is_told;
    calls = run_join gives (waits n) (sees_told true ∷ []) from at to ran (more (sees_told true) [] at to to told (still to));
    few = few;
    late = λ e. absurd cc;
  }

  -- its node goes down
  pub waited_down : (looks n : ℕ) (from at mid to : E) → n ≤ looks → Ran gives (waits n) from at → gives at (sees_told false) mid → gives mid (sees_end true) to → WaitsAt gives looks n from to
  waited_down looks n from at mid to few ran told ending = record {
    stop = is_ending;
    calls = run_join gives (waits n) (sees_told false ∷ sees_end true ∷ []) from at to ran
        (more (sees_told false) (sees_end true ∷ []) at mid to told (more (sees_end true) [] mid to to ending (still to)));
    few = few;
    late = λ e. absurd cc;
  }

  -- it has looked as often as it may
  pub waited_late : (looks n : ℕ) (from to : E) → n ≡ looks → Ran gives (waits n) from to → WaitsAt gives looks looks from to
  waited_late looks n from to full ran = record {
    stop = is_late;
    calls = run_join gives (waits looks) [] from to to (subst (λ k. Ran gives (waits k) from to) full ran) (still to);
    few = omega arith;
    late = λ e. refl;
  }
