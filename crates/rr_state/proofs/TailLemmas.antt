-- What came last goes again.
use Rattle.std.proofs.Common.{◌≡◌, ◌+◌, ◌≤◌, Option, Some, None, option_map, unwrap_or, ◌-◌, ℕ, zero, suc, arith, List, [], ◌∷◌, length, take, drop, ap, ◌∙◌, refl, subst}
use Rattle.std.proofs.lemmas.List.{length-drop, drop-take}
use Rattle.rr_types.specs.declared.fact.Fact.{Fact}
use Rattle.rr_state.specs.Staging.{Staging}

take_front : {X : Type 0} (k n : ℕ) (xs : List X) → k ≤ n → take k (take n xs) ≡ take k xs
take_front zero n xs l = refl
take_front (suc k) zero xs l = absurd (omega arith)
take_front (suc k) (suc n) [] l = refl
take_front (suc k) (suc n) (x ∷ xs) l = ap (λ (t : List _). x ∷ t) (take_front k n xs (omega arith))

-- facts of the running group stay where the last ones go
pub running_stays : (running : Option ℕ) (n : ℕ) (items : List Fact) → unwrap_or running 0 ≤ n → option_map (λ k. take k (take n items)) running ≡ option_map (λ k. take k items) running
running_stays None n items l = refl
running_stays (Some k) n items l = ap (λ (t : List Fact). Some t) (take_front k n items l)

pub staged_back : (k m n : ℕ) (items : List Fact) → k ≤ length items → m ≤ length items - k → n ≡ length items - m → drop k (take n items) ≡ take (length (drop k items) - m) (drop k items)
staged_back k m n items l h e =
    let count : length (drop k items) ≡ length items - k = length-drop k items in
    let is : n ≡ k + (length (drop k items) - m) = omega arith in
    ap (λ (j : ℕ). drop k (take j items)) is ∙ drop-take k (length (drop k items) - m) items

pub taken_back : (running : Option ℕ) (items after : List Fact) (now : Staging) (m n : ℕ) → ◌≡◌ {A = Staging} (record { running = option_map (λ k. take k items) running; staged = drop (unwrap_or running 0) items }) now → unwrap_or running 0 ≤ length items → m ≤ length now.staged → n ≡ length items - m → after ≡ take n items → ◌≡◌ {A = Staging} (record { running = option_map (λ k. take k after) running; staged = drop (unwrap_or running 0) after }) (record { running = now.running; staged = take (length now.staged - m) now.staged })
taken_back running items after now m n e l h f g = subst (λ (s : Staging). m ≤ length s.staged → made after ≡ record { running = s.running; staged = take (length s.staged - m) s.staged }) e here h
  where
    made : List Fact → Staging
    made fs = record { running = option_map (λ k. take k fs) running; staged = drop (unwrap_or running 0) fs }

    here : m ≤ length (drop (unwrap_or running 0) items) → made after ≡ record { running = option_map (λ k. take k items) running; staged = take (length (drop (unwrap_or running 0) items) - m) (drop (unwrap_or running 0) items) }
    here i =
        let count : length (drop (unwrap_or running 0) items) ≡ length items - unwrap_or running 0 = length-drop (unwrap_or running 0) items in
        let front : option_map (λ k. take k (take n items)) running ≡ option_map (λ k. take k items) running = running_stays running n items (omega arith) in
        let back : drop (unwrap_or running 0) (take n items) ≡ take (length (drop (unwrap_or running 0) items) - m) (drop (unwrap_or running 0) items) = staged_back (unwrap_or running 0) m n items l (omega arith) f in
        ap made g ∙ ap (λ (t : Option (List Fact)). staging t (drop (unwrap_or running 0) (take n items))) front ∙ ap (λ (t : List Fact). staging (option_map (λ k. take k items) running) t) back
      where
        staging : Option (List Fact) → List Fact → Staging
        staging r t = record { running = r; staged = t }
