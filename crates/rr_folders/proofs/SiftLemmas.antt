-- Folders are set aside one after another.
use Rattle.std.proofs.Common.{◌≡◌, ◌+◌, ◌++◌, ◌∙◌, ◌<◌, ℕ, zero, suc, arith, Bool, true, false, cond, List, [], ◌∷◌, length, get_or, set, take, drop, ap, sym, refl, subst}
use Rattle.rr_types.specs.declared.refusal.Refusal.TheVariants.{Device}
use Rattle.rr_types.specs.Nodes.{has_member}
use Rattle.rr_folders.specs.declared.verify_folder.Reading.{Reading}
use Rattle.rr_folders.specs.declared.verify_folder.Reading.TheVariants.{Refused}
use Rattle.rr_folders.specs.Sifts.{set_aside}

-- one more that is set aside, of folders from node p on
one_aside : (w p i : ℕ) (xs : List Reading) → i < length xs → has_member w (p + i) ≡ true
    → set (set_aside w p (take i xs) ++ drop i xs) i (Refused Device) ≡ set_aside w p (take (suc i) xs) ++ drop (suc i) xs
one_aside w p i [] l m = absurd (omega arith)
one_aside w p zero (x ∷ xs) l m =
    let at : has_member w p ≡ true = subst (λ (k : ℕ). has_member w k ≡ true) (omega arith) m in
    ap (λ (b : Bool). cond b (Refused Device) x ∷ xs) (sym at)
one_aside w p (suc i) (x ∷ xs) l m =
    let at : has_member w (p + 1 + i) ≡ true = subst (λ (k : ℕ). has_member w k ≡ true) (omega arith) m in
    ap (λ (v : List Reading). cond (has_member w p) (Refused Device) x ∷ v) (one_aside w (p + 1) i xs (omega arith) at)

-- and one that isn't
one_kept : (w p i : ℕ) (xs : List Reading) → i < length xs → has_member w (p + i) ≡ false
    → set_aside w p (take i xs) ++ drop i xs ≡ set_aside w p (take (suc i) xs) ++ drop (suc i) xs
one_kept w p i [] l m = absurd (omega arith)
one_kept w p zero (x ∷ xs) l m =
    let at : has_member w p ≡ false = subst (λ (k : ℕ). has_member w k ≡ false) (omega arith) m in
    ap (λ (b : Bool). cond b (Refused Device) x ∷ xs) (sym at)
one_kept w p (suc i) (x ∷ xs) l m =
    let at : has_member w (p + 1 + i) ≡ false = subst (λ (k : ℕ). has_member w k ≡ false) (omega arith) m in
    ap (λ (v : List Reading). cond (has_member w p) (Refused Device) x ∷ v) (one_kept w (p + 1) i xs (omega arith) at)

pub aside_more : (w : ℕ) (xs ys : List Reading) (i q : ℕ) → i < length xs → ys ≡ set_aside w 0 (take i xs) ++ drop i xs → q ≡ i → has_member w q ≡ true
    → set ys i (Refused Device) ≡ set_aside w 0 (take (i + 1) xs) ++ drop (i + 1) xs
aside_more w xs ys i q l is at m =
    let more : suc i ≡ i + 1 = omega arith in
    let zeroth : i ≡ 0 + i = omega arith in
    let member : has_member w (0 + i) ≡ true = subst (λ (k : ℕ). has_member w k ≡ true) (at ∙ zeroth) m in
    ap (λ (zs : List Reading). set zs i (Refused Device)) is ∙ one_aside w 0 i xs l member ∙ ap (λ (k : ℕ). set_aside w 0 (take k xs) ++ drop k xs) more

pub kept_more : (w : ℕ) (xs ys : List Reading) (i q : ℕ) → i < length xs → ys ≡ set_aside w 0 (take i xs) ++ drop i xs → q ≡ i → has_member w q ≡ false
    → ys ≡ set_aside w 0 (take (i + 1) xs) ++ drop (i + 1) xs
kept_more w xs ys i q l is at m =
    let more : suc i ≡ i + 1 = omega arith in
    let zeroth : i ≡ 0 + i = omega arith in
    let member : has_member w (0 + i) ≡ false = subst (λ (k : ℕ). has_member w k ≡ false) (at ∙ zeroth) m in
    is ∙ one_kept w 0 i xs l member ∙ ap (λ (k : ℕ). set_aside w 0 (take k xs) ++ drop k xs) more
