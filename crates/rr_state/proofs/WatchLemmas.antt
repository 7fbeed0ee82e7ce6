-- The loop over the watches gathers the late nodes, and a beat changes the watch of its node alone.
use Rattle.std.proofs.Common.{◌≡◌, ◌+◌, ◌++◌, take, map, ◌/◌, ◌^◌, ◌<◌, ◌≤◌, ℕ, zero, suc, arith, Bool, true, false, ◌&&◌, ◌==◌, cond, List, [], ◌∷◌, length, get_or, set, drop, ap, sym, ◌∙◌, refl, if◌then◌else◌}
use Rattle.std.specs.Prelude.{replicate}
use Rattle.std.proofs.lemmas.List.{at_drop_more}
use Rattle.std.proofs.lemmas.Bool.{ne_eqb}
use Rattle.std.proofs.lemmas.List.Edits.{map_over_more}
use Rattle.std.proofs.Math.Nat.{div-eq_of_lt}
use Rattle.std.proofs.lemmas.Grind.{common_steps}
use Rattle.rr_types.specs.Nodes.{with_member}
use Rattle.rr_model.specs.NodeState.{Watch}
use Rattle.rr_model.specs.NodeDetector.{new_watch, ticked, beaten, is_late, all_ticked, heard_beat, late_from}
use Rattle.rr_state.specs.Padded.{IsPadded}

-- a beat changes one watch
pub beat_at : (q : ℕ) (ws : List Watch) (x : Watch) → q < length ws → x ≡ get_or ws q x → set ws q (beaten x) ≡ heard_beat q ws
beat_at q [] x l e = absurd (omega arith)
beat_at zero (w ∷ ws) x l e = ap (λ (v : Watch). beaten v ∷ ws) e
beat_at (suc q) (w ∷ ws) x l e = ap (λ (v : List Watch). w ∷ v) (beat_at q ws x (omega arith) e)

-- a beat of a node that isn't watched changes nothing
pub beat_past : (q : ℕ) (ws : List Watch) → length ws ≤ q → heard_beat q ws ≡ ws
beat_past q [] l = refl
beat_past zero (w ∷ ws) l = absurd (omega arith)
beat_past (suc q) (w ∷ ws) l = ap (λ (v : List Watch). w ∷ v) (beat_past q ws (omega arith))

-- the late nodes from number q on are the node q, where it is late, and those behind it
pub late_more : (q : ℕ) (ws : List Watch) (w : Watch) → q < length ws → length ws ≤ 7 → late_from 7 q (drop q ws) ≡ (if is_late (get_or ws q w) then 2 ^ q else 0) + late_from 7 (q + 1) (drop (q + 1) ws)
late_more q ws w l m =
    let n : (q == 7) ≡ false = ne_eqb q 7 (λ e. omega (arith, e)) in
    at_drop_more (late_from 7 q) ws q w l ∙ rw n (keeps (is_late (get_or ws q w)))
  where
    keeps : (b : Bool) → cond (b && true) (2 ^ q) 0 + late_from 7 (q + 1) (drop (q + 1) ws) ≡ cond b (2 ^ q) 0 + late_from 7 (q + 1) (drop (q + 1) ws)
    keeps true = refl
    keeps false = refl

-- a set of nodes below q lacks q
pub with_next : (s q : ℕ) → s < 2 ^ q → with_member s q ≡ s + 2 ^ q
with_next s q l = let zero_there : s / 2 ^ q ≡ 0 = div-eq_of_lt l in rw zero_there refl

-- the set of the late nodes below k, and those from k on
abbrev pub IsLateSoFar : ℕ → List Watch → ℕ → Type 0
IsLateSoFar k ws late = (late < 2 ^ k) × (late + late_from 7 k (drop k ws) ≡ late_from 7 0 ws)

double : (k : ℕ) → 2 ^ (k + 1) ≡ 2 ^ k + 2 ^ k
double k = grind (arith, common_steps)

-- node k is late
pub late_on : (ws : List Watch) (w : Watch) (k q late all : ℕ) → k < length ws → length ws ≤ 7 → w ≡ get_or ws k w → is_late w ≡ true → q ≡ k → all ≡ with_member late q → IsLateSoFar k ws late → IsLateSoFar (k + 1) ws all
late_on ws w k q late all l m g t n e h =
    let at : is_late (get_or ws k w) ≡ true = ap is_late (sym g) ∙ t in
    let more : late_from 7 k (drop k ws) ≡ 2 ^ k + late_from 7 (k + 1) (drop (k + 1) ws) = late_more k ws w l m ∙ ap (λ b. cond b (2 ^ k) 0 + late_from 7 (k + 1) (drop (k + 1) ws)) at in
    let put : all ≡ late + 2 ^ k = e ∙ ap (with_member late) n ∙ with_next late k h.0 in
    let d : 2 ^ (k + 1) ≡ 2 ^ k + 2 ^ k = double k in
    (omega (arith, h.0, put, d), omega (arith, h.1, put, more))

-- it is not
pub late_off : (ws : List Watch) (w : Watch) (k late all : ℕ) → k < length ws → length ws ≤ 7 → w ≡ get_or ws k w → is_late w ≡ false → all ≡ late → IsLateSoFar k ws late → IsLateSoFar (k + 1) ws all
late_off ws w k late all l m g t e h =
    let at : is_late (get_or ws k w) ≡ false = ap is_late (sym g) ∙ t in
    let more : late_from 7 k (drop k ws) ≡ 0 + late_from 7 (k + 1) (drop (k + 1) ws) = late_more k ws w l m ∙ ap (λ b. cond b (2 ^ k) 0 + late_from 7 (k + 1) (drop (k + 1) ws)) at in
    let d : 2 ^ (k + 1) ≡ 2 ^ k + 2 ^ k = double k in
    (omega (arith, h.0, d, e), omega (arith, h.1, more, e))

-- a tick changes the watches one after another
pub tick_more : (xs ys : List Watch) (i : ℕ) (x y : Watch) → i < length xs → ys ≡ map ticked (take i xs) ++ drop i xs → x ≡ get_or ys i x → y ≡ ticked x → set ys i y ≡ map ticked (take (i + 1) xs) ++ drop (i + 1) xs
tick_more xs ys i x y l e g t = rw t (map_over_more ticked xs ys i x l e g)

-- a tick and a beat leave the number of watches
pub ticked_length : (ws : List Watch) → length (all_ticked ws) ≡ length ws
ticked_length [] = refl
ticked_length (w ∷ ws) = ap suc (ticked_length ws)

pub beaten_length : (q : ℕ) (ws : List Watch) → length (heard_beat q ws) ≡ length ws
beaten_length q [] = refl
beaten_length zero (w ∷ ws) = refl
beaten_length (suc q) (w ∷ ws) = ap suc (beaten_length q ws)

-- seven fresh watches are as many as there are nodes, and fresh ones
abbrev pub fresh : List Watch
fresh = new_watch ∷ new_watch ∷ new_watch ∷ new_watch ∷ new_watch ∷ new_watch ∷ new_watch ∷ []

pub fresh_padded : (n : ℕ) → n ≤ 7 → IsPadded n fresh
fresh_padded zero l = record { few = l; whole = refl; fresh = refl }
fresh_padded (suc zero) l = record { few = l; whole = refl; fresh = refl }
fresh_padded (suc (suc zero)) l = record { few = l; whole = refl; fresh = refl }
fresh_padded (suc (suc (suc zero))) l = record { few = l; whole = refl; fresh = refl }
fresh_padded (suc (suc (suc (suc zero)))) l = record { few = l; whole = refl; fresh = refl }
fresh_padded (suc (suc (suc (suc (suc zero))))) l = record { few = l; whole = refl; fresh = refl }
fresh_padded (suc (suc (suc (suc (suc (suc zero)))))) l = record { few = l; whole = refl; fresh = refl }
fresh_padded (suc (suc (suc (suc (suc (suc (suc zero))))))) l = record { few = l; whole = refl; fresh = refl }
fresh_padded (suc (suc (suc (suc (suc (suc (suc (suc n)))))))) l = absurd (omega arith)

pub fresh_front : (n : ℕ) → n ≤ 7 → take n fresh ≡ replicate n new_watch
fresh_front zero l = refl
fresh_front (suc zero) l = refl
fresh_front (suc (suc zero)) l = refl
fresh_front (suc (suc (suc zero))) l = refl
fresh_front (suc (suc (suc (suc zero)))) l = refl
fresh_front (suc (suc (suc (suc (suc zero))))) l = refl
fresh_front (suc (suc (suc (suc (suc (suc zero)))))) l = refl
fresh_front (suc (suc (suc (suc (suc (suc (suc zero))))))) l = refl
fresh_front (suc (suc (suc (suc (suc (suc (suc (suc n)))))))) l = absurd (omega arith)
