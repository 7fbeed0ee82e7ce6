-- A watch suspects its node exactly by the rule of time-outs, over all ticks and beats.
use Rattle.std.proofs.Common.{◌≡◌, ◌≢◌, ◌+◌, ◌<◌, ◌≤◌, ℕ, zero, suc, arith, Bool, true, false, ◌&&◌, ◌==◌, nat_lt, List, [], ◌∷◌, length, ap, ◌∙◌, refl, if◌then◌else◌}
use Rattle.std.specs.Prelude.{replicate, Option, None, Some, option_map}
use Rattle.std.specs.Option.{option_map_or}
use Rattle.std.proofs.lemmas.Bool.{ne_eqb, eqb-true, eqb-false}
use Rattle.rr_types.specs.Nodes.{has_member}
use Rattle.rr_model.specs.NodeState.{Watch}
use Rattle.rr_model.specs.NodeDetector.{new_watch, counted, is_late, ticked, beaten, all_ticked, heard_beat}
use Rattle.rr_state.specs.Rule.{Event, Stretches, cut, ticks_of, raised, time_out_after, last_stretch, watches_after, FollowsTheRule}
use Rattle.rr_state.specs.Rule.Event.{Ticked, Beaten}
use Rattle.std.proofs.lemmas.Option.{none-some}
use Rattle.rr_state.proofs.WatchLemmas.{ticked_length, beaten_length}
use Rattle.rr_state.proofs.BitLemmas.{late_is, member_late, late_there}

-- one watch after ticks and beats of node q
abbrev pub watch_after : ℕ → Watch → List Event → Watch
watch_after q w [] = w
watch_after q w (Ticked ∷ es) = watch_after q (ticked w) es
watch_after q w (Beaten p ∷ es) = watch_after q (if p == q then beaten w else w) es

-- a watch in its kth tick since the last beat, with time-out t
abbrev pub in_tick : ℕ → ℕ → Watch
in_tick k t = record { ticks = ticks_of k; time_out = t }

-- the watch at the end of a stretch and of those behind it, when the first one had k ticks before
abbrev pub at_end : ℕ → ℕ → Stretches → Watch
at_end k t s = in_tick (last_stretch (k + s.first) s.later) (time_out_after t (k + s.first) s.later)

one_more : (k : ℕ) → counted (ticks_of k) ≡ ticks_of (k + 1)
one_more k = omega arith

pub watch_is : (q k t : ℕ) (es : List Event) → watch_after q (in_tick k t) es ≡ at_end k t (cut q es)
watch_is q k t [] = let e : k ≡ k + 0 = omega arith in ap (λ n. in_tick n t) e
watch_is q k t (Ticked ∷ es) =
    let e : k + 1 + (cut q es).first ≡ k + ((cut q es).first + 1) = omega arith in
    ap (λ n. watch_after q (record { ticks = n; time_out = t }) es) (one_more k) ∙ watch_is q (k + 1) t es
    ∙ ap (λ n. in_tick (last_stretch n (cut q es).later) (time_out_after t n (cut q es).later)) e
watch_is q k t (Beaten p ∷ es) = at (p == q) (watch_is q 0 (raised t k) es) (watch_is q k t es)
  where
    at : (b : Bool) → watch_after q (in_tick 0 (raised t k)) es ≡ at_end 0 (raised t k) (cut q es) → watch_after q (in_tick k t) es ≡ at_end k t (cut q es)
        → watch_after q (if b then beaten (in_tick k t) else in_tick k t) es ≡ at_end k t (if b then record { first = 0; later = (cut q es).first ∷ (cut q es).later } else cut q es)
    at true h g =
        let z : 0 + (cut q es).first ≡ (cut q es).first = omega arith in
        let n : k ≡ k + 0 = omega arith in
        h
        ∙ ap (λ m. in_tick (last_stretch m (cut q es).later) (time_out_after (raised t k) m (cut q es).later)) z
        ∙ ap (λ m. in_tick (last_stretch (cut q es).first (cut q es).later) (time_out_after (raised t m) (cut q es).first (cut q es).later)) n
    at false h g = g

-- the watch of node q
abbrev pub watch_of : List Watch → ℕ → Option Watch
watch_of [] q = None
watch_of (w ∷ ws) zero = Some w
watch_of (w ∷ ws) (suc q) = watch_of ws q

ticked_of : (ws : List Watch) (q : ℕ) → watch_of (all_ticked ws) q ≡ option_map ticked (watch_of ws q)
ticked_of [] q = refl
ticked_of (w ∷ ws) zero = refl
ticked_of (w ∷ ws) (suc q) = ticked_of ws q

beaten_of : (q : ℕ) (ws : List Watch) → watch_of (heard_beat q ws) q ≡ option_map beaten (watch_of ws q)
beaten_of q [] = refl
beaten_of zero (w ∷ ws) = refl
beaten_of (suc q) (w ∷ ws) = beaten_of q ws

beaten_beside : (p q : ℕ) (ws : List Watch) → p ≢ q → watch_of (heard_beat p ws) q ≡ watch_of ws q
beaten_beside p q [] n = refl
beaten_beside zero zero (w ∷ ws) n = absurd (n refl)
beaten_beside zero (suc q) (w ∷ ws) n = refl
beaten_beside (suc p) zero (w ∷ ws) n = refl
beaten_beside (suc p) (suc q) (w ∷ ws) n = beaten_beside p q ws (λ e. n (ap suc e))

-- each watch goes its own way
goes : (q : ℕ) (ws : List Watch) (w : Watch) (es : List Event) → watch_of ws q ≡ Some w → watch_of (watches_after ws es) q ≡ Some (watch_after q w es)
goes q ws w [] h = h
goes q ws w (Ticked ∷ es) h = goes q (all_ticked ws) (ticked w) es (ticked_of ws q ∙ ap (option_map ticked) h)
goes q ws w (Beaten p ∷ es) h = goes q (heard_beat p ws) (if p == q then beaten w else w) es (at (p == q) refl)
  where
    at : (b : Bool) → (p == q) ≡ b → watch_of (heard_beat p ws) q ≡ Some (if b then beaten w else w)
    at true e = ap (λ x. watch_of (heard_beat x ws) q) (eqb-true _ _ e) ∙ beaten_of q ws ∙ ap (option_map beaten) h
    at false e = beaten_beside p q ws (eqb-false _ _ e) ∙ h

keeps_length : (ws : List Watch) (es : List Event) → length (watches_after ws es) ≡ length ws
keeps_length ws [] = refl
keeps_length ws (Ticked ∷ es) = keeps_length (all_ticked ws) es ∙ ticked_length ws
keeps_length ws (Beaten p ∷ es) = keeps_length (heard_beat p ws) es ∙ beaten_length p ws

fresh_watch : (n q : ℕ) → q < n → watch_of (replicate n new_watch) q ≡ Some new_watch
fresh_watch zero q l = absurd (omega arith)
fresh_watch (suc n) zero l = refl
fresh_watch (suc n) (suc q) l = fresh_watch n q (omega arith)

fresh_length : (n : ℕ) → length (replicate n new_watch) ≡ n
fresh_length zero = refl
fresh_length (suc n) = ap suc (fresh_length n)

-- no node has the number 7
late_of : (k : ℕ) (ws : List Watch) (q : ℕ) (w : Watch) → k + length ws ≤ 7 → watch_of ws q ≡ Some w → late_there 7 k ws q ≡ is_late w
late_of k [] q w l h = absurd (none-some w h)
late_of k (v ∷ ws) zero w l h =
    let n : (k == 7) ≡ false = ne_eqb k 7 (λ e. omega (arith, e)) in
    rw n (keeps (is_late v)) ∙ ap (λ (o : Option Watch). option_map_or is_late o false) h
  where
    keeps : (b : Bool) → (b && true) ≡ b
    keeps true = refl
    keeps false = refl
late_of k (v ∷ ws) (suc q) w l h = late_of (k + 1) ws q w (omega arith) h

pub follows : (n q : ℕ) (es : List Event) → FollowsTheRule n q es
follows n q es l m =
    let all = watches_after (replicate n new_watch) es in
    let few : 0 + length all ≤ 7 = omega (arith, keeps_length (replicate n new_watch) es, fresh_length n) in
    let z : 0 + (cut q es).first ≡ (cut q es).first = omega arith in
    ap (λ s. has_member s q) (late_is 7 all) ∙ member_late 7 0 all q
    ∙ late_of 0 all q (watch_after q new_watch es) few (goes q (replicate n new_watch) new_watch es (fresh_watch n q l))
    ∙ ap is_late (watch_is q 0 4 es)
    ∙ ap (λ m. nat_lt (time_out_after 4 m (cut q es).later) (ticks_of (last_stretch m (cut q es).later))) z
