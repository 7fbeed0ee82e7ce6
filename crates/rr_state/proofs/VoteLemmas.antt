-- A tally keeps of each sender the first vote.
use Rattle.std.proofs.Common.{◌≡◌, ◌≢◌, ◌+◌, ◌<◌, ◌≤◌, ℕ, arith, Bool, true, false, ◌==◌, cond, eqb-true, List, [], ◌∷◌, ap, sym, ◌∙◌, refl, Option, Some, None}
use Rattle.std.specs.Prelude.{nat_lt}
use Rattle.std.specs.Option.{option_map_or}
use Rattle.std.proofs.lemmas.Bool.{ltb-true, ltb-false, ne_eqb, eqb-false}
use Rattle.rr_model.specs.NodeState.{Vote}
use Rattle.rr_model.specs.NodeStep.{with_vote}
use Rattle.rr_state.specs.Votes.{kept_after, first_of, AscendsFrom, KeepsFirsts}

-- the one, or where there is none the other
abbrev pub or_else : Option Vote → Option Vote → Option Vote
or_else a b = option_map_or Some a b

-- below the first sender nobody has voted
none_below : (p q : ℕ) (vs : List Vote) → q < p → AscendsFrom p vs → first_of q vs ≡ None
none_below p q [] l a = refl
none_below p q (v ∷ vs) l a =
    let n : (v.sender == q) ≡ false = ne_eqb _ _ (λ e. omega (arith, e, a.0, l)) in
    rw n (none_below (v.sender + 1) q vs (omega (arith, a.0, l)) a.1)

-- one vote more
put_first : (p q : ℕ) (v : Vote) (ws : List Vote) → AscendsFrom p ws → first_of q (with_vote v ws) ≡ or_else (first_of q ws) (first_of q (v ∷ []))
put_first p q v [] a = refl
put_first p q v (w ∷ ws) a = at (nat_lt v.sender w.sender) refl (v.sender == w.sender) refl (put_first (w.sender + 1) q v ws a.1)
  where
    before : v.sender < w.sender → (b : Bool) → (v.sender == q) ≡ b → cond b (Some v) (first_of q (w ∷ ws)) ≡ or_else (first_of q (w ∷ ws)) (cond b (Some v) None)
    before l true e =
        let s : v.sender ≡ q = eqb-true _ _ e in
        let n : first_of q (w ∷ ws) ≡ None = none_below w.sender q (w ∷ ws) (omega (arith, l, s)) (omega arith, a.1) in
        sym (ap (λ o. or_else o (Some v)) n)
    before l false e = keeps (first_of q (w ∷ ws))
      where
        keeps : (o : Option Vote) → o ≡ or_else o None
        keeps None = refl
        keeps (Some x) = refl

    same : v.sender ≡ w.sender → (b c : Bool) → (w.sender == q) ≡ b → (v.sender == q) ≡ c → cond b (Some w) (first_of q ws) ≡ or_else (cond b (Some w) (first_of q ws)) (cond c (Some v) None)
    same s true c e f = refl
    same s false false e f = keeps (first_of q ws)
      where
        keeps : (o : Option Vote) → o ≡ or_else o None
        keeps None = refl
        keeps (Some x) = refl
    same s false true e f = absurd (eqb-false _ _ e (sym s ∙ eqb-true _ _ f))

    behind : (b : Bool) → (w.sender == q) ≡ b → first_of q (with_vote v ws) ≡ or_else (first_of q ws) (first_of q (v ∷ [])) → cond b (Some w) (first_of q (with_vote v ws)) ≡ or_else (cond b (Some w) (first_of q ws)) (first_of q (v ∷ []))
    behind true e h = refl
    behind false e h = h

    at : (l : Bool) → nat_lt v.sender w.sender ≡ l → (e : Bool) → (v.sender == w.sender) ≡ e → first_of q (with_vote v ws) ≡ or_else (first_of q ws) (first_of q (v ∷ []))
        → first_of q (cond l (v ∷ w ∷ ws) (cond e (w ∷ ws) (w ∷ with_vote v ws))) ≡ or_else (first_of q (w ∷ ws)) (first_of q (v ∷ []))
    at true l e f h = before (ltb-true _ _ l) (v.sender == q) refl
    at false l true f h = same (eqb-true _ _ f) (w.sender == q) (v.sender == q) refl refl
    at false l false f h = behind (w.sender == q) refl h

put_ascends : (p : ℕ) (v : Vote) (ws : List Vote) → p ≤ v.sender → AscendsFrom p ws → AscendsFrom p (with_vote v ws)
put_ascends p v [] l a = (l, tt)
put_ascends p v (w ∷ ws) l a = at (nat_lt v.sender w.sender) refl (v.sender == w.sender) refl (λ m. put_ascends (w.sender + 1) v ws m a.1)
  where
    at : (b : Bool) → nat_lt v.sender w.sender ≡ b → (e : Bool) → (v.sender == w.sender) ≡ e → (w.sender + 1 ≤ v.sender → AscendsFrom (w.sender + 1) (with_vote v ws)) → AscendsFrom p (cond b (v ∷ w ∷ ws) (cond e (w ∷ ws) (w ∷ with_vote v ws)))
    at true b e f h = (l, (let m : v.sender < w.sender = ltb-true _ _ b in omega arith, a.1))
    at false b true f h = a
    at false b false f h = (a.0, h (let m : w.sender ≤ v.sender = ltb-false _ _ b in let n : v.sender ≢ w.sender = eqb-false _ _ f in omega (arith, m, n)))

kept_ascends : (ws vs : List Vote) → AscendsFrom 0 ws → AscendsFrom 0 (kept_after ws vs)
kept_ascends ws [] a = a
kept_ascends ws (v ∷ vs) a = kept_ascends (with_vote v ws) vs (put_ascends 0 v ws (omega arith) a)

or_else_assoc : (a b c : Option Vote) → or_else (or_else a b) c ≡ or_else a (or_else b c)
or_else_assoc None b c = refl
or_else_assoc (Some x) b c = refl

split : (q : ℕ) (v : Vote) (vs : List Vote) → or_else (first_of q (v ∷ [])) (first_of q vs) ≡ first_of q (v ∷ vs)
split q v vs = at (v.sender == q)
  where
    at : (b : Bool) → or_else (cond b (Some v) None) (first_of q vs) ≡ cond b (Some v) (first_of q vs)
    at true = refl
    at false = refl

kept_firsts : (q : ℕ) (ws vs : List Vote) → AscendsFrom 0 ws → first_of q (kept_after ws vs) ≡ or_else (first_of q ws) (first_of q vs)
kept_firsts q ws [] a = keeps (first_of q ws)
  where
    keeps : (o : Option Vote) → o ≡ or_else o None
    keeps None = refl
    keeps (Some x) = refl
kept_firsts q ws (v ∷ vs) a =
    kept_firsts q (with_vote v ws) vs (put_ascends 0 v ws (omega arith) a)
    ∙ ap (λ o. or_else o (first_of q vs)) (put_first 0 q v ws a)
    ∙ or_else_assoc (first_of q ws) (first_of q (v ∷ [])) (first_of q vs)
    ∙ ap (or_else (first_of q ws)) (split q v vs)

pub keeps_firsts : (vs : List Vote) → KeepsFirsts vs
keeps_firsts vs = record { firsts = λ q. kept_firsts q [] vs tt; distinct = kept_ascends [] vs tt }
