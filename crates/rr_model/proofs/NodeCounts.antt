-- Votes and acknowledgements of all members of a majority are enough.
use Rattle.std.proofs.Common.{◌≡◌, ℕ, ◌+◌, ◌≤◌, ◌<◌, ◌^◌, inl, inr, suc, Bool, true, false, ◌==◌, nat_lt, nat_le, filter, if◌then◌else◌, List, [], ◌∷◌, length, Option, None, Some, option_map, refl, ap, sym, ◌∙◌, subst, arith, eqb-true, eq-eqb}
use Rattle.std.specs.List.{range_with_len}
use Rattle.std.proofs.lemmas.Bool.{false≢true, le-leb, eqb-false, cases_order}
use Rattle.std.proofs.lemmas.Option.{none-some, same_Some}
use Rattle.rr_types.specs.declared.command.Command.{Command}
use Rattle.rr_types.specs.Rounds.{majority_of}
use Rattle.rr_types.specs.Nodes.{has_member, with_member}
use Rattle.rr_model.specs.Lawful.{count_below}
use Rattle.rr_model.specs.NodeState.{Vote, Tally}
use Rattle.rr_model.specs.NodeDue.{better, best_vote, pick}
use Rattle.rr_model.specs.NodeStep.{with_vote}
use Rattle.rr_model.proofs.Listed.{counts_no_fewer}
use Rattle.rr_model.proofs.NodeBits.{bit_beside, bit_own}
use Rattle.rr_model.proofs.NodeTallies.{is_sender, count_range}
use Rattle.rr_model.proofs.NodeMoves.{if_true}
use Rattle.rr_model.proofs.NodeAnswers.{is_enough}
use Rattle.rr_model.proofs.PrefixHolds.{one_more, none_counted}

count_votes : (vs : List Vote) (n : ℕ) → count_below (is_sender vs) n ≤ length vs
count_votes [] n = none_counted n
count_votes (v ∷ vs) n =
    let a : count_below (λ q. if v.sender == q then true else is_sender vs q) n ≤ suc (count_below (is_sender vs) n) = one_more (is_sender vs) v.sender n in
    let b : count_below (is_sender vs) n ≤ length vs = count_votes vs n in
    omega arith

kept_if : (x : Bool) (a b : Bool) → (a ≡ true → b ≡ true) → (if x then true else a) ≡ true → (if x then true else b) ≡ true
kept_if true a b f e = refl
kept_if false a b f e = f e

pub or_there : (x a : Bool) → a ≡ true → (if x then true else a) ≡ true
or_there true a e = refl
or_there false a e = e

-- who voted stays a sender
pub still_sender : (v : Vote) (vs : List Vote) (q : ℕ) → is_sender vs q ≡ true → is_sender (with_vote v vs) q ≡ true
still_sender v [] q e = absurd (false≢true e)
still_sender v (w ∷ ws) q e = by (nat_lt v.sender w.sender) (v.sender == w.sender) (still_sender v ws q)
  where
    by : (a b : Bool) → (is_sender ws q ≡ true → is_sender (with_vote v ws) q ≡ true) → is_sender (if a then v ∷ w ∷ ws else (if b then w ∷ ws else w ∷ with_vote v ws)) q ≡ true
    by true b ih = or_there (v.sender == q) (is_sender (w ∷ ws) q) e
    by false true ih = e
    by false false ih = kept_if (w.sender == q) (is_sender ws q) (is_sender (with_vote v ws) q) ih e

-- who votes is a sender
pub new_sender : (v : Vote) (vs : List Vote) → is_sender (with_vote v vs) v.sender ≡ true
new_sender v [] = if_true (v.sender == v.sender) true false (eq-eqb v.sender v.sender refl)
new_sender v (w ∷ ws) = by (nat_lt v.sender w.sender) (v.sender == w.sender) refl (new_sender v ws)
  where
    by : (a b : Bool) → (v.sender == w.sender) ≡ b → is_sender (with_vote v ws) v.sender ≡ true → is_sender (if a then v ∷ w ∷ ws else (if b then w ∷ ws else w ∷ with_vote v ws)) v.sender ≡ true
    by true b x ih = if_true (v.sender == v.sender) true (is_sender (w ∷ ws) v.sender) (eq-eqb v.sender v.sender refl)
    by false true x ih = if_true (w.sender == v.sender) true (is_sender ws v.sender) (eq-eqb w.sender v.sender (sym (eqb-true v.sender w.sender x)))
    by false false x ih = or_there (w.sender == v.sender) (is_sender (with_vote v ws) v.sender) ih

-- the votes of all members are a majority's
pub votes_suffice : (n : ℕ) (set : ℕ → Bool) (vs : List Vote) → majority_of n ≤ count_below set n → ((q : ℕ) → q < n → set q ≡ true → is_sender vs q ≡ true) → majority_of n ≤ length vs
votes_suffice n set vs l each =
    let a : count_below set n ≤ count_below (is_sender vs) n = counts_no_fewer set (is_sender vs) n each in
    let b : count_below (is_sender vs) n ≤ length vs = count_votes vs n in
    omega arith

-- each vote is for such a command
abbrev pub AllVotes : (Command → Type 0) → List Vote → Type 0
AllVotes Ok [] = Unit {0}
AllVotes Ok (v ∷ vs) = Ok v.command × AllVotes Ok vs

pub votes_stay : (Ok : Command → Type 0) (v : Vote) (vs : List Vote) → Ok v.command → AllVotes Ok vs → AllVotes Ok (with_vote v vs)
votes_stay Ok v [] x a = (x, tt)
votes_stay Ok v (w ∷ ws) x a = by (nat_lt v.sender w.sender) (v.sender == w.sender) (votes_stay Ok v ws x a.1)
  where
    by : (b c : Bool) → AllVotes Ok (with_vote v ws) → AllVotes Ok (if b then v ∷ w ∷ ws else (if c then w ∷ ws else w ∷ with_vote v ws))
    by true c r = (x, a)
    by false true r = a
    by false false r = (a.0, r)

better_ok : (Ok : Command → Type 0) (v : Vote) (o : Option Vote) → Ok v.command → ((w : Vote) → o ≡ Some w → Ok w.command) → Ok (better v o).command
better_ok Ok v None x f = x
better_ok Ok v (Some w) x f = by (nat_lt v.stamp w.stamp)
  where
    by : (b : Bool) → Ok (if b then w else v).command
    by true = f w refl
    by false = x

pub best_ok : (Ok : Command → Type 0) (vs : List Vote) → AllVotes Ok vs → (b : Vote) → best_vote vs ≡ Some b → Ok b.command
best_ok Ok [] a b e = absurd (none-some b e)
best_ok Ok (v ∷ vs) a b e = subst (λ (z : Vote). Ok z.command) (same_Some _ b e) (better_ok Ok v (best_vote vs) a.0 (best_ok Ok vs a.1))

-- what is picked is such a command, if the best vote is for one
pub pick_ok : (Ok : Command → Type 0) (n : ℕ) (t : Tally) (v : Command) → ((b : Vote) → best_vote t.estimates ≡ Some b → Ok b.command) → pick n t ≡ Some v → Ok v
pick_ok Ok n t v right e = by (nat_le (majority_of n) (length t.estimates)) (best_vote t.estimates) refl e
  where
    by : (b : Bool) (o : Option Vote) → best_vote t.estimates ≡ o → (if b then option_map (λ (z : Vote). z.command) o else None) ≡ Some v → Ok v
    by true None x y = absurd (none-some v y)
    by true (Some w) x y = subst Ok (same_Some _ v y) (right w x)
    by false o x y = absurd (none-some v y)

-- where there is a majority of votes, there is something to pick
pub something_picked : (n : ℕ) (t : Tally) → majority_of n ≤ length t.estimates → pick n t ≡ None → ⊥
something_picked n t l e = by t.estimates refl
  where
    by : (vs : List Vote) → t.estimates ≡ vs → ⊥
    by [] x = let y : length t.estimates ≡ 0 = ap length x in omega arith
    by (v ∷ vs) x = let y : pick n t ≡ Some (better v (best_vote vs)).command = if_true _ _ _ (le-leb (majority_of n) (length t.estimates) l) ∙ ap (λ z. option_map (λ (w : Vote). w.command) (best_vote z)) x in none-some _ (sym e ∙ y)

-- a member stays one
pub still_member : (s q j : ℕ) → has_member s j ≡ true → has_member (with_member s q) j ≡ true
still_member s q j m = by (has_member s q) refl
  where
    by : (b : Bool) → has_member s q ≡ b → has_member (if b then s else s + 2 ^ q) j ≡ true
    by true e = m
    by false e = elim (cases_order j q) [
      | inl x ↦ absurd (false≢true (sym e ∙ ap (has_member s) (sym x) ∙ m))
      | inr o ↦ subst (λ z. (z == 1) ≡ true) (sym (bit_beside s q j (eqb-false _ _ e) o)) m
    ]

-- one that joins is one
pub new_member : (s q : ℕ) → has_member (with_member s q) q ≡ true
new_member s q = by (has_member s q) refl
  where
    by : (b : Bool) → has_member s q ≡ b → has_member (if b then s else s + 2 ^ q) q ≡ true
    by true e = e
    by false e = eq-eqb _ _ (bit_own s q (eqb-false _ _ e))

-- the acknowledgements of all members are enough
pub acks_suffice : (n : ℕ) (set : ℕ → Bool) (acks : ℕ) → majority_of n ≤ count_below set n → ((q : ℕ) → q < n → set q ≡ true → has_member acks q ≡ true) → is_enough n acks ≡ true
acks_suffice n set acks l each =
    let a : count_below set n ≤ count_below (has_member acks) n = counts_no_fewer set (has_member acks) n each in
    let c : 0 + length (filter (has_member acks) (range_with_len 0 n)) ≡ count_below (has_member acks) (0 + n) = count_range (has_member acks) 0 n in
    let z : count_below (has_member acks) (0 + n) ≡ count_below (has_member acks) n = (let e : 0 + n ≡ n = omega arith in ap (count_below (has_member acks)) e) in
    le-leb (majority_of n) (length (filter (λ q. has_member acks q) (range_with_len 0 n))) (omega arith)
