-- What a coordinator tallies was heard: its pick is of largest stamp among a majority, and its acknowledgements are said.
use Rattle.std.proofs.Common.{◌≡◌, ℕ, ◌+◌, ◌≤◌, ◌<◌, inl, inr, zero, suc, Bool, true, false, ◌==◌, nat_lt, nat_le, if◌then◌else◌, List, [], ◌∷◌, length, filter, Option, None, Some, option_map, refl, ap, sym, ◌∙◌, subst, arith, eqb-true, eq-eqb, ltb-true, le_refl}
use Rattle.std.specs.List.{range_with_len}
use Rattle.std.proofs.lemmas.Bool.{false≢true, eqb-false, ltb-false, leb-true, cases_order}
use Rattle.std.proofs.lemmas.Option.{none-some, same_Some}
use Rattle.rr_types.specs.declared.command.Command.{Command}
use Rattle.rr_types.specs.declared.message.Body.TheVariants.{Estimate, Ack}
use Rattle.rr_types.specs.declared.message.Message.{Message}
use Rattle.rr_types.specs.Rounds.{majority_of}
use Rattle.rr_types.specs.Nodes.{has_member}
use Rattle.rr_model.specs.Lawful.{Says, count_below, HasMajority, HasEstimate, IsOfLargestStamp}
use Rattle.rr_model.specs.NodeState.{Vote, Tally, no_votes}
use Rattle.rr_model.specs.NodeDue.{better, best_vote, pick}
use Rattle.rr_model.specs.NodeStep.{with_vote}

-- the votes were heard for round r of instance i, of nodes below n, ascending, the first at or above the bound
abbrev pub AreHeardVotes : ℕ → List Message → ℕ → ℕ → ℕ → List Vote → Type 0
AreHeardVotes n ms i r low [] = Unit {0}
AreHeardVotes n ms i r low (v ∷ vs) = (low ≤ v.sender) × (v.sender < n) × Says ms v.sender (Estimate i (record { round = r; stamp = v.stamp; command = v.command })) × AreHeardVotes n ms i r (suc v.sender) vs

-- what a tally holds was heard for round r of instance i
pub record IsHeardTally (n : ℕ) (ms : List Message) (i r : ℕ) (t : Tally) : Type 0 where
  pub votes : AreHeardVotes n ms i r 0 t.estimates
  pub acks : (q : ℕ) → has_member t.acks q ≡ true → Says ms q (Ack i r)

-- one vote more
pub votes_more : (n : ℕ) (ms : List Message) (i r low : ℕ) (v : Vote) (vs : List Vote) → low ≤ v.sender → v.sender < n → Says ms v.sender (Estimate i (record { round = r; stamp = v.stamp; command = v.command })) → AreHeardVotes n ms i r low vs → AreHeardVotes n ms i r low (with_vote v vs)
votes_more n ms i r low v [] l b s a = (l, b, s, tt)
votes_more n ms i r low v (w ∷ ws) l b s a = at (λ above. votes_more n ms i r (suc w.sender) v ws above b s a.3) (nat_lt v.sender w.sender) (v.sender == w.sender) refl refl
  where
    at : (w.sender < v.sender → AreHeardVotes n ms i r (suc w.sender) (with_vote v ws)) → (below same : Bool) → nat_lt v.sender w.sender ≡ below → (v.sender == w.sender) ≡ same → AreHeardVotes n ms i r low (if below then v ∷ w ∷ ws else (if same then w ∷ ws else w ∷ with_vote v ws))
    at ih true same x y = (l, b, s, (ltb-true v.sender w.sender x, a.1, a.2, a.3))
    at ih false true x y = a
    at ih false false x y =
        let above : w.sender < v.sender = (let z : w.sender ≤ v.sender = ltb-false v.sender w.sender x in elim (cases_order v.sender w.sender) [
          | inl e ↦ absurd (eqb-false v.sender w.sender y e)
          | inr o ↦ elim o [
            | inl u ↦ absurd (omega arith)
            | inr u ↦ u
          ]
        ]) in
        (a.0, a.1, a.2, ih above)

-- whether a node is among the senders
abbrev pub is_sender : List Vote → ℕ → Bool
is_sender [] q = false
is_sender (v ∷ vs) q = if v.sender == q then true else is_sender vs q

count_grows : (f g : ℕ → Bool) (n : ℕ) → ((q : ℕ) → f q ≡ true → g q ≡ true) → count_below f n ≤ count_below g n
count_grows f g zero w = le_refl 0
count_grows f g (suc n) w = at (f n) (g n) refl refl (count_grows f g n w)
  where
    at : (x y : Bool) → f n ≡ x → g n ≡ y → count_below f n ≤ count_below g n → (if x then suc (count_below f n) else count_below f n) ≤ (if y then suc (count_below g n) else count_below g n)
    at true true a b l = omega arith
    at true false a b l = absurd (false≢true (sym b ∙ w n a))
    at false true a b l = omega arith
    at false false a b l = l

-- a set with one node more below n counts one more
count_more : (f g : ℕ → Bool) (x n : ℕ) → x < n → f x ≡ false → g x ≡ true → ((q : ℕ) → f q ≡ true → g q ≡ true) → suc (count_below f n) ≤ count_below g n
count_more f g x zero l a b w = absurd (omega arith)
count_more f g x (suc n) l a b w = at (λ u. count_more f g x n u a b w) (f n) (g n) refl refl
  where
    at : (x < n → suc (count_below f n) ≤ count_below g n) → (y z : Bool) → f n ≡ y → g n ≡ z → suc (if y then suc (count_below f n) else count_below f n) ≤ (if z then suc (count_below g n) else count_below g n)
    at more true true c d = elim (cases_order x n) [
      | inl e ↦ absurd (false≢true (sym a ∙ ap f e ∙ c))
      | inr o ↦ elim o [
        | inl u ↦ let ih : suc (count_below f n) ≤ count_below g n = more u in omega arith
        | inr u ↦ absurd (omega arith)
      ]
    ]
    at more true false c d = absurd (false≢true (sym d ∙ w n c))
    at more false true c d = let ih : count_below f n ≤ count_below g n = count_grows f g n w in omega arith
    at more false false c d = elim (cases_order x n) [
      | inl e ↦ absurd (false≢true (sym d ∙ ap g (sym e) ∙ b))
      | inr o ↦ elim o [
        | inl u ↦ more u
        | inr u ↦ absurd (omega arith)
      ]
    ]

no_sender_below : (n : ℕ) (ms : List Message) (i r low : ℕ) (vs : List Vote) → AreHeardVotes n ms i r low vs → (q : ℕ) → q < low → is_sender vs q ≡ false
no_sender_below n ms i r low [] a q l = refl
no_sender_below n ms i r low (v ∷ vs) a q l = at (no_sender_below n ms i r (suc v.sender) vs a.3 q) (v.sender == q) refl
  where
    at : (q < suc v.sender → is_sender vs q ≡ false) → (t : Bool) → (v.sender == q) ≡ t → (if t then true else is_sender vs q) ≡ false
    at ih true e = let x : v.sender ≡ q = eqb-true v.sender q e in let y : low ≤ v.sender = a.0 in absurd (omega arith)
    at ih false e = let y : low ≤ v.sender = a.0 in ih (omega arith)

sender_here : (v : Vote) (vs : List Vote) → is_sender (v ∷ vs) v.sender ≡ true
sender_here v vs = ap (λ t. if t then true else is_sender vs v.sender) (eq-eqb v.sender v.sender refl)

sender_there : (v : Vote) (vs : List Vote) (q : ℕ) → is_sender vs q ≡ true → is_sender (v ∷ vs) q ≡ true
sender_there v vs q e = at (v.sender == q)
  where
    at : (t : Bool) → (if t then true else is_sender vs q) ≡ true
    at true = refl
    at false = e

-- there are as many senders as votes
count_senders : (n : ℕ) (ms : List Message) (i r low : ℕ) (vs : List Vote) → AreHeardVotes n ms i r low vs → length vs ≤ count_below (is_sender vs) n
count_senders n ms i r low [] a = omega arith
count_senders n ms i r low (v ∷ vs) a =
    let ih : length vs ≤ count_below (is_sender vs) n = count_senders n ms i r (suc v.sender) vs a.3 in
    let one : suc (count_below (is_sender vs) n) ≤ count_below (is_sender (v ∷ vs)) n = count_more (is_sender vs) (is_sender (v ∷ vs)) v.sender n a.1 (no_sender_below n ms i r (suc v.sender) vs a.3 v.sender (le_refl (suc v.sender))) (sender_here v vs) (sender_there v vs) in
    omega arith

-- the vote is one of these, and none of these has a larger stamp
record IsBest (n : ℕ) (ms : List Message) (i r : ℕ) (vs : List Vote) (b : Vote) : Type 0 where
  exists : b.sender < n
  said : Says ms b.sender (Estimate i (record { round = r; stamp = b.stamp; command = b.command }))
  member : is_sender vs b.sender ≡ true
  each : (q : ℕ) → is_sender vs q ≡ true → HasEstimate ms i r b.stamp q

one_of : (n : ℕ) (ms : List Message) (i r low : ℕ) (v : Vote) (vs : List Vote) (t : ℕ) → AreHeardVotes n ms i r low (v ∷ vs) → v.stamp ≤ t → ((q : ℕ) → is_sender vs q ≡ true → HasEstimate ms i r t q) → (q : ℕ) → is_sender (v ∷ vs) q ≡ true → HasEstimate ms i r t q
one_of n ms i r low v vs t a l rest q = at (v.sender == q) refl
  where
    at : (x : Bool) → (v.sender == q) ≡ x → (if x then true else is_sender vs q) ≡ true → HasEstimate ms i r t q
    at true e m = record { stamp = v.stamp; command = v.command; said = subst (λ z. Says ms z (Estimate i (record { round = r; stamp = v.stamp; command = v.command }))) (eqb-true v.sender q e) a.2; older = l }
    at false e m = rest q m

weaker : (ms : List Message) (i r t u q : ℕ) → t ≤ u → HasEstimate ms i r t q → HasEstimate ms i r u q
weaker ms i r t u q l e = record { stamp = e.stamp; command = e.command; said = e.said; older = let z : e.stamp ≤ t = e.older in omega arith }

best_of : (n : ℕ) (ms : List Message) (i r low : ℕ) (vs : List Vote) (b : Vote) → AreHeardVotes n ms i r low vs → best_vote vs ≡ Some b → IsBest n ms i r vs b
best_of n ms i r low [] b a e = absurd (none-some b e)
best_of n ms i r low (v ∷ []) b a e = subst (IsBest n ms i r (v ∷ [])) (same_Some v b e) (record {
  exists = a.1;
  said = a.2;
  member = sender_here v [];
  each = one_of n ms i r low v [] v.stamp a (le_refl v.stamp) (λ q m. absurd (false≢true m));
})
best_of n ms i r low (v ∷ w ∷ ws) b a e = at (best_of n ms i r (suc v.sender) (w ∷ ws) (better w (best_vote ws)) a.3 refl) (nat_lt v.stamp (better w (best_vote ws)).stamp) refl (same_Some _ b e)
  where
    at : IsBest n ms i r (w ∷ ws) (better w (best_vote ws)) → (t : Bool) → nat_lt v.stamp (better w (best_vote ws)).stamp ≡ t → (if t then better w (best_vote ws) else v) ≡ b → IsBest n ms i r (v ∷ w ∷ ws) b
    at rest true l x = subst (IsBest n ms i r (v ∷ w ∷ ws)) x (record {
      exists = rest.exists;
      said = rest.said;
      member = sender_there v (w ∷ ws) (better w (best_vote ws)).sender rest.member;
      each = one_of n ms i r low v (w ∷ ws) (better w (best_vote ws)).stamp a (let z : v.stamp < (better w (best_vote ws)).stamp = ltb-true _ _ l in omega arith) rest.each;
    })
    at rest false l x = subst (IsBest n ms i r (v ∷ w ∷ ws)) x (record {
      exists = a.1;
      said = a.2;
      member = sender_here v (w ∷ ws);
      each = one_of n ms i r low v (w ∷ ws) v.stamp a (le_refl v.stamp) (λ q m. weaker ms i r (better w (best_vote ws)).stamp v.stamp q (ltb-false _ _ l) (rest.each q m));
    })

picked : (n : ℕ) (ms : List Message) (i r : ℕ) (vs : List Vote) (v : Command) (o : Option Vote) → best_vote vs ≡ o → option_map (λ (z : Vote). z.command) o ≡ Some v → AreHeardVotes n ms i r 0 vs → majority_of n ≤ length vs → IsOfLargestStamp n i r ms v
picked n ms i r vs v None e x a l = absurd (none-some v x)
picked n ms i r vs v (Some b) e x a l =
    let best : IsBest n ms i r vs b = best_of n ms i r 0 vs b a e in
    let many : length vs ≤ count_below (is_sender vs) n = count_senders n ms i r 0 vs a in
    record {
      stamp = b.stamp;
      sender = b.sender;
      said = subst (λ z. Says ms b.sender (Estimate i (record { round = r; stamp = b.stamp; command = z }))) (same_Some b.command v x) best.said;
      majority = record { members = is_sender vs; enough = omega arith; each = λ q z m. best.each q m };
      exists = best.exists;
      member = best.member;
    }

-- what is picked is of largest stamp among estimates of a majority
pub pick_largest : (n : ℕ) (ms : List Message) (i r : ℕ) (t : Tally) (v : Command) → IsHeardTally n ms i r t → pick n t ≡ Some v → IsOfLargestStamp n i r ms v
pick_largest n ms i r t v H e = at (nat_le (majority_of n) (length t.estimates)) refl e
  where
    at : (x : Bool) → nat_le (majority_of n) (length t.estimates) ≡ x → (if x then option_map (λ (z : Vote). z.command) (best_vote t.estimates) else None) ≡ Some v → IsOfLargestStamp n i r ms v
    at true l y = picked n ms i r t.estimates v (best_vote t.estimates) refl y H.votes (leb-true _ _ l)
    at false l y = absurd (none-some v y)

pub count_range : (f : ℕ → Bool) (a k : ℕ) → count_below f a + length (filter f (range_with_len a k)) ≡ count_below f (a + k)
count_range f a zero = ap (λ z. z) (let e : a + 0 ≡ a = omega arith in (omega arith) ∙ ap (count_below f) (sym e))
count_range f a (suc k) =
    let ih : count_below f (a + 1) + length (filter f (range_with_len (a + 1) k)) ≡ count_below f ((a + 1) + k) = count_range f (a + 1) k in
    let e : (a + 1) + k ≡ a + suc k = omega arith in
    let s : a + 1 ≡ suc a = omega arith in
    let ih2 : count_below f (suc a) + length (filter f (range_with_len (a + 1) k)) ≡ count_below f (a + suc k) = ap (λ z. count_below f z + length (filter f (range_with_len (a + 1) k))) (sym s) ∙ ih ∙ ap (count_below f) e in
    at (f a) refl ih2
  where
    at : (t : Bool) → f a ≡ t → count_below f (suc a) + length (filter f (range_with_len (a + 1) k)) ≡ count_below f (a + suc k) → count_below f a + length (if t then a ∷ filter f (range_with_len (a + 1) k) else filter f (range_with_len (a + 1) k)) ≡ count_below f (a + suc k)
    at true x z = let y : count_below f (suc a) ≡ suc (count_below f a) = ap (λ t. if t then suc (count_below f a) else count_below f a) x in omega arith
    at false x z = let y : count_below f (suc a) ≡ count_below f a = ap (λ t. if t then suc (count_below f a) else count_below f a) x in omega arith

-- the acknowledgements of a tally are of a majority where its set has one
pub acks_majority : (n : ℕ) (ms : List Message) (i r : ℕ) (t : Tally) → IsHeardTally n ms i r t → majority_of n ≤ length (filter (has_member t.acks) (range_with_len 0 n)) → HasMajority n (λ q. Says ms q (Ack i r))
acks_majority n ms i r t H l =
    let c : 0 + length (filter (has_member t.acks) (range_with_len 0 n)) ≡ count_below (has_member t.acks) (0 + n) = count_range (has_member t.acks) 0 n in
    let z : count_below (has_member t.acks) (0 + n) ≡ count_below (has_member t.acks) n = (let e : 0 + n ≡ n = omega arith in ap (count_below (has_member t.acks)) e) in
    record { members = has_member t.acks; enough = omega arith; each = λ q b m. H.acks q m }

-- nothing heard yet
pub nothing_tallied : (n : ℕ) (ms : List Message) (i r : ℕ) → ((q : ℕ) → has_member 0 q ≡ true → ⊥) → IsHeardTally n ms i r no_votes
nothing_tallied n ms i r none = record { votes = tt; acks = λ q m. absurd (none q m) }
